-- One line more: what is kept of a lane's receiving end goes on with it.
use Rattle.std.proofs.Common.{◌≡◌, ℕ, ◌+◌, ◌-◌, ◌<◌, ◌≤◌, Bool, true, false, List, [], ◌∷◌, ◌++◌, drop, length, Option, Some, None, refl, sym, ap, ◌∙◌, subst, arith, nat_lt, if◌then◌else◌}
use Rattle.std.proofs.lemmas.Bool.{ltb-true, ltb-false}
use Rattle.std.proofs.lemmas.Option.{same_Some, none-some}
use Rattle.un_frame.specs.declared.params.Lane.{Lane}
use Rattle.un_frame.specs.declared.params.Params.{Params}
use Rattle.un_frame.specs.Lanes.{rx_size}
use Rattle.un_journal.specs.declared.lines.Line.{Line}
use Rattle.un_journal.specs.declared.lines.Line.TheVariants.{Made, Posted, Flying, Landed, Failed, Retried, Cut, Opened, Gave, Recalled}
use Rattle.un_journal.specs.History.{History, made, span, flies, opened, serial_of, left_of, row_from, current, arrived, delivered, posts, recalls, flights, failures, retries, flight_cuts, more_if, first}
use Rattle.un_journal.specs.Lookup.{rx_back}
use Rattle.un_journal.specs.Sound.{IsSound, IsNextNumber, IsFirstArrived}
use Rattle.un_journal.proofs.ForLane.{left_here, delivered_more, current_none, current_stays}
use Rattle.un_check.specs.declared.reading.Reading.{Reading}
use Rattle.un_check.specs.Receiving.{Receiving, IsOf, IsLeft, ReadingIs, serial_in, nothing_received}
use Rattle.un_check.specs.ReceivingLines.{GoesOn, IsTold, after, gives, next_in}
use Rattle.un_check.proofs.ReceivingLists.{first_rest, row_some}
use Rattle.un_check.proofs.ReceivingSpans.{left_whole}
use Rattle.un_check.proofs.ReceivingLanded.{landed_arrived, landed_delivered, made_arrived, made_current, made_delivered, made_left}
use Rattle.un_check.proofs.ReceivingOpened.{opened_arrived, opened_current, opened_some}
use Rattle.un_check.proofs.ReceivingGave.{current_opened, left_owner}

-- no lines yet
pub begins : (params : Params) (lane : Lane) → IsOf params lane [] (nothing_received params lane)
begins params lane = record { posted_is = refl; home_is = omega arith; landed_is = refl; reading_is = refl; left_is = tt }

-- A TRANSFER IS MADE

made_reading : (l : Lane) (k a b : ℕ) (bytes : List ℕ) (g : History) → IsSound g → k ≡ made g → (o : Option Reading) → current g ≡ serial_in o
    → ReadingIs (IsLeft (left_of g)) o → ReadingIs (IsLeft (left_of ((Made l k a b, bytes) ∷ g))) o
made_reading l k a b bytes g sound last None e w = tt
made_reading l k a b bytes g sound last (Some r) e w =
    record { numbers = made_left l k a b bytes g sound last r.serial (current_opened g r.serial e).1 ∙ w.numbers; some = w.some }

made_kept : (params : Params) (lane l : Lane) (k a b : ℕ) (bytes : List ℕ) (g : History) (r : Receiving) → IsSound g → k ≡ made g
    → IsOf params lane g r → IsOf params lane ((Made l k a b, bytes) ∷ g) r
made_kept params lane l k a b bytes g r sound last w = record {
  posted_is = w.posted_is;
  home_is = w.home_is ∙ ap (λ n. rx_size params lane + recalls g + failures g + retries g + flight_cuts g + n) (sym (made_delivered l k a b bytes g sound last));
  landed_is = made_arrived l k a b bytes g sound last ∙ w.landed_is;
  reading_is = made_current l k a b bytes g sound last ∙ w.reading_is;
  left_is = made_reading l k a b bytes g sound last r.reading w.reading_is w.left_is;
}

-- A FLIGHT ENDS

landed_kept : (params : Params) (lane l : Lane) (k : ℕ) (bytes : List ℕ) (g : History) (r : Receiving) → IsSound g → flies g k ≡ true
    → IsOf params lane g r → IsOf params lane ((Landed l k, bytes) ∷ g) (record r { landed = r.landed ++ k ∷ [] })
landed_kept params lane l k bytes g r sound up w = record {
  posted_is = w.posted_is;
  home_is = w.home_is ∙ ap (λ n. rx_size params lane + recalls g + failures g + retries g + flight_cuts g + n) (sym (landed_delivered l k bytes g sound up));
  landed_is = landed_arrived l k bytes g sound up ∙ ap (λ ks. ks ++ k ∷ []) w.landed_is;
  reading_is = w.reading_is;
  left_is = w.left_is;
}

more_sum : (b : Bool) (h p x c d : ℕ) → h + p ≡ x + c + d → more_if b h + p ≡ x + more_if b c + d
more_sum true h p x c d e = omega arith
more_sum false h p x c d e = e

-- A TRANSFER IS OPENED

opened_kept : (params : Params) (lane l : Lane) (k : ℕ) (s : ℕ × ℕ) (bytes : List ℕ) (g : History) (r : Receiving) → IsSound g → IsFirstArrived g k → span g k ≡ Some s
    → (first r.landed ≡ Some k) × (r.reading ≡ None) → IsOf params lane g r
    → IsOf params lane ((Opened l k, bytes) ∷ g) (record r { landed = drop 1 r.landed; reading = Some (record { serial = k; next = s.0; to = s.1 }) })
opened_kept params lane l k s bytes g r sound here is goes w =
    let arr : arrived g ≡ k ∷ drop 1 r.landed = w.landed_is ∙ first_rest r.landed k goes.0 in
    let none : current g ≡ None = w.reading_is ∙ ap serial_in goes.1 in
    let some : s.0 < s.1 = opened_some l k bytes g sound here (drop 1 r.landed) arr s is in
    record {
      posted_is = w.posted_is;
      home_is = w.home_is;
      landed_is = opened_arrived l k bytes g sound here (drop 1 r.landed) arr;
      reading_is = opened_current l k bytes g sound here (drop 1 r.landed) arr s.0 s.1 is some none;
      left_is = record { numbers = left_whole g sound k s.0 s.1 here.is_unopened is; some = some };
    }

-- A DATAGRAM IS GIVEN

module _ (params : Params) (lane l : Lane) (bytes : List ℕ) (g : History) (r : Receiving) (o : Reading) (sound : IsSound g) (next : IsNextNumber g o.next) (w : IsOf params lane g r)
    (now : current g ≡ Some o.serial) (left : IsLeft (left_of g) o) where
  left_row : left_of g o.serial ≡ o.next ∷ row_from (o.next + 1) (o.to - (o.next + 1))
  left_row =
      let many : o.next < o.to = left.some in
      let fewer : o.to - o.next - 1 ≡ o.to - (o.next + 1) = omega arith in
      left.numbers ∙ (row_some o.next (o.to - o.next) (omega arith) ∙ ap (λ m. o.next ∷ row_from (o.next + 1) m) fewer)

  was_opened : opened g o.serial ≡ true
  was_opened = (current_opened g o.serial now).0

  mine : serial_of g o.next ≡ Some o.serial
  mine = left_owner g o.serial o.next (row_from (o.next + 1) (o.to - (o.next + 1))) sound left_row

  given_more : o.next + 1 < o.to → IsOf params lane ((Gave l o.next, bytes) ∷ g) (record r { reading = Some (record o { next = o.next + 1 }) })
  given_more h =
      let two : left_of g o.serial ≡ o.next ∷ (o.next + 1) ∷ row_from (o.next + 1 + 1) (o.to - (o.next + 1) - 1) =
      left_row ∙ ap (λ xs. o.next ∷ xs) (row_some (o.next + 1) (o.to - (o.next + 1)) (omega arith)) in
      let whole : length (delivered ((Gave l o.next, bytes) ∷ g)) ≡ length (delivered g) + 0 =
      delivered_more l o.next o.serial bytes g sound mine ((o.next + 1) ∷ row_from (o.next + 1 + 1) (o.to - (o.next + 1) - 1)) was_opened two in
      record {
        posted_is = w.posted_is;
        home_is = let e : r.home + posts g ≡ rx_back params lane g = w.home_is in omega arith;
        landed_is = w.landed_is;
        reading_is = current_stays l o.next o.serial bytes g sound mine (o.next + 1) (row_from (o.next + 1 + 1) (o.to - (o.next + 1) - 1)) was_opened next.is_left two;
        left_is = record { numbers = left_here l o.next o.serial bytes g sound mine (row_from (o.next + 1) (o.to - (o.next + 1))) left_row; some = h };
      }

  given_last : o.to ≤ o.next + 1 → IsOf params lane ((Gave l o.next, bytes) ∷ g) (record r { reading = None; home = r.home + 1 })
  given_last h =
      let row : row_from (o.next + 1) (o.to - (o.next + 1)) ≡ [] = ap (row_from (o.next + 1)) (let z : o.to - (o.next + 1) ≡ 0 = omega arith in z) in
      let one : left_of g o.serial ≡ o.next ∷ [] = left_row ∙ ap (λ xs. o.next ∷ xs) row in
      let whole : length (delivered ((Gave l o.next, bytes) ∷ g)) ≡ length (delivered g) + 1 = delivered_more l o.next o.serial bytes g sound mine [] was_opened one in
      record {
        posted_is = w.posted_is;
        home_is = let e : r.home + posts g ≡ rx_back params lane g = w.home_is in omega arith;
        landed_is = w.landed_is;
        reading_is = current_none l o.next o.serial bytes g sound mine was_opened next.is_left one;
        left_is = tt;
      }

  given_either : (b : Bool) → nat_lt (o.next + 1) o.to ≡ b
      → IsOf params lane ((Gave l o.next, bytes) ∷ g) (record r { reading = if b then Some (record o { next = o.next + 1 }) else None; home = if b then r.home else r.home + 1 })
  given_either true e = given_more (ltb-true (o.next + 1) o.to e)
  given_either false e = given_last (ltb-false (o.next + 1) o.to e)

  pub given_kept : IsOf params lane ((Gave l o.next, bytes) ∷ g) (gives r (Some o))
  given_kept = given_either (nat_lt (o.next + 1) o.to) refl

gave_kept : (params : Params) (lane l : Lane) (n : ℕ) (bytes : List ℕ) (g : History) (r : Receiving) → IsSound g → IsNextNumber g n → IsOf params lane g r → (o : Option Reading) → r.reading ≡ o
    → current g ≡ serial_in o → ReadingIs (IsLeft (left_of g)) o → next_in o ≡ Some n → IsOf params lane ((Gave l n, bytes) ∷ g) (gives r o)
gave_kept params lane l n bytes g r sound next w None is now left goes = absurd (none-some n goes)
gave_kept params lane l n bytes g r sound next w (Some o) is now left goes =
    let same : o.next ≡ n = same_Some o.next n goes in
    subst (λ i. IsOf params lane ((Gave l i, bytes) ∷ g) (gives r (Some o))) same
    (given_kept params lane l bytes g r o sound (subst (IsNextNumber g) (sym same) next) w now left)

-- THE LAW

pub kept : (params : Params) (lane : Lane) (g : History) (r : Receiving) (is_out : Bool) (s : ℕ × ℕ) (line : Line) (bytes : List ℕ)
    → IsSound ((line, bytes) ∷ g) → IsTold is_out s line g → GoesOn line r → IsOf params lane g r → IsOf params lane ((line, bytes) ∷ g) (after is_out s line r)
kept params lane g r is_out s (Made l k a b) bytes sound told goes w = made_kept params lane l k a b bytes g r sound.1 sound.0.0 w
kept params lane g r is_out s (Posted l) bytes sound told goes w = record {
  posted_is = let e : recalls g + flights g + r.posted ≡ posts g = w.posted_is in omega arith;
  home_is = let e : r.home + posts g ≡ rx_back params lane g = w.home_is in let some : 0 < r.home = goes in omega arith;
  landed_is = w.landed_is;
  reading_is = w.reading_is;
  left_is = w.left_is;
}
kept params lane g r is_out s (Flying l k) bytes sound told goes w = record {
  posted_is = let e : recalls g + flights g + r.posted ≡ posts g = w.posted_is in let some : 0 < r.posted = goes in omega arith;
  home_is = w.home_is;
  landed_is = w.landed_is;
  reading_is = w.reading_is;
  left_is = w.left_is;
}
kept params lane g r is_out s (Landed l k) bytes sound told goes w = landed_kept params lane l k bytes g r sound.1 sound.0 w
kept params lane g r is_out s (Failed l k kind) bytes sound told goes w = record {
  posted_is = w.posted_is;
  home_is = let e : r.home + posts g ≡ rx_back params lane g = w.home_is in omega arith;
  landed_is = w.landed_is;
  reading_is = w.reading_is;
  left_is = w.left_is;
}
kept params lane g r is_out s (Retried l k n) bytes sound told goes w = record {
  posted_is = w.posted_is;
  home_is = let e : r.home + posts g ≡ rx_back params lane g = w.home_is in omega arith;
  landed_is = w.landed_is;
  reading_is = w.reading_is;
  left_is = w.left_is;
}
kept params lane g r is_out s (Cut l k c) bytes sound told goes w = record {
  posted_is = w.posted_is;
  home_is = rw told (more_sum is_out r.home (posts g) (rx_size params lane + recalls g + failures g + retries g) (flight_cuts g) (length (delivered g)) w.home_is);
  landed_is = w.landed_is;
  reading_is = w.reading_is;
  left_is = w.left_is;
}
kept params lane g r is_out s (Opened l k) bytes sound told goes w = opened_kept params lane l k s bytes g r sound.1 sound.0 told goes w
kept params lane g r is_out s (Gave l n) bytes sound told goes w = gave_kept params lane l n bytes g r sound.1 sound.0 w r.reading refl w.reading_is w.left_is goes
kept params lane g r is_out s (Recalled l) bytes sound told goes w = record {
  posted_is = let e : recalls g + flights g + r.posted ≡ posts g = w.posted_is in let some : 0 < r.posted = goes in omega arith;
  home_is = let e : r.home + posts g ≡ rx_back params lane g = w.home_is in omega arith;
  landed_is = w.landed_is;
  reading_is = w.reading_is;
  left_is = w.left_is;
}
kept params lane g r is_out s line bytes sound told goes w = record {
  posted_is = w.posted_is;
  home_is = w.home_is;
  landed_is = w.landed_is;
  reading_is = w.reading_is;
  left_is = w.left_is;
}
