-- How many bytes the lines of a legal history can have.
use Rattle.std.proofs.Common.{◌≡◌, ℕ, zero, suc, ◌+◌, ◌-◌, ◌*◌, ◌<◌, ◌≤◌, Bool, true, false, ◌==◌, List, [], ◌∷◌, ◌++◌, length, Some, inl, inr, refl, ap, ◌∙◌, subst, arith, if◌then◌else◌, filter, reverse, slice_get, take, drop, unwrap_or}
use Rattle.std.specs.List.{sum_by}
use Rattle.std.proofs.lemmas.Bool.{eq-eqb, cases_lt}
use Rattle.std.proofs.lemmas.List.Sums.{sum_by-cons, sum_by-append}
use Rattle.std.proofs.lemmas.List.{length-drop, length-take-le, take-append-le}
use Rattle.un_facts.proofs.Lists.{no_length}
use Rattle.un_frame.specs.declared.params.Lane.{Lane}
use Rattle.un_frame.specs.declared.params.Lane.TheVariants.{Outward, Inward}
use Rattle.un_frame.specs.Wire.{form}
use Rattle.un_journal.specs.declared.lines.Line.TheVariants.{Took, Refused, Made, Dropped, Gave}
use Rattle.un_journal.specs.Script.{Script, Frame, feeds_of, frames_of}
use Rattle.un_journal.specs.History.{History, past, concerns, taken, consumed, made, cover, more_if}
use Rattle.un_journal.specs.Lookup.{feed_head, datagrams}
use Rattle.un_journal.specs.Bytes.{AreDatagrams, bytes_in, byte_bound}
use Rattle.un_journal.proofs.Bytes.Transfers.{AreFrames, WireHolds}
use Rattle.un_journal.specs.Sound.{IsSound}
use Rattle.un_journal.specs.Fits.{Legal}
use Rattle.un_journal.proofs.Lanes.GivenOrder.{front, in_front, next_above, cover_below}
use Rattle.un_journal.proofs.Steps.StaySound.{legal_good}
use Rattle.un_journal.proofs.Lists.NewestFirst.{onto, reverse_onto}
use Rattle.un_journal.specs.Rules.{AllRuled, AllLane}
use Rattle.un_journal.proofs.Steps.LineRules.{legal_ruled}
use Rattle.un_journal.proofs.Lanes.PoolSums.{lane_ruled, more_least}
use Rattle.un_journal.proofs.Bounds.LineBound.{sum_from, head_within}
use Rattle.un_journal.proofs.Bytes.TransferBytes.{count_datagrams, frames_more, frames_within, frames_taken, good_length, legal_formed}
use Rattle.un_journal.proofs.Finish.NothingLost.{take_one}

-- WEIGHTS

take_split : {X : Type 0} (a b : ℕ) (xs : List X) → a ≤ b → take b xs ≡ take a xs ++ take (b - a) (drop a xs)
take_split zero b xs h = ap (λ i. take i xs) same
  where
    same : b ≡ b - 0
    same = omega arith
take_split (suc a) zero xs h = absurd (omega arith)
take_split (suc a) (suc b) [] h = none (suc b - suc a)
  where
    none : {X : Type 0} (n : ℕ) → ◌≡◌ {A = List X} [] ([] ++ take n (drop (suc a) []))
    none zero = refl
    none (suc n) = refl
take_split (suc a) (suc b) (x ∷ xs) h = ap (λ i. x ∷ i) (take_split a b xs (omega arith) ∙ ap (λ i. take a xs ++ take i (drop a xs)) same)
  where
    same : b - a ≡ suc b - suc a
    same = omega arith

take_sum : (f : Frame → ℕ) (a b : ℕ) (xs : List Frame) → a ≤ b → sum_by f (take b xs) ≡ sum_by f (take a xs) + sum_by f (take (b - a) (drop a xs))
take_sum f a b xs h = ap (sum_by f) (take_split a b xs h) ∙ sum_by-append f (take a xs) (take (b - a) (drop a xs))

take_more : (f : Frame → ℕ) (a b : ℕ) (xs : List Frame) → a ≤ b → sum_by f (take a xs) ≤ sum_by f (take b xs)
take_more f a b xs h = let e : sum_by f (take b xs) ≡ sum_by f (take a xs) + sum_by f (take (b - a) (drop a xs)) = take_sum f a b xs h in omega arith

take_less : (f : Frame → ℕ) (n : ℕ) (xs : List Frame) → sum_by f (take n xs) ≤ sum_by f xs
take_less f zero xs = omega arith
take_less f (suc n) [] = omega arith
take_less f (suc n) (x ∷ xs) =
    let r : sum_by f (take n xs) ≤ sum_by f xs = take_less f n xs in
    let a : sum_by f (x ∷ take n xs) ≡ f x + sum_by f (take n xs) = sum_by-cons f x (take n xs) in
    let b : sum_by f (x ∷ xs) ≡ f x + sum_by f xs = sum_by-cons f x xs in omega arith

take_last : (f : Frame → ℕ) (n : ℕ) (xs : List Frame) (x : Frame) → slice_get xs n ≡ Some x → sum_by f (take (n + 1) xs) ≡ sum_by f (take n xs) + f x
take_last f n xs x e =
    let s : sum_by f (take n xs ++ x ∷ []) ≡ sum_by f (take n xs) + sum_by f (x ∷ []) = sum_by-append f (take n xs) (x ∷ []) in
    let o : sum_by f (x ∷ []) ≡ f x + sum_by f [] = sum_by-cons f x [] in
    ap (sum_by f) (take_one n xs x e) ∙ omega arith

last_sum : (f : Frame → ℕ) (xs : List Frame) (x : Frame) → sum_by f (xs ++ x ∷ []) ≡ sum_by f xs + f x
last_sum f xs x =
    let s : sum_by f (xs ++ x ∷ []) ≡ sum_by f xs + sum_by f (x ∷ []) = sum_by-append f xs (x ∷ []) in
    let o : sum_by f (x ∷ []) ≡ f x + sum_by f [] = sum_by-cons f x [] in omega arith

both_weights : (xs : List Frame) → sum_by (λ frame. length frame + 192) xs + sum_by length xs ≡ sum_by (λ frame. 2 * length frame + 192) xs
both_weights [] = refl
both_weights (x ∷ xs) =
    let r : sum_by (λ frame. length frame + 192) xs + sum_by length xs ≡ sum_by (λ frame. 2 * length frame + 192) xs = both_weights xs in
    let a : sum_by (λ frame. length frame + 192) (x ∷ xs) ≡ length x + 192 + sum_by (λ frame. length frame + 192) xs = sum_by-cons (λ frame. length frame + 192) x xs in
    let b : sum_by length (x ∷ xs) ≡ length x + sum_by length xs = sum_by-cons length x xs in
    let c : sum_by (λ frame. 2 * length frame + 192) (x ∷ xs) ≡ 2 * length x + 192 + sum_by (λ frame. 2 * length frame + 192) xs = sum_by-cons (λ frame. 2 * length frame + 192) x xs in omega arith

-- THE BYTES OF A LANE

abbrev pub made_size : History → ℕ
made_size [] = 0
made_size ((Made l k a b, bytes) ∷ g) = made_size g + length bytes
made_size (e ∷ g) = made_size g

abbrev pub gave_size : History → ℕ
gave_size [] = 0
gave_size ((Gave l n, bytes) ∷ g) = gave_size g + length bytes
gave_size (e ∷ g) = gave_size g

pub lane_frames : (script : Script) (l : Lane) (g : History) → AllLane script l g → AreFrames script.params (datagrams script l g)
lane_frames script l [] all = tt
lane_frames script l ((Took l' s, bytes) ∷ g) all =
    let r = all.0.rule in
    let n = good_length script.params l r.frame r.is_good in rw r.is_head (frames_more script.params (datagrams script l g) r.frame (lane_frames script l g all.1) n.0 n.1)
lane_frames script l (e ∷ g) all = lane_frames script l g all.1

made_room : (script : Script) (l : Lane) (g : History) → WireHolds script.params → IsSound g → AllLane script l g → made_size g ≤ sum_by (λ frame. length frame + 192) (take (cover g) (datagrams script l g))
made_room script l [] wire sound all = omega arith
made_room script l ((Took l' s, bytes) ∷ g) wire sound all =
    let n : length (datagrams script l g) ≡ taken g = count_datagrams script l g in
    let c : cover g ≤ taken g = cover_below g sound.1 in
    rw (take-append-le (cover g) (datagrams script l g) (unwrap_or (feed_head script l g s) [] ∷ []) (omega arith)) (made_room script l g wire sound.1 all.1)
made_room script l ((Made l' k a b, bytes) ∷ g) wire sound all =
    let n : length (datagrams script l g) ≡ taken g = count_datagrams script l g in
    let begin : a ≡ cover g = sound.0.1.begins in
    let some : a < b = sound.0.1.is_some in
    let by : b ≤ taken g = sound.0.1.is_taken in
    let d : length (drop (cover g) (datagrams script l g)) ≡ length (datagrams script l g) - cover g = length-drop (cover g) (datagrams script l g) in
    let t : length (take (b - a) (drop (cover g) (datagrams script l g))) ≡ b - a = length-take-le (b - a) (drop (cover g) (datagrams script l g)) (omega arith) in
    let size : length (form script.params (made g) (take (b - a) (drop (cover g) (datagrams script l g)))) ≤ sum_by (λ frame. length frame + 192) (take (b - a) (drop (cover g) (datagrams script l g))) =
    wire.is_short (made g) (take (b - a) (drop (cover g) (datagrams script l g))) (omega arith) (frames_taken script.params (b - a) _ (frames_within script.params (cover g) _ (lane_frames script l g all.1))) in
    let same : length bytes ≡ length (form script.params (made g) (take (b - a) (drop (cover g) (datagrams script l g)))) = ap length all.0.rule.is_form in
    let cut : b - cover g ≡ b - a = omega arith in
    let sum : sum_by (λ frame. length frame + 192) (take b (datagrams script l g)) ≡ sum_by (λ frame. length frame + 192) (take (cover g) (datagrams script l g)) + sum_by (λ frame. length frame + 192) (take (b - cover g) (drop (cover g) (datagrams script l g))) =
    take_sum (λ frame. length frame + 192) (cover g) b (datagrams script l g) (omega arith) in
    let sum' : sum_by (λ frame. length frame + 192) (take (b - cover g) (drop (cover g) (datagrams script l g))) ≡ sum_by (λ frame. length frame + 192) (take (b - a) (drop (cover g) (datagrams script l g))) =
    ap (λ i. sum_by (λ frame. length frame + 192) (take i (drop (cover g) (datagrams script l g)))) cut in
    let before : made_size g ≤ sum_by (λ frame. length frame + 192) (take (cover g) (datagrams script l g)) = made_room script l g wire sound.1 all.1 in omega arith
made_room script l ((Dropped l' a b c, bytes) ∷ g) wire sound all =
    let before : made_size g ≤ sum_by (λ frame. length frame + 192) (take (cover g) (datagrams script l g)) = made_room script l g wire sound.1 all.1 in
    let begin : a ≡ cover g = sound.0.begins in
    let some : a < b = sound.0.is_some in
    let more : sum_by (λ frame. length frame + 192) (take (cover g) (datagrams script l g)) ≤ sum_by (λ frame. length frame + 192) (take b (datagrams script l g)) = take_more (λ frame. length frame + 192) (cover g) b (datagrams script l g) (omega arith) in omega arith
made_room script l (e ∷ g) wire sound all = made_room script l g wire sound.1 all.1

gave_room : (ds : List Frame) (g : History) → IsSound g → AreDatagrams ds g → gave_size g ≤ sum_by length (take (front g) ds)
gave_room ds [] sound w = omega arith
gave_room ds ((Gave l n, bytes) ∷ g) sound w =
    let before : gave_size g ≤ sum_by length (take (front g) ds) = gave_room ds g sound.1 w.1 in
    let low : front g ≤ n = next_above g (in_front g sound.1) n sound.0 in
    let more : sum_by length (take (front g) ds) ≤ sum_by length (take n ds) = take_more length (front g) n ds low in
    let last : sum_by length (take (n + 1) ds) ≡ sum_by length (take n ds) + length bytes = take_last length n ds bytes w.0 in omega arith
gave_room ds (e ∷ g) sound w = gave_room ds g sound.1 w

-- THE ACCEPTED FRAMES ARE FRAMES OF THE FEEDS

total_less : {X : Type 0} (f g : ℕ → ℕ) (s : ℕ) (xs : List X) → ((i : ℕ) → f i ≤ g i) → sum_from f s xs ≤ sum_from g s xs
total_less f g s [] h = omega arith
total_less f g s (x ∷ xs) h = let r : sum_from f (s + 1) xs ≤ sum_from g (s + 1) xs = total_less f g (s + 1) xs h in let here : f s ≤ g s = h s in omega arith

total_add : {X : Type 0} (f g : ℕ → ℕ) (w j s : ℕ) (xs : List X) → s ≤ j → j < s + length xs → ((i : ℕ) → f i ≤ g i) → f j + w ≤ g j → sum_from f s xs + w ≤ sum_from g s xs
total_add f g w j s [] low high h e = absurd (omega arith)
total_add f g w j s (x ∷ xs) low high h e = elim (cases_lt s j) [
  | inl less ↦ let r : sum_from f (s + 1) xs + w ≤ sum_from g (s + 1) xs = total_add f g w j (s + 1) xs (omega arith) (omega arith) h e in let here : f s ≤ g s = h s in omega arith
  | inr more ↦
      let same : j ≡ s = omega arith in
      let here : f s + w ≤ g s = subst (λ i. f i + w ≤ g i) same e in
      let r : sum_from f (s + 1) xs ≤ sum_from g (s + 1) xs = total_less f g (s + 1) xs h in omega arith
]

total_feeds : (f : ℕ → ℕ) (w : List Frame → ℕ) (s : ℕ) (xs : List (List Frame)) → ((i : ℕ) → f (s + i) ≤ w (unwrap_or (slice_get xs i) [])) → sum_from f s xs ≤ sum_by w xs
total_feeds f w s [] h = omega arith
total_feeds f w s (x ∷ xs) h =
    let rest : sum_from f (s + 1) xs ≤ sum_by w xs = total_feeds f w (s + 1) xs (λ i. subst (λ j. f j ≤ w (unwrap_or (slice_get xs i) [])) (shift i) (h (suc i))) in
    let here : f s ≤ w x = subst (λ j. f j ≤ w x) none (h 0) in
    let split : sum_by w (x ∷ xs) ≡ w x + sum_by w xs = sum_by-cons w x xs in omega arith
  where
    shift : (i : ℕ) → s + suc i ≡ s + 1 + i
    shift i = omega arith

    none : s + 0 ≡ s
    none = omega arith

module _ (w : Frame → ℕ) (script : Script) (l : Lane) where
  accepted_used : (g : History) → AllLane script l g → sum_by w (datagrams script l g) ≤ sum_from (λ i. sum_by w (take (consumed g i) (frames_of script l i))) 0 (feeds_of script l)
  accepted_used [] all = omega arith
  accepted_used ((Took l' s, bytes) ∷ g) all =
      let r = all.0.rule in
      let before : sum_by w (datagrams script l g) ≤ sum_from (λ i. sum_by w (take (consumed g i) (frames_of script l i))) 0 (feeds_of script l) = accepted_used g all.1 in
      let within : s < length (feeds_of script l) = head_within script l g s r.frame r.is_head in
      let last : sum_by w (take (consumed g s + 1) (frames_of script l s)) ≡ sum_by w (take (consumed g s) (frames_of script l s)) + w r.frame = take_last w (consumed g s) (frames_of script l s) r.frame r.is_head in
      let added : sum_from (λ i. sum_by w (take (consumed g i) (frames_of script l i))) 0 (feeds_of script l) + w r.frame ≤ sum_from (λ i. sum_by w (take (more_if (s == i) (consumed g i)) (frames_of script l i))) 0 (feeds_of script l) =
      total_add (λ i. sum_by w (take (consumed g i) (frames_of script l i))) (λ i. sum_by w (take (more_if (s == i) (consumed g i)) (frames_of script l i))) (w r.frame) s 0 (feeds_of script l) (omega arith) (omega arith)
      (λ i. take_more w (consumed g i) (more_if (s == i) (consumed g i)) (frames_of script l i) (more_least (s == i) (consumed g i))) (rw (eq-eqb s s refl) (omega arith)) in
      let new : sum_by w (datagrams script l g ++ r.frame ∷ []) ≡ sum_by w (datagrams script l g) + w r.frame = last_sum w (datagrams script l g) r.frame in
      rw r.is_head (omega arith)
  accepted_used ((Refused l' s why, bytes) ∷ g) all =
      let before : sum_by w (datagrams script l g) ≤ sum_from (λ i. sum_by w (take (consumed g i) (frames_of script l i))) 0 (feeds_of script l) = accepted_used g all.1 in
      let more : sum_from (λ i. sum_by w (take (consumed g i) (frames_of script l i))) 0 (feeds_of script l) ≤ sum_from (λ i. sum_by w (take (more_if (s == i) (consumed g i)) (frames_of script l i))) 0 (feeds_of script l) =
      total_less (λ i. sum_by w (take (consumed g i) (frames_of script l i))) (λ i. sum_by w (take (more_if (s == i) (consumed g i)) (frames_of script l i))) 0 (feeds_of script l)
      (λ i. take_more w (consumed g i) (more_if (s == i) (consumed g i)) (frames_of script l i) (more_least (s == i) (consumed g i))) in omega arith
  accepted_used (e ∷ g) all = accepted_used g all.1

  accepted_room : (g : History) → AllLane script l g → sum_by w (datagrams script l g) ≤ sum_by (sum_by w) (feeds_of script l)
  accepted_room g all =
      let a : sum_by w (datagrams script l g) ≤ sum_from (λ i. sum_by w (take (consumed g i) (frames_of script l i))) 0 (feeds_of script l) = accepted_used g all in
      let b : sum_from (λ i. sum_by w (take (consumed g i) (frames_of script l i))) 0 (feeds_of script l) ≤ sum_by (sum_by w) (feeds_of script l) =
      total_feeds (λ i. sum_by w (take (consumed g i) (frames_of script l i))) (sum_by w) 0 (feeds_of script l)
      (λ i. subst (λ j. sum_by w (take (consumed g j) (frames_of script l j)) ≤ sum_by w (frames_of script l i)) (shift i) (take_less w (consumed g i) (frames_of script l i))) in omega arith
    where
      shift : (i : ℕ) → i ≡ 0 + i
      shift i = omega arith

-- BOTH LANES

all_bytes : (script : Script) (older : History) → AllRuled script older → bytes_in older ≡ made_size (filter (concerns Outward) older) + gave_size (filter (concerns Outward) older) + (made_size (filter (concerns Inward) older) + gave_size (filter (concerns Inward) older))
all_bytes script [] all = refl
all_bytes script ((Made Outward k a b, bytes) ∷ older) all = let e : bytes_in older ≡ made_size (filter (concerns Outward) older) + gave_size (filter (concerns Outward) older) + (made_size (filter (concerns Inward) older) + gave_size (filter (concerns Inward) older)) = all_bytes script older all.1 in omega arith
all_bytes script ((Made Inward k a b, bytes) ∷ older) all = let e : bytes_in older ≡ made_size (filter (concerns Outward) older) + gave_size (filter (concerns Outward) older) + (made_size (filter (concerns Inward) older) + gave_size (filter (concerns Inward) older)) = all_bytes script older all.1 in omega arith
all_bytes script ((Gave Outward n, bytes) ∷ older) all = let e : bytes_in older ≡ made_size (filter (concerns Outward) older) + gave_size (filter (concerns Outward) older) + (made_size (filter (concerns Inward) older) + gave_size (filter (concerns Inward) older)) = all_bytes script older all.1 in omega arith
all_bytes script ((Gave Inward n, bytes) ∷ older) all = let e : bytes_in older ≡ made_size (filter (concerns Outward) older) + gave_size (filter (concerns Outward) older) + (made_size (filter (concerns Inward) older) + gave_size (filter (concerns Inward) older)) = all_bytes script older all.1 in omega arith
all_bytes script ((line, bytes) ∷ older) all =
    let e : bytes_in older ≡ made_size (filter (concerns Outward) older) + gave_size (filter (concerns Outward) older) + (made_size (filter (concerns Inward) older) + gave_size (filter (concerns Inward) older)) = all_bytes script older all.1 in
    let none : length bytes ≡ 0 = no_length bytes all.0.is_bare in
    go (concerns Outward (line, bytes)) (concerns Inward (line, bytes)) (omega arith)
  where
    go : (p q : Bool) → bytes_in older + length bytes ≡ made_size (filter (concerns Outward) older) + gave_size (filter (concerns Outward) older) + (made_size (filter (concerns Inward) older) + gave_size (filter (concerns Inward) older))
        → bytes_in older + length bytes ≡ made_size (if p then ((line, bytes) ∷ filter (concerns Outward) older) else filter (concerns Outward) older) + gave_size (if p then ((line, bytes) ∷ filter (concerns Outward) older) else filter (concerns Outward) older)
        + (made_size (if q then ((line, bytes) ∷ filter (concerns Inward) older) else filter (concerns Inward) older) + gave_size (if q then ((line, bytes) ∷ filter (concerns Inward) older) else filter (concerns Inward) older))
    go true true w = w
    go true false w = w
    go false true w = w
    go false false w = w

bytes_onto : (lines g : History) → bytes_in (onto lines g) ≡ bytes_in g + bytes_in lines
bytes_onto [] g = omega arith
bytes_onto ((line, bytes) ∷ es) g = let e : bytes_in (onto es ((line, bytes) ∷ g)) ≡ bytes_in g + length bytes + bytes_in es = bytes_onto es ((line, bytes) ∷ g) in omega arith

bytes_reverse : (h : History) → bytes_in (reverse h) ≡ bytes_in h
bytes_reverse h = ap bytes_in (reverse_onto h []) ∙ (bytes_onto h [] ∙ none)
  where
    none : 0 + bytes_in h ≡ bytes_in h
    none = omega arith

lane_room : (script : Script) (h : History) (l : Lane) → WireHolds script.params → Legal script h
    → made_size (past l h) + gave_size (past l h) ≤ sum_by (sum_by (λ frame. 2 * length frame + 192)) (feeds_of script l)
lane_room script h l wire legal =
    let m : made_size (past l h) ≤ sum_by (λ frame. length frame + 192) (take (cover (past l h)) (datagrams script l (past l h))) = made_room script l (past l h) wire sound all in
    let m' : sum_by (λ frame. length frame + 192) (take (cover (past l h)) (datagrams script l (past l h))) ≤ sum_by (λ frame. length frame + 192) (datagrams script l (past l h)) = take_less (λ frame. length frame + 192) (cover (past l h)) (datagrams script l (past l h)) in
    let g : gave_size (past l h) ≤ sum_by length (take (front (past l h)) (datagrams script l (past l h))) = gave_room (datagrams script l (past l h)) (past l h) sound (legal_formed script h wire legal l).kept.gave_well in
    let g' : sum_by length (take (front (past l h)) (datagrams script l (past l h))) ≤ sum_by length (datagrams script l (past l h)) = take_less length (front (past l h)) (datagrams script l (past l h)) in
    let b : sum_by (λ frame. length frame + 192) (datagrams script l (past l h)) + sum_by length (datagrams script l (past l h)) ≡ sum_by (λ frame. 2 * length frame + 192) (datagrams script l (past l h)) = both_weights (datagrams script l (past l h)) in
    let f : sum_by (λ frame. 2 * length frame + 192) (datagrams script l (past l h)) ≤ sum_by (sum_by (λ frame. 2 * length frame + 192)) (feeds_of script l) = accepted_room (λ frame. 2 * length frame + 192) script l (past l h) all in omega arith
  where
    sound : IsSound (past l h)
    sound = (legal_good script h legal).sound l

    all : AllLane script l (past l h)
    all = lane_ruled script (reverse h) (legal_ruled script h legal) l

pub legal_room : (script : Script) (h : History) → WireHolds script.params → Legal script h → bytes_in h ≤ byte_bound script
legal_room script h wire legal =
    let r : bytes_in (reverse h) ≡ bytes_in h = bytes_reverse h in
    let a : bytes_in (reverse h) ≡ made_size (past Outward h) + gave_size (past Outward h) + (made_size (past Inward h) + gave_size (past Inward h)) = all_bytes script (reverse h) (legal_ruled script h legal) in
    let o : made_size (past Outward h) + gave_size (past Outward h) ≤ sum_by (sum_by (λ frame. 2 * length frame + 192)) (feeds_of script Outward) = lane_room script h Outward wire legal in
    let i : made_size (past Inward h) + gave_size (past Inward h) ≤ sum_by (sum_by (λ frame. 2 * length frame + 192)) (feeds_of script Inward) = lane_room script h Inward wire legal in omega arith
