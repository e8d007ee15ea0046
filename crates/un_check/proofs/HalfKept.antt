-- What is kept of a lane is what its lines say.
use Rattle.std.proofs.Common.{◌≡◌, ℕ, ◌+◌, ◌-◌, ◌<◌, Bool, true, false, ◌&&◌, ◌==◌, List, [], ◌∷◌, ◌++◌, map, length, Option, Some, None, unwrap_or, slice_get, get_or, refl, sym, ap, ◌∙◌, subst, arith}
use Rattle.std.proofs.lemmas.Bool.{eq-eqb}
use Rattle.std.proofs.lemmas.List.{map-append, length-map}
use Rattle.std.proofs.lemmas.Option.{slice_get-get_or}
use Rattle.un_facts.specs.Numbers.{one_if}
use Rattle.un_frame.specs.declared.params.Lane.{Lane}
use Rattle.un_frame.specs.Lanes.{tx_size, rx_size}
use Rattle.un_journal.specs.declared.lines.Line.{Line}
use Rattle.un_journal.specs.declared.lines.Line.TheVariants.{Took, Refused, Made, Waited, Posted, Flying, Landed, Failed, Retried, Marked, Cut, Dropped, TxHome, Opened, Gave, Recalled, Cleared, Settled}
use Rattle.un_journal.specs.Script.{Script, Frame, frames_of}
use Rattle.un_journal.specs.History.{Entry, History, consumed, made, taken, first, flies, span, landed, opened, arrived}
use Rattle.un_journal.specs.Lookup.{feed_head, feeds_empty, datagrams, tx_home, rx_home, claim}
use Rattle.un_journal.specs.Sound.{IsSound}
use Rattle.un_journal.proofs.ForReader.{count_datagrams, those_first}
use Rattle.un_script.specs.declared.cursors.Cursors.{Cursors}
use Rattle.un_script.specs.Cursors.{AreRead, cursor_at}
use Rattle.un_script.proofs.CursorLemmas.{head_is, advanced_read, read_same}
use Rattle.un_check.specs.declared.source.Source.{Source}
use Rattle.un_check.specs.declared.transfers.Transfer.{Transfer}
use Rattle.un_check.specs.Building.{claims}
use Rattle.un_check.specs.Transfers.{Transfers, AreOf, span_in}
use Rattle.un_check.specs.TransferLines as transfers
use Rattle.un_check.specs.Receiving.{InPool}
use Rattle.un_check.specs.ReceivingLines as receiving
use Rattle.un_check.specs.BuildingLines as building
use Rattle.un_check.specs.Half.{Half, Keeps, fresh_half, frame_at, home}
use Rattle.un_check.specs.HalfLines.{GoesOn, after, span_told, read_after, accepted_after, head_of}
use Rattle.un_check.specs.HalfCalls.{are_feeds_empty}
use Rattle.un_check.specs.HalfLaws.{FreshIsKept, HalfIsKept, HeadIsKept, HomeIsKept, TakenIsKept, FeedsAreKept}
use Rattle.un_check.proofs.BuildingKept as built
use Rattle.un_check.proofs.TransferKept.{none_kept, lines_kept}
use Rattle.un_check.proofs.ReceivingKept as received
use Rattle.un_check.proofs.ReceivingPool.{in_pool}
use Rattle.un_check.proofs.ReceivingSteps.{home_counts}

pub fresh_kept : FreshIsKept
fresh_kept script lane = record {
  built = built.begins script lane;
  transfers_are = none_kept;
  receiving_is = received.begins script.params lane;
  in_pool = omega arith;
  read_is = record { first = refl; second = refl; third = refl; fourth = refl };
  accepted_are = refl;
}

-- WHAT THE RECEIVING END IS TOLD

-- whether the transfer that is cut flew
cut_told : (k : ℕ) (g : History) (t : Transfers) → AreOf g t → k ≡ t.over → flies g k ≡ t.is_out
cut_told k g t w e = w.flies_is k ∙ (ap (λ b. t.is_out && b) (eq-eqb k t.over e) ∙ last t.is_out)
  where
    last : (b : Bool) → (b && true) ≡ b
    last true = refl
    last false = refl

-- the span of the transfer that is opened, which was made
opened_told : (k : ℕ) (g : History) (t : Transfers) (list : List ℕ) → AreOf g t → arrived g ≡ list → first list ≡ Some k → span g k ≡ Some (unwrap_or (span_in (slice_get t.all k)) (0, 0))
opened_told k g t list w arr e = w.span_is k ∙ (ap span_in found ∙ sym (ap (λ o. Some (unwrap_or (span_in o) (0, 0))) found))
  where
    none : Transfer
    none = record { from = 0; to = 0; mark = None }

    below : k < made g
    below = (those_first _ (made g) k (ap first arr ∙ e)).is_below

    found : slice_get t.all k ≡ Some (get_or t.all k none)
    found = slice_get-get_or t.all k none (let m : made g ≡ length t.all = w.made_is in let low : k < made g = below in omega arith)

told : (line : Line) (g : History) (half : Half) (script : Script) (lane : Lane) → Keeps script lane g half → GoesOn line half → receiving.IsTold half.transfers.is_out (span_told line half.transfers) line g
told (Cut l k c) g half script lane w goes = cut_told k g half.transfers w.transfers_are goes.of_transfers.0
told (Opened l k) g half script lane w goes = opened_told k g half.transfers half.receiving.landed w.transfers_are w.receiving_is.landed_is goes.of_receiving.0
told line g half script lane w goes = tt

-- whether a transfer flies, before the line and after it
out_told : (line : Line) (t : Transfers) → transfers.GoesOn line t → receiving.IsOut t.is_out line
out_told (Flying l k) t goes = goes.1
out_told (Landed l k) t goes = goes.1
out_told (Failed l k kind) t goes = goes.1
out_told (Retried l k n) t goes = goes.1
out_told line t goes = tt

out_kept : (line : Line) (t : Transfers) → receiving.out_after line t.is_out ≡ (transfers.after line t).is_out
out_kept (Flying l k) t = refl
out_kept line t = refl

-- ONE MORE LINE

read_kept : (line : Line) (bytes : List ℕ) (g : History) (c : Cursors) → AreRead c g → AreRead (read_after line c) ((line, bytes) ∷ g)
read_kept (Took l s) bytes g c r = advanced_read c g ((Took l s, bytes) ∷ g) s r (λ j. refl)
read_kept (Refused l s why) bytes g c r = advanced_read c g ((Refused l s why, bytes) ∷ g) s r (λ j. refl)
read_kept line bytes g c r = read_same c g ((line, bytes) ∷ g) r (λ j. refl)

accepted_kept : (script : Script) (lane : Lane) (line : Line) (bytes : List ℕ) (g : History) (half : Half) → AreRead half.read g → datagrams script lane g ≡ map (frame_at script lane) half.accepted
    → datagrams script lane ((line, bytes) ∷ g) ≡ map (frame_at script lane) (accepted_after line half)
accepted_kept script lane (Took l s) bytes g half r e =
    ap (λ ds. ds ++ unwrap_or (feed_head script lane g s) [] ∷ []) e
    ∙ (ap (λ o. map (frame_at script lane) half.accepted ++ unwrap_or o [] ∷ []) (head_is script lane g half.read s r)
    ∙ sym (map-append (frame_at script lane) half.accepted (record { sender = s; index = cursor_at half.read s } ∷ [])))
accepted_kept script lane line bytes g half r e = e

pub half_kept : HalfIsKept
half_kept script lane g half frame line bytes sound of_frame goes w = record {
  built = built.kept script lane g half.building frame line bytes of_frame goes.of_building w.built;
  transfers_are = lines_kept g half.transfers line bytes w.transfers_are goes.of_transfers;
  receiving_is = received.kept script.params lane g half.receiving half.transfers.is_out (span_told line half.transfers) line bytes sound
      (told line g half script lane w goes) goes.of_receiving w.receiving_is;
  in_pool = subst (λ is_out. InPool (rx_size script.params lane) is_out (after frame line half).receiving) (out_kept line half.transfers)
      (in_pool (rx_size script.params lane) half.transfers.is_out (span_told line half.transfers) line half.receiving (out_told line half.transfers goes.of_transfers) goes.of_receiving w.in_pool);
  read_is = read_kept line bytes g half.read w.read_is;
  accepted_are = accepted_kept script lane line bytes g half w.read_is w.accepted_are;
}

-- WHAT IT TELLS

pub head_kept : HeadIsKept
head_kept script lane g half sender w = head_is script lane g half.read sender w.read_is

pub feeds_kept : FeedsAreKept
feeds_kept script lane g half w =
    rw (head_kept script lane g half 0 w, head_kept script lane g half 1 w, head_kept script lane g half 2 w, head_kept script lane g half 3 w) refl

pub home_kept : HomeIsKept
home_kept script lane g half w = (transmit, home_counts script.params lane g half.receiving w.receiving_is)
  where
    size : tx_size half.building.params half.building.lane ≡ tx_size script.params lane
    size = ap (λ p. tx_size p half.building.lane) w.built.params_are ∙ ap (tx_size script.params) w.built.lane_is

    transmit : tx_home script.params lane g ≡ home half
    transmit =
        ap (λ n. tx_size script.params lane + n - (made g + claim script.params lane g)) w.transfers_are.home_is
        ∙ (ap (λ n. tx_size script.params lane + half.transfers.home - (n + claim script.params lane g)) w.transfers_are.made_is
        ∙ (ap (λ n. tx_size script.params lane + half.transfers.home - (length half.transfers.all + n)) (built.claimed script lane g half.building w.built)
        ∙ ap (λ n. n + half.transfers.home - (length half.transfers.all + one_if (claims half.building))) (sym size)))

pub taken_kept : TakenIsKept
taken_kept script lane g half w =
    sym (count_datagrams script lane g) ∙ (ap length w.accepted_are ∙ length-map half.accepted (frame_at script lane))
