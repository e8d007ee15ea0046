-- Two paths after lines of the one lane and then of the other.
use Rattle.std.proofs.Common.{◌≡◌, ℕ, [], ◌∷◌, ◌++◌, length, refl, sym, ap, ◌∙◌, subst, append-nil, filter}
use Rattle.un_frame.specs.declared.params.Lane.{Lane}
use Rattle.un_frame.specs.declared.params.Lane.TheVariants.{Outward, Inward}
use Rattle.un_journal.specs.History.{History, past, concerns, posted}
use Rattle.un_journal.specs.Log.{Log}
use Rattle.un_journal.specs.Step.{recalled_each, dropped_built}
use Rattle.un_journal.proofs.ForLink.{onto, AllOf, filter_of, filter_append, past_onto, past_own, past_other, onto_marked, cut_of, marked_of, recalled_of, dropped_of}
use Rattle.un_lane.specs.Way.{Way, HasRoom, Adds}
use Rattle.un_lane.specs.Controls.{Stays, unmarked_in, unmarked_lines, deferred_lines, posted_lines, dropped_lines}
use Rattle.un_lane.specs.Stands.{Stands}
use Rattle.un_lane.proofs.Adding.{adds_more, room_front, room_rest}
use Rattle.un_lane.proofs.LinkSteps.{posted_is}
use Rattle.un_link.specs.Orders.{AreBoth, DoBoth}

-- LINES OF ONE LANE

of_append : (lane : Lane) (xs ys : History) → AllOf lane xs → AllOf lane ys → AllOf lane (xs ++ ys)
of_append lane [] ys a b = b
of_append lane (x ∷ xs) ys a b = (a.0, of_append lane xs ys a.1 b)

pub unmarked_own : (c : ℕ) (way : Way) (g : History) → AllOf way.lane (unmarked_lines c way)
unmarked_own c way g = marked_of way.lane c _

pub posted_own : (way : Way) (g : History) → AllOf way.lane (posted_lines way)
posted_own way g = recalled_of way.lane _

pub dropped_own : (c : ℕ) (way : Way) (g : History) → AllOf way.lane (dropped_lines c way g)
dropped_own c way g = of_append way.lane (deferred_lines c way) (dropped_built way.lane c g) (cut_of way.lane c _) (dropped_of way.lane c g)

-- ONE PATH MOVES

pub own_lines : (lane own : Lane) (log log' : Log) (lines : History) → own ≡ lane → Adds log log' lines → AllOf own lines → past lane log'.history ≡ onto lines (past lane log.history)
own_lines lane own log log' lines e a of = ap (past lane) a.history_is ∙ past_own lane log.history lines (subst (λ l. AllOf l lines) e of)

pub in_same : (own : Lane) (log log' : Log) (lines : History) → own ≡ Outward → Adds log log' lines → AllOf own lines → past Inward log'.history ≡ past Inward log.history
in_same own log log' lines e a of = ap (past Inward) a.history_is ∙ past_other Outward Inward log.history lines (subst (λ l. AllOf l lines) e of) refl

pub out_same : (own : Lane) (log log' : Log) (lines : History) → own ≡ Inward → Adds log log' lines → AllOf own lines → past Outward log'.history ≡ past Outward log.history
out_same own log log' lines e a of = ap (past Outward) a.history_is ∙ past_other Inward Outward log.history lines (subst (λ l. AllOf l lines) e of) refl

out_moves : (out out' inward : Way) (log log' : Log) (lines : History) → AreBoth out inward log → Adds log log' lines → AllOf out.lane lines → Stands out' (past out'.lane log'.history) → out'.lane ≡ out.lane → AreBoth out' inward log'
out_moves out out' inward log log' lines b a of s same =
    let at : out'.lane ≡ Outward = same ∙ b.out_lane in
    record {
      out_lane = at;
      in_lane = b.in_lane;
      out_stands = subst (λ l. Stands out' (past l log'.history)) at s;
      in_stands = subst (Stands inward) (sym (in_same out.lane log log' lines b.out_lane a of)) b.in_stands;
    }

in_moves : (out inward inward' : Way) (log log' : Log) (lines : History) → AreBoth out inward log → Adds log log' lines → AllOf inward.lane lines → Stands inward' (past inward'.lane log'.history) → inward'.lane ≡ inward.lane → AreBoth out inward' log'
in_moves out inward inward' log log' lines b a of s same =
    let at : inward'.lane ≡ Inward = same ∙ b.in_lane in
    record {
      out_lane = b.out_lane;
      in_lane = at;
      out_stands = subst (Stands out) (sym (out_same inward.lane log log' lines b.in_lane a of)) b.out_stands;
      in_stands = subst (λ l. Stands inward' (past l log'.history)) at s;
    }

-- BOTH MOVE: the lines of a path follow from it and from its lane's lines

module _ (lines : Way → History → History) (own : (way : Way) (g : History) → AllOf way.lane (lines way g)) (out inward : Way) (log : Log) (b : AreBoth out inward log) where
  at_out : lines out (past Outward log.history) ≡ lines out (past out.lane log.history)
  at_out = ap (λ l. lines out (past l log.history)) (sym b.out_lane)

  pub first_room : HasRoom log (lines out (past Outward log.history) ++ lines inward (past Inward log.history)) → HasRoom log (lines out (past out.lane log.history))
  first_room r = subst (HasRoom log) at_out (room_front log (lines out (past Outward log.history)) (lines inward (past Inward log.history)) r)

  at_in : (log' : Log) → Adds log log' (lines out (past out.lane log.history)) → lines inward (past Inward log.history) ≡ lines inward (past inward.lane log'.history)
  at_in log' a = ap (lines inward) (sym (in_same out.lane log log' (lines out (past out.lane log.history)) b.out_lane a (own out (past out.lane log.history)))) ∙ ap (λ l. lines inward (past l log'.history)) (sym b.in_lane)

  pub second_stands : (log' : Log) → Adds log log' (lines out (past out.lane log.history)) → Stands inward (past inward.lane log'.history)
  second_stands log' a =
      subst (λ l. Stands inward (past l log'.history)) (sym b.in_lane)
      (subst (Stands inward) (sym (in_same out.lane log log' (lines out (past out.lane log.history)) b.out_lane a (own out (past out.lane log.history)))) b.in_stands)

  pub second_room : (log' : Log) → HasRoom log (lines out (past Outward log.history) ++ lines inward (past Inward log.history)) → Adds log log' (lines out (past out.lane log.history)) → HasRoom log' (lines inward (past inward.lane log'.history))
  second_room log' r a = subst (HasRoom log') (at_in log' a) (room_rest log log' (lines out (past Outward log.history)) (lines inward (past Inward log.history)) r (subst (Adds log log') (sym at_out) a))

  pub both_done : (kept : Way → Way → Type 0) (out' inward' : Way) (log' log'' : Log)
      → Adds log log' (lines out (past out.lane log.history)) → Stands out' (past out'.lane log'.history) → out'.lane ≡ out.lane → kept out out'
      → Adds log' log'' (lines inward (past inward.lane log'.history)) → Stands inward' (past inward'.lane log''.history) → inward'.lane ≡ inward.lane → kept inward inward'
      → DoBoth kept (lines out (past Outward log.history) ++ lines inward (past Inward log.history)) out out' inward inward' log log''
  both_done kept out' inward' log' log'' a s e k a' s' e' k' =
      let mid : AreBoth out' inward log' = out_moves out out' inward log log' (lines out (past out.lane log.history)) b a (own out (past out.lane log.history)) s e in
      record {
        adds = adds_more log log' log'' (lines out (past Outward log.history)) (lines inward (past Inward log.history)) (subst (Adds log log') (sym at_out) a) (subst (Adds log' log'') (sym (at_in log' a)) a');
        both = in_moves out' inward inward' log' log'' (lines inward (past inward.lane log'.history)) mid a' (own inward (past inward.lane log'.history)) s' e';
        out_kept = k;
        in_kept = k';
      }

-- MARKING LEAVES THE POSTED REQUESTS

module _ (c : ℕ) (out out' inward inward' : Way) (log log' : Log) (b : AreBoth out inward log) (d : DoBoth Stays (unmarked_lines c out ++ unmarked_lines c inward) out out' inward inward' log log') where
  out_of : AllOf Outward (unmarked_lines c out)
  out_of = subst (λ l. AllOf l (unmarked_lines c out)) b.out_lane (unmarked_own c out [])

  in_of : AllOf Inward (unmarked_lines c inward)
  in_of = subst (λ l. AllOf l (unmarked_lines c inward)) b.in_lane (unmarked_own c inward [])

  out_past : past Outward log'.history ≡ onto (unmarked_lines c out) (past Outward log.history)
  out_past =
      ap (past Outward) d.adds.history_is
      ∙ (past_onto Outward log.history (unmarked_lines c out ++ unmarked_lines c inward)
      ∙ ap (λ ls. onto ls (past Outward log.history)) (filter_append (concerns Outward) (unmarked_lines c out) (unmarked_lines c inward)
      ∙ (ap (λ ls. ls ++ filter (concerns Outward) (unmarked_lines c inward)) (filter_of Outward Outward (unmarked_lines c out) out_of)
      ∙ (ap (λ ls. unmarked_lines c out ++ ls) (filter_of Inward Outward (unmarked_lines c inward) in_of) ∙ append-nil (unmarked_lines c out)))))

  in_past : past Inward log'.history ≡ onto (unmarked_lines c inward) (past Inward log.history)
  in_past =
      ap (past Inward) d.adds.history_is
      ∙ (past_onto Inward log.history (unmarked_lines c out ++ unmarked_lines c inward)
      ∙ ap (λ ls. onto ls (past Inward log.history)) (filter_append (concerns Inward) (unmarked_lines c out) (unmarked_lines c inward)
      ∙ (ap (λ ls. ls ++ filter (concerns Inward) (unmarked_lines c inward)) (filter_of Outward Inward (unmarked_lines c out) out_of)
      ∙ filter_of Inward Inward (unmarked_lines c inward) in_of)))

  out_count : length out'.bus.posted ≡ length out.bus.posted
  out_count =
      sym (posted_is out' (past Outward log'.history) d.both.out_stands)
      ∙ (ap posted out_past ∙ (onto_marked posted out.lane c (λ k i. refl) (unmarked_in out.bus) (past Outward log.history) ∙ posted_is out (past Outward log.history) b.out_stands))

  in_count : length inward'.bus.posted ≡ length inward.bus.posted
  in_count =
      sym (posted_is inward' (past Inward log'.history) d.both.in_stands)
      ∙ (ap posted in_past ∙ (onto_marked posted inward.lane c (λ k i. refl) (unmarked_in inward.bus) (past Inward log.history) ∙ posted_is inward (past Inward log.history) b.in_stands))

  pub posted_same : posted_lines out' ++ posted_lines inward' ≡ posted_lines out ++ posted_lines inward
  posted_same =
      ap (λ xs. xs ++ posted_lines inward') (ap (λ l. recalled_each l (length out'.bus.posted)) d.out_kept.leaves.lane_is ∙ ap (recalled_each out.lane) out_count)
      ∙ ap (λ xs. posted_lines out ++ xs) (ap (λ l. recalled_each l (length inward'.bus.posted)) d.in_kept.leaves.lane_is ∙ ap (recalled_each inward.lane) in_count)
