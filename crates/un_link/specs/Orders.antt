-- What a control does to the two paths.
use Rattle.std.specs.Prelude.{◌≡◌, ℕ}
use Rattle.un_frame.specs.declared.params.Lane.TheVariants.{Outward, Inward}
use Rattle.un_frame.specs.declared.kinds.Phase.{Phase}
use Rattle.un_journal.specs.declared.controls.Control.{Control as Order}
use Rattle.un_journal.specs.Script.{Script}
use Rattle.un_journal.specs.History.{History, past}
use Rattle.un_journal.specs.Log.{Log}
use Rattle.un_journal.specs.Lookup.{after_order}
use Rattle.un_journal.specs.Step.{order_lines}
use Rattle.un_lane.specs.Way.{Way, Adds}
use Rattle.un_lane.specs.Stands.{Stands}
use Rattle.un_link.specs.Keeps.{Keeps}

-- the two paths, each of its lane, stand for their lanes' lines
pub record AreBoth (out inward : Way) (log : Log) : Type 0 where
  pub out_lane : out.lane ≡ Outward
  pub in_lane : inward.lane ≡ Inward
  pub out_stands : Stands out (past Outward log.history)
  pub in_stands : Stands inward (past Inward log.history)

-- they keep what a link keeps in this phase
pub record KeepBoth (script : Script) (phase : Phase) (out inward : Way) (log : Log) : Type 0 where
  pub out_lane : out.lane ≡ Outward
  pub in_lane : inward.lane ≡ Inward
  pub out_keeps : Keeps script phase out (past Outward log.history)
  pub in_keeps : Keeps script phase inward (past Inward log.history)

-- lines are written, the paths stand again, and of each path this stays
pub record DoBoth (kept : Way → Way → Type 0) (lines : History) (out out' inward inward' : Way) (log log' : Log) : Type 0 where
  pub adds : Adds log log' lines
  pub both : AreBoth out' inward' log'
  pub out_kept : kept out out'
  pub in_kept : kept inward inward'

-- The lines of an order are written, both paths keep what they kept in the phase that it leaves, and no flight comes or goes.
pub record Obeys (script : Script) (order : Order) (cause : ℕ) (phase : Phase) (out out' inward inward' : Way) (log log' : Log) : Type 0 where
  pub adds : Adds log log' (order_lines order cause phase (past Outward log.history) (past Inward log.history))
  pub keep : KeepBoth script (after_order order phase) out' inward' log'
  pub out_flight : out'.bus.flight ≡ out.bus.flight
  pub in_flight : inward'.bus.flight ≡ inward.bus.flight
