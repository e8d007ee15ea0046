-- How often the number of a datagram stands in each place of its lane.
use Rattle.std.specs.Prelude.{◌≡◌, ℕ, ◌+◌, Bool, ◌==◌, List, [], ◌∷◌, ◌++◌, Option, Some, None, if◌then◌else◌}
use Rattle.un_facts.specs.Numbers.{one_if}
use Rattle.un_frame.specs.declared.params.Lane.{Lane}
use Rattle.un_frame.specs.declared.params.Params.{Params}
use Rattle.un_frame.specs.declared.kinds.Phase.{Phase}
use Rattle.un_journal.specs.declared.census.Census.{Census}
use Rattle.un_journal.specs.declared.lines.Line.TheVariants.{Failed, Cut, Dropped}
use Rattle.un_journal.specs.Script.{Script}
use Rattle.un_journal.specs.History.{History, past, taken, cover, span, span_numbers, numbers, left_of, flying, arrived, current, given, more_if, in_builder, in_list, in_transfer, at_peer, is_lost}
use Rattle.un_journal.specs.Lookup.{phase_of, block_open, deferred, queued}

-- how often n stands in a list
abbrev pub occurrences : ℕ → List ℕ → ℕ
occurrences n [] = 0
occurrences n (m ∷ ms) = more_if (m == n) (occurrences n ms)

-- the numbers of these transfers, one after the other
abbrev pub numbers_of : History → List ℕ → List ℕ
numbers_of g [] = []
numbers_of g (k ∷ ks) = span_numbers (span g k) ++ numbers_of g ks

-- the built numbers, in the open block or not
abbrev pub built_numbers : History → List ℕ
built_numbers g = numbers (cover g, taken g)

abbrev pub in_block : Bool → List ℕ → List ℕ
in_block is_open ns = if is_open then ns else []

abbrev pub outside_block : Bool → List ℕ → List ℕ
outside_block is_open ns = if is_open then [] else ns

-- what is left of the current transfer
abbrev pub left_in : History → Option ℕ → List ℕ
left_in g None = []
left_in g (Some k) = left_of g k

-- the numbers that were lost: those of each transfer that failed or was cut, and those that were dropped
abbrev pub lost_numbers : History → List ℕ
lost_numbers [] = []
lost_numbers ((Failed l k kind, bytes) ∷ g) = lost_numbers g ++ span_numbers (span g k)
lost_numbers ((Cut l k c, bytes) ∷ g) = lost_numbers g ++ span_numbers (span g k)
lost_numbers ((Dropped l a b c, bytes) ∷ g) = lost_numbers g ++ numbers (a, b)
lost_numbers (e ∷ g) = lost_numbers g

-- the census of a lane's lines g, the newest first
abbrev pub lane_census : Params → Phase → Lane → History → ℕ → Census
lane_census params phase lane g n = record {
  builder = occurrences n (in_block (block_open params lane g) (built_numbers g));
  remainder = occurrences n (outside_block (block_open params lane g) (built_numbers g));
  deferred = occurrences n (numbers_of g (deferred phase lane g));
  queued = occurrences n (numbers_of g (queued phase lane g));
  flying = occurrences n (numbers_of g (flying g));
  arrived = occurrences n (numbers_of g (arrived g));
  current = occurrences n (left_in g (current g));
  given = occurrences n (given g);
  lost = occurrences n (lost_numbers g);
}

-- the census of a link at a lane and a number
abbrev pub census : Script → History → Lane → ℕ → Census
census script h lane n = lane_census script.params (phase_of script h) lane (past lane h) n

-- all of its counts together
abbrev pub total : Census → ℕ
total c = c.builder + c.remainder + c.deferred + c.queued + c.flying + c.arrived + c.current + c.given + c.lost

-- the counts name the place of n: two of them the builder, four the list
pub record NamesPlace (c : Census) (g : History) (n : ℕ) : Type 0 where
  pub is_builder : c.builder + c.remainder ≡ one_if (in_builder g n)
  pub is_list : c.deferred + c.queued + c.arrived + c.current ≡ one_if (in_list g n)
  pub is_transfer : c.flying ≡ one_if (in_transfer g n)
  pub is_peer : c.given ≡ one_if (at_peer g n)
  pub is_loss : c.lost ≡ one_if (is_lost g n)

abbrev pub nowhere : Census
nowhere = record { builder = 0; remainder = 0; deferred = 0; queued = 0; flying = 0; arrived = 0; current = 0; given = 0; lost = 0 }
