-- What a checker keeps of a lane: what it builds, its transfers, its receiving end, how far its feeds are read, and where each accepted
-- datagram stands in the script.
use Rattle.std.specs.Prelude.{◌≡◌, ℕ, ◌+◌, ◌-◌, List, [], map, length, unwrap_or, slice_get}
use Rattle.un_facts.specs.Numbers.{one_if}
use Rattle.un_frame.specs.declared.params.Lane.{Lane}
use Rattle.un_frame.specs.declared.params.Params.{Params}
use Rattle.un_frame.specs.Lanes.{tx_size, rx_size}
use Rattle.un_journal.specs.Script.{Script, Frame, frames_of}
use Rattle.un_journal.specs.History.{History}
use Rattle.un_journal.specs.Lookup.{datagrams}
use Rattle.un_script.specs.declared.cursors.Cursors.{Cursors}
use Rattle.un_script.specs.Cursors.{AreRead}
use Rattle.un_check.specs.declared.source.Source.{Source}
use Rattle.un_check.specs.Building.{Building, IsBuilt, nothing_built, claims}
use Rattle.un_check.specs.Transfers.{Transfers, AreOf, no_transfers}
use Rattle.un_check.specs.Receiving.{Receiving, IsOf, InPool, nothing_received}

pub record Half : Type 0 where
  pub building : Building
  pub transfers : Transfers
  pub receiving : Receiving
  pub read : Cursors
  pub accepted : List Source

-- before the first line
abbrev pub fresh_half : Params → Lane → Half
fresh_half params lane = record {
  building = nothing_built params lane;
  transfers = no_transfers;
  receiving = nothing_received params lane;
  read = record { first = 0; second = 0; third = 0; fourth = 0 };
  accepted = [];
}

-- the frame that stands there in the script
abbrev pub frame_at : Script → Lane → Source → Frame
frame_at script lane source = unwrap_or (slice_get (frames_of script lane source.sender) source.index) []

-- it is that of the lane's lines g, the newest first
pub record Keeps (script : Script) (lane : Lane) (g : History) (half : Half) : Type 0 where
  pub built : IsBuilt script lane g half.building
  pub transfers_are : AreOf g half.transfers
  pub receiving_is : IsOf script.params lane g half.receiving
  pub in_pool : InPool (rx_size script.params lane) half.transfers.is_out half.receiving
  pub read_is : AreRead half.read g
  pub accepted_are : datagrams script lane g ≡ map (frame_at script lane) half.accepted

-- how many transmit requests are at home
abbrev pub home : Half → ℕ
home half =
    tx_size half.building.params half.building.lane + half.transfers.home - (length half.transfers.all + one_if (claims half.building))
