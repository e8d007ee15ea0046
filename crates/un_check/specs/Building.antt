-- What a checker keeps of what a lane builds: the accepted frames that are in no transfer yet. The rules on blocks follow the Linux
-- drivers cdc_ncm, outward, and f_ncm, inward.
use Rattle.std.specs.Prelude.{◌≡◌, ℕ, ◌+◌, ◌<◌, ◌≤◌, ◌^◌, Bool, true, false, not, ◌&&◌, List, [], length}
use Rattle.un_facts.specs.Lists.{is_empty}
use Rattle.un_frame.specs.declared.params.Lane.{Lane}
use Rattle.un_frame.specs.declared.params.Lane.TheVariants.{Outward, Inward}
use Rattle.un_frame.specs.declared.params.Params.{Params}
use Rattle.un_frame.specs.Lanes.{packs, outward_only}
use Rattle.un_journal.specs.Script.{Script, Frame}
use Rattle.un_journal.specs.History.{History, taken, cover, took_last}
use Rattle.un_journal.specs.Lookup.{built_frames, pending}
use Rattle.un_check.specs.declared.building.Building.TheInside.{Inside}

-- the parameters and the lane; the end of the last transfer that was made or dropped, and the accepted frames from there on; whether
-- the last of them was accepted after that transfer was made; and the ticks that an open outward block waits yet
pub record Building : Type 0 where
  pub params : Params
  pub lane : Lane
  pub cover : ℕ
  pub frames : List Frame
  pub is_fresh : Bool
  pub pending : ℕ

-- nothing was accepted
abbrev pub nothing_built : Params → Lane → Building
nothing_built params lane = record { params = params; lane = lane; cover = 0; frames = []; is_fresh = false; pending = 0 }

-- one more than the number of the last accepted datagram
abbrev pub end : Building → ℕ
end b = b.cover + length b.frames

-- whether a block is open, and whether it holds a transmit request that was claimed when it was opened
abbrev pub open_in : Lane → Building → Bool
open_in Outward b = packs b.params.class Outward && not (is_empty b.frames) && b.is_fresh
open_in Inward b = packs b.params.class Inward && not (is_empty b.frames)

abbrev pub is_open : Building → Bool
is_open b = open_in b.lane b

abbrev pub claims : Building → Bool
claims b = outward_only b.lane (is_open b)

-- it is that of the lane's lines g, the newest first
pub record IsBuilt (script : Script) (lane : Lane) (g : History) (b : Building) : Type 0 where
  pub params_are : b.params ≡ script.params
  pub lane_is : b.lane ≡ lane
  pub cover_is : cover g ≡ b.cover
  pub taken_is : taken g ≡ end b
  pub frames_are : built_frames script lane g ≡ b.frames
  pub fresh_is : took_last g ≡ b.is_fresh
  pub pending_is : pending script.params lane g ≡ b.pending
  -- outward what isn't an open block is a remainder: one frame at most
  pub remainder : lane ≡ Outward → b.is_fresh ≡ false → length b.frames ≤ 1

-- as the struct of that name keeps it
abbrev pub building_in : Inside → Building
building_in k = record {
  params = k.draft.params;
  lane = k.lane;
  cover = k.cover;
  frames = k.draft.frames;
  is_fresh = k.is_fresh;
  pending = k.pending;
}

-- what it holds besides: in a lane that packs one frame into a transfer nothing stays built
pub record IsBuilding (k : Inside) : Type 0 where
  pub limit : k.limit ≡ k.draft.params.datagrams
  pub packs_it : 0 < length k.draft.frames → packs k.draft.params.class k.lane ≡ true
  pub below : k.cover + length k.draft.frames < 2 ^ 64
