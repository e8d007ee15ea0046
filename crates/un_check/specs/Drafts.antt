-- An open transfer that a checker builds once more, in a request of its own.
use Rattle.std.specs.Prelude.{◌≡◌, ℕ, ◌<◌, ◌≤◌, ◌^◌, List}
use Rattle.un_frame.specs.declared.params.Params.{Params}
use Rattle.un_frame.specs.Params.{AreInRange, Agree}
use Rattle.un_frame.specs.Wire.{capacity_of}
use Rattle.un_agg.specs.Gadget.{IsPrivate}
use Rattle.un_check.specs.declared.draft.Draft.TheInside.{Inside}

-- the parameters, and the frames so far
pub record Draft : Type 0 where
  pub params : Params
  pub frames : List (List ℕ)

abbrev pub draft_in : Inside → Draft
draft_in d = record { params = d.block.params; frames = d.block.frames }

-- the one request is home where there are no frames, and else it is the block's
pub record IsDraft (d : Inside) : Type 0 where
  pub in_range : AreInRange d.block.params
  pub agree : Agree d.block.params
  pub private : IsPrivate d.block.claim d.block.frames d.own
  pub one : d.own.count ≡ 1
  pub small : capacity_of d.block.params < 2 ^ 32
  pub room : capacity_of d.block.params ≤ d.own.capacity
