-- How a gadget's builder keeps what is built.
use Rattle.std.specs.Prelude.{◌≡◌, ℕ, ◌+◌, ◌<◌, ◌≤◌, ◌^◌, true, List, [], ◌∷◌, length, Option, None, Some}
use Rattle.un_frame.specs.declared.params.Lane.TheVariants.{Inward}
use Rattle.un_frame.specs.Lanes.{packs}
use Rattle.un_frame.specs.Params.{AreInRange, Agree}
use Rattle.un_frame.specs.Wire.{capacity_of}
use Rattle.un_req.specs.Request.{Store}
use Rattle.un_agg.specs.Held.{Claim, Held}
use Rattle.un_agg.specs.declared.gadget.GadWrap.TheInside.{Inside}

-- no request of a lane's pool is claimed: the open block stands in the private one
abbrev pub held_in : Inside → Held
held_in a = record { params = a.block.params; from = a.from; frames = a.block.frames; claim = None; pending = 0 }

-- the one private request is home where no block is open, and else it is the block's
abbrev pub IsPrivate : Option Claim → List (List ℕ) → Store → Type 0
IsPrivate None frames own = (frames ≡ []) × (own.home ≡ 0 ∷ [])
IsPrivate (Some claim) frames own = (0 < length frames) × (own.home ≡ []) × (claim ≡ record { number = 0; capacity = own.capacity })

pub record IsGadget (a : Inside) : Type 0 where
  pub in_range : AreInRange a.block.params
  pub agree : Agree a.block.params
  pub private : IsPrivate a.block.claim a.block.frames a.own
  pub one : a.own.count ≡ 1
  pub small : capacity_of a.block.params < 2 ^ 32
  pub room : capacity_of a.block.params ≤ a.own.capacity
  pub packs_it : 0 < length a.block.frames → packs a.block.params.class Inward ≡ true
  pub below : a.from + length a.block.frames < 2 ^ 64
