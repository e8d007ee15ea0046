-- The test whether two lanes are the same tells that they are.
use Rattle.std.proofs.Common.{◌≡◌, true, refl}
use Rattle.std.proofs.lemmas.Bool.{false≢true}
use Rattle.un_frame.specs.declared.params.Lane.{Lane}
use Rattle.un_frame.specs.declared.params.Lane.TheVariants.{Outward, Inward}
use Rattle.un_frame.specs.Lanes.{same_lane}

pub same_lane-is : (a b : Lane) → same_lane a b ≡ true → a ≡ b
same_lane-is Outward Outward e = refl
same_lane-is Outward Inward e = absurd (false≢true e)
same_lane-is Inward Outward e = absurd (false≢true e)
same_lane-is Inward Inward e = refl

pub same_lane-refl : (lane : Lane) → same_lane lane lane ≡ true
same_lane-refl Outward = refl
same_lane-refl Inward = refl
