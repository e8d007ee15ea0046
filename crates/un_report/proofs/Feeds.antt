-- How many frames a sender has.
use Rattle.std.proofs.Common.{ℕ, zero, suc, ◌<◌, ◌≤◌, ◌≡◌, List, [], ◌∷◌, length, Some, slice_get, arith}
use Rattle.un_frame.specs.declared.params.Lane.{Lane}
use Rattle.un_frame.specs.declared.params.Lane.TheVariants.{Outward, Inward}
use Rattle.un_journal.specs.Script.{Script, Frame, Feeds, feed_list, frames_of, frames_in_all, frame_count}
use Rattle.std.specs.Option.{unwrap_or}

of_feeds : (feeds : Feeds) (sender : ℕ) → length (unwrap_or (slice_get (feed_list feeds) sender) []) ≤ frames_in_all feeds
of_feeds feeds zero = omega arith
of_feeds feeds (suc zero) = omega arith
of_feeds feeds (suc (suc zero)) = omega arith
of_feeds feeds (suc (suc (suc zero))) = omega arith
of_feeds feeds (suc (suc (suc (suc n)))) = omega arith

pub few : (script : Script) (lane : Lane) (sender : ℕ) → length (frames_of script lane sender) ≤ frame_count script
few script Outward sender = let a = of_feeds script.outward sender in omega (arith, a)
few script Inward sender = let a = of_feeds script.inward sender in omega (arith, a)

pub some_below : (frames : List Frame) (i : ℕ) (f : Frame) → slice_get frames i ≡ Some f → i < length frames
some_below [] i f e = absurd (cc)
some_below (x ∷ xs) zero f e = omega arith
some_below (x ∷ xs) (suc i) f e = let a = some_below xs i f e in omega (arith, a)
