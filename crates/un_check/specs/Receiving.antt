-- What a checker keeps of a lane's receiving end: how many requests are posted and at home, the transfers that landed and wait to be
-- opened, and the one that is read.
use Rattle.std.specs.Prelude.{◌≡◌, ℕ, ◌+◌, ◌-◌, ◌<◌, Bool, List, [], length, Option, Some, None, is_some}
use Rattle.un_facts.specs.Numbers.{one_if}
use Rattle.un_frame.specs.declared.params.Lane.{Lane}
use Rattle.un_frame.specs.declared.params.Params.{Params}
use Rattle.un_frame.specs.Lanes.{rx_size}
use Rattle.un_journal.specs.History.{History, arrived, current, left_of, row_from, posts, recalls, flights}
use Rattle.un_journal.specs.Lookup.{rx_back}
use Rattle.un_check.specs.declared.reading.Reading.{Reading}

-- the requests posted and at home, the transfers that landed and aren't opened, by serial, and the one that is read
pub record Receiving : Type 0 where
  pub posted : ℕ
  pub home : ℕ
  pub landed : List ℕ
  pub reading : Option Reading

-- every request at home
abbrev pub nothing_received : Params → Lane → Receiving
nothing_received params lane = record { posted = 0; home = rx_size params lane; landed = []; reading = None }

abbrev pub serial_in : Option Reading → Option ℕ
serial_in None = None
serial_in (Some r) = Some r.serial

-- its numbers from the next on are left, and there is one
pub record IsLeft (left : ℕ → List ℕ) (r : Reading) : Type 0 where
  pub numbers : left r.serial ≡ row_from r.next (r.to - r.next)
  pub some : r.next < r.to

abbrev pub ReadingIs : (Reading → Type 0) → Option Reading → Type 0
ReadingIs P None = Unit {0}
ReadingIs P (Some r) = P r

-- it is that of the lane's lines g, the newest first
pub record IsOf (params : Params) (lane : Lane) (g : History) (r : Receiving) : Type 0 where
  pub posted_is : recalls g + flights g + r.posted ≡ posts g
  pub home_is : r.home + posts g ≡ rx_back params lane g
  pub landed_is : arrived g ≡ r.landed
  pub reading_is : current g ≡ serial_in r.reading
  pub left_is : ReadingIs (IsLeft (left_of g)) r.reading

-- each of so many requests is in one place: posted, at home, with a transfer that flies, with one that landed, or with the one that is read
abbrev pub InPool : ℕ → Bool → Receiving → Type 0
InPool size is_out r = r.posted + r.home + one_if is_out + length r.landed + one_if (is_some r.reading) ≡ size
