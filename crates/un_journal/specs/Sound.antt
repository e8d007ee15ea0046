-- The lines of one lane in an order that a lane can write: what each line needs of the lane's lines before it, the newest first.
-- No script and no phase is in it. Both lanes of every legal history are sound.
use Rattle.std.specs.Prelude.{◌≡◌, ℕ, ◌<◌, ◌≤◌, true, false, [], ◌∷◌, Some, ◌⊎◌}
use Rattle.un_journal.specs.declared.lines.Line.TheVariants.{Made, Flying, Landed, Failed, Retried, Cut, Dropped, TxHome, Opened, Gave}
use Rattle.un_journal.specs.History.{Entry, History, taken, made, cover, flies, waits, ended, landed, opened, gave, serial_of, returned}

-- k is the first transfer that waits, and none flies
pub record IsNext (g : History) (k : ℕ) : Type 0 where
  pub is_made : k < made g
  pub is_waiting : waits g k ≡ true
  pub is_least : (j : ℕ) → j < k → waits g j ≡ false
  pub is_alone : (j : ℕ) → flies g j ≡ false

-- k is the first transfer that landed and isn't opened, and all that were opened are given whole
pub record IsFirstArrived (g : History) (k : ℕ) : Type 0 where
  pub is_landed : landed g k ≡ true
  pub is_unopened : opened g k ≡ false
  pub is_least : (j : ℕ) → j < k → landed g j ≡ true → opened g j ≡ true
  pub is_alone : (j n : ℕ) → opened g j ≡ true → serial_of g n ≡ Some j → gave g n ≡ true

-- n is the first number of an opened transfer that isn't given
pub record IsNextNumber (g : History) (n : ℕ) : Type 0 where
  pub serial : ℕ
  pub is_opened : opened g serial ≡ true
  pub is_in_span : serial_of g n ≡ Some serial
  pub is_left : gave g n ≡ false
  pub is_least : (m : ℕ) → m < n → serial_of g m ≡ Some serial → gave g m ≡ true
  -- and every other opened transfer is given whole
  pub is_alone : (j m : ℕ) → opened g j ≡ true → serial_of g m ≡ Some j → gave g m ≡ false → j ≡ serial

-- the span begins where the last one ended, isn't empty, and has accepted numbers alone
pub record IsNextSpan (g : History) (a b : ℕ) : Type 0 where
  pub begins : a ≡ cover g
  pub is_some : a < b
  pub is_taken : b ≤ taken g

-- what a line needs of the lane's lines before it
abbrev pub Follows : Entry → History → Type 0
Follows (Made l k a b, bytes) g = (k ≡ made g) × IsNextSpan g a b
Follows (Dropped l a b c, bytes) g = IsNextSpan g a b
Follows (Flying l k, bytes) g = IsNext g k
Follows (Landed l k, bytes) g = flies g k ≡ true
Follows (Failed l k kind, bytes) g = flies g k ≡ true
Follows (Retried l k n, bytes) g = flies g k ≡ true
Follows (Cut l k c, bytes) g = (flies g k ≡ true) ⊎ IsNext g k
Follows (TxHome l k, bytes) g = (k ≡ returned g) × (ended g k ≡ true)
Follows (Opened l k, bytes) g = IsFirstArrived g k
Follows (Gave l n, bytes) g = IsNextNumber g n
Follows (e, bytes) g = Unit {0}

abbrev pub IsSound : History → Type 0
IsSound [] = Unit {0}
IsSound (e ∷ g) = Follows e g × IsSound g
