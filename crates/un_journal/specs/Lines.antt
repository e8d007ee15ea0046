-- The table of lines: each kind's word, and its fields with their types. What is written of a line, which lane it speaks of and which
-- numbers fit it is said of this table.
use Rattle.std.specs.Prelude.{◌<◌, ◌^◌, ℕ, Bool, false, List, [], ◌∷◌, codes, decimal}
use Rattle.un_frame.specs.Lanes.{same_lane}
use Rattle.un_frame.specs.Spelling.{lane_word}
use Rattle.un_frame.specs.declared.kinds.FaultKind.{FaultKind}
use Rattle.un_frame.specs.declared.kinds.Verdict.{Verdict}
use Rattle.un_frame.specs.declared.params.Lane.{Lane}
use Rattle.un_text.specs.Words.{verdict_word, kind_word, flag_word}
use Rattle.un_journal.specs.declared.lines.Line.{Line}
use Rattle.un_journal.specs.declared.lines.Line.TheVariants.{Took, Refused, Made, Waited, Posted, Flying, Landed, Failed, Retried, Marked, Cut, Dropped, TxHome, Opened, Gave, Recalled, Cleared, Control, Settled}

-- a field by its type: numbers have 32 or 64 bits
pub data Field : Type 0 where
  lane : Lane → Field
  short : ℕ → Field
  long : ℕ → Field
  reason : Verdict → Field
  fault : FaultKind → Field
  flag : Bool → Field

-- the word of a field
abbrev pub spelled : Field → List ℕ
spelled (lane l) = lane_word l
spelled (short n) = decimal n
spelled (long n) = decimal n
spelled (reason why) = verdict_word why
spelled (fault kind) = kind_word kind
spelled (flag f) = flag_word f

-- a number has no more bits than its type
abbrev pub IsOfItsType : Field → Type 0
IsOfItsType (short n) = n < 2 ^ 32
IsOfItsType (long n) = n < 2 ^ 64
IsOfItsType field = Unit {0}

-- whether the first field is the lane
abbrev pub begin_with : Lane → List Field → Bool
begin_with at (lane l ∷ fields) = same_lane at l
begin_with at fields = false

-- the first word of a line, and the fields after it, but for its bytes
pub record Row : Type 0 where
  pub name : List ℕ
  pub fields : List Field

abbrev pub row : Line → Row
row (Took l s) = record { name = codes "took"; fields = lane l ∷ short s ∷ [] }
row (Refused l s why) = record { name = codes "refused"; fields = lane l ∷ short s ∷ reason why ∷ [] }
row (Made l k a b) = record { name = codes "made"; fields = lane l ∷ long k ∷ long a ∷ long b ∷ [] }
row (Waited l) = record { name = codes "waited"; fields = lane l ∷ [] }
row (Posted l) = record { name = codes "posted"; fields = lane l ∷ [] }
row (Flying l k) = record { name = codes "flying"; fields = lane l ∷ long k ∷ [] }
row (Landed l k) = record { name = codes "landed"; fields = lane l ∷ long k ∷ [] }
row (Failed l k kind) = record { name = codes "failed"; fields = lane l ∷ long k ∷ fault kind ∷ [] }
row (Retried l k n) = record { name = codes "retried"; fields = lane l ∷ long k ∷ short n ∷ [] }
row (Marked l k c) = record { name = codes "marked"; fields = lane l ∷ long k ∷ short c ∷ [] }
row (Cut l k c) = record { name = codes "cut"; fields = lane l ∷ long k ∷ short c ∷ [] }
row (Dropped l a b c) = record { name = codes "dropped"; fields = lane l ∷ long a ∷ long b ∷ short c ∷ [] }
row (TxHome l k) = record { name = codes "txhome"; fields = lane l ∷ long k ∷ [] }
row (Opened l k) = record { name = codes "opened"; fields = lane l ∷ long k ∷ [] }
row (Gave l n) = record { name = codes "gave"; fields = lane l ∷ long n ∷ [] }
row (Recalled l) = record { name = codes "recalled"; fields = lane l ∷ [] }
row (Cleared l) = record { name = codes "cleared"; fields = lane l ∷ [] }
row (Control c f) = record { name = codes "did"; fields = short c ∷ flag f ∷ [] }
row (Settled t1 r1 t2 r2) = record { name = codes "settled"; fields = short t1 ∷ short r1 ∷ short t2 ∷ short r2 ∷ [] }
