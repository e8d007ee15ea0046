-- What a line needs of the script, of the phase and of its lane's lines before it, the newest first. Each line of a legal history
-- keeps its rule.
use Rattle.std.specs.Prelude.{◌≡◌, ◌≢◌, ℕ, ◌+◌, ◌-◌, ◌<◌, Bool, true, false, ◌||◌, List, [], ◌∷◌, Some, None, ◌⊎◌, filter, take}
use Rattle.un_facts.specs.Lists.{is_empty}
use Rattle.un_frame.specs.declared.params.Lane.{Lane}
use Rattle.un_frame.specs.declared.kinds.Phase.{Phase}
use Rattle.un_frame.specs.declared.kinds.Verdict.{Verdict}
use Rattle.un_frame.specs.Lanes.{tx_size, rx_size}
use Rattle.un_frame.specs.Verdict.{verdict_of}
use Rattle.un_frame.specs.Wire.{form}
use Rattle.un_journal.specs.declared.lines.Line.{Line}
use Rattle.un_journal.specs.declared.lines.Line.TheVariants.{Took, Refused, Made, Waited, Posted, Flying, Landed, Failed, Retried, Marked, Dropped, Gave, Recalled, Cleared, Settled}
use Rattle.un_frame.specs.Attempts.{ArrivesAfter, RetriesAfter, FailsAfter}
use Rattle.un_journal.specs.Script.{Script, Frame, planned}
use Rattle.un_journal.specs.History.{Entry, History, concerns, first, taken, made, cover, posted, mark, attempts, halted, current, left_of}
use Rattle.un_journal.specs.Lookup.{phase_after, works, is_awake, is_asleep, is_stopping, is_leaving, feed_head, built_frames, block_claims, span_after_took, tx_home, rx_home, pending}
use Rattle.un_journal.specs.Licence.{IsOrder}
use Rattle.un_journal.specs.LaneSteps.{datagram_bytes}

-- an accepted frame: the link is up or asleep, the frame is the head of its sender's feed and good, and where its line opens a block
-- that claims a request, one is at home
pub record TookRule (script : Script) (phase : Phase) (l l' : Lane) (s : ℕ) (bytes : List ℕ) (g : History) : Type 0 where
  pub is_working : works phase ≡ true
  pub frame : Frame
  pub is_head : feed_head script l g s ≡ Some frame
  pub is_good : verdict_of script.params l frame ≡ Verdict.Take
  pub pays : block_claims script.params l ((Took l' s, bytes) ∷ g) ≡ true → block_claims script.params l g ≡ false → 0 < tx_home script.params l g

-- a refused frame: the head of its sender's feed, with a verdict that refuses
pub record RefusedRule (script : Script) (l : Lane) (s : ℕ) (why : Verdict) (g : History) : Type 0 where
  pub frame : Frame
  pub is_head : feed_head script l g s ≡ Some frame
  pub is_bad : verdict_of script.params l frame ≡ why
  pub not_taken : why ≢ Verdict.Take

-- a transfer: it is the form of the frames of its span, which the last took line closes or which is all that is built, and it takes the
-- claimed request or one that is at home
pub record MadeRule (script : Script) (l : Lane) (a b : ℕ) (bytes : List ℕ) (g : History) : Type 0 where
  pub is_form : bytes ≡ form script.params (made g) (take (b - a) (built_frames script l g))
  pub is_closed : (span_after_took script l g ≡ Some (a, b)) ⊎ ((a ≡ cover g) × (b ≡ taken g))
  pub pays : (block_claims script.params l g ≡ true) ⊎ (0 < tx_home script.params l g)

-- a flight: the link doesn't sleep, the transfer isn't marked, the endpoint isn't halted, and a request is posted
pub record FlyingRule (phase : Phase) (k : ℕ) (g : History) : Type 0 where
  pub is_awake : is_asleep phase ≡ false
  pub is_unmarked : mark g k ≡ None
  pub not_halted : halted g ≡ false
  pub is_posted : 0 < posted g

-- a given datagram: the first of the current transfer that isn't given, with the bytes that the transfer has at its place
pub record GaveRule (script : Script) (n : ℕ) (bytes : List ℕ) (g : History) : Type 0 where
  pub serial : ℕ
  pub is_current : current g ≡ Some serial
  pub is_next : first (left_of g serial) ≡ Some n
  pub is_part : bytes ≡ datagram_bytes script.params g serial n

-- The rule of a line of lane l, in the phase, after the lane's lines g. A cut, an opened and a txhome line need no more than their order
-- (Sound).
abbrev pub LaneRule : Script → Phase → Lane → Entry → History → Type 0
LaneRule script phase l (Took l' s, bytes) g = TookRule script phase l l' s bytes g
LaneRule script phase l (Refused l' s why, bytes) g = RefusedRule script l s why g
LaneRule script phase l (Made l' k a b, bytes) g = MadeRule script l a b bytes g
LaneRule script phase l (Waited l', bytes) g = 0 < pending script.params l g
LaneRule script phase l (Posted l', bytes) g = (is_awake phase ≡ true) × (0 < rx_home script.params l g)
LaneRule script phase l (Flying l' k, bytes) g = FlyingRule phase k g
LaneRule script phase l (Landed l' k, bytes) g = (mark g k ≡ None) × ArrivesAfter (planned script l k) (attempts g k)
LaneRule script phase l (Failed l' k kind, bytes) g = (mark g k ≡ None) × FailsAfter (planned script l k) (attempts g k) kind
LaneRule script phase l (Retried l' k n, bytes) g = (mark g k ≡ None) × RetriesAfter (planned script l k) (attempts g k) × (n ≡ attempts g k + 1)
LaneRule script phase l (Marked l' k c, bytes) g = (mark g k ≡ None) × (k < made g)
LaneRule script phase l (Dropped l' a b c, bytes) g = (works phase ≡ false) × (b ≡ taken g)
LaneRule script phase l (Gave l' n, bytes) g = GaveRule script n bytes g
LaneRule script phase l (Recalled l', bytes) g = (is_awake phase ≡ false) × (0 < posted g)
LaneRule script phase l (Cleared l', bytes) g = halted g ≡ true
LaneRule script phase l (Settled t1 r1 t2 r2, bytes) g = (tx_home script.params l g ≡ tx_size script.params l) × (rx_home script.params l g ≡ rx_size script.params l)
LaneRule script phase l (e, bytes) g = Unit {0}

-- the rule of a line of the whole link: a control is the next one of the script, and a stop is settled only while it goes on
abbrev pub LinkRule : Script → Entry → History → Type 0
LinkRule script (Line.Control c f, bytes) older = IsOrder script older c
LinkRule script (Settled t1 r1 t2 r2, bytes) older = (is_stopping (phase_after script.controls older) || is_leaving (phase_after script.controls older)) ≡ true
LinkRule script (e, bytes) older = Unit {0}

-- bytes stand at made and gave lines alone
abbrev pub is_spelled : Entry → Bool
is_spelled (Made l k a b, bytes) = true
is_spelled (Gave l n, bytes) = true
is_spelled (e, bytes) = is_empty bytes

-- a line's rules: that of the link, and that of each lane that it concerns, in the phase that the lines before it leave
pub record Rule (script : Script) (e : Entry) (older : History) : Type 0 where
  pub is_bare : is_spelled e ≡ true
  pub of_link : LinkRule script e older
  pub of_lane : (l : Lane) → concerns l e ≡ true → LaneRule script (phase_after script.controls older) l e (filter (concerns l) older)

-- every line keeps its rules
abbrev pub AllRuled : Script → History → Type 0
AllRuled script [] = Unit {0}
AllRuled script (e ∷ older) = Rule script e older × AllRuled script older

-- a line of one lane that keeps the lane's rule in some phase
pub record Placed (script : Script) (l : Lane) (e : Entry) (g : History) : Type 0 where
  pub phase : Phase
  pub rule : LaneRule script phase l e g

-- every line of the lane does
abbrev pub AllLane : Script → Lane → History → Type 0
AllLane script l [] = Unit {0}
AllLane script l (e ∷ g) = Placed script l e g × AllLane script l g
