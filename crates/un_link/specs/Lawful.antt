-- What holds of a history at every moment.
use Rattle.std.specs.Prelude.{◌≡◌, ℕ, ◌<◌, ◌++◌, ◌∷◌, List, reverse}
use Rattle.un_frame.specs.declared.params.Lane.{Lane}
use Rattle.un_journal.specs.declared.lines.Line.TheVariants.{Settled}
use Rattle.un_journal.specs.Script.{Script}
use Rattle.un_journal.specs.History.{Entry, History, past, taken, given}
use Rattle.un_journal.specs.Lookup.{datagrams}
use Rattle.un_journal.specs.Bytes.{AreDatagrams}
use Rattle.un_journal.specs.Places.{places, trues, IsRising, IsAllBelow}
use Rattle.un_journal.specs.Licence.{Licensed, FindsHome}
use Rattle.un_journal.specs.Fits.{Legal}

-- each accepted datagram is in exactly one place; what was given rises, was accepted and is unchanged; each loss has its cause; each settled line found every request home
pub record IsLawful (script : Script) (h : History) : Type 0 where
  pub one_place : (lane : Lane) (n : ℕ) → n < taken (past lane h) → trues (places (past lane h) n) ≡ 1
  pub given_rises : (lane : Lane) → IsRising (given (past lane h))
  pub given_accepted : (lane : Lane) → IsAllBelow (given (past lane h)) (taken (past lane h))
  pub given_unchanged : (lane : Lane) → AreDatagrams (datagrams script lane (past lane h)) (past lane h)
  pub licensed : (before after : History) (e : Entry) → h ≡ before ++ e ∷ after → Licensed script (reverse before) e
  pub settled_home : (before after : History) (t1 r1 t2 r2 : ℕ) (bytes : List ℕ) → h ≡ before ++ (Settled t1 r1 t2 r2, bytes) ∷ after → FindsHome script before t1 r1 t2 r2

-- a moment is what steps left
abbrev pub AtEveryMoment : Script → History → Type 0
AtEveryMoment script h = (moment rest : History) → h ≡ moment ++ rest → Legal script moment → IsLawful script moment
