-- What becomes of a text that is put on a page on its way to a sink.
use Rattle.std.specs.Prelude.{◌≡◌, ℕ, ◌≤◌, Bool, true, false, List, [], ◌++◌, Option}
use Rattle.std.specs.Io.KnownBytes.{Appends}
use Rattle.un_io.specs.Io.{Rose, Stopped}
use Rattle.un_text.specs.declared.page.Page.{Page}

-- The sink took some bytes, and they and what is pending are what was pending and the text.
abbrev pub Went : Option (List ℕ) → List ℕ → Option (List ℕ) → List ℕ → List ℕ → Type 0
Went held pending held' pending' text = (flushed : List ℕ) × Appends held held' flushed × (pending ++ text ≡ flushed ++ pending')

-- What a sink and a page before it have of a text, by whether a write had failed before, and whether one has afterwards. Where a write
-- failed, the sink took a front of what was pending and of the text, and not all of it, and its count of faults rose; afterwards it
-- takes nothing.
abbrev pub Became : Bool → Bool → Option (List ℕ) → ℕ → List ℕ → Option (List ℕ) → ℕ → List ℕ → List ℕ → Type 0
Became false false held faults pending held' faults' pending' text = Went held pending held' pending' text
Became false true held faults pending held' faults' pending' text = Stopped held held' (pending ++ text) × Rose faults faults'
Became true true held faults pending held' faults' pending' text = held' ≡ held
Became true false held faults pending held' faults' pending' text = ⊥

-- A text was put: a sink with these bytes, where it tells them, and this count of faults, and the page before it, have become those.
pub record Puts (held : Option (List ℕ)) (faults : ℕ) (old : Page) (held' : Option (List ℕ)) (faults' : ℕ) (new : Page) (text : List ℕ) : Type 0 where
  pub never_falls : faults ≤ faults'
  pub became : Became old.failed new.failed held faults old.pending held' faults' new.pending text

-- a page on which nothing was put
abbrev pub blank : Page
blank = record { pending = []; failed = false }
