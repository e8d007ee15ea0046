-- What holds of each script that a text is.
use Rattle.std.specs.Prelude.{◌≡◌, ℕ, List, Ok}
use Rattle.un_journal.specs.Script.{Script}
use Rattle.un_script.specs.Ready.{IsReady}
use Rattle.un_script.specs.Reading.{script_of}

abbrev pub ReadScriptsAreReady : Type 0
ReadScriptsAreReady = (text : List ℕ) (script : Script) → script_of text ≡ Ok script → IsReady script
