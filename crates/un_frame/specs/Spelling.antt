-- The words for lanes and classes in this project's texts. A word is read only as it is written.
use Rattle.std.specs.Prelude.{ℕ, List, [], ◌∷◌, codes, Option, Some, None, if◌then◌else◌}
use Rattle.std.specs.Str.{bytes_eq}
use Rattle.un_frame.specs.declared.params.Class.{Class}
use Rattle.un_frame.specs.declared.params.Lane.{Lane}
use Rattle.un_frame.specs.declared.params.Lane.TheVariants.{Outward, Inward}
use Rattle.un_frame.specs.Classes.{rules_of, CLASSES}

-- the word of a lane
abbrev pub lane_word : Lane → List ℕ
lane_word Outward = codes "out"
lane_word Inward = codes "in"

-- the lane of a word
abbrev pub lane_named : List ℕ → Option Lane
lane_named word = if bytes_eq word (codes "out") then Some Outward else (if bytes_eq word (codes "in") then Some Inward else None)

-- the word of a class
abbrev pub class_word : Class → List ℕ
class_word class = (rules_of class).word

-- the class of a word, of so many classes
abbrev pub named_of : List Class → List ℕ → Option Class
named_of [] word = None
named_of (class ∷ rest) word = if bytes_eq word (class_word class) then Some class else named_of rest word

-- the class of a word
abbrev pub class_named : List ℕ → Option Class
class_named word = named_of CLASSES word
