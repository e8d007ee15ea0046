-- What the program is asked to do, by the words after its name.
use Rattle.std.specs.Prelude.{ℕ, List, [], ◌∷◌, codes, Option, Some, None, ◌&&◌, nat_le, if◌then◌else◌}
use Rattle.std.specs.Str.{bytes_eq}
use Rattle.un_frame.specs.Spelling.{class_named}
use Rattle.un_frame.specs.declared.params.Class.{Class}
use Rattle.usbnet_run.specs.declared.words.Command.{Command}
use Rattle.usbnet_run.specs.declared.words.Command.TheVariants.{Serial, Decode}
use Rattle.usbnet_run.specs.declared.words.Job.{Job}
use Rattle.usbnet_run.specs.declared.words.Job.TheVariants.{Run, Load, Plain}
use Rattle.un_script.specs.Numbers.{number_of}

-- decode a transfer of a class
abbrev pub decode_of : Option Class → Option Command
decode_of None = None
decode_of (Some class) = Some (Decode class)

-- the one word "serial", or "decode" and the word of a class
abbrev pub command_of : List (List ℕ) → Option Command
command_of (word ∷ []) = if bytes_eq word (codes "serial") then Some Serial else None
command_of (word ∷ class ∷ []) = if bytes_eq word (codes "decode") then decode_of (class_named class) else None
command_of words = None

-- the most frames of a load
abbrev pub MOST_LOAD : ℕ
MOST_LOAD = 65536

-- a number of frames for a load
abbrev pub load_count : Option ℕ → Option ℕ
load_count None = None
load_count (Some count) = if nat_le 1 count && nat_le count MOST_LOAD then Some count else None

abbrev pub count_of : List ℕ → Option ℕ
count_of word = load_count (number_of word)

abbrev pub load_of : Option ℕ → Job
load_of None = Plain
load_of (Some count) = Load count

-- the one word "run", or "load" and a number of frames; all others ask for what is done without threads, or for nothing
abbrev pub job_of : List (List ℕ) → Job
job_of (word ∷ []) = if bytes_eq word (codes "run") then Run else Plain
job_of (word ∷ count ∷ []) = if bytes_eq word (codes "load") then load_of (count_of count) else Plain
job_of words = Plain
