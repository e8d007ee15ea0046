-- The words of the reasons for which a line is refused.
use Rattle.std.specs.Prelude.{ℕ, List, codes}
use Rattle.un_script.specs.declared.why.Why.{Why}
use Rattle.un_script.specs.declared.why.Why.TheVariants.{Word, Order, Number, Range, Hex, Count, Control, Fault}

abbrev pub why_word : Why → List ℕ
why_word Word = codes "word"
why_word Order = codes "order"
why_word Number = codes "number"
why_word Range = codes "range"
why_word Hex = codes "hex"
why_word Count = codes "count"
why_word Control = codes "control"
why_word Fault = codes "fault"
