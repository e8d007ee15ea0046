-- Scripts, and texts that are none.
use Rattle.std.specs.Prelude.{◌≡◌, [], ◌∷◌, codes, Ok, Err, refl}
use Rattle.un_text.specs.Words.{words_in, number_from}
use Rattle.hex.specs.Hex.{decode_pairs}
use Rattle.un_frame.specs.declared.params.Class.TheVariants.{Ncm16}
use Rattle.un_frame.specs.declared.params.Lane.TheVariants.{Outward, Inward}
use Rattle.un_frame.specs.declared.kinds.Planned.TheVariants.{Proto, Halt}
use Rattle.un_journal.specs.declared.controls.Control.TheVariants.{Unlink}
use Rattle.un_script.specs.declared.why.Why.TheVariants.{Word, Control}
use Rattle.un_script.specs.Words.{lines_of}
use Rattle.un_frame.specs.Params.{defaults}
use Rattle.un_script.specs.Parts.{state_from, empty_script}
use Rattle.un_script.specs.Reading.{script_of, lines_read, line_read}

pub nothing : script_of [] ≡ Err (1, Word)
unfolding script_of lines_read lines_of
nothing = refl

pub too_early : script_of (codes "class ecm\nat out 0 resume\n") ≡ Err (2, Control)
unfolding script_of lines_read line_read lines_of words_in number_from state_from
too_early = refl

pub small : script_of (codes "# one\n\nclass ncm16\nrequests 1 2 3 4\nout 0 0aFF\nat in 7 unlink out\nfault out 3 halt\nfault in 0 proto\nfault in 1 proto 4") ≡ Ok (record (empty_script (record (defaults Ncm16) { tx_out = 1; rx_out = 2; tx_in = 3; rx_in = 4 })) {
  outward = record { first = (0x0a ∷ 0xff ∷ []) ∷ []; second = []; third = []; fourth = [] };
  controls = record { lane = Inward; want = 7; control = Unlink Outward } ∷ [];
  faults = record { lane = Outward; serial = 3; planned = Halt } ∷ record { lane = Inward; serial = 0; planned = Proto 1 } ∷ record { lane = Inward; serial = 1; planned = Proto 4 } ∷ [];
})
unfolding script_of lines_read line_read lines_of words_in number_from state_from decode_pairs
small = refl
