use Rattle.std.proofs.Common.{◌∙◌, ap}
use Rattle.un_desc.specs.Reading.{function_of}
use Rattle.un_desc.proofs.Built.{built_is_read}
use Rattle.un_desc.proofs.writer.build.Goals as goal

pub returns-clause-read_back : goal.returns-clause-read_back
returns-clause-read_back c = ap function_of (c.make.ensures ∙ c.in_ok-whole.ensures) ∙ built_is_read c.args.params.now c.requires.range c.requires.described
