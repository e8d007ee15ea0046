use Rattle.std.proofs.Common.{◌≡◌, Ok, ap, sym, ◌∙◌}
use Rattle.un_desc.specs.Configuration.{function}
use Rattle.un_desc.specs.Reading.{function_of}
use Rattle.un_desc.proofs.Built.{built_is_read}
use Rattle.un_setup.proofs.host.described.Goals as goal

pub unreachable-requires : goal.unreachable-requires
unreachable-requires c =
    let read : function_of c.args.configuration.now ≡ Ok (function c.args.params.now) = ap function_of c.requires.crossed ∙ built_is_read c.args.params.now c.requires.range c.requires.described in
    cc

pub returns-clause-function : goal.returns-clause-function
returns-clause-function c =
    let read : function_of c.args.configuration.now ≡ Ok (function c.args.params.now) = ap function_of c.requires.crossed ∙ built_is_read c.args.params.now c.requires.range c.requires.described in
    cc

pub returns-clause-read : goal.returns-clause-read
returns-clause-read c =
    let read : function_of c.args.configuration.now ≡ Ok (function c.args.params.now) = ap function_of c.requires.crossed ∙ built_is_read c.args.params.now c.requires.range c.requires.described in
    read ∙ ap Ok (sym (returns-clause-function c))
