use Rattle.std.proofs.Common.{◌<◌, ◌-◌, suc, length, slice_get, ap, ◌∙◌, arith}
use Rattle.strc_lex_names.specs.Names.{plain_names}
use Rattle.strc_elab_statements.specs.Captures.{unshadowed_one}
use Rattle.strc_elab_statements.proofs.Surroundings.{unshadowed_next}
use Rattle.strc_elab_statements.proofs.captures.unshadowed.Goals as goal

pub loop-number-preserved : goal.loop-number-preserved
loop-number-preserved c =
    let hidden = plain_names c.args.variables.now.names in
    let constants = c.args.constants.now in
    let number = c.loop-number.number in
    let below : number < length constants =
    omega (arith, c.len-number-end.ensures, c.loop-number-test.true) in
    c.in_ok-keep_unless_hidden.ensures
    ∙ ap (unshadowed_one hidden (slice_get constants (length constants - suc number)))
    c.loop-number.invariant
    ∙ unshadowed_next hidden constants number below
