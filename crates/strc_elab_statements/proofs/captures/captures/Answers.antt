use Rattle.std.proofs.Common.{◌≡◌, ◌<◌, ◌+◌, suc, length, sym, ap, ◌∙◌, arith}
use Rattle.strc_elab_statements.specs.Captures.{captured}
use Rattle.strc_elab_statements.proofs.Surroundings.{captures_at, captures_next}
use Rattle.strc_elab_statements.proofs.captures.captures.Goals as goal

pub loop-number-preserved : goal.loop-number-preserved
loop-number-preserved c =
    let names = c.args.variables.now.names in
    let variables = c.args.variables.now.variables in
    let constants = c.args.constants.now in
    let number = c.loop-number.number in
    let counts : length names ≡ length variables =
    sym c.count-number-end.ensures.names ∙ c.count-number-end.ensures.variables in
    let below : number < length names = omega (arith, c.count-number-end.ensures.names) in
    let next : number + 1 ≡ suc number = omega arith in
    c.in_ok-capture.ensures
    ∙ ap (captured names variables number) c.loop-number.invariant
    ∙ captures_next names variables number constants counts below
    ∙ ap (λ n. captures_at names variables n constants) (sym next)
