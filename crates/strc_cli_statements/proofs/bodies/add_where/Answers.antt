use Rattle.std.proofs.Common.{◌++◌, sym, ap, ◌∙◌, append-nil}
use Rattle.std.proofs.lemmas.List.{drop_all}
use Rattle.strc_cli_statements.proofs.Peeked.{none_left}
use Rattle.strc_cli_statements.proofs.bodies.add_where.Goals as goal

pub returns-in_default : goal.returns-in_default
returns-in_default c =
    let i = c.loop-number.number in
    let old = c.loop-number.found.items in
    sym (append-nil old)
    ∙ ap (λ l. old ++ l) (sym (none_left c.args.known c.args.sights.now c.args.places.now i
    (drop_all i c.args.places.now c.in_default.ensures.lookup.3))) ∙ c.loop-number.invariant
