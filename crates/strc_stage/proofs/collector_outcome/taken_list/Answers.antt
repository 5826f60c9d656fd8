use Rattle.std.proofs.Common.{◌∙◌, ap, arith, get_or, [], map, vec_items}
use Rattle.std.proofs.lemmas.List.{map-set, get_or-set_other}
use Rattle.strc_stage.proofs.collector_outcome.taken_list.Goals as goal

pub returns-clause-left : goal.returns-clause-left
returns-clause-left c = λ place past.
    let lists = c.args.lists.now.items in
    let number = c.args.number in
    let new = c.replace.new.dest in
    ap (λ l. get_or l place []) (map-set vec_items lists number new)
    ∙ get_or-set_other (map vec_items lists) number place (vec_items new) []
    (λ same. absurd (omega (arith, past, same)))
