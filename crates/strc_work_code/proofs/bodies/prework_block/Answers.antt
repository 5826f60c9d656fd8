use Rattle.std.proofs.Common.{Some, ◌<◌, ◌+◌, ◌∷◌, length, drop, sym, ap, ◌∙◌, arith}
use Rattle.std.proofs.lemmas.List.{drop_more}
use Rattle.strc_parse_tree.specs.View.{block_view, member_view}
use Rattle.strc_work_meaning.specs.Filters.{prework_block, members_of}
use Rattle.strc_parse_tree.proofs.Blocks.{member_view-Prework}
use Rattle.strc_lex_names.proofs.Lists.{map-drop}
use Rattle.strc_work_code.specs.Bodies.{prework_statements}
use Rattle.strc_work_code.proofs.Statements.{prework_statements-Prework}
use Rattle.strc_work_code.proofs.bodies.prework_block.Goals as goal

pub returns-in-Prework-clause-statements : goal.returns-in-Prework-clause-statements
returns-in-Prework-clause-statements c =
    let members = c.args.members.now in
    let i = c.loop-member.member-index in
    let lt : i < length members = omega arith in
    let rest = members_of (drop (i + 1) members) in
    ap (λ l. Some (block_view l)) c.deref.ensures.value
    ∙ ap (λ m. prework_block (m ∷ rest)) (sym
    (member_view-Prework c.in-Prework.field-0 c.in-Prework.block))
    ∙ ap (λ m. prework_block (member_view m ∷ rest)) (sym c.in-Prework.is)
    ∙ ap prework_block (sym (map-drop member_view members i c.member-item.result lt
    c.member-item.is))
    ∙ c.loop-member.invariant.statements

pub returns-in-Prework-clause-placed : goal.returns-in-Prework-clause-placed
returns-in-Prework-clause-placed c =
    let members = c.args.members.now in
    let i = c.loop-member.member-index in
    let rest = drop (i + 1) members in
    ap Some c.deref.ensures.value ∙ sym (prework_statements-Prework c.in-Prework.field-0 c.in-Prework.block rest)
    ∙ ap (λ m. prework_statements (m ∷ rest)) (sym c.in-Prework.is)
    ∙ ap (λ m. prework_statements (m ∷ rest)) c.member-item.is
    ∙ ap prework_statements (sym (drop_more members i c.member-item.result (omega arith))) ∙ c.loop-member.invariant.placed
