use Rattle.std.proofs.Common.{◌<◌, ◌+◌, ◌∷◌, length, drop, sym, ap, ◌∙◌, arith}
use Rattle.std.proofs.lemmas.List.{drop_more}
use Rattle.strc_parse_tree.specs.View.{block_view, member_view}
use Rattle.strc_work_meaning.specs.Filters.{work_block, members_of}
use Rattle.strc_parse_tree.proofs.Blocks.{member_view-Work}
use Rattle.strc_lex_names.proofs.Lists.{map-drop}
use Rattle.strc_work_code.specs.Bodies.{work_statements}
use Rattle.strc_work_code.proofs.Statements.{work_statements-Work}
use Rattle.strc_work_code.proofs.bodies.work_block.Goals as goal

pub returns-in-Work-clause-statements : goal.returns-in-Work-clause-statements
returns-in-Work-clause-statements c =
    let members = c.args.members.now in
    let i = c.loop-member.member-index in
    let lt : i < length members = omega arith in
    let rest = members_of (drop (i + 1) members) in
    ap block_view c.deref.ensures.value
    ∙ ap (λ m. work_block (m ∷ rest)) (sym (member_view-Work c.in-Work.field-0 c.in-Work.block))
    ∙ ap (λ m. work_block (member_view m ∷ rest)) (sym c.in-Work.is)
    ∙ ap work_block (sym (map-drop member_view members i c.member-item.result lt c.member-item.is))
    ∙ c.loop-member.invariant.statements

pub returns-in-Work-clause-placed : goal.returns-in-Work-clause-placed
returns-in-Work-clause-placed c =
    let members = c.args.members.now in
    let i = c.loop-member.member-index in
    let rest = drop (i + 1) members in
    c.deref.ensures.value ∙ sym (work_statements-Work c.in-Work.field-0 c.in-Work.block rest)
    ∙ ap (λ m. work_statements (m ∷ rest)) (sym c.in-Work.is)
    ∙ ap (λ m. work_statements (m ∷ rest)) c.member-item.is
    ∙ ap work_statements (sym (drop_more members i c.member-item.result (omega arith))) ∙ c.loop-member.invariant.placed
