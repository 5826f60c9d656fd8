use Rattle.std.proofs.Common.{sym, ap, ◌∙◌}
use Rattle.strc_parse_tree.specs.View.{block_view, member_view}
use Rattle.strc_parse_tree.proofs.Blocks.{member_view-Helper}
use Rattle.strc_work_writes.specs.Calls.{called_in_stmts}
use Rattle.strc_work_writes.specs.Writers.{Places, member_helper, helper_block_writes, writes_one}
use Rattle.strc_work_writes.specs.Writers.{called_by, with_calls}
use Rattle.strc_work_writes.proofs.helper_writes.writes_or_finds.Goals as goal

pub returns-then-branch-clause-writes : goal.returns-then-branch-clause-writes
returns-then-branch-clause-writes c =
    let fields = c.args.fields.now in
    let parameters = c.in-Helper.parameters in
    let block = c.in-Helper.block in
    sym c.if-branch.true
    ∙ c.in_ok-helper_writes-in-Helper.ensures
    ∙ ap (λ names. helper_block_writes fields names (block_view c.deref-in-Helper.result.now))
    c.deref.ensures.value
    ∙ ap (λ items. helper_block_writes fields parameters.items (block_view items))
    c.deref-in-Helper.ensures.value
    ∙ ap (λ m. writes_one fields (member_helper m))
    (sym (member_view-Helper c.in-Helper.field-0 c.in-Helper.field-1 parameters block))
    ∙ ap (λ m. writes_one fields (member_helper (member_view m))) (sym c.in-Helper.is)

pub returns-in_ok-find_in_block-in-Helper-clause-writes :
    goal.returns-in_ok-find_in_block-in-Helper-clause-writes
returns-in_ok-find_in_block-in-Helper-clause-writes c =
    let fields = c.args.fields.now in
    let parameters = c.in-Helper.parameters in
    let block = c.in-Helper.block in
    sym c.if-branch.false
    ∙ c.in_ok-helper_writes-in-Helper.ensures
    ∙ ap (λ names. helper_block_writes fields names (block_view c.deref-in-Helper.result.now))
    c.deref.ensures.value
    ∙ ap (λ items. helper_block_writes fields parameters.items (block_view items))
    c.deref-in-Helper.ensures.value
    ∙ ap (λ m. writes_one fields (member_helper m))
    (sym (member_view-Helper c.in-Helper.field-0 c.in-Helper.field-1 parameters block))
    ∙ ap (λ m. writes_one fields (member_helper (member_view m))) (sym c.in-Helper.is)

pub returns-in_ok-find_in_block-in-Helper-clause-finds :
    goal.returns-in_ok-find_in_block-in-Helper-clause-finds
returns-in_ok-find_in_block-in-Helper-clause-finds c none =
    let helpers : Places = c.args.helpers.now in
    let found : Places = c.args.found.now in
    let parameters = c.in-Helper.parameters in
    let block = c.in-Helper.block in
    c.in_ok-find_in_block-in-Helper.ensures
    ∙ ap (λ items. with_calls helpers found (called_in_stmts (block_view items)))
    c.deref-in-Helper-2.ensures.value
    ∙ ap (λ m. with_calls helpers found (called_by (member_helper m)))
    (sym (member_view-Helper c.in-Helper.field-0 c.in-Helper.field-1 parameters block))
    ∙ ap (λ m. with_calls helpers found (called_by (member_helper (member_view m))))
    (sym c.in-Helper.is)
