use Rattle.std.proofs.Common.{List, ℕ, Some, sym, ap, ◌∙◌, subst}
use Rattle.strc_parse_tree.specs.Tree as tree
use Rattle.strc_parse_tree.specs.declared.tree.Stmt.{Stmt}
use Rattle.strc_parse_tree.specs.View.{block_view, member_view}
use Rattle.strc_parse_tree.proofs.Blocks.{member_view-Helper}
use Rattle.strc_work_code.specs.declared.helper.HelperCode.{HelperCode}
use Rattle.strc_work_code.specs.Helpers.{IsHelper, IsHelperOf}
use Rattle.strc_work_lowering.proofs.helper_code.emit_member.Goals as goal

pub returns-in_ok-code-in-Helper-clause-code : goal.returns-in_ok-code-in-Helper-clause-code
returns-in_ok-code-in-Helper-clause-code c =
    let fields = c.args.names.now in
    let code : HelperCode = c.in_ok-code-in-Helper.code in
    let name : List ℕ = c.in-Helper.name in
    let helper = c.in_ok-code-in-Helper.ensures.code in
    let block = c.in-Helper.block in
    let parameters = c.in-Helper.parameters in
    let whole : IsHelper fields name parameters.items (block_view block.items) code =
    subst (λ (b : List Stmt). IsHelper fields name parameters.items (block_view b) code)
    c.deref-in-Helper.ensures.value
    (subst (λ (p : List (List ℕ)). IsHelper fields name p
    (block_view c.deref-in-Helper.result.now) code) c.deref.ensures.value helper) in
    let is = ap member_view c.in-Helper.is
    ∙ member_view-Helper c.in-Helper.field-0 c.in-Helper.name parameters block in
    subst (λ (m : tree.Member). IsHelperOf fields m (Some code)) (sym is) whole
