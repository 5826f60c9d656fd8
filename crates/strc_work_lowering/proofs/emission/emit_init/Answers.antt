use Rattle.std.proofs.Common.{false, [], ◌∷◌, sym, ap, ◌∙◌}
use Rattle.std.proofs.lemmas.Result.{on_ok_weaker}
use Rattle.strc_parse_tree.specs.View.{block_view, member_view}
use Rattle.strc_work_code.specs.Nodes.{before}
use Rattle.strc_work_code.specs.Lowering.{stmts_nodes, inits_nodes}
use Rattle.strc_work_lowering.specs.Written.{written}
use Rattle.strc_parse_tree.proofs.Blocks.{member_view-Init}
use Rattle.strc_work_code.proofs.Nodes.{before_end}
use Rattle.strc_work_lowering.proofs.emission.emit_init.Goals as goal

pub returns-in-Init-clause-code : goal.returns-in-Init-clause-code
returns-in-Init-clause-code c =
    let names = c.args.names.now in
    let block = c.in-Init.block in
    let same =
    ap (λ l. stmts_nodes names false (block_view l)) c.deref.ensures.value
    ∙ sym (before_end (stmts_nodes names false (block_view block.items)))
    ∙ ap (λ m. inits_nodes names (m ∷ [])) (sym (member_view-Init block))
    ∙ ap (λ m. inits_nodes names (member_view m ∷ [])) (sym c.in-Init.is) in
    on_ok_weaker c.emit_block.result (λ h. h ∙ ap (before (written c.args.code.now)) same)
    c.emit_block.ensures.code
