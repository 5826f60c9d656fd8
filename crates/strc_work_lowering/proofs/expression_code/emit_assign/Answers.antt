use Rattle.std.proofs.Common.{◌≡◌, ◌+◌, true, Some, rules}
use Rattle.strc_parse_tree.specs.View.{expr_view}
use Rattle.strc_work_code.specs.Nodes.{before}
use Rattle.strc_work_code.specs.Lowering.{writes_no_variable, operand_nodes, operand_slot}
use Rattle.strc_work_meaning.specs.Scoping.{total, slot_of}
use Rattle.strc_work_lowering.specs.Emission.{compound_of, old_slot, old_nodes}
use Rattle.strc_work_lowering.specs.Written.{written}
use Rattle.strc_work_lowering.proofs.Emitted.{assigned_more, on_ok}
use Rattle.strc_work_lowering.proofs.expression_code.emit_assign.Goals as goal

pub returns-in_ok-right-in-Some : goal.returns-in_ok-right-in-Some
returns-in_ok-right-in-Some c =
    let names = c.args.names.now in
    let name = c.args.name.now in
    let value = expr_view c.args.value.now in
    let free = total names in
    let plain : compound_of c.args.operator ≡ Some c.in-Some.operator = search rules in
    let left : c.in_ok-left-in-Some.left ≡ old_slot (writes_no_variable value)
    (slot_of names name) free = search rules in
    let first : written c.save_old_value.new.code
    ≡ before (written c.args.code.now)
    (old_nodes (writes_no_variable value) (slot_of names name) free) = search rules in
    let right : c.in_ok-right-in-Some.right ≡ operand_slot names true value (free + 1) =
    search rules in
    let second : written c.emit_operand.new.code
    ≡ before (written c.save_old_value.new.code) (operand_nodes names true value (free + 1)) =
    search rules in
    on_ok c.put_at.result _ _ (λ last. assigned_more names name c.args.operator c.in-Some.operator
    value (slot_of names name) free c.in_ok-left-in-Some.left c.in_ok-right-in-Some.right
    (written c.args.code.now) (written c.save_old_value.new.code)
    (written c.emit_operand.new.code) (written c.put_at.new.self) plain left first right second
    (search rules)) c.put_at.ensures
