-- The code of a filter may go to another thread, and be lent to one.
-- Each type has lemmas of its own, since one search through all of them breaks off.
use denote.Param.Send.{IsSend, IsSync, enum_send, enum_sync, sendable}
use denote.Enum.Declared.{shape}
use Rattle.std.proofs.Crossing as heap
use Rattle.strc_lex_names.specs.contracts.name.Name as Name
use Rattle.strc_lex_names.specs.contracts.name.StringLiteral as StringLiteral
use Rattle.strc_parse_tree.proofs.tree.Child.TheLaws.TheKnot as statements
use Rattle.strc_parse_tree.proofs.tree.Expr.TheLaws.TheKnot as expressions
use Rattle.strc_parse_tree.specs.contracts.tree.Expr as Expr
use Rattle.strc_parse_tree.specs.contracts.tree.RateTree as RateTree
use Rattle.strc_parse_tree.specs.contracts.tree.VariableType as VariableType
use Rattle.strc_parse_tree.specs.contracts.tree.Variable as Variable
use Rattle.strc_parse_tree.specs.contracts.tree.Variables as Variables
use Rattle.strc_parse_tree.specs.contracts.tree.Splitter as Splitter
use Rattle.strc_parse_tree.specs.contracts.tree.Member as Member
use Rattle.strc_parse_tree.specs.contracts.tree.FilterTree as FilterTree
use Rattle.strc_work_code.proofs.node.Node.TheLaws.TheKnot as nodes
use Rattle.strc_work_code.specs.contracts.condition.Condition as Condition
use Rattle.strc_work_code.specs.contracts.helper.HelperCode as HelperCode
use Rattle.strc_work_code.specs.contracts.inst.Inst as Inst
use Rattle.strc_work_code.specs.contracts.limits.FiringLimits as FiringLimits
use Rattle.strc_work_code.specs.contracts.node.Node as Node
use Rattle.strc_work_code.specs.contracts.code.Routine as Routine
use Rattle.strc_work_code.specs.contracts.code.Lowered as Lowered
use Rattle.strc_work_code.specs.contracts.code.Code as Code

name_send : IsSend (Name.the_field).row
name_send = search (heap.crosses, sendable) depth 60 fits 20000

name_sync : IsSync (Name.the_field).row
name_sync = search (heap.crosses, sendable) depth 60 fits 20000

literal_send : IsSend (StringLiteral.the_field).row
literal_send = search (heap.crosses, sendable) depth 60 fits 20000

literal_sync : IsSync (StringLiteral.the_field).row
literal_sync = search (heap.crosses, sendable) depth 60 fits 20000

expr_send : IsSend (Expr.the_field).row
expr_send = search (name_send, expressions.crosses, heap.crosses, sendable) depth 60 fits 20000

expr_sync : IsSync (Expr.the_field).row
expr_sync = search (name_sync, expressions.crosses, heap.crosses, sendable) depth 60 fits 20000

rate_send : IsSend (RateTree.the_field).row
rate_send = search (expr_send, sendable) depth 60 fits 20000

rate_sync : IsSync (RateTree.the_field).row
rate_sync = search (expr_sync, sendable) depth 60 fits 20000

kind_send : IsSend (VariableType.the_field).row
kind_send = search (expr_send, sendable) depth 60 fits 20000

kind_sync : IsSync (VariableType.the_field).row
kind_sync = search (expr_sync, sendable) depth 60 fits 20000

variable_send : IsSend (Variable.the_field).row
variable_send = search (name_send, expr_send, sendable) depth 60 fits 20000

variable_sync : IsSync (Variable.the_field).row
variable_sync = search (name_sync, expr_sync, sendable) depth 60 fits 20000

variables_send : IsSend (Variables.the_field).row
variables_send = search (kind_send, variable_send, heap.crosses, sendable) depth 60 fits 20000

variables_sync : IsSync (Variables.the_field).row
variables_sync = search (kind_sync, variable_sync, heap.crosses, sendable) depth 60 fits 20000

splitter_send : IsSend (Splitter.the_field).row
splitter_send = search (expr_send, heap.crosses, sendable) depth 60 fits 20000

splitter_sync : IsSync (Splitter.the_field).row
splitter_sync = search (expr_sync, heap.crosses, sendable) depth 60 fits 20000

member_send : IsSend (Member.the_field).row
member_send = search (
  name_send,
  literal_send,
  expr_send,
  rate_send,
  variables_send,
  splitter_send,
  statements.crosses,
  heap.crosses,
  sendable,
) depth 60 fits 20000

member_sync : IsSync (Member.the_field).row
member_sync = search (
  name_sync,
  literal_sync,
  expr_sync,
  rate_sync,
  variables_sync,
  splitter_sync,
  statements.crosses,
  heap.crosses,
  sendable,
) depth 60 fits 20000

tree_send : IsSend (FilterTree.the_field).row
tree_send = search (member_send, heap.crosses, sendable) depth 60 fits 20000

tree_sync : IsSync (FilterTree.the_field).row
tree_sync = search (member_sync, heap.crosses, sendable) depth 60 fits 20000

condition_send : IsSend (Condition.the_field).row
condition_send = search (sendable) depth 60 fits 20000

condition_sync : IsSync (Condition.the_field).row
condition_sync = search (sendable) depth 60 fits 20000

inst_send : IsSend (Inst.the_field).row
inst_send = enum_send (shape Inst.the_type) (search (condition_send, sendable) depth 200 fits 20000)

inst_sync : IsSync (Inst.the_field).row
inst_sync = enum_sync (shape Inst.the_type) (search (condition_sync, sendable) depth 200 fits 20000)

node_send : IsSend (Node.the_field).row
node_send = search (
  condition_send,
  inst_send,
  nodes.crosses,
  heap.crosses,
  sendable,
) depth 60 fits 20000

node_sync : IsSync (Node.the_field).row
node_sync = search (
  condition_sync,
  inst_sync,
  nodes.crosses,
  heap.crosses,
  sendable,
) depth 60 fits 20000

limits_send : IsSend (FiringLimits.the_field).row
limits_send = search (sendable) depth 60 fits 20000

limits_sync : IsSync (FiringLimits.the_field).row
limits_sync = search (sendable) depth 60 fits 20000

routine_send : IsSend (Routine.the_field).row
routine_send = search (node_send, limits_send, sendable) depth 60 fits 20000

routine_sync : IsSync (Routine.the_field).row
routine_sync = search (node_sync, limits_sync, sendable) depth 60 fits 20000

helper_send : IsSend (HelperCode.the_field).row
helper_send = search (name_send, node_send, sendable) depth 60 fits 20000

helper_sync : IsSync (HelperCode.the_field).row
helper_sync = search (name_sync, node_sync, sendable) depth 60 fits 20000

lowered_send : IsSend (Lowered.the_field).row
lowered_send = search (
  tree_send,
  routine_send,
  helper_send,
  heap.crosses,
  sendable,
) depth 60 fits 20000

lowered_sync : IsSync (Lowered.the_field).row
lowered_sync = search (
  tree_sync,
  routine_sync,
  helper_sync,
  heap.crosses,
  sendable,
) depth 60 fits 20000

pub code_send : IsSend Code.the_row
code_send = search (lowered_send, lowered_sync, heap.crosses, sendable) depth 60 fits 20000

pub code_sync : IsSync Code.the_row
code_sync = search (lowered_send, lowered_sync, heap.crosses, sendable) depth 60 fits 20000
