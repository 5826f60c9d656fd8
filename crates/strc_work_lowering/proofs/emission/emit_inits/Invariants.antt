use Rattle.std.proofs.Common.{◌≡◌, drop}
use Rattle.strc_work_meaning.specs.Filters.{members_of}
use Rattle.strc_work_code.specs.Nodes.{before}
use Rattle.strc_work_code.specs.Lowering.{inits_nodes}
use Rattle.strc_work_lowering.specs.Written.{written}
use Rattle.strc_work_lowering.proofs.emission.emit_inits.Given as goal

abbrev pub invariant-loop-member : goal.invariant-loop-member
invariant-loop-member l = record {
  code : before (written l.code) (inits_nodes l.names (members_of (drop l.member-index l.members)))
      ≡ before (written l.initial.code) (inits_nodes l.initial.names (members_of l.members));
  names : l.names ≡ l.initial.names;
}
