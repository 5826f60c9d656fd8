use Rattle.std.proofs.Common.{◌≡◌, drop}
use Rattle.strc_work_meaning.specs.Filters.{work_block, members_of}
use Rattle.strc_work_code.specs.Bodies.{work_statements}
use Rattle.strc_work_code.proofs.bodies.work_block.Given as goal

abbrev pub invariant-loop-member : goal.invariant-loop-member
invariant-loop-member l = record {
  statements : work_block (members_of (drop l.member-index l.members)) ≡ work_block (members_of l.members);
  placed : work_statements (drop l.member-index l.members) ≡ work_statements l.members;
}
