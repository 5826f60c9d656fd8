use Rattle.std.proofs.Common.{◌≡◌, drop}
use Rattle.strc_work_meaning.specs.Filters.{prework_block, members_of}
use Rattle.strc_work_code.specs.Bodies.{prework_statements}
use Rattle.strc_work_code.proofs.bodies.prework_block.Given as goal

abbrev pub invariant-loop-member : goal.invariant-loop-member
invariant-loop-member l = record {
  statements : prework_block (members_of (drop l.member-index l.members)) ≡ prework_block (members_of l.members);
  placed : prework_statements (drop l.member-index l.members) ≡ prework_statements l.members;
}
