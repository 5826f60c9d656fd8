use Rattle.std.proofs.Common.{◌≡◌, drop}
use Rattle.strc_work_meaning.specs.Filters.{prework_block, members_of}
use Rattle.strc_work_code.proofs.bodies.has_prework.Given as goal

abbrev pub invariant-loop-member : goal.invariant-loop-member
invariant-loop-member l = prework_block (members_of (drop l.member-index l.members))
    ≡ prework_block (members_of l.members)
