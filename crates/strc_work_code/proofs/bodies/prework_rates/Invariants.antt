use Rattle.std.proofs.Common.{◌≡◌, drop}
use Rattle.strc_work_meaning.specs.Filters.{prework_rates, members_of}
use Rattle.strc_work_code.proofs.bodies.prework_rates.Given as goal

abbrev pub invariant-loop-member : goal.invariant-loop-member
invariant-loop-member l = prework_rates (members_of (drop l.member-index l.members))
    ≡ prework_rates (members_of l.members)
