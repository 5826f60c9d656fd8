use Rattle.std.proofs.Common.{◌≡◌, drop}
use Rattle.strc_work_meaning.specs.Filters.{members_of}
use Rattle.strc_emit_filter.specs.Filters.{among_members}
use Rattle.strc_emit_filter.proofs.filters.among_members.Given as goal

abbrev pub invariant-loop-member : goal.invariant-loop-member
invariant-loop-member l = among_members (members_of (drop l.member-index l.members))
    ≡ among_members (members_of l.members)
