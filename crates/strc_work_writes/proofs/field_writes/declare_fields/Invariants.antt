use Rattle.std.proofs.Common.{◌≡◌, drop}
use Rattle.strc_work_meaning.specs.Filters.{members_of}
use Rattle.strc_work_writes.specs.Walk.{with_fields}
use Rattle.strc_work_writes.proofs.field_writes.declare_fields.Given as goal

abbrev pub invariant-loop-member : goal.invariant-loop-member
invariant-loop-member l = with_fields l.fields (members_of (drop l.member-index l.members))
    ≡ with_fields l.initial.fields (members_of l.members)
