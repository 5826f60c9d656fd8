use Rattle.std.proofs.Common.{◌≡◌, ◌++◌, drop, reverse}
use Rattle.strc_work_meaning.specs.Filters.{members_of, sized_fields}
use Rattle.strc_work_lowering.proofs.emission.field_layout.Given as goal

abbrev pub invariant-loop-member : goal.invariant-loop-member
invariant-loop-member l = reverse (sized_fields (members_of (drop l.member-index l.members)))
    ++ l.fields ≡ reverse (sized_fields (members_of l.members))
