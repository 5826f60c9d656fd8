use Rattle.std.proofs.Common.{◌≡◌, [], drop}
use Rattle.strc_work_meaning.specs.Filters.{members_of}
use Rattle.strc_work_meaning.specs.Typing.{names_after_fields}
use Rattle.strc_work_rules.proofs.resolution.typed_fields.Given as goal

abbrev pub invariant-loop-member : goal.invariant-loop-member
invariant-loop-member l = names_after_fields l.fields (members_of (drop l.member-index l.members))
    ≡ names_after_fields [] (members_of l.members)
