use Rattle.std.proofs.Common.{◌≡◌, [], drop}
use Rattle.strc_work_meaning.specs.Filters.{members_of}
use Rattle.strc_work_rules.specs.Signatures.{signatures_after}
use Rattle.strc_work_rules.proofs.signatures.signatures_of.Given as goal

abbrev pub invariant-loop-member : goal.invariant-loop-member
invariant-loop-member l = signatures_after l.helpers (members_of (drop l.member-index l.members))
    ≡ signatures_after [] (members_of l.members)
