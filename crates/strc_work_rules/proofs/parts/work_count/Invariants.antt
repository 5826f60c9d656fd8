use Rattle.std.proofs.Common.{◌≡◌, ◌≤◌, ◌+◌, drop}
use Rattle.strc_work_meaning.specs.Filters.{work_count, members_of}
use Rattle.strc_work_rules.proofs.parts.work_count.Given as goal

abbrev pub invariant-loop-member : goal.invariant-loop-member
invariant-loop-member l = record {
  within : l.count ≤ l.member-index;
  left : l.count + work_count (members_of (drop l.member-index l.members))
      ≡ work_count (members_of l.members);
}
