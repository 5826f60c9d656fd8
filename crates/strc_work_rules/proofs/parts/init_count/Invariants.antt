use Rattle.std.proofs.Common.{◌≡◌, ◌≤◌, ◌+◌, drop}
use Rattle.strc_work_meaning.specs.Filters.{members_of}
use Rattle.strc_work_rules.specs.Resolution.{init_count}
use Rattle.strc_work_rules.proofs.parts.init_count.Given as goal

abbrev pub invariant-loop-member : goal.invariant-loop-member
invariant-loop-member l = record {
  within : l.count ≤ l.member-index;
  left : l.count + init_count (members_of (drop l.member-index l.members))
      ≡ init_count (members_of l.members);
}
