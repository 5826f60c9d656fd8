use Rattle.std.proofs.Common.{◌≡◌, drop}
use Rattle.strc_parse_tree.specs.View.{member_view}
use Rattle.strc_work_meaning.specs.Filters.{members_of}
use Rattle.strc_work_rules.specs.Resolution.{members_resolved}
use Rattle.strc_work_rules.specs.RefusedPlaces.{members_place}
use Rattle.strc_work_rules.proofs.Resolved.{list_after}
use Rattle.strc_work_rules.proofs.resolution.resolve_members.Given as goal

abbrev pub invariant-loop-member : goal.invariant-loop-member
invariant-loop-member l = record {
  left : list_after member_view l.resolved.items
      (members_resolved l.constants l.helpers l.input l.output l.fields l.before l.known
      (members_of (drop l.member-index l.members)))
      ≡ members_resolved l.constants l.helpers l.input l.output l.initial.fields
      l.initial.before l.initial.known (members_of l.members);
  fields : l.fields ≡ l.initial.fields;
  here : l.here ≡ l.initial.here;
  place : members_place l.constants l.helpers l.input l.output l.fields l.before l.known
      l.initial.here (drop l.member-index l.members)
      ≡ members_place l.constants l.helpers l.input l.output l.initial.fields l.initial.before
      l.initial.known l.initial.here l.members;
}
