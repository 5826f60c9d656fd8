use Rattle.std.proofs.Common.{◌≡◌, ◌-◌, [], length}
use Rattle.strc_parse_tree.specs.View.{block_view}
use Rattle.strc_work_meaning.specs.Filters.{members_of}
use Rattle.strc_work_writes.specs.Walk.{with_fields}
use Rattle.strc_work_writes.specs.Writers.{helper_places}
use Rattle.strc_work_writes.proofs.Search.{HasSeen}
use Rattle.strc_work_writes.proofs.helper_writes.calls_writer.Given as goal

abbrev pub invariant-loop-next : goal.invariant-loop-next
invariant-loop-next l = record {
  fields : l.fields ≡ with_fields [] (members_of l.members);
  helpers : l.helpers ≡ helper_places 0 (members_of l.members);
  seen : HasSeen (members_of l.members) (block_view l.work) l.found l.next;
}

abbrev pub decreases-loop-next : goal.decreases-loop-next
decreases-loop-next l = length l.helpers - l.next
