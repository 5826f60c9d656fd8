use Rattle.std.proofs.Common.{◌≡◌, ◌≤◌, drop, length}
use Rattle.strc_work_meaning.specs.Filters.{members_of}
use Rattle.strc_work_writes.specs.Writers.{helper_places}
use Rattle.strc_work_writes.proofs.helper_writes.places_of.Given as goal

abbrev pub invariant-loop-place : goal.invariant-loop-place
invariant-loop-place l = record {
  most : l.place ≤ length l.members;
  are : l.places ≡ helper_places l.place (members_of (drop l.place l.members));
}

abbrev pub decreases-loop-place : goal.decreases-loop-place
decreases-loop-place l = l.place
