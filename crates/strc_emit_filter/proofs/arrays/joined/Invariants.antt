use Rattle.std.proofs.Common.{◌≡◌}
use Rattle.strc_emit_filter.proofs.Joined.{AreSwept}
use Rattle.strc_emit_filter.proofs.arrays.joined.Given as goal

-- the slots that were looked at are swept
abbrev pub invariant-loop-end : goal.invariant-loop-end
invariant-loop-end l = record {
  counted : l.slot ≡ l.end-index;
  swept : AreSwept l.ends l.end-index l.start l.reach l.arrays.items;
}
