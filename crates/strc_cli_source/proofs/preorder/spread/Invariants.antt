use Rattle.std.proofs.Common.{◌≡◌, ◌<◌, ◌≤◌, All, length, take, true, false}
use Rattle.strc_cli_source.specs.Joined.{AreJoined, AreKept, IsFollowed, joined_count}
use Rattle.strc_cli_source.proofs.preorder.spread.Given as goal

abbrev pub invariant-loop-source : goal.invariant-loop-source
invariant-loop-source l = record {
  size : length l.joined.items ≡ length l.initial.joined.items;
  kept : AreKept l.initial.joined.items l.joined.items;
  joined : AreJoined l.links l.initial.joined.items → AreJoined l.links l.joined.items;
  count : joined_count l.initial.joined.items ≤ joined_count l.joined.items;
  more : l.changed ≡ true
      → joined_count l.initial.joined.items < joined_count l.joined.items;
  all : l.changed ≡ false → All (IsFollowed l.joined.items) (take l.source-index l.links);
}
