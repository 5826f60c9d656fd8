use Rattle.std.proofs.Common.{◌≡◌, ◌-◌, ◌<◌, length}
use Rattle.strc_cli_source.specs.Joined.{AreJoined, IsMarked, joined_count}
use Rattle.strc_cli_source.proofs.preorder.Preorder.first_apart.Given as goal

abbrev pub invariant-loop : goal.invariant-loop
invariant-loop l = record {
  size : length l.joined.items ≡ length l.self.nodes.items;
  joined : AreJoined l.self.links.items l.joined.items;
  first : 0 < length l.joined.items → IsMarked l.joined.items 0;
}

abbrev pub decreases-loop : goal.decreases-loop
decreases-loop l = length l.joined.items - joined_count l.joined.items
