use Rattle.std.proofs.Common.{◌≡◌, ◌++◌, drop}
use Rattle.strc_cli_source.specs.Preorders.{links_to}
use Rattle.strc_cli_source.proofs.preorder.Preorder.link_all.Given as goal

-- the channels so far, and then those from the sources left
abbrev pub invariant-loop-source : goal.invariant-loop-source
invariant-loop-source l = record {
  nodes : l.self.nodes ≡ l.initial.self.nodes;
  links : l.self.links.items
      ++ links_to l.target (drop l.source-index l.sources)
      ≡ l.initial.self.links.items ++ links_to l.target l.sources;
}
