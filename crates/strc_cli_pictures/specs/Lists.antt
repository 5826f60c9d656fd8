-- What is written of a graph's nodes, as lists.
use Rattle.std.specs.Prelude.{map}
use Rattle.strc_cli_pictures.specs.declared.nodes.Counted.{Counted}
use Rattle.strc_cli_pictures.specs.Pictures.{Nodes}

abbrev pub nodes_of : Counted → Nodes
nodes_of counted = record {
  names = map (λ l. l.items) counted.labels.now;
  kinds = counted.nodes.now;
  round = counted.round.now;
  startup = counted.startup.now;
  tapes = counted.tapes.now;
  shares = counted.shares.now;
}
