-- Worked rows: units that are fused, and a filter that is split in two ways.
use Rattle.std.specs.Prelude.{◌≡◌, ℕ, zero, suc, ◌+◌, true, eqb, ℤ, pos, List, [], ◌∷◌}
use Rattle.std.specs.Prelude.{take, drop, get_or}
use Rattle.strc_elab_dataflow.specs.Node.{ByPort, Fired, Fired.Fires, Meaning, at_port_0}
use Rattle.strc_elab_dataflow.specs.Flat.{Origin, Origin.Nowhere, Origin.Port, Source, Graph}
use Rattle.strc_elab_dataflow.specs.Answer.{Outcome, Outcome.Done, Outcome.StartupFault}
use Rattle.strc_elab_dataflow.specs.Answer.{Outcome.RoundFault}
use Rattle.strc_elab_dataflow.specs.Queues.{fifo_run}
use Rattle.strc_elab_dataflow.specs.FusedUnits.{firings_of, AreFused}
use Rattle.strc_elab_dataflow.specs.Split.{Parts, joined, IsSplitGraph}
use Rattle.strc_elab_dataflow.specs.Blocks.{Block, Block.One, Block.All, old_order, new_order}
use Rattle.strc_elab_dataflow.specs.Pieces.{unit_of}

-- A reader and a filter that fire three times, and a sum and a writer that fire twice: with lists
-- of two nodes at most two units are left.
pub record FusionRow : Type 0 where
  pub fused : AreFused (λ node. true) 2
      (unit_of 3 0 ∷ unit_of 3 1 ∷ unit_of 2 2 ∷ unit_of 2 3 ∷ [])
      (record { turns = 3; nodes = 0 ∷ 1 ∷ [] } ∷ record { turns = 2; nodes = 2 ∷ 3 ∷ [] } ∷ [])
  pub firings : firings_of
      (record { turns = 3; nodes = 0 ∷ 1 ∷ [] } ∷ record { turns = 2; nodes = 2 ∷ 3 ∷ [] } ∷ [])
      ≡ 0 ∷ 1 ∷ 0 ∷ 1 ∷ 0 ∷ 1 ∷ 2 ∷ 3 ∷ 2 ∷ 3 ∷ []

-- A counter, a filter that takes one item and gives the one after it, a printer; and the parts of
-- the filter.
pub data Code : Type 0 where
  Counter : Code
  Ahead : Code
  Printer : Code
  Scatter : Code
  Copy : Code
  Gather : Code
  Nothing : Code

-- The second of two items.
unfoldable pub second_of : List ℤ → List ℤ
second_of [] = []
second_of (x ∷ rest) = take 1 rest

unfoldable pub ports_of : Code → ℕ
ports_of Counter = 0
ports_of Nothing = 0
ports_of Gather = 2
ports_of _ = 1

unfoldable pub looks_at : Code → ℕ
looks_at Ahead = 2
looks_at Copy = 2
looks_at Scatter = 3
looks_at _ = 1

unfoldable pub takes_of : Code → ℕ
takes_of Scatter = 2
takes_of Copy = 2
takes_of _ = 1

unfoldable pub fires_as : Code → ℕ → ByPort → Fired ℕ ℕ ℤ
fires_as Counter n seen = Fires (suc n) (at_port_0 (pos n ∷ [])) []
fires_as Ahead n seen = Fires n (at_port_0 (second_of (seen 0))) []
fires_as Printer n seen = Fires n (λ port. []) (seen 0)
fires_as Scatter n seen = Fires n (λ i. take 2 (drop i (seen 0))) []
fires_as Copy n seen = Fires n (at_port_0 (second_of (seen 0))) []
fires_as Gather n seen = Fires n (at_port_0 (joined seen 2)) []
fires_as Nothing n seen = Fires n (λ port. []) []

unfoldable pub meaning : Meaning Code ℕ ℕ ℤ
meaning = record {
  start = λ code. 0;
  ports = ports_of;
  window = λ code firing port. looks_at code;
  popped = λ code firing port. takes_of code;
  pushed = λ code firing port. 1;
  fire = λ code firing. fires_as code;
}

unfoldable pub from : Origin → Source
from origin = record { enqueued = []; origin = origin }

unfoldable pub graph : Graph Code
graph = record {
  size = 3;
  code = λ node. get_or (Counter ∷ Ahead ∷ Printer ∷ []) node Nothing;
  source = λ node port. from (get_or (Nowhere ∷ Port 0 0 ∷ Port 1 0 ∷ []) node Nowhere);
}

unfoldable pub split_source : ℕ → ℕ → Origin
split_source node port = get_or (Nowhere ∷ Port 0 0 ∷ Port 1 0 ∷ Port 1 1
    ∷ get_or (Port 2 0 ∷ Port 3 0 ∷ []) port Nowhere ∷ Port 4 0 ∷ []) node Nowhere

unfoldable pub split_graph : Graph Code
split_graph = record {
  size = 6;
  code = λ node.
      get_or (Counter ∷ Scatter ∷ Copy ∷ Copy ∷ Gather ∷ Printer ∷ []) node Nothing;
  source = λ node port. from (split_source node port);
}

-- The number of each node's first part.
unfoldable pub base : ℕ → ℕ
base zero = 0
base (suc zero) = 1
base (suc (suc n)) = 5 + n

unfoldable pub two_ways : Parts
two_ways = record {
  is_split = λ node. eqb node 1;
  share = λ node. record { ways = 2; firings = 1; pop = 1; window = 2; push = 1 };
  name = λ node part. base node + part;
  first = λ node. 0;
}

abbrev pub blocks : List Block
blocks = One 0 ∷ One 0 ∷ All 1 ∷ One 2 ∷ One 2 ∷ []

-- What a node printed.
unfoldable pub printed : ℕ → Outcome ℕ ℤ → List ℤ
printed node (Done words) = words node
printed node (StartupFault stop) = []
printed node (RoundFault q stop words) = words node

-- The split graph has the parts that the laws ask for, and prints what the graph prints.
pub record FissionRow : Type 0 where
  pub is : IsSplitGraph two_ways meaning graph split_graph
  pub old_words : printed 2 (fifo_run meaning graph [] (old_order two_ways blocks) (0 ∷ []) 2)
      ≡ pos 1 ∷ pos 2 ∷ pos 3 ∷ pos 4 ∷ []
  pub new_words : printed 5
      (fifo_run meaning split_graph [] (new_order two_ways blocks) (0 ∷ []) 2)
      ≡ pos 1 ∷ pos 2 ∷ pos 3 ∷ pos 4 ∷ []
