use Rattle.std.proofs.Common.{◌≡◌, refl, sym, ap, ◌∙◌, ℕ, zero, suc, ◌<◌, Bool, true, false, cond}
use Rattle.std.proofs.Common.{eqb, ℤ, List, [], ◌∷◌, get_or, map, sum}
use Rattle.std.specs.Prelude.{if◌then◌else◌, slice_index_or}
use Rattle.strc_elab_dataflow.specs.Node.{at_port_0}
use Rattle.strc_elab_dataflow.specs.RoundRobin.{IsRoundRobinSplitter, IsDuplicateSplitter}
use Rattle.strc_elab_dataflow.specs.RoundRobin.{one_cycle}
use Rattle.strc_elab_dataflow.specs.RoundRobin.{IsRoundRobinJoiner}
use Rattle.strc_elab_graph.specs.Graphs.{Splitter, Joiner, Duplicate, Roundrobin}
use Rattle.strc_elab_graph.specs.Meaning.{node_meaning, split}
use Rattle.strc_elab_graph.specs.Laws.{carried_weight}
use Rattle.strc_elab_graph.proofs.laws.nodes_split_and_join.Goals as goal

round_robin_splitter : (weights : List ℕ) → 0 < sum weights
    → IsRoundRobinSplitter node_meaning (Splitter (Roundrobin weights)) weights
round_robin_splitter weights positive = record {
  positive = positive;
  ports = refl;
  window = λ firing. refl;
  popped = λ firing. refl;
  deals = λ firing fields seen. (
    [],
    split (Roundrobin weights) (seen 0),
    [],
    refl,
    λ port. refl,
  );
}

weight_at : (carried : List Bool) (port : ℕ)
    → get_or (map carried_weight carried) port 0
    ≡ carried_weight (slice_index_or carried port false)
weight_at [] port = refl
weight_at (first ∷ others) zero = refl
weight_at (first ∷ others) (suc port) = weight_at others port

by_weight : (carries : Bool) (items : List ℤ)
    → (if carries then items else []) ≡ cond (eqb (carried_weight carries) 0) [] items
by_weight true items = refl
by_weight false items = refl

duplicate_splitter : (carried : List Bool)
    → IsDuplicateSplitter node_meaning (Splitter (Duplicate carried)) (map carried_weight carried)
duplicate_splitter carried = record {
  ports = refl;
  window = λ firing. refl;
  popped = λ firing. refl;
  copies = λ firing fields seen. (
    [],
    split (Duplicate carried) (seen 0),
    [],
    refl,
    λ port.
        by_weight (slice_index_or carried port false) (seen 0)
        ∙ ap (λ (n : ℕ). cond (eqb n 0) [] (seen 0)) (sym (weight_at carried port)),
  );
}

round_robin_joiner : (weights : List ℕ) → IsRoundRobinJoiner node_meaning (Joiner weights) weights
unfolding at_port_0
round_robin_joiner weights = record {
  ports = refl;
  window = λ firing port. refl;
  popped = λ firing port. refl;
  joins = λ firing fields seen. (
    [],
    at_port_0 (one_cycle weights 0 seen),
    [],
    refl,
    refl,
  );
}

pub returns : goal.returns
returns c = λ weights carried. (
  round_robin_splitter weights,
  duplicate_splitter carried,
  round_robin_joiner weights,
)
