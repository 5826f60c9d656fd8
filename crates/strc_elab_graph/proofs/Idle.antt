-- A port that carries no items is idle.
use Rattle.std.proofs.Common.{◌≡◌, refl, ℕ, zero, suc, ◌<◌, Bool, true, false, arith}
use Rattle.std.proofs.Common.{◌⊎◌, inl, inr}
use Rattle.std.specs.Prelude.{nat_lt, slice_index}
use Rattle.std.proofs.lemmas.Bool.{ltb-false}
use Rattle.strc_elab_dataflow.specs.Flat.{Source}
use Rattle.strc_elab_dataflow.specs.Laws.{IsIdle}
use Rattle.strc_elab_graph.specs.Graphs.{NodeCode, Joiner, FileReader, input_ports, reads_input}
use Rattle.strc_elab_graph.specs.Carriers.{carries_in}
use Rattle.strc_elab_graph.specs.Meaning.{node_meaning, ports_in}

no_weight : (n : ℕ) → nat_lt 0 n ≡ false → n ≡ 0
no_weight n e = omega (arith, ltb-false 0 n e)

none_there : (port count : ℕ) → port < count → nat_lt port count ≡ false → ⊥
none_there port count less e = absurd (omega (arith, less, ltb-false port count e))

pub idle_port : (code : NodeCode) (port : ℕ) → port < input_ports code
    → carries_in code port ≡ false → IsIdle node_meaning code port
idle_port (Joiner weights) port less e = λ firing. (
  no_weight (slice_index weights port) e,
  no_weight (slice_index weights port) e,
)
idle_port code port less e = absurd (none_there port (input_ports code) less e)

graph_port : (code : NodeCode) (port : ℕ) (left right : Source) → port < input_ports code
    → (carries_in code port ≡ true → left ≡ right)
    → (left ≡ right) ⊎ IsIdle node_meaning code port
graph_port code port left right less same = by_value (carries_in code port) refl
  where
    by_value : (carried : Bool) → carries_in code port ≡ carried
        → (left ≡ right) ⊎ IsIdle node_meaning code port
    by_value true e = inl (same e)
    by_value false e = inr (idle_port code port less e)

input_port : (port : ℕ) (left right : ℕ → Source) → port < 1 → left 0 ≡ right 0
    → left port ≡ right port
input_port zero left right less same = same
input_port (suc port) left right less same = absurd (omega arith)

-- a port has the same source in both graphs, or is idle
pub same_or_idle : (code : NodeCode) (port : ℕ) (left right : ℕ → Source) → port < ports_in code
    → (carries_in code port ≡ true → left port ≡ right port)
    → (reads_input code ≡ true → left 0 ≡ right 0)
    → (left port ≡ right port) ⊎ IsIdle node_meaning code port
same_or_idle (FileReader text) port left right less same read =
    inl (input_port port left right less (read refl))
same_or_idle code port left right less same read =
    graph_port code port (left port) (right port) less same
