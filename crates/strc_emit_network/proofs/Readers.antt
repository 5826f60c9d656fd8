-- The first node that takes the input is one that does.
use Rattle.std.proofs.Common.{◌≡◌, ℕ, suc, ◌+◌, List, [], ◌∷◌, Option, Some, None, refl}
use Rattle.std.proofs.Common.{ap, ◌∙◌, arith}
use Rattle.std.specs.Prelude.{slice_get, unwrap_or, if◌then◌else◌}
use Rattle.std.specs.Option.{option_map}
use Rattle.strc_elab_graph.specs.declared.graph.Node.{Node}
use Rattle.strc_elab_graph.specs.Graphs.{NodeCode, reads_input}
use Rattle.strc_elab_graph.specs.Graphs as graphs
use Rattle.strc_elab_graph.specs.NodeView.{node_view}
use Rattle.strc_emit_runs.specs.Orders.{reader_from}
use Rattle.strc_emit_network.specs.Readers.{ReadersRead}

-- a reader, counted from the first of these nodes
record IsReader (number : ℕ) (nodes : List Node) (reader : ℕ) : Type 0 where
  place : ℕ
  text : List ℕ
  counted : reader ≡ number + place
  there : option_map node_view (slice_get nodes place) ≡ Some (graphs.FileReader text)

none_some : (reader : ℕ) → ◌≡◌ {A = Option ℕ} None (Some reader) → ⊥
none_some reader e = cc

further : (number : ℕ) (first : Node) (rest : List Node) (reader : ℕ)
    → IsReader (suc number) rest reader → IsReader number (first ∷ rest) reader
further number first rest reader found = record {
  place = suc found.place;
  text = found.text;
  counted = omega (arith, found.counted);
  there = found.there;
}

found_here : (number : ℕ) (first : Node) (rest : List Node) (reader : ℕ)
    → (reader_from (suc number) rest ≡ Some reader → IsReader (suc number) rest reader)
    → (code : NodeCode) → node_view first ≡ code
    → (if reads_input code then Some number else reader_from (suc number) rest) ≡ Some reader
    → IsReader number (first ∷ rest) reader
found_here number first rest reader later (graphs.FileReader text) is e = record {
  place = 0;
  text = text;
  counted = let same : number ≡ reader = ap (λ o. unwrap_or o number) e in omega (arith, same);
  there = ap Some is;
}
found_here number first rest reader later (graphs.Filter name filter) is e =
    further number first rest reader (later e)
found_here number first rest reader later graphs.Identity is e =
    further number first rest reader (later e)
found_here number first rest reader later (graphs.FileWriter text) is e =
    further number first rest reader (later e)
found_here number first rest reader later (graphs.Splitter splitter) is e =
    further number first rest reader (later e)
found_here number first rest reader later (graphs.Joiner weights) is e =
    further number first rest reader (later e)
found_here number first rest reader later (graphs.Scatter fission) is e =
    further number first rest reader (later e)
found_here number first rest reader later (graphs.Copy copied fission) is e =
    further number first rest reader (later e)
found_here number first rest reader later (graphs.Gather fission) is e =
    further number first rest reader (later e)

found : (number : ℕ) (nodes : List Node) (reader : ℕ) → reader_from number nodes ≡ Some reader
    → IsReader number nodes reader
found number [] reader e = absurd (none_some reader e)
found number (first ∷ rest) reader e =
    found_here number first rest reader (λ later. found (suc number) rest reader later)
    (node_view first) refl e

pub readers_read : ReadersRead
readers_read program reader e =
    let there = found 0 program.network.nodes.now reader e in
    let same : reader ≡ there.place = omega (arith, there.counted) in (
      there.text,
      ap (λ n. option_map node_view (slice_get program.network.nodes.now n)) same ∙ there.there,
    )
