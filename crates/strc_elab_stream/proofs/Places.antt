-- Where a stream's tree is laid out, the stream is.
use Rattle.std.proofs.Common.{◌≡◌, ℕ, suc, ◌+◌, List, [], ◌∷◌, length, Some, None}
use Rattle.std.proofs.Common.{Option, slice_get, refl, sym, ap, ◌∙◌, subst, arith, length-append}
use Rattle.std.specs.Option.{option_map}
use Rattle.strc_elab_dataflow.specs.Flat.{Source}
use Rattle.strc_elab_dataflow.specs.Streams.{layout, pipeline_layout, branch_layout, node_layout}
use Rattle.strc_elab_dataflow.specs.Streams.{maybe_layout, chained_layout, delayed}
use Rattle.strc_elab_dataflow.specs.Streams.{source_at_0, prepend}
use Rattle.strc_elab_graph.specs.Graphs as graphs
use Rattle.strc_elab_graph.specs.Graphs.{NodeCode, SplitterCode}
use Rattle.strc_elab_stream.specs.Instances.{Stream, Streams, Filter, Identity, FileReader}
use Rattle.strc_elab_stream.specs.Instances.{FileWriter}
use Rattle.strc_elab_stream.specs.Instances.{Pipeline, SplitJoin, FeedbackLoop, Done, More}
use Rattle.strc_elab_stream.specs.Types.{IsWellTyped, AreWellTyped, AreEach, HasFirst}
use Rattle.strc_elab_stream.specs.Flattening.{tree_of, trees_of, row_nodes, size_of}
use Rattle.strc_elab_stream.specs.Flattening.{splitter_nodes}
use Rattle.strc_elab_stream.proofs.Nodes.{nodes_are_codes, branches_are_codes, splitter_codes}
use Rattle.strc_elab_stream.proofs.Layouts.{layout_sources, branch_sources, node_sources}
use Rattle.strc_elab_stream.proofs.Layouts.{maybe_sources}
use Rattle.strc_elab_stream.proofs.Layouts.{chained_sources}
use Rattle.strc_elab_stream.proofs.Outlets.{from, outlet, branch_outlets, splitter_outlet}
use Rattle.strc_elab_stream.proofs.Outlets.{outlet_is, branch_outlets_are}
use Rattle.strc_elab_stream.proofs.Sits.{Sits, node_code, node_source, chained_first}
use Rattle.strc_elab_stream.proofs.Sits.{chained_second}
use Rattle.strc_elab_stream.proofs.Sits.{beside_first, beside_second, fed_back_body, fed_back_loop}
use Rattle.strc_elab_stream.proofs.Sits.{around}
use Rattle.strc_elab_stream.proofs.Placed.{IsNode, Placed, PlacedRow, PlacedBranches}
use Rattle.strc_elab_stream.proofs.Placed.{PlacedSplitter}
use Rattle.strc_elab_stream.proofs.Placed.{PlacedJoiner}

module _ (nodes : List NodeCode) (source : ℕ → ℕ → Source) where
  node_placed : (code : NodeCode) (first : ℕ) (before : ℕ → Source)
      → Sits nodes source (node_layout code) first before
      → IsNode nodes source first (before 0) code
  node_placed code first before sits = (
    node_code nodes source code first before sits,
    ap (λ (f : ℕ → Source). f 0) (node_source nodes source code first before sits),
  )

  reader_placed : (text : List ℕ) (first : ℕ) (before : ℕ → Source)
      → Sits nodes source (layout (tree_of (FileReader text))) first before
      → Placed nodes source first (before 0) (FileReader text)
  unfolding layout node_layout source_at_0
  reader_placed text first before sits =
      (sits.codes.0, ap (λ (f : ℕ → Source). f 0) sits.sources.0)

  splitter_placed : (splitter : Option SplitterCode) (first : ℕ) (before : ℕ → Source)
      → Sits nodes source (maybe_layout (option_map graphs.Splitter splitter)) first before
      → PlacedSplitter nodes source first (before 0) splitter
  unfolding maybe_layout
  splitter_placed None first before sits = tt
  splitter_placed (Some splitter) first before sits =
      node_placed (graphs.Splitter splitter) first before sits

  joiner_placed : (joiner : Option (List ℕ)) (number other : ℕ) (before given : ℕ → Source)
      → number ≡ other → ((port : ℕ) → before port ≡ given port)
      → Sits nodes source (maybe_layout (option_map graphs.Joiner joiner)) number before
      → PlacedJoiner nodes source other given joiner
  unfolding maybe_layout
  joiner_placed None number other before given e same sits = tt
  joiner_placed (Some weights) number other before given e same sits =
      let code = graphs.Joiner weights in (
        subst (λ n. slice_get nodes n ≡ Some code) e
            (node_code nodes source code number before sits),
        λ port. ap (λ n. source n port) (sym e)
            ∙ ap (λ (f : ℕ → Source). f port) (node_source nodes source code number before sits)
            ∙ same port,
      )

  splitter_gives : (splitter : Option SplitterCode) (first : ℕ)
      → (maybe_layout (option_map graphs.Splitter splitter)).outlet first
      ≡ splitter_outlet first splitter
  unfolding maybe_layout node_layout
  splitter_gives None first = refl
  splitter_gives (Some splitter) first = refl

  -- the same node elsewhere
  moved_node : (code : NodeCode) (number other : ℕ) (before given : Source) → number ≡ other
      → before ≡ given → IsNode nodes source number before code
      → IsNode nodes source other given code
  moved_node code number other before given e same node = (
    subst (λ n. slice_get nodes n ≡ Some code) e node.0,
    ap (λ n. source n 0) (sym e) ∙ node.1 ∙ same,
  )

  moved : (stream : Stream) (number other : ℕ) (before given : Source) → number ≡ other
      → before ≡ given → Placed nodes source number before stream
      → Placed nodes source other given stream
  moved stream number other before given e same sits =
      subst (λ n. Placed nodes source n given stream) e
      (subst (λ s. Placed nodes source number s stream) same sits)

  moved_row : (streams : Streams) (number other : ℕ) (before given : Source) → number ≡ other
      → before ≡ given → PlacedRow nodes source number before streams
      → PlacedRow nodes source other given streams
  moved_row streams number other before given e same sits =
      subst (λ n. PlacedRow nodes source n given streams) e
      (subst (λ s. PlacedRow nodes source number s streams) same sits)

  moved_branches : (streams : Streams) (number other : ℕ) (before given : ℕ → Source)
      → number ≡ other → before ≡ given → PlacedBranches nodes source number before streams
      → PlacedBranches nodes source other given streams
  moved_branches streams number other before given e same sits =
      subst (λ n. PlacedBranches nodes source n given streams) e
      (subst (λ s. PlacedBranches nodes source number s streams) same sits)

  mutual
    unfolding layout pipeline_layout branch_layout node_layout chained_layout source_at_0 prepend

    pub placed : (stream : Stream) → IsWellTyped stream → (first : ℕ) (before : ℕ → Source)
        → Sits nodes source (layout (tree_of stream)) first before
        → Placed nodes source first (before 0) stream
    placed (Filter name filter) typed first before sits =
        node_placed (graphs.Filter name filter) first before sits
    placed Identity typed first before sits = node_placed graphs.Identity first before sits
    placed (FileReader text) typed first before sits = reader_placed text first before sits
    placed (FileWriter text) typed first before sits = node_placed (graphs.FileWriter text) first
        before sits
    placed (Pipeline children) typed first before sits =
        row_placed children typed.0 typed.1 first before sits
    placed (SplitJoin splitter children joiner) typed first before sits =
        let a = maybe_layout (option_map graphs.Splitter splitter) in
        let b = branch_layout (trees_of children) in
        let c = maybe_layout (option_map graphs.Joiner joiner) in
        let inner = first + length a.codes in
        let later : Sits nodes source (chained_layout b c) inner (a.outlet first) =
        chained_second nodes source a (chained_layout b c) first before
        (maybe_sources (option_map graphs.Splitter splitter)) sits in
        let splits : length a.codes ≡ length (splitter_nodes splitter) =
        sym (ap length (splitter_codes splitter)) in
        let branches : length b.codes ≡ length (row_nodes children) =
        sym (ap length (branches_are_codes children typed.0 typed.1)) in
        let at : inner ≡ first + length (splitter_nodes splitter) = omega (arith, splits) in (
          splitter_placed splitter first before
              (chained_first nodes source a (chained_layout b c) first before sits),
          moved_branches children inner (first + length (splitter_nodes splitter)) (a.outlet first)
              (splitter_outlet first splitter) at (splitter_gives splitter first)
              (branches_placed children typed.0 typed.1 inner (a.outlet first)
              (chained_first nodes source b c inner (a.outlet first) later)),
          joiner_placed joiner (inner + length b.codes)
              (first + length (splitter_nodes splitter) + length (row_nodes children))
              (b.outlet inner)
              (branch_outlets (first + length (splitter_nodes splitter)) children)
              (omega (arith, splits, branches))
              (λ port. branch_outlets_are children typed.0 typed.1 inner port
              ∙ ap (λ n. branch_outlets n children port) at)
              (chained_second nodes source b c inner (a.outlet first)
              (branch_sources (trees_of children)) later),
        )
    placed (FeedbackLoop joiner body splitter loop enqueued) typed first before sits =
        let j = node_layout (graphs.Joiner joiner) in
        let b = layout (tree_of body) in
        let s = node_layout (graphs.Splitter splitter) in
        let l = layout (tree_of loop) in
        let r = chained_layout j (chained_layout b s) in
        let comes = around nodes source r l enqueued first before in
        let ring : Sits nodes source r first comes =
        fed_back_body nodes source r l enqueued first before sits in
        let within : Sits nodes source (chained_layout b s) (first + 1) (j.outlet first) =
        chained_second nodes source j (chained_layout b s) first comes
        (node_sources (graphs.Joiner joiner)) ring in
        let front : Sits nodes source j first comes =
        chained_first nodes source j (chained_layout b s) first comes ring in
        let size : length b.codes ≡ size_of body =
        sym (ap length (nodes_are_codes body typed.3)) in
        let more = length-append b.codes (graphs.Splitter splitter ∷ []) in
        let later : first + length r.codes ≡ first + 2 + size_of body =
        omega (arith, size, more) in
        let split : first + 1 + length b.codes ≡ first + 1 + size_of body = omega (arith, size) in (
          node_placed (graphs.Joiner joiner) first comes front,
          ap (λ (f : ℕ → Source). f 1)
              (node_source nodes source (graphs.Joiner joiner) first comes front)
              ∙ ap (λ (given : Source). delayed enqueued given)
              (outlet_is loop typed.5 (first + length r.codes) ∙ ap (λ n. outlet n loop) later),
          placed body typed.3 (first + 1) (j.outlet first)
              (chained_first nodes source b s (first + 1) (j.outlet first) within),
          moved_node (graphs.Splitter splitter) (first + 1 + length b.codes)
              (first + 1 + size_of body) (b.outlet (first + 1) 0) (outlet (first + 1) body) split
              (outlet_is body typed.3 (first + 1))
              (node_placed (graphs.Splitter splitter) (first + 1 + length b.codes)
              (b.outlet (first + 1))
              (chained_second nodes source b s (first + 1) (j.outlet first)
              (layout_sources (tree_of body)) within)),
          moved loop (first + length r.codes) (first + 2 + size_of body)
              (from (first + 1 + length b.codes) 1) (from (first + 1 + size_of body) 1) later
              (ap (λ n. from n 1) split)
              (placed loop typed.5 (first + length r.codes) (source_at_0 (r.outlet first 1))
              (fed_back_loop nodes source r l enqueued first before
              (chained_sources j (chained_layout b s) (node_sources (graphs.Joiner joiner))
              (chained_sources b s (layout_sources (tree_of body))
              (node_sources (graphs.Splitter splitter)))) sits)),
        )

    row_placed : (children : Streams) → HasFirst children → AreWellTyped children → (first : ℕ)
        → (before : ℕ → Source)
        → Sits nodes source (pipeline_layout (trees_of children)) first before
        → PlacedRow nodes source first (before 0) children
    row_placed Done filled typed first before sits = tt
    row_placed (More next Done) filled typed first before sits =
        (placed next typed.0 first before sits, tt)
    row_placed (More next (More other rest)) filled typed first before sits =
        let a = layout (tree_of next) in
        let b = pipeline_layout (trees_of (More other rest)) in
        let size : length a.codes ≡ size_of next =
        sym (ap length (nodes_are_codes next typed.0)) in (
          placed next typed.0 first before (chained_first nodes source a b first before sits),
          moved_row (More other rest) (first + length a.codes) (first + size_of next)
              (a.outlet first 0) (outlet first next) (omega (arith, size))
              (outlet_is next typed.0 first)
              (row_placed (More other rest) tt typed.2 (first + length a.codes) (a.outlet first)
              (chained_second nodes source a b first before (layout_sources (tree_of next)) sits)),
        )

    branches_placed : (children : Streams) → HasFirst children → AreEach children → (first : ℕ)
        → (before : ℕ → Source)
        → Sits nodes source (branch_layout (trees_of children)) first before
        → PlacedBranches nodes source first before children
    branches_placed Done filled typed first before sits = tt
    branches_placed (More next Done) filled typed first before sits = (
      placed next typed.0 first (source_at_0 (before 0))
          (beside_first nodes source (layout (tree_of next)) (maybe_layout None) first before sits),
      tt,
    )
    branches_placed (More next (More other rest)) filled typed first before sits =
        let a = layout (tree_of next) in
        let b = branch_layout (trees_of (More other rest)) in
        let size : length a.codes ≡ size_of next =
        sym (ap length (nodes_are_codes next typed.0)) in (
          placed next typed.0 first (source_at_0 (before 0))
              (beside_first nodes source a b first before sits),
          moved_branches (More other rest) (first + length a.codes) (first + size_of next)
              (λ port. before (suc port)) (λ port. before (suc port)) (omega (arith, size)) refl
              (branches_placed (More other rest) tt typed.1 (first + length a.codes)
              (λ port. before (suc port))
              (beside_second nodes source a b first before (layout_sources (tree_of next)) sits)),
        )
