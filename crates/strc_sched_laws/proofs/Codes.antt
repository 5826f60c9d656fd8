-- The codes of a flat graph's nodes are those of the graph of nodes and channels, and so is the
-- code that is past the last node.
use Rattle.std.proofs.Common.{◌≡◌, refl, sym, ap, ◌∙◌, ℕ, List, [], ◌∷◌, ◌++◌, length}
use Rattle.std.proofs.Common.{Some, None, Contains, slice_get, inl, inr, arith}
use Rattle.std.proofs.lemmas.Bool.{cases_lt}
use Rattle.std.proofs.lemmas.List.{get_or_past}
use Rattle.std.proofs.lemmas.List.Elements.{Contains-append_left, Contains-append_right}
use Rattle.std.proofs.lemmas.Option.{slice_get-get_or, get_or_from_slice_get}
use Rattle.strc_elab_dataflow.specs.Streams.{Stream, Stream.One, Stream.Reader, Stream.Pipeline}
use Rattle.strc_elab_dataflow.specs.Streams.{Stream.SplitJoin, Stream.FeedbackLoop, Streams}
use Rattle.strc_elab_dataflow.specs.Streams.{Streams.Last, Streams.More, layout, pipeline_layout}
use Rattle.strc_elab_dataflow.specs.Streams.{branch_layout, maybe_layout, node_layout}
use Rattle.strc_elab_dataflow.specs.Streams.{chained_layout}
use Rattle.strc_elab_dataflow.specs.Streams.{beside_layout, fed_back_layout, any_code, any_code_of}
use Rattle.strc_elab_dataflow.specs.Streams.{flat}
use Rattle.strc_elab_graph.specs.Graphs.{NodeCode, Graph}
use Rattle.strc_elab_graph.specs.FlatGraphs.{IsFlat}

module _ {Code : Type 0} where
  here : (code : Code) (rest : List Code) → Contains (code ∷ rest) code
  here code rest = (0, omega arith, refl)

  mutual
    unfolding layout chained_layout beside_layout fed_back_layout node_layout any_code

    any_there : (stream : Stream Code) → Contains (layout stream).codes (any_code stream)
    any_there (One code) = here code []
    any_there (Reader code) = here code []
    any_there (Pipeline streams) = any_in_pipeline streams
    any_there (SplitJoin splitter streams joiner) =
        Contains-append_right (maybe_layout splitter).codes
        ((branch_layout streams).codes ++ (maybe_layout joiner).codes) (any_code_of streams)
        (Contains-append_left (branch_layout streams).codes (maybe_layout joiner).codes
        (any_code_of streams) (any_in_branches streams))
    any_there (FeedbackLoop joiner body splitter loop enqueued) =
        Contains-append_left (joiner ∷ ((layout body).codes ++ splitter ∷ [])) (layout loop).codes
        joiner (here joiner ((layout body).codes ++ splitter ∷ []))

    any_in_pipeline : (streams : Streams Code)
        → Contains (pipeline_layout streams).codes (any_code_of streams)
    any_in_pipeline (Last stream) = any_there stream
    any_in_pipeline (More stream streams) =
        Contains-append_left (layout stream).codes (pipeline_layout streams).codes
        (any_code stream) (any_there stream)

    any_in_branches : (streams : Streams Code)
        → Contains (branch_layout streams).codes (any_code_of streams)
    any_in_branches (Last stream) =
        Contains-append_left (layout stream).codes (maybe_layout None).codes
        (any_code stream) (any_there stream)
    any_in_branches (More stream streams) =
        Contains-append_left (layout stream).codes (branch_layout streams).codes
        (any_code stream) (any_there stream)

module _ (tree : Stream NodeCode) (graph : Graph) (is : IsFlat tree graph) where
  -- the code of a node
  pub code_is : (node : ℕ) (code : NodeCode) → slice_get graph.nodes node ≡ Some code
      → (flat tree).code node ≡ code
  unfolding flat
  code_is node code there =
      get_or_from_slice_get (layout tree).codes node code (any_code tree)
      (ap (λ (codes : List NodeCode). slice_get codes node) (sym is.nodes) ∙ there)

  -- each code is one of the graph's
  pub code_there : (node : ℕ)
      → (place : ℕ) × (slice_get graph.nodes place ≡ Some ((flat tree).code node))
  unfolding flat
  code_there node =
      elim (cases_lt node (length codes)) [
        | inl within ↦ (
          node,
          ap (λ (l : List NodeCode). slice_get l node) is.nodes
              ∙ slice_get-get_or codes node (any_code tree) within,
        )
        | inr past ↦ (
          any_is.0,
          ap (λ (l : List NodeCode). slice_get l any_is.0) is.nodes
              ∙ slice_get-get_or codes any_is.0 (any_code tree) any_is.1
              ∙ ap Some (any_is.2 ∙ sym (get_or_past codes node (any_code tree) past)),
        )
      ]
    where
      codes : List NodeCode
      codes = (layout tree).codes

      any_is : Contains (layout tree).codes (any_code tree)
      any_is = any_there tree
