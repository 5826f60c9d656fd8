-- A layout that is in a graph of nodes and sources: where its parts are in it.
use Rattle.std.proofs.Common.{◌≡◌, ℕ, suc, ◌+◌, List, ◌++◌, length, Some, slice_get}
use Rattle.std.proofs.Common.{ℤ, subst}
use Rattle.strc_elab_dataflow.specs.Flat.{Source}
use Rattle.strc_elab_dataflow.specs.Streams.{Layout, node_layout, chained_layout, beside_layout}
use Rattle.strc_elab_dataflow.specs.Streams.{fed_back_layout, source_at_0, prepend, delayed}
use Rattle.strc_elab_stream.proofs.Numbered.{Numbered, former, latter}
use Rattle.strc_elab_stream.proofs.Layouts.{HasSources}

module _ {Code : Type 0} (nodes : List Code) (source : ℕ → ℕ → Source) where
  abbrev pub IsCode : ℕ → Code → Type 0
  IsCode number code = slice_get nodes number ≡ Some code

  abbrev pub IsGiven : ℕ → (ℕ → Source) → Type 0
  IsGiven number given = source number ≡ given

  -- the part is there from this number on, where these sources come in
  pub record Sits (part : Layout Code) (first : ℕ) (before : ℕ → Source) : Type 0 where
    pub codes : Numbered IsCode first part.codes
    pub sources : Numbered IsGiven first (part.sources first before)

  pub node_code : (code : Code) (first : ℕ) (before : ℕ → Source)
      → Sits (node_layout code) first before → slice_get nodes first ≡ Some code
  unfolding node_layout
  node_code code first before sits = sits.codes.0

  pub node_source : (code : Code) (first : ℕ) (before : ℕ → Source)
      → Sits (node_layout code) first before → source first ≡ before
  unfolding node_layout
  node_source code first before sits = sits.sources.0

  -- the second of two lists of sources, which begins as far on as the first part has nodes
  second_sources : (part : Layout Code) → HasSources part → (first : ℕ) (before : ℕ → Source)
      → (others : List (ℕ → Source))
      → Numbered IsGiven first (part.sources first before ++ others)
      → Numbered IsGiven (first + length part.codes) others
  second_sources part has first before others both =
      subst (λ n. Numbered IsGiven (first + n) others) (has first before)
      (latter IsGiven (part.sources first before) others first both)

  module _ (a b : Layout Code) (first : ℕ) (before : ℕ → Source) where
    pub chained_first : Sits (chained_layout a b) first before → Sits a first before
    unfolding chained_layout
    chained_first sits = record {
      codes = former IsCode a.codes b.codes first sits.codes;
      sources = former IsGiven (a.sources first before)
          (b.sources (first + length a.codes) (a.outlet first)) first sits.sources;
    }

    pub chained_second : HasSources a → Sits (chained_layout a b) first before
        → Sits b (first + length a.codes) (a.outlet first)
    unfolding chained_layout
    chained_second has sits = record {
      codes = latter IsCode a.codes b.codes first sits.codes;
      sources = second_sources a has first before
          (b.sources (first + length a.codes) (a.outlet first)) sits.sources;
    }

    pub beside_first : Sits (beside_layout a b) first before
        → Sits a first (source_at_0 (before 0))
    unfolding beside_layout
    beside_first sits = record {
      codes = former IsCode a.codes b.codes first sits.codes;
      sources = former IsGiven (a.sources first (source_at_0 (before 0)))
          (b.sources (first + length a.codes) (λ port. before (suc port))) first sits.sources;
    }

    pub beside_second : HasSources a → Sits (beside_layout a b) first before
        → Sits b (first + length a.codes) (λ port. before (suc port))
    unfolding beside_layout
    beside_second has sits = record {
      codes = latter IsCode a.codes b.codes first sits.codes;
      sources = second_sources a has first (source_at_0 (before 0))
          (b.sources (first + length a.codes) (λ port. before (suc port))) sits.sources;
    }

  module _ (body loop : Layout Code) (enqueued : List ℤ) (first : ℕ) (before : ℕ → Source) where
    -- what comes to the body of a feedback loop
    abbrev pub around : ℕ → Source
    around = prepend (before 0)
        (source_at_0 (delayed enqueued (loop.outlet (first + length body.codes) 0)))

    pub fed_back_body : Sits (fed_back_layout body loop enqueued) first before
        → Sits body first around
    unfolding fed_back_layout
    fed_back_body sits = record {
      codes = former IsCode body.codes loop.codes first sits.codes;
      sources = former IsGiven (body.sources first around)
          (loop.sources (first + length body.codes) (source_at_0 (body.outlet first 1))) first
          sits.sources;
    }

    pub fed_back_loop : HasSources body → Sits (fed_back_layout body loop enqueued) first before
        → Sits loop (first + length body.codes) (source_at_0 (body.outlet first 1))
    unfolding fed_back_layout
    fed_back_loop has sits = record {
      codes = latter IsCode body.codes loop.codes first sits.codes;
      sources = second_sources body has first around
          (loop.sources (first + length body.codes) (source_at_0 (body.outlet first 1)))
          sits.sources;
    }
