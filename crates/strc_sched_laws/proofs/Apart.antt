-- In the flat graph of a tree no node gives to itself.
use Rattle.std.proofs.Common.{◌≡◌, refl, ap, subst, ℕ, zero, suc, ◌+◌, ◌-◌, ◌<◌, ◌≤◌, List}
use Rattle.std.proofs.Common.{[], ◌∷◌, ◌++◌, length, get_or, Option, Some, None, inl, inr, arith}
use Rattle.std.proofs.Common.{length-append, ℤ}
use Rattle.std.proofs.lemmas.Bool.{cases_lt}
use Rattle.std.proofs.lemmas.List.{get_or_past}
use Rattle.strc_elab_dataflow.specs.Flat.{Origin.Input, Origin.Port, Source}
use Rattle.strc_elab_dataflow.specs.Streams.{Stream, Stream.One, Stream.Reader, Stream.Pipeline}
use Rattle.strc_elab_dataflow.specs.Streams.{Stream.SplitJoin, Stream.FeedbackLoop, Streams}
use Rattle.strc_elab_dataflow.specs.Streams.{Streams.Last, Streams.More, Layout, source_at_0}
use Rattle.strc_elab_dataflow.specs.Streams.{delayed, prepend, node_layout, maybe_layout}
use Rattle.strc_elab_dataflow.specs.Streams.{chained_layout}
use Rattle.strc_elab_dataflow.specs.Streams.{beside_layout, fed_back_layout, layout}
use Rattle.strc_elab_dataflow.specs.Streams.{pipeline_layout}
use Rattle.strc_elab_dataflow.specs.Streams.{branch_layout, flat}
use Rattle.strc_sched_laws.proofs.Outside.{IsOutside, nothing_outside, outside_front, outside_back}
use Rattle.strc_sched_laws.proofs.Outside.{IsWithin, before_outside, after_outside, at_0_all}
use Rattle.strc_sched_laws.proofs.Outside.{first_all, none, either_part}

module _ {Code : Type 0} where
  -- each node of a part has sources, and none of them is the node; what leaves the part is its
  -- nodes'
  record IsApart (part : Layout Code) : Type 0 where
    each : (first : ℕ) (before : ℕ → Source)
        → length (part.sources first before) ≡ length part.codes
    nodes : (first : ℕ) (before : ℕ → Source)
        → ((port : ℕ) → IsOutside first (length part.codes) (before port))
        → (place : ℕ) → place < length part.codes
        → (port : ℕ) → IsOutside (first + place) 1
        (get_or (part.sources first before) place none port)
    outlet : (first port : ℕ) → IsWithin first (length part.codes) (part.outlet first port)

  node_apart : (code : Code) → IsApart (node_layout code)
  unfolding node_layout
  node_apart code = record {
    each = λ first before. refl;
    nodes = λ first before outside place less port. one first before outside place less port;
    outlet = λ first port node other e.
        let same : first ≡ node = cc in
        (omega (arith, same), omega (arith, same));
  }
    where
      one : (first : ℕ) (before : ℕ → Source) → ((port : ℕ) → IsOutside first 1 (before port))
          → (place : ℕ) → place < 1 → (port : ℕ)
          → IsOutside (first + place) 1 (get_or (before ∷ []) place none port)
      one first before outside zero less port node other e = elim (outside port node other e) [
        | inl below ↦ inl (omega (arith, below))
        | inr past ↦ inr (omega (arith, past))
      ]
      one first before outside (suc place) less port node other e = absurd (omega (arith, less))

  maybe_apart : (code : Option Code) → IsApart (maybe_layout code)
  unfolding maybe_layout
  maybe_apart (Some code) = node_apart code
  maybe_apart None = record {
    each = λ first before. refl;
    nodes = λ first before outside place less. absurd (omega (arith, less));
    outlet = λ first port node other e. absurd (cc);
  }

  -- two parts, where what comes into each is not its own
  module _ (a b : Layout Code) (is_a : IsApart a) (is_b : IsApart b) (first : ℕ)
      (before between : ℕ → Source) where
    both_each : length (a.sources first before ++ b.sources (first + length a.codes) between)
        ≡ length (a.codes ++ b.codes)
    both_each =
        omega (
          arith,
          length-append (a.sources first before) (b.sources (first + length a.codes) between),
          length-append a.codes b.codes,
          is_a.each first before,
          is_b.each (first + length a.codes) between,
        )

    both_nodes : ((port : ℕ) → IsOutside first (length a.codes) (before port))
        → ((port : ℕ) → IsOutside (first + length a.codes) (length b.codes) (between port))
        → (place : ℕ) → place < length (a.codes ++ b.codes) → (port : ℕ)
        → IsOutside (first + place) 1
        (get_or (a.sources first before ++ b.sources (first + length a.codes) between) place none
        port)
    both_nodes outside_a outside_b place less port =
        either_part (λ sources. IsOutside (first + place) 1 (sources port))
        (a.sources first before) (b.sources (first + length a.codes) between) place
        (λ front. is_a.nodes first before outside_a place
        (omega (arith, front, is_a.each first before)) port)
        (λ back. shifted (length (a.sources first before)) (is_a.each first before) back)
      where
        shifted : (count : ℕ) → count ≡ length a.codes → count ≤ place
            → IsOutside (first + place) 1
            (get_or (b.sources (first + length a.codes) between) (place - count) none port)
        shifted count same back =
            let here : (first + length a.codes) + (place - count) ≡ first + place = omega (
              arith,
              same,
              back,
            ) in
            subst (λ (number : ℕ). IsOutside number 1
            (get_or (b.sources (first + length a.codes) between) (place - count) none port)) here
            (is_b.nodes (first + length a.codes) between outside_b (place - count)
            (omega (arith, less, back, same, length-append a.codes b.codes)) port)

  within_front : (a b : Layout Code) (first : ℕ) (source : Source)
      → IsWithin first (length a.codes) source → IsWithin first (length (a.codes ++ b.codes)) source
  within_front a b first source within node port e =
      let is = within node port e in
      (is.0, omega (arith, is.1, length-append a.codes b.codes))

  within_back : (a b : Layout Code) (first : ℕ) (source : Source)
      → IsWithin (first + length a.codes) (length b.codes) source
      → IsWithin first (length (a.codes ++ b.codes)) source
  within_back a b first source within node port e =
      let is = within node port e in
      (omega (arith, is.0), omega (arith, is.1, length-append a.codes b.codes))

  whole_outside : (a b : Layout Code) (first : ℕ) (source : Source)
      → IsOutside first (length (a.codes ++ b.codes)) source
      → IsOutside first (length a.codes + length b.codes) source
  whole_outside a b first source =
      subst (λ (count : ℕ). IsOutside first count source) (length-append a.codes b.codes)

  chained_apart : (a b : Layout Code) → IsApart a → IsApart b → IsApart (chained_layout a b)
  unfolding chained_layout
  chained_apart a b is_a is_b = record {
    each = λ first before. both_each a b is_a is_b first before (a.outlet first);
    nodes = λ first before outside. both_nodes a b is_a is_b first before (a.outlet first)
        (λ port. outside_front first (length a.codes) (length b.codes) (before port)
        (whole_outside a b first (before port) (outside port)))
        (λ port. before_outside first (length a.codes) (length b.codes) (a.outlet first port)
        (is_a.outlet first port));
    outlet = λ first port. within_back a b first (b.outlet (first + length a.codes) port)
        (is_b.outlet (first + length a.codes) port);
  }

  beside_apart : (a b : Layout Code) → IsApart a → IsApart b → IsApart (beside_layout a b)
  unfolding beside_layout
  beside_apart a b is_a is_b = record {
    each = λ first before. both_each a b is_a is_b first (source_at_0 (before 0))
        (λ port. before (suc port));
    nodes = λ first before outside. both_nodes a b is_a is_b first (source_at_0 (before 0))
        (λ port. before (suc port))
        (at_0_all (IsOutside first (length a.codes)) (before 0)
        (outside_front first (length a.codes) (length b.codes) (before 0)
        (whole_outside a b first (before 0) (outside 0)))
        (nothing_outside first (length a.codes)))
        (λ port. outside_back first (length a.codes) (length b.codes) (before (suc port))
        (whole_outside a b first (before (suc port)) (outside (suc port))));
    outlet = λ first. first_all (IsWithin first (length (a.codes ++ b.codes)))
        (a.outlet first 0) (b.outlet (first + length a.codes))
        (within_front a b first (a.outlet first 0) (is_a.outlet first 0))
        (λ port. within_back a b first (b.outlet (first + length a.codes) port)
        (is_b.outlet (first + length a.codes) port));
  }

  fed_back_apart : (a b : Layout Code) (enqueued : List ℤ) → IsApart a → IsApart b
      → IsApart (fed_back_layout a b enqueued)
  unfolding fed_back_layout delayed
  fed_back_apart a b enqueued is_a is_b = record {
    each = λ first before. both_each a b is_a is_b first (into first before)
        (source_at_0 (a.outlet first 1));
    nodes = λ first before outside. both_nodes a b is_a is_b first (into first before)
        (source_at_0 (a.outlet first 1))
        (first_all (IsOutside first (length a.codes)) (before 0) (source_at_0 (back first))
        (outside_front first (length a.codes) (length b.codes) (before 0)
        (whole_outside a b first (before 0) (outside 0)))
        (at_0_all (IsOutside first (length a.codes)) (back first)
        (after_outside first (length a.codes) (length b.codes) (back first)
        (is_b.outlet (first + length a.codes) 0))
        (nothing_outside first (length a.codes))))
        (at_0_all (IsOutside (first + length a.codes) (length b.codes)) (a.outlet first 1)
        (before_outside first (length a.codes) (length b.codes) (a.outlet first 1)
        (is_a.outlet first 1))
        (nothing_outside (first + length a.codes) (length b.codes)));
    outlet = λ first. at_0_all (IsWithin first (length (a.codes ++ b.codes))) (a.outlet first 0)
        (within_front a b first (a.outlet first 0) (is_a.outlet first 0))
        (λ node port e. absurd (cc));
  }
    where
      back : ℕ → Source
      back first = delayed enqueued (b.outlet (first + length a.codes) 0)

      into : ℕ → (ℕ → Source) → ℕ → Source
      into first before = prepend (before 0) (source_at_0 (back first))

  reader_apart : (code : Code) → IsApart (layout (Reader code))
  unfolding layout node_layout
  reader_apart code = record {
    each = λ first before. refl;
    nodes = λ first before outside place less. one first place less;
    outlet = (node_apart code).outlet;
  }
    where
      read : Source
      read = record { enqueued = []; origin = Input }

      one : (first place : ℕ) → place < 1 → (port : ℕ)
          → IsOutside (first + place) 1 (get_or (source_at_0 read ∷ []) place none port)
      one first zero less =
          at_0_all (IsOutside (first + 0) 1) read (λ node port e. absurd (cc))
          (nothing_outside (first + 0) 1)
      one first (suc place) less = absurd (omega (arith, less))

  mutual
    unfolding layout

    stream_apart : (stream : Stream Code) → IsApart (layout stream)
    stream_apart (One code) = node_apart code
    stream_apart (Reader code) = reader_apart code
    stream_apart (Pipeline streams) = pipeline_apart streams
    stream_apart (SplitJoin splitter streams joiner) =
        chained_apart (maybe_layout splitter)
        (chained_layout (branch_layout streams) (maybe_layout joiner)) (maybe_apart splitter)
        (chained_apart (branch_layout streams) (maybe_layout joiner) (branches_apart streams)
        (maybe_apart joiner))
    stream_apart (FeedbackLoop joiner body splitter loop enqueued) =
        fed_back_apart (chained_layout (node_layout joiner)
        (chained_layout (layout body) (node_layout splitter))) (layout loop) enqueued
        (chained_apart (node_layout joiner) (chained_layout (layout body) (node_layout splitter))
        (node_apart joiner) (chained_apart (layout body) (node_layout splitter)
        (stream_apart body) (node_apart splitter))) (stream_apart loop)

    pipeline_apart : (streams : Streams Code) → IsApart (pipeline_layout streams)
    pipeline_apart (Last stream) = stream_apart stream
    pipeline_apart (More stream streams) =
        chained_apart (layout stream) (pipeline_layout streams) (stream_apart stream)
        (pipeline_apart streams)

    branches_apart : (streams : Streams Code) → IsApart (branch_layout streams)
    branches_apart (Last stream) =
        beside_apart (layout stream) (maybe_layout None) (stream_apart stream) (maybe_apart None)
    branches_apart (More stream streams) =
        beside_apart (layout stream) (branch_layout streams) (stream_apart stream)
        (branches_apart streams)

  -- what comes to a node is not its own
  pub no_own_source : (tree : Stream Code) (node port other out : ℕ)
      → ((flat tree).source node port).origin ≡ Port other out → other ≡ node → ⊥
  unfolding flat
  no_own_source tree node port other out e own = elim (cases_lt node (length codes)) [
    | inl within ↦
        elim ((stream_apart tree).nodes 0 none (λ p. nothing_outside 0 (length codes)) node within
        port other out e) [
          | inl less ↦ absurd (omega (arith, less, own))
          | inr past ↦ absurd (omega (arith, past, own))
        ]
    | inr past ↦
        let gone = get_or_past ((layout tree).sources 0 none) node none
        (omega (arith, past, (stream_apart tree).each 0 none)) in
        let at_port = ap (λ sources. (sources port).origin) gone in
        absurd (cc)
  ]
    where
      codes : List Code
      codes = (layout tree).codes
