-- No channel of a stream goes from a group of its nodes to one before it.
use Rattle.std.proofs.Common.{◌≡◌, refl, sym, ap, ◌∙◌, subst, ℕ, zero, suc, ◌+◌, ◌-◌, ◌<◌, ◌≤◌}
use Rattle.std.proofs.Common.{List, [], ◌∷◌, ◌++◌, length, get_or, Option, Some, None, ℤ, arith}
use Rattle.std.proofs.Common.{length-append, append-nil}
use mathlib.Core.Logic.{inl, inr}
use Rattle.std.proofs.lemmas.Bool.{cases_lt}
use Rattle.std.proofs.lemmas.List.{get_or_append_left, get_or-append_right}
use Rattle.strc_elab_dataflow.specs.Flat.{Origin, Origin.Nowhere, Origin.Input, Origin.Port, Source}
use Rattle.strc_elab_dataflow.specs.Streams.{Stream, Stream.One, Stream.Reader, Stream.Pipeline}
use Rattle.strc_elab_dataflow.specs.Streams.{Stream.SplitJoin, Stream.FeedbackLoop, Streams}
use Rattle.strc_elab_dataflow.specs.Streams.{Streams.Last, Streams.More, Layout, nothing}
use Rattle.strc_elab_dataflow.specs.Streams.{source_at_0}
use Rattle.strc_elab_dataflow.specs.Streams.{delayed, prepend, node_layout, maybe_layout}
use Rattle.strc_elab_dataflow.specs.Streams.{chained_layout}
use Rattle.strc_elab_dataflow.specs.Streams.{beside_layout, fed_back_layout, layout}
use Rattle.strc_elab_dataflow.specs.Streams.{pipeline_layout}
use Rattle.strc_elab_dataflow.specs.Streams.{branch_layout, flat}
use Rattle.strc_elab_dataflow.specs.Groups.{maybe_group, groups, groups_of, group_bound}
use Rattle.strc_elab_dataflow.specs.Ranges.{IsBelow}
use Rattle.strc_elab_dataflow.specs.StageLaws.{GroupsGoForward, GroupsAreStages}
use Rattle.strc_elab_dataflow.proofs.Ranges.{ranges_are_stages}

below_more : (a b : ℕ) → a ≤ b → (origin : Origin) → IsBelow a origin → IsBelow b origin
below_more a b less Nowhere below = tt
below_more a b less Input below = tt
below_more a b less (Port u q) below = omega (arith, below)

pub bound_front : (xs ys : List ℕ) (i : ℕ) → i ≤ length xs
    → group_bound (xs ++ ys) i ≡ group_bound xs i
unfolding group_bound
bound_front xs ys zero less = refl
bound_front [] ys (suc i) less = absurd (omega arith)
bound_front (x ∷ xs) ys (suc i) less = ap (λ (n : ℕ). x + n) (bound_front xs ys i (omega arith))

pub bound_rest : (xs ys : List ℕ) (j : ℕ) → group_bound (xs ++ ys) (length xs + j)
    ≡ group_bound xs (length xs) + group_bound ys j
unfolding group_bound
bound_rest [] ys j = ap (group_bound ys) (let e : 0 + j ≡ j = omega arith in e)
    ∙ (let e : group_bound ys j ≡ 0 + group_bound ys j = omega arith in e)
bound_rest (x ∷ xs) ys j =
    ap (group_bound (x ∷ xs ++ ys)) (let e : suc (length xs) + j ≡ suc (length xs + j) =
    omega arith in e)
    ∙ ap (λ (n : ℕ). x + n) (bound_rest xs ys j)
    ∙ (let e : x + (group_bound xs (length xs) + group_bound ys j)
    ≡ x + group_bound xs (length xs) + group_bound ys j = omega arith in e)

bound_most : (xs : List ℕ) (i : ℕ) → group_bound xs i ≤ group_bound xs (length xs)
unfolding group_bound
bound_most xs zero = omega arith
bound_most [] (suc i) = omega arith
bound_most (x ∷ xs) (suc i) = omega (arith, bound_most xs i)

-- All sources come from numbers below a bound.
abbrev AllBelow : ℕ → (ℕ → Source) → Type 0
AllBelow bound sources = (port : ℕ) → IsBelow bound (sources port).origin

below_at_0 : (bound : ℕ) (source : Source) → IsBelow bound source.origin
    → AllBelow bound (source_at_0 source)
unfolding source_at_0
below_at_0 bound source below zero = below
below_at_0 bound source below (suc port) = tt

below_prepend : (bound : ℕ) (first : Source) (others : ℕ → Source) → IsBelow bound first.origin
    → AllBelow bound others → AllBelow bound (prepend first others)
unfolding prepend
below_prepend bound first others below rest zero = below
below_prepend bound first others below rest (suc port) = rest port

all_more : (a b : ℕ) → a ≤ b → (sources : ℕ → Source) → AllBelow a sources → AllBelow b sources
all_more a b less sources below port = below_more a b less (sources port).origin (below port)

abbrev none : ℕ → Source
none port = nothing

module _ {Code : Type 0} where
  -- A part of a stream: as many sources as codes; what it gives comes from its own nodes; where
  -- what comes in is from numbers below a bound that is after it, so are all its sources; and its
  -- groups, where what comes in is from before it, take from themselves and those before.
  record GoesForward (l : Layout Code) (sizes : List ℕ) : Type 0 where
    total : group_bound sizes (length sizes) ≡ length l.codes
    many : (first : ℕ) (before : ℕ → Source) → length (l.sources first before) ≡ length l.codes
    outlet : (first : ℕ) → AllBelow (first + length l.codes) (l.outlet first)
    bounded : (first bound : ℕ) (before : ℕ → Source) → first + length l.codes ≤ bound
        → AllBelow bound before → (v : ℕ)
        → AllBelow bound (get_or (l.sources first before) v none)
    forward : (first : ℕ) (before : ℕ → Source) → AllBelow first before → (i v : ℕ)
        → v < group_bound sizes i
        → AllBelow (first + group_bound sizes i) (get_or (l.sources first before) v none)

  node_forward : (code : Code) → GoesForward (node_layout code) (1 ∷ [])
  unfolding node_layout group_bound
  node_forward code = record {
    total = omega arith;
    many = λ first before. refl;
    outlet = λ first port. omega arith;
    bounded = bounded_at;
    forward = forward_at;
  }
    where
      bounded_at : (first bound : ℕ) (before : ℕ → Source) → first + 1 ≤ bound
          → AllBelow bound before → (v : ℕ) → AllBelow bound (get_or (before ∷ []) v none)
      bounded_at first bound before less below zero port = below port
      bounded_at first bound before less below (suc v) port = tt

      forward_at : (first : ℕ) (before : ℕ → Source) → AllBelow first before → (i v : ℕ)
          → v < group_bound (1 ∷ []) i
          → AllBelow (first + group_bound (1 ∷ []) i) (get_or (before ∷ []) v none)
      forward_at first before below i zero less port =
          below_more first (first + group_bound (1 ∷ []) i) (omega arith) (before port).origin
          (below port)
      forward_at first before below i (suc v) less port = tt

  reader_forward : (code : Code) → GoesForward (layout (Reader code)) (1 ∷ [])
  unfolding layout node_layout group_bound source_at_0
  reader_forward code = record {
    total = omega arith;
    many = λ first before. refl;
    outlet = λ first port. omega arith;
    bounded = λ first bound before less below v port. input_at bound v port;
    forward = λ first before below i v less port.
        input_at (first + group_bound (1 ∷ []) i) v port;
  }
    where
      input_at : (bound v port : ℕ) → IsBelow bound (get_or
          (source_at_0 (record { enqueued = []; origin = Input }) ∷ []) v none port).origin
      input_at bound zero zero = tt
      input_at bound zero (suc port) = tt
      input_at bound (suc v) port = tt

  maybe_forward : (code : Option Code) → GoesForward (maybe_layout code) (maybe_group code)
  unfolding maybe_layout maybe_group group_bound
  maybe_forward (Some code) = node_forward code
  maybe_forward None = record {
    total = refl;
    many = λ first before. refl;
    outlet = λ first port. tt;
    bounded = λ first bound before less below v port. tt;
    forward = λ first before below i v less port. tt;
  }

  none_forward : GoesForward (maybe_layout {Code = Code} None) []
  unfolding maybe_group
  none_forward = maybe_forward None

  module _ (l m : Layout Code) (xs ys : List ℕ) (a : GoesForward l xs) (b : GoesForward m ys) where
    module _ (first : ℕ) (left right : ℕ → Source) where
      abbrev both : List (ℕ → Source)
      both = l.sources first left ++ m.sources (first + length l.codes) right

      in_left : (v : ℕ) → v < length l.codes → get_or both v none
          ≡ get_or (l.sources first left) v none
      in_left v less = get_or_append_left (l.sources first left)
          (m.sources (first + length l.codes) right) none v (omega (arith, a.many first left))

      in_right : (v : ℕ) → length l.codes ≤ v → get_or both v none
          ≡ get_or (m.sources (first + length l.codes) right) (v - length l.codes) none
      in_right v more = get_or-append_right (l.sources first left)
          (m.sources (first + length l.codes) right) (length l.codes) v none (a.many first left)
          more

      pair_bounded : (bound : ℕ) → first + length l.codes + length m.codes ≤ bound
          → AllBelow bound left → AllBelow bound right → (v : ℕ)
          → AllBelow bound (get_or both v none)
      pair_bounded bound within left_below right_below v = elim (cases_lt v (length l.codes)) [
        | inl less ↦ subst (AllBelow bound) (sym (in_left v less))
            (a.bounded first bound left (omega arith) left_below v)
        | inr more ↦ subst (AllBelow bound) (sym (in_right v more))
            (b.bounded (first + length l.codes) bound right (omega arith) right_below
            (v - length l.codes))
      ]

      -- The groups of the first part, and then those of the second.
      pair_forward : AllBelow first left → AllBelow (first + length l.codes) right → (i v : ℕ)
          → v < group_bound (xs ++ ys) i
          → AllBelow (first + group_bound (xs ++ ys) i) (get_or both v none)
      pair_forward left_below right_below i v less = elim (cases_lt (length xs) i) [
        | inl past ↦ by_second (i - length xs)
            (let e : i ≡ length xs + (i - length xs) = omega arith in e)
        | inr front ↦ (
            let e = bound_front xs ys i front in
            subst (λ (n : ℕ). AllBelow (first + n) (get_or both v none)) (sym e)
            (subst (AllBelow (first + group_bound xs i))
            (sym (in_left v (omega (arith, less, e, bound_most xs i, a.total))))
            (a.forward first left left_below i v (omega (arith, less, e)))))
      ]
        where
          by_part : (j : ℕ) → group_bound (xs ++ ys) i ≡ length l.codes + group_bound ys j
              → AllBelow (first + group_bound (xs ++ ys) i) (get_or both v none)
          by_part j e = elim (cases_lt v (length l.codes)) [
            | inl here ↦ subst (AllBelow (first + group_bound (xs ++ ys) i)) (sym (in_left v here))
                (a.bounded first (first + group_bound (xs ++ ys) i) left (omega (arith, e))
                (all_more first (first + group_bound (xs ++ ys) i) (omega arith) left left_below) v)
            | inr there ↦ subst (AllBelow (first + group_bound (xs ++ ys) i))
                (sym (in_right v there))
                (subst (λ (n : ℕ). AllBelow n
                (get_or (m.sources (first + length l.codes) right) (v - length l.codes) none))
                (let f : first + length l.codes + group_bound ys j
                ≡ first + group_bound (xs ++ ys) i = omega (arith, e) in f)
                (b.forward (first + length l.codes) right right_below j (v - length l.codes)
                (omega (arith, less, e))))
          ]

          by_second : (j : ℕ) → i ≡ length xs + j
              → AllBelow (first + group_bound (xs ++ ys) i) (get_or both v none)
          by_second j e = by_part j (ap (group_bound (xs ++ ys)) e ∙ bound_rest xs ys j
              ∙ ap (λ (n : ℕ). n + group_bound ys j) a.total)

    pair_total : group_bound (xs ++ ys) (length (xs ++ ys)) ≡ length (l.codes ++ m.codes)
    pair_total =
        ap (group_bound (xs ++ ys)) (length-append xs ys) ∙ bound_rest xs ys (length ys)
        ∙ (let e : group_bound xs (length xs) + group_bound ys (length ys)
        ≡ length (l.codes ++ m.codes) =
        omega (arith, a.total, b.total, length-append l.codes m.codes) in e)

    pair_many : (first : ℕ) (left right : ℕ → Source)
        → length (both first left right) ≡ length (l.codes ++ m.codes)
    pair_many first left right = omega (
      arith,
      length-append (l.sources first left) (m.sources (first + length l.codes) right),
      length-append l.codes m.codes,
      a.many first left,
      b.many (first + length l.codes) right,
    )

    pair_outlet : (first : ℕ)
        → AllBelow (first + length (l.codes ++ m.codes)) (m.outlet (first + length l.codes))
    pair_outlet first = subst (λ (n : ℕ). AllBelow n (m.outlet (first + length l.codes)))
        (let e : first + length l.codes + length m.codes ≡ first + length (l.codes ++ m.codes) =
        omega (arith, length-append l.codes m.codes) in e)
        (b.outlet (first + length l.codes))

    pair_within : (first bound : ℕ) → first + length (l.codes ++ m.codes) ≤ bound
        → first + length l.codes + length m.codes ≤ bound
    pair_within first bound less = omega (arith, less, length-append l.codes m.codes)

    chained_forward : GoesForward (chained_layout l m) (xs ++ ys)
    unfolding chained_layout
    chained_forward = record {
      total = pair_total;
      many = λ first before. pair_many first before (l.outlet first);
      outlet = pair_outlet;
      bounded = λ first bound before less below. pair_bounded first before (l.outlet first) bound
          (pair_within first bound less) below
          (all_more (first + length l.codes) bound
          (omega (arith, pair_within first bound less)) (l.outlet first) (a.outlet first));
      forward = λ first before below. pair_forward first before (l.outlet first) below
          (a.outlet first);
    }

    beside_forward : GoesForward (beside_layout l m) (xs ++ ys)
    unfolding beside_layout
    beside_forward = record {
      total = pair_total;
      many = λ first before. pair_many first (source_at_0 (before 0)) (λ port. before (suc port));
      outlet = λ first. below_prepend (first + length (l.codes ++ m.codes)) (l.outlet first 0)
          (m.outlet (first + length l.codes))
          (below_more (first + length l.codes) (first + length (l.codes ++ m.codes))
          (omega (arith, length-append l.codes m.codes)) (l.outlet first 0).origin
          (a.outlet first 0))
          (pair_outlet first);
      bounded = λ first bound before less below.
          pair_bounded first (source_at_0 (before 0)) (λ port. before (suc port)) bound
          (pair_within first bound less) (below_at_0 bound (before 0) (below 0))
          (λ port. below (suc port));
      forward = λ first before below.
          pair_forward first (source_at_0 (before 0)) (λ port. before (suc port))
          (below_at_0 first (before 0) (below 0))
          (all_more first (first + length l.codes) (omega arith) (λ port. before (suc port))
          (λ port. below (suc port)));
    }

    -- A feedback loop is one group, whatever groups its parts have.
    fed_back_forward : (enqueued : List ℤ)
        → GoesForward (fed_back_layout l m enqueued) (length (l.codes ++ m.codes) ∷ [])
    unfolding fed_back_layout group_bound delayed
    fed_back_forward enqueued = record {
      total = omega arith;
      many = λ first before. pair_many first
          (prepend (before 0)
          (source_at_0 (delayed enqueued (m.outlet (first + length l.codes) 0))))
          (source_at_0 (l.outlet first 1));
      outlet = λ first. below_at_0 (first + length (l.codes ++ m.codes)) (l.outlet first 0)
          (below_more (first + length l.codes) (first + length (l.codes ++ m.codes))
          (omega (arith, length-append l.codes m.codes)) (l.outlet first 0).origin
          (a.outlet first 0));
      bounded = bounded_at;
      forward = forward_at;
    }
      where
        bounded_at : (first bound : ℕ) (before : ℕ → Source)
            → first + length (l.codes ++ m.codes) ≤ bound → AllBelow bound before → (v : ℕ)
            → AllBelow bound (get_or (both first (prepend (before 0)
            (source_at_0 (delayed enqueued (m.outlet (first + length l.codes) 0))))
            (source_at_0 (l.outlet first 1))) v none)
        bounded_at first bound before less below =
            pair_bounded first (prepend (before 0)
            (source_at_0 (delayed enqueued (m.outlet (first + length l.codes) 0))))
            (source_at_0 (l.outlet first 1)) bound (pair_within first bound less)
            (below_prepend bound (before 0)
            (source_at_0 (delayed enqueued (m.outlet (first + length l.codes) 0))) (below 0)
            (below_at_0 bound (delayed enqueued (m.outlet (first + length l.codes) 0))
            (below_more (first + length (l.codes ++ m.codes)) bound less
            (m.outlet (first + length l.codes) 0).origin (pair_outlet first 0))))
            (below_at_0 bound (l.outlet first 1) (below_more (first + length l.codes) bound
            (omega (arith, pair_within first bound less)) (l.outlet first 1).origin
            (a.outlet first 1)))

        forward_at : (first : ℕ) (before : ℕ → Source) → AllBelow first before → (i v : ℕ)
            → v < group_bound (length (l.codes ++ m.codes) ∷ []) i
            → AllBelow (first + group_bound (length (l.codes ++ m.codes) ∷ []) i)
            (get_or (both first (prepend (before 0)
            (source_at_0 (delayed enqueued (m.outlet (first + length l.codes) 0))))
            (source_at_0 (l.outlet first 1))) v none)
        forward_at first before below zero v less = absurd (omega arith)
        forward_at first before below (suc i) v less =
            bounded_at first (first + (length (l.codes ++ m.codes) + group_bound [] i)) before
            (omega arith) (all_more first
            (first + (length (l.codes ++ m.codes) + group_bound [] i)) (omega arith) before below) v

  mutual
    unfolding layout groups fed_back_layout

    stream_forward : (stream : Stream Code) → GoesForward (layout stream) (groups stream)
    stream_forward (One code) = node_forward code
    stream_forward (Reader code) = reader_forward code
    stream_forward (Pipeline streams) = pipeline_forward streams
    stream_forward (SplitJoin splitter streams joiner) =
        chained_forward (maybe_layout splitter)
        (chained_layout (branch_layout streams) (maybe_layout joiner)) (maybe_group splitter)
        (groups_of streams ++ maybe_group joiner) (maybe_forward splitter)
        (chained_forward (branch_layout streams) (maybe_layout joiner) (groups_of streams)
        (maybe_group joiner) (branches_forward streams) (maybe_forward joiner))
    stream_forward (FeedbackLoop joiner body splitter loop enqueued) =
        fed_back_forward (chained_layout (node_layout joiner)
        (chained_layout (layout body) (node_layout splitter))) (layout loop)
        ((1 ∷ []) ++ (groups body ++ (1 ∷ []))) (groups loop)
        (chained_forward (node_layout joiner) (chained_layout (layout body) (node_layout splitter))
        (1 ∷ []) (groups body ++ (1 ∷ [])) (node_forward joiner)
        (chained_forward (layout body) (node_layout splitter) (groups body) (1 ∷ [])
        (stream_forward body) (node_forward splitter)))
        (stream_forward loop) enqueued

    pipeline_forward : (streams : Streams Code)
        → GoesForward (pipeline_layout streams) (groups_of streams)
    pipeline_forward (Last stream) = stream_forward stream
    pipeline_forward (More stream streams) =
        chained_forward (layout stream) (pipeline_layout streams) (groups stream)
        (groups_of streams) (stream_forward stream) (pipeline_forward streams)

    branches_forward : (streams : Streams Code)
        → GoesForward (branch_layout streams) (groups_of streams)
    branches_forward (Last stream) =
        subst (GoesForward (beside_layout (layout stream) (maybe_layout None)))
        (append-nil (groups stream))
        (beside_forward (layout stream) (maybe_layout None) (groups stream) []
        (stream_forward stream) none_forward)
    branches_forward (More stream streams) =
        beside_forward (layout stream) (branch_layout streams) (groups stream)
        (groups_of streams) (stream_forward stream) (branches_forward streams)

-- The groups of a stream.
pub groups_go_forward : {Code : Type 0} → GroupsGoForward Code
unfolding flat
groups_go_forward stream = (
  (stream_forward stream).total,
  λ i v port less.
      let e : 0 + group_bound (groups stream) i ≡ group_bound (groups stream) i = omega arith in
      subst (λ (n : ℕ). IsBelow n (get_or ((layout stream).sources 0 none) v none port).origin) e
      ((stream_forward stream).forward 0 none (λ q. tt) i v less port),
)

bounds_rise : (xs : List ℕ) (i j : ℕ) → i ≤ j → group_bound xs i ≤ group_bound xs j
unfolding group_bound
bounds_rise xs zero j less = omega arith
bounds_rise xs (suc i) zero less = absurd (omega arith)
bounds_rise [] (suc i) (suc j) less = omega arith
bounds_rise (x ∷ xs) (suc i) (suc j) less = omega (arith, bounds_rise xs i j (omega arith))

-- A cut between groups.
pub groups_are_stages : {Code : Type 0} → GroupsAreStages Code
groups_are_stages stream cut segment last round_order rising own order =
    ranges_are_stages (flat stream) (λ a. group_bound (groups stream) (cut a)) segment last
    round_order (record {
      rising = λ a less. bounds_rise (groups stream) (cut a) (cut (suc a)) (rising a less);
      own = own;
      order = order;
      forward = λ a v port less below. (groups_go_forward stream).1 (cut (suc a)) v port below;
    })
