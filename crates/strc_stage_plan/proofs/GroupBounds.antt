-- A number between the groups of a stream's nodes is where a group begins.
use Rattle.std.proofs.Common.{◌≡◌, refl, sym, ap, ◌∙◌, subst, ℕ, zero, suc, ◌+◌, ◌-◌, ◌<◌, ◌≤◌}
use Rattle.std.proofs.Common.{List, [], ◌∷◌, ◌++◌, length, map, replicate, Option, Some, None}
use Rattle.std.proofs.Common.{slice_get, arith, length-append, append-nil, append_assoc, inl, inr}
use Rattle.std.specs.Option.{option_map}
use Rattle.std.proofs.lemmas.Bool.{cases_lt}
use Rattle.std.proofs.lemmas.List.{length-replicate, get_or-replicate}
use Rattle.std.proofs.lemmas.Option.{none-some, slice_get-get_or}
use Rattle.strc_elab_dataflow.specs.Streams as trees
use Rattle.strc_elab_graph.specs.Graphs as graphs
use Rattle.strc_elab_graph.specs.Graphs.{NodeCode, SplitterCode}
use Rattle.strc_elab_stream.specs.Instances.{Stream, Streams, Filter, Identity, FileReader}
use Rattle.strc_elab_stream.specs.Instances.{FileWriter}
use Rattle.strc_elab_stream.specs.Instances.{Pipeline, SplitJoin, FeedbackLoop, Done, More}
use Rattle.strc_elab_stream.specs.Types.{IsWellTyped, AreWellTyped, AreEach, HasFirst}
use Rattle.strc_elab_stream.specs.Flattening.{tree_of, trees_of, row_of, size_of, outer_loops}
use Rattle.strc_elab_stream.specs.Flattening.{row_loops}
use Rattle.strc_elab_stream.specs.Flattening.{splitter_nodes, joiner_nodes}
use Rattle.strc_elab_stream.proofs.Loops.{loops_are_by_node}
use Rattle.strc_elab_stream.proofs.Nodes.{nodes_are_codes}
use Rattle.strc_elab_dataflow.specs.Groups.{maybe_group, groups, groups_of, group_bound}
use Rattle.strc_elab_dataflow.proofs.Groups.{bound_front, bound_rest}
use Rattle.strc_stage_plan.specs.Cuts.{IsBetweenGroups}
use Rattle.strc_stage_plan.specs.CutLaws.{BoundsAreOfGroups}

abbrev pub Loops : Type 0
Loops = List (Option ℕ)

in_front : (xs ys : Loops) (k : ℕ) (x : Option ℕ) → slice_get xs k ≡ Some x
    → slice_get (xs ++ ys) k ≡ Some x
in_front [] ys k x e = absurd (none-some x e)
in_front (y ∷ xs) ys zero x e = e
in_front (y ∷ xs) ys (suc k) x e = in_front xs ys k x e

pub in_back : (xs ys : Loops) (k : ℕ) → slice_get (xs ++ ys) (length xs + k) ≡ slice_get ys k
in_back [] ys k = ap (slice_get ys) (let e : 0 + k ≡ k = omega arith in e)
in_back (x ∷ xs) ys k =
    ap (slice_get (x ∷ (xs ++ ys)))
    (let e : suc (length xs) + k ≡ suc (length xs + k) = omega arith in e)
    ∙ in_back xs ys k

between_front : (xs ys : Loops) (bound : ℕ) → IsBetweenGroups (xs ++ ys) bound
    → IsBetweenGroups xs bound
between_front xs ys bound between low high loop less past here there =
    between low high loop less past (in_front xs ys low (Some loop) here)
    (in_front xs ys high (Some loop) there)

between_back : (xs ys : Loops) (bound : ℕ) → IsBetweenGroups (xs ++ ys) (length xs + bound)
    → IsBetweenGroups ys bound
between_back xs ys bound between low high loop less past here there =
    between (length xs + low) (length xs + high) loop (omega (arith, less)) (omega (arith, past))
    (in_back xs ys low ∙ here) (in_back xs ys high ∙ there)

-- a group's beginning, or the end of the last
record IsBound (sizes : List ℕ) (bound : ℕ) : Type 0 where
  number : ℕ
  few : number ≤ length sizes
  is : group_bound sizes number ≡ bound

-- nodes with these outermost loops are in groups of these sizes
record AreGrouped (loops : Loops) (sizes : List ℕ) : Type 0 where
  total : group_bound sizes (length sizes) ≡ length loops
  each : (bound : ℕ) → bound ≤ length loops → IsBetweenGroups loops bound → IsBound sizes bound

none_grouped : AreGrouped [] []
unfolding group_bound
none_grouped = record {
  total = refl;
  each = λ bound less between. record {
    number = 0;
    few = omega arith;
    is = omega (arith, less);
  };
}

-- one group of so many nodes, where no number in it is between groups
one_grouped : (loops : Loops) (size : ℕ) → length loops ≡ size
    → ((bound : ℕ) → 0 < bound → bound < size → IsBetweenGroups loops bound → ⊥)
    → AreGrouped loops (size ∷ [])
unfolding group_bound
one_grouped loops size many inside = record { total = omega (arith, many); each = each_at }
  where
    each_at : (bound : ℕ) → bound ≤ length loops → IsBetweenGroups loops bound
        → IsBound (size ∷ []) bound
    each_at bound less between = elim (cases_lt 0 bound) [
      | inl some ↦ elim (cases_lt bound size) [
        | inl within ↦ absurd (inside bound some within between)
        | inr past ↦ record {
          number = 1;
          few = omega arith;
          is = omega (arith, less, past, many);
        }
      ]
      | inr none ↦ record { number = 0; few = omega arith; is = omega (arith, none) }
    ]

node_grouped : AreGrouped (None ∷ []) (1 ∷ [])
node_grouped = one_grouped (None ∷ []) 1 (omega arith)
    (λ bound some less between. absurd (omega (arith, some, less)))

pub loop_at : (size number place : ℕ) → place < size
    → slice_get (replicate size (Some number)) place ≡ Some (Some number)
loop_at size number place less =
    slice_get-get_or (replicate size (Some number)) place None
    (omega (arith, less, length-replicate size (Some number)))
    ∙ ap Some (get_or-replicate size place (Some number) None less)

loop_grouped : (size number : ℕ) → AreGrouped (replicate size (Some number)) (size ∷ [])
loop_grouped size number =
    one_grouped (replicate size (Some number)) size (length-replicate size (Some number))
    (λ bound some less between. between 0 bound number some (omega arith)
    (loop_at size number 0 (omega (arith, some, less))) (loop_at size number bound less))

both_grouped : (xs ys : Loops) (gs hs : List ℕ) → AreGrouped xs gs → AreGrouped ys hs
    → AreGrouped (xs ++ ys) (gs ++ hs)
both_grouped xs ys gs hs a b = record { total = both_total; each = each_at }
  where
    both_total : group_bound (gs ++ hs) (length (gs ++ hs)) ≡ length (xs ++ ys)
    both_total =
        ap (group_bound (gs ++ hs)) (length-append gs hs) ∙ bound_rest gs hs (length hs)
        ∙ (let e : group_bound gs (length gs) + group_bound hs (length hs) ≡ length (xs ++ ys) =
        omega (arith, a.total, b.total, length-append xs ys) in e)

    in_second : (bound : ℕ) → bound ≤ length ys → IsBetweenGroups (xs ++ ys) (length xs + bound)
        → IsBound (gs ++ hs) (length xs + bound)
    in_second bound less between =
        let own = b.each bound less (between_back xs ys bound between) in
        record {
          number = length gs + own.number;
          few = omega (arith, own.few, length-append gs hs);
          is = bound_rest gs hs own.number
              ∙ (let e : group_bound gs (length gs) + group_bound hs own.number
              ≡ length xs + bound = omega (arith, a.total, own.is) in e);
        }

    each_at : (bound : ℕ) → bound ≤ length (xs ++ ys) → IsBetweenGroups (xs ++ ys) bound
        → IsBound (gs ++ hs) bound
    each_at bound less between = elim (cases_lt (length xs) bound) [
      | inl past ↦
          let e : length xs + (bound - length xs) ≡ bound = omega (arith, past) in
          subst (IsBound (gs ++ hs)) e
          (in_second (bound - length xs) (omega (arith, less, past, length-append xs ys))
          (subst (IsBetweenGroups (xs ++ ys)) (sym e) between))
      | inr front ↦
          let own = a.each bound front (between_front xs ys bound between) in
          record {
            number = own.number;
            few = omega (arith, own.few, length-append gs hs);
            is = bound_front gs hs own.number own.few ∙ own.is;
          }
    ]

three_grouped : (xs ys zs : Loops) (gs hs is : List ℕ) → AreGrouped xs gs → AreGrouped ys hs
    → AreGrouped zs is → AreGrouped ((xs ++ ys) ++ zs) (gs ++ (hs ++ is))
three_grouped xs ys zs gs hs is a b c =
    subst (AreGrouped ((xs ++ ys) ++ zs)) (append_assoc gs hs is)
    (both_grouped (xs ++ ys) zs (gs ++ hs) is (both_grouped xs ys gs hs a b) c)

splitter_grouped : (splitter : Option SplitterCode)
    → AreGrouped (map (λ node. None) (splitter_nodes splitter))
    (maybe_group (option_map graphs.Splitter splitter))
unfolding maybe_group
splitter_grouped None = none_grouped
splitter_grouped (Some splitter) = node_grouped

joiner_grouped : (joiner : Option (List ℕ))
    → AreGrouped (map (λ node. None) (joiner_nodes joiner))
    (maybe_group (option_map graphs.Joiner joiner))
unfolding maybe_group
joiner_grouped None = none_grouped
joiner_grouped (Some weights) = node_grouped

each_typed : (children : Streams) → AreWellTyped children → AreEach children
each_typed Done typed = tt
each_typed (More first rest) typed = (typed.0, each_typed rest typed.2)

mutual
  unfolding groups

  stream_grouped : (first : ℕ) (stream : Stream) → IsWellTyped stream
      → AreGrouped (outer_loops first stream) (groups (tree_of stream))
  stream_grouped first (Filter name filter) typed = node_grouped
  stream_grouped first Identity typed = node_grouped
  stream_grouped first (FileReader text) typed = node_grouped
  stream_grouped first (FileWriter text) typed = node_grouped
  stream_grouped first (Pipeline children) typed =
      row_grouped first children typed.0 (each_typed children typed.1)
  stream_grouped first (SplitJoin splitter children joiner) typed =
      three_grouped (map (λ node. None) (splitter_nodes splitter))
      (row_loops (first + length (splitter_nodes splitter)) children)
      (map (λ node. None) (joiner_nodes joiner))
      (maybe_group (option_map graphs.Splitter splitter)) (groups_of (trees_of children))
      (maybe_group (option_map graphs.Joiner joiner)) (splitter_grouped splitter)
      (row_grouped (first + length (splitter_nodes splitter)) children typed.0 typed.1)
      (joiner_grouped joiner)
  stream_grouped first (FeedbackLoop joiner body splitter loop enqueued) typed =
      subst (λ (n : ℕ). AreGrouped (replicate
      (size_of (FeedbackLoop joiner body splitter loop enqueued)) (Some first)) (n ∷ []))
      (ap length (nodes_are_codes (FeedbackLoop joiner body splitter loop enqueued) typed))
      (loop_grouped (size_of (FeedbackLoop joiner body splitter loop enqueued)) first)

  row_grouped : (first : ℕ) (children : Streams) → HasFirst children → AreEach children
      → AreGrouped (row_loops first children) (groups_of (trees_of children))
  row_grouped first Done some typed = absurd some
  row_grouped first (More stream rest) some typed =
      rest_grouped (outer_loops first stream) (tree_of stream) (first + size_of stream) rest
      (stream_grouped first stream typed.0) typed.1

  rest_grouped : (loops : Loops) (tree : trees.Stream NodeCode) (next : ℕ) (rest : Streams)
      → AreGrouped loops (groups tree) → AreEach rest
      → AreGrouped (loops ++ row_loops next rest) (groups_of (row_of tree rest))
  rest_grouped loops tree next Done grouped typed =
      subst (λ (l : Loops). AreGrouped l (groups tree)) (sym (append-nil loops)) grouped
  rest_grouped loops tree next (More stream rest) grouped typed =
      both_grouped loops (outer_loops next stream ++ row_loops (next + size_of stream) rest)
      (groups tree) (groups_of (row_of (tree_of stream) rest)) grouped
      (rest_grouped (outer_loops next stream) (tree_of stream) (next + size_of stream) rest
      (stream_grouped next stream typed.0) typed.1)

pub bounds_are_of_groups : BoundsAreOfGroups
bounds_are_of_groups stream bound typed less between =
    let many : length (outer_loops 0 stream) ≡ size_of stream = loops_are_by_node stream 0 in
    let own = (stream_grouped 0 stream typed).each bound (omega (arith, less, many)) between in
    (own.number, own.is)
