-- Groups begin at their joiners, or at nodes that are in no loop.
use Rattle.std.proofs.Common.{◌≡◌, refl, sym, ap, ◌∙◌, subst, ℕ, zero, suc, ◌+◌, ◌-◌, ◌<◌, ◌≤◌}
use Rattle.std.proofs.Common.{List, [], ◌∷◌, ◌++◌, length, map, replicate, Option, Some, None}
use Rattle.std.proofs.Common.{slice_get, arith, inl, inr}
use Rattle.std.proofs.lemmas.Bool.{cases_lt}
use Rattle.std.proofs.lemmas.List.{length-replicate, length-map}
use Rattle.std.proofs.lemmas.Option.{none-some, same_Some, slice_get_within}
use Rattle.strc_elab_graph.specs.Graphs.{SplitterCode}
use Rattle.strc_elab_stream.specs.Instances.{Stream, Streams, Filter, Identity, FileReader}
use Rattle.strc_elab_stream.specs.Instances.{FileWriter}
use Rattle.strc_elab_stream.specs.Instances.{Pipeline, SplitJoin, FeedbackLoop, Done, More}
use Rattle.strc_elab_stream.specs.Flattening.{size_of, outer_loops, row_loops, splitter_nodes}
use Rattle.strc_elab_stream.specs.Flattening.{joiner_nodes}
use Rattle.strc_elab_stream.proofs.Loops.{loops_are_by_node}
use Rattle.strc_stage_plan.specs.Cuts.{IsBetweenGroups, BeginsGroup}
use Rattle.strc_stage_plan.specs.CutLaws.{GroupsBeginBetween}
use Rattle.strc_stage_plan.proofs.GroupBounds.{Loops, in_back, loop_at}

in_first : (xs ys : Loops) (k : ℕ) → k < length xs → slice_get (xs ++ ys) k ≡ slice_get xs k
in_first [] ys k less = absurd (omega (arith, less))
in_first (x ∷ xs) ys zero less = refl
in_first (x ∷ xs) ys (suc k) less = in_first xs ys k (omega (arith, less))

in_second : (xs ys : Loops) (k : ℕ) → length xs ≤ k
    → slice_get (xs ++ ys) k ≡ slice_get ys (k - length xs)
in_second xs ys k past =
    let e : k ≡ length xs + (k - length xs) = omega (arith, past) in
    ap (slice_get (xs ++ ys)) e ∙ in_back xs ys (k - length xs)

-- the outermost loops of nodes from a number on: a node's loop begins at its joiner, and all nodes
-- from there to it are in the loop
pub record AreNumbered (first : ℕ) (loops : Loops) : Type 0 where
  pub from : (k loop : ℕ) → slice_get loops k ≡ Some (Some loop)
      → (first ≤ loop) × (loop ≤ first + k)
  pub inside : (k loop : ℕ) → slice_get loops k ≡ Some (Some loop) → (other : ℕ)
      → loop ≤ first + other → other ≤ k → slice_get loops other ≡ Some (Some loop)

no_loop : (k loop : ℕ) → slice_get (None ∷ []) k ≡ Some (Some loop) → ⊥
no_loop zero loop e = none-some loop (same_Some None (Some loop) e)
no_loop (suc k) loop e = none-some (Some loop) e

none_numbered : (first : ℕ) → AreNumbered first []
none_numbered first = record {
  from = λ k loop e. absurd (none-some (Some loop) e);
  inside = λ k loop e. absurd (none-some (Some loop) e);
}

node_numbered : (first : ℕ) → AreNumbered first (None ∷ [])
node_numbered first = record {
  from = λ k loop e. absurd (no_loop k loop e);
  inside = λ k loop e. absurd (no_loop k loop e);
}

loop_is : (size first k loop : ℕ) → slice_get (replicate size (Some first)) k ≡ Some (Some loop)
    → (k < size) × (first ≡ loop)
loop_is size first k loop e =
    let within = slice_get_within (replicate size (Some first)) k (Some loop) e in
    let less : k < size = omega (arith, within, length-replicate size (Some first)) in (
      less,
      same_Some first loop
          (same_Some (Some first) (Some loop) (sym (loop_at size first k less) ∙ e)),
    )

loop_numbered : (size first : ℕ) → AreNumbered first (replicate size (Some first))
loop_numbered size first = record {
  from = λ k loop e. let (less, same) = loop_is size first k loop e in
      (omega (arith, same), omega (arith, same));
  inside = λ k loop e other past within. let (less, same) = loop_is size first k loop e in
      loop_at size first other (omega (arith, less, within)) ∙ ap (λ n. Some (Some n)) same;
}

both_numbered : (first next : ℕ) (xs ys : Loops) → next ≡ first + length xs
    → AreNumbered first xs → AreNumbered next ys → AreNumbered first (xs ++ ys)
both_numbered first next xs ys is a b = record { from = from_at; inside = inside_at }
  where
    from_at : (k loop : ℕ) → slice_get (xs ++ ys) k ≡ Some (Some loop)
        → (first ≤ loop) × (loop ≤ first + k)
    from_at k loop e = elim (cases_lt k (length xs)) [
      | inl less ↦ a.from k loop (sym (in_first xs ys k less) ∙ e)
      | inr past ↦
          let (low, high) = b.from (k - length xs) loop (sym (in_second xs ys k past) ∙ e) in
          (omega (arith, low, is), omega (arith, high, is, past))
    ]

    inside_at : (k loop : ℕ) → slice_get (xs ++ ys) k ≡ Some (Some loop) → (other : ℕ)
        → loop ≤ first + other → other ≤ k → slice_get (xs ++ ys) other ≡ Some (Some loop)
    inside_at k loop e other after within = elim (cases_lt k (length xs)) [
      | inl less ↦
          in_first xs ys other (omega (arith, less, within))
          ∙ a.inside k loop (sym (in_first xs ys k less) ∙ e) other after within
      | inr past ↦
          let there = sym (in_second xs ys k past) ∙ e in
          let (low, high) = b.from (k - length xs) loop there in
          in_second xs ys other (omega (arith, low, is, after))
          ∙ b.inside (k - length xs) loop there (other - length xs)
          (omega (arith, low, is, after)) (omega (arith, within))
    ]

splitter_numbered : (first : ℕ) (splitter : Option SplitterCode)
    → AreNumbered first (map (λ node. None) (splitter_nodes splitter))
splitter_numbered first None = none_numbered first
splitter_numbered first (Some splitter) = node_numbered first

joiner_numbered : (first : ℕ) (joiner : Option (List ℕ))
    → AreNumbered first (map (λ node. None) (joiner_nodes joiner))
joiner_numbered first None = none_numbered first
joiner_numbered first (Some weights) = node_numbered first

mutual
  stream_numbered : (first : ℕ) (stream : Stream)
      → AreNumbered first (outer_loops first stream)
  stream_numbered first (Filter name filter) = node_numbered first
  stream_numbered first Identity = node_numbered first
  stream_numbered first (FileReader text) = node_numbered first
  stream_numbered first (FileWriter text) = node_numbered first
  stream_numbered first (Pipeline children) = row_numbered first children
  stream_numbered first (SplitJoin splitter children joiner) =
      let front : Loops = map (λ node. None) (splitter_nodes splitter) in
      let next = first + length (splitter_nodes splitter) in
      let many : length front ≡ length (splitter_nodes splitter) =
      length-map (splitter_nodes splitter) (λ node. None) in
      both_numbered first (first + length (front ++ row_loops next children))
      (front ++ row_loops next children) (map (λ node. None) (joiner_nodes joiner)) refl
      (both_numbered first next front (row_loops next children) (omega (arith, many))
      (splitter_numbered first splitter) (row_numbered next children))
      (joiner_numbered (first + length (front ++ row_loops next children)) joiner)
  stream_numbered first (FeedbackLoop joiner body splitter loop enqueued) =
      loop_numbered (size_of (FeedbackLoop joiner body splitter loop enqueued)) first

  row_numbered : (first : ℕ) (children : Streams) → AreNumbered first (row_loops first children)
  row_numbered first Done = none_numbered first
  row_numbered first (More stream rest) =
      both_numbered first (first + size_of stream) (outer_loops first stream)
      (row_loops (first + size_of stream) rest)
      (ap (λ n. first + n) (sym (loops_are_by_node stream first)))
      (stream_numbered first stream) (row_numbered (first + size_of stream) rest)

pub loops_numbered : (stream : Stream) (loops : Loops) → loops ≡ outer_loops 0 stream
    → AreNumbered 0 loops
loops_numbered stream loops are = subst (AreNumbered 0) (sym are) (stream_numbered 0 stream)

module _ (loops : Loops) (number : ℕ) (is : AreNumbered 0 loops) where
  pub is_between : BeginsGroup loops number → IsBetweenGroups loops number
  is_between begins low high loop less past here there =
      let (from, upto) = is.from low loop here in
      omega (
        arith,
        less,
        upto,
        begins loop (is.inside high loop there number (omega (arith, less, upto)) past),
      )

  begins_group : IsBetweenGroups loops number → BeginsGroup loops number
  begins_group between loop here = elim (cases_lt loop number) [
    | inl before ↦ absurd (between loop number loop before (omega arith)
        (is.inside number loop here loop (omega arith) (omega (arith, before))) here)
    | inr past ↦ past
  ]

pub groups_begin_between : GroupsBeginBetween
groups_begin_between stream loops number same =
    let is = loops_numbered stream loops same in
    (is_between loops number is, begins_group loops number is)
