-- Groups that are shared evenly are a cut, and each stage has some.
use Rattle.std.proofs.Common.{◌≡◌, refl, sym, ap, ◌∙◌, subst, ℕ, zero, suc, ◌+◌, ◌*◌, ◌/◌, ◌<◌, ◌≤◌}
use Rattle.std.proofs.Common.{List, [], ◌∷◌, length, get_or, Bool, true, false, cond, Option}
use Rattle.std.proofs.Common.{Some, None, arith, inl, inr}
use Rattle.std.specs.Prelude.{filter, ◌&&◌, not}
use Rattle.std.specs.List.{range_with_len}
use Rattle.std.proofs.Math.Nat.{suc-mul, zero-mul, zero-div, div-mul-le_self, min-le_left, le-min}
use Rattle.std.proofs.lemmas.Nat.{div_below, le-div, row_fits_turned}
use Rattle.std.proofs.lemmas.Bool.{cases_lt, leb-true, le-leb, false≢true}
use Rattle.std.proofs.lemmas.Option.{get_or_from_slice_get, slice_get_within}
use Rattle.std.proofs.lemmas.List.Elements.{filter_passes}
use Rattle.strc_elab_graph.specs.Graphs.{Graph}
use Rattle.strc_elab_dataflow.specs.FusedUnits.{RoundUnit}
use Rattle.strc_stage_plan.specs.Cuts.{BeginsGroup, IsBetweenUnits, IsCutOf}
use Rattle.strc_stage_plan.specs.Bounds.{begins, begins_at, group_starts, stage_count, first_group}
use Rattle.strc_stage_plan.specs.Bounds.{parts_unit, stage_bound}
use Rattle.strc_stage_plan.proofs.Beginnings.{AreNumbered, is_between}
use Rattle.strc_stage_plan.proofs.Between.{between, between_past, parts_none_at_0}
use Rattle.strc_stage_plan.proofs.FusedSplits.{AllPass}
use Rattle.strc_stage_plan.proofs.GroupBounds.{Loops}
use Rattle.strc_stage_plan.proofs.Shares.{bound_within, bound_past}

-- numbers from one on and before another, in rising order
record AreRising (first next : ℕ) (numbers : List ℕ) : Type 0 where
  within : (k : ℕ) → k < length numbers
      → (first ≤ get_or numbers k 0) × (get_or numbers k 0 < next)
  rising : (k later : ℕ) → k < later → later < length numbers
      → get_or numbers k 0 < get_or numbers later 0

none_rising : (first next : ℕ) → AreRising first next []
none_rising first next = record {
  within = λ k less. absurd (omega (arith, less));
  rising = λ k later before less. absurd (omega (arith, less));
}

one_more : (keeps : Bool) (first next : ℕ) (numbers : List ℕ) → first < next
    → AreRising (first + 1) next numbers
    → AreRising first next (cond keeps (first ∷ numbers) numbers)
one_more false first next numbers less are = record {
  within = λ k some. let (low, high) = are.within k some in (omega (arith, low), high);
  rising = are.rising;
}
one_more true first next numbers less are = record { within = within_at; rising = rising_at }
  where
    within_at : (k : ℕ) → k < length (first ∷ numbers)
        → (first ≤ get_or (first ∷ numbers) k 0) × (get_or (first ∷ numbers) k 0 < next)
    within_at zero some = (omega arith, less)
    within_at (suc k) some =
        let (low, high) = are.within k (omega (arith, some)) in (omega (arith, low), high)

    rising_at : (k later : ℕ) → k < later → later < length (first ∷ numbers)
        → get_or (first ∷ numbers) k 0 < get_or (first ∷ numbers) later 0
    rising_at k zero before some = absurd (omega (arith, before))
    rising_at zero (suc later) before some =
        omega (arith, (are.within later (omega (arith, some))).0)
    rising_at (suc k) (suc later) before some =
        are.rising k later (omega (arith, before)) (omega (arith, some))

kept_rising : (test : ℕ → Bool) (first count next : ℕ) → first + count ≡ next
    → AreRising first next (filter test (range_with_len first count))
kept_rising test first zero next e = none_rising first next
kept_rising test first (suc count) next e =
    one_more (test first) first next (filter test (range_with_len (first + 1) count))
    (omega (arith, e)) (kept_rising test (first + 1) count next (omega (arith, e)))

head_kept : (keeps : Bool) (numbers : List ℕ) → keeps ≡ true
    → (0 < length (cond keeps (0 ∷ numbers) numbers))
    × (get_or (cond keeps (0 ∷ numbers) numbers) 0 0 ≡ 0)
head_kept true numbers e = (omega arith, refl)
head_kept false numbers e = absurd (false≢true e)

-- node 0 begins a group
both_pass : (one other : Bool) → one ≡ true → other ≡ false → one && not other ≡ true
both_pass true false a b = refl
both_pass true true a b = absurd (false≢true (sym b))
both_pass false other a b = absurd (false≢true a)

begins_at_0 : (loop : Option ℕ) → begins loop 0 ≡ true
begins_at_0 None = refl
begins_at_0 (Some loop) = le-leb 0 loop (omega arith)

first_begins : (loops : Loops) (order : List RoundUnit) → 0 < length loops
    → (0 < length (group_starts loops order)) × (get_or (group_starts loops order) 0 0 ≡ 0)
first_begins [] order some = absurd (omega (arith, some))
first_begins (loop ∷ loops) order some =
    head_kept (begins loop 0 && not (parts_unit order 0))
    (filter (begins_at (loop ∷ loops) order) (range_with_len 1 (length loops)))
    (both_pass (begins loop 0) (parts_unit order 0) (begins_at_0 loop) (parts_none_at_0 order))

both_of : (one other : Bool) → one && not other ≡ true → (one ≡ true) × (other ≡ false)
both_of true false e = (refl, refl)
both_of true true e = absurd (false≢true e)
both_of false other e = absurd (false≢true e)

begins_here : (loops : Loops) (order : List RoundUnit) (number : ℕ)
    → begins_at loops order number ≡ true
    → BeginsGroup loops number × IsBetweenUnits order number
begins_here loops order number is =
    let (begun, whole) = both_of (begins (get_or loops number None) number)
    (parts_unit order number) is in (
      λ loop here. leb-true number loop (
          ap (λ l. begins l number)
          (sym (get_or_from_slice_get loops number (Some loop) None here))
          ∙ begun
          ),
      between order number whole,
    )

module _ (groups stages : ℕ) (some : 0 < stages) (few : stages ≤ groups) where
  group_below : (stage : ℕ) → stage < stages → first_group groups stages stage < groups
  group_below stage less = div_below (stage * groups) stages groups some
      (omega (arith, some, few, row_fits_turned stage groups groups stages less (omega arith)))

  group_rising : (stage : ℕ)
      → first_group groups stages stage < first_group groups stages (suc stage)
  group_rising stage =
      let first = first_group groups stages stage in
      let at_least : suc first ≤ first_group groups stages (suc stage) =
      le-div (suc first) (suc stage * groups) stages some (omega (
        arith,
        few,
        suc-mul first stages,
        suc-mul stage groups,
        div-mul-le_self (stage * groups) stages,
      )) in
      omega (arith, at_least)

-- the nodes of a graph's outermost loops are in a row, and units have no others than its nodes
module _ (graph : Graph) (round : List RoundUnit) (workers : ℕ)
    (many : length graph.outer_loops ≡ length graph.nodes)
    (numbered : AreNumbered 0 graph.outer_loops)
    (nodes : AllPass (λ node. node < length graph.nodes) round) (works : 0 < workers)
    (some : 0 < length graph.nodes) where
  abbrev loops : Loops
  loops = graph.outer_loops

  abbrev starts : List ℕ
  starts = group_starts graph.outer_loops round

  abbrev stages : ℕ
  stages = stage_count graph.outer_loops round workers

  abbrev bound : (stage : ℕ) → ℕ
  bound = stage_bound graph.outer_loops round workers

  looped : 0 < length loops
  looped = omega (arith, some, many)

  are : AreRising 0 (length loops) starts
  are = kept_rising (begins_at loops round) 0 (length loops) (length loops) (omega arith)

  few : stages ≤ length starts
  few = min-le_left (length starts) workers

  staged : 0 < stages
  staged = le-min (first_begins loops round looped).0 works

  begun : (stage : ℕ) → stage < stages
      → bound stage ≡ get_or starts (first_group (length starts) stages stage) 0
  begun = bound_within (length loops) starts stages

  ended : bound stages ≡ length loops
  ended = bound_past (length loops) starts stages

  less_here : (stage : ℕ) → stage < stages
      → first_group (length starts) stages stage < length starts
  less_here = group_below (length starts) stages staged few

  first_is : bound 0 ≡ 0
  first_is =
      let here : first_group (length starts) stages 0 ≡ 0 =
      ap (λ n. n / stages) (zero-mul (length starts)) ∙ zero-div stages in
      begun 0 staged ∙ ap (λ n. get_or starts n 0) here ∙ (first_begins loops round looped).1

  rises : (stage : ℕ) → stage < stages → bound stage < bound (suc stage)
  rises stage less = elim (cases_lt (suc stage) stages) [
    | inl before ↦ omega (
      arith,
      begun stage less,
      begun (suc stage) before,
      are.rising (first_group (length starts) stages stage)
          (first_group (length starts) stages (suc stage))
          (group_rising (length starts) stages staged few stage) (less_here (suc stage) before),
    )
    | inr past ↦
        let last : stages ≡ suc stage = omega (arith, less, past) in
        omega (
          arith,
          begun stage less,
          (are.within (first_group (length starts) stages stage) (less_here stage less)).1,
          ap bound (sym last) ∙ ended,
        )
  ]

  begins_within : (stage : ℕ) → stage < stages
      → BeginsGroup loops (bound stage) × IsBetweenUnits round (bound stage)
  begins_within stage before =
      subst (λ (n : ℕ). BeginsGroup loops n × IsBetweenUnits round n) (sym (begun stage before))
      (begins_here loops round (get_or starts (first_group (length starts) stages stage) 0)
      (filter_passes (begins_at loops round) (range_with_len 0 (length loops))
      (first_group (length starts) stages stage) 0 (less_here stage before)))

  ends_past : IsBetweenUnits round (length loops)
  ends_past =
      subst (IsBetweenUnits round) (sym many) (between_past (length graph.nodes) round nodes)

  begins_there : (stage : ℕ) → stage ≤ stages
      → BeginsGroup loops (bound stage) × IsBetweenUnits round (bound stage)
  begins_there stage less = elim (cases_lt stage stages) [
    | inl before ↦ begins_within stage before
    | inr past ↦
        let last : stages ≡ stage = omega (arith, less, past) in
        subst (λ (n : ℕ). BeginsGroup loops n × IsBetweenUnits round n)
        (sym ended ∙ ap bound last) (
          λ loop here. absurd (omega (
            arith,
            slice_get_within loops (length loops) (Some loop) here,
          )),
          ends_past,
        )
  ]

  shared_cut : IsCutOf graph round bound stages
  shared_cut = record {
    first = first_is;
    all = ended ∙ many;
    rising = λ stage less. omega (arith, rises stage less);
    between = λ stage less. is_between loops (bound stage) numbered (begins_there stage less).0;
    units = λ stage less. (begins_there stage less).1;
  }

  pub shared_evenly : (0 < stages) × IsCutOf graph round bound stages
      × ((stage : ℕ) → stage < stages → bound stage < bound (suc stage))
  shared_evenly = (staged, shared_cut, rises)
