-- The work of groups of nodes one node more, and the groups of stages one stage more.
use Rattle.std.proofs.Common.{◌≡◌, sym, ap, ◌∙◌, ℕ, suc, ◌+◌, ◌-◌, ◌<◌, ◌≤◌, List, [], ◌∷◌, ◌++◌}
use Rattle.std.proofs.Common.{length, map, Bool, arith, lt-ltb, le-ltb}
use Rattle.std.specs.Prelude.{sum, min, slice_index, if◌then◌else◌}
use Rattle.std.specs.List.{range_with_len}
use Rattle.std.proofs.lemmas.List.FromFn.{map-range_with_len_more, sum_by-map-range_with_len_more}
use Rattle.strc_batch_cut.specs.Weighed.{least_group, weighed_group}
use Rattle.strc_batch_cut.specs.Picks.{picked}
use Rattle.strc_batch_cut.specs.Work.{group_weights, work_between}
use Rattle.strc_stage_weights.specs.StageBounds.{bounds_by_weight}

pub work_more : (work : ℕ → ℕ) (first node : ℕ) → first ≤ node
    → sum (map work (range_with_len first (node + 1 - first)))
    ≡ sum (map work (range_with_len first (node - first))) + work node
work_more work first node less =
    let one : node + 1 - first ≡ (node - first) + 1 = omega (arith, less) in
    ap (λ (n : ℕ). sum (map work (range_with_len first n))) one
    ∙ sum_by-map-range_with_len_more (λ x. x) work first (node - first) node (omega (arith, less))

pub weights_more : (work : ℕ → ℕ) (bound : ℕ → ℕ) (group : ℕ)
    → group_weights work bound (group + 1)
    ≡ group_weights work bound group ++ work_between work (bound group) (bound (suc group)) ∷ []
weights_more work bound group =
    map-range_with_len_more (λ (g : ℕ). work_between work (bound g) (bound (suc g))) 0 group group
    (omega arith)

module _ (starts weights : List ℕ) (stages : ℕ) where
  abbrev bound : (stage : ℕ) → ℕ
  bound = picked (slice_index starts)
      (weighed_group weights (length weights) stages)

  bound_within : (stage : ℕ) → stage < stages
      → weighed_group weights (length weights) stages stage
      ≡ min (least_group weights stages stage) (length weights - (stages - stage))
  bound_within stage less =
      ap (λ (t : Bool). if t then min (least_group weights stages stage)
      (length weights - (stages - stage)) else length weights)
      (lt-ltb stage stages less)

  bound_past : weighed_group weights (length weights) stages stages ≡ length weights
  bound_past =
      ap (λ (t : Bool). if t then min (least_group weights stages stages)
      (length weights - (stages - stages)) else length weights)
      (le-ltb stages stages (omega arith))

  bounds_more : (stage group : ℕ) → stage < stages
      → group ≡ min (least_group weights stages stage) (length weights - (stages - stage))
      → map bound (range_with_len 0 (stage + 1))
      ≡ map bound (range_with_len 0 stage) ++ slice_index starts group ∷ []
  bounds_more stage group less is =
      map-range_with_len_more bound 0 stage stage (omega arith)
      ∙ ap (λ (g : ℕ). map bound (range_with_len 0 stage) ++ slice_index starts g ∷ [])
      (bound_within stage less ∙ sym is)

  -- the bound of one stage more
  pub bounds_next : (stage least group : ℕ) (before now : List ℕ) → stage < stages
      → least ≡ least_group weights stages stage
      → group ≡ min least (length weights - (stages - stage))
      → before ≡ map bound (range_with_len 0 stage) → now ≡ before ++ slice_index starts group ∷ []
      → now ≡ map bound (range_with_len 0 (stage + 1))
  bounds_next stage least group before now less least_is group_is was is =
      is
      ∙ ap (λ (l : List ℕ). l ++ slice_index starts group ∷ []) was
      ∙ sym (bounds_more stage group less
      (group_is ∙ ap (λ (n : ℕ). min n (length weights - (stages - stage))) least_is))

  all_bounds : bounds_by_weight starts weights stages
      ≡ map bound (range_with_len 0 stages) ++ slice_index starts (length weights) ∷ []
  all_bounds =
      let one : suc stages ≡ stages + 1 = omega arith in
      ap (λ (n : ℕ). map bound (range_with_len 0 n)) one
      ∙ map-range_with_len_more bound 0 stages stages (omega arith)
      ∙ ap (λ (g : ℕ). map bound (range_with_len 0 stages) ++ slice_index starts g ∷ [])
      bound_past

  -- and the last one's end
  pub bounds_end : (stage : ℕ) (before now : List ℕ) → stage ≡ stages
      → before ≡ map bound (range_with_len 0 stage)
      → now ≡ before ++ slice_index starts (length weights) ∷ []
      → now ≡ bounds_by_weight starts weights stages
  bounds_end stage before now past was is =
      is
      ∙ ap (λ (l : List ℕ). l ++ slice_index starts (length weights) ∷ [])
      (was ∙ ap (λ (n : ℕ). map bound (range_with_len 0 n)) past)
      ∙ sym all_bounds
