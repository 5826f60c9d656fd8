-- Groups counted one by one, and the bounds of stages one by one.
use Rattle.std.proofs.Common.{◌≡◌, sym, ap, ◌∙◌, ℕ, zero, suc, ◌+◌, ◌<◌}
use Rattle.std.proofs.Common.{List, [], ◌∷◌, ◌++◌, length, map, Bool, cond, Option, arith}
use Rattle.std.specs.Prelude.{filter, min, slice_index}
use Rattle.std.specs.List.{range_with_len}
use Rattle.std.proofs.lemmas.Bool.{lt-ltb, le-ltb}
use Rattle.std.proofs.lemmas.List.Elements.{filter-append}
use Rattle.std.proofs.lemmas.List.FromFn.{map-range_with_len_more, length-map-range_with_len}
use Rattle.std.proofs.lemmas.List.FromFn.{get_or-map-range_with_len}
use Rattle.strc_elab_dataflow.specs.FusedUnits.{RoundUnit}
use Rattle.strc_stage_plan.specs.Bounds.{first_group, bound_at, group_starts, stage_count}
use Rattle.strc_stage_plan.specs.Bounds.{stage_bound, stage_bounds}
use Rattle.strc_stage_plan.specs.CutLaws.{BoundsAreListed}

numbers_from : (first count next : ℕ) → first + count ≡ next
    → range_with_len first (suc count) ≡ range_with_len first count ++ next ∷ []
numbers_from first zero next e = ap (λ n. n ∷ []) (omega (arith, e))
numbers_from first (suc count) next e =
    ap (λ l. first ∷ l) (numbers_from (first + 1) count next (omega (arith, e)))

pub numbers_more : (count : ℕ)
    → range_with_len 0 (count + 1) ≡ range_with_len 0 count ++ count ∷ []
numbers_more count =
    let one : count + 1 ≡ suc count = omega arith in
    ap (range_with_len 0) one ∙ numbers_from 0 count count (omega arith)

pub kept_more : (test : ℕ → Bool) (count : ℕ) → filter test (range_with_len 0 (count + 1))
    ≡ filter test (range_with_len 0 count) ++ cond (test count) (count ∷ []) []
kept_more test count =
    ap (filter test) (numbers_more count)
    ∙ filter-append test (range_with_len 0 count) (count ∷ [])

module _ (nodes : ℕ) (starts : List ℕ) (stages : ℕ) where
  pub bound_within : (stage : ℕ) → stage < stages → bound_at nodes starts stages stage
      ≡ slice_index starts (first_group (length starts) stages stage)
  bound_within stage less = ap
      (λ b. cond b (slice_index starts (first_group (length starts) stages stage)) nodes)
      (lt-ltb stage stages less)

  pub bound_past : bound_at nodes starts stages stages ≡ nodes
  bound_past = ap
      (λ b. cond b (slice_index starts (first_group (length starts) stages stages)) nodes)
      (le-ltb stages stages (omega arith))

  pub bounds_more : (stage group : ℕ) → stage < stages
      → group ≡ first_group (length starts) stages stage
      → map (bound_at nodes starts stages) (range_with_len 0 (stage + 1))
      ≡ map (bound_at nodes starts stages) (range_with_len 0 stage)
      ++ slice_index starts group ∷ []
  bounds_more stage group less is =
      map-range_with_len_more (bound_at nodes starts stages) 0 stage stage (omega arith)
      ∙ ap (λ b. map (bound_at nodes starts stages) (range_with_len 0 stage) ++ b ∷ [])
      (bound_within stage less ∙ ap (slice_index starts) (sym is))

  all_bounds : map (bound_at nodes starts stages) (range_with_len 0 (suc stages))
      ≡ map (bound_at nodes starts stages) (range_with_len 0 stages) ++ nodes ∷ []
  all_bounds =
      let one : suc stages ≡ stages + 1 = omega arith in
      ap (λ n. map (bound_at nodes starts stages) (range_with_len 0 n)) one
      ∙ map-range_with_len_more (bound_at nodes starts stages) 0 stages stages (omega arith)
      ∙ ap (λ b. map (bound_at nodes starts stages) (range_with_len 0 stages) ++ b ∷ []) bound_past

-- the bounds of the stages that share a graph's groups, and the number of its nodes
pub bounds_are_shared : (loops : List (Option ℕ)) (order : List RoundUnit)
    (workers nodes stages : ℕ) (starts bounds : List ℕ)
    → length loops ≡ nodes → starts ≡ group_starts loops order
    → stages ≡ min (length starts) workers
    → bounds ≡ map (bound_at nodes starts stages) (range_with_len 0 stages) ++ nodes ∷ []
    → bounds ≡ stage_bounds loops order workers
bounds_are_shared loops order workers nodes stages starts bounds many are count e =
    let counted : stages ≡ stage_count loops order workers =
    count ∙ ap (λ l. min (length l) workers) are in
    e ∙ sym (all_bounds nodes starts stages)
    ∙ ap (λ n. map (bound_at n starts stages) (range_with_len 0 (suc stages))) (sym many)
    ∙ ap (λ l. map (bound_at (length loops) l stages) (range_with_len 0 (suc stages))) are
    ∙ ap (λ n. map (bound_at (length loops) (group_starts loops order) n)
    (range_with_len 0 (suc n))) counted

pub bounds_are_listed : BoundsAreListed
bounds_are_listed loops order workers =
    let many = suc (stage_count loops order workers) in (
      length-map-range_with_len (stage_bound loops order workers) 0 many,
      λ stage less. get_or-map-range_with_len (stage_bound loops order workers) 0 many stage stage
          0 (omega (arith, less)) (omega arith),
    )
