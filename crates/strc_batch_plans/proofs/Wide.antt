-- A batch of groups, cut into stages of whole groups.
use Rattle.std.proofs.Common.{◌≡◌, sym, ap, ◌∙◌, subst, ℕ, zero, suc, ◌<◌, ◌≤◌, arith}
use Rattle.std.proofs.Common.{List, [], ◌∷◌, ◌++◌, inl, inr}
use Rattle.std.proofs.lemmas.Bool.{cases_lt}
use Rattle.strc_elab_dataflow.specs.Flat as flat
use Rattle.strc_elab_dataflow.specs.Ranges.{AllWithin, IsRanged, stage_within}
use Rattle.strc_elab_dataflow.specs.Staging.{joined, repeated, IsStaged}
use Rattle.strc_elab_dataflow.proofs.Ranges.{bounds_from, ranges_are_stages}
use Rattle.strc_elab_graph.specs.Graphs.{NodeCode}
use Rattle.strc_stage_plan.specs.Cuts.{firings_within, segment_of}
use Rattle.strc_stage_plan.proofs.FusedSplits.{Each, Below, From, each_append}
use Rattle.strc_stage_plan.proofs.Segments.{AreIn, IsSplitAt, kept_all, within_range}
use Rattle.strc_stage_plan.proofs.Segments.{ranges_joined}
use Rattle.strc_batch_laws.specs.Batches.{batched, batch_order}
use Rattle.strc_batch_cut.specs.Picks.{AreAmong}

-- ---- nodes of a segment, so many times over

module _ (P : ℕ → Type 0) where
  each_time : (b : ℕ) (xs : List ℕ) → Each P xs → Each P (repeated b xs)
  unfolding repeated
  each_time zero xs all = tt
  each_time (suc b) xs all = each_append P (repeated b xs) xs (each_time b xs all) all

below_of : (first next bound : ℕ) (xs : List ℕ) → next ≤ bound → AreIn first next xs
    → Below bound xs
below_of first next bound [] less all = tt
below_of first next bound (node ∷ xs) less (from, below, rest) =
    (omega (arith, below), below_of first next bound xs less rest)

from_of : (first next bound : ℕ) (xs : List ℕ) → bound ≤ first → AreIn first next xs
    → From bound xs
from_of first next bound [] less all = tt
from_of first next bound (node ∷ xs) less (from, below, rest) =
    (omega (arith, from), from_of first next bound xs less rest)

inside_of : (size : ℕ) (xs : List ℕ) → Below size xs → AreIn 0 size xs
inside_of size [] all = tt
inside_of size (node ∷ xs) (own, rest) = (omega arith, own, inside_of size xs rest)

-- ---- where orders are split

below_split : (bound : ℕ) (xs : List ℕ) → Below bound xs → IsSplitAt bound xs
below_split bound [] all = tt
below_split bound (node ∷ xs) (own, rest) = inl (own, below_split bound xs rest)

from_split : (bound : ℕ) (xs : List ℕ) → From bound xs → IsSplitAt bound xs
from_split bound [] all = tt
from_split bound (node ∷ xs) (own, rest) = inr (own, rest)

split_then : (bound : ℕ) (xs ys : List ℕ) → IsSplitAt bound xs → From bound ys
    → IsSplitAt bound (xs ++ ys)
split_then bound [] ys split all = from_split bound ys all
split_then bound (node ∷ xs) ys (inl (own, rest)) all =
    inl (own, split_then bound xs ys rest all)
split_then bound (node ∷ xs) ys (inr (own, rest)) all =
    inr (own, each_append (λ node. bound ≤ node) xs ys rest all)

module _ (bound : (group : ℕ) → ℕ) (last b : ℕ)
    (rising : (group : ℕ) → group < suc last → bound group ≤ bound (suc group))
    (order : List ℕ) where
  abbrev segment : ℕ → List ℕ
  segment = segment_of bound order

  abbrev part : ℕ → List ℕ
  part = batched b segment

  segment_in : (group : ℕ) → AreIn (bound group) (bound (suc group)) (segment group)
  segment_in group = within_range (bound group) (bound (suc group)) order

  part_below : (group until : ℕ) → group < until → until ≤ suc last
      → Below (bound until) (part group)
  part_below group until less within =
      each_time (λ node. node < bound until) b (segment group)
      (below_of (bound group) (bound (suc group)) (bound until) (segment group)
      (bounds_from bound (suc last) rising (suc group) until less within) (segment_in group))

  part_from : (group since : ℕ) → since ≤ group → group ≤ suc last
      → From (bound since) (part group)
  part_from group since less within =
      each_time (λ node. bound since ≤ node) b (segment group)
      (from_of (bound group) (bound (suc group)) (bound since) (segment group)
      (bounds_from bound (suc last) rising since group less within) (segment_in group))

  all_below : (groups until : ℕ) → groups ≤ until → until ≤ suc last
      → Below (bound until) (joined part groups)
  unfolding joined
  all_below zero until less within = tt
  all_below (suc group) until less within =
      each_append (λ node. node < bound until) (joined part group) (part group)
      (all_below group until (omega (arith, less)) within) (part_below group until less within)

  -- the batch goes through the nodes below the bound of any group before all others
  split_at : (groups at : ℕ) → groups ≤ suc last → at ≤ suc last
      → IsSplitAt (bound at) (joined part groups)
  unfolding joined
  split_at zero at within there = tt
  split_at (suc group) at within there = elim (cases_lt group at) [
    | inl less ↦ below_split (bound at) (joined part group ++ part group)
        (each_append (λ node. node < bound at) (joined part group) (part group)
        (all_below group at (omega (arith, less)) there) (part_below group at less there))
    | inr more ↦ split_then (bound at) (joined part group) (part group)
        (split_at group at (omega (arith, within)) there)
        (part_from group at more (omega (arith, within)))
  ]

  module _ (graph : flat.Graph NodeCode) (size : ℕ) (ends : bound (suc last) ≡ size)
      (wide : (stage : ℕ) → ℕ) (wide_last : ℕ) (first : wide 0 ≡ 0)
      (all : wide (suc wide_last) ≡ size)
      (wide_rising : (stage : ℕ) → stage < suc wide_last → wide stage ≤ wide (suc stage))
      (among : AreAmong wide (suc wide_last) bound (suc last))
      (ranged : IsRanged graph wide (segment_of wide order) wide_last order) where
    abbrev batch : List ℕ
    batch = batch_order b (segment_of bound order) (suc last)

    wide_split : (stage : ℕ) → stage ≤ suc wide_last → IsSplitAt (wide stage) batch
    wide_split stage less =
        let (group, within, is) = among stage less in
        subst (λ (n : ℕ). IsSplitAt n batch) (sym is)
        (split_at (suc last) group (omega arith) within)

    whole : firings_within (wide 0) (wide (suc wide_last)) batch ≡ batch
    whole =
        ap (λ (n : ℕ). firings_within n (wide (suc wide_last)) batch) first
        ∙ ap (λ (n : ℕ). firings_within 0 n batch) (all ∙ sym ends)
        ∙ kept_all 0 (bound (suc last)) batch
        (inside_of (bound (suc last)) batch (all_below (suc last) (suc last) (omega arith)
        (omega arith)))

    order_is : batch ≡ joined (segment_of wide batch) (suc wide_last)
    order_is =
        sym whole
        ∙ ranges_joined wide (suc wide_last) wide_rising batch wide_split (suc wide_last)
        (omega arith)

    ends_later : (low high : ℕ) (P : Type 0) (xs : List ℕ) → AreIn low high xs
        → AllWithin low (λ node. P → node < high) xs
    ends_later low high P [] each = tt
    ends_later low high P (node ∷ xs) (from, below, rest) =
        (from, λ p. below, ends_later low high P xs rest)

    pub wide_staged : IsStaged graph (stage_within wide wide_last) (segment_of wide batch)
        (suc wide_last) batch
    wide_staged = ranges_are_stages graph wide (segment_of wide batch) wide_last batch (record {
      rising = ranged.rising;
      own = λ a less. ends_later (wide a) (wide (suc a)) (a < wide_last) (segment_of wide batch a)
          (within_range (wide a) (wide (suc a)) batch);
      order = order_is;
      forward = ranged.forward;
    })
