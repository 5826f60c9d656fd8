use Rattle.std.proofs.Common.{◌≡◌, ◌∙◌, sym, ap, ◌<◌, ◌+◌, ℕ, suc, length, slice_index, arith}
use Rattle.std.proofs.Common.{inl, inr, List, rules}
use Rattle.std.proofs.lemmas.Bool.{cases_lt}
use Rattle.strc_stage_cut.specs.Bounds.{bound_in, last_of}
use Rattle.strc_stage_cut.proofs.Ranges.{is_own}
use Rattle.strc_batch.proofs.groups.groups_of_nodes.Goals as goal

pub loop-group-preserved : goal.loop-group-preserved
loop-group-preserved c =
    let bounds : List ℕ = c.args.bounds.now in
    let group : ℕ = c.loop-group.group in
    let old : List ℕ = c.loop-group.groups.items in
    let new : List ℕ = c.resize.new.self.items in
    let kept = c.in_ok-resize.ensures.by_index in
    let had = c.loop-group.groups.ok.0 in
    let long : length new ≡ slice_index bounds (group + 1) =
    sym c.resize.new.self.ok.0 ∙ c.in_ok-resize.ensures.len in
    let most : suc group < length bounds =
    omega (arith, c.loop-group-test.true, c.requires.some) in
    let next : slice_index bounds (group + 1) ≡ slice_index bounds (suc group) =
    ap (slice_index bounds) (omega arith) in
    record {
      long = long;
      each = λ node less. elim (cases_lt node (length old)) [
        | inl below ↦ kept.0 node 0 (omega (arith, less, long)) (omega (arith, below, had))
            ∙ c.loop-group.invariant.each node below
        | inr past ↦ kept.1 node 0 (search rules) (omega (arith, past, had))
            (omega (arith, less, long))
            ∙ sym (is_own c.args.plan.now (bound_in bounds) (last_of bounds) c.requires.cut group
            node (omega (arith, most, c.requires.some))
            (omega (arith, past, c.loop-group.invariant.long)) (omega (arith, less, long, next)))
      ];
    }
