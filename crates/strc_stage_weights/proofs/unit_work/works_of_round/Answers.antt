use Rattle.std.proofs.Common.{◌≡◌, ◌∙◌, ◌+◌, ◌*◌, ap, List, ℕ, length, min, slice_index}
use Rattle.std.proofs.Common.{arith, rules, replicate}
use Rattle.std.proofs.lemmas.List.{with_items_is, length-replicate}
use Rattle.strc_sched_orders.specs.Greedy.{firings_of}
use Rattle.strc_sched_orders.specs.Order.{firing_count}
use Rattle.strc_stage_weights.specs.declared.unit_work.TheConstants.{ROUND_WORK_LIMIT}
use Rattle.strc_stage_weights.proofs.Counted.{none_worked, works_are}
use Rattle.strc_stage_weights.proofs.unit_work.works_of_round.Goals as goal

pub returns : goal.returns
returns c =
    let firings : List ℕ = c.args.firings.now in
    let order : List ℕ = firings_of c.args.round.now in
    let new : List ℕ = c.add_units.new.works in
    let none : c.in_ok-works.works.items ≡ replicate (length firings) 0 =
    c.in_ok-works.ensures.items_if_clones_equal (λ y h. search rules) in
    let before : List ℕ = c.deref_mut.result.now in
    let many : length new ≡ length firings =
    omega (
      arith,
      c.add_units.ensures.each,
      c.deref_mut.ensures.len,
      ap length c.deref_mut.ensures.value,
      ap length none,
      length-replicate {A = ℕ} (length firings) 0,
    ) in
    with_items_is c.in_ok-works.works new (c.add_units.ensures.each ∙ c.deref_mut.ensures.len)
    ∙ works_are firings order new many
    (λ node. c.add_units.ensures.works node
    ∙ ap (λ (n : ℕ). min (n + firing_count order node * slice_index firings node) ROUND_WORK_LIMIT)
    (none_worked before (length firings) (c.deref_mut.ensures.value ∙ none) node))
