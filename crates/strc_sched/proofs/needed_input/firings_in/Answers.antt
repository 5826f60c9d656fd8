use Rattle.std.proofs.Common.{◌≡◌, ◌∙◌, ap, ◌*◌, arith}
use Rattle.strc_sched_orders.specs.Order.{firing_count, repeated}
use Rattle.strc_sched.proofs.Counting.{firing_count_times}
use Rattle.strc_sched.proofs.needed_input.firings_in.Goals as goal

pub returns : goal.returns
returns c =
    let unit = c.args.unit.now in
    let node = c.args.node in
    ap (λ n. n * c.places_of.result) c.from.ensures
    ∙ ap (λ n. unit.turns * n) (c.places_of.ensures.places
    ∙ ap (λ l. firing_count l node) c.deref.ensures.value)
    ∙ firing_count_times unit.turns unit.nodes.items node

pub overflow_mul-result : goal.overflow_mul-result
overflow_mul-result c =
    let unit = c.args.unit.now in
    let node = c.args.node in
    let e : c.from.result * c.places_of.result
    ≡ firing_count (repeated unit.turns unit.nodes.items) node =
    ap (λ n. n * c.places_of.result) c.from.ensures
    ∙ ap (λ n. unit.turns * n) (c.places_of.ensures.places
    ∙ ap (λ l. firing_count l node) c.deref.ensures.value)
    ∙ firing_count_times unit.turns unit.nodes.items node in
    omega (arith, e, c.requires.few)
