use Rattle.std.proofs.Common.{◌∙◌, ap, take, length, ◌*◌}
use Rattle.strc_sched_laws.specs.Rings.{at_port, items_at, taken}
use Rattle.strc_sched_rings.specs.Turns.{spread_out}
use Rattle.strc_sched_rings.proofs.Turns.{are_placed, spread_is_dealt}
use Rattle.strc_sched_rings.proofs.weighted_turns.deal_cycles.Goals as goal

pub returns-clause-dealt : goal.returns-clause-dealt
returns-clause-dealt c =
    let inputs = c.args.inputs.now in
    let outputs = c.args.outputs.now in
    let weights = c.args.weights.now in
    let rings = c.args.rings.now in
    let cycles = c.args.cycles in
    let input = at_port inputs 0 in
    c.spread.ensures
    ∙ ap (λ l. spread_out weights outputs cycles.count cycles.length l 0 c.take_from.new.rings)
    (c.copy_front.ensures
    ∙ ap (λ n. take n (items_at rings c.ring_of-input.result)) c.requires.room
    ∙ ap (λ port. take cycles.items (items_at rings port)) c.ring_of-input.ensures)
    ∙ ap (λ l. spread_out weights outputs cycles.count cycles.length
    (take cycles.items (items_at rings input)) 0 l)
    (c.take_from.ensures ∙ ap (λ port. taken port cycles.items rings) c.ring_of-input.ensures)
    ∙ ap (λ n. spread_out weights outputs cycles.count n
    (take cycles.items (items_at rings input)) 0 (taken input cycles.items rings))
    c.requires.length
    ∙ spread_is_dealt inputs outputs weights cycles.count cycles.items rings
    (are_placed inputs outputs (length rings) c.requires.inputs c.requires.outputs
    c.requires.apart)
    (c.requires.items ∙ ap (λ n. cycles.count * n) c.requires.length)
