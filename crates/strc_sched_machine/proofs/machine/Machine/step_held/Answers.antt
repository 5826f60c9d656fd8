use Rattle.std.proofs.Common.{◌∙◌, refl, sym, ap, subst, ◌<◌, [], length, get_or, arith, Err, IfErr}
use Rattle.std.specs.Vec.{with_items}
use Rattle.std.proofs.lemmas.List.{with_items_is, length-map, length-set}
use Rattle.strc_work_meaning.specs.Filters.{filter_of}
use Rattle.strc_elab_graph.specs.NodeView.{node_view}
use Rattle.strc_elab_graph.specs.declared.graph.Node.{Node}
use Rattle.strc_elab_graph.specs.declared.graph.Node.TheVariants as node
use Rattle.strc_sched_laws.specs.Machine.{step_at, words_at}
use Rattle.strc_sched_laws.specs.Rings.{at_port}
use Rattle.strc_sched_laws.specs.Steps.{filter_step}
use Rattle.strc_sched_laws.specs.Wiring.{ports_at}
use Rattle.strc_sched_rings.specs.Circuits.{circuit_view}
use Rattle.strc_sched_rings.specs.Words.{WantsWordOfStep}
use Rattle.strc_sched_machine.specs.Actors.{IsActorOf, fields_of}
use Rattle.strc_sched_machine.specs.Handing.{held_view, with_held}
use Rattle.strc_sched_machine.specs.Memory.{maybe_prints, prints_at}
use Rattle.strc_sched_machine.specs.declared.actor.Actor.TheVariants as actor
use Rattle.strc_sched_machine.proofs.ByHand.{done_by_hand, named_by_hand}
use Rattle.strc_sched_machine.proofs.Done.{actor_at, actor_set, code_at, fields_set, fields_at}
use Rattle.strc_sched_machine.proofs.Done.{machine_after, step_of}
use Rattle.strc_sched_machine.proofs.Held.{same_held}
use Rattle.strc_sched_machine.proofs.WordLists.{own_words, words_many, words_set}
use Rattle.strc_sched_machine.proofs.Nodes.{node_within}
use Rattle.strc_sched_machine.proofs.machine.Machine.step_held.Goals as goal

pub fire_by_hand-requires-clause-actor : goal.fire_by_hand-requires-clause-actor
fire_by_hand-requires-clause-actor c =
    let there = node_within c.args.circuit.now.nodes.items c.args.batch.now.node
    c.requires.batch.node in
    let filter : Node = node.Filter c.in-Filter.instance in
    subst (IsActorOf (node_view filter)) c.in-Filter-index_mut.is
    (actor_at c.args.circuit.now.nodes.items c.args.self.now.actors.items c.requires.machine.actors
    c.args.batch.now.node c.index.result.now filter c.index_mut.result.now there
    (sym c.index.ensures ∙ c.in-Filter.is) c.index_mut.ensures.value)

pub unreachable-requires : goal.unreachable-requires
unreachable-requires c =
    let there = node_within c.args.circuit.now.nodes.items c.args.batch.now.node
    c.requires.batch.node in
    let filter : Node = node.Filter c.in-Filter.instance in
    subst (IsActorOf (node_view filter)) c.in-Passive.is
    (actor_at c.args.circuit.now.nodes.items c.args.self.now.actors.items c.requires.machine.actors
    c.args.batch.now.node c.index.result.now filter c.index_mut.result.now there
    (sym c.index.ensures ∙ c.in-Filter.is) c.index_mut.ensures.value)

pub returns-clause-machine : goal.returns-clause-machine
returns-clause-machine c =
    let there = node_within c.args.circuit.now.nodes.items c.args.batch.now.node
    c.requires.batch.node in
    let filter : Node = node.Filter c.in-Filter.instance in
    let rings = c.args.self.now.rings in
    machine_after (circuit_view c.args.circuit.now) c.args.self.now _ c.requires.machine
    (actor_set _ c.args.self.now.actors.items c.args.batch.now.node (node_view filter)
    (actor.Filter c.fire_by_hand.new.actor) c.requires.machine.actors
    (code_at c.args.circuit.now.nodes.items c.args.batch.now.node c.index.result.now filter
    there (sym c.index.ensures ∙ c.in-Filter.is)) c.fire_by_hand.ensures.actor)
    refl (length-set c.args.self.now.words.items c.args.batch.now.node c.fire_by_hand.new.words)
    (ap length (with_items_is rings c.fire_by_hand.new.rings
    (c.fire_by_hand.ensures.rings ∙ ap length c.deref_mut.ensures.value ∙ sym rings.ok.0))
    ∙ c.fire_by_hand.ensures.rings ∙ ap length c.deref_mut.ensures.value)

pub returns-clause-step : goal.returns-clause-step
returns-clause-step c =
    let self = c.args.self.now in
    let circuit = circuit_view c.args.circuit.now in
    let nodes = c.args.circuit.now.nodes.items in
    let batch = c.args.batch.now in
    let number = batch.node in
    let firing = c.args.firing in
    let there : number < length nodes =
    let e = c.requires.batch.node in let l = length-map nodes node_view in omega arith in
    let filter : Node = node.Filter c.in-Filter.instance in
    let code = filter_of c.in-Filter.instance.code in
    let actors = self.actors.items in
    let rings = self.rings in
    let items = self.items in
    let kept = c.in-Filter-index_mut.actor in
    let before = held_view c.args.held.now self in
    let fields = get_or before.fields number [] in
    let inputs = ports_at circuit.inputs number in
    let outputs = ports_at circuit.outputs number in
    let here = code_at nodes number c.index.result.now filter there
    (sym c.index.ensures ∙ c.in-Filter.is) in
    let less : number < length actors =
    let e = c.requires.machine.actors.each in let l = length-map nodes node_view in omega arith in
    let words = self.words.items in
    let many : number < length words =
    let e = c.requires.machine.words in let l = length-map nodes node_view in omega arith in
    let joined = with_held c.args.held.now c.deref_mut-in-Filter-index_mut.result.now
    c.deref_mut.result.now in
    let was = sym (fields_at actors number c.index_mut.result.now less c.index_mut.ensures.value
    ∙ ap fields_of c.in-Filter-index_mut.is) in
    let is_joined = same_held c.args.held.now c.deref_mut-in-Filter-index_mut.result.now items.items
    c.deref_mut.result.now rings.items c.deref_mut-in-Filter-index_mut.ensures.value
    c.deref_mut.ensures.value in
    let left = with_items_is rings c.fire_by_hand.new.rings
    (c.fire_by_hand.ensures.rings ∙ ap length c.deref_mut.ensures.value ∙ sym rings.ok.0) in
    let carried = with_items_is items c.fire_by_hand.new.items
    (c.fire_by_hand.ensures.items ∙ ap length c.deref_mut-in-Filter-index_mut.ensures.value
    ∙ sym items.ok.0) in
    done_by_hand _ c.fire_by_hand.result number before _ c.fire_by_hand.new.actor.state.fields
    c.fire_by_hand.new.words.items
    (named_by_hand c.fire_by_hand.result
    (filter_step code firing kept.state.fields batch.input batch.output joined)
    (step_at circuit before number firing) kept.state.fields fields
    c.fire_by_hand.new.actor.state.fields joined before.rings
    (with_held c.fire_by_hand.new.held c.fire_by_hand.new.items c.fire_by_hand.new.rings)
    (with_held c.fire_by_hand.new.held (with_items items c.fire_by_hand.new.items).items
    (with_items rings c.fire_by_hand.new.rings).items)
    c.index_mut-in-Filter-index_mut.result.now.items (words_at before.words number)
    c.fire_by_hand.new.words.items
    (ap (λ l. filter_step code firing l batch.input batch.output joined) was
    ∙ ap (λ port. filter_step code firing fields port batch.output joined) c.requires.batch.input
    ∙ ap (λ port. filter_step code firing fields (at_port inputs 0) port joined)
    c.requires.batch.output
    ∙ ap (filter_step code firing fields (at_port inputs 0) (at_port outputs 0)) is_joined
    ∙ sym (step_of circuit before number firing (node_view filter) inputs outputs here refl refl))
    was is_joined
    (same_held c.fire_by_hand.new.held c.fire_by_hand.new.items
    (with_items items c.fire_by_hand.new.items).items c.fire_by_hand.new.rings
    (with_items rings c.fire_by_hand.new.rings).items (sym carried) (sym left))
    (sym (own_words words number c.index_mut-in-Filter-index_mut.result.now many
    c.index_mut-in-Filter-index_mut.ensures.value)) c.fire_by_hand.ensures.step)
    refl (fields_set actors number (actor.Filter c.fire_by_hand.new.actor))
    (words_set words number c.fire_by_hand.new.words) (words_many words number many)

pub returns-clause-memory : goal.returns-clause-memory
returns-clause-memory c =
    let self = c.args.self.now in
    let circuit = circuit_view c.args.circuit.now in
    let nodes = c.args.circuit.now.nodes.items in
    let batch = c.args.batch.now in
    let number = batch.node in
    let firing = c.args.firing in
    let there : number < length nodes =
    let e = c.requires.batch.node in let l = length-map nodes node_view in omega arith in
    let filter : Node = node.Filter c.in-Filter.instance in
    let code = filter_of c.in-Filter.instance.code in
    let actors = self.actors.items in
    let before = held_view c.args.held.now self in
    let fields = get_or before.fields number [] in
    let inputs = ports_at circuit.inputs number in
    let outputs = ports_at circuit.outputs number in
    let here = code_at nodes number c.index.result.now filter there
    (sym c.index.ensures ∙ c.in-Filter.is) in
    let less : number < length actors =
    let e = c.requires.machine.actors.each in let l = length-map nodes node_view in omega arith in
    let joined = with_held c.args.held.now c.deref_mut-in-Filter-index_mut.result.now
    c.deref_mut.result.now in
    let step = step_at circuit before number firing in
    subst (λ s. IfErr c.fire_by_hand.result
    (λ why. WantsWordOfStep (prints_at circuit number firing) s (Err why)))
    (ap (λ l. filter_step code firing l batch.input batch.output joined)
    (sym (fields_at actors number c.index_mut.result.now less c.index_mut.ensures.value
    ∙ ap fields_of c.in-Filter-index_mut.is))
    ∙ ap (λ port. filter_step code firing fields port batch.output joined) c.requires.batch.input
    ∙ ap (λ port. filter_step code firing fields (at_port inputs 0) port joined)
    c.requires.batch.output
    ∙ ap (filter_step code firing fields (at_port inputs 0) (at_port outputs 0))
    (same_held c.args.held.now c.deref_mut-in-Filter-index_mut.result.now self.items.items
    c.deref_mut.result.now
    self.rings.items c.deref_mut-in-Filter-index_mut.ensures.value c.deref_mut.ensures.value)
    ∙ sym (step_of circuit before number firing (node_view filter) inputs outputs here refl refl))
    (subst (λ p. IfErr c.fire_by_hand.result (λ why. WantsWordOfStep p
    (filter_step code firing c.in-Filter-index_mut.actor.state.fields batch.input batch.output
    joined) (Err why)))
    (sym (ap (λ found. maybe_prints found firing) here)) c.fire_by_hand.ensures.memory)
