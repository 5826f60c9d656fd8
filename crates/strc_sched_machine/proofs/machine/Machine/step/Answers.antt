use Rattle.std.proofs.Common.{◌∙◌, refl, sym, ap, subst, ◌<◌, [], length, get_or, arith}
use Rattle.std.specs.Vec.{with_items}
use Rattle.std.proofs.lemmas.List.{with_items_is, length-map, length-set}
use Rattle.strc_work_meaning.specs.Filters.{filter_of}
use Rattle.strc_elab_graph.specs.NodeView.{node_view}
use Rattle.strc_elab_graph.specs.declared.graph.Node.{Node}
use Rattle.strc_elab_graph.specs.declared.graph.Node.TheVariants as node
use Rattle.strc_sched_laws.specs.Machine.{step_at, words_at}
use Rattle.strc_sched_laws.specs.Rings.{at_port}
use Rattle.strc_sched_laws.specs.Steps.{filter_step, node_step}
use Rattle.strc_sched_laws.specs.Wiring.{ports_at}
use Rattle.strc_sched_machine.specs.Actors.{IsActorOf, fields_of}
use Rattle.strc_sched_rings.specs.Answers.{HasStepped}
use Rattle.strc_sched_machine.specs.Memory.{maybe_prints, prints_at}
use Rattle.strc_sched_rings.specs.Circuits.{circuit_view}
use Rattle.strc_sched_machine.specs.Running.{machine_view}
use Rattle.strc_sched_machine.specs.declared.actor.Actor.TheVariants as actor
use Rattle.strc_sched_machine.proofs.Done.{actor_at, actor_set, code_at, done_by, fields_set}
use Rattle.strc_sched_machine.proofs.Done.{fields_at}
use Rattle.strc_sched_machine.proofs.Done.{machine_after, step_of, passive_kept, passive_of}
use Rattle.strc_sched_machine.proofs.Done.{fields_kept}
use Rattle.strc_sched_machine.proofs.Done.{stepped_at, stepped_passive, stepped_words}
use Rattle.strc_sched_machine.proofs.Wanting.{step_wants}
use Rattle.strc_sched_machine.proofs.WordLists.{own_words, words_many, words_set}
use Rattle.strc_sched_machine.proofs.Nodes.{node_within}
use Rattle.strc_sched_machine.proofs.machine.Machine.step.Goals as goal

pub fire_filter-requires-clause-actor : goal.fire_filter-requires-clause-actor
fire_filter-requires-clause-actor c =
    let there = node_within c.args.circuit.now.nodes.items c.args.batch.now.node
    c.requires.batch.node in
    let filter : Node = node.Filter c.in-Filter.instance in
    subst (IsActorOf (node_view filter)) c.in-Filter-index_mut.is
    (actor_at c.args.circuit.now.nodes.items c.args.self.now.actors.items c.requires.machine.actors
    c.args.batch.now.node c.index.result.now filter c.index_mut.result.now there
    (sym c.index.ensures ∙ c.in-Filter.is) c.index_mut.ensures.value)

pub unreachable-requires : goal.unreachable-requires
unreachable-requires c =
    let there = node_within c.args.circuit.now.nodes.items c.args.batch.now.node
    c.requires.batch.node in
    let filter : Node = node.Filter c.in-Filter.instance in
    subst (IsActorOf (node_view filter)) c.in-Passive.is
    (actor_at c.args.circuit.now.nodes.items c.args.self.now.actors.items c.requires.machine.actors
    c.args.batch.now.node c.index.result.now filter c.index_mut.result.now there
    (sym c.index.ensures ∙ c.in-Filter.is) c.index_mut.ensures.value)

pub step_copy-requires-clause-copy : goal.step_copy-requires-clause-copy
step_copy-requires-clause-copy c =
    let there = node_within c.args.circuit.now.nodes.items c.args.batch.now.node
    c.requires.batch.node in
    let copy : Node = node.Copy c.in-Copy.copied c.in-Copy.fission in
    code_at c.args.circuit.now.nodes.items c.args.batch.now.node c.index.result.now copy there
    (sym c.index.ensures ∙ c.in-Copy.is)

pub returns-in-Filter-index_mut-clause-machine : goal.returns-in-Filter-index_mut-clause-machine
returns-in-Filter-index_mut-clause-machine c =
    let there = node_within c.args.circuit.now.nodes.items c.args.batch.now.node
    c.requires.batch.node in
    let filter : Node = node.Filter c.in-Filter.instance in
    let rings = c.args.self.now.rings in
    machine_after (circuit_view c.args.circuit.now) c.args.self.now _ c.requires.machine
    (actor_set _ c.args.self.now.actors.items c.args.batch.now.node (node_view filter)
    (actor.Filter c.fire_filter.new.actor) c.requires.machine.actors
    (code_at c.args.circuit.now.nodes.items c.args.batch.now.node c.index.result.now filter
    there (sym c.index.ensures ∙ c.in-Filter.is)) c.fire_filter.ensures.actor)
    refl (length-set c.args.self.now.words.items c.args.batch.now.node c.fire_filter.new.words)
    (ap length (with_items_is rings c.fire_filter.new.rings
    (c.fire_filter.ensures.rings ∙ ap length c.deref_mut.ensures.value ∙ sym rings.ok.0))
    ∙ c.fire_filter.ensures.rings ∙ ap length c.deref_mut.ensures.value)

pub returns-in-Filter-index_mut-clause-step : goal.returns-in-Filter-index_mut-clause-step
returns-in-Filter-index_mut-clause-step c =
    let there = node_within c.args.circuit.now.nodes.items c.args.batch.now.node
    c.requires.batch.node in
    let filter : Node = node.Filter c.in-Filter.instance in
    let actors = c.args.self.now.actors.items in
    let number = c.args.batch.now.node in
    let rings = c.args.self.now.rings in
    let kept = c.in-Filter-index_mut.actor in
    let circuit = circuit_view c.args.circuit.now in
    let before = machine_view c.args.self.now in
    let here = code_at c.args.circuit.now.nodes.items number c.index.result.now filter
    there (sym c.index.ensures ∙ c.in-Filter.is) in
    let less : number < length actors =
    let e = c.requires.machine.actors.each in
    let l = length-map c.args.circuit.now.nodes.items node_view in
    omega arith in
    let after = fields_set actors number (actor.Filter c.fire_filter.new.actor) in
    let words = c.args.self.now.words.items in
    let held : number < length words =
    let e = c.requires.machine.words in
    let l = length-map c.args.circuit.now.nodes.items node_view in
    omega arith in
    done_by _ c.fire_filter.result number before _ c.fire_filter.new.actor.state.fields
    c.fire_filter.new.words.items
    (subst (λ step. HasStepped step c.fire_filter.result (get_or before.fields number [])
    c.fire_filter.new.actor.state.fields before.rings
    (with_items rings c.fire_filter.new.rings).items (words_at before.words number)
    c.fire_filter.new.words.items)
    (sym (step_of circuit before number c.args.firing (node_view filter)
    (ports_at circuit.inputs number) (ports_at circuit.outputs number) here refl refl))
    (stepped_at c.fire_filter.result (words_at before.words number)
    c.fire_filter.new.words.items rings.items
    c.deref_mut.result.now (with_items rings c.fire_filter.new.rings).items
    c.fire_filter.new.rings c.deref_mut.ensures.value
    (sym (with_items_is rings c.fire_filter.new.rings
    (c.fire_filter.ensures.rings ∙ ap length c.deref_mut.ensures.value ∙ sym rings.ok.0)))
    (filter_step (filter_of c.in-Filter.instance.code) c.args.firing)
    (get_or before.fields number [])
    kept.state.fields c.fire_filter.new.actor.state.fields
    (at_port (ports_at circuit.inputs number) 0) c.args.batch.now.input
    (at_port (ports_at circuit.outputs number) 0) c.args.batch.now.output
    (sym (fields_at actors number c.index_mut.result.now less c.index_mut.ensures.value
    ∙ ap fields_of c.in-Filter-index_mut.is))
    c.requires.batch.input c.requires.batch.output
    (stepped_words _ _ _ _ _ _ _ _ _
    (own_words words number c.index_mut-in-Filter-index_mut.result.now held
    c.index_mut-in-Filter-index_mut.ensures.value) c.fire_filter.ensures.step)))
    refl after (words_set words number c.fire_filter.new.words) (words_many words number held)

pub returns-in-Filter-index_mut-clause-memory : goal.returns-in-Filter-index_mut-clause-memory
returns-in-Filter-index_mut-clause-memory c =
    let there = node_within c.args.circuit.now.nodes.items c.args.batch.now.node
    c.requires.batch.node in
    let filter : Node = node.Filter c.in-Filter.instance in
    let code = filter_of c.in-Filter.instance.code in
    let actors = c.args.self.now.actors.items in
    let number = c.args.batch.now.node in
    let firing = c.args.firing in
    let rings = c.deref_mut.result.now in
    let kept = c.in-Filter-index_mut.actor in
    let batch = c.args.batch.now in
    let circuit = circuit_view c.args.circuit.now in
    let before = machine_view c.args.self.now in
    let fields = get_or before.fields number [] in
    let inputs = ports_at circuit.inputs number in
    let outputs = ports_at circuit.outputs number in
    let here = code_at c.args.circuit.now.nodes.items number c.index.result.now filter
    there (sym c.index.ensures ∙ c.in-Filter.is) in
    let less : number < length actors =
    let e = c.requires.machine.actors.each in
    let l = length-map c.args.circuit.now.nodes.items node_view in
    omega arith in
    step_wants _ (prints_at circuit number firing) _ (step_at circuit before number firing)
    c.fire_filter.result (sym (ap (λ found. maybe_prints found firing) here))
    (ap (λ l. filter_step code firing l batch.input batch.output rings)
    (sym (fields_at actors number c.index_mut.result.now less c.index_mut.ensures.value
    ∙ ap fields_of c.in-Filter-index_mut.is))
    ∙ ap (λ port. filter_step code firing fields port batch.output rings) c.requires.batch.input
    ∙ ap (λ port. filter_step code firing fields (at_port inputs 0) port rings)
    c.requires.batch.output
    ∙ ap (filter_step code firing fields (at_port inputs 0) (at_port outputs 0))
    c.deref_mut.ensures.value
    ∙ sym (step_of circuit before number firing (node_view filter) inputs outputs here refl refl))
    c.fire_filter.ensures.memory

pub returns-in_default : goal.returns-in_default
returns-in_default c =
    let there = node_within c.args.circuit.now.nodes.items c.args.batch.now.node
    c.requires.batch.node in
    let passive = c.index.result.now in
    let actors = c.args.self.now.actors.items in
    let number = c.args.batch.now.node in
    let rings = c.args.self.now.rings in
    let circuit = circuit_view c.args.circuit.now in
    let before = machine_view c.args.self.now in
    let here = code_at c.args.circuit.now.nodes.items number passive passive there
    (sym c.index.ensures) in
    let none = passive_kept circuit.codes actors c.requires.machine.actors number
    (node_view passive) here (passive_of passive c.in_default.not-Filter c.in_default.not-Copy) in
    let firing = c.args.firing in
    let code = node_view passive in
    let inputs = c.at.result.now in
    let outputs = c.at-in_default.result.now in
    let words = c.args.self.now.words.items in
    let held : number < length words =
    let e = c.requires.machine.words in
    let l = length-map c.args.circuit.now.nodes.items node_view in
    omega arith in
    let left = with_items_is rings c.fire_passive.new.rings
    (c.fire_passive.ensures.rings ∙ ap length c.deref_mut-in_default.ensures.value
    ∙ sym rings.ok.0) in
    record {
      machine = machine_after circuit c.args.self.now _ c.requires.machine
          c.requires.machine.actors refl (length-set words number c.fire_passive.new.words)
          (ap length left ∙ c.fire_passive.ensures.rings
          ∙ ap length c.deref_mut-in_default.ensures.value);
      fired = refl;
      step = done_by _ c.fire_passive.result number before _ [] c.fire_passive.new.words.items
          (subst (λ step. HasStepped step c.fire_passive.result (get_or before.fields number [])
          [] before.rings (with_items rings c.fire_passive.new.rings).items
          (words_at before.words number) c.fire_passive.new.words.items)
          (sym (step_of circuit before number c.args.firing (node_view passive)
          c.at.result.now c.at-in_default.result.now here c.at.ensures
          c.at-in_default.ensures))
          (stepped_passive c.fire_passive.result (words_at before.words number)
          c.fire_passive.new.words.items
          rings.items c.deref_mut-in_default.result.now
          (with_items rings c.fire_passive.new.rings).items c.fire_passive.new.rings
          c.deref_mut-in_default.ensures.value (sym left) (node_view passive) c.args.firing
          (get_or before.fields number []) c.at.result.now c.at-in_default.result.now
          circuit.input none
          (stepped_words _ _ _ _ _ _ _ _ _
          (own_words words number c.index_mut-in_default.result.now held
          c.index_mut-in_default.ensures.value)
          (subst (λ input. HasStepped (node_step (node_view passive) c.args.firing []
          c.at.result.now c.at-in_default.result.now input c.deref_mut-in_default.result.now)
          c.fire_passive.result [] [] c.deref_mut-in_default.result.now
          c.fire_passive.new.rings c.index_mut-in_default.result.now.items
          c.fire_passive.new.words.items) c.input_of.ensures c.fire_passive.ensures.step))))
          refl (fields_kept before.fields number none)
          (words_set words number c.fire_passive.new.words) (words_many words number held);
      memory = step_wants _ (prints_at circuit number firing) _
          (step_at circuit before number firing) c.fire_passive.result
          (sym (ap (λ found. maybe_prints found firing) here))
          (ap (λ input. node_step code firing [] inputs outputs input
          c.deref_mut-in_default.result.now) c.input_of.ensures
          ∙ ap (node_step code firing [] inputs outputs circuit.input)
          c.deref_mut-in_default.ensures.value
          ∙ ap (λ l. node_step code firing l inputs outputs circuit.input before.rings) (sym none)
          ∙ sym (step_of circuit before number firing code inputs outputs here c.at.ensures
          c.at-in_default.ensures))
          c.fire_passive.ensures.memory;
    }
