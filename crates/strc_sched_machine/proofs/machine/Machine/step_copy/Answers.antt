use Rattle.std.proofs.Common.{◌≡◌, ◌∙◌, refl, sym, ap, subst, ◌<◌, [], length, get_or, arith, Ok}
use Rattle.std.specs.Prelude.{Some, slice_get}
use Rattle.std.specs.Vec.{with_items}
use Rattle.std.proofs.lemmas.List.{with_items_is, length-set, set-get_or}
use Rattle.strc_work_meaning.specs.Filters.{filter_of}
use Rattle.strc_elab_graph.specs.Graphs as graphs
use Rattle.strc_elab_graph.specs.Graphs.{NodeCode}
use Rattle.strc_elab_graph.specs.NodeView.{copied_view}
use Rattle.strc_sched_laws.specs.Machine.{words_at}
use Rattle.strc_sched_laws.specs.Rings.{at_port}
use Rattle.strc_sched_laws.specs.Steps.{copy_step}
use Rattle.strc_sched_laws.specs.Wiring.{ports_at}
use Rattle.strc_sched_rings.specs.Circuits.{circuit_view}
use Rattle.strc_sched_rings.specs.Answers.{HasStepped}
use Rattle.strc_sched_machine.specs.Actors.{IsActorOf, fields_of}
use Rattle.strc_sched_machine.specs.Copies.{copied_step}
use Rattle.strc_sched_machine.specs.Running.{machine_view}
use Rattle.strc_sched_machine.specs.declared.actor.Actor.TheVariants as actor
use Rattle.strc_sched_machine.proofs.Done.{actor_here, actor_set, done_by, fields_set, fields_at}
use Rattle.strc_sched_machine.proofs.Done.{machine_after, moved_step, step_of, nothing_kept}
use Rattle.strc_sched_machine.proofs.Done.{fields_kept}
use Rattle.strc_sched_machine.proofs.Done.{stepped_at, stepped_words}
use Rattle.strc_sched_machine.proofs.WordLists.{own_words, words_many, words_set}
use Rattle.strc_sched_machine.proofs.machine.Machine.step_copy.Goals as goal

pub fire_copy-requires-clause-actor : goal.fire_copy-requires-clause-actor
fire_copy-requires-clause-actor c =
    let instance = c.in-Filter.instance in
    let code : NodeCode = graphs.Copy (graphs.OfFilter instance.name (filter_of instance.code))
    c.args.fission.now in
    let codes = (circuit_view c.args.circuit.now).codes in
    let here : slice_get codes c.args.batch.now.node ≡ Some code = c.requires.copy
    ∙ ap (λ own. Some (graphs.Copy (copied_view own) c.args.fission.now)) c.in-Filter.is in
    subst (IsActorOf code) c.in-Filter-index_mut.is
    (actor_here codes c.args.self.now.actors.items c.requires.machine.actors
    c.args.batch.now.node code c.index_mut.result.now here c.index_mut.ensures.value)

pub unreachable-requires : goal.unreachable-requires
unreachable-requires c =
    let instance = c.in-Filter.instance in
    let code : NodeCode = graphs.Copy (graphs.OfFilter instance.name (filter_of instance.code))
    c.args.fission.now in
    let codes = (circuit_view c.args.circuit.now).codes in
    let here : slice_get codes c.args.batch.now.node ≡ Some code = c.requires.copy
    ∙ ap (λ own. Some (graphs.Copy (copied_view own) c.args.fission.now)) c.in-Filter.is in
    subst (IsActorOf code) c.in-Passive.is
    (actor_here codes c.args.self.now.actors.items c.requires.machine.actors
    c.args.batch.now.node code c.index_mut.result.now here c.index_mut.ensures.value)

pub returns-in-Filter-index_mut-clause-machine : goal.returns-in-Filter-index_mut-clause-machine
returns-in-Filter-index_mut-clause-machine c =
    let instance = c.in-Filter.instance in
    let code : NodeCode = graphs.Copy (graphs.OfFilter instance.name (filter_of instance.code))
    c.args.fission.now in
    let codes = (circuit_view c.args.circuit.now).codes in
    let here : slice_get codes c.args.batch.now.node ≡ Some code = c.requires.copy
    ∙ ap (λ own. Some (graphs.Copy (copied_view own) c.args.fission.now)) c.in-Filter.is in
    let rings = c.args.self.now.rings in
    machine_after (circuit_view c.args.circuit.now) c.args.self.now _ c.requires.machine
    (actor_set codes c.args.self.now.actors.items c.args.batch.now.node code
    (actor.Filter c.fire_copy.new.actor) c.requires.machine.actors here
    c.fire_copy.ensures.actor)
    refl (length-set c.args.self.now.words.items c.args.batch.now.node c.fire_copy.new.words)
    (ap length (with_items_is rings c.fire_copy.new.rings
    (c.fire_copy.ensures.rings ∙ ap length c.deref_mut.ensures.value ∙ sym rings.ok.0))
    ∙ c.fire_copy.ensures.rings ∙ ap length c.deref_mut.ensures.value)

pub returns-in-Filter-index_mut-clause-step : goal.returns-in-Filter-index_mut-clause-step
returns-in-Filter-index_mut-clause-step c =
    let instance = c.in-Filter.instance in
    let code : NodeCode = graphs.Copy (graphs.OfFilter instance.name (filter_of instance.code))
    c.args.fission.now in
    let circuit = circuit_view c.args.circuit.now in
    let number = c.args.batch.now.node in
    let here : slice_get circuit.codes number ≡ Some code = c.requires.copy
    ∙ ap (λ own. Some (graphs.Copy (copied_view own) c.args.fission.now)) c.in-Filter.is in
    let actors = c.args.self.now.actors.items in
    let rings = c.args.self.now.rings in
    let kept = c.in-Filter-index_mut.actor in
    let before = machine_view c.args.self.now in
    let less : number < length actors =
    let e = c.requires.machine.actors.each in
    let there = c.requires.batch.node in omega arith in
    let after = fields_set actors number (actor.Filter c.fire_copy.new.actor) in
    let words = c.args.self.now.words.items in
    let held : number < length words =
    let e = c.requires.machine.words in
    let there = c.requires.batch.node in omega arith in
    done_by _ c.fire_copy.result number before _ c.fire_copy.new.actor.state.fields
    c.fire_copy.new.words.items
    (subst (λ step. HasStepped step c.fire_copy.result (get_or before.fields number [])
    c.fire_copy.new.actor.state.fields before.rings
    (with_items rings c.fire_copy.new.rings).items (words_at before.words number)
    c.fire_copy.new.words.items)
    (sym (step_of circuit before number c.args.firing code
    (ports_at circuit.inputs number) (ports_at circuit.outputs number) here refl refl))
    (stepped_at c.fire_copy.result (words_at before.words number)
    c.fire_copy.new.words.items rings.items
    c.deref_mut.result.now (with_items rings c.fire_copy.new.rings).items
    c.fire_copy.new.rings c.deref_mut.ensures.value
    (sym (with_items_is rings c.fire_copy.new.rings
    (c.fire_copy.ensures.rings ∙ ap length c.deref_mut.ensures.value ∙ sym rings.ok.0)))
    (copied_step (filter_of instance.code) c.args.fission.now c.args.firing)
    (get_or before.fields number []) kept.state.fields c.fire_copy.new.actor.state.fields
    (at_port (ports_at circuit.inputs number) 0) c.args.batch.now.input
    (at_port (ports_at circuit.outputs number) 0) c.args.batch.now.output
    (sym (fields_at actors number c.index_mut.result.now less c.index_mut.ensures.value
    ∙ ap fields_of c.in-Filter-index_mut.is))
    c.requires.batch.input c.requires.batch.output
    (stepped_words _ _ _ _ _ _ _ _ _
    (own_words words number c.index_mut-in-Filter-index_mut.result.now held
    c.index_mut-in-Filter-index_mut.ensures.value) c.fire_copy.ensures.step)))
    refl after (words_set words number c.fire_copy.new.words) (words_many words number held)

pub returns-in-Identity-clause-machine : goal.returns-in-Identity-clause-machine
returns-in-Identity-clause-machine c =
    let rings = c.args.self.now.rings in
    let fire = c.fire_identity_copy in
    let deref = c.deref_mut-in-Identity in
    machine_after (circuit_view c.args.circuit.now) c.args.self.now _ c.requires.machine
    c.requires.machine.actors refl refl
    (ap length (with_items_is rings fire.new.rings
    (fire.ensures.rings ∙ ap length deref.ensures.value ∙ sym rings.ok.0))
    ∙ fire.ensures.rings ∙ ap length deref.ensures.value)

pub returns-in-Identity-clause-step : goal.returns-in-Identity-clause-step
returns-in-Identity-clause-step c =
    let code : NodeCode = graphs.Copy graphs.OfIdentity c.args.fission.now in
    let circuit = circuit_view c.args.circuit.now in
    let number = c.args.batch.now.node in
    let here : slice_get circuit.codes number ≡ Some code = c.requires.copy
    ∙ ap (λ own. Some (graphs.Copy (copied_view own) c.args.fission.now)) c.in-Identity.is in
    let rings = c.args.self.now.rings in
    let fire = c.fire_identity_copy in
    let deref = c.deref_mut-in-Identity in
    let before = machine_view c.args.self.now in
    let own_words = words_at before.words number in
    let words = c.args.self.now.words.items in
    let held : number < length words =
    let e = c.requires.machine.words in
    let there = c.requires.batch.node in omega arith in
    let none = nothing_kept circuit.codes c.args.self.now.actors.items c.requires.machine.actors
    number code here tt in
    let left = with_items_is rings fire.new.rings
    (fire.ensures.rings ∙ ap length deref.ensures.value ∙ sym rings.ok.0) in
    done_by _ (Ok fire.result) number before _ [] own_words
    (subst (λ step. HasStepped step (Ok fire.result) (get_or before.fields number []) []
    before.rings (with_items rings fire.new.rings).items own_words own_words)
    (sym (step_of circuit before number c.args.firing code
    (ports_at circuit.inputs number) (ports_at circuit.outputs number) here refl refl))
    (stepped_at (Ok fire.result) own_words own_words rings.items deref.result.now
    (with_items rings fire.new.rings).items fire.new.rings deref.ensures.value (sym left)
    (copy_step graphs.OfIdentity c.args.fission.now c.args.firing)
    (get_or before.fields number []) [] []
    (at_port (ports_at circuit.inputs number) 0) c.args.batch.now.input
    (at_port (ports_at circuit.outputs number) 0) c.args.batch.now.output
    (sym none) c.requires.batch.input c.requires.batch.output
    (moved_step _ fire.result deref.result.now fire.new.rings own_words fire.ensures.step)))
    refl (fields_kept before.fields number none) (sym (set-get_or before.words number []))
    (words_many words number held)
