use Rattle.std.proofs.Common.{◌≡◌, ◌∙◌, refl, sym, ap, subst, ℕ, ◌<◌, ◌+◌, ◌-◌, ◌^◌, min}
use Rattle.std.proofs.Common.{List, [], ◌∷◌, length, get_or, set, arith}
use Rattle.std.proofs.lemmas.Grind.{get_or_default_zero}
use Rattle.std.proofs.lemmas.List.{with_items_is, length-set, length-map}
use Rattle.std.proofs.lemmas.Option.{slice_get-get_or}
use Rattle.strc_elab_graph.specs.Graphs as graphs
use Rattle.strc_elab_graph.specs.NodeView.{node_view}
use Rattle.strc_sched_orders.specs.Order.{repeated}
use Rattle.strc_sched_laws.specs.Machine.{Went, order_run}
use Rattle.strc_sched_machine.specs.Blocks.{HasPassed, PassesOn}
use Rattle.strc_sched_rings.specs.Circuits.{circuit_view}
use Rattle.strc_sched_machine.specs.Memory.{WantsWordOfOrder}
use Rattle.strc_sched_machine.specs.Running.{machine_view, HasGone, HoldRings}
use Rattle.strc_sched_machine.proofs.Done.{machine_after, more_refl, nothing_kept}
use Rattle.strc_sched_machine.proofs.machine.Machine.fire_batch.Goals as goal

pub returns-clause-gone : goal.returns-clause-gone
returns-clause-gone c =
    let circuit = circuit_view c.args.circuit.now in
    let before = machine_view c.args.self.now in
    let node = c.args.batch.now.node in
    let turns = c.args.batch.now.turns in
    let code = get_or circuit.codes node graphs.Identity in
    let here = slice_get-get_or circuit.codes node graphs.Identity c.requires.batch.node in
    let there : node < length before.fired =
    let less = c.requires.batch.node in
    let many = c.requires.machine.fired in omega arith in
    let firing : ℕ = c.index.result.now in
    let same : firing ≡ get_or before.fired node 0 =
    c.index.ensures ∙ get_or_default_zero before.fired node firing there in
    let passed = subst (λ all. HasPassed circuit node turns all c.deref_mut.result.now
    c.pass_at_once.new.rings) c.if-not-pass_at_once.false c.pass_at_once.ensures.passed in
    let none = nothing_kept circuit.codes c.args.self.now.actors.items
    c.requires.machine.actors node code here (passed.0 code here) in
    let rings = with_items_is c.args.self.now.rings c.pass_at_once.new.rings
    (c.pass_at_once.ensures.rings ∙ ap length c.deref_mut.ensures.value
    ∙ sym c.args.self.now.rings.ok.0) in
    let fired : List ℕ = set before.fired node c.saturating_add.result in (
      subst (λ r. PassesOn circuit node turns r c.pass_at_once.new.rings)
          c.deref_mut.ensures.value passed.1 before.fields before.fired before.words none there
          (let fits = c.index.type_inv in omega arith)
          ∙ ap (λ l. Went (record {
            fields = before.fields;
            fired = l;
            rings = c.pass_at_once.new.rings;
            words = before.words;
          }))
          (ap (λ n. set before.fired node (min (n + turns) (2 ^ 64 - 1))) (sym same)
          ∙ ap (λ n. set before.fired node (min (firing + n) (2 ^ 64 - 1))) (sym c.from.ensures)
          ∙ ap (set before.fired node) (sym c.saturating_add.ensures))
          ∙ ap (λ l. Went (record {
            fields = before.fields;
            fired = fired;
            rings = l;
            words = before.words;
          }))
          (sym rings),
      more_refl before.words,
    )

pub pass_at_once-requires-clause-batch : goal.pass_at_once-requires-clause-batch
pass_at_once-requires-clause-batch c = c.requires.batch

pub pass_at_once-requires-clause-inputs : goal.pass_at_once-requires-clause-inputs
pass_at_once-requires-clause-inputs c =
    subst (λ n. HoldRings n c.args.circuit.now.inputs) (sym (ap length c.deref_mut.ensures.value))
    c.requires.machine.inputs

pub pass_at_once-requires-clause-outputs : goal.pass_at_once-requires-clause-outputs
pass_at_once-requires-clause-outputs c =
    subst (λ n. HoldRings n c.args.circuit.now.outputs) (sym (ap length c.deref_mut.ensures.value))
    c.requires.machine.outputs

pub pass_at_once-requires-clause-input_nodes : goal.pass_at_once-requires-clause-input_nodes
pass_at_once-requires-clause-input_nodes c =
    c.requires.machine.input_nodes ∙ length-map c.args.circuit.now.nodes.items node_view

pub pass_at_once-requires-clause-output_nodes : goal.pass_at_once-requires-clause-output_nodes
pass_at_once-requires-clause-output_nodes c =
    c.requires.machine.output_nodes ∙ length-map c.args.circuit.now.nodes.items node_view

pub returns-clause-machine : goal.returns-clause-machine
returns-clause-machine c =
    let before = c.args.self.now in
    let left = with_items_is before.rings c.pass_at_once.new.rings
    (c.pass_at_once.ensures.rings ∙ ap length c.deref_mut.ensures.value ∙ sym before.rings.ok.0) in
    machine_after (circuit_view c.args.circuit.now) before _ c.requires.machine
    c.requires.machine.actors
    (length-set before.fired.items c.args.batch.now.node c.saturating_add.result) refl
    (ap length left ∙ c.pass_at_once.ensures.rings ∙ ap length c.deref_mut.ensures.value)

pub fire_alone-requires-clause-machine : goal.fire_alone-requires-clause-machine
fire_alone-requires-clause-machine c =
    let rings = c.args.self.now.rings in
    let left = with_items_is rings c.pass_at_once.new.rings
    (c.pass_at_once.ensures.rings ∙ ap length c.deref_mut.ensures.value ∙ sym rings.ok.0) in
    machine_after (circuit_view c.args.circuit.now) c.args.self.now _ c.requires.machine
    c.requires.machine.actors refl refl
    (ap length left ∙ c.pass_at_once.ensures.rings ∙ ap length c.deref_mut.ensures.value)

pub fire_alone-requires-clause-batch : goal.fire_alone-requires-clause-batch
fire_alone-requires-clause-batch c = c.requires.batch

pub returns-then-not-pass_at_once-clause-machine : goal.returns-then-not-pass_at_once-clause-machine
returns-then-not-pass_at_once-clause-machine c = c.fire_alone.ensures.machine

pub returns-then-not-pass_at_once-clause-gone : goal.returns-then-not-pass_at_once-clause-gone
returns-then-not-pass_at_once-clause-gone c =
    let circuit = circuit_view c.args.circuit.now in
    let before = machine_view c.args.self.now in
    let node = c.args.batch.now.node in
    let turns = c.args.batch.now.turns in
    let rings = c.args.self.now.rings in
    let left = with_items_is rings c.pass_at_once.new.rings
    (c.pass_at_once.ensures.rings ∙ ap length c.deref_mut.ensures.value ∙ sym rings.ok.0) in
    let passed = subst (λ all. HasPassed circuit node turns all c.deref_mut.result.now
    c.pass_at_once.new.rings) c.if-not-pass_at_once.true c.pass_at_once.ensures.passed in
    subst (λ l. HasGone (order_run circuit (repeated turns (node ∷ [])) (record {
      fields = before.fields;
      fired = before.fired;
      rings = l;
      words = before.words;
    })) c.fire_alone.result before.words (machine_view c.fire_alone.new.self))
    (left ∙ passed ∙ c.deref_mut.ensures.value) c.fire_alone.ensures.gone

pub returns-then-not-pass_at_once-clause-memory : goal.returns-then-not-pass_at_once-clause-memory
returns-then-not-pass_at_once-clause-memory c =
    let circuit = circuit_view c.args.circuit.now in
    let before = machine_view c.args.self.now in
    let node = c.args.batch.now.node in
    let turns = c.args.batch.now.turns in
    let rings = c.args.self.now.rings in
    let left = with_items_is rings c.pass_at_once.new.rings
    (c.pass_at_once.ensures.rings ∙ ap length c.deref_mut.ensures.value ∙ sym rings.ok.0) in
    let passed = subst (λ all. HasPassed circuit node turns all c.deref_mut.result.now
    c.pass_at_once.new.rings) c.if-not-pass_at_once.true c.pass_at_once.ensures.passed in
    subst (λ l. WantsWordOfOrder circuit (repeated turns (node ∷ [])) (record {
      fields = before.fields;
      fired = before.fired;
      rings = l;
      words = before.words;
    }) c.fire_alone.result)
    (left ∙ passed ∙ c.deref_mut.ensures.value) c.fire_alone.ensures.memory
