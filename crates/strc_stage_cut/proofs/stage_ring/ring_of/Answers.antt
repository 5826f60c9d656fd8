use Rattle.std.proofs.Common.{◌∙◌, sym, ap, subst, ◌*◌, length, map}
use Rattle.std.specs.Prelude.{slice_get}
use Rattle.std.specs.Vec.{vec_items}
use Rattle.std.proofs.lemmas.List.{length-map}
use Rattle.strc_elab_graph.specs.NodeView.{GraphParts, node_view}
use Rattle.strc_elab_graph.specs.Tapes.{tape_nodes}
use Rattle.strc_sched_laws.specs.Machine.{words_at}
use Rattle.strc_sched_rings.specs.Circuits.{circuit_view}
use Rattle.strc_sched_machine.specs.Running.{machine_view}
use Rattle.strc_stage_steps.specs.declared.collector.CollectorParts.{CollectorParts}
use Rattle.strc_stage_cut.specs.Fired.{running_by}
use Rattle.strc_stage_cut.specs.Launches.{IsRingOf}
use Rattle.strc_stage_cut.proofs.Begun.{AreParts, is_beginning}
use Rattle.strc_stage_cut.proofs.stage_ring.ring_of.Goals as goal

pub tape_words-requires : goal.tape_words-requires
tape_words-requires c =
    let machine = c.args.machine in
    let codes = (circuit_view c.args.circuit.now).codes in
    sym (length-map c.into_words.result.items vec_items)
    ∙ ap length (c.into_words.ensures ∙ c.in_ok-stages.ensures.words)
    ∙ length-map machine.words.items vec_items ∙ c.requires.machine.words
    ∙ ap length c.requires.circuit.codes ∙ length-map c.args.plan.now.split.graph.nodes node_view
    ∙ ap length (sym (c.nodes.ensures
    ∙ ap (λ (g : GraphParts). g.nodes) c.transformed_graph.ensures))

pub returns : goal.returns
returns c =
    let plan = c.args.plan.now in
    let fired = c.args.fired.now in
    let bounds = c.args.cut.now.bounds.items in
    let circuit = circuit_view c.args.circuit.now in
    let started = machine_view c.args.machine in
    let stages = c.in_ok-stages.stages.items in
    let stages_are_made = c.in_ok-stages.ensures in
    let parts : AreParts (running_by plan fired) bounds circuit started c.args.steps stages
    c.in_ok-free.free.items c.in_ok-words.words = record {
      each = stages_are_made.each;
      made = stages_are_made.made;
      free_each = c.in_ok-free.ensures.each ∙ ap (λ l. 2 * length l) c.deref.ensures.value;
      free_are = λ first there. c.in_ok-free.ensures.free first
          (ap (λ l. slice_get l 0) c.deref.ensures.value ∙ there);
      words_are = c.in_ok-words.ensures
          ∙ ap (λ l. map (words_at l) (tape_nodes (map node_view c.nodes.result.now)))
          (c.into_words.ensures ∙ stages_are_made.words)
          ∙ ap (λ l. map (words_at started.words) (tape_nodes (map node_view l)))
          (c.nodes.ensures ∙ ap (λ (g : GraphParts). g.nodes) c.transformed_graph.ensures);
    } in
    subst (λ (collector : CollectorParts). IsRingOf plan fired bounds circuit started c.args.steps
    (record {
      stages = c.in_ok-stages.stages;
      free = c.in_ok-free.free;
      collector = collector;
    })) (sym c.new.ensures) (record {
      cut = c.requires.cut.at.cut;
      beginning = is_beginning (running_by plan fired) bounds circuit started c.args.steps stages
          c.in_ok-free.free.items c.in_ok-words.words parts;
      made = stages_are_made.made;
    })
