use Rattle.std.proofs.Common.{◌≡◌, ◌∙◌, sym, ap, subst, ◌<◌, ◌≤◌, ◌*◌, length, sum, arith}
use Rattle.std.specs.Prelude.{Some, slice_get}
use Rattle.std.proofs.lemmas.List.{length-map}
use Rattle.strc_elab_graph.specs.Graphs as graphs
use Rattle.strc_elab_graph.specs.NodeView.{node_view}
use Rattle.strc_elab_graph.specs.declared.graph.Node.TheVariants as node
use Rattle.strc_elab_graph.specs.declared.graph.Splitter.TheVariants as splitter
use Rattle.strc_sched_laws.specs.Rings.{at_port, dealt_out, gathered_in, items_at}
use Rattle.strc_sched_laws.specs.Wiring.{ports_at}
use Rattle.strc_sched_rings.specs.Turns.{FindsCycles, HasTurned}
use Rattle.strc_sched_rings.specs.Circuits.{circuit_view}
use Rattle.strc_sched_machine.proofs.Done.{code_at}
use Rattle.strc_sched_machine.proofs.TurnFirings.{deals_pass, joins_pass, keeps_nothing}
use Rattle.strc_sched_machine.proofs.TurnFirings.{turned_passed}
use Rattle.strc_sched_rings.proofs.Turns.{are_placed}
use Rattle.strc_sched_machine.proofs.block.deal_at_once.Goals as goal

pub returns-in-Roundrobin-clause-passed : goal.returns-in-Roundrobin-clause-passed
returns-in-Roundrobin-clause-passed c =
    let circuit = circuit_view c.args.circuit.now in
    let nodes = c.args.circuit.now.nodes.items in
    let number = c.args.batch.now.node in
    let turns = c.args.batch.now.turns in
    let rings = c.args.rings.now in
    let inputs = ports_at circuit.inputs number in
    let outputs = ports_at circuit.outputs number in
    let weights = c.in-Roundrobin.weights.items in
    let there : number < length nodes =
    let e = c.requires.batch.node in let l = length-map nodes node_view in omega arith in
    let here : slice_get circuit.codes number ≡ Some (graphs.Splitter (graphs.Roundrobin weights)) =
    code_at nodes number c.index.result.now
    (node.Splitter (splitter.Roundrobin c.in-Roundrobin.weights)) there
    (sym c.index.ensures ∙ c.in-Splitter.is ∙ ap (λ s. node.Splitter s) c.in-Roundrobin.is) in
    turned_passed circuit number turns (dealt_out weights (at_port inputs 0) outputs 0)
    (turns * sum weights ≤ length (items_at rings (at_port inputs 0))) c.deal_turns.result rings
    c.deal_turns.new.rings (keeps_nothing circuit number _ here tt)
    (λ enough. deals_pass circuit number weights turns rings here
    (are_placed inputs outputs (length rings) (c.requires.inputs number)
    (c.requires.outputs number) c.requires.apart) enough)
    (subst (λ ws. HasTurned (turns * sum ws ≤ length (items_at rings (at_port inputs 0))) turns
    (dealt_out ws (at_port inputs 0) outputs 0) c.deal_turns.result rings c.deal_turns.new.rings)
    c.deref.ensures.value
    (subst (λ ins. HasTurned (turns * sum c.deref.result.now
    ≤ length (items_at rings (at_port ins 0))) turns
    (dealt_out c.deref.result.now (at_port ins 0) outputs 0) c.deal_turns.result rings
    c.deal_turns.new.rings) c.at-inputs.ensures
    (subst (λ outs. HasTurned (turns * sum c.deref.result.now
    ≤ length (items_at rings (at_port c.at-inputs.result.now 0))) turns
    (dealt_out c.deref.result.now (at_port c.at-inputs.result.now 0) outs 0) c.deal_turns.result
    rings c.deal_turns.new.rings) c.at-outputs.ensures c.deal_turns.ensures.dealt)))

pub returns-in-Joiner-clause-passed : goal.returns-in-Joiner-clause-passed
returns-in-Joiner-clause-passed c =
    let circuit = circuit_view c.args.circuit.now in
    let nodes = c.args.circuit.now.nodes.items in
    let number = c.args.batch.now.node in
    let turns = c.args.batch.now.turns in
    let rings = c.args.rings.now in
    let inputs = ports_at circuit.inputs number in
    let outputs = ports_at circuit.outputs number in
    let weights = c.in-Joiner.weights.items in
    let there : number < length nodes =
    let e = c.requires.batch.node in let l = length-map nodes node_view in omega arith in
    let here : slice_get circuit.codes number ≡ Some (graphs.Joiner weights) =
    code_at nodes number c.index.result.now (node.Joiner c.in-Joiner.weights) there
    (sym c.index.ensures ∙ c.in-Joiner.is) in
    turned_passed circuit number turns (gathered_in weights inputs (at_port outputs 0) 0)
    (FindsCycles turns weights inputs rings) c.join_turns.result rings
    c.join_turns.new.rings (keeps_nothing circuit number _ here tt)
    (λ enough. joins_pass circuit number weights turns rings here
    (are_placed inputs outputs (length rings) (c.requires.inputs number)
    (c.requires.outputs number) c.requires.apart) enough)
    (subst (λ ws. HasTurned (FindsCycles turns ws inputs rings) turns
    (gathered_in ws inputs (at_port outputs 0) 0) c.join_turns.result rings
    c.join_turns.new.rings) c.deref-in-Joiner.ensures.value
    (subst (λ ins. HasTurned (FindsCycles turns c.deref-in-Joiner.result.now ins rings) turns
    (gathered_in c.deref-in-Joiner.result.now ins (at_port outputs 0) 0) c.join_turns.result rings
    c.join_turns.new.rings) c.at-inputs.ensures
    (subst (λ outs. HasTurned (FindsCycles turns c.deref-in-Joiner.result.now
    c.at-inputs.result.now rings) turns
    (gathered_in c.deref-in-Joiner.result.now c.at-inputs.result.now (at_port outs 0) 0)
    c.join_turns.result rings c.join_turns.new.rings) c.at-outputs.ensures
    c.join_turns.ensures.joined)))
