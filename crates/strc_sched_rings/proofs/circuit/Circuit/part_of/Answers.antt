use Rattle.std.proofs.Common.{◌∙◌, sym, ap, subst, length, map}
use Rattle.std.proofs.lemmas.List.{length-map}
use Rattle.strc_sched_laws.specs.Wiring.{PortRings}
use Rattle.strc_elab_graph.specs.NodeView.{node_view}
use Rattle.strc_sched_rings.specs.Apart.{AreAllApart}
use Rattle.strc_sched_rings.specs.Parts.{part_codes}
use Rattle.strc_sched_rings.proofs.PartLists.{codes_long}
use Rattle.strc_sched_rings.proofs.circuit.Circuit.part_of.Goals as goal

pub returns-clause-ready : goal.returns-clause-ready
returns-clause-ready c =
    let whole = c.args.self.now in
    let first = c.args.first in
    let next = c.args.next in
    let many = sym (length-map whole.nodes.items node_view)
    ∙ sym (codes_long first next 0 (map node_view whole.nodes.items))
    ∙ ap (λ l. length (part_codes first next 0 (map node_view l))) (sym c.deref.ensures.value)
    ∙ ap length (sym c.in_ok-part_nodes.ensures)
    ∙ length-map c.in_ok-part_nodes.field-0.items node_view in
    record {
      input_nodes = ap length c.in_ok-copy.ensures ∙ c.requires.ready.input_nodes ∙ many;
      output_nodes = ap length c.in_ok-copy-2.ensures ∙ c.requires.ready.output_nodes ∙ many;
      apart = λ apart. subst (λ (l : PortRings). AreAllApart l c.in_ok-copy-2.field-0)
          (sym c.in_ok-copy.ensures)
          (subst (λ (l : PortRings). AreAllApart whole.inputs l) (sym c.in_ok-copy-2.ensures)
          (c.requires.ready.apart apart));
    }
