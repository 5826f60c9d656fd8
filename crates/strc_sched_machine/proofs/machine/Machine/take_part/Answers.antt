use Rattle.std.proofs.Common.{◌∙◌, sym, ap, [], length, get_or, false, map, replicate}
use Rattle.std.proofs.lemmas.List.{length-map, length-replicate}
use Rattle.strc_elab_graph.specs.NodeView.{channel_view, node_view}
use Rattle.strc_sched_rings.specs.Circuits.{circuit_view}
use Rattle.strc_sched_machine.specs.Parts.{empty_rings, ends_within}
use Rattle.strc_sched_machine.specs.declared.actor.Actor.TheVariants as actor
use Rattle.strc_sched_machine.proofs.PartLists.{rings_long}
use Rattle.strc_sched_machine.proofs.PartMachines.{IsParting, holds_rest, machine_of, part_of}
use Rattle.strc_sched_machine.proofs.PartMachines.{rest_of}
use Rattle.strc_sched_machine.proofs.machine.Machine.take_part.Goals as goal

pub exchange-requires-clause-part : goal.exchange-requires-clause-part
exchange-requires-clause-part c =
    let count = c.len-2.ensures ∙ sym c.len.ensures
    ∙ sym (ap length c.deref-3.ensures.value ∙ c.in_ok-nodes.ensures.each) in
    record {
      actors = ap length c.in_ok-part.ensures.actors
          ∙ length-replicate c.len-2.result actor.Passive ∙ count;
      fired = ap length c.in_ok-part.ensures.fired ∙ length-replicate c.len-2.result 0 ∙ count;
      rings = ap length (c.in_ok-part.ensures.rings ∙ c.in_ok-rings.ensures)
          ∙ rings_long c.args.first c.args.next c.args.rooms.now 0
          (map channel_view c.channels-2.result.now)
          ∙ length-map c.channels-2.result.now channel_view
          ∙ ap length (c.channels-2.ensures.channels ∙ sym c.channels.ensures.channels)
          ∙ sym (length-map c.channels.result.now (ends_within c.args.first c.args.next))
          ∙ sym (ap length (c.deref-4.ensures.value ∙ c.in_ok-channels.ensures));
    }

parting : (c : goal.After-drop-nodes-2)
    → IsParting c.args.graph.now (circuit_view c.args.own.now) c.args.first c.args.next
    c.len.result c.args.rooms.now c.deref-3.result.now c.deref-4.result.now c.args.self.now
    c.in_ok-part.part c.exchange.new.part c.exchange.new.whole
parting c =
    let count = c.len-2.ensures ∙ sym c.len.ensures in
    record {
      is = c.requires.own;
      bounds = c.requires.bounds;
      holds = c.requires.holds;
      all = length-map c.args.own.now.nodes.items node_view ∙ sym c.args.own.now.nodes.ok.0
          ∙ sym c.len.ensures;
      long = ap length c.deref-3.ensures.value ∙ c.in_ok-nodes.ensures.each;
      marked = λ node less. ap (λ l. get_or l node false) c.deref-3.ensures.value
          ∙ c.in_ok-nodes.ensures.marks node less;
      ends = c.deref-4.ensures.value ∙ c.in_ok-channels.ensures
          ∙ ap (map (ends_within c.args.first c.args.next)) c.channels.ensures.channels;
      actors = c.in_ok-part.ensures.actors ∙ ap (λ n. replicate n actor.Passive) count;
      fired = c.in_ok-part.ensures.fired ∙ ap (λ n. replicate n 0) count;
      rings = c.in_ok-part.ensures.rings ∙ c.in_ok-rings.ensures
          ∙ ap (λ l. empty_rings c.args.first c.args.next c.args.rooms.now 0 (map channel_view l))
          c.channels-2.ensures.channels;
      words = c.in_ok-part.ensures.words ∙ ap (λ n. replicate n []) count;
      took = c.exchange.ensures.part;
      left = c.exchange.ensures.whole;
    }

pub returns-clause-machine : goal.returns-clause-machine
returns-clause-machine c = machine_of _ _ _ _ _ _ _ _ _ _ _ _ (parting c)

pub returns-clause-part : goal.returns-clause-part
returns-clause-part c = part_of _ _ _ _ _ _ _ _ _ _ _ _ (parting c)

pub returns-clause-rest : goal.returns-clause-rest
returns-clause-rest c = rest_of _ _ _ _ _ _ _ _ _ _ _ _ (parting c)

pub returns-clause-holds : goal.returns-clause-holds
returns-clause-holds c = holds_rest _ _ _ _ _ _ _ _ _ _ _ _ (parting c)
