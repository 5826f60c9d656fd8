use Rattle.std.proofs.Common.{◌≡◌, ◌∙◌, sym, ap, subst, ◌+◌, map, arith, get_or}
use Rattle.std.proofs.lemmas.List.{get_or_past}
use Rattle.strc_elab_graph.specs.NodeView.{channel_view}
use Rattle.strc_sched_laws.specs.Rings.{first_ring}
use Rattle.strc_sched_rings.proofs.Firsts.{AreFirstSo, first_next, view_at, all_first}
use Rattle.strc_sched_rings.proofs.ring.first_rings.Goals as goal
use Rattle.strc_sched_rings.proofs.ring.first_rings.Goals.{then-number-sizes, else-number-sizes}

pub loop-number-preserved : goal.loop-number-preserved
loop-number-preserved c =
    let channels = c.args.channels.now in
    let sizes = c.args.sizes.now in
    let number = c.loop-number.number in
    let channel = c.index-channels-number.result in
    let size : c.if-number-sizes.size ≡ get_or sizes number 0 =
    elim c.if-number-sizes.branch [
      | then-number-sizes w ↦ w.size-is
      | else-number-sizes w ↦ w.size-is
          ∙ sym (get_or_past sizes number 0 (let h = w.if-number-sizes in omega arith))
    ] in
    subst (AreFirstSo (map channel_view channels) sizes (number + 1))
    (sym c.in_ok-push.ensures.items)
    (first_next (map channel_view channels) sizes number c.loop-number.rings.items
    c.in_ok-first_ring.field-0 (channel_view channel) c.loop-number.invariant
    (view_at channels number channel c.loop-number-test.true c.index-channels-number.is)
    (c.in_ok-first_ring.ensures ∙ ap (first_ring (channel_view channel)) size))

pub returns : goal.returns
returns c = all_first c.args.channels.now c.args.sizes.now c.loop-number.number
    c.loop-number.rings.items c.loop-number-test.false c.loop-number.invariant
