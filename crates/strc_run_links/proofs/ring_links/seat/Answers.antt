use Rattle.std.proofs.Common.{◌++◌, ◌∙◌, append-nil, sym, ap, subst}
use Rattle.std.specs.Prelude.{All, List}
use Rattle.std.proofs.lemmas.List.Elements.{All-push}
use Rattle.std.specs.Vec.Iter.{into_iter_items}
use Rattle.strc_run_links.specs.declared.shapes.Seat.{Seat}
use Rattle.strc_run_links.specs.Seats.{HasRoom, stages_of}
use Rattle.strc_run_links.proofs.Iterating.{one_less, none}
use Rattle.strc_run_links.proofs.Joins.{linked_more, placed}
use Rattle.strc_run_links.proofs.ring_links.seat.Goals as goal

pub loop-stage-preserved : goal.loop-stage-preserved
loop-stage-preserved g c =
    let was = c.loop-stage.invariant in
    let items = into_iter_items c.loop-stage.stage-iterator in
    let rest = into_iter_items c.next.new.self in
    let seats = c.loop-stage.seats.items in
    let more = c.push.new.self.items in
    let steps = c.in-Some.ensures.steps in
    let s : Seat g.row.S.Denot =
    record { stage = c.in-Some.stage; rx = c.loop-stage.rx; tx = c.in_ok-tx.tx } in
    let pushed = c.in_ok-push.ensures.items in (
      placed seats more s rest items c.args.stages.items pushed steps.0 was.0,
      linked_more c.args.before.now seats more s c.in_ok-tx.next pushed was.1 was.2
          c.in_ok-tx.ensures.ends c.in_ok-tx.ensures.empty.0,
      c.in_ok-tx.ensures.empty.1,
      one_less c.in-Some.stage rest items _ _ steps.0 steps.1 was.3,
      subst (λ (l : List (Seat g.row.S.Denot)). All (HasRoom c.args.room) l) (sym pushed)
          (All-push (HasRoom c.args.room) seats s was.4 c.in_ok-tx.ensures.room),
    )

pub returns : goal.returns
returns g c =
    let was = c.loop-stage.invariant in
    let items = into_iter_items c.loop-stage.stage-iterator in
    record {
      linked = (
        sym (append-nil (stages_of c.loop-stage.seats.items))
            ∙ ap (λ l. stages_of c.loop-stage.seats.items ++ l)
            (sym (none items _ c.in-None.ensures.steps.0 was.3)) ∙ was.0,
        was.1,
        was.2,
      );
      room = was.4;
    }
