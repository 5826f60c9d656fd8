use Rattle.std.proofs.Common.{◌++◌, ◌∙◌, append-nil, sym, ap}
use Rattle.std.specs.Vec.Iter.{into_iter_items}
use Rattle.strc_run_links.specs.Ends.{sent_by}
use Rattle.strc_run_links.proofs.Iterating.{one_less, one_on, none}
use Rattle.strc_run_links.proofs.ring_links.lay.Goals as goal

pub loop-parcel-preserved : goal.loop-parcel-preserved
loop-parcel-preserved g c =
    let was = c.loop-parcel.invariant in
    let items = into_iter_items c.loop-parcel.parcel-iterator in
    let rest = into_iter_items c.next.new.self in
    let parcel = c.in-Some.parcel in
    let steps = c.in-Some.ensures.steps in (
      (c.give.ensures.same.0 ∙ was.0.0, c.give.ensures.same.1 ∙ was.0.1),
      ap (λ l. l ++ rest) c.in-Ok.ensures.sent
          ∙ one_on parcel (sent_by c.loop-parcel.tx) rest items _ steps.0 was.1,
      one_less parcel rest items _ _ steps.0 steps.1 was.2,
    )

pub returns : goal.returns
returns g c =
    let was = c.loop-parcel.invariant in
    let items = into_iter_items c.loop-parcel.parcel-iterator in (
      was.0,
      sym (append-nil (sent_by c.loop-parcel.tx))
          ∙ ap (λ l. sent_by c.loop-parcel.tx ++ l)
          (sym (none items _ c.in-None.ensures.steps.0 was.2)) ∙ was.1,
    )
