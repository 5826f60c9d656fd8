use Rattle.std.proofs.Common.{◌∙◌, ap}
use Rattle.strc_stage_core.specs.Parcels.{ParcelView, parcel, filled}
use Rattle.strc_stage_steps.proofs.Filling.{filled_twice}
use Rattle.strc_stage_steps.proofs.outgoing_items.fill_block.Goals as goal

pub returns : goal.returns
returns c =
    let own = c.args.parcel.now in
    let block = c.args.crossing.block in
    let front = c.items.result.0.now in
    let back = c.items.result.1.now in
    c.fill_within-2.ensures
    ∙ ap (λ (p : ParcelView). parcel (filled p.load block back) p.stop p.last)
    c.fill_within.ensures
    ∙ ap (λ load. parcel load own.stop own.last) (filled_twice own.load block front back)
    ∙ ap (λ items. parcel (filled own.load block items) own.stop own.last) c.items.ensures
