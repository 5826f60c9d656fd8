use Rattle.std.proofs.Common.{◌∙◌, sym, ap, Some}
use Rattle.strc_stage_core.specs.Actors.{or_else}
use Rattle.strc_stage_core.specs.Parcels.{ParcelView, parcel, emptied}
use Rattle.strc_stage_steps.proofs.Collecting.{stopped_back, open_back, no_other}
use Rattle.strc_stage_steps.proofs.collector_step.given_back.Goals as goal

pub returns-then-stopped : goal.returns-then-stopped
returns-then-stopped c =
    let own = c.args.parcel in
    stopped_back own.load own.stop own.last c.args.stop (sym c.stopped.ensures ∙ c.if-stopped.true)
    c.requires.may

pub returns-in-Some : goal.returns-in-Some
returns-in-Some c =
    let own = c.args.parcel in
    open_back own.load own.stop own.last c.args.stop c.set_stop.new.self
    (sym c.stopped.ensures ∙ c.if-stopped.false)
    (c.set_stop.ensures
    ∙ ap (λ (p : ParcelView). parcel p.load (or_else p.stop (Some c.in-Some.stop)) p.last)
    c.empty.ensures
    ∙ ap (λ s. parcel (emptied own.load) (or_else own.stop s) own.last) (sym c.in-Some.is))

pub returns-in_default : goal.returns-in_default
returns-in_default c =
    let own = c.args.parcel in
    open_back own.load own.stop own.last c.args.stop c.empty.new.self
    (sym c.stopped.ensures ∙ c.if-stopped.false)
    (c.empty.ensures
    ∙ ap (λ s. parcel (emptied own.load) s own.last)
    (no_other own.stop (sym c.stopped.ensures ∙ c.if-stopped.false)
    ∙ ap (or_else own.stop) (sym c.in_default.is)))
