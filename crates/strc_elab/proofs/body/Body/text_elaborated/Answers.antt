use Rattle.std.proofs.Common.{sym, subst}
use Rattle.strc_elab.specs.Answering.{IsPlacedVerdict, IsPlaced}
use Rattle.strc_elab.specs.Elaboration.{text_elaborated}
use Rattle.strc_elab.specs.Places.{text_place}
use Rattle.strc_elab.specs.Sources.{text_source}
use Rattle.strc_elab.specs.Tasks.{setting_of, tracing_of, totals_of, text_view, elaborated_view}
use Rattle.strc_elab.proofs.body.Body.text_elaborated.Goals as goal

pub returns-in-Composite-clause-verdict : goal.returns-in-Composite-clause-verdict
returns-in-Composite-clause-verdict g c =
    let task = c.args.self.now.task in
    subst (λ t. IsPlacedVerdict elaborated_view (text_elaborated (setting_of task) (text_view t)
    (totals_of task)) c.composite.result) (sym c.in-Composite.is) c.composite.ensures.verdict

pub returns-in-Composite-clause-place : goal.returns-in-Composite-clause-place
returns-in-Composite-clause-place g c =
    let task = c.args.self.now.task in
    subst (λ t. IsPlaced (text_place (tracing_of task) (text_source t) (totals_of task))
    c.composite.result) (sym c.in-Composite.is) c.composite.ensures.place
