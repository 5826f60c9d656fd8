use Rattle.std.proofs.Common.{◌≡◌, ◌∙◌, ℕ, List, Vec, Global, IfOk, ap, map, subst}
use Rattle.strc_elab_paths.specs.Paths.{labels_of}
use Rattle.strc_elab_paths.specs.declared.outline.Part.{Part}
use Rattle.strc_cli.specs.Answering.{labelled_text}
use Rattle.strc_cli.proofs.plan_pictures.stages_picture.Goals as goal

pub returns : goal.returns
returns c =
    subst (λ (labels : List (List ℕ)). IfOk c.labelled_picture.result
    (λ picture. picture.items ≡ labelled_text labels c.args.plan.now c.args.workers))
    (ap (λ (labels : List (Vec ℕ Global)). map (λ l. l.items) labels) c.deref-2.ensures.value
    ∙ c.in_ok-labels.ensures
    ∙ ap (λ (parts : List Part). labels_of parts)
    (c.deref.ensures.value ∙ c.in_ok-parts.ensures))
    c.labelled_picture.ensures
