use Rattle.std.proofs.Common.{◌∙◌, ap, sym, arith, suc}
use Rattle.strc_stage_core.specs.Actors.{Collects, or_else}
use Rattle.strc_stage_steps.specs.Collectors.{sees}
use Rattle.strc_stage_steps.proofs.Collecting.{collected_is}
use Rattle.strc_stage_steps.proofs.collector_step.gather.Goals as goal

pub returns-clause-collects : goal.returns-clause-collects
unfolding Collects
returns-clause-collects c =
    let added = c.add_words-stop.ensures.added in
    let before = c.args.parts.now in
    let stop = c.add_words-stop.result in (
      stop,
      c.requires.open,
      added.may,
      collected_is (sees before) _ c.args.parcel stop added.total added.rounds
          (let e = added.taken in omega (arith, e))
          (c.first_of-parts.ensures ∙ ap (λ o. or_else o stop) added.stop_is)
          c.last-parts.ensures,
      c.given_back.ensures,
    )
