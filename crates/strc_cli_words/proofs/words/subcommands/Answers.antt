use Rattle.std.proofs.Common.{ap, [], ◌∷◌, Ok, map}
use Rattle.clap.specs.Words.{app_of}
use Rattle.strc_cli_words.specs.Lines.{check_app, emit_app, graph_app, plan_app, run_app}
use Rattle.strc_cli_words.proofs.Parsers.{one_more}
use Rattle.strc_cli_words.proofs.words.subcommands.Goals as goal

pub returns : goal.returns
returns c =
    let runs = one_more (λ v. v.items) app_of (Ok c.new.result) c.run_command.result
    c.with_last-run.result [] run_app c.with_last-run.ensures (ap (map app_of) c.new.ensures.items)
    c.run_command.ensures.app in
    let checks = one_more (λ v. v.items) app_of c.with_last-run.result c.check_command.result
    c.with_last-check.result (run_app ∷ []) check_app c.with_last-check.ensures runs
    c.check_command.ensures.app in
    let plans = one_more (λ v. v.items) app_of c.with_last-check.result c.plan_command.result
    c.with_last-plan.result (run_app ∷ check_app ∷ []) plan_app c.with_last-plan.ensures checks
    c.plan_command.ensures.app in
    let emits = one_more (λ v. v.items) app_of c.with_last-plan.result c.emit_command.result
    c.with_last-emit.result (run_app ∷ check_app ∷ plan_app ∷ []) emit_app
    c.with_last-emit.ensures plans c.emit_command.ensures.app in
    one_more (λ v. v.items) app_of c.with_last-emit.result c.graph_command.result
    c.with_last.result (run_app ∷ check_app ∷ plan_app ∷ emit_app ∷ []) graph_app
    c.with_last.ensures emits c.graph_command.ensures.app
