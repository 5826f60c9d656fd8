use Rattle.std.proofs.Common.{refl, ℕ, List, Option, IfErr, subst}
use Rattle.strc_run_refusal.specs.Placing.{unplaced}
use Rattle.strc_run.specs.Choices.{choice_of}
use Rattle.strc_run.specs.Compiled.{HasCompiled}
use Rattle.strc_run.specs.Located.{IsKnownOf, IsLocated}
use Rattle.strc_run.proofs.Located.{in_program, passed_on}
use Rattle.strc_run.proofs.Refusals.{read_refused, refusal_passed}
use Rattle.strc_run.proofs.compile.compile_whole.Goals as goal

pub returns-in_err-program-clause-compiled : goal.returns-in_err-program-clause-compiled
returns-in_err-program-clause-compiled c =
    let refused = c.in_err-program.field-0.0 in
    refusal_passed c.args.text.now _ c.from_residual.result (unplaced refused) refused
    c.from_residual.ensures.1 refl (read_refused _ _ refused c.in_err-program.ensures.refused)

pub returns-in_err-program-clause-located : goal.returns-in_err-program-clause-located
returns-in_err-program-clause-located c = passed_on
    (IsLocated c.args.text.now (choice_of c.args.options.now)) c.from_residual.result
    (unplaced c.in_err-program.field-0.0) c.from_residual.ensures.1
    (IsLocated.Unread c.in_err-program.ensures.refused refl)

pub returns-clause-compiled : goal.returns-clause-compiled
returns-clause-compiled c =
    let options = c.args.options.now in
    subst (λ (main : Option (List ℕ)). HasCompiled c.args.text.now
    (record { main = main; ways = options.ways; fuse = options.fuse }) c.compile_program.result)
    c.main_name-main.ensures
    (c.compile_program.ensures.compiled c.args.text.now c.in_ok-program.ensures.read)

pub returns-clause-located : goal.returns-clause-located
returns-clause-located c =
    let program = c.in_ok-program.program in
    in_program c.args.text.now (choice_of c.args.options.now) program
    c.in_ok-program.ensures.placed c.compile_program.result
    (subst (λ (main : Option (List ℕ)). IfErr c.compile_program.result (IsKnownOf program main))
    c.main_name-main.ensures c.compile_program.ensures.known)
