use Rattle.std.proofs.Common.{◌<◌, true, length, get_or, subst, sym, inl, inr, arith, rules}
use Rattle.std.specs.Prelude.{IsTrue}
use Rattle.std.proofs.lemmas.Bool.{cases_eq}
use Rattle.std.proofs.lemmas.List.{get_or_default}
use Rattle.strc_balance.specs.declared.equation.Equation.{Equation}
use Rattle.strc_balance.specs.Rates.{IsRated}
use Rattle.strc_balance.proofs.condition.are_rated.Goals as goal

pub loop-equation-preserved : goal.loop-equation-preserved
loop-equation-preserved c k d h =
    let equations = c.args.equations.now in
    let i = c.loop-equation.equation-index in
    let nothing : Equation = record { source = 0; push = 0; target = 0; pop = 0 } in
    let short : i < length equations = omega arith in
    elim (cases_eq k i) [
      | inl same ↦ let here : IsTrue true = search rules in
          subst (λ n. IsRated (get_or equations n d)) (sym same)
          (subst IsRated (get_or_default equations i nothing d short)
          (c.if-not-is_rated.ensures.0 here))
      | inr apart ↦ c.loop-equation.invariant k d (omega arith)
    ]
