use Rattle.std.proofs.Common.{◌≡◌, ◌+◌, ◌++◌, ◌∷◌, [], ◌∙◌, ap, sym, subst, length, arith}
use Rattle.std.proofs.Common.{append_assoc, length-append, of_z, to_z, to_z-of_z, w32}
use Rattle.strc_cli_input.specs.NumberReading.{HasPulled}
use Rattle.strc_cli_input.proofs.Pulls.{fill_fails}
use Rattle.strc_cli_input.proofs.number_reader.NumberReader.fill.Goals as goal

pub returns-in-Ok-None-clause-filled : goal.returns-in-Ok-None-clause-filled
returns-in-Ok-None-clause-filled g c first numbers has = (
  grind arith,
  rw c.in-Ok-None.field-0-is at (c.in-Ok-None.ensures.pulled first _
      (c.loop-self.invariant.pulled first numbers has)),
)

pub returns-in-Err-clause-filled : goal.returns-in-Err-clause-filled
returns-in-Err-clause-filled g c first numbers has =
    fill_fails first _ numbers c.loop-self.window.items c.args.need c.in-Err.stop c.pull.new.self
    (grind arith)
    (c.in-Err.ensures.pulled first _ (c.loop-self.invariant.pulled first numbers has))

pub loop-self-preserved : goal.loop-self-preserved
loop-self-preserved g c =
    let old = c.loop-self.window.items in
    let number = to_z w32 (of_z w32 c.in-Ok-Some.number) in
    let same : number ≡ c.in-Ok-Some.number = grind (arith, to_z-of_z) in
    let pushed : c.push.new.self.items ≡ old ++ number ∷ [] = c.in-Ok.ensures.items in
    let longer : length c.push.new.self.items ≡ length old + 1 =
    ap length pushed ∙ length-append old (number ∷ []) in
    let counted = rw c.in-Ok-Some.field-0-is at c.in-Ok-Some.ensures.count in record {
      within = c.pull.ensures.within;
      most = grind (arith, longer);
      count = let before = c.loop-self.invariant.count in omega (arith, counted, before, longer);
      pulled = λ first numbers has.
          subst (λ l. HasPulled first (g.I.Source.remaining c.pull.new.input) l c.pull.new.self)
          (append_assoc numbers old (c.in-Ok-Some.number ∷ [])
          ∙ ap (λ n. numbers ++ (old ++ n ∷ [])) (sym same) ∙ ap (λ l. numbers ++ l) (sym pushed))
          (rw c.in-Ok-Some.field-0-is at (c.in-Ok-Some.ensures.pulled first (numbers ++ old)
          (c.loop-self.invariant.pulled first numbers has)));
      steady = c.pull.ensures.steady (λ failed. let is = c.in-Ok-Some.is in absurd (cc failed))
          ∙ c.loop-self.invariant.steady;
    }
