use Rattle.std.proofs.Common.{◌∙◌, Option, codes, refl, sym, subst}
use Rattle.clap.specs.Words.{found_of}
use Rattle.clap.specs.Walk.{Text}
use Rattle.clap.proofs.WalkLemmas.{first_value-rows}
use Rattle.strc_cli_words.specs.Lines.{IsSort, IsSortOf}
use Rattle.strc_cli_words.proofs.words.plan_of.Goals as goal

pub returns-in-Ok-clause-answered : goal.returns-in-Ok-clause-answered
returns-in-Ok-clause-answered c =
    let sorted = c.get_str.ensures ∙ first_value-rows (found_of c.args.found.now) (codes "sort") in (
      (
        refl,
        c.is_set.ensures,
        subst (λ (word : Option Text). IsSortOf word c.in-Ok.sort) sorted c.in-Ok.ensures.answered,
      ),
      refl,
    )

pub returns-in-Err-clause-refused : goal.returns-in-Err-clause-refused
returns-in-Err-clause-refused c = λ has.
    let sorted = c.get_str.ensures ∙ first_value-rows (found_of c.args.found.now) (codes "sort") in
    c.in-Err.ensures.refused (subst IsSort (sym sorted) has)
