use Rattle.std.proofs.Common.{◌≡◌, ◌∙◌, length, List, Option, Some, None, option_map, codes, map, sym, ap}
use Rattle.std.proofs.Common.{refl, subst}
use Rattle.clap.specs.Words.{Text, found_of, rows_of}
use Rattle.clap.specs.Walk.{all_of, texts}
use Rattle.clap.proofs.WalkLemmas.{raw_values-rows}
use Rattle.strc_cli_words.specs.Outs.{AreBadOuts, AreOutsFor, has_twice, names_of}
use Rattle.strc_cli_words.specs.declared.line.LineFault.TheVariants as fault
use Rattle.std.proofs.lemmas.Bool.{true≢false}
use Rattle.strc_cli_words.proofs.LineWords.{are_empty, not_empty}
use Rattle.strc_cli_words.proofs.words.outs_of.Goals as goal
use Rattle.strc_cli_words.proofs.words.outs_of.Goals.{else-live-via-then-live+else-not-is_empty}
use Rattle.strc_cli_words.proofs.words.outs_of.Goals.{else-live-via-else-live}

pub returns-in_default-clause-answered : goal.returns-in_default-clause-answered
returns-in_default-clause-answered c =
    let given : None ≡ all_of (codes "out") (rows_of (found_of c.args.found.now)) =
    sym (ap (option_map (λ s. map (λ v. v.now) s.now)) c.in_default.is)
    ∙ (c.get_strs.ensures ∙ raw_values-rows (found_of c.args.found.now) (codes "out")) in
    subst (λ (words : Option (List Text)). AreOutsFor c.args.live words c.new.result.items) given
    c.new.ensures.items

pub returns-in-Err-clause-refused : goal.returns-in-Err-clause-refused
returns-in-Err-clause-refused c =
    let given : Some (texts c.in-Some.words.now)
    ≡ all_of (codes "out") (rows_of (found_of c.args.found.now)) =
    sym (ap (option_map (λ s. map (λ v. v.now) s.now)) c.in-Some.is)
    ∙ (c.get_strs.ensures ∙ raw_values-rows (found_of c.args.found.now) (codes "out")) in
    subst (λ (words : Option (List Text)). AreBadOuts c.in-Err.fault c.args.live words) given
    (c.in-Err.ensures.refused c.args.live)

pub returns-then-has_twice-clause-refused : goal.returns-then-has_twice-clause-refused
returns-then-has_twice-clause-refused c =
    let given : Some (texts c.in-Some.words.now)
    ≡ all_of (codes "out") (rows_of (found_of c.args.found.now)) =
    sym (ap (option_map (λ s. map (λ v. v.now) s.now)) c.in-Some.is)
    ∙ (c.get_strs.ensures ∙ raw_values-rows (found_of c.args.found.now) (codes "out")) in
    subst (λ (words : Option (List Text)). AreBadOuts fault.TapeTwice c.args.live words) given (
      c.in-Ok.outs.items,
      c.in-Ok.ensures.answered,
      ap (λ outs. has_twice (map names_of outs)) (sym c.deref.ensures.value)
          ∙ (sym c.has_twice.ensures ∙ c.if-has_twice.true),
    )

pub returns-then-not-is_empty-clause-refused : goal.returns-then-not-is_empty-clause-refused
returns-then-not-is_empty-clause-refused c =
    let given : Some (texts c.in-Some.words.now)
    ≡ all_of (codes "out") (rows_of (found_of c.args.found.now)) =
    sym (ap (option_map (λ s. map (λ v. v.now) s.now)) c.in-Some.is)
    ∙ (c.get_strs.ensures ∙ raw_values-rows (found_of c.args.found.now) (codes "out")) in
    subst (λ (words : Option (List Text)). AreBadOuts fault.LiveOut c.args.live words) given (
      c.in-Ok.outs.items,
      c.in-Ok.ensures.answered,
      not_empty c.in-Ok.outs.items _ _
          (sym c.deref.ensures.len ∙ ap length c.deref.ensures.value) c.is_empty.ensures
          c.if-not-is_empty.true,
      c.if-live.true,
    )

pub returns-clause-answered : goal.returns-clause-answered
returns-clause-answered c =
    let given : Some (texts c.in-Some.words.now)
    ≡ all_of (codes "out") (rows_of (found_of c.args.found.now)) =
    sym (ap (option_map (λ s. map (λ v. v.now) s.now)) c.in-Some.is)
    ∙ (c.get_strs.ensures ∙ raw_values-rows (found_of c.args.found.now) (codes "out")) in
    subst (λ (words : Option (List Text)). AreOutsFor c.args.live words c.in-Ok.outs.items) given (
      c.in-Ok.ensures.answered,
      ap (λ outs. has_twice (map names_of outs)) (sym c.deref.ensures.value)
          ∙ (sym c.has_twice.ensures ∙ c.if-has_twice.false),
      elim c.else-live.branch [
        | else-live-via-then-live+else-not-is_empty w ↦ λ live.
            are_empty c.in-Ok.outs.items _ _
            (sym c.deref.ensures.len ∙ ap length c.deref.ensures.value) w.is_empty.ensures
            w.if-not-is_empty.false
        | else-live-via-else-live w ↦ λ live. absurd (true≢false (sym live ∙ w.if-live.false))
      ],
    )
