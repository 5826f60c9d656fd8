use Rattle.std.proofs.Common.{◌∙◌, Option, Some, option_map, codes, refl, sym, ap, subst}
use Rattle.clap.specs.Words.{found_of, rows_of, subcommand_rows_of}
use Rattle.clap.specs.Walk.{Text}
use Rattle.clap.proofs.WalkLemmas.{first_value-rows}
use Rattle.strc_cli_words.specs.Lines.{IsFormat, IsFormatOf}
use Rattle.strc_cli_words.proofs.LineWords.{bad_command, bad_format, bad_line, no_file}
use Rattle.strc_cli_words.proofs.LineWords.{subcommand_met}
use Rattle.strc_cli_words.proofs.words.line_of.Goals as goal

pub returns-in_default-get_str-clause-refused : goal.returns-in_default-get_str-clause-refused
returns-in_default-get_str-clause-refused c = λ command.
    let found = found_of c.in-Some.found.now in
    let met = subcommand_met c.args.matches.now c.in-Some.name.now (rows_of found)
    (sym c.in-Some.ensures.name) (sym c.in-Some.ensures.rows) in
    no_file _ c.in-Some.name.now (rows_of found) met
    (sym (first_value-rows found (codes "FILE"))
    ∙ (sym c.get_str.ensures ∙ ap (option_map (λ s. s.now)) c.in_default-get_str.is)) command

pub returns-in-Ok-outs_of-clause-answered : goal.returns-in-Ok-outs_of-clause-answered
returns-in-Ok-outs_of-clause-answered c =
    let found = found_of c.in-Some.found.now in
    let met = subcommand_met c.args.matches.now c.in-Some.name.now (rows_of found)
    (sym c.in-Some.ensures.name) (sym c.in-Some.ensures.rows) in (
      c.in-Some.name.now,
      rows_of found,
      met,
      record {
        given = refl;
        file = ap Some c.in_ok-file.ensures.same
            ∙ (c.in-Some-get_str.ensures ∙ first_value-rows found (codes "FILE"));
        command = c.in-Ok.ensures.answered.0;
        main = c.in-Ok.ensures.answered.1 ∙ (c.in_ok-main.ensures.same
            ∙ (c.get_str-2.ensures ∙ first_value-rows found (codes "main")));
        live = c.is_set-live.ensures;
        lint = c.is_set.ensures;
        format = subst (λ (word : Option Text). IsFormatOf word c.in-Ok-format_of.format)
            (c.get_str-4.ensures ∙ first_value-rows found (codes "format"))
            c.in-Ok-format_of.ensures.answered;
        outs = c.in-Ok-outs_of.ensures.answered;
        times = c.in_ok-times.ensures.same ∙ (c.get_str-3.ensures
            ∙ first_value-rows found (codes "times"));
      },
    )

pub returns-in-Err-clause-refused : goal.returns-in-Err-clause-refused
returns-in-Err-clause-refused c =
    let found = found_of c.in-Some.found.now in
    let met = subcommand_met c.args.matches.now c.in-Some.name.now (rows_of found)
    (sym c.in-Some.ensures.name) (sym c.in-Some.ensures.rows) in
    bad_command _ _ c.in-Some.name.now (rows_of found) met c.in-Err.ensures.refused

pub returns-in-Err-outs_of-clause-refused : goal.returns-in-Err-outs_of-clause-refused
returns-in-Err-outs_of-clause-refused c =
    let found = found_of c.in-Some.found.now in
    let met = subcommand_met c.args.matches.now c.in-Some.name.now (rows_of found)
    (sym c.in-Some.ensures.name) (sym c.in-Some.ensures.rows) in
    bad_line _ _ c.in-Some.name.now (rows_of found) c.is_set-live.result met
    c.is_set-live.ensures c.in-Err-outs_of.ensures.refused

pub returns-in-Err-format_of-clause-refused : goal.returns-in-Err-format_of-clause-refused
returns-in-Err-format_of-clause-refused c =
    let found = found_of c.in-Some.found.now in
    let met = subcommand_met c.args.matches.now c.in-Some.name.now (rows_of found)
    (sym c.in-Some.ensures.name) (sym c.in-Some.ensures.rows) in
    bad_format _ _ c.in-Some.name.now (rows_of found) met c.in-Err-format_of.ensures.format
    (λ has. c.in-Err-format_of.ensures.refused (subst IsFormat
    (sym (c.get_str-4.ensures ∙ first_value-rows found (codes "format"))) has))
