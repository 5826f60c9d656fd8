use Rattle.std.proofs.Common.{◌≡◌, ◌∙◌, sym, ap, subst}
use Rattle.clap.specs.Words.{App, HasKind, app_of, fault_of, is_simple, is_simple_and_free, kind_of}
use Rattle.clap.specs.Words.{subcommand_of}
use Rattle.clap.specs.Walk.{texts}
use Rattle.strc_cli_words.specs.Lines.{strc_app}
use Rattle.strc_cli_words.proofs.CommandWords.{asks_for, has_fault, line_refused}
use Rattle.strc_cli_words.proofs.words.command.Goals as goal

pub returns-in-Ok-try_get_matches_from-clause-refused :
    goal.returns-in-Ok-try_get_matches_from-clause-refused
returns-in-Ok-try_get_matches_from-clause-refused c = λ long.
    let words = texts c.args.words.now in
    let app_is : app_of c.in-Ok.parser ≡ strc_app = c.in-Ok.ensures in
    let met = (c.in-Ok-try_get_matches_from.ensures.matches (ap is_simple app_is)).1
    ∙ ap (λ (app : App). subcommand_of app words) app_is in
    let none = ap (λ (app : App). fault_of app words) (sym app_is)
    ∙ c.in-Ok-try_get_matches_from.ensures.kinds (ap is_simple_and_free app_is) in
    line_refused words _ c.line_of.result none met c.line_of.ensures.refused

pub returns-in-Ok-try_get_matches_from-clause-answered :
    goal.returns-in-Ok-try_get_matches_from-clause-answered
returns-in-Ok-try_get_matches_from-clause-answered c = λ long.
    let words = texts c.args.words.now in
    let app_is : app_of c.in-Ok.parser ≡ strc_app = c.in-Ok.ensures in
    let met = (c.in-Ok-try_get_matches_from.ensures.matches (ap is_simple app_is)).1
    ∙ ap (λ (app : App). subcommand_of app words) app_is in
    let none = ap (λ (app : App). fault_of app words) (sym app_is)
    ∙ c.in-Ok-try_get_matches_from.ensures.kinds (ap is_simple_and_free app_is) in
    asks_for words _ c.line_of.result none met c.line_of.ensures.answered

pub returns-in-Err-clause-refused : goal.returns-in-Err-clause-refused
returns-in-Err-clause-refused c = λ long.
    let words = texts c.args.words.now in
    let app_is : app_of c.in-Ok.parser ≡ strc_app = c.in-Ok.ensures in
    let kinds = subst (λ (app : App). HasKind (fault_of app words) c.in-Err.error) app_is
    (c.in-Err.ensures.kinds (ap is_simple_and_free app_is)) in
    has_fault words (kind_of c.in-Err.error) c.fault_of.result kinds c.fault_of.ensures.kind
    c.fault_of.ensures.two
