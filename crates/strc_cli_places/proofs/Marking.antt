-- What is marked for a rate that breaks a rule.
use Rattle.std.proofs.Common.{◌≡◌, ℕ, Bool, List, Option, Some, IfSome, subst}
use Rattle.strc_lex_names.specs.declared.place.Span.{Span}
use Rattle.strc_lex.specs.declared.token.Token.{Token}
use Rattle.strc_lex.specs.KeywordTexts.{keyword_text}
use Rattle.strc_parse_tree.specs.declared.tree.RateKind.{RateKind}
use Rattle.strc_work_meaning.specs.declared.body.Body.{Body}
use Rattle.strc_work_meaning.specs.Filters.{Filter}
use Rattle.strc_cli_places.specs.declared.rate_places.Moved.{Moved}
use Rattle.strc_cli_places.specs.Keywords.{declared_keyword}
use Rattle.strc_cli_places.specs.Refused.{Finds, MarksRate, Marked}
use Rattle.strc_cli_source.specs.Spelling.{MarksFrom}

-- the place of a rate that is found, at the filter of a node
pub found_marked : (text : List ℕ) (tokens : List Token) (there : Option Filter) (filter : Filter)
    (breaks : Filter → RateKind → Body → Bool) (found : Option Moved) (moved : Moved)
    (place : Option Span) → Some filter ≡ there → Finds (breaks filter) found
    → found ≡ Some moved → MarksFrom text tokens
    (keyword_text (declared_keyword moved.side moved.body filter.members)) place
    → IfSome there (λ f. MarksRate text tokens f (breaks f) place)
found_marked text tokens there filter breaks found moved place same finds is marks =
    subst (λ t. IfSome t (λ f. MarksRate text tokens f (breaks f) place)) same
    (Marked moved.side moved.body (subst (Finds (breaks filter)) is finds) marks)
