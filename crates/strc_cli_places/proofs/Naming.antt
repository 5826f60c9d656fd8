-- The names of nodes are marked where they are written.
use Rattle.std.proofs.Common.{◌≡◌, ℕ, List, Option, Some, None, inr, refl}
use Rattle.std.specs.Option.{option_or}
use Rattle.strc_lex_names.specs.declared.place.Span.{Span}
use Rattle.strc_lex.specs.declared.token.Token.{Token}
use Rattle.strc_cli_places.specs.Nodes.{MarksName, MarksNode, MarksStatement, first_name}
use Rattle.strc_cli_places.specs.Nodes.{heading_of}
use Rattle.strc_cli_source.specs.Spelling.{Marks}

-- where no token is spelled so any place will do
still : (text : List ℕ) (tokens : List Token) (bytes : List ℕ) (place : Option Span)
    → Marks text tokens bytes None → Marks text tokens bytes place
still text tokens bytes None unwritten = unwritten
still text tokens bytes (Some place) unwritten = inr unwritten

-- a name is marked
pub named_marked : (text : List ℕ) (tokens : List Token) (name : Option (List ℕ))
    (statement : Option Span) (place : Span) → (name ≡ None → Some place ≡ None)
    → MarksName text tokens name (Some place) → MarksNode text tokens name statement (Some place)
named_marked text tokens None statement place unnamed marks = let no = unnamed refl in absurd cc
named_marked text tokens (Some bytes) statement place unnamed marks = marks

-- a statement is marked, where a name is none or unwritten
pub stated_marked : (text : List ℕ) (tokens : List Token) (name : Option (List ℕ))
    (statement place : Option Span) → MarksName text tokens name None
    → place ≡ heading_of tokens statement → MarksNode text tokens name statement place
stated_marked text tokens None statement place unwritten is = is
stated_marked text tokens (Some bytes) statement place unwritten is =
    still text tokens bytes place unwritten

-- the source of a channel has a name that is marked
pub source_marked : (text : List ℕ) (tokens : List Token) (source target : Option (List ℕ))
    (statement : Option Span) (place : Span) → (source ≡ None → Some place ≡ None)
    → MarksName text tokens source (Some place)
    → MarksNode text tokens (first_name source target) statement (Some place)
source_marked text tokens None target statement place unnamed marks =
    let no = unnamed refl in absurd cc
source_marked text tokens (Some bytes) target statement place unnamed marks = marks

-- its source has none that is written, and that of its target is marked
pub target_marked : (text : List ℕ) (tokens : List Token) (source target : Option (List ℕ))
    (statement : Option Span) (place : Span) → MarksName text tokens source None
    → (target ≡ None → Some place ≡ None) → MarksName text tokens target (Some place)
    → MarksNode text tokens (first_name source target) statement (Some place)
target_marked text tokens None target statement place unwritten unnamed marks =
    named_marked text tokens target statement place unnamed marks
target_marked text tokens (Some bytes) target statement place unwritten unnamed marks =
    still text tokens bytes (Some place) unwritten

-- neither has, and a statement is marked
pub neither_marked : (text : List ℕ) (tokens : List Token) (source target : Option (List ℕ))
    (statement place : Option Span) → MarksName text tokens source None
    → MarksName text tokens target None → place ≡ heading_of tokens statement
    → MarksNode text tokens (first_name source target) statement place
neither_marked text tokens None target statement place unwritten other is =
    stated_marked text tokens target statement place other is
neither_marked text tokens (Some bytes) target statement place unwritten other is =
    still text tokens bytes place unwritten

-- the heading of the first statement that there is
pub first_heading : (tokens : List Token) (first second : Option Span)
    → option_or (heading_of tokens first) (heading_of tokens second)
    ≡ heading_of tokens (option_or first second)
first_heading tokens None second = refl
first_heading tokens (Some at) second = refl

-- a statement, or else the node
pub marks_statement : (text : List ℕ) (tokens : List Token) (found : Option Span)
    (name : Option (List ℕ)) (statement place : Option Span)
    → MarksNode text tokens name statement place
    → MarksStatement text tokens found name statement (option_or (heading_of tokens found) place)
marks_statement text tokens None name statement place marks = marks
marks_statement text tokens (Some at) name statement place marks = refl
