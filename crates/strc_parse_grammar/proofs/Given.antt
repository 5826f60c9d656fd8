-- The arguments of a call and the list of them.
use Rattle.std.proofs.Common.{◌≡◌, ◌+◌, ◌≤◌, max, List, [], ◌∷◌, length, refl, ap, arith}
use Rattle.std.specs.List.{AllByRecursion}
use Rattle.strc_lex.specs.declared.token.TokenKind.{TokenKind}
use Rattle.strc_lex.specs.declared.token.TokenKind.TheVariants as token
use Rattle.strc_lex.specs.declared.token.Punctuation.TheVariants as punctuation
use Rattle.strc_parse_tree.specs.Tree as tree
use Rattle.strc_parse_tree.specs.Tree.{arguments_of}
use Rattle.strc_parse_grammar.specs.Grammar.{expr_spelled, each_spelled, given_spelled}
use Rattle.strc_parse_grammar.specs.Grammar.{further_spelled}
use Rattle.strc_parse_grammar.specs.Grammar.{next_argument_spelled, listed_spelled, IsExpr}
use Rattle.strc_parse_grammar.specs.Grammar.{AreGiven}
use Rattle.strc_parse_grammar.specs.Grammar.{expr_height, given_height, highest}
use Rattle.strc_parse_grammar.proofs.Stops.{expr_length}

abbrev pub list_of : tree.Arguments → List tree.Expr
list_of tree.NoArgument = []
list_of (tree.Argument first others) = first ∷ list_of others

pub arguments_list : (given : tree.Arguments) → arguments_of (list_of given) ≡ given
arguments_list tree.NoArgument = refl
arguments_list (tree.Argument first others) = ap (tree.Argument first) (arguments_list others)

further_listed : (es : List tree.Expr) (rest : List TokenKind)
    → further_spelled (arguments_of es) rest ≡ each_spelled next_argument_spelled es rest
further_listed [] rest = refl
further_listed (e ∷ others) rest =
    ap (λ (ts : List TokenKind). token.Punctuation punctuation.Comma ∷ expr_spelled e ts)
    (further_listed others rest)

pub given_listed : (es : List tree.Expr) (rest : List TokenKind)
    → given_spelled (arguments_of es) rest ≡ listed_spelled es rest
given_listed [] rest = refl
given_listed (e ∷ others) rest = ap (expr_spelled e) (further_listed others rest)

pub given_highest : (es : List tree.Expr) → given_height (arguments_of es) ≡ highest expr_height es
given_highest [] = refl
given_highest (e ∷ others) = ap (max (expr_height e)) (given_highest others)

pub given_shape : (es : List tree.Expr) → AllByRecursion IsExpr es → AreGiven (arguments_of es)
given_shape [] shape = tt
given_shape (e ∷ others) shape = (shape.0, given_shape others shape.1)

pub nexts_length : (others : List tree.Expr) (rest : List TokenKind)
    → highest expr_height others + length rest
    ≤ length (each_spelled next_argument_spelled others rest)
nexts_length [] rest = omega arith
nexts_length (e ∷ others) rest = omega (
  arith,
  expr_length e (each_spelled next_argument_spelled others rest),
  nexts_length others rest,
)

pub listed_length : (es : List tree.Expr) (rest : List TokenKind)
    → highest expr_height es + length rest ≤ length (listed_spelled es rest)
listed_length [] rest = omega arith
listed_length (e ∷ others) rest = omega (
  arith,
  expr_length e (each_spelled next_argument_spelled others rest),
  nexts_length others rest,
)
