-- Arguments, parameters and types of streams are read again.
use Rattle.std.proofs.Common.{◌≡◌, ℕ, ◌+◌, false, List, [], ◌∷◌, length, Option, Some, None, Ok}
use Rattle.std.proofs.Common.{refl, arith}
use Rattle.std.specs.List.{AllByRecursion}
use Rattle.strc_lex.specs.declared.token.TokenKind.{TokenKind}
use Rattle.strc_lex.specs.declared.token.TokenKind.TheVariants as token
use Rattle.strc_lex.specs.declared.token.Keyword.TheVariants as keyword
use Rattle.strc_lex.specs.declared.token.Punctuation.TheVariants as punctuation
use Rattle.strc_parse_tree.specs.declared.tree.ItemType.{ItemType}
use Rattle.strc_parse_tree.specs.declared.tree.ItemType.TheVariants as item
use Rattle.strc_parse_tree.specs.declared.tree.StreamType.{StreamType}
use Rattle.strc_parse_tree.specs.declared.tree.CompositeKind.{CompositeKind}
use Rattle.strc_parse_tree.specs.declared.tree.CompositeKind.TheVariants as composite
use Rattle.strc_parse_tree.specs.declared.tree.Brackets.{Brackets}
use Rattle.strc_parse_tree.specs.declared.tree.Brackets.TheVariants as brackets
use Rattle.strc_parse_tree.specs.Tree as tree
use Rattle.strc_parse_grammar.specs.Grammar.{each_spelled, brackets_spelled, arguments_spelled}
use Rattle.strc_parse_grammar.specs.Grammar.{kind_keyword, type_keyword, stream_type_spelled}
use Rattle.strc_parse_grammar.specs.Grammar.{int_items_spelled, file_spelled, parameter_spelled}
use Rattle.strc_parse_grammar.specs.Grammar.{next_parameter_spelled, listed_parameters_spelled}
use Rattle.strc_parse_grammar.specs.Grammar.{parameters_spelled, AreArguments, expr_height}
use Rattle.strc_parse_grammar.specs.Grammar.{arguments_height, highest}
use Rattle.strc_parse_grammar.specs.Reading.{is_punctuation, is_keyword, expect, expect_keyword}
use Rattle.strc_parse_grammar.specs.Reading.{name}
use Rattle.strc_parse_grammar.specs.Reading.{text, no_comma, arguments, empty_brackets, parameter}
use Rattle.strc_parse_grammar.specs.Reading.{next_parameter, more_parameters, listed_parameters}
use Rattle.strc_parse_grammar.specs.Reading.{parameters, item_type, stream_type, composite_kind}
use Rattle.strc_parse_grammar.specs.Reading.{int_items, bracketed_text, file, closed_parameters}
use Rattle.strc_parse_grammar.proofs.Completeness.{Complete, Complete-then, expect_punctuation}
use Rattle.strc_parse_grammar.proofs.Completeness.{Complete-done}
use Rattle.strc_parse_grammar.proofs.ListedCompleteness.{found, closed_arguments_completeness}
use Rattle.strc_parse_grammar.proofs.ListedCompleteness.{no_comma_bracket}
use Rattle.strc_parse_grammar.proofs.Lists.{ItemCompleteness, each_completeness}
use Rattle.strc_parse_grammar.proofs.ExpressionCompleteness.{expressions_read}

-- ---- arguments

module _ (d : ℕ) where
  -- before a semicolon
  pub arguments_completeness : (given : Option (List tree.Expr)) → AreArguments given
      → (rest : List TokenKind)
      → Complete d (arguments_height given)
      (given, arguments_height given, token.Punctuation punctuation.Semicolon ∷ rest)
      (arguments d (arguments_spelled given (token.Punctuation punctuation.Semicolon ∷ rest)))
  unfolding arguments is_punctuation
  arguments_completeness None shape rest =
      Complete-done d 0 (None, 0, token.Punctuation punctuation.Semicolon ∷ rest) _
      (omega arith) refl
  arguments_completeness (Some es) shape rest =
      let after : List TokenKind = token.Punctuation punctuation.Semicolon ∷ rest in
      let high : ℕ = highest expr_height es in
      Complete-then d high high (es, high, after) (Some es, high, after) _ _
      (closed_arguments_completeness d es (expressions_read es shape) after) (omega arith)
      (λ low. Complete-done d high (Some es, high, after) _ low refl)

pub brackets_completeness : (pair : Brackets) (rest : List TokenKind)
    → empty_brackets (brackets_spelled pair (token.Punctuation punctuation.Semicolon ∷ rest))
    ≡ Ok (pair, token.Punctuation punctuation.Semicolon ∷ rest)
unfolding empty_brackets expect is_punctuation
brackets_completeness brackets.Written rest = refl
brackets_completeness brackets.Missing rest = refl

-- ---- parameters

parameter_completeness : (x : List ℕ) (rest : List TokenKind)
    → parameter (parameter_spelled x rest) ≡ Ok (x, rest)
unfolding parameter expect_keyword is_keyword name
parameter_completeness x rest = refl

abbrev IsParameterCompleteness : List ℕ → Type 0
IsParameterCompleteness x = ItemCompleteness next_parameter_spelled
    (λ _. 0) next_parameter no_comma 0 x

next_parameter_completeness : (x : List ℕ) → IsParameterCompleteness x
unfolding next_parameter no_comma is_punctuation
next_parameter_completeness x = record {
  reads =
      λ rest. Complete-done 0 0 (x, rest) _ (omega arith) (parameter_completeness x rest);
  stays =
      λ rest. refl;
  long = λ rest. omega arith;
}

all_parameters_completeness : (xs : List (List ℕ)) → AllByRecursion IsParameterCompleteness xs
all_parameters_completeness [] = tt
all_parameters_completeness (x ∷ others) =
    (next_parameter_completeness x, all_parameters_completeness others)

no_height : (xs : List (List ℕ)) → highest (λ _. 0) xs ≡ 0
no_height [] = refl
no_height (x ∷ others) = let none = no_height others in omega arith

listed_parameters_completeness : (xs : List (List ℕ)) (rest : List TokenKind)
    → listed_parameters (listed_parameters_spelled xs
    (token.Punctuation punctuation.CloseParen ∷ rest))
    ≡ Ok (xs, token.Punctuation punctuation.CloseParen ∷ rest)
unfolding listed_parameters more_parameters is_punctuation
listed_parameters_completeness [] rest = refl
listed_parameters_completeness (x ∷ others) rest =
    let end : List TokenKind = token.Punctuation punctuation.CloseParen ∷ rest in
    let past = each_spelled next_parameter_spelled others end in
    let more = (each_completeness next_parameter_spelled (λ _. 0) next_parameter no_comma 0 others
    (all_parameters_completeness others) (x ∷ []) (length past + 1) end end
    (no_comma_bracket rest) (omega arith)).fits
    (omega (arith, no_height others)) in
    rw (parameter_completeness x past) more

-- with the bracket
pub closed_parameters_completeness : (xs : List (List ℕ)) (rest : List TokenKind)
    → closed_parameters (listed_parameters_spelled xs
    (token.Punctuation punctuation.CloseParen ∷ rest)) ≡ Ok (xs, rest)
unfolding closed_parameters
closed_parameters_completeness xs rest =
    rw (listed_parameters_completeness xs rest, expect_punctuation punctuation.CloseParen rest) refl

-- before a brace
pub parameters_completeness : (given : Option (List (List ℕ))) (rest : List TokenKind)
    → parameters (parameters_spelled given (token.Punctuation punctuation.OpenBrace ∷ rest))
    ≡ Ok (given, token.Punctuation punctuation.OpenBrace ∷ rest)
unfolding parameters is_punctuation
parameters_completeness None rest = refl
parameters_completeness (Some xs) rest =
    let after : List TokenKind = token.Punctuation punctuation.OpenBrace ∷ rest in
    rw (closed_parameters_completeness xs after) refl

-- ---- types of streams

types_completeness : (i o : ItemType) (rest : List TokenKind)
    → stream_type (type_keyword i ∷ token.Punctuation punctuation.Arrow ∷ type_keyword o ∷ rest)
    ≡ Ok (record { input = i; output = o }, rest)
unfolding stream_type item_type expect is_punctuation
types_completeness item.Int item.Int rest = refl
types_completeness item.Int item.Void rest = refl
types_completeness item.Void item.Int rest = refl
types_completeness item.Void item.Void rest = refl

pub stream_type_completeness : (types : StreamType) (rest : List TokenKind)
    → stream_type (stream_type_spelled types rest) ≡ Ok (types, rest)
stream_type_completeness types rest = types_completeness types.input types.output rest

pub kind_read : (kind : CompositeKind) (rest : List TokenKind)
    → composite_kind (kind_keyword kind ∷ rest) ≡ Some kind
unfolding composite_kind
kind_read composite.Pipeline rest = refl
kind_read composite.Splitjoin rest = refl
kind_read composite.Feedbackloop rest = refl

pub kind_is_no_filter : (kind : CompositeKind) (rest : List TokenKind)
    → is_keyword keyword.Filter (kind_keyword kind ∷ rest) ≡ false
unfolding is_keyword
kind_is_no_filter composite.Pipeline rest = refl
kind_is_no_filter composite.Splitjoin rest = refl
kind_is_no_filter composite.Feedbackloop rest = refl

pub int_items_completeness : (rest : List TokenKind) → int_items (int_items_spelled rest) ≡ Ok rest
unfolding int_items expect is_punctuation expect_keyword is_keyword
int_items_completeness rest = refl

pub file_completeness : (found : List ℕ) (rest : List TokenKind)
    → file (file_spelled found rest) ≡ Ok (found, rest)
unfolding file bracketed_text text int_items expect is_punctuation expect_keyword is_keyword
file_completeness found rest = refl
