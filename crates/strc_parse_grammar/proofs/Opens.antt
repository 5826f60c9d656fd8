-- How an expression begins.
use Rattle.std.proofs.Common.{◌≡◌, ℕ, true, false, List, ◌∷◌, None, refl}
use Rattle.strc_lex.specs.declared.token.TokenKind.{TokenKind}
use Rattle.strc_lex.specs.declared.token.TokenKind.TheVariants as token
use Rattle.strc_lex.specs.declared.token.Keyword.TheVariants as keyword
use Rattle.strc_lex.specs.declared.token.Punctuation.TheVariants as punctuation
use Rattle.strc_parse_tree.specs.declared.tree.UnaryOperator.TheVariants as unary
use Rattle.strc_parse_tree.specs.declared.tree.StepOperator.TheVariants as step
use Rattle.strc_parse_tree.specs.Tree as tree
use Rattle.strc_parse_grammar.specs.Grammar.{binary_punctuation, expr_spelled, given_spelled}
use Rattle.strc_parse_grammar.specs.Reading.{is_punctuation, is_keyword, brace, optional, part}
use Rattle.strc_parse_grammar.specs.Reading.{ended}
use Rattle.strc_parse_grammar.specs.Streams.{Inner, keyword_statement, shallow}

-- tokens that begin as an expression does
pub record Opens (tokens : List TokenKind) : Type 0 where
  pub no_semicolon : is_punctuation punctuation.Semicolon tokens ≡ false
  pub no_bracket : is_punctuation punctuation.CloseParen tokens ≡ false
  pub no_brace : brace tokens ≡ None
  pub no_else : is_keyword keyword.Else tokens ≡ false
  pub is_part : (depth : ℕ) → part depth tokens ≡ optional depth punctuation.Semicolon tokens
  pub is_ended : (depth : ℕ) (inner : Inner) → shallow depth inner tokens ≡ ended depth tokens

pub opens_name : (x : List ℕ) (rest : List TokenKind) → Opens (token.Name x ∷ rest)
unfolding shallow part brace is_punctuation is_keyword
opens_name x rest = record {
  no_semicolon = refl;
  no_bracket = refl;
  no_brace = refl;
  no_else = refl;
  is_part = λ depth.
      refl;
  is_ended = λ depth inner. refl;
}

pub opens : (e : tree.Expr) (rest : List TokenKind) → Opens (expr_spelled e rest)
unfolding shallow keyword_statement part brace is_punctuation is_keyword
opens (tree.Number value) rest = record {
  no_semicolon = refl;
  no_bracket = refl;
  no_brace = refl;
  no_else = refl;
  is_part = λ depth.
      refl;
  is_ended = λ depth inner. refl;
}
opens (tree.Truth true) rest = record {
  no_semicolon = refl;
  no_bracket = refl;
  no_brace = refl;
  no_else = refl;
  is_part = λ depth.
      refl;
  is_ended = λ depth inner. refl;
}
opens (tree.Truth false) rest = record {
  no_semicolon = refl;
  no_bracket = refl;
  no_brace = refl;
  no_else = refl;
  is_part = λ depth.
      refl;
  is_ended = λ depth inner. refl;
}
opens (tree.Read x) rest = opens_name x rest
opens (tree.Element x at) rest = opens_name x
    (token.Punctuation punctuation.OpenBracket ∷ expr_spelled at
    (token.Punctuation punctuation.CloseBracket ∷ rest))
opens (tree.Call x given) rest = opens_name x
    (token.Punctuation punctuation.OpenParen ∷ given_spelled given
    (token.Punctuation punctuation.CloseParen ∷ rest))
opens tree.Pop rest = record {
  no_semicolon = refl;
  no_bracket = refl;
  no_brace = refl;
  no_else = refl;
  is_part = λ depth.
      refl;
  is_ended = λ depth inner. refl;
}
opens (tree.Peek at) rest = record {
  no_semicolon = refl;
  no_bracket = refl;
  no_brace = refl;
  no_else = refl;
  is_part = λ depth.
      refl;
  is_ended = λ depth inner. refl;
}
opens (tree.Group inner) rest = record {
  no_semicolon = refl;
  no_bracket = refl;
  no_brace = refl;
  no_else = refl;
  is_part = λ depth.
      refl;
  is_ended = λ depth inner. refl;
}
opens (tree.Unary unary.Negate operand) rest = record {
  no_semicolon = refl;
  no_bracket = refl;
  no_brace = refl;
  no_else = refl;
  is_part = λ depth.
      refl;
  is_ended = λ depth inner. refl;
}
opens (tree.Unary unary.Not operand) rest = record {
  no_semicolon = refl;
  no_bracket = refl;
  no_brace = refl;
  no_else = refl;
  is_part = λ depth.
      refl;
  is_ended = λ depth inner. refl;
}
opens (tree.Unary unary.Complement operand) rest = record {
  no_semicolon = refl;
  no_bracket = refl;
  no_brace = refl;
  no_else = refl;
  is_part = λ depth.
      refl;
  is_ended = λ depth inner. refl;
}
opens (tree.Step step.IncrementFirst x) rest = record {
  no_semicolon = refl;
  no_bracket = refl;
  no_brace = refl;
  no_else = refl;
  is_part = λ depth.
      refl;
  is_ended = λ depth inner. refl;
}
opens (tree.Step step.DecrementFirst x) rest = record {
  no_semicolon = refl;
  no_bracket = refl;
  no_brace = refl;
  no_else = refl;
  is_part = λ depth.
      refl;
  is_ended = λ depth inner. refl;
}
opens (tree.Step step.IncrementAfter x) rest = opens_name x
    (token.Punctuation punctuation.PlusPlus ∷ rest)
opens (tree.Step step.DecrementAfter x) rest = opens_name x
    (token.Punctuation punctuation.MinusMinus ∷ rest)
opens (tree.StepElement step.IncrementFirst x at) rest = record {
  no_semicolon = refl;
  no_bracket = refl;
  no_brace = refl;
  no_else = refl;
  is_part = λ depth.
      refl;
  is_ended = λ depth inner. refl;
}
opens (tree.StepElement step.DecrementFirst x at) rest = record {
  no_semicolon = refl;
  no_bracket = refl;
  no_brace = refl;
  no_else = refl;
  is_part = λ depth.
      refl;
  is_ended = λ depth inner. refl;
}
opens (tree.StepElement step.IncrementAfter x at) rest = opens_name x
    (token.Punctuation punctuation.OpenBracket ∷ expr_spelled at
    (token.Punctuation punctuation.CloseBracket ∷ token.Punctuation punctuation.PlusPlus ∷
    rest))
opens (tree.StepElement step.DecrementAfter x at) rest = opens_name x
    (token.Punctuation punctuation.OpenBracket ∷ expr_spelled at
    (token.Punctuation punctuation.CloseBracket ∷ token.Punctuation punctuation.MinusMinus ∷
    rest))
opens (tree.Binary o left right) rest = opens left
    (token.Punctuation (binary_punctuation o) ∷ expr_spelled right rest)
opens (tree.Conditional c a b) rest = opens c
    (token.Punctuation punctuation.Question ∷ expr_spelled a
    (token.Punctuation punctuation.Colon ∷ expr_spelled b rest))
