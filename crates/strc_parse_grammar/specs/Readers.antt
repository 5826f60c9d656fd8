-- Function values that read: at this depth, what the rules of the depth above are made of.
use Rattle.std.specs.Prelude.{ℕ, List, Result}
use Rattle.std.specs.declared.alloc.Global.{Global}
use Rattle.std.specs.Borrow.{Bor}
use Rattle.strc_lex.specs.declared.token.Token.{Token}
use Rattle.strc_parse_tree.specs.declared.tree.Expr.{Expr}
use Rattle.strc_parse_grammar.specs.declared.error.ReadError.{ReadError}
use Rattle.strc_parse_grammar.specs.Grammar.{kinds}
use Rattle.strc_parse_tree.specs.View.{expr_view}
use Rattle.strc_parse_grammar.specs.declared.rule_result.Parsed.{Parsed}
use Rattle.strc_parse_grammar.specs.Seen.{parsed}
use Rattle.strc_parse_grammar.specs.Reading.{Gives, expression}

pub record ReadsExpressions (depth : ℕ) (pre : Global → ℕ → ℕ → Bor (List Token) → Type 0)
    (post : Global → ℕ → ℕ → Bor (List Token)
    → Result (Parsed Expr) ReadError → Type 0) : Type 0 where
  pub callable : (alloc : Global) (rank : ℕ) (tokens : Bor (List Token))
      → pre alloc depth rank tokens
  pub reads : (alloc : Global) (rank : ℕ) (tokens : Bor (List Token))
      (r : Result (Parsed Expr) ReadError) → post alloc depth rank tokens r
      → Gives (parsed expr_view) r (expression depth rank (kinds tokens.now))
