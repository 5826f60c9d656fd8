-- Function values that read: at this depth, what the rules of the depth above are made of.
use Rattle.std.specs.Prelude.{◌≡◌, ℕ, List, Result, IfOk}
use Rattle.std.specs.declared.alloc.Global.{Global}
use Rattle.std.specs.Borrow.{Bor}
use Rattle.strc_lex.specs.declared.token.Token.{Token}
use Rattle.strc_parse_tree.specs.declared.tree.Stmt.{Stmt}
use Rattle.strc_parse_grammar.specs.declared.error.ReadError.{ReadError}
use Rattle.strc_parse_grammar.specs.Grammar.{kinds}
use Rattle.strc_parse_tree.specs.View.{stmt_view}
use Rattle.strc_parse_grammar.specs.declared.rule_result.Parsed.{Parsed}
use Rattle.strc_parse_grammar.specs.Seen.{parsed}
use Rattle.strc_parse_grammar.specs.Reading.{Gives}
use Rattle.strc_parse_grammar.specs.Streams.{statement}
use Rattle.strc_parse.specs.Placed.{IsPlacedWithin}

pub record ReadsStatements (all : List Token) (depth : ℕ)
    (pre : Global → Bor (List Token) → ℕ → Bor (List Token) → Type 0)
    (post : Global → Bor (List Token) → ℕ → Bor (List Token)
    → Result (Parsed Stmt) ReadError → Type 0) : Type 0 where
  pub callable : (alloc : Global) (text tokens : Bor (List Token)) → pre alloc text depth tokens
  pub reads : (alloc : Global) (text tokens : Bor (List Token))
      (r : Result (Parsed Stmt) ReadError) → post alloc text depth tokens r
      → Gives (parsed stmt_view) r (statement depth (kinds tokens.now))
  pub placed : (alloc : Global) (text tokens : Bor (List Token))
      (r : Result (Parsed Stmt) ReadError) → text.now ≡ all → post alloc text depth tokens r
      → IfOk r (λ read. IsPlacedWithin all read.value (kinds read.rest.now))
