-- What is read as a statement is one, and these are its tokens.
use Rattle.std.proofs.Common.{◌≡◌, ℕ, zero, suc, ◌-◌, List, [], ◌∷◌, refl, arith}
use Rattle.strc_lex.specs.declared.token.TokenKind.{TokenKind}
use Rattle.strc_lex.specs.declared.token.TokenKind.TheVariants as token
use Rattle.strc_lex.specs.declared.token.Keyword.{Keyword}
use Rattle.strc_lex.specs.declared.token.Keyword.TheVariants as keyword
use Rattle.strc_lex.specs.declared.token.Punctuation.TheVariants as punctuation
use Rattle.strc_parse_tree.specs.Tree as tree
use Rattle.strc_parse_grammar.specs.Streams.{Inner, keyword_statement, shallow, statement}
use Rattle.strc_parse_grammar.proofs.Soundness.{Sound}
use Rattle.strc_parse_grammar.proofs.StatementSoundness.{StmtRead, ended_stmt, argument_stmt}
use Rattle.strc_parse_grammar.proofs.StatementSoundness.{return_soundness, block_soundness}
use Rattle.strc_parse_grammar.proofs.StatementSoundness.{branch_soundness, while_soundness}
use Rattle.strc_parse_grammar.proofs.StatementSoundness.{for_soundness}
use Rattle.strc_parse_grammar.proofs.CompositionSoundness.{compose_soundness}

module _ (d : ℕ) (inner : Inner) (sound : (tokens : List TokenKind)
    → Sound (StmtRead d tokens) (d - 1) tokens (inner tokens)) where
  keyword_statement_soundness : (w : Keyword) (past : List TokenKind)
      → Sound (StmtRead (suc d) (token.Keyword w ∷ past)) d (token.Keyword w ∷ past)
      (keyword_statement (suc d) inner w (token.Keyword w ∷ past))
  unfolding keyword_statement
  keyword_statement_soundness keyword.If past = branch_soundness d inner sound past
  keyword_statement_soundness keyword.While past = while_soundness d inner sound past
  keyword_statement_soundness keyword.For past = for_soundness d inner sound past
  keyword_statement_soundness keyword.Push past =
      argument_stmt d keyword.Push tree.Push past (λ e. refl) (λ e h. h) (λ e rest. refl)
      (λ e. refl)
  keyword_statement_soundness keyword.Print past =
      argument_stmt d keyword.Print tree.Print past (λ e. refl) (λ e h. h) (λ e rest. refl)
      (λ e. refl)
  keyword_statement_soundness keyword.Println past =
      argument_stmt d keyword.Println tree.Println past (λ e. refl) (λ e h. h) (λ e rest. refl)
      (λ e. refl)
  keyword_statement_soundness keyword.Return past = return_soundness d past
  keyword_statement_soundness keyword.Add past = compose_soundness d inner sound keyword.Add past
  keyword_statement_soundness keyword.Body past = compose_soundness d inner sound keyword.Body past
  keyword_statement_soundness keyword.Loop past = compose_soundness d inner sound keyword.Loop past
  keyword_statement_soundness keyword.Split past =
      compose_soundness d inner sound keyword.Split past
  keyword_statement_soundness keyword.Join past = compose_soundness d inner sound keyword.Join past
  keyword_statement_soundness keyword.Enqueue past =
      compose_soundness d inner sound keyword.Enqueue past
  keyword_statement_soundness w past = ended_stmt d (token.Keyword w ∷ past)

  shallow_soundness : (tokens : List TokenKind)
      → Sound (StmtRead (suc d) tokens) d tokens (shallow (suc d) inner tokens)
  unfolding shallow
  shallow_soundness [] = ended_stmt d []
  shallow_soundness (token.Punctuation punctuation.OpenBrace ∷ rest) =
      block_soundness d inner sound rest
  shallow_soundness (token.Punctuation m ∷ rest) = ended_stmt d (token.Punctuation m ∷ rest)
  shallow_soundness (token.Keyword w ∷ rest) = keyword_statement_soundness w rest
  shallow_soundness (token.Name x ∷ rest) = ended_stmt d (token.Name x ∷ rest)
  shallow_soundness (token.Number n ∷ rest) = ended_stmt d (token.Number n ∷ rest)
  shallow_soundness (token.StringLiteral t ∷ rest) = ended_stmt d (token.StringLiteral t ∷ rest)

-- what is read at a depth
pub statement_soundness : (depth : ℕ) (tokens : List TokenKind)
    → Sound (StmtRead depth tokens) (depth - 1) tokens (statement depth tokens)
unfolding statement
statement_soundness zero tokens = omega arith
statement_soundness (suc d) tokens = let same : suc d - 1 ≡ d = omega arith in
    rw same (shallow_soundness d (statement d) (λ ts. statement_soundness d ts) tokens)
