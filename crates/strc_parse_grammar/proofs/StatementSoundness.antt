-- What is read as a statement of the first kinds is one, and these are its tokens: by what holds of
-- the reader of the statements in it.
use Rattle.std.proofs.Common.{◌≡◌, ℕ, suc, ◌+◌, ◌-◌, ◌≤◌, max, Bool, true, false, List, [], ◌∷◌}
use Rattle.std.proofs.Common.{length, Ok, refl, sym, ap, ◌∙◌, arith, inl, inr}
use Rattle.std.proofs.lemmas.Bool.{cases_Bool}
use Rattle.std.specs.List.{AllByRecursion}
use denote.Enum.Bare.{same_true}
use Rattle.strc_lex.specs.contracts.token.Keyword.{the_type as keyword_type}
use Rattle.strc_lex.specs.declared.token.TokenKind.{TokenKind}
use Rattle.strc_lex.specs.declared.token.TokenKind.TheVariants as token
use Rattle.strc_lex.specs.declared.token.Keyword.{Keyword}
use Rattle.strc_lex.specs.declared.token.Keyword.TheVariants as keyword
use Rattle.strc_lex.specs.declared.token.Punctuation.TheVariants as punctuation
use Rattle.strc_parse_tree.specs.Tree as tree
use Rattle.strc_parse_grammar.specs.Grammar.{part_spelled, bracketed_spelled, heading_spelled}
use Rattle.strc_parse_grammar.specs.Grammar.{stmt_spelled, row_spelled, each_spelled, highest}
use Rattle.strc_parse_grammar.specs.Grammar.{IsExpr}
use Rattle.strc_parse_grammar.specs.Grammar.{IsFirst, takes_else, IsStmt, AreStmts, expr_height}
use Rattle.strc_parse_grammar.specs.Grammar.{stmt_height, row_height}
use Rattle.strc_parse_grammar.specs.Reading.{◌>>=◌, tail, is_keyword, repeated, brace, one_taller}
use Rattle.strc_parse_grammar.specs.Reading.{bracketed, argument, ended, for_heading}
use Rattle.strc_parse_grammar.specs.Reading.{optional_value}
use Rattle.strc_parse_grammar.specs.Reading.{return_value}
use Rattle.strc_parse_tree.specs.Tree.{row}
use Rattle.strc_parse_grammar.specs.Streams.{Inner, statements, block, other_branch, after_branch}
use Rattle.strc_parse_grammar.specs.Streams.{branch}
use Rattle.strc_parse_grammar.specs.Streams.{while_loop, for_loop}
use Rattle.strc_parse_grammar.proofs.Stops.{expr_length}
use Rattle.strc_parse_grammar.proofs.SimpleCompleteness.{heading_length}
use Rattle.strc_parse_grammar.proofs.StatementCompleteness.{NoElse, stmt_length}
use Rattle.strc_parse_grammar.proofs.Soundness.{Sound, Sound-then, Sound-on, Sound-raised, Stopped}
use Rattle.strc_parse_grammar.proofs.Soundness.{repeated_soundness, brace_is, each_spelled-push}
use Rattle.strc_parse_grammar.proofs.Soundness.{highest-push, All-push}
use Rattle.strc_parse_grammar.proofs.SimpleSoundness.{EndedRead, ended_soundness, HeadingRead}
use Rattle.strc_parse_grammar.proofs.SimpleSoundness.{heading_soundness, BracketedRead}
use Rattle.strc_parse_grammar.proofs.SimpleSoundness.{bracketed_soundness, ArgumentRead}
use Rattle.strc_parse_grammar.proofs.SimpleSoundness.{argument_soundness, OptionalRead}
use Rattle.strc_parse_grammar.proofs.SimpleSoundness.{optional_value_soundness}

abbrev count : List TokenKind → ℕ
count ts = length ts

pub keyword_is : (wanted : Keyword) (tokens : List TokenKind) → is_keyword wanted tokens ≡ true
    → tokens ≡ token.Keyword wanted ∷ tail tokens
unfolding is_keyword
keyword_is wanted [] e = absurd cc
keyword_is wanted (token.Keyword found ∷ rest) e =
    ap (λ (w : Keyword). token.Keyword w ∷ rest) (same_true keyword_type tt found wanted e)
keyword_is wanted (token.Name x ∷ rest) e = absurd cc
keyword_is wanted (token.Number n ∷ rest) e = absurd cc
keyword_is wanted (token.StringLiteral t ∷ rest) e = absurd cc
keyword_is wanted (token.Punctuation m ∷ rest) e = absurd cc

-- A statement, its height and what follows it, read from these tokens. An `else` that it takes
-- doesn't follow it.
pub record StmtRead (depth : ℕ) (tokens : List TokenKind)
    (x : tree.Stmt × ℕ × List TokenKind) : Type 0 where
  pub spelled : tokens ≡ stmt_spelled x.0 x.2
  pub shape : IsStmt x.0
  pub high : x.1 ≡ stmt_height x.0
  pub low : x.1 ≤ depth
  pub free : takes_else x.0 ≡ true → NoElse x.2

pub StmtRead-long : {depth : ℕ} {tokens : List TokenKind} {x : tree.Stmt × ℕ × List TokenKind}
    → StmtRead depth tokens x → x.1 + length x.2 ≤ length tokens
StmtRead-long {depth} {tokens} {x} read =
    omega (arith, stmt_length x.0 read.shape x.2, read.high, ap count read.spelled)

-- ---- statements with a semicolon

first_spelled : (s : tree.Stmt) → IsFirst s → (rest : List TokenKind)
    → part_spelled s (token.Punctuation punctuation.Semicolon ∷ rest) ≡ stmt_spelled s rest
first_spelled tree.Empty shape rest = refl
first_spelled (tree.Declare kind vs) shape rest = refl
first_spelled (tree.Evaluate e) shape rest = refl
first_spelled (tree.Assign x o e) shape rest = refl
first_spelled (tree.AssignElement x at o e) shape rest = refl
first_spelled _ shape rest = absurd shape

first_shape : (s : tree.Stmt) → IsFirst s → IsStmt s
first_shape tree.Empty shape = shape
first_shape (tree.Declare kind vs) shape = shape
first_shape (tree.Evaluate e) shape = shape
first_shape (tree.Assign x o e) shape = shape
first_shape (tree.AssignElement x at o e) shape = shape
first_shape _ shape = absurd shape

first_takes : (s : tree.Stmt) → IsFirst s → takes_else s ≡ false
first_takes tree.Empty shape = refl
first_takes (tree.Declare kind vs) shape = refl
first_takes (tree.Evaluate e) shape = refl
first_takes (tree.Assign x o e) shape = refl
first_takes (tree.AssignElement x at o e) shape = refl
first_takes _ shape = absurd shape

not_both : {P : Type 0} (b : Bool) → b ≡ false → b ≡ true → P
not_both b is_false is_true = absurd cc

module _ (d : ℕ) where
  pub ended_stmt : (tokens : List TokenKind)
      → Sound (StmtRead (suc d) tokens) d tokens (ended (suc d) tokens)
  ended_stmt tokens =
      Sound-on (EndedRead IsFirst punctuation.Semicolon (suc d) tokens)
      (StmtRead (suc d) tokens) d d tokens tokens (ended (suc d) tokens) (omega arith)
      (omega arith) (ended_soundness d tokens)
      (λ x read. record {
        spelled = read.spelled ∙ first_spelled x.0 read.shape x.2;
        shape = first_shape x.0 read.shape;
        high = read.high;
        low = read.low;
        free = λ takes. not_both (takes_else x.0) (first_takes x.0 read.shape) takes;
      })

  pub argument_stmt : (w : Keyword) (make : tree.Expr → tree.Stmt) (past : List TokenKind)
      → ((e : tree.Expr) → stmt_height (make e) ≡ expr_height e + 1)
      → ((e : tree.Expr) → IsExpr e → IsStmt (make e))
      → ((e : tree.Expr) (rest : List TokenKind)
      → token.Keyword w ∷ bracketed_spelled e (token.Punctuation punctuation.Semicolon ∷ rest)
      ≡ stmt_spelled (make e) rest) → ((e : tree.Expr) → takes_else (make e) ≡ false)
      → Sound (StmtRead (suc d) (token.Keyword w ∷ past)) d (token.Keyword w ∷ past)
      (argument (suc d) past >>= λ x. Ok (make x.0, x.1, x.2))
  argument_stmt w make past heights shapes spells takes_none =
      let all : List TokenKind = token.Keyword w ∷ past in
      Sound-then (ArgumentRead (suc d) past) (StmtRead (suc d) all) d all (argument (suc d) past) _
      (Sound-on (ArgumentRead (suc d) past) (ArgumentRead (suc d) past) d d past all
      (argument (suc d) past) (omega arith) (omega arith) (argument_soundness d past) (λ x h. h))
      (λ x read. record {
        spelled = ap (λ (ts : List TokenKind). token.Keyword w ∷ ts) read.spelled ∙ spells x.0 x.2;
        shape = shapes x.0 read.shape;
        high = read.high ∙ sym (heights x.0);
        low = read.low;
        free = λ takes. not_both (takes_else (make x.0)) (takes_none x.0) takes;
      })

  pub return_soundness : (past : List TokenKind)
      → Sound (StmtRead (suc d) (token.Keyword keyword.Return ∷ past)) d
      (token.Keyword keyword.Return ∷ past) (return_value (suc d) past)
  unfolding return_value
  return_soundness past =
      let all : List TokenKind = token.Keyword keyword.Return ∷ past in
      let Q : tree.Stmt × ℕ × List TokenKind → Type 0 = StmtRead (suc d) all in
      let same : suc d - 1 ≡ d = omega arith in
      rw same (Sound-then (OptionalRead d past) Q d all (optional_value d past) _
      (Sound-on (OptionalRead d past) (OptionalRead d past) d d past all (optional_value d past)
      (omega arith) (omega arith) (optional_value_soundness d past) (λ x h. h)) (λ x value.
      Sound-raised Q d all (suc d) x.1 (λ height. Ok (tree.Return x.0, height, x.2))
      (λ lt. record {
        spelled = ap (λ (ts : List TokenKind). token.Keyword keyword.Return ∷ ts) value.spelled;
        shape = value.shape;
        high = ap (λ (n : ℕ). n + 1) value.high;
        low = omega arith;
        free = λ takes. not_both (takes_else (tree.Return x.0)) refl takes;
      }) (λ le. absurd (omega (arith, value.low)))))

-- ---- statements in a row

-- the statements of a block, the height of the highest and what follows the brace
pub record BodyRead (depth : ℕ) (tokens : List TokenKind)
    (x : (List tree.Stmt × ℕ) × List TokenKind) : Type 0 where
  pub spelled : tokens ≡ row_spelled (row x.0.0) (token.Punctuation punctuation.CloseBrace ∷ x.1)
  pub shape : AreStmts (row x.0.0)
  pub high : x.0.1 ≡ row_height (row x.0.0)
  pub low : x.0.1 ≤ depth

-- the statements so far, and where the next one begins
record RowRead (depth : ℕ) (all : List TokenKind) (so_far : List tree.Stmt × ℕ)
    (rest : List TokenKind) : Type 0 where
  spelled : all ≡ each_spelled stmt_spelled so_far.0 rest
  shape : AllByRecursion IsStmt so_far.0
  high : so_far.1 ≡ highest stmt_height so_far.0
  low : so_far.1 ≤ depth

spelled_row : (items : List tree.Stmt) (rest : List TokenKind)
    → each_spelled stmt_spelled items rest ≡ row_spelled (row items) rest
spelled_row [] rest = refl
spelled_row (s ∷ others) rest = ap (stmt_spelled s) (spelled_row others rest)

shape_row : (items : List tree.Stmt) → AllByRecursion IsStmt items → AreStmts (row items)
shape_row [] all = tt
shape_row (s ∷ others) all = (all.0, shape_row others all.1)

high_row : (items : List tree.Stmt) → highest stmt_height items ≡ row_height (row items)
high_row [] = refl
high_row (s ∷ others) = ap (λ (n : ℕ). max (stmt_height s) n) (high_row others)

module _ (d : ℕ) (inner : Inner) (sound : (tokens : List TokenKind)
    → Sound (StmtRead d tokens) (d - 1) tokens (inner tokens)) where
  turn_soundness : (all : List TokenKind) (so_far : List tree.Stmt × ℕ) (tokens : List TokenKind)
      → RowRead d all so_far tokens → length tokens ≤ length all
      → Sound (λ x. RowRead d all x.0 x.1 × (length x.1 ≤ length all)) (d - 1) all
      (one_taller inner so_far tokens)
  unfolding one_taller
  turn_soundness all so_far tokens kept le =
      Sound-then (StmtRead d tokens) (λ x. RowRead d all x.0 x.1 × (length x.1 ≤ length all))
      (d - 1) all (inner tokens) _
      (Sound-on (StmtRead d tokens) (StmtRead d tokens) (d - 1) (d - 1) tokens all (inner tokens) le
      (omega arith) (sound tokens) (λ x h. h)) (λ x read. (
        record {
          spelled = kept.spelled ∙ ap (λ (ts : List TokenKind).
              each_spelled stmt_spelled so_far.0 ts) read.spelled
              ∙ sym (each_spelled-push stmt_spelled so_far.0 x.0 x.2);
          shape = All-push IsStmt so_far.0 x.0 kept.shape read.shape;
          high = omega (arith, kept.high, read.high, highest-push stmt_height so_far.0 x.0);
          low = omega (arith, kept.low, read.low);
        },
        omega (arith, StmtRead-long read),
      ))

  pub statements_soundness : (tokens : List TokenKind)
      → Sound (BodyRead d tokens) (d - 1) tokens (statements inner tokens)
  unfolding statements
  statements_soundness tokens =
      Sound-on (Stopped brace (one_taller inner) (RowRead d tokens) (d - 1) tokens)
      (BodyRead d tokens) (d - 1) (d - 1) tokens tokens
      (repeated brace (one_taller inner) (length tokens) ([], 0) tokens)
      (omega arith) (omega arith)
      (repeated_soundness brace (one_taller inner) (RowRead d tokens) (d - 1) tokens
      (λ s ts kept le goes. turn_soundness tokens s ts kept le) (length tokens) ([], 0) tokens
      (record { spelled = refl; shape = tt; high = refl; low = omega arith }) (omega arith))
      (λ x stopped. record {
        spelled = stopped.1.spelled ∙ ap (λ (ts : List TokenKind).
            each_spelled stmt_spelled x.0.0 ts) (brace_is stopped.0 x.1 stopped.2)
            ∙ spelled_row x.0.0 (token.Punctuation punctuation.CloseBrace ∷ x.1);
        shape = shape_row x.0.0 stopped.1.shape;
        high = stopped.1.high ∙ high_row x.0.0;
        low = stopped.1.low;
      })

  pub block_soundness : (past : List TokenKind)
      → Sound (StmtRead (suc d) (token.Punctuation punctuation.OpenBrace ∷ past)) d
      (token.Punctuation punctuation.OpenBrace ∷ past) (block (suc d) inner past)
  unfolding block
  block_soundness past =
      let all : List TokenKind = token.Punctuation punctuation.OpenBrace ∷ past in
      Sound-then (BodyRead d past) (StmtRead (suc d) all) d all (statements inner past) _
      (Sound-on (BodyRead d past) (BodyRead d past) (d - 1) d past all (statements inner past)
      (omega arith) (omega arith) (statements_soundness past) (λ x h. h)) (λ x body.
      Sound-raised (StmtRead (suc d) all) d all (suc d) x.0.1 _
      (λ lt. record {
        spelled = ap (λ (ts : List TokenKind). token.Punctuation punctuation.OpenBrace ∷ ts)
            body.spelled;
        shape = body.shape;
        high = ap (λ (n : ℕ). n + 1) body.high;
        low = omega arith;
        free = λ takes. absurd cc;
      })
      (λ le. absurd (omega (arith, body.low))))

  -- ---- branches and loops

  -- a statement after a token or more
  further : (all tokens : List TokenKind) → length tokens + 1 ≤ length all
      → Sound (StmtRead d tokens) d all (inner tokens)
  further all tokens le = Sound-on (StmtRead d tokens) (StmtRead d tokens) (d - 1) d tokens all
      (inner tokens) (omega arith) (omega arith) (sound tokens) (λ x h. h)

  -- a condition after its keyword
  tested : (w : Keyword) (past : List TokenKind)
      → Sound (BracketedRead d past) d (token.Keyword w ∷ past) (bracketed (suc d) past)
  tested w past =
      Sound-on (BracketedRead d past) (BracketedRead d past) d d past (token.Keyword w ∷ past)
      (bracketed (suc d) past) (omega arith) (omega arith) (bracketed_soundness d past)
      (λ x h. h)

  bracketed_long : {past : List TokenKind} {x : tree.Expr × ℕ × List TokenKind}
      → BracketedRead d past x → x.1 + length x.2 + 2 ≤ length past
  bracketed_long {past} {x} read = omega (
    arith,
    read.high,
    ap count read.spelled,
    expr_length x.0 (token.Punctuation punctuation.CloseParen ∷ x.2),
  )

  other_soundness : (all tokens : List TokenKind) (c : tree.Expr) (a : tree.Stmt) (h : ℕ)
      → all ≡ token.Keyword keyword.If ∷ bracketed_spelled c
      (stmt_spelled a (token.Keyword keyword.Else ∷ tokens)) → IsExpr c → IsStmt a
      → takes_else a ≡ false → h ≡ max (expr_height c) (stmt_height a) → h ≤ d
      → length tokens + 1 ≤ length all → Sound (StmtRead (suc d) all) d all
      (other_branch (suc d) inner c a h tokens)
  unfolding other_branch
  other_soundness all tokens c a h spelled is_expr is_stmt closed high low long =
      Sound-then (StmtRead d tokens) (StmtRead (suc d) all) d all (inner tokens) _
      (further all tokens long) (λ x other.
      Sound-raised (StmtRead (suc d) all) d all (suc d) (max h x.1) _
      (λ lt. record {
        spelled = spelled ∙ ap (λ (ts : List TokenKind). token.Keyword keyword.If
            ∷ bracketed_spelled c (stmt_spelled a (token.Keyword keyword.Else ∷ ts))) other.spelled;
        shape = (is_expr, closed, is_stmt, other.shape);
        high = omega (arith, high, other.high);
        low = omega arith;
        free = other.free;
      }) (λ le. absurd (omega (arith, other.low))))

  not_taking : (a : tree.Stmt) (rest : List TokenKind) → (takes_else a ≡ true → NoElse rest)
      → is_keyword keyword.Else rest ≡ true → takes_else a ≡ false
  not_taking a rest free is =
      elim (cases_Bool (takes_else a)) [
        | inl takes ↦ not_both (is_keyword keyword.Else rest) (free takes) is
        | inr none ↦ none
      ]

  pub branch_soundness : (past : List TokenKind)
      → Sound (StmtRead (suc d) (token.Keyword keyword.If ∷ past)) d
      (token.Keyword keyword.If ∷ past) (branch (suc d) inner past)
  unfolding branch after_branch
  branch_soundness past =
      let all : List TokenKind = token.Keyword keyword.If ∷ past in
      let Q : tree.Stmt × ℕ × List TokenKind → Type 0 = StmtRead (suc d) all in
      Sound-then (BracketedRead d past) Q d all (bracketed (suc d) past) _ (tested keyword.If past)
      (λ c condition.
      let one : c.1 + length c.2 + 2 ≤ length past = bracketed_long condition in
      Sound-then (StmtRead d c.2) Q d all (inner c.2) _ (further all c.2 (omega arith)) (λ a chosen.
      let two : a.1 + length a.2 ≤ length c.2 = StmtRead-long chosen in
      let spelled : all ≡ token.Keyword keyword.If ∷ bracketed_spelled c.0 (stmt_spelled a.0 a.2) =
      ap (λ (ts : List TokenKind). token.Keyword keyword.If ∷ ts)
      (condition.spelled ∙ ap (λ (ts : List TokenKind). bracketed_spelled c.0 ts)
      chosen.spelled) in
      elim (cases_Bool (is_keyword keyword.Else a.2)) [
        | inl is ↦
            let starts = keyword_is keyword.Else a.2 is in
            let less : length a.2 ≡ suc (length (tail a.2)) = ap count starts in
            let read = other_soundness all (tail a.2) c.0 a.0 (max c.1 a.1)
            (spelled ∙ ap (λ (ts : List TokenKind). token.Keyword keyword.If
            ∷ bracketed_spelled c.0 (stmt_spelled a.0 ts)) starts) condition.shape
            chosen.shape
            (not_taking a.0 a.2 chosen.free is) (omega (arith, condition.high, chosen.high))
            (omega (arith, condition.low, chosen.low)) (omega arith) in
            rw is read
        | inr is ↦
            let read = Sound-raised Q d all (suc d) (max c.1 a.1)
            (λ high. Ok (tree.If c.0 a.0, high, a.2))
            (λ lt. record {
              spelled = spelled;
              shape = (condition.shape, chosen.shape);
              high = omega (arith, condition.high, chosen.high);
              low = omega arith;
              free = λ takes. is;
            }) (λ le. absurd (omega (arith, condition.low, chosen.low))) in
            rw is read
      ]))

  pub while_soundness : (past : List TokenKind)
      → Sound (StmtRead (suc d) (token.Keyword keyword.While ∷ past)) d
      (token.Keyword keyword.While ∷ past) (while_loop (suc d) inner past)
  unfolding while_loop
  while_soundness past =
      let all : List TokenKind = token.Keyword keyword.While ∷ past in
      let Q : tree.Stmt × ℕ × List TokenKind → Type 0 = StmtRead (suc d) all in
      Sound-then (BracketedRead d past) Q d all (bracketed (suc d) past) _
      (tested keyword.While past) (λ c condition.
      let one : c.1 + length c.2 + 2 ≤ length past = bracketed_long condition in
      Sound-then (StmtRead d c.2) Q d all (inner c.2) _ (further all c.2 (omega arith)) (λ x body.
      Sound-raised Q d all (suc d) (max c.1 x.1) _
      (λ lt. record {
        spelled = ap (λ (ts : List TokenKind). token.Keyword keyword.While ∷ ts)
            (condition.spelled ∙ ap (λ (ts : List TokenKind). bracketed_spelled c.0 ts)
            body.spelled);
        shape = (condition.shape, body.shape);
        high = omega (arith, condition.high, body.high);
        low = omega arith;
        free = body.free;
      }) (λ le. absurd (omega (arith, condition.low, body.low)))))

  pub for_soundness : (past : List TokenKind)
      → Sound (StmtRead (suc d) (token.Keyword keyword.For ∷ past)) d
      (token.Keyword keyword.For ∷ past) (for_loop (suc d) inner past)
  unfolding for_loop
  for_soundness past =
      let all : List TokenKind = token.Keyword keyword.For ∷ past in
      let Q : tree.Stmt × ℕ × List TokenKind → Type 0 = StmtRead (suc d) all in
      Sound-then (HeadingRead (suc d) past) Q d all (for_heading (suc d) past) _
      (Sound-on (HeadingRead (suc d) past) (HeadingRead (suc d) past) d d past all
      (for_heading (suc d) past) (omega arith) (omega arith) (heading_soundness d past)
      (λ x h. h)) (λ h heading.
      let one : h.1 + length h.2 + 2 ≤ length past =
      omega (
        arith,
        heading.high,
        ap count heading.spelled,
        heading_length h.0.0 h.0.1 h.0.2 heading.begun heading.stepped h.2,
      ) in
      Sound-then (StmtRead d h.2) Q d all (inner h.2) _ (further all h.2 (omega arith)) (λ x body.
      Sound-raised Q d all (suc d) (max h.1 x.1) _
      (λ lt. record {
        spelled = ap (λ (ts : List TokenKind). token.Keyword keyword.For ∷ ts)
            (heading.spelled ∙ ap (λ (ts : List TokenKind). heading_spelled h.0.0 h.0.1 h.0.2 ts)
            body.spelled);
        shape = (heading.begun, heading.tested, heading.stepped, body.shape);
        high = omega (arith, heading.high, body.high);
        low = omega arith;
        free = body.free;
      }) (λ le. omega (arith, body.low))))
