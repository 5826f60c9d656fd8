-- A statement's spelling is read again, where no `else` follows that it would take: by what holds
-- of the statements in it. No tree has more height than tokens.
use Rattle.std.proofs.Common.{◌≡◌, ℕ, zero, suc, ◌+◌, ◌≤◌, max, true, false, List, [], ◌∷◌, length}
use Rattle.std.proofs.Common.{Option, Some, None, refl, ap, arith}
use Rattle.std.specs.List.{AllByRecursion}
use Rattle.strc_lex.specs.declared.token.TokenKind.{TokenKind}
use Rattle.strc_lex.specs.declared.token.TokenKind.TheVariants as token
use Rattle.strc_lex.specs.declared.token.Keyword.TheVariants as keyword
use Rattle.strc_lex.specs.declared.token.Punctuation.TheVariants as punctuation
use Rattle.strc_parse_tree.specs.declared.tree.Role.TheVariants as role
use Rattle.strc_parse_tree.specs.declared.tree.Brackets.{Brackets}
use Rattle.strc_parse_tree.specs.declared.tree.Brackets.TheVariants as brackets
use Rattle.strc_parse_tree.specs.Tree as tree
use Rattle.strc_parse_grammar.specs.Grammar.{each_spelled, highest, part_spelled, bracketed_spelled}
use Rattle.strc_parse_grammar.specs.Grammar.{brackets_spelled, arguments_spelled, rate_spelled}
use Rattle.strc_parse_grammar.specs.Grammar.{block_spelled, stmt_spelled, row_spelled}
use Rattle.strc_parse_grammar.specs.Grammar.{composition_spelled, child_spelled, member_spelled}
use Rattle.strc_parse_grammar.specs.Grammar.{members_spelled, IsExpr, IsOptional, IsFirst, IsStep}
use Rattle.strc_parse_grammar.specs.Grammar.{takes_else, IsStmt, AreStmts, IsComposition, IsChild}
use Rattle.strc_parse_grammar.specs.Grammar.{IsMember, AreMembers, expr_height, arguments_height}
use Rattle.strc_parse_grammar.specs.Grammar.{rate_height, stmt_height, row_height}
use Rattle.strc_parse_grammar.specs.Grammar.{composition_height}
use Rattle.strc_parse_grammar.specs.Grammar.{child_height, member_height, members_height}
use Rattle.strc_parse_grammar.specs.Grammar.{next_parameter_spelled, listed_parameters_spelled}
use Rattle.strc_parse_grammar.specs.Reading.{is_punctuation, is_keyword, brace}
use Rattle.strc_parse_tree.specs.Tree.{row}
use Rattle.strc_parse_grammar.specs.Streams.{statements, block, other_branch, after_branch, branch}
use Rattle.strc_parse_grammar.specs.Streams.{while_loop, for_loop, keyword_statement, shallow}
use Rattle.strc_parse_grammar.specs.Streams.{statement}
use Rattle.strc_parse_grammar.proofs.Completeness.{Complete, Complete-then, Complete-inside}
use Rattle.strc_parse_grammar.proofs.Completeness.{Complete-raised}
use Rattle.strc_parse_grammar.proofs.ListedCompleteness.{found}
use Rattle.strc_parse_grammar.proofs.Stops.{expr_length}
use Rattle.strc_parse_grammar.proofs.Given.{listed_length}
use Rattle.strc_parse_grammar.proofs.Lists.{TallCompleteness, each_taller_completeness}
use Rattle.strc_parse_grammar.proofs.VariableCompleteness.{declared_length}
use Rattle.strc_parse_grammar.proofs.SimpleCompleteness.{made, ended_completeness, heading_height}
use Rattle.strc_parse_grammar.proofs.SimpleCompleteness.{heading_completeness}
use Rattle.strc_parse_grammar.proofs.SimpleCompleteness.{bracketed_completeness}
use Rattle.strc_parse_grammar.proofs.SimpleCompleteness.{begins, part_length, heading_length}
use Rattle.strc_parse_grammar.proofs.SimpleCompleteness.{stmt_height_some, optional_length}

-- ---- how a statement begins

no_brace_composed : (c : tree.Composition) (rest : List TokenKind)
    → brace (composition_spelled c rest) ≡ None
unfolding brace is_punctuation
no_brace_composed (tree.ChildOf role.Add child) rest = refl
no_brace_composed (tree.ChildOf role.Body child) rest = refl
no_brace_composed (tree.ChildOf role.Loop child) rest = refl
no_brace_composed (tree.Split splitter) rest = refl
no_brace_composed (tree.Join weights) rest = refl
no_brace_composed (tree.Enqueue e) rest = refl

-- no statement begins with the brace that closes a block
pub no_brace_before : (s : tree.Stmt) → IsStmt s → (rest : List TokenKind)
    → brace (stmt_spelled s rest) ≡ None
unfolding brace is_punctuation
no_brace_before tree.Empty shape rest = refl
no_brace_before (tree.Block body) shape rest = refl
no_brace_before (tree.Declare kind vs) shape rest =
    (begins (tree.Declare kind vs) shape).no_brace rest
no_brace_before (tree.Evaluate e) shape rest = (begins (tree.Evaluate e) shape).no_brace rest
no_brace_before (tree.Assign x o e) shape rest = refl
no_brace_before (tree.AssignElement x at o e) shape rest = refl
no_brace_before (tree.If c a) shape rest = refl
no_brace_before (tree.IfElse c a b) shape rest = refl
no_brace_before (tree.While c body) shape rest = refl
no_brace_before (tree.For begun tested stepped body) shape rest = refl
no_brace_before (tree.Push e) shape rest = refl
no_brace_before (tree.Print e) shape rest = refl
no_brace_before (tree.Println e) shape rest = refl
no_brace_before (tree.Return value) shape rest = refl
no_brace_before (tree.Compose c) shape rest = no_brace_composed c rest

abbrev pub NoElse : List TokenKind → Type 0
NoElse tokens = is_keyword keyword.Else tokens ≡ false

no_else_composed : (c : tree.Composition) (rest : List TokenKind)
    → NoElse (composition_spelled c rest)
unfolding is_keyword
no_else_composed (tree.ChildOf role.Add child) rest = refl
no_else_composed (tree.ChildOf role.Body child) rest = refl
no_else_composed (tree.ChildOf role.Loop child) rest = refl
no_else_composed (tree.Split splitter) rest = refl
no_else_composed (tree.Join weights) rest = refl
no_else_composed (tree.Enqueue e) rest = refl

-- nor with `else`
no_else_before : (s : tree.Stmt) → IsStmt s → (rest : List TokenKind) → NoElse (stmt_spelled s rest)
unfolding is_keyword
no_else_before tree.Empty shape rest = refl
no_else_before (tree.Block body) shape rest = refl
no_else_before (tree.Declare kind vs) shape rest =
    (begins (tree.Declare kind vs) shape).no_else rest
no_else_before (tree.Evaluate e) shape rest = (begins (tree.Evaluate e) shape).no_else rest
no_else_before (tree.Assign x o e) shape rest = refl
no_else_before (tree.AssignElement x at o e) shape rest = refl
no_else_before (tree.If c a) shape rest = refl
no_else_before (tree.IfElse c a b) shape rest = refl
no_else_before (tree.While c body) shape rest = refl
no_else_before (tree.For begun tested stepped body) shape rest = refl
no_else_before (tree.Push e) shape rest = refl
no_else_before (tree.Print e) shape rest = refl
no_else_before (tree.Println e) shape rest = refl
no_else_before (tree.Return value) shape rest = refl
no_else_before (tree.Compose c) shape rest = no_else_composed c rest

no_else_brace : (rest : List TokenKind) → NoElse (token.Punctuation punctuation.CloseBrace ∷ rest)
unfolding is_keyword
no_else_brace rest = refl

-- ---- heights and lengths

bracketed_length : (e : tree.Expr) (rest : List TokenKind)
    → expr_height e + length rest + 2 ≤ length (bracketed_spelled e rest)
bracketed_length e rest = omega (
  arith,
  expr_length e
      (token.Punctuation punctuation.CloseParen ∷ rest),
)

pub arguments_length : (given : Option (List tree.Expr)) (rest : List TokenKind)
    → arguments_height given + length rest ≤ length (arguments_spelled given rest)
arguments_length None rest = omega arith
arguments_length (Some es) rest = omega (
  arith,
  listed_length es (token.Punctuation punctuation.CloseParen ∷ rest),
)

nexts_length : (others : List (List ℕ)) (rest : List TokenKind)
    → length rest ≤ length (each_spelled next_parameter_spelled others rest)
nexts_length [] rest = omega arith
nexts_length (x ∷ others) rest = omega (arith, nexts_length others rest)

pub listed_parameters_length : (xs : List (List ℕ)) (rest : List TokenKind)
    → length rest ≤ length (listed_parameters_spelled xs rest)
listed_parameters_length [] rest = omega arith
listed_parameters_length (x ∷ others) rest = omega (arith, nexts_length others rest)

pub brackets_length : (pair : Brackets) (rest : List TokenKind)
    → length rest ≤ length (brackets_spelled pair rest)
brackets_length brackets.Written rest = omega arith
brackets_length brackets.Missing rest = omega arith

pub rates_length : (rates : List tree.Rate) (rest : List TokenKind)
    → highest rate_height rates + length rest ≤ length (each_spelled rate_spelled rates rest)
rates_length [] rest = omega arith
rates_length (a ∷ others) rest = omega (
  arith,
  expr_length a.rate (each_spelled rate_spelled others rest),
  rates_length others rest,
)

mutual
  pub stmt_length : (s : tree.Stmt) → IsStmt s → (rest : List TokenKind)
      → stmt_height s + length rest ≤ length (stmt_spelled s rest)
  stmt_length tree.Empty shape rest = omega arith
  stmt_length (tree.Block body) shape rest =
      omega (arith, row_length body shape (token.Punctuation punctuation.CloseBrace ∷ rest))
  stmt_length (tree.Declare kind vs) shape rest =
      omega (
        arith,
        part_length (tree.Declare kind vs) shape
            (token.Punctuation punctuation.Semicolon ∷ rest),
      )
  stmt_length (tree.Evaluate e) shape rest =
      omega (
        arith,
        part_length (tree.Evaluate e) shape
            (token.Punctuation punctuation.Semicolon ∷ rest),
      )
  stmt_length (tree.Assign x o e) shape rest =
      omega (
        arith,
        part_length (tree.Assign x o e) shape
            (token.Punctuation punctuation.Semicolon ∷ rest),
      )
  stmt_length (tree.AssignElement x at o e) shape rest =
      omega (
        arith,
        part_length (tree.AssignElement x at o e) shape
            (token.Punctuation punctuation.Semicolon ∷ rest),
      )
  stmt_length (tree.If c a) shape rest = omega
      (arith, bracketed_length c (stmt_spelled a rest), stmt_length a shape.1 rest)
  stmt_length (tree.IfElse c a b) shape rest =
      let past : List TokenKind = token.Keyword keyword.Else ∷ stmt_spelled b rest in
      omega (
        arith,
        bracketed_length c (stmt_spelled a past),
        stmt_length a shape.2 past,
        stmt_length b shape.3 rest,
      )
  stmt_length (tree.While c body) shape rest =
      omega (arith, bracketed_length c (stmt_spelled body rest), stmt_length body shape.1 rest)
  stmt_length (tree.For begun tested stepped body) shape rest =
      omega (
        arith,
        heading_length begun tested stepped shape.0 shape.2 (stmt_spelled body rest),
        stmt_length body shape.3 rest,
      )
  stmt_length (tree.Push e) shape rest = omega
      (arith, bracketed_length e (token.Punctuation punctuation.Semicolon ∷ rest))
  stmt_length (tree.Print e) shape rest =
      omega (arith, bracketed_length e (token.Punctuation punctuation.Semicolon ∷ rest))
  stmt_length (tree.Println e) shape rest =
      omega (arith, bracketed_length e (token.Punctuation punctuation.Semicolon ∷ rest))
  stmt_length (tree.Return value) shape rest = omega
      (arith, optional_length value (token.Punctuation punctuation.Semicolon ∷ rest))
  stmt_length (tree.Compose c) shape rest = composition_length c shape rest

  pub row_length : (body : tree.Stmts) → AreStmts body → (rest : List TokenKind)
      → row_height body + length rest ≤ length (row_spelled body rest)
  row_length tree.Done shape rest = omega arith
  row_length (tree.Then s others) shape rest =
      omega (arith, stmt_length s shape.0 (row_spelled others rest), row_length others shape.1 rest)

  pub composition_length : (c : tree.Composition) → IsComposition c → (rest : List TokenKind)
      → composition_height c + 1 + length rest ≤ length (composition_spelled c rest)
  composition_length (tree.ChildOf role child) shape rest =
      omega (arith, child_length child shape rest)
  composition_length (tree.Split (tree.Duplicate pair)) shape rest =
      omega (arith, brackets_length pair (token.Punctuation punctuation.Semicolon ∷ rest))
  composition_length (tree.Split (tree.Roundrobin weights)) shape rest =
      omega (arith, arguments_length weights (token.Punctuation punctuation.Semicolon ∷ rest))
  composition_length (tree.Join weights) shape rest =
      omega (arith, arguments_length weights (token.Punctuation punctuation.Semicolon ∷ rest))
  composition_length (tree.Enqueue e) shape rest =
      omega (arith, expr_length e (token.Punctuation punctuation.Semicolon ∷ rest))

  pub child_length : (c : tree.Child) → IsChild c → (rest : List TokenKind)
      → child_height c + length rest + 1 ≤ length (child_spelled c rest)
  child_length (tree.Named x given) shape rest =
      omega (arith, arguments_length given (token.Punctuation punctuation.Semicolon ∷ rest))
  child_length (tree.Identity pair) shape rest =
      omega (arith, brackets_length pair (token.Punctuation punctuation.Semicolon ∷ rest))
  child_length (tree.FileReader text) shape rest = omega arith
  child_length (tree.FileWriter text) shape rest = omega arith
  child_length (tree.AnonymousFilter types members) shape rest =
      omega (arith, members_length members shape (token.Punctuation punctuation.CloseBrace ∷ rest))
  child_length (tree.AnonymousComposite None kind body) shape rest =
      omega (arith, row_length body shape (token.Punctuation punctuation.CloseBrace ∷ rest))
  child_length (tree.AnonymousComposite (Some types) kind body) shape rest =
      omega (arith, row_length body shape (token.Punctuation punctuation.CloseBrace ∷ rest))

  pub member_length : (m : tree.Member) → IsMember m → (rest : List TokenKind)
      → member_height m + length rest + 1 ≤ length (member_spelled m rest)
  member_length (tree.Fields kind vs) shape rest =
      omega (arith, declared_length kind vs (token.Punctuation punctuation.Semicolon ∷ rest))
  member_length (tree.Init body) shape rest =
      omega (arith, row_length body shape (token.Punctuation punctuation.CloseBrace ∷ rest))
  member_length (tree.Prework rates body) shape rest =
      omega (
        arith,
        rates_length rates (block_spelled body rest),
        row_length body shape.1 (token.Punctuation punctuation.CloseBrace ∷ rest),
      )
  member_length (tree.Work rates body) shape rest =
      omega (
        arith,
        rates_length rates (block_spelled body rest),
        row_length body shape.1 (token.Punctuation punctuation.CloseBrace ∷ rest),
      )
  member_length (tree.Helper kind x parameters body) shape rest =
      omega (
        arith,
        listed_parameters_length parameters
            (token.Punctuation punctuation.CloseParen ∷ block_spelled body rest),
        row_length body shape (token.Punctuation punctuation.CloseBrace ∷ rest),
      )

  pub members_length : (members : tree.Members) → AreMembers members → (rest : List TokenKind)
      → members_height members + length rest ≤ length (members_spelled members rest)
  members_length tree.NoMember shape rest = omega arith
  members_length (tree.And m others) shape rest =
      omega (
        arith,
        member_length m shape.0 (members_spelled others rest),
        members_length others shape.1 rest,
      )

-- ---- statements in a row

-- the statements of a row, as a list
abbrev pub listed : tree.Stmts → List tree.Stmt
listed tree.Done = []
listed (tree.Then s others) = s ∷ listed others

pub row_listed : (body : tree.Stmts) → row (listed body) ≡ body
row_listed tree.Done = refl
row_listed (tree.Then s others) = ap (tree.Then s) (row_listed others)

spelled_listed : (body : tree.Stmts) (rest : List TokenKind)
    → each_spelled stmt_spelled (listed body) rest ≡ row_spelled body rest
spelled_listed tree.Done rest = refl
spelled_listed (tree.Then s others) rest = ap (stmt_spelled s) (spelled_listed others rest)

listed_height : (body : tree.Stmts) → highest stmt_height (listed body) ≡ row_height body
listed_height tree.Done = refl
listed_height (tree.Then s others) = ap (λ (n : ℕ). max (stmt_height s) n) (listed_height others)

-- read again before what doesn't go on with an `else` that the statement would take
pub record StmtCompleteness (s : tree.Stmt) : Type 0 where
  pub shape : IsStmt s
  pub reads : (depth : ℕ) (rest : List TokenKind) → (takes_else s ≡ true → NoElse rest)
      → Complete depth (stmt_height s) (made s rest) (statement depth (stmt_spelled s rest))

module _ (d : ℕ) where
  abbrev IsRowCompleteness : tree.Stmt → Type 0
  IsRowCompleteness s = TallCompleteness stmt_spelled stmt_height (statement d) brace NoElse d s

  one_completeness : (s : tree.Stmt) → StmtCompleteness s → IsRowCompleteness s
  one_completeness s complete = record {
    reads = λ rest free. complete.reads d rest (λ takes. free);
    stays = λ rest. no_brace_before s complete.shape rest;
    follows = λ rest. no_else_before s complete.shape rest;
    long = λ rest. omega (arith, stmt_length s complete.shape rest, stmt_height_some s);
  }

  all_completeness : (items : List tree.Stmt) → AllByRecursion StmtCompleteness items
      → AllByRecursion IsRowCompleteness items
  all_completeness [] complete = tt
  all_completeness (s ∷ others) complete =
      (one_completeness s complete.0, all_completeness others complete.1)

  pub brace_closing : (rest : List TokenKind)
      → brace (token.Punctuation punctuation.CloseBrace ∷ rest) ≡ Some rest
  unfolding brace is_punctuation
  brace_closing rest = refl

  pub row_completeness : (body : tree.Stmts) → AllByRecursion StmtCompleteness (listed body)
      → (rest : List TokenKind)
      → Complete d (row_height body) ((listed body, row_height body), rest)
      (statements (statement d) (row_spelled body
      (token.Punctuation punctuation.CloseBrace ∷ rest)))
  unfolding statements
  row_completeness body complete rest =
      let end : List TokenKind = token.Punctuation punctuation.CloseBrace ∷ rest in
      let tokens : List TokenKind = each_spelled stmt_spelled (listed body) end in
      let read = each_taller_completeness stmt_spelled stmt_height (statement d) brace NoElse d
      (listed body) (all_completeness (listed body) complete) [] 0 (length tokens) end rest
      (brace_closing rest) (no_else_brace rest) (omega arith) in
      let none : max 0 (row_height body) ≡ row_height body = omega arith in
      rw (spelled_listed body end, listed_height body, none) at read

-- ---- statements with others in them

module _ (d : ℕ) (rest : List TokenKind) where
  pub block_completeness : (body : tree.Stmts) → AllByRecursion StmtCompleteness (listed body)
      → Complete (suc d) (row_height body + 1) (made (tree.Block body) rest)
      (shallow (suc d) (statement d) (stmt_spelled (tree.Block body) rest))
  unfolding shallow block
  block_completeness body complete =
      Complete-inside d (row_height body) (row_height body + 1)
      ((listed body, row_height body), rest) (made (tree.Block body) rest) _ _
      (row_completeness d body complete rest) (omega arith)
      (λ low. rw (row_listed body) (Complete-raised (suc d) (row_height body)
      (made (tree.Block body) rest) _ refl))

  pub if_completeness : (c : tree.Expr) (a : tree.Stmt) → IsExpr c → StmtCompleteness a
      → NoElse rest
      → Complete (suc d) (stmt_height (tree.If c a)) (made (tree.If c a) rest)
      (shallow (suc d) (statement d) (stmt_spelled (tree.If c a) rest))
  unfolding shallow keyword_statement branch after_branch
  if_completeness c a shape complete free =
      let high : ℕ = stmt_height (tree.If c a) in
      Complete-inside d (expr_height c) high (found c (stmt_spelled a rest))
      (made (tree.If c a) rest) _ _ (bracketed_completeness d (stmt_spelled a rest) c shape)
      (omega arith) (λ one.
      Complete-inside d (stmt_height a) high (made a rest) (made (tree.If c a) rest) _ _
      (complete.reads d rest (λ takes. free)) (omega arith) (λ two.
      rw free (Complete-raised (suc d) (max (expr_height c) (stmt_height a))
      (made (tree.If c a) rest) _ refl)))

  other_completeness : (c : tree.Expr) (a b : tree.Stmt) → StmtCompleteness b
      → (takes_else b ≡ true → NoElse rest) → expr_height c ≤ d → stmt_height a ≤ d
      → Complete (suc d) (stmt_height (tree.IfElse c a b)) (made (tree.IfElse c a b) rest)
      (other_branch (suc d) (statement d) c a (max (expr_height c) (stmt_height a))
      (stmt_spelled b rest))
  unfolding other_branch
  other_completeness c a b complete free one two =
      let high : ℕ = stmt_height (tree.IfElse c a b) in
      Complete-inside d (stmt_height b) high (made b rest) (made (tree.IfElse c a b) rest) _ _
      (complete.reads d rest free) (omega arith) (λ three.
      Complete-raised (suc d) (max (max (expr_height c) (stmt_height a)) (stmt_height b))
      (made (tree.IfElse c a b) rest) _ refl)

  pub if_else_completeness : (c : tree.Expr) (a b : tree.Stmt) → IsExpr c → takes_else a ≡ false
      → StmtCompleteness a → StmtCompleteness b → (takes_else b ≡ true → NoElse rest)
      → Complete (suc d) (stmt_height (tree.IfElse c a b)) (made (tree.IfElse c a b) rest)
      (shallow (suc d) (statement d) (stmt_spelled (tree.IfElse c a b) rest))
  unfolding shallow keyword_statement branch after_branch is_keyword
  if_else_completeness c a b shape closed complete others free =
      let high : ℕ = stmt_height (tree.IfElse c a b) in
      let past : List TokenKind = token.Keyword keyword.Else ∷ stmt_spelled b rest in
      Complete-inside d (expr_height c) high (found c (stmt_spelled a past))
      (made (tree.IfElse c a b) rest) _ _
      (bracketed_completeness d (stmt_spelled a past) c shape) (omega arith) (λ one.
      Complete-inside d (stmt_height a) high (made a past) (made (tree.IfElse c a b) rest) _ _
      (complete.reads d past (λ takes. absurd cc)) (omega arith) (λ two.
      other_completeness c a b others free one two))

  pub while_completeness : (c : tree.Expr) (body : tree.Stmt) → IsExpr c → StmtCompleteness body
      → (takes_else body ≡ true → NoElse rest)
      → Complete (suc d) (stmt_height (tree.While c body)) (made (tree.While c body) rest)
      (shallow (suc d) (statement d) (stmt_spelled (tree.While c body) rest))
  unfolding shallow keyword_statement while_loop
  while_completeness c body shape complete free =
      let high : ℕ = stmt_height (tree.While c body) in
      Complete-inside d (expr_height c) high (found c (stmt_spelled body rest))
      (made (tree.While c body) rest) _ _
      (bracketed_completeness d (stmt_spelled body rest) c shape) (omega arith) (λ one.
      Complete-inside d (stmt_height body) high (made body rest) (made (tree.While c body) rest) _ _
      (complete.reads d rest free) (omega arith) (λ two.
      Complete-raised (suc d) (max (expr_height c) (stmt_height body))
      (made (tree.While c body) rest) _ refl))

  pub for_completeness : (begun : tree.Stmt) (tested : Option tree.Expr) (stepped body : tree.Stmt)
      → IsFirst begun → IsOptional tested → IsStep stepped → StmtCompleteness body
      → (takes_else body ≡ true → NoElse rest)
      → Complete (suc d) (stmt_height (tree.For begun tested stepped body))
      (made (tree.For begun tested stepped body) rest)
      (shallow (suc d) (statement d) (stmt_spelled (tree.For begun tested stepped body) rest))
  unfolding shallow keyword_statement for_loop
  for_completeness begun tested stepped body is_first is_tested is_step complete free =
      let high : ℕ = stmt_height (tree.For begun tested stepped body) in
      let all = made (tree.For begun tested stepped body) rest in
      Complete-then (suc d) (heading_height begun tested stepped) high
      ((begun, tested, stepped), heading_height begun tested stepped, stmt_spelled body rest)
      all _ _
      (heading_completeness d (stmt_spelled body rest) begun tested stepped is_first is_tested
      is_step) (omega arith) (λ one.
      Complete-inside d (stmt_height body) high (made body rest) all _ _
      (complete.reads d rest free) (omega arith) (λ two.
      Complete-raised (suc d) (max (heading_height begun tested stepped) (stmt_height body)) all _
      refl))

  pub part_statement : (s : tree.Stmt) → IsFirst s
      → Complete (suc d) (stmt_height s) (made s rest)
      (shallow (suc d) (statement d) (part_spelled s
      (token.Punctuation punctuation.Semicolon ∷ rest)))
  part_statement s shape = rw ((begins s shape).is_ended (suc d) (statement d) rest)
      (ended_completeness d rest s shape)

-- ---- statements at every depth

abbrev pub IsShallow : tree.Stmt → Type 0
IsShallow s = (d : ℕ) (rest : List TokenKind) → (takes_else s ≡ true → NoElse rest)
    → Complete (suc d) (stmt_height s) (made s rest)
    (shallow (suc d) (statement d) (stmt_spelled s rest))

at_depth : (s : tree.Stmt) → IsShallow s → (depth : ℕ) (rest : List TokenKind)
    → (takes_else s ≡ true → NoElse rest)
    → Complete depth (stmt_height s) (made s rest) (statement depth (stmt_spelled s rest))
unfolding statement
at_depth s complete zero rest free = record
    { fits = λ h. absurd (omega (arith, stmt_height_some s)); over = λ h. refl }
at_depth s complete (suc d) rest free = complete d rest free

pub always : (s : tree.Stmt) → IsStmt s → IsShallow s → StmtCompleteness s
always s shape complete = record { shape = shape; reads = at_depth s complete }
