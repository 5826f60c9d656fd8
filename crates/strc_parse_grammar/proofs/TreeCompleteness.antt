-- The spelling of every statement and of every member is read again.
use Rattle.std.proofs.Common.{ℕ, List, [], ◌∷◌, refl}
use Rattle.std.specs.List.{AllByRecursion}
use Rattle.strc_lex.specs.declared.token.TokenKind.{TokenKind}
use Rattle.strc_lex.specs.declared.token.TokenKind.TheVariants as token
use Rattle.strc_lex.specs.declared.token.Punctuation.TheVariants as punctuation
use Rattle.strc_parse_tree.specs.Tree as tree
use Rattle.strc_parse_grammar.specs.Grammar.{row_spelled, each_spelled, member_spelled, highest}
use Rattle.strc_parse_grammar.specs.Grammar.{IsStmt}
use Rattle.strc_parse_grammar.specs.Grammar.{AreStmts, IsComposition, IsChild, IsMember, AreMembers}
use Rattle.strc_parse_grammar.specs.Grammar.{row_height, member_height}
use Rattle.strc_parse_grammar.specs.Streams.{statements, statement, members, keyword_statement}
use Rattle.strc_parse_grammar.specs.Streams.{shallow}
use Rattle.strc_parse_grammar.proofs.Completeness.{Complete}
use Rattle.strc_parse_grammar.proofs.SimpleCompleteness.{of_argument, return_completeness}
use Rattle.strc_parse_grammar.proofs.StatementCompleteness.{listed, StmtCompleteness}
use Rattle.strc_parse_grammar.proofs.StatementCompleteness.{row_completeness}
use Rattle.strc_parse_grammar.proofs.StatementCompleteness.{block_completeness, if_completeness}
use Rattle.strc_parse_grammar.proofs.StatementCompleteness.{if_else_completeness}
use Rattle.strc_parse_grammar.proofs.StatementCompleteness.{while_completeness}
use Rattle.strc_parse_grammar.proofs.StatementCompleteness.{for_completeness, part_statement}
use Rattle.strc_parse_grammar.proofs.StatementCompleteness.{always}
use Rattle.strc_parse_grammar.proofs.MemberCompleteness.{InsideCompleteness, MemberCompleteness}
use Rattle.strc_parse_grammar.proofs.MemberCompleteness.{member_completeness, unchained}
use Rattle.strc_parse_grammar.proofs.MemberCompleteness.{members_completeness as row_members_completeness}
use Rattle.strc_parse_grammar.proofs.CompositionCompleteness.{WithinCompleteness, PartCompleteness}
use Rattle.strc_parse_grammar.proofs.CompositionCompleteness.{compose_completeness}

mutual
  unfolding shallow keyword_statement

  stmt_completeness : (s : tree.Stmt) → IsStmt s → StmtCompleteness s
  stmt_completeness tree.Empty shape = always tree.Empty shape
      (λ d rest free. part_statement d rest tree.Empty shape)
  stmt_completeness (tree.Block body) shape = let inside = rows_completeness body shape in
      always (tree.Block body) shape (λ d rest free. block_completeness d rest body inside)
  stmt_completeness (tree.Declare kind vs) shape =
      always (tree.Declare kind vs) shape
      (λ d rest free. part_statement d rest (tree.Declare kind vs) shape)
  stmt_completeness (tree.Evaluate e) shape =
      always (tree.Evaluate e) shape (λ d rest free. part_statement d rest (tree.Evaluate e) shape)
  stmt_completeness (tree.Assign x o e) shape =
      always (tree.Assign x o e) shape (λ d rest free. part_statement d rest
      (tree.Assign x o e) shape)
  stmt_completeness (tree.AssignElement x at o e) shape =
      always (tree.AssignElement x at o e) shape
      (λ d rest free. part_statement d rest (tree.AssignElement x at o e) shape)
  stmt_completeness (tree.If c a) shape =
      let inside = stmt_completeness a shape.1 in
      always (tree.If c a) shape (λ d rest free. if_completeness d rest c a shape.0 inside
      (free refl))
  stmt_completeness (tree.IfElse c a b) shape =
      let first = stmt_completeness a shape.2 in
      let second = stmt_completeness b shape.3 in
      always (tree.IfElse c a b) shape (λ d rest free.
      if_else_completeness d rest c a b shape.0 shape.1 first second free)
  stmt_completeness (tree.While c body) shape = let inside = stmt_completeness body shape.1 in
      always (tree.While c body) shape (λ d rest free.
      while_completeness d rest c body shape.0 inside free)
  stmt_completeness (tree.For begun tested stepped body) shape =
      let inside = stmt_completeness body shape.3 in
      always (tree.For begun tested stepped body) shape
      (λ d rest free. for_completeness d rest begun tested stepped body shape.0 shape.1 shape.2
      inside free)
  stmt_completeness (tree.Push e) shape =
      always (tree.Push e) shape (λ d rest free. of_argument d rest e shape tree.Push)
  stmt_completeness (tree.Print e) shape =
      always (tree.Print e) shape (λ d rest free. of_argument d rest e shape tree.Print)
  stmt_completeness (tree.Println e) shape =
      always (tree.Println e) shape (λ d rest free. of_argument d rest e shape tree.Println)
  stmt_completeness (tree.Return value) shape =
      always (tree.Return value) shape (λ d rest free. return_completeness d rest value shape)
  stmt_completeness (tree.Compose c) shape = let inside = part_completeness c shape in
      always (tree.Compose c) shape (λ d rest free. compose_completeness c shape inside d rest)

  rows_completeness : (body : tree.Stmts) → AreStmts body
      → AllByRecursion StmtCompleteness (listed body)
  rows_completeness tree.Done shape = tt
  rows_completeness (tree.Then s others) shape =
      (stmt_completeness s shape.0, rows_completeness others shape.1)

  part_completeness : (c : tree.Composition) → IsComposition c → PartCompleteness c
  part_completeness (tree.ChildOf o c) shape = within_completeness c shape
  part_completeness (tree.Split s) shape = tt
  part_completeness (tree.Join given) shape = tt
  part_completeness (tree.Enqueue e) shape = tt

  within_completeness : (c : tree.Child) → IsChild c → WithinCompleteness c
  within_completeness (tree.Named x given) shape = tt
  within_completeness (tree.Identity pair) shape = tt
  within_completeness (tree.FileReader text) shape = tt
  within_completeness (tree.FileWriter text) shape = tt
  within_completeness (tree.AnonymousFilter types ms) shape = chain_completeness ms shape
  within_completeness (tree.AnonymousComposite types kind block) shape =
      rows_completeness block shape

  inside_completeness : (m : tree.Member) → IsMember m → InsideCompleteness m
  inside_completeness (tree.Fields kind vs) shape = tt
  inside_completeness (tree.Init block) shape = rows_completeness block shape
  inside_completeness (tree.Prework declared block) shape = rows_completeness block shape.1
  inside_completeness (tree.Work declared block) shape = rows_completeness block shape.1
  inside_completeness (tree.Helper kind x given block) shape = rows_completeness block shape

  chain_completeness : (ms : tree.Members) → AreMembers ms
      → AllByRecursion MemberCompleteness (unchained ms)
  chain_completeness tree.NoMember shape = tt
  chain_completeness (tree.And m others) shape = (
    member_completeness m shape.0 (inside_completeness m shape.0),
    chain_completeness others shape.1,
  )

pub statements_completeness : (body : tree.Stmts) → AreStmts body → (d : ℕ) (rest : List TokenKind)
    → Complete d (row_height body) ((listed body, row_height body), rest)
    (statements (statement d) (row_spelled body
    (token.Punctuation punctuation.CloseBrace ∷ rest)))
statements_completeness body shape d rest =
    row_completeness d body (rows_completeness body shape) rest

all_members_completeness : (items : List tree.Member) → AllByRecursion IsMember items
    → AllByRecursion MemberCompleteness items
all_members_completeness [] shape = tt
all_members_completeness (m ∷ others) shape = (
  member_completeness m shape.0 (inside_completeness m shape.0),
  all_members_completeness others shape.1,
)

pub members_completeness : (items : List tree.Member) → AllByRecursion IsMember items
    → (d : ℕ) (rest : List TokenKind)
    → Complete d (highest member_height items) ((items, highest member_height items), rest)
    (members d (statement d) (each_spelled member_spelled items
    (token.Punctuation punctuation.CloseBrace ∷ rest)))
members_completeness items shape d rest =
    row_members_completeness d items (all_members_completeness items shape) rest
