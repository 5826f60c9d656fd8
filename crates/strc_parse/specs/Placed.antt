-- Where statements, rates and declarations of fields are in a text: each is at the place of the
-- tokens that spell it.
use Rattle.std.specs.Prelude.{◌≡◌, ℕ, ◌-◌, List, [], ◌∷◌, length, drop, map, Option}
use Rattle.std.specs.Option.{option_map}
use Rattle.std.specs.Borrow.{Bor}
use Rattle.std.specs.Global.{Vec}
use Rattle.strc_lex_names.specs.declared.place.Span.{Span}
use Rattle.strc_lex.specs.declared.token.Token.{Token}
use Rattle.strc_lex.specs.declared.token.TokenKind.{TokenKind}
use Rattle.strc_lex.specs.declared.token.TokenKind.TheVariants as token
use Rattle.strc_lex.specs.declared.token.Keyword.TheVariants as keyword
use Rattle.strc_lex.specs.declared.token.Punctuation.TheVariants as punctuation
use Rattle.strc_parse_tree.specs.declared.tree.Child.{Child, Row_of-Member, end_of-Member}
use Rattle.strc_parse_tree.specs.declared.tree.Child.{more_of-Member}
use Rattle.strc_parse_tree.specs.declared.tree.Child.TheVariants as child
use Rattle.strc_parse_tree.specs.declared.tree.Composition.{Composition}
use Rattle.strc_parse_tree.specs.declared.tree.Composition.TheVariants as composition
use Rattle.strc_parse_tree.specs.declared.tree.Decl.{Decl}
use Rattle.strc_parse_tree.specs.declared.tree.Expr.{Expr}
use Rattle.strc_parse_tree.specs.declared.tree.Member.{Member}
use Rattle.strc_parse_tree.specs.declared.tree.Member.TheVariants as member
use Rattle.strc_parse_tree.specs.declared.tree.Program.{Program}
use Rattle.strc_parse_tree.specs.declared.tree.RateTree.{RateTree}
use Rattle.strc_parse_tree.specs.declared.tree.Stmt.{Stmt, Row_of-Stmt, end_of-Stmt, more_of-Stmt}
use Rattle.strc_parse_tree.specs.declared.tree.Stmt.TheVariants as stmt
use Rattle.strc_parse_tree.specs.declared.tree.StreamTree.{StreamTree}
use Rattle.strc_parse_tree.specs.declared.tree.StreamTree.TheVariants as stream
use Rattle.strc_parse_tree.specs.declared.tree.Variables.{Variables}
use Rattle.strc_parse_tree.specs.Tree.{row}
use Rattle.strc_parse_tree.specs.View.{rate_view, type_view, variable_view}
use Rattle.strc_parse_tree.specs.View.{block_view, declaration_view, expr_view, member_view}
use Rattle.strc_parse_tree.specs.View.{members_view, row_view, stmt_view, IsPlacedAt}
use Rattle.strc_parse_grammar.specs.Grammar.{declaration_spelled, each_spelled, kinds}
use Rattle.strc_parse_grammar.specs.Grammar.{member_spelled}
use Rattle.strc_parse_grammar.specs.Grammar.{members_spelled, optional_spelled, part_spelled}
use Rattle.strc_parse_grammar.specs.Grammar.{block_spelled, declared_spelled, rate_spelled}
use Rattle.strc_parse_grammar.specs.Grammar.{row_spelled, stmt_spelled}
use Rattle.strc_parse_grammar.specs.Places.{before, span_of}
use Rattle.strc_parse_grammar.specs.declared.rule_result.Parsed.{Parsed}

-- a statement with this place; an empty one has none
abbrev pub IsAt : Span → Stmt → (placed : Stmt) → Type 0
IsAt place stmt.Empty placed = placed ≡ stmt.Empty
IsAt place statement placed = IsPlacedAt place statement placed

-- so many tokens at the end of a text
abbrev pub last_of : (all : List Token) → (count : ℕ) → List Token
last_of all count = drop (length all - count) all

-- the place of what is spelled where so many tokens of a text are left, up to where so many are
abbrev pub place_between : (all : List Token) → (from after : ℕ) → Span
place_between all from after = span_of (before (last_of all from) (last_of all after))

-- what was read is the same with its place, from where so many tokens of a text were left; an empty
-- statement has none
abbrev pub IsFrom : (all : List Token) → (from : ℕ) → (read placed : Parsed Stmt) → Type 0
IsFrom all from read placed = (placed.rest ≡ read.rest)
    × IsAt (place_between all from (length read.rest.now)) read.value placed.value

-- the place of what these kinds of tokens, the last of a text, begin with, up to those that follow
abbrev pub spelled_place : (all : List Token) → (spelled rest : List TokenKind) → Span
spelled_place all spelled rest = place_between all (length spelled) (length rest)

-- a rate is at its place, before these tokens
abbrev pub IsRatePlaced : (all : List Token) → RateTree → (rest : List TokenKind) → Type 0
IsRatePlaced all rate rest =
    rate.place ≡ spelled_place all (rate_spelled (rate_view rate) rest) rest

-- rates one after another
abbrev pub AreRatesPlaced : (all : List Token) → List RateTree → (rest : List TokenKind) → Type 0
AreRatesPlaced all [] rest = Unit {0}
AreRatesPlaced all (first ∷ others) rest =
    IsRatePlaced all first (each_spelled rate_spelled (map rate_view others) rest)
    × AreRatesPlaced all others rest

-- a declaration of fields is at its place, before these tokens
abbrev pub AreFieldsPlaced : (all : List Token) → Variables → (rest : List TokenKind) → Type 0
AreFieldsPlaced all fields rest = fields.place ≡ spelled_place all
    (declared_spelled (type_view fields.kind) (map variable_view fields.variables.items) rest) rest

-- Each of these stands in a text of these tokens before a rest of them. A statement has its place,
-- unless it is empty, and so has each one within it, each rate and each declaration of fields.
abbrev mutual
  pub IsPlaced : (all : List Token) → Stmt → (rest : List TokenKind) → Type 0
  IsPlaced all stmt.Empty rest = Unit {0}
  IsPlaced all (stmt.Placed' place at inner) rest =
      (place ≡ spelled_place all (stmt_spelled (stmt_view inner) rest) rest)
      × IsPlacedWithin all inner rest
  IsPlaced all _ rest = ⊥

  -- the statements within this one
  pub IsPlacedWithin : (all : List Token) → Stmt → (rest : List TokenKind) → Type 0
  IsPlacedWithin all (stmt.Block' shape body) rest =
      IsRowPlaced all body (token.Punctuation punctuation.CloseBrace ∷ rest)
  IsPlacedWithin all (stmt.If' condition at chosen) rest = IsPlaced all chosen rest
  IsPlacedWithin all (stmt.IfElse' condition at chosen at' other) rest =
      IsPlaced all chosen (token.Keyword keyword.Else ∷ stmt_spelled (stmt_view other) rest)
      × IsPlaced all other rest
  IsPlacedWithin all (stmt.While' condition at body) rest = IsPlaced all body rest
  IsPlacedWithin all (stmt.For' at first condition at' step at'' body) rest =
      IsPlaced all first (optional_spelled (option_map expr_view condition)
      (token.Punctuation punctuation.Semicolon
      ∷ part_spelled (stmt_view step) (token.Punctuation punctuation.CloseParen
      ∷ stmt_spelled (stmt_view body) rest)))
      × IsStepPlaced all step
      (token.Punctuation punctuation.CloseParen ∷ stmt_spelled (stmt_view body) rest)
      × IsPlaced all body rest
  IsPlacedWithin all (stmt.Compose part) rest = IsPartPlaced all part rest
  IsPlacedWithin all (stmt.Placed' place at inner) rest = ⊥
  IsPlacedWithin all _ rest = Unit {0}

  -- the step of a `for`, which has no semicolon
  pub IsStepPlaced : (all : List Token) → Stmt → (rest : List TokenKind) → Type 0
  IsStepPlaced all stmt.Empty rest = Unit {0}
  IsStepPlaced all (stmt.Placed' place at inner) rest =
      place ≡ spelled_place all (part_spelled (stmt_view inner) rest) rest
  IsStepPlaced all _ rest = ⊥

  -- statements in a row
  pub IsRowPlaced : (all : List Token) → {m : _} → Row_of-Stmt m → (rest : List TokenKind) → Type 0
  IsRowPlaced all end_of-Stmt rest = Unit {0}
  IsRowPlaced all (more_of-Stmt first others) rest =
      IsPlaced all first (row_spelled (row_view others) rest) × IsRowPlaced all others rest

  -- the statements within a part of a composite stream
  pub IsPartPlaced : (all : List Token) → Composition → (rest : List TokenKind) → Type 0
  IsPartPlaced all (composition.Child role child) rest = IsChildPlaced all child rest
  IsPartPlaced all _ rest = Unit {0}

  -- the statements of a stream without a name
  pub IsChildPlaced : (all : List Token) → Child → (rest : List TokenKind) → Type 0
  IsChildPlaced all (child.Filter' types shape members) rest =
      AreMembersPlaced all members (token.Punctuation punctuation.CloseBrace ∷ rest)
  IsChildPlaced all (child.Composite' types kind shape block) rest =
      IsRowPlaced all block (token.Punctuation punctuation.CloseBrace ∷ rest)
  IsChildPlaced all _ rest = Unit {0}

  -- the statements of a member of a filter
  pub IsMemberPlaced : (all : List Token) → Member → (rest : List TokenKind) → Type 0
  IsMemberPlaced all (member.Fields fields) rest =
      AreFieldsPlaced all fields (token.Punctuation punctuation.Semicolon ∷ rest)
  IsMemberPlaced all (member.Init' shape block) rest =
      IsRowPlaced all block (token.Punctuation punctuation.CloseBrace ∷ rest)
  IsMemberPlaced all (member.Prework' rates shape block) rest =
      AreRatesPlaced all rates.items (block_spelled (row_view block) rest)
      × IsRowPlaced all block (token.Punctuation punctuation.CloseBrace ∷ rest)
  IsMemberPlaced all (member.Work' rates shape block) rest =
      AreRatesPlaced all rates.items (block_spelled (row_view block) rest)
      × IsRowPlaced all block (token.Punctuation punctuation.CloseBrace ∷ rest)
  IsMemberPlaced all (member.Helper' kind name parameters shape block) rest =
      IsRowPlaced all block (token.Punctuation punctuation.CloseBrace ∷ rest)

  pub AreMembersPlaced : (all : List Token) → {m : _} → Row_of-Member m → (rest : List TokenKind)
      → Type 0
  AreMembersPlaced all end_of-Member rest = Unit {0}
  AreMembersPlaced all (more_of-Member first others) rest =
      IsMemberPlaced all first (members_spelled (members_view others) rest)
      × AreMembersPlaced all others rest

-- A statement was read from these tokens, the last of a text. They spell it, before those after it,
-- and it is at its place.
pub record IsReadAt (all tokens : List Token) (read : Parsed Stmt) : Type 0 where
  pub spelled : kinds tokens ≡ stmt_spelled (stmt_view read.value) (kinds read.rest.now)
  pub placed : IsPlaced all read.value (kinds read.rest.now)

-- a statement without another one in it, and without a place
abbrev pub IsPlain : Stmt → Type 0
IsPlain statement = (all : List Token) (rest : List TokenKind) → IsPlacedWithin all statement rest

-- what is between the brackets of a `for`
abbrev pub IsHeadingPlaced : (all : List Token) → Stmt × (Option Expr × Stmt)
    → (rest : List TokenKind) → Type 0
IsHeadingPlaced all heading rest =
    IsPlaced all heading.0 (optional_spelled (option_map expr_view heading.1.0)
    (token.Punctuation punctuation.Semicolon
    ∷ part_spelled (stmt_view heading.1.1) (token.Punctuation punctuation.CloseParen ∷ rest)))
    × IsStepPlaced all heading.1.1 (token.Punctuation punctuation.CloseParen ∷ rest)

-- statements one after another
abbrev pub IsBlockPlaced : (all : List Token) → List Stmt → (rest : List TokenKind) → Type 0
IsBlockPlaced all [] rest = Unit {0}
IsBlockPlaced all (first ∷ others) rest =
    IsPlaced all first (row_spelled (block_view others) rest) × IsBlockPlaced all others rest

-- rates and a block
abbrev pub IsPhasePlaced : (all : List Token) → Vec RateTree × Vec Stmt → (rest : List TokenKind)
    → Type 0
IsPhasePlaced all phase rest =
    AreRatesPlaced all phase.0.items (block_spelled (row (map stmt_view phase.1.items)) rest)
    × IsBlockPlaced all phase.1.items (token.Punctuation punctuation.CloseBrace ∷ rest)

-- the statements of members one after another
abbrev pub ArePartsPlaced : (all : List Token) → List Member → (rest : List TokenKind) → Type 0
ArePartsPlaced all [] rest = Unit {0}
ArePartsPlaced all (first ∷ others) rest =
    IsMemberPlaced all first (each_spelled member_spelled (map member_view others) rest)
    × ArePartsPlaced all others rest

-- the statements of a declared stream
abbrev pub IsStreamPlaced : (all : List Token) → StreamTree → (rest : List TokenKind) → Type 0
IsStreamPlaced all (stream.Filter filter) rest =
    ArePartsPlaced all filter.members.items (token.Punctuation punctuation.CloseBrace ∷ rest)
IsStreamPlaced all (stream.Composite composite) rest =
    IsBlockPlaced all composite.block.items (token.Punctuation punctuation.CloseBrace ∷ rest)

-- a declared stream that was read, and the tokens after it
abbrev pub IsReadPlaced : (all : List Token) → Decl × Bor (List Token) → Type 0
IsReadPlaced all read = IsStreamPlaced all read.0.stream (kinds read.1.now)

abbrev pub AreStreamsPlaced : (all : List Token) → List Decl → (rest : List TokenKind) → Type 0
AreStreamsPlaced all [] rest = Unit {0}
AreStreamsPlaced all (first ∷ others) rest =
    IsStreamPlaced all first.stream
    (each_spelled declaration_spelled (map declaration_view others) rest)
    × AreStreamsPlaced all others rest

-- each statement, rate and declaration of fields of a program that these tokens spell is at the
-- place of the tokens that spell it
abbrev pub IsProgramPlaced : (all : List Token) → Program → Type 0
IsProgramPlaced all program = AreStreamsPlaced all program.declarations.items []
