-- Statements that were read are at the places of the tokens that spell them.
use Rattle.std.proofs.Common.{◌≡◌, ℕ, ◌-◌, ◌+◌, List, [], ◌∷◌, ◌++◌, length, map, Ok, Result, refl}
use Rattle.std.proofs.lemmas.Bool.{eqb-true}
use Rattle.std.proofs.Common.{Some, ◌<◌, eqb, true, ap, sym, subst, ◌∙◌, Option, suc, IfOk, Err}
use Rattle.std.proofs.Common.{inl, inr, arith}
use Rattle.std.specs.Option.{option_map}
use Rattle.std.specs.Global.{Vec}
use mathlib.Core.Former.{Count}
use Rattle.strc_lex_names.specs.declared.name.Name.{Name}
use Rattle.strc_lex_names.specs.declared.place.Span.{Span}
use Rattle.strc_lex.specs.declared.token.Token.{Token}
use Rattle.strc_lex.specs.declared.token.TokenKind.{TokenKind}
use Rattle.strc_lex.specs.declared.token.TokenKind.TheVariants as token
use Rattle.strc_lex.specs.declared.token.Keyword.TheVariants as keyword
use Rattle.strc_lex.specs.declared.token.Punctuation.{Punctuation}
use Rattle.strc_lex.specs.declared.token.Punctuation.TheVariants as punctuation
use Rattle.strc_parse_tree.specs.declared.tree.Expr.{Expr}
use Rattle.strc_parse_tree.specs.declared.tree.Stmt.{Stmt, Block, Row_of-Stmt, end_of-Stmt}
use Rattle.strc_parse_tree.specs.declared.tree.Stmt.{more_of-Stmt}
use Rattle.strc_parse_tree.specs.declared.tree.Stmt.{Block', items-the_row-Stmt}
use Rattle.strc_parse_tree.specs.declared.tree.Stmt.{items_hidden-the_row-Stmt-1}
use Rattle.strc_parse_tree.specs.declared.tree.Stmt.TheVariants as stmt
use Rattle.strc_parse_tree.specs.declared.tree.Child.{Child, Row_of-Member, end_of-Member}
use Rattle.strc_parse_tree.specs.declared.tree.Child.{more_of-Member, items-the_row-Member}
use Rattle.strc_parse_tree.specs.declared.tree.Child.{items_hidden-the_row-Member-0}
use Rattle.strc_parse_tree.specs.declared.tree.Child.TheVariants as child
use Rattle.strc_parse_tree.specs.declared.tree.CompositeKind.{CompositeKind}
use Rattle.strc_parse_tree.specs.declared.tree.Decl.{Decl}
use Rattle.strc_parse_tree.specs.declared.tree.HelperType.{HelperType}
use Rattle.strc_parse_tree.specs.declared.tree.Member.{Member}
use Rattle.strc_parse_tree.specs.declared.tree.Member.TheVariants as member
use Rattle.strc_parse_tree.specs.declared.tree.RateTree.{RateTree}
use Rattle.strc_parse_tree.specs.declared.tree.StreamType.{StreamType}
use Rattle.strc_parse_tree.specs.declared.tree.Variables.{Variables}
use Rattle.strc_parse_tree.specs.Tree.{row}
use Rattle.strc_parse_tree.specs.View.{rate_view, type_view, variable_view}
use Rattle.strc_parse_tree.proofs.Views.{row_of_views}
use Rattle.strc_parse_grammar.specs.Grammar.{block_spelled, rate_spelled}
use Rattle.strc_parse_grammar.specs.Reading.{declared}
use Rattle.strc_parse_grammar.specs.Streams.{rate_kind, rate_of}
use Rattle.strc_parse_tree.specs.Made.{IsForOf, IsIfElseOf, IsIfOf, IsWhileOf}
use Rattle.strc_parse_tree.specs.Tree as tree
use Rattle.strc_parse_tree.specs.View.{stmt_view, row_view, block_view, IsPlacedAt}
use Rattle.strc_parse_tree.specs.View.{declaration_view, member_view, members_view}
use Rattle.strc_parse_grammar.specs.Grammar.{declaration_spelled, each_spelled, kinds}
use Rattle.strc_parse_grammar.specs.Grammar.{member_spelled}
use Rattle.strc_parse_grammar.specs.Grammar.{members_spelled, row_spelled, stmt_spelled}
use Rattle.strc_parse_grammar.proofs.Soundness.{each_spelled-push}
use Rattle.std.proofs.lemmas.List.{length-map, map_push}
use Rattle.std.specs.Borrow.{Bor}
use Rattle.strc_parse_grammar.specs.Seen.{declared_view, parsed}
use Rattle.strc_parse_grammar.specs.Streams.{statement}
use Rattle.strc_parse_grammar.specs.Streams as streams
use Rattle.strc_parse_grammar.specs.declared.rule_result.Parsed.{Parsed}
use Rattle.strc_parse_grammar.specs.Grammar.{IsFirst, optional_spelled, part_spelled}
use Rattle.strc_parse_tree.specs.View.{expr_view}
use Rattle.strc_parse_grammar.specs.Reading.{Gives, after_first, ended, expect, is_keyword}
use Rattle.strc_parse_grammar.specs.Reading.{optional}
use Rattle.strc_parse_grammar.specs.Reading.{tail}
use Rattle.strc_parse_grammar.specs.declared.error.ReadError.{ReadError}
use Rattle.strc_parse_grammar.proofs.SimpleSoundness.{EndedRead, after_first_is_spelled}
use Rattle.strc_parse_grammar.proofs.SimpleSoundness.{ended_soundness}
use Rattle.strc_parse_grammar.proofs.SimpleSoundness.{step_is_spelled}
use Rattle.strc_parse_grammar.proofs.MemberSoundness.{BlockRead, braced_soundness}
use Rattle.strc_parse_grammar.proofs.MemberSoundness.{member_is_spelled}
use Rattle.strc_parse_grammar.proofs.MemberSoundness.{rate_is_spelled}
use Rattle.strc_parse_grammar.proofs.SimpleSoundness.{DeclaredRead, declared_soundness}
use Rattle.strc_parse_grammar.proofs.Soundness.{Sound-ok, expect_cases}
use Rattle.strc_parse_grammar.proofs.StatementSoundness.{StmtRead, keyword_is}
use Rattle.strc_parse_grammar.proofs.TreeSoundness.{statement_soundness}
use Rattle.strc_parse.specs.Placed.{IsAt, IsBlockPlaced, IsPlaced, IsPlacedWithin, IsRowPlaced}
use Rattle.strc_parse.specs.Placed.{spelled_place, AreMembersPlaced, ArePartsPlaced, IsFrom}
use Rattle.strc_parse.specs.Placed.{IsPlain, IsReadAt, IsStepPlaced, place_between}
use Rattle.strc_parse_grammar.specs.Sequence.{IsBoth, IsFollowed, IsGrown}
use Rattle.strc_parse.specs.Placed.{AreFieldsPlaced, AreRatesPlaced, IsPhasePlaced, IsRatePlaced}
use Rattle.strc_parse.specs.Seen.{after_first_view, block_view as seen_block}
use Rattle.strc_parse.specs.Placed.{AreStreamsPlaced, IsChildPlaced, IsHeadingPlaced}
use Rattle.strc_parse.specs.Placed.{IsMemberPlaced, IsStreamPlaced}

-- ---- one statement

at_its_place : (all : List Token) (place : Span) (read placed : Stmt) (rest : List TokenKind)
    → IsPlacedAt place read placed
    → place ≡ spelled_place all (stmt_spelled (stmt_view read) rest) rest
    → IsPlacedWithin all read rest → IsPlaced all placed rest
at_its_place all place read (stmt.Placed' written at inner) rest is spelled within =
    rw (is.0, is.1) (spelled, within)
at_its_place all place read _ rest is spelled within = absurd is

pub placed_is : (all : List Token) (place : Span) (read placed : Stmt) (rest : List TokenKind)
    → IsAt place read placed
    → place ≡ spelled_place all (stmt_spelled (stmt_view read) rest) rest
    → IsPlacedWithin all read rest → IsPlaced all placed rest
placed_is all place stmt.Empty placed rest is spelled within =
    subst (λ (s : Stmt). IsPlaced all s rest) (sym is) tt
placed_is all place read placed rest is spelled within =
    at_its_place all place read placed rest is spelled within

length_of_kinds : (tokens : List Token) → length (kinds tokens) ≡ length tokens
length_of_kinds tokens = length-map tokens (λ (t : Token). t.kind)

-- the place of these tokens up to the rest of them, which spells what they begin with
between_is : (all tokens rest : List Token) (spelled : List TokenKind) → kinds tokens ≡ spelled
    → place_between all (length tokens) (length rest) ≡ spelled_place all spelled (kinds rest)
between_is all tokens rest spelled is =
    ap (λ (from : ℕ). place_between all from (length rest))
    (sym (length_of_kinds tokens) ∙ ap (λ (ts : List TokenKind). length ts) is)
    ∙ ap (place_between all (length spelled)) (sym (length_of_kinds rest))

-- what these tokens spell, once it has its place
at_place : (all tokens : List Token) (read placed : Parsed Stmt)
    → kinds tokens ≡ stmt_spelled (stmt_view read.value) (kinds read.rest.now)
    → IsPlacedWithin all read.value (kinds read.rest.now)
    → parsed stmt_view placed ≡ parsed stmt_view read → IsFrom all (length tokens) read placed
    → IsReadAt all tokens placed
at_place all tokens read placed spelled within same is =
    let place = between_is all tokens read.rest.now _ spelled in
    record {
      spelled = spelled ∙ ap (λ (x : tree.Stmt × ℕ × List TokenKind). stmt_spelled x.0 x.2)
          (sym same);
      placed = subst (λ (rest : Bor (List Token)). IsPlaced all placed.value (kinds rest.now))
          (sym is.0) (placed_is all _ read.value placed.value (kinds read.rest.now) is.1 place
          within);
    }

-- a statement that was read from these tokens
pub read_at_its_place : (depth : ℕ) (all tokens : List Token) (read placed : Parsed Stmt)
    → statement depth (kinds tokens) ≡ Ok (parsed stmt_view read)
    → IsPlacedWithin all read.value (kinds read.rest.now)
    → parsed stmt_view placed ≡ parsed stmt_view read → IsFrom all (length tokens) read placed
    → IsReadAt all tokens placed
read_at_its_place depth all tokens read placed reads within same is =
    at_place all tokens read placed (Sound-ok (StmtRead depth (kinds tokens)) (depth - 1)
    (kinds tokens) (statement depth (kinds tokens)) (parsed stmt_view read) reads
    (statement_soundness depth (kinds tokens))).spelled within same is

pub plain_within : (all : List Token) (read : Result (Parsed Stmt) ReadError)
    → IfOk read (λ r. IsPlain r.value)
    → IfOk read (λ r. IsPlacedWithin all r.value (kinds r.rest.now))
plain_within all (Ok r) plain = plain all (kinds r.rest.now)
plain_within all (Err e) plain = tt

-- ---- the parts of a `for`

first_spelled : (first : tree.Stmt) (rest : List TokenKind) → IsFirst first
    → part_spelled first (token.Punctuation punctuation.Semicolon ∷ rest) ≡ stmt_spelled first rest
first_spelled tree.Empty rest shape = refl
first_spelled (tree.Declare kind variables) rest shape = refl
first_spelled (tree.Evaluate value) rest shape = refl
first_spelled (tree.Assign name operator value) rest shape = refl
first_spelled (tree.AssignElement name index operator value) rest shape = refl
first_spelled _ rest shape = absurd shape

first_at_its_place : (d : ℕ) (all tokens : List Token) (read placed : Parsed Stmt)
    → ended (suc d) (kinds tokens) ≡ Ok (parsed stmt_view read) → IsPlain read.value
    → parsed stmt_view placed ≡ parsed stmt_view read → IsFrom all (length tokens) read placed
    → IsReadAt all tokens placed
first_at_its_place d all tokens read placed reads plain same is =
    let first = Sound-ok (EndedRead IsFirst punctuation.Semicolon (suc d) (kinds tokens)) d
    (kinds tokens) (ended (suc d) (kinds tokens)) (parsed stmt_view read) reads
    (ended_soundness d (kinds tokens)) in
    at_place all tokens read placed
    (first.spelled ∙ first_spelled (stmt_view read.value) (kinds read.rest.now) first.shape)
    (plain all (kinds read.rest.now)) same is

step_at : (all : List Token) (place : Span) (read placed : Stmt) (rest : List TokenKind)
    → IsPlacedAt place read placed
    → place ≡ spelled_place all (part_spelled (stmt_view read) rest) rest
    → IsStepPlaced all placed rest
step_at all place read (stmt.Placed' written at inner) rest is spelled =
    rw (is.0, is.1) spelled
step_at all place read _ rest is spelled = absurd is

step_is : (all : List Token) (place : Span) (read placed : Stmt) (rest : List TokenKind)
    → IsAt place read placed
    → place ≡ spelled_place all (part_spelled (stmt_view read) rest) rest
    → IsStepPlaced all placed rest
step_is all place stmt.Empty placed rest is spelled =
    subst (λ (s : Stmt). IsStepPlaced all s rest) (sym is) tt
step_is all place read placed rest is spelled = step_at all place read placed rest is spelled

expect_is : (wanted : Punctuation) (tokens after : List TokenKind)
    → expect wanted tokens ≡ Ok after → tokens ≡ token.Punctuation wanted ∷ after
expect_is wanted tokens after is = elim (expect_cases wanted tokens) [
  | inl found ↦ let same : found.0 ≡ after = let both = found.2 in cc in
      found.1 ∙ ap (λ (ts : List TokenKind). token.Punctuation wanted ∷ ts) same
  | inr none ↦ absurd cc
]

-- the step, with its place, and the bracket after it
step_read : (d : ℕ) (all tokens : List Token) (read : Parsed Stmt)
    (placed : Result (Parsed Stmt) ReadError) (x : Parsed Stmt)
    → optional (suc d) punctuation.CloseParen (kinds tokens) ≡ Ok (parsed stmt_view read)
    → IfOk placed (IsFrom all (length tokens) read)
    → IsFollowed punctuation.CloseParen placed (Ok x)
    → IsStepPlaced all x.value (token.Punctuation punctuation.CloseParen ∷ kinds x.rest.now)
step_read d all tokens read placed x reads is followed =
    let spelled = step_is_spelled d punctuation.CloseParen (kinds tokens) _ _ _ reads in
    let from : IsFrom all (length tokens) read (record {
      value = x.value;
      height = x.height;
      rest = followed.0;
    }) = subst (λ (r : Result (Parsed Stmt) ReadError).
    IfOk r (IsFrom all (length tokens) read)) followed.2 is in
    let closed : kinds read.rest.now
    ≡ token.Punctuation punctuation.CloseParen ∷ kinds x.rest.now =
    ap (λ (rest : Bor (List Token)). kinds rest.now) (sym from.0)
    ∙ expect_is punctuation.CloseParen _ _ followed.1 in
    let place = between_is all tokens read.rest.now _ spelled in
    subst (λ (rest : List TokenKind). IsStepPlaced all x.value rest) closed
    (step_is all _ read.value x.value (kinds read.rest.now) from.1 place)

pub step_placed : (depth : ℕ) (all tokens : List Token) (read : Parsed Stmt)
    (placed result : Result (Parsed Stmt) ReadError) → 0 < depth
    → optional depth punctuation.CloseParen (kinds tokens) ≡ Ok (parsed stmt_view read)
    → IfOk placed (IsFrom all (length tokens) read)
    → IsFollowed punctuation.CloseParen placed result → IfOk result (λ r.
    IsStepPlaced all r.value (token.Punctuation punctuation.CloseParen ∷ kinds r.rest.now))
step_placed depth all tokens read placed (Ok x) some reads is followed =
    let same : depth ≡ suc (depth - 1) = omega (arith, some) in
    step_read (depth - 1) all tokens read placed x
    (subst (λ (n : ℕ). optional n punctuation.CloseParen (kinds tokens)
    ≡ Ok (parsed stmt_view read)) same reads) is followed
step_placed depth all tokens read placed (Err e) some reads is followed = tt

-- what is between the brackets
heading_read : (d : ℕ) (all opened : List Token) (first : Parsed Stmt)
    (second : Result (Parsed (Option Expr × Stmt)) ReadError)
    (x : Parsed (Stmt × (Option Expr × Stmt))) → IsReadAt all opened first
    → IsBoth first.value first.height second (Ok x)
    → Gives (parsed after_first_view) second (after_first (suc d) (kinds first.rest.now))
    → IfOk second (λ r. IsStepPlaced all r.value.1
    (token.Punctuation punctuation.CloseParen ∷ kinds r.rest.now))
    → IsHeadingPlaced all x.value (kinds x.rest.now)
heading_read d all opened first second x read both gives step =
    let last : Parsed (Option Expr × Stmt) =
    record { value = x.value.1; height = both.0; rest = x.rest } in
    let after : List TokenKind = optional_spelled (option_map expr_view x.value.1.0)
    (token.Punctuation punctuation.Semicolon ∷ part_spelled (stmt_view x.value.1.1)
    (token.Punctuation punctuation.CloseParen ∷ kinds x.rest.now)) in
    let gave : Gives (parsed after_first_view) (Ok last)
    (after_first (suc d) (kinds first.rest.now)) =
    subst (λ (r : Result (Parsed (Option Expr × Stmt)) ReadError).
    Gives (parsed after_first_view) r (after_first (suc d) (kinds first.rest.now)))
    both.3 gives in (
      subst (λ (s : Stmt). IsPlaced all s after) (sym both.1)
          (subst (λ (rest : List TokenKind). IsPlaced all first.value rest)
          (after_first_is_spelled d (kinds first.rest.now) _ _ _ gave) read.placed),
      subst (λ (r : Result (Parsed (Option Expr × Stmt)) ReadError).
          IfOk r (λ r. IsStepPlaced all r.value.1
          (token.Punctuation punctuation.CloseParen ∷ kinds r.rest.now))) both.3 step,
    )

pub heading_placed : (depth : ℕ) (all opened : List Token) (read first : Parsed Stmt)
    (second : Result (Parsed (Option Expr × Stmt)) ReadError)
    (result : Result (Parsed (Stmt × (Option Expr × Stmt))) ReadError) → 0 < depth
    → ended depth (kinds opened) ≡ Ok (parsed stmt_view read) → IsPlain read.value
    → parsed stmt_view first ≡ parsed stmt_view read → IsFrom all (length opened) read first
    → IsBoth first.value first.height second result
    → Gives (parsed after_first_view) second (after_first depth (kinds first.rest.now))
    → IfOk second (λ r. IsStepPlaced all r.value.1
    (token.Punctuation punctuation.CloseParen ∷ kinds r.rest.now))
    → IfOk result (λ r. IsHeadingPlaced all r.value (kinds r.rest.now))
heading_placed depth all opened read first second (Ok x) some reads plain same is both gives step =
    let deep : depth ≡ suc (depth - 1) = omega (arith, some) in
    heading_read (depth - 1) all opened first second x
    (first_at_its_place (depth - 1) all opened read first (subst (λ (n : ℕ).
    ended n (kinds opened) ≡ Ok (parsed stmt_view read)) deep reads) plain same is) both
    (subst (λ (n : ℕ). Gives (parsed after_first_view) second
    (after_first n (kinds first.rest.now))) deep gives) step
heading_placed depth all opened read first second (Err e) some reads plain same is both gives
    step = tt

-- ---- rows

row_view_is : (n : _) (kept : Row_of-Stmt n)
    → row_view kept ≡ block_view (items-the_row-Stmt n kept)
row_view_is n end_of-Stmt = refl
row_view_is n (more_of-Stmt first rest) =
    ap (λ (r : tree.Stmts). tree.Then (stmt_view first) r) (row_view_is _ rest)

row_placed : (all : List Token) (n : _) (kept : Row_of-Stmt n) (rest : List TokenKind)
    → IsBlockPlaced all (items-the_row-Stmt n kept) rest → IsRowPlaced all kept rest
row_placed all n end_of-Stmt rest placed = tt
row_placed all n (more_of-Stmt first others) rest placed = (
  subst (λ (r : tree.Stmts). IsPlaced all first (row_spelled r rest))
      (sym (row_view_is _ others)) placed.0,
  row_placed all _ others rest placed.1,
)

row_spelled_push : (items : List Stmt) (last : Stmt) (rest : List TokenKind)
    → row_spelled (block_view (items ++ last ∷ [])) rest
    ≡ row_spelled (block_view items) (stmt_spelled (stmt_view last) rest)
row_spelled_push [] last rest = refl
row_spelled_push (first ∷ others) last rest =
    ap (λ (ts : List TokenKind). stmt_spelled (stmt_view first) ts)
    (row_spelled_push others last rest)

abbrev kept_row : Stmt → (n : Count) × Row_of-Stmt n
kept_row (Block' shape kept) = (_, kept)
kept_row _ = (_, end_of-Stmt)

row_of_block : (all : List Token) (body : Vec Stmt) (rest : List TokenKind)
    → IsBlockPlaced all body.items rest → IsRowPlaced all (kept_row (Block body)).1 rest
row_of_block all body rest placed =
    let kept = kept_row (Block body) in
    row_placed all kept.0 kept.1 rest (subst (λ (items : List Stmt). IsBlockPlaced all items rest)
    (sym (items_hidden-the_row-Stmt-1 body)) placed)

-- one more statement of a block
pub block_push : (all : List Token) (items : List Stmt) (last : Stmt) (rest : List TokenKind)
    → IsBlockPlaced all items (stmt_spelled (stmt_view last) rest) → IsPlaced all last rest
    → IsBlockPlaced all (items ++ last ∷ []) rest
block_push all [] last rest placed is = (is, tt)
block_push all (first ∷ others) last rest placed is = (
  subst (λ (ts : List TokenKind). IsPlaced all first ts) (sym (row_spelled_push others last rest))
      placed.0,
  block_push all others last rest placed.1 is,
)

-- a block that has grown by what was read next
pub block_grown : (all : List Token) (so_far : Parsed (Vec Stmt))
    (next : Result (Parsed Stmt) ReadError) (x : Parsed (Vec Stmt)) → IsGrown so_far next (Ok x)
    → IfOk next (IsReadAt all so_far.rest.now)
    → IsBlockPlaced all so_far.value.items (kinds so_far.rest.now)
    → IsBlockPlaced all x.value.items (kinds x.rest.now)
block_grown all so_far next x grown is placed =
    let read : IsReadAt all so_far.rest.now grown.0 =
    subst (λ (r : Result (Parsed Stmt) ReadError). IfOk r (IsReadAt all so_far.rest.now)) grown.1 is
    in
    rw (grown.2, grown.4) (block_push all so_far.value.items grown.0.value (kinds grown.0.rest.now)
    (subst (λ (rest : List TokenKind). IsBlockPlaced all so_far.value.items rest) read.spelled
    placed) read.placed)

-- ---- statements with others in them

module _ (all : List Token) (rest : List TokenKind) where
  pub block_within : (made : Stmt) (body : Vec Stmt) → made ≡ stmt.Block body
      → IsBlockPlaced all body.items (token.Punctuation punctuation.CloseBrace ∷ rest)
      → IsPlacedWithin all made rest
  block_within made body is placed =
      subst (λ (s : Stmt). IsPlacedWithin all s rest) (sym is) (row_of_block all body _ placed)

  pub if_within : (condition : Expr) (chosen made : Stmt) → IsIfOf condition chosen made
      → IsPlaced all chosen rest → IsPlacedWithin all made rest
  if_within condition chosen (stmt.If' tested at inner) is placed = rw is.1 placed
  if_within condition chosen _ is placed = absurd is

  pub if_else_within : (condition : Expr) (chosen other made : Stmt)
      → IsIfElseOf condition chosen other made
      → IsPlaced all chosen (token.Keyword keyword.Else ∷ stmt_spelled (stmt_view other) rest)
      → IsPlaced all other rest → IsPlacedWithin all made rest
  if_else_within condition chosen other (stmt.IfElse' tested at inner at' last) is first second =
      rw (is.1, is.2) (first, second)
  if_else_within condition chosen other _ is first second = absurd is

  pub while_within : (condition : Expr) (body made : Stmt) → IsWhileOf condition body made
      → IsPlaced all body rest → IsPlacedWithin all made rest
  while_within condition body (stmt.While' tested at inner) is placed = rw is.1 placed
  while_within condition body _ is placed = absurd is

  pub for_within : (first : Stmt) (condition : Option Expr) (step body made : Stmt)
      → IsForOf first condition step body made
      → IsHeadingPlaced all (first, (condition, step)) (stmt_spelled (stmt_view body) rest)
      → IsPlaced all body rest → IsPlacedWithin all made rest
  for_within first condition step body (stmt.For' at begun tested at' stepped at'' inner) is
      heading placed = rw (is.0, is.1, is.2, is.3) (heading.0, heading.1, placed)
  for_within first condition step body _ is heading placed = absurd is

-- ---- rates and fields

-- rates before a block
rates_before : (all : List Token) (rates : List RateTree) (body : Vec Stmt)
    (rest : List TokenKind)
    → AreRatesPlaced all rates (block_spelled (row (map stmt_view body.items)) rest)
    → AreRatesPlaced all rates (block_spelled (row_view (kept_row (Block body)).1) rest)
rates_before all rates body rest placed =
    let kept = kept_row (Block body) in
    let same : row_view kept.1 ≡ row (map stmt_view body.items) =
    row_view_is kept.0 kept.1 ∙ ap block_view (items_hidden-the_row-Stmt-1 body)
    ∙ row_of_views body.items in
    subst (λ (block : tree.Stmts). AreRatesPlaced all rates (block_spelled block rest)) (sym same)
    placed

-- one more rate
rates_push : (all : List Token) (items : List RateTree) (last : RateTree) (rest : List TokenKind)
    → AreRatesPlaced all items (rate_spelled (rate_view last) rest) → IsRatePlaced all last rest
    → AreRatesPlaced all (items ++ last ∷ []) rest
rates_push all [] last rest placed is = (is, tt)
rates_push all (first ∷ others) last rest placed is = (
  subst (λ (ts : List TokenKind). IsRatePlaced all first ts)
      (sym (each_spelled-push rate_spelled (map rate_view others) (rate_view last) rest)
      ∙ sym (ap (λ (views : List tree.Rate). each_spelled rate_spelled views rest)
      (map_push rate_view others last))) placed.0,
  rates_push all others last rest placed.1 is,
)

pub rates_grown : (limit : ℕ) (all tokens rest : List Token) (found : List RateTree)
    (last : RateTree) (height : ℕ)
    → last.place ≡ place_between all (length tokens) (length rest)
    → rate_kind (kinds tokens) ≡ Some last.kind
    → rate_of limit last.kind (map rate_view found) (kinds tokens)
    ≡ Ok (expr_view last.rate, height, kinds rest)
    → AreRatesPlaced all found (kinds tokens)
    → AreRatesPlaced all (found ++ last ∷ []) (kinds rest)
rates_grown limit all tokens rest found last height place starts read placed =
    let spelled = rate_is_spelled limit last.kind (map rate_view found) (kinds tokens)
    (expr_view last.rate) height (kinds rest) starts read in
    rates_push all found last (kinds rest)
    (subst (λ (ts : List TokenKind). AreRatesPlaced all found ts) spelled placed)
    (place ∙ between_is all tokens rest _ spelled)

-- rates, and the block after them
pub phase_placed : (d : ℕ) (all : List Token) (rates : Parsed (Vec RateTree))
    (second : Result (Parsed (Vec Stmt)) ReadError)
    (result : Result (Parsed (Vec RateTree × Vec Stmt)) ReadError)
    → AreRatesPlaced all rates.value.items (kinds rates.rest.now)
    → IsBoth rates.value rates.height second result
    → Gives (parsed seen_block) second (streams.braced (statement d) (kinds rates.rest.now))
    → IfOk second (λ r. IsBlockPlaced all r.value.items
    (token.Punctuation punctuation.CloseBrace ∷ kinds r.rest.now))
    → IfOk result (λ r. IsPhasePlaced all r.value (kinds r.rest.now))
phase_placed d all rates second (Ok x) placed both gives block =
    let gave = subst (λ (r : Result (Parsed (Vec Stmt)) ReadError).
    Gives (parsed seen_block) r (streams.braced (statement d) (kinds rates.rest.now))) both.3 gives
    in
    let spelled = (Sound-ok (BlockRead d (kinds rates.rest.now)) (d - 1) (kinds rates.rest.now)
    (streams.braced (statement d) (kinds rates.rest.now)) _ gave
    (braced_soundness d (statement d) (λ ts. statement_soundness d ts)
    (kinds rates.rest.now))).spelled in (
      subst (λ (found : Vec RateTree). AreRatesPlaced all found.items
          (block_spelled (row (map stmt_view x.value.1.items)) (kinds x.rest.now))) (sym both.1)
          (subst (λ (ts : List TokenKind). AreRatesPlaced all rates.value.items ts) spelled placed),
      subst (λ (r : Result (Parsed (Vec Stmt)) ReadError). IfOk r (λ r.
          IsBlockPlaced all r.value.items
          (token.Punctuation punctuation.CloseBrace ∷ kinds r.rest.now))) both.3 block,
    )
phase_placed d all rates second (Err e) placed both gives block = tt

-- fields, before the semicolon after them
fields_placed : (limit : ℕ) (all tokens rest : List Token) (fields : Variables) (height : ℕ)
    (after : List TokenKind)
    → fields.place ≡ place_between all (length tokens) (length rest)
    → declared limit (kinds tokens) ≡ Ok (
      (
        type_view fields.kind,
        map variable_view fields.variables.items,
      ),
      height,
      kinds rest,
    )
    → expect punctuation.Semicolon (kinds rest) ≡ Ok after
    → AreFieldsPlaced all fields (token.Punctuation punctuation.Semicolon ∷ after)
fields_placed limit all tokens rest fields height after place read closed =
    let spelled = (Sound-ok (DeclaredRead limit (kinds tokens)) limit (kinds tokens)
    (declared limit (kinds tokens)) _ read (declared_soundness limit (kinds tokens))).spelled in
    subst (λ (ts : List TokenKind). AreFieldsPlaced all fields ts)
    (expect_is punctuation.Semicolon (kinds rest) after closed)
    (place ∙ between_is all tokens rest _ spelled)

pub fields_closed : (limit : ℕ) (all tokens : List Token) (read made : Parsed Variables)
    (place : Span) → declared limit (kinds tokens) ≡ Ok (parsed declared_view read)
    → place ≡ place_between all (length tokens) (length read.rest.now)
    → IsFollowed punctuation.Semicolon (Ok read) (Ok made)
    → AreFieldsPlaced all (record {
      kind = made.value.kind;
      variables = made.value.variables;
      place = place;
    }) (token.Punctuation punctuation.Semicolon ∷ kinds made.rest.now)
fields_closed limit all tokens read made place reads is followed =
    let kept : Parsed Variables =
    record { value = made.value; height = made.height; rest = followed.0 } in
    let same : read ≡ kept = let both = followed.2 in cc in
    fields_placed limit all tokens followed.0.now (record {
      kind = made.value.kind;
      variables = made.value.variables;
      place = place;
    }) made.height (kinds made.rest.now)
    (subst (λ (r : Parsed Variables).
    place ≡ place_between all (length tokens) (length r.rest.now)) same is)
    (subst (λ (r : Parsed Variables).
    declared limit (kinds tokens) ≡ Ok (parsed declared_view r)) same reads) followed.1

-- ---- members and children

pub init_placed : (all : List Token) (rest : List TokenKind) (made : Member) (body : Vec Stmt)
    → made ≡ member.Init body
    → IsBlockPlaced all body.items (token.Punctuation punctuation.CloseBrace ∷ rest)
    → IsMemberPlaced all made rest
init_placed all rest made body is placed =
    subst (λ (m : Member). IsMemberPlaced all m rest) (sym is) (row_of_block all body _ placed)

pub prework_placed : (all : List Token) (rest : List TokenKind) (made : Member)
    (rates : Vec RateTree) (body : Vec Stmt) → made ≡ member.Prework rates body
    → IsPhasePlaced all (rates, body) rest → IsMemberPlaced all made rest
prework_placed all rest made rates body is placed =
    subst (λ (m : Member). IsMemberPlaced all m rest) (sym is)
    (rates_before all rates.items body rest placed.0, row_of_block all body _ placed.1)

pub work_placed : (all : List Token) (rest : List TokenKind) (made : Member)
    (rates : Vec RateTree) (body : Vec Stmt) → made ≡ member.Work rates body
    → IsPhasePlaced all (rates, body) rest → IsMemberPlaced all made rest
work_placed all rest made rates body is placed =
    subst (λ (m : Member). IsMemberPlaced all m rest) (sym is)
    (rates_before all rates.items body rest placed.0, row_of_block all body _ placed.1)

pub helper_placed : (all : List Token) (rest : List TokenKind) (made : Member) (kind : HelperType)
    (name : Name) (parameters : Vec Name) (body : Vec Stmt)
    → made ≡ member.Helper kind name parameters body
    → IsBlockPlaced all body.items (token.Punctuation punctuation.CloseBrace ∷ rest)
    → IsMemberPlaced all made rest
helper_placed all rest made kind name parameters body is placed =
    subst (λ (m : Member). IsMemberPlaced all m rest) (sym is) (row_of_block all body _ placed)

pub composite_placed : (all : List Token) (rest : List TokenKind) (made : Child)
    (types : Option StreamType) (kind : CompositeKind) (body : Vec Stmt)
    → made ≡ child.Composite types kind body
    → IsBlockPlaced all body.items (token.Punctuation punctuation.CloseBrace ∷ rest)
    → IsChildPlaced all made rest
composite_placed all rest made types kind body is placed =
    subst (λ (c : Child). IsChildPlaced all c rest) (sym is) (row_of_block all body _ placed)

-- members in a row

members_spelled_is : (n : _) (kept : Row_of-Member n) (rest : List TokenKind)
    → members_spelled (members_view kept) rest
    ≡ each_spelled member_spelled (map member_view (items-the_row-Member n kept)) rest
members_spelled_is n end_of-Member rest = refl
members_spelled_is n (more_of-Member first others) rest =
    ap (λ (ts : List TokenKind). member_spelled (member_view first) ts)
    (members_spelled_is _ others rest)

members_placed : (all : List Token) (n : _) (kept : Row_of-Member n) (rest : List TokenKind)
    → ArePartsPlaced all (items-the_row-Member n kept) rest → AreMembersPlaced all kept rest
members_placed all n end_of-Member rest placed = tt
members_placed all n (more_of-Member first others) rest placed = (
  subst (λ (ts : List TokenKind). IsMemberPlaced all first ts)
      (sym (members_spelled_is _ others rest)) placed.0,
  members_placed all _ others rest placed.1,
)

abbrev kept_members : Child → (n : Count) × Row_of-Member n
kept_members (child.Filter' types shape kept) = (_, kept)
kept_members _ = (_, end_of-Member)

pub filter_placed : (all : List Token) (rest : List TokenKind) (made : Child)
    (types : StreamType) (members : Vec Member) → made ≡ child.Filter types members
    → ArePartsPlaced all members.items (token.Punctuation punctuation.CloseBrace ∷ rest)
    → IsChildPlaced all made rest
filter_placed all rest made types members is placed =
    let kept = kept_members (child.Filter types members) in
    subst (λ (c : Child). IsChildPlaced all c rest) (sym is)
    (members_placed all kept.0 kept.1 _ (subst (λ (items : List Member). ArePartsPlaced all items
    (token.Punctuation punctuation.CloseBrace ∷ rest)) (sym (items_hidden-the_row-Member-0 members))
    placed))

-- one more member
pub parts_push : (all : List Token) (items : List Member) (last : Member) (rest : List TokenKind)
    → ArePartsPlaced all items (member_spelled (member_view last) rest)
    → IsMemberPlaced all last rest → ArePartsPlaced all (items ++ last ∷ []) rest
parts_push all [] last rest placed is = (is, tt)
parts_push all (first ∷ others) last rest placed is = (
  subst (λ (ts : List TokenKind). IsMemberPlaced all first ts)
      (sym (each_spelled-push member_spelled (map member_view others) (member_view last) rest)
      ∙ sym (ap (λ (views : List tree.Member). each_spelled member_spelled views rest)
      (map_push member_view others last))) placed.0,
  parts_push all others last rest placed.1 is,
)

-- one more declared stream
pub streams_push : (all : List Token) (items : List Decl) (last : Decl) (rest : List TokenKind)
    → AreStreamsPlaced all items (declaration_spelled (declaration_view last) rest)
    → IsStreamPlaced all last.stream rest → AreStreamsPlaced all (items ++ last ∷ []) rest
streams_push all [] last rest placed is = (is, tt)
streams_push all (first ∷ others) last rest placed is = (
  subst (λ (ts : List TokenKind). IsStreamPlaced all first.stream ts)
      (sym (each_spelled-push declaration_spelled (map declaration_view others)
      (declaration_view last) rest)
      ∙ sym (ap (λ (views : List tree.Declaration). each_spelled declaration_spelled views rest)
      (map_push declaration_view others last))) placed.0,
  streams_push all others last rest placed.1 is,
)

-- members that have grown by what was read next
pub parts_grown : (d : ℕ) (all : List Token) (so_far : Parsed (Vec Member))
    (next : Result (Parsed Member) ReadError) (x : Parsed (Vec Member))
    → IsGrown so_far next (Ok x)
    → Gives (parsed member_view) next (streams.member d (statement d) (kinds so_far.rest.now))
    → IfOk next (λ r. IsMemberPlaced all r.value (kinds r.rest.now))
    → ArePartsPlaced all so_far.value.items (kinds so_far.rest.now)
    → ArePartsPlaced all x.value.items (kinds x.rest.now)
parts_grown d all so_far next x grown gives is placed =
    let gave = subst (λ (r : Result (Parsed Member) ReadError). Gives (parsed member_view) r
    (streams.member d (statement d) (kinds so_far.rest.now))) grown.1 gives in
    let spelled = member_is_spelled d (statement d) (λ ts. statement_soundness d ts)
    (kinds so_far.rest.now) _ _ _ gave in
    rw (grown.2, grown.4) (parts_push all so_far.value.items grown.0.value (kinds grown.0.rest.now)
    (subst (λ (rest : List TokenKind). ArePartsPlaced all so_far.value.items rest) spelled placed)
    (subst (λ (r : Result (Parsed Member) ReadError).
    IfOk r (λ r. IsMemberPlaced all r.value (kinds r.rest.now))) grown.1 is))

-- no tokens are left
pub empty_kinds : (tokens : List Token) → eqb (length tokens) 0 ≡ true → kinds tokens ≡ []
empty_kinds [] is = refl
empty_kinds (t ∷ rest) is = absurd (omega (arith, eqb-true (length (t ∷ rest)) 0 is))

-- the two branches, the first of them before an `else`
pub if_else_joined : (all : List Token) (condition : Expr) (chosen made : Stmt)
    (tokens : List TokenKind) (after : List Token) (other : Parsed Stmt)
    → IsIfElseOf condition chosen other.value made → IsReadAt all after other
    → is_keyword keyword.Else tokens ≡ true → kinds after ≡ tail tokens
    → IsPlaced all chosen tokens → IsPlacedWithin all made (kinds other.rest.now)
if_else_joined all condition chosen made tokens after other is read joins follows placed =
    if_else_within all (kinds other.rest.now) condition chosen other.value made is
    (subst (λ (rest : List TokenKind). IsPlaced all chosen rest)
    (keyword_is keyword.Else tokens joins
    ∙ ap (λ (ts : List TokenKind). token.Keyword keyword.Else ∷ ts) (sym follows ∙ read.spelled))
    placed) read.placed
