-- The members of a filter are read again, by what holds of the statements in them.
use Rattle.std.proofs.Common.{◌≡◌, ℕ, zero, suc, ◌+◌, ◌<◌, ◌≤◌, max, false, List, [], ◌∷◌, ◌++◌}
use Rattle.std.proofs.Common.{length, Some, None, Ok, Err, refl, ap, ◌∙◌, arith, inl, inr, true}
use Rattle.std.proofs.Common.{Option}
use Rattle.std.proofs.lemmas.Bool.{cases_lt}
use Rattle.std.proofs.lemmas.List.Folds.{list_any-append}
use Rattle.std.specs.List.{AllByRecursion}
use denote.Enum.Bare.{sameb, false_same}
use Rattle.strc_lex.specs.declared.token.TokenKind.{TokenKind}
use Rattle.strc_lex.specs.declared.token.TokenKind.TheVariants as token
use Rattle.strc_lex.specs.declared.token.Keyword.TheVariants as keyword
use Rattle.strc_lex.specs.declared.token.Punctuation.TheVariants as punctuation
use Rattle.strc_parse_tree.specs.declared.tree.RateKind.{RateKind}
use Rattle.strc_parse_tree.specs.declared.tree.RateKind.TheVariants as rate
use Rattle.strc_parse_tree.specs.contracts.tree.RateKind.{the_type as rate_type}
use Rattle.strc_parse_grammar.specs.declared.error.Fault.TheVariants.{Nesting}
use Rattle.strc_parse_tree.specs.Tree as tree
use Rattle.strc_parse_grammar.specs.Grammar.{expr_spelled, declared_spelled, row_spelled}
use Rattle.strc_parse_grammar.specs.Grammar.{block_spelled}
use Rattle.strc_parse_grammar.specs.Grammar.{rate_keyword, rate_spelled, each_spelled}
use Rattle.strc_parse_grammar.specs.Grammar.{member_spelled}
use Rattle.strc_parse_grammar.specs.Grammar.{members_spelled, lowest_precedence, IsExpr}
use Rattle.strc_parse_grammar.specs.Grammar.{IsVariableType}
use Rattle.strc_parse_grammar.specs.Grammar.{AreVariables, AreRates, IsMember, declared_height}
use Rattle.strc_parse_grammar.specs.Grammar.{row_height, rate_height, member_height, members_height}
use Rattle.strc_parse_grammar.specs.Grammar.{highest, parameters_spelled, listed_parameters_spelled}
use Rattle.strc_parse_grammar.specs.Grammar.{initial_spelled, next_spelled, variables_spelled}
use Rattle.strc_parse_grammar.specs.Reading.{◌>>=◌, is_punctuation, repeated, brace, name}
use Rattle.strc_parse_tree.specs.Tree.{chain}
use Rattle.strc_parse_grammar.specs.Streams.{rate_kind, has_rate, rate_of, rate_turn, no_rate}
use Rattle.strc_parse_grammar.specs.Streams.{rates}
use Rattle.strc_parse_grammar.specs.Streams.{statement, braced, init, phase, fields, member}
use Rattle.strc_parse_grammar.specs.Streams.{members}
use Rattle.strc_parse_grammar.specs.Streams.{is_heading, helper_function, typed_member}
use Rattle.strc_parse_grammar.proofs.Completeness.{Complete, Complete-then, expect_punctuation}
use Rattle.strc_parse_grammar.proofs.Completeness.{Complete-done}
use Rattle.strc_parse_grammar.proofs.Repeated.{no_rate_stays, rate_turn_at}
use Rattle.strc_parse_grammar.proofs.Stops.{Stops, Stops-keyword, Stops-brace, expr_length}
use Rattle.strc_parse_grammar.proofs.ExpressionCompleteness.{expression_completeness}
use Rattle.strc_parse_grammar.proofs.ListedCompleteness.{found}
use Rattle.strc_parse_grammar.proofs.Lists.{gathered, gathered_none, gathered_more}
use Rattle.strc_parse_grammar.proofs.Lists.{TallCompleteness}
use Rattle.strc_parse_grammar.proofs.Lists.{each_taller_completeness}
use Rattle.strc_parse_grammar.proofs.VariableCompleteness.{fields_completeness}
use Rattle.strc_parse_grammar.proofs.StatementCompleteness.{listed, row_listed, rates_length}
use Rattle.strc_parse_grammar.proofs.StatementCompleteness.{member_length, StmtCompleteness}
use Rattle.strc_parse_grammar.proofs.StatementCompleteness.{brace_closing, row_completeness}
use Rattle.strc_parse_tree.specs.declared.tree.HelperType.{HelperType}
use Rattle.strc_parse_tree.specs.declared.tree.HelperType.TheVariants as helper
use Rattle.strc_parse_grammar.proofs.ArgumentCompleteness.{closed_parameters_completeness}

-- ---- rates

-- rates of kinds that none of these has
abbrev AreFresh : List tree.Rate → List tree.Rate → Type 0
AreFresh front others = AllByRecursion (λ r. has_rate r.kind front ≡ false) others

fresh_past : (front : List tree.Rate) (a r : tree.Rate) → has_rate r.kind front ≡ false
    → (a.kind ≡ r.kind → ⊥) → has_rate r.kind (front ++ a ∷ []) ≡ false
unfolding has_rate
fresh_past front a r kept apart =
    let differs : sameb rate_type a.kind r.kind ≡ false =
    false_same rate_type tt a.kind r.kind apart in
    list_any-append (λ x. sameb rate_type x.kind r.kind) front (a ∷ []) ∙ rw (kept, differs) refl

still_fresh : (front : List tree.Rate) (a : tree.Rate) (others : List tree.Rate)
    → AreFresh front others → AllByRecursion (λ other. a.kind ≡ other.kind → ⊥) others
    → AreFresh (front ++ a ∷ []) others
still_fresh front a [] fresh apart = tt
still_fresh front a (r ∷ others) fresh apart =
    (fresh_past front a r fresh.0 apart.0, still_fresh front a others fresh.1 apart.1)

all_fresh : (others : List tree.Rate) → AreFresh [] others
unfolding has_rate
all_fresh [] = tt
all_fresh (r ∷ others) = (refl, all_fresh others)

rate_read : (kind : RateKind) (rest : List TokenKind)
    → rate_kind (rate_keyword kind ∷ rest) ≡ Some kind
unfolding rate_kind
rate_read rate.Push rest = refl
rate_read rate.Pop rest = refl
rate_read rate.Peek rest = refl

-- a rate comes before another or before the block
abbrev Stopping : List TokenKind → Type 0
Stopping rest = Stops lowest_precedence rest

rate_keyword_stops : (kind : RateKind) (rest : List TokenKind) → Stopping (rate_keyword kind ∷ rest)
rate_keyword_stops rate.Push rest = Stops-keyword keyword.Push lowest_precedence rest
rate_keyword_stops rate.Pop rest = Stops-keyword keyword.Pop lowest_precedence rest
rate_keyword_stops rate.Peek rest = Stops-keyword keyword.Peek lowest_precedence rest

rates_stop : (items : List tree.Rate) (rest : List TokenKind) → Stopping rest
    → Stopping (each_spelled rate_spelled items rest)
rates_stop [] rest stops = stops
rates_stop (a ∷ others) rest stops = rate_keyword_stops a.kind
    (expr_spelled a.rate (each_spelled rate_spelled others rest))

module _ (limit : ℕ) where
  rate_of_completeness : (a : tree.Rate) → IsExpr a.rate
      → (front : List tree.Rate) (past : List TokenKind) → has_rate a.kind front ≡ false
      → Stopping past
      → Complete limit (rate_height a) (found a.rate past)
      (rate_of limit a.kind front (rate_spelled a past))
  unfolding rate_of
  rate_of_completeness a shape front past fresh stops =
      rw fresh (expression_completeness a.rate shape limit past stops)

  rate_fits : (a : tree.Rate) → IsExpr a.rate
      → (front : List tree.Rate) (high t : ℕ) (past : List TokenKind)
      → has_rate a.kind front ≡ false → Stopping past → rate_height a ≤ limit
      → repeated no_rate (rate_turn limit) (suc t) (front, high) (rate_spelled a past)
      ≡ repeated no_rate (rate_turn limit) t (front ++ a ∷ [], max high (rate_height a)) past
  unfolding repeated
  rate_fits a shape front high t past fresh stops low =
      let starts = rate_read a.kind (expr_spelled a.rate past) in
      let goes_on = no_rate_stays (rate_spelled a past) a.kind starts in
      let turn = rate_turn_at limit front high (rate_spelled a past) a.kind a.rate
      (rate_height a) past starts ((rate_of_completeness a shape front past fresh stops).fits
      low) in
      rw (goes_on, turn) refl

  rate_over : (a : tree.Rate) → IsExpr a.rate
      → (front : List tree.Rate) (high t : ℕ) (past : List TokenKind)
      → has_rate a.kind front ≡ false → Stopping past → limit < rate_height a
      → repeated no_rate (rate_turn limit) (suc t) (front, high) (rate_spelled a past) ≡ Err Nesting
  unfolding repeated rate_turn
  rate_over a shape front high t past fresh stops deep =
      let starts = rate_read a.kind (expr_spelled a.rate past) in
      let goes_on = no_rate_stays (rate_spelled a past) a.kind starts in
      let read = (rate_of_completeness a shape front past fresh stops).over deep in
      rw (goes_on, starts, read) refl

  rates_end : (front : List tree.Rate) (high t : ℕ) (rest : List TokenKind) → rate_kind rest ≡ None
      → repeated no_rate (rate_turn limit) (suc t) (front, high) rest ≡ Ok ((front, high), rest)
  unfolding repeated no_rate
  rates_end front high t rest none = rw none refl

  rates_on : (items : List tree.Rate) → AreRates items → (front : List tree.Rate) (high : ℕ)
      → AreFresh front items → (turns : ℕ) (rest : List TokenKind) → rate_kind rest ≡ None
      → Stopping rest
      → length (each_spelled rate_spelled items rest) + 1 ≤ turns + length rest
      → Complete limit (highest rate_height items) (gathered rate_height front high items rest)
      (repeated no_rate (rate_turn limit) turns (front, high)
      (each_spelled rate_spelled items rest))
  rates_on [] shape front high fresh zero rest none stops le = absurd (omega arith)
  rates_on [] shape front high fresh (suc t) rest none stops le =
      record {
        fits = λ h. rates_end front high t rest none
            ∙ ap Ok (gathered_none rate_height front high rest);
        over = λ h. absurd (omega arith);
      }
  rates_on (a ∷ others) shape front high fresh zero rest none stops le =
      absurd (omega (
        arith,
        expr_length a.rate (each_spelled rate_spelled others rest),
        rates_length others rest,
      ))
  rates_on (a ∷ others) shape front high fresh (suc t) rest none stops le =
      let past = each_spelled rate_spelled others rest in
      let next = rates_stop others rest stops in
      let more = rates_on others shape.2 (front ++ a ∷ []) (max high (rate_height a))
      (still_fresh front a others fresh.1 shape.1) t rest none stops
      (omega (arith, expr_length a.rate past)) in record {
        fits = λ h. rate_fits a shape.0 front high t past fresh.0 next (omega arith)
            ∙ more.fits (omega arith) ∙ ap Ok (gathered_more rate_height front high a others rest);
        over = λ h. elim (cases_lt limit (rate_height a)) [
          | inl lt ↦ rate_over a shape.0 front high t past fresh.0 next lt
          | inr low ↦ rate_fits a shape.0 front high t past fresh.0 next low
              ∙ more.over (omega arith)
        ];
      }

no_rate_block : (block : tree.Stmts) (rest : List TokenKind)
    → rate_kind (block_spelled block rest) ≡ None
unfolding rate_kind
no_rate_block block rest = refl

-- ---- members

-- the statements of a block are read again
abbrev pub BlockCompleteness : tree.Stmts → Type 0
BlockCompleteness block = AllByRecursion StmtCompleteness (listed block)

module _ (d : ℕ) where
  pub braced_completeness : (block : tree.Stmts) → BlockCompleteness block → (rest : List TokenKind)
      → Complete d (row_height block) (block, row_height block, rest)
      (braced (statement d) (block_spelled block rest))
  unfolding braced
  braced_completeness block complete rest =
      rw (expect_punctuation punctuation.OpenBrace
      (row_spelled block (token.Punctuation punctuation.CloseBrace ∷ rest)))
      (Complete-then d (row_height block) (row_height block)
      ((listed block, row_height block), rest) (block, row_height block, rest) _ _
      (row_completeness d block complete rest) (omega arith)
      (λ low. rw (row_listed block) (Complete-done d (row_height block)
      (block, row_height block, rest) _ low refl)))

  rates_completeness : (declared : List tree.Rate) → AreRates declared
      → (block : tree.Stmts) (rest : List TokenKind)
      → Complete d (highest rate_height declared)
      ((declared, highest rate_height declared), block_spelled block rest)
      (rates d (each_spelled rate_spelled declared (block_spelled block rest)))
  unfolding rates
  rates_completeness declared shape block rest =
      let past = block_spelled block rest in
      let none : max 0 (highest rate_height declared) ≡ highest rate_height declared =
      omega arith in
      let read = rates_on d declared shape [] 0 (all_fresh declared)
      (length (each_spelled rate_spelled declared past) + 1) past (no_rate_block block rest)
      (Stops-brace lowest_precedence (row_spelled block
      (token.Punctuation punctuation.CloseBrace ∷ rest))) (omega arith) in
      rw none at read

  phase_completeness : (declared : List tree.Rate) (block : tree.Stmts) → AreRates declared
      → BlockCompleteness block → (rest : List TokenKind)
      → Complete d (max (highest rate_height declared) (row_height block))
      ((declared, block), max (highest rate_height declared) (row_height block), rest)
      (phase d (statement d) (each_spelled rate_spelled declared (block_spelled block rest)))
  unfolding phase
  phase_completeness declared block rated complete rest =
      let high : ℕ = max (highest rate_height declared) (row_height block) in
      let all : (List tree.Rate × tree.Stmts) × ℕ × List TokenKind =
      ((declared, block), high, rest) in
      Complete-then d (highest rate_height declared) high
      ((declared, highest rate_height declared), block_spelled block rest) all _ _
      (rates_completeness declared rated block rest) (omega arith) (λ one.
      Complete-then d (row_height block) high (block, row_height block, rest) all _ _
      (braced_completeness block complete rest) (omega arith) (λ two.
      Complete-done d high all _ (omega arith) refl))

  phase_member_completeness : (make : List tree.Rate → tree.Stmts → tree.Member)
      (declared : List tree.Rate) (block : tree.Stmts) → AreRates declared → BlockCompleteness block
      → (rest : List TokenKind)
      → Complete d (max (highest rate_height declared) (row_height block))
      {X = tree.Member × ℕ × List TokenKind}
      (make declared block, max (highest rate_height declared) (row_height block), rest)
      (phase d (statement d) (each_spelled rate_spelled declared (block_spelled block rest)) >>=
      λ read. Ok (make read.0.0 read.0.1, read.1, read.2))
  phase_member_completeness make declared block rated complete rest =
      let high : ℕ = max (highest rate_height declared) (row_height block) in
      Complete-then d high high ((declared, block), high, rest)
      (make declared block, high, rest) _ _
      (phase_completeness declared block rated complete rest) (omega arith)
      (λ low. Complete-done d high (make declared block, high, rest) _ low refl)

  init_completeness : (block : tree.Stmts) → BlockCompleteness block → (rest : List TokenKind)
      → Complete d (row_height block) (tree.Init block, row_height block, rest)
      (init (statement d) (block_spelled block rest))
  unfolding init
  init_completeness block complete rest =
      let high : ℕ = row_height block in
      Complete-then d high high (block, high, rest) (tree.Init block, high, rest) _ _
      (braced_completeness block complete rest) (omega arith)
      (λ low. Complete-done d high (tree.Init block, high, rest) _ low refl)

  field_completeness : (kind : tree.VariableType) (vs : List tree.Variable) → IsVariableType kind
      → AreVariables vs → (rest : List TokenKind)
      → Complete d (declared_height kind vs) (tree.Fields kind vs, declared_height kind vs, rest)
      (fields d (declared_spelled kind vs (token.Punctuation punctuation.Semicolon ∷ rest)))
  unfolding fields
  field_completeness kind vs typed shape rest =
      let high : ℕ = declared_height kind vs in
      Complete-then d high high ((kind, vs), high, token.Punctuation punctuation.Semicolon ∷ rest)
      (tree.Fields kind vs, high, rest) _ _ (fields_completeness kind vs typed shape d rest)
      (omega arith)
      (λ low. rw (expect_punctuation punctuation.Semicolon rest)
      (Complete-done d high (tree.Fields kind vs, high, rest) _ low refl))

  helper_completeness : (kind : HelperType) (x : List ℕ) (given : List (List ℕ))
      (block : tree.Stmts) → BlockCompleteness block → (rest : List TokenKind)
      → Complete d (row_height block) (tree.Helper kind x given block, row_height block, rest)
      (helper_function (statement d) kind (token.Name x ∷ parameters_spelled (Some given)
      (block_spelled block rest)))
  unfolding helper_function name
  helper_completeness kind x given block complete rest =
      let high : ℕ = row_height block in
      let past : List TokenKind = block_spelled block rest in
      let whole : tree.Member = tree.Helper kind x given block in
      rw (
        expect_punctuation punctuation.OpenParen (listed_parameters_spelled given
            (token.Punctuation punctuation.CloseParen ∷ past)),
        closed_parameters_completeness given past,
      ) (Complete-then d high high (block, high, rest) (whole, high, rest) _ _
      (braced_completeness block complete rest) (omega arith)
      (λ low. Complete-done d high (whole, high, rest) _ low refl))

-- a variable of fields is no helper's name: no bracket follows it
no_bracket_after : (begun : Option tree.Expr) (others : List tree.Variable) (rest : List TokenKind)
    → is_punctuation punctuation.OpenParen (initial_spelled begun
    (each_spelled next_spelled others (token.Punctuation punctuation.Semicolon ∷ rest))) ≡ false
unfolding is_punctuation
no_bracket_after None [] rest = refl
no_bracket_after None (v ∷ others) rest = refl
no_bracket_after (Some e) others rest = refl

no_heading : (vs : List tree.Variable) → AreVariables vs → (rest : List TokenKind)
    → is_heading (variables_spelled vs (token.Punctuation punctuation.Semicolon ∷ rest)) ≡ false
unfolding is_heading
no_heading [] shape rest = absurd shape
no_heading (v ∷ others) shape rest = no_bracket_after v.initial others rest

no_heading_length : (size : tree.Expr) (vs : List tree.Variable) (rest : List TokenKind)
    → is_heading (token.Punctuation punctuation.OpenBracket ∷ expr_spelled size
    (token.Punctuation punctuation.CloseBracket
    ∷ variables_spelled vs (token.Punctuation punctuation.Semicolon ∷ rest))) ≡ false
unfolding is_heading
no_heading_length size vs rest = refl

heading_begins : (x : List ℕ) (given : List (List ℕ)) (block : tree.Stmts) (rest : List TokenKind)
    → is_heading (token.Name x ∷ parameters_spelled (Some given) (block_spelled block rest)) ≡ true
unfolding is_heading is_punctuation
heading_begins x given block rest = refl

-- the statements of a member are read again
abbrev pub InsideCompleteness : tree.Member → Type 0
InsideCompleteness (tree.Fields kind vs) = Unit {0}
InsideCompleteness (tree.Init block) = BlockCompleteness block
InsideCompleteness (tree.Prework declared block) = BlockCompleteness block
InsideCompleteness (tree.Work declared block) = BlockCompleteness block
InsideCompleteness (tree.Helper kind x given block) = BlockCompleteness block

-- a member is read again at each limit
pub record MemberCompleteness (m : tree.Member) : Type 0 where
  pub shape : IsMember m
  pub reads : (d : ℕ) (rest : List TokenKind)
      → Complete d (member_height m) (m, member_height m, rest)
      (member d (statement d) (member_spelled m rest))

member_reads : (m : tree.Member) → IsMember m → InsideCompleteness m
    → (d : ℕ) (rest : List TokenKind) → Complete d (member_height m) (m, member_height m, rest)
    (member d (statement d) (member_spelled m rest))
unfolding member typed_member
member_reads (tree.Fields tree.Boolean vs) shape inside d rest =
    rw (no_heading vs shape.1 rest) (field_completeness d tree.Boolean vs shape.0 shape.1 rest)
member_reads (tree.Fields tree.Int vs) shape inside d rest =
    rw (no_heading vs shape.1 rest) (field_completeness d tree.Int vs shape.0 shape.1 rest)
member_reads (tree.Fields (tree.Array size) vs) shape inside d rest =
    rw (no_heading_length size vs rest)
    (field_completeness d (tree.Array size) vs shape.0 shape.1 rest)
member_reads (tree.Init block) shape inside d rest = init_completeness d block inside rest
member_reads (tree.Prework declared block) shape inside d rest =
    phase_member_completeness d tree.Prework declared block shape.0 inside rest
member_reads (tree.Work declared block) shape inside d rest =
    phase_member_completeness d tree.Work declared block shape.0 inside rest
member_reads (tree.Helper helper.Int x given block) shape inside d rest =
    rw (heading_begins x given block rest)
    (helper_completeness d helper.Int x given block inside rest)
member_reads (tree.Helper helper.Boolean x given block) shape inside d rest =
    rw (heading_begins x given block rest)
    (helper_completeness d helper.Boolean x given block inside rest)
member_reads (tree.Helper helper.Void x given block) shape inside d rest =
    helper_completeness d helper.Void x given block inside rest

pub member_completeness : (m : tree.Member) → IsMember m → InsideCompleteness m
    → MemberCompleteness m
member_completeness m shape inside = record { shape = shape; reads = member_reads m shape inside }

no_brace_member : (m : tree.Member) (rest : List TokenKind) → brace (member_spelled m rest) ≡ None
unfolding brace is_punctuation
no_brace_member (tree.Fields tree.Boolean vs) rest = refl
no_brace_member (tree.Fields tree.Int vs) rest = refl
no_brace_member (tree.Fields (tree.Array size) vs) rest = refl
no_brace_member (tree.Init block) rest = refl
no_brace_member (tree.Prework declared block) rest = refl
no_brace_member (tree.Work declared block) rest = refl
no_brace_member (tree.Helper helper.Int x given block) rest = refl
no_brace_member (tree.Helper helper.Boolean x given block) rest = refl
no_brace_member (tree.Helper helper.Void x given block) rest = refl

-- ---- members in a row

-- the members of a chain, as a list
abbrev pub unchained : tree.Members → List tree.Member
unchained tree.NoMember = []
unchained (tree.And m others) = m ∷ unchained others

pub chain_unchained : (ms : tree.Members) → chain (unchained ms) ≡ ms
chain_unchained tree.NoMember = refl
chain_unchained (tree.And m others) = ap (tree.And m) (chain_unchained others)

pub spelled_unchained : (ms : tree.Members) (rest : List TokenKind)
    → each_spelled member_spelled (unchained ms) rest ≡ members_spelled ms rest
spelled_unchained tree.NoMember rest = refl
spelled_unchained (tree.And m others) rest = ap (member_spelled m) (spelled_unchained others rest)

pub height_unchained : (ms : tree.Members)
    → highest member_height (unchained ms) ≡ members_height ms
height_unchained tree.NoMember = refl
height_unchained (tree.And m others) = ap (λ (n : ℕ). max (member_height m) n)
    (height_unchained others)

module _ (d : ℕ) where
  abbrev Anything : List TokenKind → Type 0
  Anything rest = Unit {0}

  abbrev IsOneCompleteness : tree.Member → Type 0
  IsOneCompleteness m = TallCompleteness member_spelled member_height
      (member d (statement d)) brace Anything d m

  one_completeness : (m : tree.Member) → MemberCompleteness m → IsOneCompleteness m
  one_completeness m complete = record {
    reads = λ rest any. complete.reads d rest;
    stays = λ rest. no_brace_member m rest;
    follows = λ rest. tt;
    long = λ rest. omega (arith, member_length m complete.shape rest);
  }

  all_completeness : (items : List tree.Member) → AllByRecursion MemberCompleteness items
      → AllByRecursion IsOneCompleteness items
  all_completeness [] complete = tt
  all_completeness (m ∷ others) complete =
      (one_completeness m complete.0, all_completeness others complete.1)

  pub members_completeness : (items : List tree.Member) → AllByRecursion MemberCompleteness items
      → (rest : List TokenKind)
      → Complete d (highest member_height items) ((items, highest member_height items), rest)
      (members d (statement d) (each_spelled member_spelled items
      (token.Punctuation punctuation.CloseBrace ∷ rest)))
  unfolding members
  members_completeness items complete rest =
      let end : List TokenKind = token.Punctuation punctuation.CloseBrace ∷ rest in
      let none : max 0 (highest member_height items) ≡ highest member_height items = omega arith in
      let read = each_taller_completeness member_spelled member_height
      (member d (statement d)) brace Anything d items (all_completeness items complete) [] 0
      (length (each_spelled member_spelled items end) + 1) end rest
      (brace_closing d rest) tt (omega arith) in
      rw none at read
