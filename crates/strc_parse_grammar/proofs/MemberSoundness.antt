-- What is read as members of a filter is that, and these are its tokens: by what holds of the
-- reader of the statements in them.
use Rattle.std.proofs.Common.{◌≡◌, ℕ, suc, ◌+◌, ◌-◌, ◌<◌, ◌≤◌, max, Bool, true, false, List, []}
use Rattle.std.proofs.Common.{◌∷◌, ◌++◌, length, Option, Some, None, Ok, refl, sym, ap, ◌∙◌, arith}
use Rattle.std.proofs.Common.{inl, inr}
use Rattle.std.specs.Prelude.{◌||◌}
use Rattle.std.proofs.lemmas.Bool.{cases_Bool}
use Rattle.std.specs.List.{AllByRecursion, list_any}
use denote.Enum.Bare.{sameb, same_false}
use Rattle.strc_lex.specs.declared.token.TokenKind.{TokenKind}
use Rattle.strc_lex.specs.declared.token.TokenKind.TheVariants as token
use Rattle.strc_lex.specs.declared.token.Keyword.{Keyword}
use Rattle.strc_lex.specs.declared.token.Keyword.TheVariants as keyword
use Rattle.strc_lex.specs.declared.token.Punctuation.TheVariants as punctuation
use Rattle.strc_parse_tree.specs.declared.tree.RateKind.{RateKind}
use Rattle.strc_parse_tree.specs.declared.tree.RateKind.TheVariants as rate
use Rattle.strc_parse_tree.specs.contracts.tree.RateKind.{the_type as rate_type}
use Rattle.strc_parse_tree.specs.Tree as tree
use Rattle.strc_parse_grammar.specs.Grammar.{declared_spelled, block_spelled, rate_keyword}
use Rattle.strc_parse_grammar.specs.Grammar.{rate_spelled}
use Rattle.strc_parse_grammar.specs.Grammar.{each_spelled, member_spelled, lowest_precedence}
use Rattle.strc_parse_grammar.specs.Grammar.{IsExpr}
use Rattle.strc_parse_grammar.specs.Grammar.{AreStmts, AreRates, IsMember, row_height, rate_height}
use Rattle.strc_parse_grammar.specs.Grammar.{member_height, highest, helper_keyword}
use Rattle.strc_parse_grammar.specs.Grammar.{listed_parameters_spelled}
use Rattle.strc_parse_grammar.specs.Reading.{◌>>=◌, Read, tail, repeated, one_taller, brace}
use Rattle.strc_parse_grammar.specs.Reading.{expression}
use Rattle.strc_parse_grammar.specs.Reading.{declared, closed_parameters}
use Rattle.strc_parse_grammar.specs.Streams.{Inner, statements, rate_kind, has_rate, rate_of}
use Rattle.strc_parse_grammar.specs.Streams.{rate_by}
use Rattle.strc_parse_grammar.specs.Streams.{rate_turn, no_rate_by, no_rate, rates, braced, init}
use Rattle.strc_parse_grammar.specs.Streams.{phase}
use Rattle.strc_parse_grammar.specs.Streams.{fields, member, members, is_heading, helper_function}
use Rattle.strc_parse_grammar.specs.Streams.{typed_member}
use Rattle.strc_parse_grammar.proofs.Stops.{expr_length}
use Rattle.strc_parse_grammar.proofs.VariableCompleteness.{declared_length}
use Rattle.strc_parse_grammar.proofs.StatementCompleteness.{rates_length, member_length}
use Rattle.strc_parse_grammar.proofs.StatementCompleteness.{listed_parameters_length}
use Rattle.strc_parse_grammar.proofs.Soundness.{Sound, Sound-ok, Sound-then, Sound-on, Sound-expect}
use Rattle.strc_parse_grammar.proofs.Soundness.{Stopped, repeated_soundness, brace_is}
use Rattle.strc_parse_grammar.proofs.Soundness.{each_spelled-push}
use Rattle.strc_parse_grammar.proofs.Soundness.{highest-push, All-push, Sound-name}
use Rattle.strc_parse_grammar.proofs.ExpressionSoundness.{expression_soundness}
use Rattle.strc_parse_grammar.proofs.ExpressionRead.{ExprRead}
use Rattle.strc_parse_grammar.proofs.SimpleSoundness.{DeclaredRead, declared_soundness}
use Rattle.strc_parse_grammar.proofs.StatementSoundness.{StmtRead, BodyRead, statements_soundness}
use Rattle.strc_parse_tree.specs.declared.tree.HelperType.{HelperType}
use Rattle.strc_parse_tree.specs.declared.tree.HelperType.TheVariants as helper
use Rattle.strc_parse_grammar.proofs.ArgumentSoundness.{closed_parameters_soundness}

abbrev count : List TokenKind → ℕ
count ts = length ts

-- ---- rates

or_false : (p q : Bool) → (p || q) ≡ false → (p ≡ false) × (q ≡ false)
or_false true q e = absurd cc
or_false false q e = (refl, e)

has_none : (a : tree.Rate) (x : tree.Rate) (others : List tree.Rate)
    → has_rate a.kind (x ∷ others) ≡ false
    → (sameb rate_type x.kind a.kind ≡ false) × (has_rate a.kind others ≡ false)
unfolding has_rate
has_none a x others fresh = or_false (sameb rate_type x.kind a.kind)
    (list_any (λ r. sameb rate_type r.kind a.kind) others) fresh

AreRates-push : (front : List tree.Rate) (a : tree.Rate) → AreRates front → IsExpr a.rate
    → has_rate a.kind front ≡ false → AreRates (front ++ a ∷ [])
AreRates-push [] a shape is_expr fresh = (is_expr, tt, tt)
AreRates-push (x ∷ others) a shape is_expr fresh =
    let parts = has_none a x others fresh in (
      shape.0,
      All-push (λ other. x.kind ≡ other.kind → ⊥) others a shape.1
          (same_false rate_type x.kind a.kind parts.0),
      AreRates-push others a shape.2 is_expr parts.1,
    )

kind_is : (kind : RateKind) (tokens : List TokenKind) → rate_kind tokens ≡ Some kind
    → tokens ≡ rate_keyword kind ∷ tail tokens
unfolding rate_kind
kind_is kind (token.Keyword keyword.Push ∷ rest) e = let same : rate.Push ≡ kind = cc in
    ap (λ (k : RateKind). rate_keyword k ∷ rest) same
kind_is kind (token.Keyword keyword.Pop ∷ rest) e = let same : rate.Pop ≡ kind = cc in
    ap (λ (k : RateKind). rate_keyword k ∷ rest) same
kind_is kind (token.Keyword keyword.Peek ∷ rest) e = let same : rate.Peek ≡ kind = cc in
    ap (λ (k : RateKind). rate_keyword k ∷ rest) same
kind_is kind _ e = absurd cc

-- the tokens of a rate that was read spell it
pub rate_is_spelled : (limit : ℕ) (kind : RateKind) (so_far : List tree.Rate)
    (tokens : List TokenKind) (value : tree.Expr) (height : ℕ) (after : List TokenKind)
    → rate_kind tokens ≡ Some kind → rate_of limit kind so_far tokens ≡ Ok (value, height, after)
    → tokens ≡ rate_spelled (record { kind = kind; rate = value }) after
unfolding rate_of
rate_is_spelled limit kind so_far tokens value height after starts is =
    elim (cases_Bool (has_rate kind so_far)) [
      | inl has ↦ let refused = rw has at is in absurd cc
      | inr fresh ↦
          let read = Sound-ok (ExprRead limit lowest_precedence (tail tokens)) limit (tail tokens)
          (expression limit lowest_precedence (tail tokens)) (value, height, after)
          (rw fresh at is) (expression_soundness limit lowest_precedence (tail tokens)) in
          kind_is kind tokens starts
          ∙ ap (λ (ts : List TokenKind). rate_keyword kind ∷ ts) read.spelled
    ]

-- the rates so far, the height of the highest, and where the next one begins
record RatesRead (limit : ℕ) (all : List TokenKind) (so_far : List tree.Rate × ℕ)
    (rest : List TokenKind) : Type 0 where
  spelled : all ≡ each_spelled rate_spelled so_far.0 rest
  shape : AreRates so_far.0
  high : so_far.1 ≡ highest rate_height so_far.0
  low : so_far.1 ≤ limit

module _ (limit : ℕ) (all : List TokenKind) (so_far : List tree.Rate × ℕ) (tokens : List TokenKind)
    (kept : RatesRead limit all so_far tokens) (le : length tokens ≤ length all) where
  abbrev Next : (List tree.Rate × ℕ) × List TokenKind → Type 0
  Next x = RatesRead limit all x.0 x.1 × (length x.1 ≤ length all)

  abbrev pushed : RateKind → tree.Expr × ℕ × List TokenKind → Read (List tree.Rate × ℕ)
  pushed kind x = Ok ((so_far.0 ++ record { kind = kind; rate = x.0 } ∷ [], max so_far.1 x.1), x.2)

  new_rate : (kind : RateKind) → tokens ≡ rate_keyword kind ∷ tail tokens
      → has_rate kind so_far.0 ≡ false → Sound Next limit all
      (expression limit lowest_precedence (tail tokens) >>= pushed kind)
  new_rate kind starts fresh =
      let one : length tokens ≡ suc (length (tail tokens)) = ap count starts in
      Sound-then (ExprRead limit lowest_precedence (tail tokens)) Next limit all
      (expression limit lowest_precedence (tail tokens)) (pushed kind)
      (Sound-on (ExprRead limit lowest_precedence (tail tokens))
      (ExprRead limit lowest_precedence (tail tokens)) limit limit (tail tokens) all
      (expression limit lowest_precedence (tail tokens)) (omega arith) (omega arith)
      (expression_soundness limit lowest_precedence (tail tokens)) (λ x h. h)) (λ x read. (
        record {
          spelled = kept.spelled ∙ ap (λ (ts : List TokenKind).
              each_spelled rate_spelled so_far.0 ts)
              (starts ∙ ap (λ (ts : List TokenKind). rate_keyword kind ∷ ts) read.spelled)
              ∙ sym (each_spelled-push rate_spelled so_far.0
              (record { kind = kind; rate = x.0 }) x.2);
          shape = AreRates-push so_far.0 (record { kind = kind; rate = x.0 }) kept.shape read.shape
              fresh;
          high = omega (
            arith,
            kept.high,
            read.high,
            highest-push rate_height so_far.0 (record { kind = kind; rate = x.0 }),
          );
          low = omega (arith, kept.low, read.low);
        },
        omega (arith, ap count read.spelled, expr_length x.0 x.2),
      ))

  rate_by_soundness : (o : Option RateKind) → rate_kind tokens ≡ o
      → Sound Next limit all (rate_by limit so_far tokens o)
  unfolding rate_of
  rate_by_soundness None e = le
  rate_by_soundness (Some kind) e =
      elim (cases_Bool (has_rate kind so_far.0)) [
        | inl is ↦ rw is le
        | inr is ↦ rw is (new_rate kind (kind_is kind tokens e) is)
      ]

  rate_turn_soundness : Sound Next limit all (rate_turn limit so_far tokens)
  unfolding rate_turn
  rate_turn_soundness = rate_by_soundness (rate_kind tokens) refl

no_rate_by_is : (o : Option RateKind) (tokens after : List TokenKind)
    → no_rate_by tokens o ≡ Some after → tokens ≡ after
no_rate_by_is None tokens after e = cc
no_rate_by_is (Some kind) tokens after e = absurd cc

no_rate_is : (tokens after : List TokenKind) → no_rate tokens ≡ Some after → tokens ≡ after
unfolding no_rate
no_rate_is tokens after e = no_rate_by_is (rate_kind tokens) tokens after e

rates_soundness : (limit : ℕ) (tokens : List TokenKind)
    → Sound (λ x. RatesRead limit tokens x.0 x.1) limit tokens (rates limit tokens)
unfolding rates
rates_soundness limit tokens =
    Sound-on (Stopped no_rate (rate_turn limit) (RatesRead limit tokens) limit tokens)
    (λ x. RatesRead limit tokens x.0 x.1) limit limit tokens tokens
    (repeated no_rate (rate_turn limit) (length tokens + 1) ([], 0) tokens) (omega arith)
    (omega arith)
    (repeated_soundness no_rate (rate_turn limit) (RatesRead limit tokens) limit tokens
    (λ s ts kept le goes. rate_turn_soundness limit tokens s ts kept le) (length tokens + 1)
    ([], 0) tokens
    (record { spelled = refl; shape = tt; high = refl; low = omega arith }) (omega arith))
    (λ x stopped. record {
      spelled = stopped.1.spelled ∙ ap (λ (ts : List TokenKind). each_spelled rate_spelled x.0.0 ts)
          (no_rate_is stopped.0 x.1 stopped.2);
      shape = stopped.1.shape;
      high = stopped.1.high;
      low = stopped.1.low;
    })

-- ---- members

-- a block with its braces, its height and what follows it
pub record BlockRead (limit : ℕ) (tokens : List TokenKind)
    (x : tree.Stmts × ℕ × List TokenKind) : Type 0 where
  pub spelled : tokens ≡ block_spelled x.0 x.2
  pub shape : AreStmts x.0
  pub high : x.1 ≡ row_height x.0
  pub low : x.1 ≤ limit

-- a member, the height of its highest part and what follows it
record MemberRead (limit : ℕ) (tokens : List TokenKind)
    (x : tree.Member × ℕ × List TokenKind) : Type 0 where
  spelled : tokens ≡ member_spelled x.0 x.2
  shape : IsMember x.0
  high : x.1 ≡ member_height x.0
  low : x.1 ≤ limit

-- rates and a block, and what follows them
record PhaseRead (limit : ℕ) (tokens : List TokenKind)
    (x : (List tree.Rate × tree.Stmts) × ℕ × List TokenKind) : Type 0 where
  spelled : tokens ≡ each_spelled rate_spelled x.0.0 (block_spelled x.0.1 x.2)
  rated : AreRates x.0.0
  shape : AreStmts x.0.1
  high : x.1 ≡ max (highest rate_height x.0.0) (row_height x.0.1)
  low : x.1 ≤ limit

-- members up to a brace, the height of the highest and what follows the brace
pub record MembersRead (limit : ℕ) (tokens : List TokenKind)
    (x : (List tree.Member × ℕ) × List TokenKind) : Type 0 where
  pub spelled : tokens ≡ each_spelled member_spelled x.0.0
      (token.Punctuation punctuation.CloseBrace ∷ x.1)
  pub shape : AllByRecursion IsMember x.0.0
  pub high : x.0.1 ≡ highest member_height x.0.0
  pub low : x.0.1 ≤ limit

-- the members so far, and where the next one begins
record RowRead (limit : ℕ) (all : List TokenKind) (so_far : List tree.Member × ℕ)
    (rest : List TokenKind) : Type 0 where
  spelled : all ≡ each_spelled member_spelled so_far.0 rest
  shape : AllByRecursion IsMember so_far.0
  high : so_far.1 ≡ highest member_height so_far.0
  low : so_far.1 ≤ limit

fields_soundness : (limit : ℕ) (tokens : List TokenKind)
    → Sound (MemberRead limit tokens) limit tokens (fields limit tokens)
unfolding fields
fields_soundness limit tokens =
    Sound-then (DeclaredRead limit tokens) (MemberRead limit tokens) limit tokens
    (declared limit tokens) _ (declared_soundness limit tokens) (λ x read.
    let le : length x.2 ≤ length tokens =
    omega (arith, ap count read.spelled, declared_length x.0.0 x.0.1 x.2) in
    Sound-expect (MemberRead limit tokens) limit tokens punctuation.Semicolon x.2 _ le
    (λ rest e. record {
      spelled = read.spelled ∙ ap (λ (ts : List TokenKind). declared_spelled x.0.0 x.0.1 ts) e;
      shape = (read.typed, read.shape);
      high = read.high;
      low = read.low;
    }))

module _ (d : ℕ) (inner : Inner) (sound : (tokens : List TokenKind)
    → Sound (StmtRead d tokens) (d - 1) tokens (inner tokens)) where
  pub braced_soundness : (tokens : List TokenKind)
      → Sound (BlockRead d tokens) (d - 1) tokens (braced inner tokens)
  unfolding braced
  braced_soundness tokens =
      Sound-expect (BlockRead d tokens) (d - 1) tokens punctuation.OpenBrace tokens _ (omega arith)
      (λ opened e.
      let one : length tokens ≡ suc (length opened) = ap count e in
      Sound-then (BodyRead d opened) (BlockRead d tokens) (d - 1) tokens (statements inner opened) _
      (Sound-on (BodyRead d opened) (BodyRead d opened) (d - 1) (d - 1) opened tokens
      (statements inner opened) (omega arith) (omega arith)
      (statements_soundness d inner sound opened) (λ x h. h))
      (λ x body. record {
        spelled = e ∙ ap (λ (ts : List TokenKind). token.Punctuation punctuation.OpenBrace ∷ ts)
            body.spelled;
        shape = body.shape;
        high = body.high;
        low = body.low;
      }))

  init_soundness : (past : List TokenKind)
      → Sound (MemberRead d (token.Keyword keyword.Init ∷ past)) (d - 1)
      (token.Keyword keyword.Init ∷ past) (init inner past)
  unfolding init
  init_soundness past =
      let all : List TokenKind = token.Keyword keyword.Init ∷ past in
      Sound-then (BlockRead d past) (MemberRead d all) (d - 1) all (braced inner past) _
      (Sound-on (BlockRead d past) (BlockRead d past) (d - 1) (d - 1) past all (braced inner past)
      (omega arith) (omega arith) (braced_soundness past) (λ x h. h))
      (λ x block. record {
        spelled = ap (λ (ts : List TokenKind). token.Keyword keyword.Init ∷ ts) block.spelled;
        shape = block.shape;
        high = block.high;
        low = block.low;
      })

  phase_soundness : (tokens : List TokenKind)
      → Sound (PhaseRead d tokens) (d - 1) tokens (phase d inner tokens)
  unfolding phase
  phase_soundness tokens =
      Sound-then (λ x. RatesRead d tokens x.0 x.1) (PhaseRead d tokens) (d - 1) tokens
      (rates d tokens) _
      (Sound-on (λ x. RatesRead d tokens x.0 x.1) (λ x. RatesRead d tokens x.0 x.1) d
      (d - 1) tokens tokens (rates d tokens) (omega arith) (omega arith)
      (rates_soundness d tokens) (λ x h. h)) (λ found rated.
      let short : length found.1 ≤ length tokens =
      omega (arith, ap count rated.spelled, rates_length found.0.0 found.1) in
      Sound-then (BlockRead d found.1) (PhaseRead d tokens) (d - 1) tokens (braced inner found.1) _
      (Sound-on (BlockRead d found.1) (BlockRead d found.1) (d - 1) (d - 1) found.1 tokens
      (braced inner found.1) (omega arith) (omega arith) (braced_soundness found.1) (λ x h. h))
      (λ x block. record {
        spelled = rated.spelled ∙ ap (λ (ts : List TokenKind).
            each_spelled rate_spelled found.0.0 ts) block.spelled;
        rated = rated.shape;
        shape = block.shape;
        high = omega (arith, rated.high, block.high);
        low = omega (arith, rated.low, block.low);
      }))

  -- a member made of rates and a block, after its keyword
  phase_member : (w : Keyword) (make : List tree.Rate → tree.Stmts → tree.Member)
      (past : List TokenKind)
      → ((rated : List tree.Rate) (block : tree.Stmts) (rest : List TokenKind)
      → token.Keyword w ∷ each_spelled rate_spelled rated (block_spelled block rest)
      ≡ member_spelled (make rated block) rest)
      → ((rated : List tree.Rate) (block : tree.Stmts) → AreRates rated → AreStmts block
      → IsMember (make rated block))
      → ((rated : List tree.Rate) (block : tree.Stmts)
      → member_height (make rated block) ≡ max (highest rate_height rated) (row_height block))
      → Sound (MemberRead d (token.Keyword w ∷ past)) (d - 1) (token.Keyword w ∷ past)
      (phase d inner past >>= λ read. Ok (make read.0.0 read.0.1, read.1, read.2))
  phase_member w make past spells shapes heights =
      let all : List TokenKind = token.Keyword w ∷ past in
      Sound-then (PhaseRead d past) (MemberRead d all) (d - 1) all (phase d inner past) _
      (Sound-on (PhaseRead d past) (PhaseRead d past) (d - 1) (d - 1) past all (phase d inner past)
      (omega arith) (omega arith) (phase_soundness past) (λ x h. h))
      (λ x read. record {
        spelled = ap (λ (ts : List TokenKind). token.Keyword w ∷ ts) read.spelled
            ∙ spells x.0.0 x.0.1 x.2;
        shape = shapes x.0.0 x.0.1 read.rated read.shape;
        high = read.high ∙ sym (heights x.0.0 x.0.1);
        low = read.low;
      })

  fields_member : (tokens : List TokenKind)
      → Sound (MemberRead d tokens) (d - 1) tokens (fields d tokens)
  fields_member tokens = Sound-on (MemberRead d tokens) (MemberRead d tokens) d
      (d - 1) tokens tokens (fields d tokens) (omega arith) (omega arith)
      (fields_soundness d tokens) (λ x h. h)

  helper_soundness : (kind : HelperType) (past : List TokenKind)
      → Sound (MemberRead d (helper_keyword kind ∷ past)) (d - 1) (helper_keyword kind ∷ past)
      (helper_function inner kind past)
  unfolding helper_function
  helper_soundness kind past =
      let all : List TokenKind = helper_keyword kind ∷ past in
      let Q : tree.Member × ℕ × List TokenKind → Type 0 = MemberRead d all in
      Sound-name Q (d - 1) all past _ (omega arith) (λ x named e.
      let one : length past ≡ suc (length named) = ap count e in
      Sound-expect Q (d - 1) all punctuation.OpenParen named _ (omega arith) (λ opened f.
      let two : length named ≡ suc (length opened) = ap count f in
      let P : List (List ℕ) × List TokenKind → Type 0 =
      λ y. opened ≡ listed_parameters_spelled y.0
      (token.Punctuation punctuation.CloseParen ∷ y.1) in
      Sound-then P Q (d - 1) all (closed_parameters opened) _
      (Sound-on P P (d - 1) (d - 1) opened all (closed_parameters opened) (omega arith)
      (omega arith) (closed_parameters_soundness (d - 1) opened) (λ y h. h)) (λ y given.
      let three : length y.1 ≤ length opened =
      omega (
        arith,
        ap count given,
        listed_parameters_length y.0 (token.Punctuation punctuation.CloseParen ∷ y.1),
      ) in
      Sound-then (BlockRead d y.1) Q (d - 1) all (braced inner y.1) _
      (Sound-on (BlockRead d y.1) (BlockRead d y.1) (d - 1) (d - 1) y.1 all (braced inner y.1)
      (omega arith) (omega arith) (braced_soundness y.1) (λ z h. h)) (λ z block. record {
        spelled = ap (λ (ts : List TokenKind). helper_keyword kind ∷ ts)
            (e ∙ ap (λ (ts : List TokenKind). token.Name x ∷ ts)
            (f ∙ ap (λ (ts : List TokenKind). token.Punctuation punctuation.OpenParen ∷ ts)
            (given ∙ ap (λ (ts : List TokenKind). listed_parameters_spelled y.0
            (token.Punctuation punctuation.CloseParen ∷ ts)) block.spelled)));
        shape = block.shape;
        high = block.high;
        low = block.low;
      }))))

  typed_soundness : (kind : HelperType) (past : List TokenKind)
      → Sound (MemberRead d (helper_keyword kind ∷ past)) (d - 1) (helper_keyword kind ∷ past)
      (typed_member d inner kind (helper_keyword kind ∷ past))
  unfolding typed_member
  typed_soundness kind past =
      elim (cases_Bool (is_heading past)) [
        | inl is ↦ rw is (helper_soundness kind past)
        | inr is ↦ rw is (fields_member (helper_keyword kind ∷ past))
      ]

  member_soundness : (tokens : List TokenKind)
      → Sound (MemberRead d tokens) (d - 1) tokens (member d inner tokens)
  unfolding member
  member_soundness (token.Keyword keyword.Boolean ∷ rest) = typed_soundness helper.Boolean rest
  member_soundness (token.Keyword keyword.Int ∷ rest) = typed_soundness helper.Int rest
  member_soundness (token.Keyword keyword.Void ∷ rest) = helper_soundness helper.Void rest
  member_soundness (token.Keyword keyword.Init ∷ rest) = init_soundness rest
  member_soundness (token.Keyword keyword.Prework ∷ rest) =
      phase_member keyword.Prework tree.Prework rest (λ rated block after. refl)
      (λ rated block a b. (a, b)) (λ rated block. refl)
  member_soundness (token.Keyword keyword.Work ∷ rest) =
      phase_member keyword.Work tree.Work rest (λ rated block after. refl)
      (λ rated block a b. (a, b)) (λ rated block. refl)
  member_soundness _ = omega arith

  -- a member has a token or more
  pub member_shorter : (tokens : List TokenKind) (value : tree.Member) (height : ℕ)
      (after : List TokenKind) → member d inner tokens ≡ Ok (value, height, after)
      → length after < length tokens
  member_shorter tokens value height after is =
      let read = Sound-ok (MemberRead d tokens) (d - 1) tokens (member d inner tokens)
      (value, height, after) is (member_soundness tokens) in
      omega (arith, ap count read.spelled, member_length value read.shape after)

  -- the tokens of a member that was read spell it
  pub member_is_spelled : (tokens : List TokenKind) (value : tree.Member) (height : ℕ)
      (after : List TokenKind) → member d inner tokens ≡ Ok (value, height, after)
      → tokens ≡ member_spelled value after
  member_is_spelled tokens value height after is =
      (Sound-ok (MemberRead d tokens) (d - 1) tokens (member d inner tokens)
      (value, height, after) is (member_soundness tokens)).spelled

  turn_soundness : (all : List TokenKind) (so_far : List tree.Member × ℕ) (tokens : List TokenKind)
      → RowRead d all so_far tokens → length tokens ≤ length all
      → Sound (λ x. RowRead d all x.0 x.1 × (length x.1 ≤ length all)) (d - 1) all
      (one_taller (member d inner) so_far tokens)
  unfolding one_taller
  turn_soundness all so_far tokens kept le =
      Sound-then (MemberRead d tokens) (λ x. RowRead d all x.0 x.1 × (length x.1 ≤ length all))
      (d - 1) all (member d inner tokens) _
      (Sound-on (MemberRead d tokens) (MemberRead d tokens) (d - 1) (d - 1) tokens all
      (member d inner tokens) le (omega arith) (member_soundness tokens) (λ x h. h)) (λ x read. (
        record {
          spelled = kept.spelled ∙ ap (λ (ts : List TokenKind).
              each_spelled member_spelled so_far.0 ts) read.spelled
              ∙ sym (each_spelled-push member_spelled so_far.0 x.0 x.2);
          shape = All-push IsMember so_far.0 x.0 kept.shape read.shape;
          high = omega (arith, kept.high, read.high, highest-push member_height so_far.0 x.0);
          low = omega (arith, kept.low, read.low);
        },
        omega (arith, ap count read.spelled, member_length x.0 read.shape x.2),
      ))

  pub members_soundness : (tokens : List TokenKind)
      → Sound (MembersRead d tokens) (d - 1) tokens (members d inner tokens)
  unfolding members
  members_soundness tokens =
      Sound-on (Stopped brace (one_taller (member d inner)) (RowRead d tokens) (d - 1) tokens)
      (MembersRead d tokens) (d - 1) (d - 1) tokens tokens
      (repeated brace (one_taller (member d inner)) (length tokens + 1) ([], 0) tokens)
      (omega arith) (omega arith)
      (repeated_soundness brace (one_taller (member d inner)) (RowRead d tokens) (d - 1) tokens
      (λ s ts kept le goes. turn_soundness tokens s ts kept le) (length tokens + 1) ([], 0) tokens
      (record { spelled = refl; shape = tt; high = refl; low = omega arith }) (omega arith))
      (λ x stopped. record {
        spelled = stopped.1.spelled ∙ ap (λ (ts : List TokenKind).
            each_spelled member_spelled x.0.0 ts) (brace_is stopped.0 x.1 stopped.2);
        shape = stopped.1.shape;
        high = stopped.1.high;
        low = stopped.1.low;
      })
