-- What is read as an expression is one, and these are its tokens.
use Rattle.std.proofs.Common.{◌≡◌, ℕ, zero, suc, ◌+◌, ◌-◌, ◌<◌, ◌≤◌, max, Bool, true, false, cond}
use Rattle.std.proofs.Common.{eqb, List, [], ◌∷◌, length, Option, Some, None, Result, Ok, refl, sym}
use Rattle.std.proofs.Common.{ap, subst, ◌∙◌, arith, inl, inr}
use Rattle.std.proofs.lemmas.Bool.{cases_Bool, eqb-true}
use Rattle.strc_lex.specs.declared.token.TokenKind.{TokenKind}
use Rattle.strc_lex.specs.declared.token.TokenKind.TheVariants as token
use Rattle.strc_lex.specs.declared.token.Keyword.{Keyword}
use Rattle.strc_lex.specs.declared.token.Keyword.TheVariants as keyword
use Rattle.strc_lex.specs.declared.token.Punctuation.{Punctuation}
use Rattle.strc_lex.specs.declared.token.Punctuation.TheVariants as punctuation
use Rattle.strc_parse_grammar.specs.declared.error.Fault.{Fault}
use Rattle.strc_parse_tree.specs.declared.tree.UnaryOperator.{UnaryOperator}
use Rattle.strc_parse_tree.specs.declared.tree.UnaryOperator.TheVariants as unary
use Rattle.strc_parse_tree.specs.declared.tree.StepOperator.{StepOperator}
use Rattle.strc_parse_tree.specs.declared.tree.StepOperator.TheVariants as step
use Rattle.strc_parse_tree.specs.declared.tree.BinaryOperator.{BinaryOperator}
use Rattle.strc_parse_tree.specs.declared.tree.BinaryOperator.TheVariants as binary
use Rattle.strc_parse_tree.specs.Tree as tree
use Rattle.strc_parse_grammar.specs.Grammar.{unary_punctuation, binary_punctuation, step_spelled}
use Rattle.strc_parse_grammar.specs.Grammar.{expr_spelled, precedence, lowest_precedence, rank}
use Rattle.strc_parse_grammar.specs.Grammar.{IsExpr}
use Rattle.strc_parse_grammar.specs.Grammar.{IsOptional, expr_height}
use Rattle.strc_parse_tree.specs.Tree.{read_of, step_of_place, arguments_of}
use Rattle.strc_parse_grammar.specs.Reading.{◌>>=◌, Below, Tall, tail, punctuation_at}
use Rattle.strc_parse_grammar.specs.Reading.{is_punctuation}
use Rattle.strc_parse_grammar.specs.Reading.{binary_of, of_rank, operator, step_after, closed}
use Rattle.strc_parse_grammar.specs.Reading.{index}
use Rattle.strc_parse_grammar.specs.Reading.{after_place_by, after_place, after_name, step_first}
use Rattle.strc_parse_grammar.specs.Reading.{pop_brackets, peek_brackets, group, sign}
use Rattle.strc_parse_grammar.specs.Reading.{punctuation_operand, keyword_operand, operand}
use Rattle.strc_parse_grammar.specs.Reading.{chain_by}
use Rattle.strc_parse_grammar.specs.Reading.{chain, climb, choice, lowest_binary_precedence}
use Rattle.strc_parse_grammar.specs.Reading.{conditional}
use Rattle.strc_parse_grammar.specs.Reading.{ranked, expression, raised, after_variable, call}
use Rattle.strc_parse_grammar.specs.Reading.{closed_arguments}
use Rattle.strc_parse_grammar.proofs.ExpressionCompleteness.{index_spelled, place_height}
use Rattle.strc_parse_grammar.proofs.Stops.{expr_length}
use Rattle.strc_parse_grammar.proofs.Soundness.{Sound, Sound-then, Sound-on, Sound-expect}
use Rattle.strc_parse_grammar.proofs.Soundness.{Sound-name}
use Rattle.strc_parse_grammar.proofs.Soundness.{Sound-raised, punctuation_is}
use Rattle.strc_parse_grammar.proofs.ExpressionRead.{ExprRead, ExprRead-long, ExprRead-some}
use Rattle.strc_parse_grammar.proofs.ExpressionRead.{ClosedRead}
use Rattle.strc_parse_grammar.proofs.ExpressionRead.{ClosedRead-long, IsReader, closed_soundness}
use Rattle.strc_parse_grammar.proofs.ListedSoundness.{ClosedListRead, closed_arguments_soundness}
use Rattle.strc_parse_grammar.proofs.Given.{given_listed, given_highest, given_shape}

abbrev count : List TokenKind → ℕ
count ts = length ts

-- ---- what comes first

step_is : (o : StepOperator) (target : List TokenKind → List TokenKind) (past : List TokenKind)
    → step_after past ≡ Some o → target past ≡ step_spelled o target (tail past)
unfolding step_after punctuation_at
step_is o target (token.Punctuation punctuation.PlusPlus ∷ rest) e =
    let same : step.IncrementAfter ≡ o = cc in
    subst (λ (p : StepOperator). target (token.Punctuation punctuation.PlusPlus ∷ rest)
    ≡ step_spelled p target rest) same refl
step_is o target (token.Punctuation punctuation.MinusMinus ∷ rest) e =
    let same : step.DecrementAfter ≡ o = cc in
    subst (λ (p : StepOperator). target (token.Punctuation punctuation.MinusMinus ∷ rest)
    ≡ step_spelled p target rest) same refl
step_is o target _ e = absurd cc

binary_is : (found : Punctuation) (o : BinaryOperator) → binary_of found ≡ Some o
    → found ≡ binary_punctuation o
binary_is punctuation.OrOr o e = let same : binary.LogicalOr ≡ o = cc in ap binary_punctuation same
binary_is punctuation.AndAnd o e = let same : binary.LogicalAnd ≡ o = cc in
    ap binary_punctuation same
binary_is punctuation.Or o e = let same : binary.Or ≡ o = cc in ap binary_punctuation same
binary_is punctuation.Caret o e = let same : binary.ExclusiveOr ≡ o = cc in
    ap binary_punctuation same
binary_is punctuation.And o e = let same : binary.And ≡ o = cc in ap binary_punctuation same
binary_is punctuation.Equal o e = let same : binary.Equal ≡ o = cc in ap binary_punctuation same
binary_is punctuation.NotEqual o e = let same : binary.NotEqual ≡ o = cc in
    ap binary_punctuation same
binary_is punctuation.Less o e = let same : binary.Less ≡ o = cc in ap binary_punctuation same
binary_is punctuation.LessEqual o e = let same : binary.LessOrEqual ≡ o = cc in
    ap binary_punctuation same
binary_is punctuation.Greater o e = let same : binary.Greater ≡ o = cc in ap binary_punctuation same
binary_is punctuation.GreaterEqual o e = let same : binary.GreaterOrEqual ≡ o = cc in
    ap binary_punctuation same
binary_is punctuation.ShiftLeft o e = let same : binary.ShiftLeft ≡ o = cc in
    ap binary_punctuation same
binary_is punctuation.ShiftRight o e = let same : binary.ShiftRight ≡ o = cc in
    ap binary_punctuation same
binary_is punctuation.Plus o e = let same : binary.Add ≡ o = cc in ap binary_punctuation same
binary_is punctuation.Minus o e = let same : binary.Subtract ≡ o = cc in ap binary_punctuation same
binary_is punctuation.Star o e = let same : binary.Multiply ≡ o = cc in ap binary_punctuation same
binary_is punctuation.Slash o e = let same : binary.Divide ≡ o = cc in ap binary_punctuation same
binary_is punctuation.Percent o e = let same : binary.Remainder ≡ o = cc in
    ap binary_punctuation same
binary_is _ o e = absurd cc

of_rank_is : (r : ℕ) (found : Option BinaryOperator) (o : BinaryOperator) → of_rank r found ≡ Some o
    → (found ≡ Some o) × (precedence o ≡ r)
of_rank_is r None o e = absurd cc
of_rank_is r (Some found) o e =
    elim (cases_Bool (eqb (precedence found) r)) [
      | inl is ↦
          let taken : cond true (Some found) None ≡ Some o =
          subst (λ (b : Bool). cond b (Some found) None ≡ Some o) is e in
          let same : found ≡ o = cc in (
            ap Some same,
            ap precedence (sym same)
                ∙ eqb-true (precedence found) r is,
          )
      | inr is ↦
          let left : cond false (Some found) None ≡ Some o =
          subst (λ (b : Bool). cond b (Some found) None ≡ Some o) is e in absurd cc
    ]

-- the operator that comes first is spelled there
operator_is : (r : ℕ) (tokens : List TokenKind) (o : BinaryOperator) → operator r tokens ≡ Some o
    → (tokens ≡ token.Punctuation (binary_punctuation o) ∷ tail tokens) × (precedence o ≡ r)
unfolding operator punctuation_at
operator_is r [] o e = absurd cc
operator_is r (token.Punctuation found ∷ rest) o e =
    let is = of_rank_is r (binary_of found) o e in
    (ap (λ (m : Punctuation). token.Punctuation m ∷ rest) (binary_is found o is.0), is.1)
operator_is r (token.Name x ∷ rest) o e = absurd cc
operator_is r (token.Number n ∷ rest) o e = absurd cc
operator_is r (token.StringLiteral t ∷ rest) o e = absurd cc
operator_is r (token.Keyword w ∷ rest) o e = absurd cc

-- ---- operands

-- a variable or an element, and its step
place_spelled : (x : List ℕ) (at : Option tree.Expr) (rest : List TokenKind)
    → token.Name x ∷ index_spelled at rest ≡ expr_spelled (read_of x at) rest
place_spelled x None rest = refl
place_spelled x (Some at) rest = refl

place_shape : (x : List ℕ) (at : Option tree.Expr) → IsOptional at → IsExpr (read_of x at)
place_shape x None shape = tt
place_shape x (Some at) shape = shape

place_rank : (x : List ℕ) (at : Option tree.Expr) → rank (read_of x at) ≡ 0
place_rank x None = refl
place_rank x (Some at) = refl

place_high : (x : List ℕ) (at : Option tree.Expr) → place_height at ≡ expr_height (read_of x at)
place_high x None = refl
place_high x (Some at) = refl

step_of_place_spelled : (o : StepOperator) (x : List ℕ) (at : Option tree.Expr)
    (rest : List TokenKind)
    → step_spelled o (λ after. token.Name x ∷ index_spelled at after) rest
    ≡ expr_spelled (step_of_place o x at) rest
step_of_place_spelled o x None rest = refl
step_of_place_spelled o x (Some at) rest = refl

step_of_place_shape : (o : StepOperator) (x : List ℕ) (at : Option tree.Expr) → IsOptional at
    → IsExpr (step_of_place o x at)
step_of_place_shape o x None shape = tt
step_of_place_shape o x (Some at) shape = shape

step_of_place_rank : (o : StepOperator) (x : List ℕ) (at : Option tree.Expr)
    → rank (step_of_place o x at) ≡ 0
step_of_place_rank o x None = refl
step_of_place_rank o x (Some at) = refl

step_of_place_high : (o : StepOperator) (x : List ℕ) (at : Option tree.Expr)
    → place_height at + 1 ≡ expr_height (step_of_place o x at)
step_of_place_high o x None = refl
step_of_place_high o x (Some at) = omega arith

index_length : (at : Option tree.Expr) (rest : List TokenKind)
    → place_height at + length rest ≤ length (index_spelled at rest) + 1
index_length None rest = omega arith
index_length (Some at) rest = omega (
  arith,
  expr_length at (token.Punctuation punctuation.CloseBracket ∷ rest),
)

-- an index, or nothing, after a name
record IndexRead (depth : ℕ) (tokens : List TokenKind)
    (x : Option tree.Expr × ℕ × List TokenKind) : Type 0 where
  spelled : tokens ≡ index_spelled x.0 x.2
  shape : IsOptional x.0
  high : x.1 ≡ place_height x.0
  low : x.1 ≤ depth

module _ (d : ℕ) where
  after_place_by_soundness : (x : List ℕ) (at : Option tree.Expr) (all past : List TokenKind)
      → all ≡ token.Name x ∷ index_spelled at past → IsOptional at → place_height at ≤ suc d
      → (o : Option StepOperator) → step_after past ≡ o
      → Sound (ExprRead (suc d) 0 all) (suc d) all
      (after_place_by (suc d) x at (place_height at) past o)
  after_place_by_soundness x at all past is shape low None e = record {
    spelled = is ∙ place_spelled x at past;
    shape = place_shape x at shape;
    ranked = omega (arith, place_rank x at);
    high = place_high x at;
    low = low;
  }
  after_place_by_soundness x at all past is shape low (Some o) e =
      Sound-raised (ExprRead (suc d) 0 all) (suc d) all (suc d) (place_height at)
      (λ high. Ok (step_of_place o x at, high, tail past))
      (λ lt. record {
        spelled = is ∙ step_is o (λ after. token.Name x ∷ index_spelled at after) past e
            ∙ step_of_place_spelled o x at (tail past);
        shape = step_of_place_shape o x at shape;
        ranked = omega (arith, step_of_place_rank o x at);
        high = step_of_place_high o x at;
        low = omega arith;
      }) (λ le. omega (arith, ap count is, index_length at past))

  after_place_soundness : (x : List ℕ) (all : List TokenKind)
      (read : Option tree.Expr × ℕ × List TokenKind)
      → all ≡ token.Name x ∷ index_spelled read.0 read.2 → IsOptional read.0
      → read.1 ≡ place_height read.0 → read.1 ≤ suc d
      → Sound (ExprRead (suc d) 0 all) (suc d) all (after_place (suc d) x read.0 read.1 read.2)
  unfolding after_place
  after_place_soundness x all read is shape high low =
      rw high (after_place_by_soundness x read.0 all read.2 is shape (omega arith)
      (step_after read.2) refl)

  pop_soundness : (past : List TokenKind)
      → Sound (ExprRead (suc d) 0 (token.Keyword keyword.Pop ∷ past)) (suc d)
      (token.Keyword keyword.Pop ∷ past) (pop_brackets past)
  unfolding pop_brackets
  pop_soundness past =
      let all : List TokenKind = token.Keyword keyword.Pop ∷ past in
      Sound-expect (ExprRead (suc d) 0 all) (suc d) all punctuation.OpenParen past _ (omega arith)
      (λ inside e.
      Sound-expect (ExprRead (suc d) 0 all) (suc d) all punctuation.CloseParen inside _
      (omega (arith, ap count e)) (λ rest f.
      record {
        spelled = ap (λ (ts : List TokenKind). token.Keyword keyword.Pop ∷ ts)
            (e ∙ ap (λ (ts : List TokenKind). token.Punctuation punctuation.OpenParen ∷ ts) f);
        shape
            = tt;
        ranked = omega arith;
        high = refl;
        low = omega arith;
      }))

  module _ (below : Below) (sound : IsReader d below) where
    -- an expression and the punctuation that closes it, somewhere within these tokens, in a node of
    -- its own
    enclosed_soundness : {B : Type 0} (Q : B → Type 0) (m : Punctuation)
        (all tokens : List TokenKind) (make : tree.Expr → ℕ → List TokenKind → Result B Fault)
        → length tokens + 1 ≤ length all
        → ((x : tree.Expr × ℕ × List TokenKind) → ClosedRead d m tokens x
        → Sound Q (suc d) all (make x.0 (x.1 + 1) x.2))
        → Sound Q (suc d) all (closed below m tokens >>= λ value. raised
        (suc d) value.1 >>= λ height. make value.0 height value.2)
    enclosed_soundness Q m all tokens make le then =
        Sound-then (ClosedRead d m tokens) Q (suc d) all (closed below m tokens) _
        (Sound-on (ClosedRead d m tokens) (ClosedRead d m tokens) d (suc d) tokens all
        (closed below m tokens) (omega arith) (omega arith)
        (closed_soundness d below sound m tokens) (λ x h. h)) (λ x read.
        Sound-raised Q (suc d) all (suc d) x.1 (λ height. make x.0 height x.2) (λ lt. then x read)
        (λ le. absurd (omega (arith, read.low))))

    index_soundness : (tokens : List TokenKind)
        → Sound (IndexRead (suc d) tokens) (suc d) tokens (index (suc d) below tokens)
    unfolding index
    index_soundness tokens =
        let Q : Option tree.Expr × ℕ × List TokenKind → Type 0 = IndexRead (suc d) tokens in
        elim (cases_Bool (is_punctuation punctuation.OpenBracket tokens)) [
          | inl is ↦
              let starts = punctuation_is punctuation.OpenBracket tokens is in
              let one : length tokens ≡ suc (length (tail tokens)) = ap count starts in
              let read = enclosed_soundness Q punctuation.CloseBracket tokens (tail tokens)
              (λ value height after. Ok (Some value, height, after)) (omega arith)
              (λ x closed. record {
                spelled = starts ∙ ap (λ (ts : List TokenKind).
                    token.Punctuation punctuation.OpenBracket ∷ ts) closed.spelled;
                shape = closed.shape;
                high = ap (λ (n : ℕ). n + 1) closed.high;
                low = omega (arith, closed.low);
              }) in
              rw is read
          | inr is ↦
              let none : Q (None, 1, tokens) =
              record { spelled = refl; shape = tt; high = refl; low = omega arith } in
              rw is none
        ]

    variable_soundness : (x : List ℕ) (past : List TokenKind)
        → Sound (ExprRead (suc d) 0 (token.Name x ∷ past)) (suc d) (token.Name x ∷ past)
        (after_variable (suc d) below x past)
    unfolding after_variable
    variable_soundness x past =
        let all : List TokenKind = token.Name x ∷ past in
        Sound-then (IndexRead (suc d) past) (ExprRead (suc d) 0 all) (suc d) all
        (index (suc d) below past) _
        (Sound-on (IndexRead (suc d) past) (IndexRead (suc d) past) (suc d) (suc d) past all
        (index (suc d) below past) (omega arith) (omega arith) (index_soundness past) (λ r h. h))
        (λ r at. after_place_soundness x all r
        (ap (λ (ts : List TokenKind). token.Name x ∷ ts) at.spelled) at.shape at.high at.low)

    call_soundness : (x : List ℕ) (all past : List TokenKind)
        → all ≡ token.Name x ∷ token.Punctuation punctuation.OpenParen ∷ past
        → Sound (ExprRead (suc d) 0 all) (suc d) all (call (suc d) below x past)
    unfolding call
    call_soundness x all past is =
        let P : List tree.Expr × ℕ × List TokenKind → Type 0 = ClosedListRead d past in
        let Q : tree.Expr × ℕ × List TokenKind → Type 0 = ExprRead (suc d) 0 all in
        let two : length all ≡ suc (suc (length past)) = ap count is in
        Sound-then P Q (suc d) all (closed_arguments below past) _
        (Sound-on P P d (suc d) past all (closed_arguments below past) (omega arith) (omega arith)
        (closed_arguments_soundness d below sound past) (λ y h. h)) (λ y given.
        let shut : List TokenKind = token.Punctuation punctuation.CloseParen ∷ y.2 in
        Sound-raised Q (suc d) all (suc d) y.1
        (λ height. Ok (tree.Call x (arguments_of y.0), height, y.2))
        (λ lt. record {
          spelled = is ∙ ap (λ (ts : List TokenKind). token.Name x
              ∷ token.Punctuation punctuation.OpenParen ∷ ts)
              (given.spelled ∙ sym (given_listed y.0 shut));
          shape = given_shape y.0 given.shape;
          ranked = omega arith;
          high = ap (λ (n : ℕ). n + 1) (given.high ∙ sym (given_highest y.0));
          low = omega arith;
        }) (λ le. absurd (omega (arith, given.low))))

    after_name_soundness : (x : List ℕ) (past : List TokenKind)
        → Sound (ExprRead (suc d) 0 (token.Name x ∷ past)) (suc d) (token.Name x ∷ past)
        (after_name (suc d) below x past)
    unfolding after_name
    after_name_soundness x past =
        elim (cases_Bool (is_punctuation punctuation.OpenParen past)) [
          | inl is ↦
              let starts = punctuation_is punctuation.OpenParen past is in
              rw is (call_soundness x (token.Name x ∷ past) (tail past)
              (ap (λ (ts : List TokenKind). token.Name x ∷ ts) starts))
          | inr is ↦ rw is (variable_soundness x past)
        ]

    step_first_soundness : (m : Punctuation) (o : StepOperator) (past : List TokenKind)
        → ((target : List TokenKind → List TokenKind) (rest : List TokenKind)
        → token.Punctuation m ∷ target rest ≡ step_spelled o target rest)
        → Sound (ExprRead (suc d) 0 (token.Punctuation m ∷ past)) (suc d)
        (token.Punctuation m ∷ past) (step_first (suc d) below o past)
    unfolding step_first
    step_first_soundness m o past spells =
        let all : List TokenKind = token.Punctuation m ∷ past in
        let Q : tree.Expr × ℕ × List TokenKind → Type 0 = ExprRead (suc d) 0 all in
        Sound-name Q (suc d) all past _ (omega arith) (λ x after e.
        let one : length past ≡ suc (length after) = ap count e in
        Sound-then (IndexRead (suc d) after) Q (suc d) all (index (suc d) below after) _
        (Sound-on (IndexRead (suc d) after) (IndexRead (suc d) after) (suc d) (suc d) after all
        (index (suc d) below after) (omega arith) (omega arith) (index_soundness after)
        (λ r h. h)) (λ r at.
        Sound-raised Q (suc d) all (suc d) r.1 _
        (λ lt. record {
          spelled = ap (λ (ts : List TokenKind). token.Punctuation m ∷ ts)
              (e ∙ ap (λ (ts : List TokenKind). token.Name x ∷ ts) at.spelled)
              ∙ spells (λ rest. token.Name x ∷ index_spelled r.0 rest) r.2
              ∙ step_of_place_spelled o x r.0 r.2;
          shape = step_of_place_shape o x r.0 at.shape;
          ranked = omega (arith, step_of_place_rank o x r.0);
          high = ap (λ (n : ℕ). n + 1) at.high ∙ step_of_place_high o x r.0;
          low = omega arith;
        }) (λ le. omega (arith, at.high, ap count at.spelled, index_length r.0 r.2))))

    peek_soundness : (past : List TokenKind)
        → Sound (ExprRead (suc d) 0 (token.Keyword keyword.Peek ∷ past)) (suc d)
        (token.Keyword keyword.Peek ∷ past) (peek_brackets (suc d) below past)
    unfolding peek_brackets
    peek_soundness past =
        let all : List TokenKind = token.Keyword keyword.Peek ∷ past in
        let Q : tree.Expr × ℕ × List TokenKind → Type 0 = ExprRead (suc d) 0 all in
        Sound-expect Q (suc d) all punctuation.OpenParen past _ (omega arith) (λ inside e.
        enclosed_soundness Q punctuation.CloseParen all inside
        (λ value height after. Ok (tree.Peek value, height, after)) (omega (arith, ap count e))
        (λ x at. record {
          spelled = ap (λ (ts : List TokenKind). token.Keyword keyword.Peek ∷ ts)
              (e ∙ ap (λ (ts : List TokenKind). token.Punctuation punctuation.OpenParen ∷ ts)
              at.spelled);
          shape = at.shape;
          ranked = omega arith;
          high = ap (λ (n : ℕ). n + 1) at.high;
          low = omega (arith, at.low);
        }))

    group_soundness : (past : List TokenKind)
        → Sound (ExprRead (suc d) 0 (token.Punctuation punctuation.OpenParen ∷ past)) (suc d)
        (token.Punctuation punctuation.OpenParen ∷ past) (group (suc d) below past)
    unfolding group
    group_soundness past =
        let all : List TokenKind = token.Punctuation punctuation.OpenParen ∷ past in
        enclosed_soundness (ExprRead (suc d) 0 all) punctuation.CloseParen all past
        (λ value height after. Ok (tree.Group value, height, after)) (omega arith)
        (λ x inner. record {
          spelled = ap (λ (ts : List TokenKind). token.Punctuation punctuation.OpenParen ∷ ts)
              inner.spelled;
          shape = inner.shape;
          ranked = omega arith;
          high = ap (λ (n : ℕ). n + 1) inner.high;
          low = omega (arith, inner.low);
        })

    sign_soundness : (m : Punctuation) (o : UnaryOperator) (past : List TokenKind)
        → m ≡ unary_punctuation o
        → Sound (ExprRead (suc d) 0 (token.Punctuation m ∷ past)) (suc d)
        (token.Punctuation m ∷ past) (sign (suc d) below o past)
    unfolding sign
    sign_soundness m o past is =
        let all : List TokenKind = token.Punctuation m ∷ past in
        Sound-then (ExprRead d 0 past) (ExprRead (suc d) 0 all) (suc d) all (below 0 past) _
        (Sound-on (ExprRead d 0 past) (ExprRead d 0 past) d (suc d) past all (below 0 past)
        (omega arith) (omega arith) (sound 0 past) (λ x h. h)) (λ x read.
        Sound-raised (ExprRead (suc d) 0 all) (suc d) all (suc d) x.1 _
        (λ lt. record {
          spelled = ap (λ (k : Punctuation). token.Punctuation k ∷ past) is
              ∙ ap (λ (ts : List TokenKind). token.Punctuation (unary_punctuation o) ∷ ts)
              read.spelled;
          shape = (omega (arith, read.ranked), read.shape);
          ranked = omega arith;
          high = ap (λ (n : ℕ). n + 1) read.high;
          low = omega arith;
        }) (λ le. absurd (omega (arith, read.low))))

    punctuation_operand_soundness : (m : Punctuation) (past : List TokenKind)
        → Sound (ExprRead (suc d) 0 (token.Punctuation m ∷ past)) (suc d)
        (token.Punctuation m ∷ past) (punctuation_operand (suc d) below m
        (token.Punctuation m ∷ past))
    unfolding punctuation_operand
    punctuation_operand_soundness punctuation.OpenParen past = group_soundness past
    punctuation_operand_soundness punctuation.Minus past =
        sign_soundness punctuation.Minus unary.Negate past refl
    punctuation_operand_soundness punctuation.Not past =
        sign_soundness punctuation.Not unary.Not past refl
    punctuation_operand_soundness punctuation.Tilde past =
        sign_soundness punctuation.Tilde unary.Complement past refl
    punctuation_operand_soundness punctuation.PlusPlus past =
        step_first_soundness punctuation.PlusPlus step.IncrementFirst past (λ target rest. refl)
    punctuation_operand_soundness punctuation.MinusMinus past =
        step_first_soundness punctuation.MinusMinus step.DecrementFirst past (λ target rest. refl)
    punctuation_operand_soundness _ past = omega arith

    keyword_operand_soundness : (w : Keyword) (past : List TokenKind)
        → Sound (ExprRead (suc d) 0 (token.Keyword w ∷ past)) (suc d) (token.Keyword w ∷ past)
        (keyword_operand (suc d) below w (token.Keyword w ∷ past))
    unfolding keyword_operand
    keyword_operand_soundness keyword.True past =
        record { spelled = refl; shape = tt; ranked = omega arith; high = refl; low = omega arith }
    keyword_operand_soundness keyword.False past =
        record { spelled = refl; shape = tt; ranked = omega arith; high = refl; low = omega arith }
    keyword_operand_soundness keyword.Pop past = pop_soundness past
    keyword_operand_soundness keyword.Peek past = peek_soundness past
    keyword_operand_soundness _ past = omega arith

    operand_soundness : (tokens : List TokenKind)
        → Sound (ExprRead (suc d) 0 tokens) (suc d) tokens (operand (suc d) below tokens)
    unfolding operand
    operand_soundness [] = omega arith
    operand_soundness (token.Number n ∷ rest) =
        record { spelled = refl; shape = tt; ranked = omega arith; high = refl; low = omega arith }
    operand_soundness (token.StringLiteral t ∷ rest) = omega arith
    operand_soundness (token.Name x ∷ rest) = after_name_soundness x rest
    operand_soundness (token.Punctuation m ∷ rest) = punctuation_operand_soundness m rest
    operand_soundness (token.Keyword w ∷ rest) = keyword_operand_soundness w rest

    -- ---- operators between operands

    -- the operation that a turn of the loop makes
    joined : (r : ℕ) (all tokens : List TokenKind) (left : tree.Expr) (h : ℕ) (o : BinaryOperator)
        (x : tree.Expr × ℕ × List TokenKind) → ExprRead (suc d) (suc r) all (left, h, tokens)
        → tokens ≡ token.Punctuation (binary_punctuation o) ∷ tail tokens → precedence o ≡ suc r
        → ExprRead d r (tail tokens) x → max h x.1 < suc d
        → ExprRead (suc d) (suc r) all (tree.Binary o left x.0, max h x.1 + 1, x.2)
    joined r all tokens left h o x lefts starts at rights lt =
        let in_left : h ≡ expr_height left = lefts.high in
        let in_right : x.1 ≡ expr_height x.0 = rights.high in
        record {
          spelled = lefts.spelled ∙ ap (λ (ts : List TokenKind). expr_spelled left ts)
              (starts ∙ ap (λ (ts : List TokenKind). token.Punctuation (binary_punctuation o) ∷ ts)
              rights.spelled);
          shape = (
            omega (arith, lefts.ranked),
            omega (arith, rights.ranked),
            lefts.shape,
            rights.shape,
          );
          ranked = omega arith;
          high = omega arith;
          low = omega arith;
        }

    abbrev Goes : ℕ → List TokenKind → (tree.Expr → ℕ → List TokenKind → Tall tree.Expr) → Type 0
    Goes r all goes_on = (e : tree.Expr) (h : ℕ) (rest : List TokenKind)
        → ExprRead (suc d) (suc r) all (e, h, rest)
        → Sound (ExprRead (suc d) (suc r) all) (suc d) all (goes_on e h rest)

    chain_by_soundness : (goes_on : tree.Expr → ℕ → List TokenKind → Tall tree.Expr) (r : ℕ)
        (all tokens : List TokenKind) (left : tree.Expr) (h : ℕ) → Goes r all goes_on
        → ExprRead (suc d) (suc r) all (left, h, tokens) → (o : Option BinaryOperator)
        → operator (suc r) tokens ≡ o
        → Sound (ExprRead (suc d) (suc r) all) (suc d) all
        (chain_by (suc d) below (suc r) goes_on left h tokens o)
    chain_by_soundness goes_on r all tokens left h goes lefts None e = lefts
    chain_by_soundness goes_on r all tokens left h goes lefts (Some o) e =
        let is = operator_is (suc r) tokens o e in
        let one : length tokens ≡ suc (length (tail tokens)) =
        ap (λ (ts : List TokenKind). length ts) is.0 in
        let long : h + length tokens ≤ length all = ExprRead-long lefts in
        let some : 1 ≤ h = ExprRead-some lefts in
        let less : suc r - 1 ≡ r = omega arith in
        let read : Sound (ExprRead d r (tail tokens)) (suc d) all (below (suc r - 1) (tail tokens))
        =
        rw less (Sound-on (ExprRead d r (tail tokens)) (ExprRead d r (tail tokens)) d (suc d)
        (tail tokens) all (below r (tail tokens)) (omega arith) (omega arith)
        (sound r (tail tokens)) (λ x h. h)) in
        Sound-then (ExprRead d r (tail tokens)) (ExprRead (suc d) (suc r) all) (suc d) all
        (below (suc r - 1) (tail tokens)) _ read (λ x right.
        let right_long : x.1 + length x.2 ≤ length (tail tokens) = ExprRead-long right in
        Sound-raised (ExprRead (suc d) (suc r) all) (suc d) all (suc d) (max h x.1) _
        (λ lt. goes (tree.Binary o left x.0) (max h x.1 + 1) x.2
        (joined r all tokens left h o x lefts is.0 is.1 right lt))
        (λ le. omega arith))

    chain_soundness : (turns r : ℕ) (all tokens : List TokenKind) (left : tree.Expr) (h : ℕ)
        → ExprRead (suc d) (suc r) all (left, h, tokens)
        → Sound (ExprRead (suc d) (suc r) all) (suc d) all
        (chain (suc d) below (suc r) turns left h tokens)
    unfolding chain
    chain_soundness zero r all tokens left h lefts = lefts
    chain_soundness (suc turns) r all tokens left h lefts =
        chain_by_soundness (chain (suc d) below (suc r) turns) r all tokens left h
        (λ e k rest read. chain_soundness turns r all rest e k read) lefts
        (operator (suc r) tokens) refl

    climb_soundness : (r : ℕ) (tokens : List TokenKind)
        → Sound (ExprRead (suc d) r tokens) (suc d) tokens (climb (suc d) below r tokens)
    unfolding climb
    climb_soundness zero tokens = operand_soundness tokens
    climb_soundness (suc r) tokens =
        Sound-then (ExprRead (suc d) r tokens) (ExprRead (suc d) (suc r) tokens) (suc d) tokens
        (climb (suc d) below r tokens) _ (climb_soundness r tokens) (λ x read.
        chain_soundness (length x.2) r tokens x.2 x.0 x.1
        (record {
          spelled = read.spelled;
          shape = read.shape;
          ranked =
              omega (arith, read.ranked);
          high = read.high;
          low = read.low;
        }))

    -- ---- the choice between two

    choice_soundness : (all tokens : List TokenKind) (c : tree.Expr) (h : ℕ)
        → all ≡ expr_spelled c (token.Punctuation punctuation.Question ∷ tokens) → IsExpr c
        → rank c < lowest_precedence → h ≡ expr_height c → h ≤ suc d
        → Sound (ExprRead (suc d) lowest_precedence all) (suc d) all
        (choice (suc d) below c h tokens)
    unfolding choice
    choice_soundness all tokens c h spelled shape ranked high low =
        let Q : tree.Expr × ℕ × List TokenKind → Type 0 = ExprRead (suc d) lowest_precedence all in
        let long : h + length tokens + 1 ≤ length all =
        omega (
          arith,
          high,
          ap count spelled,
          expr_length c (token.Punctuation punctuation.Question ∷ tokens),
        ) in
        Sound-then (ClosedRead d punctuation.Colon tokens) Q (suc d) all
        (closed below punctuation.Colon tokens) _
        (Sound-on (ClosedRead d punctuation.Colon tokens) (ClosedRead d punctuation.Colon tokens) d
        (suc d) tokens all (closed below punctuation.Colon tokens) (omega arith) (omega arith)
        (closed_soundness d below sound punctuation.Colon tokens) (λ x k. k)) (λ x chosen.
        let nearer : x.1 + length x.2 + 1 ≤ length tokens = ClosedRead-long chosen in
        Sound-then (ExprRead d lowest_precedence x.2) Q (suc d) all (below lowest_precedence x.2) _
        (Sound-on (ExprRead d lowest_precedence x.2) (ExprRead d lowest_precedence x.2) d
        (suc d) x.2 all (below lowest_precedence x.2) (omega arith) (omega arith)
        (sound lowest_precedence x.2) (λ y k. k)) (λ y other.
        Sound-raised Q (suc d) all (suc d) (max h (max x.1 y.1)) _
        (λ lt. record {
          spelled = spelled ∙ ap (λ (ts : List TokenKind). expr_spelled c
              (token.Punctuation punctuation.Question ∷ ts))
              (chosen.spelled ∙ ap (λ (ts : List TokenKind). expr_spelled x.0
              (token.Punctuation punctuation.Colon ∷ ts)) other.spelled);
          shape = (ranked, shape, chosen.shape, other.shape);
          ranked = omega arith;
          high = omega (arith, high, chosen.high, other.high);
          low = omega arith;
        }) (λ le. omega (arith, chosen.low, other.low))))

    conditional_soundness : (tokens : List TokenKind)
        → Sound (ExprRead (suc d) lowest_precedence tokens) (suc d) tokens
        (conditional (suc d) below tokens)
    unfolding conditional
    conditional_soundness tokens =
        Sound-then (ExprRead (suc d) lowest_binary_precedence tokens)
        (ExprRead (suc d) lowest_precedence tokens) (suc d) tokens
        (climb (suc d) below lowest_binary_precedence tokens) _
        (climb_soundness lowest_binary_precedence tokens) (λ x read.
        elim (cases_Bool (is_punctuation punctuation.Question x.2)) [
          | inl is ↦
              let spelled = read.spelled ∙ ap (λ (ts : List TokenKind). expr_spelled x.0 ts)
              (punctuation_is punctuation.Question x.2 is) in
              let chosen = choice_soundness tokens (tail x.2) x.0 x.1 spelled read.shape
              (omega (arith, read.ranked)) read.high read.low in
              rw is chosen
          | inr is ↦
              let alone : ExprRead (suc d) lowest_precedence tokens (x.0, x.1, x.2) =
              record {
                spelled = read.spelled;
                shape = read.shape;
                ranked =
                    omega (arith, read.ranked);
                high = read.high;
                low = read.low;
              } in
              rw is alone
        ])

    ranked_soundness : (r : ℕ) (tokens : List TokenKind)
        → Sound (ExprRead (suc d) r tokens) (suc d) tokens (ranked (suc d) below r tokens)
    unfolding ranked
    ranked_soundness r tokens =
        elim (cases_Bool (eqb r lowest_precedence)) [
          | inl is ↦
              let whole = subst (λ (n : ℕ). Sound (ExprRead (suc d) n tokens) (suc d) tokens
              (conditional (suc d) below tokens)) (sym (eqb-true r lowest_precedence is))
              (conditional_soundness tokens) in
              rw is whole
          | inr is ↦ rw is (climb_soundness r tokens)
        ]

-- what is read at a depth and a rank
pub expression_soundness : (depth r : ℕ) (tokens : List TokenKind)
    → Sound (ExprRead depth r tokens) depth tokens (expression depth r tokens)
unfolding expression
expression_soundness zero r tokens = omega arith
expression_soundness (suc d) r tokens = ranked_soundness d (expression d)
    (λ k rest. expression_soundness d k rest) r tokens
