-- An expression's spelling is read again, whatever stops it.
use Rattle.std.proofs.Common.{◌≡◌, ℕ, zero, suc, ◌+◌, ◌-◌, ◌<◌, ◌≤◌, max, Bool, true, false, eqb}
use Rattle.std.proofs.Common.{List, [], ◌∷◌, length, Option, Some, None, Result, Ok, Err, refl, ap}
use Rattle.std.proofs.Common.{subst, ◌∙◌, arith, inl, inr}
use Rattle.std.proofs.lemmas.Bool.{cases_lt, ne_eqb}
use Rattle.strc_lex.specs.declared.token.TokenKind.{TokenKind}
use Rattle.strc_lex.specs.declared.token.TokenKind.TheVariants as token
use Rattle.strc_lex.specs.declared.token.Punctuation.{Punctuation}
use Rattle.strc_lex.specs.declared.token.Punctuation.TheVariants as punctuation
use Rattle.strc_parse_tree.specs.declared.tree.UnaryOperator.{UnaryOperator}
use Rattle.strc_parse_tree.specs.declared.tree.UnaryOperator.TheVariants as unary
use Rattle.strc_parse_tree.specs.declared.tree.StepOperator.{StepOperator}
use Rattle.strc_parse_tree.specs.declared.tree.StepOperator.TheVariants as step
use Rattle.strc_parse_tree.specs.declared.tree.BinaryOperator.{BinaryOperator}
use Rattle.strc_parse_grammar.specs.declared.error.Fault.{Fault}
use Rattle.strc_parse_grammar.specs.declared.error.Fault.TheVariants.{Nesting}
use Rattle.strc_parse_tree.specs.Tree as tree
use Rattle.strc_parse_grammar.specs.Grammar.{binary_punctuation, step_spelled, expr_spelled}
use Rattle.strc_parse_grammar.specs.Grammar.{precedence}
use Rattle.strc_parse_grammar.specs.Grammar.{lowest_precedence, rank, IsExpr, expr_height, AreGiven}
use Rattle.strc_parse_grammar.specs.Grammar.{listed_spelled, highest}
use Rattle.strc_parse_tree.specs.Tree.{read_of, step_of_place, arguments_of}
use Rattle.strc_parse_grammar.specs.Reading.{◌>>=◌, raised, Below, tail, punctuation_at}
use Rattle.strc_parse_grammar.specs.Reading.{is_punctuation}
use Rattle.strc_parse_grammar.specs.Reading.{of_rank, operator, step_after, closed, index}
use Rattle.strc_parse_grammar.specs.Reading.{after_place}
use Rattle.strc_parse_grammar.specs.Reading.{after_name, name, step_first, pop_brackets}
use Rattle.strc_parse_grammar.specs.Reading.{peek_brackets}
use Rattle.strc_parse_grammar.specs.Reading.{group, sign, punctuation_operand, keyword_operand}
use Rattle.strc_parse_grammar.specs.Reading.{operand}
use Rattle.strc_parse_grammar.specs.Reading.{chain, climb, choice, lowest_binary_precedence}
use Rattle.strc_parse_grammar.specs.Reading.{conditional}
use Rattle.strc_parse_grammar.specs.Reading.{ranked, expression, after_variable, call}
use Rattle.strc_parse_grammar.specs.Reading.{closed_arguments}
use Rattle.strc_parse_grammar.proofs.Completeness.{Complete, Complete-then, Complete-inside}
use Rattle.strc_parse_grammar.proofs.Completeness.{Complete-leaf, Complete-raised}
use Rattle.strc_parse_grammar.proofs.Completeness.{expect_punctuation}
use Rattle.strc_parse_grammar.proofs.Completeness.{raised_low, raised_high}
use Rattle.strc_parse_grammar.proofs.Stops.{Stops, Stops-le, Stops-bracket, Stops-square}
use Rattle.strc_parse_grammar.proofs.Stops.{Stops-colon}
use Rattle.strc_parse_grammar.proofs.Stops.{Stops-question, Stops-operator, precedence_some}
use Rattle.strc_parse_grammar.proofs.Stops.{operator_punctuation, of_rank_same, height_some}
use Rattle.strc_parse_grammar.proofs.Stops.{expr_length}
use Rattle.strc_parse_grammar.proofs.ListedCompleteness.{found, IsReadCompleteness}
use Rattle.strc_parse_grammar.proofs.ListedCompleteness.{closed_arguments_completeness}
use Rattle.strc_parse_grammar.proofs.Given.{list_of, given_listed, given_highest, arguments_list}
use Rattle.std.specs.List.{AllByRecursion}

chain_stops : (depth : ℕ) (below : Below) (r turns : ℕ) (e : tree.Expr) (h : ℕ)
    (rest : List TokenKind) → operator r rest ≡ None → chain depth below r turns e h rest ≡ Ok
    (e, h, rest)
unfolding chain
chain_stops depth below r zero e h rest none = refl
chain_stops depth below r (suc turns) e h rest none = rw none refl

-- what is read at a rank is read at each lower one, where it stops
climb_on : (depth : ℕ) (below : Below) (j k : ℕ) (tokens : List TokenKind) (e : tree.Expr)
    (rest : List TokenKind) → j ≤ k → Stops k rest
    → Complete depth (expr_height e) (found e rest) (climb depth below j tokens) → Complete depth
    (expr_height e) (found e rest) (climb depth below k tokens)
unfolding climb
climb_on depth below j zero tokens e rest le stops complete =
    let same : j ≡ 0 = omega arith in subst
    (λ (n : ℕ). Complete depth (expr_height e) (found e rest) (climb depth below n tokens))
    same complete
climb_on depth below j (suc k) tokens e rest le stops complete =
    elim (cases_lt j (suc k)) [
      | inl lt ↦ Complete-then depth (expr_height e) (expr_height e) (found e rest) (found e rest)
          (climb depth below k tokens) _
          (climb_on depth below j k tokens e rest (omega arith) (Stops-le k (omega arith) stops)
          complete) (omega arith)
          (λ low. record {
            fits = λ h. chain_stops depth below (suc k) (length rest) e
                (expr_height e) rest (stops.no_operator (suc k) (omega arith));
            over = λ h. absurd
                (omega arith);
          })
      | inr ge ↦ let same : j ≡ suc k = omega arith in subst
          (λ (n : ℕ). Complete depth (expr_height e) (found e rest) (climb depth below n tokens))
          same complete
    ]

-- read by the climb to a rank
abbrev IsClimbed : tree.Expr → Type 0
IsClimbed e = (d k : ℕ) (rest : List TokenKind) → rank e ≤ k → k < lowest_precedence → Stops k rest
    → Complete (suc d) (expr_height e) (found e rest)
    (climb (suc d) (expression d) k (expr_spelled e rest))

-- read from its leftmost operand on, up to where the loop of its rank is after it
record Spine (d k : ℕ) (e : tree.Expr) (rest : List TokenKind) : Type 0 where
  turns : ℕ
  enough : length rest ≤ turns
  fits : expr_height e ≤ suc d → climb (suc d) (expression d) (suc k) (expr_spelled e rest) ≡ chain
      (suc d) (expression d) (suc k) turns e (expr_height e) rest
  over : suc d < expr_height e → climb (suc d) (expression d) (suc k) (expr_spelled e rest) ≡ Err
      Nesting

record Facts (e : tree.Expr) : Type 0 where
  climbed : IsClimbed e
  spine : (d k : ℕ) (rest : List TokenKind) → rank e ≤ suc k → suc k < lowest_precedence → Stops k
      rest → Spine d k e rest

-- an expression of a tighter rank is the leftmost operand itself
leaf_spine : (e : tree.Expr) → IsClimbed e → (d k : ℕ) (rest : List TokenKind) → rank e ≤ k → k <
    lowest_precedence → Stops k rest → Spine d k e rest
unfolding climb
leaf_spine e climbed d k rest le lt stops =
    let complete = climbed d k rest le lt stops in
    record {
      turns = length rest;
      enough = omega arith;
      fits = λ h. rw (complete.fits h) refl;
      over
          = λ h. rw (complete.over h) refl;
    }

-- the facts of an expression with no operator between operands
operand_facts : (e : tree.Expr) → rank e ≡ 0
    → ((d : ℕ) (rest : List TokenKind) → Stops 0 rest → Complete (suc d) (expr_height e)
    (found e rest) (operand (suc d) (expression d) (expr_spelled e rest))) → Facts e
unfolding climb
operand_facts e is_zero complete =
    let climbed : IsClimbed e = λ d k rest le lt stops. climb_on (suc d) (expression d) 0 k
    (expr_spelled e rest) e rest (omega arith) stops
    (complete d rest (Stops-le 0 (omega arith) stops)) in
    record {
      climbed = climbed;
      spine = λ d k rest le lt stops. leaf_spine e climbed d k rest
          (omega arith) (omega arith) stops;
    }

no_depth : {X : Type 0} (e : tree.Expr) (x : X) → Complete 0 (expr_height e) x (Err Nesting)
no_depth e x = record { fits = λ h. absurd (omega (arith, height_some e)); over = λ h. refl }

climbs_completeness : (e : tree.Expr) → Facts e → (depth r : ℕ) (rest : List TokenKind) → rank e ≤
    r → r < lowest_precedence → Stops r rest
    → Complete depth (expr_height e) (found e rest) (expression depth r (expr_spelled e rest))
unfolding expression ranked
climbs_completeness e facts zero r rest le lt stops = no_depth e (found e rest)
climbs_completeness e facts (suc d) r rest le lt stops =
    let ne : eqb r lowest_precedence ≡ false = ne_eqb r lowest_precedence
    (λ same. absurd (omega arith)) in rw ne (facts.climbed d r rest le lt stops)

whole_completeness : (e : tree.Expr) → rank e < lowest_precedence → Facts e → (depth : ℕ)
    (rest : List TokenKind) → Stops lowest_precedence rest
    → Complete depth (expr_height e) (found e rest)
    (expression depth lowest_precedence (expr_spelled e rest))
unfolding expression ranked conditional
whole_completeness e low facts zero rest stops = no_depth e (found e rest)
whole_completeness e low facts (suc d) rest stops =
    Complete-then (suc d) (expr_height e) (expr_height e) (found e rest) (found e rest)
    (climb (suc d) (expression d) lowest_binary_precedence (expr_spelled e rest)) _
    (facts.climbed d lowest_binary_precedence rest (omega arith) (omega arith)
    (Stops-le lowest_binary_precedence (omega arith) stops)) (omega arith)
    (λ fits. rw (stops.no_choice (omega arith))
    (record { fits = λ h. refl; over = λ h. absurd (omega arith) }))

read_completeness : (e : tree.Expr) → rank e < lowest_precedence → Facts e → IsReadCompleteness e
read_completeness e low facts = record
    { climbs = climbs_completeness e facts; whole = whole_completeness e low facts }

-- the facts of a binary operation, by those of its sides
module _ (o : BinaryOperator) (left right : tree.Expr) (left_low : rank left ≤ precedence o)
    (right_low : rank right < precedence o) (lefts : Facts left)
    (rights : IsReadCompleteness right) where
  abbrev both : tree.Expr
  both = tree.Binary o left right

  -- the turn of the loop that reads the operator and the right side
  turn_fits : (d k turns : ℕ) (rest : List TokenKind) → precedence o ≡ suc k → expr_height both ≤
      suc d → Stops k rest
      → chain (suc d) (expression d) (suc k) (suc turns) left (expr_height left)
      (token.Punctuation (binary_punctuation o) ∷ expr_spelled right rest)
      ≡ chain (suc d) (expression d) (suc k) turns both (expr_height both) rest
  unfolding chain
  turn_fits d k turns rest at low stops =
      let ahead : operator (suc k)
      (token.Punctuation (binary_punctuation o) ∷ expr_spelled right rest) ≡ Some o =
      operator_punctuation (suc k) o (expr_spelled right rest) ∙ subst
      (λ (n : ℕ). of_rank n (Some o) ≡ Some o) at (of_rank_same o) in
      let less : suc k - 1 ≡ k = omega arith in
      let read = (rights.climbs d k rest (omega arith) (omega (arith, precedence_some o))
      stops).fits (omega arith) in
      let up = raised_low (suc d) (max (expr_height left) (expr_height right)) (omega arith) in
      rw (ahead, less, read, up) refl

  turn_over : (d k turns : ℕ) (rest : List TokenKind) → precedence o ≡ suc k → expr_height left ≤
      suc d → suc d < expr_height both → Stops k rest
      → chain (suc d) (expression d) (suc k) (suc turns) left (expr_height left)
      (token.Punctuation (binary_punctuation o) ∷ expr_spelled right rest) ≡ Err Nesting
  unfolding chain
  turn_over d k turns rest at low high stops =
      let ahead : operator (suc k)
      (token.Punctuation (binary_punctuation o) ∷ expr_spelled right rest) ≡ Some o =
      operator_punctuation (suc k) o (expr_spelled right rest) ∙ subst
      (λ (n : ℕ). of_rank n (Some o) ≡ Some o) at (of_rank_same o) in
      let less : suc k - 1 ≡ k = omega arith in
      let complete = rights.climbs d k rest (omega arith) (omega (arith, precedence_some o)) stops
      in
      elim (cases_lt d (expr_height right)) [
        | inl deep ↦ let read = complete.over deep in rw (ahead, less, read) refl
        | inr shallow ↦
            let read = complete.fits shallow in
            let up = raised_high (suc d) (max (expr_height left) (expr_height right)) (omega arith)
            in
            rw (ahead, less, read, up) refl
      ]

  own_spine : (d k : ℕ) (rest : List TokenKind) → precedence o ≡ suc k → Stops k rest → Spine d k
      both rest
  own_spine d k rest at stops =
      let past : List TokenKind = token.Punctuation (binary_punctuation o) ∷ expr_spelled right
      rest in
      let s = lefts.spine d k past (omega arith) (omega (arith, precedence_some o))
      (Stops-operator k o (expr_spelled right rest) (omega arith)) in
      let long : length rest + 1 ≤ length (expr_spelled right rest) = omega
      (arith, expr_length right rest, height_some right) in
      let enough : 1 + length (expr_spelled right rest) ≤ s.turns = omega (arith, s.enough) in
      let one : s.turns ≡ suc (s.turns - 1) = omega arith in
      record {
        turns = s.turns - 1;
        enough = omega arith;
        fits = λ h. s.fits (omega arith) ∙ ap
            (λ (n : ℕ). chain (suc d) (expression d) (suc k) n left (expr_height left) past) one ∙
            turn_fits d k (s.turns - 1) rest at h stops;
        over = λ h. elim (cases_lt (suc d) (expr_height left)) [
          | inl deep ↦ s.over deep
          | inr low ↦ s.fits low ∙ ap
              (λ (n : ℕ). chain (suc d) (expression d) (suc k) n left (expr_height left) past) one
              ∙ turn_over d k (s.turns - 1) rest at low h stops
        ];
      }

  own_climb : (d k : ℕ) (rest : List TokenKind) → precedence o ≡ suc k → Stops (suc k) rest
      → Complete (suc d) (expr_height both) (found both rest)
      (climb (suc d) (expression d) (suc k) (expr_spelled both rest))
  own_climb d k rest at stops =
      let s = own_spine d k rest at (Stops-le k (omega arith) stops) in record {
        fits = λ h. s.fits h ∙ chain_stops (suc d) (expression d) (suc k) s.turns both
            (expr_height both) rest (stops.no_operator (suc k) (omega arith));
        over = λ h. s.over h;
      }

  binary_facts : Facts both
  binary_facts =
      let own : precedence o ≡ suc (precedence o - 1) = omega (arith, precedence_some o) in
      let climbed : IsClimbed both = λ d k rest le lt stops. climb_on (suc d) (expression d)
      (suc (precedence o - 1)) k (expr_spelled both rest) both rest (omega arith) stops
      (own_climb d (precedence o - 1) rest own
      (Stops-le (suc (precedence o - 1)) (omega arith) stops)) in
      record {
        climbed = climbed;
        spine = λ d k rest le bound stops. elim (cases_lt k (precedence o)) [
          | inl lt ↦ own_spine d k rest (omega arith) stops
          | inr ge ↦ leaf_spine both climbed d k rest ge (omega arith) stops
        ];
      }

-- ---- the operands

-- an index with its brackets, or nothing
abbrev pub index_spelled : Option tree.Expr → List TokenKind → List TokenKind
index_spelled None rest = rest
index_spelled (Some at) rest = token.Punctuation punctuation.OpenBracket ∷ expr_spelled at
    (token.Punctuation punctuation.CloseBracket ∷ rest)

-- the height of a variable or of an element
abbrev pub place_height : Option tree.Expr → ℕ
place_height None = 1
place_height (Some at) = expr_height at + 1

abbrev IsIndexCompleteness : Option tree.Expr → Type 0
IsIndexCompleteness None = Unit {0}
IsIndexCompleteness (Some at) = IsReadCompleteness at

closed_by : (e : tree.Expr) → IsReadCompleteness e → (d : ℕ) (m : Punctuation)
    (rest : List TokenKind) → Stops lowest_precedence (token.Punctuation m ∷ rest)
    → Complete d (expr_height e) (found e rest)
    (closed (expression d) m (expr_spelled e (token.Punctuation m ∷ rest)))
unfolding closed
closed_by e complete d m rest stops =
    Complete-then d (expr_height e) (expr_height e) (found e (token.Punctuation m ∷ rest))
    (found e rest) _ _ (complete.whole d (token.Punctuation m ∷ rest) stops) (omega arith)
    (λ low. rw (expect_punctuation m rest)
    (record { fits = λ h. refl; over = λ h. absurd (omega arith) }))

module _ (d : ℕ) (rest : List TokenKind) where
  -- a node above an expression in brackets
  enclosed_completeness : (e : tree.Expr) → IsReadCompleteness e → (m : Punctuation) → Stops
      lowest_precedence (token.Punctuation m ∷ rest) → {Y : Type 0} (y : Y)
      (make : tree.Expr → ℕ → List TokenKind → Result Y Fault)
      → make e (expr_height e + 1) rest ≡ Ok y
      → Complete (suc d) (expr_height e + 1) y
      (closed (expression d) m (expr_spelled e (token.Punctuation m ∷ rest)) >>= λ value.
      raised (suc d) value.1 >>= λ height. make value.0 height value.2)
  enclosed_completeness e complete m stops y make is =
      Complete-inside d (expr_height e) (expr_height e + 1) (found e rest) y _ _
      (closed_by e complete d m rest stops) (omega arith)
      (λ low. Complete-raised (suc d) (expr_height e) y _ is)

  index_completeness : (at : Option tree.Expr) → IsIndexCompleteness at → is_punctuation
      punctuation.OpenBracket rest ≡ false
      → Complete (suc d) (place_height at) (at, place_height at, rest)
      (index (suc d) (expression d) (index_spelled at rest))
  unfolding index is_punctuation
  index_completeness None complete none = rw none (Complete-leaf d _ _ refl)
  index_completeness (Some at) complete none =
      enclosed_completeness at complete punctuation.CloseBracket
      (Stops-square lowest_precedence rest) (Some at, expr_height at + 1, rest)
      (λ value height after. Ok (Some value, height, after)) refl

  group_completeness : (inner : tree.Expr) → IsReadCompleteness inner
      → Complete (suc d) (expr_height (tree.Group inner)) (found (tree.Group inner) rest)
      (group (suc d) (expression d)
      (expr_spelled inner (token.Punctuation punctuation.CloseParen ∷ rest)))
  unfolding group
  group_completeness inner complete =
      enclosed_completeness inner complete punctuation.CloseParen
      (Stops-bracket lowest_precedence rest) (found (tree.Group inner) rest)
      (λ value height after. Ok (tree.Group value, height, after)) refl

  peek_completeness : (at : tree.Expr) → IsReadCompleteness at
      → Complete (suc d) (expr_height (tree.Peek at)) (found (tree.Peek at) rest)
      (peek_brackets (suc d) (expression d)
      (token.Punctuation punctuation.OpenParen ∷ expr_spelled at
      (token.Punctuation punctuation.CloseParen ∷ rest)))
  unfolding peek_brackets
  peek_completeness at complete =
      rw (expect_punctuation punctuation.OpenParen
      (expr_spelled at (token.Punctuation punctuation.CloseParen ∷ rest)))
      (enclosed_completeness at complete punctuation.CloseParen
      (Stops-bracket lowest_precedence rest) (found (tree.Peek at) rest)
      (λ value height after. Ok (tree.Peek value, height, after)) refl)

  sign_completeness : (o : UnaryOperator) (inner : tree.Expr) → IsReadCompleteness inner → rank
      inner ≡ 0 → Stops 0 rest
      → Complete (suc d) (expr_height (tree.Unary o inner)) (found (tree.Unary o inner) rest)
      (sign (suc d) (expression d) o (expr_spelled inner rest))
  unfolding sign
  sign_completeness o inner complete at stops =
      Complete-inside d (expr_height inner) (expr_height inner + 1) (found inner rest)
      (found (tree.Unary o inner) rest) _ _
      (complete.climbs d 0 rest (omega arith) (omega arith) stops) (omega arith)
      (λ low. Complete-raised (suc d) (expr_height inner) (found (tree.Unary o inner) rest) _ refl)

  pop_completeness : pop_brackets
      (token.Punctuation punctuation.OpenParen ∷ token.Punctuation punctuation.CloseParen ∷ rest) ≡
      Ok (found tree.Pop rest)
  unfolding pop_brackets
  pop_completeness = rw (
    expect_punctuation punctuation.OpenParen (token.Punctuation punctuation.CloseParen ∷ rest),
    expect_punctuation punctuation.CloseParen rest,
  ) refl

-- what follows a variable or an element is no call's bracket
no_call_index : (at : Option tree.Expr) (rest : List TokenKind) → is_punctuation
    punctuation.OpenParen rest ≡ false → is_punctuation punctuation.OpenParen
    (index_spelled at rest) ≡ false
unfolding is_punctuation
no_call_index None rest none = none
no_call_index (Some at) rest none = refl

module _ (d : ℕ) (named : List ℕ) (at : Option tree.Expr) (complete : IsIndexCompleteness at)
    (rest : List TokenKind) where
  name_completeness : Stops 0 rest → Complete (suc d) (place_height at)
      (read_of named at, place_height at, rest)
      (after_name (suc d) (expression d) named (index_spelled at rest))
  unfolding after_name after_variable after_place
  name_completeness stops =
      rw (no_call_index at rest stops.no_call)
      (Complete-then (suc d) (place_height at) (place_height at) (at, place_height at, rest)
      (read_of named at, place_height at, rest) _ _
      (index_completeness d rest at complete stops.no_index) (omega arith)
      (λ low. rw stops.no_step (record { fits = λ h. refl; over = λ h. absurd (omega arith) })))

  step_after_completeness : (o : StepOperator) (past : List TokenKind) → is_punctuation
      punctuation.OpenBracket past ≡ false → is_punctuation punctuation.OpenParen past ≡ false
      → step_after past ≡ Some o → tail past ≡ rest
      → Complete (suc d) (place_height at + 1)
      (step_of_place o named at, place_height at + 1, rest)
      (after_name (suc d) (expression d) named (index_spelled at past))
  unfolding after_name after_variable after_place
  step_after_completeness o past no_index no_call starts is_rest =
      rw (no_call_index at past no_call)
      (Complete-then (suc d) (place_height at) (place_height at + 1) (at, place_height at, past)
      (step_of_place o named at, place_height at + 1, rest) _ _
      (index_completeness d past at complete no_index) (omega arith)
      (λ low. rw (starts, is_rest)
      (Complete-raised (suc d) (place_height at)
      (step_of_place o named at, place_height at + 1, rest) _ refl)))

  step_first_completeness : (o : StepOperator) → Stops 0 rest
      → Complete (suc d) (place_height at + 1)
      (step_of_place o named at, place_height at + 1, rest)
      (step_first (suc d) (expression d) o (token.Name named ∷ index_spelled at rest))
  unfolding step_first name
  step_first_completeness o stops =
      Complete-then (suc d) (place_height at) (place_height at + 1) (at, place_height at, rest)
      (step_of_place o named at, place_height at + 1, rest) _ _
      (index_completeness d rest at complete stops.no_index) (omega arith)
      (λ low. Complete-raised (suc d) (place_height at)
      (step_of_place o named at, place_height at + 1, rest) _ refl)

  step_completeness : (o : StepOperator) → Stops 0 rest
      → Complete (suc d) (place_height at + 1) (step_of_place o named at, place_height at + 1, rest)
      (operand (suc d) (expression d)
      (step_spelled o (λ after. token.Name named ∷ index_spelled at after) rest))
  unfolding operand punctuation_operand step_after punctuation_at is_punctuation
  step_completeness step.IncrementFirst stops = step_first_completeness step.IncrementFirst stops
  step_completeness step.DecrementFirst stops = step_first_completeness step.DecrementFirst stops
  step_completeness step.IncrementAfter stops = step_after_completeness step.IncrementAfter
      (token.Punctuation punctuation.PlusPlus ∷ rest) refl refl refl refl
  step_completeness step.DecrementAfter stops = step_after_completeness step.DecrementAfter
      (token.Punctuation punctuation.MinusMinus ∷ rest) refl refl refl refl

-- the height of a step is two more than the index's
element_step : (d : ℕ) (named : List ℕ) (at : tree.Expr) → IsReadCompleteness at →
    (rest : List TokenKind) (o : StepOperator) → Stops 0 rest
    → Complete (suc d) (expr_height (tree.StepElement o named at))
    (found (tree.StepElement o named at) rest)
    (operand (suc d) (expression d) (expr_spelled (tree.StepElement o named at) rest))
element_step d named at complete rest o stops =
    let two : expr_height at + 1 + 1 ≡ expr_height at + 2 = omega arith in
    let read = step_completeness d named (Some at) complete rest o stops in
    rw two at read

module _ (d : ℕ) (rest : List TokenKind) where
  unary_completeness : (o : UnaryOperator) (inner : tree.Expr) → IsReadCompleteness inner → rank
      inner ≡ 0 → Stops 0 rest
      → Complete (suc d) (expr_height (tree.Unary o inner)) (found (tree.Unary o inner) rest)
      (operand (suc d) (expression d) (expr_spelled (tree.Unary o inner) rest))
  unfolding operand punctuation_operand
  unary_completeness unary.Negate inner complete at stops = sign_completeness d rest unary.Negate
      inner complete at stops
  unary_completeness unary.Not inner complete at stops = sign_completeness d rest unary.Not inner
      complete at stops
  unary_completeness unary.Complement inner complete at stops = sign_completeness d rest
      unary.Complement inner complete at stops

  truth_completeness : (value : Bool) → operand (suc d) (expression d)
      (expr_spelled (tree.Truth value) rest) ≡ Ok (found (tree.Truth value) rest)
  unfolding operand keyword_operand
  truth_completeness true = refl
  truth_completeness false = refl

-- a call, by its list of arguments
module _ (d : ℕ) (rest : List TokenKind) (named : List ℕ) where
  abbrev CallCompleteness : tree.Arguments → Type 0
  CallCompleteness given = Complete (suc d) (expr_height (tree.Call named given))
      (found (tree.Call named given) rest)
      (operand (suc d) (expression d) (expr_spelled (tree.Call named given) rest))

  listed_call : (es : List tree.Expr) → AllByRecursion IsReadCompleteness es
      → CallCompleteness (arguments_of es)
  unfolding operand after_name call is_punctuation
  listed_call es complete =
      let high : ℕ = highest expr_height es in
      let whole : tree.Expr = tree.Call named (arguments_of es) in
      let read = Complete-inside d high (high + 1) (es, high, rest) (whole, high + 1, rest)
      (closed_arguments (expression d)
      (listed_spelled es (token.Punctuation punctuation.CloseParen ∷ rest))) _
      (closed_arguments_completeness d es complete rest) (omega arith)
      (λ low. Complete-raised (suc d) high (whole, high + 1, rest)
      (λ height. Ok (whole, height, rest)) refl) in
      rw (given_listed es (token.Punctuation punctuation.CloseParen ∷ rest), given_highest es) read

  call_completeness : (given : tree.Arguments)
      → AllByRecursion IsReadCompleteness (list_of given) → CallCompleteness given
  call_completeness given complete =
      subst CallCompleteness (arguments_list given) (listed_call (list_of given) complete)

-- ---- the choice between two

module _ (condition chosen other : tree.Expr) where
  abbrev choose : tree.Expr
  choose = tree.Conditional condition chosen other

  choice_completeness : IsReadCompleteness chosen → IsReadCompleteness other → (d : ℕ)
      (rest : List TokenKind) → Stops lowest_precedence rest
      → Complete (suc d) (expr_height choose) (found choose rest)
      (choice (suc d) (expression d) condition (expr_height condition)
      (expr_spelled chosen (token.Punctuation punctuation.Colon ∷ expr_spelled other rest)))
  unfolding choice
  choice_completeness chosens others d rest stops =
      Complete-inside d (expr_height chosen) (expr_height choose)
      (found chosen (expr_spelled other rest)) (found choose rest) _ _
      (closed_by chosen chosens d punctuation.Colon (expr_spelled other rest)
      (Stops-colon lowest_precedence (expr_spelled other rest))) (omega arith) (λ low.
      Complete-inside d (expr_height other) (expr_height choose) (found other rest)
      (found choose rest) _ _ (others.whole d rest stops) (omega arith) (λ both.
      Complete-raised (suc d)
      (max (expr_height condition) (max (expr_height chosen) (expr_height other)))
      (found choose rest) _ refl))

  choose_whole : rank condition < lowest_precedence → Facts condition → IsReadCompleteness chosen →
      IsReadCompleteness other → (depth : ℕ) (rest : List TokenKind) → Stops lowest_precedence rest
      → Complete depth (expr_height choose) (found choose rest)
      (expression depth lowest_precedence (expr_spelled choose rest))
  unfolding expression ranked conditional is_punctuation
  choose_whole low facts chosens others zero rest stops = no_depth choose (found choose rest)
  choose_whole low facts chosens others (suc d) rest stops =
      let past = expr_spelled chosen
      (token.Punctuation punctuation.Colon ∷ expr_spelled other rest) in
      Complete-then (suc d) (expr_height condition) (expr_height choose)
      (found condition (token.Punctuation punctuation.Question ∷ past)) (found choose rest) _ _
      (facts.climbed d lowest_binary_precedence (token.Punctuation punctuation.Question ∷ past)
      (omega arith) (omega arith) (Stops-question past)) (omega arith)
      (λ fits. choice_completeness chosens others d rest stops)

  choose_facts : Facts choose
  choose_facts = record {
    climbed = λ d k rest le lt stops. absurd (omega arith);
    spine = λ d k rest le lt stops.
        absurd (omega arith);
  }

-- ---- every expression

record Known (e : tree.Expr) : Type 0 where
  facts : Facts e
  reads : IsReadCompleteness e

known_facts : (e : tree.Expr) → rank e < lowest_precedence → Facts e → Known e
known_facts e low facts = record { facts = facts; reads = read_completeness e low facts }

known_operand : (e : tree.Expr) → rank e ≡ 0
    → ((d : ℕ) (rest : List TokenKind) → Stops 0 rest → Complete (suc d) (expr_height e)
    (found e rest) (operand (suc d) (expression d) (expr_spelled e rest))) → Known e
known_operand e is_zero complete = known_facts e (omega arith) (operand_facts e is_zero complete)

mutual
  unfolding operand keyword_operand punctuation_operand

  known : (e : tree.Expr) → IsExpr e → Known e
  known (tree.Number value) shape = known_operand (tree.Number value) refl
      (λ d rest stops. Complete-leaf d _ _ refl)
  known (tree.Truth value) shape = known_operand (tree.Truth value) refl
      (λ d rest stops. Complete-leaf d _ _ (truth_completeness d rest value))
  known (tree.Read named) shape = known_operand (tree.Read named) refl
      (λ d rest stops. name_completeness d named None tt rest stops)
  known (tree.Element named at) shape =
      let inside = (known at shape).reads in known_operand (tree.Element named at) refl
      (λ d rest stops. name_completeness d named (Some at) inside rest stops)
  known tree.Pop shape = known_operand tree.Pop refl
      (λ d rest stops. Complete-leaf d _ _ (pop_completeness d rest))
  known (tree.Peek at) shape = let inside = (known at shape).reads in known_operand (tree.Peek at)
      refl (λ d rest stops. peek_completeness d rest at inside)
  known (tree.Call named given) shape =
      let inside = known_given given shape in known_operand (tree.Call named given) refl
      (λ d rest stops. call_completeness d rest named given inside)
  known (tree.Group inner) shape = let inside = (known inner shape).reads in known_operand
      (tree.Group inner) refl (λ d rest stops. group_completeness d rest inner inside)
  known (tree.Unary o inner) shape =
      let inside = (known inner shape.1).reads in known_operand (tree.Unary o inner) refl
      (λ d rest stops. unary_completeness d rest o inner inside shape.0 stops)
  known (tree.Step o named) shape = known_operand (tree.Step o named) refl
      (λ d rest stops. step_completeness d named None tt rest o stops)
  known (tree.StepElement o named at) shape =
      let inside = (known at shape).reads in known_operand (tree.StepElement o named at) refl
      (λ d rest stops. element_step d named at inside rest o stops)
  known (tree.Binary o left right) shape =
      known_facts (tree.Binary o left right) (omega (arith, (precedence_some o).1))
      (binary_facts o left right shape.0 shape.1 (known left shape.2).facts
      (known right shape.3).reads)
  known (tree.Conditional condition chosen other) shape = record {
    facts = choose_facts condition chosen other;
    reads = record {
      climbs = λ depth r rest le lt stops. absurd (omega arith);
      whole = choose_whole condition chosen other shape.0 (known condition shape.1).facts
          (known chosen shape.2).reads (known other shape.3).reads;
    };
  }

  known_given : (given : tree.Arguments) → AreGiven given
      → AllByRecursion IsReadCompleteness (list_of given)
  known_given tree.NoArgument shape = tt
  known_given (tree.Argument first others) shape =
      ((known first shape.0).reads, known_given others shape.1)

pub expressions_read : (es : List tree.Expr) → AllByRecursion IsExpr es
    → AllByRecursion IsReadCompleteness es
expressions_read [] shape = tt
expressions_read (e ∷ others) shape = ((known e shape.0).reads, expressions_read others shape.1)

-- an expression is read again where what follows stops it
pub expression_completeness : (e : tree.Expr) → IsExpr e → (depth : ℕ) (rest : List TokenKind) →
    Stops lowest_precedence rest
    → Complete depth (expr_height e) (found e rest)
    (expression depth lowest_precedence (expr_spelled e rest))
expression_completeness e shape = (known e shape).reads.whole

pub closed_completeness : (e : tree.Expr) → IsExpr e → (d : ℕ) (m : Punctuation)
    (rest : List TokenKind) → Stops lowest_precedence (token.Punctuation m ∷ rest)
    → Complete d (expr_height e) (found e rest)
    (closed (expression d) m (expr_spelled e (token.Punctuation m ∷ rest)))
closed_completeness e shape = closed_by e (known e shape).reads
