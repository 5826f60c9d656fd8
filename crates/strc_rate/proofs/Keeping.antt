-- What a run leaves as it was: the outer variables, but for those that its text writes.
use Rattle.std.proofs.Common.{◌≡◌, refl, sym, ◌∙◌, ap, ℕ, zero, suc, ◌-◌, ◌≤◌, ℤ, Bool, true, false}
use Rattle.std.proofs.Common.{cond, ◌||◌, List, [], ◌∷◌, ◌++◌, length, take, drop, set, Option}
use Rattle.std.proofs.Common.{Some}
use Rattle.std.proofs.Common.{None, Result, Ok, arith}
use Rattle.std.specs.Prelude.{bytes_eq}
use Rattle.std.specs.Result.{IfOk}
use Rattle.std.proofs.lemmas.List.{length-map}
use Rattle.std.proofs.lemmas.Result.{IfOk-weaker}
use Rattle.std.proofs.lemmas.Slice.Eq.{bytes_eq-Decides}
use Rattle.strc_lex_names.specs.Results.{result_and_then}
use Rattle.strc_parse_tree.specs.Tree as tree
use Rattle.strc_parse_tree.specs.declared.tree.AssignOperator.{AssignOperator}
use Rattle.strc_parse_tree.specs.declared.tree.AssignOperator.TheVariants as assign
use Rattle.strc_parse_tree.specs.declared.tree.BinaryOperator.{BinaryOperator}
use Rattle.strc_parse_tree.specs.declared.tree.BinaryOperator.TheVariants as binary
use Rattle.strc_work_meaning.specs.declared.fault.Cause.{Cause}
use Rattle.strc_work_meaning.specs.Arithmetic.{is_true, binary_value}
use Rattle.strc_work_meaning.specs.Scoping.{Scope, is_declared}
use Rattle.strc_work_meaning.specs.Firing.{Setting, Traffic, Store, Variables, cells_named}
use Rattle.strc_work_meaning.specs.Firing.{with_cell}
use Rattle.strc_work_meaning.specs.Firing.{popped_from, peeked_from, joined, value_of}
use Rattle.strc_work_meaning.specs.Firing.{assigned_value}
use Rattle.strc_work_meaning.specs.Firing.{place_of, cell_in, cell_set, element_joined, element_set}
use Rattle.strc_work_meaning.specs.Firing.{condition_value, arguments_given, values_of, fields_in}
use Rattle.strc_work_meaning.specs.Firing.{after_call, Called, revalued}
use Rattle.strc_work_meaning.proofs.Calls.{scope_of-after_call, length-after_call}
use Rattle.strc_rate.proofs.Scopes.{scope_of, scope_of-with_cell}
use Rattle.strc_work_writes.specs.LocalWrites.{expr_writes, exprs_write, option_writes}
use Rattle.strc_work_writes.specs.Calls.{expr_calls_one, arguments_call_one, option_calls_one}
use Rattle.strc_rate.proofs.Results.{or_first, or_second, then_ok, any_ok, below, above, below_all}

-- ---- the cells of a name after a write

-- bytes of two names that are one
pub same_name : (a b : List ℕ) → bytes_eq a b ≡ true → a ≡ b
same_name a b e = (bytes_eq-Decides a b).0 e

pub one_name : (a b : List ℕ) → a ≡ b → bytes_eq a b ≡ true
one_name a b e = (bytes_eq-Decides a b).1 e

-- the cells of a name stay after a write of another
other_cells_by : (first : List ℕ × List ℤ) (rest : Variables) (stepped : List ℕ) (place : ℕ)
    (value : ℤ) (name : List ℕ) → bytes_eq stepped name ≡ false
    → cells_named (with_cell rest stepped place value) name ≡ cells_named rest name → (t : Bool)
    → bytes_eq first.0 stepped ≡ t → cells_named
    (cond t (record { 0 = first.0; 1 = set first.1 place value } ∷ rest)
    (first ∷ with_cell rest stepped place value)) name ≡ cells_named (first ∷ rest) name
other_cells_by first rest stepped place value name other inside true e =
    let is : first.0 ≡ stepped = same_name first.0 stepped e in
    let not_it : bytes_eq first.0 name ≡ false = rw is other in
    ap (λ t. cond t (set first.1 place value) (cells_named rest name)) not_it
    ∙ sym (ap (λ t. cond t first.1 (cells_named rest name)) not_it)
other_cells_by first rest stepped place value name other inside false e =
    ap (cond (bytes_eq first.0 name) first.1) inside

other_cells : (variables : Variables) (stepped : List ℕ) (place : ℕ) (value : ℤ) (name : List ℕ)
    → bytes_eq stepped name ≡ false → cells_named (with_cell variables stepped place value) name
    ≡ cells_named variables name
other_cells [] stepped place value name other = refl
other_cells (first ∷ rest) stepped place value name other =
    other_cells_by first rest stepped place value name other
    (other_cells rest stepped place value name other) (bytes_eq first.0 stepped) refl

-- a name that these shadow isn't written, nor one that the text doesn't write
abbrev pub Unwritten : Scope → List ℕ → Bool → Type 0
Unwritten shadowing name written = is_declared shadowing name ≡ false → written ≡ false

-- one variable less shadows the name
shadowed_less : (first stepped name : List ℕ) (shadowing : Bool) (t : Bool)
    → bytes_eq first name ≡ t
    → bytes_eq first stepped ≡ false → (t || shadowing ≡ false → bytes_eq stepped name ≡ false)
    → shadowing ≡ false → bytes_eq stepped name ≡ false
shadowed_less first stepped name shadowing false e other unwritten bare = unwritten bare
shadowed_less first stepped name shadowing true e other unwritten bare =
    by_test (bytes_eq stepped name) refl
  where
    by_test : (u : Bool) → bytes_eq stepped name ≡ u → u ≡ false
    by_test false f = refl
    by_test true f =
        let one : first ≡ stepped = same_name first name e ∙ sym (same_name stepped name f) in
        let yes : bytes_eq first stepped ≡ true = one_name first stepped one in absurd (cc)

below_cells_by : (first : List ℕ × List ℤ) (rest : Variables) (k : ℕ) (stepped : List ℕ) (place : ℕ)
    (value : ℤ) (name : List ℕ) → (bytes_eq first.0 stepped ≡ false
    → cells_named (drop k (with_cell rest stepped place value)) name
    ≡ cells_named (drop k rest) name) → (t : Bool) → bytes_eq first.0 stepped ≡ t
    → cells_named (drop (suc k) (cond t (record { 0 = first.0; 1 = set first.1 place value } ∷ rest)
    (first ∷ with_cell rest stepped place value))) name ≡ cells_named (drop k rest) name
below_cells_by first rest k stepped place value name inside true e = refl
below_cells_by first rest k stepped place value name inside false e = inside e

below_cells : (variables : Variables) (k : ℕ) (stepped : List ℕ) (place : ℕ) (value : ℤ)
    (name : List ℕ) → Unwritten (take k (scope_of variables)) name (bytes_eq stepped name)
    → cells_named (drop k (with_cell variables stepped place value)) name
    ≡ cells_named (drop k variables) name
below_cells variables zero stepped place value name unwritten =
    other_cells variables stepped place value name (unwritten refl)
below_cells [] (suc k) stepped place value name unwritten = refl
below_cells (first ∷ rest) (suc k) stepped place value name unwritten =
    below_cells_by first rest k stepped place value name
    (λ other. below_cells rest k stepped place value name
    (shadowed_less first.0 stepped name (is_declared (take k (scope_of rest)) name)
    (bytes_eq first.0 name) refl other unwritten))
    (bytes_eq first.0 stepped) refl

-- ---- stores that a run leads to

-- what covers a test is true wherever that is
abbrev pub Covers : (wide narrow : List ℕ → Bool) → Type 0
Covers wide narrow = (name : List ℕ) → wide name ≡ false → narrow name ≡ false

-- what holds of a store holds after more traffic, after a write of these names, and after a call
-- that is of no such name
pub record HoldingBut (setting : Setting) (P : Store → Type 0)
    (writes such : List ℕ → Bool) : Type 0
  where
    pub moved : (store : Store) (traffic : Traffic) → P store
        → P (record store { traffic = traffic })
    pub written : (store : Store) (name : List ℕ) (place : ℕ) (value : ℤ)
        → Covers writes (bytes_eq name) → P store → P (cell_set store name place value)
    pub called : (store : Store) (name : List ℕ) (values : List ℤ) → such name ≡ false → P store
        → IfOk (setting.call name values (values_of (fields_in setting store.variables))
        store.traffic.turns) (λ called. P (after_call setting store called))

-- the same, whatever is called
abbrev pub Holding : (setting : Setting) (P : Store → Type 0) (writes : List ℕ → Bool) → Type 0
Holding setting P writes = HoldingBut setting P writes (λ name. false)

-- a value, and a store of which it holds
abbrev pub Given : (Store → Type 0) → Result (ℤ × Store) Cause → Type 0
Given P result = IfOk result (λ given. P given.1)

-- an operator whose right side is evaluated
pub strict_holds : (P : Store → Type 0) (operator : BinaryOperator) (first : ℤ × Store)
    (right : Store → Result (ℤ × Store) Cause) → Given P (right first.1)
    → Given P (result_and_then (right first.1)
    (λ second. result_and_then (binary_value operator first.0 second.0)
    (λ value. Ok (value, second.1))))
strict_holds P operator first right h =
    then_ok (right first.1) _ (λ given. P given.1) (λ given. P given.1) h
    (λ second k. then_ok (binary_value operator first.0 second.0) _ (λ value. Unit {0})
    (λ given. P given.1) (any_ok (binary_value operator first.0 second.0)) (λ value _. k))

pub one_holds : (P : Store → Type 0) (test : Bool) (one other : Result (ℤ × Store) Cause)
    → Given P one → Given P other → Given P (cond test one other)
one_holds P true one other h k = h
one_holds P false one other h k = k

pub joined_holds : (P : Store → Type 0) (operator : BinaryOperator) (first : ℤ × Store)
    (right : Store → Result (ℤ × Store) Cause) → P first.1 → Given P (right first.1)
    → Given P (joined operator first right)
joined_holds P binary.LogicalOr first right h k =
    one_holds P (is_true first.0) (Ok first) (right first.1) h k
joined_holds P binary.LogicalAnd first right h k =
    one_holds P (is_true first.0) (right first.1) (Ok first) k h
joined_holds P binary.Or first right h k = strict_holds P binary.Or first right k
joined_holds P binary.ExclusiveOr first right h k = strict_holds P binary.ExclusiveOr first right k
joined_holds P binary.And first right h k = strict_holds P binary.And first right k
joined_holds P binary.Equal first right h k = strict_holds P binary.Equal first right k
joined_holds P binary.NotEqual first right h k = strict_holds P binary.NotEqual first right k
joined_holds P binary.Less first right h k = strict_holds P binary.Less first right k
joined_holds P binary.LessOrEqual first right h k = strict_holds P binary.LessOrEqual first right k
joined_holds P binary.Greater first right h k = strict_holds P binary.Greater first right k
joined_holds P binary.GreaterOrEqual first right h k =
    strict_holds P binary.GreaterOrEqual first right k
joined_holds P binary.ShiftLeft first right h k = strict_holds P binary.ShiftLeft first right k
joined_holds P binary.ShiftRight first right h k = strict_holds P binary.ShiftRight first right k
joined_holds P binary.Add first right h k = strict_holds P binary.Add first right k
joined_holds P binary.Subtract first right h k = strict_holds P binary.Subtract first right k
joined_holds P binary.Multiply first right h k = strict_holds P binary.Multiply first right k
joined_holds P binary.Divide first right h k = strict_holds P binary.Divide first right k
joined_holds P binary.Remainder first right h k = strict_holds P binary.Remainder first right k

mutual
  -- what holds of the store holds after an expression that writes no other names, and has no such
  -- call
  pub value_holds_but : (setting : Setting) (P : Store → Type 0) (writes such : List ℕ → Bool)
      → HoldingBut setting P writes such → (e : tree.Expr) (store : Store)
      → Covers writes (λ name. expr_writes name e) → expr_calls_one such e ≡ false → P store
      → Given P (value_of setting e store)
  value_holds_but setting P writes such holding (tree.Number value) store covers none h = h
  value_holds_but setting P writes such holding (tree.Truth value) store covers none h = h
  value_holds_but setting P writes such holding (tree.Read name) store covers none h = h
  value_holds_but setting P writes such holding (tree.Element name index) store covers none h =
      then_ok (value_of setting index store) _ (λ given. P given.1) (λ given. P given.1)
      (value_holds_but setting P writes such holding index store covers none h)
      (λ at k. then_ok (place_of at.1 name at.0) _ (λ place. Unit {0}) (λ given. P given.1)
      (any_ok (place_of at.1 name at.0)) (λ place _. k))
  value_holds_but setting P writes such holding tree.Pop store covers none h =
      then_ok (popped_from setting.port store.traffic) _ (λ taken. Unit {0}) (λ given. P given.1)
      (any_ok (popped_from setting.port store.traffic))
      (λ taken _. holding.moved store taken.1 h)
  value_holds_but setting P writes such holding (tree.Peek index) store covers none h =
      then_ok (value_of setting index store) _ (λ given. P given.1) (λ given. P given.1)
      (value_holds_but setting P writes such holding index store covers none h)
      (λ place k. then_ok (peeked_from setting.port place.0 place.1.traffic) _ (λ item. Unit {0})
      (λ given. P given.1) (any_ok (peeked_from setting.port place.0 place.1.traffic))
      (λ item _. k))
  value_holds_but setting P writes such holding (tree.Call name arguments) store covers none h =
      then_ok (arguments_given setting arguments store) _ (λ given. P given.1) (λ given. P given.1)
      (arguments_hold setting P writes such holding arguments store covers
      (or_second (such name) _ none) h)
      (λ given k. then_ok (setting.call name given.0
      (values_of (fields_in setting given.1.variables)) given.1.traffic.turns) _
      (λ called. P (after_call setting given.1 called)) (λ after. P after.1)
      (holding.called given.1 name given.0 (or_first (such name) _ none) k) (λ called l. l))
  value_holds_but setting P writes such holding (tree.Group inner) store covers none h =
      value_holds_but setting P writes such holding inner store covers none h
  value_holds_but setting P writes such holding (tree.Unary operator operand) store covers none h =
      then_ok (value_of setting operand store) _ (λ given. P given.1) (λ given. P given.1)
      (value_holds_but setting P writes such holding operand store covers none h) (λ given k. k)
  value_holds_but setting P writes such holding (tree.Step operator name) store covers none h =
      holding.written store name 0 _ covers h
  value_holds_but setting P writes such holding (tree.StepElement operator name index) store covers
      none h =
      then_ok (value_of setting index store) _ (λ given. P given.1) (λ given. P given.1)
      (value_holds_but setting P writes such holding index store
      (λ n e. or_second (bytes_eq name n) _ (covers n e)) none h)
      (λ at k.
      then_ok (place_of at.1 name at.0) _ (λ place. Unit {0}) (λ given. P given.1)
      (any_ok (place_of at.1 name at.0))
      (λ place _. holding.written at.1 name place _
      (λ n e. or_first (bytes_eq name n) _ (covers n e)) k))
  value_holds_but setting P writes such holding (tree.Binary operator left right) store covers none
      h =
      then_ok (value_of setting left store) _ (λ given. P given.1) (λ given. P given.1)
      (value_holds_but setting P writes such holding left store
      (λ n e. or_first (expr_writes n left) _ (covers n e))
      (or_first (expr_calls_one such left) _ none) h)
      (λ first k. joined_holds P operator first (value_of setting right) k
      (value_holds_but setting P writes such holding right first.1
      (λ n e. or_second (expr_writes n left) _ (covers n e))
      (or_second (expr_calls_one such left) _ none) k))
  value_holds_but setting P writes such holding (tree.Conditional condition chosen other) store
      covers none h =
      let later = or_second (expr_calls_one such condition) _ none in
      then_ok (value_of setting condition store) _ (λ given. P given.1) (λ given. P given.1)
      (value_holds_but setting P writes such holding condition store
      (λ n e. or_first (expr_writes n condition) _ (covers n e))
      (or_first (expr_calls_one such condition) _ none) h)
      (λ test k. one_holds P (is_true test.0) (value_of setting chosen test.1)
      (value_of setting other test.1)
      (value_holds_but setting P writes such holding chosen test.1
      (λ n e. or_first (expr_writes n chosen) _
      (or_second (expr_writes n condition) _ (covers n e)))
      (or_first (expr_calls_one such chosen) _ later) k)
      (value_holds_but setting P writes such holding other test.1
      (λ n e. or_second (expr_writes n chosen) _
      (or_second (expr_writes n condition) _ (covers n e)))
      (or_second (expr_calls_one such chosen) _ later) k))

  arguments_hold : (setting : Setting) (P : Store → Type 0) (writes such : List ℕ → Bool)
      → HoldingBut setting P writes such → (arguments : tree.Arguments) (store : Store)
      → Covers writes (λ name. exprs_write name arguments)
      → arguments_call_one such arguments ≡ false → P store
      → IfOk (arguments_given setting arguments store) (λ given. P given.1)
  arguments_hold setting P writes such holding tree.NoArgument store covers none h = h
  arguments_hold setting P writes such holding (tree.Argument first rest) store covers none h =
      then_ok (value_of setting first store) _ (λ given. P given.1) (λ all. P all.1)
      (value_holds_but setting P writes such holding first store
      (λ n e. or_first (expr_writes n first) _ (covers n e))
      (or_first (expr_calls_one such first) _ none) h)
      (λ given k. then_ok (arguments_given setting rest given.1) _ (λ others. P others.1)
      (λ all. P all.1)
      (arguments_hold setting P writes such holding rest given.1
      (λ n e. or_second (expr_writes n first) _ (covers n e))
      (or_second (expr_calls_one such first) _ none) k) (λ others l. l))

pub condition_holds_but : (setting : Setting) (P : Store → Type 0) (writes such : List ℕ → Bool)
    → HoldingBut setting P writes such → (condition : Option tree.Expr) (store : Store)
    → Covers writes (λ name. option_writes name condition)
    → option_calls_one such condition ≡ false → P store
    → Given P (condition_value setting condition store)
condition_holds_but setting P writes such holding None store covers none h = h
condition_holds_but setting P writes such holding (Some condition) store covers none h =
    value_holds_but setting P writes such holding condition store covers none h

-- ---- assignments

assigned_writes : (name assigned : List ℕ) (operator : AssignOperator) (value : tree.Expr)
    → expr_writes name (assigned_value assigned operator value) ≡ expr_writes name value
assigned_writes name assigned assign.Set value = refl
assigned_writes name assigned assign.Add value = refl
assigned_writes name assigned assign.Subtract value = refl
assigned_writes name assigned assign.Multiply value = refl
assigned_writes name assigned assign.Divide value = refl
assigned_writes name assigned assign.Remainder value = refl

assigned_calls : (such : List ℕ → Bool) (assigned : List ℕ) (operator : AssignOperator)
    (value : tree.Expr)
    → expr_calls_one such (assigned_value assigned operator value) ≡ expr_calls_one such value
assigned_calls such assigned assign.Set value = refl
assigned_calls such assigned assign.Add value = refl
assigned_calls such assigned assign.Subtract value = refl
assigned_calls such assigned assign.Multiply value = refl
assigned_calls such assigned assign.Divide value = refl
assigned_calls such assigned assign.Remainder value = refl

pub assigned_holds_but : (setting : Setting) (P : Store → Type 0) (writes such : List ℕ → Bool)
    → HoldingBut setting P writes such → (name : List ℕ) (operator : AssignOperator)
    (value : tree.Expr) (store : Store)
    → Covers writes (λ n. bytes_eq name n || expr_writes n value)
    → expr_calls_one such value ≡ false → P store
    → IfOk (result_and_then (value_of setting (assigned_value name operator value) store)
    (λ given. Ok (cell_set given.1 name 0 given.0))) P
assigned_holds_but setting P writes such holding name operator value store covers none h =
    then_ok (value_of setting (assigned_value name operator value) store) _ (λ given. P given.1) P
    (value_holds_but setting P writes such holding (assigned_value name operator value) store
    (λ n e. assigned_writes n name operator value ∙ or_second (bytes_eq name n) _ (covers n e))
    (assigned_calls such name operator value ∙ none) h)
    (λ given k. holding.written given.1 name 0 given.0
    (λ n e. or_first (bytes_eq name n) _ (covers n e)) k)

joined_element_holds : (setting : Setting) (P : Store → Type 0) (writes such : List ℕ → Bool)
    → HoldingBut setting P writes such → (name : List ℕ) (operator : BinaryOperator)
    (value : tree.Expr) (at : ℤ × Store)
    → Covers writes (bytes_eq name) → Covers writes (λ n. expr_writes n value)
    → expr_calls_one such value ≡ false → P at.1
    → IfOk (element_joined setting name operator value at) P
joined_element_holds setting P writes such holding name operator value at writes_it covers none h =
    then_ok (place_of at.1 name at.0) _ (λ place. Unit {0}) P (any_ok (place_of at.1 name at.0))
    (λ place _.
    then_ok (value_of setting value at.1) _ (λ given. P given.1) P
    (value_holds_but setting P writes such holding value at.1 covers none h)
    (λ given k.
    then_ok (binary_value operator (cell_in at.1 name place) given.0) _ (λ new. Unit {0}) P
    (any_ok (binary_value operator (cell_in at.1 name place) given.0))
    (λ new _. holding.written given.1 name place new writes_it k)))

element_holds : (setting : Setting) (P : Store → Type 0) (writes such : List ℕ → Bool)
    → HoldingBut setting P writes such → (name : List ℕ) (operator : AssignOperator)
    (value : tree.Expr) (at : ℤ × Store)
    → Covers writes (bytes_eq name) → Covers writes (λ n. expr_writes n value)
    → expr_calls_one such value ≡ false → P at.1
    → IfOk (element_set setting name operator value at) P
element_holds setting P writes such holding name assign.Set value at writes_it covers none h =
    then_ok (value_of setting value at.1) _ (λ given. P given.1) P
    (value_holds_but setting P writes such holding value at.1 covers none h)
    (λ given k.
    then_ok (place_of given.1 name at.0) _ (λ place. Unit {0}) P
    (any_ok (place_of given.1 name at.0))
    (λ place _. holding.written given.1 name place given.0 writes_it k))
element_holds setting P writes such holding name assign.Add value at writes_it covers none h =
    joined_element_holds setting P writes such holding name binary.Add value at writes_it
    covers none h
element_holds setting P writes such holding name assign.Subtract value at writes_it covers none h =
    joined_element_holds setting P writes such holding name binary.Subtract value at writes_it
    covers none h
element_holds setting P writes such holding name assign.Multiply value at writes_it covers none h =
    joined_element_holds setting P writes such holding name binary.Multiply value at writes_it
    covers none h
element_holds setting P writes such holding name assign.Divide value at writes_it covers none h =
    joined_element_holds setting P writes such holding name binary.Divide value at writes_it
    covers none h
element_holds setting P writes such holding name assign.Remainder value at writes_it covers none h =
    joined_element_holds setting P writes such holding name binary.Remainder value at writes_it
    covers none h

pub element_assigned_holds_but : (setting : Setting) (P : Store → Type 0)
    (writes such : List ℕ → Bool)
    → HoldingBut setting P writes such → (name : List ℕ) (index : tree.Expr)
    (operator : AssignOperator) (value : tree.Expr) (store : Store) → Covers writes
    (λ n. bytes_eq name n || (expr_writes n index || expr_writes n value))
    → (expr_calls_one such index || expr_calls_one such value) ≡ false → P store
    → IfOk (result_and_then (value_of setting index store)
    (element_set setting name operator value)) P
element_assigned_holds_but setting P writes such holding name index operator value store covers none
    h =
    then_ok (value_of setting index store) (element_set setting name operator value)
    (λ given. P given.1) P
    (value_holds_but setting P writes such holding index store
    (λ n e. or_first (expr_writes n index) _ (or_second (bytes_eq name n) _ (covers n e)))
    (or_first (expr_calls_one such index) _ none) h)
    (λ at k. element_holds setting P writes such holding name operator value at
    (λ n e. or_first (bytes_eq name n) _ (covers n e))
    (λ n e. or_second (expr_writes n index) _ (or_second (bytes_eq name n) _ (covers n e)))
    (or_second (expr_calls_one such index) _ none) k)

-- ---- whatever is called

pub neither : (a b : Bool) → a ≡ false → b ≡ false → (a || b) ≡ false
neither true b e f = e
neither false b e f = f

mutual
  -- no call is of no name
  no_call : (e : tree.Expr) → expr_calls_one (λ name. false) e ≡ false
  no_call (tree.Number value) = refl
  no_call (tree.Truth value) = refl
  no_call (tree.Read name) = refl
  no_call (tree.Element name index) = no_call index
  no_call tree.Pop = refl
  no_call (tree.Peek index) = no_call index
  no_call (tree.Call name arguments) = no_calls arguments
  no_call (tree.Group inner) = no_call inner
  no_call (tree.Unary operator operand) = no_call operand
  no_call (tree.Step operator name) = refl
  no_call (tree.StepElement operator name index) = no_call index
  no_call (tree.Binary operator left right) = neither _ _ (no_call left) (no_call right)
  no_call (tree.Conditional condition chosen other) =
      neither _ _ (no_call condition) (neither _ _ (no_call chosen) (no_call other))

  no_calls : (arguments : tree.Arguments) → arguments_call_one (λ name. false) arguments ≡ false
  no_calls tree.NoArgument = refl
  no_calls (tree.Argument first rest) = neither _ _ (no_call first) (no_calls rest)

pub value_holds : (setting : Setting) (P : Store → Type 0) (writes : List ℕ → Bool)
    → Holding setting P writes → (e : tree.Expr) (store : Store)
    → Covers writes (λ name. expr_writes name e) → P store → Given P (value_of setting e store)
value_holds setting P writes holding e store covers h =
    value_holds_but setting P writes (λ name. false) holding e store covers (no_call e) h

pub condition_holds : (setting : Setting) (P : Store → Type 0) (writes : List ℕ → Bool)
    → Holding setting P writes → (condition : Option tree.Expr) (store : Store)
    → Covers writes (λ name. option_writes name condition) → P store
    → Given P (condition_value setting condition store)
condition_holds setting P writes holding None store covers h = h
condition_holds setting P writes holding (Some condition) store covers h =
    value_holds setting P writes holding condition store covers h

pub assigned_holds : (setting : Setting) (P : Store → Type 0) (writes : List ℕ → Bool)
    → Holding setting P writes → (name : List ℕ) (operator : AssignOperator) (value : tree.Expr)
    (store : Store) → Covers writes (λ n. bytes_eq name n || expr_writes n value) → P store
    → IfOk (result_and_then (value_of setting (assigned_value name operator value) store)
    (λ given. Ok (cell_set given.1 name 0 given.0))) P
assigned_holds setting P writes holding name operator value store covers h =
    assigned_holds_but setting P writes (λ other. false) holding name operator value store covers
    (no_call value) h

pub element_assigned_holds : (setting : Setting) (P : Store → Type 0) (writes : List ℕ → Bool)
    → Holding setting P writes → (name : List ℕ) (index : tree.Expr) (operator : AssignOperator)
    (value : tree.Expr) (store : Store) → Covers writes
    (λ n. bytes_eq name n || (expr_writes n index || expr_writes n value)) → P store
    → IfOk (result_and_then (value_of setting index store)
    (element_set setting name operator value)) P
element_assigned_holds setting P writes holding name index operator value store covers h =
    element_assigned_holds_but setting P writes (λ other. false) holding name index operator value
    store covers (neither _ _ (no_call index) (no_call value)) h

-- ---- variables that stay

-- a name of one of the outermost n variables, but not of a field, which a call may write
abbrev pub IsInner : (fields n : ℕ) → Scope → List ℕ → Type 0
IsInner fields n scope name = is_declared (take (n - fields) (below n scope)) name ≡ true

-- the same variables with as many cells, and the same cells of each outer variable that is neither
-- a field nor written
pub record Same (fields : ℕ) (writes : List ℕ → Bool) (before after : Variables) : Type 0 where
  pub shape : scope_of after ≡ scope_of before
  pub cells : (n : ℕ) (name : List ℕ) → n ≤ length before → IsInner fields n (scope_of before) name
      → Unwritten (above n (scope_of before)) name (writes name)
      → cells_named (below n after) name ≡ cells_named (below n before) name

pub same_size : (before after : Variables) → scope_of after ≡ scope_of before
    → length after ≡ length before
same_size before after shape = sym (length-map after _) ∙ (ap length shape ∙ length-map before _)

pub same_refl : (fields : ℕ) (writes : List ℕ → Bool) (variables : Variables)
    → Same fields writes variables variables
same_refl fields writes variables =
    record { shape = refl; cells = λ n name le inner unwritten. refl }

same_cell : (fields : ℕ) (writes : List ℕ → Bool) (before after : Variables) (stepped : List ℕ)
    (place : ℕ) (value : ℤ) → Covers writes (bytes_eq stepped) → Same fields writes before after
    → Same fields writes before (with_cell after stepped place value)
same_cell fields writes before after stepped place value covers h =
    let shape : scope_of (with_cell after stepped place value) ≡ scope_of after =
    scope_of-with_cell after stepped place value in
    record {
      shape = shape ∙ h.shape;
      cells = λ n name le inner unwritten.
          let size : length (with_cell after stepped place value) ≡ length after =
          same_size after (with_cell after stepped place value) shape in
          let shadowing : above n (scope_of before) ≡ take (length after - n) (scope_of after) =
          sym (ap (above n) h.shape) ∙ ap (λ k. take (k - n) (scope_of after))
          (length-map after _) in
          ap (λ k. cells_named (drop (k - n) (with_cell after stepped place value)) name) size
          ∙ below_cells after (length after - n) stepped place value name
          (λ bare. covers name (unwritten (ap (λ s. is_declared s name) shadowing ∙ bare)))
          ∙ h.cells n name le inner unwritten;
    }

declared_by : (first : List ℕ × ℕ) (a b : ℕ) (rest : Scope) (name : List ℕ) (t : Bool)
    → (is_declared (take a rest) name ≡ true → is_declared (take b rest) name ≡ true)
    → t || is_declared (take a rest) name ≡ true → t || is_declared (take b rest) name ≡ true
declared_by first a b rest name true inside e = refl
declared_by first a b rest name false inside e = inside e

-- a name among some variables is among more of them
declared_more : (a b : ℕ) (scope : Scope) (name : List ℕ) → a ≤ b
    → is_declared (take a scope) name ≡ true → is_declared (take b scope) name ≡ true
declared_more zero b scope name le e = absurd (cc)
declared_more (suc a) zero scope name le e = absurd (omega (arith, le))
declared_more (suc a) (suc b) [] name le e = e
declared_more (suc a) (suc b) (first ∷ rest) name le e =
    declared_by first a b rest name (bytes_eq first.0 name)
    (declared_more a b rest name (omega (arith, le))) e

-- a variable inside others has its cells whatever those are
inner_by : (first : List ℕ × List ℤ) (rest rest' : Variables) (shown : Scope) (name : List ℕ)
    (t : Bool) → (is_declared shown name ≡ true → cells_named rest' name ≡ cells_named rest name)
    → t || is_declared shown name ≡ true
    → cond t first.1 (cells_named rest' name) ≡ cond t first.1 (cells_named rest name)
inner_by first rest rest' shown name true inside e = refl
inner_by first rest rest' shown name false inside e = inside e

inner_taken : (k : ℕ) (variables others : Variables) (name : List ℕ)
    → is_declared (take k (scope_of variables)) name ≡ true
    → cells_named (take k variables ++ others) name ≡ cells_named variables name
inner_taken zero variables others name e = absurd (cc)
inner_taken (suc k) [] others name e = absurd (cc)
inner_taken (suc k) (first ∷ rest) others name e =
    inner_by first rest (take k rest ++ others) (take k (scope_of rest)) name
    (bytes_eq first.0 name) (inner_taken k rest others name) e

none_declared : (n : ℕ) (name : List ℕ) → is_declared (take n []) name ≡ false
none_declared zero name = refl
none_declared (suc n) name = refl

inner_below : (j k : ℕ) (variables others : Variables) (name : List ℕ)
    → is_declared (take (k - j) (drop j (scope_of variables))) name ≡ true
    → cells_named (drop j (take k variables ++ others)) name ≡ cells_named (drop j variables) name
inner_below zero k variables others name e =
    let same : k ≡ k - 0 = omega arith in
    inner_taken k variables others name
    (ap (λ n. is_declared (take n (scope_of variables)) name) same ∙ e)
inner_below (suc j) zero variables others name e =
    let none : 0 - suc j ≡ 0 = omega arith in
    let never : false ≡ true =
    ap (λ n. is_declared (take n (drop (suc j) (scope_of variables))) name) (sym none) ∙ e in
    absurd (cc)
inner_below (suc j) (suc k) [] others name e =
    let never : false ≡ true = sym (none_declared (suc k - suc j) name) ∙ e in absurd (cc)
inner_below (suc j) (suc k) (first ∷ rest) others name e =
    let same : k - j ≡ suc k - suc j = omega arith in
    inner_below j k rest others name
    (ap (λ n. is_declared (take n (drop j (scope_of rest))) name) same ∙ e)

same_called : (setting : Setting) (writes : List ℕ → Bool) (before : Variables)
    (store : Store) (called : Called)
    → Same setting.fields writes before store.variables
    → Same setting.fields writes before (after_call setting store called).variables
same_called setting writes before store called h =
    let variables = store.variables in
    let after = (after_call setting store called).variables in
    let size : length variables ≡ length before = same_size before variables h.shape in
    let whole : length (scope_of variables) ≡ length variables = length-map variables _ in
    record {
      shape = scope_of-after_call setting store called ∙ h.shape;
      cells = λ n name le inner unwritten.
          let here : is_declared (take (n - setting.fields) (drop (length variables - n)
          (scope_of variables))) name ≡ true =
          ap (λ k. is_declared (take (n - setting.fields) (drop (k - n) (scope_of variables))) name)
          (sym whole) ∙ ap (λ s. is_declared (take (n - setting.fields) (below n s)) name) h.shape
          ∙ inner in
          ap (λ k. cells_named (drop (k - n) after) name) (length-after_call setting store called)
          ∙ inner_below (length variables - n) (length variables - setting.fields) variables
          (revalued (fields_in setting variables) called.fields) name
          (declared_more (n - setting.fields) ((length variables - setting.fields)
          - (length variables - n)) (drop (length variables - n) (scope_of variables)) name
          (omega (arith, size, le)) here)
          ∙ h.cells n name le inner unwritten;
    }

pub same_holding : (setting : Setting) (writes : List ℕ → Bool) (before : Variables)
    → Holding setting (λ store. Same setting.fields writes before store.variables) writes
same_holding setting writes before = record {
  moved = λ store traffic h. h;
  written = λ store name place value covers h.
      same_cell setting.fields writes before store.variables name place value covers h;
  called = λ store name values any h.
      let held = values_of (fields_in setting store.variables) in
      let turns = store.traffic.turns in
      IfOk-weaker (setting.call name values held turns) (λ called. Unit {0}) _
      (λ called any. same_called setting writes before store called h)
      (any_ok (setting.call name values held turns));
}

-- an evaluation leaves what its text doesn't write
pub value_same : (setting : Setting) (e : tree.Expr)
    (store : Store) → IfOk (value_of setting e store)
    (λ given. Same setting.fields (λ name. expr_writes name e) store.variables given.1.variables)
value_same setting e store =
    let writes : List ℕ → Bool = λ name. expr_writes name e in
    value_holds setting (λ s. Same setting.fields writes store.variables s.variables) writes
    (same_holding setting writes store.variables) e store (λ name f. f)
    (same_refl setting.fields writes store.variables)

pub same_then : (fields : ℕ) (writes : List ℕ → Bool) (a b c : Variables) → Same fields writes a b
    → Same fields writes b c → Same fields writes a c
same_then fields writes a b c h k = record {
  shape = k.shape ∙ h.shape;
  cells = λ n name le inner unwritten.
      let size : length b ≡ length a = same_size a b h.shape in
      k.cells n name (omega arith)
      (ap (λ s. is_declared (take (n - fields) (below n s)) name) h.shape ∙ inner)
      (λ bare. unwritten (sym (ap (λ s. is_declared (above n s) name) h.shape) ∙ bare))
      ∙ h.cells n name le inner unwritten;
}

-- a name inside the fields, among all variables
pub whole_inner : (fields : ℕ) (variables : Variables) (name : List ℕ)
    → is_declared (above fields (scope_of variables)) name ≡ true
    → IsInner fields (length variables) (scope_of variables) name
whole_inner fields variables name inner =
    let scope = scope_of variables in
    let size : length scope ≡ length variables = length-map variables _ in
    ap (λ k. is_declared (take (k - fields) (below k scope)) name) (sym size)
    ∙ ap (λ l. is_declared (take (length scope - fields) l) name) (below_all scope) ∙ inner

-- the cells of a name that isn't written
pub same_cells : (fields : ℕ) (writes : List ℕ → Bool) (before after : Variables) (name : List ℕ)
    → Same fields writes before after
    → is_declared (above fields (scope_of before)) name ≡ true → writes name ≡ false
    → cells_named after name ≡ cells_named before name
same_cells fields writes before after name h inner unwritten =
    let size : length after ≡ length before = same_size before after h.shape in
    let whole : below (length before) after ≡ after =
    ap (λ k. below k after) (sym size) ∙ below_all after in
    ap (λ v. cells_named v name) (sym whole)
    ∙ h.cells (length before) name (omega arith) (whole_inner fields before name inner)
    (λ bare. unwritten)
    ∙ ap (λ v. cells_named v name) (below_all before)
