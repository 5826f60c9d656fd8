-- A run that doesn't fault pops and pushes what is counted from its text.
use Rattle.std.proofs.Common.{◌≡◌, refl, sym, subst, ◌∙◌, ℕ, zero, suc, ◌+◌, ◌*◌, ℤ, Bool, true}
use Rattle.std.proofs.Common.{false, cond, not, List, [], ◌∷◌, ◌++◌, length, Option, Some, None}
use Rattle.std.proofs.Common.{Result, Ok, Err, ◌⊎◌, inl, inr, add-one, arith, length-append}
use Rattle.std.specs.Prelude.{nat_eq, nat_lt, slice_get, if◌then◌else◌}
use Rattle.std.specs.Option.{IfSome}
use Rattle.std.specs.Result.{IfOk}
use Rattle.std.proofs.lemmas.Bool.{eqb-true}
use Rattle.std.proofs.lemmas.Result.{IfOk-weaker}
use Rattle.strc_lex_names.specs.Results.{result_and_then}
use Rattle.strc_parse_tree.specs.Tree as tree
use Rattle.strc_parse_tree.specs.declared.tree.AssignOperator.{AssignOperator}
use Rattle.strc_parse_tree.specs.declared.tree.AssignOperator.TheVariants as assign
use Rattle.strc_parse_tree.specs.declared.tree.BinaryOperator.{BinaryOperator}
use Rattle.strc_parse_tree.specs.declared.tree.BinaryOperator.TheVariants as binary
use Rattle.strc_work_meaning.specs.declared.fault.Cause.{Cause}
use Rattle.strc_work_meaning.specs.declared.fault.Cause.TheVariants.{PeekRange}
use Rattle.strc_work_meaning.specs.Arithmetic.{is_true, binary_value}
use Rattle.strc_work_meaning.specs.Firing.{Setting, Traffic, Store, item_popped, pushed_to, joined}
use Rattle.strc_work_meaning.specs.Firing.{peeked_from, value_of, value_in, assigned_value}
use Rattle.strc_work_meaning.specs.Firing.{place_of}
use Rattle.strc_work_meaning.specs.Firing.{cell_in, cell_set, declared_in, element_joined}
use Rattle.strc_work_meaning.specs.Firing.{element_set}
use Rattle.strc_work_meaning.specs.Firing.{initial_cells, variables_declared, arguments_given}
use Rattle.strc_work_meaning.specs.Firing.{values_of}
use Rattle.strc_work_meaning.specs.Firing.{fields_in}
use Rattle.strc_rate_intervals.specs.Constant.{constant}
use Rattle.strc_rate.specs.Counts.{Counts, saturated, no_items, one_push, one_pop, same_counts}
use Rattle.strc_rate.specs.Counts.{added, sequence, if_equal, require_zero, multiplied, repeated}
use Rattle.strc_rate.specs.Counts.{branch_counts, Need, need_by, need_of, needed, expr_counts}
use Rattle.strc_rate.specs.Counts.{arguments_counts}
use Rattle.strc_rate.specs.Counts.{option_counts, variables_counts}
use Rattle.strc_rate.proofs.Results.{and_first, and_second, then_ok, both_ok, any_ok}
use Rattle.strc_rate.proofs.Keeping.{strict_holds}
use Rattle.strc_rate.proofs.LoopParts.{constant_sound}

-- so many items, as counts are saturated, are popped and pushed from one traffic to another
pub record Moves (before after : Traffic) (counts : Counts) : Type 0 where
  pub pops : ℕ
  pub pushes : ℕ
  pub popped : after.popped ≡ before.popped + pops
  pub pushed : length after.pushes ≡ length before.pushes + pushes
  pub saturated_pops : saturated pops ≡ counts.pops
  pub saturated_pushes : saturated pushes ≡ counts.pushes

-- the same, where the text is counted
abbrev pub Counted : Option Counts → Traffic → Traffic → Type 0
Counted None before after = Unit {0}
Counted (Some counts) before after = Moves before after counts

pub stays : (traffic : Traffic) → Moves traffic traffic no_items
stays traffic = record {
  pops = 0;
  pushes = 0;
  popped = omega arith;
  pushed =
      omega arith;
  saturated_pops = omega arith;
  saturated_pushes = omega arith;
}

pub moves_same : (before after : Traffic) (c d : Counts) → c.pushes ≡ d.pushes → c.pops ≡ d.pops
    → Moves before after c → Moves before after d
moves_same before after c d e f h = record {
  pops = h.pops;
  pushes = h.pushes;
  popped = h.popped;
  pushed = h.pushed;
  saturated_pops =
      h.saturated_pops ∙ f;
  saturated_pushes = h.saturated_pushes ∙ e;
}

saturating_sum : (m n c d : ℕ) → saturated m ≡ c → saturated n ≡ d
    → saturated (m + n) ≡ saturated (c + d)
saturating_sum m n c d e f = omega arith

pub one_after : (a b c : Traffic) (x y : Counts) → Moves a b x → Moves b c y → Moves a c (added x y)
one_after a b c x y h k =
    let pops = h.popped in
    let pushes = h.pushed in
    let more_pops = k.popped in
    let more_pushes = k.pushed in
    record {
      pops = h.pops + k.pops;
      pushes = h.pushes + k.pushes;
      popped = omega arith;
      pushed = omega arith;
      saturated_pops = saturating_sum h.pops k.pops x.pops y.pops h.saturated_pops k.saturated_pops;
      saturated_pushes = saturating_sum h.pushes k.pushes x.pushes y.pushes h.saturated_pushes
          k.saturated_pushes;
    }

pub counted_both : (a b c : Traffic) (x y : Option Counts) → Counted x a b → Counted y b c
    → Counted (sequence x y) a c
counted_both a b c None y h k = tt
counted_both a b c (Some x) None h k = tt
counted_both a b c (Some x) (Some y) h k = one_after a b c x y h k

pub same_pushes : (c d : Counts) → same_counts c d ≡ true → c.pushes ≡ d.pushes
same_pushes c d e = eqb-true c.pushes d.pushes (and_first (nat_eq c.pushes d.pushes) _ e)

pub same_pops : (c d : Counts) → same_counts c d ≡ true → c.pops ≡ d.pops
same_pops c d e = eqb-true c.pops d.pops (and_second (nat_eq c.pushes d.pushes) _ e)

-- either count is the one, where they are the same
same_by : (a b : Traffic) (c d : Counts) (t : Bool) → same_counts c d ≡ t
    → (Moves a b c → Counted (if t then Some c else None) a b)
    × (Moves a b d → Counted (if t then Some c else None) a b)
same_by a b c d true e = (
  λ h. h,
  λ h. moves_same a b d c (sym (same_pushes c d e))
      (sym (same_pops c d e)) h,
)
same_by a b c d false e = (λ h. tt, λ h. tt)

either_first : (a b : Traffic) (x y : Option Counts) → Counted x a b → Counted (if_equal x y) a b
either_first a b None y h = tt
either_first a b (Some x) None h = tt
either_first a b (Some x) (Some y) h = (same_by a b x y (same_counts x y) refl).0 h

either_second : (a b : Traffic) (x y : Option Counts) → Counted y a b → Counted (if_equal x y) a b
either_second a b None y h = tt
either_second a b (Some x) None h = tt
either_second a b (Some x) (Some y) h = (same_by a b x y (same_counts x y) refl).1 h

-- what must count nothing, run or left out
nothing_run : (a b : Traffic) (x : Option Counts) → Counted x a b → Counted (require_zero x) a b
nothing_run a b None h = tt
nothing_run a b (Some x) h = (same_by a b no_items x (same_counts no_items x) refl).1 h

nothing_left : (a : Traffic) (x : Option Counts) → Counted (require_zero x) a a
nothing_left a None = tt
nothing_left a (Some x) = (same_by a a no_items x (same_counts no_items x) refl).0 (stays a)

-- counts of no items
abbrev pub IsStill : Option Counts → Type 0
IsStill x = (a b : Traffic) → Counted x a b → Moves a b no_items

still_by : (x : Counts) (t : Bool) → same_counts no_items x ≡ t
    → ((if t then Some no_items else None) ≡ None)
    ⊎ (((if t then Some no_items else None) ≡ Some no_items) × IsStill (Some x))
still_by x false e = inl refl
still_by x true e = inr (
  refl,
  λ a b h. moves_same a b x no_items (sym (same_pushes no_items x e))
      (sym (same_pops no_items x e)) h,
)

-- either nothing is known, or nothing is moved
pub nothing_cases : (x : Option Counts) → (require_zero x ≡ None)
    ⊎ ((require_zero x ≡ Some no_items) × IsStill x)
nothing_cases None = inl refl
nothing_cases (Some x) = still_by x (same_counts no_items x) refl

-- ---- values with traffic

-- a result whose traffic has moved as is counted
abbrev pub CountedOk : {A : Type 0} → (A → Traffic) → Option Counts → Traffic → Result A Cause
    → Type 0
CountedOk traffic x before result = IfOk result (λ a. Counted x before (traffic a))

-- after a part that was counted
pub advance_counts : {A : Type 0} (traffic : A → Traffic) (before middle : Traffic)
    (x y : Option Counts) (result : Result A Cause) → Counted x before middle
    → CountedOk traffic y middle result → CountedOk traffic (sequence x y) before result
advance_counts traffic before middle x y result h k =
    IfOk-weaker result (λ a. Counted y middle (traffic a)) _
    (λ a l. counted_both before middle (traffic a) x y h l) k

side_by : {A : Type 0} (traffic : A → Traffic) (t : Bool) (x y : Option Counts) (before : Traffic)
    (one other : Result A Cause) → CountedOk traffic x before one → CountedOk traffic y before other
    → CountedOk traffic (if t then x else y) before (cond t one other)
side_by traffic true x y before one other h k = h
side_by traffic false x y before one other h k = k

either_by : {A : Type 0} (traffic : A → Traffic) (t : Bool) (x y : Option Counts) (before : Traffic)
    (one other : Result A Cause) → CountedOk traffic x before one → CountedOk traffic y before other
    → CountedOk traffic (if_equal x y) before (cond t one other)
either_by traffic true x y before one other h k =
    IfOk-weaker one (λ a. Counted x before (traffic a)) _
    (λ a l. either_first before (traffic a) x y l) h
either_by traffic false x y before one other h k =
    IfOk-weaker other (λ a. Counted y before (traffic a)) _
    (λ a l. either_second before (traffic a) x y l) k

-- one of two sides runs: the one that a known condition takes
pub side_counts : {A : Type 0} (traffic : A → Traffic) (known : Option ℤ) (value : ℤ)
    (x y : Option Counts) (before : Traffic) (one other : Result A Cause)
    → IfSome known (λ v. value ≡ v) → CountedOk traffic x before one
    → CountedOk traffic y before other → CountedOk traffic (branch_counts known x y) before
    (cond (is_true value) one other)
side_counts traffic None value x y before one other is h k =
    either_by traffic (is_true value) x y before one other h k
side_counts traffic (Some v) value x y before one other is h k =
    subst (λ u. CountedOk traffic (if is_true u then x else y) before
    (cond (is_true value) one other)) is
    (side_by traffic (is_true value) x y before one other h k)

-- ---- operators

abbrev pub value_traffic : ℤ × Store → Traffic
value_traffic given = given.1.traffic

-- the right side runs or not, by a left side that isn't known
maybe_counts : (t : Bool) (first : ℤ × Store) (x : Option Counts) (right : Result (ℤ × Store) Cause)
    → CountedOk value_traffic x first.1.traffic right
    → CountedOk value_traffic (require_zero x) first.1.traffic (cond t (Ok first) right)
    × CountedOk value_traffic (require_zero x) first.1.traffic (cond t right (Ok first))
maybe_counts true first x right h = (
  nothing_left first.1.traffic x,
  IfOk-weaker right
      (λ a. Counted x first.1.traffic (value_traffic a)) _
      (λ a l. nothing_run first.1.traffic (value_traffic a) x l) h,
)
maybe_counts false first x right h = (
  IfOk-weaker right (λ a. Counted x first.1.traffic (value_traffic a)) _
      (λ a l. nothing_run first.1.traffic (value_traffic a) x l) h,
  nothing_left first.1.traffic x,
)

-- by a known one
or_known : (t : Bool) (first : ℤ × Store) (x : Option Counts) (right : Result (ℤ × Store) Cause)
    → CountedOk value_traffic x first.1.traffic right
    → CountedOk value_traffic (needed (if t then Need.Never else Need.Always) x) first.1.traffic
    (cond t (Ok first) right)
or_known true first x right h = stays first.1.traffic
or_known false first x right h = h

and_known : (t : Bool) (first : ℤ × Store) (x : Option Counts) (right : Result (ℤ × Store) Cause)
    → CountedOk value_traffic x first.1.traffic right
    → CountedOk value_traffic (needed (if not t then Need.Never else Need.Always) x) first.1.traffic
    (cond t right (Ok first))
and_known true first x right h = h
and_known false first x right h = stays first.1.traffic

or_counts : (known : Option ℤ) (first : ℤ × Store) (x : Option Counts)
    (right : Result (ℤ × Store) Cause) → IfSome known (λ v. first.0 ≡ v)
    → CountedOk value_traffic x first.1.traffic right
    → CountedOk value_traffic (needed (need_by binary.LogicalOr known) x) first.1.traffic
    (cond (is_true first.0) (Ok first) right)
or_counts None first x right is h = (maybe_counts (is_true first.0) first x right h).0
or_counts (Some v) first x right is h =
    subst (λ u. CountedOk value_traffic (needed (need_by binary.LogicalOr (Some u)) x)
    first.1.traffic (cond (is_true first.0) (Ok first) right)) is
    (or_known (is_true first.0) first x right h)

and_counts : (known : Option ℤ) (first : ℤ × Store) (x : Option Counts)
    (right : Result (ℤ × Store) Cause) → IfSome known (λ v. first.0 ≡ v)
    → CountedOk value_traffic x first.1.traffic right
    → CountedOk value_traffic (needed (need_by binary.LogicalAnd known) x) first.1.traffic
    (cond (is_true first.0) right (Ok first))
and_counts None first x right is h = (maybe_counts (is_true first.0) first x right h).1
and_counts (Some v) first x right is h =
    subst (λ u. CountedOk value_traffic (needed (need_by binary.LogicalAnd (Some u)) x)
    first.1.traffic (cond (is_true first.0) right (Ok first))) is
    (and_known (is_true first.0) first x right h)

strict_counts : (operator : BinaryOperator) (first : ℤ × Store) (x : Option Counts)
    (right : Store → Result (ℤ × Store) Cause)
    → CountedOk value_traffic x first.1.traffic (right first.1)
    → CountedOk value_traffic x first.1.traffic
    (result_and_then (right first.1) (λ second. result_and_then
    (binary_value operator first.0 second.0) (λ value. Ok (value, second.1))))
strict_counts operator first x right h = strict_holds
    (λ s. Counted x first.1.traffic s.traffic) operator first right h

joined_counts : (operator : BinaryOperator) (left : tree.Expr) (first : ℤ × Store)
    (x : Option Counts) (right : Store → Result (ℤ × Store) Cause)
    → IfSome (constant left) (λ v. first.0 ≡ v)
    → CountedOk value_traffic x first.1.traffic (right first.1)
    → CountedOk value_traffic (needed (need_of operator left) x) first.1.traffic
    (joined operator first right)
joined_counts binary.LogicalOr left first x right is h =
    or_counts (constant left) first x (right first.1) is h
joined_counts binary.LogicalAnd left first x right is h =
    and_counts (constant left) first x (right first.1) is h
joined_counts binary.Or left first x right is h = strict_counts binary.Or first x right h
joined_counts binary.ExclusiveOr left first x right is h =
    strict_counts binary.ExclusiveOr first x right h
joined_counts binary.And left first x right is h = strict_counts binary.And first x right h
joined_counts binary.Equal left first x right is h = strict_counts binary.Equal first x right h
joined_counts binary.NotEqual left first x right is h =
    strict_counts binary.NotEqual first x right h
joined_counts binary.Less left first x right is h = strict_counts binary.Less first x right h
joined_counts binary.LessOrEqual left first x right is h =
    strict_counts binary.LessOrEqual first x right h
joined_counts binary.Greater left first x right is h = strict_counts binary.Greater first x right h
joined_counts binary.GreaterOrEqual left first x right is h =
    strict_counts binary.GreaterOrEqual first x right h
joined_counts binary.ShiftLeft left first x right is h =
    strict_counts binary.ShiftLeft first x right h
joined_counts binary.ShiftRight left first x right is h =
    strict_counts binary.ShiftRight first x right h
joined_counts binary.Add left first x right is h = strict_counts binary.Add first x right h
joined_counts binary.Subtract left first x right is h =
    strict_counts binary.Subtract first x right h
joined_counts binary.Multiply left first x right is h =
    strict_counts binary.Multiply first x right h
joined_counts binary.Divide left first x right is h = strict_counts binary.Divide first x right h
joined_counts binary.Remainder left first x right is h =
    strict_counts binary.Remainder first x right h

-- ---- expressions

pop_counts : (traffic : Traffic) (item : Option ℤ)
    → IfOk (item_popped item traffic) (λ taken. Moves traffic taken.1 one_pop)
pop_counts traffic None = tt
pop_counts traffic (Some item) = record {
  pops = 1;
  pushes = 0;
  popped = refl;
  pushed =
      omega arith;
  saturated_pops = omega arith;
  saturated_pushes = omega arith;
}

-- more turns move nothing
pub more_turns : (x : Option Counts) (before traffic : Traffic) (n : ℕ) → Counted x before traffic
    → Counted x before (record traffic { turns = n })
more_turns None before traffic n h = tt
more_turns (Some x) before traffic n h = record {
  pops = h.pops;
  pushes = h.pushes;
  popped = h.popped;
  pushed = h.pushed;
  saturated_pops =
      h.saturated_pops;
  saturated_pushes = h.saturated_pushes;
}

mutual
  -- what an evaluation moves, and its value where that is known
  pub value_counts : (setting : Setting) (e : tree.Expr) (store : Store)
      → CountedOk value_traffic (expr_counts e) store.traffic (value_of setting e store)
  value_counts setting (tree.Number value) store = stays store.traffic
  value_counts setting (tree.Truth value) store = stays store.traffic
  value_counts setting (tree.Read name) store = stays store.traffic
  value_counts setting (tree.Element name index) store =
      then_ok (value_of setting index store) _
      (λ at. Counted (expr_counts index) store.traffic at.1.traffic)
      (λ given. Counted (expr_counts index) store.traffic given.1.traffic)
      (value_counts setting index store)
      (λ at h. then_ok (place_of at.1 name at.0) _ (λ place. Unit {0})
      (λ given. Counted (expr_counts index) store.traffic given.1.traffic)
      (any_ok (place_of at.1 name at.0)) (λ place _. h))
  value_counts setting tree.Pop store =
      then_ok (item_popped (slice_get setting.port.front store.traffic.popped) store.traffic) _
      (λ taken. Moves store.traffic taken.1 one_pop)
      (λ given. Moves store.traffic given.1.traffic one_pop)
      (pop_counts store.traffic (slice_get setting.port.front store.traffic.popped)) (λ taken h. h)
  value_counts setting (tree.Peek index) store =
      then_ok (value_of setting index store) _
      (λ at. Counted (expr_counts index) store.traffic at.1.traffic)
      (λ given. Counted (expr_counts index) store.traffic given.1.traffic)
      (value_counts setting index store)
      (λ at h. then_ok (peeked_from setting.port at.0 at.1.traffic) _ (λ item. Unit {0})
      (λ given. Counted (expr_counts index) store.traffic given.1.traffic)
      (any_ok (peeked_from setting.port at.0 at.1.traffic)) (λ item _. h))
  value_counts setting (tree.Call name arguments) store =
      let x = arguments_counts arguments in
      then_ok (arguments_given setting arguments store) _
      (λ given. Counted x store.traffic given.1.traffic)
      (λ after. Counted x store.traffic after.1.traffic) (arguments_counted setting arguments store)
      (λ given h.
      let held = values_of (fields_in setting given.1.variables) in
      then_ok (setting.call name given.0 held given.1.traffic.turns) _ (λ called. Unit {0})
      (λ after. Counted x store.traffic after.1.traffic)
      (any_ok (setting.call name given.0 held given.1.traffic.turns))
      (λ called any. more_turns x store.traffic given.1.traffic called.turns h))
  value_counts setting (tree.Group inner) store = value_counts setting inner store
  value_counts setting (tree.Unary operator operand) store =
      then_ok (value_of setting operand store) _
      (λ right. Counted (expr_counts operand) store.traffic right.1.traffic)
      (λ given. Counted (expr_counts operand) store.traffic given.1.traffic)
      (value_counts setting operand store) (λ right h. h)
  value_counts setting (tree.Step operator name) store = stays store.traffic
  value_counts setting (tree.StepElement operator name index) store =
      then_ok (value_of setting index store) _
      (λ at. Counted (expr_counts index) store.traffic at.1.traffic)
      (λ given. Counted (expr_counts index) store.traffic given.1.traffic)
      (value_counts setting index store)
      (λ at h. then_ok (place_of at.1 name at.0) _ (λ place. Unit {0})
      (λ given. Counted (expr_counts index) store.traffic given.1.traffic)
      (any_ok (place_of at.1 name at.0)) (λ place _. h))
  value_counts setting (tree.Binary operator left right) store =
      then_ok (value_of setting left store) _ (λ first. Counted
      (expr_counts left) store.traffic first.1.traffic
      × IfSome (constant left) (λ v. first.0 ≡ v))
      (λ given. Counted (expr_counts (tree.Binary operator left right)) store.traffic
      given.1.traffic)
      (both_ok (value_of setting left store) _ _ (value_counts setting left store)
      (constant_sound setting left store))
      (λ first h. advance_counts value_traffic store.traffic first.1.traffic (expr_counts left)
      (needed (need_of operator left) (expr_counts right))
      (joined operator first (value_of setting right)) h.0
      (joined_counts operator left first (expr_counts right) (value_of setting right) h.1
      (value_counts setting right first.1)))
  value_counts setting (tree.Conditional condition chosen other) store =
      then_ok (value_of setting condition store) _
      (λ test. Counted (expr_counts condition) store.traffic test.1.traffic
      × IfSome (constant condition) (λ v. test.0 ≡ v))
      (λ given. Counted (expr_counts (tree.Conditional condition chosen other)) store.traffic
      given.1.traffic)
      (both_ok (value_of setting condition store) _ _ (value_counts setting condition store)
      (constant_sound setting condition store))
      (λ test h. advance_counts value_traffic store.traffic test.1.traffic (expr_counts condition)
      (branch_counts (constant condition) (expr_counts chosen) (expr_counts other))
      (cond (is_true test.0) (value_of setting chosen test.1) (value_of setting other test.1)) h.0
      (side_counts value_traffic (constant condition) test.0 (expr_counts chosen)
      (expr_counts other) test.1.traffic (value_of setting chosen test.1)
      (value_of setting other test.1) h.1 (value_counts setting chosen test.1)
      (value_counts setting other test.1)))

  pub arguments_counted : (setting : Setting) (arguments : tree.Arguments) (store : Store)
      → IfOk (arguments_given setting arguments store)
      (λ given. Counted (arguments_counts arguments) store.traffic given.1.traffic)
  arguments_counted setting tree.NoArgument store = stays store.traffic
  arguments_counted setting (tree.Argument first rest) store =
      let x = arguments_counts (tree.Argument first rest) in
      then_ok (value_of setting first store) _
      (λ given. Counted (expr_counts first) store.traffic given.1.traffic)
      (λ all. Counted x store.traffic all.1.traffic) (value_counts setting first store)
      (λ given h. then_ok (arguments_given setting rest given.1) _
      (λ others. Counted (arguments_counts rest) given.1.traffic others.1.traffic)
      (λ all. Counted x store.traffic all.1.traffic) (arguments_counted setting rest given.1)
      (λ others k. counted_both store.traffic given.1.traffic others.1.traffic
      (expr_counts first) (arguments_counts rest) h k))

-- ---- assignments

abbrev pub store_traffic : Store → Traffic
store_traffic store = store.traffic

-- a compound assignment reads the variable first, which moves nothing
assigned_value_counts : (setting : Setting) (name : List ℕ) (operator : AssignOperator)
    (value : tree.Expr) (store : Store) → CountedOk value_traffic (expr_counts value) store.traffic
    (value_of setting (assigned_value name operator value) store)
assigned_value_counts setting name assign.Set value store = value_counts setting value store
assigned_value_counts setting name assign.Add value store =
    strict_counts binary.Add (value_in store name, store) (expr_counts value)
    (value_of setting value) (value_counts setting value store)
assigned_value_counts setting name assign.Subtract value store =
    strict_counts binary.Subtract (value_in store name, store) (expr_counts value)
    (value_of setting value) (value_counts setting value store)
assigned_value_counts setting name assign.Multiply value store =
    strict_counts binary.Multiply (value_in store name, store) (expr_counts value)
    (value_of setting value) (value_counts setting value store)
assigned_value_counts setting name assign.Divide value store =
    strict_counts binary.Divide (value_in store name, store) (expr_counts value)
    (value_of setting value) (value_counts setting value store)
assigned_value_counts setting name assign.Remainder value store =
    strict_counts binary.Remainder (value_in store name, store) (expr_counts value)
    (value_of setting value) (value_counts setting value store)

pub assigned_counts : (setting : Setting) (name : List ℕ) (operator : AssignOperator)
    (value : tree.Expr) (store : Store) → CountedOk store_traffic (expr_counts value) store.traffic
    (result_and_then (value_of setting (assigned_value name operator value) store)
    (λ given. Ok (cell_set given.1 name 0 given.0)))
assigned_counts setting name operator value store =
    then_ok (value_of setting (assigned_value name operator value) store) _
    (λ given. Counted (expr_counts value) store.traffic given.1.traffic)
    (λ after. Counted (expr_counts value) store.traffic after.traffic)
    (assigned_value_counts setting name operator value store) (λ given h. h)

joined_element_counts : (setting : Setting) (name : List ℕ) (operator : BinaryOperator)
    (value : tree.Expr) (at : ℤ × Store) → CountedOk store_traffic (expr_counts value) at.1.traffic
    (element_joined setting name operator value at)
joined_element_counts setting name operator value at =
    let Q : Store → Type 0 = λ after. Counted (expr_counts value) at.1.traffic after.traffic in
    then_ok (place_of at.1 name at.0) _ (λ place. Unit {0}) Q (any_ok (place_of at.1 name at.0))
    (λ place _.
    then_ok (value_of setting value at.1) _ (λ given. Counted
    (expr_counts value) at.1.traffic given.1.traffic) Q (value_counts setting value at.1)
    (λ given h. then_ok (binary_value operator (cell_in at.1 name place) given.0) _
    (λ new. Unit {0}) Q (any_ok (binary_value operator (cell_in at.1 name place) given.0))
    (λ new _. h)))

element_counts : (setting : Setting) (name : List ℕ) (operator : AssignOperator) (value : tree.Expr)
    (at : ℤ × Store) → CountedOk store_traffic (expr_counts value) at.1.traffic
    (element_set setting name operator value at)
element_counts setting name assign.Set value at =
    let Q : Store → Type 0 = λ after. Counted (expr_counts value) at.1.traffic after.traffic in
    then_ok (value_of setting value at.1) _ (λ given. Counted
    (expr_counts value) at.1.traffic given.1.traffic) Q (value_counts setting value at.1)
    (λ given h. then_ok (place_of given.1 name at.0) _ (λ place. Unit {0}) Q
    (any_ok (place_of given.1 name at.0)) (λ place _. h))
element_counts setting name assign.Add value at = joined_element_counts setting name binary.Add
    value at
element_counts setting name assign.Subtract value at =
    joined_element_counts setting name binary.Subtract value at
element_counts setting name assign.Multiply value at =
    joined_element_counts setting name binary.Multiply value at
element_counts setting name assign.Divide value at =
    joined_element_counts setting name binary.Divide value at
element_counts setting name assign.Remainder value at =
    joined_element_counts setting name binary.Remainder value at

pub element_assigned_counts : (setting : Setting) (name : List ℕ) (index : tree.Expr)
    (operator : AssignOperator) (value : tree.Expr) (store : Store)
    → CountedOk store_traffic (sequence (expr_counts index) (expr_counts value)) store.traffic
    (result_and_then (value_of setting index store) (element_set setting name operator value))
element_assigned_counts setting name index operator value store =
    then_ok (value_of setting index store) (element_set setting name operator value)
    (λ at. Counted (expr_counts index) store.traffic at.1.traffic)
    (λ after. Counted (sequence (expr_counts index) (expr_counts value)) store.traffic
    after.traffic)
    (value_counts setting index store)
    (λ at h. advance_counts store_traffic store.traffic at.1.traffic (expr_counts index)
    (expr_counts value) (element_set setting name operator value at) h
    (element_counts setting name operator value at))

-- ---- declarations

pub initial_counts : (setting : Setting) (cells : ℕ) (initial : Option tree.Expr) (store : Store)
    → IfOk (initial_cells setting cells initial store)
    (λ given. Counted (option_counts initial) store.traffic given.1.traffic)
initial_counts setting cells None store = stays store.traffic
initial_counts setting cells (Some initial) store =
    then_ok (value_of setting initial store) _
    (λ given. Counted (expr_counts initial) store.traffic given.1.traffic)
    (λ given. Counted (expr_counts initial) store.traffic given.1.traffic)
    (value_counts setting initial store) (λ given h. h)

pub declared_counts : (setting : Setting) (cells : ℕ) (variables : List tree.Variable)
    (store : Store) → CountedOk store_traffic (variables_counts variables) store.traffic
    (variables_declared setting cells variables store)
declared_counts setting cells [] store = stays store.traffic
declared_counts setting cells (first ∷ rest) store =
    then_ok (initial_cells setting cells first.initial store) _
    (λ given. Counted (option_counts first.initial) store.traffic given.1.traffic)
    (λ after. Counted (variables_counts (first ∷ rest)) store.traffic after.traffic)
    (initial_counts setting cells first.initial store)
    (λ given h. advance_counts store_traffic store.traffic given.1.traffic
    (option_counts first.initial) (variables_counts rest)
    (variables_declared setting cells rest (declared_in given.1 first.name given.0)) h
    (declared_counts setting cells rest (declared_in given.1 first.name given.0)))

pub push_counts : (setting : Setting) (item : ℤ) (traffic : Traffic)
    → IfOk (pushed_to setting.port item traffic) (λ after. Moves traffic after one_push)
push_counts setting item traffic = by_test (nat_lt (length traffic.pushes) setting.port.room)
  where
    by_test : (test : Bool) → IfOk (if test then Ok
        (record traffic { pushes = traffic.pushes ++ item ∷ [] }) else Err PeekRange)
        (λ after. Moves traffic after one_push)
    by_test true = record {
      pops = 0;
      pushes = 1;
      popped = omega arith;
      pushed =
          omega (arith, length-append traffic.pushes (item ∷ []));
      saturated_pops =
          omega arith;
      saturated_pushes = omega arith;
    }
    by_test false = tt

-- ---- turns

saturated_more : (n m c t : ℕ) → saturated n ≡ saturated (suc t * c) → saturated m ≡ c
    → saturated (n + m) ≡ saturated (suc (suc t) * c)
saturated_more n m c t e f = omega arith

-- one more turn
pub one_more_counted : (t : ℕ) (a b c : Traffic) (x : Option Counts) → Counted (repeated t x) a b
    → Counted x b c → Counted (repeated (t + 1) x) a c
one_more_counted t a b c x h k = subst (λ n. Counted (repeated n x) a c) (sym (add-one t))
    (next t x h k)
  where
    next : (n : ℕ) (y : Option Counts) → Counted (repeated n y) a b → Counted y b c
        → Counted (repeated (suc n) y) a c
    next n None h k = tt
    next zero (Some y) h k =
        let sum = one_after a b c no_items y h k in
        let pops = k.saturated_pops in
        let pushes = k.saturated_pushes in
        moves_same a c (added no_items y) (multiplied 1 y) (omega arith) (omega arith) sum
    next (suc n) (Some y) h k =
        let before_pops = h.popped in
        let before_pushes = h.pushed in
        let more_pops = k.popped in
        let more_pushes = k.pushed in
        record {
          pops = h.pops + k.pops;
          pushes = h.pushes + k.pushes;
          popped = omega arith;
          pushed = omega arith;
          saturated_pops = saturated_more h.pops k.pops y.pops n h.saturated_pops k.saturated_pops;
          saturated_pushes = saturated_more h.pushes k.pushes y.pushes n h.saturated_pushes
              k.saturated_pushes;
        }
