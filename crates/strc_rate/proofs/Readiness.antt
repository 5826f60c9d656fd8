-- What is known where a firing comes to a place of its text: the intervals of variables, and how
-- many items it has popped.
use Rattle.std.proofs.Common.{◌≡◌, refl, sym, subst, ◌∙◌, ap, ℕ, zero, suc, ◌+◌, ◌-◌, ◌*◌, ◌<◌, ◌≤◌}
use Rattle.std.proofs.Common.{ℤ, pos, Bool, true, false, cond, ◌||◌, List, [], ◌∷◌, length, take}
use Rattle.std.proofs.Common.{drop, get_or, replicate, Option, Some, None, arith}
use Rattle.std.specs.Prelude.{bytes_eq, is_some, if◌then◌else◌}
use Rattle.std.specs.Option.{IfSome}
use Rattle.std.specs.Result.{IfOk}
use Rattle.std.proofs.Math.Nat.{mul-le-mul_right}
use Rattle.std.proofs.lemmas.List.{length-replicate}
use Rattle.std.proofs.lemmas.Result.{IfOk-weaker}
use Rattle.strc_parse_tree.specs.Tree as tree
use Rattle.strc_parse_tree.specs.declared.tree.BinaryOperator.{BinaryOperator}
use Rattle.strc_parse_tree.specs.declared.tree.BinaryOperator.TheVariants as binary
use Rattle.strc_work_meaning.specs.Arithmetic.{is_true}
use Rattle.strc_work_meaning.specs.Constants.{decides}
use Rattle.strc_work_meaning.specs.Scoping.{Scope, is_declared, cells_of, with_declared}
use Rattle.strc_work_meaning.specs.Scoping.{names_after}
use Rattle.strc_work_meaning.specs.Closed.{FitsInitial}
use Rattle.strc_rate.proofs.Unreturned.{IsPlain}
use Rattle.strc_work_meaning.specs.Firing.{Setting, Traffic, Store, Variables, cells_named}
use Rattle.strc_work_meaning.specs.Firing.{value_in}
use Rattle.strc_work_meaning.specs.Firing.{value_of, initial_cells, declared_in, condition_value}
use Rattle.strc_work_meaning.specs.Firing.{inside, stmt_done}
use Rattle.strc_rate.proofs.Scopes.{scope_of}
use Rattle.strc_lex_names.specs.Names.{has_name}
use Rattle.strc_rate_intervals.specs.Constant.{constant}
use Rattle.strc_work_writes.specs.LocalWrites.{with_locals, locals_after, declares, shadows}
use Rattle.strc_work_writes.specs.LocalWrites.{expr_writes}
use Rattle.strc_work_writes.specs.LocalWrites.{option_writes, stmt_writes}
use Rattle.strc_rate.specs.Counts.{Counts, saturated, no_items, same_counts, sequence, if_equal}
use Rattle.strc_rate.specs.Counts.{require_zero, repeated, branch_counts, Need, needed, need_by}
use Rattle.strc_rate.specs.Counts.{need_of, expr_counts, option_counts, stmt_counts}
use Rattle.strc_rate_intervals.specs.declared.interval.Interval.{Interval}
use Rattle.strc_rate_intervals.specs.Intervals.{Intervals, with_unknown, intervals_after}
use Rattle.strc_rate_intervals.specs.Intervals.{interval_named}
use Rattle.strc_rate.specs.Peeks.{PopInterval, pops_of, advance, in_turns}
use Rattle.strc_rate_intervals.specs.Intervals.{names_of}
use Rattle.strc_rate.proofs.Results.{or_first, or_second, then_ok, both_ok, above, below_all}
use Rattle.strc_rate.proofs.Results.{above_more}
use Rattle.strc_rate.proofs.Keeping.{Same, same_refl, same_cells, value_same, whole_inner}
use Rattle.strc_rate.proofs.Unwritten.{Done, scope_length, inside_same, stmt_keeps}
use Rattle.strc_rate.proofs.LoopParts.{Seen, seen_after, seen_inner}
use Rattle.strc_rate.proofs.CountedMoves.{Moves, Counted, stays, same_pops, value_counts}
use Rattle.strc_rate.proofs.StatementCounts.{inside_counts, stmt_counted}
use Rattle.strc_rate.proofs.IntervalValues.{Within, Holds}

-- ---- parts that are counted

pub both_first : (x y : Option Counts) → is_some (sequence x y) ≡ true → is_some x ≡ true
both_first None y e = e
both_first (Some x) y e = refl

pub both_second : (x y : Option Counts) → is_some (sequence x y) ≡ true → is_some y ≡ true
both_second None y e = absurd (cc)
both_second (Some x) None e = e
both_second (Some x) (Some y) e = refl

either_first : (x y : Option Counts) → is_some (if_equal x y) ≡ true → is_some x ≡ true
either_first None y e = e
either_first (Some x) y e = refl

either_second : (x y : Option Counts) → is_some (if_equal x y) ≡ true → is_some y ≡ true
either_second None y e = absurd (cc)
either_second (Some x) None e = e
either_second (Some x) (Some y) e = refl

-- the side that is taken is counted
side_by : (t : Bool) (x y : Option Counts) → is_some (if t then x else y) ≡ true
    → (t ≡ true → is_some x ≡ true) × (t ≡ false → is_some y ≡ true)
side_by true x y e = (λ f. e, λ f. absurd (cc))
side_by false x y e = (λ f. absurd (cc), λ f. e)

pub side_some : (known : Option ℤ) (value : ℤ) (x y : Option Counts) → IfSome known (λ v. value ≡ v)
    → is_some (branch_counts known x y) ≡ true
    → (is_true value ≡ true → is_some x ≡ true) × (is_true value ≡ false → is_some y ≡ true)
side_some None value x y is e = (λ f. either_first x y e, λ f. either_second x y e)
side_some (Some v) value x y is e =
    side_by (is_true value) x y (subst (λ u. is_some (if is_true u then x else y) ≡ true)
    (sym is) e)

-- what must count nothing is counted, and pops nothing
pub nothing_some : (x : Option Counts) → is_some (require_zero x) ≡ true → is_some x ≡ true
nothing_some None e = e
nothing_some (Some x) e = refl

none_popped_by : (x : Counts) (t : Bool) → same_counts no_items x ≡ t
    → is_some (if t then Some no_items else None) ≡ true → x.pops ≡ 0
none_popped_by x true same e = sym (same_pops no_items x same)
none_popped_by x false same e = absurd (cc)

pub nothing_popped : (x : Option Counts) → is_some (require_zero x) ≡ true → pops_of x ≡ 0
nothing_popped None e = refl
nothing_popped (Some x) e = none_popped_by x (same_counts no_items x) refl e

needed_by : (operator : BinaryOperator) (known : Option ℤ) (value : ℤ) (x : Option Counts)
    → IfSome known (λ v. value ≡ v) → is_some (needed (need_by operator known) x) ≡ true
    → decides operator value ≡ false → is_some x ≡ true
needed_by operator None value x is e f = nothing_some x e
needed_by operator (Some v) value x is e f =
    let same : decides operator v ≡ false = ap (decides operator) (sym is) ∙ f in
    always (decides operator v) same e
  where
    always : (t : Bool) → t ≡ false → is_some (needed (if t then Need.Never else Need.Always) x)
        ≡ true → is_some x ≡ true
    always false g h = h
    always true g h = absurd (cc)

-- a right side that runs is counted
pub right_some : (operator : BinaryOperator) (left : tree.Expr) (value : ℤ) (x : Option Counts)
    → IfSome (constant left) (λ v. value ≡ v) → is_some (needed (need_of operator left) x) ≡ true
    → decides operator value ≡ false → is_some x ≡ true
right_some binary.LogicalOr left value x is e f =
    needed_by binary.LogicalOr (constant left) value x is e f
right_some binary.LogicalAnd left value x is e f =
    needed_by binary.LogicalAnd (constant left) value x is e f
right_some binary.Or left value x is e f = e
right_some binary.ExclusiveOr left value x is e f = e
right_some binary.And left value x is e f = e
right_some binary.Equal left value x is e f = e
right_some binary.NotEqual left value x is e f = e
right_some binary.Less left value x is e f = e
right_some binary.LessOrEqual left value x is e f = e
right_some binary.Greater left value x is e f = e
right_some binary.GreaterOrEqual left value x is e f = e
right_some binary.ShiftLeft left value x is e f = e
right_some binary.ShiftRight left value x is e f = e
right_some binary.Add left value x is e f = e
right_some binary.Subtract left value x is e f = e
right_some binary.Multiply left value x is e f = e
right_some binary.Divide left value x is e f = e
right_some binary.Remainder left value x is e f = e

-- ---- items popped

-- after a part that was counted no more are popped than is known
within_after : (a b : Traffic) (popped : PopInterval) (x : Option Counts) → is_some x ≡ true
    → Counted x a b → saturated a.popped ≤ popped.high
    → saturated b.popped ≤ (advance popped x).high
within_after a b popped None e h le = absurd (cc)
within_after a b popped (Some x) e h le =
    let more = h.popped in
    let size = h.saturated_pops in
    omega arith

turns_pops : (a b : Traffic) (high t turns : ℕ) (x : Counts) → suc t ≤ turns - 1
    → Moves a b (record {
      pushes = saturated (suc t * x.pushes);
      pops =
          saturated (suc t * x.pops);
    }) → saturated a.popped ≤ high
    → saturated b.popped ≤ saturated (high + (turns - 1) * x.pops)
turns_pops a b high t turns x le h within =
    let more = h.popped in
    let size = h.saturated_pops in
    let most : suc t * x.pops ≤ (turns - 1) * x.pops = mul-le-mul_right x.pops le in
    omega arith

-- in a turn of a loop
pub within_turns : (a b : Traffic) (popped : PopInterval) (t turns : ℕ) (x : Option Counts)
    → is_some x ≡ true → suc t ≤ turns → Counted (repeated t x) a b
    → saturated a.popped ≤ popped.high → saturated b.popped ≤ (in_turns popped turns x).high
within_turns a b popped t turns None e lt h le = absurd (cc)
within_turns a b popped zero turns (Some x) e lt h le =
    let more = h.popped in
    let size = h.saturated_pops in
    omega arith
within_turns a b popped (suc t) turns (Some x) e lt h le =
    turns_pops a b popped.high t turns x (omega arith) h le

-- ---- intervals

-- variables of known intervals aren't written
abbrev pub Fixed : Intervals → (List ℕ → Bool) → Type 0
Fixed intervals writes = (name : List ℕ) → is_some (interval_named intervals name) ≡ true
    → writes name ≡ false

holds_by : (interval : Option Interval) (old new : ℤ) → (is_some interval ≡ true → new ≡ old)
    → IfSome interval (λ r. Within r old) → IfSome interval (λ r. Within r new)
holds_by None old new same h = tt
holds_by (Some interval) old new same h = subst (Within interval) (sym (same refl)) h

named_by : (first : List ℕ × Option Interval) (rest : Intervals) (name : List ℕ) (t : Bool)
    → (is_some (interval_named rest name) ≡ true → has_name (names_of rest) name ≡ true)
    → is_some (cond t first.1 (interval_named rest name)) ≡ true
    → t || has_name (names_of rest) name ≡ true
named_by first rest name true inside e = refl
named_by first rest name false inside e = inside e

-- a variable of a known interval is a local one
pub known_named : (intervals : Intervals) (name : List ℕ)
    → is_some (interval_named intervals name) ≡ true
    → has_name (names_of intervals) name ≡ true
known_named [] name e = absurd (cc)
known_named (first ∷ rest) name e =
    named_by first rest name (bytes_eq first.0 name) (known_named rest name) e

-- intervals hold as long as the cells are the same
holds_same : (intervals : Intervals) (before after : Store)
    → ((name : List ℕ) → is_some (interval_named intervals name) ≡ true
    → cells_named after.variables name ≡ cells_named before.variables name) → Holds intervals before
    → Holds intervals after
holds_same intervals before after same h name =
    holds_by (interval_named intervals name) (value_in before name) (value_in after name)
    (λ e. ap (λ c. get_or c 0 (pos 0)) (same name e)) (h name)

-- the names after a statement
names_unknown : (intervals : Intervals) (variables : List tree.Variable)
    → names_of (with_unknown intervals variables) ≡ with_locals (names_of intervals) variables
names_unknown intervals [] = refl
names_unknown intervals (first ∷ rest) = names_unknown
    (record { 0 = first.name; 1 = None } ∷ intervals) rest

pub names_after_intervals : (intervals : Intervals) (s : tree.Stmt)
    → names_of (intervals_after intervals s) ≡ locals_after (names_of intervals) s
names_after_intervals intervals (tree.Declare kind variables) = names_unknown intervals variables
names_after_intervals intervals tree.Empty = refl
names_after_intervals intervals (tree.Compose statement) = refl
names_after_intervals intervals (tree.Block body) = refl
names_after_intervals intervals (tree.Evaluate value) = refl
names_after_intervals intervals (tree.Assign assigned operator value) = refl
names_after_intervals intervals (tree.AssignElement array index operator value) = refl
names_after_intervals intervals (tree.If condition chosen) = refl
names_after_intervals intervals (tree.IfElse condition chosen other) = refl
names_after_intervals intervals (tree.While condition body) = refl
names_after_intervals intervals (tree.For first condition step body) = refl
names_after_intervals intervals (tree.Push value) = refl
names_after_intervals intervals (tree.Print value) = refl
names_after_intervals intervals (tree.Println value) = refl
names_after_intervals intervals (tree.Return value) = refl

-- a name whose interval is known after a declaration isn't declared there, and its interval was
-- known before
unknown_by : (intervals : Intervals) (first : List ℕ) (name : List ℕ) (t : Bool)
    → is_some (cond t None (interval_named intervals name)) ≡ true
    → (is_some (interval_named intervals name) ≡ true) × (t ≡ false)
unknown_by intervals first name true e = absurd (cc)
unknown_by intervals first name false e = (e, refl)

neither : (a b : Bool) → a ≡ false → b ≡ false → (a || b) ≡ false
neither true b e f = e
neither false b e f = f

unknown_before : (intervals : Intervals) (variables : List tree.Variable) (name : List ℕ)
    → is_some (interval_named (with_unknown intervals variables) name) ≡ true
    → (is_some (interval_named intervals name) ≡ true) × (declares name variables ≡ false)
unknown_before intervals [] name e = (e, refl)
unknown_before intervals (first ∷ rest) name e =
    let later = unknown_before (record { 0 = first.name; 1 = None } ∷ intervals) rest name e in
    let here = unknown_by intervals first.name name (bytes_eq first.name name) later.0 in
    (here.0, neither (bytes_eq first.name name) (declares name rest) here.1 later.1)

pub known_before : (intervals : Intervals) (s : tree.Stmt) (name : List ℕ)
    → is_some (interval_named (intervals_after intervals s) name) ≡ true
    → (is_some (interval_named intervals name) ≡ true) × (shadows name s ≡ false)
known_before intervals (tree.Declare kind variables) name e =
    unknown_before intervals variables name e
known_before intervals tree.Empty name e = (e, refl)
known_before intervals (tree.Compose statement) name e = (e, refl)
known_before intervals (tree.Block body) name e = (e, refl)
known_before intervals (tree.Evaluate value) name e = (e, refl)
known_before intervals (tree.Assign assigned operator value) name e = (e, refl)
known_before intervals (tree.AssignElement array index operator value) name e = (e, refl)
known_before intervals (tree.If condition chosen) name e = (e, refl)
known_before intervals (tree.IfElse condition chosen other) name e = (e, refl)
known_before intervals (tree.While condition body) name e = (e, refl)
known_before intervals (tree.For first condition step body) name e = (e, refl)
known_before intervals (tree.Push value) name e = (e, refl)
known_before intervals (tree.Print value) name e = (e, refl)
known_before intervals (tree.Println value) name e = (e, refl)
known_before intervals (tree.Return value) name e = (e, refl)

-- and so is the interval itself
interval_by : (intervals : Intervals) (name : List ℕ) (t : Bool) → t ≡ false
    → cond t None (interval_named intervals name) ≡ interval_named intervals name
interval_by intervals name true e = absurd (cc)
interval_by intervals name false e = refl

interval_unknown : (intervals : Intervals) (variables : List tree.Variable) (name : List ℕ)
    → declares name variables ≡ false → interval_named (with_unknown intervals variables) name
    ≡ interval_named intervals name
interval_unknown intervals [] name e = refl
interval_unknown intervals (first ∷ rest) name e =
    interval_unknown (record { 0 = first.name; 1 = None } ∷ intervals) rest name
    (or_second (bytes_eq first.name name) _ e)
    ∙ interval_by intervals name (bytes_eq first.name name)
    (or_first (bytes_eq first.name name) _ e)

interval_after : (intervals : Intervals) (s : tree.Stmt) (name : List ℕ) → shadows name s ≡ false
    → interval_named (intervals_after intervals s) name ≡ interval_named intervals name
interval_after intervals (tree.Declare kind variables) name e =
    interval_unknown intervals variables name e
interval_after intervals tree.Empty name e = refl
interval_after intervals (tree.Compose statement) name e = refl
interval_after intervals (tree.Block body) name e = refl
interval_after intervals (tree.Evaluate value) name e = refl
interval_after intervals (tree.Assign assigned operator value) name e = refl
interval_after intervals (tree.AssignElement array index operator value) name e = refl
interval_after intervals (tree.If condition chosen) name e = refl
interval_after intervals (tree.IfElse condition chosen other) name e = refl
interval_after intervals (tree.While condition body) name e = refl
interval_after intervals (tree.For first condition step body) name e = refl
interval_after intervals (tree.Push value) name e = refl
interval_after intervals (tree.Print value) name e = refl
interval_after intervals (tree.Println value) name e = refl
interval_after intervals (tree.Return value) name e = refl

-- ---- variables that are not shadowed

-- the cells of a name are after variables of other names
cells_by : (first : List ℕ × List ℤ) (rest : Variables) (name : List ℕ) (t : Bool) → t ≡ false
    → cond t first.1 (cells_named rest name) ≡ cells_named rest name
cells_by first rest name true e = absurd (cc)
cells_by first rest name false e = refl

cells_after : (k : ℕ) (variables : Variables) (name : List ℕ)
    → is_declared (take k (scope_of variables)) name ≡ false
    → cells_named variables name ≡ cells_named (drop k variables) name
cells_after zero variables name bare = refl
cells_after (suc k) [] name bare = refl
cells_after (suc k) (first ∷ rest) name bare =
    cells_by first rest name (bytes_eq first.0 name) (or_first (bytes_eq first.0 name) _ bare)
    ∙ cells_after k rest name (or_second (bytes_eq first.0 name) _ bare)

shown_declared : (variables : List tree.Variable) (scope : Scope) (cells n : ℕ) (name : List ℕ)
    → n ≤ length scope → is_declared (above n scope) name ≡ false → declares name variables ≡ false
    → is_declared (above n (with_declared scope cells variables)) name ≡ false
shown_declared [] scope cells n name le bare e = bare
shown_declared (first ∷ rest) scope cells n name le bare e =
    shown_declared rest (record { 0 = first.name; 1 = cells } ∷ scope) cells n name (omega arith)
    (ap (λ s. is_declared s name) (above_more n (record { 0 = first.name; 1 = cells }) scope le)
    ∙ neither (bytes_eq first.name name) (is_declared (above n scope) name)
    (or_first (bytes_eq first.name name) _ e) bare)
    (or_second (bytes_eq first.name name) _ e)

shown : (s : tree.Stmt) (scope : Scope) (n : ℕ) (name : List ℕ) → n ≤ length scope
    → is_declared (above n scope) name ≡ false → shadows name s ≡ false
    → is_declared (above n (names_after scope s)) name ≡ false
shown (tree.Declare kind variables) scope n name le bare e =
    shown_declared variables scope (cells_of kind) n name le bare e
shown tree.Empty scope n name le bare e = bare
shown (tree.Compose statement) scope n name le bare e = bare
shown (tree.Block body) scope n name le bare e = bare
shown (tree.Evaluate value) scope n name le bare e = bare
shown (tree.Assign assigned operator value) scope n name le bare e = bare
shown (tree.AssignElement array index operator value) scope n name le bare e = bare
shown (tree.If condition chosen) scope n name le bare e = bare
shown (tree.IfElse condition chosen other) scope n name le bare e = bare
shown (tree.While condition body) scope n name le bare e = bare
shown (tree.For first condition step body) scope n name le bare e = bare
shown (tree.Push value) scope n name le bare e = bare
shown (tree.Print value) scope n name le bare e = bare
shown (tree.Println value) scope n name le bare e = bare
shown (tree.Return value) scope n name le bare e = bare

-- what a statement neither writes nor shadows has the same cells
done_cells : (fields : ℕ) (s : tree.Stmt) (before after : Variables) (name : List ℕ)
    → Done fields (λ n. stmt_writes n s) (names_after (scope_of before) s) before after
    → is_declared (above fields (scope_of before)) name ≡ true → stmt_writes name s ≡ false
    → shadows name s ≡ false → cells_named after name ≡ cells_named before name
done_cells fields s before after name done inner unwritten bare =
    let size : length (scope_of before) ≡ length before = scope_length before in
    let none : length (scope_of before) - length before ≡ 0 = omega arith in
    let empty : is_declared (above (length before) (scope_of before)) name ≡ false =
    ap (λ k. is_declared (take k (scope_of before)) name) none in
    let shadowing : take (length after - length before) (scope_of after)
    ≡ above (length before) (names_after (scope_of before) s) =
    ap (λ k. take (k - length before) (scope_of after)) (sym (scope_length after))
    ∙ ap (above (length before)) done.exact in
    cells_after (length after - length before) after name
    (ap (λ l. is_declared l name) shadowing ∙ shown s (scope_of before) (length before) name
    (omega arith) empty bare)
    ∙ done.grown.cells (length before) name (omega arith)
    (whole_inner fields before name inner) (λ e. unwritten)
    ∙ ap (λ v. cells_named v name) (below_all before)

-- ---- places of the text

-- what is known at a place: the local variables, their intervals, and how many items are popped at
-- most
pub record Ready (fields : ℕ) (intervals : Intervals) (popped : PopInterval) (store : Store)
    : Type 0 where
  pub seen : Seen fields (names_of intervals) (scope_of store.variables)
  pub holds : Holds intervals store
  pub within : saturated store.traffic.popped ≤ popped.high

-- a variable of a known interval is no field
pub known_inner : (fields : ℕ) (intervals : Intervals) (popped : PopInterval) (store : Store)
    (name : List ℕ) → Ready fields intervals popped store
    → is_some (interval_named intervals name) ≡ true
    → is_declared (above fields (scope_of store.variables)) name ≡ true
known_inner fields intervals popped store name ready known =
    seen_inner fields (names_of intervals) (scope_of store.variables) name ready.seen
    (known_named intervals name known)

-- after a part that pops nothing
pub ready_still : (fields : ℕ) (intervals : Intervals) (popped : PopInterval) (x : Option Counts)
    (store : Store)
    → is_some (require_zero x) ≡ true → Ready fields intervals (advance popped x) store
    → Ready fields intervals popped store
ready_still fields intervals popped x store e ready =
    let none = nothing_popped x e in
    let within = ready.within in
    record {
      seen = ready.seen;
      holds = ready.holds;
      within =
          omega arith;
    }

-- after a part that leaves the variables
ready_same : (fields : ℕ) (writes : List ℕ → Bool) (intervals : Intervals) (popped : PopInterval)
    (x : Option Counts) (before after : Store) → is_some x ≡ true → Fixed intervals writes
    → Ready fields intervals popped before → Counted x before.traffic after.traffic
    → Same fields writes before.variables after.variables → Ready fields intervals
    (advance popped x) after
ready_same fields writes intervals popped x before after e fixed ready moves same = record {
  seen = subst (Seen fields (names_of intervals)) (sym same.shape) ready.seen;
  holds = holds_same intervals before after
      (λ name known. same_cells fields writes before.variables after.variables name same
      (known_inner fields intervals popped before name ready known) (fixed name known)) ready.holds;
  within = within_after before.traffic after.traffic popped x e moves ready.within;
}

pub ready_value : (setting : Setting) (e : tree.Expr) (intervals : Intervals) (popped : PopInterval)
    (store : Store) → is_some (expr_counts e) ≡ true → Fixed intervals (λ name. expr_writes name e)
    → Ready setting.fields intervals popped store → IfOk (value_of setting e store)
    (λ given. Ready setting.fields intervals (advance popped (expr_counts e)) given.1)
ready_value setting e intervals popped store counted fixed ready =
    let writes : List ℕ → Bool = λ name. expr_writes name e in
    IfOk-weaker (value_of setting e store) (λ given. Counted
    (expr_counts e) store.traffic given.1.traffic
    × Same setting.fields writes store.variables given.1.variables) _
    (λ given h. ready_same setting.fields writes intervals popped
    (expr_counts e) store given.1 counted fixed ready h.0 h.1)
    (both_ok (value_of setting e store) _ _ (value_counts setting e store)
    (value_same setting e store))

pub ready_stmt : (setting : Setting) (s : tree.Stmt) (names : Scope) (intervals : Intervals)
    (popped : PopInterval) (store : Store) → IsPlain names s
    → is_some (stmt_counts (names_of intervals) s) ≡ true
    → Fixed intervals (λ name. stmt_writes name s) → Ready setting.fields intervals popped store
    → IfOk (stmt_done setting s store) (Ready setting.fields (intervals_after intervals s)
    (advance popped (stmt_counts (names_of intervals) s)))
ready_stmt setting s names intervals popped store closed counted fixed ready =
    let scope = names_after (scope_of store.variables) s in
    IfOk-weaker (stmt_done setting s store) (λ after. Counted
    (stmt_counts (names_of intervals) s) store.traffic after.traffic
    × Done setting.fields (λ name. stmt_writes name s) scope store.variables after.variables) _
    (λ after h. record {
      seen = subst (Seen setting.fields (names_of (intervals_after intervals s))) (sym h.1.exact)
          (subst (λ l. Seen setting.fields l scope) (sym (names_after_intervals intervals s))
          (seen_after setting.fields s (names_of intervals)
          (scope_of store.variables) names closed.0 ready.seen));
      holds = λ name. later after h.1 name (known_before intervals s name);
      within = within_after store.traffic after.traffic popped
          (stmt_counts (names_of intervals) s) counted h.0 ready.within;
    })
    (both_ok (stmt_done setting s store) _ _
    (stmt_counted setting s (names_of intervals) names store closed ready.seen)
    (stmt_keeps setting s names store closed))
  where
    later : (after : Store) → Done setting.fields (λ name. stmt_writes name s)
        (names_after (scope_of store.variables) s) store.variables after.variables → (name : List ℕ)
        → (is_some (interval_named (intervals_after intervals s) name) ≡ true
        → (is_some (interval_named intervals name) ≡ true) × (shadows name s ≡ false))
        → IfSome (interval_named (intervals_after intervals s) name)
        (λ interval. Within interval (value_in after name))
    later after done name before = by_interval
        (interval_named (intervals_after intervals s) name) refl
      where
        by_interval : (interval : Option Interval)
            → interval_named (intervals_after intervals s) name ≡ interval
            → IfSome interval (λ r. Within r (value_in after name))
        by_interval None e = tt
        by_interval (Some interval) e =
            let old = before (ap is_some e) in
            let same : value_in after name ≡ value_in store name =
            ap (λ c. get_or c 0 (pos 0))
            (done_cells setting.fields s store.variables after.variables name done
            (known_inner setting.fields intervals popped store name ready old.0)
            (fixed name old.0) old.1) in
            let was : interval_named intervals name ≡ Some interval =
            sym (interval_after intervals s name old.1) ∙ e in
            subst (Within interval) (sym same)
            (subst (λ r. IfSome r (λ q. Within q (value_in store name))) was (ready.holds name))

-- a statement in a scope of its own
pub ready_inside : (setting : Setting) (s : tree.Stmt) (names : Scope) (intervals : Intervals)
    (popped : PopInterval) (store : Store) → IsPlain names s
    → is_some (stmt_counts (names_of intervals) s) ≡ true
    → Fixed intervals (λ name. stmt_writes name s) → Ready setting.fields intervals popped store
    → IfOk (inside (stmt_done setting s) store)
    (Ready setting.fields intervals (advance popped (stmt_counts (names_of intervals) s)))
ready_inside setting s names intervals popped store closed counted fixed ready =
    let writes : List ℕ → Bool = λ name. stmt_writes name s in
    IfOk-weaker (inside (stmt_done setting s) store)
    (λ after. Counted (stmt_counts (names_of intervals) s) store.traffic after.traffic
    × Same setting.fields writes store.variables after.variables) _
    (λ after h. ready_same setting.fields writes intervals popped
    (stmt_counts (names_of intervals) s) store after counted fixed ready h.0 h.1)
    (both_ok (inside (stmt_done setting s) store) _ _
    (inside_counts (stmt_counts (names_of intervals) s) (stmt_done setting s) store
    (stmt_counted setting s (names_of intervals) names store closed ready.seen))
    (inside_same setting.fields writes writes (stmt_done setting s) store (λ name e. e)
    (IfOk-weaker (stmt_done setting s store)
    (λ after. Done setting.fields writes (names_after (scope_of store.variables) s) store.variables
    after.variables) _ (λ after k. k.grown) (stmt_keeps setting s names store closed))))

-- a condition
pub ready_condition : (setting : Setting) (condition : Option tree.Expr) (intervals : Intervals)
    (popped : PopInterval) (store : Store) → is_some (option_counts condition) ≡ true
    → Fixed intervals (λ name. option_writes name condition)
    → Ready setting.fields intervals popped store → IfOk (condition_value setting condition store)
    (λ given. Ready setting.fields intervals (advance popped (option_counts condition)) given.1)
ready_condition setting None intervals popped store counted fixed ready =
    ready_same setting.fields (λ name. false) intervals popped (Some no_items) store store counted
    (λ name e. refl) ready (stays store.traffic) (same_refl setting.fields
    (λ name. false) store.variables)
ready_condition setting (Some condition) intervals popped store counted fixed ready =
    ready_value setting condition intervals popped store counted fixed ready

-- a new variable, whose interval isn't known
ready_declared : (fields : ℕ) (intervals : Intervals) (popped : PopInterval) (name : List ℕ)
    (cells : List ℤ) (store : Store) → 1 ≤ length cells → Ready fields intervals popped store
    → Ready fields (record { 0 = name; 1 = None } ∷ intervals) popped (declared_in store name cells)
ready_declared fields intervals popped name cells store some ready = record {
  seen = (refl, some, ready.seen);
  holds = λ other. by_test other (bytes_eq name other);
  within = ready.within;
}
  where
    by_test : (other : List ℕ) (t : Bool)
        → IfSome (cond t None (interval_named intervals other))
        (λ r. Within r (get_or (cond t cells (cells_named store.variables other)) 0 (pos 0)))
    by_test other true = tt
    by_test other false = ready.holds other

pub ready_initial : (setting : Setting) (cells : ℕ) (name : List ℕ) (initial : Option tree.Expr)
    (intervals : Intervals) (popped : PopInterval) (store : Store) → FitsInitial cells initial
    → is_some (option_counts initial) ≡ true → Fixed intervals (λ n. option_writes n initial)
    → Ready setting.fields intervals popped store → IfOk (initial_cells setting cells initial store)
    (λ given. Ready setting.fields (record { 0 = name; 1 = None } ∷ intervals)
    (advance popped (option_counts initial)) (declared_in given.1 name given.0))
ready_initial setting cells name None intervals popped store fits counted fixed ready =
    ready_declared setting.fields intervals (advance popped (Some no_items)) name
    (replicate cells (pos 0)) store (omega (arith, length-replicate cells (pos 0)))
    (ready_same setting.fields (λ n. false) intervals popped (Some no_items) store store counted
    (λ n e. refl) ready (stays store.traffic) (same_refl setting.fields
    (λ n. false) store.variables))
ready_initial setting cells name (Some initial) intervals popped store fits counted fixed ready =
    then_ok (value_of setting initial store) _
    (λ given. Ready setting.fields intervals (advance popped (expr_counts initial)) given.1)
    (λ given. Ready setting.fields (record { 0 = name; 1 = None } ∷ intervals)
    (advance popped (expr_counts initial)) (declared_in given.1 name given.0))
    (ready_value setting initial intervals popped store counted fixed ready)
    (λ given h. ready_declared setting.fields intervals (advance popped (expr_counts initial)) name
    (given.0 ∷ []) given.1 (omega arith) h)

-- what runs in a turn is counted
pub repeated_some : (turns : ℕ) (t : ℕ) (x : Option Counts) → t < turns
    → is_some (repeated turns x) ≡ true → is_some x ≡ true
repeated_some zero t x lt e = absurd (omega arith)
repeated_some (suc turns) t None lt e = e
repeated_some (suc turns) t (Some x) lt e = refl
