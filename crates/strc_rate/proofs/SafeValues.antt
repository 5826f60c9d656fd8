-- A closed peek of an expression finds its item.
use Rattle.std.proofs.Common.{◌≡◌, refl, sym, ◌∙◌, ℕ, zero, suc, ◌+◌, ◌<◌, ◌≤◌, ℤ, pos, negsuc}
use Rattle.std.proofs.Common.{◌+ℤ◌, Bool}
use Rattle.std.proofs.Common.{true, false, not, ◌&&◌, List, [], ◌∷◌, length, get_or, Option, Some}
use Rattle.std.proofs.Common.{None}
use Rattle.std.proofs.Common.{arith}
use Rattle.std.specs.Prelude.{is_some, IsSome, slice_get, if◌then◌else◌}
use Rattle.std.specs.Option.{IfSome}
use Rattle.std.specs.Result.{IfOk}
use Rattle.std.specs.Int.RustNames.{int_lt}
use Rattle.std.specs.Int.Signed.{◌≤ℤ◌, ◌<ℤ◌}
use Rattle.std.proofs.lemmas.Int.{ints}
use Rattle.std.proofs.lemmas.Result.{IfOk-weaker}
use Rattle.strc_parse_tree.specs.Tree as tree
use Rattle.strc_work_meaning.specs.Arithmetic.{is_true}
use Rattle.strc_work_meaning.specs.Constants.{decides}
use Rattle.strc_work_meaning.specs.Firing.{Port, Setting, Store, item_ahead, value_of}
use Rattle.strc_rate_intervals.specs.Constant.{constant}
use Rattle.strc_work_writes.specs.LocalWrites.{expr_writes, exprs_write}
use Rattle.strc_rate.specs.Counts.{saturated, branch_counts, needed, need_of, expr_counts}
use Rattle.strc_rate.specs.Counts.{arguments_counts}
use Rattle.strc_rate.specs.declared.counts.TheConstants.{COUNT_LIMIT}
use Rattle.strc_rate_intervals.specs.declared.interval.Interval.{Interval}
use Rattle.strc_rate_intervals.specs.Intervals.{Intervals, interval_of}
use Rattle.strc_rate.specs.Peeks.{Closed, Outside, Open, PopInterval, pops_of, advance, sight_at}
use Rattle.strc_rate.specs.Peeks.{Reached, is_closed, sides_sites, right_sites, expr_sites}
use Rattle.strc_rate.specs.Peeks.{arguments_sites}
use Rattle.strc_rate.specs.Entries.{peeks_of_expr}
use Rattle.strc_rate.specs.PeeksSafe.{PeekIsSafe, ExprIsSafe, ArgumentsAreSafe}
use Rattle.strc_rate.proofs.Results.{and_first, and_second, or_first, or_second, both_ok, ok_known}
use Rattle.strc_rate.proofs.Results.{match_by}
use Rattle.strc_rate.proofs.EachEntry.{Stand, stand_first, stand_after}
use Rattle.strc_rate.proofs.EachEntry.{stand_chosen, stand_other, stand_right, expr_entries}
use Rattle.strc_rate.proofs.LoopParts.{constant_sound}
use Rattle.strc_rate.proofs.IntervalValues.{IsSound, interval_sound}
use Rattle.strc_rate.proofs.Readiness.{Ready, Fixed, both_first, both_second, side_some}
use Rattle.strc_rate.proofs.Readiness.{right_some}
use Rattle.strc_rate.proofs.Readiness.{ready_value}

-- a firing may look at so many items, and they are there
pub record IsWhole (window : ℕ) (port : Port) : Type 0 where
  pub small : window < COUNT_LIMIT
  pub ahead : window ≤ length port.ahead

pub item_there : {A : Type 0} (items : List A) (place : ℕ) → place < length items
    → is_some (slice_get items place) ≡ true
item_there [] place lt = absurd (omega arith)
item_there (first ∷ rest) zero lt = refl
item_there (first ∷ rest) (suc place) lt = item_there rest place (omega arith)

not_below : (a b : ℤ) → not (int_lt a b) ≡ true → b ≤ℤ a
not_below a b e = grind (arith, ints)

is_below : (a b : ℤ) → int_lt a b ≡ true → a <ℤ b
is_below a b e = grind (arith, ints)

closed_by : (a b : Bool) → (if a then Closed else if b then Outside else Open) ≡ Closed → a ≡ true
closed_by true b e = refl
closed_by false true e = absurd (cc)
closed_by false false e = absurd (cc)

-- the place of an item in the window
place_within : (low high : ℤ) (n p most count window : ℕ) → pos 0 ≤ℤ low
    → (high +ℤ pos (saturated (most + count))) <ℤ pos window → low ≤ℤ pos n → pos n ≤ℤ high
    → saturated p ≤ most → window < COUNT_LIMIT → p + n < window
place_within low high n p most count window a b c d e f =
    let all : n + saturated (most + count) < window = omega (arith, ints) in
    omega arith

value_there : (window : ℕ) (port : Port) → IsWhole window port
    → (popped : PopInterval) (count p : ℕ) (interval : Interval) (v : ℤ) → pos 0 ≤ℤ interval.low
    → (interval.high +ℤ pos (saturated (popped.high + count))) <ℤ pos window → interval.low ≤ℤ v
    → v ≤ℤ interval.high → saturated p ≤ popped.high → IsSome (item_ahead port p v)
value_there window port whole popped count p interval (pos n) a b c d e =
    let small = whole.small in
    let ahead = whole.ahead in
    let lt : p + n < window = place_within interval.low interval.high n p popped.high count window a
    b c d e small in
    item_there port.ahead (p + n) (omega arith)
value_there window port whole popped count p interval (negsuc n) a b c d e =
    absurd (omega (arith, ints))

peek_by : (window : ℕ) (setting : Setting) → IsWhole window setting.port
    → (intervals : Intervals) (popped : PopInterval) (index : tree.Expr) (store : Store)
    (interval : Option Interval) → Ready setting.fields intervals popped store
    → IfSome interval (IsSound intervals index)
    → sight_at window (advance popped (expr_counts index)) interval ≡ Closed
    → IfOk (value_of setting index store) (λ place. IsSome
    (item_ahead setting.port place.1.traffic.popped place.0))
peek_by window setting whole intervals popped index store None ready reported e = absurd (cc)
peek_by window setting whole intervals popped index store (Some interval) ready reported e =
    let value = reported setting store ready.holds in
    let count = pops_of (expr_counts index) in
    let test = closed_by (not (int_lt interval.low (pos 0))
    && int_lt (interval.high +ℤ pos (saturated (popped.high + count))) (pos window)) _ e in
    ok_known (value_of setting index store) (value.value, store)
    (λ place. IsSome (item_ahead setting.port place.1.traffic.popped place.0)) value.done
    (value_there window setting.port whole popped count store.traffic.popped interval value.value
    (not_below interval.low (pos 0) (and_first (not (int_lt interval.low (pos 0))) _ test))
    (is_below (interval.high +ℤ pos (saturated (popped.high + count))) (pos window)
    (and_second (not (int_lt interval.low (pos 0))) _ test)) value.within.0 value.within.1
    ready.within)

sound_by : (a b : Bool) → is_closed (if a then Closed else if b then Outside else Open) ≡ true
    → (if a then Closed else if b then Outside else Open) ≡ Closed
sound_by true b e = refl
sound_by false true e = absurd (cc)
sound_by false false e = absurd (cc)

-- a peek that is looked at is closed only where it stays within its window
closed_sound : (window : ℕ) (popped : PopInterval) (interval : Option Interval)
    → is_closed (sight_at window popped interval) ≡ true
    → sight_at window popped interval ≡ Closed
closed_sound window popped None e = absurd (cc)
closed_sound window popped (Some index) e =
    sound_by (not (int_lt index.low (pos 0)) && int_lt (index.high +ℤ pos popped.high) (pos window))
    _ e

peek_safe : (window : ℕ) (setting : Setting) → IsWhole window setting.port
    → (entries : List Bool) (intervals : Intervals) (popped : PopInterval) (place : ℕ)
    (index : tree.Expr) (store : Store) → Ready setting.fields intervals popped store
    → get_or entries place false
    ≡ is_closed (sight_at window (advance popped (expr_counts index)) (interval_of intervals index))
    → PeekIsSafe setting entries place index store
peek_safe window setting whole entries intervals popped place index store ready same closed =
    peek_by window setting whole intervals popped index store (interval_of intervals index) ready
    (interval_sound intervals index) (closed_sound window (advance popped (expr_counts index))
    (interval_of intervals index) (sym same ∙ closed))

mutual
  -- each closed peek that an evaluation runs finds its item
  pub expr_safe : (window : ℕ) (setting : Setting) → IsWhole window setting.port
      → (entries : List Bool)
      (e : tree.Expr) (intervals : Intervals) (popped : PopInterval) (place : ℕ) (store : Store)
      → is_some (expr_counts e) ≡ true → Fixed intervals (λ name. expr_writes name e)
      → Ready setting.fields intervals popped store → Stand window entries place
      (expr_sites intervals popped e) → ExprIsSafe setting entries place e store
  expr_safe window setting whole entries (tree.Number value) intervals popped place store counted
      fixed ready stand = tt
  expr_safe window setting whole entries (tree.Truth value) intervals popped place store counted
      fixed ready stand = tt
  expr_safe window setting whole entries (tree.Read name) intervals popped place store counted fixed
      ready stand = tt
  expr_safe window setting whole entries (tree.Element name index) intervals popped place store
      counted fixed ready stand =
      expr_safe window setting whole entries index intervals popped place store counted fixed ready
      stand
  expr_safe window setting whole entries tree.Pop intervals popped place store counted fixed ready
      stand = tt
  expr_safe window setting whole entries (tree.Peek index) intervals popped place store counted
      fixed ready stand =
      let sites = expr_sites intervals popped index in
      let one = Reached (interval_of intervals index) (advance popped (expr_counts index)) ∷ [] in (
        expr_safe window setting whole entries index intervals popped place store counted fixed
            ready (stand_first window entries place sites one stand),
        peek_safe window setting whole entries intervals popped
            (place + length (peeks_of_expr index)) index store ready
            (stand_after window entries place sites one (peeks_of_expr index)
            (expr_entries index intervals popped) stand).0,
      )
  expr_safe window setting whole entries (tree.Call name arguments) intervals popped place store
      counted fixed ready stand =
      arguments_safe window setting whole entries arguments intervals popped place store counted
      fixed ready stand
  expr_safe window setting whole entries (tree.Group inner) intervals popped place store counted
      fixed ready stand =
      expr_safe window setting whole entries inner intervals popped place store counted fixed ready
      stand
  expr_safe window setting whole entries (tree.Unary operator operand) intervals popped place store
      counted fixed ready stand =
      expr_safe window setting whole entries operand intervals popped place store counted fixed
      ready stand
  expr_safe window setting whole entries (tree.Step operator name) intervals popped place store
      counted fixed ready stand = tt
  expr_safe window setting whole entries (tree.StepElement operator name index) intervals popped
      place store counted fixed ready stand =
      expr_safe window setting whole entries index intervals popped place store counted
      (λ n e. or_second _ _ (fixed n e)) ready stand
  expr_safe window setting whole entries (tree.Binary operator left right) intervals popped place
      store counted fixed ready stand =
      let later = advance popped (expr_counts left) in
      let past = place + length (peeks_of_expr left) in
      let sites = expr_sites intervals popped left in
      let sites_right = expr_sites intervals later right in
      let seen_right = right_sites (need_of operator left) sites_right (peeks_of_expr right) in
      let first_counted = both_first (expr_counts left) _ counted in
      let rest_counted = both_second (expr_counts left)
      (needed (need_of operator left) (expr_counts right)) counted in
      let first_fixed : Fixed intervals (λ name. expr_writes name left) =
      λ n e. or_first (expr_writes n left) _ (fixed n e) in
      let rest_fixed : Fixed intervals (λ name. expr_writes name right) =
      λ n e. or_second (expr_writes n left) _ (fixed n e) in
      let rest_stand : Stand window entries past seen_right =
      stand_after window entries place sites seen_right (peeks_of_expr left)
      (expr_entries left intervals popped) stand in (
        expr_safe window setting whole entries left intervals popped place store first_counted
            first_fixed ready (stand_first window entries place sites seen_right stand),
        IfOk-weaker (value_of setting left store)
            (λ first. Ready setting.fields intervals later first.1 × IfSome (constant left)
            (λ v. first.0 ≡ v)) _ (λ first h.
            match_by (decides operator first.0) (Unit {0})
            (ExprIsSafe setting entries past right first.1)
            (λ e. tt)
            (λ e. expr_safe window setting whole entries right intervals later past first.1
            (right_some operator left first.0 (expr_counts right) h.1 rest_counted e) rest_fixed
            h.0 (stand_right window entries past operator left first.0 sites_right
            (peeks_of_expr right) h.1 e rest_stand)))
            (both_ok (value_of setting left store) _ _
            (ready_value setting left intervals popped store first_counted first_fixed ready)
            (constant_sound setting left store)),
      )
  expr_safe window setting whole entries (tree.Conditional condition chosen other) intervals popped
      place store counted fixed ready stand =
      let later = advance popped (expr_counts condition) in
      let past = place + length (peeks_of_expr condition) in
      let sites = expr_sites intervals popped condition in
      let chosen_sites = expr_sites intervals later chosen in
      let other_sites = expr_sites intervals later other in
      let sides = sides_sites (constant condition) chosen_sites other_sites
      (peeks_of_expr chosen) (peeks_of_expr other) in
      let first_counted = both_first (expr_counts condition) _ counted in
      let rest_counted = both_second (expr_counts condition)
      (branch_counts (constant condition) (expr_counts chosen) (expr_counts other)) counted in
      let first_fixed : Fixed intervals (λ name. expr_writes name condition) =
      λ n e. or_first (expr_writes n condition) _ (fixed n e) in
      let chosen_fixed : Fixed intervals (λ name. expr_writes name chosen) =
      λ n e. or_first (expr_writes n chosen) _
      (or_second (expr_writes n condition) _ (fixed n e)) in
      let other_fixed : Fixed intervals (λ name. expr_writes name other) =
      λ n e. or_second (expr_writes n chosen) _
      (or_second (expr_writes n condition) _ (fixed n e)) in
      let rest_stand : Stand window entries past sides =
      stand_after window entries place sites sides (peeks_of_expr condition)
      (expr_entries condition intervals popped) stand in (
        expr_safe window setting whole entries condition intervals popped place store first_counted
            first_fixed ready (stand_first window entries place sites sides stand),
        IfOk-weaker (value_of setting condition store)
            (λ test. Ready setting.fields intervals later test.1 × IfSome (constant condition)
            (λ v. test.0 ≡ v)) _ (λ test h.
            let some = side_some (constant condition) test.0 (expr_counts chosen)
            (expr_counts other) h.1 rest_counted in
            match_by (is_true test.0) (ExprIsSafe setting entries past chosen test.1)
            (ExprIsSafe setting entries (past + length (peeks_of_expr chosen)) other test.1)
            (λ e. expr_safe window setting whole entries chosen intervals later past test.1
            (some.0 e) chosen_fixed h.0
            (stand_chosen window entries past (constant condition) test.0 chosen_sites other_sites
            (peeks_of_expr chosen) (peeks_of_expr other) h.1 e rest_stand))
            (λ e. expr_safe window setting whole entries other intervals later
            (past + length (peeks_of_expr chosen)) test.1 (some.1 e) other_fixed h.0
            (stand_other window entries past (constant condition) test.0 chosen_sites other_sites
            (peeks_of_expr chosen) (peeks_of_expr other)
            (expr_entries chosen intervals later) h.1 e rest_stand)))
            (both_ok (value_of setting condition store) _ _
            (ready_value setting condition intervals popped store first_counted first_fixed ready)
            (constant_sound setting condition store)),
      )

  arguments_safe : (window : ℕ) (setting : Setting) → IsWhole window setting.port
      → (entries : List Bool) (arguments : tree.Arguments) (intervals : Intervals)
      (popped : PopInterval) (place : ℕ) (store : Store)
      → is_some (arguments_counts arguments) ≡ true
      → Fixed intervals (λ name. exprs_write name arguments)
      → Ready setting.fields intervals popped store
      → Stand window entries place (arguments_sites intervals popped arguments)
      → ArgumentsAreSafe setting entries place arguments store
  arguments_safe window setting whole entries tree.NoArgument intervals popped place store counted
      fixed ready stand = tt
  arguments_safe window setting whole entries (tree.Argument first rest) intervals popped place
      store counted fixed ready stand =
      let later = advance popped (expr_counts first) in
      let sites = expr_sites intervals popped first in
      let sites_rest = arguments_sites intervals later rest in
      let first_counted = both_first (expr_counts first) _ counted in
      let rest_counted = both_second (expr_counts first) (arguments_counts rest) counted in
      let first_fixed : Fixed intervals (λ name. expr_writes name first) =
      λ n e. or_first (expr_writes n first) _ (fixed n e) in
      let rest_fixed : Fixed intervals (λ name. exprs_write name rest) =
      λ n e. or_second (expr_writes n first) _ (fixed n e) in (
        expr_safe window setting whole entries first intervals popped place store first_counted
            first_fixed ready (stand_first window entries place sites sites_rest stand),
        IfOk-weaker (value_of setting first store)
            (λ given. Ready setting.fields intervals later given.1) _
            (λ given h. arguments_safe window setting whole entries rest intervals later
            (place + length (peeks_of_expr first)) given.1 rest_counted rest_fixed h
            (stand_after window entries place sites sites_rest (peeks_of_expr first)
            (expr_entries first intervals popped) stand))
            (ready_value setting first intervals popped store first_counted first_fixed ready),
      )
