-- The sites of a loop's body after the pops of the turns before: they are those of a body that
-- begins after these pops.
use Rattle.std.proofs.Common.{◌≡◌, refl, sym, ap, ◌∙◌, ℕ, zero, suc, ◌+◌, ◌-◌, ◌*◌, ℤ, Bool, true}
use Rattle.std.proofs.Common.{false, cond, List, [], ◌∷◌, ◌++◌, map, Option, Some, None, arith}
use Rattle.std.specs.Prelude.{bytes_eq, if◌then◌else◌}
use Rattle.std.proofs.lemmas.List.{map-append}
use Rattle.strc_parse_tree.specs.Tree as tree
use Rattle.strc_lex_names.specs.Names.{with_value}
use Rattle.strc_work_meaning.specs.Arithmetic.{is_true}
use Rattle.strc_rate_intervals.specs.Constant.{constant}
use Rattle.strc_rate_intervals.specs.Loops.{Loop, counted_loop}
use Rattle.strc_rate_intervals.specs.declared.interval.Interval.{Interval}
use Rattle.strc_rate_intervals.specs.Intervals.{Intervals, intervals_after, names_of, with_interval}
use Rattle.strc_rate_intervals.specs.Intervals.{turns_interval, interval_of}
use Rattle.strc_rate.specs.Counts.{Counts, saturated, Need, need_of, expr_counts, option_counts}
use Rattle.strc_rate.specs.Counts.{stmt_counts}
use Rattle.strc_rate.specs.Entries.{peeks_of_expr, peeks_of_stmt}
use Rattle.strc_rate.specs.Peeks.{PeekSite, Reached, NoRun, PopInterval, pops_of, advance}
use Rattle.strc_rate.specs.Peeks.{in_turns}
use Rattle.strc_rate.specs.Peeks.{site_in_turns, unreached, sides_sites, right_sites, some_turns}
use Rattle.strc_rate.specs.Peeks.{turns_sites, expr_sites, option_sites, variables_sites}
use Rattle.strc_rate.specs.Peeks.{arguments_sites, stmt_sites, stmts_sites}

-- sums of pops may be saturated in either order
in_either_order : (high first second : ℕ) → saturated (saturated (high + first) + second)
    ≡ saturated (saturated (high + second) + first)
in_either_order high first second = omega arith

abbrev between : (low high : ℕ) → PopInterval
between low high = record { low = low; high = high }

module _ (turns : ℕ) (counts : Option Counts) where
  -- after the turns before
  abbrev later : PopInterval → PopInterval
  later popped = in_turns popped turns counts

  abbrev moved : List PeekSite → List PeekSite
  moved sites = map (site_in_turns turns counts) sites

  advance_later : (popped : PopInterval) (passed : Option Counts)
      → advance (later popped) passed ≡ later (advance popped passed)
  advance_later popped passed =
      ap (between (saturated (popped.low + pops_of passed)))
      (in_either_order popped.high ((turns - 1) * pops_of counts) (pops_of passed))

  in_turns_later : (popped : PopInterval) (others : ℕ) (passed : Option Counts)
      → in_turns (later popped) others passed ≡ later (in_turns popped others passed)
  in_turns_later popped others passed =
      ap (between popped.low) (in_either_order popped.high ((turns - 1) * pops_of counts)
      ((others - 1) * pops_of passed))

  two_moved : (first second first' second' : List PeekSite) → first' ≡ moved first
      → second' ≡ moved second → first' ++ second' ≡ moved (first ++ second)
  two_moved first second first' second' e f =
      ap (λ l. l ++ second') e ∙ ap (λ l. moved first ++ l) f
      ∙ sym (map-append (site_in_turns turns counts) first second)

  unreached_moved : (peeks : List tree.Expr) → unreached peeks ≡ moved (unreached peeks)
  unreached_moved [] = refl
  unreached_moved (first ∷ rest) = ap (λ l. NoRun ∷ l) (unreached_moved rest)

  sides_by : (taken : Bool) (chosen other chosen' other' : List PeekSite)
      (peeks_chosen peeks_other : List tree.Expr) → chosen' ≡ moved chosen
      → other' ≡ moved other
      → (if taken then chosen' ++ unreached peeks_other else unreached peeks_chosen ++ other')
      ≡ moved (if taken then chosen ++ unreached peeks_other else unreached peeks_chosen ++ other)
  sides_by true chosen other chosen' other' peeks_chosen peeks_other e f =
      two_moved chosen (unreached peeks_other) chosen' (unreached peeks_other) e
      (unreached_moved peeks_other)
  sides_by false chosen other chosen' other' peeks_chosen peeks_other e f =
      two_moved (unreached peeks_chosen) other (unreached peeks_chosen) other'
      (unreached_moved peeks_chosen) f

  sides_moved : (known : Option ℤ) (chosen other chosen' other' : List PeekSite)
      (peeks_chosen peeks_other : List tree.Expr) → chosen' ≡ moved chosen
      → other' ≡ moved other → sides_sites known chosen' other' peeks_chosen peeks_other
      ≡ moved (sides_sites known chosen other peeks_chosen peeks_other)
  sides_moved None chosen other chosen' other' peeks_chosen peeks_other e f =
      two_moved chosen other chosen' other' e f
  sides_moved (Some value) chosen other chosen' other' peeks_chosen peeks_other e f =
      sides_by (is_true value) chosen other chosen' other' peeks_chosen peeks_other e f

  right_moved : (need : Need) (right right' : List PeekSite) (peeks : List tree.Expr)
      → right' ≡ moved right → right_sites need right' peeks ≡ moved (right_sites need right peeks)
  right_moved Need.Always right right' peeks e = e
  right_moved Need.Never right right' peeks e = unreached_moved peeks
  right_moved Need.Sometimes right right' peeks e = e

  some_moved : (others : ℕ) (body body' : List PeekSite) (peeks : List tree.Expr)
      → body' ≡ moved body → some_turns others body' peeks ≡ moved (some_turns others body peeks)
  some_moved zero body body' peeks e = unreached_moved peeks
  some_moved (suc others) body body' peeks e = e

  turns_moved : (reported : Option Loop) (parts parts' : List PeekSite)
      (body body' : Loop → List PeekSite) (peeks : List tree.Expr) → parts' ≡ moved parts
      → ((loop : Loop) → body' loop ≡ moved (body loop))
      → turns_sites reported parts' body' peeks ≡ moved (turns_sites reported parts body peeks)
  turns_moved None parts parts' body body' peeks e f = e
  turns_moved (Some loop) parts parts' body body' peeks e f =
      some_moved loop.turns (body loop) (body' loop) peeks (f loop)

  mutual
    -- an expression's peeks
    expr_moved : (e : tree.Expr) (intervals : Intervals) (popped : PopInterval)
        → expr_sites intervals (later popped) e ≡ moved (expr_sites intervals popped e)
    expr_moved (tree.Number value) intervals popped = refl
    expr_moved (tree.Truth value) intervals popped = refl
    expr_moved (tree.Read name) intervals popped = refl
    expr_moved (tree.Element name index) intervals popped = expr_moved index intervals popped
    expr_moved tree.Pop intervals popped = refl
    expr_moved (tree.Peek index) intervals popped =
        two_moved (expr_sites intervals popped index)
        (Reached (interval_of intervals index) (advance popped (expr_counts index)) ∷ [])
        (expr_sites intervals (later popped) index)
        (Reached (interval_of intervals index) (advance (later popped) (expr_counts index)) ∷ [])
        (expr_moved index intervals popped)
        (ap (λ p. Reached (interval_of intervals index) p ∷ [])
        (advance_later popped (expr_counts index)))
    expr_moved (tree.Call name arguments) intervals popped =
        arguments_moved arguments intervals popped
    expr_moved (tree.Group inner) intervals popped = expr_moved inner intervals popped
    expr_moved (tree.Unary operator operand) intervals popped = expr_moved operand intervals popped
    expr_moved (tree.Step operator name) intervals popped = refl
    expr_moved (tree.StepElement operator name index) intervals popped =
        expr_moved index intervals popped
    expr_moved (tree.Binary operator left right) intervals popped =
        let passed = expr_counts left in
        let right_is : expr_sites intervals (advance (later popped) passed) right
        ≡ moved (expr_sites intervals (advance popped passed) right) =
        ap (λ p. expr_sites intervals p right) (advance_later popped passed)
        ∙ expr_moved right intervals (advance popped passed) in
        two_moved (expr_sites intervals popped left) _ (expr_sites intervals (later popped) left) _
        (expr_moved left intervals popped)
        (right_moved (need_of operator left) _ _ (peeks_of_expr right) right_is)
    expr_moved (tree.Conditional condition chosen other) intervals popped =
        let passed = expr_counts condition in
        let chosen_is : expr_sites intervals (advance (later popped) passed) chosen
        ≡ moved (expr_sites intervals (advance popped passed) chosen) =
        ap (λ p. expr_sites intervals p chosen) (advance_later popped passed)
        ∙ expr_moved chosen intervals (advance popped passed) in
        let other_is : expr_sites intervals (advance (later popped) passed) other
        ≡ moved (expr_sites intervals (advance popped passed) other) =
        ap (λ p. expr_sites intervals p other) (advance_later popped passed)
        ∙ expr_moved other intervals (advance popped passed) in
        two_moved (expr_sites intervals popped condition) _
        (expr_sites intervals (later popped) condition) _ (expr_moved condition intervals popped)
        (sides_moved (constant condition) _ _ _ _ (peeks_of_expr chosen) (peeks_of_expr other)
        chosen_is other_is)

    arguments_moved : (arguments : tree.Arguments) (intervals : Intervals) (popped : PopInterval)
        → arguments_sites intervals (later popped) arguments
        ≡ moved (arguments_sites intervals popped arguments)
    arguments_moved tree.NoArgument intervals popped = refl
    arguments_moved (tree.Argument first rest) intervals popped =
        let passed = expr_counts first in
        let rest_is : arguments_sites intervals (advance (later popped) passed) rest
        ≡ moved (arguments_sites intervals (advance popped passed) rest) =
        ap (λ p. arguments_sites intervals p rest) (advance_later popped passed)
        ∙ arguments_moved rest intervals (advance popped passed) in
        two_moved (expr_sites intervals popped first) _
        (expr_sites intervals (later popped) first) _ (expr_moved first intervals popped) rest_is

  option_moved : (value : Option tree.Expr) (intervals : Intervals) (popped : PopInterval)
      → option_sites intervals (later popped) value ≡ moved (option_sites intervals popped value)
  option_moved None intervals popped = refl
  option_moved (Some value) intervals popped = expr_moved value intervals popped

  variables_moved : (variables : List tree.Variable) (intervals : Intervals) (popped : PopInterval)
      → variables_sites intervals (later popped) variables
      ≡ moved (variables_sites intervals popped variables)
  variables_moved [] intervals popped = refl
  variables_moved (first ∷ rest) intervals popped =
      let inner : Intervals = record { 0 = first.name; 1 = None } ∷ intervals in
      let passed = option_counts first.initial in
      let rest_is : variables_sites inner (advance (later popped) passed) rest
      ≡ moved (variables_sites inner (advance popped passed) rest) =
      ap (λ p. variables_sites inner p rest) (advance_later popped passed)
      ∙ variables_moved rest inner (advance popped passed) in
      two_moved (option_sites intervals popped first.initial) _
      (option_sites intervals (later popped) first.initial) _
      (option_moved first.initial intervals popped) rest_is

  mutual
    stmt_moved : (s : tree.Stmt) (intervals : Intervals) (popped : PopInterval)
        → stmt_sites intervals (later popped) s ≡ moved (stmt_sites intervals popped s)
    stmt_moved tree.Empty intervals popped = refl
    stmt_moved (tree.Compose statement) intervals popped = refl
    stmt_moved (tree.Return value) intervals popped = refl
    stmt_moved (tree.Block body) intervals popped = stmts_moved body intervals popped
    stmt_moved (tree.Declare kind variables) intervals popped =
        variables_moved variables intervals popped
    stmt_moved (tree.Evaluate value) intervals popped = expr_moved value intervals popped
    stmt_moved (tree.Assign name operator value) intervals popped =
        expr_moved value intervals popped
    stmt_moved (tree.AssignElement name index operator value) intervals popped =
        let passed = expr_counts index in
        let value_is : expr_sites intervals (advance (later popped) passed) value
        ≡ moved (expr_sites intervals (advance popped passed) value) =
        ap (λ p. expr_sites intervals p value) (advance_later popped passed)
        ∙ expr_moved value intervals (advance popped passed) in
        two_moved (expr_sites intervals popped index) _
        (expr_sites intervals (later popped) index) _ (expr_moved index intervals popped) value_is
    stmt_moved (tree.If condition chosen) intervals popped =
        let passed = expr_counts condition in
        let chosen_is : stmt_sites intervals (advance (later popped) passed) chosen
        ≡ moved (stmt_sites intervals (advance popped passed) chosen) =
        ap (λ p. stmt_sites intervals p chosen) (advance_later popped passed)
        ∙ stmt_moved chosen intervals (advance popped passed) in
        two_moved (expr_sites intervals popped condition) _
        (expr_sites intervals (later popped) condition) _ (expr_moved condition intervals popped)
        (sides_moved (constant condition) _ [] _ [] (peeks_of_stmt chosen) [] chosen_is refl)
    stmt_moved (tree.IfElse condition chosen other) intervals popped =
        let passed = expr_counts condition in
        let chosen_is : stmt_sites intervals (advance (later popped) passed) chosen
        ≡ moved (stmt_sites intervals (advance popped passed) chosen) =
        ap (λ p. stmt_sites intervals p chosen) (advance_later popped passed)
        ∙ stmt_moved chosen intervals (advance popped passed) in
        let other_is : stmt_sites intervals (advance (later popped) passed) other
        ≡ moved (stmt_sites intervals (advance popped passed) other) =
        ap (λ p. stmt_sites intervals p other) (advance_later popped passed)
        ∙ stmt_moved other intervals (advance popped passed) in
        two_moved (expr_sites intervals popped condition) _
        (expr_sites intervals (later popped) condition) _ (expr_moved condition intervals popped)
        (sides_moved (constant condition) _ _ _ _ (peeks_of_stmt chosen) (peeks_of_stmt other)
        chosen_is other_is)
    stmt_moved (tree.While condition body) intervals popped =
        two_moved (expr_sites intervals popped condition) (stmt_sites intervals popped body)
        (expr_sites intervals (later popped) condition) (stmt_sites intervals (later popped) body)
        (expr_moved condition intervals popped) (stmt_moved body intervals popped)
    stmt_moved (tree.For first condition step body) intervals popped =
        let locals = names_of intervals in
        let inner = intervals_after intervals first in
        let passed = stmt_counts locals first in
        let begun = advance popped passed in
        let begun' = advance (later popped) passed in
        let turned = stmt_counts (names_of inner) body in
        let is = advance_later popped passed in
        let tested = option_sites inner begun condition in
        let test_is : option_sites inner begun' condition ≡ moved tested =
        ap (λ p. option_sites inner p condition) is ∙ option_moved condition inner begun in
        let step_is : stmt_sites inner begun' step ≡ moved (stmt_sites inner begun step) =
        ap (λ p. stmt_sites inner p step) is ∙ stmt_moved step inner begun in
        let body_is : stmt_sites inner begun' body ≡ moved (stmt_sites inner begun body) =
        ap (λ p. stmt_sites inner p body) is ∙ stmt_moved body inner begun in
        two_moved (stmt_sites intervals popped first) _ (stmt_sites intervals (later popped) first)
        _ (stmt_moved first intervals popped)
        (turns_moved (counted_loop locals first condition step body) _ _ _ _ (peeks_of_stmt body)
        (two_moved (option_sites inner begun condition) _ (option_sites inner begun' condition) _
        test_is (two_moved (stmt_sites inner begun step) (stmt_sites inner begun body)
        (stmt_sites inner begun' step) (stmt_sites inner begun' body) step_is body_is))
        (λ loop. let within = with_interval inner loop.name (turns_interval loop) in
        ap (λ p. stmt_sites within p body)
        (ap (λ p. in_turns p loop.turns turned) is ∙ in_turns_later begun loop.turns turned)
        ∙ stmt_moved body within (in_turns begun loop.turns turned)))
    stmt_moved (tree.Push value) intervals popped = expr_moved value intervals popped
    stmt_moved (tree.Print value) intervals popped = expr_moved value intervals popped
    stmt_moved (tree.Println value) intervals popped = expr_moved value intervals popped

    stmts_moved : (s : tree.Stmts) (intervals : Intervals) (popped : PopInterval)
        → stmts_sites intervals (later popped) s ≡ moved (stmts_sites intervals popped s)
    stmts_moved tree.Done intervals popped = refl
    stmts_moved (tree.Then first rest) intervals popped =
        let passed = stmt_counts (names_of intervals) first in
        let inner = intervals_after intervals first in
        let rest_is : stmts_sites inner (advance (later popped) passed) rest
        ≡ moved (stmts_sites inner (advance popped passed) rest) =
        ap (λ p. stmts_sites inner p rest) (advance_later popped passed)
        ∙ stmts_moved rest inner (advance popped passed) in
        two_moved (stmt_sites intervals popped first) _ (stmt_sites intervals (later popped) first)
        _ (stmt_moved first intervals popped) rest_is

-- the sites of a body in the turns of a loop
pub body_in_turns : (turns : ℕ) (counts : Option Counts) (body : tree.Stmt)
    (intervals : Intervals) (popped : PopInterval)
    → map (site_in_turns turns counts) (stmt_sites intervals popped body)
    ≡ stmt_sites intervals (in_turns popped turns counts) body
body_in_turns turns counts body intervals popped =
    sym (stmt_moved turns counts body intervals popped)

-- a variable that is given an interval keeps its name
pub names_of-with_value : (intervals : Intervals) (name : List ℕ) (interval : Option Interval)
    → names_of (with_value intervals name interval) ≡ names_of intervals
names_of-with_value [] name interval = refl
names_of-with_value (first ∷ rest) name interval =
    by_test (bytes_eq first.0 name) (names_of-with_value rest name interval)
  where
    by_test : (t : Bool) → names_of (with_value rest name interval) ≡ names_of rest
        → names_of (cond t (record { 0 = first.0; 1 = interval } ∷ rest)
        (first ∷ with_value rest name interval)) ≡ first.0 ∷ names_of rest
    by_test true h = refl
    by_test false h = ap (λ l. first.0 ∷ l) h
