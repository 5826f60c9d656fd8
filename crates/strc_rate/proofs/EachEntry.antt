-- One entry for each peek of a text, and the numbers at which the entries of its parts are.
use Rattle.std.proofs.Common.{◌≡◌, refl, sym, ap, subst, ◌∙◌, ℕ, zero, suc, ◌+◌, ◌<◌, ℤ, Bool, true}
use Rattle.std.proofs.Common.{false, List, [], ◌∷◌, ◌++◌, length, map, get_or, Option, Some, None}
use Rattle.std.proofs.Common.{arith, length-append}
use Rattle.std.specs.Prelude.{if◌then◌else◌}
use Rattle.std.specs.Option.{IfSome}
use Rattle.std.proofs.lemmas.List.{length-map}
use Rattle.strc_parse_tree.specs.Tree as tree
use Rattle.strc_parse_tree.specs.declared.tree.BinaryOperator.{BinaryOperator}
use Rattle.strc_parse_tree.specs.declared.tree.BinaryOperator.TheVariants as binary
use Rattle.strc_work_meaning.specs.Arithmetic.{is_true}
use Rattle.strc_work_meaning.specs.Constants.{decides}
use Rattle.strc_rate_intervals.specs.Constant.{constant}
use Rattle.strc_rate_intervals.specs.Loops.{Loop, counted_loop}
use Rattle.strc_rate_intervals.specs.Intervals.{Intervals, intervals_after, names_of, with_interval}
use Rattle.strc_rate_intervals.specs.Intervals.{turns_interval}
use Rattle.strc_rate.specs.Counts.{Need, need_by, need_of, expr_counts, option_counts, stmt_counts}
use Rattle.strc_rate.specs.Entries.{peeks_of_expr, peeks_of_option, peeks_of_variables}
use Rattle.strc_rate.specs.Entries.{peeks_of_stmt, peeks_of, peeks_of_arguments}
use Rattle.strc_rate.specs.Peeks.{PeekSite, NoRun, sight_of, PopInterval, advance, in_turns}
use Rattle.strc_rate.specs.Peeks.{unreached}
use Rattle.strc_rate.specs.Peeks.{sides_sites, right_sites, some_turns, turns_sites}
use Rattle.strc_rate.specs.Peeks.{expr_sites, option_sites, variables_sites, stmt_sites}
use Rattle.strc_rate.specs.Peeks.{stmts_sites, arguments_sites, is_closed}
use Rattle.strc_rate.proofs.CountedParts.{HasFreeParts, counted_free}

-- ---- as many entries as peeks

-- as many of one part as of the other
abbrev pub AsMany : List PeekSite → List tree.Expr → Type 0
AsMany sights peeks = length sights ≡ length peeks

two_parts : (first second : List PeekSite) (peeks_first peeks_second : List tree.Expr)
    → AsMany first peeks_first → AsMany second peeks_second
    → AsMany (first ++ second) (peeks_first ++ peeks_second)
two_parts first second peeks_first peeks_second e f =
    length-append first second ∙ ap (λ n. n + length second) e
    ∙ ap (λ n. length peeks_first + n) f ∙ sym (length-append peeks_first peeks_second)

unreached_entries : (peeks : List tree.Expr) → AsMany (unreached peeks) peeks
unreached_entries peeks = length-map peeks (λ index. NoRun)

sides_by : (taken : Bool) (chosen other : List PeekSite)
    (peeks_chosen peeks_other : List tree.Expr) → AsMany chosen peeks_chosen
    → AsMany other peeks_other
    → AsMany (if taken then chosen ++ unreached peeks_other else unreached peeks_chosen ++ other)
    (peeks_chosen ++ peeks_other)
sides_by true chosen other peeks_chosen peeks_other e f =
    two_parts chosen (unreached peeks_other) peeks_chosen peeks_other e
    (unreached_entries peeks_other)
sides_by false chosen other peeks_chosen peeks_other e f =
    two_parts (unreached peeks_chosen) other peeks_chosen peeks_other
    (unreached_entries peeks_chosen) f

sides_entries : (known : Option ℤ) (chosen other : List PeekSite)
    (peeks_chosen peeks_other : List tree.Expr) → AsMany chosen peeks_chosen
    → AsMany other peeks_other
    → AsMany (sides_sites known chosen other peeks_chosen peeks_other)
    (peeks_chosen ++ peeks_other)
sides_entries None chosen other peeks_chosen peeks_other e f =
    two_parts chosen other peeks_chosen peeks_other e f
sides_entries (Some value) chosen other peeks_chosen peeks_other e f =
    sides_by (is_true value) chosen other peeks_chosen peeks_other e f

-- a condition with one side
side_entries : (known : Option ℤ) (chosen : List PeekSite) (peeks : List tree.Expr)
    → AsMany chosen peeks → AsMany (sides_sites known chosen [] peeks []) peeks
side_entries known chosen peeks e =
    let all = sides_entries known chosen [] peeks [] e refl in
    let none = length-append peeks [] in
    all ∙ none ∙ (omega arith)

right_entries : (need : Need) (right : List PeekSite) (peeks : List tree.Expr)
    → AsMany right peeks → AsMany (right_sites need right peeks) peeks
right_entries Need.Always right peeks e = e
right_entries Need.Never right peeks e = unreached_entries peeks
right_entries Need.Sometimes right peeks e = e

turned_entries : (turns : ℕ) (body : List PeekSite) (peeks : List tree.Expr)
    → AsMany body peeks → AsMany (some_turns turns body peeks) peeks
turned_entries zero body peeks e = unreached_entries peeks
turned_entries (suc turns) body peeks e = e

turns_entries : (reported : Option Loop) (condition : Option tree.Expr) (step : tree.Stmt)
    (tested stepped run : List PeekSite) (turned : Loop → List PeekSite)
    (peeks : List tree.Expr) → IfSome reported (λ loop. HasFreeParts condition step)
    → AsMany tested (peeks_of_option condition) → AsMany stepped (peeks_of_stmt step)
    → AsMany run peeks → ((loop : Loop) → AsMany (turned loop) peeks)
    → AsMany (turns_sites reported (tested ++ (stepped ++ run)) turned peeks)
    (peeks_of_option condition ++ (peeks_of_stmt step ++ peeks))
turns_entries None condition step tested stepped run turned peeks free e f g each =
    two_parts tested (stepped ++ run) (peeks_of_option condition) (peeks_of_stmt step ++ peeks) e
    (two_parts stepped run (peeks_of_stmt step) peeks f g)
turns_entries (Some loop) condition step tested stepped run turned peeks free e f g each =
    let none : peeks_of_option condition ++ (peeks_of_stmt step ++ peeks) ≡ peeks =
    ap (λ l. l ++ (peeks_of_stmt step ++ peeks)) free.0 ∙ ap (λ l. l ++ peeks) free.1.0 in
    turned_entries loop.turns (turned loop) peeks (each loop) ∙ ap length (sym none)

mutual
  pub expr_entries : (e : tree.Expr) (intervals : Intervals) (popped : PopInterval)
      → AsMany (expr_sites intervals popped e) (peeks_of_expr e)
  expr_entries (tree.Number value) intervals popped = refl
  expr_entries (tree.Truth value) intervals popped = refl
  expr_entries (tree.Read name) intervals popped = refl
  expr_entries (tree.Element name index) intervals popped =
      expr_entries index intervals popped
  expr_entries tree.Pop intervals popped = refl
  expr_entries (tree.Peek index) intervals popped =
      two_parts (expr_sites intervals popped index) (_ ∷ []) (peeks_of_expr index)
      (index ∷ []) (expr_entries index intervals popped) refl
  expr_entries (tree.Call name arguments) intervals popped =
      arguments_entries arguments intervals popped
  expr_entries (tree.Group inner) intervals popped =
      expr_entries inner intervals popped
  expr_entries (tree.Unary operator operand) intervals popped =
      expr_entries operand intervals popped
  expr_entries (tree.Step operator name) intervals popped = refl
  expr_entries (tree.StepElement operator name index) intervals popped =
      expr_entries index intervals popped
  expr_entries (tree.Binary operator left right) intervals popped =
      two_parts (expr_sites intervals popped left) _ (peeks_of_expr left)
      (peeks_of_expr right) (expr_entries left intervals popped)
      (right_entries (need_of operator left) _ (peeks_of_expr right)
      (expr_entries right intervals (advance popped (expr_counts left))))
  expr_entries (tree.Conditional condition chosen other) intervals popped =
      let later = advance popped (expr_counts condition) in
      two_parts (expr_sites intervals popped condition) _ (peeks_of_expr condition)
      (peeks_of_expr chosen ++ peeks_of_expr other)
      (expr_entries condition intervals popped)
      (sides_entries (constant condition) _ _ (peeks_of_expr chosen) (peeks_of_expr other)
      (expr_entries chosen intervals later) (expr_entries other intervals later))

  arguments_entries : (arguments : tree.Arguments) (intervals : Intervals) (popped : PopInterval)
      → AsMany (arguments_sites intervals popped arguments) (peeks_of_arguments arguments)
  arguments_entries tree.NoArgument intervals popped = refl
  arguments_entries (tree.Argument first rest) intervals popped =
      two_parts (expr_sites intervals popped first) _ (peeks_of_expr first)
      (peeks_of_arguments rest) (expr_entries first intervals popped)
      (arguments_entries rest intervals (advance popped (expr_counts first)))

pub option_entries : (value : Option tree.Expr) (intervals : Intervals)
    (popped : PopInterval)
    → AsMany (option_sites intervals popped value) (peeks_of_option value)
option_entries None intervals popped = refl
option_entries (Some value) intervals popped = expr_entries value intervals popped

pub variables_entries : (variables : List tree.Variable) (intervals : Intervals)
    (popped : PopInterval)
    → AsMany (variables_sites intervals popped variables) (peeks_of_variables variables)
variables_entries [] intervals popped = refl
variables_entries (first ∷ rest) intervals popped =
    two_parts (option_sites intervals popped first.initial) _
    (peeks_of_option first.initial) (peeks_of_variables rest)
    (option_entries first.initial intervals popped)
    (variables_entries rest (record { 0 = first.name; 1 = None } ∷ intervals)
    (advance popped (option_counts first.initial)))

mutual
  pub stmt_entries : (s : tree.Stmt) (intervals : Intervals) (popped : PopInterval)
      → AsMany (stmt_sites intervals popped s) (peeks_of_stmt s)
  stmt_entries tree.Empty intervals popped = refl
  stmt_entries (tree.Compose statement) intervals popped = refl
  stmt_entries (tree.Return value) intervals popped = refl
  stmt_entries (tree.Block body) intervals popped =
      stmts_entries body intervals popped
  stmt_entries (tree.Declare kind variables) intervals popped =
      variables_entries variables intervals popped
  stmt_entries (tree.Evaluate value) intervals popped =
      expr_entries value intervals popped
  stmt_entries (tree.Assign name operator value) intervals popped =
      expr_entries value intervals popped
  stmt_entries (tree.AssignElement name index operator value) intervals popped =
      two_parts (expr_sites intervals popped index) _ (peeks_of_expr index)
      (peeks_of_expr value) (expr_entries index intervals popped)
      (expr_entries value intervals (advance popped (expr_counts index)))
  stmt_entries (tree.If condition chosen) intervals popped =
      two_parts (expr_sites intervals popped condition) _ (peeks_of_expr condition)
      (peeks_of_stmt chosen) (expr_entries condition intervals popped)
      (side_entries (constant condition) _ (peeks_of_stmt chosen)
      (stmt_entries chosen intervals (advance popped (expr_counts condition))))
  stmt_entries (tree.IfElse condition chosen other) intervals popped =
      let later = advance popped (expr_counts condition) in
      two_parts (expr_sites intervals popped condition) _ (peeks_of_expr condition)
      (peeks_of_stmt chosen ++ peeks_of_stmt other)
      (expr_entries condition intervals popped)
      (sides_entries (constant condition) _ _ (peeks_of_stmt chosen) (peeks_of_stmt other)
      (stmt_entries chosen intervals later) (stmt_entries other intervals later))
  stmt_entries (tree.While condition body) intervals popped =
      two_parts (expr_sites intervals popped condition) _ (peeks_of_expr condition)
      (peeks_of_stmt body) (expr_entries condition intervals popped)
      (stmt_entries body intervals popped)
  stmt_entries (tree.For first condition step body) intervals popped =
      let locals = names_of intervals in
      let inner = intervals_after intervals first in
      let begun = advance popped (stmt_counts locals first) in
      two_parts (stmt_sites intervals popped first) _ (peeks_of_stmt first)
      (peeks_of_option condition ++ (peeks_of_stmt step ++ peeks_of_stmt body))
      (stmt_entries first intervals popped)
      (turns_entries (counted_loop locals first condition step body) condition step
      (option_sites inner begun condition) (stmt_sites inner begun step)
      (stmt_sites inner begun body)
      (λ loop. stmt_sites (with_interval inner loop.name (turns_interval loop))
      (in_turns begun loop.turns (stmt_counts (names_of inner) body)) body)
      (peeks_of_stmt body) (counted_free locals first condition step body)
      (option_entries condition inner begun) (stmt_entries step inner begun)
      (stmt_entries body inner begun)
      (λ loop. stmt_entries body (with_interval inner loop.name (turns_interval loop))
      (in_turns begun loop.turns (stmt_counts (names_of inner) body))))
  stmt_entries (tree.Push value) intervals popped =
      expr_entries value intervals popped
  stmt_entries (tree.Print value) intervals popped =
      expr_entries value intervals popped
  stmt_entries (tree.Println value) intervals popped =
      expr_entries value intervals popped

  -- one entry for each peek of statements in a row
  pub stmts_entries : (s : tree.Stmts) (intervals : Intervals) (popped : PopInterval)
      → AsMany (stmts_sites intervals popped s) (peeks_of s)
  stmts_entries tree.Done intervals popped = refl
  stmts_entries (tree.Then first rest) intervals popped =
      two_parts (stmt_sites intervals popped first) _ (peeks_of_stmt first) (peeks_of rest)
      (stmt_entries first intervals popped)
      (stmts_entries rest (intervals_after intervals first)
      (advance popped (stmt_counts (names_of intervals) first)))

-- ---- where the entries of a part are

-- from this number on the entries are those of a part
abbrev pub Stand : (window : ℕ) → (entries : List Bool) → ℕ → List PeekSite → Type 0
Stand window entries place [] = Unit {0}
Stand window entries place (first ∷ rest) =
    (get_or entries place false ≡ is_closed (sight_of window first))
    × Stand window entries (place + 1) rest

pub stand_first : (window : ℕ) (entries : List Bool) (place : ℕ) (first second : List PeekSite)
    → Stand window entries place (first ++ second) → Stand window entries place first
stand_first window entries place [] second h = tt
stand_first window entries place (x ∷ rest) second h =
    (h.0, stand_first window entries (place + 1) rest second h.1)

stand_second : (window : ℕ) (entries : List Bool) (place : ℕ) (first second : List PeekSite)
    → Stand window entries place (first ++ second)
    → Stand window entries (place + length first) second
stand_second window entries place [] second h =
    let same : place ≡ place + 0 = omega arith in
    subst (λ n. Stand window entries n second) same h
stand_second window entries place (x ∷ rest) second h =
    let same : place + 1 + length rest ≡ place + suc (length rest) = omega arith in
    subst (λ n. Stand window entries n second) same
    (stand_second window entries (place + 1) rest second h.1)

-- after a part with so many peeks
pub stand_after : (window : ℕ) (entries : List Bool) (place : ℕ) (first second : List PeekSite)
    (peeks : List tree.Expr) → AsMany first peeks → Stand window entries place (first ++ second)
    → Stand window entries (place + length peeks) second
stand_after window entries place first second peeks e h =
    subst (λ n. Stand window entries (place + n) second) e
    (stand_second window entries place first second h)

-- the entries of sites
abbrev pub entries_of : (window : ℕ) → List PeekSite → List Bool
entries_of window sites = map is_closed (map (sight_of window) sites)

stand_each : (window : ℕ) (entries : List Bool) (sites : List PeekSite) (place : ℕ)
    → ((i : ℕ) → i < length sites
    → get_or entries (place + i) false ≡ get_or (entries_of window sites) i false)
    → Stand window entries place sites
stand_each window entries [] place h = tt
stand_each window entries (x ∷ rest) place h =
    let here : place + 0 ≡ place = omega arith in (
      subst (λ n. get_or entries n false ≡ is_closed (sight_of window x)) here
          (h 0 (omega arith)),
      stand_each window entries rest (place + 1) (λ i lt.
          let next : place + suc i ≡ place + 1 + i = omega arith in
          subst (λ n. get_or entries n false ≡ get_or (entries_of window rest) i false) next
          (h (suc i) (omega arith))),
    )

-- the entries of a whole text
pub stand_whole : (window : ℕ) (sites : List PeekSite)
    → Stand window (entries_of window sites) 0 sites
stand_whole window sites = stand_each window (entries_of window sites) sites 0 (λ i lt.
    let same : 0 + i ≡ i = omega arith in
    ap (λ n. get_or (entries_of window sites) n false) same)

-- ---- the entries of a side that is taken

module _ (window : ℕ) (entries : List Bool) (place : ℕ) where
  pub stand_chosen : (known : Option ℤ) (value : ℤ) (chosen other : List PeekSite)
      (peeks_chosen peeks_other : List tree.Expr) → IfSome known (λ v. value ≡ v)
      → is_true value ≡ true
      → Stand window entries place (sides_sites known chosen other peeks_chosen peeks_other)
      → Stand window entries place chosen
  stand_chosen None value chosen other peeks_chosen peeks_other same taken h =
      stand_first window entries place chosen other h
  stand_chosen (Some v) value chosen other peeks_chosen peeks_other same taken h =
      let test : is_true v ≡ true = ap is_true (sym same) ∙ taken in
      stand_first window entries place chosen (unreached peeks_other)
      (subst (λ t. Stand window entries place (if t then chosen ++ unreached peeks_other
      else unreached peeks_chosen ++ other)) test h)

  pub stand_other : (known : Option ℤ) (value : ℤ) (chosen other : List PeekSite)
      (peeks_chosen peeks_other : List tree.Expr) → AsMany chosen peeks_chosen
      → IfSome known (λ v. value ≡ v) → is_true value ≡ false
      → Stand window entries place (sides_sites known chosen other peeks_chosen peeks_other)
      → Stand window entries (place + length peeks_chosen) other
  stand_other None value chosen other peeks_chosen peeks_other e same taken h =
      stand_after window entries place chosen other peeks_chosen e h
  stand_other (Some v) value chosen other peeks_chosen peeks_other e same taken h =
      let test : is_true v ≡ false = ap is_true (sym same) ∙ taken in
      stand_after window entries place (unreached peeks_chosen) other peeks_chosen
      (unreached_entries peeks_chosen)
      (subst (λ t. Stand window entries place (if t then chosen ++ unreached peeks_other
      else unreached peeks_chosen ++ other)) test h)

  stand_needed : (operator : BinaryOperator) (known : Option ℤ) (value : ℤ)
      (right : List PeekSite) (peeks : List tree.Expr) → IfSome known (λ v. value ≡ v)
      → decides operator value ≡ false
      → Stand window entries place (right_sites (need_by operator known) right peeks)
      → Stand window entries place right
  stand_needed operator None value right peeks same runs h = h
  stand_needed operator (Some v) value right peeks same runs h =
      let test : decides operator v ≡ false = ap (decides operator) (sym same) ∙ runs in
      subst (λ t. Stand window entries place
      (right_sites (if t then Need.Never else Need.Always) right peeks)) test h

  -- a right side that runs
  pub stand_right : (operator : BinaryOperator) (left : tree.Expr) (value : ℤ)
      (right : List PeekSite) (peeks : List tree.Expr) → IfSome (constant left) (λ v. value ≡ v)
      → decides operator value ≡ false
      → Stand window entries place (right_sites (need_of operator left) right peeks)
      → Stand window entries place right
  stand_right binary.LogicalOr left value right peeks same runs h =
      stand_needed binary.LogicalOr (constant left) value right peeks same runs h
  stand_right binary.LogicalAnd left value right peeks same runs h =
      stand_needed binary.LogicalAnd (constant left) value right peeks same runs h
  stand_right binary.Or left value right peeks same runs h = h
  stand_right binary.ExclusiveOr left value right peeks same runs h = h
  stand_right binary.And left value right peeks same runs h = h
  stand_right binary.Equal left value right peeks same runs h = h
  stand_right binary.NotEqual left value right peeks same runs h = h
  stand_right binary.Less left value right peeks same runs h = h
  stand_right binary.LessOrEqual left value right peeks same runs h = h
  stand_right binary.Greater left value right peeks same runs h = h
  stand_right binary.GreaterOrEqual left value right peeks same runs h = h
  stand_right binary.ShiftLeft left value right peeks same runs h = h
  stand_right binary.ShiftRight left value right peeks same runs h = h
  stand_right binary.Add left value right peeks same runs h = h
  stand_right binary.Subtract left value right peeks same runs h = h
  stand_right binary.Multiply left value right peeks same runs h = h
  stand_right binary.Divide left value right peeks same runs h = h
  stand_right binary.Remainder left value right peeks same runs h = h

  -- a turn of a counted loop
  pub stand_turn : (turns turn : ℕ) (body : List PeekSite) (peeks : List tree.Expr)
      → turn < turns → Stand window entries place (some_turns turns body peeks)
      → Stand window entries place body
  stand_turn zero turn body peeks lt h = absurd (omega arith)
  stand_turn (suc turns) turn body peeks lt h = h
