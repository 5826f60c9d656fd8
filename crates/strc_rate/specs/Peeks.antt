-- Which peeks stay within their window, as known from the text, and which can't reach into it.
use Rattle.std.specs.Prelude.{ℕ, ◌+◌, ◌*◌, ◌-◌, zero, suc, ℤ, pos, ◌+ℤ◌, Bool, true, false, not}
use Rattle.std.specs.Prelude.{◌&&◌, ◌||◌, List, [], ◌∷◌, ◌++◌, Option, Some, None, if◌then◌else◌}
use Rattle.std.specs.Prelude.{map}
use Rattle.std.specs.Int.RustNames.{int_lt}
use Rattle.strc_parse_tree.specs.Tree as tree
use Rattle.strc_work_meaning.specs.Arithmetic.{is_true}
use Rattle.strc_rate_intervals.specs.Constant.{constant}
use Rattle.strc_rate_intervals.specs.Loops.{Loop, counted_loop}
use Rattle.strc_rate.specs.Counts.{Counts, saturated, Need, Never, need_of, expr_counts}
use Rattle.strc_rate.specs.Counts.{option_counts, stmt_counts}
use Rattle.strc_rate.specs.Entries.{peeks_of_expr, peeks_of_stmt}
use Rattle.strc_rate_intervals.specs.declared.interval.Interval.{Interval}
use Rattle.strc_rate_intervals.specs.Intervals.{Intervals, intervals_after, interval_of}
use Rattle.strc_rate_intervals.specs.Intervals.{with_interval, turns_interval, names_of}
-- between how many items a firing has popped when it comes to a place of its text, saturated as
-- counts are
pub use Rattle.strc_rate.specs.declared.sight.PopInterval.{PopInterval}
-- a peek of a text: between which numbers its index lies, where that is known, and how many items
-- are popped before it; or no run comes to it
pub use Rattle.strc_rate.specs.declared.sight.PeekSite.{PeekSite}
pub use Rattle.strc_rate.specs.declared.sight.PeekSite.TheVariants.{Reached, NoRun}
-- what is known of a peek: that it stays within its window, that it can't, neither, so that it is
-- tested when it runs, or that no run comes to it
pub use Rattle.strc_rate.specs.declared.sight.PeekBounds.{PeekBounds}
pub use Rattle.strc_rate.specs.declared.sight.PeekBounds.TheVariants.{Closed, Outside, Open}
pub use Rattle.strc_rate.specs.declared.sight.PeekBounds.TheVariants.{Unreached}

-- the items popped where a firing begins
abbrev pub none_popped : PopInterval
none_popped = record { low = 0; high = 0 }

abbrev pub pops_of : Option Counts → ℕ
pops_of None = 0
pops_of (Some counts) = counts.pops

-- after a part that was counted
abbrev pub advance : PopInterval → Option Counts → PopInterval
advance popped counts = record {
  low = saturated (popped.low + pops_of counts);
  high =
      saturated (popped.high + pops_of counts);
}

-- in a turn of a loop, after the pops of the turns before it
abbrev pub in_turns : PopInterval → ℕ → Option Counts → PopInterval
in_turns popped turns counts = record popped
    { high = saturated (popped.high + (turns - 1) * pops_of counts) }

abbrev pub sight_at : (window : ℕ) → PopInterval → Option Interval → PeekBounds
sight_at window popped None = Open
sight_at window popped (Some index) =
    if not (int_lt index.low (pos 0)) && int_lt (index.high +ℤ pos popped.high) (pos window)
    then Closed
    else if int_lt index.high (pos 0) || not (int_lt (index.low +ℤ pos popped.low) (pos window))
    then Outside
    else Open

-- what is known of a site before a window
abbrev pub sight_of : (window : ℕ) → PeekSite → PeekBounds
sight_of window (Reached index popped) = sight_at window popped index
sight_of window NoRun = Unreached

-- a site of a loop's body, after the pops of the turns before
abbrev pub site_in_turns : ℕ → Option Counts → PeekSite → PeekSite
site_in_turns turns counts (Reached index popped) = Reached index (in_turns popped turns counts)
site_in_turns turns counts NoRun = NoRun

-- one site for each peek to which no run comes
abbrev pub unreached : List tree.Expr → List PeekSite
unreached peeks = map (λ index. NoRun) peeks

-- both sides of a condition; no run comes to the one that a constant never takes
abbrev pub sides_sites : Option ℤ → (chosen other : List PeekSite)
    → (peeks_chosen peeks_other : List tree.Expr) → List PeekSite
sides_sites None chosen other peeks_chosen peeks_other = chosen ++ other
sides_sites (Some condition) chosen other peeks_chosen peeks_other =
    if is_true condition then chosen ++ unreached peeks_other
    else unreached peeks_chosen ++ other

-- the right side of an operator, to which no run may come
abbrev pub right_sites : Need → List PeekSite → (peeks : List tree.Expr) → List PeekSite
right_sites Never right peeks = unreached peeks
right_sites _ right peeks = right

abbrev mutual
  -- the sites of the peeks of an expression, in order of the text
  pub expr_sites : Intervals → PopInterval → tree.Expr → List PeekSite
  expr_sites intervals popped (tree.Number value) = []
  expr_sites intervals popped (tree.Truth value) = []
  expr_sites intervals popped (tree.Read name) = []
  expr_sites intervals popped (tree.Element name index) =
      expr_sites intervals popped index
  expr_sites intervals popped tree.Pop = []
  expr_sites intervals popped (tree.Peek index) =
      expr_sites intervals popped index
      ++ Reached (interval_of intervals index) (advance popped (expr_counts index)) ∷ []
  expr_sites intervals popped (tree.Call name arguments) =
      arguments_sites intervals popped arguments
  expr_sites intervals popped (tree.Group inner) = expr_sites intervals popped inner
  expr_sites intervals popped (tree.Unary operator operand) =
      expr_sites intervals popped operand
  expr_sites intervals popped (tree.Step operator name) = []
  expr_sites intervals popped (tree.StepElement operator name index) =
      expr_sites intervals popped index
  expr_sites intervals popped (tree.Binary operator left right) =
      expr_sites intervals popped left
      ++ right_sites (need_of operator left)
      (expr_sites intervals (advance popped (expr_counts left)) right)
      (peeks_of_expr right)
  expr_sites intervals popped (tree.Conditional condition chosen other) =
      expr_sites intervals popped condition
      ++ sides_sites (constant condition) (expr_sites intervals
      (advance popped (expr_counts condition)) chosen)
      (expr_sites intervals (advance popped (expr_counts condition)) other)
      (peeks_of_expr chosen) (peeks_of_expr other)

  -- the sites of the peeks of arguments, each after the pops of those before
  pub arguments_sites : Intervals → PopInterval → tree.Arguments → List PeekSite
  arguments_sites intervals popped tree.NoArgument = []
  arguments_sites intervals popped (tree.Argument first rest) =
      expr_sites intervals popped first
      ++ arguments_sites intervals (advance popped (expr_counts first)) rest

abbrev pub option_sites : Intervals → PopInterval → Option tree.Expr
    → List PeekSite
option_sites intervals popped None = []
option_sites intervals popped (Some value) = expr_sites intervals popped value

abbrev pub variables_sites : Intervals → PopInterval → List tree.Variable
    → List PeekSite
variables_sites intervals popped [] = []
variables_sites intervals popped (first ∷ rest) =
    option_sites intervals popped first.initial
    ++ variables_sites (record { 0 = first.name; 1 = None } ∷ intervals)
    (advance popped (option_counts first.initial)) rest

-- the body of a counted loop, to which no run comes where it has no turn
abbrev pub some_turns : ℕ → List PeekSite → (peeks : List tree.Expr) → List PeekSite
some_turns zero body peeks = unreached peeks
some_turns (suc turns) body peeks = body

-- the turns of a `for`: every part, or the body of a counted loop, whose other parts have no peeks
abbrev pub turns_sites : Option Loop → (parts : List PeekSite) → (body : Loop → List PeekSite)
    → (peeks : List tree.Expr) → List PeekSite
turns_sites None parts body peeks = parts
turns_sites (Some loop) parts body peeks = some_turns loop.turns (body loop) peeks

abbrev mutual
  -- the sites of the peeks of a statement
  pub stmt_sites : Intervals → PopInterval → tree.Stmt → List PeekSite
  stmt_sites intervals popped tree.Empty = []
  stmt_sites intervals popped (tree.Compose statement) = []
  stmt_sites intervals popped (tree.Return value) = []
  stmt_sites intervals popped (tree.Block body) = stmts_sites intervals popped body
  stmt_sites intervals popped (tree.Declare kind variables) =
      variables_sites intervals popped variables
  stmt_sites intervals popped (tree.Evaluate value) =
      expr_sites intervals popped value
  stmt_sites intervals popped (tree.Assign name operator value) =
      expr_sites intervals popped value
  stmt_sites intervals popped (tree.AssignElement name index operator value) =
      expr_sites intervals popped index
      ++ expr_sites intervals (advance popped (expr_counts index)) value
  stmt_sites intervals popped (tree.If condition chosen) =
      expr_sites intervals popped condition
      ++ sides_sites (constant condition)
      (stmt_sites intervals (advance popped (expr_counts condition)) chosen) []
      (peeks_of_stmt chosen) []
  stmt_sites intervals popped (tree.IfElse condition chosen other) =
      expr_sites intervals popped condition
      ++ sides_sites (constant condition)
      (stmt_sites intervals (advance popped (expr_counts condition)) chosen)
      (stmt_sites intervals (advance popped (expr_counts condition)) other)
      (peeks_of_stmt chosen) (peeks_of_stmt other)
  stmt_sites intervals popped (tree.While condition body) =
      expr_sites intervals popped condition ++ stmt_sites intervals popped body
  stmt_sites intervals popped (tree.For first condition step body) =
      let inner = intervals_after intervals first in
      let begun = advance popped (stmt_counts (names_of intervals) first) in
      stmt_sites intervals popped first
      ++ turns_sites (counted_loop (names_of intervals) first condition step body)
      (option_sites inner begun condition
      ++ (stmt_sites inner begun step ++ stmt_sites inner begun body))
      (λ loop. stmt_sites (with_interval inner loop.name (turns_interval loop))
      (in_turns begun loop.turns (stmt_counts (names_of inner) body)) body) (peeks_of_stmt body)
  stmt_sites intervals popped (tree.Push value) = expr_sites intervals popped value
  stmt_sites intervals popped (tree.Print value) = expr_sites intervals popped value
  stmt_sites intervals popped (tree.Println value) =
      expr_sites intervals popped value

  pub stmts_sites : Intervals → PopInterval → tree.Stmts → List PeekSite
  stmts_sites intervals popped tree.Done = []
  stmts_sites intervals popped (tree.Then first rest) =
      stmt_sites intervals popped first
      ++ stmts_sites (intervals_after intervals first)
      (advance popped (stmt_counts (names_of intervals) first)) rest

-- whether a peek stays within its window; one that no run comes to isn't looked at
abbrev pub is_closed : PeekBounds → Bool
is_closed Closed = true
is_closed _ = false

-- what is known of each peek of a body before a window, in order of the text
abbrev pub body_sights : (window : ℕ) → tree.Stmts → List PeekBounds
body_sights window block = map (sight_of window) (stmts_sites [] none_popped block)
