-- What the walk over a part of a text gives, where there is memory for its sites.
use Rattle.std.specs.Prelude.{◌≡◌, List, ◌++◌, Option}
use Rattle.strc_parse_tree.specs.Tree as tree
use Rattle.strc_rate_intervals.specs.Loops.{Loop}
use Rattle.strc_rate_intervals.specs.Intervals.{Intervals, intervals_after, with_unknown, names_of}
use Rattle.strc_rate_intervals.specs.Intervals.{with_interval, turns_interval}
use Rattle.strc_rate.specs.Counts.{Counts, Need, needed, sequence, expr_counts, option_counts}
use Rattle.strc_rate.specs.Counts.{arguments_counts, variables_counts, stmt_counts, stmts_counts}
use Rattle.strc_rate.specs.Counts.{turns_counts}
use Rattle.strc_rate.specs.Entries.{peeks_of_expr, peeks_of_stmt}
use Rattle.strc_rate.specs.Peeks.{PeekSite, PopInterval, advance, in_turns, right_sites}
use Rattle.strc_rate.specs.Peeks.{expr_sites, arguments_sites, option_sites, variables_sites}
use Rattle.strc_rate.specs.Peeks.{stmt_sites}
use Rattle.strc_rate.specs.Peeks.{stmts_sites, turns_sites}

-- a part has these counts, adds these sites, and leaves these names: the walk reports its counts,
-- goes on with the added sites after those before, and with these names
pub record IsPassed (items : Option Counts) (added : List PeekSite) (left : Intervals)
    (counts : Option Counts) (before after : List PeekSite) (names : Intervals) : Type 0 where
  pub counted : counts ≡ items
  pub reported : after ≡ before ++ added
  pub kept : names ≡ left

abbrev pub ExprIsPassed : Intervals → PopInterval → tree.Expr → Option Counts
    → (before after : List PeekSite) → Type 0
ExprIsPassed intervals popped value counts before after =
    IsPassed (expr_counts value) (expr_sites intervals popped value) intervals counts before after
    intervals

abbrev pub OptionIsPassed : Intervals → PopInterval → Option tree.Expr → Option Counts
    → (before after : List PeekSite) → Type 0
OptionIsPassed intervals popped value counts before after =
    IsPassed (option_counts value) (option_sites intervals popped value) intervals counts before
    after intervals

abbrev pub ArgumentsArePassed : Intervals → PopInterval → tree.Arguments → Option Counts
    → (before after : List PeekSite) → Type 0
ArgumentsArePassed intervals popped arguments counts before after =
    IsPassed (arguments_counts arguments) (arguments_sites intervals popped arguments) intervals
    counts before after intervals

-- two expressions in a row; whether the second one is evaluated is known or not
abbrev pub OperandsArePassed : Intervals → PopInterval → Need → (left right : tree.Expr)
    → Option Counts → (before after : List PeekSite) → Type 0
OperandsArePassed intervals popped need left right counts before after =
    IsPassed (sequence (expr_counts left) (needed need (expr_counts right)))
    (expr_sites intervals popped left
    ++ right_sites need (expr_sites intervals (advance popped (expr_counts left)) right)
    (peeks_of_expr right)) intervals counts before after intervals

abbrev pub VariablesArePassed : Intervals → PopInterval → List tree.Variable → Option Counts
    → (before after : List PeekSite) → Intervals → Type 0
VariablesArePassed intervals popped variables counts before after names =
    IsPassed (variables_counts variables) (variables_sites intervals popped variables)
    (with_unknown intervals variables) counts before after names

abbrev pub StmtIsPassed : Intervals → PopInterval → tree.Stmt → Option Counts
    → (before after : List PeekSite) → Intervals → Type 0
StmtIsPassed intervals popped statement counts before after names =
    IsPassed (stmt_counts (names_of intervals) statement) (stmt_sites intervals popped statement)
    (intervals_after intervals statement) counts before after names

-- a statement whose names end with it
abbrev pub InnerIsPassed : Intervals → PopInterval → tree.Stmt → Option Counts
    → (before after : List PeekSite) → Intervals → Type 0
InnerIsPassed intervals popped statement counts before after names =
    IsPassed (stmt_counts (names_of intervals) statement) (stmt_sites intervals popped statement)
    intervals counts before after names

abbrev pub BlockIsPassed : Intervals → PopInterval → tree.Stmts → Option Counts
    → (before after : List PeekSite) → Intervals → Type 0
BlockIsPassed intervals popped block counts before after names =
    IsPassed (stmts_counts (names_of intervals) block) (stmts_sites intervals popped block)
    intervals counts before after names

-- the turns of a `for` after its first part, as those of a counted loop or of an unknown one
abbrev pub TurnsArePassed : Intervals → PopInterval → Option Loop → Option tree.Expr
    → (step body : tree.Stmt) → Option Counts → (before after : List PeekSite) → Intervals → Type 0
TurnsArePassed intervals popped counted condition step body counts before after names =
    IsPassed (turns_counts counted (option_counts condition)
    (stmt_counts (names_of intervals) step) (stmt_counts (names_of intervals) body))
    (turns_sites counted (option_sites intervals popped condition
    ++ (stmt_sites intervals popped step ++ stmt_sites intervals popped body))
    (λ loop. stmt_sites (with_interval intervals loop.name (turns_interval loop))
    (in_turns popped loop.turns (stmt_counts (names_of intervals) body)) body)
    (peeks_of_stmt body)) intervals counts before after names
