-- Counts one after the other.
use Rattle.std.proofs.Common.{◌≡◌, ℕ, ◌+◌, List, [], ◌∷◌, Option, Some, None, refl, sym, ap, ◌∙◌}
use Rattle.std.proofs.Common.{arith}
use Rattle.strc_parse_tree.specs.Tree as tree
use Rattle.strc_work_writes.specs.LocalWrites.{Locals, locals_after}
use Rattle.strc_rate_intervals.specs.Intervals.{names_of}
use Rattle.strc_rate_intervals.specs.Intervals.{Intervals, intervals_after}
use Rattle.strc_rate_intervals.proofs.IntervalGrowth.{names_after}
use Rattle.strc_rate.specs.Counts.{Counts, saturated, no_items, sequence, stmt_counts}
use Rattle.strc_rate.specs.Counts.{stmts_counts}
use Rattle.strc_rate.specs.Counts.{expr_counts, arguments_counts, option_counts, variables_counts}

saturated_assoc : (a b c : ℕ) → saturated (saturated (a + b) + c)
    ≡ saturated (a + saturated (b + c))
saturated_assoc a b c = omega arith

saturated_zero : (a b : ℕ) → saturated (saturated (a + b) + 0) ≡ saturated (a + b)
saturated_zero a b = omega arith

zero_saturated : (a b : ℕ) → saturated (0 + saturated (a + b)) ≡ saturated (a + b)
zero_saturated a b = omega arith

-- the grouping doesn't matter
both_assoc : (first second third : Option Counts)
    → sequence (sequence first second) third ≡ sequence first (sequence second third)
both_assoc None second third = refl
both_assoc (Some first) None third = refl
both_assoc (Some first) (Some second) None = refl
both_assoc (Some first) (Some second) (Some third) =
    ap (λ n. Some (record {
      pushes = n;
      pops =
          saturated (saturated (first.pops + second.pops) + third.pops);
    }))
    (saturated_assoc first.pushes second.pushes third.pushes)
    ∙ ap (λ n. Some (record {
      pushes = saturated
          (first.pushes + saturated (second.pushes + third.pushes));
      pops = n;
    }))
    (saturated_assoc first.pops second.pops third.pops)

-- nothing after changes nothing
both_runnable : (first second : Option Counts)
    → sequence (sequence first second) (Some no_items) ≡ sequence first second
both_runnable None second = refl
both_runnable (Some first) None = refl
both_runnable (Some first) (Some second) =
    ap (λ n. Some (record {
      pushes = n;
      pops =
          saturated (saturated (first.pops + second.pops) + 0);
    }))
    (saturated_zero first.pushes second.pushes)
    ∙ ap (λ n. Some (record { pushes = saturated (first.pushes + second.pushes); pops = n }))
    (saturated_zero first.pops second.pops)

-- nothing before changes nothing
nothing_before : (first second : Option Counts)
    → sequence (Some no_items) (sequence first second) ≡ sequence first second
nothing_before None second = refl
nothing_before (Some first) None = refl
nothing_before (Some first) (Some second) =
    ap (λ n. Some (record {
      pushes = n;
      pops =
          saturated (0 + saturated (first.pops + second.pops));
    }))
    (zero_saturated first.pushes second.pushes)
    ∙ ap (λ n. Some (record { pushes = saturated (first.pushes + second.pushes); pops = n }))
    (zero_saturated first.pops second.pops)

before_stmts : (locals : Locals) (statements : tree.Stmts)
    → sequence (Some no_items) (stmts_counts locals statements) ≡ stmts_counts locals statements
before_stmts locals tree.Done = refl
before_stmts locals (tree.Then first rest) =
    nothing_before (stmt_counts locals first) (stmts_counts (locals_after locals first) rest)

before_variables : (variables : List tree.Variable)
    → sequence (Some no_items) (variables_counts variables) ≡ variables_counts variables
before_variables [] = refl
before_variables (first ∷ rest) = nothing_before (option_counts first.initial)
    (variables_counts rest)

-- one more part after those so far
pub runnable_step : (so_far here next : Option Counts) → next ≡ sequence so_far here
    → sequence next (Some no_items) ≡ next
runnable_step so_far here next e = ap (λ n. sequence n (Some no_items)) e
    ∙ both_runnable so_far here ∙ sym e

pub stmts_step : (so_far here next whole : Option Counts) (intervals advance : Intervals)
    (x : tree.Stmt) (rest all : tree.Stmts) → here ≡ stmt_counts (names_of intervals) x
    → advance ≡ intervals_after intervals x → next ≡ sequence so_far here → all ≡ tree.Then x rest
    → sequence so_far (stmts_counts (names_of intervals) all) ≡ whole
    → sequence next (stmts_counts (names_of advance) rest) ≡ whole
stmts_step so_far here next whole intervals advance x rest all counted names more is left =
    ap (λ n. sequence n (stmts_counts (names_of advance) rest)) more
    ∙ both_assoc so_far here (stmts_counts (names_of advance) rest)
    ∙ ap (λ h. sequence so_far (sequence h (stmts_counts (names_of advance) rest))) counted
    ∙ ap (λ l. sequence so_far (sequence (stmt_counts (names_of intervals) x)
    (stmts_counts l rest))) (ap names_of names ∙ names_after intervals x)
    ∙ ap (λ b. sequence so_far (stmts_counts (names_of intervals) b)) (sym is)
    ∙ left

-- what a first count of nothing tells
pub first_runnable : (none : Counts) → none ≡ no_items
    → sequence (Some none) (Some no_items) ≡ Some none
first_runnable none e = ap (λ n. sequence (Some n) (Some no_items)) e ∙ ap Some (sym e)

pub first_stmts : (none : Counts) (locals : Locals) (statements : tree.Stmts) → none ≡ no_items
    → sequence (Some none) (stmts_counts locals statements) ≡ stmts_counts locals statements
first_stmts none locals statements e = ap
    (λ n. sequence (Some n) (stmts_counts locals statements)) e ∙ before_stmts locals statements

pub first_variables : (none : Counts) (variables : List tree.Variable) → none ≡ no_items
    → sequence (Some none) (variables_counts variables) ≡ variables_counts variables
first_variables none variables e = ap (λ n. sequence (Some n) (variables_counts variables)) e
    ∙ before_variables variables

pub variables_step : (so_far here next whole : Option Counts) (x : tree.Variable)
    (rest all : List tree.Variable) → here ≡ option_counts x.initial → next ≡ sequence so_far here
    → all ≡ x ∷ rest → sequence so_far (variables_counts all) ≡ whole
    → sequence next (variables_counts rest) ≡ whole
variables_step so_far here next whole x rest all counted more is left =
    ap (λ n. sequence n (variables_counts rest)) more
    ∙ both_assoc so_far here (variables_counts rest)
    ∙ ap (λ h. sequence so_far (sequence h (variables_counts rest))) counted
    ∙ ap (λ b. sequence so_far (variables_counts b)) (sym is)
    ∙ left

before_arguments : (arguments : tree.Arguments)
    → sequence (Some no_items) (arguments_counts arguments) ≡ arguments_counts arguments
before_arguments tree.NoArgument = refl
before_arguments (tree.Argument first rest) =
    nothing_before (expr_counts first) (arguments_counts rest)

pub first_arguments : (none : Counts) (arguments : tree.Arguments) → none ≡ no_items
    → sequence (Some none) (arguments_counts arguments) ≡ arguments_counts arguments
first_arguments none arguments e = ap (λ n. sequence (Some n) (arguments_counts arguments)) e
    ∙ before_arguments arguments

pub arguments_step : (so_far here next whole : Option Counts) (x : tree.Expr)
    (rest all : tree.Arguments) → here ≡ expr_counts x → next ≡ sequence so_far here
    → all ≡ tree.Argument x rest → sequence so_far (arguments_counts all) ≡ whole
    → sequence next (arguments_counts rest) ≡ whole
arguments_step so_far here next whole x rest all counted more is left =
    ap (λ n. sequence n (arguments_counts rest)) more
    ∙ both_assoc so_far here (arguments_counts rest)
    ∙ ap (λ h. sequence so_far (sequence h (arguments_counts rest))) counted
    ∙ ap (λ b. sequence so_far (arguments_counts b)) (sym is)
    ∙ left
