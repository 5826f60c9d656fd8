-- What is known of peeks, one part after the other.
use Rattle.std.proofs.Common.{◌≡◌, List, ◌∷◌, ◌++◌, Option, None, sym, ap, ◌∙◌, append_assoc}
use Rattle.strc_parse_tree.specs.Tree as tree
use Rattle.strc_rate.specs.Counts.{Counts, expr_counts, option_counts, stmt_counts}
use Rattle.strc_rate_intervals.specs.Intervals.{Intervals, intervals_after}
use Rattle.strc_rate.specs.Peeks.{PeekSite, PopInterval, advance, option_sites, variables_sites}
use Rattle.strc_rate.specs.Peeks.{expr_sites, arguments_sites, stmt_sites, stmts_sites}
use Rattle.strc_rate_intervals.specs.Intervals.{names_of}

-- one more statement after those so far
pub stmts_seen : (so_far next whole : List PeekSite) (intervals inner : Intervals)
    (popped later : PopInterval) (passed : Option Counts) (x : tree.Stmt) (rest all : tree.Stmts)
    → passed ≡ stmt_counts (names_of intervals) x → inner ≡ intervals_after intervals x
    → later ≡ advance popped passed → next ≡ so_far ++ stmt_sites intervals popped x
    → all ≡ tree.Then x rest
    → so_far ++ stmts_sites intervals popped all ≡ whole
    → next ++ stmts_sites inner later rest ≡ whole
stmts_seen so_far next whole intervals inner popped later passed x rest all counted names
    moved more is left =
    ap (λ s. s ++ stmts_sites inner later rest) more
    ∙ append_assoc so_far (stmt_sites intervals popped x)
    (stmts_sites inner later rest)
    ∙ ap (λ r. so_far ++ (stmt_sites intervals popped x
    ++ stmts_sites r later rest)) names
    ∙ ap (λ p. so_far ++ (stmt_sites intervals popped x
    ++ stmts_sites (intervals_after intervals x) p rest))
    (moved ∙ ap (advance popped) counted)
    ∙ ap (λ b. so_far ++ stmts_sites intervals popped b) (sym is)
    ∙ left

-- one more variable of a declaration
pub variables_seen : (so_far next whole : List PeekSite)
    (intervals inner : Intervals) (popped later : PopInterval) (passed : Option Counts)
    (x : tree.Variable) (rest all : List tree.Variable)
    → passed ≡ option_counts x.initial → inner ≡ record { 0 = x.name; 1 = None } ∷ intervals
    → later ≡ advance popped passed → next ≡ so_far
    ++ option_sites intervals popped x.initial → all ≡ x ∷ rest
    → so_far ++ variables_sites intervals popped all ≡ whole
    → next ++ variables_sites inner later rest ≡ whole
variables_seen so_far next whole intervals inner popped later passed x rest all counted names
    moved more is left =
    ap (λ s. s ++ variables_sites inner later rest) more
    ∙ append_assoc so_far (option_sites intervals popped x.initial)
    (variables_sites inner later rest)
    ∙ ap (λ r. so_far ++ (option_sites intervals popped x.initial
    ++ variables_sites r later rest)) names
    ∙ ap (λ p. so_far ++ (option_sites intervals popped x.initial
    ++ variables_sites (record { 0 = x.name; 1 = None } ∷ intervals) p rest))
    (moved ∙ ap (advance popped) counted)
    ∙ ap (λ b. so_far ++ variables_sites intervals popped b) (sym is)
    ∙ left

-- one more argument of a call
pub arguments_seen : (so_far next whole : List PeekSite) (intervals : Intervals)
    (popped later : PopInterval) (passed : Option Counts) (x : tree.Expr)
    (rest all : tree.Arguments) → passed ≡ expr_counts x → later ≡ advance popped passed
    → next ≡ so_far ++ expr_sites intervals popped x → all ≡ tree.Argument x rest
    → so_far ++ arguments_sites intervals popped all ≡ whole
    → next ++ arguments_sites intervals later rest ≡ whole
arguments_seen so_far next whole intervals popped later passed x rest all counted moved more is
    left =
    ap (λ s. s ++ arguments_sites intervals later rest) more
    ∙ append_assoc so_far (expr_sites intervals popped x) (arguments_sites intervals later rest)
    ∙ ap (λ p. so_far ++ (expr_sites intervals popped x ++ arguments_sites intervals p rest))
    (moved ∙ ap (advance popped) counted)
    ∙ ap (λ b. so_far ++ arguments_sites intervals popped b) (sym is)
    ∙ left
