-- Entries of peeks to which no run comes, one part after the other.
use Rattle.std.proofs.Common.{◌≡◌, sym, ap, ◌∙◌, List, ◌∷◌, ◌++◌, append_assoc}
use Rattle.std.proofs.lemmas.List.{map-append}
use Rattle.strc_parse_tree.specs.Tree as tree
use Rattle.strc_rate.specs.Entries.{peeks_of_expr, peeks_of_arguments, peeks_of_option}
use Rattle.strc_rate.specs.Entries.{peeks_of_variables, peeks_of_stmt, peeks_of}
use Rattle.strc_rate.specs.Peeks.{PeekSite, NoRun, unreached}

pub unreached-append : (first second : List tree.Expr)
    → unreached (first ++ second) ≡ unreached first ++ unreached second
unreached-append first second = map-append (λ index. NoRun) first second

-- one more statement after those so far
pub stmts_unreached : (so_far next whole : List PeekSite) (x : tree.Stmt) (rest all : tree.Stmts)
    → next ≡ so_far ++ unreached (peeks_of_stmt x) → all ≡ tree.Then x rest
    → so_far ++ unreached (peeks_of all) ≡ whole → next ++ unreached (peeks_of rest) ≡ whole
stmts_unreached so_far next whole x rest all more is left =
    ap (λ s. s ++ unreached (peeks_of rest)) more
    ∙ append_assoc so_far (unreached (peeks_of_stmt x)) (unreached (peeks_of rest))
    ∙ ap (λ s. so_far ++ s) (sym (unreached-append (peeks_of_stmt x) (peeks_of rest)))
    ∙ ap (λ b. so_far ++ unreached (peeks_of b)) (sym is)
    ∙ left

-- one more argument of a call
pub arguments_unreached : (so_far next whole : List PeekSite) (x : tree.Expr)
    (rest all : tree.Arguments) → next ≡ so_far ++ unreached (peeks_of_expr x)
    → all ≡ tree.Argument x rest → so_far ++ unreached (peeks_of_arguments all) ≡ whole
    → next ++ unreached (peeks_of_arguments rest) ≡ whole
arguments_unreached so_far next whole x rest all more is left =
    ap (λ s. s ++ unreached (peeks_of_arguments rest)) more
    ∙ append_assoc so_far (unreached (peeks_of_expr x)) (unreached (peeks_of_arguments rest))
    ∙ ap (λ s. so_far ++ s)
    (sym (unreached-append (peeks_of_expr x) (peeks_of_arguments rest)))
    ∙ ap (λ b. so_far ++ unreached (peeks_of_arguments b)) (sym is)
    ∙ left

-- one more variable of a declaration
pub variables_unreached : (so_far next whole : List PeekSite) (x : tree.Variable)
    (rest all : List tree.Variable) → next ≡ so_far ++ unreached (peeks_of_option x.initial)
    → all ≡ x ∷ rest → so_far ++ unreached (peeks_of_variables all) ≡ whole
    → next ++ unreached (peeks_of_variables rest) ≡ whole
variables_unreached so_far next whole x rest all more is left =
    ap (λ s. s ++ unreached (peeks_of_variables rest)) more
    ∙ append_assoc so_far (unreached (peeks_of_option x.initial))
    (unreached (peeks_of_variables rest))
    ∙ ap (λ s. so_far ++ s)
    (sym (unreached-append (peeks_of_option x.initial) (peeks_of_variables rest)))
    ∙ ap (λ b. so_far ++ unreached (peeks_of_variables b)) (sym is)
    ∙ left

-- entries of two parts
pub ruleset parts = (unreached-append)
