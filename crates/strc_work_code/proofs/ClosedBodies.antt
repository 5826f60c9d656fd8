-- Each name in a body of a closed filter is declared, and bodies don't return.
use Rattle.std.proofs.Common.{[], ◌∷◌, List, Option, Some, None, refl}
use Rattle.std.specs.Prelude.{unwrap_or}
use Rattle.strc_parse_tree.specs.Tree as tree
use Rattle.strc_work_meaning.specs.declared.body.Body.{Body}
use Rattle.strc_work_meaning.specs.declared.body.Body.TheVariants as body
use Rattle.strc_work_meaning.specs.Filters.{work_block, prework_block, body_block}
use Rattle.strc_work_meaning.specs.Scoping.{Scope}
use Rattle.strc_work_meaning.specs.Closed.{AreClosed, AreClosedMembers, IsClosedBody}

work_closed : (names : Scope) (ms : List tree.Member) → AreClosedMembers names ms
    → IsClosedBody names (work_block ms)
work_closed names [] h = (tt, refl, refl)
work_closed names (tree.Fields kind variables ∷ rest) h = work_closed names rest h.1
work_closed names (tree.Init block ∷ rest) h = work_closed names rest h.1
work_closed names (tree.Prework rates block ∷ rest) h = work_closed names rest h.1
work_closed names (tree.Work rates block ∷ rest) h = h.0
work_closed names (tree.Helper kind name parameters block ∷ rest) h = work_closed names rest h.1

-- a block, where there is one
abbrev IsClosedBlock : Scope → Option tree.Stmts → Type 0
IsClosedBlock names None = Unit {0}
IsClosedBlock names (Some block) = IsClosedBody names block

prework_closed : (names : Scope) (ms : List tree.Member) → AreClosedMembers names ms
    → IsClosedBlock names (prework_block ms)
prework_closed names [] h = tt
prework_closed names (tree.Fields kind variables ∷ rest) h = prework_closed names rest h.1
prework_closed names (tree.Init block ∷ rest) h = prework_closed names rest h.1
prework_closed names (tree.Prework rates block ∷ rest) h = h.0
prework_closed names (tree.Work rates block ∷ rest) h = prework_closed names rest h.1
prework_closed names (tree.Helper kind name parameters block ∷ rest) h =
    prework_closed names rest h.1

either_closed : (names : Scope) (first : Option tree.Stmts) (other : tree.Stmts)
    → IsClosedBlock names first → IsClosedBody names other
    → IsClosedBody names (unwrap_or first other)
either_closed names None other h h' = h'
either_closed names (Some block) other h h' = h

pub body_kept : (body : Body) (names : Scope) (ms : List tree.Member) → AreClosedMembers names ms
    → IsClosedBody names (body_block body ms)
body_kept body.Prework names ms h =
    either_closed names (prework_block ms) (work_block ms) (prework_closed names ms h)
    (work_closed names ms h)
body_kept body.Work names ms h = work_closed names ms h

pub body_closed : (body : Body) (names : Scope) (ms : List tree.Member) → AreClosedMembers names ms
    → AreClosed names (body_block body ms)
body_closed body names ms h = (body_kept body names ms h).0
