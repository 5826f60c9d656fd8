-- Units and their copies.
use Rattle.std.proofs.Common.{◌≡◌, refl, sym, ap, ◌∙◌, ℕ, List, [], ◌∷◌, ◌++◌}
use Rattle.std.proofs.Common.{map}
use Rattle.strc_sched_orders.specs.Greedy.{firings_of}
use Rattle.strc_sched_orders.specs.Order.{repeated}
use Rattle.strc_sched_orders.specs.declared.unit as units
use Rattle.strc_sched_rings.specs.Units.{UnitView, unit_view}

-- the firings that views of units mean
abbrev view_firings : List UnitView → List ℕ
view_firings [] = []
view_firings (view ∷ rest) = repeated view.turns view.nodes ++ view_firings rest

of_views : (all : List units.Unit.Unit) → firings_of all ≡ view_firings (map unit_view all)
of_views [] = refl
of_views (unit ∷ all) = ap (λ l. repeated unit.turns unit.nodes.items ++ l) (of_views all)

-- units with the same views mean the same firings
pub same_firings : (one other : List units.Unit.Unit) → map unit_view one ≡ map unit_view other
    → firings_of one ≡ firings_of other
same_firings one other same = of_views one ∙ ap view_firings same ∙ sym (of_views other)
