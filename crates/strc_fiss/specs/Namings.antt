-- How the units of a round name a node, unit by unit.
use Rattle.std.specs.Prelude.{ℕ, Bool, false, cond, nat_eq, List, [], ◌∷◌}
use Rattle.strc_elab_dataflow.specs.FusedUnits.{RoundUnit}
use Rattle.strc_fiss.specs.OwnUnits.{names, is_alone}
use Rattle.strc_fiss.specs.declared.own_units.Naming.{Naming}
use Rattle.strc_fiss.specs.declared.own_units.Naming.TheVariants.{Never, Alone, Shared}

-- one unit
abbrev pub named_by : (node : ℕ) → RoundUnit → Naming
named_by node unit =
    cond (names node unit) (cond (is_alone node unit.nodes) (Alone unit.turns) Shared) Never

-- two parts of a round together
abbrev pub together : Naming → Naming → Naming
together Never later = later
together (Alone turns) Never = Alone turns
together (Alone turns) (Alone others) = Shared
together (Alone turns) Shared = Shared
together Shared later = Shared

-- all units
abbrev pub naming_of : (node : ℕ) → List RoundUnit → Naming
naming_of node [] = Never
naming_of node (unit ∷ rest) = together (named_by node unit) (naming_of node rest)

-- whether so many firings are those of one unit, alone
abbrev pub is_all : (count : ℕ) → Naming → Bool
is_all count Never = false
is_all count (Alone turns) = nat_eq turns count
is_all count Shared = false
