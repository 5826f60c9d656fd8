-- Which channels join which nodes, whatever their rates.
use Rattle.std.specs.Prelude.{◌≡◌, ℕ, ◌<◌, true, List, map, length, is_some}
use Rattle.strc_balance.specs.declared.equation.Equation.{Equation}
use Rattle.strc_balance.specs.Balance.{Fractions, fraction_at}

-- an equation of the same nodes with rates of 1
abbrev pub unit_rates : Equation → Equation
unit_rates equation = record {
  source = equation.source;
  push = 1;
  target = equation.target;
  pop =
      1;
}

abbrev pub all_unit_rates : List Equation → List Equation
all_unit_rates equations = map unit_rates equations

-- each node has a fraction
abbrev pub AreKnown : Fractions → Type 0
AreKnown fractions = (node : ℕ) → node < length fractions
    → is_some (fraction_at fractions node) ≡ true
