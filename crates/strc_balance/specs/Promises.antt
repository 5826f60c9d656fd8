-- What holds of all equations.
use Rattle.std.specs.Prelude.{◌≡◌, ℕ, List, None, All}
use Rattle.strc_balance.specs.declared.equation.Equation.{Equation}
use Rattle.strc_balance.specs.Balance.{first_given, spread, HasRates}

-- the spread ends only where no equation with one known end is left
abbrev pub SpreadIsWhole : Type 0
SpreadIsWhole =
    (size : ℕ) (equations : List Equation)
    → All (HasRates size) equations
    → first_given (spread size equations) equations ≡ None
