-- The balance equations of nodes that fire at fixed rates, their least solution, and how it is
-- found (Lee and Messerschmitt 1987).
use Rattle.std.specs.Prelude.{◌≡◌, ℕ, zero, suc, ◌*◌, ◌/◌, ◌<◌, ◌≤◌, ◌==◌, nat_lt, Bool, false}
use Rattle.std.specs.Prelude.{◌||◌, List, [], ◌∷◌, map, length, replicate, All, Contains}
use Rattle.std.specs.Prelude.{slice_index, slice_index_or, slice_set, Option, Some, None}
use Rattle.std.specs.Prelude.{if◌then◌else◌}
use Rattle.std.specs.List.{list_any}
use Rattle.std.specs.Option.{option_or}
use Rattle.strc_balance.specs.declared.fraction.TheConstants.{COUNT_LIMIT}
use Rattle.strc_balance.specs.declared.equation.Equation.{Equation}
use Rattle.strc_balance.specs.declared.fraction.Fraction.{Fraction}
use Rattle.strc_balance.specs.Divisors.{multiple, lowest_terms}

-- solutions

-- how often a node fires in a round
abbrev pub count_at : List ℕ → ℕ → ℕ
count_at counts node = slice_index counts node

-- in a round a channel's source pushes as many items as its target pops
abbrev pub IsBalanced : List ℕ → Equation → Type 0
IsBalanced counts equation =
    equation.push * count_at counts equation.source ≡ equation.pop * count_at counts equation.target

-- a round in which each node fires, and each channel ends with as many items as it began with
pub record Balances (size : ℕ) (equations : List Equation) (counts : List ℕ) : Type 0 where
  pub each : length counts ≡ size
  pub positive : (node : ℕ) → node < size → 0 < count_at counts node
  pub balanced : All (IsBalanced counts) equations

-- no other such round fires any node less often
pub record IsLeast (size : ℕ) (equations : List Equation) (counts : List ℕ) : Type 0 where
  pub balances : Balances size equations counts
  pub least : (other : List ℕ) → Balances size equations other → (node : ℕ)
      → count_at counts node ≤ count_at other node

-- how often a node may fire in a round
abbrev pub count_limit : ℕ
count_limit = COUNT_LIMIT

-- counts within the limit
abbrev pub IsWithinLimit : List ℕ → Type 0
IsWithinLimit counts = (node : ℕ) → count_at counts node ≤ count_limit

-- how they are found: each node's count is a fraction of node 0's

-- the fractions that are known so far, by node
abbrev pub Fractions : Type 0
Fractions = List (Option Fraction)

abbrev pub fraction_at : Fractions → ℕ → Option Fraction
fraction_at fractions node = slice_index_or fractions node None

-- the fraction of an equation's target by that of its source, and the other way round
abbrev pub target_fraction : Fraction → Equation → Fraction
target_fraction source equation =
    lowest_terms (source.top * equation.push) (source.bottom * equation.pop)

abbrev pub source_fraction : Fraction → Equation → Fraction
source_fraction target equation =
    lowest_terms (target.top * equation.pop) (target.bottom * equation.push)

-- an equation of which one end is known gives the fraction of the other
abbrev pub given_by : Option Fraction → Option Fraction → Equation → Option (ℕ × Fraction)
given_by (Some source) None equation = Some (equation.target, target_fraction source equation)
given_by None (Some target) equation = Some (equation.source, source_fraction target equation)
given_by _ _ equation = None

abbrev pub given : Fractions → Equation → Option (ℕ × Fraction)
given fractions equation =
    given_by (fraction_at fractions equation.source) (fraction_at fractions equation.target)
    equation

-- the first one of which one end is known
abbrev pub first_given : Fractions → List Equation → Option (ℕ × Fraction)
first_given fractions [] = None
first_given fractions (first ∷ rest) =
    option_or (given fractions first) (first_given fractions rest)

abbrev pub with_given : Fractions → Option (ℕ × Fraction) → Fractions
with_given fractions None = fractions
with_given fractions (Some found) = slice_set fractions found.0 (Some found.1)

-- the fractions that so many turns give
abbrev pub propagated : ℕ → List Equation → Fractions → Fractions
propagated zero equations fractions = fractions
propagated (suc turns) equations fractions =
    propagated turns equations (with_given fractions (first_given fractions equations))

abbrev pub one : Fraction
one = record { top = 1; bottom = 1 }

-- at first only node 0's is known, which is 1
abbrev pub start_fractions : ℕ → Fractions
start_fractions size = slice_set (replicate size None) 0 (Some one)

-- each turn gives one more node its fraction
abbrev pub spread : ℕ → List Equation → Fractions
spread size equations = propagated size equations (start_fractions size)

-- the least number that makes each fraction whole
abbrev pub scale_by : Option Fraction → ℕ → ℕ
scale_by None scale = scale
scale_by (Some fraction) scale = multiple scale fraction.bottom

abbrev pub scale_from : ℕ → Fractions → ℕ
scale_from scale [] = scale
scale_from scale (first ∷ rest) = scale_from (scale_by first scale) rest

-- that many times a fraction
abbrev pub whole_count : ℕ → Option Fraction → ℕ
whole_count scale None = 0
whole_count scale (Some fraction) = fraction.top * (scale / fraction.bottom)

-- the least whole multiples of the fractions
abbrev pub whole_counts : Fractions → List ℕ
whole_counts fractions = map (whole_count (scale_from 1 fractions)) fractions

-- the judgement

-- a number passes the limit
abbrev pub passes : ℕ → Bool
passes count = nat_lt count_limit count

abbrev pub fraction_passes : Option Fraction → Bool
fraction_passes None = false
fraction_passes (Some fraction) = passes fraction.top || passes fraction.bottom

-- a fraction passes the limit, or one of the counts
abbrev pub is_too_large : Fractions → Bool
is_too_large fractions =
    list_any fraction_passes fractions || list_any passes (whole_counts fractions)

-- whether an equation holds
abbrev pub is_balanced : List ℕ → Equation → Bool
is_balanced counts equation =
    equation.push * count_at counts equation.source
    == equation.pop * count_at counts equation.target

-- the first equation that doesn't hold, counted from a number
abbrev pub first_unbalanced : ℕ → List ℕ → List Equation → Option ℕ
first_unbalanced number counts [] = None
first_unbalanced number counts (first ∷ rest) =
    if is_balanced counts first then first_unbalanced (suc number) counts rest else Some number

-- connections

-- a path from node to node, along equations and against them
pub data Path (equations : List Equation) : ℕ → ℕ → Type 0 where
  Here : {node : ℕ} → Path equations node node
  Along : {node last : ℕ} (equation : Equation) → Contains equations equation
      → equation.source ≡ node → Path equations equation.target last → Path equations node last
  Against : {node last : ℕ} (equation : Equation) → Contains equations equation
      → equation.target ≡ node → Path equations equation.source last → Path equations node last

-- from each of so many nodes there is a path to each other
abbrev pub AreConnected : ℕ → List Equation → Type 0
AreConnected size equations =
    (node other : ℕ) → node < size → other < size → Path equations node other

-- both ends are nodes, and each end of the channel has a rate
pub record HasRates (size : ℕ) (equation : Equation) : Type 0 where
  pub source : equation.source < size
  pub target : equation.target < size
  pub push : 0 < equation.push
  pub pop : 0 < equation.pop
