-- Between which whole numbers the value of an expression lies, known from the text.
use Rattle.std.specs.Prelude.{ℕ, ℤ, neg_ℤ, ◌+ℤ◌, ◌-ℤ◌, ◌*ℤ◌, ◌-◌, ◌&&◌, List, [], ◌∷◌, Option, Some}
use Rattle.std.specs.Prelude.{None, map, if◌then◌else◌, bytes_eq}
use Rattle.std.specs.Option.{option_and_then, option_map}
use Rattle.std.specs.Int.{int_min, int_max}
use Rattle.strc_parse_tree.specs.Tree as tree
use Rattle.strc_parse_tree.specs.declared.tree.UnaryOperator.{UnaryOperator}
use Rattle.strc_parse_tree.specs.declared.tree.UnaryOperator.TheVariants as unary
use Rattle.strc_parse_tree.specs.declared.tree.BinaryOperator.{BinaryOperator}
use Rattle.strc_parse_tree.specs.declared.tree.BinaryOperator.TheVariants as binary
use Rattle.strc_rate_intervals.specs.Constant.{constant}
use Rattle.strc_rate_intervals.specs.Loops.{Loop, value_after, within_32_bits}
use Rattle.strc_work_writes.specs.LocalWrites.{Locals}
-- a least and a greatest number
pub use Rattle.strc_rate_intervals.specs.declared.interval.Interval.{Interval}

-- the local variables that can be seen, the innermost first, each with its interval where that is
-- known
abbrev pub Intervals : Type 0
Intervals = List (List ℕ × Option Interval)

-- the names of the variables alone
abbrev pub names_of : Intervals → Locals
names_of intervals = map (λ variable. variable.0) intervals

abbrev pub with_unknown : Intervals → List tree.Variable → Intervals
with_unknown intervals [] = intervals
with_unknown intervals (first ∷ rest) = with_unknown
    (record { 0 = first.name; 1 = None } ∷ intervals) rest

-- after a statement; what it declares has no known interval
abbrev pub intervals_after : Intervals → tree.Stmt → Intervals
intervals_after intervals (tree.Declare kind variables) = with_unknown intervals variables
intervals_after intervals _ = intervals

-- the interval of the innermost variable of a name
abbrev pub interval_named : Intervals → List ℕ → Option Interval
interval_named [] name = None
interval_named (first ∷ rest) name = if bytes_eq first.0 name then first.1
    else interval_named rest name

-- the innermost variable of a name gets an interval
abbrev pub with_interval : Intervals → List ℕ → Interval → Intervals
with_interval [] name interval = []
with_interval (first ∷ rest) name interval =
    if bytes_eq first.0 name then record { 0 = first.0; 1 = Some interval } ∷ rest else first
    ∷ with_interval rest name interval

-- the values of a counted loop's variable in its turns
abbrev pub turns_interval : Loop → Interval
turns_interval loop = record {
  low = int_min loop.start (value_after loop (loop.turns - 1));
  high = int_max loop.start (value_after loop (loop.turns - 1));
}

-- an interval is known only where 32 bits hold its bounds
abbrev pub known : Interval → Option Interval
known interval = if within_32_bits interval.low
    && within_32_bits interval.high then Some interval else None

abbrev pub interval_negated : Interval → Option Interval
interval_negated interval = known (record { low = neg_ℤ interval.high; high = neg_ℤ interval.low })

abbrev pub intervals_added : Interval → Interval → Option Interval
intervals_added first second = known (record
    { low = first.low +ℤ second.low; high = first.high +ℤ second.high })

abbrev pub intervals_subtracted : Interval → Interval → Option Interval
intervals_subtracted first second = known
    (record { low = first.low -ℤ second.high; high = first.high -ℤ second.low })

abbrev pub intervals_multiplied : Interval → Interval → Option Interval
intervals_multiplied first second = known (record {
  low = int_min (int_min (first.low *ℤ second.low) (first.low *ℤ second.high))
      (int_min (first.high *ℤ second.low) (first.high *ℤ second.high));
  high = int_max (int_max (first.low *ℤ second.low) (first.low *ℤ second.high))
      (int_max (first.high *ℤ second.low) (first.high *ℤ second.high));
})

abbrev pub unary_interval : UnaryOperator → Interval → Option Interval
unary_interval unary.Negate operand = interval_negated operand
unary_interval _ operand = None

abbrev pub binary_interval : BinaryOperator → Interval → Interval → Option Interval
binary_interval binary.Add first second = intervals_added first second
binary_interval binary.Subtract first second = intervals_subtracted first second
binary_interval binary.Multiply first second = intervals_multiplied first second
binary_interval _ first second = None

-- one number
abbrev pub singleton : ℤ → Interval
singleton value = record { low = value; high = value }

-- a constant's value, or else an interval that is known otherwise
abbrev pub or_else : Option ℤ → Option Interval → Option Interval
or_else (Some value) interval = Some (singleton value)
or_else None interval = interval

-- the interval of an expression, where it is known
abbrev pub interval_of : Intervals → tree.Expr → Option Interval
interval_of intervals (tree.Read name) = interval_named intervals name
interval_of intervals (tree.Group inner) = interval_of intervals inner
interval_of intervals (tree.Unary operator operand) =
    or_else (constant (tree.Unary operator operand))
    (option_and_then (unary_interval operator) (interval_of intervals operand))
interval_of intervals (tree.Binary operator left right) =
    or_else (constant (tree.Binary operator left right))
    (option_and_then (λ first. option_and_then (binary_interval operator first)
    (interval_of intervals right)) (interval_of intervals left))
interval_of intervals (tree.Number value) = Some (singleton value)
interval_of intervals (tree.Truth value) = None
interval_of intervals (tree.Element name index) = None
interval_of intervals tree.Pop = None
interval_of intervals (tree.Peek index) = None
interval_of intervals (tree.Call name arguments) = None
interval_of intervals (tree.Step operator name) = None
interval_of intervals (tree.StepElement operator name index) = None
interval_of intervals (tree.Conditional condition chosen other) =
    option_map singleton (constant (tree.Conditional condition chosen other))
