-- A small concrete meaning, and streams of the language's examples over it.
use Rattle.std.specs.Prelude.{ℕ, zero, suc, Bool, true, cond, eqb, ℤ, pos, negsuc, ◌+ℤ◌, ◌-ℤ◌}
use Rattle.std.specs.Prelude.{neg_ℤ, int_div, List, [], ◌∷◌, length, get_or, take, drop, sum}
use Rattle.strc_elab_dataflow.specs.Node.{ByPort, Fired, Fired.Fires, Fired.Faults, Meaning}
use Rattle.strc_elab_dataflow.specs.Node.{at_port_0}
use Rattle.strc_elab_dataflow.specs.RoundRobin.{span_start, one_cycle}

-- Filters of the examples, with splitters and joiners by their weights.
pub data Block : Type 0 where
  -- pushes x and adds 1 to x, from 0 on
  Counter : Block
  -- passes an item on
  Identity : Block
  -- pushes peek(1) + pop()
  Adder : Block
  -- pushes -pop()
  Negation : Block
  -- pushes n / (pop() - k)
  Quotient : ℤ → ℤ → Block
  -- prints pop(), ending a line
  Printer : Block
  RoundRobinSplitter : List ℕ → Block
  -- gives the item to each port of weight above 0
  DuplicateSplitter : List ℕ → Block
  RoundRobinJoiner : List ℕ → Block

pub data Cause : Type 0 where
  DivisionByZero : Cause

-- A word printed, and whether it ends a line.
pub record Word : Type 0 where
  pub value : ℤ
  pub ends_line : Bool

abbrev pub line : ℤ → Word
line value = record { value = value; ends_line = true }

unfoldable pub inputs : Block → ℕ
inputs Counter = 0
inputs (RoundRobinJoiner weights) = length weights
inputs _ = 1

unfoldable pub takes : Block → ℕ → ℕ
takes (RoundRobinSplitter weights) port = sum weights
takes (RoundRobinJoiner weights) port = get_or weights port 0
takes Counter port = 0
takes _ port = 1

unfoldable pub looks_at : Block → ℕ → ℕ
looks_at Adder port = 2
looks_at block port = takes block port

unfoldable pub gives : Block → ℕ → ℕ
gives Printer port = 0
gives (RoundRobinSplitter weights) port = get_or weights port 0
gives (DuplicateSplitter weights) port = cond (eqb (get_or weights port 0) 0) 0 1
gives (RoundRobinJoiner weights) port = cond (eqb port 0) (sum weights) 0
gives _ port = cond (eqb port 0) 1 0

unfoldable pub quotient : ℤ → ℤ → ℤ → Fired ℤ Cause Word
quotient n (pos zero) state = Faults DivisionByZero
quotient n (pos (suc d)) state = Fires state (at_port_0 (int_div n (pos (suc d)) ∷ [])) []
quotient n (negsuc d) state = Fires state (at_port_0 (int_div n (negsuc d) ∷ [])) []

unfoldable pub fires : Block → ℤ → ByPort → Fired ℤ Cause Word
fires Counter x seen = Fires (x +ℤ pos 1) (at_port_0 (x ∷ [])) []
fires Identity x seen = Fires x (at_port_0 (seen 0)) []
fires Adder x seen = Fires x (at_port_0 ((get_or (seen 0) 1 (pos 0) +ℤ get_or (seen 0) 0 (pos 0))
    ∷ [])) []
fires Negation x seen = Fires x (at_port_0 (neg_ℤ (get_or (seen 0) 0 (pos 0)) ∷ [])) []
fires (Quotient n k) x seen = quotient n (get_or (seen 0) 0 (pos 0) -ℤ k) x
fires Printer x seen = Fires x (λ port. []) (line (get_or (seen 0) 0 (pos 0)) ∷ [])
fires (RoundRobinSplitter weights) x seen =
    Fires x (λ port. take (get_or weights port 0) (drop (span_start weights port) (seen 0))) []
fires (DuplicateSplitter weights) x seen =
    Fires x (λ port. cond (eqb (get_or weights port 0) 0) [] (seen 0)) []
fires (RoundRobinJoiner weights) x seen = Fires x (at_port_0 (one_cycle weights 0 seen)) []

unfoldable pub example : Meaning Block ℤ Cause Word
example = record {
  start = λ block. pos 0;
  ports = inputs;
  window = λ block firing. looks_at block;
  popped = λ block firing. takes block;
  pushed = λ block firing. gives block;
  fire = λ block firing. fires block;
}
