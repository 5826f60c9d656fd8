-- The nodes of a synchronous dataflow graph: filters, splitters and joiners under one notion (Lee
-- and Messerschmitt 1987;
-- StreamIt specification 2.1, "Filters"). A node is known by its code; what a code means is a
-- record over abstract carriers.
use Rattle.std.specs.Prelude.{ℕ, zero, suc, ◌+◌, ℤ, List}

-- A list of items for each port.
abbrev pub ByPort : Type 0
ByPort = ℕ → List ℤ

-- What one firing gives: the next state, the items pushed at each output port and the words
-- written; or the cause of a fault.
pub data Fired (State Cause Word : Type 0) : Type 0 where
  Fires : State → ByPort → List Word → Fired State Cause Word
  Faults : Cause → Fired State Cause Word

-- What codes mean. Firings of a node are numbered from 0 over its whole life, so a prework is what
-- firing 0 does, with its own rates.
pub record Meaning (Code State Cause Word : Type 0) : Type 0 where
  -- the state before firing 0
  pub start : Code → State
  -- the number of input ports
  pub ports : Code → ℕ
  -- the items that firing i looks at, at an input port
  pub window : Code → ℕ → ℕ → ℕ
  -- the items that firing i takes, at an input port
  pub popped : Code → ℕ → ℕ → ℕ
  -- the items that firing i gives, at an output port
  pub pushed : Code → ℕ → ℕ → ℕ
  -- firing i of a code from a state, at the items that it looks at
  pub fire : Code → ℕ → State → ByPort → Fired State Cause Word

-- A rate added up over firings 0 to n - 1, at a port.
unfoldable pub total : (ℕ → ℕ → ℕ) → ℕ → ℕ → ℕ
total rate zero port = 0
total rate (suc n) port = total rate n port + rate n port

-- One list, at port 0 alone.
unfoldable pub at_port_0 : List ℤ → ByPort
at_port_0 items zero = items
at_port_0 items (suc port) = List.[]
