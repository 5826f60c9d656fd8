-- One step after another, where each may refuse.
use Rattle.std.specs.Prelude.{Result, Ok, Err}

-- what the second step gives for the value of the first, or the first one's error
abbrev pub result_and_then : {A B E : Type 0} → Result A E → (A → Result B E) → Result B E
result_and_then (Ok value) next = next value
result_and_then (Err error) next = Err error
