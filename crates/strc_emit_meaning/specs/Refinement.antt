-- How outcomes of C go with those of lowered code.
use Rattle.std.specs.Prelude.{◌≡◌, List, [], ◌∷◌, Result, Ok, Err}
use Rattle.strc_lex_names.specs.Results.{result_and_then}
use Rattle.strc_work_meaning.specs.declared.fault.Cause.{Cause}
use Rattle.strc_emit_c.specs.C.{Statement}
use Rattle.strc_emit_c.specs.Meaning.{Memory, Stop, Faults, Standing, Calls}
use Rattle.strc_emit_c.specs.Meaning.{statement_done}

-- what is done goes with what is given, and a fault with the same one; C is never undefined
abbrev pub Refines : {Did Given : Type 0} → (Shown : Did → Given → Type 0) → Result Did Cause
    → Result Given Stop → Type 0
Refines Shown (Ok did) (Ok given) = Shown did given
Refines Shown (Err why) (Err (Faults cause)) = why ≡ cause
Refines Shown _ _ = ⊥

-- statements one after another
abbrev pub lines_done : Calls → Standing → List Statement → Memory → Result Memory Stop
lines_done calls stand [] memory = Ok memory
lines_done calls stand (first ∷ rest) memory =
    result_and_then (statement_done calls stand first memory) (lines_done calls stand rest)
