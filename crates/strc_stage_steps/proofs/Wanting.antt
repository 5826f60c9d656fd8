-- Where a stage's step is stopped out of memory.
use Rattle.std.proofs.Common.{◌≡◌, ◌∙◌, sym, ap, ℕ, List, Bool, true, false, true≢false, Option}
use Rattle.std.proofs.Common.{Some, None, is_some, Err}
use Rattle.strc_sched_machine.specs.Memory.{ComesToWord, WantsWordOfOrder}
use Rattle.strc_sched_laws.specs.Machine.{CircuitView, MachineView}
use Rattle.strc_stage_core.specs.Actors.{or_else}
use Rattle.strc_sched_outcome.specs.declared.stop.Stop.{Stop}
use Rattle.strc_sched_outcome.specs.declared.stop.Stop.TheVariants as stops

-- nothing is something
none_some : (stop : Stop) → ◌≡◌ {A = Option Stop} None (Some stop) → ⊥
none_some stop e = true≢false (sym (ap is_some e))

-- A run that ends without a stop doesn't want any.
pub none_wants : {A : Type 0} (why : Option Stop) → why ≡ None → why ≡ Some stops.NoMemory → A
none_wants why none e = absurd (none_some stops.NoMemory (sym none ∙ e))

-- A stopped parcel isn't one that has no stop.
pub stopped_wants : {A : Type 0} (why : Option Stop) → is_some why ≡ true → why ≡ None → A
stopped_wants why is none = absurd (true≢false (sym is ∙ ap is_some none))

-- A machine that was stopped out of memory has come to a word.
pub stop_wants : (circuit : CircuitView) (order : List ℕ) (before : MachineView)
    (why : Stop) → WantsWordOfOrder circuit order before (Err why)
    → ◌≡◌ {A = Option Stop} (Some why) (Some stops.NoMemory) → ComesToWord circuit order before
stop_wants circuit order before (stops.Fault node firing cause) wants e = cc
stop_wants circuit order before stops.NoMemory wants e = wants

-- The stop that a step sets on a parcel without one is the parcel's then.
pub set_wants : (own set why : Option Stop) (stop : Stop) → set ≡ or_else own (Some stop)
    → own ≡ why → why ≡ None → set ≡ Some stops.NoMemory
    → ◌≡◌ {A = Option Stop} (Some stop) (Some stops.NoMemory)
set_wants None set why stop is same none e = sym is ∙ e
set_wants (Some other) set why stop is same none e =
    absurd (none_some other (sym (same ∙ none)))
