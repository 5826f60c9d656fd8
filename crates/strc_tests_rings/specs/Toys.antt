-- What the core sees of toys, by the values of their fields.
use Rattle.std.specs.Prelude.{ℕ, suc, Bool, cond, ◌||◌, not, eqb, nat_eq, nat_lt, []}
use Rattle.std.specs.Prelude.{Option, Some, None, is_some}
use Rattle.strc_stage_core.specs.Actors.{Stage, Collector, or_else}
use Rattle.strc_sched_outcome.specs.declared.stop.Stop.{Stop}
use Rattle.strc_sched_outcome.specs.declared.stop.Stop.TheVariants as stop
use Rattle.strc_stage_core.specs.Parcels.{ParcelView}
use Rattle.strc_stage_steps.specs.Steps.{StageState, Gathered}

-- A stage without a machine.
abbrev pub idle_state : StageState
idle_state = record {
  circuit = record { codes = []; inputs = []; outputs = []; input = [] };
  order = [];
  entering = [];
  leaving = [];
  tapes = [];
  blocks = [];
  tape_count = 0;
  machine = None;
}

abbrev pub idle_stage : (first : Bool) (rounds taken : ℕ) → Option Stop → (finished : Bool)
    → Stage StageState Stop
idle_stage first rounds taken stop finished = record {
  inner = idle_state;
  first = first;
  rounds = rounds;
  taken = taken;
  stop = stop;
  finished = finished;
}

-- Has it finished, or has it no rounds left?
abbrev pub is_done : (finished : Bool) (taken rounds : ℕ) → Bool
is_done finished taken rounds = finished || not (nat_lt taken rounds)

-- In one round memory is refused to it.
abbrev pub refusal : (taken refused : ℕ) → Option Stop
refusal taken refused = cond (nat_eq taken refused) (Some stop.NoMemory) None

abbrev pub idle_stop : (taken refused : ℕ) → (own : Option Stop) → ParcelView → Option Stop
idle_stop taken refused own parcel =
    or_else parcel.stop (or_else own (refusal taken refused))

abbrev pub idle_mark : (first : Bool) (taken rounds : ℕ) → ParcelView → Bool
idle_mark first taken rounds parcel =
    cond first (eqb (suc taken) rounds || is_some parcel.stop) parcel.last

-- How many rounds a collector has gathered: all that it took, or those before its first stop.
abbrev pub counted : Option Stop → (gathered taken : ℕ) → ℕ
counted own gathered taken = cond (is_some own) gathered taken

abbrev pub counter : (rounds taken gathered : ℕ) → Option Stop → (finished : Bool)
    → Collector Gathered Stop
counter rounds taken gathered own finished = record {
  total = record { words = []; rounds = counted own gathered taken };
  rounds = rounds;
  taken = taken;
  stop = own;
  finished = finished;
}
