-- A worked row: a source in one stage and a writer in the next. The source gives 7 in its first
-- firing, and faults in its second one.
use Rattle.std.specs.Prelude.{◌≡◌, ℕ, pos, nat_lt, Bool, true, false, List, [], ◌∷◌, Option, Some}
use Rattle.std.specs.Prelude.{None}
use Rattle.circular_buffer.specs.Buffer.{buffer}
use Rattle.strc_parse_tree.specs.Tree as tree
use Rattle.strc_parse_tree.specs.declared.tree.ItemType.TheVariants as item
use Rattle.strc_parse_tree.specs.declared.tree.RateKind.TheVariants as kind
use Rattle.strc_work_meaning.specs.Filters as filters
use Rattle.strc_work_meaning.specs.declared.fault.Cause.TheVariants.{PeekRange}
use Rattle.strc_work_meaning.specs.declared.word.Word.{Word}
use Rattle.strc_elab_graph.specs.Graphs.{NodeCode, Filter, FileWriter, Channel}
use Rattle.strc_stage_core.specs.Actors as actors
use Rattle.strc_stage_core.specs.Events.{is_over}
use Rattle.strc_stage_core.specs.States.{Start, Core, IsStart, IsState}
use Rattle.strc_sched_outcome.specs.declared.stop.Stop.{Stop}
use Rattle.strc_sched_outcome.specs.declared.stop.Stop.TheVariants as stop
use Rattle.strc_stage_core.specs.Parcels.{Load, ParcelView, parcel, empty_load}
use Rattle.strc_sched_laws.specs.Machine.{CircuitView, MachineView, Ending, Ended, FaultedIn}
use Rattle.strc_sched_laws.specs.Machine.{whole_run}
use Rattle.strc_stage_plan.specs.Cuts.{segment_of}
use Rattle.strc_stage_steps.specs.Beginnings.{entering_at, leaving_at, tapes_at}
use Rattle.strc_stage_steps.specs.Laws.{TellsEnding}
use Rattle.strc_stage_steps.specs.Steps.{StageState, Gathered, stage_work}

-- The source pushes 7 at first, and then pops an item, where there is none.
abbrev pub push_one : List tree.Rate
push_one = record { kind = kind.Push; rate = tree.Number (pos 1) } ∷ []

abbrev pub source : filters.Filter
source = record {
  input = item.Void;
  output = item.Int;
  members = tree.Prework push_one (tree.row (tree.Push (tree.Number (pos 7)) ∷ []))
      ∷ tree.Work push_one (tree.row (tree.Push tree.Pop ∷ [])) ∷ [];
}

abbrev pub codes : List NodeCode
codes = Filter None source ∷ FileWriter [] ∷ []

abbrev pub channels : List Channel
channels = record {
  source = record { node = 0; port = 0 };
  target = record { node = 1; port = 0 };
  enqueued = [];
} ∷ []

abbrev pub circuit : CircuitView
circuit = record {
  codes = codes;
  inputs = [] ∷ (Some 0 ∷ []) ∷ [];
  outputs = (Some 0 ∷ []) ∷ [] ∷ [];
  input = [];
}

abbrev pub machine : MachineView
machine = record {
  fields = [] ∷ [] ∷ [];
  fired = 0 ∷ 0 ∷ [];
  rings = buffer [] 1 ∷ [];
  words = [] ∷ [] ∷ [];
}

-- A node each.
abbrev pub bound : ℕ → ℕ
bound stage = stage

abbrev pub round : List ℕ
round = 0 ∷ 1 ∷ []

abbrev pub state_of : (stage : ℕ) → StageState
state_of stage = record {
  circuit = circuit;
  order = segment_of bound round stage;
  entering = entering_at bound 1 stage channels;
  leaving = leaving_at bound 1 stage channels;
  tapes = tapes_at bound 1 stage codes;
  blocks = record { room = 1; held = nat_lt 0 stage } ∷ [];
  tape_count = 1;
  machine = Some machine;
}

abbrev pub stage_of : (rounds stage : ℕ) → (first : Bool) → actors.Stage StageState Stop
stage_of rounds stage first = record {
  inner = state_of stage;
  first = first;
  rounds = rounds;
  taken = 0;
  stop = None;
  finished = false;
}

abbrev pub free_parcel : ParcelView
free_parcel = parcel (empty_load (1 ∷ []) 1) None false

abbrev pub two_stages : (rounds : ℕ) → Start StageState Load Stop Gathered
two_stages rounds = record {
  stages = stage_of rounds 0 true ∷ stage_of rounds 1 false ∷ [];
  free = free_parcel ∷ free_parcel ∷ free_parcel ∷ free_parcel ∷ [];
  collector = record {
    total = record { words = [] ∷ []; rounds = 0 };
    rounds = rounds;
    taken = 0;
    stop = None;
    finished = false;
  };
  done = false;
}

abbrev pub seven : Word
seven = record { value = pos 7; ends_line = true }

-- The ring can be over with this, and it is what one thread comes to.
pub record IsRow (rounds : ℕ) (total : Gathered) (stop : Option Stop) (ending : Ending) : Type 0
  where
    pub begun : IsStart (two_stages rounds)
    pub core : Core StageState Load Stop Gathered
    pub state : IsState stage_work (two_stages rounds) core
    pub over : is_over core ≡ true
    pub total_is : core.collector.total ≡ total
    pub stop_is : core.collector.stop ≡ stop
    pub ending_is : whole_run circuit [] round rounds machine ≡ ending
    pub told : TellsEnding codes total stop ending

-- After one round all is well; of three the second one faults in the first stage.
abbrev pub TwoStagesRow : Type 0
TwoStagesRow =
    IsRow 1 (record { words = (seven ∷ []) ∷ []; rounds = 1 }) None (Ended ([] ∷ (seven ∷ []) ∷ []))
    × IsRow 3 (record { words = (seven ∷ []) ∷ []; rounds = 1 }) (Some (stop.Fault 0 1 PeekRange))
    (FaultedIn 1 0 1 PeekRange ([] ∷ (seven ∷ []) ∷ []))
