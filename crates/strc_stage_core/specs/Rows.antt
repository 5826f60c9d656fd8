-- Worked rows: three stages that add to what a parcel carries.
use Rattle.std.specs.Prelude.{◌≡◌, ℕ, suc, ◌+◌, Bool, true, false, cond, eqb, List, [], ◌∷◌, ◌++◌}
use Rattle.std.specs.Prelude.{length, Option, Some, None, get_or, ◌||◌, is_some, slice_get}
use Rattle.strc_stage_core.specs.Actors.{Plain, Stage, Work}
use Rattle.strc_stage_core.specs.States.{Start, Core, IsStart, IsState, first_core}
use Rattle.strc_stage_core.specs.Invariants.{AllFirst}
use Rattle.strc_stage_core.specs.Events.{Event, may, is_over, acts, Happen}

-- Each stage adds its number to what comes, and counts on; one that is at the fault's number
-- stops with it.
abbrev pub adders : ℕ → Work ℕ ℕ ℕ (List ℕ)
adders fault = record {
  due_stop = λ number load. cond (eqb number fault) (Some fault) None;
  next_state = λ number load stop. suc number;
  next_load = λ number load stop. load + number;
  no_memory = 0;
  gathered = λ total load. total ++ (load ∷ []);
  emptied = λ load stop. 0;
}

abbrev pub stage_at : Bool → ℕ → Bool → ℕ → Stage ℕ ℕ
stage_at first rounds done number = record {
  inner = number;
  first = first;
  rounds = rounds;
  taken = 0;
  stop = None;
  finished = done;
}

abbrev pub free_parcel : Plain ℕ ℕ
free_parcel = record { load = 0; stop = None; last = false }

-- Three stages, from 1, 10 and 100 on, and six free parcels.
abbrev pub three_stages : ℕ → Bool → Option ℕ → Start ℕ ℕ ℕ (List ℕ)
three_stages rounds done stop = record {
  stages = stage_at true rounds done 1 ∷ stage_at false rounds done 10
      ∷ stage_at false rounds done 100 ∷ [];
  free = free_parcel ∷ free_parcel ∷ free_parcel ∷ free_parcel ∷ free_parcel ∷ free_parcel ∷ [];
  collector = record {
    total = [];
    rounds = rounds;
    taken = 0;
    stop = stop;
    finished = done;
  };
  done = done;
}

-- From the first core so many events happen, until none is allowed; all parcels are on the last
-- link then, and this was gathered, up to this stop.
pub record IsRow (work : Work ℕ ℕ ℕ (List ℕ)) (start : Start ℕ ℕ ℕ (List ℕ)) (count : ℕ)
    (total : List ℕ) (stop : Option ℕ) : Type 0 where
  pub begun : IsStart start
  pub core : Core ℕ ℕ ℕ (List ℕ)
  pub state : IsState work start core
  pub events : List Event
  pub happen : Happen work (first_core start) events core
  pub count_is : length events ≡ count
  pub acts_are : acts core ≡ count
  pub over : is_over core ≡ true
  pub none_allowed : (event : Event) → may core event ≡ false
  pub links_are : (length (get_or core.links 0 []) ∷ length (get_or core.links 1 [])
      ∷ length (get_or core.links 2 []) ∷ length (get_or core.links 3 []) ∷ [])
      ≡ (0 ∷ 0 ∷ 0 ∷ 6 ∷ [])
  pub total_is : core.collector.total ≡ total
  pub stop_is : core.collector.stop ≡ stop

-- Three rounds: each of the four actors takes and gives three parcels.
abbrev pub ThreeRoundsRow : Type 0
ThreeRoundsRow = IsRow (adders 1000) (three_stages 3 false None) 24 (111 ∷ 114 ∷ 117 ∷ []) None

-- A stop in the second stage in round 2 of 20: the parcels of rounds 0 and 1 are gathered, and each
-- actor takes the seven that follow the second.
abbrev pub StoppedRow : Type 0
StoppedRow = IsRow (adders 12) (three_stages 20 false None) 72 (111 ∷ 114 ∷ []) (Some 12)

-- Without rounds, and after a stop at first, nothing happens.
abbrev pub DoneRow : Type 0
DoneRow = IsRow (adders 1000) (three_stages 0 true None) 0 [] None
    × IsRow (adders 1000) (three_stages 3 true (Some 5)) 0 [] (Some 5)

-- A parcel without a load, or a stopped one.
abbrev pub is_empty : Plain ℕ ℕ → Bool
is_empty parcel = is_some parcel.stop || eqb parcel.load 0

-- On the link from the collector to the first stage all parcels are such, in every state.
abbrev pub EmptiedRow : Type 0
EmptiedRow =
    (fault rounds : ℕ) (core : Core ℕ ℕ ℕ (List ℕ)) (link : List (Plain ℕ ℕ)) (count : ℕ)
    → IsState (adders fault) (three_stages rounds false None) core
    → slice_get core.links (length core.stages) ≡ Some link
    → AllFirst count is_empty link
