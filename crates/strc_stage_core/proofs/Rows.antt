-- The rows, computed from the definitions.
use Rattle.std.proofs.Common.{◌≡◌, refl, sym, ℕ, ◌<◌, Bool, true, false, true≢false, arith, List}
use Rattle.std.proofs.Common.{[], ◌∷◌, length, get_or, Option, Some, None, IsSome, zero, cond, eqb}
use Rattle.std.proofs.Common.{◌||◌, is_some, ap, ◌∙◌, suc}
use mathlib.Core.Logic.{◌⊎◌, inl, inr}
use Rattle.strc_stage_core.specs.Actors.{is_passing, stop_of, is_marked, next, made, collected}
use Rattle.strc_stage_core.specs.Actors.{returned}
use Rattle.strc_stage_core.specs.Actors.{Work, Plain, Collector, Collects}
use Rattle.strc_stage_core.specs.States.{Start, IsStart, IsFresh, first_core}
use Rattle.strc_stage_core.specs.Events.{Event, Take, Give, before, may, is_over, acts}
use Rattle.strc_stage_core.specs.Driving.{past, step_at, take_from, give_from, core_after}
use Rattle.strc_stage_core.specs.Driving.{first_allowed}
use Rattle.strc_stage_core.specs.Driving.{after_first, drive_by, drive}
use Rattle.strc_stage_core.specs.Rows.{adders, stage_at, three_stages, IsRow, ThreeRoundsRow}
use Rattle.strc_stage_core.specs.Rows.{StoppedRow}
use Rattle.strc_stage_core.specs.Rows.{DoneRow, is_empty, EmptiedRow}
use Rattle.strc_stage_core.specs.Invariants.{AreHandedOn}
use Rattle.strc_stage_core.proofs.Steps.{gathers}
use Rattle.strc_stage_core.proofs.Handing.{handed_by_steps}
use Rattle.strc_stage_core.proofs.Fitting.{all_links_pass}
use Rattle.strc_stage_core.proofs.Starting.{first_state}
use Rattle.strc_stage_core.proofs.Driving.{driven_happen}
use Rattle.strc_stage_core.proofs.Endings.{over_allows_none}

-- What rows compute with.
unfoldable all_definitions : ℕ
unfolding is_passing stop_of is_marked next made collected returned first_core before may is_over
    acts past step_at take_from give_from core_after first_allowed after_first drive_by drive
all_definitions = 0

abbrev choices : List Event
choices = Give 0 ∷ Take 0 ∷ Give 1 ∷ Take 1 ∷ Give 2 ∷ Take 2 ∷ Give 3 ∷ Take 3 ∷ []

-- A row from what computes.
row_from : (work : Work ℕ ℕ ℕ (List ℕ)) (start : Start ℕ ℕ ℕ (List ℕ)) (count fuel : ℕ)
    (total : List ℕ) (stop : Option ℕ) → IsStart start
    → length (drive work choices fuel (first_core start)).events ≡ count
    → acts (drive work choices fuel (first_core start)).core ≡ count
    → is_over (drive work choices fuel (first_core start)).core ≡ true
    → (length (get_or (drive work choices fuel (first_core start)).core.links 0 [])
    ∷ length (get_or (drive work choices fuel (first_core start)).core.links 1 [])
    ∷ length (get_or (drive work choices fuel (first_core start)).core.links 2 [])
    ∷ length (get_or (drive work choices fuel (first_core start)).core.links 3 []) ∷ [])
    ≡ (0 ∷ 0 ∷ 0 ∷ 6 ∷ [])
    → (drive work choices fuel (first_core start)).core.collector.total ≡ total
    → (drive work choices fuel (first_core start)).core.collector.stop ≡ stop
    → IsRow work start count total stop
row_from work start count fuel total stop begun count_is acts_are over links_are total_is stop_is =
    let (happen, state) = driven_happen work start choices fuel (first_core start)
    (first_state work start begun) in record {
      begun = begun;
      core = (drive work choices fuel (first_core start)).core;
      state = state;
      events = (drive work choices fuel (first_core start)).events;
      happen = happen;
      count_is = count_is;
      acts_are = acts_are;
      over = over;
      none_allowed = over_allows_none work start (drive work choices fuel (first_core start)).core
          state over;
      links_are = links_are;
      total_is = total_is;
      stop_is = stop_is;
    }

fresh_at : (first : Bool) (rounds : ℕ) (done : Bool) (number : ℕ)
    → IsFresh first rounds done (stage_at first rounds done number)
fresh_at first rounds done number = record {
  first_is = refl;
  rounds_are = refl;
  none_taken = refl;
  finished_is = refl;
  no_stop = λ going. refl;
}

going_start : (rounds : ℕ) → 0 < rounds → IsStart (three_stages rounds false None)
going_start rounds some = record {
  some_stage = omega arith;
  free_parcels = refl;
  fresh = (
    fresh_at true rounds false 1,
    (
      fresh_at false rounds false 10,
      (fresh_at false rounds false 100, tt),
    ),
  );
  none_taken = refl;
  finished_is = refl;
  goes = λ going. some;
  no_stop = λ going. refl;
  why_done = λ done. absurd (true≢false (sym done));
}

done_start : (rounds : ℕ) (stop : Option ℕ) → (rounds ≡ 0) ⊎ IsSome stop
    → IsStart (three_stages rounds true stop)
done_start rounds stop why = record {
  some_stage = omega arith;
  free_parcels = refl;
  fresh = (
    fresh_at true rounds true 1,
    (
      fresh_at false rounds true 10,
      (fresh_at false rounds true 100, tt),
    ),
  );
  none_taken = refl;
  finished_is = refl;
  goes = λ going. absurd (true≢false going);
  no_stop = λ going. absurd (true≢false going);
  why_done = λ done. why;
}

pub three_rounds_row : ThreeRoundsRow
unfolding all_definitions
three_rounds_row = row_from (adders 1000) (three_stages 3 false None) 24 30 (111 ∷ 114 ∷ 117 ∷ [])
    None (going_start 3 (omega arith)) refl refl refl refl refl refl

pub stopped_row : StoppedRow
unfolding all_definitions
stopped_row = row_from (adders 12) (three_stages 20 false None) 72 80 (111 ∷ 114 ∷ []) (Some 12)
    (going_start 20 (omega arith)) refl refl refl refl refl refl

pub done_row : DoneRow
unfolding all_definitions
done_row = (
  row_from (adders 1000) (three_stages 0 true None) 0 5 [] None
      (done_start 0 None (inl refl)) refl refl refl refl refl refl,
  row_from (adders 1000) (three_stages 3 true (Some 5)) 0 5 [] (Some 5)
      (done_start 3 (Some 5) (inr refl)) refl refl refl refl refl refl,
)

-- What the test of the emptied row is before each actor.
empty_at : ℕ → Plain ℕ ℕ → Bool
empty_at zero parcel = is_empty parcel
empty_at (suc actor) parcel = true

empty_result : (was stop : Option ℕ) (load : ℕ) → (IsSome was → IsSome stop)
    → (is_some stop || eqb (cond (is_some was) load 0) 0) ≡ true
empty_result (Some x) (Some y) load stays = refl
empty_result (Some x) None load stays = absurd (true≢false (sym (stays refl)))
empty_result None (Some y) load stays = refl
empty_result None None load stays = refl

empty_returned : (fault : ℕ) (c later : Collector (List ℕ) ℕ) (p q : Plain ℕ ℕ)
    → Collects (adders fault) c p later q → is_empty q ≡ true
unfolding Collects returned
empty_returned fault c later p q (stop, goes, may, later_is, q_is) =
    ap is_empty q_is ∙ empty_result p.stop stop p.load
    (λ is. rw (ap (λ r. r.stop) q_is)
    at ((gathers (adders fault) c p later q (stop, goes, may, later_is, q_is)).stopped is))

empty_handed : (fault rounds : ℕ)
    → AreHandedOn (adders fault) (three_stages rounds false None) empty_at
unfolding empty_at
empty_handed fault rounds = handed_by_steps (adders fault) (three_stages rounds false None) empty_at
    (λ actor stage. Unit {0}) (refl, (refl, (refl, (refl, (refl, (refl, tt))))))
    (λ actor stage₀ is. tt)
    (λ actor stage later p q less does stays passes. (tt, refl))
    (λ c later p q collects passes. empty_returned fault c later p q collects)

pub emptied_row : EmptiedRow
unfolding before empty_at
emptied_row fault rounds core link count state is =
    all_links_pass (adders fault) (three_stages rounds false None) core state empty_at
    (empty_handed fault rounds) 0 count link (omega arith) is
