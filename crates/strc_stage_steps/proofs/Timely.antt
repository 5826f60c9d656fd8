-- An actor that has not finished has rounds left, whatever waits for it.
use Rattle.std.proofs.Common.{◌≡◌, refl, sym, ap, ◌∙◌, ℕ, zero, suc, ◌+◌, ◌<◌, ◌≤◌, Bool, true}
use Rattle.std.proofs.Common.{false, List, [], ◌∷◌, ◌++◌, length, Option, option_to_list, Some}
use Rattle.std.proofs.Common.{slice_get, arith, length-append, append-nil, true≢false}
use Rattle.std.proofs.Common.{eq-or-lt_of_le}
use Rattle.std.proofs.lemmas.List.{nil_from_length}
use mathlib.Core.Logic.{inl, inr}
use Rattle.strc_stage_core.specs.Actors.{Plain, Stage, Collector, Work, Step}
use Rattle.strc_stage_core.specs.States.{Start, Core, AreFresh, Chained, IsState}
use Rattle.strc_stage_core.specs.Events.{is_finished, taken_by, HasRounds}
use Rattle.strc_stage_core.proofs.Stages.{ended, runs_taken, runs_rounds, runs_finished}
use Rattle.strc_stage_core.proofs.Stages.{runs_in_time}
use Rattle.strc_stage_core.proofs.Counts.{taken_is, taken_within_rounds}
use Rattle.strc_stage_core.proofs.Progress.{head_finished}
use Rattle.strc_stage_core.proofs.Taking.{head_taken, stage_rounds_are}
use Rattle.strc_stage_core.proofs.Acts.{rounds_stay}

-- Where all of a list was handed on, what was handed on is the list.
all_received : {A : Type 0} (given received link hand : List A) → given ≡ received ++ link
    → length (given ++ hand) ≤ length received → given ++ hand ≡ received
all_received given received link hand e few =
    let no_link : link ≡ [] = nil_from_length link (omega (
      arith,
      few,
      ap length e,
      length-append received link,
      length-append given hand,
    )) in
    let no_hand : hand ≡ [] = nil_from_length hand (omega (
      arith,
      few,
      ap length e,
      length-append received link,
      length-append given hand,
    )) in
    ap (λ l. given ++ l) no_hand ∙ append-nil given ∙ e ∙ ap (λ l. received ++ l) no_link
    ∙ append-nil received

less_unless : (count rounds : ℕ) (finished : Bool) → count ≤ rounds
    → (count ≡ rounds → finished ≡ true) → finished ≡ false → count < rounds
less_unless count rounds finished within all going = elim (eq-or-lt_of_le within) [
  | inl same ↦ absurd (true≢false (sym (all same) ∙ going))
  | inr less ↦ less
]

module _ {State Load Stop Total : Type 0} (work : Work State Load Stop Total) where
  module _ (first : Collector Total Stop) (free : List (Plain Load Stop)) where
    -- The mark is in what all took who took so many.
    later_finished : (rounds : ℕ) (head : Bool) (done : Bool) (stage₀ stage : Stage State Stop)
        (stages₀ stages : List (Stage State Stop)) (link : List (Plain Load Stop))
        (links : List (List (Plain Load Stop))) (hand : Option (Plain Load Stop))
        (hands : List (Option (Plain Load Stop))) (c : Collector Total Stop)
        (taken back : List (Plain Load Stop))
        (chain : Chained work first free (stage₀ ∷ stages₀) (stage ∷ stages) (link ∷ links)
        (hand ∷ hands) c taken back)
        → AreFresh head rounds done (stage₀ ∷ stages₀) → first.finished ≡ done
        → length taken ≤ rounds → (length taken ≡ rounds → stage.finished ≡ true)
        → (length chain.1 ≤ rounds)
        × (length chain.1 ≡ rounds → is_finished 0 stages c ≡ true)
    later_finished rounds head done stage₀ stage stages₀ stages link links hand hands c taken back
        (given, received, runs, e, chain) (fresh, all_fresh) same within all =
        let count : length taken ≡ length given + length (option_to_list hand) =
        taken_is work first free (Step work) stage₀ taken given hand stage runs in
        let parts : length given ≡ length received + length link =
        ap length e ∙ length-append received link in (
          omega (arith, count, parts, within),
          λ full.
              head_finished work first free rounds done stages₀ stages links hands c received back
              chain all_fresh same
              ∙ sym (ap (ended done) (all_received given received link (option_to_list hand) e
              (omega (arith, length-append given (option_to_list hand), count, within, full))))
              ∙ sym (ap (λ f. ended f (given ++ option_to_list hand)) fresh.finished_is)
              ∙ sym (runs_finished work stage₀ taken (given ++ option_to_list hand) stage runs)
              ∙ all (omega (arith, count, parts, within, full)),
        )

    all_in_time : (actor rounds : ℕ) (head done : Bool) (stages₀ stages : List (Stage State Stop))
        (links : List (List (Plain Load Stop))) (hands : List (Option (Plain Load Stop)))
        (c : Collector Total Stop) (taken back : List (Plain Load Stop))
        → Chained work first free stages₀ stages links hands c taken back
        → AreFresh head rounds done stages₀ → first.taken ≡ 0 → first.finished ≡ done
        → length taken ≤ rounds → (length taken ≡ rounds → is_finished 0 stages c ≡ true)
        → is_finished actor stages c ≡ false → taken_by actor stages c < rounds
    all_in_time zero rounds head done stages₀ stages links hands c taken back chain fresh none same
        within all going = rw (head_taken work first free head rounds done stages₀ stages links
        hands c taken back chain fresh none)
        (less_unless (length taken) rounds (is_finished 0 stages c) within all going)
    all_in_time (suc actor) rounds head done (stage₀ ∷ stages₀) (stage ∷ stages) (link ∷ links)
        (hand ∷ hands) c taken back chain fresh none same within all going =
        let (fewer, later) = later_finished rounds head done stage₀ stage stages₀ stages link links
        hand hands c taken back chain fresh same within all in
        all_in_time actor rounds false done stages₀ stages links hands c chain.1 back
        chain.4 fresh.1 none same fewer later going
    all_in_time (suc actor) rounds head done [] [] (link ∷ []) (hand ∷ []) c taken back chain fresh
        none same within all going = absurd (true≢false going)
    all_in_time actor rounds head done _ _ _ _ c taken back chain fresh none same within all going =
        absurd chain

    first_finished : (rounds : ℕ) (done : Bool) (stages₀ stages : List (Stage State Stop))
        (links : List (List (Plain Load Stop))) (hands : List (Option (Plain Load Stop)))
        (c : Collector Total Stop) (taken back : List (Plain Load Stop))
        → Chained work first free stages₀ stages links hands c taken back
        → AreFresh true rounds done stages₀ → (done ≡ false → 0 < rounds) → 0 < length stages₀
        → length taken ≡ rounds → is_finished 0 stages c ≡ true
    first_finished rounds done (stage₀ ∷ stages₀) (stage ∷ stages) (link ∷ links) (hand ∷ hands) c
        taken back (given, received, runs, e, chain) (fresh, all_fresh) goes some full =
        let made = given ++ option_to_list hand in
        let time = runs_in_time work stage₀ taken made stage fresh.first_is (record {
          within = omega (arith, fresh.none_taken);
          left = λ unfinished. omega (
            arith,
            fresh.none_taken,
            fresh.rounds_are,
            goes (sym fresh.finished_is ∙ unfinished),
          );
        }) runs in by_test stage.finished refl (λ going. omega (
          arith,
          time.left going,
          full,
          runs_taken work stage₀ taken made stage runs,
          runs_rounds work stage₀ taken made stage runs,
          fresh.none_taken,
          fresh.rounds_are,
        ))
      where
        by_test : (b : Bool) → stage.finished ≡ b → (stage.finished ≡ false → ⊥)
            → stage.finished ≡ true
        by_test true is never = is
        by_test false is never = absurd (never is)
    first_finished rounds done [] [] (link ∷ []) (hand ∷ []) c taken back chain fresh goes some
        full = absurd (omega (arith, some))
    first_finished rounds done _ _ _ _ c taken back chain fresh goes some full = absurd chain

  rounds_left : (actor : ℕ) (stages : List (Stage State Stop)) (c : Collector Total Stop)
      (rounds : ℕ) → is_finished actor stages c ≡ false → taken_by actor stages c < rounds
      → ((stage : Stage State Stop) → slice_get stages actor ≡ Some stage → stage.rounds ≡ rounds)
      → c.rounds ≡ rounds → HasRounds actor stages c
  rounds_left zero [] c rounds goes less stage_is collector_is =
      (goes, omega (arith, less, collector_is))
  rounds_left zero (stage ∷ stages) c rounds goes less stage_is collector_is =
      (goes, omega (arith, less, stage_is stage refl))
  rounds_left (suc actor) [] c rounds goes less stage_is collector_is = absurd (true≢false goes)
  rounds_left (suc actor) (stage ∷ stages) c rounds goes less stage_is collector_is =
      rounds_left actor stages c rounds goes less stage_is collector_is

  pub unfinished_has_rounds : (start : Start State Load Stop Total)
      (core : Core State Load Stop Total) → IsState work start core → (actor : ℕ)
      → is_finished actor core.stages core.collector ≡ false
      → HasRounds actor core.stages core.collector
  unfinished_has_rounds start core state actor going = rounds_left actor core.stages core.collector
      start.collector.rounds going (all_in_time start.collector start.free actor
      start.collector.rounds true start.done start.stages core.stages core.links core.hands
      core.collector state.taken state.taken state.chain state.begun.fresh state.begun.none_taken
      state.begun.finished_is (taken_within_rounds work start core state)
      (first_finished start.collector start.free start.collector.rounds start.done start.stages
      core.stages core.links core.hands core.collector state.taken state.taken state.chain
      state.begun.fresh state.begun.goes state.begun.some_stage) going)
      (stage_rounds_are work start core state actor) (rounds_stay work start core state)
