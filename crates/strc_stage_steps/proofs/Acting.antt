-- Stages in a vector, and a collector, as the core sees them.
use Rattle.std.proofs.Common.{◌≡◌, refl, sym, ap, ◌∙◌, subst, ℕ, ◌<◌, ◌≤◌, Bool, true, false, List}
use Rattle.std.proofs.Common.{length, map, set, get_or, arith}
use Rattle.std.proofs.lemmas.List.{map-set, get_or-map, length-map}
use Rattle.strc_stage_core.specs.Actors.{Plain, Stage, Collector, Work, Step, Collects}
use Rattle.strc_stage_core.specs.Events.{is_finished, HasRounds, Does}
use Rattle.strc_stage_core.proofs.Reading.{finished_stage, finished_collector, finished_past}
use Rattle.strc_stage_core.proofs.Reading.{rounds_of_stage, rounds_of_collector, does_stage}
use Rattle.strc_stage_core.proofs.Reading.{does_collector}

-- A test that answers as the other one does, in both cases.
same_test : (test other : Bool) → (other ≡ true → test ≡ true) → (other ≡ false → test ≡ false)
    → test ≡ other
same_test test true yes_is no_is = yes_is refl
same_test test false yes_is no_is = no_is refl

module _ {S State Stop : Type 0} (see : S → Stage State Stop) where
  seen_at : (stages : List S) (at : ℕ) (stage : S) → at < length stages
      → stage ≡ get_or stages at stage → see stage ≡ get_or (map see stages) at (see stage)
  seen_at stages at stage less is =
      ap see is ∙ sym (get_or-map see stages at stage (see stage) less)

  seen_less : (stages : List S) (at : ℕ) → at < length stages → at < length (map see stages)
  seen_less stages at less = omega (arith, less, length-map stages see)

  module _ {Total : Type 0} (stages : List S) (c : Collector Total Stop) (at : ℕ) (stage : S)
      (less : at < length stages) (is : stage ≡ get_or stages at stage) where
    pub stage_goes : (has : S → Bool)
        → ((s : S) → (see s).finished ≡ false → (see s).taken < (see s).rounds → has s ≡ false)
        → HasRounds at (map see stages) c → has stage ≡ false
    stage_goes has goes left =
        let (going, some) = rounds_of_stage at (map see stages) c (see stage)
        (seen_less stages at less) (seen_at stages at stage less is) left in goes stage going some

    pub stage_done : (has : S → Bool)
        → ((s : S) → (see s).finished ≡ false → (see s).taken < (see s).rounds → has s ≡ false)
        → ((s : S) → (see s).finished ≡ true → has s ≡ true)
        → (is_finished at (map see stages) c ≡ false → HasRounds at (map see stages) c)
        → has stage ≡ is_finished at (map see stages) c
    stage_done has goes ends left =
        same_test (has stage) (is_finished at (map see stages) c)
        (λ e. ends stage (sym (finished_stage at (map see stages) c (see stage)
        (seen_less stages at less) (seen_at stages at stage less is)) ∙ e))
        (λ e. stage_goes has goes (left e))

    pub stage_does : {Load : Type 0} (work : Work State Load Stop Total)
        (p q : Plain Load Stop) (later : S) → Step work (see stage) p (see later) q
        → Does work at (map see stages) c p (map see (set stages at later)) c q
    stage_does work p q later step =
        subst (λ l. Does work at (map see stages) c p l c q) (sym (map-set see stages at later))
        (does_stage work at (map see stages) c (see stage) (see later) p q
        (seen_less stages at less) (seen_at stages at stage less is) step)

  module _ {C Total : Type 0} (sees : C → Collector Total Stop) (stages : List S) (c : C) (at : ℕ)
    where
      pub collector_here : length stages ≤ at → HasRounds at (map see stages) (sees c)
          → (at ≡ length (map see stages)) × ((sees c).finished ≡ false)
          × ((sees c).taken < (sees c).rounds)
      collector_here past left = rounds_of_collector at (map see stages) (sees c)
          (omega (arith, past, length-map stages see)) left

      pub collector_goes : (has : C → Bool)
          → ((x : C) → (sees x).finished ≡ false → (sees x).taken < (sees x).rounds
          → has x ≡ false)
          → length stages ≤ at → HasRounds at (map see stages) (sees c) → has c ≡ false
      collector_goes has goes past left =
          let (here, going, some) = collector_here past left in goes c going some

      pub collector_done : (has : C → Bool)
          → ((x : C) → (sees x).finished ≡ false → (sees x).taken < (sees x).rounds
          → has x ≡ false)
          → ((x : C) → (sees x).finished ≡ true → has x ≡ true)
          → at ≡ length stages
          → (is_finished at (map see stages) (sees c) ≡ false
          → HasRounds at (map see stages) (sees c))
          → has c ≡ is_finished at (map see stages) (sees c)
      collector_done has goes ends here left =
          same_test (has c) (is_finished at (map see stages) (sees c))
          (λ e. ends c (sym (finished_collector at (map see stages) (sees c)
          (here ∙ sym (length-map stages see))) ∙ e))
          (λ e. collector_goes has goes (omega (arith, here)) (left e))

      pub collector_does : {Load : Type 0} (work : Work State Load Stop Total)
          (p q : Plain Load Stop) (later : C) → length stages ≤ at
          → HasRounds at (map see stages) (sees c) → Collects work (sees c) p (sees later) q
          → Does work at (map see stages) (sees c) p (map see stages) (sees later) q
      collector_does work p q later past left collects = does_collector work at (map see stages)
          (sees c) (sees later) p q (collector_here past left).0 collects

      pub past_done : length stages < at → true ≡ is_finished at (map see stages) (sees c)
      past_done past = sym (finished_past at (map see stages) (sees c)
          (omega (arith, past, length-map stages see)))
