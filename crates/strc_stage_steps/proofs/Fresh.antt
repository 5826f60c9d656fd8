-- The parcels that come to the first stage are empty, or memory stopped them; those that come back
-- stopped come after a stop that the collector took.
use Rattle.std.proofs.Common.{◌≡◌, refl, sym, ap, ◌∙◌, subst, ℕ, zero, suc, ◌+◌}
use Rattle.std.proofs.Common.{cond, List, [], ◌∷◌, ◌++◌, length, map, Option, Some}
use Rattle.std.proofs.Common.{None, is_some, replicate, slice_index_or, arith, true≢false}
use Rattle.std.proofs.lemmas.Bool.{cases_lt}
use Rattle.std.proofs.lemmas.List.{get_or-replicate, get_or_past, length-replicate}
use mathlib.Core.Logic.{inl, inr, ◌⊎◌}
use Rattle.strc_stage_core.specs.Actors.{Collector, Collects, returned, collected}
use Rattle.strc_stage_core.specs.States.{Runs}
use Rattle.strc_sched_outcome.specs.declared.stop.Stop.{Stop}
use Rattle.strc_sched_outcome.specs.declared.stop.Stop.TheVariants as stop
use Rattle.strc_stage_core.specs.Parcels as parcels
use Rattle.strc_stage_core.specs.Parcels.{Load, ParcelView, empty_load}
use Rattle.strc_sched_laws.specs.Machine.{MachineView}
use Rattle.strc_elab_dataflow.specs.Stages.{Parcel.Moves, Parcel.Halts}
use Rattle.strc_elab_dataflow.specs.Workers.{AreFresh}
use Rattle.strc_stage_steps.specs.Beginnings.{IsFree}
use Rattle.strc_stage_steps.specs.Steps.{Gathered, stage_work}
use Rattle.strc_stage_steps.proofs.Follows.{Generic, Related, Relates}
use Rattle.strc_stage_steps.proofs.Held.{IsLoaded, rooms, tape_count}
use Rattle.strc_stage_steps.specs.CrossingBlocks.{IsShaped}
use Rattle.strc_stage_steps.proofs.Passing.{emptied_shaped}
use Rattle.strc_stage_steps.proofs.Setting.{Setting}

-- an empty parcel, or one that names no fault
abbrev pub fresh_by : Option Stop → Generic
fresh_by None = Moves (λ node port. []) (λ node. [])
fresh_by (Some why) = Halts None

abbrev pub fresh : ParcelView → Generic
fresh p = fresh_by p.stop

pub fresh_are : (collection : List Generic) (t : ℕ) (given : List ParcelView)
    → AreFresh collection t (map fresh given)
fresh_are collection t [] = tt
fresh_are collection t (p ∷ given) = by_stop p.stop (fresh_are collection (suc t) given)
  where
    by_stop : (why : Option Stop) → AreFresh collection (suc t) (map fresh given)
        → AreFresh collection t (fresh_by why ∷ map fresh given)
    by_stop None rest = ((λ node port. refl, λ node. refl), rest)
    by_stop (Some why) rest = (inl refl, rest)

none_at : {A : Type 0} (count i : ℕ)
    → slice_index_or (replicate {A = List A} count []) i [] ≡ []
none_at {A = A} count i = elim (cases_lt i count) [
  | inl less ↦ get_or-replicate {A = List A} count i [] [] less
  | inr past ↦ get_or_past (replicate {A = List A} count []) i []
      (omega (arith, past, length-replicate {A = List A} count []))
]

module _ (s : Setting) where
  -- a load without items and words
  abbrev pub IsClear : Load → Type 0
  IsClear load = IsLoaded s load (λ node port. []) (λ node. [])

  emptied_clear : (load : Load) → IsShaped (rooms s) (tape_count s) load
      → IsClear (parcels.emptied load)
  emptied_clear load shaped = record {
    shaped = emptied_shaped (rooms s) (tape_count s) load shaped;
    blocks_are = λ number channel there crossing. none_at (length load.blocks) _;
    words_are = λ node code there gives. none_at (length load.words) _;
  }

  -- a parcel that is empty, or that memory stopped
  abbrev pub IsSpent : ParcelView → Type 0
  IsSpent p = ((p.stop ≡ None) × IsClear p.load) ⊎ (p.stop ≡ Some stop.NoMemory)

  abbrev pub AreSpent : ℕ → List ParcelView → Type 0
  AreSpent zero given = Unit {0}
  AreSpent (suc n) [] = Unit {0}
  AreSpent (suc n) (p ∷ given) = IsSpent p × AreSpent n given

  abbrev pub AllSpent : List ParcelView → Type 0
  AllSpent [] = Unit {0}
  AllSpent (p ∷ given) = IsSpent p × AllSpent given

  pub spent_front : (n : ℕ) (xs ys : List ParcelView) → AreSpent n (xs ++ ys) → AreSpent n xs
  spent_front zero xs ys spent = tt
  spent_front (suc n) [] ys spent = tt
  spent_front (suc n) (p ∷ xs) ys spent = (spent.0, spent_front n xs ys spent.1)

  -- behind those that are free
  pub spent_behind : (n : ℕ) (free given : List ParcelView) → AllSpent free → AreSpent n given
      → AreSpent (length free + n) (free ++ given)
  spent_behind n [] given all spent =
      subst (λ (m : ℕ). AreSpent m given) (let e : n ≡ 0 + n = omega arith in e) spent
  spent_behind n (p ∷ free) given all spent =
      subst (λ (m : ℕ). AreSpent m (p ∷ (free ++ given)))
      (let e : suc (length free + n) ≡ suc (length free) + n = omega arith in e)
      (all.0, spent_behind n free given all.1 spent)

  -- such parcels are as fresh ones
  pub spent_related : (n : ℕ) (given : List ParcelView) → AreSpent n given
      → Related s n given (map fresh given)
  spent_related zero given spent = tt
  spent_related (suc n) [] spent = tt
  spent_related (suc n) (p ∷ given) (inl clear, spent) = (
    subst (λ (why : Option Stop). Relates s why p.load (fresh_by why)) (sym clear.0) clear.1,
    λ e. spent_related n given spent,
  )
  spent_related (suc n) (p ∷ given) (inr memory, spent) = (
    subst (λ (why : Option Stop). Relates s why p.load (fresh_by why)) (sym memory) tt,
    λ e. spent_related n given spent,
  )

  pub free_spent : (started : MachineView) (p : ParcelView)
      → IsFree s.running s.bound s.last s.circuit started p → IsSpent p
  free_spent started p (inl e) = inl (
    ap (λ (q : ParcelView). q.stop) e,
    subst IsClear (ap (λ (q : ParcelView). q.load) (sym e)) (record {
      shaped = record {
        blocks = length-replicate (length (rooms s)) [];
        rooms_are = refl;
        words = length-replicate (tape_count s) [];
      };
      blocks_are = λ number channel there crossing. none_at (length (rooms s)) _;
      words_are = λ node code there gives. none_at (tape_count s) _;
    }),
  )
  free_spent started p (inr e) = inr (ap (λ (q : ParcelView). q.stop) e)

  -- ---- what the collector gives back

  abbrev pub AreUnstopped : ℕ → List ParcelView → Type 0
  AreUnstopped zero taken = Unit {0}
  AreUnstopped (suc n) [] = Unit {0}
  AreUnstopped (suc n) (p ∷ taken) = (p.stop ≡ None) × AreUnstopped n taken

  shaped_by : (why : Option Stop) (load : Load) (parcel : Generic) → why ≡ None
      → Relates s why load parcel → IsShaped (rooms s) (tape_count s) load
  shaped_by None load (Moves blocks words) e loaded = loaded.shaped
  shaped_by None load (Halts why) e loaded = absurd loaded
  shaped_by (Some why) load parcel e relates = absurd (true≢false (ap is_some e))

  one_back : (collector later : Collector Gathered Stop) (p result : ParcelView)
      → Collects stage_work collector p later result → p.stop ≡ None
      → IsShaped (rooms s) (tape_count s) p.load → IsSpent result
  unfolding Collects returned collected
  one_back collector later p result (why, goes, may, later_is, result_is) none shaped =
      elim may [
        | inl e ↦ inl (
          ap (λ (q : ParcelView). q.stop) result_is ∙ e ∙ none,
          subst IsClear
              (sym (ap (λ (q : ParcelView). q.load) result_is
              ∙ ap (λ (o : Option Stop). cond (is_some o) p.load (parcels.emptied p.load)) none))
              (emptied_clear p.load shaped),
        )
        | inr refused ↦ inr (ap (λ (q : ParcelView). q.stop) result_is ∙ refused.1)
      ]

  -- of parcels that weren't stopped
  pub back_spent : (n : ℕ) (collector later : Collector Gathered Stop)
      (taken result : List ParcelView) (others : List Generic)
      → Related s n taken others → AreUnstopped n taken
      → Runs (Collects stage_work) collector taken result later → AreSpent n result
  back_spent zero collector later taken result others related unstopped runs = tt
  back_spent (suc n) collector later [] [] others related unstopped runs = tt
  back_spent (suc n) collector later (p ∷ taken) (q ∷ result) (parcel ∷ others) related unstopped
      (between, does, runs) = (
        one_back collector between p q does unstopped.0
            (shaped_by p.stop p.load parcel unstopped.0 related.0),
        back_spent n between later taken result others (related.1 unstopped.0) unstopped.1 runs,
      )
  back_spent (suc n) collector later (p ∷ taken) (q ∷ result) [] related unstopped runs =
      absurd related
  back_spent (suc n) collector later [] (q ∷ result) others related unstopped runs = absurd runs
  back_spent (suc n) collector later (p ∷ taken) [] others related unstopped runs = absurd runs
