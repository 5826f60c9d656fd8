-- What parcels that are related to those of the generic chain carry, up to the first stop.
use Rattle.std.proofs.Common.{◌≡◌, refl, ap, subst, ℕ, zero, suc, ◌+◌, ◌<◌, List, [], ◌∷◌, take}
use Rattle.std.proofs.Common.{Option, Some, None, is_some, IsSome, slice_get, arith, true≢false}
use Rattle.std.proofs.lemmas.Option.{none-some, same_Some}
use mathlib.Core.Logic.{inl, inr, ◌⊎◌}
use Rattle.strc_work_meaning.specs.declared.fault.Cause.{Cause}
use Rattle.strc_elab_dataflow.specs.Machine as generic
use Rattle.strc_elab_dataflow.specs.Parcels.{IsFirstStop}
use Rattle.strc_elab_dataflow.specs.Restart.{numbered_on}
use Rattle.strc_elab_dataflow.specs.Stages.{Parcel.Moves, Parcel.Halts}
use Rattle.strc_elab_dataflow.specs.Workers.{AreParcels, HasHalted, IsHalted}
use Rattle.strc_stage_core.specs.Endings.{AreRunning}
use Rattle.strc_sched_outcome.specs.declared.stop.Stop.{Stop}
use Rattle.strc_sched_outcome.specs.declared.stop.Stop.TheVariants as stop
use Rattle.strc_stage_core.specs.Parcels.{Load, ParcelView}
use Rattle.strc_stage_steps.specs.Carrying as carrying
use Rattle.strc_stage_steps.specs.Carrying.{HasStopped}
use Rattle.strc_stage_steps.proofs.Follows.{Generic, Related, Relates}
use Rattle.strc_stage_steps.proofs.Fresh.{AreUnstopped}
use Rattle.strc_stage_steps.proofs.Setting.{Setting, staging}

none_or_some : (why : Option Stop) → (why ≡ None) ⊎ IsSome why
none_or_some None = inl refl
none_or_some (Some why) = inr refl

module _ (s : Setting) where
  abbrev pub HasCome : (b t : ℕ) → Load → Type 0
  HasCome = carrying.HasCome s.running s.from s.bound s.last s.circuit (staging s)

  module _ (collection : List Generic) where
    -- a fault of the equations' first stop, or of one that came back
    pub record IsOfStop (b t node firing : ℕ) (cause : Cause) : Type 0 where
      pub why : generic.Stop Cause
      pub named : numbered_on s.from why ≡ record { node = node; firing = firing; cause = cause }
      pub from : IsFirstStop (staging s) b t why ⊎ HasHalted (take t collection)

    -- what is known of a parcel by its stop
    abbrev pub IsKnown : (b t : ℕ) → Option Stop → Load → Type 0
    IsKnown b t None load = HasCome b t load
    IsKnown b t (Some (stop.Fault node firing cause)) load = IsOfStop b t node firing cause
    IsKnown b t (Some stop.NoMemory) load = Unit {0}

    known_by : (b t : ℕ) (why : Option Stop) (load : Load) (parcel : Generic)
        (others : List Generic) → Relates s why load parcel
        → AreParcels (staging s) collection b t (parcel ∷ others) → IsKnown b t why load
    known_by b t None load (Moves blocks words) others loaded are =
        record { blocks = blocks; words = words; loaded = loaded; moved = are.0 }
    known_by b t None load (Halts why) others loaded are = absurd loaded
    known_by b t (Some (stop.Fault node firing cause)) load parcel others (why, is, named) are =
        record {
          why = why;
          named = named;
          from = subst (λ (g : Generic). AreParcels (staging s) collection b t (g ∷ others)) is are;
        }
    known_by b t (Some stop.NoMemory) load parcel others relates are = tt

    rest_by : (b t : ℕ) (load : Load) (why : Option Stop) (parcel : Generic)
        (others : List Generic) → why ≡ None → Relates s why load parcel
        → AreParcels (staging s) collection b t (parcel ∷ others)
        → AreParcels (staging s) collection b (suc t) others
    rest_by b t load None (Moves blocks words) others e loaded are = are.1
    rest_by b t load None (Halts why) others e loaded are = absurd loaded
    rest_by b t load (Some why) parcel others e relates are =
        absurd (true≢false (ap is_some e))

    -- so of the parcel at a place before which none is stopped
    pub known_at : (n b t : ℕ) (xs : List ParcelView) (k : ℕ) (p : ParcelView)
        (others : List Generic) → k < n → slice_get xs k ≡ Some p → AreRunning (take k xs)
        → Related s n xs others → AreParcels (staging s) collection b t others
        → IsKnown b (t + k) p.stop p.load
    known_at zero b t xs k p others less e running related are =
        absurd (omega (arith, less))
    known_at (suc n) b t [] k p others less e running related are = absurd (none-some p e)
    known_at (suc n) b t (x ∷ xs) k p [] less e running related are = absurd related
    known_at (suc n) b t (x ∷ xs) zero p (parcel ∷ others) less e running related are =
        subst (λ (m : ℕ). IsKnown b m p.stop p.load) (let same : t ≡ t + 0 = omega arith in same)
        (subst (λ (q : ParcelView). IsKnown b t q.stop q.load) (same_Some x p e)
        (known_by b t x.stop x.load parcel others related.0 are))
    known_at (suc n) b t (x ∷ xs) (suc k) p (parcel ∷ others) less e running related are =
        subst (λ (m : ℕ). IsKnown b m p.stop p.load)
        (let same : suc t + k ≡ t + suc k = omega arith in same)
        (known_at n b (suc t) xs k p others (omega (arith, less)) e running.1
        (related.1 running.0)
        (rest_by b t x.load x.stop parcel others running.0 related.0 are))

  -- ---- stops

  -- the first so many aren't stopped, or one of them is
  pub stops_within : (n : ℕ) (xs : List ParcelView) → AreUnstopped s n xs ⊎ HasStopped n xs
  stops_within zero xs = inl tt
  stops_within (suc n) [] = inl tt
  stops_within (suc n) (x ∷ xs) = elim (none_or_some x.stop) [
    | inl none ↦ elim (stops_within n xs) [
      | inl rest ↦ inl (none, rest)
      | inr later ↦ inr (inr later)
    ]
    | inr is ↦ inr (inl is)
  ]

  pub stopped_later : (n more : ℕ) (xs : List ParcelView) → HasStopped n xs
      → HasStopped (n + more) xs
  stopped_later zero more xs stopped = absurd stopped
  stopped_later (suc n) more [] stopped = absurd stopped
  stopped_later (suc n) more (x ∷ xs) stopped =
      let same : suc (n + more) ≡ suc n + more = omega arith in
      subst (λ (m : ℕ). HasStopped m (x ∷ xs)) same (elim stopped [
        | inl is ↦ inl is
        | inr later ↦ inr (stopped_later n more xs later)
      ])

  -- where none is stopped the generic ones move
  moves_by : (why : Option Stop) (load : Load) (parcel : Generic) → why ≡ None
      → Relates s why load parcel → IsHalted parcel → ⊥
  moves_by None load (Moves blocks words) e loaded halted = halted
  moves_by None load (Halts why) e loaded halted = loaded
  moves_by (Some why) load parcel e relates halted = true≢false (ap is_some e)

  pub none_halted : (n : ℕ) (xs : List ParcelView) (others : List Generic)
      → AreUnstopped s n xs → Related s n xs others → HasHalted (take n others) → ⊥
  none_halted zero xs others unstopped related halted = halted
  none_halted (suc n) [] [] unstopped related halted = halted
  none_halted (suc n) [] (parcel ∷ others) unstopped related halted = related
  none_halted (suc n) (x ∷ xs) [] unstopped related halted = related
  none_halted (suc n) (x ∷ xs) (parcel ∷ others) unstopped related halted = elim halted [
    | inl here ↦ moves_by x.stop x.load parcel unstopped.0 related.0 here
    | inr later ↦ none_halted n xs others unstopped.1 (related.1 unstopped.0) later
  ]
