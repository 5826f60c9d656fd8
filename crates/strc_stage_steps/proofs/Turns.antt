-- The tapes of a stage, one after another.
use Rattle.std.proofs.Common.{◌≡◌, refl, sym, ap, ◌∙◌, subst, ℕ, zero, suc, ◌+◌, ◌<◌, ◌≤◌, List, []}
use Rattle.std.proofs.Common.{◌∷◌}
use Rattle.std.proofs.Common.{get_or, drop, length, arith, add-one, Some, set}
use Rattle.std.proofs.Math.Seq.{drop-cons}
use Rattle.std.proofs.lemmas.List.{drop_all}
use Rattle.strc_work_meaning.specs.declared.word.Word.{Word}
use Rattle.strc_sched_laws.specs.Machine.{MachineView, words_at}
use Rattle.strc_sched_laws.specs.Rings.{Ring, given, items_at, ring_at}
use Rattle.strc_stage_core.specs.Parcels as parcels
use Rattle.strc_stage_core.specs.Parcels.{ParcelView, Load, block_at, with_block, filled}
use Rattle.strc_stage_steps.specs.declared.crossing_items.Crossing.{Crossing}
use Rattle.strc_stage_steps.specs.declared.crossing_items.TapeOf.{TapeOf}
use Rattle.strc_stage_steps.specs.Steps.{machine_entered, load_entered, load_left, rings_left}
use Rattle.strc_stage_steps.specs.Steps.{load_worded, words_left, emptied_ring}
use Rattle.strc_sched_machine.specs.Running.{with_rings, with_words}
use Rattle.strc_stage_steps.specs.Tapes.{AreAfter}
use Rattle.strc_stage_steps.proofs.Words.{worded_alike}

-- What is left from a place on begins with what is there.
here : {A : Type 0} (all : List A) (place : ℕ) (own : A) → place < length all
    → own ≡ get_or all place own → drop place all ≡ own ∷ drop (place + 1) all
here all place own within was =
    drop-cons all place own within ∙ ap (λ o. o ∷ drop (suc place) all) (sym was)
    ∙ ap (λ n. own ∷ drop n all) (sym (add-one place))

pub there : {A : Type 0} (all : List A) (place : ℕ) (d : A) → place < length all
    → get_or all place d ≡ get_or all place (get_or all place d)
there [] place d within = absurd (omega (arith, within))
there (first ∷ others) zero d within = refl
there (first ∷ others) (suc place) d within = there others place d (omega (arith, within))

after_here : (node place : ℕ) (all : List TapeOf) (own : TapeOf) → AreAfter node all
    → place < length all → own ≡ get_or all place own
    → AreAfter (suc own.node) (drop (suc place) all)
after_here node place [] own after within was = absurd (omega (arith, within))
after_here node zero (first ∷ others) own after within was =
    subst (λ (o : TapeOf). AreAfter (suc o.node) others) (sym was) after.1
after_here node (suc place) (first ∷ others) own after within was =
    after_here (suc first.node) place others own after.1 (omega (arith, within)) was

module _ (all : List TapeOf) (place : ℕ) where
  module _ (own : TapeOf) (after : AreAfter 0 all) (within : place < length all)
      (was : own ≡ get_or all place own) where
    abbrev later : List TapeOf
    later = drop (place + 1) all

    pub words_go : (now next : MachineView) (parcel following start : ParcelView)
        → next ≡ with_words (set now.words own.node []) now
        → following
        ≡ parcels.parcel (parcels.with_words parcel.load own.tape (words_at now.words own.node))
        parcel.stop parcel.last
        → parcels.parcel (load_worded (drop place all) now.words parcel.load) parcel.stop
        parcel.last ≡ start
        → parcels.parcel (load_worded later next.words following.load) following.stop following.last
        ≡ start
    words_go now next parcel following start gone is so_far =
        ap (λ (p : ParcelView). parcels.parcel (load_worded later next.words p.load) p.stop p.last)
        is
        ∙ ap (λ (m : MachineView). parcels.parcel (load_worded later m.words sent) parcel.stop
        parcel.last) gone
        ∙ ap (λ l. parcels.parcel l parcel.stop parcel.last)
        (worded_alike own.node later now.words sent
        (subst (λ n. AreAfter (suc own.node) (drop n all)) (sym (add-one place))
        (after_here 0 place all own after within was)))
        ∙ sym (ap (λ l. parcels.parcel (load_worded l now.words parcel.load) parcel.stop
        parcel.last) (here all place own within was)) ∙ so_far
      where
        sent : Load
        sent = parcels.with_words parcel.load own.tape (words_at now.words own.node)

    pub words_end : (now next start : MachineView)
        → next ≡ with_words (set now.words own.node []) now
        → with_words (words_left (drop place all) now.words) now ≡ start
        → with_words (words_left later next.words) next ≡ start
    words_end now next start is so_far =
        ap (λ (m : MachineView). with_words (words_left later m.words) m) is
        ∙ sym (ap (λ l. with_words (words_left l now.words) now)
        (here all place own within was)) ∙ so_far

  pub all_worded : (now : MachineView) (parcel start : ParcelView) → length all ≤ place
      → parcels.parcel (load_worded (drop place all) now.words parcel.load) parcel.stop parcel.last
      ≡ start → parcel ≡ start
  all_worded now parcel start past so_far =
      sym (ap (λ l. parcels.parcel (load_worded l now.words parcel.load) parcel.stop parcel.last)
      (drop_all place all past)) ∙ so_far

  pub all_ended : (now start : MachineView) → length all ≤ place
      → with_words (words_left (drop place all) now.words) now ≡ start → now ≡ start
  all_ended now start past so_far =
      sym (ap (λ l. with_words (words_left l now.words) now) (drop_all place all past)) ∙ so_far
