-- The ring that stages, free parcels and a collector are.
use Rattle.std.proofs.Common.{◌≡◌, refl, sym, ap, ◌∙◌, subst, ℕ, zero, suc, ◌+◌, ◌*◌, ◌<◌}
use Rattle.std.proofs.Common.{Bool, false, List, [], ◌∷◌, length, map, arith}
use Rattle.std.proofs.Common.{inl, inr}
use Rattle.std.specs.Prelude.{All, Some, None, nat_eq, slice_get}
use Rattle.std.specs.Global.{Vec}
use Rattle.std.specs.Vec.{vec_items}
use Rattle.std.proofs.lemmas.List.{length-map}
use Rattle.std.proofs.lemmas.Bool.{eqb-false, eqb-true, ne_eqb}
use Rattle.std.proofs.lemmas.Option.{same_Some}
use Rattle.strc_work_meaning.specs.declared.word.Word.{Word}
use Rattle.strc_elab_graph.specs.Tapes.{tape_nodes}
use Rattle.strc_sched_laws.specs.Machine.{CircuitView, MachineView, words_at}
use Rattle.strc_sched_laws.proofs.Supplies.{element}
use Rattle.strc_stage_core.specs.Actors as actors
use Rattle.strc_stage_core.specs.States.{AreFresh, IsFresh}
use Rattle.strc_sched_outcome.specs.declared.stop.Stop.{Stop}
use Rattle.strc_stage_core.specs.Parcels.{ParcelView, parcel, empty_load}
use Rattle.strc_stage_steps.specs.Beginnings.{IsBeginning, IsFree, IsStageOf, crosses}
use Rattle.strc_stage_steps.specs.Beginnings.{is_under_way, rooms_of}
use Rattle.strc_stage_steps.specs.Runnings.{Running}
use Rattle.strc_stage_steps.specs.Steps.{Gathered, StageState}
use Rattle.strc_stage_steps.specs.Blocks as blocks
use Rattle.strc_stage_steps.specs.Blocks.{IsFreeFor}
use Rattle.strc_stage_steps.specs.Collectors.{begun, sees}
use Rattle.strc_stage_steps.specs.Stages.{see}
use Rattle.strc_stage_steps.specs.declared.stage.StageParts.{StageParts}
use Rattle.strc_stage_cut.specs.Bounds.{bound_in, last_of}
use Rattle.strc_stage_cut.specs.Made.{AreMade}
use Rattle.strc_stage_cut.proofs.Crossings.{rooms_are}

-- an element of a mapped list is that of one of the list
pub record IsImage {A B : Type 0} (f : A → B) (xs : List A) (number : ℕ) (image : B) : Type 0 where
  pub own : A
  pub there : slice_get xs number ≡ Some own
  pub is : f own ≡ image

pub image_of : {A B : Type 0} (f : A → B) (xs : List A) (number : ℕ) (image : B)
    → slice_get (map f xs) number ≡ Some image → IsImage f xs number image
image_of f [] number image there = absurd (cc)
image_of f (x ∷ xs) zero image there =
    record { own = x; there = refl; is = same_Some (f x) image there }
image_of f (x ∷ xs) (suc number) image there =
    let rest = image_of f xs number image there in
    record { own = rest.own; there = rest.there; is = rest.is }

-- a list with some element has a first one
pub first_there : {A : Type 0} (xs : List A) → 0 < length xs
    → (first : A) × (slice_get xs 0 ≡ Some first)
first_there [] some = absurd (omega (arith, some))
first_there (x ∷ xs) some = (x, refl)

positive : (n : ℕ) → 0 < n → nat_eq n 0 ≡ false
positive n less = ne_eqb n 0 (λ e. absurd (omega (arith, less, e)))

-- only the first of all stages is the first of its ring
fresh_from : (rounds number : ℕ) (done : Bool) (stages : List StageParts)
    → ((place : ℕ) (own : StageParts) → slice_get stages place ≡ Some own
    → IsFresh (nat_eq (number + place) 0) rounds done (see own))
    → AreFresh (nat_eq number 0) rounds done (map see stages)
fresh_from rounds number done [] each = tt
fresh_from rounds number done (own ∷ stages) each = (
  (let e : number + 0 ≡ number = omega arith in
      subst (λ (n : ℕ). IsFresh (nat_eq n 0) rounds done (see own)) e (each 0 own refl)),
  subst (λ (t : Bool). AreFresh t rounds done (map see stages))
      (positive (suc number) (omega arith))
      (fresh_from rounds (suc number) done stages (λ place other there.
      let e : number + suc place ≡ suc number + place = omega arith in
      subst (λ (n : ℕ). IsFresh (nat_eq n 0) rounds done (see other)) e
      (each (suc place) other there))),
)

-- what a ring is made of
pub record AreParts (running : Running) (bounds : List ℕ) (circuit : CircuitView)
    (started : MachineView) (rounds : ℕ) (stages : List StageParts) (free : List ParcelView)
    (words : Vec (Vec Word)) : Type 0 where
  pub each : length stages ≡ suc (last_of bounds)
  pub made : AreMade running bounds circuit started rounds stages
  pub free_each : length free ≡ 2 * length stages
  pub free_are : (first : StageParts) → slice_get stages 0 ≡ Some first
      → All (IsFreeFor first) free
  pub words_are : map vec_items words.items
      ≡ map (words_at started.words) (tape_nodes running.graph.nodes)

module _ (running : Running) (bounds : List ℕ) (circuit : CircuitView)
    (started : MachineView) (rounds : ℕ) (stages : List StageParts) (free : List ParcelView)
    (words : Vec (Vec Word))
    (parts : AreParts running bounds circuit started rounds stages free words) where
  free_is : (first : StageParts) (own : ParcelView) → slice_get stages 0 ≡ Some first
      → IsFreeFor first own
      → IsFree running (bound_in bounds) (last_of bounds) circuit started own
  free_is first own there (inl is) =
      let made = parts.made 0 first there in
      inl (is
      ∙ ap (λ (rooms : List ℕ). parcel (empty_load rooms first.tape_count) None false)
      (ap (map blocks.room_of) made.state.blocks_are
      ∙ rooms_are (crosses (bound_in bounds) (last_of bounds))
      (is_under_way (bound_in bounds) (last_of bounds) 0) running
      running.graph.channels)
      ∙ ap (λ (tapes : ℕ). parcel (empty_load
      (rooms_of (crosses (bound_in bounds) (last_of bounds)) running
      running.graph.channels) tapes)
      None false) made.state.tape_count_is)
  free_is first own there (inr is) = inr is

  abbrev gathered : List (List Word) → Gathered
  gathered all = record { words = all; rounds = 0 }

  stages_long : length (map see stages) ≡ suc (last_of bounds)
  stages_long = length-map stages see ∙ parts.each

  pub is_beginning : IsBeginning running (bound_in bounds) (last_of bounds) circuit
      started rounds (record {
        stages = map see stages;
        free = free;
        collector = sees (begun words rounds);
        done = nat_eq rounds 0;
      })
  is_beginning = record {
    is_start = record {
      some_stage = omega (arith, stages_long);
      free_parcels = omega (arith, parts.free_each, length-map stages see);
      fresh = fresh_from rounds 0 (nat_eq rounds 0) stages (λ place own there.
          let e : place ≡ 0 + place = omega arith in
          subst (λ (n : ℕ). IsFresh (nat_eq n 0) rounds (nat_eq rounds 0) (see own)) e
          (parts.made place own there).fresh);
      none_taken = refl;
      finished_is = refl;
      goes = λ going. omega (arith, eqb-false rounds 0 going);
      no_stop = λ is. refl;
      why_done = λ done. inl (eqb-true rounds 0 done);
    };
    stages = stages_long;
    each = λ number own there.
        let image = image_of see stages number own there in
        let made = parts.made number image.own image.there in
        subst (λ (stage : actors.Stage StageState Stop).
        IsStageOf running (bound_in bounds) (last_of bounds) circuit started number
        stage.inner × (stage.stop ≡ None))
        image.is (made.state, made.no_stop);
    free = λ number own there.
        let (first, is) = first_there stages (omega (arith, parts.each)) in
        free_is first own is
        (element (IsFreeFor first) free number own (parts.free_are first is) there);
    rounds_are = refl;
    total = ap (λ (l : List (List Word)). gathered l) parts.words_are;
    no_stop = refl;
  }
