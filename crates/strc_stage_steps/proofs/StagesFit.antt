-- A parcel that has just what is to come to a stage fits it, in each state.
use Rattle.std.proofs.Common.{◌≡◌, refl, sym, ap, ◌∙◌, subst, ℕ, zero, suc, ◌<◌, ◌≤◌, ℤ, Bool, true}
use Rattle.std.proofs.Common.{false, cond, ◌&&◌, ◌||◌, if◌then◌else◌, List, [], ◌∷◌, length, map}
use Rattle.std.proofs.Common.{Option}
use Rattle.std.proofs.Common.{Some, None, is_some, slice_get, slice_index_or, arith}
use Rattle.std.proofs.Common.{nat_le, nat_lt, nat_eq}
use Rattle.std.proofs.lemmas.Bool.{and_from, cases_lt, eq-eqb, le-leb, le-ltb, lt-leb, lt-ltb}
use Rattle.std.proofs.lemmas.Bool.{or_right}
use Rattle.std.proofs.lemmas.Option.{none-some, same_Some, slice_get_within}
use mathlib.Core.Logic.{inl, inr}
use Rattle.strc_elab_graph.specs.Graphs.{Channel}
use Rattle.strc_sched_laws.specs.Machine.{MachineView}
use Rattle.strc_stage_core.specs.Actors.{Collector, Step, is_passing, next}
use Rattle.strc_stage_core.specs.Events.{HasRounds, is_finished}
use Rattle.strc_stage_core.specs.Parts as ring
use Rattle.strc_stage_core.specs.Parts.{core_of}
use Rattle.strc_stage_core.specs.States.{Core, IsState, Runs, Start}
use Rattle.strc_sched_outcome.specs.declared.stop.Stop.{Stop}
use Rattle.strc_stage_core.specs.Parcels.{Load, ParcelView, block_at}
use Rattle.strc_stage_steps.specs.Beginnings.{IsBeginning, blocks_before, blocks_of, crosses}
use Rattle.strc_stage_steps.specs.Beginnings.{is_under_way, rooms_of, stage_at}
use Rattle.strc_stage_steps.specs.Blocks.{blocks_fit, fits_stage}
use Rattle.strc_stage_steps.specs.Carrying.{StagePart, made_by}
use Rattle.strc_stage_steps.specs.CrossingBlocks.{FitsBefore, block_of, passed_before, raised}
use Rattle.strc_stage_steps.specs.Plans.{PlanParcelsFitStages, running_of}
use Rattle.strc_stage_steps.specs.Runnings.{Running, round_pushes}
use Rattle.strc_stage_steps.specs.Steps.{Gathered, StageState, state_of_step, stage_work}
use Rattle.strc_stage_steps.specs.declared.stage.Block.{Block}
use Rattle.strc_stage_steps.proofs.Chain.{are_parts}
use Rattle.strc_stage_steps.proofs.Follows.{Worker}
use Rattle.strc_stage_steps.proofs.PlanRuns.{plan_parcels_fit}
use Rattle.strc_stage_steps.proofs.Timely.{unfinished_has_rounds}

-- ---- blocks

-- the items of a list without its first, or those of the list
abbrev IsRest : (crossing : Bool) → (items rest : List (List ℤ)) → Type 0
IsRest crossing items rest =
    (k : ℕ) → slice_index_or rest k [] ≡ slice_index_or items (raised crossing k) []

one_fits : (crossing : Bool) (room : ℕ) (held : Bool) (others : List Block) (rooms : List ℕ)
    (items : List (List ℤ)) → length items ≡ length (if crossing then room ∷ rooms else rooms)
    → (crossing ≡ true → length (slice_index_or items 0 []) ≡ (if held then room else 0))
    → ((rest : List (List ℤ)) → length rest ≡ length rooms → IsRest crossing items rest
    → blocks_fit others rest rooms ≡ true)
    → blocks_fit (if crossing then record { room = room; held = held } ∷ others else others) items
    (if crossing then room ∷ rooms else rooms) ≡ true
one_fits true room held others rooms [] same here rest = absurd (omega (arith, same))
one_fits true room held others rooms (first ∷ items) same here rest =
    and_from (nat_le room room && nat_eq (length first) (if held then room else 0))
    (blocks_fit others items rooms)
    (and_from (nat_le room room) (nat_eq (length first) (if held then room else 0))
    (le-leb room room (omega arith))
    (eq-eqb (length first) (if held then room else 0) (here refl)))
    (rest items (omega (arith, same)) (λ k. refl))
one_fits false room held others rooms items same here rest = rest items same (λ k. refl)

module _ (running : Running) (crossing under_way : Channel → Bool) where
  all_fit : (channels : List Channel) (items : List (List ℤ))
      → length items ≡ length (rooms_of crossing running channels)
      → ((number : ℕ) (channel : Channel) → slice_get channels number ≡ Some channel
      → crossing channel ≡ true
      → length (slice_index_or items (passed_before crossing channels number) [])
      ≡ (if under_way channel then round_pushes running channel else 0))
      → blocks_fit (blocks_of crossing under_way running channels) items
      (rooms_of crossing running channels) ≡ true
  all_fit [] [] same each = refl
  all_fit [] (first ∷ items) same each = absurd (omega (arith, same))
  all_fit (channel ∷ channels) items same each =
      one_fits (crossing channel) (round_pushes running channel) (under_way channel)
      (blocks_of crossing under_way running channels) (rooms_of crossing running channels) items
      same (each 0 channel refl)
      (λ rest as_many is. all_fit channels rest as_many (λ number other there crosses.
      ap length (is (passed_before crossing channels number))
      ∙ each (suc number) other there crosses))

module _ (running : Running) (bound : ℕ → ℕ) (last stage : ℕ) (load : Load)
    (fits : FitsBefore running bound last stage load) where
  block_is : (number : ℕ) (channel : Channel)
      → slice_get running.graph.channels number ≡ Some channel
      → crosses bound last channel ≡ true
      → length (block_at load (block_of bound last running.graph.channels number))
      ≡ (if is_under_way bound last stage channel then round_pushes running channel else 0)
  block_is number channel there crossing =
      let from = stage_at bound last channel.source.node in
      let to = stage_at bound last channel.target.node in
      elim (cases_lt from stage) [
        | inl early ↦ elim (cases_lt to stage) [
          | inl past ↦ ap length (fits.at_end number channel there crossing past)
              ∙ sym (ap (λ (b : Bool). if nat_lt from stage && b then round_pushes running channel
              else 0) (lt-leb stage to past)
              ∙ ap (λ (b : Bool). if b && false then round_pushes running channel else 0)
              (lt-ltb from stage early))
          | inr later ↦ fits.moving number channel there early later
              ∙ sym (ap (λ (b : Bool). if nat_lt from stage && b then round_pushes running channel
              else 0) (le-leb stage to later)
              ∙ ap (λ (b : Bool). if b && true then round_pushes running channel else 0)
              (lt-ltb from stage early))
        ]
        | inr late ↦ ap length (fits.not_begun number channel there crossing late)
            ∙ sym (ap (λ (b : Bool). if b && nat_le stage to then round_pushes running channel
            else 0) (le-ltb from stage late))
      ]

  load_fits : blocks_fit (blocks_before running bound last stage) load.blocks load.rooms ≡ true
  load_fits =
      ap (blocks_fit (blocks_before running bound last stage) load.blocks) fits.shaped.rooms_are
      ∙ all_fit running (crosses bound last) (is_under_way bound last stage) running.graph.channels
      load.blocks fits.shaped.blocks block_is

-- ---- stages want the same blocks in each state

state_keeps : (state : StageState) (load : Load) (machine : Option MachineView)
    (why : Option Stop) → (state_of_step state load machine why).blocks ≡ state.blocks
state_keeps state load (Some machine) None = refl
state_keeps state load (Some machine) (Some why) = refl
state_keeps state load None None = refl
state_keeps state load None (Some why) = refl

either_keeps : (passing : Bool) (state later : StageState) → later.blocks ≡ state.blocks
    → (cond passing state later).blocks ≡ state.blocks
either_keeps true state later same = refl
either_keeps false state later same = same

step_keeps : (worker later : Worker) (taken result : ParcelView)
    → Step stage_work worker taken later result → later.inner.blocks ≡ worker.inner.blocks
unfolding Step next
step_keeps worker later taken result (stop, goes, may, later_is, result_is) =
    ap (λ (w : Worker). w.inner.blocks) later_is
    ∙ either_keeps (is_passing worker taken) worker.inner
    (state_of_step worker.inner taken.load worker.inner.machine stop)
    (state_keeps worker.inner taken.load worker.inner.machine stop)

runs_keep : (worker last : Worker) (taken made : List ParcelView)
    → Runs (Step stage_work) worker taken made last → last.inner.blocks ≡ worker.inner.blocks
runs_keep worker last [] [] runs = ap (λ (w : Worker). w.inner.blocks) (sym runs)
runs_keep worker last (q ∷ taken) (p ∷ made) (later, does, runs) =
    runs_keep later last taken made runs ∙ step_keeps worker later q p does
runs_keep worker last (q ∷ taken) [] runs = absurd runs
runs_keep worker last [] (p ∷ made) runs = absurd runs

stage_there : (stages₀ : List Worker) (parts : List StagePart) (k : ℕ) (stage : Worker)
    → ring.AreSteps stage_work stages₀ parts
    → slice_get (map (λ (part : StagePart). part.actor) parts) k ≡ Some stage
    → (stage₀ : Worker) × (slice_get stages₀ k ≡ Some stage₀)
    × (stage.inner.blocks ≡ stage₀.inner.blocks)
stage_there [] [] k stage steps e = absurd (none-some stage e)
stage_there (stage₀ ∷ stages₀) (part ∷ parts) zero stage (runs, steps) e = (
  stage₀,
  refl,
  ap (λ (w : Worker). w.inner.blocks) (sym (same_Some part.actor stage e))
      ∙ runs_keep stage₀ part.actor part.received (made_by part) runs,
)
stage_there (stage₀ ∷ stages₀) (part ∷ parts) (suc k) stage (runs, steps) e =
    stage_there stages₀ parts k stage steps e
stage_there [] (part ∷ parts) k stage steps e = absurd steps
stage_there (stage₀ ∷ stages₀) [] k stage steps e = absurd steps

module _ (collector : Collector Gathered Stop) where
  finished_there : (stages : List Worker) (k : ℕ) (stage : Worker)
      → slice_get stages k ≡ Some stage → is_finished k stages collector ≡ stage.finished
  finished_there [] k stage e = absurd (none-some stage e)
  finished_there (own ∷ stages) zero stage e =
      ap (λ (w : Worker). w.finished) (same_Some own stage e)
  finished_there (own ∷ stages) (suc k) stage e = finished_there stages k stage e

  rounds_there : (stages : List Worker) (k : ℕ) (stage : Worker)
      → slice_get stages k ≡ Some stage → HasRounds k stages collector
      → stage.taken < stage.rounds
  rounds_there [] k stage e left = absurd (none-some stage e)
  rounds_there (own ∷ stages) zero stage e left =
      subst (λ (w : Worker). w.taken < w.rounds) (same_Some own stage e) left.1
  rounds_there (own ∷ stages) (suc k) stage e left = rounds_there stages k stage e left

-- one that isn't stopped fits where its blocks do
fits_by : (stage : Worker) (own : ParcelView) → stage.taken < stage.rounds
    → (own.stop ≡ None
    → blocks_fit stage.inner.blocks own.load.blocks own.load.rooms ≡ true)
    → (why : Option Stop) → own.stop ≡ why → fits_stage stage own ≡ true
fits_by stage own left fit (Some why) is =
    ap (λ (o : Option Stop). is_some o || (nat_lt stage.taken stage.rounds
    && blocks_fit stage.inner.blocks own.load.blocks own.load.rooms)) is
fits_by stage own left fit None is =
    or_right (is_some own.stop) (nat_lt stage.taken stage.rounds
    && blocks_fit stage.inner.blocks own.load.blocks own.load.rooms)
    (and_from (nat_lt stage.taken stage.rounds)
    (blocks_fit stage.inner.blocks own.load.blocks own.load.rooms)
    (lt-ltb stage.taken stage.rounds left) (fit is))

-- the stages of a state, with what they began with
stage_before : (start : Start StageState Load Stop Gathered)
    (core : Core StageState Load Stop Gathered) → IsState stage_work start core → (k : ℕ)
    (stage : Worker) → slice_get core.stages k ≡ Some stage
    → (stage₀ : Worker) × (slice_get start.stages k ≡ Some stage₀)
    × (stage.inner.blocks ≡ stage₀.inner.blocks)
unfolding core_of
stage_before start core state k stage there =
    let its = are_parts start core state in
    stage_there start.stages its.parts k stage its.joined.steps
    (ap (λ (c : Core StageState Load Stop Gathered). slice_get c.stages k) its.same ∙ there)

pub plan_parcels_fit_stages : PlanParcelsFitStages
plan_parcels_fit_stages tree plan input rounds old circuit started bound last start core program
    ready enough has cut begun state number stage own rest there going link =
    let (stage₀, began, blocks_are) = stage_before start core state number stage there in
    let within = slice_get_within start.stages number stage₀ began in
    let count = begun.stages in
    let left = rounds_there core.collector core.stages number stage there
    (unfinished_has_rounds stage_work start core state number
    (finished_there core.collector core.stages number stage there ∙ going)) in
    fits_by stage own left (λ none.
    ap (λ (l : List Block). blocks_fit l own.load.blocks own.load.rooms)
    (blocks_are ∙ (begun.each number stage₀ began).0.blocks_are)
    ∙ load_fits (running_of plan) bound last number own.load
    (plan_parcels_fit tree plan input rounds old circuit started bound last start core program
    ready enough has cut begun state number own rest (omega (arith, within, count)) link none))
    own.stop refl
