-- The parcels and the stages of a ring's states are those of the rounds, by the equations.
use Rattle.std.proofs.Common.{◌≡◌, refl, sym, ap, ◌∙◌, subst, ℕ, zero, suc, ◌+◌, ◌-◌, ◌*◌, ◌<◌, ◌≤◌}
use Rattle.std.proofs.Common.{Bool, true, false, List, [], ◌∷◌, ◌++◌, length, take, Option, Some}
use Rattle.std.proofs.Common.{None}
use Rattle.std.proofs.Common.{option_to_list, slice_get, arith}
use Rattle.std.proofs.lemmas.Option.{none-some, same_Some, slice_get_within}
use mathlib.Core.Logic.{inl, inr}
use Rattle.strc_work_meaning.specs.declared.fault.Cause.{Cause}
use Rattle.strc_elab_dataflow.specs.Workers.{HasHalted}
use Rattle.strc_sched_laws.specs.Machine.{MachineView}
use Rattle.strc_sched_laws.specs.Simulation.{Simulates}
use Rattle.strc_stage_core.specs.Actors.{Step}
use Rattle.strc_stage_core.specs.Endings.{AreRunning}
use Rattle.strc_stage_core.specs.Parts as ring
use Rattle.strc_stage_core.specs.Parts.{core_of}
use Rattle.strc_stage_core.specs.States.{Start, Core, IsState, Runs, AreFresh}
use Rattle.strc_stage_core.proofs.Joining.{joined_state}
use Rattle.strc_stage_core.proofs.Runs.{runs_length}
use Rattle.strc_stage_core.proofs.Stages.{runs_taken}
use Rattle.strc_sched_outcome.specs.declared.stop.Stop.{Stop}
use Rattle.strc_sched_outcome.specs.declared.stop.Stop.TheVariants as stop
use Rattle.strc_stage_core.specs.Parcels.{Load, ParcelView}
use Rattle.strc_stage_steps.specs.Beginnings.{IsBeginning}
use Rattle.strc_stage_steps.specs.Carrying as carrying
use Rattle.strc_stage_steps.specs.Carrying.{HasStopped, StagePart, made_at, made_by}
use Rattle.strc_stage_steps.specs.Laws.{RingsAreInRounds}
use Rattle.strc_stage_steps.specs.Steps.{StageState, Gathered, stage_work}
use Rattle.strc_stage_steps.proofs.Chain.{AreParts, are_parcels, collected_is, each_related, few}
use Rattle.strc_stage_steps.proofs.Chain.{given_are, heads, now, part_count, taken, working}
use Rattle.strc_stage_steps.proofs.Follows.{Generic, Related, Worker}
use Rattle.strc_stage_steps.proofs.Fresh.{AreUnstopped}
use Rattle.strc_stage_steps.proofs.HeldStages.{HoldsAt, held_on, none_of_runs, none_of_step}
use Rattle.strc_stage_steps.proofs.Links.{made_front, received_at, related_front}
use Rattle.strc_stage_steps.proofs.ParcelsFit.{in_front, made_few, on_link, reached, related_so_far}
use Rattle.strc_stage_steps.proofs.ParcelsFit.{took}
use Rattle.strc_stage_steps.proofs.RoundsCome.{IsKnown, IsOfStop, known_at, none_halted}
use Rattle.strc_stage_steps.proofs.RoundsCome.{stopped_later, stops_within}
use Rattle.strc_stage_steps.proofs.Setting.{Setting, staging}

-- ---- lists

-- an element at each place within
element_at : (xs : List ParcelView) (k : ℕ) → k < length xs
    → (p : ParcelView) × (slice_get xs k ≡ Some p)
element_at [] k less = absurd (omega (arith, less))
element_at (x ∷ xs) zero less = (x, refl)
element_at (x ∷ xs) (suc k) less = element_at xs k (omega (arith, less))

-- what a stage took wasn't stopped, where it has no stop
none_taken : (worker last : Worker) (received made : List ParcelView) (k : ℕ) (p : ParcelView)
    → Runs (Step stage_work) worker received made last → last.stop ≡ None
    → slice_get received k ≡ Some p → p.stop ≡ None
none_taken worker last [] made k p runs none e = absurd (none-some p e)
none_taken worker last (q ∷ received) [] k p runs none e = absurd runs
none_taken worker last (q ∷ received) (r ∷ made) zero p (later, does, runs) none e =
    ap (λ (x : ParcelView). x.stop) (sym (same_Some q p e))
    ∙ (none_of_step worker later q r does (none_of_runs later last received made runs none)).parcel
none_taken worker last (q ∷ received) (r ∷ made) (suc k) p (later, does, runs) none e =
    none_taken later last received made k p runs none e

-- a stage, with what it began with
record IsPartOf (stages₀ : List Worker) (rounds : ℕ) (last : List ParcelView)
    (parts : List StagePart) (k : ℕ) (part : StagePart) : Type 0 where
  stage₀ : Worker
  there : slice_get stages₀ k ≡ Some stage₀
  none : stage₀.taken ≡ 0
  runs : Runs (Step stage_work) stage₀ part.received (made_by part) part.actor
  received_is : received_at parts last k ≡ part.received

part_of : (head : Bool) (rounds : ℕ) (done : Bool) (last : List ParcelView)
    (stages₀ : List Worker) (parts : List StagePart)
    (k : ℕ) (part : StagePart) → AreFresh head rounds done stages₀
    → ring.AreSteps stage_work stages₀ parts → slice_get parts k ≡ Some part
    → IsPartOf stages₀ rounds last parts k part
part_of head rounds done last stages₀ [] k part fresh steps e = absurd (none-some part e)
part_of head rounds done last [] (own ∷ parts) k part fresh steps e = absurd steps
part_of head rounds done last (stage₀ ∷ stages₀) (own ∷ parts) zero part (fresh, others)
    (runs, steps) e =
    let same = same_Some own part e in
    record {
      stage₀ = stage₀;
      there = refl;
      none = fresh.none_taken;
      runs = subst (λ (p : StagePart). Runs (Step stage_work) stage₀ p.received (made_by p) p.actor)
          same runs;
      received_is = ap (λ (p : StagePart). p.received) same;
    }
part_of head rounds done last (stage₀ ∷ stages₀) (own ∷ parts) (suc k) part (fresh, others)
    (runs, steps) e =
    let rest = part_of false rounds done last stages₀ parts k part others steps e in
    record {
      stage₀ = rest.stage₀;
      there = rest.there;
      none = rest.none;
      runs = rest.runs;
      received_is = rest.received_is;
    }

made_of : (parts : List StagePart) (first : List ParcelView) (k : ℕ) (part : StagePart)
    → slice_get parts k ≡ Some part → made_at parts first (suc k) ≡ made_by part
made_of [] first k part e = absurd (none-some part e)
made_of (own ∷ parts) first zero part e =
    ap (λ (p : StagePart). made_by p) (same_Some own part e)
made_of (own ∷ parts) first (suc k) part e = made_of parts (made_by own) k part e

module _ (s : Setting) (started : MachineView)
    (holds : Simulates s.running.graph s.running.sizes s.circuit.input s.from started)
    (start : Start StageState Load Stop Gathered)
    (beginning : IsBeginning s.running s.bound s.last s.circuit started s.rounds start)
    (core : Core StageState Load Stop Gathered) (state : IsState stage_work start core)
    (its : AreParts start core) where
  abbrev collection : List Generic
  collection = taken s started holds start beginning core state its (suc s.last)

  abbrev received : List ParcelView
  received = its.end.received

  abbrev came : List ParcelView
  came = start.free ++ its.end.sent

  abbrev IsOfRound : (actor round : ℕ) → Option Stop → Load → Type 0
  IsOfRound = carrying.IsOfRound s.running s.from s.bound s.last s.circuit (staging s) received

  -- ---- parcels

  module _ (actor round : ℕ) (own : ParcelView) (less : actor ≤ length its.parts)
      (e : slice_get (made_at its.parts came actor) round ≡ Some own)
      (running : AreRunning (take round (made_at its.parts came actor))) where
    known : (n : ℕ) → round < length start.free + n → AreUnstopped s n received
        → IsKnown s collection actor round own.stop own.load
    known n far unstopped =
        subst (λ (m : ℕ). IsKnown s collection actor m own.stop own.load)
        (let same : 0 + round ≡ round = omega arith in same)
        (known_at s collection (length start.free + n) actor 0 (made_at its.parts came actor) round
        own (on_link s started holds start beginning core state its actor) far e running
        (each_related s started holds start beginning core state its n unstopped
        (related_so_far s started holds start beginning core state its n unstopped) actor less)
        (given_are s started holds start beginning core state its actor less))

    came_back : HasHalted (take round collection) → HasStopped round received
    came_back halted = elim (stops_within s round received) [
      | inl unstopped ↦ absurd (none_halted s round received
          (took s started holds start beginning core state its) unstopped
          (related_so_far s started holds start beginning core state its round unstopped)
          (subst (λ (l : List Generic). HasHalted (take round l))
          (collected_is s started holds start beginning core state its) halted))
      | inr stopped ↦ stopped
    ]

    first_or_back : (node firing : ℕ) (cause : Cause)
        → IsOfStop s collection actor round node firing cause
        → IsOfRound actor round (Some (stop.Fault node firing cause)) own.load
    first_or_back node firing cause is = elim is.from [
      | inl first ↦ inl (record { stop = is.why; first = first; named = is.named })
      | inr halted ↦ inr (came_back halted)
    ]

    -- so many that the collector took tell of it
    abbrev before : ℕ
    before = suc round - length start.free

    by_stop : (why : Option Stop) → own.stop ≡ why → IsOfRound actor round why own.load
    by_stop None none =
        let far = reached s started holds start beginning core state its actor round own less e none
        in
        subst (λ (w : Option Stop). IsKnown s collection actor round w own.load) none
        (known far.n far.far far.unstopped)
    by_stop (Some (stop.Fault node firing cause)) is =
        elim (stops_within s before received) [
          | inl unstopped ↦ first_or_back node firing cause
              (subst (λ (w : Option Stop). IsKnown s collection actor round w own.load) is
              (known before (omega arith) unstopped))
          | inr stopped ↦ inr (subst (λ (m : ℕ). HasStopped m received)
              (let same : before + (round - before) ≡ round = omega (
                arith,
                state.begun.free_parcels,
                state.begun.some_stage,
              ) in same)
              (stopped_later s before (round - before) received stopped))
        ]
    by_stop (Some stop.NoMemory) is = tt

    is_of_round : IsOfRound actor round own.stop own.load
    is_of_round = by_stop own.stop refl

  -- ---- stages

  -- how far the collector has come, where a stage took so many
  record IsDeep (count : ℕ) : Type 0 where
    n : ℕ
    far : count ≤ length start.free + n
    unstopped : AreUnstopped s n received

  module _ (k : ℕ) (part : StagePart) (there : slice_get its.parts k ≡ Some part)
      (none : part.actor.stop ≡ None) where
    begun : IsPartOf start.stages start.collector.rounds received its.parts k part
    begun = part_of true start.collector.rounds start.done received start.stages its.parts k part
        state.begun.fresh its.joined.steps there

    below : k < length its.parts
    below = slice_get_within its.parts k part there

    is_stage : k < suc s.last
    is_stage = omega (arith, below, part_count s started holds start beginning core state its)

    abbrev got_here : List ParcelView
    got_here = received_at its.parts received k

    front : (more : List ParcelView) × (made_at its.parts came k ≡ got_here ++ more)
    front = made_front s (now s started holds) received start.stages its.parts came its.end.left
        its.joined.steps its.joined.links its.joined.last_link k (omega (arith, below))

    deep : (count : ℕ) → count ≡ length part.received → IsDeep count
    deep zero e = record { n = 0; far = omega arith; unstopped = tt }
    deep (suc j) e =
        let (p, at) = element_at part.received j (omega (arith, e)) in
        let made = ap (λ (l : List ParcelView). slice_get l j) (front.1
        ∙ ap (λ (l : List ParcelView). l ++ front.0) begun.received_is)
        ∙ in_front part.received front.0 j p at in
        let reach = reached s started holds start beginning core state its k j p
        (omega (arith, below)) made
        (none_taken begun.stage₀ part.actor part.received (made_by part) j p begun.runs none at) in
        record { n = reach.n; far = omega (arith, reach.far); unstopped = reach.unstopped }

    abbrev depth : IsDeep (length part.received)
    depth = deep (length part.received) refl

    abbrev others : List Generic
    others = taken s started holds start beginning core state its k

    related : Related s (length start.free + depth.n) part.received others
    related = subst (λ (l : List ParcelView). Related s (length start.free + depth.n) l others)
        begun.received_is
        (related_front s (length start.free + depth.n) got_here front.0
        (on_link s started holds start beginning core state its k)
        (subst (λ (l : List ParcelView). Related s (length start.free + depth.n) l
        (on_link s started holds start beginning core state its k)) front.1
        (each_related s started holds start beginning core state its depth.n depth.unstopped
        (related_so_far s started holds start beginning core state its depth.n depth.unstopped) k
        (omega (arith, below)))))

    in_time : 0 + length part.received ≤ s.rounds
    in_time = omega (
      arith,
      made_few s received start.stages its.parts came s.rounds its.joined.steps its.joined.links
          (few s started holds start beginning core state its) k below,
      ap length (made_of its.parts came k part there),
      runs_length (Step stage_work) begun.stage₀ part.received (made_by part) part.actor
          begun.runs,
    )

    holds_at : HoldsAt s collection k is_stage (0 + length part.received) part.actor.inner
    holds_at =
        held_on s collection k is_stage (length start.free + depth.n) 0 begun.stage₀ part.actor
        part.received (made_by part) (now s started holds) others in_time depth.far
        (heads s started holds start beginning core state its k k begun.stage₀ (omega arith)
        begun.there).1
        (working s started holds k is_stage)
        (are_parcels s started holds start beginning core state its k k (omega arith)
        (omega (arith, below)))
        related begun.runs none

    holds_round : carrying.HoldsRound s.running s.from s.bound s.last s.circuit (staging s) k
        part.actor.taken part.actor.inner
    holds_round =
        let same : 0 + length part.received ≡ part.actor.taken = omega (
          arith,
          runs_taken stage_work begun.stage₀ part.received (made_by part) part.actor begun.runs,
          begun.none,
        ) in
        subst (λ (t : ℕ). carrying.HoldsRound s.running s.from s.bound s.last s.circuit (staging s)
        k t part.actor.inner) same
        (record { now = holds_at.now; held = holds_at.held; working = holds_at.working })

  pub in_rounds : carrying.AreInRounds s.running s.from s.bound s.last s.circuit (staging s)
      start.free its.parts its.end
  in_rounds = record {
    parcels = λ actor round own less e running. is_of_round actor round own less e running;
    stages = λ stage part there none. holds_round stage part there none;
  }

pub rings_are_in_rounds : RingsAreInRounds
rings_are_in_rounds running by_source from rounds bound last circuit started inputs start parts end
    is holds staging beginning joined =
    in_rounds (record {
      running = running;
      by_source = by_source;
      from = from;
      rounds = rounds;
      bound = bound;
      last = last;
      circuit = circuit;
      is = is;
      inputs = inputs;
      is_staging = staging;
    }) started holds start beginning (core_of parts end)
    (joined_state stage_work start parts end joined)
    (record { parts = parts; end = end; joined = joined; same = refl })
