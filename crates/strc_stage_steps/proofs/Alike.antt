-- A ring of stages that is over has come to the outcome of the rounds.
use Rattle.std.proofs.Common.{◌≡◌, refl, sym, ap, ◌∙◌, subst, ℕ, suc, ◌+◌, ◌<◌, true}
use Rattle.std.proofs.Common.{false, List, [], ◌∷◌, ◌++◌, length, Option, Some, None}
use Rattle.std.proofs.Common.{is_some, arith, true≢false, option_to_list, Bool, append-nil}
use Rattle.std.proofs.Common.{length-append}
use mathlib.Core.Logic.{inl, inr}
use Rattle.strc_work_meaning.specs.declared.fault.Cause.{Cause}
use Rattle.strc_work_meaning.specs.declared.word.Word.{Word}
use Rattle.strc_elab_dataflow.specs.Answer.{Outcome, Outcome.Done, Outcome.RoundFault, words_of}
use Rattle.strc_elab_dataflow.specs.Machine as generic
use Rattle.strc_elab_dataflow.specs.Queues.{fifo_rounds}
use Rattle.strc_elab_graph.specs.Meaning.{node_meaning}
use Rattle.strc_stage_core.specs.Actors.{Collector}
use Rattle.strc_stage_core.specs.Endings.{AreRunning, IsEnded, IsGathered, IsDecided, Gathers}
use Rattle.strc_stage_core.specs.Events.{is_over}
use Rattle.strc_stage_core.specs.Parts.{core_of}
use Rattle.strc_stage_core.specs.States.{Start, Core, IsState}
use Rattle.strc_stage_core.proofs.Endings.{all_ended}
use Rattle.strc_stage_core.proofs.Gathering.{gathers_all}
use Rattle.strc_stage_core.proofs.Stages.{gathers_taken}
use Rattle.strc_sched_outcome.specs.declared.stop.Stop.{Stop}
use Rattle.strc_sched_outcome.specs.declared.stop.Stop.TheVariants as stop
use Rattle.strc_stage_core.specs.Parcels.{Load, ParcelView}
use Rattle.strc_sched_laws.specs.Machine.{MachineView, words_at}
use Rattle.strc_sched_laws.specs.Simulation.{Simulates}
use Rattle.strc_elab_dataflow.specs.Chains.{faults_on}
use Rattle.strc_elab_dataflow.specs.Restart.{numbered_on}
use Rattle.strc_stage_steps.specs.Beginnings.{IsBeginning}
use Rattle.strc_stage_steps.specs.Laws.{TellsOutcome, StagesRunAlike}
use Rattle.strc_stage_steps.specs.Steps.{StageState, Gathered, stage_work}
use Rattle.strc_stage_steps.proofs.Chain.{AreParts, are_parts, received_few, chain_answers, reach}
use Rattle.strc_stage_steps.proofs.Chain.{collected}
use Rattle.strc_stage_steps.proofs.Follows.{Related}
use Rattle.strc_stage_steps.proofs.Fresh.{AreUnstopped}
use Rattle.strc_stage_steps.proofs.Setting.{Setting, setting}
use Rattle.strc_stage_steps.proofs.Totals.{tapes_of, tapes_same, all_gathered, up_to_gathered}
use Rattle.strc_stage_steps.proofs.Totals.{rounds_gathered}

-- the fault of a stop, and not one of memory
abbrev is_fault : Stop → Bool
is_fault (stop.Fault node firing cause) = true
is_fault stop.NoMemory = false

last_runs : (front : List ParcelView) (last : ParcelView) → AreRunning (front ++ (last ∷ []))
    → last.stop ≡ None
last_runs [] last running = running.0
last_runs (p ∷ front) last running = last_runs front last running.1

module _ (s : Setting) (started : MachineView)
    (holds : Simulates s.running.graph s.running.sizes s.circuit.input s.from started)
    (start : Start StageState Load Stop Gathered)
    (beginning : IsBeginning s.running s.bound s.last s.circuit started s.rounds start)
    (core : Core StageState Load Stop Gathered) (state : IsState stage_work start core)
    (its : AreParts start core) (over : is_over core ≡ true) where
  abbrev count : ℕ
  count = length s.running.graph.nodes

  abbrev answer : Outcome Cause Word
  answer = fifo_rounds node_meaning s.by_source s.circuit.input s.running.order s.rounds 0 s.from

  -- ---- what the outcome tells

  done_tells : (words : ℕ → List Word) (total : Gathered) (outcome : Outcome Cause Word)
      → faults_on s.from (Done words) ≡ outcome → total.words ≡ tapes_of s words
      → TellsOutcome s.running.graph.nodes total None outcome
  unfolding faults_on
  done_tells words total outcome e tapes =
      subst (TellsOutcome s.running.graph.nodes total None) e tapes

  fault_tells : (q node firing : ℕ) (cause : Cause) (why : generic.Stop Cause)
      (words : ℕ → List Word) (total : Gathered) (outcome : Outcome Cause Word)
      → numbered_on s.from why ≡ record { node = node; firing = firing; cause = cause }
      → faults_on s.from (RoundFault q why words) ≡ outcome → total.words ≡ tapes_of s words
      → q ≡ total.rounds
      → TellsOutcome s.running.graph.nodes total (Some (stop.Fault node firing cause)) outcome
  unfolding faults_on
  fault_tells q node firing cause why words total outcome named e tapes round =
      subst (TellsOutcome s.running.graph.nodes total (Some (stop.Fault node firing cause))) e
      (round, named, tapes)

  -- ---- the collector

  abbrev received : List ParcelView
  received = its.end.received

  abbrev end : Collector Gathered Stop
  end = its.end.actor

  end_is : end ≡ core.collector
  unfolding core_of
  end_is = ap (λ (c : Core StageState Load Stop Gathered). c.collector) its.same

  -- it took a parcel for each round, of which none was stopped; where there are no rounds, none
  every_round : (ended : IsEnded stage_work start core) → AreRunning ended.taken → (done : Bool)
      → start.done ≡ done → length ended.taken ≡ start.collector.rounds
  every_round ended running false going =
      let ends = ended.taken_ends going in
      elim ends.why [
        | inl e ↦ e
        | inr stopped ↦ absurd (true≢false (sym stopped ∙ ap is_some
            (last_runs ends.front ends.last (subst AreRunning ends.is running))))
      ]
  every_round ended running true done =
      let none = ap length (ended.none_done done) in
      let many = ended.as_many in
      elim (state.begun.why_done done) [
        | inl e ↦ omega (arith, none, many, e)
        | inr stopped ↦ absurd (true≢false (sym stopped ∙ ap is_some beginning.no_stop))
      ]

  -- where it has no stop it took a parcel for each round
  all_taken : core.collector.stop ≡ None → length received ≡ s.rounds
  all_taken none =
      let ended = all_ended stage_work start core state over in
      let gathers = subst (λ (why : Option Stop). Gathers stage_work start.collector ended.taken why
      core.collector.total) none (gathers_all stage_work start.collector ended.taken ended.given
      core.collector ended.gathers beginning.no_stop) in
      let mine = gathers_taken stage_work start.collector received
      (its.end.sent ++ option_to_list its.end.held) end its.joined.collects in
      let took = gathers_taken stage_work start.collector ended.taken ended.given core.collector
      ended.gathers in
      let many = every_round ended gathers.running start.done refl in
      omega (
        arith,
        mine,
        took,
        many,
        beginning.rounds_are,
        ap (λ (c : Collector Gathered Stop). c.taken) end_is,
      )

  first_tapes : start.collector.total.words ≡ tapes_of s (words_of s.from.runs)
  unfolding words_of
  first_tapes =
      ap (λ (total : Gathered). total.words) beginning.total
      ∙ tapes_same 0 s.running.graph.nodes count (words_at started.words) (words_of s.from.runs)
      (omega arith) (λ v less. holds.words v less)

  unstopped : (xs ys : List ParcelView) → AreRunning xs → AreUnstopped s (length xs) (xs ++ ys)
  unstopped [] ys running = tt
  unstopped (p ∷ xs) ys running = (running.0, unstopped xs ys running.1)

  abbrev reaches : (n : ℕ) → AreUnstopped s n received
      → Related s (suc n) received
      (collected s started holds start beginning core state its)
  reaches = reach s started holds start beginning core state its

  all_tells : (total : Gathered) → length received ≡ s.rounds
      → IsGathered stage_work start.collector received total
      → TellsOutcome s.running.graph.nodes total None answer
  all_tells total many gathered =
      let all = all_gathered s s.rounds 0
      (words_of s.from.runs)
      start.collector.total received
      (collected s started holds start beginning core state its) (sym many) first_tapes
      gathered.running (subst (λ (n : ℕ). Related s (suc n) received
      (collected s started holds start beginning core state its)) many
      (reaches (length received)
      (subst (λ (l : List ParcelView). AreUnstopped s (length received) l)
      (append-nil received) (unstopped received [] gathered.running)))) in
      done_tells all.last total answer
      (chain_answers s started holds start beginning core state its (Done all.last) all.outcome)
      (ap (λ (g : Gathered). g.words) gathered.total_is ∙ all.tapes)

  stop_tells : (total : Gathered) (node firing : ℕ) (cause : Cause)
      → IsDecided stage_work start.collector received (stop.Fault node firing cause) total
      → TellsOutcome s.running.graph.nodes total (Some (stop.Fault node firing cause)) answer
  stop_tells total node firing cause decided =
      let front = decided.front in
      let stopped : decided.parcel.stop ≡ Some (stop.Fault node firing cause) =
      elim decided.why [
        | inl e ↦ e
        | inr memory ↦ absurd (true≢false (ap is_fault memory.1))
      ] in
      let related = subst (λ (l : List ParcelView). Related s (suc (length front)) l
      (collected s started holds start beginning core state its)) decided.is
      (reaches (length front) (subst (AreUnstopped s (length front)) (sym decided.is)
      (unstopped front (decided.parcel ∷ decided.rest) decided.running))) in
      let less : length front < s.rounds = omega (
        arith,
        received_few s started holds start beginning core state its,
        ap length decided.is,
        length-append front (decided.parcel ∷ decided.rest),
      ) in
      let up_to = up_to_gathered s s.rounds 0
      (words_of s.from.runs) start.collector.total front
      decided.parcel decided.rest
      (collected s started holds start beginning core state its) node firing cause less
      first_tapes decided.running stopped related in
      fault_tells (0 + length front) node firing cause up_to.why up_to.last total answer up_to.named
      (chain_answers s started holds start beginning core state its
      (RoundFault (0 + length front) up_to.why up_to.last) up_to.outcome)
      (ap (λ (g : Gathered). g.words) decided.total_is ∙ up_to.tapes)
      (omega (
        arith,
        ap (λ (g : Gathered). g.rounds) decided.total_is,
        rounds_gathered s start.collector.total front,
        ap (λ (g : Gathered). g.rounds) beginning.total,
      ))

  by_stop : (why : Option Stop) (total : Gathered) → (why ≡ None → length received ≡ s.rounds)
      → Gathers stage_work start.collector received why total
      → TellsOutcome s.running.graph.nodes total why answer
  by_stop None total many gathers = all_tells total (many refl) gathers
  by_stop (Some (stop.Fault node firing cause)) total many gathers =
      stop_tells total node firing cause gathers
  by_stop (Some stop.NoMemory) total many gathers = tt

  pub tells_outcome : TellsOutcome s.running.graph.nodes core.collector.total core.collector.stop
      answer
  tells_outcome =
      by_stop core.collector.stop core.collector.total all_taken
      (subst (λ (c : Collector Gathered Stop). Gathers stage_work start.collector received c.stop
      c.total) end_is (gathers_all stage_work start.collector received
      (its.end.sent ++ option_to_list its.end.held) end its.joined.collects beginning.no_stop))

pub stages_run_alike : StagesRunAlike
stages_run_alike running by_source from rounds bound last circuit started start core is holds
    beginning state over =
    tells_outcome (setting running by_source from rounds bound last circuit is) started holds start
    beginning core state (are_parts start core state) over
