-- A state of the ring, as a chain of generic stages.
use Rattle.std.proofs.Common.{◌≡◌, refl, sym, ap, ◌∙◌, subst, ℕ, zero, suc, ◌+◌, ◌<◌, ◌≤◌, ℤ}
use Rattle.std.proofs.Common.{Bool, true, false, List, [], ◌∷◌, ◌++◌, length, map, take, drop}
use Rattle.std.proofs.Common.{Some, None, slice_get, slice_index, arith}
use Rattle.std.proofs.Common.{option_to_list, length-append}
use Rattle.std.proofs.Math.Nat.{min-le_left}
use Rattle.std.proofs.lemmas.List.{take-append-drop, length-take, length-map}
use Rattle.strc_work_meaning.specs.declared.fault.Cause.{Cause}
use Rattle.strc_work_meaning.specs.declared.word.Word.{Word}
use Rattle.circular_buffer.specs.Buffer.{buffer}
use Rattle.strc_elab_dataflow.specs.Answer.{Outcome, words_of}
use Rattle.strc_elab_dataflow.specs.Queues.{FifoProgress.FifoWent, fifo_go, fifo_rounds}
use Rattle.strc_elab_graph.specs.Meaning.{node_meaning}
use Rattle.strc_stage_core.specs.Actors.{Collector}
use Rattle.strc_stage_core.specs.Events.{taken_by}
use Rattle.strc_stage_core.specs.Parts as ring
use Rattle.strc_stage_core.specs.Parts.{received_by, AreLinked, AreJoined, core_of}
use Rattle.strc_stage_core.specs.States.{Start, Core, IsState, AreFresh}
use Rattle.strc_stage_core.proofs.Joining.{state_parts}
use Rattle.strc_stage_core.proofs.Stages.{runs_taken}
use Rattle.strc_stage_core.proofs.Taking.{each_within_rounds}
use Rattle.strc_sched_outcome.specs.declared.stop.Stop.{Stop}
use Rattle.strc_stage_core.specs.Parcels.{Load, ParcelView}
use Rattle.strc_sched_laws.specs.Fits.{Queues}
use Rattle.strc_sched_laws.specs.Machine.{MachineView}
use Rattle.strc_sched_laws.specs.Simulation.{Simulates}
use Rattle.strc_elab_dataflow.specs.Chains.{first_from, faults_on}
use Rattle.strc_elab_dataflow.specs.Restart.{AreSame}
use Rattle.strc_elab_dataflow.proofs.RestartChains.{restarted_chains}
use Rattle.strc_elab_dataflow.proofs.Restart.{same_at_first}
use Rattle.strc_elab_dataflow.specs.Parcels.{IsWorking}
use Rattle.strc_elab_dataflow.specs.Workers.{AreParcels, IsChain, collects}
use Rattle.strc_elab_dataflow.proofs.Chains.{chain_gives_answer, parcels_front}
use Rattle.strc_elab_dataflow.proofs.Collecting.{startup_gives_stages}
use Rattle.strc_elab_dataflow.proofs.Segments.{in_is}
use Rattle.strc_stage_steps.specs.Beginnings.{IsStageOf, IsBeginning, IsFree}
use Rattle.strc_stage_steps.specs.Runnings.{resumed}
use Rattle.strc_stage_steps.specs.Steps.{StageState, Gathered, stage_work}
use Rattle.strc_stage_steps.proofs.Follows.{Worker, Generic, Related}
use Rattle.strc_stage_steps.proofs.Fresh.{fresh, fresh_are, AllSpent, AreSpent, free_spent}
use Rattle.strc_stage_steps.proofs.Fresh.{spent_front}
use Rattle.strc_stage_steps.proofs.Fresh.{spent_behind}
use Rattle.strc_stage_steps.proofs.Fresh.{spent_related, AreUnstopped, back_spent}
use Rattle.strc_stage_steps.proofs.Held.{IsHeld, not_own}
use Rattle.strc_stage_steps.specs.Carrying.{StagePart, CollectorPart, made_at}
use Rattle.strc_stage_steps.proofs.Links.{received_at, links, link_steps, link_related}
use Rattle.strc_stage_steps.proofs.Links.{related_front, related_less, last_few}
use Rattle.strc_stage_steps.proofs.Links.{made_front}
use Rattle.strc_stage_steps.proofs.Setting.{Setting, meaning, again, staging, own, stage_of}
use Rattle.strc_stage_steps.proofs.Setting.{is_staging}

-- ---- lists

received_last : (parts : List StagePart) (last : List ParcelView)
    → received_at parts last (length parts) ≡ last
received_last [] last = refl
received_last (part ∷ parts) last = received_last parts last

received_first : (parts : List StagePart) (last : List ParcelView)
    → received_at parts last 0 ≡ received_by parts last
received_first [] last = refl
received_first (part ∷ parts) last = refl

as_many : (stages₀ : List Worker) (parts : List StagePart)
    → ring.AreSteps stage_work stages₀ parts → length stages₀ ≡ length parts
as_many [] [] steps = refl
as_many (stage₀ ∷ stages₀) (part ∷ parts) (runs, steps) = ap suc (as_many stages₀ parts steps)
as_many [] (part ∷ parts) steps = absurd steps
as_many (stage₀ ∷ stages₀) [] steps = absurd steps

-- the stages' lists and the collector's, of a state of this start
pub record AreParts (start : Start StageState Load Stop Gathered)
    (core : Core StageState Load Stop Gathered) : Type 0 where
  pub parts : List StagePart
  pub end : CollectorPart
  pub joined : AreJoined stage_work start parts end
  pub same : core_of parts end ≡ core

pub are_parts : (start : Start StageState Load Stop Gathered)
    (core : Core StageState Load Stop Gathered) → IsState stage_work start core
    → AreParts start core
are_parts start core state =
    let (parts, end, joined, same) = state_parts stage_work start core state in
    record { parts = parts; end = end; joined = joined; same = same }

module _ (s : Setting) (started : MachineView)
    (holds : Simulates s.running.graph s.running.sizes s.circuit.input s.from started) where
  -- what the generic stages begin with
  abbrev pub now : Queues
  now = first_from (resumed s.running s.by_source s.from s.rounds s.bound s.last)

  went : fifo_go (meaning s) (again s) [] now ≡ FifoWent now
  unfolding fifo_go
  went = refl

  same_now : AreSame s.from s.from now
  same_now = same_at_first node_meaning s.by_source s.from s.is.resumption.faultless

  -- a stage before its first step holds its part
  first_held : (c : ℕ) (state : StageState)
      → IsStageOf s.running s.bound s.last s.circuit started c state → IsHeld s c state now
  first_held c state is =
      let mine = λ (node : ℕ) (e : own s c node ≡ true). in_is (stage_of s) c node e in
      record {
        agrees = λ node e. record {
          codes = is.circuit_is.codes node (mine node e);
          inputs = is.circuit_is.inputs node (mine node e);
          outputs = is.circuit_is.outputs node (mine node e);
          input = λ code there reads. is.circuit_is.input node code (mine node e) there reads;
        };
        order_is = is.order_is;
        entering_is = is.entering_is;
        leaving_is = is.leaving_is;
        tapes_are = is.tapes_are;
        machine = is.machine;
        machine_is = is.machine_is;
        each_fields = is.is_machine.each_fields;
        each_fired = is.is_machine.each_fired;
        each_ring = is.is_machine.each_ring;
        each_words = is.is_machine.each_words;
        fields = λ node less e. is.is_machine.fields node (mine node e)
            ∙ holds.fields node less ∙ same_now.state node;
        fired = λ node less e. is.is_machine.fired node (mine node e)
            ∙ holds.fired node less ∙ same_now.fired node;
        ending = λ number channel there e.
            is.is_machine.ending number channel there (mine channel.target.node e)
            ∙ holds.rings number channel there
            ∙ ap (λ (l : List ℤ). buffer l (slice_index s.running.sizes number))
            (same_now.queues channel.target.node channel.target.port);
        leaving = λ number channel there e f.
            is.is_machine.leaving number channel there (mine channel.source.node e)
            (not_own s c channel.target.node f);
        words = λ node code there gives e. is.is_machine.words node;
      }

  pub working : (c : ℕ) → c < suc s.last → IsWorking (staging s) c 0 now
  working c less = (startup_gives_stages (staging s) (is_staging s)).0 now went c less

  module _ (start : Start StageState Load Stop Gathered)
      (beginning : IsBeginning s.running s.bound s.last s.circuit started s.rounds start)
      (core : Core StageState Load Stop Gathered) (state : IsState stage_work start core)
      (its : AreParts start core) where
    -- ---- the parts of the state

    abbrev pub parts : List StagePart
    parts = its.parts

    abbrev pub received : List ParcelView
    received = its.end.received

    abbrev pub joined : AreJoined stage_work start its.parts its.end
    joined = its.joined

    pub part_count : length parts ≡ suc s.last
    part_count = sym (as_many start.stages parts joined.steps) ∙ beginning.stages

    abbrev given₀ : List Generic
    given₀ = map fresh (start.free ++ its.end.sent)

    long : length (received_by parts received) ≤ length given₀
    long = omega (
      arith,
      length-map (start.free ++ its.end.sent) fresh,
      ap length joined.last_link,
      length-append (received_by parts received) its.end.left,
    )

    few_by : (stages₀ : List Worker) (own : List StagePart) (last : List ParcelView)
        (head : Bool) (rounds : ℕ) (done : Bool) (most : ℕ) → 0 < length stages₀
        → AreFresh head rounds done stages₀ → ring.AreSteps stage_work stages₀ own
        → taken_by 0 (map (λ (part : StagePart). part.actor) own) its.end.actor ≤ most
        → length (received_by own last) ≤ most
    few_by [] own last head rounds done most some fresh steps within =
        absurd (omega (arith, some))
    few_by (stage₀ ∷ stages₀) [] last head rounds done most some fresh steps within =
        absurd steps
    few_by (stage₀ ∷ stages₀) (part ∷ own) last head rounds done most some fresh steps within =
        omega (
          arith,
          within,
          fresh.0.none_taken,
          runs_taken stage_work stage₀ part.received
              (part.sent ++ option_to_list part.held) part.actor steps.0,
        )

    pub few : length (received_by parts received) ≤ s.rounds
    unfolding core_of
    few =
        let within = each_within_rounds stage_work start core state 0 in
        few_by start.stages parts received true start.collector.rounds start.done s.rounds
        state.begun.some_stage state.begun.fresh joined.steps
        (subst (λ (n : ℕ). taken_by 0 (map (λ (part : StagePart). part.actor) parts)
        its.end.actor ≤ n) beginning.rounds_are
        (subst (λ (c : Core StageState Load Stop Gathered).
        taken_by 0 c.stages c.collector ≤ start.collector.rounds) (sym its.same) within))

    pub received_few : length received ≤ s.rounds
    received_few = last_few s now received start.stages parts s.rounds joined.steps joined.links
        few

    -- ---- the chain

    abbrev pub given : ℕ → List Generic
    given = links s now received 0 parts given₀

    abbrev pub taken : ℕ → List Generic
    taken b = take (length (received_at parts received b)) (given b)

    abbrev left : ℕ → List Generic
    left b = drop (length (received_at parts received b)) (given b)

    chain : IsChain (staging s) now given taken left
    chain = record {
      links = λ b less. sym (take-append-drop (length (received_at parts received b)) (given b));
      count = omega (
        arith,
        few,
        ap length (received_first parts received),
        length-take (length (received_at parts received 0)) given₀,
        min-le_left (length (received_at parts received 0)) (length given₀),
      );
      fresh = fresh_are (taken (suc s.last)) 0 (start.free ++ its.end.sent);
      steps = λ a less are. link_steps s now received 0 start.stages parts given₀ joined.steps
          joined.links long a a (omega arith) (omega (arith, less, part_count));
    }

    -- the parcels of each link are those of the equations
    pub given_are : (b : ℕ) → b ≤ length parts
        → AreParcels (staging s) (taken (suc s.last)) b 0 (given b)
    given_are b less = (chain_gives_answer (staging s) now given taken left (is_staging s)
        went chain).0 b (omega (arith, less, part_count))

    pub are_parcels : (b c : ℕ) → c ≡ 0 + b → b ≤ length parts
        → AreParcels (staging s) (taken (suc s.last)) c 0 (taken b)
    are_parcels b c e less =
        let same : b ≡ c = omega (arith, e) in
        subst (λ (k : ℕ). AreParcels (staging s) (taken (suc s.last)) k 0 (taken b)) same
        (parcels_front (staging s) (taken (suc s.last)) b 0 (taken b) (left b)
        (subst (AreParcels (staging s) (taken (suc s.last)) b 0)
        (sym (take-append-drop (length (received_at parts received b)) (given b)))
        (given_are b less)))

    -- what the collector took
    abbrev pub collected : List Generic
    collected = take (length received) (given (length parts))

    pub collected_is : taken (suc s.last) ≡ collected
    collected_is =
        ap (λ (n : ℕ). take (length (received_at parts received n)) (given n)) (sym part_count)
        ∙ ap (λ (l : List ParcelView). take (length l) (given (length parts)))
        (received_last parts received)

    pub chain_answers : (outcome : Outcome Cause Word)
        → collects (staging s) s.rounds 0 (words_of s.from.runs) collected ≡ Some outcome
        → faults_on s.from outcome
        ≡ fifo_rounds node_meaning s.by_source s.circuit.input s.running.order s.rounds 0 s.from
    chain_answers outcome e =
        restarted_chains (resumed s.running s.by_source s.from s.rounds s.bound s.last) s.inputs
        given taken left outcome s.circuit.input s.is.resumption (is_staging s) chain
        (ap (collects (staging s) s.rounds 0 (words_of s.from.runs)) collected_is ∙ e)

    -- ---- rounds of the ring

    pub heads : (k c : ℕ) (stage : Worker) → c ≡ 0 + k → slice_get start.stages k ≡ Some stage
        → (stage.stop ≡ None) × IsHeld s c stage.inner now
    heads k c stage e there = (
      (beginning.each k stage there).1,
      first_held c stage.inner
          (subst (λ (n : ℕ). IsStageOf s.running s.bound s.last s.circuit started n stage.inner)
          (let same : k ≡ c = omega (arith, e) in same) (beginning.each k stage there).0),
    )

    all_free : (free : List ParcelView)
        → ((k : ℕ) (p : ParcelView) → slice_get free k ≡ Some p
        → IsFree s.running s.bound s.last s.circuit started p)
        → AllSpent s free
    all_free [] each = tt
    all_free (p ∷ free) each = (
      free_spent s started p (each 0 p refl),
      all_free free (λ k q there. each (suc k) q there),
    )

    abbrev pub came : List ParcelView
    came = start.free ++ its.end.sent

    -- what comes back after so many parcels that weren't stopped
    pub came_spent : (n : ℕ) → AreUnstopped s n received → Related s n received collected
        → AreSpent s (length start.free + n) came
    came_spent n unstopped related =
        let end = its.end in
        spent_behind s n start.free end.sent (all_free start.free beginning.free)
        (spent_front s n end.sent (option_to_list end.held)
        (back_spent s n start.collector end.actor received
        (end.sent ++ option_to_list end.held) collected related unstopped joined.collects))

    -- what is made for each link is related as far
    pub each_related : (n : ℕ) → AreUnstopped s n received → Related s n received collected
        → (b : ℕ) → b ≤ length parts
        → Related s (length start.free + n) (made_at parts came b) (given b)
    each_related n unstopped related =
        link_related s now received (length start.free + n) (taken (suc s.last)) 0 start.stages
        parts came its.end.left given₀ (omega (arith, part_count)) joined.steps
        joined.links joined.last_link long heads working are_parcels few
        (spent_related s (length start.free + n) came (came_spent n unstopped related))

    turn : (n : ℕ) → AreUnstopped s n received → Related s n received collected
        → Related s (suc n) received collected
    turn n unstopped related =
        let (more, is) = made_front s now received start.stages parts came its.end.left
        joined.steps joined.links joined.last_link (length parts) (omega arith) in
        let last_is = is
        ∙ ap (λ (l : List ParcelView). l ++ more) (received_last parts received) in
        related_front s (suc n) received more (given (length parts))
        (subst (λ (l : List ParcelView). Related s (suc n) l (given (length parts))) last_is
        (related_less s (suc n) (length start.free + n)
        (omega (arith, state.begun.free_parcels, state.begun.some_stage))
        (made_at parts came (length parts)) (given (length parts))
        (each_related n unstopped related (length parts) (omega arith))))

    pub unstopped_fewer : (n : ℕ) (l : List ParcelView) → AreUnstopped s (suc n) l
        → AreUnstopped s n l
    unstopped_fewer zero l unstopped = tt
    unstopped_fewer (suc n) [] unstopped = tt
    unstopped_fewer (suc n) (p ∷ l) unstopped =
        (unstopped.0, unstopped_fewer n l unstopped.1)

    -- what the collector took is related, up to one past those that weren't stopped
    pub reach : (n : ℕ) → AreUnstopped s n received → Related s (suc n) received collected
    reach zero unstopped = turn 0 tt tt
    reach (suc n) unstopped =
        turn (suc n) unstopped (reach n (unstopped_fewer n received unstopped))
