-- One step of a stage over rings is that of the generic stage.
use Rattle.std.proofs.Common.{◌≡◌, refl, sym, ap, ◌∙◌, subst, ℕ, suc, ◌+◌, ◌-◌, ◌<◌, ◌≤◌, ℤ}
use Rattle.std.proofs.Common.{Bool, true, false, cond, eqb, List, [], ◌∷◌, ◌++◌, length, take, Some}
use Rattle.std.proofs.Common.{slice_get, slice_index, slice_index_or, inl, inr, arith}
use Rattle.std.proofs.Common.{append-nil, eqb-true}
use Rattle.std.proofs.lemmas.Bool.{cases_eq, cases_lt, eq-eqb, lt-ltb, le-ltb}
use Rattle.std.proofs.lemmas.List.{take_all, nil_from_length}
use Rattle.circular_buffer.specs.Buffer.{buffer}
use Rattle.strc_work_meaning.specs.declared.fault.Cause.{Cause}
use Rattle.strc_work_meaning.specs.declared.word.Word.{Word}
use Rattle.strc_elab_dataflow.specs.Flat.{Origin}
use Rattle.strc_elab_dataflow.specs.Node.{ByPort, total}
use Rattle.strc_elab_dataflow.specs.Order as orders
use Rattle.strc_elab_dataflow.specs.Queues.{FifoProgress, FifoProgress.FifoWent, fifo_go}
use Rattle.strc_elab_dataflow.specs.Queues.{FifoProgress.FifoStopped}
use Rattle.strc_elab_dataflow.proofs.WholeRun.{counted-firing_count}
use Rattle.strc_elab_graph.specs.Graphs.{NodeCode, Channel, gives_words}
use Rattle.strc_stage_core.specs.Parcels as parcels
use Rattle.strc_stage_core.specs.Parcels.{Load, block_at}
use Rattle.strc_sched_laws.specs.Fits.{Queues}
use Rattle.strc_sched_laws.specs.Machine as machines
use Rattle.strc_sched_laws.specs.Machine.{MachineView, order_run, words_at}
use Rattle.strc_sched_laws.specs.Rings.{Ring, ring_at}
use Rattle.strc_sched_laws.proofs.Splitting.{go}
use Rattle.strc_elab_dataflow.specs.Cut.{AllIn}
use Rattle.strc_elab_dataflow.specs.Parcels.{HasMoved, IsWorking}
use Rattle.strc_elab_dataflow.specs.Stages.{entered, sent_blocks, sent_words}
use Rattle.strc_elab_dataflow.specs.Staging.{joined, counts}
use Rattle.strc_elab_dataflow.proofs.Fits.{step_fits}
use Rattle.strc_elab_dataflow.proofs.Orders.{counted_away}
use Rattle.strc_elab_dataflow.proofs.Segments.{in_is, is_in, not_in}
use Rattle.strc_stage_steps.specs.Steps.{Crossing, TapeOf}
use Rattle.strc_stage_steps.specs.Steps.{StageState, machine_entered, machine_left, emptied_ring}
use Rattle.strc_stage_steps.specs.Steps.{load_entered, load_left, load_worded, with_machine}
use Rattle.strc_stage_steps.specs.Steps.{stage_run}
use Rattle.strc_stage_steps.specs.Beginnings.{crosses, entering_at, leaving_at}
use Rattle.strc_stage_steps.specs.Beginnings.{tapes_at}
use Rattle.strc_stage_steps.specs.Runnings.{round_pushes}
use Rattle.strc_stage_steps.specs.CrossingBlocks.{IsShaped, passed_before}
use Rattle.strc_stage_steps.specs.Holding.{StepsAlike}
use Rattle.strc_stage_steps.specs.Laws.{StageStepsAlike}
use Rattle.strc_stage_steps.proofs.Crossings.{block_before, room_there, tape_there}
use Rattle.strc_stage_steps.proofs.Held.{IsHeld, IsLoaded, rooms, tape_count, size, starts, first}
use Rattle.strc_stage_steps.proofs.Held.{fits_here, first_simulates, crosses_from, crosses_to}
use Rattle.strc_stage_steps.proofs.Held.{not_own}
use Rattle.strc_stage_steps.proofs.Held.{no_block}
use Rattle.strc_stage_steps.proofs.Lifting.{lifted, lifted_progress, lifted_go, lowered}
use Rattle.strc_stage_steps.proofs.OwnSteps.{SimulatesOwn, FitOwn, IsAlikeOwn}
use Rattle.strc_stage_steps.proofs.OwnRuns.{AreOwn, left_alike, order_same}
use Rattle.strc_stage_steps.proofs.Passing.{entered_shaped, left_shaped, worded_shaped}
use Rattle.strc_stage_steps.proofs.Passing.{ring_left, ring_not_left, rings_left_length}
use Rattle.strc_stage_steps.proofs.Passing.{words_left_length, block_entered, block_not_entered}
use Rattle.strc_stage_steps.proofs.Passing.{block_left, block_not_left, block_worded, tape_worded}
use Rattle.strc_stage_steps.proofs.Passing.{tape_not_worded, words_gone, words_left_entered}
use Rattle.strc_stage_steps.proofs.Setting.{Setting, meaning, again, staging, stage_of, own}
use Rattle.strc_stage_steps.proofs.Setting.{is_staging}
use Rattle.strc_stage_steps.proofs.Setting.{origin_is, port_is, forward, firing_append, round_front}

-- more firings of others
raised_more : (order : List ℕ) (node other : ℕ) → 0 < orders.firing_count order other
    → 0 < orders.firing_count (node ∷ order) other
unfolding orders.firing_count orders.raised
raised_more order node other some =
    by_test (orders.firing_count order other) (eqb other node) some
  where
    by_test : (count : ℕ) (test : Bool) → 0 < count → 0 < cond test (suc count) count
    by_test count true less = omega arith
    by_test count false less = less

module _ (s : Setting) (a t : ℕ) (is_stage : a < suc s.last) (is_round : t < s.rounds)
    (now : Queues) (blocks : ℕ → ByPort) (words : ℕ → List Word)
    (working : IsWorking (staging s) a t now) (moved : HasMoved (staging s) a t blocks words)
    (state : StageState) (held : IsHeld s a state now) (load : Load)
    (loaded : IsLoaded s load blocks words) where
  abbrev entering : List Crossing
  entering = entering_at s.bound s.last a s.running.graph.channels

  abbrev leaving : List Crossing
  leaving = leaving_at s.bound s.last a s.running.graph.channels

  abbrev tapes : List TapeOf
  tapes = tapes_at s.bound s.last a s.running.graph.nodes

  abbrev begin : Queues
  begin = starts s a t is_stage is_round now blocks words working moved

  abbrev segment : List ℕ
  segment = (staging s).segment a

  -- ---- what the order comes to

  abbrev own_order : List ℕ → Type 0
  own_order = AreOwn s.by_source s.running.graph s.is.joins s.is.windows s.circuit
      s.is.is_circuit (own s a) (size s a)

  own_nodes : (order : List ℕ) → AllIn (own s a) order
      → ((node : ℕ) → 0 < orders.firing_count order node → node < length s.running.graph.nodes)
      → own_order order
  unfolding orders.firing_count orders.raised
  own_nodes [] all within = tt
  own_nodes (node ∷ order) (is_own, all) within = (
    within node (omega (
      arith,
      ap (λ (b : Bool). cond b (suc (orders.firing_count order node))
          (orders.firing_count order node)) (eq-eqb node node refl),
    )),
    is_own,
    own_nodes order all (λ other some. within other (raised_more order node other some)),
  )

  segment_in : (node : ℕ) → 0 < orders.firing_count segment node
      → node < length s.running.graph.nodes
  segment_in node some =
      let (back, front) = round_front s a segment [] is_stage (append-nil segment) in
      s.is.nodes node (omega (
        arith,
        some,
        (is_staging s).solved.schedule.round_counts node,
        ap (λ (l : List ℕ). orders.firing_count l node) front,
        firing_append (joined (staging s).segment a ++ segment) back node,
        firing_append (joined (staging s).segment a) segment node,
      ))

  all_own : AllIn (own s a) segment
  all_own = (is_staging s).staged.own a is_stage

  abbrev begun : MachineView
  begun = first s a t is_stage is_round now blocks words working moved state held load loaded

  abbrev go_on : List ℕ → Queues → FifoProgress (List ℤ) Cause Word
  go_on = fifo_go (meaning s) (again s)

  -- rings have room wherever the graph goes on to
  fits_lifted : (done left : List ℕ) (next : Queues) → done ++ left ≡ segment
      → go s.by_source done (lifted s.from begin) ≡ FifoWent next
      → FitOwn s.running.graph.channels (own s a) (size s a) next
  fits_lifted done left next same went =
      let (other, came, is) = lowered s.from (go_on done begin) next
      (sym (lifted_go s.from s.by_source done begin) ∙ went) in
      subst (FitOwn s.running.graph.channels (own s a) (size s a)) is
      (fits_here s a t is_stage is_round now blocks words working moved done left other same came)

  alike : IsAlikeOwn s.running.graph (own s a) (size s a) s.circuit.input
      (lifted_progress s.from (go_on segment begin)) (order_run state.circuit segment begun)
  unfolding fifo_go
  alike = subst (λ (progress : FifoProgress (List ℤ) Cause Word). IsAlikeOwn s.running.graph
      (own s a) (size s a) s.circuit.input progress (order_run state.circuit segment begun))
      (lifted_go s.from s.by_source segment begin)
      (subst (IsAlikeOwn s.running.graph (own s a) (size s a) s.circuit.input
      (go s.by_source segment (lifted s.from begin)))
      (sym (order_same s.circuit state.circuit (own s a) held.agrees segment all_own begun))
      (left_alike s.by_source s.running.graph s.is.joins s.is.windows s.circuit s.is.is_circuit
      (own s a) (size s a) segment (lifted s.from begin) fits_lifted [] segment
      (lifted s.from begin) begun
      (own_nodes segment all_own segment_in) refl refl
      (first_simulates s a t is_stage is_round now blocks words working moved state held load
      loaded)))

  module _ (next : Queues) (went : go_on segment begin ≡ FifoWent next)
      (machine : MachineView)
      (simulates : SimulatesOwn s.running.graph (own s a) (size s a) s.circuit.input
      (lifted s.from next) machine) where
    fit : FitOwn s.running.graph.channels (own s a) (size s a) (lifted s.from next)
    fit = fits_here s a t is_stage is_round now blocks words working moved segment [] next
        (append-nil segment) went

    -- ---- the stage

    left_ending : (number : ℕ) (channel : Channel)
        → slice_get s.running.graph.channels number ≡ Some channel
        → own s a channel.target.node ≡ true
        → ring_at (machine_left leaving tapes machine).rings number
        ≡ buffer (next.queues channel.target.node channel.target.port)
        (slice_index s.running.sizes number)
    left_ending number channel there target =
        let to = in_is (stage_of s) a channel.target.node target in
        ring_not_left s.bound s.last a s.running.graph.channels number channel there machine.rings
        simulates.each_ring
        (λ crossing begins. crosses_to s channel crossing
        (eqb-true (stage_of s channel.source.node) a begins ∙ sym to))
        ∙ simulates.rings number channel there (inr target)
        ∙ ap (λ (b : Bool). buffer (next.queues channel.target.node channel.target.port)
        (cond b (slice_index s.running.sizes number) (round_pushes s.running channel))) target

    left_leaving : (number : ℕ) (channel : Channel)
        → slice_get s.running.graph.channels number ≡ Some channel
        → own s a channel.source.node ≡ true → own s a channel.target.node ≡ false
        → ring_at (machine_left leaving tapes machine).rings number
        ≡ buffer [] (round_pushes s.running channel)
    left_leaving number channel there source target =
        let from = in_is (stage_of s) a channel.source.node source in
        let crossing = crosses_from s channel
        (λ same. not_own s a channel.target.node target (sym same ∙ from)) in
        ring_left s.bound s.last a s.running.graph.channels number channel there machine.rings
        simulates.each_ring crossing (eq-eqb (stage_of s channel.source.node) a from)
        ∙ ap emptied_ring (simulates.rings number channel there (inl source))
        ∙ ap (λ (b : Bool). buffer []
        (cond b (slice_index s.running.sizes number) (round_pushes s.running channel))) target

    left_held : IsHeld s a (with_machine state (Some (machine_left leaving tapes machine))) next
    left_held = record {
      agrees = held.agrees;
      order_is = held.order_is;
      entering_is = held.entering_is;
      leaving_is = held.leaving_is;
      tapes_are = held.tapes_are;
      machine = machine_left leaving tapes machine;
      machine_is = refl;
      each_fields = simulates.each_fields;
      each_fired = simulates.each_fired;
      each_ring = rings_left_length leaving machine.rings ∙ simulates.each_ring;
      each_words = words_left_length tapes machine.words ∙ simulates.each_words;
      fields = simulates.fields;
      fired = simulates.fired;
      ending = left_ending;
      leaving = left_leaving;
      words = λ node code there gives is_own.
          words_gone s.bound s.last a s.running.graph.nodes node code there gives machine.words
          simulates.each_words (in_is (stage_of s) a node is_own);
    }

    -- ---- the load

    abbrev came : Load
    came = load_entered entering load

    abbrev gone : Load
    gone = load_left leaving machine.rings came

    abbrev sent : Load
    sent = load_worded tapes machine.words gone

    shaped_came : IsShaped (rooms s) (tape_count s) came
    shaped_came = entered_shaped (rooms s) (tape_count s) entering load loaded.shaped

    shaped_gone : IsShaped (rooms s) (tape_count s) gone
    shaped_gone = left_shaped (rooms s) (tape_count s) leaving machine.rings came shaped_came

    module _ (number : ℕ) (channel : Channel)
        (there : slice_get s.running.graph.channels number ≡ Some channel)
        (crossing : crosses s.bound s.last channel ≡ true) where
      abbrev from : ℕ
      from = stage_of s channel.source.node

      abbrev to : ℕ
      to = stage_of s channel.target.node

      abbrev b : ℕ
      b = block_before s.bound s.last s.running.graph.channels number

      abbrev queue : List ℤ
      queue = next.queues channel.target.node channel.target.port

      abbrev block : List ℤ
      block = blocks channel.target.node channel.target.port

      room : (b < length (rooms s)) × (slice_index (rooms s) b ≡ round_pushes s.running channel)
      room = room_there s.bound s.last s.running s.running.graph.channels number channel there
          crossing

      -- what another stage sends doesn't change
      none_queued : (from ≡ a → ⊥) → a < to → queue ≡ []
      unfolding orders.supply_of
      none_queued other later =
          let three = step_fits (staging s) a t now next blocks words segment [] (is_staging s)
          is_stage is_round working moved (sym (append-nil segment)) went in
          let u = channel.source.node in
          let pushed : ℕ → ℕ = λ n. total ((meaning s).pushed ((again s).code u)) n
          channel.source.port in
          let e = subst (λ (origin : Origin). length queue
          + orders.supply_of (meaning s) (again s) []
          (orders.counted (counts (staging s) t) (joined (staging s).segment a)) origin
          ≡ orders.supply_of (meaning s) (again s) []
          (orders.counted (counts (staging s) t) (joined (staging s).segment a ++ segment)) origin)
          (origin_is s number channel there)
          (three.2 channel.target.node channel.target.port later (port_is s number channel there))
          in
          let away = counted_away (own s a) segment all_own u
          (not_in (stage_of s) a u other) in
          let same : orders.counted (counts (staging s) t)
          (joined (staging s).segment a ++ segment) u
          ≡ orders.counted (counts (staging s) t) (joined (staging s).segment a) u = omega (
            arith,
            counted-firing_count (joined (staging s).segment a ++ segment) (counts (staging s) t) u,
            counted-firing_count (joined (staging s).segment a) (counts (staging s) t) u,
            firing_append (joined (staging s).segment a) segment u,
            away,
          ) in
          nil_from_length queue (omega (arith, e, ap pushed same))

      block_sent : block_at sent b ≡ block_at gone b
      block_sent = block_worded tapes machine.words gone b

      here_sent : to ≡ a → block_at gone b ≡ []
      here_sent at =
          block_not_left s.bound s.last a s.running.graph.channels number channel there (rooms s)
          (tape_count s) crossing room.0 machine.rings came
          (λ begins. crosses_to s channel crossing
          (eqb-true from a begins ∙ sym at))
          ∙ block_entered s.bound s.last a s.running.graph.channels number channel there (rooms s)
          (tape_count s) crossing room.0 load loaded.shaped (eq-eqb to a at)

      came_same : (to ≡ a → ⊥) → block_at came b ≡ block
      came_same other =
          block_not_entered s.bound s.last a s.running.graph.channels number channel there (rooms s)
          (tape_count s) crossing room.0 load (λ ends. other (eqb-true to a ends))
          ∙ loaded.blocks_are number channel there crossing

      own_sent : from ≡ a → (to ≡ a → ⊥) → block_at gone b ≡ block ++ queue
      own_sent at other =
          let source = is_in (stage_of s) a channel.source.node at in
          let target = not_in (stage_of s) a channel.target.node other in
          let later = forward s number channel there in
          let none = no_block s a t blocks words moved number channel
          there (omega (arith, at)) (omega (arith, at, later)) in
          let size_is : size s a number channel ≡ round_pushes s.running channel =
          ap (λ (c : Bool). cond c (slice_index s.running.sizes number)
          (round_pushes s.running channel)) target in
          let items : (ring_at machine.rings number).items ≡ queue =
          ap (λ (r : Ring). r.items) (simulates.rings number channel there (inl source)) in
          let fits = fit.items number channel there (inl source) in
          block_left s.bound s.last a s.running.graph.channels number channel there (rooms s)
          (tape_count s) crossing room.0 machine.rings came shaped_came (eq-eqb from a at)
          ∙ ap (λ (l : List ℤ). l ++ take (slice_index_or (rooms s) b 0 - length l)
          (ring_at machine.rings number).items) (came_same other)
          ∙ ap (λ (l : List ℤ). block ++ take (slice_index_or (rooms s) b 0 - length block) l)
          items
          ∙ ap (λ (l : List ℤ). block ++ l)
          (take_all (slice_index_or (rooms s) b 0 - length block) queue
          (omega (arith, fits, size_is, room.1, ap length none)))

      other_sent : (from ≡ a → ⊥) → (to ≡ a → ⊥) → block_at gone b ≡ block
      other_sent away other =
          block_not_left s.bound s.last a s.running.graph.channels number channel there (rooms s)
          (tape_count s) crossing room.0 machine.rings came
          (λ begins. away (eqb-true from a begins))
          ∙ came_same other

      sent_later : a < to → block ++ queue
          ≡ sent_blocks (staging s) a blocks next.queues channel.target.node channel.target.port
      unfolding sent_blocks
      sent_later less = ap (λ (c : Bool). cond c (block ++ queue) []) (sym (lt-ltb a to less))

      sent_none : to ≤ a → []
          ≡ sent_blocks (staging s) a blocks next.queues channel.target.node channel.target.port
      unfolding sent_blocks
      sent_none less = ap (λ (c : Bool). cond c (block ++ queue) []) (sym (le-ltb a to less))

      sent_is : block_at sent b
          ≡ sent_blocks (staging s) a blocks next.queues channel.target.node channel.target.port
      sent_is = block_sent ∙ elim (cases_eq to a) [
        | inl at ↦ here_sent at ∙ sent_none (omega (arith, at))
        | inr other ↦ elim (cases_eq from a) [
          | inl at ↦ own_sent at other
              ∙ sent_later (omega (arith, at, other, forward s number channel there))
          | inr away ↦ elim (cases_lt a to) [
            | inl later ↦ other_sent away other
                ∙ sym (append-nil block)
                ∙ ap (λ (l : List ℤ). block ++ l) (sym (none_queued away later))
                ∙ sent_later later
            | inr past ↦ other_sent away other
                ∙ moved.spent channel.target.node channel.target.port (omega (arith, past, other))
                ∙ sent_none past
          ]
        ]
      ]

    word_sent : (node : ℕ) (code : NodeCode) → slice_get s.running.graph.nodes node ≡ Some code
        → gives_words code ≡ true → (test : Bool) → own s a node ≡ test
        → parcels.words_at sent (passed_before gives_words s.running.graph.nodes node)
        ≡ cond test (next.runs node).words (words node)
    word_sent node code there gives true e =
        tape_worded s.bound s.last a s.running.graph.nodes node code there gives (rooms s)
        (tape_count s) machine.words gone shaped_gone
        (tape_there 0 s.running.graph.nodes node code there gives) (in_is (stage_of s) a node e)
        ∙ simulates.words node code there gives e
    word_sent node code there gives false e =
        tape_not_worded s.bound s.last a s.running.graph.nodes node code there gives machine.words
        gone (not_own s a node e)
        ∙ ap (λ (l : List (List Word)). slice_index_or l
        (passed_before gives_words s.running.graph.nodes node) [])
        (words_left_entered entering leaving machine.rings load)
        ∙ loaded.words_are node code there gives

    left_loaded : IsLoaded s sent (sent_blocks (staging s) a blocks next.queues)
        (sent_words (staging s) a words next.runs)
    unfolding sent_words
    left_loaded = record {
      shaped = worded_shaped (rooms s) (tape_count s) tapes machine.words gone shaped_gone;
      blocks_are = sent_is;
      words_are = λ node code there gives. word_sent node code there gives (own s a node) refl;
    }

  -- ---- the step

  -- both went on alike, or both stopped at the same fault
  abbrev pub Alike : FifoProgress (List ℤ) Cause Word → machines.Progress → Type 0
  Alike = StepsAlike s.running s.from s.bound s.last s.circuit (staging s) a state load blocks words

  alike_by : (progress : FifoProgress (List ℤ) Cause Word) (its : machines.Progress)
      → go_on segment begin ≡ progress
      → IsAlikeOwn s.running.graph (own s a) (size s a) s.circuit.input
      (lifted_progress s.from progress) its
      → Alike progress its
  alike_by (FifoWent next) (machines.Went machine) went simulates = (
    subst (λ (l : List Crossing). IsHeld s a (with_machine state
        (Some (machine_left l state.tapes machine))) next) (sym held.leaving_is)
        (subst (λ (own : List TapeOf). IsHeld s a (with_machine state
        (Some (machine_left leaving own machine))) next) (sym held.tapes_are)
        (left_held next went machine simulates)),
    subst (λ (l : Load). IsLoaded s l (sent_blocks (staging s) a blocks next.queues)
        (sent_words (staging s) a words next.runs))
        (ap (λ (l : List TapeOf). load_worded l machine.words
        (load_left leaving machine.rings (load_entered entering load))) (sym held.tapes_are)
        ∙ ap (λ (l : List Crossing). load_worded state.tapes machine.words
        (load_left l machine.rings (load_entered entering load))) (sym held.leaving_is)
        ∙ ap (λ (l : List Crossing). load_worded state.tapes machine.words
        (load_left state.leaving machine.rings (load_entered l load))) (sym held.entering_is))
        (left_loaded next went machine simulates),
  )
  alike_by (FifoStopped stop) (machines.Stopped node firing cause) went same = same
  alike_by (FifoWent next) (machines.Stopped node firing cause) went same = absurd same
  alike_by (FifoStopped stop) (machines.Went machine) went same = absurd same

  run_is : stage_run state load held.machine ≡ order_run state.circuit segment begun
  unfolding stage_run
  run_is =
      ap (λ (order : List ℕ). order_run state.circuit order
      (machine_entered state.entering load held.machine)) held.order_is
      ∙ ap (λ (l : List Crossing). order_run state.circuit segment
      (machine_entered l load held.machine)) held.entering_is

  -- a step of a stage over rings, and that of the generic one
  pub step_alike : Alike
      (fifo_go (staging s).meaning (staging s).graph ((staging s).segment a)
      (entered (staging s) a now blocks)) (stage_run state load held.machine)
  step_alike =
      subst (Alike (go_on segment begin)) (sym run_is)
      (alike_by (go_on segment begin) (order_run state.circuit segment begun) refl alike)

pub stage_steps_alike : StageStepsAlike
stage_steps_alike running by_source from rounds bound last circuit inputs stage round now blocks
    words state load held is staging is_stage is_round working moved loaded =
    step_alike (record {
      running = running;
      by_source = by_source;
      from = from;
      rounds = rounds;
      bound = bound;
      last = last;
      circuit = circuit;
      is = is;
      inputs = inputs;
      is_staging = staging;
    }) stage round is_stage is_round now blocks words working moved state held load loaded
