-- A stage that holds the equations' state of a round, and a load that holds what has moved: rings
-- have room along the stage's order, and before it the machine is as the one over queues.
use Rattle.std.proofs.Common.{◌≡◌, refl, sym, ap, ◌∙◌, subst, ℕ, zero, suc, ◌+◌, ◌<◌, ◌≤◌, ℤ}
use Rattle.std.proofs.Common.{Bool, true, false, cond, List, [], ◌++◌, length, drop, Some}
use Rattle.std.proofs.Common.{slice_get, slice_index, inl, inr, arith}
use Rattle.std.proofs.Common.{true≢false, append-nil, eqb-true}
use Rattle.std.specs.Prelude.{not}
use Rattle.std.proofs.lemmas.Bool.{eq-eqb, ne_eqb}
use Rattle.std.proofs.lemmas.List.{append_cancel_left, drop-drop}
use Rattle.circular_buffer.specs.Buffer.{buffer}
use Rattle.strc_work_meaning.specs.declared.fault.Cause.{Cause}
use Rattle.strc_work_meaning.specs.declared.word.Word.{Word}
use Rattle.strc_elab_dataflow.specs.Flat.{Origin, arrived, items_of}
use Rattle.strc_elab_dataflow.specs.Histories.{Run}
use Rattle.strc_elab_dataflow.specs.Node.{ByPort, total}
use Rattle.strc_elab_dataflow.specs.Order as orders
use Rattle.strc_elab_dataflow.specs.Queues.{FifoProgress.FifoWent, fifo_go}
use Rattle.strc_elab_graph.specs.Graphs.{NodeCode, FileReader, Channel}
use Rattle.strc_elab_graph.specs.Meaning.{node_meaning}
use Rattle.strc_elab_graph.specs.Rates.{pops_at}
use Rattle.strc_elab_graph.specs.Tapes.{tape_nodes}
use Rattle.strc_stage_core.specs.Parcels.{Load}
use Rattle.strc_sched_laws.specs.Fits.{Queues}
use Rattle.strc_sched_laws.specs.Machine.{MachineView}
use Rattle.strc_sched_laws.specs.Rings.{ring_at, extended}
use Rattle.strc_sched_laws.proofs.Changes.{extended_all, extended_none}
use Rattle.strc_elab_dataflow.specs.Restart.{restarted_meaning, restarted, taken_in}
use Rattle.strc_elab_dataflow.specs.Staging.{joined, in_stage, counts, after}
use Rattle.strc_elab_dataflow.specs.Stages.{quiet, entered}
use Rattle.strc_elab_dataflow.specs.Parcels.{begun_at, HasMoved, IsWorking}
use Rattle.strc_elab_dataflow.proofs.Begun.{begun_late}
use Rattle.strc_elab_dataflow.proofs.Cut.{cut_out}
use Rattle.strc_elab_dataflow.proofs.Fits.{step_fits}
use Rattle.strc_elab_dataflow.proofs.Segments.{in_is, is_in, not_before, joined_count}
use Rattle.strc_elab_dataflow.specs.Staging.{before}
use Rattle.strc_elab_dataflow.proofs.WholeRun.{counted-firing_count}
use Rattle.strc_stage_steps.specs.Steps.{StageState, machine_entered}
use Rattle.strc_stage_steps.specs.Beginnings.{crosses, entering_at}
use Rattle.strc_stage_steps.specs.Beginnings.{rooms_of}
use Rattle.strc_stage_steps.specs.Runnings.{round_pushes}
use Rattle.strc_stage_steps.specs.Holding as holding
use Rattle.strc_stage_steps.proofs.Lifting.{lifted}
use Rattle.strc_stage_steps.proofs.OwnSteps.{Touches, SimulatesOwn, FitOwn}
use Rattle.strc_stage_steps.proofs.Passing.{ring_entered}
use Rattle.strc_stage_steps.proofs.Passing.{ring_not_entered, rings_entered_length}
use Rattle.strc_stage_steps.proofs.Setting.{Setting, meaning, again, staging, stage_of, own}
use Rattle.strc_stage_steps.proofs.Setting.{is_staging}
use Rattle.strc_stage_steps.proofs.Setting.{round_of, reached_fires, fill_fits, port_is}
use Rattle.strc_stage_steps.proofs.Setting.{forward, pushed_fits, arrived_by}

-- how many items the ring of a channel has room for
abbrev pub size : Setting → ℕ → ℕ → Channel → ℕ
size s a number channel = cond (own s a channel.target.node)
    (slice_index s.running.sizes number) (round_pushes s.running channel)

-- a stage before a step, as the generic one
abbrev pub IsHeld : Setting → ℕ → StageState → Queues → Type 0
IsHeld s = holding.IsHeld s.running s.from s.bound s.last s.circuit

abbrev pub rooms : Setting → List ℕ
rooms s = rooms_of (crosses s.bound s.last) s.running s.running.graph.channels

abbrev pub tape_count : Setting → ℕ
tape_count s = length (tape_nodes s.running.graph.nodes)

-- a load has these blocks and words, by node
abbrev pub IsLoaded : Setting → Load → (blocks : ℕ → ByPort) → (words : ℕ → List Word) → Type 0
IsLoaded s = holding.IsLoaded s.running s.bound s.last

module _ (s : Setting) where
  -- channels and stages
  pub crosses_from : (channel : Channel)
      → (stage_of s channel.source.node ≡ stage_of s channel.target.node → ⊥)
      → crosses s.bound s.last channel ≡ true
  crosses_from channel differ =
      ap not (ne_eqb (stage_of s channel.source.node) (stage_of s channel.target.node) differ)

  pub crosses_to : (channel : Channel) → crosses s.bound s.last channel ≡ true
      → stage_of s channel.source.node ≡ stage_of s channel.target.node → ⊥
  crosses_to channel e same =
      true≢false (sym e ∙ ap not
      (eq-eqb (stage_of s channel.source.node) (stage_of s channel.target.node) same))

  pub not_own : (a v : ℕ) → own s a v ≡ false → stage_of s v ≡ a → ⊥
  not_own a v e same = true≢false (sym (is_in (stage_of s) a v same) ∙ e)

  -- a node of a stage isn't in the segments before it
  pub joined_away : (a v : ℕ) → a ≤ suc s.last → a ≤ stage_of s v
      → orders.firing_count (joined (staging s).segment a) v ≡ 0
  joined_away a v less past =
      joined_count (staging s).graph (stage_of s) (staging s).segment (staging s).stages
      (staging s).round_order (is_staging s).staged (round_of s)
      (is_staging s).solved.schedule.round_counts a less v
      ∙ cut_out (before (stage_of s) a) (round_of s) v (not_before (stage_of s) a v past)

  -- ---- blocks

  module _ (a t : ℕ) (blocks : ℕ → ByPort) (words : ℕ → List Word)
      (moved : HasMoved (staging s) a t blocks words) where
    -- nothing has come by a channel of which no earlier stage is the source
    pub no_block : (number : ℕ) (channel : Channel)
        → slice_get s.running.graph.channels number ≡ Some channel
        → a ≤ stage_of s channel.source.node → a ≤ stage_of s channel.target.node
        → blocks channel.target.node channel.target.port ≡ []
    no_block number channel there late later =
        let before = begun_at (staging s) a t in
        let all = after (staging s) t in
        let block = blocks channel.target.node channel.target.port in
        let e = moved.blocks_are channel.target.node channel.target.port later
        (port_is s number channel there) in
        let same : arrived [] before
        ((again s).source channel.target.node channel.target.port)
        ≡ arrived [] all
        ((again s).source channel.target.node channel.target.port) =
        arrived_by s before number channel there
        ∙ ap (λ (r : Run (List ℤ) Cause Word).
        ((again s).source channel.target.node channel.target.port).enqueued
        ++ r.pushes channel.source.port)
        (begun_late (staging s) a t channel.source.node
        (not_before (stage_of s) a channel.source.node late))
        ∙ sym (arrived_by s all number channel there) in
        sym (append_cancel_left
        (arrived [] all ((again s).source channel.target.node channel.target.port)) []
        block (append-nil
        (arrived [] all ((again s).source channel.target.node channel.target.port))
        ∙ sym same ∙ e))

  module _ (a t : ℕ) (is_stage : a < suc s.last) (is_round : t < s.rounds) (now : Queues)
      (blocks : ℕ → ByPort) (words : ℕ → List Word) (working : IsWorking (staging s) a t now)
      (moved : HasMoved (staging s) a t blocks words) where
    abbrev pub starts : Queues
    starts = entered (staging s) a now blocks

    -- ---- room

    module _ (done left : List ℕ) (next : Queues) (same : done ++ left ≡ (staging s).segment a)
        (went : fifo_go (meaning s) (again s) done starts ≡ FifoWent next) where
      pub fits_here : FitOwn s.running.graph.channels (own s a) (size s a) (lifted s.from next)
      fits_here =
          let three = step_fits (staging s) a t now next blocks words done left (is_staging s)
          is_stage is_round working moved (sym same) went in
          record {
            items = λ number channel there touches.
                by_target three.1 three.2 number channel there touches
                (own s a channel.target.node) refl;
            firings = λ node is_own.
                let e = three.0 node is_own in
                let less = reached_fires s a t is_stage is_round done left same node is_own in
                omega (arith, e, less);
          }
        where
          by_target : ((node port : ℕ) → in_stage (stage_of s) a node ≡ true
              → port < (meaning s).ports ((again s).code node)
              → length (next.queues node port) ≡ orders.fill (meaning s) (again s) []
              (orders.counted (counts (staging s) t) (joined (staging s).segment a ++ done))
              node port)
              → ((node port : ℕ) → a < stage_of s node
              → port < (meaning s).ports ((again s).code node)
              → length (next.queues node port)
              + orders.supply_of (meaning s) (again s) []
              (orders.counted (counts (staging s) t) (joined (staging s).segment a))
              ((again s).source node port).origin
              ≡ orders.supply_of (meaning s) (again s) []
              (orders.counted (counts (staging s) t) (joined (staging s).segment a ++ done))
              ((again s).source node port).origin)
              → (number : ℕ) (channel : Channel)
              → slice_get s.running.graph.channels number ≡ Some channel → Touches (own s a) channel
              → (test : Bool) → own s a channel.target.node ≡ test
              → length (next.queues channel.target.node channel.target.port)
              ≤ cond test (slice_index s.running.sizes number)
              (round_pushes s.running channel)
          by_target fills sends number channel there touches true e =
              let filled = fills channel.target.node channel.target.port e
              (port_is s number channel there) in
              let fits = fill_fits s a t is_stage is_round done left same number channel there in
              omega (arith, filled, fits)
          by_target fills sends number channel there (inr target) false e =
              absurd (true≢false (sym target ∙ e))
          by_target fills sends number channel there (inl source) false e =
              let from = in_is (stage_of s) a channel.source.node source in
              let past : a < stage_of s channel.target.node =
              omega (
                arith,
                from,
                forward s number channel there,
                not_own a channel.target.node e,
              ) in
              pushed_fits s number channel there a t is_stage from done left same
              (length (next.queues channel.target.node channel.target.port))
              (sends channel.target.node channel.target.port past
              (port_is s number channel there))

    -- ---- before the order

    fits_first : FitOwn s.running.graph.channels (own s a) (size s a) (lifted s.from starts)
    unfolding fifo_go
    fits_first = fits_here [] ((staging s).segment a) starts refl refl

    entered_in : (v port : ℕ) → own s a v ≡ true
        → starts.queues v port ≡ now.queues v port ++ blocks v port
    unfolding entered
    entered_in v port is_own =
        ap (λ (b : Bool). cond b (now.queues v port ++ blocks v port) []) is_own

    entered_out : (v port : ℕ) → own s a v ≡ false → starts.queues v port ≡ []
    unfolding entered
    entered_out v port other =
        ap (λ (b : Bool). cond b (now.queues v port ++ blocks v port) []) other

    fired_is : (v : ℕ) → own s a v ≡ true → (now.runs v).fired ≡ counts (staging s) t v
    unfolding fifo_go entered quiet
    fired_is v is_own =
        let three = step_fits (staging s) a t now starts blocks words [] ((staging s).segment a)
        (is_staging s) is_stage is_round working moved refl refl in
        three.0 v is_own
        ∙ counted-firing_count (joined (staging s).segment a ++ []) (counts (staging s) t) v
        ∙ ap (λ (l : List ℕ). counts (staging s) t v + orders.firing_count l v)
        (append-nil (joined (staging s).segment a))
        ∙ ap (λ (n : ℕ). counts (staging s) t v + n)
        (joined_away a v (omega (arith, is_stage))
        (omega (arith, in_is (stage_of s) a v is_own)))
        ∙ (let e : counts (staging s) t v + 0 ≡ counts (staging s) t v = omega arith in e)

    -- nothing comes to a reader any more
    input_arrives : (runs : ℕ → Run (List ℤ) Cause Word) (node : ℕ) (text : List ℕ)
        → slice_get s.running.graph.nodes node ≡ Some (FileReader text)
        → arrived [] runs ((again s).source node 0) ≡ s.from.queues node 0
    unfolding arrived items_of restarted taken_in
    input_arrives runs node text there =
        ap (λ (origin : Origin). s.from.queues node 0 ++ items_of [] runs (taken_in origin))
        (s.is.joins.inputs node text there)
        ∙ append-nil (s.from.queues node 0)

    reader_takes : (node : ℕ) (text : List ℕ)
        → slice_get s.running.graph.nodes node ≡ Some (FileReader text) → (n : ℕ)
        → total ((meaning s).popped ((again s).code node)) n 0 ≡ n
    unfolding total restarted_meaning restarted
    reader_takes node text there zero = refl
    reader_takes node text there (suc n) = omega (
      arith,
      reader_takes node text there n,
      ap (λ (c : NodeCode). pops_at c ((s.from.runs node).fired + n) 0)
          (s.is.joins.codes node (FileReader text) there),
    )

    reader_port : (node : ℕ) (text : List ℕ)
        → slice_get s.running.graph.nodes node ≡ Some (FileReader text)
        → 0 < (meaning s).ports ((again s).code node)
    unfolding restarted_meaning restarted
    reader_port node text there =
        subst (λ (c : NodeCode). 0 < node_meaning.ports c)
        (sym (s.is.joins.codes node (FileReader text) there)) (omega arith)

    input_left : (node : ℕ) (text : List ℕ)
        → slice_get s.running.graph.nodes node ≡ Some (FileReader text) → own s a node ≡ true
        → starts.queues node 0
        ≡ drop ((s.from.runs node).fired + (now.runs node).fired) s.circuit.input
    input_left node text there is_own =
        let waiting = s.from.queues node 0 in
        let port = reader_port node text there in
        let at = in_is (stage_of s) a node is_own in
        let e = moved.blocks_are node 0 (omega (arith, at)) port in
        let none : blocks node 0 ≡ [] = sym (append_cancel_left waiting [] (blocks node 0)
        (append-nil waiting
        ∙ sym (input_arrives (begun_at (staging s) a t) node text there)
        ∙ e
        ∙ ap (λ (l : List ℤ). l ++ blocks node 0)
        (input_arrives (after (staging s) t) node text there))) in
        entered_in node 0 is_own
        ∙ ap (λ (l : List ℤ). now.queues node 0 ++ l) none
        ∙ append-nil (now.queues node 0)
        ∙ working.queues_are node 0 is_own port
        ∙ ap (drop (total ((meaning s).popped ((again s).code node)) (counts (staging s) t node) 0))
        (input_arrives (after (staging s) t) node text there)
        ∙ ap (λ (n : ℕ). drop n waiting) (reader_takes node text there (counts (staging s) t node))
        ∙ ap (λ (n : ℕ). drop n waiting) (sym (fired_is node is_own))
        ∙ ap (drop (now.runs node).fired) (s.is.reads node text there)
        ∙ drop-drop (now.runs node).fired (s.from.runs node).fired s.circuit.input

    module _ (state : StageState) (held : IsHeld s a state now) (load : Load)
        (loaded : IsLoaded s load blocks words) where
      abbrev machine : MachineView
      machine = held.machine

      abbrev pub first : MachineView
      first = machine_entered (entering_at s.bound s.last a s.running.graph.channels) load machine

      ring_comes : (number : ℕ) (channel : Channel)
          → slice_get s.running.graph.channels number ≡ Some channel
          → own s a channel.target.node ≡ true
          → (test : Bool) → own s a channel.source.node ≡ test
          → ring_at first.rings number
          ≡ extended (blocks channel.target.node channel.target.port)
          (ring_at machine.rings number)
      ring_comes number channel there target true e =
          let from = in_is (stage_of s) a channel.source.node e in
          let to = in_is (stage_of s) a channel.target.node target in
          ring_not_entered s.bound s.last a s.running.graph.channels number channel there
          machine.rings held.each_ring load
          (λ crossing ends. crosses_to channel crossing (from ∙ sym to))
          ∙ sym (extended_none (ring_at machine.rings number))
          ∙ ap (λ (l : List ℤ). extended l (ring_at machine.rings number))
          (sym (no_block a t blocks words moved number channel there (omega (arith, from))
          (omega (arith, to))))
      ring_comes number channel there target false e =
          let to = in_is (stage_of s) a channel.target.node target in
          let crossing = crosses_from channel
          (λ same. not_own a channel.source.node e (same ∙ to)) in
          ring_entered s.bound s.last a s.running.graph.channels number channel there
          machine.rings held.each_ring load crossing
          (eq-eqb (stage_of s channel.target.node) a to)
          ∙ ap (λ (l : List ℤ). extended l (ring_at machine.rings number))
          (loaded.blocks_are number channel there crossing)

      ring_first : (number : ℕ) (channel : Channel)
          → slice_get s.running.graph.channels number ≡ Some channel → Touches (own s a) channel
          → (test : Bool) → own s a channel.target.node ≡ test
          → ring_at first.rings number
          ≡ buffer (starts.queues channel.target.node channel.target.port)
          (size s a number channel)
      ring_first number channel there touches true e =
          let v = channel.target.node in
          let port = channel.target.port in
          let room = slice_index s.running.sizes number in
          let size_is : size s a number channel ≡ room = ap (λ (b : Bool). cond b room
          (round_pushes s.running channel)) e in
          let items = entered_in v port e in
          let fits = fits_first.items number channel there touches in
          ring_comes number channel there e (own s a channel.source.node) refl
          ∙ ap (extended (blocks v port)) (held.ending number channel there e)
          ∙ extended_all (blocks v port) (buffer (now.queues v port) room)
          (subst (λ (n : ℕ). length (now.queues v port ++ blocks v port) ≤ n) size_is
          (subst (λ (l : List ℤ). length l ≤ size s a number channel) items fits))
          ∙ ap (λ (l : List ℤ). buffer l room) (sym items)
          ∙ ap (buffer (starts.queues v port)) (sym size_is)
      ring_first number channel there (inr target) false e = absurd (true≢false (sym target ∙ e))
      ring_first number channel there (inl source) false e =
          ring_not_entered s.bound s.last a s.running.graph.channels number channel there
          machine.rings held.each_ring load
          (λ crossing ends. not_own a channel.target.node e
          (eqb-true (stage_of s channel.target.node) a ends))
          ∙ held.leaving number channel there source e
          ∙ ap (λ (l : List ℤ). buffer l (round_pushes s.running channel))
          (sym (entered_out channel.target.node channel.target.port e))
          ∙ ap (λ (b : Bool). buffer (starts.queues channel.target.node channel.target.port)
          (cond b (slice_index s.running.sizes number) (round_pushes s.running channel)))
          (sym e)

      -- the machine is as the one over queues
      pub first_simulates : SimulatesOwn s.running.graph (own s a) (size s a) s.circuit.input
          (lifted s.from starts) first
      unfolding entered quiet
      first_simulates = record {
        each_fields = held.each_fields;
        each_fired = held.each_fired;
        each_ring = rings_entered_length load
            (entering_at s.bound s.last a s.running.graph.channels) machine.rings ∙ held.each_ring;
        each_words = held.each_words;
        fields = held.fields;
        fired = held.fired;
        rings = λ number channel there touches.
            ring_first number channel there touches (own s a channel.target.node) refl;
        reads = input_left;
        words = held.words;
      }
