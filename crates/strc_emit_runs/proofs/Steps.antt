-- A firing that leaves what it has to keeps the program where the machine over queues is.
use Rattle.std.proofs.Common.{◌≡◌, ℕ, suc, ◌+◌, ◌<◌, ◌≤◌, ℤ, pos, Bool, true, false, cond}
use Rattle.std.proofs.Common.{List, [], ◌++◌, length, drop, Option, Some, refl, sym, ap, ◌∙◌}
use Rattle.std.proofs.Common.{subst, arith}
use Rattle.std.proofs.Common.{◌==◌, eqb, ◌⊎◌, inl, inr, length-append, length-drop, get_or}
use Rattle.std.specs.Prelude.{slice_get}
use Rattle.std.proofs.lemmas.List.{append-nil, drop-drop}
use Rattle.std.proofs.lemmas.Bool.{cases_eq, eq-eqb, ne_eqb, eqb-true, eqb-false}
use Rattle.strc_work_meaning.specs.declared.fault.Cause.{Cause}
use Rattle.strc_work_meaning.specs.declared.word.Word.{Word}
use Rattle.strc_work_meaning.specs.Filters.{Filter}
use Rattle.strc_elab_dataflow.specs.Flat as flat
use Rattle.strc_elab_dataflow.specs.Histories.{Run, after_firing}
use Rattle.strc_elab_dataflow.specs.Machine.{put}
use Rattle.strc_elab_dataflow.specs.Node.{ByPort, Fired.Fires}
use Rattle.strc_elab_dataflow.specs.Queues.{fifo_after, moved, added}
use Rattle.strc_elab_graph.specs.declared.graph.Channel.{Channel}
use Rattle.strc_elab_graph.specs.Graphs.{NodeCode}
use Rattle.strc_elab_graph.specs.Graphs as graphs
use Rattle.strc_elab_graph.specs.Meaning.{node_meaning}
use Rattle.strc_elab_graph.specs.Rates.{pops_at}
use Rattle.strc_emit_c.specs.Meaning.{Field}
use Rattle.strc_emit_moves.specs.declared.places.Phase.{Phase}
use Rattle.strc_emit_moves.specs.declared.places.Phase.TheVariants as phase
use Rattle.strc_emit_moves.specs.Places.{pops_of, pushes_of}
use Rattle.strc_emit_runs.specs.Running.{Program, Running, firing_number, code_at}
use Rattle.strc_emit_runs.specs.Windows.{StandFrom}
use Rattle.strc_emit_runs.specs.Places.{moved_in}
use Rattle.strc_emit_runs.specs.Orders.{Queues, RunShows, items_begin, items_before, items_end}
use Rattle.strc_emit_runs.specs.Orders.{reader_from, fired_on}
use Rattle.strc_emit_runs.specs.Steps.{FiresTo, TakesThere, StepsShow, pops_next}
use Rattle.strc_emit_runs.proofs.Places.{moved_more}
use Rattle.strc_emit_runs.proofs.Slides.{windows_move}

-- the number of the firing after one
number_more : (program : Program) (when : Phase) (node i round : ℕ)
    → suc (firing_number program when node i round)
    ≡ firing_number program when node (i + 1) round
number_more program phase.Startup node i round = omega arith
number_more program phase.Round node i round = omega arith

module _ (graph : flat.Graph NodeCode) (program : Program) (when : Phase) (round : ℕ)
    (fired : ℕ → ℕ) (now : Queues) (running after : Running) (node : ℕ) (state : List ℤ)
    (pushes : ByPort) (printed : List Word) (shows : RunShows program when round fired now running)
    (takes : TakesThere graph program when fired now node)
    (fires : FiresTo program when node fired state pushes printed running after) where
  abbrev next_fired : ℕ → ℕ
  next_fired = fired_on fired node 1

  abbrev queue : Channel → List ℤ
  queue channel = now.queues channel.target.node channel.target.port

  -- how many items a firing of a channel's ends moves
  abbrev pops : Channel → ℕ
  pops channel = pops_next program when channel.target.node (fired node) channel.target.port

  -- how many items leave a channel, and which come
  abbrev taken : Channel → ℕ
  taken channel = cond (channel.target.node == node) (pops channel) 0

  abbrev come : Channel → List ℤ
  come channel = cond (channel.source.node == node) (pushes channel.source.port) []

  -- where a channel's items begin and end, by how often its ends have fired
  abbrev taken_by : Channel → ℕ → ℕ
  taken_by channel n = moved_in when
      (pops_of program.network.nodes.now channel.target.node 0 channel.target.port)
      (pops_of program.network.nodes.now channel.target.node 1 channel.target.port) n

  abbrev come_by : ℕ → Channel → ℕ → ℕ
  come_by number channel n = items_before program when number channel + moved_in when
      (pushes_of program.network.nodes.now channel.source.node 0 channel.source.port)
      (pushes_of program.network.nodes.now channel.source.node 1 channel.source.port) n

  begins : (channel : Channel) → items_begin program when channel next_fired
      ≡ items_begin program when channel fired + taken channel
  begins channel = by (cases_eq channel.target.node node)
    where
      by : (channel.target.node ≡ node) ⊎ (channel.target.node ≡ node → ⊥)
          → taken_by channel (next_fired channel.target.node)
          ≡ taken_by channel (fired channel.target.node) + taken channel
      by (inl is) =
          let own : (channel.target.node == node) ≡ true = eq-eqb channel.target.node node is in
          let more : fired node ≡ fired channel.target.node = ap fired (sym is) in
          ap (λ t. taken_by channel (cond t (fired node + 1) (fired channel.target.node))) own
          ∙ moved_more when
          (pops_of program.network.nodes.now channel.target.node 0 channel.target.port)
          (pops_of program.network.nodes.now channel.target.node 1 channel.target.port) (fired node)
          ∙ ap (λ n. taken_by channel n + pops channel) more
          ∙ sym (ap (λ t. taken_by channel (fired channel.target.node)
          + cond t (pops channel) 0) own)
      by (inr differ) =
          let apart : (channel.target.node == node) ≡ false =
          ne_eqb channel.target.node node differ in
          ap (λ t. taken_by channel (cond t (fired node + 1) (fired channel.target.node))) apart
          ∙ omega arith
          ∙ sym (ap (λ t. taken_by channel (fired channel.target.node)
          + cond t (pops channel) 0) apart)

  ends_by : (number : ℕ) (channel : Channel)
      → slice_get program.network.channels.now number ≡ Some channel
      → items_end program when number channel next_fired
      ≡ items_end program when number channel fired + length (come channel)
  ends_by number channel at = by (cases_eq channel.source.node node)
    where
      by : (channel.source.node ≡ node) ⊎ (channel.source.node ≡ node → ⊥)
          → come_by number channel (next_fired channel.source.node)
          ≡ come_by number channel (fired channel.source.node) + length (come channel)
      by (inl is) =
          let own : (channel.source.node == node) ≡ true = eq-eqb channel.source.node node is in
          let more : fired node ≡ fired channel.source.node = ap fired (sym is) in
          let next = moved_more when
          (pushes_of program.network.nodes.now channel.source.node 0 channel.source.port)
          (pushes_of program.network.nodes.now channel.source.node 1 channel.source.port)
          (fired node) in
          let sum : come_by number channel (fired node + 1)
          ≡ come_by number channel (fired node) + length (pushes channel.source.port) =
          omega (arith, next, fires.sizes number channel at is) in
          ap (λ t. come_by number channel (cond t (fired node + 1) (fired channel.source.node))) own
          ∙ sum
          ∙ ap (λ n. come_by number channel n + length (pushes channel.source.port)) more
          ∙ sym (ap (λ t. come_by number channel (fired channel.source.node)
          + length (cond t (pushes channel.source.port) [])) own)
      by (inr differ) =
          let apart : (channel.source.node == node) ≡ false =
          ne_eqb channel.source.node node differ in
          ap (λ t. come_by number channel (cond t (fired node + 1) (fired channel.source.node)))
          apart
          ∙ omega arith
          ∙ sym (ap (λ t. come_by number channel (fired channel.source.node)
          + length (cond t (pushes channel.source.port) [])) apart)

  taken_few : (number : ℕ) (channel : Channel)
      → slice_get program.network.channels.now number ≡ Some channel
      → taken channel ≤ length (queue channel)
  taken_few number channel at = by (channel.target.node == node) refl
    where
      by : (t : Bool) → (channel.target.node == node) ≡ t
          → cond t (pops channel) 0 ≤ length (queue channel)
      by true e = takes.enough number channel at (eqb-true channel.target.node node e)
      by false e = omega arith

  -- the queue after the firing
  queue_is : (number : ℕ) (channel : Channel)
      → slice_get program.network.channels.now number ≡ Some channel
      → moved node_meaning graph node (now.runs node).fired now.queues pushes channel.target.node
      channel.target.port ≡ drop (taken channel) (queue channel) ++ come channel
  unfolding moved added
  queue_is number channel at =
      ap (λ o. drop (cond (channel.target.node == node)
      (pops_at (graph.code node) (now.runs node).fired channel.target.port) 0) (queue channel)
      ++ added node pushes o) (takes.origins number channel at)
      ∙ ap (λ n. drop n (queue channel) ++ come channel)
      (by (channel.target.node == node) refl)
    where
      by : (t : Bool) → (channel.target.node == node) ≡ t
          → cond t (pops_at (graph.code node) (now.runs node).fired channel.target.port) 0
          ≡ cond t (pops channel) 0
      by true e = takes.pops number channel at (eqb-true channel.target.node node e)
      by false e = refl

  items_stand : (number : ℕ) (channel : Channel)
      → slice_get program.network.channels.now number ≡ Some channel
      → StandFrom number (items_begin program when channel next_fired)
      (drop (taken channel) (queue channel) ++ come channel) after.cells
  items_stand number channel at =
      subst (λ s. StandFrom number s (drop (taken channel) (queue channel) ++ come channel)
      after.cells) (sym (begins channel))
      (windows_move number (items_begin program when channel fired) (taken channel) (queue channel)
      (come channel) running.cells after.cells (taken_few number channel at)
      (shows.items number channel at)
      (λ place lt. fires.kept number channel (items_begin program when channel fired + place) at
      (omega (arith, lt, shows.ends number channel at)))
      (subst (λ s. StandFrom number s (come channel) after.cells)
      (sym (shows.ends number channel at)) (by (channel.source.node == node) refl)))
    where
      by : (t : Bool) → (channel.source.node == node) ≡ t
          → StandFrom number (items_end program when number channel fired)
          (cond t (pushes channel.source.port) []) after.cells
      by true e = fires.gives number channel at (eqb-true channel.source.node node e)
      by false e = λ place lt. absurd (omega (arith, lt))

  ends_are : (number : ℕ) (channel : Channel)
      → slice_get program.network.channels.now number ≡ Some channel
      → items_begin program when channel next_fired
      + length (drop (taken channel) (queue channel) ++ come channel)
      ≡ items_end program when number channel next_fired
  ends_are number channel at =
      omega (
        arith,
        begins channel,
        ends_by number channel at,
        shows.ends number channel at,
        taken_few number channel at,
        length-append (drop (taken channel) (queue channel))
            (come channel),
        length-drop (taken channel) (queue channel),
      )

  -- what is left of the input after the firing
  input_left : (other : ℕ) (here : reader_from 0 program.network.nodes.now ≡ Some other) (t : Bool)
      → eqb other node ≡ t
      → moved node_meaning graph node (now.runs node).fired now.queues pushes other 0
      ≡ drop (cond t (suc (now.runs node).fired) (now.runs other).fired) program.input
  unfolding moved added
  input_left other here t e =
      ap (λ o. drop (cond (eqb other node) popped 0) (now.queues other 0) ++ added node pushes o)
      (takes.input_origin other here)
      ∙ append-nil (drop (cond (eqb other node) popped 0) (now.queues other 0))
      ∙ ap (λ l. drop (cond (eqb other node) popped 0) l) (shows.input_is other here)
      ∙ by t e
    where
      popped : ℕ
      popped = pops_at (graph.code node) (now.runs node).fired 0

      rest : List ℤ
      rest = drop (now.runs other).fired program.input

      by : (t : Bool) → eqb other node ≡ t → drop (cond (eqb other node) popped 0) rest
          ≡ drop (cond t (suc (now.runs node).fired) (now.runs other).fired) program.input
      by true e =
          let same : other ≡ node = eqb-true other node e in
          let more : (now.runs other).fired + 1 ≡ suc (now.runs node).fired =
          ap (λ n. (now.runs n).fired + 1) same ∙ omega arith in
          ap (λ t. drop (cond t popped 0) rest) e
          ∙ ap (λ n. drop n rest) (takes.input_pops (here ∙ ap Some same))
          ∙ drop-drop 1 (now.runs other).fired program.input
          ∙ ap (λ n. drop n program.input) more
      by false e = ap (λ t. drop (cond t popped 0) rest) e

pub steps_show : StepsShow
unfolding fifo_after put after_firing
steps_show graph program when round fired now running after node state pushes printed shows takes
    fires =
    record {
      round_is = fires.round ∙ shows.round_is;
      items = λ number channel at.
          subst (λ l. StandFrom number (items_begin program when channel (fired_on fired node 1)) l
          after.cells) (sym (queue_is graph program when round fired now running after node state
          pushes printed shows takes fires number channel at))
          (items_stand graph program when round fired now running after node state pushes printed
          shows takes fires number channel at);
      ends = λ number channel at.
          ap (λ l. items_begin program when channel (fired_on fired node 1) + length l)
          (queue_is graph program when round fired now running after node state pushes printed shows
          takes fires number channel at)
          ∙ ends_are graph program when round fired now running after node state pushes printed
          shows takes fires number channel at;
      fields = λ other slot code at. fields_by other slot code at (eqb other node) refl;
      counts = λ other name filter at. counts_by other name filter at (eqb other node) refl;
      numbers = λ other. numbers_by other (eqb other node) refl;
      tapes = λ other. tapes_by other (eqb other node) refl;
      reads = λ other at. reads_by other at (eqb other node) refl;
      input_is = λ other at. input_by other at (eqb other node) refl;
    }
  where
    ran : Run (List ℤ) Cause Word
    ran = after_firing node_meaning (graph.code node) (now.runs node) (Fires state pushes printed)

    fields_by : (other slot : ℕ) (code : NodeCode) → code_at program other ≡ Some code → (t : Bool)
        → eqb other node ≡ t
        → slot < length (cond t ran (now.runs other)).state
        → after.cells (Field other slot)
        ≡ get_or (cond t ran (now.runs other)).state slot (pos 0)
    fields_by other slot code at true e lt =
        ap (λ n. after.cells (Field n slot)) (eqb-true other node e) ∙ fires.own slot lt
    fields_by other slot code at false e lt =
        fires.others other slot (eqb-false other node e) ∙ shows.fields other slot code at lt

    counts_by : (other : ℕ) (name : Option (List ℕ)) (filter : Filter)
        → code_at program other ≡ Some (graphs.Filter name filter) → (t : Bool)
        → eqb other node ≡ t
        → length (cond t ran (now.runs other)).state
        ≡ (program.functions other).work.function.fields
    counts_by other name filter at true e =
        let same : other ≡ node = eqb-true other node e in
        fires.count name filter (ap (code_at program) (sym same) ∙ at)
        ∙ ap (λ n. (program.functions n).work.function.fields) (sym same)
    counts_by other name filter at false e = shows.counts other name filter at

    numbers_by : (other : ℕ) (t : Bool) → eqb other node ≡ t
        → (cond t ran (now.runs other)).fired
        ≡ firing_number program when other (cond t (fired node + 1) (fired other)) round
    numbers_by other true e =
        let same : other ≡ node = eqb-true other node e in
        ap suc (shows.numbers node)
        ∙ number_more program when node (fired node) round
        ∙ ap (λ n. firing_number program when n (fired node + 1) round) (sym same)
    numbers_by other false e = shows.numbers other

    tapes_by : (other : ℕ) (t : Bool) → eqb other node ≡ t
        → after.tapes other ≡ (cond t ran (now.runs other)).words
    tapes_by other true e =
        ap after.tapes (eqb-true other node e) ∙ fires.tape
        ∙ ap (λ l. l ++ printed) (shows.tapes node)
    tapes_by other false e = fires.tapes other (eqb-false other node e) ∙ shows.tapes other

    reads_by : (other : ℕ) → reader_from 0 program.network.nodes.now ≡ Some other → (t : Bool)
        → eqb other node ≡ t → after.taken ≡ (cond t ran (now.runs other)).fired
    reads_by other at true e =
        let same : other ≡ node = eqb-true other node e in
        let here : reader_from 0 program.network.nodes.now ≡ Some node = at ∙ ap Some same in
        fires.reads here ∙ omega (arith, shows.reads node here)
    reads_by other at false e =
        fires.reads_none other at (eqb-false other node e) ∙ shows.reads other at

    input_by : (other : ℕ) → reader_from 0 program.network.nodes.now ≡ Some other → (t : Bool)
        → eqb other node ≡ t
        → moved node_meaning graph node (now.runs node).fired now.queues pushes other 0
        ≡ drop (cond t ran (now.runs other)).fired program.input
    input_by other at true e =
        input_left graph program when round fired now running after node state pushes printed shows
        takes fires other at true e
    input_by other at false e =
        input_left graph program when round fired now running after node state pushes printed shows
        takes fires other at false e
