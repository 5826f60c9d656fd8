-- The calls of a round, and the slides after them, go as its order of firings, and so do those of
-- start-up.
use Rattle.std.proofs.Common.{◌≡◌, ℕ, zero, suc, ◌+◌, ◌*◌, ◌<◌, ◌≤◌, ℤ, Bool, true, false, cond}
use Rattle.std.proofs.Common.{List, length, Some, Result, Ok, Err, refl, sym}
use Rattle.std.proofs.Common.{ap, ◌∙◌, subst, arith, ◌==◌, ◌||◌, ◌⊎◌, inl, inr, true≢false}
use Rattle.std.specs.Prelude.{slice_get, slice_index, Option}
use Rattle.std.specs.Option.{option_map_or}
use Rattle.std.proofs.lemmas.Bool.{cases_eq, or_cases, eqb-true}
use Rattle.std.proofs.lemmas.Option.{slice_get_within}
use Rattle.strc_lex_names.specs.Results.{result_and_then}
use Rattle.strc_work_meaning.specs.declared.fault.Cause.{Cause}
use Rattle.strc_work_meaning.specs.declared.word.Word.{Word}
use Rattle.strc_elab_dataflow.specs.Queues.{FifoProgress, FifoProgress.FifoWent, fifo_go}
use Rattle.strc_elab_dataflow.specs.Queues.{FifoProgress.FifoStopped}
use Rattle.strc_elab_dataflow.specs.Flat as flat
use Rattle.strc_elab_graph.specs.declared.graph.Channel.{Channel}
use Rattle.strc_elab_graph.specs.declared.graph.Port.{Port}
use Rattle.strc_elab_graph.specs.Graphs.{NodeCode}
use Rattle.strc_elab_graph.specs.Meaning.{node_meaning}
use Rattle.strc_emit_c.specs.Meaning.{Cell, Field, Item}
use Rattle.strc_emit_moves.specs.declared.places.Phase.{Phase}
use Rattle.strc_emit_moves.specs.declared.places.Phase.TheVariants as phase
use Rattle.strc_emit_moves.specs.Places.{pops_of, pushes_of}
use Rattle.strc_emit_moves.specs.Rooms.{moved, first_port}
use Rattle.strc_emit_runs.specs.Running.{Program, Running, Halt, FaultsIn, NoMeaning, NodeCall}
use Rattle.strc_emit_runs.specs.Running.{slide_done, slide_if, slides_done, calls_done}
use Rattle.strc_emit_runs.specs.Running.{slid_cell, gone_in, rooms_in, order_done, firing_number}
use Rattle.strc_emit_runs.specs.Windows.{StandFrom}
use Rattle.strc_emit_runs.specs.Orders.{Queues, Goes, RunShows, FiringsGo, AreCallsOf, FindsAlong}
use Rattle.strc_emit_runs.specs.Orders.{fired_after, IsBetween, items_begin, items_end}
use Rattle.strc_emit_runs.specs.Rounds.{AreRound, FiringsMakeRounds, AreStartup}
use Rattle.strc_emit_runs.specs.Rounds.{FiringsMakeStartup}
use Rattle.strc_emit_runs.proofs.Slides.{slid_kept, slide_is, slid_items}
use Rattle.strc_emit_runs.proofs.Orders.{calls_go}

-- a last step of C, which always succeeds
goes_after : (Shown Next : Queues → Running → Type 0) (p : FifoProgress (List ℤ) Cause Word)
    (r : Result Running Halt) (g : Running → Result Running Halt) → Goes Shown p r
    → ((now : Queues) (running : Running) → Shown now running
    → (after : Running) × (g running ≡ Ok after) × Next now after)
    → Goes Next p (result_and_then r g)
goes_after Shown Next (FifoWent now) (Ok running) g h next =
    let last = next now running h in
    subst (λ r. Goes Next (FifoWent now) r) (sym last.1) last.2
goes_after Shown Next (FifoWent now) (Err why) g h next = absurd h
goes_after Shown Next (FifoStopped stop) (Ok running) g h next = absurd h
goes_after Shown Next (FifoStopped stop) (Err (FaultsIn node firing cause)) g h next = h
goes_after Shown Next (FifoStopped stop) (Err NoMeaning) g h next = absurd h

channels_apart : (number other place there : ℕ) → (other ≡ number → ⊥)
    → Item other there ≡ Item number place → ⊥
channels_apart number other place there differ e = differ (ap channel_of e)
  where
    channel_of : Cell → ℕ
    channel_of (Item channel place) = channel
    channel_of _ = 0

fields_apart : (node slot number place : ℕ) → Field node slot ≡ Item number place → ⊥
fields_apart node slot number place e = true≢false (ap is_field e)
  where
    is_field : Cell → Bool
    is_field (Field node slot) = true
    is_field _ = false

-- what leaves each channel in a phase, and what is left there
record AreLeft (program : Program) (when : Phase) (fired : ℕ → ℕ) : Type 0 where
  gone : (number : ℕ) (channel : Channel)
      → slice_get program.network.channels.now number ≡ Some channel
      → items_begin program when channel fired ≡ gone_in program when number
  rest : (number : ℕ) (channel : Channel)
      → slice_get program.network.channels.now number ≡ Some channel
      → gone_in program when number + slice_index program.network.left.now number
      ≡ items_end program when number channel fired
  room : (number : ℕ) → number < length program.network.channels.now
      → gone_in program when number + slice_index program.network.left.now number
      ≤ rooms_in program number

module _ (program : Program) (when : Phase) (fired : ℕ → ℕ) (is : AreLeft program when fired)
    (now : Queues) (round : ℕ) (running : Running)
    (shows : RunShows program when round fired now running) where
  abbrev queue : Channel → List ℤ
  queue channel = now.queues channel.target.node channel.target.port

  abbrev gone : ℕ → ℕ
  gone number = gone_in program when number

  abbrev left : ℕ → ℕ
  left number = slice_index program.network.left.now number

  lengths : (number : ℕ) (channel : Channel)
      → slice_get program.network.channels.now number ≡ Some channel
      → length (queue channel) ≡ left number
  lengths number channel at =
      omega (
        arith,
        shows.ends number channel at,
        is.gone number channel at,
        is.rest number channel at,
      )

  -- once the channels below one have slid
  record Slid (count : ℕ) (after : Running) : Type 0 where
    slid : (number : ℕ) (channel : Channel) → number < count
        → slice_get program.network.channels.now number ≡ Some channel
        → StandFrom number 0 (queue channel) after.cells
    rest : (number : ℕ) (channel : Channel) → count ≤ number
        → slice_get program.network.channels.now number ≡ Some channel
        → StandFrom number (gone number) (queue channel) after.cells
    fields : (node slot : ℕ) → after.cells (Field node slot) ≡ running.cells (Field node slot)
    tapes : (node : ℕ) → after.tapes node ≡ running.tapes node
    taken : after.taken ≡ running.taken

  slid_none : Slid 0 running
  slid_none = record {
    slid = λ number channel lt at. absurd (omega (arith, lt));
    rest = λ number channel le at. subst (λ s. StandFrom number s (queue channel) running.cells)
        (is.gone number channel at) (shows.items number channel at);
    fields = λ node slot. refl;
    tapes = λ node. refl;
    taken = refl;
  }

  -- a channel that stays
  stays : (number : ℕ) (after : Running) → Slid number after
      → ((channel : Channel) → slice_get program.network.channels.now number ≡ Some channel
      → StandFrom number 0 (queue channel) after.cells)
      → Slid (suc number) after
  stays number after done here = record {
    slid = λ other channel lt at. by other channel lt at (cases_eq other number);
    rest = λ other channel le at. done.rest other channel (omega (arith, le)) at;
    fields = done.fields;
    tapes = done.tapes;
    taken = done.taken;
  }
    where
      by : (other : ℕ) (channel : Channel) → other < suc number
          → slice_get program.network.channels.now other ≡ Some channel
          → (other ≡ number) ⊎ (other ≡ number → ⊥)
          → StandFrom other 0 (queue channel) after.cells
      by other channel lt at (inl same) =
          subst (λ n. StandFrom n 0 (queue channel) after.cells) (sym same)
          (here channel (ap (slice_get program.network.channels.now) (sym same) ∙ at))
      by other channel lt at (inr differ) =
          done.slid other channel (omega (arith, lt, differ)) at

  unmoved : (number : ℕ) (after : Running) → Slid number after → (channel : Channel)
      → slice_get program.network.channels.now number ≡ Some channel
      → (gone number ≡ 0) ⊎ (left number ≡ 0) → StandFrom number 0 (queue channel) after.cells
  unmoved number after done channel at (inl none) =
      subst (λ s. StandFrom number s (queue channel) after.cells) none
      (done.rest number channel (omega arith) at)
  unmoved number after done channel at (inr none) =
      λ place lt. absurd (omega (arith, lt, lengths number channel at, none))

  -- one that slides
  slides : (number : ℕ) (after : Running) → Slid number after
      → Slid (suc number)
      (record after { cells = slid_cell number (gone number) (left number) after.cells })
  slides number after done = record {
    slid = λ other one lt there. by other one lt there (cases_eq other number);
    rest = λ other one le there place lt.
        slid_kept number (gone number) (left number) after.cells
        (Item other (gone other + place))
        (λ k less. channels_apart number other k (gone other + place)
        (λ e. omega (arith, e, le)))
        ∙ done.rest other one (omega (arith, le)) there place lt;
    fields = λ node slot.
        slid_kept number (gone number) (left number) after.cells (Field node slot)
        (λ k less. fields_apart node slot number k) ∙ done.fields node slot;
    tapes = done.tapes;
    taken = done.taken;
  }
    where
      by : (other : ℕ) (one : Channel) → other < suc number
          → slice_get program.network.channels.now other ≡ Some one
          → (other ≡ number) ⊎ (other ≡ number → ⊥)
          → StandFrom other 0 (queue one)
          (slid_cell number (gone number) (left number) after.cells)
      by other one lt there (inl same) =
          let here : slice_get program.network.channels.now number ≡ Some one =
          ap (slice_get program.network.channels.now) (sym same) ∙ there in
          subst (λ n. StandFrom n 0 (queue one)
          (slid_cell number (gone number) (left number) after.cells)) (sym same)
          (subst (λ l. StandFrom number 0 (queue one)
          (slid_cell number (gone number) l after.cells)) (lengths number one here)
          (slid_items number (gone number) (queue one) after.cells
          (done.rest number one (omega arith) here)))
      by other one lt there (inr differ) = λ place less.
          slid_kept number (gone number) (left number) after.cells (Item other (0 + place))
          (λ k fits. channels_apart number other k (0 + place) differ)
          ∙ done.slid other one (omega (arith, lt, differ)) there place less

  slide_one : (number : ℕ) (after : Running) → number < length program.network.channels.now
      → Slid number after → (t : Bool)
      → (gone number == 0 || left number == 0) ≡ t
      → (last : Running)
      × (cond t (Ok after) (slide_done program number (gone number) (left number) after) ≡ Ok last)
      × Slid (suc number) last
  slide_one number after there done true e = (
    after,
    refl,
    stays number after done (λ one there.
        unmoved number after done one there
        (none (or_cases (gone number == 0) (left number == 0) e))),
  )
    where
      none : ((gone number == 0) ≡ true) ⊎ ((left number == 0) ≡ true)
          → (gone number ≡ 0) ⊎ (left number ≡ 0)
      none (inl is) = inl (eqb-true (gone number) 0 is)
      none (inr is) = inr (eqb-true (left number) 0 is)
  slide_one number after there done false e = (
    record after { cells = slid_cell number (gone number) (left number) after.cells },
    slide_is program number (gone number) (left number) after (is.room number there),
    slides number after done,
  )

  slide_all : (count : ℕ) → count ≤ length program.network.channels.now
      → (last : Running) × (slides_done program when count running ≡ Ok last)
      × Slid count last
  slide_all zero within = (running, refl, slid_none)
  slide_all (suc number) within =
      let before = slide_all number (omega (arith, within)) in
      let last = slide_one number before.0 (omega (arith, within)) before.2
      (gone number == 0 || left number == 0) refl in (
        last.0,
        ap (λ r. result_and_then r (slide_if program number (gone number) (left number))) before.1
            ∙ last.1,
        last.2,
      )

  -- all channels slid: the next round can begin
  all_slid : (later : ℕ) → ((node : ℕ) → (now.runs node).fired
      ≡ firing_number program phase.Round node 0 later)
      → (last : Running) → Slid (length program.network.channels.now) last
      → RunShows program phase.Round later (λ node. 0) now (record last { round = later })
  all_slid later numbers last done = record {
    round_is = refl;
    items = λ number channel at.
        let start : items_begin program phase.Round channel (λ node. 0) ≡ 0 = omega arith in
        subst (λ s. StandFrom number s (queue channel) last.cells) (sym start)
        (done.slid number channel
        (slice_get_within program.network.channels.now number channel at) at);
    ends = λ number channel at. omega (arith, lengths number channel at);
    fields = λ node slot code at lt. done.fields node slot ∙ shows.fields node slot code at lt;
    counts = shows.counts;
    numbers = numbers;
    tapes = λ node. done.tapes node ∙ shows.tapes node;
    reads = λ node at. done.taken ∙ shows.reads node at;
    input_is = shows.input_is;
  }

-- a phase's calls, and the slides after them
module _ (graph : flat.Graph NodeCode) (program : Program) (when : Phase) (most : ℕ → ℕ)
    (calls : List NodeCall) (order : List ℕ) (now : Queues) (running : Running) (round : ℕ)
    (steps : FiringsGo graph program when most)
    (are : AreCallsOf program when most (λ node. 0) calls order)
    (is : AreLeft program when (fired_after (λ node. 0) calls)) (finds : FindsAlong graph order now)
    (shows : RunShows program when round (λ node. 0) now running) where
  abbrev fired : ℕ → ℕ
  fired = fired_after (λ node. 0) calls

  phase_goes : (later next : ℕ) → later ≡ next
      → ((node : ℕ) → firing_number program when node (fired node) round
      ≡ firing_number program phase.Round node 0 later)
      → Goes (λ after left. IsBetween program later after (record left { round = next }))
      (fifo_go node_meaning graph order now) (order_done program when calls running)
  phase_goes later next same numbers =
      goes_after (RunShows program when round fired)
      (λ after left. IsBetween program later after (record left { round = next }))
      (fifo_go node_meaning graph order now) (calls_done program when calls running)
      (slides_done program when (length program.network.channels.now))
      (calls_go graph program when most steps round calls order (λ node. 0) now running
      (λ node. omega arith) are finds shows)
      (λ after left shown.
      let done = slide_all program when fired is after round left shown
      (length program.network.channels.now) (omega arith) in (
        done.0,
        done.1,
        subst (λ r. IsBetween program later after (record done.0 { round = r })) same
            (all_slid program when fired is after round left shown later
            (λ node. shown.numbers node ∙ numbers node) done.0 done.2),
      ))

-- a round's

round_left : (program : Program) (calls : List NodeCall) → AreRound program calls
    → AreLeft program phase.Round (fired_after (λ node. 0) calls)
round_left program calls is = record {
  gone = λ number channel at.
      ap (λ n. pops_of program.network.nodes.now channel.target.node 1 channel.target.port * n)
      (is.all channel.target.node) ∙ sym (is.gone number channel at);
  rest = λ number channel at.
      let given = ap (λ n. pushes_of program.network.nodes.now channel.source.node 1
      channel.source.port * n) (is.all channel.source.node) in
      omega (arith, is.balanced number channel at, given);
  room = is.room;
}

pub rounds_go : FiringsMakeRounds
rounds_go graph program most calls order steps are is round now running finds between =
    phase_goes graph program phase.Round most calls order now running round steps are
    (round_left program calls is) finds between (suc round) (running.round + 1)
    (omega (arith, between.round_is)) (λ node. omega (arith, is.all node))

-- start-up's

startup_left : (program : Program) (calls : List NodeCall) → AreStartup program calls
    → AreLeft program phase.Startup (fired_after (λ node. 0) calls)
startup_left program calls is = record {
  gone = λ number channel at.
      ap (λ n. moved
      (pops_of program.network.nodes.now channel.target.node 0 channel.target.port)
      (pops_of program.network.nodes.now channel.target.node 1 channel.target.port) n)
      (is.all channel.target.node)
      ∙ sym (ap (λ (end : Port). moved (pops_of program.network.nodes.now end.node 0 end.port)
      (pops_of program.network.nodes.now end.node 1 end.port)
      (slice_index program.network.startup.now end.node))
      (ap (λ (o : Option Channel). option_map_or (λ (one : Channel). one.target) o first_port)
      at));
  rest = λ number channel at.
      let given = ap (λ n. moved
      (pushes_of program.network.nodes.now channel.source.node 0 channel.source.port)
      (pushes_of program.network.nodes.now channel.source.node 1 channel.source.port) n)
      (is.all channel.source.node) in
      omega (arith, is.rest number channel at, given);
  room = is.room;
}

pub startup_goes : FiringsMakeStartup
startup_goes graph program most calls order now running steps are is finds shows =
    phase_goes graph program phase.Startup most calls order now running 0 steps are
    (startup_left program calls is) finds shows 0 0 refl
    (λ node. is.all node ∙ omega arith)
