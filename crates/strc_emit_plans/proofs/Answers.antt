-- A program ends as the machine over queues does, and that is the answer of the stream equations.
use Rattle.std.proofs.Common.{sym, subst, ℕ, List, ℤ, Result, Ok, Err}
use Rattle.std.specs.Prelude.{slice_index}
use Rattle.strc_work_meaning.specs.declared.fault.Cause.{Cause}
use Rattle.strc_work_meaning.specs.declared.word.Word.{Word}
use Rattle.strc_elab_dataflow.specs.Queues.{FifoProgress, FifoProgress.FifoWent, fifo_go}
use Rattle.strc_elab_dataflow.specs.Queues.{FifoProgress.FifoStopped, fifo_at_first, fifo_rounds}
use Rattle.strc_elab_dataflow.specs.Queues.{fifo_startup_outcome, fifo_run}
use Rattle.strc_elab_dataflow.specs.Streams.{Stream, flat}
use Rattle.strc_elab_dataflow.proofs.Theorem.{stream_queue_run}
use Rattle.strc_elab_graph.specs.Graphs.{NodeCode}
use Rattle.strc_elab_graph.specs.Meaning.{node_meaning}
use Rattle.strc_elab_graph.specs.NodeView.{GraphParts, graph_view}
use Rattle.strc_sched_orders.specs.Order.{firing_count}
use Rattle.strc_sched_orders.specs.Schedules.{ScheduleParts}
use Rattle.strc_sched_laws.specs.Laws.{startup_order, round_order}
use Rattle.strc_sched_laws.proofs.Keeping.{nodes_keep_rates, nodes_take_within}
use Rattle.strc_sched_laws.proofs.Rounds.{orders_find}
use Rattle.strc_emit_moves.specs.declared.places.Phase.TheVariants as phase
use Rattle.strc_emit_runs.specs.Running.{Program, Running, Halt, FaultsIn, NoMeaning}
use Rattle.strc_emit_runs.specs.Running.{NodeCall, after_start, rounds_done, order_done}
use Rattle.strc_emit_runs.specs.Orders.{Queues, Goes, IfWent, FindsAlong, FindsInRounds, IsBetween}
use Rattle.strc_emit_runs.specs.Orders.{TellsEnd, AreCallsOf}
use Rattle.strc_emit_network.proofs.Runs.{network_runs, network_starts}
use Rattle.strc_emit_plans.specs.Answers.{ProgramsMean, ProgramsAnswer}
use Rattle.strc_emit_plans.specs.Calls.{calls_made}
use Rattle.strc_emit_plans.specs.Firsts.{IsFirst}
use Rattle.strc_emit_plans.specs.Programs.{IsPlannedProgram}
use Rattle.strc_emit_plans.proofs.Finds.{schedules_find}
use Rattle.strc_emit_plans.proofs.Firsts.{firsts_show}
use Rattle.strc_emit_plans.proofs.Orders.{startup_calls, round_calls}
use Rattle.strc_emit_plans.proofs.Programs.{plans_make_programs}
use Rattle.strc_emit_plans.proofs.Rounds.{plans_make_rounds, plans_make_startups}

module _ (tree : Stream NodeCode) (parts : GraphParts) (schedule : ScheduleParts)
    (program : Program) (is : IsPlannedProgram tree parts schedule program) where
  abbrev calls : List NodeCall
  calls = calls_made program schedule.round

  rounds_tell : (rounds : ℕ) (now : Queues) (running : Running)
      → FindsInRounds (flat tree) (round_order schedule) rounds now
      → IsBetween program 0 now running
      → TellsEnd (fifo_rounds node_meaning (flat tree) program.input (round_order schedule) rounds
      0 now) (rounds_done program calls rounds running)
  rounds_tell rounds now running finds between =
      network_runs (flat tree) program calls (round_order schedule) program.input
      (plans_make_programs tree parts schedule program phase.Round is)
      (subst (λ (l : List ℕ). AreCallsOf program phase.Round (slice_index l) (λ node. 0) calls
      (round_order schedule)) (sym is.is.is.parts.round_is)
      (round_calls tree parts schedule program is).are)
      (plans_make_rounds tree parts schedule program is)
      rounds 0 now running finds between

  -- start-up goes as over queues
  starts : (first : Running) → IsFirst program first
      → FindsAlong (flat tree) (startup_order schedule)
      (fifo_at_first node_meaning (flat tree) program.input)
      → Goes (λ now running. IsBetween program 0 now (record running { round = 0 }))
      (fifo_go node_meaning (flat tree) (startup_order schedule)
      (fifo_at_first node_meaning (flat tree) program.input))
      (order_done program phase.Startup (calls_made program schedule.startup) first)
  starts first first_is finds =
      network_starts (flat tree) program (calls_made program schedule.startup)
      (startup_order schedule) (fifo_at_first node_meaning (flat tree) program.input) first
      (plans_make_programs tree parts schedule program phase.Startup is)
      (subst (λ (l : List ℕ). AreCallsOf program phase.Startup (slice_index l) (λ node. 0)
      (calls_made program schedule.startup) (startup_order schedule))
      (sym is.is.is.parts.startup_is) (startup_calls tree parts schedule program is).are)
      (plans_make_startups tree parts schedule program is) finds
      (firsts_show tree parts schedule program first is first_is)

  start_tells : (rounds : ℕ) (progress : FifoProgress (List ℤ) Cause Word)
      (done : Result Running Halt)
      → IfWent (FindsInRounds (flat tree) (round_order schedule) rounds) progress
      → Goes (λ now running. IsBetween program 0 now (record running { round = 0 })) progress done
      → TellsEnd (fifo_startup_outcome node_meaning (flat tree) program.input (round_order schedule)
      rounds progress)
      (after_start (λ after. rounds_done program calls rounds (record after { round = 0 })) done)
  unfolding fifo_startup_outcome
  start_tells rounds (FifoWent now) (Ok running) finds between =
      rounds_tell rounds now (record running { round = 0 }) finds between
  start_tells rounds (FifoWent now) (Err why) finds between = absurd between
  start_tells rounds (FifoStopped stop) (Ok running) finds between = absurd between
  start_tells rounds (FifoStopped stop) (Err (FaultsIn node firing cause)) finds between = between
  start_tells rounds (FifoStopped stop) (Err NoMeaning) finds between = absurd between

pub programs_mean : ProgramsMean
unfolding fifo_run
programs_mean tree parts schedule program rounds first is few supplied first_is =
    let finds = schedules_find tree (graph_view parts) schedule program.input rounds is.whole
    is.planned is.known few supplied in
    start_tells tree parts schedule program is rounds
    (fifo_go node_meaning (flat tree) (startup_order schedule)
    (fifo_at_first node_meaning (flat tree) program.input))
    (order_done program phase.Startup (calls_made program schedule.startup) first)
    finds.rounds_find (starts tree parts schedule program is first first_is finds.startup)

pub programs_answer : ProgramsAnswer
programs_answer tree parts schedule program rounds first is few supplied first_is = (
  fifo_run node_meaning (flat tree) program.input (round_order schedule) (startup_order schedule)
      rounds,
  (stream_queue_run node_meaning tree program.input (firing_count (startup_order schedule))
      (firing_count (round_order schedule)) (startup_order schedule) (round_order schedule)
      rounds
      (nodes_take_within tree (graph_view parts) schedule is.whole.flat is.planned)).1
      (nodes_keep_rates tree (graph_view parts) schedule is.whole.flat is.planned is.known)
      (orders_find (graph_view parts) schedule is.planned tree program.input rounds is.whole
      supplied),
  programs_mean tree parts schedule program rounds first is few supplied first_is,
)
