-- The rows, computed from the definitions.
use Rattle.std.proofs.Common.{◌≡◌, refl, ap, ◌∙◌, ℕ, true, [], ◌∷◌, zero, suc, ◌<◌, ◌≤◌, arith}
use Rattle.std.proofs.Common.{get_or}
use Rattle.strc_elab_dataflow.specs.Rounds.{gives_in_round, IsBalanced, IsSupplied}
use Rattle.strc_elab_dataflow.specs.Node.{total, at_port_0}
use Rattle.strc_elab_dataflow.specs.Histories.{all_below, windows, finds, initial_run, after_firing}
use Rattle.strc_elab_dataflow.specs.Histories.{advance_if, advance, runs}
use Rattle.strc_elab_dataflow.specs.Flat.{items_of, arrived, runs_at, Origin.Input}
use Rattle.strc_elab_dataflow.specs.Streams.{source_at_0, delayed, prepend, node_layout}
use Rattle.strc_elab_dataflow.specs.Streams.{maybe_layout}
use Rattle.strc_elab_dataflow.specs.Streams.{chained_layout, beside_layout, fed_back_layout, layout}
use Rattle.strc_elab_dataflow.specs.Streams.{any_code, flat, chained, beside, iterate, around}
use Rattle.strc_elab_dataflow.specs.Streams.{back_of}
use Rattle.strc_elab_dataflow.specs.Streams.{turn, loop_solution, fed_back, no_part, node_part}
use Rattle.strc_elab_dataflow.specs.Streams.{reader_part, maybe_part, part, solution}
use Rattle.strc_elab_dataflow.specs.Order.{raised, firing_count, counts_after, supply_of, supply}
use Rattle.strc_elab_dataflow.specs.Machine.{put, at_first, fired_once, unless_faulted, go, stop_at}
use Rattle.strc_elab_dataflow.specs.Machine.{or_else, first_fault}
use Rattle.strc_elab_dataflow.specs.Answer.{words_of, stream_runs, round_outcome, rounds}
use Rattle.strc_elab_dataflow.specs.Answer.{startup_outcome, whole_run}
use Rattle.strc_elab_dataflow.specs.RoundRobin.{span_start, one_cycle, dealt, duplicated, woven}
use Rattle.strc_elab_dataflow.specs.RoundRobin.{places}
use Rattle.strc_elab_dataflow.specs.RoundRobin.{cycles, port_at}
use Rattle.strc_elab_dataflow.specs.Examples.{inputs, takes, looks_at, gives, quotient, fires}
use Rattle.strc_elab_dataflow.specs.Examples.{example}
use Rattle.strc_elab_dataflow.specs.Examples.{Block.Counter, Block.Negation, Block.Printer}
use Rattle.strc_elab_dataflow.specs.Rows.{Shown, shown, Program, by_node, EquationsSay, IsRow}
use Rattle.strc_elab_dataflow.specs.Rows.{minimal}
use Rattle.strc_elab_dataflow.specs.Rows.{MinimalRow, fibonacci, FibonacciRow, division}
use Rattle.strc_elab_dataflow.specs.Rows.{DivisionFaultRow, weights, WeightsRow, two_quotients}
use Rattle.strc_elab_dataflow.specs.Rows.{DownstreamFaultRow, two_branches, TwoFaultsRow}
use Rattle.strc_elab_dataflow.specs.Rows.{loop_fault}
use Rattle.strc_elab_dataflow.specs.Rows.{FaultInLoopRow, ExampleSplitters, PlacesRow}
use Rattle.strc_elab_dataflow.specs.Rows.{startup_fault}
use Rattle.strc_elab_dataflow.specs.Rows.{StartupFaultRow, MatchedRow, BalanceRow}
use Rattle.strc_elab_dataflow.proofs.Blocks.{block_keeps, splitter_block, duplicate_block}
use Rattle.strc_elab_dataflow.proofs.Blocks.{joiner_block}
use Rattle.strc_elab_dataflow.proofs.Tests.{ready_test, order_test, within_test, firing_count_test}
use Rattle.strc_elab_dataflow.proofs.Tests.{schedule_test, schedule_from_test}
use Rattle.strc_elab_dataflow.proofs.Tests.{firing_count_from_test}
use Rattle.strc_elab_dataflow.proofs.Tests.{order_from_test}
use Rattle.strc_elab_dataflow.proofs.Again.{each_round}
use Rattle.strc_elab_dataflow.proofs.Theorem.{stream_run_gives, stream_answer_is_run}

-- A row from what computes: its orders pass the test, the equations say so, and the run shows it.
row_from :
    (p : Program) (expected : Shown)
    → schedule_test example (flat p.stream) p.input p.startup p.round p.startup_order p.round_order
    p.rounds ≡ true
    → EquationsSay p expected
    → shown p.printer (whole_run example (flat p.stream) p.input p.round_order p.startup_order
    p.rounds) ≡ expected
    → IsRow p expected
row_from p expected valid equations run =
    let schedule = schedule_from_test example
    (flat p.stream) p.input p.startup p.round p.startup_order p.round_order p.rounds valid in
    record {
      schedule = schedule;
      equations = equations;
      run = run;
      answer = stream_run_gives example p.stream p.input (by_node p.startup)
          (by_node p.round) p.startup_order p.round_order p.rounds
          (λ node. block_keeps ((flat p.stream).code node)) schedule;
      only = λ outcome h. ap (shown p.printer)
          (stream_answer_is_run example p.stream p.input (by_node p.startup)
          (by_node p.round) p.startup_order p.round_order p.rounds
          (λ node. block_keeps ((flat p.stream).code node)) schedule outcome h) ∙ run;
    }

-- What rows compute with: a proof that names it on its unfolding line computes with all definitions
-- of the crate.
unfoldable pub all_definitions : ℕ
unfolding total at_port_0 all_below windows finds initial_run after_firing advance_if advance runs
    items_of arrived runs_at source_at_0 delayed prepend node_layout maybe_layout chained_layout
    beside_layout fed_back_layout layout any_code flat chained beside iterate around back_of turn
    loop_solution fed_back no_part node_part reader_part maybe_part part solution raised
    firing_count
    counts_after supply_of supply put at_first fired_once unless_faulted go stop_at or_else
    first_fault words_of stream_runs round_outcome rounds startup_outcome whole_run span_start
    inputs takes looks_at gives quotient one_cycle fires example shown ready_test order_test
    within_test firing_count_test schedule_test
all_definitions = 0

pub minimal_row : MinimalRow
unfolding all_definitions
minimal_row = row_from minimal _ refl refl refl

pub fibonacci_row : FibonacciRow
unfolding all_definitions
fibonacci_row = row_from fibonacci _ refl refl refl

pub division_fault_row : DivisionFaultRow
unfolding all_definitions
division_fault_row = row_from division _ refl (refl, refl) refl

pub weights_row : WeightsRow
unfolding all_definitions
weights_row = row_from weights _ refl refl refl

pub downstream_fault_row : DownstreamFaultRow
unfolding all_definitions
downstream_fault_row = row_from two_quotients _ refl (refl, refl) refl

pub two_faults_row : TwoFaultsRow
unfolding all_definitions
two_faults_row = (
  row_from (two_branches (0 ∷ 1 ∷ 2 ∷ 3 ∷ 4 ∷ 5 ∷ 5 ∷ [])) _ refl (refl, refl) refl,
  row_from (two_branches (0 ∷ 1 ∷ 3 ∷ 2 ∷ 4 ∷ 5 ∷ 5 ∷ [])) _ refl (refl, refl) refl,
)

pub fault_in_loop_row : FaultInLoopRow
unfolding all_definitions
fault_in_loop_row = row_from loop_fault _ refl (refl, refl) refl

pub startup_fault_row : StartupFaultRow
unfolding all_definitions
startup_fault_row = row_from startup_fault _ refl refl refl

pub example_splitters : ExampleSplitters
example_splitters weights = (splitter_block weights, duplicate_block weights, joiner_block weights)

pub places_row : PlacesRow
unfolding dealt duplicated woven places cycles port_at span_start
places_row = (refl, refl, refl, refl, refl)

pub matched_row : MatchedRow
unfolding inputs takes looks_at gives example
matched_row = record {
  source = refl;
  windows = windows_at;
  pops = pops_at;
}
  where
    windows_at :
        (node firing port : ℕ) → node < 2
        → port < inputs (get_or (Negation ∷ Printer ∷ []) node Counter)
        → looks_at (get_or (Negation ∷ Printer ∷ []) node Counter) port
        ≤ gives (get_or (Counter ∷ Negation ∷ Printer ∷ []) node Counter) port
    windows_at zero firing zero below within = omega arith
    windows_at zero firing (suc port) below within = absurd (omega arith)
    windows_at (suc zero) firing zero below within = omega arith
    windows_at (suc zero) firing (suc port) below within = absurd (omega arith)
    windows_at (suc (suc node)) firing port below within = absurd (omega arith)

    pops_at :
        (node firing port : ℕ) → node < 2
        → port < inputs (get_or (Negation ∷ Printer ∷ []) node Counter)
        → takes (get_or (Negation ∷ Printer ∷ []) node Counter) port
        ≤ gives (get_or (Counter ∷ Negation ∷ Printer ∷ []) node Counter) port
    pops_at zero firing zero below within = omega arith
    pops_at zero firing (suc port) below within = absurd (omega arith)
    pops_at (suc zero) firing zero below within = omega arith
    pops_at (suc zero) firing (suc port) below within = absurd (omega arith)
    pops_at (suc (suc node)) firing port below within = absurd (omega arith)

fibonacci_balanced : IsBalanced example (flat fibonacci.stream) (by_node fibonacci.startup)
    (by_node fibonacci.round)
unfolding all_definitions gives_in_round
fibonacci_balanced zero zero within channel = refl
fibonacci_balanced zero (suc zero) within channel = refl
fibonacci_balanced zero (suc (suc port)) within channel = absurd (omega arith)
fibonacci_balanced (suc zero) zero within channel = refl
fibonacci_balanced (suc zero) (suc port) within channel = absurd (omega arith)
fibonacci_balanced (suc (suc zero)) zero within channel = refl
fibonacci_balanced (suc (suc zero)) (suc port) within channel = absurd (omega arith)
fibonacci_balanced (suc (suc (suc zero))) zero within channel = refl
fibonacci_balanced (suc (suc (suc zero))) (suc port) within channel = absurd (omega arith)
fibonacci_balanced (suc (suc (suc (suc zero)))) zero within channel = refl
fibonacci_balanced (suc (suc (suc (suc zero)))) (suc port) within channel = absurd (omega arith)
fibonacci_balanced (suc (suc (suc (suc (suc node))))) port within channel = omega arith

no_input : (node port : ℕ) → ((flat fibonacci.stream).source node port).origin ≡ Input → ⊥
unfolding all_definitions
no_input zero zero e = cc
no_input zero (suc zero) e = cc
no_input zero (suc (suc port)) e = cc
no_input (suc zero) port e = cc
no_input (suc (suc zero)) port e = cc
no_input (suc (suc (suc zero))) zero e = cc
no_input (suc (suc (suc zero))) (suc port) e = cc
no_input (suc (suc (suc (suc zero)))) zero e = cc
no_input (suc (suc (suc (suc zero)))) (suc port) e = cc
no_input (suc (suc (suc (suc (suc node))))) port e = cc

fibonacci_supplied : (counts : ℕ → ℕ) → IsSupplied example (flat fibonacci.stream) [] counts
fibonacci_supplied counts node port firing within reads below = absurd (no_input node port reads)

pub balance_row : BalanceRow
unfolding all_definitions
balance_row = (
  fibonacci_balanced,
  λ k. each_round example (flat fibonacci.stream) [] (by_node fibonacci.startup)
      (by_node fibonacci.round) fibonacci.round_order k
      (firing_count_from_test fibonacci.round_order fibonacci.round refl)
      (record {
        windows_repeat = λ node firing port h. refl;
        pops_repeat =
            λ node firing port h. refl;
        pushes_repeat = λ node firing port h. refl;
      })
      fibonacci_balanced
      (fibonacci_supplied (counts_after (by_node fibonacci.startup) (by_node fibonacci.round) k))
      (order_from_test example (flat fibonacci.stream) [] fibonacci.round_order
      (counts_after (by_node fibonacci.startup) (by_node fibonacci.round) 0) refl),
)
