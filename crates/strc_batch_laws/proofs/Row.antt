-- The worked rows, computed from the definitions.
use Rattle.std.proofs.Common.{◌≡◌, refl, subst, ℕ, zero, suc, ◌<◌}
use Rattle.std.proofs.Common.{[], ◌∷◌, get_or, arith}
use mathlib.Core.Path.{fun_ext}
use Rattle.strc_elab_dataflow.specs.Node.{total, at_port_0}
use Rattle.strc_elab_dataflow.specs.Histories.{all_below, initial_run, after_firing}
use Rattle.strc_elab_dataflow.specs.Flat.{items_of, arrived}
use Rattle.strc_elab_dataflow.specs.Order.{raised, firing_count, counts_after, supply_of, supply}
use Rattle.strc_elab_dataflow.specs.Order.{fill, IsSchedule}
use Rattle.strc_elab_dataflow.specs.Machine.{put}
use Rattle.strc_elab_dataflow.specs.Answer.{words_of}
use Rattle.strc_elab_dataflow.specs.Cut.{AllIn}
use Rattle.strc_elab_dataflow.specs.Queues.{fifo_then, added, holds, fronts, moved, fifo_after}
use Rattle.strc_elab_dataflow.specs.Queues.{fifo_if, fifo_fire, fifo_go, fifo_at_first}
use Rattle.strc_elab_dataflow.specs.Queues.{fifo_round_outcome, fifo_rounds, fifo_startup_outcome}
use Rattle.strc_elab_dataflow.specs.Queues.{fifo_run}
use Rattle.strc_elab_dataflow.specs.RestartRounds.{total_from}
use Rattle.strc_elab_dataflow.specs.Staging.{joined, repeated, in_stage, IsFromUpTo, IsStaged}
use Rattle.strc_elab_dataflow.proofs.Tests.{ready_test, order_test, within_test, firing_count_test}
use Rattle.strc_elab_dataflow.proofs.Tests.{schedule_test, schedule_from_test}
use Rattle.strc_batch_laws.specs.Batches.{batch_order, batch_counts}
use Rattle.strc_batch_laws.specs.Runs.{before_batches}
use Rattle.strc_batch_laws.specs.Rows.{ports_of, takes_of, gives_of, fires_as, meaning, graph}
use Rattle.strc_batch_laws.specs.Rows.{round_list, round, round_order, stage_of, segment}
use Rattle.strc_batch_laws.specs.Rows.{most_waiting, printed, numbers_from, BatchRow, BatchesRow}
use Rattle.strc_batch_laws.specs.Rows.{BatchUnitsRow}

staged : IsStaged graph stage_of segment 2 round_order
unfolding graph joined in_stage
staged = record { own = own_at; order = refl; within = within_at; backward = backward_at }
  where
    own_at : (a : ℕ) → a < 2 → AllIn (in_stage stage_of a) (segment a)
    own_at zero less = (refl, (refl, (refl, tt)))
    own_at (suc zero) less = (refl, (refl, tt))
    own_at (suc (suc a)) less = absurd (omega arith)

    within_at : (node : ℕ) → stage_of node < 2
    within_at zero = omega arith
    within_at (suc zero) = omega arith
    within_at (suc (suc node)) = omega arith

    backward_at : (node port : ℕ)
        → IsFromUpTo stage_of (stage_of node) (graph.source node port).origin
    backward_at zero port = tt
    backward_at (suc zero) port = omega arith
    backward_at (suc (suc node)) port = tt

pub batch_row : BatchRow
unfolding total total_from initial_run raised supply_of supply fill fifo_at_first joined repeated
    ports_of takes_of gives_of meaning graph most_waiting
batch_row = record {
  order = refl;
  source_fires = refl;
  printer_fires = refl;
  staged = staged;
  round_waits = refl;
  batch_waits = refl;
  batch_room = refl;
}

rounds : IsSchedule meaning graph [] (λ node. get_or [] node 0) round [] round_order 5
unfolding total raised firing_count counts_after supply_of supply all_below ready_test order_test
    within_test firing_count_test schedule_test ports_of takes_of gives_of meaning graph
rounds = schedule_from_test meaning graph [] [] round_list [] round_order 5 refl

batches : IsSchedule meaning graph [] round (λ node. get_or (6 ∷ 4 ∷ []) node 0)
    (before_batches [] 1 round_order) (batch_order 2 segment 2) 2
unfolding total raised firing_count counts_after supply_of supply all_below ready_test order_test
    within_test firing_count_test schedule_test ports_of takes_of gives_of meaning graph joined
    repeated
batches = schedule_from_test meaning graph [] round_list (6 ∷ 4 ∷ [])
    (before_batches [] 1 round_order) (batch_order 2 segment 2) 2 refl

one_round : (node : ℕ) → round node ≡ counts_after (λ v. 0) round 1 node
unfolding counts_after
one_round node = omega arith

two_rounds : (node : ℕ) → get_or (6 ∷ 4 ∷ []) node 0 ≡ batch_counts 2 round node
two_rounds zero = refl
two_rounds (suc zero) = refl
two_rounds (suc (suc node)) = refl

none : (node : ℕ) → ◌≡◌ {A = ℕ} (get_or [] node 0) 0
none zero = refl
none (suc node) = refl

pub batches_row : BatchesRow
unfolding total at_port_0 all_below initial_run after_firing items_of arrived put words_of
    counts_after fifo_then added holds fronts moved fifo_after fifo_if fifo_fire fifo_go
    fifo_at_first fifo_round_outcome fifo_rounds fifo_startup_outcome fifo_run joined repeated
    ports_of takes_of gives_of fires_as meaning graph printed numbers_from
batches_row = record {
  rounds = subst (λ (c : ℕ → ℕ). IsSchedule meaning graph [] c round [] round_order 5)
      (fun_ext none) rounds;
  batches = subst (λ (c : ℕ → ℕ). IsSchedule meaning graph [] c (batch_counts 2 round)
      (before_batches [] 1 round_order) (batch_order 2 segment 2) 2) (fun_ext one_round)
      (subst (λ (c : ℕ → ℕ). IsSchedule meaning graph [] round c
      (before_batches [] 1 round_order) (batch_order 2 segment 2) 2) (fun_ext two_rounds) batches);
  firings = refl;
  source_fired = refl;
  printer_fired = refl;
  rounds_print = refl;
  batches_print = refl;
}

pub batch_units_row : BatchUnitsRow
batch_units_row = record { apart = refl; loop = refl; loop_fires = refl }
