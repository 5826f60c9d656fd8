-- A round of a restarted graph, by the rates of the graph from its state on.
use Rattle.std.proofs.Common.{◌≡◌, refl, sym, ap, ◌∙◌, ℕ, ◌+◌, ◌*◌, ◌<◌, ◌≤◌, List, []}
use Rattle.std.proofs.Common.{length, arith}
use mathlib.Core.Path.{fun_ext}
use Rattle.strc_elab_dataflow.specs.Node.{Meaning, total}
use Rattle.strc_elab_dataflow.specs.Flat.{Origin, Origin.Nowhere, Origin.Input, Origin.Port, Graph}
use Rattle.strc_elab_dataflow.specs.Order.{firing_count, counts_after, supply, IsOrder}
use Rattle.strc_elab_dataflow.specs.Order.{IsSchedule}
use Rattle.strc_elab_dataflow.specs.Queues.{Fifo}
use Rattle.strc_elab_dataflow.specs.Restart.{Restarted, restarted_meaning, restarted, taken_in}
use Rattle.strc_elab_dataflow.specs.RestartRounds.{total_from, IsOutside, RepeatsByRounds}
use Rattle.strc_elab_dataflow.specs.RestartRounds.{IsBalancedByRounds}
use Rattle.strc_elab_dataflow.specs.RestartRounds.{IsSuppliedByRounds}
use Rattle.strc_elab_dataflow.specs.Schedules.{fired_in, IsSuppliedFrom}
use Rattle.strc_elab_dataflow.specs.Schedules.{RestartedRoundsAreSchedules}
use Rattle.strc_elab_dataflow.proofs.Rounds.{valid_again}

-- The total from a number on is that of the rate from there.
from_there : (rate : ℕ → ℕ → ℕ) (first firings port : ℕ)
    → total_from (λ n. rate (first + n)) 0 firings port ≡ total_from rate first firings port
unfolding total_from
from_there rate first firings port =
    let same : (λ (i : ℕ). rate (first + (0 + i))) ≡ (λ (i : ℕ). rate (first + i))
    = fun_ext (λ i. ap (λ (m : ℕ). rate (first + m)) (let e : 0 + i ≡ i = omega arith in e)) in
    ap (λ (r : ℕ → ℕ → ℕ). total r firings port) same

no_port : (u q : ℕ) → ◌≡◌ {A = Origin} Nowhere (Port u q) → ⊥
no_port u q e = grind arith

from_node : (u q : ℕ) (origin : Origin) → taken_in origin ≡ Port u q → origin ≡ Port u q
unfolding taken_in
from_node u q Nowhere e = absurd (no_port u q e)
from_node u q Input e = absurd (no_port u q e)
from_node u q (Port v p) e = e

module _ {Code State Cause Word : Type 0} (meaning : Meaning Code State Cause Word)
    (graph : Graph Code) (from : Fifo State Cause Word) (round : ℕ → ℕ) (round_order : List ℕ)
    (k : ℕ) (repeats : RepeatsByRounds meaning graph (fired_in meaning graph from) round)
    (balanced : IsBalancedByRounds meaning graph (fired_in meaning graph from) round)
    (supplied : IsSuppliedFrom meaning graph from (λ node. k * round node)) where
  abbrev again_meaning : Meaning (Restarted Code State) State Cause Word
  again_meaning = restarted_meaning meaning

  abbrev again_graph : Graph (Restarted Code State)
  again_graph = restarted from graph

  same_rate : (rate : ℕ → ℕ → ℕ) (first more firing port : ℕ)
      → rate ((first + firing) + more) port ≡ rate (first + firing) port
      → rate (first + (firing + more)) port ≡ rate (first + firing) port
  same_rate rate first more firing port e =
      ap (λ (m : ℕ). rate m port)
      (let f : first + (firing + more) ≡ (first + firing) + more = omega arith in f) ∙ e

  repeats_again : RepeatsByRounds again_meaning again_graph (λ node. 0) round
  unfolding restarted_meaning restarted fired_in
  repeats_again = record {
    windows_repeat = λ node firing port after.
        same_rate (meaning.window (graph.code node)) (from.runs node).fired (round node) firing port
        (repeats.windows_repeat node ((from.runs node).fired + firing) port (omega arith));
    pops_repeat = λ node firing port after.
        same_rate (meaning.popped (graph.code node)) (from.runs node).fired (round node) firing port
        (repeats.pops_repeat node ((from.runs node).fired + firing) port (omega arith));
    pushes_repeat = λ node firing port after.
        same_rate (meaning.pushed (graph.code node)) (from.runs node).fired (round node) firing port
        (repeats.pushes_repeat node ((from.runs node).fired + firing) port (omega arith));
  }

  balanced_again : IsBalancedByRounds again_meaning again_graph (λ node. 0) round
  unfolding restarted_meaning restarted fired_in
  balanced_again node port u q less e =
      from_there (meaning.popped (graph.code node)) (from.runs node).fired (round node) port
      ∙ balanced node port u q less (from_node u q (graph.source node port).origin e)
      ∙ sym (from_there (meaning.pushed (graph.code u)) (from.runs u).fired (round u) q)

  outside : (origin : Origin) → IsOutside (taken_in origin) → IsOutside origin
  unfolding taken_in
  outside Nowhere h = tt
  outside Input h = tt
  outside (Port u q) h = h

  supplied_again : IsSuppliedByRounds again_meaning again_graph [] (λ node. 0)
      (counts_after (λ node. 0) round k)
  unfolding restarted_meaning restarted fired_in supply counts_after total_from
  supplied_again node port firing less h after before =
      let enough : total (λ i. meaning.popped (graph.code node) ((from.runs node).fired + i))
      firing port + meaning.window (graph.code node) ((from.runs node).fired + firing) port
      ≤ length (from.queues node port)
      = supplied node port firing less (outside (graph.source node port).origin h)
      (let e : firing < k * round node = omega arith in e) in
      omega (arith, enough)

  pub schedule_again : ((node : ℕ) → firing_count round_order node ≡ round node)
      → IsOrder again_meaning again_graph [] (λ node. 0) round_order
      → IsSchedule again_meaning again_graph [] (λ node. 0) round [] round_order k
  schedule_again firing_counts once =
      (valid_again again_meaning again_graph [] (λ node. 0) round round_order k firing_counts
      repeats_again balanced_again supplied_again once).1 (λ node. refl)

pub restarted_rounds_are_schedules : {Code State Cause Word : Type 0}
    → RestartedRoundsAreSchedules Code State Cause Word
restarted_rounds_are_schedules meaning graph from round round_order k firing_counts repeats balanced
    supplied once =
    schedule_again meaning graph from round round_order k repeats balanced supplied firing_counts
    once
