-- Each firing of a schedule finds its windows in the queues.
use Rattle.std.proofs.Common.{◌≡◌, refl, sym, ap, ◌∙◌, subst, ℕ, zero, suc, ◌<◌, ◌≤◌, ◌^◌, ℤ, true}
use Rattle.std.proofs.Common.{List, [], ◌∷◌, ◌++◌, length, append_assoc}
use Rattle.strc_work_meaning.specs.declared.fault.Cause.{Cause}
use Rattle.strc_work_meaning.specs.declared.word.Word.{Word}
use Rattle.strc_elab_dataflow.specs.Flat as generic
use Rattle.strc_elab_dataflow.specs.Queues.{FifoProgress, FifoProgress.FifoWent, fifo_fire}
use Rattle.strc_elab_dataflow.specs.Queues.{FifoProgress.FifoStopped, fifo_go, fifo_then, holds}
use Rattle.strc_elab_dataflow.specs.Queues.{fifo_at_first}
use Rattle.strc_elab_dataflow.specs.Order as orders
use Rattle.strc_elab_dataflow.specs.Streams.{Stream, flat}
use Rattle.strc_elab_graph.specs.FlatGraphs.{IsProgram}
use Rattle.strc_elab_graph.specs.Graphs.{NodeCode, Graph}
use Rattle.strc_elab_graph.specs.Meaning.{node_meaning}
use Rattle.strc_sched_orders.specs.Order.{repeated}
use Rattle.strc_sched_orders.specs.Schedules.{ScheduleParts}
use Rattle.strc_sched_laws.specs.Laws.{startup_order, round_order, counts_at}
use Rattle.strc_sched_laws.specs.Planned.{IsPlanned, AreKnown, items_read}
use Rattle.strc_sched_laws.proofs.Filling.{generic_run}
use Rattle.strc_sched_laws.proofs.Found.{found_after}
use Rattle.strc_sched_laws.proofs.Keeping.{nodes_keep_rates, nodes_take_within}
use Rattle.strc_sched_laws.proofs.Peaks.{run_order}
use Rattle.strc_sched_laws.proofs.Splitting.{go_append}
use Rattle.strc_emit_runs.specs.Orders.{Queues, FindsAlong, FindsInRounds, IfWent}
use Rattle.strc_emit_plans.specs.Finds.{SchedulesFind}

module _ (graph : generic.Graph NodeCode) where
  abbrev go : List ℕ → Queues → FifoProgress (List ℤ) Cause Word
  go = fifo_go node_meaning graph

  abbrev Finds : List ℕ → Queues → Type 0
  Finds = FindsAlong graph

  -- what is found along two orders is found along the first, and after it along the second
  then_split : (a b : List ℕ) (progress : FifoProgress (List ℤ) Cause Word)
      → ((now : Queues) → Finds (a ++ b) now → Finds a now × IfWent (Finds b) (go a now))
      → IfWent (Finds (a ++ b)) progress
      → IfWent (Finds a) progress × IfWent (Finds b) (fifo_then (go a) progress)
  unfolding fifo_then
  then_split a b (FifoWent next) ih found = ih next found
  then_split a b (FifoStopped stop) ih found = (tt, tt)

  split : (a b : List ℕ) (now : Queues) → Finds (a ++ b) now
      → Finds a now × IfWent (Finds b) (go a now)
  unfolding fifo_go
  split [] b now found = (tt, found)
  split (node ∷ a) b now found =
      let rest = then_split a b (fifo_fire node_meaning graph now node) (split a b) found.1 in
      ((found.0, rest.0), rest.1)

  -- along an order of rounds
  if_rounds : (order : List ℕ) (left : ℕ) (progress : FifoProgress (List ℤ) Cause Word)
      → ((now : Queues) → Finds (repeated left order) now → FindsInRounds graph order left now)
      → IfWent (Finds (repeated left order)) progress
      → IfWent (FindsInRounds graph order left) progress
  if_rounds order left (FifoWent next) ih found = ih next found
  if_rounds order left (FifoStopped stop) ih found = tt

  in_rounds : (order : List ℕ) (left : ℕ) (now : Queues) → Finds (repeated left order) now
      → FindsInRounds graph order left now
  in_rounds order zero now found = tt
  in_rounds order (suc left) now found =
      let parts = split order (repeated left order) now found in
      (parts.0, if_rounds order left (go order now) (in_rounds order left) parts.1)

  -- where each next firing of an order finds its windows, all do
  module _ (order : List ℕ) (start : Queues)
      (next : (done left : List ℕ) (node : ℕ) (now : Queues) → done ++ node ∷ left ≡ order
      → go done start ≡ FifoWent now
      → holds node_meaning graph node (now.runs node).fired (now.queues node) ≡ true) where
    finds_then : (done left : List ℕ) (node : ℕ) (now : Queues)
        (progress : FifoProgress (List ℤ) Cause Word)
        → ((after : Queues) → (done ++ node ∷ []) ++ left ≡ order
        → go (done ++ node ∷ []) start ≡ FifoWent after → Finds left after)
        → done ++ node ∷ left ≡ order → go done start ≡ FifoWent now
        → fifo_fire node_meaning graph now node ≡ progress
        → IfWent (Finds left) progress
    unfolding fifo_go fifo_then
    finds_then done left node now (FifoWent after) ih e went fires =
        ih after (append_assoc done (node ∷ []) left ∙ e)
        (go_append graph done (node ∷ []) start ∙ ap (fifo_then (go (node ∷ []))) went
        ∙ ap (fifo_then (go [])) fires)
    finds_then done left node now (FifoStopped stop) ih e went fires = tt

    finds_from : (done left : List ℕ) (now : Queues) → done ++ left ≡ order
        → go done start ≡ FifoWent now → Finds left now
    finds_from done [] now e went = tt
    finds_from done (node ∷ left) now e went = (
      next done left node now e went,
      finds_then done left node now (fifo_fire node_meaning graph now node)
          (λ after. finds_from (done ++ node ∷ []) left after) e went refl,
    )

module _ (tree : Stream NodeCode) (graph : Graph) (schedule : ScheduleParts) (input : List ℤ)
    (rounds : ℕ) (program : IsProgram tree graph) (planned : IsPlanned graph schedule)
    (known : AreKnown graph) (few : rounds < 2 ^ 32)
    (supplied : items_read graph.nodes (counts_at schedule rounds) ≤ length input) where
  abbrev whole : List ℕ
  whole = run_order graph schedule planned rounds

  abbrev at_first : Queues
  at_first = fifo_at_first node_meaning (flat tree) input

  next_finds : (done left : List ℕ) (node : ℕ) (now : Queues) → done ++ node ∷ left ≡ whole
      → fifo_go node_meaning (flat tree) done at_first ≡ FifoWent now
      → holds node_meaning (flat tree) node (now.runs node).fired (now.queues node) ≡ true
  next_finds done left node now same went =
      found_after node_meaning (flat tree) input
      (nodes_keep_rates tree graph schedule program.flat planned known)
      (nodes_take_within tree graph schedule program.flat planned) done node left
      (subst (λ (l : List ℕ). orders.IsOrder node_meaning (flat tree) input (λ v. 0) l) (sym same)
      (generic_run graph schedule planned tree input rounds program known few supplied)) now went

  all_find : FindsAlong (flat tree) whole at_first
  unfolding fifo_go
  all_find = finds_from (flat tree) whole at_first next_finds [] whole at_first refl refl

pub schedules_find : SchedulesFind
schedules_find tree graph schedule input rounds program planned known few supplied =
    let parts = split (flat tree) (startup_order schedule)
    (repeated rounds (round_order schedule)) (fifo_at_first node_meaning (flat tree) input)
    (all_find tree graph schedule input rounds program planned known few supplied) in
    record {
      startup = parts.0;
      rounds_find = if_rounds (flat tree) (round_order schedule) rounds
          (fifo_go node_meaning (flat tree) (startup_order schedule)
          (fifo_at_first node_meaning (flat tree) input))
          (in_rounds (flat tree) (round_order schedule) rounds) parts.1;
    }
