-- Rounds of live runs.
use Rattle.std.proofs.Common.{◌≡◌, ℕ, suc, ◌+◌, ◌<◌, ◌^◌, ℤ, List, [], ◌++◌, length, set, refl}
use Rattle.std.proofs.Common.{sym, ap, ◌∙◌, subst, append_assoc, add-one, Err}
use Rattle.std.proofs.Math.Seq.{map-set_same}
use Rattle.strc_elab_dataflow.specs.Answer.{Outcome.RoundFault}
use Rattle.strc_work_meaning.specs.declared.word.Word.{Word}
use Rattle.strc_sched_orders.specs.Greedy.{firings_of}
use Rattle.strc_sched_laws.specs.Laws.{round_order}
use Rattle.strc_sched_laws.specs.Machine.{CircuitView, MachineView, Progress, Went, Stopped}
use Rattle.strc_sched_laws.specs.Machine.{order_run, words_at}
use Rattle.strc_sched_rings.specs.Circuits.{circuit_view}
use Rattle.strc_sched_machine.specs.Batches.{IsBatch, IsOrderOf, units_of}
use Rattle.strc_sched_machine.specs.Running.{HasGone, IsMachine, machine_view, with_words}
use Rattle.strc_sched_machine.specs.Running.{without_words}
use Rattle.strc_sched_machine.specs.declared.batches.Batch.{Batch}
use Rattle.strc_sched_machine.specs.declared.batches.Order.{Order}
use Rattle.strc_sched_machine.specs.declared.machine.Machine.{Machine}
use Rattle.strc_sched_outcome.specs.declared.stop.Stop.{Stop}
use Rattle.strc_sched_outcome.specs.declared.stop.Stop.TheVariants as stop
use Rattle.strc_stage_plan.specs.Plans.{PlanParts}
use Rattle.strc_stage_steps.specs.Plans.{ComesToAnswer, Suffices}
use Rattle.strc_live_laws.specs.Live.{more_past, renewed}
use Rattle.strc_live_laws.specs.Windows.{window}
use Rattle.strc_live_plans.specs.Readers.{each_of}
use Rattle.strc_live_plans.specs.Runs.{HasGoneOn, LivePlansFault, LivePlansGoOn}
use Rattle.strc_live_runs.specs.Runs.{HasDoneRound, HasSamePlace, IsLiveRun, IsRoundStop}
use Rattle.strc_live_runs.specs.declared.live_run.LiveRun.{LiveRun}

-- ---- other items

-- a machine for a circuit is one for it with other items
pub machine_with : (circuit : CircuitView) (items : List ℤ) (machine : Machine)
    → IsMachine circuit machine → IsMachine (window items circuit) machine
machine_with circuit items machine is = record {
  actors = is.actors;
  fired = is.fired;
  words = is.words;
  input_nodes = is.input_nodes;
  output_nodes = is.output_nodes;
  inputs = is.inputs;
  outputs = is.outputs;
}

batch_with : (circuit : CircuitView) (items : List ℤ) (batch : Batch) → IsBatch circuit batch
    → IsBatch (window items circuit) batch
batch_with circuit items batch is = record {
  node = is.node;
  input = is.input;
  output = is.output;
  kind = is.kind;
}

-- so is an order
pub order_with : (circuit : CircuitView) (items : List ℤ) (order : Order) → IsOrderOf circuit order
    → IsOrderOf (window items circuit) order
order_with circuit items order is = record {
  batches = λ list d within place e there.
      batch_with circuit items _ (is.batches list d within place e there);
  firings = is.firings;
}

-- ---- words

-- where all are forgotten, one node's don't matter
pub forgets_all : (all : List (List Word)) (node : ℕ) (own : List Word)
    → without_words (set all node own) ≡ without_words all
forgets_all all node own =
    let nothing : List Word → List Word = λ _. [] in
    map-set_same nothing all node own own refl

pub forgets_after : (before after : MachineView) (node : ℕ) (own : List Word)
    → after ≡ with_words (set before.words node own) before
    → with_words (without_words after.words) after
    ≡ with_words (without_words before.words) before
forgets_after before after node own is =
    ap (λ (m : MachineView). with_words (without_words m.words) m) is
    ∙ ap (λ l. with_words l before) (forgets_all before.words node own)

-- ---- a round

module _ (plan : PlanParts) (read items : List ℤ) (past : ℕ → List Word)
    (before : LiveRun) (is : IsLiveRun plan read past before) where
  went_over : (progress : Progress)
      → order_run (window items (circuit_view before.circuit))
      (firings_of (units_of before.order)) (machine_view before.machine) ≡ progress
      → order_run (window items is.circuit) (round_order plan.split.schedule)
      (machine_view before.machine) ≡ progress
  went_over progress went =
      ap (λ (c : CircuitView). order_run (window items c) (round_order plan.split.schedule)
      (machine_view before.machine)) (sym is.circuit_is)
      ∙ ap (λ l. order_run (window items (circuit_view before.circuit)) l
      (machine_view before.machine)) (sym is.firings)
      ∙ went

  gone_as : (done other : ℕ) (reader another : ℕ) (past : ℕ → List Word) (later : List ℤ)
      (own now : MachineView) → other ≡ done → another ≡ reader → now ≡ own
      → HasGoneOn plan is.begin later is.old is.circuit is.started reader done past own
      → HasGoneOn plan is.begin later is.old is.circuit is.started another other past now
  gone_as done other reader another past later own now same_done same_reader same_own gone =
      subst (λ (n : MachineView). HasGoneOn plan is.begin later is.old is.circuit is.started
      another other past n) (sym same_own)
      (subst (λ r. HasGoneOn plan is.begin later is.old is.circuit is.started r other past own)
      (sym same_reader)
      (subst (λ d. HasGoneOn plan is.begin later is.old is.circuit is.started reader d past own)
      (sym same_done) gone))

  pub done_round : LivePlansGoOn → (fired after : LiveRun) (words : List Word)
      → length items ≡ each_of plan → before.done + 1 < 2 ^ 32
      → order_run (window items (circuit_view before.circuit))
      (firings_of (units_of before.order)) (machine_view before.machine)
      ≡ Went (machine_view fired.machine)
      → HasSamePlace before fired
      → circuit_view fired.circuit ≡ window items (circuit_view before.circuit)
      → after.circuit ≡ fired.circuit → after.order ≡ fired.order → after.tape ≡ fired.tape
      → after.reader ≡ fired.reader → after.done ≡ fired.done + 1
      → machine_view after.machine ≡ renewed fired.reader (machine_view fired.machine)
      → words ≡ words_at (machine_view fired.machine).words fired.tape
      → HasDoneRound plan read items past words after
  done_round go_on fired after words many limit went place over circuit order tape reader done
      machine own =
      let next = machine_view fired.machine in
      let one_more : suc before.done < 2 ^ 32 = subst (λ n. n < 2 ^ 32) (add-one before.done)
      limit in
      let gone = go_on plan is.begin is.later items is.old is.circuit is.started before.reader
      before.done past (machine_view before.machine) next one_more many is.gone
      (went_over (Went next) went) in record {
        now = more_past past next;
        more = ap (λ l. past after.tape ++ l)
            (ap (words_at next.words) tape ∙ sym own);
        is = record {
          begin = is.begin;
          later = is.later ++ items;
          is_read = ap (λ l. l ++ items) is.is_read ∙ append_assoc is.begin is.later items;
          old = is.old;
          circuit = is.circuit;
          started = is.started;
          gone = gone_as (suc before.done) after.done before.reader after.reader
              (more_past past next) (is.later ++ items) (renewed before.reader next)
              (machine_view after.machine)
              (done ∙ ap (λ n. n + 1) place.done ∙ add-one before.done)
              (reader ∙ place.reader)
              (machine ∙ ap (λ r. renewed r next) place.reader) gone;
          input = items;
          circuit_is = ap circuit_view circuit ∙ over
              ∙ ap (λ (c : CircuitView). window items c) is.circuit_is;
          firings = ap (λ (o : Order). firings_of (units_of o)) (order ∙ place.order)
              ∙ is.firings;
        };
      }

  pub round_stops : LivePlansFault → (why : Stop) (words : List (List Word)) (now : MachineView)
      → length items ≡ each_of plan
      → HasGone (order_run (window items (circuit_view before.circuit))
      (firings_of (units_of before.order)) (machine_view before.machine)) (Err why) words now
      → IsRoundStop plan read items past before.done why
  round_stops fault (stop.Fault node firing cause) words now many gone =
      λ tree more left program suffices.
      let over = ap (λ l. l ++ (items ++ more)) is.is_read in
      subst (λ l. ComesToAnswer tree plan l (before.done + suc left) (RoundFault before.done
      (record { node = node; firing = firing; cause = cause }) past)) (sym over)
      (fault tree plan is.begin is.later items more is.old is.circuit is.started before.reader
      before.done left past (machine_view before.machine) node firing cause program
      (subst (λ l. Suffices plan l (before.done + suc left)) over suffices) many is.gone
      (went_over (Stopped node firing cause) gone.0))
  round_stops fault stop.NoMemory words now many gone = tt
