-- A restarted graph's states with the numbers of whole lives: the graph goes on through these.
use Rattle.std.proofs.Common.{◌≡◌, refl, ap, ◌∙◌, ℕ, ◌+◌, ℤ, List, [], Option, arith}
use mathlib.Core.Path.{fun_ext}
use Rattle.strc_work_meaning.specs.declared.fault.Cause.{Cause}
use Rattle.strc_work_meaning.specs.declared.word.Word.{Word}
use Rattle.strc_elab_dataflow.specs.Flat as flat
use Rattle.strc_elab_dataflow.specs.Histories.{Run}
use Rattle.strc_elab_dataflow.specs.Node.{ByPort}
use Rattle.strc_elab_dataflow.specs.Queues.{FifoProgress, FifoProgress.FifoWent}
use Rattle.strc_elab_dataflow.specs.Queues.{FifoProgress.FifoStopped, fifo_go}
use Rattle.strc_elab_graph.specs.Graphs.{NodeCode}
use Rattle.strc_elab_graph.specs.Meaning.{node_meaning}
use Rattle.strc_sched_laws.specs.Fits.{Queues}
use Rattle.strc_elab_dataflow.specs.Restart.{restarted_meaning, restarted, numbered_on, AreSame}
use Rattle.strc_elab_dataflow.specs.Restart.{GoAlike}
use Rattle.strc_elab_dataflow.proofs.Restart.{go_alike}
use Rattle.strc_elab_dataflow.proofs.Fits.{fifo_same}

module _ (from : Queues) where
  abbrev pub lifted_run : (node : ℕ) → Run (List ℤ) Cause Word → Run (List ℤ) Cause Word
  lifted_run node run = record {
    fired = (from.runs node).fired + run.fired;
    state = run.state;
    pushes = run.pushes;
    words = run.words;
    fault = run.fault;
  }

  abbrev pub lifted : Queues → Queues
  lifted again = record {
    runs = λ node. lifted_run node (again.runs node);
    queues = again.queues;
  }

  abbrev pub lifted_progress : FifoProgress (List ℤ) Cause Word → FifoProgress (List ℤ) Cause Word
  lifted_progress (FifoWent again) = FifoWent (lifted again)
  lifted_progress (FifoStopped stop) = FifoStopped (numbered_on from stop)

  -- the state without what had been pushed and written
  abbrev bare : Queues
  bare = record {
    runs = λ node. record {
      fired = (from.runs node).fired;
      state = (from.runs node).state;
      pushes = λ port. [];
      words = [];
      fault = (from.runs node).fault;
    };
    queues = from.queues;
  }

  run_same : (node : ℕ) (now again : Queues) → AreSame bare now again
      → now.runs node ≡ lifted_run node (again.runs node)
  run_same node now again same =
      let run = now.runs node in
      ap (λ (n : ℕ). record {
        fired = n;
        state = run.state;
        pushes = run.pushes;
        words = run.words;
        fault = run.fault;
      }) (same.fired node)
      ∙ ap (λ (l : List ℤ). record {
        fired = (from.runs node).fired + (again.runs node).fired;
        state = l;
        pushes = run.pushes;
        words = run.words;
        fault = run.fault;
      }) (same.state node)
      ∙ ap (λ (p : ByPort). record {
        fired = (from.runs node).fired + (again.runs node).fired;
        state = (again.runs node).state;
        pushes = p;
        words = run.words;
        fault = run.fault;
      }) (fun_ext (λ port. same.pushes node port))
      ∙ ap (λ (l : List Word). record {
        fired = (from.runs node).fired + (again.runs node).fired;
        state = (again.runs node).state;
        pushes = (again.runs node).pushes;
        words = l;
        fault = run.fault;
      }) (same.words node)
      ∙ ap (λ (f : Option Cause). record {
        fired = (from.runs node).fired + (again.runs node).fired;
        state = (again.runs node).state;
        pushes = (again.runs node).pushes;
        words = (again.runs node).words;
        fault = f;
      }) (same.fault node)

  same_lifted : (now again : Queues) → AreSame bare now again → now ≡ lifted again
  same_lifted now again same =
      ap (λ (runs : ℕ → Run (List ℤ) Cause Word). record { runs = runs; queues = now.queues })
      (fun_ext (λ node. run_same node now again same))
      ∙ ap (λ (queues : ℕ → ByPort). record {
        runs = λ node. lifted_run node (again.runs node);
        queues = queues;
      }) (fun_ext (λ node. fun_ext (λ port. same.queues node port)))

  lifted_same : (again : Queues) → AreSame bare (lifted again) again
  lifted_same again = record {
    fired = λ node. refl;
    state = λ node. refl;
    pushes = λ node port. refl;
    words = λ node. refl;
    fault = λ node. refl;
    queues = λ node port. refl;
  }

  progress_same : (now again : FifoProgress (List ℤ) Cause Word) → GoAlike bare now again
      → now ≡ lifted_progress again
  unfolding numbered_on
  progress_same (FifoWent now) (FifoWent again) same = ap FifoWent (same_lifted now again same)
  progress_same (FifoStopped stop) (FifoStopped other) same = ap FifoStopped same
  progress_same (FifoWent now) (FifoStopped stop) same = absurd same
  progress_same (FifoStopped stop) (FifoWent again) same = absurd same

  -- an order comes to the same, with the numbers of whole lives
  pub lifted_go : (graph : flat.Graph NodeCode) (order : List ℕ) (again : Queues)
      → fifo_go node_meaning graph order (lifted again)
      ≡ lifted_progress (fifo_go (restarted_meaning node_meaning) (restarted from graph) order
      again)
  unfolding restarted
  lifted_go graph order again =
      progress_same (fifo_go node_meaning graph order (lifted again))
      (fifo_go (restarted_meaning node_meaning) (restarted bare graph) order again)
      (go_alike node_meaning graph bare order (lifted again) again (lifted_same again))

  -- where the graph went on, the restarted graph did
  pub lowered : (again : FifoProgress (List ℤ) Cause Word) (now : Queues)
      → lifted_progress again ≡ FifoWent now
      → (other : Queues) × (again ≡ FifoWent other) × (lifted other ≡ now)
  lowered (FifoWent other) now e = (other, refl, fifo_same (lifted other) now e)
  lowered (FifoStopped stop) now e = absurd (grind arith)
