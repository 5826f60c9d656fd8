-- The machine over queues does what the machine over histories does.
use Rattle.std.proofs.Common.{◌≡◌, refl, sym, ap, ◌∙◌, subst, ℕ, zero, suc, ◌+◌, ◌<◌, ◌≤◌, Bool}
use Rattle.std.proofs.Common.{true, false, cond, ◌&&◌, eqb, leb, ltb, List, [], ◌∷◌, ◌++◌, length}
use Rattle.std.proofs.Common.{take, drop, Option, Some, None, ℤ, arith, append_assoc, append-nil}
use Rattle.std.proofs.Common.{length-append, length-drop, eqb-true, drop-drop, leb-true, leb-false}
use Rattle.std.proofs.Common.{le-leb, ltb-true}
use mathlib.Core.Path.{fun_ext}
use Rattle.std.proofs.lemmas.List.{drop-append-le}
use Rattle.std.proofs.lemmas.Bool.{lt-leb}
use Rattle.strc_elab_dataflow.specs.Node.{ByPort, Fired, Fired.Fires, Fired.Faults, Meaning, total}
use Rattle.strc_elab_dataflow.specs.Histories.{Run, all_below, windows, finds, initial_run}
use Rattle.strc_elab_dataflow.specs.Histories.{after_firing}
use Rattle.strc_elab_dataflow.specs.Histories.{advance_if, advance}
use Rattle.strc_elab_dataflow.specs.Flat.{Origin, Origin.Nowhere, Origin.Input, Origin.Port, Source}
use Rattle.strc_elab_dataflow.specs.Flat.{Graph, items_of, arrived}
use Rattle.strc_elab_dataflow.specs.Machine.{Stop, Progress, Progress.Went, Progress.Stopped, put}
use Rattle.strc_elab_dataflow.specs.Machine.{at_first, unless_faulted, fired_once, go}
use Rattle.strc_elab_dataflow.specs.Answer.{Outcome, Outcome.StartupFault, Outcome.RoundFault}
use Rattle.strc_elab_dataflow.specs.Answer.{words_of}
use Rattle.strc_elab_dataflow.specs.Answer.{round_outcome, rounds, startup_outcome, whole_run}
use Rattle.strc_elab_dataflow.specs.Queues.{fifo_round_outcome, fifo_rounds, fifo_startup_outcome}
use Rattle.strc_elab_dataflow.specs.Queues.{fifo_run, Fifo, FifoProgress, FifoProgress.FifoWent}
use Rattle.strc_elab_dataflow.specs.Queues.{FifoProgress.FifoStopped, added, holds, fronts, moved}
use Rattle.strc_elab_dataflow.specs.Queues.{fifo_after, fifo_if, fifo_fire, fifo_then, fifo_go}
use Rattle.strc_elab_dataflow.specs.Queues.{IsQueued}
use Rattle.strc_elab_dataflow.specs.Queues.{IsAlike, fifo_at_first, TakesWithinWindow}
use Rattle.strc_elab_dataflow.proofs.Runs.{found_at}

pub all_same : (n : ℕ) (f g : ℕ → Bool) → ((i : ℕ) → i < n → f i ≡ g i)
    → all_below n f ≡ all_below n g
unfolding all_below
all_same zero f g h = refl
all_same (suc n) f g h = ap (λ (b : Bool). b && f n) (all_same n f g (λ i less. h i (omega arith)))
    ∙ ap (λ (b : Bool). all_below n g && b) (h n (omega arith))

window_test : (w t : ℕ) (xs : List ℤ) → t ≤ length xs → (test : Bool)
    → leb (t + w) (length xs) ≡ test → leb w (length (drop t xs)) ≡ test
window_test w t xs less true e = le-leb w (length (drop t xs))
    (omega (arith, leb-true (t + w) (length xs) e, length-drop t xs))
window_test w t xs less false e = lt-leb w (length (drop t xs))
    (omega (arith, leb-false (t + w) (length xs) e, length-drop t xs))

module _ {Code State Cause Word : Type 0} (meaning : Meaning Code State Cause Word)
    (graph : Graph Code) (input : List ℤ) (within : TakesWithinWindow meaning graph) where
  come : (ℕ → Run State Cause Word) → ℕ → ByPort
  come now node port = arrived input now (graph.source node port)

  holds-finds : (now : Fifo State Cause Word) (node : ℕ) → IsQueued meaning graph input now
      → holds meaning graph node (now.runs node).fired (now.queues node)
      ≡ finds meaning (graph.code node) (now.runs node).fired (come now.runs node)
  unfolding holds finds come
  holds-finds now node queued =
      all_same (meaning.ports (graph.code node))
      (λ port. leb (meaning.window (graph.code node) (now.runs node).fired port)
      (length (now.queues node port)))
      (λ port. leb (total (meaning.popped (graph.code node)) (now.runs node).fired port
      + meaning.window (graph.code node) (now.runs node).fired port)
      (length (arrived input now.runs (graph.source node port))))
      (λ port less.
      ap (λ (l : List ℤ). leb (meaning.window (graph.code node) (now.runs node).fired port)
      (length l)) (queued.rest node port less)
      ∙ window_test (meaning.window (graph.code node) (now.runs node).fired port)
      (total (meaning.popped (graph.code node)) (now.runs node).fired port)
      (arrived input now.runs (graph.source node port)) (queued.came node port less)
      (leb (total (meaning.popped (graph.code node)) (now.runs node).fired port
      + meaning.window (graph.code node) (now.runs node).fired port)
      (length (arrived input now.runs (graph.source node port)))) refl)

  front_by : (w t : ℕ) (queue xs : List ℤ) (test : Bool) → (test ≡ true → queue ≡ drop t xs)
      → cond test (take w queue) [] ≡ cond test (take w (drop t xs)) []
  front_by w t queue xs true h = ap (take w) (h refl)
  front_by w t queue xs false h = refl

  fronts-windows : (now : Fifo State Cause Word) (node : ℕ) → IsQueued meaning graph input now
      → fronts meaning graph node (now.runs node).fired (now.queues node)
      ≡ windows meaning (graph.code node) (now.runs node).fired (come now.runs node)
  unfolding fronts windows come
  fronts-windows now node queued =
      fun_ext (λ port.
      front_by (meaning.window (graph.code node) (now.runs node).fired port)
      (total (meaning.popped (graph.code node)) (now.runs node).fired port)
      (now.queues node port) (arrived input now.runs (graph.source node port))
      (ltb port (meaning.ports (graph.code node)))
      (λ e. queued.rest node port (ltb-true port (meaning.ports (graph.code node)) e)))

  put_same : (now : ℕ → Run State Cause Word) (node : ℕ) → put now node (now node) ≡ now
  unfolding put
  put_same now node = fun_ext (λ other. by_test other (eqb other node) refl)
    where
      by_test : (other : ℕ) (test : Bool) → eqb other node ≡ test
          → cond test (now node) (now other) ≡ now other
      by_test other true e = ap now (sym (eqb-true other node e))
      by_test other false e = refl

  -- A node's run with a firing more pushes what it pushed and what the firing pushes.
  arrived_added : (now : ℕ → Run State Cause Word) (node : ℕ) (run : Run State Cause Word)
      (pushes : ByPort) → ((port : ℕ) → run.pushes port ≡ (now node).pushes port ++ pushes port)
      → (source : Source) → arrived input (put now node run) source ≡ arrived input now source
      ++ added node pushes source.origin
  unfolding arrived items_of added put
  arrived_added now node run pushes h source =
      ap (λ (l : List ℤ). source.enqueued ++ l) (by_origin source.origin)
      ∙ sym (append_assoc source.enqueued (items_of input now source.origin)
      (added node pushes source.origin))
    where
      by_test : (u q : ℕ) (test : Bool) → eqb u node ≡ test
          → (cond test run (now u)).pushes q ≡ (now u).pushes q ++ cond test (pushes q) []
      by_test u q true e = h q ∙ ap (λ (n : ℕ). (now n).pushes q ++ pushes q)
          (sym (eqb-true u node e))
      by_test u q false e = sym (append-nil ((now u).pushes q))

      by_origin : (origin : Origin) → items_of input (put now node run) origin
          ≡ items_of input now origin ++ added node pushes origin
      by_origin Nowhere = refl
      by_origin Input = sym (append-nil input)
      by_origin (Port u q) = by_test u q (eqb u node) refl

  queue_by : (t step : ℕ) (queue xs new : List ℤ) → queue ≡ drop t xs → t + step ≤ length xs
      → drop step queue ++ new ≡ drop (t + step) (xs ++ new)
  queue_by t step queue xs new e h = ap (λ (l : List ℤ). drop step l ++ new) e
      ∙ ap (λ (l : List ℤ). l ++ new) (drop-drop step t xs)
      ∙ sym (drop-append-le (t + step) xs new h)

  -- The queues after a firing that doesn't fault.
  queued_next :
      (now : Fifo State Cause Word) (node : ℕ) → IsQueued meaning graph input now
      → finds meaning (graph.code node) (now.runs node).fired (come now.runs node) ≡ true
      → (state : State) (pushes : ByPort) (words : List Word)
      → IsQueued meaning graph input (record {
        runs = put now.runs node (after_firing meaning (graph.code node) (now.runs node)
            (Fires state pushes words));
        queues =
            moved meaning graph node (now.runs node).fired now.queues pushes;
      })
  unfolding put after_firing moved total come
  queued_next now node queued found state pushes words = record {
    faultless = λ u. fault_by u (eqb u node);
    came = λ u port less. omega (
      arith,
      fired_total u port (eqb u node) refl,
      step_fits u port less (eqb u node) refl,
      ap length (all_added u port),
      length-append (old u port) (added node pushes (graph.source u port).origin),
    );
    rest = λ u port less.
        queue_by (total (meaning.popped (graph.code u)) (now.runs u).fired port) (step u port)
        (now.queues u port) (old u port) (added node pushes (graph.source u port).origin)
        (queued.rest u port less) (step_fits u port less (eqb u node) refl)
        ∙ ap (λ (n : ℕ). drop n (old u port ++ added node pushes (graph.source u port).origin))
        (sym (fired_total u port (eqb u node) refl))
        ∙ ap (drop (total (meaning.popped (graph.code u)) (put now.runs node next u).fired port))
        (sym (all_added u port));
  }
    where
      next : Run State Cause Word
      next = after_firing meaning (graph.code node) (now.runs node) (Fires state pushes words)

      old : ℕ → ℕ → List ℤ
      old u port = arrived input now.runs (graph.source u port)

      step : ℕ → ℕ → ℕ
      step u port = cond (eqb u node) (meaning.popped (graph.code node) (now.runs node).fired port)
          0

      all_added : (u port : ℕ) → arrived input (put now.runs node next) (graph.source u port)
          ≡ old u port ++ added node pushes (graph.source u port).origin
      all_added u port = arrived_added now.runs node next pushes (λ q. refl) (graph.source u port)

      fault_by : (u : ℕ) (test : Bool) → (cond test next (now.runs u)).fault ≡ None
      fault_by u true = refl
      fault_by u false = queued.faultless u

      fired_total : (u port : ℕ) (test : Bool) → eqb u node ≡ test
          → total (meaning.popped (graph.code u)) (cond test next (now.runs u)).fired port
          ≡ total (meaning.popped (graph.code u)) (now.runs u).fired port
          + cond test (meaning.popped (graph.code node) (now.runs node).fired port) 0
      fired_total u port true e =
          subst (λ (v : ℕ). total (meaning.popped (graph.code v)) (suc (now.runs node).fired) port
          ≡ total (meaning.popped (graph.code v)) (now.runs v).fired port
          + meaning.popped (graph.code node) (now.runs node).fired port)
          (sym (eqb-true u node e)) refl
      fired_total u port false e = omega arith

      step_fits : (u port : ℕ) → port < meaning.ports (graph.code u) → (test : Bool)
          → eqb u node ≡ test → total (meaning.popped (graph.code u)) (now.runs u).fired port
          + cond test (meaning.popped (graph.code node) (now.runs node).fired port) 0
          ≤ length (old u port)
      step_fits u port less true e =
          subst (λ (v : ℕ). port < meaning.ports (graph.code v)
          → total (meaning.popped (graph.code v)) (now.runs v).fired port
          + meaning.popped (graph.code node) (now.runs node).fired port ≤ length (old v port))
          (sym (eqb-true u node e))
          (λ here. omega (
            arith,
            found_at meaning (graph.code node) (now.runs node).fired
                (come now.runs node) found port here,
            within node (now.runs node).fired port here,
          )) less
      step_fits u port less false e = omega (arith, queued.came u port less)

  -- What one firing is on histories, and on queues.
  abbrev IsStep : (ℕ → Run State Cause Word) → ℕ → Run State Cause Word
      → FifoProgress State Cause Word → Type 0
  IsStep now node run (FifoWent fifo) = (run.fault ≡ None) × (put now node run ≡ fifo.runs)
      × IsQueued meaning graph input fifo
  IsStep now node run (FifoStopped stop) =
      (cause : Cause) × (run.fault ≡ Some cause)
      × (stop ≡ record { node = node; firing = run.fired; cause = cause })

  step_of :
      (now : Fifo State Cause Word) (node : ℕ) → IsQueued meaning graph input now
      → finds meaning (graph.code node) (now.runs node).fired (come now.runs node) ≡ true
      → (outcome : Fired State Cause Word)
      → IsStep now.runs node (after_firing meaning (graph.code node) (now.runs node) outcome)
      (fifo_after meaning graph now node outcome)
  unfolding fifo_after after_firing
  step_of now node queued found (Fires state pushes words) =
      (refl, refl, queued_next now node queued found state pushes words)
  step_of now node queued found (Faults cause) = (cause, refl, refl)

  step_by :
      (now : Fifo State Cause Word) (node : ℕ) → IsQueued meaning graph input now
      → (found : Bool) → finds meaning (graph.code node) (now.runs node).fired (come now.runs node)
      ≡ found
      → IsStep now.runs node (advance_if meaning (graph.code node) (come now.runs node)
      (now.runs node) None found) (fifo_if meaning graph now node found)
  unfolding advance_if fifo_if
  step_by now node queued true e = rw (fronts-windows now node queued)
      (step_of now node queued e (meaning.fire (graph.code node) (now.runs node).fired
      (now.runs node).state (windows meaning (graph.code node) (now.runs node).fired
      (come now.runs node))))
  step_by now node queued false e = (queued.faultless node, put_same now.runs node, queued)

  step : (now : Fifo State Cause Word) (node : ℕ) → IsQueued meaning graph input now
      → IsStep now.runs node (fired_once meaning graph input now.runs node)
      (fifo_fire meaning graph now node)
  unfolding fired_once advance fifo_fire come
  step now node queued =
      subst
      (λ (fault : Option Cause). IsStep now.runs node
      (advance_if meaning (graph.code node) (come now.runs node) (now.runs node) fault
      (finds meaning (graph.code node) (now.runs node).fired (come now.runs node)))
      (fifo_if meaning graph now node (holds meaning graph node (now.runs node).fired
      (now.queues node))))
      (sym (queued.faultless node))
      (rw (holds-finds now node queued) (step_by now node queued
      (finds meaning (graph.code node) (now.runs node).fired (come now.runs node)) refl))

  on_step :
      (now : ℕ → Run State Cause Word) (node : ℕ) (order : List ℕ) (run : Run State Cause Word)
      → ((fifo : Fifo State Cause Word) → IsQueued meaning graph input fifo
      → IsAlike meaning graph input (go meaning graph input order fifo.runs)
      (fifo_go meaning graph order fifo))
      → (progress : FifoProgress State Cause Word) → IsStep now node run progress
      → IsAlike meaning graph input (unless_faulted node run run.fault
      (go meaning graph input order (put now node run)))
      (fifo_then (fifo_go meaning graph order) progress)
  unfolding unless_faulted fifo_then
  on_step now node order run ih (FifoWent fifo) s = rw s.1 (rw s.0 (ih fifo s.2))
  on_step now node order run ih (FifoStopped stop) s = rw s.1 (sym s.2)

  -- The two machines do the same.
  pub machines_alike : (order : List ℕ) (now : Fifo State Cause Word)
      → IsQueued meaning graph input now → IsAlike meaning graph input
      (go meaning graph input order now.runs) (fifo_go meaning graph order now)
  unfolding go fifo_go
  machines_alike [] now queued = (refl, queued)
  machines_alike (node ∷ order) now queued =
      on_step now.runs node order (fired_once meaning graph input now.runs node)
      (machines_alike order) (fifo_fire meaning graph now node) (step now node queued)

  -- At first each queue holds what is enqueued there.
  pub queued_at_first : IsQueued meaning graph input (fifo_at_first meaning graph input)
  unfolding fifo_at_first initial_run total
  queued_at_first = record {
    faultless = λ node. refl;
    came = λ node port less. omega arith;
    rest =
        λ node port less. refl;
  }

  module _ (round_order : List ℕ) where
    same_round :
        (q : ℕ) (now : Fifo State Cause Word)
        (later : (ℕ → Run State Cause Word) → Outcome Cause Word)
        (fifo_later : Fifo State Cause Word → Outcome Cause Word)
        → ((next : Fifo State Cause Word) → IsQueued meaning graph input next
        → fifo_later next ≡ later next.runs)
        → (progress : Progress State Cause Word) (fifo : FifoProgress State Cause Word)
        → IsAlike meaning graph input progress fifo
        → fifo_round_outcome meaning graph input round_order q (words_of now.runs) fifo fifo_later
        ≡ round_outcome meaning graph input round_order q (words_of now.runs) progress later
    unfolding fifo_round_outcome round_outcome
    same_round q now later fifo_later same (Went next) (FifoWent fifo) alike =
        same fifo alike.1 ∙ ap later alike.0
    same_round q now later fifo_later same (Went next) (FifoStopped stop) alike = absurd alike
    same_round q now later fifo_later same (Stopped stop) (FifoWent fifo) alike = absurd alike
    same_round q now later fifo_later same (Stopped stop) (FifoStopped other) alike =
        ap {A = Stop Cause} {B = Outcome Cause Word} (λ s. RoundFault q s (words_of now.runs))
        (sym alike)

    same_rounds : (left q : ℕ) (now : Fifo State Cause Word) → IsQueued meaning graph input now
        → fifo_rounds meaning graph input round_order left q now
        ≡ rounds meaning graph input round_order left q now.runs
    unfolding fifo_rounds rounds
    same_rounds zero q now queued = refl
    same_rounds (suc left) q now queued =
        same_round q now (rounds meaning graph input round_order left (suc q))
        (fifo_rounds meaning graph input round_order left (suc q)) (same_rounds left (suc q))
        (go meaning graph input round_order now.runs) (fifo_go meaning graph round_order now)
        (machines_alike round_order now queued)

    same_startup : (k : ℕ) (progress : Progress State Cause Word)
        (fifo : FifoProgress State Cause Word) → IsAlike meaning graph input progress fifo
        → fifo_startup_outcome meaning graph input round_order k fifo
        ≡ startup_outcome meaning graph input round_order k progress
    unfolding fifo_startup_outcome startup_outcome
    same_startup k (Went now) (FifoWent fifo) alike =
        same_rounds k 0 fifo alike.1 ∙ ap (rounds meaning graph input round_order k 0) alike.0
    same_startup k (Went now) (FifoStopped stop) alike = absurd alike
    same_startup k (Stopped stop) (FifoWent fifo) alike = absurd alike
    same_startup k (Stopped stop) (FifoStopped other) alike = ap StartupFault (sym alike)

    -- The run over queues is the run over histories.
    pub fifo_run-whole_run : (startup_order : List ℕ) (k : ℕ)
        → fifo_run meaning graph input round_order startup_order k
        ≡ whole_run meaning graph input round_order startup_order k
    unfolding fifo_run whole_run at_first fifo_at_first
    fifo_run-whole_run startup_order k =
        same_startup k (go meaning graph input startup_order (at_first meaning graph))
        (fifo_go meaning graph startup_order (fifo_at_first meaning graph input))
        (machines_alike startup_order (fifo_at_first meaning graph input) queued_at_first)
