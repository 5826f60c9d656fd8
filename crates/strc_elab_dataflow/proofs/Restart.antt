-- A graph goes on from a state as the graph restarted there does.
use Rattle.std.proofs.Common.{◌≡◌, refl, sym, ap, ◌∙◌, subst, ℕ, zero, suc, ◌+◌, Bool, true, false}
use Rattle.std.proofs.Common.{cond, eqb, ℤ, List, [], ◌∷◌, ◌++◌, drop, None}
use Rattle.std.proofs.Common.{arith, append_assoc, append-nil, eqb-true}
use mathlib.Core.Path.{fun_ext}
use Rattle.strc_elab_dataflow.specs.Node.{ByPort, Fired, Fired.Fires, Fired.Faults, Meaning}
use Rattle.strc_elab_dataflow.specs.Histories.{Run, after_firing, initial_run}
use Rattle.strc_elab_dataflow.specs.Flat.{Origin, Origin.Nowhere, Origin.Input, Origin.Port, Graph}
use Rattle.strc_elab_dataflow.specs.Flat.{arrived, items_of}
use Rattle.strc_elab_dataflow.specs.Machine.{Stop, put}
use Rattle.strc_elab_dataflow.specs.Answer.{Outcome, Outcome.Done, Outcome.RoundFault, words_of}
use Rattle.strc_elab_dataflow.specs.Queues.{Fifo, FifoProgress, FifoProgress.FifoWent, added, holds}
use Rattle.strc_elab_dataflow.specs.Queues.{FifoProgress.FifoStopped, fronts, moved, fifo_after}
use Rattle.strc_elab_dataflow.specs.Queues.{fifo_if}
use Rattle.strc_elab_dataflow.specs.Queues.{fifo_fire, fifo_then, fifo_go, fifo_at_first}
use Rattle.strc_elab_dataflow.specs.Queues.{fifo_rounds}
use Rattle.strc_elab_dataflow.specs.Queues.{fifo_round_outcome}
use Rattle.strc_elab_dataflow.specs.Restart.{Restarted, restarted_meaning, taken_in, restarted}
use Rattle.strc_elab_dataflow.specs.Restart.{AreSame}
use Rattle.strc_elab_dataflow.specs.Restart.{numbered_on, GoAlike, words_on, outcome_on}
use Rattle.strc_elab_dataflow.specs.Restart.{RestartedRunsAlike}

module _ {Code State Cause Word : Type 0} (meaning : Meaning Code State Cause Word)
    (graph : Graph Code) (from : Fifo State Cause Word) where
  abbrev Here : Type 0
  Here = Fifo State Cause Word

  abbrev again_meaning : Meaning (Restarted Code State) State Cause Word
  again_meaning = restarted_meaning meaning

  abbrev again_graph : Graph (Restarted Code State)
  again_graph = restarted from graph

  same_added : (node : ℕ) (pushes : ByPort) (origin : Origin)
      → added node pushes origin ≡ added node pushes (taken_in origin)
  unfolding added taken_in
  same_added node pushes Nowhere = refl
  same_added node pushes Input = refl
  same_added node pushes (Port u q) = refl

  same_queues : (now again : Here) → AreSame from now again → now.queues ≡ again.queues
  same_queues now again same = fun_ext (λ node. fun_ext (λ port. same.queues node port))

  same_holds : (node : ℕ) (now again : Here) → AreSame from now again
      → holds meaning graph node (now.runs node).fired (now.queues node)
      ≡ holds again_meaning again_graph node (again.runs node).fired (again.queues node)
  unfolding holds restarted_meaning restarted
  same_holds node now again same =
      rw (same.fired node) (rw (same_queues now again same) refl)

  same_fronts : (node : ℕ) (now again : Here) → AreSame from now again
      → fronts meaning graph node (now.runs node).fired (now.queues node)
      ≡ fronts again_meaning again_graph node (again.runs node).fired (again.queues node)
  unfolding fronts restarted_meaning restarted
  same_fronts node now again same =
      rw (same.fired node) (rw (same_queues now again same) refl)

  -- Both after a firing that doesn't fault.
  same_next : (node : ℕ) (now again : Here) → AreSame from now again
      → (state : State) (pushes : ByPort) (words : List Word)
      → AreSame from
      (record {
        runs = put now.runs node (after_firing meaning (graph.code node) (now.runs node)
            (Fires state pushes words));
        queues = moved meaning graph node (now.runs node).fired now.queues pushes;
      })
      (record {
        runs = put again.runs node (after_firing again_meaning (again_graph.code node)
            (again.runs node) (Fires state pushes words));
        queues = moved again_meaning again_graph node (again.runs node).fired again.queues pushes;
      })
  unfolding put after_firing moved restarted_meaning restarted
  same_next node now again same state pushes words = record {
    fired = λ u. fired_by u (eqb u node) refl;
    state = λ u. state_by u (eqb u node);
    pushes = λ u port. pushes_by u port (eqb u node) refl;
    words = λ u. words_by u (eqb u node) refl;
    fault = λ u. fault_by u (eqb u node);
    queues = λ u port.
        ap (λ (n : ℕ). drop (cond (eqb u node) (meaning.popped (graph.code node) n port) 0)
        (now.queues u port) ++ added node pushes (graph.source u port).origin) (same.fired node)
        ∙ ap (λ (l : List ℤ). drop (cond (eqb u node) (meaning.popped (graph.code node)
        ((from.runs node).fired + (again.runs node).fired) port) 0) l
        ++ added node pushes (graph.source u port).origin) (same.queues u port)
        ∙ ap (λ (l : List ℤ). drop (cond (eqb u node) (meaning.popped (graph.code node)
        ((from.runs node).fired + (again.runs node).fired) port) 0) (again.queues u port) ++ l)
        (same_added node pushes (graph.source u port).origin);
  }
    where
      now_run : Run State Cause Word
      now_run = after_firing meaning (graph.code node) (now.runs node) (Fires state pushes words)

      again_run : Run State Cause Word
      again_run = after_firing again_meaning (again_graph.code node) (again.runs node)
          (Fires state pushes words)

      fired_by : (u : ℕ) (test : Bool) → eqb u node ≡ test
          → (cond test now_run (now.runs u)).fired
          ≡ (from.runs u).fired + (cond test again_run (again.runs u)).fired
      fired_by u true e = subst (λ (v : ℕ). suc (now.runs node).fired
          ≡ (from.runs v).fired + suc (again.runs node).fired) (sym (eqb-true u node e))
          (omega (arith, same.fired node))
      fired_by u false e = same.fired u

      state_by : (u : ℕ) (test : Bool) → (cond test now_run (now.runs u)).state
          ≡ (cond test again_run (again.runs u)).state
      state_by u true = refl
      state_by u false = same.state u

      fault_by : (u : ℕ) (test : Bool) → (cond test now_run (now.runs u)).fault
          ≡ (cond test again_run (again.runs u)).fault
      fault_by u true = refl
      fault_by u false = same.fault u

      pushes_by : (u port : ℕ) (test : Bool) → eqb u node ≡ test
          → (cond test now_run (now.runs u)).pushes port
          ≡ (from.runs u).pushes port ++ (cond test again_run (again.runs u)).pushes port
      pushes_by u port true e = subst (λ (v : ℕ). (now.runs node).pushes port ++ pushes port
          ≡ (from.runs v).pushes port ++ ((again.runs node).pushes port ++ pushes port))
          (sym (eqb-true u node e))
          (ap (λ (l : List ℤ). l ++ pushes port) (same.pushes node port)
          ∙ append_assoc ((from.runs node).pushes port) ((again.runs node).pushes port)
          (pushes port))
      pushes_by u port false e = same.pushes u port

      words_by : (u : ℕ) (test : Bool) → eqb u node ≡ test
          → (cond test now_run (now.runs u)).words
          ≡ (from.runs u).words ++ (cond test again_run (again.runs u)).words
      words_by u true e = subst (λ (v : ℕ). (now.runs node).words ++ words
          ≡ (from.runs v).words ++ ((again.runs node).words ++ words))
          (sym (eqb-true u node e))
          (ap (λ (l : List Word). l ++ words) (same.words node)
          ∙ append_assoc (from.runs node).words (again.runs node).words words)
      words_by u false e = same.words u

  same_after : (node : ℕ) (now again : Here) → AreSame from now again
      → (outcome : Fired State Cause Word)
      → GoAlike from (fifo_after meaning graph now node outcome)
      (fifo_after again_meaning again_graph again node outcome)
  unfolding fifo_after numbered_on
  same_after node now again same (Fires state pushes words) =
      same_next node now again same state pushes words
  same_after node now again same (Faults cause) =
      ap {A = ℕ} {B = Stop Cause} (λ n. record { node = node; firing = n; cause = cause })
      (same.fired node)

  same_fire : (node : ℕ) (now again : Here) → AreSame from now again
      → meaning.fire (graph.code node) (now.runs node).fired (now.runs node).state
      (fronts meaning graph node (now.runs node).fired (now.queues node))
      ≡ again_meaning.fire (again_graph.code node) (again.runs node).fired (again.runs node).state
      (fronts again_meaning again_graph node (again.runs node).fired (again.queues node))
  unfolding restarted_meaning restarted
  same_fire node now again same =
      rw (same_fronts node now again same)
      (rw (same.fired node) (rw (same.state node) refl))

  same_if : (node : ℕ) (now again : Here) → AreSame from now again → (found : Bool)
      → GoAlike from (fifo_if meaning graph now node found)
      (fifo_if again_meaning again_graph again node found)
  unfolding fifo_if
  same_if node now again same true =
      rw (same_fire node now again same)
      (same_after node now again same
      (again_meaning.fire (again_graph.code node) (again.runs node).fired (again.runs node).state
      (fronts again_meaning again_graph node (again.runs node).fired (again.queues node))))
  same_if node now again same false = same

  same_firing : (node : ℕ) (now again : Here) → AreSame from now again
      → GoAlike from (fifo_fire meaning graph now node)
      (fifo_fire again_meaning again_graph again node)
  unfolding fifo_fire
  same_firing node now again same =
      rw (same_holds node now again same)
      (same_if node now again same
      (holds again_meaning again_graph node (again.runs node).fired (again.queues node)))

  same_then : (order : List ℕ) → ((now again : Here) → AreSame from now again
      → GoAlike from (fifo_go meaning graph order now)
      (fifo_go again_meaning again_graph order again))
      → (now again : FifoProgress State Cause Word) → GoAlike from now again
      → GoAlike from (fifo_then (fifo_go meaning graph order) now)
      (fifo_then (fifo_go again_meaning again_graph order) again)
  unfolding fifo_then
  same_then order rest (FifoWent now) (FifoWent again) alike = rest now again alike
  same_then order rest (FifoWent now) (FifoStopped stop) alike = absurd alike
  same_then order rest (FifoStopped stop) (FifoWent again) alike = absurd alike
  same_then order rest (FifoStopped stop) (FifoStopped other) alike = alike

  pub go_alike : (order : List ℕ) (now again : Here) → AreSame from now again
      → GoAlike from (fifo_go meaning graph order now)
      (fifo_go again_meaning again_graph order again)
  unfolding fifo_go
  go_alike [] now again same = same
  go_alike (node ∷ order) now again same =
      same_then order (go_alike order) (fifo_fire meaning graph now node)
      (fifo_fire again_meaning again_graph again node) (same_firing node now again same)

  none_come : (origin : Origin) → items_of []
      (λ v. initial_run again_meaning (again_graph.code v)) (taken_in origin) ≡ []
  unfolding items_of taken_in initial_run
  none_come Nowhere = refl
  none_come Input = refl
  none_come (Port u q) = refl

  pub same_at_first : ((node : ℕ) → (from.runs node).fault ≡ None)
      → AreSame from from (fifo_at_first again_meaning again_graph [])
  unfolding fifo_at_first initial_run arrived restarted_meaning restarted
  same_at_first faultless = record {
    fired = λ node. omega arith;
    state = λ node. refl;
    pushes = λ node port. sym (append-nil ((from.runs node).pushes port));
    words = λ node. sym (append-nil (from.runs node).words);
    fault = faultless;
    queues = λ node port.
        sym (append-nil (from.queues node port))
        ∙ ap (λ (l : List ℤ). from.queues node port ++ l)
        (sym (none_come (graph.source node port).origin));
  }

  same_words : (now again : Here) → AreSame from now again
      → words_of now.runs ≡ words_on from (words_of again.runs)
  unfolding words_of words_on
  same_words now again same = fun_ext (λ node. same.words node)

  module _ (input : List ℤ) (round_order : List ℕ) where
    same_outcome : (q : ℕ) (now again : Here) → AreSame from now again
        → (later again_later : Here → Outcome Cause Word)
        → ((next other : Here) → AreSame from next other
        → later next ≡ outcome_on from (again_later other))
        → (progress other : FifoProgress State Cause Word) → GoAlike from progress other
        → fifo_round_outcome meaning graph input round_order q (words_of now.runs) progress later
        ≡ outcome_on from (fifo_round_outcome again_meaning again_graph [] round_order q
        (words_of again.runs) other again_later)
    unfolding fifo_round_outcome outcome_on
    same_outcome q now again same later again_later rest (FifoWent next) (FifoWent other) alike =
        rest next other alike
    same_outcome q now again same later again_later rest (FifoWent next) (FifoStopped stop) alike =
        absurd alike
    same_outcome q now again same later again_later rest (FifoStopped stop) (FifoWent other) alike =
        absurd alike
    same_outcome q now again same later again_later rest (FifoStopped stop) (FifoStopped other)
        alike =
        ap {A = Stop Cause} {B = Outcome Cause Word} (λ s. RoundFault q s (words_of now.runs)) alike
        ∙ ap {A = ℕ → List Word} {B = Outcome Cause Word}
        (λ w. RoundFault q (numbered_on from other) w) (same_words now again same)

    pub rounds_alike : (left q : ℕ) (now again : Here) → AreSame from now again
        → fifo_rounds meaning graph input round_order left q now
        ≡ outcome_on from (fifo_rounds again_meaning again_graph [] round_order left q again)
    unfolding fifo_rounds outcome_on
    rounds_alike zero q now again same =
        ap {A = ℕ → List Word} {B = Outcome Cause Word} (λ w. Done w) (same_words now again same)
    rounds_alike (suc left) q now again same =
        same_outcome q now again same
        (fifo_rounds meaning graph input round_order left (suc q))
        (fifo_rounds again_meaning again_graph [] round_order left (suc q))
        (rounds_alike left (suc q))
        (fifo_go meaning graph round_order now)
        (fifo_go again_meaning again_graph round_order again)
        (go_alike round_order now again same)

pub runs_alike : {Code State Cause Word : Type 0} → RestartedRunsAlike Code State Cause Word
runs_alike meaning graph from = (
  same_at_first meaning graph from,
  go_alike meaning graph from,
  rounds_alike meaning graph from,
)
