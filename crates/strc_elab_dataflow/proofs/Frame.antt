-- A stage's own queues go along with anything that stands in front of the queues of other nodes
-- and before its words; also over a graph that differs at ports without items.
use Rattle.std.proofs.Common.{◌≡◌, refl, sym, ap, ◌∙◌, subst, ℕ, suc, ◌<◌, Bool}
use Rattle.std.proofs.Common.{true, false, cond, eqb, leb, ltb, List, [], ◌∷◌, ◌++◌, length, take}
use Rattle.std.proofs.Common.{drop, None, ℤ, arith, append_assoc, eqb-true, le-leb}
use Rattle.std.proofs.Common.{ltb-true}
use mathlib.Core.Path.{fun_ext}
use Rattle.strc_elab_dataflow.specs.Node.{ByPort, Fired, Fired.Fires, Fired.Faults, Meaning}
use Rattle.strc_elab_dataflow.specs.Histories.{Run, after_firing}
use Rattle.strc_elab_dataflow.specs.Flat.{Source, Graph}
use Rattle.strc_elab_dataflow.specs.Machine.{Stop, put}
use Rattle.strc_elab_dataflow.specs.Queues.{Fifo, FifoProgress, FifoProgress.FifoWent}
use Rattle.strc_elab_dataflow.specs.Queues.{FifoProgress.FifoStopped, added, holds, fronts, moved}
use Rattle.strc_elab_dataflow.specs.Queues.{fifo_after, fifo_if, fifo_fire, fifo_then, fifo_go}
use Rattle.strc_elab_dataflow.specs.Laws.{IsIdle}
use Rattle.strc_elab_dataflow.proofs.Queued.{all_same}
use Rattle.strc_elab_dataflow.specs.Cut.{AllIn}

-- A run with words in front of its own.
unfoldable pub spoken_after : {State Cause Word : Type 0} → List Word → Run State Cause Word
    → Run State Cause Word
spoken_after words run = record {
  fired = run.fired;
  state = run.state;
  pushes = run.pushes;
  words = words ++ run.words;
  fault = run.fault;
}

module _ {Code State Cause Word : Type 0} (meaning : Meaning Code State Cause Word)
    (size : ℕ) (code : ℕ → Code) (outer inner : ℕ → ℕ → Source) (size' : ℕ)
    (own : ℕ → Bool) (carries : ℕ → ℕ → Bool) (words : ℕ → List Word)
    (others : ℕ → Run State Cause Word) (front : ℕ → ByPort) where
  abbrev whole : Graph Code
  whole = record { size = size; code = code; source = outer }

  abbrev stage : Graph Code
  stage = record { size = size'; code = code; source = inner }

  -- A whole state and a stage's.
  pub record IsFramed (all here : Fifo State Cause Word) : Type 0 where
    pub own_runs : (v : ℕ) → own v ≡ true → all.runs v ≡ spoken_after (words v) (here.runs v)
    pub other_runs : (v : ℕ) → own v ≡ false → all.runs v ≡ others v
    pub own_queues : (v port : ℕ) → own v ≡ true → carries v port ≡ true
        → all.queues v port ≡ here.queues v port
    pub other_queues : (v port : ℕ) → own v ≡ false → carries v port ≡ true
        → all.queues v port ≡ front v port ++ here.queues v port

  -- Both stopped at the same fault, or both went on.
  abbrev pub AreFramed : (all here : FifoProgress State Cause Word) → Type 0
  AreFramed (FifoWent all) (FifoWent here) = IsFramed all here
  AreFramed (FifoWent all) (FifoStopped stop) = ⊥
  AreFramed (FifoStopped stop) (FifoWent here) = ⊥
  AreFramed (FifoStopped stop) (FifoStopped other) = stop ≡ other

  module _
      (same : (v port : ℕ) → carries v port ≡ true → (outer v port).origin ≡ (inner v port).origin)
      (live : (v port : ℕ) → own v ≡ true → port < meaning.ports (code v)
      → carries v port ≡ false → IsIdle meaning (code v) port) where
    module _ (all here : Fifo State Cause Word) (node : ℕ) (is_own : own node ≡ true)
        (framed : IsFramed all here) where
      fired_same : (all.runs node).fired ≡ (here.runs node).fired
      unfolding spoken_after
      fired_same = ap (λ (r : Run State Cause Word). r.fired) (framed.own_runs node is_own)

      state_same : (all.runs node).state ≡ (here.runs node).state
      unfolding spoken_after
      state_same = ap (λ (r : Run State Cause Word). r.state) (framed.own_runs node is_own)

      holds_by : (firing port : ℕ) → port < meaning.ports (code node) → (test : Bool)
          → carries node port ≡ test
          → leb (meaning.window (code node) firing port) (length (all.queues node port))
          ≡ leb (meaning.window (code node) firing port) (length (here.queues node port))
      holds_by firing port less true e =
          ap (λ (l : List ℤ). leb (meaning.window (code node) firing port) (length l))
          (framed.own_queues node port is_own e)
      holds_by firing port less false e =
          let idle = live node port is_own less e firing in
          le-leb (meaning.window (code node) firing port) (length (all.queues node port))
          (omega (arith, idle.0))
          ∙ sym (le-leb (meaning.window (code node) firing port) (length (here.queues node port))
          (omega (arith, idle.0)))

      holds_same : (firing : ℕ) → holds meaning whole node firing (all.queues node)
          ≡ holds meaning stage node firing (here.queues node)
      unfolding holds
      holds_same firing = all_same (meaning.ports (code node))
          (λ port. leb (meaning.window (code node) firing port) (length (all.queues node port)))
          (λ port. leb (meaning.window (code node) firing port) (length (here.queues node port)))
          (λ port less. holds_by firing port less (carries node port) refl)

      front_by : (firing port : ℕ) → port < meaning.ports (code node) → (test : Bool)
          → carries node port ≡ test
          → take (meaning.window (code node) firing port) (all.queues node port)
          ≡ take (meaning.window (code node) firing port) (here.queues node port)
      front_by firing port less true e = ap (take (meaning.window (code node) firing port))
          (framed.own_queues node port is_own e)
      front_by firing port less false e =
          let idle = live node port is_own less e firing in
          ap (λ w. take w (all.queues node port)) idle.0
          ∙ sym (ap (λ w. take w (here.queues node port)) idle.0)

      fronts_by : (firing port : ℕ) (test : Bool) → ltb port (meaning.ports (code node)) ≡ test
          → cond test (take (meaning.window (code node) firing port) (all.queues node port)) []
          ≡ cond test (take (meaning.window (code node) firing port) (here.queues node port)) []
      fronts_by firing port true e = front_by firing port
          (ltb-true port (meaning.ports (code node)) e) (carries node port) refl
      fronts_by firing port false e = refl

      fronts_same : (firing : ℕ) → fronts meaning whole node firing (all.queues node)
          ≡ fronts meaning stage node firing (here.queues node)
      unfolding fronts
      fronts_same firing = fun_ext (λ port. fronts_by firing port
          (ltb port (meaning.ports (code node))) refl)

      own_run_by : (v : ℕ) → own v ≡ true → (state : State) (pushes : ByPort) (new : List Word)
          → (test : Bool) → eqb v node ≡ test
          → cond test (after_firing meaning (code node) (all.runs node) (Fires state pushes new))
          (all.runs v)
          ≡ spoken_after (words v) (cond test (after_firing meaning (code node) (here.runs node)
          (Fires state pushes new)) (here.runs v))
      unfolding after_firing spoken_after
      own_run_by v v_own state pushes new true e = subst (λ (u : ℕ).
          after_firing meaning (code node) (all.runs node) (Fires state pushes new)
          ≡ spoken_after (words u) (after_firing meaning (code node) (here.runs node)
          (Fires state pushes new))) (sym (eqb-true v node e))
          (ap (λ (r : Run State Cause Word). after_firing meaning (code node) r
          (Fires state pushes new)) (framed.own_runs node is_own)
          ∙ ap (λ (ws : List Word). record {
            fired = suc (here.runs node).fired;
            state = state;
            pushes = λ port. (here.runs node).pushes port ++ pushes port;
            words = ws;
            fault = None;
          }) (append_assoc (words node) (here.runs node).words new))
      own_run_by v v_own state pushes new false e = framed.own_runs v v_own

      not_node : (v : ℕ) → own v ≡ false → eqb v node ≡ true → ⊥
      not_node v away e = let f : true ≡ false =
          sym is_own ∙ ap own (sym (eqb-true v node e)) ∙ away in grind arith

      other_run_by : (v : ℕ) → own v ≡ false → (run : Run State Cause Word) (test : Bool)
          → eqb v node ≡ test → cond test run (all.runs v) ≡ others v
      other_run_by v away run true e = absurd (not_node v away e)
      other_run_by v away run false e = framed.other_runs v away

      own_queue_by : (v port : ℕ) → own v ≡ true → carries v port ≡ true → (pushes : ByPort)
          → drop (cond (eqb v node) (meaning.popped (code node) (all.runs node).fired port) 0)
          (all.queues v port) ++ added node pushes (outer v port).origin
          ≡ drop (cond (eqb v node) (meaning.popped (code node) (here.runs node).fired port) 0)
          (here.queues v port) ++ added node pushes (inner v port).origin
      own_queue_by v port v_own carried pushes =
          rw fired_same (rw (framed.own_queues v port v_own carried)
          (rw (same v port carried) refl))

      other_queue_by : (v port : ℕ) → own v ≡ false → carries v port ≡ true → (pushes : ByPort)
          → (test : Bool) → eqb v node ≡ test
          → drop (cond test (meaning.popped (code node) (all.runs node).fired port) 0)
          (all.queues v port) ++ added node pushes (outer v port).origin
          ≡ front v port ++ (drop (cond test (meaning.popped (code node)
          (here.runs node).fired port) 0) (here.queues v port)
          ++ added node pushes (inner v port).origin)
      other_queue_by v port away carried pushes true e = absurd (not_node v away e)
      other_queue_by v port away carried pushes false e =
          rw (same v port carried) (ap (λ (l : List ℤ). l ++ added node pushes
          (inner v port).origin) (framed.other_queues v port away carried)
          ∙ append_assoc (front v port) (here.queues v port)
          (added node pushes (inner v port).origin))

      after_framed : (outcome : Fired State Cause Word)
          → AreFramed (fifo_after meaning whole all node outcome)
          (fifo_after meaning stage here node outcome)
      unfolding fifo_after put moved
      after_framed (Fires state pushes new) = record {
        own_runs = λ v v_own. own_run_by v v_own state pushes new (eqb v node) refl;
        other_runs = λ v away. other_run_by v away (after_firing meaning (code node)
            (all.runs node) (Fires state pushes new)) (eqb v node) refl;
        own_queues = λ v port v_own carried. own_queue_by v port v_own carried pushes;
        other_queues = λ v port away carried.
            other_queue_by v port away carried pushes (eqb v node) refl;
      }
      after_framed (Faults cause) = ap {A = ℕ} {B = Stop Cause}
          (λ f. record { node = node; firing = f; cause = cause }) fired_same

      if_framed : (test : Bool) → AreFramed (fifo_if meaning whole all node test)
          (fifo_if meaning stage here node test)
      unfolding fifo_if
      if_framed true = rw fired_same (rw state_same (rw (fronts_same (here.runs node).fired)
          (after_framed (meaning.fire (code node) (here.runs node).fired (here.runs node).state
          (fronts meaning stage node (here.runs node).fired (here.queues node))))))
      if_framed false = framed

      fire_framed : AreFramed (fifo_fire meaning whole all node)
          (fifo_fire meaning stage here node)
      unfolding fifo_fire
      fire_framed = rw fired_same (rw (holds_same (here.runs node).fired)
          (if_framed (holds meaning stage node (here.runs node).fired (here.queues node))))

    then_framed : (order : List ℕ) → ((all here : Fifo State Cause Word) → IsFramed all here
        → AreFramed (fifo_go meaning whole order all) (fifo_go meaning stage order here))
        → (all here : FifoProgress State Cause Word) → AreFramed all here
        → AreFramed (fifo_then (fifo_go meaning whole order) all)
        (fifo_then (fifo_go meaning stage order) here)
    unfolding fifo_then
    then_framed order ih (FifoWent all) (FifoWent here) framed = ih all here framed
    then_framed order ih (FifoWent all) (FifoStopped stop) framed = absurd framed
    then_framed order ih (FifoStopped stop) (FifoWent here) framed = absurd framed
    then_framed order ih (FifoStopped stop) (FifoStopped other) framed = framed

    -- An order of own nodes goes along with the frame.
    pub go_framed : (order : List ℕ) → AllIn own order → (all here : Fifo State Cause Word)
        → IsFramed all here
        → AreFramed (fifo_go meaning whole order all) (fifo_go meaning stage order here)
    unfolding fifo_go
    go_framed [] inside all here framed = framed
    go_framed (node ∷ order) inside all here framed =
        then_framed order (go_framed order inside.1) (fifo_fire meaning whole all node)
        (fifo_fire meaning stage here node) (fire_framed all here node inside.0 framed)
