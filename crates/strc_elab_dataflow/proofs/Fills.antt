-- As long as no firing faults, the machine's state is a solution of the equations at its own
-- counts; so each queue's length is known by counts.
use Rattle.std.proofs.Common.{◌≡◌, refl, sym, ap, ◌∙◌, subst, ℕ, zero, suc, ◌+◌, ◌-◌, ◌<◌, ◌≤◌}
use Rattle.std.proofs.Common.{Bool, true, false, cond, eqb, List, [], ◌∷◌, length, Option}
use Rattle.std.proofs.Common.{Some, None, ℤ, arith, length-append, length-drop}
use Rattle.std.proofs.Common.{eqb-true}
use mathlib.Core.Path.{fun_ext}
use Rattle.strc_elab_dataflow.specs.Node.{ByPort, Meaning, total}
use Rattle.strc_elab_dataflow.specs.Histories.{Run, windows, finds, initial_run, advance_if}
use Rattle.strc_elab_dataflow.specs.Histories.{advance}
use Rattle.strc_elab_dataflow.specs.Histories.{runs}
use Rattle.strc_elab_dataflow.specs.Histories.{KeepsRates}
use Rattle.strc_elab_dataflow.specs.Flat.{Origin, Origin.Nowhere, Origin.Input, Origin.Port, Source}
use Rattle.strc_elab_dataflow.specs.Flat.{Graph, items_of, arrived, runs_at, Solves}
use Rattle.strc_elab_dataflow.specs.Order.{raised, counted, supply_of, supply, fill, IsReady}
use Rattle.strc_elab_dataflow.specs.Order.{IsOrder}
use Rattle.strc_elab_dataflow.specs.Machine.{Progress, Progress.Went, Progress.Stopped, put}
use Rattle.strc_elab_dataflow.specs.Machine.{at_first}
use Rattle.strc_elab_dataflow.specs.Machine.{unless_faulted, fired_once, go}
use Rattle.strc_elab_dataflow.specs.Queues.{Fifo, FifoProgress, FifoProgress.FifoWent}
use Rattle.strc_elab_dataflow.specs.Queues.{FifoProgress.FifoStopped, fifo_go, IsQueued, IsAlike}
use Rattle.strc_elab_dataflow.specs.Queues.{fifo_at_first, TakesWithinWindow}
use Rattle.strc_elab_dataflow.proofs.Runs.{Begins, finds_from, advance_longer}
use Rattle.strc_elab_dataflow.proofs.Runs.{advance_counts, pushes_if}
use Rattle.strc_elab_dataflow.proofs.Rates.{fired_at_most, fired_by}
use Rattle.strc_elab_dataflow.proofs.Queued.{machines_alike, queued_at_first}
use Rattle.strc_elab_dataflow.proofs.Invariant.{come_grows}

module _ {Code State Cause Word : Type 0} (meaning : Meaning Code State Cause Word) (code : Code)
  where
    -- What a run of one firing more needs.
    needs_if :
        (n : ℕ) (inputs : ByPort) (run : Run State Cause Word) → run.fired ≤ n
        → (fault : Option Cause) → run.fault ≡ fault → (found : Bool)
        → finds meaning code run.fired inputs ≡ found
        → (advance_if meaning code inputs run fault found).fired ≡ suc n
        → (run.fault ≡ None) × (finds meaning code run.fired inputs ≡ true) × (run.fired ≡ n)
    unfolding advance_if
    needs_if n inputs run below (Some cause) e found f counted = absurd (omega arith)
    needs_if n inputs run below None e false f counted = absurd (omega arith)
    needs_if n inputs run below None e true f counted = (
      e,
      f,
      omega (
        arith,
        counted,
        fired_by meaning code run
            (meaning.fire code run.fired run.state (windows meaning code run.fired inputs)),
      ),
    )

    -- Runs that did all their firings do the same over longer inputs.
    pub runs_longer : (n : ℕ) (xs ys : ByPort) → ((port : ℕ) → Begins (xs port) (ys port))
        → (runs meaning code n xs).fired ≡ n → runs meaning code n ys ≡ runs meaning code n xs
    unfolding runs advance
    runs_longer zero xs ys b counted = refl
    runs_longer (suc n) xs ys b counted =
        let needs = needs_if n xs (runs meaning code n xs) (fired_at_most meaning code n xs)
        (runs meaning code n xs).fault refl
        (finds meaning code (runs meaning code n xs).fired xs) refl counted in
        ap (advance meaning code ys) (runs_longer n xs ys b needs.2)
        ∙ advance_longer meaning code xs ys (runs meaning code n xs) b needs.1

went_same : {State Cause Word : Type 0} (a b : ℕ → Run State Cause Word)
    → ◌≡◌ {A = Progress State Cause Word} (Went a) (Went b) → a ≡ b
went_same a b e = cc

fifo_same : {State Cause Word : Type 0} (a b : Fifo State Cause Word)
    → ◌≡◌ {A = FifoProgress State Cause Word} (FifoWent a) (FifoWent b) → a ≡ b
fifo_same a b e = cc

module _ {Code State Cause Word : Type 0} (meaning : Meaning Code State Cause Word)
    (graph : Graph Code) (input : List ℤ)
    (keeps : (node : ℕ) → KeepsRates meaning (graph.code node)) where
  come : (ℕ → Run State Cause Word) → ℕ → ByPort
  come now node port = arrived input now (graph.source node port)

  -- Each node's run is its firings over what has come to it so far.
  pub record IsOwn (counts : ℕ → ℕ) (now : ℕ → Run State Cause Word) : Type 0 where
    pub own : (node : ℕ) → now node ≡ runs meaning (graph.code node) (counts node)
        (λ port. arrived input now (graph.source node port))
    pub fired : (node : ℕ) → (now node).fired ≡ counts node
    pub faultless : (node : ℕ) → (now node).fault ≡ None

  own_supply : (counts : ℕ → ℕ) (now : ℕ → Run State Cause Word) → IsOwn counts now
      → (source : Source) → length (arrived input now source)
      ≡ supply meaning graph input counts source
  unfolding arrived supply items_of supply_of
  own_supply counts now own source =
      length-append source.enqueued (items_of input now source.origin)
      ∙ ap (λ (n : ℕ). length source.enqueued + n) (by_origin source.origin)
    where
      by_origin : (origin : Origin) → length (items_of input now origin)
          ≡ supply_of meaning graph input counts origin
      by_origin Nowhere = refl
      by_origin Input = refl
      by_origin (Port node port) =
          ap (λ (r : Run State Cause Word). length (r.pushes port)) (own.own node)
          ∙ (keeps node).kept (counts node) (λ p. arrived input now (graph.source node p))
          (ap (λ (r : Run State Cause Word). r.fired) (sym (own.own node)) ∙ own.fired node)
          (ap (λ (r : Run State Cause Word). r.fault) (sym (own.own node)) ∙ own.faultless node)
          port

  own_found : (counts : ℕ → ℕ) (now : ℕ → Run State Cause Word) → IsOwn counts now → (node : ℕ)
      → IsReady meaning graph input counts node
      → finds meaning (graph.code node) (now node).fired (come now node) ≡ true
  unfolding come
  own_found counts now own node ready =
      rw (own.fired node)
      (finds_from meaning (graph.code node) (counts node) (come now node)
      (λ port less. rw (own_supply counts now own (graph.source node port)) (ready port less)))

  own_next : (counts : ℕ → ℕ) (now : ℕ → Run State Cause Word) → IsOwn counts now → (node : ℕ)
      → IsReady meaning graph input counts node
      → (fired_once meaning graph input now node).fault ≡ None
      → IsOwn (raised counts node) (put now node (fired_once meaning graph input now node))
  unfolding fired_once raised put advance runs come
  own_next counts now own node ready faultless =
      record {
        own = λ u. own_by u (eqb u node) refl;
        fired =
            λ u. fired_at u (eqb u node) refl;
        faultless = λ u. fault_at u (eqb u node);
      }
    where
      run : Run State Cause Word
      run = fired_once meaning graph input now node

      run_is : run ≡ runs meaning (graph.code node) (suc (counts node)) (come now node)
      run_is = ap (advance meaning (graph.code node) (come now node)) (own.own node)

      run_fired : run.fired ≡ suc (counts node)
      run_fired = (advance_counts meaning (graph.code node) (come now node) (now node)
          (own.faultless node) (own_found counts now own node ready)).0 faultless
          ∙ ap suc (own.fired node)

      longer : (u port : ℕ) → Begins (come now u port) (come (put now node run) u port)
      longer u port = come_grows input now node run
          (λ q. pushes_if meaning (graph.code node) (come now node) (now node) (now node).fault
          (finds meaning (graph.code node) (now node).fired (come now node)) q)
          (graph.source u port)

      own_by : (u : ℕ) (test : Bool) → eqb u node ≡ test
          → cond test run (now u) ≡ runs meaning (graph.code u)
          (cond test (suc (counts u)) (counts u)) (come (put now node run) u)
      own_by u true e =
          subst (λ (v : ℕ). run ≡ runs meaning (graph.code v) (suc (counts v))
          (come (put now node run) v)) (sym (eqb-true u node e))
          (run_is ∙ sym (runs_longer meaning (graph.code node) (suc (counts node)) (come now node)
          (come (put now node run) node) (longer node)
          (ap (λ (r : Run State Cause Word). r.fired) (sym run_is) ∙ run_fired)))
      own_by u false e =
          own.own u ∙ sym (runs_longer meaning (graph.code u) (counts u) (come now u)
          (come (put now node run) u) (longer u)
          (ap (λ (r : Run State Cause Word). r.fired) (sym (own.own u)) ∙ own.fired u))

      fired_at : (u : ℕ) (test : Bool) → eqb u node ≡ test
          → (cond test run (now u)).fired ≡ cond test (suc (counts u)) (counts u)
      fired_at u true e = run_fired ∙ ap (λ (v : ℕ). suc (counts v)) (sym (eqb-true u node e))
      fired_at u false e = own.fired u

      fault_at : (u : ℕ) (test : Bool) → (cond test run (now u)).fault ≡ None
      fault_at u true = faultless
      fault_at u false = own.faultless u

  own_at_first : IsOwn (λ node. 0) (at_first meaning graph)
  unfolding at_first runs initial_run
  own_at_first = record { own = λ node. refl; fired = λ node. refl; faultless = λ node. refl }

  went_by :
      (order : List ℕ) (counts : ℕ → ℕ) (now : ℕ → Run State Cause Word) (node : ℕ)
      (next : ℕ → Run State Cause Word)
      → (IsOwn (raised counts node) (put now node (fired_once meaning graph input now node))
      → go meaning graph input order (put now node (fired_once meaning graph input now node))
      ≡ Went next → IsOwn (counted (raised counts node) order) next)
      → IsOwn counts now → IsReady meaning graph input counts node
      → (fault : Option Cause) → (fired_once meaning graph input now node).fault ≡ fault
      → unless_faulted node (fired_once meaning graph input now node) fault
      (go meaning graph input order (put now node (fired_once meaning graph input now node)))
      ≡ Went next
      → IsOwn (counted (raised counts node) order) next
  unfolding unless_faulted
  went_by order counts now node next ih own ready None e went =
      ih (own_next counts now own node ready e) went
  went_by order counts now node next ih own ready (Some cause) e went = absurd (grind arith)

  -- After an order that is valid by counts, and without a fault, each node's run is its firings
  -- over what has come to it.
  pub own_after : (order : List ℕ) (counts : ℕ → ℕ) (now next : ℕ → Run State Cause Word)
      → IsOwn counts now → IsOrder meaning graph input counts order
      → go meaning graph input order now ≡ Went next → IsOwn (counted counts order) next
  unfolding go counted
  own_after [] counts now next own valid went =
      subst (IsOwn counts) (let e : now ≡ next = went_same now next went in e) own
  own_after (node ∷ order) counts now next own valid went =
      went_by order counts now node next (λ more. own_after order (raised counts node)
      (put now node (fired_once meaning graph input now node)) next more valid.1) own valid.0
      (fired_once meaning graph input now node).fault refl went

  module _ (within : TakesWithinWindow meaning graph) where
    -- Each queue's length is its fill by counts.
    pub queue_fill : (counts : ℕ → ℕ) (now : Fifo State Cause Word) → IsOwn counts now.runs
        → IsQueued meaning graph input now → (node port : ℕ)
        → port < meaning.ports (graph.code node)
        → length (now.queues node port) ≡ fill meaning graph input counts node port
    unfolding fill
    queue_fill counts now own queued node port less =
        ap length (queued.rest node port less)
        ∙ length-drop (total (meaning.popped (graph.code node)) (now.runs node).fired port)
        (arrived input now.runs (graph.source node port))
        ∙ ap (λ (n : ℕ). n - total (meaning.popped (graph.code node)) (now.runs node).fired port)
        (own_supply counts now.runs own (graph.source node port))
        ∙ ap (λ (n : ℕ). supply meaning graph input counts (graph.source node port)
        - total (meaning.popped (graph.code node)) n port) (own.fired node)

    fills_by : (counts : ℕ → ℕ) (order : List ℕ) (start : ℕ → Run State Cause Word)
        → IsOwn counts start → IsOrder meaning graph input counts order
        → (progress : Progress State Cause Word) → go meaning graph input order start ≡ progress
        → (fifo : FifoProgress State Cause Word) (now : Fifo State Cause Word) → fifo ≡ FifoWent now
        → IsAlike meaning graph input progress fifo → (node port : ℕ)
        → port < meaning.ports (graph.code node)
        → length (now.queues node port) ≡ fill meaning graph input (counted counts order) node port
    fills_by counts order start own valid (Went next) went
        (FifoWent fifo) now e alike node port less =
        let same : fifo ≡ now = fifo_same fifo now e in
        subst (λ (f : Fifo State Cause Word). length (f.queues node port)
        ≡ fill meaning graph input (counted counts order) node port) same
        (queue_fill (counted counts order) fifo
        (subst (IsOwn (counted counts order)) (sym alike.0)
        (own_after order counts start next own valid went)) alike.1 node port less)
    fills_by counts order start own valid (Went next) went
        (FifoStopped stop) now e alike node port less = absurd alike
    fills_by counts order start own valid (Stopped stop) went
        (FifoWent fifo) now e alike node port less = absurd alike
    fills_by counts order start own valid (Stopped stop) went
        (FifoStopped other) now e alike node port less = absurd (grind arith)

    -- After an order from the beginning, valid by counts and without a fault, each queue holds its
    -- fill.
    pub fills_after : (order : List ℕ) → IsOrder meaning graph input (λ node. 0) order
        → (now : Fifo State Cause Word) → fifo_go meaning graph order
        (fifo_at_first meaning graph input) ≡ FifoWent now → (node port : ℕ)
        → port < meaning.ports (graph.code node)
        → length (now.queues node port) ≡ fill meaning graph input
        (counted (λ v. 0) order) node port
    unfolding at_first fifo_at_first
    fills_after order valid now e =
        fills_by (λ node. 0) order (at_first meaning graph) own_at_first valid
        (go meaning graph input order (at_first meaning graph)) refl
        (fifo_go meaning graph order (fifo_at_first meaning graph input)) now e
        (machines_alike meaning graph input within order (fifo_at_first meaning graph input)
        (queued_at_first meaning graph input within))

  -- The state solves the flat equations at its counts.
  pub state_solves : (order : List ℕ) → IsOrder meaning graph input (λ node. 0) order
      → (now : ℕ → Run State Cause Word) → go meaning graph input order (at_first meaning graph)
      ≡ Went now → Solves meaning graph (counted (λ node. 0) order) input
      (λ node port. arrived input now (graph.source node port))
  unfolding runs_at
  state_solves order valid now went node port =
      let own = own_after order (λ v. 0) (at_first meaning graph) now own_at_first valid went in
      ap (λ (all : ℕ → Run State Cause Word). arrived input all (graph.source node port))
      (fun_ext own.own)
