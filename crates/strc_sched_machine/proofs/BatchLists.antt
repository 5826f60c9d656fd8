-- The firings of batches, and those of the nodes that a circuit has.
use Rattle.std.proofs.Common.{◌≡◌, refl, sym, ap, ◌∙◌, subst, ℕ, zero, suc, ◌+◌, ◌*◌, ◌<◌, ◌≤◌}
use Rattle.std.proofs.Common.{List, [], ◌∷◌, ◌++◌, length, take, drop, get_or, arith}
use Rattle.std.proofs.Common.{append_assoc, append-nil, Bool, true, false, cond, nat_lt}
use Rattle.std.proofs.Common.{Result, Ok, Err, ltb-false, lt-ltb, le-ltb}
use Rattle.std.specs.Prelude.{None}
use Rattle.std.proofs.lemmas.List.{take_more}
use Rattle.std.proofs.lemmas.List.Elements.{filter-append}
use Rattle.strc_sched_orders.specs.declared.unit as units
use Rattle.strc_sched_orders.specs.Greedy.{firings_of}
use Rattle.strc_sched_orders.specs.Order.{repeated}
use Rattle.strc_sched_orders.proofs.Passing.{repeated_more, units_more}
use Rattle.strc_sched_laws.specs.Machine.{CircuitView, MachineView, Progress, Went, Stopped}
use Rattle.strc_sched_laws.specs.Machine.{then_go, order_run, after_step, next_step}
use Rattle.strc_sched_machine.specs.Batches.{IsOrderOf, all_firings, batch_firings, in_circuit}
use Rattle.strc_sched_machine.specs.Batches.{list_firings, units_of}
use Rattle.strc_sched_machine.specs.Memory.{ComesToWord, WantsWordOfOrder}
use Rattle.strc_sched_machine.specs.Running.{HasGone}
use Rattle.strc_sched_machine.specs.declared.batches.Batch.{Batch}
use Rattle.strc_sched_machine.specs.declared.batches.Kind.TheVariants as kinds
use Rattle.strc_sched_machine.specs.declared.batches.Order.{Order}
use Rattle.strc_sched_machine.specs.declared.batches.BatchList.{BatchList}
use Rattle.strc_sched_outcome.specs.declared.stop.Stop.{Stop}
use Rattle.strc_sched_outcome.specs.declared.stop.Stop.TheVariants as stop
use Rattle.strc_sched_machine.proofs.Done.{past_nodes}

-- what a place past the end has
abbrev pub past_end : Batch
past_end = record { node = 0; turns = 0; input = None; output = None; kind = kinds.Identity 0 0 }

-- ---- lists

pub repeated_sum : (one other : ℕ) (nodes : List ℕ)
    → repeated (one + other) nodes ≡ repeated one nodes ++ repeated other nodes
repeated_sum zero other nodes =
    ap (λ n. repeated n nodes) (let e : 0 + other ≡ other = omega arith in e)
repeated_sum (suc one) other nodes =
    ap (λ n. repeated n nodes) (let e : suc one + other ≡ suc (one + other) = omega arith in e)
    ∙ ap (λ l. nodes ++ l) (repeated_sum one other nodes)
    ∙ sym (append_assoc nodes (repeated one nodes) (repeated other nodes))

pub repeated_times : (turns more : ℕ) (nodes : List ℕ)
    → repeated (turns * more) nodes ≡ repeated more (repeated turns nodes)
repeated_times turns zero nodes =
    ap (λ n. repeated n nodes) (let e : turns * 0 ≡ 0 = omega arith in e)
repeated_times turns (suc more) nodes =
    ap (λ n. repeated n nodes)
    (let e : turns * suc more ≡ turns + turns * more = omega arith in e)
    ∙ repeated_sum turns (turns * more) nodes
    ∙ ap (λ l. repeated turns nodes ++ l) (repeated_times turns more nodes)

pub batch_firings-append : (all more : List Batch)
    → batch_firings (all ++ more) ≡ batch_firings all ++ batch_firings more
batch_firings-append [] more = refl
batch_firings-append (batch ∷ all) more =
    let own = repeated batch.turns (batch.node ∷ []) in
    ap (λ l. own ++ l) (batch_firings-append all more)
    ∙ sym (append_assoc own (batch_firings all) (batch_firings more))

pub all_firings-append : (all more : List BatchList)
    → all_firings (all ++ more) ≡ all_firings all ++ all_firings more
all_firings-append [] more = refl
all_firings-append (batches ∷ all) more =
    ap (λ l. list_firings batches ++ l) (all_firings-append all more)
    ∙ sym (append_assoc (list_firings batches) (all_firings all) (all_firings more))

-- a batch counts one firing more
pub counts_more : (all : List Batch) (last next : Batch) (node : ℕ) → last.node ≡ node
    → next.node ≡ last.node → next.turns ≡ last.turns + 1
    → batch_firings (all ++ next ∷ []) ≡ batch_firings (all ++ last ∷ []) ++ node ∷ []
counts_more all last next node same kept turns =
    let before = repeated last.turns (last.node ∷ []) in
    batch_firings-append all (next ∷ [])
    ∙ ap (λ l. batch_firings all ++ l) (append-nil (repeated next.turns (next.node ∷ []))
    ∙ ap (λ n. repeated n (next.node ∷ [])) turns
    ∙ ap (λ n. repeated (last.turns + 1) (n ∷ [])) kept
    ∙ repeated_more last.turns (last.node ∷ [])
    ∙ ap (λ n. before ++ n ∷ []) same)
    ∙ sym (append_assoc (batch_firings all) before (node ∷ []))
    ∙ ap (λ l. l ++ node ∷ [])
    (ap (λ l. batch_firings all ++ l) (sym (append-nil before))
    ∙ sym (batch_firings-append all (last ∷ [])))

-- a batch of one firing more
pub one_more : (all : List Batch) (next : Batch) (node : ℕ) → next.node ≡ node → next.turns ≡ 1
    → batch_firings (all ++ next ∷ []) ≡ batch_firings all ++ node ∷ []
one_more all next node same turns =
    batch_firings-append all (next ∷ [])
    ∙ ap (λ n. batch_firings all ++ (repeated n (next.node ∷ []) ++ [])) turns
    ∙ ap (λ n. batch_firings all ++ n ∷ []) same

-- one batch alone
pub one_alone : (all : List Batch) (only : Batch) → length all ≡ 1 → only ≡ get_or all 0 only
    → batch_firings all ≡ repeated only.turns (only.node ∷ [])
one_alone [] only one is = absurd (omega (arith, one))
one_alone (first ∷ []) only one is =
    append-nil (repeated first.turns (first.node ∷ []))
    ∙ ap (λ (b : Batch). repeated b.turns (b.node ∷ [])) (sym is)
one_alone (first ∷ second ∷ rest) only one is = absurd (omega (arith, one))

-- one list more
pub list_more : (all : List BatchList) (next : BatchList)
    → all_firings (all ++ next ∷ []) ≡ all_firings all ++ list_firings next
list_more all next = all_firings-append all (next ∷ [])
    ∙ ap (λ l. all_firings all ++ l) (append-nil (list_firings next))

-- one batch more of a list that fires once
pub batch_more : (all : List BatchList) (last next : BatchList) (batch : Batch) → last.turns ≡ 1
    → next.turns ≡ last.turns → next.batches.items ≡ last.batches.items ++ batch ∷ []
    → all_firings (all ++ next ∷ [])
    ≡ all_firings (all ++ last ∷ []) ++ repeated batch.turns (batch.node ∷ [])
batch_more all last next batch one same is =
    let before = batch_firings last.batches.items in
    let own = repeated batch.turns (batch.node ∷ []) in
    list_more all next
    ∙ ap (λ l. all_firings all ++ l)
    (once next (same ∙ one) ∙ ap batch_firings is
    ∙ batch_firings-append last.batches.items (batch ∷ [])
    ∙ ap (λ l. before ++ l) (append-nil own))
    ∙ sym (append_assoc (all_firings all) before own)
    ∙ ap (λ l. l ++ own) (ap (λ l. all_firings all ++ l) (sym (once last one))
    ∙ sym (list_more all last))
  where
    once : (list : BatchList) → list.turns ≡ 1
        → list_firings list ≡ batch_firings list.batches.items
    once list one = ap (λ n. repeated n (batch_firings list.batches.items)) one
        ∙ append-nil (batch_firings list.batches.items)

-- a list of one batch
pub new_list : (all : List BatchList) (next : BatchList) (batch : Batch) → next.turns ≡ 1
    → next.batches.items ≡ batch ∷ []
    → all_firings (all ++ next ∷ []) ≡ all_firings all ++ repeated batch.turns (batch.node ∷ [])
new_list all next batch one is =
    let own = repeated batch.turns (batch.node ∷ []) in
    list_more all next
    ∙ ap (λ l. all_firings all ++ l) (ap (λ n. repeated n (batch_firings next.batches.items)) one
    ∙ append-nil (batch_firings next.batches.items)
    ∙ ap batch_firings is
    ∙ append-nil own)

-- what is left of batches, and of lists
pub batches_left : (all : List Batch) (place : ℕ) (d : Batch) → place < length all
    → batch_firings (drop place all)
    ≡ repeated (get_or all place d).turns ((get_or all place d).node ∷ [])
    ++ batch_firings (drop (place + 1) all)
batches_left [] place d less = absurd (omega arith)
batches_left (first ∷ rest) zero d less = refl
batches_left (first ∷ rest) (suc place) d less =
    let batch = get_or rest place d in
    batches_left rest place d (omega arith)
    ∙ ap (λ n. repeated batch.turns (batch.node ∷ []) ++ batch_firings (drop n (first ∷ rest)))
    (let e : suc (place + 1) ≡ suc place + 1 = omega arith in e)

pub all_left : (all : List BatchList) (place : ℕ) (batches : BatchList) → place < length all
    → batches ≡ get_or all place batches
    → all_firings (drop place all) ≡ list_firings batches ++ all_firings (drop (place + 1) all)
all_left [] place batches less is = absurd (omega arith)
all_left (first ∷ rest) zero batches less is =
    ap (λ b. list_firings b ++ all_firings rest) (sym is)
all_left (first ∷ rest) (suc place) batches less is =
    all_left rest place batches (omega arith) is
    ∙ ap (λ n. list_firings batches ++ all_firings (drop n (first ∷ rest)))
    (let e : suc (place + 1) ≡ suc place + 1 = omega arith in e)

-- ---- the nodes that a circuit has

module _ (circuit : CircuitView) where
  abbrev has : ℕ → Bool
  has node = nat_lt node (length circuit.codes)

  pub in_circuit-append : (nodes more : List ℕ)
      → in_circuit circuit (nodes ++ more) ≡ in_circuit circuit nodes ++ in_circuit circuit more
  in_circuit-append nodes more = filter-append has nodes more

  pub in_circuit-repeated : (turns : ℕ) (nodes : List ℕ)
      → in_circuit circuit (repeated turns nodes) ≡ repeated turns (in_circuit circuit nodes)
  in_circuit-repeated zero nodes = refl
  in_circuit-repeated (suc turns) nodes =
      in_circuit-append nodes (repeated turns nodes)
      ∙ ap (λ l. in_circuit circuit nodes ++ l) (in_circuit-repeated turns nodes)

  -- a list of units, one unit more
  pub units_next : (order : List units.Unit.Unit) (firings after : List ℕ) (place : ℕ)
      (unit : units.Unit.Unit) → place < length order → unit ≡ get_or order place unit
      → firings ≡ in_circuit circuit (firings_of (take place order))
      → after ≡ firings ++ in_circuit circuit (repeated unit.turns unit.nodes.items)
      → after ≡ in_circuit circuit (firings_of (take (place + 1) order))
  units_next order firings after place unit less is before own =
      let nodes = repeated unit.turns unit.nodes.items in
      own
      ∙ ap (λ l. l ++ in_circuit circuit nodes) before
      ∙ sym (in_circuit-append (firings_of (take place order)) nodes)
      ∙ ap (in_circuit circuit) (sym (units_more order place unit less is))

  -- a list of nodes, one node more
  pub nodes_next : (nodes firings after : List ℕ) (place : ℕ) → place < length nodes
      → firings ≡ in_circuit circuit (take place nodes)
      → after ≡ firings ++ in_circuit circuit (get_or nodes place 0 ∷ [])
      → after ≡ in_circuit circuit (take (place + 1) nodes)
  nodes_next nodes firings after place less before own =
      let node = get_or nodes place 0 in
      own
      ∙ ap (λ l. l ++ in_circuit circuit (node ∷ [])) before
      ∙ sym (in_circuit-append (take place nodes) (node ∷ []))
      ∙ ap (in_circuit circuit) (sym (take_more nodes place 0 less))

  -- of one node
  pub of_known : (node : ℕ) → node < length circuit.codes
      → in_circuit circuit (node ∷ []) ≡ node ∷ []
  of_known node less =
      ap (λ (test : Bool). cond test (node ∷ []) []) (lt-ltb node (length circuit.codes) less)

  pub of_unknown : (node : ℕ) → length circuit.codes ≤ node → in_circuit circuit (node ∷ []) ≡ []
  of_unknown node past =
      ap (λ (test : Bool). cond test (node ∷ []) []) (le-ltb node (length circuit.codes) past)

  -- a node that the circuit lacks changes nothing
  lacked : (node : ℕ) (machine : MachineView) → has node ≡ false
      → after_step machine node (next_step circuit machine node) ≡ Went machine
  lacked node machine lacks =
      (past_nodes circuit machine node (ltb-false node (length circuit.codes) lacks)).0

  same_then : (order other : List ℕ)
      → ((machine : MachineView)
      → order_run circuit order machine ≡ order_run circuit other machine)
      → (progress : Progress)
      → then_go (order_run circuit order) progress ≡ then_go (order_run circuit other) progress
  same_then order other same (Went next) = same next
  same_then order other same (Stopped node firing cause) = refl

  -- so these come to the same as all
  run_node : (node : ℕ) (order : List ℕ) (machine : MachineView)
      → ((machine : MachineView) → order_run circuit (in_circuit circuit order) machine
      ≡ order_run circuit order machine)
      → (test : Bool) → has node ≡ test
      → order_run circuit
      (cond test (node ∷ in_circuit circuit order) (in_circuit circuit order)) machine
      ≡ order_run circuit (node ∷ order) machine
  run_node node order machine rest true known =
      same_then (in_circuit circuit order) order rest
      (after_step machine node (next_step circuit machine node))
  run_node node order machine rest false lacks =
      rest machine ∙ sym (ap (then_go (order_run circuit order)) (lacked node machine lacks))

  pub in_circuit-run : (order : List ℕ) (machine : MachineView)
      → order_run circuit (in_circuit circuit order) machine ≡ order_run circuit order machine
  in_circuit-run [] machine = refl
  in_circuit-run (node ∷ order) machine =
      run_node node order machine (in_circuit-run order) (has node) refl

  -- ---- and want memory where all do

  -- a firing before
  comes_later : (first : ℕ) (order : List ℕ) (before next : MachineView)
      → after_step before first (next_step circuit before first) ≡ Went next
      → ComesToWord circuit order next → ComesToWord circuit (first ∷ order) before
  comes_later first order before next went h = record {
    done = first ∷ h.done;
    node = h.node;
    rest = h.rest;
    now = h.now;
    is = ap (λ l. first ∷ l) h.is;
    went = ap (then_go (order_run circuit h.done)) went ∙ h.went;
    next = h.next;
  }

  abbrev ComeAsWell : List ℕ → Type 0
  ComeAsWell order = (before : MachineView) → ComesToWord circuit (in_circuit circuit order) before
      → ComesToWord circuit order before

  comes_known : (first : ℕ) (order : List ℕ) → ComeAsWell order → (before : MachineView)
      → ComesToWord circuit (first ∷ in_circuit circuit order) before
      → ComesToWord circuit (first ∷ order) before
  comes_known first order rest before h = by_done h.done h.is h.went
    where
      after_first : (done : List ℕ) → done ++ h.node ∷ h.rest ≡ in_circuit circuit order
          → (progress : Progress)
          → after_step before first (next_step circuit before first) ≡ progress
          → then_go (order_run circuit done) progress ≡ Went h.now
          → ComesToWord circuit (first ∷ order) before
      after_first done is (Went next) stepped went =
          comes_later first order before next stepped (rest next (record {
            done = done;
            node = h.node;
            rest = h.rest;
            now = h.now;
            is = is;
            went = went;
            next = h.next;
          }))
      after_first done is (Stopped node firing cause) stepped went = cc

      by_done : (done : List ℕ) → done ++ h.node ∷ h.rest ≡ first ∷ in_circuit circuit order
          → order_run circuit done before ≡ Went h.now
          → ComesToWord circuit (first ∷ order) before
      by_done [] is went = record {
        done = [];
        node = h.node;
        rest = order;
        now = h.now;
        is = let same : h.node ≡ first = cc in ap (λ node. node ∷ order) same;
        went = went;
        next = h.next;
      }
      by_done (node ∷ done) is went =
          let same : node ≡ first = cc in
          let later : done ++ h.node ∷ h.rest ≡ in_circuit circuit order = cc in
          after_first done later (after_step before first (next_step circuit before first)) refl
          (ap (λ n. order_run circuit (n ∷ done) before) (sym same) ∙ went)

  comes_node : (first : ℕ) (order : List ℕ) → ComeAsWell order → (before : MachineView)
      → (test : Bool) → has first ≡ test
      → ComesToWord circuit
      (cond test (first ∷ in_circuit circuit order) (in_circuit circuit order)) before
      → ComesToWord circuit (first ∷ order) before
  comes_node first order rest before true known h = comes_known first order rest before h
  comes_node first order rest before false lacks h =
      comes_later first order before before (lacked first before lacks) (rest before h)

  comes_as_well : (order : List ℕ) → ComeAsWell order
  comes_as_well [] before h = h
  comes_as_well (first ∷ order) before h =
      comes_node first order (comes_as_well order) before (has first) refl h

  pub in_circuit-wants : (order : List ℕ) (before : MachineView) (result : Result (Unit {0}) Stop)
      → WantsWordOfOrder circuit (in_circuit circuit order) before result
      → WantsWordOfOrder circuit order before result
  in_circuit-wants order before (Ok done) wants = tt
  in_circuit-wants order before (Err (stop.Fault node firing cause)) wants = tt
  in_circuit-wants order before (Err stop.NoMemory) wants = comes_as_well order before wants

-- what the firings of an order's batches come to is what those of its units do
pub order_gone : (circuit : CircuitView) (order : Order) → IsOrderOf circuit order
    → (before after : MachineView) (result : Result (Unit {0}) Stop)
    → HasGone (order_run circuit (all_firings order.lists.items) before) result before.words after
    → HasGone (order_run circuit (firings_of (units_of order)) before) result before.words after
order_gone circuit order is before after result gone =
    subst (λ progress. HasGone progress result before.words after)
    (ap (λ l. order_run circuit l before) is.firings
    ∙ in_circuit-run circuit (firings_of (units_of order)) before) gone

pub order_wants : (circuit : CircuitView) (order : Order) → IsOrderOf circuit order
    → (before : MachineView) (result : Result (Unit {0}) Stop)
    → WantsWordOfOrder circuit (all_firings order.lists.items) before result
    → WantsWordOfOrder circuit (firings_of (units_of order)) before result
order_wants circuit order is before result wants =
    in_circuit-wants circuit (firings_of (units_of order)) before result
    (subst (λ l. WantsWordOfOrder circuit l before result) is.firings wants)
