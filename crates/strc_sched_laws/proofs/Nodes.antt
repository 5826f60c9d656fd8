-- Each firing of a node pushes at its rates.
use Rattle.std.proofs.Common.{◌≡◌, refl, ap, ◌∙◌, subst, ℕ, zero, suc, ◌+◌, ◌*◌, ◌<◌, ◌≤◌, Bool}
use Rattle.std.proofs.Common.{true, false, ℤ, List, [], length, take, drop, sum, Result, Ok}
use Rattle.std.proofs.Common.{Err, arith, length-take, length-drop, length-append, lt-ltb, ltb-true}
use Rattle.std.proofs.Common.{mul-le-mul_right}
use Rattle.std.specs.Prelude.{if◌then◌else◌, slice_index_or, IfOk, nat_lt}
use Rattle.strc_elab_dataflow.specs.Node.{ByPort, Fired.Fires, Fired.Faults, at_port_0}
use Rattle.strc_elab_dataflow.specs.Node as generic
use Rattle.strc_elab_dataflow.specs.RoundRobin.{one_cycle}
use Rattle.strc_elab_dataflow.proofs.RoundRobin.{cycle_length}
use Rattle.strc_work_meaning.specs.declared.fault.Cause.{Cause}
use Rattle.strc_work_meaning.specs.declared.word.Word.{Word}
use Rattle.strc_work_meaning.specs.Firing.{Fired, fired}
use Rattle.strc_elab_graph.specs.Graphs as graphs
use Rattle.strc_elab_graph.specs.Graphs.{NodeCode, Duplicate, Roundrobin, OfFilter, OfIdentity}
use Rattle.strc_elab_graph.specs.Rates.{rate_at_0, at_ports, body_at, window_at, pushes_at, reach}
use Rattle.strc_elab_graph.specs.Rates.{filter_pushes}
use Rattle.strc_elab_graph.specs.Meaning.{node_meaning, node_fired, ports_in, as_fired}
use Rattle.strc_elab_graph.specs.Meaning.{gathered}
use Rattle.strc_elab_graph.specs.declared.graph.Fission.{Fission}
use Rattle.strc_elab_graph.proofs.Firings.{span_length}
use Rattle.strc_elab_dataflow.specs.Rates.{PushesRates}
use Rattle.strc_sched_laws.specs.Nodes.{NodesPushRates}

-- so many items leave at each port, where a firing doesn't fault
abbrev Pushes : (rates : ℕ → ℕ) → generic.Fired (List ℤ) Cause Word → Type 0
Pushes rates (Fires next pushes words) = (port : ℕ) → length (pushes port) ≡ rates port
Pushes rates (Faults cause) = Unit {0}

-- each firing that sees whole windows pushes at the declared rates
abbrev FiresAtRates : NodeCode → Type 0
FiresAtRates code =
    (firing : ℕ) (fields : List ℤ) (seen : ByPort)
    → ((port : ℕ) → port < ports_in code → length (seen port) ≡ window_at code firing port)
    → Pushes (pushes_at code firing) (node_fired code firing fields seen)

pushes_by : (code : NodeCode) → FiresAtRates code
    → PushesRates node_meaning code (λ fields. true)
pushes_by code each = record {
  each = λ firing fields next seen pushes words kept whole fires. (
    refl,
    subst (Pushes (pushes_at code firing)) fires (each firing fields seen whole),
  );
}

at_0 : (items : List ℤ) (count : ℕ) → length items ≡ count → (port : ℕ)
    → length (at_port_0 items port) ≡ rate_at_0 count port
unfolding at_port_0
at_0 items count e zero = e
at_0 items count e (suc port) = refl

fired_at_0 : (count : ℕ) (result : Result Fired Cause)
    → IfOk result (λ done. length done.pushes ≡ count)
    → Pushes (rate_at_0 count) (as_fired result)
fired_at_0 count (Ok done) h = at_0 done.pushes count h
fired_at_0 count (Err cause) h = tt

one_or_none : (carries : Bool) (items : List ℤ) → length items ≡ 1
    → length (if carries then items else []) ≡ (if carries then 1 else 0)
one_or_none true items e = e
one_or_none false items e = refl

-- ---- scatter and gather

-- a stretch of a list that has all of it
stretch : (from n : ℕ) (items : List ℤ) → from + n ≤ length items
    → length (take n (drop from items)) ≡ n
stretch from n items within = omega (arith, length-take n (drop from items), length-drop from items)

-- the windows of a copy are inside those of the round
share_within : (fission : Fission) (port : ℕ) → port < fission.ways
    → port * fission.firings * fission.pop + reach fission fission.firings
    ≤ reach fission (fission.ways * fission.firings)
share_within fission port less =
    let next : suc port ≤ fission.ways = omega arith in
    let all : (suc port * fission.firings) * fission.pop
    ≤ (fission.ways * fission.firings) * fission.pop
    = mul-le-mul_right fission.pop (mul-le-mul_right fission.firings next) in
    let split : (suc port * fission.firings) * fission.pop
    ≡ port * fission.firings * fission.pop + fission.firings * fission.pop = omega arith in
    omega (arith, all, split)

scattered_length : (fission : Fission) (items : List ℤ) (port : ℕ)
    → length items ≡ reach fission (fission.ways * fission.firings)
    → (inside : Bool) → nat_lt port fission.ways ≡ inside
    → length (if inside
    then take (reach fission fission.firings) (drop (port * fission.firings * fission.pop) items)
    else []) ≡ (if inside then reach fission fission.firings else 0)
scattered_length fission items port whole true e =
    stretch (port * fission.firings * fission.pop) (reach fission fission.firings) items
    (omega (arith, whole, share_within fission port (ltb-true port fission.ways e)))
scattered_length fission items port whole false e = refl

gathered_length : (seen : ByPort) (count n : ℕ) → ((port : ℕ) → port < n
    → length (seen port) ≡ count) → length (gathered seen n) ≡ n * count
gathered_length seen count zero whole = let e : 0 ≡ zero * count = omega arith in e
gathered_length seen count (suc n) whole =
    omega (
      arith,
      length-append (gathered seen n) (seen n),
      gathered_length seen count n (λ port less. whole port (omega arith)),
      whole n (omega arith),
    )

below : (count rate port : ℕ) → port < count → at_ports count rate port ≡ rate
below count rate port less = ap (λ (test : Bool). if test then rate else 0)
    (lt-ltb port count less)

gather_length : (fission : Fission) (seen : ByPort)
    → ((port : ℕ) → port < fission.ways
    → length (seen port) ≡ at_ports fission.ways (fission.firings * fission.push) port)
    → length (gathered seen fission.ways) ≡ fission.ways * fission.firings * fission.push
gather_length fission seen whole =
    gathered_length seen (fission.firings * fission.push) fission.ways
    (λ port less. whole port less
    ∙ below fission.ways (fission.firings * fission.push) port less)
    ∙ (let e : fission.ways * (fission.firings * fission.push)
    ≡ fission.ways * fission.firings * fission.push = omega arith in e)

-- ---- all nodes

pub nodes_push_rates : NodesPushRates
nodes_push_rates (graphs.Filter name filter) pushes =
    pushes_by (graphs.Filter name filter) (λ firing fields seen whole.
    fired_at_0 (filter_pushes filter firing) (fired filter (body_at firing) fields (seen 0))
    (pushes firing fields (seen 0)))
nodes_push_rates graphs.Identity pushes =
    pushes_by graphs.Identity (λ firing fields seen whole.
    at_0 (seen 0) 1 (whole 0 (omega arith)))
nodes_push_rates (graphs.FileReader text) pushes =
    pushes_by (graphs.FileReader text) (λ firing fields seen whole.
    at_0 (seen 0) 1 (whole 0 (omega arith)))
nodes_push_rates (graphs.FileWriter text) pushes =
    pushes_by (graphs.FileWriter text) (λ firing fields seen whole port. refl)
nodes_push_rates (graphs.Splitter (Duplicate carried)) pushes =
    pushes_by (graphs.Splitter (Duplicate carried)) (λ firing fields seen whole port.
    one_or_none (slice_index_or carried port false) (seen 0) (whole 0 (omega arith)))
nodes_push_rates (graphs.Splitter (Roundrobin weights)) pushes =
    pushes_by (graphs.Splitter (Roundrobin weights)) (λ firing fields seen whole port.
    span_length weights (seen 0) (whole 0 (omega arith)) port)
nodes_push_rates (graphs.Joiner weights) pushes =
    pushes_by (graphs.Joiner weights) (λ firing fields seen whole.
    at_0 (one_cycle weights 0 seen) (sum weights) (cycle_length weights 0 seen
    (λ i less. ap (λ (port : ℕ). length (seen port)) (omega arith) ∙ whole i less)))
nodes_push_rates (graphs.Scatter fission) pushes =
    pushes_by (graphs.Scatter fission) (λ firing fields seen whole port.
    scattered_length fission (seen 0) port (whole 0 (omega arith))
    (nat_lt port fission.ways) refl)
nodes_push_rates (graphs.Copy (OfFilter name filter) fission) pushes =
    pushes_by (graphs.Copy (OfFilter name filter) fission) (λ firing fields seen whole.
    subst (λ (count : ℕ). Pushes (rate_at_0 count)
    (as_fired (fired filter (body_at firing) fields (seen 0)))) (pushes.1 firing)
    (fired_at_0 (filter_pushes filter firing) (fired filter (body_at firing) fields (seen 0))
    (pushes.0 firing fields (seen 0))))
nodes_push_rates (graphs.Copy OfIdentity fission) pushes =
    pushes_by (graphs.Copy OfIdentity fission) (λ firing fields seen whole.
    at_0 (seen 0) fission.push
    (whole 0 (omega arith) ∙ (let e : fission.window ≡ fission.push
    = omega (arith, pushes.0, pushes.1) in e)))
nodes_push_rates (graphs.Gather fission) pushes =
    pushes_by (graphs.Gather fission) (λ firing fields seen whole.
    at_0 (gathered seen fission.ways) (fission.ways * fission.firings * fission.push)
    (gather_length fission seen whole))
