-- How nodes fire: they keep their rates, take no more than they look at, and have one and the same
-- rate from the second firing on. The nodes of fission, which fire by rounds, are left out.
use Rattle.std.proofs.Common.{◌≡◌, refl, ap, ◌∙◌, subst, ℕ, zero, suc, ◌<◌, ◌≤◌, Bool, true}
use Rattle.std.proofs.Common.{false, ℤ, List, [], length, take, drop, sum, Option, Result, Ok}
use Rattle.std.proofs.Common.{Err, arith, length-take, length-drop}
use Rattle.std.specs.Prelude.{if◌then◌else◌, slice_index, slice_index_or, IfOk}
use Rattle.std.proofs.lemmas.List.{take-take}
use Rattle.strc_lex_names.specs.Results.{result_and_then}
use Rattle.strc_parse_tree.specs.Tree as tree
use Rattle.strc_elab_dataflow.specs.Node.{ByPort, Fired.Fires, Fired.Faults, at_port_0}
use Rattle.strc_elab_dataflow.specs.Node as generic
use Rattle.strc_elab_dataflow.specs.Histories.{KeepsRates}
use Rattle.strc_elab_dataflow.specs.RoundRobin.{span_start, one_cycle}
use Rattle.strc_elab_dataflow.proofs.Rates.{keeps_rates}
use Rattle.strc_elab_dataflow.proofs.RoundRobin.{cycle_length, span_within}
use Rattle.strc_work_meaning.specs.declared.body.Body.{Body}
use Rattle.strc_work_meaning.specs.declared.fault.Cause.{Cause}
use Rattle.strc_work_meaning.specs.declared.word.Word.{Word}
use Rattle.strc_work_meaning.specs.Filters.{Filter, body_block, body_rates, push_rate, pop_rate}
use Rattle.strc_work_meaning.specs.Filters.{item_count, window_size}
use Rattle.strc_work_meaning.specs.Firing.{Port, Fired, fired, stmts_done, port_at_rates, store_at}
use Rattle.strc_work_meaning.specs.Firing.{setting_at}
use Rattle.strc_work_meaning.specs.Firing.{block_left, field_values}
use Rattle.strc_elab_graph.specs.Graphs as graphs
use Rattle.strc_elab_graph.specs.Graphs.{NodeCode, Duplicate, Roundrobin}
use Rattle.strc_elab_graph.specs.Rates.{fires_by_rounds, rate_at_0, body_at, filter_pushes}
use Rattle.strc_elab_graph.specs.Rates.{window_at}
use Rattle.strc_elab_graph.specs.Rates.{pops_at, pushes_at}
use Rattle.strc_elab_graph.specs.Meaning.{node_meaning, node_fired, ports_in, as_fired}

-- ---- rates are kept

-- so many items leave at each port, where a firing doesn't fault
abbrev Pushes : (rates : ℕ → ℕ) → generic.Fired (List ℤ) Cause Word → Type 0
Pushes rates (Fires next pushes words) = (port : ℕ) → length (pushes port) ≡ rates port
Pushes rates (Faults cause) = Unit {0}

-- each firing that sees whole windows pushes at the declared rates
abbrev FiresAtRates : NodeCode → Type 0
FiresAtRates code =
    (firing : ℕ) (fields : List ℤ) (seen : ByPort)
    → ((port : ℕ) → port < ports_in code → length (seen port) ≡ window_at code firing port)
    → Pushes (pushes_at code firing) (node_fired code firing fields seen)

keeps_by : (code : NodeCode) → FiresAtRates code → KeepsRates node_meaning code
keeps_by code each =
    keeps_rates node_meaning code (λ fields. Unit {0})
    (record {
      fine_at_start = tt;
      kept = λ firing fields next seen pushes words fine whole fires. (
        tt,
        subst (Pushes (pushes_at code firing)) fires (each firing fields seen whole),
      );
    })

at_0 : (items : List ℤ) (count : ℕ) → length items ≡ count → (port : ℕ)
    → length (at_port_0 items port) ≡ rate_at_0 count port
unfolding at_port_0
at_0 items count e zero = e
at_0 items count e (suc port) = refl

fired_at_0 : (count : ℕ) (result : Result Fired Cause)
    → IfOk result (λ done. length done.pushes ≡ count)
    → Pushes (rate_at_0 count) (as_fired result)
fired_at_0 count (Ok done) h = at_0 done.pushes count h
fired_at_0 count (Err cause) h = tt

-- each firing of a filter that doesn't fault pushes as many items as its rates say
abbrev pub PushesAtRates : Filter → Type 0
PushesAtRates filter =
    (body : Body) (fields window : List ℤ)
    → IfOk (fired filter body fields window) (λ done.
    length done.pushes ≡ item_count (push_rate (body_rates body filter.members)))

pub filter_keeps_rates : (name : Option (List ℕ)) (filter : Filter) → PushesAtRates filter
    → KeepsRates node_meaning (graphs.Filter name filter)
filter_keeps_rates name filter pushes =
    keeps_by (graphs.Filter name filter) (λ firing fields seen whole.
    fired_at_0 (filter_pushes filter firing) (fired filter (body_at firing) fields (seen 0))
    (pushes (body_at firing) fields (seen 0)))

one_or_none : (carries : Bool) (items : List ℤ) → length items ≡ 1
    → length (if carries then items else []) ≡ (if carries then 1 else 0)
one_or_none true items e = e
one_or_none false items e = refl

pub span_length : (weights : List ℕ) (items : List ℤ) → length items ≡ sum weights → (port : ℕ)
    → length (take (slice_index weights port) (drop (span_start weights port) items))
    ≡ slice_index weights port
span_length weights items e port =
    let within = span_within weights port in
    omega (
      arith,
      length-take (slice_index weights port) (drop (span_start weights port) items),
      length-drop (span_start weights port) items,
    )

-- a node keeps its rates, where it is a filter by what is known of its firings
pub node_keeps_rates : (code : NodeCode) → fires_by_rounds code ≡ false
    → ((name : Option (List ℕ)) (filter : Filter) → code ≡ graphs.Filter name filter
    → PushesAtRates filter)
    → KeepsRates node_meaning code
node_keeps_rates (graphs.Filter name filter) alone pushes =
    filter_keeps_rates name filter (pushes name filter refl)
node_keeps_rates graphs.Identity alone pushes =
    keeps_by graphs.Identity (λ firing fields seen whole.
    at_0 (seen 0) 1 (whole 0 (omega arith)))
node_keeps_rates (graphs.FileReader text) alone pushes =
    keeps_by (graphs.FileReader text) (λ firing fields seen whole.
    at_0 (seen 0) 1 (whole 0 (omega arith)))
node_keeps_rates (graphs.FileWriter text) alone pushes =
    keeps_by (graphs.FileWriter text) (λ firing fields seen whole port. refl)
node_keeps_rates (graphs.Splitter (Duplicate carried)) alone pushes =
    keeps_by (graphs.Splitter (Duplicate carried)) (λ firing fields seen whole port.
    one_or_none (slice_index_or carried port false) (seen 0) (whole 0 (omega arith)))
node_keeps_rates (graphs.Splitter (Roundrobin weights)) alone pushes =
    keeps_by (graphs.Splitter (Roundrobin weights)) (λ firing fields seen whole port.
    span_length weights (seen 0) (whole 0 (omega arith)) port)
node_keeps_rates (graphs.Joiner weights) alone pushes =
    keeps_by (graphs.Joiner weights) (λ firing fields seen whole.
    at_0 (one_cycle weights 0 seen) (sum weights) (cycle_length weights 0 seen
    (λ i less. ap (λ (port : ℕ). length (seen port)) (omega arith) ∙ whole i less)))
node_keeps_rates (graphs.Scatter fission) alone pushes = absurd (cc)
node_keeps_rates (graphs.Copy copied fission) alone pushes = absurd (cc)
node_keeps_rates (graphs.Gather fission) alone pushes = absurd (cc)

-- ---- windows

-- no firing takes more than it looks at
pub takes_within : (code : NodeCode) → fires_by_rounds code ≡ false → (firing port : ℕ)
    → pops_at code firing port ≤ window_at code firing port
takes_within (graphs.Filter name filter) alone firing zero = omega arith
takes_within (graphs.Filter name filter) alone firing (suc port) = omega arith
takes_within graphs.Identity alone firing port = omega arith
takes_within (graphs.FileReader text) alone firing port = omega arith
takes_within (graphs.FileWriter text) alone firing port = omega arith
takes_within (graphs.Splitter splitter) alone firing port = omega arith
takes_within (graphs.Joiner weights) alone firing port = omega arith
takes_within (graphs.Scatter fission) alone firing port = absurd (cc)
takes_within (graphs.Copy copied fission) alone firing port = absurd (cc)
takes_within (graphs.Gather fission) alone firing port = absurd (cc)

abbrev port_with : (front ahead : List ℤ) → (room : ℕ) → Port
port_with front ahead room = record { front = front; ahead = ahead; room = room }

port_within : (rates : List tree.Rate) (items : List ℤ) (count : ℕ) → window_size rates ≤ count
    → port_at_rates rates (take count items) ≡ port_at_rates rates items
port_within rates items count enough =
    let pops = item_count (pop_rate rates) in
    let room = item_count (push_rate rates) in
    let window = window_size rates in
    ap (λ (l : List ℤ). port_with l (take window (take count items)) room)
    (take-take pops count items (omega arith))
    ∙ ap (λ (l : List ℤ). port_with (take pops items) l room)
    (take-take window count items enough)

-- a firing of a body at this port
abbrev fired_at : Filter → Body → (fields : List ℤ) → Port → Result Fired Cause
fired_at filter body fields port =
    result_and_then (stmts_done (setting_at filter.members port) (body_block body filter.members)
    (store_at filter fields))
    (λ store.
    let left = block_left (store_at filter fields) store in
    Ok (record {
      fields = field_values left;
      pushes = left.traffic.pushes;
      words = left.traffic.words;
    }))

-- a firing of a filter sees its window alone
pub fired_within_window : (filter : Filter) (body : Body) (fields items : List ℤ) (count : ℕ)
    → window_size (body_rates body filter.members) ≤ count
    → fired filter body fields (take count items) ≡ fired filter body fields items
fired_within_window filter body fields items count enough =
    ap (fired_at filter body fields)
    (port_within (body_rates body filter.members) items count enough)

-- ---- rates settle

-- from the second firing on each has the window of that one
pub windows_settle : (code : NodeCode) (firing port : ℕ)
    → window_at code (suc firing) port ≡ window_at code 1 port
windows_settle (graphs.Filter name filter) firing port = refl
windows_settle graphs.Identity firing port = refl
windows_settle (graphs.FileReader text) firing port = refl
windows_settle (graphs.FileWriter text) firing port = refl
windows_settle (graphs.Splitter splitter) firing port = refl
windows_settle (graphs.Joiner weights) firing port = refl
windows_settle (graphs.Scatter fission) firing port = refl
windows_settle (graphs.Copy copied fission) firing port = refl
windows_settle (graphs.Gather fission) firing port = refl

-- takes what that one takes
pub pops_settle : (code : NodeCode) → fires_by_rounds code ≡ false → (firing port : ℕ)
    → pops_at code (suc firing) port ≡ pops_at code 1 port
pops_settle (graphs.Filter name filter) alone firing port = refl
pops_settle graphs.Identity alone firing port = refl
pops_settle (graphs.FileReader text) alone firing port = refl
pops_settle (graphs.FileWriter text) alone firing port = refl
pops_settle (graphs.Splitter splitter) alone firing port = refl
pops_settle (graphs.Joiner weights) alone firing port = refl
pops_settle (graphs.Scatter fission) alone firing port = refl
pops_settle (graphs.Copy copied fission) alone firing port = absurd (cc)
pops_settle (graphs.Gather fission) alone firing port = refl

-- and gives what it gives
pub pushes_settle : (code : NodeCode) (firing port : ℕ)
    → pushes_at code (suc firing) port ≡ pushes_at code 1 port
pushes_settle (graphs.Filter name filter) firing port = refl
pushes_settle graphs.Identity firing port = refl
pushes_settle (graphs.FileReader text) firing port = refl
pushes_settle (graphs.FileWriter text) firing port = refl
pushes_settle (graphs.Splitter splitter) firing port = refl
pushes_settle (graphs.Joiner weights) firing port = refl
pushes_settle (graphs.Scatter fission) firing port = refl
pushes_settle (graphs.Copy copied fission) firing port = refl
pushes_settle (graphs.Gather fission) firing port = refl
