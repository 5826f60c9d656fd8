-- In a flat graph of checked instances, both ends of each channel have a rate.
use Rattle.std.proofs.Common.{◌≡◌, ℕ, zero, suc, ◌+◌, ◌<◌, ℤ, false, List, [], ◌∷◌, length, get_or}
use Rattle.std.proofs.Common.{refl, sym, ap, ◌∙◌, subst, Ok, arith, Bool, true}
use Rattle.std.specs.Prelude.{All, nat_eq, nat_lt, Option, Some, None, slice_get, slice_index}
use Rattle.std.specs.Prelude.{slice_index_or, if◌then◌else◌}
use Rattle.std.specs.List.{AllByRecursion}
use Rattle.std.specs.Option.{option_map_or}
use Rattle.std.proofs.lemmas.List.{get_or-map, length-map}
use Rattle.strc_parse_tree.specs.declared.tree.ItemType.{ItemType}
use Rattle.strc_parse_tree.specs.declared.tree.ItemType.TheVariants as item
use Rattle.strc_work_meaning.specs.Filters as filters
use Rattle.strc_work_meaning.specs.Filters.{work_rates, prework_rates, prework_block, push_rate}
use Rattle.strc_work_meaning.specs.Filters.{pop_rate, item_count}
use Rattle.strc_rate.specs.Rates as rates
use Rattle.strc_rate.specs.Rates.{checked, work_checked, work_lacks}
use Rattle.strc_elab_graph.specs.Graphs as graphs
use Rattle.strc_elab_graph.specs.Carriers.{carries_in, carries_out, takes_at, gives_at}
use Rattle.strc_elab_graph.specs.Carriers.{JoinsCarriers}
use Rattle.strc_elab_graph.specs.Graphs.{NodeCode, Channel, Graph, Duplicate, Roundrobin, ports_of}
use Rattle.strc_elab_graph.specs.Graphs.{input_ports, output_ports}
use Rattle.strc_balance.specs.Rates.{IsRated, equation_of, equations_of, pops_by_work}
use Rattle.strc_balance.specs.Rates.{pushes_by_work}
use Rattle.strc_elab_stream.specs.Flattening.{nodes_of, IsFlat}
use Rattle.strc_elab_stream.specs.Instances.{Stream}
use Rattle.strc_elab.specs.Sound.{IsElaborated, IsInstance}
use Rattle.strc_elab_stream.specs.Types.{IsWellTyped}
use Rattle.strc_elab_stream.specs.Dealing.{Deals, NodesDeal}
use Rattle.strc_run.specs.Rates.{node_checked, rates_checked}
use Rattle.strc_run.proofs.CheckedRates.{neither, node_ok, filter_ok, work_ok, lacks_none}

-- a side that has a port and lacks no rate
side_rate : (side : ItemType) (rate : ℤ) (port : ℕ) → rates.lacks_rate side rate ≡ false
    → port < ports_of side → (port ≡ 0) × (0 < item_count rate)
side_rate item.Int rate port e lt = (omega arith, by_count (item_count rate) e)
  where
    by_count : (count : ℕ) → nat_eq count 0 ≡ false → 0 < count
    by_count zero e = absurd (cc)
    by_count (suc count) e = omega arith
side_rate item.Void rate port e lt = absurd (omega (arith, lt))

-- the sides of a checked filter lack no rate
lacks_no_rate : (number : ℕ) (name : Option (List ℕ)) (filter : filters.Filter)
    → node_checked number (graphs.Filter name filter) ≡ Ok tt
    → (rates.lacks_rate filter.input (pop_rate (work_rates filter.members)) ≡ false)
    × (rates.lacks_rate filter.output (push_rate (work_rates filter.members)) ≡ false)
lacks_no_rate number name filter e =
    let members = filter.members in
    let found = filter_ok number (checked filter) e in
    let work = work_ok (rates.prework_checked (prework_rates members) (prework_block members))
    (work_checked filter) found.0 found.1 in
    let lacking = lacks_none (Rattle.std.specs.Prelude.not
    (rates.are_within_limit (work_rates members))) (work_lacks filter) _ work.0 work.1 in
    neither (rates.lacks_rate filter.input (pop_rate (work_rates members)))
    (rates.lacks_rate filter.output (push_rate (work_rates members))) lacking

-- a port that is below a number of ports, or has a weight
below : (m n : ℕ) → nat_lt m n ≡ true → m < n
below m n is = grind arith

duplicated : (carried : List Bool) (port : ℕ) → slice_index_or carried port false ≡ true
    → 0 < (if slice_index_or carried port false then 1 else 0)
duplicated carried port is = subst (λ b. 0 < (if b then 1 else 0)) (sym is) (omega arith)

code_pushes : (number : ℕ) (code : NodeCode) (port : ℕ) → IsInstance code → Deals code
    → node_checked number code ≡ Ok tt → carries_out code port ≡ true
    → 0 < pushes_by_work code port
code_pushes number (graphs.Filter name filter) port is deals e carries =
    let rated = side_rate filter.output (push_rate (work_rates filter.members)) port
    (lacks_no_rate number name filter e).1
    (below port (output_ports (graphs.Filter name filter)) carries) in
    subst (λ p. 0 < pushes_by_work (graphs.Filter name filter) p) (sym rated.0) rated.1
code_pushes number graphs.Identity port is deals e carries =
    let first : port ≡ 0 = let lt = below port 1 carries in omega (arith, lt) in
    subst (λ p. 0 < pushes_by_work graphs.Identity p) (sym first) (omega arith)
code_pushes number (graphs.FileReader text) port is deals e carries =
    let first : port ≡ 0 = let lt = below port 1 carries in omega (arith, lt) in
    subst (λ p. 0 < pushes_by_work (graphs.FileReader text) p) (sym first) (omega arith)
code_pushes number (graphs.FileWriter text) port is deals e carries =
    absurd (let lt = below port 0 carries in omega (arith, lt))
code_pushes number (graphs.Splitter (Duplicate carried)) port is deals e carries =
    duplicated carried port carries
code_pushes number (graphs.Splitter (Roundrobin weights)) port is deals e carries =
    below 0 (slice_index weights port) carries
code_pushes number (graphs.Joiner weights) port is deals e carries =
    let first : port ≡ 0 = let lt = below port 1 carries in omega (arith, lt) in
    subst (λ p. 0 < pushes_by_work (graphs.Joiner weights) p) (sym first) deals
code_pushes number code port is deals e carries = absurd is

code_pops : (number : ℕ) (code : NodeCode) (port : ℕ) → IsInstance code → Deals code
    → node_checked number code ≡ Ok tt → carries_in code port ≡ true → 0 < pops_by_work code port
code_pops number (graphs.Filter name filter) port is deals e carries =
    let rated = side_rate filter.input (pop_rate (work_rates filter.members)) port
    (lacks_no_rate number name filter e).0
    (below port (input_ports (graphs.Filter name filter)) carries) in
    subst (λ p. 0 < pops_by_work (graphs.Filter name filter) p) (sym rated.0) rated.1
code_pops number graphs.Identity port is deals e carries =
    let first : port ≡ 0 = let lt = below port 1 carries in omega (arith, lt) in
    subst (λ p. 0 < pops_by_work graphs.Identity p) (sym first) (omega arith)
code_pops number (graphs.FileReader text) port is deals e carries =
    absurd (let lt = below port 0 carries in omega (arith, lt))
code_pops number (graphs.FileWriter text) port is deals e carries =
    let first : port ≡ 0 = let lt = below port 1 carries in omega (arith, lt) in
    subst (λ p. 0 < pops_by_work (graphs.FileWriter text) p) (sym first) (omega arith)
code_pops number (graphs.Splitter (Duplicate carried)) port is deals e carries =
    let first : port ≡ 0 = let lt = below port 1 carries in omega (arith, lt) in
    subst (λ p. 0 < pops_by_work (graphs.Splitter (Duplicate carried)) p) (sym first) (omega arith)
code_pops number (graphs.Splitter (Roundrobin weights)) port is deals e carries =
    let first : port ≡ 0 = let lt = below port 1 carries in omega (arith, lt) in
    subst (λ p. 0 < pops_by_work (graphs.Splitter (Roundrobin weights)) p) (sym first) deals
code_pops number (graphs.Joiner weights) port is deals e carries =
    below 0 (slice_index weights port) carries
code_pops number code port is deals e carries = absurd is

-- each node is an instance that moves items, and checked
pub record IsChecked (code : NodeCode) : Type 0 where
  pub number : ℕ
  pub instance : IsInstance code
  pub deals : Deals code
  pub checks : node_checked number code ≡ Ok tt

pub all_checked : (number : ℕ) (codes : List NodeCode) → AllByRecursion IsInstance codes
    → AllByRecursion Deals codes → rates_checked number codes ≡ Ok tt
    → AllByRecursion IsChecked codes
all_checked number [] all deal e = tt
all_checked number (code ∷ codes) all deal e =
    let here = node_ok (node_checked number code) (rates_checked (number + 1) codes) e in (
      record { number = number; instance = all.0; deals = deal.0; checks = here.0 },
      all_checked (number + 1) codes all.1 deal.1 here.1,
    )

pub checked_at : (codes : List NodeCode) (node : ℕ) (code : NodeCode)
    → AllByRecursion IsChecked codes → slice_get codes node ≡ Some code → IsChecked code
checked_at [] node code all is = absurd (cc)
checked_at (first ∷ rest) zero code all is = let same : first ≡ code = cc in
    subst IsChecked same all.0
checked_at (first ∷ rest) (suc node) code all is = checked_at rest node code all.1 is

source_pushes : (nodes : List NodeCode) → AllByRecursion IsChecked nodes → (node port : ℕ)
    → gives_at nodes node port ≡ true → 0 < option_map_or (λ code. pushes_by_work code port)
    (slice_get nodes node) 0
source_pushes nodes all node port carries = by_option (slice_get nodes node) refl carries
  where
    by_option : (found : Option NodeCode) → slice_get nodes node ≡ found
        → option_map_or (λ code. carries_out code port) found false ≡ true
        → 0 < option_map_or (λ code. pushes_by_work code port) found 0
    by_option None is carries = absurd (cc)
    by_option (Some code) is carries = let one = checked_at nodes node code all is in
        code_pushes one.number code port one.instance one.deals one.checks carries

target_pops : (nodes : List NodeCode) → AllByRecursion IsChecked nodes → (node port : ℕ)
    → takes_at nodes node port ≡ true → 0 < option_map_or (λ code. pops_by_work code port)
    (slice_get nodes node) 0
target_pops nodes all node port carries = by_option (slice_get nodes node) refl carries
  where
    by_option : (found : Option NodeCode) → slice_get nodes node ≡ found
        → option_map_or (λ code. carries_in code port) found false ≡ true
        → 0 < option_map_or (λ code. pops_by_work code port) found 0
    by_option None is carries = absurd (cc)
    by_option (Some code) is carries = let one = checked_at nodes node code all is in
        code_pops one.number code port one.instance one.deals one.checks carries

pub graph_is_rated : (graph : Graph) → All (JoinsCarriers graph.nodes) graph.channels
    → AllByRecursion IsChecked graph.nodes → All IsRated (equations_of graph)
graph_is_rated graph joined all k d within =
    let nodes = graph.nodes in
    let nowhere : Channel = record {
      source = record { node = 0; port = 0 };
      target = record { node = 0; port = 0 };
      enqueued = [];
    } in
    let channel = get_or graph.channels k nowhere in
    let same_length : length (equations_of graph) ≡ length graph.channels =
    length-map graph.channels (equation_of nodes) in
    let in_channels : k < length graph.channels = omega arith in
    let same : get_or (equations_of graph) k d ≡ equation_of nodes channel =
    get_or-map (equation_of nodes) graph.channels k nowhere d in_channels in
    let joins : JoinsCarriers nodes channel = joined k nowhere in_channels in
    subst IsRated (sym same) (record {
      push = source_pushes nodes all channel.source.node channel.source.port joins.source;
      pop = target_pops nodes all channel.target.node channel.target.port joins.target;
    })

module _ (nodes_deal : NodesDeal) where
  -- the nodes of an elaborated stream whose rates hold are checked
  pub stream_checked : (stream : Stream) → IsElaborated stream
      → rates_checked 0 (nodes_of stream) ≡ Ok tt → AllByRecursion IsChecked (nodes_of stream)
  stream_checked stream sound checks =
      all_checked 0 (nodes_of stream) sound.instances (nodes_deal stream sound.closed.typed) checks

  -- and its flat graph is rated
  pub flat_is_rated : (stream : Stream) (graph : Graph) → IsElaborated stream
      → (IsWellTyped stream → IsFlat stream graph) → graph.nodes ≡ nodes_of stream
      → rates_checked 0 graph.nodes ≡ Ok tt → All IsRated (equations_of graph)
  flat_is_rated stream graph sound flat same checks =
      graph_is_rated graph (flat sound.closed.typed).joined
      (subst (AllByRecursion IsChecked) (sym same)
      (stream_checked stream sound (ap (rates_checked 0) (sym same) ∙ checks)))
