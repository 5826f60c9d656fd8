-- After start-up no first firing is to come that is unlike the others.
use Rattle.std.proofs.Common.{◌≡◌, refl, sym, ap, subst, ℕ, zero, suc, ◌<◌, ◌≤◌, Bool, true}
use Rattle.std.proofs.Common.{false}
use Rattle.std.proofs.Common.{List, [], ◌∷◌, length, map, get_or, Option, None, Some, is_some}
use Rattle.std.proofs.Common.{slice_get, unwrap_or, cond, inl, inr, ◌⊎◌, arith}
use Rattle.std.specs.Option.{option_map_or}
use Rattle.std.proofs.lemmas.Bool.{true≢false}
use Rattle.std.proofs.lemmas.List.{get_or-map, length-map}
use Rattle.strc_parse_tree.specs.Tree as tree
use Rattle.strc_work_meaning.specs.Filters.{prework_block, prework_rates, work_rates}
use Rattle.strc_work_meaning.specs.Filters.{push_rate, pop_rate, item_count, window_size}
use Rattle.strc_elab_graph.specs.Graphs as graphs
use Rattle.strc_elab_graph.specs.Graphs.{NodeCode, Channel}
use Rattle.strc_elab_graph.specs.Rates.{window_at, pops_at, pushes_at, rate_at_0}
use Rattle.strc_elab_graph.proofs.Works.{no_rates}
use Rattle.strc_balance.specs.Balance.{count_at}
use Rattle.strc_balance.specs.Rates.{fires_by_rounds, pops_by_work, equation_of, IsRated}
use Rattle.strc_startup.specs.Rates.{has_prework, first_count, rates_of_channel}
use Rattle.strc_sched_orders.specs.Rounds.{IsPastPrework, PrimedCountsArePastPrework}

-- where there is no prework, its rates are those of work
work_rates_there : (members : List tree.Member) → is_some (prework_block members) ≡ false
    → unwrap_or (prework_rates members) (work_rates members) ≡ work_rates members
work_rates_there members none =
    ap (λ r. unwrap_or r (work_rates members)) (no_rates members none)

-- then the first firing is like all others

pushes_alike : (node : NodeCode) (port : ℕ) → has_prework node ≡ false
    → pushes_at node 0 port ≡ pushes_at node 1 port
pushes_alike (graphs.Filter name filter) port none =
    ap (λ r. rate_at_0 (item_count (push_rate r)) port) (work_rates_there filter.members none)
pushes_alike graphs.Identity port none = refl
pushes_alike (graphs.FileReader text) port none = refl
pushes_alike (graphs.FileWriter text) port none = refl
pushes_alike (graphs.Splitter splitter) port none = refl
pushes_alike (graphs.Joiner weights) port none = refl
pushes_alike (graphs.Scatter fission) port none = refl
pushes_alike (graphs.Copy copied fission) port none = refl
pushes_alike (graphs.Gather fission) port none = refl

pops_alike : (node : NodeCode) (port : ℕ) → has_prework node ≡ false
    → fires_by_rounds node ≡ false → pops_at node 0 port ≡ pops_at node 1 port
pops_alike (graphs.Filter name filter) port none each =
    ap (λ r. rate_at_0 (item_count (pop_rate r)) port) (work_rates_there filter.members none)
pops_alike graphs.Identity port none each = refl
pops_alike (graphs.FileReader text) port none each = refl
pops_alike (graphs.FileWriter text) port none each = refl
pops_alike (graphs.Splitter splitter) port none each = refl
pops_alike (graphs.Joiner weights) port none each = refl
pops_alike (graphs.Scatter fission) port none each = refl
pops_alike (graphs.Copy copied fission) port none each = absurd (true≢false each)
pops_alike (graphs.Gather fission) port none each = refl

windows_alike : (node : NodeCode) (port : ℕ) → has_prework node ≡ false
    → window_at node 0 port ≡ window_at node 1 port
windows_alike (graphs.Filter name filter) port none =
    ap (λ r. rate_at_0 (window_size r) port) (work_rates_there filter.members none)
windows_alike graphs.Identity port none = refl
windows_alike (graphs.FileReader text) port none = refl
windows_alike (graphs.FileWriter text) port none = refl
windows_alike (graphs.Splitter splitter) port none = refl
windows_alike (graphs.Joiner weights) port none = refl
windows_alike (graphs.Scatter fission) port none = refl
windows_alike (graphs.Copy copied fission) port none = refl
windows_alike (graphs.Gather fission) port none = refl

-- a node with a prework has fired

first_found : (nodes : List NodeCode) (node : ℕ)
    → option_map_or first_count (slice_get nodes node) 0 ≡ count_at (map first_count nodes) node
first_found [] node = refl
first_found (first ∷ rest) zero = refl
first_found (first ∷ rest) (suc node) = first_found rest node

has_fired : (node : NodeCode) (count : ℕ) → first_count node ≤ count → has_prework node ≡ true
    → 0 < count
has_fired node count least has =
    let one : first_count node ≡ 1 = ap (λ t. cond t 1 0) has in
    omega (arith, one, least)

rounds_none : (node : NodeCode) (port : ℕ) (rounds : Bool) → fires_by_rounds node ≡ rounds
    → 0 < pops_by_work node port → fires_by_rounds node ≡ false
rounds_none node port false is some = is
rounds_none node port true is some =
    let none : pops_by_work node port ≡ 0 = ap (λ t. cond t 0 (pops_at node 1 port)) is in
    absurd (omega (arith, none, some))

source_node : (node : NodeCode) (port count : ℕ) (prework : Bool) → has_prework node ≡ prework
    → first_count node ≤ count → (0 < count) ⊎ (pushes_at node 0 port ≡ pushes_at node 1 port)
source_node node port count true has least = inl (has_fired node count least has)
source_node node port count false none least = inr (pushes_alike node port none)

target_node : (node : NodeCode) (port count : ℕ) (prework : Bool) → has_prework node ≡ prework
    → first_count node ≤ count → fires_by_rounds node ≡ false
    → (0 < count) ⊎ ((pops_at node 0 port ≡ pops_at node 1 port)
    × (window_at node 0 port ≡ window_at node 1 port))
target_node node port count true has least each = inl (has_fired node count least has)
target_node node port count false none least each =
    inr (pops_alike node port none each, windows_alike node port none)

source_found : (found : Option NodeCode) (port count : ℕ)
    → option_map_or first_count found 0 ≤ count
    → (0 < count) ⊎ (option_map_or (λ node. pushes_at node 0 port) found 0
    ≡ option_map_or (λ node. pushes_at node 1 port) found 0)
source_found None port count least = inr refl
source_found (Some node) port count least =
    source_node node port count (has_prework node) refl least

target_found : (found : Option NodeCode) (port count : ℕ)
    → option_map_or first_count found 0 ≤ count
    → 0 < option_map_or (λ node. pops_by_work node port) found 0
    → (0 < count) ⊎ ((option_map_or (λ node. pops_at node 0 port) found 0
    ≡ option_map_or (λ node. pops_at node 1 port) found 0)
    × (option_map_or (λ node. window_at node 0 port) found 0
    ≡ option_map_or (λ node. window_at node 1 port) found 0))
target_found None port count least some = inr (refl, refl)
target_found (Some node) port count least some =
    target_node node port count (has_prework node) refl least
    (rounds_none node port (fires_by_rounds node) refl some)

channel_past_prework : (nodes : List NodeCode) (channel : Channel) (counts : List ℕ)
    → ((node : ℕ) → count_at (map first_count nodes) node ≤ count_at counts node)
    → IsRated (equation_of nodes channel)
    → IsPastPrework (count_at counts) (rates_of_channel nodes channel)
channel_past_prework nodes channel counts least rated =
    let from = channel.source in
    let to = channel.target in
    let first : (node : ℕ) → option_map_or first_count (slice_get nodes node) 0
    ≤ count_at counts node =
    λ node. subst (λ n. n ≤ count_at counts node) (sym (first_found nodes node)) (least node) in
    record {
      source = source_found (slice_get nodes from.node) from.port (count_at counts from.node)
          (first from.node);
      target = target_found (slice_get nodes to.node) to.port (count_at counts to.node)
          (first to.node) rated.pop;
    }

pub all_past_prework : PrimedCountsArePastPrework
all_past_prework graph counts rated primed k d within =
    let own = rates_of_channel graph.nodes in
    let short : k < length graph.channels = omega (arith, within, length-map graph.channels own) in
    let channel = get_or graph.channels k nowhere in
    let balance = equation_of graph.nodes channel in
    let even = subst IsRated (get_or-map (equation_of graph.nodes) graph.channels k nowhere balance
    short)
    (rated k balance (omega (
      arith,
      short,
      length-map graph.channels (equation_of graph.nodes),
    ))) in
    subst (IsPastPrework (count_at counts)) (sym (get_or-map own graph.channels k nowhere d short))
    (channel_past_prework graph.nodes channel counts primed.past_prework even)
  where
    nowhere : Channel
    nowhere = record {
      source = record { node = 0; port = 0 };
      target = record { node = 0; port = 0 };
      enqueued = [];
    }
