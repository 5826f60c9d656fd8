-- How many items a firing of a node looks at, takes and gives at each of its ports (Lee and
-- Messerschmitt 1987; StreamIt specification 2.1, "Filters" and "Split-joins"). The firings of a
-- node are numbered from 0 over its whole life. A port that a node doesn't have has the rate 0.
use Rattle.std.specs.Prelude.{ℕ, zero, suc, ◌+◌, ◌-◌, ◌*◌, ◌%◌, ◌==◌, nat_lt, Bool, true, false}
use Rattle.std.specs.Prelude.{List, sum, slice_index, slice_index_or, if◌then◌else◌}
use Rattle.strc_parse_tree.specs.Tree as tree
use Rattle.strc_work_meaning.specs.declared.body.Body.{Body}
use Rattle.strc_work_meaning.specs.declared.body.Body.TheVariants as body
use Rattle.strc_work_meaning.specs.Filters.{Filter, body_rates, push_rate, pop_rate, item_count}
use Rattle.strc_work_meaning.specs.Filters.{window_size}
use Rattle.strc_elab_graph.specs.declared.graph.Fission.{Fission}
use Rattle.strc_elab_graph.specs.Graphs as graphs
use Rattle.strc_elab_graph.specs.Graphs.{NodeCode, SplitterCode, Duplicate, Roundrobin}

-- scatters, copies and gathers fire by rounds that are known before
abbrev pub fires_by_rounds : NodeCode → Bool
fires_by_rounds (graphs.Scatter fission) = true
fires_by_rounds (graphs.Copy copied fission) = true
fires_by_rounds (graphs.Gather fission) = true
fires_by_rounds _ = false

-- a rate at each of so many ports
abbrev pub at_ports : (count rate port : ℕ) → ℕ
at_ports count rate port = if nat_lt port count then rate else 0

-- a rate at port 0 alone
abbrev pub rate_at_0 : (rate port : ℕ) → ℕ
rate_at_0 rate zero = rate
rate_at_0 rate (suc port) = 0

-- filters

-- the body of a firing: that of the first one is the prework, where there is one
abbrev pub body_at : (firing : ℕ) → Body
body_at zero = body.Prework
body_at (suc firing) = body.Work

-- the declared rates of a firing
abbrev pub firing_rates : Filter → (firing : ℕ) → List tree.Rate
firing_rates filter firing = body_rates (body_at firing) filter.members

abbrev pub filter_window : Filter → (firing : ℕ) → ℕ
filter_window filter firing = window_size (firing_rates filter firing)

abbrev pub filter_pops : Filter → (firing : ℕ) → ℕ
filter_pops filter firing = item_count (pop_rate (firing_rates filter firing))

abbrev pub filter_pushes : Filter → (firing : ℕ) → ℕ
filter_pushes filter firing = item_count (push_rate (firing_rates filter firing))

-- splitters

-- one item, or as many as the weights together
abbrev pub splitter_pops : SplitterCode → ℕ
splitter_pops (Duplicate carried) = 1
splitter_pops (Roundrobin weights) = sum weights

-- that item where the port carries items, or as many as its weight
abbrev pub splitter_pushes : SplitterCode → (port : ℕ) → ℕ
splitter_pushes (Duplicate carried) port = if slice_index_or carried port false then 1 else 0
splitter_pushes (Roundrobin weights) port = slice_index weights port

-- fissioned filters: a scatter and a gather fire once in a round, and each copy its share

-- how many items the windows of so many firings reach over
abbrev pub reach : Fission → (firings : ℕ) → ℕ
reach fission firings = firings * fission.pop + (fission.window - fission.pop)

-- what the firings of a round pop, of all copies together, and what they push
abbrev pub round_pops : Fission → ℕ
round_pops fission = fission.ways * fission.firings * fission.pop

abbrev pub round_pushes : Fission → ℕ
round_pushes fission = fission.ways * fission.firings * fission.push

-- a copy takes what the filter pops; with its last firing of a round it takes all that it looks at,
-- since what is left of its list is dropped
abbrev pub copy_pops : Fission → (firing : ℕ) → ℕ
copy_pops fission firing =
    if firing % fission.firings + 1 == fission.firings then fission.window else fission.pop

-- nodes

-- how many items a firing looks at, at an input port; a reader's is the program's input
abbrev pub window_at : NodeCode → (firing port : ℕ) → ℕ
window_at (graphs.Filter name filter) firing port = rate_at_0 (filter_window filter firing) port
window_at graphs.Identity firing port = rate_at_0 1 port
window_at (graphs.FileReader text) firing port = rate_at_0 1 port
window_at (graphs.FileWriter text) firing port = rate_at_0 1 port
window_at (graphs.Splitter splitter) firing port = rate_at_0 (splitter_pops splitter) port
window_at (graphs.Joiner weights) firing port = slice_index weights port
window_at (graphs.Scatter fission) firing port =
    rate_at_0 (reach fission (fission.ways * fission.firings)) port
window_at (graphs.Copy copied fission) firing port = rate_at_0 fission.window port
window_at (graphs.Gather fission) firing port =
    at_ports fission.ways (fission.firings * fission.push) port

-- how many of them it takes
abbrev pub pops_at : NodeCode → (firing port : ℕ) → ℕ
pops_at (graphs.Filter name filter) firing port = rate_at_0 (filter_pops filter firing) port
pops_at graphs.Identity firing port = rate_at_0 1 port
pops_at (graphs.FileReader text) firing port = rate_at_0 1 port
pops_at (graphs.FileWriter text) firing port = rate_at_0 1 port
pops_at (graphs.Splitter splitter) firing port = rate_at_0 (splitter_pops splitter) port
pops_at (graphs.Joiner weights) firing port = slice_index weights port
pops_at (graphs.Scatter fission) firing port = rate_at_0 (round_pops fission) port
pops_at (graphs.Copy copied fission) firing port = rate_at_0 (copy_pops fission firing) port
pops_at (graphs.Gather fission) firing port =
    at_ports fission.ways (fission.firings * fission.push) port

-- how many items it gives at an output port; a scatter gives each copy the windows of its firings
abbrev pub pushes_at : NodeCode → (firing port : ℕ) → ℕ
pushes_at (graphs.Filter name filter) firing port = rate_at_0 (filter_pushes filter firing) port
pushes_at graphs.Identity firing port = rate_at_0 1 port
pushes_at (graphs.FileReader text) firing port = rate_at_0 1 port
pushes_at (graphs.FileWriter text) firing port = 0
pushes_at (graphs.Splitter splitter) firing port = splitter_pushes splitter port
pushes_at (graphs.Joiner weights) firing port = rate_at_0 (sum weights) port
pushes_at (graphs.Scatter fission) firing port =
    at_ports fission.ways (reach fission fission.firings) port
pushes_at (graphs.Copy copied fission) firing port = rate_at_0 fission.push port
pushes_at (graphs.Gather fission) firing port = rate_at_0 (round_pushes fission) port
