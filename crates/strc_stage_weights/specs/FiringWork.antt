-- The work of a firing of a node, in operations: of a filter by its text, of a copy that of what it
-- copies. What only moves items has a small part of an operation for each that it gives.
use Rattle.std.specs.Prelude.{ℕ, zero, suc, ◌+◌, ◌-◌, ◌/◌, min, List, map}
use Rattle.strc_elab_graph.specs.Graphs as graphs
use Rattle.strc_elab_graph.specs.Graphs.{NodeCode, CopiedCode, OfFilter, OfIdentity, output_ports}
use Rattle.strc_elab_graph.specs.Rates.{pushes_at}
use Rattle.strc_rate_estimate.specs.Filters.{firing_estimate}
use Rattle.strc_stage_weights.specs.declared.firing_work.TheConstants.{BUILTIN_WORK, ITEM_LIMIT}
use Rattle.strc_stage_weights.specs.declared.firing_work.TheConstants.{ITEMS_OF_OPERATION}

-- how many items a firing after the first gives at the first so many output ports
abbrev pub items_given : NodeCode → (ports : ℕ) → ℕ
items_given code zero = 0
items_given code (suc port) = items_given code port + pushes_at code 1 port

-- and at all of them
abbrev pub all_given : NodeCode → ℕ
all_given code = items_given code (output_ports code)

-- the work of moving so many items, rounded up, and saturated
abbrev pub moving_work : (items : ℕ) → ℕ
moving_work items = (min items ITEM_LIMIT + (ITEMS_OF_OPERATION - 1)) / ITEMS_OF_OPERATION

-- that of a node that only moves them
abbrev pub giving_work : NodeCode → ℕ
giving_work code = moving_work (all_given code)

abbrev pub copied_work : CopiedCode → ℕ
copied_work (OfFilter name filter) = firing_estimate filter.members
copied_work OfIdentity = BUILTIN_WORK

abbrev pub firing_work : NodeCode → ℕ
firing_work (graphs.Filter name filter) = firing_estimate filter.members
firing_work graphs.Identity = BUILTIN_WORK
firing_work (graphs.FileReader text) = BUILTIN_WORK
firing_work (graphs.FileWriter text) = BUILTIN_WORK
firing_work (graphs.Splitter splitter) = giving_work (graphs.Splitter splitter)
firing_work (graphs.Joiner weights) = giving_work (graphs.Joiner weights)
firing_work (graphs.Scatter fission) = giving_work (graphs.Scatter fission)
firing_work (graphs.Copy copied fission) = copied_work copied
firing_work (graphs.Gather fission) = giving_work (graphs.Gather fission)

abbrev pub firing_works : List NodeCode → List ℕ
firing_works nodes = map firing_work nodes
