-- What the nodes of a flat graph mean in the generic layer of streams: the state that each starts
-- from, its rates, and what a firing gives (StreamIt specification 2.1, "Filters" and
-- "Split-joins"). A filter's firings are those of its text, the first one that of its prework,
-- where there is one. Of the nodes of fission a scatter deals a round's items to the copies, a copy
-- fires as what it copies, and a gather joins what the copies give.
use Rattle.std.specs.Prelude.{ℕ, zero, suc, ◌*◌, ℤ, List, [], ◌++◌, map, take, drop, nat_lt}
use Rattle.std.specs.Prelude.{slice_index, slice_index_or, true, false, Result, Ok, Err}
use Rattle.std.specs.Prelude.{if◌then◌else◌}
use Rattle.strc_elab_dataflow.specs.Node.{ByPort, Meaning, Fired, Fired.Fires, Fired.Faults}
use Rattle.strc_elab_dataflow.specs.Node.{at_port_0}
use Rattle.strc_elab_dataflow.specs.RoundRobin.{span_start, one_cycle}
use Rattle.strc_work_meaning.specs.Firing as filters
use Rattle.strc_work_meaning.specs.declared.fault.Cause.{Cause}
use Rattle.strc_work_meaning.specs.declared.word.Word.{Word}
use Rattle.strc_elab_graph.specs.Graphs.{NodeCode, Filter, Identity, FileReader, FileWriter}
use Rattle.strc_elab_graph.specs.Graphs.{Splitter}
use Rattle.strc_elab_graph.specs.Graphs.{Joiner, Scatter, Copy, Gather, CopiedCode, OfFilter}
use Rattle.strc_elab_graph.specs.Graphs.{OfIdentity}
use Rattle.strc_elab_graph.specs.Graphs.{SplitterCode, Duplicate, Roundrobin, input_ports}
use Rattle.strc_elab_graph.specs.Rates.{body_at, window_at, pops_at, pushes_at, reach}
use Rattle.strc_elab_graph.specs.declared.graph.Fission.{Fission}

-- the fields that a filter starts from; one whose initialisers fault is refused before
abbrev pub first_fields : Result (List ℤ) Cause → List ℤ
first_fields (Ok fields) = fields
first_fields (Err cause) = []

-- the fields that a copy starts from
abbrev pub copied_fields : CopiedCode → List ℤ
copied_fields (OfFilter name filter) = first_fields (filters.started filter)
copied_fields OfIdentity = []

-- the fields that a node starts from
abbrev pub node_fields : NodeCode → List ℤ
node_fields (Filter name filter) = first_fields (filters.started filter)
node_fields (Copy copied fission) = copied_fields copied
node_fields _ = []

-- the number of ports by which items come in: those of the graph, and a reader's for the program's
-- input
abbrev pub ports_in : NodeCode → ℕ
ports_in (FileReader text) = 1
ports_in code = input_ports code

-- a firing's outcome, as the generic layer has it
abbrev pub as_fired : Result filters.Fired Cause → Fired (List ℤ) Cause Word
as_fired (Ok done) = Fires done.fields (at_port_0 done.pushes) done.words
as_fired (Err cause) = Faults cause

-- a firing of a node without fields that only passes items on
abbrev pub passes : ByPort → Fired (List ℤ) Cause Word
passes pushes = Fires [] pushes []

-- what a splitter gives at a port, of the items that it takes: each of them where the port carries
-- items, or those in the port's span
abbrev pub split : SplitterCode → (items : List ℤ) → ByPort
split (Duplicate carried) items port = if slice_index_or carried port false then items else []
split (Roundrobin weights) items port =
    take (slice_index weights port) (drop (span_start weights port) items)

-- what a scatter gives at a port, of the items that it sees: the windows of the firings that this
-- copy has in a round, which overlap with the next copy's where the filter peeks
abbrev pub scattered : Fission → (items : List ℤ) → ByPort
scattered fission items port = if nat_lt port fission.ways
    then take (reach fission fission.firings) (drop (port * fission.firings * fission.pop) items)
    else []

-- what comes at so many ports, in order of the ports
abbrev pub gathered : (seen : ByPort) → (ports : ℕ) → List ℤ
gathered seen zero = []
gathered seen (suc port) = gathered seen port ++ seen port

-- a firing of a copy, which is one of what it copies; firing 0 of a filter is its work as the later
-- ones are, since no filter with a prework is copied
abbrev pub copied_fired : CopiedCode → (firing : ℕ) → (fields : List ℤ) → (seen : ByPort)
    → Fired (List ℤ) Cause Word
copied_fired (OfFilter name filter) firing fields seen =
    as_fired (filters.fired filter (body_at firing) fields (seen 0))
copied_fired OfIdentity firing fields seen = passes (at_port_0 (seen 0))

-- a line for each item
abbrev pub line_of : ℤ → Word
line_of item = record { value = item; ends_line = true }

-- a firing of a node, from these values of the fields, at the items that it sees at each port
abbrev pub node_fired : NodeCode → (firing : ℕ) → (fields : List ℤ) → (seen : ByPort)
    → Fired (List ℤ) Cause Word
node_fired (Filter name filter) firing fields seen =
    as_fired (filters.fired filter (body_at firing) fields (seen 0))
node_fired Identity firing fields seen = passes (at_port_0 (seen 0))
node_fired (FileReader text) firing fields seen = passes (at_port_0 (seen 0))
node_fired (FileWriter text) firing fields seen = Fires [] (λ port. []) (map line_of (seen 0))
node_fired (Splitter splitter) firing fields seen = passes (split splitter (seen 0))
node_fired (Joiner weights) firing fields seen = passes (at_port_0 (one_cycle weights 0 seen))
node_fired (Scatter fission) firing fields seen = passes (scattered fission (seen 0))
node_fired (Copy copied fission) firing fields seen = copied_fired copied firing fields seen
node_fired (Gather fission) firing fields seen = passes (at_port_0 (gathered seen fission.ways))

-- what a node means: its state is the list of its fields' values
abbrev pub node_meaning : Meaning NodeCode (List ℤ) Cause Word
node_meaning = record {
  start = node_fields;
  ports = ports_in;
  window = window_at;
  popped = pops_at;
  pushed = pushes_at;
  fire = node_fired;
}
