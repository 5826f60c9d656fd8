-- Before its first firing a program is where the machine over queues is.
use Rattle.std.proofs.Common.{◌≡◌, refl, sym, ap, ◌∙◌, subst, ℕ, ◌<◌, ℤ, List, length, Option}
use Rattle.std.proofs.Common.{Some, arith}
use Rattle.std.specs.Prelude.{slice_get, slice_index_or, pos}
use Rattle.std.proofs.lemmas.List.{append-nil}
use Rattle.strc_work_meaning.specs.Filters.{Filter}
use Rattle.strc_elab_dataflow.specs.Flat.{Source, items_of, arrived}
use Rattle.strc_elab_dataflow.specs.Histories.{initial_run}
use Rattle.strc_elab_dataflow.specs.Queues.{fifo_at_first}
use Rattle.strc_elab_dataflow.specs.Streams.{Stream, flat}
use Rattle.strc_elab_graph.specs.declared.graph.Channel.{Channel}
use Rattle.strc_elab_graph.specs.Graphs.{NodeCode, Graph}
use Rattle.strc_elab_graph.specs.Graphs as graphs
use Rattle.strc_elab_graph.specs.Meaning.{node_meaning, node_fields, first_fields}
use Rattle.strc_elab_graph.specs.NodeView.{GraphParts, graph_view, channel_view}
use Rattle.strc_sched_orders.specs.Schedules.{ScheduleParts}
use Rattle.strc_sched_laws.proofs.TreeGraphs.{source_is}
use Rattle.strc_emit_moves.specs.declared.places.Phase.TheVariants as phase
use Rattle.strc_emit_runs.specs.Running.{Program, code_at}
use Rattle.strc_emit_runs.specs.Windows.{StandFrom}
use Rattle.strc_emit_runs.specs.Orders.{reader_from}
use Rattle.strc_emit_network.proofs.Readers.{readers_read}
use Rattle.strc_emit_plans.specs.Firsts.{FirstsShow}
use Rattle.strc_emit_plans.specs.Programs.{IsPlannedProgram}
use Rattle.strc_emit_plans.proofs.Networks.{code_is, channel_there}
use Rattle.strc_emit_plans.proofs.Programs.{plans_make_programs, filter_there}

module _ (tree : Stream NodeCode) (parts : GraphParts) (schedule : ScheduleParts)
    (program : Program) (all : IsPlannedProgram tree parts schedule program) where
  abbrev graph : Graph
  graph = graph_view parts

  code_of : (node : ℕ) (code : NodeCode) → code_at program node ≡ Some code
      → (flat tree).code node ≡ code
  code_of = (plans_make_programs tree parts schedule program phase.Startup all).codes

  -- what has come to a channel's end
  items_are : (number : ℕ) (channel : Channel)
      → slice_get program.network.channels.now number ≡ Some channel
      → (fifo_at_first node_meaning (flat tree) program.input).queues channel.target.node
      channel.target.port ≡ channel.enqueued.items
  unfolding fifo_at_first initial_run arrived items_of
  items_are number channel at =
      ap (λ (source : Source). arrived program.input
      (λ v. initial_run node_meaning ((flat tree).code v)) source)
      (source_is tree graph all.whole number (channel_view channel)
      (channel_there parts all.planned.startup all.planned.round schedule program all.is.is number
      channel at))
      ∙ append-nil channel.enqueued.items

  -- and to the reader
  input_is : (reader : ℕ) → reader_from 0 program.network.nodes.now ≡ Some reader
      → (fifo_at_first node_meaning (flat tree) program.input).queues reader 0 ≡ program.input
  unfolding fifo_at_first initial_run arrived items_of
  input_is reader at =
      let found = readers_read program reader at in
      ap (λ (source : Source). arrived program.input
      (λ v. initial_run node_meaning ((flat tree).code v)) source)
      (all.whole.inputs reader found.0
      (sym (code_is parts all.planned.startup all.planned.round schedule program all.is.is reader)
      ∙ found.1))

  -- a filter has as many fields as its function
  fields_counted : (node : ℕ) (name : Option (List ℕ)) (filter : Filter)
      → code_at program node ≡ Some (graphs.Filter name filter)
      → length (node_fields (graphs.Filter name filter))
      ≡ (program.functions node).work.function.fields
  fields_counted node name filter at =
      let found = filter_there (slice_get program.network.nodes.now node) name filter at in
      let has = all.is.functions node found.0 found.1 in
      ap (λ f. length (node_fields (graphs.Filter name f))) found.2
      ∙ ap (λ r. length (first_fields r)) has.1
      ∙ sym (ap (λ f. f.work.function.fields) has.0.functions)

pub firsts_show : FirstsShow
unfolding fifo_at_first initial_run
firsts_show tree parts schedule program first all is = record {
  round_is = is.round;
  items = λ number channel at.
      subst (λ l. StandFrom number 0 l first.cells)
      (sym (items_are tree parts schedule program all number channel at))
      (is.items number channel at);
  ends = λ number channel at.
      let same = ap (λ (l : List ℤ). length l)
      (items_are tree parts schedule program all number channel at) in
      omega (arith, same);
  fields = λ node slot code at lt.
      let own = code_of tree parts schedule program all node code at in
      is.fields node slot code at
      (subst (λ c. slot < length (node_fields c)) own lt)
      ∙ ap (λ c. slice_index_or (node_fields c) slot
      (pos 0)) (sym own);
  counts = λ node name filter at.
      ap (λ c. length (node_fields c))
      (code_of tree parts schedule program all node (graphs.Filter name filter) at)
      ∙ fields_counted tree parts schedule program all node name filter at;
  numbers = λ node. refl;
  tapes = is.tapes;
  reads = λ node at. is.taken;
  input_is = λ node at. input_is tree parts schedule program all node at;
}
