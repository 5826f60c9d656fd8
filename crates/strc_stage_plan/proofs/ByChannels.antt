-- The graph after fission is the flat graph of its nodes and channels.
use Rattle.std.proofs.Common.{◌≡◌, refl, sym, ap, ◌∙◌, subst, ℕ}
use Rattle.std.proofs.Common.{List}
use Rattle.std.proofs.Common.{length, true, false, Option, Some, None, slice_get}
use Rattle.std.specs.Option.{option_map_or}
use Rattle.std.proofs.lemmas.Option.{get_or_from_slice_get}
use Rattle.strc_elab_dataflow.specs.Flat.{Origin.Port, Origin.Input, Source}
use Rattle.strc_elab_dataflow.specs.Streams.{Stream, any_code}
use Rattle.strc_elab_dataflow.specs.Streams as trees
use Rattle.strc_elab_graph.specs.Carriers.{carries_in, JoinsCarriers}
use Rattle.strc_elab_graph.specs.FlatGraphs.{IsProgram}
use Rattle.strc_elab_graph.specs.Graphs.{Channel, Graph, IsGraph, NodeCode}
use Rattle.strc_elab_graph.specs.Graphs.{FileReader, Copy}
use Rattle.strc_elab_graph.specs.Graphs.{source_of, source_in}
use Rattle.strc_elab_graph.specs.Rates.{window_at}
use Rattle.strc_elab_graph.specs.declared.graph.Fission.{Fission}
use Rattle.strc_elab_graph.proofs.Carriers.{carrier_reads}
use Rattle.strc_sched_orders.specs.Schedules.{ScheduleParts}
use Rattle.strc_sched_laws.specs.ByChannels.{IsByChannels}
use Rattle.strc_sched_laws.specs.NodeSteps.{HasOwnWindow}
use Rattle.strc_sched_laws.specs.Planned.{IsPlanned, AreKnown}
use Rattle.strc_sched_laws.proofs.NodeSteps.{window_unasked}
use Rattle.strc_sched_laws.proofs.TreeGraphs.{by_channels}
use Rattle.strc_fiss.specs.Numbers.{is_dealt}
use Rattle.strc_fiss.specs.Splitting.{code_at, copied}
use Rattle.strc_fiss.specs.Ways.{is_alike, fission_of}
use Rattle.strc_fiss.proofs.Each.{Each, all_each, each_all}
use Rattle.strc_stage_plan.specs.SplitLaws.{new_graph}
use Rattle.strc_stage_plan.specs.Runs.{graph_before, graph_after}
use Rattle.strc_stage_plan.specs.Sources.{source_at, takes_input, EndApart}
use Rattle.strc_stage_plan.proofs.Lawful.{greatest_many, last_many, possible, code_alike}
use Rattle.strc_stage_plan.proofs.Members.{each_in}
use Rattle.strc_stage_plan.proofs.NewChannels.{new_channels}
use Rattle.strc_stage_plan.proofs.Orders.{ends_apart}
use Rattle.strc_stage_plan.proofs.NewApart.{new_apart}
use Rattle.strc_stage_plan.proofs.Splits.{at_reader, at_other}
use Rattle.strc_stage_plan.proofs.Codes as codes
use Rattle.strc_stage_plan.proofs.Numbers.{each_number}
use Rattle.strc_stage_plan.specs.Channels.{SplitGraphsAreByChannels}
use Rattle.strc_stage_plan.specs.Channels.{SplitCopiesHaveOwnWindows}
use Rattle.strc_stage_plan.proofs.Fed.{each_fed}
use Rattle.strc_stage_plan.proofs.NewEnds.{new_joined, LeadsOn, new_lead}
use Rattle.strc_stage_plan.proofs.NewSources.{sources_apart}
use Rattle.strc_stage_plan.proofs.Sources.{apart_numbers, there_in}

pub found_reads : (found : Option NodeCode) (port : ℕ)
    → option_map_or (λ code. carries_in code port) found false ≡ true
    → takes_input found ≡ false
found_reads None port e = refl
found_reads (Some code) port e = carrier_reads code port e

-- a graph whose channels join carriers and have ends of their own
module _ (past : NodeCode) (graph : Graph)
    (joined : Each (JoinsCarriers graph.nodes) graph.channels) (ends : EndApart graph) where
  pub origin_is : (number : ℕ) (channel : Channel)
      → slice_get graph.channels number ≡ Some channel
      → (source_at graph channel.target.node channel.target.port).origin
      ≡ Port channel.source.node channel.source.port
  origin_is number channel there =
      let member = there_in channel graph.channels number there in
      let takes = (each_in (JoinsCarriers graph.nodes) channel graph.channels joined member).target
      in
      ap (λ (s : Source). s.origin)
      (at_other graph channel.target.node channel.target.port
      (found_reads (slice_get graph.nodes channel.target.node) channel.target.port takes)
      ∙ each_in (λ (own : Channel). source_in graph.channels own.target.node own.target.port
      ≡ source_of own) channel graph.channels
      (all_each (λ (own : Channel). source_in graph.channels own.target.node own.target.port
      ≡ source_of own) graph.channels ends) member)

  pub input_is : (node : ℕ) (text : List ℕ)
      → slice_get graph.nodes node ≡ Some (FileReader text)
      → (source_at graph node 0).origin ≡ Input
  input_is node text there =
      ap (λ (s : Source). s.origin) (at_reader graph node 0 (ap takes_input there))

module _ (tree : Stream NodeCode) (old : Graph) (schedule : ScheduleParts) (round : List ℕ)
    (ways : ℕ) (program : IsProgram tree old) (is : IsGraph old) (planned : IsPlanned old schedule)
    (known : AreKnown old) where
  abbrev share : ℕ → Fission
  share = fission_of old round ways

  abbrev past : NodeCode
  past = any_code tree

  ends : EndApart old
  ends = ends_apart tree old program.flat

  old_by : IsByChannels (trees.flat tree) old
  old_by = by_channels tree old program

  abbrev none : ℕ → ℕ
  none = λ v. 0

  alike : (v : ℕ) → is_dealt (fission_of old round ways v) ≡ true
      → is_alike (slice_get old.nodes v) ≡ true
  alike v dealt =
      (possible (any_code tree) old schedule round ways none is ends planned known v dealt).0

  first : length schedule.greatest ≡ length old.channels
  first = greatest_many (any_code tree) old schedule round ways none is ends planned known

  second : length schedule.last ≡ length old.channels
  second = last_many (any_code tree) old schedule round ways none is ends planned known

  joined : Each (JoinsCarriers (new_graph old schedule round ways).nodes)
      (new_graph old schedule round ways).channels
  joined = new_joined share old schedule.greatest schedule.last alike (trees.flat tree) old_by

  apart_after : EndApart (new_graph old schedule round ways)
  apart_after = new_apart share old schedule.greatest schedule.last is ends first second alike

  by_new : IsByChannels (graph_after tree old schedule round ways)
      (new_graph old schedule round ways)
  by_new = record {
    codes = λ node code there. get_or_from_slice_get
        (new_graph old schedule round ways).nodes node code (any_code tree) there;
    origins = origin_is (any_code tree) (new_graph old schedule round ways) joined apart_after;
    inputs = input_is (any_code tree) (new_graph old schedule round ways) joined apart_after;
    joined = each_all (JoinsCarriers (new_graph old schedule round ways).nodes)
        (new_graph old schedule round ways).channels joined;
    fed = each_fed share old schedule.greatest schedule.last first second alike
        (trees.flat tree) old_by;
    one_source = apart_numbers (λ (channel : Channel). channel.source)
        (new_channels share old schedule.greatest schedule.last)
        (sources_apart share old schedule.greatest schedule.last old_by.one_source);
    apart = λ number channel there. each_in LeadsOn channel
        (new_graph old schedule round ways).channels
        (new_lead share old schedule.greatest schedule.last alike (trees.flat tree) old_by)
        (there_in channel (new_graph old schedule round ways).channels number there);
  }

  -- ---- windows

  copy_window : (v firing : ℕ) → is_dealt (fission_of old round ways v) ≡ true
      → HasOwnWindow (Copy (copied (code_at old.nodes v)) (fission_of old round ways v)) firing
  copy_window v firing dealt =
      let own = code_alike (any_code tree) old schedule round ways none is ends planned known v
      dealt in
      sym (ap (λ (c : NodeCode). window_at c firing 0) own.copied_is
      ∙ own.filter.windows firing)

  own_window : (node firing : ℕ)
      → HasOwnWindow ((graph_after tree old schedule round ways).code node) firing
  own_window node firing = each_number (fission_of old round ways)
      (λ (n : ℕ). HasOwnWindow ((graph_after tree old schedule round ways).code n) firing)
      (λ u whole. subst (λ (c : NodeCode). HasOwnWindow c firing)
      (sym (codes.kept_code tree old schedule round ways program is planned known u whole))
      (window_unasked ((graph_before tree old schedule round ways).code u) firing
      (codes.old_alone tree old schedule round ways program is planned known u)))
      (λ v dealt. subst (λ (c : NodeCode). HasOwnWindow c firing)
      (sym (codes.scatter_code tree old schedule round ways program is planned known v dealt)) tt)
      (λ v i dealt less. subst (λ (c : NodeCode). HasOwnWindow c firing)
      (sym (codes.copy_code tree old schedule round ways program is planned known v i dealt less))
      (copy_window v firing dealt))
      (λ v dealt. subst (λ (c : NodeCode). HasOwnWindow c firing)
      (sym (codes.gather_code tree old schedule round ways program is planned known v dealt)) tt)
      node

pub split_graphs_are_by_channels : SplitGraphsAreByChannels
split_graphs_are_by_channels tree old schedule round ways program is planned known =
    by_new tree old schedule round ways program is planned known

pub split_copies_have_own_windows : SplitCopiesHaveOwnWindows
split_copies_have_own_windows tree old schedule round ways program is planned known node firing =
    own_window tree old schedule round ways program is planned known node firing
