-- Graphs after fission are split graphs.
use Rattle.std.proofs.Common.{◌≡◌, refl, sym, ap, ◌∙◌, subst, ℕ, ◌<◌, ◌≤◌, arith}
use Rattle.std.proofs.Common.{List, [], length, slice_get, true, false, not, ◌&&◌}
use Rattle.std.proofs.Common.{Option, Some, get_or}
use Rattle.std.proofs.lemmas.Bool.{true≢false, and_parts, not-true}
use Rattle.std.proofs.lemmas.List.{length-map, get_or_default}
use Rattle.std.proofs.lemmas.Option.{slice_get-get_or}
use Rattle.strc_parse_tree.specs.declared.tree.ItemType.{ItemType}
use Rattle.strc_parse_tree.specs.declared.tree.ItemType.TheVariants as item
use Rattle.strc_sched_laws.proofs.Alike.{filters_alike, identities_alike}
use Rattle.strc_sched_laws.specs.Dealing.{share_of}
use Rattle.strc_sched_laws.proofs.Parts.{is_scatter, is_copy, is_gather}
use Rattle.strc_elab_graph.specs.Graphs.{Graph, NodeCode, Filter, Identity, FileReader, FileWriter}
use Rattle.strc_elab_graph.specs.Graphs.{Splitter, Joiner, Scatter, Copy, Gather, IsGraph, ports_of}
use Rattle.strc_elab_graph.specs.Graphs.{original, input_ports}
use Rattle.strc_elab_graph.specs.Meaning.{node_meaning}
use Rattle.strc_elab_graph.specs.declared.graph.Fission.{Fission}
use Rattle.strc_elab_dataflow.specs.Split.{IsStateless, IsScatter, IsCopy, IsGather, AreParts}
use Rattle.strc_balance.specs.Balance.{count_at}
use Rattle.strc_startup.specs.Rates.{rates_of, rates_of_channel}
use Rattle.strc_sched_orders.specs.Schedules.{ScheduleParts}
use Rattle.strc_sched_laws.specs.Planned.{IsFilterOf, IsPlanned, AreKnown}
use Rattle.strc_fuse.specs.Units.{is_outside}
use Rattle.strc_work_writes.specs.Stateless.{is_stateless}
use Rattle.strc_fiss.specs.Numbers.{is_dealt, parts_after}
use Rattle.strc_fiss.specs.Splitting.{copied, code_at}
use Rattle.strc_fiss.specs.Ways.{is_alike, passes_items, dealt, fission_of}
use Rattle.strc_fiss.specs.Ways.{feeds_itself, ways_of}
use Rattle.strc_fiss.proofs.Joining.{HasOnePort, alike_ports}
use Rattle.strc_fiss.proofs.Planned.{is_possible, some_firings, more_ways, share_ways}
use Rattle.strc_stage_plan.specs.SplitLaws.{SplitGraphsAreSplit, new_graph}
use Rattle.strc_stage_plan.specs.Sources.{flat_graph, EndApart}
use Rattle.strc_stage_plan.proofs.NewChannels.{apart}
use Rattle.strc_stage_plan.proofs.SplitParts.{no_loop, scatter_is, each_copy_is, the_gather_is}
use Rattle.strc_stage_plan.proofs.SplitParts.{to_comes, from_comes}
use Rattle.strc_stage_plan.proofs.Splits.{kept, inputs, node_there}

-- a side with a port has items
with_port : (kind : ItemType) → ports_of kind ≡ 1 → kind ≡ item.Int
with_port item.Int e = refl
with_port item.Void e = absurd (omega (arith, e))

-- what a node that can be split is, and what its copies are copies of
pub record IsAlike (code : NodeCode) (share : Fission) : Type 0 where
  pub filter : IsStateless node_meaning (share_of share) code
  pub narrow : share.pop ≤ share.window
  pub copied_is : original (copied code) ≡ code
  pub ports : HasOnePort code

module _ (old : Graph) (schedule : ScheduleParts) (planned : IsPlanned old schedule)
    (known : AreKnown old) where
  alike_is : (v : ℕ) (code : NodeCode) (count ways : ℕ) → slice_get old.nodes v ≡ Some code
      → is_alike (Some code) ≡ true → IsAlike code (dealt (Some code) count ways)
  alike_is v (Filter name filter) count ways there alike =
      let own : IsFilterOf old filter = (v, name, there) in
      let both = and_parts (passes_items filter) (is_stateless filter) alike in
      let one = (alike_ports (Filter name filter) alike).input in
      record {
        filter = filters_alike name filter
            (share_of (dealt (Some (Filter name filter)) count ways))
            (planned.starts filter own).0 (planned.rates filter own).0 both.1 (known filter own)
            (with_port filter.input one) (planned.starts filter own).1
            (planned.rates filter own).1
            (record { pops = refl; looks_at = refl; pushes = refl });
        narrow = omega arith;
        copied_is = refl;
        ports = alike_ports (Filter name filter) alike;
      }
  alike_is v Identity count ways there alike = record {
    filter = identities_alike (share_of (dealt (Some Identity) count ways))
        (record { pops = refl; looks_at = refl; pushes = refl });
    narrow = omega arith;
    copied_is = refl;
    ports = alike_ports Identity alike;
  }
  alike_is v (FileReader text) count ways there alike = absurd (true≢false (sym alike))
  alike_is v (FileWriter text) count ways there alike = absurd (true≢false (sym alike))
  alike_is v (Splitter splitter) count ways there alike = absurd (true≢false (sym alike))
  alike_is v (Joiner weights) count ways there alike = absurd (true≢false (sym alike))
  alike_is v (Scatter fission) count ways there alike = absurd (true≢false (sym alike))
  alike_is v (Copy copy fission) count ways there alike = absurd (true≢false (sym alike))
  alike_is v (Gather fission) count ways there alike = absurd (true≢false (sym alike))

module _ (past : NodeCode) (old : Graph) (schedule : ScheduleParts) (round : List ℕ) (ways : ℕ)
    (fired : ℕ → ℕ) (is : IsGraph old) (ends : EndApart old) (planned : IsPlanned old schedule)
    (known : AreKnown old) where
  abbrev share : ℕ → Fission
  share = fission_of old round ways

  many : length (rates_of old) ≡ length old.channels
  many = length-map old.channels (rates_of_channel old.nodes)

  pub greatest_many : length schedule.greatest ≡ length old.channels
  greatest_many = ap length planned.schedule.greatest ∙ length-map (rates_of old) _ ∙ many

  pub last_many : length schedule.last ≡ length old.channels
  last_many = ap length planned.schedule.last ∙ length-map (rates_of old) _ ∙ many

  pub possible : (v : ℕ) → is_dealt (fission_of old round ways v) ≡ true
      → (is_alike (slice_get old.nodes v) ≡ true) × (feeds_itself old.channels v ≡ false)
  possible v is_split =
      let both = and_parts (is_alike (slice_get old.nodes v))
      (is_outside (slice_get old.outer_loops v) && not (feeds_itself old.channels v))
      (is_possible old round ways v is_split) in
      let others = and_parts (is_outside (slice_get old.outer_loops v))
      (not (feeds_itself old.channels v)) both.1 in
      (both.0, not-true (feeds_itself old.channels v) others.1)

  pub inside : (v : ℕ) → is_dealt (fission_of old round ways v) ≡ true → v < length old.nodes
  inside v is_split = node_there share old schedule.greatest schedule.last is ends greatest_many
      last_many (λ w e. (possible w e).0) fired v is_split

  pub code_alike : (v : ℕ) → is_dealt (fission_of old round ways v) ≡ true
      → IsAlike (code_at old.nodes v) (fission_of old round ways v)
  code_alike v is_split =
      let code : NodeCode = code_at old.nodes v in
      let there : slice_get old.nodes v ≡ Some code =
      slice_get-get_or old.nodes v (Joiner []) (inside v is_split) in
      let same_share : share v ≡ dealt (Some code) (count_at round v) (ways_of old round ways v) =
      ap (λ (o : Option NodeCode). dealt o (count_at round v) (ways_of old round ways v)) there in
      subst (IsAlike code) (sym same_share)
      (alike_is old schedule planned known v code (count_at round v) (ways_of old round ways v)
      there (subst (λ (o : Option NodeCode). is_alike o ≡ true) there (possible v is_split).0))

  pub here : (v : ℕ) → is_dealt (fission_of old round ways v) ≡ true
      → get_or old.nodes v past ≡ code_at old.nodes v
  here v is_split = sym (get_or_default old.nodes v (Joiner []) past (inside v is_split))

  parts : (v : ℕ) → is_dealt (fission_of old round ways v) ≡ true
      → AreParts (parts_after (fission_of old round ways) fired) node_meaning (flat_graph past old)
      (flat_graph past (new_graph old schedule round ways)) v
      (share_of (fission_of old round ways v))
  parts v is_split =
      let can = possible v is_split in
      let there = inside v is_split in
      let code : NodeCode = code_at old.nodes v in
      let alike = code_alike v is_split in
      let own = here v is_split in
      record {
        filter = subst (λ (c : NodeCode). IsStateless node_meaning (share_of (share v)) c)
            (sym own) alike.filter;
        scatter = subst (λ (c : NodeCode). IsScatter node_meaning (share_of (share v)) c)
            (sym (scatter_is share old schedule.greatest schedule.last v is_split there past))
            (is_scatter (share v));
        copy = λ i less.
            subst (λ (c : NodeCode). IsCopy node_meaning (share_of (share v))
            (get_or old.nodes v past) c)
            (sym (each_copy_is share old schedule.greatest schedule.last v is_split there past i
            less))
            (subst (λ (c : NodeCode). IsCopy node_meaning (share_of (share v)) c
            (Copy (copied code) (share v))) (alike.copied_is ∙ sym own)
            (is_copy (copied code) (share v)
            (ap input_ports alike.copied_is ∙ alike.ports.input)));
        gather = subst (λ (c : NodeCode). IsGather node_meaning (share_of (share v)) c)
            (sym (the_gather_is share old schedule.greatest schedule.last v is_split there past))
            (is_gather (share v));
        to_copy = to_comes share old schedule.greatest schedule.last v is_split there;
        from_copy = from_comes share old schedule.greatest schedule.last v is_split there;
        no_loop = no_loop old ends v can.0 can.1;
        some_ways = omega (
          arith,
          more_ways old round ways v is_split,
          share_ways old round ways v is_split,
        );
        some_firings = some_firings old round ways v is_split;
        narrow = alike.narrow;
      }

pub graphs_are_split : SplitGraphsAreSplit
graphs_are_split past old schedule round ways fired is ends planned known =
    let share = fission_of old round ways in
    let first = greatest_many past old schedule round ways fired is ends planned known in
    let second = last_many past old schedule round ways fired is ends planned known in
    let alike : (v : ℕ) → is_dealt (fission_of old round ways v) ≡ true
    → is_alike (slice_get old.nodes v) ≡ true = λ v e.
    (possible past old schedule round ways fired is ends planned known v e).0 in
    record {
      apart = apart (fission_of old round ways);
      kept = kept (fission_of old round ways) old schedule.greatest schedule.last is ends first
          second alike fired past;
      inputs = λ u port less. inputs (fission_of old round ways) old schedule.greatest
          schedule.last is ends first second alike fired u port;
      split = parts past old schedule round ways fired is ends planned known;
    }
