-- No channel of a program's graph after fission goes back across a number that is between groups.
use Rattle.std.proofs.Common.{◌≡◌, refl, subst, ℕ, ◌+◌, ◌<◌, ◌≤◌, arith}
use Rattle.std.proofs.Common.{Bool, true, false, cond, List, [], ◌∷◌, length, get_or, All}
use Rattle.std.proofs.Common.{slice_get, inl, inr}
use Rattle.std.proofs.lemmas.Bool.{cases_lt}
use Rattle.strc_elab_graph.specs.FlatGraphs.{IsProgram, program_input}
use Rattle.strc_elab_graph.specs.Graphs.{Channel, Graph, source_of, source_in, ends_at}
use Rattle.strc_elab_graph.specs.declared.graph.Fission.{Fission}
use Rattle.strc_elab_stream.specs.Flattening.{tree_of, outer_loops}
use Rattle.strc_elab_stream.specs.Instances.{Stream}
use Rattle.strc_elab_stream.specs.Types.{IsWellTyped}
use Rattle.strc_startup.specs.Rates.{rates_of, rates_of_channel}
use Rattle.strc_startup.specs.declared.channel_rates.ChannelRates.{ChannelRates}
use Rattle.strc_sched_orders.specs.Ranges.{IsClosedBelow, IsOuter}
use Rattle.strc_fiss.specs.Numbers.{last_part, base}
use Rattle.strc_fiss.specs.Splitting.{split_graph}
use Rattle.strc_fiss.specs.Ways.{fission_of}
use Rattle.strc_fiss.proofs.Bases.{base_below, base_up}
use Rattle.strc_fiss.proofs.Each.{Each, all_each, map_each}
use Rattle.strc_stage_plan.specs.Sources.{takes_input, source_at}
use Rattle.strc_stage_plan.proofs.Ends.{ends_there}
use Rattle.strc_stage_plan.proofs.NewChannels.{each_new}
use Rattle.strc_elab_dataflow.specs.Ranges.{IsBelow}
use Rattle.strc_stage_plan.specs.Cuts.{IsBetweenGroups}
use Rattle.strc_stage_steps.proofs.NewLoops.{node_upto, new_loops}
use Rattle.strc_stage_steps.proofs.Places.{dealt_outer, place_of}

-- channels that don't go back
source_below : (node port bound : ℕ) (channels : List Channel) → node < bound
    → Each (λ channel. channel.target.node < bound → channel.source.node < bound) channels
    → IsBelow bound (source_in channels node port).origin
source_below node port bound [] less each = tt
source_below node port bound (first ∷ rest) less each =
    by_test (ends_at node port first) refl (source_below node port bound rest less each.1)
  where
    by_test : (t : Bool) → ends_at node port first ≡ t
        → IsBelow bound (source_in rest node port).origin
        → IsBelow bound (cond t (source_of first) (source_in rest node port)).origin
    by_test true e later =
        let there = ends_there node port first e in each.0 (omega (arith, there.0, less))
    by_test false e later = later

pub sources_from : (node port bound : ℕ) (graph : Graph) → node < bound
    → Each (λ channel. channel.target.node < bound → channel.source.node < bound) graph.channels
    → IsBelow bound (source_at graph node port).origin
sources_from node port bound graph less each =
    by_test (takes_input (slice_get graph.nodes node))
  where
    by_test : (t : Bool)
        → IsBelow bound (cond t program_input (source_in graph.channels node port)).origin
    by_test true = tt
    by_test false = source_below node port bound graph.channels less each

module _ (stream : Stream) (old : Graph) (typed : IsWellTyped stream)
    (program : IsProgram (tree_of stream) old) (loops : old.outer_loops ≡ outer_loops 0 stream)
    (round : List ℕ) (ways : ℕ) where
  abbrev share : ℕ → Fission
  share = fission_of old round ways

  -- what came by a channel of the old graph
  abbrev Passes : (bound : ℕ) → ChannelRates → Type 0
  Passes bound rates = base share rates.target < bound
      → base share rates.source + last_part share rates.source < bound

  pass_first : (v : ℕ) → IsClosedBelow (rates_of old) v
      → All (Passes (base share v)) (rates_of old)
  pass_first v closed k d within below =
      let rates : ChannelRates = get_or (rates_of old) k d in
      elim (cases_lt rates.target v) [
        | inl lower ↦ omega (arith, base_below share rates.source v (closed k d within lower))
        | inr past ↦ absurd (omega (arith, below, base_up share v rates.target past))
      ]

  pass_later : (v part : ℕ) → IsOuter (rates_of old) v → part ≤ last_part share v
      → All (Passes (base share v + part)) (rates_of old)
  pass_later v part outer inside k d within below =
      let rates : ChannelRates = get_or (rates_of old) k d in
      let upto = node_upto share rates.target 0 v part (omega (arith, below)) inside in
      omega (arith, base_below share rates.source v (outer k d within upto))

  module _ (bound : ℕ) (less : bound ≤ base share (length old.nodes))
      (between : IsBetweenGroups (new_loops share old.outer_loops (length old.nodes)) bound) where
    all_pass : All (Passes bound) (rates_of old)
    all_pass = elim (place_of stream old typed program loops round ways bound less between) [
      | inl at ↦ subst (λ (b : ℕ). All (Passes b) (rates_of old)) at.is
          (pass_first at.node at.closed)
      | inr inner ↦ subst (λ (b : ℕ). All (Passes b) (rates_of old)) inner.is
          (pass_later inner.node inner.part
          (dealt_outer stream old typed program loops round ways inner.node inner.dealt)
          inner.within)
    ]

    -- the channels of the new graph
    pub new_forward : (greatest last : List ℕ)
        → Each (λ channel. channel.target.node < bound → channel.source.node < bound)
        (split_graph share old greatest last).channels
    new_forward greatest last =
        each_new share old greatest last
        (λ channel. channel.target.node < bound → channel.source.node < bound)
        (map_each (rates_of_channel old.nodes) (Passes bound) old.channels
        (all_each (Passes bound) (rates_of old) all_pass))
        (λ v i inside dealt few below. omega (arith, below))
        (λ v i inside dealt few below. omega (arith, below, few))
