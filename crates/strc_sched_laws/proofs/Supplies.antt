-- The channels of a flat graph, in the generic layer of streams: what comes by them, and how many
-- items are on them.
use Rattle.std.proofs.Common.{◌≡◌, refl, sym, ap, ◌∙◌, subst, ℕ, ◌+◌, ◌-◌, ℤ, Bool, true, false}
use Rattle.std.proofs.Common.{List, length, get_or, Option, Some, None, All, slice_get}
use Rattle.std.specs.Option.{option_map_or}
use Rattle.std.proofs.lemmas.Option.{same_Some, slice_get-get_or, slice_get_within}
use Rattle.strc_elab_dataflow.specs.Node.{total}
use Rattle.strc_elab_dataflow.specs.Order as orders
use Rattle.strc_elab_dataflow.specs.Streams.{Stream, flat}
use Rattle.strc_elab_graph.specs.Graphs.{NodeCode, Channel, Graph, source_of}
use Rattle.strc_elab_graph.specs.Carriers.{carries_in, carries_out, JoinsCarriers}
use Rattle.strc_elab_graph.specs.FlatGraphs.{IsFlat}
use Rattle.strc_elab_graph.specs.Meaning.{node_meaning}
use Rattle.strc_elab_graph.specs.Rates.{fires_by_rounds, pops_at, pushes_at}
use Rattle.strc_startup.specs.Rates.{rates_of_channel}
use Rattle.strc_startup.specs.Startup.{popped, supply}
use Rattle.strc_sched_orders.specs.Firings.{Firings, fill}
use Rattle.strc_sched_laws.proofs.Codes.{code_is}
use Rattle.strc_sched_laws.proofs.Totals.{pushed_is, popped_is}

-- what holds of all elements holds of one
pub element : {A : Type 0} (P : A → Type 0) (xs : List A) (number : ℕ) (x : A) → All P xs
    → slice_get xs number ≡ Some x → P x
element P xs number x all there =
    let within = slice_get_within xs number x there in
    subst P (same_Some (get_or xs number x) x (sym (slice_get-get_or xs number x within) ∙ there))
    (all number x within)

-- a test that something passes is of something
found_by : (test : NodeCode → Bool) (found : Option NodeCode)
    → option_map_or test found false ≡ true
    → (code : NodeCode) × (found ≡ Some code) × (test code ≡ true)
found_by test None e = absurd (cc)
found_by test (Some code) e = (code, refl, e)

module _ (tree : Stream NodeCode) (graph : Graph) (input : List ℤ) (is : IsFlat tree graph)
    (each : (node : ℕ) (code : NodeCode) → slice_get graph.nodes node ≡ Some code
    → fires_by_rounds code ≡ false) (number : ℕ) (channel : Channel)
    (there : slice_get graph.channels number ≡ Some channel) where
  joins : JoinsCarriers graph.nodes channel
  joins = element (JoinsCarriers graph.nodes) graph.channels number channel is.joined there

  -- the nodes at the ends of a channel
  source_node : (code : NodeCode) × (slice_get graph.nodes channel.source.node ≡ Some code)
      × (carries_out code channel.source.port ≡ true)
  source_node = found_by (λ code. carries_out code channel.source.port)
      (slice_get graph.nodes channel.source.node) joins.source

  pub target_node : (code : NodeCode) × (slice_get graph.nodes channel.target.node ≡ Some code)
      × (carries_in code channel.target.port ≡ true)
  target_node = found_by (λ code. carries_in code channel.target.port)
      (slice_get graph.nodes channel.target.node) joins.target

  source_is : (flat tree).source channel.target.node channel.target.port ≡ source_of channel
  source_is = element (λ own. (flat tree).source own.target.node own.target.port ≡ source_of own)
      graph.channels number channel is.channels there

  -- how many items have come by a channel
  pub supply_is : (counts : Firings)
      → orders.supply node_meaning (flat tree) input counts
      ((flat tree).source channel.target.node channel.target.port)
      ≡ supply (rates_of_channel graph.nodes channel) (counts channel.source.node)
  unfolding orders.supply orders.supply_of
  supply_is counts =
      let source = channel.source in
      let (code, found, carries) = source_node in
      ap (orders.supply node_meaning (flat tree) input counts) source_is
      ∙ ap (λ (own : NodeCode). length channel.enqueued
      + total (pushes_at own) (counts source.node) source.port)
      (code_is tree graph is source.node code found)
      ∙ ap (λ (n : ℕ). length channel.enqueued + n)
      (pushed_is graph.nodes channel code found (counts source.node))

  -- how many have been taken from it
  pub taken_is : (counts : Firings)
      → total (pops_at ((flat tree).code channel.target.node)) (counts channel.target.node)
      channel.target.port
      ≡ popped (rates_of_channel graph.nodes channel) (counts channel.target.node)
  taken_is counts =
      let target = channel.target in
      let (code, found, carries) = target_node in
      ap (λ (own : NodeCode). total (pops_at own) (counts target.node) target.port)
      (code_is tree graph is target.node code found)
      ∙ popped_is graph.nodes channel code (each target.node code found) found
      (counts target.node)

  -- how many are on it
  pub fill_is : (counts : Firings)
      → orders.fill node_meaning (flat tree) input counts channel.target.node channel.target.port
      ≡ fill (rates_of_channel graph.nodes channel) counts
  unfolding orders.fill
  fill_is counts =
      ap (λ (n : ℕ). n - total (pops_at ((flat tree).code channel.target.node))
      (counts channel.target.node) channel.target.port) (supply_is counts)
      ∙ ap (λ (n : ℕ). supply (rates_of_channel graph.nodes channel) (counts channel.source.node)
      - n) (taken_is counts)
