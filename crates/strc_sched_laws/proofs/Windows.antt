-- A node that finds its windows on all channels is ready.
use Rattle.std.proofs.Common.{◌≡◌, refl, sym, ap, ◌∙◌, subst, ℕ, zero, suc, ◌+◌, ◌<◌, ◌≤◌, ℤ, Bool}
use Rattle.std.proofs.Common.{true, false, ◌&&◌, List, length, Option, Some, slice_get, arith}
use Rattle.std.proofs.Common.{eqb-true}
use Rattle.std.specs.Option.{option_map, option_map_or}
use Rattle.std.proofs.lemmas.Bool.{true≢false}
use Rattle.std.proofs.lemmas.Option.{slice_get-map}
use Rattle.strc_elab_dataflow.specs.Node.{total}
use Rattle.strc_elab_dataflow.specs.Flat.{Source}
use Rattle.strc_elab_dataflow.specs.Order as orders
use Rattle.strc_elab_dataflow.specs.Streams.{Stream, flat}
use Rattle.strc_elab_graph.specs.Graphs.{NodeCode, FileReader, Channel, Graph, reads_input}
use Rattle.strc_elab_graph.specs.Carriers.{carries_in}
use Rattle.strc_elab_graph.specs.FlatGraphs.{IsFed, IsProgram}
use Rattle.strc_elab_graph.specs.Meaning.{node_meaning, ports_in}
use Rattle.strc_elab_graph.specs.Rates.{fires_by_rounds, window_at, pops_at}
use Rattle.strc_elab_graph.proofs.Idle.{idle_port}
use Rattle.strc_startup.specs.Rates.{rates_of, rates_of_channel}
use Rattle.strc_sched_orders.specs.Firings.{Firings, HasWindow, FindsWindows}
use Rattle.strc_sched_laws.proofs.Codes.{code_is}
use Rattle.strc_sched_laws.proofs.Supplies.{element, supply_is}
use Rattle.strc_sched_laws.proofs.Totals.{total_idle, reach_is}

-- the rates of a channel are where it is
pub rates_there : (graph : Graph) (number : ℕ) (channel : Channel)
    → slice_get graph.channels number ≡ Some channel
    → slice_get (rates_of graph) number ≡ Some (rates_of_channel graph.nodes channel)
rates_there graph number channel there =
    slice_get-map (rates_of_channel graph.nodes) graph.channels number
    ∙ ap (option_map (rates_of_channel graph.nodes)) there

-- a reader takes an item with each firing
reader_total : (text : List ℕ) (n : ℕ) → total (pops_at (FileReader text)) n 0 ≡ n
unfolding total
reader_total text zero = refl
reader_total text (suc n) = omega (arith, reader_total text n)

pub both_hold : (a b : Bool) → a && b ≡ true → (a ≡ true) × (b ≡ true)
both_hold true b e = (refl, e)
both_hold false b e = absurd (true≢false (sym e))

module _ (tree : Stream NodeCode) (graph : Graph) (input : List ℤ) (program : IsProgram tree graph)
    (each : (node : ℕ) (code : NodeCode) → slice_get graph.nodes node ≡ Some code
    → fires_by_rounds code ≡ false) (counts : Firings) where
  -- the items that have come to an input port reach to the end of the window of the next firing
  abbrev Reaches : NodeCode → (node port : ℕ) → Type 0
  Reaches code node port =
      total (pops_at code) (counts node) port + window_at code (counts node) port
      ≤ orders.supply node_meaning (flat tree) input counts ((flat tree).source node port)

  channel_reaches : (node port : ℕ) (code : NodeCode) → slice_get graph.nodes node ≡ Some code
      → FindsWindows (rates_of graph) counts node → IsFed graph node port → Reaches code node port
  channel_reaches node port code there finds (number, channel, listed, ends) =
      let both = both_hold _ _ ends in
      let target = channel.target in
      let at_node = eqb-true target.node node both.0 in
      let at_port = eqb-true target.port port both.1 in
      let here = ap (slice_get graph.nodes) at_node ∙ there in
      let sees = reach_is graph.nodes channel code (each target.node code here) here
      (counts target.node) in
      let comes = supply_is tree graph input program.flat each number channel listed counts in
      let has = element (λ rates. rates.target ≡ node → HasWindow counts rates) (rates_of graph)
      number (rates_of_channel graph.nodes channel) finds
      (rates_there graph number channel listed) at_node in
      subst (λ (n : ℕ). Reaches code n port) at_node
      (subst (λ (p : ℕ). Reaches code target.node p) at_port
      (omega (arith, sees, comes, has)))

  idle_reaches : (node port : ℕ) (code : NodeCode) → reads_input code ≡ false
      → port < ports_in code → carries_in code port ≡ false → Reaches code node port
  idle_reaches node port (FileReader text) inner less none = absurd (true≢false inner)
  idle_reaches node port code inner less none =
      let idle = idle_port code port less none in
      omega (
        arith,
        total_idle (pops_at code) port (λ n. (idle n).1) (counts node),
        (idle (counts node)).0,
      )

  reader_reaches : (node port : ℕ) (code : NodeCode) → slice_get graph.nodes node ≡ Some code
      → reads_input code ≡ true → port < ports_in code → counts node < length input
      → Reaches code node port
  unfolding orders.supply orders.supply_of
  reader_reaches node zero (FileReader text) there reads less some =
      subst (λ (source : Source). total (pops_at (FileReader text)) (counts node) 0 + 1
      ≤ orders.supply node_meaning (flat tree) input counts source)
      (sym (program.inputs node text there)) (omega (arith, reader_total text (counts node), some))
  reader_reaches node (suc port) (FileReader text) there reads less some = absurd (omega arith)
  reader_reaches node port code there reads less some = absurd (true≢false (sym reads))

  port_reaches : (node port : ℕ) (code : NodeCode) → slice_get graph.nodes node ≡ Some code
      → FindsWindows (rates_of graph) counts node
      → (reads_input code ≡ true → counts node < length input) → port < ports_in code
      → (reads carries : Bool) → reads_input code ≡ reads → carries_in code port ≡ carries
      → Reaches code node port
  port_reaches node port code there finds some less true carries e f =
      reader_reaches node port code there e less (some e)
  port_reaches node port code there finds some less false true e f =
      channel_reaches node port code there finds
      (program.fed node port (ap (λ (found : Option NodeCode).
      option_map_or (λ own. carries_in own port) found false) there ∙ f))
  port_reaches node port code there finds some less false false e f =
      idle_reaches node port code e less f

  -- a node is ready that finds its windows, and of the program's input the item that it reads
  pub is_ready : (node : ℕ) (code : NodeCode) → slice_get graph.nodes node ≡ Some code
      → FindsWindows (rates_of graph) counts node
      → (reads_input code ≡ true → counts node < length input)
      → orders.IsReady node_meaning (flat tree) input counts node
  is_ready node code there finds some =
      subst (λ (own : NodeCode). (port : ℕ) → port < ports_in own → Reaches own node port)
      (sym (code_is tree graph program.flat node code there))
      (λ port less. port_reaches node port code there finds some less (reads_input code)
      (carries_in code port) refl refl)
