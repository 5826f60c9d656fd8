-- A channel ends at an input port that its node has.
use Rattle.std.proofs.Common.{◌≡◌, refl, sym, subst, ℕ, ◌<◌, true, false, Option, Some, None}
use Rattle.std.proofs.Common.{slice_get, arith, true≢false}
use Rattle.std.specs.Option.{option_map_or}
use Rattle.strc_elab_dataflow.specs.Flat as flat
use Rattle.strc_elab_graph.specs.Graphs.{NodeCode, FileReader, Channel, Graph}
use Rattle.strc_elab_graph.specs.Carriers.{carries_in, JoinsCarriers}
use Rattle.strc_elab_graph.specs.Meaning.{ports_in}
use Rattle.strc_elab_graph.proofs.Carriers.{carrier_is_input}
use Rattle.strc_sched_laws.specs.ByChannels.{IsByChannels}
use Rattle.strc_sched_laws.proofs.Supplies.{element}

-- an input port that carries items is one of a node's
port_there : (code : NodeCode) (port : ℕ) → carries_in code port ≡ true → port < ports_in code
port_there (FileReader text) port carries =
    absurd (omega (arith, carrier_is_input (FileReader text) port carries))
port_there code port carries = carrier_is_input code port carries

found_by : (found : Option NodeCode) (port : ℕ)
    → option_map_or (λ code. carries_in code port) found false ≡ true
    → (code : NodeCode) × (found ≡ Some code) × (carries_in code port ≡ true)
found_by None port e = absurd (true≢false (sym e))
found_by (Some code) port e = (code, refl, e)

pub port_inside : (by_source : flat.Graph NodeCode) (graph : Graph)
    → IsByChannels by_source graph → (number : ℕ) (channel : Channel)
    → slice_get graph.channels number ≡ Some channel
    → channel.target.port < ports_in (by_source.code channel.target.node)
port_inside by_source graph joins number channel there =
    let (code, found, carries) = found_by (slice_get graph.nodes channel.target.node)
    channel.target.port (element (JoinsCarriers graph.nodes) graph.channels number channel
    joins.joined there).target in
    subst (λ (own : NodeCode). channel.target.port < ports_in own)
    (sym (joins.codes channel.target.node code found))
    (port_there code channel.target.port carries)
