-- Ports that carry items are ports.
use Rattle.std.proofs.Common.{◌≡◌, ℕ, zero, suc, ◌<◌, Bool, true, List, [], ◌∷◌, length}
use Rattle.std.proofs.Common.{get_or, arith, refl}
use Rattle.std.specs.Prelude.{All, false, nat_lt, slice_index, slice_index_or}
use Rattle.std.specs.List.{AllByRecursion}
use Rattle.std.proofs.lemmas.Bool.{ltb-true}
use Rattle.strc_elab_graph.specs.Graphs.{NodeCode, Joiner, Splitter, Duplicate, Roundrobin, Channel}
use Rattle.strc_elab_graph.specs.Graphs.{Filter, Identity, FileReader, FileWriter, Scatter, Copy}
use Rattle.strc_elab_graph.specs.Graphs.{Gather}
use Rattle.strc_elab_graph.specs.Graphs.{reads_input}
use Rattle.strc_elab_graph.specs.Graphs.{JoinsPorts, input_ports, output_ports, inputs_at}
use Rattle.strc_elab_graph.specs.Graphs.{outputs_at}
use Rattle.strc_elab_graph.specs.Carriers.{carries_in, carries_out, takes_at, gives_at}
use Rattle.strc_elab_graph.specs.Carriers.{JoinsCarriers}

weighted : (weights : List ℕ) (port : ℕ) → nat_lt 0 (slice_index weights port) ≡ true
    → port < length weights
weighted [] port e = absurd (cc)
weighted (weight ∷ weights) zero e = omega arith
weighted (weight ∷ weights) (suc port) e = omega (arith, weighted weights port e)

marked : (carried : List Bool) (port : ℕ) → slice_index_or carried port false ≡ true
    → port < length carried
marked [] port e = absurd (cc)
marked (mark ∷ marks) zero e = omega arith
marked (mark ∷ marks) (suc port) e = omega (arith, marked marks port e)

pub carrier_is_input : (code : NodeCode) (port : ℕ) → carries_in code port ≡ true
    → port < input_ports code
carrier_is_input (Joiner weights) port e = weighted weights port e
carrier_is_input code port e = ltb-true port (input_ports code) e

pub carrier_is_output : (code : NodeCode) (port : ℕ) → carries_out code port ≡ true
    → port < output_ports code
carrier_is_output (Splitter (Duplicate carried)) port e = marked carried port e
carrier_is_output (Splitter (Roundrobin weights)) port e = weighted weights port e
carrier_is_output code port e = ltb-true port (output_ports code) e

pub taker_is_input : (nodes : List NodeCode) (node port : ℕ) → takes_at nodes node port ≡ true
    → port < inputs_at nodes node
taker_is_input [] node port e = absurd (cc)
taker_is_input (code ∷ codes) zero port e = carrier_is_input code port e
taker_is_input (code ∷ codes) (suc node) port e = taker_is_input codes node port e

pub giver_is_output : (nodes : List NodeCode) (node port : ℕ) → gives_at nodes node port ≡ true
    → port < outputs_at nodes node
giver_is_output [] node port e = absurd (cc)
giver_is_output (code ∷ codes) zero port e = carrier_is_output code port e
giver_is_output (code ∷ codes) (suc node) port e = giver_is_output codes node port e

-- channels that join ports which carry items join ports
pub carriers_are_joined : (nodes : List NodeCode) (channels : List Channel)
    → All (JoinsCarriers nodes) channels → All (JoinsPorts nodes) channels
carriers_are_joined nodes channels all = λ k other less.
    let channel = get_or channels k other in
    let joins : JoinsCarriers nodes channel = all k other less in
    record {
      source = giver_is_output nodes channel.source.node channel.source.port joins.source;
      target = taker_is_input nodes channel.target.node channel.target.port joins.target;
    }

-- each port of a node carries items
pub record CarriesAll (code : NodeCode) : Type 0 where
  pub inputs : (port : ℕ) → port < input_ports code → carries_in code port ≡ true
  pub outputs : (port : ℕ) → port < output_ports code → carries_out code port ≡ true

pub all_take : (nodes : List NodeCode) → AllByRecursion CarriesAll nodes → (node port : ℕ)
    → port < inputs_at nodes node → takes_at nodes node port ≡ true
all_take [] all node port less = absurd (omega arith)
all_take (code ∷ codes) all zero port less = all.0.inputs port less
all_take (code ∷ codes) all (suc node) port less = all_take codes all.1 node port less

pub all_give : (nodes : List NodeCode) → AllByRecursion CarriesAll nodes → (node port : ℕ)
    → port < outputs_at nodes node → gives_at nodes node port ≡ true
all_give [] all node port less = absurd (omega arith)
all_give (code ∷ codes) all zero port less = all.0.outputs port less
all_give (code ∷ codes) all (suc node) port less = all_give codes all.1 node port less

-- a port that carries items of channels isn't a reader's
pub carrier_reads : (code : NodeCode) (port : ℕ) → carries_in code port ≡ true
    → reads_input code ≡ false
carrier_reads (FileReader text) port e =
    absurd (omega (arith, carrier_is_input (FileReader text) port e))
carrier_reads (Filter name filter) port e = refl
carrier_reads Identity port e = refl
carrier_reads (FileWriter text) port e = refl
carrier_reads (Splitter splitter) port e = refl
carrier_reads (Joiner weights) port e = refl
carrier_reads (Scatter fission) port e = refl
carrier_reads (Copy copied fission) port e = refl
carrier_reads (Gather fission) port e = refl
