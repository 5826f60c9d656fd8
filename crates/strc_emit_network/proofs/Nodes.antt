-- What a firing finds of its node: what it takes is there, and a reader reads on.
use Rattle.std.proofs.Common.{◌≡◌, ◌⊎◌, inl, inr, ℕ, zero, suc, ◌<◌, ◌≤◌, ℤ, pos, true, List, []}
use Rattle.std.proofs.Common.{◌∷◌, length, take, get_or, Option, Some, None, refl, sym, ap, ◌∙◌}
use Rattle.std.proofs.Common.{subst, arith, length-drop}
use Rattle.std.specs.Prelude.{slice_get, slice_index, unwrap_or}
use Rattle.std.specs.Option.{option_map, option_map_or}
use Rattle.std.proofs.lemmas.List.{drop_more}
use Rattle.strc_work_meaning.specs.Filters.{Filter, filter_of}
use Rattle.strc_elab_dataflow.specs.Flat as flat
use Rattle.strc_elab_dataflow.specs.Queues.{holds}
use Rattle.strc_elab_graph.specs.declared.graph.Node.{Node}
use Rattle.strc_elab_graph.specs.Graphs.{NodeCode}
use Rattle.strc_elab_graph.specs.Graphs as graphs
use Rattle.strc_elab_graph.specs.Meaning.{node_meaning, ports_in}
use Rattle.strc_elab_graph.specs.NodeView.{node_view}
use Rattle.strc_elab_graph.specs.Rates.{window_at, pops_at, pushes_at}
use Rattle.strc_emit_moves.specs.declared.places.Phase.{Phase}
use Rattle.strc_emit_moves.specs.declared.places.Phase.TheVariants as phase
use Rattle.strc_emit_moves.specs.Places.{pops_of, pushes_of}
use Rattle.strc_emit_passes.specs.Passing.{ReadsNext, numbers_taken}
use Rattle.strc_sched_laws.specs.Repeats.{IsNarrow}
use Rattle.strc_sched_laws.proofs.Repeats.{nodes_take_within}
use Rattle.strc_emit_runs.specs.Running.{Program, Running, code_at, firing_number}
use Rattle.strc_emit_runs.specs.Orders.{Queues, RunShows, reader_from}
use Rattle.strc_emit_runs.specs.Steps.{TakesThere, pops_next, pushes_next}
use Rattle.strc_emit_runs.specs.PassingSteps.{ReadsAsReader}
use Rattle.strc_emit_runs.specs.Firings.{seen_at}
use Rattle.strc_emit_network.specs.Later.{HasNoPrework, IsWorkFiring, IsLaterFiring}
use Rattle.strc_emit_network.specs.Programs.{IsNodeIn, IsProgramOf}
use Rattle.strc_emit_network.specs.Firings.{TakesAreThere, ReadersReadNext}
use Rattle.strc_emit_network.proofs.Later.{later_rates_are_same}
use Rattle.strc_emit_network.proofs.Readers.{readers_read}
use Rattle.strc_emit_network.proofs.Seen.{fronts_are_seen, windows_are_seen, front_is}

-- a node of a program that has no prework left fires as later ones do
later_in : (program : Program) (when : Phase) (node firing : ℕ) (code : NodeCode)
    → IsNodeIn program when node code
    → ((name : Option (List ℕ)) (filter : Filter) → code ≡ graphs.Filter name filter
    → IsWorkFiring filter firing)
    → IsLaterFiring code firing
later_in program when node firing (graphs.Filter name filter) is works = works name filter refl
later_in program when node firing graphs.Identity is works = is.is
later_in program when node firing (graphs.FileReader text) is works = is.is
later_in program when node firing (graphs.FileWriter text) is works = is.is
later_in program when node firing (graphs.Splitter splitter) is works = is.is
later_in program when node firing (graphs.Joiner weights) is works = is.is
later_in program when node firing (graphs.Scatter fission) is works = is.is
later_in program when node firing (graphs.Copy copied fission) is works = is.is
later_in program when node firing (graphs.Gather fission) is works = is.is

-- each firing after the first one is a later one
after_first : (program : Program) (when : Phase) (node firing : ℕ) (code : NodeCode)
    → IsNodeIn program when node code → 1 ≤ firing → IsLaterFiring code firing
after_first program when node firing code is after =
    later_in program when node firing code is (λ name filter same. inr after)

-- and each one after start-up
pub in_round : (program : Program) (when : Phase) (node firing : ℕ) (code : NodeCode)
    → IsNodeIn program when node code → slice_index program.network.startup.now node ≤ firing
    → IsLaterFiring code firing
in_round program when node firing (graphs.Filter name filter) is after =
    subst (λ f. IsWorkFiring f firing) (sym is.1) (by is.2.started)
  where
    by : HasNoPrework (filter_of is.0) ⊎ (1 ≤ slice_index program.network.startup.now node)
        → IsWorkFiring (filter_of is.0) firing
    by (inl none) = inl none
    by (inr first) = inr (omega (arith, first, after))
in_round program when node firing graphs.Identity is after = is.is
in_round program when node firing (graphs.FileReader text) is after = is.is
in_round program when node firing (graphs.FileWriter text) is after = is.is
in_round program when node firing (graphs.Splitter splitter) is after = is.is
in_round program when node firing (graphs.Joiner weights) is after = is.is
in_round program when node firing (graphs.Scatter fission) is after = is.is
in_round program when node firing (graphs.Copy copied fission) is after = is.is
in_round program when node firing (graphs.Gather fission) is after = is.is

narrow : (program : Program) (when : Phase) (node : ℕ) (code : NodeCode)
    → IsNodeIn program when node code → IsNarrow code
narrow program when node (graphs.Filter name filter) is = tt
narrow program when node graphs.Identity is = tt
narrow program when node (graphs.FileReader text) is = tt
narrow program when node (graphs.FileWriter text) is = tt
narrow program when node (graphs.Splitter splitter) is = tt
narrow program when node (graphs.Joiner weights) is = tt
narrow program when node (graphs.Scatter fission) is = tt
narrow program when node (graphs.Copy copied fission) is = absurd is.is
narrow program when node (graphs.Gather fission) is = tt

-- a node's rates are those of its code
pub pops_are : (program : Program) (node firing port : ℕ) (code : NodeCode)
    → code_at program node ≡ Some code
    → pops_of program.network.nodes.now node firing port ≡ pops_at code firing port
pops_are program node firing port code at = by (slice_get program.network.nodes.now node) at
  where
    by : (o : Option Node) → option_map node_view o ≡ Some code
        → option_map_or (λ found. pops_at (node_view found) firing port) o 0
        ≡ pops_at code firing port
    by None e = ap (λ (o : Option NodeCode). option_map_or (λ c. pops_at c firing port) o 0) e
    by (Some found) e =
        ap (λ (o : Option NodeCode). option_map_or (λ c. pops_at c firing port) o 0) e

pub pushes_are : (program : Program) (node firing port : ℕ) (code : NodeCode)
    → code_at program node ≡ Some code
    → pushes_of program.network.nodes.now node firing port ≡ pushes_at code firing port
pushes_are program node firing port code at = by (slice_get program.network.nodes.now node) at
  where
    by : (o : Option Node) → option_map node_view o ≡ Some code
        → option_map_or (λ found. pushes_at (node_view found) firing port) o 0
        ≡ pushes_at code firing port
    by None e = ap (λ (o : Option NodeCode). option_map_or (λ c. pushes_at c firing port) o 0) e
    by (Some found) e =
        ap (λ (o : Option NodeCode). option_map_or (λ c. pushes_at c firing port) o 0) e

-- what a node takes and gives next is by the rates of its firing
abbrev pub HasRates : Program → Phase → (node times firing : ℕ) → NodeCode → Type 0
HasRates program when node times firing code = (port : ℕ)
    → (pops_at code firing port ≡ pops_next program when node times port)
    × (pushes_at code firing port ≡ pushes_next program when node times port)

has_rates : (program : Program) (when : Phase) (node times firing round : ℕ) (code : NodeCode)
    → code_at program node ≡ Some code → IsNodeIn program when node code
    → firing ≡ firing_number program when node times round
    → HasRates program when node times firing code
has_rates program phase.Startup node zero firing round code at is same port = (
  ap (λ n. pops_at code n port) same ∙ sym (pops_are program node 0 port code at),
  ap (λ n. pushes_at code n port) same ∙ sym (pushes_are program node 0 port code at),
)
has_rates program phase.Startup node (suc times) firing round code at is same port =
    let later = later_rates_are_same code firing
    (after_first program phase.Startup node firing code is (omega (arith, same))) port in (
      later.1 ∙ sym (pops_are program node 1 port code at),
      later.2 ∙ sym (pushes_are program node 1 port code at),
    )
has_rates program phase.Round node times firing round code at is same port =
    let later = later_rates_are_same code firing
    (in_round program phase.Round node firing code is (omega (arith, same))) port in (
      later.1 ∙ sym (pops_are program node 1 port code at),
      later.2 ∙ sym (pushes_are program node 1 port code at),
    )

same_code : (a b : NodeCode) → Some a ≡ Some b → a ≡ b
same_code a b e = ap (λ o. unwrap_or o a) e

same_node : (a b : ℕ) → Some a ≡ Some b → a ≡ b
same_node a b e = ap (λ o. unwrap_or o a) e

-- the program's reader is the node that takes a number
pub reads_as : (graph : flat.Graph NodeCode) (program : Program) (when : Phase)
    → IsProgramOf graph program when → (node : ℕ) (code : NodeCode)
    → code_at program node ≡ Some code
    → ReadsAsReader program node code
reads_as graph program when is node code at = record {
  own = λ here.
      let found = readers_read program node here in
      ap numbers_taken (same_code code (graphs.FileReader found.0) (sym at ∙ found.1));
  other = λ reader there differ. by code at reader there differ;
}
  where
    by : (code : NodeCode) → code_at program node ≡ Some code → (reader : ℕ)
        → reader_from 0 program.network.nodes.now ≡ Some reader → (reader ≡ node → ⊥)
        → numbers_taken code ≡ 0
    by (graphs.Filter name filter) at reader there differ = refl
    by graphs.Identity at reader there differ = refl
    by (graphs.FileReader text) at reader there differ =
        absurd (differ (same_node reader node (sym there ∙ is.one_reader node text at)))
    by (graphs.FileWriter text) at reader there differ = refl
    by (graphs.Splitter splitter) at reader there differ = refl
    by (graphs.Joiner weights) at reader there differ = refl
    by (graphs.Scatter fission) at reader there differ = refl
    by (graphs.Copy copied fission) at reader there differ = refl
    by (graphs.Gather fission) at reader there differ = refl

module _ (graph : flat.Graph NodeCode) (program : Program) (when : Phase) (round : ℕ)
    (times : ℕ → ℕ) (now : Queues) (running : Running) (node : ℕ)
    (is : IsProgramOf graph program when)
    (held : holds node_meaning graph node (now.runs node).fired (now.queues node) ≡ true)
    (shows : RunShows program when round times now running) where
  abbrev firing : ℕ
  firing = (now.runs node).fired

  pub rates : (code : NodeCode) → code_at program node ≡ Some code
      → HasRates program when node (times node) firing code
  rates code at =
      has_rates program when node (times node) firing round code at (is.nodes node code at)
      (shows.numbers node)

  -- what is seen at a port, by the node's code
  pub sees : (code : NodeCode) → code_at program node ≡ Some code → (port : ℕ)
      → port < ports_in code → length (seen_at graph now node port) ≡ window_at code firing port
  sees code at port less =
      windows_are_seen graph now node held port
      (subst (λ c. port < ports_in c) (sym (is.codes node code at)) less)
      ∙ ap (λ c. window_at c firing port) (is.codes node code at)

  reader_reads : (text : List ℕ) → code_at program node ≡ Some (graphs.FileReader text)
      → (running.taken < length program.input)
      × (seen_at graph now node 0 ≡ get_or program.input running.taken (pos 0) ∷ [])
  reader_reads text at =
      let here : reader_from 0 program.network.nodes.now ≡ Some node =
      is.one_reader node text at in
      let own : graph.code node ≡ graphs.FileReader text =
      is.codes node (graphs.FileReader text) at in
      let inside : 0 < ports_in (graph.code node) =
      subst (λ c. 0 < ports_in c) (sym own) (omega arith) in
      let few : firing < length program.input = omega (
        arith,
        sees (graphs.FileReader text) at 0 (omega arith),
        (fronts_are_seen graph now node 0).0,
        ap length (shows.input_is node here),
        length-drop firing program.input,
      ) in (
        omega (arith, few, shows.reads node here),
        front_is graph now node 0 inside
            ∙ ap (λ c. take (window_at c firing 0) (now.queues node 0)) own
            ∙ ap (λ (l : List ℤ). take 1 l) (shows.input_is node here)
            ∙ ap (λ (l : List ℤ). take 1 l) (drop_more program.input firing (pos 0) few)
            ∙ ap (λ i. get_or program.input i (pos 0) ∷ []) (sym (shows.reads node here)),
      )

  reads_on : (code : NodeCode) → code_at program node ≡ Some code
      → ReadsNext code (seen_at graph now node) program.input running.taken
  reads_on (graphs.FileReader text) at = reader_reads text at
  reads_on (graphs.Filter name filter) at = tt
  reads_on graphs.Identity at = tt
  reads_on (graphs.FileWriter text) at = tt
  reads_on (graphs.Splitter splitter) at = tt
  reads_on (graphs.Joiner weights) at = tt
  reads_on (graphs.Scatter fission) at = tt
  reads_on (graphs.Copy copied fission) at = tt
  reads_on (graphs.Gather fission) at = tt

  takes : (code : NodeCode) → code_at program node ≡ Some code
      → TakesThere graph program when times now node
  takes code at = record {
    origins = is.origins;
    pops = λ number channel there here.
        let port : ℕ = channel.target.port in
        ap (λ c. pops_at c firing port) (is.codes node code at)
        ∙ (rates code at port).0
        ∙ ap (λ v. pops_next program when v (times node) port) (sym here);
    enough = λ number channel there here.
        let port : ℕ = channel.target.port in
        let inside : port < ports_in code =
        subst (λ c. port < ports_in c) (ap graph.code here ∙ is.codes node code at)
        (is.targets number channel there) in
        let taken : pops_next program when channel.target.node (times node) port
        ≡ pops_next program when node (times node) port =
        ap (λ v. pops_next program when v (times node) port) here in
        let queue : length (now.queues channel.target.node port) ≡ length (now.queues node port) =
        ap (λ v. length (now.queues v port)) here in
        omega (
          arith,
          taken,
          queue,
          (rates code at port).0,
          nodes_take_within code firing port
              (narrow program when node code (is.nodes node code at)),
          sees code at port inside,
          (fronts_are_seen graph now node port).0,
        );
    input_origin = is.input_origin;
    input_pops = λ here.
        let found = readers_read program node here in
        ap (λ c. pops_at c firing 0) (is.codes node (graphs.FileReader found.0) found.1);
  }

pub takes_are_there : TakesAreThere
takes_are_there graph program when round times now running node code is at held shows =
    takes graph program when round times now running node is held shows code at

pub readers_read_next : ReadersReadNext
readers_read_next graph program when round times now running node code is at held shows =
    reads_on graph program when round times now running node is held shows code at
