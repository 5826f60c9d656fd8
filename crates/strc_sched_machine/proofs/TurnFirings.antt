-- Turns of splitters and joiners are firings of their nodes.
use Rattle.std.proofs.Common.{◌≡◌, refl, sym, ap, ◌∙◌, subst, ℕ, suc, ◌+◌, ◌*◌, ◌-◌, ◌≤◌}
use Rattle.std.proofs.Common.{ℤ, Bool, true, false, List, [], ◌∷◌, length, take, sum, arith}
use Rattle.std.specs.Prelude.{Option, Some, ◌&&◌, slice_get, slice_index}
use Rattle.std.proofs.lemmas.Bool.{le-leb}
use Rattle.std.proofs.lemmas.List.{length-drop}
use Rattle.strc_elab_dataflow.specs.Node.{at_port_0}
use Rattle.strc_elab_dataflow.specs.RoundRobin.{one_cycle}
use Rattle.strc_elab_graph.specs.Graphs as graphs
use Rattle.strc_elab_graph.specs.Graphs.{NodeCode}
use Rattle.strc_elab_graph.specs.Rates.{rate_at_0}
use Rattle.strc_sched_laws.specs.Machine.{CircuitView}
use Rattle.strc_sched_laws.specs.NodeSteps.{ArePlaced, Moves}
use Rattle.strc_sched_laws.specs.Rings.{Ring, at_port, items_at, dealt_out, gathered_in}
use Rattle.strc_sched_laws.specs.Steps.{Goes, if_found, finds_weights, node_step}
use Rattle.strc_sched_laws.specs.Wiring.{ports_at}
use Rattle.strc_sched_laws.proofs.Changes.{items_after, still_placed}
use Rattle.strc_sched_laws.proofs.Dealing.{gathering_moves, piece}
use Rattle.strc_sched_filters.specs.Identities.{KeepsNothing}
use Rattle.strc_sched_rings.specs.Turns.{FindsCycles, HasTurned, times}
use Rattle.strc_sched_machine.specs.Blocks.{HasPassed, PassesOn}
use Rattle.strc_sched_machine.proofs.Blocks.{passes}
use Rattle.strc_sched_rings.proofs.Turns.{deal, deal_moves}

-- turns are firings
pub turned_passed : (circuit : CircuitView) (node turns : ℕ) (change : List Ring → List Ring)
    (ready : Type 0) (result : Bool) (before after : List Ring)
    → ((code : NodeCode) → slice_get circuit.codes node ≡ Some code → KeepsNothing code)
    → (ready → PassesOn circuit node turns before (times turns change before))
    → HasTurned ready turns change result before after
    → HasPassed circuit node turns result before after
turned_passed circuit node turns change ready true before after none all h =
    (none, subst (PassesOn circuit node turns before) (sym h.1) (all h.0))
turned_passed circuit node turns change ready false before after none all h = h

-- a node that is known keeps nothing
pub keeps_nothing : (circuit : CircuitView) (node : ℕ) (known : NodeCode)
    → slice_get circuit.codes node ≡ Some known → KeepsNothing known
    → (code : NodeCode) → slice_get circuit.codes node ≡ Some code → KeepsNothing code
keeps_nothing circuit node known here none code there =
    subst KeepsNothing (same known code here there) none
  where
    same : (one other : NodeCode) → slice_get circuit.codes node ≡ Some one
        → slice_get circuit.codes node ≡ Some other → one ≡ other
    same one other h k = cc

module _ (circuit : CircuitView) (node : ℕ) (weights : List ℕ) where
  abbrev inputs : List (Option ℕ)
  inputs = ports_at circuit.inputs node

  abbrev outputs : List (Option ℕ)
  outputs = ports_at circuit.outputs node

  record CanDeal (count : ℕ) (rings : List Ring) : Type 0 where
    pub placed : ArePlaced inputs outputs (length rings)
    pub enough : count * sum weights ≤ length (items_at rings (at_port inputs 0))

  pub deals_pass : (count : ℕ) (rings : List Ring)
      → slice_get circuit.codes node ≡ Some (graphs.Splitter (graphs.Roundrobin weights))
      → ArePlaced inputs outputs (length rings)
      → count * sum weights ≤ length (items_at rings (at_port inputs 0))
      → PassesOn circuit node count rings
      (times count (dealt_out weights (at_port inputs 0) outputs 0) rings)
  deals_pass count rings here placed enough =
      passes circuit node (graphs.Splitter (graphs.Roundrobin weights)) here
      (deal inputs outputs weights) CanDeal next count rings
      (record { placed = placed; enough = enough })
    where
      next : (left firing : ℕ) (rings : List Ring) → CanDeal (suc left) rings
          → (node_step (graphs.Splitter (graphs.Roundrobin weights)) firing [] inputs outputs
          circuit.input rings ≡ Goes [] (deal inputs outputs weights rings) [])
          × CanDeal left (deal inputs outputs weights rings)
      next left firing rings ready =
          let items = items_at rings (at_port inputs 0) in
          let after = deal inputs outputs weights rings in
          let moves = deal_moves inputs outputs weights items rings ready.placed refl in
          let rest = items_after inputs outputs (rate_at_0 (sum weights)) (piece weights items)
          rings after moves 0 in
          let fewer = ap length rest ∙ length-drop (sum weights) items in
          let enough = ready.enough in
          let one : sum weights ≤ length items = omega (arith, enough) in (
            ap (λ found. if_found found (Goes [] after []))
                (le-leb (sum weights) (length items) one),
            record {
              placed = still_placed inputs outputs (rate_at_0 (sum weights)) (piece weights items)
                  rings after moves ready.placed;
              enough = omega (arith, fewer, enough);
            },
          )

  -- ---- joiners

  abbrev join : List Ring → List Ring
  join rings = gathered_in weights inputs (at_port outputs 0) 0 rings

  record CanJoin (count : ℕ) (rings : List Ring) : Type 0 where
    pub placed : ArePlaced inputs outputs (length rings)
    pub enough : FindsCycles count weights inputs rings

  found_all : (left : List ℕ) (first : ℕ) (rings : List Ring)
      → ((place : ℕ) → slice_index left place
      ≤ length (items_at rings (at_port inputs (first + place))))
      → finds_weights left inputs first rings ≡ true
  found_all [] first rings each = refl
  found_all (weight ∷ left) first rings each =
      let here : first + 0 ≡ first = omega arith in
      let own = subst (λ (port : ℕ). weight ≤ length (items_at rings (at_port inputs port))) here
      (each 0) in
      ap (λ (test : Bool). test && finds_weights left inputs (suc first) rings)
      (le-leb weight (length (items_at rings (at_port inputs first))) own)
      ∙ found_all left (suc first) rings (λ place.
      let later : first + suc place ≡ suc first + place = omega arith in
      subst (λ (port : ℕ). slice_index left place ≤ length (items_at rings (at_port inputs port)))
      later (each (suc place)))

  abbrev seen : List Ring → ℕ → List ℤ
  seen rings port = take (slice_index weights port) (items_at rings (at_port inputs port))

  join_moves : (rings : List Ring) → ArePlaced inputs outputs (length rings)
      → Moves inputs outputs (slice_index weights) (at_port_0 (one_cycle weights 0 (seen rings)))
      rings (join rings)
  join_moves rings placed =
      gathering_moves inputs outputs weights 0 rings (slice_index weights) (seen rings) placed
      (λ port less. absurd (omega (arith, less)))
      (λ place. ap (slice_index weights) (from_0 place))
      (λ place less. ap (λ (port : ℕ). take (slice_index weights port)
      (items_at rings (at_port inputs port))) (from_0 place)
      ∙ ap (λ (port : ℕ). take (slice_index weights place) (items_at rings (at_port inputs port)))
      (sym (from_0 place)))
    where
      from_0 : (place : ℕ) → 0 + place ≡ place
      from_0 place = omega arith

  pub joins_pass : (count : ℕ) (rings : List Ring)
      → slice_get circuit.codes node ≡ Some (graphs.Joiner weights)
      → ArePlaced inputs outputs (length rings) → FindsCycles count weights inputs rings
      → PassesOn circuit node count rings
      (times count (gathered_in weights inputs (at_port outputs 0) 0) rings)
  joins_pass count rings here placed enough =
      passes circuit node (graphs.Joiner weights) here join CanJoin next count rings
      (record { placed = placed; enough = enough })
    where
      next : (left firing : ℕ) (rings : List Ring) → CanJoin (suc left) rings
          → (node_step (graphs.Joiner weights) firing [] inputs outputs circuit.input rings
          ≡ Goes [] (join rings) []) × CanJoin left (join rings)
      next left firing rings ready =
          let moves = join_moves rings ready.placed in
          let pushes = at_port_0 (one_cycle weights 0 (seen rings)) in (
            ap (λ found. if_found found (Goes [] (join rings) []))
                (found_all weights 0 rings (λ place. one_found place (ready.enough (0 + place)))),
            record {
              placed = still_placed inputs outputs (slice_index weights) pushes rings (join rings)
                  moves ready.placed;
              enough = λ port. fewer port (ready.enough port)
                  (ap length (items_after inputs outputs (slice_index weights) pushes rings
                  (join rings) moves port)
                  ∙ length-drop (slice_index weights port) (items_at rings (at_port inputs port)));
            },
          )
        where
          one_found : (place : ℕ)
              → suc left * slice_index weights (0 + place)
              ≤ length (items_at rings (at_port inputs (0 + place)))
              → slice_index weights place ≤ length (items_at rings (at_port inputs (0 + place)))
          one_found place enough =
              let same : 0 + place ≡ place = omega arith in
              let weight = ap (slice_index weights) same in
              omega (arith, enough, weight)

          fewer : (port : ℕ)
              → suc left * slice_index weights port ≤ length (items_at rings (at_port inputs port))
              → length (items_at (join rings) (at_port inputs port))
              ≡ length (items_at rings (at_port inputs port)) - slice_index weights port
              → left * slice_index weights port
              ≤ length (items_at (join rings) (at_port inputs port))
          fewer port enough is = omega (arith, enough, is)
