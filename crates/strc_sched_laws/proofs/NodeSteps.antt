-- A firing of any node over rings is its firing over queues.
use Rattle.std.proofs.Common.{◌≡◌, refl, sym, ap, ◌∙◌, ℕ, ◌+◌, ℤ, Bool, false}
use Rattle.std.proofs.Common.{leb, List, [], ◌++◌, length, map, take, drop, sum, Option, None}
use Rattle.std.proofs.Common.{arith, subst}
use Rattle.std.specs.Prelude.{if◌then◌else◌, slice_index_or, nat_lt, nat_le}
use Rattle.strc_work_meaning.specs.declared.fault.Cause.{Cause}
use Rattle.strc_work_meaning.specs.declared.word.Word.{Word}
use Rattle.strc_elab_dataflow.specs.Node.{ByPort, at_port_0}
use Rattle.strc_elab_dataflow.specs.Node as generic
use Rattle.strc_elab_dataflow.specs.Histories.{all_below}
use Rattle.strc_elab_graph.specs.declared.graph.Fission.{Fission}
use Rattle.strc_elab_graph.specs.Graphs.{NodeCode, Filter, Identity, FileReader, FileWriter}
use Rattle.strc_elab_graph.specs.Graphs.{Splitter}
use Rattle.strc_elab_graph.specs.Graphs.{Joiner, Scatter, Copy, Gather, SplitterCode, Duplicate}
use Rattle.strc_elab_graph.specs.Graphs.{Roundrobin, CopiedCode, OfFilter, OfIdentity}
use Rattle.strc_elab_graph.specs.Meaning.{node_fired, copied_fired, split, line_of}
use Rattle.strc_elab_graph.specs.Rates.{fires_by_rounds, rate_at_0, pops_at, splitter_pops}
use Rattle.strc_elab_graph.specs.Rates.{filter_window, filter_pops, copy_pops}
use Rattle.strc_sched_laws.specs.Rings.{Ring, at_port, items_at, given, taken, moved, dealt_out}
use Rattle.strc_sched_laws.specs.Rings.{copied_out}
use Rattle.strc_sched_laws.specs.Steps as steps
use Rattle.strc_sched_laws.specs.Steps.{node_step, splitter_step, copy_step}
use Rattle.strc_sched_laws.specs.NodeSteps.{ArePlaced, Moves, Matches, Shows, Reads, HasOwnWindow}
use Rattle.strc_sched_laws.specs.NodeSteps.{finds_in, sees_of}
use Rattle.strc_sched_laws.proofs.Changes.{same_moves, both_move, one_takes, still_placed}
use Rattle.strc_sched_laws.proofs.Changes.{one_passes}
use Rattle.strc_sched_laws.proofs.Dealing.{rate_elsewhere, list_elsewhere, copies_move, piece}
use Rattle.strc_sched_laws.proofs.Dealing.{dealing_moves}
use Rattle.strc_sched_laws.proofs.FissionSteps.{scatter_matches, identity_copy_matches}
use Rattle.strc_sched_laws.proofs.FissionSteps.{gather_matches}
use Rattle.strc_sched_laws.proofs.Stepping.{reader_test, piece_within, tests_match, test_same}
use Rattle.strc_sched_laws.proofs.Stepping.{side_matches, joiner_matches}

module _ (inputs outputs : List (Option ℕ)) (rings : List Ring)
    (placed : ArePlaced inputs outputs (length rings)) (queue : ByPort) where
  abbrev at : ℕ → List ℤ
  at port = items_at rings (at_port inputs port)

  abbrev AlikeBy : (pops : ℕ → ℕ) → (found : Bool) → generic.Fired (List ℤ) Cause Word
      → steps.Step → Type 0
  AlikeBy pops = Matches inputs outputs pops rings

  -- an item passes from port 0 to port 0
  pass_moves : at 0 ≡ queue 0
      → Moves inputs outputs (rate_at_0 1) (at_port_0 (take 1 (queue 0))) rings
      (moved (at_port inputs 0) (at_port outputs 0) 1 rings)
  unfolding at_port_0
  pass_moves is =
      one_passes inputs outputs rings placed 0 1 (rate_at_0 1) refl (rate_elsewhere 1) 0
      (take 1 (at 0)) (at_port_0 (take 1 (queue 0))) (ap (take 1) (sym is))
      (list_elsewhere (take 1 (queue 0)))

  -- a reader's item comes from the program's input, and from no ring
  reader_moves : (number : ℕ) (input : List ℤ) → at_port inputs 0 ≡ None
      → queue 0 ≡ drop number input
      → Moves inputs outputs (rate_at_0 1) (at_port_0 (take 1 (queue 0))) rings
      (given (at_port outputs 0) (take 1 (drop number input)) rings)
  unfolding at_port_0
  reader_moves number input none is =
      subst (λ (port : Option ℕ). Moves inputs outputs (rate_at_0 1)
      (at_port_0 (take 1 (queue 0))) rings
      (given (at_port outputs 0) (take 1 (drop number input)) (taken port 1 rings))) none
      (one_passes inputs outputs rings placed 0 1 (rate_at_0 1) refl (rate_elsewhere 1) 0
      (take 1 (drop number input)) (at_port_0 (take 1 (queue 0))) (ap (take 1) is)
      (list_elsewhere (take 1 (queue 0))))

  -- ---- splitters

  copying_moves : (carried : List Bool) → at 0 ≡ queue 0
      → Moves inputs outputs (rate_at_0 1) (split (Duplicate carried) (take 1 (queue 0))) rings
      (copied_out carried outputs (take 1 (at 0)) 0 (taken (at_port inputs 0) 1 rings))
  copying_moves carried is =
      let pushes = split (Duplicate carried) (take 1 (queue 0)) in
      let middle = taken (at_port inputs 0) 1 rings in
      let after = copied_out carried outputs (take 1 (at 0)) 0 middle in
      let first = one_takes inputs outputs rings placed 0 1 (rate_at_0 1) refl
      (rate_elsewhere 1) in
      same_moves inputs outputs (λ port. rate_at_0 1 port + 0) (rate_at_0 1)
      (λ port. [] ++ pushes port) pushes rings after (λ port. omega arith) (λ port. refl)
      (both_move inputs outputs (rate_at_0 1) (λ port. 0) (λ port. []) pushes rings middle after
      first
      (copies_move inputs outputs (take 1 (at 0)) carried 0 middle pushes
      (still_placed inputs outputs (rate_at_0 1) (λ port. []) rings middle first placed)
      (λ port less. absurd (omega (arith, less)))
      (λ place. from_0 place)))
    where
      from_0 : (place : ℕ) → split (Duplicate carried) (take 1 (queue 0)) (0 + place)
          ≡ (if slice_index_or carried place false then take 1 (at 0) else [])
      from_0 place =
          let same : 0 + place ≡ place = omega arith in
          ap (split (Duplicate carried) (take 1 (queue 0))) same
          ∙ ap (λ (l : List ℤ). if slice_index_or carried place false then take 1 l else [])
          (sym is)

  parting_moves : (weights : List ℕ) → at 0 ≡ queue 0
      → Moves inputs outputs (rate_at_0 (sum weights))
      (split (Roundrobin weights) (take (sum weights) (queue 0))) rings
      (dealt_out weights (at_port inputs 0) outputs 0 rings)
  parting_moves weights is =
      dealing_moves inputs outputs weights (queue 0) 0 rings
      (split (Roundrobin weights) (take (sum weights) (queue 0))) placed is
      (λ port less. absurd (omega (arith, less))) from_0
    where
      from_0 : (place : ℕ)
          → split (Roundrobin weights) (take (sum weights) (queue 0)) (0 + place)
          ≡ piece weights (queue 0) place
      from_0 place =
          let same : 0 + place ≡ place = omega arith in
          ap (split (Roundrobin weights) (take (sum weights) (queue 0))) same
          ∙ piece_within weights (queue 0) place

  splitter_matches : (splitter : SplitterCode) → at 0 ≡ queue 0
      → AlikeBy (rate_at_0 (splitter_pops splitter))
      (leb (splitter_pops splitter) (length (queue 0)))
      (generic.Fired.Fires [] (split splitter (take (splitter_pops splitter) (queue 0))) [])
      (splitter_step splitter (at_port inputs 0) outputs rings)
  splitter_matches (Duplicate carried) is =
      tests_match inputs outputs (rate_at_0 1) rings (leb 1 (length (queue 0)))
      (nat_le 1 (length (at 0)))
      (generic.Fired.Fires [] (split (Duplicate carried) (take 1 (queue 0))) [])
      (steps.Goes [] (copied_out carried outputs (take 1 (at 0)) 0
      (taken (at_port inputs 0) 1 rings)) [])
      (test_same inputs outputs rings placed queue 1 is)
      (refl, refl, copying_moves carried is)
  splitter_matches (Roundrobin weights) is =
      tests_match inputs outputs (rate_at_0 (sum weights)) rings
      (leb (sum weights) (length (queue 0))) (nat_le (sum weights) (length (at 0)))
      (generic.Fired.Fires [] (split (Roundrobin weights) (take (sum weights) (queue 0))) [])
      (steps.Goes [] (dealt_out weights (at_port inputs 0) outputs 0 rings) [])
      (test_same inputs outputs rings placed queue (sum weights) is)
      (refl, refl, parting_moves weights is)

  -- ---- copies

  copy_matches : (copied : CopiedCode) (fission : Fission) (firing : ℕ) (fields : List ℤ)
      → Shows inputs rings queue (Copy copied fission)
      → HasOwnWindow (Copy copied fission) firing
      → AlikeBy (rate_at_0 (copy_pops fission firing))
      (finds_in (Copy copied fission) firing queue)
      (copied_fired copied firing fields (sees_of (Copy copied fission) firing queue))
      (copy_step copied fission firing fields (at_port inputs 0) (at_port outputs 0) rings)
  unfolding all_below
  copy_matches (OfFilter name filter) fission firing fields shows own =
      side_matches inputs outputs rings placed queue filter firing fields fission.window
      (copy_pops fission firing) (omega (arith, own)) filter.input
      (shows.holds 0) (shows.empty 0)
  copy_matches OfIdentity fission firing fields shows own =
      identity_copy_matches fission inputs outputs rings placed queue (shows.holds 0 refl) firing
      fields own

  -- ---- nodes

  pub node_matches : (code : NodeCode) (firing : ℕ) (fields input : List ℤ)
      → Shows inputs rings queue code → Reads queue code firing input
      → HasOwnWindow code firing
      → Matches inputs outputs (pops_at code firing) rings (finds_in code firing queue)
      (node_fired code firing fields (sees_of code firing queue))
      (node_step code firing fields inputs outputs input rings)
  unfolding all_below
  node_matches (Filter name filter) firing fields input shows reads own =
      side_matches inputs outputs rings placed queue filter firing fields
      (filter_window filter firing) (filter_pops filter firing) (omega arith) filter.input
      (shows.holds 0) (shows.empty 0)
  node_matches Identity firing fields input shows reads own =
      tests_match inputs outputs (rate_at_0 1) rings (leb 1 (length (queue 0)))
      (nat_le 1 (length (at 0))) (generic.Fired.Fires [] (at_port_0 (take 1 (queue 0))) [])
      (steps.Goes [] (moved (at_port inputs 0) (at_port outputs 0) 1 rings) [])
      (test_same inputs outputs rings placed queue 1 (shows.holds 0 refl))
      (refl, refl, pass_moves (shows.holds 0 refl))
  node_matches (FileReader text) firing fields input shows reads own =
      tests_match inputs outputs (rate_at_0 1) rings (leb 1 (length (queue 0)))
      (nat_lt firing (length input))
      (generic.Fired.Fires [] (at_port_0 (take 1 (queue 0))) [])
      (steps.Goes [] (given (at_port outputs 0) (take 1 (drop firing input)) rings) [])
      (reader_test firing input (queue 0) (reads refl))
      (refl, refl, reader_moves firing input (shows.empty 0 refl) (reads refl))
  node_matches (FileWriter text) firing fields input shows reads own =
      tests_match inputs outputs (rate_at_0 1) rings (leb 1 (length (queue 0)))
      (nat_le 1 (length (at 0)))
      (generic.Fired.Fires [] (λ port. []) (map line_of (take 1 (queue 0))))
      (steps.Goes [] (taken (at_port inputs 0) 1 rings) (map line_of (take 1 (at 0))))
      (test_same inputs outputs rings placed queue 1 (shows.holds 0 refl)) (
        refl,
        ap (λ (l : List ℤ). map line_of (take 1 l)) (shows.holds 0 refl),
        one_takes inputs outputs rings placed 0 1 (rate_at_0 1) refl (rate_elsewhere 1),
      )
  node_matches (Splitter splitter) firing fields input shows reads own =
      splitter_matches splitter (shows.holds 0 refl)
  node_matches (Joiner weights) firing fields input shows reads own =
      joiner_matches inputs outputs rings placed queue weights firing shows.holds
  node_matches (Scatter fission) firing fields input shows reads own =
      scatter_matches fission inputs outputs rings placed queue (shows.holds 0 refl)
  node_matches (Copy copied fission) firing fields input shows reads own =
      copy_matches copied fission firing fields shows own
  node_matches (Gather fission) firing fields input shows reads own =
      gather_matches fission inputs outputs rings placed queue firing shows.holds

-- only a copy's window is asked for
pub window_unasked : (code : NodeCode) (firing : ℕ) → fires_by_rounds code ≡ false
    → HasOwnWindow code firing
window_unasked (Filter name filter) firing alone = tt
window_unasked Identity firing alone = tt
window_unasked (FileReader text) firing alone = tt
window_unasked (FileWriter text) firing alone = tt
window_unasked (Splitter splitter) firing alone = tt
window_unasked (Joiner weights) firing alone = tt
window_unasked (Scatter fission) firing alone = tt
window_unasked (Copy copied fission) firing alone = absurd (cc)
window_unasked (Gather fission) firing alone = tt
