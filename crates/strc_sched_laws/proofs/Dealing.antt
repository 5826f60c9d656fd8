-- What splitters and joiners do to the rings at their ports, weight by weight.
use Rattle.std.proofs.Common.{◌≡◌, refl, sym, ap, ◌∙◌, ℕ, zero, suc, ◌+◌, ◌<◌, ℤ, Bool, true, false}
use Rattle.std.proofs.Common.{List, [], ◌∷◌, ◌++◌, length, take, drop, sum, Option, arith}
use Rattle.std.proofs.Common.{drop-drop}
use Rattle.std.specs.Prelude.{if◌then◌else◌, slice_index, slice_index_or}
use Rattle.std.proofs.lemmas.List.Sums.{sum_by-cons}
use Rattle.strc_elab_dataflow.specs.Node.{ByPort, at_port_0}
use Rattle.strc_elab_dataflow.specs.RoundRobin.{span_start, one_cycle}
use Rattle.strc_elab_graph.specs.Rates.{rate_at_0}
use Rattle.strc_sched_laws.specs.Rings.{Ring, at_port, items_at, given, moved, dealt_out}
use Rattle.strc_sched_laws.specs.Rings.{copied_out, gathered_in}
use Rattle.strc_sched_laws.proofs.ByPort.{only_at, but_at, NoneBelow, only_here, only_other}
use Rattle.strc_sched_laws.proofs.ByPort.{but_below, but_later, at_first, all_none}
use Rattle.strc_sched_laws.proofs.ByPort.{only_none, numbers_parted, lists_parted}
use Rattle.strc_sched_laws.specs.NodeSteps.{ArePlaced, Moves}
use Rattle.strc_sched_laws.proofs.Changes.{items_after, same_moves, no_moves}
use Rattle.strc_sched_laws.proofs.Changes.{both_move, one_gives, still_placed, one_passes}

-- a rate at port 0 is none at another one
pub rate_elsewhere : (rate port : ℕ) → (port ≡ 0 → ⊥) → rate_at_0 rate port ≡ 0
rate_elsewhere rate zero other = absurd (other refl)
rate_elsewhere rate (suc port) other = refl

pub list_elsewhere : (items : List ℤ) (port : ℕ) → (port ≡ 0 → ⊥) → at_port_0 items port ≡ []
unfolding at_port_0
list_elsewhere items zero other = absurd (other refl)
list_elsewhere items (suc port) other = refl

-- what a splitter that deals by weights gives at a port
abbrev pub piece : (weights : List ℕ) → (items : List ℤ) → (port : ℕ) → List ℤ
piece weights items port = take (slice_index weights port) (drop (span_start weights port) items)

piece_later : (weight : ℕ) (weights : List ℕ) (items : List ℤ) (place : ℕ)
    → piece (weight ∷ weights) items (suc place) ≡ piece weights (drop weight items) place
unfolding span_start
piece_later weight weights items place =
    ap (λ (n : ℕ). take (slice_index weights place) (drop n items))
    (sum_by-cons (λ x. x) weight (take place weights))
    ∙ ap (take (slice_index weights place))
    (sym (drop-drop (sum (take place weights)) weight items))

module _ (inputs outputs : List (Option ℕ)) where
  -- ---- a duplicating splitter

  module _ (items : List ℤ) where
    abbrev copied : List Bool → (port : ℕ) → List ℤ
    copied carried port = if slice_index_or carried port false then items else []

    one_copy : (carries : Bool) (first : ℕ) (rings : List Ring) (own : List ℤ)
        → ArePlaced inputs outputs (length rings) → own ≡ (if carries then items else [])
        → Moves inputs outputs (λ port. 0) (only_at [] first own) rings
        (if carries then given (at_port outputs first) items rings else rings)
    one_copy true first rings own placed e =
        one_gives inputs outputs rings placed first items (only_at [] first own)
        (only_here [] first own ∙ e) (only_other [] first own)
    one_copy false first rings own placed e =
        same_moves inputs outputs (λ port. 0) (λ port. 0) (λ port. []) (only_at [] first own) rings
        rings (λ port. refl)
        (λ port. sym (only_none first port)
        ∙ ap (λ (l : List ℤ). only_at [] first l port) (sym e))
        (no_moves inputs outputs rings)

    pub copies_move : (carried : List Bool) (first : ℕ) (rings : List Ring) (pushes : ByPort)
        → ArePlaced inputs outputs (length rings) → NoneBelow [] first pushes
        → ((place : ℕ) → pushes (first + place) ≡ copied carried place)
        → Moves inputs outputs (λ port. 0) pushes rings
        (copied_out carried outputs items first rings)
    copies_move [] first rings pushes placed below from =
        same_moves inputs outputs (λ port. 0) (λ port. 0) (λ port. []) pushes rings rings
        (λ port. refl) (λ port. sym (all_none [] first pushes below from port))
        (no_moves inputs outputs rings)
    copies_move (carries ∷ carried) first rings pushes placed below from =
        let own = only_at [] first (pushes first) in
        let later = but_at [] first pushes in
        let middle = if carries then given (at_port outputs first) items rings else rings in
        let after = copied_out carried outputs items (suc first) middle in
        let here = one_copy carries first rings (pushes first) placed
        (sym (at_first [] first pushes) ∙ from 0) in
        same_moves inputs outputs (λ port. 0) (λ port. 0) (λ port. own port ++ later port) pushes
        rings after (λ port. refl) (lists_parted first pushes)
        (both_move inputs outputs (λ port. 0) (λ port. 0) own later rings middle after here
        (copies_move carried (suc first) middle later
        (still_placed inputs outputs (λ port. 0) own rings middle here placed)
        (but_below [] first pushes below)
        (λ place. but_later [] first pushes place ∙ from (suc place))))

  -- ---- a splitter that deals by weights

  pub dealing_moves : (weights : List ℕ) (items : List ℤ) (first : ℕ) (rings : List Ring)
      (pushes : ByPort) → ArePlaced inputs outputs (length rings)
      → items_at rings (at_port inputs 0) ≡ items
      → NoneBelow [] first pushes
      → ((place : ℕ) → pushes (first + place) ≡ piece weights items place)
      → Moves inputs outputs (rate_at_0 (sum weights)) pushes rings
      (dealt_out weights (at_port inputs 0) outputs first rings)
  unfolding span_start
  dealing_moves [] items first rings pushes placed is below from =
      same_moves inputs outputs (λ port. 0) (rate_at_0 0) (λ port. []) pushes rings rings
      nowhere (λ port. sym (all_none [] first pushes below from port))
      (no_moves inputs outputs rings)
    where
      nowhere : (port : ℕ) → 0 ≡ rate_at_0 0 port
      nowhere zero = refl
      nowhere (suc port) = refl
  dealing_moves (weight ∷ weights) items first rings pushes placed is below from =
      let own = only_at [] first (pushes first) in
      let later = but_at [] first pushes in
      let middle = moved (at_port inputs 0) (at_port outputs first) weight rings in
      let after = dealt_out weights (at_port inputs 0) outputs (suc first) middle in
      let here = one_passes inputs outputs rings placed 0 weight (rate_at_0 weight) refl
      (rate_elsewhere weight) first (take weight (items_at rings (at_port inputs 0))) own
      (only_here [] first (pushes first) ∙ sym (at_first [] first pushes) ∙ from 0
      ∙ ap (take weight) (sym is)) (only_other [] first (pushes first)) in
      same_moves inputs outputs (λ port. rate_at_0 weight port + rate_at_0 (sum weights) port)
      (rate_at_0 (sum (weight ∷ weights))) (λ port. own port ++ later port) pushes rings after
      together (lists_parted first pushes)
      (both_move inputs outputs (rate_at_0 weight) (rate_at_0 (sum weights)) own later rings middle
      after here
      (dealing_moves weights (drop weight items) (suc first) middle later
      (still_placed inputs outputs (rate_at_0 weight) own rings middle here placed)
      (items_after inputs outputs (rate_at_0 weight) own rings middle here 0 ∙ ap (drop weight) is)
      (but_below [] first pushes below)
      (λ place. but_later [] first pushes place ∙ from (suc place)
      ∙ piece_later weight weights items place)))
    where
      together : (port : ℕ) → rate_at_0 weight port + rate_at_0 (sum weights) port
          ≡ rate_at_0 (sum (weight ∷ weights)) port
      together zero = sym (sum_by-cons (λ x. x) weight weights)
      together (suc port) = refl

  -- ---- a joiner

  pub gathering_moves : (weights : List ℕ) (first : ℕ) (rings : List Ring) (pops : ℕ → ℕ)
      (seen : ByPort) → ArePlaced inputs outputs (length rings) → NoneBelow 0 first pops
      → ((place : ℕ) → pops (first + place) ≡ slice_index weights place)
      → ((place : ℕ) → place < length weights → seen (first + place)
      ≡ take (slice_index weights place) (items_at rings (at_port inputs (first + place))))
      → Moves inputs outputs pops (at_port_0 (one_cycle weights first seen)) rings
      (gathered_in weights inputs (at_port outputs 0) first rings)
  unfolding one_cycle at_port_0
  gathering_moves [] first rings pops seen placed below from sees =
      same_moves inputs outputs (λ port. 0) pops (λ port. []) (at_port_0 []) rings rings
      (λ port. sym (all_none 0 first pops below from port)) nowhere
      (no_moves inputs outputs rings)
    where
      nowhere : (port : ℕ) → ◌≡◌ {A = List ℤ} [] (at_port_0 [] port)
      nowhere zero = refl
      nowhere (suc port) = refl
  gathering_moves (weight ∷ weights) first rings pops seen placed below from sees =
      let own = only_at 0 first (pops first) in
      let later = but_at 0 first pops in
      let items = take weight (items_at rings (at_port inputs first)) in
      let middle = moved (at_port inputs first) (at_port outputs 0) weight rings in
      let after = gathered_in weights inputs (at_port outputs 0) (suc first) middle in
      let here = one_passes inputs outputs rings placed first weight own
      (only_here 0 first (pops first) ∙ sym (at_first 0 first pops) ∙ from 0)
      (only_other 0 first (pops first)) 0 items (at_port_0 items) refl (list_elsewhere items) in
      same_moves inputs outputs (λ port. own port + later port) pops
      (λ port. at_port_0 items port ++ at_port_0 (one_cycle weights (suc first) seen) port)
      (at_port_0 (one_cycle (weight ∷ weights) first seen)) rings after
      (numbers_parted first pops) (together items (sees_first (sees 0 (omega arith))))
      (both_move inputs outputs own later (at_port_0 items)
      (at_port_0 (one_cycle weights (suc first) seen)) rings middle after here
      (gathering_moves weights (suc first) middle later seen
      (still_placed inputs outputs own (at_port_0 items) rings middle here placed)
      (but_below 0 first pops below)
      (λ place. but_later 0 first pops place ∙ from (suc place))
      (λ place less. sees_later place (sees (suc place) (omega (arith, less)))
      ∙ ap (take (slice_index weights place))
      (sym (items_after inputs outputs own (at_port_0 items) rings middle here (suc first + place)
      ∙ ap (λ (n : ℕ). drop n (items_at rings (at_port inputs (suc first + place))))
      (only_other 0 first (pops first) (suc first + place) (past place)))))))
    where
      past : (place : ℕ) → suc first + place ≡ first → ⊥
      past place e = omega (arith, e)

      sees_first : seen (first + 0) ≡ take weight (items_at rings (at_port inputs (first + 0)))
          → take weight (items_at rings (at_port inputs first)) ≡ seen first
      sees_first e =
          let same : first + 0 ≡ first = omega arith in
          ap (λ (port : ℕ). take weight (items_at rings (at_port inputs port))) (sym same)
          ∙ sym e ∙ ap seen same

      sees_later : (place : ℕ)
          → seen (first + suc place)
          ≡ take (slice_index weights place) (items_at rings (at_port inputs (first + suc place)))
          → seen (suc first + place)
          ≡ take (slice_index weights place) (items_at rings (at_port inputs (suc first + place)))
      sees_later place e =
          let same : suc first + place ≡ first + suc place = omega arith in
          ap seen same ∙ e ∙ ap (λ (port : ℕ). take (slice_index weights place)
          (items_at rings (at_port inputs port))) (sym same)

      together : (items : List ℤ) → items ≡ seen first → (port : ℕ)
          → at_port_0 items port ++ at_port_0 (one_cycle weights (suc first) seen) port
          ≡ at_port_0 (seen first ++ one_cycle weights (suc first) seen) port
      together items e zero = ap (λ (l : List ℤ). l ++ one_cycle weights (suc first) seen) e
      together items e (suc port) = refl
