-- A firing over rings is the firing over queues, node by node.
use Rattle.std.proofs.Common.{◌≡◌, refl, sym, ap, ◌∙◌, subst, ℕ, zero, suc, ◌+◌, ◌-◌, ◌<◌, ◌≤◌}
use Rattle.std.proofs.Common.{ℤ, Bool, true, false, cond, ◌&&◌, leb, ltb, List, [], ◌∷◌, length}
use Rattle.std.proofs.Common.{take, drop, sum, Option, None, Result, Ok, Err, inl, inr, arith}
use Rattle.std.proofs.Common.{le-leb, length-drop}
use Rattle.std.specs.Prelude.{slice_index, nat_lt, nat_le}
use Rattle.std.proofs.Math.Bool.{and-true, and_assoc}
use Rattle.std.proofs.lemmas.Bool.{lt-leb, cases_lt, lt-ltb, le-ltb}
use Rattle.std.proofs.lemmas.List.{take-take, drop-take}
use Rattle.strc_parse_tree.specs.declared.tree.ItemType.{ItemType}
use Rattle.strc_parse_tree.specs.declared.tree.ItemType.TheVariants as item
use Rattle.strc_work_meaning.specs.declared.fault.Cause.{Cause}
use Rattle.strc_work_meaning.specs.declared.word.Word.{Word}
use Rattle.strc_work_meaning.specs.Filters as filters
use Rattle.strc_work_meaning.specs.Firing as firing
use Rattle.strc_elab_dataflow.specs.Node.{ByPort, at_port_0}
use Rattle.strc_elab_dataflow.specs.Node as generic
use Rattle.strc_elab_dataflow.specs.Histories.{all_below}
use Rattle.strc_elab_dataflow.specs.RoundRobin.{span_start, one_cycle}
use Rattle.strc_elab_dataflow.proofs.Queued.{all_same}
use Rattle.strc_elab_dataflow.proofs.RoundRobin.{span_within}
use Rattle.strc_elab_graph.specs.Graphs.{Joiner, ports_of}
use Rattle.strc_elab_graph.specs.Meaning.{as_fired, passes}
use Rattle.strc_elab_graph.specs.Rates.{rate_at_0, body_at, pops_at}
use Rattle.strc_elab_graph.specs.Rates.{filter_window}
use Rattle.strc_elab_graph.proofs.Firings.{fired_within_window}
use Rattle.strc_sched_laws.specs.Rings.{Ring, at_port, items_at, gathered_in}
use Rattle.strc_sched_laws.specs.Steps as steps
use Rattle.strc_sched_laws.specs.Steps.{Step, if_found, filter_after, look_by, finds_weights}
use Rattle.strc_sched_laws.specs.Steps.{joiner_step}
use Rattle.strc_sched_laws.specs.NodeSteps.{ArePlaced, Moves, Matches, finds_in, sees_of}
use Rattle.strc_sched_laws.proofs.Changes.{one_passes}
use Rattle.strc_sched_laws.proofs.Dealing.{rate_elsewhere, list_elsewhere, piece}
use Rattle.strc_sched_laws.proofs.Dealing.{gathering_moves}

module _ (inputs outputs : List (Option ℕ)) (pops : ℕ → ℕ) (rings : List Ring) where
  if_matches : (found : Bool) (fired : generic.Fired (List ℤ) Cause Word) (step : Step)
      → Matches inputs outputs pops rings true fired step
      → Matches inputs outputs pops rings found fired (if_found found step)
  if_matches true fired step matches = matches
  if_matches false fired step matches = tt

  -- where the test of a step is that of the queues
  pub tests_match : (found test : Bool) (fired : generic.Fired (List ℤ) Cause Word) (step : Step)
      → found ≡ test → Matches inputs outputs pops rings true fired step
      → Matches inputs outputs pops rings found fired (if_found test step)
  tests_match found test fired step same matches =
      subst (λ (own : Bool). Matches inputs outputs pops rings found fired (if_found own step)) same
      (if_matches found fired step matches)

-- a reader's next item is there
pub reader_test : (number : ℕ) (input queue : List ℤ) → queue ≡ drop number input
    → leb 1 (length queue) ≡ nat_lt number (length input)
reader_test number input queue is =
    let rest : length queue ≡ length input - number = ap length is ∙ length-drop number input in
    elim (cases_lt number (length input)) [
      | inl less ↦ le-leb 1 (length queue) (omega (arith, rest, less))
          ∙ sym (lt-ltb number (length input) less)
      | inr past ↦ lt-leb 1 (length queue) (omega (arith, rest, past))
          ∙ sym (le-ltb number (length input) past)
    ]

-- a test of all numbers below one more is that of the first, and of those after it
below_first : (n : ℕ) (test : ℕ → Bool)
    → all_below (suc n) test ≡ (test 0 && all_below n (λ i. test (suc i)))
unfolding all_below
below_first zero test = sym (and-true (test 0))
below_first (suc n) test =
    ap (λ (b : Bool). b && test (suc n)) (below_first n test)
    ∙ and_assoc (test 0) (all_below n (λ i. test (suc i))) (test (suc n))

-- a weight above 0 is of a port that carries items
by_weight : (w : ℕ) (items queue : List ℤ) → (nat_lt 0 w ≡ true → items ≡ queue)
    → (leb w (length items) ≡ leb w (length queue)) × (take w queue ≡ take w items)
by_weight zero items queue same = (
  le-leb 0 (length items) (omega arith) ∙ sym (le-leb 0 (length queue) (omega arith)),
  refl,
)
by_weight (suc w) items queue same =
    let is = same (lt-ltb 0 (suc w) (omega arith)) in
    (ap (λ (l : List ℤ). leb (suc w) (length l)) is, ap (take (suc w)) (sym is))

-- what lies within the first items is the same of these
pub part_inside : (count start all : ℕ) (items : List ℤ) → start + count ≤ all
    → take count (drop start (take all items)) ≡ take count (drop start items)
part_inside count start all items within =
    let left : start + (all - start) ≡ all = omega (arith, within) in
    ap (λ (n : ℕ). take count (drop start (take n items))) (sym left)
    ∙ ap (take count) (drop-take start (all - start) items)
    ∙ take-take count (all - start) (drop start items) (omega (arith, within))

-- a splitter's piece lies within what it takes
pub piece_within : (weights : List ℕ) (items : List ℤ) (port : ℕ)
    → piece weights (take (sum weights) items) port ≡ piece weights items port
piece_within weights items port =
    part_inside (slice_index weights port) (span_start weights port) (sum weights) items
    (span_within weights port)

module _ (inputs outputs : List (Option ℕ)) (rings : List Ring)
    (placed : ArePlaced inputs outputs (length rings)) (queue : ByPort) where
  abbrev items : ℕ → List ℤ
  items port = items_at rings (at_port inputs port)

  abbrev Alike : (pops : ℕ → ℕ) → (found : Bool) → generic.Fired (List ℤ) Cause Word → Step → Type 0
  Alike pops = Matches inputs outputs pops rings

  -- where a firing's window is at port 0
  pub test_same : (window : ℕ) → items 0 ≡ queue 0
      → leb window (length (queue 0)) ≡ leb window (length (items 0))
  test_same window is = ap (λ (l : List ℤ). leb window (length l)) (sym is)

  -- ---- filters

  filter_goes : (pops : ℕ) (result : Result firing.Fired Cause)
      → Alike (rate_at_0 pops) true (as_fired result)
      (filter_after pops (at_port inputs 0) (at_port outputs 0) rings result)
  unfolding at_port_0
  filter_goes pops (Ok done) = (
    refl,
    refl,
    one_passes inputs outputs rings placed 0 pops (rate_at_0 pops) refl (rate_elsewhere pops) 0
        done.pushes (at_port_0 done.pushes) refl (list_elsewhere done.pushes),
  )
  filter_goes pops (Err cause) = refl

  filter_same : (pops : ℕ) (one other : Result firing.Fired Cause) → other ≡ one
      → Alike (rate_at_0 pops) true (as_fired one)
      (filter_after pops (at_port inputs 0) (at_port outputs 0) rings other)
  filter_same pops one other same =
      subst (λ (result : Result firing.Fired Cause). Alike (rate_at_0 pops) true (as_fired result)
      (filter_after pops (at_port inputs 0) (at_port outputs 0) rings other)) same
      (filter_goes pops other)

  -- of this window, which is no shorter than its text's
  module _ (filter : filters.Filter) (number : ℕ) (fields : List ℤ) (window pops : ℕ)
      (enough : filter_window filter number ≤ window) where
    abbrev fired : List ℤ → Result firing.Fired Cause
    fired = firing.fired filter (body_at number) fields

    pub side_matches : (side : ItemType) → (nat_lt 0 (ports_of side) ≡ true → items 0 ≡ queue 0)
        → (nat_lt 0 (ports_of side) ≡ false → at_port inputs 0 ≡ None)
        → Alike (rate_at_0 pops)
        (all_below (ports_of side) (λ port. leb (rate_at_0 window port) (length (queue port))))
        (as_fired (fired (cond (ltb 0 (ports_of side)) (take window (queue 0)) [])))
        (if_found (nat_le (look_by side window) (length (items 0)))
        (filter_after pops (at_port inputs 0) (at_port outputs 0) rings
        (fired (items 0))))
    unfolding all_below
    side_matches item.Int shows none =
        let is = shows refl in
        tests_match inputs outputs (rate_at_0 pops) rings
        (leb window (length (queue 0)))
        (nat_le window (length (items 0))) (as_fired (fired (take window (queue 0))))
        (filter_after pops (at_port inputs 0) (at_port outputs 0) rings
        (fired (items 0))) (test_same window is)
        (filter_same pops (fired (take window (queue 0))) (fired (items 0))
        (ap fired is
        ∙ sym (fired_within_window filter (body_at number) fields (queue 0) window enough)))
    side_matches item.Void shows none =
        let empty = ap (items_at rings) (none refl) in
        tests_match inputs outputs (rate_at_0 pops) rings true
        (nat_le 0 (length (items 0))) (as_fired (fired []))
        (filter_after pops (at_port inputs 0) (at_port outputs 0) rings
        (fired (items 0))) (sym (le-leb 0 (length (items 0)) (omega arith)))
        (filter_same pops (fired []) (fired (items 0)) (ap fired empty))

  -- ---- joiners

  finds_same : (weights : List ℕ) (first : ℕ)
      → finds_weights weights inputs first rings
      ≡ all_below (length weights) (λ place. leb (slice_index weights place)
      (length (items (first + place))))
  unfolding all_below
  finds_same [] first = refl
  finds_same (weight ∷ weights) first =
      let here : first + 0 ≡ first = omega arith in
      ap (λ (b : Bool). leb weight (length (items first)) && b) (finds_same weights (suc first)
      ∙ all_same (length weights)
      (λ place. leb (slice_index weights place) (length (items (suc first + place))))
      (λ place. leb (slice_index weights place) (length (items (first + suc place))))
      (λ place less. shift place))
      ∙ ap (λ (port : ℕ). leb weight (length (items port)) && all_below (length weights)
      (λ place. leb (slice_index weights place) (length (items (first + suc place))))) (sym here)
      ∙ sym (below_first (length weights) (λ place. leb (slice_index (weight ∷ weights) place)
      (length (items (first + place)))))
    where
      shift : (place : ℕ) → leb (slice_index weights place) (length (items (suc first + place)))
          ≡ leb (slice_index weights place) (length (items (first + suc place)))
      shift place =
          let same : suc first + place ≡ first + suc place = omega arith in
          ap (λ (port : ℕ). leb (slice_index weights place) (length (items port))) same

  module _ (weights : List ℕ) (number : ℕ)
      (holds : (port : ℕ) → nat_lt 0 (slice_index weights port) ≡ true → items port ≡ queue port)
    where
      joiner_port : (port : ℕ)
          → (leb (slice_index weights port) (length (items port))
          ≡ leb (slice_index weights port) (length (queue port)))
          × (take (slice_index weights port) (queue port)
          ≡ take (slice_index weights port) (items port))
      joiner_port port =
          by_weight (slice_index weights port) (items port) (queue port) (holds port)

      joiner_finds : finds_in (Joiner weights) number queue ≡ finds_weights weights inputs 0 rings
      joiner_finds =
          all_same (length weights) (λ port. leb (slice_index weights port) (length (queue port)))
          (λ port. leb (slice_index weights port) (length (items (0 + port))))
          (λ port less. from_0 port)
          ∙ sym (finds_same weights 0)
        where
          from_0 : (port : ℕ) → leb (slice_index weights port) (length (queue port))
              ≡ leb (slice_index weights port) (length (items (0 + port)))
          from_0 port =
              let same : port ≡ 0 + port = omega arith in
              sym (joiner_port port).0
              ∙ ap (λ (own : ℕ). leb (slice_index weights port) (length (items own))) same

      joiner_sees : (place : ℕ) → place < length weights
          → sees_of (Joiner weights) number queue (0 + place)
          ≡ take (slice_index weights place) (items (0 + place))
      joiner_sees place less =
          let same : place ≡ 0 + place = omega arith in
          subst (λ (port : ℕ). sees_of (Joiner weights) number queue port
          ≡ take (slice_index weights place) (items port)) same
          (ap (λ (test : Bool). cond test (take (slice_index weights place) (queue place)) [])
          (lt-ltb place (length weights) less) ∙ (joiner_port place).1)

      joiner_moves : Moves inputs outputs (pops_at (Joiner weights) number)
          (at_port_0 (one_cycle weights 0 (sees_of (Joiner weights) number queue))) rings
          (gathered_in weights inputs (at_port outputs 0) 0 rings)
      joiner_moves =
          gathering_moves inputs outputs weights 0 rings (pops_at (Joiner weights) number)
          (sees_of (Joiner weights) number queue) placed (λ port less. absurd (omega (arith, less)))
          (λ place. from_0 place) joiner_sees
        where
          from_0 : (place : ℕ) → slice_index weights (0 + place) ≡ slice_index weights place
          from_0 place =
              let same : 0 + place ≡ place = omega arith in
              ap (slice_index weights) same

      pub joiner_matches : Alike (slice_index weights) (finds_in (Joiner weights) number queue)
          (passes (at_port_0 (one_cycle weights 0 (sees_of (Joiner weights) number queue))))
          (joiner_step weights inputs (at_port outputs 0) rings)
      joiner_matches =
          tests_match inputs outputs (slice_index weights) rings
          (finds_in (Joiner weights) number queue) (finds_weights weights inputs 0 rings)
          (passes (at_port_0 (one_cycle weights 0 (sees_of (Joiner weights) number queue))))
          (steps.Goes [] (gathered_in weights inputs (at_port outputs 0) 0 rings) [])
          joiner_finds (refl, refl, joiner_moves)
