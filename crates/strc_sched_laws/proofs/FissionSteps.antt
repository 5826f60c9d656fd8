-- Firings of the nodes of fission over rings are their firings over queues.
use Rattle.std.proofs.Common.{◌≡◌, refl, sym, ap, ◌∙◌, subst, ℕ, zero, suc, ◌+◌, ◌-◌, ◌*◌, ◌<◌, ◌≤◌}
use Rattle.std.proofs.Common.{ℤ, Bool, true, cond, leb, ltb, List, [], ◌++◌, length, take, drop}
use Rattle.std.proofs.Common.{Option, inl, inr, arith, append_assoc}
use mathlib.Core.Path.{fun_ext}
use Rattle.std.specs.Prelude.{if◌then◌else◌, nat_lt, nat_le, slice_index, replicate}
use Rattle.std.proofs.lemmas.Bool.{cases_lt, cases_eq, lt-ltb, le-ltb, true≢false}
use Rattle.std.proofs.lemmas.List.{append-nil, get_or_past, get_or-replicate, length-replicate}
use Rattle.strc_elab_dataflow.specs.Node.{ByPort, at_port_0}
use Rattle.strc_elab_dataflow.specs.Node as generic
use Rattle.strc_elab_dataflow.specs.Histories.{all_below}
use Rattle.strc_elab_dataflow.specs.RoundRobin.{one_cycle}
use Rattle.strc_work_meaning.specs.declared.fault.Cause.{Cause}
use Rattle.strc_work_meaning.specs.declared.word.Word.{Word}
use Rattle.strc_elab_graph.specs.declared.graph.Fission.{Fission}
use Rattle.strc_elab_graph.specs.Graphs.{Gather, Joiner, OfIdentity}
use Rattle.strc_elab_graph.specs.Meaning.{scattered, gathered, passes}
use Rattle.strc_elab_graph.specs.Rates.{rate_at_0, at_ports, reach, round_pops, copy_pops}
use Rattle.strc_sched_laws.specs.Rings.{Ring, at_port, items_at, given, taken}
use Rattle.strc_sched_laws.specs.Rings.{scattered_out}
use Rattle.strc_sched_laws.specs.Steps as steps
use Rattle.strc_sched_laws.specs.Steps.{copy_step, scatter_step, gather_step}
use Rattle.strc_sched_laws.specs.NodeSteps.{ArePlaced, Moves, Matches, finds_in, sees_of}
use Rattle.strc_sched_laws.proofs.ByPort.{only_at, only_here, only_other}
use Rattle.strc_sched_laws.proofs.Changes.{same_moves, no_moves, both_move, one_takes, one_gives}
use Rattle.strc_sched_laws.proofs.Changes.{items_after, still_placed, one_passes}
use Rattle.strc_sched_laws.proofs.Dealing.{rate_elsewhere, list_elsewhere}
use Rattle.strc_sched_laws.proofs.Stepping.{tests_match, test_same, part_inside}
use Rattle.strc_sched_laws.proofs.Stepping.{joiner_matches}

-- ---- cycles of equal weights

gathered_first : (seen : ByPort) (count : ℕ)
    → seen 0 ++ gathered (λ port. seen (suc port)) count ≡ gathered seen (suc count)
gathered_first seen zero = append-nil (seen 0)
gathered_first seen (suc count) =
    sym (append_assoc (seen 0) (gathered (λ port. seen (suc port)) count) (seen (suc count)))
    ∙ ap (λ (items : List ℤ). items ++ seen (suc count)) (gathered_first seen count)

-- one gives what comes at the ports, in order of them
cycle_is : (weight count first : ℕ) (seen : ByPort)
    → one_cycle (replicate count weight) first seen
    ≡ gathered (λ port. seen (first + port)) count
unfolding one_cycle
cycle_is weight zero first seen = refl
cycle_is weight (suc count) first seen =
    ap (λ (items : List ℤ). seen first ++ items) (cycle_is weight count (suc first) seen
    ∙ ap (λ (own : ByPort). gathered own count) (fun_ext later))
    ∙ ap (λ (port : ℕ). seen port ++ gathered (λ other. seen (first + suc other)) count) here
    ∙ gathered_first (λ port. seen (first + port)) count
  where
    here : first ≡ first + 0
    here = omega arith

    later : (port : ℕ) → seen (suc first + port) ≡ seen (first + suc port)
    later port =
        let same : suc first + port ≡ first + suc port = omega arith in
        ap seen same

module _ (fission : Fission) where
  -- ---- what a scatter gives

  -- all windows of a round
  abbrev all : ℕ
  all = reach fission (fission.ways * fission.firings)

  -- those of a copy lie within
  part_fits : (port : ℕ) → port < fission.ways
      → port * fission.firings * fission.pop + reach fission fission.firings ≤ all
  part_fits port less =
      let is : fission.ways ≡ suc port + (fission.ways - suc port) = omega arith in
      omega (arith, ap (λ (n : ℕ). n * fission.firings * fission.pop) is)

  abbrev part : (items : List ℤ) → (port : ℕ) → List ℤ
  part items port =
      take (reach fission fission.firings) (drop (port * fission.firings * fission.pop) items)

  scattered_here : (items : List ℤ) (port : ℕ) → port < fission.ways
      → scattered fission items port ≡ part items port
  scattered_here items port less =
      ap (λ (test : Bool). if test then part items port else []) (lt-ltb port fission.ways less)

  scattered_past : (items : List ℤ) (port : ℕ) → fission.ways ≤ port
      → scattered fission items port ≡ []
  scattered_past items port past =
      ap (λ (test : Bool). if test then part items port else []) (le-ltb port fission.ways past)

  -- what it gives is the same of what it sees as of all items
  scattered_within : (items : List ℤ) (port : ℕ)
      → scattered fission (take all items) port ≡ scattered fission items port
  scattered_within items port = elim (cases_lt port fission.ways) [
    | inl less ↦
        scattered_here (take all items) port less
        ∙ part_inside (reach fission fission.firings) (port * fission.firings * fission.pop) all
        items (part_fits port less)
        ∙ sym (scattered_here items port less)
    | inr past ↦ scattered_past (take all items) port past ∙ sym (scattered_past items port past)
  ]

  -- what the ports below one are given
  module _ (items : List ℤ) where
    abbrev given_below : (ports port : ℕ) → List ℤ
    given_below ports port = cond (ltb port ports) (scattered fission items port) []

    below : (ports port : ℕ) → port < ports → given_below ports port ≡ scattered fission items port
    below ports port less =
        ap (λ (test : Bool). cond test (scattered fission items port) []) (lt-ltb port ports less)

    past_all : (ports port : ℕ) → ports ≤ port → given_below ports port ≡ []
    past_all ports port past =
        ap (λ (test : Bool). cond test (scattered fission items port) []) (le-ltb port ports past)

    one_more : (last port : ℕ)
        → given_below last port ++ only_at [] last (scattered fission items last) port
        ≡ given_below (suc last) port
    one_more last port = elim (cases_lt port last) [
      | inl less ↦
          ap (λ (l : List ℤ). l ++ only_at [] last own port) (below last port less)
          ∙ ap (λ (l : List ℤ). scattered fission items port ++ l)
          (only_other [] last own port (λ e. absurd (omega (arith, e, less))))
          ∙ append-nil (scattered fission items port)
          ∙ sym (below (suc last) port (omega (arith, less)))
      | inr past ↦ ap (λ (l : List ℤ). l ++ only_at [] last own port) (past_all last port past)
          ∙ elim (cases_eq port last) [
            | inl same ↦
                ap (only_at [] last own) same ∙ only_here [] last own
                ∙ ap (scattered fission items) (sym same)
                ∙ sym (below (suc last) port (omega (arith, same)))
            | inr differs ↦
                only_other [] last own port differs
                ∙ sym (past_all (suc last) port (omega (arith, past, differs)))
          ]
    ]
      where
        own : List ℤ
        own = scattered fission items last

    all_given : (port : ℕ) → given_below fission.ways port ≡ scattered fission items port
    all_given port = elim (cases_lt port fission.ways) [
      | inl less ↦ below fission.ways port less
      | inr past ↦ past_all fission.ways port past ∙ sym (scattered_past items port past)
    ]

  module _ (inputs outputs : List (Option ℕ)) (rings : List Ring)
      (placed : ArePlaced inputs outputs (length rings)) (queue : ByPort) where
    abbrev from : Option ℕ
    from = at_port inputs 0

    -- ---- scatters

    module _ (is : items_at rings from ≡ queue 0) where
      abbrev after_ports : ℕ → List Ring
      after_ports ports = scattered_out fission from outputs ports rings

      abbrev Given : ℕ → Type 0
      Given ports =
          Moves inputs outputs (λ port. 0) (given_below (queue 0) ports) rings (after_ports ports)

      -- the items at the scatter's input stay while it gives
      items_stay : (ports : ℕ) → Given ports → items_at (after_ports ports) from ≡ queue 0
      items_stay ports moves =
          items_after inputs outputs (λ port. 0) (given_below (queue 0) ports) rings
          (after_ports ports) moves 0 ∙ is

      ports_given : (ports : ℕ) → Given ports
      ports_given zero =
          same_moves inputs outputs (λ port. 0) (λ port. 0) (λ port. [])
          (given_below (queue 0) 0) rings rings (λ port. refl)
          (λ port. sym (past_all (queue 0) 0 port (omega arith))) (no_moves inputs outputs rings)
      ports_given (suc last) =
          let first = ports_given last in
          let own = scattered fission (queue 0) last in
          let later = only_at [] last own in
          let before = given_below (queue 0) last in
          let middle = after_ports last in
          same_moves inputs outputs (λ port. 0) (λ port. 0) (λ port. before port ++ later port)
          (given_below (queue 0) (suc last)) rings (after_ports (suc last)) (λ port. refl)
          (one_more (queue 0) last)
          (both_move inputs outputs (λ port. 0) (λ port. 0) before later rings middle
          (after_ports (suc last)) first
          (one_gives inputs outputs middle
          (still_placed inputs outputs (λ port. 0) before rings middle first placed) last
          (scattered fission (items_at middle from) last) later
          (only_here [] last own
          ∙ ap (λ (l : List ℤ). scattered fission l last) (sym (items_stay last first)))
          (only_other [] last own)))

      scatter_moves : Moves inputs outputs (rate_at_0 (round_pops fission))
          (scattered fission (take all (queue 0))) rings
          (taken from (round_pops fission) (after_ports fission.ways))
      scatter_moves =
          let first = ports_given fission.ways in
          let before = given_below (queue 0) fission.ways in
          let middle = after_ports fission.ways in
          let pops = rate_at_0 (round_pops fission) in
          let after = taken from (round_pops fission) middle in
          same_moves inputs outputs (λ port. 0 + pops port) pops (λ port. before port ++ [])
          (scattered fission (take all (queue 0))) rings after (λ port. omega arith)
          (λ port. append-nil (before port) ∙ all_given (queue 0) port
          ∙ sym (scattered_within (queue 0) port))
          (both_move inputs outputs (λ port. 0) pops before (λ port. []) rings middle after first
          (one_takes inputs outputs middle
          (still_placed inputs outputs (λ port. 0) before rings middle first placed) 0
          (round_pops fission) pops refl (rate_elsewhere (round_pops fission))))

      pub scatter_matches : Matches inputs outputs (rate_at_0 (round_pops fission)) rings
          (leb all (length (queue 0))) (passes (scattered fission (take all (queue 0))))
          (scatter_step fission from outputs rings)
      scatter_matches =
          tests_match inputs outputs (rate_at_0 (round_pops fission)) rings
          (leb all (length (queue 0))) (nat_le all (length (items_at rings from)))
          (passes (scattered fission (take all (queue 0))))
          (steps.Goes [] (taken from (round_pops fission) (after_ports fission.ways)) [])
          (test_same inputs outputs rings placed queue all is)
          (refl, refl, scatter_moves)

      -- ---- copies of an identity

      pub identity_copy_matches : (firing : ℕ) (fields : List ℤ) → fission.window ≡ 1
          → Matches inputs outputs (rate_at_0 (copy_pops fission firing)) rings
          (leb fission.window (length (queue 0)))
          (passes (at_port_0 (take fission.window (queue 0))))
          (copy_step OfIdentity fission firing fields from (at_port outputs 0) rings)
      unfolding at_port_0
      identity_copy_matches firing fields one =
          let pops = copy_pops fission firing in
          let pushes = at_port_0 (take fission.window (queue 0)) in
          tests_match inputs outputs (rate_at_0 pops) rings (leb fission.window (length (queue 0)))
          (nat_le 1 (length (items_at rings from))) (passes pushes)
          (steps.Goes [] (given (at_port outputs 0) (take 1 (items_at rings from))
          (taken from pops rings)) [])
          (ap (λ (window : ℕ). leb window (length (queue 0))) one
          ∙ test_same inputs outputs rings placed queue 1 is) (
            refl,
            refl,
            one_passes inputs outputs rings placed 0 pops (rate_at_0 pops) refl
                (rate_elsewhere pops) 0 (take 1 (items_at rings from)) pushes
                (ap (λ (window : ℕ). take window (queue 0)) one ∙ ap (take 1) (sym is))
                (list_elsewhere (take fission.window (queue 0))),
          )

    -- ---- gathers

    module _ (firing : ℕ) where
      abbrev share : ℕ
      share = fission.firings * fission.push

      abbrev weights : List ℕ
      weights = replicate fission.ways share

      -- a gather's rates are those of a joiner of equal weights
      weight_past : (port : ℕ) → fission.ways ≤ port → slice_index weights port ≡ 0
      weight_past port past =
          get_or_past weights port 0 (omega (arith, past, length-replicate fission.ways share))

      weight_at : (port : ℕ) → slice_index weights port ≡ at_ports fission.ways share port
      weight_at port = elim (cases_lt port fission.ways) [
        | inl less ↦
            get_or-replicate fission.ways port share 0 less
            ∙ sym (ap (λ (test : Bool). if test then share else 0) (lt-ltb port fission.ways less))
        | inr past ↦
            weight_past port past
            ∙ sym (ap (λ (test : Bool). if test then share else 0) (le-ltb port fission.ways past))
      ]

      rates_are : slice_index weights ≡ at_ports fission.ways share
      rates_are = fun_ext weight_at

      found_as_joiner : finds_in (Joiner weights) firing queue
          ≡ finds_in (Gather fission) firing queue
      found_as_joiner =
          ap (λ (rate : ℕ → ℕ). all_below (length weights)
          (λ port. leb (rate port) (length (queue port)))) rates_are
          ∙ ap (λ (n : ℕ). all_below n
          (λ port. leb (at_ports fission.ways share port) (length (queue port))))
          (length-replicate fission.ways share)

      sees_as_joiner : sees_of (Joiner weights) firing queue ≡ sees_of (Gather fission) firing queue
      sees_as_joiner =
          ap (λ (rate : ℕ → ℕ). λ (port : ℕ). cond (ltb port (length weights))
          (take (rate port) (queue port)) []) rates_are
          ∙ ap (λ (n : ℕ). λ (port : ℕ). cond (ltb port n)
          (take (at_ports fission.ways share port) (queue port)) [])
          (length-replicate fission.ways share)

      fired_as_joiner : passes (at_port_0 (one_cycle weights 0
          (sees_of (Joiner weights) firing queue)))
          ≡ passes (at_port_0 (gathered (sees_of (Gather fission) firing queue) fission.ways))
      fired_as_joiner =
          ap (λ (own : ByPort). passes (at_port_0 (one_cycle weights 0 own))) sees_as_joiner
          ∙ ap (λ (items : List ℤ). passes (at_port_0 items))
          (cycle_is share fission.ways 0 (sees_of (Gather fission) firing queue)
          ∙ ap (λ (own : ByPort). gathered own fission.ways)
          (fun_ext (λ port. ap (sees_of (Gather fission) firing queue) (from_0 port))))
        where
          from_0 : (port : ℕ) → 0 + port ≡ port
          from_0 port = omega arith

      module _ (shows : (port : ℕ) → nat_lt port fission.ways ≡ true
          → items_at rings (at_port inputs port) ≡ queue port) where
        holds : (port : ℕ) → nat_lt 0 (slice_index weights port) ≡ true
            → items_at rings (at_port inputs port) ≡ queue port
        holds port some = elim (cases_lt port fission.ways) [
          | inl less ↦ shows port (lt-ltb port fission.ways less)
          | inr past ↦ absurd (true≢false (sym some ∙ ap (nat_lt 0) (weight_past port past)))
        ]

        pub gather_matches : Matches inputs outputs (at_ports fission.ways share) rings
            (finds_in (Gather fission) firing queue)
            (passes (at_port_0 (gathered (sees_of (Gather fission) firing queue) fission.ways)))
            (gather_step fission inputs (at_port outputs 0) rings)
        gather_matches =
            subst (λ (rate : ℕ → ℕ). Matches inputs outputs rate rings
            (finds_in (Gather fission) firing queue)
            (passes (at_port_0 (gathered (sees_of (Gather fission) firing queue) fission.ways)))
            (gather_step fission inputs (at_port outputs 0) rings)) rates_are
            (subst (λ (found : Bool). Matches inputs outputs (slice_index weights) rings found
            (passes (at_port_0 (gathered (sees_of (Gather fission) firing queue) fission.ways)))
            (gather_step fission inputs (at_port outputs 0) rings)) found_as_joiner
            (subst (λ (fired : generic.Fired (List ℤ) Cause Word). Matches inputs outputs
            (slice_index weights) rings (finds_in (Joiner weights) firing queue) fired
            (gather_step fission inputs (at_port outputs 0) rings)) fired_as_joiner
            (joiner_matches inputs outputs rings placed queue weights firing holds)))
