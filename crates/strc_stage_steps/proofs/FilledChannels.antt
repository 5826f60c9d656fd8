-- Channels after fission that have what waited at the ports where they end.
use Rattle.std.proofs.Common.{◌≡◌, ◌≢◌, refl, sym, ap, ◌∙◌, ℕ, suc, ◌-◌, ◌<◌, ◌≤◌, ℤ, arith}
use Rattle.std.proofs.Common.{List, [], ◌++◌, length, get_or, set, take, inl, inr, Some}
use Rattle.std.proofs.Common.{map, slice_get, subst}
use Rattle.std.proofs.lemmas.Bool.{cases_lt}
use Rattle.std.proofs.lemmas.List.{get_or-set_same, get_or-set_other, length-set, set-set}
use Rattle.std.proofs.lemmas.List.{take_all}
use Rattle.std.proofs.lemmas.Option.{slice_get-get_or, slice_get-map}
use Rattle.std.specs.Option.{option_map}
use Rattle.circular_buffer.specs.Buffer.{buffer}
use Rattle.strc_elab_graph.specs.Graphs.{Channel, IsGraph}
use Rattle.strc_elab_graph.specs.NodeView.{GraphParts, channel_view, graph_view}
use Rattle.strc_elab_graph.specs.declared.graph.Channel as declared
use Rattle.strc_fiss.proofs.Shares.{targets_there}
use Rattle.strc_sched_laws.specs.Machine.{MachineView}
use Rattle.strc_sched_laws.specs.Rings.{Ring, extended, given, ring_at}
use Rattle.strc_sched_rings.proofs.Moves.{extended_twice}
use Rattle.strc_sched_machine.specs.Running.{with_rings}
use Rattle.strc_stage_steps.specs.Handing.{HasFilled, with_items}
use Rattle.strc_stage_steps.proofs.Nodes.{same_or_not, some_same}

-- ---- one ring

-- items that join a ring that has just been set
pub given_set : (rings : List Ring) (number : ℕ) (ring : Ring) (more : List ℤ)
    → number < length rings
    → given (Some number) more (set rings number ring) ≡ set rings number (extended more ring)
given_set rings number ring more less =
    ap (λ (r : Ring). set (set rings number ring) number (extended more r))
    (get_or-set_same rings number ring (buffer [] 0) less)
    ∙ set-set rings number ring (extended more ring)

-- two pieces join an empty one
pub given_both : (rings : List Ring) (number : ℕ) (front back : List ℤ) (ring : Ring)
    → number < length rings
    → given (Some number) back (given (Some number) front (set rings number ring))
    ≡ set rings number (extended (front ++ back) ring)
given_both rings number front back ring less =
    ap (given (Some number) back) (given_set rings number ring front less)
    ∙ given_set rings number (extended front ring) back less
    ∙ ap (set rings number) (extended_twice front back ring)

-- as many as there is room for are all
pub all_join : (items : List ℤ) (capacity : ℕ) → length items ≤ capacity
    → extended items (buffer [] capacity) ≡ buffer items capacity
all_join items capacity less =
    let room : capacity - 0 ≡ capacity = omega arith in
    ap (λ (n : ℕ). buffer (take n items) capacity) room
    ∙ ap (λ (l : List ℤ). buffer l capacity) (take_all capacity items less)

-- so a ring has all items of two pieces, and no others
pub both_enter : (old cleared one two : MachineView) (number : ℕ) (front back items : List ℤ)
    → number < length old.rings
    → cleared ≡ with_rings (set old.rings number
    (buffer [] (ring_at old.rings number).capacity)) old
    → one ≡ with_rings (given (Some number) front cleared.rings) cleared
    → two ≡ with_rings (given (Some number) back one.rings) one
    → front ++ back ≡ items → two ≡ with_items number items old
both_enter old cleared one two number front back items less first second third all =
    third
    ∙ ap (λ (m : MachineView). with_rings (given (Some number) back m.rings) m) second
    ∙ ap (λ (m : MachineView). with_rings
    (given (Some number) back (given (Some number) front m.rings)) m) first
    ∙ ap (λ (l : List Ring). with_rings l old)
    (given_both old.rings number front back
    (buffer [] (ring_at old.rings number).capacity) less)
    ∙ ap (λ (l : List ℤ). with_items number l old) all

-- ---- one ring after another

module _ (items : Channel → List ℤ) (channels : List Channel) (before : MachineView) where
  pub none_filled : HasFilled items channels 0 before before
  none_filled = record {
    filled = λ number channel less there. absurd (omega (arith, less));
    others = λ number less. refl;
    each = refl;
    fields = refl;
    fired = refl;
    words = refl;
  }

  abbrev refilled : (count : ℕ) → MachineView → Channel → Ring
  refilled count now own = extended (items own) (buffer [] (ring_at now.rings count).capacity)

  pub filled_next : (count : ℕ) (now : MachineView) (own : Channel)
      → HasFilled items channels count before now
      → slice_get channels count ≡ Some own → count < length before.rings
      → HasFilled items channels (suc count) before (with_items count (items own) now)
  filled_next count now own so_far here inside = record {
    filled = λ number channel less there. elim (same_or_not number count) [
      | inl same ↦ filled_here number channel there same
      | inr differ ↦
          get_or-set_other now.rings count number (refilled count now own) (buffer [] 0) differ
          ∙ so_far.filled number channel (below number less differ) there
    ];
    others = λ number less.
        get_or-set_other now.rings count number (refilled count now own) (buffer [] 0)
        (λ e. omega (arith, less, e))
        ∙ so_far.others number (omega (arith, less));
    each = length-set now.rings count (refilled count now own) ∙ so_far.each;
    fields = so_far.fields;
    fired = so_far.fired;
    words = so_far.words;
  }
    where
      below : (number : ℕ) → number < suc count → number ≢ count → number < count
      below number less differ = elim (cases_lt number count) [
        | inl is ↦ is
        | inr past ↦ absurd (differ (omega (arith, less, past)))
      ]

      filled_here : (number : ℕ) (channel : Channel) → slice_get channels number ≡ Some channel
          → number ≡ count
          → ring_at (set now.rings count (refilled count now own)) number
          ≡ extended (items channel) (buffer [] (ring_at before.rings number).capacity)
      filled_here number channel there same =
          let each = so_far.each in
          let own_is : Some own ≡ Some channel =
          sym here ∙ ap (slice_get channels) (sym same) ∙ there in
          ap (ring_at (set now.rings count (refilled count now own))) same
          ∙ get_or-set_same now.rings count (refilled count now own)
          (buffer [] 0) (omega (arith, each, inside))
          ∙ ap (λ (r : Ring). extended (items own) (buffer [] r.capacity))
          (so_far.others count (omega arith))
          ∙ ap (λ (n : ℕ). extended (items own) (buffer [] (ring_at before.rings n).capacity))
          (sym same)
          ∙ ap (λ (c : Channel). extended (items c)
          (buffer [] (ring_at before.rings number).capacity)) (some_same own channel own_is)

-- ---- the channels of a graph

module _ (graph : GraphParts) (channels : List declared.Channel) (same : channels ≡ graph.channels)
    (number : ℕ) (own : declared.Channel) (less : number < length channels)
    (is : own ≡ get_or channels number own) where
  -- each ends at a node that is there
  pub target_there : IsGraph (graph_view graph) → own.target.node < length graph.nodes
  target_there joined =
      subst (λ (c : declared.Channel). c.target.node < length graph.nodes)
      (sym (is ∙ ap (λ (l : List declared.Channel). get_or l number own) same))
      (targets_there graph joined number own
      (subst (λ (l : List declared.Channel). number < length l) same less))

  -- and has its number
  pub channel_there : slice_get (graph_view graph).channels number ≡ Some (channel_view own)
  channel_there =
      ap (λ (l : List declared.Channel). slice_get (map channel_view l) number) (sym same)
      ∙ slice_get-map channel_view channels number
      ∙ ap (option_map channel_view) (slice_get-get_or channels number own less
      ∙ ap (λ (c : declared.Channel). Some c) (sym is))
