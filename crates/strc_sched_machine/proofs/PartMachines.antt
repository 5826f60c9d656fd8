-- What a machine of a part has, and what is left.
use Rattle.std.proofs.Common.{◌≡◌, refl, sym, ap, ◌∙◌, subst, ℕ, zero, suc, ◌+◌, ◌<◌, ◌≤◌, ℤ, Bool}
use Rattle.std.proofs.Common.{true, false, List, [], ◌∷◌, length, get_or, map, replicate, arith}
use Rattle.std.proofs.Common.{◌⊎◌, inl, inr}
use Rattle.std.specs.Prelude.{Some, slice_get, slice_index, if◌then◌else◌, ◌&&◌, not}
use Rattle.std.proofs.lemmas.List.{get_or_past, length-map, length-replicate}
use Rattle.std.proofs.lemmas.Option.{slice_get_within}
use Rattle.circular_buffer.specs.Buffer.{buffer}
use Rattle.strc_elab_graph.specs.Graphs.{Channel, Graph, NodeCode, Identity}
use Rattle.strc_elab_graph.specs.NodeView.{GraphParts, channel_view, graph_view}
use Rattle.strc_elab_graph.specs.declared.graph.Channel as declared
use Rattle.strc_sched_laws.specs.Machine.{CircuitView}
use Rattle.strc_sched_laws.specs.Rings.{Ring, ring_at}
use Rattle.strc_sched_machine.specs.Actors.{AreActors, IsActorOf, fields_of}
use Rattle.strc_sched_rings.specs.Parts.{IsOutside, IsPartCircuit, is_within}
use Rattle.strc_sched_rings.proofs.PartLists.{within_false, within_true}
use Rattle.strc_sched_machine.specs.Parts.{HasChosen, HoldsFrom, IsPart, IsRest, chosen}
use Rattle.strc_sched_machine.specs.Parts.{empty_rings}
use Rattle.strc_sched_machine.specs.Parts.{ends_within, room_at}
use Rattle.strc_sched_machine.specs.Running.{IsMachine, machine_view, words_of}
use Rattle.strc_sched_machine.specs.declared.actor.Actor.{Actor}
use Rattle.strc_sched_machine.specs.declared.actor.Actor.TheVariants as actor
use Rattle.strc_sched_machine.specs.declared.machine.Machine.{Machine}
use Rattle.strc_sched_machine.proofs.Done.{hold_rings}
use Rattle.strc_sched_machine.proofs.PartLists.{chosen_at, chosen_get, chosen_long, empty_at}
use Rattle.strc_sched_machine.proofs.PartLists.{rings_long}
use Rattle.strc_sched_machine.proofs.PartLists.{map_chosen}

less_or_past : (a b : ℕ) → (a < b) ⊎ (b ≤ a)
less_or_past zero zero = inr (omega arith)
less_or_past zero (suc b) = inl (omega arith)
less_or_past (suc a) zero = inr (omega arith)
less_or_past (suc a) (suc b) = further (less_or_past a b)
  where
    further : (a < b) ⊎ (b ≤ a) → (suc a < suc b) ⊎ (suc b ≤ suc a)
    further (inl less) = inl (omega arith)
    further (inr past) = inr (omega arith)

all_alike : {A : Type 0} (count k : ℕ) (d : A) → get_or (replicate count d) k d ≡ d
all_alike zero k d = refl
all_alike (suc count) zero d = refl
all_alike (suc count) (suc k) d = all_alike count k d

alike : {A : Type 0} (count k : ℕ) (d own : A) → slice_get (replicate count d) k ≡ Some own
    → d ≡ own
alike zero k d own there = absurd (cc)
alike (suc count) zero d own there = cc
alike (suc count) (suc k) d own there = alike count k d own there

same_item : {A : Type 0} {one other : A} → Some one ≡ Some other → one ≡ other
same_item e = cc

within_or_out : (first next node : ℕ)
    → ((first ≤ node) × (node < next)) ⊎ IsOutside first next node
within_or_out first next node = by_next (less_or_past node next) (less_or_past node first)
  where
    by_next : (node < next) ⊎ (next ≤ node) → (node < first) ⊎ (first ≤ node)
        → ((first ≤ node) × (node < next)) ⊎ IsOutside first next node
    by_next (inl below) (inl short) = inr (inl short)
    by_next (inl below) (inr from) = inl (from, below)
    by_next (inr past) either = inr (inr past)

map_alike : (count : ℕ) → map fields_of (replicate count actor.Passive) ≡ replicate count []
map_alike zero = refl
map_alike (suc count) = ap (λ (l : List (List ℤ)). [] ∷ l) (map_alike count)

-- ---- lists of as many items as there are nodes

module _ (first next : ℕ) (marks : List Bool) (count : ℕ) (long : length marks ≡ count)
    (marked : (node : ℕ) → node < count → get_or marks node false ≡ is_within first next node)
  where
    own_mark : (node : ℕ) → first ≤ node → node < next → node < count
        → get_or marks node false ≡ true
    own_mark node from below less = marked node less ∙ within_true first next node from below

    other_mark : (node : ℕ) → IsOutside first next node → get_or marks node false ≡ false
    other_mark node outside = by_size (less_or_past node count)
      where
        by_size : (node < count) ⊎ (count ≤ node) → get_or marks node false ≡ false
        by_size (inl less) = marked node less ∙ within_false first next node outside
        by_size (inr past) = get_or_past marks node false (omega arith)

    module _ {A : Type 0} (before : List A) (d : A) (many : length before ≡ count) where
      even : length before ≡ length (replicate count d)
      even = many ∙ sym (length-replicate count d)

      pub part_own : (node : ℕ) → first ≤ node → node < next
          → get_or (chosen marks before (replicate count d)) node d ≡ get_or before node d
      part_own node from below = by_size (less_or_past node count)
        where
          by_size : (node < count) ⊎ (count ≤ node)
              → get_or (chosen marks before (replicate count d)) node d ≡ get_or before node d
          by_size (inl less) =
              chosen_at marks before (replicate count d) node d even
              ∙ ap (λ t. if t then get_or before node d else get_or (replicate count d) node d)
              (own_mark node from below less)
          by_size (inr past) =
              get_or_past (chosen marks before (replicate count d)) node d
              (let e = chosen_long marks before (replicate count d) in
              let l = length-replicate count d in omega (arith, e, l, past))
              ∙ sym (get_or_past before node d (omega (arith, many, past)))

      pub part_other : (node : ℕ) → IsOutside first next node
          → get_or (chosen marks before (replicate count d)) node d ≡ d
      part_other node outside =
          chosen_at marks before (replicate count d) node d even
          ∙ ap (λ t. if t then get_or before node d else get_or (replicate count d) node d)
          (other_mark node outside)
          ∙ all_alike count node d

      pub rest_same : (node : ℕ) → IsOutside first next node
          → get_or (chosen marks (replicate count d) before) node d ≡ get_or before node d
      rest_same node outside =
          chosen_at marks (replicate count d) before node d (sym even)
          ∙ ap (λ t. if t then get_or (replicate count d) node d else get_or before node d)
          (other_mark node outside)

      pub part_long : length (chosen marks before (replicate count d)) ≡ count
      part_long = chosen_long marks before (replicate count d) ∙ length-replicate count d

    -- what nodes keep
    module _ (graph : Graph) (circuit : CircuitView) (is : IsPartCircuit graph first next circuit)
        (before : List Actor) (all : length graph.nodes ≡ count) (many : length before ≡ count)
        (kept : (node : ℕ) (code : NodeCode) (own : Actor) → first ≤ node
        → slice_get graph.nodes node ≡ Some code → slice_get before node ≡ Some own
        → IsActorOf code own) where
      abbrev fresh : List Actor
      fresh = replicate count actor.Passive

      here : (node : ℕ) (test : Bool) → get_or marks node false ≡ test
          → slice_get (chosen marks before fresh) node
          ≡ (if test then slice_get before node else slice_get fresh node)
      here node test is =
          chosen_get marks before fresh node (even before actor.Passive many)
          ∙ ap (λ t. if t then slice_get before node else slice_get fresh node) is

      kept_there : (node : ℕ) (code : NodeCode) (own : Actor)
          → slice_get circuit.codes node ≡ Some code
          → slice_get (chosen marks before fresh) node ≡ Some own
          → ((first ≤ node) × (node < next)) ⊎ IsOutside first next node → IsActorOf code own
      kept_there node code own there got (inl within) =
          let less = slice_get_within circuit.codes node code there in
          let each = is.each in
          kept node code own within.0 (sym (is.own node within.0 within.1) ∙ there)
          (sym (here node true (own_mark node within.0 within.1 (omega (arith, less, each, all))))
          ∙ got)
      kept_there node code own there got (inr outside) =
          let less = slice_get_within circuit.codes node code there in
          let each = is.each in
          let code_is : Identity ≡ code =
          same_item (sym (is.others node (omega (arith, less, each)) outside) ∙ there) in
          let own_is = alike count node actor.Passive own
          (sym (here node false (other_mark node outside)) ∙ got) in
          subst (λ c. IsActorOf c own) code_is (subst (IsActorOf Identity) own_is tt)

      pub part_actors : AreActors circuit.codes
          (chosen marks before (replicate count actor.Passive))
      part_actors = record {
        each = part_long before actor.Passive many ∙ sym all ∙ sym is.each;
        kept = λ node code own there got.
            kept_there node code own there got (within_or_out first next node);
      }

      pub rest_kept : first ≤ next → (node : ℕ) (code : NodeCode) (own : Actor) → next ≤ node
          → slice_get graph.nodes node ≡ Some code
          → slice_get (chosen marks (replicate count actor.Passive) before) node ≡ Some own
          → IsActorOf code own
      rest_kept bounds node code own past there got =
          kept node code own (omega arith) there
          (sym (ap (λ t. if t then slice_get (replicate count actor.Passive) node
          else slice_get before node) (other_mark node (inr past)))
          ∙ sym (chosen_get marks (replicate count actor.Passive) before node
          (sym (even before actor.Passive many))) ∙ got)

-- ---- the rings of channels

channel_mark : (first next : ℕ) (channels : List declared.Channel) (number : ℕ) (channel : Channel)
    → slice_get (map channel_view channels) number ≡ Some channel
    → get_or (map (ends_within first next) channels) number false
    ≡ is_within first next channel.target.node
channel_mark first next [] number channel there = absurd (cc)
channel_mark first next (own ∷ channels) zero channel there =
    let same : channel_view own ≡ channel = cc in
    ap (λ (c : Channel). is_within first next c.target.node) same
channel_mark first next (own ∷ channels) (suc number) channel there =
    channel_mark first next channels number channel there

module _ (first next : ℕ) (rooms : List ℕ) (channels : List declared.Channel) (before : List Ring)
    (many : length before ≡ length channels) where
  abbrev views : List Channel
  views = map channel_view channels

  abbrev marks_of : List Bool
  marks_of = map (ends_within first next) channels

  abbrev empty : List Ring
  empty = empty_rings first next rooms 0 views

  level : length before ≡ length empty
  level = many ∙ sym (length-map channels channel_view) ∙ sym (rings_long first next rooms 0 views)

  pub rings_each : length (chosen marks_of before empty) ≡ length views
  rings_each = chosen_long marks_of before empty ∙ rings_long first next rooms 0 views

  module _ (number : ℕ) (channel : Channel) (there : slice_get views number ≡ Some channel) where
    part_ring : (test : Bool) → is_within first next channel.target.node ≡ test
        → ring_at (chosen marks_of before empty) number
        ≡ (if test then ring_at before number else ring_at empty number)
    part_ring test is =
        chosen_at marks_of before empty number (buffer [] 0) level
        ∙ ap (λ t. if t then ring_at before number else ring_at empty number)
        (channel_mark first next channels number channel there ∙ is)

    pub ring_ended : first ≤ channel.target.node → channel.target.node < next
        → ring_at (chosen marks_of before empty) number ≡ ring_at before number
    ring_ended from below =
        part_ring true (within_true first next channel.target.node from below)

    ring_empty : (room : ℕ) → room_at first next rooms number channel ≡ room
        → IsOutside first next channel.target.node
        → ring_at (chosen marks_of before empty) number ≡ buffer [] room
    ring_empty room is outside =
        let e : 0 + number ≡ number = omega arith in
        part_ring false (within_false first next channel.target.node outside)
        ∙ empty_at first next rooms 0 views number channel there
        ∙ ap (λ n. buffer [] (room_at first next rooms n channel)) e ∙ ap (buffer []) is

    pub ring_begun : IsOutside first next channel.target.node → first ≤ channel.source.node
        → channel.source.node < next
        → ring_at (chosen marks_of before empty) number ≡ buffer [] (slice_index rooms number)
    ring_begun outside from below =
        ring_empty (slice_index rooms number)
        (ap (λ t. if is_within first next channel.source.node && not t
        then slice_index rooms number else 0)
        (within_false first next channel.target.node outside)
        ∙ ap (λ t. if t && true then slice_index rooms number else 0)
        (within_true first next channel.source.node from below)) outside

    pub ring_other : IsOutside first next channel.target.node
        → IsOutside first next channel.source.node
        → ring_at (chosen marks_of before empty) number ≡ buffer [] 0
    ring_other outside apart =
        ring_empty 0
        (ap (λ t. if t && not (is_within first next channel.target.node)
        then slice_index rooms number else 0)
        (within_false first next channel.source.node apart)) outside

    pub ring_rest : IsOutside first next channel.target.node
        → ring_at (chosen marks_of empty before) number ≡ ring_at before number
    ring_rest outside =
        chosen_at marks_of empty before number (buffer [] 0) (sym level)
        ∙ ap (λ t. if t then ring_at empty number else ring_at before number)
        (channel_mark first next channels number channel there
        ∙ within_false first next channel.target.node outside)

-- ---- a machine that is parted

-- what is known of it: what it was, the empty one, the part and the rest
pub record IsParting (graph : GraphParts) (own : CircuitView) (first next count : ℕ)
    (rooms : List ℕ) (nodes channels : List Bool) (before fresh part rest : Machine)
    : Type 0 where
  pub is : IsPartCircuit (graph_view graph) first next own
  pub bounds : first ≤ next
  pub holds : HoldsFrom (graph_view graph) first before
  pub all : length own.codes ≡ count
  pub long : length nodes ≡ count
  pub marked : (node : ℕ) → node < count → get_or nodes node false ≡ is_within first next node
  pub ends : channels ≡ map (ends_within first next) graph.channels
  pub actors : fresh.actors.items ≡ replicate count actor.Passive
  pub fired : fresh.fired.items ≡ replicate count 0
  pub rings : fresh.rings.items ≡ empty_rings first next rooms 0 (map channel_view graph.channels)
  pub words : words_of fresh.words.items ≡ replicate count []
  pub took : HasChosen nodes channels before fresh part
  pub left : HasChosen nodes channels fresh before rest

module _ (graph : GraphParts) (own : CircuitView) (first next count : ℕ) (rooms : List ℕ)
    (nodes channels : List Bool) (before fresh part rest : Machine)
    (h : IsParting graph own first next count rooms nodes channels before fresh part rest) where
  abbrev flat : Graph
  flat = graph_view graph

  all_nodes : length flat.nodes ≡ count
  all_nodes = sym h.is.each ∙ h.all

  held : length before.actors.items ≡ count
  held = h.holds.actors ∙ all_nodes

  counted : length before.fired.items ≡ count
  counted = h.holds.fired ∙ all_nodes

  ringed : length before.rings.items ≡ length graph.channels
  ringed = h.holds.rings ∙ length-map graph.channels channel_view

  -- the lists that are left to be named
  actors_are : part.actors.items ≡ chosen nodes before.actors.items (replicate count actor.Passive)
  actors_are = h.took.actors ∙ ap (chosen nodes before.actors.items) h.actors

  fired_are : part.fired.items ≡ chosen nodes before.fired.items (replicate count 0)
  fired_are = h.took.fired ∙ ap (chosen nodes before.fired.items) h.fired

  rings_are : part.rings.items ≡ chosen (map (ends_within first next) graph.channels)
      before.rings.items (empty_rings first next rooms 0 flat.channels)
  rings_are = h.took.rings ∙ ap (chosen channels before.rings.items) h.rings
      ∙ ap (λ m. chosen m before.rings.items (empty_rings first next rooms 0 flat.channels)) h.ends

  fields_are : map fields_of part.actors.items
      ≡ chosen nodes (map fields_of before.actors.items) (replicate count [])
  fields_are = ap (map fields_of) actors_are
      ∙ map_chosen fields_of nodes before.actors.items (replicate count actor.Passive)
      ∙ ap (chosen nodes (map fields_of before.actors.items)) (map_alike count)

  actors_left : rest.actors.items ≡ chosen nodes (replicate count actor.Passive) before.actors.items
  actors_left = h.left.actors ∙ ap (λ l. chosen nodes l before.actors.items) h.actors

  fired_left : rest.fired.items ≡ chosen nodes (replicate count 0) before.fired.items
  fired_left = h.left.fired ∙ ap (λ l. chosen nodes l before.fired.items) h.fired

  rings_left : rest.rings.items ≡ chosen (map (ends_within first next) graph.channels)
      (empty_rings first next rooms 0 flat.channels) before.rings.items
  rings_left = h.left.rings ∙ ap (λ l. chosen channels l before.rings.items) h.rings
      ∙ ap (λ m. chosen m (empty_rings first next rooms 0 flat.channels) before.rings.items) h.ends

  fields_left : map fields_of rest.actors.items
      ≡ chosen nodes (replicate count []) (map fields_of before.actors.items)
  fields_left = ap (map fields_of) actors_left
      ∙ map_chosen fields_of nodes (replicate count actor.Passive) before.actors.items
      ∙ ap (λ l. chosen nodes l (map fields_of before.actors.items)) (map_alike count)

  field_lists : length (map fields_of before.actors.items) ≡ count
  field_lists = length-map before.actors.items fields_of ∙ held

  rings_all : length part.rings.items ≡ length flat.channels
  rings_all = ap length rings_are
      ∙ rings_each first next rooms graph.channels before.rings.items ringed

  words_all : words_of part.words.items ≡ replicate count []
  words_all = h.took.words ∙ h.words

  pub machine_of : IsMachine own part
  machine_of = record {
    actors = subst (AreActors own.codes) (sym actors_are)
        (part_actors first next nodes count h.long h.marked flat own h.is before.actors.items
        all_nodes held h.holds.kept);
    fired = ap length fired_are ∙ part_long first next nodes count h.long h.marked
        before.fired.items 0 counted ∙ sym h.all;
    words = sym (length-map part.words.items (λ words. words.items)) ∙ ap length words_all
        ∙ length-replicate count [] ∙ sym h.all;
    input_nodes = h.is.input_nodes ∙ sym h.is.each;
    output_nodes = h.is.output_nodes ∙ sym h.is.each;
    inputs = hold_rings _ own.inputs _ h.is.inputs (length-map flat.channels _ ∙ sym rings_all);
    outputs = hold_rings _ own.outputs _ h.is.outputs (length-map flat.channels _ ∙ sym rings_all);
  }

  pub part_of : IsPart flat first next rooms (machine_view before) (machine_view part)
  part_of = record {
    fields = λ node from below. ap (λ l. get_or l node []) fields_are
        ∙ part_own first next nodes count h.long h.marked (map fields_of before.actors.items) []
        field_lists node from below;
    fired = λ node from below. ap (λ l. get_or l node 0) fired_are
        ∙ part_own first next nodes count h.long h.marked before.fired.items 0 counted node from
        below;
    passive = λ node outside. ap (λ l. get_or l node []) fields_are
        ∙ part_other first next nodes count h.long h.marked (map fields_of before.actors.items) []
        field_lists node outside;
    unfired = λ node outside. ap (λ l. get_or l node 0) fired_are
        ∙ part_other first next nodes count h.long h.marked before.fired.items 0 counted node
        outside;
    ended = λ number channel there from below. ap (λ l. ring_at l number) rings_are
        ∙ ring_ended first next rooms graph.channels before.rings.items ringed number channel there
        from below;
    begun = λ number channel there outside from below. ap (λ l. ring_at l number) rings_are
        ∙ ring_begun first next rooms graph.channels before.rings.items ringed number channel there
        outside from below;
    others = λ number channel there outside apart. ap (λ l. ring_at l number) rings_are
        ∙ ring_other first next rooms graph.channels before.rings.items ringed number channel there
        outside apart;
    words = words_all ∙ ap (λ n. replicate n []) (sym all_nodes);
    each_fields = ap length fields_are ∙ part_long first next nodes count h.long h.marked
        (map fields_of before.actors.items) [] field_lists ∙ sym all_nodes;
    each_fired = ap length fired_are ∙ part_long first next nodes count h.long h.marked
        before.fired.items 0 counted ∙ sym all_nodes;
    each_ring = rings_all;
  }

  pub rest_of : IsRest flat next (machine_view before) (machine_view rest)
  rest_of = record {
    fields = λ node past. ap (λ l. get_or l node []) fields_left
        ∙ rest_same first next nodes count h.long h.marked (map fields_of before.actors.items) []
        field_lists node (inr past);
    fired = λ node past. ap (λ l. get_or l node 0) fired_left
        ∙ rest_same first next nodes count h.long h.marked before.fired.items 0 counted node
        (inr past);
    rings = λ number channel there past. ap (λ l. ring_at l number) rings_left
        ∙ ring_rest first next rooms graph.channels before.rings.items ringed number channel there
        (inr past);
    words = h.left.words;
    each_fields = ap length fields_left
        ∙ chosen_long nodes (replicate count []) (map fields_of before.actors.items);
    each_fired = ap length fired_left
        ∙ chosen_long nodes (replicate count 0) before.fired.items;
    each_ring = ap length h.left.rings
        ∙ chosen_long channels fresh.rings.items before.rings.items;
  }

  pub holds_rest : HoldsFrom flat next rest
  holds_rest = record {
    actors = ap length actors_left
        ∙ chosen_long nodes (replicate count actor.Passive) before.actors.items ∙ h.holds.actors;
    kept = λ node code one past there got.
        rest_kept first next nodes count h.long h.marked flat own h.is before.actors.items
        all_nodes held h.holds.kept h.bounds node code one past there
        (ap (λ l. slice_get l node) (sym actors_left) ∙ got);
    fired = ap length fired_left
        ∙ chosen_long nodes (replicate count 0) before.fired.items ∙ h.holds.fired;
    rings = ap length h.left.rings
        ∙ chosen_long channels fresh.rings.items before.rings.items ∙ h.holds.rings;
  }
