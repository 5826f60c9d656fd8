-- Firings in a row of a node that passes items on.
use Rattle.std.proofs.Common.{◌≡◌, ◌≢◌, refl, sym, ap, ◌∙◌, ℕ, zero, suc, ◌+◌, ◌-◌, ◌^◌, ◌<◌, ◌≤◌}
use Rattle.std.proofs.Common.{List, [], ◌∷◌, ◌++◌, length, get_or, set, take, drop, min, arith}
use Rattle.std.proofs.Common.{ℤ, append-nil, append_assoc, Bool, true, false, ltb}
use Rattle.std.specs.Prelude.{Option, Some, slice_get, if◌then◌else◌}
use Rattle.std.proofs.Math.Seq.{take-nil}
use Rattle.std.proofs.lemmas.Bool.{le-leb, ltb-true, ltb-false}
use Rattle.std.proofs.lemmas.List.{get_or-set_same, get_or-set_other, set-set, set_comm, set-get_or}
use Rattle.std.proofs.lemmas.List.{length-set, length-append, length-drop}
use Rattle.circular_buffer.specs.Buffer.{buffer}
use Rattle.std.proofs.Common.{subst}
use Rattle.strc_work_meaning.specs.declared.word.Word.{Word}
use Rattle.strc_elab_graph.specs.Graphs as graphs
use Rattle.strc_elab_graph.specs.Graphs.{NodeCode}
use Rattle.strc_sched_orders.specs.Order.{repeated}
use Rattle.strc_sched_laws.specs.Machine.{CircuitView, MachineView, Went, after_step}
use Rattle.strc_sched_laws.specs.Machine.{next_step, order_run, then_go, one_more, more_words}
use Rattle.strc_sched_laws.specs.Rings.{Ring, ring_at, at_port, items_at, shortened, extended}
use Rattle.strc_sched_laws.specs.Rings.{moved}
use Rattle.strc_sched_laws.specs.Steps.{Goes, if_found, filter_step, identity_step, node_step}
use Rattle.strc_sched_laws.specs.Wiring.{ports_at}
use Rattle.strc_sched_rings.specs.Turns.{times}
use Rattle.strc_sched_machine.specs.Blocks.{PassesOn}
use Rattle.strc_sched_filters.specs.Identities.{PassesItems}
use Rattle.strc_sched_machine.proofs.Done.{fields_kept, step_of}
use Rattle.strc_sched_filters.proofs.Identities.{filter_passes}

-- of an item and more of them as many join a list as there is room for
joined_more : (front more : List ℤ) (item : ℤ) (room left : ℕ)
    → length (take room (item ∷ [])) + left ≡ room
    → (front ++ take room (item ∷ [])) ++ take left more ≡ front ++ take room (item ∷ more)
joined_more front more item zero left is =
    let none : left ≡ 0 = omega arith in
    append_assoc front [] (take left more) ∙ ap (λ n. front ++ take n more) none
joined_more front more item (suc zero) left is =
    let none : left ≡ 0 = omega arith in
    append_assoc front (item ∷ []) (take left more)
    ∙ ap (λ n. front ++ item ∷ take n more) none
joined_more front more item (suc (suc room)) left is =
    let rest : left ≡ suc room = omega arith in
    append_assoc front (item ∷ []) (take left more)
    ∙ ap (λ n. front ++ item ∷ take n more) rest

-- the first item joins a ring, and then so many more
extended_more : (count : ℕ) (items : List ℤ) (ring : Ring) → 0 < length items
    → extended (take count (drop 1 items)) (extended (take 1 items) ring)
    ≡ extended (take (suc count) items) ring
extended_more count [] ring some = absurd (omega arith)
extended_more count (item ∷ items) ring some =
    let room = ring.capacity - length ring.items in
    let piece : List ℤ = take room (item ∷ []) in
    let many = length-append ring.items piece in
    let at_most : length piece ≤ room = one_at_most room in
    ap (λ (l : List ℤ). buffer l ring.capacity)
    (joined_more ring.items (take count items) item room
    (ring.capacity - length (ring.items ++ piece)) (omega (arith, many, at_most)))
  where
    one_at_most : (room : ℕ) → length (take room (item ∷ [])) ≤ room
    one_at_most zero = omega arith
    one_at_most (suc zero) = omega arith
    one_at_most (suc (suc room)) = omega arith

-- the first item leaves a ring, and then so many more
shortened_more : (count : ℕ) (ring : Ring) → 0 < length ring.items
    → shortened count (shortened 1 ring) ≡ shortened (suc count) ring
shortened_more count ring some =
    ap (λ (l : List ℤ). buffer l ring.capacity) (by_items ring.items some)
  where
    by_items : (items : List ℤ) → 0 < length items
        → drop count (drop 1 items) ≡ drop (suc count) items
    by_items [] some = absurd (omega arith)
    by_items (item ∷ items) some = refl

module _ (from to : ℕ) (apart : from ≢ to) where
  -- of two rings only what they were given last counts
  set_twice : (rings : List Ring) (source target new_source new_target : Ring)
      → set (set (set (set rings from source) to target) from new_source) to new_target
      ≡ set (set rings from new_source) to new_target
  set_twice rings source target new_source new_target =
      ap (λ (l : List Ring). set l to new_target)
      (set_comm (set rings from source) to from target new_source (λ same. apart (sym same)))
      ∙ set-set (set (set rings from source) from new_source) to target new_target
      ∙ ap (λ (l : List Ring). set l to new_target) (set-set rings from source new_source)

  ring_beside : (rings : List Ring) (ring : Ring) → ring_at (set rings from ring) to
      ≡ ring_at rings to
  ring_beside rings ring =
      get_or-set_other rings from to ring (buffer [] 0) (λ same. apart (sym same))

  -- the ring that one item has left
  source_after : (rings : List Ring) → from < length rings
      → ring_at (moved (Some from) (Some to) 1 rings) from ≡ shortened 1 (ring_at rings from)
  source_after rings there =
      let source = shortened 1 (ring_at rings from) in
      get_or-set_other (set rings from source) to from _ (buffer [] 0) apart
      ∙ get_or-set_same rings from source (buffer [] 0) there

  -- one item moves, and then so many more
  moved_more : (count : ℕ) (rings : List Ring) → from < length rings → to < length rings
      → 0 < length (items_at rings (Some from))
      → moved (Some from) (Some to) count (moved (Some from) (Some to) 1 rings)
      ≡ moved (Some from) (Some to) (suc count) rings
  moved_more count rings from_there to_there some =
      let source = ring_at rings from in
      let first = set rings from (shortened 1 source) in
      let target = extended (take 1 source.items) (ring_at first to) in
      let next = shortened count (shortened 1 source) in
      let second : List Ring = set first to target in
      let there : to < length first =
      let many = length-set rings from (shortened 1 source) in omega arith in
      ap (λ (r : Ring). set (set second from (shortened count r)) to
      (extended (take count r.items) (ring_at (set second from (shortened count r)) to)))
      (source_after rings from_there)
      ∙ ap (λ (r : Ring). set (set second from next) to
      (extended (take count (drop 1 source.items)) r))
      (ring_beside second next ∙ get_or-set_same first to target (buffer [] 0) there)
      ∙ set_twice rings (shortened 1 source) target next
      (extended (take count (drop 1 source.items)) target)
      ∙ ap (λ (r : Ring). set (set rings from next) to r)
      (extended_more count source.items (ring_at first to) some
      ∙ ap (extended (take (suc count) source.items)) (ring_beside rings (shortened 1 source)
      ∙ sym (ring_beside rings (shortened (suc count) source))))
      ∙ ap (λ (r : Ring). set (set rings from r) to
      (extended (take (suc count) source.items)
      (ring_at (set rings from (shortened (suc count) source)) to)))
      (shortened_more count source some)

-- nothing moves
moved_none : (from to : ℕ) (rings : List Ring) → moved (Some from) (Some to) 0 rings ≡ rings
moved_none from to rings =
    set_same to (set rings from (ring_at rings from))
    ∙ set-get_or rings from (buffer [] 0)
  where
    set_same : (number : ℕ) (all : List Ring) → set all number (extended [] (ring_at all number))
        ≡ all
    set_same number all =
        let ring = ring_at all number in
        ap (λ (l : List ℤ). set all number (buffer l ring.capacity))
        (ap (λ l. ring.items ++ l) (take-nil (ring.capacity - length ring.items))
        ∙ append-nil ring.items)
        ∙ set-get_or all number (buffer [] 0)

length_moved : (from to count : ℕ) (rings : List Ring)
    → length (moved (Some from) (Some to) count rings) ≡ length rings
length_moved from to count rings = length-set (set rings from _) to _ ∙ length-set rings from _

-- a ring that holds items is there
holds_items : (rings : List Ring) (number : ℕ) → 0 < length (items_at rings (Some number))
    → number < length rings
holds_items [] number some = absurd (omega arith)
holds_items (ring ∷ rings) zero some = omega arith
holds_items (ring ∷ rings) (suc number) some =
    let less = holds_items rings number some in omega arith

-- so many more firings, numbered within 64 bits
abbrev pub counted : (count firing : ℕ) → ℕ
counted count firing = min (firing + count) (2 ^ 64 - 1)

pub counted_more : (count firing : ℕ) → firing < 2 ^ 64
    → counted count (one_more firing) ≡ counted (suc count) firing
counted_more count firing fits = by_test (ltb firing (2 ^ 64 - 1)) refl
  where
    by_test : (test : Bool) → ltb firing (2 ^ 64 - 1) ≡ test
        → min ((if test then suc firing else firing) + count) (2 ^ 64 - 1)
        ≡ min (firing + suc count) (2 ^ 64 - 1)
    by_test true is = omega arith
    by_test false is = let most = ltb-false firing (2 ^ 64 - 1) is in omega arith

pub one_more_fits : (firing : ℕ) → firing < 2 ^ 64 → one_more firing < 2 ^ 64
one_more_fits firing fits = by_test (ltb firing (2 ^ 64 - 1)) refl
  where
    by_test : (test : Bool) → ltb firing (2 ^ 64 - 1) ≡ test
        → (if test then suc firing else firing) < 2 ^ 64
    by_test true is = let less = ltb-true firing (2 ^ 64 - 1) is in omega arith
    by_test false is = fits

-- a change that a node makes of its rings whenever it fires and they are ready for it
module _ (circuit : CircuitView) (node : ℕ) (code : NodeCode)
    (here : slice_get circuit.codes node ≡ Some code) (change : List Ring → List Ring)
    (Ready : ℕ → List Ring → Type 0)
    (next : (left firing : ℕ) (rings : List Ring) → Ready (suc left) rings
    → (node_step code firing [] (ports_at circuit.inputs node) (ports_at circuit.outputs node)
    circuit.input rings ≡ Goes [] (change rings) []) × Ready left (change rings)) where
  -- one firing
  one_firing : (fields : List (List ℤ)) (fired : List ℕ) (rings : List Ring)
      (words : List (List Word)) (left : ℕ) → get_or fields node [] ≡ [] → Ready (suc left) rings
      → after_step (record { fields = fields; fired = fired; rings = rings; words = words }) node
      (next_step circuit
      (record { fields = fields; fired = fired; rings = rings; words = words }) node)
      ≡ Went (record {
        fields = fields;
        fired = set fired node (one_more (get_or fired node 0));
        rings = change rings;
        words = words;
      })
  one_firing fields fired rings words left none ready =
      let machine : MachineView =
      record { fields = fields; fired = fired; rings = rings; words = words } in
      let count = set fired node (one_more (get_or fired node 0)) in
      ap (after_step machine node)
      (step_of circuit machine node (get_or fired node 0) code (ports_at circuit.inputs node)
      (ports_at circuit.outputs node) here refl refl
      ∙ ap (λ (own : List ℤ). node_step code (get_or fired node 0) own
      (ports_at circuit.inputs node) (ports_at circuit.outputs node) circuit.input rings) none
      ∙ (next left (get_or fired node 0) rings ready).0)
      ∙ ap (λ (all : List (List ℤ)). Went (record {
        fields = all;
        fired = count;
        rings = change rings;
        words = more_words words node [];
      }))
      (sym (fields_kept fields node none))
      ∙ ap (λ (all : List (List Word)). Went (record {
        fields = fields;
        fired = count;
        rings = change rings;
        words = all;
      }))
      (ap (set words node) (append-nil (get_or words node [])) ∙ set-get_or words node [])

  -- so many
  pub passes : (count : ℕ) (rings : List Ring) → Ready count rings
      → PassesOn circuit node count rings (times count change rings)
  passes zero rings ready fields fired words none there fits =
      let firing = get_or fired node 0 in
      let same : counted 0 firing ≡ firing = omega arith in
      ap (λ (all : List ℕ). Went (record {
        fields = fields;
        fired = all;
        rings = rings;
        words = words;
      }))
      (sym (ap (set fired node) same ∙ set-get_or fired node 0))
  passes (suc count) rings ready fields fired words none there fits =
      let firing = get_or fired node 0 in
      let after = set fired node (one_more firing) in
      let now = get_or-set_same fired node (one_more firing) 0 there in
      let many = length-set fired node (one_more firing) in
      let more = one_more_fits firing fits in
      ap (then_go (order_run circuit (repeated count (node ∷ []))))
      (one_firing fields fired rings words count none ready)
      ∙ passes count (change rings) (next count firing rings ready).1 fields after words none
      (omega (arith, there, many)) (omega (arith, now, more))
      ∙ ap (λ (all : List ℕ). Went (record {
        fields = fields;
        fired = all;
        rings = times count change (change rings);
        words = words;
      }))
      (ap (λ n. set after node (counted count n)) now
      ∙ set-set fired node (one_more firing) (counted count (one_more firing))
      ∙ ap (set fired node) (counted_more count firing fits))

-- ---- identities

module _ (from to : ℕ) (apart : from ≢ to) where
  pub moved_times : (count : ℕ) (rings : List Ring) → from < length rings → to < length rings
      → count ≤ length (items_at rings (Some from))
      → times count (moved (Some from) (Some to) 1) rings
      ≡ moved (Some from) (Some to) count rings
  moved_times zero rings from_there to_there enough = sym (moved_none from to rings)
  moved_times (suc count) rings from_there to_there enough =
      let some : 0 < length (items_at rings (Some from)) = omega (arith, enough) in
      let after = moved (Some from) (Some to) 1 rings in
      let many = length_moved from to 1 rings in
      let left = left_after rings from_there in
      moved_times count after (omega (arith, from_there, many)) (omega (arith, to_there, many))
      (omega (arith, left, enough))
      ∙ moved_more from to apart count rings from_there to_there some
    where
      left_after : (rings : List Ring) → from < length rings
          → length (items_at (moved (Some from) (Some to) 1 rings) (Some from))
          ≡ length (items_at rings (Some from)) - 1
      left_after rings there =
          ap (λ (r : Ring). length r.items) (source_after from to apart rings there)
          ∙ length-drop 1 (ring_at rings from).items

  record IsFull (count : ℕ) (rings : List Ring) : Type 0 where
    pub from_there : from < length rings
    pub to_there : to < length rings
    pub enough : count ≤ length (items_at rings (Some from))

  -- a firing moves an item
  step_moves : (code : NodeCode) → PassesItems code → (firing : ℕ)
      (inputs outputs : List (Option ℕ)) (input : List ℤ) (rings : List Ring)
      → at_port inputs 0 ≡ Some from → at_port outputs 0 ≡ Some to
      → 1 ≤ length (items_at rings (Some from))
      → node_step code firing [] inputs outputs input rings
      ≡ Goes [] (moved (Some from) (Some to) 1 rings) []
  step_moves graphs.Identity passing firing inputs outputs input rings at_input at_output some =
      ap (λ i. identity_step i (at_port outputs 0) rings) at_input
      ∙ ap (λ o. identity_step (Some from) o rings) at_output
      ∙ ap (λ found. if_found found (Goes [] (moved (Some from) (Some to) 1 rings) []))
      (le-leb 1 (length (items_at rings (Some from))) some)
  step_moves (graphs.Filter name filter) passing firing inputs outputs input rings at_input
      at_output some =
      ap (λ i. filter_step filter firing [] i (at_port outputs 0) rings) at_input
      ∙ ap (λ o. filter_step filter firing [] (Some from) o rings) at_output
      ∙ filter_passes filter passing firing from to rings some
  step_moves (graphs.FileReader text) passing firing inputs outputs input rings at_input
      at_output some = absurd passing
  step_moves (graphs.FileWriter text) passing firing inputs outputs input rings at_input
      at_output some = absurd passing
  step_moves (graphs.Splitter splitter) passing firing inputs outputs input rings at_input
      at_output some = absurd passing
  step_moves (graphs.Joiner weights) passing firing inputs outputs input rings at_input
      at_output some = absurd passing
  step_moves (graphs.Scatter fission) passing firing inputs outputs input rings at_input
      at_output some = absurd passing
  step_moves (graphs.Copy copied fission) passing firing inputs outputs input rings at_input
      at_output some = absurd passing
  step_moves (graphs.Gather fission) passing firing inputs outputs input rings at_input
      at_output some = absurd passing

  pub identity_passes : (circuit : CircuitView) (node : ℕ) (code : NodeCode) (count : ℕ)
      (rings : List Ring) → slice_get circuit.codes node ≡ Some code → PassesItems code
      → at_port (ports_at circuit.inputs node) 0 ≡ Some from
      → at_port (ports_at circuit.outputs node) 0 ≡ Some to
      → from < length rings → to < length rings → count ≤ length (items_at rings (Some from))
      → PassesOn circuit node count rings (moved (Some from) (Some to) count rings)
  identity_passes circuit node code count rings here passing input output from_there to_there
      enough =
      subst (PassesOn circuit node count rings)
      (moved_times count rings from_there to_there enough)
      (passes circuit node code here (moved (Some from) (Some to) 1) IsFull next count
      rings (record { from_there = from_there; to_there = to_there; enough = enough }))
    where
      next : (left firing : ℕ) (rings : List Ring) → IsFull (suc left) rings
          → (node_step code firing [] (ports_at circuit.inputs node)
          (ports_at circuit.outputs node) circuit.input rings
          ≡ Goes [] (moved (Some from) (Some to) 1 rings) [])
          × IsFull left (moved (Some from) (Some to) 1 rings)
      next left firing rings full =
          let enough = full.enough in
          let some : 1 ≤ length (items_at rings (Some from)) = omega (arith, enough) in
          let many = length_moved from to 1 rings in
          let inner = full.from_there in
          let outer = full.to_there in
          let fewer = ap (λ (r : Ring). length r.items)
          (source_after from to apart rings full.from_there)
          ∙ length-drop 1 (ring_at rings from).items in (
            step_moves code passing firing (ports_at circuit.inputs node)
                (ports_at circuit.outputs node) circuit.input rings input output some,
            record {
              from_there = omega (arith, inner, many);
              to_there = omega (arith, outer, many);
              enough = omega (arith, fewer, enough);
            },
          )
