-- The moves of each node that only passes items on do what the node means.
use Rattle.std.proofs.Common.{◌≡◌, ℕ, zero, suc, ◌+◌, ◌<◌, ◌≤◌, ℤ, pos, Bool, true, false, cond}
use Rattle.std.proofs.Common.{List, [], ◌∷◌, ◌++◌, length, get_or, take, drop, sum, map, Option}
use Rattle.std.proofs.Common.{Some}
use Rattle.std.proofs.Common.{None, Ok, Err, refl, sym, ap, ap₂, ◌∙◌, arith, ◌⊎◌, inl}
use Rattle.std.proofs.Common.{inr, append-nil}
use Rattle.std.proofs.Math.ListN.{get_or-eq_default}
use Rattle.std.proofs.lemmas.List.{take_all}
use Rattle.std.proofs.lemmas.Bool.{cases_lt, lt-ltb}
use Rattle.std.specs.Prelude.{slice_index, slice_index_or}
use Rattle.std.specs.Option.{option_map}
use Rattle.strc_lex_names.specs.Results.{result_and_then}
use Rattle.strc_work_meaning.specs.declared.word.Word.{Word}
use Rattle.strc_elab_dataflow.specs.Node.{ByPort, at_port_0}
use Rattle.strc_elab_dataflow.specs.RoundRobin.{span_start, one_cycle}
use Rattle.strc_elab_graph.specs.Graphs.{SplitterCode, Duplicate, Roundrobin, NodeCode}
use Rattle.strc_elab_graph.specs.Graphs as graphs
use Rattle.strc_elab_graph.specs.Meaning.{line_of, split}
use Rattle.strc_emit_c.specs.Meaning.{Item, Memory, written, Undefined}
use Rattle.strc_emit_meaning.proofs.Cells.{kept_in, put_in}
use Rattle.strc_emit_moves.specs.declared.places.Network.{Network}
use Rattle.strc_emit_moves.specs.declared.places.Items.{Items}
use Rattle.strc_emit_moves.specs.declared.places.Phase.{Phase}
use Rattle.strc_emit_moves.specs.Places.{taken_at, given_at}
use Rattle.strc_emit_moves.specs.Moves.{later}
use Rattle.strc_emit_passes.specs.Moves.{Move, Take, between_moves, moves_below}
use Rattle.strc_emit_passes.specs.Moves.{copy_moves, join_moves, node_moves}
use Rattle.strc_emit_passes.specs.Moves.{read_moves, line_moves}
use Rattle.strc_emit_passes.specs.Meaning.{Passing, Surroundings, next_number}
use Rattle.strc_emit_passes.specs.Meaning.{moves_done}
use Rattle.strc_emit_passes.specs.Passing.{FindsItems, HasPassed}
use Rattle.strc_emit_passes.specs.Passing.{PassingNodesFire}
use Rattle.strc_emit_passes.proofs.Copying.{cells_apart, item_at}
use Rattle.strc_emit_passes.proofs.Dealing as dealing
use Rattle.strc_emit_passes.proofs.Dealing.{same_items}
use Rattle.strc_emit_passes.proofs.Gathering as gathering
use Rattle.strc_emit_passes.proofs.Shares.{share_within, share_grows, span_length, span_at}
use Rattle.strc_emit_passes.proofs.Shares.{cycle_length, cycle_at}

at_first : (items : List ℤ) → at_port_0 items 0 ≡ items
unfolding at_port_0
at_first items = refl

at_others : (items : List ℤ) (port : ℕ) → at_port_0 items (suc port) ≡ []
unfolding at_port_0
at_others items port = refl

later_none : (o : Option Items) → option_map (later 0) o ≡ o
later_none None = refl
later_none (Some items) =
    let same : items.after + 0 ≡ items.after = omega arith in
    ap (λ n. Some (record items { after = n })) same

between_zero : (to from : Option Items) → between_moves to from 0 ≡ []
between_zero (Some to) (Some from) = refl
between_zero (Some to) None = refl
between_zero None (Some from) = refl
between_zero None None = refl

between_none : (from : Option Items) (count : ℕ) → between_moves None from count ≡ []
between_none (Some from) count = refl
between_none None count = refl

below_each : (f g : ℕ → List Move) → ((port : ℕ) → f port ≡ g port) → (count : ℕ)
    → moves_below f count ≡ moves_below g count
below_each f g same zero = refl
below_each f g same (suc count) =
    ap₂ (λ a b. a ++ b) (below_each f g same count) (same count)

below_none : (count : ℕ) → moves_below (λ port. []) count ≡ []
below_none zero = refl
below_none (suc count) = ap (λ a. a ++ []) (below_none count)

none_some : (items : Items) → None ≡ Some items → ⊥
none_some items e = cc

only_one : (items : List ℤ) → length items ≡ 1 → items ≡ get_or items 0 (pos 0) ∷ []
only_one [] e = absurd (omega (arith, e))
only_one (item ∷ []) e = refl
only_one (item ∷ next ∷ rest) e = absurd (omega (arith, e))

module _ (network : Network) (phase : Phase) (node : ℕ) (around : Surroundings) (i : ℕ)
    (seen : ByPort) (from to : ℕ → ℕ) (passing : Passing) where
  abbrev Finds : ByPort → Type 0
  Finds pushes = FindsItems network phase node around i seen pushes from to passing.memory

  abbrev Passes : (pushes : ByPort) → List Word → (more : ℕ) → List Move → Type 0
  Passes pushes printed more moves =
      (after : Passing) × (moves_done around (pos i) moves passing ≡ Ok after)
      × HasPassed network phase node pushes to printed passing.memory after.memory
      × (after.taken ≡ passing.taken + more)

  -- items that are dealt out
  module _ (pushes : ByPort) (finds : Finds pushes) (input : Items)
      (input_is : taken_at network phase node 0 ≡ Some input) (offset amount : ℕ → ℕ) (bound : ℕ)
      (share : (port : ℕ) → port < bound → offset port + amount port ≤ length (seen 0))
      (sizes : (port : ℕ) → port < bound → length (pushes port) ≡ amount port)
      (gives : (port k : ℕ) → port < bound → k < amount port
      → get_or (pushes port) k (pos 0) ≡ get_or (seen 0) (offset port + k) (pos 0))
      (over : (port : ℕ) → bound ≤ port → length (pushes port) ≡ 0) where
    abbrev dealt_moves : ℕ → List Move
    dealt_moves port = between_moves (given_at network phase node port)
        (option_map (later (offset port)) (taken_at network phase node 0)) (amount port)

    dealt : (after : Passing)
        × (moves_done around (pos i) (moves_below dealt_moves bound) passing ≡ Ok after)
        × dealing.Dealt network phase node around i seen pushes from to passing finds input input_is
        offset amount bound share sizes gives bound after
    dealt = dealing.deal network phase node around i seen pushes from to passing finds input
        input_is offset amount bound share sizes gives bound (omega arith)

    dealt_items : (port : ℕ) (items : Items) → given_at network phase node port ≡ Some items
        → (k : ℕ) → k < length (pushes port) → (port < bound) ⊎ (bound ≤ port)
        → dealt.0.memory.cells (Item items.channel (to port + k)) ≡ get_or (pushes port) k (pos 0)
    dealt_items port items at k lt (inl less) = dealt.2.items port items less at k lt
    dealt_items port items at k lt (inr past) = absurd (omega (arith, lt, over port past))

    deals : (moves : List Move) → moves ≡ moves_below dealt_moves bound → Passes pushes [] 0 moves
    deals moves same = (
      dealt.0,
      ap (λ l. moves_done around (pos i) l passing) same ∙ dealt.1,
      record {
        items = λ port items at k lt. dealt_items port items at k lt (cases_lt port bound);
        kept = λ cell apart. dealt.2.kept cell (λ port items k lt at less e.
            apart port items k at less e);
        words = dealt.2.words ∙ sym (append-nil passing.memory.words);
      },
      dealt.2.taken ∙ omega arith,
    )

  identity_passes : Finds (at_port_0 (seen 0)) → length (seen 0) ≡ 1
      → (input : Items) → taken_at network phase node 0 ≡ Some input
      → Passes (at_port_0 (seen 0)) [] 0 (node_moves network phase node graphs.Identity)
  identity_passes finds size input input_is =
      deals (at_port_0 (seen 0)) finds input input_is (λ port. 0) (λ port. 1) 1
      (λ port lt. omega (arith, size)) sizes gives over
      (node_moves network phase node graphs.Identity)
      (ap (λ o. between_moves (given_at network phase node 0) o 1)
      (sym (later_none (taken_at network phase node 0))))
    where
      sizes : (port : ℕ) → port < 1 → length (at_port_0 (seen 0) port) ≡ 1
      sizes zero lt = ap length (at_first (seen 0)) ∙ size
      sizes (suc port) lt = absurd (omega (arith, lt))

      gives : (port k : ℕ) → port < 1 → k < 1
          → get_or (at_port_0 (seen 0) port) k (pos 0) ≡ get_or (seen 0) (0 + k) (pos 0)
      gives zero k lt less =
          let number : k ≡ 0 + k = omega arith in
          ap (λ l. get_or l k (pos 0)) (at_first (seen 0))
          ∙ ap (λ n. get_or (seen 0) n (pos 0)) number
      gives (suc port) k lt less = absurd (omega (arith, lt))

      over : (port : ℕ) → 1 ≤ port → length (at_port_0 (seen 0) port) ≡ 0
      over zero le = absurd (omega (arith, le))
      over (suc port) le = ap length (at_others (seen 0) port)

  duplicate_passes : (carried : List Bool) → Finds (split (Duplicate carried) (seen 0))
      → length (seen 0) ≡ 1 → (input : Items) → taken_at network phase node 0 ≡ Some input
      → Passes (split (Duplicate carried) (seen 0)) [] 0
      (node_moves network phase node (graphs.Splitter (Duplicate carried)))
  duplicate_passes carried finds size input input_is =
      deals (split (Duplicate carried) (seen 0)) finds input input_is (λ port. 0) amount
      (length carried) (λ port lt. share (slice_index_or carried port false))
      (λ port lt. sizes (slice_index_or carried port false))
      (λ port k lt less. gives (slice_index_or carried port false) k less)
      (λ port le. ap (λ t. length (cond t (seen 0) [])) (get_or-eq_default carried false le))
      (node_moves network phase node (graphs.Splitter (Duplicate carried)))
      (below_each (copy_moves network phase node carried)
      (λ port. between_moves (given_at network phase node port)
      (option_map (later 0) (taken_at network phase node 0)) (amount port))
      (λ port. moves port (slice_index_or carried port false)) (length carried))
    where
      amount : ℕ → ℕ
      amount port = cond (slice_index_or carried port false) 1 0

      share : (t : Bool) → 0 + cond t 1 0 ≤ length (seen 0)
      share true = omega (arith, size)
      share false = omega arith

      sizes : (t : Bool) → length (cond t (seen 0) []) ≡ cond t 1 0
      sizes true = size
      sizes false = refl

      gives : (t : Bool) (k : ℕ) → k < cond t 1 0
          → get_or (cond t (seen 0) []) k (pos 0) ≡ get_or (seen 0) (0 + k) (pos 0)
      gives true k less =
          let number : k ≡ 0 + k = omega arith in ap (λ n. get_or (seen 0) n (pos 0)) number
      gives false k less = absurd (omega (arith, less))

      moves : (port : ℕ) (t : Bool)
          → cond t (between_moves (given_at network phase node port)
          (taken_at network phase node 0) 1) []
          ≡ between_moves (given_at network phase node port)
          (option_map (later 0) (taken_at network phase node 0)) (cond t 1 0)
      moves port true = ap (λ o. between_moves (given_at network phase node port) o 1)
          (sym (later_none (taken_at network phase node 0)))
      moves port false = sym (between_zero (given_at network phase node port)
          (option_map (later 0) (taken_at network phase node 0)))

  roundrobin_passes : (weights : List ℕ) → Finds (split (Roundrobin weights) (seen 0))
      → length (seen 0) ≡ sum weights → (input : Items)
      → taken_at network phase node 0 ≡ Some input
      → Passes (split (Roundrobin weights) (seen 0)) [] 0
      (node_moves network phase node (graphs.Splitter (Roundrobin weights)))
  unfolding span_start
  roundrobin_passes weights finds size input input_is =
      deals (split (Roundrobin weights) (seen 0)) finds input input_is
      (λ port. sum (take port weights)) (λ port. slice_index weights port) (length weights)
      (λ port lt. omega (arith, size, share_within weights port lt))
      (λ port lt. span_length (seen 0) (sum (take port weights)) (slice_index weights port)
      (omega (arith, size, share_within weights port lt)))
      (λ port k lt less. span_at (seen 0) (sum (take port weights)) (slice_index weights port) k
      less)
      (λ port le. ap (λ n. length (take n (drop (sum (take port weights)) (seen 0))))
      (get_or-eq_default weights 0 le))
      (node_moves network phase node (graphs.Splitter (Roundrobin weights))) refl

  -- items that are gathered
  joiner_passes : (weights : List ℕ) → Finds (at_port_0 (one_cycle weights 0 seen))
      → ((port : ℕ) → port < length weights → length (seen port) ≡ slice_index weights port)
      → ((port : ℕ) → port < length weights → 0 < slice_index weights port
      → (items : Items) × (taken_at network phase node port ≡ Some items))
      → (o : Option Items) → given_at network phase node 0 ≡ o
      → Passes (at_port_0 (one_cycle weights 0 seen)) [] 0
      (node_moves network phase node (graphs.Joiner weights))
  joiner_passes weights finds sizes wired None at = (
    passing,
    ap (λ l. moves_done around (pos i) l passing)
        (below_each (join_moves network phase node weights) (λ port. [])
        (λ port. ap (λ o. between_moves (option_map (later (sum (take port weights))) o)
        (taken_at network phase node port) (slice_index weights port)) at
        ∙ between_none (taken_at network phase node port) (slice_index weights port))
        (length weights) ∙ below_none (length weights)),
    record {
      items = none;
      kept = λ cell apart. refl;
      words = sym (append-nil passing.memory.words);
    },
    omega arith,
  )
    where
      none : (port : ℕ) (items : Items) → given_at network phase node port ≡ Some items → (k : ℕ)
          → k < length (at_port_0 (one_cycle weights 0 seen) port)
          → passing.memory.cells (Item items.channel (to port + k))
          ≡ get_or (at_port_0 (one_cycle weights 0 seen) port) k (pos 0)
      none zero items given k lt = absurd (none_some items (sym at ∙ given))
      none (suc port) items given k lt =
          absurd (omega (arith, lt, ap length (at_others (one_cycle weights 0 seen) port)))
  joiner_passes weights finds sizes wired (Some output) at =
      let done = gather in (
        done.0,
        done.1,
        record {
          items = given_items;
          kept = λ cell apart. done.2.kept cell
              (λ k lt e. apart 0 output k at (omega (arith, lt, whole, first_size)) e);
          words = done.2.words ∙ sym (append-nil passing.memory.words);
        },
        done.2.taken ∙ omega arith,
      )
    where
      pushes : ByPort
      pushes = at_port_0 (one_cycle weights 0 seen)

      from_first : (port : ℕ) → port < length weights
          → length (seen (0 + port)) ≡ slice_index weights port
      from_first port lt =
          let number : 0 + port ≡ port = omega arith in
          ap (λ p. length (seen p)) number ∙ sizes port lt

      first_size : length (at_port_0 (one_cycle weights 0 seen) 0) ≡ sum weights
      first_size = ap length (at_first (one_cycle weights 0 seen))
          ∙ cycle_length seen weights 0 from_first

      whole : sum (take (length weights) weights) ≡ sum weights
      whole = ap sum (take_all (length weights) weights (omega arith))

      gives : (port k : ℕ) → port < length weights → k < slice_index weights port
          → get_or (at_port_0 (one_cycle weights 0 seen) 0) (sum (take port weights) + k) (pos 0)
          ≡ get_or (seen port) k (pos 0)
      gives port k lt less =
          let number : 0 + port ≡ port = omega arith in
          ap (λ l. get_or l (sum (take port weights) + k) (pos 0))
          (at_first (one_cycle weights 0 seen))
          ∙ cycle_at seen weights 0 from_first port k lt less
          ∙ ap (λ p. get_or (seen p) k (pos 0)) number

      gather : (after : Passing)
          × (moves_done around (pos i) (node_moves network phase node (graphs.Joiner weights))
          passing ≡ Ok after)
          × gathering.Gathered network phase node around i seen
          (at_port_0 (one_cycle weights 0 seen)) from to passing finds output at
          (λ port. sum (take port weights)) (λ port. slice_index weights port) (length weights) refl
          (λ port lt. share_grows weights port lt)
          (λ port lt. omega (arith, share_within weights port lt, first_size)) sizes wired gives
          (length weights) after
      gather = gathering.gather network phase node around i seen
          (at_port_0 (one_cycle weights 0 seen)) from to passing finds output at
          (λ port. sum (take port weights)) (λ port. slice_index weights port) (length weights) refl
          (λ port lt. share_grows weights port lt)
          (λ port lt. omega (arith, share_within weights port lt, first_size)) sizes wired gives
          (length weights) (omega arith)

      given_items : (port : ℕ) (items : Items) → given_at network phase node port ≡ Some items
          → (k : ℕ) → k < length (at_port_0 (one_cycle weights 0 seen) port)
          → gather.0.memory.cells (Item items.channel (to port + k))
          ≡ get_or (at_port_0 (one_cycle weights 0 seen) port) k (pos 0)
      given_items zero items given k lt =
          let one : items ≡ output = same_items items output (sym given ∙ at) in
          ap (λ (t : Items). gather.0.memory.cells (Item t.channel (to 0 + k))) one
          ∙ gather.2.items k (omega (arith, lt, whole, first_size))
      given_items (suc port) items given k lt =
          absurd (omega (arith, lt, ap length (at_others (one_cycle weights 0 seen) port)))

  -- a reader, and a writer
  reader_passes : (text : List ℕ) → Finds (at_port_0 (seen 0)) → passing.taken < length around.input
      → seen 0 ≡ get_or around.input passing.taken (pos 0) ∷ [] → (o : Option Items)
      → given_at network phase node 0 ≡ o
      → Passes (at_port_0 (seen 0)) [] 1 (read_moves network phase node o)
  reader_passes text finds within sees None at = (
    record passing { taken = passing.taken + 1 },
    refl,
    record {
      items = none;
      kept = λ cell apart. refl;
      words = sym (append-nil passing.memory.words);
    },
    refl,
  )
    where
      none : (port : ℕ) (items : Items) → given_at network phase node port ≡ Some items → (k : ℕ)
          → k < length (at_port_0 (seen 0) port)
          → passing.memory.cells (Item items.channel (to port + k))
          ≡ get_or (at_port_0 (seen 0) port) k (pos 0)
      none zero items given k lt = absurd (none_some items (sym at ∙ given))
      none (suc port) items given k lt =
          absurd (omega (arith, lt, ap length (at_others (seen 0) port)))
  reader_passes text finds within sees (Some output) at = (
    record passing { memory = memory; taken = passing.taken + 1 },
    reads,
    record {
      items = given_items;
      kept = λ cell apart. kept_in (Item output.channel (to 0)) cell number passing.memory
          (cells_apart (Item output.channel (to 0)) cell
          (λ e. let here : to 0 ≡ to 0 + 0 = omega arith in
          apart 0 output 0 at (omega (arith, first_size))
          (sym e ∙ ap (Item output.channel) here)));
      words = sym (append-nil passing.memory.words);
    },
    refl,
  )
    where
      number : ℤ
      number = get_or around.input passing.taken (pos 0)

      memory : Memory
      memory = written (Item output.channel (to 0)) number passing.memory

      first_size : length (at_port_0 (seen 0) 0) ≡ 1
      first_size = ap length (at_first (seen 0) ∙ sees)

      reads : moves_done around (pos i) (read_moves network phase node (Some output)) passing
          ≡ Ok (record passing { memory = memory; taken = passing.taken + 1 })
      reads =
          ap (λ r. result_and_then (result_and_then r (λ place.
          result_and_then (next_number around.input passing.taken) (λ number.
          Ok (record passing {
            memory = written (Item output.channel place) number passing.memory;
          })))) (moves_done around (pos i) (Take ∷ [])))
          (item_at around output (pos i) (to 0) (finds.given_place 0 output at)
          (omega (arith, finds.given_room 0 output at, first_size)))
          ∙ ap (λ t. result_and_then (result_and_then (cond t (Ok number) (Err Undefined))
          (λ number.
          Ok (record passing {
            memory = written (Item output.channel (to 0)) number passing.memory;
          }))) (moves_done around (pos i) (Take ∷ [])))
          (lt-ltb passing.taken (length around.input) within)

      given_items : (port : ℕ) (items : Items) → given_at network phase node port ≡ Some items
          → (k : ℕ) → k < length (at_port_0 (seen 0) port)
          → memory.cells (Item items.channel (to port + k))
          ≡ get_or (at_port_0 (seen 0) port) k (pos 0)
      given_items zero items given zero lt =
          let one : items ≡ output = same_items items output (sym given ∙ at) in
          let here : to 0 + 0 ≡ to 0 = omega arith in
          ap₂ (λ (t : Items) p. memory.cells (Item t.channel p)) one here
          ∙ put_in (Item output.channel (to 0)) number passing.memory
          ∙ sym (ap (λ l. get_or l 0 (pos 0)) (at_first (seen 0) ∙ sees))
      given_items zero items given (suc k) lt = absurd (omega (arith, lt, first_size))
      given_items (suc port) items given k lt =
          absurd (omega (arith, lt, ap length (at_others (seen 0) port)))

  writer_passes : (text : List ℕ) → Finds (λ port. []) → length (seen 0) ≡ 1 → (input : Items)
      → taken_at network phase node 0 ≡ Some input
      → Passes (λ port. []) (map line_of (seen 0)) 0
      (node_moves network phase node (graphs.FileWriter text))
  writer_passes text finds size input input_is = (
    record passing { memory = memory },
    writes,
    record {
      items = λ port items at k lt. absurd (omega (arith, lt));
      kept = λ cell apart. refl;
      words = ap (λ l. passing.memory.words ++ map line_of l) (sym sees);
    },
    omega arith,
  )
    where
      item : ℤ
      item = get_or (seen 0) 0 (pos 0)

      sees : seen 0 ≡ item ∷ []
      sees = only_one (seen 0) size

      memory : Memory
      memory = record passing.memory { words = passing.memory.words ++ line_of item ∷ [] }

      there : passing.memory.cells (Item input.channel (from 0)) ≡ item
      there =
          let here : from 0 ≡ from 0 + 0 = omega arith in
          ap (λ p. passing.memory.cells (Item input.channel p)) here
          ∙ finds.finds 0 input input_is 0 (omega (arith, size))

      prints : ℤ → Passing
      prints value = record passing {
        memory = record passing.memory { words = passing.memory.words ++ line_of value ∷ [] };
      }

      writes : moves_done around (pos i) (node_moves network phase node (graphs.FileWriter text))
          passing ≡ Ok (record passing { memory = memory })
      writes =
          ap (λ o. moves_done around (pos i) (line_moves network phase node o) passing) input_is
          ∙ ap (λ r. result_and_then (result_and_then r (λ t.
          Ok (prints (passing.memory.cells (Item input.channel t)))))
          (moves_done around (pos i) []))
          (item_at around input (pos i) (from 0) (finds.taken_place 0 input input_is)
          (omega (arith, finds.taken_room 0 input input_is, size)))
          ∙ ap (λ v. Ok (prints v)) there

pub passing_nodes_fire : PassingNodesFire
passing_nodes_fire network phase node graphs.Identity around i fields seen from to passing is sees
    wired reads =
    λ finds. let input = wired 0 refl in
    identity_passes network phase node around i seen from to passing finds (sees 0 (omega arith))
    input.0 input.1
passing_nodes_fire network phase node (graphs.FileReader text) around i fields seen from to passing
    is sees wired reads =
    λ finds. reader_passes network phase node around i seen from to passing text finds reads.0
    reads.1
    (given_at network phase node 0) refl
passing_nodes_fire network phase node (graphs.FileWriter text) around i fields seen from to passing
    is sees wired reads =
    λ finds. let input = wired 0 refl in
    writer_passes network phase node around i seen from to passing text finds
    (sees 0 (omega arith)) input.0 input.1
passing_nodes_fire network phase node (graphs.Splitter (Duplicate carried)) around i fields seen
    from to passing is sees wired reads =
    λ finds. let input = wired 0 refl in
    duplicate_passes network phase node around i seen from to passing carried finds
    (sees 0 (omega arith)) input.0 input.1
passing_nodes_fire network phase node (graphs.Splitter (Roundrobin weights)) around i fields seen
    from to passing is sees wired reads =
    λ finds. let input = wired 0 refl in
    roundrobin_passes network phase node around i seen from to passing weights finds
    (sees 0 (omega arith)) input.0 input.1
passing_nodes_fire network phase node (graphs.Joiner weights) around i fields seen from to passing
    is sees wired reads =
    λ finds. joiner_passes network phase node around i seen from to passing weights finds sees
    (λ port lt some. wired port (lt-ltb 0 (slice_index weights port) some))
    (given_at network phase node 0) refl
passing_nodes_fire network phase node (graphs.Filter name filter) around i fields seen from to
    passing is sees wired reads = absurd is
passing_nodes_fire network phase node (graphs.Scatter fission) around i fields seen from to passing
    is sees wired reads = absurd is
passing_nodes_fire network phase node (graphs.Copy copied fission) around i fields seen from to
    passing is sees wired reads = absurd is
passing_nodes_fire network phase node (graphs.Gather fission) around i fields seen from to passing
    is sees wired reads = absurd is
