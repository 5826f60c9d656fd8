-- Moves that deal a port's items out to others.
use Rattle.std.proofs.Common.{◌≡◌, ℕ, zero, suc, ◌+◌, ◌<◌, ◌≤◌, pos, List, [], length}
use Rattle.std.proofs.Common.{get_or, Option, Some, None, Ok, refl, sym, ap, ap₂, ◌∙◌, subst}
use Rattle.std.proofs.Common.{arith, ◌⊎◌, inl, inr}
use Rattle.std.specs.Option.{option_map}
use Rattle.std.proofs.lemmas.Bool.{cases_eq}
use Rattle.std.specs.Prelude.{unwrap_or}
use Rattle.strc_lex_names.specs.Results.{result_and_then}
use Rattle.strc_elab_dataflow.specs.Node.{ByPort}
use Rattle.strc_emit_c.specs.Meaning.{Cell, Item}
use Rattle.strc_emit_moves.specs.declared.places.Network.{Network}
use Rattle.strc_emit_moves.specs.declared.places.Items.{Items}
use Rattle.strc_emit_moves.specs.declared.places.Phase.{Phase}
use Rattle.strc_emit_moves.specs.Places.{taken_at, given_at}
use Rattle.strc_emit_moves.specs.Moves.{later}
use Rattle.strc_emit_passes.specs.Moves.{Move, Pass, between_moves, moves_below}
use Rattle.strc_emit_passes.specs.Meaning.{Passing, Surroundings, copied, move_done, moves_done}
use Rattle.strc_emit_passes.specs.Passing.{FindsItems}
use Rattle.strc_emit_passes.proofs.Copying.{channels_apart, copied_kept, copied_at, copied_words}
use Rattle.strc_emit_passes.proofs.Copying.{later_place, pass_is, moves_joined}

pub same_items : (a b : Items) → Some a ≡ Some b → a ≡ b
same_items a b e = ap (λ o. unwrap_or o a) e

module _ (network : Network) (phase : Phase) (node : ℕ) (around : Surroundings) (i : ℕ)
    (seen pushes : ByPort) (from to : ℕ → ℕ) (before : Passing)
    (finds : FindsItems network phase node around i seen pushes from to before.memory)
    (input : Items) (input_is : taken_at network phase node 0 ≡ Some input)
    (offset amount : ℕ → ℕ) (bound : ℕ)
    (share : (port : ℕ) → port < bound → offset port + amount port ≤ length (seen 0))
    (sizes : (port : ℕ) → port < bound → length (pushes port) ≡ amount port)
    (gives : (port k : ℕ) → port < bound → k < amount port
    → get_or (pushes port) k (pos 0) ≡ get_or (seen 0) (offset port + k) (pos 0)) where
  abbrev pub moves : ℕ → List Move
  moves port = between_moves (given_at network phase node port)
      (option_map (later (offset port)) (taken_at network phase node 0)) (amount port)

  -- what is done once the ports below one have theirs
  pub record Dealt (count : ℕ) (after : Passing) : Type 0 where
    pub items : (port : ℕ) (items : Items) → port < count
        → given_at network phase node port ≡ Some items → (k : ℕ) → k < length (pushes port)
        → after.memory.cells (Item items.channel (to port + k)) ≡ get_or (pushes port) k (pos 0)
    pub kept : (cell : Cell)
        → ((port : ℕ) (items : Items) (k : ℕ) → port < count
        → given_at network phase node port ≡ Some items → k < length (pushes port)
        → cell ≡ Item items.channel (to port + k) → ⊥)
        → after.memory.cells cell ≡ before.memory.cells cell
    pub words : after.memory.words ≡ before.memory.words
    pub taken : after.taken ≡ before.taken

  -- a port that is given nothing
  none_more : (count : ℕ) (after : Passing) → Dealt count after
      → ((items : Items) (k : ℕ) → given_at network phase node count ≡ Some items
      → k < length (pushes count) → ⊥) → Dealt (suc count) after
  none_more count after dealt none = record {
    items = λ port items lt at k less. by port items lt at k less (cases_eq port count);
    kept = λ cell apart. dealt.kept cell
        (λ port items k lt at less e. apart port items k (omega (arith, lt)) at less e);
    words = dealt.words;
    taken = dealt.taken;
  }
    where
      by : (port : ℕ) (items : Items) → port < suc count
          → given_at network phase node port ≡ Some items → (k : ℕ) → k < length (pushes port)
          → (port ≡ count) ⊎ (port ≡ count → ⊥)
          → after.memory.cells (Item items.channel (to port + k)) ≡ get_or (pushes port) k (pos 0)
      by port items lt at k less (inl is) =
          absurd (none items k (ap (given_at network phase node) (sym is) ∙ at)
          (subst (λ p. k < length (pushes p)) is less))
      by port items lt at k less (inr differ) =
          dealt.items port items (omega (arith, lt, differ)) at k less

  -- one that is given some
  module _ (count : ℕ) (within : count < bound) (last : Passing) (dealt : Dealt count last)
      (target : Items) (at : given_at network phase node count ≡ Some target) (m : ℕ)
      (many : amount count ≡ suc m) where
    abbrev place : ℕ
    place = to count

    abbrev there : ℕ
    there = from 0 + offset count

    abbrev next : Passing
    next = record last {
      memory = copied target.channel place input.channel there (suc m) last.memory;
    }

    differ : target.channel ≡ input.channel → ⊥
    differ = finds.apart 0 count input target input_is at

    passes : move_done around (pos i) (Pass target (later (offset count) input) (suc m)) last
        ≡ Ok next
    passes =
        pass_is around (pos i) target (later (offset count) input) place there m last
        (finds.given_place count target at)
        (later_place input (pos i) (offset count) (from 0) (finds.taken_place 0 input input_is)
        (omega (
          arith,
          finds.taken_room 0 input input_is,
          share count within,
          many,
          finds.small input.channel,
        )))
        (omega (arith, finds.given_room count target at, sizes count within, many))
        (omega (arith, finds.taken_room 0 input input_is, share count within, many)) differ

    -- the input's items are no port's
    kept_input : (k : ℕ) → last.memory.cells (Item input.channel (there + k))
        ≡ before.memory.cells (Item input.channel (there + k))
    kept_input k =
        dealt.kept (Item input.channel (there + k))
        (λ port items place' lt given less e. channels_apart input.channel (there + k) items.channel
        (to port + place') (λ same. finds.apart 0 port input items input_is given (sym same)) e)

    deals : Dealt (suc count) next
    deals = record {
      items = λ port items lt given k less. by port items lt given k less (cases_eq port count);
      kept = λ cell apart.
          copied_kept target.channel place input.channel there (suc m) last.memory cell
          (λ k lt e. apart count target k (omega arith) at
          (omega (arith, lt, sizes count within, many)) e)
          ∙ dealt.kept cell (λ port items k lt given less e.
          apart port items k (omega (arith, lt)) given less e);
      words = copied_words target.channel place input.channel there (suc m) last.memory
          ∙ dealt.words;
      taken = dealt.taken;
    }
      where
        by : (port : ℕ) (items : Items) → port < suc count
            → given_at network phase node port ≡ Some items → (k : ℕ) → k < length (pushes port)
            → (port ≡ count) ⊎ (port ≡ count → ⊥)
            → next.memory.cells (Item items.channel (to port + k))
            ≡ get_or (pushes port) k (pos 0)
        by port items lt given k less (inl is) =
            let one : items ≡ target =
            same_items items target (sym given ∙ ap (given_at network phase node) is ∙ at) in
            let fits : k < length (pushes count) = subst (λ p. k < length (pushes p)) is less in
            let number : from 0 + (offset count + k) ≡ there + k = omega arith in
            ap₂ (λ (t : Items) p. next.memory.cells (Item t.channel (to p + k))) one is
            ∙ copied_at target.channel place input.channel there (suc m) last.memory differ k
            (omega (arith, fits, sizes count within, many))
            ∙ kept_input k
            ∙ ap (λ p. before.memory.cells (Item input.channel p)) (sym number)
            ∙ finds.finds 0 input input_is (offset count + k)
            (omega (arith, fits, sizes count within, share count within))
            ∙ sym (gives count k within (omega (arith, fits, sizes count within)))
            ∙ ap (λ p. get_or (pushes p) k (pos 0)) (sym is)
        by port items lt given k less (inr other) =
            copied_kept target.channel place input.channel there (suc m) last.memory
            (Item items.channel (to port + k))
            (λ k' lt' e. channels_apart items.channel (to port + k) target.channel (place + k')
            (finds.own port count items target given at other) e)
            ∙ dealt.items port items (omega (arith, lt, other)) given k less

  -- a port's moves
  one_more : (count : ℕ) → count < bound → (last : Passing) → Dealt count last
      → (o : Option Items) → given_at network phase node count ≡ o → (n : ℕ) → amount count ≡ n
      → (after : Passing)
      × (moves_done around (pos i) (between_moves o (Some (later (offset count) input)) n) last
      ≡ Ok after) × Dealt (suc count) after
  one_more count within last dealt None at n many =
      (last, refl, none_more count last dealt (λ items k given less. none items (sym at ∙ given)))
    where
      none : (items : Items) → None ≡ Some items → ⊥
      none items e = cc
  one_more count within last dealt (Some target) at zero many = (
    last,
    refl,
    none_more count last dealt
        (λ items k given less. omega (arith, less, sizes count within, many)),
  )
  one_more count within last dealt (Some target) at (suc m) many = (
    next count within last dealt target at m many,
    ap (λ r. result_and_then r (moves_done around (pos i) []))
        (passes count within last dealt target at m many),
    deals count within last dealt target at m many,
  )

  pub deal : (count : ℕ) → count ≤ bound
      → (after : Passing)
      × (moves_done around (pos i) (moves_below moves count) before ≡ Ok after)
      × Dealt count after
  deal zero within = (
    before,
    refl,
    record {
      items = λ port items lt at k less. absurd (omega (arith, lt));
      kept = λ cell apart. refl;
      words = refl;
      taken = refl;
    },
  )
  deal (suc count) within =
      let last = deal count (omega (arith, within)) in
      let more = one_more count (omega (arith, within)) last.0 last.2
      (given_at network phase node count) refl (amount count) refl in (
        more.0,
        moves_joined around (pos i) (moves_below moves count) (moves count) before
            ∙ ap (λ r. result_and_then r (moves_done around (pos i) (moves count))) last.1
            ∙ ap (λ o. moves_done around (pos i) (between_moves (given_at network phase node count)
            (option_map (later (offset count)) o) (amount count)) last.0) input_is
            ∙ more.1,
        more.2,
      )
