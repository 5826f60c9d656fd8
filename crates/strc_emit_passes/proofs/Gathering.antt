-- Moves that gather the items of ports into one.
use Rattle.std.proofs.Common.{None, Option}
use Rattle.std.proofs.Common.{◌≡◌, ℕ, zero, suc, ◌+◌, ◌-◌, ◌<◌, ◌≤◌, pos, List, []}
use Rattle.std.proofs.Common.{length, get_or, Some, Ok, refl, sym, ap, ◌∙◌}
use Rattle.std.proofs.Common.{arith, ◌⊎◌, inl, inr}
use Rattle.std.specs.Option.{option_map}
use Rattle.std.proofs.lemmas.Bool.{cases_lt}
use Rattle.strc_lex_names.specs.Results.{result_and_then}
use Rattle.strc_elab_dataflow.specs.Node.{ByPort}
use Rattle.strc_emit_c.specs.Meaning.{Cell, Item}
use Rattle.strc_emit_moves.specs.declared.places.Network.{Network}
use Rattle.strc_emit_moves.specs.declared.places.Items.{Items}
use Rattle.strc_emit_moves.specs.declared.places.Phase.{Phase}
use Rattle.strc_emit_moves.specs.Places.{taken_at, given_at}
use Rattle.strc_emit_moves.specs.Moves.{later}
use Rattle.strc_emit_passes.specs.Moves.{Move, Pass, between_moves, moves_below}
use Rattle.strc_emit_passes.specs.Meaning.{Passing, Surroundings, copied, move_done, moves_done}
use Rattle.strc_emit_passes.specs.Passing.{FindsItems}
use Rattle.strc_emit_passes.proofs.Copying.{channels_apart, places_apart, copied_kept, copied_at}
use Rattle.strc_emit_passes.proofs.Copying.{copied_words, later_place, pass_is, moves_joined}

module _ (network : Network) (phase : Phase) (node : ℕ) (around : Surroundings) (i : ℕ)
    (seen pushes : ByPort) (from to : ℕ → ℕ) (before : Passing)
    (finds : FindsItems network phase node around i seen pushes from to before.memory)
    (output : Items) (output_is : given_at network phase node 0 ≡ Some output)
    (offset amount : ℕ → ℕ) (bound : ℕ) (begins : offset 0 ≡ 0)
    (grows : (port : ℕ) → port < bound → offset (suc port) ≡ offset port + amount port)
    (share : (port : ℕ) → port < bound → offset port + amount port ≤ length (pushes 0))
    (sizes : (port : ℕ) → port < bound → length (seen port) ≡ amount port)
    (wired : (port : ℕ) → port < bound → 0 < amount port
    → (items : Items) × (taken_at network phase node port ≡ Some items))
    (gives : (port k : ℕ) → port < bound → k < amount port
    → get_or (pushes 0) (offset port + k) (pos 0) ≡ get_or (seen port) k (pos 0)) where
  abbrev pub moves : ℕ → List Move
  moves port = between_moves
      (option_map (later (offset port)) (given_at network phase node 0))
      (taken_at network phase node port) (amount port)

  -- what is done once the ports below one have given theirs
  pub record Gathered (count : ℕ) (after : Passing) : Type 0 where
    pub items : (k : ℕ) → k < offset count
        → after.memory.cells (Item output.channel (to 0 + k)) ≡ get_or (pushes 0) k (pos 0)
    pub kept : (cell : Cell)
        → ((k : ℕ) → k < offset count → cell ≡ Item output.channel (to 0 + k) → ⊥)
        → after.memory.cells cell ≡ before.memory.cells cell
    pub words : after.memory.words ≡ before.memory.words
    pub taken : after.taken ≡ before.taken

  module _ (count : ℕ) (within : count < bound) (last : Passing) (gathered : Gathered count last)
      (source : Items) (at : taken_at network phase node count ≡ Some source) (m : ℕ)
      (many : amount count ≡ suc m) where
    abbrev place : ℕ
    place = to 0 + offset count

    abbrev there : ℕ
    there = from count

    abbrev next : Passing
    next = record last {
      memory = copied output.channel place source.channel there (suc m) last.memory;
    }

    differ : output.channel ≡ source.channel → ⊥
    differ = finds.apart count 0 source output at output_is

    passes : move_done around (pos i) (Pass (later (offset count) output) source (suc m)) last
        ≡ Ok next
    passes =
        pass_is around (pos i) (later (offset count) output) source place there m last
        (later_place output (pos i) (offset count) (to 0) (finds.given_place 0 output output_is)
        (omega (
          arith,
          finds.given_room 0 output output_is,
          share count within,
          many,
          finds.small output.channel,
        )))
        (finds.taken_place count source at)
        (omega (arith, finds.given_room 0 output output_is, share count within, many))
        (omega (arith, finds.taken_room count source at, sizes count within, many)) differ

    kept_source : (k : ℕ) → last.memory.cells (Item source.channel (there + k))
        ≡ before.memory.cells (Item source.channel (there + k))
    kept_source k =
        gathered.kept (Item source.channel (there + k))
        (λ k' lt e. channels_apart source.channel (there + k) output.channel (to 0 + k')
        (λ same. differ (sym same)) e)

    gathers : Gathered (suc count) next
    gathers = record {
      items = λ k lt. by k lt (cases_lt k (offset count));
      kept = λ cell apart.
          copied_kept output.channel place source.channel there (suc m) last.memory cell
          (λ k lt e. let number : place + k ≡ to 0 + (offset count + k) = omega arith in
          apart (offset count + k) (omega (arith, lt, grows count within, many))
          (e ∙ ap (Item output.channel) number))
          ∙ gathered.kept cell
          (λ k lt e. apart k (omega (arith, lt, grows count within)) e);
      words = copied_words output.channel place source.channel there (suc m) last.memory
          ∙ gathered.words;
      taken = gathered.taken;
    }
      where
        by : (k : ℕ) → k < offset (suc count) → (k < offset count) ⊎ (offset count ≤ k)
            → next.memory.cells (Item output.channel (to 0 + k)) ≡ get_or (pushes 0) k (pos 0)
        by k lt (inl less) =
            copied_kept output.channel place source.channel there (suc m) last.memory
            (Item output.channel (to 0 + k))
            (λ k' lt' e. places_apart output.channel (to 0 + k) (place + k')
            (λ same. omega (arith, same, less)) e)
            ∙ gathered.items k less
        by k lt (inr more) =
            let j : ℕ = k - offset count in
            let number : to 0 + k ≡ place + j = omega (arith, more) in
            let whole : offset count + j ≡ k = omega (arith, more) in
            let fits : j < amount count = omega (arith, lt, more, grows count within) in
            ap (λ p. next.memory.cells (Item output.channel p)) number
            ∙ copied_at output.channel place source.channel there (suc m) last.memory differ j
            (omega (arith, fits, many))
            ∙ kept_source j
            ∙ finds.finds count source at j (omega (arith, fits, sizes count within))
            ∙ sym (gives count j within fits)
            ∙ ap (λ p. get_or (pushes 0) p (pos 0)) whole

  none_more : (count : ℕ) → count < bound → (last : Passing) → Gathered count last
      → amount count ≡ 0 → Gathered (suc count) last
  none_more count within last gathered none = record {
    items = λ k lt. gathered.items k (omega (arith, lt, grows count within, none));
    kept = λ cell apart. gathered.kept cell
        (λ k lt e. apart k (omega (arith, lt, grows count within)) e);
    words = gathered.words;
    taken = gathered.taken;
  }

  none_some : (items : Items) → None ≡ Some items → ⊥
  none_some items e = cc

  one_more : (count : ℕ) → count < bound → (last : Passing) → Gathered count last
      → (o : Option Items) → taken_at network phase node count ≡ o → (n : ℕ) → amount count ≡ n
      → (after : Passing)
      × (moves_done around (pos i) (between_moves (Some (later (offset count) output)) o n) last
      ≡ Ok after) × Gathered (suc count) after
  one_more count within last gathered None at zero many =
      (last, refl, none_more count within last gathered many)
  one_more count within last gathered (Some source) at zero many =
      (last, refl, none_more count within last gathered many)
  one_more count within last gathered None at (suc m) many =
      let there = wired count within (omega (arith, many)) in
      absurd (none_some there.0 (sym at ∙ there.1))
  one_more count within last gathered (Some source) at (suc m) many = (
    next count within last gathered source at m many,
    ap (λ r. result_and_then r (moves_done around (pos i) []))
        (passes count within last gathered source at m many),
    gathers count within last gathered source at m many,
  )

  pub gather : (count : ℕ) → count ≤ bound
      → (after : Passing)
      × (moves_done around (pos i) (moves_below moves count) before ≡ Ok after)
      × Gathered count after
  gather zero within = (
    before,
    refl,
    record {
      items = λ k lt. absurd (omega (arith, lt, begins));
      kept = λ cell apart. refl;
      words = refl;
      taken = refl;
    },
  )
  gather (suc count) within =
      let last = gather count (omega (arith, within)) in
      let more = one_more count (omega (arith, within)) last.0 last.2
      (taken_at network phase node count) refl (amount count) refl in (
        more.0,
        moves_joined around (pos i) (moves_below moves count) (moves count) before
            ∙ ap (λ r. result_and_then r (moves_done around (pos i) (moves count))) last.1
            ∙ ap (λ o. moves_done around (pos i)
            (between_moves (option_map (later (offset count)) o)
            (taken_at network phase node count) (amount count)) last.0) output_is
            ∙ more.1,
        more.2,
      )
