-- A firing of a filter in a program, by the law on its written text.
use Rattle.std.proofs.Common.{◌≡◌, ℕ, suc, ◌+◌, ◌<◌, ◌≤◌, ℤ, pos, cond}
use Rattle.std.proofs.Common.{List, length, Option, Some, None, Ok, Err, refl, sym, ap}
use Rattle.std.proofs.Common.{◌∙◌, subst, subst₂, arith, get_or}
use Rattle.std.proofs.lemmas.Bool.{lt-ltb, le-leb, ne_eqb, eq-eqb}
use Rattle.strc_lex_names.specs.Results.{result_and_then}
use Rattle.strc_parse_tree.specs.declared.tree.FilterTree.{FilterTree}
use Rattle.strc_work_meaning.specs.declared.body.Body.TheVariants as body
use Rattle.strc_work_meaning.specs.declared.fault.TheConstants.{CALL_LIMIT}
use Rattle.strc_work_meaning.specs.Filters.{filter_of}
use Rattle.strc_work_meaning.specs.Firing.{Fired, fired, turn_limit}
use Rattle.strc_emit_c.specs.Meaning.{Item, Memory, Undefined, Standing}
use Rattle.strc_emit_meaning.specs.Refinement.{Refines}
use Rattle.strc_emit_firings.specs.Functions.{helpers_done, firing_done, without_items}
use Rattle.strc_emit_firings.specs.Firings.{FiringShows}
use Rattle.strc_emit_firings.proofs.Composing.{refines_after}
use Rattle.strc_emit_bodies.specs.Spelling.{BodyFunction, FilterFunctions}
use Rattle.strc_emit_bodies.specs.Bodies.{FiresIn, IsFunctionOf}
use Rattle.strc_emit_bodies.proofs.Fires.{texts_fire}
use Rattle.strc_emit_moves.specs.declared.places.Items.{Items}
use Rattle.strc_emit_moves.specs.declared.places.Phase.{Phase}
use Rattle.strc_emit_moves.specs.Places.{taken_at, given_at}
use Rattle.strc_emit_passes.specs.Meaning.{place_value}
use Rattle.strc_emit_runs.specs.Running.{Program, Running, rooms_in, room_of, no_input, no_output}
use Rattle.strc_emit_runs.specs.Running.{pointer, place_up_to, body_done, memory_of, memory_left}
use Rattle.strc_emit_runs.specs.Running.{work_done}
use Rattle.strc_emit_runs.specs.Works.{HasFilter, side, stand_at, FindsBody, BodyShows, WorksFire}
use Rattle.strc_emit_runs.specs.Works.{PreworksFire}
use Rattle.strc_emit_runs.specs.Running.{first_source, first_target}
use Rattle.strc_emit_moves.specs.declared.places.Phase.TheVariants as phase
use Rattle.strc_emit_moves.specs.Places.{enqueued_items}
use Rattle.strc_work_meaning.specs.declared.body.Body.{Body}

module _ (program : Program) where
  place_is : (room place : ℕ) → place ≤ room → place_up_to room (pos place) ≡ Ok place
  place_is room place le = ap (λ t. cond t (Ok place) (Err Undefined)) (le-leb place room le)

  -- the address at a port
  pointer_is : (o : Option Items) (nothing i place count : ℕ)
      → ((items : Items) → o ≡ Some items → place_value items (pos i) ≡ Ok (pos place))
      → ((items : Items) → o ≡ Some items → place + count ≤ rooms_in program items.channel)
      → pointer program o nothing (pos i) ≡ Ok (side o nothing place)
  pointer_is None nothing i place count at fits = refl
  pointer_is (Some items) nothing i place count at fits =
      ap (λ r. result_and_then r (λ value. result_and_then
      (place_up_to (rooms_in program items.channel) value) (λ p. Ok (items.channel, p))))
      (at items refl)
      ∙ ap (λ r. result_and_then r (λ p. Ok (items.channel, p)))
      (place_is (rooms_in program items.channel) place (omega (arith, fits items refl)))

  -- and the room there
  room_is : (channel : ℕ) → channel < length program.network.channels.now
      → room_of program channel ≡ rooms_in program channel
  room_is channel lt = ap (λ t. cond t (rooms_in program channel) 0)
      (lt-ltb channel (length program.network.channels.now) lt)

  fits_in : (o : Option Items) (nothing place count : ℕ)
      → ((items : Items) → o ≡ Some items → items.channel < length program.network.channels.now)
      → ((items : Items) → o ≡ Some items → place + count ≤ rooms_in program items.channel)
      → (o ≡ None → count ≡ 0)
      → (side o nothing place).1 + count ≤ room_of program (side o nothing place).0
  fits_in None nothing place count there fits none = omega (arith, none refl)
  fits_in (Some items) nothing place count there fits none =
      omega (arith, fits items refl, room_is items.channel (there items refl))

  sides_apart : (o other : Option Items) (from to : ℕ)
      → ((items : Items) → o ≡ Some items → items.channel < length program.network.channels.now)
      → ((items : Items) → other ≡ Some items
      → items.channel < length program.network.channels.now)
      → ((items others : Items) → o ≡ Some items → other ≡ Some others
      → items.channel ≡ others.channel → ⊥)
      → (side o (no_input program) from).0 ≡ (side other (no_output program) to).0 → ⊥
  sides_apart None None from to first second apart e = omega (arith, e)
  sides_apart None (Some items) from to first second apart e =
      omega (arith, e, second items refl)
  sides_apart (Some items) None from to first second apart e =
      omega (arith, e, first items refl)
  sides_apart (Some items) (Some others) from to first second apart e =
      apart items others refl refl e

module _ (program : Program) (when : Phase) (node : ℕ) (filter : FilterTree) (which : Body)
    (function : BodyFunction) (fields window : List ℤ) (from to : ℕ) (running : Running)
    (has : HasFilter program node filter) (enough : turn_limit < program.fuel)
    (is : IsFunctionOf which (program.functions node) function)
    (finds : FindsBody program when node function fields window from to running) where
  abbrev stand : Standing
  stand = stand_at program when node function from to

  abbrev memory : Memory
  memory = memory_of running node

  ahead : (o : Option Items) → taken_at program.network when node 0 ≡ o → (place : ℕ)
      → place < function.function.peek
      → running.cells (Item (side o (no_input program) from).0
      ((side o (no_input program) from).1 + place))
      ≡ get_or window place (pos 0)
  ahead None at place lt = absurd (omega (arith, lt, finds.taken_none at))
  ahead (Some items) at place lt =
      finds.window_is items at place (omega (arith, lt, finds.whole))

  fires : FiresIn filter function stand fields window memory
  fires = record {
    same = refl;
    apart = ne_eqb stand.source stand.target
        (sides_apart program (taken_at program.network when node 0)
        (given_at program.network when node 0) from to finds.taken_there finds.given_there
        finds.apart);
    few_read = finds.few_read;
    few_written = finds.few_written;
    reads = fits_in program (taken_at program.network when node 0) (no_input program) from
        function.function.peek finds.taken_there finds.taken_room finds.taken_none;
    writes = fits_in program (given_at program.network when node 0) (no_output program) to
        function.function.pushes finds.given_there finds.given_room finds.given_none;
    count = finds.count;
    held = finds.held;
    whole = finds.whole;
    ahead = ahead (taken_at program.network when node 0) refl;
  }

  abbrev given_by : FilterFunctions → Type 0
  given_by functions = Refines (FiringShows stand function.function.pushes memory)
      (fired (filter_of filter) which fields window)
      (firing_done program.fuel (helpers_done program.fuel (without_items stand) program.unset
      functions.helpers (suc CALL_LIMIT)) stand program.unset function.statements memory)

  fires_as_written : given_by (program.functions node)
  fires_as_written =
      subst given_by (sym has.functions)
      (texts_fire node filter has.values has.text has.written has.linked has.known which
      function (subst (λ f. IsFunctionOf which f function) has.functions is) stand program.unset
      fields window memory program.fuel fires enough)

  left_shows : (given : Fired) (after : Memory)
      → FiringShows stand function.function.pushes memory given after
      → BodyShows program when node function from to running given (memory_left running node after)
  left_shows given after shows = record {
    shows = subst (λ l. FiringShows stand function.function.pushes memory given
        (record { cells = after.cells; words = l }))
        (sym (ap (λ t. cond t after.words (running.tapes node)) (eq-eqb node node refl))) shows;
    tapes = λ other differ. ap (λ t. cond t after.words (running.tapes other))
        (ne_eqb other node differ);
    taken = refl;
    round = refl;
  }

  body_does : Refines (BodyShows program when node function from to running)
      (fired (filter_of filter) which fields window)
      (body_done program node function
      (side (taken_at program.network when node 0) (no_input program) from)
      (side (given_at program.network when node 0) (no_output program) to) running)
  body_does =
      refines_after (FiringShows stand function.function.pushes memory)
      (BodyShows program when node function from to running)
      (fired (filter_of filter) which fields window)
      (firing_done program.fuel (helpers_done program.fuel (without_items stand) program.unset
      (program.functions node).helpers (suc CALL_LIMIT)) stand program.unset function.statements
      memory) (λ after. Ok (memory_left running node after)) fires_as_written
      (λ given after shows. (memory_left running node after, refl, left_shows given after shows))

work_is : (program : Program) (when : Phase) (node : ℕ) (i : ℕ) (fields window : List ℤ)
    (from to : ℕ) (running : Running)
    → ((items : Items) → taken_at program.network when node 0 ≡ Some items
    → place_value items (pos i) ≡ Ok (pos from))
    → ((items : Items) → given_at program.network when node 0 ≡ Some items
    → place_value items (pos i) ≡ Ok (pos to))
    → FindsBody program when node (program.functions node).work fields window from to running
    → work_done program when node (pos i) running
    ≡ body_done program node (program.functions node).work
    (side (taken_at program.network when node 0) (no_input program) from)
    (side (given_at program.network when node 0) (no_output program) to) running
work_is program when node i fields window from to running taken_place given_place finds =
    let function : BodyFunction = (program.functions node).work in
    ap (λ r. result_and_then r (λ s. result_and_then
    (pointer program (given_at program.network when node 0) (no_output program) (pos i))
    (λ t. body_done program node function s t running)))
    (pointer_is program (taken_at program.network when node 0) (no_input program) i from
    function.function.peek taken_place finds.taken_room)
    ∙ ap (λ r. result_and_then r (λ t. body_done program node function
    (side (taken_at program.network when node 0) (no_input program) from) t running))
    (pointer_is program (given_at program.network when node 0) (no_output program) i to
    function.function.pushes given_place finds.given_room)

pub works_fire : WorksFire
works_fire program when node filter i fields window from to running has enough taken_place
    given_place finds =
    subst (λ r. Refines
    (BodyShows program when node (program.functions node).work from to running)
    (fired (filter_of filter) body.Work fields window) r)
    (sym (work_is program when node i fields window from to running taken_place given_place finds))
    (body_does program when node filter body.Work (program.functions node).work fields window from
    to running has enough refl finds)

-- the sides of a prework
source_is : (program : Program) (o : Option Items)
    → first_source program o ≡ side o (no_input program) 0
source_is program None = refl
source_is program (Some items) = refl

target_is : (program : Program) (o : Option Items) (to : ℕ)
    → ((items : Items) → o ≡ Some items
    → to ≡ length (enqueued_items program.network.channels.now items.channel))
    → first_target program o ≡ side o (no_output program) to
target_is program None to at = refl
target_is program (Some items) to at = ap (λ p. (items.channel, p)) (sym (at items refl))

pub preworks_fire : PreworksFire
preworks_fire program node filter function fields window to running has enough is at finds =
    subst₂ (λ s t. Refines (BodyShows program phase.Startup node function 0 to running)
    (fired (filter_of filter) body.Prework fields window)
    (body_done program node function s t running))
    (sym (source_is program (taken_at program.network phase.Startup node 0)))
    (sym (target_is program (given_at program.network phase.Startup node 0) to at))
    (body_does program phase.Startup node filter body.Prework function fields window 0 to running
    has enough is finds)
