-- Items in hand, as if they had joined their ring.
use Rattle.std.proofs.Common.{◌≡◌, refl, sym, ap, ◌∙◌, subst, ℕ, ◌-◌, ◌<◌, ◌≤◌, ℤ, List, []}
use Rattle.std.proofs.Common.{◌++◌, length, take, set, get_or, arith, Bool, true}
use Rattle.std.proofs.Common.{Ok, Err}
use Rattle.std.specs.Prelude.{Option, Some, IfSome, nat_le}
use Rattle.std.proofs.lemmas.Bool.{le-leb, lt-leb}
use Rattle.std.proofs.lemmas.List.{drop_all, get_or-set_same, length-take-le, set-get_or, set-set}
use Rattle.std.proofs.lemmas.List.{get_or_default, take_all}
use Rattle.circular_buffer.specs.Buffer.{buffer}
use Rattle.strc_work_meaning.specs.Filters as filters
use Rattle.strc_work_meaning.specs.Firing.{fired}
use Rattle.strc_work_meaning.specs.declared.body.Body.{Body}
use Rattle.strc_work_meaning.specs.declared.fault.Halt.{Halt}
use Rattle.strc_work_meaning.specs.declared.fault.Halt.TheVariants as halt
use Rattle.strc_work_meaning.specs.declared.word.Word.{Word}
use Rattle.strc_work_instructions.specs.Running.{MoreWords}
use Rattle.strc_work.specs.Answers.{Fires, HasGiven}
use Rattle.strc_elab_graph.specs.Rates.{body_at, filter_pops}
use Rattle.strc_sched_laws.specs.Rings.{Ring, extended, given, items_at, moved, ring_at, shortened}
use Rattle.strc_sched_laws.specs.Rings.{taken}
use Rattle.strc_sched_laws.specs.Steps.{Stays, Goes, filter_after, filter_looks, filter_step}
use Rattle.strc_sched_laws.specs.Steps.{if_found}
use Rattle.strc_sched_rings.specs.Answers.{HasStepped}
use Rattle.strc_sched_machine.specs.Handing.{IsAllAt, IsHeld, with_held}
use Rattle.strc_sched_machine.specs.declared.forwarded_items.Held.{Held}

-- items that join an empty ring with room for them are all that is there
fills : (items : List ℤ) (ring : Ring) → ring.items ≡ [] → length items ≤ ring.capacity
    → extended items ring ≡ buffer items ring.capacity
fills items ring empty room =
    ap (λ (l : List ℤ). buffer (l ++ take (ring.capacity - length l) items) ring.capacity) empty
    ∙ ap (λ (l : List ℤ). buffer l ring.capacity)
    (take_all (ring.capacity - 0) items (omega (arith, room)))

module _ (port : Option ℕ) (rings : List Ring) (held : Held) (items : List ℤ)
    (is : IsHeld items rings held) (all : IsAllAt port rings held) where
  many : length (take held.count items) ≡ held.count
  many = length-take-le held.count items is.count

  there : all.ring < length rings
  there = subst (λ (p : Option ℕ). IfSome p (λ number. number < length rings)) all.own is.port

  joined_is : with_held held items rings
      ≡ set rings all.ring (buffer (take held.count items) (ring_at rings all.ring).capacity)
  joined_is =
      ap (λ (p : Option ℕ). given p (take held.count items) rings) all.own
      ∙ ap (set rings all.ring) (fills (take held.count items) (ring_at rings all.ring) all.empty
      (let e = many in let r = all.room in omega (arith, e, r)))

  -- they are what is found there
  pub all_found : items_at (with_held held items rings) port ≡ take held.count items
  all_found =
      let filled = buffer (take held.count items) (ring_at rings all.ring).capacity in
      ap (items_at (with_held held items rings)) all.here
      ∙ ap (λ (l : List Ring). (ring_at l all.ring).items) joined_is
      ∙ ap (λ (ring : Ring). ring.items)
      (get_or-set_same rings all.ring filled (buffer [] 0) there)

  -- and once all are taken, the rings are as without them
  pub all_taken : (pops : ℕ) → pops ≡ held.count
      → taken port pops (with_held held items rings) ≡ rings
  all_taken pops same =
      let ring = ring_at rings all.ring in
      let filled = buffer (take held.count items) ring.capacity in
      let filling = set rings all.ring filled in
      ap (λ (p : Option ℕ). taken p pops (with_held held items rings)) all.here
      ∙ ap (taken (Some all.ring) pops) joined_is
      ∙ ap (λ (r : Ring). set filling all.ring (shortened pops r))
      (get_or-set_same rings all.ring filled (buffer [] 0) there)
      ∙ set-set rings all.ring filled (shortened pops filled)
      ∙ ap (λ (l : List ℤ). set rings all.ring (buffer l ring.capacity))
      (drop_all pops (take held.count items) (let e = many in omega (arith, e, same))
      ∙ sym all.empty)
      ∙ set-get_or rings all.ring (buffer [] 0)

  -- those that an identity passes on are in hand for another ring
  pub handed_over : (to : Option ℕ) (count : ℕ) → held.count ≡ count
      → moved port to count (with_held held items rings) ≡ given to (take held.count items) rings
  handed_over to count same =
      let joined = with_held held items rings in
      ap (λ (l : List ℤ). given to (take count l) (taken port count joined))
      (all_found)
      ∙ ap (λ (l : List ℤ). given to l (taken port count joined))
      (take_all count (take held.count items) (let e = many in omega (arith, e, same)))
      ∙ ap (given to (take held.count items)) (all_taken count (sym same))

-- the same items in hand, by other names
pub same_held : (held : Held) (items other : List ℤ) (rings same : List Ring) → items ≡ other
    → rings ≡ same → with_held held items rings ≡ with_held held other same
same_held held items other rings same items_are rings_are =
    ap (λ (l : List ℤ). with_held held l rings) items_are
    ∙ ap (with_held held other) rings_are

module _ (filter : filters.Filter) (firing : ℕ) (fields : List ℤ) (input output : Option ℕ)
    (rings : List Ring) (held : Held) (items : List ℤ) (is : IsHeld items rings held)
    (all : IsAllAt input rings held) where
  found_all : filter_step filter firing fields input output (with_held held items rings)
      ≡ if_found (nat_le (filter_looks filter firing) (length (take held.count items)))
      (filter_after (filter_pops filter firing) input output (with_held held items rings)
      (fired filter (body_at firing) fields (take held.count items)))
  found_all = ap (λ (l : List ℤ). if_found (nat_le (filter_looks filter firing) (length l))
      (filter_after (filter_pops filter firing) input output (with_held held items rings)
      (fired filter (body_at firing) fields l)))
      (all_found input rings held items is all)

  -- a firing that looks at more stays
  pub stays_held : held.count < filter_looks filter firing
      → filter_step filter firing fields input output (with_held held items rings) ≡ Stays
  stays_held less =
      let e = length-take-le held.count items is.count in
      found_all
      ∙ ap (λ (b : Bool). if_found b (filter_after (filter_pops filter firing) input output
      (with_held held items rings) (fired filter (body_at firing) fields (take held.count items))))
      (lt-leb (filter_looks filter firing) (length (take held.count items))
      (omega (arith, e, less)))

  module _ (looks : ℕ) (fires : Body) (window : List ℤ)
      (looks_is : looks ≡ filter_looks filter firing) (found : looks ≤ held.count)
      (fires_is : fires ≡ body_at firing)
      (window_is : window ≡ take held.count items) where
    fires_so : filter_step filter firing fields input output (with_held held items rings)
        ≡ filter_after (filter_pops filter firing) input output (with_held held items rings)
        (fired filter fires fields window)
    fires_so =
        let e = length-take-le held.count items is.count in
        found_all
        ∙ ap (λ (b : Bool). if_found b (filter_after (filter_pops filter firing) input output
        (with_held held items rings)
        (fired filter (body_at firing) fields (take held.count items))))
        (le-leb (filter_looks filter firing) (length (take held.count items))
        (omega (arith, e, looks_is, found)))
        ∙ ap (λ (l : List ℤ). filter_after (filter_pops filter firing) input output
        (with_held held items rings) (fired filter (body_at firing) fields l)) (sym window_is)
        ∙ ap (λ (b : Body). filter_after (filter_pops filter firing) input output
        (with_held held items rings) (fired filter b fields window)) (sym fires_is)

    -- one that takes all leaves the rings without it, but for what it pushes
    pub goes_held : held.count ≡ filter_pops filter firing
        → (new pushes named : List ℤ) (after : List Ring) (words more : List Word)
        → HasGiven (fired filter fires fields window) new pushes words more
        → named ≡ pushes → after ≡ given output named rings
        → HasStepped (filter_step filter firing fields input output (with_held held items rings))
        (Ok true) fields new (with_held held items rings) after words more
    goes_held takes new pushes named after words more gives same is_after = (
      gives.words,
      fires_so
          ∙ ap (filter_after (filter_pops filter firing) input output (with_held held items rings))
          gives.is
          ∙ ap (λ (l : List Ring). Goes new (given output pushes l) gives.words)
          (all_taken input rings held items is all (filter_pops filter firing) (sym takes))
          ∙ ap (λ (l : List Ring). Goes new l gives.words)
          (ap (λ (l : List ℤ). given output l rings) (sym same) ∙ sym is_after),
      gives.printed,
    )

    -- one that halts does so in hand too
    pub halts_held : (why : Halt) (new pushes : List ℤ) (before after : List Ring)
        (words more : List Word)
        → Fires (fired filter fires fields window) (Err why) new pushes words more
        → MoreWords words more
        → HasStepped (filter_step filter firing fields input output (with_held held items rings))
        (Err why) fields new before after words more
    halts_held (halt.Fault cause) new pushes before after words more gives printed = (
      fires_so
          ∙ ap (filter_after (filter_pops filter firing) input output (with_held held items rings))
          gives,
      printed,
    )
    halts_held halt.NoMemory new pushes before after words more gives printed = printed

-- items that were taken off a ring are as if they were still there
pub picked_up : (rings : List Ring) (number : ℕ) (seen ring left : Ring) (items : List ℤ)
    → number < length rings → seen ≡ get_or rings number seen → ring ≡ get_or rings number ring
    → length seen.items ≤ seen.capacity → left ≡ buffer [] ring.capacity → items ≡ ring.items
    → given (Some number) items (set rings number left) ≡ rings
picked_up rings number seen ring left items less seen_is ring_is within left_is items_are =
    let same : seen ≡ ring = seen_is ∙ get_or_default rings number seen ring less ∙ sym ring_is in
    let room = subst (λ (r : Ring). length r.items ≤ r.capacity) same within in
    let many = ap length items_are in
    ap (λ (r : Ring). set (set rings number left) number (extended items r))
    (get_or-set_same rings number left (buffer [] 0) less)
    ∙ set-set rings number left (extended items left)
    ∙ ap (λ (r : Ring). set rings number (extended items r)) left_is
    ∙ ap (set rings number)
    (fills items (buffer [] ring.capacity) refl (omega (arith, room, many)))
    ∙ ap (λ (l : List ℤ). set rings number (buffer l ring.capacity)) items_are
    ∙ ap (set rings number) ring_is
    ∙ set-get_or rings number ring
