-- What code knows by index, in the words of the events.
use Rattle.std.proofs.Common.{◌≡◌, refl, sym, ap, ℕ, zero, suc, ◌<◌, ◌≤◌, false, true, List, []}
use Rattle.std.proofs.Common.{◌∷◌, map, length, set, get_or, slice_get, Some, arith, Bool, not}
use Rattle.std.proofs.Common.{◌&&◌, true≢false, ◌∙◌, ◌*◌, None, ◌++◌}
use Rattle.std.proofs.lemmas.Option.{slice_get_past, slice_get_within, slice_get-get_or}
use Rattle.strc_stage_core.specs.Events.{is_over, Event, Does, is_finished, HasRounds, Take, Give}
use Rattle.strc_stage_core.specs.Events.{may}
use Rattle.strc_stage_core.specs.Events.{before, Takes, Gives, is_loaded, is_free, is_holding}
use Rattle.strc_stage_core.specs.Actors.{Plain, Stage, Collector, Work, Step, Collects}
use Rattle.strc_stage_core.specs.States.{Start, Core, IsState}
use Rattle.strc_stage_core.specs.Moves.{Pulls, AreRoomy}
use Rattle.strc_stage_core.proofs.Progress.{progress}
use Rattle.strc_stage_core.proofs.Counts.{lengths}
use Rattle.strc_stage_core.proofs.Acts.{room_is_left}
use Rattle.strc_stage_core.proofs.Taking.{may_take, holding_is}
use Rattle.strc_stage_core.proofs.Runs.{some_is, none_not_some}

module _ {State Load Stop Total : Type 0} (work : Work State Load Stop Total) where
  pub does_stage : (actor : ℕ) (stages : List (Stage State Stop)) (c : Collector Total Stop)
      (stage later : Stage State Stop) (p q : Plain Load Stop) → actor < length stages
      → stage ≡ get_or stages actor stage → Step work stage p later q
      → Does work actor stages c p (set stages actor later) c q
  does_stage actor [] c stage later p q less is step = absurd (omega (arith, less))
  does_stage zero (s ∷ stages) c stage later p q less is step = (later, rw is at step, refl, refl)
  does_stage (suc actor) (s ∷ stages) c stage later p q less is step = (
    set stages actor later,
    refl,
    does_stage actor stages c stage later p q (omega (arith, less)) is step,
  )

  pub does_collector : (actor : ℕ) (stages : List (Stage State Stop)) (c c' : Collector Total Stop)
      (p q : Plain Load Stop) → actor ≡ length stages → Collects work c p c' q
      → Does work actor stages c p stages c' q
  does_collector zero [] c c' p q here collects = (collects, refl)
  does_collector zero (stage ∷ stages) c c' p q here collects = absurd (omega (arith, here))
  does_collector (suc actor) [] c c' p q here collects = absurd (omega (arith, here))
  does_collector (suc actor) (stage ∷ stages) c c' p q here collects =
      (stages, refl, does_collector actor stages c c' p q (omega (arith, here)) collects)

module _ {State Stop Total : Type 0} where
  pub finished_stage : (actor : ℕ) (stages : List (Stage State Stop)) (c : Collector Total Stop)
      (stage : Stage State Stop) → actor < length stages → stage ≡ get_or stages actor stage
      → is_finished actor stages c ≡ stage.finished
  finished_stage actor [] c stage less is = absurd (omega (arith, less))
  finished_stage zero (s ∷ stages) c stage less is = ap (λ x. x.finished) (sym is)
  finished_stage (suc actor) (s ∷ stages) c stage less is =
      finished_stage actor stages c stage (omega (arith, less)) is

  pub finished_collector : (actor : ℕ) (stages : List (Stage State Stop))
      (c : Collector Total Stop) → actor ≡ length stages
      → is_finished actor stages c ≡ c.finished
  finished_collector zero [] c here = refl
  finished_collector zero (stage ∷ stages) c here = absurd (omega (arith, here))
  finished_collector (suc actor) [] c here = absurd (omega (arith, here))
  finished_collector (suc actor) (stage ∷ stages) c here =
      finished_collector actor stages c (omega (arith, here))

  -- What an actor with rounds left is.
  pub rounds_of_stage : (actor : ℕ) (stages : List (Stage State Stop)) (c : Collector Total Stop)
      (stage : Stage State Stop) → actor < length stages → stage ≡ get_or stages actor stage
      → HasRounds actor stages c → (stage.finished ≡ false) × (stage.taken < stage.rounds)
  rounds_of_stage actor [] c stage less is has = absurd (omega (arith, less))
  rounds_of_stage zero (s ∷ stages) c stage less is has = rw is has
  rounds_of_stage (suc actor) (s ∷ stages) c stage less is has =
      rounds_of_stage actor stages c stage (omega (arith, less)) is has

  pub rounds_of_collector : (actor : ℕ) (stages : List (Stage State Stop))
      (c : Collector Total Stop) → length stages ≤ actor → HasRounds actor stages c
      → (actor ≡ length stages) × (c.finished ≡ false) × (c.taken < c.rounds)
  rounds_of_collector zero [] c past has = (refl, has.0, has.1)
  rounds_of_collector zero (stage ∷ stages) c past has = absurd (omega (arith, past))
  rounds_of_collector (suc actor) [] c past has = absurd has
  rounds_of_collector (suc actor) (stage ∷ stages) c past has =
      let (here, goes, less) = rounds_of_collector actor stages c (omega (arith, past)) has in
      (ap suc here, goes, less)

  pub finished_past : (actor : ℕ) (stages : List (Stage State Stop)) (c : Collector Total Stop)
      → length stages < actor → is_finished actor stages c ≡ true
  finished_past zero stages c less = absurd (omega (arith, less))
  finished_past (suc actor) [] c less = refl
  finished_past (suc actor) (stage ∷ stages) c less =
      finished_past actor stages c (omega (arith, less))

module _ {Queue Parcel : Type 0} (items : Queue → List Parcel) (capacity : Queue → ℕ) where
  -- What `lay` asks, where links have room for all parcels.
  pub room_at : (room : ℕ) (links : List Queue) (at : ℕ) (queue : List Parcel)
      → AreRoomy room (map capacity links) → slice_get (map items links) at ≡ Some queue
      → length queue < room
      → length (get_or (map items links) at []) < get_or (map capacity links) at 0
  room_at room [] at queue roomy is less = absurd (none_not_some queue is)
  room_at room (link ∷ links) zero queue (here, roomy) is less =
      omega (arith, here, less, ap length (some_is (items link) queue is))
  room_at room (link ∷ links) (suc at) queue (here, roomy) is less =
      room_at room links at queue roomy is less

module _ {State Load Stop Total : Type 0} where
  -- What moves of parcels ask where an event is allowed.
  pub take_loaded : (core : Core State Load Stop Total) (actor : ℕ)
      → may core (Take actor) ≡ true
      → is_loaded (slice_get core.links (before (length core.stages) actor)) ≡ true
  take_loaded core actor allowed = rw (may_take core actor allowed).comes refl

  pub take_free : (core : Core State Load Stop Total) (actor : ℕ)
      → may core (Take actor) ≡ true → is_free (slice_get core.hands actor) ≡ true
  take_free core actor allowed = rw (may_take core actor allowed).free refl

  pub give_holding : (core : Core State Load Stop Total) (actor : ℕ)
      → may core (Give actor) ≡ true → is_holding (slice_get core.hands actor) ≡ true
  unfolding may
  give_holding core actor allowed = allowed

module _ {State Load Stop Total : Type 0} (work : Work State Load Stop Total) where
  -- A take, by its moves.
  pub takes_by : (old new : Core State Load Stop Total) (actor : ℕ)
      (parcel result : Plain Load Stop) → may old (Take actor) ≡ true
      → Pulls old.links (before (length old.stages) actor) parcel new.links
      → Does work actor old.stages old.collector parcel new.stages new.collector result
      → new.hands ≡ set old.hands actor (Some result)
      → Takes work old actor new
  takes_by old new actor parcel result allowed (rest, comes, links_are) does hands_are = record {
    parcel = parcel;
    rest = rest;
    result = result;
    comes = comes;
    free = (may_take old actor allowed).free;
    does = does;
    links_are = links_are;
    hands_are = hands_are;
  }

  -- The link after an actor that holds a parcel is there.
  pub link_there : (start : Start State Load Stop Total) (core : Core State Load Stop Total)
      (actor : ℕ) (parcel : Plain Load Stop) → IsState work start core
      → slice_get core.hands actor ≡ Some (Some parcel)
      → slice_get core.links actor ≡ Some (get_or core.links actor [])
  link_there start core actor parcel state held =
      let (a, b, d) = lengths work start core state in
      slice_get-get_or core.links actor []
      (omega (arith, slice_get_within core.hands actor (Some parcel) held, b, d))

  -- A give, by its moves.
  pub gives_by : (start : Start State Load Stop Total) (old new : Core State Load Stop Total)
      (actor : ℕ) (parcel : Plain Load Stop) → IsState work start old
      → slice_get old.hands actor ≡ Some (Some parcel)
      → new.stages ≡ old.stages → new.collector ≡ old.collector
      → new.links ≡ set old.links actor (get_or old.links actor [] ++ (parcel ∷ []))
      → new.hands ≡ set old.hands actor None
      → Gives old actor new
  gives_by start old new actor parcel state held stages_are collector_is links_are hands_are =
      record {
        parcel = parcel;
        queue = get_or old.links actor [];
        held = held;
        link_is = link_there start old actor parcel state held;
        stages_are = stages_are;
        collector_is = collector_is;
        links_are = links_are;
        hands_are = hands_are;
      }

  -- And it has room for the parcel, where each link has room for all.
  pub give_room : {Queue : Type 0} (items : Queue → List (Plain Load Stop))
      (capacity : Queue → ℕ) (links : List Queue) (start : Start State Load Stop Total)
      (core : Core State Load Stop Total) (actor : ℕ) → IsState work start core
      → core.links ≡ map items links
      → AreRoomy (2 * length core.stages) (map capacity links)
      → may core (Give actor) ≡ true
      → length (get_or (map items links) actor []) < get_or (map capacity links) actor 0
  unfolding may
  give_room items capacity links start core actor state links_are roomy allowed =
      let (parcel, held) = holding_is (slice_get core.hands actor) allowed in
      let there : slice_get core.links actor ≡ Some (get_or core.links actor []) =
      link_there start core actor parcel state held in
      room_at items capacity (2 * length core.stages) links actor (get_or core.links actor []) roomy
      (ap (λ l. slice_get l actor) (sym links_are) ∙ there)
      (room_is_left work start core state actor parcel (get_or core.links actor []) held there)

module _ {State Load Stop Total : Type 0} where
  -- There is no actor past the hands.
  pub past_allows_none : (core : Core State Load Stop Total) (actor : ℕ)
      → length core.hands ≤ actor
      → (may core (Take actor) ≡ false) × (may core (Give actor) ≡ false)
  unfolding may
  past_allows_none core actor past =
      rw (slice_get_past core.hands actor past) (
        by_test (not (is_finished actor core.stages
            core.collector)),
        refl,
      )
    where
      by_test : (b : Bool) → (b && false) ≡ false
      by_test true = refl
      by_test false = refl

module _ {State Load Stop Total : Type 0} (work : Work State Load Stop Total) where
  -- Where no event is allowed the ring is over.
  pub none_is_over : (start : Start State Load Stop Total) (core : Core State Load Stop Total)
      → IsState work start core → ((event : Event) → may core event ≡ false)
      → is_over core ≡ true
  none_is_over start core state none = by_test (is_over core) refl
    where
      by_test : (test : Bool) → is_over core ≡ test → is_over core ≡ true
      by_test true e = e
      by_test false e =
          let (event, allowed) = progress work start core state e in
          absurd (true≢false (sym allowed ∙ none event))
