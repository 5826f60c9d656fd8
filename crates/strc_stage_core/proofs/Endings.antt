-- A ring that is over.
use Rattle.std.proofs.Common.{◌≡◌, refl, sym, ap, ◌∙◌, subst, ℕ, zero, suc, ◌+◌, ◌<◌, Bool, true}
use Rattle.std.proofs.Common.{false, not, ◌&&◌, ◌||◌, eqb, List, [], ◌∷◌, ◌++◌, length, Option}
use Rattle.std.proofs.Common.{Some, None, is_some, IsSome, slice_get, option_to_list, arith}
use Rattle.std.proofs.Common.{eqb-true, true≢false, append-nil, append_assoc, length-append}
use Rattle.std.proofs.lemmas.Bool.{and_parts}
use mathlib.Core.Logic.{◌⊎◌, inl, inr}
use Rattle.strc_stage_core.specs.Actors.{Plain, Stage, Collector, Work, Step, Collects}
use Rattle.strc_stage_core.specs.States.{Runs, Start, Core, AreFresh, Chained, IsState}
use Rattle.strc_stage_core.specs.Events.{is_free, is_finished, is_over, on_links, in_hands, weight}
use Rattle.strc_stage_core.specs.Events.{Event}
use Rattle.strc_stage_core.specs.Events.{Take, Give, before, is_loaded, is_holding, may}
use Rattle.strc_stage_core.specs.Endings.{AreRunning, EndsBy, IsEnded}
use Rattle.strc_stage_core.proofs.Runs.{runs_length}
use Rattle.strc_stage_core.proofs.Steps.{stepped}
use Rattle.strc_stage_core.proofs.Stages.{ended, runs_finished, gathers_finished}
use Rattle.strc_stage_core.proofs.Counts.{weight-state}
use Rattle.strc_stage_core.proofs.Progress.{head_finished}
use Rattle.strc_stage_core.proofs.Marks.{Marked, marked_front, made_marked}

cons_not_nil : {A : Type 0} (x : A) (xs : List A) → x ∷ xs ≡ [] → ⊥
cons_not_nil x xs e = absurd (omega (arith, ap length e))

cons_head : {A : Type 0} (x y : A) (xs ys : List A) → x ∷ xs ≡ y ∷ ys → x ≡ y
cons_head {A} x y xs ys e = ap (first_or x) e
  where
    first_or : A → List A → A
    first_or d [] = d
    first_or d (z ∷ zs) = z

cons_tail : {A : Type 0} (x y : A) (xs ys : List A) → x ∷ xs ≡ y ∷ ys → xs ≡ ys
cons_tail x y xs ys e = ap rest e
  where
    rest : {A : Type 0} → List A → List A
    rest [] = []
    rest (z ∷ zs) = zs

not_holding : {A : Type 0} (hands : List (Option A)) (actor : ℕ) → in_hands hands ≡ 0
    → is_holding (slice_get hands actor) ≡ false
not_holding [] actor none = refl
not_holding (Some x ∷ hands) actor none = absurd (omega (arith, none))
not_holding (None ∷ hands) zero none = refl
not_holding (None ∷ hands) (suc actor) none = not_holding hands actor none

module _ {Load Stop : Type 0} where
  -- A list whose last is marked.
  ended_marked : (rounds number : ℕ) (p : Plain Load Stop) (ps : List (Plain Load Stop))
      → ended p.last ps ≡ true → Marked rounds number (p ∷ ps)
      → (front : List (Plain Load Stop)) × ((last : Plain Load Stop)
      × ((p ∷ ps ≡ front ++ (last ∷ []))
      × ((number + length (p ∷ ps) ≡ rounds) ⊎ IsSome last.stop)))
  ended_marked rounds number p [] last (here, marked) = (
    [],
    (
      p,
      (
        refl,
        elim (here last) [
          | inl e ↦ inl (omega (arith, e))
          | inr is ↦ inr is
        ],
      ),
    ),
  )
  ended_marked rounds number p (p' ∷ ps) last (here, marked) =
      let (front, (final, (is, why))) = ended_marked rounds (suc number) p' ps last marked in (
        p ∷ front,
        (
          final,
          (
            ap (λ l. p ∷ l) is,
            elim why [
              | inl e ↦ inl (omega (arith, e))
              | inr stopped ↦ inr stopped
            ],
          ),
        ),
      )

  ended_by : (rounds : ℕ) (ps : List (Plain Load Stop)) → ended false ps ≡ true
      → Marked rounds 0 ps → EndsBy rounds ps
  ended_by rounds [] last marked = absurd (true≢false (sym last))
  ended_by rounds (p ∷ ps) last marked =
      let (front, (final, (is, why))) = ended_marked rounds 0 p ps last marked in record {
        front = front;
        last = final;
        is = is;
        why = elim why [
          | inl e ↦ inl (omega (arith, e))
          | inr stopped ↦ inr stopped
        ];
      }

module _ {State Load Stop Total : Type 0} (work : Work State Load Stop Total) where
  -- Nothing is made after a marked parcel.
  rest_none : (a : Stage State Stop) (taken made : List (Plain Load Stop)) (b : Stage State Stop)
      (received others : List (Plain Load Stop)) → Runs (Step work) a taken made b
      → made ≡ received ++ others → ended a.finished received ≡ true → others ≡ []
  rest_none a [] [] b [] others runs e last = sym e
  rest_none a [] [] b (r ∷ received) others runs e last =
      absurd (cons_not_nil r (received ++ others) (sym e))
  rest_none a (p ∷ taken) (q ∷ made) b [] others (m, step, runs) e last =
      absurd (true≢false (sym last ∙ (stepped work a p m q step).goes))
  rest_none a (p ∷ taken) (q ∷ made) b (r ∷ received) others (m, step, runs) e last =
      rest_none m taken made b received others runs
      (cons_tail q r made (received ++ others) e)
      (ap (λ f. ended f received) ((stepped work a p m q step).finished
      ∙ ap (λ x. x.last) (cons_head q r made (received ++ others) e)) ∙ last)
  rest_none a _ _ b received others runs e last = absurd runs

  -- The first stage took up to the last round's, or up to the first that came back stopped.
  first_ends : (rounds : ℕ) (a : Stage State Stop) (taken made : List (Plain Load Stop))
      (b : Stage State Stop) → a.first ≡ true → a.rounds ≡ rounds → a.finished ≡ false
      → b.finished ≡ true → Runs (Step work) a taken made b
      → (front : List (Plain Load Stop)) × ((last : Plain Load Stop)
      × ((taken ≡ front ++ (last ∷ [])) × (AreRunning front
      × ((a.taken + length taken ≡ rounds) ⊎ IsSome last.stop))))
  first_ends rounds a [] [] b first same going over runs =
      absurd (true≢false (sym over ∙ ap (λ s. s.finished) (sym runs) ∙ going))
  first_ends rounds a (p ∷ []) (q ∷ []) b first same going over (m, step, runs) =
      let one = stepped work a p m q step in (
        [],
        (
          p,
          (
            refl,
            (
              tt,
              marks (eqb (suc a.taken) rounds) refl
                  (ap (λ r. eqb (suc a.taken) r || is_some p.stop) (sym same)
                  ∙ sym (one.marks first) ∙ sym one.finished ∙ ap (λ s. s.finished) runs ∙ over),
            ),
          ),
        ),
      )
    where
      marks : (test : Bool) → eqb (suc a.taken) rounds ≡ test
          → (eqb (suc a.taken) rounds || is_some p.stop) ≡ true
          → (a.taken + 1 ≡ rounds) ⊎ IsSome p.stop
      marks true is e = inl (omega (arith, eqb-true (suc a.taken) rounds is))
      marks false is e = inr (sym (ap (λ t. t || is_some p.stop) is) ∙ e)
  first_ends rounds a (p ∷ []) (q ∷ q' ∷ made) b first same going over (m, step, runs) =
      absurd runs
  first_ends rounds a (p ∷ p' ∷ taken) (q ∷ []) b first same going over (m, step, runs) =
      absurd runs
  first_ends rounds a (p ∷ p' ∷ taken) (q ∷ q' ∷ made) b first same going over
      (m, step, (n, next, runs)) =
      let one = stepped work a p m q step in
      let two = stepped work m p' n q' next in
      let (front, (last, (is, (running, why)))) = first_ends rounds m (p' ∷ taken) (q' ∷ made) b
      (one.first ∙ first) (one.rounds ∙ same) two.goes over (n, next, runs) in (
        p ∷ front,
        (
          last,
          (
            ap (λ l. p ∷ l) is,
            (
              (
                unstopped p.stop (eqb (suc a.taken) a.rounds)
                    (sym (one.marks first) ∙ sym one.finished ∙ two.goes),
                running,
              ),
              later last one.taken why,
            ),
          ),
        ),
      )
    where
      unstopped : (stop : Option Stop) (test : Bool) → (test || is_some stop) ≡ false
          → stop ≡ None
      unstopped None test e = refl
      unstopped (Some x) true e = absurd (true≢false e)
      unstopped (Some x) false e = absurd (true≢false e)

      later : (last : Plain Load Stop) → m.taken ≡ suc a.taken
          → (m.taken + length (p' ∷ taken) ≡ rounds) ⊎ IsSome last.stop
          → (a.taken + length (p ∷ p' ∷ taken) ≡ rounds) ⊎ IsSome last.stop
      later last more (inl e) = inl (omega (arith, e, more))
      later last more (inr is) = inr is
  first_ends rounds a _ _ b first same going over runs = absurd runs

module _ {State Load Stop Total : Type 0} (work : Work State Load Stop Total)
    (first : Collector Total Stop) (free : List (Plain Load Stop)) where
  -- From some stage on, where the collector has given its last parcel.
  record IsSettled (rounds : ℕ) (stages : List (Stage State Stop))
      (links : List (List (Plain Load Stop))) (hands : List (Option (Plain Load Stop)))
      (c : Collector Total Stop) (taken : List (Plain Load Stop)) : Type 0 where
    got : List (Plain Load Stop)
    given : List (Plain Load Stop)
    runs : Runs (Collects work) first got given c
    as_many : length taken ≡ length got
    marked : Marked rounds 0 got
    over : is_finished 0 stages c ≡ true
    all_over : (actor : ℕ) → is_finished actor stages c ≡ true
    none_held : in_hands hands ≡ 0
    last : List (Plain Load Stop)
    last_is : slice_get links (length stages) ≡ Some last
    all : on_links links ≡ length last
    empty : (actor : ℕ) → actor < length stages → slice_get links actor ≡ Some []

  settled : (head : Bool) (rounds : ℕ) (done : Bool) (stages₀ stages : List (Stage State Stop))
      (links : List (List (Plain Load Stop))) (hands : List (Option (Plain Load Stop)))
      (c : Collector Total Stop) (taken back : List (Plain Load Stop))
      → Chained work first free stages₀ stages links hands c taken back
      → AreFresh head rounds done stages₀ → first.finished ≡ done
      → (head ≡ false → Marked rounds 0 taken) → (head ≡ true → 0 < length stages₀)
      → (c.finished && is_free (slice_get hands (length stages))) ≡ true
      → IsSettled rounds stages links hands c taken
  settled head rounds done (stage₀ ∷ stages₀) (stage ∷ stages) (link ∷ links) (hand ∷ hands) c taken
      back (given, received, runs, e, chain) (fresh, all_fresh) same marked some over =
      let rest = settled false rounds done stages₀ stages links hands c received back chain
      all_fresh same (λ later. marked_front rounds 0 received link (subst (Marked rounds 0) e
      (marked_front rounds 0 given (option_to_list hand)
      (made_marked work first free head rounds done stage₀ stage taken
      (given ++ option_to_list hand) (fresh, tt) marked runs))))
      (λ e. absurd (true≢false (sym e))) over in
      let last : ended stage₀.finished received ≡ true = ap (λ f. ended f received)
      fresh.finished_is ∙ sym (head_finished work first free rounds done stages₀ stages links hands
      c received back chain all_fresh same) ∙ rest.over in
      here hand link runs (ap (λ l. l ++ option_to_list hand) e
      ∙ append_assoc received link (option_to_list hand)) last rest
    where
      here : (hand : Option (Plain Load Stop)) (link : List (Plain Load Stop))
          → Runs (Step work) stage₀ taken (given ++ option_to_list hand) stage
          → given ++ option_to_list hand ≡ received ++ (link ++ option_to_list hand)
          → ended stage₀.finished received ≡ true
          → IsSettled rounds stages links hands c received
          → IsSettled rounds (stage ∷ stages) (link ∷ links) (hand ∷ hands) c taken
      here (Some x) link runs e last rest = absurd (omega (
        arith,
        ap length (rest_none work stage₀ taken (given ++ (x ∷ [])) stage received
            (link ++ (x ∷ [])) runs e last),
        length-append link (x ∷ []),
      ))
      here None (p ∷ link) runs e last rest = absurd (cons_not_nil p (link ++ [])
          (rest_none work stage₀ taken (given ++ []) stage received ((p ∷ link) ++ []) runs e last))
      here None [] runs e last rest = record {
        got = rest.got;
        given = rest.given;
        runs = rest.runs;
        as_many = runs_length (Step work) stage₀ taken (given ++ []) stage runs
            ∙ ap length (e ∙ append-nil received) ∙ rest.as_many;
        marked = rest.marked;
        over = runs_finished work stage₀ taken (given ++ []) stage runs
            ∙ ap (ended stage₀.finished) (e ∙ append-nil received) ∙ last;
        all_over = overs rest.all_over (runs_finished work stage₀ taken (given ++ []) stage runs
            ∙ ap (ended stage₀.finished) (e ∙ append-nil received) ∙ last);
        none_held = rest.none_held;
        last = rest.last;
        last_is = rest.last_is;
        all = omega (arith, rest.all);
        empty = empties rest.empty;
      }
        where
          empties : ((actor : ℕ) → actor < length stages → slice_get links actor ≡ Some [])
              → (actor : ℕ) → actor < suc (length stages)
              → slice_get ([] ∷ links) actor ≡ Some []
          empties further zero less = refl
          empties further (suc actor) less = further actor (omega (arith, less))

          overs : ((actor : ℕ) → is_finished actor stages c ≡ true) → stage.finished ≡ true
              → (actor : ℕ) → is_finished actor (stage ∷ stages) c ≡ true
          overs further now zero = now
          overs further now (suc actor) = further actor
  settled true rounds done [] [] (link ∷ []) (None ∷ []) c taken back (given, runs, e) fresh same
      marked some over = absurd (omega (arith, some refl))
  settled false rounds done [] [] (link ∷ []) (None ∷ []) c taken back (given, runs, e) fresh same
      marked some over = record {
        got = taken;
        given = given ++ [];
        runs = runs;
        as_many = refl;
        marked = marked refl;
        over = (and_parts c.finished true over).0;
        all_over = overs ((and_parts c.finished true over).0);
        none_held = refl;
        last = link;
        last_is = refl;
        all = omega arith;
        empty = λ actor less. absurd (omega (arith, less));
      }
    where
      overs : c.finished ≡ true → (actor : ℕ)
          → is_finished {State = State} {Stop = Stop} actor [] c ≡ true
      overs now zero = now
      overs now (suc actor) = refl
  settled head rounds done [] [] (link ∷ []) (Some x ∷ []) c taken back chain fresh same marked
      some over = absurd (true≢false (sym over ∙ and_false c.finished))
    where
      and_false : (b : Bool) → (b && false) ≡ false
      and_false true = refl
      and_false false = refl
  settled head rounds done _ _ _ _ c taken back chain fresh same marked some over = absurd chain

module _ {State Load Stop Total : Type 0} (work : Work State Load Stop Total) where
  -- What the first of the stages took, while the ring was not done at first.
  head_ends : (first : Collector Total Stop) (free : List (Plain Load Stop)) (rounds : ℕ)
      (stages₀ stages : List (Stage State Stop)) (links : List (List (Plain Load Stop)))
      (hands : List (Option (Plain Load Stop))) (c : Collector Total Stop)
      (taken back : List (Plain Load Stop))
      → Chained work first free stages₀ stages links hands c taken back
      → AreFresh true rounds false stages₀ → 0 < length stages₀ → is_finished 0 stages c ≡ true
      → (ends : EndsBy rounds taken) × AreRunning ends.front
  head_ends first free rounds (stage₀ ∷ stages₀) (stage ∷ stages) (link ∷ links) (hand ∷ hands) c
      taken back (given, received, runs, e, chain) (fresh, all_fresh) some over =
      let (front, (last, (is, (running, why)))) = first_ends work rounds stage₀ taken
      (given ++ option_to_list hand) stage fresh.first_is fresh.rounds_are fresh.finished_is over
      runs in (
        record {
          front = front;
          last = last;
          is = is;
          why = elim why [
            | inl e ↦ inl (omega (arith, e, fresh.none_taken))
            | inr stopped ↦ inr stopped
          ];
        },
        running,
      )
  head_ends first free rounds [] [] (link ∷ []) (hand ∷ []) c taken back chain fresh some over =
      absurd (omega (arith, some))
  head_ends first free rounds _ _ _ _ c taken back chain fresh some over = absurd chain

  -- Nothing is taken where all had finished at first.
  head_done : (first : Collector Total Stop) (free : List (Plain Load Stop)) (rounds : ℕ)
      (stages₀ stages : List (Stage State Stop)) (links : List (List (Plain Load Stop)))
      (hands : List (Option (Plain Load Stop))) (c : Collector Total Stop)
      (taken back : List (Plain Load Stop))
      → Chained work first free stages₀ stages links hands c taken back
      → AreFresh true rounds true stages₀ → 0 < length stages₀ → taken ≡ []
  head_done first free rounds (stage₀ ∷ stages₀) (stage ∷ stages) (link ∷ links) (hand ∷ hands) c
      taken back (given, received, runs, e, chain) (fresh, all_fresh) some =
      none taken (given ++ option_to_list hand) runs
    where
      none : (taken made : List (Plain Load Stop)) → Runs (Step work) stage₀ taken made stage
          → taken ≡ []
      none [] [] runs = refl
      none (p ∷ taken) (q ∷ made) (m, step, runs) =
          absurd (true≢false (sym fresh.finished_is ∙ (stepped work stage₀ p m q step).goes))
      none _ _ runs = absurd runs
  head_done first free rounds [] [] (link ∷ []) (hand ∷ []) c taken back chain fresh some =
      absurd (omega (arith, some))
  head_done first free rounds _ _ _ _ c taken back chain fresh some = absurd chain

  pub all_ended : (start : Start State Load Stop Total) (core : Core State Load Stop Total)
      → IsState work start core → is_over core ≡ true → IsEnded work start core
  unfolding is_over weight
  all_ended start core state over =
      let end = settled work start.collector start.free true start.collector.rounds start.done
      start.stages core.stages core.links core.hands core.collector state.taken state.taken
      state.chain state.begun.fresh state.begun.finished_is (λ e. absurd (true≢false e))
      (λ e. state.begun.some_stage) over in record {
        come = state.taken;
        taken = end.got;
        given = end.given;
        gathers = end.runs;
        as_many = sym end.as_many;
        none_done = λ done. head_done start.collector start.free start.collector.rounds start.stages
            core.stages core.links core.hands core.collector state.taken state.taken state.chain
            (subst (λ d. AreFresh true start.collector.rounds d start.stages) done
            state.begun.fresh) state.begun.some_stage;
        come_ends = λ going. head_ends start.collector start.free start.collector.rounds
            start.stages core.stages core.links core.hands core.collector state.taken state.taken
            state.chain (subst (λ d. AreFresh true start.collector.rounds d start.stages) going
            state.begun.fresh) state.begun.some_stage end.over;
        taken_ends = λ going. ended_by start.collector.rounds end.got
            (ap (λ f. ended f end.got) (sym (state.begun.finished_is ∙ going))
            ∙ sym (gathers_finished work start.collector end.got end.given core.collector end.runs)
            ∙ (and_parts core.collector.finished
            (is_free (slice_get core.hands (length core.stages))) over).0)
            end.marked;
        empty = end.empty;
        back = end.last;
        back_is = end.last_is;
        all_back = omega (
          arith,
          weight-state work start core state,
          end.none_held,
          end.all,
        );
      }

  -- Nothing is allowed then.
  pub over_allows_none : (start : Start State Load Stop Total) (core : Core State Load Stop Total)
      → IsState work start core → is_over core ≡ true → (event : Event)
      → may core event ≡ false
  unfolding is_over may
  over_allows_none start core state over event = none event
    where
      end : IsSettled work start.collector start.free start.collector.rounds core.stages core.links
          core.hands core.collector state.taken
      end = settled work start.collector start.free true start.collector.rounds start.done
          start.stages core.stages core.links core.hands core.collector state.taken state.taken
          state.chain state.begun.fresh state.begun.finished_is (λ e. absurd (true≢false e))
          (λ e. state.begun.some_stage) over

      none : (event : Event) → may core event ≡ false
      none (Take actor) = ap (λ f. not f && (is_free (slice_get core.hands actor)
          && is_loaded (slice_get core.links (before (length core.stages) actor))))
          (end.all_over actor)
      none (Give actor) = not_holding core.hands actor end.none_held
