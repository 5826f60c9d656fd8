-- Each parcel that a stage or the collector can take has what it is to have there.
use Rattle.std.proofs.Common.{◌≡◌, refl, sym, ap, ◌∙◌, subst, ℕ, zero, suc, ◌+◌, ◌*◌, ◌-◌, ◌<◌, ◌≤◌}
use Rattle.std.proofs.Common.{List, [], ◌∷◌, ◌++◌, length, map, take, Option, Some, None}
use Rattle.std.proofs.Common.{is_some, IsSome, slice_get, option_to_list, arith, true≢false}
use Rattle.std.proofs.Common.{append_assoc, length-append}
use Rattle.std.proofs.lemmas.Bool.{cases_lt}
use Rattle.std.proofs.lemmas.List.{length-map, take_at}
use Rattle.std.proofs.lemmas.Option.{none-some, same_Some}
use mathlib.Core.Logic.{inl, inr}
use Rattle.strc_stage_core.specs.Actors.{Collector, Collects, Step}
use Rattle.strc_stage_core.specs.Endings.{AreRunning, AreStopped, StayStopped}
use Rattle.strc_stage_core.specs.Events as events
use Rattle.strc_stage_core.specs.Parts as ring
use Rattle.strc_stage_core.specs.Parts.{received_by, AreLinked, core_of}
use Rattle.strc_stage_core.specs.States.{Start, Core, IsState, Runs}
use Rattle.strc_stage_core.proofs.Runs.{runs_length}
use Rattle.strc_stage_core.proofs.Steps.{stepped, gathers}
use Rattle.strc_stage_core.proofs.Stopping.{runs_stay_stopped}
use Rattle.strc_sched_outcome.specs.declared.stop.Stop.{Stop}
use Rattle.strc_stage_core.specs.Parcels.{Load, ParcelView}
use Rattle.strc_sched_laws.specs.Machine.{MachineView}
use Rattle.strc_sched_laws.specs.Simulation.{Simulates}
use Rattle.strc_elab_dataflow.proofs.Fits.{block_at_rate}
use Rattle.strc_stage_steps.specs.Beginnings.{IsBeginning}
use Rattle.strc_stage_steps.specs.CrossingBlocks.{FitsBefore}
use Rattle.strc_stage_steps.specs.Laws.{ParcelsFit}
use Rattle.strc_stage_steps.specs.Steps.{StageState, Gathered, stage_work}
use Rattle.strc_stage_steps.proofs.Chain.{AreParts, are_parts, collected, given, given_are, taken}
use Rattle.strc_stage_steps.proofs.Chain.{few}
use Rattle.strc_stage_steps.proofs.Chain.{came_spent, each_related, reach, part_count}
use Rattle.strc_stage_steps.proofs.Chain.{unstopped_fewer}
use Rattle.strc_stage_steps.proofs.Follows.{Worker, Generic, Related}
use Rattle.strc_stage_steps.proofs.Fresh.{AreSpent, AreUnstopped, IsClear, IsSpent}
use Rattle.strc_stage_steps.proofs.Held.{crosses_from, no_block}
use Rattle.strc_stage_steps.specs.Carrying.{StagePart, made_at, made_by}
use Rattle.strc_stage_steps.proofs.Links.{received_at}
use Rattle.strc_stage_steps.proofs.RoundsCome.{HasCome, IsKnown, known_at}
use Rattle.strc_stage_steps.proofs.Setting.{Setting, setting, staging, stage_of, is_staging}
use Rattle.strc_stage_steps.proofs.Setting.{rate_at, port_is, origin_is}

-- ---- lists in which stops stay

none_of : (why : Option Stop) → (IsSome why → ⊥) → why ≡ None
none_of None never = refl
none_of (Some why) never = absurd (never refl)

stopped_there : (xs : List ParcelView) (p : ParcelView) (ys : List ParcelView)
    → AreStopped (xs ++ (p ∷ ys)) → IsSome p.stop
stopped_there [] p ys stopped = stopped.0
stopped_there (x ∷ xs) p ys stopped = stopped_there xs p ys stopped.1

-- before one that isn't stopped none is
running_before : (xs : List ParcelView) (p : ParcelView) (ys : List ParcelView)
    → StayStopped (xs ++ (p ∷ ys)) → p.stop ≡ None → AreRunning xs
running_before [] p ys stay none = tt
running_before (x ∷ xs) p ys stay none = (
  none_of x.stop (λ is. true≢false (sym (stopped_there xs p ys (stay.0 is)) ∙ ap is_some none)),
  running_before xs p ys stay.1 none,
)

stay_front : (xs ys : List ParcelView) → StayStopped (xs ++ ys) → StayStopped xs
stay_front [] ys stay = tt
stay_front (x ∷ xs) ys stay = (λ is. stopped_front xs (stay.0 is), stay_front xs ys stay.1)
  where
    stopped_front : (zs : List ParcelView) → AreStopped (zs ++ ys) → AreStopped zs
    stopped_front [] stopped = tt
    stopped_front (z ∷ zs) stopped = (stopped.0, stopped_front zs stopped.1)

there : (xs : List ParcelView) (p : ParcelView) (ys : List ParcelView)
    → slice_get (xs ++ (p ∷ ys)) (length xs) ≡ Some p
there [] p ys = refl
there (x ∷ xs) p ys = there xs p ys

pub in_front : (xs ys : List ParcelView) (k : ℕ) (p : ParcelView) → slice_get xs k ≡ Some p
    → slice_get (xs ++ ys) k ≡ Some p
in_front [] ys k p e = absurd (none-some p e)
in_front (x ∷ xs) ys zero p e = e
in_front (x ∷ xs) ys (suc k) p e = in_front xs ys k p e

in_back : (xs ys : List ParcelView) (k : ℕ) → length xs ≤ k
    → slice_get (xs ++ ys) k ≡ slice_get ys (k - length xs)
in_back [] ys k past = ap (slice_get ys) (let e : k ≡ k - 0 = omega arith in e)
in_back (x ∷ xs) ys zero past = absurd (omega (arith, past))
in_back (x ∷ xs) ys (suc k) past =
    in_back xs ys k (omega (arith, past))
    ∙ ap (slice_get ys) (let e : k - length xs ≡ suc k - suc (length xs) = omega arith in e)

-- what is made of one that is stopped is stopped
running_of_step : (worker last : Worker) (taken made : List ParcelView) (k : ℕ) (p : ParcelView)
    → Runs (Step stage_work) worker taken made last → slice_get made k ≡ Some p → p.stop ≡ None
    → (q : ParcelView) × (slice_get taken k ≡ Some q) × (q.stop ≡ None)
running_of_step worker last [] [] k p runs e none = absurd (none-some p e)
running_of_step worker last (q ∷ taken) (r ∷ made) zero p (later, does, runs) e none = (
  q,
  refl,
  none_of q.stop (λ is. true≢false (sym ((stepped stage_work worker q later r does).stopped is)
      ∙ ap (λ (x : ParcelView). is_some x.stop) (same_Some r p e) ∙ ap is_some none)),
)
running_of_step worker last (q ∷ taken) (r ∷ made) (suc k) p (later, does, runs) e none =
    running_of_step later last taken made k p runs e none
running_of_step worker last [] (r ∷ made) k p runs e none = absurd runs
running_of_step worker last (q ∷ taken) [] k p runs e none = absurd runs

running_of_back : (collector last : Collector Gathered Stop) (taken made : List ParcelView)
    (k : ℕ) (p : ParcelView) → Runs (Collects stage_work) collector taken made last
    → slice_get made k ≡ Some p → p.stop ≡ None
    → (q : ParcelView) × (slice_get taken k ≡ Some q) × (q.stop ≡ None)
running_of_back collector last [] [] k p runs e none = absurd (none-some p e)
running_of_back collector last (q ∷ taken) (r ∷ made) zero p (later, does, runs) e none = (
  q,
  refl,
  none_of q.stop (λ is. true≢false (sym ((gathers stage_work collector q later r does).stopped is)
      ∙ ap (λ (x : ParcelView). is_some x.stop) (same_Some r p e) ∙ ap is_some none)),
)
running_of_back collector last (q ∷ taken) (r ∷ made) (suc k) p (later, does, runs) e none =
    running_of_back later last taken made k p runs e none
running_of_back collector last [] (r ∷ made) k p runs e none = absurd runs
running_of_back collector last (q ∷ taken) [] k p runs e none = absurd runs

module _ (s : Setting) where
  unstopped_upto : (taken : List ParcelView) (k : ℕ) (q : ParcelView) → StayStopped taken
      → slice_get taken k ≡ Some q → q.stop ≡ None → AreUnstopped s (suc k) taken
  unstopped_upto [] k q stay e none = absurd (none-some q e)
  unstopped_upto (x ∷ taken) zero q stay e none =
      (ap (λ (p : ParcelView). p.stop) (same_Some x q e) ∙ none, tt)
  unstopped_upto (x ∷ taken) (suc k) q stay e none = (
    none_of x.stop (λ is. true≢false (sym (stopped_at taken k (stay.0 is) e)
        ∙ ap is_some none)),
    unstopped_upto taken k q stay.1 e none,
  )
    where
      stopped_at : (l : List ParcelView) (i : ℕ) → AreStopped l → slice_get l i ≡ Some q
          → IsSome q.stop
      stopped_at [] i stopped f = absurd (none-some q f)
      stopped_at (y ∷ l) zero stopped f =
          subst (λ (p : ParcelView). IsSome p.stop) (same_Some y q f) stopped.0
      stopped_at (y ∷ l) (suc i) stopped f = stopped_at l i stopped.1 f

  -- ---- what the generic chain says of a parcel

  spent_there : (n : ℕ) (xs : List ParcelView) (p : ParcelView) (ys : List ParcelView)
      → length xs < n → AreSpent s n (xs ++ (p ∷ ys)) → IsSpent s p
  spent_there zero xs p ys less spent = absurd (omega (arith, less))
  spent_there (suc n) [] p ys less spent = spent.0
  spent_there (suc n) (x ∷ xs) p ys less spent =
      spent_there n xs p ys (omega (arith, less)) spent.1

  -- such a parcel fits
  come_fits : (b t : ℕ) (load : Load) → t < s.rounds → HasCome s b t load
      → FitsBefore s.running s.bound s.last b load
  come_fits b t load is_round is = record {
    shaped = is.loaded.shaped;
    moving = λ number channel listed early later.
        ap length (is.loaded.blocks_are number channel listed
        (crosses_from s channel (λ e. omega (arith, early, later, e))))
        ∙ block_at_rate (staging s) b t is.blocks is.words channel.target.node
        channel.target.port channel.source.node channel.source.port (is_staging s)
        (λ i more. rate_at s number channel listed i ∙ sym (rate_at s number channel listed 0))
        is_round is.moved later (port_is s number channel listed)
        (origin_is s number channel listed) early
        ∙ ap (λ (n : ℕ). s.running.counts channel.source.node * n)
        (rate_at s number channel listed 0);
    not_begun = λ number channel listed crossing late.
        is.loaded.blocks_are number channel listed crossing
        ∙ elim (cases_lt (stage_of s channel.target.node) b) [
          | inl past ↦ is.moved.spent channel.target.node channel.target.port past
          | inr later ↦ no_block s b t is.blocks is.words is.moved number channel listed late later
        ];
    at_end = λ number channel listed crossing past.
        is.loaded.blocks_are number channel listed crossing
        ∙ is.moved.spent channel.target.node channel.target.port past;
  }

  clear_fits : (load : Load) → IsClear s load → FitsBefore s.running s.bound s.last 0 load
  clear_fits load clear = record {
    shaped = clear.shaped;
    moving = λ number channel listed early later. absurd (omega (arith, early));
    not_begun = λ number channel listed crossing late.
        clear.blocks_are number channel listed crossing;
    at_end = λ number channel listed crossing past. absurd (omega (arith, past));
  }

  -- ---- links

  module _ (last : List ParcelView) where
    -- one that isn't stopped wasn't when it came to the first stage
    from_first : (stages₀ : List Worker) (parts : List StagePart) (first others : List ParcelView)
        → ring.AreSteps stage_work stages₀ parts → AreLinked parts last
        → first ≡ received_by parts last ++ others
        → (b k : ℕ) (p : ParcelView) → b ≤ length parts
        → slice_get (made_at parts first b) k ≡ Some p → p.stop ≡ None
        → (q : ParcelView) × (slice_get first k ≡ Some q) × (q.stop ≡ None)
    from_first stages₀ parts first others steps linked is zero k p less e none = (p, e, none)
    from_first stages₀ [] first others steps linked is (suc b) k p less e none =
        absurd (omega (arith, less))
    from_first (stage₀ ∷ stages₀) (part ∷ parts) first others steps linked is (suc b) k p less e
        none =
        let (r, made, none_made) = from_first stages₀ parts (made_by part)
        (part.left ++ option_to_list part.held) steps.1 linked.1
        (ap (λ (l : List ParcelView). l ++ option_to_list part.held) linked.0
        ∙ append_assoc (received_by parts last) part.left (option_to_list part.held)) b k p
        (omega (arith, less)) e none in
        let (q, taken, none_taken) = running_of_step stage₀ part.actor part.received
        (made_by part) k r steps.0 made none_made in (
          q,
          ap (λ (l : List ParcelView). slice_get l k) is
              ∙ in_front part.received others k q taken,
          none_taken,
        )
    from_first [] (part ∷ parts) first others steps linked is (suc b) k p less e none =
        absurd steps

    -- what a stage made stays stopped, and is no more than what the first took
    stays_at : (stages₀ : List Worker) (parts : List StagePart) (first : List ParcelView)
        → ring.AreSteps stage_work stages₀ parts → (b : ℕ) → b < length parts
        → StayStopped (made_at parts first (suc b))
    stays_at [] [] first steps b less = absurd (omega (arith, less))
    stays_at (stage₀ ∷ stages₀) (part ∷ parts) first (runs, steps) zero less =
        runs_stay_stopped stage_work stage₀ part.actor part.received (made_by part) runs
    stays_at (stage₀ ∷ stages₀) (part ∷ parts) first (runs, steps) (suc b) less =
        stays_at stages₀ parts (made_by part) steps b (omega (arith, less))
    stays_at [] (part ∷ parts) first steps b less = absurd steps
    stays_at (stage₀ ∷ stages₀) [] first steps b less = absurd steps

    pub made_few : (stages₀ : List Worker) (parts : List StagePart) (first : List ParcelView)
        (most : ℕ) → ring.AreSteps stage_work stages₀ parts → AreLinked parts last
        → length (received_by parts last) ≤ most → (b : ℕ) → b < length parts
        → length (made_at parts first (suc b)) ≤ most
    made_few [] [] first most steps linked few b less = absurd (omega (arith, less))
    made_few (stage₀ ∷ stages₀) (part ∷ parts) first most (runs, steps) linked few zero less =
        omega (
          arith,
          few,
          runs_length (Step stage_work) stage₀ part.received (made_by part) part.actor runs,
        )
    made_few (stage₀ ∷ stages₀) (part ∷ parts) first most (runs, steps) (link, linked) few (suc b)
        less =
        made_few stages₀ parts (made_by part) most steps linked (omega (
          arith,
          few,
          runs_length (Step stage_work) stage₀ part.received (made_by part) part.actor runs,
          ap length link,
          length-append (received_by parts last) part.left,
          length-append part.sent (option_to_list part.held),
        )) b (omega (arith, less))
    made_few [] (part ∷ parts) first most steps linked few b less = absurd steps
    made_few (stage₀ ∷ stages₀) [] first most steps linked few b less = absurd steps

    -- what is on a link is behind what was received from it
    left_at : (stages₀ : List Worker) (parts : List StagePart) (first end : List ParcelView)
        (left : List ParcelView) → ring.AreSteps stage_work stages₀ parts → AreLinked parts last
        → (b : ℕ) → b < length parts
        → slice_get (map (λ (part : StagePart). part.left) parts ++ (end ∷ [])) b ≡ Some left
        → (more : List ParcelView)
        × (made_at parts first (suc b) ≡ received_at parts last (suc b) ++ (left ++ more))
    left_at [] [] first end left steps linked b less e = absurd (omega (arith, less))
    left_at (stage₀ ∷ stages₀) (part ∷ parts) first end left steps (link, linked) zero less e =
        let same : part.left ≡ left = same_Some part.left left e in (
          option_to_list part.held,
          ap (λ (l : List ParcelView). l ++ option_to_list part.held) link
              ∙ append_assoc (received_by parts last) part.left (option_to_list part.held)
              ∙ ap (λ (l : List ParcelView). received_by parts last
              ++ (l ++ option_to_list part.held)) same
              ∙ ap (λ (l : List ParcelView). l ++ (left ++ option_to_list part.held))
              (received_head parts),
        )
      where
        received_head : (its : List StagePart) → received_by its last ≡ received_at its last 0
        received_head [] = refl
        received_head (own ∷ its) = refl
    left_at (stage₀ ∷ stages₀) (part ∷ parts) first end left steps linked (suc b) less e =
        left_at stages₀ parts (made_by part) end left steps.1 linked.1 b (omega (arith, less)) e
    left_at [] (part ∷ parts) first end left steps linked b less e = absurd steps
    left_at (stage₀ ∷ stages₀) [] first end left steps linked b less e = absurd steps

    left_last : (parts : List StagePart) (end : List ParcelView)
        → slice_get (map (λ (part : StagePart). part.left) parts ++ (end ∷ [])) (length parts)
        ≡ Some end
    left_last [] end = refl
    left_last (part ∷ parts) end = left_last parts end

    stays_last : (stages₀ : List Worker) (parts : List StagePart) → 0 < length parts
        → ring.AreSteps stage_work stages₀ parts → AreLinked parts last → StayStopped last
    stays_last stages₀ [] some steps linked = absurd (omega (arith, some))
    stays_last (stage₀ ∷ stages₀) (part ∷ []) some (runs, steps) (link, linked) =
        stay_front last (part.left ++ option_to_list part.held)
        (subst StayStopped
        (ap (λ (l : List ParcelView). l ++ option_to_list part.held) link
        ∙ append_assoc last part.left (option_to_list part.held))
        (runs_stay_stopped stage_work stage₀ part.actor part.received (made_by part) runs))
    stays_last (stage₀ ∷ stages₀) (part ∷ next ∷ parts) some (runs, steps) (link, linked) =
        stays_last stages₀ (next ∷ parts) (omega arith) steps linked
    stays_last [] (part ∷ parts) some steps linked = absurd steps

module _ (s : Setting) (started : MachineView)
    (holds : Simulates s.running.graph s.running.sizes s.circuit.input s.from started)
    (start : Start StageState Load Stop Gathered)
    (beginning : IsBeginning s.running s.bound s.last s.circuit started s.rounds start)
    (core : Core StageState Load Stop Gathered) (state : IsState stage_work start core)
    (its : AreParts start core) where
  abbrev pub got : List ParcelView
  got = its.end.received

  abbrev pub at_head : List ParcelView
  at_head = start.free ++ its.end.sent

  abbrev pub on_link : ℕ → List Generic
  on_link = given s started holds start beginning core state its

  abbrev pub took : List Generic
  took = collected s started holds start beginning core state its

  count : length core.stages ≡ length its.parts
  unfolding core_of
  count = ap (λ (c : Core StageState Load Stop Gathered). length c.stages) (sym its.same)
      ∙ length-map its.parts (λ (part : StagePart). part.actor)

  links_are : map (λ (part : StagePart). part.left) its.parts ++ (its.end.left ∷ [])
      ≡ core.links
  unfolding core_of
  links_are = ap (λ (c : Core StageState Load Stop Gathered). c.links) its.same

  pub related_so_far : (n : ℕ) → AreUnstopped s n got → Related s n got took
  related_so_far zero unstopped = tt
  related_so_far (suc n) unstopped =
      reach s started holds start beginning core state its n
      (unstopped_fewer s started holds start beginning core state its n
      got unstopped)

  -- how far a parcel that isn't stopped shows that the collector has taken no stopped one
  pub record IsReached (k : ℕ) : Type 0 where
    pub n : ℕ
    pub far : k < length start.free + n
    pub unstopped : AreUnstopped s n got

  pub reached : (b k : ℕ) (p : ParcelView) → b ≤ length its.parts
      → slice_get (made_at its.parts at_head b) k ≡ Some p → p.stop ≡ None → IsReached k
  reached b k p less e none =
      let (q, came_q, none_q) = from_first s got start.stages its.parts at_head its.end.left
      its.joined.steps its.joined.links its.joined.last_link b k p less e none in
      elim (cases_lt k (length start.free)) [
        | inl early ↦ record { n = 0; far = omega (arith, early); unstopped = tt }
        | inr past ↦
            let j = k - length start.free in
            let (r, taken_r, none_r) = running_of_back start.collector its.end.actor got
            (its.end.sent ++ option_to_list its.end.held) j q its.joined.collects
            (in_front its.end.sent (option_to_list its.end.held) j q
            (sym (in_back start.free its.end.sent k past) ∙ came_q)) none_q in
            record {
              n = suc j;
              far = omega (arith, past);
              unstopped = unstopped_upto s got j r
                  (stays_last s got start.stages its.parts (omega (
                    arith,
                    part_count s started holds start beginning core state its,
                  )) its.joined.steps its.joined.links) taken_r none_r;
            }
      ]

  fits_at : (b : ℕ) (p : ParcelView) (rest : List ParcelView) → b ≤ suc s.last
      → slice_get core.links (events.before (length core.stages) b) ≡ Some (p ∷ rest)
      → p.stop ≡ None → FitsBefore s.running s.bound s.last b p.load
  unfolding events.before
  fits_at zero p rest less e none =
      let left : its.end.left ≡ p ∷ rest = same_Some its.end.left (p ∷ rest)
      (sym (left_last s got its.parts its.end.left)
      ∙ ap (slice_get (map (λ (part : StagePart). part.left) its.parts ++ (its.end.left ∷ [])))
      (sym count)
      ∙ ap (λ (l : List (List ParcelView)). slice_get l (length core.stages)) links_are ∙ e) in
      let xs = received_by its.parts got in
      let is : at_head ≡ xs ++ (p ∷ rest) = its.joined.last_link
      ∙ ap (λ (l : List ParcelView). xs ++ l) left in
      let far = reached 0 (length xs) p (omega arith)
      (ap (λ (l : List ParcelView). slice_get l (length xs)) is ∙ there xs p rest) none in
      let spent = came_spent s started holds start beginning core state its far.n far.unstopped
      (related_so_far far.n far.unstopped) in
      elim (spent_there s (length start.free + far.n) xs p rest far.far
      (subst (AreSpent s (length start.free + far.n)) is spent)) [
        | inl clear ↦ clear_fits s p.load clear.1
        | inr memory ↦ absurd (true≢false (sym (ap is_some memory) ∙ ap is_some none))
      ]
  fits_at (suc b) p rest less e none =
      let parts_are = part_count s started holds start beginning core state its in
      let below : b < length its.parts = omega (arith, less, parts_are) in
      let (more, is) = left_at s got start.stages its.parts at_head its.end.left (p ∷ rest)
      its.joined.steps its.joined.links b below
      (ap (λ (l : List (List ParcelView)). slice_get l b) links_are ∙ e) in
      let xs = received_at its.parts got (suc b) in
      let made = made_at its.parts at_head (suc b) in
      let far = reached (suc b) (length xs) p (omega (arith, below))
      (ap (λ (l : List ParcelView). slice_get l (length xs)) is ∙ there xs p (rest ++ more)) none
      in
      let related = each_related s started holds start beginning core state its far.n
      far.unstopped (related_so_far far.n far.unstopped) (suc b)
      (omega (arith, below)) in
      let stays = stays_at s got start.stages its.parts at_head its.joined.steps b below in
      let in_time : 0 + length xs < s.rounds = omega (
        arith,
        made_few s got start.stages its.parts at_head s.rounds its.joined.steps its.joined.links
            (few s started holds start beginning core state its) b below,
        ap length is,
        length-append xs (p ∷ (rest ++ more)),
      ) in
      come_fits s (suc b) (0 + length xs) p.load in_time
      (subst (λ (why : Option Stop). IsKnown s (taken s started holds start beginning core state
      its (suc s.last)) (suc b) (0 + length xs) why p.load) none
      (known_at s (taken s started holds start beginning core state its (suc s.last))
      (length start.free + far.n) (suc b) 0 made (length xs) p (on_link (suc b)) far.far
      (ap (λ (l : List ParcelView). slice_get l (length xs)) is ∙ there xs p (rest ++ more))
      (subst AreRunning (sym (ap (take (length xs)) is ∙ take_at xs (p ∷ (rest ++ more)) (length xs)
      refl))
      (running_before xs p (rest ++ more) (subst StayStopped is stays) none))
      related
      (given_are s started holds start beginning core state its (suc b)
      (omega (arith, below)))))

pub parcels_fit : ParcelsFit
parcels_fit running by_source from rounds bound last circuit started start core is holds beginning
    state =
    fits_at (setting running by_source from rounds bound last circuit is) started holds start
    beginning core state (are_parts start core state)
