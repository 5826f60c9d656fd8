-- The parcels of the generic chain on each link, where memory is refused as it was, and how they
-- are related to those of the ring.
use Rattle.std.proofs.Common.{◌≡◌, refl, ap, ◌∙◌, subst, ℕ, zero, suc, ◌+◌, ◌<◌, ◌≤◌, List}
use Rattle.std.proofs.Common.{[], ◌∷◌, ◌++◌, length, take, Some, None, slice_get}
use Rattle.std.proofs.Common.{option_to_list, arith, append_assoc, length-append}
use Rattle.std.proofs.lemmas.List.{length-take-le}
use Rattle.strc_stage_core.specs.Actors.{Step}
use Rattle.strc_stage_core.specs.Parts as ring
use Rattle.strc_stage_core.specs.Parts.{received_by, AreLinked}
use Rattle.strc_stage_core.specs.States.{Runs}
use Rattle.strc_stage_core.proofs.Runs.{runs_length}
use Rattle.strc_stage_core.specs.Parcels.{ParcelView}
use Rattle.strc_sched_laws.specs.Fits.{Queues}
use Rattle.strc_elab_dataflow.specs.Parcels.{IsWorking}
use Rattle.strc_elab_dataflow.specs.Stages.{Stage.Works}
use Rattle.strc_elab_dataflow.specs.Workers.{AreSteps, AreParcels}
use Rattle.strc_stage_steps.specs.Carrying.{StagePart, made_by, made_at}
use Rattle.strc_stage_steps.specs.Steps.{stage_work}
use Rattle.strc_stage_steps.proofs.Follows.{Worker, Generic, GenericStage, all_made, made_steps}
use Rattle.strc_stage_steps.proofs.Follows.{made_length, Related, follows}
use Rattle.strc_stage_steps.proofs.Held.{IsHeld}
use Rattle.strc_stage_steps.proofs.Setting.{Setting, staging}

-- what was received from each link; past the stages it is what the collector received
abbrev pub received_at : List StagePart → (last : List ParcelView) → ℕ → List ParcelView
received_at [] last b = last
received_at (part ∷ parts) last zero = part.received
received_at (part ∷ parts) last (suc b) = received_at parts last b

module _ (s : Setting) where
  -- the first so many of a front are those of the whole
  pub related_front : (n : ℕ) (xs ys : List ParcelView) (others : List Generic)
      → Related s n (xs ++ ys) others → Related s n xs (take (length xs) others)
  related_front zero xs ys others related = tt
  related_front (suc n) [] ys others related = tt
  related_front (suc n) (p ∷ xs) ys [] related = absurd related
  related_front (suc n) (p ∷ xs) ys (parcel ∷ others) related =
      (related.0, λ e. related_front n xs ys others (related.1 e))

  -- fewer
  pub related_less : (n more : ℕ) → n ≤ more → (xs : List ParcelView) (others : List Generic)
      → Related s more xs others → Related s n xs others
  related_less zero more less xs others related = tt
  related_less (suc n) zero less xs others related = absurd (omega (arith, less))
  related_less (suc n) (suc more) less [] [] related = tt
  related_less (suc n) (suc more) less [] (parcel ∷ others) related = absurd related
  related_less (suc n) (suc more) less (p ∷ xs) [] related = absurd related
  related_less (suc n) (suc more) less (p ∷ xs) (parcel ∷ others) related = (
    related.0,
    λ e. related_less n more (omega (arith, less)) xs others (related.1 e),
  )

  module _ (now : Queues) (last : List ParcelView) where
    -- the parcels before each stage, where these come to the first
    abbrev pub links : (a : ℕ) → List StagePart → List Generic → ℕ → List Generic
    links a parts given zero = given
    links a [] given (suc b) = []
    links a (part ∷ parts) given (suc b) = links (suc a) parts
        (all_made s a (Works now) (take (length part.received) given) (made_by part)) b

    module _ (a : ℕ) (stage₀ : Worker) (part : StagePart) (parts : List StagePart)
        (given : List Generic)
        (runs : Runs (Step stage_work) stage₀ part.received (made_by part) part.actor)
        (link : part.sent ≡ received_by parts last ++ part.left)
        (long : length part.received ≤ length given) where
      abbrev taken : List Generic
      taken = take (length part.received) given

      abbrev next : List Generic
      next = all_made s a (Works now) taken (made_by part)

      taken_length : length taken ≡ length (made_by part)
      taken_length = length-take-le (length part.received) given long
          ∙ runs_length (Step stage_work) stage₀ part.received (made_by part) part.actor runs

      next_long : length (received_by parts last) ≤ length next
      next_long = omega (
        arith,
        made_length s a (Works now) taken (made_by part) taken_length,
        ap length link,
        length-append (received_by parts last) part.left,
        length-append part.sent (option_to_list part.held),
      )

      next_few : (most : ℕ) → length part.received ≤ most
          → length (received_by parts last) ≤ most
      next_few most few = omega (
        arith,
        few,
        runs_length (Step stage_work) stage₀ part.received (made_by part) part.actor runs,
        ap length link,
        length-append (received_by parts last) part.left,
        length-append part.sent (option_to_list part.held),
      )

      made_is : made_by part
          ≡ received_by parts last ++ (part.left ++ option_to_list part.held)
      made_is = ap (λ (l : List ParcelView). l ++ option_to_list part.held) link
          ∙ append_assoc (received_by parts last) part.left (option_to_list part.held)

    -- each stage took generic steps
    pub link_steps : (a : ℕ) (stages₀ : List Worker) (parts : List StagePart)
        (given : List Generic) → ring.AreSteps stage_work stages₀ parts → AreLinked parts last
        → length (received_by parts last) ≤ length given
        → (b c : ℕ) → c ≡ a + b → b < length parts
        → (end : GenericStage)
        × AreSteps (staging s) c (Works now)
        (take (length (received_at parts last b)) (links a parts given b))
        (links a parts given (suc b)) end
    link_steps a [] [] given steps linked long b c e less = absurd (omega (arith, less))
    link_steps a (stage₀ ∷ stages₀) (part ∷ parts) given (runs, steps) (link, linked) long zero c e
        less =
        let same : a ≡ c = omega (arith, e) in
        let (end, its) = made_steps s a (Works now) (take (length part.received) given)
        (made_by part) (taken_length a stage₀ part parts given runs link long) in (
          end,
          subst (λ (k : ℕ). AreSteps (staging s) k (Works now)
              (take (length part.received) given)
              (all_made s a (Works now) (take (length part.received) given) (made_by part)) end)
              same its,
        )
    link_steps a (stage₀ ∷ stages₀) (part ∷ parts) given (runs, steps) (link, linked) long (suc b)
        c e less =
        link_steps (suc a) stages₀ parts
        (all_made s a (Works now) (take (length part.received) given) (made_by part)) steps linked
        (next_long a stage₀ part parts given runs link long) b c (omega (arith, e))
        (omega (arith, less))
    link_steps a [] (part ∷ parts) given steps linked long b c e less = absurd steps
    link_steps a (stage₀ ∷ stages₀) [] given steps linked long b c e less = absurd steps

    -- what was made for each link is related, if what came to the first stage is
    pub link_related : (n : ℕ) (collection : List Generic) (a : ℕ) (stages₀ : List Worker)
        (parts : List StagePart) (first others : List ParcelView) (given : List Generic)
        → a + length parts ≡ suc s.last
        → ring.AreSteps stage_work stages₀ parts → AreLinked parts last
        → first ≡ received_by parts last ++ others
        → length (received_by parts last) ≤ length given
        → ((k c : ℕ) (stage : Worker) → c ≡ a + k → slice_get stages₀ k ≡ Some stage
        → (stage.stop ≡ None) × IsHeld s c stage.inner now)
        → ((c : ℕ) → c < suc s.last → IsWorking (staging s) c 0 now)
        → ((b c : ℕ) → c ≡ a + b → b ≤ length parts
        → AreParcels (staging s) collection c 0
        (take (length (received_at parts last b)) (links a parts given b)))
        → length (received_by parts last) ≤ s.rounds
        → Related s n first given
        → (b : ℕ) → b ≤ length parts → Related s n (made_at parts first b) (links a parts given b)
    link_related n collection a stages₀ parts first others given total steps linked is long heads
        working are few related zero less = related
    link_related n collection a [] [] first others given total steps linked is long heads working
        are few related (suc b) less = absurd (omega (arith, less))
    link_related n collection a (stage₀ ∷ stages₀) (part ∷ parts) first others given total
        all_steps all_linked is long heads working are few related (suc b) less =
        let runs = all_steps.0 in
        let link = all_linked.0 in
        let below : a < suc s.last = omega (arith, total) in
        let head = heads 0 a stage₀ (omega arith) refl in
        let front = related_front n part.received others given
        (subst (λ (l : List ParcelView). Related s n l given) is related) in
        let made = follows s collection a below n 0 stage₀ part.actor part.received (made_by part)
        now (take (length part.received) given) (omega (arith, few)) head.0 head.1
        (working a below) (are 0 a (omega arith) (omega arith)) front runs in
        link_related n collection (suc a) stages₀ parts (made_by part)
        (part.left ++ option_to_list part.held)
        (all_made s a (Works now) (take (length part.received) given) (made_by part))
        (omega (arith, total)) all_steps.1 all_linked.1
        (made_is a stage₀ part parts given runs link long)
        (next_long a stage₀ part parts given runs link long)
        (λ k c stage e there. heads (suc k) c stage (omega (arith, e)) there) working
        (λ b' c e less'. are (suc b') c (omega (arith, e)) (omega (arith, less')))
        (next_few a stage₀ part parts given runs link long s.rounds few) made b
        (omega (arith, less))
    link_related n collection a [] (part ∷ parts) first others given total steps linked is long
        heads working are few related (suc b) less = absurd steps
    link_related n collection a (stage₀ ∷ stages₀) [] first others given total steps linked is long
        heads working are few related (suc b) less = absurd steps

    -- nor does any stage take more
    pub last_few : (stages₀ : List Worker) (parts : List StagePart) (most : ℕ)
        → ring.AreSteps stage_work stages₀ parts → AreLinked parts last
        → length (received_by parts last) ≤ most → length last ≤ most
    last_few [] [] most steps linked few = few
    last_few (stage₀ ∷ stages₀) (part ∷ parts) most (runs, steps) (link, linked) few =
        last_few stages₀ parts most steps linked (omega (
          arith,
          few,
          runs_length (Step stage_work) stage₀ part.received (made_by part) part.actor runs,
          ap length link,
          length-append (received_by parts last) part.left,
          length-append part.sent (option_to_list part.held),
        ))
    last_few [] (part ∷ parts) most steps linked few = absurd steps
    last_few (stage₀ ∷ stages₀) [] most steps linked few = absurd steps

    -- the front of what was made for a link was received from it
    pub made_front : (stages₀ : List Worker) (parts : List StagePart)
        (first others : List ParcelView) → ring.AreSteps stage_work stages₀ parts
        → AreLinked parts last → first ≡ received_by parts last ++ others
        → (b : ℕ) → b ≤ length parts
        → (more : List ParcelView) × (made_at parts first b ≡ received_at parts last b ++ more)
    made_front stages₀ [] first others steps linked is zero less = (others, is)
    made_front stages₀ (part ∷ parts) first others steps linked is zero less = (others, is)
    made_front stages₀ [] first others steps linked is (suc b) less =
        absurd (omega (arith, less))
    made_front (stage₀ ∷ stages₀) (part ∷ parts) first others steps linked is (suc b) less =
        made_front stages₀ parts (made_by part) (part.left ++ option_to_list part.held) steps.1
        linked.1
        (ap (λ (l : List ParcelView). l ++ option_to_list part.held) linked.0
        ∙ append_assoc (received_by parts last) part.left (option_to_list part.held)) b
        (omega (arith, less))
    made_front [] (part ∷ parts) first others steps linked is (suc b) less = absurd steps
