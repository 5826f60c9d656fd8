-- Blocks are the items of their round, and lengths are what the counts say.
use Rattle.std.proofs.Common.{◌≡◌, refl, sym, ap, ◌∙◌, subst, ℕ, suc, ◌+◌, ◌-◌, ◌*◌, ◌<◌, ◌≤◌}
use Rattle.std.proofs.Common.{Bool, true, false, cond, List, [], ◌++◌, length, drop, ℤ, arith}
use Rattle.std.proofs.Common.{append_assoc, append-nil, length-append}
use Rattle.std.proofs.Common.{length-drop}
use Rattle.std.proofs.lemmas.List.{append_cancel_left}
use Rattle.std.proofs.lemmas.Bool.{lt-ltb}
use Rattle.std.proofs.Math.Seq.{drop-append_seam}
use Rattle.strc_elab_dataflow.specs.Node.{ByPort, total}
use Rattle.strc_elab_dataflow.specs.Histories.{Run}
use Rattle.strc_elab_dataflow.specs.Flat.{Origin, Origin.Nowhere, Origin.Input, Origin.Port, Source}
use Rattle.strc_elab_dataflow.specs.Flat.{runs_at, arrived, items_of}
use Rattle.strc_elab_dataflow.specs.Order.{counted, counts_after, supply_of, supply, fill}
use Rattle.strc_elab_dataflow.specs.Queues.{Fifo, FifoProgress, FifoProgress.FifoWent, fifo_go}
use Rattle.strc_elab_dataflow.specs.Queues.{FifoProgress.FifoStopped}
use Rattle.strc_elab_dataflow.proofs.Again.{total_repeats}
use Rattle.strc_elab_dataflow.proofs.Invariant.{supply_is_length}
use Rattle.strc_elab_dataflow.proofs.WholeRun.{counted-firing_count}
use Rattle.strc_elab_dataflow.specs.Cut.{IsFrom, AllIn, IsFaultlessIn}
use Rattle.strc_elab_dataflow.specs.Staging.{Staging, joined, before, in_stage, counts, after}
use Rattle.strc_elab_dataflow.specs.Staging.{IsStaging}
use Rattle.strc_elab_dataflow.specs.Stages.{entered}
use Rattle.strc_elab_dataflow.specs.Parcels.{begun_at, items_in, IsDue, HasMoved}
use Rattle.strc_elab_dataflow.specs.StageLaws.{BlocksAreItems, BlocksHaveRates, StepFits}
use Rattle.strc_elab_dataflow.specs.StageLaws.{counts_begun}
use Rattle.strc_elab_dataflow.proofs.Cut.{cut_in}
use Rattle.strc_elab_dataflow.proofs.Orders.{counted_append, counted_same, counted_away, all_front}
use Rattle.strc_elab_dataflow.proofs.Frame.{spoken_after}
use Rattle.strc_elab_dataflow.proofs.Parts.{part_counts, part_same, part_at}
use Rattle.strc_elab_dataflow.proofs.Parts.{part_faultless_before}
use Rattle.strc_elab_dataflow.proofs.Segments.{less_before, in_next, not_in, before_not}
use Rattle.strc_elab_dataflow.proofs.Begun.{begun_early, begun_late, stages_closed, old_count}
use Rattle.strc_elab_dataflow.proofs.Begun.{begun_exact, alone}
use Rattle.strc_elab_dataflow.proofs.Steps.{later', begun', runs', IsThere, Comes, comes_to}
use Rattle.strc_elab_dataflow.proofs.Sent.{crossed, due_at}

pub fifo_same : {State Cause Word : Type 0} (a b : Fifo State Cause Word)
    → ◌≡◌ {A = FifoProgress State Cause Word} (FifoWent a) (FifoWent b) → a ≡ b
fifo_same a b e = cc

module _ {Code State Cause Word : Type 0} (plan : Staging Code State Cause Word)
    (is : IsStaging plan) where
  -- Without a fault, a node before a stage has pushed what the counts say.
  pub pushed_by : (b t : ℕ) → t ≤ plan.rounds
      → IsFaultlessIn (before plan.stage_of b) (after plan t) → (v port : ℕ)
      → before plan.stage_of b v ≡ true → length ((after plan t v).pushes port)
      ≡ total (plan.meaning.pushed (plan.graph.code v)) (counts plan t v) port
  unfolding runs_at
  pushed_by b t within fine v port inside =
      let part = before plan.stage_of b in
      let closed = stages_closed plan is b in
      let at = part_at plan part is.solved closed t within fine in
      let exact = at.1.exact t (omega arith) within in
      (is.solved.keeps v).kept (counts plan t v) (plan.inputs t v)
      (ap (λ (r : Run State Cause Word). r.fired)
      (sym (part_same plan part is.solved closed t within v inside))
      ∙ exact.fired v
      ∙ ap (λ (f : ℕ → ℕ). f v) (part_counts plan part t)
      ∙ cut_in part (counts plan t) v inside)
      (fine v inside) port

  module _ (b t : ℕ) (is_round : t < plan.rounds)
      (fine : IsFaultlessIn (before plan.stage_of b) (after plan (suc t))) where
    fine_before : IsFaultlessIn (before plan.stage_of b) (after plan t)
    fine_before = part_faultless_before plan (before plan.stage_of b) is.solved
        (stages_closed plan is b) t (suc t) (omega arith) is_round fine

    length_by : (u q : ℕ) (block : List ℤ)
        → (begun_at plan b t u).pushes q ≡ (after plan t u).pushes q ++ block → (test : Bool)
        → before plan.stage_of b u ≡ test
        → length block + total (plan.meaning.pushed (plan.graph.code u)) (counts plan t u) q
        ≡ total (plan.meaning.pushed (plan.graph.code u)) (counts_begun plan b t u) q
    unfolding counts_begun
    length_by u q block e true early =
        ap (λ (n : ℕ). length block + n) (sym (pushed_by b t (omega arith) fine_before u q early))
        ∙ (let f : length block + length ((after plan t u).pushes q)
        ≡ length ((after plan t u).pushes q ++ block) =
        omega (arith, length-append ((after plan t u).pushes q) block) in f)
        ∙ ap length (sym e)
        ∙ ap (λ (r : Run State Cause Word). length (r.pushes q)) (begun_early plan b t u early)
        ∙ pushed_by b (suc t) is_round fine u q early
        ∙ ap (λ (test : Bool). total (plan.meaning.pushed (plan.graph.code u))
        (cond test (counts plan (suc t) u) (counts plan t u)) q) (sym early)
    length_by u q block e false late =
        let none : block ≡ [] = append_cancel_left ((after plan t u).pushes q) block []
        (sym e ∙ ap (λ (r : Run State Cause Word). r.pushes q) (begun_late plan b t u late)
        ∙ sym (append-nil ((after plan t u).pushes q))) in
        omega (
          arith,
          ap length none,
          ap (λ (test : Bool). total (plan.meaning.pushed (plan.graph.code u))
              (cond test (counts plan (suc t) u) (counts plan t u)) q) late,
        )

    -- An origin's items with those of the round.
    item_case : (origin : Origin) (block : List ℤ)
        → items_of plan.input (begun_at plan b t) origin
        ≡ items_of plan.input (after plan t) origin ++ block
        → (block ≡ items_in plan b t origin)
        × (length block + supply_of plan.meaning plan.graph plan.input (counts plan t) origin
        ≡ supply_of plan.meaning plan.graph plan.input (counts_begun plan b t) origin)
    unfolding items_of items_in supply_of
    item_case Nowhere block e = (sym e, omega (arith, ap length e))
    item_case Input block e =
        let none : block ≡ [] = append_cancel_left plan.input block []
        (sym e ∙ sym (append-nil plan.input)) in
        (none, omega (arith, ap length none))
    item_case (Port u q) block e = (
      sym (ap (drop (length ((after plan t u).pushes q))) e
          ∙ drop-append_seam ((after plan t u).pushes q) block),
      length_by u q block e (before plan.stage_of b u) refl,
    )

-- Blocks of a parcel.
pub blocks_are_items : {Code State Cause Word : Type 0} → BlocksAreItems Code State Cause Word
unfolding arrived
blocks_are_items plan b t blocks words is is_round moved v port after_it less =
    item_case plan is b t is_round moved.fine (plan.graph.source v port).origin (blocks v port)
    (append_cancel_left (plan.graph.source v port).enqueued
    (items_of plan.input (begun_at plan b t) (plan.graph.source v port).origin)
    (items_of plan.input (after plan t) (plan.graph.source v port).origin ++ blocks v port)
    (moved.blocks_are v port after_it less
    ∙ append_assoc (plan.graph.source v port).enqueued
    (items_of plan.input (after plan t) (plan.graph.source v port).origin) (blocks v port)))

module _ {Code State Cause Word : Type 0} (plan : Staging Code State Cause Word)
    (is : IsStaging plan) (a t : ℕ) (due : IsDue plan a t) where
  abbrev part : ℕ → Bool
  part = before plan.stage_of (suc a)

  abbrev starts : ℕ → ℕ
  starts = begun' plan is a t due

  -- The counts of the whole run after a front of the segment.
  abbrev reached : List ℕ → ℕ → ℕ
  reached xs = counted (counts plan t) (joined plan.segment a ++ xs)

  count_is : (xs : List ℕ) (v : ℕ) → part v ≡ true → counted starts xs v ≡ reached xs v
  count_is xs v inside =
      ap (λ (f : ℕ → ℕ). f v) (sym (counted_append (joined plan.segment a) xs
      (counts (alone plan is a t due) t)))
      ∙ counted_same (joined plan.segment a ++ xs)
      (counts (alone plan is a t due) t) (counts plan t) v
      (old_count plan is a t due v inside)

  supply_is : (xs : List ℕ) (source : Source) → IsFrom part source.origin
      → supply plan.meaning plan.graph plan.input (counted starts xs) source
      ≡ supply plan.meaning plan.graph plan.input (reached xs) source
  unfolding supply supply_of
  supply_is xs source inside =
      ap (λ (n : ℕ). length source.enqueued + n) (by_origin source.origin inside)
    where
      by_origin : (origin : Origin) → IsFrom part origin
          → supply_of plan.meaning plan.graph plan.input (counted starts xs) origin
          ≡ supply_of plan.meaning plan.graph plan.input (reached xs) origin
      by_origin Nowhere from = refl
      by_origin Input from = refl
      by_origin (Port u q) from = ap (λ (n : ℕ).
          total (plan.meaning.pushed (plan.graph.code u)) n q) (count_is xs u from)

  module _ (xs rest : List ℕ) (split : plan.segment a ≡ xs ++ rest) (next : Fifo State Cause Word)
      (there : IsThere plan is a t due xs next) where
    come_length : (v port : ℕ)
        → length (arrived plan.input there.all.runs (plan.graph.source v port))
        ≡ supply plan.meaning plan.graph plan.input (counted starts xs) (plan.graph.source v port)
    come_length v port =
        ap (λ (f : ℕ → Run State Cause Word).
        length (arrived plan.input f (plan.graph.source v port))) there.runs_are
        ∙ supply_is_length plan.meaning plan.graph plan.input is.solved.keeps (counted starts xs)
        (later' plan is a t due) there.exact
        (plan.graph.source v port)

    own_fired : (v : ℕ) → in_stage plan.stage_of a v ≡ true
        → (next.runs v).fired ≡ reached xs v
    unfolding spoken_after
    own_fired v v_own =
        ap (λ (r : Run State Cause Word). r.fired) (sym (there.framed.own_runs v v_own))
        ∙ ap (λ (f : ℕ → Run State Cause Word). (f v).fired) there.runs_are ∙ there.exact.fired v
        ∙ count_is xs v (in_next plan.stage_of a v v_own)

    own_fill : (v port : ℕ) → in_stage plan.stage_of a v ≡ true
        → port < plan.meaning.ports (plan.graph.code v)
        → length (next.queues v port)
        ≡ fill plan.meaning plan.graph plan.input (reached xs) v port
    unfolding fill
    own_fill v port v_own less =
        let inside = in_next plan.stage_of a v v_own in
        ap length (sym (there.framed.own_queues v port v_own
        (lt-ltb port (plan.meaning.ports (plan.graph.code v)) less))
        ∙ there.queued.rest v port less)
        ∙ length-drop (total (plan.meaning.popped (plan.graph.code v)) (there.all.runs v).fired
        port) (arrived plan.input there.all.runs (plan.graph.source v port))
        ∙ ap (λ (n : ℕ). length (arrived plan.input there.all.runs (plan.graph.source v port))
        - total (plan.meaning.popped (plan.graph.code v)) n port)
        (ap (λ (f : ℕ → Run State Cause Word). (f v).fired) there.runs_are ∙ there.exact.fired v
        ∙ count_is xs v inside)
        ∙ ap (λ (n : ℕ). n - total (plan.meaning.popped (plan.graph.code v)) (reached xs v) port)
        (come_length v port ∙ supply_is xs (plan.graph.source v port)
        (stages_closed plan is (suc a) v port inside))

    -- A node of a later stage isn't in the segment.
    away_count : (v : ℕ) → in_stage plan.stage_of a v ≡ false → (c : ℕ → ℕ) → counted c xs v ≡ c v
    away_count v away c = omega (
      arith,
      counted-firing_count xs c v,
      counted_away (in_stage plan.stage_of a) xs
          (all_front (in_stage plan.stage_of a) xs rest
          (subst (AllIn (in_stage plan.stage_of a)) split (is.staged.own a due.is_stage))) v away,
    )

    sent_fill : (v port : ℕ) → a < plan.stage_of v
        → port < plan.meaning.ports (plan.graph.code v)
        → length (next.queues v port) + supply_of plan.meaning plan.graph plan.input
        (counted (counts plan t) (joined plan.segment a)) (plan.graph.source v port).origin
        ≡ supply_of plan.meaning plan.graph plan.input (reached xs)
        (plan.graph.source v port).origin
    unfolding supply supply_of
    sent_fill v port after_this less =
        by_origin (plan.graph.source v port).origin grown
      where
        source : Source
        source = plan.graph.source v port

        grown : supply_of plan.meaning plan.graph plan.input starts
            (plan.graph.source v port).origin + length (next.queues v port)
            ≡ supply_of plan.meaning plan.graph plan.input (counted starts xs)
            (plan.graph.source v port).origin
        grown = omega (
          arith,
          ap length (crossed plan is a t due xs next there v
              port after_this less),
          length-append (arrived plan.input (runs' plan is a t due) (plan.graph.source v port))
              (next.queues v port),
          come_length v port,
          supply_is_length plan.meaning plan.graph plan.input is.solved.keeps starts
              (later' plan is a t due)
              (begun_exact plan is a t due)
              (plan.graph.source v port),
        )

        node_by : (u q : ℕ) (test : Bool) → part u ≡ test
            → supply_of plan.meaning plan.graph plan.input starts (Port u q)
            + length (next.queues v port)
            ≡ supply_of plan.meaning plan.graph plan.input (counted starts xs) (Port u q)
            → length (next.queues v port) + supply_of plan.meaning plan.graph plan.input
            (counted (counts plan t) (joined plan.segment a)) (Port u q)
            ≡ supply_of plan.meaning plan.graph plan.input (reached xs) (Port u q)
        node_by u q true e grows = omega (
          arith,
          grows,
          ap (λ (n : ℕ). total (plan.meaning.pushed (plan.graph.code u)) n q)
              (counted_same (joined plan.segment a)
              (counts (alone plan is a t due) t)
              (counts plan t) u
              (old_count plan is a t due u e)),
          ap (λ (n : ℕ). total (plan.meaning.pushed (plan.graph.code u)) n q) (count_is xs u e),
        )
        node_by u q false e grows =
            let away = not_in plan.stage_of a u (λ same.
            omega (arith, before_not plan.stage_of (suc a) u e)) in
            omega (
              arith,
              grows,
              ap (λ (n : ℕ). total (plan.meaning.pushed (plan.graph.code u)) n q)
                  (away_count u away starts),
              ap (λ (n : ℕ). total (plan.meaning.pushed (plan.graph.code u)) n q)
                  (ap (λ (f : ℕ → ℕ). f u)
                  (counted_append (joined plan.segment a) xs (counts plan t))
                  ∙ away_count u away (counted (counts plan t) (joined plan.segment a))),
            )

        by_origin : (origin : Origin)
            → supply_of plan.meaning plan.graph plan.input starts origin
            + length (next.queues v port)
            ≡ supply_of plan.meaning plan.graph plan.input (counted starts xs) origin
            → length (next.queues v port) + supply_of plan.meaning plan.graph plan.input
            (counted (counts plan t) (joined plan.segment a)) origin
            ≡ supply_of plan.meaning plan.graph plan.input (reached xs) origin
        by_origin Nowhere grows = omega (arith, grows)
        by_origin Input grows = omega (arith, grows)
        by_origin (Port u q) grows = node_by u q (part u) refl grows

  fits_by : (xs rest : List ℕ) → plan.segment a ≡ xs ++ rest
      → (progress : FifoProgress State Cause Word) (next : Fifo State Cause Word)
      → Comes plan is a t due xs progress
      → progress ≡ FifoWent next
      → ((v : ℕ) → in_stage plan.stage_of a v ≡ true → (next.runs v).fired ≡ reached xs v)
      × ((v port : ℕ) → in_stage plan.stage_of a v ≡ true
      → port < plan.meaning.ports (plan.graph.code v)
      → length (next.queues v port)
      ≡ fill plan.meaning plan.graph plan.input (reached xs) v port)
      × ((v port : ℕ) → a < plan.stage_of v → port < plan.meaning.ports (plan.graph.code v)
      → length (next.queues v port) + supply_of plan.meaning plan.graph plan.input
      (counted (counts plan t) (joined plan.segment a)) (plan.graph.source v port).origin
      ≡ supply_of plan.meaning plan.graph plan.input (reached xs)
      (plan.graph.source v port).origin)
  fits_by xs rest split (FifoWent other) next there e =
      let same : other ≡ next = fifo_same other next e in
      let here = subst (IsThere plan is a t due xs) same there in (
        own_fired xs rest split next here,
        own_fill xs rest split next here,
        sent_fill xs rest split next here,
      )
  fits_by xs rest split (FifoStopped stop) next first e = absurd (grind arith)

-- Lengths after each front of a stage's segment.
pub step_fits : {Code State Cause Word : Type 0} → StepFits Code State Cause Word
step_fits plan a t now next blocks words done rest is is_stage is_round working moved split went =
    let due = due_at plan a t now blocks words is_stage is_round working moved in
    fits_by plan is a t due done rest split
    (fifo_go plan.meaning plan.graph done (entered plan a now blocks)) next
    (comes_to plan is a t due now blocks words working moved done rest split) went

-- A block from a port at which the rate repeats.
pub block_at_rate : {Code State Cause Word : Type 0} (plan : Staging Code State Cause Word)
    (b t : ℕ) (blocks : ℕ → ByPort) (words : ℕ → List Word) (v port u q : ℕ) → IsStaging plan
    → ((i : ℕ) → plan.startup u ≤ i → plan.meaning.pushed (plan.graph.code u) i q
    ≡ plan.meaning.pushed (plan.graph.code u) (plan.startup u) q)
    → t < plan.rounds → HasMoved plan b t blocks words → b ≤ plan.stage_of v
    → port < plan.meaning.ports (plan.graph.code v)
    → (plan.graph.source v port).origin ≡ Port u q → plan.stage_of u < b
    → length (blocks v port)
    ≡ plan.round u * plan.meaning.pushed (plan.graph.code u) (plan.startup u) q
unfolding supply_of counts_begun counts_after
block_at_rate plan b t blocks words v port u q is repeats is_round moved after_it less from early =
    let count = (blocks_are_items plan b t blocks words is is_round moved v port after_it less).1 in
    let at_port = subst (λ (origin : Origin). length (blocks v port)
    + supply_of plan.meaning plan.graph plan.input (counts plan t) origin
    ≡ supply_of plan.meaning plan.graph plan.input (counts_begun plan b t) origin) from count in
    let rate = plan.meaning.pushed (plan.graph.code u) in
    omega (
      arith,
      at_port,
      ap (λ (test : Bool). total rate (cond test (counts plan (suc t) u) (counts plan t u)) q)
          (less_before plan.stage_of b u early),
      ap (λ (n : ℕ). total rate n q)
          (let e : counts plan (suc t) u ≡ counts plan t u + plan.round u = omega arith in e),
      total_repeats rate q (plan.startup u) repeats (counts plan t u) (omega arith)
          (plan.round u),
    )

-- Blocks where rates repeat.
pub blocks_have_rates : {Code State Cause Word : Type 0} → BlocksHaveRates Code State Cause Word
blocks_have_rates plan b t blocks words v port u q is repeats =
    block_at_rate plan b t blocks words v port u q is (λ i more. repeats.pushes_repeat u i q more)
