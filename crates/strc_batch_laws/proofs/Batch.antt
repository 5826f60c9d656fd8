-- A batch's order is valid: where a segment fires for the t-th time in the batch, its own nodes
-- have fired as often as in round t, and those of earlier stages no less often.
use Rattle.std.proofs.Common.{◌≡◌, refl, sym, ap, ◌∙◌, subst, ℕ, zero, suc, ◌+◌, ◌-◌, ◌*◌, ◌<◌, ◌≤◌}
use Rattle.std.proofs.Common.{Bool, true, false, cond, eqb, List, [], ◌∷◌, ◌++◌, ℤ, arith}
use Rattle.std.proofs.Common.{mul-le-mul_right}
use mathlib.Core.Logic.{inl, inr}
use Rattle.std.proofs.lemmas.Bool.{cases_lt}
use Rattle.strc_elab_dataflow.specs.Node.{Meaning, total}
use Rattle.strc_elab_dataflow.specs.Flat.{Origin, Origin.Nowhere, Origin.Input, Origin.Port, Graph}
use Rattle.strc_elab_dataflow.specs.Order.{raised, counted, firing_count, counts_after, supply_of}
use Rattle.strc_elab_dataflow.specs.Order.{supply, IsReady, IsOrder}
use Rattle.strc_elab_dataflow.specs.Cut.{cut, AllIn}
use Rattle.strc_elab_dataflow.specs.Staging.{joined, repeated, in_stage, IsFromUpTo}
use Rattle.strc_elab_dataflow.specs.Staging.{IsStaged}
use Rattle.strc_elab_dataflow.proofs.Counts.{count_append, count_none}
use Rattle.strc_elab_dataflow.proofs.Orders.{all_append, counted_away, order_front}
use Rattle.strc_elab_dataflow.proofs.Orders.{order_rest}
use Rattle.strc_elab_dataflow.proofs.Segments.{less_before, not_before, in_is, not_in, joined_count}
use Rattle.strc_elab_dataflow.proofs.WholeRun.{counted-firing_count}
use Rattle.strc_batch_laws.specs.Batches.{batched, batch_order, batch_counts, BatchIsOrder}

pub count_repeated : (t : ℕ) (xs : List ℕ) (v : ℕ)
    → firing_count (repeated t xs) v ≡ t * firing_count xs v
unfolding repeated
count_repeated zero xs v = omega (arith, count_none v)
count_repeated (suc t) xs v = omega (
  arith,
  count_append (repeated t xs) xs v,
  count_repeated t xs v,
)

-- The batch's first segments fire b times what the round's do.
pub count_batched : (b : ℕ) (segment : ℕ → List ℕ) (a v : ℕ)
    → firing_count (joined (batched b segment) a) v ≡ b * firing_count (joined segment a) v
unfolding joined
count_batched b segment zero v =
    count_none v ∙ (let e : 0 ≡ b * 0 = omega arith in e)
    ∙ ap (λ (n : ℕ). b * n) (sym (count_none v))
count_batched b segment (suc a) v = omega (
  arith,
  count_append (joined (batched b segment) a) (repeated b (segment a)) v,
  ap (λ (n : ℕ). b * n) (count_append (joined segment a) (segment a) v),
  count_batched b segment a v,
  count_repeated b (segment a) v,
)

total_more : (rate : ℕ → ℕ → ℕ) (port n more : ℕ)
    → total rate n port ≤ total rate (n + more) port
unfolding total
total_more rate port n zero =
    let e : n ≡ n + 0 = omega arith in
    subst (λ (m : ℕ). total rate n port ≤ total rate m port) e (omega arith)
total_more rate port n (suc more) =
    let e : suc (n + more) ≡ n + suc more = omega arith in
    let step : total rate n port ≤ total rate (suc (n + more)) port
    = omega (arith, total_more rate port n more) in
    subst (λ (m : ℕ). total rate n port ≤ total rate m port) e step

pub total_grows : (rate : ℕ → ℕ → ℕ) (port n later : ℕ) → n ≤ later
    → total rate n port ≤ total rate later port
total_grows rate port n later less =
    let e : n + (later - n) ≡ later = omega arith in
    subst (λ (m : ℕ). total rate n port ≤ total rate m port) e
    (total_more rate port n (later - n))

module _ {Code State Cause Word : Type 0} (meaning : Meaning Code State Cause Word)
    (graph : Graph Code) (input : List ℤ) where
  pub order_both : (xs ys : List ℕ) (counts : ℕ → ℕ) → IsOrder meaning graph input counts xs
      → IsOrder meaning graph input (counted counts xs) ys
      → IsOrder meaning graph input counts (xs ++ ys)
  unfolding counted
  order_both [] ys counts front rest = rest
  order_both (node ∷ xs) ys counts front rest =
      (front.0, order_both xs ys (raised counts node) front.1 rest)

  -- An order of segments is valid in each of them.
  segment_valid : (segment : ℕ → List ℕ) (counts : ℕ → ℕ) (a more : ℕ)
      → IsOrder meaning graph input counts (joined segment (suc a + more))
      → IsOrder meaning graph input (counted counts (joined segment a)) (segment a)
  unfolding joined
  segment_valid segment counts a zero valid =
      let e : suc a + 0 ≡ suc a = omega arith in
      order_rest meaning graph input (joined segment a) (segment a) counts
      (subst (λ (n : ℕ). IsOrder meaning graph input counts (joined segment n)) e valid)
  segment_valid segment counts a (suc more) valid =
      let e : suc a + suc more ≡ suc (suc a + more) = omega arith in
      segment_valid segment counts a more
      (order_front meaning graph input (joined segment (suc a + more)) (segment (suc a + more))
      counts
      (subst (λ (n : ℕ). IsOrder meaning graph input counts (joined segment n)) e valid))

  module _ (stage_of : ℕ → ℕ)
      (backward : (node port : ℕ)
      → IsFromUpTo stage_of (stage_of node) (graph.source node port).origin) (a : ℕ) where
    -- The nodes of a stage have fired as often, those of earlier stages no less often.
    pub record IsAhead (c d : ℕ → ℕ) : Type 0 where
      pub own : (v : ℕ) → stage_of v ≡ a → c v ≡ d v
      pub earlier : (v : ℕ) → stage_of v < a → c v ≤ d v

    ahead_next : (c d : ℕ → ℕ) (node : ℕ) → IsAhead c d → IsAhead (raised c node) (raised d node)
    unfolding raised
    ahead_next c d node ahead = record {
      own = λ v e. own_by v (eqb v node) (ahead.own v e);
      earlier = λ v less. earlier_by v (eqb v node) (ahead.earlier v less);
    }
      where
        own_by : (v : ℕ) (test : Bool) → c v ≡ d v
            → cond test (suc (c v)) (c v) ≡ cond test (suc (d v)) (d v)
        own_by v true e = ap suc e
        own_by v false e = e

        earlier_by : (v : ℕ) (test : Bool) → c v ≤ d v
            → cond test (suc (c v)) (c v) ≤ cond test (suc (d v)) (d v)
        earlier_by v true less = omega arith
        earlier_by v false less = less

    no_less : (c d : ℕ → ℕ) → IsAhead c d → (u : ℕ) → stage_of u ≤ a → c u ≤ d u
    no_less c d ahead u less = elim (cases_lt (stage_of u) a) [
      | inl earlier ↦ ahead.earlier u earlier
      | inr more ↦ (let e : stage_of u ≡ a = omega arith in omega (arith, ahead.own u e))
    ]

    more_come : (c d : ℕ → ℕ) → IsAhead c d → (origin : Origin) → IsFromUpTo stage_of a origin
        → supply_of meaning graph input c origin ≤ supply_of meaning graph input d origin
    unfolding supply_of
    more_come c d ahead Nowhere up = omega arith
    more_come c d ahead Input up = omega arith
    more_come c d ahead (Port u q) up = total_grows (meaning.pushed (graph.code u)) q (c u) (d u)
        (no_less c d ahead u up)

    ready_ahead : (c d : ℕ → ℕ) (node : ℕ) → IsAhead c d → stage_of node ≡ a
        → IsReady meaning graph input c node → IsReady meaning graph input d node
    unfolding supply
    ready_ahead c d node ahead here ready port less =
        let now : total (meaning.popped (graph.code node)) (d node) port
        + meaning.window (graph.code node) (d node) port
        ≤ supply meaning graph input c (graph.source node port)
        = subst (λ (n : ℕ). total (meaning.popped (graph.code node)) n port
        + meaning.window (graph.code node) n port
        ≤ supply meaning graph input c (graph.source node port)) (ahead.own node here)
        (ready port less) in
        omega (
          arith,
          now,
          more_come c d ahead (graph.source node port).origin
              (subst (λ (s : ℕ). IsFromUpTo stage_of s (graph.source node port).origin) here
              (backward node port)),
        )

    pub order_ahead : (order : List ℕ) (c d : ℕ → ℕ) → IsAhead c d
        → AllIn (in_stage stage_of a) order → IsOrder meaning graph input c order
        → IsOrder meaning graph input d order
    order_ahead [] c d ahead all valid = tt
    order_ahead (node ∷ order) c d ahead all valid = (
      ready_ahead c d node ahead (in_is stage_of a node all.0) valid.0,
      order_ahead order (raised c node) (raised d node) (ahead_next c d node ahead) all.1 valid.1,
    )

module _ {Code : Type 0} (graph : Graph Code) (stage_of : ℕ → ℕ) (segment : ℕ → List ℕ)
    (stages : ℕ) (round_order : List ℕ) (round : ℕ → ℕ) (b : ℕ)
    (staged : IsStaged graph stage_of segment stages round_order)
    (round_counts : (node : ℕ) → firing_count round_order node ≡ round node) where
  -- How often a node has fired in a round before a stage.
  pub earlier_count : (a v : ℕ) → a ≤ stages → stage_of v < a
      → firing_count (joined segment a) v ≡ round v
  unfolding cut
  earlier_count a v within less =
      joined_count graph stage_of segment stages round_order staged round round_counts a within v
      ∙ ap (λ (t : Bool). cond t (round v) 0) (less_before stage_of a v less)

  pub later_count : (a v : ℕ) → a ≤ stages → a ≤ stage_of v
      → firing_count (joined segment a) v ≡ 0
  unfolding cut
  later_count a v within more =
      joined_count graph stage_of segment stages round_order staged round round_counts a within v
      ∙ ap (λ (t : Bool). cond t (round v) 0) (not_before stage_of a v more)

  pub own_count : (a v : ℕ) → a < stages → stage_of v ≡ a → firing_count (segment a) v ≡ round v
  unfolding joined
  own_count a v within here = omega (
    arith,
    count_append (joined segment a) (segment a) v,
    earlier_count (suc a) v within (omega arith),
    later_count a v (omega arith) (omega arith),
  )

  pub other_count : (a v : ℕ) → a < stages → (stage_of v ≡ a → ⊥) → firing_count (segment a) v ≡ 0
  other_count a v within differ = counted_away (in_stage stage_of a) (segment a)
      (staged.own a within) v (not_in stage_of a v differ)

  pub batch_count : (v : ℕ)
      → firing_count (batch_order b segment stages) v ≡ batch_counts b round v
  batch_count v = count_batched b segment stages v
      ∙ ap (λ (n : ℕ). b * n) (earlier_count stages v (omega arith) (staged.within v))

  repeated_in : (t a : ℕ) → a < stages → AllIn (in_stage stage_of a) (repeated t (segment a))
  unfolding repeated
  repeated_in zero a within = tt
  repeated_in (suc t) a within = all_append (in_stage stage_of a) (repeated t (segment a))
      (segment a) (repeated_in t a within) (staged.own a within)

  pub batch_staged : IsStaged graph stage_of (batched b segment) stages
      (batch_order b segment stages)
  batch_staged = record {
    own = λ a within. repeated_in b a within;
    order = refl;
    within = staged.within;
    backward = staged.backward;
  }

  module _ {State Cause Word : Type 0} (meaning : Meaning Code State Cause Word)
      (input : List ℤ) (counts : ℕ → ℕ)
      (valid : (t : ℕ) → t < b
      → IsOrder meaning graph input (counts_after counts round t) round_order) where
    -- The counts before a segment in a round.
    in_round : ℕ → ℕ → ℕ → ℕ
    in_round t a = counted (counts_after counts round t) (joined segment a)

    -- And in the batch, where the segment has fired so many times.
    in_batch : ℕ → ℕ → ℕ → ℕ
    in_batch t a = counted (counted counts (joined (batched b segment) a)) (repeated t (segment a))

    in_round_is : (t a v : ℕ)
        → in_round t a v ≡ (counts v + t * round v) + firing_count (joined segment a) v
    unfolding in_round counts_after
    in_round_is t a v = counted-firing_count (joined segment a) (counts_after counts round t) v

    in_batch_is : (t a v : ℕ) → in_batch t a v
        ≡ (counts v + b * firing_count (joined segment a) v) + t * firing_count (segment a) v
    unfolding in_batch
    in_batch_is t a v = omega (
      arith,
      counted-firing_count (repeated t (segment a))
          (counted counts (joined (batched b segment) a)) v,
      counted-firing_count (joined (batched b segment) a) counts v,
      count_batched b segment a v,
      count_repeated t (segment a) v,
    )

    ahead : (t a : ℕ) → t < b → a < stages
        → IsAhead meaning graph input stage_of staged.backward a (in_round t a) (in_batch t a)
    ahead t a less within = record { own = own_at; earlier = earlier_at }
      where
        own_at : (v : ℕ) → stage_of v ≡ a → in_round t a v ≡ in_batch t a v
        own_at v here =
            in_round_is t a v
            ∙ ap (λ (n : ℕ). (counts v + t * round v) + n)
            (later_count a v (omega arith) (omega arith))
            ∙ (let e : (counts v + t * round v) + 0 ≡ (counts v + b * 0) + t * round v
            = omega arith in e)
            ∙ ap (λ (n : ℕ). (counts v + b * n) + t * round v)
            (sym (later_count a v (omega arith) (omega arith)))
            ∙ ap (λ (n : ℕ). (counts v + b * firing_count (joined segment a) v) + t * n)
            (sym (own_count a v within here))
            ∙ sym (in_batch_is t a v)

        earlier_at : (v : ℕ) → stage_of v < a → in_round t a v ≤ in_batch t a v
        earlier_at v before_it =
            let batch : in_batch t a v ≡ (counts v + b * round v) + t * firing_count (segment a) v
            = in_batch_is t a v
            ∙ ap (λ (n : ℕ). (counts v + b * n) + t * firing_count (segment a) v)
            (earlier_count a v (omega arith) before_it) in
            let round_is : in_round t a v ≡ (counts v + t * round v) + round v
            = in_round_is t a v
            ∙ ap (λ (n : ℕ). (counts v + t * round v) + n)
            (earlier_count a v (omega arith) before_it) in
            let more : suc t * round v ≤ b * round v = mul-le-mul_right (round v) less in
            omega (arith, batch, round_is, more)

    in_segment : (t a : ℕ) → t < b → a < stages
        → IsOrder meaning graph input (in_round t a) (segment a)
    unfolding in_round
    in_segment t a less within =
        let e : stages ≡ suc a + (stages - suc a) = omega arith in
        segment_valid meaning graph input segment (counts_after counts round t) a (stages - suc a)
        (subst (λ (l : List ℕ). IsOrder meaning graph input (counts_after counts round t) l)
        (staged.order ∙ ap (joined segment) e) (valid t less))

    repetition : (t a : ℕ) → t ≤ b → a < stages
        → IsOrder meaning graph input (counted counts (joined (batched b segment) a))
        (repeated t (segment a))
    unfolding repeated in_batch
    repetition zero a less within = tt
    repetition (suc t) a less within =
        order_both meaning graph input (repeated t (segment a)) (segment a)
        (counted counts (joined (batched b segment) a))
        (repetition t a (omega arith) within)
        (order_ahead meaning graph input stage_of staged.backward a (segment a) (in_round t a)
        (in_batch t a) (ahead t a less within) (staged.own a within) (in_segment t a less within))

    batch_valid : (a : ℕ) → a ≤ stages
        → IsOrder meaning graph input counts (joined (batched b segment) a)
    unfolding joined
    batch_valid zero within = tt
    batch_valid (suc a) within =
        order_both meaning graph input (joined (batched b segment) a) (batched b segment a) counts
        (batch_valid a (omega arith)) (repetition b a (omega arith) within)

    pub batch_is_order : IsOrder meaning graph input counts (batch_order b segment stages)
        × ((v : ℕ) → firing_count (batch_order b segment stages) v ≡ batch_counts b round v)
        × IsStaged graph stage_of (batched b segment) stages (batch_order b segment stages)
    batch_is_order = (batch_valid stages (omega arith), batch_count, batch_staged)

pub batch_law : {Code State Cause Word : Type 0} → BatchIsOrder Code State Cause Word
batch_law meaning graph input stage_of segment stages round_order counts round b staged
    round_counts valid =
    batch_is_order graph stage_of segment stages round_order round b staged round_counts meaning
    input counts valid
