-- Rounds that are no whole batch, and then batches, are a schedule.
use Rattle.std.proofs.Common.{◌≡◌, sym, ap, ◌∙◌, subst, ℕ, zero, suc, ◌+◌, ◌*◌, ◌<◌}
use Rattle.std.proofs.Common.{List, ℤ, arith, mul-le-mul_right}
use mathlib.Core.Path.{fun_ext}
use Rattle.strc_elab_dataflow.specs.Node.{Meaning}
use Rattle.strc_elab_dataflow.specs.Flat.{Graph}
use Rattle.strc_elab_dataflow.specs.Order.{counted, firing_count, counts_after, IsOrder, IsSchedule}
use Rattle.strc_elab_dataflow.specs.Staging.{repeated, IsStaged}
use Rattle.strc_elab_dataflow.proofs.Counts.{count_append}
use Rattle.strc_elab_dataflow.proofs.WholeRun.{counted-firing_count}
use Rattle.strc_batch_laws.specs.Batches.{batch_order, batch_counts}
use Rattle.strc_batch_laws.specs.Runs.{before_batches, BatchesAreSchedule}
use Rattle.strc_batch_laws.proofs.Batch.{count_repeated, order_both, batch_count, batch_is_order}

-- The counts after m rounds and q batches are those after m and q times b rounds.
pub counts_by : (startup round : ℕ → ℕ) (b m q : ℕ)
    → counts_after (counts_after startup round m) (batch_counts b round) q
    ≡ counts_after startup round (m + q * b)
unfolding counts_after
counts_by startup round b m q = fun_ext (λ node. at (startup node) (round node))
  where
    at : (s r : ℕ) → (s + m * r) + q * (b * r) ≡ s + (m + q * b) * r
    at s r = omega arith

-- And t rounds more.
pub counts_within : (startup round : ℕ → ℕ) (b m q t : ℕ)
    → counts_after (counts_after (counts_after startup round m) (batch_counts b round) q) round t
    ≡ counts_after startup round ((m + q * b) + t)
unfolding counts_after
counts_within startup round b m q t = fun_ext (λ node. at (startup node) (round node))
  where
    at : (s r : ℕ) → ((s + m * r) + q * (b * r)) + t * r ≡ s + ((m + q * b) + t) * r
    at s r = omega arith

pub within_batches : (b m n q t : ℕ) → q < n → t < b → (m + q * b) + t < m + n * b
within_batches b m n q t q_less t_less = omega (arith, mul-le-mul_right b q_less)

module _ (round : ℕ → ℕ) (round_order : List ℕ)
    (round_counts : (node : ℕ) → firing_count round_order node ≡ round node) where
  pub after_rounds : (counts : ℕ → ℕ) (m : ℕ)
      → counted counts (repeated m round_order) ≡ counts_after counts round m
  unfolding counts_after
  after_rounds counts m = fun_ext (λ node.
      counted-firing_count (repeated m round_order) counts node
      ∙ ap (λ (k : ℕ). counts node + k) (count_repeated m round_order node)
      ∙ ap (λ (k : ℕ). counts node + m * k) (round_counts node))

  module _ {Code State Cause Word : Type 0} (meaning : Meaning Code State Cause Word)
      (graph : Graph Code) (input : List ℤ) (counts : ℕ → ℕ) where
    pub rounds_valid : (m : ℕ) → ((t : ℕ) → t < m
        → IsOrder meaning graph input (counts_after counts round t) round_order)
        → IsOrder meaning graph input counts (repeated m round_order)
    unfolding repeated
    rounds_valid zero valid = tt
    rounds_valid (suc m) valid =
        order_both meaning graph input (repeated m round_order) round_order counts
        (rounds_valid m (λ t less. valid t (omega arith)))
        (subst (λ (c : ℕ → ℕ). IsOrder meaning graph input c round_order)
        (sym (after_rounds counts m)) (valid m (omega arith)))

module _ {Code State Cause Word : Type 0} (meaning : Meaning Code State Cause Word)
    (graph : Graph Code) (input : List ℤ) (stage_of : ℕ → ℕ) (segment : ℕ → List ℕ) (stages : ℕ)
    (startup round : ℕ → ℕ) (startup_order round_order : List ℕ) (b m n : ℕ)
    (staged : IsStaged graph stage_of segment stages round_order)
    (schedule : IsSchedule meaning graph input startup round startup_order round_order (m + n * b))
  where
    after_startup : counted (λ node. 0) startup_order ≡ startup
    after_startup = fun_ext (λ node. omega (
      arith,
      counted-firing_count startup_order (λ v. 0) node,
      schedule.startup_counts node,
    ))

    before_counts : (node : ℕ) → firing_count (before_batches startup_order m round_order) node
        ≡ counts_after startup round m node
    unfolding counts_after
    before_counts node =
        count_append startup_order (repeated m round_order) node
        ∙ ap (λ (k : ℕ). k + firing_count (repeated m round_order) node)
        (schedule.startup_counts node)
        ∙ ap (λ (k : ℕ). startup node + k) (count_repeated m round_order node)
        ∙ ap (λ (k : ℕ). startup node + m * k) (schedule.round_counts node)

    before_finds : IsOrder meaning graph input (λ node. 0)
        (before_batches startup_order m round_order)
    before_finds = order_both meaning graph input startup_order (repeated m round_order)
        (λ node. 0) schedule.startup_finds
        (subst (λ (c : ℕ → ℕ). IsOrder meaning graph input c (repeated m round_order))
        (sym after_startup)
        (rounds_valid round round_order schedule.round_counts meaning graph input startup m
        (λ t less. schedule.round_finds t (omega arith))))

    in_batch : (q : ℕ) → q < n → (t : ℕ) → t < b
        → IsOrder meaning graph input (counts_after (counts_after (counts_after startup round m)
        (batch_counts b round) q) round t) round_order
    in_batch q q_less t t_less =
        subst (λ (c : ℕ → ℕ). IsOrder meaning graph input c round_order)
        (sym (counts_within startup round b m q t))
        (schedule.round_finds ((m + q * b) + t) (within_batches b m n q t q_less t_less))

    pub batches_schedule : IsSchedule meaning graph input (counts_after startup round m)
        (batch_counts b round) (before_batches startup_order m round_order)
        (batch_order b segment stages) n
    batches_schedule = record {
      startup_counts = before_counts;
      round_counts = λ node. batch_count graph stage_of segment stages round_order round b staged
          schedule.round_counts node;
      startup_finds = before_finds;
      round_finds = λ q less. (batch_is_order graph stage_of segment stages round_order round b
          staged schedule.round_counts meaning input
          (counts_after (counts_after startup round m) (batch_counts b round) q)
          (in_batch q less)).0;
    }

pub schedule_law : {Code State Cause Word : Type 0} → BatchesAreSchedule Code State Cause Word
schedule_law meaning graph input stage_of segment stages startup round startup_order round_order b
    m n staged schedule =
    batches_schedule meaning graph input stage_of segment stages startup round startup_order
    round_order b m n staged schedule
