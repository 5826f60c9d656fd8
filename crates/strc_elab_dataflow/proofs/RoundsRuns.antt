-- Any number of rounds before and after fission.
use Rattle.std.proofs.Common.{◌≡◌, refl, sym, ap, ◌∙◌, subst, ℕ, zero, suc, ◌+◌, ◌<◌, ◌≤◌}
use Rattle.std.proofs.Common.{true, ℤ, List, [], arith}
use mathlib.Core.Path.{fun_ext}
use mathlib.Core.Logic.{inl, inr}
use Rattle.std.proofs.lemmas.Bool.{cases_lt}
use Rattle.strc_elab_dataflow.specs.Node.{Meaning}
use Rattle.strc_elab_dataflow.specs.Histories.{Run, KeepsRates}
use Rattle.strc_elab_dataflow.specs.Flat.{Graph}
use Rattle.strc_elab_dataflow.specs.Order.{firing_count, counted, counts_after, IsOrder}
use Rattle.strc_elab_dataflow.specs.Answer.{Outcome, words_of}
use Rattle.strc_elab_dataflow.specs.Queues.{Fifo, FifoProgress, FifoProgress.FifoWent, fifo_go}
use Rattle.strc_elab_dataflow.specs.Queues.{FifoProgress.FifoStopped, TakesWithinWindow}
use Rattle.strc_elab_dataflow.specs.Queues.{fifo_rounds, fifo_round_outcome}
use Rattle.strc_elab_dataflow.proofs.WholeRun.{counted-firing_count}
use Rattle.strc_elab_dataflow.specs.Split.{Parts, IsSplitGraph, Agree}
use Rattle.strc_elab_dataflow.specs.Blocks.{Block, AreBlocks, old_order, new_order, rounds_after}
use Rattle.strc_elab_dataflow.specs.Blocks.{BothCome}
use Rattle.strc_elab_dataflow.specs.Counted.{IsCounted}
use Rattle.strc_elab_dataflow.specs.Runs.{AreSameWords, IsSameOutcome}
use Rattle.strc_elab_dataflow.proofs.RoundsParts.{outlet_split}
use Rattle.strc_elab_dataflow.proofs.Counted.{counted_after, blocks_fed}
use Rattle.strc_elab_dataflow.proofs.Following.{round_follows}

module _ {Code State Cause Word : Type 0} (meaning : Meaning Code State Cause Word)
    (graph new : Graph Code) (input : List ℤ) (parts : Parts)
    (is : IsSplitGraph parts meaning graph new) (blocks : List Block)
    (are : AreBlocks parts blocks) (startup round : ℕ → ℕ) (k : ℕ)
    (keeps : (node : ℕ) → KeepsRates meaning (graph.code node))
    (within : TakesWithinWindow meaning graph)
    (round_counts : (node : ℕ) → firing_count (old_order parts blocks) node ≡ round node)
    (valid : (q : ℕ) → q < k
    → IsOrder meaning graph input (counts_after startup round q) (old_order parts blocks)) where
  abbrev Here : Type 0
  Here = Fifo State Cause Word

  same_words : (rounds : ℕ → ℕ) (old now : Here) → Agree parts meaning graph rounds old now
      → AreSameWords parts (words_of old.runs) (words_of now.runs)
  unfolding words_of
  same_words rounds old now agree = record {
    kept = λ u kept. ap (λ (r : Run State Cause Word). r.words) (agree.kept u kept);
    split = λ v split. (agree.idle v split).silent;
    part = λ v j split less. part_by v j split
        (let e : j ≤ suc (parts.share v).ways = omega (arith, outlet_split parts v split, less)
        in e);
  }
    where
      part_by : (v j : ℕ) → parts.is_split v ≡ true → j ≤ suc (parts.share v).ways
          → (now.runs (parts.name v j)).words ≡ []
      part_by v zero split less = (agree.idle v split).scatter_silent
      part_by v (suc i) split less = elim (cases_lt i (parts.share v).ways) [
        | inl lower ↦ ((agree.idle v split).copy i lower).silent
        | inr last ↦
            ap (λ (n : ℕ). (now.runs (parts.name v (suc n))).words)
            (let e : i ≡ (parts.share v).ways = omega (arith, less, last) in e)
            ∙ (agree.idle v split).gather_silent
      ]

  after_round : (q : ℕ) → counted (counts_after startup round q) (old_order parts blocks)
      ≡ counts_after startup round (suc q)
  unfolding counts_after
  after_round q = fun_ext (λ v. omega (
    arith,
    counted-firing_count (old_order parts blocks) (counts_after startup round q) v,
    round_counts v,
  ))

  round_by : (q : ℕ) (rounds : ℕ → ℕ) (old now : Here) → Agree parts meaning graph rounds old now
      → (old_later new_later : Here → Outcome Cause Word)
      → (old_progress new_progress : FifoProgress State Cause Word)
      → ((o s : Here) → old_progress ≡ FifoWent o
      → Agree parts meaning graph (rounds_after parts rounds blocks) o s
      → IsSameOutcome parts (old_later o) (new_later s))
      → BothCome parts meaning graph (rounds_after parts rounds blocks) old_progress new_progress
      → IsSameOutcome parts
      (fifo_round_outcome meaning graph input (old_order parts blocks) q (words_of old.runs)
      old_progress old_later)
      (fifo_round_outcome meaning new input (new_order parts blocks) q (words_of now.runs)
      new_progress new_later)
  unfolding fifo_round_outcome
  round_by q rounds old now agree old_later new_later (FifoWent o) (FifoWent s) rest both =
      rest o s refl both
  round_by q rounds old now agree old_later new_later (FifoWent o) (FifoStopped stop) rest both =
      absurd both
  round_by q rounds old now agree old_later new_later (FifoStopped stop) (FifoWent s) rest both =
      absurd both
  round_by q rounds old now agree old_later new_later (FifoStopped stop) (FifoStopped other) rest
      both = (refl, both, same_words rounds old now agree)

  pub same_runs : (left q : ℕ) (rounds : ℕ → ℕ) (old now : Here) → left + q ≡ k
      → IsCounted meaning graph input (counts_after startup round q) old
      → Agree parts meaning graph rounds old now
      → IsSameOutcome parts
      (fifo_rounds meaning graph input (old_order parts blocks) left q old)
      (fifo_rounds meaning new input (new_order parts blocks) left q now)
  unfolding fifo_rounds
  same_runs zero q rounds old now sum counted_is agree = same_words rounds old now agree
  same_runs (suc left) q rounds old now sum counted_is agree =
      let less : q < k = omega (arith, sum) in
      let fed = blocks_fed meaning graph input keeps within new parts is blocks
      (counts_after startup round q) old are (valid q less) counted_is in
      round_by q rounds old now agree
      (fifo_rounds meaning graph input (old_order parts blocks) left (suc q))
      (fifo_rounds meaning new input (new_order parts blocks) left (suc q))
      (fifo_go meaning graph (old_order parts blocks) old)
      (fifo_go meaning new (new_order parts blocks) now)
      (λ o s went agrees. same_runs left (suc q) (rounds_after parts rounds blocks) o s
      (omega (arith, sum))
      (subst (λ (counts : ℕ → ℕ). IsCounted meaning graph input counts o) (after_round q)
      (counted_after meaning graph input keeps within (old_order parts blocks)
      (counts_after startup round q) old o counted_is (valid q less) went)) agrees)
      (round_follows meaning graph new parts is blocks rounds old now are fed agree).0

  counts_first : counts_after startup round 0 ≡ startup
  unfolding counts_after
  counts_first = fun_ext (λ v. omega arith)

  pub fission_runs : (rounds : ℕ → ℕ) (old now : Here)
      → IsCounted meaning graph input startup old → Agree parts meaning graph rounds old now
      → IsSameOutcome parts
      (fifo_rounds meaning graph input (old_order parts blocks) k 0 old)
      (fifo_rounds meaning new input (new_order parts blocks) k 0 now)
  fission_runs rounds old now counted_is agree =
      same_runs k 0 rounds old now (omega arith)
      (subst (λ (counts : ℕ → ℕ). IsCounted meaning graph input counts old) (sym counts_first)
      counted_is) agree
