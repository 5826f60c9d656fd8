-- The theorems of streams, from those of any graph and any solutions.
use Rattle.std.proofs.Common.{◌≡◌, sym, subst, ◌∙◌, ℕ, List, ℤ, ◌≤◌}
use Rattle.strc_elab_dataflow.specs.Node.{Meaning}
use Rattle.strc_elab_dataflow.specs.Histories.{KeepsRates}
use Rattle.strc_elab_dataflow.specs.Flat.{Graph, runs_at}
use Rattle.strc_elab_dataflow.specs.Streams.{Stream, flat, solution}
use Rattle.strc_elab_dataflow.specs.Order.{counts_after, IsSchedule}
use Rattle.strc_elab_dataflow.specs.Machine.{Stop, go, at_first}
use Rattle.strc_elab_dataflow.specs.Queues.{Fifo, fifo_go, fifo_at_first, IsQueued, IsAlike}
use Rattle.strc_elab_dataflow.specs.Queues.{TakesWithinWindow}
use Rattle.strc_elab_dataflow.specs.Answer.{Outcome, Outcome.Done, Outcome.StartupFault}
use Rattle.strc_elab_dataflow.specs.Answer.{Outcome.RoundFault, IsAnswer, stream_runs, whole_run}
use Rattle.strc_elab_dataflow.specs.Laws.{ChainRunsInOrder, ExactlyOne, OrdersAgree}
use Rattle.strc_elab_dataflow.specs.Laws.{QueueRunGivesAnswer}
use mathlib.Core.Logic.{inl, inr}
use Rattle.strc_elab_dataflow.proofs.WholeRun.{run_gives, answer_is_run, same_verdict}
use Rattle.strc_elab_dataflow.proofs.Solved.{stream_solves}
use Rattle.strc_elab_dataflow.proofs.Chain.{chain_schedule}
use Rattle.strc_elab_dataflow.proofs.Queued.{machines_alike, queued_at_first, fifo_run-whole_run}

module _ {Code State Cause Word : Type 0} (meaning : Meaning Code State Cause Word)
    (stream : Stream Code) (input : List ℤ) (startup round : ℕ → ℕ)
    (startup_order round_order : List ℕ) (k : ℕ)
    (keeps : (node : ℕ) → KeepsRates meaning ((flat stream).code node))
    (schedule : IsSchedule meaning (flat stream) input startup round startup_order round_order k)
  where
    -- The run is the answer of the stream equations.
    pub stream_run_gives : IsAnswer meaning stream input startup round startup_order round_order k
        (whole_run meaning (flat stream) input round_order startup_order k)
    unfolding stream_runs
    stream_run_gives =
        (run_gives meaning (flat stream) input keeps startup round startup_order round_order k
        schedule
        (λ q. solution meaning (counts_after startup round q) input stream)
        (λ q less. stream_solves meaning (counts_after startup round q) input stream keeps)).0

    -- Every answer is the run.
    pub stream_answer_is_run : (outcome : Outcome Cause Word)
        → IsAnswer meaning stream input startup round startup_order round_order k outcome
        → outcome ≡ whole_run meaning (flat stream) input round_order startup_order k
    unfolding stream_runs
    stream_answer_is_run =
        answer_is_run meaning (flat stream) input keeps startup round startup_order round_order k
        schedule
        (λ q. solution meaning (counts_after startup round q) input stream)
        (λ q less. stream_solves meaning (counts_after startup round q) input stream keeps)

    pub stream_answer_is_one : (a b : Outcome Cause Word)
        → IsAnswer meaning stream input startup round startup_order round_order k a
        → IsAnswer meaning stream input startup round startup_order round_order k b → a ≡ b
    stream_answer_is_one a b x y = stream_answer_is_run a x ∙ sym (stream_answer_is_run b y)

    abbrev pub Holds : Outcome Cause Word → Type 0
    Holds outcome = IsAnswer meaning stream input startup round startup_order round_order k outcome

    apart : (a b : Outcome Cause Word) → (a ≡ b → ⊥) → Holds a → Holds b → ⊥
    apart a b differ x y = differ (stream_answer_is_one a b x y)

    one_of : (outcome : Outcome Cause Word) → Holds outcome
        → ExactlyOne ((words : ℕ → List Word) × Holds (Done words))
        ((stop : Stop Cause) × Holds (StartupFault stop))
        ((q : ℕ) × (stop : Stop Cause) × (words : ℕ → List Word) × Holds (RoundFault q stop words))
    one_of (Done words) h =
        inl (
          (words, h),
          λ x. apart (Done words) (StartupFault x.0) (λ e. cc) h x.1,
          λ x. apart (Done words) (RoundFault x.0 x.1 x.2) (λ e. cc) h x.3,
        )
    one_of (StartupFault stop) h =
        inr (inl (
          (stop, h),
          λ x. apart (StartupFault stop) (Done x.0) (λ e. cc) h x.1,
          λ x. apart (StartupFault stop) (RoundFault x.0 x.1 x.2) (λ e. cc) h x.3,
        ))
    one_of (RoundFault q stop words) h =
        inr (inr (
          (q, stop, words, h),
          λ x. apart (RoundFault q stop words) (Done x.0) (λ e. cc) h x.1,
          λ x. apart (RoundFault q stop words) (StartupFault x.0) (λ e. cc) h x.1,
        ))

    -- Exactly one kind of answer holds.
    pub stream_one_answer :
        ((a b : Outcome Cause Word) → Holds a → Holds b → a ≡ b)
        × ExactlyOne ((words : ℕ → List Word) × Holds (Done words))
        ((stop : Stop Cause) × Holds (StartupFault stop))
        ((q : ℕ) × (stop : Stop Cause) × (words : ℕ → List Word) × Holds (RoundFault q stop words))
    stream_one_answer = (
      stream_answer_is_one,
      one_of (whole_run meaning (flat stream) input round_order startup_order k) stream_run_gives,
    )

-- The queues of the machine.
pub queues_hold : {Code State Cause Word : Type 0} (meaning : Meaning Code State Cause Word)
    (graph : Graph Code) (input : List ℤ) (order : List ℕ) → TakesWithinWindow meaning graph
    → IsAlike meaning graph input (go meaning graph input order (at_first meaning graph))
    (fifo_go meaning graph order (fifo_at_first meaning graph input))
    × ((now : Fifo State Cause Word) → IsQueued meaning graph input now
    → IsAlike meaning graph input (go meaning graph input order now.runs)
    (fifo_go meaning graph order now))
unfolding fifo_at_first at_first
queues_hold meaning graph input order within = (
  machines_alike meaning graph input within order (fifo_at_first meaning graph input)
      (queued_at_first meaning graph input within),
  machines_alike meaning graph input within order,
)

-- The run over queues.
pub stream_queue_run : {Code State Cause Word : Type 0} → QueueRunGivesAnswer Code State Cause Word
stream_queue_run meaning stream input startup round startup_order round_order k within =
    let same = fifo_run-whole_run meaning (flat stream) input within round_order startup_order k
    in (
      same,
      λ keeps schedule. rw same (stream_run_gives meaning stream input startup round
          startup_order round_order k keeps schedule),
    )

-- Two schedules of the same counts.
pub orders_agree : {Code State Cause Word : Type 0} → OrdersAgree Code State Cause Word
orders_agree meaning stream input startup round startup_order round_order other_startup other_round
    k keeps schedule other =
    let inputs = λ (q : ℕ). solution meaning (counts_after startup round q) input stream in
    let solves = λ (q : ℕ) (less : q ≤ k). stream_solves meaning
    (counts_after startup round q) input stream keeps in
    let a = run_gives meaning (flat stream) input keeps startup round startup_order round_order k
    schedule inputs solves in
    let b = run_gives meaning (flat stream) input keeps startup round other_startup other_round k
    other inputs solves in
    same_verdict (λ q. runs_at meaning (flat stream) (counts_after startup round q) (inputs q))
    startup round startup_order round_order other_startup other_round k
    (whole_run meaning (flat stream) input round_order startup_order k)
    (whole_run meaning (flat stream) input other_round other_startup k) a.0 b.0 b.1

-- A chain of nodes, in order.
pub chain_runs : {Code State Cause Word : Type 0} → ChainRunsInOrder Code State Cause Word
chain_runs meaning stream first others input k chain keeps matched =
    let schedule = chain_schedule meaning (flat stream) input first others chain matched k in (
      schedule,
      stream_run_gives meaning stream input _ _ _ _ k
          (λ node. subst (KeepsRates meaning) (sym (chain.codes node)) (keeps node)) schedule,
    )
