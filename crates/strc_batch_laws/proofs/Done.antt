-- A run by batches that comes to its end is the run by rounds: both say the same of the equations
-- at the same counts, and no order is in what they say.
use Rattle.std.proofs.Common.{◌≡◌, refl, sym, ap, ◌∙◌, subst, ℕ, ◌+◌, ◌*◌, ◌≤◌}
use Rattle.std.proofs.Common.{List, [], ℤ, arith, mul-le-mul_right, None}
use Rattle.strc_elab_dataflow.specs.Node.{ByPort, Meaning}
use Rattle.strc_elab_dataflow.specs.Histories.{KeepsRates}
use Rattle.strc_elab_dataflow.specs.Flat.{Origin, Origin.Nowhere, Origin.Input, Origin.Port, Graph}
use Rattle.strc_elab_dataflow.specs.Flat.{runs_at, Solves}
use Rattle.strc_elab_dataflow.specs.Streams.{flat, solution}
use Rattle.strc_elab_dataflow.specs.Order.{counts_after, IsSchedule}
use Rattle.strc_elab_dataflow.specs.Answer.{Outcome, Outcome.Done, Outcome.StartupFault}
use Rattle.strc_elab_dataflow.specs.Answer.{Outcome.RoundFault, IsAnswerOf, IsFaultless}
use Rattle.strc_elab_dataflow.specs.Answer.{words_of, stream_runs, whole_run}
use Rattle.strc_elab_dataflow.specs.Queues.{Fifo, FifoProgress, FifoProgress.FifoWent, fifo_go}
use Rattle.strc_elab_dataflow.specs.Queues.{FifoProgress.FifoStopped, fifo_rounds, fifo_run}
use Rattle.strc_elab_dataflow.specs.Queues.{fifo_startup_outcome, fifo_at_first, TakesWithinWindow}
use Rattle.strc_elab_dataflow.specs.Staging.{repeated, IsFromUpTo, IsStaged}
use Rattle.strc_elab_dataflow.specs.Restart.{Restarted, restarted_meaning, restarted, taken_in}
use Rattle.strc_elab_dataflow.specs.Restart.{AreSame, GoAlike, outcome_on}
use Rattle.strc_elab_dataflow.proofs.WholeRun.{run_gives, answer_is_run}
use Rattle.strc_elab_dataflow.proofs.Solved.{stream_solves}
use Rattle.strc_elab_dataflow.proofs.Solutions.{rounds_have_solutions}
use Rattle.strc_elab_dataflow.proofs.Queued.{fifo_run-whole_run}
use Rattle.strc_elab_dataflow.proofs.Restart.{go_alike, same_at_first, rounds_alike}
use Rattle.strc_batch_laws.specs.Batches.{batch_order, batch_counts}
use Rattle.strc_batch_laws.specs.Runs.{before_batches, AreBatchedFrom, BatchesAnswer}
use Rattle.strc_batch_laws.specs.Runs.{BatchesAreRounds, EndsByBatches, RoundsAreBatches}
use Rattle.strc_batch_laws.proofs.Schedule.{counts_by, batches_schedule}

module _ {Code State Cause Word : Type 0} (meaning : Meaning Code State Cause Word)
    (graph : Graph Code) (input : List ℤ)
    (keeps : (node : ℕ) → KeepsRates meaning (graph.code node))
    (stage_of : ℕ → ℕ) (segment : ℕ → List ℕ) (stages : ℕ)
    (startup round : ℕ → ℕ) (startup_order round_order : List ℕ) (b m n : ℕ)
    (staged : IsStaged graph stage_of segment stages round_order)
    (schedule : IsSchedule meaning graph input startup round startup_order round_order (m + n * b))
    (inputs : ℕ → ℕ → ByPort)
    (solves : (t : ℕ) → t ≤ m + n * b → Solves meaning graph (counts_after startup round t) input
    (inputs t))
  where
    batch_solves : (q : ℕ) → q ≤ n → Solves meaning graph
        (counts_after (counts_after startup round m) (batch_counts b round) q) input
        (inputs (m + q * b))
    batch_solves q less = subst (λ (c : ℕ → ℕ). Solves meaning graph c input (inputs (m + q * b)))
        (sym (counts_by startup round b m q))
        (solves (m + q * b) (omega (arith, mul-le-mul_right b less)))

    -- What the batches print is the answer for the rounds.
    pub batches_done : (words : ℕ → List Word)
        → whole_run meaning graph input (batch_order b segment stages)
        (before_batches startup_order m round_order) n ≡ Done words
        → IsAnswerOf (λ t. runs_at meaning graph (counts_after startup round t) (inputs t)) startup
        round startup_order round_order (m + n * b) (Done words)
    batches_done words done =
        subst (λ (c : ℕ → ℕ). IsFaultless (runs_at meaning graph c (inputs (m + n * b)))
        × (words ≡ words_of (runs_at meaning graph c (inputs (m + n * b)))))
        (counts_by startup round b m n)
        (subst (IsAnswerOf (λ q. runs_at meaning graph
        (counts_after (counts_after startup round m) (batch_counts b round) q)
        (inputs (m + q * b))) (counts_after startup round m) (batch_counts b round)
        (before_batches startup_order m round_order) (batch_order b segment stages) n) done
        (run_gives meaning graph input keeps (counts_after startup round m) (batch_counts b round)
        (before_batches startup_order m round_order) (batch_order b segment stages) n
        (batches_schedule meaning graph input stage_of segment stages startup round startup_order
        round_order b m n staged schedule)
        (λ q. inputs (m + q * b)) batch_solves).0)

    -- So the rounds print it.
    pub rounds_done : (words : ℕ → List Word)
        → whole_run meaning graph input (batch_order b segment stages)
        (before_batches startup_order m round_order) n ≡ Done words
        → whole_run meaning graph input round_order startup_order (m + n * b) ≡ Done words
    rounds_done words done =
        sym (answer_is_run meaning graph input keeps startup round startup_order round_order
        (m + n * b) schedule inputs solves (Done words) (batches_done words done))

    -- And the batches end where the rounds do.
    pub batches_end : (words : ℕ → List Word)
        → whole_run meaning graph input round_order startup_order (m + n * b) ≡ Done words
        → whole_run meaning graph input (batch_order b segment stages)
        (before_batches startup_order m round_order) n ≡ Done words
    batches_end words done =
        sym (answer_is_run meaning graph input keeps (counts_after startup round m)
        (batch_counts b round) (before_batches startup_order m round_order)
        (batch_order b segment stages) n
        (batches_schedule meaning graph input stage_of segment stages startup round startup_order
        round_order b m n staged schedule)
        (λ q. inputs (m + q * b)) batch_solves (Done words)
        (subst (λ (c : ℕ → ℕ). IsFaultless (runs_at meaning graph c (inputs (m + n * b)))
        × (words ≡ words_of (runs_at meaning graph c (inputs (m + n * b)))))
        (sym (counts_by startup round b m n))
        (subst (IsAnswerOf (λ t. runs_at meaning graph (counts_after startup round t) (inputs t))
        startup round startup_order round_order (m + n * b)) done
        (run_gives meaning graph input keeps startup round startup_order round_order (m + n * b)
        schedule inputs solves).0)))

pub answer_law : {Code State Cause Word : Type 0} → BatchesAnswer Code State Cause Word
unfolding stream_runs
answer_law meaning stream input stage_of segment stages startup round startup_order round_order b m
    n words keeps within staged schedule done =
    batches_done meaning (flat stream) input keeps stage_of segment stages startup round
    startup_order round_order b m n staged schedule
    (λ t. solution meaning (counts_after startup round t) input stream)
    (λ t less. stream_solves meaning (counts_after startup round t) input stream keeps) words
    (sym (fifo_run-whole_run meaning (flat stream) input within (batch_order b segment stages)
    (before_batches startup_order m round_order) n) ∙ done)

-- A graph restarted at a state is cut into the same stages.
up_to : (stage_of : ℕ → ℕ) (a : ℕ) (origin : Origin) → IsFromUpTo stage_of a origin
    → IsFromUpTo stage_of a (taken_in origin)
unfolding taken_in
up_to stage_of a Nowhere h = tt
up_to stage_of a Input h = tt
up_to stage_of a (Port node port) h = h

pub staged_again : {Code State Cause Word : Type 0} (graph : Graph Code)
    (from : Fifo State Cause Word) (stage_of : ℕ → ℕ) (segment : ℕ → List ℕ) (stages : ℕ)
    (round_order : List ℕ) → IsStaged graph stage_of segment stages round_order
    → IsStaged (restarted from graph) stage_of segment stages round_order
unfolding restarted
staged_again graph from stage_of segment stages round_order staged = record {
  own = staged.own;
  order = staged.order;
  within = staged.within;
  backward = λ node port. up_to stage_of (stage_of node) (graph.source node port).origin
      (staged.backward node port);
}

-- An outcome of a restarted graph, behind other words, that is done.
pub record IsDoneAgain {State Cause Word : Type 0} (from : Fifo State Cause Word)
    (words : ℕ → List Word) (outcome : Outcome Cause Word) : Type 0 where
  pub inner : ℕ → List Word
  pub is : outcome ≡ Done inner
  pub same : Done words ≡ outcome_on from (Done inner)

pub done_again : {State Cause Word : Type 0} (from : Fifo State Cause Word)
    (words : ℕ → List Word) (outcome : Outcome Cause Word)
    → Done words ≡ outcome_on from outcome → IsDoneAgain from words outcome
unfolding outcome_on
done_again from words (Done inner) e = record { inner = inner; is = refl; same = e }
done_again from words (StartupFault stop) e = absurd (grind arith)
done_again from words (RoundFault q stop inner) e = absurd (grind arith)

module _ {Code State Cause Word : Type 0} (meaning : Meaning Code State Cause Word)
    (graph : Graph Code) (from : Fifo State Cause Word)
    (takes_within : TakesWithinWindow meaning graph) where
  abbrev pub again_meaning : Meaning (Restarted Code State) State Cause Word
  again_meaning = restarted_meaning meaning

  abbrev pub again_graph : Graph (Restarted Code State)
  again_graph = restarted from graph

  abbrev pub first : Fifo State Cause Word
  first = fifo_at_first again_meaning again_graph []

  pub within_again : TakesWithinWindow again_meaning again_graph
  unfolding restarted_meaning restarted
  within_again node firing port less =
      takes_within node ((from.runs node).fired + firing) port less

  -- Rounds behind an order that went are those of a whole run.
  pub runs_whole : (before order : List ℕ) (k : ℕ) (again : Fifo State Cause Word)
      → fifo_go again_meaning again_graph before first ≡ FifoWent again
      → fifo_rounds again_meaning again_graph [] order k 0 again
      ≡ whole_run again_meaning again_graph [] order before k
  unfolding fifo_run fifo_startup_outcome
  runs_whole before order k again went =
      sym (ap (fifo_startup_outcome again_meaning again_graph [] order k) went)
      ∙ fifo_run-whole_run again_meaning again_graph [] within_again order before k

  pub rounds_whole : (order : List ℕ) (k : ℕ)
      → fifo_rounds again_meaning again_graph [] order k 0 first
      ≡ whole_run again_meaning again_graph [] order [] k
  unfolding fifo_go
  rounds_whole order k = runs_whole [] order k first refl

module _ {Code State Cause Word : Type 0} (meaning : Meaning Code State Cause Word)
    (graph : Graph Code) (from mid : Fifo State Cause Word) (stage_of : ℕ → ℕ)
    (segment : ℕ → List ℕ) (stages : ℕ) (round : ℕ → ℕ) (round_order : List ℕ) (b m n : ℕ)
    (are : AreBatchedFrom meaning graph from mid stage_of segment stages round round_order b m n)
  where
    abbrev own_meaning : Meaning (Restarted Code State) State Cause Word
    own_meaning = restarted_meaning meaning

    abbrev own_graph : Graph (Restarted Code State)
    own_graph = restarted from graph

    abbrev at_first : Fifo State Cause Word
    at_first = fifo_at_first own_meaning own_graph []

    first_same : AreSame from from at_first
    first_same = same_at_first meaning graph from are.faultless

    -- The restarted graph's state after the m rounds.
    pub record HasMid : Type 0 where
      pub again : Fifo State Cause Word
      pub went : fifo_go own_meaning own_graph (repeated m round_order) at_first ≡ FifoWent again
      pub same : AreSame from mid again

    mid_by : (now again : FifoProgress State Cause Word) → now ≡ FifoWent mid
        → fifo_go own_meaning own_graph (repeated m round_order) at_first ≡ again
        → GoAlike from now again → HasMid
    mid_by (FifoWent now) (FifoWent again) e f alike =
        let here : now ≡ mid = cc in
        record {
          again = again;
          went = f;
          same = subst (λ (s : Fifo State Cause Word). AreSame from s again) here alike;
        }
    mid_by (FifoWent now) (FifoStopped stop) e f alike = absurd alike
    mid_by (FifoStopped stop) (FifoWent again) e f alike = absurd alike
    mid_by (FifoStopped stop) (FifoStopped other) e f alike = absurd (grind arith)

    pub has_mid : HasMid
    has_mid = mid_by (fifo_go meaning graph (repeated m round_order) from)
        (fifo_go own_meaning own_graph (repeated m round_order) at_first) are.reaches refl
        (go_alike meaning graph from (repeated m round_order) from at_first first_same)

    pub are_rounds : (input : List ℤ) (words : ℕ → List Word)
        → fifo_rounds meaning graph input (batch_order b segment stages) n 0 mid ≡ Done words
        → fifo_rounds meaning graph input round_order (m + n * b) 0 from ≡ Done words
    are_rounds input words done =
        let here = has_mid in
        let ends = done_again from words
        (fifo_rounds own_meaning own_graph [] (batch_order b segment stages) n 0 here.again)
        (sym done ∙ rounds_alike meaning graph from input (batch_order b segment stages) n 0 mid
        here.again here.same) in
        let found = rounds_have_solutions own_meaning own_graph [] (λ node. 0) round []
        round_order are.schedule.startup_counts are.schedule.round_counts in
        rounds_alike meaning graph from input round_order (m + n * b) 0 from at_first first_same
        ∙ ap (outcome_on from)
        (rounds_whole meaning graph from are.takes_within round_order (m + n * b)
        ∙ rounds_done own_meaning own_graph [] are.keeps stage_of segment stages (λ node. 0)
        round [] round_order b m n
        (staged_again graph from stage_of segment stages round_order are.staged) are.schedule
        found.0 (λ t less. found.1 t) ends.inner
        (sym (runs_whole meaning graph from are.takes_within (repeated m round_order)
        (batch_order b segment stages) n here.again here.went) ∙ ends.is))
        ∙ sym ends.same

pub rounds_law : {Code State Cause Word : Type 0} → BatchesAreRounds Code State Cause Word
rounds_law meaning graph input from mid stage_of segment stages round round_order b m n words are
    done =
    are_rounds meaning graph from mid stage_of segment stages round round_order b m n are input
    words done

-- ---- the other way

module _ {Code State Cause Word : Type 0} (meaning : Meaning Code State Cause Word)
    (graph : Graph Code) (input : List ℤ) (from : Fifo State Cause Word) (order batch : List ℕ)
    (n : ℕ) (faultless : (node : ℕ) → (from.runs node).fault ≡ None)
    (takes_within : TakesWithinWindow meaning graph) (words : ℕ → List Word)
    (inner : ℕ → List Word) (same : Done words ≡ outcome_on from (Done inner)) where
  abbrev its_meaning : Meaning (Restarted Code State) State Cause Word
  its_meaning = restarted_meaning meaning

  abbrev its_graph : Graph (Restarted Code State)
  its_graph = restarted from graph

  -- Where the batches of the restarted graph are done, so are those of the graph.
  ends_by : (now again : FifoProgress State Cause Word)
      → fifo_go meaning graph order from ≡ now
      → GoAlike from now again
      → fifo_startup_outcome its_meaning its_graph [] batch n again ≡ Done inner
      → EndsByBatches meaning graph input from order batch n words
  unfolding fifo_startup_outcome
  ends_by (FifoWent mid) (FifoWent again) e alike done = record {
    mid = mid;
    reaches = e;
    ends = rounds_alike meaning graph from input batch n 0 mid again alike
        ∙ ap (outcome_on from) done ∙ sym same;
  }
  ends_by (FifoWent mid) (FifoStopped stop) e alike done = absurd alike
  ends_by (FifoStopped stop) (FifoWent again) e alike done = absurd alike
  ends_by (FifoStopped stop) (FifoStopped other) e alike done = absurd (grind arith)

  pub batches_of_graph :
      whole_run its_meaning its_graph [] batch order n ≡ Done inner
      → EndsByBatches meaning graph input from order batch n words
  unfolding fifo_run
  batches_of_graph done =
      let first = fifo_at_first its_meaning its_graph [] in
      ends_by (fifo_go meaning graph order from) (fifo_go its_meaning its_graph order first) refl
      (go_alike meaning graph from order from first (same_at_first meaning graph from faultless))
      (fifo_run-whole_run its_meaning its_graph []
      (within_again meaning graph from takes_within) batch order n ∙ done)

pub ends_law : {Code State Cause Word : Type 0} → RoundsAreBatches Code State Cause Word
ends_law meaning graph input from stage_of segment stages round round_order b m n words faultless
    keeps takes_within staged schedule done =
    let first = fifo_at_first (restarted_meaning meaning) (restarted from graph) [] in
    let ends = done_again from words
    (fifo_rounds (restarted_meaning meaning) (restarted from graph) [] round_order (m + n * b) 0
    first)
    (sym done ∙ rounds_alike meaning graph from input round_order (m + n * b) 0 from first
    (same_at_first meaning graph from faultless)) in
    let found = rounds_have_solutions (restarted_meaning meaning) (restarted from graph) []
    (λ node. 0) round [] round_order schedule.startup_counts schedule.round_counts in
    batches_of_graph meaning graph input from (repeated m round_order)
    (batch_order b segment stages) n faultless takes_within words ends.inner ends.same
    (batches_end (restarted_meaning meaning) (restarted from graph) [] keeps stage_of segment stages
    (λ node. 0) round [] round_order b m n
    (staged_again graph from stage_of segment stages round_order staged) schedule found.0
    (λ t less. found.1 t) ends.inner
    (sym (rounds_whole meaning graph from takes_within round_order (m + n * b)) ∙ ends.is))
