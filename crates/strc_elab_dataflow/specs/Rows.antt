-- Worked rows: streams over the example blocks, with counts, orders that are valid by them, and
-- what is printed.
use Rattle.std.specs.Prelude.{◌≡◌, ◌<◌, sum, ℕ, suc, ℤ, pos, neg_ℤ, List, [], ◌∷◌, get_or, Some}
use Rattle.strc_elab_dataflow.specs.Rounds.{IsBalanced}
use Rattle.strc_elab_dataflow.specs.Pipelines.{IsMatched}
use Rattle.strc_elab_dataflow.specs.Node.{ByPort}
use Rattle.strc_elab_dataflow.specs.RoundRobin.{dealt, duplicated, woven, IsRoundRobinSplitter}
use Rattle.strc_elab_dataflow.specs.RoundRobin.{IsDuplicateSplitter, IsRoundRobinJoiner}
use Rattle.strc_elab_dataflow.specs.Streams.{Stream, Stream.One, Stream.Reader, Stream.Pipeline}
use Rattle.strc_elab_dataflow.specs.Streams.{Stream.SplitJoin, Stream.FeedbackLoop, Streams.Last}
use Rattle.strc_elab_dataflow.specs.Streams.{Streams.More, flat}
use Rattle.strc_elab_dataflow.specs.Order.{counts_after, IsSchedule, IsOrder}
use Rattle.strc_elab_dataflow.specs.Machine.{Stop, first_fault}
use Rattle.strc_elab_dataflow.specs.Answer.{Outcome, Outcome.Done, Outcome.StartupFault}
use Rattle.strc_elab_dataflow.specs.Answer.{Outcome.RoundFault, IsAnswer, stream_runs, whole_run}
use Rattle.strc_elab_dataflow.specs.Examples.{Block, Block.Counter, Block.Identity, Block.Adder}
use Rattle.strc_elab_dataflow.specs.Examples.{Block.Negation, Block.Quotient, Block.Printer}
use Rattle.strc_elab_dataflow.specs.Examples.{Block.RoundRobinSplitter, Block.DuplicateSplitter}
use Rattle.strc_elab_dataflow.specs.Examples.{Block.RoundRobinJoiner, Cause, Cause.DivisionByZero}
use Rattle.strc_elab_dataflow.specs.Examples.{Word}
use Rattle.strc_elab_dataflow.specs.Examples.{line, example}

-- What one node printed: its words; or a fault, with the words before its round.
pub data Shown : Type 0 where
  Words : List Word → Shown
  FaultAtStart : Stop Cause → Shown
  FaultIn : ℕ → Stop Cause → List Word → Shown

unfoldable pub shown : ℕ → Outcome Cause Word → Shown
shown printer (Done words) = Words (words printer)
shown printer (StartupFault stop) = FaultAtStart stop
shown printer (RoundFault q stop words) = FaultIn q stop (words printer)

-- A program: its stream, input, counts by node, orders of start-up and of a round, number of
-- rounds, and the node that prints.
pub record Program : Type 0 where
  pub stream : Stream Block
  pub input : List ℤ
  pub startup : List ℕ
  pub round : List ℕ
  pub startup_order : List ℕ
  pub round_order : List ℕ
  pub rounds : ℕ
  pub printer : ℕ

abbrev pub by_node : List ℕ → ℕ → ℕ
by_node counts node = get_or counts node 0

abbrev pub by_lists : List (List ℤ) → ByPort
by_lists lists port = get_or lists port []

-- What the stream equations say, read at the counts that decide.
abbrev pub EquationsSay : Program → Shown → Type 0
EquationsSay p (Words words) = (stream_runs example p.stream p.input (by_node p.startup)
    (by_node p.round) p.rounds p.printer).words ≡ words
EquationsSay p (FaultAtStart stop) = first_fault
    (stream_runs example p.stream p.input (by_node p.startup) (by_node p.round) 0)
    (λ node. 0) p.startup_order ≡ Some stop
EquationsSay p (FaultIn q stop words) =
    (first_fault (stream_runs example p.stream p.input (by_node p.startup) (by_node p.round)
    (suc q)) (counts_after (by_node p.startup) (by_node p.round) q) p.round_order ≡ Some stop)
    × ((stream_runs example p.stream p.input (by_node p.startup)
    (by_node p.round) q p.printer).words ≡ words)

-- A row: the orders are valid by counts, the equations say what is shown, the run shows it, the run
-- is the answer, and every answer shows it.
pub record IsRow (p : Program) (expected : Shown) : Type 0 where
  pub schedule : IsSchedule example (flat p.stream) p.input (by_node p.startup)
      (by_node p.round) p.startup_order p.round_order p.rounds
  pub equations : EquationsSay p expected
  pub run : shown p.printer (whole_run example
      (flat p.stream) p.input p.round_order p.startup_order p.rounds) ≡ expected
  pub answer : IsAnswer example p.stream p.input (by_node p.startup)
      (by_node p.round) p.startup_order p.round_order p.rounds
      (whole_run example (flat p.stream) p.input p.round_order p.startup_order p.rounds)
  pub only : (outcome : Outcome Cause Word)
      → IsAnswer example p.stream p.input (by_node p.startup)
      (by_node p.round) p.startup_order p.round_order p.rounds outcome
      → shown p.printer outcome ≡ expected

abbrev pub stop : ℕ → ℕ → Stop Cause
stop node firing = record { node = node; firing = firing; cause = DivisionByZero }

abbrev pub minus : ℕ → ℤ
minus n = neg_ℤ (pos n)

-- A source that pushes x++ and a printer: five rounds.
abbrev pub minimal : Program
minimal = record {
  stream = Pipeline (More (One Counter) (Last (One Printer)));
  input = [];
  startup = 0 ∷ 0 ∷ [];
  round = 1 ∷ 1 ∷ [];
  startup_order = [];
  round_order = 0 ∷ 1 ∷ [];
  rounds = 5;
  printer = 1;
}

abbrev pub MinimalRow : Type 0
MinimalRow = IsRow minimal (Words (line (pos 0) ∷ line (pos 1) ∷ line (pos 2) ∷ line (pos 3)
    ∷ line (pos 4) ∷ []))

-- A feedback loop whose body adds its last two items, with 0 and 1 enqueued.
abbrev pub fibonacci : Program
fibonacci = record {
  stream = Pipeline
      (More (FeedbackLoop (RoundRobinJoiner (0 ∷ 1 ∷ [])) (One Adder)
      (DuplicateSplitter (1 ∷ 1 ∷ [])) (One Identity) (pos 0 ∷ pos 1 ∷ []))
      (Last (One Printer)));
  input = [];
  startup = 1 ∷ 0 ∷ 0 ∷ 0 ∷ 0 ∷ [];
  round = 1 ∷ 1 ∷ 1 ∷ 1 ∷ 1 ∷ [];
  startup_order = 0 ∷ [];
  round_order = 0 ∷ 1 ∷ 2 ∷ 3 ∷ 4 ∷ [];
  rounds = 5;
  printer = 4;
}

abbrev pub FibonacciRow : Type 0
FibonacciRow = IsRow fibonacci (Words (line (pos 1) ∷ line (pos 2) ∷ line (pos 3) ∷ line (pos 5)
    ∷ line (pos 8) ∷ []))

-- Items 5, 0, 2 through 100 / pop().
abbrev pub division : Program
division = record {
  stream = Pipeline (More (Reader Identity)
      (More (One (Quotient (pos 100) (pos 0))) (Last (One Printer))));
  input = pos 5 ∷ pos 0 ∷ pos 2 ∷ [];
  startup = 0 ∷ 0 ∷ 0 ∷ [];
  round = 1 ∷ 1 ∷ 1 ∷ [];
  startup_order = [];
  round_order = 0 ∷ 1 ∷ 2 ∷ [];
  rounds = 3;
  printer = 2;
}

abbrev pub DivisionFaultRow : Type 0
DivisionFaultRow = IsRow division (FaultIn 1 (stop 1 1) (line (pos 20) ∷ []))

-- A split-join with weights 2 and 1, the second child of which negates.
abbrev pub weights : Program
weights = record {
  stream = Pipeline
      (More (Reader Identity)
      (More (SplitJoin (Some (RoundRobinSplitter (2 ∷ 1 ∷ [])))
      (More (One Identity) (Last (One Negation))) (Some (RoundRobinJoiner (2 ∷ 1 ∷ []))))
      (Last (One Printer))));
  input = pos 1 ∷ pos 2 ∷ pos 3 ∷ pos 4 ∷ pos 5 ∷ pos 6 ∷ [];
  startup = 0 ∷ 0 ∷ 0 ∷ 0 ∷ 0 ∷ 0 ∷ [];
  round = 3 ∷ 1 ∷ 2 ∷ 1 ∷ 1 ∷ 3 ∷ [];
  startup_order = [];
  round_order = 0 ∷ 0 ∷ 0 ∷ 1 ∷ 2 ∷ 2 ∷ 3 ∷ 4 ∷ 5 ∷ 5 ∷ 5 ∷ [];
  rounds = 2;
  printer = 5;
}

abbrev pub WeightsRow : Type 0
WeightsRow = IsRow weights (Words (line (pos 1) ∷ line (pos 2) ∷ line (minus 3) ∷ line (pos 4)
    ∷ line (pos 5) ∷ line (minus 6) ∷ []))

-- Two quotients in a row: the second faults in round 1, the first only in round 2, which isn't
-- named.
abbrev pub two_quotients : Program
two_quotients = record {
  stream = Pipeline (More (Reader Identity)
      (More (One (Quotient (pos 100) (pos 0)))
      (More (One (Quotient (pos 100) (pos 50))) (Last (One Printer)))));
  input = pos 1 ∷ pos 2 ∷ pos 0 ∷ [];
  startup = 0 ∷ 0 ∷ 0 ∷ 0 ∷ [];
  round = 1 ∷ 1 ∷ 1 ∷ 1 ∷ [];
  startup_order = [];
  round_order = 0 ∷ 1 ∷ 2 ∷ 3 ∷ [];
  rounds = 3;
  printer = 3;
}

abbrev pub DownstreamFaultRow : Type 0
DownstreamFaultRow = IsRow two_quotients (FaultIn 1 (stop 2 1) (line (pos 2) ∷ []))

-- Two branches that fault in the same round, in an order of the round that is left open.
abbrev pub two_branches : List ℕ → Program
two_branches round_order = record {
  stream = Pipeline
      (More (Reader Identity)
      (More (SplitJoin (Some (DuplicateSplitter (1 ∷ 1 ∷ [])))
      (More (One (Quotient (pos 100) (pos 0))) (Last (One (Quotient (pos 50) (pos 0)))))
      (Some (RoundRobinJoiner (1 ∷ 1 ∷ []))))
      (Last (One Printer))));
  input = pos 25 ∷ pos 0 ∷ [];
  startup = 0 ∷ 0 ∷ 0 ∷ 0 ∷ 0 ∷ 0 ∷ [];
  round = 1 ∷ 1 ∷ 1 ∷ 1 ∷ 1 ∷ 2 ∷ [];
  startup_order = [];
  round_order = round_order;
  rounds = 2;
  printer = 5;
}

abbrev pub TwoFaultsRow : Type 0
TwoFaultsRow =
    IsRow (two_branches (0 ∷ 1 ∷ 2 ∷ 3 ∷ 4 ∷ 5 ∷ 5 ∷ []))
    (FaultIn 1 (stop 2 1) (line (pos 4) ∷ line (pos 2) ∷ []))
    × IsRow (two_branches (0 ∷ 1 ∷ 3 ∷ 2 ∷ 4 ∷ 5 ∷ 5 ∷ []))
    (FaultIn 1 (stop 3 1) (line (pos 4) ∷ line (pos 2) ∷ []))

-- A feedback loop whose body pushes 6 / (pop() - 1), from 4 on: 2, 6, 1, and then a fault.
abbrev pub loop_fault : Program
loop_fault = record {
  stream = Pipeline
      (More (FeedbackLoop (RoundRobinJoiner (0 ∷ 1 ∷ [])) (One (Quotient (pos 6) (pos 1)))
      (DuplicateSplitter (1 ∷ 1 ∷ [])) (One Identity) (pos 4 ∷ []))
      (Last (One Printer)));
  input = [];
  startup = 0 ∷ 0 ∷ 0 ∷ 0 ∷ 0 ∷ [];
  round = 1 ∷ 1 ∷ 1 ∷ 1 ∷ 1 ∷ [];
  startup_order = [];
  round_order = 0 ∷ 1 ∷ 2 ∷ 3 ∷ 4 ∷ [];
  rounds = 5;
  printer = 4;
}

abbrev pub FaultInLoopRow : Type 0
FaultInLoopRow = IsRow loop_fault (FaultIn 3 (stop 1 3)
    (line (pos 2) ∷ line (pos 6) ∷ line (pos 1) ∷ []))

-- A quotient with a prior start-up firing: the fault is in start-up, and nothing is printed.
abbrev pub startup_fault : Program
startup_fault = record {
  stream = Pipeline (More (Reader Identity)
      (More (One (Quotient (pos 100) (pos 0))) (More (One Adder) (Last (One Printer)))));
  input = pos 0 ∷ pos 1 ∷ pos 2 ∷ [];
  startup = 1 ∷ 1 ∷ 0 ∷ 0 ∷ [];
  round = 1 ∷ 1 ∷ 1 ∷ 1 ∷ [];
  startup_order = 0 ∷ 1 ∷ [];
  round_order = 0 ∷ 1 ∷ 2 ∷ 3 ∷ [];
  rounds = 2;
  printer = 3;
}

abbrev pub StartupFaultRow : Type 0
StartupFaultRow = IsRow startup_fault (FaultAtStart (stop 1 0))

-- The example's splitters and joiners are those of which the formulas on places speak.
abbrev pub ExampleSplitters : Type 0
ExampleSplitters =
    (weights : List ℕ)
    → (0 < sum weights → IsRoundRobinSplitter example (RoundRobinSplitter weights) weights)
    × IsDuplicateSplitter example (DuplicateSplitter weights) weights
    × IsRoundRobinJoiner example (RoundRobinJoiner weights) weights

-- A list of seven items dealt by weights 2, 0 and 1, and three lists woven by them.
abbrev pub PlacesRow : Type 0
PlacesRow =
    (dealt (2 ∷ 0 ∷ 1 ∷ []) 5 (pos 1 ∷ pos 2 ∷ pos 3 ∷ pos 4 ∷ pos 5 ∷ pos 6 ∷ pos 7 ∷ []) 0 ≡ pos 1
    ∷ pos 2 ∷ pos 4 ∷ pos 5 ∷ [])
    × (dealt (2 ∷ 0 ∷ 1 ∷ []) 5 (pos 1 ∷ pos 2 ∷ pos 3 ∷ pos 4 ∷ pos 5 ∷ pos 6 ∷ pos 7 ∷ []) 2
    ≡ pos 3 ∷ pos 6 ∷ [])
    × (woven (2 ∷ 0 ∷ 1 ∷ []) 5 (by_lists
    ((pos 1 ∷ pos 2 ∷ pos 4 ∷ pos 5 ∷ []) ∷ [] ∷ (pos 3 ∷ pos 6 ∷ pos 9 ∷ []) ∷ [])) ≡ pos 1
    ∷ pos 2 ∷ pos 3 ∷ pos 4 ∷ pos 5 ∷ pos 6 ∷ [])
    × (duplicated (1 ∷ 0 ∷ []) 2 (pos 1 ∷ pos 2 ∷ pos 3 ∷ []) 0 ≡ pos 1 ∷ pos 2 ∷ [])
    × (duplicated (1 ∷ 0 ∷ []) 2 (pos 1 ∷ pos 2 ∷ pos 3 ∷ []) 1 ≡ [])

-- A pipeline of a counter, a negation and a printer meets what the law of pipelines asks.
abbrev pub MatchedRow : Type 0
MatchedRow = IsMatched example Counter (Negation ∷ Printer ∷ [])

-- Fibonacci's channels balance at one firing each, its rates repeat, and its order of a round is
-- valid in every round.
abbrev pub BalanceRow : Type 0
BalanceRow =
    IsBalanced example (flat fibonacci.stream) (by_node fibonacci.startup) (by_node fibonacci.round)
    × ((k q : ℕ) → q < k → IsOrder example (flat fibonacci.stream) []
    (counts_after (by_node fibonacci.startup) (by_node fibonacci.round) q) fibonacci.round_order)
