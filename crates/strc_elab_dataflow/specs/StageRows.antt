-- A worked row: a stream whose round is cut into three stages, with a fault in round 1.
use Rattle.std.specs.Prelude.{◌≡◌, ℕ, zero, suc, eqb, List, [], ◌∷◌, get_or, pos}
use Rattle.std.specs.Prelude.{Option, Some, None, ℤ}
use Rattle.strc_elab_dataflow.specs.Streams.{Stream, Stream.One, Stream.Pipeline, Streams.Last}
use Rattle.strc_elab_dataflow.specs.Streams.{Streams.More}
use Rattle.strc_elab_dataflow.specs.Streams.{source_at_0, flat}
use Rattle.strc_elab_dataflow.specs.Answer.{Outcome, words_of}
use Rattle.strc_elab_dataflow.specs.Queues.{Fifo, FifoProgress.FifoWent, fifo_go, fifo_at_first}
use Rattle.strc_elab_dataflow.specs.Examples.{Block, Block.Counter, Block.Adder, Block.Quotient}
use Rattle.strc_elab_dataflow.specs.Examples.{Block.Printer, Cause, Word, line, example}
use Rattle.strc_elab_dataflow.specs.Rows.{Shown, Shown.FaultIn, shown, by_node, stop, minus}
use Rattle.strc_elab_dataflow.specs.Staging.{Staging}
use Rattle.strc_elab_dataflow.specs.Stages.{Parcel, Stage, Stage.Works, empty_parcel, step}
use Rattle.strc_elab_dataflow.specs.Stages.{staged_run}
use Rattle.strc_elab_dataflow.specs.Workers.{collects, IsChain}
use Rattle.strc_elab_dataflow.specs.Rewired.{StagedStream, staging_of, IsStagedStream}

-- What a node printed, where there is an outcome.
unfoldable pub shown_by : ℕ → Option (Outcome Cause Word) → Option Shown
shown_by printer (Some outcome) = Some (shown printer outcome)
shown_by printer None = None

module _ {Code State Cause Word : Type 0} (plan : Staging Code State Cause Word) where
  -- What a stage gives for a list of parcels, and its state after them.
  unfoldable pub gives : ℕ → Stage State Cause Word → List (Parcel Cause Word)
      → List (Parcel Cause Word)
  gives a stage [] = []
  gives a stage (parcel ∷ others) = (step plan a stage parcel).parcel
      ∷ gives a (step plan a stage parcel).stage others

  -- So many empty parcels.
  unfoldable pub empty_parcels : ℕ → List (Parcel Cause Word)
  empty_parcels zero = []
  empty_parcels (suc n) = empty_parcel ∷ empty_parcels n

  -- The parcels before each stage, where n empty ones have gone through all stages before.
  unfoldable pub all_given : Fifo State Cause Word → (n : ℕ) → ℕ → List (Parcel Cause Word)
  all_given now n zero = empty_parcels n
  all_given now n (suc a) = gives a (Works now) (all_given now n a)

-- A counter; its last two items added, and 12 divided by their sum without 3; a printer.
abbrev pub pipeline : Stream Block
pipeline = Pipeline (More (One Counter) (More (One Adder)
    (More (One (Quotient (pos 12) (pos 3))) (Last (One Printer)))))

-- A round fires each node once, and start-up the counter; the two nodes in the middle are one
-- stage.
abbrev pub three_stages : StagedStream Block ℤ Cause Word
three_stages = record {
  meaning = example;
  stream = pipeline;
  input = [];
  startup = by_node (1 ∷ 0 ∷ 0 ∷ 0 ∷ []);
  round = by_node (1 ∷ 1 ∷ 1 ∷ 1 ∷ []);
  startup_order = 0 ∷ [];
  round_order = 0 ∷ 1 ∷ 2 ∷ 3 ∷ [];
  rounds = 3;
  source = λ node. source_at_0 ((flat pipeline).source node 0);
  carries = λ node port. eqb port 0;
  stage_of = λ node. get_or (0 ∷ 1 ∷ 1 ∷ 2 ∷ []) node 0;
  segment = λ a. get_or ((0 ∷ []) ∷ (1 ∷ 2 ∷ []) ∷ (3 ∷ []) ∷ []) a [];
  stages = 3;
}

-- It meets what the laws ask; the run stage by stage prints -6 and stops at a division by zero in
-- round 1; and after start-up three parcels that went through the stages one after another are a
-- chain of workers, of which the collector makes the same.
pub record ThreeStagesRow : Type 0 where
  pub meets : IsStagedStream three_stages
  pub run : shown_by 3 (staged_run (staging_of three_stages))
      ≡ Some (FaultIn 1 (stop 2 1) (line (minus 6) ∷ []))
  pub chain : (now : Fifo ℤ Cause Word)
      × (fifo_go example (staging_of three_stages).graph three_stages.startup_order
      (fifo_at_first example (staging_of three_stages).graph []) ≡ FifoWent now)
      × IsChain (staging_of three_stages) now (all_given (staging_of three_stages) now 3)
      (all_given (staging_of three_stages) now 3) (λ b. [])
      × (shown_by 3 (collects (staging_of three_stages) 3 0 (words_of now.runs)
      (all_given (staging_of three_stages) now 3 3))
      ≡ Some (FaultIn 1 (stop 2 1) (line (minus 6) ∷ [])))
