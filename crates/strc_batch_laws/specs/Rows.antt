-- Worked rows: a source and a printer that run by batches, and units of a batch.
use Rattle.std.specs.Prelude.{◌≡◌, ℕ, zero, suc, ◌+◌, ◌-◌, ◌*◌, max, ℤ, pos, List, [], ◌∷◌, ◌++◌}
use Rattle.std.specs.Prelude.{get_or}
use Rattle.strc_elab_dataflow.specs.Node.{ByPort, Fired, Fired.Fires, Meaning, at_port_0}
use Rattle.strc_elab_dataflow.specs.Flat.{Origin.Nowhere, Origin.Port, Graph}
use Rattle.strc_elab_dataflow.specs.Order.{raised, counts_after, fill, IsSchedule}
use Rattle.strc_elab_dataflow.specs.Answer.{Outcome, Outcome.Done, Outcome.StartupFault}
use Rattle.strc_elab_dataflow.specs.Answer.{Outcome.RoundFault}
use Rattle.strc_elab_dataflow.specs.Queues.{fifo_at_first, fifo_run}
use Rattle.strc_elab_dataflow.specs.FusedUnits.{firings_of}
use Rattle.strc_elab_dataflow.specs.Staging.{repeated, IsStaged}
use Rattle.strc_batch_laws.specs.Batches.{batch_order, batch_counts}
use Rattle.strc_batch_laws.specs.Fits.{round_gives}
use Rattle.strc_batch_laws.specs.Runs.{before_batches}
use Rattle.strc_batch_laws.specs.Units.{batch_units, batch_units_of}

-- A source that pushes the next two numbers, and a printer that pops three.
pub data Code : Type 0 where
  Source : Code
  Printer : Code
  Nothing : Code

unfoldable pub ports_of : Code → ℕ
ports_of Printer = 1
ports_of _ = 0

unfoldable pub takes_of : Code → ℕ
takes_of Printer = 3
takes_of _ = 0

unfoldable pub gives_of : Code → ℕ → ℕ
gives_of Source zero = 2
gives_of _ _ = 0

unfoldable pub fires_as : Code → ℕ → ByPort → Fired ℕ ℕ ℤ
fires_as Source n seen = Fires (n + 2) (at_port_0 (pos n ∷ pos (suc n) ∷ [])) []
fires_as Printer n seen = Fires n (λ port. []) (seen 0)
fires_as Nothing n seen = Fires n (λ port. []) []

unfoldable pub meaning : Meaning Code ℕ ℕ ℤ
meaning = record {
  start = λ code. 0;
  ports = ports_of;
  window = λ code firing port. takes_of code;
  popped = λ code firing port. takes_of code;
  pushed = λ code firing. gives_of code;
  fire = λ code firing. fires_as code;
}

unfoldable pub graph : Graph Code
graph = record {
  size = 2;
  code = λ node. get_or (Source ∷ Printer ∷ []) node Nothing;
  source = λ node port. record {
    enqueued = [];
    origin = get_or (Nowhere ∷ Port 0 0 ∷ []) node Nowhere;
  };
}

-- A round: the source fires three times, the printer twice. Each is a stage.
abbrev pub round_list : List ℕ
round_list = 3 ∷ 2 ∷ []

abbrev pub round : ℕ → ℕ
round node = get_or round_list node 0

abbrev pub round_order : List ℕ
round_order = 0 ∷ 0 ∷ 0 ∷ 1 ∷ 1 ∷ []

abbrev pub stage_of : ℕ → ℕ
stage_of node = get_or (0 ∷ 1 ∷ []) node 0

abbrev pub segment : ℕ → List ℕ
segment a = get_or ((0 ∷ 0 ∷ 0 ∷ []) ∷ (1 ∷ 1 ∷ []) ∷ []) a []

-- The most items that wait at a port before, between and after the firings of an order.
unfoldable pub most_waiting : (counts : ℕ → ℕ) → List ℕ → (node port : ℕ) → ℕ
most_waiting counts [] node port = fill meaning graph [] counts node port
most_waiting counts (first ∷ order) node port =
    max (fill meaning graph [] counts node port)
    (most_waiting (raised counts first) order node port)

-- What a node printed.
unfoldable pub printed : ℕ → Outcome ℕ ℤ → List ℤ
printed node (Done words) = words node
printed node (StartupFault stop) = []
printed node (RoundFault q stop words) = []

-- The numbers from one on, so many.
unfoldable pub numbers_from : (first many : ℕ) → List ℤ
numbers_from first zero = []
numbers_from first (suc many) = pos first ∷ numbers_from (suc first) many

-- A batch of four rounds fires the source twelve times, and then the printer eight times; four
-- times as many items wait as in a round, and a buffer for a round and for what is pushed in three
-- more has just the room for them.
pub record BatchRow : Type 0 where
  pub order : batch_order 4 segment 2
      ≡ 0 ∷ 0 ∷ 0 ∷ 0 ∷ 0 ∷ 0 ∷ 0 ∷ 0 ∷ 0 ∷ 0 ∷ 0 ∷ 0 ∷ 1 ∷ 1 ∷ 1 ∷ 1 ∷ 1 ∷ 1 ∷ 1 ∷ 1 ∷ []
  pub source_fires : batch_counts 4 round 0 ≡ 12
  pub printer_fires : batch_counts 4 round 1 ≡ 8
  pub staged : IsStaged graph stage_of segment 2 round_order
  pub round_waits : most_waiting (λ node. 0) round_order 1 0 ≡ 6
  pub batch_waits : most_waiting (λ node. 0) (batch_order 4 segment 2) 1 0 ≡ 24
  pub batch_room : 6 + (4 - 1) * round_gives meaning graph (fifo_at_first meaning graph []) round 0
      0 ≡ 24

-- Five rounds by batches of two: one round by itself comes first, then there are two batches. They
-- are schedules, of the same firings in all, and both print the numbers below thirty.
pub record BatchesRow : Type 0 where
  pub rounds : IsSchedule meaning graph [] (λ node. 0) round [] round_order 5
  pub batches : IsSchedule meaning graph [] (counts_after (λ node. 0) round 1)
      (batch_counts 2 round) (before_batches [] 1 round_order) (batch_order 2 segment 2) 2
  pub firings : before_batches [] 1 round_order ++ repeated 2 (batch_order 2 segment 2)
      ≡ 0 ∷ 0 ∷ 0 ∷ 1 ∷ 1
      ∷ 0 ∷ 0 ∷ 0 ∷ 0 ∷ 0 ∷ 0 ∷ 1 ∷ 1 ∷ 1 ∷ 1
      ∷ 0 ∷ 0 ∷ 0 ∷ 0 ∷ 0 ∷ 0 ∷ 1 ∷ 1 ∷ 1 ∷ 1 ∷ []
  pub source_fired : counts_after (counts_after (λ node. 0) round 1) (batch_counts 2 round) 2 0 ≡ 15
  pub printer_fired :
      counts_after (counts_after (λ node. 0) round 1) (batch_counts 2 round) 2 1 ≡ 10
  pub rounds_print : printed 1 (fifo_run meaning graph [] round_order [] 5) ≡ numbers_from 0 30
  pub batches_print : printed 1 (fifo_run meaning graph [] (batch_order 2 segment 2)
      (before_batches [] 1 round_order) 2) ≡ numbers_from 0 30

-- The round's units are a group each: their turns are four times as many. The two units of one
-- group, a loop's, become one unit of four turns, in which their firings alternate as in a round.
pub record BatchUnitsRow : Type 0 where
  pub apart : batch_units_of 4
      (λ a. get_or ((record { turns = 3; nodes = 0 ∷ [] } ∷ [])
      ∷ (record { turns = 2; nodes = 1 ∷ [] } ∷ []) ∷ []) a []) 2
      ≡ record { turns = 12; nodes = 0 ∷ [] } ∷ record { turns = 8; nodes = 1 ∷ [] } ∷ []
  pub loop : batch_units 4
      (record { turns = 2; nodes = 0 ∷ [] } ∷ record { turns = 1; nodes = 1 ∷ [] } ∷ [])
      ≡ record { turns = 4; nodes = 0 ∷ 0 ∷ 1 ∷ [] } ∷ []
  pub loop_fires : firings_of (batch_units 4
      (record { turns = 2; nodes = 0 ∷ [] } ∷ record { turns = 1; nodes = 1 ∷ [] } ∷ []))
      ≡ 0 ∷ 0 ∷ 1 ∷ 0 ∷ 0 ∷ 1 ∷ 0 ∷ 0 ∷ 1 ∷ 0 ∷ 0 ∷ 1 ∷ []
