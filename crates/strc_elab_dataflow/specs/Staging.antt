-- A schedule whose round is cut into stages: the nodes of each stage fire in a segment of the
-- order, and what they push goes to no earlier stage (Gordon, Thies and Amarasinghe 2006: coarse-
-- grained software pipelining).
use Rattle.std.specs.Prelude.{◌≡◌, ℕ, zero, suc, ◌<◌, ◌≤◌, Bool, eqb, ltb, ℤ, List, [], ◌++◌}
use Rattle.strc_elab_dataflow.specs.Node.{ByPort, Meaning}
use Rattle.strc_elab_dataflow.specs.Histories.{Run, KeepsRates}
use Rattle.strc_elab_dataflow.specs.Flat.{Origin, Origin.Nowhere, Origin.Input, Origin.Port, Graph}
use Rattle.strc_elab_dataflow.specs.Flat.{runs_at, Solves}
use Rattle.strc_elab_dataflow.specs.Order.{counts_after, IsSchedule}
use Rattle.strc_elab_dataflow.specs.Queues.{TakesWithinWindow}
use Rattle.strc_elab_dataflow.specs.Cut.{AllIn}

-- The segments of stages 0 to b - 1, one after another.
unfoldable pub joined : (segment : ℕ → List ℕ) → ℕ → List ℕ
joined segment zero = []
joined segment (suc a) = joined segment a ++ segment a

-- An order so many times.
unfoldable pub repeated : ℕ → List ℕ → List ℕ
repeated zero order = []
repeated (suc t) order = repeated t order ++ order

-- Is a node's stage before this one?
unfoldable pub before : (stage_of : ℕ → ℕ) → ℕ → ℕ → Bool
before stage_of b node = ltb (stage_of node) b

-- Is this one its stage?
unfoldable pub in_stage : (stage_of : ℕ → ℕ) → ℕ → ℕ → Bool
in_stage stage_of a node = eqb (stage_of node) a

-- An origin that is no node of a stage after this one.
abbrev pub IsFromUpTo : (stage_of : ℕ → ℕ) → ℕ → Origin → Type 0
IsFromUpTo stage_of a Nowhere = Unit {0}
IsFromUpTo stage_of a Input = Unit {0}
IsFromUpTo stage_of a (Port node port) = stage_of node ≤ a

-- A round's order is the segments of the stages in turn, each over nodes of its own stage; and no
-- channel goes to an earlier stage. A number that is no node is in some stage too.
pub record IsStaged {Code : Type 0} (graph : Graph Code) (stage_of : ℕ → ℕ) (segment : ℕ → List ℕ)
    (stages : ℕ) (round_order : List ℕ) : Type 0 where
  pub own : (a : ℕ) → a < stages → AllIn (in_stage stage_of a) (segment a)
  pub order : round_order ≡ joined segment stages
  pub within : (node : ℕ) → stage_of node < stages
  pub backward : (node port : ℕ)
      → IsFromUpTo stage_of (stage_of node) (graph.source node port).origin

-- A graph with its schedule and stages, and inputs of its nodes by the number of rounds.
pub record Staging (Code State Cause Word : Type 0) : Type 0 where
  pub meaning : Meaning Code State Cause Word
  pub graph : Graph Code
  pub input : List ℤ
  pub startup : ℕ → ℕ
  pub round : ℕ → ℕ
  pub startup_order : List ℕ
  pub round_order : List ℕ
  pub rounds : ℕ
  pub stage_of : ℕ → ℕ
  pub segment : ℕ → List ℕ
  pub stages : ℕ
  pub inputs : ℕ → ℕ → ByPort

module _ {Code State Cause Word : Type 0} (plan : Staging Code State Cause Word) where
  -- The counts after start-up and t rounds.
  abbrev pub counts : ℕ → ℕ → ℕ
  counts t = counts_after plan.startup plan.round t

  -- The runs that the equations give at these counts.
  abbrev pub after : ℕ → ℕ → Run State Cause Word
  after t = runs_at plan.meaning plan.graph (counts t) (plan.inputs t)

  -- Codes keep their rates and take within their windows, the orders are valid by counts, and the
  -- inputs solve the equations.
  pub record IsSolved : Type 0 where
    pub keeps : (node : ℕ) → KeepsRates plan.meaning (plan.graph.code node)
    pub takes_within : TakesWithinWindow plan.meaning plan.graph
    pub schedule : IsSchedule plan.meaning plan.graph plan.input plan.startup plan.round
        plan.startup_order plan.round_order plan.rounds
    pub solves : (t : ℕ) → t ≤ plan.rounds
        → Solves plan.meaning plan.graph (counts t) plan.input (plan.inputs t)

  -- And the round is staged.
  pub record IsStaging : Type 0 where
    pub solved : IsSolved
    pub staged : IsStaged plan.graph plan.stage_of plan.segment plan.stages plan.round_order
