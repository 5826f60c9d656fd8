-- Sources at ports without items make no difference to schedules, solutions and runs.
use Rattle.std.proofs.Common.{◌≡◌, refl, sym, ap, ◌∙◌, subst, ℕ, zero, suc, ◌+◌, ◌<◌, ◌≤◌}
use Rattle.std.proofs.Common.{Bool, true, false, List, [], ◌∷◌, ℤ, arith}
use mathlib.Core.Path.{fun_ext}
use mathlib.Core.Logic.{inl, inr, ◌⊎◌}
use Rattle.strc_elab_dataflow.specs.Node.{ByPort, Meaning, total}
use Rattle.strc_elab_dataflow.specs.Histories.{Run, initial_run, runs, advance}
use Rattle.strc_elab_dataflow.specs.Flat.{Source, Graph, runs_at, arrived, Solves}
use Rattle.strc_elab_dataflow.specs.Streams.{flat}
use Rattle.strc_elab_dataflow.specs.Order.{raised, supply_of, supply}
use Rattle.strc_elab_dataflow.specs.Order.{IsReady, IsOrder}
use Rattle.strc_elab_dataflow.specs.Answer.{IsAnswerOf, stream_runs}
use Rattle.strc_elab_dataflow.specs.Queues.{Fifo, FifoProgress, FifoProgress.FifoWent, fifo_go}
use Rattle.strc_elab_dataflow.specs.Queues.{FifoProgress.FifoStopped, fifo_at_first}
use Rattle.strc_elab_dataflow.specs.Laws.{IsIdle}
use Rattle.strc_elab_dataflow.proofs.Ports.{none_taken, advance_same}
use Rattle.strc_elab_dataflow.proofs.Solved.{stream_solves}
use Rattle.strc_elab_dataflow.specs.Cut.{AllIn}
use Rattle.strc_elab_dataflow.specs.Staging.{Staging, counts, after, IsSolved, IsStaging}
use Rattle.strc_elab_dataflow.specs.Rewired.{rewired, IsRewiring, IsLocal, AreLocal, StagedStream}
use Rattle.strc_elab_dataflow.specs.Rewired.{rewired_plan, flat_plan, staging_of, IsStagedStream}
use Rattle.strc_elab_dataflow.specs.StageLaws.{StageIsLocal, RewiringKeeps, StreamIsStaging}
use Rattle.strc_elab_dataflow.specs.StageLaws.{ChainGivesStreamAnswer}
use Rattle.strc_elab_dataflow.proofs.Frame.{spoken_after, IsFramed, AreFramed, go_framed}
use Rattle.strc_elab_dataflow.proofs.Chains.{chain_gives_answer}

module _ {Code State Cause Word : Type 0} (meaning : Meaning Code State Cause Word) (code : Code)
    (xs ys : ByPort)
    (same : (port : ℕ) → port < meaning.ports code
    → (xs port ≡ ys port) ⊎ IsIdle meaning code port) where
  -- Inputs that differ at idle ports give the same runs.
  pub runs_same : (n : ℕ) → runs meaning code n xs ≡ runs meaning code n ys
  unfolding runs
  runs_same zero = refl
  runs_same (suc n) = ap (advance meaning code xs) (runs_same n)
      ∙ advance_same meaning code xs ys same (runs meaning code n ys)

module _ {Code State Cause Word : Type 0} (meaning : Meaning Code State Cause Word)
    (graph : Graph Code) (source : ℕ → ℕ → Source) (carries : ℕ → ℕ → Bool)
    (is : IsRewiring meaning graph source carries) (input : List ℤ) where
  -- A port carries its items, or is idle.
  which : (v port : ℕ) → port < meaning.ports (graph.code v)
      → (graph.source v port ≡ source v port) ⊎ IsIdle meaning (graph.code v) port
  which v port less = by_test (carries v port) refl
    where
      by_test : (test : Bool) → carries v port ≡ test
          → (graph.source v port ≡ source v port) ⊎ IsIdle meaning (graph.code v) port
      by_test true e = inl (is.same v port e)
      by_test false e = inr (is.idle v port less e)

  ready_rewired : (counts : ℕ → ℕ) (v : ℕ) → IsReady meaning graph input counts v
      → IsReady meaning (rewired graph source) input counts v
  unfolding supply supply_of
  ready_rewired counts v ready port less = by_case (which v port less)
    where
      by_case : (graph.source v port ≡ source v port) ⊎ IsIdle meaning (graph.code v) port
          → total (meaning.popped (graph.code v)) (counts v) port
          + meaning.window (graph.code v) (counts v) port
          ≤ supply meaning (rewired graph source) input counts (source v port)
      by_case (inl e) = subst (λ (s : Source).
          total (meaning.popped (graph.code v)) (counts v) port
          + meaning.window (graph.code v) (counts v) port
          ≤ supply meaning (rewired graph source) input counts s) e (ready port less)
      by_case (inr idle) = omega (
        arith,
        none_taken meaning (graph.code v) port (counts v) idle,
        (idle (counts v)).0,
      )

  pub order_rewired : (order : List ℕ) (counts : ℕ → ℕ) → IsOrder meaning graph input counts order
      → IsOrder meaning (rewired graph source) input counts order
  order_rewired [] counts valid = tt
  order_rewired (node ∷ order) counts valid =
      (ready_rewired counts node valid.0, order_rewired order (raised counts node) valid.1)

  module _ (counts : ℕ → ℕ) (inputs : ℕ → ByPort)
      (solves : Solves meaning graph counts input inputs) where
    abbrev inputs' : ℕ → ByPort
    inputs' v port = arrived input (runs_at meaning graph counts inputs) (source v port)

    come_same : (v port : ℕ)
        → (graph.source v port ≡ source v port) ⊎ IsIdle meaning (graph.code v) port
        → (inputs' v port ≡ inputs v port) ⊎ IsIdle meaning (graph.code v) port
    come_same v port (inl e) = inl (ap (arrived input (runs_at meaning graph counts inputs)) (sym e)
        ∙ sym (solves v port))
    come_same v port (inr idle) = inr idle

    pub runs_rewired : runs_at meaning (rewired graph source) counts inputs'
        ≡ runs_at meaning graph counts inputs
    unfolding runs_at
    runs_rewired = fun_ext (λ v. runs_same meaning (graph.code v) (inputs' v) (inputs v)
        (λ port less. come_same v port (which v port less)) (counts v))

    pub solves_rewired : Solves meaning (rewired graph source) counts input inputs'
    solves_rewired v port = ap (λ (now : ℕ → Run State Cause Word).
        arrived input now (source v port)) (sym runs_rewired)

module _ {State Cause Word : Type 0} where
  unspoken : (run : Run State Cause Word) → run ≡ spoken_after [] run
  unfolding spoken_after
  unspoken run = refl

module _ {Code State Cause Word : Type 0} (meaning : Meaning Code State Cause Word)
    (graph : Graph Code) (source : ℕ → ℕ → Source) (carries : ℕ → ℕ → Bool) (own : ℕ → Bool)
    (others : ℕ → Run State Cause Word) (front : ℕ → ByPort) where
  abbrev Framed : (all here : Fifo State Cause Word) → Type 0
  Framed = IsFramed meaning graph.size graph.code graph.source source graph.size own carries
      (λ v. []) others front

  framed_from : (all here : Fifo State Cause Word) → IsLocal own carries others front all here
      → Framed all here
  framed_from all here local = record {
    own_runs = λ v v_own. local.own_runs v v_own ∙ unspoken (here.runs v);
    other_runs = local.other_runs;
    own_queues = local.own_queues;
    other_queues = local.other_queues;
  }

  local_from : (all here : FifoProgress State Cause Word)
      → AreFramed meaning graph.size graph.code graph.source source graph.size own carries
      (λ v. []) others front all here
      → AreLocal own carries others front all here
  local_from (FifoWent all) (FifoWent here) framed = record {
    own_runs = λ v v_own. framed.own_runs v v_own ∙ sym (unspoken (here.runs v));
    other_runs = framed.other_runs;
    own_queues = framed.own_queues;
    other_queues = framed.other_queues;
  }
  local_from (FifoWent all) (FifoStopped stop) framed = framed
  local_from (FifoStopped stop) (FifoWent here) framed = framed
  local_from (FifoStopped stop) (FifoStopped other) framed = framed

-- A stage over its own queues.
pub stage_is_local : {Code State Cause Word : Type 0} → StageIsLocal Code State Cause Word
stage_is_local meaning graph source carries own others front order all here is inside local =
    local_from meaning graph source carries own others front (fifo_go meaning graph order all)
    (fifo_go meaning (rewired graph source) order here)
    (go_framed meaning graph.size graph.code graph.source source graph.size own carries (λ v. [])
    others front (λ v port carried. ap (λ (s : Source). s.origin) (is.same v port carried))
    (λ v port v_own less e. is.idle v port less e) order inside all here
    (framed_from meaning graph source carries own others front all here local))

all_in : (order : List ℕ) → AllIn (λ v. true) order
all_in [] = tt
all_in (node ∷ order) = (refl, all_in order)

module _ {Code State Cause Word : Type 0} (plan : Staging Code State Cause Word)
    (source : ℕ → ℕ → Source) (carries : ℕ → ℕ → Bool) (solved : IsSolved plan)
    (is : IsRewiring plan.meaning plan.graph source carries) where
  pub plan_after : (t : ℕ) → t ≤ plan.rounds → after (rewired_plan plan source) t ≡ after plan t
  plan_after t within = runs_rewired plan.meaning plan.graph source carries is plan.input
      (counts plan t) (plan.inputs t) (solved.solves t within)

  pub plan_solved : IsSolved (rewired_plan plan source)
  plan_solved = record {
    keeps = solved.keeps;
    takes_within = solved.takes_within;
    schedule = record {
      startup_counts = solved.schedule.startup_counts;
      round_counts = solved.schedule.round_counts;
      startup_finds = order_rewired plan.meaning plan.graph source carries is plan.input
          plan.startup_order (λ v. 0) solved.schedule.startup_finds;
      round_finds = λ t less. order_rewired plan.meaning plan.graph source carries is plan.input
          plan.round_order (counts plan t) (solved.schedule.round_finds t less);
    };
    solves = λ t within. solves_rewired plan.meaning plan.graph source carries is plan.input
        (counts plan t) (plan.inputs t) (solved.solves t within);
  }

-- A schedule and a solution over other sources.
pub rewiring_keeps : {Code State Cause Word : Type 0} → RewiringKeeps Code State Cause Word
unfolding fifo_at_first
rewiring_keeps {State = State} {Cause = Cause} {Word = Word} plan source carries solved is = (
  plan_solved plan source carries solved is,
  plan_after plan source carries solved is,
  stage_is_local plan.meaning plan.graph source carries (λ v. true)
      (λ v. initial_run plan.meaning (plan.graph.code v)) (λ v port. []) plan.startup_order
      (fifo_at_first plan.meaning plan.graph plan.input)
      (fifo_at_first plan.meaning (rewired plan.graph source) plan.input) is
      (all_in plan.startup_order) (record {
        own_runs = λ v v_own. refl;
        other_runs = λ v away. refl;
        own_queues = λ v port v_own carried. ap (arrived plan.input (λ u.
            initial_run plan.meaning (plan.graph.code u))) (is.same v port carried);
        other_queues = λ v port away carried. absurd (grind arith);
      }),
)

module _ {Code State Cause Word : Type 0} (staged : StagedStream Code State Cause Word)
    (is : IsStagedStream staged) where
  flat_solved : IsSolved (flat_plan staged)
  flat_solved = record {
    keeps = is.keeps;
    takes_within = is.takes_within;
    schedule = is.schedule;
    solves = λ t within. stream_solves staged.meaning (counts (flat_plan staged) t) staged.input
        staged.stream is.keeps;
  }

  pub stream_after : (t : ℕ) → after (staging_of staged) t
      ≡ stream_runs staged.meaning staged.stream staged.input staged.startup staged.round t
  unfolding stream_runs
  stream_after t = runs_rewired staged.meaning (flat staged.stream) staged.source staged.carries
      is.rewiring staged.input (counts (flat_plan staged) t) ((flat_plan staged).inputs t)
      (stream_solves staged.meaning (counts (flat_plan staged) t) staged.input staged.stream
      is.keeps)

  pub stream_staging : IsStaging (staging_of staged)
  stream_staging = record {
    solved = plan_solved (flat_plan staged) staged.source staged.carries flat_solved is.rewiring;
    staged = is.cut;
  }

-- A stream that is cut into stages.
pub stream_is_staging : {Code State Cause Word : Type 0} → StreamIsStaging Code State Cause Word
stream_is_staging staged is =
    (flat_solved staged is, stream_staging staged is, λ t within. stream_after staged is t)

-- A chain of workers over it.
pub chain_gives_stream_answer : {Code State Cause Word : Type 0}
    → ChainGivesStreamAnswer Code State Cause Word
chain_gives_stream_answer {State = State} {Cause = Cause} {Word = Word} staged now given taken left
    outcome is went chain e =
    subst (λ (f : ℕ → ℕ → Run State Cause Word). IsAnswerOf f staged.startup staged.round
    staged.startup_order staged.round_order staged.rounds outcome)
    (fun_ext (stream_after staged is))
    ((chain_gives_answer (staging_of staged) now given taken left (stream_staging staged is)
    went chain).2 outcome e)
