-- How a text is answered with a plan.
use Rattle.std.specs.Prelude.{◌≡◌, ℕ, List, Result, Ok, Err}
use Rattle.strc_elab_graph.specs.FlatGraphs.{IsProgram}
use Rattle.strc_elab_stream.specs.Flattening.{tree_of, nodes_of}
use Rattle.strc_stage_plan.specs.Plans.{PlanParts, graph_of}
use Rattle.strc_run_refusal.specs.declared.refusal.Refusal.{Refusal}
use Rattle.strc_run.specs.Accepts.{Accepts}
use Rattle.strc_run.specs.Choices.{Choice}
use Rattle.strc_run.specs.Refuses.{IsTrueOf}

-- the plan is that of an accepted text, and its graph is the whole program's
pub record IsPlanOf (text : List ℕ) (choice : Choice) (plan : PlanParts) : Type 0 where
  pub accepted : Accepts text choice plan
  pub whole : IsProgram (tree_of accepted.stream) (graph_of plan)
  pub nodes : (graph_of plan).nodes ≡ nodes_of accepted.stream

-- an answer is the text's plan, or the refusal that holds
abbrev pub HasPlan : List ℕ → Choice → Result PlanParts Refusal → Type 0
HasPlan text choice (Ok plan) = IsPlanOf text choice plan
HasPlan text choice (Err refused) = IsTrueOf text choice refused
