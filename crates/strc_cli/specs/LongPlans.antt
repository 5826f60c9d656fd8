-- The lines of a text's plan with what is told of each node.
use Rattle.std.specs.Prelude.{ℕ, List, Option, Some, None}
use Rattle.strc_elab_stream.specs.View.{stream_view}
use Rattle.strc_elab_stream.specs.declared.stream.Stream.{Stream}
use Rattle.strc_stage_plan.specs.Plans.{PlanParts}
use Rattle.strc_run.specs.Choices.{Choice}
use Rattle.strc_run.specs.Plans.{IsPlanOf}
use Rattle.strc_run.specs.Streams.{IsStreamOf}
use Rattle.strc_cli_output.specs.Works.{IsLongPlanText}
use Rattle.strc_cli_output.specs.declared.node_order.NodeOrder.{NodeOrder}
use Rattle.strc_cli_output.specs.declared.node_order.NodeOrder.TheVariants as order
use Rattle.strc_cli_words.specs.declared.line.SortKey.{SortKey}
use Rattle.strc_cli_words.specs.declared.line.SortKey.TheVariants as sort

-- the order of nodes that is asked for
abbrev pub order_of : Option SortKey → NodeOrder
order_of None = order.Number
order_of (Some sort.Work) = order.Work
order_of (Some sort.Size) = order.Size

-- the text is accepted, and these are the lines of its plan, with what is told of each node of its
-- main stream
pub record HasLongPlan (text : List ℕ) (choice : Choice) (sort : Option SortKey) (lines : List ℕ)
    : Type 0 where
  pub plan : PlanParts
  pub planned : IsPlanOf text choice plan
  pub stream : Stream
  pub means : IsStreamOf text choice.main (stream_view stream)
  pub told : IsLongPlanText plan stream (order_of sort) lines
