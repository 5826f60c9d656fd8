-- The work of nodes in a round, one node more, and the whole text of a long plan.
use Rattle.std.proofs.Common.{◌≡◌, ◌∙◌, ◌<◌, ◌+◌, ℕ, List, [], ◌∷◌, ◌++◌, length, drop, refl}
use Rattle.std.proofs.Common.{ap, slice_index, subst}
use Rattle.std.proofs.lemmas.List.{drop_more}
use Rattle.strc_elab_stream.specs.declared.stream.Stream.{Stream}
use Rattle.strc_stage_plan.specs.Plans.{PlanParts, graph_of}
use Rattle.strc_stage_weights.specs.FiringWork.{firing_works}
use Rattle.strc_stage_weights.specs.RoundWork.{work_in_round}
use Rattle.strc_elab_paths.specs.Outlines.{outline}
use Rattle.strc_elab_paths.specs.Paths.{paths_of}
use Rattle.strc_cli_output.specs.NodeOrders.{AreIn}
use Rattle.strc_cli_output.specs.Output.{plan_text}
use Rattle.strc_cli_output.specs.Totals.{sizes_behind, sum_of}
use Rattle.strc_cli_output.specs.Works.{IsLongPlanText, Nodes, node_lines, nodes_of, round_works}
use Rattle.strc_cli_output.specs.Works.{total_line}
use Rattle.strc_cli_output.specs.declared.node_order.NodeOrder.{NodeOrder}
use Rattle.strc_cli_output.proofs.Texts.{piece_more}

abbrev pub told_with : (paths : List (List ℕ)) → (firings rounds sizes : List ℕ) → Nodes
told_with paths firings rounds sizes =
    record { paths = paths; firings = firings; rounds = rounds; sizes = sizes }

pub one_work_more : (node : ℕ) (firings counts works after whole : List ℕ) (work : ℕ)
    → node < length firings → node < length counts
    → work ≡ work_in_round (slice_index counts node) (slice_index firings node)
    → after ≡ works ++ work ∷ []
    → works ++ round_works (drop node firings) (drop node counts) ≡ whole
    → after ++ round_works (drop (node + 1) firings) (drop (node + 1) counts) ≡ whole
one_work_more node firings counts works after whole work fired counted is more before =
    let rest = round_works (drop (node + 1) firings) (drop (node + 1) counts) in
    let own : drop node firings ≡ slice_index firings node ∷ drop (node + 1) firings =
    drop_more firings node 0 fired in
    let times : drop node counts ≡ slice_index counts node ∷ drop (node + 1) counts =
    drop_more counts node 0 counted in
    let first : round_works (drop node firings) (drop node counts) ≡ (work ∷ []) ++ rest =
    rw (own, times, is) refl in
    piece_more works (work ∷ []) after rest _ whole more first before

-- what is told of a plan's nodes, part by part
pub all_told : (plan : PlanParts) (stream : Stream) (paths : List (List ℕ))
    (firings rounds sizes : List ℕ) → paths ≡ paths_of (outline [] stream)
    → firings ≡ firing_works (graph_of plan).nodes
    → rounds ≡ round_works firings plan.round_counts
    → sizes ≡ sizes_behind (length plan.graph.nodes) plan.graph.channels plan.schedule.sizes
    → told_with paths firings rounds sizes ≡ nodes_of plan stream
all_told plan stream paths firings rounds sizes paths_are firings_are rounds_are sizes_are =
    rw (paths_are, sizes_are, rounds_are, firings_are) refl

-- the whole text, from its parts
pub long_text : (plan : PlanParts) (stream : Stream) (order : NodeOrder) (told : Nodes)
    (numbers : List ℕ) (nodes channels items work : ℕ) (before between text : List ℕ)
    → told ≡ nodes_of plan stream → AreIn order told.rounds told.sizes numbers
    → before ≡ plan_text plan → between ≡ before ++ node_lines told numbers
    → text ≡ between ++ total_line nodes channels items work
    → nodes ≡ length plan.graph.nodes → channels ≡ length plan.graph.channels
    → items ≡ sum_of told.sizes → work ≡ sum_of told.rounds
    → IsLongPlanText plan stream order text
long_text plan stream order told numbers nodes channels items work before between text same ordered
    first middle last nodes_are channels_are items_are work_is =
    let line : total_line nodes channels items work
    ≡ total_line (length plan.graph.nodes) (length plan.graph.channels) (sum_of told.sizes)
    (sum_of told.rounds) = rw (nodes_are, channels_are, items_are, work_is) refl in
    let whole : text ≡ plan_text plan ++ node_lines told numbers
    ++ total_line (length plan.graph.nodes) (length plan.graph.channels) (sum_of told.sizes)
    (sum_of told.rounds) =
    last
    ∙ ap (λ (l : List ℕ). l ++ total_line nodes channels items work)
    (middle ∙ ap (λ (l : List ℕ). l ++ node_lines told numbers) first)
    ∙ ap (λ (l : List ℕ). plan_text plan ++ node_lines told numbers ++ l) line in
    record {
      numbers = numbers;
      ordered = subst (λ (t : Nodes). AreIn order t.rounds t.sizes numbers) same ordered;
      is = subst (λ (t : Nodes). text ≡ plan_text plan ++ node_lines t numbers
          ++ total_line (length plan.graph.nodes) (length plan.graph.channels) (sum_of t.sizes)
          (sum_of t.rounds)) same whole;
    }
