-- The equations of a declared graph are those of what contracts see of it.
use Rattle.std.proofs.Common.{◌≡◌, ◌∙◌, ℕ, List, length, map, ap, sym, subst, Result}
use Rattle.std.proofs.lemmas.List.{length-map}
use Rattle.strc_elab_graph.specs.declared.graph.Node.{Node}
use Rattle.strc_elab_graph.specs.declared.graph.Channel.{Channel}
use Rattle.strc_elab_graph.specs.NodeView.{GraphParts, graph_view, node_view, channel_view}
use Rattle.strc_balance.specs.declared.equation.Equation.{Equation}
use Rattle.strc_balance.specs.declared.error.BalanceError.{BalanceError}
use Rattle.strc_balance.specs.Rates.{equation_of, equations_of, size_of}
use Rattle.strc_balance.specs.Verdicts.{IsVerdict, judged}

module _ (parts : GraphParts) (nodes : List Node) (channels : List Channel)
    (equations : List Equation) (same_nodes : nodes ≡ parts.nodes)
    (same_channels : channels ≡ parts.channels)
    (is : equations ≡ map (equation_of (map node_view nodes)) (map channel_view channels)) where
  pub same_size : length nodes ≡ size_of (graph_view parts)
  same_size = ap length same_nodes ∙ sym (length-map parts.nodes node_view)

  pub same_equations : equations ≡ equations_of (graph_view parts)
  same_equations =
      is
      ∙ ap (λ ns. map (equation_of (map node_view ns)) (map channel_view channels)) same_nodes
      ∙ ap (λ cs. map (equation_of (map node_view parts.nodes)) (map channel_view cs))
      same_channels

  pub graph_verdict : (result : Result (List ℕ) BalanceError)
      → IsVerdict (judged (length nodes) equations) result
      → IsVerdict (judged (size_of (graph_view parts)) (equations_of (graph_view parts))) result
  graph_verdict result verdict =
      subst (λ es. IsVerdict (judged (size_of (graph_view parts)) es) result) same_equations
      (subst (λ n. IsVerdict (judged n equations) result) same_size verdict)
