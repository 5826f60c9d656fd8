use Rattle.std.proofs.Common.{◌∙◌, ap, map, ◌≡◌, ℕ, suc, ◌++◌, arith}
use Rattle.strc_fiss.specs.Numbers.{up_to, last_of}
use Rattle.strc_elab_graph.specs.NodeView.{node_view}
use Rattle.strc_fiss.specs.Splitting.{part_code}
use Rattle.strc_fiss.proofs.Sequences.{pushed}
use Rattle.strc_fiss.proofs.parts.push_nodes.Goals as goal

pub loop-part-preserved : goal.loop-part-preserved
loop-part-preserved c =
    ap (map node_view) c.in_ok-push.ensures.items
    ∙ pushed node_view (part_code (node_view c.args.node.now) c.args.share)
    (map node_view c.args.parts.now.items) c.loop-part.parts.items c.loop-part.part
    c.in_ok-part_node.field-0 c.loop-part.invariant c.in_ok-part_node.ensures

pub returns : goal.returns
returns c =
    let e : c.loop-part.part ≡ suc (last_of c.args.share) = omega (
      arith,
      c.loop-part-test.false,
      c.loop-part.auto.part-end,
      c.part_count-part-end.ensures.parts,
    ) in
    c.loop-part.invariant
    ∙ ap (λ (n : ℕ). map node_view c.args.parts.now.items
    ++ up_to (part_code (node_view c.args.node.now) c.args.share) n) e
