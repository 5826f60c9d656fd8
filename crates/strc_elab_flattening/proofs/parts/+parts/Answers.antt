use Rattle.std.proofs.Common.{◌<◌, length, sym, subst, arith}
use Rattle.std.proofs.Math.ListN.{drop_of_length-le}
use Rattle.strc_elab_stream.specs.View.{streams_view}
use Rattle.strc_elab_flattening.specs.HasNodes.{HasNodes, HaveNodes}
use Rattle.strc_elab_flattening.proofs.Views.{pipeline_view, split_join_view, first_there}
use Rattle.strc_elab_flattening.proofs.Views.{some_there}
use Rattle.strc_elab_flattening.proofs.parts.+parts.Goals as goal

pub are_children-returns : goal.are_children-returns
are_children-returns t c =
    let streams = c.args.streams.now in
    let none = drop_of_length-le streams c.loop-stream-test.false in
    let all : HaveNodes (streams_view streams) =
    c.loop-stream.invariant.0 (subst (λ l. HaveNodes (streams_view l)) (sym none) tt) in
    let h = c.is_empty.ensures in (
      λ yes. (first_there streams (grind arith), all),
      λ both. let some : 0 < length streams = some_there streams both.0 in grind arith,
    )

pub has_nodes-returns-in-Pipeline : goal.has_nodes-returns-in-Pipeline
has_nodes-returns-in-Pipeline t c =
    let same = pipeline_view c.args.stream.now c.in-Pipeline.children c.deref.result.now
    c.in-Pipeline.is c.deref.ensures.value in (
      λ yes. subst HasNodes (sym same) (c.are_children.ensures.0 yes),
      λ nodes. c.are_children.ensures.1 (subst HasNodes same nodes),
    )

pub has_nodes-returns-in-SplitJoin : goal.has_nodes-returns-in-SplitJoin
has_nodes-returns-in-SplitJoin t c =
    let same = split_join_view c.args.stream.now c.in-SplitJoin.field-0 c.in-SplitJoin.children
    c.in-SplitJoin.field-2 c.deref-in-SplitJoin.result.now c.in-SplitJoin.is
    c.deref-in-SplitJoin.ensures.value in (
      λ yes. subst HasNodes (sym same) (c.are_children-in-SplitJoin.ensures.0 yes),
      λ nodes. c.are_children-in-SplitJoin.ensures.1 (subst HasNodes same nodes),
    )
