use Rattle.std.proofs.Common.{◌∙◌, sym, ap, ℕ, List, [], ◌∷◌, ◌++◌, arith}
use Rattle.std.proofs.lemmas.List.{get_or_default}
use Rattle.strc_fuse.specs.Units.{round_units}
use Rattle.strc_fiss.specs.Numbers.{up_to}
use Rattle.strc_fiss.specs.OwnUnits.{dealt_count}
use Rattle.strc_fiss.specs.declared.own_units.Naming.TheVariants.{Never}
use Rattle.strc_fiss.proofs.DealtCounts.{within_limit, count_dealt}
use Rattle.strc_fiss.proofs.Sequences.{up_to_more}
use Rattle.strc_fiss.proofs.own_units.dealt_counts.Goals as goal

pub loop-node-preserved : goal.loop-node-preserved
loop-node-preserved c =
    let loops = c.args.graph.now.outer_loops in
    let units = round_units c.args.round.now in
    let counts = c.args.counts.now in
    let node = c.loop-node.node in
    let namings = c.in_ok-namings.namings.items in
    let less = c.loop-node-test.true in
    let named = get_or_default namings node c.index.result.now Never
    (omega (arith, less, c.in_ok-namings.ensures.size))
    ∙ c.in_ok-namings.ensures.namings node less in
    c.in_ok-push.ensures.items
    ∙ ap (λ (l : List ℕ). l ++ c.dealt_count.result ∷ []) c.loop-node.invariant
    ∙ ap (λ (n : ℕ). up_to (dealt_count loops units counts) node ++ n ∷ [])
    (count_dealt loops units counts node c.dealt_count.result _ c.as_slice-given.result.now
    c.dealt_count.ensures c.as_slice-given.ensures.counts
    (c.index.ensures ∙ named))
    ∙ sym (up_to_more (dealt_count loops units counts) node)

pub new-requires : goal.new-requires
new-requires c =
    within_limit c.args.graph.now.outer_loops (round_units c.args.round.now) c.args.counts.now
    c.loop-node.node c.loop-node.dealt.items c.as_slice-given.ensures.within
    c.loop-node.invariant
