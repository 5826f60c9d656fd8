use Rattle.std.proofs.Common.{◌+◌, ◌≤◌, ◌<◌, All, take, sym, ap, subst, ◌∙◌, arith}
use Rattle.std.proofs.Common.{length}
use Rattle.std.proofs.lemmas.Bool.{both_ways}
use Rattle.std.proofs.lemmas.List.{take_all}
use Rattle.std.proofs.lemmas.List.Elements.{All-more}
use Rattle.strc_cli_source.specs.Joined.{AreJoined, IsMarked, IsFollowed, joined_count}
use Rattle.strc_cli_source.proofs.Joining.{grown_by, link_at, link_back}
use Rattle.strc_cli_source.proofs.preorder.spread.Goals as goal
use Rattle.strc_cli_source.proofs.preorder.spread.Goals.{then-join_ends, else-join_ends}

pub loop-source-preserved : goal.loop-source-preserved
loop-source-preserved c =
    let at = c.loop-source in
    let links = c.args.links.now in
    let before = c.args.joined.now.items in
    elim c.if-join_ends.branch [
      | then-join_ends w ↦
          let grows = grown_by links at.joined.items c.join_ends.new.joined.items _ _
          (link_at links at.source-index (0, 0) c.loop-source-test.true)
          (link_back links at.source-index (0, 0) c.loop-source-test.true)
          (c.join_ends.ensures.next w.if-join_ends.true) in
          let more = grows.more in
          let count = at.invariant.count in
          record {
            size = grows.size ∙ at.invariant.size;
            kept = λ node marked. grows.kept node (at.invariant.kept node marked);
            joined = λ joined. grows.joined (at.invariant.joined joined);
            count = omega (arith, more, count);
            more = λ _. omega (arith, more, count);
            all = λ unchanged. absurd (both_ways _ unchanged w.changed-is);
          }
      | else-join_ends w ↦
          let same = c.join_ends.ensures.kept w.if-join_ends.false in
          let followed = c.join_ends.ensures.followed w.if-join_ends.false in
          record {
            size = ap length same ∙ at.invariant.size;
            kept = λ node marked. subst (λ l. IsMarked l node) (sym same)
                (at.invariant.kept node marked);
            joined = λ joined. subst (AreJoined links) (sym same) (at.invariant.joined joined);
            count = subst (λ l. joined_count before ≤ joined_count l) (sym same)
                at.invariant.count;
            more = λ changed. subst (λ l. joined_count before < joined_count l) (sym same)
                (at.invariant.more (sym w.changed-is ∙ changed));
            all = λ unchanged. subst
                (λ l. All (IsFollowed l) (take (at.source-index + 1) links)) (sym same)
                (All-more (IsFollowed at.joined.items) links at.source-index (0, 0)
                c.loop-source-test.true (at.invariant.all (sym w.changed-is ∙ unchanged))
                followed);
          }
    ]

pub returns-clause-all : goal.returns-clause-all
returns-clause-all c = λ unchanged. subst (All (IsFollowed c.loop-source.joined.items))
    (take_all c.loop-source.source-index c.args.links.now c.loop-source-test.false)
    (c.loop-source.invariant.all unchanged)
