use Rattle.std.proofs.Common.{◌+◌, ◌++◌, drop, ap, ◌∙◌}
use Rattle.strc_cli_statements.specs.OccurrencePlaces.{helper_places, helpers_places}
use Rattle.strc_cli_statements.proofs.Walks.{places_more, drop-item}
use Rattle.strc_cli_statements.proofs.occurrences.occurrences_in_firing.Goals as goal

pub loop-member-preserved : goal.loop-member-preserved
loop-member-preserved c =
    let all = c.args.members.now in
    let i = c.loop-member.member-index in
    let looked = c.args.sought in
    let x = c.member-item.result in
    let before = c.loop-member.walk.found.items in
    let same = c.loop-member.invariant.sought in
    record {
      marks = places_more before c.walk_helper.new.walk.found.items _
          (helper_places looked x) (helpers_places looked (drop (i + 1) all)) _
          (c.in_ok-walk_helper.ensures.marks ∙ ap (λ s. before ++ helper_places s x) same)
          (ap (helpers_places looked) (drop-item all i x c.loop-member-test.true
          c.member-item.is)) c.loop-member.invariant.marks;
      sought = c.in_ok-walk_helper.ensures.sought ∙ same;
    }
