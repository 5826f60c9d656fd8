use Rattle.std.proofs.Common.{◌+◌, ◌++◌, drop, ap, ◌∙◌}
use Rattle.strc_cli_statements.specs.OccurrencePlaces.{member_places, start_places}
use Rattle.strc_cli_statements.proofs.Walks.{places_more, drop-item}
use Rattle.strc_cli_statements.proofs.occurrences.occurrences_at_start.Goals as goal

pub loop-member-preserved : goal.loop-member-preserved
loop-member-preserved c =
    let all = c.args.members.now in
    let i = c.loop-member.member-index in
    let looked = c.args.sought in
    let x = c.member-item.result in
    let before = c.loop-member.walk.found.items in
    let same = c.loop-member.invariant.sought in
    record {
      marks = places_more before c.walk_member.new.walk.found.items _
          (member_places looked x) (start_places looked (drop (i + 1) all)) _
          (c.in_ok-walk_member.ensures.marks ∙ ap (λ s. before ++ member_places s x) same)
          (ap (start_places looked) (drop-item all i x c.loop-member-test.true
          c.member-item.is)) c.loop-member.invariant.marks;
      sought = c.in_ok-walk_member.ensures.sought ∙ same;
    }
