use Rattle.std.proofs.Common.{rules, ◌≡◌, ◌<◌, ◌≤◌, ◌+◌, ◌-◌, ℕ, suc, true, false, List, []}
use Rattle.std.proofs.Common.{length, refl, sym, ap, subst, ◌∙◌, arith}
use Rattle.strc_parse_tree.specs.View.{block_view, member_view}
use Rattle.strc_work_meaning.specs.Filters.{members_of, helper_named}
use Rattle.strc_work_writes.specs.Calls.{called_in_stmts}
use Rattle.strc_work_writes.specs.Walk.{with_fields}
use Rattle.strc_work_writes.specs.Writers.{Places, helper_places, member_helper, writes_one}
use Rattle.strc_work_writes.specs.Writers.{called_by}
use Rattle.strc_work_writes.specs.Writers.{with_calls}
use Rattle.strc_work_writes.proofs.Chains.{reach_calls, no_calls}
use Rattle.strc_work_writes.proofs.Search.{HasSeen, begins, seen_fits, next_placed, placed_within}
use Rattle.strc_work_writes.proofs.Search.{helper_there, writer_found, sees_next, none_writes}
use Rattle.strc_work_writes.proofs.helper_writes.calls_writer.Goals as goal

pub loop-next-init : goal.loop-next-init
loop-next-init c =
    let members = members_of c.args.members.now in
    let block = block_view c.args.work.now in
    let names = called_in_stmts block in
    let first : Places = c.new-found.result in
    let found : Places = c.find_in_block.new.found in
    let is : found ≡ with_calls (helper_places 0 members) [] names =
    c.in_ok-find_in_block.ensures
    ∙ ap (λ (h : Places). with_calls h first names) c.in_ok-helpers.ensures
    ∙ ap (λ (l : Places). with_calls (helper_places 0 members) l names) c.new-found.ensures in
    record {
      fields = c.in_ok-declare_fields.ensures
          ∙ ap (λ f. with_fields f members) c.new-fields.ensures;
      helpers = c.in_ok-helpers.ensures;
      seen = subst (λ (l : Places). HasSeen members block l 0) (sym is) (begins members block);
    }

pub offset_bounds-members-place : goal.offset_bounds-members-place
offset_bounds-members-place c =
    let members = members_of c.args.members.now in
    let block = block_view c.args.work.now in
    let found : Places = c.loop-next.found in
    let name = c.at-place.result.0.now in
    let place = c.at-place.result.1 in
    let one : List ℕ × ℕ = record { 0 = name; 1 = place } in
    let within : place < length c.args.members.now =
    placed_within c.args.members.now name place
    (next_placed members block found c.loop-next.next one c.loop-next.invariant.seen
    c.at-place.ensures) in
    search rules

pub bounds-members-place : goal.bounds-members-place
bounds-members-place c =
    let members = members_of c.args.members.now in
    let block = block_view c.args.work.now in
    let found : Places = c.loop-next.found in
    let name = c.at-place.result.0.now in
    let place = c.at-place.result.1 in
    let one : List ℕ × ℕ = record { 0 = name; 1 = place } in
    placed_within c.args.members.now name place
    (next_placed members block found c.loop-next.next one c.loop-next.invariant.seen
    c.at-place.ensures)

pub returns-then-branch-clause-writes : goal.returns-then-branch-clause-writes
returns-then-branch-clause-writes c =
    let members = members_of c.args.members.now in
    let block = block_view c.args.work.now in
    let found : Places = c.loop-next.found in
    let has = c.loop-next.invariant.seen in
    let name = c.at-place.result.0.now in
    let place = c.at-place.result.1 in
    let one : List ℕ × ℕ = record { 0 = name; 1 = place } in
    let x = c.index-members-place.result in
    let helper : member_helper (member_view x) ≡ helper_named members name =
    helper_there c.args.members.now name place x
    (next_placed members block found c.loop-next.next one has c.at-place.ensures)
    c.index-members-place.is in
    let writes : writes_one (with_fields [] members) (helper_named members name) ≡ true =
    ap (writes_one (with_fields [] members)) (sym helper)
    ∙ ap (λ f. writes_one f (member_helper (member_view x))) (sym c.loop-next.invariant.fields)
    ∙ sym c.in_ok-writes_or_finds.ensures.writes ∙ c.if-branch.true in
    sym (reach_calls members block
    (writer_found members block found c.loop-next.next one has c.at-place.ensures writes))

pub returns-then-branch-clause-reaches : goal.returns-then-branch-clause-reaches
returns-then-branch-clause-reaches c =
    let members = members_of c.args.members.now in
    let block = block_view c.args.work.now in
    let found : Places = c.loop-next.found in
    let has = c.loop-next.invariant.seen in
    let name = c.at-place.result.0.now in
    let place = c.at-place.result.1 in
    let one : List ℕ × ℕ = record { 0 = name; 1 = place } in
    let x = c.index-members-place.result in
    let helper : member_helper (member_view x) ≡ helper_named members name =
    helper_there c.args.members.now name place x
    (next_placed members block found c.loop-next.next one has c.at-place.ensures)
    c.index-members-place.is in
    let writes : writes_one (with_fields [] members) (helper_named members name) ≡ true =
    ap (writes_one (with_fields [] members)) (sym helper)
    ∙ ap (λ f. writes_one f (member_helper (member_view x))) (sym c.loop-next.invariant.fields)
    ∙ sym c.in_ok-writes_or_finds.ensures.writes ∙ c.if-branch.true in (
      λ is. writer_found members block found c.loop-next.next one has c.at-place.ensures writes,
      λ writer. refl,
    )

pub loop-next-smaller : goal.loop-next-smaller
loop-next-smaller c =
    let members = members_of c.args.members.now in
    let block = block_view c.args.work.now in
    let helpers : Places = c.in_ok-helpers.helpers in
    let found : Places = c.loop-next.found in
    let next = c.loop-next.next in
    let same : length helpers ≡ length (helper_places 0 members) =
    ap (λ (l : Places). length l) c.loop-next.invariant.helpers in
    let fits = seen_fits members block found next c.loop-next.invariant.seen in
    let long = c.len.ensures in
    let within : next < c.len.result = c.loop-next-test.true in
    let less : length helpers - (next + 1) < length helpers - next =
    omega (arith, within, long, fits, same) in
    less

pub loop-next-preserved : goal.loop-next-preserved
loop-next-preserved c =
    let members = members_of c.args.members.now in
    let block = block_view c.args.work.now in
    let found : Places = c.loop-next.found in
    let after : Places = c.writes_or_finds.new.found in
    let next = c.loop-next.next in
    let has = c.loop-next.invariant.seen in
    let name = c.at-place.result.0.now in
    let place = c.at-place.result.1 in
    let one : List ℕ × ℕ = record { 0 = name; 1 = place } in
    let x = c.index-members-place.result in
    let helper : member_helper (member_view x) ≡ helper_named members name =
    helper_there c.args.members.now name place x
    (next_placed members block found next one has c.at-place.ensures) c.index-members-place.is in
    let none : writes_one (with_fields [] members) (helper_named members name) ≡ false =
    ap (writes_one (with_fields [] members)) (sym helper)
    ∙ ap (λ f. writes_one f (member_helper (member_view x))) (sym c.loop-next.invariant.fields)
    ∙ sym c.in_ok-writes_or_finds.ensures.writes ∙ c.if-branch.false in
    let is : after ≡ with_calls (helper_places 0 members) found
    (called_by (helper_named members name)) =
    c.in_ok-writes_or_finds.ensures.finds c.if-branch.false
    ∙ ap (λ (h : Places). with_calls h found (called_by (member_helper (member_view x))))
    c.loop-next.invariant.helpers
    ∙ ap (λ o. with_calls (helper_places 0 members) found (called_by o)) helper in
    let long = c.len.ensures in
    let test : next < c.len.result = c.loop-next-test.true in
    let within : next < length found = omega (arith, test, long) in
    let one_more : suc next ≡ next + 1 = omega arith in
    record {
      fields = c.loop-next.invariant.fields;
      helpers = c.loop-next.invariant.helpers;
      seen = subst (λ n. HasSeen members block after n) one_more
          (subst (λ (l : Places). HasSeen members block l (suc next)) (sym is)
          (sees_next members block found next one has within c.at-place.ensures none));
    }

pub returns-clause-writes : goal.returns-clause-writes
returns-clause-writes c =
    let members = members_of c.args.members.now in
    let block = block_view c.args.work.now in
    let found : Places = c.loop-next.found in
    let next = c.loop-next.next in
    let long = c.len.ensures in
    let test : c.len.result ≤ next = c.loop-next-test.false in
    let all : length found ≤ next = omega (arith, test, long) in
    sym (no_calls members block
    (none_writes members block found next c.loop-next.invariant.seen all))

pub returns-clause-reaches : goal.returns-clause-reaches
returns-clause-reaches c =
    let members = members_of c.args.members.now in
    let block = block_view c.args.work.now in
    let found : Places = c.loop-next.found in
    let next = c.loop-next.next in
    let long = c.len.ensures in
    let test : c.len.result ≤ next = c.loop-next-test.false in
    let all : length found ≤ next = omega (arith, test, long) in (
      λ is. absurd (cc),
      λ writer. absurd (none_writes members block found next c.loop-next.invariant.seen all writer),
    )
