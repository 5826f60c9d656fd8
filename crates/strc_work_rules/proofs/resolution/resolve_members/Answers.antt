use Rattle.std.proofs.Common.{◌+◌, ◌<◌, [], ◌∷◌, ◌++◌, drop, length, sym, ap, ◌∙◌, subst}
use Rattle.std.proofs.Common.{arith}
use Rattle.std.proofs.lemmas.Result.{err_from_is_err_and}
use Rattle.strc_parse_tree.specs.View.{member_view}
use Rattle.strc_work_meaning.specs.Filters.{members_of}
use Rattle.strc_work_rules.specs.Resolution as judged
use Rattle.strc_lex_names.proofs.Lists.{map-drop}
use Rattle.strc_work_rules.proofs.Resolved.{list_after, list_after_step, list_refused, next_refused}
use Rattle.strc_work_rules.specs.RefusedPlaces.{IsPlaceOf, member_place, members_place}
use Rattle.strc_work_rules.proofs.Resolved.{refusal_same}
use Rattle.strc_work_rules.proofs.RefusedPlaces.{next_place, place_same}
use Rattle.strc_work_rules.proofs.PlacesOfMembers.{members_place_step, members_place_refused}
use Rattle.strc_work_rules.proofs.resolution.resolve_members.Goals as goal

pub loop-member-preserved : goal.loop-member-preserved
loop-member-preserved c =
    let constants = c.args.constants.now in
    let helpers = c.args.helpers.now in
    let input = c.args.input in
    let output = c.args.output in
    let members = c.args.members.now in
    let i = c.loop-member.member-index in
    let x = c.member-item.result in
    let within : i < length members = omega arith in
    let y = c.in_ok-push_next.ensures.ok.0 in
    let told = c.in_ok-push_next.ensures.ok.1 in
    let rest = members_of (drop (i + 1) members) in
    record {
      left = ap (λ resolved. list_after member_view resolved
          (judged.members_resolved constants helpers input output c.resolve_member-next.new.fields
          c.resolve_member-next.new.before c.resolve_member-next.new.known rest))
          c.in_ok-push_next.ensures.ok.2
          ∙ ap (λ f. list_after member_view
          (c.loop-member.resolved.items ++ y ∷ [])
          (judged.members_resolved constants helpers input output f c.resolve_member-next.new.before
          c.resolve_member-next.new.known rest))
          (rw told at c.resolve_member-next.ensures.fields)
          ∙ ap (λ b. list_after member_view
          (c.loop-member.resolved.items ++ y ∷ [])
          (judged.members_resolved constants helpers input output c.loop-member.fields b
          c.resolve_member-next.new.known rest))
          (rw told at c.resolve_member-next.ensures.before)
          ∙ ap (λ k. list_after member_view
          (c.loop-member.resolved.items ++ y ∷ [])
          (judged.members_resolved constants helpers input output c.loop-member.fields
          (judged.fields_after c.loop-member.before (member_view x)) k rest))
          (rw told at c.resolve_member-next.ensures.known)
          ∙ list_after_step member_view c.loop-member.resolved.items y
          (judged.member_resolved constants helpers input output c.loop-member.fields
          c.loop-member.before c.loop-member.known (member_view x))
          (judged.members_resolved constants helpers input output c.loop-member.fields
          (judged.fields_after c.loop-member.before (member_view x))
          (judged.known_after c.loop-member.known (member_view x)) rest)
          (rw told at c.resolve_member-next.ensures.verdict)
          ∙ sym (ap (λ l. list_after member_view c.loop-member.resolved.items
          (judged.members_resolved constants helpers input output c.loop-member.fields
          c.loop-member.before c.loop-member.known l))
          (map-drop member_view members i x within c.member-item.is))
          ∙ c.loop-member.invariant.left;
      fields = (rw told at c.resolve_member-next.ensures.fields) ∙ c.loop-member.invariant.fields;
      here = (rw told at c.resolve_member-next.ensures.here) ∙ c.loop-member.invariant.here;
      place = ap (λ f. members_place constants helpers input output f
          c.resolve_member-next.new.before c.resolve_member-next.new.known c.args.here.now
          (drop (i + 1) members)) (rw told at c.resolve_member-next.ensures.fields)
          ∙ ap (λ b. members_place constants helpers input output c.loop-member.fields b
          c.resolve_member-next.new.known c.args.here.now (drop (i + 1) members))
          (rw told at c.resolve_member-next.ensures.before)
          ∙ ap (λ k. members_place constants helpers input output c.loop-member.fields
          (judged.fields_after c.loop-member.before (member_view x)) k c.args.here.now
          (drop (i + 1) members)) (rw told at c.resolve_member-next.ensures.known)
          ∙ members_place_step constants helpers input output c.loop-member.fields
          c.loop-member.before c.loop-member.known c.args.here.now members i x (member_view y)
          within c.member-item.is (rw told at c.resolve_member-next.ensures.verdict)
          ∙ c.loop-member.invariant.place;
    }

pub returns-in_err-push_next-clause-verdict : goal.returns-in_err-push_next-clause-verdict
returns-in_err-push_next-clause-verdict c =
    let constants = c.args.constants.now in
    let helpers = c.args.helpers.now in
    let input = c.args.input in
    let output = c.args.output in
    let members = c.args.members.now in
    let i = c.loop-member.member-index in
    let x = c.member-item.result in
    let within : i < length members = omega arith in
    let rest = members_of (drop (i + 1) members) in
    let fields = c.loop-member.fields in
    let before = c.loop-member.before in
    let known = c.loop-member.known in
    let resolved = c.loop-member.resolved.items in
    let e = c.in_err-push_next.field-0.0 in
    let refusal = next_refused member_view
    (judged.member_resolved constants helpers input output fields before known (member_view x))
    c.resolve_member-next.result e c.resolve_member-next.ensures.verdict
    c.in_err-push_next.ensures.err in
    let p = err_from_is_err_and c.from_residual.result c.from_residual.ensures.1 in
    let here = list_refused member_view resolved
    (judged.member_resolved constants helpers input output fields before known (member_view x))
    (judged.members_resolved constants helpers input output fields
    (judged.fields_after before (member_view x))
    (judged.known_after known (member_view x)) rest) e refusal in
    let left = ap (λ l. list_after member_view resolved
    (judged.members_resolved constants helpers input output fields before known l))
    (sym (map-drop member_view members i x within c.member-item.is))
    ∙ c.loop-member.invariant.left
    ∙ ap (λ b. judged.members_resolved constants helpers input output c.args.fields.now b
    c.new-known.result (members_of members)) c.new-before.ensures
    ∙ ap (λ k. judged.members_resolved constants helpers input output c.args.fields.now [] k
    (members_of members)) c.new-known.ensures in
    rw (p.1, p.2) (refusal_same _ _ e left here)

pub returns-in_err-push_next-clause-here : goal.returns-in_err-push_next-clause-here
returns-in_err-push_next-clause-here c =
    let constants = c.args.constants.now in
    let helpers = c.args.helpers.now in
    let input = c.args.input in
    let output = c.args.output in
    let members = c.args.members.now in
    let i = c.loop-member.member-index in
    let x = c.member-item.result in
    let within : i < length members = omega arith in
    let fields = c.loop-member.fields in
    let before = c.loop-member.before in
    let known = c.loop-member.known in
    let e = c.in_err-push_next.field-0.0 in
    let after = c.resolve_member-next.new.here in
    let refusal = next_refused member_view
    (judged.member_resolved constants helpers input output fields before known (member_view x))
    c.resolve_member-next.result e c.resolve_member-next.ensures.verdict
    c.in_err-push_next.ensures.err in
    let stands = next_place c.resolve_member-next.result e
    (member_place constants helpers input output fields known c.loop-member.here x)
    c.loop-member.here after c.resolve_member-next.ensures.here c.in_err-push_next.ensures.err in
    let at = subst (λ h. IsPlaceOf e
    (member_place constants helpers input output fields known h x) after)
    c.loop-member.invariant.here stands in
    let p = err_from_is_err_and c.from_residual.result c.from_residual.ensures.1 in
    let left = members_place_refused constants helpers input output fields before known
    c.args.here.now members i x e after within c.member-item.is refusal at in
    let whole = c.loop-member.invariant.place
    ∙ ap (λ b. members_place constants helpers input output c.args.fields.now b c.new-known.result
    c.args.here.now members) c.new-before.ensures
    ∙ ap (λ k. members_place constants helpers input output c.args.fields.now [] k
    c.args.here.now members) c.new-known.ensures in
    rw (p.1, p.2) (place_same e _ _ after whole left)
