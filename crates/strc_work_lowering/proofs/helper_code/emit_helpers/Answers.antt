use Rattle.std.proofs.Common.{◌≡◌, ◌+◌, ◌<◌, ◌++◌, ◌∷◌, [], List, length, drop, refl, sym, ap}
use Rattle.std.proofs.Common.{◌∙◌, arith, subst}
use Rattle.std.proofs.Common.{append_assoc, Option, Vec, Global}
use Rattle.std.proofs.Math.ListN.{drop_of_length-le}
use Rattle.std.proofs.lemmas.List.{append-nil}
use Rattle.strc_parse_tree.specs.View.{member_view}
use Rattle.strc_work_meaning.specs.Filters.{members_of}
use Rattle.strc_lex_names.proofs.Lists.{map-drop}
use Rattle.strc_work_code.specs.declared.helper.HelperCode.{HelperCode}
use Rattle.strc_work_code.specs.Helpers.{IsHelperOf, AreHelpers}
use Rattle.strc_work_code.specs.Links.{IsLinked, AreLinkedCodes}
use Rattle.strc_work_linearization.proofs.Linking.{codes_linked_more}
use Rattle.std.specs.Prelude.{IfSome}
use Rattle.strc_work_meaning.specs.Scoping.{Scope}
use Rattle.strc_work_lowering.proofs.HelperScopes.{helper_first, helper_none}
use Rattle.strc_work_lowering.proofs.helper_code.emit_helpers.Goals as goal
use Rattle.strc_work_lowering.proofs.helper_code.emit_helpers.Goals.{in-Some+in_ok-push}
use Rattle.strc_work_lowering.proofs.helper_code.emit_helpers.Goals.{in_default}

pub loop-member-preserved : goal.loop-member-preserved
loop-member-preserved c =
    let members = c.args.members.now in
    let i = c.loop-member.member-index in
    let lt : i < length members = omega arith in
    let m = member_view c.member-item.result in
    let rest = members_of (drop (i + 1) members) in
    let at = map-drop member_view members i c.member-item.result lt c.member-item.is in
    let fields : Scope = c.args.names.now in
    let so_far = c.loop-member.invariant.codes in
    let same : c.loop-member.names ≡ fields = c.loop-member.invariant.names in
    let kept = c.in_ok-code.ensures.names ∙ same in
    let found : IsHelperOf fields m c.in_ok-code.field-0 =
    subst (λ (n : Scope). IsHelperOf n m c.in_ok-code.field-0) same c.in_ok-code.ensures.code in
    let back : (codes later : List HelperCode) → AreHelpers fields (m ∷ rest) later
    → codes ≡ c.loop-member.codes.items ++ later
    → AreHelpers fields (members_of members) codes = λ codes later h e.
    subst (λ l. AreHelpers fields (members_of members) l) (sym e)
    (so_far later (subst (λ ms. AreHelpers fields ms later) (sym at) h)) in
    elim c.match-branch-2.branch [
      | in-Some+in_ok-push w ↦ record {
        codes = λ later h.
            let one = subst (λ (o : Option HelperCode). IsHelperOf fields m o) w.in-Some.is
            found in
            back (c.match-branch-2.codes.items ++ later) (w.in-Some.code ∷ later)
            (helper_first fields m rest w.in-Some.code later one h)
            (ap (λ (v : Vec HelperCode Global). v.items ++ later) w.codes-is
            ∙ ap (λ l. l ++ later) w.in_ok-push.ensures.items
            ∙ append_assoc c.loop-member.codes.items (w.in-Some.code ∷ []) later);
        names = kept;
        linked = subst (AreLinkedCodes c.args.links.now)
            (sym (ap (λ (v : Vec HelperCode Global). v.items) w.codes-is
            ∙ w.in_ok-push.ensures.items))
            (codes_linked_more c.args.links.now c.loop-member.codes.items w.in-Some.code
            c.loop-member.invariant.linked
            (subst (λ (o : Option HelperCode). IfSome o (λ code. IsLinked c.args.links.now
            code.flat)) w.in-Some.is c.in_ok-code.ensures.linked));
      }
      | in_default w ↦ record {
        codes = λ later h.
            let none = subst (λ (o : Option HelperCode). IsHelperOf fields m o)
            w.in_default.is found in
            back (c.match-branch-2.codes.items ++ later) later
            (helper_none fields m rest later none h)
            (ap (λ (v : Vec HelperCode Global). v.items ++ later) w.codes-is);
        names = kept;
        linked = subst (λ (v : Vec HelperCode Global). AreLinkedCodes c.args.links.now v.items)
            (sym w.codes-is) c.loop-member.invariant.linked;
      }
    ]

pub returns-clause-codes : goal.returns-clause-codes
returns-clause-codes c =
    let fields = c.args.names.now in
    let members = c.args.members.now in
    let none = ap members_of (drop_of_length-le members c.loop-member-test.false) in
    subst (λ l. AreHelpers fields (members_of members) l) (append-nil c.loop-member.codes.items)
    (c.loop-member.invariant.codes []
    (subst (λ ms. AreHelpers fields ms []) (sym none) refl))
