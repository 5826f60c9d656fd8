use Rattle.std.proofs.Common.{◌≡◌, ◌+◌, ◌<◌, ◌++◌, ◌∷◌, length, drop, map, reverse, sym, ap, ◌∙◌}
use Rattle.std.proofs.Common.{arith}
use Rattle.strc_parse_tree.specs.View.{member_view, type_view, variable_view}
use Rattle.strc_work_meaning.specs.Filters.{members_of, sized_fields}
use Rattle.strc_work_meaning.specs.Scoping.{with_declared}
use Rattle.strc_work_meaning.proofs.Growth.{fields_before, no_fields}
use Rattle.strc_lex_names.proofs.Lists.{map-drop}
use Rattle.strc_work_lowering.proofs.emission.field_layout.Goals as goal
use Rattle.strc_work_lowering.proofs.emission.field_layout.Goals.{in_default}
use Rattle.strc_work_lowering.proofs.emission.field_layout.Goals.{in-Fields+in_ok-declare_all}

pub loop-member-preserved : goal.loop-member-preserved
loop-member-preserved c =
    let members = c.args.members.now in
    let i = c.loop-member.member-index in
    let lt : i < length members = omega arith in
    let at = map-drop member_view members i c.member-item.result lt c.member-item.is in
    let rest = members_of (drop (i + 1) members) in
    let back : reverse (sized_fields (member_view c.member-item.result ∷ rest))
    ++ c.loop-member.fields ≡ reverse (sized_fields (members_of members)) =
    ap (λ l. reverse (sized_fields l) ++ c.loop-member.fields) (sym at) ∙ c.loop-member.invariant in
    elim c.match-member.branch [
      | in-Fields+in_ok-declare_all w ↦
          let declared = w.in-Fields.declared in
          let variables = map variable_view declared.variables.items in
          ap (λ l. reverse (sized_fields rest) ++ l)
          (w.fields-is ∙ w.in_ok-declare_all.ensures
          ∙ ap (λ vs. with_declared c.loop-member.fields w.cells_of.result
          (map variable_view vs)) w.deref.ensures.value
          ∙ ap (λ n. with_declared c.loop-member.fields n variables) w.cells_of.ensures)
          ∙ fields_before (type_view declared.kind) variables rest c.loop-member.fields
          ∙ ap (λ m. reverse (sized_fields (member_view m ∷ rest)) ++ c.loop-member.fields)
          (sym w.in-Fields.is)
          ∙ back
      | in_default w ↦
          ap (λ l. reverse (sized_fields rest) ++ l) w.fields-is
          ∙ ap (λ l. reverse l ++ c.loop-member.fields)
          (no_fields c.member-item.result rest w.in_default.not-Fields)
          ∙ back
    ]
