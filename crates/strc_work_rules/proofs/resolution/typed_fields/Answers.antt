use Rattle.std.proofs.Common.{◌<◌, ◌+◌, ◌∷◌, map, length, drop, sym, ap, ◌∙◌, arith}
use Rattle.strc_parse_tree.specs.View.{type_view, variable_view, member_view}
use Rattle.strc_work_meaning.specs.Filters.{members_of}
use Rattle.strc_work_meaning.specs.Typing.{type_of, with_declared, names_after_fields}
use Rattle.strc_lex_names.proofs.Lists.{map-drop}
use Rattle.strc_work_rules.proofs.Members.{other_than_fields}
use Rattle.strc_work_rules.proofs.resolution.typed_fields.Goals as goal
use Rattle.strc_work_rules.proofs.resolution.typed_fields.Goals.{in-Fields+in_ok-declare_typed}
use Rattle.strc_work_rules.proofs.resolution.typed_fields.Goals.{in_default}

pub loop-member-preserved : goal.loop-member-preserved
loop-member-preserved c =
    let members = c.args.members.now in
    let i = c.loop-member.member-index in
    let x = c.member-item.result in
    let within : i < length members = omega arith in
    let fields = c.loop-member.fields in
    let rest = members_of (drop (i + 1) members) in
    let left = ap (names_after_fields fields)
    (sym (map-drop member_view members i x within c.member-item.is)) ∙ c.loop-member.invariant in
    elim c.match-member.branch [
      | in-Fields+in_ok-declare_typed w ↦
          ap (λ names. names_after_fields names rest) (w.fields-is
          ∙ w.in_ok-declare_typed.ensures
          ∙ ap (λ k. with_declared fields k (map variable_view w.deref.result.now))
          w.type_of.ensures
          ∙ ap (λ l. with_declared fields (type_of (type_view w.in-Fields.declared.kind))
          (map variable_view l)) w.deref.ensures.value)
          ∙ ap (λ m. names_after_fields fields (member_view m ∷ rest)) (sym w.in-Fields.is)
          ∙ left
      | in_default w ↦ ap (λ names. names_after_fields names rest) w.fields-is
          ∙ other_than_fields x fields rest w.in_default.not-Fields ∙ left
    ]
