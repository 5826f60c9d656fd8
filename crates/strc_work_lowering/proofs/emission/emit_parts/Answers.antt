use Rattle.std.proofs.Common.{◌∙◌, sym, ap, subst}
use Rattle.strc_work_meaning.specs.Filters.{members_of}
use Rattle.strc_work_meaning.specs.Scoping.{total}
use Rattle.strc_work_code.specs.Helpers.{AreHelpers}
use Rattle.strc_work_code.specs.Links.{IsLinked, AreLinkedCodes}
use Rattle.strc_work_lowering.proofs.Prework.{parts_of}
use Rattle.strc_work_lowering.proofs.emission.emit_parts.Goals as goal

pub returns : goal.returns
returns c =
    let same = c.in_ok-helpers.ensures.names in
    parts_of (members_of c.args.members.now) c.emit_helpers.new.names c.emit_start.new.names
    c.total-fields.result c.in_ok-start.start c.in_ok-prework.prework c.in_ok-prework.work
    c.in_ok-helpers.helpers.items (same ∙ c.in_ok-names.ensures)
    (subst (λ n. AreHelpers n (members_of c.args.members.now) c.in_ok-helpers.helpers.items)
    (sym same) c.in_ok-helpers.ensures.codes)
    c.in_ok-start.ensures.names (c.total-fields.ensures ∙ ap total (sym same))
    c.in_ok-start.ensures.code c.in_ok-start.ensures.flat c.in_ok-prework.ensures
    (subst (λ n. IsLinked n c.in_ok-start.start.flat) c.in_ok-links.ensures
    c.in_ok-start.ensures.linked)
    (subst (λ n. AreLinkedCodes n c.in_ok-helpers.helpers.items) c.in_ok-links.ensures
    c.in_ok-helpers.ensures.linked)
