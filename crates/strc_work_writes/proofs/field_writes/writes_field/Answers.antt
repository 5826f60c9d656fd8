use Rattle.std.proofs.Common.{◌≡◌, ◌∙◌, ap, subst, Bool, IfOk, []}
use Rattle.strc_parse_tree.specs.View.{block_view}
use Rattle.strc_work_meaning.specs.Filters.{field_names, members_of}
use Rattle.strc_work_writes.specs.Stateless.{write_one_of}
use Rattle.strc_work_writes.specs.Walk.{with_fields, stmts_write_field}
use Rattle.strc_work_writes.proofs.Walks.{walk_tells}
use Rattle.strc_work_writes.proofs.field_writes.writes_field.Goals as goal

pub returns : goal.returns
returns c =
    let members = members_of c.args.members.now in
    let block = block_view c.args.work.now in
    let fields : c.declare_fields.new.fields ≡ with_fields [] members =
    c.in_ok-declare_fields.ensures ∙ ap (λ f. with_fields f members) c.new-fields.ensures in
    let walked : stmts_write_field c.declare_fields.new.fields c.new-locals.result block
    ≡ write_one_of (field_names members) block =
    ap (λ f. stmts_write_field f c.new-locals.result block) fields
    ∙ ap (λ l. stmts_write_field (with_fields [] members) l block) c.new-locals.ensures
    ∙ walk_tells members block in
    subst (λ (b : Bool). IfOk c.block_writes_field.result (λ writes. writes ≡ b)) walked
    c.block_writes_field.ensures.writes
