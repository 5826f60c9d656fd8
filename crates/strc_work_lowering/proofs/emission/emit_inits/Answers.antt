use Rattle.std.proofs.Common.{◌<◌, ◌+◌, length, drop, sym, ap, ◌∙◌, arith}
use Rattle.std.proofs.Math.ListN.{drop_of_length-le}
use Rattle.strc_parse_tree.specs.View.{member_view}
use Rattle.strc_work_meaning.specs.Filters.{members_of}
use Rattle.strc_work_code.specs.Nodes.{before}
use Rattle.strc_work_code.specs.Lowering.{inits_nodes}
use Rattle.strc_work_lowering.specs.Written.{written}
use Rattle.strc_work_code.proofs.Nodes.{before_end}
use Rattle.strc_lex_names.proofs.Lists.{map-drop}
use Rattle.strc_work_lowering.proofs.Emitted.{inits_more}
use Rattle.strc_work_lowering.proofs.emission.emit_inits.Goals as goal

pub loop-member-preserved : goal.loop-member-preserved
loop-member-preserved c =
    let items = c.args.members.now in
    let names = c.args.names.now in
    let i = c.loop-member.member-index in
    let lt : i < length items = omega arith in
    let x = c.member-item.result in
    let left = map-drop member_view items i x lt c.member-item.is in
    let same = c.in_ok-emit_init.ensures.names in
    record {
      code = ap (λ n. before (written c.emit_init.new.code)
          (inits_nodes n (members_of (drop (i + 1) items)))) same
          ∙ inits_more c.loop-member.names (written c.loop-member.code)
          (written c.emit_init.new.code) (member_view x)
          (members_of (drop (i + 1) items)) c.in_ok-emit_init.ensures.code
          ∙ ap (λ l. before (written c.loop-member.code) (inits_nodes c.loop-member.names l))
          (sym left) ∙ c.loop-member.invariant.code;
      names = same ∙ c.loop-member.invariant.names;
    }

pub returns-clause-code : goal.returns-clause-code
returns-clause-code c =
    let items = c.args.members.now in
    let names = c.loop-member.names in
    sym (before_end (written c.loop-member.code))
    ∙ ap (λ l. before (written c.loop-member.code) (inits_nodes names (members_of l)))
    (sym (drop_of_length-le items c.loop-member-test.false))
    ∙ c.loop-member.invariant.code
