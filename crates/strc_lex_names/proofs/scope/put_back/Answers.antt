use Rattle.std.proofs.Common.{Some, None, subst}
use Rattle.strc_lex_names.specs.Tables.{slot_in, IsUpdated}
use Rattle.strc_lex_names.proofs.Tables.{IsUpdated-updates, must_be_ok}
use Rattle.strc_lex_names.proofs.scope.put_back.Goals as goal

pub returns-in-Some : goal.returns-in-Some
returns-in-Some c =
    let done = must_be_ok c.insert.result _ _ c.insert.ensures.updates c.insert.ensures.absent
    c.requires in
    rw c.in-Some.is (IsUpdated-updates c.args.name.items c.args.table.now c.insert.new.self
    (Some c.in-Some.slot) done)

pub returns-in-None : goal.returns-in-None
returns-in-None c =
    let updated = IsUpdated-updates c.as_slice.result.now c.args.table.now c.remove.new.self None
    c.remove.ensures.updates in
    rw c.in-None.is (subst (λ name. IsUpdated (slot_in c.args.table.now) name None
    (slot_in c.remove.new.self)) c.as_slice.ensures.value updated)
