use Rattle.std.proofs.Common.{Some}
use Rattle.strc_lex_names.proofs.Tables.{IsUpdated-updates}
use Rattle.strc_lex_names.proofs.scope.put_in.Goals as goal

pub returns-clause-ok : goal.returns-clause-ok
returns-clause-ok c = IsUpdated-updates c.args.name.items c.args.table.now c.insert.new.self
    (Some c.args.slot) c.in_ok-insert.ensures.updates
