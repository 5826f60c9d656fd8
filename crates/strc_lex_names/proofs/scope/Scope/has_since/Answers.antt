use Rattle.std.proofs.Common.{◌-◌, length, sym}
use Rattle.strc_lex_names.proofs.Scopes.{has_name-slot, has_name-none}
use Rattle.strc_lex_names.proofs.scope.Scope.has_since.Goals as goal

pub returns-in-Some : goal.returns-in-Some
returns-in-Some c = has_name-slot c.args.self.now c.args.name.now c.args.start c.in-Some.slot
    (sym c.in-Some.ensures)

pub returns-in-None : goal.returns-in-None
returns-in-None c = has_name-none c.args.self.now c.args.name.now
    (length c.args.self.now - c.args.start) (sym c.in-None.ensures)
