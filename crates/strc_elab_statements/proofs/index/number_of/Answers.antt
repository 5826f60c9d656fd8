use Rattle.std.proofs.Common.{◌∙◌}
use Rattle.strc_elab_statements.proofs.NameTables.{place_within}
use Rattle.strc_elab_statements.proofs.index.number_of.Goals as goal

pub returns-clause-within : goal.returns-clause-within
returns-clause-within c = place_within c.args.declarations.now c.args.name.now c.number_at.result
    (c.number_at.ensures ∙ c.requires c.args.name.now)
