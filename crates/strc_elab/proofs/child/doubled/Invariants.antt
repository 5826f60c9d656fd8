use Rattle.std.proofs.Common.{◌≡◌, drop}
use Rattle.strc_lex_names.specs.Names.{plain_names}
use Rattle.strc_elab_statements.specs.Texts.{is_doubled}
use Rattle.strc_elab.proofs.Doubles.{doubled_after}
use Rattle.strc_elab.proofs.child.doubled.Given as goal

abbrev pub invariant-loop-name : goal.invariant-loop-name
invariant-loop-name l = doubled_after (plain_names l.earlier) (drop l.name-index l.names)
    ≡ is_doubled l.names
