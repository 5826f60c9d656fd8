use Rattle.std.proofs.Common.{◌≡◌, ◌-◌, drop, length}
use Rattle.strc_lex_names.specs.Names.{plain_names}
use Rattle.strc_elab_statements.specs.Texts as texts
use Rattle.strc_elab_statements.proofs.captures.unshadowed.Given as goal

abbrev pub invariant-loop-number : goal.invariant-loop-number
invariant-loop-number l = l.left ≡ texts.unshadowed (plain_names l.variables.names)
    (drop (length l.constants - l.number) l.constants)
