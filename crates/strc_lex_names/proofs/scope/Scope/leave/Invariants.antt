use Rattle.std.proofs.Common.{◌≡◌, length, take, reverse}
use Rattle.strc_lex_names.specs.Scopes.{IsScope}
use Rattle.strc_lex_names.specs.Tables.{slot_in}
use Rattle.strc_lex_names.proofs.scope.Scope.leave.Given as goal

abbrev pub invariant-loop-self : goal.invariant-loop-self
invariant-loop-self l = record {
  scope : IsScope (reverse l.self-inside.declared.items) (slot_in l.self-inside.innermost);
  same : take l.start l.self-inside.declared.items
      ≡ take l.start l.initial.self-inside.declared.items;
}

abbrev pub decreases-loop-self : goal.decreases-loop-self
decreases-loop-self l = length l.self-inside.declared.items
