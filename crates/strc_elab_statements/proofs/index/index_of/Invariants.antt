use Rattle.std.proofs.Common.{◌≡◌, take, drop, map, [], List, ℕ, nat_eq}
use Rattle.std.specs.Cmp.Lexicographic.{pointwise}
use Rattle.indexmap.specs.IndexMap.{get_by}
use Rattle.strc_parse_tree.specs.View.{declaration_view}
use Rattle.strc_elab_statements.specs.MainStreams.{doubled_from}
use Rattle.strc_elab_statements.specs.Names.{place_from}
use Rattle.strc_elab_statements.proofs.index.index_of.Given as goal

-- the table has the names so far, and a double, if there is one, comes later
abbrev pub invariant-loop-number : goal.invariant-loop-number
invariant-loop-number l = record {
  places : (name : List ℕ) → get_by (λ k. pointwise nat_eq name k.now) l.numbers
      ≡ place_from 0 (map (λ d. d.name) (take l.number l.declarations)) name;
  doubles : doubled_from (map (λ d. d.name) (take l.number l.declarations)) l.number
      (map declaration_view (drop l.number l.declarations))
      ≡ doubled_from [] 0 (map declaration_view l.declarations);
}
