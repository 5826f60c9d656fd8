-- Filters that keep the rules, and what the laws on the emitted C want of them.
use Rattle.std.specs.Prelude.{◌≡◌, ℕ, ℤ, pos, List, [], ◌∷◌, Ok, Err}
use Rattle.strc_parse_tree.specs.Tree as tree
use Rattle.strc_parse_tree.specs.declared.tree.ItemType.{ItemType}
use Rattle.strc_parse_tree.specs.declared.tree.ItemType.TheVariants as item
use Rattle.strc_parse_tree.specs.declared.tree.RateKind.TheVariants as kind
use Rattle.strc_work_meaning.specs.Filters.{Filter}
use Rattle.strc_work_rules.specs.Resolution.{filter_resolved}
use Rattle.strc_work_rules.specs.declared.error.LowerErrorKind.TheVariants as refused
use Rattle.strc_emit_firings.specs.Known.{CallsFit}
use Rattle.strc_emit_plans.specs.Programs.{KeepsSides}

-- a filter is what the rules make of a text, among some constants
abbrev pub IsResolved : Filter → Type 0
IsResolved filter = (constants : List (List ℕ × ℤ)) × (text : Filter)
    × (filter_resolved constants text ≡ Ok filter)

-- a resolved filter looks at items, and gives some, only on sides that have items
abbrev pub ResolvedKeepSides : Type 0
ResolvedKeepSides = (filter : Filter) → IsResolved filter → KeepsSides filter

-- and it calls its helper functions with as many arguments as they take
abbrev pub ResolvedCallsFit : Type 0
ResolvedCallsFit = (filter : Filter) → IsResolved filter → CallsFit filter.members

-- `work pop 1 push 1 { push(pop()); }`, in a filter that takes items of this type
abbrev pub passing : ItemType → Filter
passing taken = record {
  input = taken;
  output = item.Int;
  members = tree.Work (record { kind = kind.Pop; rate = tree.Number (pos 1) }
      ∷ record { kind = kind.Push; rate = tree.Number (pos 1) } ∷ [])
      (tree.Then (tree.Push tree.Pop) tree.Done) ∷ [];
}

-- it is resolved where it takes numbers, and refused where it takes nothing
abbrev pub ResolvedRow : Type 0
ResolvedRow = IsResolved (passing item.Int)
    × (filter_resolved [] (passing item.Void) ≡ Err refused.TypeMismatch)
