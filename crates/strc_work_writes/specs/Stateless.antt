-- Which filters have no state: all their firings are alike, so that copies can share them.
use Rattle.std.specs.Prelude.{◌≡◌, ℕ, zero, suc, Bool, false, true, not, ◌&&◌, ◌||◌, List, []}
use Rattle.std.specs.Prelude.{◌∷◌, Option, Some, None, is_some, if◌then◌else◌}
use Rattle.strc_lex_names.specs.Names.{has_name}
use Rattle.strc_parse_tree.specs.Tree as tree
use Rattle.strc_work_meaning.specs.Filters.{Filter, field_names, work_block, prework_block}
use Rattle.strc_work_meaning.specs.Filters.{filter_prints, Helper, helper_named}
use Rattle.strc_work_writes.specs.LocalWrites.{stmts_write}
use Rattle.strc_work_writes.specs.Calls.{called_in_stmts, stmts_call_one}

-- whether statements write one of the variables that these names have where the statements are, or
-- an element of one
abbrev pub write_one_of : List (List ℕ) → tree.Stmts → Bool
write_one_of [] block = false
write_one_of (name ∷ rest) block = stmts_write name block || write_one_of rest block

-- whether the work writes a field, or an element of one; a local variable that shadows a field is
-- none
abbrev pub writes_field : Filter → Bool
writes_field filter = write_one_of (field_names filter.members) (work_block filter.members)

-- ---- helper functions

-- those of these names that no inner variable shadows
abbrev pub not_shadowed : (inner names : List (List ℕ)) → List (List ℕ)
not_shadowed inner [] = []
not_shadowed inner (name ∷ rest) =
    if has_name inner name then not_shadowed inner rest else name ∷ not_shadowed inner rest

-- whether the block of a helper function itself writes a field, or an element of one; a parameter
-- or a local variable that shadows a field is none
abbrev pub helper_writes_field : List tree.Member → Helper → Bool
helper_writes_field members helper =
    write_one_of (not_shadowed helper.parameters (field_names members)) helper.block

-- whether a helper function writes a field, or calls one of these functions
abbrev pub writes_or_calls : List tree.Member → (such : List ℕ → Bool) → Helper → Bool
writes_or_calls members such helper =
    helper_writes_field members helper || stmts_call_one such helper.block

abbrev pub named_writes : List tree.Member → (such : List ℕ → Bool) → Option Helper → Bool
named_writes members such None = false
named_writes members such (Some helper) = writes_or_calls members such helper

-- how many helper functions there are
abbrev pub helper_count : List tree.Member → ℕ
helper_count [] = 0
helper_count (tree.Fields kind variables ∷ rest) = helper_count rest
helper_count (tree.Init block ∷ rest) = helper_count rest
helper_count (tree.Prework rates block ∷ rest) = helper_count rest
helper_count (tree.Work rates block ∷ rest) = helper_count rest
helper_count (tree.Helper kind name parameters block ∷ rest) = suc (helper_count rest)

-- whether a chain of at most so many helper functions, each called by the one before it, leads from
-- that of a name to one that writes a field
abbrev pub writes_within : List tree.Member → (length : ℕ) → List ℕ → Bool
writes_within members zero name = false
writes_within members (suc length) name =
    named_writes members (writes_within members length) (helper_named members name)

-- whether any chain does: a shortest one has no function twice
abbrev pub can_write : List tree.Member → List ℕ → Bool
can_write members name = writes_within members (helper_count members) name

-- whether a block calls a helper function that can write a field, itself or by its own calls
abbrev pub block_calls_writer : List tree.Member → tree.Stmts → Bool
block_calls_writer members block = stmts_call_one (can_write members) block

-- whether the work does
abbrev pub calls_writer : Filter → Bool
calls_writer filter = block_calls_writer filter.members (work_block filter.members)

-- the least set of names that a block reaches: those that it calls, and with the name of a helper
-- function those that this one calls
pub data Reaches (members : List tree.Member) (block : tree.Stmts) : List ℕ → Type 0 where
  Called : {name : List ℕ} → has_name (called_in_stmts block) name ≡ true
      → Reaches members block name
  Through : {name : List ℕ} (caller : List ℕ) (helper : Helper) → Reaches members block caller
      → helper_named members caller ≡ Some helper
      → has_name (called_in_stmts helper.block) name ≡ true → Reaches members block name

-- a block reaches the name of a helper function that writes a field
pub record ReachesWriter (members : List tree.Member) (block : tree.Stmts) : Type 0 where
  pub name : List ℕ
  pub helper : Helper
  pub reached : Reaches members block name
  pub named : helper_named members name ≡ Some helper
  pub writes : helper_writes_field members helper ≡ true

-- ---- filters

-- a filter of one body, which neither prints nor writes a field, also not by its calls
abbrev pub is_stateless : Filter → Bool
is_stateless filter =
    not (is_some (prework_block filter.members))
    && (not (filter_prints filter) && (not (writes_field filter) && not (calls_writer filter)))
