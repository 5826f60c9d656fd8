-- What a search from a work keeps: where the helper functions are, and which of them it has found.
use Rattle.std.specs.Prelude.{ℕ, suc, Bool, false, List, [], ◌∷◌, Option, Some, None}
use Rattle.std.specs.Prelude.{if◌then◌else◌}
use Rattle.strc_lex_names.specs.Names.{has_name, plain_names, value_named}
use Rattle.strc_parse_tree.specs.Tree as tree
use Rattle.strc_work_meaning.specs.Filters.{Helper}
use Rattle.strc_work_writes.specs.Calls.{called_in_stmts}
use Rattle.strc_work_writes.specs.Walk.{stmts_write_field}

-- names of helper functions, each with its place among the members of a filter
abbrev pub Places : Type 0
Places = List (List ℕ × ℕ)

-- the helper functions of these members, the first of which has this place
abbrev pub helper_places : (place : ℕ) → List tree.Member → Places
helper_places place [] = []
helper_places place (tree.Fields kind variables ∷ rest) = helper_places (suc place) rest
helper_places place (tree.Init block ∷ rest) = helper_places (suc place) rest
helper_places place (tree.Prework rates block ∷ rest) = helper_places (suc place) rest
helper_places place (tree.Work rates block ∷ rest) = helper_places (suc place) rest
helper_places place (tree.Helper kind name parameters block ∷ rest) =
    record { 0 = name; 1 = place } ∷ helper_places (suc place) rest

-- the helper function that a member is, where it is one
abbrev pub member_helper : tree.Member → Option Helper
member_helper (tree.Fields kind variables) = None
member_helper (tree.Init block) = None
member_helper (tree.Prework rates block) = None
member_helper (tree.Work rates block) = None
member_helper (tree.Helper kind name parameters block) =
    Some (record { kind = kind; parameters = parameters; block = block })

-- the names that can be seen after parameters, the last one innermost
abbrev pub with_parameters : List (List ℕ) → (parameters : List (List ℕ)) → List (List ℕ)
with_parameters names [] = names
with_parameters names (first ∷ rest) = with_parameters (first ∷ names) rest

-- whether a helper function of these parameters writes one of the fields
abbrev pub helper_block_writes : (fields parameters : List (List ℕ)) → tree.Stmts → Bool
helper_block_writes fields parameters block =
    stmts_write_field fields (with_parameters [] parameters) block

abbrev pub writes_one : (fields : List (List ℕ)) → Option Helper → Bool
writes_one fields None = false
writes_one fields (Some helper) = helper_block_writes fields helper.parameters helper.block

-- the names that a helper function calls
abbrev pub called_by : Option Helper → List (List ℕ)
called_by None = []
called_by (Some helper) = called_in_stmts helper.block

-- the helper functions that are found, with one more if the name is that of one
abbrev pub with_place : (place : Option ℕ) → (found : Places) → List ℕ → Places
with_place None found name = found
with_place (Some place) found name = record { 0 = name; 1 = place } ∷ found

-- the helper functions that are found after one more call
abbrev pub with_call : (helpers found : Places) → List ℕ → Places
with_call helpers found name = if has_name (plain_names found) name then found
    else with_place (value_named helpers name) found name

-- the helper functions that are found after these calls
abbrev pub with_calls : (helpers found : Places) → List (List ℕ) → Places
with_calls helpers found [] = found
with_calls helpers found (name ∷ rest) = with_calls helpers (with_call helpers found name) rest
