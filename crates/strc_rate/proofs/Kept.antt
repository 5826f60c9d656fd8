-- A run that writes no field, also not by its calls, leaves the fields' values.
use Rattle.std.proofs.Common.{◌≡◌, refl, sym, ◌∙◌, ap, ℕ, zero, suc, ◌+◌, ℤ, pos, Bool, true, false}
use Rattle.std.proofs.Common.{cond, not, ◌||◌, List, [], ◌∷◌, ◌++◌, length, take, drop, Option}
use Rattle.std.proofs.Common.{Some, None, Result, Ok, Err, ◌-◌, arith, subst, reverse}
use Rattle.std.proofs.Common.{append_assoc, append-nil, take-append-drop, length-drop}
use Rattle.std.specs.Prelude.{is_some, bytes_eq, ◌==◌}
use Rattle.std.specs.Result.{IfOk}
use Rattle.strc_lex_names.specs.Names.{has_name, plain_names}
use Rattle.strc_lex_names.specs.Results.{result_and_then}
use Rattle.strc_parse_tree.specs.Tree as tree
use Rattle.strc_work_meaning.specs.declared.body.Body.TheVariants as body
use Rattle.strc_work_meaning.specs.declared.fault.Cause.{Cause}
use Rattle.strc_work_meaning.specs.declared.fault.Cause.TheVariants.{Calls}
use Rattle.strc_work_meaning.specs.Filters.{Filter, sized_fields, sized_all, field_names}
use Rattle.strc_work_meaning.specs.Filters.{work_block}
use Rattle.strc_work_meaning.specs.Filters.{declared_names, prework_block, filter_prints}
use Rattle.strc_work_meaning.specs.Filters.{Helper, helper_named}
use Rattle.strc_work_meaning.specs.Scoping.{Scope, total, cells_of, answer_name, sized_parameters}
use Rattle.strc_work_meaning.specs.Returns.{stmts_return}
use Rattle.strc_work_meaning.specs.Firing.{Variables, Setting, Called, bound_onto, values_of}
use Rattle.strc_work_meaning.specs.Firing.{store_at}
use Rattle.strc_work_meaning.specs.Firing.{stmts_done, setting_of, turned, call_limit, called}
use Rattle.strc_work_meaning.specs.Firing.{no_io}
use Rattle.strc_work_meaning.specs.Firing.{helper_called, helper_store, call_ended}
use Rattle.strc_work_writes.specs.LocalWrites.{stmts_write}
use Rattle.strc_work_writes.specs.Calls.{stmts_call_one}
use Rattle.strc_work_writes.specs.Writers.{with_parameters}
use Rattle.strc_work_writes.specs.Stateless.{write_one_of, not_shadowed, writes_field, is_stateless}
use Rattle.strc_work_writes.specs.Stateless.{helper_writes_field, can_write, calls_writer}
use Rattle.strc_work_writes.proofs.HelperLaws.{shown_unwritten, spared_block}
use Rattle.strc_rate.proofs.Results.{or_first, or_second, and_first, and_second, then_ok}
use Rattle.strc_rate.proofs.Keeping.{Covers}
use Rattle.strc_rate.proofs.Unwritten.{turned_holds}
use Rattle.strc_rate.proofs.Unreturned.{body_plain}
use Rattle.strc_rate.proofs.Within.{Within, Around, is_free, outer_is, within_holding, GivesBack}
use Rattle.strc_rate.proofs.Sparing.{stmts_spare}
use Rattle.strc_rate.specs.StatelessPromises.{StatelessKeepsFields}

-- ---- fields

-- values that are dealt to variables are those of the variables
pub bound_values : (variables : Variables) (fields : Scope) (values : List ℤ)
    → length values ≡ total fields
    → values_of (bound_onto variables fields values) ≡ values_of variables ++ values
bound_values variables [] [] size = sym (append-nil (values_of variables))
bound_values variables [] (value ∷ values) size = absurd (omega arith)
bound_values variables (field ∷ fields) values size =
    let first : List ℕ × List ℤ = record { 0 = field.0; 1 = take field.1 values } in
    bound_values (first ∷ variables) fields (drop field.1 values)
    (omega (arith, length-drop field.1 values))
    ∙ append_assoc (values_of variables) (take field.1 values) (drop field.1 values)
    ∙ ap (λ l. values_of variables ++ l) (take-append-drop field.1 values)

bound_length : (variables : Variables) (fields : Scope) (values : List ℤ)
    → length (bound_onto variables fields values) ≡ length fields + length variables
bound_length variables [] values = omega arith
bound_length variables (field ∷ fields) values =
    let later = bound_length (record { 0 = field.0; 1 = take field.1 values } ∷ variables) fields
    (drop field.1 values) in
    omega (arith, later)

-- a name that is neither of these variables' nor of the fields that are added
bound_bare : (variables : Variables) (fields : Scope) (values : List ℤ) (name : List ℕ)
    → has_name (plain_names variables) name ≡ false → has_name (plain_names fields) name ≡ false
    → has_name (plain_names (bound_onto variables fields values)) name ≡ false
bound_bare variables [] values name none bare = none
bound_bare variables (field ∷ fields) values name none bare =
    bound_bare (record { 0 = field.0; 1 = take field.1 values } ∷ variables) fields
    (drop field.1 values) name
    (ap (λ t. t || has_name (plain_names variables) name)
    (or_first (bytes_eq field.0 name) _ bare) ∙ none)
    (or_second (bytes_eq field.0 name) _ bare)

-- the names of one declaration, and then those of the rest
declared_fields : (cells : ℕ) (variables : List tree.Variable) (names : List (List ℕ))
    (more : Scope) → plain_names more ≡ names
    → plain_names (sized_all cells variables ++ more) ≡ declared_names variables ++ names
declared_fields cells [] names more e = e
declared_fields cells (first ∷ rest) names more e =
    ap (λ l. first.name ∷ l) (declared_fields cells rest names more e)

fields_named : (members : List tree.Member)
    → plain_names (sized_fields members) ≡ field_names members
fields_named [] = refl
fields_named (tree.Fields kind variables ∷ rest) =
    declared_fields (cells_of kind) variables (field_names rest) (sized_fields rest)
    (fields_named rest)
fields_named (tree.Init block ∷ rest) = fields_named rest
fields_named (tree.Prework rates block ∷ rest) = fields_named rest
fields_named (tree.Work rates block ∷ rest) = fields_named rest
fields_named (tree.Helper kind name parameters block ∷ rest) = fields_named rest

-- a block that writes no field writes free names alone
fields_covered : (members : List tree.Member) (held : List ℤ) (shadowing names : List (List ℕ))
    (block : tree.Stmts) → write_one_of (not_shadowed shadowing (field_names members)) block ≡ false
    → ((name : List ℕ) → has_name names name ≡ false → has_name shadowing name ≡ false)
    → Covers (is_free (plain_names (bound_onto [] (sized_fields members) held)) names)
    (λ name. stmts_write name block)
fields_covered members held shadowing names block none shadows name bare =
    by_test (has_name (field_names members) name) refl
  where
    outer : List (List ℕ)
    outer = plain_names (bound_onto [] (sized_fields members) held)

    by_test : (t : Bool) → has_name (field_names members) name ≡ t
        → stmts_write name block ≡ false
    by_test true e =
        shown_unwritten shadowing (field_names members) block name none e
        (shadows name (or_first (has_name names name) _ bare))
    by_test false e =
        let away : has_name outer name ≡ false =
        bound_bare [] (sized_fields members) held name refl
        (ap (λ l. has_name l name) (fields_named members) ∙ e) in
        let there : not (has_name outer name) ≡ false = or_second (has_name names name) _ bare in
        let never : true ≡ false = ap not (sym away) ∙ there in
        absurd (cc)

-- ---- calls of helper functions

-- parameters are inner variables
bound_parameters : (outer : Variables) (names : List (List ℕ)) (variables : Variables)
    (parameters : List (List ℕ)) (values : List ℤ) → Within outer names variables
    → Within outer (with_parameters names parameters)
    (bound_onto variables (sized_parameters parameters) values)
bound_parameters outer names variables [] values h = h
bound_parameters outer names variables (first ∷ rest) values h =
    let parameter : List ℕ × List ℤ = record { 0 = first; 1 = take 1 values } in
    bound_parameters outer (first ∷ names) (parameter ∷ variables) rest (drop 1 values)
    (record {
      inner = parameter ∷ h.inner;
      is = ap (λ v. parameter ∷ v) h.is;
      named = ap (λ l. first ∷ l) h.named;
    })

-- a name that is none of a helper's variables is no parameter
no_parameter : (names parameters : List (List ℕ)) (name : List ℕ)
    → has_name (with_parameters names parameters) name ≡ false
    → (has_name names name ≡ false) × (has_name parameters name ≡ false)
no_parameter names [] name bare = (bare, refl)
no_parameter names (first ∷ rest) name bare =
    let later = no_parameter (first ∷ names) rest name bare in (
      or_second (bytes_eq first name) _ later.0,
      ap (λ t. t || has_name rest name) (or_first (bytes_eq first name) _ later.0) ∙ later.1,
    )

-- the answer is among a helper's variables
answer_there : (parameters : List (List ℕ))
    → has_name (with_parameters (answer_name ∷ []) parameters) answer_name ≡ true
answer_there parameters =
    by_test (has_name (with_parameters (answer_name ∷ []) parameters) answer_name) refl
  where
    by_test : (t : Bool)
        → has_name (with_parameters (answer_name ∷ []) parameters) answer_name ≡ t → t ≡ true
    by_test true e = refl
    by_test false e =
        let none : true ≡ false = (no_parameter (answer_name ∷ []) parameters answer_name e).0 in
        absurd (cc)

-- where a helper function of these members stands, and calls give this
abbrev setting_with : List tree.Member
    → (List ℕ → List ℤ → List ℤ → ℕ → Result Called Cause) → Setting
setting_with members call = record {
  port = no_io;
  fields = length (sized_fields members);
  cells = total (sized_fields members);
  call = call;
}

abbrev fields_at : List tree.Member → List ℤ → Variables
fields_at members held = bound_onto [] (sized_fields members) held

fields_length : (members : List tree.Member) (held : List ℤ)
    → length (sized_fields members) ≡ length (fields_at members held)
fields_length members held =
    let all : length (fields_at members held) ≡ length (sized_fields members) + 0 =
    bound_length [] (sized_fields members) held in
    omega (arith, all)

-- a helper function's block that writes no field, and calls none that does
block_spares : (members : List tree.Member) (levels : ℕ) (helper : Helper) (values held : List ℤ)
    (turns : ℕ) → helper_writes_field members helper ≡ false
    → stmts_call_one (can_write members) helper.block ≡ false
    → length held ≡ total (sized_fields members)
    → GivesBack (setting_with members (called members levels)) (can_write members) held
    → IfOk (result_and_then
    (turned (helper_store (sized_fields members) helper.parameters values held turns))
    (λ begun. result_and_then
    (stmts_done (setting_with members (called members levels)) helper.block begun)
    (λ ended. Ok (call_ended (setting_with members (called members levels)) ended))))
    (λ given. given.fields ≡ held)
block_spares members levels helper values held turns none calls size back =
    let setting = setting_with members (called members levels) in
    let fields = sized_fields members in
    let outer = fields_at members held in
    let names = with_parameters (answer_name ∷ []) helper.parameters in
    let store = helper_store fields helper.parameters values held turns in
    let answer : List ℕ × List ℤ = record { 0 = answer_name; 1 = pos 0 ∷ pos 0 ∷ [] } in
    let count = fields_length members held in
    let is_held : values_of outer ≡ held = bound_values [] fields held size in
    then_ok (turned store) _ (λ begun. Within outer names begun.variables)
    (λ given. given.fields ≡ held)
    (turned_holds (λ s. Within outer names s.variables) (λ s n h. h) store
    (bound_parameters outer (answer_name ∷ []) (answer ∷ outer) helper.parameters values
    (record { inner = answer ∷ []; is = refl; named = refl })))
    (λ begun h. then_ok (stmts_done setting helper.block begun) _
    (λ ended. Around outer names ended.variables) (λ given. given.fields ≡ held)
    (stmts_spare setting outer (can_write members)
    (λ inner. within_holding setting (can_write members) outer inner count
    (subst (GivesBack setting (can_write members)) (sym is_held) back))
    helper.block names begun
    (fields_covered members held helper.parameters names helper.block none
    (λ name bare. (no_parameter (answer_name ∷ []) helper.parameters name bare).1))
    calls (λ returns. answer_there helper.parameters) h)
    (λ ended k.
    ap (λ n. values_of (drop (length ended.variables - n) ended.variables)) count
    ∙ ap values_of (outer_is outer (k.more ++ names) ended.variables k.within) ∙ is_held))

helper_spares : (members : List tree.Member) (levels : ℕ) (name : List ℕ) (values held : List ℤ)
    (turns : ℕ) → can_write members name ≡ false
    → length held ≡ total (sized_fields members)
    → GivesBack (setting_with members (called members levels)) (can_write members) held
    → (found : Option Helper) → helper_named members name ≡ found
    → IfOk (helper_called (setting_with members (called members levels)) (sized_fields members)
    found values held turns) (λ given. given.fields ≡ held)
helper_spares members levels name values held turns none size back None e = tt
helper_spares members levels name values held turns none size back (Some helper) e =
    by_test (length values == length helper.parameters)
  where
    run : Result Called Cause
    run = result_and_then
        (turned (helper_store (sized_fields members) helper.parameters values held turns))
        (λ begun. result_and_then
        (stmts_done (setting_with members (called members levels)) helper.block begun)
        (λ ended. Ok (call_ended (setting_with members (called members levels)) ended)))

    by_test : (t : Bool) → IfOk (cond t run (Err Calls)) (λ given. given.fields ≡ held)
    by_test false = tt
    by_test true =
        let parts = spared_block members name helper e none in
        block_spares members levels helper values held turns parts.0 parts.1 size back

-- a call of a helper function that can write no field gives their values back
pub called_spares : (members : List tree.Member) (levels : ℕ) (held : List ℤ) (name : List ℕ)
    (values : List ℤ) (turns : ℕ) → can_write members name ≡ false
    → length held ≡ total (sized_fields members)
    → IfOk (called members levels name values held turns) (λ given. given.fields ≡ held)
called_spares members zero held name values turns none size = tt
called_spares members (suc levels) held name values turns none size =
    helper_spares members levels name values held turns none size
    (λ other given made spared. called_spares members levels held other given made spared size)
    (helper_named members name) refl

-- ---- filters without state

not_true : (a : Bool) → not a ≡ true → a ≡ false
not_true true e = absurd (cc)
not_true false e = refl

pub no_prework : (filter : Filter) → is_stateless filter ≡ true
    → is_some (prework_block filter.members) ≡ false
no_prework filter stateless =
    not_true (is_some (prework_block filter.members)) (and_first _ _ stateless)

pub no_print : (filter : Filter) → is_stateless filter ≡ true → filter_prints filter ≡ false
no_print filter stateless =
    not_true (filter_prints filter) (and_first _ _
    (and_second (not (is_some (prework_block filter.members))) _ stateless))

pub no_write : (filter : Filter) → is_stateless filter ≡ true
    → (writes_field filter ≡ false) × (calls_writer filter ≡ false)
no_write filter stateless =
    let both = and_second (not (filter_prints filter)) _
    (and_second (not (is_some (prework_block filter.members))) _ stateless) in (
      not_true (writes_field filter) (and_first (not (writes_field filter)) _ both),
      not_true (calls_writer filter) (and_second (not (writes_field filter)) _ both),
    )

none_shadowed : (names : List (List ℕ)) → not_shadowed [] names ≡ names
none_shadowed [] = refl
none_shadowed (name ∷ rest) = ap (λ l. name ∷ l) (none_shadowed rest)

pub keeps_fields : StatelessKeepsFields
keeps_fields filter fields window stateless closed size =
    let members = filter.members in
    let block = work_block members in
    let such = can_write members in
    let setting = setting_of filter body.Work window in
    let store = store_at filter fields in
    let outer = fields_at members fields in
    let none = no_write filter stateless in
    let count = fields_length members fields in
    let is_held : values_of outer ≡ fields = bound_values [] (sized_fields members) fields size in
    let back : GivesBack setting such fields =
    λ name values turns spared. called_spares members call_limit fields name values turns spared
    size in
    let plain : stmts_return block ≡ false =
    (body_plain body.Work (reverse (sized_fields members)) members closed).1 in
    then_ok (stmts_done setting block store) _ (λ after. Around outer [] after.variables)
    (λ done. done.fields ≡ fields)
    (stmts_spare setting outer such
    (λ inner. within_holding setting such outer inner count
    (subst (GivesBack setting such) (sym is_held) back)) block [] store
    (fields_covered members fields [] [] block
    (ap (λ l. write_one_of l block) (none_shadowed (field_names members)) ∙ none.0)
    (λ name bare. bare)) none.1 (λ returns. absurd (cc))
    (record { inner = []; is = refl; named = refl }))
    (λ after k.
    ap values_of (outer_is outer (k.more ++ []) after.variables k.within) ∙ is_held)
