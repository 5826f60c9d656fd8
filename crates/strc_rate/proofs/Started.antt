-- A filter starts with a value for each cell of its fields.
use Rattle.std.proofs.Common.{◌≡◌, refl, sym, ◌∙◌, ap, ℕ, pos, Bool, true, List, []}
use Rattle.std.proofs.Common.{◌∷◌, length, length-append, reverse, Option, Some, None, arith}
use Rattle.std.specs.Prelude.{replicate, IfOk}
use Rattle.std.proofs.lemmas.List.{length-replicate}
use Rattle.std.proofs.lemmas.Result.{IfOk-weaker}
use Rattle.strc_parse_tree.specs.Tree as tree
use Rattle.strc_work_meaning.specs.Filters.{sized_fields}
use Rattle.strc_work_meaning.specs.Scoping.{Scope, total}
use Rattle.strc_work_meaning.specs.Closed.{AreClosedMembers}
use Rattle.strc_work_meaning.specs.Firing.{Setting, Store, Variables, values_of, value_of, store_at}
use Rattle.strc_work_meaning.specs.Firing.{no_io}
use Rattle.strc_work_meaning.specs.Firing.{initial_given, fields_started, members_started}
use Rattle.strc_work_meaning.specs.Firing.{inits_done, inside, stmts_done, fields_in, setting_at}
use Rattle.strc_work_meaning.proofs.Calls.{scope_of-after_call}
use Rattle.strc_work_writes.specs.LocalWrites.{stmts_write}
use Rattle.strc_rate.proofs.Scopes.{scope_of, scope_of-with_cell}
use Rattle.strc_rate.proofs.Results.{then_ok, any_ok}
use Rattle.strc_rate.proofs.Keeping.{Holding, Same, value_holds}
use Rattle.strc_rate.proofs.Unwritten.{inside_same, stmts_keep}
use Rattle.strc_rate.specs.StatelessPromises.{StartedFieldsFit}
use Rattle.strc_rate.proofs.Kept.{bound_values}

-- as many values as cells
values_total : (variables : Variables)
    → length (values_of variables) ≡ total (scope_of variables)
values_total [] = refl
values_total (first ∷ rest) =
    let inner : length (values_of rest) ≡ total (scope_of rest) = values_total rest in
    omega (arith, length-append (values_of rest) first.1)

-- the variables are of these names, with as many cells
abbrev HasShape : Scope → Store → Type 0
HasShape scope store = scope_of store.variables ≡ scope

shape_holds : (setting : Setting) (scope : Scope)
    → Holding setting (HasShape scope) (λ name. true)
shape_holds setting scope = record {
  moved = λ store traffic h. h;
  written = λ store name place value covers h.
      scope_of-with_cell store.variables name place value ∙ h;
  called = λ store name values any h.
      let held = values_of (fields_in setting store.variables) in
      IfOk-weaker (setting.call name values held store.traffic.turns) (λ called. Unit {0}) _
      (λ called any. scope_of-after_call setting store called ∙ h)
      (any_ok (setting.call name values held store.traffic.turns));
}

initial_shape : (setting : Setting) (scope : Scope) (name : List ℕ) (initial : Option tree.Expr)
    (store : Store)
    → HasShape scope store → IfOk (initial_given setting name initial store) (HasShape scope)
initial_shape setting scope name None store h = h
initial_shape setting scope name (Some initial) store h =
    then_ok (value_of setting initial store) _ (λ given. HasShape scope given.1) (HasShape scope)
    (value_holds setting (HasShape scope) (λ other. true) (shape_holds setting scope) initial store
    (λ other e. absurd (cc)) h)
    (λ given k. scope_of-with_cell given.1.variables name 0 given.0 ∙ k)

fields_shape : (setting : Setting) (scope : Scope) (variables : List tree.Variable) (store : Store)
    → HasShape scope store → IfOk (fields_started setting variables store) (HasShape scope)
fields_shape setting scope [] store h = h
fields_shape setting scope (first ∷ rest) store h =
    then_ok (initial_given setting first.name first.initial store) (fields_started setting rest)
    (HasShape scope) (HasShape scope) (initial_shape setting scope first.name first.initial store h)
    (λ next k. fields_shape setting scope rest next k)

members_shape : (setting : Setting) (scope : Scope) (members : List tree.Member) (store : Store)
    → HasShape scope store → IfOk (members_started setting members store) (HasShape scope)
members_shape setting scope [] store h = h
members_shape setting scope (tree.Fields kind variables ∷ rest) store h =
    then_ok (fields_started setting variables store) (members_started setting rest) (HasShape scope)
    (HasShape scope) (fields_shape setting scope variables store h)
    (λ next k. members_shape setting scope rest next k)
members_shape setting scope (tree.Init block ∷ rest) store h =
    members_shape setting scope rest store h
members_shape setting scope (tree.Prework rates block ∷ rest) store h =
    members_shape setting scope rest store h
members_shape setting scope (tree.Work rates block ∷ rest) store h =
    members_shape setting scope rest store h
members_shape setting scope (tree.Helper kind name parameters block ∷ rest) store h =
    members_shape setting scope rest store h

inits_shape : (setting : Setting) (scope names : Scope) (members : List tree.Member) (store : Store)
    → AreClosedMembers names members → HasShape scope store
    → IfOk (inits_done setting members store) (HasShape scope)
inits_shape setting scope names [] store closed h = h
inits_shape setting scope names (tree.Fields kind variables ∷ rest) store closed h =
    inits_shape setting scope names rest store closed.1 h
inits_shape setting scope names (tree.Init block ∷ rest) store closed h =
    let writes : List ℕ → Bool = λ name. stmts_write name block in
    then_ok (inside (stmts_done setting block) store) (inits_done setting rest) (HasShape scope)
    (HasShape scope)
    (IfOk-weaker (inside (stmts_done setting block) store)
    (λ after. Same setting.fields writes store.variables after.variables) _ (λ after k. k.shape ∙ h)
    (inside_same setting.fields writes writes (stmts_done setting block) store (λ name e. e)
    (stmts_keep setting block names store
    (closed.0.0, closed.0.1))))
    (λ next k. inits_shape setting scope names rest next closed.1 k)
inits_shape setting scope names (tree.Prework rates block ∷ rest) store closed h =
    inits_shape setting scope names rest store closed.1 h
inits_shape setting scope names (tree.Work rates block ∷ rest) store closed h =
    inits_shape setting scope names rest store closed.1 h
inits_shape setting scope names (tree.Helper kind name parameters block ∷ rest) store closed h =
    inits_shape setting scope names rest store closed.1 h

pub fields_fit : StartedFieldsFit
fields_fit filter closed =
    let setting = setting_at filter.members no_io in
    let fields = sized_fields filter.members in
    let zeros = replicate (total fields) (pos 0) in
    let first = store_at filter zeros in
    let scope = scope_of first.variables in
    let room : length zeros ≡ total fields = length-replicate (total fields) (pos 0) in
    let whole : total scope ≡ total fields =
    sym (values_total first.variables) ∙ (ap length (bound_values [] fields zeros room) ∙ room) in
    then_ok (members_started setting filter.members first) _ (HasShape scope)
    (λ values. length values ≡ total fields)
    (members_shape setting scope filter.members first refl)
    (λ initialised h.
    then_ok (inits_done setting filter.members initialised) _ (HasShape scope)
    (λ values. length values ≡ total fields)
    (inits_shape setting scope (reverse fields) filter.members initialised closed h)
    (λ store k. values_total store.variables ∙ (ap total k ∙ whole)))
