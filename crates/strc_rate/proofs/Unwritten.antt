-- A statement leaves the variables that are before it, with the cells of each that its text
-- doesn't write.
use Rattle.std.proofs.Common.{◌≡◌, refl, sym, subst, ◌∙◌, ap, ℕ, zero, suc, ◌+◌, ◌≤◌, ℤ, pos, Bool}
use Rattle.std.proofs.Common.{◌-◌, take, true, false, cond, ◌&&◌, ◌||◌, not, List, [], ◌∷◌, length}
use Rattle.std.proofs.Common.{Option}
use Rattle.std.proofs.Common.{Some, None, Result, Ok, Err, arith}
use Rattle.std.specs.Prelude.{bytes_eq, nat_lt}
use Rattle.std.specs.Result.{IfOk}
use Rattle.std.proofs.lemmas.Result.{IfOk-weaker}
use Rattle.std.proofs.lemmas.List.{length-map, length-replicate}
use Rattle.strc_lex_names.specs.Results.{result_and_then}
use Rattle.strc_parse_tree.specs.Tree as tree
use Rattle.strc_work_meaning.specs.declared.fault.Cause.{Cause}
use Rattle.strc_work_meaning.specs.declared.fault.Cause.TheVariants.{Turns}
use Rattle.strc_work_meaning.specs.Arithmetic.{is_true}
use Rattle.strc_work_meaning.specs.Scoping.{Scope, is_declared, cells_of, with_declared}
use Rattle.strc_work_meaning.specs.Scoping.{names_after}
use Rattle.strc_work_meaning.specs.Closed.{FitsInitial, AreClosedVariables}
use Rattle.strc_work_meaning.specs.Firing.{Setting, Store, Variables, cells_named, declared_in}
use Rattle.strc_work_meaning.specs.Firing.{value_of}
use Rattle.strc_work_meaning.specs.Firing.{initial_cells, variables_declared, condition_value}
use Rattle.strc_work_meaning.specs.Firing.{pushed_to, turned, turn_limit, looped, inside, stmt_done}
use Rattle.strc_work_meaning.specs.Firing.{stmts_done}
use Rattle.strc_rate.proofs.Scopes.{scope_of}
use Rattle.strc_work_writes.specs.LocalWrites.{declares, shadows, expr_writes, option_writes}
use Rattle.strc_work_writes.specs.LocalWrites.{variables_write, stmt_writes, stmts_write}
use Rattle.strc_rate.proofs.Results.{or_first, or_second, then_ok, any_ok, below, above}
use Rattle.strc_rate.proofs.Results.{below_below, below_map, below_all, below_more, above_more}
use Rattle.strc_rate.proofs.Keeping.{Unwritten, Covers, Given, IsInner, Same, same_size, same_refl}
use Rattle.strc_rate.proofs.Unreturned.{while_ok, for_ok, block_ok}
use Rattle.strc_rate.proofs.Unreturned.{IsPlain, ArePlain, plain_sides, plain_parts, plain_then}
use Rattle.strc_rate.proofs.Keeping.{same_holding, same_then, value_holds, condition_holds}
use Rattle.strc_rate.proofs.Keeping.{assigned_holds, element_assigned_holds}

-- perhaps more variables, the others with as many cells, and with the same cells of each that isn't
-- written
pub record Grown (fields : ℕ) (writes : List ℕ → Bool) (before after : Variables) : Type 0 where
  pub more : length before ≤ length after
  pub shape : below (length before) (scope_of after) ≡ scope_of before
  pub cells : (n : ℕ) (name : List ℕ) → n ≤ length before → IsInner fields n (scope_of before) name
      → Unwritten (above n (scope_of before)) name (writes name)
      → cells_named (below n after) name ≡ cells_named (below n before) name

pub scope_length : (variables : Variables) → length (scope_of variables) ≡ length variables
scope_length variables = length-map variables _

pub grown_same : (fields : ℕ) (writes : List ℕ → Bool) (before after : Variables)
    → Same fields writes before after → Grown fields writes before after
grown_same fields writes before after h =
    let size : length after ≡ length before = same_size before after h.shape in
    record {
      more = omega arith;
      shape = ap (below (length before)) h.shape
          ∙ (ap (λ k. below k (scope_of before)) (sym (scope_length before))
          ∙ below_all (scope_of before));
      cells = h.cells;
    }

-- a block's own variables are forgotten
pub left_same : (fields : ℕ) (writes : List ℕ → Bool) (before after : Variables)
    → Grown fields writes before after → Same fields writes before (below (length before) after)
left_same fields writes before after h =
    let more : length before ≤ length after = h.more in
    record {
      shape = sym (below_map (λ v. record { 0 = v.0; 1 = length v.1 }) (length before) after)
          ∙ h.shape;
      cells = λ n name le inner unwritten. ap (λ v. cells_named v name)
          (below_below n (length before) after le more) ∙ h.cells n name le inner unwritten;
    }

-- what isn't declared after a part isn't before it, and that part doesn't shadow it
abbrev Bares : (shadows : List ℕ → Bool) (before after : Scope) → Type 0
Bares shadows before after =
    (n : ℕ) (name : List ℕ) → n ≤ length before → is_declared (above n after) name ≡ false
    → (is_declared (above n before) name ≡ false) × (shadows name ≡ false)

grown_then : (fields : ℕ) (writes first rest shadows : List ℕ → Bool) (a b c : Variables)
    → Covers writes first
    → ((name : List ℕ) → writes name ≡ false → shadows name ≡ false → rest name ≡ false)
    → Bares shadows (scope_of a) (scope_of b) → Grown fields first a b → Grown fields rest b c
    → Grown fields writes a c
grown_then fields writes first rest shadows a b c covers advance bares h k =
    let more : length a ≤ length b = h.more in
    let most : length b ≤ length c = k.more in
    let size_c : length (scope_of c) ≡ length c = scope_length c in
    record {
      more = omega arith;
      shape = sym (below_below (length a) (length b) (scope_of c) more (omega arith))
          ∙ (ap (below (length a)) k.shape ∙ h.shape);
      cells = λ n name le inner unwritten.
          let same : below n (scope_of b) ≡ below n (scope_of a) =
          sym (below_below n (length a) (scope_of b) le (omega (arith, scope_length b)))
          ∙ ap (below n) h.shape in
          k.cells n name (omega arith) (ap (λ s. is_declared (take (n - fields) s) name) same
          ∙ inner) (λ bare. let none =
          bares n name
          (omega (arith, scope_length a)) bare in
          advance name (unwritten none.0) none.1)
          ∙ h.cells n name le inner (λ bare. covers name (unwritten bare));
    }

same_bares : (fields : ℕ) (writes : List ℕ → Bool) (before after : Variables)
    → Same fields writes before after
    → Bares (λ name. false) (scope_of before) (scope_of after)
same_bares fields writes before after h n name le bare =
    (sym (ap (λ s. is_declared (above n s) name) h.shape) ∙ bare, refl)

-- one more variable
more_bares : (scope : Scope) (name : List ℕ) (cells : ℕ)
    → Bares (λ other. bytes_eq name other) scope (record { 0 = name; 1 = cells } ∷ scope)
more_bares scope name cells n other le bare =
    let e : bytes_eq name other || is_declared (above n scope) other ≡ false =
    sym (ap (λ s. is_declared s other)
    (above_more n (record { 0 = name; 1 = cells }) scope le)) ∙ bare in
    (or_second (bytes_eq name other) _ e, or_first (bytes_eq name other) _ e)

declared_bares : (variables : List tree.Variable) (scope : Scope) (cells : ℕ)
    → Bares (λ name. declares name variables) scope (with_declared scope cells variables)
declared_bares [] scope cells n name le bare = (bare, refl)
declared_bares (first ∷ rest) scope cells n name le bare =
    let later = declared_bares rest (record { 0 = first.name; 1 = cells } ∷ scope) cells n name
    (omega arith) bare in
    let here = more_bares scope first.name cells n name le later.0 in
    (here.0, neither (bytes_eq first.name name) (declares name rest) here.1 later.1)
  where
    neither : (a b : Bool) → a ≡ false → b ≡ false → (a || b) ≡ false
    neither true b e f = e
    neither false b e f = f

stmt_bares : (s : tree.Stmt) (scope : Scope)
    → Bares (λ name. shadows name s) scope (names_after scope s)
stmt_bares (tree.Declare kind variables) scope n name le bare =
    declared_bares variables scope (cells_of kind) n name le bare
stmt_bares tree.Empty scope n name le bare = (bare, refl)
stmt_bares (tree.Compose statement) scope n name le bare = (bare, refl)
stmt_bares (tree.Block body) scope n name le bare = (bare, refl)
stmt_bares (tree.Evaluate value) scope n name le bare = (bare, refl)
stmt_bares (tree.Assign assigned operator value) scope n name le bare = (bare, refl)
stmt_bares (tree.AssignElement array index operator value) scope n name le bare = (bare, refl)
stmt_bares (tree.If condition chosen) scope n name le bare = (bare, refl)
stmt_bares (tree.IfElse condition chosen other) scope n name le bare = (bare, refl)
stmt_bares (tree.While condition body) scope n name le bare = (bare, refl)
stmt_bares (tree.For first condition step body) scope n name le bare = (bare, refl)
stmt_bares (tree.Push value) scope n name le bare = (bare, refl)
stmt_bares (tree.Print value) scope n name le bare = (bare, refl)
stmt_bares (tree.Println value) scope n name le bare = (bare, refl)
stmt_bares (tree.Return value) scope n name le bare = (bare, refl)

-- after what may shadow a name
pub unless_shadowed : (shadowed written : Bool) → (not shadowed && written) ≡ false
    → shadowed ≡ false → written ≡ false
unless_shadowed true written e h = absurd (cc)
unless_shadowed false written e h = e

-- ---- declarations

-- the cells of a new variable, and a store with the same variables
initial_same : (setting : Setting) (cells : ℕ)
    (initial : Option tree.Expr) (store : Store)
    → FitsInitial cells initial → IfOk (initial_cells setting cells initial store)
    (λ given. (length given.0 ≡ cells) × Same setting.fields
    (λ name. option_writes name initial) store.variables given.1.variables)
initial_same setting cells None store fits =
    (length-replicate cells (pos 0), same_refl setting.fields _ store.variables)
initial_same setting cells (Some initial) store fits =
    then_ok (value_of setting initial store) _
    (λ given. Same setting.fields
    (λ name. expr_writes name initial) store.variables given.1.variables)
    (λ given. (length given.0 ≡ cells)
    × Same setting.fields (λ name. expr_writes name initial) store.variables given.1.variables)
    (value_holds setting
    (λ s. Same setting.fields (λ name. expr_writes name initial) store.variables
    s.variables) (λ name. expr_writes name initial)
    (same_holding setting _ store.variables) initial
    store (λ name e. e) (same_refl setting.fields _ store.variables))
    (λ given h. (sym fits, h))

-- one more variable, before which nothing changes
declared_grown : (fields : ℕ) (name : List ℕ) (cells : List ℤ) (variables : Variables)
    → Grown fields (λ other. false) variables (record { 0 = name; 1 = cells } ∷ variables)
declared_grown fields name cells variables = record {
  more = omega arith;
  shape =
      below_more (length variables) (record { 0 = name; 1 = length cells }) (scope_of variables)
      (omega (arith, scope_length variables))
      ∙ (ap (λ k. below k (scope_of variables)) (sym (scope_length variables))
      ∙ below_all (scope_of variables));
  cells = λ n other le inner unwritten. ap (λ v. cells_named v other)
      (below_more n (record { 0 = name; 1 = cells }) variables le);
}

-- what a statement leaves, and the variables that can be seen after it
pub record Done (fields : ℕ) (writes : List ℕ → Bool) (scope : Scope)
    (before after : Variables) : Type 0 where
  pub grown : Grown fields writes before after
  pub exact : scope_of after ≡ scope

variables_keep : (setting : Setting) (cells : ℕ)
    (variables : List tree.Variable) (names : Scope)
    (store : Store) → AreClosedVariables names cells variables
    → IfOk (variables_declared setting cells variables store)
    (λ after. Done setting.fields (λ name. variables_write name variables)
    (with_declared (scope_of store.variables) cells variables) store.variables after.variables)
variables_keep setting cells [] names store closed =
    record {
      grown = grown_same setting.fields _ store.variables store.variables
          (same_refl setting.fields _ store.variables);
      exact = refl;
    }
variables_keep setting cells (first ∷ rest) names store closed =
    then_ok (initial_cells setting cells first.initial store) _
    (λ given. (length given.0 ≡ cells)
    × Same setting.fields
    (λ name. option_writes name first.initial) store.variables given.1.variables)
    (λ after. Done setting.fields (λ name. variables_write name (first ∷ rest))
    (with_declared (scope_of store.variables) cells (first ∷ rest)) store.variables
    after.variables)
    (initial_same setting cells first.initial store closed.1)
    (λ given h.
    let begun = declared_in given.1 first.name given.0 in
    let begins : scope_of begun.variables ≡ record { 0 = first.name; 1 = cells }
    ∷ scope_of store.variables =
    ap (λ k. record { 0 = first.name; 1 = k } ∷ scope_of given.1.variables) h.0
    ∙ ap (λ s. record { 0 = first.name; 1 = cells } ∷ s) h.1.shape in
    let here : Grown setting.fields (λ name. option_writes name first.initial) store.variables
    begun.variables =
    grown_then setting.fields (λ name. option_writes name first.initial)
    (λ name. option_writes name first.initial)
    (λ name. false) (λ name. false) store.variables given.1.variables begun.variables
    (λ name e. e) (λ name e f. refl)
    (same_bares setting.fields _ store.variables given.1.variables h.1)
    (grown_same setting.fields _ store.variables given.1.variables h.1)
    (declared_grown setting.fields first.name given.0 given.1.variables) in
    IfOk-weaker (variables_declared setting cells rest begun)
    (λ after. Done setting.fields (λ name. variables_write name rest)
    (with_declared (scope_of begun.variables) cells rest) begun.variables after.variables) _
    (λ after k. record {
      grown =
          grown_then setting.fields (λ name. variables_write name (first ∷ rest))
          (λ name. option_writes name first.initial) (λ name. variables_write name rest)
          (λ name. bytes_eq first.name name) store.variables begun.variables after.variables
          (λ name e. or_first (option_writes name first.initial) _ e)
          (λ name e f. unless_shadowed (bytes_eq first.name name) (variables_write name rest)
          (or_second (option_writes name first.initial) _ e) f)
          (subst (Bares (λ name. bytes_eq first.name name) (scope_of store.variables)) (sym begins)
          (more_bares (scope_of store.variables) first.name cells)) here k.grown;
      exact = k.exact ∙ ap (λ s. with_declared s cells rest) begins;
    })
    (variables_keep setting cells rest
    (record { 0 = first.name; 1 = cells } ∷ names) begun closed.2))

-- ---- statements

-- what holds whatever number of turns was made
abbrev pub TurnsFree : (Store → Type 0) → Type 0
TurnsFree P = (store : Store) (n : ℕ) → P store
    → P (record store { traffic = record store.traffic { turns = n } })

pub turned_holds : (P : Store → Type 0) → TurnsFree P → (store : Store) → P store
    → IfOk (turned store) P
turned_holds P free store h = by_test (nat_lt store.traffic.turns turn_limit)
  where
    by_test : (t : Bool) → IfOk (result_and_then
        (cond t (Ok (record store.traffic { turns = store.traffic.turns + 1 })) (Err Turns))
        (λ traffic. Ok (record store { traffic = traffic }))) P
    by_test true = free store (store.traffic.turns + 1) h
    by_test false = tt

-- one more turn, or the loop's end
turn_holds : (P : Store → Type 0) → TurnsFree P → (body more : Store → Result Store Cause)
    → ((store : Store) → P store → IfOk (body store) P)
    → ((store : Store) → P store → IfOk (more store) P) → (test : Bool) (store : Store) → P store
    → IfOk (cond test (result_and_then (turned store)
    (λ turning. result_and_then (body turning) more)) (Ok store)) P
turn_holds P free body more turns rest false store h = h
turn_holds P free body more turns rest true store h =
    then_ok (turned store) _ P P (turned_holds P free store h)
    (λ turning k. then_ok (body turning) more P P (turns turning k) (λ next l. rest next l))

-- what each part of a loop keeps, the loop does
pub looped_holds : (P : Store → Type 0) → TurnsFree P
    → (fuel : ℕ) (test : Store → Result (ℤ × Store) Cause) (body : Store → Result Store Cause)
    → ((store : Store) → P store → Given P (test store))
    → ((store : Store) → P store → IfOk (body store) P) → (store : Store) → P store
    → IfOk (looped fuel test body store) P
looped_holds P free zero test body tests turns store h = tt
looped_holds P free (suc fuel) test body tests turns store h =
    then_ok (test store) _ (λ tested. P tested.1) P (tests store h)
    (λ tested k. turn_holds P free body (looped fuel test body) turns
    (λ next m. looped_holds P free fuel test body tests turns next m)
    (is_true tested.0) tested.1 k)

same_weaker : (fields : ℕ) (wide narrow : List ℕ → Bool) (before after : Variables)
    → Covers wide narrow → Same fields narrow before after → Same fields wide before after
same_weaker fields wide narrow before after covers h = record {
  shape = h.shape;
  cells = λ n name le inner unwritten. h.cells n name le inner
      (λ bare. covers name (unwritten bare));
}

-- a statement in a scope of its own
pub inside_same : (fields : ℕ) (wide narrow : List ℕ → Bool) (does : Store → Result Store Cause)
    (store : Store)
    → Covers wide narrow → IfOk (does store) (λ after. Grown fields narrow store.variables
    after.variables)
    → IfOk (inside does store) (λ after. Same fields wide store.variables after.variables)
inside_same fields wide narrow does store covers h =
    then_ok (does store) _ (λ after. Grown fields narrow store.variables after.variables)
    (λ after. Same fields wide store.variables after.variables) h
    (λ inner k. same_weaker fields wide narrow store.variables
    (below (length store.variables) inner.variables) covers
    (left_same fields narrow store.variables inner.variables k))

-- the same, after a part that leaves the variables
pub inside_after : (fields : ℕ) (wide narrow : List ℕ → Bool) (scope : Scope) (before : Variables)
    (does : Store → Result Store Cause) (store : Store) → Covers wide narrow
    → IfOk (does store) (λ after. Done fields narrow scope store.variables after.variables)
    → Same fields wide before store.variables → IfOk (inside does store)
    (λ after. Same fields wide before after.variables)
inside_after fields wide narrow scope before does store covers h so_far =
    IfOk-weaker (inside does store) (λ after. Same fields wide store.variables after.variables) _
    (λ after k. same_then fields wide before store.variables after.variables so_far k)
    (inside_same fields wide narrow does store covers
    (IfOk-weaker (does store) (λ after. Done fields narrow scope store.variables after.variables) _
    (λ after k. k.grown) h))

-- a statement that declares nothing
plain : (fields : ℕ) (writes : List ℕ → Bool) (before : Variables) (result : Result Store Cause)
    → IfOk result (λ after. Same fields writes before after.variables)
    → IfOk result (λ after. Done fields writes (scope_of before) before after.variables)
plain fields writes before result h =
    IfOk-weaker result (λ after. Same fields writes before after.variables) _
    (λ after k. record {
      grown = grown_same fields writes before after.variables k;
      exact =
          k.shape;
    }) h

pub branch_holds : (P : Store → Type 0) (test : Bool) (one other : Result Store Cause) → IfOk one P
    → IfOk other P → IfOk (cond test one other) P
branch_holds P true one other h k = h
branch_holds P false one other h k = k

-- a value that is used without a change of the variables
used_same : (setting : Setting) (e : tree.Expr)
    (store : Store) (go : ℤ × Store → Result Store Cause)
    → ((given : ℤ × Store) → IfOk (go given) (λ after. after.variables ≡ given.1.variables))
    → IfOk (result_and_then (value_of setting e store) go)
    (λ after. Same setting.fields (λ name. expr_writes name e) store.variables after.variables)
used_same setting e store go stays =
    then_ok (value_of setting e store) go (λ given. Same setting.fields
    (λ name. expr_writes name e) store.variables given.1.variables)
    (λ after. Same setting.fields (λ name. expr_writes name e) store.variables after.variables)
    (value_holds setting
    (λ s. Same setting.fields (λ name. expr_writes name e) store.variables s.variables)
    (λ name. expr_writes name e) (same_holding setting _ store.variables) e store
    (λ name f. f) (same_refl setting.fields _ store.variables))
    (λ given h. IfOk-weaker (go given) (λ after. after.variables ≡ given.1.variables) _
    (λ after is. subst (Same setting.fields (λ name. expr_writes name e) store.variables)
    (sym is) h)
    (stays given))

-- the turns of a `for`
turns_same : (setting : Setting)
    (condition : Option tree.Expr)
    (writes step_writes body_writes : List ℕ → Bool) (step body : Store → Result Store Cause)
    (scope : Store → Scope) (scope' : Store → Scope)
    → Covers writes (λ name. option_writes name condition) → Covers writes step_writes
    → Covers writes body_writes → ((store : Store)
    → IfOk (step store) (λ after. Done setting.fields step_writes
    (scope store) store.variables after.variables)) → ((store : Store) → IfOk (body store)
    (λ after. Done setting.fields body_writes (scope' store) store.variables after.variables))
    → (store : Store) → IfOk (looped (suc turn_limit) (condition_value setting condition)
    (λ turn. result_and_then (inside body turn) (inside step)) store)
    (λ after. Same setting.fields writes store.variables after.variables)
turns_same setting condition writes step_writes body_writes step body scope scope'
    covers covers_step covers_body steps bodies store =
    looped_holds (λ s. Same setting.fields writes store.variables s.variables) (λ s n h. h)
    (suc turn_limit)
    (condition_value setting condition) (λ turn. result_and_then (inside body turn) (inside step))
    (λ s h. condition_holds setting
    (λ t. Same setting.fields writes store.variables t.variables) writes
    (same_holding setting writes store.variables) condition s covers h)
    (λ s h.
    then_ok (inside body s) (inside step) (λ after. Same setting.fields writes store.variables
    after.variables) (λ after. Same setting.fields writes store.variables after.variables)
    (inside_after setting.fields writes body_writes (scope' s) store.variables body s covers_body
    (bodies s) h) (λ middle k. inside_after setting.fields writes step_writes
    (scope middle) store.variables step middle covers_step (steps middle) k))
    store (same_refl setting.fields writes store.variables)

mutual
  -- a statement of known names leaves its variables, and keeps the cells of those that it doesn't
  -- write
  pub stmt_keeps : (setting : Setting) (s : tree.Stmt)
      (names : Scope) (store : Store) → IsPlain names s → IfOk (stmt_done setting s store)
      (λ after. Done setting.fields (λ name. stmt_writes name s)
      (names_after (scope_of store.variables) s) store.variables after.variables)
  stmt_keeps setting tree.Empty names store closed =
      record {
        grown = grown_same setting.fields _ store.variables store.variables
            (same_refl setting.fields _ store.variables);
        exact = refl;
      }
  stmt_keeps setting (tree.Return value) names store closed =
      let returned : true ≡ false = closed.1 in absurd (cc)
  stmt_keeps setting (tree.Compose statement) names store closed =
      record {
        grown = grown_same setting.fields _ store.variables store.variables
            (same_refl setting.fields _ store.variables);
        exact = refl;
      }
  stmt_keeps setting (tree.Block body) names store closed =
      plain setting.fields (λ name. stmts_write name body) store.variables
      (inside (stmts_done setting body) store)
      (inside_same setting.fields (λ name. stmts_write name body) (λ name. stmts_write name body)
      (stmts_done setting body) store (λ name e. e)
      (stmts_keep setting body names store closed))
  stmt_keeps setting (tree.Declare kind variables) names store closed =
      variables_keep setting (cells_of kind) variables names store closed.0
  stmt_keeps setting (tree.Evaluate value) names store closed =
      plain setting.fields (λ name. expr_writes name value) store.variables
      (stmt_done setting (tree.Evaluate value) store)
      (used_same setting value store _ (λ given. refl))
  stmt_keeps setting (tree.Assign assigned operator value) names store closed =
      plain setting.fields _ store.variables
      (stmt_done setting (tree.Assign assigned operator value) store)
      (assigned_holds setting (λ s. Same setting.fields (λ name. stmt_writes name
      (tree.Assign assigned operator value)) store.variables s.variables) (λ name. stmt_writes name
      (tree.Assign assigned operator value))
      (same_holding setting _ store.variables) assigned operator value store
      (λ name e. e) (same_refl setting.fields _ store.variables))
  stmt_keeps setting (tree.AssignElement array index operator value) names store
      closed =
      plain setting.fields _ store.variables (stmt_done setting
      (tree.AssignElement array index operator value) store)
      (element_assigned_holds setting (λ s. Same setting.fields (λ name. stmt_writes name
      (tree.AssignElement array index operator value)) store.variables s.variables)
      (λ name. stmt_writes name (tree.AssignElement array index operator value))
      (same_holding setting _ store.variables) array index operator value store
      (λ name e. e) (same_refl setting.fields _ store.variables))
  stmt_keeps setting (tree.If condition chosen) names store closed =
      let writes : List ℕ → Bool = λ name. expr_writes name condition || stmt_writes name chosen in
      plain setting.fields writes store.variables
      (stmt_done setting (tree.If condition chosen) store)
      (then_ok (value_of setting condition store) _
      (λ test. Same setting.fields writes store.variables test.1.variables)
      (λ after. Same setting.fields writes store.variables after.variables)
      (value_holds setting (λ s. Same setting.fields writes store.variables s.variables) writes
      (same_holding setting writes store.variables) condition store
      (λ name e. or_first (expr_writes name condition) _ e)
      (same_refl setting.fields writes store.variables))
      (λ test h. branch_holds (λ after. Same setting.fields writes store.variables after.variables)
      (is_true test.0) (inside (stmt_done setting chosen) test.1) (Ok test.1)
      (inside_after setting.fields writes (λ name. stmt_writes name chosen)
      (names_after (scope_of test.1.variables) chosen) store.variables
      (stmt_done setting chosen) test.1 (λ name e. or_second (expr_writes name condition) _ e)
      (stmt_keeps setting chosen names test.1 (closed.0.1, closed.1)) h)
      h))
  stmt_keeps setting (tree.IfElse condition chosen other) names store closed =
      let writes : List ℕ → Bool = λ name. expr_writes name condition
      || (stmt_writes name chosen || stmt_writes name other) in
      let sides = plain_sides names condition chosen other closed in
      plain setting.fields writes store.variables (stmt_done setting
      (tree.IfElse condition chosen other) store) (then_ok (value_of setting condition store) _
      (λ test. Same setting.fields writes store.variables test.1.variables)
      (λ after. Same setting.fields writes store.variables after.variables)
      (value_holds setting (λ s. Same setting.fields writes store.variables s.variables) writes
      (same_holding setting writes store.variables) condition store
      (λ name e. or_first (expr_writes name condition) _ e)
      (same_refl setting.fields writes store.variables))
      (λ test h. branch_holds (λ after. Same setting.fields writes store.variables after.variables)
      (is_true test.0) (inside (stmt_done setting chosen) test.1)
      (inside (stmt_done setting other) test.1)
      (inside_after setting.fields writes (λ name. stmt_writes name chosen)
      (names_after (scope_of test.1.variables) chosen) store.variables
      (stmt_done setting chosen) test.1 (λ name e. or_first (stmt_writes name chosen) _
      (or_second (expr_writes name condition) _ e))
      (stmt_keeps setting chosen names test.1 sides.0) h)
      (inside_after setting.fields writes (λ name. stmt_writes name other)
      (names_after (scope_of test.1.variables) other) store.variables
      (stmt_done setting other) test.1 (λ name e. or_second (stmt_writes name chosen) _
      (or_second (expr_writes name condition) _ e))
      (stmt_keeps setting other names test.1 sides.1) h)))
  stmt_keeps setting (tree.While condition body) names store closed =
      let writes : List ℕ → Bool = λ name. expr_writes name condition || stmt_writes name body in
      plain setting.fields writes store.variables
      (stmt_done setting (tree.While condition body) store)
      (while_ok setting condition body store
      (λ after. Same setting.fields writes store.variables after.variables)
      closed.1 (looped_holds
      (λ s. Same setting.fields writes store.variables s.variables) (λ s n h. h) (suc turn_limit)
      (value_of setting condition) (inside (stmt_done setting body))
      (λ s h. value_holds setting
      (λ t. Same setting.fields writes store.variables t.variables) writes
      (same_holding setting writes store.variables) condition s
      (λ name e. or_first (expr_writes name condition) _ e) h)
      (λ s h. inside_after setting.fields writes (λ name. stmt_writes name body)
      (names_after (scope_of s.variables) body) store.variables (stmt_done setting body) s
      (λ name e. or_second (expr_writes name condition) _ e)
      (stmt_keeps setting body names s (closed.0.1, closed.1)) h)
      store (same_refl setting.fields writes store.variables)))
  stmt_keeps setting (tree.For first condition step body) names store closed =
      let advance : List ℕ → Bool = λ name. option_writes name condition
      || (stmt_writes name step || stmt_writes name body) in
      let writes : List ℕ → Bool = λ name. stmt_writes name (tree.For first condition step body) in
      let loop : Store → Result Store Cause =
      looped (suc turn_limit) (condition_value setting condition)
      (λ turn. result_and_then (inside (stmt_done setting body) turn)
      (inside (stmt_done setting step))) in
      let parts = plain_parts names first condition step body closed in
      plain setting.fields writes store.variables (stmt_done setting
      (tree.For first condition step body) store) (for_ok setting first condition step body store
      (λ after. Same setting.fields writes store.variables after.variables)
      parts.2.1
      (inside_same setting.fields writes writes (λ outer. result_and_then
      (stmt_done setting first outer) loop) store (λ name e. e)
      (then_ok (stmt_done setting first store) loop
      (λ begun. Done setting.fields (λ name. stmt_writes name first)
      (names_after (scope_of store.variables) first) store.variables begun.variables)
      (λ after. Grown setting.fields writes store.variables after.variables)
      (stmt_keeps setting first names store parts.0)
      (λ begun h.
      IfOk-weaker (loop begun)
      (λ after. Same setting.fields advance begun.variables after.variables) _
      (λ after k. grown_then setting.fields writes (λ name. stmt_writes name first) advance
      (λ name. shadows name first) store.variables begun.variables after.variables
      (λ name e. or_first (stmt_writes name first) _ e)
      (λ name e f. unless_shadowed (shadows name first) (advance name)
      (or_second (stmt_writes name first) _ e) f)
      (subst (Bares (λ name. shadows name first) (scope_of store.variables)) (sym h.exact)
      (stmt_bares first (scope_of store.variables))) h.grown
      (grown_same setting.fields advance begun.variables after.variables k))
      (turns_same setting condition advance (λ name. stmt_writes name step)
      (λ name. stmt_writes name body) (stmt_done setting step) (stmt_done setting body)
      (λ s. names_after (scope_of s.variables) step)
      (λ s. names_after (scope_of s.variables) body)
      (λ name e. or_first (option_writes name condition) _ e)
      (λ name e. or_first (stmt_writes name step) _
      (or_second (option_writes name condition) _ e))
      (λ name e. or_second (stmt_writes name step) _
      (or_second (option_writes name condition) _ e))
      (λ s. stmt_keeps setting step (names_after names first) s parts.1)
      (λ s. stmt_keeps setting body (names_after names first) s parts.2) begun)))))
  stmt_keeps setting (tree.Push value) names store closed =
      plain setting.fields (λ name. expr_writes name value) store.variables
      (stmt_done setting (tree.Push value) store)
      (used_same setting value store _
      (λ given. then_ok (pushed_to setting.port given.0 given.1.traffic) _
      (λ traffic. Unit {0}) (λ after. after.variables ≡ given.1.variables)
      (any_ok (pushed_to setting.port given.0 given.1.traffic)) (λ traffic _. refl)))
  stmt_keeps setting (tree.Print value) names store closed =
      plain setting.fields (λ name. expr_writes name value) store.variables
      (stmt_done setting (tree.Print value) store) (used_same setting value store _
      (λ given. refl))
  stmt_keeps setting (tree.Println value) names store closed =
      plain setting.fields (λ name. expr_writes name value) store.variables
      (stmt_done setting (tree.Println value) store) (used_same setting value store _
      (λ given. refl))

  pub stmts_keep : (setting : Setting)
      (s : tree.Stmts) (names : Scope) (store : Store)
      → ArePlain names s → IfOk (stmts_done setting s store)
      (λ after. Grown setting.fields (λ name. stmts_write name s) store.variables after.variables)
  stmts_keep setting tree.Done names store closed =
      grown_same setting.fields _ store.variables store.variables
      (same_refl setting.fields _ store.variables)
  stmts_keep setting (tree.Then first rest) names store closed =
      let writes : List ℕ → Bool = λ name. stmts_write name (tree.Then first rest) in
      let parts = plain_then names first rest closed in
      block_ok setting first rest store (λ after. Grown setting.fields writes store.variables
      after.variables) parts.0.1
      (then_ok (stmt_done setting first store) (stmts_done setting rest)
      (λ middle. Done setting.fields (λ name. stmt_writes name first)
      (names_after (scope_of store.variables) first) store.variables middle.variables)
      (λ after. Grown setting.fields writes store.variables after.variables)
      (stmt_keeps setting first names store parts.0)
      (λ middle h.
      IfOk-weaker (stmts_done setting rest middle)
      (λ after. Grown setting.fields
      (λ name. stmts_write name rest) middle.variables after.variables) _
      (λ after k. grown_then setting.fields writes (λ name. stmt_writes name first)
      (λ name. stmts_write name rest)
      (λ name. shadows name first) store.variables middle.variables after.variables
      (λ name e. or_first (stmt_writes name first) _ e)
      (λ name e f. unless_shadowed (shadows name first) (stmts_write name rest)
      (or_second (stmt_writes name first) _ e) f)
      (subst (Bares (λ name. shadows name first) (scope_of store.variables)) (sym h.exact)
      (stmt_bares first (scope_of store.variables))) h.grown k)
      (stmts_keep setting rest (names_after names first) middle parts.1)))
