-- How a counted loop runs: in each turn its variable has moved by as much again, and after its
-- turns the loop ends.
use Rattle.std.proofs.Common.{◌≡◌, refl, sym, subst, ◌∙◌, ap, ℕ, zero, suc, ◌+◌, ◌<◌, ◌≤◌, ℤ, pos}
use Rattle.std.proofs.Common.{◌||◌, ◌+ℤ◌, Bool, true, false, cond, List, [], ◌∷◌, length, get_or}
use Rattle.std.proofs.Common.{Option}
use Rattle.std.proofs.Common.{Some, None, Result, Ok, Err, ⊎_elim, arith}
use Rattle.std.specs.Prelude.{nat_lt, if◌then◌else◌}
use Rattle.std.specs.Option.{IfSome, option_and_then, option_map}
use Rattle.std.specs.Result.{IfOk}
use Rattle.std.proofs.lemmas.Option.{IfSome_then}
use Rattle.std.proofs.lemmas.Result.{IfOk-weaker}
use Rattle.std.proofs.lemmas.Bool.{cases_lt}
use Rattle.strc_lex_names.specs.Results.{result_and_then}
use Rattle.strc_parse_tree.specs.Tree as tree
use Rattle.strc_parse_tree.specs.declared.tree.AssignOperator.{AssignOperator}
use Rattle.strc_parse_tree.specs.declared.tree.AssignOperator.TheVariants as assign
use Rattle.strc_work_meaning.specs.declared.fault.Cause.{Cause}
use Rattle.strc_work_meaning.specs.declared.fault.Cause.TheVariants.{Turns}
use Rattle.strc_work_meaning.specs.Arithmetic.{wrapped, truth, is_true}
use Rattle.strc_lex_names.specs.Names.{has_name}
use Rattle.strc_work_meaning.specs.Scoping.{Scope, size_of, names_after, is_declared}
use Rattle.strc_rate.proofs.Unreturned.{IsPlain}
use Rattle.strc_work_meaning.specs.Firing.{Setting, Traffic, Store, cells_named, with_cell}
use Rattle.strc_work_meaning.specs.Firing.{value_in}
use Rattle.strc_work_meaning.specs.Firing.{assigned, declared_in, value_of, initial_cells}
use Rattle.strc_work_meaning.specs.Firing.{condition_value, turned, turn_limit, looped, inside}
use Rattle.strc_work_meaning.specs.Firing.{block_left, stmt_done}
use Rattle.strc_rate.proofs.Scopes.{scope_of, scope_of-with_cell}
use Rattle.strc_rate_intervals.specs.Constant.{constant}
use Rattle.strc_rate_intervals.specs.declared.loops.Bound.{Bound}
use Rattle.strc_rate_intervals.specs.Loops.{First, Loop, bound_of, move_of, first_declared}
use Rattle.strc_work_writes.specs.LocalWrites.{Locals}
use Rattle.strc_rate_intervals.specs.Loops.{first_assigned, first_of, loop_of, counted_from}
use Rattle.strc_rate_intervals.specs.Loops.{counted_loop}
use Rattle.strc_rate_intervals.specs.Loops.{value_after}
use Rattle.strc_work_writes.specs.LocalWrites.{stmt_writes}
use Rattle.strc_rate.specs.Turns.{TurnsAreLeast}
use Rattle.strc_rate.proofs.Results.{then_ok, both_ok, done_ok, ok_known, below, below_all}
use Rattle.strc_rate.proofs.Results.{above, above_more}
use Rattle.strc_rate.proofs.Keeping.{one_name, Same, same_size, same_cells}
use Rattle.strc_rate.proofs.Unwritten.{Done, inside_same, stmt_keeps}
use Rattle.strc_rate.proofs.LoopTurns.{compares, Turning, loop_sound}
use Rattle.strc_rate.proofs.LoopParts.{constant_done, cells_sized, assigned_is, Seen, seen_sized}
use Rattle.strc_rate.proofs.LoopParts.{seen_room, seen_inner}
use Rattle.strc_rate.proofs.LoopParts.{Bounds, bounds_sound, Steps, step_sound}

-- ---- the first part

-- a variable with a cell, which is no field, has this value
pub record HasValue (fields : ℕ) (name : List ℕ) (value : ℤ) (store : Store) : Type 0 where
  pub inner : is_declared (above fields (scope_of store.variables)) name ≡ true
  pub value_is : value_in store name ≡ value
  pub some : 1 ≤ length (cells_named store.variables name)

-- what the first part does: the variable has its first value
abbrev pub Begins : Locals → tree.Stmt → First → Type 0
Begins locals s first =
    (setting : Setting) (store : Store) → Seen setting.fields locals (scope_of store.variables)
    → IfOk (stmt_done setting s store) (HasValue setting.fields first.name first.value)

-- a variable's first value, where it is known
abbrev valued : List ℕ → Option ℤ → Option First
valued name value = option_map (λ v. record { name = name; value = v }) value

declared_first : (fields : ℕ) (name : List ℕ) (value : ℤ) (store : Store)
    → fields ≤ length (scope_of store.variables)
    → HasValue fields name value (declared_in store name (value ∷ []))
declared_first fields name value store room =
    let same = one_name name name refl in
    let scope = scope_of store.variables in
    record {
      inner = ap (λ s. is_declared s name)
          (above_more fields (record { 0 = name; 1 = 1 }) scope room)
          ∙ ap (λ t. t || is_declared (above fields scope) name) same;
      value_is = ap (λ t. get_or (cond t (value ∷ []) (cells_named store.variables name)) 0 (pos 0))
          same;
      some = subst (λ t. 1 ≤ length (cond t (value ∷ []) (cells_named store.variables name)))
          (sym same) (omega arith);
    }

declared_by : (locals : Locals) (only : tree.Variable) (initial : tree.Expr) (given : Option ℤ)
    → only.initial ≡ Some initial → constant initial ≡ given
    → IfSome (valued only.name given) (Begins locals (tree.Declare tree.Int (only ∷ [])))
declared_by locals only initial None is known = tt
declared_by locals only initial (Some value) is known =
    λ setting store seen.
    let go : List ℤ × Store → Result Store Cause =
    λ given. Ok (declared_in given.1 only.name given.0) in
    let cells : initial_cells setting 1 only.initial store ≡ Ok (value ∷ [], store) =
    ap (λ i. initial_cells setting 1 i store) is
    ∙ ap (λ r. result_and_then {B = List ℤ × Store} r (λ given. Ok (given.0 ∷ [], given.1)))
    (constant_done setting initial store value known) in
    ok_known (stmt_done setting (tree.Declare tree.Int (only ∷ [])) store)
    (declared_in store only.name (value ∷ [])) (HasValue setting.fields only.name value)
    (ap (λ r. result_and_then r go) cells) (declared_first setting.fields only.name value store
    (seen_room setting.fields locals (scope_of store.variables) seen))

declared_sound : (locals : Locals) (only : tree.Variable) (initial : Option tree.Expr)
    → only.initial ≡ initial → IfSome (valued only.name (option_and_then constant initial))
    (Begins locals (tree.Declare tree.Int (only ∷ [])))
declared_sound locals only None is = tt
declared_sound locals only (Some initial) is =
    declared_by locals only initial (constant initial) is refl

assigned_first : (fields : ℕ) (locals : Locals) (name : List ℕ) (value : ℤ) (store : Store)
    → Seen fields locals (scope_of store.variables) → has_name locals name ≡ true
    → HasValue fields name value (assigned store name value)
assigned_first fields locals name value store seen named =
    let sized : 1 ≤ size_of (scope_of store.variables) name =
    seen_sized fields locals (scope_of store.variables) name seen named in
    let before : length (cells_named store.variables name) ≡ size_of (scope_of store.variables) name
    = cells_sized store.variables name in
    let after : length (cells_named (with_cell store.variables name 0 value) name)
    ≡ size_of (scope_of store.variables) name =
    cells_sized (with_cell store.variables name 0 value) name
    ∙ ap (λ s. size_of s name) (scope_of-with_cell store.variables name 0 value) in
    record {
      inner = ap (λ s. is_declared (above fields s) name)
          (scope_of-with_cell store.variables name 0 value)
          ∙ seen_inner fields locals (scope_of store.variables) name seen named;
      value_is = assigned_is store.variables name value (omega arith);
      some = omega arith;
    }

assigned_by : (locals : Locals) (name : List ℕ) (e : tree.Expr) (t : Bool) (given : Option ℤ)
    → has_name locals name ≡ t → constant e ≡ given
    → IfSome (if t then valued name given else None) (Begins locals (tree.Assign name assign.Set e))
assigned_by locals name e false given named known = tt
assigned_by locals name e true None named known = tt
assigned_by locals name e true (Some value) named known =
    λ setting store seen.
    ok_known (stmt_done setting (tree.Assign name assign.Set e) store) (assigned store name value)
    (HasValue setting.fields name value)
    (ap (λ r. result_and_then r (λ given. Ok (assigned given.1 name given.0)))
    (constant_done setting e store value known))
    (assigned_first setting.fields locals name value store seen named)

first_assigned_sound : (locals : Locals) (name : List ℕ) (operator : AssignOperator) (e : tree.Expr)
    → IfSome (first_assigned locals name operator e) (Begins locals (tree.Assign name operator e))
first_assigned_sound locals name assign.Set e =
    assigned_by locals name e (has_name locals name) (constant e) refl refl
first_assigned_sound locals name assign.Add e = tt
first_assigned_sound locals name assign.Subtract e = tt
first_assigned_sound locals name assign.Multiply e = tt
first_assigned_sound locals name assign.Divide e = tt
first_assigned_sound locals name assign.Remainder e = tt

first_declared_sound : (locals : Locals) (kind : tree.VariableType) (variables : List tree.Variable)
    → IfSome (first_declared kind variables) (Begins locals (tree.Declare kind variables))
first_declared_sound locals tree.Boolean variables = tt
first_declared_sound locals (tree.Array size) variables = tt
first_declared_sound locals tree.Int [] = tt
first_declared_sound locals tree.Int (only ∷ []) = declared_sound locals only only.initial refl
first_declared_sound locals tree.Int (first ∷ second ∷ rest) = tt

first_sound : (locals : Locals) (s : tree.Stmt) → IfSome (first_of locals s) (Begins locals s)
first_sound locals (tree.Declare kind variables) = first_declared_sound locals kind variables
first_sound locals (tree.Assign name operator value) =
    first_assigned_sound locals name operator value
first_sound locals tree.Empty = tt
first_sound locals (tree.Compose statement) = tt
first_sound locals (tree.Block body) = tt
first_sound locals (tree.Evaluate value) = tt
first_sound locals (tree.AssignElement array index operator value) = tt
first_sound locals (tree.If condition chosen) = tt
first_sound locals (tree.IfElse condition chosen other) = tt
first_sound locals (tree.While condition body) = tt
first_sound locals (tree.For first condition step body) = tt
first_sound locals (tree.Push value) = tt
first_sound locals (tree.Print value) = tt
first_sound locals (tree.Println value) = tt
first_sound locals (tree.Return value) = tt

-- ---- the loop

-- what is known of a counted loop
pub record Known (locals : Locals) (first : tree.Stmt) (condition : Option tree.Expr)
    (step body : tree.Stmt) (loop : Loop) : Type 0 where
  pub begins : Begins locals first (record { name = loop.name; value = loop.start })
  pub unwritten : stmt_writes loop.name body ≡ false
  pub bound : Bound
  pub tests : (setting : Setting) (store : Store)
      → condition_value setting condition store
      ≡ Ok (truth (compares bound.operator (value_in store loop.name) bound.limit), store)
  pub steps : Steps loop.name step loop.move
  pub turning : Turning bound loop.move loop

known_by_move : (locals : Locals) (s : tree.Stmt) (condition : tree.Expr) (step body : tree.Stmt)
    (first : First) (bound : Bound) (move : Option ℤ) → Begins locals s first
    → stmt_writes first.name body ≡ false → Bounds first.name condition bound
    → IfSome move (Steps first.name step)
    → IfSome (option_and_then (loop_of first bound) move)
    (Known locals s (Some condition) step body)
known_by_move locals s condition step body first bound None begins unwritten bounds steps = tt
known_by_move locals s condition step body first bound (Some move) begins unwritten bounds steps =
    IfSome_then (loop_of first bound move) (loop_sound first bound move bounds.0) (λ loop reported.
    let name = sym reported.name in
    let by_move = sym reported.turning.moves in
    record {
      begins = subst (λ n. Begins locals s (record { name = n; value = loop.start })) name
          (subst (λ v. Begins locals s (record { name = first.name; value = v }))
          (sym reported.start) begins);
      unwritten = subst (λ n. stmt_writes n body ≡ false) name unwritten;
      bound = bound;
      tests = subst (λ n. (setting : Setting) (store : Store)
          → value_of setting condition store
          ≡ Ok (truth (compares bound.operator (value_in store n) bound.limit), store)) name
          bounds.1;
      steps = subst (λ n. Steps n step loop.move) name
          (subst (Steps first.name step) by_move steps);
      turning = subst (λ m. Turning bound m loop) by_move reported.turning;
    })

known_by_bound : (locals : Locals) (s : tree.Stmt) (condition : tree.Expr) (step body : tree.Stmt)
    (first : First) (bound : Option Bound) → Begins locals s first
    → stmt_writes first.name body ≡ false → IfSome bound (Bounds first.name condition)
    → IfSome (option_and_then (λ bound. option_and_then (loop_of first bound)
    (move_of first.name step)) bound) (Known locals s (Some condition) step body)
known_by_bound locals s condition step body first None begins unwritten bounds = tt
known_by_bound locals s condition step body first (Some bound) begins unwritten bounds =
    known_by_move locals s condition step body first bound
    (move_of first.name step) begins unwritten bounds (step_sound first.name step)

known_by_test : (locals : Locals) (s : tree.Stmt) (condition : Option tree.Expr)
    (step body : tree.Stmt) (first : First) (t : Bool) → stmt_writes first.name body ≡ t
    → Begins locals s first → IfSome (if t then None else option_and_then
    (λ bound. option_and_then (loop_of first bound) (move_of first.name step))
    (option_and_then (bound_of first.name) condition)) (Known locals s condition step body)
known_by_test locals s condition step body first true e begins = tt
known_by_test locals s None step body first false e begins = tt
known_by_test locals s (Some condition) step body first false e begins =
    known_by_bound locals s condition step body first (bound_of first.name condition) begins e
    (bounds_sound first.name condition)

known_by_first : (locals : Locals) (s : tree.Stmt) (condition : Option tree.Expr)
    (step body : tree.Stmt) (first : Option First) → IfSome first (Begins locals s)
    → IfSome (counted_from first condition step body) (Known locals s condition step body)
known_by_first locals s condition step body None begins = tt
known_by_first locals s condition step body (Some first) begins =
    known_by_test locals s condition step body first (stmt_writes first.name body) refl begins

-- a loop that is known from the text is such a loop
pub loop_known : (locals : Locals) (s : tree.Stmt) (condition : Option tree.Expr)
    (step body : tree.Stmt) → IfSome (counted_loop locals s condition step body)
    (Known locals s condition step body)
loop_known locals s condition step body =
    known_by_first locals s condition step body (first_of locals s) (first_sound locals s)

-- the condition's value in a turn, and after the last
module _ {locals : Locals} {s : tree.Stmt} {condition : Option tree.Expr} {step body : tree.Stmt}
    {loop : Loop} (known : Known locals s condition step body loop) (setting : Setting)
    (store : Store) (t : ℕ) (is : value_in store loop.name ≡ value_after loop t) where
  pub test_holds : t < loop.turns → condition_value setting condition store ≡ Ok (truth true, store)
  test_holds lt =
      known.tests setting store ∙ ap (λ v. Ok
      (truth (compares known.bound.operator v known.bound.limit), store)) is
      ∙ ap (λ b. Ok (truth b, store)) (known.turning.holds t lt)

  pub test_ends : t ≡ loop.turns → condition_value setting condition store ≡ Ok (truth false, store)
  test_ends e =
      known.tests setting store ∙ ap (λ v. Ok
      (truth (compares known.bound.operator v known.bound.limit), store))
      (is ∙ ap (value_after loop) e)
      ∙ ap (λ b. Ok (truth b, store)) known.turning.ends

pub turns_least : TurnsAreLeast
turns_least locals first condition step body =
    IfSome_then (counted_loop locals first condition step body)
    (loop_known locals first condition step body)
    (λ loop known setting store turns is. (
      test_holds known setting store turns is,
      test_ends known setting store turns is,
    ))

-- ---- its turns

-- a variable has a cell, and is no field
abbrev pub HasPlace : (fields : ℕ) → Scope → List ℕ → Type 0
HasPlace fields scope name =
    (1 ≤ size_of scope name) × (is_declared (above fields scope) name ≡ true)

-- what a step does in a scope of its own
pub step_inside : (name : List ℕ) (s : tree.Stmt) (move : ℤ) (setting : Setting) (store : Store)
    → Steps name s move → 1 ≤ length (cells_named store.variables name)
    → IfOk (inside (stmt_done setting s) store)
    (λ after. (value_in after name ≡ wrapped (value_in store name +ℤ move))
    × (after.traffic ≡ store.traffic) × (scope_of after.variables ≡ scope_of store.variables))
step_inside name s move setting store steps some =
    let value = wrapped (value_in store name +ℤ move) in
    let variables = with_cell store.variables name 0 value in
    let shape : scope_of variables ≡ scope_of store.variables =
    scope_of-with_cell store.variables name 0 value in
    let size : length variables ≡ length store.variables =
    same_size store.variables variables shape in
    let whole : below (length store.variables) variables ≡ variables =
    ap (λ k. below k variables) (sym size) ∙ below_all variables in
    done_ok (stmt_done setting s store) (assigned store name value)
    (λ inner. Ok (block_left store inner))
    (λ after. (value_in after name ≡ value) × (after.traffic ≡ store.traffic)
    × (scope_of after.variables ≡ scope_of store.variables)) (steps setting store) (
      ap (λ v. get_or (cells_named v name) 0 (pos 0)) whole
          ∙ assigned_is store.variables name value some,
      refl,
      ap scope_of whole ∙ shape,
    )

-- what holds whatever number of turns was made
turned_more : (P : Traffic → Type 0) (store : Store)
    → ((n : ℕ) → P (record store.traffic { turns = n }))
    → IfOk (turned store) (λ after. (after.variables ≡ store.variables) × P after.traffic)
turned_more P store h = by_test (nat_lt store.traffic.turns turn_limit)
  where
    by_test : (t : Bool) → IfOk (result_and_then
        (if t then Ok (record store.traffic { turns = store.traffic.turns + 1 }) else Err Turns)
        (λ traffic. Ok (record store { traffic = traffic })))
        (λ after. (after.variables ≡ store.variables) × P after.traffic)
    by_test true = (refl, h (store.traffic.turns + 1))
    by_test false = tt

module _ {locals : Locals} {first : tree.Stmt} {condition : Option tree.Expr}
    {step body : tree.Stmt} {loop : Loop} (known : Known locals first condition step body loop)
    (setting : Setting) (names scope : Scope) (closed : IsPlain names body)
    (sized : HasPlace setting.fields scope loop.name) (P : ℕ → Traffic → Type 0)
    (moved : (t : ℕ) (traffic : Traffic) (n : ℕ) → P t traffic → P t (record traffic { turns = n }))
    (bodies : (t : ℕ) (store : Store) → t < loop.turns → scope_of store.variables ≡ scope
    → value_in store loop.name ≡ value_after loop t → P t store.traffic
    → IfOk (inside (stmt_done setting body) store) (λ after. P (t + 1) after.traffic)) where
  -- the store where a turn begins
  pub record At (t : ℕ) (store : Store) : Type 0 where
    pub shape : scope_of store.variables ≡ scope
    pub value : value_in store loop.name ≡ value_after loop t
    pub so_far : P t store.traffic

  has_cell : (store : Store) → scope_of store.variables ≡ scope
      → 1 ≤ length (cells_named store.variables loop.name)
  has_cell store shape =
      let size : length (cells_named store.variables loop.name) ≡ size_of scope loop.name =
      cells_sized store.variables loop.name ∙ ap (λ s. size_of s loop.name) shape in
      omega (arith, sized.0)

  -- the body and then the step
  pub turn_at : (t : ℕ) (store : Store) → t < loop.turns → At t store
      → IfOk (result_and_then (inside (stmt_done setting body) store)
      (inside (stmt_done setting step))) (At (t + 1))
  turn_at t store lt at =
      let writes : List ℕ → Bool = λ name. stmt_writes name body in
      then_ok (inside (stmt_done setting body) store) (inside (stmt_done setting step))
      (λ after. Same setting.fields writes store.variables after.variables
      × P (t + 1) after.traffic) (At (t + 1))
      (both_ok (inside (stmt_done setting body) store)
      (λ after. Same setting.fields writes store.variables after.variables)
      (λ after. P (t + 1) after.traffic)
      (inside_same setting.fields writes writes (stmt_done setting body) store (λ name e. e)
      (IfOk-weaker (stmt_done setting body store)
      (λ after. Done setting.fields writes (names_after (scope_of store.variables) body)
      store.variables after.variables) _ (λ after k. k.grown)
      (stmt_keeps setting body names store closed)))
      (bodies t store lt at.shape at.value at.so_far))
      (λ middle h.
      let shape : scope_of middle.variables ≡ scope = h.0.shape ∙ at.shape in
      let value : value_in middle loop.name ≡ value_after loop t =
      ap (λ c. get_or c 0 (pos 0)) (same_cells setting.fields writes store.variables
      middle.variables loop.name h.0
      (ap (λ s. is_declared (above setting.fields s) loop.name) at.shape ∙ sized.1)
      known.unwritten) ∙ at.value in
      IfOk-weaker (inside (stmt_done setting step) middle)
      (λ after. (value_in after loop.name ≡ wrapped (value_in middle loop.name +ℤ loop.move))
      × (after.traffic ≡ middle.traffic)
      × (scope_of after.variables ≡ scope_of middle.variables)) _
      (λ after k. record {
        shape = k.2 ∙ shape;
        value = k.0 ∙ ap (λ v. wrapped (v +ℤ loop.move)) value ∙ known.turning.steps t lt;
        so_far = subst (P (t + 1)) (sym k.1) h.1;
      })
      (step_inside loop.name step loop.move setting middle known.steps (has_cell middle shape)))

  -- a loop that has come to a turn ends after its last one
  pub loop_from : (fuel t : ℕ) (store : Store) → t ≤ loop.turns → At t store
      → IfOk (looped fuel (condition_value setting condition)
      (λ turn. result_and_then (inside (stmt_done setting body) turn)
      (inside (stmt_done setting step))) store) (At loop.turns)
  loop_from zero t store le at = tt
  loop_from (suc fuel) t store le at =
      let test = condition_value setting condition in
      let turn : Store → Result Store Cause =
      λ turning. result_and_then (inside (stmt_done setting body) turning)
      (inside (stmt_done setting step)) in
      let go : ℤ × Store → Result Store Cause =
      λ tested. cond (is_true tested.0)
      (result_and_then (turned tested.1)
      (λ turning. result_and_then (turn turning) (looped fuel test turn))) (Ok tested.1) in
      ⊎_elim
      (λ (lt : t < loop.turns).
      done_ok (test store) (truth true, store) go (At loop.turns)
      (test_holds known setting store t at.value lt)
      (then_ok (turned store) (λ turning. result_and_then (turn turning) (looped fuel test turn))
      (λ turning. (turning.variables ≡ store.variables) × P t turning.traffic) (At loop.turns)
      (turned_more (P t) store (λ n. moved t store.traffic n at.so_far))
      (λ turning h.
      then_ok (turn turning) (looped fuel test turn) (At (t + 1)) (At loop.turns)
      (turn_at t turning lt (record {
        shape = ap scope_of h.0 ∙ at.shape;
        value = ap (λ v. get_or (cells_named v loop.name) 0 (pos 0)) h.0 ∙ at.value;
        so_far = h.1;
      }))
      (λ next k. loop_from fuel (t + 1) next (omega arith) k))))
      (λ (ge : loop.turns ≤ t).
      let last : t ≡ loop.turns = omega arith in
      done_ok (test store) (truth false, store) go (At loop.turns)
      (test_ends known setting store t at.value last)
      (subst (λ n. At n store) last at))
      (cases_lt t loop.turns)
