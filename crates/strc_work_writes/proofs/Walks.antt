-- One walk over a text, beside the tables of the names, tells whether it writes one of the fields.
use Rattle.std.proofs.Common.{◌≡◌, refl, sym, ◌∙◌, ap, ℕ, Bool, true, false, not, ◌&&◌, ◌||◌, List}
use Rattle.std.proofs.Common.{[], ◌∷◌, ◌++◌, Option, Some, None, cond}
use Rattle.std.specs.Prelude.{bytes_eq}
use Rattle.std.proofs.lemmas.Slice.Eq.{bytes_eq-Decides}
use Rattle.strc_lex_names.specs.Names.{has_name}
use Rattle.strc_parse_tree.specs.Tree as tree
use Rattle.strc_work_meaning.specs.Filters.{field_names, declared_names}
use Rattle.strc_work_writes.specs.LocalWrites.{Locals, with_locals, locals_after, declares, shadows}
use Rattle.strc_work_writes.specs.LocalWrites.{expr_writes, exprs_write, option_writes}
use Rattle.strc_work_writes.specs.LocalWrites.{variables_write}
use Rattle.strc_work_writes.specs.LocalWrites.{stmt_writes, stmts_write}
use Rattle.strc_work_writes.specs.Stateless.{write_one_of, not_shadowed}
use Rattle.strc_work_writes.specs.Walk.{with_fields, is_field, expr_writes_field, exprs_write_field}
use Rattle.strc_work_writes.specs.Walk.{option_writes_field, variables_write_field}
use Rattle.strc_work_writes.specs.Walk.{stmt_writes_field, stmts_write_field}
use Rattle.strc_work_writes.specs.Writers.{with_parameters}

-- ---- truth values

or_false : (a : Bool) → (a || false) ≡ a
or_false true = refl
or_false false = refl

and_false : (a : Bool) → (a && false) ≡ false
and_false true = refl
and_false false = refl

or_moved : (a b c : Bool) → (a || (b || c)) ≡ ((b || a) || c)
or_moved true true c = refl
or_moved true false c = refl
or_moved false true c = refl
or_moved false false c = refl

or_mixed : (h a b left right : Bool)
    → ((h && (a || b)) || (left || right)) ≡ (((h && a) || left) || ((h && b) || right))
or_mixed false a b left right = refl
or_mixed true true b left right = refl
or_mixed true false true true right = refl
or_mixed true false true false right = refl
or_mixed true false false left right = refl

not_either : (a b t : Bool) → (not (a || b) && t) ≡ (not b && (not a && t))
not_either true b t = sym (and_false (not b))
not_either false b t = refl

not_first : (a b t : Bool) → (not a && (not b && t)) ≡ (not (a || b) && t)
not_first true b t = refl
not_first false b t = refl

-- ---- tests of fields that no local variable shadows

abbrev some_field : (fields : List (List ℕ)) → Locals → (List ℕ → Bool) → Bool
some_field [] locals test = false
some_field (name ∷ rest) locals test =
    (not (has_name locals name) && test name) || some_field rest locals test

some_none : (fields : List (List ℕ)) (locals : Locals)
    → false ≡ some_field fields locals (λ name. false)
some_none [] locals = refl
some_none (name ∷ rest) locals =
    some_none rest locals
    ∙ sym (ap (λ t. t || some_field rest locals (λ name. false))
    (and_false (not (has_name locals name))))

some_same : (fields : List (List ℕ)) (locals : Locals) (a b : List ℕ → Bool)
    → ((name : List ℕ) → a name ≡ b name)
    → some_field fields locals a ≡ some_field fields locals b
some_same [] locals a b same = refl
some_same (name ∷ rest) locals a b same =
    ap (λ t. (not (has_name locals name) && t) || some_field rest locals a) (same name)
    ∙ ap (λ t. (not (has_name locals name) && b name) || t) (some_same rest locals a b same)

some_or : (fields : List (List ℕ)) (locals : Locals) (a b : List ℕ → Bool)
    → some_field fields locals (λ name. a name || b name)
    ≡ (some_field fields locals a || some_field fields locals b)
some_or [] locals a b = refl
some_or (name ∷ rest) locals a b =
    ap (λ t. (not (has_name locals name) && (a name || b name)) || t) (some_or rest locals a b)
    ∙ or_mixed (not (has_name locals name)) (a name) (b name) (some_field rest locals a)
    (some_field rest locals b)

-- two parts of a text
both : (fields : List (List ℕ)) (locals : Locals) (a b : List ℕ → Bool) (first second : Bool)
    → first ≡ some_field fields locals a → second ≡ some_field fields locals b
    → (first || second) ≡ some_field fields locals (λ name. a name || b name)
both fields locals a b first second e f =
    ap (λ t. t || second) e ∙ ap (λ t. some_field fields locals a || t) f
    ∙ sym (some_or fields locals a b)

-- one more local variable
some_shadowed : (fields : List (List ℕ)) (locals : Locals) (shadowing : List ℕ)
    (test : List ℕ → Bool) → some_field fields (shadowing ∷ locals) test
    ≡ some_field fields locals (λ name. not (bytes_eq shadowing name) && test name)
some_shadowed [] locals shadowing test = refl
some_shadowed (name ∷ rest) locals shadowing test =
    ap (λ t. t || some_field rest (shadowing ∷ locals) test)
    (not_either (bytes_eq shadowing name) (has_name locals name) (test name))
    ∙ ap (λ t. (not (has_name locals name) && (not (bytes_eq shadowing name) && test name)) || t)
    (some_shadowed rest locals shadowing test)

some_declared : (fields : List (List ℕ)) (locals : Locals) (variables : List tree.Variable)
    (test : List ℕ → Bool) → some_field fields (with_locals locals variables) test
    ≡ some_field fields locals (λ name. not (declares name variables) && test name)
some_declared fields locals [] test = refl
some_declared fields locals (first ∷ rest) test =
    some_declared fields (first.name ∷ locals) rest test
    ∙ some_shadowed fields locals first.name (λ name. not (declares name rest) && test name)
    ∙ some_same fields locals
    (λ name. not (bytes_eq first.name name) && (not (declares name rest) && test name))
    (λ name. not (declares name (first ∷ rest)) && test name)
    (λ name. not_first (bytes_eq first.name name) (declares name rest) (test name))

-- the local variables after a statement
some_after : (fields : List (List ℕ)) (locals : Locals) (s : tree.Stmt) (test : List ℕ → Bool)
    → some_field fields (locals_after locals s) test
    ≡ some_field fields locals (λ name. not (shadows name s) && test name)
some_after fields locals (tree.Declare kind variables) test =
    some_declared fields locals variables test
some_after fields locals tree.Empty test = refl
some_after fields locals (tree.Compose statement) test = refl
some_after fields locals (tree.Block body) test = refl
some_after fields locals (tree.Evaluate value) test = refl
some_after fields locals (tree.Assign assigned operator value) test = refl
some_after fields locals (tree.AssignElement array index operator value) test = refl
some_after fields locals (tree.If condition chosen) test = refl
some_after fields locals (tree.IfElse condition chosen other) test = refl
some_after fields locals (tree.While condition body) test = refl
some_after fields locals (tree.For first condition step body) test = refl
some_after fields locals (tree.Push value) test = refl
some_after fields locals (tree.Print value) test = refl
some_after fields locals (tree.Println value) test = refl
some_after fields locals (tree.Return value) test = refl

-- the field of a name
bytes_turned : (a b : List ℕ) → bytes_eq a b ≡ bytes_eq b a
bytes_turned a b = by_test (bytes_eq a b) (bytes_eq b a) refl refl
  where
    by_test : (t u : Bool) → bytes_eq a b ≡ t → bytes_eq b a ≡ u → t ≡ u
    by_test true true e f = refl
    by_test false false e f = refl
    by_test true false e f =
        let yes : bytes_eq b a ≡ true =
        (bytes_eq-Decides b a).1 (sym ((bytes_eq-Decides a b).0 e)) in absurd (cc)
    by_test false true e f =
        let yes : bytes_eq a b ≡ true =
        (bytes_eq-Decides a b).1 (sym ((bytes_eq-Decides b a).0 f)) in absurd (cc)

field_by : (t shadowed shadows found more : Bool) → (t ≡ true → shadowed ≡ shadows)
    → (not shadowed && found) ≡ more → (not shadowed && (t || found)) ≡ ((not shadows && t) || more)
field_by true true shadows found more same e =
    let is : true ≡ shadows = same refl in
    e ∙ ap (λ h. (not h && true) || more) is
field_by true false shadows found more same e =
    let is : false ≡ shadows = same refl in
    ap (λ h. (not h && true) || more) is
field_by false shadowed shadows found more same e =
    e ∙ sym (ap (λ t. t || more) (and_false (not shadows)))

some_named : (fields : List (List ℕ)) (locals : Locals) (sought : List ℕ)
    → is_field fields locals sought ≡ some_field fields locals (λ name. bytes_eq sought name)
some_named [] locals sought = and_false (not (has_name locals sought))
some_named (name ∷ rest) locals sought =
    ap (λ t. not (has_name locals sought) && (t || has_name rest sought))
    (bytes_turned name sought)
    ∙ field_by (bytes_eq sought name) (has_name locals sought) (has_name locals name)
    (has_name rest sought) (some_field rest locals (λ name. bytes_eq sought name))
    (λ e. ap (has_name locals) ((bytes_eq-Decides sought name).0 e)) (some_named rest locals sought)

-- ---- the walk

mutual
  expr_walk : (fields : List (List ℕ)) (locals : Locals) (e : tree.Expr)
      → expr_writes_field fields locals e ≡ some_field fields locals (λ name. expr_writes name e)
  expr_walk fields locals (tree.Number value) = some_none fields locals
  expr_walk fields locals (tree.Truth value) = some_none fields locals
  expr_walk fields locals (tree.Read read) = some_none fields locals
  expr_walk fields locals (tree.Element array index) = expr_walk fields locals index
  expr_walk fields locals tree.Pop = some_none fields locals
  expr_walk fields locals (tree.Peek index) = expr_walk fields locals index
  expr_walk fields locals (tree.Call called arguments) = exprs_walk fields locals arguments
  expr_walk fields locals (tree.Group inner) = expr_walk fields locals inner
  expr_walk fields locals (tree.Unary operator operand) = expr_walk fields locals operand
  expr_walk fields locals (tree.Step operator stepped) = some_named fields locals stepped
  expr_walk fields locals (tree.StepElement operator array index) =
      both fields locals (bytes_eq array) (λ name. expr_writes name index) _ _
      (some_named fields locals array) (expr_walk fields locals index)
  expr_walk fields locals (tree.Binary operator left right) =
      both fields locals (λ name. expr_writes name left) (λ name. expr_writes name right) _ _
      (expr_walk fields locals left) (expr_walk fields locals right)
  expr_walk fields locals (tree.Conditional condition chosen other) =
      both fields locals (λ name. expr_writes name condition)
      (λ name. expr_writes name chosen || expr_writes name other) _ _
      (expr_walk fields locals condition)
      (both fields locals (λ name. expr_writes name chosen) (λ name. expr_writes name other) _ _
      (expr_walk fields locals chosen) (expr_walk fields locals other))

  exprs_walk : (fields : List (List ℕ)) (locals : Locals) (e : tree.Arguments)
      → exprs_write_field fields locals e ≡ some_field fields locals (λ name. exprs_write name e)
  exprs_walk fields locals tree.NoArgument = some_none fields locals
  exprs_walk fields locals (tree.Argument first rest) =
      both fields locals (λ name. expr_writes name first) (λ name. exprs_write name rest) _ _
      (expr_walk fields locals first) (exprs_walk fields locals rest)

option_walk : (fields : List (List ℕ)) (locals : Locals) (value : Option tree.Expr)
    → option_writes_field fields locals value
    ≡ some_field fields locals (λ name. option_writes name value)
option_walk fields locals None = some_none fields locals
option_walk fields locals (Some value) = expr_walk fields locals value

variables_walk : (fields : List (List ℕ)) (locals : Locals) (variables : List tree.Variable)
    → variables_write_field fields locals variables
    ≡ some_field fields locals (λ name. variables_write name variables)
variables_walk fields locals [] = some_none fields locals
variables_walk fields locals (first ∷ rest) =
    both fields locals (λ name. option_writes name first.initial)
    (λ name. not (bytes_eq first.name name) && variables_write name rest) _ _
    (option_walk fields locals first.initial)
    (variables_walk fields (first.name ∷ locals) rest
    ∙ some_shadowed fields locals first.name (λ name. variables_write name rest))

mutual
  stmt_walk : (fields : List (List ℕ)) (locals : Locals) (s : tree.Stmt)
      → stmt_writes_field fields locals s ≡ some_field fields locals (λ name. stmt_writes name s)
  stmt_walk fields locals tree.Empty = some_none fields locals
  stmt_walk fields locals (tree.Compose statement) = some_none fields locals
  stmt_walk fields locals (tree.Block body) = stmts_walk fields locals body
  stmt_walk fields locals (tree.Declare kind variables) = variables_walk fields locals variables
  stmt_walk fields locals (tree.Evaluate value) = expr_walk fields locals value
  stmt_walk fields locals (tree.Assign assigned operator value) =
      both fields locals (bytes_eq assigned) (λ name. expr_writes name value) _ _
      (some_named fields locals assigned) (expr_walk fields locals value)
  stmt_walk fields locals (tree.AssignElement array index operator value) =
      both fields locals (bytes_eq array)
      (λ name. expr_writes name index || expr_writes name value) _ _
      (some_named fields locals array)
      (both fields locals (λ name. expr_writes name index) (λ name. expr_writes name value) _ _
      (expr_walk fields locals index) (expr_walk fields locals value))
  stmt_walk fields locals (tree.If condition chosen) =
      both fields locals (λ name. expr_writes name condition) (λ name. stmt_writes name chosen) _ _
      (expr_walk fields locals condition) (stmt_walk fields locals chosen)
  stmt_walk fields locals (tree.IfElse condition chosen other) =
      both fields locals (λ name. expr_writes name condition)
      (λ name. stmt_writes name chosen || stmt_writes name other) _ _
      (expr_walk fields locals condition)
      (both fields locals (λ name. stmt_writes name chosen) (λ name. stmt_writes name other) _ _
      (stmt_walk fields locals chosen) (stmt_walk fields locals other))
  stmt_walk fields locals (tree.While condition body) =
      both fields locals (λ name. expr_writes name condition) (λ name. stmt_writes name body) _ _
      (expr_walk fields locals condition) (stmt_walk fields locals body)
  stmt_walk fields locals (tree.For first condition step body) =
      let inside : Locals = locals_after locals first in
      both fields locals (λ name. stmt_writes name first)
      (λ name. not (shadows name first) && (option_writes name condition
      || (stmt_writes name step || stmt_writes name body))) _ _
      (stmt_walk fields locals first)
      (both fields inside (λ name. option_writes name condition)
      (λ name. stmt_writes name step || stmt_writes name body) _ _
      (option_walk fields inside condition)
      (both fields inside (λ name. stmt_writes name step) (λ name. stmt_writes name body) _ _
      (stmt_walk fields inside step) (stmt_walk fields inside body))
      ∙ some_after fields locals first (λ name. option_writes name condition
      || (stmt_writes name step || stmt_writes name body)))
  stmt_walk fields locals (tree.Push value) = expr_walk fields locals value
  stmt_walk fields locals (tree.Print value) = expr_walk fields locals value
  stmt_walk fields locals (tree.Println value) = expr_walk fields locals value
  stmt_walk fields locals (tree.Return value) = option_walk fields locals value

  stmts_walk : (fields : List (List ℕ)) (locals : Locals) (s : tree.Stmts)
      → stmts_write_field fields locals s ≡ some_field fields locals (λ name. stmts_write name s)
  stmts_walk fields locals tree.Done = some_none fields locals
  stmts_walk fields locals (tree.Then first rest) =
      both fields locals (λ name. stmt_writes name first)
      (λ name. not (shadows name first) && stmts_write name rest) _ _
      (stmt_walk fields locals first)
      (stmts_walk fields (locals_after locals first) rest
      ∙ some_after fields locals first (λ name. stmts_write name rest))

-- ---- all fields, before any local variable

some_one_of : (fields : List (List ℕ)) (block : tree.Stmts)
    → some_field fields [] (λ name. stmts_write name block) ≡ write_one_of fields block
some_one_of [] block = refl
some_one_of (name ∷ rest) block = ap (λ t. stmts_write name block || t) (some_one_of rest block)

some-append : (first second : List (List ℕ)) (locals : Locals) (test : List ℕ → Bool)
    → some_field (first ++ second) locals test
    ≡ (some_field first locals test || some_field second locals test)
some-append [] second locals test = refl
some-append (name ∷ rest) second locals test =
    ap (λ t. (not (has_name locals name) && test name) || t) (some-append rest second locals test)
    ∙ joined (not (has_name locals name) && test name) (some_field rest locals test)
    (some_field second locals test)
  where
    joined : (a b c : Bool) → (a || (b || c)) ≡ ((a || b) || c)
    joined true b c = refl
    joined false b c = refl

some_added : (names : List (List ℕ)) (variables : List tree.Variable) (locals : Locals)
    (test : List ℕ → Bool) → some_field (with_locals names variables) locals test
    ≡ (some_field (declared_names variables) locals test || some_field names locals test)
some_added names [] locals test = refl
some_added names (first ∷ rest) locals test =
    some_added (first.name ∷ names) rest locals test
    ∙ or_moved (some_field (declared_names rest) locals test)
    (not (has_name locals first.name) && test first.name) (some_field names locals test)

some_of_fields : (names : List (List ℕ)) (members : List tree.Member) (locals : Locals)
    (test : List ℕ → Bool) → some_field (with_fields names members) locals test
    ≡ (some_field (field_names members) locals test || some_field names locals test)
some_of_fields names [] locals test = refl
some_of_fields names (tree.Fields kind variables ∷ rest) locals test =
    some_of_fields (with_locals names variables) rest locals test
    ∙ ap (λ t. some_field (field_names rest) locals test || t)
    (some_added names variables locals test)
    ∙ or_moved (some_field (field_names rest) locals test)
    (some_field (declared_names variables) locals test) (some_field names locals test)
    ∙ ap (λ t. t || some_field names locals test)
    (sym (some-append (declared_names variables) (field_names rest) locals test))
some_of_fields names (tree.Init body ∷ rest) locals test = some_of_fields names rest locals test
some_of_fields names (tree.Prework rates body ∷ rest) locals test =
    some_of_fields names rest locals test
some_of_fields names (tree.Work rates body ∷ rest) locals test =
    some_of_fields names rest locals test
some_of_fields names (tree.Helper kind name parameters body ∷ rest) locals test =
    some_of_fields names rest locals test

-- a walk that begins with the names of all fields
walk_from : (members : List tree.Member) (locals : Locals) (block : tree.Stmts)
    → stmts_write_field (with_fields [] members) locals block
    ≡ some_field (field_names members) locals (λ name. stmts_write name block)
walk_from members locals block =
    stmts_walk (with_fields [] members) locals block
    ∙ some_of_fields [] members locals (λ name. stmts_write name block)
    ∙ or_false (some_field (field_names members) locals (λ name. stmts_write name block))

pub walk_tells : (members : List tree.Member) (block : tree.Stmts)
    → stmts_write_field (with_fields [] members) [] block
    ≡ write_one_of (field_names members) block
walk_tells members block = walk_from members [] block ∙ some_one_of (field_names members) block

-- ---- all fields, after parameters

-- the other fields are those that no local variable shadows
some_shown : (fields : List (List ℕ)) (locals : Locals) (block : tree.Stmts)
    → some_field fields locals (λ name. stmts_write name block)
    ≡ write_one_of (not_shadowed locals fields) block
some_shown [] locals block = refl
some_shown (name ∷ rest) locals block =
    by_shadowed (has_name locals name) (some_shown rest locals block)
  where
    by_shadowed : (shadowed : Bool)
        → some_field rest locals (λ name. stmts_write name block)
        ≡ write_one_of (not_shadowed locals rest) block
        → ((not shadowed && stmts_write name block)
        || some_field rest locals (λ name. stmts_write name block))
        ≡ write_one_of (cond shadowed (not_shadowed locals rest) (name ∷ not_shadowed locals rest))
        block
    by_shadowed true e = e
    by_shadowed false e = ap (λ t. stmts_write name block || t) e

-- what is shadowed is told by which names there are, in whichever order
some_shadowed_alike : (fields : List (List ℕ)) (first second : Locals) (test : List ℕ → Bool)
    → ((name : List ℕ) → has_name first name ≡ has_name second name)
    → some_field fields first test ≡ some_field fields second test
some_shadowed_alike [] first second test same = refl
some_shadowed_alike (name ∷ rest) first second test same =
    ap (λ t. (not t && test name) || some_field rest first test) (same name)
    ∙ ap (λ t. (not (has_name second name) && test name) || t)
    (some_shadowed_alike rest first second test same)

has_parameter : (names parameters : List (List ℕ)) (name : List ℕ)
    → has_name (with_parameters names parameters) name
    ≡ (has_name parameters name || has_name names name)
has_parameter names [] name = refl
has_parameter names (first ∷ rest) name =
    has_parameter (first ∷ names) rest name
    ∙ or_moved (has_name rest name) (bytes_eq first name) (has_name names name)

-- a walk over the block of a helper function begins with its parameters
pub helper_walk_tells : (members : List tree.Member) (parameters : List (List ℕ))
    (block : tree.Stmts)
    → stmts_write_field (with_fields [] members) (with_parameters [] parameters) block
    ≡ write_one_of (not_shadowed parameters (field_names members)) block
helper_walk_tells members parameters block =
    walk_from members (with_parameters [] parameters) block
    ∙ some_shadowed_alike (field_names members) (with_parameters [] parameters) parameters
    (λ name. stmts_write name block)
    (λ name. has_parameter [] parameters name ∙ or_false (has_name parameters name))
    ∙ some_shown (field_names members) parameters block
