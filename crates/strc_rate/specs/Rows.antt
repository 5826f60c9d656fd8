-- Worked rows: filters with a field x and an array of fields a, with one work or more, and with
-- helper functions.
use Rattle.std.specs.Prelude.{◌≡◌, ℕ, pos, true, false, List, [], ◌∷◌, Some, None}
use Rattle.strc_parse_tree.specs.Tree as tree
use Rattle.strc_parse_tree.specs.declared.tree.ItemType.TheVariants as item
use Rattle.strc_parse_tree.specs.declared.tree.HelperType.TheVariants as gives
use Rattle.strc_parse_tree.specs.declared.tree.AssignOperator.TheVariants as assign
use Rattle.strc_parse_tree.specs.declared.tree.StepOperator.TheVariants as step
use Rattle.strc_work_meaning.specs.Filters.{Filter}
use Rattle.strc_work_writes.specs.Stateless.{is_stateless}

-- the bytes of `x` and of `a`
abbrev pub x : List ℕ
x = 120 ∷ []

abbrev pub a : List ℕ
a = 97 ∷ []

abbrev pub one : tree.Expr
one = tree.Number (pos 1)

-- `int x; int[4] a;` and a member
abbrev pub filter_with : tree.Member → List tree.Member → Filter
filter_with member rest = record {
  input = item.Int;
  output = item.Int;
  members = tree.Fields tree.Int (record { name = x; initial = None } ∷ [])
      ∷ tree.Fields (tree.Array (tree.Number (pos 4))) (record { name = a; initial = None } ∷ [])
      ∷ member ∷ rest;
}

-- a filter whose work has these statements
abbrev pub working : List tree.Stmt → Filter
working statements = filter_with (tree.Work [] (tree.row statements)) []

-- `int x = ..;` in a work
abbrev pub local_x : tree.Expr → tree.Stmt
local_x initial = tree.Declare tree.Int (record { name = x; initial = Some initial } ∷ [])

-- `x = 1;`
abbrev pub set_x : tree.Stmt
set_x = tree.Assign x assign.Set one

-- the bytes of `f` and of `g`
abbrev pub f : List ℕ
f = 102 ∷ []

abbrev pub g : List ℕ
g = 103 ∷ []

-- `void name(..) { .. }`
abbrev pub helper : List ℕ → (parameters : List (List ℕ)) → List tree.Stmt → tree.Member
helper name parameters statements = tree.Helper gives.Void name parameters (tree.row statements)

-- `name(1);`
abbrev pub call : List ℕ → tree.Stmt
call name = tree.Evaluate (tree.Call name (tree.Argument one tree.NoArgument))

-- a filter whose work calls `g`, with this helper function before one that calls it: `void g(int y)
-- { f(1); }`
abbrev pub calling : tree.Member → Filter
calling called =
    filter_with called (helper g ((121 ∷ []) ∷ []) (call f ∷ []) ∷ tree.Work []
    (tree.row (call g ∷ [])) ∷ [])

-- which works leave a filter without state
pub record StatelessRows : Type 0 where
  -- `push(x + a[1])`: a field may be read
  pub reads : is_stateless (working (tree.Push (tree.Read x) ∷ tree.Push (tree.Element a one) ∷ []))
      ≡ true
  -- `x = 1;`
  pub writes : is_stateless (working (set_x ∷ [])) ≡ false
  -- `int x = 1; x = 1;`
  pub shadowed : is_stateless (working (local_x one ∷ set_x ∷ [])) ≡ true
  -- `int x = x++;`: an initialiser doesn't see its own variable
  pub own_initial : is_stateless (working (local_x (tree.Step step.IncrementAfter x) ∷ [])) ≡ false
  -- `{ int x = 1; } x = 1;`: a local ends with its block
  pub after_block :
      is_stateless (working (tree.Block (tree.row (local_x one ∷ [])) ∷ set_x ∷ [])) ≡ false
  -- `for (int x = 1; ; x++) x = 1;`: the heading's variable is seen in the loop
  pub heading :
      is_stateless (working (tree.For (local_x one) None
      (tree.Evaluate (tree.Step step.IncrementAfter x)) set_x ∷ [])) ≡ true
  -- `a[1] = 1;`
  pub element : is_stateless (working (tree.AssignElement a one assign.Set one ∷ [])) ≡ false
  -- `push(peek(a[1]++));`
  pub in_index :
      is_stateless (working (tree.Push
      (tree.Peek (tree.StepElement step.IncrementAfter a one)) ∷ [])) ≡ false
  -- `println(1);`
  pub prints : is_stateless (working (tree.Println one ∷ [])) ≡ false
  -- `prework {}`
  pub prework :
      is_stateless (filter_with (tree.Prework [] tree.Done) (tree.Work [] tree.Done ∷ [])) ≡ false
  -- `void f(int y) { x = 1; }`, which is called by what the work calls
  pub writes_in_call : is_stateless (calling (helper f ((121 ∷ []) ∷ []) (set_x ∷ []))) ≡ false
  -- `void f(int x) { x = 1; }`: a parameter shadows the field
  pub shadowed_by_parameter : is_stateless (calling (helper f (x ∷ []) (set_x ∷ []))) ≡ true
