-- Small expressions, statements and filters that are well typed, and some that aren't.
use Rattle.std.specs.Prelude.{ℕ, ℤ, pos, true, List, [], ◌∷◌, Option, Some, None}
use Rattle.strc_parse_tree.specs.Tree as tree
use Rattle.strc_parse_tree.specs.declared.tree.ItemType.{ItemType}
use Rattle.strc_parse_tree.specs.declared.tree.ItemType.TheVariants as item
use Rattle.strc_parse_tree.specs.declared.tree.RateKind.{RateKind}
use Rattle.strc_parse_tree.specs.declared.tree.RateKind.TheVariants as rate
use Rattle.strc_parse_tree.specs.declared.tree.AssignOperator.TheVariants as assign
use Rattle.strc_parse_tree.specs.declared.tree.UnaryOperator.TheVariants as unary
use Rattle.strc_parse_tree.specs.declared.tree.BinaryOperator.TheVariants as binary
use Rattle.strc_parse_tree.specs.declared.tree.StepOperator.TheVariants as step
use Rattle.strc_work_meaning.specs.Filters.{Filter}
use Rattle.strc_work_meaning.specs.declared.types.ValueType.{ValueType}
use Rattle.strc_work_meaning.specs.declared.types.ValueType.TheVariants.{Int, Boolean, Array}
use Rattle.strc_work_meaning.specs.Typing.{TypedNames}
use Rattle.strc_parse_tree.specs.declared.tree.HelperType.{HelperType}
use Rattle.strc_parse_tree.specs.declared.tree.HelperType.TheVariants as helper
use Rattle.strc_work_rules.specs.Resolution.{Context, body_context, init_context, rate_context}
use Rattle.strc_work.specs.Expressions.{HasType}
use Rattle.strc_work.specs.Numbers.{HasNumber}
use Rattle.strc_work.specs.Statements.{IsWellFormed}
use Rattle.strc_work.specs.Filters.{IsWellTyped}

-- a number, a truth value, an array, a constant, and a name that nothing has
abbrev pub x : List ℕ
x = 120 ∷ []

abbrev pub t : List ℕ
t = 116 ∷ []

abbrev pub a : List ℕ
a = 97 ∷ []

abbrev pub n : List ℕ
n = 110 ∷ []

abbrev pub z : List ℕ
z = 122 ∷ []

-- the constant is 3
abbrev pub example_constants : List (List ℕ × ℤ)
example_constants = record { 0 = n; 1 = pos 3 } ∷ []

abbrev pub example_names : TypedNames
example_names =
    record { 0 = x; 1 = Int } ∷ record { 0 = t; 1 = Boolean } ∷ record { 0 = a; 1 = Array } ∷ []

-- the body of a filter from numbers to numbers, and of one that neither takes nor gives items
abbrev pub flowing : Context
flowing = body_context example_constants [] item.Int item.Int

abbrev pub closed : Context
closed = body_context example_constants [] item.Void item.Void

abbrev pub number : ℕ → tree.Expr
number value = tree.Number (pos value)

-- each of these expressions has this type
abbrev pub HaveTypes : Context → List (tree.Expr × ValueType) → Type 0
HaveTypes context [] = Unit {0}
HaveTypes context (row ∷ rows) = HasType context example_names row.0 row.1 × HaveTypes context rows

-- none of these expressions has a type
abbrev pub HaveNoType : Context → List tree.Expr → Type 0
HaveNoType context [] = Unit {0}
HaveNoType context (value ∷ values) =
    ((kind : ValueType) → ¬ HasType context example_names value kind) × HaveNoType context values

-- 7, x, n, (t), a[0], pop(), peek(n), -x, ~x, !t, x + n, x << n, x < 1, x >= n, x == n, t == true,
-- t || t, t && t, t ? x : 1, t ? t : t, x++, --a[x]
abbrev pub typed : List (tree.Expr × ValueType)
typed =
    (number 7, Int) ∷ (tree.Read x, Int) ∷ (tree.Read n, Int)
    ∷ (tree.Group (tree.Read t), Boolean) ∷ (tree.Element a (number 0), Int)
    ∷ (tree.Pop, Int) ∷ (tree.Peek (tree.Read n), Int)
    ∷ (tree.Unary unary.Negate (tree.Read x), Int)
    ∷ (tree.Unary unary.Complement (tree.Read x), Int)
    ∷ (tree.Unary unary.Not (tree.Read t), Boolean)
    ∷ (tree.Binary binary.Add (tree.Read x) (tree.Read n), Int)
    ∷ (tree.Binary binary.ShiftLeft (tree.Read x) (tree.Read n), Int)
    ∷ (tree.Binary binary.Less (tree.Read x) (number 1), Boolean)
    ∷ (tree.Binary binary.GreaterOrEqual (tree.Read x) (tree.Read n), Boolean)
    ∷ (tree.Binary binary.Equal (tree.Read x) (tree.Read n), Boolean)
    ∷ (tree.Binary binary.Equal (tree.Read t) (tree.Truth true), Boolean)
    ∷ (tree.Binary binary.LogicalOr (tree.Read t) (tree.Read t), Boolean)
    ∷ (tree.Binary binary.LogicalAnd (tree.Read t) (tree.Read t), Boolean)
    ∷ (tree.Conditional (tree.Read t) (tree.Read x) (number 1), Int)
    ∷ (tree.Conditional (tree.Read t) (tree.Read t) (tree.Read t), Boolean)
    ∷ (tree.Step step.IncrementAfter x, Int)
    ∷ (tree.StepElement step.DecrementFirst a (tree.Read x), Int) ∷ []

-- z, a, x[0], a[true], peek(t), !x, t + 1, t < t, x == t, x || t, x ? 1 : 2, t ? x : t, ++t, ++n
abbrev pub untyped : List tree.Expr
untyped =
    tree.Read z ∷ tree.Read a ∷ tree.Element x (number 0) ∷ tree.Element a (tree.Truth true)
    ∷ tree.Peek (tree.Read t) ∷ tree.Unary unary.Not (tree.Read x)
    ∷ tree.Binary binary.Add (tree.Read t) (number 1)
    ∷ tree.Binary binary.Less (tree.Read t) (tree.Read t)
    ∷ tree.Binary binary.Equal (tree.Read x) (tree.Read t)
    ∷ tree.Binary binary.LogicalOr (tree.Read x) (tree.Read t)
    ∷ tree.Conditional (tree.Read x) (number 1) (number 2)
    ∷ tree.Conditional (tree.Read t) (tree.Read x) (tree.Read t)
    ∷ tree.Step step.IncrementFirst t ∷ tree.Step step.IncrementFirst n ∷ []

-- pop(), peek(0)
abbrev pub item_readers : List tree.Expr
item_readers = tree.Pop ∷ tree.Peek (number 0) ∷ []

-- n; and x, a[0], x++
abbrev pub constant_reads : List (tree.Expr × ValueType)
constant_reads = (tree.Read n, Int) ∷ []

abbrev pub variable_reads : List tree.Expr
variable_reads =
    tree.Read x ∷ tree.Element a (number 0) ∷ tree.Step step.IncrementAfter x ∷ []

-- the rows on expressions; nothing is popped where no items come in, and no variable is seen where
-- only constants are
pub record ExpressionRows : Type 0 where
  pub typed_rows : HaveTypes flowing typed
  pub untyped_rows : HaveNoType flowing untyped
  pub no_items : HaveNoType closed item_readers
  pub constants_alone : HaveTypes (rate_context example_constants) constant_reads
  pub no_variables : HaveNoType (rate_context example_constants) variable_reads

-- 2 * n, 1 / 0, true ? n : 1 / 0
abbrev pub doubled : tree.Expr
doubled = tree.Binary binary.Multiply (number 2) (tree.Read n)

abbrev pub by_zero : tree.Expr
by_zero = tree.Binary binary.Divide (number 1) (number 0)

abbrev pub lazy : tree.Expr
lazy = tree.Conditional (tree.Truth true) (tree.Read n) by_zero

-- a constant counts with its value, a fault gives no number, and only the chosen side counts; a
-- variable has no number, and neither has a truth value
pub record NumberRows : Type 0 where
  pub is_doubled : HasNumber example_constants example_names doubled (pos 6)
  pub no_fault : HasNumber example_constants example_names lazy (pos 3)
  pub faults : (value : ℤ) → ¬ HasNumber example_constants example_names by_zero value
  pub no_variable : (value : ℤ) → ¬ HasNumber example_constants example_names (tree.Read x) value
  pub no_truth : (value : ℤ) → ¬ HasNumber example_constants example_names (tree.Truth true) value

-- a variable in a declaration
abbrev pub variable : List ℕ → Option tree.Expr → tree.Variable
variable name initial = record { name = name; initial = initial }

abbrev pub int : List ℕ → Option tree.Expr → tree.Stmt
int name initial = tree.Declare tree.Int (variable name initial ∷ [])

abbrev pub boolean : List ℕ → tree.Stmt
boolean name = tree.Declare tree.Boolean (variable name None ∷ [])

abbrev pub int_array : (length : tree.Expr) → tree.Stmt
int_array length = tree.Declare (tree.Array length) (variable z None ∷ [])

abbrev pub block : List tree.Stmt → tree.Stmt
block statements = tree.Block (tree.row statements)

-- each of these statements is well formed; none of them is
abbrev pub AreAllWellFormed : Context → List tree.Stmt → Type 0
AreAllWellFormed context [] = Unit {0}
AreAllWellFormed context (first ∷ rest) =
    IsWellFormed context example_names 0 first × AreAllWellFormed context rest

abbrev pub AreIllFormed : Context → List tree.Stmt → Type 0
AreIllFormed context [] = Unit {0}
AreIllFormed context (first ∷ rest) =
    (¬ IsWellFormed context example_names 0 first) × AreIllFormed context rest

-- {int z; {int z;}}, {int x; x = n;}, int z = 1, y = z (with y for a), int z[n], int z[65536],
-- {boolean n; if (n) ;}, if (t) x += 1, t = x < n, a[x] *= 2, while (t) pop(),
-- for (int z = 0; z < n; z++) push(z), println(x)
abbrev pub well_formed : List tree.Stmt
well_formed =
    block (int z None ∷ block (int z None ∷ []) ∷ [])
    ∷ block (int x None ∷ tree.Assign x assign.Set (tree.Read n) ∷ [])
    ∷ block (tree.Declare tree.Int (variable z (Some (number 1))
    ∷ variable a (Some (tree.Read z)) ∷ []) ∷ [])
    ∷ int_array (tree.Read n) ∷ int_array (number 65536)
    ∷ block (boolean n ∷ tree.If (tree.Read n) tree.Empty ∷ [])
    ∷ tree.If (tree.Read t) (tree.Assign x assign.Add (number 1))
    ∷ tree.Assign t assign.Set (tree.Binary binary.Less (tree.Read x) (tree.Read n))
    ∷ tree.AssignElement a (tree.Read x) assign.Multiply (number 2)
    ∷ tree.While (tree.Read t) (tree.Evaluate tree.Pop)
    ∷ tree.For (int z (Some (number 0)))
    (Some (tree.Binary binary.Less (tree.Read z) (tree.Read n)))
    (tree.Evaluate (tree.Step step.IncrementAfter z)) (tree.Push (tree.Read z))
    ∷ tree.Println (tree.Read x) ∷ []

-- {int z; int z;}, int z = z, int z = true, int z[0], int z[65537], int z[x], if (x) ;,
-- while (1) ;, t += 1, x = t, a = x, n = 1, z = 1, {for (int z = 0; ; ) ; z = 1;}, push(t),
-- print(a), {boolean n; x = n;}, {int n; int z[n];}, enqueue 1
abbrev pub ill_formed : List tree.Stmt
ill_formed =
    block (int z None ∷ int z None ∷ [])
    ∷ int z (Some (tree.Read z)) ∷ int z (Some (tree.Truth true))
    ∷ int_array (number 0) ∷ int_array (number 65537) ∷ int_array (tree.Read x)
    ∷ tree.If (tree.Read x) tree.Empty ∷ tree.While (number 1) tree.Empty
    ∷ tree.Assign t assign.Add (number 1) ∷ tree.Assign x assign.Set (tree.Read t)
    ∷ tree.Assign a assign.Set (tree.Read x) ∷ tree.Assign n assign.Set (number 1)
    ∷ tree.Assign z assign.Set (number 1)
    ∷ block (tree.For (int z (Some (number 0))) None tree.Empty tree.Empty
    ∷ tree.Assign z assign.Set (number 1) ∷ [])
    ∷ tree.Push (tree.Read t) ∷ tree.Print (tree.Read a)
    ∷ block (boolean n ∷ tree.Assign x assign.Set (tree.Read n) ∷ [])
    ∷ block (int n None ∷ int_array (tree.Read n) ∷ [])
    ∷ tree.Compose (tree.Enqueue (number 1)) ∷ []

-- push(1); and print(1), println(1), push(1)
abbrev pub pushes : List tree.Stmt
pushes = tree.Push (number 1) ∷ []

abbrev pub writes : List tree.Stmt
writes = tree.Print (number 1) ∷ tree.Println (number 1) ∷ tree.Push (number 1) ∷ []

-- the rows on statements; nothing is pushed where no items go out, nor printed in `init`
pub record StatementRows : Type 0 where
  pub well_formed_rows : AreAllWellFormed flowing well_formed
  pub ill_formed_rows : AreIllFormed flowing ill_formed
  pub no_pushes : AreIllFormed closed pushes
  pub no_words : AreIllFormed (init_context example_constants) writes

-- a declared rate
abbrev pub declared : RateKind → tree.Expr → tree.Rate
declared kind value = record { kind = kind; rate = value }

abbrev pub filter : (input output : ItemType) → List tree.Member → Filter
filter input output members = record { input = input; output = output; members = members }

-- a field, and a work that pushes its steps
abbrev pub counter : tree.Member
counter = tree.Fields tree.Int (variable x (Some (number 0)) ∷ [])

abbrev pub counting : (pushed : tree.Expr) → tree.Member
counting pushed = tree.Work (declared rate.Push pushed ∷ [])
    (tree.row (tree.Push (tree.Step step.IncrementAfter x) ∷ []))

-- a work that prints what it pops
abbrev pub printing : (popped : tree.Expr) → tree.Member
printing popped = tree.Work (declared rate.Pop popped ∷ [])
    (tree.row (tree.Println tree.Pop ∷ []))

abbrev pub AreAllWellTyped : List Filter → Type 0
AreAllWellTyped [] = Unit {0}
AreAllWellTyped (first ∷ rest) = IsWellTyped example_constants first × AreAllWellTyped rest

abbrev pub AreIllTyped : List Filter → Type 0
AreIllTyped [] = Unit {0}
AreIllTyped (first ∷ rest) = (¬ IsWellTyped example_constants first) × AreIllTyped rest

-- a counter, also with a constant as its rate, a field after its work, and an `init`; a printer,
-- also with a prework, which looks further; a rate of 0 on a side without items
abbrev pub well_typed : List Filter
well_typed =
    filter item.Void item.Int (counter ∷ counting (number 1) ∷ [])
    ∷ filter item.Void item.Int (counting (tree.Read n) ∷ counter ∷ [])
    ∷ filter item.Void item.Int (counter
    ∷ tree.Init (tree.row (tree.Assign x assign.Set
    (tree.Binary binary.Add (tree.Read x) (tree.Read n)) ∷ []))
    ∷ counting (number 1) ∷ [])
    ∷ filter item.Int item.Void (printing (number 1) ∷ [])
    ∷ filter item.Int item.Void (tree.Prework (declared rate.Peek (number 2) ∷ [])
    (tree.row (tree.Println (tree.Peek (number 1)) ∷ [])) ∷ printing (number 1) ∷ [])
    ∷ filter item.Void item.Void
    (tree.Work (declared rate.Peek (number 0) ∷ []) tree.Done ∷ []) ∷ []

-- no work, two works, two preworks, two inits; two fields of one name, apart and together; an
-- initialiser that pops; a pop where no items come in, and a pop, a peek and a push rate above 0
-- where no items flow, one of them of a prework; a rate that is a field, pops, is a truth value, or
-- faults
abbrev pub ill_typed : List Filter
ill_typed =
    filter item.Void item.Int (counter ∷ [])
    ∷ filter item.Void item.Int (counter ∷ counting (number 1) ∷ counting (number 1) ∷ [])
    ∷ filter item.Void item.Void
    (tree.Prework [] tree.Done ∷ tree.Prework [] tree.Done ∷ tree.Work [] tree.Done ∷ [])
    ∷ filter item.Void item.Void
    (tree.Init tree.Done ∷ tree.Init tree.Done ∷ tree.Work [] tree.Done ∷ [])
    ∷ filter item.Void item.Int (counter ∷ counter ∷ counting (number 1) ∷ [])
    ∷ filter item.Void item.Int (tree.Fields tree.Int (variable x None ∷ variable x None ∷ [])
    ∷ counting (number 1) ∷ [])
    ∷ filter item.Int item.Int
    (tree.Fields tree.Int (variable z (Some tree.Pop) ∷ []) ∷ counter ∷ counting (number 1) ∷ [])
    ∷ filter item.Void item.Void (printing (number 0) ∷ [])
    ∷ filter item.Void item.Void
    (tree.Work (declared rate.Pop (number 1) ∷ []) tree.Done ∷ [])
    ∷ filter item.Void item.Int
    (tree.Work (declared rate.Peek (number 1) ∷ []) tree.Done ∷ [])
    ∷ filter item.Int item.Void
    (tree.Prework (declared rate.Push (number 1) ∷ []) tree.Done ∷ printing (number 1) ∷ [])
    ∷ filter item.Void item.Int (counter ∷ counting (tree.Read x) ∷ [])
    ∷ filter item.Int item.Int (counter ∷ counting tree.Pop ∷ [])
    ∷ filter item.Void item.Int (counter ∷ counting (tree.Truth true) ∷ [])
    ∷ filter item.Void item.Int
    (counter ∷ counting (tree.Binary binary.Divide (number 1) (number 0)) ∷ []) ∷ []

-- helper functions f and g, their calls, and a work of such statements
abbrev pub f : List ℕ
f = 102 ∷ []

abbrev pub g : List ℕ
g = 103 ∷ []

abbrev pub calls : List ℕ → List tree.Expr → tree.Expr
calls name arguments = tree.Call name (tree.arguments_of arguments)

abbrev pub gives : HelperType → List ℕ → (parameters : List (List ℕ)) → List tree.Stmt
    → tree.Member
gives kind name parameters statements = tree.Helper kind name parameters (tree.row statements)

abbrev pub does : List tree.Stmt → tree.Member
does statements = tree.Work [] (tree.row statements)

abbrev pub still : List tree.Member → Filter
still members = filter item.Void item.Void members

-- int f(int x) { return x; }, void g() {} and boolean g() { return true; }
abbrev pub same : tree.Member
same = gives helper.Int f (x ∷ []) (tree.Return (Some (tree.Read x)) ∷ [])

abbrev pub nothing : tree.Member
nothing = gives helper.Void g [] []

abbrev pub truth : tree.Member
truth = gives helper.Boolean g [] (tree.Return (Some (tree.Truth true)) ∷ [])

-- a call of a later helper function, as a value and as a statement; in a field's initialiser and
-- in `init`; one that calls itself; calls that give nothing, and a truth; a field of the same name;
-- a parameter that shadows a field, and a local that shadows a parameter; one that writes a field
abbrev pub helped : List Filter
helped =
    still (does (tree.Evaluate (calls f (calls f (number 1 ∷ []) ∷ [])) ∷ []) ∷ same ∷ [])
    ∷ still (tree.Fields tree.Int (variable z (Some (calls f (number 1 ∷ []))) ∷ [])
    ∷ tree.Init (tree.row (tree.Evaluate (calls f (tree.Read z ∷ [])) ∷ [])) ∷ does [] ∷ same ∷ [])
    ∷ still (gives helper.Int f (x ∷ [])
    (tree.Return (Some (calls f (tree.Read x ∷ []))) ∷ []) ∷ does [] ∷ [])
    ∷ still (nothing ∷ does (tree.Evaluate (calls g []) ∷ []) ∷ [])
    ∷ still (gives helper.Void g [] (tree.Return None ∷ []) ∷ does [] ∷ [])
    ∷ still (truth ∷ does (tree.If (calls g []) tree.Empty ∷ []) ∷ [])
    ∷ still (tree.Fields tree.Int (variable f None ∷ []) ∷ same ∷ does [] ∷ [])
    ∷ still (tree.Fields tree.Boolean (variable x None ∷ []) ∷ same ∷ does [] ∷ [])
    ∷ still (gives helper.Boolean f (x ∷ []) (tree.Declare tree.Boolean (variable x None ∷ [])
    ∷ tree.Return (Some (tree.Read x)) ∷ []) ∷ does [] ∷ [])
    ∷ still (counter ∷ gives helper.Void g []
    (tree.Assign x assign.Set (number 1) ∷ []) ∷ does [] ∷ []) ∷ []

-- too few arguments and too many; a name of no helper function; a truth as an argument; nothing as
-- a value, also in brackets; `return` in a work; a value that is missing, that isn't wanted, and
-- that is of another type; a helper function that pops, pushes, and prints; two of one name; two
-- parameters of one name; a call in a rate; a variable of the caller; a wrong helper function that
-- nothing calls
abbrev pub unhelped : List Filter
unhelped =
    still (same ∷ does (tree.Evaluate (calls f []) ∷ []) ∷ [])
    ∷ still (same ∷ does (tree.Evaluate (calls f (number 1 ∷ number 2 ∷ [])) ∷ []) ∷ [])
    ∷ still (same ∷ does (tree.Evaluate (calls g []) ∷ []) ∷ [])
    ∷ still (same ∷ does (tree.Evaluate (calls f (tree.Truth true ∷ [])) ∷ []) ∷ [])
    ∷ still (nothing ∷ same ∷ does (tree.Evaluate (calls f (calls g [] ∷ [])) ∷ []) ∷ [])
    ∷ still (nothing ∷ does (tree.Evaluate (tree.Group (calls g [])) ∷ []) ∷ [])
    ∷ still (does (tree.Return None ∷ []) ∷ [])
    ∷ still (gives helper.Int f [] (tree.Return None ∷ []) ∷ does [] ∷ [])
    ∷ still (gives helper.Void f [] (tree.Return (Some (number 1)) ∷ []) ∷ does [] ∷ [])
    ∷ still (gives helper.Boolean f [] (tree.Return (Some (number 1)) ∷ []) ∷ does [] ∷ [])
    ∷ filter item.Int item.Int
    (gives helper.Void f [] (tree.Evaluate tree.Pop ∷ []) ∷ does [] ∷ [])
    ∷ filter item.Int item.Int
    (gives helper.Void f [] (tree.Push (number 1) ∷ []) ∷ does [] ∷ [])
    ∷ filter item.Int item.Int
    (gives helper.Void f [] (tree.Print (number 1) ∷ []) ∷ does [] ∷ [])
    ∷ still (same ∷ same ∷ does [] ∷ [])
    ∷ still (gives helper.Void f (x ∷ x ∷ []) [] ∷ does [] ∷ [])
    ∷ filter item.Int item.Void (same ∷ printing (calls f (number 1 ∷ [])) ∷ [])
    ∷ still (does (tree.Declare tree.Int (variable z None ∷ []) ∷ [])
    ∷ gives helper.Void g [] (tree.Evaluate (tree.Read z) ∷ []) ∷ [])
    ∷ still (does [] ∷ gives helper.Void g [] (tree.If (number 1) tree.Empty ∷ []) ∷ []) ∷ []

pub record FilterRows : Type 0 where
  pub well_typed_rows : AreAllWellTyped well_typed
  pub ill_typed_rows : AreIllTyped ill_typed
  pub helped_rows : AreAllWellTyped helped
  pub unhelped_rows : AreIllTyped unhelped
