-- Which calls a text has.
use Rattle.std.proofs.Common.{◌≡◌, refl, sym, ◌∙◌, ap, ℕ, Bool, true, false, ◌||◌, List, [], ◌∷◌}
use Rattle.std.proofs.Common.{◌++◌, Option, Some, None, ◌⊎◌, inl, inr, ⊎_elim}
use Rattle.std.specs.Prelude.{bytes_eq}
use Rattle.std.proofs.lemmas.Slice.Eq.{bytes_eq-Decides}
use Rattle.strc_lex_names.specs.Names.{has_name}
use Rattle.strc_parse_tree.specs.Tree as tree
use Rattle.strc_work_writes.specs.Calls.{expr_calls_one, arguments_call_one, option_calls_one}
use Rattle.strc_work_writes.specs.Calls.{variables_call_one, stmt_calls_one, stmts_call_one}
use Rattle.strc_work_writes.specs.Calls.{called_in_expr, called_in_arguments, called_in_option}
use Rattle.strc_work_writes.specs.Calls.{called_in_variables, called_in_stmt, called_in_stmts}

-- ---- one of them is such a function

abbrev pub one_of : (such : List ℕ → Bool) → List (List ℕ) → Bool
one_of such [] = false
one_of such (name ∷ rest) = such name || one_of such rest

pub or_left : (a b : Bool) → a ≡ true → (a || b) ≡ true
or_left true b e = refl
or_left false b e = absurd (cc)

pub or_right : (a b : Bool) → b ≡ true → (a || b) ≡ true
or_right true b e = refl
or_right false b e = e

one_of-append : (such : List ℕ → Bool) (first second : List (List ℕ))
    → one_of such (first ++ second) ≡ (one_of such first || one_of such second)
one_of-append such [] second = refl
one_of-append such (name ∷ rest) second =
    ap (λ t. such name || t) (one_of-append such rest second)
    ∙ joined (such name) (one_of such rest) (one_of such second)
  where
    joined : (a b c : Bool) → (a || (b || c)) ≡ ((a || b) || c)
    joined true b c = refl
    joined false b c = refl

-- two parts of a text
both : (such : List ℕ → Bool) (a b : List (List ℕ)) (first second : Bool)
    → first ≡ one_of such a → second ≡ one_of such b → (first || second) ≡ one_of such (a ++ b)
both such a b first second e f =
    ap (λ t. t || second) e ∙ ap (λ t. one_of such a || t) f ∙ sym (one_of-append such a b)

mutual
  expr_calls : (such : List ℕ → Bool) (e : tree.Expr)
      → expr_calls_one such e ≡ one_of such (called_in_expr e)
  expr_calls such (tree.Number value) = refl
  expr_calls such (tree.Truth value) = refl
  expr_calls such (tree.Read read) = refl
  expr_calls such (tree.Element array index) = expr_calls such index
  expr_calls such tree.Pop = refl
  expr_calls such (tree.Peek index) = expr_calls such index
  expr_calls such (tree.Call called arguments) =
      ap (λ t. such called || t) (arguments_call such arguments)
  expr_calls such (tree.Group inner) = expr_calls such inner
  expr_calls such (tree.Unary operator operand) = expr_calls such operand
  expr_calls such (tree.Step operator stepped) = refl
  expr_calls such (tree.StepElement operator array index) = expr_calls such index
  expr_calls such (tree.Binary operator left right) =
      both such (called_in_expr left) (called_in_expr right) _ _ (expr_calls such left)
      (expr_calls such right)
  expr_calls such (tree.Conditional condition chosen other) =
      both such (called_in_expr condition) (called_in_expr chosen ++ called_in_expr other) _ _
      (expr_calls such condition)
      (both such (called_in_expr chosen) (called_in_expr other) _ _ (expr_calls such chosen)
      (expr_calls such other))

  arguments_call : (such : List ℕ → Bool) (e : tree.Arguments)
      → arguments_call_one such e ≡ one_of such (called_in_arguments e)
  arguments_call such tree.NoArgument = refl
  arguments_call such (tree.Argument first rest) =
      both such (called_in_expr first) (called_in_arguments rest) _ _ (expr_calls such first)
      (arguments_call such rest)

option_calls : (such : List ℕ → Bool) (value : Option tree.Expr)
    → option_calls_one such value ≡ one_of such (called_in_option value)
option_calls such None = refl
option_calls such (Some value) = expr_calls such value

variables_call : (such : List ℕ → Bool) (variables : List tree.Variable)
    → variables_call_one such variables ≡ one_of such (called_in_variables variables)
variables_call such [] = refl
variables_call such (first ∷ rest) =
    both such (called_in_option first.initial) (called_in_variables rest) _ _
    (option_calls such first.initial) (variables_call such rest)

mutual
  pub stmt_calls : (such : List ℕ → Bool) (s : tree.Stmt)
      → stmt_calls_one such s ≡ one_of such (called_in_stmt s)
  stmt_calls such tree.Empty = refl
  stmt_calls such (tree.Compose statement) = refl
  stmt_calls such (tree.Block body) = stmts_call such body
  stmt_calls such (tree.Declare kind variables) = variables_call such variables
  stmt_calls such (tree.Evaluate value) = expr_calls such value
  stmt_calls such (tree.Assign assigned operator value) = expr_calls such value
  stmt_calls such (tree.AssignElement array index operator value) =
      both such (called_in_expr index) (called_in_expr value) _ _ (expr_calls such index)
      (expr_calls such value)
  stmt_calls such (tree.If condition chosen) =
      both such (called_in_expr condition) (called_in_stmt chosen) _ _ (expr_calls such condition)
      (stmt_calls such chosen)
  stmt_calls such (tree.IfElse condition chosen other) =
      both such (called_in_expr condition) (called_in_stmt chosen ++ called_in_stmt other) _ _
      (expr_calls such condition)
      (both such (called_in_stmt chosen) (called_in_stmt other) _ _ (stmt_calls such chosen)
      (stmt_calls such other))
  stmt_calls such (tree.While condition body) =
      both such (called_in_expr condition) (called_in_stmt body) _ _ (expr_calls such condition)
      (stmt_calls such body)
  stmt_calls such (tree.For first condition step body) =
      both such (called_in_stmt first)
      (called_in_option condition ++ (called_in_stmt step ++ called_in_stmt body)) _ _
      (stmt_calls such first)
      (both such (called_in_option condition) (called_in_stmt step ++ called_in_stmt body) _ _
      (option_calls such condition)
      (both such (called_in_stmt step) (called_in_stmt body) _ _ (stmt_calls such step)
      (stmt_calls such body)))
  stmt_calls such (tree.Push value) = expr_calls such value
  stmt_calls such (tree.Print value) = expr_calls such value
  stmt_calls such (tree.Println value) = expr_calls such value
  stmt_calls such (tree.Return value) = option_calls such value

  -- a text calls such a function where one of the names that it calls is one
  pub stmts_call : (such : List ℕ → Bool) (s : tree.Stmts)
      → stmts_call_one such s ≡ one_of such (called_in_stmts s)
  stmts_call such tree.Done = refl
  stmts_call such (tree.Then first rest) =
      both such (called_in_stmt first) (called_in_stmts rest) _ _ (stmt_calls such first)
      (stmts_call such rest)

-- ---- one name that a text calls

pub or_true : (a b : Bool) → (a || b) ≡ true → (a ≡ true) ⊎ (b ≡ true)
or_true true b e = inl refl
or_true false b e = inr e

pub same_name : (a b : List ℕ) → bytes_eq a b ≡ true → a ≡ b
same_name a b e = (bytes_eq-Decides a b).0 e

pub own_name : (a : List ℕ) → bytes_eq a a ≡ true
own_name a = (bytes_eq-Decides a a).1 refl

-- a name among these that is such a one
pub record OneNamed (such : List ℕ → Bool) (names : List (List ℕ)) : Type 0 where
  pub name : List ℕ
  pub among : has_name names name ≡ true
  pub is : such name ≡ true

one_named : (such : List ℕ → Bool) (names : List (List ℕ)) → one_of such names ≡ true
    → OneNamed such names
one_named such [] e = absurd (cc)
one_named such (first ∷ rest) e =
    ⊎_elim (λ here. record {
      name = first;
      among = ap (λ t. t || has_name rest first) (own_name first);
      is = here;
    })
    (λ there. let later = one_named such rest there in record {
      name = later.name;
      among = or_right (bytes_eq first later.name) (has_name rest later.name) later.among;
      is = later.is;
    })
    (or_true (such first) (one_of such rest) e)

named_one : (such : List ℕ → Bool) (names : List (List ℕ)) (name : List ℕ)
    → has_name names name ≡ true → such name ≡ true → one_of such names ≡ true
named_one such [] name among is = absurd (cc)
named_one such (first ∷ rest) name among is =
    ⊎_elim
    (λ here. or_left (such first) (one_of such rest) (ap such (same_name first name here) ∙ is))
    (λ there. or_right (such first) (one_of such rest) (named_one such rest name there is))
    (or_true (bytes_eq first name) (has_name rest name) among)

-- a text that calls such a function calls one by its name
pub calls_named : (such : List ℕ → Bool) (block : tree.Stmts) → stmts_call_one such block ≡ true
    → OneNamed such (called_in_stmts block)
calls_named such block e =
    one_named such (called_in_stmts block) (sym (stmts_call such block) ∙ e)

-- a text that calls one by its name calls such a function
pub named_calls : (such : List ℕ → Bool) (block : tree.Stmts) (name : List ℕ)
    → has_name (called_in_stmts block) name ≡ true → such name ≡ true
    → stmts_call_one such block ≡ true
named_calls such block name among is =
    stmts_call such block ∙ named_one such (called_in_stmts block) name among is
