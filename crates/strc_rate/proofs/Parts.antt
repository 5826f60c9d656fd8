-- Assignments, declarations and conditions stay in range as their evaluations do.
use Rattle.std.proofs.Common.{ℕ, ◌+◌, ◌≤◌, ℤ, Bool, List, [], ◌∷◌, ◌++◌, length, Option}
use Rattle.std.proofs.Common.{Some, None, Ok, arith, length-append}
use Rattle.std.specs.Result.{IfOk}
use Rattle.strc_lex_names.specs.Results.{result_and_then}
use Rattle.strc_parse_tree.specs.Tree as tree
use Rattle.strc_parse_tree.specs.declared.tree.AssignOperator.{AssignOperator}
use Rattle.strc_parse_tree.specs.declared.tree.AssignOperator.TheVariants as assign
use Rattle.strc_parse_tree.specs.declared.tree.BinaryOperator.{BinaryOperator}
use Rattle.strc_parse_tree.specs.declared.tree.BinaryOperator.TheVariants as binary
use Rattle.strc_work_meaning.specs.Arithmetic.{binary_value}
use Rattle.strc_work_meaning.specs.Firing.{Setting, Store, value_in, cell_in, cell_set, declared_in}
use Rattle.strc_work_meaning.specs.Firing.{place_of, value_of, assigned_value, element_joined}
use Rattle.strc_work_meaning.specs.Firing.{element_set, initial_cells, variables_declared}
use Rattle.strc_work_meaning.specs.Firing.{condition_value}
use Rattle.strc_rate.specs.Counts.{sequence, expr_counts, option_counts, variables_counts}
use Rattle.strc_rate.specs.Entries.{peeks_of_expr, peeks_of_option, peeks_of_variables}
use Rattle.strc_rate.specs.PeeksSafe.{ExprIsSafe, OptionIsSafe, VariablesAreSafe}
use Rattle.strc_rate.specs.Ranges.{IsInRange, AllAreClosed}
use Rattle.strc_rate.proofs.Results.{both_ok}
use Rattle.strc_rate.proofs.Reaching.{in_then, in_plain}
use Rattle.strc_rate.proofs.Fitting.{IsNarrow, CountedFits, fits_first, fits_after}
use Rattle.strc_rate.proofs.CountedMoves.{Counted, value_counts, initial_counts}
use Rattle.strc_rate.proofs.Values.{CallsStay, place_stays, operator_stays, joined_stays}
use Rattle.strc_rate.proofs.Values.{value_stays}

-- ---- assignments, of a value that stays in range

-- a compound assignment reads the variable first
assigned_by : (setting : Setting) (name : List ℕ) (operator : AssignOperator) (value : tree.Expr)
    (store : Store) → IsInRange (value_of setting value store)
    → IsInRange (value_of setting (assigned_value name operator value) store)
assigned_by setting name assign.Set value store h = h
assigned_by setting name assign.Add value store h =
    joined_stays binary.Add (value_in store name, store) (value_of setting value) (λ e. h)
assigned_by setting name assign.Subtract value store h =
    joined_stays binary.Subtract (value_in store name, store) (value_of setting value) (λ e. h)
assigned_by setting name assign.Multiply value store h =
    joined_stays binary.Multiply (value_in store name, store) (value_of setting value) (λ e. h)
assigned_by setting name assign.Divide value store h =
    joined_stays binary.Divide (value_in store name, store) (value_of setting value) (λ e. h)
assigned_by setting name assign.Remainder value store h =
    joined_stays binary.Remainder (value_in store name, store) (value_of setting value) (λ e. h)

pub assigned_stays : (setting : Setting) (name : List ℕ) (operator : AssignOperator)
    (value : tree.Expr) (store : Store) → IsInRange (value_of setting value store)
    → IsInRange (result_and_then (value_of setting (assigned_value name operator value) store)
    (λ given. Ok (cell_set given.1 name 0 given.0)))
assigned_stays setting name operator value store h =
    in_plain (value_of setting (assigned_value name operator value) store) _
    (assigned_by setting name operator value store h) (λ given. tt)

element_by : (setting : Setting) (name : List ℕ) (operator : BinaryOperator) (value : tree.Expr)
    (at : ℤ × Store) → IsInRange (value_of setting value at.1)
    → IsInRange (element_joined setting name operator value at)
element_by setting name operator value at h =
    in_plain (place_of at.1 name at.0) _ (place_stays at.1 name at.0)
    (λ place. in_plain (value_of setting value at.1) _ h
    (λ given. in_plain (binary_value operator (cell_in at.1 name place) given.0) _
    (operator_stays operator (cell_in at.1 name place) given.0) (λ new. tt)))

-- an element gets a value
pub element_stays : (setting : Setting) (name : List ℕ) (operator : AssignOperator)
    (value : tree.Expr) (at : ℤ × Store) → IsInRange (value_of setting value at.1)
    → IsInRange (element_set setting name operator value at)
element_stays setting name assign.Set value at h =
    in_plain (value_of setting value at.1) _ h
    (λ given. in_plain (place_of given.1 name at.0) _ (place_stays given.1 name at.0)
    (λ place. tt))
element_stays setting name assign.Add value at h = element_by setting name binary.Add value at h
element_stays setting name assign.Subtract value at h =
    element_by setting name binary.Subtract value at h
element_stays setting name assign.Multiply value at h =
    element_by setting name binary.Multiply value at h
element_stays setting name assign.Divide value at h =
    element_by setting name binary.Divide value at h
element_stays setting name assign.Remainder value at h =
    element_by setting name binary.Remainder value at h

-- ---- parts whose counts fit

module _ (setting : Setting) (narrow : IsNarrow setting.port) (calls : CallsStay setting)
    (entries : List Bool) (closed : AllAreClosed entries) where
  pub element_assigned_stays : (name : List ℕ) (index : tree.Expr) (operator : AssignOperator)
      (value : tree.Expr) (place : ℕ) (store : Store)
      → CountedFits setting.port store.traffic (sequence (expr_counts index) (expr_counts value))
      → place + length (peeks_of_expr index ++ peeks_of_expr value) ≤ length entries
      → ExprIsSafe setting entries place index store × IfOk (value_of setting index store)
      (λ at. ExprIsSafe setting entries (place + length (peeks_of_expr index)) value at.1)
      → IsInRange (result_and_then (value_of setting index store)
      (element_set setting name operator value))
  element_assigned_stays name index operator value place store fits within safe =
      let size = length-append (peeks_of_expr index) (peeks_of_expr value) in
      let past = place + length (peeks_of_expr index) in
      let port = setting.port in
      let x = expr_counts index in
      let y = expr_counts value in
      in_then (value_of setting index store) (element_set setting name operator value)
      (λ at. Counted x store.traffic at.1.traffic × ExprIsSafe setting entries past value at.1)
      (value_stays setting narrow calls entries closed index place store
      (fits_first port narrow store.traffic x y fits) (omega arith) safe.0)
      (both_ok (value_of setting index store) _ _ (value_counts setting index store) safe.1)
      (λ at known. element_stays setting name operator value at
      (value_stays setting narrow calls entries closed value past at.1
      (fits_after port narrow store.traffic at.1.traffic x y fits known.0) (omega arith)
      known.1))

  initial_stays : (cells : ℕ) (initial : Option tree.Expr) (place : ℕ) (store : Store)
      → CountedFits setting.port store.traffic (option_counts initial)
      → place + length (peeks_of_option initial) ≤ length entries
      → OptionIsSafe setting entries place initial store
      → IsInRange (initial_cells setting cells initial store)
  initial_stays cells None place store fits within safe = tt
  initial_stays cells (Some initial) place store fits within safe =
      in_plain (value_of setting initial store) _
      (value_stays setting narrow calls entries closed initial place store fits within safe)
      (λ given. tt)

  pub declared_stays : (cells : ℕ) (variables : List tree.Variable) (place : ℕ) (store : Store)
      → CountedFits setting.port store.traffic (variables_counts variables)
      → place + length (peeks_of_variables variables) ≤ length entries
      → VariablesAreSafe setting entries place cells variables store
      → IsInRange (variables_declared setting cells variables store)
  declared_stays cells [] place store fits within safe = tt
  declared_stays cells (first ∷ rest) place store fits within safe =
      let size = length-append (peeks_of_option first.initial) (peeks_of_variables rest) in
      let past = place + length (peeks_of_option first.initial) in
      let port = setting.port in
      let x = option_counts first.initial in
      let y = variables_counts rest in
      in_then (initial_cells setting cells first.initial store) _
      (λ given. Counted x store.traffic given.1.traffic
      × VariablesAreSafe setting entries past cells rest
      (declared_in given.1 first.name given.0))
      (initial_stays cells first.initial place store
      (fits_first port narrow store.traffic x y fits) (omega arith) safe.0)
      (both_ok (initial_cells setting cells first.initial store) _ _
      (initial_counts setting cells first.initial store) safe.1)
      (λ given known. declared_stays cells rest past (declared_in given.1 first.name given.0)
      (fits_after port narrow store.traffic given.1.traffic x y fits known.0) (omega arith)
      known.1)

  pub condition_stays : (condition : Option tree.Expr) (place : ℕ) (store : Store)
      → CountedFits setting.port store.traffic (option_counts condition)
      → place + length (peeks_of_option condition) ≤ length entries
      → OptionIsSafe setting entries place condition store
      → IsInRange (condition_value setting condition store)
  condition_stays None place store fits within safe = tt
  condition_stays (Some condition) place store fits within safe =
      value_stays setting narrow calls entries closed condition place store fits within safe
