-- The calls in blocks that the rules accept are known.
use Rattle.std.proofs.Common.{ℕ, Bool, not, List, [], ◌∷◌, length, Option, Some, None}
use Rattle.std.proofs.Common.{Ok}
use Rattle.strc_lex_names.specs.Results.{result_and_then}
use Rattle.strc_parse_tree.specs.Tree as tree
use Rattle.strc_parse_tree.specs.declared.tree.HelperType.{HelperType}
use Rattle.strc_work_meaning.specs.Typing.{TypedNames, names_after}
use Rattle.strc_work_meaning.specs.declared.types.ValueType.{ValueType}
use Rattle.strc_work_meaning.specs.declared.types.ValueType.TheVariants.{Int, Boolean}
use Rattle.strc_work_rules.specs.Resolution.{Context, type_resolved, initial_resolved, expr_as}
use Rattle.strc_work_rules.specs.Resolution.{is_taken, local_resolved, variables_resolved}
use Rattle.strc_work_rules.specs.Resolution.{write_resolved, array_resolved, assigned_type}
use Rattle.strc_work_rules.specs.Resolution.{given_resolved, evaluated, returned_as, returned}
use Rattle.strc_work_rules.specs.Resolution.{stmt_resolved, stmts_resolved}
use Rattle.strc_work_rules.specs.Signatures.{given_type}
use Rattle.strc_work_rules.proofs.ResolvingExpressions.{Gives, then_gives, any_gives, kept_gives}
use Rattle.strc_emit_meaning.specs.Known.{IsKnown, IsKnownOption, AreKnownVariables, IsKnownStmt}
use Rattle.strc_emit_meaning.specs.Known.{AreKnown}
use Rattle.strc_emit_resolved.proofs.Calls.{Knows, expr_as_known, initial_known, evaluated_known}

module _ (known : List ℕ → ℕ → Bool) (context : Context) (knows : Knows known context) where
  variable_known : (names : TypedNames) (outer : ℕ) (kind : ValueType) (variable : tree.Variable)
      → Gives (λ (v : tree.Variable). IsKnownOption known v.initial)
      (local_resolved context names outer kind variable)
  variable_known names outer kind variable =
      let of : tree.Variable → Type 0 = λ v. IsKnownOption known v.initial in
      let initial = initial_resolved context names kind variable.initial in
      kept_gives of (not (is_taken names outer variable.name))
      (result_and_then initial (λ i. Ok (record { name = variable.name; initial = i })))
      (then_gives (IsKnownOption known) of initial
      (λ i. Ok (record { name = variable.name; initial = i }))
      (initial_known known context knows names kind variable.initial) (λ i h. h))

  variables_known : (names : TypedNames) (outer : ℕ) (kind : ValueType)
      (variables : List tree.Variable) → Gives (AreKnownVariables known)
      (variables_resolved context names outer kind variables)
  variables_known names outer kind [] = tt
  variables_known names outer kind (first ∷ rest) =
      let inner : TypedNames = record { 0 = first.name; 1 = kind } ∷ names in
      then_gives (λ (v : tree.Variable). IsKnownOption known v.initial) (AreKnownVariables known)
      (local_resolved context names outer kind first)
      (λ f. result_and_then (variables_resolved context inner outer kind rest)
      (λ r. Ok (f ∷ r))) (variable_known names outer kind first)
      (λ f h. then_gives (AreKnownVariables known) (AreKnownVariables known)
      (variables_resolved context inner outer kind rest) (λ r. Ok (f ∷ r))
      (variables_known inner outer kind rest) (λ r h'. (h, h')))

  given_known : (names : TypedNames) (may : Bool) (value : tree.Expr)
      (whole : tree.Expr → tree.Stmt)
      → ((e : tree.Expr) → IsKnown known e → IsKnownStmt known (whole e))
      → Gives (IsKnownStmt known)
      (result_and_then (given_resolved context names may value) (λ e. Ok (whole e)))
  given_known names may value whole more =
      then_gives (IsKnown known) (IsKnownStmt known) (given_resolved context names may value)
      (λ e. Ok (whole e))
      (kept_gives (IsKnown known) may (expr_as context names Int value)
      (expr_as_known known context knows names Int value)) more

  returned_as_known : (names : TypedNames) (kind : Option ValueType) (value : Option tree.Expr)
      → Gives (IsKnownOption known) (returned_as context names kind value)
  returned_as_known names None None = tt
  returned_as_known names None (Some value) = tt
  returned_as_known names (Some kind) None = tt
  returned_as_known names (Some kind) (Some value) =
      initial_known known context knows names kind (Some value)

  returned_known : (names : TypedNames) (kind : Option HelperType) (value : Option tree.Expr)
      → Gives (IsKnownOption known) (returned context names kind value)
  returned_known names None value = tt
  returned_known names (Some kind) value = returned_as_known names (given_type kind) value

  mutual
    stmt_known : (names : TypedNames) (outer : ℕ) (statement : tree.Stmt)
        → Gives (IsKnownStmt known) (stmt_resolved context names outer statement)
    stmt_known names outer tree.Empty = tt
    stmt_known names outer (tree.Compose statement) = tt
    stmt_known names outer (tree.Block body) =
        then_gives (AreKnown known) (IsKnownStmt known)
        (stmts_resolved context names (length names) body) (λ b. Ok (tree.Block b))
        (stmts_known names (length names) body) (λ b h. h)
    stmt_known names outer (tree.Declare kind variables) =
        any_gives (IsKnownStmt known) (type_resolved context.constants names kind)
        (λ t. result_and_then (variables_resolved context names outer t.kind variables)
        (λ v. Ok (tree.Declare t.written v)))
        (λ t. then_gives (AreKnownVariables known) (IsKnownStmt known)
        (variables_resolved context names outer t.kind variables)
        (λ v. Ok (tree.Declare t.written v)) (variables_known names outer t.kind variables)
        (λ v h. h))
    stmt_known names outer (tree.Evaluate value) =
        then_gives (IsKnown known) (IsKnownStmt known) (evaluated context names value)
        (λ v. Ok (tree.Evaluate v)) (evaluated_known known context knows names value) (λ v h. h)
    stmt_known names outer (tree.Assign name operator value) =
        any_gives (IsKnownStmt known) (write_resolved context names name)
        (λ kind. result_and_then (assigned_type operator kind)
        (λ kind'. result_and_then (expr_as context names kind' value)
        (λ v. Ok (tree.Assign name operator v))))
        (λ kind. any_gives (IsKnownStmt known) (assigned_type operator kind)
        (λ kind'. result_and_then (expr_as context names kind' value)
        (λ v. Ok (tree.Assign name operator v)))
        (λ kind'. then_gives (IsKnown known) (IsKnownStmt known)
        (expr_as context names kind' value) (λ v. Ok (tree.Assign name operator v))
        (expr_as_known known context knows names kind' value) (λ v h. h)))
    stmt_known names outer (tree.AssignElement name index operator value) =
        any_gives (IsKnownStmt known) (array_resolved context names name)
        (λ n. result_and_then (expr_as context names Int index)
        (λ i. result_and_then (expr_as context names Int value)
        (λ v. Ok (tree.AssignElement n i operator v))))
        (λ n. then_gives (IsKnown known) (IsKnownStmt known) (expr_as context names Int index)
        (λ i. result_and_then (expr_as context names Int value)
        (λ v. Ok (tree.AssignElement n i operator v)))
        (expr_as_known known context knows names Int index)
        (λ i h. then_gives (IsKnown known) (IsKnownStmt known) (expr_as context names Int value)
        (λ v. Ok (tree.AssignElement n i operator v))
        (expr_as_known known context knows names Int value) (λ v h'. (h, h'))))
    stmt_known names outer (tree.If condition chosen) =
        then_gives (IsKnown known) (IsKnownStmt known) (expr_as context names Boolean condition)
        (λ c. result_and_then (stmt_resolved context names (length names) chosen)
        (λ t. Ok (tree.If c t))) (expr_as_known known context knows names Boolean condition)
        (λ c h. then_gives (IsKnownStmt known) (IsKnownStmt known)
        (stmt_resolved context names (length names) chosen) (λ t. Ok (tree.If c t))
        (stmt_known names (length names) chosen) (λ t h'. (h, h')))
    stmt_known names outer (tree.IfElse condition chosen other) =
        then_gives (IsKnown known) (IsKnownStmt known) (expr_as context names Boolean condition)
        (λ c. result_and_then (stmt_resolved context names (length names) chosen)
        (λ t. result_and_then (stmt_resolved context names (length names) other)
        (λ o. Ok (tree.IfElse c t o))))
        (expr_as_known known context knows names Boolean condition)
        (λ c h. then_gives (IsKnownStmt known) (IsKnownStmt known)
        (stmt_resolved context names (length names) chosen)
        (λ t. result_and_then (stmt_resolved context names (length names) other)
        (λ o. Ok (tree.IfElse c t o))) (stmt_known names (length names) chosen)
        (λ t h'. then_gives (IsKnownStmt known) (IsKnownStmt known)
        (stmt_resolved context names (length names) other) (λ o. Ok (tree.IfElse c t o))
        (stmt_known names (length names) other) (λ o h''. record { 0 = h; 1 = h'; 2 = h'' })))
    stmt_known names outer (tree.While condition body) =
        then_gives (IsKnown known) (IsKnownStmt known) (expr_as context names Boolean condition)
        (λ c. result_and_then (stmt_resolved context names (length names) body)
        (λ b. Ok (tree.While c b))) (expr_as_known known context knows names Boolean condition)
        (λ c h. then_gives (IsKnownStmt known) (IsKnownStmt known)
        (stmt_resolved context names (length names) body) (λ b. Ok (tree.While c b))
        (stmt_known names (length names) body) (λ b h'. (h, h')))
    stmt_known names outer (tree.For first condition step body) =
        let inner = names_after names first in
        let count = length inner in
        let of = IsKnownStmt known in
        then_gives of of (stmt_resolved context names (length names) first)
        (λ f. result_and_then (initial_resolved context inner Boolean condition)
        (λ c. result_and_then (stmt_resolved context inner count step)
        (λ s. result_and_then (stmt_resolved context inner count body)
        (λ b. Ok (tree.For f c s b))))) (stmt_known names (length names) first)
        (λ f hf. then_gives (IsKnownOption known) of
        (initial_resolved context inner Boolean condition)
        (λ c. result_and_then (stmt_resolved context inner count step)
        (λ s. result_and_then (stmt_resolved context inner count body)
        (λ b. Ok (tree.For f c s b))))
        (initial_known known context knows inner Boolean condition)
        (λ c hc. then_gives of of (stmt_resolved context inner count step)
        (λ s. result_and_then (stmt_resolved context inner count body)
        (λ b. Ok (tree.For f c s b))) (stmt_known inner count step)
        (λ s hs. then_gives of of (stmt_resolved context inner count body)
        (λ b. Ok (tree.For f c s b)) (stmt_known inner count body)
        (λ b hb. record { 0 = hf; 1 = hc; 2 = hs; 3 = hb }))))
    stmt_known names outer (tree.Push value) =
        given_known names context.pushes value tree.Push (λ e h. h)
    stmt_known names outer (tree.Print value) =
        given_known names context.prints value tree.Print (λ e h. h)
    stmt_known names outer (tree.Println value) =
        given_known names context.prints value tree.Println (λ e h. h)
    stmt_known names outer (tree.Return value) =
        then_gives (IsKnownOption known) (IsKnownStmt known)
        (returned context names context.returns value) (λ v. Ok (tree.Return v))
        (returned_known names context.returns value) (λ v h. h)

    pub stmts_known : (names : TypedNames) (outer : ℕ) (block : tree.Stmts)
        → Gives (AreKnown known) (stmts_resolved context names outer block)
    stmts_known names outer tree.Done = tt
    stmts_known names outer (tree.Then first rest) =
        let inner = names_after names first in
        then_gives (IsKnownStmt known) (AreKnown known) (stmt_resolved context names outer first)
        (λ f. result_and_then (stmts_resolved context inner outer rest)
        (λ r. Ok (tree.Then f r))) (stmt_known names outer first)
        (λ f h. then_gives (AreKnown known) (AreKnown known)
        (stmts_resolved context inner outer rest) (λ r. Ok (tree.Then f r))
        (stmts_known inner outer rest) (λ r h'. (h, h')))
