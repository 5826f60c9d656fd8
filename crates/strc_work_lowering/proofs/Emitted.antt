-- The code of operators and statements, piece by piece.
use Rattle.std.proofs.Common.{◌≡◌, ℕ, ◌+◌, ◌-◌, Bool, true, false, ◌||◌, cond, List, [], ◌∷◌}
use Rattle.std.proofs.Common.{length}
use Rattle.std.proofs.Common.{drop, Some, None, Result, Ok, Err, OnOk, refl, sym, ap, ◌∙◌}
use Rattle.std.specs.Prelude.{unwrap_or}
use Rattle.strc_parse_tree.specs.declared.tree.AssignOperator.{AssignOperator}
use Rattle.strc_parse_tree.specs.declared.tree.AssignOperator.TheVariants as assign
use Rattle.strc_work_code.specs.declared.inst.Inst.TheVariants as act
use Rattle.strc_work_meaning.specs.Firing.{assigned_value}
use Rattle.strc_work_lowering.specs.Emission.{compound_of, old_slot, old_nodes}
use Rattle.strc_parse_tree.specs.Tree as tree
use Rattle.strc_parse_tree.specs.declared.tree.BinaryOperator.{BinaryOperator}
use Rattle.strc_parse_tree.specs.declared.tree.BinaryOperator.TheVariants as binary
use Rattle.strc_work_code.specs.Nodes.{Nodes, before}
use Rattle.strc_work_code.specs.Lowering.{one, unless_there, writes_no_variable, binary_step}
use Rattle.strc_work_code.specs.Lowering.{expr_nodes}
use Rattle.strc_work_code.specs.Lowering.{arguments_nodes, operand_nodes, operand_slot}
use Rattle.strc_work_code.specs.Lowering.{initial_nodes}
use Rattle.strc_work_code.specs.Lowering.{variables_nodes}
use Rattle.strc_work_code.specs.Lowering.{field_nodes, fields_nodes, initials_nodes, inits_nodes}
use Rattle.strc_work_code.specs.Lowering.{stmt_nodes, stmts_nodes, element_nodes, compound_nodes}
use Rattle.strc_work_code.specs.Lowering.{unless_answered}
use Rattle.strc_work_meaning.specs.Returns.{stmt_returns}
use Rattle.strc_work_meaning.specs.Scoping.{Scope, names_after, total, slot_of, size_of}
use Rattle.strc_work_meaning.proofs.Growth.{drop_inner, base_of_after, base_of_itself}
use Rattle.strc_work_code.proofs.Nodes.{before_assoc, before_end}

-- the code of one more statement
pub stmts_nodes_more : (names names' : Scope) (returns returns' : Bool) (old new : Nodes)
    (first : tree.Stmt) (rest : tree.Stmts)
    → new ≡ before old (unless_answered names returns (stmt_nodes names first))
    → names' ≡ names_after names first → returns' ≡ returns || stmt_returns first
    → before new (stmts_nodes names' returns' rest)
    ≡ before old (stmts_nodes names returns (tree.Then first rest))
stmts_nodes_more names names' returns returns' old new first rest code scope returning =
    let after = names_after names first in
    ap (λ n. before new (stmts_nodes n returns' rest)) scope
    ∙ ap (λ r. before new (stmts_nodes after r rest)) returning
    ∙ ap (λ s. before s (stmts_nodes after (returns || stmt_returns first) rest)) code
    ∙ before_assoc old (unless_answered names returns (stmt_nodes names first))
    (stmts_nodes after (returns || stmt_returns first) rest)

-- the code of one more argument
pub arguments_nodes_more : (names : Scope) (slot next : ℕ) (old new : Nodes) (first : tree.Expr)
    (rest : tree.Arguments) → next ≡ slot + 1
    → new ≡ before old (expr_nodes names first slot next)
    → before new (arguments_nodes names rest next)
    ≡ before old (arguments_nodes names (tree.Argument first rest) slot)
arguments_nodes_more names slot next old new first rest e code =
    ap (λ s. before s (arguments_nodes names rest next)) code
    ∙ before_assoc old (expr_nodes names first slot next) (arguments_nodes names rest next)
    ∙ ap (λ n. before old (before (expr_nodes names first slot n) (arguments_nodes names rest n))) e

-- the names that are left after a statement in a scope of its own
pub left_after : (names : Scope) (s : tree.Stmt)
    → drop (length (names_after names s) - length names) (names_after names s) ≡ names
left_after names s = drop_inner names (names_after names s)
    (base_of_after names names s (base_of_itself names))

-- one more part after what was written
more : (old new first rest all : Nodes) → new ≡ before old first → before first rest ≡ all
    → before new rest ≡ before old all
more old new first rest all e whole = ap (λ n. before n rest) e ∙ before_assoc old first rest
    ∙ ap (before old) whole

pub variables_more : (names names' : Scope) (cells : ℕ) (old new : Nodes) (first : tree.Variable)
    (rest : List tree.Variable) → new ≡ before old
    (initial_nodes names cells first.initial (total names) (total names + cells))
    → names' ≡ record { 0 = first.name; 1 = cells } ∷ names
    → before new (variables_nodes names' cells rest)
    ≡ before old (variables_nodes names cells (first ∷ rest))
variables_more names names' cells old new first rest code scope =
    ap (λ n. before new (variables_nodes n cells rest)) scope
    ∙ more old new (initial_nodes names cells first.initial (total names) (total names + cells))
    (variables_nodes (record { 0 = first.name; 1 = cells } ∷ names) cells rest)
    (variables_nodes names cells (first ∷ rest)) code refl

pub fields_more : (names : Scope) (old new : Nodes) (first : tree.Variable)
    (rest : List tree.Variable) → new ≡ before old (field_nodes names first.name first.initial)
    → before new (fields_nodes names rest) ≡ before old (fields_nodes names (first ∷ rest))
fields_more names old new first rest code =
    more old new (field_nodes names first.name first.initial) (fields_nodes names rest)
    (fields_nodes names (first ∷ rest)) code refl

initials_split : (names : Scope) (first : tree.Member) (rest : List tree.Member)
    → before (initials_nodes names (first ∷ [])) (initials_nodes names rest)
    ≡ initials_nodes names (first ∷ rest)
initials_split names (tree.Fields kind variables) rest =
    ap (λ n. before n (initials_nodes names rest)) (before_end (fields_nodes names variables))
initials_split names (tree.Init block) rest = refl
initials_split names (tree.Prework rates block) rest = refl
initials_split names (tree.Work rates block) rest = refl
initials_split names (tree.Helper kind name parameters block) rest = refl

inits_split : (names : Scope) (first : tree.Member) (rest : List tree.Member)
    → before (inits_nodes names (first ∷ [])) (inits_nodes names rest)
    ≡ inits_nodes names (first ∷ rest)
inits_split names (tree.Fields kind variables) rest = refl
inits_split names (tree.Init block) rest =
    ap (λ n. before n (inits_nodes names rest)) (before_end (stmts_nodes names false block))
inits_split names (tree.Prework rates block) rest = refl
inits_split names (tree.Work rates block) rest = refl
inits_split names (tree.Helper kind name parameters block) rest = refl

pub initials_more : (names : Scope) (old new : Nodes) (first : tree.Member)
    (rest : List tree.Member) → new ≡ before old (initials_nodes names (first ∷ []))
    → before new (initials_nodes names rest) ≡ before old (initials_nodes names (first ∷ rest))
initials_more names old new first rest code =
    more old new (initials_nodes names (first ∷ [])) (initials_nodes names rest)
    (initials_nodes names (first ∷ rest)) code (initials_split names first rest)

pub inits_more : (names : Scope) (old new : Nodes) (first : tree.Member) (rest : List tree.Member)
    → new ≡ before old (inits_nodes names (first ∷ []))
    → before new (inits_nodes names rest) ≡ before old (inits_nodes names (first ∷ rest))
inits_more names old new first rest code =
    more old new (inits_nodes names (first ∷ [])) (inits_nodes names rest)
    (inits_nodes names (first ∷ rest)) code (inits_split names first rest)

-- a compound assignment: its old value, its operand, and the operator's step
pieces : (t : Bool) (slot free : ℕ) (whole : Nodes → ℕ → Nodes)
    → whole (unless_there (cond t (Some slot) None) (one (act.Copy free slot)))
    (unwrap_or (cond t (Some slot) None) free)
    ≡ whole (old_nodes t slot free) (old_slot t slot free)
pieces true slot free whole = refl
pieces false slot free whole = refl

abbrev compound : Scope → List ℕ → BinaryOperator → tree.Expr → (into free : ℕ) → Nodes → ℕ → Nodes
compound names name operator value into free left at =
    before left (before (operand_nodes names true value (free + 1))
    (one (binary_step operator into at (operand_slot names true value (free + 1)))))

compound_pieces : (names : Scope) (name : List ℕ) (operator : AssignOperator)
    (plain : BinaryOperator) (value : tree.Expr) (into free : ℕ) → compound_of operator ≡ Some plain
    → expr_nodes names (assigned_value name operator value) into free
    ≡ compound names name plain value into free
    (old_nodes (writes_no_variable value) (slot_of names name) free)
    (old_slot (writes_no_variable value) (slot_of names name) free)
compound_pieces names name assign.Set plain value into free e = absurd (cc)
compound_pieces names name assign.Add plain value into free e = let same : binary.Add ≡ plain =
    cc in rw (sym same)
    (pieces (writes_no_variable
    value) (slot_of names name)
    free (compound names name
    binary.Add value into free))
compound_pieces names name assign.Subtract plain value into free e =
    let same : binary.Subtract ≡ plain = cc in
    rw (sym same) (pieces (writes_no_variable value) (slot_of names name) free
    (compound names name binary.Subtract value into free))
compound_pieces names name assign.Multiply plain value into free e =
    let same : binary.Multiply ≡ plain = cc in
    rw (sym same) (pieces (writes_no_variable value) (slot_of names name) free
    (compound names name binary.Multiply value into free))
compound_pieces names name assign.Divide plain value into free e =
    let same : binary.Divide ≡ plain = cc in
    rw (sym same) (pieces (writes_no_variable value) (slot_of names name) free
    (compound names name binary.Divide value into free))
compound_pieces names name assign.Remainder plain value into free e =
    let same : binary.Remainder ≡ plain = cc in
    rw (sym same) (pieces (writes_no_variable value) (slot_of names name) free
    (compound names name binary.Remainder value into free))

pub assigned_more : (names : Scope) (name : List ℕ) (operator : AssignOperator)
    (plain : BinaryOperator) (value : tree.Expr) (into free left right : ℕ)
    (old first second last : Nodes) → compound_of operator ≡ Some plain
    → left ≡ old_slot (writes_no_variable value) (slot_of names name) free
    → first ≡ before old (old_nodes (writes_no_variable value) (slot_of names name) free)
    → right ≡ operand_slot names true value (free + 1)
    → second ≡ before first (operand_nodes names true value (free + 1))
    → last ≡ before second (one (binary_step plain into left right))
    → last ≡ before old (expr_nodes names (assigned_value name operator value) into free)
assigned_more names name operator plain value into free left right old first second last e left_is
    first_is right_is second_is last_is =
    let kept = old_nodes (writes_no_variable value) (slot_of names name) free in
    let operand = operand_nodes names true value (free + 1) in
    let step : Nodes = one (binary_step plain into
    (old_slot (writes_no_variable value) (slot_of names name) free)
    (operand_slot names true value (free + 1))) in
    last_is
    ∙ ap (λ n. before second (one (binary_step plain into n right))) left_is
    ∙ ap (λ n. before second (one (binary_step plain into
    (old_slot (writes_no_variable value) (slot_of names name) free) n))) right_is
    ∙ ap (λ n. before n step) (second_is ∙ ap (λ n. before n operand) first_is)
    ∙ before_assoc (before old kept) operand step
    ∙ before_assoc old kept (before operand step)
    ∙ ap (before old) (sym (compound_pieces names name operator plain value into free e))

-- an assignment to an element
pub element_set_nodes : (names : Scope) (name : List ℕ) (index : ℕ) (operator : AssignOperator)
    (value : tree.Expr) (free : ℕ) → compound_of operator ≡ None
    → before (operand_nodes names true value free)
    (one (act.Store (slot_of names name) (size_of names name) index
    (operand_slot names true value free) 0)) ≡ element_nodes names name index operator value free
element_set_nodes names name index assign.Set value free e = refl
element_set_nodes names name index assign.Add value free e = absurd (cc)
element_set_nodes names name index assign.Subtract value free e = absurd (cc)
element_set_nodes names name index assign.Multiply value free e = absurd (cc)
element_set_nodes names name index assign.Divide value free e = absurd (cc)
element_set_nodes names name index assign.Remainder value free e = absurd (cc)

pub element_compound_nodes : (names : Scope) (name : List ℕ) (index : ℕ) (operator : AssignOperator)
    (plain : BinaryOperator) (value : tree.Expr) (free : ℕ) → compound_of operator ≡ Some plain
    → compound_nodes names name index plain value free
    ≡ element_nodes names name index operator value free
element_compound_nodes names name index assign.Set plain value free e = absurd (cc)
element_compound_nodes names name index assign.Add plain value free e =
    let same : binary.Add ≡ plain = cc in rw (sym same) refl
element_compound_nodes names name index assign.Subtract plain value free e =
    let same : binary.Subtract ≡ plain = cc in rw (sym same) refl
element_compound_nodes names name index assign.Multiply plain value free e =
    let same : binary.Multiply ≡ plain = cc in rw (sym same) refl
element_compound_nodes names name index assign.Divide plain value free e =
    let same : binary.Divide ≡ plain = cc in rw (sym same) refl
element_compound_nodes names name index assign.Remainder plain value free e =
    let same : binary.Remainder ≡ plain = cc in rw (sym same) refl

pub on_ok : {T E : Type 0} (r : Result T E) (P Q : Type 0) → (P → Q) → OnOk r P → OnOk r Q
on_ok (Ok x) P Q f h = f h
on_ok (Err e) P Q f h = tt

-- the code of statements and of elements
pub ruleset statements = (before_assoc, before_end, left_after)

pub ruleset elements = (before_assoc, element_set_nodes, element_compound_nodes)
