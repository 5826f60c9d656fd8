-- Where code leads: a machine that is where a store is.
use Rattle.std.proofs.Common.{◌≡◌, ℕ, ◌-◌, ◌≤◌, Bool, true, false, ℤ, List, ◌++◌, length, drop}
use Rattle.std.proofs.Common.{Result, refl, sym, ap}
use Rattle.std.proofs.Common.{◌∙◌, subst, arith, append_assoc}
use Rattle.strc_parse_tree.specs.Tree as tree
use Rattle.strc_work_meaning.specs.declared.fault.Cause.{Cause}
use Rattle.strc_work_meaning.specs.Arithmetic.{is_true}
use Rattle.strc_work_meaning.specs.Scoping.{Scope, answer_name, total, names_after, slot_of}
use Rattle.strc_work_meaning.specs.Returns.{stmt_shadows, stmts_shadow}
use Rattle.strc_work_meaning.specs.Closed.{IsNamed, IsClosedStmt, AreClosed}
use Rattle.strc_work_meaning.specs.Firing.{Setting, Variables, Store, block_left, inside}
use Rattle.strc_work_meaning.specs.Firing.{has_returned, stmt_done, stmts_done}
use Rattle.strc_work_code.specs.Nodes.{Machine, Nodes, slot_value, nodes_done, nodes_room}
use Rattle.strc_work_code.specs.Lowering.{stmt_nodes, stmts_nodes}
use Rattle.strc_work_meaning.proofs.Growth.{IsBaseOf, base_of_itself, base_of_after, drop_inner}
use Rattle.strc_work.proofs.Variables.{scope_of, Holds, Holds-drop, length-scope_of, scope_of-drop}
use Rattle.strc_work.proofs.Related.{Related, weaker_related, map_related}
use Rattle.strc_work.proofs.Standing.{Stands}
use Rattle.strc_work.proofs.Expressions.{IsInSlot, Ready, machine_at, named_value}
use Rattle.strc_work.proofs.Answered.{Answers, AnswersAll}

-- the machine is where the store is, among these names
pub record Reaches (names : Scope) (size : ℕ) (given : Store) (after : Machine) : Type 0 where
  pub traffic : after.traffic ≡ given.traffic
  pub names_are : scope_of given.variables ≡ names
  pub holds : Holds given.variables after.slots
  pub same : length after.slots ≡ size
  pub roomy : total names ≤ size

-- the same, among names that stand on these
pub record ReachesOn (names : Scope) (size : ℕ) (given : Store) (after : Machine) : Type 0 where
  pub traffic : after.traffic ≡ given.traffic
  pub base : IsBaseOf names (scope_of given.variables)
  pub holds : Holds given.variables after.slots
  pub same : length after.slots ≡ size

-- each name of a statement is declared, nothing shadows the answer, and a `return` is an answer
abbrev pub IsRunnable : Setting → Scope → tree.Stmt → Type 0
IsRunnable setting names s =
    IsClosedStmt names s × (stmt_shadows s ≡ false) × Answers setting names s

abbrev pub AreRunnable : Setting → Scope → (returns : Bool) → tree.Stmts → Type 0
AreRunnable setting names returns b =
    AreClosed names b × (stmts_shadow b ≡ false) × AnswersAll setting names returns b

abbrev pub RunsStmt : Setting → tree.Stmt → Type 0
RunsStmt setting s = (names : Scope) (store : Store) (slots : List ℤ) → IsRunnable setting names s
    → Stands setting names → Ready names (total names) store slots
    → nodes_room (stmt_nodes names s) ≤ length slots
    → Related (Reaches (names_after names s) (length slots)) (stmt_done setting s store)
    (nodes_done setting (stmt_nodes names s) (machine_at slots store))

-- there is no answer yet
abbrev pub IsUnanswered : Scope → Store → Type 0
IsUnanswered names store = IsNamed names answer_name × (has_returned store ≡ false)

-- where a `return` may stand before them it has not been run
abbrev pub RunsStmts : Setting → tree.Stmts → Type 0
RunsStmts setting b = (returns : Bool) (names : Scope) (store : Store) (slots : List ℤ)
    → AreRunnable setting names returns b → Stands setting names
    → Ready names (total names) store slots → (returns ≡ true → IsUnanswered names store)
    → nodes_room (stmts_nodes names returns b) ≤ length slots
    → Related (ReachesOn names (length slots)) (stmts_done setting b store)
    (nodes_done setting (stmts_nodes names returns b) (machine_at slots store))

-- the answer's slot says whether there is an answer
pub answer_tested : (names : Scope) (size : ℕ) (given : Store) (m : Machine)
    → Reaches names size given m → IsNamed names answer_name
    → is_true (slot_value m (slot_of names answer_name)) ≡ has_returned given
answer_tested names size given m reaches named =
    let same = reaches.same in
    let roomy = reaches.roomy in
    let ready : Ready names (total names) given m.slots =
    record {
      names_are = reaches.names_are;
      holds = reaches.holds;
      above = omega arith;
      roomy = omega arith;
    } in
    ap is_true (named_value names (total names) given m.slots answer_name ready named)

pub few : (names : Scope) (variables : Variables) → scope_of variables ≡ names
    → total (scope_of variables) ≡ total names
few names variables e = ap total e

-- a store that is reached already
pub empty_reaches : (names : Scope) (store : Store) (slots : List ℤ)
    → Ready names (total names) store slots
    → Reaches names (length slots) store (machine_at slots store)
empty_reaches names store slots ready = record {
  traffic = refl;
  names_are = ready.names_are;
  holds = ready.holds;
  same = refl;
  roomy = ready.roomy;
}

-- a value's slot is no more looked at
pub in_slot_reaches : (names : Scope) (slot : ℕ) (slots : List ℤ) (given : ℤ × Store) (m : Machine)
    → total names ≤ length slots → IsInSlot names slot (total names) slots given m
    → Reaches names (length slots) given.1 m
in_slot_reaches names slot slots given m roomy in_slot = record {
  traffic = in_slot.traffic;
  names_are = in_slot.names_are;
  holds = in_slot.holds;
  same = in_slot.size;
  roomy = roomy;
}

-- the inner variables of a block are left
pub left_reaches : (names : Scope) (slots : List ℤ) (store inner : Store) (after : Machine)
    → Ready names (total names) store slots → ReachesOn names (length slots) inner after
    → Reaches names (length slots) (block_left store inner) after
left_reaches names slots store inner after ready reaches =
    let n = length inner.variables - length store.variables in
    let count : length store.variables ≡ length names =
    sym (length-scope_of store.variables) ∙ ap length ready.names_are in
    let few_inner : n ≡ length (scope_of inner.variables) - length names =
    ap (λ k. k - length store.variables) (sym (length-scope_of inner.variables))
    ∙ ap (λ k. length (scope_of inner.variables) - k) count in
    record {
      traffic = reaches.traffic;
      names_are = scope_of-drop n inner.variables
          ∙ ap (λ k. drop k (scope_of inner.variables)) few_inner
          ∙ drop_inner names (scope_of inner.variables) reaches.base;
      holds = Holds-drop inner.variables after.slots n reaches.holds;
      same = reaches.same;
      roomy = ready.roomy;
    }

pub base_of_more : (base middle names : Scope) → IsBaseOf base middle → IsBaseOf middle names
    → IsBaseOf base names
base_of_more base middle names h h' = record {
  inner = h'.inner ++ h.inner;
  is = h'.is ∙ ap (λ l. h'.inner ++ l) h.is ∙ sym (append_assoc h'.inner h.inner base);
}

-- what a statement adds is inside the names before it
pub reaches_on : (names : Scope) (size : ℕ) (s : tree.Stmt) (given : Store) (after : Machine)
    → Reaches (names_after names s) size given after → ReachesOn names size given after
reaches_on names size s given after reaches = record {
  traffic = reaches.traffic;
  base = subst (IsBaseOf names) (sym reaches.names_are)
      (base_of_after names names s (base_of_itself names));
  holds = reaches.holds;
  same = reaches.same;
}

-- the rest of a block, from where its first statement leads
pub rest_runs : (setting : Setting) (first : tree.Stmt) (rest : tree.Stmts) → RunsStmts setting rest
    → (returns : Bool) (names : Scope) (slots : List ℤ) (given : Store) (m : Machine)
    → AreRunnable setting (names_after names first) returns rest
    → Stands setting (names_after names first)
    → (returns ≡ true → IsUnanswered (names_after names first) given)
    → nodes_room (stmts_nodes (names_after names first) returns rest) ≤ length slots
    → Reaches (names_after names first) (length slots) given m
    → Related (ReachesOn names (length slots)) (stmts_done setting rest given)
    (nodes_done setting (stmts_nodes (names_after names first) returns rest) m)
rest_runs setting first rest run returns names slots given m runnable stands unanswered room
    reaches =
    let names' = names_after names first in
    let same = reaches.same in
    let roomy = reaches.roomy in
    let code = stmts_nodes names' returns rest in
    let ready : Ready names' (total names') given m.slots =
    record {
      names_are = reaches.names_are;
      holds = reaches.holds;
      above =
          omega arith;
      roomy = omega arith;
    } in
    let room' : nodes_room code ≤ length m.slots = omega arith in
    let m_is : m ≡ machine_at m.slots given =
    ap (λ t. record { slots = m.slots; traffic = t }) reaches.traffic in
    subst (λ n. Related (ReachesOn names (length slots)) (stmts_done setting rest given)
    (nodes_done setting code n)) (sym m_is)
    (weaker_related (ReachesOn names' (length m.slots)) (ReachesOn names (length slots))
    (stmts_done setting rest given) (nodes_done setting code
    (machine_at m.slots given)) (run returns names' given m.slots runnable stands ready unanswered
    room')
    (λ store after r. record {
      traffic = r.traffic;
      base = base_of_more names names' (scope_of store.variables)
          (base_of_after names names first (base_of_itself names)) r.base;
      holds = r.holds;
      same = r.same ∙ same;
    }))

-- code after other code, from where that leads
pub go_on : (setting : Setting) (code : Nodes) (names names' : Scope) (size : ℕ)
    (does : Store → Result Store Cause) → ((store : Store) (slots : List ℤ) → length slots ≡ size
    → Ready names (total names) store slots
    → Related (Reaches names' (length slots)) (does store)
    (nodes_done setting code (machine_at slots store))) → (given : Store) (m : Machine)
    → Reaches names size given m → Related (Reaches names' size) (does given)
    (nodes_done setting code m)
go_on setting code names names' size does run given m reaches =
    let same = reaches.same in
    let roomy = reaches.roomy in
    let ready : Ready names (total names) given m.slots =
    record {
      names_are = reaches.names_are;
      holds = reaches.holds;
      above =
          omega arith;
      roomy = omega arith;
    } in
    let m_is : m ≡ machine_at m.slots given =
    ap (λ t. record { slots = m.slots; traffic = t }) reaches.traffic in
    subst (λ n. Related (Reaches names' size) (does given) (nodes_done setting code n)) (sym m_is)
    (subst (λ n. Related (Reaches names' n) (does given)
    (nodes_done setting code (machine_at m.slots given))) same (run given m.slots same ready))

-- a statement in a scope of its own
pub inside_runs : (setting : Setting) (s : tree.Stmt) → RunsStmt setting s
    → (names : Scope) (store : Store) (slots : List ℤ) → IsRunnable setting names s
    → Stands setting names → Ready names (total names) store slots
    → nodes_room (stmt_nodes names s) ≤ length slots
    → Related (Reaches names (length slots)) (inside (stmt_done setting s) store)
    (nodes_done setting (stmt_nodes names s) (machine_at slots store))
inside_runs setting s run names store slots closed stands ready room =
    map_related (Reaches (names_after names s) (length slots)) (Reaches names (length slots))
    (block_left store) (stmt_done setting s store)
    (nodes_done setting (stmt_nodes names s) (machine_at slots store))
    (run names store slots closed stands ready room) (λ inner after reaches.
    left_reaches names slots store inner after ready
    (reaches_on names (length slots) s inner after reaches))

-- the same, from where other code has led
pub inside_goes_on : (setting : Setting) (s : tree.Stmt) → RunsStmt setting s → (names : Scope)
    (size : ℕ)
    → IsRunnable setting names s → Stands setting names → nodes_room (stmt_nodes names s) ≤ size
    → (given : Store) (m : Machine)
    → Reaches names size given m → Related (Reaches names size) (inside (stmt_done setting s) given)
    (nodes_done setting (stmt_nodes names s) m)
inside_goes_on setting s run names size closed stands room given m reaches =
    go_on setting (stmt_nodes names s) names names size (inside (stmt_done setting s))
    (λ store slots same ready. inside_runs setting s run names store slots closed stands ready
    (omega arith)) given m reaches
