-- The code of declarations.
use Rattle.std.proofs.Common.{◌≡◌, ℕ, zero, suc, ◌+◌, ◌<◌, ◌≤◌, ℤ, pos, List, [], ◌∷◌, ◌++◌, length}
use Rattle.std.proofs.Common.{set, take, drop, replicate, Option, Some, None, Result, refl, sym, ap}
use Rattle.std.proofs.Common.{◌∙◌, subst, arith, length-append}
use Rattle.std.proofs.lemmas.List.{get_or-set_same, length-set, length-take-le, length-replicate}
use Rattle.std.proofs.lemmas.List.{length-drop, get_or_append_left, get_or-append-add, get_or-take}
use Rattle.std.proofs.lemmas.List.{get_or-replicate}
use Rattle.strc_lex_names.specs.Results.{result_and_then}
use Rattle.strc_parse_tree.specs.Tree as tree
use Rattle.strc_work_meaning.specs.declared.fault.Cause.{Cause}
use Rattle.strc_work_meaning.specs.Scoping.{Scope, total, with_declared}
use Rattle.strc_work_meaning.specs.Closed.{IsClosedInitial, FitsInitial, AreClosedVariables}
use Rattle.strc_work_meaning.specs.Firing.{Setting, Store, value_of, declared_in, initial_cells}
use Rattle.strc_work_meaning.specs.Firing.{variables_declared}
use Rattle.strc_work_code.specs.Nodes.{Machine, cleared, nodes_done, nodes_room}
use Rattle.strc_work_code.specs.Lowering.{expr_nodes, initial_nodes, variables_nodes}
use Rattle.strc_work.proofs.Variables.{scope_of, at, HoldsFrom, Holds, Holds-same, Holds-set_above}
use Rattle.strc_work.proofs.Related.{Related, then_related, map_related, nodes_done-before}
use Rattle.strc_work_code.proofs.Spelled.{nodes_room-before}
use Rattle.strc_work.proofs.Standing.{Stands, stands_declared}
use Rattle.strc_work.proofs.Expressions.{Arrives, Ready, machine_at, expr_room}
use Rattle.strc_work.proofs.ExpressionRuns.{expr_runs}
use Rattle.strc_work.proofs.Reaching.{Reaches, empty_reaches, go_on}

-- ---- slots that get 0

length-cleared : (base n : ℕ) (slots : List ℤ) → base + n ≤ length slots
    → length (cleared base n slots) ≡ length slots
length-cleared base n slots room =
    let front = take base slots in
    let zeros = replicate n (pos 0) in
    let back = drop (base + n) slots in
    let inner = length-append zeros back in
    omega (
      arith,
      length-append front (zeros ++ back),
      inner,
      length-take-le base slots,
      length-replicate n (pos 0),
      length-drop (base + n) slots,
    )

cleared_below : (base n : ℕ) (slots : List ℤ) (k : ℕ) → base + n ≤ length slots → k < base
    → at (cleared base n slots) k ≡ at slots k
cleared_below base n slots k room lt =
    let size : length (take base slots) ≡ base = length-take-le base slots (omega arith) in
    get_or_append_left (take base slots) (replicate n (pos 0) ++ drop (base + n) slots) (pos 0) k
    (omega arith) ∙ get_or-take base slots k (pos 0) lt

cleared_at : (base n : ℕ) (slots : List ℤ) (k : ℕ) → base + n ≤ length slots → k < n
    → at (cleared base n slots) (base + k) ≡ pos 0
cleared_at base n slots k room lt =
    let front = take base slots in
    let zeros = replicate n (pos 0) in
    let back = drop (base + n) slots in
    let size : length front ≡ base = length-take-le base slots (omega arith) in
    let many : length zeros ≡ n = length-replicate n (pos 0) in
    ap (λ b. at (cleared base n slots) (b + k)) (sym size)
    ∙ get_or-append-add front (zeros ++ back) k (pos 0)
    ∙ get_or_append_left zeros back (pos 0) k (omega arith)
    ∙ get_or-replicate n k (pos 0) (pos 0) lt

-- ---- new cells

-- the cells of a new variable are above those of the others
record Declares (names : Scope) (cells size : ℕ) (given : List ℤ × Store) (after : Machine) : Type 0
  where
    pub traffic : after.traffic ≡ given.1.traffic
    pub names_are : scope_of given.1.variables ≡ names
    pub holds : Holds given.1.variables after.slots
    pub cells_are : length given.0 ≡ cells
    pub cells_hold : HoldsFrom (total names) given.0 after.slots
    pub same : length after.slots ≡ size

declared_reaches : (names : Scope) (name : List ℕ) (cells size : ℕ) (given : List ℤ × Store)
    (after : Machine) → 1 ≤ cells → total names + cells ≤ size
    → Declares names cells size given after
    → Reaches (record { 0 = name; 1 = cells } ∷ names) size (declared_in given.1 name given.0) after
declared_reaches names name cells size given after some room declares =
    let cells_are = declares.cells_are in
    record {
      traffic = declares.traffic;
      names_are =
          ap (λ n. record { 0 = name; 1 = n } ∷ scope_of given.1.variables) cells_are
          ∙ ap (λ l. record { 0 = name; 1 = cells } ∷ l) declares.names_are;
      holds = (
        omega arith,
        subst (λ n. HoldsFrom n given.0 after.slots)
            (sym (ap total declares.names_are)) declares.cells_hold,
        declares.holds,
      );
      same = declares.same;
      roomy = omega arith;
    }

one_holds : (base : ℕ) (value : ℤ) (slots : List ℤ) → at slots base ≡ value
    → HoldsFrom base (value ∷ []) slots
one_holds base value slots e zero lt = let same : base + 0 ≡ base = omega arith in
    ap (at slots) same ∙ e
one_holds base value slots e (suc k) lt = absurd (omega arith)

zeros_hold : (base n : ℕ) (slots : List ℤ) → ((k : ℕ) → k < n → at slots (base + k) ≡ pos 0)
    → HoldsFrom base (replicate n (pos 0)) slots
zeros_hold base n slots zeros k lt =
    let size = length-replicate n (pos 0) in
    let lt' : k < n = omega arith in
    zeros k lt' ∙ sym (get_or-replicate n k (pos 0) (pos 0) lt')

-- a value in the slot above the others
value_declares : (names : Scope) (cells : ℕ) (value : ℤ) (store : Store) (slots : List ℤ) (size : ℕ)
    → scope_of store.variables ≡ names → Holds store.variables slots → length slots ≡ size
    → total names < size → cells ≡ 1 → Declares names cells size (value ∷ [], store)
    (record { slots = set slots (total names) value; traffic = store.traffic })
value_declares names cells value store slots size names_are holds same within one_cell =
    let few = ap total names_are in
    let lt : total names < length slots = omega arith in
    record {
      traffic = refl;
      names_are = names_are;
      holds = Holds-set_above store.variables slots (total names) value (omega arith) holds;
      cells_are = sym one_cell;
      cells_hold = one_holds (total names) value (set slots (total names) value)
          (get_or-set_same slots (total names) value (pos 0) lt);
      same = length-set slots (total names) value ∙ same;
    }

-- zeros in the slots above the others
zeros_declare : (names : Scope) (cells : ℕ) (store : Store) (slots : List ℤ)
    → Ready names (total names + cells) store slots → total names + cells ≤ length slots
    → Declares names cells (length slots) (replicate cells (pos 0), store)
    (record { slots = cleared (total names) cells slots; traffic = store.traffic })
zeros_declare names cells store slots ready room =
    let base = total names in
    let few = ap total ready.names_are in
    record {
      traffic = refl;
      names_are = ready.names_are;
      holds = Holds-same store.variables slots (cleared base cells slots)
          (λ k lt. cleared_below base cells slots k room (omega arith)) ready.holds;
      cells_are = length-replicate cells (pos 0);
      cells_hold = zeros_hold base cells (cleared base cells slots)
          (λ k lt. cleared_at base cells slots k room lt);
      same = length-cleared base cells slots room;
    }

-- ---- initialisers

-- each variable has a cell
pub some_cell : (cells : ℕ) (initial : Option tree.Expr) → FitsInitial cells initial → 1 ≤ cells
some_cell cells None fits = fits
some_cell cells (Some initial) fits = omega arith

initial_room : (names : Scope) (cells : ℕ) (initial : Option tree.Expr) (into free : ℕ)
    → IsClosedInitial names initial → FitsInitial cells initial
    → into + cells ≤ nodes_room (initial_nodes names cells initial into free)
initial_room names zero None into free closed fits = absurd (omega arith)
initial_room names (suc zero) None into free closed fits = omega arith
initial_room names (suc (suc more)) None into free closed fits = omega arith
initial_room names cells (Some initial) into free closed fits =
    let room = expr_room names initial into free closed in omega arith

initial_runs : (setting : Setting) (initial : Option tree.Expr) (names : Scope) (cells : ℕ)
    (store : Store) (slots : List ℤ) → IsClosedInitial names initial → FitsInitial cells initial
    → Stands setting names → Ready names (total names + cells) store slots
    → nodes_room (initial_nodes names cells initial (total names) (total names + cells))
    ≤ length slots → total names + cells ≤ length slots
    → Related (Declares names cells (length slots)) (initial_cells setting cells initial store)
    (nodes_done setting (initial_nodes names cells initial (total names) (total names + cells))
    (machine_at slots store))
initial_runs setting None names zero store slots closed fits stands ready room within = absurd
    (omega arith)
initial_runs setting None names (suc zero) store slots closed fits stands ready room within =
    value_declares names 1 (pos 0) store slots (length slots) ready.names_are ready.holds refl
    (omega arith) refl
initial_runs setting None names (suc (suc more)) store slots closed fits stands ready room within =
    zeros_declare names (suc (suc more)) store slots ready within
initial_runs setting (Some initial) names cells store slots closed fits stands ready room within =
    let into = total names in
    let free = total names + cells in
    let lt : into < length slots = omega arith in
    map_related (Arrives names into free slots) (Declares names cells (length slots))
    (λ given. (given.0 ∷ [], given.1)) (value_of setting initial store)
    (nodes_done setting (expr_nodes names initial into free) (machine_at slots store))
    (expr_runs setting initial names into free store slots closed stands ready room)
    (λ given after arrives.
    subst (Declares names cells (length slots) (given.0 ∷ [], given.1)) (sym arrives.written)
    (value_declares names cells given.0 given.1 arrives.slots
    (length slots) arrives.names_are arrives.holds arrives.size lt fits))

-- ---- variables

abbrev RunsVariables : Setting → (cells : ℕ) → List tree.Variable → Type 0
RunsVariables setting cells vs = (names : Scope) (store : Store) (slots : List ℤ)
    → AreClosedVariables names cells vs → Stands setting names
    → Ready names (total names) store slots
    → nodes_room (variables_nodes names cells vs) ≤ length slots
    → Related (Reaches (with_declared names cells vs) (length slots))
    (variables_declared setting cells vs store)
    (nodes_done setting (variables_nodes names cells vs) (machine_at slots store))

-- the code of variables that are declared one after another
pub variables_run : (setting : Setting) (cells : ℕ) (vs : List tree.Variable)
    → RunsVariables setting cells vs
variables_run setting cells [] names store slots closed stands ready room =
    empty_reaches names store slots ready
variables_run setting cells (first ∷ rest) names store slots closed stands ready room =
    let free = total names + cells in
    let names' : Scope = record { 0 = first.name; 1 = cells } ∷ names in
    let a = initial_nodes names cells first.initial (total names) free in
    let b = variables_nodes names' cells rest in
    let stands' = stands_declared setting names (record { 0 = first.name; 1 = cells }) stands in
    let some = some_cell cells first.initial closed.1 in
    let within : free ≤ length slots = omega (
      arith,
      nodes_room-before a b,
      initial_room names cells first.initial
          (total names) free closed.0 closed.1,
    ) in
    let room_a : nodes_room a ≤ length slots = omega (arith, nodes_room-before a b) in
    let room_b : nodes_room b ≤ length slots = omega (arith, nodes_room-before a b) in
    let ready' : Ready names free store slots =
    record {
      names_are = ready.names_are;
      holds = ready.holds;
      above = omega arith;
      roomy =
          ready.roomy;
    } in
    let go : List ℤ × Store → Result Store Cause =
    λ given. variables_declared setting cells rest (declared_in given.1 first.name given.0) in
    subst (Related (Reaches (with_declared names' cells rest) (length slots))
    (result_and_then (initial_cells setting cells first.initial store) go))
    (sym (nodes_done-before setting a b (machine_at slots store)))
    (then_related (Declares names cells (length slots))
    (Reaches (with_declared names' cells rest) (length slots))
    (initial_cells setting cells first.initial store)
    (nodes_done setting a (machine_at slots store)) go
    (nodes_done setting b) (initial_runs setting first.initial names cells store slots closed.0
    closed.1 stands ready' room_a within) (λ given m is declares.
    go_on setting b names' (with_declared names' cells rest) (length slots)
    (variables_declared setting cells rest)
    (λ store' slots' same ready''. variables_run setting cells rest names' store' slots' closed.2
    stands' ready'' (omega arith))
    (declared_in given.1 first.name given.0) m
    (declared_reaches names first.name cells (length slots) given m some within declares)))
