-- A filter's code starts it and fires it as its text says.
use Rattle.std.proofs.Common.{◌≡◌, ℕ, ◌+◌, ◌-◌, ◌<◌, ◌≤◌, ℤ, pos, List, [], ◌∷◌, ◌++◌, length, take}
use Rattle.std.proofs.Common.{drop, reverse, replicate, Option, Some, None, Result, Ok, refl, sym}
use Rattle.std.proofs.Common.{ap, ◌∙◌, subst, arith, append_assoc, false}
use Rattle.std.proofs.lemmas.Bool.{false≢true}
use Rattle.std.proofs.lemmas.List.{reverse-append, append-nil, length-take-le, length-drop}
use Rattle.std.proofs.lemmas.List.{get_or-take, get_or-drop, get_or-replicate, length-replicate}
use Rattle.strc_lex_names.specs.Results.{result_and_then}
use Rattle.strc_parse_tree.specs.Tree as tree
use Rattle.strc_work_meaning.specs.declared.fault.Cause.{Cause}
use Rattle.strc_work_meaning.specs.declared.body.Body.{Body}
use Rattle.strc_work_meaning.specs.declared.body.Body.TheVariants as body
use Rattle.strc_work_meaning.specs.Filters.{Filter, sized_all, sized_fields}
use Rattle.strc_work_meaning.specs.Filters.{body_block}
use Rattle.strc_work_meaning.specs.Scoping.{Scope, cells_of, total, slot_of}
use Rattle.strc_work_meaning.specs.Closed.{IsNamed, IsClosedInitial, AreClosedFields}
use Rattle.strc_work_meaning.specs.Closed.{AreClosedMembers, IsClosedFilter}
use Rattle.strc_work_meaning.specs.Firing.{Setting, Variables, Store, Traffic, value_of, assigned}
use Rattle.strc_work_meaning.specs.Firing.{block_left}
use Rattle.strc_work_meaning.specs.Firing.{inside, stmts_done, bound_onto, no_traffic, store_at}
use Rattle.strc_work_meaning.specs.Firing.{field_values, no_io, initial_given, fields_started}
use Rattle.strc_work_meaning.specs.Firing.{members_started, inits_done, started, Fired, port_of}
use Rattle.strc_work_meaning.specs.Firing.{fired}
use Rattle.strc_work_meaning.specs.Firing.{setting_at, setting_of}
use Rattle.strc_work_code.specs.Nodes.{Machine, nodes_done, nodes_room}
use Rattle.strc_work_code.specs.Lowering.{stmts_nodes, field_scope, field_nodes, fields_nodes}
use Rattle.strc_work_code.specs.Lowering.{initials_nodes, inits_nodes, start_nodes, body_nodes}
use Rattle.strc_work_code.specs.Lowering.{slot_count}
use Rattle.strc_work_code.proofs.Totals.{total-reverse}
use Rattle.strc_work_code.proofs.ClosedBodies.{body_kept}
use Rattle.strc_work.proofs.Variables.{scope_of, at, Holds, values-Holds}
use Rattle.strc_work.proofs.Related.{Related, then_related, map_related, nodes_done-before}
use Rattle.strc_work_code.proofs.Spelled.{nodes_room-before}
use Rattle.strc_work.proofs.Standing.{Stands, fields_stand}
use Rattle.strc_work.proofs.Expressions.{Arrives, Ready, machine_at}
use Rattle.strc_work.proofs.ExpressionRuns.{expr_runs}
use Rattle.strc_work.proofs.Reaching.{Reaches, ReachesOn, empty_reaches, left_reaches, go_on}
use Rattle.strc_work.proofs.Answered.{none_answer}
use Rattle.strc_work.proofs.Declarations.{some_cell}
use Rattle.strc_work.proofs.Assignments.{assigned_reaches}
use Rattle.strc_work.proofs.StatementRuns.{stmt_runs, stmts_runs}

-- ---- initialisers

abbrev RunsMembers : Setting → List tree.Member → Type 0
RunsMembers setting ms = (names : Scope) (store : Store) (slots : List ℤ) → AreClosedMembers names
    ms
    → Stands setting names → Ready names (total names) store slots
    → nodes_room (initials_nodes names ms) ≤ length slots
    → Related (Reaches names (length slots)) (members_started setting ms store)
    (nodes_done setting (initials_nodes names ms) (machine_at slots store))

field_runs : (setting : Setting) (name : List ℕ) (initial : Option tree.Expr) (names : Scope)
    (store : Store) (slots : List ℤ) → IsNamed names name × IsClosedInitial names initial
    → Stands setting names → Ready names (total names) store slots
    → nodes_room (field_nodes names name initial) ≤ length slots
    → Related (Reaches names (length slots)) (initial_given setting name initial store)
    (nodes_done setting (field_nodes names name initial) (machine_at slots store))
field_runs setting name None names store slots closed stands ready room = empty_reaches names store
    slots ready
field_runs setting name (Some initial) names store slots closed stands ready room =
    map_related (Arrives names (slot_of names name) (total names) slots)
    (Reaches names (length slots)) (λ given. assigned given.1 name given.0)
    (value_of setting initial store)
    (nodes_done setting (field_nodes names name (Some initial))
    (machine_at slots store)) (expr_runs setting initial names (slot_of names name)
    (total names) store slots closed.1 stands ready room)
    (λ given m arrives. assigned_reaches names name slots given m closed.0 ready.roomy arrives)

fields_run : (setting : Setting) (cells : ℕ) (vs : List tree.Variable) (names : Scope)
    (store : Store) (slots : List ℤ)
    → AreClosedFields names cells vs → Stands setting names → Ready names (total names) store slots
    → nodes_room (fields_nodes names vs) ≤ length slots
    → Related (Reaches names (length slots)) (fields_started setting vs store)
    (nodes_done setting (fields_nodes names vs) (machine_at slots store))
fields_run setting cells [] names store slots closed stands ready room = empty_reaches names store
    slots ready
fields_run setting cells (first ∷ rest) names store slots closed stands ready room =
    let a = field_nodes names first.name first.initial in
    let b = fields_nodes names rest in
    let room_a : nodes_room a ≤ length slots = omega (arith, nodes_room-before a b) in
    let room_b : nodes_room b ≤ length slots = omega (arith, nodes_room-before a b) in
    subst (Related (Reaches names (length slots))
    (result_and_then (initial_given setting first.name first.initial store)
    (fields_started setting rest)))
    (sym (nodes_done-before setting a b (machine_at slots store)))
    (then_related (Reaches names (length slots)) (Reaches names (length slots))
    (initial_given setting first.name first.initial store)
    (nodes_done setting a (machine_at slots store))
    (fields_started setting rest) (nodes_done setting b)
    (field_runs setting first.name first.initial names store slots (closed.0.0, closed.0.1) stands
    ready room_a) (λ given m is reaches.
    go_on setting b names names (length slots) (fields_started setting rest)
    (λ store' slots' same ready'. fields_run setting cells rest names store' slots' closed.1 stands
    ready' (omega arith)) given m reaches))

members_run : (setting : Setting) (ms : List tree.Member) → RunsMembers setting ms
members_run setting [] names store slots closed stands ready room = empty_reaches names store slots
    ready
members_run setting (tree.Fields kind variables ∷ rest) names store slots closed stands ready room =
    let a = fields_nodes names variables in
    let b = initials_nodes names rest in
    let room_a : nodes_room a ≤ length slots = omega (arith, nodes_room-before a b) in
    let room_b : nodes_room b ≤ length slots = omega (arith, nodes_room-before a b) in
    subst (Related (Reaches names (length slots))
    (result_and_then (fields_started setting variables store) (members_started setting rest)))
    (sym (nodes_done-before setting a b (machine_at slots store)))
    (then_related (Reaches names (length slots)) (Reaches names (length slots))
    (fields_started setting variables store) (nodes_done setting a (machine_at slots store))
    (members_started setting rest) (nodes_done setting b)
    (fields_run setting (cells_of kind) variables names store slots closed.0 stands ready room_a)
    (λ given m is reaches.
    go_on setting b names names (length slots) (members_started setting rest)
    (λ store' slots' same ready'. members_run setting rest names store' slots' closed.1 stands
    ready' (omega arith)) given m reaches))
members_run setting (tree.Init block ∷ rest) names store slots closed stands ready room =
    members_run setting rest names store slots closed.1 stands ready room
members_run setting (tree.Prework rates block ∷ rest) names store slots closed stands ready room =
    members_run setting rest names store slots closed.1 stands ready room
members_run setting (tree.Work rates block ∷ rest) names store slots closed stands ready room =
    members_run setting rest names store slots closed.1 stands ready room
members_run setting (tree.Helper kind name parameters block ∷ rest) names store slots closed stands
    ready room =
    members_run setting rest names store slots closed.1 stands ready room

-- ---- blocks of `init`

abbrev RunsInits : Setting → List tree.Member → Type 0
RunsInits setting ms = (names : Scope) (store : Store) (slots : List ℤ) → AreClosedMembers names ms
    → Stands setting names → Ready names (total names) store slots
    → nodes_room (inits_nodes names ms) ≤ length slots
    → Related (Reaches names (length slots)) (inits_done setting ms store)
    (nodes_done setting (inits_nodes names ms) (machine_at slots store))

inits_run : (setting : Setting) (ms : List tree.Member) → RunsInits setting ms
inits_run setting [] names store slots closed stands ready room = empty_reaches names store slots
    ready
inits_run setting (tree.Fields kind variables ∷ rest) names store slots closed stands ready room =
    inits_run setting rest names store slots closed.1 stands ready room
inits_run setting (tree.Init block ∷ rest) names store slots closed stands ready room =
    let a = stmts_nodes names false block in
    let b = inits_nodes names rest in
    let body = closed.0 in
    let room_a : nodes_room a ≤ length slots = omega (arith, nodes_room-before a b) in
    let room_b : nodes_room b ≤ length slots = omega (arith, nodes_room-before a b) in
    subst (Related (Reaches names (length slots))
    (result_and_then (inside (stmts_done setting block) store) (inits_done setting rest)))
    (sym (nodes_done-before setting a b (machine_at slots store)))
    (then_related (Reaches names (length slots)) (Reaches names (length slots))
    (inside (stmts_done setting block) store) (nodes_done setting a (machine_at slots store))
    (inits_done setting rest) (nodes_done setting b)
    (stmt_runs setting (tree.Block block) names store slots
    (body.0, body.2, none_answer setting block names body.1) stands ready room_a)
    (λ given m is reaches.
    go_on setting b names names (length slots) (inits_done setting rest)
    (λ store' slots' same ready'. inits_run setting rest names store' slots' closed.1 stands ready'
    (omega arith)) given m reaches))
inits_run setting (tree.Prework rates block ∷ rest) names store slots closed stands ready room =
    inits_run setting rest names store slots closed.1 stands ready room
inits_run setting (tree.Work rates block ∷ rest) names store slots closed stands ready room =
    inits_run setting rest names store slots closed.1 stands ready room
inits_run setting (tree.Helper kind name parameters block ∷ rest) names store slots closed stands
    ready room =
    inits_run setting rest names store slots closed.1 stands ready room

-- ---- fields and slots

-- each field has a cell
abbrev pub HasCells : Scope → Type 0
HasCells [] = Unit {0}
HasCells (first ∷ rest) = (1 ≤ first.1) × HasCells rest

HasCells-append : (first rest : Scope) → HasCells first → HasCells rest → HasCells (first ++ rest)
HasCells-append [] rest h h' = h'
HasCells-append (field ∷ fields) rest h h' = (h.0, HasCells-append fields rest h.1 h')

fields_cells : (names : Scope) (cells : ℕ) (vs : List tree.Variable)
    → AreClosedFields names cells vs → HasCells (sized_all cells vs)
fields_cells names cells [] closed = tt
fields_cells names cells (first ∷ rest) closed =
    (some_cell cells first.initial closed.0.2, fields_cells names cells rest closed.1)

pub members_cells : (names : Scope) (ms : List tree.Member) → AreClosedMembers names ms
    → HasCells (sized_fields ms)
members_cells names [] closed = tt
members_cells names (tree.Fields kind variables ∷ rest) closed =
    HasCells-append (sized_all (cells_of kind) variables) (sized_fields rest)
    (fields_cells names (cells_of kind) variables closed.0) (members_cells names rest closed.1)
members_cells names (tree.Init block ∷ rest) closed = members_cells names rest closed.1
members_cells names (tree.Prework rates block ∷ rest) closed = members_cells names rest closed.1
members_cells names (tree.Work rates block ∷ rest) closed = members_cells names rest closed.1
members_cells names (tree.Helper kind name parameters block ∷ rest) closed =
    members_cells names rest closed.1

pub scope_of-bound_onto : (variables : Variables) (fields : Scope) (values : List ℤ)
    → total fields ≤ length values → scope_of (bound_onto variables fields values) ≡ reverse fields
    ++ scope_of variables
scope_of-bound_onto variables [] values fits = refl
scope_of-bound_onto variables (field ∷ fields) values fits =
    let n = field.1 in
    let mine : length (take n values) ≡ n = length-take-le n values (omega arith) in
    let others : length (drop n values) ≡ length values - n = length-drop n values in
    scope_of-bound_onto (record { 0 = field.0; 1 = take n values } ∷ variables) fields
    (drop n values) (omega arith)
    ∙ ap (λ k. reverse fields ++ record { 0 = field.0; 1 = k } ∷ scope_of variables) mine
    ∙ sym (append_assoc (reverse fields) (field ∷ []) (scope_of variables))
    ∙ ap (λ l. l ++ scope_of variables) (sym (reverse-append (field ∷ []) fields))

pub Holds-bound_onto : (variables : Variables) (fields : Scope) (values slots : List ℤ)
    → HasCells fields → total fields ≤ length values → Holds variables slots
    → ((k : ℕ) → k < total fields → at slots (total (scope_of variables) + k) ≡ at values k)
    → Holds (bound_onto variables fields values) slots
Holds-bound_onto variables [] values slots some fits h fields_hold = h
Holds-bound_onto variables (field ∷ fields) values slots some fits h fields_hold =
    let n = field.1 in
    let base = total (scope_of variables) in
    let mine : length (take n values) ≡ n = length-take-le n values (omega arith) in
    let others : length (drop n values) ≡ length values - n = length-drop n values in
    let cell : 1 ≤ n = some.0 in
    Holds-bound_onto (record { 0 = field.0; 1 = take n values } ∷ variables) fields
    (drop n values) slots some.1 (omega arith) (
      omega arith,
      λ k lt. fields_hold k (omega arith)
          ∙ sym (get_or-take n values k (pos 0) (omega arith)),
      h,
    )
    (λ k lt.
    let next : length (take n values) + base + k ≡ base + (n + k) = omega arith in
    ap (at slots) next ∙ fields_hold (n + k) (omega arith) ∙ sym (get_or-drop n values k (pos 0)))

-- the store of a filter is in slots that begin with its fields' values
store_ready : (filter : Filter) (values slots : List ℤ) → IsClosedFilter filter
    → length values ≡ total (sized_fields filter.members)
    → ((k : ℕ) → k < length values → at slots k ≡ at values k)
    → total (sized_fields filter.members) ≤ length slots
    → Ready (field_scope filter) (total (field_scope filter)) (store_at filter values) slots
store_ready filter values slots closed e fields_hold room =
    let fields = sized_fields filter.members in
    let size = total-reverse fields in
    record {
      names_are = scope_of-bound_onto [] fields values (omega arith) ∙ append-nil (reverse fields);
      holds = Holds-bound_onto [] fields values slots
          (members_cells (field_scope filter) filter.members closed) (omega arith) tt
          (λ k lt. let z : 0 + k ≡ k = omega arith in
          ap (at slots) z ∙ fields_hold k (omega arith));
      above = omega arith;
      roomy = omega arith;
    }

-- the values of the fields are the first slots
field_values-Holds : (filter : Filter) (store : Store) (slots : List ℤ)
    → scope_of store.variables ≡ field_scope filter → Holds store.variables slots
    → total (sized_fields filter.members) ≤ length slots
    → field_values store ≡ take (total (sized_fields filter.members)) slots
field_values-Holds filter store slots names_are holds room =
    let size : total (scope_of store.variables) ≡ total (sized_fields filter.members) =
    ap total names_are ∙ total-reverse (sized_fields filter.members) in
    values-Holds store.variables slots (omega arith) holds ∙ ap (λ n. take n slots) size

-- ---- a start

-- a started machine holds the fields' values in its first slots
pub record IsStarted (filter : Filter) (size : ℕ) (values : List ℤ) (after : Machine) : Type 0 where
  pub fields : values ≡ take (total (sized_fields filter.members)) after.slots
  pub same : length after.slots ≡ size

pub start_runs : (filter : Filter) (size : ℕ) → IsClosedFilter filter → slot_count filter ≤ size
    → Related (IsStarted filter size) (started filter)
    (nodes_done (setting_at filter.members no_io) (start_nodes filter)
    (record { slots = replicate size (pos 0); traffic = no_traffic }))
start_runs filter size closed room =
    let setting = setting_at filter.members no_io in
    let stands = fields_stand filter no_io in
    let count = total (sized_fields filter.members) in
    let scope = field_scope filter in
    let slots = replicate size (pos 0) in
    let zeros = replicate count (pos 0) in
    let store = store_at filter zeros in
    let a = initials_nodes scope filter.members in
    let b = inits_nodes scope filter.members in
    let size_is : length slots ≡ size = length-replicate size (pos 0) in
    let fields : count ≤ length slots = omega arith in
    let fits : nodes_room (start_nodes filter) ≤ length slots = omega arith in
    let room_a : nodes_room a ≤ length slots = omega (arith, nodes_room-before a b) in
    let room_b : nodes_room b ≤ length slots = omega (arith, nodes_room-before a b) in
    let zeros_are : length zeros ≡ count = length-replicate count (pos 0) in
    let ready = store_ready filter zeros slots closed zeros_are
    (λ k lt. get_or-replicate size k (pos 0) (pos 0) (omega arith)
    ∙ sym (get_or-replicate count k (pos 0) (pos 0) (omega arith))) fields in
    let rest : Store → Result (List ℤ) Cause =
    λ initialised. result_and_then (inits_done setting filter.members initialised)
    (λ done. Ok (field_values done)) in
    subst (Related (IsStarted filter size)
    (result_and_then (members_started setting filter.members store) rest))
    (sym (nodes_done-before setting a b (machine_at slots store)))
    (then_related (Reaches scope (length slots)) (IsStarted filter size)
    (members_started setting filter.members store) (nodes_done setting a (machine_at slots store))
    rest
    (nodes_done setting b) (members_run setting filter.members scope store slots closed stands ready
    room_a) (λ initialised m is reaches.
    map_related (Reaches scope (length slots)) (IsStarted filter size) field_values
    (inits_done setting filter.members initialised) (nodes_done setting b m)
    (go_on setting b scope scope (length slots) (inits_done setting filter.members)
    (λ store' slots' same ready'. inits_run setting filter.members scope store' slots' closed stands
    ready' (omega arith)) initialised m reaches) (λ given after reaches'.
    let same = reaches'.same in
    record {
      fields = field_values-Holds filter given after.slots reaches'.names_are reaches'.holds
          (omega arith);
      same = same ∙ size_is;
    })))

-- ---- a firing

-- the code of each body fits into the slots
body_fits : (filter : Filter) (body : Body) (size : ℕ) → slot_count filter ≤ size
    → nodes_room (body_nodes body filter) ≤ size
body_fits filter body.Prework size room = omega arith
body_fits filter body.Work size room = omega arith

-- a machine that has fired holds what the firing gives
pub record HasFired (filter : Filter) (size : ℕ) (given : Fired) (after : Machine) : Type 0 where
  pub fields : given.fields ≡ take (total (sized_fields filter.members)) after.slots
  pub pushes : given.pushes ≡ after.traffic.pushes
  pub words : given.words ≡ after.traffic.words
  pub same : length after.slots ≡ size

pub body_runs : (filter : Filter) (body : Body) (fields slots window : List ℤ)
    → IsClosedFilter filter → length fields ≡ total (sized_fields filter.members)
    → ((k : ℕ) → k < length fields → at slots k ≡ at fields k) → slot_count filter ≤ length slots
    → Related (HasFired filter (length slots)) (fired filter body fields window)
    (nodes_done (setting_of filter body window) (body_nodes body filter)
    (record { slots = slots; traffic = no_traffic }))
body_runs filter body fields slots window closed e fields_hold room =
    let names = field_scope filter in
    let store = store_at filter fields in
    let setting = setting_of filter body window in
    let block = body_block body filter.members in
    let whole = body_kept body names filter.members closed in
    let enough : total (sized_fields filter.members) ≤ length slots = omega arith in
    let fits : nodes_room (body_nodes body filter) ≤ length slots =
    body_fits filter body (length slots) room in
    let ready = store_ready filter fields slots closed e fields_hold enough in
    map_related (ReachesOn names (length slots)) (HasFired filter (length slots))
    (λ inner. let left = block_left store inner in
    record {
      fields = field_values left;
      pushes = left.traffic.pushes;
      words =
          left.traffic.words;
    }) (stmts_done setting block store)
    (nodes_done setting (body_nodes body filter) (machine_at slots store))
    (stmts_runs setting block false names store slots
    (whole.0, whole.2, none_answer setting block names whole.1)
    (fields_stand filter (port_of filter body window)) ready (λ r. absurd (false≢true r)) fits)
    (λ inner after reaches.
    let left = left_reaches names slots store inner after ready reaches in
    let same = left.same in
    record {
      fields = field_values-Holds filter (block_left store inner) after.slots left.names_are
          left.holds (omega arith);
      pushes = ap (λ (t : Traffic). t.pushes) (sym left.traffic);
      words = ap (λ (t : Traffic). t.words) (sym left.traffic);
      same = same;
    })
