-- Each firing of a graph's program goes in C as over queues.
use Rattle.std.proofs.Common.{◌≡◌, ◌⊎◌, inl, inr, ℕ, zero, suc, ◌<◌, ◌≤◌, ℤ, Bool, true, false}
use Rattle.std.proofs.Common.{List, [], length, Option, Some, None, Result, Ok, refl, sym, ap, ◌∙◌}
use Rattle.std.proofs.Common.{subst, arith}
use Rattle.std.specs.Prelude.{slice_index, IfOk, is_some, not, codes}
use Rattle.std.specs.Option.{option_map}
use Rattle.std.proofs.lemmas.Bool.{true≢false}
use Rattle.std.proofs.lemmas.Option.{none-some, same_Some}
use Rattle.strc_parse_tree.specs.declared.tree.FilterTree.{FilterTree}
use Rattle.strc_work_meaning.specs.declared.word.Word.{Word}
use Rattle.strc_work_meaning.specs.Filters.{filter_of, prework_block}
use Rattle.strc_work_meaning.specs.Firing.{Fired, fired}
use Rattle.strc_work_code.specs.declared.code.Routine.{Routine}
use Rattle.strc_elab_dataflow.specs.Flat as flat
use Rattle.strc_elab_dataflow.specs.Node.{ByPort, Fired.Fires, at_port_0}
use Rattle.strc_elab_dataflow.specs.Queues.{holds, fifo_fire}
use Rattle.strc_elab_graph.specs.Graphs.{NodeCode, ports_of}
use Rattle.strc_elab_graph.specs.Graphs as graphs
use Rattle.strc_elab_graph.specs.Meaning.{node_meaning, node_fired}
use Rattle.strc_elab_graph.specs.Rates.{body_at, filter_window, filter_pushes, rate_at_0}
use Rattle.strc_elab_graph.proofs.Works.{no_rates}
use Rattle.strc_emit_c.specs.declared.function.Function.{Function}
use Rattle.strc_emit_filter.specs.Filters.{IsPreworkOf, helper_function, names_of, has_helpers}
use Rattle.strc_emit_bodies.specs.Spelling.{BodyFunction, routine_function}
use Rattle.strc_emit_moves.specs.declared.places.Phase.{Phase}
use Rattle.strc_emit_moves.specs.declared.places.Phase.TheVariants as phase
use Rattle.strc_emit_passes.specs.Passing.{IsPassing, SeesWindows, GivesBy}
use Rattle.strc_sched_laws.specs.Nodes.{HasItsRates}
use Rattle.strc_sched_laws.proofs.Nodes.{nodes_push_rates}
use Rattle.strc_emit_runs.specs.Running.{Program, Running, Halt, code_at, firing_of, next_firing}
use Rattle.strc_emit_runs.specs.Running.{first_firing, prework_done}
use Rattle.strc_emit_runs.specs.Orders.{Queues, Goes, RunShows, AreWithin, fired_on}
use Rattle.strc_emit_runs.specs.PassingSteps.{IsWired, IsSteady, GivesRates}
use Rattle.strc_emit_runs.specs.WorkSteps.{WorksOn}
use Rattle.strc_emit_runs.specs.Works.{HasFilter}
use Rattle.strc_emit_runs.specs.Firings.{seen_at}
use Rattle.strc_emit_runs.proofs.Firings.{filters_go, preworks_go, passing_go}
use Rattle.strc_emit_network.specs.Later.{HasNoPrework, IsWorkFiring, IsLaterFiring}
use Rattle.strc_emit_network.specs.Programs.{count_in, IsNodeIn, IsFilterIn, IsPassingIn}
use Rattle.strc_emit_network.specs.Programs.{IsProgramOf}
use Rattle.strc_emit_network.specs.Firings.{NetworkFirings}
use Rattle.strc_emit_network.proofs.Later.{later_rates_are_same, works_fire_later}
use Rattle.strc_emit_network.proofs.Seen.{fronts_are_seen}
use Rattle.strc_emit_network.proofs.Nodes.{pops_are, pushes_are, reads_as, rates, sees}
use Rattle.strc_emit_network.proofs.Nodes.{takes_are_there, readers_read_next}

later_passing : (code : NodeCode) (firing : ℕ) → IsPassing code → IsLaterFiring code firing
later_passing (graphs.Filter name filter) firing is = absurd is
later_passing graphs.Identity firing is = is
later_passing (graphs.FileReader text) firing is = is
later_passing (graphs.FileWriter text) firing is = is
later_passing (graphs.Splitter splitter) firing is = is
later_passing (graphs.Joiner weights) firing is = is
later_passing (graphs.Scatter fission) firing is = is
later_passing (graphs.Copy copied fission) firing is = is
later_passing (graphs.Gather fission) firing is = is

given_at_0 : (items : List ℤ) (count : ℕ) → length items ≡ count → (port : ℕ)
    → length (at_port_0 items port) ≡ rate_at_0 count port
unfolding at_port_0
given_at_0 items count e zero = e
given_at_0 items count e (suc port) = refl

-- a body's function looks at as many items as its rates say, and gives as many
pub peek_is : (program : Program) (node : ℕ) (tree : FilterTree) → HasFilter program node tree
    → (program.functions node).work.function.peek ≡ filter_window (filter_of tree) 1
peek_is program node tree has =
    ap (λ f. f.work.function.peek) has.functions
    ∙ ap (λ limits. limits.peek) has.written.limits_are

pub push_is : (program : Program) (node : ℕ) (tree : FilterTree) → HasFilter program node tree
    → (program.functions node).work.function.pushes ≡ filter_pushes (filter_of tree) 1
push_is program node tree has =
    ap (λ f. f.work.function.pushes) has.functions
    ∙ ap (λ limits. limits.pushes) has.written.limits_are

-- and so does a prework's, which has the fields of the work's
record IsFirstBody (program : Program) (node : ℕ) (tree : FilterTree) (function : BodyFunction)
    : Type 0 where
  peek : function.function.peek ≡ filter_window (filter_of tree) 0
  push : function.function.pushes ≡ filter_pushes (filter_of tree) 0
  fields : function.function.fields ≡ (program.functions node).work.function.fields

first_body : (program : Program) (node : ℕ) (tree : FilterTree) → HasFilter program node tree
    → (function : BodyFunction) → (program.functions node).prework ≡ Some function
    → IsFirstBody program node tree function
first_body program node tree has function at =
    by has.written.prework has.written.prework_is
    (sym (ap (λ f. f.prework) has.functions) ∙ at)
  where
    base : Function
    base = helper_function node (length has.values) has.written.arrays
        (names_of has.written.helpers)

    written_function : Routine → BodyFunction
    written_function =
        routine_function base has.written.tests (codes "prework") (not (has_helpers tree))

    by : (found : Option Routine) → IsPreworkOf tree found
        → option_map written_function found ≡ Some function
        → IsFirstBody program node tree function
    by None is e = absurd (none-some function e)
    by (Some routine) is e =
        let same : written_function routine ≡ function =
        same_Some (written_function routine) function e in
        record {
          peek = ap (λ (f : BodyFunction). f.function.peek) (sym same)
              ∙ ap (λ limits. limits.peek) is.2;
          push = ap (λ (f : BodyFunction). f.function.pushes) (sym same)
              ∙ ap (λ limits. limits.pushes) is.2;
          fields = ap (λ (f : BodyFunction). f.function.fields) (sym same)
              ∙ sym (ap (λ f. f.work.function.fields) has.functions);
        }

-- a filter whose program has no prework has none
no_prework : (program : Program) (node : ℕ) (tree : FilterTree) → HasFilter program node tree
    → (program.functions node).prework ≡ None → HasNoPrework (filter_of tree)
no_prework program node tree has at =
    by has.written.prework has.written.prework_is
    (sym (ap (λ f. f.prework) has.functions) ∙ at)
  where
    none_of : {A : Type 0} (found : Option A) → is_some found ≡ false → found ≡ None
    none_of None none = refl
    none_of (Some x) none = absurd (true≢false none)

    by : (found : Option Routine) → IsPreworkOf tree found
        → option_map (routine_function (helper_function node (length has.values)
        has.written.arrays (names_of has.written.helpers)) has.written.tests (codes "prework")
        (not (has_helpers tree))) found ≡ None
        → HasNoPrework (filter_of tree)
    by None is e = record {
      block = none_of (prework_block (filter_of tree).members) is;
      rates = no_rates (filter_of tree).members is;
    }
    by (Some routine) is e =
        absurd (none-some (routine_function
        (helper_function node (length has.values) has.written.arrays
        (names_of has.written.helpers)) has.written.tests (codes "prework")
        (not (has_helpers tree)) routine)
        (sym e))

module _ (graph : flat.Graph NodeCode) (program : Program) (when : Phase) (round : ℕ)
    (times : ℕ → ℕ) (now : Queues) (running : Running) (node : ℕ)
    (is : IsProgramOf graph program when)
    (held : holds node_meaning graph node (now.runs node).fired (now.queues node) ≡ true)
    (shows : RunShows program when round times now running)
    (within : AreWithin (count_in program when) times)
    (more : times node < count_in program when node) where
  abbrev firing : ℕ
  firing = (now.runs node).fired

  abbrev seen : ByPort
  seen = seen_at graph now node

  wired : IsWired program when node times
  wired = is.wired node times within more

  -- a filter

  module _ (name : Option (List ℕ)) (tree : FilterTree)
      (at : code_at program node ≡ Some (graphs.Filter name (filter_of tree)))
      (own : IsFilterIn program when node tree) where
    abbrev code : NodeCode
    code = graphs.Filter name (filter_of tree)

    -- a firing sees its window
    whole : (peek : ℕ) → peek ≡ filter_window (filter_of tree) firing → (ports : ℕ)
        → ports_of tree.input ≡ ports → peek ≤ length (seen 0)
    whole peek same zero e = omega (arith, same, own.no_port firing e)
    whole peek same (suc ports) e = omega (
      arith,
      same,
      sees graph program when round times now running node is held shows code at 0
          (omega (arith, e)),
    )

    -- of a body whose rates are those of the firing
    works_on : (function : BodyFunction)
        → function.function.peek ≡ filter_window (filter_of tree) firing
        → function.function.pushes ≡ filter_pushes (filter_of tree) firing
        → function.function.fields ≡ (program.functions node).work.function.fields
        → WorksOn program when now node (times node) function (seen 0)
    works_on function peek push fields = record {
      code = code;
      at = at;
      few = (fronts_are_seen graph now node 0).0;
      front = (fronts_are_seen graph now node 0).1;
      whole = whole function.function.peek peek (ports_of tree.input) refl;
      count = shows.counts node name (filter_of tree) at ∙ sym fields;
      taken_none = λ none. peek ∙ own.taken_none firing none;
      given_none = λ none. push ∙ own.given_none firing none;
      pushes = sym ((rates graph program when round times now running node is held shows code at
          0).1) ∙ sym push;
      few_read = omega (arith, peek, own.few_read firing);
      few_written = omega (arith, push, own.few_written firing);
      no_reader = λ here. omega (arith, (reads_as graph program when is node code at).own here);
    }

    gives : (given : Fired)
        → fired (filter_of tree) (body_at firing) (now.runs node).state (seen 0) ≡ Ok given
        → GivesRates program when node (times node) (at_port_0 given.pushes)
    gives given did port =
        given_at_0 given.pushes (filter_pushes (filter_of tree) firing)
        (subst (λ out. IfOk out (λ done.
        length done.pushes ≡ filter_pushes (filter_of tree) firing)) did
        (own.pushes firing (now.runs node).state (seen 0))) port
        ∙ (rates graph program when round times now running node is held shows code at port).1

    abbrev Went : Result Running Halt → Type 0
    Went gone = Goes (RunShows program when round (fired_on times node 1))
        (fifo_fire node_meaning graph now node) gone

    -- a firing of its work
    work_goes : IsWorkFiring (filter_of tree) firing → IsSteady program when node (times node)
        → Went (firing_of program when node code (times node) running)
    work_goes works steady =
        let same = works_fire_later (filter_of tree) firing (now.runs node).state (seen 0) works in
        let later = later_rates_are_same code firing works 0 in
        filters_go graph program when round times now running node name tree (is.codes node code at)
        same held shows wired steady own.has is.fuel
        (works_on (program.functions node).work (peek_is program node tree own.has ∙ sym later.0)
        (push_is program node tree own.has ∙ sym later.2) refl)
        (takes_are_there graph program when round times now running node code is at held shows)
        (λ given did. gives given (same ∙ did))

  -- a node that only passes items on

  sees_windows : (code : NodeCode) → code_at program node ≡ Some code → IsPassing code
      → SeesWindows code seen
  sees_windows code at passes port less =
      sees graph program when round times now running node is held shows code at port less
      ∙ (later_rates_are_same code firing (later_passing code firing passes) port).0
      ∙ sym (later_rates_are_same code 0 (later_passing code 0 passes) port).0

  gives_pushes : (code : NodeCode) (pushes : ByPort) (words : List Word)
      → code_at program node ≡ Some code → IsPassing code → HasItsRates code
      → SeesWindows code seen → node_fired code 0 [] seen ≡ Fires [] pushes words
      → GivesRates program when node (times node) pushes
  gives_pushes code pushes words at passes own windows fires port =
      ((nodes_push_rates code own).each 0 [] [] seen pushes words refl windows fires).1 port
      ∙ (later_rates_are_same code 0 (later_passing code 0 passes) port).2
      ∙ sym (later_rates_are_same code firing (later_passing code firing passes) port).2
      ∙ (rates graph program when round times now running node is held shows code at port).1

  gives_by : (code : NodeCode) → code_at program node ≡ Some code → IsPassing code
      → SeesWindows code seen
      → GivesBy (node_fired code 0 [] seen)
      (λ pushes printed. GivesRates program when node (times node) pushes)
  gives_by (graphs.Filter name filter) at passes windows = absurd passes
  gives_by graphs.Identity at passes windows =
      gives_pushes graphs.Identity _ _ at passes tt windows refl
  gives_by (graphs.FileReader text) at passes windows =
      gives_pushes (graphs.FileReader text) _ _ at passes tt windows refl
  gives_by (graphs.FileWriter text) at passes windows =
      gives_pushes (graphs.FileWriter text) _ _ at passes tt windows refl
  gives_by (graphs.Splitter splitter) at passes windows =
      gives_pushes (graphs.Splitter splitter) _ _ at passes tt windows refl
  gives_by (graphs.Joiner weights) at passes windows =
      gives_pushes (graphs.Joiner weights) _ _ at passes tt windows refl
  gives_by (graphs.Scatter fission) at passes windows = absurd passes
  gives_by (graphs.Copy copied fission) at passes windows = absurd passes
  gives_by (graphs.Gather fission) at passes windows = absurd passes

  passing_goes : (code : NodeCode) → code_at program node ≡ Some code
      → IsPassingIn program when node code → IsSteady program when node (times node)
      → Goes (RunShows program when round (fired_on times node 1))
      (fifo_fire node_meaning graph now node)
      (firing_of program when node code (times node) running)
  passing_goes code at own steady =
      let windows : SeesWindows code seen = sees_windows code at own.is in
      passing_go graph program when round times now running node code (is.codes node code at) held
      shows wired steady (fronts_are_seen graph now node)
      (reads_as graph program when is node code at) at own.is windows own.inputs
      (readers_read_next graph program when round times now running node code is at held shows)
      (takes_are_there graph program when round times now running node code is at held shows)
      (gives_by code at own.is windows)

-- where the first firing of start-up has its items

steady : (graph : flat.Graph NodeCode) (program : Program) (when : Phase)
    (is : IsProgramOf graph program when) (node times : ℕ) (code : NodeCode)
    → code_at program node ≡ Some code → times < count_in program when node
    → IsLaterFiring code 0 → IsSteady program when node times
steady graph program phase.Startup is node zero code at more later = λ port.
    let same = later_rates_are_same code 0 later port in (
      pops_are program node 0 port code at ∙ same.1 ∙ sym (pops_are program node 1 port code at),
      pushes_are program node 0 port code at ∙ same.2
          ∙ sym (pushes_are program node 1 port code at),
      is.few node more port,
    )
steady graph program phase.Startup is node (suc times) _ at more later = tt
steady graph program phase.Round is node times _ at more later = tt

later_steady : (program : Program) (when : Phase) (node times : ℕ) → 1 ≤ times
    → IsSteady program when node times
later_steady program phase.Startup node zero some = absurd (omega (arith, some))
later_steady program phase.Startup node (suc times) some = tt
later_steady program phase.Round node times some = tt

-- each firing goes

module _ (graph : flat.Graph NodeCode) (program : Program) (when : Phase) (round : ℕ)
    (times : ℕ → ℕ) (now : Queues) (running : Running) (node : ℕ)
    (is : IsProgramOf graph program when)
    (held : holds node_meaning graph node (now.runs node).fired (now.queues node) ≡ true)
    (shows : RunShows program when round times now running)
    (within : AreWithin (count_in program when) times)
    (more : times node < count_in program when node) where
  passes_on : (code : NodeCode) → code_at program node ≡ Some code
      → IsPassingIn program when node code
      → Goes (RunShows program when round (fired_on times node 1))
      (fifo_fire node_meaning graph now node)
      (firing_of program when node code (times node) running)
  passes_on code at own =
      passing_goes graph program when round times now running node is held shows within more code at
      own (steady graph program when is node (times node) code at more
      (later_passing code 0 own.is))

-- a filter's in a round
round_filter : (graph : flat.Graph NodeCode) (program : Program) (round : ℕ) (times : ℕ → ℕ)
    (now : Queues) (running : Running) (node : ℕ) (is : IsProgramOf graph program phase.Round)
    → holds node_meaning graph node (now.runs node).fired (now.queues node) ≡ true
    → RunShows program phase.Round round times now running
    → AreWithin (count_in program phase.Round) times
    → times node < count_in program phase.Round node
    → (name : Option (List ℕ)) (tree : FilterTree)
    → code_at program node ≡ Some (graphs.Filter name (filter_of tree))
    → IsFilterIn program phase.Round node tree
    → Goes (RunShows program phase.Round round (fired_on times node 1))
    (fifo_fire node_meaning graph now node)
    (firing_of program phase.Round node (graphs.Filter name (filter_of tree)) (times node) running)
round_filter graph program round times now running node is held shows within more name tree at own =
    work_goes graph program phase.Round round times now running node is held shows within more name
    tree at own (by own.started) tt
  where
    by : HasNoPrework (filter_of tree) ⊎ (1 ≤ slice_index program.network.startup.now node)
        → IsWorkFiring (filter_of tree) (now.runs node).fired
    by (inl none) = inl none
    by (inr first) = inr (omega (arith, first, shows.numbers node))

-- in start-up the first one may be of a prework
module _ (graph : flat.Graph NodeCode) (program : Program) (round : ℕ) (times : ℕ → ℕ)
    (now : Queues) (running : Running) (node : ℕ) (is : IsProgramOf graph program phase.Startup)
    (held : holds node_meaning graph node (now.runs node).fired (now.queues node) ≡ true)
    (shows : RunShows program phase.Startup round times now running)
    (within : AreWithin (count_in program phase.Startup) times)
    (more : times node < count_in program phase.Startup node)
    (name : Option (List ℕ)) (tree : FilterTree)
    (at : code_at program node ≡ Some (graphs.Filter name (filter_of tree)))
    (own : IsFilterIn program phase.Startup node tree) where
  abbrev started_code : NodeCode
  started_code = graphs.Filter name (filter_of tree)

  abbrev Starts : Result Running Halt → Type 0
  Starts gone = Goes (RunShows program phase.Startup round (fired_on times node 1))
      (fifo_fire node_meaning graph now node) gone

  first_goes : times node ≡ 0 → (o : Option BodyFunction) → (program.functions node).prework ≡ o
      → Starts (first_firing program node started_code (prework_done program node o running)
      running)
  first_goes none None no_first =
      subst (λ n. Starts (firing_of program phase.Startup node started_code n running)) none
      (work_goes graph program phase.Startup round times now running node is held shows within more
      name tree at own (inl (no_prework program node tree own.has no_first))
      (steady graph program phase.Startup is node (times node) started_code at more
      (inl (no_prework program node tree own.has no_first))))
  first_goes none (Some function) first =
      let same : (now.runs node).fired ≡ 0 = shows.numbers node ∙ none in
      let body = first_body program node tree own.has function first in
      let works : WorksOn program phase.Startup now node (times node) function
      (seen_at graph now node 0) =
      works_on graph program phase.Startup round times now running node is held shows within more
      name tree at own function
      (body.peek ∙ ap (filter_window (filter_of tree)) (sym same))
      (body.push ∙ ap (filter_pushes (filter_of tree)) (sym same)) body.fields in
      preworks_go graph program round times now running node name tree function
      (is.codes node started_code at) held shows (is.wired node times within more) none own.has
      is.fuel first body.fields
      (subst (λ n. WorksOn program phase.Startup now node n function (seen_at graph now node 0))
      none works)
      (takes_are_there graph program phase.Startup round times now running node started_code is at
      held shows)
      (λ given did. subst (λ n. GivesRates program phase.Startup node n (at_port_0 given.pushes))
      none
      (gives graph program phase.Startup round times now running node is held shows within more name
      tree at own given
      (ap (λ n. fired (filter_of tree) (body_at n) (now.runs node).state
      (seen_at graph now node 0)) same ∙ did)))

  filter_starts : (i : ℕ) → times node ≡ i
      → Starts (next_firing program phase.Startup node started_code i running)
  filter_starts zero none = first_goes none (program.functions node).prework refl
  filter_starts (suc i) some =
      subst (λ n. Starts (firing_of program phase.Startup node started_code n running)) some
      (work_goes graph program phase.Startup round times now running node is held shows within more
      name tree at own (inr (omega (arith, some, shows.numbers node)))
      (later_steady program phase.Startup node (times node) (omega (arith, some))))

goes : (graph : flat.Graph NodeCode) (program : Program) (when : Phase) (round : ℕ)
    (times : ℕ → ℕ) (now : Queues) (running : Running) (node : ℕ)
    → IsProgramOf graph program when
    → holds node_meaning graph node (now.runs node).fired (now.queues node) ≡ true
    → RunShows program when round times now running → AreWithin (count_in program when) times
    → times node < count_in program when node
    → (code : NodeCode) → code_at program node ≡ Some code → IsNodeIn program when node code
    → Goes (RunShows program when round (fired_on times node 1))
    (fifo_fire node_meaning graph now node)
    (next_firing program when node code (times node) running)
goes graph program phase.Round round times now running node is held shows within more
    (graphs.Filter name filter) at own =
    subst (λ f. Goes (RunShows program phase.Round round (fired_on times node 1))
    (fifo_fire node_meaning graph now node)
    (firing_of program phase.Round node (graphs.Filter name f) (times node) running)) (sym own.1)
    (round_filter graph program round times now running node is held shows within more name own.0
    (at ∙ ap (λ f. Some (graphs.Filter name f)) own.1) own.2)
goes graph program phase.Startup round times now running node is held shows within more
    (graphs.Filter name filter) at own =
    subst (λ f. Goes (RunShows program phase.Startup round (fired_on times node 1))
    (fifo_fire node_meaning graph now node)
    (next_firing program phase.Startup node (graphs.Filter name f) (times node) running))
    (sym own.1)
    (filter_starts graph program round times now running node is held shows within more name own.0
    (at ∙ ap (λ f. Some (graphs.Filter name f)) own.1) own.2 (times node) refl)
goes graph program phase.Round round times now running node is held shows within more
    graphs.Identity at own =
    passes_on graph program phase.Round round times now running node is held shows within more
    graphs.Identity at own
goes graph program phase.Round round times now running node is held shows within more
    (graphs.FileReader text) at own =
    passes_on graph program phase.Round round times now running node is held shows within more
    (graphs.FileReader text) at own
goes graph program phase.Round round times now running node is held shows within more
    (graphs.FileWriter text) at own =
    passes_on graph program phase.Round round times now running node is held shows within more
    (graphs.FileWriter text) at own
goes graph program phase.Round round times now running node is held shows within more
    (graphs.Splitter splitter) at own =
    passes_on graph program phase.Round round times now running node is held shows within more
    (graphs.Splitter splitter) at own
goes graph program phase.Round round times now running node is held shows within more
    (graphs.Joiner weights) at own =
    passes_on graph program phase.Round round times now running node is held shows within more
    (graphs.Joiner weights) at own
goes graph program phase.Round round times now running node is held shows within more
    (graphs.Scatter fission) at own =
    passes_on graph program phase.Round round times now running node is held shows within more
    (graphs.Scatter fission) at own
goes graph program phase.Round round times now running node is held shows within more
    (graphs.Copy copied fission) at own =
    passes_on graph program phase.Round round times now running node is held shows within more
    (graphs.Copy copied fission) at own
goes graph program phase.Round round times now running node is held shows within more
    (graphs.Gather fission) at own =
    passes_on graph program phase.Round round times now running node is held shows within more
    (graphs.Gather fission) at own
goes graph program phase.Startup round times now running node is held shows within more
    graphs.Identity at own =
    passes_on graph program phase.Startup round times now running node is held shows within more
    graphs.Identity at own
goes graph program phase.Startup round times now running node is held shows within more
    (graphs.FileReader text) at own =
    passes_on graph program phase.Startup round times now running node is held shows within more
    (graphs.FileReader text) at own
goes graph program phase.Startup round times now running node is held shows within more
    (graphs.FileWriter text) at own =
    passes_on graph program phase.Startup round times now running node is held shows within more
    (graphs.FileWriter text) at own
goes graph program phase.Startup round times now running node is held shows within more
    (graphs.Splitter splitter) at own =
    passes_on graph program phase.Startup round times now running node is held shows within more
    (graphs.Splitter splitter) at own
goes graph program phase.Startup round times now running node is held shows within more
    (graphs.Joiner weights) at own =
    passes_on graph program phase.Startup round times now running node is held shows within more
    (graphs.Joiner weights) at own
goes graph program phase.Startup round times now running node is held shows within more
    (graphs.Scatter fission) at own =
    passes_on graph program phase.Startup round times now running node is held shows within more
    (graphs.Scatter fission) at own
goes graph program phase.Startup round times now running node is held shows within more
    (graphs.Copy copied fission) at own =
    passes_on graph program phase.Startup round times now running node is held shows within more
    (graphs.Copy copied fission) at own
goes graph program phase.Startup round times now running node is held shows within more
    (graphs.Gather fission) at own =
    passes_on graph program phase.Startup round times now running node is held shows within more
    (graphs.Gather fission) at own

pub network_firings : NetworkFirings
network_firings graph program when is round times now running node code at within more held shows =
    goes graph program when round times now running node is held shows within more code at
    (is.nodes node code at)
