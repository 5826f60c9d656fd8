-- Where a program is refused: the innermost statement that runs when a rule is broken; the one that
-- said the weights that aren't allowed, or that added the child at the end that doesn't fit.
use Rattle.std.specs.Prelude.{ℕ, zero, suc, ℤ, Bool, true, List, [], ◌∷◌, length, map, Option, Some}
use Rattle.std.specs.Prelude.{None, Result, Ok, Err, if◌then◌else◌}
use Rattle.std.specs.Option.{option_map, option_or}
use Rattle.strc_lex_names.specs.declared.place.Span.{Span}
use Rattle.strc_lex_names.specs.Results.{result_and_then}
use Rattle.strc_parse_tree.specs.Tree as tree
use Rattle.strc_parse_tree.specs.View.{expr_view, stmt_view, block_view, child_view}
use Rattle.strc_parse_tree.specs.View.{declaration_view}
use Rattle.strc_parse_tree.specs.declared.tree.ItemType.{ItemType}
use Rattle.strc_parse_tree.specs.declared.tree.StreamType.{StreamType}
use Rattle.strc_parse_tree.specs.declared.tree.CompositeKind.{CompositeKind}
use Rattle.strc_parse_tree.specs.declared.tree.CompositeKind.TheVariants as composite
use Rattle.strc_parse_tree.specs.declared.tree.Role.{Role}
use Rattle.strc_parse_tree.specs.declared.tree.Role.TheVariants as role
use Rattle.strc_parse_tree.specs.declared.tree.Member.{Member}
use Rattle.strc_parse_tree.specs.declared.tree.Stmt.{Stmt, Row_of-Stmt, end_of-Stmt, more_of-Stmt}
use Rattle.strc_parse_tree.specs.declared.tree.Stmt.TheVariants as stmt
use Rattle.strc_parse_tree.specs.declared.tree.Composition.{Composition}
use Rattle.strc_parse_tree.specs.declared.tree.Composition.TheVariants as composition
use Rattle.strc_parse_tree.specs.declared.tree.Child.{Child}
use Rattle.strc_parse_tree.specs.declared.tree.Decl.{Decl}
use Rattle.strc_work_rules.specs.Resolution.{filter_resolved}
use Rattle.strc_work_meaning.specs.Arithmetic.{is_true}
use Rattle.strc_work_meaning.specs.Filters.{filter_parts}
use Rattle.strc_work_meaning.specs.Firing.{turn_limit}
use Rattle.strc_work_meaning.specs.Typing.{TypedNames, names_after}
use Rattle.strc_elab_statements.specs.Statements.{ruled}
use Rattle.strc_work_rules.specs.RefusedPlaces.{filter_place}
use Rattle.strc_elab_statements.specs.Texts.{Place}
use Rattle.strc_elab_statements.specs.MainStreams.{doubled_from, not_doubled, main_of}
use Rattle.strc_elab_statements.specs.Sides.{inputs_in, outputs_in}
use Rattle.strc_elab_statements.specs.Weights.{Split, weighted, split_dealt, join_dealt}
use Rattle.strc_elab_statements.specs.Weights.{loop_weights}
use Rattle.strc_elab_statements.specs.Weights.{loop_splitter, input_written, output_written}
use Rattle.strc_elab_statements.specs.Written.{same_item}
use Rattle.strc_elab_statements.specs.declared.error.ElabError.{ElabError}
use Rattle.strc_elab_stream.specs.Instances.{Stream}
use Rattle.strc_elab.specs.declared.trace.Trace.{Trace}
use Rattle.strc_elab.specs.Elaboration.{Setting, Progress, Totals, Found, may_have}
use Rattle.strc_elab.specs.Elaboration.{condition_evaluated, inside, turned, child_found, stmt_run}
use Rattle.strc_elab.specs.Elaboration.{stmts_run, initial_progress, one_more, level_limit}
use Rattle.strc_elab.specs.Elaboration.{stream_elaborated}
use Rattle.strc_elab.specs.Sources.{Source, FilterSource, CompositeSource, GivenSource}
use Rattle.strc_elab.specs.Sources.{child_source, numbered_source}

-- what a composite stream's body is in, the declarations with their places among it, and where a
-- text one level below is refused
pub record Tracing : Type 0 where
  pub setting : Setting
  pub declarations : List Decl
  pub below : Place → Source → Totals → Option Span

-- what comes of the second step, if the first is done
abbrev pub place_after : {A T : Type 0} → Result A ElabError → (own : T) → (A → T) → T
place_after (Ok value) own next = next value
place_after (Err refusal) own next = own

-- and of a second step that goes on from the places of the first
abbrev pub trace_after : {A : Type 0} → Result A ElabError → (own : Trace) → (A → Trace → Trace)
    → Trace
trace_after outcome own next = place_after outcome own (λ value. next value own)

-- no statement has run
abbrev pub no_trace : Trace
no_trace = record { here = None; split = None; join = None; first = None; last = None }

-- the places after a loop, or where it is refused
abbrev pub looped_trace : (fuel : ℕ) → (test : Progress → Result (ℤ × Progress) ElabError)
    → (body : Progress → Result Progress ElabError) → (turn : Progress → Trace → Trace)
    → Progress → Trace → Trace
looped_trace zero test body turn progress trace = trace
looped_trace (suc fuel) test body turn progress trace =
    place_after (test progress) trace (λ tested.
    if is_true tested.0
    then place_after (turned tested.1) trace (λ turning.
    trace_after (body turning) (turn turning trace) (looped_trace fuel test body turn))
    else trace)

-- stream statements

-- the first child stays the first
abbrev pub first_after : List StreamType → Trace → Option Span
first_after [] trace = trace.here
first_after (earlier ∷ others) trace = trace.first

-- the statement that runs adds a child, after children of these types
abbrev pub with_child : List StreamType → Trace → Trace
with_child earlier trace =
    record trace { first = first_after earlier trace; last = trace.here }

-- it adds a child for this
abbrev pub child_traced : Role → (earlier : List StreamType) → Trace → Trace
child_traced role.Add earlier trace = with_child earlier trace
child_traced role.Body earlier trace = trace
child_traced role.Loop earlier trace = trace

-- it says how items are split, and how they are joined
abbrev pub with_split : Trace → Trace
with_split trace = record trace { split = trace.here }

abbrev pub with_join : Trace → Trace
with_join trace = record trace { join = trace.here }

-- a child that was found is refused within its text, as far as that is known
abbrev pub found_trace : Tracing → Role → Result Found ElabError → Source → Progress → Trace
    → Trace
found_trace tracing role outcome source progress trace =
    place_after outcome trace (λ found.
    let totals : Totals =
    record { turns = found.store.traffic.turns; filters = progress.filters } in
    place_after (tracing.setting.elaborate found.place found.text totals)
    (record trace { here = option_or (tracing.below found.place source totals) trace.here })
    (λ elaborated. child_traced role progress.types trace))

abbrev pub child_trace : Tracing → TypedNames → Role → Child → Progress → Trace → Trace
child_trace tracing names role child progress trace =
    found_trace tracing role (child_found tracing.setting names (child_view child) progress.store)
    (child_source tracing.declarations child) progress trace

-- a child where there may be one
abbrev pub added_trace : Tracing → TypedNames → Role → Child → Progress → Trace → Trace
added_trace tracing names role child progress trace =
    if may_have role progress then child_trace tracing names role child progress trace else trace

abbrev pub composed_trace : Tracing → TypedNames → Composition → Progress → Trace → Trace
composed_trace tracing names (composition.Child role child) progress trace =
    added_trace tracing names role child progress trace
composed_trace tracing names (composition.Split splitter) progress trace = with_split trace
composed_trace tracing names (composition.Join weights) progress trace = with_join trace
composed_trace tracing names (composition.Enqueue value) progress trace = trace

-- bodies

abbrev mutual
  -- the places after a statement, or where it is refused
  pub stmt_trace : Tracing → TypedNames → (outer : ℕ) → Stmt → Progress → Trace → Trace
  stmt_trace tracing names outer (stmt.Placed' place at inner) progress trace =
      trace_after (stmt_run tracing.setting names outer (stmt_view inner) progress)
      (stmt_trace tracing names outer inner progress (record trace { here = Some place }))
      (λ done within. record within { here = trace.here })
  stmt_trace tracing names outer (stmt.Block' shape body) progress trace =
      row_trace tracing names (length names) body progress trace
  stmt_trace tracing names outer (stmt.If' condition at chosen) progress trace =
      place_after (condition_evaluated tracing.setting names (Some (expr_view condition)) progress)
      trace (λ test.
      if is_true test.0 then stmt_trace tracing names (length names) chosen test.1 trace else trace)
  stmt_trace tracing names outer (stmt.IfElse' condition at chosen at' other) progress trace =
      place_after (condition_evaluated tracing.setting names (Some (expr_view condition)) progress)
      trace (λ test.
      if is_true test.0
      then stmt_trace tracing names (length names) chosen test.1 trace
      else stmt_trace tracing names (length names) other test.1 trace)
  stmt_trace tracing names outer (stmt.While' condition at body) progress trace =
      looped_trace (suc turn_limit)
      (condition_evaluated tracing.setting names (Some (expr_view condition)))
      (inside (stmt_run tracing.setting names (length names) (stmt_view body)))
      (stmt_trace tracing names (length names) body) progress trace
  stmt_trace tracing names outer (stmt.For' at first condition at' step at'' body) progress trace =
      trace_after (stmt_run tracing.setting names (length names) (stmt_view first) progress)
      (stmt_trace tracing names (length names) first progress trace) (λ begun after.
      let within = names_after names (stmt_view first) in
      looped_trace (suc turn_limit)
      (condition_evaluated tracing.setting within (option_map expr_view condition))
      (λ turn. result_and_then (inside (stmt_run tracing.setting within (length within)
      (stmt_view body)) turn)
      (inside (stmt_run tracing.setting within (length within) (stmt_view step))))
      (λ turning traced.
      trace_after (inside (stmt_run tracing.setting within (length within) (stmt_view body))
      turning) (stmt_trace tracing within (length within) body turning traced)
      (stmt_trace tracing within (length within) step)) begun after)
  stmt_trace tracing names outer (stmt.Compose statement) progress trace =
      composed_trace tracing names statement progress trace
  stmt_trace tracing names outer other progress trace = trace

  pub row_trace : Tracing → TypedNames → (outer : ℕ) → {m : _} → Row_of-Stmt m → Progress → Trace
      → Trace
  row_trace tracing names outer end_of-Stmt progress trace = trace
  row_trace tracing names outer (more_of-Stmt first rest) progress trace =
      trace_after (stmt_run tracing.setting names outer (stmt_view first) progress)
      (stmt_trace tracing names outer first progress trace)
      (row_trace tracing (names_after names (stmt_view first)) outer rest)

-- a statement with a place
abbrev pub placed_trace : Tracing → TypedNames → (outer : ℕ) → Span → Stmt → Progress → Trace
    → Trace
placed_trace tracing names outer place inner progress trace =
    trace_after (stmt_run tracing.setting names outer (stmt_view inner) progress)
    (stmt_trace tracing names outer inner progress (record trace { here = Some place }))
    (λ done within. record within { here = trace.here })

-- statements one after another
abbrev pub block_trace : Tracing → TypedNames → (outer : ℕ) → List Stmt → Progress → Trace
    → Trace
block_trace tracing names outer [] progress trace = trace
block_trace tracing names outer (first ∷ rest) progress trace =
    trace_after (stmt_run tracing.setting names outer (stmt_view first) progress)
    (stmt_trace tracing names outer first progress trace)
    (block_trace tracing (names_after names (stmt_view first)) outer rest)

-- loops

-- a loop without a step, which may make fewer iterations than this
abbrev pub while_trace : Tracing → TypedNames → tree.Expr → (body : Stmt) → (fuel : ℕ) → Progress
    → Trace → Trace
while_trace tracing names condition body fuel progress trace =
    looped_trace fuel (condition_evaluated tracing.setting names (Some condition))
    (inside (stmt_run tracing.setting names (length names) (stmt_view body)))
    (stmt_trace tracing names (length names) body) progress trace

-- an iteration and its step
abbrev pub turn_trace : Tracing → TypedNames → (step body : Stmt) → Progress → Trace → Trace
turn_trace tracing names step body turning trace =
    trace_after (inside (stmt_run tracing.setting names (length names) (stmt_view body)) turning)
    (stmt_trace tracing names (length names) body turning trace)
    (stmt_trace tracing names (length names) step)

-- a loop with a step after each iteration
abbrev pub for_turns_trace : Tracing → TypedNames → Option tree.Expr → (step body : Stmt)
    → (fuel : ℕ) → Progress → Trace → Trace
for_turns_trace tracing names condition step body fuel progress trace =
    looped_trace fuel (condition_evaluated tracing.setting names condition)
    (λ turn. result_and_then
    (inside (stmt_run tracing.setting names (length names) (stmt_view body)) turn)
    (inside (stmt_run tracing.setting names (length names) (stmt_view step))))
    (turn_trace tracing names step body) progress trace

-- and with what comes before its first iteration
abbrev pub for_trace : Tracing → TypedNames → (first : Stmt) → Option tree.Expr
    → (step body : Stmt) → Progress → Trace → Trace
for_trace tracing names first condition step body progress trace =
    trace_after (stmt_run tracing.setting names (length names) (stmt_view first) progress)
    (stmt_trace tracing names (length names) first progress trace)
    (for_turns_trace tracing (names_after names (stmt_view first)) condition step body
    (suc turn_limit))

-- what is made of a body that has run

-- a pipeline takes what is written, where that is written
abbrev pub takes_as_written : Option StreamType → ItemType → Bool
takes_as_written None taken = true
takes_as_written (Some written) taken = same_item written.input taken

-- a pipeline whose ends aren't as written: the first child, unless it takes what is written
abbrev pub ends_place : Option StreamType → (taken : ItemType) → Trace → Option Span
ends_place written taken trace =
    if takes_as_written written taken then trace.last else trace.first

abbrev pub pipeline_place : Option StreamType → List StreamType → Trace → Option Span
pipeline_place written [] trace = None
pipeline_place written (first ∷ rest) trace = ends_place written first.input trace

-- a split-join whose weights aren't allowed: those of its `split`, and else those of its `join`
abbrev pub splitjoin_place : (declaration : ℕ) → List StreamType → Option Split
    → Option (List ℤ) → Progress → Trace → Option Span
splitjoin_place declaration (first ∷ rest) (Some split) (Some join) progress trace =
    place_after (split_dealt declaration split (inputs_in progress.types)) trace.split
    (λ splitter.
    place_after (join_dealt declaration join (outputs_in progress.types)) trace.join
    (λ joiner. None))
splitjoin_place declaration types split join progress trace = None

-- a feedback loop whose weights aren't allowed: those of its `join`, and else those of its `split`
abbrev pub loop_place : (declaration : ℕ) → Option StreamType → Option (List ℤ) → Option Stream
    → Option Split → Option Stream → Trace → Option Span
loop_place declaration written (Some join) (Some body) (Some split) (Some loop) trace =
    place_after (weighted declaration (loop_weights (input_written written) join)) trace.join
    (λ joiner.
    place_after (weighted declaration (loop_splitter (output_written written) split)) trace.split
    (λ splitter. None))
loop_place declaration written join body split loop trace = None

-- where what a body that has run says can't be assembled
abbrev pub assembly_place : CompositeKind → (declaration : ℕ) → Option StreamType → Progress
    → Trace → Option Span
assembly_place composite.Pipeline declaration written progress trace =
    pipeline_place written progress.types trace
assembly_place composite.Splitjoin declaration written progress trace =
    splitjoin_place declaration progress.types progress.split progress.join progress trace
assembly_place composite.Feedbackloop declaration written progress trace =
    loop_place declaration written progress.join progress.body progress.split progress.loop trace

-- streams

-- where an instance of a filter is refused; a fault at its start has no place
abbrev pub instance_place : Place → StreamType → List Member → Option Span
instance_place place types members =
    place_after (ruled place.declaration (filter_resolved place.constants
    (filter_parts types.input types.output members)))
    (filter_place place.constants types.input types.output None members) (λ resolved. None)

-- a composite stream: where its body is refused, and else where it can't be assembled
abbrev pub composite_place : Tracing → Option StreamType → CompositeKind → List Stmt → Totals
    → Option Span
composite_place tracing written kind block totals =
    let initial = initial_progress kind totals in
    let trace = block_trace tracing [] 0 block initial no_trace in
    place_after (stmts_run tracing.setting [] 0 (block_view block) initial) trace.here
    (λ progress.
    assembly_place kind tracing.setting.place.declaration written progress trace)

-- where a stream of this text is refused
abbrev pub text_place : Tracing → Source → Totals → Option Span
text_place tracing (FilterSource types members) totals =
    place_after (one_more {A = Totals} totals (λ counted. Ok counted)) None
    (λ counted. instance_place tracing.setting.place types members)
text_place tracing (CompositeSource written kind block) totals =
    composite_place tracing written kind block totals
text_place tracing GivenSource totals = None

-- where a stream that may have so many levels is refused
abbrev pub stream_place : List Decl → (levels : ℕ) → Place → Source → Totals → Option Span
stream_place declarations zero place source totals = None
stream_place declarations (suc levels) place source totals =
    text_place (record {
      setting =
          record {
            program = map declaration_view declarations;
            place = place;
            elaborate = stream_elaborated (map declaration_view declarations) levels;
          };
      declarations = declarations;
      below = stream_place declarations levels;
    }) source totals

-- where the main stream is refused
abbrev pub main_place : List Decl → ℕ → Option Span
main_place declarations number =
    stream_place declarations level_limit (record { declaration = number; constants = [] })
    (numbered_source declarations number) (record { turns = 0; filters = 0 })

-- where a program is refused; which stream is the main one is said by no statement
abbrev pub program_place : List Decl → Option (List ℕ) → Option Span
program_place declarations main =
    place_after (not_doubled (doubled_from [] 0 (map declaration_view declarations))) None (λ _.
    place_after (main_of (map declaration_view declarations) main) None (λ found.
    main_place declarations found.0))
