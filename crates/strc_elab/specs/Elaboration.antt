-- Which stream of instances a program means: composite streams' bodies run, in order of execution,
-- up to the first rule that is broken (StreamIt specification 2.1, "Streams", "Pipelines",
-- "Split-joins", "Feedback loops").
use Rattle.std.specs.Prelude.{ℕ, zero, suc, ◌+◌, ℤ, pos, Bool, true, false, ◌&&◌, not, nat_lt}
use Rattle.std.specs.Prelude.{nat_eq, List, [], ◌∷◌, ◌++◌, length, Option, Some, None}
use Rattle.std.specs.Prelude.{unwrap_or}
use Rattle.std.specs.Prelude.{Result, Ok, Err, if◌then◌else◌}
use Rattle.strc_lex_names.specs.Results.{result_and_then}
use Rattle.strc_parse_tree.specs.Tree as tree
use Rattle.strc_parse_tree.specs.Tree.{Declaration}
use Rattle.strc_parse_tree.specs.declared.tree.StreamType.{StreamType}
use Rattle.strc_parse_tree.specs.declared.tree.CompositeKind.{CompositeKind}
use Rattle.strc_parse_tree.specs.declared.tree.CompositeKind.TheVariants as composite
use Rattle.strc_parse_tree.specs.declared.tree.Role.{Role}
use Rattle.strc_parse_tree.specs.declared.tree.Role.TheVariants as role
use Rattle.strc_elab_graph.specs.declared.graph.TheConstants.{NODE_LIMIT}
use Rattle.strc_elab.specs.declared.elaborate.TheConstants.{LEVEL_LIMIT}
use Rattle.strc_work_meaning.specs.Filters.{Filter}
use Rattle.strc_work_meaning.specs.Arithmetic.{is_true}
use Rattle.strc_work_meaning.specs.Firing as firing
use Rattle.strc_work_meaning.specs.Firing.{Store, block_left, no_traffic, started, turn_limit}
use Rattle.strc_work_rules.specs.Resolution.{filter_resolved}
use Rattle.strc_work_meaning.specs.Typing.{TypedNames, names_after}
use Rattle.strc_work_meaning.specs.declared.fault.Cause.{Cause}
use Rattle.strc_work_meaning.specs.declared.fault.Cause.TheVariants as causes
use Rattle.strc_work_meaning.specs.declared.types.ValueType.TheVariants as kind
use Rattle.strc_elab_statements.specs.Weights.{Split, ToEach, InTurn, weighted, split_dealt}
use Rattle.strc_elab_statements.specs.Weights.{join_dealt}
use Rattle.strc_elab_statements.specs.Weights.{input_written, output_written, loop_weights}
use Rattle.strc_elab_statements.specs.Weights.{loop_splitter}
use Rattle.strc_elab_statements.specs.MainStreams.{doubled_from, not_doubled, main_of}
use Rattle.strc_elab_statements.specs.Written.{same_item, is_as_written}
use Rattle.strc_elab_statements.specs.Sides.{passes_items, last_given, inputs_in}
use Rattle.strc_elab_statements.specs.Sides.{outputs_in, any_side}
use Rattle.strc_elab_stream.specs.Instances.{Stream, in_a_row}
use Rattle.strc_elab_stream.specs.Instances as instance
use Rattle.strc_elab_stream.specs.Types.{input_of, output_of}
use Rattle.strc_elab_statements.specs.Texts.{Constants, Place, Text, FilterText, CompositeText}
use Rattle.strc_elab_statements.specs.Texts.{IdentityText}
use Rattle.strc_elab_statements.specs.Texts.{ReaderText, WriterText, anonymous, text_of}
use Rattle.strc_elab_statements.specs.Texts.{parameters_of}
use Rattle.strc_elab_statements.specs.Texts.{is_doubled, declared_from, captures}
use Rattle.strc_elab_statements.specs.declared.error.ElabError.{ElabError}
use Rattle.strc_elab_statements.specs.declared.error.ElabErrorKind.TheVariants as refused
use Rattle.strc_elab_statements.specs.Statements.{ruled, computed, eval_checked, simple_done}
use Rattle.strc_elab_statements.specs.Statements.{declaration_done}

-- goes on where a rule is kept
abbrev pub where_kept : {A : Type 0} → Bool → ElabError → Result A ElabError → Result A ElabError
where_kept true refusal next = next
where_kept false refusal next = Err refusal

-- how many iterations all loops have made, and how many filters there are, so far
pub record Totals : Type 0 where
  pub turns : ℕ
  pub filters : ℕ

-- what the elaboration of a stream gives: its instances, what it takes and gives, and the totals
-- after it
pub record Elaborated : Type 0 where
  pub stream : Stream
  pub types : StreamType
  pub totals : Totals

-- what a composite stream's body is in: the program, its place, and how a child is elaborated
pub record Setting : Type 0 where
  pub program : List Declaration
  pub place : Place
  pub elaborate : Place → Text → Totals → Result Elaborated ElabError

-- how far the body of a composite stream has run: its variables and the iterations so far, what its
-- stream statements have said, and how many filters there are
pub record Progress : Type 0 where
  pub kind : CompositeKind
  pub store : Store
  -- the children of `add`, with their types
  pub children : List Stream
  pub types : List StreamType
  pub split : Option Split
  -- the weights of `join`
  pub join : Option (List ℤ)
  pub body : Option Stream
  pub loop : Option Stream
  pub enqueued : List ℤ
  pub filters : ℕ

-- a step of a body that works on its variables alone
abbrev pub on_store : (Store → Result Store ElabError) → Progress → Result Progress ElabError
on_store does progress = result_and_then (does progress.store)
    (λ store. Ok (record progress { store = store }))

-- a condition, which holds where there is none
abbrev pub condition_evaluated : Setting → TypedNames → Option tree.Expr → Progress
    → Result (ℤ × Progress) ElabError
condition_evaluated setting names None progress = Ok (pos 1, progress)
condition_evaluated setting names (Some condition) progress =
    result_and_then (eval_checked setting.place names kind.Boolean condition progress.store)
    (λ test. Ok (test.0, record progress { store = test.1 }))

-- statements in a scope of their own
abbrev pub inside : (Progress → Result Progress ElabError) → Progress → Result Progress ElabError
inside runs progress = result_and_then (runs progress)
    (λ inner. Ok (record inner { store = block_left progress.store inner.store }))

-- one more iteration of a loop
abbrev pub turned : Progress → Result Progress ElabError
turned progress = result_and_then (computed (firing.turned progress.store))
    (λ store. Ok (record progress { store = store }))

-- a loop: as long as the test holds, one more iteration; `fuel` is more than the iterations that
-- there may be
abbrev pub looped : (fuel : ℕ) → (test : Progress → Result (ℤ × Progress) ElabError)
    → (body : Progress → Result Progress ElabError) → Progress → Result Progress ElabError
looped zero test body progress = Err (refused.ConstFault causes.Turns)
looped (suc fuel) test body progress =
    result_and_then (test progress) (λ tested.
    if is_true tested.0
    then result_and_then (turned tested.1)
    (λ turning. result_and_then (body turning) (looped fuel test body))
    else Ok tested.1)

-- children

-- a child before it is elaborated: where its text is, its text, and the store after its
-- arguments
pub record Found : Type 0 where
  pub place : Place
  pub text : Text
  pub store : Store

-- the arguments of a child, from left to right, bound to its parameters
abbrev pub arguments_given : Setting → TypedNames → (parameters : List (List ℕ)) → List tree.Expr
    → Constants → Store → Result (Constants × Store) ElabError
arguments_given setting names [] arguments bound store = Ok (bound, store)
arguments_given setting names (parameter ∷ parameters) [] bound store = Ok (bound, store)
arguments_given setting names (parameter ∷ parameters) (argument ∷ arguments) bound store =
    result_and_then (eval_checked setting.place names kind.Int argument store) (λ value.
    arguments_given setting names parameters arguments
    (record { 0 = parameter; 1 = value.0 } ∷ bound) value.1)

-- a child by the name of its declaration: the name is known, each parameter has an argument, and no
-- two parameters have one name
abbrev pub named_found : Setting → TypedNames → List ℕ → Option (ℕ × Declaration) → List tree.Expr
    → Store → Result Found ElabError
named_found setting names name None arguments store = Err (refused.UnknownName name)
named_found setting names name (Some (number, declaration)) arguments store =
    where_kept (nat_eq (length arguments) (length (parameters_of declaration)))
    (refused.BadArguments setting.place.declaration)
    (result_and_then (arguments_given setting names (parameters_of declaration) arguments [] store)
    (λ bound.
    where_kept (not (is_doubled (parameters_of declaration))) (refused.TypeMismatch number)
    (Ok (record {
      place = record { declaration = number; constants = bound.0 };
      text =
          text_of declaration.name declaration.stream;
      store = bound.1;
    }))))

-- a child without a name: it is in the same declaration, and sees the numbers of its
-- surroundings
abbrev pub unnamed_found : Setting → TypedNames → Text → Store → Found
unnamed_found setting names text store = record {
  place = record {
    declaration = setting.place.declaration;
    constants =
        captures names store.variables setting.place.constants;
  };
  text = text;
  store = store;
}

-- a built-in child: it is in the same declaration, and its text names nothing
abbrev pub built_in_found : Setting → Text → Store → Found
built_in_found setting text store = record {
  place = record { declaration = setting.place.declaration; constants = [] };
  text = text;
  store = store;
}

abbrev pub child_found : Setting → TypedNames → tree.Child → Store → Result Found ElabError
child_found setting names (tree.Named name arguments) store =
    named_found setting names name (declared_from 0 setting.program name)
    (unwrap_or arguments []) store
child_found setting names (tree.Identity brackets) store =
    Ok (built_in_found setting IdentityText store)
child_found setting names (tree.FileReader text) store =
    Ok (built_in_found setting (ReaderText text) store)
child_found setting names (tree.FileWriter text) store =
    Ok (built_in_found setting (WriterText text) store)
child_found setting names (tree.AnonymousFilter types members) store =
    Ok (unnamed_found setting names (FilterText None (anonymous types members)) store)
child_found setting names (tree.AnonymousComposite written kind block) store =
    Ok (unnamed_found setting names (CompositeText written kind block) store)

-- what kind of composite stream it is
abbrev pub is_pipeline : CompositeKind → Bool
is_pipeline composite.Pipeline = true
is_pipeline _ = false

abbrev pub is_loop : CompositeKind → Bool
is_loop composite.Feedbackloop = true
is_loop _ = false

-- what one more child of a pipeline takes is what the last one gives
abbrev pub follows : List StreamType → StreamType → Bool
follows [] next = true
follows (last ∷ []) next = same_item last.output next.input
follows (first ∷ second ∷ rest) next = follows (second ∷ rest) next

-- whether a child of `add` may have this type
abbrev pub may_add : CompositeKind → List StreamType → StreamType → Bool
may_add composite.Pipeline types next = follows types next
may_add _ types next = true

-- the store and the totals after a child
abbrev pub with_totals : Progress → Store → Totals → Progress
with_totals progress store totals = record progress {
  store = record store { traffic = record store.traffic { turns = totals.turns } };
  filters = totals.filters;
}

-- a composite stream with one more child
abbrev pub child_added : Setting → Role → Progress → Store → Elaborated
    → Result Progress ElabError
child_added setting role.Add progress store elaborated =
    where_kept (may_add progress.kind progress.types elaborated.types)
    (refused.TypeMismatch setting.place.declaration)
    (Ok (record (with_totals progress store elaborated.totals) {
      children = progress.children ++ elaborated.stream ∷ [];
      types = progress.types ++ elaborated.types ∷ [];
    }))
child_added setting role.Body progress store elaborated =
    where_kept (passes_items elaborated.types) (refused.TypeMismatch setting.place.declaration)
    (Ok (record (with_totals progress store elaborated.totals) { body = Some elaborated.stream }))
child_added setting role.Loop progress store elaborated =
    where_kept (passes_items elaborated.types) (refused.TypeMismatch setting.place.declaration)
    (Ok (record (with_totals progress store elaborated.totals) { loop = Some elaborated.stream }))

-- a child that was found is elaborated and added
abbrev pub found_run : Setting → Role → Result Found ElabError → Progress
    → Result Progress ElabError
found_run setting role outcome progress =
    result_and_then outcome (λ found.
    result_and_then (setting.elaborate found.place found.text
    (record { turns = found.store.traffic.turns; filters = progress.filters })) (λ elaborated.
    child_added setting role progress found.store elaborated))

-- a child, elaborated at the moment that its statement runs
abbrev pub child_run : Setting → TypedNames → Role → tree.Child → Progress
    → Result Progress ElabError
child_run setting names role child progress = found_run setting role
    (child_found setting names child progress.store) progress

-- weights, from left to right
abbrev pub values_evaluated : Setting → TypedNames → List tree.Expr → (before : List ℤ) → Store
    → Result (List ℤ × Store) ElabError
values_evaluated setting names [] before store = Ok (before, store)
values_evaluated setting names (first ∷ rest) before store =
    result_and_then (eval_checked setting.place names kind.Int first store) (λ value.
    values_evaluated setting names rest (before ++ value.0 ∷ []) value.1)

abbrev pub splitter_evaluated : Setting → TypedNames → tree.Splitter → Store
    → Result (Split × Store) ElabError
splitter_evaluated setting names (tree.Duplicate brackets) store = Ok (ToEach, store)
splitter_evaluated setting names (tree.Roundrobin weights) store =
    result_and_then (values_evaluated setting names (unwrap_or weights []) [] store) (λ values.
    Ok (InTurn values.0, values.1))

-- which stream statements a composite stream has: any number of `add`, or of `enqueue`, and each
-- other one once
abbrev pub is_absent : {A : Type 0} → Option A → Bool
is_absent None = true
is_absent (Some value) = false

abbrev pub may_have : Role → Progress → Bool
may_have role.Add progress = not (is_loop progress.kind)
may_have role.Body progress = is_loop progress.kind && is_absent progress.body
may_have role.Loop progress = is_loop progress.kind && is_absent progress.loop

abbrev pub may_split : Progress → Bool
may_split progress = not (is_pipeline progress.kind) && is_absent progress.split

abbrev pub may_join : Progress → Bool
may_join progress = not (is_pipeline progress.kind) && is_absent progress.join

-- a stream statement
abbrev pub composed : Setting → TypedNames → tree.Composition → Progress → Result Progress ElabError
composed setting names (tree.ChildOf role child) progress =
    where_kept (may_have role progress) (refused.TypeMismatch setting.place.declaration)
    (child_run setting names role child progress)
composed setting names (tree.Split splitter) progress =
    where_kept (may_split progress) (refused.TypeMismatch setting.place.declaration)
    (result_and_then (splitter_evaluated setting names splitter progress.store) (λ split.
    Ok (record progress { split = Some split.0; store = split.1 })))
composed setting names (tree.Join weights) progress =
    where_kept (may_join progress) (refused.TypeMismatch setting.place.declaration)
    (result_and_then (values_evaluated setting names (unwrap_or weights []) [] progress.store)
    (λ join. Ok (record progress { join = Some join.0; store = join.1 })))
composed setting names (tree.Enqueue value) progress =
    where_kept (is_loop progress.kind) (refused.TypeMismatch setting.place.declaration)
    (result_and_then (eval_checked setting.place names kind.Int value progress.store) (λ item.
    Ok (record progress { enqueued = progress.enqueued ++ item.0 ∷ []; store = item.1 })))

-- bodies

abbrev mutual
  -- a statement of a composite stream's body, among the names that can be seen, of which so many
  -- are outside its block
  pub stmt_run : Setting → TypedNames → (outer : ℕ) → tree.Stmt → Progress
      → Result Progress ElabError
  stmt_run setting names outer tree.Empty progress = Ok progress
  stmt_run setting names outer (tree.Block body) progress =
      inside (stmts_run setting names (length names) body) progress
  stmt_run setting names outer (tree.Declare kind variables) progress =
      on_store (declaration_done setting.place names outer kind variables) progress
  stmt_run setting names outer (tree.Evaluate value) progress =
      on_store (simple_done setting.place names outer (tree.Evaluate value)) progress
  stmt_run setting names outer (tree.Assign name operator value) progress =
      on_store (simple_done setting.place names outer (tree.Assign name operator value)) progress
  stmt_run setting names outer (tree.AssignElement name index operator value) progress =
      on_store (simple_done setting.place names outer
      (tree.AssignElement name index operator value)) progress
  stmt_run setting names outer (tree.If condition chosen) progress =
      result_and_then (condition_evaluated setting names (Some condition) progress) (λ test.
      if is_true test.0 then inside (stmt_run setting names (length names) chosen) test.1
      else Ok test.1)
  stmt_run setting names outer (tree.IfElse condition chosen other) progress =
      result_and_then (condition_evaluated setting names (Some condition) progress) (λ test.
      if is_true test.0
      then inside (stmt_run setting names (length names) chosen) test.1
      else inside (stmt_run setting names (length names) other) test.1)
  stmt_run setting names outer (tree.While condition body) progress =
      looped (suc turn_limit) (condition_evaluated setting names (Some condition))
      (inside (stmt_run setting names (length names) body)) progress
  stmt_run setting names outer (tree.For first condition step body) progress =
      inside (λ outside.
      result_and_then (stmt_run setting names (length names) first outside) (λ begun.
      looped (suc turn_limit) (condition_evaluated setting (names_after names first) condition)
      (λ turn.
      result_and_then (inside (stmt_run setting (names_after names first)
      (length (names_after names first)) body) turn)
      (inside (stmt_run setting (names_after names first) (length (names_after names first)) step)))
      begun)) progress
  stmt_run setting names outer (tree.Push value) progress =
      on_store (simple_done setting.place names outer (tree.Push value)) progress
  stmt_run setting names outer (tree.Print value) progress =
      on_store (simple_done setting.place names outer (tree.Print value)) progress
  stmt_run setting names outer (tree.Println value) progress =
      on_store (simple_done setting.place names outer (tree.Println value)) progress
  stmt_run setting names outer (tree.Return value) progress =
      on_store (simple_done setting.place names outer (tree.Return value)) progress
  stmt_run setting names outer (tree.Compose statement) progress =
      composed setting names statement progress

  -- statements one after another, each among the names that are declared before it
  pub stmts_run : Setting → TypedNames → (outer : ℕ) → tree.Stmts → Progress
      → Result Progress ElabError
  stmts_run setting names outer tree.Done progress = Ok progress
  stmts_run setting names outer (tree.Then first rest) progress =
      result_and_then (stmt_run setting names outer first progress)
      (stmts_run setting (names_after names first) outer rest)

-- streams

-- how many instances of filters a program may have
unfoldable pub filter_limit : ℕ
filter_limit = NODE_LIMIT

-- how many levels streams may be nested in one another, the main one being the first
unfoldable pub level_limit : ℕ
level_limit = LEVEL_LIMIT

-- one more filter, unless the limit is reached
abbrev pub one_more : {A : Type 0} → Totals → (Totals → Result A ElabError) → Result A ElabError
one_more totals go = where_kept (nat_lt totals.filters filter_limit) refused.NodeLimit
    (go (record totals { filters = totals.filters + 1 }))

-- a filter whose start doesn't fault
abbrev pub started_as : {A : Type 0} → Filter → Result A Cause → Result Filter ElabError
started_as filter (Ok fields) = Ok filter
started_as filter (Err cause) = Err (refused.ConstFault cause)

-- an instance of a filter: its constants are substituted, its text is checked, and then its
-- initialisers and `init` run
abbrev pub instance_of : Place → Filter → Result Filter ElabError
instance_of place filter =
    result_and_then (ruled place.declaration (filter_resolved place.constants filter))
    (λ resolved. started_as resolved (started resolved))

-- what a filter takes and gives
abbrev pub filter_types : Filter → StreamType
filter_types filter = record { input = filter.input; output = filter.output }

-- a body before it runs
abbrev pub initial_progress : CompositeKind → Totals → Progress
initial_progress kind totals = record {
  kind = kind;
  store = record { variables = []; traffic = record no_traffic { turns = totals.turns } };
  children = [];
  types = [];
  split = None;
  join = None;
  body = None;
  loop = None;
  enqueued = [];
  filters = totals.filters;
}

-- what is made of a body that has run, where its type is the written one
abbrev pub as_written : (declaration : ℕ) → Option StreamType → StreamType → Stream → Progress
    → Result Elaborated ElabError
as_written declaration written found stream progress =
    where_kept (is_as_written written found) (refused.TypeMismatch declaration)
    (Ok (record {
      stream = stream;
      types = found;
      totals = record { turns = progress.store.traffic.turns; filters = progress.filters };
    }))

-- a pipeline has a child
abbrev pub pipeline_assembly : (declaration : ℕ) → Option StreamType → List StreamType → Progress
    → Result Elaborated ElabError
pipeline_assembly declaration written [] progress = Err (refused.TypeMismatch declaration)
pipeline_assembly declaration written (first ∷ rest) progress =
    as_written declaration written
    (record { input = first.input; output = last_given first.output rest })
    (instance.Pipeline (in_a_row progress.children)) progress

-- a split-join has a child, a splitter and a joiner, whose weights are allowed
abbrev pub splitjoin_assembly : (declaration : ℕ) → Option StreamType → List StreamType
    → Option Split
    → Option (List ℤ) → Progress → Result Elaborated ElabError
splitjoin_assembly declaration written (first ∷ rest) (Some split) (Some join) progress =
    result_and_then (split_dealt declaration split (inputs_in progress.types)) (λ splitter.
    result_and_then (join_dealt declaration join (outputs_in progress.types)) (λ joiner.
    as_written declaration written (record {
      input = any_side (inputs_in progress.types);
      output = any_side (outputs_in progress.types);
    }) (instance.SplitJoin splitter (in_a_row progress.children) joiner) progress))
splitjoin_assembly declaration written types split join progress =
    Err (refused.TypeMismatch declaration)

-- a feedback loop has each of its parts, and its weights are allowed
abbrev pub loop_assembly : (declaration : ℕ) → Option StreamType → Option (List ℤ) → Option Stream
    → Option Split → Option Stream → Progress → Result Elaborated ElabError
loop_assembly declaration written (Some join) (Some body) (Some split) (Some loop) progress =
    result_and_then (weighted declaration (loop_weights (input_written written) join)) (λ joiner.
    result_and_then (weighted declaration (loop_splitter (output_written written) split))
    (λ splitter.
    let stream = instance.FeedbackLoop joiner body splitter loop progress.enqueued in
    as_written declaration written
    (record { input = input_of stream; output = output_of stream }) stream progress))
loop_assembly declaration written join body split loop progress =
    Err (refused.TypeMismatch declaration)

abbrev pub composite_assembly : CompositeKind → (declaration : ℕ) → Option StreamType → Progress
    → Result Elaborated ElabError
composite_assembly composite.Pipeline declaration written progress =
    pipeline_assembly declaration written progress.types progress
composite_assembly composite.Splitjoin declaration written progress =
    splitjoin_assembly declaration written progress.types progress.split progress.join progress
composite_assembly composite.Feedbackloop declaration written progress =
    loop_assembly declaration written progress.join progress.body progress.split progress.loop
    progress

-- a composite stream: its body runs
abbrev pub composite_elaborated : Setting → Option StreamType → CompositeKind → tree.Stmts → Totals
    → Result Elaborated ElabError
composite_elaborated setting written kind block totals =
    result_and_then (stmts_run setting [] 0 block (initial_progress kind totals)) (λ progress.
    composite_assembly kind setting.place.declaration written progress)

-- a filter that the language has
abbrev pub given_elaborated : Stream → Totals → Result Elaborated ElabError
given_elaborated stream totals =
    one_more totals (λ totals'.
    Ok (record {
      stream = stream;
      types = record { input = input_of stream; output = output_of stream };
      totals = totals';
    }))

-- a stream of this text
abbrev pub text_elaborated : Setting → Text → Totals → Result Elaborated ElabError
text_elaborated setting (FilterText name filter) totals =
    one_more totals (λ totals'.
    result_and_then (instance_of setting.place filter) (λ resolved.
    Ok (record {
      stream = instance.Filter name resolved;
      types = filter_types resolved;
      totals =
          totals';
    })))
text_elaborated setting (CompositeText written kind block) totals =
    composite_elaborated setting written kind block totals
text_elaborated setting IdentityText totals = given_elaborated instance.Identity totals
text_elaborated setting (ReaderText text) totals =
    given_elaborated (instance.FileReader text) totals
text_elaborated setting (WriterText text) totals =
    given_elaborated (instance.FileWriter text) totals

-- a stream that may have so many levels, its own among them
abbrev pub stream_elaborated : List Declaration → (levels : ℕ) → Place → Text → Totals
    → Result Elaborated ElabError
stream_elaborated program zero place text totals = Err refused.DepthLimit
stream_elaborated program (suc levels) place text totals =
    text_elaborated (record {
      program = program;
      place = place;
      elaborate =
          stream_elaborated program levels;
    }) text totals

-- the main stream

-- the main stream's place and text
abbrev pub main_elaborated : List Declaration → ℕ × Declaration → Result Elaborated ElabError
main_elaborated program found =
    stream_elaborated program level_limit (record { declaration = found.0; constants = [] })
    (text_of found.1.name found.1.stream) (record { turns = 0; filters = 0 })

-- the stream that a program means, or the first rule that it breaks
abbrev pub elaborated : List Declaration → Option (List ℕ) → Result Stream ElabError
elaborated program main =
    result_and_then (not_doubled (doubled_from [] 0 program)) (λ _.
    result_and_then (main_of program main) (λ found.
    result_and_then (main_elaborated program found) (λ elaborated. Ok elaborated.stream)))
