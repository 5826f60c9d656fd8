-- How code that elaborates answers.
use Rattle.std.specs.Prelude.{◌≡◌, ℤ, List, map, Option, Result, Ok, Err, Vec, Box}
use Rattle.std.specs.Option.{option_map, option_or}
use Rattle.std.specs.declared.alloc.Global.{Global}
use Rattle.strc_work_meaning.specs.Firing as firing
use Rattle.strc_elab.specs.Elaboration as spec
use Rattle.strc_elab_statements.specs.Weights as weights
use Rattle.strc_elab_statements.specs.Saying.{store_of}
use Rattle.strc_elab_statements.specs.Texts.{Constants}
use Rattle.strc_elab_stream.specs.Instances as instances
use Rattle.strc_elab_stream.specs.View.{stream_view}
use Rattle.strc_elab_stream.specs.declared.stream.Stream.{Stream}
use Rattle.strc_elab_statements.specs.declared.error.ElabError.{ElabError}
use Rattle.strc_elab_statements.specs.declared.error.ElabErrorKind.TheVariants.{NoMemory}
use Rattle.strc_elab.specs.declared.placed_error.PlacedError.{PlacedError}
use Rattle.strc_elab.specs.declared.progress.Progress.{Progress}
use Rattle.strc_elab.specs.declared.trace.Trace.{Trace}
use Rattle.strc_elab.specs.declared.task.Elaborated.{Elaborated}
use Rattle.strc_lex_names.specs.declared.place.Span.{Span}
use Rattle.strc_elab_statements.specs.Splits.{split_view}
use Rattle.strc_elab_statements.specs.declared.weights.Split.{Split}
use Rattle.strc_elab_statements.specs.Answers.{IsRefusal}

-- the weights of a `join`
abbrev pub join_view : Option (Vec ℤ Global) → Option (List ℤ)
join_view join = option_map (λ w. w.items) join

-- body or loop of a feedback loop
abbrev pub part_view : Option (Box Stream Global) → Option instances.Stream
part_view part = option_map (λ b. stream_view b.value) part

-- a body as far as it has run
abbrev pub progress_of : Progress → spec.Progress
progress_of progress = record {
  kind = progress.kind;
  store = store_of progress.store;
  children = map stream_view progress.children.items;
  types = progress.types.items;
  split = option_map split_view progress.split;
  join = join_view progress.join;
  body = part_view progress.body;
  loop = part_view progress.looped;
  enqueued = progress.enqueued.items;
  filters = progress.filters;
}

-- an answer is the weights, with the store after it
abbrev pub Lists : Result (List ℤ × firing.Store) ElabError → Result (Vec ℤ Global) ElabError
    → firing.Store → Type 0
Lists expected (Ok values) after = expected ≡ Ok (values.items, after)
Lists expected (Err refusal) after = IsRefusal expected refusal

-- an answer is the `split`, with the store after it
abbrev pub Splits : Result (weights.Split × firing.Store) ElabError → Result Split ElabError
    → firing.Store → Type 0
Splits expected (Ok split) after = expected ≡ Ok (split_view split, after)
Splits expected (Err refusal) after = IsRefusal expected refusal

-- an answer is the condition's value, with the body as far as it has run after it
abbrev pub Tests : Result (ℤ × spec.Progress) ElabError → Result ℤ ElabError → spec.Progress
    → Type 0
Tests expected (Ok value) after = expected ≡ Ok (value, after)
Tests expected (Err refusal) after = IsRefusal expected refusal

-- an answer is the body as far as it has run
abbrev pub Runs : Result spec.Progress ElabError → Result (Unit {0}) ElabError → spec.Progress
    → Type 0
Runs expected (Ok done) after = expected ≡ Ok after
Runs expected (Err refusal) after = IsRefusal expected refusal

-- an answer is the constants that arguments are bound to, with the store after it
abbrev pub Binds : Result (Constants × firing.Store) ElabError → Result Constants ElabError
    → firing.Store → Type 0
Binds expected (Ok bound) after = expected ≡ Ok (bound, after)
Binds expected (Err refusal) after = IsRefusal expected refusal

-- ---- places

-- the place of a refusal, which is known unless it is out of memory
abbrev pub IsPlaceOf : ElabError → (expected found : Option Span) → Type 0
IsPlaceOf NoMemory expected found = Unit {0}
IsPlaceOf refusal expected found = found ≡ expected

-- after an answer these are a body's places; after a refusal the innermost statement is the one
-- that was refused
abbrev pub Traces : {X : Type 0} → Result X ElabError → (expected after : Trace) → Type 0
Traces (Ok done) expected after = after ≡ expected
Traces (Err refusal) expected after = IsPlaceOf refusal expected.here after.here

-- an answer, whose refusal has a place, is the judgement's
abbrev pub IsPlacedVerdict : {X A : Type 0} → (X → A) → Result A ElabError → Result X PlacedError
    → Type 0
IsPlacedVerdict view expected (Ok x) = expected ≡ Ok (view x)
IsPlacedVerdict view expected (Err refusal) = IsRefusal expected refusal.error

-- an answer's refusal is at this place
abbrev pub IsPlaced : {X : Type 0} → (expected : Option Span) → Result X PlacedError → Type 0
IsPlaced expected (Ok x) = Unit {0}
IsPlaced expected (Err refusal) = IsPlaceOf refusal.error expected refusal.place

-- an answer is a body at these places, and its refusal is at the innermost statement
abbrev pub IsTraced : (expected : Trace) → Result Progress PlacedError → Type 0
IsTraced expected (Ok progress) = progress.trace ≡ expected
IsTraced expected (Err refusal) = IsPlaceOf refusal.error expected.here refusal.place

-- an answer, whose refusal gets this place
abbrev pub refused_at : {X : Type 0} → (place : Option Span) → Result X ElabError
    → Result X PlacedError
refused_at place (Ok x) = Ok x
refused_at place (Err refusal) = Err (record { error = refusal; place = place })

-- a refusal of a text one level below is within that text, as far as that is known
pub record IsWithin (answer : Result Elaborated PlacedError) (refusal : ElabError)
    (before after : Option Span) : Type 0 where
  pub place : Option Span
  pub answered : answer ≡ Err (record { error = refusal; place = place })
  pub moved : after ≡ option_or place before

-- what such a text gives
abbrev pub IsFrom : Result Elaborated PlacedError → Result Elaborated ElabError
    → (before after : Option Span) → Type 0
IsFrom answer (Ok elaborated) before after = (answer ≡ Ok elaborated) × (after ≡ before)
IsFrom answer (Err refusal) before after = IsWithin answer refusal before after
