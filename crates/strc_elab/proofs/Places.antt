-- Where refusals of steps are.
use Rattle.std.proofs.Common.{◌≡◌, Option, Result, Ok, Err, sym, ap, ◌∙◌, subst}
use Rattle.strc_lex_names.specs.declared.place.Span.{Span}
use Rattle.strc_work_meaning.specs.Typing.{TypedNames}
use Rattle.strc_elab_statements.specs.Answers.{IsRefusal}
use Rattle.strc_elab_statements.specs.declared.error.ElabError.{ElabError}
use Rattle.strc_elab_statements.specs.declared.error.ElabErrorKind.TheVariants as refused
use Rattle.strc_elab.specs.Answering.{IsPlaceOf, Traces}
use Rattle.strc_elab.specs.Places.{place_after, trace_after}
use Rattle.strc_elab.specs.declared.trace.Trace.{Trace}

-- where a judgement refuses, another place is expected
pub placed_as : {A : Type 0} (r : Result A ElabError) (e : ElabError)
    (own expected found : Option Span) → (r ≡ Err e → expected ≡ own) → IsRefusal r e
    → IsPlaceOf e own found → IsPlaceOf e expected found
placed_as r (refused.UnknownName name) own expected found carry h is = is ∙ sym (carry h)
placed_as r (refused.TypeMismatch stream) own expected found carry h is = is ∙ sym (carry h)
placed_as r refused.NoMain own expected found carry h is = is ∙ sym (carry h)
placed_as r refused.ManyMains own expected found carry h is = is ∙ sym (carry h)
placed_as r refused.DepthLimit own expected found carry h is = is ∙ sym (carry h)
placed_as r refused.NodeLimit own expected found carry h is = is ∙ sym (carry h)
placed_as r (refused.BadArguments stream) own expected found carry h is = is ∙ sym (carry h)
placed_as r (refused.BadWeights stream) own expected found carry h is = is ∙ sym (carry h)
placed_as r (refused.ConstFault cause) own expected found carry h is = is ∙ sym (carry h)
placed_as r refused.TwoInputs own expected found carry h is = is ∙ sym (carry h)
placed_as r (refused.TapeTwice node) own expected found carry h is = is ∙ sym (carry h)
placed_as r refused.Disconnected own expected found carry h is = is ∙ sym (carry h)
placed_as r refused.NoMemory own expected found carry h is = tt

-- another place is expected
pub placed_same : (e : ElabError) (own expected found : Option Span) → expected ≡ own
    → IsPlaceOf e own found → IsPlaceOf e expected found
placed_same e own expected found same is = subst (λ p. IsPlaceOf e p found) (sym same) is

-- the same names are seen, and the same places are known
pub placed_among : (e : ElabError) (traced : TypedNames → Trace → Trace) (names names' : TypedNames)
    (trace trace' : Trace) (found : Option Span) → names' ≡ names → trace' ≡ trace
    → IsPlaceOf e (traced names' trace').here found → IsPlaceOf e (traced names trace).here found
placed_among e traced names names' trace trace' found seen same is =
    subst (λ t. IsPlaceOf e (traced names t).here found) same
    (subst (λ n. IsPlaceOf e (traced n trace').here found) seen is)

-- a refusal is where it is expected
pub placed_at : (e : ElabError) (expected found : Option Span) → found ≡ expected
    → IsPlaceOf e expected found
placed_at (refused.UnknownName name) expected found is = is
placed_at (refused.TypeMismatch stream) expected found is = is
placed_at refused.NoMain expected found is = is
placed_at refused.ManyMains expected found is = is
placed_at refused.DepthLimit expected found is = is
placed_at refused.NodeLimit expected found is = is
placed_at (refused.BadArguments stream) expected found is = is
placed_at (refused.BadWeights stream) expected found is = is
placed_at (refused.ConstFault cause) expected found is = is
placed_at refused.TwoInputs expected found is = is
placed_at (refused.TapeTwice node) expected found is = is
placed_at refused.Disconnected expected found is = is
placed_at refused.NoMemory expected found is = tt

-- the first of two steps is refused
pub first_refused_at : {A T : Type 0} (r : Result A ElabError) (e : ElabError)
    (at : T → Option Span) (own : T) (found : Option Span) (next : A → T) → IsRefusal r e
    → IsPlaceOf e (at own) found → IsPlaceOf e (at (place_after r own next)) found
first_refused_at r e at own found next h is =
    placed_as r e (at own) (at (place_after r own next)) found
    (λ same. ap (λ x. at (place_after x own next)) same) h is

pub first_placed : {A : Type 0} (r : Result A ElabError) (e : ElabError) (own : Trace)
    (found : Option Span) (next : A → Trace) → IsRefusal r e → IsPlaceOf e own.here found
    → IsPlaceOf e (place_after r own next).here found
first_placed r e own found next h is = first_refused_at r e (λ t. t.here) own found next h is

-- the first of two steps is refused, and nothing has moved
pub first_here : {A : Type 0} (r : Result A ElabError) (e : ElabError) (trace : Trace)
    (found : Option Span) (next : A → Trace) → IsRefusal r e → found ≡ trace.here
    → IsPlaceOf e (place_after r trace next).here found
first_here r e trace found next h is =
    first_placed r e trace found next h (placed_at e trace.here found is)

-- the first of two steps is done
pub place_after_done : {A T : Type 0} (r : Result A ElabError) (own : T) (next : A → T) (x : A)
    → r ≡ Ok x → place_after r own next ≡ next x
place_after_done r own next x is = ap (λ y. place_after y own next) is

-- the second of two steps is refused
pub second_placed : {A : Type 0} (r : Result A ElabError) (e : ElabError) (own : Trace)
    (found : Option Span) (next : A → Trace) (x : A) → r ≡ Ok x
    → IsPlaceOf e (next x).here found → IsPlaceOf e (place_after r own next).here found
second_placed r e own found next x is h =
    placed_same e (next x).here (place_after r own next).here found
    (ap (λ t. t.here) (place_after_done r own next x is)) h

-- both of two steps are done
pub both_traced : {A : Type 0} (r : Result A ElabError) (own : Trace) (next : A → Trace → Trace)
    (x : A) (between after : Trace) → r ≡ Ok x → between ≡ own → after ≡ next x between
    → after ≡ trace_after r own next
both_traced r own next x between after is first second =
    second ∙ ap (next x) first ∙ sym (place_after_done r own (λ v. next v own) x is)

-- what is made of the place
pub mapped_placed : (e : ElabError) (f : Option Span → Option Span) (expected found : Option Span)
    → IsPlaceOf e expected found → IsPlaceOf e (f expected) (f found)
mapped_placed (refused.UnknownName name) f expected found is = ap f is
mapped_placed (refused.TypeMismatch stream) f expected found is = ap f is
mapped_placed refused.NoMain f expected found is = ap f is
mapped_placed refused.ManyMains f expected found is = ap f is
mapped_placed refused.DepthLimit f expected found is = ap f is
mapped_placed refused.NodeLimit f expected found is = ap f is
mapped_placed (refused.BadArguments stream) f expected found is = ap f is
mapped_placed (refused.BadWeights stream) f expected found is = ap f is
mapped_placed (refused.ConstFault cause) f expected found is = ap f is
mapped_placed refused.TwoInputs f expected found is = ap f is
mapped_placed (refused.TapeTwice node) f expected found is = ap f is
mapped_placed refused.Disconnected f expected found is = ap f is
mapped_placed refused.NoMemory f expected found is = tt

-- the same names are seen, and the same places are known
pub moved_among : (traced : TypedNames → Trace → Trace) (names names' : TypedNames)
    (trace trace' after : Trace) → names' ≡ names → trace' ≡ trace
    → after ≡ traced names' trace' → after ≡ traced names trace
moved_among traced names names' trace trace' after seen same h =
    subst (λ t. after ≡ traced names t) same (subst (λ n. after ≡ traced n trace') seen h)

-- ---- answers

-- other places are expected
pub traces_same : {X : Type 0} (r : Result X ElabError) (own expected after : Trace)
    → expected ≡ own → Traces r own after → Traces r expected after
traces_same r own expected after same h = subst (λ t. Traces r t after) (sym same) h

pub traces_among : {X : Type 0} (r : Result X ElabError) (traced : TypedNames → Trace → Trace)
    (names names' : TypedNames) (trace trace' after : Trace) → names' ≡ names → trace' ≡ trace
    → Traces r (traced names' trace') after → Traces r (traced names trace) after
traces_among r traced names names' trace trace' after seen same h =
    subst (λ t. Traces r (traced names t) after) same
    (subst (λ n. Traces r (traced n trace') after) seen h)
