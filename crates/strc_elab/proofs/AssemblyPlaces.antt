-- Where what a body says can't be assembled.
use Rattle.std.proofs.Common.{◌≡◌, ℤ, true, List, [], ◌∷◌, length, Option, Some, None, is_some}
use Rattle.std.proofs.Common.{option_map, Result, Ok, Vec, Box, Global, refl, ap, ◌∙◌}
use Rattle.strc_lex_names.specs.declared.place.Span.{Span}
use Rattle.strc_parse_tree.specs.declared.tree.StreamType.{StreamType}
use Rattle.strc_elab_stream.specs.declared.stream.Stream.{Stream}
use Rattle.strc_elab_statements.specs.Answers.{IsRefusal}
use Rattle.strc_elab_statements.specs.Sides.{inputs_in, outputs_in, row_types}
use Rattle.strc_elab_statements.specs.Splits.{split_view}
use Rattle.strc_elab_statements.specs.Weights as weights
use Rattle.strc_elab_statements.specs.Weights.{weighted, loop_weights, loop_splitter, input_written}
use Rattle.strc_elab_statements.specs.Weights.{output_written, split_dealt, join_dealt}
use Rattle.strc_elab_statements.specs.declared.error.ElabError.{ElabError}
use Rattle.strc_elab_statements.specs.declared.weights.Split.{Split}
use Rattle.strc_elab.specs.Answering.{IsPlaceOf, join_view, part_view}
use Rattle.strc_elab.specs.Elaboration.{Progress}
use Rattle.strc_elab.specs.Places.{place_after, ends_place, pipeline_place, splitjoin_place}
use Rattle.strc_elab.specs.Places.{loop_place}
use Rattle.strc_elab.specs.declared.trace.Trace.{Trace}
use Rattle.strc_elab.proofs.Places.{placed_same, first_refused_at, place_after_done}

-- a pipeline whose ends are known
pub pipeline_place-ends : (written : Option StreamType) (types : List StreamType)
    (found : StreamType) (trace : Trace) → Some found ≡ row_types types
    → ends_place written found.input trace ≡ pipeline_place written types trace
pipeline_place-ends written [] found trace is = absurd (cc)
pipeline_place-ends written (first ∷ rest) found trace is =
    let same : found.input ≡ first.input = cc in ap (λ i. ends_place written i trace) same

-- ---- two steps, one after another

-- which of them is refused
abbrev pub either_place : {A B : Type 0} → Result A ElabError → (own : Option Span)
    → Result B ElabError → (own' : Option Span) → Option Span
either_place r own r' own' = place_after r own (λ x. place_after r' own' (λ y. None))

pub first_step : {A B : Type 0} (r : Result A ElabError) (r' : Result B ElabError) (e : ElabError)
    (own own' whole found : Option Span) → whole ≡ either_place r own r' own' → IsRefusal r e
    → IsPlaceOf e own found → IsPlaceOf e whole found
first_step r r' e own own' whole found is h at =
    placed_same e (either_place r own r' own') whole found is
    (first_refused_at r e (λ p. p) own found (λ x. place_after r' own' (λ y. None)) h at)

pub second_step : {A B : Type 0} (r : Result A ElabError) (r' : Result B ElabError) (x : A)
    (e : ElabError) (own own' whole found : Option Span) → whole ≡ either_place r own r' own'
    → r ≡ Ok x → IsRefusal r' e → IsPlaceOf e own' found → IsPlaceOf e whole found
second_step r r' x e own own' whole found is done h at =
    placed_same e (place_after r' own' (λ y. None)) whole found
    (is ∙ place_after_done r own (λ x. place_after r' own' (λ y. None)) x done)
    (first_refused_at r' e (λ p. p) own' found (λ y. None) h at)

-- ---- split-joins and feedback loops of which each part is there

pub splitjoin_place-parts : (declaration : _) (types : List StreamType)
    (split : Option weights.Split) (join : Option (List ℤ)) (p : Progress) (trace : Trace)
    (s : weights.Split) (j : List ℤ) → (length types ≡ 0 → ⊥) → split ≡ Some s → join ≡ Some j
    → splitjoin_place declaration types split join p trace
    ≡ either_place (split_dealt declaration s (inputs_in p.types)) trace.split
    (join_dealt declaration j (outputs_in p.types)) trace.join
splitjoin_place-parts declaration [] split join p trace s j some split_is join_is =
    absurd (some refl)
splitjoin_place-parts declaration (first ∷ rest) split join p trace s j some split_is join_is =
    ap (λ x. splitjoin_place declaration (first ∷ rest) x join p trace) split_is
    ∙ ap (λ x. splitjoin_place declaration (first ∷ rest) (Some s) x p trace) join_is

pub loop_place-parts : (declaration : _) (written : Option StreamType)
    (join : Option (Vec ℤ Global)) (body : Option (Box Stream Global)) (split : Option Split)
    (loop : Option (Box Stream Global)) (trace : Trace) (j : Vec ℤ Global) (s : Split)
    → join ≡ Some j → split ≡ Some s → is_some body ≡ true → is_some loop ≡ true
    → loop_place declaration written (join_view join) (part_view body)
    (option_map split_view split) (part_view loop) trace
    ≡ either_place (weighted declaration (loop_weights (input_written written) j.items))
    trace.join (weighted declaration (loop_splitter (output_written written) (split_view s)))
    trace.split
loop_place-parts declaration written join None split loop trace j s join_is split_is held back =
    absurd (cc)
loop_place-parts declaration written join (Some b) split None trace j s join_is split_is held back =
    absurd (cc)
loop_place-parts declaration written join (Some b) split (Some l) trace j s join_is split_is held
    back =
    ap (λ x. loop_place declaration written (join_view x) (part_view (Some b))
    (option_map split_view split) (part_view (Some l)) trace) join_is
    ∙ ap (λ x. loop_place declaration written (Some j.items) (part_view (Some b))
    (option_map split_view x) (part_view (Some l)) trace) split_is
