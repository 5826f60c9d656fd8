-- Refusals of steps go through to what the steps are part of.
use Rattle.std.proofs.Common.{◌≡◌, ℕ, Option, Some, None, option_map, Result, Ok, Err, ap, ◌∙◌}
use Rattle.strc_lex_names.specs.Results.{result_and_then}
use Rattle.strc_elab_statements.specs.Answers.{IsRefusal}
use Rattle.strc_elab_statements.specs.declared.error.ElabError.{ElabError}
use Rattle.strc_elab_statements.specs.declared.error.ElabErrorKind.TheVariants as refused
use Rattle.strc_elab_statements.specs.Weights.{weighted}

-- where one judgement refuses as another does, a refusal of the other is one of it
pub refused_as : {A B : Type 0} (r : Result A ElabError) (s : Result B ElabError) (e : ElabError)
    → (r ≡ Err e → s ≡ Err e) → IsRefusal r e → IsRefusal s e
refused_as r s (refused.UnknownName name) carry h = carry h
refused_as r s (refused.TypeMismatch stream) carry h = carry h
refused_as r s refused.NoMain carry h = carry h
refused_as r s refused.ManyMains carry h = carry h
refused_as r s refused.DepthLimit carry h = carry h
refused_as r s refused.NodeLimit carry h = carry h
refused_as r s (refused.BadArguments stream) carry h = carry h
refused_as r s (refused.BadWeights stream) carry h = carry h
refused_as r s (refused.ConstFault cause) carry h = carry h
refused_as r s refused.TwoInputs carry h = carry h
refused_as r s (refused.TapeTwice node) carry h = carry h
refused_as r s refused.Disconnected carry h = carry h
refused_as r s refused.NoMemory carry h = tt

-- equal judgements have the same refusals
pub refused_same : {A : Type 0} (r s : Result A ElabError) (e : ElabError) → s ≡ r → IsRefusal r e
    → IsRefusal s e
refused_same r s e same h = refused_as r s e (λ is. same ∙ is) h

-- the first of two steps is refused
pub first_refused : {A B : Type 0} (r : Result A ElabError) (go : A → Result B ElabError)
    (e : ElabError) → IsRefusal r e → IsRefusal (result_and_then r go) e
first_refused r go e h = refused_as r (result_and_then r go) e
    (λ is. ap (λ x. result_and_then x go) is) h

-- the second of two steps is refused
pub second_refused : {A B : Type 0} (r : Result A ElabError) (go : A → Result B ElabError) (x : A)
    (e : ElabError) → r ≡ Ok x → IsRefusal (go x) e → IsRefusal (result_and_then r go) e
second_refused r go x e is h = refused_same (go x) (result_and_then r go) e
    (ap (λ y. result_and_then y go) is) h

-- both of two steps are done
pub both_done : {A B : Type 0} (r : Result A ElabError) (go : A → Result B ElabError) (x : A)
    (y : B) → r ≡ Ok x → go x ≡ Ok y → result_and_then r go ≡ Ok y
both_done r go x y is next = ap (λ z. result_and_then z go) is ∙ next

-- the first of two steps is done
pub then_done : {A B : Type 0} (r : Result A ElabError) (go : A → Result B ElabError) (x : A)
    (next : Result B ElabError) → r ≡ Ok x → go x ≡ next → result_and_then r go ≡ next
then_done r go x next is same = ap (λ z. result_and_then z go) is ∙ same

refusal_same : {A : Type 0} (e e' : ElabError)
    → ◌≡◌ {A = Result A ElabError} (Err e) (Err e') → e ≡ e'
refusal_same e e' is = cc

-- weights that aren't allowed, whatever is made of them
pub mapped_refused : {A B : Type 0} (declaration : ℕ) (f : A → B) (dealt : Option A)
    (e : ElabError) → IsRefusal (weighted declaration dealt) e
    → IsRefusal (weighted declaration (option_map f dealt)) e
mapped_refused {A} {B} declaration f None e h =
    refused_as (weighted {A = A} declaration None) (weighted {A = B} declaration None) e
    (λ is. ap (λ x. Err x) (refusal_same {A = A} (refused.BadWeights declaration) e is)) h
mapped_refused {A} {B} declaration f (Some x) e h =
    refused_as (weighted {A = A} declaration (Some x)) (weighted {A = B} declaration (Some (f x))) e
    (λ is. absurd (cc)) h
