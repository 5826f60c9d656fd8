-- The last of texts.
use Rattle.std.proofs.Common.{◌≡◌, ◌∙◌, ℕ, ◌-◌, zero, suc, List, [], ◌∷◌, Vec, Global, Option, Some}
use Rattle.std.proofs.Common.{None, map, length, refl, ap, slice_get}
use Rattle.std.specs.Prelude.{slice_index_or}
use Rattle.std.proofs.lemmas.List.{length-map}
use Rattle.strc_elab_paths.specs.Paths.{before}

text_at : (texts : List (Vec ℕ Global)) (at : ℕ) (text : Vec ℕ Global)
    → slice_get texts at ≡ Some text → slice_index_or (map (λ t. t.items) texts) at [] ≡ text.items
text_at [] at text is = cc
text_at (first ∷ texts) zero text is = cc
text_at (first ∷ texts) (suc at) text is = text_at texts at text is

text_past : (texts : List (Vec ℕ Global)) (at : ℕ) → slice_get texts at ≡ None
    → slice_index_or (map (λ t. t.items) texts) at [] ≡ []
text_past [] at is = refl
text_past (first ∷ texts) zero is = cc
text_past (first ∷ texts) (suc at) is = text_past texts at is

at_last : (texts : List (Vec ℕ Global)) → before (map (λ t. t.items) texts)
    ≡ slice_index_or (map (λ t. t.items) texts) (length texts - 1) []
at_last texts = ap (λ (n : ℕ). slice_index_or (map (λ t. t.items) texts) (n - 1) [])
    (length-map texts (λ t. t.items))

pub last_text : (texts : List (Vec ℕ Global)) (text : Vec ℕ Global)
    → slice_get texts (length texts - 1) ≡ Some text
    → before (map (λ t. t.items) texts) ≡ text.items
last_text texts text is = at_last texts ∙ text_at texts (length texts - 1) text is

pub no_text : (texts : List (Vec ℕ Global)) → slice_get texts (length texts - 1) ≡ None
    → before (map (λ t. t.items) texts) ≡ []
no_text texts is = at_last texts ∙ text_past texts (length texts - 1) is
