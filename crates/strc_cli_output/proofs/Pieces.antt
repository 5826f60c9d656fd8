-- The text of pieces, one after another.
use Rattle.std.proofs.Common.{◌≡◌, ◌∙◌, sym, refl, subst, ℕ, List, [], ◌∷◌, ◌++◌, append-nil}
use Rattle.std.proofs.Common.{append_assoc, OnOk, Result}
use Rattle.strc_cli_output.specs.declared.text.Piece.{Piece}
use Rattle.strc_cli_output.specs.Pieces.{piece_text, pieces_text}

-- the first piece apart from those after it
pub first_apart : (piece : Piece) (rest : List Piece)
    → pieces_text (piece ∷ rest) ≡ piece_text piece ++ pieces_text rest
first_apart piece [] = sym (append-nil (piece_text piece))
first_apart piece (next ∷ rest) = refl

-- five pieces, seven and nine, as they are written and as they are added
pub five_apart : (a b c d e : List ℕ)
    → a ++ (b ++ (c ++ (d ++ e))) ≡ a ++ b ++ c ++ d ++ e
five_apart a b c d e =
    sym (append_assoc a b (c ++ (d ++ e))) ∙ sym (append_assoc (a ++ b) c (d ++ e))
    ∙ sym (append_assoc (a ++ b ++ c) d e)

pub seven_apart : (a b c d e f g : List ℕ)
    → a ++ (b ++ (c ++ (d ++ (e ++ (f ++ g))))) ≡ a ++ b ++ c ++ d ++ e ++ f ++ g
seven_apart a b c d e f g =
    five_apart a b c d (e ++ (f ++ g)) ∙ sym (append_assoc (a ++ b ++ c ++ d) e (f ++ g))
    ∙ sym (append_assoc (a ++ b ++ c ++ d ++ e) f g)

pub nine_apart : (a b c d e f g h i : List ℕ)
    → a ++ (b ++ (c ++ (d ++ (e ++ (f ++ (g ++ (h ++ i)))))))
    ≡ a ++ b ++ c ++ d ++ e ++ f ++ g ++ h ++ i
nine_apart a b c d e f g h i =
    seven_apart a b c d e f (g ++ (h ++ i))
    ∙ sym (append_assoc (a ++ b ++ c ++ d ++ e ++ f) g (h ++ i))
    ∙ sym (append_assoc (a ++ b ++ c ++ d ++ e ++ f ++ g) h i)

-- pieces are added, in either of two forms
pub in_form : {T E : Type 0} (result : Result T E) (before after one other : List ℕ)
    → one ≡ other → OnOk result (after ≡ before ++ one) → OnOk result (after ≡ before ++ other)
in_form result before after one other same added =
    subst (λ (l : List ℕ). OnOk result (after ≡ before ++ l)) same added
