-- The first word of a text, by the place of its first space.
use Rattle.std.proofs.Common.{◌≡◌, ap, sym, refl, arith, ℕ, Bool, true, false, cond, not}
use Rattle.std.proofs.Common.{List, Option, Some, None, length, ltb, take}
use Rattle.std.specs.List.{position, position_or_len}
use Rattle.std.proofs.lemmas.Bool.{ltb-false}
use Rattle.std.proofs.lemmas.List.{take_all}
use Rattle.std.proofs.lemmas.List.Quantifiers.{position-Some}
use Rattle.std.proofs.lemmas.List.Sums.{prefix_len_is}
use Rattle.strc_cli.specs.Explaining.{first_word, is_space}

pub spaced : (text : List ℕ) (end : ℕ) → position is_space text ≡ Some end
    → take end text ≡ first_word text
spaced text end is =
    let found = position-Some is_space text end 0 is in
    ap (λ n. take n text) (sym (prefix_len_is (λ byte. not (is_space byte)) text end 0
    (omega (arith, found.0))
    (λ k below. ap not (found.2 k below))
    (λ within. ap not found.1)))

not_found : (found : Bool) (place : ℕ)
    → ◌≡◌ {A = Option ℕ} (cond found (Some place) None) None → found ≡ false
not_found true place is = cc
not_found false place is = refl

pub unspaced : (text : List ℕ) → position is_space text ≡ None
    → text ≡ first_word text
unspaced text is =
    let end = position_or_len is_space text in
    sym (take_all end text (ltb-false end (length text) (not_found (ltb end (length text)) end is)))
