-- A list whose elements are replaced one after another.
use Rattle.std.proofs.Common.{◌≡◌, sym, ap, ◌∙◌, ℕ, suc, ◌+◌, ◌<◌, List, [], ◌∷◌, ◌++◌}
use Rattle.std.proofs.Common.{map, take, drop, get_or, set, length, arith, append_assoc, add-one}
use Rattle.std.proofs.Math.Seq.{drop-cons, get_or-append_seam, set-append_seam}
use Rattle.std.proofs.lemmas.List.{length-map, length-take-le, map-append, take_more}

module _ {A : Type 0} (f : A → A) (all : List A) (i : ℕ) (d : A) (less : i < length all) where
  abbrev done : List A
  done = map f (take i all)

  abbrev rest : List A
  rest = drop (suc i) all

  abbrev here : A
  here = get_or all i d

  seam : done ++ drop i all ≡ done ++ here ∷ rest
  seam = ap (λ (l : List A). map f (take i all) ++ l) (drop-cons all i d less)

  long : length done ≡ i
  long = length-map (take i all) f ∙ length-take-le i all (omega (arith, less))

  pub read_here : get_or (done ++ drop i all) i d ≡ here
  read_here =
      ap (λ (l : List A). get_or l i d) seam
      ∙ ap (λ (n : ℕ). get_or (done ++ here ∷ rest) n d) (sym long)
      ∙ get_or-append_seam done here rest d

  pub replaced : set (done ++ drop i all) i (f here) ≡ map f (take (i + 1) all) ++ drop (i + 1) all
  replaced =
      ap (λ (l : List A). set l i (f here)) seam
      ∙ ap (λ (n : ℕ). set (done ++ here ∷ rest) n (f here)) (sym long)
      ∙ set-append_seam done here rest (f here)
      ∙ sym (append_assoc done (f here ∷ []) rest)
      ∙ ap (λ (l : List A). l ++ rest) (sym (map-append f (take i all) (here ∷ [])))
      ∙ ap (λ (l : List A). map f l ++ rest) (sym (take_more all i d less))
      ∙ ap (λ (n : ℕ). map f (take (i + 1) all) ++ drop n all) (sym (add-one i))
