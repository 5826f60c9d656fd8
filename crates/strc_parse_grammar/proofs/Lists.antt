-- Lists of trees that a loop reads with the height of the highest: what is read again.
use Rattle.std.proofs.Common.{◌≡◌, ℕ, zero, suc, ◌+◌, ◌<◌, ◌≤◌, max, List, [], ◌∷◌, ◌++◌, length}
use Rattle.std.proofs.Common.{Option, Some, None, Ok, Err, refl, sym, ap, ◌∙◌, arith, inl, inr}
use Rattle.std.proofs.Common.{append_assoc}
use Rattle.std.proofs.lemmas.Bool.{cases_lt}
use Rattle.std.proofs.lemmas.List.{append-nil}
use Rattle.std.specs.List.{AllByRecursion}
use Rattle.strc_lex.specs.declared.token.TokenKind.{TokenKind}
use Rattle.strc_parse_grammar.specs.declared.error.Fault.TheVariants.{Nesting}
use Rattle.strc_parse_grammar.specs.Grammar.{each_spelled, highest}
use Rattle.strc_parse_grammar.specs.Reading.{Read, Tall, repeated, one_more, one_taller}
use Rattle.strc_parse_grammar.proofs.Completeness.{Complete}

module _ {A : Type 0} (height_of : A → ℕ) where
  -- the items that were read after those in front
  abbrev pub gathered : List A → ℕ → List A → List TokenKind → (List A × ℕ) × List TokenKind
  gathered front high items after = ((front ++ items, max high (highest height_of items)), after)

  pub gathered_none : (front : List A) (high : ℕ) (after : List TokenKind)
      → ((front, high), after) ≡ gathered front high [] after
  gathered_none front high after = let same : max high 0 ≡ high = omega arith in
      rw (append-nil front, same) refl

  pub gathered_more : (front : List A) (high : ℕ) (a : A) (others : List A) (after : List TokenKind)
      → gathered (front ++ a ∷ []) (max high (height_of a)) others after
      ≡ gathered front high (a ∷ others) after
  gathered_more front high a others after =
      let same : max (max high (height_of a)) (highest height_of others)
      ≡ max high (max (height_of a) (highest height_of others)) = omega arith in
      rw (append_assoc front (a ∷ []) others, same) refl

module _ {A : Type 0} (spelled : A → List TokenKind → List TokenKind) (height_of : A → ℕ)
    (reader : List TokenKind → Tall A) (stop : List TokenKind → Option (List TokenKind))
    (Follows : List TokenKind → Type 0) (depth : ℕ) where
  -- an item that is read again before what may follow, and where the loop goes on
  pub record TallCompleteness (a : A) : Type 0 where
    pub reads : (rest : List TokenKind) → Follows rest
        → Complete depth (height_of a) (a, height_of a, rest) (reader (spelled a rest))
    pub stays : (rest : List TokenKind) → stop (spelled a rest) ≡ None
    pub follows : (rest : List TokenKind) → Follows (spelled a rest)
    pub long : (rest : List TokenKind) → length rest + 1 ≤ length (spelled a rest)

  all_follow : (items : List A) → AllByRecursion TallCompleteness items → (rest : List TokenKind)
      → Follows rest → Follows (each_spelled spelled items rest)
  all_follow [] all rest f = f
  all_follow (a ∷ others) all rest f = all.0.follows (each_spelled spelled others rest)

  tall_long : (items : List A) → AllByRecursion TallCompleteness items → (rest : List TokenKind)
      → length rest ≤ length (each_spelled spelled items rest)
  tall_long [] all rest = omega arith
  tall_long (a ∷ others) all rest = omega
      (arith, all.0.long (each_spelled spelled others rest), tall_long others all.1 rest)

  tall_fits : (a : A) → TallCompleteness a → (front : List A) (high t : ℕ) (past : List TokenKind)
      → Follows past → height_of a ≤ depth
      → repeated stop (one_taller reader) (suc t) (front, high) (spelled a past)
      ≡ repeated stop (one_taller reader) t (front ++ a ∷ [], max high (height_of a)) past
  unfolding repeated one_taller
  tall_fits a complete front high t past f low = let read = (complete.reads past f).fits low in
      rw (complete.stays past, read) refl

  tall_over : (a : A) → TallCompleteness a → (front : List A) (high t : ℕ) (past : List TokenKind)
      → Follows past → depth < height_of a
      → repeated stop (one_taller reader) (suc t) (front, high) (spelled a past) ≡ Err Nesting
  unfolding repeated one_taller
  tall_over a complete front high t past f lt = let read = (complete.reads past f).over lt in
      rw (complete.stays past, read) refl

  no_more : (front : List A) (high t : ℕ) (rest after : List TokenKind) → stop rest ≡ Some after
      → repeated stop (one_taller reader) (suc t) (front, high) rest ≡ Ok ((front, high), after)
  unfolding repeated
  no_more front high t rest after stops = rw stops refl

  pub each_taller_completeness : (items : List A) → AllByRecursion TallCompleteness items
      → (front : List A) (high turns : ℕ) (rest after : List TokenKind) → stop rest ≡ Some after
      → Follows rest
      → length (each_spelled spelled items rest) + 1 ≤ turns + length rest
      → Complete depth (highest height_of items) (gathered height_of front high items after)
      (repeated stop (one_taller reader) turns (front, high) (each_spelled spelled items rest))
  each_taller_completeness [] all front high zero rest after stops f le = absurd (omega arith)
  each_taller_completeness [] all front high (suc t) rest after stops f le =
      record {
        fits = λ h. no_more front high t rest after stops
            ∙ ap Ok (gathered_none height_of front high after);
        over = λ h. absurd (omega arith);
      }
  each_taller_completeness (a ∷ others) all front high zero rest after stops f le =
      absurd (omega (
        arith,
        all.0.long (each_spelled spelled others rest),
        tall_long others all.1 rest,
      ))
  each_taller_completeness (a ∷ others) all front high (suc t) rest after stops f le =
      let past = each_spelled spelled others rest in
      let next = all_follow others all.1 rest f in
      let enough : length past + 1 ≤ t + length rest = omega (arith, all.0.long past) in
      let more = each_taller_completeness others all.1 (front ++ a ∷ [])
      (max high (height_of a)) t rest after stops f enough in record {
        fits = λ h. tall_fits a all.0 front high t past next (omega arith) ∙ more.fits (omega arith)
            ∙ ap Ok (gathered_more height_of front high a others after);
        over = λ h. elim (cases_lt depth (height_of a)) [
          | inl lt ↦ tall_over a all.0 front high t past next lt
          | inr low ↦ tall_fits a all.0 front high t past next low ∙ more.over (omega arith)
        ];
      }

-- ---- items that are read without a height

module _ {A : Type 0} (spelled : A → List TokenKind → List TokenKind) (height_of : A → ℕ)
    (reader : List TokenKind → Read A) (stop : List TokenKind → Option (List TokenKind)) (depth : ℕ)
  where
    -- an item that is read again, and where the loop goes on
    pub record ItemCompleteness (a : A) : Type 0 where
      pub reads : (rest : List TokenKind) → Complete depth (height_of a) (a, rest)
          (reader (spelled a rest))
      pub stays : (rest : List TokenKind) → stop (spelled a rest) ≡ None
      pub long : (rest : List TokenKind) → length rest + 1 ≤ length (spelled a rest)

    each_long : (items : List A) → AllByRecursion ItemCompleteness items → (rest : List TokenKind)
        → length rest ≤ length (each_spelled spelled items rest)
    each_long [] all rest = omega arith
    each_long (a ∷ others) all rest = omega
        (arith, all.0.long (each_spelled spelled others rest), each_long others all.1 rest)

    item_fits : (a : A) → ItemCompleteness a → (front : List A) (t : ℕ) (past : List TokenKind)
        → height_of a ≤ depth
        → repeated stop (one_more reader) (suc t) front (spelled a past)
        ≡ repeated stop (one_more reader) t (front ++ a ∷ []) past
    unfolding repeated one_more
    item_fits a complete front t past low = let read = (complete.reads past).fits low in
        rw (complete.stays past, read) refl

    item_over : (a : A) → ItemCompleteness a → (front : List A) (t : ℕ) (past : List TokenKind)
        → depth < height_of a
        → repeated stop (one_more reader) (suc t) front (spelled a past) ≡ Err Nesting
    unfolding repeated one_more
    item_over a complete front t past lt = let read = (complete.reads past).over lt in
        rw (complete.stays past, read) refl

    no_more_items : (front : List A) (t : ℕ) (rest after : List TokenKind) → stop rest ≡ Some after
        → repeated stop (one_more reader) (suc t) front rest ≡ Ok (front, after)
    unfolding repeated
    no_more_items front t rest after stops = rw stops refl

    pub each_completeness : (items : List A) → AllByRecursion ItemCompleteness items
        → (front : List A) (turns : ℕ) (rest after : List TokenKind) → stop rest ≡ Some after
        → length (each_spelled spelled items rest) + 1 ≤ turns + length rest
        → Complete depth (highest height_of items) (front ++ items, after)
        (repeated stop (one_more reader) turns front (each_spelled spelled items rest))
    each_completeness [] all front zero rest after stops le = absurd (omega arith)
    each_completeness [] all front (suc t) rest after stops le =
        record {
          fits = λ h. no_more_items front t rest after stops
              ∙ ap (λ (xs : List A). Ok (xs, after)) (sym (append-nil front));
          over =
              λ h. absurd (omega arith);
        }
    each_completeness (a ∷ others) all front zero rest after stops le =
        absurd (omega (
          arith,
          all.0.long (each_spelled spelled others rest),
          each_long others all.1 rest,
        ))
    each_completeness (a ∷ others) all front (suc t) rest after stops le =
        let past = each_spelled spelled others rest in
        let enough : length past + 1 ≤ t + length rest = omega (arith, all.0.long past) in
        let more = each_completeness others all.1 (front ++ a ∷ []) t rest after stops enough in
        record {
          fits = λ h. item_fits a all.0 front t past (omega arith) ∙ more.fits (omega arith)
              ∙ ap (λ (xs : List A). Ok (xs, after)) (append_assoc front (a ∷ []) others);
          over = λ h. elim (cases_lt depth (height_of a)) [
            | inl lt ↦ item_over a all.0 front t past lt
            | inr low ↦ item_fits a all.0 front t past low ∙ more.over (omega arith)
          ];
        }
