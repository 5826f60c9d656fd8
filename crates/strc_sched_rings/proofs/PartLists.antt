-- Parts of a graph's nodes, one node after another.
use Rattle.std.proofs.Common.{◌≡◌, refl, sym, ap, ◌∙◌, subst, ℕ, zero, suc, ◌+◌, ◌<◌, ◌≤◌, Bool}
use Rattle.std.proofs.Common.{true, false, List, [], ◌∷◌, ◌++◌, length, get_or, drop, arith}
use Rattle.std.proofs.Common.{append_assoc, inl, inr, ltb, leb}
use Rattle.std.specs.Prelude.{Some, slice_get, if◌then◌else◌, ◌&&◌}
use Rattle.std.proofs.lemmas.Bool.{le-leb, le-ltb, lt-leb, lt-ltb}
use Rattle.std.proofs.lemmas.List.{drop_more, ext_get_or}
use Rattle.std.proofs.lemmas.Option.{slice_get-get_or}
use Rattle.strc_elab_graph.specs.Graphs.{NodeCode, Identity}
use Rattle.strc_sched_rings.specs.Parts.{IsOutside, is_within, part_codes}

-- ---- which nodes these are

both_false : (test : Bool) → (test && false) ≡ false
both_false true = refl
both_false false = refl

pub within_true : (first next node : ℕ) → first ≤ node → node < next
    → is_within first next node ≡ true
within_true first next node from below =
    ap (λ t. t && ltb node next) (le-leb first node from) ∙ lt-ltb node next below

pub within_false : (first next node : ℕ) → IsOutside first next node
    → is_within first next node ≡ false
within_false first next node (inl below) =
    ap (λ t. t && ltb node next) (lt-leb first node below)
within_false first next node (inr past) =
    ap (λ t. leb first node && t) (le-ltb node next past) ∙ both_false (leb first node)

-- ---- their codes

module _ (first next : ℕ) where
  pub codes_long : (number : ℕ) (codes : List NodeCode)
      → length (part_codes first next number codes) ≡ length codes
  codes_long number [] = refl
  codes_long number (code ∷ codes) = ap suc (codes_long (suc number) codes)

  pub own_code : (number : ℕ) (codes : List NodeCode) (k : ℕ) → first ≤ number + k
      → number + k < next
      → slice_get (part_codes first next number codes) k ≡ slice_get codes k
  own_code number [] k from below = refl
  own_code number (code ∷ codes) zero from below =
      ap (λ t. Some (if t then code else Identity))
      (within_true first next number (omega arith) (omega arith))
  own_code number (code ∷ codes) (suc k) from below =
      own_code (suc number) codes k (omega arith) (omega arith)

  pub other_code : (number : ℕ) (codes : List NodeCode) (k : ℕ) → k < length codes
      → IsOutside first next (number + k)
      → slice_get (part_codes first next number codes) k ≡ Some Identity
  other_code number [] k less outside = absurd (omega arith)
  other_code number (code ∷ codes) zero less outside =
      let e : number + 0 ≡ number = omega arith in
      ap (λ t. Some (if t then code else Identity))
      (within_false first next number (subst (IsOutside first next) e outside))
  other_code number (code ∷ codes) (suc k) less outside =
      let e : number + suc k ≡ suc number + k = omega arith in
      other_code (suc number) codes k (omega arith) (subst (IsOutside first next) e outside)

  -- one more
  pub code_next : (codes before whole : List NodeCode) (number : ℕ) (own : Bool)
      (code d copy : NodeCode) → number < length codes → get_or codes number d ≡ code
      → own ≡ is_within first next number → copy ≡ (if own then code else Identity)
      → before ++ part_codes first next number (drop number codes) ≡ whole
      → (before ++ copy ∷ []) ++ part_codes first next (number + 1) (drop (number + 1) codes)
      ≡ whole
  code_next codes before whole number own code d copy less here test is so_far =
      let e : suc number ≡ number + 1 = omega arith in
      append_assoc before (copy ∷ [])
      (part_codes first next (number + 1) (drop (number + 1) codes))
      ∙ ap (λ c. before ++ c ∷ part_codes first next (number + 1) (drop (number + 1) codes))
      (is ∙ ap (λ t. if t then code else Identity) test
      ∙ ap (λ c. if is_within first next number then c else Identity) (sym here))
      ∙ ap (λ n. before ++ (if is_within first next number then get_or codes number d else Identity)
      ∷ part_codes first next n (drop (number + 1) codes)) (sym e)
      ∙ ap (λ l. before ++ part_codes first next number l) (sym (drop_more codes number d less))
      ∙ so_far

-- codes that are the same in all places
pub codes_same : (one other : List NodeCode) → length one ≡ length other
    → ((k : ℕ) → k < length other → slice_get one k ≡ slice_get other k) → one ≡ other
codes_same one other many each =
    ext_get_or Identity one other many
    (λ k less. same_items k less (slice_get-get_or one k Identity less)
    (slice_get-get_or other k Identity (omega (arith, less, many))))
  where
    some_same : (a b : NodeCode) → Some a ≡ Some b → a ≡ b
    some_same a b e = cc

    same_items : (k : ℕ) → k < length one → slice_get one k ≡ Some (get_or one k Identity)
        → slice_get other k ≡ Some (get_or other k Identity)
        → get_or one k Identity ≡ get_or other k Identity
    same_items k less is own =
        some_same (get_or one k Identity) (get_or other k Identity)
        (sym is ∙ each k (omega (arith, less, many)) ∙ own)
