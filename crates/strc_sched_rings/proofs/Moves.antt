-- Items go from a ring to another one.
use Rattle.std.proofs.Common.{◌≡◌, ◌≢◌, refl, sym, ap, ◌∙◌, ℕ, zero, suc, ◌-◌, ◌<◌, ◌≤◌, ℤ}
use Rattle.std.proofs.Common.{List, []}
use Rattle.std.proofs.Common.{◌∷◌, ◌++◌, length, take, drop, set, get_or, arith, append_assoc}
use Rattle.std.proofs.Common.{append-nil, length-append, length-take}
use Rattle.std.specs.Prelude.{Some}
use Rattle.std.proofs.lemmas.List.{set_comm, get_or-set_other}
use Rattle.circular_buffer.specs.Buffer.{buffer}
use Rattle.strc_sched_laws.specs.Rings.{Ring, ring_at, shortened, extended, moved}
use Rattle.strc_sched_rings.proofs.Fronts.{pieces}

take_append : (n : ℕ) (a b : List ℤ) → take n (a ++ b) ≡ take n a ++ take (n - length a) b
take_append n a b = sym (pieces a b n)

pub extended_twice : (a b : List ℤ) (ring : Ring)
    → extended b (extended a ring) ≡ extended (a ++ b) ring
extended_twice a b ring =
    let room = ring.capacity - length ring.items in
    let left : ring.capacity - length (ring.items ++ take room a) ≡ room - length a = omega (
      arith,
      length-append ring.items (take room a),
      length-take room a,
    ) in
    ap (λ (k : ℕ). buffer ((ring.items ++ take room a) ++ take k b) ring.capacity) left
    ∙ ap (λ (l : List ℤ). buffer l ring.capacity)
    (append_assoc ring.items (take room a) (take (room - length a) b)
    ∙ ap (λ (l : List ℤ). ring.items ++ l) (sym (take_append room a b)))

-- two items join a ring, one after the other, and leave one
pub two_first : (items : List ℤ) (ring : Ring)
    → extended (take 1 (drop 1 items)) (extended (take 1 items) ring)
    ≡ extended (take 2 items) ring
two_first items ring =
    extended_twice (take 1 items) (take 1 (drop 1 items)) ring
    ∙ ap (λ (l : List ℤ). extended l ring) (both items)
  where
    both : (items : List ℤ) → take 1 items ++ take 1 (drop 1 items) ≡ take 2 items
    both [] = refl
    both (item ∷ []) = refl
    both (item ∷ (other ∷ items)) = refl

pub shortened_twice : (ring : Ring) → shortened 1 (shortened 1 ring) ≡ shortened 2 ring
shortened_twice ring = ap (λ (l : List ℤ). buffer l ring.capacity) (both ring.items)
  where
    both : (items : List ℤ) → drop 1 (drop 1 items) ≡ drop 2 items
    both [] = refl
    both (item ∷ []) = refl
    both (item ∷ (other ∷ items)) = refl

-- the first items of two pieces join a ring
pub both_pieces : (front back all : List ℤ) (count : ℕ) (ring : Ring) → front ++ back ≡ all
    → extended (take (count - length front) back) (extended (take count front) ring)
    ≡ extended (take count all) ring
both_pieces front back all count ring is =
    extended_twice (take count front) (take (count - length front) back) ring
    ∙ ap (λ (l : List ℤ). extended l ring) (pieces front back count ∙ ap (take count) is)

-- those that all are in the first piece
pub one_piece : (front back all : List ℤ) (count : ℕ) (ring : Ring) → front ++ back ≡ all
    → count ≤ length front → extended (take count front) ring ≡ extended (take count all) ring
one_piece front back all count ring is within =
    let none : count - length front ≡ 0 = omega arith in
    ap (λ (l : List ℤ). extended l ring)
    (sym (append-nil (take count front))
    ∙ ap (λ (n : ℕ). take count front ++ take n back) (sym none)
    ∙ pieces front back count ∙ ap (take count) is)

module _ {X : Type 0} where
  pub set_last : (xs : List X) (n : ℕ) (y : X) → n < length xs
      → take n xs ++ set (drop n xs) 0 y ≡ set xs n y
  set_last [] n y less = absurd (omega arith)
  set_last (x ∷ xs) zero y less = refl
  set_last (x ∷ xs) (suc n) y less = ap (λ l. x ∷ l) (set_last xs n y (omega arith))

  -- in two parts of a list one element each is replaced
  pub set_parts : (xs : List X) (n m : ℕ) (x y : X) → m < n → n < length xs
      → set (take n xs) m x ++ set (drop n xs) 0 y ≡ set (set xs m x) n y
  set_parts [] n m x y less within = absurd (omega arith)
  set_parts (z ∷ xs) zero m x y less within = absurd (omega arith)
  set_parts (z ∷ xs) (suc n) zero x y less within =
      ap (λ l. x ∷ l) (set_last xs n y (omega arith))
  set_parts (z ∷ xs) (suc n) (suc m) x y less within =
      ap (λ l. z ∷ l) (set_parts xs n m x y (omega arith) (omega arith))

  pub get_before : (xs : List X) (n m : ℕ) (d : X) → m < n → get_or (take n xs) m d ≡ get_or xs m d
  get_before [] zero m d less = refl
  get_before [] (suc n) m d less = refl
  get_before (x ∷ xs) zero m d less = absurd (omega arith)
  get_before (x ∷ xs) (suc n) zero d less = refl
  get_before (x ∷ xs) (suc n) (suc m) d less = get_before xs n m d (omega arith)

  pub get_last : (xs : List X) (n : ℕ) (d : X) → get_or (drop n xs) 0 d ≡ get_or xs n d
  get_last [] zero d = refl
  get_last [] (suc n) d = refl
  get_last (x ∷ xs) zero d = refl
  get_last (x ∷ xs) (suc n) d = get_last xs n d

-- the default doesn't matter
pub at_any : (rings : List Ring) (number : ℕ) (d e : Ring) → number < length rings
    → get_or rings number d ≡ get_or rings number e
at_any [] number d e less = absurd (omega arith)
at_any (ring ∷ rings) zero d e less = refl
at_any (ring ∷ rings) (suc number) d e less = at_any rings number d e (omega arith)

module _ (rings low high : List Ring) (source target count : ℕ) (one other new_one new_other : Ring)
    (apart : source ≢ target) (source_there : source < length rings)
    (target_there : target < length rings) where
  as_poured : (was_one was_other : Ring) → was_one ≡ ring_at rings source
      → was_other ≡ ring_at rings target
      → new_one ≡ shortened count was_one
      → new_other ≡ extended (take count was_one.items) was_other
      → set (set rings source new_one) target new_other
      ≡ moved (Some source) (Some target) count rings
  as_poured was_one was_other one_is other_is now then =
      let first = shortened count (ring_at rings source) in
      ap (λ (r : Ring). set (set rings source r) target new_other)
      (now ∙ ap (shortened count) one_is)
      ∙ ap (λ (r : Ring). set (set rings source first) target r)
      (then ∙ ap (λ (r : Ring). extended (take count r.items) was_other) one_is
      ∙ ap (extended (take count (ring_at rings source).items))
      (other_is ∙ sym (get_or-set_other rings source target first (buffer [] 0)
      (λ same. apart (sym same)))))

  pub poured_up : source < target → low ≡ take target rings → high ≡ drop target rings
      → new_one ≡ shortened count (get_or low source one)
      → new_other ≡ extended (take count (get_or low source one).items) (get_or high 0 other)
      → set low source new_one ++ set high 0 new_other
      ≡ moved (Some source) (Some target) count rings
  poured_up less low_is high_is now then =
      ap (λ (l : List Ring). set l source new_one ++ set high 0 new_other) low_is
      ∙ ap (λ (l : List Ring). set (take target rings) source new_one ++ set l 0 new_other) high_is
      ∙ set_parts rings target source new_one new_other less target_there
      ∙ as_poured (get_or low source one) (get_or high 0 other)
      (ap (λ (l : List Ring). get_or l source one) low_is
      ∙ get_before rings target source one less
      ∙ at_any rings source one (buffer [] 0) source_there)
      (ap (λ (l : List Ring). get_or l 0 other) high_is
      ∙ get_last rings target other ∙ at_any rings target other (buffer [] 0) target_there)
      now then

  pub poured_down : target < source → low ≡ take source rings → high ≡ drop source rings
      → new_one ≡ shortened count (get_or high 0 one)
      → new_other ≡ extended (take count (get_or high 0 one).items) (get_or low target other)
      → set low target new_other ++ set high 0 new_one
      ≡ moved (Some source) (Some target) count rings
  poured_down less low_is high_is now then =
      ap (λ (l : List Ring). set l target new_other ++ set high 0 new_one) low_is
      ∙ ap (λ (l : List Ring). set (take source rings) target new_other ++ set l 0 new_one) high_is
      ∙ set_parts rings source target new_other new_one less source_there
      ∙ sym (set_comm rings source target new_one new_other apart)
      ∙ as_poured (get_or high 0 one) (get_or low target other)
      (ap (λ (l : List Ring). get_or l 0 one) high_is
      ∙ get_last rings source one ∙ at_any rings source one (buffer [] 0) source_there)
      (ap (λ (l : List Ring). get_or l target other) low_is
      ∙ get_before rings source target other less
      ∙ at_any rings target other (buffer [] 0) target_there)
      now then
