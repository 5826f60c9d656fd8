-- What a scatter gives a copy: a part of the items of a ring, from a place on.
use Rattle.std.proofs.Common.{◌≡◌, refl, sym, ap, ◌∙◌, ℕ, zero, suc, ◌+◌, ◌-◌, ◌<◌, ◌≤◌, ℤ}
use Rattle.std.proofs.Common.{List, [], ◌∷◌, ◌++◌, length, take, drop, set, get_or, arith}
use Rattle.std.proofs.Common.{length-drop, drop-drop}
use Rattle.std.specs.Prelude.{Option, Some, None, slice_get}
use Rattle.std.proofs.lemmas.List.{drop-append-le, take-append-le, take-append-drop}
use Rattle.std.proofs.lemmas.List.{set-get_or}
use Rattle.std.proofs.Math.Seq.{take-add, take-nil, drop-nil}
use Rattle.circular_buffer.specs.Buffer.{buffer}
use Rattle.strc_sched_laws.specs.Rings.{Ring, ring_at, items_at, given, extended}
use Rattle.strc_sched_laws.proofs.Changes.{extended_none}
use Rattle.strc_sched_rings.proofs.Fronts.{pieces_taken}
use Rattle.strc_sched_rings.proofs.Moves.{extended_twice, set_last, get_before, get_last, at_any}

-- ---- one item

pub one_at : (items : List ℤ) (place : ℕ) (item : ℤ) → slice_get items place ≡ Some item
    → take 1 (drop place items) ≡ item ∷ []
one_at [] place item is = absurd (cc)
one_at (first ∷ items) zero item is =
    let same : first ≡ item = cc in
    ap (λ (i : ℤ). i ∷ []) same
one_at (first ∷ items) (suc place) item is = one_at items place item is

pub none_at : (items : List ℤ) (place : ℕ) → slice_get items place ≡ None
    → take 1 (drop place items) ≡ []
none_at [] zero is = refl
none_at [] (suc place) is = refl
none_at (first ∷ items) zero is = absurd (cc)
none_at (first ∷ items) (suc place) is = none_at items place is

-- ---- a part that lies in two pieces

drop_pieces : (front back : List ℤ) (start : ℕ)
    → drop start front ++ drop (start - length front) back ≡ drop start (front ++ back)
drop_pieces [] back start =
    let same : start - 0 ≡ start = omega arith in
    ap (λ (l : List ℤ). l ++ drop (start - 0) back) (drop-nil start)
    ∙ ap (λ (n : ℕ). drop n back) same
drop_pieces (item ∷ front) back zero =
    let none : zero - length (item ∷ front) ≡ 0 = omega arith in
    ap (λ (n : ℕ). (item ∷ front) ++ drop n back) none
drop_pieces (item ∷ front) back (suc start) =
    let same : suc start - length (item ∷ front) ≡ start - length front = omega arith in
    ap (λ (n : ℕ). drop start front ++ drop n back) same ∙ drop_pieces front back start

pub part_pieces : (front back all head : List ℤ) (start count : ℕ) → front ++ back ≡ all
    → head ≡ take count (drop start front)
    → head ++ take (count - length head) (drop (start - length front) back)
    ≡ take count (drop start all)
part_pieces front back all head start count is first =
    ap (λ (l : List ℤ). l ++ take (count - length head) (drop (start - length front) back)) first
    ∙ pieces_taken (drop start front) (drop (start - length front) back) head count first
    ∙ ap (take count) (drop_pieces front back start ∙ ap (drop start) is)

-- two pieces join a ring
pub parts_join : (head tail all : List ℤ) (ring : Ring) → head ++ tail ≡ all
    → extended tail (extended head ring) ≡ extended all ring
parts_join head tail all ring is =
    extended_twice head tail ring ∙ ap (λ (l : List ℤ). extended l ring) is

-- ---- a part of a ring joins its own end, item by item

one_more : (items : List ℤ) (turn : ℕ) → take turn items ++ take 1 (drop turn items)
    ≡ take (turn + 1) items
one_more items turn = sym (take-add turn 1 items)

pub repeats : (first now next : Ring) (start turn : ℕ) → start + turn < length first.items
    → now ≡ extended (take turn (drop start first.items)) first
    → next ≡ extended (take 1 (drop (start + turn) now.items)) now
    → next ≡ extended (take (turn + 1) (drop start first.items)) first
repeats first now next start turn less is changed =
    changed
    ∙ ap (λ (ring : Ring). extended (take 1 (drop (start + turn) ring.items)) ring) is
    ∙ ap (λ (l : List ℤ). extended l (extended (take turn part) first))
    (same ∙ ap (take 1) (sym (drop-drop turn start first.items)))
    ∙ parts_join (take turn part) (take 1 (drop turn part)) (take (turn + 1) part) first
    (one_more part turn)
  where
    part : List ℤ
    part = drop start first.items

    more : List ℤ
    more = take (first.capacity - length first.items) (take turn part)

    left : 1 ≤ length (drop (start + turn) first.items)
    left = omega (arith, less, length-drop (start + turn) first.items)

    same : take 1 (drop (start + turn) (first.items ++ more))
        ≡ take 1 (drop (start + turn) first.items)
    same =
        ap (take 1) (drop-append-le (start + turn) first.items more (omega (arith, less)))
        ∙ take-append-le 1 (drop (start + turn) first.items) more left

-- ---- in a list of rings

module _ {X : Type 0} where
  pub set_first : (xs : List X) (n m : ℕ) (y : X) → m < n
      → set (take n xs) m y ++ drop n xs ≡ set xs m y
  set_first [] zero m y less = absurd (omega arith)
  set_first [] (suc n) m y less = refl
  set_first (x ∷ xs) zero m y less = absurd (omega arith)
  set_first (x ∷ xs) (suc n) zero y less =
      ap (λ (l : List X). y ∷ l) (take-append-drop n xs)
  set_first (x ∷ xs) (suc n) (suc m) y less =
      ap (λ (l : List X). x ∷ l) (set_first xs n m y (omega arith))

module _ (rings low high : List Ring) (source target start count : ℕ) (one other new : Ring)
    (source_there : source < length rings) (target_there : target < length rings) where
  as_given : (was_one was_other : Ring) → was_one ≡ ring_at rings source
      → was_other ≡ ring_at rings target
      → new ≡ extended (take count (drop start was_one.items)) was_other
      → set rings target new
      ≡ given (Some target) (take count (drop start (items_at rings (Some source)))) rings
  as_given was_one was_other one_is other_is then =
      ap (set rings target) (then
      ∙ ap (λ (r : Ring). extended (take count (drop start r.items)) was_other) one_is
      ∙ ap (extended (take count (drop start (ring_at rings source).items))) other_is)

  pub given_up : source < target → low ≡ take target rings → high ≡ drop target rings
      → new ≡ extended (take count (drop start (get_or low source one).items)) (get_or high 0 other)
      → low ++ set high 0 new
      ≡ given (Some target) (take count (drop start (items_at rings (Some source)))) rings
  given_up less low_is high_is then =
      ap (λ (l : List Ring). l ++ set high 0 new) low_is
      ∙ ap (λ (l : List Ring). take target rings ++ set l 0 new) high_is
      ∙ set_last rings target new target_there
      ∙ as_given (get_or low source one) (get_or high 0 other)
      (ap (λ (l : List Ring). get_or l source one) low_is
      ∙ get_before rings target source one less
      ∙ at_any rings source one (buffer [] 0) source_there)
      (ap (λ (l : List Ring). get_or l 0 other) high_is
      ∙ get_last rings target other ∙ at_any rings target other (buffer [] 0) target_there)
      then

  pub given_down : target < source → low ≡ take source rings → high ≡ drop source rings
      → new ≡ extended (take count (drop start (get_or high 0 one).items)) (get_or low target other)
      → set low target new ++ high
      ≡ given (Some target) (take count (drop start (items_at rings (Some source)))) rings
  given_down less low_is high_is then =
      ap (λ (l : List Ring). set l target new ++ high) low_is
      ∙ ap (λ (l : List Ring). set (take source rings) target new ++ l) high_is
      ∙ set_first rings source target new less
      ∙ as_given (get_or high 0 one) (get_or low target other)
      (ap (λ (l : List Ring). get_or l 0 one) high_is
      ∙ get_last rings source one ∙ at_any rings source one (buffer [] 0) source_there)
      (ap (λ (l : List Ring). get_or l target other) low_is
      ∙ get_before rings source target other less
      ∙ at_any rings target other (buffer [] 0) target_there)
      then

-- nothing is given
pub given_none : (to : Option ℕ) (items : List ℤ) (rings : List Ring) → items ≡ []
    → given to items rings ≡ rings
given_none None items rings none = refl
given_none (Some number) items rings none =
    ap (λ (l : List ℤ). set rings number (extended l (ring_at rings number))) none
    ∙ ap (set rings number) (extended_none (ring_at rings number))
    ∙ set-get_or rings number (buffer [] 0)

pub no_part : (start count : ℕ) → ◌≡◌ {A = List ℤ} (take count (drop start [])) []
no_part start count = ap (take count) (drop-nil start) ∙ take-nil count
