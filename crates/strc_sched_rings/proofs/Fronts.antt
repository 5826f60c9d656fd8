-- The first items of a list that lies in two pieces.
use Rattle.std.proofs.Common.{◌≡◌, refl, sym, ap, ◌∙◌, ℕ, zero, suc, ◌-◌, ◌+◌, ◌<◌, ◌≤◌, ℤ, List}
use Rattle.std.proofs.Common.{[], ◌∷◌, ◌++◌, length, take, drop, get_or, set, arith, add-one}
use Rattle.std.proofs.Common.{append_assoc, pos}
use Rattle.std.specs.Prelude.{Option, Some}
use Rattle.std.proofs.lemmas.List.{length-append, length-drop, length-take, get_or-set_same}
use Rattle.std.proofs.lemmas.List.{set-set, take_all, get_or_default}
use Rattle.circular_buffer.specs.Buffer.{buffer}
use Rattle.strc_sched_laws.specs.Rings.{Ring, ring_at, extended, shortened, moved}
use Rattle.strc_sched_rings.proofs.Ports.{drop_at}

pub pieces : (front back : List ℤ) (count : ℕ)
    → take count front ++ take (count - length front) back ≡ take count (front ++ back)
pieces [] back zero = let e : zero - 0 ≡ 0 = omega arith in ap (λ n. take n back) e
pieces [] back (suc count) =
    let e : suc count - 0 ≡ suc count = omega arith in ap (λ n. take n back) e
pieces (item ∷ front) back zero =
    let e : zero - length (item ∷ front) ≡ 0 = omega arith in ap (λ n. take n back) e
pieces (item ∷ front) back (suc count) =
    let e : suc count - length (item ∷ front) ≡ count - length front = omega arith in
    ap (λ l. item ∷ l) (ap (λ n. take count front ++ take n back) e ∙ pieces front back count)

-- so many of the first piece, and then as many of the second as are left
pub pieces_taken : (front back head : List ℤ) (count : ℕ) → head ≡ take count front
    → take count front ++ take (count - length head) back ≡ take count (front ++ back)
pieces_taken front back head count is =
    let long = ap length is ∙ length-take count front in
    let left : count - length head ≡ count - length front = omega (arith, long) in
    ap (λ n. take count front ++ take n back) left ∙ pieces front back count

-- ---- the first items of a list go to its end, one by one

take_more : (items : List ℤ) (place : ℕ) (d : ℤ) → place < length items
    → take (suc place) items ≡ take place items ++ get_or items place d ∷ []
take_more [] place d less = absurd (omega arith)
take_more (item ∷ items) zero d less = refl
take_more (item ∷ items) (suc place) d less =
    ap (λ l. item ∷ l) (take_more items place d (omega arith))

rotated_next : (items : List ℤ) (turn : ℕ) → turn < length items
    → drop 1 (drop turn items ++ take turn items) ++ take 1 (drop turn items ++ take turn items)
    ≡ drop (turn + 1) items ++ take (turn + 1) items
rotated_next items turn less =
    let own : ℤ = get_or items turn (pos 0) in
    let later = drop (suc turn) items in
    ap (λ (l : List ℤ). drop 1 (l ++ take turn items) ++ take 1 (l ++ take turn items))
    (drop_at items turn (pos 0) less)
    ∙ append_assoc later (take turn items) (own ∷ [])
    ∙ ap (λ (l : List ℤ). later ++ l) (sym (take_more items turn (pos 0) less))
    ∙ ap (λ n. drop n items ++ take n items) (sym (add-one turn))

-- one more does
pub rotates : (first now next : Ring) (turn : ℕ) → turn < length first.items
    → length first.items ≤ first.capacity
    → now ≡ buffer (drop turn first.items ++ take turn first.items) first.capacity
    → next ≡ extended (take 1 now.items) (shortened 1 now)
    → next ≡ buffer (drop (turn + 1) first.items ++ take (turn + 1) first.items) first.capacity
rotates first now next turn less held is changed =
    let items = first.items in
    let all : List ℤ = drop turn items ++ take turn items in
    let both = length-append (drop turn items) (take turn items) in
    let behind = length-drop turn items in
    let ahead = length-take turn items in
    let one = length-take 1 all in
    let left = length-drop 1 all in
    let fits : length (take 1 all) ≤ first.capacity - length (drop 1 all) =
    omega (arith, one, left, both, behind, ahead, less, held) in
    changed
    ∙ ap (λ (ring : Ring). extended (take 1 ring.items) (shortened 1 ring)) is
    ∙ ap (λ (l : List ℤ). buffer (drop 1 all ++ l) first.capacity)
    (take_all (first.capacity - length (drop 1 all)) (take 1 all) fits)
    ∙ ap (λ (l : List ℤ). buffer l first.capacity) (rotated_next items turn less)

-- on a ring that both ports have
pub moved_around : (from to : Option ℕ) (number count : ℕ) (rings : List Ring) (d next : Ring)
    → from ≡ Some number → to ≡ Some number → number < length rings
    → next ≡ extended (take count (get_or rings number d).items)
    (shortened count (get_or rings number d))
    → set rings number next ≡ moved from to count rings
moved_around from to number count rings d next out inner less is =
    let ring = ring_at rings number in
    let middle = set rings number (shortened count ring) in
    ap (set rings number) (is
    ∙ ap (λ (r : Ring). extended (take count r.items) (shortened count r))
    (get_or_default rings number d (buffer [] 0) less))
    ∙ sym (set-set rings number (shortened count ring)
    (extended (take count ring.items) (shortened count ring)))
    ∙ ap (λ (r : Ring). set middle number (extended (take count ring.items) r))
    (sym (get_or-set_same rings number (shortened count ring) (buffer [] 0) less))
    ∙ ap (λ p. moved p (Some number) count rings) (sym out)
    ∙ ap (λ p. moved from p count rings) (sym inner)
