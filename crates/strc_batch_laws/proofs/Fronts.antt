-- Fronts of orders that are made of parts: a front of so many rounds in a row is some of them and a
-- front of the next; one of segments is the first of them and a front of the next.
use Rattle.std.proofs.Common.{◌≡◌, refl, sym, ap, ◌∙◌, subst, ℕ, zero, suc, ◌+◌, ◌-◌, ◌<◌, ◌≤◌}
use Rattle.std.proofs.Common.{List, [], ◌∷◌, ◌++◌, append-nil, append_assoc, arith}
use mathlib.Core.Logic.{inl, inr, ◌⊎◌}
use Rattle.strc_elab_dataflow.specs.Staging.{joined, repeated}

-- Two lists in a row, cut anywhere: within the first, or within the second.
pub data IsCutIn (done left xs ys : List ℕ) : Type 0 where
  InFirst : (rest : List ℕ) → done ++ rest ≡ xs → IsCutIn done left xs ys
  InSecond : (front : List ℕ) → done ≡ xs ++ front → front ++ left ≡ ys → IsCutIn done left xs ys

tail_same : (a b : ℕ) (xs ys : List ℕ) → a ∷ xs ≡ b ∷ ys → xs ≡ ys
tail_same a b xs ys e = cc

head_same : (a b : ℕ) (xs ys : List ℕ) → a ∷ xs ≡ b ∷ ys → a ≡ b
head_same a b xs ys e = cc

pub cut_in : (done left xs ys : List ℕ) → done ++ left ≡ xs ++ ys → IsCutIn done left xs ys
cut_in done left [] ys e = InSecond done refl e
cut_in [] left (x ∷ xs) ys e = InFirst (x ∷ xs) refl
cut_in (d ∷ done) left (x ∷ xs) ys e =
    let same : d ≡ x = head_same d x (done ++ left) (xs ++ ys) e in
    by_rest same (cut_in done left xs ys (tail_same d x (done ++ left) (xs ++ ys) e))
  where
    by_rest : d ≡ x → IsCutIn done left xs ys → IsCutIn (d ∷ done) left (x ∷ xs) ys
    by_rest same (InFirst rest is) = InFirst rest
        (ap (λ (v : ℕ). v ∷ (done ++ rest)) same ∙ ap (λ (l : List ℕ). x ∷ l) is)
    by_rest same (InSecond front is rest) = InSecond front
        (ap (λ (v : ℕ). v ∷ done) same ∙ ap (λ (l : List ℕ). x ∷ l) is) rest

-- So many rounds, and a front of the next one.
pub record IsFrontOf (order : List ℕ) (rounds : ℕ) (done : List ℕ) : Type 0 where
  pub whole : ℕ
  pub front : List ℕ
  pub back : List ℕ
  pub before : whole < rounds
  pub round : front ++ back ≡ order
  pub is : done ≡ repeated whole order ++ front

none_left : (a b : List ℕ) → a ++ b ≡ [] → a ≡ []
none_left [] b same = refl
none_left (x ∷ a) b same = absurd (grind arith)

last_by : (order : List ℕ) (k : ℕ) (done left : List ℕ)
    → ((rest : List ℕ) → done ++ rest ≡ repeated k order → IsFrontOf order (suc k) done)
    → IsCutIn done left (repeated k order) order → IsFrontOf order (suc k) done
last_by order k done left earlier (InFirst rest is) = earlier rest is
last_by order k done left earlier (InSecond front is rest) = record {
  whole = k;
  front = front;
  back = left;
  before = omega arith;
  round = rest;
  is = is;
}

one_more : (order : List ℕ) (k : ℕ) (done : List ℕ) → IsFrontOf order k done
    → IsFrontOf order (suc k) done
one_more order k done earlier = record {
  whole = earlier.whole;
  front = earlier.front;
  back = earlier.back;
  before = omega (arith, earlier.before);
  round = earlier.round;
  is = earlier.is;
}

pub front_of : (order : List ℕ) (rounds : ℕ) (done left : List ℕ)
    → done ++ left ≡ repeated (suc rounds) order → IsFrontOf order (suc rounds) done
unfolding repeated
front_of order zero done left e =
    last_by order zero done left
    (λ rest is. record {
      whole = 0;
      front = [];
      back = order;
      before = omega arith;
      round = refl;
      is = none_left done rest is;
    }) (cut_in done left [] order e)
front_of order (suc k) done left e =
    last_by order (suc k) done left
    (λ rest is. one_more order (suc k) done (front_of order k done rest is))
    (cut_in done left (repeated (suc k) order) order e)

-- The first so many segments, and a front of the next.
pub record IsFrontOfJoined (segment : ℕ → List ℕ) (stages : ℕ) (done : List ℕ) : Type 0 where
  pub at : ℕ
  pub front : List ℕ
  pub back : List ℕ
  pub before : at < stages
  pub segment_is : front ++ back ≡ segment at
  pub is : done ≡ joined segment at ++ front

one_segment : (segment : ℕ → List ℕ) (a : ℕ) (done : List ℕ)
    → (done ≡ []) ⊎ IsFrontOfJoined segment a done
    → (done ≡ []) ⊎ IsFrontOfJoined segment (suc a) done
one_segment segment a done (inl none) = inl none
one_segment segment a done (inr front) = inr (record {
  at = front.at;
  front = front.front;
  back = front.back;
  before = omega (arith, front.before);
  segment_is = front.segment_is;
  is = front.is;
})

segment_by : (segment : ℕ → List ℕ) (a : ℕ) (done left : List ℕ)
    → ((rest : List ℕ) → done ++ rest ≡ joined segment a
    → (done ≡ []) ⊎ IsFrontOfJoined segment a done)
    → IsCutIn done left (joined segment a) (segment a)
    → (done ≡ []) ⊎ IsFrontOfJoined segment (suc a) done
segment_by segment a done left earlier (InFirst rest is) =
    one_segment segment a done (earlier rest is)
segment_by segment a done left earlier (InSecond front is rest) = inr (record {
  at = a;
  front = front;
  back = left;
  before = omega arith;
  segment_is = rest;
  is = is;
})

pub joined_front : (segment : ℕ → List ℕ) (stages : ℕ) (done left : List ℕ)
    → done ++ left ≡ joined segment stages
    → (done ≡ []) ⊎ IsFrontOfJoined segment stages done
unfolding joined
joined_front segment zero done left e = inl (none_left done left e)
joined_front segment (suc a) done left e =
    segment_by segment a done left (λ rest is. joined_front segment a done rest is)
    (cut_in done left (joined segment a) (segment a) e)

-- What comes behind the first so many segments.
pub record HasRest (segment : ℕ → List ℕ) (a stages : ℕ) : Type 0 where
  pub rest : List ℕ
  pub is : joined segment stages ≡ joined segment a ++ rest

rest_by : (segment : ℕ → List ℕ) (a more : ℕ) → HasRest segment a (a + more)
unfolding joined
rest_by segment a zero = record {
  rest = [];
  is = ap (joined segment) (let e : a + 0 ≡ a = omega arith in e)
      ∙ sym (append-nil (joined segment a));
}
rest_by segment a (suc more) =
    let earlier = rest_by segment a more in
    record {
      rest = earlier.rest ++ segment (a + more);
      is = ap (joined segment) (let e : a + suc more ≡ suc (a + more) = omega arith in e)
          ∙ ap (λ (l : List ℕ). l ++ segment (a + more)) earlier.is
          ∙ append_assoc (joined segment a) earlier.rest (segment (a + more));
    }

pub has_rest : (segment : ℕ → List ℕ) (a stages : ℕ) → a ≤ stages → HasRest segment a stages
has_rest segment a stages less =
    subst (HasRest segment a) (let e : a + (stages - a) ≡ stages = omega arith in e)
    (rest_by segment a (stages - a))
