-- The runs of round-robin splitters and joiners are the formulas on places.
use Rattle.std.proofs.Common.{◌≡◌, refl, sym, ap, ◌∙◌, subst, ℕ, zero, suc, ◌+◌, ◌-◌, ◌*◌, ◌/◌, ◌%◌}
use Rattle.std.proofs.Common.{◌<◌, ◌≤◌, min, Bool, true, false, cond, eqb, ltb, List, [], ◌∷◌, ◌++◌}
use Rattle.std.proofs.Common.{length, get_or, take, drop, sum, Option, Some, None, ℤ, pos, arith}
use Rattle.std.proofs.Common.{append_assoc, append-nil, length-append, length-take, length-drop}
use Rattle.std.proofs.Common.{get_or-drop, get_or-take, take-suc, take_all, add-zero, zero-add}
use Rattle.std.proofs.Common.{suc-add, add-suc, lt-ltb, ltb-true, ltb-false}
use mathlib.Core.Logic.{inl, inr}
use Rattle.std.proofs.Math.ListN.{get_or-eq_default, get_or-append}
use Rattle.std.proofs.lemmas.List.{get_or-append_right}
use Rattle.std.proofs.Math.Nat.{le-div_iff_mul-le, div-one, lt-div-mul-add}
use Rattle.std.proofs.lemmas.Nat.{div-mul-add, mod-mul-add}
use Rattle.std.proofs.lemmas.Bool.{cases_lt}
use Rattle.std.proofs.lemmas.List.Sums.{sum_by-cons, sum_by_more_le, sum_by-take-le}
use Rattle.strc_elab_dataflow.specs.Node.{ByPort, Fired.Fires, Meaning, total}
use Rattle.strc_elab_dataflow.specs.Histories.{Run, windows, finds, initial_run, after_firing}
use Rattle.strc_elab_dataflow.specs.Histories.{advance_if}
use Rattle.strc_elab_dataflow.specs.Histories.{advance, runs}
use Rattle.strc_elab_dataflow.specs.RoundRobin.{span_start, places, dealt, duplicated, one_cycle}
use Rattle.strc_elab_dataflow.specs.RoundRobin.{port_at, cycles, woven, IsRoundRobinSplitter}
use Rattle.strc_elab_dataflow.specs.RoundRobin.{IsDuplicateSplitter, IsRoundRobinJoiner}
use Rattle.strc_elab_dataflow.proofs.Runs.{finds_from, found_at, not_found, later_runs}

pub cycle_length : (weights : List ℕ) (port : ℕ) (seen : ByPort)
    → ((i : ℕ) → i < length weights → length (seen (port + i)) ≡ get_or weights i 0)
    → length (one_cycle weights port seen) ≡ sum weights
unfolding one_cycle
cycle_length [] port seen h = refl
cycle_length (weight ∷ weights) port seen h =
    let here : length (seen port) ≡ weight =
    ap (λ (n : ℕ). length (seen n)) (sym (add-zero port)) ∙ h 0 (omega arith) in
    let others : length (one_cycle weights (suc port) seen) ≡ sum weights
    = cycle_length weights (suc port) seen
    (λ i less. ap (λ (n : ℕ). length (seen n)) (suc-add port i ∙ sym (add-suc port i))
    ∙ h (suc i) (omega arith)) in
    length-append (seen port) (one_cycle weights (suc port) seen)
    ∙ (let both : length (seen port) + length (one_cycle weights (suc port) seen) ≡ weight
    + sum weights = omega (arith, here, others) in both)
    ∙ sym (sum_by-cons (λ x. x) weight weights)

pub span_within : (weights : List ℕ) (port : ℕ)
    → span_start weights port + get_or weights port 0 ≤ sum weights
unfolding span_start
span_within weights port =
    elim (cases_lt port (length weights)) [
      | inl less ↦ sum_by_more_le (λ x. x) weights port 0 less
      | inr more ↦ (let e : get_or weights port 0 ≡ 0 = get_or-eq_default weights 0 more in
          let f : sum (take port weights) ≤ sum weights = sum_by-take-le (λ x. x) weights port in
          omega (arith, e, f))
    ]

-- Places

places_same : {A : Type 0} (n : ℕ) (f g : ℕ → A) → ((i : ℕ) → i < n → f i ≡ g i)
    → places n f ≡ places n g
unfolding places
places_same zero f g h = refl
places_same {A} (suc n) f g h = ap (λ (l : List A). l ++ (f n ∷ []))
    (places_same n f g (λ i less. h i (omega arith)))
    ∙ ap (λ (x : A). places n g ++ (x ∷ [])) (h n (omega arith))

places_add : {A : Type 0} (n m : ℕ) (f : ℕ → A)
    → places (n + m) f ≡ places n f ++ places m (λ i. f (n + i))
unfolding places
places_add {A} n zero f = ap (λ (k : ℕ). places k f) (add-zero n) ∙ sym (append-nil (places n f))
places_add {A} n (suc m) f =
    ap (λ (k : ℕ). places k f) (add-suc n m)
    ∙ ap (λ (l : List A). l ++ (f (n + m) ∷ [])) (places_add n m f)
    ∙ append_assoc (places n f) (places m (λ i. f (n + i))) (f (n + m) ∷ [])

slice_places : (n start : ℕ) (xs : List ℤ) → start + n ≤ length xs
    → take n (drop start xs) ≡ places n (λ i. get_or xs (start + i) (pos 0))
unfolding places
slice_places zero start xs h = refl
slice_places (suc n) start xs h =
    take-suc (drop start xs) n (pos 0) (omega (arith, length-drop start xs))
    ∙ ap (λ (l : List ℤ). l ++ (get_or (drop start xs) n (pos 0) ∷ []))
    (slice_places n start xs (omega arith))
    ∙ ap (λ (x : ℤ). places n (λ i. get_or xs (start + i) (pos 0)) ++ (x ∷ []))
    (get_or-drop start xs n (pos 0))

list_places : (xs : List ℤ) (n : ℕ) → length xs ≡ n → xs ≡ places n (λ i. get_or xs i (pos 0))
list_places xs n e =
    sym (take_all n xs (omega arith))
    ∙ slice_places n 0 xs (omega arith)
    ∙ places_same n (λ i. get_or xs (0 + i) (pos 0)) (λ i. get_or xs i (pos 0))
    (λ i less. ap (λ (k : ℕ). get_or xs k (pos 0)) (zero-add i))

-- Blocks of one size are places.
blocks : ℕ → (ℕ → List ℤ) → List ℤ
blocks zero block = []
blocks (suc n) block = blocks n block ++ block n

blocks_places : (n size : ℕ) (block : ℕ → List ℤ) (item : ℕ → ℤ)
    → ((i : ℕ) → i < n → block i ≡ places size (λ j. item (i * size + j)))
    → blocks n block ≡ places (n * size) item
unfolding blocks places
blocks_places zero size block item h = ap (λ (k : ℕ). places k item)
    (let e : 0 ≡ 0 * size = omega arith in e)
blocks_places (suc n) size block item h =
    ap (λ (l : List ℤ). l ++ block n) (blocks_places n size block item
    (λ i less. h i (omega arith)))
    ∙ ap (λ (l : List ℤ). places (n * size) item ++ l) (h n (omega arith))
    ∙ sym (places_add (n * size) size item)
    ∙ ap (λ (k : ℕ). places k item) (let e : n * size + size ≡ suc n * size = omega arith in e)

-- Nodes that never fault

module _ {Code State Cause Word : Type 0} (meaning : Meaning Code State Cause Word) (code : Code)
    (inputs : ByPort) (port : ℕ) (block : ℕ → List ℤ)
    (fires : (firing : ℕ) (state : State)
    → (next : State) × (pushes : ByPort) × (words : List Word)
    × (meaning.fire code firing state (windows meaning code firing inputs)
    ≡ Fires next pushes words) × (pushes port ≡ block firing)) where
  record IsBlocks (n : ℕ) (run : Run State Cause Word) : Type 0 where
    fired : run.fired ≡ n
    faultless : run.fault ≡ None
    pushes : run.pushes port ≡ blocks n block

  next_if : (n : ℕ) (run : Run State Cause Word) → IsBlocks n run → (fault : Option Cause)
      → run.fault ≡ fault → (found : Bool) → found ≡ true
      → IsBlocks (suc n) (advance_if meaning code inputs run fault found)
  unfolding advance_if after_firing blocks
  next_if n run before (Some cause) e found f =
      absurd (let g : None ≡ Some cause = sym before.faultless ∙ e in grind arith)
  next_if n run before None e false f = absurd (grind arith)
  next_if n run before None e true f =
      let outcome = fires run.fired run.state in
      rw outcome.3
      (record {
        fired = ap suc before.fired;
        faultless = refl;
        pushes = ap (λ (l : List ℤ). l ++ outcome.1 port) before.pushes
            ∙ ap (λ (l : List ℤ). blocks n block ++ l) (outcome.4 ∙ ap block before.fired);
      })

  blocks_so_far : (c : ℕ) → ((i : ℕ) → i < c → finds meaning code i inputs ≡ true)
      → IsBlocks c (runs meaning code c inputs)
  unfolding runs initial_run advance blocks
  blocks_so_far zero found = record { fired = refl; faultless = refl; pushes = refl }
  blocks_so_far (suc c) found =
      let before = blocks_so_far c (λ i less. found i (omega arith)) in
      next_if c (runs meaning code c inputs) before (runs meaning code c inputs).fault refl
      (finds meaning code (runs meaning code c inputs).fired inputs)
      (rw before.fired (found c (omega arith)))

  waits : (c n : ℕ) → c ≤ n → IsBlocks c (runs meaning code c inputs)
      → finds meaning code c inputs ≡ false
      → runs meaning code n inputs ≡ runs meaning code c inputs
  waits c n h before stuck =
      later_runs meaning code (λ r s. (r ≡ runs meaning code c inputs) → s ≡ r)
      (λ run e. refl) inputs
      (λ r s keeps e. ap (advance meaning code inputs) (keeps e)
      ∙ not_found meaning code inputs r (rw e (rw before.fired stuck)))
      c n h refl

  -- The runs are blocks, as many as find their windows.
  blocks_of_runs : (c n : ℕ) → c ≤ n → ((i : ℕ) → i < c → finds meaning code i inputs ≡ true)
      → (c < n → finds meaning code c inputs ≡ false)
      → (runs meaning code n inputs).pushes port ≡ blocks c block
  blocks_of_runs c n h found stuck =
      let before = blocks_so_far c found in
      elim (cases_lt c n) [
        | inl less ↦ ap (λ (r : Run State Cause Word). r.pushes port)
            (waits c n h before (stuck less)) ∙ before.pushes
        | inr more ↦ (let e : n ≡ c = omega arith in
            ap (λ (k : ℕ). (runs meaning code k inputs).pushes port) e ∙ before.pushes)
      ]

total_same : (rate : ℕ → ℕ → ℕ) (port same : ℕ) → ((firing : ℕ) → rate firing port ≡ same) → (n : ℕ)
    → total rate n port ≡ n * same
unfolding total
total_same rate port same h zero = omega arith
total_same rate port same h (suc n) = omega (arith, total_same rate port same h n, h n)

dealt_block : (w start size i : ℕ) (xs : List ℤ) → start + w ≤ size → i * size + size ≤ length xs
    → take w (drop start (take size (drop (i * size) xs)))
    ≡ places w (λ j. get_or xs (((i * w + j) / w) * size + start + (i * w + j) % w) (pos 0))
dealt_block w start size i xs within fits =
    slice_places w start (take size (drop (i * size) xs))
    (omega (arith, length-take size (drop (i * size) xs), length-drop (i * size) xs))
    ∙ places_same w (λ j. get_or (take size (drop (i * size) xs)) (start + j) (pos 0))
    (λ j. get_or xs (((i * w + j) / w) * size + start + (i * w + j) % w) (pos 0))
    (λ j less.
    get_or-take size (drop (i * size) xs) (start + j) (pos 0) (omega arith)
    ∙ get_or-drop (i * size) xs (start + j) (pos 0)
    ∙ ap (λ (k : ℕ). get_or xs k (pos 0))
    (let e : i * size + (start + j) ≡ i * size + start + j = omega arith in e)
    ∙ ap (λ (q : ℕ). get_or xs (q * size + start + j) (pos 0)) (sym (div-mul-add i w j less))
    ∙ ap (λ (r : ℕ). get_or xs (((i * w + j) / w) * size + start + r) (pos 0))
    (sym (mod-mul-add i w j less)))

copied_blocks : (xs : List ℤ) (test : Bool) (c : ℕ) → c ≤ length xs
    → blocks c (λ i. cond test [] (take 1 (drop (i * 1) xs))) ≡ cond test [] (take c xs)
unfolding blocks places
copied_blocks xs true zero h = refl
copied_blocks xs true (suc c) h = ap (λ (l : List ℤ). l ++ [])
    (copied_blocks xs true c (omega arith))
copied_blocks xs false zero h = refl
copied_blocks xs false (suc c) h =
    ap (λ (l : List ℤ). l ++ take 1 (drop (c * 1) xs)) (copied_blocks xs false c (omega arith))
    ∙ ap (λ (k : ℕ). take c xs ++ take 1 (drop k xs)) (let e : c * 1 ≡ c = omega arith in e)
    ∙ ap (λ (l : List ℤ). take c xs ++ l)
    (slice_places 1 c xs (omega arith) ∙ ap (λ (k : ℕ). get_or xs k (pos 0) ∷ []) (add-zero c))
    ∙ sym (take-suc xs c (pos 0) (omega arith))

take_lesser : (xs : List ℤ) (n c : ℕ) → c ≡ min n (length xs) → take c xs ≡ take n xs
take_lesser xs n c e =
    elim (cases_lt (length xs) n) [
      | inl less ↦ take_all c xs (omega arith) ∙ sym (take_all n xs (omega arith))
      | inr more ↦ ap (λ (k : ℕ). take k xs) (let f : c ≡ n = omega arith in f)
    ]

min_cases : (n m : ℕ) → (min n m ≤ n) × (min n m ≤ m) × (min n m < n → min n m ≡ m)
min_cases n m = (omega arith, omega arith, λ h. omega arith)

module _ {Code State Cause Word : Type 0} (meaning : Meaning Code State Cause Word) (code : Code)
    (inputs : ByPort) where
  -- A node with one input port, where each firing takes as many items as it looks at, and none is
  -- 0.
  module _ (size : ℕ) (positive : 0 < size) (ports : meaning.ports code ≡ 1)
      (window : (firing : ℕ) → meaning.window code firing 0 ≡ size)
      (popped : (firing : ℕ) → meaning.popped code firing 0 ≡ size) where
    one_found : (i : ℕ) → i < length (inputs 0) / size → finds meaning code i inputs ≡ true
    one_found i less = finds_from meaning code i inputs at
      where
        fits : i * size + size ≤ length (inputs 0)
        fits = let e : suc i * size ≤ length (inputs 0) = (le-div_iff_mul-le positive).0 less in
            omega arith

        at : (p : ℕ) → p < meaning.ports code
            → total (meaning.popped code) i p + meaning.window code i p ≤ length (inputs p)
        at zero lt = omega (arith, fits, total_same (meaning.popped code) 0 size popped i, window i)
        at (suc p) lt = absurd (omega (arith, lt, ports))

    one_stuck : finds meaning code (length (inputs 0) / size) inputs ≡ false
    one_stuck = by_test (finds meaning code (length (inputs 0) / size) inputs) refl
      where
        past : total (meaning.popped code) (length (inputs 0) / size) 0
            + meaning.window code (length (inputs 0) / size) 0 ≤ length (inputs 0) → ⊥
        past h =
            let fits : suc (length (inputs 0) / size) * size ≤ length (inputs 0) =
            omega (
              arith,
              h,
              total_same (meaning.popped code) 0 size popped
                  (length (inputs 0) / size),
              window (length (inputs 0) / size),
            ) in
            let e : suc (length (inputs 0) / size) ≤ length (inputs 0) / size =
            (le-div_iff_mul-le positive).1 fits in
            omega arith

        by_test : (test : Bool) → finds meaning code (length (inputs 0) / size) inputs ≡ test
            → test ≡ false
        by_test true e = absurd (past (found_at meaning code (length (inputs 0) / size) inputs e 0
            (omega (arith, ports))))
        by_test false e = refl

    seen_at_0 : (i : ℕ) → windows meaning code i inputs 0 ≡ take size (drop (i * size) (inputs 0))
    unfolding windows
    seen_at_0 i =
        ap (λ (t : Bool). cond t (take (meaning.window code i 0)
        (drop (total (meaning.popped code) i 0) (inputs 0))) [])
        (lt-ltb 0 (meaning.ports code) (omega (arith, ports)))
        ∙ ap (λ (w : ℕ). take w (drop (total (meaning.popped code) i 0) (inputs 0))) (window i)
        ∙ ap (λ (t : ℕ). take size (drop t (inputs 0)))
        (total_same (meaning.popped code) 0 size popped i)

  -- A splitter's runs deal.
  pub splitter-runs : (weights : List ℕ) → IsRoundRobinSplitter meaning code weights → (n port : ℕ)
      → (runs meaning code n inputs).pushes port ≡ dealt weights n (inputs 0) port
  unfolding dealt
  splitter-runs weights splitter n port =
      let c : ℕ = min n (length (inputs 0) / sum weights) in
      blocks_of_runs meaning code inputs port block
      (λ firing state. let out = splitter.deals firing state (windows meaning code firing inputs)
      in (
        out.0,
        out.1,
        out.2,
        out.3,
        out.4 port
            ∙ ap (λ (l : List ℤ). take (get_or weights port 0) (drop (span_start weights port) l))
            (seen_at_0 (sum weights) splitter.positive splitter.ports splitter.window
            splitter.popped
            firing),
      ))
      c n (min_cases n (length (inputs 0) / sum weights)).0
      (λ i less. one_found (sum weights) splitter.positive splitter.ports splitter.window
      splitter.popped i (omega (arith, less, (min_cases n (length (inputs 0) / sum weights)).1)))
      (λ less. rw ((min_cases n (length (inputs 0) / sum weights)).2 less)
      (one_stuck (sum weights) splitter.positive splitter.ports splitter.window splitter.popped))
      ∙ blocks_places c (get_or weights port 0) block item
      (λ i less. block_is i (omega (
        arith,
        less,
        (min_cases n (length (inputs 0) / sum weights)).1,
      )))
    where
      block : ℕ → List ℤ
      block firing = take (get_or weights port 0)
          (drop (span_start weights port)
          (take (sum weights) (drop (firing * sum weights) (inputs 0))))

      item : ℕ → ℤ
      item place = get_or (inputs 0) ((place / get_or weights port 0) * sum weights
          + span_start weights port + place % get_or weights port 0) (pos 0)

      block_is : (i : ℕ) → i < length (inputs 0) / sum weights
          → block i ≡ places (get_or weights port 0) (λ j. item (i * get_or weights port 0 + j))
      block_is i less =
          dealt_block (get_or weights port 0) (span_start weights port) (sum weights) i (inputs 0)
          (span_within weights port)
          (let e : suc i * sum weights ≤ length (inputs 0) =
          (le-div_iff_mul-le splitter.positive).0 less in omega arith)

  -- A duplicating splitter's runs give each port of weight above 0 the first items.
  pub duplicate-runs : (weights : List ℕ) → IsDuplicateSplitter meaning code weights → (n port : ℕ)
      → (runs meaning code n inputs).pushes port ≡ duplicated weights n (inputs 0) port
  unfolding duplicated
  duplicate-runs weights splitter n port =
      let c : ℕ = min n (length (inputs 0) / 1) in
      let one : 0 < 1 = omega arith in
      let whole : length (inputs 0) / 1 ≡ length (inputs 0) = div-one (length (inputs 0)) in
      blocks_of_runs meaning code inputs port
      (λ i. cond (eqb (get_or weights port 0) 0) [] (take 1 (drop (i * 1) (inputs 0))))
      (λ firing state. let out = splitter.copies firing state
      (windows meaning code firing inputs) in (
        out.0,
        out.1,
        out.2,
        out.3,
        out.4 port
            ∙ ap (λ (l : List ℤ). cond (eqb (get_or weights port 0) 0) [] l)
            (seen_at_0 1 one splitter.ports splitter.window splitter.popped firing),
      ))
      c n (min_cases n (length (inputs 0) / 1)).0
      (λ i less. one_found 1 one splitter.ports splitter.window splitter.popped i
      (omega (arith, less, (min_cases n (length (inputs 0) / 1)).1)))
      (λ less. rw ((min_cases n (length (inputs 0) / 1)).2 less)
      (one_stuck 1 one splitter.ports splitter.window splitter.popped))
      ∙ copied_blocks (inputs 0) (eqb (get_or weights port 0) 0) c
      (omega (arith, whole, (min_cases n (length (inputs 0) / 1)).1))
      ∙ ap (λ (l : List ℤ). cond (eqb (get_or weights port 0) 0) [] l)
      (take_lesser (inputs 0) n c (omega (arith, whole)))

-- Joiners

-- A place of a cycle is in the span of a port.
abbrev pub InSpan : List ℕ → ℕ → ℕ → Type 0
InSpan weights place port = (port < length weights) × (sum (take port weights) ≤ place)
    × (place < sum (take port weights) + get_or weights port 0)

span_by :
    (weight : ℕ) (weights : List ℕ) (place : ℕ) → place < sum (weight ∷ weights)
    → (place - weight < sum weights → InSpan weights (place - weight)
    (port_at weights (place - weight)))
    → (test : Bool) → ltb place weight ≡ test
    → InSpan (weight ∷ weights) place (cond test 0 (suc (port_at weights (place - weight))))
span_by weight weights place less ih true e =
    (omega arith, omega arith, omega (arith, ltb-true place weight e))
span_by weight weights place less ih false e =
    let above : weight ≤ place = ltb-false place weight e in
    let whole : sum (weight ∷ weights) ≡ weight + sum weights =
    sum_by-cons (λ x. x) weight weights in
    let rest = ih (omega (arith, above, whole, less)) in
    let before : sum (weight ∷ take (port_at weights (place - weight)) weights) ≡ weight
    + sum (take (port_at weights (place - weight)) weights)
    = sum_by-cons (λ x. x) weight (take (port_at weights (place - weight)) weights) in (
      omega (arith, rest.0),
      omega (arith, before, rest.1, above),
      omega (arith, before, rest.2, above),
    )

port_span : (weights : List ℕ) (place : ℕ) → place < sum weights
    → InSpan weights place (port_at weights place)
unfolding port_at
port_span [] place less = absurd (omega arith)
port_span (weight ∷ weights) place less =
    span_by weight weights place less (port_span weights (place - weight)) (ltb place weight) refl

-- An item of a joined cycle is in its port's items.
item_by :
    (weight : ℕ) (weights : List ℕ) (first : ℕ) (seen : ByPort) (place : ℕ)
    → length (seen first) ≡ weight
    → (weight ≤ place → get_or (one_cycle weights (suc first) seen) (place - weight) (pos 0)
    ≡ get_or (seen (suc first + port_at weights (place - weight)))
    ((place - weight) - sum (take (port_at weights (place - weight)) weights)) (pos 0))
    → (test : Bool) → ltb place weight ≡ test
    → get_or (seen first ++ one_cycle weights (suc first) seen) place (pos 0)
    ≡ get_or (seen (first + cond test 0 (suc (port_at weights (place - weight)))))
    (place - sum (take (cond test 0 (suc (port_at weights (place - weight)))) (weight ∷ weights)))
    (pos 0)
item_by weight weights first seen place here ih true e =
    get_or-append (seen first) (one_cycle weights (suc first) seen) (pos 0) place
    (omega (arith, here, ltb-true place weight e))
    ∙ ap (λ (p : ℕ). get_or (seen p) place (pos 0)) (sym (add-zero first))
    ∙ ap (λ (k : ℕ). get_or (seen (first + 0)) k (pos 0))
    (let f : place ≡ place - 0 = omega arith in f)
item_by weight weights first seen place here ih false e =
    let above : weight ≤ place = ltb-false place weight e in
    let before : sum (weight ∷ take (port_at weights (place - weight)) weights) ≡ weight
    + sum (take (port_at weights (place - weight)) weights)
    = sum_by-cons (λ x. x) weight (take (port_at weights (place - weight)) weights) in
    get_or-append_right (seen first) (one_cycle weights (suc first) seen) weight place
    (pos 0) here above
    ∙ ih above
    ∙ ap (λ (p : ℕ). get_or (seen p) ((place - weight)
    - sum (take (port_at weights (place - weight)) weights)) (pos 0))
    (suc-add first (port_at weights (place - weight))
    ∙ sym (add-suc first (port_at weights (place - weight))))
    ∙ ap (λ (k : ℕ). get_or (seen (first + suc (port_at weights (place - weight)))) k (pos 0))
    (let f : (place - weight) - sum (take (port_at weights (place - weight)) weights) ≡ place
    - sum (weight ∷ take (port_at weights (place - weight)) weights) =
    omega (arith, before) in f)

cycle_item : (weights : List ℕ) (first : ℕ) (seen : ByPort)
    → ((i : ℕ) → i < length weights → length (seen (first + i)) ≡ get_or weights i 0) → (place : ℕ)
    → place < sum weights → get_or (one_cycle weights first seen) place (pos 0)
    ≡ get_or (seen (first + port_at weights place))
    (place - sum (take (port_at weights place) weights)) (pos 0)
unfolding one_cycle port_at
cycle_item [] first seen h place less = absurd (omega arith)
cycle_item (weight ∷ weights) first seen h place less =
    item_by weight weights first seen place
    (ap (λ (n : ℕ). length (seen n)) (sym (add-zero first)) ∙ h 0 (omega arith))
    (λ above. cycle_item weights (suc first) seen
    (λ i lt. ap (λ (n : ℕ). length (seen n)) (suc-add first i ∙ sym (add-suc first i))
    ∙ h (suc i) (omega arith)) (place - weight)
    (let whole : sum (weight ∷ weights) ≡ weight + sum weights =
    sum_by-cons (λ x. x) weight weights in omega (arith, whole, less, above)))
    (ltb place weight) refl

-- How many cycles

cycles_within : (weights : List ℕ) (n : ℕ) (lists : ByPort) (first : ℕ)
    → cycles weights n lists first ≤ n
unfolding cycles
cycles_within [] n lists first = omega arith
cycles_within (zero ∷ weights) n lists first = cycles_within weights n lists (suc first)
cycles_within (suc weight ∷ weights) n lists first =
    omega (arith, cycles_within weights n lists (suc first))

-- Each cycle finds its items at each port.
cycles_fit : (weights : List ℕ) (n : ℕ) (lists : ByPort) (first i : ℕ)
    → i < cycles weights n lists first → (port : ℕ) → port < length weights
    → i * get_or weights port 0 + get_or weights port 0 ≤ length (lists (first + port))
unfolding cycles
cycles_fit [] n lists first i less port within = absurd (omega arith)
cycles_fit (zero ∷ weights) n lists first i less zero within = omega arith
cycles_fit (zero ∷ weights) n lists first i less (suc port) within =
    omega (
      arith,
      cycles_fit weights n lists (suc first) i less port (omega arith),
      ap (λ (p : ℕ). length (lists p)) (suc-add first port ∙ sym (add-suc first port)),
    )
cycles_fit (suc weight ∷ weights) n lists first i less zero within =
    let more : suc i ≤ length (lists first) / suc weight = omega arith in
    let fits : suc i * suc weight ≤ length (lists first) =
    (let positive : 0 < suc weight = omega arith in
    (le-div_iff_mul-le {k = suc weight} {x = suc i} {y = length (lists first)} positive).0)
    more in
    omega (arith, fits, ap (λ (p : ℕ). length (lists p)) (add-zero first))
cycles_fit (suc weight ∷ weights) n lists first i less (suc port) within =
    omega (
      arith,
      cycles_fit weights n lists (suc first) i (omega arith) port (omega arith),
      ap (λ (p : ℕ). length (lists p)) (suc-add first port ∙ sym (add-suc first port)),
    )

-- Where there are fewer cycles than firings, a port ends them.
record EndsAt (weights : List ℕ) (lists : ByPort) (first c : ℕ) : Type 0 where
  port : ℕ
  within : port < length weights
  short : length (lists (first + port)) < c * get_or weights port 0 + get_or weights port 0

later_end : (weight : ℕ) (weights : List ℕ) (lists : ByPort) (first c : ℕ)
    → EndsAt weights lists (suc first) c → EndsAt (weight ∷ weights) lists first c
later_end weight weights lists first c end = record {
  port = suc end.port;
  within = omega (arith, end.within);
  short = omega (
    arith,
    end.short,
    ap (λ (p : ℕ). length (lists p))
        (suc-add first end.port ∙ sym (add-suc first end.port)),
  );
}

cycles_end : (weights : List ℕ) (n : ℕ) (lists : ByPort) (first : ℕ)
    → cycles weights n lists first < n → EndsAt weights lists first (cycles weights n lists first)
unfolding cycles
cycles_end [] n lists first less = absurd (omega arith)
cycles_end (zero ∷ weights) n lists first less =
    later_end 0 weights lists first (cycles weights n lists (suc first))
    (cycles_end weights n lists (suc first) less)
cycles_end (suc weight ∷ weights) n lists first less =
    elim (cases_lt (cycles weights n lists (suc first)) (length (lists first) / suc weight)) [
      | inl fewer ↦ (let e : cycles weights n lists (suc first)
          ≡ min (length (lists first) / suc weight)
          (cycles weights n lists (suc first)) = omega arith in
          subst (λ (c : ℕ). EndsAt (suc weight ∷ weights) lists first c) e
          (later_end (suc weight) weights lists first (cycles weights n lists (suc first))
          (cycles_end weights n lists (suc first) (omega arith))))
      | inr here ↦ (let e : length (lists first) / suc weight
          ≡ min (length (lists first) / suc weight)
          (cycles weights n lists (suc first)) = omega arith in
          subst (λ (c : ℕ). EndsAt (suc weight ∷ weights) lists first c) e
          (record {
            port = 0;
            within = omega arith;
            short =
                rw (add-zero first) (lt-div-mul-add {a = length (lists first)} {b = suc weight}
                (omega arith));
          }))
    ]

module _ {Code State Cause Word : Type 0} (meaning : Meaning Code State Cause Word) (code : Code)
    (inputs : ByPort) (weights : List ℕ) (joiner : IsRoundRobinJoiner meaning code weights) where
  taken_before : (i port : ℕ) → total (meaning.popped code) i port ≡ i * get_or weights port 0
  taken_before i port = total_same (meaning.popped code) port (get_or weights port 0)
      (λ firing. joiner.popped firing port) i

  cycle_found : (n i : ℕ) → i < cycles weights n inputs 0 → finds meaning code i inputs ≡ true
  cycle_found n i less =
      finds_from meaning code i inputs
      (λ p lt. omega (
        arith,
        cycles_fit weights n inputs 0 i less p
            (omega (arith, lt, joiner.ports)),
        ap (λ (q : ℕ). length (inputs q)) (zero-add p),
        taken_before i p,
        joiner.window i p,
      ))

  cycle_stuck : (n : ℕ) → cycles weights n inputs 0 < n
      → finds meaning code (cycles weights n inputs 0) inputs ≡ false
  cycle_stuck n less = by_test (finds meaning code (cycles weights n inputs 0) inputs) refl
    where
      end : EndsAt weights inputs 0 (cycles weights n inputs 0)
      end = cycles_end weights n inputs 0 less

      by_test : (test : Bool) → finds meaning code (cycles weights n inputs 0) inputs ≡ test
          → test ≡ false
      by_test true e =
          absurd (omega (
            arith,
            found_at meaning code (cycles weights n inputs 0) inputs e end.port
                (omega (arith, end.within, joiner.ports)),
            end.short,
            ap (λ (q : ℕ). length (inputs q)) (zero-add end.port),
            taken_before (cycles weights n inputs 0) end.port,
            joiner.window (cycles weights n inputs 0) end.port,
          ))
      by_test false e = refl

  seen_at : (i port : ℕ) → port < length weights
      → windows meaning code i inputs port
      ≡ take (get_or weights port 0) (drop (i * get_or weights port 0) (inputs port))
  unfolding windows
  seen_at i port less =
      ap (λ (t : Bool). cond t (take (meaning.window code i port)
      (drop (total (meaning.popped code) i port) (inputs port))) [])
      (lt-ltb port (meaning.ports code) (omega (arith, less, joiner.ports)))
      ∙ ap (λ (w : ℕ). take w (drop (total (meaning.popped code) i port) (inputs port)))
      (joiner.window i port)
      ∙ ap (λ (t : ℕ). take (get_or weights port 0) (drop t (inputs port))) (taken_before i port)

  seen_length : (n i : ℕ) → i < cycles weights n inputs 0 → (port : ℕ) → port < length weights
      → length (windows meaning code i inputs (0 + port)) ≡ get_or weights port 0
  seen_length n i less port within =
      ap (λ (p : ℕ). length (windows meaning code i inputs p)) (zero-add port)
      ∙ ap length (seen_at i port within)
      ∙ (let e : length (take (get_or weights port 0)
      (drop (i * get_or weights port 0) (inputs port))) ≡ get_or weights port 0
      = omega (
        arith,
        length-take (get_or weights port 0)
            (drop (i * get_or weights port 0) (inputs port)),
        length-drop (i * get_or weights port 0) (inputs port),
        cycles_fit weights n inputs 0 i less port within,
        ap (λ (q : ℕ). length (inputs q)) (zero-add port),
      ) in e)

  -- A joiner's runs weave.
  pub joiner-runs : (n : ℕ) → (runs meaning code n inputs).pushes 0 ≡ woven weights n inputs
  unfolding woven span_start
  joiner-runs n =
      blocks_of_runs meaning code inputs 0 block
      (λ firing state. joiner.joins firing state (windows meaning code firing inputs))
      (cycles weights n inputs 0) n (cycles_within weights n inputs 0) (cycle_found n)
      (cycle_stuck n)
      ∙ blocks_places (cycles weights n inputs 0) (sum weights) block item
      (λ i less.
      list_places (block i) (sum weights)
      (cycle_length weights 0 (windows meaning code i inputs) (seen_length n i less))
      ∙ places_same (sum weights) (λ j. get_or (block i) j (pos 0))
      (λ j. item (i * sum weights + j)) (λ j lt. item_is i less j lt))
    where
      block : ℕ → List ℤ
      block i = one_cycle weights 0 (windows meaning code i inputs)

      item : ℕ → ℤ
      item place =
          get_or (inputs (port_at weights (place % sum weights)))
          ((place / sum weights) * get_or weights (port_at weights (place % sum weights)) 0
          + (place % sum weights - sum (take (port_at weights (place % sum weights)) weights)))
          (pos 0)

      item_is : (i : ℕ) → i < cycles weights n inputs 0 → (j : ℕ) → j < sum weights
          → get_or (block i) j (pos 0) ≡ item (i * sum weights + j)
      item_is i less j lt =
          let span = port_span weights j lt in
          let p : ℕ = port_at weights j in
          cycle_item weights 0 (windows meaning code i inputs) (seen_length n i less) j lt
          ∙ ap (λ (q : ℕ). get_or (windows meaning code i inputs q) (j - sum (take p weights))
          (pos 0)) (zero-add p)
          ∙ ap (λ (l : List ℤ). get_or l (j - sum (take p weights)) (pos 0)) (seen_at i p span.0)
          ∙ get_or-take (get_or weights p 0) (drop (i * get_or weights p 0) (inputs p))
          (j - sum (take p weights)) (pos 0) (omega (arith, span.1, span.2))
          ∙ get_or-drop (i * get_or weights p 0) (inputs p) (j - sum (take p weights)) (pos 0)
          ∙ ap (λ (q : ℕ). get_or (inputs p) (q * get_or weights p 0 + (j - sum (take p weights)))
          (pos 0)) (sym (div-mul-add i (sum weights) j lt))
          ∙ ap (λ (r : ℕ). get_or (inputs (port_at weights r))
          (((i * sum weights + j) / sum weights) * get_or weights (port_at weights r) 0
          + (r - sum (take (port_at weights r) weights))) (pos 0))
          (sym (mod-mul-add i (sum weights) j lt))
