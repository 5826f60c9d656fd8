-- Round-robin splitters and joiners over whole lists, as formulas on places (StreamIt specification
-- 2.1, "Split-joins"). A duplicating splitter gives each port of weight 1 the first n items.
use Rattle.std.specs.Prelude.{ℕ, zero, suc, ◌+◌, ◌-◌, ◌*◌, ◌/◌, ◌%◌, ◌<◌, ◌≡◌, min, cond, eqb, ltb}
use Rattle.std.specs.Prelude.{ℤ, pos, List, [], ◌∷◌, ◌++◌, length, get_or, take, drop, sum}
use Rattle.strc_elab_dataflow.specs.Node.{ByPort, Fired.Fires, Meaning}

-- The weights before a port, added up: where the port's span of a cycle begins.
unfoldable pub span_start : List ℕ → ℕ → ℕ
span_start weights port = sum (take port weights)

-- The items at so many places, from place 0 on.
unfoldable pub places : {A : Type 0} → ℕ → (ℕ → A) → List A
places zero item = []
places (suc n) item = places n item ++ (item n ∷ [])

-- Port i's list of n cycles, or of as many whole cycles as there are: of each cycle the items in
-- the port's span.
unfoldable pub dealt : List ℕ → ℕ → List ℤ → ByPort
dealt weights n items port =
    let weight = get_or weights port 0 in
    places
    (min n (length items / sum weights) * weight)
    (λ place. get_or items ((place / weight) * sum weights + span_start weights port
    + place % weight) (pos 0))

-- A duplicating splitter's list at a port: the first n items, or none where the port's weight is 0.
unfoldable pub duplicated : List ℕ → ℕ → List ℤ → ByPort
duplicated weights n items port = cond (eqb (get_or weights port 0) 0) [] (take n items)

-- One cycle of a joiner: each port's items in turn; ports are counted from `first` on.
unfoldable pub one_cycle : List ℕ → ℕ → ByPort → List ℤ
one_cycle [] first seen = []
one_cycle (weight ∷ weights) first seen = seen first ++ one_cycle weights (suc first) seen

-- The port whose span holds this place of a cycle.
unfoldable pub port_at : List ℕ → ℕ → ℕ
port_at [] place = 0
port_at (weight ∷ weights) place = cond (ltb place weight) 0
    (suc (port_at weights (place - weight)))

-- As many whole cycles as n and the lists allow, ports of weight 0 aside; ports are counted from
-- `first` on.
unfoldable pub cycles : List ℕ → ℕ → ByPort → ℕ → ℕ
cycles [] n lists first = n
cycles (zero ∷ weights) n lists first = cycles weights n lists (suc first)
cycles (suc weight ∷ weights) n lists first =
    min (length (lists first) / suc weight) (cycles weights n lists (suc first))

-- The joined list: its item t is in cycle t / M, M the sum of the weights, and comes from the port
-- whose span holds t mod M.
unfoldable pub woven : List ℕ → ℕ → ByPort → List ℤ
woven weights n lists =
    places
    (cycles weights n lists 0 * sum weights)
    (λ place.
    let within = place % sum weights in
    let port = port_at weights within in
    get_or (lists port) ((place / sum weights) * get_or weights port 0
    + (within - span_start weights port)) (pos 0))

module _ {Code State Cause Word : Type 0} (meaning : Meaning Code State Cause Word) (code : Code)
    (weights : List ℕ) where
  -- A firing takes one cycle at port 0 and gives each port the items in its span.
  pub record IsRoundRobinSplitter : Type 0 where
    pub positive : 0 < sum weights
    pub ports : meaning.ports code ≡ 1
    pub window : (firing : ℕ) → meaning.window code firing 0 ≡ sum weights
    pub popped : (firing : ℕ) → meaning.popped code firing 0 ≡ sum weights
    pub deals :
        (firing : ℕ) (state : State) (seen : ByPort)
        → (next : State)
        × (pushes : ByPort)
        × (words : List Word)
        × (meaning.fire code firing state seen ≡ Fires next pushes words)
        × ((port : ℕ) → pushes port ≡ take (get_or weights port 0)
        (drop (span_start weights port) (seen 0)))

  -- A firing takes one item at port 0 and gives it to each port of weight above 0.
  pub record IsDuplicateSplitter : Type 0 where
    pub ports : meaning.ports code ≡ 1
    pub window : (firing : ℕ) → meaning.window code firing 0 ≡ 1
    pub popped : (firing : ℕ) → meaning.popped code firing 0 ≡ 1
    pub copies :
        (firing : ℕ) (state : State) (seen : ByPort)
        → (next : State)
        × (pushes : ByPort)
        × (words : List Word)
        × (meaning.fire code firing state seen ≡ Fires next pushes words)
        × ((port : ℕ) → pushes port ≡ cond (eqb (get_or weights port 0) 0) [] (seen 0))

  -- A firing takes each port's weight of items there and gives one cycle at port 0.
  pub record IsRoundRobinJoiner : Type 0 where
    pub ports : meaning.ports code ≡ length weights
    pub window : (firing port : ℕ) → meaning.window code firing port ≡ get_or weights port 0
    pub popped : (firing port : ℕ) → meaning.popped code firing port ≡ get_or weights port 0
    pub joins :
        (firing : ℕ) (state : State) (seen : ByPort)
        → (next : State)
        × (pushes : ByPort)
        × (words : List Word)
        × (meaning.fire code firing state seen ≡ Fires next pushes words)
        × (pushes 0 ≡ one_cycle weights 0 seen)
