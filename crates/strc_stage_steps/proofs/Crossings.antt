-- Which blocks and rings the crossing channels of a stage have, and which tapes its nodes.
use Rattle.std.proofs.Common.{◌≡◌, refl, sym, ap, ◌∙◌, subst, ℕ, zero, suc, ◌+◌, ◌<◌, ◌≤◌, Bool}
use Rattle.std.proofs.Common.{true, false, List, [], ◌∷◌, length, Some, slice_get}
use Rattle.std.proofs.Common.{slice_index, arith, true≢false, eqb-true, ◌-◌}
use Rattle.std.specs.Prelude.{if◌then◌else◌, eqb}
use Rattle.std.proofs.lemmas.Bool.{cases_lt, cases_eq, eq-eqb}
use Rattle.std.proofs.lemmas.Option.{none-some, same_Some}
use mathlib.Core.Logic.{inl, inr}
use Rattle.strc_elab_graph.specs.Graphs.{NodeCode, Channel, gives_words}
use Rattle.strc_elab_graph.specs.Tapes.{tape_nodes_from}
use Rattle.strc_stage_steps.specs.Steps.{Crossing, TapeOf}
use Rattle.strc_stage_steps.specs.Beginnings.{stage_at, crosses, crossings_from, tapes_from}
use Rattle.strc_stage_steps.specs.Beginnings.{rooms_of}
use Rattle.strc_stage_steps.specs.Runnings.{Running, round_pushes}
use Rattle.strc_stage_steps.specs.CrossingBlocks.{raised, passed_before, block_of}
use Rattle.strc_stage_steps.proofs.Folds.{In, Rising}

raised_grows : (test : Bool) (n m : ℕ) → n ≤ m → raised test n ≤ raised test m
raised_grows true n m less = omega (arith, less)
raised_grows false n m less = less

raised_suc : (test : Bool) (n : ℕ) → raised test (suc n) ≡ suc (raised test n)
raised_suc true n = refl
raised_suc false n = refl

raised_moves : (test : Bool) (n b m : ℕ) → n ≡ raised test b + m → n ≡ b + raised test m
raised_moves true n b m e = omega (arith, e)
raised_moves false n b m e = e

-- How many of the first elements pass a test grows.
before_grows : {A : Type 0} (test : A → Bool) (xs : List A) (k more : ℕ)
    → passed_before test xs k ≤ passed_before test xs (k + more)
before_grows test [] k more = omega arith
before_grows test (x ∷ xs) zero more = omega arith
before_grows test (x ∷ xs) (suc k) more =
    let e : suc k + more ≡ suc (k + more) = omega arith in
    subst (λ (n : ℕ). passed_before test (x ∷ xs) (suc k) ≤ passed_before test (x ∷ xs) n) (sym e)
    (raised_grows (test x) (passed_before test xs k) (passed_before test xs (k + more))
    (before_grows test xs k more))

one_more : {A : Type 0} (test : A → Bool) (xs : List A) (k : ℕ) (x : A)
    → slice_get xs k ≡ Some x → test x ≡ true
    → passed_before test xs (suc k) ≡ suc (passed_before test xs k)
one_more test [] k x there passes = absurd (none-some x there)
one_more test (y ∷ []) zero x there passes =
    let same : y ≡ x = same_Some y x there in
    let e : test y ≡ true = ap test same ∙ passes in
    ap (λ (b : Bool). raised b 0) e
one_more test (y ∷ z ∷ xs) zero x there passes =
    let same : y ≡ x = same_Some y x there in
    let e : test y ≡ true = ap test same ∙ passes in
    ap (λ (b : Bool). raised b 0) e
one_more test (y ∷ xs) (suc k) x there passes =
    ap (raised (test y)) (one_more test xs k x there passes)
    ∙ raised_suc (test y) (passed_before test xs k)

-- So those that pass have a number each.
pub before_rises : {A : Type 0} (test : A → Bool) (xs : List A) (k later : ℕ) (x : A)
    → slice_get xs k ≡ Some x → test x ≡ true → k < later
    → passed_before test xs k < passed_before test xs later
before_rises test xs k later x there passes less =
    let e : suc k + (later - suc k) ≡ later = omega (arith, less) in
    omega (
      arith,
      one_more test xs k x there passes,
      before_grows test xs (suc k) (later - suc k),
      ap (passed_before test xs) e,
    )

pub before_apart : {A : Type 0} (test : A → Bool) (xs : List A) (k other : ℕ) (x y : A)
    → slice_get xs k ≡ Some x → test x ≡ true → slice_get xs other ≡ Some y → test y ≡ true
    → passed_before test xs k ≡ passed_before test xs other → k ≡ other
before_apart test xs k other x y here passes there its same = elim (cases_eq k other) [
  | inl e ↦ e
  | inr differs ↦ elim (cases_lt k other) [
    | inl less ↦ absurd (omega (arith, same, before_rises test xs k other x here passes less))
    | inr past ↦ absurd (omega (
      arith,
      same,
      before_rises test xs other k y there its (omega (arith, past, differs)),
    ))
  ]
]

-- ---- crossing channels

module _ (bound : (stage : ℕ) → ℕ) (last : ℕ) where
  abbrev pub block_before : List Channel → ℕ → ℕ
  block_before = block_of bound last

  module _ (picked : Channel → Bool) where
    -- A crossing channel that is picked, its block and its ring.
    pub record IsCrossing (block number : ℕ) (channels : List Channel) (element : Crossing)
        : Type 0 where
      pub k : ℕ
      pub channel : Channel
      pub listed : slice_get channels k ≡ Some channel
      pub crossing : crosses bound last channel ≡ true
      pub is_picked : picked channel ≡ true
      pub ring_is : element.ring ≡ number + k
      pub block_is : element.block ≡ block + block_before channels k

    abbrev from : (block number : ℕ) → List Channel → List Crossing
    from block number channels = crossings_from bound last block number picked channels

    later_crossing : (block number : ℕ) (channel : Channel) (channels : List Channel)
        (element : Crossing) (test : Bool) → crosses bound last channel ≡ test
        → IsCrossing (raised test block) (suc number) channels element
        → IsCrossing block number (channel ∷ channels) element
    later_crossing block number channel channels element test e is = record {
      k = suc is.k;
      channel = is.channel;
      listed = is.listed;
      crossing = is.crossing;
      is_picked = is.is_picked;
      ring_is = omega (arith, is.ring_is);
      block_is = raised_moves test element.block block (block_before channels is.k) is.block_is
          ∙ ap (λ (b : Bool). block + raised b (block_before channels is.k)) (sym e);
    }

    -- The crossings are these.
    pub is_crossing : (block number : ℕ) (channels : List Channel) (element : Crossing)
        → In element (from block number channels) → IsCrossing block number channels element
    is_crossing block number [] element among = absurd among
    is_crossing block number (channel ∷ channels) element among =
        by_test (λ b. from b (suc number) channels)
        (λ b e later. is_crossing b (suc number) channels e later) (crosses bound last channel)
        (picked channel) refl refl among
      where
        by_test : (rest : ℕ → List Crossing)
            → ((b : ℕ) (e : Crossing) → In e (rest b) → IsCrossing b (suc number) channels e)
            → (test pick : Bool) → crosses bound last channel ≡ test → picked channel ≡ pick
            → In element (if test then (if pick then record { block = block; ring = number }
            ∷ rest (suc block) else rest (suc block)) else rest block)
            → IsCrossing block number (channel ∷ channels) element
        by_test rest ih true true e f (inl same) = record {
          k = 0;
          channel = channel;
          listed = refl;
          crossing = e;
          is_picked = f;
          ring_is = omega (arith, ap (λ (c : Crossing). c.ring) (sym same));
          block_is = omega (arith, ap (λ (c : Crossing). c.block) (sym same));
        }
        by_test rest ih true true e f (inr later) =
            later_crossing block number channel channels element true e
            (ih (suc block) element later)
        by_test rest ih true false e f later =
            later_crossing block number channel channels element true e
            (ih (suc block) element later)
        by_test rest ih false pick e f later =
            later_crossing block number channel channels element false e (ih block element later)

    pub crossing_in : (block number : ℕ) (channels : List Channel) (k : ℕ) (channel : Channel)
        (b r : ℕ) → slice_get channels k ≡ Some channel → crosses bound last channel ≡ true
        → picked channel ≡ true → r ≡ number + k → b ≡ block + block_before channels k
        → In (record { block = b; ring = r }) (from block number channels)
    crossing_in block number [] k channel b r there crossing pick ring_is block_is =
        absurd (none-some channel there)
    crossing_in block number (first ∷ channels) zero channel b r there crossing pick ring_is
        block_is =
        let same : first ≡ channel = same_Some first channel there in
        by_test (λ n. from n (suc number) channels) (crosses bound last first) (picked first)
        (ap (crosses bound last) same ∙ crossing) (ap picked same ∙ pick)
      where
        place : ◌≡◌ {A = Crossing} (record { block = block; ring = number })
            (record { block = b; ring = r })
        place =
            let e : number ≡ r = omega (arith, ring_is) in
            let f : block ≡ b = omega (arith, block_is) in
            ap (λ (n : ℕ). record { block = n; ring = number }) f
            ∙ ap (λ (n : ℕ). record { block = b; ring = n }) e

        by_test : (rest : ℕ → List Crossing) (test its : Bool) → test ≡ true → its ≡ true
            → In (record { block = b; ring = r })
            (if test then (if its then record { block = block; ring = number }
            ∷ rest (suc block) else rest (suc block)) else rest block)
        by_test rest true true e f = inl place
        by_test rest true false e f = absurd (true≢false (sym f))
        by_test rest false its e f = absurd (true≢false (sym e))
    crossing_in block number (first ∷ channels) (suc k) channel b r there crossing pick ring_is
        block_is =
        by_test (λ n. from n (suc number) channels)
        (λ n e. crossing_in n (suc number) channels k channel b r there crossing pick
        (omega (arith, ring_is)) e)
        (crosses bound last first) (picked first) block_is
      where
        by_test : (rest : ℕ → List Crossing)
            → ((n : ℕ) → b ≡ n + block_before channels k
            → In (record { block = b; ring = r }) (rest n))
            → (test its : Bool) → b ≡ block + raised test (block_before channels k)
            → In (record { block = b; ring = r })
            (if test then (if its then record { block = block; ring = number }
            ∷ rest (suc block) else rest (suc block)) else rest block)
        by_test rest ih true true e = inr (ih (suc block) (omega (arith, e)))
        by_test rest ih true false e = ih (suc block) (omega (arith, e))
        by_test rest ih false its e = ih block (omega (arith, e))

    pub rings_rise : (block number : ℕ) (channels : List Channel)
        → Rising (λ (c : Crossing). c.ring) (from block number channels)
    rings_rise block number [] = tt
    rings_rise block number (channel ∷ channels) =
        by_test (λ b. from b (suc number) channels)
        (λ other among. omega (
          arith,
          (is_crossing (suc block) (suc number) channels other among).ring_is,
        ))
        (λ b. rings_rise b (suc number) channels) (crosses bound last channel) (picked channel)
      where
        by_test : (rest : ℕ → List Crossing)
            → ((other : Crossing) → In other (rest (suc block)) → number < other.ring)
            → ((b : ℕ) → Rising (λ (c : Crossing). c.ring) (rest b))
            → (test pick : Bool) → Rising (λ (c : Crossing). c.ring)
            (if test then (if pick then record { block = block; ring = number }
            ∷ rest (suc block) else rest (suc block)) else rest block)
        by_test rest above ih true true = (above, ih (suc block))
        by_test rest above ih true false = ih (suc block)
        by_test rest above ih false pick = ih block

    pub blocks_rise : (block number : ℕ) (channels : List Channel)
        → Rising (λ (c : Crossing). c.block) (from block number channels)
    blocks_rise block number [] = tt
    blocks_rise block number (channel ∷ channels) =
        by_test (λ b. from b (suc number) channels)
        (λ other among. omega (
          arith,
          (is_crossing (suc block) (suc number) channels other among).block_is,
        ))
        (λ b. blocks_rise b (suc number) channels) (crosses bound last channel) (picked channel)
      where
        by_test : (rest : ℕ → List Crossing)
            → ((other : Crossing) → In other (rest (suc block)) → block < other.block)
            → ((b : ℕ) → Rising (λ (c : Crossing). c.block) (rest b))
            → (test pick : Bool) → Rising (λ (c : Crossing). c.block)
            (if test then (if pick then record { block = block; ring = number }
            ∷ rest (suc block) else rest (suc block)) else rest block)
        by_test rest above ih true true = (above, ih (suc block))
        by_test rest above ih true false = ih (suc block)
        by_test rest above ih false pick = ih block

  -- The rooms of the blocks.
  pub room_there : (running : Running) (channels : List Channel) (k : ℕ) (channel : Channel)
      → slice_get channels k ≡ Some channel → crosses bound last channel ≡ true
      → (block_before channels k < length (rooms_of (crosses bound last) running channels))
      × (slice_index (rooms_of (crosses bound last) running channels) (block_before channels k)
      ≡ round_pushes running channel)
  room_there running [] k channel there crossing = absurd (none-some channel there)
  room_there running (first ∷ channels) zero channel there crossing =
      let same : first ≡ channel = same_Some first channel there in
      subst (λ (c : Channel). (0 < length (rooms_of (crosses bound last) running (c ∷ channels)))
      × (slice_index (rooms_of (crosses bound last) running (c ∷ channels)) 0
      ≡ round_pushes running channel)) (sym same)
      (by_test (rooms_of (crosses bound last) running channels)
      (crosses bound last channel) crossing)
    where
      by_test : (rest : List ℕ) (test : Bool) → test ≡ true
          → (0 < length (if test then round_pushes running channel ∷ rest else rest))
          × (slice_index (if test then round_pushes running channel ∷ rest else rest) 0
          ≡ round_pushes running channel)
      by_test rest true e = (omega arith, refl)
      by_test rest false e = absurd (true≢false (sym e))
  room_there running (first ∷ channels) (suc k) channel there crossing =
      by_test (rooms_of (crosses bound last) running channels) (crosses bound last first)
      (room_there running channels k channel there crossing)
    where
      by_test : (rest : List ℕ) (test : Bool) → (block_before channels k < length rest)
          × (slice_index rest (block_before channels k) ≡ round_pushes running channel)
          → (raised test (block_before channels k)
          < length (if test then round_pushes running first ∷ rest else rest))
          × (slice_index (if test then round_pushes running first ∷ rest else rest)
          (raised test (block_before channels k)) ≡ round_pushes running channel)
      by_test rest true (less, same) = (omega (arith, less), same)
      by_test rest false (less, same) = (less, same)

  -- ---- tapes

  module _ (stage : ℕ) where
    pub record IsTapeOf (tape node : ℕ) (codes : List NodeCode) (element : TapeOf) : Type 0 where
      pub k : ℕ
      pub code : NodeCode
      pub listed : slice_get codes k ≡ Some code
      pub gives : gives_words code ≡ true
      pub is_own : stage_at bound last (node + k) ≡ stage
      pub node_is : element.node ≡ node + k
      pub tape_is : element.tape ≡ tape + passed_before gives_words codes k

    abbrev tapes : (tape node : ℕ) → List NodeCode → List TapeOf
    tapes tape node codes = tapes_from bound last tape node stage codes

    later_tape : (tape node : ℕ) (code : NodeCode) (codes : List NodeCode)
        (element : TapeOf) (test : Bool) → gives_words code ≡ test
        → IsTapeOf (raised test tape) (suc node) codes element
        → IsTapeOf tape node (code ∷ codes) element
    later_tape tape node code codes element test e is = record {
      k = suc is.k;
      code = is.code;
      listed = is.listed;
      gives = is.gives;
      is_own = ap (stage_at bound last) (let e : node + suc is.k ≡ suc node + is.k =
          omega arith in e) ∙ is.is_own;
      node_is = omega (arith, is.node_is);
      tape_is = raised_moves test element.tape tape (passed_before gives_words codes is.k)
          is.tape_is
          ∙ ap (λ (b : Bool). tape + raised b (passed_before gives_words codes is.k)) (sym e);
    }

    pub is_tape : (tape node : ℕ) (codes : List NodeCode) (element : TapeOf)
        → In element (tapes tape node codes) → IsTapeOf tape node codes element
    is_tape tape node [] element among = absurd among
    is_tape tape node (code ∷ codes) element among =
        by_test (λ b. tapes b (suc node) codes)
        (λ b e later. is_tape b (suc node) codes e later) (gives_words code)
        (eqb (stage_at bound last node) stage) refl refl among
      where
        by_test : (rest : ℕ → List TapeOf)
            → ((b : ℕ) (e : TapeOf) → In e (rest b) → IsTapeOf b (suc node) codes e)
            → (test pick : Bool) → gives_words code ≡ test
            → eqb (stage_at bound last node) stage ≡ pick
            → In element (if test then (if pick then record { tape = tape; node = node }
            ∷ rest (suc tape) else rest (suc tape)) else rest tape)
            → IsTapeOf tape node (code ∷ codes) element
        by_test rest ih true true e f (inl same) = record {
          k = 0;
          code = code;
          listed = refl;
          gives = e;
          is_own = ap (stage_at bound last) (let e : node + 0 ≡ node = omega arith in e)
              ∙ eqb-true (stage_at bound last node) stage f;
          node_is = omega (arith, ap (λ (c : TapeOf). c.node) (sym same));
          tape_is = omega (arith, ap (λ (c : TapeOf). c.tape) (sym same));
        }
        by_test rest ih true true e f (inr later) =
            later_tape tape node code codes element true e (ih (suc tape) element later)
        by_test rest ih true false e f later =
            later_tape tape node code codes element true e (ih (suc tape) element later)
        by_test rest ih false pick e f later =
            later_tape tape node code codes element false e (ih tape element later)

    pub tape_in : (tape node : ℕ) (codes : List NodeCode) (k : ℕ) (code : NodeCode)
        (b r : ℕ) → slice_get codes k ≡ Some code → gives_words code ≡ true
        → stage_at bound last (node + k) ≡ stage → r ≡ node + k
        → b ≡ tape + passed_before gives_words codes k
        → In (record { tape = b; node = r }) (tapes tape node codes)
    tape_in tape node [] k code b r there gives mine node_is tape_is =
        absurd (none-some code there)
    tape_in tape node (first ∷ codes) zero code b r there gives mine node_is tape_is =
        let same : first ≡ code = same_Some first code there in
        let e : node ≡ node + 0 = omega arith in
        by_test (λ n. tapes n (suc node) codes) (gives_words first)
        (eqb (stage_at bound last node) stage) (ap gives_words same ∙ gives)
        (eq-eqb (stage_at bound last node) stage (ap (stage_at bound last) e ∙ mine))
      where
        place : ◌≡◌ {A = TapeOf} (record { tape = tape; node = node })
            (record { tape = b; node = r })
        place =
            let e : node ≡ r = omega (arith, node_is) in
            let f : tape ≡ b = omega (arith, tape_is) in
            ap (λ (n : ℕ). record { tape = n; node = node }) f
            ∙ ap (λ (n : ℕ). record { tape = b; node = n }) e

        by_test : (rest : ℕ → List TapeOf) (test its : Bool) → test ≡ true → its ≡ true
            → In (record { tape = b; node = r })
            (if test then (if its then record { tape = tape; node = node }
            ∷ rest (suc tape) else rest (suc tape)) else rest tape)
        by_test rest true true e f = inl place
        by_test rest true false e f = absurd (true≢false (sym f))
        by_test rest false its e f = absurd (true≢false (sym e))
    tape_in tape node (first ∷ codes) (suc k) code b r there gives mine node_is tape_is =
        let its_own : stage_at bound last (suc node + k) ≡ stage =
        ap (stage_at bound last) (let e : suc node + k ≡ node + suc k = omega arith in e) ∙ mine in
        by_test (λ n. tapes n (suc node) codes)
        (λ n e. tape_in n (suc node) codes k code b r there gives its_own
        (omega (arith, node_is)) e)
        (gives_words first) (eqb (stage_at bound last node) stage) tape_is
      where
        by_test : (rest : ℕ → List TapeOf)
            → ((n : ℕ) → b ≡ n + passed_before gives_words codes k
            → In (record { tape = b; node = r }) (rest n))
            → (test its : Bool) → b ≡ tape + raised test (passed_before gives_words codes k)
            → In (record { tape = b; node = r })
            (if test then (if its then record { tape = tape; node = node }
            ∷ rest (suc tape) else rest (suc tape)) else rest tape)
        by_test rest ih true true e = inr (ih (suc tape) (omega (arith, e)))
        by_test rest ih true false e = ih (suc tape) (omega (arith, e))
        by_test rest ih false its e = ih tape (omega (arith, e))

    abbrev pub BothRise : List TapeOf → Type 0
    BothRise l = Rising (λ (c : TapeOf). c.tape) l × Rising (λ (c : TapeOf). c.node) l

    pub tapes_rise : (tape node : ℕ) (codes : List NodeCode) → BothRise (tapes tape node codes)
    tapes_rise tape node [] = (tt, tt)
    tapes_rise tape node (code ∷ codes) =
        by_test (λ b. tapes b (suc node) codes)
        (λ other among. omega (
          arith,
          (is_tape (suc tape) (suc node) codes other among).tape_is,
        ))
        (λ other among. omega (
          arith,
          (is_tape (suc tape) (suc node) codes other among).node_is,
        ))
        (λ b. tapes_rise b (suc node) codes)
        (gives_words code) (eqb (stage_at bound last node) stage)
      where
        by_test : (rest : ℕ → List TapeOf)
            → ((other : TapeOf) → In other (rest (suc tape)) → tape < other.tape)
            → ((other : TapeOf) → In other (rest (suc tape)) → node < other.node)
            → ((b : ℕ) → BothRise (rest b)) → (test pick : Bool) → BothRise
            (if test then (if pick then record { tape = tape; node = node }
            ∷ rest (suc tape) else rest (suc tape)) else rest tape)
        by_test rest tapes_above nodes_above ih true true =
            ((tapes_above, (ih (suc tape)).0), (nodes_above, (ih (suc tape)).1))
        by_test rest tapes_above nodes_above ih true false = ih (suc tape)
        by_test rest tapes_above nodes_above ih false pick = ih tape

-- The tapes are as many as there are nodes that give words.
pub tape_there : (node : ℕ) (codes : List NodeCode) (k : ℕ) (code : NodeCode)
    → slice_get codes k ≡ Some code → gives_words code ≡ true
    → passed_before gives_words codes k < length (tape_nodes_from node codes)
tape_there node [] k code there gives = absurd (none-some code there)
tape_there node (first ∷ codes) zero code there gives =
    by_test (tape_nodes_from (suc node) codes) (gives_words first)
    (ap gives_words (same_Some first code there) ∙ gives)
  where
    by_test : (rest : List ℕ) (test : Bool) → test ≡ true
        → 0 < length (if test then node ∷ rest else rest)
    by_test rest true e = omega arith
    by_test rest false e = absurd (true≢false (sym e))
tape_there node (first ∷ codes) (suc k) code there gives =
    by_test (tape_nodes_from (suc node) codes) (gives_words first)
    (tape_there (suc node) codes k code there gives)
  where
    by_test : (rest : List ℕ) (test : Bool) → passed_before gives_words codes k < length rest
        → raised test (passed_before gives_words codes k)
        < length (if test then node ∷ rest else rest)
    by_test rest true less = omega (arith, less)
    by_test rest false less = less
