-- Two nodes that can both fire, fired in either order: each fires as it would alone, and the states
-- after both are the same.
use Rattle.std.proofs.Common.{◌≡◌, refl, sym, ap, ◌∙◌, subst, ℕ, ◌<◌, ◌≤◌}
use Rattle.std.proofs.Common.{Bool, true, false, cond, eqb, leb, ltb, List, [], ◌++◌, length}
use Rattle.std.proofs.Common.{take, drop, ℤ, arith, append_assoc, append-nil, length-append}
use Rattle.std.proofs.Common.{eqb-true, leb-true, le-leb, ltb-true}
use mathlib.Core.Path.{fun_ext}
use mathlib.Core.Logic.{inl, inr, ◌⊎◌}
use Rattle.std.proofs.lemmas.List.{drop-append-le, take-append-le}
use Rattle.std.proofs.lemmas.Bool.{cases_lt, eqb-false, ne_eqb}
use Rattle.strc_elab_dataflow.specs.Node.{ByPort, Fired, Fired.Fires, Meaning}
use Rattle.strc_elab_dataflow.specs.Histories.{Run, all_below, after_firing}
use Rattle.strc_elab_dataflow.specs.Flat.{Origin, Origin.Nowhere, Origin.Input, Origin.Port, Graph}
use Rattle.strc_elab_dataflow.specs.Machine.{put}
use Rattle.strc_elab_dataflow.specs.Queues.{Fifo, added, holds, fronts, moved}
use Rattle.strc_elab_dataflow.specs.Queues.{fifo_after, fifo_if, fifo_fire, TakesWithinWindow}
use Rattle.strc_elab_dataflow.proofs.Runs.{each_below, all_from_each}
use Rattle.strc_elab_dataflow.specs.Same.{IsWired}

pub apart_other : (a b : ℕ) → eqb a b ≡ false → eqb b a ≡ false
apart_other a b e = ne_eqb b a (λ same. eqb-false a b e (sym same))

module _ {Code State Cause Word : Type 0} (meaning : Meaning Code State Cause Word)
    (graph : Graph Code) where
  abbrev pub Here : Type 0
  Here = Fifo State Cause Word

  -- What a node's next firing gives.
  unfoldable pub outcome : Here → ℕ → Fired State Cause Word
  outcome now node = meaning.fire (graph.code node) (now.runs node).fired (now.runs node).state
      (fronts meaning graph node (now.runs node).fired (now.queues node))

  abbrev pub IsReadyNow : Here → ℕ → Type 0
  IsReadyNow now node = holds meaning graph node (now.runs node).fired (now.queues node) ≡ true

  -- The state after a firing that gave this.
  unfoldable pub next_of : Here → ℕ → State → ByPort → List Word → Here
  next_of now node state pushes words = record {
    runs = put now.runs node
        (after_firing meaning (graph.code node) (now.runs node) (Fires state pushes words));
    queues = moved meaning graph node (now.runs node).fired now.queues pushes;
  }

  pub fires : (now : Here) (node : ℕ) → IsReadyNow now node
      → fifo_fire meaning graph now node ≡ fifo_after meaning graph now node (outcome now node)
  unfolding fifo_fire fifo_if outcome
  fires now node ready = ap (fifo_if meaning graph now node) ready

  pub window_here : (now : Here) (a : ℕ) → IsReadyNow now a → (port : ℕ)
      → port < meaning.ports (graph.code a)
      → meaning.window (graph.code a) (now.runs a).fired port ≤ length (now.queues a port)
  unfolding holds
  window_here now a ready port less = leb-true _ _ (each_below (meaning.ports (graph.code a))
      (λ p. leb (meaning.window (graph.code a) (now.runs a).fired p)
      (length (now.queues a p))) ready port less)

  module _ (now : Here) (a b : ℕ) (apart : eqb a b ≡ false) (state : State) (pushes : ByPort)
      (words : List Word) where
    unfoldable pub then : Here
    then = next_of now b state pushes words

    pub run_kept : then.runs a ≡ now.runs a
    unfolding then next_of put
    run_kept = ap (λ (t : Bool). cond t (after_firing meaning (graph.code b) (now.runs b)
        (Fires state pushes words)) (now.runs a)) apart

    pub queue_kept : (port : ℕ) → then.queues a port
        ≡ now.queues a port ++ added b pushes (graph.source a port).origin
    unfolding then next_of moved
    queue_kept port = ap (λ (t : Bool).
        drop (cond t (meaning.popped (graph.code b) (now.runs b).fired port) 0)
        (now.queues a port) ++ added b pushes (graph.source a port).origin) apart

    pub holds_kept : IsReadyNow now a → IsReadyNow then a
    unfolding holds
    holds_kept ready =
        subst (λ (r : Run State Cause Word). all_below (meaning.ports (graph.code a))
        (λ port. leb (meaning.window (graph.code a) r.fired port) (length (then.queues a port)))
        ≡ true) (sym run_kept)
        (all_from_each (meaning.ports (graph.code a))
        (λ port. leb (meaning.window (graph.code a) (now.runs a).fired port)
        (length (then.queues a port)))
        (λ port less. le-leb _ _ (omega (
          arith,
          window_here now a ready port less,
          ap length (queue_kept port),
          length-append (now.queues a port) (added b pushes (graph.source a port).origin),
        ))))

    front_by : (w : ℕ) (queue more whole : List ℤ) → whole ≡ queue ++ more → (test : Bool)
        → (test ≡ true → w ≤ length queue)
        → cond test (take w whole) [] ≡ cond test (take w queue) []
    front_by w queue more whole e true h = ap (take w) e ∙ take-append-le w queue more (h refl)
    front_by w queue more whole e false h = refl

    pub outcome_kept : IsReadyNow now a → outcome then a ≡ outcome now a
    unfolding outcome fronts
    outcome_kept ready =
        ap (λ (r : Run State Cause Word). meaning.fire (graph.code a) r.fired r.state
        (fronts meaning graph a r.fired (then.queues a))) run_kept
        ∙ ap (meaning.fire (graph.code a) (now.runs a).fired (now.runs a).state)
        (fun_ext (λ port. front_by (meaning.window (graph.code a) (now.runs a).fired port)
        (now.queues a port) (added b pushes (graph.source a port).origin) (then.queues a port)
        (queue_kept port) (ltb port (meaning.ports (graph.code a)))
        (λ e. window_here now a ready port (ltb-true port (meaning.ports (graph.code a)) e))))

    -- It still fires as it did.
    pub fires_still : IsReadyNow now a → fifo_fire meaning graph then a
        ≡ fifo_after meaning graph then a (outcome now a)
    fires_still ready = fires then a (holds_kept ready)
        ∙ ap (fifo_after meaning graph then a) (outcome_kept ready)

  pub adds_nothing : (node : ℕ) (pushes : ByPort) (origin : Origin) → origin ≡ Nowhere
      → added node pushes origin ≡ []
  unfolding added
  adds_nothing node pushes origin e = ap (added node pushes) e

  -- What two nodes add to a queue doesn't depend on which fired first.
  added_swap : (a b : ℕ) → eqb a b ≡ false → (pa pb : ByPort) (origin : Origin)
      → added a pa origin ++ added b pb origin ≡ added b pb origin ++ added a pa origin
  unfolding added
  added_swap a b apart pa pb Nowhere = refl
  added_swap a b apart pa pb Input = refl
  added_swap a b apart pa pb (Port u q) = by_test (eqb u a) refl
    where
      by_test : (t : Bool) → eqb u a ≡ t → cond t (pa q) [] ++ cond (eqb u b) (pb q) []
          ≡ cond (eqb u b) (pb q) [] ++ cond t (pa q) []
      by_test false e = sym (append-nil (cond (eqb u b) (pb q) []))
      by_test true e =
          let none : eqb u b ≡ false =
          subst (λ (v : ℕ). eqb v b ≡ false) (sym (eqb-true u a e)) apart in
          ap (λ (t : Bool). pa q ++ cond t (pb q) []) none ∙ append-nil (pa q)
          ∙ sym (ap (λ (t : Bool). cond t (pb q) [] ++ pa q) none)

  taken_less : TakesWithinWindow meaning graph → (now : Here) (node other port : ℕ)
      → IsReadyNow now node → port < meaning.ports (graph.code other) → other ≡ node
      → meaning.popped (graph.code node) (now.runs node).fired port
      ≤ length (now.queues other port)
  taken_less within now node other port ready less same =
      subst (λ (v : ℕ). port < meaning.ports (graph.code v)
      → meaning.popped (graph.code node) (now.runs node).fired port
      ≤ length (now.queues v port)) (sym same)
      (λ here. omega (
        arith,
        within node (now.runs node).fired port here,
        window_here now node ready port here,
      )) less

  swap_left : (m : ℕ) (q xs ys : List ℤ) → (m ≤ length q) ⊎ (ys ≡ []) → xs ++ ys ≡ ys ++ xs
      → drop m (q ++ ys) ++ xs ≡ (drop m q ++ xs) ++ ys
  swap_left m q xs ys (inl less) e =
      ap (λ (l : List ℤ). l ++ xs) (drop-append-le m q ys less)
      ∙ append_assoc (drop m q) ys xs
      ∙ ap (λ (l : List ℤ). drop m q ++ l) (sym e)
      ∙ sym (append_assoc (drop m q) xs ys)
  swap_left m q xs ys (inr none) e =
      ap (λ (l : List ℤ). drop m (q ++ l) ++ xs) none
      ∙ ap (λ (l : List ℤ). drop m l ++ xs) (append-nil q)
      ∙ sym (append-nil (drop m q ++ xs))
      ∙ ap (λ (l : List ℤ). (drop m q ++ xs) ++ l) (sym none)

  swap_by : (m n : ℕ) (q xs ys : List ℤ) (at_a at_b : Bool)
      → (at_a ≡ true → at_b ≡ true → ⊥)
      → (at_a ≡ true → (m ≤ length q) ⊎ (ys ≡ []))
      → (at_b ≡ true → (n ≤ length q) ⊎ (xs ≡ [])) → xs ++ ys ≡ ys ++ xs
      → drop (cond at_a m 0) (drop (cond at_b n 0) q ++ ys) ++ xs
      ≡ drop (cond at_b n 0) (drop (cond at_a m 0) q ++ xs) ++ ys
  swap_by m n q xs ys true true both a_less b_less e = absurd (both refl refl)
  swap_by m n q xs ys true false both a_less b_less e = swap_left m q xs ys (a_less refl) e
  swap_by m n q xs ys false true both a_less b_less e =
      sym (swap_left n q ys xs (b_less refl) (sym e))
  swap_by m n q xs ys false false both a_less b_less e =
      append_assoc q ys xs ∙ ap (λ (l : List ℤ). q ++ l) (sym e) ∙ sym (append_assoc q xs ys)

  put_swap : (now : ℕ → Run State Cause Word) (a b : ℕ) → eqb a b ≡ false
      → (run other : Run State Cause Word)
      → put (put now b other) a run ≡ put (put now a run) b other
  unfolding put
  put_swap now a b apart run other = fun_ext (λ v. by_test v (eqb v a) refl)
    where
      by_test : (v : ℕ) (t : Bool) → eqb v a ≡ t
          → cond t run (cond (eqb v b) other (now v)) ≡ cond (eqb v b) other (cond t run (now v))
      by_test v false e = refl
      by_test v true e =
          let none : eqb v b ≡ false =
          subst (λ (u : ℕ). eqb u b ≡ false) (sym (eqb-true v a e)) apart in
          sym (ap (λ (t : Bool). cond t other run) none)

  abbrev of_parts : (ℕ → Run State Cause Word) → (ℕ → ByPort) → Here
  of_parts runs queues = record { runs = runs; queues = queues }

  both_parts : (runs others : ℕ → Run State Cause Word) (queues other_queues : ℕ → ByPort)
      → runs ≡ others → queues ≡ other_queues
      → ◌≡◌ {A = Here} (record { runs = runs; queues = queues })
      (record { runs = others; queues = other_queues })
  both_parts runs others queues other_queues e f = cc

  -- A firing after another, by the runs and queues of before both.
  last : (now : Here) (a b : ℕ) → eqb a b ≡ false → (sa sb : State) (pa pb : ByPort)
      (wa wb : List Word)
      → next_of (next_of now b sb pb wb) a sa pa wa ≡ of_parts
      (put (put now.runs b (after_firing meaning (graph.code b) (now.runs b) (Fires sb pb wb))) a
      (after_firing meaning (graph.code a) (now.runs a) (Fires sa pa wa)))
      (moved meaning graph a (now.runs a).fired
      (moved meaning graph b (now.runs b).fired now.queues pb) pa)
  unfolding next_of then
  last now a b apart sa sb pa pb wa wb =
      ap (λ (r : Run State Cause Word). of_parts
      (put (put now.runs b (after_firing meaning (graph.code b) (now.runs b) (Fires sb pb wb))) a
      (after_firing meaning (graph.code a) r (Fires sa pa wa)))
      (moved meaning graph a r.fired
      (moved meaning graph b (now.runs b).fired now.queues pb) pa))
      (run_kept now a b apart sb pb wb)

  module _ (within : TakesWithinWindow meaning graph) (wired : IsWired meaning graph)
      (now : Here) (a b : ℕ) (apart : eqb a b ≡ false)
      (ready_a : IsReadyNow now a) (ready_b : IsReadyNow now b)
      (sa sb : State) (pa pb : ByPort) (wa wb : List Word) where
    queues_swap : moved meaning graph a (now.runs a).fired
        (moved meaning graph b (now.runs b).fired now.queues pb) pa
        ≡ moved meaning graph b (now.runs b).fired
        (moved meaning graph a (now.runs a).fired now.queues pa) pb
    unfolding moved
    queues_swap = fun_ext (λ v. fun_ext (λ port.
        swap_by (meaning.popped (graph.code a) (now.runs a).fired port)
        (meaning.popped (graph.code b) (now.runs b).fired port)
        (now.queues v port) (added a pa (graph.source v port).origin)
        (added b pb (graph.source v port).origin) (eqb v a) (eqb v b)
        (λ e f. eqb-false a b apart (sym (eqb-true v a e) ∙ eqb-true v b f))
        (λ e. fits a v port b pb ready_a e) (λ e. fits b v port a pa ready_b e)
        (added_swap a b apart pa pb (graph.source v port).origin)))
      where
        none_taken : (node v port : ℕ) → v ≡ node
            → ((firing : ℕ) → meaning.popped (graph.code v) firing port ≡ 0)
            → meaning.popped (graph.code node) (now.runs node).fired port ≡ 0
        none_taken node v port same none =
            subst (λ (u : ℕ). meaning.popped (graph.code u) (now.runs node).fired port ≡ 0) same
            (none (now.runs node).fired)

        fits : (node v port other : ℕ) (pushes : ByPort) → IsReadyNow now node
            → eqb v node ≡ true
            → (meaning.popped (graph.code node) (now.runs node).fired port
            ≤ length (now.queues v port))
            ⊎ (added other pushes (graph.source v port).origin ≡ [])
        fits node v port other pushes ready e =
            elim (cases_lt port (meaning.ports (graph.code v))) [
              | inl less ↦ inl
                  (taken_less within now node v port ready less (eqb-true v node e))
              | inr past ↦ elim (wired v port past) [
                | inl none ↦ inr (adds_nothing other pushes (graph.source v port).origin none)
                | inr none ↦ inl (omega (
                  arith,
                  none_taken node v port (eqb-true v node e) none,
                ))
              ]
            ]

    pub states_swap : next_of (next_of now b sb pb wb) a sa pa wa
        ≡ next_of (next_of now a sa pa wa) b sb pb wb
    states_swap = last now a b apart sa sb pa pb wa wb
        ∙ both_parts _ _ _ _ (put_swap now.runs a b apart
        (after_firing meaning (graph.code a) (now.runs a) (Fires sa pa wa))
        (after_firing meaning (graph.code b) (now.runs b) (Fires sb pb wb))) queues_swap
        ∙ sym (last now b a (apart_other a b apart) sb sa pb pa wb wa)
