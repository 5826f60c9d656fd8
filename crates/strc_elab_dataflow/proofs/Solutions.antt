-- A solution of the equations: nodes that can fire do, one after another, until none can.
use Rattle.std.proofs.Common.{◌≡◌, refl, sym, ap, ◌∙◌, subst, ℕ, zero, suc, ◌+◌, ◌-◌, ◌*◌, ◌<◌, ◌≤◌}
use Rattle.std.proofs.Common.{Bool, true, false, cond, eqb, List, [], ◌∷◌, ℤ, arith}
use Rattle.std.proofs.Common.{eqb-true}
use mathlib.Core.Path.{fun_ext}
use mathlib.Core.Logic.{inl, inr, ◌⊎◌}
use Rattle.std.proofs.lemmas.Bool.{cases_lt, ne_eqb}
use Rattle.strc_elab_dataflow.specs.Node.{ByPort, Meaning}
use Rattle.strc_elab_dataflow.specs.Histories.{Run, finds, advance, runs}
use Rattle.strc_elab_dataflow.specs.Flat.{Graph, arrived, runs_at, Solves}
use Rattle.strc_elab_dataflow.specs.Order.{raised, firing_count, counts_after}
use Rattle.strc_elab_dataflow.specs.Machine.{put, at_first, fired_once}
use Rattle.strc_elab_dataflow.proofs.Runs.{Begins, begins_itself, begins_then, advance_longer}
use Rattle.strc_elab_dataflow.proofs.Runs.{pushes_if}
use Rattle.strc_elab_dataflow.proofs.Runs.{later_runs, not_found}
use Rattle.strc_elab_dataflow.proofs.Invariant.{raised_here, come_grows}
use Rattle.strc_elab_dataflow.specs.Solutions.{EquationsHaveSolutions, RoundsHaveSolutions}

-- A run that doesn't find its windows stays as it is.
waits : {Code State Cause Word : Type 0} (meaning : Meaning Code State Cause Word) (code : Code)
    (inputs : ByPort) (n later : ℕ) → n ≤ later
    → finds meaning code (runs meaning code n inputs).fired inputs ≡ false
    → runs meaning code later inputs ≡ runs meaning code n inputs
waits meaning code inputs n later less =
    later_runs meaning code
    (λ r s. finds meaning code r.fired inputs ≡ false → s ≡ r)
    (λ run e. refl)
    inputs
    (λ r s keeps e. ap (advance meaning code inputs) (keeps e) ∙ not_found meaning code inputs r e)
    n
    later
    less

raised_other : (counts : ℕ → ℕ) (node other : ℕ) → (other ≡ node → ⊥)
    → raised counts node other ≡ counts other
unfolding raised
raised_other counts node other differ =
    ap (λ (t : Bool). cond t (suc (counts other)) (counts other)) (ne_eqb other node differ)

module _ {Code State Cause Word : Type 0} (meaning : Meaning Code State Cause Word)
    (graph : Graph Code) (input : List ℤ) where
  abbrev come : (ℕ → Run State Cause Word) → ℕ → ByPort
  come now node port = arrived input now (graph.source node port)

  module _ (counts : ℕ → ℕ) where
    -- Each node has done some of its firings over what has come to it, as it would over more.
    record IsPartWay (made : ℕ → ℕ) (now : ℕ → Run State Cause Word) : Type 0 where
      within : (node : ℕ) → made node ≤ counts node
      settled : (node : ℕ) (more : ByPort)
          → ((port : ℕ) → Begins (arrived input now (graph.source node port)) (more port))
          → runs meaning (graph.code node) (made node) more ≡ now node

    begun : IsPartWay (λ node. 0) (at_first meaning graph)
    unfolding at_first runs
    begun = record { within = λ node. omega arith; settled = λ node more begins. refl }

    one_more : (made : ℕ → ℕ) (now : ℕ → Run State Cause Word) (node : ℕ) → IsPartWay made now
        → made node < counts node
        → finds meaning (graph.code node) (now node).fired (come now node) ≡ true
        → IsPartWay (raised made node) (put now node (fired_once meaning graph input now node))
    unfolding raised put fired_once runs advance
    one_more made now node part room found = record {
      within = λ u. within_by u (eqb u node) refl;
      settled = λ u more begins. settled_by u more (eqb u node) refl
          (λ port. begins_then (come now u port) (come after u port) (more port)
          (longer u port) (begins port));
    }
      where
        run : Run State Cause Word
        run = fired_once meaning graph input now node

        after : ℕ → Run State Cause Word
        after = put now node run

        longer : (u port : ℕ) → Begins (come now u port) (come after u port)
        longer u port = come_grows input now node run
            (λ q. pushes_if meaning (graph.code node) (come now node) (now node) (now node).fault
            (finds meaning (graph.code node) (now node).fired (come now node)) q)
            (graph.source u port)

        within_by : (u : ℕ) (test : Bool) → eqb u node ≡ test
            → cond test (suc (made u)) (made u) ≤ counts u
        within_by u true e = subst (λ (v : ℕ). suc (made v) ≤ counts v)
            (sym (eqb-true u node e)) (let h : suc (made node) ≤ counts node = omega arith in h)
        within_by u false e = part.within u

        fires_so : (more : ByPort) → ((port : ℕ) → Begins (come now node port) (more port))
            → runs meaning (graph.code node) (suc (made node)) more ≡ run
        fires_so more begins =
            ap (advance meaning (graph.code node) more) (part.settled node more begins)
            ∙ advance_longer meaning (graph.code node) (come now node) more (now node) begins found

        settled_by : (u : ℕ) (more : ByPort) (test : Bool) → eqb u node ≡ test
            → ((port : ℕ) → Begins (come now u port) (more port))
            → runs meaning (graph.code u) (cond test (suc (made u)) (made u)) more
            ≡ cond test run (now u)
        settled_by u more true e =
            subst (λ (v : ℕ). ((port : ℕ) → Begins (come now v port) (more port))
            → runs meaning (graph.code v) (suc (made v)) more ≡ run)
            (sym (eqb-true u node e)) (fires_so more)
        settled_by u more false e = part.settled u more

    -- A node below a number that can fire.
    record IsNext (made : ℕ → ℕ) (now : ℕ → Run State Cause Word) (bound : ℕ) : Type 0 where
      node : ℕ
      below : node < bound
      room : made node < counts node
      found : finds meaning (graph.code node) (now node).fired (come now node) ≡ true

    -- A node that has done its firings or doesn't find its windows.
    abbrev IsStill : (ℕ → ℕ) → (ℕ → Run State Cause Word) → ℕ → Type 0
    IsStill made now node = (counts node ≤ made node)
        ⊎ (finds meaning (graph.code node) (now node).fired (come now node) ≡ false)

    look : (made : ℕ → ℕ) (now : ℕ → Run State Cause Word) (bound : ℕ)
        → IsNext made now bound ⊎ ((node : ℕ) → node < bound → IsStill made now node)
    look made now zero = inr (λ node less. absurd (omega arith))
    look made now (suc bound) =
        elim (look made now bound) [
          | inl next ↦ inl (record {
            node = next.node;
            below = omega (arith, next.below);
            room = next.room;
            found = next.found;
          })
          | inr still ↦ elim (cases_lt (made bound) (counts bound)) [
            | inl room ↦ by_found still room
                (finds meaning (graph.code bound) (now bound).fired (come now bound)) refl
            | inr full ↦ inr (one_still still (inl full))
          ]
        ]
      where
        one_still : ((node : ℕ) → node < bound → IsStill made now node)
            → IsStill made now bound
            → (node : ℕ) → node < suc bound → IsStill made now node
        one_still still here node less = elim (cases_lt node bound) [
          | inl lower ↦ still node lower
          | inr last ↦ subst (IsStill made now)
              (let e : bound ≡ node = omega arith in e) here
        ]

        by_found : ((node : ℕ) → node < bound → IsStill made now node)
            → made bound < counts bound → (found : Bool)
            → finds meaning (graph.code bound) (now bound).fired (come now bound) ≡ found
            → IsNext made now (suc bound)
            ⊎ ((node : ℕ) → node < suc bound → IsStill made now node)
        by_found still room true e =
            inl (record { node = bound; below = omega arith; room = room; found = e })
        by_found still room false e = inr (one_still still (inr e))

    -- The firings that are left to do.
    left_over : (ℕ → ℕ) → ℕ → ℕ
    left_over made zero = 0
    left_over made (suc n) = left_over made n + (counts n - made n)

    left_above : (made : ℕ → ℕ) (node n : ℕ) → n ≤ node
        → left_over (raised made node) n ≡ left_over made n
    unfolding left_over
    left_above made node zero less = refl
    left_above made node (suc n) less =
        let e : raised made node n ≡ made n = raised_other made node n (λ h. omega arith) in
        let ih : left_over (raised made node) n ≡ left_over made n
        = left_above made node n (omega arith) in
        ap (λ (m : ℕ). m + (counts n - raised made node n)) ih
        ∙ ap (λ (m : ℕ). left_over made n + (counts n - m)) e

    one_less : (made : ℕ → ℕ) (node n : ℕ) → node < n → made node < counts node
        → suc (left_over (raised made node) n) ≡ left_over made n
    unfolding left_over
    one_less made node zero less room = absurd (omega arith)
    one_less made node (suc n) less room = elim (cases_lt node n) [
      | inl lower ↦
          let e : raised made node n ≡ made n = raised_other made node n (λ h. omega arith) in
          omega (
            arith,
            one_less made node n lower room,
            ap (λ (m : ℕ). counts n - m) e,
          )
      | inr last ↦
          let same : node ≡ n = omega arith in
          let here : raised made node n ≡ suc (made n)
          = subst (λ (v : ℕ). raised made node v ≡ suc (made v)) same (raised_here made node) in
          let space : made n < counts n = subst (λ (v : ℕ). made v < counts v) same room in
          omega (
            arith,
            left_above made node n (omega (arith, same)),
            here,
            space,
          )
    ]

    -- What each node's run is over what has come to it.
    record IsEnd : Type 0 where
      now : ℕ → Run State Cause Word
      ended : (node : ℕ) → runs meaning (graph.code node) (counts node)
          (λ port. arrived input now (graph.source node port)) ≡ now node

    module _ (bound : ℕ) (none : (node : ℕ) → bound ≤ node → counts node ≡ 0) where
      at_rest : (made : ℕ → ℕ) (now : ℕ → Run State Cause Word) → IsPartWay made now
          → ((node : ℕ) → node < bound → IsStill made now node) → IsEnd
      at_rest made now part still = record { now = now; ended = ended_at }
        where
          as_made : (node : ℕ)
              → runs meaning (graph.code node) (made node) (come now node) ≡ now node
          as_made node = part.settled node (come now node)
              (λ port. begins_itself (come now node port))

          by_still : (node : ℕ) → IsStill made now node
              → runs meaning (graph.code node) (counts node) (come now node) ≡ now node
          by_still node (inl full) =
              subst (λ (m : ℕ). runs meaning (graph.code node) m (come now node) ≡ now node)
              (let e : made node ≡ counts node = omega (arith, part.within node) in e)
              (as_made node)
          by_still node (inr lacks) =
              waits meaning (graph.code node) (come now node) (made node) (counts node)
              (part.within node)
              (ap (λ (r : Run State Cause Word). finds meaning (graph.code node) r.fired
              (come now node)) (as_made node) ∙ lacks)
              ∙ as_made node

          ended_at : (node : ℕ)
              → runs meaning (graph.code node) (counts node) (come now node) ≡ now node
          ended_at node = elim (cases_lt node bound) [
            | inl lower ↦ by_still node (still node lower)
            | inr above ↦ by_still node (inl (omega (arith, none node above)))
          ]

      runs_out : (left : ℕ) (made : ℕ → ℕ) (now : ℕ → Run State Cause Word) → IsPartWay made now
          → left_over made bound ≤ left → IsEnd
      runs_out zero made now part enough = elim (look made now bound) [
        | inl next ↦ absurd (omega (
          arith,
          one_less made next.node bound next.below next.room,
        ))
        | inr still ↦ at_rest made now part still
      ]
      runs_out (suc left) made now part enough = elim (look made now bound) [
        | inl next ↦ runs_out left (raised made next.node)
            (put now next.node (fired_once meaning graph input now next.node))
            (one_more made now next.node part next.room next.found)
            (omega (arith, one_less made next.node bound next.below next.room))
        | inr still ↦ at_rest made now part still
      ]

      -- Inputs that solve the equations.
      pub solution : (inputs : ℕ → ByPort) × Solves meaning graph counts input inputs
      unfolding runs_at
      solution =
          let rest = runs_out (left_over (λ node. 0) bound) (λ node. 0) (at_first meaning graph)
          begun (omega arith) in
          let same : rest.now ≡ runs_at meaning graph counts (come rest.now)
          = fun_ext (λ v. sym (rest.ended v)) in (
            come rest.now,
            λ node port. ap (λ (all : ℕ → Run State Cause Word). arrived input all
                (graph.source node port)) same,
          )

-- A number above all nodes of an order.
above : List ℕ → ℕ
above [] = 0
above (node ∷ order) = suc node + above order

none_above : (order : List ℕ) (node : ℕ) → above order ≤ node → firing_count order node ≡ 0
unfolding above firing_count
none_above [] node less = refl
none_above (first ∷ order) node less =
    raised_other (firing_count order) first node (λ e. omega arith)
    ∙ none_above order node (omega arith)

pub equations_have_solutions : {Code State Cause Word : Type 0}
    → EquationsHaveSolutions Code State Cause Word
equations_have_solutions meaning graph input counts bound none =
    solution meaning graph input counts bound none

none_after : (startup round : ℕ → ℕ) (startup_order round_order : List ℕ)
    → ((node : ℕ) → firing_count startup_order node ≡ startup node)
    → ((node : ℕ) → firing_count round_order node ≡ round node)
    → (t node : ℕ) → above startup_order + above round_order ≤ node
    → counts_after startup round t node ≡ 0
unfolding counts_after
none_after startup round startup_order round_order startup_counts round_counts t node less =
    let a : startup node ≡ 0
    = sym (startup_counts node) ∙ none_above startup_order node (omega arith) in
    let b : round node ≡ 0
    = sym (round_counts node) ∙ none_above round_order node (omega arith) in
    ap (λ (m : ℕ). m + t * round node) a
    ∙ ap (λ (m : ℕ). 0 + t * m) b
    ∙ (let e : 0 + t * 0 ≡ 0 = omega arith in e)

pub rounds_have_solutions : {Code State Cause Word : Type 0}
    → RoundsHaveSolutions Code State Cause Word
rounds_have_solutions meaning graph input startup round startup_order round_order startup_counts
    round_counts =
    let found = λ (t : ℕ). solution meaning graph input (counts_after startup round t)
    (above startup_order + above round_order)
    (none_after startup round startup_order round_order startup_counts round_counts t) in (
      λ t. (found t).0,
      λ t. (found t).1,
    )
