-- The invariant of one firing: as long as no firing has faulted, each node of the machine is what
-- the equations say of its firings so far, whichever solution is taken; and so an order stops
-- exactly at its first fault.
use Rattle.std.proofs.Common.{◌≡◌, refl, sym, ap, ◌∙◌, subst, ℕ, suc, ◌+◌, ◌<◌, ◌≤◌, Bool, true}
use Rattle.std.proofs.Common.{false, cond, eqb, List, [], ◌∷◌, ◌++◌, length, Option, Some, None, ℤ}
use Rattle.std.proofs.Common.{arith, append_assoc, length-append, eq-eqb, eqb-true}
use mathlib.Core.Path.{fun_ext}
use Rattle.std.proofs.lemmas.Bool.{ne_eqb}
use Rattle.strc_elab_dataflow.specs.Node.{ByPort, Meaning}
use Rattle.strc_elab_dataflow.specs.Histories.{Run, finds, runs, KeepsRates}
use Rattle.strc_elab_dataflow.specs.Flat.{Origin, Origin.Nowhere, Origin.Input, Origin.Port, Source}
use Rattle.strc_elab_dataflow.specs.Flat.{Graph, items_of, arrived, runs_at, Solves}
use Rattle.strc_elab_dataflow.specs.Order.{raised, counted, supply_of, supply, IsReady, IsOrder}
use Rattle.strc_elab_dataflow.specs.Machine.{Stop, Progress, Progress.Went, Progress.Stopped, put}
use Rattle.strc_elab_dataflow.specs.Machine.{unless_faulted, fired_once, go, stop_at, or_else}
use Rattle.strc_elab_dataflow.specs.Machine.{first_fault}
use Rattle.strc_elab_dataflow.proofs.Runs.{Begins, begins_itself, finds_from, finds_longer}
use Rattle.strc_elab_dataflow.proofs.Runs.{advance_longer, runs_faulted, fired_grows, pushes_grow}
use Rattle.strc_elab_dataflow.proofs.Runs.{advance_counts}

raised_by : (counts : ℕ → ℕ) (node other : ℕ) (test : Bool)
    → counts other ≤ cond test (suc (counts other)) (counts other)
raised_by counts node other true = omega arith
raised_by counts node other false = omega arith

pub counted_grows : (order : List ℕ) (counts : ℕ → ℕ) (node : ℕ)
    → counts node ≤ counted counts order node
unfolding counted raised
counted_grows [] counts node = omega arith
counted_grows (first ∷ order) counts node =
    omega (
      arith,
      raised_by counts first node (eqb node first),
      counted_grows order (raised counts first) node,
    )

pub raised_here : (counts : ℕ → ℕ) (node : ℕ) → raised counts node node ≡ suc (counts node)
unfolding raised
raised_here counts node = ap (λ (t : Bool). cond t (suc (counts node)) (counts node))
    (eq-eqb node node refl)

-- One round later.
abbrev pub later : (ℕ → ℕ) → (ℕ → ℕ) → ℕ → ℕ
later counts round node = counts node + round node

raised_later_by : (counts round : ℕ → ℕ) (v : ℕ) (test : Bool)
    → cond test (suc (counts v + round v)) (counts v + round v)
    ≡ cond test (suc (counts v)) (counts v) + round v
raised_later_by counts round v true = omega arith
raised_later_by counts round v false = refl

pub raised_later : (counts round : ℕ → ℕ) (node : ℕ)
    → raised (later counts round) node ≡ later (raised counts node) round
unfolding raised
raised_later counts round node = fun_ext (λ v. raised_later_by counts round v (eqb v node))

-- More comes to a port where a node pushes more.
pub come_grows : {State Cause Word : Type 0} (input : List ℤ) (now : ℕ → Run State Cause Word)
    (node : ℕ) (run : Run State Cause Word)
    → ((port : ℕ) → Begins ((now node).pushes port) (run.pushes port)) → (source : Source)
    → Begins (arrived input now source) (arrived input (put now node run) source)
unfolding arrived items_of put
come_grows input now node run b source =
    let c = by_origin source.origin in
    record {
      rest = c.rest;
      whole = ap (λ (l : List ℤ). source.enqueued ++ l) c.whole
          ∙ sym (append_assoc source.enqueued (items_of input now source.origin) c.rest);
    }
  where
    by_test : (u q : ℕ) (test : Bool) → eqb u node ≡ test
        → Begins ((now u).pushes q) ((cond test run (now u)).pushes q)
    by_test u q true e = subst (λ (v : ℕ). Begins ((now v).pushes q) (run.pushes q))
        (sym (eqb-true u node e)) (b q)
    by_test u q false e = begins_itself ((now u).pushes q)

    by_origin : (origin : Origin) → Begins (items_of input now origin)
        (items_of input (put now node run) origin)
    by_origin Nowhere = begins_itself []
    by_origin Input = begins_itself input
    by_origin (Port u q) = by_test u q (eqb u node) refl

module _ {Code State Cause Word : Type 0} (meaning : Meaning Code State Cause Word)
    (graph : Graph Code) (input : List ℤ) where
  -- Each node has done its number of firings, and none faulted.
  pub record IsExact (counts : ℕ → ℕ) (inputs : ℕ → ByPort) : Type 0 where
    pub fired : (node : ℕ) → (runs_at meaning graph counts inputs node).fired ≡ counts node
    pub faultless : (node : ℕ) → (runs_at meaning graph counts inputs node).fault ≡ None

  -- What has come in at some counts begins what has come in at greater ones.
  pub arrived_begins : (counts later : ℕ → ℕ) (inputs : ℕ → ByPort)
      → ((node : ℕ) → counts node ≤ later node) → (source : Source)
      → Begins (arrived input (runs_at meaning graph counts inputs) source)
      (arrived input (runs_at meaning graph later inputs) source)
  unfolding arrived items_of runs_at
  arrived_begins counts later inputs less source =
      let b = items_begin source.origin in
      record {
        rest = b.rest;
        whole = ap (λ (l : List ℤ). source.enqueued ++ l) b.whole
            ∙ sym (append_assoc source.enqueued
            (items_of input (runs_at meaning graph counts inputs) source.origin) b.rest);
      }
    where
      items_begin : (origin : Origin) → Begins
          (items_of input (runs_at meaning graph counts inputs) origin)
          (items_of input (runs_at meaning graph later inputs) origin)
      items_begin Nowhere = begins_itself []
      items_begin Input = begins_itself input
      items_begin (Port node port) = pushes_grow meaning (graph.code node) (inputs node) port
          (counts node) (later node) (less node)

  module _ (keeps : (node : ℕ) → KeepsRates meaning (graph.code node)) where
    -- By counts is by lists.
    pub supply_is_length : (counts : ℕ → ℕ) (inputs : ℕ → ByPort) → IsExact counts inputs
        → (source : Source) → length (arrived input (runs_at meaning graph counts inputs) source)
        ≡ supply meaning graph input counts source
    unfolding arrived supply items_of supply_of runs_at
    supply_is_length counts inputs exact source =
        length-append source.enqueued (items_of input
        (runs_at meaning graph counts inputs) source.origin)
        ∙ ap (λ (n : ℕ). length source.enqueued + n) (items_length source.origin)
      where
        items_length : (origin : Origin) → length
            (items_of input (runs_at meaning graph counts inputs) origin)
            ≡ supply_of meaning graph input counts origin
        items_length Nowhere = refl
        items_length Input = refl
        items_length (Port node port) = (keeps node).kept (counts node) (inputs node)
            (exact.fired node) (exact.faultless node) port

    module _ (inputs : ℕ → ByPort) (all : ℕ → ℕ) (solves : Solves meaning graph all input inputs)
      where
        -- What has come to a node.
        pub come_to : (ℕ → ℕ) → ℕ → ByPort
        come_to counts node port = arrived input (runs_at meaning graph counts inputs)
            (graph.source node port)

        come_begins : (counts : ℕ → ℕ) → ((node : ℕ) → counts node ≤ all node) → (node port : ℕ)
            → Begins (come_to counts node port) (inputs node port)
        unfolding come_to
        come_begins counts less node port =
            subst (λ (l : List ℤ). Begins (arrived input (runs_at meaning graph counts inputs)
            (graph.source node port)) l) (sym (solves node port))
            (arrived_begins counts all inputs less (graph.source node port))

        ready_finds : (counts : ℕ → ℕ) (node : ℕ) → IsExact counts inputs
            → IsReady meaning graph input counts node
            → finds meaning (graph.code node) (runs_at meaning graph counts inputs node).fired
            (come_to counts node) ≡ true
        unfolding come_to
        ready_finds counts node exact ready =
            rw (exact.fired node)
            (finds_from meaning (graph.code node) (counts node) (come_to counts node)
            (λ port lt. rw (supply_is_length counts inputs exact (graph.source node port))
            (ready port lt)))

        -- One firing that finds its windows is the next of the equations' firings.
        pub put_next : (counts : ℕ → ℕ) (node : ℕ) → ((other : ℕ) → counts other ≤ all other)
            → IsExact counts inputs → IsReady meaning graph input counts node
            → fired_once meaning graph input (runs_at meaning graph counts inputs) node
            ≡ runs meaning (graph.code node) (suc (counts node)) (inputs node)
        unfolding fired_once runs come_to runs_at
        put_next counts node less exact ready =
            sym (advance_longer meaning (graph.code node) (come_to counts node) (inputs node)
            (runs_at meaning graph counts inputs node) (come_begins counts less node)
            (ready_finds counts node exact ready))

        -- The runs with one firing more.
        put_raised : (counts : ℕ → ℕ) (node : ℕ)
            → put (runs_at meaning graph counts inputs) node
            (runs meaning (graph.code node) (suc (counts node)) (inputs node))
            ≡ runs_at meaning graph (raised counts node) inputs
        unfolding put raised runs_at
        put_raised counts node = fun_ext (λ other. at other (eqb other node) refl)
          where
            at : (other : ℕ) (test : Bool) → eqb other node ≡ test
                → cond test (runs meaning (graph.code node) (suc (counts node)) (inputs node))
                (runs meaning (graph.code other) (counts other) (inputs other))
                ≡ runs meaning (graph.code other) (cond test (suc (counts other)) (counts other))
                (inputs other)
            at other true e = ap (λ (v : ℕ). runs meaning (graph.code v) (suc (counts v))
                (inputs v))
                (sym (eqb-true other node e))
            at other false e = refl

        exact_raised : (counts : ℕ → ℕ) (node : ℕ) → IsExact counts inputs
            → (runs meaning (graph.code node) (suc (counts node)) (inputs node)).fired
            ≡ suc (counts node) → (runs meaning (graph.code node) (suc (counts node))
            (inputs node)).fault ≡ None → IsExact (raised counts node) inputs
        unfolding raised runs_at
        exact_raised counts node exact fired faultless =
            record {
              fired = λ other. fired_at other (eqb other node) refl;
              faultless =
                  λ other. fault_at other (eqb other node) refl;
            }
          where
            fired_at : (other : ℕ) (test : Bool) → eqb other node ≡ test
                → (runs meaning (graph.code other) (cond test (suc (counts other)) (counts other))
                (inputs other)).fired ≡ cond test (suc (counts other)) (counts other)
            fired_at other true e = subst (λ (v : ℕ).
                (runs meaning (graph.code v) (suc (counts v)) (inputs v)).fired ≡ suc (counts v))
                (sym (eqb-true other node e)) fired
            fired_at other false e = exact.fired other

            fault_at : (other : ℕ) (test : Bool) → eqb other node ≡ test
                → (runs meaning (graph.code other) (cond test (suc (counts other)) (counts other))
                (inputs other)).fault ≡ None
            fault_at other true e = subst (λ (v : ℕ).
                (runs meaning (graph.code v) (suc (counts v)) (inputs v)).fault ≡ None)
                (sym (eqb-true other node e)) faultless
            fault_at other false e = exact.faultless other

        -- What an order's firings come to: the equations' runs and no fault among the order's
        -- firings, or the order's first fault.
        abbrev pub Tells : (ℕ → ℕ) → List ℕ → Progress State Cause Word → Type 0
        Tells counts order (Went now) = (now ≡ runs_at meaning graph (counted counts order) inputs)
            × IsExact (counted counts order) inputs
            × (first_fault (runs_at meaning graph all inputs) counts order ≡ None)
        Tells counts order (Stopped stop) =
            first_fault (runs_at meaning graph all inputs) counts order ≡ Some stop

        no_stop : (node firing fired : ℕ) (fault : Option Cause) → firing < fired
            → stop_at node firing fired fault ≡ None
        unfolding stop_at
        no_stop node firing fired None less = refl
        no_stop node firing fired (Some cause) less =
            ap (λ (t : Bool). cond {A = Option (Stop Cause)} t
            (Some (record { node = node; firing = firing; cause = cause })) None)
            (ne_eqb fired firing (λ e. omega arith))

        this_stop : (node firing fired : ℕ) (cause : Cause) → fired ≡ firing
            → stop_at node firing fired (Some cause)
            ≡ Some (record { node = node; firing = firing; cause = cause })
        unfolding stop_at
        this_stop node firing fired cause e =
            ap (λ (t : Bool). cond {A = Option (Stop Cause)} t
            (Some (record { node = node; firing = firing; cause = cause })) None)
            (eq-eqb fired firing e)

        tells_on : (counts : ℕ → ℕ) (node : ℕ) (order : List ℕ)
            → stop_at node (counts node) (runs_at meaning graph all inputs node).fired
            (runs_at meaning graph all inputs node).fault ≡ None
            → (progress : Progress State Cause Word) → Tells (raised counts node) order progress
            → Tells counts (node ∷ order) progress
        unfolding first_fault counted or_else
        tells_on counts node order none (Went now) t = (
          t.0,
          t.1,
          ap (λ (o : Option (Stop Cause)). or_else o
              (first_fault (runs_at meaning graph all inputs) (raised counts node) order)) none ∙
              t.2,
        )
        tells_on counts node order none (Stopped stop) t =
            ap (λ (o : Option (Stop Cause)). or_else o
            (first_fault (runs_at meaning graph all inputs) (raised counts node) order)) none ∙ t

        tells_fault : (counts : ℕ → ℕ) (node : ℕ) (order : List ℕ) (stop : Stop Cause)
            → stop_at node (counts node) (runs_at meaning graph all inputs node).fired
            (runs_at meaning graph all inputs node).fault ≡ Some stop
            → first_fault (runs_at meaning graph all inputs) counts (node ∷ order) ≡ Some stop
        unfolding first_fault or_else
        tells_fault counts node order stop e =
            ap (λ (o : Option (Stop Cause)). or_else o
            (first_fault (runs_at meaning graph all inputs) (raised counts node) order)) e

        next_counts : (counts : ℕ → ℕ) (node : ℕ) → ((other : ℕ) → counts other ≤ all other)
            → IsExact counts inputs → IsReady meaning graph input counts node
            → ((runs meaning (graph.code node) (suc (counts node)) (inputs node)).fault ≡ None
            → (runs meaning (graph.code node) (suc (counts node)) (inputs node)).fired
            ≡ suc (counts node)) × ((cause : Cause)
            → (runs meaning (graph.code node) (suc (counts node)) (inputs node)).fault ≡ Some cause
            → (runs meaning (graph.code node) (suc (counts node)) (inputs node)).fired ≡ counts
            node)
        unfolding runs runs_at
        next_counts counts node less exact ready =
            let found = finds_longer meaning (graph.code node)
            (runs_at meaning graph counts inputs node).fired (come_to counts node) (inputs node)
            (come_begins counts less node) (ready_finds counts node exact ready) in
            let next = advance_counts meaning (graph.code node) (inputs node)
            (runs_at meaning graph counts inputs node) (exact.faultless node) found in (
              λ e. next.0 e ∙ ap suc (exact.fired node),
              λ cause e. next.1 cause e ∙ exact.fired
                  node,
            )

        -- An order stops exactly at its first fault.
        pub run_tells : (order : List ℕ) (counts : ℕ → ℕ) → IsExact counts inputs
            → IsOrder meaning graph input counts order
            → ((node : ℕ) → counted counts order node ≤ all node)
            → Tells counts order (go meaning graph input order
            (runs_at meaning graph counts inputs))
        unfolding go counted first_fault unless_faulted runs_at
        run_tells [] counts exact valid less = (refl, exact, refl)
        run_tells (node ∷ order) counts exact valid less =
            rw (put_next counts node (below counts less) exact valid.0)
            (rw (put_raised counts node)
            (by_fault (runs meaning (graph.code node) (suc (counts node)) (inputs node)).fault refl
            (λ next. run_tells order (raised counts node) next valid.1 less)))
          where
            below : (c : ℕ → ℕ) → ((v : ℕ) → counted c (node ∷ order) v ≤ all v) → (other : ℕ)
                → c other ≤ all other
            below c h other = omega (arith, h other, counted_grows (node ∷ order) c other)

            here : suc (counts node) ≤ all node
            here = omega (
              arith,
              less node,
              counted_grows order (raised counts node) node,
              raised_here counts node,
            )

            counted_next : ((runs meaning (graph.code node) (suc (counts node)) (inputs node)).fault
                ≡ None → (runs meaning (graph.code node) (suc (counts node)) (inputs node)).fired
                ≡ suc (counts node)) × ((cause : Cause)
                → (runs meaning (graph.code node) (suc (counts node)) (inputs node)).fault
                ≡ Some cause → (runs meaning (graph.code node) (suc (counts node))
                (inputs node)).fired ≡ counts node)
            counted_next = next_counts counts node (below counts less) exact valid.0

            by_fault :
                (fault : Option Cause)
                → (runs meaning (graph.code node) (suc (counts node)) (inputs node)).fault ≡ fault
                → (IsExact (raised counts node) inputs
                → Tells (raised counts node) order
                (go meaning graph input order (runs_at meaning graph (raised counts node) inputs)))
                → Tells counts (node ∷ order)
                (unless_faulted node (runs meaning (graph.code node) (suc (counts node))
                (inputs node)) fault (go meaning graph input order
                (runs_at meaning graph (raised counts node) inputs)))
            by_fault None e ih =
                tells_on counts node order
                (no_stop node (counts node) (runs_at meaning graph all inputs node).fired
                (runs_at meaning graph all inputs node).fault
                (omega (
                  arith,
                  fired_grows meaning (graph.code node) (inputs node) (suc (counts node))
                      (all node) here,
                  counted_next.0 e,
                )))
                (go meaning graph input order (runs_at meaning graph (raised counts node) inputs))
                (ih (exact_raised counts node exact (counted_next.0 e) e))
            by_fault (Some cause) e ih =
                tells_fault counts node order
                (record {
                  node = node;
                  firing =
                      (runs meaning (graph.code node) (suc (counts node)) (inputs node)).fired;
                  cause =
                      cause;
                })
                (ap (λ (r : Run State Cause Word). stop_at node (counts node) r.fired r.fault)
                (runs_faulted meaning (graph.code node) (inputs node) (suc (counts node))
                (all node) cause here e)
                ∙ ap (λ (f : Option Cause). stop_at node (counts node)
                (runs meaning (graph.code node) (suc (counts node)) (inputs node)).fired f) e
                ∙ this_stop node (counts node)
                (runs meaning (graph.code node) (suc (counts node)) (inputs node)).fired cause
                (counted_next.1 cause e)
                ∙ ap {A = ℕ} {B = Option (Stop Cause)}
                (λ f. Some (record { node = node; firing = f; cause = cause }))
                (sym (counted_next.1 cause e)))
