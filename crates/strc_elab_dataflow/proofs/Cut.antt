-- A closed part of the nodes, run alone: its counts, orders and inputs are a schedule and a
-- solution of the same graph, and its nodes have the same runs.
use Rattle.std.proofs.Common.{◌≡◌, refl, sym, ap, ◌∙◌, subst, ℕ, suc, ◌+◌, ◌*◌}
use Rattle.std.proofs.Common.{Bool, true, false, cond, eqb, List, [], ◌∷◌, ◌++◌, length, ℤ, arith}
use Rattle.std.proofs.Common.{eqb-true}
use mathlib.Core.Path.{fun_ext}
use Rattle.strc_elab_dataflow.specs.Node.{ByPort, Meaning, total}
use Rattle.strc_elab_dataflow.specs.Histories.{Run, runs, initial_run}
use Rattle.strc_elab_dataflow.specs.Flat.{Origin, Origin.Nowhere, Origin.Input, Origin.Port, Source}
use Rattle.strc_elab_dataflow.specs.Flat.{Graph, items_of, arrived, runs_at, Solves}
use Rattle.strc_elab_dataflow.specs.Order.{raised, firing_count, counts_after, supply_of}
use Rattle.strc_elab_dataflow.specs.Order.{supply, IsReady, IsOrder}
use Rattle.strc_elab_dataflow.specs.Cut.{cut, kept, IsFrom, IsClosed}

module _ (part : ℕ → Bool) where
  pub cut_in : (counts : ℕ → ℕ) (v : ℕ) → part v ≡ true → cut part counts v ≡ counts v
  unfolding cut
  cut_in counts v inside = ap (λ (t : Bool). cond t (counts v) 0) inside

  pub cut_out : (counts : ℕ → ℕ) (v : ℕ) → part v ≡ false → cut part counts v ≡ 0
  unfolding cut
  cut_out counts v outside = ap (λ (t : Bool). cond t (counts v) 0) outside

  pub cut_zero : (v : ℕ) → cut part (λ u. 0) v ≡ 0
  unfolding cut
  cut_zero v = by_test (part v)
    where
      by_test : (test : Bool) → ◌≡◌ {A = ℕ} (cond test 0 0) 0
      by_test true = refl
      by_test false = refl

  raised_cut : (counts : ℕ → ℕ) (node : ℕ) → part node ≡ true
      → cut part (raised counts node) ≡ raised (cut part counts) node
  unfolding cut raised
  raised_cut counts node inside = fun_ext (λ v. by_test v (part v) refl (eqb v node) refl)
    where
      by_test : (v : ℕ) (here : Bool) → part v ≡ here → (same : Bool) → eqb v node ≡ same
          → cond here (cond same (suc (counts v)) (counts v)) 0
          ≡ cond same (suc (cond here (counts v) 0)) (cond here (counts v) 0)
      by_test v true e same f = refl
      by_test v false e false f = refl
      by_test v false e true f = absurd (let g : true ≡ false =
          sym inside ∙ ap part (sym (eqb-true v node f)) ∙ e in grind arith)

  raised_away : (counts : ℕ → ℕ) (node : ℕ) → part node ≡ false
      → cut part (raised counts node) ≡ cut part counts
  unfolding cut raised
  raised_away counts node outside = fun_ext (λ v. by_test v (part v) refl (eqb v node) refl)
    where
      by_test : (v : ℕ) (here : Bool) → part v ≡ here → (same : Bool) → eqb v node ≡ same
          → cond here (cond same (suc (counts v)) (counts v)) 0 ≡ cond here (counts v) 0
      by_test v false e same f = refl
      by_test v true e false f = refl
      by_test v true e true f = absurd (let g : true ≡ false =
          sym e ∙ ap part (eqb-true v node f) ∙ outside in grind arith)

  -- The firings kept are those of the part's nodes.
  pub kept_count : (order : List ℕ) (v : ℕ)
      → firing_count (kept part order) v ≡ cut part (firing_count order) v
  unfolding kept firing_count
  kept_count [] v = sym (cut_zero v)
  kept_count (node ∷ order) v = by_test (fun_ext (kept_count order)) (part node) refl
    where
      by_test : firing_count (kept part order) ≡ cut part (firing_count order)
          → (here : Bool) → part node ≡ here
          → firing_count (cond here (node ∷ kept part order) (kept part order)) v
          ≡ cut part (raised (firing_count order) node) v
      by_test ih true e = ap (λ (f : ℕ → ℕ). raised f node v) ih
          ∙ ap (λ (f : ℕ → ℕ). f v) (sym (raised_cut (firing_count order) node e))
      by_test ih false e = ap (λ (f : ℕ → ℕ). f v) ih
          ∙ ap (λ (f : ℕ → ℕ). f v) (sym (raised_away (firing_count order) node e))

  pub cut_counts : (startup round : ℕ → ℕ) (t : ℕ)
      → counts_after (cut part startup) (cut part round) t ≡ cut part (counts_after startup round t)
  unfolding counts_after cut
  cut_counts startup round t = fun_ext (λ v. by_test v (part v))
    where
      by_test : (v : ℕ) (here : Bool) → cond here (startup v) 0 + t * cond here (round v) 0
          ≡ cond here (startup v + t * round v) 0
      by_test v true = refl
      by_test v false = omega arith

module _ {Code State Cause Word : Type 0} (meaning : Meaning Code State Cause Word)
    (graph : Graph Code) (input : List ℤ) (part : ℕ → Bool) where
  -- What comes from a part is the same where its nodes' runs are.
  pub arrived_same : (now other : ℕ → Run State Cause Word)
      → ((u : ℕ) → part u ≡ true → now u ≡ other u)
      → (source : Source) → IsFrom part source.origin
      → arrived input now source ≡ arrived input other source
  unfolding arrived items_of
  arrived_same now other same source inside =
      ap (λ (l : List ℤ). source.enqueued ++ l) (by_origin source.origin inside)
    where
      by_origin : (origin : Origin) → IsFrom part origin
          → items_of input now origin ≡ items_of input other origin
      by_origin Nowhere from = refl
      by_origin Input from = refl
      by_origin (Port u q) from = ap (λ (r : Run State Cause Word). r.pushes q) (same u from)

  supply_same : (counts : ℕ → ℕ) (source : Source) → IsFrom part source.origin
      → supply meaning graph input (cut part counts) source ≡ supply meaning graph input counts
      source
  unfolding supply supply_of
  supply_same counts source inside =
      ap (λ (n : ℕ). length source.enqueued + n) (by_origin source.origin inside)
    where
      by_origin : (origin : Origin) → IsFrom part origin
          → supply_of meaning graph input (cut part counts) origin
          ≡ supply_of meaning graph input counts origin
      by_origin Nowhere from = refl
      by_origin Input from = refl
      by_origin (Port u q) from = ap (λ (n : ℕ). total (meaning.pushed (graph.code u)) n q)
          (cut_in part counts u from)

  pub runs_in : (counts : ℕ → ℕ) (inputs : ℕ → ByPort) (v : ℕ) → part v ≡ true
      → runs_at meaning graph (cut part counts) inputs v ≡ runs_at meaning graph counts inputs v
  unfolding runs_at
  runs_in counts inputs v inside = ap (λ (n : ℕ). runs meaning (graph.code v) n (inputs v))
      (cut_in part counts v inside)

  pub runs_out : (counts : ℕ → ℕ) (inputs : ℕ → ByPort) (v : ℕ) → part v ≡ false
      → runs_at meaning graph (cut part counts) inputs v ≡ initial_run meaning (graph.code v)
  unfolding runs_at runs
  runs_out counts inputs v outside = ap (λ (n : ℕ). runs meaning (graph.code v) n (inputs v))
      (cut_out part counts v outside)

  -- The inputs where the part runs alone.
  unfoldable pub cut_inputs : (counts : ℕ → ℕ) (inputs : ℕ → ByPort) → ℕ → ByPort
  cut_inputs counts inputs v port =
      arrived input (runs_at meaning graph (cut part counts) inputs) (graph.source v port)

  module _ (closed : IsClosed graph part) where
    -- Each firing that is kept finds its windows.
    pub kept_order : (order : List ℕ) (counts : ℕ → ℕ) → IsOrder meaning graph input counts order
        → IsOrder meaning graph input (cut part counts) (kept part order)
    unfolding kept
    kept_order [] counts valid = tt
    kept_order (node ∷ order) counts valid =
        by_test (kept_order order (raised counts node) valid.1) (part node) refl
      where
        ready : part node ≡ true → IsReady meaning graph input (cut part counts) node
        ready inside port less = rw (cut_in part counts node inside)
            (rw (supply_same counts (graph.source node port) (closed node port inside))
            (valid.0 port less))

        by_test : IsOrder meaning graph input (cut part (raised counts node)) (kept part order)
            → (here : Bool) → part node ≡ here → IsOrder meaning graph input (cut part counts)
            (cond here (node ∷ kept part order) (kept part order))
        by_test later true e = (
          ready e,
          subst (λ (c : ℕ → ℕ). IsOrder meaning graph input c (kept part order))
              (raised_cut part counts node e) later,
        )
        by_test later false e = subst (λ (c : ℕ → ℕ). IsOrder meaning graph input c
            (kept part order)) (raised_away part counts node e) later

    module _ (counts : ℕ → ℕ) (inputs : ℕ → ByPort)
        (solves : Solves meaning graph counts input inputs) where
      inputs_same : (v : ℕ) → part v ≡ true → cut_inputs counts inputs v ≡ inputs v
      unfolding cut_inputs
      inputs_same v inside = fun_ext (λ port.
          arrived_same (runs_at meaning graph (cut part counts) inputs)
          (runs_at meaning graph counts inputs) (runs_in counts inputs) (graph.source v port)
          (closed v port inside) ∙ sym (solves v port))

      cut_same : runs_at meaning graph (cut part counts) (cut_inputs counts inputs)
          ≡ runs_at meaning graph (cut part counts) inputs
      unfolding runs_at
      cut_same = fun_ext (λ v. by_test v (part v) refl)
        where
          by_test : (v : ℕ) (here : Bool) → part v ≡ here
              → runs_at meaning graph (cut part counts) (cut_inputs counts inputs) v
              ≡ runs_at meaning graph (cut part counts) inputs v
          by_test v true e = ap (λ (xs : ByPort). runs meaning (graph.code v)
              (cut part counts v) xs) (inputs_same v e)
          by_test v false e = runs_out counts (cut_inputs counts inputs) v e
              ∙ sym (runs_out counts inputs v e)

      -- They solve the equations at the part's counts.
      pub cut_solves : Solves meaning graph (cut part counts) input (cut_inputs counts inputs)
      unfolding cut_inputs
      cut_solves v port = ap (λ (now : ℕ → Run State Cause Word).
          arrived input now (graph.source v port)) (sym cut_same)

      -- The part's nodes have the same runs.
      pub part_runs : (v : ℕ) → part v ≡ true
          → runs_at meaning graph (cut part counts) (cut_inputs counts inputs) v
          ≡ runs_at meaning graph counts inputs v
      part_runs v inside = ap (λ (f : ℕ → Run State Cause Word). f v) cut_same
          ∙ runs_in counts inputs v inside
