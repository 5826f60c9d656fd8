-- Orders in parts, one after another, and what they do to counts and first faults.
use Rattle.std.proofs.Common.{◌≡◌, refl, sym, ap, ◌∙◌, subst, ℕ, suc, ◌<◌, ◌≤◌}
use Rattle.std.proofs.Common.{Bool, true, false, cond, eqb, List, [], ◌∷◌, ◌++◌, ℤ, arith}
use Rattle.std.proofs.Common.{eqb-true, Option, Some, None}
use Rattle.strc_elab_dataflow.specs.Node.{Meaning, total}
use Rattle.strc_elab_dataflow.specs.Histories.{Run}
use Rattle.strc_elab_dataflow.specs.Flat.{Origin, Origin.Nowhere, Origin.Input, Origin.Port, Source}
use Rattle.strc_elab_dataflow.specs.Flat.{Graph}
use Rattle.strc_elab_dataflow.specs.Order.{raised, counted, firing_count, supply_of, supply}
use Rattle.strc_elab_dataflow.specs.Order.{IsReady, IsOrder}
use Rattle.strc_elab_dataflow.specs.Machine.{Stop, stop_at, or_else, first_fault}
use Rattle.strc_elab_dataflow.specs.Queues.{TakesWithinWindow}
use Rattle.strc_elab_dataflow.proofs.WholeRun.{counted-firing_count}
use Rattle.strc_elab_dataflow.specs.Cut.{kept, AllIn, HasFaultIn, IsFaultlessIn}

pub counted_append : (xs ys : List ℕ) (counts : ℕ → ℕ)
    → counted counts (xs ++ ys) ≡ counted (counted counts xs) ys
unfolding counted
counted_append [] ys counts = refl
counted_append (node ∷ xs) ys counts = counted_append xs ys (raised counts node)

-- Counts that agree at a node agree there after an order.
pub counted_same : (order : List ℕ) (c d : ℕ → ℕ) (v : ℕ) → c v ≡ d v
    → counted c order v ≡ counted d order v
counted_same order c d v e = omega (
  arith,
  counted-firing_count order c v,
  counted-firing_count order d v,
  e,
)

module _ (part : ℕ → Bool) where
  pub kept_append : (xs ys : List ℕ) → kept part (xs ++ ys) ≡ kept part xs ++ kept part ys
  unfolding kept
  kept_append [] ys = refl
  kept_append (node ∷ xs) ys = by_test (kept_append xs ys) (part node)
    where
      by_test : kept part (xs ++ ys) ≡ kept part xs ++ kept part ys → (here : Bool)
          → cond here (node ∷ kept part (xs ++ ys)) (kept part (xs ++ ys))
          ≡ cond here (node ∷ kept part xs) (kept part xs) ++ kept part ys
      by_test ih true = ap (λ (l : List ℕ). node ∷ l) ih
      by_test ih false = ih

  pub kept_all : (order : List ℕ) → AllIn part order → kept part order ≡ order
  unfolding kept
  kept_all [] all = refl
  kept_all (node ∷ order) all =
      ap (λ (t : Bool). cond t (node ∷ kept part order) (kept part order)) all.0
      ∙ ap (λ (l : List ℕ). node ∷ l) (kept_all order all.1)

  pub all_append : (xs ys : List ℕ) → AllIn part xs → AllIn part ys → AllIn part (xs ++ ys)
  all_append [] ys xs_in ys_in = ys_in
  all_append (node ∷ xs) ys xs_in ys_in = (xs_in.0, all_append xs ys xs_in.1 ys_in)

  pub all_front : (xs ys : List ℕ) → AllIn part (xs ++ ys) → AllIn part xs
  all_front [] ys all = tt
  all_front (node ∷ xs) ys all = (all.0, all_front xs ys all.1)

  -- A node outside a part isn't in an order of its nodes.
  pub counted_away : (order : List ℕ) → AllIn part order → (v : ℕ) → part v ≡ false
      → firing_count order v ≡ 0
  unfolding firing_count raised
  counted_away [] all v outside = refl
  counted_away (node ∷ order) all v outside = by_test (counted_away order all.1 v outside)
      (eqb v node) refl
    where
      by_test : firing_count order v ≡ 0 → (same : Bool) → eqb v node ≡ same
          → cond same (suc (firing_count order v)) (firing_count order v) ≡ 0
      by_test ih false e = ih
      by_test ih true e = absurd (let g : true ≡ false =
          sym all.0 ∙ ap part (sym (eqb-true v node e)) ∙ outside in grind arith)

pub all_mapped : (p q : ℕ → Bool) → ((v : ℕ) → p v ≡ true → q v ≡ true) → (order : List ℕ)
    → AllIn p order → AllIn q order
all_mapped p q imply [] all = tt
all_mapped p q imply (node ∷ order) all = (imply node all.0, all_mapped p q imply order all.1)

pub kept_none : (part own : ℕ → Bool) → ((v : ℕ) → own v ≡ true → part v ≡ false)
    → (order : List ℕ) → AllIn own order → kept part order ≡ []
unfolding kept
kept_none part own away [] all = refl
kept_none part own away (node ∷ order) all =
    ap (λ (t : Bool). cond t (node ∷ kept part order) (kept part order)) (away node all.0)
    ∙ kept_none part own away order all.1

module _ {Cause : Type 0} where
  pub or_else_assoc : (a b c : Option (Stop Cause))
      → or_else a (or_else b c) ≡ or_else (or_else a b) c
  unfolding or_else
  or_else_assoc (Some x) b c = refl
  or_else_assoc None b c = refl

  none_at : (node firing fired : ℕ) (fault : Option Cause) → fault ≡ None
      → stop_at node firing fired fault ≡ None
  unfolding stop_at
  none_at node firing fired None e = refl
  none_at node firing fired (Some cause) e = absurd (grind arith)

module _ {State Cause Word : Type 0} where
  pub first_fault_append : (all : ℕ → Run State Cause Word) (xs ys : List ℕ) (counts : ℕ → ℕ)
      → first_fault all counts (xs ++ ys)
      ≡ or_else (first_fault all counts xs) (first_fault all (counted counts xs) ys)
  unfolding first_fault counted or_else
  first_fault_append all [] ys counts = refl
  first_fault_append all (node ∷ xs) ys counts =
      ap (or_else (stop_at node (counts node) (all node).fired (all node).fault))
      (first_fault_append all xs ys (raised counts node))
      ∙ or_else_assoc (stop_at node (counts node) (all node).fired (all node).fault)
      (first_fault all (raised counts node) xs)
      (first_fault all (counted (raised counts node) xs) ys)

  -- The first fault depends only on the nodes of the order.
  pub first_fault_same : (part : ℕ → Bool) (all other : ℕ → Run State Cause Word)
      → ((v : ℕ) → part v ≡ true → all v ≡ other v)
      → (order : List ℕ) → AllIn part order → (c d : ℕ → ℕ)
      → ((v : ℕ) → part v ≡ true → c v ≡ d v)
      → first_fault all c order ≡ first_fault other d order
  unfolding first_fault raised counted
  first_fault_same part all other same [] inside c d counts = refl
  first_fault_same part all other same (node ∷ order) inside c d counts =
      ap (λ (r : Run State Cause Word). or_else (stop_at node (c node) r.fired r.fault)
      (first_fault all (raised c node) order)) (same node inside.0)
      ∙ ap (λ (n : ℕ). or_else (stop_at node n (other node).fired (other node).fault)
      (first_fault all (raised c node) order)) (counts node inside.0)
      ∙ ap (or_else (stop_at node (d node) (other node).fired (other node).fault))
      (first_fault_same part all other same order inside.1 (raised c node) (raised d node)
      (λ v here. counted_same (node ∷ []) c d v (counts v here)))

  -- Where no node of an order has a fault, there is no first one.
  pub none_first : (part : ℕ → Bool) (all : ℕ → Run State Cause Word) → IsFaultlessIn part all
      → (order : List ℕ) → AllIn part order → (counts : ℕ → ℕ)
      → first_fault all counts order ≡ None
  unfolding first_fault or_else
  none_first part all fine [] inside counts = refl
  none_first part all fine (node ∷ order) inside counts =
      ap (λ (o : Option (Stop Cause)). or_else o (first_fault all (raised counts node) order))
      (none_at node (counts node) (all node).fired (all node).fault (fine node inside.0))
      ∙ none_first part all fine order inside.1 (raised counts node)

module _ {State Cause Word : Type 0} (part : ℕ → Bool) (all : ℕ → Run State Cause Word) where
  fault_by : (node firing : ℕ) (fault : Option Cause) (others : Option (Stop Cause))
      (stop : Stop Cause) → part node ≡ true → (all node).fault ≡ fault
      → (others ≡ Some stop → HasFaultIn part all)
      → or_else (stop_at node firing (all node).fired fault) others ≡ Some stop
      → HasFaultIn part all
  unfolding or_else stop_at
  fault_by node firing None others stop inside e later h = later h
  fault_by node firing (Some cause) others stop inside e later h =
      record { node = node; cause = cause; inside = inside; is = e }

  -- A first fault is a fault of a node of the order.
  pub fault_among : (order : List ℕ) → AllIn part order → (counts : ℕ → ℕ) (stop : Stop Cause)
      → first_fault all counts order ≡ Some stop → HasFaultIn part all
  unfolding first_fault
  fault_among [] inside counts stop h = absurd (grind arith)
  fault_among (node ∷ order) inside counts stop h =
      fault_by node (counts node) (all node).fault (first_fault all (raised counts node) order)
      stop inside.0 refl (fault_among order inside.1 (raised counts node) stop) h

module _ {Code State Cause Word : Type 0} (meaning : Meaning Code State Cause Word)
    (graph : Graph Code) (input : List ℤ) where
  pub order_front : (xs ys : List ℕ) (counts : ℕ → ℕ)
      → IsOrder meaning graph input counts (xs ++ ys)
      → IsOrder meaning graph input counts xs
  order_front [] ys counts valid = tt
  order_front (node ∷ xs) ys counts valid =
      (valid.0, order_front xs ys (raised counts node) valid.1)

  pub order_rest : (xs ys : List ℕ) (counts : ℕ → ℕ)
      → IsOrder meaning graph input counts (xs ++ ys)
      → IsOrder meaning graph input (counted counts xs) ys
  unfolding counted
  order_rest [] ys counts valid = valid
  order_rest (node ∷ xs) ys counts valid = order_rest xs ys (raised counts node) valid.1

  -- No node has taken more than came to it, by counts.
  abbrev pub IsCovered : (ℕ → ℕ) → Type 0
  IsCovered counts = (node port : ℕ) → port < meaning.ports (graph.code node)
      → total (meaning.popped (graph.code node)) (counts node) port
      ≤ supply meaning graph input counts (graph.source node port)

  total_grows : (rate : ℕ → ℕ → ℕ) (n port : ℕ) (test : Bool)
      → total rate n port ≤ total rate (cond test (suc n) n) port
  unfolding total
  total_grows rate n port true = omega arith
  total_grows rate n port false = omega arith

  supply_grows : (counts : ℕ → ℕ) (node : ℕ) (source : Source)
      → supply meaning graph input counts source
      ≤ supply meaning graph input (raised counts node) source
  unfolding supply supply_of raised
  supply_grows counts node source = omega (arith, by_origin source.origin)
    where
      by_origin : (origin : Origin) → supply_of meaning graph input counts origin
          ≤ supply_of meaning graph input (raised counts node) origin
      by_origin Nowhere = omega arith
      by_origin Input = omega arith
      by_origin (Port u q) = total_grows (meaning.pushed (graph.code u)) (counts u) q (eqb u node)

  module _ (takes_within : TakesWithinWindow meaning graph) where
    pub covered_next : (counts : ℕ → ℕ) (node : ℕ) → IsCovered counts
        → IsReady meaning graph input counts node → IsCovered (raised counts node)
    unfolding raised total
    covered_next counts node covered ready v port less =
        by_test (eqb v node) refl (supply_grows counts node (graph.source v port))
      where
        by_test : (same : Bool) → eqb v node ≡ same
            → supply meaning graph input counts (graph.source v port)
            ≤ supply meaning graph input (raised counts node) (graph.source v port)
            → total (meaning.popped (graph.code v)) (cond same (suc (counts v)) (counts v)) port
            ≤ supply meaning graph input (raised counts node) (graph.source v port)
        by_test false e grows = omega (arith, covered v port less, grows)
        by_test true e grows =
            let here = subst (IsReady meaning graph input counts) (sym (eqb-true v node e)) ready in
            omega (arith, here port less, takes_within v (counts v) port less, grows)

    -- A valid order keeps it.
    pub covered_on : (order : List ℕ) (counts : ℕ → ℕ) → IsCovered counts
        → IsOrder meaning graph input counts order → IsCovered (counted counts order)
    unfolding counted
    covered_on [] counts covered valid = covered
    covered_on (node ∷ order) counts covered valid = covered_on order (raised counts node)
        (covered_next counts node covered valid.0) valid.1

  pub covered_first : IsCovered (λ node. 0)
  unfolding total
  covered_first node port less = omega arith
