-- How often nodes occur in orders.
use Rattle.std.proofs.Common.{◌≡◌, refl, sym, ap, ◌∙◌, ℕ, suc, ◌+◌, ◌<◌}
use Rattle.std.proofs.Common.{Bool, true, false, cond, eqb, List, [], ◌∷◌, ◌++◌, arith, eqb-true}
use Rattle.std.proofs.lemmas.Bool.{eq-eqb}
use Rattle.strc_elab_dataflow.specs.Order.{raised, firing_count}

pub count_here : (node : ℕ) (order : List ℕ)
    → firing_count (node ∷ order) node ≡ suc (firing_count order node)
unfolding firing_count raised
count_here node order =
    ap (λ (t : Bool). cond t (suc (firing_count order node)) (firing_count order node))
    (eq-eqb node node refl)

pub count_other : (node v : ℕ) (order : List ℕ) → eqb v node ≡ false
    → firing_count (node ∷ order) v ≡ firing_count order v
unfolding firing_count raised
count_other node v order e =
    ap (λ (t : Bool). cond t (suc (firing_count order v)) (firing_count order v)) e

-- A node's occurrence at the front adds one to its own count and nothing to others'.
unfoldable pub one : ℕ → ℕ → ℕ
one node v = cond (eqb v node) 1 0

pub count_front : (node v : ℕ) (order : List ℕ)
    → firing_count (node ∷ order) v ≡ one node v + firing_count order v
unfolding firing_count raised one
count_front node v order = by_test (eqb v node)
  where
    by_test : (t : Bool) → cond t (suc (firing_count order v)) (firing_count order v)
        ≡ cond t 1 0 + firing_count order v
    by_test true = omega arith
    by_test false = omega arith

pub count_none : (v : ℕ) → firing_count [] v ≡ 0
unfolding firing_count
count_none v = refl

pub count_append : (xs ys : List ℕ) (v : ℕ)
    → firing_count (xs ++ ys) v ≡ firing_count xs v + firing_count ys v
count_append [] ys v = omega (arith, count_none v)
count_append (node ∷ xs) ys v = omega (
  arith,
  count_front node v (xs ++ ys),
  count_front node v xs,
  count_append xs ys v,
)

-- An order with a node that occurs in it, cut at its first occurrence.
pub record IsCutAt (node : ℕ) (order : List ℕ) : Type 0 where
  pub before : List ℕ
  pub after : List ℕ
  pub is : order ≡ before ++ (node ∷ after)
  pub away : firing_count before node ≡ 0

pub cut_at : (node : ℕ) (order : List ℕ) → 0 < firing_count order node → IsCutAt node order
cut_at node [] some = absurd (omega (arith, count_none node))
cut_at node (first ∷ order) some = by_test (cut_at node order) (eqb node first) refl
  where
    by_test : (0 < firing_count order node → IsCutAt node order) → (test : Bool)
        → eqb node first ≡ test → IsCutAt node (first ∷ order)
    by_test ih true e = record {
      before = [];
      after = order;
      is = ap (λ (v : ℕ). v ∷ order) (sym (eqb-true node first e));
      away = count_none node;
    }
    by_test ih false e =
        let rest : IsCutAt node order = ih (omega (arith, count_other first node order e)) in
        record {
          before = first ∷ rest.before;
          after = rest.after;
          is = ap (λ (l : List ℕ). first ∷ l) rest.is;
          away = count_other first node rest.before e ∙ rest.away;
        }
