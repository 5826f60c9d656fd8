-- The units of a batch fire each group's firings so many times over.
use Rattle.std.proofs.Common.{◌≡◌, refl, sym, ap, ◌∙◌, ℕ, zero, suc, ◌+◌, ◌*◌, ◌<◌}
use Rattle.std.proofs.Common.{List, [], ◌∷◌, ◌++◌, arith, append_assoc, append-nil}
use Rattle.strc_elab_dataflow.specs.Fused as turns
use Rattle.strc_elab_dataflow.specs.FusedUnits.{RoundUnit, firings_of}
use Rattle.strc_elab_dataflow.specs.Staging.{joined, repeated}
use Rattle.strc_elab_dataflow.proofs.Links.{repeated_add}
use Rattle.strc_batch_laws.specs.Batches.{batched}
use Rattle.strc_batch_laws.specs.Units.{batch_units, joined_units}
use Rattle.strc_batch_laws.specs.Units.{BatchUnitsAreBatch}

-- A list of nodes so many times, counted from either end.
last_first : (t : ℕ) (xs : List ℕ) → turns.repeated t xs ++ xs ≡ xs ++ turns.repeated t xs
last_first zero xs = sym (append-nil xs)
last_first (suc t) xs = append_assoc xs (turns.repeated t xs) xs
    ∙ ap (λ (l : List ℕ). xs ++ l) (last_first t xs)

either_end : (t : ℕ) (xs : List ℕ) → turns.repeated t xs ≡ repeated t xs
unfolding repeated
either_end zero xs = refl
either_end (suc t) xs = sym (last_first t xs)
    ∙ ap (λ (l : List ℕ). l ++ xs) (either_end t xs)

times_over : (b t : ℕ) (xs : List ℕ)
    → turns.repeated (b * t) xs ≡ repeated b (turns.repeated t xs)
unfolding repeated
times_over zero t xs = ap (λ (n : ℕ). turns.repeated n xs) (let e : 0 * t ≡ 0 = omega arith in e)
times_over (suc b) t xs =
    ap (λ (n : ℕ). turns.repeated n xs) (let e : suc b * t ≡ b * t + t = omega arith in e)
    ∙ repeated_add (b * t) t xs
    ∙ ap (λ (l : List ℕ). l ++ turns.repeated t xs) (times_over b t xs)

none_repeated : (b : ℕ) → [] ≡ repeated b []
unfolding repeated
none_repeated zero = refl
none_repeated (suc b) = none_repeated b ∙ sym (append-nil (repeated b []))

firings_append : (xs ys : List RoundUnit)
    → firings_of (xs ++ ys) ≡ firings_of xs ++ firings_of ys
firings_append [] ys = refl
firings_append (unit ∷ xs) ys =
    ap (λ (l : List ℕ). turns.repeated unit.turns unit.nodes ++ l) (firings_append xs ys)
    ∙ sym (append_assoc (turns.repeated unit.turns unit.nodes) (firings_of xs) (firings_of ys))

group_fires : (b : ℕ) (units : List RoundUnit)
    → firings_of (batch_units b units) ≡ repeated b (firings_of units)
group_fires b [] = none_repeated b
group_fires b (unit ∷ []) =
    append-nil (turns.repeated (b * unit.turns) unit.nodes)
    ∙ times_over b unit.turns unit.nodes
    ∙ ap (repeated b) (sym (append-nil (turns.repeated unit.turns unit.nodes)))
group_fires b (unit ∷ (next ∷ rest)) =
    append-nil (turns.repeated b (firings_of (unit ∷ (next ∷ rest))))
    ∙ either_end b (firings_of (unit ∷ (next ∷ rest)))

batch_fires : (group : ℕ → List RoundUnit) (segment : ℕ → List ℕ) (b a : ℕ)
    → ((i : ℕ) → i < a → firings_of (group i) ≡ segment i)
    → firings_of (joined_units (λ i. batch_units b (group i)) a) ≡ joined (batched b segment) a
unfolding joined
batch_fires group segment b zero same = refl
batch_fires group segment b (suc a) same =
    firings_append (joined_units (λ i. batch_units b (group i)) a) (batch_units b (group a))
    ∙ ap (λ (l : List ℕ). l ++ firings_of (batch_units b (group a)))
    (batch_fires group segment b a (λ i less. same i (omega arith)))
    ∙ ap (λ (l : List ℕ). joined (batched b segment) a ++ l)
    (group_fires b (group a) ∙ ap (repeated b) (same a (omega arith)))

pub units_law : BatchUnitsAreBatch
units_law group segment groups b same = batch_fires group segment b groups same
