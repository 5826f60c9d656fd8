-- The firings of nodes that can be dealt, by how they are named.
use Rattle.std.proofs.Common.{◌≡◌, ap, ◌∙◌, ℕ, ◌≤◌, ◌||◌, arith, Bool, true, false}
use Rattle.std.proofs.Common.{cond, not, List, slice_get, Option, inl, inr}
use Rattle.std.proofs.lemmas.Bool.{cases_lt}
use Rattle.std.proofs.lemmas.List.{get_or_past}
use Rattle.strc_balance.specs.Balance.{count_at, IsWithinLimit}
use Rattle.strc_elab_dataflow.specs.FusedUnits.{RoundUnit}
use Rattle.strc_fuse.specs.Units.{is_outside}
use Rattle.strc_fiss.specs.Namings.{naming_of, is_all}
use Rattle.strc_fiss.specs.Numbers.{up_to}
use Rattle.strc_fiss.specs.OwnUnits.{keeps_count, dealt_count}
use Rattle.strc_fiss.specs.declared.own_units.Naming.{Naming}
use Rattle.strc_fiss.proofs.Namings.{naming_tells}
use Rattle.strc_fiss.proofs.Sequences.{get_up_to, length_up_to}

module _ (loops : List (Option ℕ)) (units : List RoundUnit) (counts : List ℕ) where
  -- a node's count by its naming
  pub count_dealt : (node count : ℕ) (naming : Naming) (given : List ℕ)
      → count ≡ cond (not (is_outside (slice_get loops node))
      || is_all (count_at given node) naming) (count_at given node) 0
      → given ≡ counts → naming ≡ naming_of node units
      → count ≡ dealt_count loops units counts node
  count_dealt node count naming given is same named =
      is
      ∙ ap (λ (l : List ℕ). cond (not (is_outside (slice_get loops node))
      || is_all (count_at l node) naming) (count_at l node) 0) same
      ∙ ap (λ (n : Naming). cond (not (is_outside (slice_get loops node))
      || is_all (count_at counts node) n) (count_at counts node) 0) named
      ∙ ap (λ (t : Bool). cond (not (is_outside (slice_get loops node)) || t)
      (count_at counts node) 0) (naming_tells (count_at counts node) node units)

  count_less : (test : Bool) (count : ℕ) → cond test count 0 ≤ count
  count_less true count = omega arith
  count_less false count = omega arith

  -- no more are dealt than there are
  pub within_limit : (size : ℕ) (dealt : List ℕ) → IsWithinLimit counts
      → dealt ≡ up_to (dealt_count loops units counts) size → IsWithinLimit dealt
  within_limit size dealt within is node = elim (cases_lt node size) [
    | inl less ↦ omega (
      arith,
      ap (λ (l : List ℕ). count_at l node) is,
      get_up_to (dealt_count loops units counts) size node 0 less,
      count_less (keeps_count loops units counts node) (count_at counts node),
      within node,
    )
    | inr past ↦ omega (
      arith,
      ap (λ (l : List ℕ). count_at l node) is,
      get_or_past (up_to (dealt_count loops units counts) size) node 0
          (omega (arith, past, length_up_to (dealt_count loops units counts) size)),
    )
  ]
