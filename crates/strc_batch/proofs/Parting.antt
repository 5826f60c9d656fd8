-- The units of a round, parted into groups one by one.
use Rattle.std.proofs.Common.{◌≡◌, ◌≢◌, sym, ap, ◌∙◌, subst, ℕ, suc, ◌+◌, ◌<◌, ◌≤◌, List, []}
use Rattle.std.proofs.Common.{◌∷◌, ◌++◌, length, map, get_or, set, drop, arith, add-one, Bool, true}
use Rattle.std.proofs.Common.{false, cond, drop-cons, append_assoc, append-nil, inl, inr}
use Rattle.std.specs.Prelude.{replicate, slice_index}
use Rattle.std.specs.List.{range_with_len}
use Rattle.std.proofs.lemmas.Bool.{cases_order}
use Rattle.std.proofs.lemmas.List.{drop_all, get_or-replicate, get_or-set_other, get_or-set_same}
use Rattle.std.proofs.lemmas.List.{length-replicate, length-set}
use Rattle.std.proofs.lemmas.List.FromFn.{fill_by_all}
use Rattle.strc_elab_dataflow.specs.FusedUnits.{RoundUnit}
use Rattle.strc_fuse.specs.Units.{round_unit, round_units}
use Rattle.strc_sched_rings.specs.Parts.{is_within}
use Rattle.strc_stage_plan.specs.Cuts.{units_within}
use Rattle.strc_sched_orders.specs.declared.unit as unit_type

abbrev pub node_of : unit_type.Unit.Unit → ℕ
node_of unit = slice_index unit.nodes.items 0

module _ (bound : ℕ → ℕ) (last : ℕ) (round : List unit_type.Unit.Unit) where
  abbrev pub own_units : (group : ℕ) → List unit_type.Unit.Unit → List RoundUnit
  own_units group rest = round_units (units_within (bound group) (bound (suc group)) rest)

  abbrev is_in : (group node : ℕ) → Bool
  is_in group node = is_within (bound group) (bound (suc group)) node

  -- Each group has those of its units that come before a place.
  pub record AreParted (place : ℕ) (groups : List (List RoundUnit)) : Type 0 where
    pub each : length groups ≡ suc last
    pub own : (group : ℕ) → group ≤ last
        → get_or groups group [] ++ own_units group (drop place round) ≡ own_units group round

  pub none_parted : (groups : List (List RoundUnit)) → groups ≡ replicate (suc last) []
      → AreParted 0 groups
  none_parted groups is = record {
    each = ap length is ∙ length-replicate (suc last) [];
    own = λ group most.
        ap (λ (l : List (List RoundUnit)). get_or l group [] ++ own_units group round) is
        ∙ ap (λ (l : List RoundUnit). l ++ own_units group round)
        (get_or-replicate (suc last) group [] [] (omega (arith, most)));
  }

  pub all_parted : (place : ℕ) (groups : List (List RoundUnit)) → length round ≤ place
      → AreParted place groups
      → groups ≡ map (λ (group : ℕ). own_units group round) (range_with_len 0 (suc last))
  all_parted place groups past parted =
      fill_by_all (λ (group : ℕ). own_units group round) groups (suc last) [] parted.each
      (λ group less.
      sym (append-nil (get_or groups group []))
      ∙ ap (λ (l : List unit_type.Unit.Unit). get_or groups group [] ++ own_units group l)
      (sym (drop_all place round past))
      ∙ parted.own group (omega (arith, less)))

  module _ (place : ℕ) (unit : unit_type.Unit.Unit) (less : place < length round)
      (is : unit ≡ get_or round place unit) where
    next_is : drop place round ≡ unit ∷ drop (place + 1) round
    next_is =
        drop-cons round place unit less
        ∙ ap (λ (u : unit_type.Unit.Unit). u ∷ drop (suc place) round) (sym is)
        ∙ ap (λ (n : ℕ). unit ∷ drop n round) (sym (add-one place))

    by_test : (group : ℕ) (test : Bool) → is_in group (node_of unit) ≡ test
        → own_units group (drop place round)
        ≡ cond test (round_unit unit ∷ own_units group (drop (place + 1) round))
        (own_units group (drop (place + 1) round))
    by_test group true e =
        ap (own_units group) next_is
        ∙ ap (λ (t : Bool). round_units (cond t
        (unit ∷ units_within (bound group) (bound (suc group)) (drop (place + 1) round))
        (units_within (bound group) (bound (suc group)) (drop (place + 1) round)))) e
    by_test group false e =
        ap (own_units group) next_is
        ∙ ap (λ (t : Bool). round_units (cond t
        (unit ∷ units_within (bound group) (bound (suc group)) (drop (place + 1) round))
        (units_within (bound group) (bound (suc group)) (drop (place + 1) round)))) e

    pub unit_parted : (at : ℕ) (before after : List (List RoundUnit)) → at ≤ last
        → is_in at (node_of unit) ≡ true
        → ((group : ℕ) → group ≤ last → group ≢ at → is_in group (node_of unit) ≡ false)
        → AreParted place before
        → after ≡ set before at (get_or before at [] ++ round_unit unit ∷ [])
        → AreParted (place + 1) after
    unit_parted at before after most here other parted added = record {
      each = ap length added
          ∙ length-set before at (get_or before at [] ++ round_unit unit ∷ []) ∙ parted.each;
      own = λ group within. elim (cases_order group at) [
        | inl same ↦ subst (λ (g : ℕ). get_or after g []
            ++ own_units g (drop (place + 1) round) ≡ own_units g round) (sym same) own_here
        | inr apart ↦ own_other group within (λ same. elim apart [
          | inl below ↦ omega (arith, below, same)
          | inr above ↦ omega (arith, above, same)
        ])
      ];
    }
      where
        own_here : get_or after at [] ++ own_units at (drop (place + 1) round)
            ≡ own_units at round
        own_here =
            ap (λ (l : List (List RoundUnit)). get_or l at []
            ++ own_units at (drop (place + 1) round)) added
            ∙ ap (λ (l : List RoundUnit). l ++ own_units at (drop (place + 1) round))
            (get_or-set_same before at (get_or before at [] ++ round_unit unit ∷ []) []
            (omega (arith, most, parted.each)))
            ∙ append_assoc (get_or before at []) (round_unit unit ∷ [])
            (own_units at (drop (place + 1) round))
            ∙ ap (λ (l : List RoundUnit). get_or before at [] ++ l) (sym (by_test at true here))
            ∙ parted.own at most

        own_other : (group : ℕ) → group ≤ last → group ≢ at
            → get_or after group [] ++ own_units group (drop (place + 1) round)
            ≡ own_units group round
        own_other group within apart =
            ap (λ (l : List (List RoundUnit)). get_or l group []
            ++ own_units group (drop (place + 1) round)) added
            ∙ ap (λ (l : List RoundUnit). l ++ own_units group (drop (place + 1) round))
            (get_or-set_other before at group (get_or before at [] ++ round_unit unit ∷ []) []
            apart)
            ∙ ap (λ (l : List RoundUnit). get_or before group [] ++ l)
            (sym (by_test group false (other group within apart)))
            ∙ parted.own group within
