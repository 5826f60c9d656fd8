-- A node that is split has all its firings in a unit of its own.
use Rattle.std.proofs.Common.{◌≡◌, refl, sym, ap, ◌∙◌, ℕ, ◌*◌, ◌<◌}
use Rattle.std.proofs.Common.{arith, Bool, true, false, cond, not, ◌||◌, eqb, inl, inr}
use Rattle.std.proofs.Common.{List, [], ◌∷◌, length, get_or, drop, filter, slice_get}
use Rattle.std.specs.List.{list_any}
use Rattle.std.proofs.lemmas.Bool.{true≢false, and_parts, and_from, or_left, or_right, cases_lt}
use Rattle.std.proofs.lemmas.Bool.{eq-eqb}
use Rattle.std.proofs.lemmas.List.{get_or_past}
use borrow.Author.Tests.{eqb-true}
use Rattle.strc_balance.specs.Balance.{count_at}
use Rattle.strc_elab_graph.specs.Graphs.{Graph}
use Rattle.strc_elab_graph.specs.declared.graph.Fission.{Fission}
use Rattle.strc_elab_dataflow.specs.FusedUnits.{RoundUnit}
use Rattle.strc_elab_dataflow.specs.Pieces.{AreKept}
use Rattle.strc_fuse.specs.Units.{is_outside}
use Rattle.strc_fiss.specs.Laws.{IsOwn, AreOwn}
use Rattle.strc_fiss.specs.Numbers.{is_dealt, parts_after}
use Rattle.strc_fiss.specs.OwnUnits.{names, is_alone, are_own, has_own_unit, dealt_count}
use Rattle.strc_fiss.specs.OwnUnits.{dealt_counts, round_fission}
use Rattle.strc_fiss.proofs.Each.{Each, each_more}
use Rattle.strc_fiss.proofs.Planned.{all_dealt, some_count}
use Rattle.strc_fiss.proofs.Sequences.{get_up_to, length_up_to}
use Rattle.strc_fiss.proofs.SplitNodes.{outside}

-- ---- the one that passes a test

pub none_pass : (test : RoundUnit → Bool) (units : List RoundUnit) → filter test units ≡ []
    → Each (λ unit. test unit ≡ false) units
none_pass test [] none = tt
none_pass test (unit ∷ rest) none = by_test (none_pass test rest) (test unit) refl none
  where
    by_test : (filter test rest ≡ [] → Each (λ other. test other ≡ false) rest) → (t : Bool)
        → test unit ≡ t → cond t (unit ∷ filter test rest) (filter test rest) ≡ []
        → (test unit ≡ false) × Each (λ other. test other ≡ false) rest
    by_test later true e is = absurd (omega (arith, ap length is))
    by_test later false e is = (e, later is)

one_passes : (test : RoundUnit → Bool) (own : RoundUnit) (units : List RoundUnit)
    → filter test units ≡ own ∷ [] → Each (λ unit. test unit ≡ true → unit ≡ own) units
one_passes test own [] one = tt
one_passes test own (unit ∷ rest) one =
    by_test (one_passes test own rest) (test unit) refl one
  where
    by_test : (filter test rest ≡ own ∷ [] → Each (λ other. test other ≡ true → other ≡ own) rest)
        → (t : Bool) → test unit ≡ t
        → cond t (unit ∷ filter test rest) (filter test rest) ≡ own ∷ []
        → (test unit ≡ true → unit ≡ own) × Each (λ other. test other ≡ true → other ≡ own) rest
    by_test later true e is = (
      λ passes. ap (λ (l : List RoundUnit). get_or l 0 unit) is,
      each_more (λ other. test other ≡ false) (λ other. test other ≡ true → other ≡ own) rest
          (λ other fails passes. absurd (true≢false (sym passes ∙ fails)))
          (none_pass test rest (ap (drop 1) is)),
    )
    by_test later false e is = (λ passes. absurd (true≢false (sym passes ∙ e)), later is)

pub record IsOwnUnit (count node : ℕ) (units : List RoundUnit) (own : RoundUnit) : Type 0 where
  pub one : units ≡ own ∷ []
  pub alone : is_alone node own.nodes ≡ true
  pub turns : own.turns ≡ count

pub own_unit : (count node : ℕ) (units : List RoundUnit) → are_own count node units ≡ true
    → (own : RoundUnit) × IsOwnUnit count node units own
own_unit count node [] is = absurd (true≢false (sym is))
own_unit count node (unit ∷ []) is =
    let both = and_parts (is_alone node unit.nodes) (eqb unit.turns count) is in
    (unit, record { one = refl; alone = both.0; turns = eqb-true unit.turns count both.1 })
own_unit count node (first ∷ (second ∷ rest)) is = absurd (true≢false (sym is))

-- ---- lists

each_given : {A : Type 0} (given : Type 0) (P : A → Type 0) (xs : List A) → (given → Each P xs)
    → Each (λ x. given → P x) xs
each_given given P [] holds = tt
each_given given P (x ∷ xs) holds =
    (λ g. (holds g).0, each_given given P xs (λ g. (holds g).1))

each_for : {A : Type 0} (P : ℕ → A → Type 0) (xs : List A) → ((v : ℕ) → Each (P v) xs)
    → Each (λ x. (v : ℕ) → P v x) xs
each_for P [] holds = tt
each_for P (x ∷ xs) holds = (λ v. (holds v).0, each_for P xs (λ v. (holds v).1))

-- ---- nodes that are split

own_of : (own outside : Bool) (count : ℕ) → outside ≡ true
    → 0 < cond (not outside || own) count 0
    → (own ≡ true) × (cond (not outside || own) count 0 ≡ count)
own_of true true count is some = (refl, refl)
own_of false true count is some = absurd (omega (arith, some))
own_of own false count is some = absurd (true≢false (sym is))

module _ (graph : Graph) (units : List RoundUnit) (counts : List ℕ) (ways : ℕ) where
  abbrev share : ℕ → Fission
  share = round_fission graph units counts ways

  abbrev dealing : List ℕ
  dealing = dealt_counts graph.outer_loops units counts

  pub record HasOwnUnit (v : ℕ) : Type 0 where
    pub own : has_own_unit units (count_at counts v) v ≡ true
    pub all : (round_fission graph units counts ways v).ways
        * (round_fission graph units counts ways v).firings ≡ count_at counts v

  pub dealt_own : (v : ℕ) → is_dealt (round_fission graph units counts ways v) ≡ true
      → HasOwnUnit v
  dealt_own v dealt =
      let all = all_dealt graph dealing ways v dealt in
      let some = some_count graph dealing ways v dealt in
      let many = length_up_to (dealt_count graph.outer_loops units counts)
      (length graph.outer_loops) in
      elim (cases_lt v (length graph.outer_loops)) [
        | inl less ↦
            let here : count_at dealing v ≡ dealt_count graph.outer_loops units counts v =
            get_up_to (dealt_count graph.outer_loops units counts) (length graph.outer_loops) v 0
            less in
            let own = own_of (has_own_unit units (count_at counts v) v)
            (is_outside (slice_get graph.outer_loops v)) (count_at counts v)
            (outside graph dealing ways v dealt)
            (omega (arith, some, here)) in
            record { own = own.0; all = omega (arith, all, here, own.1) }
        | inr past ↦ absurd (omega (
          arith,
          some,
          get_or_past dealing v 0 (omega (arith, past, many)),
        ))
      ]

  -- a unit that names it is its own
  pub record IsIts (v fired : ℕ) (nodes : List ℕ) : Type 0 where
    pub alone : is_alone v nodes ≡ true
    pub turns : fired ≡ count_at counts v

  its_unit : (v : ℕ) → is_dealt (round_fission graph units counts ways v) ≡ true
      → Each (λ unit. names v unit ≡ true → IsIts v unit.turns unit.nodes) units
  its_unit v dealt =
      let (own, is) = own_unit (count_at counts v) v (filter (names v) units)
      (dealt_own v dealt).own in
      each_more (λ unit. names v unit ≡ true → unit ≡ own)
      (λ unit. names v unit ≡ true → IsIts v unit.turns unit.nodes) units
      (λ unit same named. record {
        alone = ap (λ (u : RoundUnit). is_alone v u.nodes) (same named) ∙ is.alone;
        turns = ap (λ (u : RoundUnit). u.turns) (same named) ∙ is.turns;
      })
      (one_passes (names v) own units is.one)

  abbrev AreIts : (turns : ℕ) → List ℕ → Type 0
  AreIts turns nodes = (v : ℕ) → is_dealt (round_fission graph units counts ways v) ≡ true
      → list_any (eqb v) nodes ≡ true → IsIts v turns nodes

  its_units : Each (λ unit. AreIts unit.turns unit.nodes) units
  its_units = each_for
      (λ (v : ℕ) (unit : RoundUnit).
      is_dealt (round_fission graph units counts ways v) ≡ true
      → names v unit ≡ true → IsIts v unit.turns unit.nodes) units
      (λ v. each_given (is_dealt (round_fission graph units counts ways v) ≡ true)
      (λ (unit : RoundUnit). names v unit ≡ true → IsIts v unit.turns unit.nodes) units
      (its_unit v))

  -- ---- so the units are own

  are_kept : (nodes : List ℕ)
      → ((v : ℕ) → list_any (eqb v) nodes ≡ true
      → is_dealt (round_fission graph units counts ways v) ≡ false)
      → AreKept (parts_after (round_fission graph units counts ways) (λ v. 0)) nodes
  are_kept [] whole = tt
  are_kept (node ∷ nodes) whole = (
    whole node (or_left (eqb node node) (list_any (eqb node) nodes) (eq-eqb node node refl)),
    are_kept nodes (λ v there. whole v (or_right (eqb v node) (list_any (eqb v) nodes) there)),
  )

  list_own : (turns : ℕ) (nodes : List ℕ) → AreIts turns nodes
      → IsOwn (round_fission graph units counts ways) turns nodes
  list_own turns [] its = tt
  list_own turns (node ∷ []) its = by_test (is_dealt (share node)) refl
    where
      by_test : (t : Bool) → is_dealt (share node) ≡ t
          → IsOwn (round_fission graph units counts ways) turns (node ∷ [])
      by_test false e = inr (e, tt)
      by_test true e =
          let own = its node e
          (or_left (eqb node node) (list_any (eqb node) []) (eq-eqb node node refl)) in
          inl (and_from (is_dealt (share node))
          (eqb turns ((share node).ways * (share node).firings)) e
          (eq-eqb turns ((share node).ways * (share node).firings)
          (own.turns ∙ sym (dealt_own node e).all)))
  list_own turns (first ∷ (second ∷ rest)) its =
      are_kept (first ∷ second ∷ rest) (λ v there. by_test v there (is_dealt (share v)) refl)
    where
      by_test : (v : ℕ) → list_any (eqb v) (first ∷ second ∷ rest) ≡ true → (t : Bool)
          → is_dealt (share v) ≡ t → is_dealt (share v) ≡ false
      by_test v there false e = e
      by_test v there true e = absurd (true≢false (sym (its v e there).alone))

  each_own : (some : List RoundUnit) → Each (λ unit. AreIts unit.turns unit.nodes) some
      → AreOwn (round_fission graph units counts ways) some
  each_own [] its = tt
  each_own (unit ∷ rest) its =
      (list_own unit.turns unit.nodes its.0, each_own rest its.1)

  pub units_are_own : AreOwn (round_fission graph units counts ways) units
  units_are_own = each_own units its_units
