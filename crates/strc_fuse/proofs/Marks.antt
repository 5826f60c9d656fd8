-- Marks of last units, and units of a round one by one.
use Rattle.std.proofs.Common.{◌≡◌, refl, sym, ap, ◌∙◌, subst, ℕ, zero, suc}
use Rattle.std.proofs.Common.{◌+◌, ◌<◌, ◌≤◌, Bool, true}
use Rattle.std.proofs.Common.{false, List, [], ◌∷◌, ◌++◌, length, drop, get_or}
use Rattle.std.proofs.Common.{All, arith, Result, Ok}
use Rattle.std.proofs.Common.{Err, OnOk, MatchBool, inl, inr}
use Rattle.std.proofs.lemmas.Bool.{cases_lt, true≢false}
use Rattle.strc_sched_orders.specs.declared.unit as units
use Rattle.strc_sched_orders.specs.Order.{firing_count}
use Rattle.strc_sched_orders.specs.Peaks.{HasNodes}
use Rattle.strc_sched_orders.proofs.FiringCounts.{firing_count_append, turns_same, turns_other}
use Rattle.strc_elab_dataflow.specs.Fused.{repeated}
use Rattle.strc_elab_dataflow.specs.FusedUnits.{RoundUnit, AreFree, Joins, AreFused, joined_unit}
use Rattle.strc_elab_dataflow.specs.FusedUnits.{nodes_of}
use Rattle.strc_fuse.specs.Steps.{AreShares, AreTooLong, IsMarked, GoesOn}
use Rattle.strc_fuse.specs.Units.{round_unit, round_units}
use Rattle.strc_fuse.specs.declared.unit_join.Shares.{Shares}
use Rattle.strc_fuse.specs.declared.units.LastUnit.{LastUnit}
use Rattle.strc_fuse.proofs.FusedOrders.{absent_in}
use Rattle.strc_fuse.proofs.Steps.{shares_join}

pub on_ok : {A E : Type 0} (result : Result A E) (P Q : Type 0) → (P → Q) → OnOk result P
    → OnOk result Q
on_ok (Ok value) P Q step holds = step holds
on_ok (Err error) P Q step holds = tt

marked_true : (mark : Bool) (P Q : Type 0) → mark ≡ true → MatchBool mark P Q → P
marked_true true P Q is holds = holds
marked_true false P Q is holds = absurd (true≢false (sym is))

true_marked : (mark : Bool) (P Q : Type 0) → mark ≡ true → P → MatchBool mark P Q
true_marked true P Q is holds = holds
true_marked false P Q is holds = absurd (true≢false (sym is))

module _ (free : ℕ → Bool) where
  free_append : (xs ys : List ℕ) → AreFree free xs → AreFree free ys → AreFree free (xs ++ ys)
  free_append [] ys first second = second
  free_append (x ∷ xs) ys first second = (first.0, free_append xs ys first.1 second)

  free_repeated : (turns : ℕ) (nodes : List ℕ) → AreFree free nodes
      → AreFree free (repeated turns nodes)
  free_repeated zero nodes all = tt
  free_repeated (suc turns) nodes all =
      free_append nodes (repeated turns nodes) all (free_repeated turns nodes all)

  -- the joined unit's nodes may be fused
  pub joined_marked : (mark : Bool) (before now : units.Unit.Unit) (next : RoundUnit) (h m n : ℕ)
      → mark ≡ true
      → MatchBool mark (AreFree free before.nodes.items) (¬ AreFree free before.nodes.items)
      → AreFree free next.nodes
      → round_unit now ≡ joined_unit h m n (round_unit before) next
      → MatchBool mark (AreFree free now.nodes.items) (¬ AreFree free now.nodes.items)
  joined_marked mark before now next h m n is marked second same =
      true_marked mark (AreFree free now.nodes.items) (¬ AreFree free now.nodes.items) is
      (subst (λ (u : RoundUnit). AreFree free u.nodes) (sym same)
      (free_append (repeated m before.nodes.items) (repeated n next.nodes)
      (free_repeated m before.nodes.items (marked_true mark (AreFree free before.nodes.items)
      (¬ AreFree free before.nodes.items) is marked))
      (free_repeated n next.nodes second)))

  pub free_by_mark : (mark : Bool) (nodes : List ℕ) → mark ≡ true
      → MatchBool mark (AreFree free nodes) (¬ AreFree free nodes) → AreFree free nodes
  free_by_mark mark nodes is marked =
      marked_true mark (AreFree free nodes) (¬ AreFree free nodes) is marked

  pub goes_on_joined : (limit : ℕ) (before : List RoundUnit) (last next now : RoundUnit)
      (shares : Shares) → AreShares limit last next shares → AreFree free last.nodes
      → AreFree free next.nodes
      → now ≡ joined_unit shares.turns shares.first shares.second last next
      → GoesOn free limit before last next before now
  goes_on_joined limit before last next now shares are first second same =
      inl (
        shares.turns,
        shares.first,
        shares.second,
        shares_join free limit last next shares are first second,
        same,
        refl,
      )

  apart_by : (limit : ℕ) (mark other : Bool) (last next : RoundUnit)
      → MatchBool mark (AreFree free last.nodes) (¬ AreFree free last.nodes)
      → MatchBool other (AreFree free next.nodes) (¬ AreFree free next.nodes)
      → (mark ≡ true → other ≡ true → AreTooLong limit last next)
      → (h m n : ℕ) → ¬ Joins free limit last next h m n
  apart_by limit true true last next first second long h m n joins = long refl refl free h m n joins
  apart_by limit true false last next first second long h m n joins = second joins.second_free
  apart_by limit false other last next first second long h m n joins = first joins.first_free

  pub goes_on_apart : (limit : ℕ) (before : List RoundUnit) (last next now : RoundUnit)
      (after : List RoundUnit) (mark other : Bool)
      → MatchBool mark (AreFree free last.nodes) (¬ AreFree free last.nodes)
      → MatchBool other (AreFree free next.nodes) (¬ AreFree free next.nodes)
      → (mark ≡ true → other ≡ true → AreTooLong limit last next)
      → now ≡ next → after ≡ before ++ last ∷ []
      → GoesOn free limit before last next after now
  goes_on_apart limit before last next now after mark other first second long is same =
      inr (apart_by limit mark other last next first second long, is, same)

pub units_push : (xs : List units.Unit.Unit) (unit : units.Unit.Unit)
    → round_units (xs ++ unit ∷ []) ≡ round_units xs ++ round_unit unit ∷ []
units_push [] unit = refl
units_push (x ∷ xs) unit = ap (λ (l : List RoundUnit). round_unit x ∷ l) (units_push xs unit)

-- the next unit of those that are left
pub next_more : (later : List units.Unit.Unit) (place : ℕ) (unit : units.Unit.Unit)
    → place < length later → unit ≡ get_or later place unit
    → drop place (round_units later) ≡ round_unit unit ∷ drop (place + 1) (round_units later)
next_more [] place unit less is = absurd (omega (arith, less))
next_more (x ∷ later) zero unit less is =
    ap (λ (u : units.Unit.Unit). round_unit u ∷ round_units later) (sym is)
next_more (x ∷ later) (suc place) unit less is =
    next_more later place unit (omega (arith, less)) is
    ∙ ap (λ (n : ℕ). round_unit unit ∷ drop n (round_units (x ∷ later)))
    (let e : suc (place + 1) ≡ suc place + 1 = omega arith in e)

-- fused units name no other nodes

member_counts : (nodes : List ℕ) (k d : ℕ) → k < length nodes
    → 0 < firing_count nodes (get_or nodes k d)
member_counts [] k d less = absurd (omega (arith, less))
member_counts (node ∷ nodes) zero d less = omega (arith, turns_same 1 node node refl)
member_counts (node ∷ nodes) (suc k) d less =
    let more = member_counts nodes k d (omega (arith, less)) in omega (arith, more)

none_past : (size node : ℕ) (nodes : List ℕ) → size ≤ node → All (λ n. n < size) nodes
    → firing_count nodes node ≡ 0
none_past size node [] past all = omega arith
none_past size node (first ∷ nodes) past all =
    let here : first < size = all 0 first (omega arith) in
    omega (
      arith,
      turns_other 1 first node (λ same. omega (arith, same, here, past)),
      none_past size node nodes past (λ k d less. all (suc k) d (omega (arith, less))),
    )

no_units_past : (size node : ℕ) (order : List units.Unit.Unit) → size ≤ node
    → All (HasNodes size) order → firing_count (nodes_of (round_units order)) node ≡ 0
no_units_past size node [] past all = omega arith
no_units_past size node (unit ∷ order) past all = omega (
  arith,
  firing_count_append unit.nodes.items (nodes_of (round_units order)) node,
  none_past size node unit.nodes.items past (all 0 unit (omega arith)),
  no_units_past size node order past (λ k d less. all (suc k) d (omega (arith, less))),
)

all_below : (size : ℕ) (order : List units.Unit.Unit)
    → ((node : ℕ) → size ≤ node → firing_count (nodes_of (round_units order)) node ≡ 0)
    → All (HasNodes size) order
all_below size [] none k d less j e within = absurd (omega (arith, less))
all_below size (unit ∷ order) none zero d less j e within =
    let node : ℕ = get_or unit.nodes.items j e in
    elim (cases_lt node size) [
      | inl below ↦ below
      | inr past ↦ absurd (omega (
        arith,
        member_counts unit.nodes.items j e within,
        none node past,
        firing_count_append unit.nodes.items (nodes_of (round_units order)) node,
      ))
    ]
all_below size (unit ∷ order) none (suc k) d less j e within =
    all_below size order
    (λ node past. omega (
      arith,
      none node past,
      firing_count_append unit.nodes.items (nodes_of (round_units order)) node,
    )) k d (omega (arith, less)) j e within

pub fused_nodes : (free : ℕ → Bool) (limit size : ℕ) (old new : List units.Unit.Unit)
    → AreFused free limit (round_units old) (round_units new) → All (HasNodes size) old
    → All (HasNodes size) new
fused_nodes free limit size old new fused all =
    all_below size new (λ node past. absent_in free limit (round_units old) (round_units new) node
    fused (no_units_past size node old past all))

-- a round that was read
pub as_read : (free : ℕ → Bool) (limit : ℕ) (read old new : List units.Unit.Unit) → read ≡ old
    → AreFused free limit (round_units read) (round_units new)
    → AreFused free limit (round_units old) (round_units new)
as_read free limit read old new same fused =
    subst (λ (l : List units.Unit.Unit). AreFused free limit (round_units l) (round_units new)) same
    fused
