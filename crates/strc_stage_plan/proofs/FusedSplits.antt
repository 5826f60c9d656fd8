-- Units that go through the nodes below a number before all others do so after fusion, where no
-- fused unit has nodes on both sides of it.
use Rattle.std.proofs.Common.{◌≡◌, refl, sym, subst, ℕ, zero, suc, ◌*◌, ◌<◌, ◌≤◌, Bool}
use Rattle.std.proofs.Common.{List, [], ◌∷◌, ◌++◌, All, length, inl, inr, ◌⊎◌, arith}
use Rattle.std.proofs.Math.Nat.{zero-mul}
use Rattle.strc_elab_dataflow.specs.Fused.{repeated}
use Rattle.strc_elab_dataflow.specs.FusedUnits.{RoundUnit, AreFused, IsFused, joined_unit}
use Rattle.strc_sched_orders.specs.declared.unit as units
use Rattle.strc_fuse.specs.Laws.{FiresNodes, AllFireNodes}
use Rattle.strc_fuse.specs.Units.{round_units}
use Rattle.strc_stage_plan.specs.Cuts.{IsBetweenUnits}

-- each node of a list passes
abbrev pub Each : (P : ℕ → Type 0) → List ℕ → Type 0
Each P [] = Unit {0}
Each P (node ∷ nodes) = P node × Each P nodes

pub each_append : (P : ℕ → Type 0) (xs ys : List ℕ) → Each P xs → Each P ys → Each P (xs ++ ys)
each_append P [] ys first second = second
each_append P (x ∷ xs) ys (own, rest) second = (own, each_append P xs ys rest second)

pub each_repeated : (P : ℕ → Type 0) (turns : ℕ) (nodes : List ℕ) → Each P nodes
    → Each P (repeated turns nodes)
each_repeated P zero nodes all = tt
each_repeated P (suc turns) nodes all =
    each_append P nodes (repeated turns nodes) all (each_repeated P turns nodes all)

pub each_from_all : (P : ℕ → Type 0) (nodes : List ℕ) → All P nodes → Each P nodes
each_from_all P [] all = tt
each_from_all P (node ∷ nodes) all = (
  all 0 node (omega arith),
  each_from_all P nodes (λ k d less. all (suc k) d (omega (arith, less))),
)

-- each node of units passes
abbrev pub AllPass : (P : ℕ → Type 0) → List RoundUnit → Type 0
AllPass P [] = Unit {0}
AllPass P (unit ∷ later) = Each P unit.nodes × AllPass P later

pub passes_all : (P : ℕ → Type 0) (order : List units.Unit.Unit)
    → All (λ (unit : units.Unit.Unit). All P unit.nodes.items) order
    → AllPass P (round_units order)
passes_all P [] all = tt
passes_all P (unit ∷ order) all = (
  each_from_all P unit.nodes.items (all 0 unit (omega arith)),
  passes_all P order (λ k d less. all (suc k) d (omega (arith, less))),
)

joined_each : (P : ℕ → Type 0) (h m n : ℕ) (unit next : RoundUnit) → Each P unit.nodes
    → Each P next.nodes → Each P (joined_unit h m n unit next).nodes
joined_each P h m n unit next first second =
    each_append P (repeated m unit.nodes) (repeated n next.nodes)
    (each_repeated P m unit.nodes first) (each_repeated P n next.nodes second)

-- and so it does after fusion
module _ (P : ℕ → Type 0) (free : ℕ → Bool) (limit : ℕ) where
  unit_fused : (unit : RoundUnit) (later fused : List RoundUnit) → Each P unit.nodes
      → AllPass P later → IsFused free limit unit later fused → AllPass P fused
  unit_fused unit [] fused own rest is = subst (AllPass P) (sym is) (own, tt)
  unit_fused unit (next ∷ later) fused own (first, rest) (inl (h, m, n, joins, is)) =
      unit_fused (joined_unit h m n unit next) later fused
      (joined_each P h m n unit next own first) rest is
  unit_fused unit (next ∷ later) fused own (first, rest) (inr (none, (after, same, is))) =
      subst (AllPass P) (sym same) (own, unit_fused next later after first rest is)

  pub fused_pass : (order fused : List RoundUnit) → AllPass P order
      → AreFused free limit order fused → AllPass P fused
  fused_pass [] fused all is = subst (AllPass P) (sym is) tt
  fused_pass (unit ∷ order) fused all is = unit_fused unit order fused all.0 all.1 is

module _ (bound : ℕ) where
  abbrev pub Below : List ℕ → Type 0
  Below = Each (λ node. node < bound)

  abbrev pub From : List ℕ → Type 0
  From = Each (λ node. bound ≤ node)

  -- all units have nodes from the bound on alone
  abbrev pub AllFrom : List RoundUnit → Type 0
  AllFrom = AllPass (λ node. bound ≤ node)

  -- first those with nodes below it, and then the others
  abbrev pub IsSplit : List RoundUnit → Type 0
  IsSplit [] = Unit {0}
  IsSplit (unit ∷ later) =
      (Below unit.nodes × IsSplit later) ⊎ (From unit.nodes × AllFrom later)

  -- no unit has nodes on both sides
  abbrev pub AreApart : List RoundUnit → Type 0
  AreApart [] = Unit {0}
  AreApart (unit ∷ later) = (Below unit.nodes ⊎ From unit.nodes) × AreApart later

  pub apart_from : (order : List RoundUnit) → IsBetweenUnits order bound → AreApart order
  apart_from [] between = tt
  apart_from (unit ∷ order) between = (
    elim (between 0 unit (omega arith)) [
      | inl below ↦ inl (each_from_all (λ node. node < bound) unit.nodes below)
      | inr from ↦ inr (each_from_all (λ node. bound ≤ node) unit.nodes from)
    ],
    apart_from order (λ k d less. between (suc k) d (omega (arith, less))),
  )

  pub split_from : (order : List RoundUnit) → AllFrom order → IsSplit order
  split_from [] all = tt
  split_from (unit ∷ order) (own, rest) = inr (own, rest)

-- a node that occurs in a list
abbrev Has : ℕ → List ℕ → Type 0
Has node [] = ⊥
Has node (first ∷ nodes) = (node ≡ first) ⊎ Has node nodes

has_first : (node : ℕ) (xs ys : List ℕ) → Has node xs → Has node (xs ++ ys)
has_first node [] ys has = absurd has
has_first node (x ∷ xs) ys (inl same) = inl same
has_first node (x ∷ xs) ys (inr has) = inr (has_first node xs ys has)

has_second : (node : ℕ) (xs ys : List ℕ) → Has node ys → Has node (xs ++ ys)
has_second node [] ys has = has
has_second node (x ∷ xs) ys has = inr (has_second node xs ys has)

has_repeated : (node turns : ℕ) (nodes : List ℕ) → 0 < turns → Has node nodes
    → Has node (repeated turns nodes)
has_repeated node zero nodes some has = absurd (omega (arith, some))
has_repeated node (suc turns) nodes some has = has_first node nodes (repeated turns nodes) has

has_each : (P : ℕ → Type 0) (node : ℕ) (nodes : List ℕ) → Each P nodes → Has node nodes → P node
has_each P node [] all has = absurd has
has_each P node (first ∷ nodes) (own, rest) (inl same) = subst P (sym same) own
has_each P node (first ∷ nodes) (own, rest) (inr has) = has_each P node nodes rest has

some_node : (nodes : List ℕ) → 0 < length nodes → (node : ℕ) × Has node nodes
some_node [] some = absurd (omega (arith, some))
some_node (node ∷ nodes) some = (node, inl refl)

-- a factor of turns that there are
some_factor : (turns h m : ℕ) → turns ≡ h * m → 0 < turns → 0 < m
some_factor turns h zero is some = absurd (omega (arith, is, some))
some_factor turns h (suc m) is some = omega arith

some_share : (turns h m : ℕ) → turns ≡ h * m → 0 < turns → 0 < h
some_share turns zero m is some = absurd (omega (arith, is, some, zero-mul m))
some_share turns (suc h) m is some = omega arith

module _ (bound : ℕ) (free : ℕ → Bool) (limit : ℕ) where
  -- a unit with nodes on both sides stays one
  parted_stays : (unit : RoundUnit) (later fused : List RoundUnit) (low high : ℕ)
      → low < bound → bound ≤ high → Has low unit.nodes → Has high unit.nodes → 0 < unit.turns
      → IsFused free limit unit later fused → AreApart bound fused → ⊥
  parted_stays unit [] fused low high below from has more some is apart =
      both (subst (AreApart bound) is apart).0
    where
      both : Below bound unit.nodes ⊎ From bound unit.nodes → ⊥
      both (inl all) =
          let e = has_each (λ node. node < bound) high unit.nodes all more in
          omega (arith, e, from)
      both (inr all) =
          let e = has_each (λ node. bound ≤ node) low unit.nodes all has in
          omega (arith, e, below)
  parted_stays unit (next ∷ later) fused low high below from has more some
      (inl (h, m, n, joins, is)) apart =
      let turns = some_factor unit.turns h m joins.first_turns some in
      parted_stays (joined_unit h m n unit next) later fused low high below from
      (has_first low (repeated m unit.nodes) (repeated n next.nodes)
      (has_repeated low m unit.nodes turns has))
      (has_first high (repeated m unit.nodes) (repeated n next.nodes)
      (has_repeated high m unit.nodes turns more))
      (some_share unit.turns h m joins.first_turns some) is apart
  parted_stays unit (next ∷ later) fused low high below from has more some
      (inr (none, (rest, same, is))) apart =
      both (subst (AreApart bound) same apart).0
    where
      both : Below bound unit.nodes ⊎ From bound unit.nodes → ⊥
      both (inl all) =
          let e = has_each (λ node. node < bound) high unit.nodes all more in
          omega (arith, e, from)
      both (inr all) =
          let e = has_each (λ node. bound ≤ node) low unit.nodes all has in
          omega (arith, e, below)

  split_after : (unit : RoundUnit) (later fused : List RoundUnit) → FiresNodes unit
      → AllFireNodes later → Below bound unit.nodes → IsSplit bound later
      → IsFused free limit unit later fused → AreApart bound fused → IsSplit bound fused
  split_after unit [] fused fires all own rest is apart =
      subst (IsSplit bound) (sym is) (inl (own, tt))
  split_after unit (next ∷ later) fused fires (second, all) own (inl (first, rest))
      (inl (h, m, n, joins, is)) apart =
      split_after (joined_unit h m n unit next) later fused (record {
        turns = some_share unit.turns h m joins.first_turns fires.turns;
        nodes = some_length (repeated m unit.nodes ++ repeated n next.nodes)
            (let (node, has) = some_node unit.nodes fires.nodes in (
              node,
              has_first node (repeated m unit.nodes) (repeated n next.nodes)
                  (has_repeated node m unit.nodes
                  (some_factor unit.turns h m joins.first_turns fires.turns) has),
            ));
      }) all (joined_each (λ node. node < bound) h m n unit next own first) rest is apart
    where
      some_length : (nodes : List ℕ) → ((node : ℕ) × Has node nodes) → 0 < length nodes
      some_length [] (node, has) = absurd has
      some_length (first ∷ nodes) some = omega arith
  split_after unit (next ∷ later) fused fires (second, all) own (inl (first, rest))
      (inr (none, (after, same, is))) apart =
      subst (IsSplit bound) (sym same)
      (inl (
        own,
        split_after next later after second all first rest is
            (subst (AreApart bound) same apart).1,
      ))
  split_after unit (next ∷ later) fused fires (second, all) own (inr (first, rest))
      (inl (h, m, n, joins, is)) apart =
      let (low, has) = some_node unit.nodes fires.nodes in
      let (high, more) = some_node next.nodes second.nodes in
      absurd (parted_stays (joined_unit h m n unit next) later fused low high
      (has_each (λ node. node < bound) low unit.nodes own has)
      (has_each (λ node. bound ≤ node) high next.nodes first more)
      (has_first low (repeated m unit.nodes) (repeated n next.nodes)
      (has_repeated low m unit.nodes (some_factor unit.turns h m joins.first_turns fires.turns)
      has))
      (has_second high (repeated m unit.nodes) (repeated n next.nodes)
      (has_repeated high n next.nodes
      (some_factor next.turns h n joins.second_turns second.turns) more))
      (some_share unit.turns h m joins.first_turns fires.turns) is apart)
  split_after unit (next ∷ later) fused fires (second, all) own (inr (first, rest))
      (inr (none, (after, same, is))) apart =
      subst (IsSplit bound) (sym same)
      (inl (
        own,
        split_from bound after
            (unit_fused (λ node. bound ≤ node) free limit next later after first rest is),
      ))

  pub fused_split : (order fused : List RoundUnit) → AllFireNodes order → IsSplit bound order
      → AreFused free limit order fused → AreApart bound fused → IsSplit bound fused
  fused_split [] fused all is same apart = subst (IsSplit bound) (sym same) tt
  fused_split (unit ∷ order) fused (fires, all) (inl (own, rest)) is apart =
      split_after unit order fused fires all own rest is apart
  fused_split (unit ∷ order) fused (fires, all) (inr (own, rest)) is apart =
      split_from bound fused
      (unit_fused (λ node. bound ≤ node) free limit unit order fused own rest is)
