-- Fusion of a round's units, from left to right, leaves a valid order with the same counts.
use Rattle.std.proofs.Common.{◌≡◌, refl, sym, ap, ◌∙◌, subst, ℕ, ◌+◌, ◌*◌, ◌<◌, ◌≤◌}
use Rattle.std.proofs.Common.{◌/◌, Bool, ℤ, List, [], ◌∷◌, ◌++◌, arith, append_assoc}
use mathlib.Core.Logic.{inl, inr, ◌⊎◌}
use Rattle.std.proofs.lemmas.Bool.{cases_lt}
use Rattle.std.proofs.Math.Nat.{mul-div_cancel_left}
use Rattle.strc_elab_dataflow.specs.Node.{Meaning}
use Rattle.strc_elab_dataflow.specs.Flat.{Origin, Origin.Nowhere, Origin.Input, Origin.Port, Graph}
use Rattle.strc_elab_dataflow.specs.Order.{firing_count, IsOrder}
use Rattle.strc_elab_dataflow.specs.Rounds.{RepeatsRates, IsBalanced, gives_in_round}
use Rattle.strc_elab_dataflow.specs.Fused.{repeated, GivesNothing, given_by, taken_by, IsAway}
use Rattle.strc_elab_dataflow.specs.Fused.{IsPassedOn}
use Rattle.strc_elab_dataflow.specs.Fused.{Merges}
use Rattle.strc_elab_dataflow.specs.FusedUnits.{RoundUnit, firings_of, nodes_of, joined_unit}
use Rattle.strc_elab_dataflow.specs.FusedUnits.{AreFree}
use Rattle.strc_elab_dataflow.specs.FusedUnits.{IsFused, AreFused, IsPlaced, ArePlaced}
use Rattle.strc_elab_dataflow.proofs.Counts.{count_append}
use Rattle.strc_elab_dataflow.proofs.Links.{count_repeated}
use Rattle.strc_elab_dataflow.proofs.Merging.{fused_is_order, fused_counts}

-- A node that occurs in a list, or doesn't.
occurs : (nodes : List ℕ) (v : ℕ) → (0 < firing_count nodes v) ⊎ (firing_count nodes v ≡ 0)
occurs nodes v = elim (cases_lt 0 (firing_count nodes v)) [
  | inl some ↦ inl some
  | inr none ↦ inr (omega arith)
]

times_zero : (k c : ℕ) → c ≡ 0 → k * c ≡ 0
times_zero k c e = omega (arith, ap (λ (n : ℕ). k * n) e)

cancel : (h x y : ℕ) → 0 < h → h * x ≡ h * y → x ≡ y
cancel h x y some e =
    sym (mul-div_cancel_left x some) ∙ ap (λ (k : ℕ). k / h) e ∙ mul-div_cancel_left y some

count_joined : (h m n : ℕ) (unit next : RoundUnit) (v : ℕ)
    → firing_count (joined_unit h m n unit next).nodes v
    ≡ m * firing_count unit.nodes v + n * firing_count next.nodes v
count_joined h m n unit next v = omega (
  arith,
  count_append (repeated m unit.nodes) (repeated n next.nodes) v,
  count_repeated m unit.nodes v,
  count_repeated n next.nodes v,
)

-- A node in neither list isn't in the joined one.
in_either : (h m n : ℕ) (unit next : RoundUnit) (v : ℕ)
    → 0 < firing_count (joined_unit h m n unit next).nodes v
    → (0 < firing_count unit.nodes v) ⊎ (0 < firing_count next.nodes v)
in_either h m n unit next v some = elim (occurs unit.nodes v) [
  | inl there ↦ inl there
  | inr none ↦ elim (occurs next.nodes v) [
    | inl there ↦ inr there
    | inr nowhere ↦ absurd (omega (
      arith,
      count_joined h m n unit next v,
      times_zero m (firing_count unit.nodes v) none,
      times_zero n (firing_count next.nodes v) nowhere,
    ))
  ]
]

gives_part : (xs ys : List ℕ) (origin : Origin) → GivesNothing (xs ++ ys) origin
    → GivesNothing xs origin × GivesNothing ys origin
gives_part xs ys Nowhere none = (tt, tt)
gives_part xs ys Input none = (tt, tt)
gives_part xs ys (Port s q) none = (
  omega (arith, count_append xs ys s, none),
  omega (arith, count_append xs ys s, none),
)

module _ {Code State Cause Word : Type 0} (meaning : Meaning Code State Cause Word)
    (graph : Graph Code) (round : ℕ → ℕ) where
  joined_placed : (h m n : ℕ) (unit next : RoundUnit) (rest : List RoundUnit)
      → unit.turns ≡ h * m → next.turns ≡ h * n
      → IsPlaced meaning graph round unit (next ∷ rest) → IsPlaced meaning graph round next rest
      → IsPlaced meaning graph round (joined_unit h m n unit next) rest
  joined_placed h m n unit next rest first_turns second_turns placed later = record {
    whole = λ v some. whole_by v (in_either h m n unit next v some);
    not_later = λ v some. later_by v (in_either h m n unit next v some);
    fed = λ v port some less. fed_by v port less (in_either h m n unit next v some);
  }
    where
      apart : (v : ℕ) → 0 < firing_count unit.nodes v → firing_count next.nodes v ≡ 0
      apart v some = omega (
        arith,
        placed.not_later v some,
        count_append next.nodes (nodes_of rest) v,
      )

      absent : (v : ℕ) → 0 < firing_count next.nodes v → firing_count unit.nodes v ≡ 0
      absent v some = elim (occurs unit.nodes v) [
        | inl there ↦ absurd (omega (arith, apart v there, some))
        | inr none ↦ none
      ]

      whole_by : (v : ℕ) → (0 < firing_count unit.nodes v) ⊎ (0 < firing_count next.nodes v)
          → h * firing_count (joined_unit h m n unit next).nodes v ≡ round v
      whole_by v (inl some) = omega (
        arith,
        placed.whole v some,
        ap (λ (k : ℕ). k * firing_count unit.nodes v) first_turns,
        ap (λ (k : ℕ). h * k) (count_joined h m n unit next v),
        ap (λ (k : ℕ). h * k) (times_zero n (firing_count next.nodes v) (apart v some)),
      )
      whole_by v (inr some) = omega (
        arith,
        later.whole v some,
        ap (λ (k : ℕ). k * firing_count next.nodes v) second_turns,
        ap (λ (k : ℕ). h * k) (count_joined h m n unit next v),
        ap (λ (k : ℕ). h * k) (times_zero m (firing_count unit.nodes v) (absent v some)),
      )

      later_by : (v : ℕ) → (0 < firing_count unit.nodes v) ⊎ (0 < firing_count next.nodes v)
          → firing_count (nodes_of rest) v ≡ 0
      later_by v (inl some) = omega (
        arith,
        placed.not_later v some,
        count_append next.nodes (nodes_of rest) v,
      )
      later_by v (inr some) = later.not_later v some

      fed_by : (v port : ℕ) → port < meaning.ports (graph.code v)
          → (0 < firing_count unit.nodes v) ⊎ (0 < firing_count next.nodes v)
          → GivesNothing (nodes_of rest) (graph.source v port).origin
      fed_by v port less (inl some) = (gives_part next.nodes (nodes_of rest)
          (graph.source v port).origin (placed.fed v port some less)).1
      fed_by v port less (inr some) = later.fed v port some less

  round_passes : (counts : ℕ → ℕ) → IsBalanced meaning graph counts round → (v port s q : ℕ)
      → port < meaning.ports (graph.code v) → (graph.source v port).origin ≡ Port s q
      → round v * meaning.popped (graph.code v) (counts v) port
      ≡ round s * meaning.pushed (graph.code s) (counts s) q
  unfolding gives_in_round
  round_passes counts balanced v port s q less e =
      balanced v port less (λ f. no_input (sym e ∙ f))
      ∙ ap (gives_in_round meaning graph counts round) e
    where
      no_input : Port s q ≡ Input → ⊥
      no_input f = cc

  module _ (counts : ℕ → ℕ) (balanced : IsBalanced meaning graph counts round)
      (h m n : ℕ) (some_turns : 0 < h) (unit next : RoundUnit) (rest : List RoundUnit)
      (first_turns : unit.turns ≡ h * m) (second_turns : next.turns ≡ h * n)
      (placed : IsPlaced meaning graph round unit (next ∷ rest))
      (later : IsPlaced meaning graph round next rest) where
    abbrev Merge : ℕ → ℕ → Type 0
    Merge v port = IsAway meaning graph counts next.nodes v port
        ⊎ (IsAway meaning graph counts unit.nodes v port
        ⊎ IsPassedOn meaning graph counts unit.nodes m next.nodes n v port)

    not_next : (v : ℕ) → 0 < firing_count unit.nodes v → firing_count next.nodes v ≡ 0
    not_next v some = omega (
      arith,
      placed.not_later v some,
      count_append next.nodes (nodes_of rest) v,
    )

    not_first : (v : ℕ) → 0 < firing_count next.nodes v → firing_count unit.nodes v ≡ 0
    not_first v some = elim (occurs unit.nodes v) [
      | inl there ↦ absurd (omega (arith, not_next v there, some))
      | inr none ↦ none
    ]

    -- The first nodes give in a round what the second take.
    passed_on : (v port s q : ℕ) → port < meaning.ports (graph.code v)
        → (graph.source v port).origin ≡ Port s q
        → 0 < firing_count unit.nodes s → 0 < firing_count next.nodes v
        → m * (firing_count unit.nodes s * meaning.pushed (graph.code s) (counts s) q)
        ≡ n * (firing_count next.nodes v * meaning.popped (graph.code v) (counts v) port)
    passed_on v port s q less e gives takes =
        let push = meaning.pushed (graph.code s) (counts s) q in
        let pop = meaning.popped (graph.code v) (counts v) port in
        cancel h (m * (firing_count unit.nodes s * push)) (n * (firing_count next.nodes v * pop))
        some_turns (omega (
          arith,
          ap (λ (k : ℕ). k * firing_count unit.nodes s * push) first_turns,
          ap (λ (k : ℕ). k * firing_count next.nodes v * pop) second_turns,
          ap (λ (k : ℕ). k * push) (placed.whole s gives),
          ap (λ (k : ℕ). k * pop) (later.whole v takes),
          round_passes counts balanced v port s q less e,
        ))

    merge_by : (v port : ℕ) → port < meaning.ports (graph.code v) → (origin : Origin)
        → (graph.source v port).origin ≡ origin
        → (0 < firing_count next.nodes v) ⊎ (firing_count next.nodes v ≡ 0) → Merge v port
    unfolding given_by taken_by
    merge_by v port less Nowhere e (inl takes) =
        inr (inl (not_first v takes, subst (GivesNothing unit.nodes) (sym e) tt))
    merge_by v port less Nowhere e (inr none) =
        inl (none, subst (GivesNothing next.nodes) (sym e) tt)
    merge_by v port less Input e (inl takes) =
        inr (inl (not_first v takes, subst (GivesNothing unit.nodes) (sym e) tt))
    merge_by v port less Input e (inr none) =
        inl (none, subst (GivesNothing next.nodes) (sym e) tt)
    merge_by v port less (Port s q) e (inl takes) = elim (occurs unit.nodes s) [
      | inl gives ↦ inr (inr (record {
        no_target = not_first v takes;
        no_source = subst (GivesNothing next.nodes) (sym e) (not_next s gives);
        balance = ap (λ (o : Origin). m * given_by meaning graph counts unit.nodes o) e
            ∙ passed_on v port s q less e gives takes;
      }))
      | inr none ↦ inr (inl (
        not_first v takes,
        subst (GivesNothing unit.nodes) (sym e) none,
      ))
    ]
    merge_by v port less (Port s q) e (inr none) = elim (occurs next.nodes s) [
      | inr away ↦ inl (none, subst (GivesNothing next.nodes) (sym e) away)
      | inl gives ↦ elim (occurs unit.nodes v) [
        | inr absent ↦ inr (inl (
          absent,
          subst (GivesNothing unit.nodes) (sym e) (not_first s gives),
        ))
        | inl there ↦ absurd (omega (
          arith,
          subst (GivesNothing (next.nodes ++ nodes_of rest)) e (placed.fed v port there less),
          count_append next.nodes (nodes_of rest) s,
          gives,
        ))
      ]
    ]

    pub units_merge : Merges meaning graph counts unit.nodes m next.nodes n
    units_merge v port less =
        merge_by v port less (graph.source v port).origin refl (occurs next.nodes v)

  module _ (input : List ℤ) (counts : ℕ → ℕ) (repeats : RepeatsRates meaning graph counts)
      (balanced : IsBalanced meaning graph counts round) (free : ℕ → Bool) (limit : ℕ) where
    -- An order that is no worse: valid where the other is, and with the same counts.
    pub record IsAsGood (old new : List ℕ) : Type 0 where
      pub valid : IsOrder meaning graph input counts old → IsOrder meaning graph input counts new
      pub same : (v : ℕ) → firing_count new v ≡ firing_count old v

    as_good_then : (a b c : List ℕ) → IsAsGood a b → IsAsGood b c → IsAsGood a c
    as_good_then a b c one two = record {
      valid = λ is. two.valid (one.valid is);
      same = λ v. two.same v ∙ one.same v;
    }

    as_good_same : (a b : List ℕ) → a ≡ b → IsAsGood a b
    as_good_same a b e = record {
      valid = λ is. subst (IsOrder meaning graph input counts) e is;
      same = λ v. sym (ap (λ (l : List ℕ). firing_count l v) e);
    }

    no_turns : (h k : ℕ) (nodes : List ℕ) → h ≡ 0 → repeated (h * k) nodes ≡ []
    no_turns h k nodes e = ap (λ (c : ℕ). repeated c nodes)
        (let f : h * k ≡ 0 = omega (arith, ap (λ (c : ℕ). c * k) e) in f)

    none_turns : (h : ℕ) (nodes : List ℕ) → h ≡ 0 → repeated h nodes ≡ []
    none_turns h nodes e = ap (λ (c : ℕ). repeated c nodes) e

    joined_good : (before : List ℕ) (unit next : RoundUnit) (rest : List RoundUnit) (h m n : ℕ)
        → unit.turns ≡ h * m → next.turns ≡ h * n
        → IsPlaced meaning graph round unit (next ∷ rest) → IsPlaced meaning graph round next rest
        → IsAsGood (before ++ firings_of (unit ∷ next ∷ rest))
        (before ++ firings_of (joined_unit h m n unit next ∷ rest))
    joined_good before unit next rest h m n first_turns second_turns placed later =
        as_good_then _ _ _ (as_good_same _ _ (
        ap (λ (k : ℕ). before ++ (repeated k unit.nodes
        ++ (repeated next.turns next.nodes ++ firings_of rest))) first_turns
        ∙ ap (λ (k : ℕ). before ++ (repeated (h * m) unit.nodes
        ++ (repeated k next.nodes ++ firings_of rest))) second_turns))
        (by_turns (cases_lt 0 h))
      where
        apart : List ℕ
        apart = before ++ (repeated (h * m) unit.nodes
            ++ (repeated (h * n) next.nodes ++ firings_of rest))

        by_turns : (0 < h) ⊎ (h ≤ 0)
            → IsAsGood (before ++ (repeated (h * m) unit.nodes
            ++ (repeated (h * n) next.nodes ++ firings_of rest)))
            (before ++ firings_of (joined_unit h m n unit next ∷ rest))
        by_turns (inl some) = record {
          valid = λ is. fused_is_order before unit.nodes next.nodes (firings_of rest) h m n
              meaning graph input counts repeats (units_merge counts balanced h m n some unit next
              rest first_turns second_turns placed later) is;
          same = λ v. fused_counts before unit.nodes next.nodes (firings_of rest) h m n v;
        }
        by_turns (inr none) =
            let zero_turns : h ≡ 0 = omega arith in
            as_good_same _ _ (
            ap (λ (l : List ℕ). before ++ (l ++ (repeated (h * n) next.nodes
            ++ firings_of rest))) (no_turns h m unit.nodes zero_turns)
            ∙ ap (λ (l : List ℕ). before ++ (l ++ firings_of rest))
            (no_turns h n next.nodes zero_turns)
            ∙ sym (ap (λ (l : List ℕ). before ++ (l ++ firings_of rest))
            (none_turns h (joined_unit h m n unit next).nodes zero_turns)))

    pub fused_good : (rest : List RoundUnit) (unit : RoundUnit) (before : List ℕ)
        (fused : List RoundUnit)
        → (AreFree free unit.nodes → IsPlaced meaning graph round unit rest)
        → ArePlaced meaning graph round free rest → IsFused free limit unit rest fused
        → IsAsGood (before ++ firings_of (unit ∷ rest)) (before ++ firings_of fused)
    fused_good [] unit before fused placed later is =
        as_good_same _ _ (ap (λ (l : List RoundUnit). before ++ firings_of l) (sym is))
    fused_good (next ∷ rest) unit before fused placed later (inl (h, m, n, joins, is)) =
        let first = placed joins.first_free in
        let second = later.0 joins.second_free in
        as_good_then _ _ _
        (joined_good before unit next rest h m n joins.first_turns joins.second_turns first second)
        (fused_good rest (joined_unit h m n unit next) before fused
        (λ free_nodes. joined_placed h m n unit next rest joins.first_turns joins.second_turns
        first second) later.1 is)
    fused_good (next ∷ rest) unit before fused placed later (inr (apart, (others, same, is))) =
        as_good_then _ _ _
        (as_good_same _ _ (sym (append_assoc before (repeated unit.turns unit.nodes)
        (firings_of (next ∷ rest)))))
        (as_good_then _ _ _
        (fused_good rest next (before ++ repeated unit.turns unit.nodes) others later.0 later.1 is)
        (as_good_same _ _ (append_assoc before (repeated unit.turns unit.nodes)
        (firings_of others) ∙ ap (λ (l : List RoundUnit). before ++ firings_of l) (sym same))))

    pub fused_units : (units fused : List RoundUnit) → ArePlaced meaning graph round free units
        → AreFused free limit units fused → IsAsGood (firings_of units) (firings_of fused)
    fused_units [] fused placed is =
        as_good_same _ _ (ap firings_of (sym is))
    fused_units (unit ∷ rest) fused placed is =
        fused_good rest unit [] fused placed.0 placed.1 is
