-- Units are fused in one way, and with lists of no entries not at all.
use Rattle.std.proofs.Common.{◌≡◌, refl, sym, ap, ◌∙◌, subst, ℕ, zero, suc, ◌+◌, ◌*◌, ◌/◌, ◌<◌, ◌≤◌}
use Rattle.std.proofs.Common.{Bool, List, [], ◌∷◌, ◌++◌, length, arith, inl, inr, length-append}
use Rattle.std.proofs.lemmas.Nat.Gcd.{same_from_IsGcd}
use Rattle.std.proofs.Math.Nat.{mul-div_cancel_left}
use Rattle.strc_elab_dataflow.specs.Fused.{repeated}
use Rattle.strc_elab_dataflow.specs.FusedUnits.{RoundUnit, Joins, IsFused, joined_unit}
use Rattle.strc_fuse.specs.Laws.{FiresNodes, AllFireNodes, OneFusion, NothingFused}
use Rattle.strc_fuse.proofs.Steps.{length_repeated}

cancel : (h x y : ℕ) → 0 < h → h * x ≡ h * y → x ≡ y
cancel h x y some e =
    sym (mul-div_cancel_left x some) ∙ ap (λ (k : ℕ). k / h) e ∙ mul-div_cancel_left y some

some_times : (h m n : ℕ) → 0 < n → n ≡ h * m → 0 < h
some_times zero m n some e = omega (arith, some, e)
some_times (suc h) m n some e = omega arith

times_some : (h m n : ℕ) → 0 < n → n ≡ h * m → 0 < m
times_some h zero n some e = omega (arith, some, e)
times_some h (suc m) n some e = omega arith

some_product : (m n : ℕ) → 0 < m → 0 < n → 0 < m * n
some_product (suc m) n some more = omega (arith, more)
some_product zero n some more = absurd (omega (arith, some))

module _ (free : ℕ → Bool) (limit : ℕ) where
  joined_fires : (h m n : ℕ) (unit next : RoundUnit) → Joins free limit unit next h m n
      → FiresNodes unit → FiresNodes (joined_unit h m n unit next)
  joined_fires h m n unit next joins fires = record {
    turns = some_times h m unit.turns fires.turns joins.first_turns;
    nodes = omega (
      arith,
      length-append (repeated m unit.nodes) (repeated n next.nodes),
      length_repeated m unit.nodes,
      some_product m (length unit.nodes)
          (times_some h m unit.turns fires.turns joins.first_turns) fires.nodes,
    );
  }

  joined_same : (h m n k i j : ℕ) (unit next : RoundUnit) → Joins free limit unit next h m n
      → Joins free limit unit next k i j → FiresNodes unit
      → joined_unit h m n unit next ≡ joined_unit k i j unit next
  joined_same h m n k i j unit next one other fires =
      let e : h ≡ k =
      same_from_IsGcd unit.turns next.turns h k one.divides other.divides in
      let some = some_times h m unit.turns fires.turns one.first_turns in
      let f : m ≡ i = cancel h m i some (sym one.first_turns ∙ other.first_turns
      ∙ ap (λ (c : ℕ). c * i) (sym e)) in
      let g : n ≡ j = cancel h n j some (sym one.second_turns ∙ other.second_turns
      ∙ ap (λ (c : ℕ). c * j) (sym e)) in
      ap (λ (c : ℕ). joined_unit c m n unit next) e
      ∙ ap (λ (c : ℕ). joined_unit k c n unit next) f
      ∙ ap (λ (c : ℕ). joined_unit k i c unit next) g

  one_from : (rest : List RoundUnit) (unit : RoundUnit) (one other : List RoundUnit)
      → FiresNodes unit → AllFireNodes rest → IsFused free limit unit rest one
      → IsFused free limit unit rest other → one ≡ other
  one_from [] unit one other fires all is also = is ∙ sym also
  one_from (next ∷ rest) unit one other fires all (inl (h, m, n, joins, is))
      (inl (k, i, j, also, there)) =
      one_from rest (joined_unit h m n unit next) one other
      (joined_fires h m n unit next joins fires) all.1 is
      (subst (λ (u : RoundUnit). IsFused free limit u rest other)
      (sym (joined_same h m n k i j unit next joins also fires)) there)
  one_from (next ∷ rest) unit one other fires all (inl (h, m, n, joins, is)) (inr (apart, there)) =
      absurd (apart h m n joins)
  one_from (next ∷ rest) unit one other fires all (inr (apart, there)) (inl (h, m, n, joins, is)) =
      absurd (apart h m n joins)
  one_from (next ∷ rest) unit one other fires all (inr (apart, (later, same, is)))
      (inr (also, (others, alike, there))) =
      same ∙ ap (λ (l : List RoundUnit). unit ∷ l)
      (one_from rest next later others all.0 all.1 is there)
      ∙ sym alike

pub one_fusion : OneFusion
one_fusion free limit [] one other all is also = is ∙ sym also
one_fusion free limit (unit ∷ rest) one other all is also =
    one_from free limit rest unit one other all.0 all.1 is also

module _ (free : ℕ → Bool) where
  none_from : (rest : List RoundUnit) (unit : RoundUnit) (fused : List RoundUnit)
      → FiresNodes unit → AllFireNodes rest → IsFused free 0 unit rest fused
      → fused ≡ unit ∷ rest
  none_from [] unit fused fires all is = is
  none_from (next ∷ rest) unit fused fires all (inl (h, m, n, joins, is)) =
      let nodes = (joined_fires free 0 h m n unit next joins fires).nodes in
      absurd (omega (arith, nodes, joins.short))
  none_from (next ∷ rest) unit fused fires all (inr (apart, (later, same, is))) =
      same ∙ ap (λ (l : List RoundUnit). unit ∷ l) (none_from rest next later all.0 all.1 is)

pub nothing_fused : NothingFused
nothing_fused free [] fused all is = is
nothing_fused free (unit ∷ rest) fused all is = none_from free rest unit fused all.0 all.1 is
