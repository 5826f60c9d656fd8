-- One unit more of a round: what the last unit so far becomes, and when two units join.
use Rattle.std.proofs.Common.{◌≡◌, refl, sym, ap, ◌∙◌, subst, ℕ, zero, suc, ◌+◌, ◌*◌, ◌/◌, ◌<◌, ◌≤◌}
use Rattle.std.proofs.Common.{Bool, List, [], ◌∷◌, ◌++◌, length, arith, append_assoc, length-append}
use Rattle.std.proofs.Common.{append-nil}
use Rattle.std.proofs.Common.{inl, inr, ◌⊎◌}
use Rattle.std.specs.Int.{IsGcd}
use Rattle.std.proofs.lemmas.Bool.{cases_lt}
use Rattle.std.proofs.lemmas.Nat.Gcd.{same_from_IsGcd}
use Rattle.std.proofs.Math.Nat.{mul-div_cancel_left}
use Rattle.strc_elab_dataflow.specs.Fused.{repeated}
use Rattle.strc_elab_dataflow.specs.FusedUnits.{RoundUnit, AreFree, Joins, IsFused, joined_unit}
use Rattle.strc_fuse.specs.Steps.{AreShares, AreTooLong, GoesOn}
use Rattle.strc_fuse.specs.declared.unit_join.Shares.{Shares}

cancel : (h x y : ℕ) → 0 < h → h * x ≡ h * y → x ≡ y
cancel h x y some e =
    sym (mul-div_cancel_left x some) ∙ ap (λ (k : ℕ). k / h) e ∙ mul-div_cancel_left y some

pub length_repeated : (turns : ℕ) (nodes : List ℕ)
    → length (repeated turns nodes) ≡ turns * length nodes
length_repeated zero nodes = omega arith
length_repeated (suc turns) nodes = omega (
  arith,
  length-append nodes (repeated turns nodes),
  length_repeated turns nodes,
)

pub repeated_more : (turns : ℕ) (nodes : List ℕ)
    → repeated (turns + 1) nodes ≡ repeated turns nodes ++ nodes
repeated_more zero nodes = append-nil nodes
repeated_more (suc turns) nodes =
    ap (λ (n : ℕ). repeated n nodes)
    (let e : suc turns + 1 ≡ suc (turns + 1) = omega arith in e)
    ∙ ap (λ (l : List ℕ). nodes ++ l) (repeated_more turns nodes)
    ∙ sym (append_assoc nodes (repeated turns nodes) nodes)

length_joined : (m n : ℕ) (first second : List ℕ)
    → length (repeated m first ++ repeated n second) ≡ m * length first + n * length second
length_joined m n first second = omega (
  arith,
  length-append (repeated m first) (repeated n second),
  length_repeated m first,
  length_repeated n second,
)

-- two units whose nodes may be fused join where their list isn't too long
pub shares_join : (free : ℕ → Bool) (limit : ℕ) (unit next : RoundUnit) (shares : Shares)
    → AreShares limit unit next shares → AreFree free unit.nodes → AreFree free next.nodes
    → Joins free limit unit next shares.turns shares.first shares.second
shares_join free limit unit next shares are first second = record {
  divides = are.divides;
  first_turns = are.first_turns;
  second_turns = are.second_turns;
  first_free = first;
  second_free = second;
  short = omega (
    arith,
    are.short,
    length_joined shares.first shares.second unit.nodes next.nodes,
  );
}

-- and in no other case
module _ (limit : ℕ) (unit next : RoundUnit) (shares : Shares)
    (divides : IsGcd unit.turns next.turns shares.turns)
    (first_turns : unit.turns ≡ shares.turns * shares.first)
    (second_turns : next.turns ≡ shares.turns * shares.second)
    (none : shares.turns ≡ 0 → (shares.first ≡ 0) × (shares.second ≡ 0))
    (long : limit < shares.first * length unit.nodes + shares.second * length next.nodes) where
  some_turns : (0 < shares.turns) ⊎ (shares.turns ≤ 0) → 0 < shares.turns
  some_turns (inl some) = some
  some_turns (inr zero_turns) =
      let (first, second) = none (omega (arith, zero_turns)) in
      absurd (omega (
        arith,
        long,
        ap (λ (k : ℕ). k * length unit.nodes) first,
        ap (λ (k : ℕ). k * length next.nodes) second,
      ))

  pub too_long : AreTooLong limit unit next
  too_long free h m n joins =
      let some = some_turns (cases_lt 0 shares.turns) in
      let same : h ≡ shares.turns =
      same_from_IsGcd unit.turns next.turns h shares.turns joins.divides divides in
      let first : m ≡ shares.first = cancel shares.turns m shares.first some
      (ap (λ (k : ℕ). k * m) (sym same) ∙ sym joins.first_turns ∙ first_turns) in
      let second : n ≡ shares.second = cancel shares.turns n shares.second some
      (ap (λ (k : ℕ). k * n) (sym same) ∙ sym joins.second_turns ∙ second_turns) in
      absurd (omega (
        arith,
        joins.short,
        length_joined m n unit.nodes next.nodes,
        long,
        ap (λ (k : ℕ). k * length unit.nodes) first,
        ap (λ (k : ℕ). k * length next.nodes) second,
      ))

module _ (free : ℕ → Bool) (limit : ℕ) (first : RoundUnit) (later : List RoundUnit) where
  -- what a last unit and those after it become goes behind the units before it
  abbrev pub Continues : (before : List RoundUnit) (last : RoundUnit) (rest : List RoundUnit)
      → Type 0
  Continues before last rest = (end : List RoundUnit) → IsFused free limit last rest end
      → IsFused free limit first later (before ++ end)

  pub continues_first : Continues [] first later
  continues_first end is = is

  pub continues_then : (before after rest : List RoundUnit) (last next now : RoundUnit)
      → Continues before last (next ∷ rest) → GoesOn free limit before last next after now
      → Continues after now rest
  continues_then before after rest last next now goes_on (inl (h, m, n, joins, is, same)) end
      fused =
      subst (λ (l : List RoundUnit). IsFused free limit first later (l ++ end)) (sym same)
      (goes_on end (inl (
        h,
        m,
        n,
        joins,
        subst (λ (u : RoundUnit). IsFused free limit u rest end) is fused,
      )))
  continues_then before after rest last next now goes_on (inr (apart, is, same)) end fused =
      subst (λ (l : List RoundUnit). IsFused free limit first later (l ++ end)) (sym same)
      (subst (IsFused free limit first later) (sym (append_assoc before (last ∷ []) end))
      (goes_on (last ∷ end) (inr (
        apart,
        (
          end,
          refl,
          subst (λ (u : RoundUnit). IsFused free limit u rest end) is fused,
        ),
      ))))

  pub continues_all : (before : List RoundUnit) (last : RoundUnit) → Continues before last []
      → IsFused free limit first later (before ++ last ∷ [])
  continues_all before last goes_on = goes_on (last ∷ []) refl
