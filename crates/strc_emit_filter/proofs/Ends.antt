-- Where arrays end, as more of them are looked at.
use Rattle.std.proofs.Common.{◌≡◌, ℕ, ◌+◌, ◌<◌, ◌≤◌, List, length, get_or, set, take, refl, subst}
use Rattle.std.proofs.Common.{get_or-set_other, get_or-set_same, arith}
use Rattle.std.proofs.Common.{inl, inr}
use Rattle.std.specs.List.{All}
use Rattle.std.proofs.Math.ListN.{length-set}
use Rattle.std.proofs.lemmas.Bool.{cases_eq}
use Rattle.std.proofs.lemmas.List.Elements.{All-more, All-weaker}
use Rattle.strc_emit_filter.specs.Arrays.{Raised, Reaches}

pub raised_same : (ends : List ℕ) → Raised ends ends
raised_same ends = record { same = refl; raised = λ slot. omega arith }

pub raised_then : (first second third : List ℕ) → Raised first second → Raised second third
    → Raised first third
raised_then first second third one other = record {
  same = omega (arith, one.same, other.same);
  raised = λ slot. omega (arith, one.raised slot, other.raised slot);
}

-- a longer array begins at a slot
pub raised_set : (ends : List ℕ) (at end : ℕ) → at < length ends → get_or ends at 0 ≤ end
    → Raised ends (set ends at end)
raised_set ends at end inside above = record {
  same = length-set ends at end;
  raised = λ slot. elim (cases_eq slot at) [
    | inl same ↦ omega (
      arith,
      get_or-set_same ends at end 0 inside,
      subst (λ place. get_or (set ends at end) slot 0 ≡ get_or (set ends at end) place 0) same refl,
      subst (λ place. get_or ends slot 0 ≡ get_or ends place 0) same refl,
    )
    | inr other ↦ omega (arith, get_or-set_other ends at slot end 0 other)
  ];
}

pub reaches_on : (before after : List ℕ) (base count : ℕ) → Raised before after
    → Reaches before base count → Reaches after base count
reaches_on before after base count raised is = λ one fits small.
    let same : length after ≡ length before = raised.same in
    omega (arith, raised.raised base, is one (omega arith) small)

-- what holds of some items by the ends, and stays so, holds of one more
pub each_more : {X : Type 0} (Is : List ℕ → X → Type 0)
    → ((before after : List ℕ) (item : X) → Raised before after → Is before item → Is after item)
    → (items : List X) (done : ℕ) (item : X) (before after : List ℕ) → done < length items
    → item ≡ get_or items done item → Raised before after → All (Is before) (take done items)
    → Is after item → All (Is after) (take (done + 1) items)
each_more Is on items done item before after below at raised so_far here =
    All-more (Is after) items done item below
    (All-weaker (Is before) (Is after) (λ x. on before after x raised) (take done items) so_far)
    (subst (Is after) at here)
