-- A frontier that covers the channels that give a fraction: its lowest one that gives one is the
-- first of all, and what becomes of it.
use Rattle.std.proofs.Common.{◌≡◌, ◌≢◌, ℕ, zero, suc, ◌<◌, ◌≤◌, true, false, List, [], ◌∷◌, set}
use Rattle.std.proofs.Common.{replicate, Option, Some, None, slice_get, ◌++◌, All}
use Rattle.std.proofs.Common.{Contains, sym, ap, subst, ◌∙◌, refl, ◌⊎◌, inl, inr, arith}
use Rattle.std.specs.Option.{option_or}
use Rattle.std.proofs.lemmas.Bool.{cases_eq, false≢true, true≢false}
use Rattle.std.proofs.lemmas.List.{get_or-set_other}
use Rattle.std.proofs.lemmas.List.Elements.{All-contains, Contains-append_left, Contains-push}
use Rattle.std.proofs.lemmas.List.Elements.{Contains-push_cases}
use Rattle.std.proofs.lemmas.Option.{same_Some, none-some}
use Rattle.strc_balance.specs.declared.equation.Equation.{Equation}
use Rattle.strc_balance.specs.declared.fraction.Fraction.{Fraction}
use Rattle.strc_balance.specs.declared.error.BalanceError.{BalanceError}
use Rattle.strc_balance.specs.Balance.{Fractions, fraction_at, given_by, given, first_given}
use Rattle.strc_balance.specs.Frontiers.{found_passes, IsTooLarge, Covers, CoversApart, IsIncidence}
use Rattle.strc_balance.specs.Frontiers.{channels_at, Adds}
use Rattle.strc_balance.specs.NumberSets.{has_number, IsWith, IsWithout, AllNumbers}
use Rattle.strc_balance.proofs.Membership.{without_cases, without_old, with_old, with_own}
use Rattle.strc_balance.proofs.Membership.{with_cases}
use Rattle.strc_balance.proofs.Spreading.{given_by-unknown, nothing-known}

option_cases : {X : Type 0} (o : Option X) → (o ≡ None) ⊎ ((x : X) × (o ≡ Some x))
option_cases None = inl refl
option_cases (Some x) = inr (x, refl)

-- the first channel that gives a fraction

-- where no channel gives one
first_given-nothing : (fractions : Fractions) (equations : List Equation)
    → ((channel : ℕ) (equation : Equation) → slice_get equations channel ≡ Some equation
    → given fractions equation ≡ None) → first_given fractions equations ≡ None
first_given-nothing fractions [] none = refl
first_given-nothing fractions (e ∷ es) none =
    ap (λ o. option_or o (first_given fractions es)) (none zero e refl)
    ∙ first_given-nothing fractions es (λ channel equation is. none (suc channel) equation is)

-- where no lower one does
first_given-lowest : (fractions : Fractions) (equations : List Equation) (lowest : ℕ)
    (equation : Equation) → slice_get equations lowest ≡ Some equation
    → ((channel : ℕ) (other : Equation) → channel < lowest
    → slice_get equations channel ≡ Some other → given fractions other ≡ None)
    → (found : ℕ × Fraction) → given fractions equation ≡ Some found
    → first_given fractions equations ≡ Some found
first_given-lowest fractions [] lowest equation is none found gives = absurd (none-some equation is)
first_given-lowest fractions (e ∷ es) zero equation is none found gives =
    ap (λ o. option_or o (first_given fractions es))
    (ap (given fractions) (same_Some e equation is) ∙ gives)
first_given-lowest fractions (e ∷ es) (suc lowest) equation is none found gives =
    ap (λ o. option_or o (first_given fractions es)) (none zero e (omega arith) refl)
    ∙ first_given-lowest fractions es lowest equation is
    (λ channel other below at. none (suc channel) other (omega arith) at) found gives

pub first_given-empty : (fractions : Fractions) (equations : List Equation) (frontier : List ℕ)
    → Covers frontier fractions equations → ((channel : ℕ) → has_number frontier channel ≡ false)
    → first_given fractions equations ≡ None
first_given-empty fractions equations frontier covers nobody =
    first_given-nothing fractions equations (λ channel equation is.
    elim (option_cases (given fractions equation)) [
      | inl none ↦ none
      | inr some ↦ absurd (true≢false
          (sym (covers channel equation some.0 is some.1) ∙ nobody channel))
    ])

-- the lowest channel of a frontier gives the first fraction, if it gives one
pub first_given-taken : (fractions : Fractions) (equations : List Equation) (frontier : List ℕ)
    (channel : ℕ) (equation : Equation) (found : ℕ × Fraction) → Covers frontier fractions equations
    → AllNumbers (λ other. channel ≤ other) frontier
    → slice_get equations channel ≡ Some equation → given fractions equation ≡ Some found
    → first_given fractions equations ≡ Some found
first_given-taken fractions equations frontier channel equation found covers lowest is gives =
    first_given-lowest fractions equations channel equation is
    (λ lower other below at.
    elim (option_cases (given fractions other)) [
      | inl none ↦ none
      | inr some ↦
          let above = lowest lower (covers lower other some.0 at some.1) in
          absurd (omega (arith, above, below))
    ])
    found gives

-- it passes the limit where what the lowest channel gives does
some_passes : (found : Option (ℕ × Fraction)) → found_passes found ≡ true
    → (q : ℕ × Fraction) × (found ≡ Some q)
some_passes None h = absurd (false≢true h)
some_passes (Some q) h = (q, refl)

pub first_given-passes : (fractions : Fractions) (equations : List Equation) (frontier : List ℕ)
    (channel : ℕ) (equation : Equation) → Covers frontier fractions equations
    → AllNumbers (λ other. channel ≤ other) frontier
    → slice_get equations channel ≡ Some equation → (refusal : BalanceError)
    → IsTooLarge (found_passes (given fractions equation)) refusal
    → IsTooLarge (found_passes (first_given fractions equations)) refusal
first_given-passes fractions equations frontier channel equation covers lowest is refusal large =
    let some = some_passes (given fractions equation) large.passes in
    let same = first_given-taken fractions equations frontier channel equation some.0 covers lowest
    is some.1 in
    record { is = large.is; passes = ap found_passes (same ∙ sym some.1) ∙ large.passes }

-- the frontier without it

-- a channel that gives nothing can go
pub Covers-skipped : (fractions : Fractions) (equations : List Equation) (old new : List ℕ)
    (channel : ℕ) (equation : Equation) → Covers old fractions equations
    → IsWithout channel old new → slice_get equations channel ≡ Some equation
    → given fractions equation ≡ None → Covers new fractions equations
Covers-skipped fractions equations old new channel equation covers moved is none other
    other_equation found at gives =
    elim (without_cases channel old new moved other
    (covers other other_equation found at gives)) [
      | inl same ↦
          let e : equation ≡ other_equation =
          same_Some equation other_equation (sym is ∙ ap (slice_get equations) (sym same) ∙ at) in
          absurd (none-some found (sym none ∙ ap (given fractions) e ∙ gives))
      | inr later ↦ later
    ]

-- one that gives a fraction has an end at its node
pub CoversApart-taken : (fractions : Fractions) (equations : List Equation) (old new : List ℕ)
    (channel : ℕ) (equation : Equation) (found : ℕ × Fraction) → Covers old fractions equations
    → IsWithout channel old new → slice_get equations channel ≡ Some equation
    → given fractions equation ≡ Some found → CoversApart found.0 new fractions equations
CoversApart-taken fractions equations old new channel equation found covers moved is gives other
    other_equation other_found at no_source no_target other_gives =
    elim (without_cases channel old new moved other
    (covers other other_equation other_found at other_gives)) [
      | inl same ↦
          let e : equation ≡ other_equation =
          same_Some equation other_equation (sym is ∙ ap (slice_get equations) (sym same) ∙ at) in
          elim (given_by-unknown equation (fraction_at fractions equation.source)
          (fraction_at fractions equation.target) found gives) [
            | inl h ↦ absurd (no_target (ap (λ q. q.target) (sym e) ∙ sym h.0))
            | inr h ↦ absurd (no_source (ap (λ q. q.source) (sym e) ∙ sym h.0))
          ]
      | inr later ↦ later
    ]

-- the numbers in it
pub All-taken : (bound : ℕ) (old new : List ℕ) (channel : ℕ) → has_number old channel ≡ true
    → IsWithout channel old new → AllNumbers (λ k. k < bound) old
    → (channel < bound) × AllNumbers (λ k. k < bound) new
All-taken bound old new channel there moved all = (
  all channel there,
  λ k has. all k (without_old channel old new moved k has),
)

-- one more node

given-other : (fractions : Fractions) (node : ℕ) (fraction : Fraction) (equation : Equation)
    → equation.source ≢ node → equation.target ≢ node
    → given (set fractions node (Some fraction)) equation ≡ given fractions equation
given-other fractions node fraction equation no_source no_target =
    ap (λ o. given_by o (fraction_at (set fractions node (Some fraction)) equation.target) equation)
    (get_or-set_other fractions node equation.source (Some fraction) None no_source)
    ∙ ap (λ o. given_by (fraction_at fractions equation.source) o equation)
    (get_or-set_other fractions node equation.target (Some fraction) None no_target)

-- with the channels at a node that has become known, a frontier that covered the others covers all
pub Covers-learnt : (lists : List (List ℕ)) (fractions : Fractions) (equations : List Equation)
    (old new : List ℕ) (node : ℕ) (fraction : Fraction) → IsIncidence lists equations
    → CoversApart node old fractions equations
    → Adds (channels_at lists node) old new
    → Covers new (set fractions node (Some fraction)) equations
Covers-learnt lists fractions equations old new node fraction listed covers added channel equation
    found is gives =
    elim (cases_eq equation.source node) [
      | inl at_source ↦ added.added channel
          (subst (λ n. Contains (channels_at lists n) channel) at_source
          (listed channel equation is).0)
      | inr no_source ↦ elim (cases_eq equation.target node) [
        | inl at_target ↦ added.added channel
            (subst (λ n. Contains (channels_at lists n) channel) at_target
            (listed channel equation is).1)
        | inr no_target ↦ added.kept channel
            (covers channel equation found is no_source no_target
            (sym (given-other fractions node fraction equation no_source no_target) ∙ gives))
      ]
    ]

-- at first nothing gives a fraction
pub CoversApart-start : (size node : ℕ) (equations : List Equation) (frontier : List ℕ)
    → CoversApart node frontier (replicate size None) equations
CoversApart-start size node equations frontier channel equation found is no_source no_target gives =
    absurd (none-some found (sym
    (ap (λ o. given_by o (fraction_at (replicate size None) equation.target) equation)
    (nothing-known size equation.source)
    ∙ ap (λ o. given_by None o equation) (nothing-known size equation.target)) ∙ gives))

-- channels added one after another
pub adds_none : (frontier : List ℕ) → Adds [] frontier frontier
adds_none frontier = record {
  kept = λ channel has. has;
  added = λ channel there. absurd (let below = there.1 in omega arith);
  only = λ channel has. inl has;
}

pub adds_one : (channels old middle new : List ℕ) (channel : ℕ) → Adds channels old middle
    → IsWith channel middle new → Adds (channels ++ channel ∷ []) old new
adds_one channels old middle new channel adds with = record {
  kept = λ other has. with_old channel middle new with other (adds.kept other has);
  added = λ other there.
      elim (Contains-push_cases channels channel other there) [
        | inl earlier ↦ with_old channel middle new with other (adds.added other earlier)
        | inr same ↦ ap (has_number new) (sym same) ∙ with_own channel middle new with
      ];
  only = λ other has.
      elim (with_cases channel middle new with other has) [
        | inl same ↦ inr (subst (Contains (channels ++ channel ∷ [])) (sym same)
            (Contains-push channels channel))
        | inr earlier ↦ elim (adds.only other earlier) [
          | inl was ↦ inl was
          | inr there ↦ inr (Contains-append_left channels (channel ∷ []) other there)
        ]
      ];
}

pub adds_below : (bound : ℕ) (channels old new : List ℕ) → Adds channels old new
    → AllNumbers (λ k. k < bound) old → All (λ k. k < bound) channels
    → AllNumbers (λ k. k < bound) new
adds_below bound channels old new adds below all k has =
    elim (adds.only k has) [
      | inl was ↦ below k was
      | inr there ↦ All-contains (λ n. n < bound) channels k all there
    ]
