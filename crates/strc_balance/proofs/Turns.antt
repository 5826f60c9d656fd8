-- The spread, turn by turn: what is left to do from the fractions that are known gives the whole.
use Rattle.std.proofs.Common.{◌≡◌, ℕ, zero, suc, ◌+◌, ◌-◌, ◌<◌, true, false, List, length}
use Rattle.std.proofs.Common.{get_or, set, replicate, Option, Some, None, All}
use Rattle.std.proofs.Common.{sym, ap, subst, ◌∙◌, refl, arith}
use Rattle.std.specs.List.{list_any}
use Rattle.std.proofs.lemmas.Bool.{false≢true, true≢false}
use Rattle.std.proofs.lemmas.List.{length-set, get_or-set_same}
use Rattle.strc_balance.specs.declared.equation.Equation.{Equation}
use Rattle.strc_balance.specs.declared.fraction.Fraction.{Fraction}
use Rattle.strc_balance.specs.Balance.{Fractions, fraction_at, first_given, with_given, propagated}
use Rattle.strc_balance.specs.Balance.{one, start_fractions, spread, fraction_passes, HasRates}
use Rattle.strc_balance.specs.Frontiers.{Covers, CoversApart, IsIncidence, channels_at, Adds}
use Rattle.strc_balance.specs.NumberSets.{has_number, AllNumbers}
use Rattle.strc_balance.specs.Frontiers.{found_passes}
use Rattle.strc_balance.proofs.Divisors.{IsLowest}
use Rattle.strc_balance.proofs.Limits.{parts_within}
use Rattle.strc_balance.proofs.Spreading.{Known, Known-set, first_given-known, first_given-within}
use Rattle.strc_balance.proofs.Spreading.{propagated-stays, propagated-done, propagated-length}
use Rattle.strc_balance.proofs.Spreading.{start-known, start-length}
use Rattle.strc_balance.proofs.Solutions.{one-lowest, lowest_carries}
use Rattle.strc_balance.proofs.Frontiers.{Covers-learnt, CoversApart-start, adds_below}
use Rattle.strc_balance.proofs.Quantifiers.{list_any-set, list_any-holds}

pub record IsSpreading (size turn : ℕ) (equations : List Equation) (fractions : Fractions)
    (frontier : List ℕ) : Type 0 where
  pub size_is : length fractions ≡ size
  pub same : propagated (size - turn) equations fractions ≡ spread size equations
  pub lowest : Known (λ node fraction. IsLowest fraction) fractions
  pub within : list_any fraction_passes fractions ≡ false
  pub covers : Covers frontier fractions equations
  pub numbers : AllNumbers (λ channel. channel < length equations) frontier

-- at first

nothing_passes : (size : ℕ) → list_any fraction_passes (replicate size None) ≡ false
nothing_passes zero = refl
nothing_passes (suc size) = nothing_passes size

one_within : fraction_passes (Some one) ≡ false
one_within = parts_within one (omega arith) (omega arith)

pub spreading_start : (size : ℕ) (equations : List Equation) (fractions : Fractions)
    (lists : List (List ℕ)) (nobody frontier : List ℕ) → fractions ≡ replicate size None
    → IsIncidence lists equations → ((node : ℕ)
    → All (λ k. k < length equations) (channels_at lists node))
    → ((channel : ℕ) → has_number nobody channel ≡ false)
    → Adds (channels_at lists 0) nobody frontier
    → IsSpreading size 0 equations (set fractions 0 (Some one)) frontier
spreading_start size equations fractions lists nobody frontier is listed numbers none moved =
    let nothing : Fractions = replicate size None in
    subst (λ l. IsSpreading size 0 equations (set l 0 (Some one)) frontier) (sym is) (record {
      size_is = start-length size;
      same = (let all : size - 0 ≡ size = omega arith in
          ap (λ turns. propagated turns equations (start_fractions size)) all);
      lowest = start-known (λ node fraction. IsLowest fraction) size one-lowest;
      within = list_any-set fraction_passes nothing 0 (Some one) (nothing_passes size) one_within;
      covers = Covers-learnt lists nothing equations nobody frontier 0 one listed
          (CoversApart-start size 0 equations nobody) moved;
      numbers = adds_below (length equations) (channels_at lists 0) nobody frontier moved
          (λ channel has. absurd (true≢false (sym has ∙ none channel))) (numbers 0);
    })

-- a turn

pub spreading_next : (size turn : ℕ) (equations : List Equation) (fractions : Fractions)
    (lists : List (List ℕ)) (old middle frontier : List ℕ) (found : ℕ × Fraction) → turn < size
    → All (HasRates size) equations → IsIncidence lists equations
    → ((node : ℕ) → All (λ k. k < length equations) (channels_at lists node))
    → IsSpreading size turn equations fractions old → first_given fractions equations ≡ Some found
    → found_passes (Some found) ≡ false → CoversApart found.0 middle fractions equations
    → AllNumbers (λ k. k < length equations) middle
    → Adds (channels_at lists found.0) middle frontier
    → IsSpreading size (turn + 1) equations (set fractions found.0 (Some found.1)) frontier
spreading_next size turn equations fractions lists old middle frontier found below rates listed
    numbers before first within covers in_range moved =
    record {
      size_is = length-set fractions found.0 (Some found.1) ∙ before.size_is;
      same =
          (let turns : size - turn ≡ suc (size - (turn + 1)) = omega arith in
          ap (λ o. propagated (size - (turn + 1)) equations (with_given fractions o)) (sym first)
          ∙ ap (λ n. propagated n equations fractions) (sym turns)
          ∙ before.same);
      lowest = Known-set (λ node fraction. IsLowest fraction) fractions found.0 found.1
          before.lowest
          (first_given-known (λ node fraction. IsLowest fraction) fractions equations
          (λ k d in_list. lowest_carries size (get_or equations k d) (rates k d in_list))
          before.lowest found first);
      within = list_any-set fraction_passes fractions found.0 (Some found.1) before.within within;
      covers = Covers-learnt lists fractions equations middle frontier found.0 found.1 listed covers
          moved;
      numbers = adds_below (length equations) (channels_at lists found.0) middle frontier moved
          in_range (numbers found.0);
    }

-- where no equation gives another fraction, these are all
pub spreading_done : (size turn : ℕ) (equations : List Equation) (fractions : Fractions)
    (frontier : List ℕ) → IsSpreading size turn equations fractions frontier
    → first_given fractions equations ≡ None → fractions ≡ spread size equations
spreading_done size turn equations fractions frontier before none =
    sym (propagated-done (size - turn) equations fractions none) ∙ before.same

some_passes : (found : Option (ℕ × Fraction)) → found_passes found ≡ true
    → (q : ℕ × Fraction) × (found ≡ Some q)
some_passes None h = absurd (false≢true h)
some_passes (Some q) h = (q, refl)

-- where the next one passes the limit, one of the spread does
pub spreading_large : (size turn : ℕ) (equations : List Equation) (fractions : Fractions)
    (frontier : List ℕ) → turn < size → All (HasRates size) equations
    → IsSpreading size turn equations fractions frontier
    → found_passes (first_given fractions equations) ≡ true
    → list_any fraction_passes (spread size equations) ≡ true
spreading_large size turn equations fractions frontier below rates before passes =
    let some = some_passes (first_given fractions equations) passes in
    let node = some.0.0 in
    let fraction = some.0.1 in
    let turns : size - turn ≡ suc (size - (turn + 1)) = omega arith in
    let in_range : node < size = first_given-within size fractions equations rates some.0 some.1 in
    let size_is = before.size_is in
    let short : node < length fractions = omega arith in
    let next = set fractions node (Some fraction) in
    let at : fraction_at (propagated (size - (turn + 1)) equations next) node ≡ Some fraction =
    propagated-stays (size - (turn + 1)) equations next node fraction
    (get_or-set_same fractions node (Some fraction) None short) in
    let same : propagated (size - (turn + 1)) equations next ≡ spread size equations =
    ap (λ o. propagated (size - (turn + 1)) equations (with_given fractions o)) (sym some.1)
    ∙ ap (λ n. propagated n equations fractions) (sym turns) ∙ before.same in
    let in_spread : fraction_at (spread size equations) node ≡ Some fraction =
    ap (λ l. fraction_at l node) (sym same) ∙ at in
    let spread_length : length (propagated (size - (turn + 1)) equations next) ≡ size =
    propagated-length (size - (turn + 1)) equations next
    ∙ length-set fractions node (Some fraction) ∙ size_is in
    list_any-holds fraction_passes (spread size equations) node None
    (let e = ap length same in omega arith)
    (ap fraction_passes in_spread ∙ sym (ap found_passes some.1) ∙ passes)
