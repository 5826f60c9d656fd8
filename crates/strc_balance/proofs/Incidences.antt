-- Lists of channels by node, with one more channel at a node.
use Rattle.std.proofs.Common.{◌≡◌, ◌≢◌, ℕ, ◌<◌, ◌+◌, List, [], ◌∷◌, ◌++◌, length, set, get_or, Some}
use Rattle.std.proofs.Common.{slice_get, replicate, All, Contains, sym, ap, subst, ◌∙◌, inl, inr}
use Rattle.std.proofs.Common.{arith}
use Rattle.std.proofs.lemmas.Bool.{cases_eq, cases_lt}
use Rattle.std.proofs.lemmas.List.{get_or-set_same, get_or-set_other, get_or-replicate, get_or_past}
use Rattle.std.proofs.lemmas.List.{length-replicate, length-set}
use Rattle.std.proofs.lemmas.List.Elements.{All-push, All-nil, Contains-append_left, Contains-push}
use Rattle.std.proofs.lemmas.Option.{same_Some, slice_get-get_or}
use Rattle.strc_balance.specs.declared.equation.Equation.{Equation}
use Rattle.strc_balance.specs.Frontiers.{channels_at}

-- the lists with one more channel
abbrev pub with_channel : List (List ℕ) → ℕ → ℕ → List (List ℕ)
with_channel lists node channel = set lists node (channels_at lists node ++ channel ∷ [])

at_same : (lists : List (List ℕ)) (node channel : ℕ) → node < length lists
    → channels_at (with_channel lists node channel) node ≡ channels_at lists node ++ channel ∷ []
at_same lists node channel within = get_or-set_same lists node
    (channels_at lists node ++ channel ∷ []) [] within

at_other : (lists : List (List ℕ)) (node channel other : ℕ) → other ≢ node
    → channels_at (with_channel lists node channel) other ≡ channels_at lists other
at_other lists node channel other apart =
    get_or-set_other lists node other (channels_at lists node ++ channel ∷ []) [] apart

pub added-has : (lists : List (List ℕ)) (node channel : ℕ) → node < length lists
    → Contains (channels_at (with_channel lists node channel) node) channel
added-has lists node channel within = subst (λ l. Contains l channel)
    (sym (at_same lists node channel within)) (Contains-push (channels_at lists node) channel)

pub added-keeps : (lists : List (List ℕ)) (node channel other k : ℕ) → node < length lists
    → Contains (channels_at lists other) k
    → Contains (channels_at (with_channel lists node channel) other) k
added-keeps lists node channel other k within h =
    elim (cases_eq other node) [
      | inl same ↦
          subst (λ n. Contains (channels_at (with_channel lists node channel) n) k) (sym same)
          (subst (λ l. Contains l k) (sym (at_same lists node channel within))
          (Contains-append_left (channels_at lists node) (channel ∷ []) k
          (subst (λ n. Contains (channels_at lists n) k) same h)))
      | inr apart ↦ subst (λ l. Contains l k) (sym (at_other lists node channel other apart)) h
    ]

pub added-numbers : (lists : List (List ℕ)) (node channel bound : ℕ) → node < length lists
    → channel < bound → ((n : ℕ) → All (λ k. k < bound) (channels_at lists n)) → (other : ℕ)
    → All (λ k. k < bound) (channels_at (with_channel lists node channel) other)
added-numbers lists node channel bound within below all other =
    elim (cases_eq other node) [
      | inl same ↦
          subst (λ n. All (λ k. k < bound) (channels_at (with_channel lists node channel) n))
          (sym same)
          (subst (λ l. All (λ k. k < bound) l) (sym (at_same lists node channel within))
          (All-push (λ k. k < bound) (channels_at lists node) channel (all node) below))
      | inr apart ↦ subst (λ l. All (λ k. k < bound) l)
          (sym (at_other lists node channel other apart)) (all other)
    ]

-- no channels
pub none-numbers : (size bound node : ℕ)
    → All (λ k. k < bound) (channels_at (replicate size []) node)
none-numbers size bound node =
    elim (cases_lt node size) [
      | inl within ↦ subst (λ l. All (λ k. k < bound) l)
          (sym (get_or-replicate size node [] [] within)) (All-nil (λ k. k < bound))
      | inr past ↦ subst (λ l. All (λ k. k < bound) l)
          (sym (let nothing : List ℕ = [] in
          get_or_past (replicate size nothing) node nothing
          (let e = length-replicate size nothing in omega arith))) (All-nil (λ k. k < bound))
    ]

-- the channels below a number are listed at both ends
pub record AreListed (lists : List (List ℕ)) (equations : List Equation) (below : ℕ) : Type 0 where
  pub source : (channel : ℕ) (equation : Equation) → channel < below
      → slice_get equations channel ≡ Some equation
      → Contains (channels_at lists equation.source) channel
  pub target : (channel : ℕ) (equation : Equation) → channel < below
      → slice_get equations channel ≡ Some equation
      → Contains (channels_at lists equation.target) channel

pub AreListed-more : (lists : List (List ℕ)) (equations : List Equation) (below : ℕ)
    (default : Equation) → below < length equations
    → (get_or equations below default).source < length lists
    → (get_or equations below default).target < length lists → AreListed lists equations below
    → AreListed (with_channel (with_channel lists (get_or equations below default).source below)
    (get_or equations below default).target below) equations (below + 1)
AreListed-more lists equations below default in_range source_in target_in listed =
    let e = get_or equations below default in
    let middle = with_channel lists e.source below in
    let target_middle : e.target < length middle = let same =
    length-set lists e.source (channels_at lists e.source ++ below ∷ []) in omega arith in
    let here : slice_get equations below ≡ Some e =
    slice_get-get_or equations below default in_range in
    let same_at = λ (channel : ℕ) (equation : Equation) (same : channel ≡ below)
    (is : slice_get equations channel ≡ Some equation). same_Some e equation
    (sym here ∙ ap (slice_get equations) (sym same) ∙ is) in
    record {
      source = λ channel equation bound is.
          elim (cases_eq channel below) [
            | inl same ↦
                let eq = same_at channel equation same is in
                subst (λ q. Contains (channels_at (with_channel middle e.target below) q.source)
                channel) eq
                (subst (λ k. Contains (channels_at (with_channel middle e.target below) e.source) k)
                (sym same)
                (added-keeps middle e.target below e.source below target_middle
                (added-has lists e.source below source_in)))
            | inr apart ↦
                added-keeps middle e.target below equation.source channel target_middle
                (added-keeps lists e.source below equation.source channel source_in
                (listed.source channel equation (omega arith) is))
          ];
      target = λ channel equation bound is.
          elim (cases_eq channel below) [
            | inl same ↦
                let eq = same_at channel equation same is in
                subst (λ q. Contains (channels_at (with_channel middle e.target below) q.target)
                channel) eq
                (subst (λ k. Contains (channels_at (with_channel middle e.target below) e.target) k)
                (sym same)
                (added-has middle e.target below target_middle))
            | inr apart ↦
                added-keeps middle e.target below equation.target channel target_middle
                (added-keeps lists e.source below equation.target channel source_in
                (listed.target channel equation (omega arith) is))
          ];
    }
