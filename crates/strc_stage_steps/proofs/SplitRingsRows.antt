-- Three stages of a small graph after fission.
use Rattle.std.proofs.Common.{◌≡◌, refl, sym, ◌∙◌, ℕ, Bool, false, List, [], ◌∷◌, inl, inr, arith}
use Rattle.std.proofs.lemmas.Bool.{false≢true}
use Rattle.std.proofs.lemmas.Nat.Gcd.{dvd_refl}
use Rattle.strc_elab_dataflow.specs.FusedUnits.{RoundUnit, IsFused}
use Rattle.strc_elab_dataflow.specs.Pieces.{unit_of}
use Rattle.strc_fuse.specs.Units.{is_free}
use Rattle.strc_stage_steps.specs.SplitRingsRows.{split, fused, SplitCutRow}

abbrev free : ℕ → Bool
free = is_free split

-- a unit whose node may not be fused stays as it is, and so does one before it
stays : (turns node : ℕ) (next : RoundUnit) (rest later : List RoundUnit) → free node ≡ false
    → IsFused free 2 next rest later
    → IsFused free 2 (unit_of turns node) (next ∷ rest) (unit_of turns node ∷ later)
stays turns node next rest later bound is =
    inr (λ h m n joins. false≢true (sym bound ∙ joins.first_free.0), (later, refl, is))

before : (turns node second other : ℕ) (rest later : List RoundUnit) → free other ≡ false
    → IsFused free 2 (unit_of second other) rest later
    → IsFused free 2 (unit_of turns node) (unit_of second other ∷ rest)
    (unit_of turns node ∷ later)
before turns node second other rest later bound is =
    inr (λ h m n joins. false≢true (sym bound ∙ joins.second_free.0), (later, refl, is))

abbrev joined : List RoundUnit
joined = record { turns = 1; nodes = 5 ∷ 6 ∷ [] } ∷ []

last_join : IsFused free 2 (unit_of 1 5) (unit_of 1 6 ∷ []) joined
last_join = inl (
  1,
  1,
  1,
  record {
    divides = (dvd_refl 1, dvd_refl 1, λ d x y. x);
    first_turns = refl;
    second_turns = refl;
    first_free = (refl, tt);
    second_free = (refl, tt);
    short = omega arith;
  },
  refl,
)

abbrev past_gather : List RoundUnit
past_gather = unit_of 1 5 ∷ unit_of 1 6 ∷ []

all_fused : IsFused free 2 (unit_of 4 0) (unit_of 1 1 ∷ unit_of 2 2 ∷ unit_of 2 3 ∷ unit_of 1 4
    ∷ past_gather) fused
all_fused =
    before 4 0 1 1 (unit_of 2 2 ∷ unit_of 2 3 ∷ unit_of 1 4 ∷ past_gather)
    (unit_of 1 1 ∷ unit_of 2 2 ∷ unit_of 2 3 ∷ unit_of 1 4 ∷ joined) refl
    (stays 1 1 (unit_of 2 2) (unit_of 2 3 ∷ unit_of 1 4 ∷ past_gather)
    (unit_of 2 2 ∷ unit_of 2 3 ∷ unit_of 1 4 ∷ joined) refl
    (stays 2 2 (unit_of 2 3) (unit_of 1 4 ∷ past_gather)
    (unit_of 2 3 ∷ unit_of 1 4 ∷ joined) refl
    (stays 2 3 (unit_of 1 4) past_gather (unit_of 1 4 ∷ joined) refl
    (stays 1 4 (unit_of 1 5) (unit_of 1 6 ∷ []) joined refl last_join))))

pub split_cut_row : SplitCutRow
split_cut_row = record {
  fusion = all_fused;
  bounds = refl;
  first = refl;
  second = refl;
  third = refl;
}
