-- The sweep over slots that makes those one array that overlap.
use Rattle.std.proofs.Common.{◌≡◌, ℕ, zero, suc, ◌+◌, ◌-◌, ◌<◌, ◌≤◌, max, List, [], ◌∷◌}
use Rattle.std.proofs.Common.{◌++◌, length, get_or, drop, cond, refl, sym, ap, ◌∙◌}
use Rattle.std.proofs.Common.{arith, below_more}
use Rattle.std.proofs.Common.{Option, Some, None, inl, inr}
use Rattle.std.proofs.lemmas.Bool.{cases_lt, eq-eqb, le-leb}
use Rattle.std.proofs.lemmas.List.{get_or-drop, get_or_append_left, get_or_push, length_push}
use Rattle.strc_emit_c.specs.Spelling.{begun_by}
use Rattle.strc_emit_filter.specs.Variables.{is_at, run_of}
use Rattle.strc_emit_filter.specs.Arrays.{AreJoined, AreOneArray}

-- each slot from one up to an end is in the array that begins there
abbrev pub AreIn : (arrays : List (Option ℕ)) → (from end : ℕ) → Type 0
AreIn arrays from end =
    (slot : ℕ) → from ≤ slot → slot < end → get_or arrays slot None ≡ Some from

-- the slots from a base up to an end are in one array
pub record IsCovered (arrays : List (Option ℕ)) (base end : ℕ) : Type 0 where
  pub from : ℕ
  pub begins : from ≤ base
  pub filled : AreIn arrays from end

-- so many slots are looked at: the last array begins at one of them, or behind; none that begins
-- among them ends behind the reach, and those before the last one end where it begins, or before
pub record AreSwept (ends : List ℕ) (done start reach : ℕ) (arrays : List (Option ℕ)) : Type 0
  where
    pub counted : length arrays ≡ done
    pub begun : start ≤ done
    pub within : (base : ℕ) → base < done → get_or ends base 0 ≤ reach
    pub apart : (base : ℕ) → base < start → get_or ends base 0 ≤ start
    pub current : (slot : ℕ) → start ≤ slot → slot < done → slot < reach
        → get_or arrays slot None ≡ Some start
    pub closed : (base : ℕ) → base < start → IsCovered arrays base (get_or ends base 0)

pub swept_none : (ends : List ℕ) (reach : ℕ) → AreSwept ends 0 0 reach []
swept_none ends reach = record {
  counted = refl;
  begun = omega arith;
  within = λ base below. absurd (omega arith);
  apart = λ base below. absurd (omega arith);
  current = λ slot from below inside. absurd (omega arith);
  closed = λ base below. absurd (omega arith);
}

-- what is covered stays so
covered_on : (arrays : List (Option ℕ)) (array : Option ℕ) (base end : ℕ) → end ≤ length arrays
    → IsCovered arrays base end → IsCovered (arrays ++ array ∷ []) base end
covered_on arrays array base end fits is = record {
  from = is.from;
  begins = is.begins;
  filled = λ slot from below. get_or_append_left arrays (array ∷ []) None slot (omega arith)
      ∙ is.filled slot from below;
}

-- the last array, where it ends before the slots that are looked at
last_covered : (ends : List ℕ) (done start reach : ℕ) (arrays : List (Option ℕ))
    → AreSwept ends done start reach arrays → reach ≤ done → (base : ℕ) → start ≤ base
    → base < done → IsCovered arrays base (get_or ends base 0)
last_covered ends done start reach arrays swept past base from below =
    let ended : get_or ends base 0 ≤ reach = swept.within base below in
    record {
      from = start;
      begins = from;
      filled = λ slot after before. swept.current slot after (omega arith) (omega arith);
    }

-- one more slot, at which the last array goes on or another one begins
pub swept_more : (ends : List ℕ) (done start reach : ℕ) (arrays : List (Option ℕ))
    (start' reach' : ℕ) (array : Option ℕ) → AreSwept ends done start reach arrays
    → (done < reach → start' ≡ start) → (reach ≤ done → start' ≡ done)
    → reach' ≡ max reach (get_or ends done 0) → (done < reach' → array ≡ Some start')
    → AreSwept ends (done + 1) start' reach' (arrays ++ array ∷ [])
swept_more ends done start reach arrays start' reach' array swept on anew reached is =
    let within : (base : ℕ) → base < done + 1 → get_or ends base 0 ≤ reach' = below_more _ done
    (λ base below. omega (arith, swept.within base below)) (omega arith) in
    elim (cases_lt done reach) [
      | inl inside ↦
          let same : start' ≡ start = on inside in
          record {
            counted = length_push arrays array ∙ ap (λ n. n + 1) swept.counted;
            begun = omega (arith, swept.begun);
            within = within;
            apart = λ base below. omega (arith, swept.apart base (omega arith));
            current = λ slot from below reached. below_more (λ (it : ℕ). start' ≤ it → it < reach'
                → get_or (arrays ++ array ∷ []) it None ≡ Some start') done
                (λ it before after near. get_or_append_left arrays (array ∷ []) None it
                (omega (arith, swept.counted))
                ∙ swept.current it (omega arith) before (omega arith) ∙ ap Some (sym same))
                (λ after near. get_or_push arrays array None done swept.counted ∙ is near)
                slot below from reached;
            closed = λ base below. covered_on arrays array base (get_or ends base 0)
                (omega (arith, swept.apart base (omega arith), swept.counted, swept.begun))
                (swept.closed base (omega arith));
          }
      | inr past ↦
          let same : start' ≡ done = anew past in
          record {
            counted = length_push arrays array ∙ ap (λ n. n + 1) swept.counted;
            begun = omega arith;
            within = within;
            apart = λ base below. omega (arith, swept.within base (omega arith));
            current = λ slot from below reached. below_more (λ (it : ℕ). start' ≤ it → it < reach'
                → get_or (arrays ++ array ∷ []) it None ≡ Some start') done
                (λ it before after near. absurd (omega arith))
                (λ after near. get_or_push arrays array None done swept.counted ∙ is near)
                slot below from reached;
            closed = λ base below. covered_on arrays array base (get_or ends base 0)
                (omega (arith, swept.within base (omega arith), swept.counted))
                (elim (cases_lt base start) [
                  | inl before ↦ swept.closed base before
                  | inr from ↦ last_covered ends done start reach arrays swept past base from
                      (omega arith)
                ]);
          }
    ]

-- how many slots an array has at the least
run_reaches : (from count : ℕ) (arrays : List (Option ℕ))
    → ((slot : ℕ) → slot < count → get_or arrays slot None ≡ Some from)
    → count ≤ run_of from arrays
run_reaches from zero arrays all = omega arith
run_reaches from (suc count) [] all =
    let none : None ≡ Some from = all 0 (omega arith) in
    absurd (cc)
run_reaches from (suc count) (array ∷ rest) all =
    let first : array ≡ Some from = all 0 (omega arith) in
    let one : run_of from (array ∷ rest) ≡ suc (run_of from rest) =
    ap (λ (it : Option ℕ). cond (is_at it from) (suc (run_of from rest)) 0) first
    ∙ ap (λ b. cond b (suc (run_of from rest)) 0) (eq-eqb from from refl) in
    omega (
      arith,
      one,
      run_reaches from count rest (λ slot below. all (suc slot) (omega arith)),
    )

begun_before : (slot from : ℕ) → from ≤ slot → begun_by slot (Some from) ≡ Some from
begun_before slot from before =
    ap (λ b. cond b (Some from) None) (le-leb from slot before)

-- slots that are covered are one array
pub covered_array : (arrays : List (Option ℕ)) (base count : ℕ)
    → IsCovered arrays base (base + count) → AreOneArray arrays base count
covered_array arrays base count is =
    let begins : is.from ≤ base = is.begins in
    record {
      from = is.from;
      begins = is.begins;
      each = λ slot below.
          ap (begun_by (base + slot)) (is.filled (base + slot) (omega arith) (omega arith))
          ∙ begun_before (base + slot) is.from (omega arith);
      room = omega (
        arith,
        run_reaches is.from (base + count - is.from) (drop is.from arrays) (λ slot below.
            get_or-drop is.from arrays slot None
            ∙ is.filled (is.from + slot) (omega arith) (omega arith)),
      );
    }

-- all slots are looked at
pub swept_joined : (ends : List ℕ) (start reach : ℕ) (arrays : List (Option ℕ))
    → AreSwept ends (length ends) start reach arrays → AreJoined ends arrays
swept_joined ends start reach arrays swept = λ base count one fits ended.
    covered_array arrays base count (elim (cases_lt base start) [
      | inl before ↦
          let is = swept.closed base before in
          record {
            from = is.from;
            begins = is.begins;
            filled = λ slot from below. is.filled slot from (omega arith);
          }
      | inr from ↦
          let reached : get_or ends base 0 ≤ reach = swept.within base (omega arith) in
          record {
            from = start;
            begins = from;
            filled = λ slot after below. swept.current slot after (omega arith) (omega arith);
          }
    ])
