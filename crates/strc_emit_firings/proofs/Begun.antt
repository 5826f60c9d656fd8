-- The memory at the beginning of a call shows the machine there.
use Rattle.std.proofs.Common.{◌≡◌, ℕ, zero, suc, ◌+◌, ◌-◌, ◌<◌, ◌≤◌, ℤ, pos}
use Rattle.std.proofs.Common.{cond, List, ◌∷◌, ◌++◌, length, get_or, refl, sym}
use Rattle.std.proofs.Common.{ap, ◌∙◌, arith, ◌⊎◌, inl, inr, nat_lt, append-nil}
use Rattle.std.proofs.Common.{length-append}
use Rattle.std.proofs.lemmas.Bool.{cases_lt, lt-ltb, le-ltb}
use Rattle.std.proofs.lemmas.List.{get_or_append_left, get_or-append_right}
use Rattle.strc_work_meaning.specs.Firing.{no_traffic, no_io, turn_limit}
use Rattle.strc_work_code.specs.Machine.{Machine, slot_value}
use Rattle.strc_emit_c.specs.C.{Turns}
use Rattle.strc_emit_c.specs.Meaning.{Field, Local, Counted, Memory, Standing}
use Rattle.strc_emit_c.specs.Meaning.{slot_cell, values_at}
use Rattle.strc_emit_meaning.specs.Showing.{Shows}
use Rattle.strc_emit_meaning.proofs.Cells.{field_cell, local_cell}
use Rattle.strc_emit_firings.specs.Functions.{Unset, local_at_call, called_with}
use Rattle.strc_emit_firings.proofs.Composing.{values_count, values_get}

module _ (stand : Standing) (values held : List ℤ) (unset : Unset) (size turns : ℕ)
    (entered : Memory) (count_is : length held ≡ stand.fields)
    (fits : stand.fields + (2 + length values) ≤ size)
    (held_in : (slot : ℕ) → slot < stand.fields
    → entered.cells (Field stand.node slot) ≡ get_or held slot (pos 0))
    (turning : entered.cells (Counted Turns) ≡ pos turns) (few : turns ≤ turn_limit) where
  abbrev pub begun : Memory
  begun = called_with stand.fields values unset entered

  abbrev own : ℕ
  own = stand.fields + (2 + length values)

  -- what no argument is put into
  abbrev pub others : List ℤ
  others = values_at stand own (size - own) begun

  abbrev pub first_slots : List ℤ
  first_slots = held ++ ((pos 0 ∷ pos 0 ∷ values) ++ others)

  abbrev pub first_machine : Machine
  first_machine = record { slots = first_slots; traffic = record no_traffic { turns = turns } }

  pub first_count : length first_slots ≡ size
  first_count =
      omega (
        arith,
        length-append held ((pos 0 ∷ pos 0 ∷ values) ++ others),
        count_is,
        fits,
        length-append values others,
        values_count stand own (size - own) begun,
      )

  -- the local so many after the fields
  abbrev local_value : ℕ → ℤ
  local_value place = local_at_call stand.fields values (unset entered) (stand.fields + place)

  answer_is : (place : ℕ) → place < 2 → local_value place ≡ pos 0
  answer_is place lt =
      ap (λ t. cond t (pos 0)
      (cond (nat_lt (stand.fields + place) (stand.fields + (2 + length values)))
      (get_or values (stand.fields + place - (stand.fields + 2)) (pos 0))
      (unset entered (stand.fields + place))))
      (lt-ltb (stand.fields + place) (stand.fields + 2) (omega (arith, lt)))

  later_is : (place : ℕ) → 2 ≤ place → local_value place
      ≡ cond (nat_lt (stand.fields + place) (stand.fields + (2 + length values)))
      (get_or values (stand.fields + place - (stand.fields + 2)) (pos 0))
      (unset entered (stand.fields + place))
  later_is place from =
      ap (λ t. cond t (pos 0)
      (cond (nat_lt (stand.fields + place) (stand.fields + (2 + length values)))
      (get_or values (stand.fields + place - (stand.fields + 2)) (pos 0))
      (unset entered (stand.fields + place))))
      (le-ltb (stand.fields + place) (stand.fields + 2) (omega (arith, from)))

  argument_is : (place : ℕ) → place < length values
      → local_value (suc (suc place)) ≡ get_or values place (pos 0)
  argument_is place lt =
      let at : ℕ = stand.fields + suc (suc place) in
      let there : at - (stand.fields + 2) ≡ place = omega arith in
      later_is (suc (suc place)) (omega arith)
      ∙ ap (λ t. cond t (get_or values (at - (stand.fields + 2)) (pos 0)) (unset entered at))
      (lt-ltb at (stand.fields + (2 + length values)) (omega (arith, lt)))
      ∙ ap (λ n. get_or values n (pos 0)) there

  local_slots : (place : ℕ) → stand.fields + place < size
      → local_value place ≡ get_or ((pos 0 ∷ pos 0 ∷ values) ++ others) place (pos 0)
  local_slots zero lt = answer_is 0 (omega arith)
  local_slots (suc zero) lt = answer_is 1 (omega arith)
  local_slots (suc (suc place)) lt = by (cases_lt place (length values))
    where
      at : ℕ
      at = stand.fields + suc (suc place)

      by : (place < length values) ⊎ (length values ≤ place)
          → local_value (suc (suc place)) ≡ get_or (values ++ others) place (pos 0)
      by (inl less) =
          argument_is place less ∙ sym (get_or_append_left values others (pos 0) place less)
      by (inr more) =
          let there : own + (place - length values) ≡ at = omega (arith, more) in
          let cell : slot_cell stand at ≡ Local at = local_cell stand at (omega arith) in
          sym (get_or-append_right values others (length values) place (pos 0) refl more
          ∙ values_get stand own (size - own) begun (place - length values)
          (omega (arith, more, lt, fits))
          ∙ ap (λ n. begun.cells (slot_cell stand n)) there
          ∙ ap begun.cells cell)

  pub begun_shows : Shows stand no_io begun size turns first_machine begun
  begun_shows = record {
    count = first_count;
    slots = λ slot lt. at slot lt (cases_lt slot stand.fields);
    popped = refl;
    pushed = refl;
    turns = turning;
    above = omega arith;
    within = few;
    few_popped = omega arith;
    few_pushed = omega arith;
    output = λ place lt. absurd (omega (arith, lt));
    words = sym (append-nil entered.words);
    kept = λ cell e. refl;
  }
    where
      at : (slot : ℕ) → slot < size → (slot < stand.fields) ⊎ (stand.fields ≤ slot)
          → begun.cells (slot_cell stand slot) ≡ slot_value first_machine slot
      at slot lt (inl field) =
          ap begun.cells (field_cell stand slot field) ∙ held_in slot field
          ∙ sym (get_or_append_left held ((pos 0 ∷ pos 0 ∷ values) ++ others) (pos 0) slot
          (omega (arith, count_is, field)))
      at slot lt (inr local) =
          let there : stand.fields + (slot - stand.fields) ≡ slot = omega (arith, local) in
          ap begun.cells (local_cell stand slot local)
          ∙ ap (λ n. local_at_call stand.fields values (unset entered) n) (sym there)
          ∙ local_slots (slot - stand.fields) (omega (arith, local, lt))
          ∙ sym (get_or-append_right held ((pos 0 ∷ pos 0 ∷ values) ++ others) stand.fields slot
          (pos 0) count_is local)
