-- What a memory shows after a slot, a counter, a place of what is pushed or the words change.
use Rattle.std.proofs.Common.{◌≡◌, ℕ, ◌+◌, ◌<◌, ◌≤◌, ℤ, pos, Bool, true, false, ◌&&◌, List, []}
use Rattle.std.proofs.Common.{◌∷◌, ◌++◌, length, get_or, refl, sym, ap, ◌∙◌, arith}
use Rattle.std.proofs.Common.{◌==◌, nat_lt, nat_le, ◌⊎◌, inl, inr, append_assoc, length-append}
use Rattle.std.proofs.Common.{length-set}
use Rattle.std.proofs.lemmas.Bool.{cases_eq, and_from, eq-eqb, le-leb, lt-ltb, ne_eqb}
use Rattle.std.proofs.lemmas.List.{get_or-set_same, get_or-set_other, get_or_append_left, get_or_at}
use Rattle.strc_work_meaning.specs.declared.word.Word.{Word}
use Rattle.strc_work_meaning.specs.Firing.{Port, turn_limit, printed}
use Rattle.strc_work_code.specs.Machine.{Machine, slot_value, slot_written}
use Rattle.strc_emit_c.specs.C.{Popped, Pushed, Turns}
use Rattle.strc_emit_c.specs.Meaning.{Cell, Counted, Item, Memory, written}
use Rattle.strc_emit_c.specs.Meaning.{Standing, slot_cell}
use Rattle.strc_emit_meaning.specs.Showing.{Shows, may_write}
use Rattle.strc_emit_meaning.proofs.Cells.{apart_by, kept_in, put_in, slots_apart, slot_apart}
use Rattle.strc_emit_meaning.proofs.Cells.{apart_slot, slot_may}

module _ (stand : Standing) (port : Port) (start : Memory) (size lower : ℕ) where
  -- a slot
  pub slot_put : (machine : Machine) (memory : Memory) (slot : ℕ) (value given : ℤ) → slot < size
      → given ≡ value → Shows stand port start size lower machine memory
      → Shows stand port start size lower (slot_written machine slot value)
      (written (slot_cell stand slot) given memory)
  slot_put machine memory slot value given lt same shows =
      let cell : Cell = slot_cell stand slot in
      record {
        count = length-set machine.slots slot value ∙ shows.count;
        slots = λ other other_lt. at other other_lt (cases_eq other slot);
        popped = kept_in cell (Counted Popped) given memory
            (slot_apart stand slot (Counted Popped) refl) ∙ shows.popped;
        pushed = kept_in cell (Counted Pushed) given memory
            (slot_apart stand slot (Counted Pushed) refl) ∙ shows.pushed;
        turns = kept_in cell (Counted Turns) given memory
            (slot_apart stand slot (Counted Turns) refl) ∙ shows.turns;
        above = shows.above;
        within = shows.within;
        few_popped = shows.few_popped;
        few_pushed = shows.few_pushed;
        output = λ place place_lt.
            kept_in cell (Item stand.target (stand.writes_from + place)) given memory
            (slot_apart stand slot (Item stand.target (stand.writes_from + place)) refl)
            ∙ shows.output place place_lt;
        words = shows.words;
        kept = λ other fails.
            kept_in cell other given memory (apart_by (may_write stand port.room) cell other
            (slot_may stand port.room slot) fails) ∙ shows.kept other fails;
      }
    where
      at : (other : ℕ) → other < size → (other ≡ slot) ⊎ (other ≡ slot → ⊥)
          → (written (slot_cell stand slot) given memory).cells (slot_cell stand other)
          ≡ slot_value (slot_written machine slot value) other
      at other other_lt (inl is) =
          let within : slot < length machine.slots = omega (arith, shows.count) in
          ap (λ o. (written (slot_cell stand slot) given memory).cells (slot_cell stand o)) is
          ∙ put_in (slot_cell stand slot) given memory ∙ same
          ∙ sym (get_or-set_same machine.slots slot value (pos 0) within)
          ∙ ap (slot_value (slot_written machine slot value)) (sym is)
      at other other_lt (inr differ) =
          kept_in (slot_cell stand slot) (slot_cell stand other) given memory
          (slots_apart stand slot other differ)
          ∙ shows.slots other other_lt
          ∙ sym (get_or-set_other machine.slots slot other value (pos 0) differ)

  -- one more item is taken
  pub popped_on : (machine : Machine) (memory : Memory)
      → machine.traffic.popped < length port.front
      → Shows stand port start size lower machine memory
      → Shows stand port start size lower
      (record machine {
        traffic = record machine.traffic { popped = machine.traffic.popped + 1 };
      })
      (written (Counted Popped) (pos (machine.traffic.popped + 1)) memory)
  popped_on machine memory more shows =
      let value : ℤ = pos (machine.traffic.popped + 1) in
      record {
        count = shows.count;
        slots = λ slot lt.
            kept_in (Counted Popped) (slot_cell stand slot) value memory
            (apart_slot stand slot (Counted Popped) refl) ∙ shows.slots slot lt;
        popped = refl;
        pushed = shows.pushed;
        turns = shows.turns;
        above = shows.above;
        within = shows.within;
        few_popped = omega arith;
        few_pushed = shows.few_pushed;
        output = shows.output;
        words = shows.words;
        kept = λ other fails.
            kept_in (Counted Popped) other value memory
            (apart_by (may_write stand port.room) (Counted Popped) other refl fails)
            ∙ shows.kept other fails;
      }

  -- one more turn
  pub turned_on : (machine : Machine) (memory : Memory) → machine.traffic.turns < turn_limit
      → Shows stand port start size lower machine memory
      → Shows stand port start size (lower + 1)
      (record machine {
        traffic = record machine.traffic { turns = machine.traffic.turns + 1 };
      })
      (written (Counted Turns) (pos (machine.traffic.turns + 1)) memory)
  turned_on machine memory more shows =
      let value : ℤ = pos (machine.traffic.turns + 1) in
      record {
        count = shows.count;
        slots = λ slot lt.
            kept_in (Counted Turns) (slot_cell stand slot) value memory
            (apart_slot stand slot (Counted Turns) refl) ∙ shows.slots slot lt;
        popped = shows.popped;
        pushed = shows.pushed;
        turns = refl;
        above = omega (arith, shows.above);
        within = omega arith;
        few_popped = shows.few_popped;
        few_pushed = shows.few_pushed;
        output = shows.output;
        words = shows.words;
        kept = λ other fails.
            kept_in (Counted Turns) other value memory
            (apart_by (may_write stand port.room) (Counted Turns) other refl fails)
            ∙ shows.kept other fails;
      }

  -- one more item is given
  place_may : (pushed : ℕ) → pushed < port.room
      → may_write stand port.room (Item stand.target (stand.writes_from + pushed)) ≡ true
  place_may pushed lt =
      and_from ((stand.target == stand.target)
      && nat_le stand.writes_from (stand.writes_from + pushed))
      (nat_lt (stand.writes_from + pushed) (stand.writes_from + port.room))
      (and_from (stand.target == stand.target)
      (nat_le stand.writes_from (stand.writes_from + pushed))
      (eq-eqb stand.target stand.target refl)
      (le-leb stand.writes_from (stand.writes_from + pushed) (omega arith)))
      (lt-ltb (stand.writes_from + pushed) (stand.writes_from + port.room) (omega arith))

  abbrev is_place : ℕ → Cell → Bool
  is_place place (Item channel there) = there == place
  is_place place _ = false

  pub pushed_on : (machine : Machine) (memory : Memory) (value given : ℤ)
      → length machine.traffic.pushes < port.room → given ≡ value
      → Shows stand port start size lower machine memory
      → Shows stand port start size lower
      (record machine {
        traffic = record machine.traffic { pushes = machine.traffic.pushes ++ value ∷ [] };
      })
      (written (Counted Pushed) (pos (length machine.traffic.pushes + 1))
      (written (Item stand.target (stand.writes_from + length machine.traffic.pushes)) given
      memory))
  pushed_on machine memory value given more same shows =
      let pushes : List ℤ = machine.traffic.pushes in
      let count_is : length (pushes ++ value ∷ []) ≡ length pushes + 1 =
      length-append pushes (value ∷ []) in
      let item : Cell = Item stand.target (stand.writes_from + length pushes) in
      let number : ℤ = pos (length pushes + 1) in
      let placed : Memory = written item given memory in
      record {
        count = shows.count;
        slots = λ slot lt.
            kept_in (Counted Pushed) (slot_cell stand slot) number placed
            (apart_slot stand slot (Counted Pushed) refl)
            ∙ kept_in item (slot_cell stand slot) given memory (apart_slot stand slot item refl)
            ∙ shows.slots slot lt;
        popped = shows.popped;
        pushed = ap pos (sym count_is);
        turns = shows.turns;
        above = shows.above;
        within = shows.within;
        few_popped = shows.few_popped;
        few_pushed = omega (arith, count_is);
        output = λ place lt. at place (cases_eq place (length pushes)) (omega (arith, count_is));
        words = shows.words;
        kept = λ other fails.
            kept_in (Counted Pushed) other number placed
            (apart_by (may_write stand port.room) (Counted Pushed) other refl fails)
            ∙ kept_in item other given memory (apart_by (may_write stand port.room) item other
            (place_may (length pushes) more) fails)
            ∙ shows.kept other fails;
      }
    where
      item_at : ℕ → Cell
      item_at place = Item stand.target (stand.writes_from + place)

      at : (place : ℕ) → (place ≡ length machine.traffic.pushes)
          ⊎ (place ≡ length machine.traffic.pushes → ⊥)
          → place < length machine.traffic.pushes + 1
          → (written (item_at (length machine.traffic.pushes)) given memory).cells (item_at place)
          ≡ get_or (machine.traffic.pushes ++ value ∷ []) place (pos 0)
      at place (inl is) lt =
          ap (λ p. (written (item_at (length machine.traffic.pushes)) given memory).cells
          (item_at p)) is
          ∙ put_in (item_at (length machine.traffic.pushes)) given memory ∙ same
          ∙ sym (get_or_at machine.traffic.pushes value [] (pos 0) place (sym is))
      at place (inr differ) lt =
          let earlier : place < length machine.traffic.pushes = omega arith in
          let last : ℕ = stand.writes_from + length machine.traffic.pushes in
          kept_in (item_at (length machine.traffic.pushes)) (item_at place) given memory
          (apart_by (is_place last) (item_at (length machine.traffic.pushes)) (item_at place)
          (eq-eqb last last refl)
          (ne_eqb (stand.writes_from + place) last (λ e. differ (omega (arith, e)))))
          ∙ shows.output place earlier
          ∙ sym (get_or_append_left machine.traffic.pushes (value ∷ []) (pos 0) place earlier)

  -- one more word is printed
  pub words_on : (machine : Machine) (memory : Memory) (word given : Word) → given ≡ word
      → Shows stand port start size lower machine memory
      → Shows stand port start size lower
      (record machine { traffic = printed word machine.traffic })
      (record memory { words = memory.words ++ given ∷ [] })
  words_on machine memory word given same shows = record {
    count = shows.count;
    slots = shows.slots;
    popped = shows.popped;
    pushed = shows.pushed;
    turns = shows.turns;
    above = shows.above;
    within = shows.within;
    few_popped = shows.few_popped;
    few_pushed = shows.few_pushed;
    output = shows.output;
    words = ap (λ l. l ++ given ∷ []) shows.words
        ∙ append_assoc start.words machine.traffic.words (given ∷ [])
        ∙ ap (λ w. start.words ++ (machine.traffic.words ++ w ∷ [])) same;
    kept = shows.kept;
  }

  -- fewer turns are said to have been made
  pub shows_lower : (least : ℕ) (machine : Machine) (memory : Memory) → least ≤ lower
      → Shows stand port start size lower machine memory
      → Shows stand port start size least machine memory
  shows_lower least machine memory le shows = record {
    count = shows.count;
    slots = shows.slots;
    popped = shows.popped;
    pushed = shows.pushed;
    turns = shows.turns;
    above = omega (arith, shows.above);
    within = shows.within;
    few_popped = shows.few_popped;
    few_pushed = shows.few_pushed;
    output = shows.output;
    words = shows.words;
    kept = shows.kept;
  }
