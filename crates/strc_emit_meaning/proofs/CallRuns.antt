-- Calls in C do what those of lowered code do.
use Rattle.std.proofs.Common.{◌≡◌, ℕ, zero, suc, ◌+◌, ◌-◌, ◌<◌, ◌≤◌, ℤ, pos, true, false, Bool}
use Rattle.std.proofs.Common.{List}
use Rattle.std.proofs.Common.{[], ◌∷◌, ◌++◌, length, take, drop, get_or, Ok, Option}
use Rattle.std.proofs.Common.{Some, None, refl, sym, ap, ap₂, ◌∙◌, subst, arith, ◌⊎◌, inl, inr}
use Rattle.std.proofs.Common.{length-append, length-drop, drop-cons}
use Rattle.std.proofs.lemmas.Bool.{cases_lt}
use Rattle.std.proofs.lemmas.List.{get_or_append_left, get_or-append_right, get_or-drop}
use Rattle.std.proofs.lemmas.List.{get_or-take, length-take-le}
use Rattle.strc_lex_names.specs.Results.{result_and_then}
use Rattle.strc_work_meaning.specs.Firing.{Setting, Called, refilled}
use Rattle.strc_work_code.specs.Machine.{Machine, slot_value, slot_written}
use Rattle.strc_work_code.specs.Nodes.{after_call, call_made}
use Rattle.strc_work_code.specs.Links.{place_of}
use Rattle.strc_emit_c.specs.declared.function.Function.{Function}
use Rattle.strc_emit_c.specs.C.{Popped, Pushed, Turns, Depth}
use Rattle.strc_emit_c.specs.Meaning.{Cell, Field, Local, Counted, Item, Memory, written}
use Rattle.strc_emit_c.specs.Meaning.{Standing, slot_cell, Calls, values_at, statement_done}
use Rattle.strc_emit_code.specs.Emitted.{call_line}
use Rattle.strc_emit_meaning.specs.Refinement.{Refines}
use Rattle.strc_emit_meaning.specs.Showing.{Stands, Shows, may_write, call_may_write, CallShows}
use Rattle.strc_emit_meaning.specs.Showing.{called_at, CallsDoTheSame}
use Rattle.strc_emit_meaning.proofs.Cells.{field_cell, local_cell}
use Rattle.strc_emit_meaning.proofs.Outcomes.{refines_as, refines_then}
use Rattle.strc_emit_meaning.proofs.Changes.{slot_put}

refilled_whole : (cells values : List ℤ) → length values ≡ length cells
    → refilled cells values ≡ values
refilled_whole [] [] e = refl
refilled_whole [] (value ∷ values) e = absurd (omega (arith, e))
refilled_whole (cell ∷ cells) [] e = absurd (omega (arith, e))
refilled_whole (cell ∷ cells) (value ∷ values) e =
    ap (λ l. value ∷ l) (refilled_whole cells values (omega (arith, e)))

call_line_done : (calls : Calls) (stand : Standing) (place : Option ℕ) (first count into : ℕ)
    (memory : Memory)
    → statement_done calls stand (call_line place first count into) memory
    ≡ result_and_then (called_at calls place (values_at stand first count memory) memory)
    (λ told. Ok (written (slot_cell stand into) told.0 told.1))
call_line_done calls stand None first count into memory = refl
call_line_done calls stand (Some helper) first count into memory = refl

call_keeps : (stand : Standing) (pushes : ℕ) (cell : Cell) → may_write stand pushes cell ≡ false
    → call_may_write stand.node cell ≡ false
call_keeps stand pushes (Field node slot) e = e
call_keeps stand pushes (Local slot) e = refl
call_keeps stand pushes (Counted Popped) e = refl
call_keeps stand pushes (Counted Pushed) e = refl
call_keeps stand pushes (Counted Turns) e = e
call_keeps stand pushes (Counted Depth) e = refl
call_keeps stand pushes (Item channel place) e = refl

module _ (known : List ℕ → ℕ → Bool) (function : Function) (setting : Setting) (stand : Standing)
    (start : Memory) (size : ℕ) (calls : Calls) (stands : Stands function setting stand start size)
    (same : CallsDoTheSame known function.helpers setting.call stand.node stand.fields
    (start.cells (Counted Depth)) calls) (lower : ℕ) where
  abbrev Shown : Machine → Memory → Type 0
  Shown machine memory = Shows stand setting.port start size lower machine memory

  values_are : (first count : ℕ) (machine : Machine) (memory : Memory) → first + count ≤ size
      → Shown machine memory
      → values_at stand first count memory ≡ take count (drop first machine.slots)
  values_are first zero machine memory fits shows = refl
  values_are first (suc count) machine memory fits shows =
      let next : first + 1 ≡ suc first = omega arith in
      ap₂ (λ v l. v ∷ l) (shows.slots first (omega arith))
      (values_are (first + 1) count machine memory (omega arith) shows
      ∙ ap (λ n. take count (drop n machine.slots)) next)
      ∙ sym (ap (take (suc count)) (drop-cons machine.slots first (pos 0)
      (omega (arith, shows.count))))

  -- the machine after a call, but for its value
  abbrev gone_on : Machine → Called → Machine
  gone_on machine called = record {
    slots = called.fields ++ drop setting.cells machine.slots;
    traffic = record machine.traffic { turns = called.turns };
  }

  gone_shows : (machine : Machine) (memory : Memory) (called : Called) (told : ℤ × Memory)
      → Shown machine memory
      → CallShows stand.node stand.fields memory machine.traffic.turns called told
      → Shown (gone_on machine called) told.1
  gone_shows machine memory called told shows call = record {
    count = length-append called.fields (drop setting.cells machine.slots)
        ∙ omega (
          arith,
          call.count,
          stands.fields,
          stands.fits,
          shows.count,
          length-drop setting.cells machine.slots,
        );
    slots = λ slot lt. at slot lt (cases_lt slot stand.fields);
    popped = call.kept (Counted Popped) refl ∙ shows.popped;
    pushed = call.kept (Counted Pushed) refl ∙ shows.pushed;
    turns = call.turning;
    above = omega (arith, shows.above, call.above);
    within = call.within;
    few_popped = shows.few_popped;
    few_pushed = shows.few_pushed;
    output = λ place lt.
        call.kept (Item stand.target (stand.writes_from + place)) refl ∙ shows.output place lt;
    words = call.words ∙ shows.words;
    kept = λ cell e. call.kept cell (call_keeps stand setting.port.room cell e)
        ∙ shows.kept cell e;
  }
    where
      at : (slot : ℕ) → slot < size → (slot < stand.fields) ⊎ (stand.fields ≤ slot)
          → told.1.cells (slot_cell stand slot) ≡ slot_value (gone_on machine called) slot
      at slot lt (inl field) =
          ap (λ cell. told.1.cells cell) (field_cell stand slot field)
          ∙ call.held slot field
          ∙ sym (get_or_append_left called.fields (drop setting.cells machine.slots) (pos 0) slot
          (omega (arith, call.count)))
      at slot lt (inr local) =
          let place : setting.cells + (slot - stand.fields) ≡ slot =
          omega (arith, stands.fields) in
          ap (λ cell. told.1.cells cell) (local_cell stand slot local)
          ∙ call.kept (Local slot) refl
          ∙ ap (λ cell. memory.cells cell) (sym (local_cell stand slot local))
          ∙ shows.slots slot lt
          ∙ sym (get_or-append_right called.fields (drop setting.cells machine.slots) stand.fields
          slot (pos 0) call.count local
          ∙ get_or-drop setting.cells machine.slots (slot - stand.fields) (pos 0)
          ∙ ap (λ n. get_or machine.slots n (pos 0)) place)

  after_shows : (into : ℕ) (machine : Machine) (memory : Memory) (called : Called)
      (told : ℤ × Memory) → into < size → Shown machine memory
      → CallShows stand.node stand.fields memory machine.traffic.turns called told
      → Shown (after_call setting into machine called)
      (written (slot_cell stand into) told.0 told.1)
  after_shows into machine memory called told into_lt shows call =
      let cells : List ℤ = take setting.cells machine.slots in
      let whole : refilled cells called.fields ≡ called.fields =
      refilled_whole cells called.fields (call.count ∙ stands.fields
      ∙ sym (length-take-le setting.cells machine.slots (omega (arith, stands.fits, shows.count))))
      in
      subst (λ l. Shown (slot_written (record {
        slots = l ++ drop setting.cells machine.slots;
        traffic = record machine.traffic { turns = called.turns };
      }) into called.value) (written (slot_cell stand into) told.0 told.1)) (sym whole)
      (slot_put stand setting.port start size lower (gone_on machine called) told.1 into
      called.value told.0 into_lt call.value (gone_shows machine memory called told shows call))

  pub call_does : (name : List ℕ) (first count into : ℕ) (machine : Machine) (memory : Memory)
      → known name count ≡ true → into < size → first + count ≤ size → Shown machine memory
      → Refines Shown (call_made setting name first count into machine)
      (statement_done calls stand (call_line (place_of function.helpers name) first count into)
      memory)
  call_does name first count into machine memory is_known into_lt fits shows =
      let arguments : List ℤ = take count (drop first machine.slots) in
      let fields : List ℤ = take setting.cells machine.slots in
      let turns : ℕ = machine.traffic.turns in
      let place : Option ℕ = place_of function.helpers name in
      let many : length arguments ≡ count =
      length-take-le count (drop first machine.slots)
      (omega (arith, length-drop first machine.slots, shows.count)) in
      refines_as Shown (call_made setting name first count into machine)
      (statement_done calls stand (call_line place first count into) memory)
      (result_and_then (called_at calls place arguments memory)
      (λ told. Ok (written (slot_cell stand into) told.0 told.1)))
      (call_line_done calls stand place first count into memory
      ∙ ap (λ l. result_and_then (called_at calls place l memory)
      (λ told. Ok (written (slot_cell stand into) told.0 told.1)))
      (values_are first count machine memory fits shows))
      (refines_then (CallShows stand.node stand.fields memory turns) Shown
      (setting.call name arguments fields turns)
      (called_at calls place arguments memory)
      (λ called. Ok (after_call setting into machine called))
      (λ told. Ok (written (slot_cell stand into) told.0 told.1))
      (same name arguments fields turns memory (ap (known name) many ∙ is_known)
      (length-take-le setting.cells machine.slots (omega (arith, stands.fits, shows.count))
      ∙ sym stands.fields)
      (λ slot lt. ap (λ cell. memory.cells cell) (sym (field_cell stand slot lt))
      ∙ shows.slots slot (omega (arith, stands.fields, stands.fits))
      ∙ sym (get_or-take setting.cells machine.slots slot (pos 0) (omega (arith, stands.fields))))
      shows.turns shows.within (shows.kept (Counted Depth) refl))
      (λ called told call. after_shows into machine memory called told into_lt shows call))
