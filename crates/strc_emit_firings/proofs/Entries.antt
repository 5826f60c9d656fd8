-- How a call of a helper function begins and ends in C.
use Rattle.std.proofs.Common.{◌≡◌, ℕ, ◌+◌, ◌-◌, ◌<◌, ◌≤◌, ◌^◌, ℤ, pos, ◌-ℤ◌, false}
use Rattle.std.proofs.Common.{not, [], ◌∷◌, ◌++◌, length, get_or, Ok, Err, refl}
use Rattle.std.proofs.Common.{sym, ap, ◌∙◌, arith, append-nil, true≢false, nat_le, nat_lt, ◌==◌}
use Rattle.std.proofs.Common.{◌&&◌}
use Rattle.std.proofs.lemmas.Bool.{lt-ltb, le-ltb, and_right}
use Rattle.std.proofs.lemmas.List.{get_or-take, length-take-le}
use Rattle.strc_lex_names.specs.Results.{result_and_then}
use Rattle.strc_work_meaning.specs.declared.fault.Cause.TheVariants as cause
use Rattle.strc_work_meaning.specs.declared.fault.TheConstants.{TURN_LIMIT, CALL_LIMIT}
use Rattle.strc_work_meaning.specs.Firing.{Called, Traffic, no_io}
use Rattle.strc_work_code.specs.Machine.{Machine}
use Rattle.strc_emit_c.specs.C.{Popped, Pushed, Turns, Depth, Reaches, Increase, LeaveIf}
use Rattle.strc_emit_c.specs.Meaning.{Cell, Field, Local, Counted, Item, Memory, written}
use Rattle.strc_emit_c.specs.Meaning.{Faults, Standing, slot_cell, Calls, as_int}
use Rattle.strc_emit_meaning.specs.Refinement.{lines_done}
use Rattle.strc_emit_meaning.specs.Showing.{Shows, CallShows, call_may_write, may_write}
use Rattle.strc_emit_meaning.proofs.Cells.{field_cell}
use Rattle.strc_emit_meaning.proofs.Numbers.{small_int, less}
use Rattle.strc_emit_meaning.proofs.Outcomes.{leaves, goes_on}
use Rattle.strc_emit_meaning.proofs.Lines.{reaches, increased}
use Rattle.strc_work.proofs.Calling.{IsCalled}
use Rattle.strc_emit_firings.specs.Functions.{entry_lines, back_from, returned}

small_calls : CALL_LIMIT + 1 < 2 ^ 31
small_calls = omega arith

small_turns : TURN_LIMIT + 1 < 2 ^ 31
small_turns = omega arith

module _ (calls : Calls) (stand : Standing) (memory : Memory) (depth turns : ℕ)
    (depth_is : memory.cells (Counted Depth) ≡ pos depth)
    (turning : memory.cells (Counted Turns) ≡ pos turns) where
  pub full_calls : CALL_LIMIT ≤ depth
      → lines_done calls stand entry_lines memory ≡ Err (Faults cause.Calls)
  full_calls le =
      leaves calls stand (Reaches Depth CALL_LIMIT) cause.Calls
      (LeaveIf (Reaches Turns TURN_LIMIT) cause.Turns ∷ Increase Turns ∷ Increase Depth ∷ [])
      memory
      (reaches calls stand Depth CALL_LIMIT depth memory depth_is (omega (arith, small_calls))
      ∙ ap (λ t. Ok (not t)) (le-ltb depth CALL_LIMIT le))

  past_calls : depth < CALL_LIMIT → lines_done calls stand entry_lines memory
      ≡ lines_done calls stand
      (LeaveIf (Reaches Turns TURN_LIMIT) cause.Turns ∷ Increase Turns ∷ Increase Depth ∷ [])
      memory
  past_calls lt =
      goes_on calls stand (Reaches Depth CALL_LIMIT) cause.Calls
      (LeaveIf (Reaches Turns TURN_LIMIT) cause.Turns ∷ Increase Turns ∷ Increase Depth ∷ [])
      memory
      (reaches calls stand Depth CALL_LIMIT depth memory depth_is (omega (arith, small_calls))
      ∙ ap (λ t. Ok (not t)) (lt-ltb depth CALL_LIMIT lt))

  pub full_turns : depth < CALL_LIMIT → TURN_LIMIT ≤ turns
      → lines_done calls stand entry_lines memory ≡ Err (Faults cause.Turns)
  full_turns lt le =
      past_calls lt
      ∙ leaves calls stand (Reaches Turns TURN_LIMIT) cause.Turns
      (Increase Turns ∷ Increase Depth ∷ []) memory
      (reaches calls stand Turns TURN_LIMIT turns memory turning (omega (arith, small_turns))
      ∙ ap (λ t. Ok (not t)) (le-ltb turns TURN_LIMIT le))

  abbrev pub entered : Memory
  entered = written (Counted Depth) (pos (depth + 1))
      (written (Counted Turns) (pos (turns + 1)) memory)

  pub enters : depth < CALL_LIMIT → turns < TURN_LIMIT
      → lines_done calls stand entry_lines memory ≡ Ok entered
  enters lt less =
      past_calls lt
      ∙ goes_on calls stand (Reaches Turns TURN_LIMIT) cause.Turns
      (Increase Turns ∷ Increase Depth ∷ []) memory
      (reaches calls stand Turns TURN_LIMIT turns memory turning (omega (arith, small_turns))
      ∙ ap (λ t. Ok (not t)) (lt-ltb turns TURN_LIMIT less))
      ∙ increased calls stand Turns (Increase Depth ∷ []) memory turns turning
      (omega (arith, small_turns))
      ∙ increased calls stand Depth [] (written (Counted Turns) (pos (turns + 1)) memory) depth
      depth_is (omega (arith, small_calls))

-- the end of a call
module _ (stand : Standing) (memory begun after : Memory) (size depth turns : ℕ)
    (traffic : Traffic) (called : Called) (machine : Machine)
    (fits : stand.fields + 2 ≤ size) (silent : traffic.words ≡ [])
    (depth_is : memory.cells (Counted Depth) ≡ pos depth)
    (one_more : begun.cells (Counted Depth) ≡ pos (depth + 1)) (small : depth + 1 < 2 ^ 31)
    (words_are : begun.words ≡ memory.words)
    (fields_are : (node slot : ℕ) → begun.cells (Field node slot) ≡ memory.cells (Field node slot))
    (items_are : (channel place : ℕ)
    → begun.cells (Item channel place) ≡ memory.cells (Item channel place))
    (at_start : stand.writes_from ≡ 0)
    (is_called : IsCalled stand.fields traffic called machine)
    (shows : Shows stand no_io begun size (turns + 1) machine after) where
  abbrev pub told : ℤ × Memory
  told = (
    after.cells (slot_cell stand (stand.fields + 1)),
    written (Counted Depth) (pos depth) (back_from memory after),
  )

  pub returns : returned stand memory after ≡ Ok told
  returns =
      let number : depth + 1 - 1 ≡ depth = omega arith in
      ap (λ r. result_and_then r (λ d.
      Ok (
        after.cells (slot_cell stand (stand.fields + 1)),
        written (Counted Depth) d (back_from memory after),
      )))
      (ap (λ v. as_int (v -ℤ pos 1)) (shows.kept (Counted Depth) refl ∙ one_more)
      ∙ ap as_int (less (depth + 1) 1 (omega arith))
      ∙ ap (λ n. as_int (pos n)) number
      ∙ small_int depth (omega (arith, small)))

  turns_are : machine.traffic.turns ≡ called.turns
  turns_are = ap (λ (t : Traffic). t.turns) is_called.traffic_is

  no_item : (channel place : ℕ) → may_write stand no_io.room (Item channel place) ≡ false
  no_item channel place =
      and_right (channel == stand.target && nat_le stand.writes_from place)
      (nat_lt place (stand.writes_from + 0)) (le-ltb place (stand.writes_from + 0)
      (omega (arith, at_start)))

  pub call_shows : CallShows stand.node stand.fields memory turns called told
  call_shows = record {
    value = shows.slots (stand.fields + 1) (omega (arith, fits)) ∙ sym is_called.value;
    count = ap length is_called.fields_are ∙ length-take-le stand.fields machine.slots
        (omega (arith, shows.count, fits));
    held = λ slot lt.
        ap after.cells (sym (field_cell stand slot lt))
        ∙ shows.slots slot (omega (arith, lt, fits))
        ∙ sym (get_or-take stand.fields machine.slots slot (pos 0) lt)
        ∙ ap (λ l. get_or l slot (pos 0)) (sym is_called.fields_are);
    turning = shows.turns ∙ ap pos turns_are;
    above = omega (arith, shows.above, turns_are);
    within = omega (arith, shows.within, turns_are);
    words = shows.words
        ∙ ap (λ l. begun.words ++ l) (ap (λ (t : Traffic). t.words) is_called.traffic_is ∙ silent)
        ∙ append-nil begun.words ∙ words_are;
    kept = others;
  }
    where
      others : (cell : Cell) → call_may_write stand.node cell ≡ false
          → told.1.cells cell ≡ memory.cells cell
      others (Field node slot) e = shows.kept (Field node slot) e ∙ fields_are node slot
      others (Local slot) e = refl
      others (Counted Popped) e = refl
      others (Counted Pushed) e = refl
      others (Counted Turns) e = absurd (true≢false e)
      others (Counted Depth) e = sym depth_is
      others (Item channel place) e =
          shows.kept (Item channel place) (no_item channel place) ∙ items_are channel place
