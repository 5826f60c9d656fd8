-- A firing of a filter's body in C gives what it gives in the text.
use Rattle.std.proofs.Common.{◌≡◌, ℕ, suc, ◌+◌, ◌-◌, ◌<◌, ◌≤◌, ℤ, pos}
use Rattle.std.proofs.Common.{◌≢◌, Bool, true, false, List, ◌++◌, length, take, get_or, Result}
use Rattle.std.proofs.Common.{Ok, Err, refl}
use Rattle.std.proofs.Common.{sym, ap, ◌∙◌, subst, arith, append-nil, length-take, take-take}
use Rattle.std.proofs.Common.{true≢false}
use Rattle.std.proofs.lemmas.List.{get_or-take}
use Rattle.strc_lex_names.specs.Results.{result_and_then}
use Rattle.strc_work_meaning.specs.declared.fault.Cause.{Cause}
use Rattle.strc_work_meaning.specs.declared.fault.Cause.TheVariants as cause
use Rattle.strc_work_meaning.specs.declared.body.Body.{Body}
use Rattle.strc_work_meaning.specs.declared.body.Body.TheVariants as body
use Rattle.strc_work_meaning.specs.declared.fault.TheConstants.{CALL_LIMIT}
use Rattle.strc_work_meaning.specs.Filters.{Filter, body_rates, item_count, pop_rate}
use Rattle.strc_work_meaning.specs.Filters.{window_size}
use Rattle.strc_work_meaning.specs.Firing.{Setting, Fired, fired, setting_of}
use Rattle.strc_work_meaning.specs.Firing.{no_traffic, turn_limit, call_limit, called}
use Rattle.strc_work_code.specs.Lowering.{body_nodes, slot_count}
use Rattle.strc_work_code.specs.Machine.{Machine, slot_value}
use Rattle.strc_work_code.specs.Nodes.{Nodes, nodes_done, nodes_room}
use Rattle.strc_emit_c.specs.declared.function.Function.{Function}
use Rattle.strc_emit_c.specs.C.{Popped, Pushed, Turns, Depth, Statements}
use Rattle.strc_emit_c.specs.Meaning.{Cell, Field, Local, Counted, Item, Memory, Standing}
use Rattle.strc_emit_c.specs.Meaning.{slot_cell, Calls, values_at, statements_done, Stop, Faults}
use Rattle.strc_emit_c.specs.Meaning.{Undefined}
use Rattle.strc_emit_code.specs.Emitted.{emitted}
use Rattle.strc_emit_meaning.specs.Refinement.{Refines}
use Rattle.strc_emit_meaning.specs.Showing.{Shows, Stands, CallsDoTheSame, may_write}
use Rattle.strc_emit_meaning.specs.Untested.{untested, IsUntouched}
use Rattle.strc_emit_meaning.proofs.Erasing.{first_untouched, untested_same}
use Rattle.strc_emit_meaning.proofs.Untesting.{with_tests, emitted_untested}
use Rattle.strc_emit_meaning.proofs.Cells.{field_cell}
use Rattle.strc_emit_meaning.proofs.Codes.{codes_do_same}
use Rattle.strc_emit_meaning.proofs.Lowered.{bodies_are_plain}
use Rattle.strc_work.specs.Calls.{Callable, IsCallable, filter_in}
use Rattle.strc_work.proofs.FilterRuns.{HasFired, body_runs}
use Rattle.strc_emit_firings.specs.Functions.{Unset, helper_functions, without_items, helpers_done}
use Rattle.strc_emit_firings.specs.Functions.{fires_in, back_from, firing_done}
use Rattle.strc_emit_firings.specs.Known.{is_known, CallsFit}
use Rattle.strc_emit_firings.specs.Firings.{Fires, FiringShows, firing_may_write}
use Rattle.strc_emit_firings.specs.Firings.{FiringsDoTheSame}
use Rattle.strc_emit_firings.proofs.Composing.{refines_by, refines_after, values_count, values_get}
use Rattle.strc_emit_firings.proofs.Members.{known_block}
use Rattle.strc_emit_firings.proofs.HelperCalls.{helpers_do}

body_fits : (filter : Filter) (body : Body) (size : ℕ) → slot_count filter ≤ size
    → nodes_room (body_nodes body filter) ≤ size
body_fits filter body.Prework size room = omega arith
body_fits filter body.Work size room = omega arith

pub calls_are : call_limit ≡ CALL_LIMIT
unfolding call_limit
calls_are = refl

module _ (calls : Callable) (body : Body) (function helper : Function) (stand : Standing)
    (unset : Unset) (values window : List ℤ) (memory : Memory) (fuel : ℕ)
    (is : IsCallable calls) (fit : CallsFit (filter_in calls).members)
    (levels : calls.levels ≡ call_limit)
    (fires : Fires calls body function helper stand values window memory)
    (enough : turn_limit < fuel) (tests : function.tests ≡ true) where
  abbrev size : ℕ
  size = slot_count (filter_in calls)

  abbrev first : Memory
  first = fires_in unset memory

  abbrev done : Calls
  done = helpers_done fuel (without_items stand) unset (helper_functions helper calls.helpers)
      (suc CALL_LIMIT)

  abbrev setting : Setting
  setting = setting_of (filter_in calls) body window

  abbrev code : Nodes
  code = body_nodes body (filter_in calls)

  abbrev slots : List ℤ
  slots = values_at stand 0 size first

  abbrev machine : Machine
  machine = record { slots = slots; traffic = no_traffic }

  fields_are : stand.fields ≡ setting.cells
  fields_are = fires.helpers.fields ∙ is.fields_are

  fields_fit : stand.fields ≤ size
  fields_fit = omega (arith, fields_are)

  front_is : length setting.port.front ≡ function.pops
  front_is =
      omega (
        arith,
        length-take (item_count (pop_rate (body_rates body (filter_in calls).members)))
            window,
        fires.pops,
        fires.peek,
        fires.whole,
      )

  ahead_is : length setting.port.ahead ≡ function.peek
  ahead_is =
      omega (
        arith,
        length-take (window_size (body_rates body (filter_in calls).members)) window,
        fires.peek,
        fires.whole,
      )

  stands : Stands function setting stand first size
  stands = record {
    fields = fields_are;
    fits = omega (arith, fields_are, fields_fit);
    small = fires.small;
    tests = tests;
    pops = sym front_is;
    peek = sym ahead_is;
    pushes = fires.pushes;
    front = sym (ap (λ k. take k setting.port.ahead) fires.pops
        ∙ take-take (item_count (pop_rate (body_rates body (filter_in calls).members)))
        (window_size (body_rates body (filter_in calls).members)) window (omega arith));
    reads = fires.reads;
    writes = fires.writes;
    few_read = fires.few_read;
    few_written = fires.few_written;
    apart = fires.helpers.apart;
    window = λ place lt. fires.ahead place lt
        ∙ sym (get_or-take (window_size (body_rates body (filter_in calls).members)) window place
        (pos 0) (omega (arith, lt, fires.peek)));
  }

  slots_count : length slots ≡ size
  slots_count = values_count stand 0 size first

  slot_is : (slot : ℕ) → slot < size
      → first.cells (slot_cell stand slot) ≡ slot_value machine slot
  slot_is slot lt =
      let here : 0 + slot ≡ slot = omega arith in
      ap (λ n. first.cells (slot_cell stand n)) (sym here)
      ∙ sym (values_get stand 0 size first slot lt)

  shows : Shows stand setting.port first size 0 machine first
  shows = record {
    count = slots_count;
    slots = slot_is;
    popped = refl;
    pushed = refl;
    turns = refl;
    above = omega arith;
    within = omega arith;
    few_popped = omega arith;
    few_pushed = omega arith;
    output = λ place lt. absurd (omega (arith, lt));
    words = sym (append-nil memory.words);
    kept = λ cell e. refl;
  }

  same : CallsDoTheSame (is_known (filter_in calls).members) function.helpers
      (called (filter_in calls).members call_limit) stand.node stand.fields (pos 0) done
  same =
      let number : CALL_LIMIT - CALL_LIMIT ≡ 0 = omega arith in
      subst (λ names. CallsDoTheSame (is_known (filter_in calls).members) names
      (called (filter_in calls).members call_limit) stand.node stand.fields (pos 0) done)
      (fires.helpers.names ∙ sym fires.names)
      (subst (λ k. CallsDoTheSame (is_known (filter_in calls).members) helper.helpers
      (called (filter_in calls).members k) stand.node stand.fields (pos 0) done) (sym calls_are)
      (subst (λ d. CallsDoTheSame (is_known (filter_in calls).members) helper.helpers
      (called (filter_in calls).members CALL_LIMIT) stand.node stand.fields (pos d) done) number
      (helpers_do calls helper stand unset fuel is fit fires.helpers enough CALL_LIMIT
      (omega arith))))

  code_does : Refines (Shows stand setting.port first size 0) (nodes_done setting code machine)
      (statements_done fuel done stand (emitted function code) first)
  code_does =
      codes_do_same (is_known (filter_in calls).members) function setting stand first size fuel
      done stands enough same code
      (bodies_are_plain (is_known (filter_in calls).members) body (filter_in calls)
      (known_block (is_known (filter_in calls).members) body (filter_in calls).members fit))
      (body_fits (filter_in calls) body size (omega arith)) 0 machine first shows

  record Ended (given : Fired) (after : Memory) : Type 0 where
    machine_after : Machine
    fired_is : HasFired (filter_in calls) (length slots) given machine_after
    shown : Shows stand setting.port first size 0 machine_after after

  fired_does : Refines Ended (fired (filter_in calls) body values window)
      (statements_done fuel done stand (emitted function code) first)
  fired_does =
      refines_by (HasFired (filter_in calls) (length slots))
      (Shows stand setting.port first size 0) Ended
      (fired (filter_in calls) body values window) (nodes_done setting code machine)
      (statements_done fuel done stand (emitted function code) first)
      (body_runs (filter_in calls) body values slots window is.closed (fires.count ∙ fields_are)
      (λ k lt. sym (slot_is k (omega (arith, lt, fires.count, fields_fit)))
      ∙ ap first.cells (field_cell stand k (omega (arith, lt, fires.count)))
      ∙ fires.held k (omega (arith, lt, fires.count)))
      (omega (arith, slots_count)))
      code_does
      (λ given after memory' p q. record { machine_after = after; fired_is = p; shown = q })

  ended_shows : (given : Fired) (after : Memory) → Ended given after
      → FiringShows stand function.pushes memory given (back_from memory after)
  ended_shows given after ended = record {
    fields = λ slot lt.
        ap after.cells (sym (field_cell stand slot lt))
        ∙ ended.shown.slots slot (omega (arith, lt, fields_fit))
        ∙ sym (get_or-take setting.cells ended.machine_after.slots slot (pos 0)
        (omega (arith, lt, fields_are)))
        ∙ ap (λ l. get_or l slot (pos 0)) (sym ended.fired_is.fields);
    count = ap length ended.fired_is.fields
        ∙ omega (
          arith,
          length-take setting.cells ended.machine_after.slots,
          ended.shown.count,
          fields_are,
          fields_fit,
        );
    few = omega (arith, ap length ended.fired_is.pushes, ended.shown.few_pushed, fires.pushes);
    items = λ place lt.
        ended.shown.output place (omega (arith, lt, ap length ended.fired_is.pushes))
        ∙ ap (λ l. get_or l place (pos 0)) (sym ended.fired_is.pushes);
    words = ended.shown.words ∙ ap (λ l. memory.words ++ l) (sym ended.fired_is.words);
    kept = others;
  }
    where
      others : (cell : Cell) → firing_may_write stand function.pushes cell ≡ false
          → (back_from memory after).cells cell ≡ memory.cells cell
      others (Field node slot) e = ended.shown.kept (Field node slot) e
      others (Local slot) e = refl
      others (Counted Popped) e = refl
      others (Counted Pushed) e = refl
      others (Counted Turns) e = absurd (true≢false e)
      others (Counted Depth) e = absurd (true≢false e)
      others (Item channel place) e =
          ended.shown.kept (Item channel place)
          (ap (λ k. may_write stand k (Item channel place)) (sym fires.pushes) ∙ e)

  firing_does : Refines (FiringShows stand function.pushes memory)
      (fired (filter_in calls) body values window)
      (firing_done fuel done stand unset (emitted function code) memory)
  firing_does =
      refines_after Ended (FiringShows stand function.pushes memory)
      (fired (filter_in calls) body values window)
      (statements_done fuel done stand (emitted function code) first)
      (λ after. Ok (back_from memory after)) fired_does
      (λ given after ended. (back_from memory after, refl, ended_shows given after ended))

-- a text that doesn't come to what is tested, and C that does the same with tests, so that these
-- don't leave
untouched : {A B : Type 0} (R : A → B → Type 0) (x : Result A Cause) (y : Result B Stop)
    → Refines R x y → x ≢ Err cause.PeekRange → IsUntouched y
untouched R (Ok a) (Ok b) h safe = tt
untouched R (Ok a) (Err why) h safe = absurd h
untouched R (Err why) (Ok b) h safe = absurd h
untouched R (Err why) (Err Undefined) h safe = absurd h
untouched R (Err why) (Err (Faults cause.PeekRange)) h safe = safe (ap (λ c. Err c) h)
untouched R (Err why) (Err (Faults cause.DivZero)) h safe = tt
untouched R (Err why) (Err (Faults cause.Index)) h safe = tt
untouched R (Err why) (Err (Faults cause.Turns)) h safe = tt
untouched R (Err why) (Err (Faults cause.Calls)) h safe = tt

-- a firing without tests that don't leave
firing_untested : (fuel : ℕ) (calls : Calls) (stand : Standing) (unset : Unset)
    (code : Statements) (memory : Memory)
    → IsUntouched (firing_done fuel calls stand unset code memory)
    → firing_done fuel calls stand unset (untested code) memory
    ≡ firing_done fuel calls stand unset code memory
firing_untested fuel calls stand unset code memory h =
    ap (λ r. result_and_then r (λ after. Ok (back_from memory after)))
    (untested_same fuel calls stand code (fires_in unset memory)
    (first_untouched (statements_done fuel calls stand code (fires_in unset memory))
    (λ after. Ok (back_from memory after)) h))

-- the same function, with tests or without
fires_tested : (calls : Callable) (body : Body) (function helper : Function) (stand : Standing)
    (values window : List ℤ) (memory : Memory)
    → Fires calls body function helper stand values window memory
    → Fires calls body (record function { tests = true }) helper stand values window memory
fires_tested calls body function helper stand values window memory fires = record {
  names = fires.names;
  pops = fires.pops;
  peek = fires.peek;
  pushes = fires.pushes;
  helpers = fires.helpers;
  small = fires.small;
  few_read = fires.few_read;
  few_written = fires.few_written;
  reads = fires.reads;
  writes = fires.writes;
  count = fires.count;
  held = fires.held;
  whole = fires.whole;
  ahead = fires.ahead;
}

pub firings_do_same : FiringsDoTheSame
firings_do_same calls body function helper stand unset values window memory fuel is fit levels
    fires enough safe = by function.tests refl
  where
    run : Statements → Result Memory Stop
    run code = firing_done fuel (helpers_done fuel (without_items stand) unset
        (helper_functions helper calls.helpers) (suc CALL_LIMIT)) stand unset code memory

    code : Nodes
    code = body_nodes body (filter_in calls)

    by : (t : Bool) → function.tests ≡ t → Refines (FiringShows stand function.pushes memory)
        (fired (filter_in calls) body values window) (run (emitted function code))
    by true e =
        firing_does calls body function helper stand unset values window memory fuel is fit levels
        fires enough e
    by false e =
        let shown = FiringShows stand function.pushes memory in
        let given = fired (filter_in calls) body values window in
        let with = with_tests function e in
        let tested : Refines shown given (run (emitted with code)) =
        firing_does calls body with helper stand unset values window memory fuel is fit levels
        (fires_tested calls body function helper stand values window memory fires) enough refl in
        subst (λ s. Refines shown given (run s)) (emitted_untested function e code)
        (subst (Refines shown given) (sym (firing_untested fuel
        (helpers_done fuel (without_items stand) unset (helper_functions helper calls.helpers)
        (suc CALL_LIMIT)) stand unset (emitted with code) memory
        (untouched shown given (run (emitted with code)) tested (safe e)))) tested)
