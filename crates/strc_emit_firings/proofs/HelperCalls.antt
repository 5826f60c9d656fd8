-- Calls of helper functions in C give what they give in the text.
use Rattle.std.proofs.Common.{◌≡◌, ℕ, zero, suc, ◌+◌, ◌-◌, ◌<◌, ◌≤◌, ◌^◌, ℤ, pos, Bool, true, false}
use Rattle.std.proofs.Common.{cond, List, [], length, take, Result, Err, Option, Some}
use Rattle.std.proofs.Common.{None, refl, sym, ap, ◌∙◌, subst, subst₂, arith, ◌⊎◌, inl, inr, nat_lt}
use Rattle.std.proofs.Common.{get_or}
use Rattle.std.specs.Prelude.{slice_get}
use Rattle.std.proofs.lemmas.Bool.{cases_lt, lt-ltb, le-ltb, eq-eqb, eqb-true}
use Rattle.std.proofs.lemmas.Option.{slice_get-map}
use Rattle.std.specs.Option.{option_map}
use Rattle.strc_lex_names.specs.Results.{result_and_then}
use Rattle.strc_work_meaning.specs.declared.fault.Cause.{Cause}
use Rattle.strc_work_meaning.specs.declared.fault.Cause.TheVariants as cause
use Rattle.strc_work_meaning.specs.declared.fault.TheConstants.{CALL_LIMIT}
use Rattle.strc_work_meaning.specs.Filters.{Helper, helper_named, sized_fields}
use Rattle.strc_work_meaning.specs.Scoping.{helper_scope}
use Rattle.strc_work_meaning.specs.Firing.{Called, Traffic, no_traffic, no_io, turn_limit, called}
use Rattle.strc_work_meaning.specs.Firing.{helper_called}
use Rattle.strc_work_code.specs.declared.helper.HelperCode.{HelperCode}
use Rattle.strc_work_code.specs.Code.{code_of}
use Rattle.strc_work_code.specs.Helpers.{block_nodes}
use Rattle.strc_work_code.specs.Links.{place_of}
use Rattle.strc_work_code.specs.Lowering.{field_scope}
use Rattle.strc_work_code.specs.Machine.{Machine}
use Rattle.strc_work_code.specs.Nodes.{Nodes, nodes_done}
use Rattle.strc_emit_c.specs.declared.function.Function.{Function}
use Rattle.strc_emit_c.specs.C.{Turns, Depth}
use Rattle.strc_emit_c.specs.Meaning.{Field, Counted, Memory, Stop, Undefined, Standing}
use Rattle.strc_emit_c.specs.Meaning.{Calls, statements_done}
use Rattle.strc_emit_code.specs.Emitted.{emitted}
use Rattle.strc_emit_meaning.specs.Refinement.{Refines, lines_done}
use Rattle.strc_emit_meaning.specs.Showing.{Shows, Stands, CallShows, called_at, CallsDoTheSame}
use Rattle.strc_emit_meaning.proofs.Codes.{codes_do_same}
use Rattle.strc_emit_meaning.proofs.Lowered.{lowered_is_plain}
use Rattle.strc_emit_meaning.proofs.Loops.{limit_is}
use Rattle.strc_work.specs.Calls.{Callable, IsCallable, IsFound, filter_in, names_in, code_at}
use Rattle.strc_work.specs.Calls.{setting_in}
use Rattle.strc_work.proofs.Calling.{IsCalled, block_called, found_called}
use Rattle.strc_work.proofs.HelperRuns.{helper_runs}
use Rattle.strc_work.proofs.Found.{code_named, Finds, FoundAmong, found, found_in, code_placed}
use Rattle.strc_emit_firings.specs.Functions.{Unset, HelperFunction, helper_functions}
use Rattle.strc_emit_firings.specs.Functions.{without_items, called_with, entry_lines, returned}
use Rattle.strc_emit_firings.specs.Functions.{helper_done, helpers_done}
use Rattle.strc_emit_firings.specs.Known.{is_known, takes, CallsFit}
use Rattle.strc_emit_firings.specs.Firings.{WritesHelpers, HelpersDoTheSame}
use Rattle.strc_emit_firings.proofs.Composing.{refines_by, refines_after}
use Rattle.strc_emit_firings.proofs.Members.{some_none, same_helper, not_placed, known_helper}
use Rattle.strc_emit_firings.proofs.Begun as begun
use Rattle.strc_emit_firings.proofs.Entries as entries

some_code : (code : HelperCode) → None ≡ Some code → ⊥
some_code code e = cc

-- the code at a place
placed : (codes : List HelperCode) (place : Option ℕ) (code : HelperCode)
    → code_at codes place ≡ Some code
    → (p : ℕ) × (place ≡ Some p) × (slice_get codes p ≡ Some code)
placed codes None code e = absurd (some_code code e)
placed codes (Some p) code e = (p, refl, e)

module _ (calls : Callable) (function : Function) (stand : Standing) (unset : Unset) (fuel : ℕ)
    (is : IsCallable calls) (fit : CallsFit (filter_in calls).members)
    (writes : WritesHelpers calls function stand) (enough : turn_limit < fuel) where
  abbrev inner : Standing
  inner = without_items stand

  abbrev at_level : ℕ → Callable
  at_level n = record calls { levels = n }

  callable : (n : ℕ) → IsCallable (at_level n)
  callable n = record {
    helpers_are = is.helpers_are;
    fields_are = is.fields_are;
    room_is = is.room_is;
    linked = is.linked;
    closed = is.closed;
  }

  abbrev done : ℕ → Calls
  done n = helpers_done fuel inner unset (helper_functions function calls.helpers) n

  abbrev Same : ℕ → Type 0
  Same n = CallsDoTheSame (is_known (filter_in calls).members) function.helpers
      (called (filter_in calls).members n) stand.node stand.fields (pos (CALL_LIMIT - n))
      (done (suc n))

  -- a name of no helper function
  called_none : (n : ℕ) (name : List ℕ) (values held : List ℤ) (turns : ℕ)
      → helper_named (filter_in calls).members name ≡ None
      → called (filter_in calls).members n name values held turns ≡ Err cause.Calls
  called_none zero name values held turns e = refl
  called_none (suc n) name values held turns e =
      ap (λ o. helper_called (setting_in (at_level n) no_io)
      (sized_fields (filter_in calls).members) o values held turns) e

  none_does : (n : ℕ) (name : List ℕ) (values held : List ℤ) (turns : ℕ) (memory : Memory)
      → helper_named (filter_in calls).members name ≡ None
      → Refines (CallShows stand.node stand.fields memory turns)
      (called (filter_in calls).members n name values held turns)
      (called_at (done (suc n)) (place_of function.helpers name) values memory)
  none_does n name values held turns memory e =
      let place : place_of function.helpers name ≡ None =
      ap (λ names. place_of names name) writes.names
      ∙ not_placed (filter_in calls).members name e in
      subst₂ (λ x z. Refines (CallShows stand.node stand.fields memory turns) x z)
      (sym (called_none n name values held turns e))
      (sym (ap (λ o. called_at (done (suc n)) o values memory) place)) refl

  -- the code of a helper function
  code_found : (name : List ℕ) (helper : Helper)
      → helper_named (filter_in calls).members name ≡ Some helper
      → (code : HelperCode) × (code_named calls.helpers name ≡ Some code)
      × (code.parameters ≡ length helper.parameters)
  code_found name helper named = by (code_named calls.helpers name) refl
    where
      finds : Finds (field_scope (filter_in calls))
          (helper_named (filter_in calls).members name) calls.helpers name
          (code_named calls.helpers name)
      finds = found (field_scope (filter_in calls)) (filter_in calls).members calls.helpers name
          is.helpers_are is.closed

      by : (o : Option HelperCode) → code_named calls.helpers name ≡ o
          → (code : HelperCode) × (code_named calls.helpers name ≡ Some code)
          × (code.parameters ≡ length helper.parameters)
      by None e =
          absurd (some_none helper (sym named ∙ subst (Finds (field_scope (filter_in calls))
          (helper_named (filter_in calls).members name) calls.helpers name) e finds))
      by (Some code) e =
          let among : FoundAmong (field_scope (filter_in calls))
          (helper_named (filter_in calls).members name) calls.helpers name code =
          subst (Finds (field_scope (filter_in calls))
          (helper_named (filter_in calls).members name) calls.helpers name) e finds in
          let one : among.helper ≡ helper =
          same_helper among.helper helper (sym among.named_is ∙ named) in (
            code,
            e,
            among.is.parameters_are
                ∙ ap (λ (h : Helper). length h.parameters) one,
          )

  -- what a call does in C
  abbrev ran : ℕ → HelperCode → List ℤ → Memory → Memory → Result (ℤ × Memory) Stop
  ran n code values memory entered =
      result_and_then (statements_done fuel (done n) inner (emitted function (code_of code.code))
      (called_with stand.fields values unset entered)) (returned inner memory)

  call_is : (n : ℕ) (name : List ℕ) (code : HelperCode) (values : List ℤ) (memory : Memory)
      → code_named calls.helpers name ≡ Some code → length values ≡ code.parameters
      → called_at (done (suc n)) (place_of function.helpers name) values memory
      ≡ result_and_then (lines_done (done n) inner entry_lines memory)
      (ran n code values memory)
  call_is n name code values memory named count =
      let place : Option ℕ = place_of (names_in calls) name in
      let there = placed calls.helpers place code
      (code_placed (field_scope (filter_in calls)) (filter_in calls).members calls.helpers name
      is.helpers_are ∙ named) in
      let function_of : HelperCode → HelperFunction = λ code. record {
        parameters = code.parameters;
        slots = code.slots;
        body = emitted function (code_of code.code);
      } in
      let at : slice_get (helper_functions function calls.helpers) there.0
      ≡ Some (function_of code) =
      slice_get-map function_of calls.helpers there.0 ∙ ap (option_map function_of) there.2 in
      ap (λ names. called_at (done (suc n)) (place_of names name) values memory) writes.names
      ∙ ap (λ o. called_at (done (suc n)) o values memory) there.1
      ∙ ap (λ o. helper_done fuel (done n) inner unset o values memory) at
      ∙ ap (λ t. cond t (result_and_then (lines_done (done n) inner entry_lines memory)
      (ran n code values memory)) (Err Undefined))
      (eq-eqb (length values) code.parameters count)

  -- a call of a helper function, where no more may be running
  last_does : (name : List ℕ) (code : HelperCode) (values held : List ℤ) (turns : ℕ)
      (memory : Memory) → code_named calls.helpers name ≡ Some code
      → length values ≡ code.parameters → memory.cells (Counted Turns) ≡ pos turns
      → memory.cells (Counted Depth) ≡ pos (CALL_LIMIT - 0)
      → Refines (CallShows stand.node stand.fields memory turns)
      (called (filter_in calls).members 0 name values held turns)
      (called_at (done 1) (place_of function.helpers name) values memory)
  last_does name code values held turns memory named count turning depth_is =
      subst (λ z. Refines (CallShows stand.node stand.fields memory turns)
      (called (filter_in calls).members 0 name values held turns) z)
      (sym (call_is 0 name code values memory named count
      ∙ ap (λ r. result_and_then r (ran 0 code values memory))
      (entries.full_calls (done 0) inner memory (CALL_LIMIT - 0) turns depth_is turning
      (omega arith)))) refl

  -- the code of a helper function, from the memory at the beginning of its call
  module _ (n : ℕ) (within : suc n ≤ CALL_LIMIT) (same : Same n) (name : List ℕ)
      (code : HelperCode) (values held : List ℤ) (turns : ℕ) (memory : Memory)
      (isfound : IsFound (at_level (suc n)) name (length values) code)
      (count_is : length held ≡ stand.fields)
      (held_in : (slot : ℕ) → slot < stand.fields
      → memory.cells (Field stand.node slot) ≡ get_or held slot (pos 0))
      (turning : memory.cells (Counted Turns) ≡ pos turns) (few : turns < turn_limit)
      (depth_is : memory.cells (Counted Depth) ≡ pos (CALL_LIMIT - suc n)) where
    abbrev depth : ℕ
    depth = CALL_LIMIT - suc n

    abbrev entered : Memory
    entered = entries.entered (done (suc n)) inner memory depth turns depth_is turning

    abbrev first : Memory
    first = called_with stand.fields values unset entered

    abbrev block : Nodes
    block = block_nodes (field_scope (filter_in calls)) isfound.helper.parameters
        isfound.helper.block

    own : stand.fields + (2 + length values) ≤ code.slots
    own = omega (arith, isfound.own, writes.fields)

    small_size : code.slots < 2 ^ 31
    small_size = omega (arith, isfound.fits, writes.small)

    stands : Stands function (setting_in (at_level n) no_io) inner first code.slots
    stands = record {
      fields = writes.fields ∙ is.fields_are;
      fits = omega (arith, own, writes.fields, is.fields_are);
      small = small_size;
      tests = writes.tests;
      pops = writes.pops;
      peek = writes.peek;
      pushes = writes.pushes;
      front = sym (ap (λ k. take k []) writes.pops);
      reads = omega (arith, writes.peek);
      writes = omega (arith, writes.pushes);
      few_read = omega (arith, writes.peek);
      few_written = omega (arith, writes.pushes);
      apart = writes.apart;
      window = λ place lt. absurd (omega (arith, lt, writes.peek));
    }

    few_more : turns + 1 ≤ turn_limit
    few_more = omega (arith, few)

    abbrev machine : Machine
    machine = begun.first_machine inner values held unset code.slots (turns + 1) entered count_is
        own held_in refl few_more

    shows : Shows inner no_io first code.slots (turns + 1) machine first
    shows = begun.begun_shows inner values held unset code.slots (turns + 1) entered count_is own
        held_in refl few_more

    calls_same : CallsDoTheSame (is_known (filter_in calls).members) function.helpers
        (called (filter_in calls).members n) stand.node stand.fields (pos (depth + 1))
        (done (suc n))
    calls_same =
        let number : CALL_LIMIT - n ≡ depth + 1 = omega (arith, within) in
        subst (λ d. CallsDoTheSame (is_known (filter_in calls).members) function.helpers
        (called (filter_in calls).members n) stand.node stand.fields (pos d) (done (suc n))) number
        same

    code_does : Refines (Shows inner no_io first code.slots (turns + 1))
        (nodes_done (setting_in (at_level n) no_io) block machine)
        (statements_done fuel (done (suc n)) inner (emitted function (code_of code.code)) first)
    code_does =
        subst (λ nodes. Refines (Shows inner no_io first code.slots (turns + 1))
        (nodes_done (setting_in (at_level n) no_io) block machine)
        (statements_done fuel (done (suc n)) inner (emitted function nodes) first))
        (sym isfound.is.block_is)
        (codes_do_same (is_known (filter_in calls).members) function
        (setting_in (at_level n) no_io) inner first code.slots fuel (done (suc n)) stands enough
        calls_same block
        (lowered_is_plain (is_known (filter_in calls).members)
        (helper_scope (field_scope (filter_in calls)) isfound.helper.parameters) false
        isfound.helper.block
        (known_helper (is_known (filter_in calls).members) (filter_in calls).members name
        isfound.helper fit isfound.named))
        (omega (arith, isfound.is.slots_are)) (turns + 1) machine first shows)

    -- what the text's block gives goes with the memory after the code
    abbrev traffic : Traffic
    traffic = record no_traffic { turns = turns + 1 }

    record Ended (given : Called) (after : Memory) : Type 0 where
      machine_after : Machine
      called_is : IsCalled stand.fields traffic given machine_after
      shown : Shows inner no_io first code.slots (turns + 1) machine_after after

    block_does : Refines Ended
        (block_called (setting_in (at_level n) no_io) (sized_fields (filter_in calls).members)
        isfound.helper values held (turns + 1))
        (statements_done fuel (done (suc n)) inner (emitted function (code_of code.code)) first)
    block_does =
        refines_by (IsCalled calls.fields traffic)
        (Shows inner no_io first code.slots (turns + 1)) Ended
        (block_called (setting_in (at_level n) no_io) (sized_fields (filter_in calls).members)
        isfound.helper values held (turns + 1))
        (nodes_done (setting_in (at_level n) no_io) block machine)
        (statements_done fuel (done (suc n)) inner (emitted function (code_of code.code)) first)
        (helper_runs (at_level (suc n)) name (length values) code isfound n values held
        (begun.others inner values held unset code.slots (turns + 1) entered count_is own held_in
        refl few_more) traffic refl (count_is ∙ writes.fields)
        (omega (
          arith,
          begun.first_count inner values held unset code.slots (turns + 1) entered
              count_is own held_in refl few_more,
        )))
        code_does
        (λ given after memory' p q. record {
          machine_after = after;
          called_is = subst (λ f. IsCalled f traffic given after) (sym writes.fields) p;
          shown = q;
        })

    ran_does : Refines (CallShows stand.node stand.fields memory turns)
        (block_called (setting_in (at_level n) no_io) (sized_fields (filter_in calls).members)
        isfound.helper values held (turns + 1))
        (ran (suc n) code values memory entered)
    ran_does =
        refines_after Ended (CallShows stand.node stand.fields memory turns)
        (block_called (setting_in (at_level n) no_io) (sized_fields (filter_in calls).members)
        isfound.helper values held (turns + 1))
        (statements_done fuel (done (suc n)) inner (emitted function (code_of code.code)) first)
        (returned inner memory) block_does
        (λ given after ended. (
          entries.told inner memory first after code.slots depth turns traffic given
              ended.machine_after (omega (arith, own)) refl depth_is refl (omega arith) refl
              (λ node slot. refl) (λ channel place. refl) refl ended.called_is ended.shown,
          entries.returns inner memory first after code.slots depth turns traffic given
              ended.machine_after (omega (arith, own)) refl depth_is refl (omega arith) refl
              (λ node slot. refl) (λ channel place. refl) refl ended.called_is ended.shown,
          entries.call_shows inner memory first after code.slots depth turns traffic given
              ended.machine_after (omega (arith, own)) refl depth_is refl (omega arith) refl
              (λ node slot. refl) (λ channel place. refl) refl ended.called_is ended.shown,
        ))

  more_does : (n : ℕ) → suc n ≤ CALL_LIMIT → Same n → (name : List ℕ) (code : HelperCode)
      (values held : List ℤ) (turns : ℕ) (memory : Memory)
      → code_named calls.helpers name ≡ Some code → length values ≡ code.parameters
      → length held ≡ stand.fields
      → ((slot : ℕ) → slot < stand.fields
      → memory.cells (Field stand.node slot) ≡ get_or held slot (pos 0))
      → memory.cells (Counted Turns) ≡ pos turns
      → memory.cells (Counted Depth) ≡ pos (CALL_LIMIT - suc n)
      → Refines (CallShows stand.node stand.fields memory turns)
      (called (filter_in calls).members (suc n) name values held turns)
      (called_at (done (suc (suc n))) (place_of function.helpers name) values memory)
  more_does n within same name code values held turns memory named count count_is held_in turning
      depth_is =
      by (cases_lt turns turn_limit)
    where
      isfound : IsFound (at_level (suc n)) name (length values) code
      isfound = found_in (at_level (suc n)) name (length values) code (callable (suc n)) named
          (sym count)

      less : CALL_LIMIT - suc n < CALL_LIMIT
      less = omega (arith, within)

      given : ℕ → Result Called Cause
      given k = block_called (setting_in (at_level k) no_io)
          (sized_fields (filter_in calls).members) isfound.helper values held (turns + 1)

      text : (t : Bool) → nat_lt turns turn_limit ≡ t
          → called (filter_in calls).members (suc n) name values held turns
          ≡ cond t (given n) (Err cause.Turns)
      text t e =
          let number : suc n - 1 ≡ n = omega arith in
          found_called (at_level (suc n)) no_io name (length values) code isfound values held turns
          t (omega arith) refl e
          ∙ ap (λ k. cond t (given k) (Err cause.Turns)) number

      by : (turns < turn_limit) ⊎ (turn_limit ≤ turns)
          → Refines (CallShows stand.node stand.fields memory turns)
          (called (filter_in calls).members (suc n) name values held turns)
          (called_at (done (suc (suc n))) (place_of function.helpers name) values memory)
      by (inr le) =
          subst₂ (λ x z. Refines (CallShows stand.node stand.fields memory turns) x z)
          (sym (text false (le-ltb turns turn_limit le)))
          (sym (call_is (suc n) name code values memory named count
          ∙ ap (λ r. result_and_then r (ran (suc n) code values memory))
          (entries.full_turns (done (suc n)) inner memory (CALL_LIMIT - suc n) turns depth_is
          turning less (omega (arith, le, limit_is))))) refl
      by (inl lt) =
          subst₂ (λ x z. Refines (CallShows stand.node stand.fields memory turns) x z)
          (sym (text true (lt-ltb turns turn_limit lt)))
          (sym (call_is (suc n) name code values memory named count
          ∙ ap (λ r. result_and_then r (ran (suc n) code values memory))
          (entries.enters (done (suc n)) inner memory (CALL_LIMIT - suc n) turns depth_is
          turning less (omega (arith, lt, limit_is)))))
          (ran_does n within same name code values held turns memory isfound count_is held_in
          turning lt depth_is)

  some_known : (name : List ℕ) (helper : Helper) (count : ℕ)
      → helper_named (filter_in calls).members name ≡ Some helper
      → is_known (filter_in calls).members name count ≡ true → count ≡ length helper.parameters
  some_known name helper count named known =
      eqb-true count (length helper.parameters)
      (ap (λ o. takes o count) (sym named) ∙ known)

  pub helpers_do : (n : ℕ) → n ≤ CALL_LIMIT → Same n
  helpers_do zero within name values held turns memory known count_is held_in turning few
      depth_is =
      by (helper_named (filter_in calls).members name) refl
    where
      by : (o : Option Helper) → helper_named (filter_in calls).members name ≡ o
          → Refines (CallShows stand.node stand.fields memory turns)
          (called (filter_in calls).members 0 name values held turns)
          (called_at (done 1) (place_of function.helpers name) values memory)
      by None e = none_does 0 name values held turns memory e
      by (Some helper) e =
          let code = code_found name helper e in
          last_does name code.0 values held turns memory code.1
          (some_known name helper (length values) e known ∙ sym code.2) turning depth_is
  helpers_do (suc n) within name values held turns memory known count_is held_in turning few
      depth_is =
      by (helpers_do n (omega (arith, within))) (helper_named (filter_in calls).members name) refl
    where
      by : Same n → (o : Option Helper) → helper_named (filter_in calls).members name ≡ o
          → Refines (CallShows stand.node stand.fields memory turns)
          (called (filter_in calls).members (suc n) name values held turns)
          (called_at (done (suc (suc n))) (place_of function.helpers name) values memory)
      by same None e = none_does (suc n) name values held turns memory e
      by same (Some helper) e =
          let code = code_found name helper e in
          more_does n within same name code.0 values held turns memory code.1
          (some_known name helper (length values) e known ∙ sym code.2) count_is held_in turning
          depth_is

pub helpers_do_same : HelpersDoTheSame
helpers_do_same calls function stand unset port fuel is fit writes enough few =
    helpers_do calls function stand unset fuel is fit writes enough calls.levels few
