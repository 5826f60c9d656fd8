-- The text of an order spells functions that do what the program does in it.
use Rattle.std.proofs.Common.{◌≡◌, ℕ, zero, suc, ◌+◌, ◌*◌, ◌/◌, ◌-◌, ◌≤◌, Bool, true, false, List}
use Rattle.std.proofs.Common.{[], ◌∷◌, ◌++◌, length, map, Option, Some, None, Result, Ok, Err, refl}
use Rattle.std.proofs.Common.{sym, ap, ◌∙◌, arith, ◌==◌, ◌||◌, append-nil, append_assoc}
use Rattle.std.specs.Prelude.{slice_get, slice_index, codes, decimal, if◌then◌else◌}
use Rattle.std.specs.Fmt.{digits}
use Rattle.strc_lex_names.specs.Results.{result_and_then}
use Rattle.strc_sched_orders.specs.declared.unit as units
use Rattle.strc_emit_text.specs.Texts.{texts_below}
use Rattle.strc_emit_moves.specs.declared.places.Phase.{Phase}
use Rattle.strc_emit_moves.specs.declared.places.Phase.TheVariants as phase
use Rattle.strc_emit_meaning.proofs.Outcomes.{then_assoc}
use Rattle.strc_emit_program.specs.declared.orders.Call.{Call}
use Rattle.strc_emit_program.specs.declared.orders.TheConstants.{PART}
use Rattle.strc_emit_program.specs.Orders.{call_text, call_if, call_at, calls_of, slide_text}
use Rattle.strc_emit_program.specs.Orders.{move_text}
use Rattle.strc_emit_program.specs.Orders.{gone_from, order_name, part_text, part_call, order_text}
use Rattle.strc_emit_runs.specs.Running.{Program, Running, Halt, calls_done, slides_done}
use Rattle.strc_emit_runs.specs.Running.{call_done, code_at, slide_if, slide_done, gone_in}
use Rattle.strc_emit_runs.specs.Running.{order_done}
use Rattle.strc_emit_plans.specs.Calls.{call_made, calls_made}
use Rattle.strc_emit_answers.specs.Orders.{Statement, Fires, Slides, statement_text}
use Rattle.strc_emit_answers.specs.Orders.{statements_text, statement_done, statements_done}
use Rattle.strc_emit_answers.specs.Orders.{OrderFunctions, part_spelled, order_spelled, parts_done}
use Rattle.strc_emit_answers.specs.Orders.{functions_done, OrdersSpell, OrderRow}

-- texts below a number

texts_same : (f g : ℕ → List ℕ) → ((k : ℕ) → f k ≡ g k) → (n : ℕ)
    → texts_below f n ≡ texts_below g n
texts_same f g same zero = refl
texts_same f g same (suc n) =
    ap (λ text. text ++ f n) (texts_same f g same n) ∙ ap (λ text. texts_below g n ++ text) (same n)

statements_append : (when : Phase) (xs ys : List Statement)
    → statements_text when (xs ++ ys) ≡ statements_text when xs ++ statements_text when ys
statements_append when [] ys = refl
statements_append when (x ∷ xs) ys =
    ap (λ text. statement_text when x ++ text) (statements_append when xs ys)
    ∙ sym (append_assoc (statement_text when x) (statements_text when xs)
    (statements_text when ys))

-- the statements of the numbers below one

abbrev statements_below : (ℕ → List Statement) → ℕ → List Statement
statements_below f zero = []
statements_below f (suc n) = statements_below f n ++ f n

below_text : (when : Phase) (f : ℕ → List Statement) (g : ℕ → List ℕ)
    → ((k : ℕ) → statements_text when (f k) ≡ g k) → (n : ℕ)
    → statements_text when (statements_below f n) ≡ texts_below g n
below_text when f g same zero = refl
below_text when f g same (suc n) =
    statements_append when (statements_below f n) (f n)
    ∙ ap (λ text. text ++ statements_text when (f n)) (below_text when f g same n)
    ∙ ap (λ text. texts_below g n ++ text) (same n)

below_split : (f : ℕ → List Statement) (a b : ℕ)
    → statements_below f (a + b) ≡ statements_below f a ++ statements_below (λ k. f (a + k)) b
below_split f a zero =
    let same : a + 0 ≡ a = omega arith in
    ap (statements_below f) same ∙ sym (append-nil (statements_below f a))
below_split f a (suc b) =
    let same : a + suc b ≡ suc (a + b) = omega arith in
    ap (statements_below f) same
    ∙ ap (λ list. list ++ f (a + b)) (below_split f a b)
    ∙ append_assoc (statements_below f a) (statements_below (λ k. f (a + k)) b) (f (a + b))

below_first : (f : ℕ → List Statement) (n : ℕ)
    → statements_below f (suc n) ≡ f 0 ++ statements_below (λ k. f (suc k)) n
below_first f zero = sym (append-nil (f 0))
below_first f (suc n) =
    ap (λ list. list ++ f (suc n)) (below_first f n)
    ∙ append_assoc (f 0) (statements_below (λ k. f (suc k)) n) (f (suc n))

below_none : (f : ℕ → List Statement) → ((k : ℕ) → f k ≡ []) → (n : ℕ)
    → statements_below f n ≡ []
below_none f none zero = refl
below_none f none (suc n) =
    ap (λ list. list ++ f n) (below_none f none n) ∙ none n

-- the calls at numbers

abbrev fires_if : Option Call → List Statement
fires_if None = []
fires_if (Some call) = Fires call ∷ []

abbrev fires_at : List Call → ℕ → List Statement
fires_at calls k = fires_if (slice_get calls k)

fires_text : (when : Phase) (o : Option Call) → statements_text when (fires_if o) ≡ call_if when o
fires_text when None = refl
fires_text when (Some call) = append-nil (call_text when call)

none_fires : (k : ℕ) → fires_at [] k ≡ []
none_fires k = refl

all_fire : (calls : List Call) (n : ℕ) → length calls ≤ n
    → statements_below (fires_at calls) n ≡ map Fires calls
all_fire [] n less = below_none (fires_at []) none_fires n
all_fire (call ∷ rest) zero less = absurd (omega (arith, less))
all_fire (call ∷ rest) (suc n) less =
    below_first (fires_at (call ∷ rest)) n
    ∙ ap (λ list. Fires call ∷ list) (all_fire rest n (omega (arith, less)))

-- what is done

pub then_same : (r : Result Running Halt) (f g : Running → Result Running Halt)
    → ((running : Running) → f running ≡ g running)
    → result_and_then r f ≡ result_and_then r g
then_same (Ok running) f g same = same running
then_same (Err why) f g same = refl

module _ (program : Program) (when : Phase) where
  done_append : (xs ys : List Statement) (running : Running)
      → statements_done program when (xs ++ ys) running
      ≡ result_and_then (statements_done program when xs running)
      (statements_done program when ys)
  done_append [] ys running = refl
  done_append (x ∷ xs) ys running =
      then_same (statement_done program when x running) (statements_done program when (xs ++ ys))
      (λ after. result_and_then (statements_done program when xs after)
      (statements_done program when ys)) (done_append xs ys)
      ∙ sym (then_assoc (statement_done program when x running) (statements_done program when xs)
      (statements_done program when ys))

  calls_fire : (calls : List Call) (running : Running)
      → calls_done program when (map call_made calls) running
      ≡ statements_done program when (map Fires calls) running
  calls_fire [] running = refl
  calls_fire (call ∷ rest) running =
      then_same (call_done program when call.node (code_at program call.node) call.from
      (call.to - call.from) running) (calls_done program when (map call_made rest))
      (statements_done program when (map Fires rest)) (calls_fire rest)

  -- the moves of channels
  abbrev slides_by : (channel gone left : ℕ) → Bool → List Statement
  slides_by channel gone left true = []
  slides_by channel gone left false = Slides channel gone left ∷ []

  abbrev slide_at : (channel : ℕ) → List Statement
  slide_at channel =
      let gone = gone_in program when channel in
      let left = slice_index program.network.left.now channel in
      slides_by channel gone left (gone == 0 || left == 0)

  slide_spelled : (channel gone left : ℕ) (b : Bool)
      → statements_text when (slides_by channel gone left b)
      ≡ (if b then [] else move_text channel gone left)
  slide_spelled channel gone left true = refl
  slide_spelled channel gone left false = append-nil (move_text channel gone left)

  gone_same : (channel : ℕ) → gone_in program when channel ≡ gone_from program.network when channel
  gone_same channel = gone_by when
    where
      gone_by : (when : Phase)
          → gone_in program when channel ≡ gone_from program.network when channel
      gone_by phase.Startup = refl
      gone_by phase.Round = refl

  slide_is : (channel : ℕ)
      → statements_text when (slide_at channel) ≡ slide_text program.network when channel
  slide_is channel =
      let left = slice_index program.network.left.now channel in
      slide_spelled channel (gone_in program when channel) left
      (gone_in program when channel == 0 || left == 0)
      ∙ ap (λ gone. if gone == 0 || left == 0 then [] else move_text channel gone left)
      (gone_same channel)

  then_ok : (r : Result Running Halt) → r ≡ result_and_then r (statements_done program when [])
  then_ok (Ok running) = refl
  then_ok (Err why) = refl

  slide_does : (channel gone left : ℕ) (b : Bool) (running : Running)
      → (if b then Ok running else slide_done program channel gone left running)
      ≡ statements_done program when (slides_by channel gone left b) running
  slide_does channel gone left true running = refl
  slide_does channel gone left false running =
      then_ok (slide_done program channel gone left running)

  slides_are : (channels : ℕ) (running : Running)
      → slides_done program when channels running
      ≡ statements_done program when (statements_below slide_at channels) running
  slides_are zero running = refl
  slides_are (suc channel) running =
      let gone = gone_in program when channel in
      let left = slice_index program.network.left.now channel in
      let before = statements_below slide_at channel in
      ap (λ r. result_and_then r (slide_if program channel gone left)) (slides_are channel running)
      ∙ then_same (statements_done program when before running) (slide_if program channel gone left)
      (statements_done program when (slide_at channel))
      (slide_does channel gone left (gone == 0 || left == 0))
      ∙ sym (done_append before (slide_at channel) running)

  -- the functions of an order
  abbrev part_at : List Call → (number : ℕ) → List Statement
  part_at calls number = statements_below (λ place. fires_at calls (number * PART + place)) PART

  abbrev functions_of : List Call → OrderFunctions
  functions_of calls = record {
    count = length calls / PART + 1;
    parts = part_at calls;
    rest = statements_below slide_at (length program.network.channels.now);
  }

  part_is : (calls : List Call) (number : ℕ)
      → part_text when calls number ≡ part_spelled when (functions_of calls) number
  part_is calls number =
      ap (λ text. codes "\nstatic APART void " ++ order_name when ++ codes "_part" ++ decimal number
      ++ codes "(void) {\n" ++ text ++ codes "}\n")
      (sym (below_text when (λ place. fires_at calls (number * PART + place))
      (call_at when calls number)
      (λ place. fires_text when (slice_get calls (number * PART + place))) PART))

  order_is : (order : List units.Unit.Unit)
      → order_text program.network when (length program.network.nodes.now) order
      ≡ order_spelled when (functions_of (calls_of (length program.network.nodes.now) order))
  order_is order =
      let calls = calls_of (length program.network.nodes.now) order in
      let parts = length calls / PART + 1 in
      let slides = texts_below (slide_text program.network when)
      (length program.network.channels.now) in
      ap (λ text. text ++ codes "\nstatic void " ++ order_name when ++ codes "(void) {\n"
      ++ texts_below (part_call when) parts ++ slides ++ codes "}\n")
      (texts_same (part_text when calls) (part_spelled when (functions_of calls)) (part_is calls)
      parts)
      ∙ ap (λ text. texts_below (part_spelled when (functions_of calls)) parts
      ++ codes "\nstatic void " ++ order_name when ++ codes "(void) {\n"
      ++ texts_below (part_call when) parts ++ text ++ codes "}\n")
      (sym (below_text when slide_at (slide_text program.network when) slide_is
      (length program.network.channels.now)))

  parts_are : (calls : List Call) (count : ℕ) (running : Running)
      → parts_done program when (functions_of calls) count running
      ≡ statements_done program when (statements_below (fires_at calls) (count * PART)) running
  parts_are calls zero running =
      let none : 0 ≡ 0 * PART = omega arith in
      ap (λ n. statements_done program when (statements_below (fires_at calls) n) running) none
  parts_are calls (suc count) running =
      let one_more : count * PART + PART ≡ suc count * PART = omega arith in
      let before = statements_below (fires_at calls) (count * PART) in
      ap (λ r. result_and_then r (statements_done program when (part_at calls count)))
      (parts_are calls count running)
      ∙ sym (done_append before (part_at calls count) running)
      ∙ ap (λ list. statements_done program when list running)
      (sym (below_split (fires_at calls) (count * PART) PART)
      ∙ ap (statements_below (fires_at calls)) one_more)

  enough : (n : ℕ) → n ≤ (n / PART + 1) * PART
  enough n = omega arith

  order_does : (order : List units.Unit.Unit) (running : Running)
      → order_done program when (calls_made program order) running
      ≡ functions_done program when
      (functions_of (calls_of (length program.network.nodes.now) order)) running
  order_does order running =
      let calls = calls_of (length program.network.nodes.now) order in
      let count = length calls / PART + 1 in
      let channels = length program.network.channels.now in
      ap (λ r. result_and_then r (slides_done program when channels))
      (calls_fire calls running
      ∙ ap (λ list. statements_done program when list running)
      (sym (all_fire calls (count * PART) (enough (length calls))))
      ∙ sym (parts_are calls count running))
      ∙ then_same (parts_done program when (functions_of calls) count running)
      (slides_done program when channels)
      (statements_done program when (statements_below slide_at channels)) (slides_are channels)

pub orders_spell : OrdersSpell
orders_spell program when order = (
  functions_of program when (calls_of (length program.network.nodes.now) order),
  order_is program when order,
  order_does program when order,
)

pub order_row : OrderRow
unfolding digits
order_row = refl
