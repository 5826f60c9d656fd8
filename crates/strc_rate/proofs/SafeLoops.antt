-- What is known in the turns of loops, and that closed peeks stay safe in them.
use Rattle.std.proofs.Common.{◌≡◌, refl, sym, subst, ◌∙◌, ap, ℕ, zero, suc, ◌+◌, ◌-◌, ◌*◌, ◌<◌, ◌≤◌}
use Rattle.std.proofs.Common.{ℤ, pos, negsuc, neg_ℤ, ◌+ℤ◌, ◌*ℤ◌, Bool, true, false, cond, ◌||◌}
use Rattle.std.proofs.Common.{List, [], ◌∷◌, get_or, Option, Some, None, Result, Ok, ◌⊎◌, inl, inr}
use Rattle.std.proofs.Common.{⊎_elim, arith}
use Rattle.std.specs.Prelude.{bytes_eq, is_some}
use Rattle.std.specs.Bool.{MatchBool}
use Rattle.std.specs.Option.{IfSome}
use Rattle.std.specs.Result.{IfOk}
use Rattle.std.proofs.Math.IntN.{pos-*ℤ-pos, pos-*ℤ-negsuc}
use Rattle.std.proofs.Math.Nat.{mul-le-mul_right}
use Rattle.std.proofs.lemmas.Bool.{cases_lt}
use Rattle.std.proofs.lemmas.Int.{ints}
use Rattle.std.proofs.lemmas.Result.{IfOk-weaker}
use Rattle.strc_lex_names.specs.Results.{result_and_then}
use Rattle.strc_parse_tree.specs.Tree as tree
use Rattle.strc_work_meaning.specs.declared.fault.Cause.{Cause}
use Rattle.strc_work_meaning.specs.Arithmetic.{is_true, truth}
use Rattle.strc_work_meaning.specs.Scoping.{Scope, names_after}
use Rattle.strc_rate.proofs.Unreturned.{IsPlain}
use Rattle.strc_work_meaning.specs.Firing.{Setting, Traffic, Store, value_in, condition_value}
use Rattle.strc_work_meaning.specs.Firing.{turned}
use Rattle.strc_work_meaning.specs.Firing.{turn_limit, inside, stmt_done}
use Rattle.strc_rate.proofs.Scopes.{scope_of}
use Rattle.strc_rate_intervals.specs.Loops.{Loop, value_after}
use Rattle.strc_work_writes.specs.LocalWrites.{Locals, option_writes, stmt_writes}
use Rattle.strc_rate.specs.Counts.{Counts, repeated}
use Rattle.strc_rate_intervals.specs.declared.interval.Interval.{Interval}
use Rattle.strc_rate_intervals.specs.Intervals.{Intervals, interval_named, with_interval}
use Rattle.strc_rate_intervals.specs.Intervals.{turns_interval}
use Rattle.strc_rate.specs.Peeks.{PopInterval, in_turns}
use Rattle.strc_rate_intervals.specs.Intervals.{names_of}
use Rattle.strc_rate.specs.PeeksSafe.{LoopIsSafe}
use Rattle.strc_rate.proofs.Results.{or_first, or_second, then_ok, both_ok, ok_known, match_by}
use Rattle.strc_rate.proofs.Keeping.{same_name, Given, Same, same_cells}
use Rattle.strc_rate.proofs.Unwritten.{TurnsFree, turned_holds, inside_after, stmt_keeps}
use Rattle.strc_rate.proofs.LoopParts.{Seen}
use Rattle.strc_rate.proofs.CountedLoops.{HasPlace, Known, At, turn_at, test_holds, test_ends}
use Rattle.strc_rate.proofs.CountedMoves.{Counted, one_more_counted, more_turns}
use Rattle.strc_rate.proofs.StatementCounts.{Parts}
use Rattle.strc_rate.proofs.IntervalValues.{Within, Holds, Between, between_up, between_down}
use Rattle.strc_rate.proofs.Readiness.{Ready, Fixed, within_turns, known_inner}

-- ---- loops

-- a loop whose parts keep what makes them safe
pub loop_safe : (I : Store → Type 0) (test_safe turn_safe : Store → Type 0)
    (test : Store → Result (ℤ × Store) Cause) (body : Store → Result Store Cause) → TurnsFree I
    → ((store : Store) → I store → test_safe store) → ((store : Store) → I store → turn_safe store)
    → ((store : Store) → I store → Given I (test store))
    → ((store : Store) → I store → IfOk (body store) I) → (fuel : ℕ) (store : Store) → I store
    → LoopIsSafe fuel test_safe turn_safe test body store
loop_safe I test_safe turn_safe test body free tests turns kept_test kept_body zero store h = tt
loop_safe I test_safe turn_safe test body free tests turn kept_test kept_body (suc fuel) store h = (
  tests store h,
  IfOk-weaker (test store) (λ tested. I tested.1) _
      (λ tested k.
      match_by (is_true tested.0) (IfOk (turned tested.1)
      (λ turning. turn_safe turning × IfOk (body turning)
      (LoopIsSafe fuel test_safe turn_safe test body))) (Unit {0})
      (λ e.
      IfOk-weaker (turned tested.1) I _
      (λ turning l. (
        turn turning l,
        IfOk-weaker (body turning) I _
            (λ next m. loop_safe I test_safe turn_safe test body free tests turn kept_test
            kept_body fuel next m) (kept_body turning l),
      ))
      (turned_holds I free tested.1 k))
      (λ e. tt))
      (kept_test store h),
)

-- a loop of so many turns
pub turns_safe : (I : ℕ → Store → Type 0) (turns : ℕ) (test_safe turn_safe : Store → Type 0)
    (test : Store → Result (ℤ × Store) Cause) (body : Store → Result Store Cause)
    → ((t : ℕ) → TurnsFree (I t)) → ((store : Store) → test_safe store)
    → ((t : ℕ) (store : Store) → t < turns → I t store → turn_safe store) →
    ((t : ℕ) (store : Store) → t < turns → I t store
    → test store ≡ Ok (truth true, store))
    → ((store : Store) → I turns store → test store ≡ Ok (truth false, store))
    → ((t : ℕ) (store : Store) → t < turns → I t store → IfOk (body store) (I (t + 1)))
    → (fuel t : ℕ) (store : Store) → t ≤ turns → I t store
    → LoopIsSafe fuel test_safe turn_safe test body store
turns_safe I turns test_safe turn_safe test body free tests safe holds ends kept zero t store le h =
    tt
turns_safe I turns test_safe turn_safe test body free tests safe holds ends kept (suc fuel) t store
    le h = (
      tests store,
      let more : Store → Type 0 = λ s. IfOk (turned s)
          (λ turning. turn_safe turning × IfOk (body turning)
          (LoopIsSafe fuel test_safe turn_safe test body)) in
          ⊎_elim
          (λ (lt : t < turns).
          ok_known (test store) (truth true, store)
          (λ tested. MatchBool (is_true tested.0) (more tested.1) (Unit {0})) (holds t store lt h)
          (IfOk-weaker (turned store) (I t) _
          (λ turning k. (
            safe t turning lt k,
            IfOk-weaker (body turning) (I (t + 1)) _
                (λ next l. turns_safe I turns test_safe turn_safe test body free tests safe holds
                ends kept fuel (t + 1) next (omega arith) l) (kept t turning lt k),
          ))
          (turned_holds (I t) (free t) store h)))
          (λ (ge : turns ≤ t).
          let last : t ≡ turns = omega arith in
          ok_known (test store) (truth false, store)
          (λ tested. MatchBool (is_true tested.0) (more tested.1) (Unit {0}))
          (ends store (subst (λ n. I n store) last h)) tt)
          (cases_lt t turns),
    )

-- ---- the interval of a counted loop's variable

fewer_times : (s : ℤ) (x y : ℤ) (p q : ℕ) → x ≡ pos p → y ≡ pos q → p ≤ q
    → Between (s +ℤ x) s (s +ℤ y)
fewer_times s x y p q e f le = between_up s (s +ℤ y) (s +ℤ x) p (q - p) (omega (arith, ints))
    (omega (arith, ints))

fewer_times_down : (s : ℤ) (x y : ℤ) (p q : ℕ) → x ≡ neg_ℤ (pos p) → y ≡ neg_ℤ (pos q) → p ≤ q
    → Between (s +ℤ x) s (s +ℤ y)
fewer_times_down s x y p q e f le = between_down s (s +ℤ y) (s +ℤ x) p (q - p) (omega (arith, ints))
    (omega (arith, ints))

moved_between : (start move : ℤ) (t m : ℕ) → t ≤ m
    → Between (start +ℤ pos t *ℤ move) start (start +ℤ pos m *ℤ move)
moved_between start (pos k) t m le = fewer_times start (pos t *ℤ pos k) (pos m *ℤ pos k) (t * k)
    (m * k) (pos-*ℤ-pos t k) (pos-*ℤ-pos m k) (mul-le-mul_right k le)
moved_between start (negsuc k) t m le = fewer_times_down start (pos t *ℤ negsuc k)
    (pos m *ℤ negsuc k) (t * suc k) (m * suc k) (pos-*ℤ-negsuc t k) (pos-*ℤ-negsuc m k)
    (mul-le-mul_right (suc k) le)

turn_within : (loop : Loop) (t : ℕ) → t < loop.turns
    → Within (turns_interval loop) (value_after loop t)
turn_within loop t lt = moved_between loop.start loop.move t (loop.turns - 1) (omega arith)

-- ---- an interval that is known in a loop

named_here : (first : List ℕ × Option Interval) (rest : Intervals) (name other : List ℕ)
    (interval : Interval) (u : Bool) → bytes_eq first.0 name ≡ true → bytes_eq first.0 other ≡ u
    → (cond u (Some interval) (interval_named rest other)
    ≡ cond u first.1 (interval_named rest other))
    ⊎ ((cond u (Some interval) (interval_named rest other) ≡ Some interval) × (other ≡ name))
named_here first rest name other interval true e f =
    inr (refl, sym (same_name first.0 other f) ∙ same_name first.0 name e)
named_here first rest name other interval false e f = inl refl

named_there : (first : List ℕ × Option Interval) (rest : Intervals) (name other : List ℕ)
    (interval : Interval) (u : Bool) → (interval_named (with_interval rest name interval) other
    ≡ interval_named rest other) ⊎ ((interval_named (with_interval rest name interval) other
    ≡ Some interval) × (other ≡ name)) → (cond u first.1
    (interval_named (with_interval rest name interval) other)
    ≡ cond u first.1 (interval_named rest other))
    ⊎ ((cond u first.1 (interval_named (with_interval rest name interval) other) ≡ Some interval)
    × (other ≡ name))
named_there first rest name other interval true h = inl refl
named_there first rest name other interval false h = h

named_by : (first : List ℕ × Option Interval) (rest : Intervals) (name other : List ℕ)
    (interval : Interval) (t : Bool) → bytes_eq first.0 name ≡ t
    → (interval_named (with_interval rest name interval) other ≡ interval_named rest other)
    ⊎ ((interval_named (with_interval rest name interval) other ≡ Some interval) × (other ≡ name))
    → (interval_named (cond t (record { 0 = first.0; 1 = Some interval } ∷ rest)
    (first ∷ with_interval rest name interval)) other ≡ interval_named (first ∷ rest) other)
    ⊎ ((interval_named (cond t (record { 0 = first.0; 1 = Some interval } ∷ rest)
    (first ∷ with_interval rest name interval)) other ≡ Some interval) × (other ≡ name))
named_by first rest name other interval true e h =
    named_here first rest name other interval (bytes_eq first.0 other) e refl
named_by first rest name other interval false e h =
    named_there first rest name other interval (bytes_eq first.0 other) h

-- the interval of a name is the new one, or that from before
named_with : (intervals : Intervals) (name other : List ℕ) (interval : Interval)
    → (interval_named (with_interval intervals name interval) other
    ≡ interval_named intervals other) ⊎ ((interval_named
    (with_interval intervals name interval) other ≡ Some interval) × (other ≡ name))
named_with [] name other interval = inl refl
named_with (first ∷ rest) name other interval =
    named_by first rest name other interval (bytes_eq first.0 name) refl
    (named_with rest name other interval)

holds_with : (intervals : Intervals) (name : List ℕ) (interval : Interval) (store : Store)
    → Within interval (value_in store name) → Holds intervals store
    → Holds (with_interval intervals name interval) store
holds_with intervals name interval store within h other =
    ⊎_elim
    (λ (e : interval_named (with_interval intervals name interval) other
    ≡ interval_named intervals other). subst
    (λ r. IfSome r (λ q. Within q (value_in store other))) (sym e) (h other))
    (λ (e : (interval_named (with_interval intervals name interval) other ≡ Some interval)
    × (other ≡ name)).
    subst (λ r. IfSome r (λ q. Within q (value_in store other))) (sym e.0)
    (subst (λ n. Within interval (value_in store n)) (sym e.1) within))
    (named_with intervals name other interval)

pub fixed_with : (intervals : Intervals) (name : List ℕ) (interval : Interval)
    (writes : List ℕ → Bool) → writes name ≡ false → Fixed intervals writes
    → Fixed (with_interval intervals name interval) writes
fixed_with intervals name interval writes unwritten fixed other known =
    ⊎_elim
    (λ (e : interval_named (with_interval intervals name interval) other
    ≡ interval_named intervals other). fixed other (sym (ap is_some e) ∙ known))
    (λ (e : (interval_named (with_interval intervals name interval) other ≡ Some interval)
    × (other ≡ name)). subst (λ n. writes n ≡ false) (sym e.1) unwritten)
    (named_with intervals name other interval)

names_by : (first : List ℕ × Option Interval) (rest : Intervals) (name : List ℕ)
    (interval : Interval) (t : Bool) → names_of (with_interval rest name interval) ≡ names_of rest
    → names_of (cond t (record { 0 = first.0; 1 = Some interval } ∷ rest)
    (first ∷ with_interval rest name interval)) ≡ first.0 ∷ names_of rest
names_by first rest name interval true h = refl
names_by first rest name interval false h = ap (λ l. first.0 ∷ l) h

pub names_with : (intervals : Intervals) (name : List ℕ) (interval : Interval)
    → names_of (with_interval intervals name interval) ≡ names_of intervals
names_with [] name interval = refl
names_with (first ∷ rest) name interval =
    names_by first rest name interval (bytes_eq first.0 name) (names_with rest name interval)

-- ---- the turns of a counted loop

-- what the turns of a `for` write
abbrev pub turn_writes : Option tree.Expr → (step body : tree.Stmt) → List ℕ → Bool
turn_writes condition step body name = option_writes name condition
    || (stmt_writes name step || stmt_writes name body)

module _ {locals : Locals} {first : tree.Stmt} {condition : Option tree.Expr}
    {step body : tree.Stmt} {loop : Loop} (known : Known locals first condition step body loop)
    (setting : Setting) (names scope : Scope) (closed : IsPlain names body)
    (closed_step : IsPlain names step) (sized : HasPlace setting.fields scope loop.name)
    (x : Option Counts) (parts : Parts scope x (inside (stmt_done setting body)))
    (begun : Store) where
  abbrev pub Moved : ℕ → Traffic → Type 0
  Moved t traffic = Counted (repeated t x) begun.traffic traffic

  abbrev pub freed : (t : ℕ) (traffic : Traffic) (n : ℕ) → Moved t traffic
      → Moved t (record traffic { turns = n })
  freed t traffic n h = more_turns (repeated t x) begun.traffic traffic n h

  abbrev pub moves_on : (t : ℕ) (s : Store) → t < loop.turns → scope_of s.variables ≡ scope
      → value_in s loop.name ≡ value_after loop t → Moved t s.traffic
      → IfOk (inside (stmt_done setting body) s) (λ after. Moved (t + 1) after.traffic)
  moves_on t s lt shape value so_far =
      IfOk-weaker (inside (stmt_done setting body) s)
      (λ after. Counted x s.traffic after.traffic × (scope_of after.variables ≡ scope)) _
      (λ after h. one_more_counted t begun.traffic s.traffic after.traffic x so_far h.0)
      (parts s shape)

  -- the store where a turn begins: the variable has moved, and what no turn writes is as it was
  pub record InTurn (t : ℕ) (store : Store) : Type 0 where
    pub at : At known setting names scope closed sized Moved freed moves_on t store
    pub same : Same setting.fields (turn_writes condition step body) begun.variables store.variables

  pub next_turn : (t : ℕ) (store : Store) → t < loop.turns → InTurn t store
      → IfOk (result_and_then (inside (stmt_done setting body) store)
      (inside (stmt_done setting step))) (InTurn (t + 1))
  next_turn t store lt here =
      let writes : List ℕ → Bool = turn_writes condition step body in
      IfOk-weaker (result_and_then (inside (stmt_done setting body) store)
      (inside (stmt_done setting step)))
      (λ after. At known setting names scope closed sized Moved freed moves_on (t + 1) after
      × Same setting.fields writes begun.variables after.variables) _
      (λ after h. record { at = h.0; same = h.1 })
      (both_ok (result_and_then (inside (stmt_done setting body) store)
      (inside (stmt_done setting step)))
      _ _ (turn_at known setting names scope closed sized Moved freed moves_on t store lt here.at)
      (then_ok (inside (stmt_done setting body) store) (inside (stmt_done setting step))
      (λ middle. Same setting.fields writes begun.variables middle.variables)
      (λ after. Same setting.fields writes begun.variables after.variables)
      (inside_after setting.fields writes (λ name. stmt_writes name body)
      (names_after (scope_of store.variables) body) begun.variables (stmt_done setting body) store
      (λ name e. or_second (stmt_writes name step) _
      (or_second (option_writes name condition) _ e))
      (stmt_keeps setting body names store closed)
      here.same) (λ middle h. inside_after setting.fields writes (λ name. stmt_writes name step)
      (names_after (scope_of middle.variables) step) begun.variables (stmt_done setting step) middle
      (λ name e. or_first (stmt_writes name step) _
      (or_second (option_writes name condition) _ e))
      (stmt_keeps setting step names middle closed_step)
      h)))

  -- what is known in a turn
  pub ready_turn : (intervals : Intervals) (popped : PopInterval) (t : ℕ) (store : Store)
      → t < loop.turns → is_some x ≡ true → Fixed intervals (turn_writes condition step body)
      → Ready setting.fields intervals popped begun → InTurn t store
      → Ready setting.fields (with_interval intervals loop.name (turns_interval loop))
      (in_turns popped loop.turns x) store
  ready_turn intervals popped t store lt counted fixed ready here = record {
    seen = subst (λ l. Seen setting.fields l (scope_of store.variables))
        (sym (names_with intervals loop.name (turns_interval loop)))
        (subst (Seen setting.fields (names_of intervals)) (sym here.same.shape) ready.seen);
    holds =
        holds_with intervals loop.name (turns_interval loop) store
        (subst (Within (turns_interval loop)) (sym here.at.value) (turn_within loop t lt))
        (λ name. kept name (interval_named intervals name)
        (λ e. ap (λ c. get_or c 0 (pos 0))
        (same_cells setting.fields (turn_writes condition step body) begun.variables store.variables
        name here.same (known_inner setting.fields intervals popped begun name ready e)
        (fixed name e))) (ready.holds name));
    within = within_turns begun.traffic store.traffic popped t loop.turns x counted
        (omega arith) here.at.so_far ready.within;
  }
    where
      kept : (name : List ℕ) (interval : Option Interval)
          → (is_some interval ≡ true → value_in store name ≡ value_in begun name)
          → IfSome interval (λ r. Within r (value_in begun name))
          → IfSome interval (λ r. Within r (value_in store name))
      kept name None same h = tt
      kept name (Some interval) same h = subst (Within interval) (sym (same refl)) h

  -- each turn of the body is safe, and so is the loop
  pub counted_safe : (test_safe turn_safe : Store → Type 0) → ((store : Store) → test_safe store)
      → ((t : ℕ) (store : Store) → t < loop.turns → InTurn t store → turn_safe store)
      → InTurn 0 begun → LoopIsSafe (suc turn_limit) test_safe turn_safe
      (condition_value setting condition) (λ turn. result_and_then
      (inside (stmt_done setting body) turn) (inside (stmt_done setting step))) begun
  counted_safe test_safe turn_safe tests safe here =
      turns_safe InTurn loop.turns test_safe turn_safe (condition_value setting condition)
      (λ turn. result_and_then (inside (stmt_done setting body) turn)
      (inside (stmt_done setting step)))
      (λ t s n h. record {
        at = record {
          shape = h.at.shape;
          value = h.at.value;
          so_far =
              freed t s.traffic n h.at.so_far;
        };
        same = h.same;
      })
      tests safe (λ t s lt h. test_holds known setting s t h.at.value lt)
      (λ s h. test_ends known setting s loop.turns h.at.value refl) next_turn
      (suc turn_limit) 0 begun (omega arith) here
