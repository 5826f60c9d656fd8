-- Calls follow their order, and rounds follow rounds.
use Rattle.std.proofs.Common.{◌≡◌, ℕ, zero, suc, ◌+◌, ◌-◌, ◌≤◌, ℤ, true, false, cond, List, []}
use Rattle.std.proofs.Common.{◌∷◌, ◌++◌, replicate, Option, Some, None, Result, Ok, Err, refl}
use Rattle.std.proofs.Common.{sym, ap, ◌∙◌}
use Rattle.std.proofs.Common.{subst, arith, ◌==◌, ◌⊎◌, inl, inr, Bool}
use mathlib.Core.Path.{fun_ext}
use Rattle.std.proofs.lemmas.Bool.{cases_eq, eq-eqb, ne_eqb, eqb-true}
use Rattle.strc_lex_names.specs.Results.{result_and_then}
use Rattle.strc_work_meaning.specs.declared.fault.Cause.{Cause}
use Rattle.strc_work_meaning.specs.declared.word.Word.{Word}
use Rattle.strc_elab_dataflow.specs.Answer.{words_of}
use Rattle.strc_elab_dataflow.specs.Flat as flat
use Rattle.strc_elab_dataflow.specs.Queues.{FifoProgress, FifoProgress.FifoWent, fifo_fire}
use Rattle.strc_elab_dataflow.specs.Queues.{FifoProgress.FifoStopped, fifo_go, fifo_then}
use Rattle.strc_elab_dataflow.specs.Queues.{fifo_rounds, fifo_round_outcome}
use Rattle.strc_work_meaning.specs.Filters.{Filter}
use Rattle.strc_elab_graph.specs.Graphs.{NodeCode}
use Rattle.strc_elab_graph.specs.Graphs as graphs
use Rattle.strc_elab_graph.specs.Meaning.{node_meaning}
use Rattle.strc_emit_bodies.specs.Spelling.{BodyFunction}
use Rattle.strc_emit_moves.specs.declared.places.Phase.{Phase}
use Rattle.strc_emit_moves.specs.declared.places.Phase.TheVariants as phase
use Rattle.strc_emit_moves.specs.Places.{taken_at, given_at}
use Rattle.strc_emit_runs.specs.Running.{Program, Running, Halt, FaultsIn, NoMeaning, firing_of}
use Rattle.strc_emit_runs.specs.Running.{firings_done, NodeCall, code_at, call_done, calls_done}
use Rattle.strc_emit_runs.specs.Running.{order_done, after_round, rounds_done, next_firing}
use Rattle.strc_emit_runs.specs.Running.{first_firing, prework_done, started, first_or_all, halted}
use Rattle.strc_emit_runs.specs.Running.{body_done, first_source, first_target}
use Rattle.strc_emit_runs.specs.Orders.{Queues, Goes, fired_on, RunShows, FiringsGo, AreCallsOf}
use Rattle.strc_emit_runs.specs.Orders.{AreWithin, FiresSome}
use Rattle.strc_emit_runs.specs.Orders.{IfWent, FindsAlong, FindsInRounds, fired_after, OrdersGo}
use Rattle.strc_emit_runs.specs.Orders.{TellsEnd, IsBetween, RoundsGo, RunsGo}

-- one step after another
goes_then : (Shown Next : Queues → Running → Type 0) (Later : Queues → Type 0)
    (p : FifoProgress (List ℤ) Cause Word) (r : Result Running Halt)
    (f : Queues → FifoProgress (List ℤ) Cause Word) (g : Running → Result Running Halt)
    → IfWent Later p → Goes Shown p r
    → ((now : Queues) (running : Running) → Later now → Shown now running
    → Goes Next (f now) (g running))
    → Goes Next (fifo_then f p) (result_and_then r g)
unfolding fifo_then
goes_then Shown Next Later (FifoWent now) (Ok running) f g more h next = next now running more h
goes_then Shown Next Later (FifoWent now) (Err why) f g more h next = absurd h
goes_then Shown Next Later (FifoStopped stop) (Ok running) f g more h next = absurd h
goes_then Shown Next Later (FifoStopped stop) (Err (FaultsIn node firing cause)) f g more h next = h
goes_then Shown Next Later (FifoStopped stop) (Err NoMeaning) f g more h next = absurd h

fired_more : (fired : ℕ → ℕ) (node count : ℕ)
    → fired_on (fired_on fired node 1) node count ≡ fired_on fired node (suc count)
fired_more fired node count = fun_ext each
  where
    by : (other : ℕ) → (other ≡ node) ⊎ (other ≡ node → ⊥)
        → fired_on (fired_on fired node 1) node count other ≡ fired_on fired node (suc count) other
    by other (inl is) =
        let same : (other == node) ≡ true = eq-eqb other node is in
        let own : (node == node) ≡ true = eq-eqb node node refl in
        let sum : fired node + 1 + count ≡ fired node + suc count = omega arith in
        ap (λ t. cond t (fired_on fired node 1 node + count) (fired_on fired node 1 other)) same
        ∙ ap (λ t. cond t (fired node + 1) (fired node) + count) own ∙ sum
        ∙ sym (ap (λ t. cond t (fired node + suc count) (fired other)) same)
    by other (inr differ) =
        let apart : (other == node) ≡ false = ne_eqb other node differ in
        ap (λ t. cond t (fired_on fired node 1 node + count) (fired_on fired node 1 other)) apart
        ∙ ap (λ t. cond t (fired node + 1) (fired other)) apart
        ∙ sym (ap (λ t. cond t (fired node + suc count) (fired other)) apart)

    each : (other : ℕ)
        → fired_on (fired_on fired node 1) node count other ≡ fired_on fired node (suc count) other
    each other = by other (cases_eq other node)

fired_none : (fired : ℕ → ℕ) (node : ℕ) → fired_on fired node 0 ≡ fired
fired_none fired node = fun_ext (λ other. by other (cases_eq other node))
  where
    by : (other : ℕ) → (other ≡ node) ⊎ (other ≡ node → ⊥)
        → fired_on fired node 0 other ≡ fired other
    by other (inl is) =
        let sum : fired node + 0 ≡ fired node = omega arith in
        ap (λ t. cond t (fired node + 0) (fired other)) (eq-eqb other node is) ∙ sum
        ∙ ap fired (sym is)
    by other (inr differ) =
        ap (λ t. cond t (fired node + 0) (fired other)) (ne_eqb other node differ)

fired_here : (fired : ℕ → ℕ) (node : ℕ) → fired_on fired node 1 node ≡ fired node + 1
fired_here fired node =
    ap (λ t. cond t (fired node + 1) (fired node)) (eq-eqb node node refl)

pub within_on : (most fired : ℕ → ℕ) (node count : ℕ) → AreWithin most fired
    → fired node + count ≤ most node → AreWithin most (fired_on fired node count)
within_on most fired node count all within other = by (other == node) refl
  where
    by : (t : Bool) → (other == node) ≡ t
        → cond t (fired node + count) (fired other) ≤ most other
    by true e =
        subst (λ n. fired node + count ≤ most n) (sym (eqb-true other node e)) within
    by false e = all other

-- the next firings of a node, so many from one on
abbrev next_firings : Program → Phase → (node : ℕ) → NodeCode → (from count : ℕ) → Running
    → Result Running Halt
next_firings program when node code from zero running = Ok running
next_firings program when node code from (suc count) running =
    result_and_then (next_firing program when node code from running)
    (next_firings program when node code (from + 1) count)

then_same : (r : Result Running Halt) (f g : Running → Result Running Halt)
    → ((running : Running) → f running ≡ g running)
    → result_and_then r f ≡ result_and_then r g
then_same (Ok running) f g same = same running
then_same (Err why) f g same = refl

module _ (program : Program) (node : ℕ) where
  -- later firings are those of a call
  later_firings : (when : Phase) (code : NodeCode) (count from : ℕ) (running : Running)
      → ((i : ℕ) (running : Running) → from ≤ i → next_firing program when node code i running
      ≡ firing_of program when node code i running)
      → firings_done program when node code from count running
      ≡ next_firings program when node code from count running
  later_firings when code zero from running same = refl
  later_firings when code (suc count) from running same =
      ap (λ r. result_and_then r (firings_done program when node code (from + 1) count))
      (sym (same from running (omega arith)))
      ∙ then_same (next_firing program when node code from running)
      (firings_done program when node code (from + 1) count)
      (next_firings program when node code (from + 1) count)
      (λ after. later_firings when code count (from + 1) after
      (λ i running le. same i running (omega (arith, le))))

  -- of a filter with a prework those after the first
  after_first : (name : Option (List ℕ)) (filter : Filter) (i : ℕ) (running : Running) → 1 ≤ i
      → next_firing program phase.Startup node (graphs.Filter name filter) i running
      ≡ firing_of program phase.Startup node (graphs.Filter name filter) i running
  after_first name filter zero running le = absurd (omega (arith, le))
  after_first name filter (suc i) running le = refl

  -- a filter without one has its work in all firings
  all_works : (name : Option (List ℕ)) (filter : Filter)
      → (program.functions node).prework ≡ None → (i : ℕ) (running : Running)
      → next_firing program phase.Startup node (graphs.Filter name filter) i running
      ≡ firing_of program phase.Startup node (graphs.Filter name filter) i running
  all_works name filter none zero running =
      ap (λ o. first_firing program node (graphs.Filter name filter)
      (prework_done program node o running) running) none
  all_works name filter none (suc i) running = refl

  filter_called : (name : Option (List ℕ)) (filter : Filter) (from count : ℕ) (running : Running)
      → 1 ≤ count → (o : Option BodyFunction) → (program.functions node).prework ≡ o
      → started program node (graphs.Filter name filter) from count running
      ≡ next_firings program phase.Startup node (graphs.Filter name filter) from count running
  filter_called name filter (suc from) count running some o is =
      later_firings phase.Startup (graphs.Filter name filter) count (suc from) running
      (λ i after le. after_first name filter i after (omega (arith, le)))
  filter_called name filter zero count running some None is =
      ap (λ o. first_or_all program node (graphs.Filter name filter) count
      (prework_done program node o running) running) is
      ∙ later_firings phase.Startup (graphs.Filter name filter) count 0 running
      (λ i after le. all_works name filter is i after)
  filter_called name filter zero zero running some (Some body) is = absurd (omega (arith, some))
  filter_called name filter zero (suc count) running some (Some body) is =
      let first : Result Running Halt = halted node 0 (body_done program node body
      (first_source program (taken_at program.network phase.Startup node 0))
      (first_target program (given_at program.network phase.Startup node 0)) running) in
      let less : suc count - 1 ≡ count = omega arith in
      ap (λ o. first_or_all program node (graphs.Filter name filter) (suc count)
      (prework_done program node o running) running) is
      ∙ ap (λ n. result_and_then first
      (firings_done program phase.Startup node (graphs.Filter name filter) 1 n)) less
      ∙ then_same first
      (firings_done program phase.Startup node (graphs.Filter name filter) 1 count)
      (next_firings program phase.Startup node (graphs.Filter name filter) 1 count)
      (λ after. later_firings phase.Startup (graphs.Filter name filter) count 1 after
      (λ i last le. after_first name filter i last le))
      ∙ ap (λ o. result_and_then (first_firing program node (graphs.Filter name filter)
      (prework_done program node o running) running)
      (next_firings program phase.Startup node (graphs.Filter name filter) 1 count)) (sym is)

  -- a call is its node's next firings
  called : (when : Phase) (code : NodeCode) (from count : ℕ) (running : Running)
      → FiresSome when count
      → call_done program when node (Some code) from count running
      ≡ next_firings program when node code from count running
  called phase.Round code from count running some =
      later_firings phase.Round code count from running (λ i after le. refl)
  called phase.Startup (graphs.Filter name filter) from count running some =
      filter_called name filter from count running some (program.functions node).prework refl
  called phase.Startup graphs.Identity from count running some =
      later_firings phase.Startup graphs.Identity count from running (λ i after le. refl)
  called phase.Startup (graphs.FileReader text) from count running some =
      later_firings phase.Startup (graphs.FileReader text) count from running
      (λ i after le. refl)
  called phase.Startup (graphs.FileWriter text) from count running some =
      later_firings phase.Startup (graphs.FileWriter text) count from running
      (λ i after le. refl)
  called phase.Startup (graphs.Splitter splitter) from count running some =
      later_firings phase.Startup (graphs.Splitter splitter) count from running
      (λ i after le. refl)
  called phase.Startup (graphs.Joiner weights) from count running some =
      later_firings phase.Startup (graphs.Joiner weights) count from running (λ i after le. refl)
  called phase.Startup (graphs.Scatter fission) from count running some =
      later_firings phase.Startup (graphs.Scatter fission) count from running (λ i after le. refl)
  called phase.Startup (graphs.Copy copied fission) from count running some =
      later_firings phase.Startup (graphs.Copy copied fission) count from running
      (λ i after le. refl)
  called phase.Startup (graphs.Gather fission) from count running some =
      later_firings phase.Startup (graphs.Gather fission) count from running (λ i after le. refl)

module _ (graph : flat.Graph NodeCode) (program : Program) (when : Phase) (most : ℕ → ℕ)
    (steps : FiringsGo graph program when most) (round : ℕ) where
  abbrev Shown : (ℕ → ℕ) → Queues → Running → Type 0
  Shown fired now running = RunShows program when round fired now running

  -- a node's firings, and then others
  firings_go : (count : ℕ) (node : ℕ) (code : NodeCode) (later : List ℕ)
      (g : Running → Result Running Halt) (Next : Queues → Running → Type 0) (fired : ℕ → ℕ)
      (now : Queues) (running : Running) → code_at program node ≡ Some code
      → AreWithin most fired → fired node + count ≤ most node
      → FindsAlong graph (replicate count node ++ later) now
      → Shown fired now running
      → ((after : Queues) (left : Running) → FindsAlong graph later after
      → Shown (fired_on fired node count) after left
      → Goes Next (fifo_go node_meaning graph later after) (g left))
      → Goes Next (fifo_go node_meaning graph (replicate count node ++ later) now)
      (result_and_then (next_firings program when node code (fired node) count running) g)
  unfolding fifo_go
  firings_go zero node code later g Next fired now running is all within finds shown next =
      next now running finds
      (subst (λ f. Shown f now running) (sym (fired_none fired node)) shown)
  firings_go (suc count) node code later g Next fired now running is all within finds shown next =
      let tail : Running → Result Running Halt =
      λ left. result_and_then
      (next_firings program when node code (fired node + 1) count left) g in
      subst (λ r. Goes Next
      (fifo_go node_meaning graph (replicate (suc count) node ++ later) now) r)
      (sym (assoc (next_firing program when node code (fired node) running)
      (next_firings program when node code (fired node + 1) count) g))
      (goes_then (Shown (fired_on fired node 1)) Next
      (FindsAlong graph (replicate count node ++ later)) (fifo_fire node_meaning graph now node)
      (next_firing program when node code (fired node) running)
      (fifo_go node_meaning graph (replicate count node ++ later)) tail finds.1
      (steps round fired now running node code is all (omega (arith, within)) finds.0 shown)
      (λ after left more s. subst (λ n. Goes Next
      (fifo_go node_meaning graph (replicate count node ++ later) after)
      (result_and_then (next_firings program when node code n count left) g))
      (fired_here fired node)
      (firings_go count node code later g Next (fired_on fired node 1) after left is
      (within_on most fired node 1 all (omega (arith, within)))
      (omega (arith, within, fired_here fired node)) more s
      (λ after' left' more' s'. next after' left' more'
      (subst (λ f. Shown f after' left') (fired_more fired node count) s')))))
    where
      assoc : (r : Result Running Halt) (f g : Running → Result Running Halt)
          → result_and_then (result_and_then r f) g
          ≡ result_and_then r (λ x. result_and_then (f x) g)
      assoc (Ok x) f g = refl
      assoc (Err why) f g = refl

  pub calls_go : (calls : List NodeCall) (order : List ℕ) (fired : ℕ → ℕ) (now : Queues)
      (running : Running) → AreWithin most fired → AreCallsOf program when most fired calls order
      → FindsAlong graph order now → Shown fired now running
      → Goes (Shown (fired_after fired calls)) (fifo_go node_meaning graph order now)
      (calls_done program when calls running)
  unfolding fifo_go
  calls_go [] order fired now running all are finds shown =
      subst (λ o. Goes (Shown fired) (fifo_go node_meaning graph o now) (Ok running)) (sym are)
      shown
  calls_go (call ∷ rest) order fired now running all are finds shown =
      let code = are.3 in
      let later = are.4 in
      let next : Running → Result Running Halt = calls_done program when rest in
      subst (λ o. Goes (Shown (fired_after (fired_on fired call.node call.count) rest))
      (fifo_go node_meaning graph o now)
      (calls_done program when (call ∷ rest) running)) (sym later.1)
      (subst (λ n. Goes (Shown (fired_after (fired_on fired call.node call.count) rest))
      (fifo_go node_meaning graph (replicate call.count call.node ++ later.0) now)
      (result_and_then (call_done program when call.node (code_at program call.node) n
      call.count running) next)) (sym are.0)
      (subst (λ o. Goes (Shown (fired_after (fired_on fired call.node call.count) rest))
      (fifo_go node_meaning graph (replicate call.count call.node ++ later.0) now)
      (result_and_then (call_done program when call.node o (fired call.node)
      call.count running) next)) (sym code.1)
      (subst (λ r. Goes (Shown (fired_after (fired_on fired call.node call.count) rest))
      (fifo_go node_meaning graph (replicate call.count call.node ++ later.0) now)
      (result_and_then r next))
      (sym (called program call.node when code.0 (fired call.node) call.count running are.2))
      (firings_go call.count call.node code.0 later.0 next
      (Shown (fired_after (fired_on fired call.node call.count) rest)) fired now running code.1
      all are.1 (subst (λ o. FindsAlong graph o now) later.1 finds) shown
      (λ after left more s. calls_go rest later.0 (fired_on fired call.node call.count) after left
      (within_on most fired call.node call.count all are.1) later.2 more s)))))

pub orders_go : OrdersGo
orders_go graph program when most steps calls order round fired now running all are finds shown =
    calls_go graph program when most steps round calls order fired now running all are finds shown

module _ (graph : flat.Graph NodeCode) (program : Program) (calls : List NodeCall)
    (order : List ℕ) (input : List ℤ) (rounds : RoundsGo graph program calls order) where
  words_are : (round : ℕ) (now : Queues) (running : Running) → IsBetween program round now running
      → (node : ℕ) → running.tapes node ≡ words_of now.runs node
  unfolding words_of
  words_are round now running between node = between.tapes node

  round_tells : (left round : ℕ) (now : Queues) (running : Running)
      → IsBetween program round now running
      → ((after : Queues) (next : Running) → FindsInRounds graph order left after
      → IsBetween program (suc round) after next
      → TellsEnd (fifo_rounds node_meaning graph input order left (suc round) after)
      (rounds_done program calls left next))
      → (p : FifoProgress (List ℤ) Cause Word) (r : Result Running Halt)
      → IfWent (FindsInRounds graph order left) p
      → Goes (λ after next. IsBetween program (suc round) after
      (record next { round = running.round + 1 })) p r
      → TellsEnd (fifo_round_outcome node_meaning graph input order round (words_of now.runs) p
      (fifo_rounds node_meaning graph input order left (suc round)))
      (after_round running.tapes running.round (λ after.
      rounds_done program calls left (record after { round = running.round + 1 })) r)
  unfolding fifo_round_outcome
  round_tells left round now running between later (FifoWent after) (Ok next) more h =
      later after (record next { round = running.round + 1 }) more h
  round_tells left round now running between later (FifoWent after) (Err why) more h = absurd h
  round_tells left round now running between later (FifoStopped stop) (Ok next) more h = absurd h
  round_tells left round now running between later (FifoStopped stop)
      (Err (FaultsIn node firing cause)) more h =
      (sym between.round_is, h, words_are round now running between)
  round_tells left round now running between later (FifoStopped stop) (Err NoMeaning) more h =
      absurd h

  runs_tell : (left round : ℕ) (now : Queues) (running : Running)
      → FindsInRounds graph order left now → IsBetween program round now running
      → TellsEnd (fifo_rounds node_meaning graph input order left round now)
      (rounds_done program calls left running)
  unfolding fifo_rounds
  runs_tell zero round now running finds between = words_are round now running between
  runs_tell (suc left) round now running finds between =
      round_tells left round now running between
      (λ after next more h. runs_tell left (suc round) after next more h)
      (fifo_go node_meaning graph order now) (order_done program phase.Round calls running) finds.1
      (rounds round now running finds.0 between)

pub runs_go : RunsGo
runs_go graph program calls order input rounds left round now running finds between =
    runs_tell graph program calls order input rounds left round now running finds between
