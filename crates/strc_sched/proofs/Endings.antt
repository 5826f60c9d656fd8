-- How rounds end.
use Rattle.std.proofs.Common.{◌≡◌, refl, sym, ap, ◌∙◌, subst, ℕ}
use Rattle.std.proofs.Common.{suc, ◌+◌, ◌-◌, ◌<◌, ◌≤◌, Bool, true, false, List, [], ◌∷◌}
use Rattle.std.proofs.Common.{length, take, arith, add-one, Result, Ok, Err, map}
use Rattle.std.specs.Prelude.{IfOk, IfErr, Some, slice_get, slice_index, if◌then◌else◌}
use Rattle.std.proofs.Math.Seq.{take-append_seam}
use Rattle.std.proofs.lemmas.Option.{slice_get_within, get_or_from_slice_get}
use Rattle.strc_work_meaning.specs.declared.fault.Cause.{Cause}
use Rattle.strc_work_meaning.specs.declared.word.Word.{Word}
use Rattle.strc_work_instructions.specs.Running.{MoreWords}
use Rattle.strc_elab_graph.specs.Graphs as graphs
use Rattle.strc_elab_graph.specs.Graphs.{NodeCode, Graph, gives_words}
use Rattle.strc_sched_laws.specs.Machine.{CircuitView, MachineView, Progress, Went, Stopped}
use Rattle.strc_sched_laws.specs.Machine.{Ending, FaultedIn, FaultedAtFirst, order_run}
use Rattle.strc_sched_laws.specs.Machine.{after_round, after_startup}
use Rattle.strc_elab_graph.specs.NodeView.{node_view}
use Rattle.strc_sched.specs.Marks.{kept_tapes}
use Rattle.strc_sched.specs.declared.tapes.Marks.{Marks}
use Rattle.strc_sched_laws.specs.Machine.{rounds_run, words_at}
use Rattle.strc_sched_laws.specs.Planned.{AreKnown}
use Rattle.strc_sched_machine.specs.Actors.{AreClosed, IsClosedNode}
use Rattle.strc_sched.specs.Plain.{IsEnding, IsStopped}
use Rattle.strc_sched_machine.specs.Running.{HasGone, HaveMoreWords}
use Rattle.strc_sched.specs.Tapes.{AreMarked, tapes_from, tapes_of}
use Rattle.strc_sched_outcome.specs.Tapes.{TapeView, tape}
use Rattle.strc_sched_outcome.specs.declared.stop.Stop.{Stop}
use Rattle.strc_sched_outcome.specs.declared.stop.Stop.TheVariants as stop
use Rattle.strc_sched_outcome.specs.declared.outcome.Outcome.{Outcome}
use Rattle.strc_sched_outcome.specs.declared.outcome.Round.TheVariants as round
use Rattle.strc_sched_outcome.specs.declared.run_refusal.RunRefusal.{RunRefusal}
use Rattle.strc_sched_outcome.specs.declared.run_refusal.RunRefusal.TheVariants as refused

module _ (circuit : CircuitView) (order : List ℕ) (rounds now_round : ℕ) (left : now_round < rounds)
    (now : MachineView) where
  -- the rounds that are left begin with the next one
  rounds_left : rounds_run circuit order (rounds - now_round) now_round now
      ≡ after_round now_round now.words
      (rounds_run circuit order (rounds - (now_round + 1)) (suc now_round))
      (order_run circuit order now)
  rounds_left =
      let e : rounds - now_round ≡ suc (rounds - (now_round + 1)) = omega arith in
      ap (λ n. rounds_run circuit order n now_round now) e

  pub rounds_next : (next : MachineView) → order_run circuit order now ≡ Went next
      → rounds_run circuit order (rounds - now_round) now_round now
      ≡ rounds_run circuit order (rounds - (now_round + 1)) (now_round + 1) next
  rounds_next next gone =
      rounds_left
      ∙ ap (after_round now_round now.words
      (rounds_run circuit order (rounds - (now_round + 1)) (suc now_round))) gone
      ∙ ap (λ n. rounds_run circuit order (rounds - (now_round + 1)) n next)
      (sym (add-one now_round))

  pub rounds_stop : (node firing : ℕ) (cause : Cause)
      → order_run circuit order now ≡ Stopped node firing cause
      → rounds_run circuit order (rounds - now_round) now_round now
      ≡ FaultedIn now_round node firing cause now.words
  rounds_stop node firing cause gone =
      rounds_left
      ∙ ap (after_round now_round now.words
      (rounds_run circuit order (rounds - (now_round + 1)) (suc now_round))) gone

-- no more rounds
pub rounds_done : (circuit : CircuitView) (order : List ℕ) (rounds now_round : ℕ)
    → rounds ≤ now_round → (now : MachineView)
    → rounds_run circuit order (rounds - now_round) now_round now
    ≡ rounds_run circuit order 0 now_round now
rounds_done circuit order rounds now_round past now =
    let e : rounds - now_round ≡ 0 = omega arith in
    ap (λ n. rounds_run circuit order n now_round now) e

-- the words before a round
words_kept : (before after : List Word) (kept : ℕ) → kept ≡ length before
    → MoreWords before after → take kept after ≡ before
words_kept before after kept is more =
    ap (λ n. take n after) is ∙ ap (take (length before)) more.is
    ∙ take-append_seam before more.more

-- the first so many words of each node
abbrev first_words : (lengths : List ℕ) → List (List Word) → (node : ℕ) → List Word
first_words lengths words node = take (slice_index lengths node) (words_at words node)

-- of the tapes of a part of the nodes, where these are the rest
tapes_kept_from : (all : List NodeCode) (lengths : List ℕ) (before after : List (List Word))
    → AreMarked all lengths before → HaveMoreWords before after → (node : ℕ)
    → (codes : List NodeCode)
    → ((place : ℕ) (code : NodeCode) → slice_get codes place ≡ Some code
    → slice_get all (node + place) ≡ Some code)
    → tapes_from node codes (λ n. take (slice_index lengths n) (words_at after n))
    ≡ tapes_from node codes (words_at before)
tapes_kept_from all lengths before after marked more node [] within = refl
tapes_kept_from all lengths before after marked more node (code ∷ codes) within =
    by_kind (gives_words code) refl
    (tapes_kept_from all lengths before after marked more (suc node) codes
    (λ place own there. subst (λ n. slice_get all n ≡ Some own)
    (let e : node + suc place ≡ suc node + place = omega arith in e)
    (within (suc place) own there)))
  where
    by_kind : (test : Bool) → gives_words code ≡ test
        → tapes_from (suc node) codes (first_words lengths after)
        ≡ tapes_from (suc node) codes (words_at before)
        → (if test then tape node (first_words lengths after node)
        ∷ tapes_from (suc node) codes (first_words lengths after)
        else tapes_from (suc node) codes (first_words lengths after))
        ≡ (if test then tape node (words_at before node)
        ∷ tapes_from (suc node) codes (words_at before)
        else tapes_from (suc node) codes (words_at before))
    by_kind false e rest = rest
    by_kind true e rest =
        let here : slice_get all node ≡ Some code = subst (λ n. slice_get all n ≡ Some code)
        (let e : node + 0 ≡ node = omega arith in e) (within 0 code refl) in
        ap (λ l. tape node l ∷ tapes_from (suc node) codes (first_words lengths after))
        (words_kept (words_at before node) (words_at after node) (slice_index lengths node)
        (marked node code here e) (more node))
        ∙ ap (λ l. tape node (words_at before node) ∷ l) rest

-- the tapes before a round
pub tapes_kept : (codes : List NodeCode) (lengths : List ℕ) (before after : List (List Word))
    → AreMarked codes lengths before → HaveMoreWords before after
    → tapes_of codes (λ node. take (slice_index lengths node) (words_at after node))
    ≡ tapes_of codes (words_at before)
tapes_kept codes lengths before after marked more =
    tapes_kept_from codes lengths before after marked more 0 codes
    (λ place code there. subst (λ n. slice_get codes n ≡ Some code)
    (let e : place ≡ 0 + place = omega arith in e) there)

-- the tapes that were marked when a round began
pub kept_before : (marks : Marks) (codes old : List NodeCode)
    (shown before after seen : List (List Word)) → map node_view marks.nodes.now ≡ codes
    → old ≡ codes → AreMarked old marks.lengths.items seen → seen ≡ before → shown ≡ after
    → HaveMoreWords before after → kept_tapes marks shown ≡ tapes_of codes (words_at before)
kept_before marks codes old shown before after seen own same marked is are more =
    ap (λ n. tapes_of n (first_words marks.lengths.items shown)) own
    ∙ ap (λ w. tapes_of codes (first_words marks.lengths.items w)) are
    ∙ tapes_kept codes marks.lengths.items before after
    (subst (λ n. AreMarked n marks.lengths.items before) same
    (subst (AreMarked old marks.lengths.items) is marked)) more

-- no words come before any
pub more_than_none : (after : List (List Word)) → HaveMoreWords [] after
more_than_none after node = record { more = words_at after node; is = refl }

-- the outcome of a start-up that was stopped is how the run ends
pub ended_first : (codes : List NodeCode) (why : Stop) (result : Result Outcome RunRefusal)
    (words : List (List Word)) (progress : Progress) (after : MachineView)
    (shown : List TapeView) (later : MachineView → Ending)
    → IfOk result (IsStopped why round.Startup shown) → HasGone progress (Err why) words after
    → shown ≡ tapes_of codes (λ _. [])
    → IfOk result (λ outcome. IsEnding codes outcome (after_startup later progress))
ended_first codes (stop.Fault node firing cause) (Ok outcome) words progress after shown later h
    gone kept =
    subst (λ p. IsEnding codes outcome (after_startup later p)) (sym gone.0)
    (subst (λ o. IsEnding codes o (FaultedAtFirst node firing cause)) (sym h.1)
    (refl, refl, refl, h.2 ∙ kept))
ended_first codes stop.NoMemory (Ok outcome) words progress after shown later h gone kept = absurd h
ended_first codes why (Err refusal) words progress after shown later h gone kept = tt

-- the outcome of a round that was stopped is how the run ends
pub ended_in : (codes : List NodeCode) (why : Stop) (result : Result Outcome RunRefusal) (q : ℕ)
    (words : List (List Word)) (progress : Progress) (after : MachineView)
    (shown : List TapeView) (ending : Ending)
    → IfOk result (IsStopped why (round.At q) shown) → HasGone progress (Err why) words after
    → ((node firing : ℕ) (cause : Cause) → progress ≡ Stopped node firing cause
    → ending ≡ FaultedIn q node firing cause words)
    → (HaveMoreWords words after.words → shown ≡ tapes_of codes (words_at words))
    → IfOk result (λ outcome. IsEnding codes outcome ending)
ended_in codes (stop.Fault node firing cause) (Ok outcome) q words progress after shown ending h
    gone ends kept =
    subst (λ e. IsEnding codes outcome e) (sym (ends node firing cause gone.0))
    (subst (λ o. IsEnding codes o (FaultedIn q node firing cause words)) (sym h.1)
    (refl, refl, refl, refl, h.2 ∙ kept gone.1))
ended_in codes stop.NoMemory (Ok outcome) q words progress after shown ending h gone ends kept =
    absurd h
ended_in codes why (Err refusal) q words progress after shown ending h gone ends kept = tt

-- what holds of an outcome
pub outcome_so : (result : Result Outcome RunRefusal) (P Q : Outcome → Type 0) → IfOk result P
    → ((outcome : Outcome) → P outcome → Q outcome) → IfOk result Q
outcome_so (Ok outcome) P Q h so = so outcome h
outcome_so (Err refusal) P Q h so = tt

-- where only memory runs out
pub memory_so : (result : Result Outcome RunRefusal) (P : RunRefusal → Type 0)
    → IfErr result (λ refusal. refusal ≡ refused.NoMemory) → P refused.NoMemory → IfErr result P
memory_so (Ok outcome) P is holds = tt
memory_so (Err refusal) P is holds = subst P (sym is) holds

-- the names in each filter are known
pub closed_known : (graph : Graph) → AreClosed graph.nodes → AreKnown graph
closed_known graph closed filter is =
    let code : NodeCode = graphs.Filter is.1 filter in
    subst IsClosedNode (get_or_from_slice_get graph.nodes is.0 code code is.2)
    (closed is.0 code (slice_get_within graph.nodes is.0 code is.2))
