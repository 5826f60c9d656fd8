-- A restarted graph by stages comes to what the graph comes to from its state.
use Rattle.std.proofs.Common.{◌≡◌, refl, sym, ap, ◌∙◌, ℕ, zero, suc, ◌+◌, ℤ, List, []}
use Rattle.std.proofs.Common.{◌∷◌, ◌++◌, Option, Some, None, arith, append_assoc, append-nil}
use mathlib.Core.Path.{fun_ext}
use Rattle.strc_elab_dataflow.specs.Node.{ByPort}
use Rattle.strc_elab_dataflow.specs.Histories.{initial_run}
use Rattle.strc_elab_dataflow.specs.Flat.{Origin, Origin.Nowhere, Origin.Input, Origin.Port}
use Rattle.strc_elab_dataflow.specs.Answer.{Outcome, Outcome.Done}
use Rattle.strc_elab_dataflow.specs.Answer.{Outcome.RoundFault, words_of, whole_run}
use Rattle.strc_elab_dataflow.specs.Queues.{FifoProgress.FifoWent, fifo_go, fifo_at_first}
use Rattle.strc_elab_dataflow.specs.Queues.{fifo_rounds, fifo_run, fifo_startup_outcome}
use Rattle.strc_elab_dataflow.specs.Queues.{TakesWithinWindow}
use Rattle.strc_elab_dataflow.proofs.WholeRun.{answer_is_run}
use Rattle.strc_elab_dataflow.proofs.Queued.{fifo_run-whole_run}
use Rattle.strc_elab_dataflow.specs.Staging.{Staging, IsFromUpTo, IsStaged, IsStaging}
use Rattle.strc_elab_dataflow.specs.Stages.{Parcel, Parcel.Moves, Parcel.Halts, collected}
use Rattle.strc_elab_dataflow.specs.Workers.{IsChain, collects}
use Rattle.strc_elab_dataflow.proofs.Chains.{chain_gives_answer}
use Rattle.strc_elab_dataflow.specs.Restart.{Restarted, restarted_meaning, restarted}
use Rattle.strc_elab_dataflow.specs.Restart.{taken_in, words_on, outcome_on}
use Rattle.strc_elab_dataflow.specs.Chains.{faults_on, Resumption, meaning_from, graph_from}
use Rattle.strc_elab_dataflow.specs.Chains.{first_from}
use Rattle.strc_elab_dataflow.specs.Chains.{staging_from, IsResumption, RestartedIsStaging}
use Rattle.strc_elab_dataflow.specs.Chains.{RestartedChains}
use Rattle.strc_elab_dataflow.proofs.Restart.{same_at_first, rounds_alike}
use Rattle.strc_elab_dataflow.proofs.Solutions.{rounds_have_solutions}

some_same : {Cause Word : Type 0} (a b : Outcome Cause Word)
    → ◌≡◌ {A = Option (Outcome Cause Word)} (Some a) (Some b) → a ≡ b
some_same a b e = cc

none_never : {Cause Word : Type 0} (a : Outcome Cause Word)
    → ◌≡◌ {A = Option (Outcome Cause Word)} None (Some a) → ⊥
none_never a e = grind arith

module _ {Code State Cause Word : Type 0} (resumed : Resumption Code State Cause Word)
    (is : IsResumption resumed) where
  takes_within_from : TakesWithinWindow (meaning_from resumed) (graph_from resumed)
  unfolding restarted_meaning restarted
  takes_within_from node firing port less =
      is.takes_within node ((resumed.from.runs node).fired + firing) port less

  up_to : (a : ℕ) (origin : Origin) → IsFromUpTo resumed.stage_of a origin
      → IsFromUpTo resumed.stage_of a (taken_in origin)
  unfolding taken_in
  up_to a Nowhere h = tt
  up_to a Input h = tt
  up_to a (Port node port) h = h

  staged_from : IsStaged (graph_from resumed) resumed.stage_of resumed.segment resumed.stages
      resumed.round_order
  unfolding restarted
  staged_from = record {
    own = is.staged.own;
    order = is.staged.order;
    within = is.staged.within;
    backward = λ node port. up_to (resumed.stage_of node)
        (resumed.graph.source node port).origin (is.staged.backward node port);
  }

  pub staging_exists : (inputs : ℕ → ℕ → ByPort) × IsStaging (staging_from resumed inputs)
  staging_exists =
      let found = rounds_have_solutions (meaning_from resumed) (graph_from resumed) []
      (λ node. 0) resumed.round [] resumed.round_order is.schedule.startup_counts
      is.schedule.round_counts in (
        found.0,
        record {
          solved = record {
            keeps = is.keeps;
            takes_within = takes_within_from;
            schedule = is.schedule;
            solves = λ t less. found.1 t;
          };
          staged = staged_from;
        },
      )

  module _ (inputs : ℕ → ℕ → ByPort) (staging : IsStaging (staging_from resumed inputs)) where
    abbrev plan : Staging (Restarted Code State) State Cause Word
    plan = staging_from resumed inputs

    -- What a collector makes behind other words.
    record IsBehind (left q : ℕ) (words : ℕ → List Word) (parcels : List (Parcel Cause Word))
        (outcome : Outcome Cause Word) : Type 0 where
      inner : Outcome Cause Word
      gives : collects plan left q words parcels ≡ Some inner
      same : faults_on resumed.from outcome ≡ outcome_on resumed.from inner

    more_words : (words new : ℕ → List Word)
        → (λ (node : ℕ). words_on resumed.from words node ++ new node)
        ≡ words_on resumed.from (λ node. words node ++ new node)
    unfolding words_on
    more_words words new =
        fun_ext (λ node. append_assoc (resumed.from.runs node).words (words node) (new node))

    collects_behind : (left q : ℕ) (words : ℕ → List Word) (parcels : List (Parcel Cause Word))
        (outcome : Outcome Cause Word)
        → collects plan left q (words_on resumed.from words) parcels ≡ Some outcome
        → IsBehind left q words parcels outcome
    unfolding collects collected faults_on outcome_on
    collects_behind zero q words parcels outcome e =
        let this : Done (words_on resumed.from words) ≡ outcome
        = some_same (Done (words_on resumed.from words)) outcome e in
        record {
          inner = Done words;
          gives = refl;
          same = ap (faults_on resumed.from) (sym this);
        }
    collects_behind (suc left) q words [] outcome e = absurd (none_never outcome e)
    collects_behind (suc left) q words (Moves blocks new ∷ others) outcome e =
        let b = collects_behind left (suc q) (λ node. words node ++ new node) others outcome
        (ap (λ (w : ℕ → List Word). collects plan left (suc q) w others)
        (sym (more_words words new)) ∙ e) in
        record { inner = b.inner; gives = b.gives; same = b.same }
    collects_behind (suc left) q words (Halts (Some stop) ∷ others) outcome e =
        let this : RoundFault q stop (words_on resumed.from words) ≡ outcome
        = some_same (RoundFault q stop (words_on resumed.from words)) outcome e in
        record {
          inner = RoundFault q stop words;
          gives = refl;
          same = ap (faults_on resumed.from) (sym this);
        }
    collects_behind (suc left) q words (Halts None ∷ others) outcome e =
        absurd (none_never outcome e)

    went_at_first : fifo_go (meaning_from resumed) (graph_from resumed) [] (first_from resumed)
        ≡ FifoWent (first_from resumed)
    unfolding fifo_go
    went_at_first = refl

    rounds_are_run : whole_run (meaning_from resumed) (graph_from resumed) []
        resumed.round_order [] resumed.rounds
        ≡ fifo_rounds (meaning_from resumed) (graph_from resumed) [] resumed.round_order
        resumed.rounds 0 (first_from resumed)
    unfolding fifo_run fifo_startup_outcome fifo_go
    rounds_are_run = sym (fifo_run-whole_run (meaning_from resumed) (graph_from resumed) []
        takes_within_from resumed.round_order [] resumed.rounds)

    no_words : words_on resumed.from (words_of (first_from resumed).runs)
        ≡ words_of resumed.from.runs
    unfolding words_on words_of fifo_at_first initial_run
    no_words = fun_ext (λ node. append-nil (resumed.from.runs node).words)

    pub chain_comes : (given taken left : ℕ → List (Parcel Cause Word))
        (outcome : Outcome Cause Word) (input : List ℤ)
        → IsChain plan (first_from resumed) given taken left
        → collects plan resumed.rounds 0 (words_of resumed.from.runs) (taken resumed.stages)
        ≡ Some outcome
        → faults_on resumed.from outcome
        ≡ fifo_rounds resumed.meaning resumed.graph input resumed.round_order resumed.rounds 0
        resumed.from
    chain_comes given taken left outcome input chain collected_is =
        let b = collects_behind resumed.rounds 0 (words_of (first_from resumed).runs)
        (taken resumed.stages) outcome
        (ap (λ (w : ℕ → List Word). collects plan resumed.rounds 0 w (taken resumed.stages))
        no_words ∙ collected_is) in
        b.same
        ∙ ap (outcome_on resumed.from)
        (answer_is_run (meaning_from resumed) (graph_from resumed) [] is.keeps (λ node. 0)
        resumed.round [] resumed.round_order resumed.rounds is.schedule inputs
        staging.solved.solves b.inner
        ((chain_gives_answer plan (first_from resumed) given taken left staging went_at_first
        chain).2 b.inner b.gives)
        ∙ rounds_are_run)
        ∙ sym (rounds_alike resumed.meaning resumed.graph resumed.from input resumed.round_order
        resumed.rounds 0 resumed.from (first_from resumed)
        (same_at_first resumed.meaning resumed.graph resumed.from is.faultless))

pub restarted_is_staging : {Code State Cause Word : Type 0}
    → RestartedIsStaging Code State Cause Word
restarted_is_staging resumed is = staging_exists resumed is

pub restarted_chains : {Code State Cause Word : Type 0} → RestartedChains Code State Cause Word
restarted_chains resumed inputs given taken left outcome input is staging chain collected_is =
    chain_comes resumed is inputs staging given taken left outcome input chain collected_is
