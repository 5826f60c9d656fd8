-- Live runs that are fed come to the answers of their programs.
use Rattle.std.proofs.Common.{◌≡◌, ◌∙◌, ℕ, suc, ◌+◌, ◌-◌, ◌<◌, ◌≤◌, ◌^◌, ℤ, List, [], ◌++◌, length}
use Rattle.std.proofs.Common.{Option, None}
use Rattle.std.proofs.Common.{refl, sym, ap, subst, append_assoc, length-append, arith, inl}
use Rattle.strc_elab_dataflow.specs.Answer.{Outcome, Outcome.Done, Outcome.StartupFault}
use Rattle.strc_elab_dataflow.specs.Answer.{Outcome.RoundFault}
use Rattle.strc_elab_dataflow.specs.Machine.{Stop}
use Rattle.strc_elab_dataflow.specs.Streams as trees
use Rattle.strc_work_meaning.specs.declared.fault.Cause.{Cause}
use Rattle.strc_work_meaning.specs.declared.word.Word.{Word}
use Rattle.strc_elab_graph.specs.Graphs.{NodeCode}
use Rattle.strc_sched.specs.Serving.{Serves, round_limit}
use Rattle.strc_sched_outcome.specs.declared.stop.Stop.TheVariants as stop
use Rattle.strc_sched_outcome.specs.declared.outcome.Round.TheVariants as round
use Rattle.strc_stage_plan.specs.Named.{old_node}
use Rattle.strc_stage_plan.specs.Plans.{PlanParts, graph_of, transformed_of}
use Rattle.strc_stage_steps.specs.Names.{IsNamedSo, old_firing}
use Rattle.strc_stage_steps.specs.Plans.{IsPlanAnswer, need_of}
use Rattle.strc_cli_input.specs.NumberReading.{HasPulled, WritesUpTo}
use Rattle.strc_cli_input.specs.Reading.{GivenBeginsSo}
use Rattle.strc_cli_input.specs.declared.number_reader.NumberReader.{NumberReader}
use Rattle.strc_cli_output.specs.Output.{closed_text, fault_line}
use Rattle.strc_live_plans.specs.Readers.{each_of}
use Rattle.strc_live_runs.specs.Runs.{IsLiveRun, IsRoundStop}
use Rattle.strc_live_runs.specs.Serving.{LiveRunsAnswer, LiveRunsServe, LiveRunsWriteByNodes}
use Rattle.strc_live_runs.specs.Serving.{LiveStartsFault}
use Rattle.strc_live_runs.specs.declared.live_run.LiveRun.{LiveRun}
use Rattle.strc_live_feeds.specs.declared.live_feed.LiveFeed.{LiveFeed}
use Rattle.strc_live_texts.specs.Live.{done_status, done_text, last_word, tape_words}
use Rattle.strc_live_answers.specs.Written.{AreWords, HasWritten, RunsInput}
use Rattle.strc_live_answers.specs.Laws.{HasDone, IsOneTapeOf, LiveFeedsAreCutOff, LiveFeedsEnd}
use Rattle.strc_live_answers.specs.Laws.{LiveFeedsFault, LiveFeedsFaultAtFirst}
use Rattle.strc_live_answers.specs.Laws.{LiveFeedsReachTheLimit, LiveFeedsWrite}
use Rattle.strc_live_answers.proofs.Numbers.{last_at, last_before, pulled_first}
use Rattle.strc_live_answers.proofs.Numbers.{served_from}
use Rattle.strc_live_answers.proofs.Words.{answer_words, same_words}

-- ---- rounds that are done

-- their words, where these are the answer
done_input : (tree : trees.Stream NodeCode) (plan : PlanParts) (first : Option (List ℕ))
    (numbers : List ℤ) (wrong last : Option ℕ) (rounds : ℕ) (words : List Word)
    → WritesUpTo first numbers wrong → Serves (need_of plan) (length numbers) rounds
    → AreWords tree plan numbers rounds words → last_word rounds wrong ≡ last
    → RunsInput tree plan first (done_text words last) (done_status last)
done_input tree plan first numbers wrong last rounds words input serves are ends = record {
  numbers = numbers;
  wrong = wrong;
  input = input;
  runs = record {
    rounds = rounds;
    serves = serves;
    answer = Done are.all;
    is_answer = are.is_answer;
    written = ap (λ w. done_text w last) are.own
        ∙ ap (done_text (tape_words (graph_of plan).nodes are.all)) (sym ends);
  };
  status_is = ap done_status (sym ends);
}

-- so many rounds and the next one read these
reads_now : (plan : PlanParts) (read : List ℤ) (past : ℕ → List Word) (run : LiveRun)
    → IsLiveRun plan read past run → length read ≡ need_of plan run.done
reads_now plan read past run is = ap (λ (l : List ℤ). length l) is.is_read ∙ is.gone.read

reads_next : (plan : PlanParts) (read : List ℤ) (past : ℕ → List Word) (run : LiveRun)
    → IsLiveRun plan read past run
    → need_of plan (run.done + 1) ≡ length read + each_of plan
reads_next plan read past run is =
    let now = is.gone.reader_is.need run.done in
    let next = is.gone.reader_is.need (run.done + 1) in
    let long = reads_now plan read past run is in
    omega (arith, now, next, long)

reads_first : (plan : PlanParts) (read : List ℤ) (past : ℕ → List Word) (run : LiveRun)
    → IsLiveRun plan read past run → need_of plan 0 ≤ length read
reads_first plan read past run is =
    let now = is.gone.reader_is.need run.done in
    let long = reads_now plan read past run is in
    omega (arith, now, long)

-- a fault by its parts
abbrev stop_at : (node firing : ℕ) → Cause → Stop Cause
stop_at node firing cause = record { node = node; firing = firing; cause = cause }

same_stop : (own : Stop Cause) (node firing : ℕ) (cause : Cause) → node ≡ own.node
    → firing ≡ own.firing → cause ≡ own.cause → stop_at node firing cause ≡ own
same_stop own node firing cause same_node same_firing same_cause =
    ap (λ n. stop_at n firing cause) same_node
    ∙ ap (λ n. stop_at own.node n cause) same_firing
    ∙ ap (stop_at own.node own.firing) same_cause

module _ (answers : LiveRunsAnswer) (by_nodes : LiveRunsWriteByNodes)
    (tree : trees.Stream NodeCode) (plan : PlanParts) (first left : Option (List ℕ))
    (read : List ℤ) (past : ℕ → List Word) (feed : LiveFeed) (one : IsOneTapeOf tree plan)
    (done : HasDone plan first left read past feed) where
  nothing : length (transformed_of plan).nodes ≤ feed.run.tape → past feed.run.tape ≡ []
  nothing beyond =
      by_nodes plan read past feed.run feed.run.tape done.fed.wired done.fed.live beyond

  -- the words are the answer, whatever numbers come next
  written : (more : List ℤ)
      → AreWords tree plan (read ++ more) feed.run.done (past feed.run.tape)
  written more =
      let within = done.within in
      answer_words tree plan one.few feed.run.tape done.tape past nothing (read ++ more)
      feed.run.done
      (answers tree plan read more past feed.run one.program (omega (arith, within))
      done.fed.live)

  enough : (more : List ℤ) → need_of plan feed.run.done ≤ length (read ++ more)
  enough more =
      let now = reads_now plan read past feed.run done.fed.live in
      let long = length-append read more in
      omega (arith, now, long)

  starts : (more : List ℤ) → need_of plan 0 ≤ length (read ++ more)
  starts more =
      let begun = reads_first plan read past feed.run done.fed.live in
      let long = length-append read more in
      omega (arith, begun, long)

  pub has_written : GivenBeginsSo → HasWritten tree plan first (past feed.run.tape)
  has_written law =
      let goes = pulled_first law first left read feed.numbers done.fed.pulled in record {
        numbers = read ++ goes.more;
        wrong = goes.wrong;
        input = goes.input;
        rounds = feed.run.done;
        enough = enough goes.more;
        are = written goes.more;
      }

  pub at_limit : GivenBeginsSo → feed.run.done ≡ round_limit
      → RunsInput tree plan first (done_text (past feed.run.tape) None) (done_status None)
  at_limit law all =
      let goes = pulled_first law first left read feed.numbers done.fed.pulled in
      done_input tree plan first (read ++ goes.more) goes.wrong None feed.run.done
      (past feed.run.tape) goes.input
      (record {
        start = starts goes.more;
        enough = enough goes.more;
        within = done.within;
        most = inl all;
      })
      (written goes.more) (last_at feed.run.done goes.wrong all)

  served : LiveRunsServe → (waiting : List ℤ) → length waiting < each_of plan
      → Serves (need_of plan) (length (read ++ waiting)) feed.run.done
  served law waiting few =
      law plan read waiting past feed.run done.within few done.fed.live

  pub is_over : LiveRunsServe → (waiting : List ℤ) (wrong : Option ℕ)
      → feed.run.done < round_limit → length waiting < each_of plan
      → WritesUpTo first (read ++ waiting) wrong
      → RunsInput tree plan first (done_text (past feed.run.tape) wrong) (done_status wrong)
  is_over law waiting wrong fewer few writes =
      done_input tree plan first (read ++ waiting) wrong wrong feed.run.done
      (past feed.run.tape) writes (served law waiting few) (written waiting)
      (last_before feed.run.done wrong fewer)

  -- ---- a fault

  -- by the nodes before fission
  fault_text : (numbers : List ℤ) (wrong : Option ℕ) (rounds node firing number : ℕ)
      (cause : Cause) → WritesUpTo first numbers wrong
      → Serves (need_of plan) (length numbers) rounds
      → (old_firing plan node firing < 2 ^ 64 → number ≡ old_firing plan node firing)
      → (answer : Outcome Cause Word) → IsPlanAnswer tree plan numbers rounds answer
      → IsNamedSo plan answer (RoundFault feed.run.done
      (record { node = node; firing = firing; cause = cause }) past)
      → RunsInput tree plan first (closed_text (past feed.run.tape)
      ++ fault_line (old_node plan.split.origins node) number (round.At feed.run.done) cause) 3
  fault_text numbers wrong rounds node firing number cause input serves numbered
      (RoundFault q own words) is named =
      let fault = named.1 in
      let same : number ≡ own.firing =
      numbered (subst (λ n. n < 2 ^ 64) fault.firing fault.numbered) ∙ sym fault.firing in
      record {
        numbers = numbers;
        wrong = wrong;
        input = input;
        runs = record {
          rounds = rounds;
          serves = serves;
          answer = RoundFault q own words;
          is_answer = is;
          written = ap (λ w. closed_text w ++ fault_line (old_node plan.split.origins node)
              number (round.At feed.run.done) cause)
              (same_words tree plan one.few feed.run.tape done.tape past nothing words named.2)
              ∙ ap (λ (s : Stop Cause). closed_text (tape_words (graph_of plan).nodes words)
              ++ fault_line s.node s.firing (round.At feed.run.done) s.cause)
              (same_stop own (old_node plan.split.origins node) number cause (sym fault.node) same
              (sym fault.cause))
              ∙ ap (λ n. closed_text (tape_words (graph_of plan).nodes words)
              ++ fault_line own.node own.firing (round.At n) own.cause) named.0;
        };
        status_is = refl;
      }
  fault_text numbers wrong rounds node firing number cause input serves numbered (Done words) is
      named = absurd named
  fault_text numbers wrong rounds node firing number cause input serves numbered
      (StartupFault own) is named = absurd named

  -- the next round's is that of all rounds which the input serves
  pub is_fault : GivenBeginsSo → (later : Option (List ℕ)) (items : List ℤ) (reader : NumberReader)
      (node firing number : ℕ) (cause : Cause) → feed.run.done < round_limit
      → HasPulled first later (read ++ items) reader → length items ≡ each_of plan
      → IsRoundStop plan read items past feed.run.done (stop.Fault node firing cause)
      → (old_firing plan node firing < 2 ^ 64 → number ≡ old_firing plan node firing)
      → RunsInput tree plan first (closed_text (past feed.run.tape)
      ++ fault_line (old_node plan.split.origins node) number (round.At feed.run.done) cause) 3
  is_fault law later items reader node firing number cause fewer pulled many stops numbered =
      let goes = pulled_first law first later (read ++ items) reader pulled in
      let all = read ++ (items ++ goes.more) in
      let whole : (read ++ items) ++ goes.more ≡ all = append_assoc read items goes.more in
      let next = reads_next plan read past feed.run done.fed.live in
      let long = length-append read (items ++ goes.more) in
      let longer = length-append items goes.more in
      let within = done.within in
      let more : need_of plan (feed.run.done + 1) ≤ length all =
      omega (arith, next, long, longer, many) in
      let served = served_from (need_of plan) (length all) (starts (items ++ goes.more))
      (round_limit - (feed.run.done + 1)) (feed.run.done + 1) (omega (arith, fewer)) more in
      let among = served.among in
      let few = served.serves.within in
      let left = served.rounds - (feed.run.done + 1) in
      let rounds : feed.run.done + suc left ≡ served.rounds = omega (arith, among) in
      let comes = stops tree goes.more left one.program (record {
        few = omega (arith, rounds, few);
        supplied = subst (λ n. need_of plan n ≤ length all) (sym rounds) served.serves.enough;
      }) in
      fault_text all goes.wrong served.rounds node firing number cause
      (subst (λ l. WritesUpTo first l goes.wrong) whole goes.input) served.serves numbered
      comes.answer
      (subst (λ n. IsPlanAnswer tree plan all n comes.answer) rounds comes.is_answer)
      comes.named

-- ---- the laws

pub write_law : LiveRunsAnswer → LiveRunsWriteByNodes → GivenBeginsSo → LiveFeedsWrite
write_law answers by_nodes law tree plan first left read past feed one done =
    has_written answers by_nodes tree plan first left read past feed one done law

pub end_law : LiveRunsAnswer → LiveRunsWriteByNodes → LiveRunsServe → LiveFeedsEnd
end_law answers by_nodes serve tree plan first left read past before after wrong one done fewer
    over =
    is_over answers by_nodes tree plan first left read past before one done serve over.waiting
    wrong fewer over.few over.writes

pub limit_law : LiveRunsAnswer → LiveRunsWriteByNodes → GivenBeginsSo → LiveFeedsReachTheLimit
limit_law answers by_nodes law tree plan first left read past feed one done all =
    at_limit answers by_nodes tree plan first left read past feed one done law all

pub cut_off_law : LiveRunsAnswer → LiveRunsWriteByNodes → LiveRunsServe → LiveFeedsAreCutOff
cut_off_law answers by_nodes serve tree plan first left later read past before after one done
    unread = record {
      numbers = read ++ unread.waiting;
      reader = after.numbers;
      pulled = unread.pulled;
      rounds = before.run.done;
      serves = served answers by_nodes tree plan first left read past before one done serve
          unread.waiting unread.few;
      are = written answers by_nodes tree plan first left read past before one done
          unread.waiting;
    }

pub fault_law : LiveRunsAnswer → LiveRunsWriteByNodes → GivenBeginsSo → LiveFeedsFault
fault_law answers by_nodes law tree plan first left later read past before after node firing cause
    number one done fewer fault numbered =
    is_fault answers by_nodes tree plan first left read past before one done law later fault.items
    after.numbers node firing number cause fewer fault.pulled fault.many fault.stops numbered

pub first_fault_law : LiveStartsFault → GivenBeginsSo → LiveFeedsFaultAtFirst
first_fault_law fault law tree plan first left node firing cause one is =
    let goes = pulled_first law first left is.items is.numbers is.pulled in
    let all = is.items ++ goes.more in
    let long = length-append is.items goes.more in
    let just = is.can.just in
    let start : need_of plan 0 ≤ length all = omega (arith, long, just) in
    let served = served_from (need_of plan) (length all) start round_limit 0 (omega arith) start in
    let few = served.serves.within in record {
      numbers = all;
      wrong = goes.wrong;
      input = goes.input;
      runs = record {
        rounds = served.rounds;
        serves = served.serves;
        answer = StartupFault (record { node = node; firing = firing; cause = cause });
        is_answer = fault tree plan is.items goes.more served.rounds node firing cause one.program
            is.can (record {
              few = omega (arith, few);
              supplied = served.serves.enough;
            }) is.faulted;
        written = refl;
      };
      status_is = refl;
    }
