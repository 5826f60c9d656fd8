-- A round of a live run, whose words are written, or why there is none.
use Rattle.std.proofs.Common.{◌≡◌, ◌∙◌, ℕ, ◌+◌, ◌<◌, Bool, true, false, List, ◌++◌, Option, Some}
use Rattle.std.proofs.Common.{None, Ok, Err, refl, sym, ap, subst, inr, arith}
use Rattle.strc_elab_dataflow.specs.Streams as trees
use Rattle.strc_work_meaning.specs.declared.fault.Cause.{Cause}
use Rattle.strc_work_meaning.specs.declared.word.Word.{Word}
use Rattle.strc_elab_graph.specs.Graphs.{NodeCode}
use Rattle.strc_sched.specs.Serving.{round_limit}
use Rattle.strc_sched_outcome.specs.declared.stop.Stop.TheVariants as stops
use Rattle.strc_sched_outcome.specs.declared.outcome.Round.{Round}
use Rattle.strc_sched_outcome.specs.declared.outcome.Round.TheVariants as round
use Rattle.strc_stage_plan.specs.Plans.{PlanParts, transformed_of}
use Rattle.strc_cli_messages.specs.declared.fault.FaultSite.{FaultSite}
use Rattle.strc_cli_output.specs.Output.{closed_text, fault_line, leaves_open, words_text}
use Rattle.strc_cli_output.specs.declared.stop.Stop.TheVariants as stop
use Rattle.strc_cli.specs.Executes.{Device, Wrote, FailedIn}
use Rattle.strc_cli.specs.declared.execute.CliError.{CliError}
use Rattle.strc_cli.specs.declared.execute.CliError.TheVariants as error
use Rattle.strc_live_runs.specs.Starts.{IsOneTape}
use Rattle.strc_live_feeds.specs.Feeding.{IsFault, IsOver, IsRound, IsUnread}
use Rattle.strc_live_feeds.specs.declared.live_feed.LiveFeed.{LiveFeed}
use Rattle.strc_live_answers.specs.Laws.{HasDone, IsOneTapeOf, LiveFeedsAreCutOff, LiveFeedsEnd}
use Rattle.strc_live_answers.specs.Laws.{LiveFeedsFault, LiveFeedsReachTheLimit, LiveFeedsWrite}
use Rattle.strc_live_answers.specs.Written.{HasWritten, RunsInput}
use Rattle.strc_live.specs.Ends.{fault_of, no_memory}
use Rattle.strc_live.specs.Rounds.{GoesLive, IsFaultOf, IsGoing, WritesWords}
use Rattle.strc_live.specs.declared.ends.LiveEnd.{LiveEnd}
use Rattle.strc_live.specs.declared.ends.LiveEnd.TheVariants as end
use Rattle.strc_live.proofs.Writing.{failed_later, words_text_both, wrote_both}

module _ (write : LiveFeedsWrite) (tree : trees.Stream NodeCode) (plan : PlanParts)
    (one : IsOneTapeOf tree plan) (first left : Option (List ℕ)) (rounds : ℕ) (feed : LiveFeed)
    (opens : Bool) (before device : Device)
    (going : IsGoing plan first left rounds feed opens before device) where
  abbrev words : List Word
  words = going.past feed.run.tape

  written : HasWritten tree plan first words
  written = write tree plan first left going.read going.past feed one going.done

  -- ---- the run ends, with nothing more written

  pub out_of_memory : (later : Option (List ℕ))
      → GoesLive tree plan first later (Ok no_memory) opens before device
  out_of_memory later = (words, inr written, inr written, going.opens_is, going.written)

  pub input_ends : LiveFeedsEnd → (later : Option (List ℕ)) (after : LiveFeed)
      → rounds < round_limit → IsOver plan first going.read None feed after
      → GoesLive tree plan first later (Ok end.Done) opens before device
  input_ends law later after fewer over =
      let ends = law tree plan first left going.read going.past feed after None one going.done
      (let done = going.rounds_are in omega (arith, done, fewer)) over in
      (words, ends, inr written, going.opens_is, going.written)

  pub word_is_wrong : LiveFeedsEnd → (later : Option (List ℕ)) (after : LiveFeed) (word : ℕ)
      → rounds < round_limit → IsOver plan first going.read (Some word) feed after
      → GoesLive tree plan first later (Ok (end.Stopped (stop.BadInput word))) opens before device
  word_is_wrong law later after word fewer over =
      let ends = law tree plan first left going.read going.past feed after (Some word) one
      going.done (let done = going.rounds_are in omega (arith, done, fewer)) over in
      (words, inr ends, inr written, going.opens_is, going.written)

  pub limit_is_reached : LiveFeedsReachTheLimit → (later : Option (List ℕ))
      → rounds ≡ round_limit
      → GoesLive tree plan first later (Ok end.Done) opens before device
  limit_is_reached law later all =
      let ends = law tree plan first left going.read going.past feed one going.done
      (going.rounds_are ∙ all) in
      (words, ends, inr written, going.opens_is, going.written)

  -- and was not reached before
  pub limit_is_far : rounds < round_limit → feed.run.done ≡ round_limit → ⊥
  limit_is_far fewer all = let done = going.rounds_are in omega (arith, done, fewer, all)

  pub read_failed : LiveFeedsAreCutOff → (later : Option (List ℕ)) (after : LiveFeed)
      → IsUnread plan first later going.read feed after
      → GoesLive tree plan first later (Err error.Read) opens before device
  read_failed law later after unread =
      let cut_off = law tree plan first left later going.read going.past feed after one
      going.done unread in
      (words, inr cut_off, going.written)

  faulted_at : (site : FaultSite) (node number done : ℕ) (cause : Cause) → site.node ≡ node
      → site.firing ≡ number → site.round ≡ round.At done → site.cause ≡ cause
      → fault_line node number (round.At done) cause ≡ fault_of site
  faulted_at site node number done cause same_node same_firing same_round same_cause =
      ap (λ n. fault_line n number (round.At done) cause) (sym same_node)
      ∙ ap (λ n. fault_line site.node n (round.At done) cause) (sym same_firing)
      ∙ ap (λ (r : Round). fault_line site.node site.firing r cause) (sym same_round)
      ∙ ap (fault_line site.node site.firing site.round) (sym same_cause)

  pub firing_faulted : LiveFeedsFault → (later : Option (List ℕ)) (after : LiveFeed)
      (node firing done : ℕ) (cause : Cause) (how : LiveEnd) → rounds < round_limit
      → IsFault plan first later going.read going.past feed after
      (stops.Fault node firing cause)
      → done ≡ feed.run.done → IsFaultOf plan node firing done cause how
      → GoesLive tree plan first later (Ok how) opens before device
  firing_faulted law later after node firing done cause (end.Faulted site) fewer fault same is =
      let ends = law tree plan first left later going.read going.past feed after node firing
      cause site.firing one going.done
      (let done = going.rounds_are in omega (arith, done, fewer)) fault is.1 in (
        words,
        subst (λ l. RunsInput tree plan first (closed_text words ++ l) 3)
            (faulted_at site _ site.firing feed.run.done cause is.0 refl
            (is.2 ∙ ap (λ n. round.At n) same) is.3) ends,
        inr written,
        going.opens_is,
        going.written,
      )
  firing_faulted law later after node firing done cause end.Done fewer fault same is = absurd is
  firing_faulted law later after node firing done cause (end.Stopped why) fewer fault same is =
      absurd is
  firing_faulted law later after node firing done cause end.SeveralTapes fewer fault same is =
      absurd is
  firing_faulted law later after node firing done cause end.RoundsGiven fewer fault same is =
      absurd is
  firing_faulted law later after node firing done cause end.BatchGiven fewer fault same is =
      absurd is

  -- ---- a round

  module _ (later : Option (List ℕ)) (after : LiveFeed) (fewer : rounds < round_limit)
      (is : IsRound plan first later going.read going.past feed after) where
    done_more : HasDone plan first later (going.read ++ is.items) is.now after
    done_more = record {
      fed = is.fed;
      tape = subst (IsOneTape (transformed_of plan).nodes) (sym is.tape) going.done.tape;
      within =
          let done = is.done in
          let now = going.rounds_are in
          omega (arith, done, now, fewer);
    }

    more_text : words_text words ++ words_text after.words.items
        ≡ words_text (is.now after.run.tape)
    more_text = sym (ap words_text is.more ∙ words_text_both words after.words.items)

    pub words_written : (now : Bool) (end : Device)
        → WritesWords after.words.items (Ok true) opens now device end
        → IsGoing plan first later (rounds + 1) after now before end
    words_written now end writes = record {
      read = going.read ++ is.items;
      past = is.now;
      done = done_more;
      rounds_are = is.done ∙ ap (λ n. n + 1) going.rounds_are;
      opens_is = writes.1 words going.opens_is ∙ ap leaves_open (sym is.more);
      written = subst (λ l. Wrote l before end) more_text
          (wrote_both (words_text words) (words_text after.words.items) before device end
          going.written writes.0);
    }

    pub no_room : (now : Bool) (end : Device)
        → WritesWords after.words.items (Ok false) opens now device end
        → GoesLive tree plan first later (Ok no_memory) now before end
    no_room now end writes = (
      words,
      inr written,
      inr written,
      writes.0 ∙ going.opens_is,
      subst (Wrote (words_text words) before) (sym writes.1) going.written,
    )

    pub write_failed : (now : Bool) (end : Device) (failure : CliError)
        → WritesWords after.words.items (Err failure) opens now device end
        → GoesLive tree plan first later (Err failure) now before end
    write_failed now end error.Write failed = (
      is.now after.run.tape,
      write tree plan first later (going.read ++ is.items) is.now after one done_more,
      subst (λ l. FailedIn l before end) more_text
          (failed_later (words_text words) (words_text after.words.items) before device end
          going.written failed),
    )
    write_failed now end error.Read failed = absurd failed
    write_failed now end error.Memory failed = absurd failed
