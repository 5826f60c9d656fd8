-- The start of a live run, and what is written of it.
use Rattle.std.proofs.Common.{◌≡◌, ◌∙◌, ℕ, Bool, true, false, List, [], Option, Some, None, Ok, Err}
use Rattle.std.proofs.Common.{refl, sym, ap, subst, inl, arith}
use Rattle.strc_elab_dataflow.specs.Streams as trees
use Rattle.strc_work_meaning.specs.declared.fault.Cause.{Cause}
use Rattle.strc_elab_graph.specs.Graphs.{NodeCode}
use Rattle.strc_sched_outcome.specs.declared.outcome.Round.TheVariants as round
use Rattle.strc_sched_outcome.specs.declared.run_refusal.RunRefusal.TheVariants as unrun
use Rattle.strc_stage_plan.specs.Plans.{PlanParts}
use Rattle.strc_stage_steps.specs.Plans.{need_of}
use Rattle.strc_cli_output.specs.Output.{leaves_open, words_text}
use Rattle.strc_cli_output.specs.declared.stop.Stop.TheVariants as stop
use Rattle.strc_cli.specs.Executes.{Device, FailedIn, Wrote}
use Rattle.strc_cli.specs.declared.execute.CliError.{CliError}
use Rattle.strc_cli.specs.declared.execute.CliError.TheVariants as error
use Rattle.strc_live_feeds.specs.Beginning.{FaultsSo, HasBegunSo, IsUnbegun, LacksNumbers}
use Rattle.strc_live_feeds.specs.declared.live_feed.LiveFeed.{LiveFeed}
use Rattle.strc_live_answers.specs.Laws.{HasDone, IsOneTapeOf, LiveFeedsFaultAtFirst}
use Rattle.strc_live_answers.specs.Laws.{LiveFeedsWrite}
use Rattle.strc_live.specs.Ends.{no_memory}
use Rattle.strc_live.specs.Rounds.{GoesLive, IsGoing, WritesWords}
use Rattle.strc_live.specs.declared.ends.LiveEnd.TheVariants as end
use Rattle.strc_live.proofs.Writing.{wrote_none}

module _ (tree : trees.Stream NodeCode) (plan : PlanParts) (one : IsOneTapeOf tree plan)
    (first left : Option (List ℕ)) (opens : Bool) (fresh : opens ≡ false) (before : Device) where
  -- ---- nothing is written

  pub no_memory_yet : GoesLive tree plan first left (Ok no_memory) opens before before
  no_memory_yet = ([], inl refl, inl refl, fresh, wrote_none before)

  pub faulted_at_first : LiveFeedsFaultAtFirst → (node firing : ℕ) (cause : Cause)
      → FaultsSo plan first left node firing cause
      → GoesLive tree plan first left (Ok (end.Faulted (record {
        node = node;
        firing = firing;
        round = round.Startup;
        cause = cause;
      }))) opens before before
  faulted_at_first law node firing cause is =
      ([], law tree plan first left node firing cause one is, inl refl, fresh, wrote_none before)

  pub input_is_short : (need got : ℕ) → need ≡ need_of plan 0 → LacksNumbers plan first None got
      → GoesLive tree plan first left
      (Ok (end.Stopped (stop.NotRun (unrun.InputShort need got)))) opens before before
  input_is_short need got needed lacks =
      ([], (needed, (refl, lacks)), inl refl, fresh, wrote_none before)

  pub first_word_is_wrong : (word : ℕ) → LacksNumbers plan first (Some word) word
      → GoesLive tree plan first left (Ok (end.Stopped (stop.BadInput word))) opens before before
  first_word_is_wrong word lacks =
      ([], inl (refl, lacks), inl refl, fresh, wrote_none before)

  pub first_read_failed : IsUnbegun plan first left
      → GoesLive tree plan first left (Err error.Read) opens before before
  first_read_failed unbegun = ([], inl (refl, unbegun), wrote_none before)

  -- ---- the words of start-up are

  module _ (write : LiveFeedsWrite) (feed : LiveFeed) (begun : HasBegunSo plan first left feed)
    where
      begun_done : HasDone plan first left begun.items begun.past feed
      begun_done = record {
        fed = begun.fed;
        tape = begun.tape;
        within = let none = begun.done in omega (arith, none);
      }

      pub words_written : (now : Bool) (end : Device)
          → WritesWords feed.words.items (Ok true) opens now before end
          → IsGoing plan first left 0 feed now before end
      words_written now end writes = record {
        read = begun.items;
        past = begun.past;
        done = begun_done;
        rounds_are = begun.done;
        opens_is = writes.1 [] fresh ∙ ap leaves_open (sym begun.words);
        written = subst (λ l. Wrote l before end) (ap words_text (sym begun.words)) writes.0;
      }

      pub no_room : (now : Bool) (end : Device)
          → WritesWords feed.words.items (Ok false) opens now before end
          → GoesLive tree plan first left (Ok no_memory) now before end
      no_room now end writes = (
        [],
        inl refl,
        inl refl,
        writes.0 ∙ fresh,
        subst (Wrote [] before) (sym writes.1) (wrote_none before),
      )

      pub write_failed : (now : Bool) (end : Device) (later : Option (List ℕ))
          (failure : CliError) → WritesWords feed.words.items (Err failure) opens now before end
          → GoesLive tree plan first later (Err failure) now before end
      write_failed now end later error.Write failed = (
        begun.past feed.run.tape,
        write tree plan first left begun.items begun.past feed one begun_done,
        subst (λ l. FailedIn l before end) (ap words_text (sym begun.words)) failed,
      )
      write_failed now end later error.Read failed = absurd failed
      write_failed now end later error.Memory failed = absurd failed
