-- What is reported of a live run of a text.
use Rattle.std.proofs.Common.{◌≡◌, ◌≢◌, ◌∙◌, ℕ, Bool, true, false, List, [], ◌++◌, Option, Result}
use Rattle.std.proofs.Common.{Ok, Err, IsErrAnd, refl, sym, ap, subst, append_assoc, append-nil}
use Rattle.std.proofs.Common.{inl, inr, if◌then◌else◌}
use Rattle.std.specs.List.{list_any}
use Rattle.strc_work_meaning.specs.declared.word.Word.{Word}
use Rattle.strc_elab_graph.specs.Graphs.{reads_input}
use Rattle.strc_elab_stream.specs.Flattening.{tree_of}
use Rattle.strc_run_refusal.specs.declared.placed_refusal.PlacedRefusal.{PlacedRefusal}
use Rattle.strc_run.specs.Plans.{IsPlanOf}
use Rattle.strc_run.specs.Refuses.{IsTrueOf}
use Rattle.strc_run.specs.Rounds.{plan_reads}
use Rattle.strc_stage_plan.specs.Plans.{PlanParts}
use Rattle.strc_cli_output.specs.Output.{closing, leaves_open, line_end, stop_line, words_text}
use Rattle.strc_cli_output.specs.declared.stop.Stop.TheVariants as stop
use Rattle.strc_cli_words.specs.declared.line.Command.{Command}
use Rattle.strc_cli.specs.Answering.{ReadsText, choice_of}
use Rattle.strc_cli.specs.Executes.{Device, FailedIn, TellsAnswer, Writes, Wrote, WroteNothing}
use Rattle.strc_cli.specs.declared.answer.Answer.{Answer}
use Rattle.strc_cli.specs.declared.answer.Answer.TheVariants as answer
use Rattle.strc_cli.specs.declared.execute.CliError.{CliError}
use Rattle.strc_cli.specs.declared.execute.CliError.TheVariants as error
use Rattle.strc_cli.specs.declared.execute.Status.{Status}
use Rattle.strc_live.specs.Ends.{IsToldAs, TellsEnd, end_text, fault_of, last_text, no_memory}
use Rattle.strc_live.specs.Ends.{batch_given, rounds_given, several_tapes}
use Rattle.strc_live.specs.Executes.{AnswersPlan, ExecutesLive, IsReportOf, IsTextEnd, IsUnfit}
use Rattle.strc_live.specs.Rounds.{AreSomeWords, IsEnd}
use Rattle.strc_live.specs.Executes.{IsFit}
use Rattle.strc_live.specs.declared.ends.LiveEnd.{LiveEnd}
use Rattle.strc_live.specs.declared.ends.LiveEnd.TheVariants as end
use Rattle.strc_live.specs.declared.ends.ToldEnd.{ToldEnd}
use Rattle.strc_live.specs.declared.execute_live.LiveReport.{LiveReport}
use Rattle.strc_live.proofs.Writing.{failed_before, failed_later, wrote_both, wrote_kept}
use Rattle.strc_live.proofs.Writing.{wrote_later, wrote_none}

-- ---- a failure that is passed on

pub passed_on : {A : Type 0} (P : Result A CliError → Type 0) (result : Result A CliError)
    (failure : CliError) → IsErrAnd result (λ passed. passed ≡ failure) → P (Err failure)
    → P result
passed_on P (Ok value) failure is holds = absurd is
passed_on P (Err passed) failure is holds = subst (λ (f : CliError). P (Err f)) (sym is) holds

pub not_passed : (result : Result LiveEnd CliError) (failure other : CliError)
    → IsErrAnd result (λ passed. passed ≡ failure) → result ≢ Err other
    → ◌≢◌ {A = Result (Option LiveEnd) CliError} (Err failure) (Err other)
not_passed (Ok value) failure other is differ same = absurd is
not_passed (Err passed) failure other is differ same =
    let inner : failure ≡ other = cc in
    differ (ap (λ (f : CliError). Err f) (is ∙ inner))

pub end_of_status : (failure other : CliError)
    → ◌≡◌ {A = Result Status CliError} (Err failure) (Err other)
    → ◌≡◌ {A = Result LiveEnd CliError} (Err failure) (Err other)
end_of_status failure other same =
    let inner : failure ≡ other = cc in ap (λ (f : CliError). Err f) inner

pub status_of_end : (failure other : CliError)
    → ◌≡◌ {A = Result LiveEnd CliError} (Err failure) (Err other)
    → ◌≡◌ {A = Result Status CliError} (Err failure) (Err other)
status_of_end failure other same =
    let inner : failure ≡ other = cc in ap (λ (f : CliError). Err f) inner

pub ok_unread : (value : Option LiveEnd)
    → ◌≢◌ {A = Result (Option LiveEnd) CliError} (Ok value) (Err error.Read)
ok_unread value same = cc

-- ---- the line after the words

-- it closes their line
closed_line : (words : List Word) (line : List ℕ)
    → words_text words ++ (closing words ++ line) ≡ (words_text words ++ closing words) ++ line
closed_line words line = sym (append_assoc (words_text words) (closing words) line)

pub whole_text : (words : List Word) (how : LiveEnd)
    → words_text words ++ last_text (leaves_open words) how ≡ end_text words how
whole_text words end.Done = append-nil (words_text words)
whole_text words (end.Faulted site) = closed_line words (fault_of site)
whole_text words (end.Stopped why) = closed_line words (stop_line why)
whole_text words end.SeveralTapes = closed_line words several_tapes
whole_text words end.RoundsGiven = closed_line words rounds_given
whole_text words end.BatchGiven = closed_line words batch_given

-- ---- a refused text

pub refused_so : (text : List ℕ) (command : Command) (first left : Option (List ℕ))
    (placed : PlacedRefusal) (result : Result Status CliError) (how : LiveEnd)
    (before after : Device) → how ≡ end.Stopped (stop.Refused placed)
    → IsTrueOf text (choice_of command) placed.refusal
    → TellsAnswer (answer.Stopped (stop.Refused placed)) result before after
    → ExecutesLive text command first left result how before after
refused_so text command first left placed (Ok status) how before after same holds tells =
    subst (λ (h : LiveEnd). ExecutesLive text command first left (Ok status) h before after)
    (sym same) ([], (refl, holds), tells.0, tells.1)
refused_so text command first left placed (Err error.Write) how before after same holds tells =
    inl ([], end.Stopped (stop.Refused placed), (refl, holds), tells)
refused_so text command first left placed (Err error.Memory) how before after same holds tells =
    (placed, holds, tells)
refused_so text command first left placed (Err error.Read) how before after same holds tells =
    absurd tells

-- ---- a plan of a text

module _ (text : List ℕ) (command : Command) (plan : PlanParts)
    (is : IsPlanOf text (choice_of command) plan) (first left : Option (List ℕ)) where
  -- where its graph reads, the text's stream has a reader
  pub reads_text : plan_reads plan ≡ true → ReadsText text (choice_of command)
  reads_text is_true = record {
    plan = plan;
    accepted = is.accepted;
    reads = sym (ap (list_any reads_input) is.nodes) ∙ is_true;
  }

  unfit_end : (how : LiveEnd) → IsUnfit command plan how → IsTextEnd text command first [] how
  unfit_end end.Done unfit = absurd unfit
  unfit_end (end.Faulted site) unfit = absurd unfit
  unfit_end (end.Stopped (stop.Refused placed)) unfit = absurd unfit
  unfit_end (end.Stopped (stop.BadInput word)) unfit = absurd unfit
  unfit_end (end.Stopped (stop.ArrayLimit items)) unfit = absurd unfit
  unfit_end (end.Stopped (stop.NotRun why)) unfit =
      inl (refl, record { plan = plan; accepted = is.accepted; unfit = unfit })
  unfit_end end.SeveralTapes unfit =
      inl (refl, record { plan = plan; accepted = is.accepted; unfit = unfit })
  unfit_end end.RoundsGiven unfit =
      inl (refl, record { plan = plan; accepted = is.accepted; unfit = unfit })
  unfit_end end.BatchGiven unfit =
      inl (refl, record { plan = plan; accepted = is.accepted; unfit = unfit })

  module _ (fit : IsFit command plan) (words : List Word) where
    fit_end : (how : LiveEnd) → IsEnd (tree_of is.accepted.stream) plan first words how
        → IsTextEnd text command first words how
    fit_end (end.Stopped (stop.Refused placed)) ends = absurd ends
    fit_end (end.Stopped (stop.ArrayLimit items)) ends = absurd ends
    fit_end end.SeveralTapes ends = absurd ends
    fit_end end.RoundsGiven ends = absurd ends
    fit_end end.BatchGiven ends = absurd ends
    fit_end end.Done ends =
        inr (record { plan = plan; accepted = is.accepted; fit = fit; ends = ends })
    fit_end (end.Faulted site) ends =
        inr (record { plan = plan; accepted = is.accepted; fit = fit; ends = ends })
    fit_end (end.Stopped (stop.BadInput word)) ends =
        inr (record { plan = plan; accepted = is.accepted; fit = fit; ends = ends })
    fit_end (end.Stopped (stop.NotRun why)) ends =
        inr (record { plan = plan; accepted = is.accepted; fit = fit; ends = ends })

    fit_told : (how told : LiveEnd) → IsEnd (tree_of is.accepted.stream) plan first words how
        → AreSomeWords (tree_of is.accepted.stream) plan first words → IsToldAs how told
        → IsTextEnd text command first words told
    fit_told how told ends some (inl same) =
        subst (IsTextEnd text command first words) (sym same) (fit_end how ends)
    fit_told how told ends some (inr same) =
        subst (IsTextEnd text command first words) (sym same) (fit_end no_memory some)

  unfit_told : (how told : LiveEnd) → IsUnfit command plan how → IsToldAs how told
      → IsTextEnd text command first [] told
  unfit_told how told unfit (inl same) =
      subst (IsTextEnd text command first []) (sym same) (unfit_end how unfit)
  unfit_told how told unfit (inr same) =
      subst (IsTextEnd text command first []) (sym same) (unfit_end no_memory tt)

  -- the end of what is written
  told_so : (words : List Word) (opens : Bool) (how : LiveEnd)
      → ((told : LiveEnd) → IsToldAs how told → IsTextEnd text command first words told)
      → opens ≡ leaves_open words → (before between after : Device)
      → Wrote (words_text words) before between → (told : Result ToldEnd CliError)
      → TellsEnd opens how told between after → (report : LiveReport) → IsReportOf told report
      → ExecutesLive text command first left report.result report.end before after
  told_so words opens how ends same before between after wrote (Ok told) tells report reports =
      let line = subst (λ b. Wrote (last_text b told.end) between after) same tells.2 in
      let whole = subst (λ l. Wrote l before after) (whole_text words told.end)
      (wrote_both (words_text words) (last_text (leaves_open words) told.end) before between
      after wrote line) in
      subst (λ (r : Result Status CliError). ExecutesLive text command first left r report.end
      before after) (sym reports.0)
      (subst (λ (h : LiveEnd). ExecutesLive text command first left (Ok told.status) h before
      after) (sym reports.1) (words, ends told.end tells.0, tells.1, whole))
  told_so words opens how ends same before between after wrote (Err error.Write) tells report
      reports =
      let told = tells.0 in
      let line = subst (λ b. FailedIn (last_text b told) between after) same tells.2 in
      let broken = subst (λ l. FailedIn l before after) (whole_text words told)
      (failed_later (words_text words) (last_text (leaves_open words) told) before between after
      wrote line) in
      subst (λ (r : Result Status CliError). ExecutesLive text command first left r report.end
      before after) (sym reports) (inl (words, told, ends told tells.1, broken))
  told_so words opens how ends same before between after wrote (Err error.Read) tells report
      reports = absurd tells
  told_so words opens how ends same before between after wrote (Err error.Memory) tells report
      reports = absurd tells

  pub ended_so : (how : LiveEnd) (opens : Bool) (before between after : Device)
      → AnswersPlan (tree_of is.accepted.stream) plan command first left (Ok how) opens before
      between → (told : Result ToldEnd CliError) → TellsEnd opens how told between after
      → (report : LiveReport) → IsReportOf told report
      → ExecutesLive text command first left report.result report.end before after
  ended_so how opens before between after (inl unfit) told tells report reports =
      told_so [] opens how (λ end. unfit_told how end unfit.0) unfit.1 before between after
      (subst (Wrote [] before) (sym unfit.2) (wrote_none before)) told tells report reports
  ended_so how opens before between after (inr (fit, (words, ends, some, same, wrote))) told tells
      report reports =
      told_so words opens how (λ end. fit_told fit words how end ends some) same before between
      after wrote told tells report reports

  pub failed_so : (failure : CliError) (opens : Bool) (before after : Device)
      → AnswersPlan (tree_of is.accepted.stream) plan command first left (Err failure) opens before
      after → (report : LiveReport) → report.result ≡ Err failure
      → ExecutesLive text command first left report.result report.end before after
  failed_so failure opens before after (inl unfit) report reports = absurd unfit
  failed_so error.Write opens before after (inr (fit, (words, written, failed))) report reports =
      subst (λ (r : Result Status CliError). ExecutesLive text command first left r report.end
      before after) (sym reports) (inr (
        words,
        record { plan = plan; accepted = is.accepted; fit = fit; written = written },
        failed,
      ))
  failed_so error.Read opens before after (inr (fit, (words, cut_off, wrote))) report reports =
      subst (λ (r : Result Status CliError). ExecutesLive text command first left r report.end
      before after) (sym reports) (
        words,
        record { plan = plan; accepted = is.accepted; fit = fit; cut_off = cut_off },
        wrote,
      )
  failed_so error.Memory opens before after (inr goes) report reports = absurd goes.1

-- ---- a line after it is closed

-- the line feed that closes the line which the words leave open
abbrev feed_of : (opens : Bool) → List ℕ
feed_of opens = if opens then line_end else []

-- an end that writes a line writes it after this
abbrev HasLine : (opens : Bool) → LiveEnd → Type 0
HasLine opens how = last_text opens how ≡ feed_of opens ++ last_text false how

has_line : (opens : Bool) (how : LiveEnd) → how ≢ end.Done → HasLine opens how
has_line opens end.Done not_done = absurd (not_done refl)
has_line opens (end.Faulted site) not_done = refl
has_line opens (end.Stopped why) not_done = refl
has_line opens end.SeveralTapes not_done = refl
has_line opens end.RoundsGiven not_done = refl
has_line opens end.BatchGiven not_done = refl

module _ (opens : Bool) (how : LiveEnd) (not_done : how ≢ end.Done) where
  told_line : (told : LiveEnd) → IsToldAs how told → HasLine opens told
  told_line told (inl same) = subst (HasLine opens) (sym same) (has_line opens how not_done)
  told_line told (inr same) = subst (HasLine opens) (sym same) refl

  pub told_closed : (before between after : Device) → Wrote (feed_of opens) before between
      → (told : Result ToldEnd CliError) → TellsEnd false how told between after
      → TellsEnd opens how told before after
  told_closed before between after closed (Ok told) tells = (
    tells.0,
    tells.1,
    subst (λ l. Wrote l before after) (sym (told_line told.end tells.0))
        (wrote_both (feed_of opens) (last_text false told.end) before between after closed
        tells.2),
  )
  told_closed before between after closed (Err error.Write) tells = (
    tells.0,
    tells.1,
    subst (λ l. FailedIn l before after) (sym (told_line tells.0 tells.1))
        (failed_later (feed_of opens) (last_text false tells.0) before between after closed
        tells.2),
  )
  told_closed before between after closed (Err error.Read) tells = absurd tells
  told_closed before between after closed (Err error.Memory) tells = absurd tells

  pub told_unclosed : (before after : Device) (failure : CliError)
      → Writes (feed_of opens) (Err failure) before after
      → TellsEnd opens how (Err failure) before after
  told_unclosed before after error.Write failed = (
    how,
    inl refl,
    subst (λ l. FailedIn l before after) (sym (has_line opens how not_done))
        (failed_before (feed_of opens) (last_text false how) before after failed),
  )
  told_unclosed before after error.Read failed = absurd failed
  told_unclosed before after error.Memory failed = absurd failed

-- ---- in place of a line that there is no memory for it

either : (how told : LiveEnd) → IsToldAs no_memory told → IsToldAs how told
either how told (inl same) = inr same
either how told (inr same) = inr same

pub memory_told : (how : LiveEnd) (before between after : Device) (told : Result ToldEnd CliError)
    → WroteNothing before between → TellsEnd false no_memory told between after
    → TellsEnd false how told before after
memory_told how before between after (Ok told) nothing tells = (
  either how told.end tells.0,
  tells.1,
  wrote_later (last_text false told.end) before between after nothing tells.2,
)
memory_told how before between after (Err error.Write) nothing tells = (
  tells.0,
  either how tells.0 tells.1,
  failed_later [] (last_text false tells.0) before between after
      (wrote_kept [] before before between (wrote_none before) nothing) tells.2,
)
memory_told how before between after (Err error.Read) nothing tells = absurd tells
memory_told how before between after (Err error.Memory) nothing tells = absurd tells

-- ---- no input is read

pub tells_unread : (answer : Answer) (result : Result Status CliError) (before after : Device)
    → TellsAnswer answer result before after → result ≢ Err error.Read
tells_unread answer result before after tells same =
    absurd (subst (λ (r : Result Status CliError). TellsAnswer answer r before after) same tells)

pub report_unread : (opens : Bool) (how : LiveEnd) (told : Result ToldEnd CliError)
    (before after : Device) (report : LiveReport) → TellsEnd opens how told before after
    → IsReportOf told report → report.result ≢ Err error.Read
report_unread opens how (Ok told) before after report tells reports same =
    absurd (let is : Ok told.status ≡ Err error.Read = sym reports.0 ∙ same in cc)
report_unread opens how (Err error.Write) before after report tells reports same =
    absurd (let is : Err error.Write ≡ Err error.Read = sym reports ∙ same in cc)
report_unread opens how (Err error.Read) before after report tells reports same = absurd tells
report_unread opens how (Err error.Memory) before after report tells reports same = absurd tells
