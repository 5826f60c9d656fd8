-- Live runs of plans, by what they have read and written.
use Rattle.std.proofs.Common.{◌≡◌, sym, ap, ◌∙◌, subst, ℕ, suc, ◌+◌, ◌<◌, ◌^◌}
use Rattle.std.proofs.Common.{ℤ, List, ◌++◌, length, arith, inr, length-append, append_assoc}
use Rattle.std.proofs.lemmas.List.{append-nil}
use Rattle.strc_work_meaning.specs.declared.word.Word.{Word}
use Rattle.strc_sched_orders.specs.Order.{firing_count}
use Rattle.strc_sched_laws.specs.Laws.{round_order}
use Rattle.strc_sched_laws.specs.Machine.{CircuitView, MachineView, words_at}
use Rattle.strc_stage_plan.specs.Plans.{PlanParts}
use Rattle.strc_stage_steps.specs.Plans.{need_of}
use Rattle.strc_live_laws.specs.Live.{IsLive, more_past, renewed}
use Rattle.strc_live_laws.proofs.Live.{begins_law, goes_on_law}
use Rattle.strc_live_plans.specs.Readers.{each_of}
use Rattle.strc_live_plans.specs.Runs.{HasGoneOn, LivePlansAnswer, LivePlansBegin, LivePlansFault}
use Rattle.strc_live_plans.specs.Runs.{LivePlansGoOn, LivePlansServe}
use Rattle.strc_live_plans.proofs.Answers.{faults_answer_law, rounds_law}
use Rattle.strc_live_plans.proofs.NewReader.{reads_law}

pub begin_law : LivePlansBegin
begin_law tree plan begin old circuit started program begun =
    let (reader, is) = reads_law tree plan begin old circuit started program begun in
    let live = begins_law circuit (round_order plan.split.schedule) reader started begin is.there
    (is.begun ∙ sym begun.can.just) in (
      reader,
      record {
        begun = begun;
        reader_is = is;
        live = subst (λ (l : List ℤ). IsLive circuit (round_order plan.split.schedule) reader
            started 0 l (words_at started.words) (renewed reader started))
            (sym (append-nil begin)) live;
        read = ap (λ (l : List ℤ). length l) (append-nil begin) ∙ begun.can.just;
      },
    )

module _ (plan : PlanParts) (begin later : List ℤ) (old circuit : CircuitView)
    (started : MachineView) (reader done : ℕ) (past : ℕ → List Word) (own : MachineView)
    (gone : HasGoneOn plan begin later old circuit started reader done past own) where
  -- one round more reads as much as a round reads
  next_need : need_of plan (suc done) ≡ length (begin ++ later) + each_of plan
  next_need = omega (arith, gone.reader_is.need (suc done), gone.reader_is.need done, gone.read)

  module _ (items : List ℤ) (just : length items ≡ each_of plan) where
    items_are : length items ≡ firing_count (round_order plan.split.schedule) reader
    items_are = just ∙ sym gone.reader_is.each

    few : suc done < 2 ^ 32 → length (begin ++ later) + length items < 2 ^ 64
    few less = omega (arith, next_need, just, gone.reader_is.within (suc done) less)

    all_read : length (begin ++ (later ++ items)) ≡ need_of plan (suc done)
    all_read = ap (λ (l : List ℤ). length l) (sym (append_assoc begin later items))
        ∙ length-append (begin ++ later) items ∙ omega (arith, next_need, just)

pub go_on_law : LivePlansGoOn
go_on_law plan begin later items old circuit started reader done past own next less just gone went =
    let order = round_order plan.split.schedule in
    let live = goes_on_law circuit order reader started done (begin ++ later) items past own next
    gone.reader_is.is
    (few plan begin later old circuit started reader done past own gone items just less)
    (items_are plan begin later old circuit started reader done past own gone items just)
    gone.live went in
    record {
      begun = gone.begun;
      reader_is = gone.reader_is;
      live = subst (λ (l : List ℤ). IsLive circuit order reader started (suc done) l
          (more_past past next) (renewed reader next)) (append_assoc begin later items) live;
      read = all_read plan begin later old circuit started reader done past own gone items just;
    }

pub serve_law : LivePlansServe
serve_law plan begin later waiting old circuit started reader done past own within short gone =
    let more = next_need plan begin later old circuit started reader done past own gone in
    let one : suc done ≡ done + 1 = omega arith in
    let next : need_of plan (suc done) ≡ need_of plan (done + 1) = ap (need_of plan) one in
    let got = length-append (begin ++ later) waiting in
    record {
      start = omega (arith, got, gone.read, gone.reader_is.need done);
      enough = omega (arith, got, gone.read);
      within = within;
      most = inr (omega (arith, got, more, next, short));
    }

pub answer_law : LivePlansAnswer
answer_law tree plan begin later more old circuit started reader done past own program less gone =
    rounds_law tree plan begin later more old circuit started reader done past own program
    gone.begun gone.live (record { few = less; supplied = omega (arith, gone.read) })

pub fault_law : LivePlansFault
fault_law tree plan begin later items more old circuit started reader done left past own node firing
    cause program enough just gone stopped =
    faults_answer_law tree plan begin later items more old circuit started reader done left past
    own node firing cause program gone.begun gone.reader_is.is
    (few plan begin later old circuit started reader done past own gone items just
    (omega (arith, enough.few)))
    (items_are plan begin later old circuit started reader done past own gone items just)
    gone.live stopped enough
