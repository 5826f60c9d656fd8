-- What live runs come to.
use Rattle.std.proofs.Common.{◌≡◌, ◌++◌, ◌∙◌, suc, ℤ, List, [], length, Vec, Global, sym, ap, subst}
use Rattle.std.proofs.Common.{append-nil, arith}
use Rattle.std.proofs.lemmas.List.{get_or_past, length-map}
use Rattle.strc_elab_dataflow.specs.Answer.{Outcome.Done}
use Rattle.strc_sched.specs.Serving.{Serves}
use Rattle.strc_sched_laws.specs.Machine.{CircuitView}
use Rattle.strc_sched_machine.specs.Running.{machine_view}
use Rattle.strc_sched_rings.specs.Circuits.{circuit_view}
use Rattle.strc_stage_plan.specs.Plans.{transformed_of}
use Rattle.strc_stage_steps.specs.Plans.{ComesToAnswer, need_of}
use Rattle.strc_work_meaning.specs.declared.word.Word.{Word}
use Rattle.strc_live_plans.specs.Runs.{LivePlansAnswer, LivePlansServe}
use Rattle.strc_live_runs.specs.Serving.{LiveRunsAnswer, LiveRunsReadOn, LiveRunsServe}
use Rattle.strc_live_runs.specs.Serving.{LiveRunsWriteByNodes}

pub answer_law : LivePlansAnswer → LiveRunsAnswer
answer_law law tree plan read more past run program few is =
    subst (λ l. ComesToAnswer tree plan (l ++ more) run.done (Done past)) (sym is.is_read)
    (law tree plan is.begin is.later more is.old is.circuit is.started run.reader run.done past _
    program few is.gone)

pub serve_law : LivePlansServe → LiveRunsServe
serve_law law plan read waiting past run few short is =
    subst (λ l. Serves (need_of plan) (length (l ++ waiting)) run.done) (sym is.is_read)
    (law plan is.begin is.later waiting is.old is.circuit is.started run.reader run.done past _
    few short is.gone)

pub read_on_law : LiveRunsReadOn
read_on_law plan read past run few is =
    let reader = is.gone.reader_is in
    let long = ap (λ (l : List ℤ). length l) is.is_read ∙ is.gone.read in
    let now = reader.need run.done in
    let next = reader.need (suc run.done) in
    let within = reader.within (suc run.done) few in
    let one = reader.need 1 in record {
      some = reader.some;
      each = omega (arith, one);
      fits = omega (arith, long, now, next, within);
    }

pub nodes_law : LiveRunsWriteByNodes
nodes_law plan read past run node wired is beyond =
    let alike = is.gone.live.alike [] in
    let own = machine_view run.machine in
    let whole = is.gone.live.whole [] in
    let nodes : (circuit_view run.circuit).codes ≡ (transformed_of plan).nodes =
    ap (λ (c : CircuitView). c.codes) is.circuit_is ∙ is.gone.begun.startup.circuit_is.codes in
    let many : length own.words ≡ length (transformed_of plan).nodes =
    length-map run.machine.words.items (λ (words : Vec Word Global). words.items)
    ∙ wired.machine.words ∙ ap length nodes in
    let each = alike.each_words in
    let nothing = get_or_past whole.words node [] (omega (arith, many, each, beyond)) in
    sym (append-nil (past node))
    ∙ ap (λ l. past node ++ l) (sym (is.gone.live.unwritten node))
    ∙ sym (alike.words node) ∙ nothing
