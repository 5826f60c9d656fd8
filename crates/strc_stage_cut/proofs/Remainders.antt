-- One stage after another, and what is left of the machine.
use Rattle.std.proofs.Common.{◌≡◌, sym, ◌∙◌, subst, ℕ, suc, ◌≤◌, List, []}
use Rattle.std.proofs.Common.{◌∷◌, ◌++◌, length, arith}
use Rattle.strc_sched_laws.specs.Machine.{CircuitView, MachineView}
use Rattle.strc_sched_orders.specs.declared.unit as units
use Rattle.strc_stage_steps.specs.Plans.{IsCut}
use Rattle.strc_stage_steps.specs.Runnings.{Running}
use Rattle.strc_sched_machine.specs.Parts.{IsRest}
use Rattle.strc_stage_plan.specs.Plans.{PlanParts, transformed_of}
use Rattle.strc_stage_steps.specs.declared.stage.StageParts.{StageParts}
use Rattle.strc_stage_cut.specs.Bounds.{bound_in, last_of}
use Rattle.strc_stage_cut.specs.Cuts.{IsCutAt}
use Rattle.strc_stage_cut.specs.Fired.{running_by}
use Rattle.strc_stage_cut.specs.Made.{AreMade, IsMade}
use Rattle.strc_stage_cut.proofs.Lists.{each_next}
use Rattle.strc_stage_cut.proofs.Ranges.{own_from}

-- what is left after two parts
pub rest_next : (plan : PlanParts) (bound : ℕ → ℕ) (last stage : ℕ)
    (started before after : MachineView) → IsCut plan bound (suc last) → stage ≤ last
    → IsRest (transformed_of plan) (bound stage) started before
    → IsRest (transformed_of plan) (bound (suc stage)) before after
    → IsRest (transformed_of plan) (bound (suc stage)) started after
rest_next plan bound last stage started before after cut most was is =
    let rises = cut.rising stage (omega (arith, most)) in record {
      fields = λ node from. is.fields node from ∙ was.fields node (omega (arith, from, rises));
      fired = λ node from. is.fired node from ∙ was.fired node (omega (arith, from, rises));
      rings = λ number channel there from. is.rings number channel there from
          ∙ was.rings number channel there (omega (arith, from, rises));
      words = is.words ∙ was.words;
      each_fields = is.each_fields ∙ was.each_fields;
      each_fired = is.each_fired ∙ was.each_fired;
      each_ring = is.each_ring ∙ was.each_ring;
    }

module _ (plan : PlanParts) (fired : List units.Unit.Unit) (bounds : List ℕ)
    (circuit : CircuitView) (at : IsCutAt plan bounds) (started before : MachineView)
    (rounds stage : ℕ) where
  abbrev running : Running
  running = running_by plan fired

  -- a stage that is made of what is left has what there was at first
  made_since : (own : StageParts)
      → IsRest (transformed_of plan) (bound_in bounds stage) started before
      → IsMade running bounds circuit before rounds stage own
      → IsMade running bounds circuit started rounds stage own
  made_since own rest made =
      let state = made.state in
      let from = own_from plan (bound_in bounds) (last_of bounds) at.cut stage in
      record {
        state = record {
          circuit_is = record {
            each = state.circuit_is.each;
            codes = state.circuit_is.codes;
            inputs = state.circuit_is.inputs;
            outputs = state.circuit_is.outputs;
            input = state.circuit_is.input;
          };
          order_is = state.order_is;
          entering_is = state.entering_is;
          leaving_is = state.leaving_is;
          tapes_are = state.tapes_are;
          blocks_are = state.blocks_are;
          tape_count_is = state.tape_count_is;
          machine = state.machine;
          machine_is = state.machine_is;
          is_machine = let is = state.is_machine in record {
            each_fields = is.each_fields;
            each_fired = is.each_fired;
            each_ring = is.each_ring;
            each_words = is.each_words;
            fields = λ node own. is.fields node own ∙ rest.fields node (from node own);
            fired = λ node own. is.fired node own ∙ rest.fired node (from node own);
            ending = λ number channel there own. is.ending number channel there own
                ∙ rest.rings number channel there (from channel.target.node own);
            leaving = is.leaving;
            words = is.words;
          };
        };
        fresh = made.fresh;
        no_stop = made.no_stop;
      }

  -- one more
  pub made_more : (stages more : List StageParts) (own : StageParts) → length stages ≡ stage
      → more ≡ stages ++ own ∷ []
      → IsRest (transformed_of plan) (bound_in bounds stage) started before
      → AreMade running bounds circuit started rounds stages
      → IsMade running bounds circuit before rounds stage own
      → AreMade running bounds circuit started rounds more
  made_more stages more own long is rest each made =
      subst (AreMade running bounds circuit started rounds) (sym is)
      (each_next (IsMade running bounds circuit started rounds) stages own each
      (subst (λ (n : ℕ). IsMade running bounds circuit started rounds n own) (sym long)
      (made_since own rest made)))
