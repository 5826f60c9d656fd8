-- The worked row, computed from the definitions.
use Rattle.std.proofs.Common.{◌≡◌, refl, sym, ap, ℕ, zero, suc, ◌<◌, ◌≤◌, true}
use Rattle.std.proofs.Common.{false, eqb, List, [], ◌∷◌, length, arith}
use Rattle.std.proofs.Common.{append-nil, eqb-true}
use mathlib.Core.Logic.{inl}
use Rattle.strc_elab_dataflow.specs.Streams.{flat}
use Rattle.strc_elab_dataflow.specs.Queues.{Fifo, added, holds, fronts, moved}
use Rattle.strc_elab_dataflow.specs.Queues.{fifo_after, fifo_if, fifo_fire, fifo_then, fifo_go}
use Rattle.strc_elab_dataflow.specs.Queues.{fifo_at_first, TakesWithinWindow}
use Rattle.strc_elab_dataflow.specs.Examples.{Block, Block.Adder, example}
use Rattle.strc_elab_dataflow.specs.Examples.{inputs, takes, looks_at}
use Rattle.strc_elab_dataflow.specs.Laws.{IsIdle}
use Rattle.strc_elab_dataflow.proofs.Blocks.{block_keeps}
use Rattle.strc_elab_dataflow.proofs.Tests.{schedule_from_test}
use Rattle.strc_elab_dataflow.proofs.Computed.{all_definitions}
use Rattle.strc_elab_dataflow.specs.Cut.{AllIn}
use Rattle.strc_elab_dataflow.specs.Staging.{Staging, joined, in_stage, IsFromUpTo, IsStaged}
use Rattle.strc_elab_dataflow.specs.Stages.{Parcel, Stage, Stage.Works, empty_parcel, quiet}
use Rattle.strc_elab_dataflow.specs.Stages.{entered}
use Rattle.strc_elab_dataflow.specs.Stages.{sent_blocks, sent_words, sent, step, parcel_at}
use Rattle.strc_elab_dataflow.specs.Stages.{stages_after}
use Rattle.strc_elab_dataflow.specs.Stages.{collected, staged_rounds, staged_startup, staged_run}
use Rattle.strc_elab_dataflow.specs.Workers.{AreSteps, AreFresh, collects, IsChain}
use Rattle.strc_elab_dataflow.specs.Rewired.{rewired, IsRewiring, staging_of, IsStagedStream}
use Rattle.strc_elab_dataflow.specs.StageRows.{shown_by, gives, empty_parcels, all_given}
use Rattle.strc_elab_dataflow.specs.StageRows.{three_stages}
use Rattle.strc_elab_dataflow.specs.StageRows.{pipeline, ThreeStagesRow}

-- The steps that give a list of parcels.
module _ {Code State Cause Word : Type 0} (plan : Staging Code State Cause Word) where
  gives_steps : (a : ℕ) (taken : List (Parcel Cause Word)) (stage : Stage State Cause Word)
      → (last : Stage State Cause Word)
      × AreSteps plan a stage taken (gives plan a stage taken) last
  unfolding gives
  gives_steps a [] stage = (stage, refl)
  gives_steps a (parcel ∷ taken) stage =
      let rest = gives_steps a taken (step plan a stage parcel).stage in (
        rest.0,
        ((step plan a stage parcel).stage, (inl (refl, refl), rest.1)),
      )

  empty_fresh : (collection : List (Parcel Cause Word)) (n t : ℕ)
      → AreFresh collection t (empty_parcels plan n)
  unfolding empty_parcels empty_parcel
  empty_fresh collection zero t = tt
  empty_fresh collection (suc n) t =
      ((λ node port. refl, λ node. refl), empty_fresh collection n (suc t))

  empty_length : (n : ℕ) → length (empty_parcels plan n) ≡ n
  unfolding empty_parcels
  empty_length zero = refl
  empty_length (suc n) = ap suc (empty_length n)

  -- Parcels that went through all stages one after another are a chain.
  all_chain : (now : Fifo State Cause Word) (n : ℕ) → n ≤ plan.rounds
      → IsChain plan now (all_given plan now n) (all_given plan now n) (λ b. [])
  unfolding all_given
  all_chain now n within = record {
    links = λ b less. sym (append-nil (all_given plan now n b));
    count = omega (arith, empty_length n);
    fresh = empty_fresh (all_given plan now n plan.stages) n 0;
    steps = λ a less are. gives_steps a (all_given plan now n a) (Works now);
  }

takes_less : (block : Block) (port : ℕ) → takes block port ≤ looks_at block port
unfolding takes looks_at
takes_less Adder port = omega arith
takes_less block port = omega arith

within : TakesWithinWindow example (flat three_stages.stream)
unfolding example
within node firing port less = takes_less ((flat three_stages.stream).code node) port

staged : IsStaged (rewired (flat three_stages.stream) three_stages.source) three_stages.stage_of
    three_stages.segment three_stages.stages three_stages.round_order
unfolding all_definitions joined in_stage
staged = record {
  own = own_at;
  order = refl;
  within = within_at;
  backward = backward_at;
}
  where
    own_at : (a : ℕ) → a < 3
        → AllIn (in_stage three_stages.stage_of a) (three_stages.segment a)
    own_at zero less = (refl, tt)
    own_at (suc zero) less = (refl, (refl, tt))
    own_at (suc (suc zero)) less = (refl, tt)
    own_at (suc (suc (suc a))) less = absurd (omega arith)

    within_at : (node : ℕ) → three_stages.stage_of node < 3
    within_at zero = omega arith
    within_at (suc zero) = omega arith
    within_at (suc (suc zero)) = omega arith
    within_at (suc (suc (suc zero))) = omega arith
    within_at (suc (suc (suc (suc node)))) = omega arith

    backward_at : (node port : ℕ) → IsFromUpTo three_stages.stage_of (three_stages.stage_of node)
        (three_stages.source node port).origin
    backward_at zero zero = tt
    backward_at zero (suc port) = tt
    backward_at (suc zero) zero = omega arith
    backward_at (suc zero) (suc port) = tt
    backward_at (suc (suc zero)) zero = omega arith
    backward_at (suc (suc zero)) (suc port) = tt
    backward_at (suc (suc (suc zero))) zero = omega arith
    backward_at (suc (suc (suc zero))) (suc port) = tt
    backward_at (suc (suc (suc (suc node)))) zero = tt
    backward_at (suc (suc (suc (suc node)))) (suc port) = tt

rewiring : IsRewiring example (flat three_stages.stream) three_stages.source three_stages.carries
unfolding all_definitions
rewiring = record {
  same = same_at;
  idle = idle_at;
}
  where
    same_at : (node port : ℕ) → eqb port 0 ≡ true
        → (flat pipeline).source node port ≡ three_stages.source node port
    same_at node zero e = refl
    same_at node (suc port) e =
        absurd (let f : suc port ≡ 0 = eqb-true (suc port) 0 e in omega arith)

    idle_at : (node port : ℕ) → port < inputs ((flat pipeline).code node) → eqb port 0 ≡ false
        → IsIdle example ((flat pipeline).code node) port
    idle_at node zero less e = absurd (grind arith)
    idle_at zero (suc port) less e = absurd (omega arith)
    idle_at (suc zero) (suc port) less e = absurd (omega arith)
    idle_at (suc (suc zero)) (suc port) less e = absurd (omega arith)
    idle_at (suc (suc (suc zero))) (suc port) less e = absurd (omega arith)
    idle_at (suc (suc (suc (suc node)))) (suc port) less e = absurd (omega arith)

meets : IsStagedStream three_stages
unfolding all_definitions
meets = record {
  keeps = λ node. block_keeps ((flat three_stages.stream).code node);
  takes_within = within;
  schedule = schedule_from_test example (flat pipeline) [] (1 ∷ 0 ∷ 0 ∷ 0 ∷ [])
      (1 ∷ 1 ∷ 1 ∷ 1 ∷ []) (0 ∷ []) (0 ∷ 1 ∷ 2 ∷ 3 ∷ []) 3 refl;
  rewiring = rewiring;
  cut = staged;
}

pub three_stages_row : ThreeStagesRow
unfolding all_definitions added holds fronts moved fifo_after fifo_if fifo_fire fifo_then fifo_go
    fifo_at_first in_stage empty_parcel quiet entered sent_blocks sent_words sent step parcel_at
    stages_after collected staged_rounds staged_startup staged_run collects shown_by gives
    empty_parcels all_given
three_stages_row = record {
  meets = meets;
  run = refl;
  chain = (_, refl, all_chain (staging_of three_stages) _ 3 (omega arith), refl);
}
