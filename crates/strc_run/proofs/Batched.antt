-- By which batches the rounds go that one worker runs.
use Rattle.std.proofs.Common.{◌≡◌, ◌∙◌, ◌/◌, ◌⊎◌, ℕ, zero, suc, Result, Ok, Err, IfOk, ap, sym}
use Rattle.std.proofs.Common.{refl, inl, inr, arith, div-one, ◌==◌, ◌<◌, Bool, true, false, subst}
use Rattle.std.specs.Prelude.{if◌then◌else◌, nat_le, ◌&&◌}
use Rattle.std.proofs.lemmas.Bool.{lt-leb, ne_eqb, true≢false}
use Rattle.strc_stage_plan.specs.Plans.{PlanParts}
use Rattle.strc_sched_outcome.specs.declared.run_refusal.RunRefusal.{RunRefusal}
use Rattle.strc_run.specs.Batches.{AreBatches, IsBatched, has_batch, least_rounds, shared_batch}
use Rattle.strc_run.specs.Batches.{wanted_batch}
use Rattle.strc_run.specs.declared.sharing.Batches.{Batches}
use Rattle.strc_run.specs.declared.sharing.SharedRun.{SharedRun}
use Rattle.strc_run.specs.declared.sharing.Sharing.{Sharing}

-- where one worker runs all rounds, a batch is to have as many as suit that
alone_shared : (plan : PlanParts) (sharing : Sharing) (count : ℕ) → sharing.workers ≡ 1
    → shared_batch plan sharing count ≡ wanted_batch plan sharing.batching count 1
alone_shared plan sharing count one =
    ap (λ n. wanted_batch plan sharing.batching (count / n) (least_rounds plan n)) one
    ∙ ap (λ n. wanted_batch plan sharing.batching n 1) (div-one count)

and_false : (is : Bool) → is && false ≡ false
and_false true = refl
and_false false = refl

-- no rounds have a batch
has_none : (wanted : ℕ) → has_batch wanted 0 ≡ false
has_none zero = refl
has_none (suc wanted) =
    ap (λ b. nat_le 1 (suc wanted) && b) (lt-leb (suc wanted) 0 (omega arith))
    ∙ and_false (nat_le 1 (suc wanted))

-- and it is one whatever a batch is to have
none_batched : (wanted other count : ℕ) (batches : Batches) → count ≡ 0
    → IsBatched wanted count batches → IsBatched other count batches
none_batched wanted other count batches none is =
    let lacks = λ (some : ℕ). ap (has_batch some) none ∙ has_none some in
    record {
      rounds = is.rounds;
      each = is.each ∙ ap (λ has. if has then wanted else 1) (lacks wanted)
          ∙ sym (ap (λ has. if has then other else 1) (lacks other));
      before = is.before;
      alone = λ _. is.alone (lacks wanted);
    }

pub alone_batches : (plan : PlanParts) (sharing : Sharing) (count : ℕ)
    (result : Result SharedRun RunRefusal) → (sharing.workers ≡ 1) ⊎ (count ≡ 0)
    → IfOk result (λ run. IsBatched (wanted_batch plan sharing.batching count 1) count run.batches)
    → IfOk result (λ run. AreBatches plan sharing count run.batches)
alone_batches plan sharing count (Ok run) (inl one) is =
    subst (λ wanted. IsBatched wanted count run.batches)
    (sym (alone_shared plan sharing count one)) is
alone_batches plan sharing count (Ok run) (inr none) is =
    none_batched (wanted_batch plan sharing.batching count 1) (shared_batch plan sharing count)
    count run.batches none is
alone_batches plan sharing count (Err refusal) alone is = is

-- what has nothing is of no length
pub empty_has_none : (count : ℕ) (is : Bool) → is ≡ true → is ≡ (count == 0) → 0 < count → ⊥
empty_has_none count is so same some =
    true≢false (sym so ∙ same ∙ ne_eqb _ _ (λ e. omega (arith, e, some)))
