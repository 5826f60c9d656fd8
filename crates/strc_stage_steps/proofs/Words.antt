-- The words of a stage's tapes, one tape after another.
use Rattle.std.proofs.Common.{◌≡◌, refl, sym, ap, ◌∙◌, ℕ, zero, suc, ◌≤◌, ◌<◌, List, [], ◌∷◌, arith}
use Rattle.std.proofs.Common.{set}
use Rattle.std.proofs.lemmas.List.{get_or-set_other}
use Rattle.strc_work_meaning.specs.declared.word.Word.{Word}
use Rattle.strc_sched_laws.specs.Machine.{words_at}
use Rattle.strc_stage_core.specs.Parcels.{Load, with_words}
use Rattle.strc_stage_steps.specs.declared.crossing_items.TapeOf.{TapeOf}
use Rattle.strc_stage_steps.specs.Steps.{load_worded}
use Rattle.strc_stage_steps.specs.Tapes.{AreAfter}

set_twice : {A : Type 0} (xs : List A) (place : ℕ) (one other : A)
    → set (set xs place one) place other ≡ set xs place other
set_twice [] place one other = refl
set_twice (x ∷ xs) zero one other = refl
set_twice (x ∷ xs) (suc place) one other = ap (λ l. x ∷ l) (set_twice xs place one other)

-- The words of a tape that are taken out, and others that are put there.
pub words_twice : (load : Load) (tape : ℕ) (words : List Word)
    → with_words (with_words load tape []) tape words ≡ with_words load tape words
words_twice load tape words = ap (λ all. record {
  blocks = load.blocks;
  rooms = load.rooms;
  words = all;
}) (set_twice load.words tape [] words)

pub after_less : (low high : ℕ) (tapes : List TapeOf) → low ≤ high → AreAfter high tapes
    → AreAfter low tapes
after_less low high [] less after = tt
after_less low high (own ∷ others) less (here, after) = (omega (arith, less, here), after)

-- Words of earlier nodes make no difference.
pub worded_alike : (node : ℕ) (tapes : List TapeOf) (words : List (List Word)) (load : Load)
    → AreAfter (suc node) tapes
    → load_worded tapes (set words node []) load ≡ load_worded tapes words load
worded_alike node [] words load after = refl
worded_alike node (own ∷ others) words load (here, after) =
    worded_alike node others words
    (with_words load own.tape (words_at (set words node []) own.node))
    (after_less (suc node) (suc own.node) others (omega (arith, here)) after)
    ∙ ap (λ w. load_worded others words (with_words load own.tape w))
    (get_or-set_other words node own.node [] []
    (λ same. absurd (omega (arith, here, same))))
