-- Each tape is in one half.
use Rattle.std.proofs.Common.{◌≡◌, ◌∙◌, ℕ, ◌+◌, ◌==◌, Bool, true, false, cond, List, [], ◌∷◌, map}
use Rattle.std.proofs.Common.{refl, sym, ap}
use Rattle.std.specs.Prelude.{if◌then◌else◌}
use Rattle.std.proofs.lemmas.Bool.{eqb-true, true≢false}
use Rattle.strc_work_meaning.specs.declared.word.Word.{Word}
use Rattle.strc_sched_outcome.specs.declared.outcome.Tape.{Tape}
use Rattle.strc_cli_tapes.specs.Parted.{is_given, staying_from, words_of}

-- two nodes of which one is given and the other isn't are two
apart : (given : List ℕ) (one other : ℕ) → is_given given one ≡ true
    → is_given given other ≡ false → one ≡ other → ⊥
apart given one other first second same =
    true≢false (sym first ∙ (ap (is_given given) same ∙ second))

-- the words of a node that comes first, or later
here : (one other : ℕ) (words rest : List Word) → (one ≡ other → ⊥)
    → (if one == other then words else rest) ≡ rest
here one other words rest differ = go (one == other) refl
  where
    go : (b : Bool) → (one == other) ≡ b → cond b words rest ≡ rest
    go true is = absurd (differ (eqb-true one other is))
    go false is = refl

pub parted_from : (given : List ℕ) (number : ℕ) (tapes : List Tape) (node : ℕ)
    → words_of (map (λ p. p.1) (staying_from given number tapes)) node
    ≡ (if is_given given node then [] else words_of tapes node)
parted_from given number [] node = go (is_given given node)
  where
    go : (b : Bool) → [] ≡ cond b [] (words_of [] node)
    go true = refl
    go false = refl
parted_from given number (tape ∷ tapes) node = go (is_given given tape.node) refl
    (is_given given node) refl (parted_from given (number + 1) tapes node)
  where
    go : (first : Bool) → is_given given tape.node ≡ first → (asked : Bool)
        → is_given given node ≡ asked
        → words_of (map (λ p. p.1) (staying_from given (number + 1) tapes)) node
        ≡ cond (is_given given node) [] (words_of tapes node)
        → words_of (map (λ p. p.1) (cond first (staying_from given (number + 1) tapes)
        ((number, tape) ∷ staying_from given (number + 1) tapes))) node
        ≡ cond asked [] (words_of (tape ∷ tapes) node)
    go true first true asked rest = rest ∙ ap (λ b. cond b [] (words_of tapes node)) asked
    go true first false asked rest =
        rest ∙ (ap (λ b. cond b [] (words_of tapes node)) asked
        ∙ sym (here tape.node node tape.words.items (words_of tapes node)
        (apart given tape.node node first asked)))
    go false first true asked rest =
        here tape.node node tape.words.items _
        (λ same. apart given node tape.node asked first (sym same))
        ∙ (rest ∙ ap (λ b. cond b [] (words_of tapes node)) asked)
    go false first false asked rest =
        ap (λ words. if tape.node == node then tape.words.items else words)
        (rest ∙ ap (λ b. cond b [] (words_of tapes node)) asked)
