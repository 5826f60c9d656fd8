-- Bytes that are written one after another, and words.
use Rattle.std.proofs.Common.{◌≡◌, ◌∙◌, ℕ, suc, ◌+◌, ◌-◌, ◌<◌, Bool, List, [], ◌∷◌, ◌++◌, length}
use Rattle.std.proofs.Common.{Ok, Err, refl, sym, ap, subst, append_assoc, append-nil, slice_get}
use Rattle.std.proofs.Common.{length-append, arith}
use Rattle.std.proofs.KnownBytes.{Appends-kept, Appends-nil, Appends-trans}
use Rattle.strc_work_meaning.specs.declared.word.Word.{Word}
use Rattle.strc_cli_output.specs.Output.{is_open, leaves_open, word_text, words_text}
use Rattle.strc_cli.specs.Executes.{Device, FailedIn, Wrote, WroteNothing}
use Rattle.strc_cli.specs.declared.execute.CliError.{CliError}
use Rattle.strc_live.specs.Rounds.{WritesWords}

-- ---- bytes

pub wrote_none : (device : Device) → Wrote [] device device
wrote_none device = record { taken = Appends-nil device.taken; steady = refl }

-- one piece after another
pub wrote_both : (one other : List ℕ) (before between after : Device) → Wrote one before between
    → Wrote other between after → Wrote (one ++ other) before after
wrote_both one other before between after first later = record {
  taken = Appends-trans before.taken between.taken after.taken one other first.taken later.taken;
  steady = later.steady ∙ first.steady;
}

pub wrote_kept : (bytes : List ℕ) (before between after : Device) → Wrote bytes before between
    → WroteNothing between after → Wrote bytes before after
wrote_kept bytes before between after first later = record {
  taken = Appends-kept before.taken between.taken after.taken bytes first.taken later.taken;
  steady = later.steady ∙ first.steady;
}

-- after nothing
pub wrote_later : (bytes : List ℕ) (before between after : Device) → WroteNothing before between
    → Wrote bytes between after → Wrote bytes before after
wrote_later bytes before between after nothing later =
    wrote_both [] bytes before between after
    (wrote_kept [] before before between (wrote_none before) nothing) later

-- the device failed in the second
pub failed_later : (one other : List ℕ) (before between after : Device) → Wrote one before between
    → FailedIn other between after → FailedIn (one ++ other) before after
failed_later one other before between after first later = record {
  beginning = one ++ later.beginning;
  rest = later.rest;
  is = ap (λ l. one ++ l) later.is ∙ sym (append_assoc one later.beginning later.rest);
  taken = Appends-trans before.taken between.taken after.taken one later.beginning first.taken
      later.taken;
  failed = later.failed;
}

-- or in the first
pub failed_before : (one other : List ℕ) (before after : Device) → FailedIn one before after
    → FailedIn (one ++ other) before after
failed_before one other before after first = record {
  beginning = first.beginning;
  rest = first.rest ++ other;
  is = ap (λ l. l ++ other) first.is ∙ append_assoc first.beginning first.rest other;
  taken = first.taken;
  failed = first.failed;
}

-- ---- words

pub words_text_both : (past words : List Word)
    → words_text (past ++ words) ≡ words_text past ++ words_text words
words_text_both [] words = refl
words_text_both (word ∷ past) words =
    ap (λ l. word_text word ++ l) (words_text_both past words)
    ∙ sym (append_assoc (word_text word) (words_text past) (words_text words))

-- the last word of some tells whether the line is open
last_word_of : (word : Word) (words : List Word) → 0 < length words
    → slice_get (word ∷ words) (length (word ∷ words) - 1)
    ≡ slice_get words (length words - 1)
last_word_of word [] some = absurd (omega (arith, some))
last_word_of word (next ∷ words) some =
    let here : length (word ∷ next ∷ words) - 1 ≡ suc (length words) = omega arith in
    let there : length (next ∷ words) - 1 ≡ length words = omega arith in
    ap (slice_get (word ∷ next ∷ words)) here ∙ ap (slice_get (next ∷ words)) (sym there)

pub opens_after : (past words : List Word) → 0 < length words
    → leaves_open (past ++ words) ≡ leaves_open words
opens_after [] words some = refl
opens_after (word ∷ past) words some =
    let many = length-append past words in
    ap is_open (last_word_of word (past ++ words) (omega (arith, many, some)))
    ∙ opens_after past words some

pub opens_as_before : (past words : List Word) → length words ≡ 0
    → leaves_open (past ++ words) ≡ leaves_open past
opens_as_before past [] none = ap leaves_open (append-nil past)
opens_as_before past (word ∷ words) none = absurd (omega (arith, none))

pub same_written : (given words : List Word) (is_written other : Bool) (opens now : Bool)
    (before after : Device) → given ≡ words → is_written ≡ other
    → WritesWords given (Ok is_written) opens now before after
    → WritesWords words (Ok other) opens now before after
same_written given words is_written other opens now before after same is writes =
    subst (λ (b : Bool). WritesWords words (Ok b) opens now before after) is
    (subst (λ (l : List Word). WritesWords l (Ok is_written) opens now before after) same writes)

pub same_unwritten : (given words : List Word) (failure : CliError) (opens now : Bool)
    (before after : Device) → given ≡ words
    → WritesWords given (Err failure) opens now before after
    → WritesWords words (Err failure) opens now before after
same_unwritten given words failure opens now before after same =
    subst (λ (l : List Word). WritesWords l (Err failure) opens now before after) same
