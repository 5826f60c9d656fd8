-- Sentences, piece by piece.
use Rattle.std.proofs.Common.{◌≡◌, ◌∙◌, ap, refl, sym, ℕ, ◌-◌, ◌==◌, List, ◌++◌, Option}
use Rattle.std.proofs.Common.{Bool, true, false, ℤ, pos, negsuc, arith}
use Rattle.std.proofs.lemmas.Bool.Decides.{nat_tests}
use Rattle.std.proofs.lemmas.Int.{ints}
use Rattle.std.specs.Prelude.{codes, decimal, if◌then◌else◌, int_lt}
use Rattle.std.specs.Fmt.{signed_decimal}
use Rattle.strc_sched_outcome.specs.declared.outcome.Round.{Round}
use Rattle.strc_sched_outcome.specs.declared.outcome.Round.TheVariants as round
use Rattle.strc_work_meaning.specs.declared.fault.Cause.{Cause}
use Rattle.strc_work_meaning.specs.declared.fault.Trapped.{Trapped}
use Rattle.strc_elab_graph.specs.declared.graph.Node.{Node}
use Rattle.strc_cli_diagnostics.proofs.Messages.{more_in_two}
use Rattle.strc_cli_diagnostics.specs.Messages.{MessageView, new_message, with_more}
use Rattle.strc_cli_source.specs.NodeWords.{Adds, node_words}
use Rattle.strc_cli_messages.specs.Sentences.{AreCauseWords, IsFaultSentence, before_words}
use Rattle.strc_cli_messages.specs.Sentences.{beyond_words, cause_words, found_index_words}
use Rattle.strc_cli_messages.specs.Sentences.{index_words, look_words, past_words, round_words}

-- two pieces are one, and three
pub in_two : (old one new : MessageView) (a b : List ℕ) → one ≡ with_more old a
    → new ≡ with_more one b → new ≡ with_more old (a ++ b)
in_two old one new a b first second = more_in_two old one new a b first second

pub in_three : (old one two new : MessageView) (a b c : List ℕ)
    → one ≡ with_more old a → two ≡ with_more one b → new ≡ with_more two c
    → new ≡ with_more old (a ++ b ++ c)
in_three old one two new a b c first second third =
    more_in_two old two new (a ++ b) c (more_in_two old one two a b first second) third

-- four are one, and five
pub in_four : (old one two three new : MessageView) (a b c d : List ℕ)
    → one ≡ with_more old a → two ≡ with_more one b → three ≡ with_more two c
    → new ≡ with_more three d → new ≡ with_more old (a ++ b ++ c ++ d)
in_four old one two three new a b c d first second third fourth =
    more_in_two old three new (a ++ b ++ c) d
    (in_three old one two three a b c first second third) fourth

pub in_five : (old one two three four new : MessageView) (a b c d e : List ℕ)
    → one ≡ with_more old a → two ≡ with_more one b → three ≡ with_more two c
    → four ≡ with_more three d → new ≡ with_more four e
    → new ≡ with_more old (a ++ b ++ c ++ d ++ e)
in_five old one two three four new a b c d e first second third fourth fifth =
    more_in_two old four new (a ++ b ++ c ++ d) e
    (in_four old one two three four a b c d first second third fourth) fifth

-- where there are some, their number isn't 0
pub counted : (count : ℕ) → (count ≡ 0 → ⊥) → (count == 0) ≡ false
counted count some = grind (arith, nat_tests)

-- which index was used
pub index_said : (trapped : Trapped) (index : ℤ) (count : ℕ)
    (old one two three new : MessageView) → (trapped.count ≡ 0 → ⊥) → index ≡ trapped.index
    → count ≡ trapped.count → one ≡ with_more old (codes " uses index ")
    → two ≡ with_more one (signed_decimal index)
    → three ≡ with_more two (codes " of an array of ") → new ≡ with_more three (decimal count)
    → new ≡ with_more old (index_words trapped)
index_said trapped index count old one two three new some this same first second third fourth =
    in_four old one two three new (codes " uses index ") (signed_decimal trapped.index)
    (codes " of an array of ") (decimal trapped.count) first
    (second ∙ ap (λ (z : ℤ). with_more one (signed_decimal z)) this) third
    (fourth ∙ ap (λ (n : ℕ). with_more three (decimal n)) same)
    ∙ ap (λ (none : Bool). with_more old (if none then codes " uses an index outside of its array"
    else found_index_words trapped)) (sym (counted trapped.count some))

-- which item was looked at: one that is past the window, and one before it
past_window : (place : ℤ) (last : ℕ) → int_lt place (pos 0) ≡ false
    → past_words place last ≡ beyond_words place last
past_window (pos place) last ahead = refl
past_window (negsuc place) last ahead = absurd (grind (arith, ints))

before_window : (place : ℤ) (last : ℕ) → int_lt place (pos 0) ≡ true
    → before_words place ≡ beyond_words place last
before_window (pos place) last behind = absurd (grind (arith, ints))
before_window (negsuc place) last behind = refl

looked : (trapped : Trapped) → (trapped.count ≡ 0 → ⊥)
    → beyond_words trapped.index (trapped.count - 1) ≡ look_words trapped
looked trapped some =
    ap (λ (none : Bool). if none then codes " looks at an item outside of its window"
    else beyond_words trapped.index (trapped.count - 1)) (sym (counted trapped.count some))

pub look_before_said : (trapped : Trapped) (index : ℤ) (old one two new : MessageView)
    → (trapped.count ≡ 0 → ⊥) → index ≡ trapped.index → int_lt index (pos 0) ≡ true
    → one ≡ with_more old (codes " looks at peek(") → two ≡ with_more one (signed_decimal index)
    → new ≡ with_more two (codes "), before its window,")
    → new ≡ with_more old (look_words trapped)
look_before_said trapped index old one two new some this behind first second third =
    in_three old one two new (codes " looks at peek(") (signed_decimal index)
    (codes "), before its window,") first second third
    ∙ ap (with_more old) (before_window index (trapped.count - 1) behind
    ∙ ap (λ (z : ℤ). beyond_words z (trapped.count - 1)) this ∙ looked trapped some)

pub look_past_said : (trapped : Trapped) (index : ℤ) (last : ℕ)
    (old one two three four new : MessageView) → (trapped.count ≡ 0 → ⊥)
    → index ≡ trapped.index → int_lt index (pos 0) ≡ false → last ≡ trapped.count - 1
    → one ≡ with_more old (codes " looks at peek(") → two ≡ with_more one (signed_decimal index)
    → three ≡ with_more two (codes "), past peek(") → four ≡ with_more three (decimal last)
    → new ≡ with_more four (codes "), the last of its window,")
    → new ≡ with_more old (look_words trapped)
look_past_said trapped index last old one two three four new some this ahead same first second
    third fourth fifth =
    in_five old one two three four new (codes " looks at peek(") (signed_decimal index)
    (codes "), past peek(") (decimal (trapped.count - 1)) (codes "), the last of its window,")
    first second third (fourth ∙ ap (λ (n : ℕ). with_more three (decimal n)) same) fifth
    ∙ ap (with_more old) (past_window index (trapped.count - 1) ahead
    ∙ ap (λ (z : ℤ). beyond_words z (trapped.count - 1)) this ∙ looked trapped some)

-- in which round it was
pub round_said : (when : Round) (number seen : ℕ) (old one two new : MessageView)
    → when ≡ round.At number → seen ≡ number → one ≡ with_more old (codes ", in round ")
    → two ≡ with_more one (decimal seen) → new ≡ with_more two (codes " (both count from 0)")
    → new ≡ with_more old (round_words when)
round_said when number seen old one two new is same first second third =
    in_three old one two new (codes ", in round ") (decimal number) (codes " (both count from 0)")
    first (second ∙ ap (λ (n : ℕ). with_more one (decimal n)) same) third
    ∙ ap (λ (at : Round). with_more old (round_words at)) (sym is)

-- what a firing did, with what is known of what trapped
pub caused : (faulted seen : Cause) (trapped : Trapped) (old new : MessageView) → seen ≡ faulted
    → new ≡ with_more old (cause_words seen trapped) → Adds (AreCauseWords faulted) old new
caused faulted seen trapped old new same is = record {
  words = cause_words seen trapped;
  are_so = (trapped, ap (λ (c : Cause). cause_words c trapped) same);
  goes_on = is;
}

-- the whole sentence of a fault
pub fault_said : (nodes : List Node) (path : Option (List ℕ)) (node firing : ℕ) (when : Round)
    (faulted : Cause) (old one two three four new : MessageView) → old ≡ new_message
    → one ≡ with_more old (node_words nodes path node) → Adds (AreCauseWords faulted) one two
    → three ≡ with_more two (codes " in its firing ") → four ≡ with_more three (decimal firing)
    → new ≡ with_more four (round_words when)
    → IsFaultSentence nodes path node firing when faulted new.sentence
fault_said nodes path node firing when faulted old one two three four new empty first second third
    fourth fifth =
    let (trapped, are) = second.are_so in
    let before = codes " in its firing " in
    let told : new ≡ with_more new_message (node_words nodes path node
    ++ cause_words faulted trapped ++ before ++ decimal firing ++ round_words when) =
    in_five new_message one two three four new (node_words nodes path node)
    (cause_words faulted trapped) before (decimal firing) (round_words when)
    (first ∙ ap (λ (m : MessageView). with_more m (node_words nodes path node)) empty)
    (second.goes_on ∙ ap (with_more one) are) third fourth fifth in
    record { trapped = trapped; whole = ap (λ (m : MessageView). m.sentence) told }
