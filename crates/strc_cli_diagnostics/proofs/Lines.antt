-- The line of a byte, by the line feeds before it and after it.
use Rattle.std.proofs.Common.{◌≡◌, ◌∙◌, ap, sym, refl, ℕ, ◌-◌, ◌+◌, ◌<◌, ◌≤◌, Bool, true, false}
use Rattle.std.proofs.Common.{not, List, Some, None, arith, drop, length, reverse, take, get_or}
use Rattle.std.proofs.Math.Seq.{take-length}
use Rattle.std.specs.List.{prefix_len, take_while}
use Rattle.std.proofs.lemmas.List.{get_or-reverse, length-reverse, reverse-reverse}
use Rattle.std.proofs.lemmas.List.Sums.{prefix_len_is}
use Rattle.memchr.specs.Find.{IsFirstByte, IsLastByte, is_byte}
use Rattle.strc_lex_names.proofs.Scopes.{reverse-take_of}
use Rattle.strc_cli_diagnostics.specs.Places.{is_in_line, line_feed}

stays : (byte : ℕ) → (is_byte line_feed byte ≡ true → ⊥) → is_in_line byte ≡ true
stays byte never = other (is_byte line_feed byte) never
  where
    other : (ends : Bool) → (ends ≡ true → ⊥) → not ends ≡ true
    other false never = refl
    other true never = absurd (never refl)

-- up to the first line feed, and where there is none to the end
pub first_line : (text : List ℕ) (end : ℕ) → IsFirstByte (is_byte line_feed) text (Some end)
    → take end text ≡ take_while is_in_line text
first_line text end (none, at) =
    ap (λ n. take n text) (sym (prefix_len_is is_in_line text end 0
    (omega (arith, none.high))
    (λ k below. stays (get_or text k 0) (none.before k (omega arith) below))
    (λ within. ap not at)))

pub only_line_from : (text : List ℕ) → IsFirstByte (is_byte line_feed) text None
    → text ≡ take_while is_in_line text
only_line_from text none =
    sym (take-length text)
    ∙ ap (λ n. take n text) (sym (prefix_len_is is_in_line text (length text) 0
    (omega arith)
    (λ k below. stays (get_or text k 0) (none k (omega arith) below))
    (λ within. absurd (omega (arith, within)))))

-- so many bytes of a text's end are in its last line
last_bytes : (text : List ℕ) (count : ℕ) → count ≤ length text
    → prefix_len is_in_line (reverse text) ≡ count
    → drop (length text - count) text ≡ reverse (take_while is_in_line (reverse text))
last_bytes text count within is =
    sym (ap (λ n. reverse (take n (reverse text))) is
    ∙ reverse-take_of (reverse text) count
    ∙ ap (λ l. drop (length l - count) l) (reverse-reverse text))

-- the byte so far from the end
from_end : (text : List ℕ) (k : ℕ) → k < length text
    → (is_byte line_feed (get_or text (length text - 1 - k) 0) ≡ true → ⊥)
    → is_in_line (get_or (reverse text) k 0) ≡ true
from_end text k within never =
    ap is_in_line (get_or-reverse text k 0 within)
    ∙ stays (get_or text (length text - 1 - k) 0) never

-- after the last line feed, and where there is none from the start
pub last_line : (text : List ℕ) (last : ℕ) → IsLastByte (is_byte line_feed) text (Some last)
    → drop (last + 1) text ≡ reverse (take_while is_in_line (reverse text))
last_line text last (none, at) =
    let high = none.high in
    let count = length text - 1 - last in
    let reversed = length-reverse text in
    let back : length text - 1 - count ≡ last = omega (arith, high) in
    ap (λ n. drop n text) (omega (arith, high))
    ∙ last_bytes text count (omega (arith, high))
    (prefix_len_is is_in_line (reverse text) count 0 (omega (arith, reversed))
    (λ k below. from_end text k (omega (arith, high, below))
    (none.after (length text - 1 - k) (omega (arith, high, below)) (omega (arith, high, below))))
    (λ within. ap is_in_line (get_or-reverse text count 0 (omega (arith, high))
    ∙ ap (λ n. get_or text n 0) back) ∙ ap not at))

pub only_line_before : (text : List ℕ) → IsLastByte (is_byte line_feed) text None
    → text ≡ reverse (take_while is_in_line (reverse text))
only_line_before text none =
    let reversed = length-reverse text in
    let all : length text - length text ≡ 0 = omega arith in
    ap (λ n. drop n text) (sym all)
    ∙ last_bytes text (length text) (omega arith)
    (prefix_len_is is_in_line (reverse text) (length text) 0 (omega (arith, reversed))
    (λ k below. from_end text k below
    (none (length text - 1 - k) (omega arith) (omega (arith, below))))
    (λ within. absurd (omega (arith, reversed, within))))
