-- A text that grows piece by piece.
use Rattle.std.proofs.Common.{◌≡◌, ◌∙◌, ◌++◌, ℕ, List, Result, Ok, Err, OnOk, ap, sym, append_assoc}

-- one more piece
more : (text before after a b : List ℕ) → before ≡ text ++ a → after ≡ before ++ b
    → after ≡ text ++ (a ++ b)
more text before after a b first second =
    second ∙ ap (λ (l : List ℕ). l ++ b) first ∙ append_assoc text a b

last_more : {T E : Type 0} (r : Result T E) (text before after a b : List ℕ) → before ≡ text ++ a
    → OnOk r (after ≡ before ++ b) → OnOk r (after ≡ text ++ (a ++ b))
last_more (Ok x) text before after a b first second = more text before after a b first second
last_more (Err e) text before after a b first second = second

-- four pieces, the last of which was added if all went well
pub four_more : {T E : Type 0} (r : Result T E) (text one two three four a b c d : List ℕ)
    → one ≡ text ++ a → two ≡ one ++ b → three ≡ two ++ c → OnOk r (four ≡ three ++ d)
    → OnOk r (four ≡ text ++ (((a ++ b) ++ c) ++ d))
four_more r text one two three four a b c d first second third last =
    last_more r text three four ((a ++ b) ++ c) d
    (more text two three (a ++ b) c (more text one two a b first second) third) last

-- five
pub five_more : {T E : Type 0} (r : Result T E)
    (text one two three four five a b c d e : List ℕ)
    → one ≡ text ++ a → two ≡ one ++ b → three ≡ two ++ c → four ≡ three ++ d
    → OnOk r (five ≡ four ++ e) → OnOk r (five ≡ text ++ ((((a ++ b) ++ c) ++ d) ++ e))
five_more r text one two three four five a b c d e first second third fourth last =
    last_more r text four five (((a ++ b) ++ c) ++ d) e
    (more text three four ((a ++ b) ++ c) d
    (more text two three (a ++ b) c (more text one two a b first second) third) fourth) last

-- a piece of the whole is written, and the rest is left
pub piece_more : (text piece later rest all whole : List ℕ) → later ≡ text ++ piece
    → all ≡ piece ++ rest → text ++ all ≡ whole → later ++ rest ≡ whole
piece_more text piece later rest all whole written first before =
    ap (λ (l : List ℕ). l ++ rest) written ∙ append_assoc text piece rest
    ∙ ap (λ (l : List ℕ). text ++ l) (sym first) ∙ before
