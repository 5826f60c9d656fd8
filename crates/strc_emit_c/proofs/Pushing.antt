-- Text that is added piece by piece.
use Rattle.std.proofs.Common.{◌≡◌, ◌∙◌, ◌+◌, ap, ℕ, suc, List, ◌++◌, Result, Ok, Err}
use Rattle.std.proofs.Common.{append_assoc, codes, sym}
use Rattle.std.specs.Prelude.{OnOk}
use Rattle.strc_emit_c.specs.declared.function.Function.{Function}
use Rattle.strc_emit_c.specs.Spelling.{indent, slot_text, assign_head, more_arguments}

-- two pieces are added as one
pub both : (before between after piece rest : List ℕ) → between ≡ before ++ piece
    → after ≡ between ++ rest → after ≡ before ++ (piece ++ rest)
both before between after piece rest first later =
    later ∙ ap (λ (l : List ℕ). l ++ rest) first ∙ append_assoc before piece rest

pub last : {E : Type 0} (result : Result (Unit {0}) E) (before between after piece rest : List ℕ)
    → between ≡ before ++ piece → OnOk result (after ≡ between ++ rest)
    → OnOk result (after ≡ before ++ (piece ++ rest))
last (Ok done) before between after piece rest first later =
    both before between after piece rest first later
last (Err error) before between after piece rest first later = tt

-- a piece is another one
pub same_piece : {E : Type 0} (result : Result (Unit {0}) E) (before after piece other : List ℕ)
    → OnOk result (after ≡ before ++ piece) → piece ≡ other → OnOk result (after ≡ before ++ other)
same_piece (Ok done) before after piece other added same =
    added ∙ ap (λ (l : List ℕ). before ++ l) same
same_piece (Err error) before after piece other added same = tt

-- three pieces
pub last_of_three : {E : Type 0} (result : Result (Unit {0}) E)
    (start one two three a b c : List ℕ) → one ≡ start ++ a → two ≡ one ++ b
    → OnOk result (three ≡ two ++ c) → OnOk result (three ≡ start ++ ((a ++ b) ++ c))
last_of_three result start one two three a b c first second third =
    last result start two three (a ++ b) c (both start one two a b first second) third

-- four
pub last_of_four : {E : Type 0} (result : Result (Unit {0}) E)
    (start one two three four a b c d : List ℕ) → one ≡ start ++ a → two ≡ one ++ b
    → three ≡ two ++ c → OnOk result (four ≡ three ++ d)
    → OnOk result (four ≡ start ++ (((a ++ b) ++ c) ++ d))
last_of_four result start one two three four a b c d first second third fourth =
    last result start three four ((a ++ b) ++ c) d
    (both start two three (a ++ b) c (both start one two a b first second) third) fourth

-- an assignment with its beginning apart
pub assigned : (function : Function) (depth into : ℕ) (value : List ℕ)
    → (assign_head function depth into ++ value) ++ codes ";\n"
    ≡ indent depth ++ (((slot_text function into ++ codes " = ") ++ value) ++ codes ";\n")
assigned function depth into value =
    let slot = slot_text function into in
    ap (λ (l : List ℕ). (l ++ value) ++ codes ";\n")
    (append_assoc (indent depth) slot (codes " = "))
    ∙ ap (λ (l : List ℕ). l ++ codes ";\n")
    (append_assoc (indent depth) (slot ++ codes " = ") value)
    ∙ append_assoc (indent depth) ((slot ++ codes " = ") ++ value) (codes ";\n")

-- a piece of the whole is written, and the rest is left
pub piece_more : (text piece later rest all whole : List ℕ) → later ≡ text ++ piece
    → all ≡ piece ++ rest → text ++ all ≡ whole → later ++ rest ≡ whole
piece_more text piece later rest all whole written first before =
    ap (λ (l : List ℕ). l ++ rest) written ∙ append_assoc text piece rest
    ∙ ap (λ (l : List ℕ). text ++ l) (sym first) ∙ before

-- the first argument that is left
pub one_argument_more : (function : Function) (last next left rest : ℕ) → next ≡ last + 1
    → left ≡ suc rest → more_arguments function last left
    ≡ (codes ", " ++ slot_text function next) ++ more_arguments function next rest
one_argument_more function last next left rest is some =
    ap (more_arguments function last) some
    ∙ ap (λ slot. (codes ", " ++ slot_text function slot) ++ more_arguments function slot rest)
    (sym is)
