-- Text that is added piece by piece.
use Rattle.std.proofs.Common.{◌≡◌, ◌∙◌, ◌+◌, ap, sym, ℕ, suc, List, ◌++◌, append_assoc}
use Rattle.std.proofs.Common.{arith, Result, Ok, Err}
use Rattle.std.specs.Prelude.{OnOk}
use Rattle.strc_emit_text.specs.Texts.{texts_below}

-- the texts of the numbers below one, and of that one
pub one_more_below : (text : ℕ → List ℕ) (number : ℕ) (begun before after : List ℕ)
    → before ≡ begun ++ texts_below text number → after ≡ before ++ text number
    → after ≡ begun ++ texts_below text (number + 1)
one_more_below text number begun before after first later =
    let next : suc number ≡ number + 1 = omega arith in
    later ∙ ap (λ (l : List ℕ). l ++ text number) first
    ∙ append_assoc begun (texts_below text number) (text number)
    ∙ ap (λ n. begun ++ texts_below text n) next

-- a piece of the whole is written, and the rest is left
pub piece_more : (text piece later rest all whole : List ℕ) → later ≡ text ++ piece
    → all ≡ piece ++ rest → text ++ all ≡ whole → later ++ rest ≡ whole
piece_more text piece later rest all whole written first before =
    ap (λ (l : List ℕ). l ++ rest) written ∙ append_assoc text piece rest
    ∙ ap (λ (l : List ℕ). text ++ l) (sym first) ∙ before

-- two pieces are added as one
pub both : (before between after piece rest : List ℕ) → between ≡ before ++ piece
    → after ≡ between ++ rest → after ≡ before ++ (piece ++ rest)
both before between after piece rest first later =
    later ∙ ap (λ (l : List ℕ). l ++ rest) first ∙ append_assoc before piece rest

pub last : {E : Type 0} (result : Result (Unit {0}) E) (before between after piece rest : List ℕ)
    → between ≡ before ++ piece → OnOk result (after ≡ between ++ rest)
    → OnOk result (after ≡ before ++ (piece ++ rest))
last (Ok done) before between after piece rest first later =
    both before between after piece rest first later
last (Err error) before between after piece rest first later = tt

-- a piece is another one
pub same_piece : {E : Type 0} (result : Result (Unit {0}) E) (before after piece other : List ℕ)
    → OnOk result (after ≡ before ++ piece) → piece ≡ other → OnOk result (after ≡ before ++ other)
same_piece (Ok done) before after piece other added same =
    added ∙ ap (λ (l : List ℕ). before ++ l) same
same_piece (Err error) before after piece other added same = tt

pub same_added : (before after piece other : List ℕ) → after ≡ before ++ piece → piece ≡ other
    → after ≡ before ++ other
same_added before after piece other added same = added ∙ ap (λ (l : List ℕ). before ++ l) same

-- pieces from the last one on are those from the first one on
pub group_2 : (l a b : List ℕ) → l ++ (a ++ b) ≡ (l ++ a) ++ b
group_2 l a b = sym (append_assoc l a b)

pub group_3 : (l a b c : List ℕ)
    → l ++ (a ++ (b ++ c))
    ≡ ((l ++ a) ++ b) ++ c
group_3 l a b c =
    group_2 l a (b ++ c)
    ∙ group_2 (l ++ a) b c

pub group_4 : (l a b c d : List ℕ)
    → l ++ (a ++ (b ++ (c ++ d)))
    ≡ (((l ++ a) ++ b) ++ c) ++ d
group_4 l a b c d =
    group_2 l a (b ++ (c ++ d))
    ∙ group_3 (l ++ a) b c d

pub group_5 : (l a b c d e : List ℕ)
    → l ++ (a ++ (b ++ (c ++ (d ++ e))))
    ≡ ((((l ++ a) ++ b) ++ c) ++ d) ++ e
group_5 l a b c d e =
    group_2 l a (b ++ (c ++ (d ++ e)))
    ∙ group_4 (l ++ a) b c d e

pub group_6 : (l a b c d e f : List ℕ)
    → l ++ (a ++ (b ++ (c ++ (d ++ (e ++ f)))))
    ≡ (((((l ++ a) ++ b) ++ c) ++ d) ++ e) ++ f
group_6 l a b c d e f =
    group_2 l a (b ++ (c ++ (d ++ (e ++ f))))
    ∙ group_5 (l ++ a) b c d e f

pub group_7 : (l a b c d e f g : List ℕ)
    → l ++ (a ++ (b ++ (c ++ (d ++ (e ++ (f ++ g))))))
    ≡ ((((((l ++ a) ++ b) ++ c) ++ d) ++ e) ++ f) ++ g
group_7 l a b c d e f g =
    group_2 l a (b ++ (c ++ (d ++ (e ++ (f ++ g)))))
    ∙ group_6 (l ++ a) b c d e f g

pub group_8 : (l a b c d e f g h : List ℕ)
    → l ++ (a ++ (b ++ (c ++ (d ++ (e ++ (f ++ (g ++ h)))))))
    ≡ (((((((l ++ a) ++ b) ++ c) ++ d) ++ e) ++ f) ++ g) ++ h
group_8 l a b c d e f g h =
    group_2 l a (b ++ (c ++ (d ++ (e ++ (f ++ (g ++ h))))))
    ∙ group_7 (l ++ a) b c d e f g h
