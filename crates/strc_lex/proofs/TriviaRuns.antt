-- A run of trivia is one: from one place it can end at one place alone, where no trivia of a run of
-- trivia begins.
use Rattle.std.proofs.Common.{◌≡◌, ℕ, zero, suc, ◌+◌, ◌<◌, ◌≤◌, true, List, [], ◌∷◌, ◌++◌, length}
use Rattle.std.proofs.Common.{take, drop, refl, ap, arith, ◌∙◌, sym, subst, inl, inr, codes}
use Rattle.std.proofs.Common.{length-drop, nat_eq, Option, Some, None, IfSome, IfNone, false}
use Rattle.std.proofs.Common.{slice_get}
use Rattle.std.specs.List.{starts_with}
use Rattle.std.proofs.lemmas.Bool.{both_ways}
use Rattle.std.proofs.lemmas.List.{length-take}
use Rattle.strc_lex.specs.Characters.{is_white}
use Rattle.strc_lex.specs.Trivia.{Reads, IsLineComment, IsBlockComment, IsComment, IsBlank}
use Rattle.strc_lex.specs.Trivia.{IsTrivia, AreTrivia, IsTriviaRun}
use Rattle.strc_lex.proofs.Finding.{pointwise-same}

-- the bytes that a text goes on with are within it
pub reads_within : (text : List ℕ) (at : ℕ) (a b : ℕ) → Reads text at (a ∷ b ∷ [])
    → at + 2 ≤ length text
reads_within text at a b e = let size : length (take 2 (drop at text)) ≡ 2 = ap length e in
    omega (arith, size, length-take 2 (drop at text), length-drop at text)

-- a comment begins with `/`
comment_slash : (b : ℕ) (rest : List ℕ) (len : ℕ) → IsComment (b ∷ rest) len → b ≡ 47
comment_slash b rest len (inl line) = cc (line.opens)
comment_slash b rest len (inr block) = cc (block.opens)

no_blank_comment : (text : List ℕ) (m n : ℕ) → IsBlank text m → IsComment text n → ⊥
no_blank_comment [] m n blank comment = absurd blank
no_blank_comment (b ∷ rest) m n blank comment =
    let bad : is_white 47 ≡ true = subst (λ x. is_white x ≡ true)
    (comment_slash b rest n comment) blank.0 in
    absurd (cc)

-- a comment has one length

line_only : (text : List ℕ) (m n : ℕ) → IsLineComment text m → IsLineComment text n → m ≡ n
line_only text m n first second =
    let within_first = first.within in
    let within_second = second.within in
    let not_less : m < n → ⊥ = λ less. second.line m less (first.ends (omega arith)) in
    let not_more : n < m → ⊥ = λ more. first.line n more (second.ends (omega arith)) in
    omega (arith, not_less, not_more)

block_only : (text : List ℕ) (m n : ℕ) → IsBlockComment text m → IsBlockComment text n → m ≡ n
block_only text m n first second =
    let not_less : first.close < second.close → ⊥ =
    λ less. second.first first.close first.past less first.closes in
    let not_more : second.close < first.close → ⊥ =
    λ more. first.first second.close second.past more second.closes in
    omega (arith, not_less, not_more, first.ends, second.ends)

no_line_block : (text : List ℕ) (m n : ℕ) → IsLineComment text m → IsBlockComment text n → ⊥
no_line_block text m n line block = absurd (cc (line.opens, block.opens))

comment_only : (text : List ℕ) (m n : ℕ) → IsComment text m → IsComment text n → m ≡ n
comment_only text m n (inl first) (inl second) = line_only text m n first second
comment_only text m n (inl first) (inr second) = absurd (no_line_block text m n first second)
comment_only text m n (inr first) (inl second) = absurd (no_line_block text n m second first)
comment_only text m n (inr first) (inr second) = block_only text m n first second

blank_only : (text : List ℕ) (m n : ℕ) → IsBlank text m → IsBlank text n → m ≡ n
blank_only [] m n first second = absurd first
blank_only (b ∷ rest) m n first second = first.1 ∙ sym second.1

-- trivia has one length
pub trivia_only : (text : List ℕ) (m n : ℕ) → IsTrivia text m → IsTrivia text n → m ≡ n
trivia_only text m n (inl first) (inl second) = blank_only text m n first second
trivia_only text m n (inl first) (inr second) = absurd (no_blank_comment text m n first second)
trivia_only text m n (inr first) (inl second) = absurd (no_blank_comment text n m second first)
trivia_only text m n (inr first) (inr second) = comment_only text m n first second

-- trivia isn't empty, and is within the text

line_fits : (text : List ℕ) (len : ℕ) → IsLineComment text len → (0 < len) × (len ≤ length text)
line_fits [] len line = absurd (cc (line.opens))
line_fits (b ∷ rest) zero line = let slash : b ≡ 47 = cc (line.opens) in let feed : b ≡ 10 =
    line.ends
    (omega arith) in
    absurd (cc)
line_fits (b ∷ rest) (suc n) line = (omega arith, line.within)

block_fits : (text : List ℕ) (len : ℕ) → IsBlockComment text len → (0 < len) × (len ≤ length text)
block_fits text len block = let within = reads_within text block.close 42 47 block.closes in
    (omega (arith, block.ends), omega (arith, block.ends, within))

pub trivia_fits : (text : List ℕ) (len : ℕ) → IsTrivia text len → (0 < len) × (len ≤ length text)
trivia_fits [] len (inl blank) = absurd blank
trivia_fits (b ∷ rest) len (inl blank) = (omega (arith, blank.1), omega (arith, blank.1))
trivia_fits text len (inr (inl line)) = line_fits text len line
trivia_fits text len (inr (inr block)) = block_fits text len block

-- one more trivia
trivia_push : (text : List ℕ) (from : ℕ) (lens : List ℕ) (at len : ℕ) → AreTrivia text from lens at
    → IsTrivia (drop at text) len → AreTrivia text from (lens ++ len ∷ []) (at + len)
trivia_push text from [] at len h trivia =
    (subst (λ k. IsTrivia (drop k text) len) (sym h) trivia, ap (λ k. k + len) h)
trivia_push text from (first ∷ lens) at len h trivia =
    (h.0, trivia_push text (from + first) lens at len h.1 trivia)

pub trivia_run_none : (text : List ℕ) (from : ℕ) → from ≤ length text → IsTriviaRun text from from
trivia_run_none text from within = record { within = within; lengths = []; trivia = refl }

pub trivia_run_push : (text : List ℕ) (from at len : ℕ) → IsTriviaRun text from at
    → IsTrivia (drop at text) len → IsTriviaRun text from (at + len)
trivia_run_push text from at len trivia_run trivia =
    let fits = trivia_fits (drop at text) len trivia in
    record {
      within = omega (arith, fits.0, fits.1, trivia_run.within, length-drop at text);
      lengths = trivia_run.lengths ++ len ∷ [];
      trivia = trivia_push text from trivia_run.lengths at len trivia_run.trivia trivia;
    }

-- a run of trivia goes on, if anywhere
trivia_ordered : (text : List ℕ) (from : ℕ) (lens : List ℕ) (to : ℕ) → AreTrivia text from lens to
    → from ≤ to
trivia_ordered text from [] to h = omega arith
trivia_ordered text from (len ∷ lens) to h = let rest =
    trivia_ordered text (from + len) lens to h.1 in
    omega arith

pub trivia_run_ordered : (text : List ℕ) (from to : ℕ) → IsTriviaRun text from to → from ≤ to
trivia_run_ordered text from to trivia_run =
    trivia_ordered text from trivia_run.lengths to trivia_run.trivia

-- no trivia of a run of trivia begins at the end of the text
pub bare_end : (text : List ℕ) (at len : ℕ) → length text ≤ at → IsTrivia (drop at text) len → ⊥
bare_end text at len past trivia = let fits = trivia_fits (drop at text) len trivia in
    omega (arith, fits.0, fits.1, length-drop at text)

lengths_end : (text : List ℕ) (from : ℕ) (ms ns : List ℕ) (a b : ℕ) → AreTrivia text from ms a
    → AreTrivia text from ns b
    → ((len : ℕ) → IsTrivia (drop a text) len → ⊥) → ((len : ℕ) → IsTrivia (drop b text) len → ⊥)
    → a ≡ b
lengths_end text from [] [] a b h g bare_a bare_b = sym h ∙ g
lengths_end text from [] (n ∷ ns) a b h g bare_a bare_b =
    absurd (bare_a n (subst (λ k. IsTrivia (drop k text) n) h g.0))
lengths_end text from (m ∷ ms) [] a b h g bare_a bare_b =
    absurd (bare_b m (subst (λ k. IsTrivia (drop k text) m) g h.0))
lengths_end text from (m ∷ ms) (n ∷ ns) a b h g bare_a bare_b =
    let same = trivia_only (drop from text) m n h.0 g.0 in
    lengths_end text (from + m) ms ns a b h.1
    (subst (λ k. AreTrivia text (from + k) ns b) (sym same) g.1) bare_a bare_b

-- two trivia from one place end at one place, where no trivia of a run of trivia begins
pub trivia_end : (text : List ℕ) (from a b : ℕ) → IsTriviaRun text from a → IsTriviaRun text from b
    → ((len : ℕ) → IsTrivia (drop a text) len → ⊥) → ((len : ℕ) → IsTrivia (drop b text) len → ⊥)
    → a ≡ b
trivia_end text from a b first second bare_a bare_b =
    lengths_end text from first.lengths second.lengths a b first.trivia second.trivia bare_a bare_b

-- where no line comment begins, and what is found says that no block comment does
pub comment_none : (text : List ℕ) (found : Option ℕ) → starts_with nat_eq text (codes "//") ≡ false
    → IfNone found ((len : ℕ) → IsBlockComment text len → ⊥)
    → IfNone found ((len : ℕ) → IsComment text len → ⊥)
comment_none text (Some n) line block = tt
comment_none text None line block = λ len comment. elim comment [
  | inl begins ↦ both_ways (starts_with nat_eq text (codes "//")) line
      (pointwise-same (codes "//") (take 2 text) (sym begins.opens))
  | inr begins ↦ block len begins
]

-- where there is no white space, and what is found says that no comment begins
pub trivia_none : (text : List ℕ) (found : Option ℕ) → ((len : ℕ) → IsBlank text len → ⊥)
    → IfNone found ((len : ℕ) → IsComment text len → ⊥)
    → IfNone found ((len : ℕ) → IsTrivia text len → ⊥)
trivia_none text (Some n) blank comment = tt
trivia_none text None blank comment = λ len trivia. elim trivia [
  | inl white ↦ blank len white
  | inr begins ↦ comment len begins
]

-- where the first byte is none of white space, there is no white space
pub first_black : (text : List ℕ) (first : Option ℕ) → first ≡ slice_get text 0
    → IfSome first (λ b. is_white b ≡ false) → (len : ℕ) → IsBlank text len → ⊥
first_black [] first e black len blank = absurd blank
first_black (b ∷ rest) None e black len blank = absurd (cc)
first_black (b ∷ rest) (Some x) e black len blank = let same : x ≡ b = cc in
    both_ways (is_white b) (subst (λ y. is_white y ≡ false) same black) blank.0
