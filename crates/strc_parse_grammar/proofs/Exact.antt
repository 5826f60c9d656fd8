-- Reading a whole text is exact: by what holds of it, and by reading each program's spelling again.
use Rattle.std.proofs.Common.{◌≡◌, ℕ, ◌<◌, ◌≤◌, max, List, length, Result, Ok, Err, refl, ap, subst}
use Rattle.std.proofs.Common.{◌∙◌, arith, inl, inr}
use Rattle.std.proofs.lemmas.Bool.{cases_lt}
use Rattle.strc_lex.specs.declared.token.TokenKind.{TokenKind}
use Rattle.strc_parse_grammar.specs.declared.error.Fault.{Fault}
use Rattle.strc_parse_grammar.specs.declared.error.Fault.TheVariants.{Unexpected, Nesting}
use Rattle.strc_parse_tree.specs.Tree.{Declaration}
use Rattle.strc_parse_grammar.specs.Grammar.{spelling, IsTree, height, height_limit, Parses}
use Rattle.strc_parse_grammar.specs.Grammar.{IsUnambiguous}
use Rattle.strc_parse_grammar.specs.Streams.{declarations, program}
use Rattle.strc_parse_grammar.proofs.Completeness.{Complete}
use Rattle.strc_parse_grammar.proofs.ProgramCompleteness.{program_completeness}
use Rattle.strc_parse_grammar.proofs.Soundness.{Sound, Sound-then}
use Rattle.strc_parse_grammar.proofs.ProgramSoundness.{least, program_soundness}

whole_soundness : (tokens : List TokenKind)
    → Sound (Parses tokens) least tokens (program height_limit tokens)
whole_soundness tokens = Sound-then (λ x. Parses tokens x.0) (Parses tokens) least tokens
    (declarations height_limit tokens) (λ read. Ok read.0) (program_soundness tokens)
    (λ x parses. parses)

whole_completeness : (limit : ℕ) (p : List Declaration) → IsTree p
    → Complete limit (height p) p (program limit (spelling p))
whole_completeness limit p shape =
    let complete = program_completeness limit p shape in record {
      fits = λ h. rw (complete.fits h) refl;
      over = λ h. rw (complete.over h) refl;
    }

module _ (tokens : List TokenKind) where
  pub read_parses : (p : List Declaration) → program height_limit tokens ≡ Ok p → Parses tokens p
  read_parses p e = subst (λ (r : Result (List Declaration) Fault). Sound
      (Parses tokens) least tokens r) e (whole_soundness tokens)

  pub parses_read : (p : List Declaration) → Parses tokens p → program height_limit tokens ≡ Ok p
  parses_read p parses = ap (program height_limit) parses.0
      ∙ (whole_completeness height_limit p parses.1).fits parses.2

  pub refused_within : (left : ℕ) → program height_limit tokens ≡ Err (Unexpected left)
      → left ≤ length tokens
  refused_within left e = subst (λ (r : Result (List Declaration) Fault). Sound
      (Parses tokens) least tokens r) e (whole_soundness tokens)

  pub refused_has_none : (left : ℕ) → program height_limit tokens ≡ Err (Unexpected left)
      → (p : List Declaration) → IsTree p → tokens ≡ spelling p → ⊥
  refused_has_none left e p shape spelled =
      elim (cases_lt height_limit (height p)) [
        | inl deep ↦ let read : program height_limit tokens ≡ Err Nesting =
            ap (program height_limit) spelled
            ∙ (whole_completeness height_limit p shape).over deep in absurd cc
        | inr low ↦ let read : program height_limit tokens ≡ Ok p =
            ap (program height_limit) spelled
            ∙ (whole_completeness height_limit p shape).fits low in absurd cc
      ]

  pub nests_long : program height_limit tokens ≡ Err Nesting → 200 < length tokens
  nests_long e =
      let long : least ≤ length tokens = subst
      (λ (r : Result (List Declaration) Fault). Sound (Parses tokens) least tokens r) e
      (whole_soundness tokens) in omega arith

  pub nests_has_none : program height_limit tokens ≡ Err Nesting → (p : List Declaration)
      → Parses tokens p → ⊥
  nests_has_none e p parses = let read : program height_limit tokens ≡ Ok p =
      parses_read p parses in absurd cc

-- One spelling is of one tree: reading it at a limit that both heights are within gives each of
-- them.
pub unambiguous : IsUnambiguous
unambiguous p q shape other same =
    let limit = max (height p) (height q) in
    let one : program limit (spelling p) ≡ Ok p =
    (whole_completeness limit p shape).fits (omega arith) in
    let two : program limit (spelling q) ≡ Ok q =
    (whole_completeness limit q other).fits (omega arith) in
    let both : program limit (spelling p) ≡ program limit (spelling q) = ap (program limit) same in
    cc
