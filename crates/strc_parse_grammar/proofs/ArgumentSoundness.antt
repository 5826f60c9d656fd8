-- What is read as arguments, parameters or the type of a stream is that, and these are its tokens.
use Rattle.std.proofs.Common.{◌≡◌, ℕ, suc, ◌+◌, ◌≤◌, List, [], ◌∷◌, ◌++◌, length, Option, Some}
use Rattle.std.proofs.Common.{None, Ok, refl, sym, ap, ◌∙◌, arith, inl, inr}
use Rattle.std.proofs.lemmas.Bool.{cases_Bool}
use Rattle.strc_lex.specs.declared.token.TokenKind.{TokenKind}
use Rattle.strc_lex.specs.declared.token.TokenKind.TheVariants as token
use Rattle.strc_lex.specs.declared.token.Keyword.TheVariants as keyword
use Rattle.strc_lex.specs.declared.token.Punctuation.TheVariants as punctuation
use Rattle.strc_parse_tree.specs.declared.tree.StreamType.{StreamType}
use Rattle.strc_parse_tree.specs.declared.tree.CompositeKind.{CompositeKind}
use Rattle.strc_parse_tree.specs.declared.tree.CompositeKind.TheVariants as composite
use Rattle.strc_parse_tree.specs.declared.tree.Brackets.{Brackets}
use Rattle.strc_parse_tree.specs.declared.tree.Brackets.TheVariants as pair
use Rattle.strc_parse_tree.specs.Tree as tree
use Rattle.strc_parse_grammar.specs.Grammar.{brackets_spelled, arguments_spelled, kind_keyword}
use Rattle.strc_parse_grammar.specs.Grammar.{type_keyword, stream_type_spelled, int_items_spelled}
use Rattle.strc_parse_grammar.specs.Grammar.{file_spelled, parameter_spelled}
use Rattle.strc_parse_grammar.specs.Grammar.{next_parameter_spelled}
use Rattle.strc_parse_grammar.specs.Grammar.{listed_parameters_spelled, parameters_spelled}
use Rattle.strc_parse_grammar.specs.Grammar.{AreArguments}
use Rattle.strc_parse_grammar.specs.Grammar.{arguments_height}
use Rattle.strc_parse_grammar.specs.Reading.{tail, is_punctuation, text, expression, repeated}
use Rattle.strc_parse_grammar.specs.Reading.{one_more}
use Rattle.strc_parse_grammar.specs.Reading.{no_comma, arguments, empty_brackets, name, parameter}
use Rattle.strc_parse_grammar.specs.Reading.{next_parameter, more_parameters, listed_parameters}
use Rattle.strc_parse_grammar.specs.Reading.{parameters, item_type, stream_type, composite_kind}
use Rattle.strc_parse_grammar.specs.Reading.{int_items, bracketed_text, file, Below}
use Rattle.strc_parse_grammar.specs.Reading.{closed_arguments}
use Rattle.strc_parse_grammar.specs.Reading.{closed_parameters}
use Rattle.strc_parse_grammar.proofs.StatementCompleteness.{listed_parameters_length}
use Rattle.strc_parse_grammar.proofs.Soundness.{Sound, Sound-then, Sound-on, Sound-expect}
use Rattle.strc_parse_grammar.proofs.Soundness.{Sound-expect_keyword, Sound-last, name_soundness}
use Rattle.strc_parse_grammar.proofs.Soundness.{Stopped}
use Rattle.strc_parse_grammar.proofs.Soundness.{repeated_soundness, punctuation_is}
use Rattle.strc_parse_grammar.proofs.Soundness.{each_spelled-push}
use Rattle.strc_parse_grammar.proofs.Soundness.{comma_is, no_comma_is}
use Rattle.strc_parse_grammar.proofs.ExpressionSoundness.{expression_soundness}
use Rattle.strc_parse_grammar.proofs.ListedSoundness.{IsSome, IsSome-push, ClosedListRead}
use Rattle.strc_parse_grammar.proofs.ListedSoundness.{closed_arguments_soundness}

abbrev count : List TokenKind → ℕ
count ts = length ts

-- ---- arguments

-- arguments or nothing, the height of the highest, and what follows them
pub record ArgumentsRead (depth : ℕ) (tokens : List TokenKind)
    (x : Option (List tree.Expr) × ℕ × List TokenKind) : Type 0 where
  pub spelled : tokens ≡ arguments_spelled x.0 x.2
  pub shape : AreArguments x.0
  pub high : x.1 ≡ arguments_height x.0
  pub low : x.1 ≤ depth

pub arguments_soundness : (depth : ℕ) (tokens : List TokenKind)
    → Sound (ArgumentsRead depth tokens) depth tokens (arguments depth tokens)
unfolding arguments
arguments_soundness depth tokens =
    let Q : Option (List tree.Expr) × ℕ × List TokenKind → Type 0 = ArgumentsRead depth tokens in
    elim (cases_Bool (is_punctuation punctuation.OpenParen tokens)) [
      | inl is ↦
          let starts = punctuation_is punctuation.OpenParen tokens is in
          let inside : List TokenKind = tail tokens in
          let one : length tokens ≡ suc (length inside) = ap count starts in
          let P : List tree.Expr × ℕ × List TokenKind → Type 0 = ClosedListRead depth inside in
          let below : Below = expression depth in
          let read = Sound-then P Q depth tokens (closed_arguments below inside)
          (λ listed. Ok (Some listed.0, listed.1, listed.2))
          (Sound-on P P depth depth inside tokens (closed_arguments below inside) (omega arith)
          (omega arith) (closed_arguments_soundness depth below
          (λ r ts. expression_soundness depth r ts) inside) (λ x h. h)) (λ x listed. record {
            spelled = starts ∙ ap (λ (ts : List TokenKind). token.Punctuation punctuation.OpenParen
                ∷ ts) listed.spelled;
            shape = listed.shape;
            high = listed.high;
            low = listed.low;
          }) in
          rw is read
      | inr is ↦
          let none : Q (None, 0, tokens) =
          record { spelled = refl; shape = tt; high = refl; low = omega arith } in
          rw is none
    ]

-- From here on nothing nests.
module _ (deep : ℕ) where
  -- ---- brackets and strings

  pub brackets_soundness : (tokens : List TokenKind)
      → Sound (λ x. tokens ≡ brackets_spelled x.0 x.1) deep tokens (empty_brackets tokens)
  unfolding empty_brackets
  brackets_soundness tokens =
      let Q : Brackets × List TokenKind → Type 0 = λ x. tokens ≡ brackets_spelled x.0 x.1 in
      elim (cases_Bool (is_punctuation punctuation.OpenParen tokens)) [
        | inl is ↦
            let starts = punctuation_is punctuation.OpenParen tokens is in
            let one : length tokens ≡ suc (length (tail tokens)) = ap count starts in
            let read = Sound-expect Q deep tokens punctuation.CloseParen (tail tokens)
            (λ rest. Ok (pair.Written, rest)) (omega arith)
            (λ rest e. starts ∙ ap (λ (ts : List TokenKind). token.Punctuation punctuation.OpenParen
            ∷ ts) e) in
            rw is read
        | inr is ↦
            let none : Q (pair.Missing, tokens) = refl in
            rw is none
      ]

  pub int_items_soundness : (tokens : List TokenKind)
      → Sound (λ rest. tokens ≡ int_items_spelled rest) deep tokens (int_items tokens)
  unfolding int_items
  int_items_soundness tokens =
      let Q : List TokenKind → Type 0 = λ rest. tokens ≡ int_items_spelled rest in
      Sound-expect Q deep tokens punctuation.Less tokens _ (omega arith) (λ opened e.
      let one : length tokens ≡ suc (length opened) = ap count e in
      Sound-expect_keyword Q deep tokens keyword.Int opened _ (omega arith) (λ named f.
      let two : length opened ≡ suc (length named) = ap count f in
      Sound-last deep tokens punctuation.Greater named (omega arith) Q (λ rest g.
      e ∙ ap (λ (ts : List TokenKind). token.Punctuation punctuation.Less ∷ ts)
      (f ∙ ap (λ (ts : List TokenKind). token.Keyword keyword.Int ∷ ts) g))))

  text_soundness : (tokens : List TokenKind)
      → Sound (λ x. tokens ≡ token.StringLiteral x.0 ∷ x.1) deep tokens (text tokens)
  unfolding text
  text_soundness (token.StringLiteral found ∷ rest) = refl
  text_soundness _ = omega arith

  bracketed_text_soundness : (tokens : List TokenKind)
      → Sound (λ x. tokens ≡ token.Punctuation punctuation.OpenParen ∷ token.StringLiteral x.0
      ∷ token.Punctuation punctuation.CloseParen ∷ x.1) deep tokens (bracketed_text tokens)
  unfolding bracketed_text
  bracketed_text_soundness tokens =
      let Q : List ℕ × List TokenKind → Type 0 =
      λ x. tokens ≡ token.Punctuation punctuation.OpenParen ∷ token.StringLiteral x.0
      ∷ token.Punctuation punctuation.CloseParen ∷ x.1 in
      Sound-expect Q deep tokens punctuation.OpenParen tokens _ (omega arith) (λ opened e.
      let one : length tokens ≡ suc (length opened) = ap count e in
      Sound-then (λ x. opened ≡ token.StringLiteral x.0 ∷ x.1) Q deep tokens (text opened) _
      (Sound-on (λ x. opened ≡ token.StringLiteral x.0 ∷ x.1)
      (λ x. opened ≡ token.StringLiteral x.0 ∷ x.1) deep deep opened tokens (text opened)
      (omega arith) (omega arith) (text_soundness opened) (λ x h. h)) (λ x f.
      let two : length opened ≡ suc (length x.1) = ap count f in
      Sound-expect Q deep tokens punctuation.CloseParen x.1 _ (omega arith) (λ rest g.
      e ∙ ap (λ (ts : List TokenKind). token.Punctuation punctuation.OpenParen ∷ ts)
      (f ∙ ap (λ (ts : List TokenKind). token.StringLiteral x.0 ∷ ts) g))))

  pub file_soundness : (tokens : List TokenKind)
      → Sound (λ x. tokens ≡ file_spelled x.0 x.1) deep tokens (file tokens)
  unfolding file
  file_soundness tokens =
      let Q : List ℕ × List TokenKind → Type 0 = λ x. tokens ≡ file_spelled x.0 x.1 in
      Sound-then (λ rest. tokens ≡ int_items_spelled rest) Q deep tokens (int_items tokens) _
      (int_items_soundness tokens) (λ opened e.
      let one : length tokens ≡ suc (suc (suc (length opened))) = ap count e in
      let P : List ℕ × List TokenKind → Type 0 =
      λ x. opened ≡ token.Punctuation punctuation.OpenParen ∷ token.StringLiteral x.0
      ∷ token.Punctuation punctuation.CloseParen ∷ x.1 in
      Sound-then P Q deep tokens (bracketed_text opened) _
      (Sound-on P P deep deep opened tokens (bracketed_text opened) (omega arith) (omega arith)
      (bracketed_text_soundness opened) (λ x h. h)) (λ x f.
      let two : length opened ≡ suc (suc (suc (length x.1))) = ap count f in
      Sound-expect Q deep tokens punctuation.Semicolon x.1 _ (omega arith) (λ rest g.
      e ∙ ap int_items_spelled (f ∙ ap (λ (ts : List TokenKind).
      token.Punctuation punctuation.OpenParen ∷ token.StringLiteral x.0
      ∷ token.Punctuation punctuation.CloseParen ∷ ts) g))))

  -- ---- types of streams

  type_soundness : (tokens : List TokenKind)
      → Sound (λ x. tokens ≡ type_keyword x.0 ∷ x.1) deep tokens (item_type tokens)
  unfolding item_type
  type_soundness (token.Keyword keyword.Int ∷ rest) = refl
  type_soundness (token.Keyword keyword.Void ∷ rest) = refl
  type_soundness _ = omega arith

  pub stream_type_soundness : (tokens : List TokenKind)
      → Sound (λ x. tokens ≡ stream_type_spelled x.0 x.1) deep tokens (stream_type tokens)
  unfolding stream_type
  stream_type_soundness tokens =
      let Q : StreamType × List TokenKind → Type 0 = λ x. tokens ≡ stream_type_spelled x.0 x.1 in
      Sound-then (λ x. tokens ≡ type_keyword x.0 ∷ x.1) Q deep tokens (item_type tokens) _
      (type_soundness tokens) (λ input e.
      let one : length tokens ≡ suc (length input.1) = ap count e in
      Sound-expect Q deep tokens punctuation.Arrow input.1 _ (omega arith) (λ arrow f.
      let two : length input.1 ≡ suc (length arrow) = ap count f in
      Sound-then (λ x. arrow ≡ type_keyword x.0 ∷ x.1) Q deep tokens (item_type arrow) _
      (Sound-on (λ x. arrow ≡ type_keyword x.0 ∷ x.1)
      (λ x. arrow ≡ type_keyword x.0 ∷ x.1) deep deep arrow tokens (item_type arrow) (omega arith)
      (omega arith) (type_soundness arrow) (λ x h. h))
      (λ output g. e ∙ ap (λ (ts : List TokenKind). type_keyword input.0 ∷ ts)
      (f ∙ ap (λ (ts : List TokenKind). token.Punctuation punctuation.Arrow ∷ ts) g))))

  -- ---- parameters

  parameter_soundness : (tokens : List TokenKind)
      → Sound (λ x. tokens ≡ parameter_spelled x.0 x.1) deep tokens (parameter tokens)
  unfolding parameter
  parameter_soundness tokens =
      let Q : List ℕ × List TokenKind → Type 0 = λ x. tokens ≡ parameter_spelled x.0 x.1 in
      Sound-expect_keyword Q deep tokens keyword.Int tokens _ (omega arith) (λ named e.
      let one : length tokens ≡ suc (length named) = ap count e in
      Sound-on (λ x. named ≡ token.Name x.0 ∷ x.1) Q deep deep named tokens (name named)
      (omega arith) (omega arith) (name_soundness deep named)
      (λ x f. e ∙ ap (λ (ts : List TokenKind). token.Keyword keyword.Int ∷ ts) f))

  parameters_spelled-push : (front : List (List ℕ)) (x : List ℕ) (rest : List TokenKind)
      → IsSome front
      → listed_parameters_spelled (front ++ x ∷ []) rest
      ≡ listed_parameters_spelled front (next_parameter_spelled x rest)
  parameters_spelled-push [] x rest some = absurd some
  parameters_spelled-push (y ∷ front) x rest some =
      ap (parameter_spelled y) (each_spelled-push next_parameter_spelled front x rest)

  -- the parameters so far, and what follows them
  abbrev KeptNames : List TokenKind → List (List ℕ) → List TokenKind → Type 0
  KeptNames all front rest = (all ≡ listed_parameters_spelled front rest) × IsSome front

  next_parameter_soundness : (all : List TokenKind) (front : List (List ℕ))
      (tokens : List TokenKind) → KeptNames all front tokens → length tokens ≤ length all
      → no_comma tokens ≡ None
      → Sound (λ x. KeptNames all x.0 x.1 × (length x.1 ≤ length all)) deep all
      (one_more next_parameter front tokens)
  unfolding one_more next_parameter
  next_parameter_soundness all front tokens kept le goes =
      let starts = comma_is tokens goes in
      let past : List TokenKind = tail tokens in
      let one : length tokens ≡ suc (length past) = ap count starts in
      Sound-then (λ x. past ≡ parameter_spelled x.0 x.1)
      (λ x. KeptNames all x.0 x.1 × (length x.1 ≤ length all)) deep all (parameter past) _
      (Sound-on (λ x. past ≡ parameter_spelled x.0 x.1)
      (λ x. past ≡ parameter_spelled x.0 x.1) deep deep past all (parameter past) (omega arith)
      (omega arith) (parameter_soundness past) (λ x h. h)) (λ x read.
      let two : length past ≡ suc (suc (length x.1)) = ap count read in (
        (
          kept.0 ∙ ap (λ (ts : List TokenKind). listed_parameters_spelled front ts)
              (starts ∙ ap (λ (ts : List TokenKind). token.Punctuation punctuation.Comma ∷ ts) read)
              ∙ sym (parameters_spelled-push front x.0 x.1 kept.1),
          IsSome-push front x.0,
        ),
        omega arith,
      ))

  listed_parameters_soundness : (tokens : List TokenKind)
      → Sound (λ x. tokens ≡ listed_parameters_spelled x.0 x.1) deep tokens
      (listed_parameters tokens)
  unfolding listed_parameters more_parameters
  listed_parameters_soundness tokens =
      let Q : List (List ℕ) × List TokenKind → Type 0 =
      λ x. tokens ≡ listed_parameters_spelled x.0 x.1 in
      elim (cases_Bool (is_punctuation punctuation.CloseParen tokens)) [
        | inl is ↦
            let none : Q ([], tokens) = refl in
            rw is none
        | inr is ↦
            let read = Sound-then (λ x. tokens ≡ parameter_spelled x.0 x.1) Q deep tokens
            (parameter tokens) (λ x. repeated no_comma (one_more next_parameter)
            (length x.1 + 1) (x.0 ∷ []) x.1) (parameter_soundness tokens) (λ x e.
            let two : length tokens ≡ suc (suc (length x.1)) = ap count e in
            Sound-on (Stopped no_comma (one_more next_parameter) (KeptNames tokens) deep tokens) Q
            deep deep tokens tokens
            (repeated no_comma (one_more next_parameter) (length x.1 + 1) (x.0 ∷ []) x.1)
            (omega arith) (omega arith)
            (repeated_soundness no_comma (one_more next_parameter) (KeptNames tokens) deep tokens
            (next_parameter_soundness tokens) (length x.1 + 1) (x.0 ∷ []) x.1 (e, tt)
            (omega arith))
            (λ y stopped. stopped.1.0 ∙ ap
            (λ (ts : List TokenKind). listed_parameters_spelled y.0 ts)
            (no_comma_is stopped.0 y.1 stopped.2))) in
            rw is read
      ]

  pub closed_parameters_soundness : (tokens : List TokenKind)
      → Sound (λ x. tokens ≡ listed_parameters_spelled x.0
      (token.Punctuation punctuation.CloseParen ∷ x.1)) deep tokens (closed_parameters tokens)
  unfolding closed_parameters
  closed_parameters_soundness tokens =
      let P : List (List ℕ) × List TokenKind → Type 0 =
      λ x. tokens ≡ listed_parameters_spelled x.0 x.1 in
      let Q : List (List ℕ) × List TokenKind → Type 0 =
      λ x. tokens ≡ listed_parameters_spelled x.0
      (token.Punctuation punctuation.CloseParen ∷ x.1) in
      Sound-then P Q deep tokens (listed_parameters tokens) _
      (listed_parameters_soundness tokens) (λ x listed.
      Sound-expect Q deep tokens punctuation.CloseParen x.1 _
      (omega (arith, ap count listed, listed_parameters_length x.0 x.1)) (λ rest e.
      listed ∙ ap (λ (ts : List TokenKind). listed_parameters_spelled x.0 ts) e))

  pub parameters_soundness : (tokens : List TokenKind)
      → Sound (λ x. tokens ≡ parameters_spelled x.0 x.1) deep tokens (parameters tokens)
  unfolding parameters
  parameters_soundness tokens =
      let Q : Option (List (List ℕ)) × List TokenKind → Type 0 =
      λ x. tokens ≡ parameters_spelled x.0 x.1 in
      elim (cases_Bool (is_punctuation punctuation.OpenParen tokens)) [
        | inl is ↦
            let starts = punctuation_is punctuation.OpenParen tokens is in
            let inside : List TokenKind = tail tokens in
            let one : length tokens ≡ suc (length inside) = ap count starts in
            let P : List (List ℕ) × List TokenKind → Type 0 =
            λ x. inside ≡ listed_parameters_spelled x.0
            (token.Punctuation punctuation.CloseParen ∷ x.1) in
            let read = Sound-then P Q deep tokens (closed_parameters inside)
            (λ x. Ok (Some x.0, x.1))
            (Sound-on P P deep deep inside tokens (closed_parameters inside) (omega arith)
            (omega arith) (closed_parameters_soundness inside) (λ x h. h)) (λ x listed.
            starts ∙ ap (λ (ts : List TokenKind). token.Punctuation punctuation.OpenParen ∷ ts)
            listed) in
            rw is read
        | inr is ↦
            let none : Q (None, tokens) = refl in
            rw is none
      ]

pub kind_is : (kind : CompositeKind) (tokens : List TokenKind) → composite_kind tokens ≡ Some kind
    → tokens ≡ kind_keyword kind ∷ tail tokens
unfolding composite_kind
kind_is kind (token.Keyword keyword.Pipeline ∷ rest) e = let same : composite.Pipeline ≡ kind =
    cc in ap
    (λ (k : CompositeKind).
    kind_keyword k ∷ rest) same
kind_is kind (token.Keyword keyword.Splitjoin ∷ rest) e = let same : composite.Splitjoin ≡ kind =
    cc in ap
    (λ (k : CompositeKind).
    kind_keyword k ∷ rest) same
kind_is kind (token.Keyword keyword.Feedbackloop ∷ rest) e =
    let same : composite.Feedbackloop ≡ kind = cc in
    ap (λ (k : CompositeKind). kind_keyword k ∷ rest) same
kind_is kind _ e = absurd cc
