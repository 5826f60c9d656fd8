-- What is read as a program is one, and these are its tokens.
use Rattle.std.proofs.Common.{◌≡◌, ℕ, suc, ◌+◌, ◌<◌, ◌≤◌, List, [], ◌∷◌, length, Option, Some, None}
use Rattle.std.proofs.Common.{Ok, refl, sym, ap, ◌∙◌, arith, inl, inr}
use Rattle.std.proofs.lemmas.Bool.{cases_Bool}
use Rattle.std.specs.List.{AllByRecursion}
use Rattle.strc_lex.specs.declared.token.TokenKind.{TokenKind}
use Rattle.strc_lex.specs.declared.token.TokenKind.TheVariants as token
use Rattle.strc_lex.specs.declared.token.Keyword.TheVariants as keyword
use Rattle.strc_lex.specs.declared.token.Punctuation.TheVariants as punctuation
use Rattle.strc_parse_tree.specs.declared.tree.StreamType.{StreamType}
use Rattle.strc_parse_tree.specs.declared.tree.CompositeKind.{CompositeKind}
use Rattle.strc_parse_tree.specs.Tree as tree
use Rattle.strc_parse_grammar.specs.Grammar.{each_spelled, kind_keyword, stream_type_spelled}
use Rattle.strc_parse_grammar.specs.Grammar.{parameters_spelled, declaration_spelled, IsDeclaration}
use Rattle.strc_parse_grammar.specs.Grammar.{IsTree, declaration_height, height, height_limit}
use Rattle.strc_parse_grammar.specs.Grammar.{Parses}
use Rattle.strc_parse_grammar.specs.Reading.{Read, tail, is_keyword, repeated, one_more, parameters}
use Rattle.strc_parse_grammar.specs.Reading.{stream_type, composite_kind}
use Rattle.strc_parse_tree.specs.Tree.{row}
use Rattle.strc_parse_grammar.specs.Streams.{statements, statement, members, heading, filter}
use Rattle.strc_parse_grammar.specs.Streams.{composite}
use Rattle.strc_parse_grammar.specs.Streams.{composite_by, stream, declaration, at_end}
use Rattle.strc_parse_grammar.specs.Streams.{declarations}
use Rattle.strc_parse_grammar.proofs.ProgramCompleteness.{parameters_length, declaration_length}
use Rattle.strc_parse_grammar.proofs.Soundness.{Sound, Sound-ok, Sound-then, Sound-on, Sound-expect}
use Rattle.strc_parse_grammar.proofs.Soundness.{Sound-name, Stopped, repeated_soundness}
use Rattle.strc_parse_grammar.proofs.Soundness.{each_spelled-push, All-push}
use Rattle.strc_parse_grammar.proofs.ArgumentSoundness.{parameters_soundness, stream_type_soundness}
use Rattle.strc_parse_grammar.proofs.ArgumentSoundness.{kind_is}
use Rattle.strc_parse_grammar.proofs.StatementSoundness.{keyword_is, BodyRead, statements_soundness}
use Rattle.strc_parse_grammar.proofs.MemberSoundness.{MembersRead, members_soundness}
use Rattle.strc_parse_grammar.proofs.TreeSoundness.{statement_soundness}

abbrev count : List TokenKind → ℕ
count ts = length ts

-- trees nest too deep only after so many tokens
abbrev pub least : ℕ
least = 255

-- ---- items one after the other

module _ {A : Type 0} (spelled_item : A → List TokenKind → List TokenKind) (Good : A → Type 0) where
  -- an item and what follows it, read from these tokens
  pub record ItemRead (tokens : List TokenKind) (x : A × List TokenKind) : Type 0 where
    pub spelled : tokens ≡ spelled_item x.0 x.1
    pub good : Good x.0
    pub long : length x.1 < length tokens

  -- the items so far, and where the next one begins
  pub record ListRead (all : List TokenKind) (front : List A) (rest : List TokenKind) : Type 0 where
    pub spelled : all ≡ each_spelled spelled_item front rest
    pub good : AllByRecursion Good front

  module _ (reader : List TokenKind → Read A)
      (sound : (tokens : List TokenKind) → Sound (ItemRead tokens) least tokens (reader tokens))
    where
      one_more_soundness : (all : List TokenKind) (front : List A) (tokens : List TokenKind)
          → ListRead all front tokens → length tokens ≤ length all
          → Sound (λ x. ListRead all x.0 x.1 × (length x.1 ≤ length all)) least all
          (one_more reader front tokens)
      unfolding one_more
      one_more_soundness all front tokens kept le =
          Sound-then (ItemRead tokens) (λ x. ListRead all x.0 x.1 × (length x.1 ≤ length all)) least
          all (reader tokens) _
          (Sound-on (ItemRead tokens) (ItemRead tokens) least least tokens all (reader tokens) le
          (omega arith) (sound tokens) (λ x h. h)) (λ x read. (
            record {
              spelled = kept.spelled ∙ ap (λ (ts : List TokenKind).
                  each_spelled spelled_item front ts) read.spelled
                  ∙ sym (each_spelled-push spelled_item front x.0 x.1);
              good = All-push Good front x.0 kept.good read.good;
            },
            omega (arith, read.long),
          ))

      pub list_soundness : (stop : List TokenKind → Option (List TokenKind)) (n : ℕ)
          (tokens : List TokenKind)
          → Sound (Stopped stop (one_more reader) (ListRead tokens) least tokens) least tokens
          (repeated stop (one_more reader) n [] tokens)
      list_soundness stop n tokens =
          repeated_soundness stop (one_more reader) (ListRead tokens) least tokens
          (λ front ts kept le goes. one_more_soundness tokens front ts kept le) n [] tokens
          (record { spelled = refl; good = tt }) (omega arith)

-- ---- streams

-- the name and the parameters of a stream, and what follows the brace
abbrev HeadingRead : List TokenKind → (List ℕ × Option (List (List ℕ))) × List TokenKind → Type 0
HeadingRead tokens x = tokens ≡ token.Name x.0.0
    ∷ parameters_spelled x.0.1 (token.Punctuation punctuation.OpenBrace ∷ x.1)

heading_soundness : (tokens : List TokenKind)
    → Sound (HeadingRead tokens) least tokens (heading tokens)
unfolding heading
heading_soundness tokens =
    Sound-name (HeadingRead tokens) least tokens tokens _ (omega arith) (λ x past e.
    let one : length tokens ≡ suc (length past) = ap count e in
    let P : Option (List (List ℕ)) × List TokenKind → Type 0 =
    λ y. past ≡ parameters_spelled y.0 y.1 in
    Sound-then P (HeadingRead tokens) least tokens (parameters past) _
    (Sound-on P P least least past tokens (parameters past) (omega arith) (omega arith)
    (parameters_soundness least past) (λ y h. h)) (λ y given.
    Sound-expect (HeadingRead tokens) least tokens punctuation.OpenBrace y.1 _
    (omega (arith, ap count given, parameters_length y.0 y.1)) (λ rest f.
    e ∙ ap (λ (ts : List TokenKind). token.Name x ∷ ts)
    (given ∙ ap (λ (ts : List TokenKind). parameters_spelled y.0 ts) f))))

heading_long : (x : List ℕ) (given : Option (List (List ℕ))) (tokens rest : List TokenKind)
    → tokens ≡ token.Name x ∷ parameters_spelled given
    (token.Punctuation punctuation.OpenBrace ∷ rest)
    → length rest + 2 ≤ length tokens
heading_long x given tokens rest e = omega
    (arith, ap count e, parameters_length given (token.Punctuation punctuation.OpenBrace ∷ rest))

abbrev IsGoodStream : tree.Declaration → Type 0
IsGoodStream d = IsDeclaration d × (declaration_height d ≤ height_limit)

abbrev DeclarationRead : List TokenKind → tree.Declaration × List TokenKind → Type 0
DeclarationRead tokens x = ItemRead declaration_spelled IsGoodStream tokens x

-- a declaration by what it is spelled as
read_as : (all : List TokenKind) (x : tree.Declaration) (rest : List TokenKind)
    → all ≡ declaration_spelled x rest → IsGoodStream x → DeclarationRead all (x, rest)
read_as all x rest spelled good = record {
  spelled = spelled;
  good = good;
  long =
      omega (arith, ap count spelled, declaration_length x.name x.parameters x.stream good.0 rest);
}

module _ (types : StreamType) (all past : List TokenKind) where
  filter_soundness : all ≡ stream_type_spelled types (token.Keyword keyword.Filter ∷ past)
      → Sound (DeclarationRead all) least all (filter height_limit types past)
  unfolding filter
  filter_soundness starts =
      let some : length all ≡ suc (suc (suc (suc (length past)))) = ap count starts in
      let Q : tree.Declaration × List TokenKind → Type 0 = DeclarationRead all in
      Sound-then (HeadingRead past) Q least all (heading past) _
      (Sound-on (HeadingRead past) (HeadingRead past) least least past all (heading past)
      (omega arith) (omega arith) (heading_soundness past) (λ x h. h)) (λ head e.
      let one = heading_long head.0.0 head.0.1 past head.1 e in
      Sound-then (MembersRead height_limit head.1) Q least all
      (members height_limit (statement height_limit) head.1) _
      (Sound-on (MembersRead height_limit head.1)
      (MembersRead height_limit head.1) least least head.1 all
      (members height_limit (statement height_limit) head.1) (omega arith) (omega arith)
      (members_soundness height_limit (statement height_limit)
      (λ ts. statement_soundness height_limit ts) head.1) (λ x h. h))
      (λ x body.
      read_as all (record {
        name = head.0.0;
        parameters = head.0.1;
        stream =
            tree.Filter types.input types.output x.0.0;
      }) x.1
      (starts ∙ ap (λ (ts : List TokenKind). stream_type_spelled types
      (token.Keyword keyword.Filter ∷ ts))
      (e ∙ ap (λ (ts : List TokenKind). token.Name head.0.0
      ∷ parameters_spelled head.0.1 (token.Punctuation punctuation.OpenBrace ∷ ts)) body.spelled))
      (body.shape, omega (arith, body.high, body.low))))

  composite_soundness : (kind : CompositeKind)
      → all ≡ stream_type_spelled types (kind_keyword kind ∷ past)
      → Sound (DeclarationRead all) least all (composite height_limit types kind past)
  unfolding composite
  composite_soundness kind starts =
      let some : length all ≡ suc (suc (suc (suc (length past)))) = ap count starts in
      let Q : tree.Declaration × List TokenKind → Type 0 = DeclarationRead all in
      Sound-then (HeadingRead past) Q least all (heading past) _
      (Sound-on (HeadingRead past) (HeadingRead past) least least past all (heading past)
      (omega arith) (omega arith) (heading_soundness past) (λ x h. h)) (λ head e.
      let one = heading_long head.0.0 head.0.1 past head.1 e in
      Sound-then (BodyRead height_limit head.1) Q least all
      (statements (statement height_limit) head.1) _
      (Sound-on (BodyRead height_limit head.1) (BodyRead height_limit head.1) least least head.1 all
      (statements (statement height_limit) head.1) (omega arith) (omega arith)
      (statements_soundness height_limit (statement height_limit)
      (λ ts. statement_soundness height_limit ts) head.1) (λ x h. h))
      (λ x body.
      read_as all (record {
        name = head.0.0;
        parameters = head.0.1;
        stream =
            tree.Composite types kind (row x.0.0);
      }) x.1
      (starts ∙ ap (λ (ts : List TokenKind). stream_type_spelled types (kind_keyword kind ∷ ts))
      (e ∙ ap (λ (ts : List TokenKind). token.Name head.0.0
      ∷ parameters_spelled head.0.1 (token.Punctuation punctuation.OpenBrace ∷ ts)) body.spelled))
      (body.shape, omega (arith, body.high, body.low))))

module _ (types : StreamType) (all tokens : List TokenKind)
    (starts : all ≡ stream_type_spelled types tokens) where
  composite_by_soundness : (o : Option CompositeKind) → composite_kind tokens ≡ o
      → Sound (DeclarationRead all) least all (composite_by height_limit types tokens o)
  composite_by_soundness None e = let some : length all ≡ suc (suc (suc (length tokens))) =
      ap count starts in omega arith
  composite_by_soundness (Some kind) e = composite_soundness types all (tail tokens) kind
      (starts ∙ ap (λ (ts : List TokenKind). stream_type_spelled types ts) (kind_is kind tokens e))

  stream_soundness : Sound (DeclarationRead all) least all (stream height_limit types tokens)
  unfolding stream
  stream_soundness =
      elim (cases_Bool (is_keyword keyword.Filter tokens)) [
        | inl is ↦
            let read = filter_soundness types all (tail tokens)
            (starts ∙ ap (λ (ts : List TokenKind). stream_type_spelled types ts)
            (keyword_is keyword.Filter tokens is)) in
            rw is read
        | inr is ↦
            let read = composite_by_soundness (composite_kind tokens) refl in
            rw is read
      ]

declaration_soundness : (tokens : List TokenKind)
    → Sound (DeclarationRead tokens) least tokens (declaration height_limit tokens)
unfolding declaration
declaration_soundness tokens =
    Sound-then (λ x. tokens ≡ stream_type_spelled x.0 x.1) (DeclarationRead tokens) least tokens
    (stream_type tokens) _ (stream_type_soundness least tokens)
    (λ types e. stream_soundness types.0 tokens types.1 e)

-- a declaration has a token or more
pub declaration_shorter : (tokens : List TokenKind) (value : tree.Declaration)
    (after : List TokenKind) → declaration height_limit tokens ≡ Ok (value, after)
    → length after < length tokens
declaration_shorter tokens value after is =
    let read = Sound-ok (DeclarationRead tokens) least tokens (declaration height_limit tokens)
    (value, after) is (declaration_soundness tokens) in omega (arith, read.long)

-- the tokens of a declaration that was read spell it
pub declaration_is_spelled : (tokens : List TokenKind) (value : tree.Declaration)
    (after : List TokenKind) → declaration height_limit tokens ≡ Ok (value, after)
    → tokens ≡ declaration_spelled value after
declaration_is_spelled tokens value after is =
    (Sound-ok (DeclarationRead tokens) least tokens (declaration height_limit tokens)
    (value, after) is (declaration_soundness tokens)).spelled

good_streams : (program : List tree.Declaration) → AllByRecursion IsGoodStream program
    → IsTree program × (height program ≤ height_limit)
good_streams [] all = (tt, omega arith)
good_streams (d ∷ others) all = let more = good_streams others all.1 in
    ((all.0.0, more.0), omega (arith, all.0.1, more.1))

end_is : (tokens after : List TokenKind) → at_end tokens ≡ Some after → tokens ≡ []
unfolding at_end
end_is [] after e = refl
end_is (t ∷ rest) after e = absurd cc

-- a whole text
pub program_soundness : (tokens : List TokenKind)
    → Sound (λ x. Parses tokens x.0) least tokens (declarations height_limit tokens)
unfolding declarations
program_soundness tokens =
    Sound-on (Stopped at_end (one_more (declaration height_limit))
    (ListRead declaration_spelled IsGoodStream tokens) least tokens)
    (λ x. Parses tokens x.0) least least tokens tokens
    (repeated at_end (one_more (declaration height_limit)) (length tokens + 1) [] tokens)
    (omega arith) (omega arith)
    (list_soundness declaration_spelled IsGoodStream
    (declaration height_limit) declaration_soundness at_end (length tokens + 1) tokens)
    (λ x stopped.
    let good = good_streams x.0 stopped.1.good in (
      stopped.1.spelled ∙ ap (λ (ts : List TokenKind). each_spelled declaration_spelled x.0 ts)
          (end_is stopped.0 x.1 stopped.2),
      good.0,
      good.1,
    ))
