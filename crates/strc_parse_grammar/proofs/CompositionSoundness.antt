-- What is read as a statement of a composite stream is one, and these are its tokens: by what holds
-- of the reader of the statements in it.
use Rattle.std.proofs.Common.{◌≡◌, ℕ, suc, ◌+◌, ◌-◌, ◌≤◌, List, [], ◌∷◌, length, Option, Some, None}
use Rattle.std.proofs.Common.{Ok, max, refl, sym, ap, subst, ◌∙◌, arith, inl, inr}
use Rattle.std.proofs.lemmas.Bool.{cases_Bool}
use Rattle.std.specs.List.{AllByRecursion}
use Rattle.strc_lex.specs.declared.token.TokenKind.{TokenKind}
use Rattle.strc_lex.specs.declared.token.TokenKind.TheVariants as token
use Rattle.strc_lex.specs.declared.token.Keyword.{Keyword}
use Rattle.strc_lex.specs.declared.token.Keyword.TheVariants as keyword
use Rattle.strc_lex.specs.declared.token.Punctuation.TheVariants as punctuation
use Rattle.strc_parse_tree.specs.declared.tree.StreamType.{StreamType}
use Rattle.strc_parse_tree.specs.declared.tree.CompositeKind.{CompositeKind}
use Rattle.strc_parse_tree.specs.declared.tree.Role.{Role}
use Rattle.strc_parse_tree.specs.declared.tree.Role.TheVariants as role
use Rattle.strc_parse_tree.specs.declared.tree.Brackets.{Brackets}
use Rattle.strc_parse_tree.specs.Tree as tree
use Rattle.strc_parse_grammar.specs.Grammar.{each_spelled, brackets_spelled, arguments_spelled}
use Rattle.strc_parse_grammar.specs.Grammar.{splitter_spelled, role_keyword, kind_keyword}
use Rattle.strc_parse_grammar.specs.Grammar.{stream_type_spelled, found_type_spelled}
use Rattle.strc_parse_grammar.specs.Grammar.{int_items_spelled}
use Rattle.strc_parse_grammar.specs.Grammar.{file_spelled, member_spelled, members_spelled}
use Rattle.strc_parse_grammar.specs.Grammar.{composition_spelled, child_spelled, IsSplitter}
use Rattle.strc_parse_grammar.specs.Grammar.{IsMember}
use Rattle.strc_parse_grammar.specs.Grammar.{AreMembers, IsComposition, IsChild, highest}
use Rattle.strc_parse_grammar.specs.Grammar.{splitter_height}
use Rattle.strc_parse_grammar.specs.Grammar.{member_height, members_height, composition_height}
use Rattle.strc_parse_grammar.specs.Reading.{◌>>=◌, tail, is_keyword, closed, expression, arguments}
use Rattle.strc_parse_grammar.specs.Reading.{empty_brackets, stream_type, composite_kind, int_items}
use Rattle.strc_parse_grammar.specs.Reading.{file}
use Rattle.strc_parse_tree.specs.Tree.{chain}
use Rattle.strc_parse_grammar.specs.Streams.{Inner, braced, members, named_child, identity}
use Rattle.strc_parse_grammar.specs.Streams.{anonymous_filter, anonymous_by, anonymous_composite}
use Rattle.strc_parse_grammar.specs.Streams.{after_type, typed_child, keyword_child, child}
use Rattle.strc_parse_grammar.specs.Streams.{child_for}
use Rattle.strc_parse_grammar.specs.Streams.{weights, splitter, split, join, enqueue, composition}
use Rattle.strc_parse_grammar.specs.Streams.{compose}
use Rattle.strc_parse_grammar.proofs.StatementCompleteness.{arguments_length, brackets_length}
use Rattle.strc_parse_grammar.proofs.StatementCompleteness.{composition_length}
use Rattle.strc_parse_grammar.proofs.CompositionCompleteness.{inside_height, height_above}
use Rattle.strc_parse_grammar.proofs.Soundness.{Sound, Sound-then, Sound-on, Sound-expect}
use Rattle.strc_parse_grammar.proofs.Soundness.{Sound-expect_keyword, Sound-raised}
use Rattle.strc_parse_grammar.proofs.ExpressionRead.{ClosedRead, closed_soundness}
use Rattle.strc_parse_grammar.proofs.ExpressionSoundness.{expression_soundness}
use Rattle.strc_parse_grammar.proofs.ArgumentSoundness.{ArgumentsRead, arguments_soundness}
use Rattle.strc_parse_grammar.proofs.ArgumentSoundness.{brackets_soundness, int_items_soundness}
use Rattle.strc_parse_grammar.proofs.ArgumentSoundness.{file_soundness, stream_type_soundness}
use Rattle.strc_parse_grammar.proofs.ArgumentSoundness.{kind_is}
use Rattle.strc_parse_grammar.proofs.StatementSoundness.{keyword_is, StmtRead}
use Rattle.strc_parse_grammar.proofs.MemberSoundness.{BlockRead, braced_soundness, MembersRead}
use Rattle.strc_parse_grammar.proofs.MemberSoundness.{members_soundness}

abbrev count : List TokenKind → ℕ
count ts = length ts

-- ---- members in a row, as a chain

spelled_chain : (items : List tree.Member) (rest : List TokenKind)
    → each_spelled member_spelled items rest ≡ members_spelled (chain items) rest
spelled_chain [] rest = refl
spelled_chain (m ∷ others) rest = ap (member_spelled m) (spelled_chain others rest)

shape_chain : (items : List tree.Member) → AllByRecursion IsMember items → AreMembers (chain items)
shape_chain [] all = tt
shape_chain (m ∷ others) all = (all.0, shape_chain others all.1)

high_chain : (items : List tree.Member) → highest member_height items ≡ members_height (chain items)
high_chain [] = refl
high_chain (m ∷ others) = ap (λ (n : ℕ). max (member_height m) n) (high_chain others)

-- ---- children

-- a child, the height of its highest part and what follows it
record ChildRead (limit : ℕ) (tokens : List TokenKind)
    (x : tree.Child × ℕ × List TokenKind) : Type 0 where
  spelled : tokens ≡ child_spelled x.0 x.2
  shape : IsChild x.0
  high : x.1 ≡ inside_height x.0
  low : x.1 ≤ limit

named_soundness : (limit : ℕ) (x : List ℕ) (past : List TokenKind)
    → Sound (ChildRead limit (token.Name x ∷ past)) limit (token.Name x ∷ past)
    (named_child limit x past)
unfolding named_child
named_soundness limit x past =
    let all : List TokenKind = token.Name x ∷ past in
    let Q : tree.Child × ℕ × List TokenKind → Type 0 = ChildRead limit all in
    Sound-then (ArgumentsRead limit past) Q limit all (arguments limit past) _
    (Sound-on (ArgumentsRead limit past) (ArgumentsRead limit past) limit limit past all
    (arguments limit past) (omega arith) (omega arith) (arguments_soundness limit past)
    (λ x h. h)) (λ y given.
    Sound-expect Q limit all punctuation.Semicolon y.2 _
    (omega (arith, ap count given.spelled, arguments_length y.0 y.2)) (λ rest e. record {
      spelled = ap (λ (ts : List TokenKind). token.Name x ∷ ts)
          (given.spelled ∙ ap (λ (ts : List TokenKind). arguments_spelled y.0 ts) e);
      shape = given.shape;
      high = given.high;
      low = given.low;
    }))

identity_soundness : (limit : ℕ) (past : List TokenKind)
    → Sound (ChildRead limit (token.Keyword keyword.Identity ∷ past)) limit
    (token.Keyword keyword.Identity ∷ past) (identity past)
unfolding identity
identity_soundness limit past =
    let all : List TokenKind = token.Keyword keyword.Identity ∷ past in
    let Q : tree.Child × ℕ × List TokenKind → Type 0 = ChildRead limit all in
    Sound-then (λ rest. past ≡ int_items_spelled rest) Q limit all (int_items past) _
    (Sound-on (λ rest. past ≡ int_items_spelled rest)
    (λ rest. past ≡ int_items_spelled rest) limit limit past all (int_items past) (omega arith)
    (omega arith) (int_items_soundness limit past) (λ x h. h)) (λ opened e.
    let one : length past ≡ suc (suc (suc (length opened))) = ap count e in
    let P : Brackets × List TokenKind → Type 0 = λ y. opened ≡ brackets_spelled y.0 y.1 in
    Sound-then P Q limit all (empty_brackets opened) _
    (Sound-on P P limit limit opened all (empty_brackets opened) (omega arith) (omega arith)
    (brackets_soundness limit opened) (λ x h. h)) (λ y f.
    Sound-expect Q limit all punctuation.Semicolon y.1 _
    (omega (arith, ap count f, brackets_length y.0 y.1)) (λ rest g. record {
      spelled = ap (λ (ts : List TokenKind). token.Keyword keyword.Identity ∷ ts)
          (e ∙ ap int_items_spelled (f ∙ ap (λ (ts : List TokenKind). brackets_spelled y.0 ts) g));
      shape = tt;
      high = refl;
      low = omega arith;
    })))

file_child : (limit : ℕ) (w : Keyword) (make : List ℕ → tree.Child) (past : List TokenKind)
    → ((text : List ℕ) (rest : List TokenKind)
    → token.Keyword w ∷ file_spelled text rest ≡ child_spelled (make text) rest)
    → ((text : List ℕ) → IsChild (make text))
    → ((text : List ℕ) → inside_height (make text) ≡ 0)
    → Sound (ChildRead limit (token.Keyword w ∷ past)) limit (token.Keyword w ∷ past)
    (file past >>= λ read. Ok (make read.0, 0, read.1))
file_child limit w make past spells shapes heights =
    let all : List TokenKind = token.Keyword w ∷ past in
    let P : List ℕ × List TokenKind → Type 0 = λ x. past ≡ file_spelled x.0 x.1 in
    Sound-then P (ChildRead limit all) limit all (file past) _
    (Sound-on P P limit limit past all (file past) (omega arith) (omega arith)
    (file_soundness limit past) (λ x h. h)) (λ x read. record {
      spelled = ap (λ (ts : List TokenKind). token.Keyword w ∷ ts) read ∙ spells x.0 x.1;
      shape = shapes x.0;
      high = sym (heights x.0);
      low = omega arith;
    })

module _ (d : ℕ) (inner : Inner) (sound : (tokens : List TokenKind)
    → Sound (StmtRead d tokens) (d - 1) tokens (inner tokens)) where
  -- a filter without a name after its type, at its keyword
  unnamed_soundness : (types : StreamType) (all past : List TokenKind)
      → all ≡ stream_type_spelled types (token.Keyword keyword.Filter ∷ past)
      → Sound (ChildRead d all) (d - 1) all (anonymous_filter d inner types past)
  unfolding anonymous_filter
  unnamed_soundness types all past starts =
      let Q : tree.Child × ℕ × List TokenKind → Type 0 = ChildRead d all in
      let some : length all ≡ suc (suc (suc (suc (length past)))) = ap count starts in
      Sound-expect Q (d - 1) all punctuation.OpenBrace past _ (omega arith) (λ opened e.
      let one : length past ≡ suc (length opened) = ap count e in
      Sound-then (MembersRead d opened) Q (d - 1) all (members d inner opened) _
      (Sound-on (MembersRead d opened) (MembersRead d opened) (d - 1) (d - 1) opened all
      (members d inner opened) (omega arith) (omega arith)
      (members_soundness d inner sound opened) (λ x h. h)) (λ x body. record {
        spelled = starts ∙ ap (λ (ts : List TokenKind). stream_type_spelled types
            (token.Keyword keyword.Filter ∷ ts))
            (e ∙ ap (λ (ts : List TokenKind). token.Punctuation punctuation.OpenBrace ∷ ts)
            (body.spelled ∙ spelled_chain x.0.0
            (token.Punctuation punctuation.CloseBrace ∷ x.1)));
        shape = shape_chain x.0.0 body.shape;
        high = body.high ∙ high_chain x.0.0;
        low = body.low;
      }))

  -- a composite stream without a name, at its kind
  kind_soundness : (types : Option StreamType) (kind : CompositeKind) (all past : List TokenKind)
      → all ≡ found_type_spelled types (kind_keyword kind ∷ past) → length past ≤ length all
      → Sound (ChildRead d all) (d - 1) all
      (braced inner past >>= λ block. Ok
      (tree.AnonymousComposite types kind block.0, block.1, block.2))
  kind_soundness types kind all past starts le =
      Sound-then (BlockRead d past) (ChildRead d all) (d - 1) all (braced inner past) _
      (Sound-on (BlockRead d past) (BlockRead d past) (d - 1) (d - 1) past all
      (braced inner past) le (omega arith) (braced_soundness d inner sound past) (λ x h. h))
      (λ x block. record {
        spelled = starts ∙ ap (λ (ts : List TokenKind). found_type_spelled types
            (kind_keyword kind ∷ ts)) block.spelled;
        shape = block.shape;
        high = block.high;
        low = block.low;
      })

  kind_by_soundness : (types : Option StreamType) (all tokens : List TokenKind)
      → all ≡ found_type_spelled types tokens → length tokens ≤ length all
      → (o : Option CompositeKind) → composite_kind tokens ≡ o
      → Sound (ChildRead d all) (d - 1) all (anonymous_by inner types tokens o)
  kind_by_soundness types all tokens starts le None e = le
  kind_by_soundness types all tokens starts le (Some kind) e =
      let begins = kind_is kind tokens e in
      let one : length tokens ≡ suc (length (tail tokens)) = ap count begins in
      kind_soundness types kind all (tail tokens)
      (starts ∙ ap (λ (ts : List TokenKind). found_type_spelled types ts) begins) (omega arith)

  composite_soundness : (types : Option StreamType) (all tokens : List TokenKind)
      → all ≡ found_type_spelled types tokens → length tokens ≤ length all
      → Sound (ChildRead d all) (d - 1) all (anonymous_composite inner types tokens)
  unfolding anonymous_composite
  composite_soundness types all tokens starts le =
      kind_by_soundness types all tokens starts le (composite_kind tokens) refl

  typed_soundness : (tokens : List TokenKind)
      → Sound (ChildRead d tokens) (d - 1) tokens (typed_child d inner tokens)
  unfolding typed_child after_type
  typed_soundness tokens =
      let Q : tree.Child × ℕ × List TokenKind → Type 0 = ChildRead d tokens in
      Sound-then (λ x. tokens ≡ stream_type_spelled x.0 x.1) Q (d - 1) tokens (stream_type tokens) _
      (stream_type_soundness (d - 1) tokens) (λ types e.
      let some : length tokens ≡ suc (suc (suc (length types.1))) = ap count e in
      elim (cases_Bool (is_keyword keyword.Filter types.1)) [
        | inl is ↦
            let read = unnamed_soundness types.0 tokens (tail types.1)
            (e ∙ ap (λ (ts : List TokenKind). stream_type_spelled types.0 ts)
            (keyword_is keyword.Filter types.1 is)) in
            rw is read
        | inr is ↦
            let read = composite_soundness (Some types.0) tokens types.1 e (omega arith) in
            rw is read
      ])

  -- what needs no statements
  leaf : (tokens : List TokenKind) (read : _) → Sound (ChildRead d tokens) d tokens read
      → Sound (ChildRead d tokens) (d - 1) tokens read
  leaf tokens read complete = Sound-on (ChildRead d tokens) (ChildRead d tokens) d
      (d - 1) tokens tokens read (omega arith) (omega arith) complete (λ x h. h)

  keyword_operand_soundness : (w : Keyword) (past : List TokenKind)
      → Sound (ChildRead d (token.Keyword w ∷ past)) (d - 1) (token.Keyword w ∷ past)
      (keyword_child d inner w (token.Keyword w ∷ past))
  unfolding keyword_child
  keyword_operand_soundness keyword.Identity past =
      leaf (token.Keyword keyword.Identity ∷ past) _ (identity_soundness d past)
  keyword_operand_soundness keyword.FileReader past =
      leaf (token.Keyword keyword.FileReader ∷ past) _
      (file_child d keyword.FileReader tree.FileReader past (λ text rest. refl) (λ text. tt)
      (λ text. refl))
  keyword_operand_soundness keyword.FileWriter past =
      leaf (token.Keyword keyword.FileWriter ∷ past) _
      (file_child d keyword.FileWriter tree.FileWriter past (λ text rest. refl) (λ text. tt)
      (λ text. refl))
  keyword_operand_soundness keyword.Int past = typed_soundness (token.Keyword keyword.Int ∷ past)
  keyword_operand_soundness keyword.Void past = typed_soundness (token.Keyword keyword.Void ∷ past)
  keyword_operand_soundness w past = composite_soundness None (token.Keyword w ∷ past)
      (token.Keyword w ∷ past) refl (omega arith)

  child_soundness : (tokens : List TokenKind)
      → Sound (ChildRead d tokens) (d - 1) tokens (child d inner tokens)
  unfolding child
  child_soundness [] = omega arith
  child_soundness (token.Name x ∷ rest) = leaf (token.Name x ∷ rest) _ (named_soundness d x rest)
  child_soundness (token.Keyword w ∷ rest) = keyword_operand_soundness w rest
  child_soundness (token.Punctuation m ∷ rest) = omega arith
  child_soundness (token.Number n ∷ rest) = omega arith
  child_soundness (token.StringLiteral t ∷ rest) = omega arith

-- ---- statements of composite streams

-- a statement of a composite stream, the height of its part and what follows it
record ComposedRead (depth : ℕ) (tokens : List TokenKind)
    (x : tree.Composition × ℕ × List TokenKind) : Type 0 where
  spelled : tokens ≡ composition_spelled x.0 x.2
  shape : IsComposition x.0
  high : x.1 ≡ composition_height x.0
  low : x.1 ≤ depth

-- weights after the keyword that gives them out
record WeightsRead (limit : ℕ) (tokens : List TokenKind)
    (x : Option (List tree.Expr) × ℕ × List TokenKind) : Type 0 where
  spelled : tokens ≡ token.Keyword keyword.Roundrobin ∷ arguments_spelled x.0 x.2
  read : ArgumentsRead limit (tail tokens) x

weights_soundness : (limit : ℕ) (tokens : List TokenKind)
    → Sound (WeightsRead limit tokens) limit tokens (weights limit tokens)
unfolding weights
weights_soundness limit tokens =
    Sound-expect_keyword (WeightsRead limit tokens) limit tokens keyword.Roundrobin tokens _
    (omega arith) (λ past e.
    let one : length tokens ≡ suc (length past) = ap count e in
    Sound-on (ArgumentsRead limit past) (WeightsRead limit tokens) limit limit past tokens
    (arguments limit past) (omega arith) (omega arith) (arguments_soundness limit past)
    (λ x given.
    let same : past ≡ tail tokens = sym (ap tail e) in
    record {
      spelled = e ∙ ap (λ (ts : List TokenKind). token.Keyword keyword.Roundrobin ∷ ts)
          given.spelled;
      read = subst (λ (ts : List TokenKind). ArgumentsRead limit ts x) same given;
    }))

-- how items are split, the height of the highest weight and what follows it
record SplitterRead (limit : ℕ) (tokens : List TokenKind)
    (x : tree.Splitter × ℕ × List TokenKind) : Type 0 where
  spelled : tokens ≡ splitter_spelled x.0 x.2
  shape : IsSplitter x.0
  high : x.1 + 1 ≡ splitter_height x.0
  low : x.1 ≤ limit

splitter_soundness : (limit : ℕ) (tokens : List TokenKind)
    → Sound (SplitterRead limit tokens) limit tokens (splitter limit tokens)
unfolding splitter
splitter_soundness limit tokens =
    let Q : tree.Splitter × ℕ × List TokenKind → Type 0 = SplitterRead limit tokens in
    elim (cases_Bool (is_keyword keyword.Duplicate tokens)) [
      | inl is ↦
          let starts = keyword_is keyword.Duplicate tokens is in
          let past : List TokenKind = tail tokens in
          let one : length tokens ≡ suc (length past) = ap count starts in
          let P : Brackets × List TokenKind → Type 0 = λ y. past ≡ brackets_spelled y.0 y.1 in
          let read = Sound-then P Q limit tokens (empty_brackets past)
          (λ pair. Ok (tree.Duplicate pair.0, 0, pair.1))
          (Sound-on P P limit limit past tokens (empty_brackets past) (omega arith) (omega arith)
          (brackets_soundness limit past) (λ x h. h))
          (λ x e. record {
            spelled = starts
                ∙ ap (λ (ts : List TokenKind). token.Keyword keyword.Duplicate ∷ ts) e;
            shape =
                tt;
            high = refl;
            low = omega arith;
          }) in
          rw is read
      | inr is ↦
          let read = Sound-then (WeightsRead limit tokens) Q limit tokens (weights limit tokens)
          (λ read. Ok (tree.Roundrobin read.0, read.1, read.2))
          (weights_soundness limit tokens)
          (λ x given. record {
            spelled = given.spelled;
            shape = given.read.shape;
            high =
                ap (λ (n : ℕ). n + 1) given.read.high;
            low = given.read.low;
          }) in
          rw is read
    ]

splitter_long : (s : tree.Splitter) (rest : List TokenKind)
    → splitter_height s + length rest ≤ length (splitter_spelled s rest)
splitter_long (tree.Duplicate pair) rest = omega (arith, brackets_length pair rest)
splitter_long (tree.Roundrobin given) rest = omega (arith, arguments_length given rest)

module _ (d : ℕ) where
  less : suc d - 1 ≡ d
  less = omega arith

  split_soundness : (past : List TokenKind)
      → Sound (ComposedRead (suc d) (token.Keyword keyword.Split ∷ past)) d
      (token.Keyword keyword.Split ∷ past) (split (suc d) past)
  unfolding split
  split_soundness past =
      let all : List TokenKind = token.Keyword keyword.Split ∷ past in
      let Q : tree.Composition × ℕ × List TokenKind → Type 0 = ComposedRead (suc d) all in
      rw less (Sound-then (SplitterRead d past) Q d all (splitter d past) _
      (Sound-on (SplitterRead d past) (SplitterRead d past) d d past all (splitter d past)
      (omega arith) (omega arith) (splitter_soundness d past) (λ x h. h)) (λ x s.
      Sound-expect Q d all punctuation.Semicolon x.2 _
      (omega (arith, ap count s.spelled, splitter_long x.0 x.2)) (λ rest e.
      Sound-raised Q d all (suc d) x.1 _
      (λ lt. record {
        spelled = ap (λ (ts : List TokenKind). token.Keyword keyword.Split ∷ ts)
            (s.spelled ∙ ap (λ (ts : List TokenKind). splitter_spelled x.0 ts) e);
        shape = s.shape;
        high = s.high;
        low = omega arith;
      }) (λ le. absurd (omega (arith, s.low))))))

  join_soundness : (past : List TokenKind)
      → Sound (ComposedRead (suc d) (token.Keyword keyword.Join ∷ past)) d
      (token.Keyword keyword.Join ∷ past) (join (suc d) past)
  unfolding join
  join_soundness past =
      let all : List TokenKind = token.Keyword keyword.Join ∷ past in
      let Q : tree.Composition × ℕ × List TokenKind → Type 0 = ComposedRead (suc d) all in
      rw less (Sound-then (WeightsRead d past) Q d all (weights d past) _
      (Sound-on (WeightsRead d past) (WeightsRead d past) d d past all (weights d past)
      (omega arith) (omega arith) (weights_soundness d past) (λ x h. h)) (λ x given.
      Sound-expect Q d all punctuation.Semicolon x.2 _
      (omega (arith, ap count given.spelled, arguments_length x.0 x.2)) (λ rest e.
      Sound-raised Q d all (suc d) x.1 _
      (λ lt. record {
        spelled = ap (λ (ts : List TokenKind). token.Keyword keyword.Join ∷ ts)
            (given.spelled ∙ ap (λ (ts : List TokenKind). token.Keyword keyword.Roundrobin
            ∷ arguments_spelled x.0 ts) e);
        shape = given.read.shape;
        high = ap (λ (n : ℕ). n + 1) given.read.high;
        low = omega arith;
      }) (λ le. absurd (omega (arith, given.read.low))))))

  enqueue_soundness : (past : List TokenKind)
      → Sound (ComposedRead (suc d) (token.Keyword keyword.Enqueue ∷ past)) d
      (token.Keyword keyword.Enqueue ∷ past) (enqueue (suc d) past)
  unfolding enqueue
  enqueue_soundness past =
      let all : List TokenKind = token.Keyword keyword.Enqueue ∷ past in
      let Q : tree.Composition × ℕ × List TokenKind → Type 0 = ComposedRead (suc d) all in
      rw less (Sound-then (ClosedRead d punctuation.Semicolon past) Q d all
      (closed (expression d) punctuation.Semicolon past) _
      (Sound-on (ClosedRead d punctuation.Semicolon past)
      (ClosedRead d punctuation.Semicolon past) d d past all
      (closed (expression d) punctuation.Semicolon past) (omega arith) (omega arith)
      (closed_soundness d (expression d) (expression_soundness d) punctuation.Semicolon past)
      (λ x h. h)) (λ x value. record {
        spelled = ap (λ (ts : List TokenKind). token.Keyword keyword.Enqueue ∷ ts) value.spelled;
        shape = value.shape;
        high = value.high;
        low = omega (arith, value.low);
      }))

  module _ (inner : Inner) (sound : (tokens : List TokenKind)
      → Sound (StmtRead d tokens) (d - 1) tokens (inner tokens)) where
    child_for_soundness : (o : Role) (w : Keyword) (past : List TokenKind)
        → token.Keyword w ≡ role_keyword o
        → Sound (ComposedRead (suc d) (token.Keyword w ∷ past)) d (token.Keyword w ∷ past)
        (child_for (suc d) inner o past)
    unfolding child_for
    child_for_soundness o w past same =
        let all : List TokenKind = token.Keyword w ∷ past in
        let Q : tree.Composition × ℕ × List TokenKind → Type 0 = ComposedRead (suc d) all in
        rw less (Sound-then (ChildRead d past) Q d all (child d inner past) _
        (Sound-on (ChildRead d past) (ChildRead d past) (d - 1) d past all (child d inner past)
        (omega arith) (omega arith) (child_soundness d inner sound past) (λ x h. h)) (λ x c.
        Sound-raised Q d all (suc d) x.1 _
        (λ lt. record {
          spelled = ap (λ (t : TokenKind). t ∷ past) same
              ∙ ap (λ (ts : List TokenKind). role_keyword o ∷ ts) c.spelled;
          shape = c.shape;
          high = ap (λ (n : ℕ). n + 1) c.high ∙ sym (height_above x.0);
          low = omega arith;
        }) (λ le. absurd (omega (arith, c.low)))))

    composition_soundness : (w : Keyword) (past : List TokenKind)
        → Sound (ComposedRead (suc d) (token.Keyword w ∷ past)) d (token.Keyword w ∷ past)
        (composition (suc d) inner w (token.Keyword w ∷ past))
    unfolding composition
    composition_soundness keyword.Add past = child_for_soundness role.Add keyword.Add past refl
    composition_soundness keyword.Body past = child_for_soundness role.Body keyword.Body past refl
    composition_soundness keyword.Loop past = child_for_soundness role.Loop keyword.Loop past refl
    composition_soundness keyword.Split past = split_soundness past
    composition_soundness keyword.Join past = join_soundness past
    composition_soundness keyword.Enqueue past = enqueue_soundness past
    composition_soundness w past = omega arith

    pub compose_soundness : (w : Keyword) (past : List TokenKind)
        → Sound (StmtRead (suc d) (token.Keyword w ∷ past)) d (token.Keyword w ∷ past)
        (compose (suc d) inner w (token.Keyword w ∷ past))
    unfolding compose
    compose_soundness w past =
        let all : List TokenKind = token.Keyword w ∷ past in
        let Q : tree.Stmt × ℕ × List TokenKind → Type 0 = StmtRead (suc d) all in
        Sound-then (ComposedRead (suc d) all) Q d all (composition (suc d) inner w all) _
        (composition_soundness w past) (λ x c.
        Sound-raised Q d all (suc d) x.1 _
        (λ lt. record {
          spelled = c.spelled;
          shape = c.shape;
          high = ap (λ (n : ℕ). n + 1) c.high;
          low = omega arith;
          free = λ takes. absurd cc;
        }) (λ le. omega (arith, c.high, ap count c.spelled, composition_length x.0 c.shape x.2)))
