-- The statements of composite streams are read again, by what holds of the statements in them.
use Rattle.std.proofs.Common.{◌≡◌, ℕ, suc, ◌+◌, ◌-◌, List, ◌∷◌, Option, Some, None, refl, arith}
use Rattle.std.specs.List.{AllByRecursion}
use Rattle.strc_lex.specs.declared.token.TokenKind.{TokenKind}
use Rattle.strc_lex.specs.declared.token.TokenKind.TheVariants as token
use Rattle.strc_lex.specs.declared.token.Keyword.{Keyword}
use Rattle.strc_lex.specs.declared.token.Keyword.TheVariants as keyword
use Rattle.strc_lex.specs.declared.token.Punctuation.TheVariants as punctuation
use Rattle.strc_parse_tree.specs.declared.tree.ItemType.{ItemType}
use Rattle.strc_parse_tree.specs.declared.tree.ItemType.TheVariants as item
use Rattle.strc_parse_tree.specs.declared.tree.StreamType.{StreamType}
use Rattle.strc_parse_tree.specs.declared.tree.CompositeKind.{CompositeKind}
use Rattle.strc_parse_tree.specs.declared.tree.CompositeKind.TheVariants as composite
use Rattle.strc_parse_tree.specs.declared.tree.Role.{Role}
use Rattle.strc_parse_tree.specs.declared.tree.Role.TheVariants as role
use Rattle.strc_parse_tree.specs.declared.tree.Brackets.{Brackets}
use Rattle.strc_parse_tree.specs.Tree as tree
use Rattle.strc_parse_grammar.specs.Grammar.{expr_spelled, brackets_spelled, arguments_spelled}
use Rattle.strc_parse_grammar.specs.Grammar.{splitter_spelled, kind_keyword, type_keyword}
use Rattle.strc_parse_grammar.specs.Grammar.{block_spelled}
use Rattle.strc_parse_grammar.specs.Grammar.{members_spelled, child_spelled, stmt_spelled}
use Rattle.strc_parse_grammar.specs.Grammar.{lowest_precedence, IsExpr, AreArguments, IsSplitter}
use Rattle.strc_parse_grammar.specs.Grammar.{IsComposition, IsChild, expr_height, arguments_height}
use Rattle.strc_parse_grammar.specs.Grammar.{splitter_height, row_height, members_height}
use Rattle.strc_parse_grammar.specs.Grammar.{composition_height, child_height, stmt_height}
use Rattle.strc_parse_grammar.specs.Reading.{is_keyword}
use Rattle.strc_parse_grammar.specs.Streams.{Inner, statement, members, named_child, identity}
use Rattle.strc_parse_grammar.specs.Streams.{anonymous_filter, anonymous_composite, after_type}
use Rattle.strc_parse_grammar.specs.Streams.{typed_child, keyword_child, child, child_for, weights}
use Rattle.strc_parse_grammar.specs.Streams.{splitter, split, join, enqueue, composition, compose}
use Rattle.strc_parse_grammar.specs.Streams.{keyword_statement, shallow}
use Rattle.strc_parse_grammar.proofs.Completeness.{Complete, Complete-then, Complete-inside}
use Rattle.strc_parse_grammar.proofs.Completeness.{Complete-raised, expect_punctuation}
use Rattle.strc_parse_grammar.proofs.Completeness.{expect_keyword_lem, Complete-done}
use Rattle.strc_parse_grammar.proofs.ExpressionCompleteness.{closed_completeness}
use Rattle.strc_parse_grammar.proofs.ListedCompleteness.{found}
use Rattle.strc_parse_grammar.proofs.Stops.{Stops-semicolon}
use Rattle.strc_parse_grammar.proofs.SimpleCompleteness.{made}
use Rattle.strc_parse_grammar.proofs.ArgumentCompleteness.{arguments_completeness}
use Rattle.strc_parse_grammar.proofs.ArgumentCompleteness.{brackets_completeness}
use Rattle.strc_parse_grammar.proofs.ArgumentCompleteness.{stream_type_completeness, kind_read}
use Rattle.strc_parse_grammar.proofs.ArgumentCompleteness.{kind_is_no_filter}
use Rattle.strc_parse_grammar.proofs.ArgumentCompleteness.{int_items_completeness}
use Rattle.strc_parse_grammar.proofs.ArgumentCompleteness.{file_completeness}
use Rattle.strc_parse_grammar.proofs.MemberCompleteness.{BlockCompleteness, MemberCompleteness}
use Rattle.strc_parse_grammar.proofs.MemberCompleteness.{braced_completeness, unchained}
use Rattle.strc_parse_grammar.proofs.MemberCompleteness.{chain_unchained}
use Rattle.strc_parse_grammar.proofs.MemberCompleteness.{spelled_unchained, height_unchained}
use Rattle.strc_parse_grammar.proofs.MemberCompleteness.{members_completeness}

-- ---- children

-- the height of the highest part of a child, or 0
abbrev pub inside_height : tree.Child → ℕ
inside_height (tree.Named x given) = arguments_height given
inside_height (tree.Identity pair) = 0
inside_height (tree.FileReader text) = 0
inside_height (tree.FileWriter text) = 0
inside_height (tree.AnonymousFilter types ms) = members_height ms
inside_height (tree.AnonymousComposite types kind block) = row_height block

pub height_above : (c : tree.Child) → child_height c ≡ inside_height c + 1
height_above (tree.Named x given) = refl
height_above (tree.Identity pair) = refl
height_above (tree.FileReader text) = refl
height_above (tree.FileWriter text) = refl
height_above (tree.AnonymousFilter types ms) = refl
height_above (tree.AnonymousComposite types kind block) = refl

-- a child that was read, with the height of its highest part
abbrev pub taken : tree.Child → List TokenKind → tree.Child × ℕ × List TokenKind
taken c rest = (c, inside_height c, rest)

type_begins : (i : ItemType) (limit : ℕ) (inner : Inner) (rest : List TokenKind)
    → child limit inner (type_keyword i ∷ rest) ≡ typed_child limit inner (type_keyword i ∷ rest)
unfolding child keyword_child
type_begins item.Int limit inner rest = refl
type_begins item.Void limit inner rest = refl

kind_begins : (kind : CompositeKind) (limit : ℕ) (inner : Inner) (rest : List TokenKind)
    → child limit inner (kind_keyword kind ∷ rest)
    ≡ anonymous_composite inner None (kind_keyword kind ∷ rest)
unfolding child keyword_child
kind_begins composite.Pipeline limit inner rest = refl
kind_begins composite.Splitjoin limit inner rest = refl
kind_begins composite.Feedbackloop limit inner rest = refl

module _ (d : ℕ) (rest : List TokenKind) where
  named_completeness : (x : List ℕ) (given : Option (List tree.Expr)) → AreArguments given
      → Complete d (arguments_height given) (taken (tree.Named x given) rest)
      (child d (statement d) (child_spelled (tree.Named x given) rest))
  unfolding child named_child
  named_completeness x given shape =
      let high : ℕ = arguments_height given in
      Complete-then d high high (given, high, token.Punctuation punctuation.Semicolon ∷ rest)
      (taken (tree.Named x given) rest) _ _ (arguments_completeness d given shape rest)
      (omega arith)
      (λ low. rw (expect_punctuation punctuation.Semicolon rest)
      (Complete-done d high (taken (tree.Named x given) rest) _ low refl))

  identity_completeness : (pair : Brackets)
      → Complete d 0 (taken (tree.Identity pair) rest)
      (child d (statement d) (child_spelled (tree.Identity pair) rest))
  unfolding child keyword_child identity
  identity_completeness pair =
      rw (
        int_items_completeness (brackets_spelled pair
            (token.Punctuation punctuation.Semicolon ∷ rest)),
        brackets_completeness pair rest,
        expect_punctuation punctuation.Semicolon rest,
      )
      (Complete-done d 0 (taken (tree.Identity pair) rest) _ (omega arith) refl)

  reader_completeness : (text : List ℕ) → Complete d 0 (taken (tree.FileReader text) rest)
      (child d (statement d) (child_spelled (tree.FileReader text) rest))
  unfolding child keyword_child
  reader_completeness text = rw (file_completeness text rest)
      (Complete-done d 0 (taken (tree.FileReader text) rest) _ (omega arith) refl)

  writer_completeness : (text : List ℕ) → Complete d 0 (taken (tree.FileWriter text) rest)
      (child d (statement d) (child_spelled (tree.FileWriter text) rest))
  unfolding child keyword_child
  writer_completeness text = rw (file_completeness text rest)
      (Complete-done d 0 (taken (tree.FileWriter text) rest) _ (omega arith) refl)

  -- after the keyword
  unnamed_completeness : (types : StreamType) (ms : tree.Members)
      → AllByRecursion MemberCompleteness (unchained ms)
      → Complete d (members_height ms) (taken (tree.AnonymousFilter types ms) rest)
      (anonymous_filter d (statement d) types
      (token.Punctuation punctuation.OpenBrace
      ∷ members_spelled ms (token.Punctuation punctuation.CloseBrace ∷ rest)))
  unfolding anonymous_filter
  unnamed_completeness types ms complete =
      let end : List TokenKind = token.Punctuation punctuation.CloseBrace ∷ rest in
      let high : ℕ = members_height ms in
      let all : tree.Child × ℕ × List TokenKind = taken (tree.AnonymousFilter types ms) rest in
      let read = members_completeness d (unchained ms) complete rest in
      let inside : Complete d high ((unchained ms, high), rest)
      (members d (statement d) (members_spelled ms end)) =
      rw (spelled_unchained ms end, height_unchained ms) at read in
      rw (expect_punctuation punctuation.OpenBrace (members_spelled ms end))
      (Complete-then d high high ((unchained ms, high), rest) all _ _ inside (omega arith)
      (λ low. rw (chain_unchained ms) (Complete-done d high all _ low refl)))

  filter_completeness : (types : StreamType) (ms : tree.Members)
      → AllByRecursion MemberCompleteness (unchained ms)
      → Complete d (members_height ms) (taken (tree.AnonymousFilter types ms) rest)
      (child d (statement d) (child_spelled (tree.AnonymousFilter types ms) rest))
  unfolding typed_child after_type is_keyword
  filter_completeness types ms complete =
      let past : List TokenKind = token.Keyword keyword.Filter
      ∷ token.Punctuation punctuation.OpenBrace
      ∷ members_spelled ms (token.Punctuation punctuation.CloseBrace ∷ rest) in
      rw (
        type_begins types.input d (statement d)
            (token.Punctuation punctuation.Arrow ∷ type_keyword types.output ∷ past),
        stream_type_completeness types past,
      ) (unnamed_completeness types ms complete)

  -- at its kind
  kind_completeness : (types : Option StreamType) (kind : CompositeKind) (block : tree.Stmts)
      → BlockCompleteness block
      → Complete d (row_height block) (taken (tree.AnonymousComposite types kind block) rest)
      (anonymous_composite (statement d) types (kind_keyword kind ∷ block_spelled block rest))
  unfolding anonymous_composite
  kind_completeness types kind block complete =
      let high : ℕ = row_height block in
      rw (kind_read kind (block_spelled block rest))
      (Complete-then d high high (block, high, rest)
      (taken (tree.AnonymousComposite types kind block) rest) _ _
      (braced_completeness d block complete rest) (omega arith)
      (λ low. Complete-done d high (taken (tree.AnonymousComposite types kind block) rest) _ low
      refl))

  composite_completeness : (types : Option StreamType) (kind : CompositeKind) (block : tree.Stmts)
      → BlockCompleteness block
      → Complete d (row_height block) (taken (tree.AnonymousComposite types kind block) rest)
      (child d (statement d) (child_spelled (tree.AnonymousComposite types kind block) rest))
  unfolding typed_child after_type
  composite_completeness None kind block complete =
      rw (kind_begins kind d (statement d) (block_spelled block rest))
      (kind_completeness None kind block complete)
  composite_completeness (Some types) kind block complete =
      let past : List TokenKind = kind_keyword kind ∷ block_spelled block rest in
      rw (
        type_begins types.input d (statement d)
            (token.Punctuation punctuation.Arrow ∷ type_keyword types.output ∷ past),
        stream_type_completeness types past,
        kind_is_no_filter kind (block_spelled block rest),
      )
      (kind_completeness (Some types) kind block complete)

-- the statements and the members of a child are read again
abbrev pub WithinCompleteness : tree.Child → Type 0
WithinCompleteness (tree.AnonymousFilter types ms) =
    AllByRecursion MemberCompleteness (unchained ms)
WithinCompleteness (tree.AnonymousComposite types kind block) = BlockCompleteness block
WithinCompleteness _ = Unit {0}

child_completeness : (c : tree.Child) → IsChild c → WithinCompleteness c
    → (d : ℕ) (rest : List TokenKind) → Complete d (inside_height c) (taken c rest)
    (child d (statement d) (child_spelled c rest))
child_completeness (tree.Named x given) shape within d rest =
    named_completeness d rest x given shape
child_completeness (tree.Identity pair) shape within d rest = identity_completeness d rest pair
child_completeness (tree.FileReader text) shape within d rest = reader_completeness d rest text
child_completeness (tree.FileWriter text) shape within d rest = writer_completeness d rest text
child_completeness (tree.AnonymousFilter types ms) shape within d rest =
    filter_completeness d rest types ms within
child_completeness (tree.AnonymousComposite types kind block) shape within d rest =
    composite_completeness d rest types kind block within

-- ---- statements of composite streams

-- a statement of a composite stream that was read, with its height
abbrev part : tree.Composition → List TokenKind → tree.Composition × ℕ × List TokenKind
part c rest = (c, composition_height c, rest)

module _ (d : ℕ) (rest : List TokenKind) where
  less : suc d - 1 ≡ d
  less = omega arith

  for_completeness : (o : Role) (c : tree.Child) → IsChild c → WithinCompleteness c
      → Complete (suc d) (composition_height (tree.ChildOf o c)) (part (tree.ChildOf o c) rest)
      (child_for (suc d) (statement d) o (child_spelled c rest))
  unfolding child_for
  for_completeness o c shape within =
      rw (less, height_above c) (Complete-inside d (inside_height c) (inside_height c + 1)
      (taken c rest) (tree.ChildOf o c, inside_height c + 1, rest) _ _
      (child_completeness c shape within d rest) (omega arith)
      (λ low. Complete-raised (suc d) (inside_height c)
      (tree.ChildOf o c, inside_height c + 1, rest) _ refl))

  weights_completeness : (given : Option (List tree.Expr)) → AreArguments given
      → Complete d (arguments_height given)
      (given, arguments_height given, token.Punctuation punctuation.Semicolon ∷ rest)
      (weights d (token.Keyword keyword.Roundrobin
      ∷ arguments_spelled given (token.Punctuation punctuation.Semicolon ∷ rest)))
  unfolding weights
  weights_completeness given shape = rw (expect_keyword_lem keyword.Roundrobin
      (arguments_spelled given (token.Punctuation punctuation.Semicolon ∷ rest)))
      (arguments_completeness d given shape rest)

  join_completeness : (given : Option (List tree.Expr)) → AreArguments given
      → Complete (suc d) (arguments_height given + 1) (part (tree.Join given) rest)
      (join (suc d) (token.Keyword keyword.Roundrobin
      ∷ arguments_spelled given (token.Punctuation punctuation.Semicolon ∷ rest)))
  unfolding join
  join_completeness given shape =
      let high : ℕ = arguments_height given in
      rw less (Complete-inside d high (high + 1)
      (given, high, token.Punctuation punctuation.Semicolon ∷ rest)
      (part (tree.Join given) rest) _ _ (weights_completeness given shape) (omega arith)
      (λ low. rw (expect_punctuation punctuation.Semicolon rest)
      (Complete-raised (suc d) high (part (tree.Join given) rest) _ refl)))

  -- the height of the highest weight, or 0
  abbrev weight_height : tree.Splitter → ℕ
  weight_height (tree.Duplicate pair) = 0
  weight_height (tree.Roundrobin given) = arguments_height given

  splitter_completeness : (s : tree.Splitter) → IsSplitter s
      → Complete d (weight_height s) (
        s,
        weight_height s,
        token.Punctuation punctuation.Semicolon
            ∷ rest,
      ) (splitter d (splitter_spelled s (token.Punctuation punctuation.Semicolon ∷ rest)))
  unfolding splitter is_keyword
  splitter_completeness (tree.Duplicate pair) shape =
      rw (brackets_completeness pair rest)
      (Complete-done d 0 (tree.Duplicate pair, 0, token.Punctuation punctuation.Semicolon ∷ rest) _
      (omega arith) refl)
  splitter_completeness (tree.Roundrobin given) shape =
      let high : ℕ = arguments_height given in
      let all : tree.Splitter × ℕ × List TokenKind =
      (tree.Roundrobin given, high, token.Punctuation punctuation.Semicolon ∷ rest) in
      Complete-then d high high (given, high, token.Punctuation punctuation.Semicolon ∷ rest) all _
      _ (weights_completeness given shape) (omega arith)
      (λ low. Complete-done d high all _ low refl)

  splitter_above : (s : tree.Splitter) → splitter_height s ≡ weight_height s + 1
  splitter_above (tree.Duplicate pair) = refl
  splitter_above (tree.Roundrobin given) = refl

  split_completeness : (s : tree.Splitter) → IsSplitter s
      → Complete (suc d) (splitter_height s) (part (tree.Split s) rest)
      (split (suc d) (splitter_spelled s (token.Punctuation punctuation.Semicolon ∷ rest)))
  unfolding split
  split_completeness s shape =
      let high : ℕ = weight_height s in
      let all : tree.Composition × ℕ × List TokenKind = (tree.Split s, high + 1, rest) in
      rw (less, splitter_above s) (Complete-inside d high (high + 1)
      (s, high, token.Punctuation punctuation.Semicolon ∷ rest) all _ _
      (splitter_completeness s shape) (omega arith)
      (λ low. rw (expect_punctuation punctuation.Semicolon rest)
      (Complete-raised (suc d) high all _ refl)))

  enqueue_completeness : (e : tree.Expr) → IsExpr e
      → Complete d (expr_height e) (part (tree.Enqueue e) rest)
      (enqueue (suc d) (expr_spelled e (token.Punctuation punctuation.Semicolon ∷ rest)))
  unfolding enqueue
  enqueue_completeness e shape =
      rw less (Complete-then d (expr_height e) (expr_height e) (found e rest)
      (part (tree.Enqueue e) rest) _ _
      (closed_completeness e shape d punctuation.Semicolon rest
      (Stops-semicolon lowest_precedence rest)) (omega arith)
      (λ low. Complete-done d (expr_height e) (part (tree.Enqueue e) rest) _ low refl))

  -- the statement, by the reading of its part at either depth
  above_completeness : (c : tree.Composition) (w : Keyword) (tokens : List TokenKind)
      → Complete (suc d) (composition_height c) (part c rest)
      (composition (suc d) (statement d) w tokens)
      → Complete (suc d) (stmt_height (tree.Compose c)) (made (tree.Compose c) rest)
      (compose (suc d) (statement d) w tokens)
  unfolding compose
  above_completeness c w tokens complete =
      Complete-then (suc d) (composition_height c) (composition_height c + 1) (part c rest)
      (made (tree.Compose c) rest) _ _ complete (omega arith)
      (λ low. Complete-raised (suc d) (composition_height c) (made (tree.Compose c) rest) _ refl)

  below_completeness : (c : tree.Composition) (w : Keyword) (tokens : List TokenKind)
      → Complete d (composition_height c) (part c rest) (composition (suc d) (statement d) w tokens)
      → Complete (suc d) (stmt_height (tree.Compose c)) (made (tree.Compose c) rest)
      (compose (suc d) (statement d) w tokens)
  unfolding compose
  below_completeness c w tokens complete =
      Complete-inside d (composition_height c) (composition_height c + 1) (part c rest)
      (made (tree.Compose c) rest) _ _ complete (omega arith)
      (λ low. Complete-raised (suc d) (composition_height c) (made (tree.Compose c) rest) _ refl)

-- what is in the child is read again
abbrev pub PartCompleteness : tree.Composition → Type 0
PartCompleteness (tree.ChildOf o c) = WithinCompleteness c
PartCompleteness _ = Unit {0}

pub compose_completeness : (c : tree.Composition) → IsComposition c → PartCompleteness c
    → (d : ℕ) (rest : List TokenKind)
    → Complete (suc d) (stmt_height (tree.Compose c)) (made (tree.Compose c) rest)
    (shallow (suc d) (statement d) (stmt_spelled (tree.Compose c) rest))
unfolding shallow keyword_statement composition
compose_completeness (tree.ChildOf role.Add c) shape within d rest =
    above_completeness d rest (tree.ChildOf role.Add c) keyword.Add
    (token.Keyword keyword.Add ∷ child_spelled c rest)
    (for_completeness d rest role.Add c shape within)
compose_completeness (tree.ChildOf role.Body c) shape within d rest =
    above_completeness d rest (tree.ChildOf role.Body c) keyword.Body
    (token.Keyword keyword.Body ∷ child_spelled c rest)
    (for_completeness d rest role.Body c shape within)
compose_completeness (tree.ChildOf role.Loop c) shape within d rest =
    above_completeness d rest (tree.ChildOf role.Loop c) keyword.Loop
    (token.Keyword keyword.Loop ∷ child_spelled c rest)
    (for_completeness d rest role.Loop c shape within)
compose_completeness (tree.Split s) shape within d rest =
    above_completeness d rest (tree.Split s) keyword.Split
    (token.Keyword keyword.Split ∷ splitter_spelled s
    (token.Punctuation punctuation.Semicolon ∷ rest)) (split_completeness d rest s shape)
compose_completeness (tree.Join given) shape within d rest =
    above_completeness d rest (tree.Join given) keyword.Join
    (token.Keyword keyword.Join ∷ token.Keyword keyword.Roundrobin
    ∷ arguments_spelled given (token.Punctuation punctuation.Semicolon ∷ rest))
    (join_completeness d rest given shape)
compose_completeness (tree.Enqueue e) shape within d rest =
    below_completeness d rest (tree.Enqueue e) keyword.Enqueue
    (token.Keyword keyword.Enqueue ∷ expr_spelled e
    (token.Punctuation punctuation.Semicolon ∷ rest)) (enqueue_completeness d rest e shape)
