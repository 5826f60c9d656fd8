-- A program's spelling is read again.
use Rattle.std.proofs.Common.{◌≡◌, ℕ, ◌+◌, ◌≤◌, List, [], ◌∷◌, length, Option, Some, None, Ok, refl}
use Rattle.std.proofs.Common.{arith}
use Rattle.std.specs.List.{AllByRecursion}
use Rattle.strc_lex.specs.declared.token.TokenKind.{TokenKind}
use Rattle.strc_lex.specs.declared.token.TokenKind.TheVariants as token
use Rattle.strc_lex.specs.declared.token.Keyword.TheVariants as keyword
use Rattle.strc_lex.specs.declared.token.Punctuation.TheVariants as punctuation
use Rattle.strc_parse_tree.specs.declared.tree.StreamType.{StreamType}
use Rattle.strc_parse_tree.specs.declared.tree.CompositeKind.{CompositeKind}
use Rattle.strc_parse_tree.specs.Tree as tree
use Rattle.strc_parse_grammar.specs.Grammar.{row_spelled, block_spelled, each_spelled}
use Rattle.strc_parse_grammar.specs.Grammar.{member_spelled}
use Rattle.strc_parse_grammar.specs.Grammar.{kind_keyword, parameters_spelled, stream_spelled}
use Rattle.strc_parse_grammar.specs.Grammar.{declaration_spelled, spelling, AreStmts, IsMember}
use Rattle.strc_parse_grammar.specs.Grammar.{IsStream}
use Rattle.strc_parse_grammar.specs.Grammar.{IsTree, row_height, member_height, highest}
use Rattle.strc_parse_grammar.specs.Grammar.{stream_height}
use Rattle.strc_parse_grammar.specs.Grammar.{declaration_height, height}
use Rattle.strc_parse_grammar.specs.Reading.{is_keyword, name}
use Rattle.strc_parse_grammar.specs.Streams.{heading, filter, composite, stream, declaration}
use Rattle.strc_parse_grammar.specs.Streams.{at_end}
use Rattle.strc_parse_grammar.specs.Streams.{declarations}
use Rattle.strc_parse_grammar.proofs.Completeness.{Complete, Complete-then, expect_punctuation}
use Rattle.strc_parse_grammar.proofs.Completeness.{Complete-done}
use Rattle.strc_parse_grammar.proofs.Lists.{ItemCompleteness, each_completeness}
use Rattle.strc_parse_grammar.proofs.ArgumentCompleteness.{parameters_completeness}
use Rattle.strc_parse_grammar.proofs.ArgumentCompleteness.{stream_type_completeness, kind_read}
use Rattle.strc_parse_grammar.proofs.ArgumentCompleteness.{kind_is_no_filter}
use Rattle.strc_parse_grammar.proofs.StatementCompleteness.{listed, row_listed, row_length}
use Rattle.strc_parse_grammar.proofs.StatementCompleteness.{member_length}
use Rattle.strc_parse_grammar.proofs.StatementCompleteness.{listed_parameters_length}
use Rattle.strc_parse_grammar.proofs.TreeCompleteness.{statements_completeness}
use Rattle.strc_parse_grammar.proofs.TreeCompleteness.{members_completeness}

pub parameters_length : (given : Option (List (List ℕ))) (rest : List TokenKind)
    → length rest ≤ length (parameters_spelled given rest)
parameters_length None rest = omega arith
parameters_length (Some xs) rest = omega (
  arith,
  listed_parameters_length xs (token.Punctuation punctuation.CloseParen ∷ rest),
)

pub members_length : (items : List tree.Member) → AllByRecursion IsMember items
    → (rest : List TokenKind) → length rest ≤ length (each_spelled member_spelled items rest)
members_length [] shape rest = omega arith
members_length (m ∷ others) shape rest = omega (
  arith,
  member_length m shape.0 (each_spelled member_spelled others rest),
  members_length others shape.1 rest,
)

-- a declared stream takes a token at least
pub declaration_length : (x : List ℕ) (given : Option (List (List ℕ))) (s : tree.Stream)
    → IsStream s → (rest : List TokenKind)
    → length rest + 1 ≤ length (stream_spelled x given s rest)
declaration_length x given (tree.Filter i o items) shape rest =
    let end : List TokenKind = token.Punctuation punctuation.CloseBrace ∷ rest in
    omega (
      arith,
      members_length items shape end,
      parameters_length given (token.Punctuation punctuation.OpenBrace
          ∷ each_spelled member_spelled items end),
    )
declaration_length x given (tree.Composite types kind block) shape rest =
    omega (
      arith,
      row_length block shape (token.Punctuation punctuation.CloseBrace ∷ rest),
      parameters_length given (block_spelled block rest),
    )

heading_completeness : (x : List ℕ) (given : Option (List (List ℕ))) (rest : List TokenKind)
    → heading (token.Name x ∷ parameters_spelled given
    (token.Punctuation punctuation.OpenBrace ∷ rest)) ≡ Ok ((x, given), rest)
unfolding heading name
heading_completeness x given rest = rw (
  parameters_completeness given rest,
  expect_punctuation punctuation.OpenBrace rest,
) refl

-- a declaration that was read
abbrev declared : List ℕ → Option (List (List ℕ)) → tree.Stream → tree.Declaration
declared x given s = record { name = x; parameters = given; stream = s }

module _ (limit : ℕ) (x : List ℕ) (given : Option (List (List ℕ))) (rest : List TokenKind) where
  filter_completeness : (types : StreamType) (items : List tree.Member)
      → AllByRecursion IsMember items
      → Complete limit (highest member_height items)
      (declared x given (tree.Filter types.input types.output items), rest)
      (filter limit types (token.Name x ∷ parameters_spelled given
      (token.Punctuation punctuation.OpenBrace
      ∷ each_spelled member_spelled items (token.Punctuation punctuation.CloseBrace ∷ rest))))
  unfolding filter
  filter_completeness types items shape =
      let high : ℕ = highest member_height items in
      rw (heading_completeness x given (each_spelled member_spelled items
      (token.Punctuation punctuation.CloseBrace ∷ rest)))
      (Complete-then limit high high ((items, high), rest) _ _ _
      (members_completeness items shape limit rest) (omega arith)
      (λ low. Complete-done limit high _ _ low refl))

  composite_completeness : (types : StreamType) (kind : CompositeKind) (block : tree.Stmts)
      → AreStmts block
      → Complete limit (row_height block) (declared x given (tree.Composite types kind block), rest)
      (composite limit types kind (token.Name x
      ∷ parameters_spelled given (block_spelled block rest)))
  unfolding composite
  composite_completeness types kind block shape =
      let high : ℕ = row_height block in
      rw (heading_completeness x given (row_spelled block
      (token.Punctuation punctuation.CloseBrace ∷ rest)))
      (Complete-then limit high high ((listed block, high), rest)
      (declared x given (tree.Composite types kind block), rest) _ _
      (statements_completeness block shape limit rest) (omega arith)
      (λ low. rw (row_listed block) (Complete-done limit high
      (declared x given (tree.Composite types kind block), rest) _ low refl)))

  declaration_reads : (s : tree.Stream) → IsStream s
      → Complete limit (stream_height s) (declared x given s, rest)
      (declaration limit (stream_spelled x given s rest))
  unfolding declaration stream is_keyword
  declaration_reads (tree.Filter i o items) shape =
      let types : StreamType = record { input = i; output = o } in
      let past : List TokenKind = token.Name x
      ∷ parameters_spelled given (token.Punctuation punctuation.OpenBrace
      ∷ each_spelled member_spelled items
      (token.Punctuation punctuation.CloseBrace ∷ rest)) in
      rw (stream_type_completeness types (token.Keyword keyword.Filter ∷ past))
      (filter_completeness types items shape)
  declaration_reads (tree.Composite types kind block) shape =
      let past : List TokenKind = token.Name x
      ∷ parameters_spelled given (block_spelled block rest) in
      rw (
        stream_type_completeness types (kind_keyword kind ∷ past),
        kind_is_no_filter kind past,
        kind_read kind past,
      ) (composite_completeness types kind block shape)

  declaration_stays : (s : tree.Stream) → at_end (stream_spelled x given s rest) ≡ None
  unfolding at_end
  declaration_stays (tree.Filter i o items) = refl
  declaration_stays (tree.Composite types kind block) = refl

module _ (limit : ℕ) where
  abbrev IsDeclarationCompleteness : tree.Declaration → Type 0
  IsDeclarationCompleteness d = ItemCompleteness declaration_spelled declaration_height
      (declaration limit) at_end limit d

  declarations_facts : (program : List tree.Declaration) → IsTree program
      → AllByRecursion IsDeclarationCompleteness program
  declarations_facts [] shape = tt
  declarations_facts (d ∷ others) shape = (
    record {
      reads = λ rest. declaration_reads limit d.name d.parameters rest d.stream shape.0;
      stays = λ rest. declaration_stays limit d.name d.parameters rest d.stream;
      long = λ rest. declaration_length d.name d.parameters d.stream shape.0 rest;
    },
    declarations_facts others shape.1,
  )

  -- a whole program
  pub program_completeness : (program : List tree.Declaration) → IsTree program
      → Complete limit (height program) (program, []) (declarations limit (spelling program))
  unfolding declarations at_end
  program_completeness program shape =
      each_completeness declaration_spelled declaration_height
      (declaration limit) at_end limit program (declarations_facts program shape) []
      (length (spelling program) + 1) [] [] refl (omega arith)
