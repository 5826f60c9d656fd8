-- What is marked of a statement: its tokens up to its first block, or else with its first semicolon
-- outside of brackets.
use Rattle.std.specs.Prelude.{ℕ, suc, ◌-◌, ◌==◌, Bool, true, false, not, ◌&&◌, List, [], ◌∷◌}
use Rattle.std.specs.Prelude.{if◌then◌else◌}
use Rattle.strc_lex_names.specs.declared.place.Span.{Span}
use Rattle.strc_lex.specs.declared.token.Punctuation.TheVariants as mark
use Rattle.strc_lex.specs.declared.token.Token.{Token}
use Rattle.strc_lex.specs.declared.token.TokenKind.{TokenKind}
use Rattle.strc_cli_source.specs.Tokens.{is_mark, tokens_in}

-- how many round brackets are open after a token, of those that were before it
abbrev pub open_after : ℕ → TokenKind → ℕ
open_after brackets token = if is_mark mark.OpenParen token then suc brackets
    else if is_mark mark.CloseParen token then brackets - 1 else brackets

-- a token opens the block of a statement; one that is a block itself opens with its first token
abbrev pub begins_block : (is_first : Bool) → TokenKind → Bool
begins_block is_first token = not is_first && is_mark mark.OpenBrace token

-- a token is a semicolon outside of brackets, so many being open
abbrev pub ends_statement : ℕ → TokenKind → Bool
ends_statement brackets token = brackets == 0 && is_mark mark.Semicolon token

-- where a heading ends that goes on with these tokens, so many brackets being open
abbrev pub end_from : (is_first : Bool) (end brackets : ℕ) → List Token → ℕ
end_from is_first end brackets [] = end
end_from is_first end brackets (token ∷ rest) = if begins_block is_first token.kind then end
    else if ends_statement brackets token.kind then token.span.end
    else end_from false token.span.end (open_after brackets token.kind) rest

abbrev pub heading : Span → List Token → Span
heading place tokens = record {
  start = place.start;
  end = end_from true place.start 0 (tokens_in place tokens);
}
