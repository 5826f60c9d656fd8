-- A text has one list of tokens, which spell one program.
use Rattle.std.proofs.Common.{◌≡◌, ℕ, List, ap, ◌∙◌, sym, subst, arith}
use Rattle.strc_lex.specs.declared.token.Token.{Token}
use Rattle.strc_lex.proofs.Lexing.{lexes_only, stuck_lexes}
use Rattle.strc_parse_grammar.specs.Grammar.{Parses, kinds}
use Rattle.strc_parse_grammar.proofs.Exact.{unambiguous}
use Rattle.strc_parse.specs.Texts.{HasTokens, SpellsOneProgram, SpelledTextsAreReadable}

same_tokens : (text : List ℕ) (one other : List Token) → HasTokens text one → HasTokens text other
    → one ≡ other
same_tokens text one other h g = lexes_only text 0 one other h.lexes g.lexes

pub one_program : SpellsOneProgram
one_program text one other h g =
    let same = same_tokens text h.tokens g.tokens h.has_tokens g.has_tokens in
    unambiguous one other h.parses.1 g.parses.1
    (sym h.parses.0 ∙ ap kinds same ∙ g.parses.0)

pub readable : SpelledTextsAreReadable
readable text program spells = record {
  short = λ long. let short = spells.has_tokens.short in absurd (omega (arith, short, long));
  lexes = λ at stops. stuck_lexes text 0 at stops.1.tokens spells.tokens stops.1.front
      stops.1.stuck spells.has_tokens.lexes;
  parses = λ token none.
      let same = same_tokens text none.0 spells.tokens none.1 spells.has_tokens in
      none.2.1 program spells.parses.1 (ap kinds same ∙ spells.parses.0);
  nests = λ none.
      let same = same_tokens text spells.tokens none.0 spells.has_tokens none.1 in
      none.2.1 program (subst (λ (tokens : List Token). Parses (kinds tokens) program) same
      spells.parses);
}
