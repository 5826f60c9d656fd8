-- A place that bytes spell begins with them.
use Rattle.std.proofs.Common.{ℕ, List, take, length, ap, ◌∙◌}
use Rattle.std.proofs.Math.Seq.{take-length}
use Rattle.strc_lex_names.specs.declared.place.Span.{Span}
use Rattle.strc_cli_source.specs.Spelling.{Spells, Begins}

pub spelled_begins : (text : List ℕ) (place : Span) (bytes : List ℕ) → Spells text place bytes
    → Begins text place bytes
spelled_begins text place bytes spelled = record {
  within = spelled.within;
  written = ap (take (length bytes)) spelled.written ∙ take-length bytes;
}
