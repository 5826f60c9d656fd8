-- Statements that add declared streams, as they are listed.
use Rattle.std.specs.Prelude.{ℕ, List}
use Rattle.strc_lex_names.specs.declared.place.Span.{Span}
use Rattle.strc_cli_places.specs.declared.recursion.Addition.{Addition}

abbrev pub addition_view : Addition → Span × List ℕ
addition_view addition = (addition.place, addition.name.now)
