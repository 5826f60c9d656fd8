use Rattle.std.proofs.Common.{◌≡◌, true, drop}
use Rattle.std.specs.List.{list_all}
use Rattle.strc_lex.specs.Characters as spec_of
use Rattle.strc_lex.specs.Text.{number_from}
use Rattle.strc_lex.proofs.scan.number_of.Given as goal

-- the rest of the digits, after the number so far, writes the whole
abbrev pub invariant-loop-digit : goal.invariant-loop-digit
invariant-loop-digit l = record {
  whole : number_from l.number (drop l.digit-index l.digits) ≡ number_from 0 l.digits;
  digits : list_all spec_of.is_digit (drop l.digit-index l.digits) ≡ true;
}
