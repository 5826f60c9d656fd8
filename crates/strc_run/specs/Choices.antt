-- How a text is to be compiled: the name of its main stream, where one is given, among how many
-- copies a node may be split, and how many entries the list of a fused unit may have.
use Rattle.std.specs.Prelude.{ℕ, List, Option, string_bytes}
use Rattle.std.specs.Option.{option_map}
use Rattle.strc_run.specs.declared.options.Options.{Options}

pub record Choice : Type 0 where
  pub main : Option (List ℕ)
  pub ways : ℕ
  pub fuse : ℕ

abbrev pub choice_of : Options → Choice
choice_of options = record {
  main = option_map string_bytes options.main;
  ways = options.ways;
  fuse = options.fuse;
}
