-- The setting in which lowered code runs.
use Rattle.std.specs.Prelude.{ℕ, List, length}
use Rattle.strc_parse_tree.specs.Tree as tree
use Rattle.strc_work_meaning.specs.Filters.{sized_fields}
use Rattle.strc_work_meaning.specs.Scoping.{total}
use Rattle.strc_work_meaning.specs.Firing.{Port, Setting, called}

-- where the code of a filter of these members stands, and so many more calls may be running at once
abbrev pub level_setting : List tree.Member → (levels : ℕ) → Port → Setting
level_setting members levels port = record {
  port = port;
  fields = length (sized_fields members);
  cells = total (sized_fields members);
  call = called members levels;
}
