-- Whether a stream's type is the one that is written.
use Rattle.std.specs.Prelude.{Bool, true, false, ◌&&◌, Option, Some, None}
use Rattle.strc_parse_tree.specs.declared.tree.ItemType.{ItemType}
use Rattle.strc_parse_tree.specs.declared.tree.ItemType.TheVariants as item
use Rattle.strc_parse_tree.specs.declared.tree.StreamType.{StreamType}

-- one type is the other
abbrev pub same_item : ItemType → ItemType → Bool
same_item item.Int item.Int = true
same_item item.Void item.Void = true
same_item item.Int item.Void = false
same_item item.Void item.Int = false

-- one type is the other, where one is written
abbrev pub is_as_written : Option StreamType → StreamType → Bool
is_as_written None found = true
is_as_written (Some written) found = same_item written.input found.input
    && same_item written.output found.output
