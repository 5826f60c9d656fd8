use Rattle.std.proofs.Common.{◌≡◌, ◌++◌, drop}
use Rattle.strc_cli_pictures.specs.Pictures.{channel_lines}
use Rattle.strc_cli_pictures.proofs.channels.push_channels.Given as goal

-- the text so far and the lines of the channels left are the whole
abbrev pub invariant-loop-number : goal.invariant-loop-number
invariant-loop-number l =
    l.text.items
    ++ channel_lines l.bounds l.shown l.nodes (drop l.number l.channels) (drop l.number l.sizes)
    ≡ l.fn.text.items ++ channel_lines l.bounds l.shown l.nodes l.channels l.sizes
