use Rattle.std.proofs.Common.{◌≡◌, ◌++◌, drop}
use Rattle.std.specs.Prelude.{flat_map}
use Rattle.strc_elab_paths.specs.Labels.{later_text}
use Rattle.strc_elab_paths.proofs.label.push_later.Given as goal

-- the text so far and that of the values left are the whole
abbrev pub invariant-loop-value : goal.invariant-loop-value
invariant-loop-value l =
    l.text.items ++ flat_map later_text (drop l.value-index l.later)
    ≡ l.fn.text.items ++ flat_map later_text l.later
