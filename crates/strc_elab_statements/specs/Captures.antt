-- What an anonymous stream sees, variable by variable, from the outermost one inwards.
use Rattle.std.specs.Prelude.{ℕ, ℤ, suc, ◌-◌, length, take, slice_get, Option, Some, None, List}
use Rattle.std.specs.Prelude.{◌∷◌}
use Rattle.std.specs.Prelude.{if◌then◌else◌}
use Rattle.strc_work_meaning.specs.Firing.{Variables}
use Rattle.strc_lex_names.specs.Names.{has_name, plain_names}
use Rattle.strc_work_meaning.specs.Typing.{TypedNames}
use Rattle.strc_work_meaning.specs.declared.types.ValueType.{ValueType}
use Rattle.strc_elab_statements.specs.Bindings.{cells_of}
use Rattle.strc_elab_statements.specs.Texts.{Constants, as_constant}

-- constants after a variable, outside which so many are, where none of the inner names is its
-- own
abbrev pub captured_one : (inner : List (List ℕ)) → Variables → (number : ℕ)
    → Option (List ℕ × ValueType) → Constants → Constants
captured_one inner variables number None outer = outer
captured_one inner variables number (Some one) outer =
    if has_name inner one.0 then outer else as_constant one.0 one.1
    (cells_of variables number) outer

abbrev pub captured : TypedNames → Variables → (number : ℕ) → Constants → Constants
captured names variables number outer =
    captured_one (take (length names - suc number) (plain_names names)) variables number
    (slice_get names (length names - suc number)) outer

-- the constants that are left, after one that stays unless a variable has its name
abbrev pub unshadowed_one : (hidden : List (List ℕ)) → Option (List ℕ × ℤ) → Constants → Constants
unshadowed_one hidden None left = left
unshadowed_one hidden (Some one) left = if has_name hidden one.0 then left else one ∷ left
