-- The items of ports, one port after another.
use Rattle.std.proofs.Common.{◌≡◌, ◌∙◌, ◌+◌, ◌<◌, ℕ, List, Option, length, take, sum, ap, sym}
use Rattle.std.proofs.Common.{option_map}
use Rattle.std.specs.Prelude.{slice_index}
use Rattle.std.proofs.lemmas.List.Sums.{sum_by_more}
use Rattle.strc_emit_moves.specs.declared.places.Items.{Items}
use Rattle.strc_emit_moves.specs.Moves.{between_text, later}

-- a share begins after those before it
pub share_is : (to from : Option Items) (start before count : ℕ) → start ≡ before
    → between_text to (option_map (later start) from) count
    ≡ between_text to (option_map (later before) from) count
share_is to from start before count is =
    ap (λ n. between_text to (option_map (later n) from) count) is

pub joined_is : (to from : Option Items) (start before count : ℕ) → start ≡ before
    → between_text (option_map (later start) to) from count
    ≡ between_text (option_map (later before) to) from count
joined_is to from start before count is =
    ap (λ n. between_text (option_map (later n) to) from count) is

-- one more weight
pub sum_more : (weights : List ℕ) (port start : ℕ) → port < length weights
    → start ≡ sum (take port weights)
    → start + slice_index weights port ≡ sum (take (port + 1) weights)
sum_more weights port start there is =
    ap (λ n. n + slice_index weights port) is ∙ sym (sum_by_more (λ x. x) weights port 0 there)
