-- How many filters there are.
use Rattle.std.proofs.Common.{◌≡◌, ◌<◌, ◌≤◌, ◌+◌, true, false, Ok, Err, refl, arith, nat_lt}
use Rattle.std.proofs.lemmas.Bool.{lt-ltb, le-ltb}
use Rattle.strc_elab_graph.specs.declared.graph.TheConstants.{NODE_LIMIT}
use Rattle.strc_elab.specs.Elaboration.{Totals, filter_limit, one_more}
use Rattle.strc_elab_statements.specs.declared.error.ElabErrorKind.TheVariants.{NodeLimit}

filter_limit_is : filter_limit ≡ NODE_LIMIT
unfolding filter_limit
filter_limit_is = refl

-- a filter within the limit is counted
pub one_more-under : (totals : Totals) → totals.filters < NODE_LIMIT
    → one_more totals (λ t. Ok t) ≡ Ok (record totals { filters = totals.filters + 1 })
one_more-under totals below =
    let lt : totals.filters < filter_limit = omega (arith, filter_limit_is) in
    let e : nat_lt totals.filters filter_limit ≡ true = lt-ltb totals.filters filter_limit lt in
    rw e refl

-- a filter past the limit is refused
pub one_more-over : (totals : Totals) → NODE_LIMIT ≤ totals.filters
    → one_more {A = Totals} totals (λ t. Ok t) ≡ Err NodeLimit
one_more-over totals above =
    let ge : filter_limit ≤ totals.filters = omega (arith, filter_limit_is) in
    let e : nat_lt totals.filters filter_limit ≡ false = le-ltb totals.filters filter_limit ge in
    rw e refl
