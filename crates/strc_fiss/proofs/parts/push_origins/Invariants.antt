use Rattle.std.proofs.Common.{◌≡◌, ◌++◌}
use Rattle.strc_fiss.specs.Numbers.{up_to, first_of}
use Rattle.strc_fiss.proofs.parts.push_origins.Given as goal

abbrev pub invariant-loop-part : goal.invariant-loop-part
invariant-loop-part l =
    l.origins.items
    ≡ l.fn.origins.items ++ up_to (λ part. record { node = l.node; first = first_of l.share part })
    l.part
