-- What firings push and pop grows with them.
use Rattle.std.proofs.Common.{ℕ, zero, suc, ◌*◌, ◌≤◌, arith}
use Rattle.std.proofs.Math.Nat.{mul-le-mul_left}
use Rattle.strc_startup.specs.declared.channel_rates.ChannelRates.{ChannelRates}
use Rattle.strc_startup.specs.Startup.{popped, need, supply}

pub supply-le : (rates : ChannelRates) (m n : ℕ) → m ≤ n → supply rates m ≤ supply rates n
supply-le rates zero n less = omega arith
supply-le rates (suc m) zero less = absurd (omega arith)
supply-le rates (suc m) (suc n) less =
    let more : rates.push * m ≤ rates.push * n = mul-le-mul_left rates.push (omega arith) in
    omega (arith, more)

popped-le : (rates : ChannelRates) (m n : ℕ) → m ≤ n → popped rates m ≤ popped rates n
popped-le rates zero n less = omega arith
popped-le rates (suc m) zero less = absurd (omega arith)
popped-le rates (suc m) (suc n) less =
    let more : rates.pop * m ≤ rates.pop * n = mul-le-mul_left rates.pop (omega arith) in
    omega (arith, more)

pub need-le : (rates : ChannelRates) (m n : ℕ) → m ≤ n → need rates m ≤ need rates n
need-le rates m n less = let more = popped-le rates m n less in omega (arith, more)
