-- How many items are on channels while nodes fire.
use Rattle.std.proofs.Common.{◌≡◌, ◌≢◌, ◌∙◌, ap, ℕ, zero, suc, ◌+◌, ◌-◌, ◌*◌, ◌<◌, ◌≤◌}
use Rattle.std.proofs.Common.{max, List, [], ◌∷◌, ◌++◌, inl, inr, arith, mul-le-mul_right}
use Rattle.std.proofs.lemmas.Bool.{cases_eq, cases_lt}
use Rattle.strc_startup.specs.Startup.{popped, supply}
use Rattle.strc_startup.specs.declared.channel_rates.ChannelRates.{ChannelRates}
use Rattle.strc_sched_orders.specs.Buffers.{peak_fill}
use Rattle.strc_sched_orders.specs.Firings.{Firings, turns_of, fired, fill}
use Rattle.strc_sched_orders.specs.Order.{after, repeated}
use Rattle.strc_sched_orders.proofs.FiringCounts.{turns_same, turns_other, fired_none, fired_fired}
use Rattle.strc_sched_orders.proofs.FiringCounts.{after_cons}
use Rattle.strc_sched_orders.proofs.FiringCounts.{after_none, one_more}

popped-le : (rates : ChannelRates) (m n : ℕ) → m ≤ n → popped rates m ≤ popped rates n
popped-le rates zero n less = omega arith
popped-le rates (suc m) zero less = absurd (omega arith)
popped-le rates (suc m) (suc n) less =
    let more : m * rates.pop ≤ n * rates.pop = mul-le-mul_right rates.pop (omega arith) in
    let a : rates.pop * m ≡ m * rates.pop = omega arith in
    let b : rates.pop * n ≡ n * rates.pop = omega arith in
    omega (arith, more, a, b)

-- firings of another node than its source add nothing to a channel
pub fill_other : (rates : ChannelRates) (counts : Firings) (turns node : ℕ)
    → rates.source ≢ node → fill rates (fired counts turns node) ≤ fill rates counts
fill_other rates counts turns node apart =
    let s : fired counts turns node rates.source ≡ counts rates.source =
    omega (arith, turns_other turns node rates.source apart) in
    let p = popped-le rates (counts rates.target) (fired counts turns node rates.target)
    (omega arith) in
    omega (arith, ap (supply rates) s, p)

-- after the first of some firings each one adds, or takes, as many: of a count that grows by a rate
-- with each firing of an end
moved_on : (moved : ℕ → ℕ) (rate : ℕ)
    → ((n more : ℕ) → moved (suc (n + more)) ≡ moved (suc n) + rate * more)
    → (end : ℕ) (counts : Firings) (more node : ℕ)
    → moved (fired counts (suc more) node end)
    ≡ moved (fired counts 1 node end) + rate * turns_of 1 node end * more
moved_on moved rate grows end counts more node =
    elim (cases_eq end node) [
      | inl same ↦
          let n = counts end in
          let o = turns_same 1 node end same in
          let e : fired counts (suc more) node end ≡ suc (n + more) =
          omega (arith, turns_same (suc more) node end same) in
          let f : fired counts 1 node end ≡ suc n = omega (arith, o) in
          let p : rate * turns_of 1 node end * more ≡ rate * more =
          ap (λ t. rate * t * more) o ∙ omega arith in
          omega (arith, ap moved e, ap moved f, p, grows n more)
      | inr apart ↦
          let o = turns_other 1 node end apart in
          let e : fired counts (suc more) node end ≡ fired counts 1 node end =
          omega (arith, turns_other (suc more) node end apart, o) in
          let p : rate * turns_of 1 node end * more ≡ 0 =
          ap (λ t. rate * t * more) o ∙ omega arith in
          omega (arith, ap moved e, p)
    ]

supply_on : (rates : ChannelRates) (counts : Firings) (more node : ℕ)
    → supply rates (fired counts (suc more) node rates.source)
    ≡ supply rates (fired counts 1 node rates.source)
    + rates.push * turns_of 1 node rates.source * more
supply_on rates =
    moved_on (supply rates) rates.push (λ n more. omega arith) rates.source

popped_on : (rates : ChannelRates) (counts : Firings) (more node : ℕ)
    → popped rates (fired counts (suc more) node rates.target)
    ≡ popped rates (fired counts 1 node rates.target)
    + rates.pop * turns_of 1 node rates.target * more
popped_on rates =
    moved_on (popped rates) rates.pop (λ n more. omega arith) rates.target

-- what moves one way has its greatest value at an end
drift : (s q a b few rest : ℕ)
    → (s + a * few) - (q + b * few) ≤ max (s - q) ((s + a * (few + rest)) - (q + b * (few + rest)))
drift s q a b few rest =
    let m : a * (few + rest) ≡ a * few + a * rest = omega arith in
    let n : b * (few + rest) ≡ b * few + b * rest = omega arith in
    elim (cases_lt b a) [
      | inl more ↦
          let c : b * rest ≤ a * rest = mul-le-mul_right rest (omega (arith, more)) in
          omega (arith, m, n, c)
      | inr less ↦
          let c : a * few ≤ b * few = mul-le-mul_right few less in
          omega (arith, c)
    ]

turn_fill : (rates : ChannelRates) (counts : Firings) (few rest node : ℕ)
    → fill rates (fired counts (suc few) node)
    ≤ max (fill rates (fired counts 1 node)) (fill rates (fired counts (suc (few + rest)) node))
turn_fill rates counts few rest node =
    let s = supply rates (fired counts 1 node rates.source) in
    let q = popped rates (fired counts 1 node rates.target) in
    let a = rates.push * turns_of 1 node rates.source in
    let b = rates.pop * turns_of 1 node rates.target in
    omega (
      arith,
      drift s q a b few rest,
      supply_on rates counts few node,
      popped_on rates counts few node,
      supply_on rates counts (few + rest) node,
      popped_on rates counts (few + rest) node,
    )

-- peaks

pub peak_first : (rates : ChannelRates) (counts : Firings) (order : List ℕ)
    → fill rates counts ≤ peak_fill rates counts order
peak_first rates counts [] = omega arith
peak_first rates counts (node ∷ order) = omega arith

pub peak_last : (rates : ChannelRates) (counts : Firings) (order : List ℕ)
    → fill rates (after counts order) ≤ peak_fill rates counts order
peak_last rates counts [] = omega (arith, ap (fill rates) (after_none counts))
peak_last rates counts (node ∷ order) =
    let later = peak_last rates (fired counts 1 node) order in
    omega (arith, later, ap (fill rates) (after_cons counts node order))

pub peak_append : (rates : ChannelRates) (counts : Firings) (a b : List ℕ)
    → peak_fill rates counts (a ++ b)
    ≡ max (peak_fill rates counts a) (peak_fill rates (after counts a) b)
peak_append rates counts [] b =
    let e = ap (λ k. peak_fill rates k b) (after_none counts) in
    omega (arith, e, peak_first rates counts b)
peak_append rates counts (node ∷ a) b =
    let later = peak_append rates (fired counts 1 node) a b in
    let e = ap (λ k. peak_fill rates k b) (after_cons counts node a) in
    omega (arith, later, e)

peak_most : (rates : ChannelRates) (counts : Firings) (turns node most : ℕ)
    → ((few : ℕ) → few ≤ turns → fill rates (fired counts few node) ≤ most)
    → peak_fill rates counts (repeated turns (node ∷ [])) ≤ most
peak_most rates counts zero node most all =
    omega (arith, all 0 (omega arith), ap (fill rates) (fired_none counts node))
peak_most rates counts (suc turns) node most all =
    let now = all 0 (omega arith) in
    let e = ap (fill rates) (fired_none counts node) in
    let later = peak_most rates (fired counts 1 node) turns node most
    (λ few less. let s = ap (fill rates) (fired_fired counts 1 few node) in
    let own = all (1 + few) (omega (arith, less)) in
    omega (arith, s, own)) in
    omega (arith, now, e, later)

peak_end : (rates : ChannelRates) (counts : Firings) (turns node : ℕ)
    → fill rates (fired counts turns node)
    ≤ peak_fill rates counts (repeated turns (node ∷ []))
peak_end rates counts zero node = omega (arith, ap (fill rates) (fired_none counts node))
peak_end rates counts (suc turns) node =
    let later = peak_end rates (fired counts 1 node) turns node in
    let s = ap (fill rates) (fired_fired counts 1 turns node
    ∙ ap (λ n. fired counts n node) (one_more turns)) in
    omega (arith, later, s)

-- of some firings of one node the first and the last leave most
pub peak_turns : (rates : ChannelRates) (counts : Firings) (turns node : ℕ) → 0 < turns
    → peak_fill rates counts (repeated turns (node ∷ []))
    ≡ max (fill rates counts) (max (fill rates (fired counts 1 node))
    (fill rates (fired counts turns node)))
peak_turns rates counts zero node some = absurd (omega (arith, some))
peak_turns rates counts (suc more) node some =
    let first = fill rates (fired counts 1 node) in
    let last = fill rates (fired counts (suc more) node) in
    let whole = peak_end rates counts (suc more) node in
    let start = peak_first rates (fired counts 1 node) (repeated more (node ∷ [])) in
    let rest = peak_most rates (fired counts 1 node) more node (max first last)
    (λ few less.
    let s = ap (fill rates) (fired_fired counts 1 few node
    ∙ ap (λ n. fired counts n node) (one_more few)) in
    let left : few + (more - few) ≡ more = omega (arith, less) in
    let t = turn_fill rates counts few (more - few) node in
    let l = ap (λ n. fill rates (fired counts (suc n) node)) left in
    omega (arith, s, t, l)) in
    omega (arith, whole, start, rest)
