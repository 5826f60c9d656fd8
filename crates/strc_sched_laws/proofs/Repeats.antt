-- Rates of nodes repeat round by round.
use Rattle.std.proofs.Common.{◌≡◌, refl, sym, ap, ◌∙◌, ℕ, zero, suc, ◌+◌, ◌*◌, ◌≤◌, ◌==◌, Bool}
use Rattle.std.proofs.Common.{true, false, arith}
use Rattle.std.specs.Prelude.{◌/◌, ◌%◌, if◌then◌else◌}
use Rattle.std.proofs.lemmas.Nat.{mod-mul-add, mod_below, div-add-mod'}
use Rattle.strc_elab_graph.specs.Graphs as graphs
use Rattle.strc_elab_graph.specs.Graphs.{NodeCode}
use Rattle.strc_elab_graph.specs.Rates.{window_at, pops_at, pushes_at, copy_pops, rate_at_0}
use Rattle.strc_elab_graph.specs.Rates.{fires_by_rounds}
use Rattle.strc_elab_graph.specs.declared.graph.Fission.{Fission}
use Rattle.strc_elab_graph.proofs.Firings.{windows_settle, pops_settle, pushes_settle, takes_within}
use Rattle.strc_sched_laws.specs.Repeats.{HaveSameRates, NodesRepeatByRounds}
use Rattle.strc_sched_laws.specs.Repeats.{NodesTakeWithin}

-- a rate that is settled from a firing on
settled_rate : (rate : ℕ → ℕ) → ((n : ℕ) → rate (suc n) ≡ rate 1) → (first more firing : ℕ)
    → rate first ≡ rate (suc first) → first ≤ firing → rate (firing + more) ≡ rate firing
settled_rate rate settles first zero zero same after =
    ap rate (let e : 0 + 0 ≡ 0 = omega arith in e)
settled_rate rate settles first (suc more) zero same after =
    let none : first ≡ 0 = omega arith in
    ap rate (let e : 0 + suc more ≡ suc more = omega arith in e) ∙ settles more
    ∙ sym (ap rate (sym none) ∙ same ∙ ap (λ (n : ℕ). rate (suc n)) none)
settled_rate rate settles first more (suc n) same after =
    ap rate (let e : suc n + more ≡ suc (n + more) = omega arith in e) ∙ settles (n + more)
    ∙ sym (settles n)

settled_node : (code : NodeCode) → fires_by_rounds code ≡ false → (first round firing : ℕ)
    → HaveSameRates code first (suc first) → first ≤ firing
    → HaveSameRates code (firing + round) firing
settled_node code alone first round firing same after port = (
  settled_rate (λ n. window_at code n port) (λ n. windows_settle code n port) first round firing
      (same port).0 after,
  settled_rate (λ n. pops_at code n port) (λ n. pops_settle code alone n port) first round firing
      (same port).1 after,
  settled_rate (λ n. pushes_at code n port) (λ n. pushes_settle code n port) first round firing
      (same port).2 after,
)

one_more : (n q w r : ℕ) → q * w + r ≡ n → n + w ≡ suc q * w + r
one_more n q w r e = omega (arith, e)

-- so many firings later it is the same firing of a round
same_place : (n firings : ℕ) → (n + firings) % firings ≡ n % firings
same_place n zero = ap (λ (m : ℕ). m % 0) (let e : n + 0 ≡ n = omega arith in e)
same_place n (suc m) =
    ap (λ (x : ℕ). x % suc m)
    (one_more n (n / suc m) (suc m) (n % suc m) (div-add-mod' n (suc m)))
    ∙ mod-mul-add (suc (n / suc m)) (suc m) (n % suc m) (mod_below n (suc m) (omega arith))

copy_repeats : (fission : Fission) (firing round : ℕ) → round ≡ fission.firings
    → copy_pops fission (firing + round) ≡ copy_pops fission firing
copy_repeats fission firing round e =
    ap (λ (n : ℕ). copy_pops fission (firing + n)) e
    ∙ ap (λ (place : ℕ). if place + 1 == fission.firings then fission.window else fission.pop)
    (same_place firing fission.firings)

pub nodes_repeat_by_rounds : NodesRepeatByRounds
nodes_repeat_by_rounds (graphs.Filter name filter) first round firing has after port =
    settled_node (graphs.Filter name filter) refl first round firing has after port
nodes_repeat_by_rounds graphs.Identity first round firing has after port = (refl, refl, refl)
nodes_repeat_by_rounds (graphs.FileReader text) first round firing has after port =
    (refl, refl, refl)
nodes_repeat_by_rounds (graphs.FileWriter text) first round firing has after port =
    (refl, refl, refl)
nodes_repeat_by_rounds (graphs.Splitter splitter) first round firing has after port =
    (refl, refl, refl)
nodes_repeat_by_rounds (graphs.Joiner weights) first round firing has after port =
    (refl, refl, refl)
nodes_repeat_by_rounds (graphs.Scatter fission) first round firing has after port =
    (refl, refl, refl)
nodes_repeat_by_rounds (graphs.Copy copied fission) first round firing has after port = (
  refl,
  ap (λ (rate : ℕ). rate_at_0 rate port) (copy_repeats fission firing round has),
  refl,
)
nodes_repeat_by_rounds (graphs.Gather fission) first round firing has after port =
    (refl, refl, refl)

copy_within : (fission : Fission) → fission.pop ≤ fission.window → (last : Bool)
    → (if last then fission.window else fission.pop) ≤ fission.window
copy_within fission narrow true = omega arith
copy_within fission narrow false = narrow

pub nodes_take_within : NodesTakeWithin
nodes_take_within (graphs.Filter name filter) firing port narrow =
    takes_within (graphs.Filter name filter) refl firing port
nodes_take_within graphs.Identity firing port narrow = omega arith
nodes_take_within (graphs.FileReader text) firing port narrow = omega arith
nodes_take_within (graphs.FileWriter text) firing port narrow = omega arith
nodes_take_within (graphs.Splitter splitter) firing port narrow = omega arith
nodes_take_within (graphs.Joiner weights) firing port narrow = omega arith
nodes_take_within (graphs.Scatter fission) firing zero narrow = omega arith
nodes_take_within (graphs.Scatter fission) firing (suc port) narrow = omega arith
nodes_take_within (graphs.Copy copied fission) firing zero narrow =
    copy_within fission narrow (firing % fission.firings + 1 == fission.firings)
nodes_take_within (graphs.Copy copied fission) firing (suc port) narrow = omega arith
nodes_take_within (graphs.Gather fission) firing port narrow = omega arith
