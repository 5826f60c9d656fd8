-- Sums that stay at the greatest number of 64 bits, one number more.
use Rattle.std.proofs.Common.{◌≡◌, ◌∙◌, ◌<◌, ◌≤◌, ◌+◌, ◌^◌, ℕ, List, ◌∷◌, length, arith, ap, sym, subst, ⊎_elim}
use Rattle.std.proofs.Common.{slice_index_or, slice_set, nat_eq, nat_lt, if◌then◌else◌, Bool, true}
use Rattle.std.proofs.Common.{false, drop, get_or, slice_index, refl, sum, replicate, take, zero-add}
use Rattle.std.proofs.Common.{◌++◌}
use Rattle.std.proofs.lemmas.List.{drop_all, drop_more, get_or-replicate, get_or-set_other}
use Rattle.std.proofs.lemmas.List.{get_or-set_same, length-replicate, take_at}
use Rattle.std.proofs.lemmas.List.FromFn.{fill_by_all}
use Rattle.std.proofs.lemmas.Bool.{cases_eq, eqb-true, eqb-false, ltb-true, ltb-false}
use Rattle.strc_elab_graph.specs.declared.graph.Channel.{Channel}
use Rattle.strc_cli_output.specs.Totals.{held, size_behind, sizes_behind, with_size}

-- a number more is added, before others
pub held_more : (so_far number rest : ℕ)
    → held (held (so_far + number) + rest) ≡ held (so_far + (number + rest))
held_more so_far number rest = omega arith

-- the sum of a node with a size that is added at one
added_by : (sums : List ℕ) (source size node rest : ℕ) (inside same : Bool) → node < length sums
    → nat_lt source (length sums) ≡ inside → nat_eq source node ≡ same
    → held (slice_index_or (if nat_lt source (length sums)
    then slice_set sums source (held (slice_index_or sums source 0 + size)) else sums) node 0 + rest)
    ≡ held (slice_index_or sums node 0 + ((if nat_eq source node then size else 0) + rest))
added_by sums source size node rest true true less inside same =
    let e : source ≡ node = eqb-true source node same in
    let with : ℕ = held (slice_index_or sums source 0 + size) in
    let at : slice_index_or (slice_set sums source with) node 0
    ≡ held (slice_index_or sums node 0 + size) =
    ap (λ n. slice_index_or (slice_set sums source with) n 0) (sym e)
    ∙ get_or-set_same sums source with 0 (ltb-true source (length sums) inside)
    ∙ ap (λ n. held (slice_index_or sums n 0 + size)) e in
    rw (inside, same, at) (held_more (slice_index_or sums node 0) size rest)
added_by sums source size node rest true false less inside same =
    rw (
      inside,
      same,
      get_or-set_other sums source node (held (slice_index_or sums source 0 + size))
          0 (λ e. eqb-false source node same (sym e)),
    ) (omega arith)
added_by sums source size node rest false true less inside same =
    absurd (omega (arith, less, eqb-true source node same, ltb-false source (length sums) inside))
added_by sums source size node rest false false less inside same = rw (inside, same) (omega arith)

-- sums fit in 64 bits
abbrev pub AllFit : (sums : List ℕ) → Type 0
AllFit sums = (node : ℕ) → slice_index_or sums node 0 < 2 ^ 64

fits_by : (sums : List ℕ) (source size node : ℕ) (inside : Bool)
    → nat_lt source (length sums) ≡ inside → AllFit sums
    → slice_index_or (if nat_lt source (length sums)
    then slice_set sums source (held (slice_index_or sums source 0 + size)) else sums) node 0
    < 2 ^ 64
fits_by sums source size node true inside fit =
    let with : ℕ = held (slice_index_or sums source 0 + size) in
    let small : with < 2 ^ 64 = omega arith in
    rw inside
    (⊎_elim
    (λ same. subst (λ n. slice_index_or (slice_set sums source with) n 0 < 2 ^ 64) (sym same)
    (subst (λ n. n < 2 ^ 64)
    (sym (get_or-set_same sums source with 0 (ltb-true source (length sums) inside))) small))
    (λ apart. subst (λ n. n < 2 ^ 64) (sym (get_or-set_other sums source node with 0 apart))
    (fit node))
    (cases_eq node source))
fits_by sums source size node false inside fit = rw inside (fit node)

pub one_size_fits : (sums after : List ℕ) (channel : Channel) (size : ℕ)
    → after ≡ with_size sums channel size → AllFit sums → AllFit after
one_size_fits sums after channel size added fit node =
    subst (λ (l : List ℕ). slice_index_or l node 0 < 2 ^ 64) (sym added)
    (fits_by sums channel.source.node size node (nat_lt channel.source.node (length sums)) refl fit)

-- the size of a channel is added, and those of the channels after it are left
pub one_size_more : (number : ℕ) (channels : List Channel) (channel : Channel)
    (sizes sums after : List ℕ) (size node : ℕ) → number < length channels
    → channel ≡ get_or channels number channel → number < length sizes
    → size ≡ slice_index sizes number → after ≡ with_size sums channel size
    → node < length sums
    → held (slice_index_or after node 0
    + size_behind node (drop (number + 1) channels) (drop (number + 1) sizes))
    ≡ held (slice_index_or sums node 0
    + size_behind node (drop number channels) (drop number sizes))
one_size_more number channels channel sizes sums after size node there same sized is added less =
    let rest = size_behind node (drop (number + 1) channels) (drop (number + 1) sizes) in
    let source = channel.source.node in
    let next : drop number sizes ≡ size ∷ drop (number + 1) sizes =
    drop_more sizes number 0 sized ∙ ap (λ (n : ℕ). n ∷ drop (number + 1) sizes) (sym is) in
    let own : drop number channels ≡ channel ∷ drop (number + 1) channels =
    drop_more channels number channel there
    ∙ ap (λ (c : Channel). c ∷ drop (number + 1) channels) (sym same) in
    ap (λ (l : List ℕ). held (slice_index_or l node 0 + rest)) added
    ∙ added_by sums source size node rest (nat_lt source (length sums)) (nat_eq source node) less
    refl refl
    ∙ sym (rw (own, next) refl)

-- none is left
pub held_all : (so_far index whole : ℕ) (numbers : List ℕ) → so_far < 2 ^ 64
    → length numbers ≤ index → held (so_far + sum (drop index numbers)) ≡ whole → so_far ≡ whole
held_all so_far index whole numbers fits past is =
    let all : so_far ≡ held (so_far + 0) = omega (arith, fits) in
    all ∙ ap (λ (l : List ℕ). held (so_far + sum l)) (sym (drop_all index numbers past)) ∙ is

pub size_all : (so_far index whole node : ℕ) (channels : List Channel) (sizes : List ℕ)
    → so_far < 2 ^ 64 → length channels ≤ index
    → held (so_far + size_behind node (drop index channels) (drop index sizes)) ≡ whole
    → so_far ≡ whole
size_all so_far index whole node channels sizes fits past is =
    let all : so_far ≡ held (so_far + 0) = omega (arith, fits) in
    all ∙ ap (λ (l : List Channel). held (so_far + size_behind node l (drop index sizes)))
    (sym (drop_all index channels past)) ∙ is

-- the sums of so many nodes, after all sizes are added to none
pub sums_made : (nodes len : ℕ) (channels given_channels : List Channel)
    (sizes given after rest : List ℕ) → given ≡ replicate nodes 0 → given_channels ≡ channels
    → length after ≡ length given
    → ((node : ℕ) → node < length given → slice_index_or after node 0
    ≡ held (slice_index_or given node 0 + size_behind node given_channels sizes))
    → len ≡ nodes → take len (after ++ rest) ≡ sizes_behind nodes channels sizes
sums_made nodes len channels given_channels sizes given after rest none same as_long each counted =
    let long : length given ≡ nodes = ap length none ∙ length-replicate nodes 0 in
    let one : (node : ℕ) → node < nodes → slice_index_or after node 0
    ≡ held (size_behind node channels sizes) =
    λ node less.
    each node (omega (arith, less, long))
    ∙ ap (λ (l : List ℕ). held (slice_index_or l node 0 + size_behind node given_channels sizes))
    none
    ∙ ap (λ (n : ℕ). held (n + size_behind node given_channels sizes))
    (get_or-replicate nodes node 0 0 less)
    ∙ ap (λ (l : List Channel). held (0 + size_behind node l sizes)) same
    ∙ ap held (zero-add (size_behind node channels sizes)) in
    take_at after rest len (omega (arith, as_long, long, counted))
    ∙ fill_by_all (λ node. held (size_behind node channels sizes)) after nodes 0
    (as_long ∙ long) one
