-- Turns of a splitter in a row, and the same items dealt port by port.
use Rattle.std.proofs.Common.{◌≡◌, refl, sym, ap, ◌∙◌, ℕ, zero, suc, ◌+◌, ◌*◌, ◌-◌, ◌<◌, ◌≤◌}
use Rattle.std.proofs.Common.{ℤ, List, [], ◌∷◌, ◌++◌, length, take, drop, sum, get_or, arith}
use Rattle.std.proofs.Common.{add-one, drop-drop, inl, inr, ◌⊎◌}
use Rattle.std.specs.Prelude.{Option, Some, None, slice_index}
use Rattle.std.proofs.lemmas.Bool.{cases_eq}
use Rattle.std.proofs.lemmas.List.{drop-take, ext_get_or}
use Rattle.std.proofs.lemmas.List.Sums.{sum_by-cons}
use Rattle.circular_buffer.specs.Buffer.{buffer}
use Rattle.strc_elab_dataflow.specs.Node.{ByPort}
use Rattle.strc_elab_dataflow.specs.RoundRobin.{span_start}
use Rattle.strc_elab_graph.specs.Rates.{rate_at_0}
use Rattle.strc_sched_laws.specs.NodeSteps.{ArePlaced, Moves}
use Rattle.strc_sched_laws.specs.Rings.{Ring, ring_at, at_port, items_at, given, taken, dealt_out}
use Rattle.strc_sched_laws.specs.Rings.{extended}
use Rattle.strc_sched_laws.proofs.ByPort.{only_at, but_at, NoneBelow, only_here, only_other}
use Rattle.strc_sched_laws.proofs.ByPort.{but_below, but_later, at_first, all_none, lists_parted}
use Rattle.strc_sched_laws.proofs.Changes.{items_after, same_moves, no_moves}
use Rattle.strc_sched_laws.proofs.Changes.{both_move, one_gives, one_takes, still_placed}
use Rattle.strc_sched_laws.proofs.Dealing.{dealing_moves, piece, rate_elsewhere}
use Rattle.strc_sched_rings.specs.Answers.{AreRings}
use Rattle.strc_sched_rings.specs.Apart.{AreApart}
use Rattle.strc_sched_rings.specs.Turns.{firsts, spread_out, times}
use Rattle.strc_sched_rings.proofs.Moves.{extended_twice}
use Rattle.strc_sched_rings.proofs.Ports.{length-given, drop_at}

-- ---- lists

drop_swap : (a b : ℕ) (xs : List ℤ) → drop a (drop b xs) ≡ drop b (drop a xs)
drop_swap a b xs =
    let same : b + a ≡ a + b = omega arith in
    drop-drop a b xs ∙ ap (λ (n : ℕ). drop n xs) same ∙ sym (drop-drop b a xs)

firsts_none : (count cycle : ℕ) (items : List ℤ) → firsts count 0 cycle items ≡ []
firsts_none zero cycle items = refl
firsts_none (suc count) cycle items = firsts_none count cycle (drop cycle items)

take_both : (n m : ℕ) (xs : List ℤ) → n ≤ m → take n (take m xs) ≡ take n xs
take_both zero m xs within = refl
take_both (suc n) zero xs within = absurd (omega arith)
take_both (suc n) (suc m) [] within = refl
take_both (suc n) (suc m) (x ∷ xs) within =
    ap (λ (l : List ℤ). x ∷ l) (take_both n m xs (omega arith))

take_within : (n more : ℕ) (xs : List ℤ) → take n (take (n + more) xs) ≡ take n xs
take_within n more xs = take_both n (n + more) xs (omega arith)

-- a span of a cycle lies within so many items
take_span : (start weight all : ℕ) (xs : List ℤ) → start + weight ≤ all
    → take weight (drop start (take all xs)) ≡ take weight (drop start xs)
take_span start weight all xs within =
    let more = all - (start + weight) in
    let parts : all ≡ start + (weight + more) = omega (arith, within) in
    ap (λ (n : ℕ). take weight (drop start (take n xs))) parts
    ∙ ap (take weight) (drop-take start (weight + more) xs)
    ∙ take_within weight more (drop start xs)

firsts_within : (count weight start cycle : ℕ) (xs : List ℤ) → start + weight ≤ cycle
    → firsts count weight cycle (drop start (take (count * cycle) xs))
    ≡ firsts count weight cycle (drop start xs)
firsts_within zero weight start cycle xs within = refl
firsts_within (suc count) weight start cycle xs within =
    let all : suc count * cycle ≡ cycle + count * cycle = omega arith in
    ap (λ (l : List ℤ). l ++ firsts count weight cycle
    (drop cycle (drop start (take (suc count * cycle) xs))))
    (take_span start weight (suc count * cycle) xs (omega (arith, within)))
    ∙ ap (λ (l : List ℤ). take weight (drop start xs) ++ firsts count weight cycle l)
    (drop_swap cycle start (take (suc count * cycle) xs)
    ∙ ap (λ (n : ℕ). drop start (drop cycle (take n xs))) all
    ∙ ap (drop start) (drop-take cycle (count * cycle) xs))
    ∙ ap (λ (l : List ℤ). take weight (drop start xs) ++ l)
    (firsts_within count weight start cycle (drop cycle xs) within
    ∙ ap (firsts count weight cycle) (drop_swap start cycle xs))

-- a port's span lies within the cycle
span_within : (weights : List ℕ) (port : ℕ) → span_start weights port + slice_index weights port
    ≤ sum weights
unfolding span_start
span_within [] zero = omega arith
span_within [] (suc port) = omega arith
span_within (weight ∷ weights) zero =
    let all = sum_by-cons (λ x. x) weight weights in omega (arith, all)
span_within (weight ∷ weights) (suc port) =
    let all = sum_by-cons (λ x. x) weight weights in
    let part = sum_by-cons (λ x. x) weight (take port weights) in
    let later = span_within weights port in
    omega (arith, all, part, later)

-- the first items of a cycle join a ring, and then those of the cycles left
pub cycles_next : (count turn weight cycle : ℕ) (left rest : List ℤ) (ring next : Ring)
    → turn < count → rest ≡ drop cycle left → next ≡ extended (take weight left) ring
    → extended (firsts (count - (turn + 1)) weight cycle rest) next
    ≡ extended (firsts (count - turn) weight cycle left) ring
cycles_next count turn weight cycle left rest ring next less rest_is next_is =
    let n = count - (turn + 1) in
    let more : suc n ≡ count - turn = omega (arith, less) in
    ap (λ (l : List ℤ). extended (firsts n weight cycle l) next) rest_is
    ∙ ap (extended (firsts n weight cycle (drop cycle left))) next_is
    ∙ extended_twice (take weight left) (firsts n weight cycle (drop cycle left)) ring
    ∙ ap (λ (k : ℕ). extended (firsts k weight cycle left) ring) more

-- ---- while items are spread

pub record Spreads (weights : List ℕ) (outputs : List (Option ℕ)) (count cycle : ℕ)
    (items left : List ℤ) (port : ℕ) (before now : List Ring) : Type 0 where
  pub rest : spread_out (drop port weights) outputs count cycle left port now
      ≡ spread_out weights outputs count cycle items 0 before
  pub each : length now ≡ length before

pub spreads_next : (weights : List ℕ) (outputs : List (Option ℕ)) (count cycle : ℕ)
    (items left : List ℤ) (port d : ℕ) (before now next : List Ring)
    → Spreads weights outputs count cycle items left port before now → port < length weights
    → next ≡ given (at_port outputs port) (firsts count (get_or weights port d) cycle left) now
    → Spreads weights outputs count cycle items (drop (get_or weights port d) left) (port + 1)
    before next
spreads_next weights outputs count cycle items left port d before now next h less is = record {
  rest = ap (λ n. spread_out (drop n weights) outputs count cycle
      (drop (get_or weights port d) left) n next) (add-one port)
      ∙ ap (spread_out (drop (suc port) weights) outputs count cycle
      (drop (get_or weights port d) left) (suc port)) is
      ∙ ap (λ (l : List ℕ). spread_out l outputs count cycle left port now)
      (sym (drop_at weights port d less))
      ∙ h.rest;
  each = ap length is
      ∙ length-given (at_port outputs port) (firsts count (get_or weights port d) cycle left) now
      ∙ h.each;
}

pub length-spread_out : (weights : List ℕ) (outputs : List (Option ℕ)) (count cycle : ℕ)
    (items : List ℤ) (port : ℕ) (rings : List Ring)
    → length (spread_out weights outputs count cycle items port rings) ≡ length rings
length-spread_out [] outputs count cycle items port rings = refl
length-spread_out (weight ∷ weights) outputs count cycle items port rings =
    length-spread_out weights outputs count cycle (drop weight items) (suc port) _
    ∙ length-given (at_port outputs port) (firsts count weight cycle items) rings

-- ---- where a ring is

abbrev PortOrNone : List (Option ℕ) → ℕ → Type 0
PortOrNone ports number = ((port : ℕ) × (at_port ports port ≡ Some number))
    ⊎ ((port : ℕ) → at_port ports port ≡ Some number → ⊥)

port_or_none_later : (first : Option ℕ) (ports : List (Option ℕ)) (number : ℕ)
    → (first ≡ Some number → ⊥) → PortOrNone ports number → PortOrNone (first ∷ ports) number
port_or_none_later first ports number differs (inl h) = inl (suc h.0, h.1)
port_or_none_later first ports number differs (inr none) = inr (λ port e. by_port port e)
  where
    by_port : (port : ℕ) → at_port (first ∷ ports) port ≡ Some number → ⊥
    by_port zero e = differs e
    by_port (suc port) e = none port e

port_or_none : (ports : List (Option ℕ)) (number : ℕ) → PortOrNone ports number
port_or_none [] number = inr (λ port e. nowhere e)
  where
    nowhere : ◌≡◌ {A = Option ℕ} None (Some number) → ⊥
    nowhere e = cc
port_or_none (None ∷ ports) number =
    port_or_none_later None ports number nowhere (port_or_none ports number)
  where
    nowhere : ◌≡◌ {A = Option ℕ} None (Some number) → ⊥
    nowhere e = cc
port_or_none (Some other ∷ ports) number =
    by_number (cases_eq other number) (port_or_none ports number)
  where
    apart : (other ≡ number → ⊥) → Some other ≡ Some number → ⊥
    apart differs e = let same : other ≡ number = cc in differs same

    by_number : (other ≡ number) ⊎ (other ≡ number → ⊥) → PortOrNone ports number
        → PortOrNone (Some other ∷ ports) number
    by_number (inl same) later = inl (0, ap Some same)
    by_number (inr differs) later =
        port_or_none_later (Some other) ports number (apart differs) later

-- rings of so many are at ports that are apart
pub are_placed : (inputs outputs : List (Option ℕ)) (count : ℕ) → AreRings count inputs
    → AreRings count outputs → AreApart inputs outputs → ArePlaced inputs outputs count
are_placed inputs outputs count inner outer apart = record {
  inner = inner;
  outer = outer;
  one_input = apart.one_input;
  one_output = apart.one_output;
  apart = apart.apart;
}

module _ (inputs outputs : List (Option ℕ)) where
  -- two changes that come to the same leave the same
  pub same_rings : (pops : ℕ → ℕ) (pushes : ByPort) (rings one other : List Ring)
      → Moves inputs outputs pops pushes rings one → Moves inputs outputs pops pushes rings other
      → one ≡ other
  same_rings pops pushes rings one other first second =
      ext_get_or (buffer [] 0) one other (first.each ∙ sym second.each)
      (λ number less. by_input number (port_or_none inputs number))
    where
      by_output : (number : ℕ) → ((port : ℕ) → at_port inputs port ≡ Some number → ⊥)
          → PortOrNone outputs number → ring_at one number ≡ ring_at other number
      by_output number none (inl h) =
          first.gives h.0 number h.1 ∙ sym (second.gives h.0 number h.1)
      by_output number none (inr neither) =
          first.stays number none neither ∙ sym (second.stays number none neither)

      by_input : (number : ℕ) → PortOrNone inputs number → ring_at one number ≡ ring_at other number
      by_input number (inl h) = first.takes h.0 number h.1 ∙ sym (second.takes h.0 number h.1)
      by_input number (inr none) = by_output number none (port_or_none outputs number)

  -- ---- a splitter's turns

  module _ (weights : List ℕ) where
    abbrev pub deal : List Ring → List Ring
    deal rings = dealt_out weights (at_port inputs 0) outputs 0 rings

    abbrev dealt : (count : ℕ) → List ℤ → ByPort
    dealt count items port =
        firsts count (slice_index weights port) (sum weights)
        (drop (span_start weights port) items)

    pub deal_moves : (items : List ℤ) (rings : List Ring)
        → ArePlaced inputs outputs (length rings) → items_at rings (at_port inputs 0) ≡ items
        → Moves inputs outputs (rate_at_0 (sum weights)) (piece weights items) rings (deal rings)
    deal_moves items rings placed is =
        dealing_moves inputs outputs weights items 0 rings (piece weights items) placed is
        (λ port less. absurd (omega (arith, less))) from_0
      where
        from_0 : (place : ℕ) → piece weights items (0 + place) ≡ piece weights items place
        from_0 place =
            let same : 0 + place ≡ place = omega arith in
            ap (piece weights items) same

    pub deals_move : (count : ℕ) (items : List ℤ) (rings : List Ring)
        → ArePlaced inputs outputs (length rings) → items_at rings (at_port inputs 0) ≡ items
        → Moves inputs outputs (rate_at_0 (count * sum weights)) (dealt count items) rings
        (times count deal rings)
    deals_move zero items rings placed is =
        same_moves inputs outputs (λ port. 0) (rate_at_0 (0 * sum weights)) (λ port. [])
        (dealt 0 items) rings rings nowhere (λ port. refl) (no_moves inputs outputs rings)
      where
        nowhere : (port : ℕ) → 0 ≡ rate_at_0 (0 * sum weights) port
        nowhere zero = omega arith
        nowhere (suc port) = refl
    deals_move (suc count) items rings placed is =
        let cycle = sum weights in
        let middle = deal rings in
        let left = drop cycle items in
        let here = deal_moves items rings placed is in
        same_moves inputs outputs (λ port. rate_at_0 cycle port + rate_at_0 (count * cycle) port)
        (rate_at_0 (suc count * cycle)) (λ port. piece weights items port ++ dealt count left port)
        (dealt (suc count) items) rings (times count deal middle) together joined
        (both_move inputs outputs (rate_at_0 cycle) (rate_at_0 (count * cycle))
        (piece weights items) (dealt count left) rings middle (times count deal middle) here
        (deals_move count left middle
        (still_placed inputs outputs (rate_at_0 cycle) (piece weights items) rings middle here
        placed)
        (items_after inputs outputs (rate_at_0 cycle) (piece weights items) rings middle here 0
        ∙ ap (drop cycle) is)))
      where
        together : (port : ℕ)
            → rate_at_0 (sum weights) port + rate_at_0 (count * sum weights) port
            ≡ rate_at_0 (suc count * sum weights) port
        together zero = omega arith
        together (suc port) = refl

        joined : (port : ℕ)
            → piece weights items port ++ dealt count (drop (sum weights) items) port
            ≡ dealt (suc count) items port
        joined port =
            ap (λ (l : List ℤ). piece weights items port
            ++ firsts count (slice_index weights port) (sum weights) l)
            (drop_swap (span_start weights port) (sum weights) items)

  -- ---- the same items port by port

  pub spreads_move : (weights : List ℕ) (count cycle : ℕ) (items : List ℤ) (first : ℕ)
      (rings : List Ring) (pushes : ByPort) → ArePlaced inputs outputs (length rings)
      → NoneBelow [] first pushes
      → ((place : ℕ) → pushes (first + place)
      ≡ firsts count (slice_index weights place) cycle (drop (span_start weights place) items))
      → Moves inputs outputs (λ port. 0) pushes rings
      (spread_out weights outputs count cycle items first rings)
  unfolding span_start
  spreads_move [] count cycle items first rings pushes placed below from =
      same_moves inputs outputs (λ port. 0) (λ port. 0) (λ port. []) pushes rings rings
      (λ port. refl)
      (λ port. sym (all_none [] first pushes below
      (λ place. from place ∙ firsts_none count cycle (drop (span_start [] place) items)) port))
      (no_moves inputs outputs rings)
  spreads_move (weight ∷ weights) count cycle items first rings pushes placed below from =
      let given_here = firsts count weight cycle items in
      let own = only_at [] first (pushes first) in
      let later = but_at [] first pushes in
      let middle = given (at_port outputs first) given_here rings in
      let after = spread_out weights outputs count cycle (drop weight items) (suc first) middle in
      let here = one_gives inputs outputs rings placed first given_here own
      (only_here [] first (pushes first) ∙ sym (at_first [] first pushes) ∙ from 0)
      (only_other [] first (pushes first)) in
      same_moves inputs outputs (λ port. 0) (λ port. 0) (λ port. own port ++ later port) pushes
      rings after (λ port. refl) (lists_parted first pushes)
      (both_move inputs outputs (λ port. 0) (λ port. 0) own later rings middle after here
      (spreads_move weights count cycle (drop weight items) (suc first) middle later
      (still_placed inputs outputs (λ port. 0) own rings middle here placed)
      (but_below [] first pushes below)
      (λ place. but_later [] first pushes place ∙ from (suc place)
      ∙ ap (firsts count (slice_index weights place) cycle) (span_later place))))
    where
      span_later : (place : ℕ) → drop (span_start (weight ∷ weights) (suc place)) items
          ≡ drop (span_start weights place) (drop weight items)
      span_later place =
          ap (λ (n : ℕ). drop n items) (sum_by-cons (λ x. x) weight (take place weights))
          ∙ sym (drop-drop (sum (take place weights)) weight items)

  -- so many turns at once
  pub spread_is_dealt : (weights : List ℕ) (count all : ℕ) (rings : List Ring)
      → ArePlaced inputs outputs (length rings) → all ≡ count * sum weights
      → spread_out weights outputs count (sum weights)
      (take all (items_at rings (at_port inputs 0))) 0 (taken (at_port inputs 0) all rings)
      ≡ times count (deal weights) rings
  spread_is_dealt weights count all rings placed is =
      let items = items_at rings (at_port inputs 0) in
      let cycle = sum weights in
      let middle = taken (at_port inputs 0) all rings in
      let pushes : ByPort = λ port. firsts count (slice_index weights port) cycle
      (drop (span_start weights port) (take all items)) in
      let first = one_takes inputs outputs rings placed 0 all (rate_at_0 all) refl
      (rate_elsewhere all) in
      let after = spread_out weights outputs count cycle (take all items) 0 middle in
      let then = spreads_move weights count cycle (take all items) 0 middle pushes
      (still_placed inputs outputs (rate_at_0 all) (λ port. []) rings middle first placed)
      (λ port less. absurd (omega (arith, less)))
      (λ place. from_0 pushes place) in
      same_rings (rate_at_0 (count * cycle)) (dealt weights count items) rings after
      (times count (deal weights) rings)
      (same_moves inputs outputs (λ port. rate_at_0 all port + 0) (rate_at_0 (count * cycle))
      (λ port. [] ++ pushes port) (dealt weights count items) rings after
      (λ port. plus_none port ∙ ap (λ (n : ℕ). rate_at_0 n port) is) (λ port. within port)
      (both_move inputs outputs (rate_at_0 all) (λ port. 0) (λ port. []) pushes rings middle after
      first then))
      (deals_move weights count items rings placed refl)
    where
      from_0 : (pushes : ByPort) (place : ℕ) → pushes (0 + place) ≡ pushes place
      from_0 pushes place = let same : 0 + place ≡ place = omega arith in ap pushes same

      plus_none : (port : ℕ) → rate_at_0 all port + 0 ≡ rate_at_0 all port
      plus_none port = omega arith

      within : (port : ℕ)
          → firsts count (slice_index weights port) (sum weights)
          (drop (span_start weights port) (take all (items_at rings (at_port inputs 0))))
          ≡ dealt weights count (items_at rings (at_port inputs 0)) port
      within port =
          ap (λ (n : ℕ). firsts count (slice_index weights port) (sum weights)
          (drop (span_start weights port) (take n (items_at rings (at_port inputs 0))))) is
          ∙ firsts_within count (slice_index weights port) (span_start weights port) (sum weights)
          (items_at rings (at_port inputs 0)) (span_within weights port)

-- one turn more
pub times_next : (count turn : ℕ) (change : List Ring → List Ring) (rings next : List Ring)
    → turn < count → next ≡ change rings
    → times (count - (turn + 1)) change next ≡ times (count - turn) change rings
times_next count turn change rings next less is =
    let left = count - (turn + 1) in
    let more : suc left ≡ count - turn = omega (arith, less) in
    ap (times left change) is ∙ ap (λ (n : ℕ). times n change rings) more
