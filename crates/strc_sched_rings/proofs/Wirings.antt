-- Rings are put at ports one after another.
use Rattle.std.proofs.Common.{◌≡◌, refl, sym, ap, ◌∙◌, subst, ℕ, zero, suc, ◌<◌, List, []}
use Rattle.std.proofs.Common.{◌∷◌, length, get_or, set, take, map, arith, ◌≢◌, ◌⊎◌, inl, inr}
use Rattle.std.specs.Prelude.{Option, Some, None, slice_get, replicate}
use Rattle.std.specs.Vec.{with_item}
use Rattle.std.specs.declared.vec.Vec.{Vec}
use Rattle.std.proofs.lemmas.List.{map-set, get_or-map, length-map, get_or-set_same}
use Rattle.std.proofs.lemmas.List.{get_or-set_other, length-set}
use Rattle.strc_elab_graph.specs.declared.graph.Port.{Port}
use Rattle.strc_sched_laws.specs.Rings.{at_port}
use Rattle.strc_sched_laws.specs.Wiring.{PortRings, ports_at, unwired, HasPort, IsWired}

-- a ring is put at a port of a vector of vectors
pub put_at : {Z : Type 0} (vectors : List (Vec (Option ℕ) Z)) (lists : PortRings)
    (node port ring : ℕ) (old : Vec (Option ℕ) Z)
    → map (λ (v : Vec (Option ℕ) Z). v.items) vectors ≡ lists
    → node < length lists → old ≡ get_or vectors node old
    → map (λ (v : Vec (Option ℕ) Z). v.items) (set vectors node (with_item old port (Some ring)))
    ≡ set lists node (set (get_or lists node []) port (Some ring))
put_at {Z} vectors lists node port ring old view within was =
    let items = λ (v : Vec (Option ℕ) Z). v.items in
    let own = map items vectors in
    let short : node < length vectors = let e = length-map vectors items in let l =
    ap length view in omega arith in
    let same : get_or own node [] ≡ old.items = get_or-map items vectors node old [] short
    ∙ ap items (sym was) in
    map-set items vectors node (with_item old port (Some ring))
    ∙ ap (λ l. set own node (set l port (Some ring))) (sym same)
    ∙ ap (λ l. set l node (set (get_or l node []) port (Some ring))) view

-- the ports of a node, one of whose rings is put
abbrev pub with_ring : PortRings → (node port ring : ℕ) → PortRings
with_ring rings node port ring = set rings node (set (ports_at rings node) port (Some ring))

-- numbers are equal or differ
same_or_not : (a b : ℕ) → (a ≡ b) ⊎ (a ≢ b)
same_or_not zero zero = inl refl
same_or_not zero (suc b) = inr (λ e. omega arith)
same_or_not (suc a) zero = inr (λ e. omega arith)
same_or_not (suc a) (suc b) = both (same_or_not a b)
  where
    both : (a ≡ b) ⊎ (a ≢ b) → (suc a ≡ suc b) ⊎ (suc a ≢ suc b)
    both (inl e) = inl (ap suc e)
    both (inr n) = inr (λ e. n (omega arith))

module _ (rings : PortRings) (node port ring : ℕ) (there : node < length rings)
    (free : port < length (ports_at rings node)) where
  put_here : at_port (ports_at (with_ring rings node port ring) node) port ≡ Some ring
  put_here =
      ap (λ l. at_port l port)
      (get_or-set_same rings node (set (ports_at rings node) port (Some ring)) [] there)
      ∙ get_or-set_same (ports_at rings node) port (Some ring) None free

  put_beside : (other : ℕ) → other ≢ port
      → at_port (ports_at (with_ring rings node port ring) node) other
      ≡ at_port (ports_at rings node) other
  put_beside other differ =
      ap (λ l. at_port l other)
      (get_or-set_same rings node (set (ports_at rings node) port (Some ring)) [] there)
      ∙ get_or-set_other (ports_at rings node) port other (Some ring) None differ

  put_elsewhere : (other at : ℕ) → other ≢ node
      → at_port (ports_at (with_ring rings node port ring) other) at
      ≡ at_port (ports_at rings other) at
  put_elsewhere other at differ =
      ap (λ l. at_port l at)
      (get_or-set_other rings node other (set (ports_at rings node) port (Some ring)) [] differ)

  -- the number of ports of each node stays
  pub put_shape : (other : ℕ) → length (ports_at (with_ring rings node port ring) other)
      ≡ length (ports_at rings other)
  put_shape other = by_case (same_or_not other node)
    where
      by_case : (other ≡ node) ⊎ (other ≢ node)
          → length (ports_at (with_ring rings node port ring) other)
          ≡ length (ports_at rings other)
      by_case (inl e) =
          ap (λ n. length (ports_at (with_ring rings node port ring) n)) e
          ∙ ap length (get_or-set_same rings node (set (ports_at rings node) port (Some ring)) []
          there)
          ∙ length-set (ports_at rings node) port (Some ring)
          ∙ ap (λ n. length (ports_at rings n)) (sym e)
      by_case (inr differ) = ap length (get_or-set_other rings node other
          (set (ports_at rings node) port (Some ring)) [] differ)

-- one end more

taken_before : {X : Type 0} (ends : List X) (count number : ℕ) (end : X)
    → slice_get (take count ends) number ≡ Some end → slice_get (take (suc count) ends) number
    ≡ Some end
taken_before [] zero number end is = is
taken_before [] (suc count) number end is = is
taken_before (first ∷ ends) zero number end is = absurd (cc)
taken_before (first ∷ ends) (suc count) zero end is = is
taken_before (first ∷ ends) (suc count) (suc number) end is =
    taken_before ends count number end is

taken_last : {X : Type 0} (ends : List X) (count : ℕ) (end : X) → slice_get ends count ≡ Some end
    → slice_get (take (suc count) ends) count ≡ Some end
taken_last [] count end is = absurd (cc)
taken_last (first ∷ ends) zero end is = is
taken_last (first ∷ ends) (suc count) end is = taken_last ends count end is

taken_or_last : {X : Type 0} (ends : List X) (count number : ℕ) (end : X)
    → slice_get (take (suc count) ends) number ≡ Some end
    → (slice_get (take count ends) number ≡ Some end)
    ⊎ ((number ≡ count) × (slice_get ends count ≡ Some end))
taken_or_last [] zero number end is = absurd (cc)
taken_or_last [] (suc count) number end is = absurd (cc)
taken_or_last (first ∷ ends) zero zero end is = inr (refl, is)
taken_or_last (first ∷ ends) zero (suc number) end is = absurd (cc)
taken_or_last (first ∷ ends) (suc count) zero end is = inl is
taken_or_last (first ∷ ends) (suc count) (suc number) end is = further
    (taken_or_last ends count number end is)
  where
    further : (slice_get (take count ends) number ≡ Some end)
        ⊎ ((number ≡ count) × (slice_get ends count ≡ Some end))
        → (slice_get (take (suc count) (first ∷ ends)) (suc number) ≡ Some end)
        ⊎ ((suc number ≡ suc count) × (slice_get (first ∷ ends) (suc count) ≡ Some end))
    further (inl h) = inl h
    further (inr h) = inr (ap suc h.0, h.1)

module _ (ends : List Port) (count : ℕ) (end : Port) (is : slice_get ends count ≡ Some end)
    (rings : PortRings) (there : end.node < length rings)
    (free : end.port < length (ports_at rings end.node)) (before : IsWired (take count ends) rings)
  where
    abbrev next : PortRings
    next = with_ring rings end.node end.port count

    found_at : (node port number : ℕ) → at_port (ports_at rings node) port ≡ Some number
        → slice_get (take (suc count) ends) number ≡ Some (record { node = node; port = port })
    found_at node port number found = taken_before ends count number
        (record { node = node; port = port }) (before.sound node port number found)

    sound : (node port number : ℕ) → at_port (ports_at next node) port ≡ Some number
        → slice_get (take (suc count) ends) number ≡ Some (record { node = node; port = port })
    sound node port number found = by_node (same_or_not node end.node)
      where
        by_port : node ≡ end.node → (port ≡ end.port) ⊎ (port ≢ end.port)
            → slice_get (take (suc count) ends) number
            ≡ Some (record { node = node; port = port })
        by_port same (inl equal) =
            let here : at_port (ports_at next node) port ≡ Some count =
            ap (λ n. at_port (ports_at next n) port) same
            ∙ ap (λ p. at_port (ports_at next end.node) p) equal
            ∙ put_here rings end.node end.port count there free in
            let number_is : number ≡ count = cc in
            ap (slice_get (take (suc count) ends)) number_is ∙ taken_last ends count end is
            ∙ ap (λ n. Some (record { node = n; port = end.port })) (sym same)
            ∙ ap (λ p. Some (record { node = node; port = p })) (sym equal)
        by_port same (inr differ) = found_at node port number
            (ap (λ n. at_port (ports_at rings n) port) same
            ∙ sym (put_beside rings end.node end.port count there free port differ)
            ∙ ap (λ n. at_port (ports_at next n) port) (sym same) ∙ found)

        by_node : (node ≡ end.node) ⊎ (node ≢ end.node)
            → slice_get (take (suc count) ends) number
            ≡ Some (record { node = node; port = port })
        by_node (inl same) = by_port same (same_or_not port end.port)
        by_node (inr differ) = found_at node port number
            (sym (put_elsewhere rings end.node end.port count there free node port differ) ∙ found)

    complete : (number : ℕ) (one : Port) → slice_get (take (suc count) ends) number ≡ Some one
        → (other : ℕ) × (at_port (ports_at next one.node) one.port ≡ Some other)
    complete number one one_is = by_node (same_or_not one.node end.node)
      where
        last : slice_get ends count ≡ Some one → one ≡ end
        last h = cc

        earlier : (at_port (ports_at next one.node) one.port
            ≡ at_port (ports_at rings one.node) one.port)
            → (one ≡ end → ⊥)
            → (other : ℕ) × (at_port (ports_at next one.node) one.port ≡ Some other)
        earlier same differ = by_place (taken_or_last ends count number one one_is)
          where
            by_place : (slice_get (take count ends) number ≡ Some one)
                ⊎ ((number ≡ count) × (slice_get ends count ≡ Some one))
                → (other : ℕ) × (at_port (ports_at next one.node) one.port ≡ Some other)
            by_place (inl h) = let old = before.complete number one h in (old.0, same ∙ old.1)
            by_place (inr h) = absurd (differ (last h.1))

        by_port : one.node ≡ end.node → (one.port ≡ end.port) ⊎ (one.port ≢ end.port)
            → (other : ℕ) × (at_port (ports_at next one.node) one.port ≡ Some other)
        by_port same (inl equal) = (
          count,
          ap (λ n. at_port (ports_at next n) one.port) same
              ∙ ap (λ p. at_port (ports_at next end.node) p) equal
              ∙ put_here rings end.node end.port count there free,
        )
        by_port same (inr differ) = earlier
            (ap (λ n. at_port (ports_at next n) one.port) same
            ∙ put_beside rings end.node end.port count there free one.port differ
            ∙ ap (λ n. at_port (ports_at rings n) one.port) (sym same))
            (λ e. differ (ap (λ (p : Port). p.port) e))

        by_node : (one.node ≡ end.node) ⊎ (one.node ≢ end.node)
            → (other : ℕ) × (at_port (ports_at next one.node) one.port ≡ Some other)
        by_node (inl same) = by_port same (same_or_not one.port end.port)
        by_node (inr differ) = earlier
            (put_elsewhere rings end.node end.port count there free one.node one.port differ)
            (λ e. differ (ap (λ (p : Port). p.node) e))

    pub wired_one : IsWired (take (suc count) ends) next
    wired_one = record { sound = sound; complete = complete }

-- while rings are put
pub record Wires (counts : List ℕ) (ends : List Port) (count : ℕ) (rings : PortRings) : Type 0 where
  pub nodes : length rings ≡ length counts
  pub shape : (node : ℕ) → length (ports_at rings node) ≡ get_or counts node 0
  pub wired : IsWired (take count ends) rings

pub wires_next : (counts : List ℕ) (ends : List Port) (count : ℕ) (rings : PortRings) (end : Port)
    → Wires counts ends count rings → slice_get ends count ≡ Some end → HasPort counts end
    → Wires counts ends (suc count) (with_ring rings end.node end.port count)
wires_next counts ends count rings end h is has =
    let there : end.node < length rings = let e = h.nodes in let n = has.node in omega arith in
    let free : end.port < length (ports_at rings end.node) =
    let e = h.shape end.node in let p = has.port in omega arith in
    record {
      nodes = length-set rings end.node _ ∙ h.nodes;
      shape = λ node. put_shape rings end.node end.port count there free node ∙ h.shape node;
      wired = wired_one ends count end is rings there free h.wired;
    }

-- before the first one
unwired_none : (counts : List ℕ) (node port : ℕ) → at_port (ports_at (unwired counts) node) port
    ≡ None
unwired_none [] node port = refl
unwired_none (count ∷ counts) zero port = none count port
  where
    none : (count port : ℕ) → at_port (replicate count None) port ≡ None
    none zero port = refl
    none (suc count) zero = refl
    none (suc count) (suc port) = none count port
unwired_none (count ∷ counts) (suc node) port = unwired_none counts node port

unwired_shape : (counts : List ℕ) (node : ℕ) → length (ports_at (unwired counts) node)
    ≡ get_or counts node 0
unwired_shape [] node = refl
unwired_shape (count ∷ counts) zero = size count
  where
    size : (count : ℕ) → length (replicate {A = Option ℕ} count None) ≡ count
    size zero = refl
    size (suc count) = ap suc (size count)
unwired_shape (count ∷ counts) (suc node) = unwired_shape counts node

pub wires_start : (counts : List ℕ) (ends : List Port) (rings : PortRings)
    → rings ≡ unwired counts → Wires counts ends 0 rings
wires_start counts ends rings is = subst (λ r. Wires counts ends 0 r) (sym is) (record {
  nodes = length-map counts _;
  shape = unwired_shape counts;
  wired = record {
    sound = λ node port number found. absurd (none_some number
        (sym (unwired_none counts node port) ∙ found));
    complete = λ number end found. absurd (nothing number end found);
  };
})
  where
    none_some : (number : ℕ) → None ≡ Some number → ⊥
    none_some number e = cc

    nothing : (number : ℕ) (end : Port) → slice_get (take 0 ends) number ≡ Some end → ⊥
    nothing number end found = cc
