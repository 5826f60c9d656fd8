-- What a change of rings comes to, ring by ring: how many items leave the ring at each input port
-- of a node, and which join the ring at each output port.
use Rattle.std.proofs.Common.{◌≡◌, refl, sym, ap, ◌∙◌, subst, ℕ, zero, suc, ◌+◌, ◌-◌, ◌<◌, ◌≤◌, ℤ}
use Rattle.std.proofs.Common.{List, [], ◌∷◌, ◌++◌, length, take, drop, Option, Some, None, inl, inr}
use Rattle.std.proofs.Common.{arith, append_assoc, length-append, length-take, drop-drop}
use mathlib.Core.Path.{fun_ext}
use Rattle.std.proofs.Math.Seq.{take-nil, drop-nil}
use Rattle.std.proofs.lemmas.Bool.{cases_eq}
use Rattle.std.proofs.lemmas.List.{append-nil, get_or-set_same, get_or-set_other, take_all}
use Rattle.std.proofs.lemmas.List.{length-set}
use Rattle.circular_buffer.specs.Buffer.{buffer}
use Rattle.strc_elab_dataflow.specs.Node.{ByPort}
use Rattle.strc_sched_laws.specs.Rings.{Ring, ring_at, at_port, items_at, shortened, extended}
use Rattle.strc_sched_laws.specs.Rings.{taken, given}
use Rattle.strc_sched_laws.specs.NodeSteps.{ArePlaced, Moves}

-- ---- one ring

take_append : (n : ℕ) (a b : List ℤ) → take n (a ++ b) ≡ take n a ++ take (n - length a) b
take_append zero a b =
    let none : 0 ≡ 0 - length a = omega arith in
    ap (λ (k : ℕ). take k b) none
take_append (suc n) [] b =
    let all : suc n ≡ suc n - 0 = omega arith in
    ap (λ (k : ℕ). take k b) all
take_append (suc n) (x ∷ a) b =
    let left : n - length a ≡ suc n - suc (length a) = omega arith in
    ap (λ (l : List ℤ). x ∷ l) (take_append n a b)
    ∙ ap (λ (k : ℕ). x ∷ (take n a ++ take k b)) left

pub extended_none : (ring : Ring) → extended [] ring ≡ ring
extended_none ring =
    ap (λ (l : List ℤ). buffer (ring.items ++ l) ring.capacity)
    (take-nil (ring.capacity - length ring.items))
    ∙ ap (λ (l : List ℤ). buffer l ring.capacity) (append-nil ring.items)

extended_twice : (a b : List ℤ) (ring : Ring)
    → extended b (extended a ring) ≡ extended (a ++ b) ring
extended_twice a b ring =
    let room = ring.capacity - length ring.items in
    let left : ring.capacity - length (ring.items ++ take room a) ≡ room - length a = omega (
      arith,
      length-append ring.items (take room a),
      length-take room a,
    ) in
    ap (λ (k : ℕ). buffer ((ring.items ++ take room a) ++ take k b) ring.capacity) left
    ∙ ap (λ (l : List ℤ). buffer l ring.capacity)
    (append_assoc ring.items (take room a) (take (room - length a) b)
    ∙ ap (λ (l : List ℤ). ring.items ++ l) (sym (take_append room a b)))

-- where there is room for all
pub extended_all : (more : List ℤ) (ring : Ring) → length (ring.items ++ more) ≤ ring.capacity
    → extended more ring ≡ buffer (ring.items ++ more) ring.capacity
extended_all more ring fits =
    ap (λ (l : List ℤ). buffer (ring.items ++ l) ring.capacity)
    (take_all (ring.capacity - length ring.items) more
    (omega (arith, fits, length-append ring.items more)))

shortened_twice : (a b : ℕ) (ring : Ring) → shortened b (shortened a ring) ≡ shortened (a + b) ring
shortened_twice a b ring =
    ap (λ (l : List ℤ). buffer l ring.capacity) (drop-drop b a ring.items)

-- ---- the ring at a port

taken_here : (rings : List Ring) (port : Option ℕ) (count number : ℕ) → port ≡ Some number
    → number < length rings
    → ring_at (taken port count rings) number ≡ shortened count (ring_at rings number)
taken_here rings port count number is within =
    subst (λ (own : Option ℕ). ring_at (taken own count rings) number
    ≡ shortened count (ring_at rings number)) (sym is)
    (get_or-set_same rings number (shortened count (ring_at rings number)) (buffer [] 0) within)

taken_other : (rings : List Ring) (port : Option ℕ) (count number : ℕ)
    → (port ≡ Some number → ⊥) → ring_at (taken port count rings) number ≡ ring_at rings number
taken_other rings None count number other = refl
taken_other rings (Some own) count number other =
    get_or-set_other rings own number (shortened count (ring_at rings own)) (buffer [] 0)
    (λ e. other (ap Some (sym e)))

taken_length : (rings : List Ring) (port : Option ℕ) (count : ℕ)
    → length (taken port count rings) ≡ length rings
taken_length rings None count = refl
taken_length rings (Some own) count = length-set rings own (shortened count (ring_at rings own))

given_here : (rings : List Ring) (port : Option ℕ) (more : List ℤ) (number : ℕ)
    → port ≡ Some number → number < length rings
    → ring_at (given port more rings) number ≡ extended more (ring_at rings number)
given_here rings port more number is within =
    subst (λ (own : Option ℕ). ring_at (given own more rings) number
    ≡ extended more (ring_at rings number)) (sym is)
    (get_or-set_same rings number (extended more (ring_at rings number)) (buffer [] 0) within)

given_other : (rings : List Ring) (port : Option ℕ) (more : List ℤ) (number : ℕ)
    → (port ≡ Some number → ⊥) → ring_at (given port more rings) number ≡ ring_at rings number
given_other rings None more number other = refl
given_other rings (Some own) more number other =
    get_or-set_other rings own number (extended more (ring_at rings own)) (buffer [] 0)
    (λ e. other (ap Some (sym e)))

given_length : (rings : List Ring) (port : Option ℕ) (more : List ℤ)
    → length (given port more rings) ≡ length rings
given_length rings None more = refl
given_length rings (Some own) more = length-set rings own (extended more (ring_at rings own))

-- ---- the rings at a node's ports

module _ (inputs outputs : List (Option ℕ)) where
  -- what a node looks at after a change
  pub items_after : (pops : ℕ → ℕ) (pushes : ByPort) (rings after : List Ring)
      → Moves inputs outputs pops pushes rings after → (port : ℕ)
      → items_at after (at_port inputs port)
      ≡ drop (pops port) (items_at rings (at_port inputs port))
  items_after pops pushes rings after moves port = by_port (at_port inputs port) refl
    where
      by_port : (found : Option ℕ) → at_port inputs port ≡ found
          → items_at after found ≡ drop (pops port) (items_at rings found)
      by_port None e = sym (drop-nil (pops port))
      by_port (Some number) e = ap (λ (ring : Ring). ring.items) (moves.takes port number e)

  pub same_moves : (pops others : ℕ → ℕ) (pushes more : ByPort) (rings after : List Ring)
      → ((port : ℕ) → pops port ≡ others port) → ((port : ℕ) → pushes port ≡ more port)
      → Moves inputs outputs pops pushes rings after → Moves inputs outputs others more rings after
  same_moves pops others pushes more rings after e f moves =
      subst (λ (rates : ℕ → ℕ). Moves inputs outputs rates more rings after) (fun_ext e)
      (subst (λ (lists : ByPort). Moves inputs outputs pops lists rings after) (fun_ext f) moves)

  pub no_moves : (rings : List Ring) → Moves inputs outputs (λ port. 0) (λ port. []) rings rings
  no_moves rings = record {
    each = refl;
    takes = λ port number is. refl;
    gives = λ port number is. sym (extended_none (ring_at rings number));
    stays = λ number none neither. refl;
  }

  -- one change, and then another one
  pub both_move : (pops others : ℕ → ℕ) (pushes more : ByPort) (rings middle after : List Ring)
      → Moves inputs outputs pops pushes rings middle
      → Moves inputs outputs others more middle after
      → Moves inputs outputs (λ port. pops port + others port) (λ port. pushes port ++ more port)
      rings after
  both_move pops others pushes more rings middle after first second = record {
    each = second.each ∙ first.each;
    takes = λ port number is. second.takes port number is
        ∙ ap (shortened (others port)) (first.takes port number is)
        ∙ shortened_twice (pops port) (others port) (ring_at rings number);
    gives = λ port number is. second.gives port number is
        ∙ ap (extended (more port)) (first.gives port number is)
        ∙ extended_twice (pushes port) (more port) (ring_at rings number);
    stays = λ number none neither. second.stays number none neither
        ∙ first.stays number none neither;
  }

  module _ (rings : List Ring) (placed : ArePlaced inputs outputs (length rings)) where
    -- items leave the ring at one port
    pub one_takes : (own count : ℕ) (pops : ℕ → ℕ) → pops own ≡ count
        → ((port : ℕ) → (port ≡ own → ⊥) → pops port ≡ 0)
        → Moves inputs outputs pops (λ port. []) rings (taken (at_port inputs own) count rings)
    one_takes own count pops here others = record {
      each = taken_length rings (at_port inputs own) count;
      takes = λ port number is. elim (cases_eq port own) [
        | inl same ↦
            taken_here rings (at_port inputs own) count number
            (ap (at_port inputs) (sym same) ∙ is) (placed.inner port number is)
            ∙ ap (λ (n : ℕ). shortened n (ring_at rings number))
            (sym (ap pops same ∙ here))
        | inr differs ↦
            taken_other rings (at_port inputs own) count number
            (λ e. differs (placed.one_input port own number is e))
            ∙ ap (λ (n : ℕ). shortened n (ring_at rings number))
            (sym (others port differs))
      ];
      gives = λ port number is.
          taken_other rings (at_port inputs own) count number
          (λ e. placed.apart own port number e is)
          ∙ sym (extended_none (ring_at rings number));
      stays = λ number none neither.
          taken_other rings (at_port inputs own) count number (none own);
    }

    -- items join the ring at one port
    pub one_gives : (own : ℕ) (items : List ℤ) (pushes : ByPort) → pushes own ≡ items
        → ((port : ℕ) → (port ≡ own → ⊥) → pushes port ≡ [])
        → Moves inputs outputs (λ port. 0) pushes rings (given (at_port outputs own) items rings)
    one_gives own items pushes here others = record {
      each = given_length rings (at_port outputs own) items;
      takes = λ port number is.
          given_other rings (at_port outputs own) items number
          (λ e. placed.apart port own number is e);
      gives = λ port number is. elim (cases_eq port own) [
        | inl same ↦
            given_here rings (at_port outputs own) items number
            (ap (at_port outputs) (sym same) ∙ is) (placed.outer port number is)
            ∙ ap (λ (more : List ℤ). extended more (ring_at rings number))
            (sym (ap pushes same ∙ here))
        | inr differs ↦
            given_other rings (at_port outputs own) items number
            (λ e. differs (placed.one_output port own number is e))
            ∙ sym (extended_none (ring_at rings number))
            ∙ ap (λ (more : List ℤ). extended more (ring_at rings number))
            (sym (others port differs))
      ];
      stays = λ number none neither.
          given_other rings (at_port outputs own) items number (neither own);
    }

  -- a ring is where it was
  pub still_placed : (pops : ℕ → ℕ) (pushes : ByPort) (rings after : List Ring)
      → Moves inputs outputs pops pushes rings after → ArePlaced inputs outputs (length rings)
      → ArePlaced inputs outputs (length after)
  still_placed pops pushes rings after moves placed =
      subst (λ (count : ℕ). ArePlaced inputs outputs count) (sym moves.each) placed

  -- items leave the ring at a port, and these or others join that at another
  pub one_passes : (rings : List Ring) → ArePlaced inputs outputs (length rings)
      → (own count : ℕ) (pops : ℕ → ℕ) → pops own ≡ count
      → ((port : ℕ) → (port ≡ own → ⊥) → pops port ≡ 0)
      → (to : ℕ) (items : List ℤ) (pushes : ByPort) → pushes to ≡ items
      → ((port : ℕ) → (port ≡ to → ⊥) → pushes port ≡ [])
      → Moves inputs outputs pops pushes rings
      (given (at_port outputs to) items (taken (at_port inputs own) count rings))
  one_passes rings placed own count pops here others to items pushes there nowhere =
      let after = taken (at_port inputs own) count rings in
      let first = one_takes rings placed own count pops here others in
      let later = still_placed pops (λ port. []) rings after first placed in
      same_moves (λ port. pops port + 0) pops (λ port. [] ++ pushes port) pushes rings
      (given (at_port outputs to) items after) (λ port. omega arith) (λ port. refl)
      (both_move pops (λ port. 0) (λ port. []) pushes rings after
      (given (at_port outputs to) items after) first
      (one_gives after later to items pushes there nowhere))
