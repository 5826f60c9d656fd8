-- Items that pass from ring to ring, port by port.
use Rattle.std.proofs.Common.{◌≡◌, refl, sym, ap, ◌∙◌, ℕ, zero, suc, ◌+◌, ◌<◌, ◌≤◌, ℤ, Bool}
use Rattle.std.proofs.Common.{true, false, List, [], ◌∷◌, length, get_or, drop, arith, add-one}
use Rattle.std.specs.Prelude.{Option, Some, None, ◌&&◌, nat_le, if◌then◌else◌}
use Rattle.std.proofs.lemmas.List.{length-set, drop_all}
use Rattle.strc_sched_laws.specs.Rings.{Ring, at_port, items_at, taken, given, moved, dealt_out}
use Rattle.strc_sched_laws.specs.Rings.{copied_out, gathered_in}
use Rattle.strc_sched_laws.specs.Steps.{finds_weights}

-- the number of rings stays

pub length-taken : (port : Option ℕ) (count : ℕ) (rings : List Ring)
    → length (taken port count rings) ≡ length rings
length-taken None count rings = refl
length-taken (Some number) count rings = length-set rings number _

pub length-given : (port : Option ℕ) (more : List ℤ) (rings : List Ring)
    → length (given port more rings) ≡ length rings
length-given None more rings = refl
length-given (Some number) more rings = length-set rings number _

pub length-moved : (from to : Option ℕ) (count : ℕ) (rings : List Ring)
    → length (moved from to count rings) ≡ length rings
length-moved from to count rings = length-given to _ (taken from count rings)
    ∙ length-taken from count rings

pub length-dealt_out : (weights : List ℕ) (from : Option ℕ) (outputs : List (Option ℕ)) (port : ℕ)
    (rings : List Ring) → length (dealt_out weights from outputs port rings) ≡ length rings
length-dealt_out [] from outputs port rings = refl
length-dealt_out (weight ∷ weights) from outputs port rings =
    length-dealt_out weights from outputs (suc port)
    (moved from (at_port outputs port) weight rings)
    ∙ length-moved from (at_port outputs port) weight rings

pub length-gathered_in : (weights : List ℕ) (inputs : List (Option ℕ)) (to : Option ℕ) (port : ℕ)
    (rings : List Ring) → length (gathered_in weights inputs to port rings) ≡ length rings
length-gathered_in [] inputs to port rings = refl
length-gathered_in (weight ∷ weights) inputs to port rings =
    length-gathered_in weights inputs to (suc port) (moved (at_port inputs port) to weight rings)
    ∙ length-moved (at_port inputs port) to weight rings

copied_length : (carries : Bool) (to : Option ℕ) (items : List ℤ) (rings : List Ring)
    → length (if carries then given to items rings else rings) ≡ length rings
copied_length true to items rings = length-given to items rings
copied_length false to items rings = refl

pub length-copied_out : (carried : List Bool) (outputs : List (Option ℕ)) (items : List ℤ)
    (port : ℕ) (rings : List Ring) → length (copied_out carried outputs items port rings)
    ≡ length rings
length-copied_out [] outputs items port rings = refl
length-copied_out (carries ∷ carried) outputs items port rings =
    length-copied_out carried outputs items (suc port) _
    ∙ copied_length carries (at_port outputs port) items rings

-- a list from a place on begins with the item there
pub drop_at : {X : Type 0} (xs : List X) (place : ℕ) (d : X) → place < length xs
    → drop place xs ≡ get_or xs place d ∷ drop (suc place) xs
drop_at [] place d less = absurd (omega arith)
drop_at (x ∷ xs) zero d less = refl
drop_at (x ∷ xs) (suc place) d less = drop_at xs place d (omega arith)

-- ports in turn: what is left to do from a port on is what is left of the whole

pub record DealsOut (weights : List ℕ) (from : Option ℕ) (outputs : List (Option ℕ)) (port : ℕ)
    (before now : List Ring) : Type 0 where
  pub rest : dealt_out (drop port weights) from outputs port now
      ≡ dealt_out weights from outputs 0 before
  pub each : length now ≡ length before

pub deals_next : (weights : List ℕ) (from : Option ℕ) (outputs : List (Option ℕ)) (port d : ℕ)
    (before now next : List Ring) → DealsOut weights from outputs port before now
    → port < length weights
    → next ≡ moved from (at_port outputs port) (get_or weights port d) now
    → DealsOut weights from outputs (port + 1) before next
deals_next weights from outputs port d before now next h less is = record {
  rest = ap (λ n. dealt_out (drop n weights) from outputs n next) (add-one port)
      ∙ ap (dealt_out (drop (suc port) weights) from outputs (suc port)) is
      ∙ ap (λ (l : List ℕ). dealt_out l from outputs port now) (sym (drop_at weights port d less))
      ∙ h.rest;
  each = ap length is ∙ length-moved from (at_port outputs port) (get_or weights port d) now
      ∙ h.each;
}

pub record GathersIn (weights : List ℕ) (inputs : List (Option ℕ)) (to : Option ℕ) (port : ℕ)
    (before now : List Ring) : Type 0 where
  pub rest : gathered_in (drop port weights) inputs to port now
      ≡ gathered_in weights inputs to 0 before
  pub each : length now ≡ length before

pub gathers_next : (weights : List ℕ) (inputs : List (Option ℕ)) (to : Option ℕ) (port d : ℕ)
    (before now next : List Ring) → GathersIn weights inputs to port before now
    → port < length weights
    → next ≡ moved (at_port inputs port) to (get_or weights port d) now
    → GathersIn weights inputs to (port + 1) before next
gathers_next weights inputs to port d before now next h less is = record {
  rest = ap (λ n. gathered_in (drop n weights) inputs to n next) (add-one port)
      ∙ ap (gathered_in (drop (suc port) weights) inputs to (suc port)) is
      ∙ ap (λ (l : List ℕ). gathered_in l inputs to port now) (sym (drop_at weights port d less))
      ∙ h.rest;
  each = ap length is ∙ length-moved (at_port inputs port) to (get_or weights port d) now
      ∙ h.each;
}

pub gathers_all : (weights : List ℕ) (inputs : List (Option ℕ)) (to : Option ℕ) (port : ℕ)
    (before now : List Ring) → length weights ≤ port
    → GathersIn weights inputs to port before now → now ≡ gathered_in weights inputs to 0 before
gathers_all weights inputs to port before now all h =
    sym (ap (λ (l : List ℕ). gathered_in l inputs to port now) (drop_all port weights all))
    ∙ h.rest

pub record CopiesOut (carried : List Bool) (outputs : List (Option ℕ)) (items : List ℤ) (port : ℕ)
    (before now : List Ring) : Type 0 where
  pub rest : copied_out (drop port carried) outputs items port now
      ≡ copied_out carried outputs items 0 before
  pub each : length now ≡ length before

pub copies_next : (carried : List Bool) (outputs : List (Option ℕ)) (items : List ℤ) (port : ℕ)
    (d : Bool) (before now next : List Ring) → CopiesOut carried outputs items port before now
    → port < length carried
    → next ≡ (if get_or carried port d then given (at_port outputs port) items now else now)
    → CopiesOut carried outputs items (port + 1) before next
copies_next carried outputs items port d before now next h less is = record {
  rest = ap (λ n. copied_out (drop n carried) outputs items n next) (add-one port)
      ∙ ap (copied_out (drop (suc port) carried) outputs items (suc port)) is
      ∙ ap (λ (l : List Bool). copied_out l outputs items port now)
      (sym (drop_at carried port d less))
      ∙ h.rest;
  each = ap length is
      ∙ copied_length (get_or carried port d) (at_port outputs port) items now ∙ h.each;
}

-- weights that are found, one by one
pub weights_next : (weights : List ℕ) (inputs : List (Option ℕ)) (port d : ℕ) (rings : List Ring)
    → port < length weights
    → nat_le (get_or weights port d) (length (items_at rings (at_port inputs port))) ≡ true
    → finds_weights (drop port weights) inputs port rings
    ≡ finds_weights (drop (port + 1) weights) inputs (port + 1) rings
weights_next weights inputs port d rings less found =
    ap (λ (l : List ℕ). finds_weights l inputs port rings) (drop_at weights port d less)
    ∙ ap (λ (test : Bool). test && finds_weights (drop (suc port) weights) inputs (suc port) rings)
    found
    ∙ ap (λ n. finds_weights (drop n weights) inputs n rings) (sym (add-one port))

pub weight_lacks : (weights : List ℕ) (inputs : List (Option ℕ)) (port d : ℕ) (rings : List Ring)
    → port < length weights
    → nat_le (get_or weights port d) (length (items_at rings (at_port inputs port))) ≡ false
    → finds_weights (drop port weights) inputs port rings ≡ false
weight_lacks weights inputs port d rings less lacks =
    ap (λ (l : List ℕ). finds_weights l inputs port rings) (drop_at weights port d less)
    ∙ ap (λ (test : Bool). test && finds_weights (drop (suc port) weights) inputs (suc port) rings)
    lacks
