-- The nodes after fission by their numbers.
use Rattle.std.proofs.Common.{◌≡◌, refl, sym, ap, ◌∙◌, ℕ, zero, suc, ◌+◌, ◌<◌, ◌≤◌, arith}
use Rattle.std.proofs.Common.{List, [], length, get_or, Bool, true, false, cond, inl, inr, Some}
use Rattle.std.proofs.Common.{slice_get, nat_lt}
use Rattle.std.proofs.lemmas.Bool.{cases_lt}
use Rattle.std.proofs.lemmas.Option.{slice_get-get_or}
use Rattle.strc_elab_graph.specs.Graphs.{NodeCode, Copy, Gather}
use Rattle.strc_elab_graph.specs.Graphs.{Joiner}
use Rattle.strc_elab_graph.specs.Rates.{fires_by_rounds}
use Rattle.strc_elab_graph.specs.declared.graph.Fission.{Fission}
use Rattle.strc_elab_dataflow.proofs.Numbers as numbers
use Rattle.strc_fiss.specs.Numbers.{is_dealt, last_part, base, each_part, origin_of, parts_after}
use Rattle.strc_fiss.specs.Splitting.{code_at, copied, new_code, part_of}
use Rattle.strc_fiss.specs.declared.split.Origin.{Origin}
use Rattle.strc_fiss.proofs.Bases.{base_up}
use Rattle.strc_fiss.proofs.Lookup.{part_many, part_there, part_value}
use Rattle.strc_stage_plan.specs.Named.{old_node}

module _ (share : ℕ → Fission) (codes : List NodeCode)
    (plain : (node : ℕ) (code : NodeCode) → slice_get codes node ≡ Some code
    → fires_by_rounds code ≡ false) where
  abbrev pub size : ℕ
  size = length codes

  abbrev pub nodes : List NodeCode
  nodes = each_part share (new_code share codes) (length codes)

  abbrev pub origins : List Origin
  origins = each_part share (origin_of share) (length codes)

  -- a number is that of a part of a node
  pub record IsNumber (number node part : ℕ) : Type 0 where
    pub inside : node < length codes
    pub within : part ≤ last_part share node
    pub at : base share node + part ≡ number

  pub number_of : (number : ℕ) → number < length nodes
      → (node : ℕ) × (part : ℕ) × IsNumber number node part
  number_of number less =
      let (v, k, is) = numbers.owner (parts_after share (λ w. 0)) (base share)
      (record { first = refl; next = λ w. refl; names = λ w j. refl }) number in
      let at : base share v + k ≡ number = is.is in
      (v, k, record { inside = inside_is v k at; within = is.within; at = at })
    where
      inside_is : (v k : ℕ) → base share v + k ≡ number → v < length codes
      inside_is v k at = elim (cases_lt v (length codes)) [
        | inl inside ↦ inside
        | inr past ↦
            absurd (omega (
              arith,
              at,
              less,
              part_many share (new_code share codes) (length codes),
              base_up share (length codes) v past,
            ))
      ]

  module _ (number node part : ℕ) (is : IsNumber number node part) where
    pub code_there : slice_get nodes number ≡ Some (new_code share codes node part)
    code_there =
        ap (slice_get nodes) (sym is.at)
        ∙ part_there share (new_code share codes) (length codes) node part is.inside is.within

    pub origin_is : old_node origins number ≡ node
    origin_is =
        ap (λ (n : ℕ). (get_or origins n none).node) (sym is.at)
        ∙ ap (λ (o : Origin). o.node)
        (part_value share (origin_of share) (length codes) node part none is.inside is.within)
      where
        none : Origin
        none = record { node = 0; first = 0 }

    pub old_there : slice_get codes node ≡ Some (code_at codes node)
    old_there = slice_get-get_or codes node (Joiner []) is.inside

    pub old_plain : fires_by_rounds (code_at codes node) ≡ false
    old_plain = plain node (code_at codes node) old_there

    -- a node that isn't split
    pub whole_code : is_dealt (share node) ≡ false
        → new_code share codes node part ≡ code_at codes node
    whole_code e =
        ap (λ (t : Bool). cond t (part_of (code_at codes node) (share node) part)
        (code_at codes node)) e

    pub whole_plain : is_dealt (share node) ≡ false
        → fires_by_rounds (new_code share codes node part) ≡ false
    whole_plain e = ap fires_by_rounds (whole_code e) ∙ old_plain

    pub whole_part : is_dealt (share node) ≡ false → part ≡ 0
    whole_part e =
        let last : last_part share node ≡ 0 =
        ap (λ (t : Bool). cond t (suc (share node).ways) 0) e in
        let within = is.within in
        omega (arith, last, within)

    -- parts of one that is
    pub dealt_code : is_dealt (share node) ≡ true
        → new_code share codes node part ≡ part_of (code_at codes node) (share node) part
    dealt_code e =
        ap (λ (t : Bool). cond t (part_of (code_at codes node) (share node) part)
        (code_at codes node)) e

    pub part_fires : is_dealt (share node) ≡ true
        → fires_by_rounds (new_code share codes node part) ≡ true
    part_fires e = ap fires_by_rounds (dealt_code e) ∙ by_part part
      where
        by_copy : (t : Bool)
            → fires_by_rounds (cond t (Copy (copied (code_at codes node)) (share node))
            (Gather (share node)))
            ≡ true
        by_copy true = refl
        by_copy false = refl

        by_part : (k : ℕ) → fires_by_rounds (part_of (code_at codes node) (share node) k) ≡ true
        by_part zero = refl
        by_part (suc copy) = by_copy (nat_lt copy (share node).ways)

    -- a node that isn't split, told by its code
    pub told_whole : (code : NodeCode) → slice_get nodes number ≡ Some code
        → fires_by_rounds code ≡ false → is_dealt (share node) ≡ false
    told_whole code there own = by_test (is_dealt (share node)) refl
      where
        by_test : (t : Bool) → is_dealt (share node) ≡ t → is_dealt (share node) ≡ false
        by_test false e = e
        by_test true e =
            let same : Some (new_code share codes node part) ≡ Some code =
            sym code_there ∙ there in
            let code_is : new_code share codes node part ≡ code = cc in
            let fires : true ≡ false =
            sym (part_fires e) ∙ ap fires_by_rounds code_is ∙ own in
            absurd (cc)
