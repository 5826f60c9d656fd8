-- The nodes after fission by their numbers: which are between parts, and their origins.
use Rattle.std.proofs.Common.{◌≡◌, refl, sym, ap, ◌∙◌, subst, ℕ, suc, ◌+◌, ◌<◌}
use Rattle.std.proofs.Common.{List, length, Bool, true, false, cond, Some, slice_get, nat_lt}
use Rattle.std.proofs.lemmas.Option.{slice_get_within}
use Rattle.strc_elab_graph.specs.Graphs.{NodeCode, Scatter, Copy, Gather, Filter, Identity}
use Rattle.strc_elab_graph.specs.Graphs.{FileReader, FileWriter, Splitter, Joiner}
use Rattle.strc_elab_graph.specs.Rates.{fires_by_rounds}
use Rattle.strc_elab_graph.specs.declared.graph.Fission.{Fission}
use Rattle.strc_fiss.specs.Numbers.{is_dealt, base, origin_of}
use Rattle.strc_fiss.specs.Splitting.{code_at, copied, new_code, part_of}
use Rattle.strc_fiss.proofs.Lookup.{part_many}
use Rattle.strc_stage_plan.proofs.NewNumbers.{IsNumber, nodes, origins, number_of, code_there}
use Rattle.strc_stage_plan.proofs.NewNumbers.{origin_is, old_there, old_plain, whole_code}
use Rattle.strc_stage_plan.proofs.NewNumbers.{whole_part}
use Rattle.strc_stage_plan.proofs.NewNumbers.{dealt_code, told_whole}
use Rattle.strc_stage_steps.specs.Origins.{AreOrigins, is_inside}

-- nodes that aren't of fission aren't between parts
pub plain_outside : (code : NodeCode) → fires_by_rounds code ≡ false → is_inside code ≡ false
plain_outside (Filter name filter) e = refl
plain_outside Identity e = refl
plain_outside (FileReader text) e = refl
plain_outside (FileWriter text) e = refl
plain_outside (Splitter splitter) e = refl
plain_outside (Joiner weights) e = refl
plain_outside (Scatter fission) e = refl
plain_outside (Copy copied fission) e = absurd (cc)
plain_outside (Gather fission) e = absurd (cc)

module _ (share : ℕ → Fission) (codes : List NodeCode)
    (plain : (node : ℕ) (code : NodeCode) → slice_get codes node ≡ Some code
    → fires_by_rounds code ≡ false) where
  module _ (number node part : ℕ) (is : IsNumber share codes plain number node part) where
    pub later_inside : is_dealt (share node) ≡ true → (k : ℕ) → part ≡ suc k
        → is_inside (new_code share codes node part) ≡ true
    later_inside e k later =
        ap is_inside (dealt_code share codes plain number node part is e
        ∙ ap (part_of (code_at codes node) (share node)) later)
        ∙ by_copy (nat_lt k (share node).ways)
      where
        by_copy : (t : Bool)
            → is_inside (cond t (Copy (copied (code_at codes node)) (share node))
            (Gather (share node)))
            ≡ true
        by_copy true = refl
        by_copy false = refl

    pub first_outside : part ≡ 0 → is_inside (new_code share codes node part) ≡ false
    first_outside first = by_test (is_dealt (share node)) refl
      where
        by_test : (t : Bool) → is_dealt (share node) ≡ t
            → is_inside (new_code share codes node part) ≡ false
        by_test true e =
            ap is_inside (dealt_code share codes plain number node part is e
            ∙ ap (part_of (code_at codes node) (share node)) first)
        by_test false e =
            ap is_inside (whole_code share codes plain number node part is e)
            ∙ plain_outside (code_at codes node)
            (old_plain share codes plain number node part is)

  -- ---- the origins

  pub origins_are : AreOrigins codes (nodes share codes plain) (origins share codes plain)
  origins_are = record {
    each = part_many share (origin_of share) (length codes)
        ∙ sym (part_many share (new_code share codes) (length codes));
    within = λ number less.
        let (v, k, is) = number_of share codes plain number less in
        subst (λ (n : ℕ). n < length codes) (sym (origin_is share codes plain number v k is))
        is.inside;
    kept = λ number code there own.
        let (v, k, is) = number_of share codes plain number
        (slice_get_within (nodes share codes plain) number code there) in
        let whole = told_whole share codes plain number v k is code there own in
        ap (slice_get codes) (origin_is share codes plain number v k is)
        ∙ old_there share codes plain number v k is
        ∙ sym (sym there ∙ code_there share codes plain number v k is
        ∙ ap Some (whole_code share codes plain number v k is whole));
    apart = λ one other own beside same.
        let (v, k, is) = number_of share codes plain one
        (slice_get_within (nodes share codes plain) one own.code own.there) in
        let (u, l, there) = number_of share codes plain other
        (slice_get_within (nodes share codes plain) other beside.code beside.there) in
        let first = whole_part share codes plain one v k is
        (told_whole share codes plain one v k is own.code own.there own.whole) in
        let second = whole_part share codes plain other u l there
        (told_whole share codes plain other u l there beside.code beside.there beside.whole) in
        let nodes_same : v ≡ u =
        sym (origin_is share codes plain one v k is) ∙ same
        ∙ origin_is share codes plain other u l there in
        sym is.at
        ∙ ap (λ (n : ℕ). base share n + k) nodes_same
        ∙ ap (λ (n : ℕ). base share u + n) (first ∙ sym second)
        ∙ there.at;
  }
