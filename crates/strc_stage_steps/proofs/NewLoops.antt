-- The outermost loops of nodes after fission.
use Rattle.std.proofs.Common.{◌≡◌, refl, sym, ap, ◌∙◌, ℕ, ◌+◌, ◌<◌, ◌≤◌, arith}
use Rattle.std.proofs.Common.{length, get_or, cond, Option, Some, None, slice_get, inl, inr}
use Rattle.std.specs.Prelude.{option_map}
use Rattle.std.proofs.lemmas.Bool.{cases_lt, lt-ltb}
use Rattle.std.proofs.lemmas.Option.{none-some, same_Some, slice_get_within, slice_get-get_or}
use Rattle.std.proofs.lemmas.Option.{get_or_from_slice_get}
use Rattle.strc_elab_graph.specs.declared.graph.Fission.{Fission}
use Rattle.strc_elab_dataflow.proofs.Numbers as numbers
use Rattle.strc_fiss.specs.Numbers.{last_part, base, each_part, parts_after}
use Rattle.strc_fiss.specs.Splitting.{new_joiner, new_loop}
use Rattle.strc_fiss.proofs.Bases.{base_below, base_up}
use Rattle.strc_fiss.proofs.Lookup.{part_many, part_there}
use Rattle.strc_stage_plan.specs.Cuts.{IsBetweenGroups}
use Rattle.strc_stage_plan.proofs.Beginnings.{AreNumbered}
use Rattle.strc_stage_plan.proofs.GroupBounds.{Loops}

module _ (share : ℕ → Fission) where
  -- the part that has a number
  pub record IsPart (number : ℕ) : Type 0 where
    pub node : ℕ
    pub part : ℕ
    pub within : part ≤ last_part share node
    pub is : base share node + part ≡ number

  pub part_of : (number : ℕ) → IsPart number
  part_of number =
      let (node, part, own) = numbers.owner (parts_after share (λ w. 0)) (base share)
      (record { first = refl; next = λ w. refl; names = λ w j. refl }) number in
      record { node = node; part = part; within = own.within; is = own.is }

  pub node_below : (number size : ℕ) (own : IsPart number) → number < base share size
      → own.node < size
  node_below number size own less = elim (cases_lt own.node size) [
    | inl inside ↦ inside
    | inr past ↦ absurd (omega (arith, own.is, less, base_up share size own.node past))
  ]

  -- parts are in order of their nodes
  pub node_upto : (u k v j : ℕ) → base share u + k ≤ base share v + j → j ≤ last_part share v
      → u ≤ v
  node_upto u k v j less within = elim (cases_lt v u) [
    | inl below ↦ absurd (omega (arith, less, within, base_below share v u below))
    | inr upto ↦ upto
  ]

  -- the outermost loops of so many nodes' parts
  abbrev pub new_loops : (loops : Loops) → (size : ℕ) → Loops
  new_loops loops size = each_part share (new_loop share size loops) size

  module _ (loops : Loops) (size : ℕ) (is : AreNumbered 0 loops) (many : length loops ≡ size) where
    abbrev new : Loops
    new = new_loops loops size

    joiner_is : (loop : ℕ) → loop < size → new_joiner share size loop ≡ base share loop
    joiner_is loop less = ap (λ t. cond t (base share loop) loop) (lt-ltb loop size less)

    pub new_there : (v k loop : ℕ) → k ≤ last_part share v → slice_get loops v ≡ Some (Some loop)
        → slice_get new (base share v + k) ≡ Some (Some (base share loop))
    new_there v k loop within here =
        let less = slice_get_within loops v (Some loop) here in
        let upto = (is.from v loop here).1 in
        part_there share (new_loop share size loops) size v k (omega (arith, less, many)) within
        ∙ ap (λ (l : Option ℕ). Some (option_map (new_joiner share size) l))
        (get_or_from_slice_get loops v (Some loop) None here)
        ∙ ap (λ (n : ℕ). Some (Some n)) (joiner_is loop (omega (arith, less, many, upto)))

    -- a part that is in a loop, and its node
    record IsLooped (number loop : ℕ) : Type 0 where
      own : IsPart number
      joiner : ℕ
      here : slice_get loops own.node ≡ Some (Some joiner)
      named : loop ≡ base share joiner

    new_is : (v loop : ℕ) (outer : Option ℕ) → get_or loops v None ≡ outer → v < size
        → option_map (new_joiner share size) outer ≡ Some loop
        → (joiner : ℕ) × (slice_get loops v ≡ Some (Some joiner)) × (loop ≡ base share joiner)
    new_is v loop None e less named = absurd (none-some loop named)
    new_is v loop (Some joiner) e less named =
        let here : slice_get loops v ≡ Some (Some joiner) =
        slice_get-get_or loops v None (omega (arith, less, many)) ∙ ap Some e in
        let upto = (is.from v joiner here).1 in (
          joiner,
          here,
          sym (same_Some (new_joiner share size joiner) loop named)
              ∙ joiner_is joiner (omega (arith, less, upto)),
        )

    looped : (number loop : ℕ) → slice_get new number ≡ Some (Some loop)
        → IsLooped number loop
    looped number loop e =
        let within = slice_get_within new number (Some loop) e in
        let own = part_of number in
        let less = node_below number size own
        (omega (arith, within, part_many share (new_loop share size loops) size)) in
        let there = part_there share (new_loop share size loops) size own.node own.part less
        own.within in
        let (joiner, here, named) = new_is own.node loop (get_or loops own.node None) refl less
        (same_Some (new_loop share size loops own.node own.part) (Some loop)
        (sym there ∙ ap (slice_get new) own.is ∙ e)) in
        record { own = own; joiner = joiner; here = here; named = named }

    pub new_numbered : AreNumbered 0 new
    new_numbered = record { from = from_at; inside = inside_at }
      where
        from_at : (k loop : ℕ) → slice_get new k ≡ Some (Some loop)
            → (0 ≤ loop) × (loop ≤ 0 + k)
        from_at k loop e =
            let in_loop = looped k loop e in
            let upto = (is.from in_loop.own.node in_loop.joiner in_loop.here).1 in (
              omega arith,
              omega (
                arith,
                in_loop.named,
                in_loop.own.is,
                base_up share in_loop.joiner in_loop.own.node (omega (arith, upto)),
              ),
            )

        inside_at : (k loop : ℕ) → slice_get new k ≡ Some (Some loop) → (other : ℕ)
            → loop ≤ 0 + other → other ≤ k → slice_get new other ≡ Some (Some loop)
        inside_at k loop e other past within =
            let in_loop = looped k loop e in
            let own = part_of other in
            let low = node_upto in_loop.joiner 0 own.node own.part
            (omega (arith, in_loop.named, past, own.is)) own.within in
            let high = node_upto own.node own.part in_loop.own.node in_loop.own.part
            (omega (arith, own.is, within, in_loop.own.is)) in_loop.own.within in
            let here = is.inside in_loop.own.node in_loop.joiner in_loop.here own.node
            (omega (arith, low)) high in
            ap (slice_get new) (sym own.is)
            ∙ new_there own.node own.part in_loop.joiner own.within here
            ∙ ap (λ (n : ℕ). Some (Some n)) (sym in_loop.named)

    -- before the parts of a node, a number is between groups as it is before the node
    pub between_old : (v : ℕ) → IsBetweenGroups new (base share v)
        → IsBetweenGroups loops v
    between_old v between low high loop less past here there =
        between (base share low + 0) (base share high + 0) (base share loop)
        (omega (arith, base_below share low v less)) (omega (arith, base_up share v high past))
        (new_there low 0 loop (omega arith) here) (new_there high 0 loop (omega arith) there)
