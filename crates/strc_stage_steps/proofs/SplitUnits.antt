-- The units of a round after fission: they go through the nodes below a number before all others
-- where the units before fission do, at a node's first part, or where the node has one unit, within
-- its parts.
use Rattle.std.proofs.Common.{◌≡◌, refl, sym, ap, ◌∙◌, subst, ℕ, zero, suc, ◌+◌, ◌*◌, ◌<◌, ◌≤◌}
use Rattle.std.proofs.Common.{Bool, true, false, cond, eqb, List, [], ◌∷◌, ◌++◌, length, map}
use Rattle.std.proofs.Common.{All, append_assoc, inl, inr, arith}
use Rattle.std.proofs.lemmas.Bool.{and_parts, and_from, eq-eqb, cases_lt}
use Rattle.strc_elab_graph.specs.declared.graph.Fission.{Fission}
use Rattle.strc_sched_orders.specs.declared.unit as units
use Rattle.strc_sched_orders.specs.Peaks.{HasNodes}
use Rattle.strc_sched_orders.specs.Ranges.{HasNodesFrom}
use Rattle.strc_elab_dataflow.specs.FusedUnits.{RoundUnit}
use Rattle.strc_elab_dataflow.specs.Pieces.{unit_of}
use Rattle.strc_fuse.specs.Laws.{FiresNodes, AllFireNodes}
use Rattle.strc_fuse.specs.Units.{round_unit, round_units}
use Rattle.strc_fiss.specs.Numbers.{up_to, is_dealt, last_part, base}
use Rattle.strc_fiss.specs.Units.{renamed_unit, is_whole, units_of_parts, split_list, split_unit}
use Rattle.strc_fiss.specs.Units.{split_units}
use Rattle.strc_fiss.proofs.Bases.{base_below, base_up}
use Rattle.strc_fiss.proofs.Renaming.{last_dealt}
use Rattle.strc_stage_plan.proofs.FusedSplits.{Each, AllFrom, AllPass, IsSplit, each_from_all}
use Rattle.strc_stage_plan.proofs.FusedSplits.{passes_all}
use Rattle.strc_stage_plan.proofs.FusedSplits.{split_from}

pass_append : (P : ℕ → Type 0) (xs ys : List RoundUnit) → AllPass P xs → AllPass P ys
    → AllPass P (xs ++ ys)
pass_append P [] ys first second = second
pass_append P (unit ∷ xs) ys first second = (first.0, pass_append P xs ys first.1 second)

pass_up : (P : ℕ → Type 0) (value : ℕ → RoundUnit) (n : ℕ)
    → ((k : ℕ) → k < n → Each P (value k).nodes) → AllPass P (up_to value n)
pass_up P value zero holds = tt
pass_up P value (suc n) holds =
    pass_append P (up_to value n) (value n ∷ [])
    (pass_up P value n (λ k less. holds k (omega (arith, less)))) (holds n (omega arith), tt)

below_first : (bound : ℕ) (low high : List RoundUnit) → AllPass (λ node. node < bound) low
    → IsSplit bound high → IsSplit bound (low ++ high)
below_first bound [] high all split = split
below_first bound (unit ∷ low) high all split =
    inl (all.0, below_first bound low high all.1 split)

-- units of one node each, in rising order
rising_split : (bound first turns n : ℕ) (later : List RoundUnit) → AllFrom bound later
    → IsSplit bound (up_to (λ copy. unit_of turns (first + suc copy)) n ++ later)
rising_split bound first turns zero later all = split_from bound later all
rising_split bound first turns (suc n) later all =
    let value : ℕ → RoundUnit = λ copy. unit_of turns (first + suc copy) in
    subst (IsSplit bound) (sym (append_assoc (up_to value n) (value n ∷ []) later))
    (elim (cases_lt (first + suc n) bound) [
      | inl below ↦ below_first bound (up_to value n) (value n ∷ later)
          (pass_up (λ node. node < bound) value n (λ k less. (omega (arith, below, less), tt)))
          (inl ((below, tt), split_from bound later all))
      | inr past ↦ rising_split bound first turns n (value n ∷ later) ((past, tt), all)
    ])

module _ (share : ℕ → Fission) where
  -- ---- what holds of the parts of nodes holds of those of units

  module _ (P Q : ℕ → Type 0)
      (step : (node part : ℕ) → P node → part ≤ last_part share node
      → Q (base share node + part)) where
    first_passes : (node : ℕ) → P node → Q (base share node)
    first_passes node is =
        let e : base share node + 0 ≡ base share node = omega arith in
        subst Q e (step node 0 is (omega arith))

    renamed_passes : (nodes : List ℕ) → Each P nodes → Each Q (map (base share) nodes)
    renamed_passes [] all = tt
    renamed_passes (node ∷ nodes) all = (first_passes node all.0, renamed_passes nodes all.1)

    parts_pass : (node : ℕ) → P node → is_dealt (share node) ≡ true
        → AllPass Q (units_of_parts share node)
    parts_pass node is dealt =
        let last = last_dealt (share node) dealt in (
          (first_passes node is, tt),
          pass_append Q
              (up_to (λ copy. unit_of (share node).firings (base share node + suc copy))
              (share node).ways)
              (unit_of 1 (base share node + suc (share node).ways) ∷ [])
              (pass_up Q (λ copy. unit_of (share node).firings (base share node + suc copy))
              (share node).ways
              (λ copy less. (step node (suc copy) is (omega (arith, last, less)), tt)))
              ((step node (suc (share node).ways) is (omega (arith, last)), tt), tt),
        )

    list_passes : (turns : ℕ) (nodes : List ℕ) → Each P nodes
        → AllPass Q (split_list share turns nodes)
    list_passes turns [] all = (tt, tt)
    list_passes turns (node ∷ []) all = by_test (is_whole share turns node) refl
      where
        by_test : (t : Bool) → is_whole share turns node ≡ t
            → AllPass Q (cond t (units_of_parts share node)
            (renamed_unit share (record { turns = turns; nodes = node ∷ [] }) ∷ []))
        by_test true e = parts_pass node all.0
            (and_parts (is_dealt (share node))
            (eqb turns ((share node).ways * (share node).firings)) e).0
        by_test false e = (renamed_passes (node ∷ []) all, tt)
    list_passes turns (first ∷ (second ∷ rest)) all =
        (renamed_passes (first ∷ second ∷ rest) all, tt)

    pub units_pass : (order : List RoundUnit) → AllPass P order
        → AllPass Q (split_units share order)
    units_pass [] all = tt
    units_pass (unit ∷ order) all =
        pass_append Q (split_unit share unit) (split_units share order)
        (list_passes unit.turns unit.nodes all.0) (units_pass order all.1)

    unit_passes : (unit : RoundUnit) → Each P unit.nodes → AllPass Q (split_unit share unit)
    unit_passes unit all = list_passes unit.turns unit.nodes all

  -- nodes below a node, and nodes from it on
  pub part_below : (v node part : ℕ) → node < v → part ≤ last_part share node
      → base share node + part < base share v
  part_below v node part less within = omega (arith, within, base_below share node v less)

  part_from : (v node part : ℕ) → v ≤ node → part ≤ last_part share node
      → base share v ≤ base share node + part
  part_from v node part less within = omega (arith, base_up share v node less)

  -- ---- at a node's first part

  pub split_first : (v : ℕ) (order : List RoundUnit) → IsSplit v order
      → IsSplit (base share v) (split_units share order)
  split_first v [] split = tt
  split_first v (unit ∷ order) (inl (own, rest)) =
      below_first (base share v) (split_unit share unit) (split_units share order)
      (unit_passes (λ node. node < v) (λ node. node < base share v) (part_below v) unit own)
      (split_first v order rest)
  split_first v (unit ∷ order) (inr (own, rest)) =
      split_from (base share v) (split_units share (unit ∷ order))
      (units_pass (λ node. v ≤ node) (λ node. base share v ≤ node) (part_from v) (unit ∷ order)
      (own, rest))

  -- ---- within the parts of a node

  module _ (v part : ℕ) (some : 0 < part) (within : part ≤ last_part share v)
      (dealt : is_dealt (share v) ≡ true) where
    abbrev bound : ℕ
    bound = base share v + part

    parts_split : (later : List RoundUnit) → AllFrom bound later
        → IsSplit bound (units_of_parts share v ++ later)
    parts_split later all =
        let number = base share v in
        let copies = up_to (λ copy. unit_of (share v).firings (number + suc copy)) (share v).ways in
        let gather = unit_of 1 (number + suc (share v).ways) in
        inl (
          (omega (arith, some), tt),
          subst (IsSplit bound) (sym (append_assoc copies (gather ∷ []) later))
              (rising_split bound number (share v).firings (share v).ways (gather ∷ later)
              ((omega (arith, within, last_dealt (share v) dealt), tt), all)),
        )

    whole_is : (turns : ℕ) → turns ≡ (share v).ways * (share v).firings
        → is_whole share turns v ≡ true
    whole_is turns all =
        and_from (is_dealt (share v)) (eqb turns ((share v).ways * (share v).firings)) dealt
        (eq-eqb turns ((share v).ways * (share v).firings) all)

    unit_is : (unit : RoundUnit) → unit.turns ≡ (share v).ways * (share v).firings
        → unit.nodes ≡ v ∷ [] → split_unit share unit ≡ units_of_parts share v
    unit_is unit turns nodes =
        ap (split_list share unit.turns) nodes
        ∙ ap (λ (t : Bool). cond t (units_of_parts share v)
        (renamed_unit share (record { turns = unit.turns; nodes = v ∷ [] }) ∷ []))
        (whole_is unit.turns turns)

    pub split_later : (before : List units.Unit.Unit) (unit : units.Unit.Unit)
        (later : List units.Unit.Unit) → All (HasNodes v) before
        → unit.turns ≡ (share v).ways * (share v).firings → unit.nodes.items ≡ v ∷ []
        → All (HasNodesFrom (suc v)) later
        → IsSplit bound (split_units share (round_units (before ++ unit ∷ later)))
    split_later [] unit later lower turns nodes higher =
        subst (λ (l : List RoundUnit). IsSplit bound (l ++ split_units share (round_units later)))
        (sym (unit_is (round_unit unit) turns nodes))
        (parts_split (split_units share (round_units later))
        (units_pass (λ node. suc v ≤ node) (λ node. bound ≤ node)
        (λ node number less inside. omega (
          arith,
          within,
          inside,
          base_below share v node (omega (arith, less)),
        )) (round_units later) (passes_all (λ node. suc v ≤ node) later higher)))
    split_later (first ∷ before) unit later lower turns nodes higher =
        below_first bound (split_unit share (round_unit first))
        (split_units share (round_units (before ++ unit ∷ later)))
        (unit_passes (λ node. node < v) (λ node. node < bound)
        (λ node number less inside. omega (arith, part_below v node number less inside))
        (round_unit first)
        (each_from_all (λ node. node < v) first.nodes.items (lower 0 first (omega arith))))
        (split_later before unit later (λ k d less. lower (suc k) d (omega (arith, less))) turns
        nodes higher)

  -- ---- units that fire stay so

  module _ (fires : (v : ℕ) → is_dealt (share v) ≡ true → 0 < (share v).firings) where
    fire_append : (xs ys : List RoundUnit) → AllFireNodes xs → AllFireNodes ys
        → AllFireNodes (xs ++ ys)
    fire_append [] ys first second = second
    fire_append (unit ∷ xs) ys first second = (first.0, fire_append xs ys first.1 second)

    one_fires : (turns node : ℕ) → 0 < turns → FiresNodes (unit_of turns node)
    one_fires turns node some = record { turns = some; nodes = omega arith }

    up_fires : (turns first n : ℕ) → 0 < turns
        → AllFireNodes (up_to (λ copy. unit_of turns (first + suc copy)) n)
    up_fires turns first zero some = tt
    up_fires turns first (suc n) some =
        fire_append (up_to (λ copy. unit_of turns (first + suc copy)) n)
        (unit_of turns (first + suc n) ∷ []) (up_fires turns first n some)
        (one_fires turns (first + suc n) some, tt)

    list_fires : (turns : ℕ) (nodes : List ℕ) → 0 < turns → 0 < length nodes
        → AllFireNodes (split_list share turns nodes)
    list_fires turns [] some many = absurd (omega (arith, many))
    list_fires turns (node ∷ []) some many = by_test (is_whole share turns node) refl
      where
        by_test : (t : Bool) → is_whole share turns node ≡ t
            → AllFireNodes (cond t (units_of_parts share node)
            (renamed_unit share (record { turns = turns; nodes = node ∷ [] }) ∷ []))
        by_test true e =
            let dealt = (and_parts (is_dealt (share node))
            (eqb turns ((share node).ways * (share node).firings)) e).0 in
            let number = base share node in (
              one_fires 1 number (omega arith),
              fire_append (up_to (λ copy. unit_of (share node).firings (number + suc copy))
                  (share node).ways) (unit_of 1 (number + suc (share node).ways) ∷ [])
                  (up_fires (share node).firings number (share node).ways (fires node dealt))
                  (one_fires 1 (number + suc (share node).ways) (omega arith), tt),
            )
        by_test false e = (one_fires turns (base share node) some, tt)
    list_fires turns (first ∷ (second ∷ rest)) some many =
        (record { turns = some; nodes = omega arith }, tt)

    pub units_fire : (order : List RoundUnit) → AllFireNodes order
        → AllFireNodes (split_units share order)
    units_fire [] all = tt
    units_fire (unit ∷ order) all =
        fire_append (split_unit share unit) (split_units share order)
        (list_fires unit.turns unit.nodes all.0.turns all.0.nodes) (units_fire order all.1)
