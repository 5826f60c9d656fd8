-- The nodes that give words after fission are those before it: nodes that are split give none.
use Rattle.std.proofs.Common.{◌≡◌, refl, sym, ap, ◌∙◌, subst, ℕ, zero, suc, ◌+◌, ◌<◌, ◌≤◌, arith}
use Rattle.std.proofs.Common.{List, [], ◌∷◌, ◌++◌, map, length, get_or, Bool, true, false, cond}
use Rattle.std.proofs.Common.{Option, Some, slice_get, nat_lt}
use Rattle.std.specs.Prelude.{not, ◌&&◌}
use Rattle.std.proofs.lemmas.Bool.{and_parts}
use Rattle.std.proofs.lemmas.List.{append-nil}
use Rattle.std.proofs.lemmas.Option.{get_or_from_slice_get}
use Rattle.strc_elab_graph.specs.Graphs.{NodeCode, Graph, Scatter, Copy, Gather, Filter, Identity}
use Rattle.strc_elab_graph.specs.Graphs.{FileReader, FileWriter, Splitter, Joiner, gives_words}
use Rattle.strc_elab_graph.specs.Tapes.{tape_nodes, tape_nodes_from}
use Rattle.strc_elab_graph.specs.declared.graph.Fission.{Fission}
use Rattle.strc_sched_orders.specs.Schedules.{ScheduleParts}
use Rattle.strc_sched_laws.specs.Planned.{IsPlanned}
use Rattle.strc_work_writes.specs.Stateless.{is_stateless}
use Rattle.strc_rate.proofs.Kept.{no_print}
use Rattle.strc_fiss.specs.Numbers.{is_dealt, last_part, base}
use Rattle.strc_fiss.specs.Splitting.{code_at, copied, new_code, part_of}
use Rattle.strc_fiss.specs.Ways.{feeds_itself, fission_of, is_alike, passes_items}
use Rattle.strc_fuse.specs.Units.{is_outside}
use Rattle.strc_fiss.proofs.Lookup.{part_many}
use Rattle.strc_fiss.proofs.Planned.{is_possible}
use Rattle.strc_stage_plan.specs.SplitLaws.{new_graph}
use Rattle.strc_stage_plan.proofs.Named.{split_inside}
use Rattle.strc_stage_plan.proofs.NewNumbers.{IsNumber, code_there, old_there, whole_code}
use Rattle.strc_stage_plan.proofs.NewNumbers.{dealt_code}

-- ---- numbers that pass a test

abbrev kept : (test : Bool) → (number : ℕ) → List ℕ
kept test number = cond test (number ∷ []) []

-- those below a number, in order
abbrev pub below : (passes : ℕ → Bool) → (count : ℕ) → List ℕ
below passes zero = []
below passes (suc count) = below passes count ++ kept (passes count) count

append_three : {A : Type 0} (xs ys zs : List A) → (xs ++ ys) ++ zs ≡ xs ++ (ys ++ zs)
append_three [] ys zs = refl
append_three (x ∷ xs) ys zs = ap (λ l. x ∷ l) (append_three xs ys zs)

map_append : {A B : Type 0} (f : A → B) (xs ys : List A) → map f (xs ++ ys) ≡ map f xs ++ map f ys
map_append f [] ys = refl
map_append f (x ∷ xs) ys = ap (λ l. f x ∷ l) (map_append f xs ys)

-- numbers from one on, as those from 0 on
abbrev moved : (first : ℕ) → List ℕ → List ℕ
moved first numbers = map (λ (k : ℕ). first + k) numbers

kept_moved : (first number : ℕ) (test : Bool)
    → moved first (kept test number) ≡ kept test (first + number)
kept_moved first number true = refl
kept_moved first number false = refl

-- one more in front
below_front : (passes : ℕ → Bool) (first count : ℕ)
    → moved first (below passes (suc count))
    ≡ kept (passes 0) first ++ moved (suc first) (below (λ k. passes (suc k)) count)
below_front passes first zero =
    let e : first + 0 ≡ first = omega arith in
    kept_moved first 0 (passes 0)
    ∙ ap (kept (passes 0)) e
    ∙ sym (append-nil (kept (passes 0) first))
below_front passes first (suc count) =
    let later : ℕ → Bool = λ k. passes (suc k) in
    let e : first + suc count ≡ suc first + count = omega arith in
    map_append (λ (k : ℕ). first + k) (below passes (suc count))
    (kept (passes (suc count)) (suc count))
    ∙ ap (λ l. l ++ moved first (kept (passes (suc count)) (suc count)))
    (below_front passes first count)
    ∙ append_three (kept (passes 0) first) (moved (suc first) (below later count))
    (moved first (kept (passes (suc count)) (suc count)))
    ∙ ap (λ l. kept (passes 0) first ++ (moved (suc first) (below later count) ++ l))
    (kept_moved first (suc count) (passes (suc count))
    ∙ ap (kept (passes (suc count))) e
    ∙ sym (kept_moved (suc first) count (passes (suc count))))
    ∙ ap (λ l. kept (passes 0) first ++ l)
    (sym (map_append (λ (k : ℕ). suc first + k) (below later count)
    (kept (later count) count)))

-- the nodes that give words are those that pass
abbrev pub gives : List NodeCode → (number : ℕ) → Bool
gives codes number = gives_words (get_or codes number Identity)

kept_if : (test : Bool) (node : ℕ) (later : List ℕ)
    → cond test (node ∷ later) later ≡ kept test node ++ later
kept_if true node later = refl
kept_if false node later = refl

tapes_from : (node : ℕ) (codes : List NodeCode)
    → tape_nodes_from node codes ≡ moved node (below (gives codes) (length codes))
tapes_from node [] = refl
tapes_from node (code ∷ codes) =
    kept_if (gives_words code) node (tape_nodes_from (suc node) codes)
    ∙ ap (λ l. kept (gives_words code) node ++ l) (tapes_from (suc node) codes)
    ∙ sym (below_front (gives (code ∷ codes)) node (length codes))

moved_none : (numbers : List ℕ) → moved 0 numbers ≡ numbers
moved_none [] = refl
moved_none (k ∷ numbers) =
    let e : 0 + k ≡ k = omega arith in
    ap (λ n. n ∷ moved 0 numbers) e ∙ ap (λ l. k ∷ l) (moved_none numbers)

pub tapes_below : (codes : List NodeCode) → tape_nodes codes ≡ below (gives codes) (length codes)
tapes_below codes = tapes_from 0 codes ∙ moved_none (below (gives codes) (length codes))

-- ---- nodes that are split

quiet : (code : NodeCode) → is_alike (Some code) ≡ true → gives_words code ≡ false
quiet (Filter name filter) e =
    no_print filter (and_parts (passes_items filter) (is_stateless filter) e).1
quiet Identity e = refl
quiet (FileReader text) e = refl
quiet (FileWriter text) e = absurd (cc)
quiet (Splitter splitter) e = refl
quiet (Joiner weights) e = refl
quiet (Scatter fission) e = refl
quiet (Copy copied fission) e = absurd (cc)
quiet (Gather fission) e = refl

quiet_copy : (code : NodeCode) (fission : Fission) → is_alike (Some code) ≡ true
    → gives_words (Copy (copied code) fission) ≡ false
quiet_copy (Filter name filter) fission e = quiet (Filter name filter) e
quiet_copy Identity fission e = refl
quiet_copy (FileReader text) fission e = refl
quiet_copy (FileWriter text) fission e = refl
quiet_copy (Splitter splitter) fission e = refl
quiet_copy (Joiner weights) fission e = refl
quiet_copy (Scatter own) fission e = refl
quiet_copy (Copy own other) fission e = refl
quiet_copy (Gather own) fission e = refl

module _ (old : Graph) (schedule : ScheduleParts) (round : List ℕ) (ways : ℕ)
    (planned : IsPlanned old schedule) where
  abbrev share : ℕ → Fission
  share = fission_of old round ways

  abbrev new : List NodeCode
  new = (new_graph old schedule round ways).nodes

  part_is : (v k : ℕ) → v < length old.nodes → k ≤ last_part share v
      → IsNumber share old.nodes planned.unfissioned (base share v + k) v k
  part_is v k inside within = record { inside = inside; within = within; at = refl }

  gives_part : (v k : ℕ) → v < length old.nodes → k ≤ last_part share v
      → gives new (base share v + k) ≡ gives_words (new_code share old.nodes v k)
  gives_part v k inside within =
      ap gives_words (get_or_from_slice_get new (base share v + k)
      (new_code share old.nodes v k) Identity
      (code_there share old.nodes planned.unfissioned (base share v + k) v k
      (part_is v k inside within)))

  gives_old : (v : ℕ) → v < length old.nodes
      → gives old.nodes v ≡ gives_words (code_at old.nodes v)
  gives_old v inside =
      ap gives_words (get_or_from_slice_get old.nodes v (code_at old.nodes v) Identity
      (old_there share old.nodes planned.unfissioned (base share v + 0) v 0
      (part_is v 0 inside (omega arith))))

  gives_whole : (v : ℕ) → v < length old.nodes → is_dealt (share v) ≡ false
      → gives new (base share v + 0) ≡ gives old.nodes v
  gives_whole v inside e =
      gives_part v 0 inside (omega arith)
      ∙ ap gives_words (whole_code share old.nodes planned.unfissioned (base share v + 0) v 0
      (part_is v 0 inside (omega arith)) e)
      ∙ sym (gives_old v inside)

  module _ (v : ℕ) (e : is_dealt (share v) ≡ true) where
    inside : v < length old.nodes
    inside = split_inside old schedule round ways planned (λ node. 0) v e

    alike : is_alike (Some (code_at old.nodes v)) ≡ true
    alike =
        let can = is_possible old round ways v e in
        let both = and_parts (is_alike (slice_get old.nodes v))
        (is_outside (slice_get old.outer_loops v) && not (feeds_itself old.channels v))
        can in
        subst (λ (code : Option NodeCode). is_alike code ≡ true)
        (old_there share old.nodes planned.unfissioned (base share v + 0) v 0
        (part_is v 0 inside (omega arith))) both.0

    part_quiet : (k : ℕ)
        → gives_words (part_of (code_at old.nodes v) (share v) k) ≡ false
    part_quiet zero = refl
    part_quiet (suc copy) = by_test (nat_lt copy (share v).ways)
      where
        by_test : (t : Bool) → gives_words (cond t (Copy (copied (code_at old.nodes v)) (share v))
            (Gather (share v))) ≡ false
        by_test true = quiet_copy (code_at old.nodes v) (share v) alike
        by_test false = refl

    gives_none : (k : ℕ) → k ≤ last_part share v → gives new (base share v + k) ≡ false
    gives_none k within =
        gives_part v k inside within
        ∙ ap gives_words (dealt_code share old.nodes planned.unfissioned (base share v + k) v k
        (part_is v k inside within) e)
        ∙ part_quiet k

    gave_none : gives old.nodes v ≡ false
    gave_none = gives_old v inside ∙ quiet (code_at old.nodes v) alike

    none_more : (k : ℕ) → k ≤ suc (last_part share v)
        → below (gives new) (base share v + k) ≡ below (gives new) (base share v)
    none_more zero within =
        let at : base share v + 0 ≡ base share v = omega arith in
        ap (below (gives new)) at
    none_more (suc k) within =
        let at : base share v + suc k ≡ suc (base share v + k) = omega arith in
        ap (below (gives new)) at
        ∙ ap (λ (t : Bool). below (gives new) (base share v + k) ++ kept t (base share v + k))
        (gives_none k (omega (arith, within)))
        ∙ append-nil (below (gives new) (base share v + k))
        ∙ none_more k (omega (arith, within))

  -- what is told of the nodes that give words
  module _ {A : Type 0} (of_new of_old : ℕ → A)
      (same : (v : ℕ) → v < length old.nodes → is_dealt (share v) ≡ false
      → of_new (base share v + 0) ≡ of_old v) where
    next_whole : (v : ℕ) → v < length old.nodes → is_dealt (share v) ≡ false
        → map of_new (below (gives new) (base share v)) ≡ map of_old (below (gives old.nodes) v)
        → map of_new (below (gives new) (base share (suc v)))
        ≡ map of_old (below (gives old.nodes) (suc v))
    next_whole v inside e so_far =
        let last : last_part share v ≡ 0 =
        ap (λ (t : Bool). cond t (suc (share v).ways) 0) e in
        let at : base share (suc v) ≡ suc (base share v) = omega (arith, last) in
        let first : base share v ≡ base share v + 0 = omega arith in
        ap (λ n. map of_new (below (gives new) n)) at
        ∙ map_append of_new (below (gives new) (base share v))
        (kept (gives new (base share v)) (base share v))
        ∙ ap (λ l. l ++ map of_new (kept (gives new (base share v)) (base share v))) so_far
        ∙ ap (λ n. map of_old (below (gives old.nodes) v) ++ map of_new (kept (gives new n) n))
        first
        ∙ ap (λ l. map of_old (below (gives old.nodes) v) ++ l)
        (ap (λ (t : Bool). map of_new (kept t (base share v + 0))) (gives_whole v inside e)
        ∙ by_test (gives old.nodes v))
        ∙ sym (map_append of_old (below (gives old.nodes) v) (kept (gives old.nodes v) v))
      where
        by_test : (t : Bool) → map of_new (kept t (base share v + 0)) ≡ map of_old (kept t v)
        by_test true = ap (λ a. a ∷ []) (same v inside e)
        by_test false = refl

    next_split : (v : ℕ) → is_dealt (share v) ≡ true
        → map of_new (below (gives new) (base share v)) ≡ map of_old (below (gives old.nodes) v)
        → map of_new (below (gives new) (base share (suc v)))
        ≡ map of_old (below (gives old.nodes) (suc v))
    next_split v e so_far =
        ap (map of_new) (none_more v e (suc (last_part share v)) (omega arith))
        ∙ so_far
        ∙ ap (map of_old) (sym (ap (λ (t : Bool). below (gives old.nodes) v ++ kept t v)
        (gave_none v e)
        ∙ append-nil (below (gives old.nodes) v)))

    all_below : (v : ℕ) → v ≤ length old.nodes
        → map of_new (below (gives new) (base share v)) ≡ map of_old (below (gives old.nodes) v)
    all_below zero within = refl
    all_below (suc v) within =
        by_test (is_dealt (share v)) refl (all_below v (omega (arith, within)))
      where
        by_test : (t : Bool) → is_dealt (share v) ≡ t
            → map of_new (below (gives new) (base share v)) ≡ map of_old (below (gives old.nodes) v)
            → map of_new (below (gives new) (base share (suc v)))
            ≡ map of_old (below (gives old.nodes) (suc v))
        by_test true e so_far = next_split v e so_far
        by_test false e so_far = next_whole v (omega (arith, within)) e so_far

    pub tapes_same : map of_new (tape_nodes new) ≡ map of_old (tape_nodes old.nodes)
    tapes_same =
        ap (map of_new) (tapes_below new
        ∙ ap (below (gives new)) (part_many share (new_code share old.nodes) (length old.nodes)))
        ∙ all_below (length old.nodes) (omega arith)
        ∙ ap (map of_old) (sym (tapes_below old.nodes))
