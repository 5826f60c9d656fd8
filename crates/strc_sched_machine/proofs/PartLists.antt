-- Lists of which a part has some items.
use Rattle.std.proofs.Common.{◌≡◌, refl, sym, ap, ◌∙◌, ℕ, zero, suc, ◌+◌, ◌<◌, Bool}
use Rattle.std.proofs.Common.{true, false, List, [], ◌∷◌, ◌++◌, length, get_or, set, take, drop}
use Rattle.std.proofs.Common.{map, arith, append_assoc}
use Rattle.std.specs.Prelude.{Some, slice_get, if◌then◌else◌}
use Rattle.std.proofs.lemmas.List.{drop_more}
use Rattle.circular_buffer.specs.Buffer.{buffer}
use Rattle.strc_elab_graph.specs.Graphs.{Channel}
use Rattle.strc_sched_laws.specs.Rings.{Ring, ring_at}
use Rattle.strc_sched_machine.specs.Parts.{chosen, empty_rings, room_at}

-- ---- rings that are empty at first

module _ (first next : ℕ) (rooms : List ℕ) where
  pub rings_long : (number : ℕ) (channels : List Channel)
      → length (empty_rings first next rooms number channels) ≡ length channels
  rings_long number [] = refl
  rings_long number (channel ∷ channels) = ap suc (rings_long (suc number) channels)

  pub empty_at : (number : ℕ) (channels : List Channel) (k : ℕ) (channel : Channel)
      → slice_get channels k ≡ Some channel
      → ring_at (empty_rings first next rooms number channels) k
      ≡ buffer [] (room_at first next rooms (number + k) channel)
  empty_at number [] k channel there = absurd (cc)
  empty_at number (own ∷ channels) zero channel there =
      let same : own ≡ channel = cc in
      let e : number ≡ number + 0 = omega arith in
      ap (λ c. buffer [] (room_at first next rooms number c)) same
      ∙ ap (λ n. buffer [] (room_at first next rooms n channel)) e
  empty_at number (own ∷ channels) (suc k) channel there =
      let e : suc number + k ≡ number + suc k = omega arith in
      empty_at (suc number) channels k channel there
      ∙ ap (λ n. buffer [] (room_at first next rooms n channel)) e

  pub ring_next : (channels : List Channel) (before whole : List Ring) (number room : ℕ)
      (channel d : Channel) (ring : Ring) → number < length channels
      → get_or channels number d ≡ channel → room ≡ room_at first next rooms number channel
      → ring ≡ buffer [] room
      → before ++ empty_rings first next rooms number (drop number channels) ≡ whole
      → (before ++ ring ∷ [])
      ++ empty_rings first next rooms (number + 1) (drop (number + 1) channels) ≡ whole
  ring_next channels before whole number room channel d ring less here wide is so_far =
      let e : suc number ≡ number + 1 = omega arith in
      append_assoc before (ring ∷ [])
      (empty_rings first next rooms (number + 1) (drop (number + 1) channels))
      ∙ ap (λ r. before
      ++ r ∷ empty_rings first next rooms (number + 1) (drop (number + 1) channels))
      (is ∙ ap (buffer []) wide
      ∙ ap (λ c. buffer [] (room_at first next rooms number c)) (sym here))
      ∙ ap (λ n. before ++ buffer [] (room_at first next rooms number (get_or channels number d))
      ∷ empty_rings first next rooms n (drop (number + 1) channels)) (sym e)
      ∙ ap (λ l. before ++ empty_rings first next rooms number l)
      (sym (drop_more channels number d less))
      ∙ so_far

-- ---- what is chosen of two lists

same_either : {A : Type 0} (test : Bool) (d : A) → d ≡ (if test then d else d)
same_either true d = refl
same_either false d = refl

map_either : {A B : Type 0} (f : A → B) (test : Bool) (one other : A)
    → f (if test then one else other) ≡ (if test then f one else f other)
map_either f true one other = refl
map_either f false one other = refl

module _ {A : Type 0} where
  pub chosen_long : (marks : List Bool) (others own : List A)
      → length (chosen marks others own) ≡ length own
  chosen_long [] others own = refl
  chosen_long (mark ∷ marks) [] own = refl
  chosen_long (mark ∷ marks) (other ∷ others) [] = refl
  chosen_long (mark ∷ marks) (other ∷ others) (item ∷ own) =
      ap suc (chosen_long marks others own)

  -- at a place
  pub chosen_at : (marks : List Bool) (others own : List A) (k : ℕ) (d : A)
      → length others ≡ length own
      → get_or (chosen marks others own) k d
      ≡ (if get_or marks k false then get_or others k d else get_or own k d)
  chosen_at [] others own k d many = refl
  chosen_at (mark ∷ marks) [] [] k d many = same_either (get_or (mark ∷ marks) k false) d
  chosen_at (mark ∷ marks) [] (item ∷ own) k d many = absurd (omega arith)
  chosen_at (mark ∷ marks) (other ∷ others) [] k d many = absurd (omega arith)
  chosen_at (mark ∷ marks) (other ∷ others) (item ∷ own) zero d many = refl
  chosen_at (mark ∷ marks) (other ∷ others) (item ∷ own) (suc k) d many =
      chosen_at marks others own k d (omega arith)

  pub chosen_get : (marks : List Bool) (others own : List A) (k : ℕ)
      → length others ≡ length own
      → slice_get (chosen marks others own) k
      ≡ (if get_or marks k false then slice_get others k else slice_get own k)
  chosen_get [] others own k many = refl
  chosen_get (mark ∷ marks) [] [] k many = same_either (get_or (mark ∷ marks) k false) _
  chosen_get (mark ∷ marks) [] (item ∷ own) k many = absurd (omega arith)
  chosen_get (mark ∷ marks) (other ∷ others) [] k many = absurd (omega arith)
  chosen_get (mark ∷ marks) (other ∷ others) (item ∷ own) zero many =
      map_either (λ (x : A). Some x) mark other item
  chosen_get (mark ∷ marks) (other ∷ others) (item ∷ own) (suc k) many =
      chosen_get marks others own k (omega arith)

  -- before a place is marked, it is as it was
  pub chosen_old : (marks : List Bool) (others own : List A) (p : ℕ) (d : A)
      → get_or (chosen (take p marks) others own) p d ≡ get_or own p d
  chosen_old [] others own zero d = refl
  chosen_old [] others own (suc p) d = refl
  chosen_old (mark ∷ marks) others own zero d = refl
  chosen_old (mark ∷ marks) [] own (suc p) d = refl
  chosen_old (mark ∷ marks) (other ∷ others) [] (suc p) d = refl
  chosen_old (mark ∷ marks) (other ∷ others) (item ∷ own) (suc p) d =
      chosen_old marks others own p d

  -- one more that is marked, and one more that isn't
  marks_one : (marks : List Bool) (others own : List A) (p : ℕ) (d : A) → p < length marks
      → length others ≡ length marks → length own ≡ length marks → get_or marks p false ≡ true
      → chosen (take (suc p) marks) others own
      ≡ set (chosen (take p marks) others own) p (get_or others p d)
  marks_one [] others own p d less many same marked = absurd (omega arith)
  marks_one (mark ∷ marks) [] own p d less many same marked = absurd (omega arith)
  marks_one (mark ∷ marks) (other ∷ others) [] p d less many same marked = absurd (omega arith)
  marks_one (mark ∷ marks) (other ∷ others) (item ∷ own) zero d less many same marked =
      ap (λ t. (if t then other else item) ∷ own) marked
  marks_one (mark ∷ marks) (other ∷ others) (item ∷ own) (suc p) d less many same marked =
      ap (λ l. (if mark then other else item) ∷ l)
      (marks_one marks others own p d (omega arith) (omega arith) (omega arith) marked)

  pub chosen_next : (marks : List Bool) (others own : List A) (p : ℕ) (d : A) → p < length marks
      → length others ≡ length marks → length own ≡ length marks → get_or marks p false ≡ true
      → chosen (take (p + 1) marks) others own
      ≡ set (chosen (take p marks) others own) p (get_or others p d)
  chosen_next marks others own p d less many same marked =
      let e : p + 1 ≡ suc p = omega arith in
      ap (λ n. chosen (take n marks) others own) e
      ∙ marks_one marks others own p d less many same marked

  skips : (marks : List Bool) (others own : List A) (p : ℕ) → get_or marks p false ≡ false
      → chosen (take (suc p) marks) others own ≡ chosen (take p marks) others own
  skips [] others own zero none = refl
  skips [] others own (suc p) none = refl
  skips (mark ∷ marks) [] own zero none = refl
  skips (mark ∷ marks) [] own (suc p) none = refl
  skips (mark ∷ marks) (other ∷ others) [] zero none = refl
  skips (mark ∷ marks) (other ∷ others) [] (suc p) none = refl
  skips (mark ∷ marks) (other ∷ others) (item ∷ own) zero none =
      ap (λ t. (if t then other else item) ∷ own) none
  skips (mark ∷ marks) (other ∷ others) (item ∷ own) (suc p) none =
      ap (λ l. (if mark then other else item) ∷ l) (skips marks others own p none)

  pub chosen_skip : (marks : List Bool) (others own : List A) (p : ℕ)
      → get_or marks p false ≡ false
      → chosen (take (p + 1) marks) others own ≡ chosen (take p marks) others own
  chosen_skip marks others own p none =
      let e : p + 1 ≡ suc p = omega arith in
      ap (λ n. chosen (take n marks) others own) e ∙ skips marks others own p none

pub map_chosen : {A B : Type 0} (f : A → B) (marks : List Bool) (others own : List A)
    → map f (chosen marks others own) ≡ chosen marks (map f others) (map f own)
map_chosen f [] others own = refl
map_chosen f (mark ∷ marks) [] own = refl
map_chosen f (mark ∷ marks) (other ∷ others) [] = refl
map_chosen f (mark ∷ marks) (other ∷ others) (item ∷ own) =
    ap (λ x. x ∷ map f (chosen marks others own)) (map_either f mark other item)
    ∙ ap (λ l. (if mark then f other else f item) ∷ l) (map_chosen f marks others own)
