-- Nodes that channels join with node 0, marked from node to node.
use Rattle.std.proofs.Common.{◌≡◌, ℕ, ◌<◌, ◌≤◌, Bool, true, false, not, cond, List, length}
use Rattle.std.proofs.Common.{get_or, All, Option, Some, None, refl, sym, ap, subst, ◌∙◌}
use Rattle.std.proofs.Common.{inl, inr, arith, position, replicate, ◌⊎◌}
use Rattle.std.proofs.Math.ListN.{set}
use Rattle.std.proofs.lemmas.Bool.{both_ways, not-true, not-false, cases_eq, cases_lt, ltb-false}
use Rattle.std.proofs.lemmas.List.{get_or-set_same, get_or-set_other, length-set, get_or_past}
use Rattle.std.proofs.lemmas.List.{get_or_default, get_or-replicate, length-replicate}
use Rattle.std.specs.List.{position_or_len}
use Rattle.std.proofs.lemmas.List.Quantifiers.{position-Some}
use Rattle.std.proofs.lemmas.List.Sums.{sum_by-set, fails_before_first}
use Rattle.strc_cli_source.specs.Joined.{IsLink, IsJoined, Itself, Further, IsFirstApart, IsMarked}
use Rattle.strc_cli_source.specs.Joined.{AreJoined, AreKept, joined_count, IsNext, IsNextBy}
use Rattle.strc_cli_source.specs.Joined.{IsFollowed}
use Rattle.strc_cli_source.specs.declared.preorder.Preorder.{Preorder}

-- more nodes are marked, of those that are joined with node 0
pub record Grows (links : List (ℕ × ℕ)) (marks new : List Bool) : Type 0 where
  pub size : length new ≡ length marks
  pub kept : AreKept marks new
  pub joined : AreJoined links marks → AreJoined links new
  pub more : joined_count marks < joined_count new

module _ (marks new : List Bool) (near far : ℕ) (by : IsNextBy marks new near far) where
  next_length : length new ≡ length marks
  next_length = ap length by.1 ∙ length-set marks far true

  -- a node is the one that is marked besides, or was marked before
  marked_at : (node : ℕ) → (node ≡ far) ⊎ (node ≡ far → ⊥) → IsMarked new node
      → (node ≡ far) ⊎ IsMarked marks node
  marked_at node (inl same) marked = inl same
  marked_at node (inr other) marked =
      inr (sym (get_or-set_other marks far node true false other)
      ∙ ap (λ l. get_or l node false) (sym by.1) ∙ marked)

  kept_at : (node : ℕ) → (node ≡ far) ⊎ (node ≡ far → ⊥) → IsMarked marks node
      → IsMarked (set marks far true) node
  kept_at node (inl same) marked = subst (IsMarked (set marks far true)) (sym same)
      (get_or-set_same marks far true false by.0.1)
  kept_at node (inr other) marked = get_or-set_other marks far node true false other ∙ marked

  next_kept : AreKept marks new
  next_kept node marked = subst (λ l. IsMarked l node) (sym by.1)
      (kept_at node (cases_eq node far) marked)

  next_more : joined_count marks < joined_count new
  next_more =
      let changed = sum_by-set (λ (mark : Bool). cond mark 1 0) marks far true false by.0.1 in
      let was = ap {B = ℕ} (λ (mark : Bool). cond mark 1 0) by.0.2 in
      let is = ap joined_count by.1 in
      omega (arith, changed, was, is)

  module _ (links : List (ℕ × ℕ)) (link : IsLink links near far) where
    joined_at : AreJoined links marks → (node : ℕ) → (node ≡ far) ⊎ IsMarked marks node
        → IsJoined links (length marks) 0 node
    joined_at joined node (inl same) = subst (IsJoined links (length marks) 0) (sym same)
        (Further (joined near by.0.0) link by.0.1)
    joined_at joined node (inr marked) = joined node marked

    next_joined : AreJoined links marks → AreJoined links new
    next_joined joined node marked = subst (λ n. IsJoined links n 0 node) (sym next_length)
        (joined_at joined node (marked_at node (cases_eq node far) marked))

    grown : Grows links marks new
    grown = record {
      size = next_length;
      kept = next_kept;
      joined = next_joined;
      more = next_more;
    }

-- one end of a channel is marked besides
pub grown_by : (links : List (ℕ × ℕ)) (marks new : List Bool) (near far : ℕ) → IsLink links near far
    → IsLink links far near → IsNextBy marks new near far ⊎ IsNextBy marks new far near
    → Grows links marks new
grown_by links marks new near far link back (inl by) = grown marks new near far by links link
grown_by links marks new near far link back (inr by) = grown marks new far near by links back

-- a channel of a list, by its number
pub link_at : (links : List (ℕ × ℕ)) (i : ℕ) (d : ℕ × ℕ) → i < length links
    → IsLink links (get_or links i d).0 (get_or links i d).1
link_at links i d within = let link = get_or links i d in
    inl (i, link, within, get_or_default links i link d within, refl)

pub link_back : (links : List (ℕ × ℕ)) (i : ℕ) (d : ℕ × ℕ) → i < length links
    → IsLink links (get_or links i d).1 (get_or links i d).0
link_back links i d within = let link = get_or links i d in
    inr (i, link, within, get_or_default links i link d within, refl)

unmarked_at : (count node : ℕ) → (node < count) ⊎ (count ≤ node)
    → get_or (replicate count false) node false ≡ false
unmarked_at count node (inl within) = get_or-replicate count node false false within
unmarked_at count node (inr beyond) = get_or_past (replicate count false) node false
    (rw (length-replicate count false) beyond)

start_at : (links : List (ℕ × ℕ)) (marks : List Bool) (count : ℕ) → marks ≡ replicate count false
    → (node : ℕ) → (node ≡ 0) ⊎ (node ≡ 0 → ⊥) → IsMarked (set marks 0 true) node
    → IsJoined links (length (set marks 0 true)) 0 node
start_at links marks count is node (inl same) marked =
    subst (IsJoined links (length (set marks 0 true)) 0) (sym same) Itself
start_at links marks count is node (inr other) marked = absurd (both_ways (get_or marks node false)
    (ap (λ l. get_or l node false) is ∙ unmarked_at count node (cases_lt node count))
    (sym (get_or-set_other marks 0 node true false other) ∙ marked))

-- at the start node 0 is marked alone
pub started : (links : List (ℕ × ℕ)) (marks : List Bool) (count : ℕ) → marks ≡ replicate count false
    → AreJoined links (set marks 0 true)
started links marks count is node marked =
    start_at links marks count is node (cases_eq node 0) marked

-- where no channel has a marked end alone, all that is joined with node 0 is marked
module _ (links : List (ℕ × ℕ)) (marks : List Bool) (all : All (IsFollowed marks) links)
    (first : IsMarked marks 0) where
  far_marked : (near far : ℕ) (mark : Bool) → get_or marks far false ≡ mark → IsMarked marks near
      → far < length marks → (IsNext marks near far → ⊥) → IsMarked marks far
  far_marked near far true is marked within followed = is
  far_marked near far false is marked within followed = absurd (followed (marked, within, is))

  followed : (near far : ℕ) → IsLink links near far → IsNext marks near far → ⊥
  followed near far (inl (k, link, within, at, is)) =
      let both = subst (IsFollowed marks) (at ∙ is) (all k link within) in both.0
  followed near far (inr (k, link, within, at, is)) =
      let both = subst (IsFollowed marks) (at ∙ is) (all k link within) in both.1

  pub joined_marked : (node : ℕ) → IsJoined links (length marks) 0 node → IsMarked marks node
  joined_marked node Itself = first
  joined_marked node (Further {near} joined link within) =
      far_marked near node (get_or marks node false) refl (joined_marked near joined) within
      (followed near node link)

none_before : (test : Bool) (number : ℕ) → cond test (Some number) None ≡ None → test ≡ false
none_before true number is = cc
none_before false number is = refl

module _ (order : Preorder) (marks : List Bool) (same : length marks ≡ length order.nodes.items)
    (joined : AreJoined order.links.items marks)
    (all : All (IsFollowed marks) order.links.items)
    (first : 0 < length marks → IsMarked marks 0) where
  with_first : (node : ℕ) → IsMarked marks node
      → IsJoined order.links.items (length order.nodes.items) 0 node
  with_first node marked =
      subst (λ n. IsJoined order.links.items n 0 node) same (joined node marked)

  apart_by : (found : Option ℕ) → position (λ is_joined. not is_joined) marks ≡ found
      → IsFirstApart order found
  apart_by None is = λ node within.
      let beyond = ltb-false (position_or_len (λ is_joined. not is_joined) marks) (length marks)
      (none_before _ (position_or_len (λ is_joined. not is_joined) marks) is) in
      with_first node (not-false (get_or marks node false)
      (fails_before_first (λ is_joined. not is_joined) marks node false
      (omega (arith, beyond, within, same))))
  apart_by (Some node) is =
      let at = position-Some (λ is_joined. not is_joined) marks node false is in (
        omega (arith, at.0, same),
        λ together. both_ways (get_or marks node false) (not-true (get_or marks node false) at.1)
            (joined_marked order.links.items marks all (first (omega (arith, at.0))) node
            (subst (λ n. IsJoined order.links.items n 0 node) (sym same) together)),
        λ before earlier. with_first before (
            not-false (get_or marks before false) (at.2 before earlier)),
      )

  pub apart_is_first : IsFirstApart order (position (λ is_joined. not is_joined) marks)
  apart_is_first = apart_by (position (λ is_joined. not is_joined) marks) refl
