-- What a walk adds to an order, from what its steps add.
use Rattle.std.proofs.Common.{◌≡◌, ℕ, ◌+◌, Bool, List, ◌++◌, length, Option, Some, refl, ap}
use Rattle.std.proofs.Common.{append_assoc, arith}
use Rattle.strc_cli_source.specs.Preorders.{Tree, Trees, Sides, Loop, one_if, size_of, row_size}
use Rattle.strc_cli_source.specs.Preorders.{node_if, ends_of, side_exits, link, links_to, links_of}
use Rattle.strc_cli_source.specs.Preorders.{side_links, node_count, AddsLinks}
use Rattle.strc_cli_source.specs.declared.preorder.Ends.{Ends}
use Rattle.strc_cli_source.specs.declared.preorder.Preorder.{Preorder}

-- three steps that add to a list
pub append_three : {A : Type 0} (before one two after a b c : List A) → one ≡ before ++ a
    → two ≡ one ++ b → after ≡ two ++ c → after ≡ before ++ (a ++ b ++ c)
append_three before one two after a b c one_is two_is after_is =
    rw (after_is, two_is, one_is) (simp append_assoc)

-- where the items of streams side by side come and go
pub sides_ends : (first inner end : ℕ) (splits joins : Bool) (trees : Trees)
    (entry exit : Option ℕ) → inner ≡ first + one_if splits → end ≡ inner + row_size trees
    → entry ≡ node_if splits first → exit ≡ node_if joins end
    → record { entry = entry; exit = exit } ≡ ends_of first (Sides splits trees joins)
sides_ends first inner end splits joins trees entry exit inner_is end_is entry_is exit_is =
    rw (exit_is, entry_is, end_is, inner_is) refl

-- the channels of streams side by side: a splitter, the streams, a joiner, and the channels to it
pub sides_links : (old one two three new : Preorder) (splits joins : Bool) (trees : Trees)
    (entry exit : Option ℕ) (exits borrowed : List (Option ℕ))
    → node_count one ≡ node_count old + one_if splits → one.links.items ≡ old.links.items
    → entry ≡ node_if splits (node_count old) → node_count two ≡ node_count one + row_size trees
    → AddsLinks one two (side_links entry (node_count one) trees)
    → exits ≡ side_exits (node_count one) trees → three.links.items ≡ two.links.items
    → exit ≡ node_if joins (node_count two) → AddsLinks three new (links_to exit borrowed)
    → borrowed ≡ exits
    → AddsLinks old new (links_of (node_count old) (Sides splits trees joins))
sides_links old one two three new splits joins trees entry exit exits borrowed one_count one_links
    entry_is two_count two_links exits_is three_links exit_is new_links borrowed_is =
    rw (
      new_links,
      three_links,
      two_links,
      one_links,
      borrowed_is,
      exits_is,
      exit_is,
      entry_is,
      two_count,
      one_count,
    )
    (simp append_assoc)

-- those of a feedback loop: its joiner, its body, the channel to that, its splitter, the channel
-- from the body, its loop, and the channels of that
pub loop_links : (old one two three four five six seven new : Preorder) (joiner split : ℕ)
    (inner outer : Ends) (takes gives : Bool) (body back : Tree)
    → joiner ≡ node_count old → node_count one ≡ node_count old + 1
    → one.links.items ≡ old.links.items → node_count two ≡ node_count one + size_of body
    → AddsLinks one two (links_of (node_count one) body) → inner ≡ ends_of (node_count one) body
    → three.nodes ≡ two.nodes → AddsLinks two three (link (Some joiner) inner.entry)
    → split ≡ node_count three → node_count four ≡ node_count three + 1
    → four.links.items ≡ three.links.items → five.nodes ≡ four.nodes
    → AddsLinks four five (link inner.exit (Some split))
    → AddsLinks five six (links_of (node_count five) back)
    → outer ≡ ends_of (node_count five) back
    → AddsLinks six seven (link (Some split) outer.entry)
    → AddsLinks seven new (link outer.exit (Some joiner))
    → AddsLinks old new (links_of (node_count old) (Loop takes body gives back))
loop_links old one two three four five six seven new joiner split inner outer takes gives body back
    joiner_is one_count one_links two_count two_links inner_is three_nodes three_links split_is
    four_count four_links five_nodes five_links six_links outer_is seven_links new_links =
    let first = node_count old in
    let counted = ap (λ nodes. length nodes.items) three_nodes in
    let number : split ≡ first + 1 + size_of body = omega arith in
    let again = ap (λ nodes. length nodes.items) five_nodes in
    let after : node_count five ≡ first + 1 + size_of body + 1 = omega arith in
    rw (
      new_links,
      seven_links,
      six_links,
      five_links,
      four_links,
      three_links,
      two_links,
      one_links,
      outer_is,
      inner_is,
      after,
      number,
      joiner_is,
      one_count,
    )
    (simp append_assoc)
