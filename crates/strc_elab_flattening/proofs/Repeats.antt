-- Writers by the bytes between their quotes, one after another.
use Rattle.std.proofs.Common.{◌≡◌, refl, sym, ap, ◌∙◌, ℕ, ◌+◌, ◌<◌, ◌≤◌, Bool, true, false}
use Rattle.std.proofs.Common.{cond, List, length, Option, Some, None, slice_get, arith, nat_eq, inl}
use Rattle.std.proofs.Common.{inr, is_some, [], ◌∷◌, ◌++◌}
use Rattle.std.specs.Map.{lookup}
use Rattle.std.specs.Cmp.Lexicographic.{pointwise, same_text, nat_list_eq_equiv}
use Rattle.std.proofs.lemmas.Bool.{cases_eq}
use Rattle.std.proofs.lemmas.Option.{slice_get_within}
use Rattle.strc_lex_names.specs.declared.name.StringLiteral.{StringLiteral}
use Rattle.strc_elab_graph.specs.Graphs.{NodeCode, FileWriter}
use Rattle.strc_elab_graph.specs.NodeView.{node_view}
use Rattle.strc_elab_graph.specs.declared.graph.Node.{Node}
use Rattle.strc_elab_graph.specs.declared.graph.Node.TheVariants as nodes
use Rattle.strc_elab_graph.specs.Tapes.{RepeatsTape, AreTapesApart, IsFirstRepeat}

-- two writers at one place have one text
writer_text : (one other : List ℕ)
    → ◌≡◌ {A = Option NodeCode} (Some (FileWriter one)) (Some (FileWriter other)) → one ≡ other
writer_text one other e = cc

-- a node that is no writer
pub no_writer_view : (node : Node) → ((text : StringLiteral) → node ≡ nodes.FileWriter text → ⊥)
    → (text : List ℕ) → node_view node ≡ FileWriter text → ⊥
no_writer_view (nodes.FileWriter own) none text e = none own refl
no_writer_view (nodes.Filter instance) none text e = absurd (cc)
no_writer_view nodes.Identity none text e = absurd (cc)
no_writer_view (nodes.FileReader own) none text e = absurd (cc)
no_writer_view (nodes.Splitter splitter) none text e = absurd (cc)
no_writer_view (nodes.Joiner weights) none text e = absurd (cc)
no_writer_view (nodes.Scatter fission) none text e = absurd (cc)
no_writer_view (nodes.Copy instance fission) none text e = absurd (cc)
no_writer_view (nodes.Gather fission) none text e = absurd (cc)

pub some_code : (one other : NodeCode) → Some one ≡ Some other → one ≡ other
some_code one other e = cc

-- nothing is found where that is said
pub none_found : (found : Option ℕ) → is_some found ≡ false → found ≡ None
none_found None e = refl
none_found (Some node) e = absurd (cc)

-- nothing isn't found
nothing_found : (found : Option ℕ) → found ≡ None → is_some found ≡ true → ⊥
nothing_found None e some = absurd (cc)
nothing_found (Some node) e some = absurd (cc)

-- a text is the same as itself
text_itself : (text : List ℕ) → pointwise nat_eq text text ≡ true
text_itself text = nat_list_eq_equiv.refl text

-- a table finds the writer of a text among the first so many nodes, and none repeats another one
pub record AreWriters (codes : List NodeCode) (count : ℕ) (found : List ℕ → Option ℕ) : Type 0 where
  pub sound : (text : List ℕ) (node : ℕ) → found text ≡ Some node
      → (node < count) × (slice_get codes node ≡ Some (FileWriter text))
  pub complete : (text : List ℕ) (node : ℕ) → node < count
      → slice_get codes node ≡ Some (FileWriter text) → is_some (found text) ≡ true
  pub apart : (node : ℕ) → node < count → ¬ RepeatsTape codes node

-- what a table finds with one more entry at its end
abbrev pub found_later : Option ℕ → Bool → ℕ → Option ℕ
found_later None test node = cond test (Some node) None
found_later (Some first) test node = Some first

pub lookup-append : {K : Type 0} (p : K → Bool) (entries : List (K × ℕ)) (key : K) (node : ℕ)
    → lookup p (entries ++ (key, node) ∷ []) ≡ found_later (lookup p entries) (p key) node
lookup-append p [] key node = refl
lookup-append p (entry ∷ entries) key node =
    ap (cond (p entry.0) (Some entry.1)) (lookup-append p entries key node)
    ∙ by_test (p entry.0) (lookup p entries)
  where
    by_test : (test : Bool) (rest : Option ℕ)
        → cond test (Some entry.1) (found_later rest (p key) node)
        ≡ found_later (cond test (Some entry.1) rest) (p key) node
    by_test true rest = refl
    by_test false rest = refl

module _ (codes : List NodeCode) (count : ℕ) (found : List ℕ → Option ℕ)
    (are : AreWriters codes count found) where
  -- the next node is no writer
  pub no_writer : ((text : List ℕ) → slice_get codes count ≡ Some (FileWriter text) → ⊥)
      → AreWriters codes (count + 1) found
  no_writer none = record {
    sound = λ text node e.
        let (less, there) = are.sound text node e in (omega (arith, less), there);
    complete = λ text node less there. elim (cases_eq node count) [
      | inl same ↦ absurd (none text (ap (slice_get codes) (sym same) ∙ there))
      | inr differs ↦ are.complete text node (omega (arith, less, differs)) there
    ];
    apart = λ node less repeats. elim (cases_eq node count) [
      | inl same ↦ none repeats.text (ap (slice_get codes) (sym same) ∙ repeats.again)
      | inr differs ↦ are.apart node (omega (arith, less, differs)) repeats
    ];
  }

  module _ (text : List ℕ) (here : slice_get codes count ≡ Some (FileWriter text)) where
    -- the next node is a writer of a text that the table finds
    pub repeats_here : is_some (found text) ≡ true → IsFirstRepeat codes count
    repeats_here there = by_found (found text) refl there
      where
        by_found : (o : Option ℕ) → found text ≡ o → is_some o ≡ true → IsFirstRepeat codes count
        by_found None e there = absurd (cc)
        by_found (Some earlier) e there = record {
          repeats = record {
            text = text;
            earlier = earlier;
            before = (are.sound text earlier e).0;
            first = (are.sound text earlier e).1;
            again = here;
          };
          lowest = are.apart;
        }

    abbrev later : List ℕ → Option ℕ
    later other = found_later (found other) (pointwise nat_eq other text) count

    -- it is a writer of another text
    pub next_writer : found text ≡ None → AreWriters codes (count + 1) later
    next_writer none = record {
      sound = λ other node e. sound_later other node (found other) refl e;
      complete = λ other node less there. complete_later other node less there (found other) refl;
      apart = λ node less repeats. elim (cases_eq node count) [
        | inl same ↦ repeats_not node same repeats
        | inr differs ↦ are.apart node (omega (arith, less, differs)) repeats
      ];
    }
      where
        sound_later : (other : List ℕ) (node : ℕ) (o : Option ℕ) → found other ≡ o
            → found_later o (pointwise nat_eq other text) count ≡ Some node
            → (node < count + 1) × (slice_get codes node ≡ Some (FileWriter other))
        sound_later other node (Some first) e is =
            let same : first ≡ node = cc in
            let (less, there) = are.sound other node (e ∙ is) in (omega (arith, less), there)
        sound_later other node None e is = by_test (pointwise nat_eq other text) refl is
          where
            by_test : (test : Bool) → pointwise nat_eq other text ≡ test
                → cond test (Some count) None ≡ Some node
                → (node < count + 1) × (slice_get codes node ≡ Some (FileWriter other))
            by_test true same is =
                let own : count ≡ node = cc in (
                  omega (arith, own),
                  ap (slice_get codes) (sym own) ∙ here
                      ∙ ap (λ t. Some (FileWriter t)) (sym (same_text other text (sym same))),
                )
            by_test false same is = absurd (cc)

        complete_later : (other : List ℕ) (node : ℕ) → node < count + 1
            → slice_get codes node ≡ Some (FileWriter other) → (o : Option ℕ) → found other ≡ o
            → is_some (found_later o (pointwise nat_eq other text) count) ≡ true
        complete_later other node less there (Some first) e = refl
        complete_later other node less there None e = elim (cases_eq node count) [
          | inl same ↦
              let texts : other ≡ text = writer_text other text
              (sym there ∙ ap (slice_get codes) same ∙ here) in
              ap (λ test. is_some (cond test (Some count) None))
              (ap (λ t. pointwise nat_eq t text) texts ∙ text_itself text)
          | inr differs ↦
              let own = are.complete other node (omega (arith, less, differs)) there in
              absurd (nothing_found (found other) e own)
        ]

        repeats_not : (node : ℕ) → node ≡ count → RepeatsTape codes node → ⊥
        repeats_not node same repeats =
            let texts : repeats.text ≡ text = writer_text repeats.text text
            (sym repeats.again ∙ ap (slice_get codes) same ∙ here) in
            let own = are.complete repeats.text repeats.earlier
            (let less = repeats.before in omega (arith, less, same)) repeats.first in
            nothing_found (found repeats.text) (ap found texts ∙ none) own

-- at the end none repeats another one
pub all_apart : (codes : List NodeCode) (count : ℕ) (found : List ℕ → Option ℕ)
    → AreWriters codes count found → length codes ≤ count → AreTapesApart codes
all_apart codes count found are all node repeats =
    are.apart node
    (let less = slice_get_within codes node _ repeats.again in omega (arith, less, all)) repeats

-- tables that find the same
pub same_writers : (codes : List NodeCode) (count : ℕ) (found other : List ℕ → Option ℕ)
    → ((text : List ℕ) → other text ≡ found text) → AreWriters codes count found
    → AreWriters codes count other
same_writers codes count found other same are = record {
  sound = λ text node e. are.sound text node (sym (same text) ∙ e);
  complete = λ text node less there. ap is_some (same text) ∙ are.complete text node less there;
  apart = are.apart;
}
