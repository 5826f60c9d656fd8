-- The tapes that lists of words are.
use Rattle.std.proofs.Common.{◌≡◌, refl, sym, ap, ◌∙◌, ℕ, zero, suc, ◌+◌, ◌<◌, ◌≤◌, Bool}
use Rattle.std.proofs.Common.{true, false}
use Rattle.std.proofs.Common.{List, [], ◌∷◌, ◌++◌, map, drop, get_or, length, arith, if◌then◌else◌}
use Rattle.std.proofs.Common.{append_assoc, add-one}
use Rattle.std.proofs.lemmas.List.{append-nil, length-append}
use Rattle.std.proofs.Math.Seq.{drop-nil, drop-cons}
use Rattle.strc_work_meaning.specs.declared.word.Word.{Word}
use Rattle.strc_elab_graph.specs.Graphs.{NodeCode, gives_words}
use Rattle.strc_elab_graph.specs.Tapes.{tape_nodes, tape_nodes_from}
use Rattle.strc_sched_outcome.specs.Tapes.{TapeView, tape}
use Rattle.strc_sched.specs.Tapes as nodes
use Rattle.strc_sched.specs.Tapes.{tapes_of}
use Rattle.strc_stage.specs.Telling.{added, tapes_from, tapes_by}

-- What is left of lists from one on.
head_is : {A : Type 0} (x y : A) (xs ys : List A) → x ∷ xs ≡ y ∷ ys → (x ≡ y) × (xs ≡ ys)
head_is x y xs ys e = (cc, cc)

drop_head : (number : ℕ) (words : List (List Word)) (own : List Word) (rest : List (List Word))
    → drop number words ≡ own ∷ rest
    → (get_or words number [] ≡ own) × (drop (suc number) words ≡ rest)
drop_head number [] own rest is =
    let none = sym (drop-nil number) ∙ is in absurd (cc)
drop_head zero (first ∷ words) own rest is = head_is first own words rest is
drop_head (suc number) (first ∷ words) own rest is = drop_head number words own rest is

-- Where the lists are the words of the tapes' nodes, the tapes are those of the nodes.
module _ (all : ℕ → List Word) (words : List (List Word)) where
  by_nodes : (node number : ℕ) (codes : List NodeCode)
      → drop number words ≡ map all (tape_nodes_from node codes)
      → tapes_from node number codes words ≡ nodes.tapes_from node codes all
  by_nodes node number [] is = refl
  by_nodes node number (code ∷ codes) is = both (gives_words code)
      (by_nodes (suc node) (suc number) codes) (by_nodes (suc node) number codes) is
    where
      both : (gives : Bool)
          → (drop (suc number) words ≡ map all (tape_nodes_from (suc node) codes)
          → tapes_from (suc node) (suc number) codes words
          ≡ nodes.tapes_from (suc node) codes all)
          → (drop number words ≡ map all (tape_nodes_from (suc node) codes)
          → tapes_from (suc node) number codes words
          ≡ nodes.tapes_from (suc node) codes all)
          → drop number words ≡ map all (if gives
          then node ∷ tape_nodes_from (suc node) codes else tape_nodes_from (suc node) codes)
          → (if gives then tape node (get_or words number [])
          ∷ tapes_from (suc node) (suc number) codes words
          else tapes_from (suc node) number codes words)
          ≡ (if gives then tape node (all node)
          ∷ nodes.tapes_from (suc node) codes all
          else nodes.tapes_from (suc node) codes all)
      both true later same is =
          let first = drop_head number words (all node)
          (map all (tape_nodes_from (suc node) codes)) is in
          ap (λ w. tape node w ∷ tapes_from (suc node) (suc number) codes words) first.0
          ∙ ap (λ l. tape node (all node) ∷ l) (later first.1)
      both false later same is = same is

  pub tapes_are : (codes : List NodeCode) → words ≡ map all (tape_nodes codes)
      → tapes_by codes words ≡ tapes_of codes all
  tapes_are codes is = by_nodes 0 0 codes is

-- Without lists no tape has words.
pub no_words : (node number : ℕ) (codes : List NodeCode)
    → tapes_from node number codes [] ≡ nodes.tapes_from node codes (λ _. [])
no_words node number [] = refl
no_words node number (code ∷ codes) = both (gives_words code)
    (no_words (suc node) (suc number) codes) (no_words (suc node) number codes)
  where
    both : (gives : Bool)
        → tapes_from (suc node) (suc number) codes [] ≡ nodes.tapes_from (suc node) codes (λ _. [])
        → tapes_from (suc node) number codes [] ≡ nodes.tapes_from (suc node) codes (λ _. [])
        → (if gives then tape node [] ∷ tapes_from (suc node) (suc number) codes []
        else tapes_from (suc node) number codes [])
        ≡ (if gives then tape node [] ∷ nodes.tapes_from (suc node) codes (λ _. [])
        else nodes.tapes_from (suc node) codes (λ _. []))
    both true more same = ap (λ l. tape node [] ∷ l) more
    both false more same = same

-- One node more has its tape.
pub one_more : (codes : List NodeCode) (words : List (List Word)) (d : NodeCode) (node : ℕ)
    (before after all : List TapeView) (own : List Word) → node < length codes
    → after ≡ before ++ added (get_or codes node d) node own
    → own ≡ get_or words (length before) []
    → before ++ tapes_from node (length before) (drop node codes) words ≡ all
    → after ++ tapes_from (node + 1) (length after) (drop (node + 1) codes) words ≡ all
one_more codes words d node before after all own within is own_is so_far =
    go (gives_words (get_or codes node d)) refl
    ∙ sym (ap (λ l. before ++ tapes_from node (length before) l words)
    (drop-cons codes node d within)) ∙ so_far
  where
    rest : List NodeCode
    rest = drop (suc node) codes

    later : (number : ℕ) → List TapeView
    later number = tapes_from (suc node) number rest words

    next_is : after ++ tapes_from (node + 1) (length after) (drop (node + 1) codes) words
        ≡ after ++ later (length after)
    next_is = ap (λ n. after ++ tapes_from n (length after) (drop n codes) words) (add-one node)

    go : (gives : Bool) → gives_words (get_or codes node d) ≡ gives
        → after ++ tapes_from (node + 1) (length after) (drop (node + 1) codes) words
        ≡ before ++ tapes_from node (length before) (get_or codes node d ∷ rest) words
    go true e =
        let here : after ≡ before ++ tape node own ∷ [] =
        is ∙ ap (λ b. before ++ (if b then tape node own ∷ [] else [])) e in
        let longer : length after ≡ suc (length before) =
        ap length here ∙ length-append before (tape node own ∷ [])
        ∙ (let n : length before + 1 ≡ suc (length before) = omega arith in n) in
        next_is
        ∙ (λ i. here i ++ later (longer i))
        ∙ append_assoc before (tape node own ∷ []) (later (suc (length before)))
        ∙ ap (λ w. before ++ tape node w ∷ later (suc (length before))) own_is
        ∙ sym (ap (λ b. before ++ (if b
        then tape node (get_or words (length before) []) ∷ later (suc (length before))
        else later (length before))) e)
    go false e =
        let here : after ≡ before =
        is ∙ ap (λ b. before ++ (if b then tape node own ∷ [] else [])) e ∙ append-nil before in
        next_is
        ∙ ap (λ l. l ++ later (length l)) here
        ∙ sym (ap (λ b. before ++ (if b
        then tape node (get_or words (length before) []) ∷ later (suc (length before))
        else later (length before))) e)

-- There are no fewer then.
pub no_less : (code : NodeCode) (node : ℕ) (before after : List TapeView) (own : List Word)
    → after ≡ before ++ added code node own → length before ≤ length after
no_less code node before after own is =
    let e = ap length is ∙ length-append before (added code node own) in omega (arith, e)

-- ---- tapes as a list

-- The tape of a node with its words.
abbrev pub tape_by : (words : ℕ → List Word) → (node : ℕ) → TapeView
tape_by words node = tape node (words node)

listed_from : (words : ℕ → List Word) (node : ℕ) (codes : List NodeCode)
    → nodes.tapes_from node codes words ≡ map (tape_by words) (tape_nodes_from node codes)
listed_from words node [] = refl
listed_from words node (code ∷ codes) = by_test (gives_words code)
    (listed_from words (suc node) codes)
  where
    by_test : (t : Bool)
        → nodes.tapes_from (suc node) codes words
        ≡ map (tape_by words) (tape_nodes_from (suc node) codes)
        → (if t then tape node (words node) ∷ nodes.tapes_from (suc node) codes words
        else nodes.tapes_from (suc node) codes words)
        ≡ map (tape_by words) (if t then node ∷ tape_nodes_from (suc node) codes
        else tape_nodes_from (suc node) codes)
    by_test true later = ap (λ l. tape node (words node) ∷ l) later
    by_test false later = later

pub tapes_listed : (words : ℕ → List Word) (codes : List NodeCode)
    → tapes_of codes words ≡ map (tape_by words) (tape_nodes codes)
tapes_listed words codes = listed_from words 0 codes

-- Nodes with the same words have the same tapes.
same_from : (own others : ℕ → List Word) (node : ℕ) (codes : List NodeCode)
    → ((n : ℕ) → n < node + length codes → own n ≡ others n)
    → nodes.tapes_from node codes own ≡ nodes.tapes_from node codes others
same_from own others node [] same = refl
same_from own others node (code ∷ codes) same =
    by_test (gives_words code) (same node (omega arith))
    (same_from own others (suc node) codes (λ n less. same n (omega (arith, less))))
  where
    by_test : (t : Bool) → own node ≡ others node
        → nodes.tapes_from (suc node) codes own ≡ nodes.tapes_from (suc node) codes others
        → (if t then tape node (own node) ∷ nodes.tapes_from (suc node) codes own
        else nodes.tapes_from (suc node) codes own)
        ≡ (if t then tape node (others node) ∷ nodes.tapes_from (suc node) codes others
        else nodes.tapes_from (suc node) codes others)
    by_test true here later =
        ap (λ w. tape node w ∷ nodes.tapes_from (suc node) codes own) here
        ∙ ap (λ l. tape node (others node) ∷ l) later
    by_test false here later = later

pub same_tapes : (own others : ℕ → List Word) (codes : List NodeCode)
    → ((n : ℕ) → n < length codes → own n ≡ others n)
    → tapes_of codes own ≡ tapes_of codes others
same_tapes own others codes same =
    same_from own others 0 codes (λ n less. same n (omega (arith, less)))

-- ---- renamed tapes

module _ (name : ℕ → ℕ) (own others : ℕ → List Word) where
  abbrev renamed : TapeView → TapeView
  renamed at = tape (name at.node) at.words

  zipped : (numbers : List ℕ) → map own numbers ≡ map others (map name numbers)
      → map renamed (map (tape_by own) numbers) ≡ map (tape_by others) (map name numbers)
  zipped [] same = refl
  zipped (n ∷ numbers) same =
      let (here, later) = head_is (own n) (others (name n)) (map own numbers)
      (map others (map name numbers)) same in
      ap (λ w. tape (name n) w ∷ map renamed (map (tape_by own) numbers)) here
      ∙ ap (λ l. tape (name n) (others (name n)) ∷ l) (zipped numbers later)

  pub tapes_renamed : (numbers olds : List ℕ) → map name numbers ≡ olds
      → map own numbers ≡ map others olds
      → map renamed (map (tape_by own) numbers) ≡ map (tape_by others) olds
  tapes_renamed numbers olds are same =
      zipped numbers (same ∙ ap (map others) (sym are)) ∙ ap (map (tape_by others)) are
