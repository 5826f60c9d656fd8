-- The words of each node, in a list of lists.
use Rattle.std.proofs.Common.{◌≡◌, sym, ap, ◌∙◌, ℕ, ◌+◌, ◌<◌, List, [], ◌∷◌, ◌++◌, length, map}
use Rattle.std.proofs.Common.{take, get_or, set, arith}
use Rattle.std.proofs.lemmas.List.{length-map, get_or-map, map-append, map-set}
use Rattle.std.proofs.lemmas.List.{take_more, take_more_set}
use Rattle.std.specs.declared.vec.Vec.{Vec}
use Rattle.std.specs.declared.alloc.Global.{Global}
use Rattle.strc_work_meaning.specs.declared.word.Word.{Word}
use Rattle.strc_sched_laws.specs.Machine.{words_at}
use Rattle.strc_sched_machine.specs.Running.{without_words, words_of}

-- the words of all nodes, where one node's change
pub words_set : (all : List (Vec Word Global)) (node : ℕ) (own : Vec Word Global)
    → words_of (set all node own) ≡ set (words_of all) node own.items
words_set all node own = map-set (λ (words : Vec Word Global). words.items) all node own

pub words_many : (all : List (Vec Word Global)) (node : ℕ) → node < length all
    → node < length (words_of all)
words_many all node less =
    let many = length-map all (λ (words : Vec Word Global). words.items) in
    omega (arith, less, many)

-- those of one node
pub own_words : (all : List (Vec Word Global)) (node : ℕ) (own : Vec Word Global)
    → node < length all → own ≡ get_or all node own → words_at (words_of all) node ≡ own.items
own_words all node own less is =
    get_or-map (λ (words : Vec Word Global). words.items) all node own [] less
    ∙ ap (λ (words : Vec Word Global). words.items) (sym is)

-- one list more is emptied
pub words_emptied : (now before : List (Vec Word Global)) (place : ℕ) (old own : Vec Word Global)
    → place < length now → place < length before → own.items ≡ []
    → words_of (take place now) ≡ without_words (words_of (take place before))
    → words_of (take (place + 1) (set now place own))
    ≡ without_words (words_of (take (place + 1) before))
words_emptied now before place old own here there none so =
    let items = λ (words : Vec Word Global). words.items in
    let nothing : List Word → List Word = λ _. [] in
    let was = get_or before place old ∷ [] in
    ap (map items) (take_more_set now place own here)
    ∙ map-append items (take place now) (own ∷ [])
    ∙ ap (λ l. map items (take place now) ++ l ∷ []) none ∙ ap (λ l. l ++ [] ∷ []) so
    ∙ sym (ap (λ l. map nothing (map items l)) (take_more before place old there)
    ∙ ap (map nothing) (map-append items (take place before) was)
    ∙ map-append nothing (map items (take place before)) (map items was))
