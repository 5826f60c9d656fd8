-- What the judgement says of a member, from what it says of its parts, and what other members say.
use Rattle.std.proofs.Common.{◌≡◌, ℕ, List, ◌∷◌, map, Result, Ok, Vec, Global, refl, sym, ap, ◌∙◌}
use Rattle.std.specs.Prelude.{ℤ}
use Rattle.strc_lex_names.specs.Results.{result_and_then}
use Rattle.strc_parse_tree.specs.Tree as tree
use Rattle.strc_parse_tree.specs.View.{block_view, rate_view, member_view}
use Rattle.strc_parse_tree.specs.declared.tree.ItemType.{ItemType}
use Rattle.strc_parse_tree.specs.declared.tree.RateTree.{RateTree}
use Rattle.strc_parse_tree.specs.declared.tree.Stmt.{Stmt}
use Rattle.strc_parse_tree.specs.declared.tree.Member.{Member, Init, Prework, Work, Helper}
use Rattle.strc_parse_tree.specs.declared.tree.Member.TheVariants as member
use Rattle.strc_parse_tree.specs.declared.tree.Variables.{Variables}
use Rattle.strc_work_rules.specs.declared.error.LowerError.{LowerError}
use Rattle.strc_work_rules.specs.Resolution as judged
use Rattle.strc_work_meaning.specs.Typing.{TypedNames, names_after_fields}
use Rattle.strc_work_rules.specs.Signatures.{Signatures}
use Rattle.strc_parse_tree.specs.declared.tree.HelperType.{HelperType}
use Rattle.strc_lex_names.specs.declared.name.Name.{Name}
use Rattle.strc_parse_tree.proofs.Blocks.{member_view-Init, member_view-Prework, member_view-Work}
use Rattle.strc_parse_tree.proofs.Blocks.{member_view-Helper}

pub init_judged : (constants : List (List ℕ × ℤ)) (helpers : Signatures) (input output : ItemType)
    (fields : TypedNames)
    (before known : List (List ℕ)) (context : judged.Context) (m : Member) (block : Vec Stmt Global)
    (items : List Stmt) → context ≡ judged.start_context constants helpers → items ≡ block.items
    → m ≡ Init block → result_and_then (judged.body_resolved context fields (block_view items))
    (λ b. Ok (tree.Init b)) ≡ judged.member_resolved constants helpers input output fields before
    known
    (member_view m)
init_judged constants helpers input output fields before known context m block items at same is =
    ap (λ s. result_and_then (judged.body_resolved s fields (block_view items))
    (λ b. Ok (tree.Init b))) at
    ∙ ap (λ l. result_and_then (judged.body_resolved (judged.start_context constants helpers) fields
    (block_view l)) (λ b. Ok (tree.Init b))) same
    ∙ ap (judged.member_resolved constants helpers input output fields before known)
    (sym (member_view-Init block))
    ∙ ap (λ x. judged.member_resolved constants helpers input output fields before known
    (member_view x)) (sym is)

-- the judgement of a body with its rates
abbrev pub work_judged : (constants : List (List ℕ × ℤ)) (helpers : Signatures)
    (input output : ItemType)
    (fields : TypedNames) → List RateTree → List Stmt → Result judged.Work LowerError
work_judged constants helpers input output fields rates block =
    judged.work_resolved constants helpers input output fields
    (record { rates = map rate_view rates; block = block_view block })

work_same : (constants : List (List ℕ × ℤ)) (helpers : Signatures) (input output : ItemType)
    (fields : TypedNames)
    (go : judged.Work → Result tree.Member LowerError) (rates rates' : List RateTree)
    (block block' : List Stmt) → rates ≡ rates' → block ≡ block'
    → result_and_then (work_judged constants helpers input output fields rates block) go
    ≡ result_and_then (work_judged constants helpers input output fields rates' block') go
work_same constants helpers input output fields go rates rates' block block' same same' =
    ap (λ r. result_and_then (work_judged constants helpers input output fields r block) go) same
    ∙ ap (λ b. result_and_then (work_judged constants helpers input output fields rates' b) go)
    same'

pub prework_judged : (constants : List (List ℕ × ℤ)) (helpers : Signatures)
    (input output : ItemType)
    (fields : TypedNames)
    (before known : List (List ℕ)) (m : Member) (rates : Vec RateTree Global)
    (block : Vec Stmt Global)
    (written : List RateTree) (items : List Stmt) → written ≡ rates.items → items ≡ block.items
    → m ≡ Prework rates block → result_and_then
    (work_judged constants helpers input output fields written items)
    (λ w. Ok (tree.Prework w.rates w.block))
    ≡ judged.member_resolved constants helpers input output fields before known (member_view m)
prework_judged constants helpers input output fields before known m rates block written items same
    same' is =
    work_same constants helpers input output fields
    (λ w. Ok (tree.Prework w.rates w.block)) written rates.items items block.items same same'
    ∙ ap (judged.member_resolved constants helpers input output fields before known)
    (sym (member_view-Prework rates block))
    ∙ ap (λ x. judged.member_resolved constants helpers input output fields before known
    (member_view x)) (sym is)

pub main_work_judged : (constants : List (List ℕ × ℤ)) (helpers : Signatures)
    (input output : ItemType)
    (fields : TypedNames) (before known : List (List ℕ)) (m : Member) (rates : Vec RateTree Global)
    (block : Vec Stmt Global) (written : List RateTree) (items : List Stmt) → written ≡ rates.items
    → items ≡ block.items → m ≡ Work rates block
    → result_and_then (work_judged constants helpers input output fields written items)
    (λ w. Ok (tree.Work w.rates w.block))
    ≡ judged.member_resolved constants helpers input output fields before known (member_view m)
main_work_judged constants helpers input output fields before known m rates block written items same
    same' is =
    work_same constants helpers input output fields
    (λ w. Ok (tree.Work w.rates w.block)) written rates.items items block.items same same'
    ∙ ap (judged.member_resolved constants helpers input output fields before known)
    (sym (member_view-Work rates block))
    ∙ ap (λ x. judged.member_resolved constants helpers input output fields before known
    (member_view x)) (sym is)

pub helper_judged : (constants : List (List ℕ × ℤ)) (helpers : Signatures)
    (input output : ItemType) (fields : TypedNames) (before known : List (List ℕ)) (m : Member)
    (kind : HelperType) (name : Name) (parameters : Vec Name Global) (block : Vec Stmt Global)
    (written : List (List ℕ)) (items : List Stmt) → written ≡ parameters.items
    → items ≡ block.items → m ≡ Helper kind name parameters block
    → judged.helper_resolved constants helpers fields known kind name written (block_view items)
    ≡ judged.member_resolved constants helpers input output fields before known (member_view m)
helper_judged constants helpers input output fields before known m kind name parameters block
    written items same same' is =
    ap (λ l. judged.helper_resolved constants helpers fields known kind name l (block_view items))
    same
    ∙ ap (λ l. judged.helper_resolved constants helpers fields known kind name parameters.items
    (block_view l)) same'
    ∙ ap (judged.member_resolved constants helpers input output fields before known)
    (sym (member_view-Helper kind name parameters block))
    ∙ ap (λ x. judged.member_resolved constants helpers input output fields before known
    (member_view x)) (sym is)

-- a member that declares no field adds no name
pub other_than_fields : (m : Member) (names : TypedNames) (rest : List tree.Member)
    → ((declared : Variables) → m ≡ member.Fields declared → ⊥)
    → names_after_fields names rest ≡ names_after_fields names (member_view m ∷ rest)
other_than_fields (member.Fields declared) names rest other = absurd (other declared refl)
other_than_fields (member.Init' shape block) names rest other = refl
other_than_fields (member.Prework' rates shape block) names rest other = refl
other_than_fields (member.Work' rates shape block) names rest other = refl
other_than_fields (member.Helper' kind name parameters shape block) names rest other = refl
