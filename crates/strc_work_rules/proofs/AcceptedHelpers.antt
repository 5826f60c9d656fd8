-- The judgement of a helper function, from those of its parameters and its block.
use Rattle.std.proofs.Common.{◌≡◌, ℕ, ℤ, false, not, List, length, Ok, Vec, Global, sym, ap, ◌∙◌}
use Rattle.strc_lex_names.specs.declared.name.Name.{Name}
use Rattle.strc_lex_names.specs.Names.{has_name}
use Rattle.strc_lex_names.specs.Results.{result_and_then}
use Rattle.strc_parse_tree.specs.Tree as tree
use Rattle.strc_parse_tree.specs.View.{block_view, member_view}
use Rattle.strc_parse_tree.specs.declared.tree.HelperType.{HelperType}
use Rattle.strc_parse_tree.specs.declared.tree.Member.{Helper}
use Rattle.strc_parse_tree.specs.declared.tree.Stmt.{Stmt}
use Rattle.strc_work_meaning.specs.Typing.{TypedNames}
use Rattle.strc_work_rules.specs.Signatures.{Signatures, with_parameters}
use Rattle.strc_work_rules.specs.Resolution as judged
use Rattle.strc_parse_tree.proofs.Blocks.{member_view-Helper}

pub helper_accepted : (constants : List (List ℕ × ℤ)) (helpers : Signatures) (fields : TypedNames)
    (known : List (List ℕ)) (kind : HelperType) (name : List ℕ) (parameters : List (List ℕ))
    (block : List Stmt) (context : judged.Context) (names : TypedNames) (start : ℕ) (name' : Name)
    (parameters' : Vec Name Global) (block' : Vec Stmt Global) → has_name known name ≡ false
    → context ≡ judged.helper_context constants helpers kind → start ≡ length fields
    → names ≡ with_parameters fields parameters
    → judged.parameters_resolved fields start parameters ≡ Ok parameters'.items
    → judged.body_resolved context names (block_view block) ≡ Ok (block_view block'.items)
    → name' ≡ name
    → judged.helper_resolved constants helpers fields known kind name parameters (block_view block)
    ≡ Ok (member_view (Helper kind name' parameters' block'))
helper_accepted constants helpers fields known kind name parameters block context names start name'
    parameters' block' new at from inside given done same =
    let own = judged.helper_context constants helpers kind in
    let inner = with_parameters fields parameters in
    let resolved = judged.body_resolved own inner (block_view block) in
    let given' = sym (ap (λ n. judged.parameters_resolved fields n parameters) from) ∙ given in
    let done' = sym (ap (λ c. judged.body_resolved c names (block_view block)) at
    ∙ ap (λ n. judged.body_resolved own n (block_view block)) inside) ∙ done in
    ap (λ t. judged.where_kept (not t)
    (result_and_then (judged.parameters_resolved fields (length fields) parameters)
    (λ p. result_and_then resolved (λ b. Ok (tree.Helper kind name p b))))) new
    ∙ ap (λ r. result_and_then r
    (λ p. result_and_then resolved (λ b. Ok (tree.Helper kind name p b)))) given'
    ∙ ap (λ r. result_and_then r (λ b. Ok (tree.Helper kind name parameters'.items b))) done'
    ∙ ap (λ n. Ok (tree.Helper kind n parameters'.items (block_view block'.items))) (sym same)
    ∙ ap Ok (sym (member_view-Helper kind name' parameters' block'))
