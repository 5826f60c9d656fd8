-- The judgement of a call, from those of its name and number of arguments, and of the arguments.
use Rattle.std.proofs.Common.{◌≡◌, ℕ, List, length, Result, Ok, Vec, Global, sym, ap, ◌∙◌}
use Rattle.strc_lex_names.specs.declared.name.Name.{Name}
use Rattle.strc_lex_names.specs.Results.{result_and_then}
use Rattle.strc_parse_tree.specs.Tree as tree
use Rattle.strc_parse_tree.specs.View.{expr_view, listed_view}
use Rattle.strc_parse_tree.specs.declared.tree.Expr.{Expr, Call}
use Rattle.strc_parse_tree.specs.declared.tree.HelperType.{HelperType}
use Rattle.strc_work_rules.specs.declared.error.LowerError.{LowerError}
use Rattle.strc_work_meaning.specs.Typing.{TypedNames}
use Rattle.strc_work_meaning.specs.Calls.{argument_count}
use Rattle.strc_work_rules.specs.Resolution as judged
use Rattle.strc_work_rules.specs.Verdicts.{IsRefusal}
use Rattle.strc_parse_tree.proofs.Calls.{expr_view-Call}
use Rattle.strc_work_rules.proofs.Resolved.{arguments_counted, refusal_through, refusal_same}

-- the helper function that a call of so many arguments names
abbrev named : judged.Context → List ℕ → (count : ℕ) → Result HelperType LowerError
named context name count = judged.called_among name count context.helpers

counted : (context : judged.Context) (name : List ℕ) (items : List Expr)
    → named context name (length items) ≡ named context name (argument_count (listed_view items))
counted context name items = ap (named context name) (sym (arguments_counted items))

-- a call of these arguments
abbrev called_with : List ℕ → HelperType → tree.Arguments → Result judged.Called LowerError
called_with name kind arguments = Ok (record { kind = kind; call = tree.Call name arguments })

-- a call that names no helper function, or one that takes another number of arguments
pub call_unnamed : (context : judged.Context) (names : TypedNames) (name : List ℕ)
    (items : List Expr) (e : LowerError) → IsRefusal (named context name (length items)) e
    → IsRefusal (judged.call_resolved context names name (listed_view items)) e
call_unnamed context names name items e h =
    refusal_through (named context name (argument_count (listed_view items)))
    (λ kind. result_and_then (judged.arguments_resolved context names (listed_view items))
    (λ arguments'. called_with name kind arguments')) e
    (refusal_same _ _ e (counted context name items) h)

-- a call that names one, before its arguments
call_named : (context : judged.Context) (names : TypedNames) (name : List ℕ) (items : List Expr)
    (kind : HelperType) → named context name (length items) ≡ Ok kind
    → judged.call_resolved context names name (listed_view items)
    ≡ result_and_then (judged.arguments_resolved context names (listed_view items))
    (λ arguments'. called_with name kind arguments')
call_named context names name items kind h =
    ap (λ r. result_and_then r (λ kind'.
    result_and_then (judged.arguments_resolved context names (listed_view items))
    (λ arguments'. called_with name kind' arguments'))) (sym (counted context name items) ∙ h)

pub call_refused : (context : judged.Context) (names : TypedNames) (name : List ℕ)
    (items : List Expr) (kind : HelperType) (e : LowerError)
    → named context name (length items) ≡ Ok kind
    → IsRefusal (judged.arguments_resolved context names (listed_view items)) e
    → IsRefusal (judged.call_resolved context names name (listed_view items)) e
call_refused context names name items kind e h refused =
    refusal_same _ _ e (sym (call_named context names name items kind h))
    (refusal_through (judged.arguments_resolved context names (listed_view items))
    (λ arguments'. called_with name kind arguments') e refused)

pub call_accepted : (context : judged.Context) (names : TypedNames) (name : List ℕ)
    (items : List Expr) (kind : HelperType) (name' : Name) (arguments : Vec Expr Global)
    → named context name (length items) ≡ Ok kind
    → judged.arguments_resolved context names (listed_view items)
    ≡ Ok (listed_view arguments.items) → name' ≡ name
    → judged.call_resolved context names name (listed_view items)
    ≡ Ok (record { kind = kind; call = expr_view (Call name' arguments) })
call_accepted context names name items kind name' arguments h given same =
    call_named context names name items kind h
    ∙ ap (λ r. result_and_then r (λ arguments'. called_with name kind arguments')) given
    ∙ ap (λ n. called_with n kind (listed_view arguments.items)) (sym same)
    ∙ ap (λ c. Ok (record { kind = kind; call = c })) (sym (expr_view-Call name' arguments))

-- an expression that is a call
pub of_call : {A : Type 0} (judge : tree.Expr → A) (value : Expr) (name : Name)
    (arguments : Vec Expr Global) (items : List Expr) → items ≡ arguments.items
    → value ≡ Call name arguments
    → judge (tree.Call name (listed_view items)) ≡ judge (expr_view value)
of_call judge value name arguments items same is =
    ap (λ l. judge (tree.Call name (listed_view l))) same
    ∙ ap judge (sym (expr_view-Call name arguments))
    ∙ ap (λ e. judge (expr_view e)) (sym is)
