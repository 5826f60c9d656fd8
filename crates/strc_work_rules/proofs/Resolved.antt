-- The judgement of a block or of members, from what is judged so far and what is left.
use Rattle.std.proofs.Common.{◌≡◌, ℕ, List, [], ◌∷◌, ◌++◌, map, Result, Ok, Err, refl, sym, ap}
use Rattle.std.proofs.Common.{◌∙◌, ◌⊎◌, inl, inr, subst, suc, length, drop, get_or, ◌<◌, ◌+◌}
use Rattle.std.proofs.Common.{add-one}
use Rattle.std.proofs.Math.Seq.{drop-cons}
use Rattle.strc_work_meaning.specs.declared.types.ValueType.TheVariants.{Int}
use Rattle.strc_work_meaning.specs.Calls.{argument_count}
use Rattle.std.proofs.lemmas.List.{append_assoc}
use Rattle.strc_lex_names.specs.Results.{result_and_then}
use Rattle.strc_parse_tree.specs.Tree as tree
use Rattle.strc_parse_tree.specs.View.{expr_view, listed_view, stmt_view, block_view}
use Rattle.strc_parse_tree.specs.declared.tree.Expr.{Expr}
use Rattle.strc_parse_tree.specs.declared.tree.Stmt.{Stmt}
use Rattle.strc_work_rules.specs.declared.error.LowerError.{LowerError}
use Rattle.strc_work_rules.specs.declared.error.LowerErrorKind.TheVariants as refused
use Rattle.strc_work_rules.specs.Resolution as judged
use Rattle.strc_work_meaning.specs.Typing.{TypedNames, names_after}
use Rattle.strc_work_rules.specs.Verdicts.{IsRefusal, IsVerdict}

-- the statements of a list before others
abbrev pub block_onto : List Stmt → tree.Stmts → tree.Stmts
block_onto [] rest = rest
block_onto (first ∷ others) rest = tree.Then (stmt_view first) (block_onto others rest)

pub block_onto-Done : (statements : List Stmt)
    → block_onto statements tree.Done ≡ block_view statements
block_onto-Done [] = refl
block_onto-Done (first ∷ rest) = ap (tree.Then (stmt_view first)) (block_onto-Done rest)

pub block_onto-push : (statements : List Stmt) (last : Stmt) (rest : tree.Stmts)
    → block_onto (statements ++ last ∷ []) rest
    ≡ block_onto statements (tree.Then (stmt_view last) rest)
block_onto-push [] last rest = refl
block_onto-push (first ∷ others) last rest =
    ap (tree.Then (stmt_view first)) (block_onto-push others last rest)

-- what is left of a judgement, after what is judged already
abbrev pub block_after : List Stmt → Result tree.Stmts LowerError → Result tree.Stmts LowerError
block_after resolved left = result_and_then left (λ rest. Ok (block_onto resolved rest))

pub block_after_none : (left : Result tree.Stmts LowerError) → block_after [] left ≡ left
block_after_none (Ok rest) = refl
block_after_none (Err refusal) = refl

-- one more statement is judged
pub block_after_more : (resolved : List Stmt) (last : Stmt) (left : Result tree.Stmts LowerError)
    → block_after (resolved ++ last ∷ []) left
    ≡ block_after resolved (result_and_then left (λ rest. Ok (tree.Then (stmt_view last) rest)))
block_after_more resolved last (Ok rest) = ap Ok (block_onto-push resolved last rest)
block_after_more resolved last (Err refusal) = refl

-- the arguments of a list before others
abbrev pub arguments_onto : List Expr → tree.Arguments → tree.Arguments
arguments_onto [] rest = rest
arguments_onto (first ∷ others) rest = tree.Argument (expr_view first) (arguments_onto others rest)

pub arguments_onto-none : (arguments : List Expr)
    → arguments_onto arguments tree.NoArgument ≡ listed_view arguments
arguments_onto-none [] = refl
arguments_onto-none (first ∷ rest) =
    ap (tree.Argument (expr_view first)) (arguments_onto-none rest)

arguments_onto-push : (arguments : List Expr) (last : Expr) (rest : tree.Arguments)
    → arguments_onto (arguments ++ last ∷ []) rest
    ≡ arguments_onto arguments (tree.Argument (expr_view last) rest)
arguments_onto-push [] last rest = refl
arguments_onto-push (first ∷ others) last rest =
    ap (tree.Argument (expr_view first)) (arguments_onto-push others last rest)

-- what is left of a judgement of arguments, after those that are judged already
abbrev pub arguments_after : List Expr → Result tree.Arguments LowerError
    → Result tree.Arguments LowerError
arguments_after resolved left = result_and_then left (λ rest. Ok (arguments_onto resolved rest))

pub arguments_after_none : (left : Result tree.Arguments LowerError)
    → arguments_after [] left ≡ left
arguments_after_none (Ok rest) = refl
arguments_after_none (Err refusal) = refl

arguments_after_more : (resolved : List Expr) (last : Expr)
    (left : Result tree.Arguments LowerError) → arguments_after (resolved ++ last ∷ []) left
    ≡ arguments_after resolved (result_and_then left
    (λ rest. Ok (tree.Argument (expr_view last) rest)))
arguments_after_more resolved last (Ok rest) = ap Ok (arguments_onto-push resolved last rest)
arguments_after_more resolved last (Err refusal) = refl

-- how many arguments a list has
pub arguments_counted : (arguments : List Expr)
    → argument_count (listed_view arguments) ≡ length arguments
arguments_counted [] = refl
arguments_counted (first ∷ rest) = ap suc (arguments_counted rest)

-- a refusal passes through
pub refusal_through : {A B : Type 0} (first : Result A LowerError) (go : A → Result B LowerError)
    (e : LowerError) → IsRefusal first e → IsRefusal (result_and_then first go) e
refusal_through first go (refused.UnknownName name) h = ap (λ r. result_and_then r go) h
refusal_through first go refused.TypeMismatch h = ap (λ r. result_and_then r go) h
refusal_through first go (refused.ConstFault cause) h = ap (λ r. result_and_then r go) h
refusal_through first go refused.BadArguments h = ap (λ r. result_and_then r go) h
refusal_through first go refused.NoMemory h = h

-- a refusal of an equal judgement
pub refusal_same : {A : Type 0} (first second : Result A LowerError) (e : LowerError)
    → first ≡ second → IsRefusal first e → IsRefusal second e
refusal_same first second (refused.UnknownName name) same h = sym same ∙ h
refusal_same first second refused.TypeMismatch same h = sym same ∙ h
refusal_same first second (refused.ConstFault cause) same h = sym same ∙ h
refusal_same first second refused.BadArguments same h = sym same ∙ h
refusal_same first second refused.NoMemory same h = h

-- the refusal of what was to come next
pub next_refused : {X A : Type 0} (view : X → A) (expected : Result A LowerError)
    (next : Result X LowerError) (e : LowerError) → IsVerdict view expected next
    → (e ≡ refused.NoMemory) ⊎ (next ≡ Err e) → IsRefusal expected e
next_refused view expected next e verdict h = elim h [
  | inl full ↦ subst (IsRefusal expected) (sym full) tt
  | inr is ↦ subst (IsVerdict view expected) is verdict
]

-- the judgement of a list, after what is judged already
abbrev pub list_after : {X A : Type 0} → (X → A) → List X → Result (List A) LowerError
    → Result (List A) LowerError
list_after view resolved left = result_and_then left (λ rest. Ok (map view resolved ++ rest))

pub list_after_none : {X A : Type 0} (view : X → A) (left : Result (List A) LowerError)
    → list_after view [] left ≡ left
list_after_none view (Ok rest) = refl
list_after_none view (Err refusal) = refl

map-push : {X A : Type 0} (view : X → A) (xs : List X) (last : X) (rest : List A)
    → map view (xs ++ last ∷ []) ++ rest ≡ map view xs ++ view last ∷ rest
map-push view [] last rest = refl
map-push view (first ∷ others) last rest = ap (λ l. view first ∷ l) (map-push view others last rest)

pub list_after_more : {X A : Type 0} (view : X → A) (resolved : List X) (last : X)
    (left : Result (List A) LowerError) → list_after view (resolved ++ last ∷ []) left
    ≡ list_after view resolved (result_and_then left (λ rest. Ok (view last ∷ rest)))
list_after_more view resolved last (Ok rest) = ap Ok (map-push view resolved last rest)
list_after_more view resolved last (Err refusal) = refl

-- the judgement of one more item, before those that are left
pub list_after_step : {X A : Type 0} (view : X → A) (resolved : List X) (y : X)
    (first : Result A LowerError) (left : Result (List A) LowerError) → first ≡ Ok (view y)
    → list_after view (resolved ++ y ∷ []) left
    ≡ list_after view resolved (result_and_then first
    (λ first'. result_and_then left (λ rest'. Ok (first' ∷ rest'))))
list_after_step view resolved y first left h =
    list_after_more view resolved y left
    ∙ ap (λ r. list_after view resolved (result_and_then r
    (λ first'. result_and_then left (λ rest'. Ok (first' ∷ rest'))))) (sym h)

-- the refusal of an item is that of its list
pub list_refused : {X A : Type 0} (view : X → A) (resolved : List X) (first : Result A LowerError)
    (left : Result (List A) LowerError) (e : LowerError) → IsRefusal first e
    → IsRefusal (list_after view resolved (result_and_then first
    (λ first'. result_and_then left (λ rest'. Ok (first' ∷ rest'))))) e
list_refused view resolved first left e h =
    refusal_through
    (result_and_then first (λ first'. result_and_then left (λ rest'. Ok (first' ∷ rest'))))
    (λ rest'. Ok (map view resolved ++ rest')) e
    (refusal_through first (λ first'. result_and_then left (λ rest'. Ok (first' ∷ rest'))) e h)

-- the judgement of one more statement
pub block_after_step : (context : judged.Context) (names names' : TypedNames) (outer : ℕ)
    (resolved : List Stmt) (x : tree.Stmt) (y : Stmt) (rest : tree.Stmts)
    → judged.stmt_resolved context names outer x ≡ Ok (stmt_view y) → names' ≡ names_after names x
    → block_after (resolved ++ y ∷ []) (judged.stmts_resolved context names' outer rest)
    ≡ block_after resolved (judged.stmts_resolved context names outer (tree.Then x rest))
block_after_step context names names' outer resolved x y rest h scope =
    let left = judged.stmts_resolved context (names_after names x) outer rest in
    let go : tree.Stmt → Result tree.Stmts LowerError =
    λ first'. result_and_then left (λ rest'. Ok (tree.Then first' rest')) in
    ap (λ n. block_after (resolved ++ y ∷ []) (judged.stmts_resolved context n outer rest)) scope
    ∙ block_after_more resolved y left
    ∙ ap (λ r. block_after resolved (result_and_then r go)) (sym h)

-- the refusal of a statement is that of its block
pub block_refused : (context : judged.Context) (names : TypedNames) (outer : ℕ)
    (resolved : List Stmt) (x : tree.Stmt) (rest : tree.Stmts) (e : LowerError)
    → IsRefusal (judged.stmt_resolved context names outer x) e
    → IsRefusal (block_after resolved (judged.stmts_resolved context names outer
    (tree.Then x rest))) e
block_refused context names outer resolved x rest e h =
    refusal_through (judged.stmts_resolved context names outer (tree.Then x rest))
    (λ rest'. Ok (block_onto resolved rest')) e
    (refusal_through (judged.stmt_resolved context names outer x)
    (λ first'. result_and_then (judged.stmts_resolved context (names_after names x) outer rest)
    (λ rest'. Ok (tree.Then first' rest'))) e h)

-- the judgement of one more argument
pub arguments_after_step : (context : judged.Context) (names : TypedNames) (resolved : List Expr)
    (x : tree.Expr) (y : Expr) (rest : tree.Arguments)
    → judged.expr_as context names Int x ≡ Ok (expr_view y)
    → arguments_after (resolved ++ y ∷ []) (judged.arguments_resolved context names rest)
    ≡ arguments_after resolved (judged.arguments_resolved context names (tree.Argument x rest))
arguments_after_step context names resolved x y rest h =
    let left = judged.arguments_resolved context names rest in
    let go : tree.Expr → Result tree.Arguments LowerError =
    λ first'. result_and_then left (λ rest'. Ok (tree.Argument first' rest')) in
    arguments_after_more resolved y left
    ∙ ap (λ r. arguments_after resolved (result_and_then r go)) (sym h)

-- the refusal of an argument is that of the arguments
pub arguments_refused : (context : judged.Context) (names : TypedNames) (resolved : List Expr)
    (x : tree.Expr) (rest : tree.Arguments) (e : LowerError)
    → IsRefusal (judged.expr_as context names Int x) e
    → IsRefusal (arguments_after resolved (judged.arguments_resolved context names
    (tree.Argument x rest))) e
arguments_refused context names resolved x rest e h =
    refusal_through (judged.arguments_resolved context names (tree.Argument x rest))
    (λ rest'. Ok (arguments_onto resolved rest')) e
    (refusal_through (judged.expr_as context names Int x)
    (λ first'. result_and_then (judged.arguments_resolved context names rest)
    (λ rest'. Ok (tree.Argument first' rest'))) e h)

-- what is left of a judgement of names, after those that are judged already
abbrev pub plain_after : {A : Type 0} → List A → Result (List A) LowerError
    → Result (List A) LowerError
plain_after resolved left = result_and_then left (λ rest. Ok (resolved ++ rest))

pub plain_after_none : {A : Type 0} (left : Result (List A) LowerError)
    → plain_after [] left ≡ left
plain_after_none (Ok rest) = refl
plain_after_none (Err refusal) = refl

pub plain_after_step : {A : Type 0} (resolved : List A) (y : A) (first : Result A LowerError)
    (left : Result (List A) LowerError) → first ≡ Ok y
    → plain_after (resolved ++ y ∷ []) left ≡ plain_after resolved (result_and_then first
    (λ first'. result_and_then left (λ rest'. Ok (first' ∷ rest'))))
plain_after_step {A} resolved y first left h = more left
    ∙ ap (λ r. plain_after resolved (result_and_then r
    (λ first'. result_and_then left (λ rest'. Ok (first' ∷ rest'))))) (sym h)
  where
    more : (left : Result (List A) LowerError) → plain_after (resolved ++ y ∷ []) left
        ≡ plain_after resolved (result_and_then left (λ rest'. Ok (y ∷ rest')))
    more (Ok rest) = ap Ok (append_assoc resolved (y ∷ []) rest)
    more (Err refusal) = refl

pub plain_refused : {A : Type 0} (resolved : List A) (first : Result A LowerError)
    (left : Result (List A) LowerError) (e : LowerError) → IsRefusal first e
    → IsRefusal (plain_after resolved (result_and_then first
    (λ first'. result_and_then left (λ rest'. Ok (first' ∷ rest'))))) e
plain_refused resolved first left e h =
    refusal_through
    (result_and_then first (λ first'. result_and_then left (λ rest'. Ok (first' ∷ rest'))))
    (λ rest'. Ok (resolved ++ rest')) e
    (refusal_through first (λ first'. result_and_then left (λ rest'. Ok (first' ∷ rest'))) e h)

-- the first of the names that are left, and the others
pub names_left : {A : Type 0} (items : List A) (i : ℕ) (x : A) → i < length items
    → x ≡ get_or items i x → drop i items ≡ x ∷ drop (i + 1) items
names_left items i x lt at =
    let e : drop (suc i) items ≡ drop (i + 1) items = rw add-one refl in
    drop-cons items i x lt ∙ ap (λ y. y ∷ drop (suc i) items) (sym at) ∙ ap (λ l. x ∷ l) e
