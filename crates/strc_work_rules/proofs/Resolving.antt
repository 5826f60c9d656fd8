-- The filters that the judgement accepts are closed.
use Rattle.std.proofs.Common.{◌≡◌, ℕ, Bool, true, false, ◌||◌, not, ℤ, List, [], ◌∷◌, ◌++◌, length}
use Rattle.std.proofs.Common.{reverse, Result, Ok, Err, refl, sym, ap, ◌∙◌, subst}
use Rattle.std.specs.Prelude.{bytes_eq}
use Rattle.std.proofs.lemmas.List.{append-nil, append_assoc, reverse-append}
use Rattle.strc_lex_names.specs.Results.{result_and_then}
use Rattle.strc_parse_tree.specs.Tree as tree
use Rattle.strc_parse_tree.specs.declared.tree.ItemType.{ItemType}
use Rattle.strc_work_rules.specs.declared.error.LowerError.{LowerError}
use Rattle.strc_work_meaning.specs.declared.types.ValueType.{ValueType}
use Rattle.strc_lex_names.specs.Names.{has_name, plain_names}
use Rattle.strc_work_meaning.specs.Filters.{Filter, declared_names, field_names, sized_all}
use Rattle.strc_work_meaning.specs.Filters.{sized_fields}
use Rattle.strc_work_meaning.specs.Scoping as plain
use Rattle.strc_work_meaning.specs.Scoping.{Scope, cells_of, answer_name, helper_scope}
use Rattle.strc_work_meaning.specs.Returns.{names_shadow}
use Rattle.strc_parse_tree.specs.declared.tree.HelperType.{HelperType}
use Rattle.strc_work_meaning.specs.declared.types.ValueType.TheVariants.{Int}
use Rattle.strc_work_meaning.specs.Typing as typing
use Rattle.strc_work_meaning.specs.Typing.{TypedNames, type_of, names_with, names_after_fields}
use Rattle.strc_work_rules.specs.Resolution.{Context, Work, type_resolved, initial_resolved}
use Rattle.strc_work_rules.specs.Resolution.{start_context, helper_context, body_context}
use Rattle.strc_work_rules.specs.Resolution.{rates_resolved, field_resolved, parameter_resolved}
use Rattle.strc_work_rules.specs.Resolution.{is_taken, is_field_taken}
use Rattle.strc_work_rules.specs.Resolution.{parameters_resolved, helper_resolved, known_after}
use Rattle.strc_work_rules.specs.Signatures.{Signatures, signatures_after, with_parameters}
use Rattle.strc_work_rules.specs.Resolution.{fields_resolved, fields_after, body_resolved}
use Rattle.strc_work_rules.specs.Resolution.{work_resolved}
use Rattle.strc_work_rules.specs.Resolution.{member_resolved, members_resolved, has_parts}
use Rattle.strc_work_rules.specs.Resolution.{filter_resolved}
use Rattle.strc_work_meaning.specs.Closed.{IsNamed, AreClosedFields, AreClosed, IsClosedMember}
use Rattle.strc_work_meaning.specs.Closed.{AreClosedMembers, IsClosedFilter, IsClosedBody}
use Rattle.strc_lex_names.proofs.Scopes.{bytes_eq_same}
use Rattle.strc_work_rules.proofs.ResolvingExpressions.{Gives, then_gives, any_gives, kept_gives}
use Rattle.strc_work_rules.proofs.ResolvingExpressions.{Sees}
use Rattle.strc_work_rules.proofs.ResolvingExpressions.{NoneAnswers, neither}
use Rattle.strc_work_rules.proofs.ResolvingExpressions.{named_in, plain_declared, names_more}
use Rattle.strc_work_rules.proofs.ResolvingExpressions.{sees_more}
use Rattle.strc_work_rules.proofs.ResolvingStatements.{FitsType, FitsDeclared, type_gives}
use Rattle.strc_work_rules.proofs.ResolvingStatements.{IsLikeVariable, initial_like, stmts_gives}
use Rattle.strc_work_rules.proofs.ResolvingStatements.{AreLike, kept_known, not_first, not_answer}
use Rattle.strc_work_rules.proofs.Unanswered.{both_give}
use Rattle.strc_work_rules.proofs.StillResolved.{AreStill, stmts_still}

-- the names of fields are among these
abbrev AreNamedFields : List (List ℕ) → List tree.Variable → Type 0
AreNamedFields fields [] = Unit {0}
AreNamedFields fields (first ∷ rest) = (has_name fields first.name ≡ true) × AreNamedFields fields
    rest

abbrev IsNamedMember : List (List ℕ) → tree.Member → Type 0
IsNamedMember fields (tree.Fields kind variables) = AreNamedFields fields variables
IsNamedMember fields (tree.Init block) = Unit {0}
IsNamedMember fields (tree.Prework rates block) = Unit {0}
IsNamedMember fields (tree.Work rates block) = Unit {0}
IsNamedMember fields (tree.Helper kind name parameters block) = Unit {0}

abbrev AreNamedMembers : List (List ℕ) → List tree.Member → Type 0
AreNamedMembers fields [] = Unit {0}
AreNamedMembers fields (first ∷ rest) = IsNamedMember fields first × AreNamedMembers fields rest

field_gives : (context : Context) (scope : Scope) (fields : TypedNames) (before : List (List ℕ))
    (kind : ValueType) (cells : ℕ) (variable : tree.Variable) → Sees context scope fields
    → FitsType kind
    cells → Gives (IsLikeVariable scope cells variable)
    (field_resolved context fields before kind variable)
field_gives context scope fields before kind cells variable sees fits =
    kept_gives (IsLikeVariable scope cells variable) (not (is_field_taken before variable.name))
    (result_and_then (initial_resolved context fields kind variable.initial)
    (λ i. Ok (record { name = variable.name; initial = i })))
    (initial_like context scope fields kind cells variable sees fits)

fields_give : (context : Context) (scope : Scope) (fields : TypedNames) (before : List (List ℕ))
    (kind : ValueType) (cells : ℕ) (variables : List tree.Variable) → Sees context scope fields
    → FitsType
    kind cells → AreNamedFields (plain_names fields) variables → Gives
    (AreClosedFields scope cells) (fields_resolved context fields before kind variables)
fields_give context scope fields before kind cells [] sees fits named = tt
fields_give context scope fields before kind cells (first ∷ rest) sees fits named =
    then_gives (IsLikeVariable scope cells first) (AreClosedFields scope cells)
    (field_resolved context fields before kind first)
    (λ f. result_and_then (fields_resolved context fields (first.name ∷ before) kind rest)
    (λ r. Ok (f ∷ r))) (field_gives context scope fields before kind cells first sees
    fits) (λ f h.
    then_gives (AreClosedFields scope cells) (AreClosedFields scope cells)
    (fields_resolved context fields (first.name ∷ before) kind rest) (λ r. Ok (f ∷ r))
    (fields_give context scope fields (first.name ∷ before) kind cells rest sees fits
    named.1) (λ r h'. (
      record {
        0 = subst (IsNamed scope) (sym h.2)
            (sees.0 first.name named.0);
        1 = h.0;
        2 = h.1;
      },
      h',
    )))

-- a scope of the same names
abbrev pub SameNames : Scope → TypedNames → Type 0
SameNames scope names = plain_names scope ≡ plain_names names

-- the names are seen in it
seen_in : (scope : Scope) (names : TypedNames) → SameNames scope names → (name : List ℕ)
    → has_name (plain_names names) name ≡ true → IsNamed scope name
seen_in scope names same name there = named_in scope (plain_names names) name same there

work_gives : (constants : List (List ℕ × ℤ)) (helpers : Signatures) (input output : ItemType)
    (scope : Scope) (fields : TypedNames) (work : Work) → SameNames scope fields
    → NoneAnswers fields → Gives (λ (work' : Work). IsClosedBody scope work'.block)
    (work_resolved constants helpers input output fields work)
work_gives constants helpers input output scope fields work same none =
    let context = body_context constants helpers input output in
    let closed : Work → Type 0 = λ work'. IsClosedBody scope work'.block in
    any_gives closed (rates_resolved constants fields input output work.rates)
    (λ r. result_and_then (body_resolved context fields work.block)
    (λ b. Ok (record { rates = r; block = b }))) (λ r.
    then_gives (AreLike context scope) closed (body_resolved context fields work.block)
    (λ b. Ok (record { rates = r; block = b }))
    (stmts_gives context scope fields (length fields) work.block
    (seen_in scope fields same, tt, none))
    (λ b h. record { 0 = h.0; 1 = h.1.0 refl; 2 = h.1.2 }))

not_other : (a b : Bool) → (a || b) ≡ false → a ≡ false
not_other true b e = e
not_other false b e = refl

not_second : (a b : Bool) → (a || b) ≡ false → b ≡ false
not_second true b e = absurd (cc)
not_second false b e = e

-- parameters are seen inside the names around them, where none of them has the answer's name
sees_parameters : (context : Context) (scope : Scope) (names : TypedNames)
    (parameters : List (List ℕ)) → names_shadow parameters ≡ false → Sees context scope names
    → Sees context (plain.with_parameters scope parameters) (with_parameters names parameters)
sees_parameters context scope names [] none sees = sees
sees_parameters context scope names (first ∷ rest) none sees =
    sees_parameters context (record { 0 = first; 1 = 1 } ∷ scope)
    (record { 0 = first; 1 = Int } ∷ names) rest
    (not_second (bytes_eq first answer_name) (names_shadow rest) none)
    (sees_more context scope names first first 1 Int refl
    (not_other (bytes_eq first answer_name) (names_shadow rest) none) sees)

-- in a helper function's block its parameters and the fields are seen, and its answer
sees_helper : (constants : List (List ℕ × ℤ)) (helpers : Signatures) (kind : HelperType)
    (scope : Scope) (fields : TypedNames) (parameters : List (List ℕ)) → SameNames scope fields
    → NoneAnswers fields → names_shadow parameters ≡ false
    → Sees (helper_context constants helpers kind) (helper_scope scope parameters)
    (with_parameters fields parameters)
sees_helper constants helpers kind scope fields parameters same none shadowed =
    sees_parameters (helper_context constants helpers kind)
    (record { 0 = answer_name; 1 = 2 } ∷ scope) fields parameters shadowed (
      names_more scope answer_name 2 (plain_names fields) (seen_in scope fields same),
      refl,
      none,
    )

-- parameters are accepted as they are, where none of them has the name of the answer
abbrev AreParameters : List (List ℕ) → List (List ℕ) → Type 0
AreParameters parameters given = (given ≡ parameters) × (names_shadow given ≡ false)

parameters_give : (names : TypedNames) (outer : ℕ) (parameters : List (List ℕ))
    → Gives (AreParameters parameters) (parameters_resolved names outer parameters)
parameters_give names outer [] = (refl, refl)
parameters_give names outer (first ∷ rest) =
    let one : List ℕ → Type 0 = λ name. (name ≡ first) × (bytes_eq name answer_name ≡ false) in
    then_gives one (AreParameters (first ∷ rest)) (parameter_resolved names outer first)
    (λ f. result_and_then (parameters_resolved (record { 0 = first; 1 = Int } ∷ names) outer rest)
    (λ r. Ok (f ∷ r)))
    (kept_known one (not (is_taken names outer first)) (Ok first)
    (λ free. (refl, not_answer names outer first first refl free))) (λ f h.
    then_gives (AreParameters rest) (AreParameters (first ∷ rest))
    (parameters_resolved (record { 0 = first; 1 = Int } ∷ names) outer rest)
    (λ r. Ok (f ∷ r))
    (parameters_give (record { 0 = first; 1 = Int } ∷ names) outer rest) (λ r h'. (
      ap (λ n. n ∷ r) h.0 ∙ ap (λ l. first ∷ l) h'.0,
      neither (bytes_eq f answer_name) (names_shadow r) h.1 h'.1,
    )))

helper_gives : (constants : List (List ℕ × ℤ)) (helpers : Signatures) (scope : Scope)
    (fields : TypedNames) (known : List (List ℕ)) (kind : HelperType) (name : List ℕ)
    (parameters : List (List ℕ)) (block : tree.Stmts) → SameNames scope fields
    → NoneAnswers fields → Gives (IsClosedMember scope)
    (helper_resolved constants helpers fields known kind name parameters block)
helper_gives constants helpers scope fields known kind name parameters block same none =
    let context = helper_context constants helpers kind in
    let names = with_parameters fields parameters in
    let inner = helper_scope scope parameters in
    let closed = IsClosedMember scope in
    let resolved = body_resolved context names block in
    let given = parameters_resolved fields (length fields) parameters in
    kept_gives closed (not (has_name known name))
    (result_and_then given (λ p. result_and_then resolved
    (λ b. Ok (tree.Helper kind name p b))))
    (then_gives (AreParameters parameters) closed given
    (λ p. result_and_then resolved (λ b. Ok (tree.Helper kind name p b)))
    (parameters_give fields (length fields) parameters) (λ p e.
    then_gives (λ (b : tree.Stmts). AreLike context inner b × AreStill b) closed resolved
    (λ b. Ok (tree.Helper kind name p b))
    (both_give (AreLike context inner) AreStill resolved
    (stmts_gives context inner names (length names) block
    (sees_helper constants helpers kind scope fields parameters same none
    (ap names_shadow (sym e.0) ∙ e.1)))
    (stmts_still context refl refl names (length names) block))
    (λ b h. record {
      0 = subst (λ l. AreClosed (helper_scope scope l) b) (sym e.0) h.0.0;
      1 = h.0.1.1 refl;
      2 = e.1;
      3 = h.0.1.2;
      4 = h.0.1.3;
      5 = h.1;
    })))

member_gives : (constants : List (List ℕ × ℤ)) (helpers : Signatures) (input output : ItemType)
    (scope : Scope) (fields : TypedNames) (before known : List (List ℕ)) (m : tree.Member)
    → SameNames scope fields → NoneAnswers fields → IsNamedMember (plain_names fields) m
    → Gives (IsClosedMember scope)
    (member_resolved constants helpers input output fields before known m)
member_gives constants helpers input output scope fields before known
    (tree.Fields kind variables) same none named =
    let context = start_context constants helpers in
    let closed = IsClosedMember scope in
    then_gives (FitsDeclared kind) closed (type_resolved constants fields kind)
    (λ t. result_and_then (fields_resolved context fields before t.kind variables)
    (λ v. Ok (tree.Fields t.written v))) (type_gives constants fields kind) (λ t fits.
    then_gives (AreClosedFields scope (cells_of t.written)) closed
    (fields_resolved context fields before t.kind variables)
    (λ v. Ok (tree.Fields t.written v))
    (fields_give context scope fields before t.kind (cells_of t.written) variables
    (seen_in scope fields same, tt, none) fits.0 named) (λ v h. h))
member_gives constants helpers input output scope fields before known (tree.Init block) same
    none named =
    let context = start_context constants helpers in
    then_gives (AreLike context scope) (IsClosedMember scope) (body_resolved context fields block)
    (λ b. Ok (tree.Init b))
    (stmts_gives context scope fields (length fields) block
    (seen_in scope fields same, tt, none))
    (λ b h. record { 0 = h.0; 1 = h.1.0 refl; 2 = h.1.2 })
member_gives constants helpers input output scope fields before known
    (tree.Prework rates block) same none named =
    let work : Work = record { rates = rates; block = block } in
    then_gives (λ (work' : Work). IsClosedBody scope work'.block) (IsClosedMember scope)
    (work_resolved constants helpers input output fields work)
    (λ w. Ok (tree.Prework w.rates w.block))
    (work_gives constants helpers input output scope fields work same none) (λ w h. h)
member_gives constants helpers input output scope fields before known (tree.Work rates block) same
    none named =
    let work : Work = record { rates = rates; block = block } in
    then_gives (λ (work' : Work). IsClosedBody scope work'.block) (IsClosedMember scope)
    (work_resolved constants helpers input output fields work)
    (λ w. Ok (tree.Work w.rates w.block))
    (work_gives constants helpers input output scope fields work same none) (λ w h. h)
member_gives constants helpers input output scope fields before known
    (tree.Helper kind name parameters block) same none named =
    helper_gives constants helpers scope fields known kind name parameters block same none

members_give : (constants : List (List ℕ × ℤ)) (helpers : Signatures) (input output : ItemType)
    (scope : Scope)
    (fields : TypedNames) (before known : List (List ℕ)) (ms : List tree.Member)
    → SameNames scope fields → NoneAnswers fields
    → AreNamedMembers (plain_names fields) ms → Gives (AreClosedMembers scope)
    (members_resolved constants helpers input output fields before known ms)
members_give constants helpers input output scope fields before known [] same none named =
    tt
members_give constants helpers input output scope fields before known (first ∷ rest) same none
    named =
    let closed = AreClosedMembers scope in
    then_gives (IsClosedMember scope) closed
    (member_resolved constants helpers input output fields before known first)
    (λ f. result_and_then
    (members_resolved constants helpers input output fields (fields_after before first)
    (known_after known first) rest)
    (λ r. Ok (f ∷ r))) (member_gives constants helpers input output scope fields before known
    first same none named.0) (λ f h.
    then_gives closed closed
    (members_resolved constants helpers input output fields (fields_after before first)
    (known_after known first) rest)
    (λ r. Ok (f ∷ r)) (members_give constants helpers input output scope fields
    (fields_after before first) (known_after known first) rest same none named.1)
    (λ r h'. (h, h')))

-- fields of the same names, none of which is the answer's
abbrev AreNamesakes : List tree.Variable → List tree.Variable → Type 0
AreNamesakes variables variables' = (declared_names variables' ≡ declared_names variables)
    × (has_name (declared_names variables) answer_name ≡ false)

abbrev IsNamesake : tree.Variable → tree.Variable → Type 0
IsNamesake variable variable' =
    (variable'.name ≡ variable.name) × (bytes_eq variable.name answer_name ≡ false)

namesake_gives : (context : Context) (fields : TypedNames) (before : List (List ℕ))
    (kind : ValueType) (variable : tree.Variable) → Gives (IsNamesake variable)
    (field_resolved context fields before kind variable)
namesake_gives context fields before kind variable =
    let initial = initial_resolved context fields kind variable.initial in
    kept_known (IsNamesake variable) (not (is_field_taken before variable.name))
    (result_and_then initial (λ i. Ok (record { name = variable.name; initial = i })))
    (λ free. any_gives (IsNamesake variable) initial
    (λ i. Ok (record { name = variable.name; initial = i }))
    (λ i. (
      refl,
      not_first (bytes_eq variable.name answer_name) (has_name before variable.name)
          free,
    )))

namesakes_give : (context : Context) (fields : TypedNames) (before : List (List ℕ))
    (kind : ValueType) (variables : List tree.Variable) → Gives (AreNamesakes variables)
    (fields_resolved context fields before kind variables)
namesakes_give context fields before kind [] = (refl, refl)
namesakes_give context fields before kind (first ∷ rest) =
    then_gives (IsNamesake first) (AreNamesakes (first ∷ rest))
    (field_resolved context fields before kind first)
    (λ f. result_and_then (fields_resolved context fields (first.name ∷ before) kind rest)
    (λ r. Ok (f ∷ r))) (namesake_gives context fields before kind first) (λ f h.
    then_gives (AreNamesakes rest) (AreNamesakes (first ∷ rest))
    (fields_resolved context fields (first.name ∷ before) kind rest) (λ r. Ok (f ∷ r))
    (namesakes_give context fields (first.name ∷ before) kind rest) (λ r h'. (
      ap (λ n. n ∷ declared_names r) h.0 ∙ ap (λ l. first.name ∷ l) h'.0,
      neither (bytes_eq first.name answer_name) (has_name (declared_names rest) answer_name)
          h.1 h'.1,
    )))

-- a name that is among neither of these names is among none of them, in either order
in_neither : (names others : List (List ℕ)) (name : List ℕ) → has_name names name ≡ false
    → has_name others name ≡ false → has_name (names ++ others) name ≡ false
in_neither [] others name e e' = e'
in_neither (first ∷ rest) others name e e' =
    neither (bytes_eq first name) (has_name (rest ++ others) name)
    (not_other (bytes_eq first name) (has_name rest name) e)
    (in_neither rest others name
    (not_second (bytes_eq first name) (has_name rest name) e) e')

in_turned : (names : List (List ℕ)) (name : List ℕ) → has_name names name ≡ false
    → has_name (reverse names) name ≡ false
in_turned [] name e = e
in_turned (first ∷ rest) name e =
    ap (λ l. has_name l name) (reverse-append (first ∷ []) rest)
    ∙ in_neither (reverse rest) (first ∷ []) name
    (in_turned rest name (not_second (bytes_eq first name) (has_name rest name) e))
    (neither (bytes_eq first name) false
    (not_other (bytes_eq first name) (has_name rest name) e) refl)

-- the names alone of fields with their cells
sized_names-all : (cells : ℕ) (variables : List tree.Variable) → plain_names
    (sized_all cells variables) ≡ declared_names variables
sized_names-all cells [] = refl
sized_names-all cells (first ∷ rest) = ap (λ l. first.name ∷ l) (sized_names-all cells rest)

sized_names-append : (a b : Scope) → plain_names (a ++ b) ≡ plain_names a ++ plain_names b
sized_names-append [] b = refl
sized_names-append (first ∷ rest) b = ap (λ l. first.0 ∷ l) (sized_names-append rest b)

sized_names-reverse : (scope : Scope) → plain_names (reverse scope) ≡ reverse (plain_names scope)
sized_names-reverse [] = refl
sized_names-reverse (first ∷ rest) =
    ap plain_names (reverse-append (first ∷ []) rest)
    ∙ sized_names-append (reverse rest) (first ∷ [])
    ∙ ap (λ l. l ++ first.0 ∷ []) (sized_names-reverse rest)
    ∙ sym (reverse-append (first.0 ∷ []) (plain_names rest))

-- members whose fields have the names of other ones', none of which is the answer's
abbrev pub HaveFields : List tree.Member → List tree.Member → Type 0
HaveFields ms ms' = (plain_names (sized_fields ms') ≡ field_names ms)
    × (has_name (field_names ms) answer_name ≡ false)

abbrev HasFields : tree.Member → tree.Member → Type 0
HasFields m m' = (rest rest' : List tree.Member) → HaveFields rest rest' → HaveFields (m ∷ rest)
    (m' ∷ rest')

member_fields : (constants : List (List ℕ × ℤ)) (helpers : Signatures) (input output : ItemType)
    (fields : TypedNames)
    (before known : List (List ℕ)) (m : tree.Member) → Gives (HasFields m)
    (member_resolved constants helpers input output fields before known m)
member_fields constants helpers input output fields before known (tree.Fields kind variables) =
    let context = start_context constants helpers in
    let has = HasFields (tree.Fields kind variables) in
    any_gives has (type_resolved constants fields kind)
    (λ t. result_and_then (fields_resolved context fields before t.kind variables)
    (λ v. Ok (tree.Fields t.written v))) (λ t.
    then_gives (AreNamesakes variables) has
    (fields_resolved context fields before t.kind variables)
    (λ v. Ok (tree.Fields t.written v))
    (namesakes_give context fields before t.kind variables) (λ v h rest rest' same. (
      sized_names-append (sized_all (cells_of t.written) v) (sized_fields rest')
          ∙ ap (λ l. l ++ plain_names (sized_fields rest'))
          (sized_names-all (cells_of t.written) v ∙ h.0)
          ∙ ap (λ l. declared_names variables ++ l) same.0,
      in_neither (declared_names variables) (field_names rest) answer_name h.1 same.1,
    )))
member_fields constants helpers input output fields before known (tree.Init block) =
    any_gives (HasFields (tree.Init block))
    (body_resolved (start_context constants helpers) fields block)
    (λ b. Ok (tree.Init b)) (λ b rest rest' same. same)
member_fields constants helpers input output fields before known (tree.Prework rates block) =
    any_gives (HasFields (tree.Prework rates block))
    (work_resolved constants helpers input output fields (record { rates = rates; block = block }))
    (λ w. Ok (tree.Prework w.rates w.block)) (λ w rest rest' same. same)
member_fields constants helpers input output fields before known (tree.Work rates block) =
    any_gives (HasFields (tree.Work rates block))
    (work_resolved constants helpers input output fields (record { rates = rates; block = block }))
    (λ w. Ok (tree.Work w.rates w.block)) (λ w rest rest' same. same)
member_fields constants helpers input output fields before known
    (tree.Helper kind name parameters block) =
    let has = HasFields (tree.Helper kind name parameters block) in
    let resolved = body_resolved (helper_context constants helpers kind)
    (with_parameters fields parameters) block in
    let given = parameters_resolved fields (length fields) parameters in
    kept_gives has (not (has_name known name))
    (result_and_then given (λ p. result_and_then resolved
    (λ b. Ok (tree.Helper kind name p b))))
    (any_gives has given
    (λ p. result_and_then resolved (λ b. Ok (tree.Helper kind name p b))) (λ p.
    any_gives has resolved (λ b. Ok (tree.Helper kind name p b)) (λ b rest rest' same. same)))

members_fields : (constants : List (List ℕ × ℤ)) (helpers : Signatures) (input output : ItemType)
    (fields : TypedNames)
    (before known : List (List ℕ)) (ms : List tree.Member) → Gives (HaveFields ms)
    (members_resolved constants helpers input output fields before known ms)
members_fields constants helpers input output fields before known [] = (refl, refl)
members_fields constants helpers input output fields before known (first ∷ rest) =
    then_gives (HasFields first) (HaveFields (first ∷ rest))
    (member_resolved constants helpers input output fields before known first)
    (λ f. result_and_then
    (members_resolved constants helpers input output fields (fields_after before first)
    (known_after known first) rest)
    (λ r. Ok (f ∷ r))) (member_fields constants helpers input output fields before known first)
    (λ f h.
    then_gives (HaveFields rest) (HaveFields (first ∷ rest))
    (members_resolved constants helpers input output fields (fields_after before first)
    (known_after known first) rest)
    (λ r. Ok (f ∷ r)) (members_fields constants helpers input output fields
    (fields_after before first) (known_after known first) rest) (λ r h'. h rest r h'))

-- a name among more names
or_false : (t : Bool) → t || true ≡ true
or_false true = refl
or_false false = refl

named_after : (front names : List (List ℕ)) (name : List ℕ) → has_name names name ≡ true →
    has_name (front ++ names) name ≡ true
named_after [] names name h = h
named_after (first ∷ front) names name h = ap (λ t. bytes_eq first name || t)
    (named_after front names name h) ∙ or_false (bytes_eq first name)

-- a list of names before others, reversed
before_turned : (front back names : List (List ℕ)) → reverse (front ++ names) ++ back ≡ reverse
    names ++ (reverse front ++ back)
before_turned front back names = ap (λ l. l ++ back) (reverse-append front names) ∙ append_assoc
    (reverse names) (reverse front) back

fields_named : (variables : List tree.Variable) (inner back : List (List ℕ)) → AreNamedFields
    (inner ++ (reverse (declared_names variables) ++ back)) variables
fields_named [] inner back = tt
fields_named (first ∷ rest) inner back =
    let e : inner ++ (reverse (first.name ∷ declared_names rest) ++ back) ≡ inner ++
    (reverse (declared_names rest) ++ first.name ∷ back) =
    ap (λ l. inner ++ l) (before_turned (first.name ∷ []) back (declared_names rest)) in
    subst (λ l. AreNamedFields l (first ∷ rest)) (sym e) (
      named_after inner (reverse (declared_names rest) ++ first.name ∷ back) first.name
          (named_after (reverse (declared_names rest)) (first.name ∷ back) first.name
          (ap (λ t. t || has_name back first.name) (bytes_eq_same first.name first.name refl))),
      fields_named rest inner (first.name ∷ back),
    )

all_named : (back : List (List ℕ)) (ms : List tree.Member) → AreNamedMembers
    (reverse (field_names ms) ++ back) ms
all_named back [] = tt
all_named back (tree.Fields kind variables ∷ rest) =
    let names = field_names rest in
    let e = before_turned (declared_names variables) back names in
    subst (λ l. AreNamedMembers l (tree.Fields kind variables ∷ rest)) (sym e) (
      fields_named variables (reverse names) back,
      all_named
          (reverse (declared_names variables) ++ back) rest,
    )
all_named back (tree.Init block ∷ rest) = (tt, all_named back rest)
all_named back (tree.Prework rates block ∷ rest) = (tt, all_named back rest)
all_named back (tree.Work rates block ∷ rest) = (tt, all_named back rest)
all_named back (tree.Helper kind name parameters block ∷ rest) = (tt, all_named back rest)

-- the names of a declaration are in front, the last one first
names_with-reverse : (names : List (List ℕ)) (variables : List tree.Variable) → names_with names
    variables ≡ reverse (declared_names variables) ++ names
names_with-reverse names [] = refl
names_with-reverse names (first ∷ rest) = names_with-reverse (first.name ∷ names) rest ∙ sym
    (before_turned (first.name ∷ []) names (declared_names rest))

-- the fields' names, the last one first
pub plain_fields : (names : TypedNames) (ms : List tree.Member) → plain_names
    (names_after_fields names ms) ≡ reverse (field_names ms) ++ plain_names names
plain_fields names [] = refl
plain_fields names (tree.Fields kind variables ∷ rest) =
    plain_fields (typing.with_declared names (type_of kind) variables) rest
    ∙ ap (λ l. reverse (field_names rest) ++ l)
    (plain_declared names (type_of kind) variables ∙ names_with-reverse (plain_names names)
    variables)
    ∙ sym (before_turned (declared_names variables) (plain_names names) (field_names rest))
plain_fields names (tree.Init block ∷ rest) = plain_fields names rest
plain_fields names (tree.Prework rates block ∷ rest) = plain_fields names rest
plain_fields names (tree.Work rates block ∷ rest) = plain_fields names rest
plain_fields names (tree.Helper kind name parameters block ∷ rest) = plain_fields names rest

-- a closed filter with the fields of another one
abbrev IsLikeFilter : Filter → Filter → Type 0
IsLikeFilter filter filter' = IsClosedFilter filter' × HaveFields filter.members filter'.members

abbrev AreLikeMembers : List tree.Member → List tree.Member → Type 0
AreLikeMembers ms ms' = AreClosedMembers (reverse (sized_fields ms')) ms' × HaveFields ms ms'

-- members that are closed in each scope of the fields' names are so in that of their own fields
own_scope : (ms : List tree.Member) (fields : TypedNames)
    (r : Result (List tree.Member) LowerError) → plain_names fields ≡ reverse (field_names ms) →
    Gives (HaveFields ms) r →
    ((scope : Scope) → SameNames scope fields → NoneAnswers fields
    → Gives (AreClosedMembers scope) r) → Gives (AreLikeMembers ms) r
own_scope ms fields (Ok ms') names has closed = (
  closed (reverse (sized_fields ms'))
      (sized_names-reverse (sized_fields ms') ∙ ap reverse has.0 ∙ sym names)
      (ap (λ l. has_name l answer_name) names ∙ in_turned (field_names ms) answer_name has.1),
  has,
)
own_scope ms fields (Err e) names has closed = tt

filter_gives : (constants : List (List ℕ × ℤ)) (filter : Filter) → Gives (IsLikeFilter filter)
    (filter_resolved constants filter)
filter_gives constants filter =
    let ms = filter.members in
    let helpers = signatures_after [] ms in
    let fields = names_after_fields [] ms in
    let names : plain_names fields ≡ reverse (field_names ms) = plain_fields [] ms ∙ append-nil
    (reverse (field_names ms)) in
    let named : AreNamedMembers (plain_names fields) ms = subst (λ l. AreNamedMembers l ms)
    (sym (plain_fields [] ms)) (all_named [] ms) in
    let resolved = members_resolved constants helpers filter.input filter.output fields [] [] ms in
    kept_gives (IsLikeFilter filter) (has_parts ms)
    (result_and_then resolved (λ ms'. Ok (record filter { members = ms' })))
    (then_gives (AreLikeMembers ms) (IsLikeFilter filter) resolved
    (λ ms'. Ok (record filter { members = ms' }))
    (own_scope ms fields resolved names
    (members_fields constants helpers filter.input filter.output fields [] [] ms)
    (λ scope same none. members_give constants helpers filter.input filter.output scope fields []
    [] ms same none named)) (λ ms' h. h))

-- the filter that the judgement gives is closed
pub resolved_closed : (constants : List (List ℕ × ℤ)) (filter filter' : Filter) → filter_resolved
    constants filter ≡ Ok filter' → IsClosedFilter filter'
resolved_closed constants filter filter' e =
    (subst (Gives (IsLikeFilter filter)) e (filter_gives constants filter)).0

-- and its fields have the names of the text's, in order
pub resolved_fields : (constants : List (List ℕ × ℤ)) (filter filter' : Filter) → filter_resolved
    constants filter ≡ Ok filter' → plain_names (sized_fields filter'.members) ≡ field_names
    filter.members
resolved_fields constants filter filter' e =
    (subst (Gives (IsLikeFilter filter)) e (filter_gives constants filter)).1.0

-- and its types
pub resolved_types : (constants : List (List ℕ × ℤ)) (filter filter' : Filter) → filter_resolved
    constants filter ≡ Ok filter' → (filter'.input ≡ filter.input) ×
    (filter'.output ≡ filter.output)
resolved_types constants filter filter' e = subst
    (Gives (λ (f : Filter). (f.input ≡ filter.input) × (f.output ≡ filter.output))) e types_given
  where
    same : Filter → Type 0
    same f = (f.input ≡ filter.input) × (f.output ≡ filter.output)

    types_given : Gives (λ (f : Filter). (f.input ≡ filter.input) × (f.output ≡ filter.output))
        (filter_resolved constants filter)
    types_given =
        kept_gives same (has_parts filter.members)
        (result_and_then (members_resolved constants (signatures_after [] filter.members)
        filter.input filter.output (names_after_fields [] filter.members) [] [] filter.members)
        (λ ms. Ok (record filter { members = ms })))
        (any_gives same (members_resolved constants (signatures_after [] filter.members)
        filter.input filter.output (names_after_fields [] filter.members) [] [] filter.members)
        (λ ms. Ok (record filter { members = ms })) (λ ms. (refl, refl)))
