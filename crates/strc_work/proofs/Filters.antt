-- The walk accepts rates, members and filters exactly where they are well typed.
use Rattle.std.proofs.Common.{◌≡◌, ◌↔◌, ℕ, ◌≤◌, ℤ, pos, ◌<ℤ◌, ◌==◌, nat_lt, Bool, true, false, not}
use Rattle.std.proofs.Common.{◌&&◌, List, [], ◌∷◌, length, Option, Result, Ok, IsOk, refl, sym}
use Rattle.std.proofs.Common.{ap, ◌∙◌, subst, arith}
use Rattle.std.proofs.lemmas.Bool.Decides.{nat_tests}
use Rattle.std.proofs.lemmas.Int.{ints}
use Rattle.std.specs.Int.RustNames.{int_lt}
use Rattle.strc_lex_names.specs.Names.{has_name}
use Rattle.strc_lex_names.specs.Results.{result_and_then}
use Rattle.strc_parse_tree.specs.Tree as tree
use Rattle.strc_parse_tree.specs.declared.tree.ItemType.{ItemType}
use Rattle.strc_work_meaning.specs.Filters.{Filter, work_count}
use Rattle.strc_work_rules.specs.declared.error.LowerError.{LowerError}
use Rattle.strc_work_meaning.specs.declared.types.ValueType.{ValueType}
use Rattle.strc_work_meaning.specs.Typing.{TypedNames, type_of, names_after_fields}
use Rattle.strc_work_rules.specs.Resolution.{Context, ResolvedType, Work, where_kept}
use Rattle.strc_work_rules.specs.Resolution.{initial_resolved}
use Rattle.strc_work_rules.specs.Resolution.{is_field_taken}
use Rattle.strc_work_rules.specs.Resolution.{number_resolved, type_resolved, carries_items, side_of}
use Rattle.strc_work_rules.specs.Resolution.{start_context, helper_context, body_context, is_taken}
use Rattle.strc_work_rules.specs.Resolution.{rate_fits, rate_resolved, parameter_resolved}
use Rattle.strc_work_rules.specs.Resolution.{known_after}
use Rattle.strc_work_rules.specs.Resolution.{parameters_resolved}
use Rattle.strc_work_rules.specs.Signatures.{Signatures, signatures_after, with_parameters}
use Rattle.strc_work_meaning.specs.declared.types.ValueType.TheVariants.{Int}
use Rattle.strc_work_rules.specs.Resolution.{rates_resolved, field_resolved, fields_resolved}
use Rattle.strc_work_rules.specs.Resolution.{fields_after, body_resolved, work_resolved}
use Rattle.strc_work_rules.specs.Resolution.{member_resolved}
use Rattle.strc_work_rules.specs.Resolution.{members_resolved, prework_count, init_count, has_parts}
use Rattle.strc_work_rules.specs.Resolution.{filter_resolved}
use Rattle.strc_work_rules.proofs.ResolvingStatements.{Gives, then_gives}
use Rattle.strc_work.specs.Expressions.{InitialHasType}
use Rattle.strc_work.specs.Numbers.{HasNumber}
use Rattle.strc_work.specs.Statements.{IsDeclarable, AreWellFormed}
use Rattle.strc_work.specs.Filters.{IsRate, AreRates, AreFields, IsWellFormedMember}
use Rattle.strc_work.specs.Filters.{AreWellFormedMembers, IsWellTyped, AreParameters}
use Rattle.strc_work.proofs.Accepting.{kept_gives, kept_is, then_is, then_ok, any_ok, given}
use Rattle.strc_work.proofs.Accepting.{is_ok_of, not_true, not_false}
use Rattle.strc_work.proofs.TypesOfExpressions.{initial_gives, initial_ok}
use Rattle.strc_work.proofs.Numbers.{number_gives, number_is}
use Rattle.strc_work.proofs.Statements.{type_gives, type_ok, stmts_give, stmts_ok}

-- a rate above 0 is on a side where items flow
above : (number : ℤ) → pos 0 <ℤ number → int_lt (pos 0) number ≡ true
above number h = grind (arith, ints)

is_above : (number : ℤ) → int_lt (pos 0) number ≡ true → pos 0 <ℤ number
is_above number e = grind (arith, ints)

flows : (a b : Bool) → not (a && not b) ≡ true → a ≡ true → b ≡ true
flows true true e h = refl
flows true false e h = absurd (cc)
flows false b e h = absurd (cc)

may_flow : (a b : Bool) → (a ≡ true → b ≡ true) → not (a && not b) ≡ true
may_flow true b h = ap (λ t. not (not t)) (h refl)
may_flow false b h = refl

rate_gives : (constants : List (List ℕ × ℤ)) (fields : TypedNames) (input output : ItemType)
    (rate : tree.Rate)
    → Gives (λ (r : tree.Rate). IsRate constants fields input output rate)
    (rate_resolved constants fields input output rate)
rate_gives constants fields input output rate =
    let side = carries_items (side_of input output rate.kind) in
    let Q : tree.Rate → Type 0 = λ r. IsRate constants fields input output rate in
    then_gives (HasNumber constants fields rate.rate) Q
    (number_resolved constants fields rate.rate)
    (λ number. where_kept (rate_fits input output rate.kind number)
    (Ok (record { kind = rate.kind; rate = tree.Number number })))
    (number_gives constants fields rate.rate) (λ number h.
    kept_gives Q (rate_fits input output rate.kind number)
    (Ok (record { kind = rate.kind; rate = tree.Number number })) (λ fits.
    (number, (h, λ more. flows (int_lt (pos 0) number) side fits (above number more)))))

rate_ok : (constants : List (List ℕ × ℤ)) (fields : TypedNames) (input output : ItemType)
    (rate : tree.Rate) → IsRate constants fields input output rate
    → IsOk (rate_resolved constants fields input output rate)
rate_ok constants fields input output rate h =
    let number = h.0 in
    let side = carries_items (side_of input output rate.kind) in
    let made : tree.Rate = record { kind = rate.kind; rate = tree.Number number } in
    is_ok_of (rate_resolved constants fields input output rate) made
    (then_is (number_resolved constants fields rate.rate)
    (λ n. where_kept (rate_fits input output rate.kind n)
    (Ok (record { kind = rate.kind; rate = tree.Number n }))) number
    (number_is constants fields rate.rate number h.1.0)
    ∙ kept_is (rate_fits input output rate.kind number) (Ok made)
    (may_flow (int_lt (pos 0) number) side (λ e. h.1.1 (is_above number e))))

pub walk_accepts_rate : (constants : List (List ℕ × ℤ)) (fields : TypedNames)
    (input output : ItemType) (rate : tree.Rate)
    → IsOk (rate_resolved constants fields input output rate)
    ↔ IsRate constants fields input output rate
walk_accepts_rate constants fields input output rate = (
  λ ok. given (IsRate constants fields input output rate)
      (rate_resolved constants fields input output rate)
      (rate_gives constants fields input output rate) ok,
  rate_ok constants fields input output rate,
)

rates_give : (constants : List (List ℕ × ℤ)) (fields : TypedNames) (input output : ItemType)
    (rates : List tree.Rate)
    → Gives (λ (r : List tree.Rate). AreRates constants fields input output rates)
    (rates_resolved constants fields input output rates)
rates_give constants fields input output [] = tt
rates_give constants fields input output (first ∷ rest) =
    let Q : List tree.Rate → Type 0 = λ r. AreRates constants fields input output
    (first ∷ rest) in
    then_gives (λ (r : tree.Rate). IsRate constants fields input output first) Q
    (rate_resolved constants fields input output first)
    (λ f. result_and_then (rates_resolved constants fields input output rest) (λ r. Ok (f ∷ r)))
    (rate_gives constants fields input output first) (λ f h.
    then_gives (λ (r : List tree.Rate). AreRates constants fields input output rest) Q
    (rates_resolved constants fields input output rest) (λ r. Ok (f ∷ r))
    (rates_give constants fields input output rest) (λ r h'. (h, h')))

rates_ok : (constants : List (List ℕ × ℤ)) (fields : TypedNames) (input output : ItemType)
    (rates : List tree.Rate) → AreRates constants fields input output rates
    → IsOk (rates_resolved constants fields input output rates)
rates_ok constants fields input output [] h = refl
rates_ok constants fields input output (first ∷ rest) h =
    any_ok (rate_resolved constants fields input output first)
    (λ f. result_and_then (rates_resolved constants fields input output rest) (λ r. Ok (f ∷ r)))
    (rate_ok constants fields input output first h.0) (λ f.
    any_ok (rates_resolved constants fields input output rest) (λ r. Ok (f ∷ r))
    (rates_ok constants fields input output rest h.1) (λ r. refl))

-- fields

field_gives : (context : Context) (fields : TypedNames) (before : List (List ℕ)) (kind : ValueType)
    (variable : tree.Variable)
    → Gives (λ (v : tree.Variable). (is_field_taken before variable.name ≡ false)
    × InitialHasType context fields variable.initial kind)
    (field_resolved context fields before kind variable)
field_gives context fields before kind variable =
    let there = is_field_taken before variable.name in
    let Q : tree.Variable → Type 0 =
    λ v. (there ≡ false) × InitialHasType context fields variable.initial kind in
    let go : Option tree.Expr → Result tree.Variable LowerError =
    λ i. Ok (record { name = variable.name; initial = i }) in
    let initial = initial_resolved context fields kind variable.initial in
    kept_gives Q (not there) (result_and_then initial go) (λ new.
    then_gives (λ (i : Option tree.Expr). InitialHasType context fields variable.initial kind) Q
    initial go (initial_gives context fields kind variable.initial)
    (λ i h. (not_true there new, h)))

field_ok : (context : Context) (fields : TypedNames) (before : List (List ℕ)) (kind : ValueType)
    (variable : tree.Variable) → is_field_taken before variable.name ≡ false
    → InitialHasType context fields variable.initial kind
    → IsOk (field_resolved context fields before kind variable)
field_ok context fields before kind variable new h =
    let there = is_field_taken before variable.name in
    let go : Option tree.Expr → Result tree.Variable LowerError =
    λ i. Ok (record { name = variable.name; initial = i }) in
    let initial = initial_resolved context fields kind variable.initial in
    subst IsOk (sym (kept_is (not there) (result_and_then initial go) (not_false there new)))
    (any_ok initial go (initial_ok context fields kind variable.initial h) (λ i. refl))

fields_give : (context : Context) (fields : TypedNames) (before : List (List ℕ)) (kind : ValueType)
    (variables : List tree.Variable)
    → Gives (λ (v : List tree.Variable). AreFields context fields before kind variables)
    (fields_resolved context fields before kind variables)
fields_give context fields before kind [] = tt
fields_give context fields before kind (first ∷ rest) =
    let Q : List tree.Variable → Type 0 =
    λ v. AreFields context fields before kind (first ∷ rest) in
    let later = first.name ∷ before in
    then_gives (λ (v : tree.Variable). (is_field_taken before first.name ≡ false)
    × InitialHasType context fields first.initial kind) Q
    (field_resolved context fields before kind first)
    (λ f. result_and_then (fields_resolved context fields later kind rest) (λ r. Ok (f ∷ r)))
    (field_gives context fields before kind first) (λ f h.
    then_gives (λ (v : List tree.Variable). AreFields context fields later kind rest) Q
    (fields_resolved context fields later kind rest) (λ r. Ok (f ∷ r))
    (fields_give context fields later kind rest)
    (λ r h'. record { 0 = h.0; 1 = h.1; 2 = h' }))

fields_ok : (context : Context) (fields : TypedNames) (before : List (List ℕ)) (kind : ValueType)
    (variables : List tree.Variable) → AreFields context fields before kind variables
    → IsOk (fields_resolved context fields before kind variables)
fields_ok context fields before kind [] h = refl
fields_ok context fields before kind (first ∷ rest) h =
    let later = first.name ∷ before in
    any_ok (field_resolved context fields before kind first)
    (λ f. result_and_then (fields_resolved context fields later kind rest) (λ r. Ok (f ∷ r)))
    (field_ok context fields before kind first h.0 h.1) (λ f.
    any_ok (fields_resolved context fields later kind rest) (λ r. Ok (f ∷ r))
    (fields_ok context fields later kind rest h.2) (λ r. refl))

-- a body with its rates

abbrev IsWorkBody : (constants : List (List ℕ × ℤ)) (helpers : Signatures) (input output : ItemType)
    (fields : TypedNames) → Work → Type 0
IsWorkBody constants helpers input output fields work =
    AreRates constants fields input output work.rates
    × AreWellFormed (body_context constants helpers input output) fields (length fields) work.block

work_gives : (constants : List (List ℕ × ℤ)) (helpers : Signatures) (input output : ItemType)
    (fields : TypedNames) (work : Work) → Gives
    (λ (w : Work). IsWorkBody constants helpers input output fields work)
    (work_resolved constants helpers input output fields work)
work_gives constants helpers input output fields work =
    let Q : Work → Type 0 = λ w. IsWorkBody constants helpers input output fields work in
    let context = body_context constants helpers input output in
    then_gives (λ (r : List tree.Rate). AreRates constants fields input output work.rates) Q
    (rates_resolved constants fields input output work.rates)
    (λ r. result_and_then (body_resolved context fields work.block)
    (λ b. Ok (record { rates = r; block = b })))
    (rates_give constants fields input output work.rates) (λ r h.
    then_gives (λ (b : tree.Stmts). AreWellFormed context fields (length fields) work.block) Q
    (body_resolved context fields work.block) (λ b. Ok (record { rates = r; block = b }))
    (stmts_give context fields (length fields) work.block) (λ b h'. (h, h')))

work_ok : (constants : List (List ℕ × ℤ)) (helpers : Signatures) (input output : ItemType)
    (fields : TypedNames) (work : Work) → IsWorkBody constants helpers input output fields work
    → IsOk (work_resolved constants helpers input output fields work)
work_ok constants helpers input output fields work h =
    let context = body_context constants helpers input output in
    let made : List tree.Rate → tree.Stmts → Result Work LowerError =
    λ r b. Ok (record { rates = r; block = b }) in
    any_ok (rates_resolved constants fields input output work.rates)
    (λ r. result_and_then (body_resolved context fields work.block) (made r))
    (rates_ok constants fields input output work.rates h.0) (λ r.
    any_ok (body_resolved context fields work.block) (made r)
    (stmts_ok context fields (length fields) work.block h.1) (λ b. refl))

-- parameters

parameters_give : (names : TypedNames) (outer : ℕ) (parameters : List (List ℕ))
    → Gives (λ (p : List (List ℕ)). AreParameters names outer parameters)
    (parameters_resolved names outer parameters)
parameters_give names outer [] = tt
parameters_give names outer (first ∷ rest) =
    let inner : TypedNames = record { 0 = first; 1 = Int } ∷ names in
    let taken = is_taken names outer first in
    let Q : List (List ℕ) → Type 0 = λ p. AreParameters names outer (first ∷ rest) in
    then_gives (λ (n : List ℕ). taken ≡ false) Q (parameter_resolved names outer first)
    (λ f. result_and_then (parameters_resolved inner outer rest) (λ r. Ok (f ∷ r)))
    (kept_gives (λ (n : List ℕ). taken ≡ false) (not taken) (Ok first)
    (λ free. not_true taken free)) (λ f h.
    then_gives (λ (p : List (List ℕ)). AreParameters inner outer rest) Q
    (parameters_resolved inner outer rest) (λ r. Ok (f ∷ r))
    (parameters_give inner outer rest) (λ r h'. (h, h')))

parameters_ok : (names : TypedNames) (outer : ℕ) (parameters : List (List ℕ))
    → AreParameters names outer parameters → IsOk (parameters_resolved names outer parameters)
parameters_ok names outer [] h = refl
parameters_ok names outer (first ∷ rest) h =
    let inner : TypedNames = record { 0 = first; 1 = Int } ∷ names in
    let taken = is_taken names outer first in
    any_ok (parameter_resolved names outer first)
    (λ f. result_and_then (parameters_resolved inner outer rest) (λ r. Ok (f ∷ r)))
    (is_ok_of (parameter_resolved names outer first) first
    (kept_is (not taken) (Ok first) (not_false taken h.0))) (λ f.
    any_ok (parameters_resolved inner outer rest) (λ r. Ok (f ∷ r))
    (parameters_ok inner outer rest h.1) (λ r. refl))

-- members

member_gives : (constants : List (List ℕ × ℤ)) (helpers : Signatures) (input output : ItemType)
    (fields : TypedNames) (before known : List (List ℕ)) (m : tree.Member)
    → Gives (λ (m' : tree.Member). IsWellFormedMember constants helpers input output fields before
    known m)
    (member_resolved constants helpers input output fields before known m)
member_gives constants helpers input output fields before known (tree.Fields kind variables) =
    let context = start_context constants helpers in
    let Q : tree.Member → Type 0 = λ m'. IsWellFormedMember constants helpers input output fields
    before known
    (tree.Fields kind variables) in
    then_gives (λ (t : ResolvedType). IsDeclarable constants fields kind
    × (t.kind ≡ type_of kind)) Q (type_resolved constants fields kind)
    (λ t. result_and_then (fields_resolved context fields before t.kind variables)
    (λ v. Ok (tree.Fields t.written v))) (type_gives constants fields kind) (λ t h.
    then_gives (λ (v : List tree.Variable). AreFields context fields before t.kind variables) Q
    (fields_resolved context fields before t.kind variables) (λ v. Ok (tree.Fields t.written v))
    (fields_give context fields before t.kind variables)
    (λ v h'. (h.0, subst (λ k. AreFields context fields before k variables) h.1 h')))
member_gives constants helpers input output fields before known (tree.Init block) =
    let context = start_context constants helpers in
    then_gives (λ (b : tree.Stmts). AreWellFormed context fields (length fields) block)
    (λ (m' : tree.Member). AreWellFormed context fields (length fields) block)
    (body_resolved context fields block) (λ b. Ok (tree.Init b))
    (stmts_give context fields (length fields) block) (λ b h. h)
member_gives constants helpers input output fields before known (tree.Prework rates block) =
    let work : Work = record { rates = rates; block = block } in
    then_gives (λ (w : Work). IsWorkBody constants helpers input output fields work)
    (λ (m' : tree.Member). IsWorkBody constants helpers input output fields work)
    (work_resolved constants helpers input output fields work)
    (λ w. Ok (tree.Prework w.rates w.block))
    (work_gives constants helpers input output fields work) (λ w h. h)
member_gives constants helpers input output fields before known (tree.Work rates block) =
    let work : Work = record { rates = rates; block = block } in
    then_gives (λ (w : Work). IsWorkBody constants helpers input output fields work)
    (λ (m' : tree.Member). IsWorkBody constants helpers input output fields work)
    (work_resolved constants helpers input output fields work) (λ w. Ok (tree.Work w.rates w.block))
    (work_gives constants helpers input output fields work) (λ w h. h)
member_gives constants helpers input output fields before known
    (tree.Helper kind name parameters block) =
    let context = helper_context constants helpers kind in
    let names = with_parameters fields parameters in
    let there = has_name known name in
    let Q : tree.Member → Type 0 = λ m'. IsWellFormedMember constants helpers input output fields
    before known (tree.Helper kind name parameters block) in
    let given = parameters_resolved fields (length fields) parameters in
    kept_gives Q (not there) (result_and_then given
    (λ p. result_and_then (body_resolved context names block)
    (λ b. Ok (tree.Helper kind name p b)))) (λ new.
    then_gives (λ (p : List (List ℕ)). AreParameters fields (length fields) parameters) Q given
    (λ p. result_and_then (body_resolved context names block)
    (λ b. Ok (tree.Helper kind name p b)))
    (parameters_give fields (length fields) parameters) (λ p h.
    then_gives (λ (b : tree.Stmts). AreWellFormed context names (length names) block) Q
    (body_resolved context names block) (λ b. Ok (tree.Helper kind name p b))
    (stmts_give context names (length names) block)
    (λ b h'. record { 0 = not_true there new; 1 = h; 2 = h' })))

member_ok : (constants : List (List ℕ × ℤ)) (helpers : Signatures) (input output : ItemType)
    (fields : TypedNames) (before known : List (List ℕ)) (m : tree.Member)
    → IsWellFormedMember constants helpers input output fields before known m
    → IsOk (member_resolved constants helpers input output fields before known m)
member_ok constants helpers input output fields before known (tree.Fields kind variables) h =
    let context = start_context constants helpers in
    then_ok (λ (t : ResolvedType). IsDeclarable constants fields kind
    × (t.kind ≡ type_of kind)) (type_resolved constants fields kind)
    (λ t. result_and_then (fields_resolved context fields before t.kind variables)
    (λ v. Ok (tree.Fields t.written v))) (type_gives constants fields kind)
    (type_ok constants fields kind h.0) (λ t is.
    any_ok (fields_resolved context fields before t.kind variables)
    (λ v. Ok (tree.Fields t.written v)) (fields_ok context fields before t.kind variables
    (subst (λ k. AreFields context fields before k variables) (sym is.1) h.1)) (λ v. refl))
member_ok constants helpers input output fields before known (tree.Init block) h =
    any_ok (body_resolved (start_context constants helpers) fields block) (λ b. Ok (tree.Init b))
    (stmts_ok (start_context constants helpers) fields (length fields) block h) (λ b. refl)
member_ok constants helpers input output fields before known (tree.Prework rates block) h =
    let work : Work = record { rates = rates; block = block } in
    any_ok (work_resolved constants helpers input output fields work)
    (λ w. Ok (tree.Prework w.rates w.block)) (work_ok constants helpers input output fields work h)
    (λ w. refl)
member_ok constants helpers input output fields before known (tree.Work rates block) h =
    let work : Work = record { rates = rates; block = block } in
    any_ok (work_resolved constants helpers input output fields work)
    (λ w. Ok (tree.Work w.rates w.block)) (work_ok constants helpers input output fields work h)
    (λ w. refl)
member_ok constants helpers input output fields before known
    (tree.Helper kind name parameters block) h =
    let context = helper_context constants helpers kind in
    let names = with_parameters fields parameters in
    let there = has_name known name in
    let given = parameters_resolved fields (length fields) parameters in
    let go : List (List ℕ) → Result tree.Member LowerError =
    λ p. result_and_then (body_resolved context names block)
    (λ b. Ok (tree.Helper kind name p b)) in
    subst IsOk (sym (kept_is (not there) (result_and_then given go) (not_false there h.0)))
    (any_ok given go (parameters_ok fields (length fields) parameters h.1) (λ p.
    any_ok (body_resolved context names block) (λ b. Ok (tree.Helper kind name p b))
    (stmts_ok context names (length names) block h.2) (λ b. refl)))

members_give : (constants : List (List ℕ × ℤ)) (helpers : Signatures) (input output : ItemType)
    (fields : TypedNames) (before known : List (List ℕ)) (ms : List tree.Member)
    → Gives (λ (r : List tree.Member). AreWellFormedMembers constants helpers input output fields
    before known ms)
    (members_resolved constants helpers input output fields before known ms)
members_give constants helpers input output fields before known [] = tt
members_give constants helpers input output fields before known (first ∷ rest) =
    let Q : List tree.Member → Type 0 =
    λ r. AreWellFormedMembers constants helpers input output fields before known (first ∷ rest) in
    let later = fields_after before first in
    let next = known_after known first in
    then_gives (λ (m : tree.Member). IsWellFormedMember constants helpers input output fields before
    known first)
    Q (member_resolved constants helpers input output fields before known first)
    (λ f. result_and_then (members_resolved constants helpers input output fields later next rest)
    (λ r. Ok (f ∷ r))) (member_gives constants helpers input output fields before known first)
    (λ f h.
    then_gives (λ (r : List tree.Member). AreWellFormedMembers constants helpers input output fields
    later next
    rest) Q (members_resolved constants helpers input output fields later next rest)
    (λ r. Ok (f ∷ r))
    (members_give constants helpers input output fields later next rest) (λ r h'. (h, h')))

members_ok : (constants : List (List ℕ × ℤ)) (helpers : Signatures) (input output : ItemType)
    (fields : TypedNames) (before known : List (List ℕ)) (ms : List tree.Member)
    → AreWellFormedMembers constants helpers input output fields before known ms
    → IsOk (members_resolved constants helpers input output fields before known ms)
members_ok constants helpers input output fields before known [] h = refl
members_ok constants helpers input output fields before known (first ∷ rest) h =
    let later = fields_after before first in
    let next = known_after known first in
    any_ok (member_resolved constants helpers input output fields before known first)
    (λ f. result_and_then (members_resolved constants helpers input output fields later next rest)
    (λ r. Ok (f ∷ r))) (member_ok constants helpers input output fields before known first h.0)
    (λ f.
    any_ok (members_resolved constants helpers input output fields later next rest)
    (λ r. Ok (f ∷ r))
    (members_ok constants helpers input output fields later next rest h.1) (λ r. refl))

pub walk_accepts_members : (constants : List (List ℕ × ℤ)) (helpers : Signatures)
    (input output : ItemType)
    (fields : TypedNames) (before known : List (List ℕ)) (ms : List tree.Member)
    → IsOk (members_resolved constants helpers input output fields before known ms)
    ↔ AreWellFormedMembers constants helpers input output fields before known ms
walk_accepts_members constants helpers input output fields before known ms = (
  λ ok. given (AreWellFormedMembers constants helpers input output fields before known ms)
      (members_resolved constants helpers input output fields before known ms)
      (members_give constants helpers input output fields before known ms) ok,
  members_ok constants helpers input output fields before known ms,
)

-- filters

record HasParts (work prework init : ℕ) : Type 0 where
  pub work_is : work ≡ 1
  pub prework_within : prework ≤ 1
  pub init_within : init ≤ 1

parts_are : (work prework init : ℕ) → (work == 1) && (nat_lt prework 2 && nat_lt init 2) ≡ true
    → HasParts work prework init
parts_are work prework init e = record {
  work_is = grind (arith, nat_tests);
  prework_within = grind (arith, nat_tests);
  init_within = grind (arith, nat_tests);
}

are_parts : (work prework init : ℕ) → work ≡ 1 → prework ≤ 1 → init ≤ 1
    → (work == 1) && (nat_lt prework 2 && nat_lt init 2) ≡ true
are_parts work prework init is within within' = grind (arith, nat_tests)

filter_gives : (constants : List (List ℕ × ℤ)) (filter : Filter)
    → Gives (λ (f : Filter). IsWellTyped constants filter) (filter_resolved constants filter)
filter_gives constants filter =
    let ms = filter.members in
    let fields = names_after_fields [] ms in
    let helpers = signatures_after [] ms in
    let Q : Filter → Type 0 = λ f. IsWellTyped constants filter in
    let walked = members_resolved constants helpers filter.input filter.output fields [] [] ms in
    kept_gives Q (has_parts ms)
    (result_and_then walked (λ ms'. Ok (record filter { members = ms' })))
    (λ parts. let h = parts_are (work_count ms) (prework_count ms) (init_count ms) parts in
    then_gives (λ (r : List tree.Member). AreWellFormedMembers constants helpers filter.input
    filter.output
    fields [] [] ms) Q walked (λ ms'. Ok (record filter { members = ms' }))
    (members_give constants helpers filter.input filter.output fields [] [] ms) (λ ms' h'. record {
      work = h.work_is;
      prework = h.prework_within;
      init = h.init_within;
      members = h';
    }))

filter_ok : (constants : List (List ℕ × ℤ)) (filter : Filter) → IsWellTyped constants filter
    → IsOk (filter_resolved constants filter)
filter_ok constants filter h =
    let ms = filter.members in
    let fields = names_after_fields [] ms in
    let helpers = signatures_after [] ms in
    let walked = members_resolved constants helpers filter.input filter.output fields [] [] ms in
    let go : List tree.Member → Result Filter LowerError =
    λ ms'. Ok (record filter { members = ms' }) in
    let parts : has_parts ms ≡ true =
    are_parts (work_count ms) (prework_count ms) (init_count ms) h.work h.prework h.init in
    subst IsOk (sym (kept_is (has_parts ms) (result_and_then walked go) parts))
    (any_ok walked go (members_ok constants helpers filter.input filter.output fields [] [] ms
    h.members)
    (λ ms'. refl))

pub walk_accepts_filter : (constants : List (List ℕ × ℤ)) (filter : Filter)
    → IsOk (filter_resolved constants filter) ↔ IsWellTyped constants filter
walk_accepts_filter constants filter = (
  λ ok. given (IsWellTyped constants filter) (filter_resolved constants filter)
      (filter_gives constants filter) ok,
  filter_ok constants filter,
)
