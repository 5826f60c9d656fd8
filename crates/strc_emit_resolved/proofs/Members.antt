-- A filter that keeps the rules calls its helper functions with as many arguments as they take.
use Rattle.std.proofs.Common.{◌≡◌, ℕ, Bool, true, false, not, cond, ℤ, List, [], ◌∷◌, length}
use Rattle.std.proofs.Common.{Option, Some, None, Result, Ok, Err, refl, sym, ap, ◌∙◌, ◌==◌}
use Rattle.std.proofs.Common.{subst, arith}
use Rattle.std.proofs.lemmas.Bool.Decides.{nat_tests}
use Rattle.std.specs.Option.{option_map}
use Rattle.strc_lex_names.specs.Names.{has_name, value_named}
use Rattle.strc_lex_names.specs.Results.{result_and_then}
use Rattle.strc_parse_tree.specs.Tree as tree
use Rattle.strc_parse_tree.specs.declared.tree.HelperType.{HelperType}
use Rattle.strc_parse_tree.specs.declared.tree.ItemType.{ItemType}
use Rattle.strc_work_meaning.specs.Filters.{Filter, Helper, helper_named}
use Rattle.strc_work_meaning.specs.Typing.{TypedNames, names_after_fields}
use Rattle.strc_work_meaning.specs.declared.types.ValueType.TheVariants.{Int}
use Rattle.strc_work_rules.specs.declared.error.LowerError.{LowerError}
use Rattle.strc_work_rules.specs.declared.error.LowerErrorKind.TheVariants as refused
use Rattle.strc_work_rules.specs.declared.signatures.Signature.{Signature}
use Rattle.strc_work_rules.specs.Resolution.{Work, start_context, helper_context, body_context}
use Rattle.strc_work_rules.specs.Resolution.{called_as, is_taken, type_resolved, fields_resolved}
use Rattle.strc_work_rules.specs.Resolution.{fields_after, known_after, body_resolved}
use Rattle.strc_work_rules.specs.Resolution.{work_resolved, rates_resolved, parameter_resolved}
use Rattle.strc_work_rules.specs.Resolution.{parameters_resolved, member_resolved}
use Rattle.strc_work_rules.specs.Resolution.{members_resolved, has_parts, filter_resolved}
use Rattle.strc_work_rules.specs.Signatures.{Signatures, signatures_after, with_parameters}
use Rattle.strc_work_rules.proofs.ResolvingExpressions.{Gives, then_gives, any_gives, kept_gives}
use Rattle.strc_emit_meaning.specs.Known.{AreKnown}
use Rattle.strc_emit_firings.specs.Known.{takes, is_known, AreKnownBlocks, CallsFit}
use Rattle.strc_emit_resolved.specs.Resolved.{ResolvedCallsFit}
use Rattle.strc_emit_resolved.proofs.Arities.{HaveArities, helper_arities}
use Rattle.strc_emit_resolved.proofs.Arities.{signatures_count}
use Rattle.strc_emit_resolved.proofs.Blocks.{stmts_known}

-- parameters are accepted as they are
parameters_same : (names : TypedNames) (outer : ℕ) (parameters : List (List ℕ))
    → Gives (λ (given : List (List ℕ)). given ≡ parameters)
    (parameters_resolved names outer parameters)
parameters_same names outer [] = refl
parameters_same names outer (first ∷ rest) =
    let inner : TypedNames = record { 0 = first; 1 = Int } ∷ names in
    let one : List ℕ → Type 0 = λ name. name ≡ first in
    let all : List (List ℕ) → Type 0 = λ given. given ≡ first ∷ rest in
    then_gives one all (parameter_resolved names outer first)
    (λ f. result_and_then (parameters_resolved inner outer rest) (λ r. Ok (f ∷ r)))
    (kept_gives one (not (is_taken names outer first)) (Ok first) refl)
    (λ f h. then_gives (λ (given : List (List ℕ)). given ≡ rest) all
    (parameters_resolved inner outer rest) (λ r. Ok (f ∷ r)) (parameters_same inner outer rest)
    (λ r h'. ap (λ n. n ∷ r) h ∙ ap (λ l. first ∷ l) h'))

module _ (constants : List (List ℕ × ℤ)) (helpers : Signatures) (input output : ItemType)
    (fields : TypedNames) where
  -- a member of the arities of another one
  abbrev IsLikeMember : tree.Member → tree.Member → Type 0
  IsLikeMember member member' = (rest rest' : List tree.Member) → HaveArities rest rest'
      → HaveArities (member ∷ rest) (member' ∷ rest')

  member_like : (before known : List (List ℕ)) (member : tree.Member) → Gives (IsLikeMember member)
      (member_resolved constants helpers input output fields before known member)
  member_like before known (tree.Fields kind variables) =
      let like = IsLikeMember (tree.Fields kind variables) in
      any_gives like (type_resolved constants fields kind)
      (λ t. result_and_then
      (fields_resolved (start_context constants helpers) fields before t.kind variables)
      (λ v. Ok (tree.Fields t.written v)))
      (λ t. any_gives like
      (fields_resolved (start_context constants helpers) fields before t.kind variables)
      (λ v. Ok (tree.Fields t.written v)) (λ v rest rest' have. have))
  member_like before known (tree.Init block) =
      any_gives (IsLikeMember (tree.Init block))
      (body_resolved (start_context constants helpers) fields block)
      (λ b. Ok (tree.Init b)) (λ b rest rest' have. have)
  member_like before known (tree.Prework rates block) =
      any_gives (IsLikeMember (tree.Prework rates block))
      (work_resolved constants helpers input output fields
      (record { rates = rates; block = block }))
      (λ w. Ok (tree.Prework w.rates w.block)) (λ w rest rest' have. have)
  member_like before known (tree.Work rates block) =
      any_gives (IsLikeMember (tree.Work rates block))
      (work_resolved constants helpers input output fields
      (record { rates = rates; block = block }))
      (λ w. Ok (tree.Work w.rates w.block)) (λ w rest rest' have. have)
  member_like before known (tree.Helper kind name parameters block) =
      let like = IsLikeMember (tree.Helper kind name parameters block) in
      let resolved = body_resolved (helper_context constants helpers kind)
      (with_parameters fields parameters) block in
      let given = parameters_resolved fields (length fields) parameters in
      kept_gives like (not (has_name known name))
      (result_and_then given (λ p. result_and_then resolved
      (λ b. Ok (tree.Helper kind name p b))))
      (then_gives (λ (p : List (List ℕ)). p ≡ parameters) like given
      (λ p. result_and_then resolved (λ b. Ok (tree.Helper kind name p b)))
      (parameters_same fields (length fields) parameters)
      (λ p same. any_gives like resolved (λ b. Ok (tree.Helper kind name p b))
      (λ b rest rest' have. helper_arities kind name parameters p block b rest rest' same have)))

  members_like : (before known : List (List ℕ)) (members : List tree.Member)
      → Gives (HaveArities members)
      (members_resolved constants helpers input output fields before known members)
  members_like before known [] = λ name. refl
  members_like before known (first ∷ rest) =
      let others = members_resolved constants helpers input output fields
      (fields_after before first) (known_after known first) rest in
      then_gives (IsLikeMember first) (HaveArities (first ∷ rest))
      (member_resolved constants helpers input output fields before known first)
      (λ f. result_and_then others (λ r. Ok (f ∷ r))) (member_like before known first)
      (λ f h. then_gives (HaveArities rest) (HaveArities (first ∷ rest)) others
      (λ r. Ok (f ∷ r)) (members_like (fields_after before first) (known_after known first) rest)
      (λ r h'. h rest r h'))

  module _ (knows : List ℕ → ℕ → Bool)
      (knowing : (name : List ℕ) (count : ℕ) (kind : HelperType)
      → called_as name count (value_named helpers name) ≡ Ok kind → knows name count ≡ true) where
    abbrev IsKnownMember : tree.Member → Type 0
    IsKnownMember member = (rest : List tree.Member) → AreKnownBlocks knows rest
        → AreKnownBlocks knows (member ∷ rest)

    work_known : (work : Work) → Gives (λ (w : Work). AreKnown knows w.block)
        (work_resolved constants helpers input output fields work)
    work_known work =
        let of : Work → Type 0 = λ w. AreKnown knows w.block in
        let context = body_context constants helpers input output in
        any_gives of (rates_resolved constants fields input output work.rates)
        (λ r. result_and_then (body_resolved context fields work.block)
        (λ b. Ok (record { rates = r; block = b })))
        (λ r. then_gives (AreKnown knows) of (body_resolved context fields work.block)
        (λ b. Ok (record { rates = r; block = b }))
        (stmts_known knows context knowing fields (length fields) work.block) (λ b h. h))

    member_known : (before known : List (List ℕ)) (member : tree.Member) → Gives IsKnownMember
        (member_resolved constants helpers input output fields before known member)
    member_known before known (tree.Fields kind variables) =
        any_gives IsKnownMember (type_resolved constants fields kind)
        (λ t. result_and_then
        (fields_resolved (start_context constants helpers) fields before t.kind variables)
        (λ v. Ok (tree.Fields t.written v)))
        (λ t. any_gives IsKnownMember
        (fields_resolved (start_context constants helpers) fields before t.kind variables)
        (λ v. Ok (tree.Fields t.written v)) (λ v rest are. are))
    member_known before known (tree.Init block) =
        any_gives IsKnownMember (body_resolved (start_context constants helpers) fields block)
        (λ b. Ok (tree.Init b)) (λ b rest are. are)
    member_known before known (tree.Prework rates block) =
        let work : Work = record { rates = rates; block = block } in
        then_gives (λ (w : Work). AreKnown knows w.block) IsKnownMember
        (work_resolved constants helpers input output fields work)
        (λ w. Ok (tree.Prework w.rates w.block)) (work_known work) (λ w h rest are. (h, are))
    member_known before known (tree.Work rates block) =
        let work : Work = record { rates = rates; block = block } in
        then_gives (λ (w : Work). AreKnown knows w.block) IsKnownMember
        (work_resolved constants helpers input output fields work)
        (λ w. Ok (tree.Work w.rates w.block)) (work_known work) (λ w h rest are. (h, are))
    member_known before known (tree.Helper kind name parameters block) =
        let context = helper_context constants helpers kind in
        let names = with_parameters fields parameters in
        let resolved = body_resolved context names block in
        let given = parameters_resolved fields (length fields) parameters in
        kept_gives IsKnownMember (not (has_name known name))
        (result_and_then given (λ p. result_and_then resolved
        (λ b. Ok (tree.Helper kind name p b))))
        (any_gives IsKnownMember given
        (λ p. result_and_then resolved (λ b. Ok (tree.Helper kind name p b)))
        (λ p. then_gives (AreKnown knows) IsKnownMember resolved
        (λ b. Ok (tree.Helper kind name p b))
        (stmts_known knows context knowing names (length names) block)
        (λ b h rest are. (h, are))))

    members_known : (before known : List (List ℕ)) (members : List tree.Member)
        → Gives (AreKnownBlocks knows)
        (members_resolved constants helpers input output fields before known members)
    members_known before known [] = tt
    members_known before known (first ∷ rest) =
        let others = members_resolved constants helpers input output fields
        (fields_after before first) (known_after known first) rest in
        then_gives IsKnownMember (AreKnownBlocks knows)
        (member_resolved constants helpers input output fields before known first)
        (λ f. result_and_then others (λ r. Ok (f ∷ r))) (member_known before known first)
        (λ f h. then_gives (AreKnownBlocks knows) (AreKnownBlocks knows) others
        (λ r. Ok (f ∷ r))
        (members_known (fields_after before first) (known_after known first) rest)
        (λ r h'. h r h'))

-- what the rules accept as a call of a signature, a helper function of as many parameters takes
accepted : (name : List ℕ) (count : ℕ) (kind : HelperType) (signature : Option Signature)
    (helper : Option Helper)
    → option_map (λ (it : Signature). it.parameters) signature
    ≡ option_map (λ (it : Helper). length it.parameters) helper
    → called_as name count signature ≡ Ok kind → takes helper count ≡ true
accepted name count kind None helper same e = absurd (cc)
accepted name count kind (Some signature) None same e = refl
accepted name count kind (Some signature) (Some helper) same e =
    by_test (signature.parameters == count) refl e
  where
    alike : signature.parameters ≡ length helper.parameters
    alike = cc

    turned : (n : ℕ) → (n == count) ≡ true → (count == n) ≡ true
    turned n h = grind (arith, nat_tests)

    by_test : (t : Bool) → (signature.parameters == count) ≡ t
        → cond t (Ok signature.kind) (Err refused.BadArguments) ≡ Ok kind
        → (count == length helper.parameters) ≡ true
    by_test true h e' = turned (length helper.parameters) (ap (λ n. n == count) (sym alike) ∙ h)
    by_test false h e' = absurd (cc)

module _ (constants : List (List ℕ × ℤ)) (filter : Filter) where
  abbrev texts_members : Result (List tree.Member) LowerError
  texts_members =
      members_resolved constants (signatures_after [] filter.members) filter.input filter.output
      (names_after_fields [] filter.members) [] [] filter.members

  knowing : (members : List tree.Member) → HaveArities filter.members members
      → (name : List ℕ) (count : ℕ) (kind : HelperType)
      → called_as name count (value_named (signatures_after [] filter.members) name) ≡ Ok kind
      → is_known members name count ≡ true
  knowing members have name count kind e =
      accepted name count kind (value_named (signatures_after [] filter.members) name)
      (helper_named members name)
      (signatures_count [] filter.members name ∙ sym (have name)) e

  -- the calls of what the rules make of the text fit it
  fit_in : (r : Result (List tree.Member) LowerError) → texts_members ≡ r
      → Gives (HaveArities filter.members) r → Gives CallsFit r
  fit_in (Err refusal) same have = tt
  fit_in (Ok members) same have =
      subst (Gives (AreKnownBlocks (is_known members))) same
      (members_known constants (signatures_after [] filter.members) filter.input filter.output
      (names_after_fields [] filter.members) (is_known members) (knowing members have) [] []
      filter.members)

  filter_fits : Gives (λ (f : Filter). CallsFit f.members) (filter_resolved constants filter)
  filter_fits =
      let of : Filter → Type 0 = λ f. CallsFit f.members in
      kept_gives of (has_parts filter.members)
      (result_and_then texts_members (λ ms'. Ok (record filter { members = ms' })))
      (then_gives CallsFit of texts_members (λ ms'. Ok (record filter { members = ms' }))
      (fit_in texts_members refl
      (members_like constants (signatures_after [] filter.members) filter.input filter.output
      (names_after_fields [] filter.members) [] [] filter.members))
      (λ ms' h. h))

pub resolved_calls_fit : ResolvedCallsFit
resolved_calls_fit filter is =
    subst (Gives (λ (f : Filter). CallsFit f.members)) is.2 (filter_fits is.0 is.1)
