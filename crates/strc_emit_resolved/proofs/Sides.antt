-- A filter that keeps the rules has items only on sides that carry some.
use Rattle.std.proofs.Common.{◌≡◌, ℕ, zero, suc, max, ℤ, pos, negsuc, Bool, true, false, not, cond}
use Rattle.std.proofs.Common.{◌&&◌, List, [], ◌∷◌, length, Option, Some, None, Ok}
use Rattle.std.proofs.Common.{refl, sym, ap, ◌∙◌, subst, unwrap_or, arith}
use Rattle.std.proofs.lemmas.Bool.{false≢true}
use Rattle.std.proofs.lemmas.Int.{ints}
use Rattle.std.specs.Prelude.{IfSome}
use Rattle.std.specs.Int.RustNames.{int_lt}
use Rattle.strc_lex_names.specs.Names.{has_name}
use Rattle.strc_lex_names.specs.Results.{result_and_then}
use Rattle.strc_parse_tree.specs.Tree as tree
use Rattle.strc_parse_tree.specs.declared.tree.ItemType.{ItemType}
use Rattle.strc_parse_tree.specs.declared.tree.ItemType.TheVariants as item
use Rattle.strc_parse_tree.specs.declared.tree.RateKind.{RateKind}
use Rattle.strc_parse_tree.specs.declared.tree.RateKind.TheVariants as kind
use Rattle.strc_work_meaning.specs.declared.body.Body.{Body}
use Rattle.strc_work_meaning.specs.declared.body.Body.TheVariants as body
use Rattle.strc_work_meaning.specs.Filters.{Filter, body_rates, work_rates, prework_rates, rate_of}
use Rattle.strc_work_meaning.specs.Filters.{rate_number, same_kind, item_count, window_size}
use Rattle.strc_work_meaning.specs.Filters.{has_rate, peek_rate, pop_rate}
use Rattle.strc_work_meaning.specs.Typing.{TypedNames, names_after_fields}
use Rattle.strc_work_rules.specs.Resolution.{Work, where_kept, number_resolved, rate_fits}
use Rattle.strc_work_rules.specs.Resolution.{rate_resolved}
use Rattle.strc_work_rules.specs.Resolution.{rates_resolved, carries_items, side_of}
use Rattle.strc_work_rules.specs.Resolution.{start_context, helper_context, body_context}
use Rattle.strc_work_rules.specs.Resolution.{type_resolved, fields_resolved, fields_after}
use Rattle.strc_work_rules.specs.Resolution.{known_after, body_resolved, work_resolved}
use Rattle.strc_work_rules.specs.Resolution.{parameters_resolved, member_resolved}
use Rattle.strc_work_rules.specs.Resolution.{members_resolved, has_parts, filter_resolved}
use Rattle.strc_work_rules.specs.Signatures.{Signatures, signatures_after, with_parameters}
use Rattle.strc_work_rules.proofs.ResolvingExpressions.{Gives, then_gives, any_gives, kept_gives}
use Rattle.strc_work_rules.proofs.ResolvingStatements.{kept_known}
use Rattle.strc_elab_graph.specs.Graphs.{ports_of}
use Rattle.strc_elab_graph.specs.Rates.{body_at}
use Rattle.strc_emit_plans.specs.Programs.{KeepsSides}
use Rattle.strc_emit_resolved.specs.Resolved.{ResolvedKeepSides, ResolvedRow, passing}

-- kinds of rates that are the same
same_is : (sought own : RateKind) → same_kind sought own ≡ true → sought ≡ own
same_is kind.Push kind.Push e = refl
same_is kind.Pop kind.Pop e = refl
same_is kind.Peek kind.Peek e = refl
same_is kind.Push kind.Pop e = absurd (cc)
same_is kind.Push kind.Peek e = absurd (cc)
same_is kind.Pop kind.Push e = absurd (cc)
same_is kind.Pop kind.Peek e = absurd (cc)
same_is kind.Peek kind.Push e = absurd (cc)
same_is kind.Peek kind.Pop e = absurd (cc)

-- a number above 0
above : (n : ℕ) → int_lt (pos 0) (pos (suc n)) ≡ true
above n = grind (arith, ints)

-- a number that isn't above 0 is none
none_above : (carries : Bool) (number : ℤ) → carries ≡ false
    → not (int_lt (pos 0) number && not carries) ≡ true → item_count number ≡ 0
none_above true number e fits = absurd (cc)
none_above false (pos zero) e fits = refl
none_above false (pos (suc n)) e fits =
    absurd (false≢true (ap (λ t. not (t && true)) (sym (above n)) ∙ fits))
none_above false (negsuc n) e fits = refl

module _ (input output : ItemType) where
  abbrev AllFit : List tree.Rate → Type 0
  AllFit [] = Unit {0}
  AllFit (first ∷ rest) =
      (rate_fits input output first.kind (rate_number first.rate) ≡ true) × AllFit rest

  -- a rate of a side without items is none
  none_of : (sought : RateKind) (rates : List tree.Rate) → AllFit rates
      → carries_items (side_of input output sought) ≡ false
      → item_count (rate_of sought rates) ≡ 0
  none_of sought [] fit without = refl
  none_of sought (first ∷ rest) fit without =
      by_kind (same_kind sought first.kind) refl (none_of sought rest fit.1 without)
    where
      here : sought ≡ first.kind → item_count (rate_number first.rate) ≡ 0
      here same =
          none_above (carries_items (side_of input output first.kind)) (rate_number first.rate)
          (ap (λ k. carries_items (side_of input output k)) (sym same) ∙ without) fit.0

      by_kind : (t : Bool) → same_kind sought first.kind ≡ t
          → item_count (rate_of sought rest) ≡ 0
          → item_count (cond t (rate_number first.rate) (rate_of sought rest)) ≡ 0
      by_kind true e others = here (same_is sought first.kind e)
      by_kind false e others = others

  -- so is a window of one
  no_window : (rates : List tree.Rate) → AllFit rates → carries_items input ≡ false
      → window_size rates ≡ 0
  no_window rates fit without =
      let popped = none_of kind.Pop rates fit without in
      ap (λ n. max n (item_count (peek_rate rates))) popped
      ∙ ap (λ n. max 0 n) (by_rate (has_rate kind.Peek rates) popped)
    where
      by_rate : (t : Bool) → item_count (pop_rate rates) ≡ 0
          → item_count (cond t (rate_of kind.Peek rates) (pop_rate rates)) ≡ 0
      by_rate true popped = none_of kind.Peek rates fit without
      by_rate false popped = popped

  -- the rates of bodies
  abbrev HaveFit : List tree.Member → Type 0
  HaveFit members = AllFit (work_rates members) × IfSome (prework_rates members) AllFit

  abbrev FitsBefore : tree.Member → Type 0
  FitsBefore member = (rest : List tree.Member) → HaveFit rest → HaveFit (member ∷ rest)

  bodies_fit : (which : Body) (members : List tree.Member) → HaveFit members
      → AllFit (body_rates which members)
  bodies_fit body.Work members fit = fit.0
  bodies_fit body.Prework members fit = by_rates (prework_rates members) fit.1
    where
      by_rates : (rates : Option (List tree.Rate)) → IfSome rates AllFit
          → AllFit (unwrap_or rates (work_rates members))
      by_rates None h = fit.0
      by_rates (Some rates) h = h

  rates_fit : (constants : List (List ℕ × ℤ)) (fields : TypedNames) (rates : List tree.Rate)
      → Gives AllFit (rates_resolved constants fields input output rates)
  rates_fit constants fields [] = tt
  rates_fit constants fields (first ∷ rest) =
      let fits : tree.Rate → Type 0 =
      λ rate. rate_fits input output rate.kind (rate_number rate.rate) ≡ true in
      then_gives fits AllFit (rate_resolved constants fields input output first)
      (λ f. result_and_then (rates_resolved constants fields input output rest)
      (λ r. Ok (f ∷ r)))
      (any_gives fits (number_resolved constants fields first.rate)
      (λ number. where_kept (rate_fits input output first.kind number)
      (Ok (record { kind = first.kind; rate = tree.Number number })))
      (λ number. kept_known fits (rate_fits input output first.kind number)
      (Ok (record { kind = first.kind; rate = tree.Number number })) (λ e. e)))
      (λ f h. then_gives AllFit AllFit (rates_resolved constants fields input output rest)
      (λ r. Ok (f ∷ r)) (rates_fit constants fields rest) (λ r h'. (h, h')))

  module _ (constants : List (List ℕ × ℤ)) (helpers : Signatures) (fields : TypedNames) where
    work_fits : (work : Work) → Gives (λ (w : Work). AllFit w.rates)
        (work_resolved constants helpers input output fields work)
    work_fits work =
        let fits : Work → Type 0 = λ w. AllFit w.rates in
        let block = body_resolved (body_context constants helpers input output) fields work.block in
        then_gives AllFit fits (rates_resolved constants fields input output work.rates)
        (λ r. result_and_then block (λ b. Ok (record { rates = r; block = b })))
        (rates_fit constants fields work.rates)
        (λ r h. any_gives fits block (λ b. Ok (record { rates = r; block = b })) (λ b. h))

    member_fits : (before known : List (List ℕ)) (member : tree.Member) → Gives FitsBefore
        (member_resolved constants helpers input output fields before known member)
    member_fits before known (tree.Fields kind variables) =
        any_gives FitsBefore (type_resolved constants fields kind)
        (λ t. result_and_then
        (fields_resolved (start_context constants helpers) fields before t.kind variables)
        (λ v. Ok (tree.Fields t.written v)))
        (λ t. any_gives FitsBefore
        (fields_resolved (start_context constants helpers) fields before t.kind variables)
        (λ v. Ok (tree.Fields t.written v)) (λ v rest fit. fit))
    member_fits before known (tree.Init block) =
        any_gives FitsBefore (body_resolved (start_context constants helpers) fields block)
        (λ b. Ok (tree.Init b)) (λ b rest fit. fit)
    member_fits before known (tree.Prework rates block) =
        let work : Work = record { rates = rates; block = block } in
        then_gives (λ (w : Work). AllFit w.rates) FitsBefore
        (work_resolved constants helpers input output fields work)
        (λ w. Ok (tree.Prework w.rates w.block)) (work_fits work) (λ w h rest fit. (fit.0, h))
    member_fits before known (tree.Work rates block) =
        let work : Work = record { rates = rates; block = block } in
        then_gives (λ (w : Work). AllFit w.rates) FitsBefore
        (work_resolved constants helpers input output fields work)
        (λ w. Ok (tree.Work w.rates w.block)) (work_fits work) (λ w h rest fit. (h, fit.1))
    member_fits before known (tree.Helper kind name parameters block) =
        let resolved = body_resolved (helper_context constants helpers kind)
        (with_parameters fields parameters) block in
        let given = parameters_resolved fields (length fields) parameters in
        kept_gives FitsBefore (not (has_name known name))
        (result_and_then given (λ p. result_and_then resolved
        (λ b. Ok (tree.Helper kind name p b))))
        (any_gives FitsBefore given
        (λ p. result_and_then resolved (λ b. Ok (tree.Helper kind name p b)))
        (λ p. any_gives FitsBefore resolved (λ b. Ok (tree.Helper kind name p b))
        (λ b rest fit. fit)))

    members_fit : (before known : List (List ℕ)) (members : List tree.Member) → Gives HaveFit
        (members_resolved constants helpers input output fields before known members)
    members_fit before known [] = (tt, tt)
    members_fit before known (first ∷ rest) =
        let others = members_resolved constants helpers input output fields
        (fields_after before first) (known_after known first) rest in
        then_gives FitsBefore HaveFit
        (member_resolved constants helpers input output fields before known first)
        (λ f. result_and_then others (λ r. Ok (f ∷ r))) (member_fits before known first)
        (λ f h. then_gives HaveFit HaveFit others (λ r. Ok (f ∷ r))
        (members_fit (fields_after before first) (known_after known first) rest)
        (λ r h'. h r h'))

-- a side without ports carries no items
no_ports : (side : ItemType) → ports_of side ≡ 0 → carries_items side ≡ false
no_ports item.Int e = absurd (cc)
no_ports item.Void e = refl

keeps : (filter : Filter) → HaveFit filter.input filter.output filter.members → KeepsSides filter
keeps filter fit = record {
  takes = λ firing none. no_window filter.input filter.output
      (body_rates (body_at firing) filter.members)
      (bodies_fit filter.input filter.output (body_at firing) filter.members fit)
      (no_ports filter.input none);
  gives = λ firing none. none_of filter.input filter.output kind.Push
      (body_rates (body_at firing) filter.members)
      (bodies_fit filter.input filter.output (body_at firing) filter.members fit)
      (no_ports filter.output none);
}

filter_keeps : (constants : List (List ℕ × ℤ)) (filter : Filter)
    → Gives KeepsSides (filter_resolved constants filter)
filter_keeps constants filter =
    let ms = filter.members in
    let helpers = signatures_after [] ms in
    let fields = names_after_fields [] ms in
    let resolved = members_resolved constants helpers filter.input filter.output fields [] [] ms in
    kept_gives KeepsSides (has_parts ms)
    (result_and_then resolved (λ ms'. Ok (record filter { members = ms' })))
    (then_gives (HaveFit filter.input filter.output) KeepsSides resolved
    (λ ms'. Ok (record filter { members = ms' }))
    (members_fit filter.input filter.output constants helpers fields [] [] ms)
    (λ ms' h. keeps (record filter { members = ms' }) h))

pub resolved_keep_sides : ResolvedKeepSides
resolved_keep_sides filter is = subst (Gives KeepsSides) is.2 (filter_keeps is.0 is.1)

pub resolved_row : ResolvedRow
resolved_row = (record { 0 = []; 1 = passing item.Int; 2 = refl }, refl)
