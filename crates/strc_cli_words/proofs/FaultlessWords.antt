-- Words that have no fault name a subcommand, its FILE, and for `run` numbers where they give some.
use Rattle.std.proofs.Common.{◌≡◌, ◌∙◌, ℕ, Bool, true, false, cond, not, refl, sym, ap, subst, List}
use Rattle.std.proofs.Common.{[], ◌∷◌, Option, Some, None, is_some, ◌⊎◌, inl, inr, arith, codes}
use Rattle.std.proofs.Common.{rules}
use Rattle.std.specs.Prelude.{slice_get, option_map, option_and_then, fold, find, pos, IfSome}
use Rattle.std.specs.Prelude.{IsSome, unwrap_or, ◌||◌, ◌==◌, ◌<◌, ◌≤◌, ◌^◌, drop}
use Rattle.std.specs.Str.{bytes_eq}
use Rattle.std.specs.Str.Parse.{IsNumeral, digits_value, starts_with_minus, without_leading_plus}
use Rattle.std.proofs.lemmas.Bool.{ne_eqb}
use Rattle.std.proofs.lemmas.Int.{ints}
use Rattle.std.proofs.lemmas.Str.Parse.{digit_from_value}
use Rattle.clap.proofs.ValueTestLemmas.{accepts-Accepts}
use Rattle.std.specs.Option.{option_map_or}
use Rattle.clap.specs.Lexer.{long_of, short_of, without_minus}
use Rattle.clap.specs.Facts.{explicit_source, parser_of_value}
use Rattle.clap.specs.ValueTests.{accepts}
use Rattle.clap.specs.Walk.{Held, Names, Row, Rule, Step, Text, Waiting, Walk, Outcome, after_flag}
use Rattle.clap.specs.Walk.{after_step, answers_to, arg_by_index, arg_by_long, bundle}
use Rattle.clap.specs.Walk.{first_of, has_row, long_met, long_or_other, nothing_held}
use Rattle.clap.specs.Walk.{one_of, plain_word, reading_by, row_text, rows_after, settled}
use Rattle.clap.specs.Walk.{short_or_plain}
use Rattle.clap.specs.Walk.{stop_after, subcommand_met, subcommand_or_other, to_positional, walk}
use Rattle.clap.specs.Walk.{walk_from, walked, walked_from, with_default, word_met}
use Rattle.clap.specs.Walk as walking
use Rattle.clap.specs.Simple.{App, Shape, built, built_leaf, entered, inherited, marked_built}
use Rattle.clap.specs.Simple.{names_of, subcommand_of, with_leaf_noted}
use Rattle.clap.specs.Kinds.{Kinds, check_kinds, or_else}
use Rattle.clap.specs.Takes.{is_given}
use Rattle.clap.specs.Values.{IsSignedIn}
use Rattle.clap.specs.Faults.{check_fault, defaults_fault, entered_fault, level_fault, other_fault}
use Rattle.clap.specs.Faults.{settle_fault, step_fault, turn_fault, walk_fault, word_fault}
use Rattle.std.specs.Prelude.{if◌then◌else◌}
use Rattle.clap.specs.declared.builder.action.ArgAction.TheVariants as action
use Rattle.clap.specs.declared.builder.value_parser.Reading.{Reading}
use Rattle.clap.specs.declared.builder.value_parser.ValueParser.TheVariants.{Signed}
use Rattle.strc_cli_words.specs.Lines.{HasNumbers, HasSharing, IsBetween, IsCommand, IsNumber}
use Rattle.strc_cli_words.specs.Lines.{Writes32}
use Rattle.strc_cli_words.specs.Lines.{WritesBetween, check_app, faults, graph_app, most_batched}
use Rattle.strc_cli_words.specs.Lines.{emit_app, most_fused, most_ways, plan_app, run_app, strc_app}
use Rattle.strc_cli_words.proofs.FaultlessRows.{none_first, none_second, Each, find_each, IsGood}
use Rattle.strc_cli_words.proofs.FaultlessRows.{HasPlainDefault, IsPlainRule, IsRead, IsValueFor}
use Rattle.strc_cli_words.proofs.FaultlessRows.{TakesText, any_value, defaults_good, settled_good}
use Rattle.strc_cli_words.proofs.FaultlessRows.{takes_batch, takes_entries, takes_number}
use Rattle.strc_cli_words.proofs.FaultlessRows.{takes_ways, walk_good}

-- ---- where the program's words stop

-- the name of a subcommand
abbrev IsName : Text → Type 0
IsName name =
    (name ≡ codes "run")
    ⊎ ((name ≡ codes "check") ⊎ ((name ≡ codes "plan")
    ⊎ ((name ≡ codes "emit") ⊎ (name ≡ codes "graph"))))

abbrev StopsAtName : Option (Text × List Text) → Type 0
StopsAtName stopped = IfSome stopped (λ p. IsName p.0)

abbrev NeverStops : Step → Type 0
NeverStops (walking.subcommand name) = ⊥
NeverStops step = Unit {0}

stays_at_name : (rules : List Rule) (word : Text) (w : Walk) (kept : Held) (step : Step)
    → NeverStops step → StopsAtName w.stopped
    → StopsAtName (after_step rules word w kept step).stopped
stays_at_name rules word w kept (walking.next waiting) never at_name = at_name
stays_at_name rules word w kept (walking.trailing position) never at_name = at_name
stays_at_name rules word w kept (walking.subcommand name) never at_name = absurd never
stays_at_name rules word w kept walking.value never at_name = go (arg_by_index rules w.position)
  where
    go : (found : Option Rule) → StopsAtName (to_positional rules found word w kept).stopped
    go None = at_name
    go (Some rule) = tt

plain_never : (rules : List Rule) (waiting : Waiting) (word : Text) (kept : Held) → NeverStops
    (plain_word rules waiting word kept).1
plain_never rules walking.idle word kept = tt
plain_never rules (walking.option id) word kept = tt
plain_never rules walking.positional word kept = tt

after_never : (rules : List Rule) (waiting : Waiting) (word : Text) (kept : Held)
    (outcome : Outcome) → NeverStops (after_flag rules waiting word kept outcome).1
after_never rules waiting word kept walking.done = tt
after_never rules waiting word kept (walking.waits id) = tt
after_never rules waiting word kept walking.plain = plain_never rules waiting word kept
after_never rules waiting word kept walking.refused = plain_never rules waiting word kept

other_never : (rules : List Rule) (waiting : Waiting) (word : Text)
    (long : Option (Text × Option Text)) (kept : Held) → NeverStops
    (long_or_other rules waiting word long kept).1
other_never rules waiting word (Some p) kept = after_never rules waiting word _
    (long_met rules (arg_by_long rules p.0) p.1 kept).1
other_never rules waiting word None kept = go (short_of word)
  where
    go : (short : Option Text) → NeverStops (short_or_plain rules waiting word short kept).1
    go None = plain_never rules waiting word kept
    go (Some flags) = after_never rules waiting word _ (bundle rules flags kept).1

abbrev names : Names
names = names_of (built strc_app)

abbrev top : Shape
top = (built strc_app).top

-- a subcommand that is met and has no fault is one of the five: `help` has a fault
met_name : (waiting : Waiting) (word name : Text) (kept : Held)
    → subcommand_met names waiting word ≡ Some name
    → other_fault top (Some name) word kept ≡ [] → IsName name
met_name walking.idle word name kept met none =
    go (answers_to word (codes "run", [])) (answers_to word (codes "check", []))
    (answers_to word (codes "plan", [])) (answers_to word (codes "emit", []))
    (answers_to word (codes "graph", [])) (answers_to word (codes "help", [])) met none
  where
    go : (is_run is_check is_plan is_emit is_graph is_help : Bool)
        → option_map {T = Text × List Text} (λ s. s.0)
        (cond is_run (Some (codes "run", [])) (cond is_check (Some (codes "check", []))
        (cond is_plan (Some (codes "plan", [])) (cond is_emit (Some (codes "emit", []))
        (cond is_graph (Some (codes "graph", []))
        (cond is_help (Some (codes "help", [])) None)))))) ≡ Some name
        → other_fault top (Some name) word kept ≡ [] → IsName name
    go true is_check is_plan is_emit is_graph is_help met none = inl cc
    go false true is_plan is_emit is_graph is_help met none = inr (inl cc)
    go false false true is_emit is_graph is_help met none = inr (inr (inl cc))
    go false false false true is_graph is_help met none = inr (inr (inr (inl cc)))
    go false false false false true is_help met none = inr (inr (inr (inr cc)))
    go false false false false false true met none =
        let is : name ≡ codes "help" = cc in
        let bad = subst (λ (n : Text). other_fault top (Some n) word kept ≡ []) is none in cc
    go false false false false false false met none = cc
met_name (walking.option id) word name kept met none = cc
met_name walking.positional word name kept met none = cc

met_at_name : (word : Text) (w : Walk) (position : ℕ) (kept : Held) (name : Option Text)
    (waiting : Waiting) → subcommand_met names waiting word ≡ name
    → other_fault top name word kept ≡ [] → StopsAtName w.stopped
    → StopsAtName
    (after_step top.rules word w (subcommand_or_other top.rules name waiting position word kept).0
    (subcommand_or_other top.rules name waiting position word kept).1).stopped
met_at_name word w position kept (Some name) waiting met none at_name =
    met_name waiting word name kept met none
met_at_name word w position kept None waiting met none at_name = go (bytes_eq word (45 ∷ 45 ∷ []))
  where
    go : (b : Bool) → StopsAtName (after_step top.rules word w
        (if b then (kept, walking.trailing position) else long_or_other top.rules waiting word
        (long_of word) kept).0
        (if b then (kept, walking.trailing position) else long_or_other top.rules waiting word
        (long_of word) kept).1).stopped
    go true = at_name
    go false =
        stays_at_name top.rules word w _ _
        (other_never top.rules waiting word (long_of word) kept) at_name

word_at_name : (is_trailing : Bool) (w : Walk) (word : Text)
    → word_fault top names is_trailing w.waiting word w.held ≡ [] → StopsAtName w.stopped
    → StopsAtName
    (after_step top.rules word w
    (word_met top.rules names is_trailing w.waiting w.position word w.held).0
    (word_met top.rules names is_trailing w.waiting w.position word w.held).1).stopped
word_at_name true w word none at_name =
    stays_at_name top.rules word w w.held walking.value tt at_name
word_at_name false w word none at_name =
    met_at_name word w w.position w.held
    (subcommand_met names w.waiting word) w.waiting refl none at_name

turn_at_name : (w : Walk) (word : Text) → turn_fault top names w word ≡ [] → StopsAtName w.stopped
    → StopsAtName (walked top.rules names w word).stopped
unfolding walked
turn_at_name w word none at_name = go w.stopped at_name none
  where
    go : (stopped : Option (Text × List Text)) → StopsAtName stopped
        → (if is_some stopped then [] else or_else
        (word_fault top names w.is_trailing w.waiting word w.held)
        (step_fault top w.position
        (word_met top.rules names w.is_trailing w.waiting w.position word w.held).0
        (word_met top.rules names w.is_trailing w.waiting w.position word w.held).1)) ≡ []
        → StopsAtName (walked_from top.rules names stopped w word).stopped
    go (Some p) here none = here
    go None here none =
        let met = word_met top.rules names w.is_trailing w.waiting w.position word w.held in
        word_at_name w.is_trailing w word
        (none_first (word_fault top names w.is_trailing w.waiting word w.held)
        (step_fault top w.position met.0 met.1) none) at_name

walk_at_name : (words : List Text) (w : Walk) → walk_fault top names w words ≡ []
    → StopsAtName w.stopped → StopsAtName (fold (walked top.rules names) w words).stopped
unfolding walk_fault
walk_at_name [] w none at_name = at_name
walk_at_name (word ∷ words) w none at_name =
    let one = turn_fault top names w word in
    let other = walk_fault top names (walked top.rules names w word) words in
    walk_at_name words (walked top.rules names w word) (none_second one other none)
    (turn_at_name w word (none_first one other none) at_name)

-- ---- what the words of a subcommand give

abbrev shape_of : App → Shape
shape_of app = built_leaf (inherited (with_leaf_noted (marked_built strc_app.top)) app.top)

-- FILE and NAME, which are no numbers
is_text : {id : Text} → takes_number id ≡ false → takes_ways id ≡ false → takes_entries id ≡ false
    → takes_batch id ≡ false → TakesText id
is_text number ways entries batch =
    record { number = number; ways = ways; entries = entries; batch = batch }

text_fits : {id : Text} {reading : Reading} {value : Text} → TakesText id
    → IsValueFor id reading value
text_fits {id} {reading} {value} text = any_value id reading value text

-- an argument that one use gives one value
takes_one : (rule : Rule) → rule.action ≡ Some action.Set
    → rule.range ≡ Some (record { start_inclusive = 1; end_inclusive = 1 })
    → ((value : Text) → accepts rule.ignore_case (parser_of_value rule.parser) value ≡ true
    → IsValueFor rule.id (reading_by rule) value) → IsPlainRule rule
takes_one rule set one fits = inl (record { action = set; range = one; fits = fits })

plain_run : Each IsPlainRule (shape_of run_app).rules
plain_run = (
  takes_one _ refl refl (λ value passes. text_fits (is_text refl refl refl refl)),
  (
    takes_one _ refl refl
        (λ value passes. record {
          number = λ is. (refl, passes);
          ways = λ is. cc;
          entries = λ is. cc;
          batch = λ is. cc;
        }),
    (
      takes_one _ refl refl
          (λ value passes. record {
            number = λ is. (refl, passes);
            ways = λ is. cc;
            entries = λ is. cc;
            batch = λ is. cc;
          }),
      (
        takes_one _ refl refl
            (λ value passes. record {
              number = λ is. cc;
              ways = λ is. (refl, passes);
              entries = λ is. cc;
              batch = λ is. cc;
            }),
        (
          takes_one _ refl refl
              (λ value passes. record {
                number = λ is. cc;
                ways = λ is. cc;
                entries = λ is. (refl, passes);
                batch = λ is. cc;
              }),
          (
            takes_one _ refl refl
                (λ value passes. record {
                  number = λ is. cc;
                  ways = λ is. cc;
                  entries = λ is. cc;
                  batch = λ is. (refl, passes);
                }),
            (
              inr (inl (record {
                action = refl;
                range = refl;
                missing = refl;
                text = is_text refl refl refl refl;
              })),
              (
                inr (inl (record {
                  action = refl;
                  range = refl;
                  missing = refl;
                  text = is_text refl refl refl refl;
                })),
                (
                  inr (inr (inr (record {
                    action = refl;
                    range = refl;
                    text = is_text refl refl refl refl;
                  }))),
                  (
                    takes_one _ refl refl
                        (λ value passes. text_fits (is_text refl refl refl refl)),
                    (inr (inr (inl refl)), tt),
                  ),
                ),
              ),
            ),
          ),
        ),
      ),
    ),
  ),
)

default_run : Each HasPlainDefault (shape_of run_app).rules
default_run = (
  inl refl,
  (
    inl refl,
    (
      inl refl,
      (
        inl refl,
        (
          inl refl,
          (
            inl refl,
            (
              inr (record {
                value = codes "false";
                is = refl;
                text = is_text refl refl refl refl;
              }),
              (
                inr (record {
                  value = codes "false";
                  is = refl;
                  text = is_text refl refl refl refl;
                }),
                (inl refl, (inl refl, (inl refl, tt))),
              ),
            ),
          ),
        ),
      ),
    ),
  ),
)

plain_graph : Each IsPlainRule (shape_of graph_app).rules
plain_graph = (
  takes_one _ refl refl (λ value passes. text_fits (is_text refl refl refl refl)),
  (
    takes_one _ refl refl
        (λ value passes. record {
          number = λ is. (refl, passes);
          ways = λ is. cc;
          entries = λ is. cc;
          batch = λ is. cc;
        }),
    (
      takes_one _ refl refl
          (λ value passes. record {
            number = λ is. cc;
            ways = λ is. (refl, passes);
            entries = λ is. cc;
            batch = λ is. cc;
          }),
      (
        takes_one _ refl refl
            (λ value passes. record {
              number = λ is. cc;
              ways = λ is. cc;
              entries = λ is. (refl, passes);
              batch = λ is. cc;
            }),
        (
          takes_one _ refl refl
              (λ value passes. record {
                number = λ is. (refl, passes);
                ways = λ is. cc;
                entries = λ is. cc;
                batch = λ is. cc;
              }),
          (
            takes_one _ refl refl (λ value passes. text_fits (is_text refl refl refl refl)),
            (
              takes_one _ refl refl (λ value passes. text_fits (is_text refl refl refl refl)),
              (inr (inr (inl refl)), tt),
            ),
          ),
        ),
      ),
    ),
  ),
)

default_graph : Each HasPlainDefault (shape_of graph_app).rules
default_graph = (
  inl refl,
  (
    inl refl,
    (inl refl, (inl refl, (inl refl, (inl refl, (inl refl, (inl refl, tt)))))),
  ),
)

plain_check : Each IsPlainRule (shape_of check_app).rules
plain_check = (
  takes_one _ refl refl (λ value passes. text_fits (is_text refl refl refl refl)),
  (
    inr (inl (record {
      action = refl;
      range = refl;
      missing = refl;
      text = is_text refl refl refl refl;
    })),
    (
      takes_one _ refl refl (λ value passes. text_fits (is_text refl refl refl refl)),
      (
        takes_one _ refl refl (λ value passes. text_fits (is_text refl refl refl refl)),
        (inr (inr (inl refl)), tt),
      ),
    ),
  ),
)

default_check : Each HasPlainDefault (shape_of check_app).rules
default_check = (
  inl refl,
  (
    inr (record {
      value = codes "false";
      is = refl;
      text = is_text refl refl refl refl;
    }),
    (inl refl, (inl refl, (inl refl, tt))),
  ),
)

plain_plan : Each IsPlainRule (shape_of plan_app).rules
plain_plan = (
  takes_one _ refl refl (λ value passes. text_fits (is_text refl refl refl refl)),
  (
    inr (inl (record {
      action = refl;
      range = refl;
      missing = refl;
      text = is_text refl refl refl refl;
    })),
    (
      takes_one _ refl refl (λ value passes. text_fits (is_text refl refl refl refl)),
      (
        takes_one _ refl refl (λ value passes. text_fits (is_text refl refl refl refl)),
        (inr (inr (inl refl)), tt),
      ),
    ),
  ),
)

default_plan : Each HasPlainDefault (shape_of plan_app).rules
default_plan = (
  inl refl,
  (
    inr (record {
      value = codes "false";
      is = refl;
      text = is_text refl refl refl refl;
    }),
    (inl refl, (inl refl, (inl refl, tt))),
  ),
)

-- the words of `emit`
abbrev other_rules : List Rule
other_rules = (shape_of emit_app).rules

plain_other : Each IsPlainRule other_rules
plain_other = (
  takes_one _ refl refl (λ value passes. text_fits (is_text refl refl refl refl)),
  (
    takes_one _ refl refl (λ value passes. text_fits (is_text refl refl refl refl)),
    (inr (inr (inl refl)), tt),
  ),
)

default_other : Each HasPlainDefault other_rules
default_other = (inl refl, (inl refl, (inl refl, tt)))

without_minus-cond : (text : Text) → without_minus text ≡ cond (starts_with_minus text)
    (drop 1 text) text
without_minus-cond [] = refl
without_minus-cond (x ∷ xs) = go (x == 45)
  where
    go : (b : Bool) → unwrap_or (cond b (Some xs) None) (x ∷ xs) ≡ cond b xs (x ∷ xs)
    go true = refl
    go false = refl

-- digits have no plus sign before them
no_plus : (digits : List ℕ) → IsNumeral 10 digits → without_leading_plus digits ≡ digits
no_plus [] numeral = refl
no_plus (digit ∷ digits) numeral =
    let plus : (digit == 43) ≡ false = ne_eqb _ _
    (λ e. omega (arith, digit_from_value digit numeral.1.0)) in
    ap (λ (b : Bool). drop (cond b 1 0) (digit ∷ digits)) plus

-- what passes such bounds is read as a number of 32 bits within them
is_number : (least most : ℕ) → most < 2 ^ 32 → (text : Text)
    → accepts false (Signed (pos least) (pos most)) text ≡ true
    → (number : ℕ) × (Writes32 (without_minus text) number × IsBetween least most number)
is_number least most bound text passes = go (starts_with_minus text) refl
  where
    passed : IsSignedIn (pos least) (pos most) text
    passed = accepts-Accepts false (Signed (pos least) (pos most)) text passes

    go : (b : Bool) → starts_with_minus text ≡ b
        → (number : ℕ) × (Writes32 (without_minus text) number × IsBetween least most number)
    go true minus =
        let least_is = rw minus at passed.2 in
        let numeral : IsNumeral 10 (drop 1 text) = rw minus at passed.0 in
        let high : least ≤ digits_value 10 (drop 1 text) = omega (arith, ints) in
        let low : digits_value 10 (drop 1 text) ≤ most = omega (arith, ints) in
        let small : digits_value 10 (drop 1 text) < 2 ^ 32 = omega (arith, low, bound) in
        let is : without_minus text ≡ drop 1 text = without_minus-cond text ∙ ap
        (λ (b : Bool). cond b (drop 1 text) text) minus in (
          digits_value 10 (drop 1 text),
          (rw (is, no_plus (drop 1 text) numeral) (numeral, refl, small), (high, low)),
        )
    go false minus =
        let least_is = rw minus at passed.2 in
        let most_is = rw minus at passed.3 in
        let numeral : IsNumeral 10 (without_leading_plus text) = rw minus at passed.0 in
        let high : least ≤ digits_value 10 (without_leading_plus text) = omega (arith, ints) in
        let low : digits_value 10 (without_leading_plus text) ≤ most = omega (arith, ints) in
        let small : digits_value 10 (without_leading_plus text) < 2 ^ 32 =
        omega (arith, low, bound) in
        let is : without_minus text ≡ text = without_minus-cond text ∙ ap
        (λ (b : Bool). cond b (drop 1 text) text) minus in (
          digits_value 10 (without_leading_plus text),
          (rw is (numeral, refl, small), (high, low)),
        )

-- a text writes one number
one_number : (least most : ℕ) (text : Text) (written : ℕ) → Writes32 text written
    → IsBetween least most written → (number : ℕ) → Writes32 text number
    → IsBetween least most number
one_number least most text written writes between number is =
    subst (IsBetween least most) (sym writes.1 ∙ is.1) between

given_file : (rows : List Row) → Each IsGood rows → is_given (codes "FILE") rows ≡ true → IsSome
    (first_of (codes "FILE") rows)
given_file rows good = go (find (λ row. bytes_eq row.id (codes "FILE")) rows)
    (find_each IsGood (λ row. bytes_eq row.id (codes "FILE")) rows good)
  where
    go : (found : Option Row) → IfSome found
        (λ row. IsGood row × (bytes_eq row.id (codes "FILE") ≡ true))
        → option_map_or (λ row. explicit_source row.source) found false ≡ true → IsSome
        (option_and_then (λ row. slice_get row.values 0) found)
    go None is given = cc
    go (Some row) is given = rw is.0.values refl

-- what the option of this id takes is a number between these
abbrev Takes : Text → (least most : ℕ) → Type 0
Takes option least most = (id : Text) (reading : Reading) (value : Text)
    → bytes_eq id option ≡ true → IsValueFor id reading value → IsRead least most reading value

-- what was given of an option is none, or such a number
record IsGiven (text : Option Text) (least most : ℕ) : Type 0 where
  number : IsNumber text
  between : WritesBetween least most text

row_number : (least most : ℕ) → most < 2 ^ 32 → (row : Row) (value : Text)
    (more : List Text) → row.values ≡ value ∷ more → IsRead least most row.reading value
    → IsGiven (row_text row) least most
row_number least most bound row value more values read =
    let writes = is_number least most bound value read.1 in record {
      number = (Some writes.0, rw (values, read.0) writes.1.0);
      between = rw (values, read.0)
          (one_number least most (without_minus value) writes.0 writes.1.0 writes.1.1);
    }

number_read : (option : Text) (least most : ℕ) → most < 2 ^ 32 → Takes option least most
    → (rows : List Row) → Each IsGood rows → IsGiven (one_of option rows) least most
number_read option least most bound takes rows good =
    go (find (λ row. bytes_eq row.id option) rows)
    (find_each IsGood (λ row. bytes_eq row.id option) rows good)
  where
    go : (found : Option Row) → IfSome found
        (λ row. IsGood row × (bytes_eq row.id option ≡ true))
        → IsGiven (option_and_then row_text found) least most
    go None is = record { number = (None, tt); between = λ number none. absurd none }
    go (Some row) is =
        row_number least most bound row is.0.value is.0.more is.0.values
        (takes row.id row.reading is.0.value is.1 is.0.fits)

or_second : (first second : Bool) → second ≡ true → (first || second) ≡ true
or_second true second is = refl
or_second false second is = is

rounds_read : (rows : List Row) → Each IsGood rows → IsNumber (one_of (codes "rounds") rows)
rounds_read rows good = (number_read (codes "rounds") 0 4294967295 (omega arith)
    (λ id reading value is fits.
    fits.number (ap (λ (b : Bool). b || (bytes_eq id (codes "workers")
    || bytes_eq id (codes "depth"))) is)) rows good).number

workers_read : (rows : List Row) → Each IsGood rows → IsNumber (one_of (codes "workers") rows)
workers_read rows good = (number_read (codes "workers") 0 4294967295 (omega arith)
    (λ id reading value is fits. fits.number (or_second (bytes_eq id (codes "rounds")) _
    (ap (λ (b : Bool). b || bytes_eq id (codes "depth")) is)))
    rows good).number

depth_read : (rows : List Row) → Each IsGood rows → IsNumber (one_of (codes "depth") rows)
depth_read rows good = (number_read (codes "depth") 0 4294967295 (omega arith)
    (λ id reading value is fits. fits.number (or_second (bytes_eq id (codes "rounds")) _
    (or_second (bytes_eq id (codes "workers")) _ is)))
    rows good).number

sharing_read : (rows : List Row) → Each IsGood rows → HasSharing rows
sharing_read rows good =
    let ways = number_read (codes "ways") 1 most_ways (omega arith)
    (λ id reading value is fits. fits.ways is) rows good in
    let fuse = number_read (codes "fuse") 0 most_fused (omega arith)
    (λ id reading value is fits. fits.entries is) rows good in
    record {
      workers = workers_read rows good;
      ways = ways.number;
      few = ways.between;
      fuse = fuse.number;
      short = fuse.between;
    }

numbers_read : (rows : List Row) → Each IsGood rows → HasNumbers rows
numbers_read rows good =
    let batch = number_read (codes "batch") 1 most_batched (omega arith)
    (λ id reading value is fits. fits.batch is) rows good in
    record {
      rounds = rounds_read rows good;
      sharing = sharing_read rows good;
      batch = batch.number;
      batched = batch.between;
    }

file_given : (given : Bool) → check_kinds false false (not given || false) ≡ [] → given ≡ true
file_given true none = refl
file_given false none = cc

-- the steps of a level that has no fault
record IsFaultless (shape : Shape) (names : Names) (words : List Text) (has : Bool) (below : Kinds)
    : Type 0 where
  walks : walk_fault shape names (walk_from nothing_held) words ≡ []
  enters : below ≡ []
  settles : settle_fault shape.rules shape.args_override_self
      (walk shape.rules names nothing_held words).held ≡ []
  checks : check_fault shape (rows_after shape.rules names words) has ≡ []

faultless_level : (shape : Shape) (names : Names) (words : List Text) (has : Bool) (below : Kinds)
    → level_fault shape names nothing_held words has below ≡ [] → IsFaultless shape names words has
    below
faultless_level shape names words has below none =
    let end = (walk shape.rules names nothing_held words).held in
    let walks = walk_fault shape names (walk_from nothing_held) words in
    let settles = settle_fault shape.rules shape.args_override_self end in
    let fills = defaults_fault (settled shape.rules end).rows shape.rules in
    let checks = check_fault shape (rows_after shape.rules names words) has in
    let second = none_second walks (or_else below (or_else settles (or_else fills checks))) none in
    let third = none_second below (or_else settles (or_else fills checks)) second in
    record {
      walks = none_first walks (or_else below (or_else settles (or_else fills checks))) none;
      enters = none_first below (or_else settles (or_else fills checks)) second;
      settles = none_first settles (or_else fills checks) third;
      checks = none_second fills checks (none_second settles (or_else fills checks) third);
    }

-- the rows of the words after a subcommand, where they have no fault
rows_good : (shape : Shape) → Each IsPlainRule shape.rules → Each HasPlainDefault shape.rules
    → shape.args_override_self ≡ false → (words : List Text)
    → IsFaultless shape [] words false [] → Each IsGood (rows_after shape.rules [] words)
rows_good shape plain defaults once words faultless =
    let end = (walk shape.rules [] nothing_held words).held in
    let met = walk_good shape plain once words (walk_from nothing_held) faultless.walks tt in
    let settles =
    subst (λ (again : Bool). settle_fault shape.rules again end ≡ []) once faultless.settles in
    defaults_good shape.rules defaults (settled shape.rules end).rows
    (settled_good shape.rules plain end settles met)

-- the words after `run`
runs : (words : List Text) → level_fault (shape_of run_app) [] nothing_held words false [] ≡ []
    → IsCommand (Some (codes "run", rows_after (shape_of run_app).rules [] words))
runs words none =
    let run = shape_of run_app in
    let faultless = faultless_level run [] words false [] none in
    let rows = rows_after run.rules [] words in
    let good = rows_good run plain_run default_run refl words faultless in
    record {
      name = codes "run";
      rows = rows;
      is = refl;
      known = inl (refl, numbers_read rows good);
      file = given_file rows good (file_given (is_given (codes "FILE") rows) faultless.checks);
    }

-- those after `check`
checks : (words : List Text) → level_fault (shape_of check_app) [] nothing_held words false [] ≡ []
    → IsCommand (Some (codes "check", rows_after (shape_of check_app).rules [] words))
checks words none =
    let check = shape_of check_app in
    let faultless = faultless_level check [] words false [] none in
    let rows = rows_after check.rules [] words in
    let good = rows_good check plain_check default_check refl words faultless in
    record {
      name = codes "check";
      rows = rows;
      is = refl;
      known = inr (inl refl);
      file = given_file rows good (file_given (is_given (codes "FILE") rows) faultless.checks);
    }

-- those after `plan`
plans : (words : List Text) → level_fault (shape_of plan_app) [] nothing_held words false [] ≡ []
    → IsCommand (Some (codes "plan", rows_after (shape_of plan_app).rules [] words))
plans words none =
    let plan = shape_of plan_app in
    let faultless = faultless_level plan [] words false [] none in
    let rows = rows_after plan.rules [] words in
    let good = rows_good plan plain_plan default_plan refl words faultless in
    record {
      name = codes "plan";
      rows = rows;
      is = refl;
      known = inr (inr (inl refl));
      file = given_file rows good (file_given (is_given (codes "FILE") rows) faultless.checks);
    }

-- those after `emit`
emits : (words : List Text) → level_fault (shape_of emit_app) [] nothing_held words false [] ≡ []
    → IsCommand (Some (codes "emit", rows_after (shape_of emit_app).rules [] words))
emits words none =
    let emit = shape_of emit_app in
    let faultless = faultless_level emit [] words false [] none in
    let rows = rows_after emit.rules [] words in
    let good = rows_good emit plain_other default_other refl words faultless in
    record {
      name = codes "emit";
      rows = rows;
      is = refl;
      known = inr (inr (inr (inl refl)));
      file = given_file rows good (file_given (is_given (codes "FILE") rows) faultless.checks);
    }

-- those after `graph`
graphs : (words : List Text) → level_fault (shape_of graph_app) [] nothing_held words false [] ≡ []
    → IsCommand (Some (codes "graph", rows_after (shape_of graph_app).rules [] words))
graphs words none =
    let graph = shape_of graph_app in
    let faultless = faultless_level graph [] words false [] none in
    let rows = rows_after graph.rules [] words in
    let good = rows_good graph plain_graph default_graph refl words faultless in
    record {
      name = codes "graph";
      rows = rows;
      is = refl;
      known = inr (inr (inr (inr (
        refl,
        record {
          sharing = sharing_read rows good;
          depth = depth_read rows good;
        },
      ))));
      file = given_file rows good (file_given (is_given (codes "FILE") rows) faultless.checks);
    }

-- what was met of this name, where it has no fault, is a command
abbrev Enters : List Text → Text → Type 0
Enters words name =
    entered_fault (built strc_app) (Some (name, words)) ≡ []
    → IsCommand (entered (built strc_app) (Some (name, words)))

enters_name : (words : List Text) (name : Text) → IsName name → Enters words name
enters_name words name (inl is) = subst (Enters words) (sym is) (runs words)
enters_name words name (inr (inl is)) = subst (Enters words) (sym is) (checks words)
enters_name words name (inr (inr (inl is))) = subst (Enters words) (sym is) (plans words)
enters_name words name (inr (inr (inr (inl is)))) = subst (Enters words) (sym is) (emits words)
enters_name words name (inr (inr (inr (inr is)))) = subst (Enters words) (sym is) (graphs words)

-- words that have no fault enter a subcommand
enters : (stopped : Option (Text × List Text)) → StopsAtName stopped
    → is_some (entered (built strc_app) stopped) ≡ true
    → entered_fault (built strc_app) stopped ≡ [] → IsCommand (entered (built strc_app) stopped)
enters None at_name is none = cc
enters (Some (name, words)) at_name is none = enters_name words name at_name none

subcommand_given : (rows : List Row) (has : Bool) → check_fault top rows has ≡ [] → has ≡ true
subcommand_given rows true none = refl
subcommand_given rows false none = cc

pub faultless_command : (words : List Text) → faults words ≡ []
    → IsCommand (subcommand_of strc_app words)
faultless_command words none =
    let stopped = stop_after top.rules names (drop 1 words) in
    let has = is_some (entered (built strc_app) stopped) in
    let faultless = faultless_level top names (drop 1 words) has
    (entered_fault (built strc_app) stopped) none in
    enters stopped (walk_at_name (drop 1 words) (walk_from nothing_held) faultless.walks tt)
    (subcommand_given (rows_after top.rules names (drop 1 words)) has faultless.checks)
    faultless.enters
