-- Words that have no fault leave rows of one value each, a number of 32 bits for `--rounds`,
-- `--workers` and `--depth`, one from 1 to 64 for `--ways`, one of at most 65,536 for `--fuse`, and
-- one from 1 to 4,096 for `--batch`.
use Rattle.std.proofs.Common.{append-nil, ◌≡◌, ◌∙◌, ℕ, zero, suc, Bool, true, false, cond, not}
use Rattle.std.proofs.Common.{◌&&◌, refl, sym, ap, subst, List, [], ◌∷◌, ◌++◌, length, Option, Some}
use Rattle.std.proofs.Common.{None, is_some, ◌⊎◌, inl, inr, arith, codes}
use Rattle.std.specs.Prelude.{slice_get, fold, find, pos, IfSome, ◌||◌, ◌==◌, encode_utf8, drop}
use Rattle.std.specs.Str.{bytes_eq, chars}
use Rattle.std.proofs.lemmas.Bool.{ne_eqb}
use Rattle.std.specs.Option.{option_map_or}
use Rattle.clap.specs.Lexer.{long_of, short_of}
use Rattle.clap.specs.Facts.{parser_of_value, unwrap_or_range}
use Rattle.clap.specs.ValueTests.{accepts}
use Rattle.clap.specs.Walk.{Held, Row, Rule, Step, Text, Waiting, Walk, Outcome, action_of}
use Rattle.clap.specs.Walk.{after_flag, after_step, arg_by_id, arg_by_index, arg_by_long}
use Rattle.clap.specs.Walk.{arg_by_short, at_row, attached_value, bundle, bundle_met, bundle_step}
use Rattle.clap.specs.Walk.{flag_met, has_row, is_pending, long_met, long_or_other}
use Rattle.clap.specs.Walk.{more_values, most_values, option_met, option_word}
use Rattle.clap.specs.Walk.{plain_word, positional_held, reacted, reading_by, settled, settled_rows}
use Rattle.clap.specs.Walk.{short_met, short_or_plain, subcommand_met, subcommand_or_other}
use Rattle.clap.specs.Walk.{takes_several, takes_values, to_positional, used, used_by_id}
use Rattle.clap.specs.Walk.{values_or_missing, walked, walked_from, with_default, with_values}
use Rattle.clap.specs.Walk.{default_rows, word_met}
use Rattle.clap.specs.Walk as walking
use Rattle.clap.specs.Simple.{Shape}
use Rattle.clap.specs.Kinds.{Kinds, or_else, range_kinds, values_kinds, value_kinds}
use Rattle.clap.specs.Values.{refused_kind}
use Rattle.clap.specs.Faults.{bundle_fault, bundle_step_fault, action_fault, flag_word_fault}
use Rattle.clap.specs.Faults.{flags_fault, long_fault, option_fault, other_fault, positional_fault}
use Rattle.clap.specs.Faults.{react_fault, repeat_fault, settle_fault, short_fault, step_fault}
use Rattle.clap.specs.Faults.{stray_fault, turn_fault, use_fault, values_fault, walk_fault}
use Rattle.clap.specs.Faults.{word_fault}
use Rattle.clap.specs.declared.builder.action.ArgAction.TheVariants as action
use Rattle.clap.specs.declared.error.kind.ErrorKind.TheVariants as kind
use Rattle.std.specs.Prelude.{if◌then◌else◌}
use Rattle.clap.specs.declared.parser.matches.ValueSource.{ValueSource}
use Rattle.clap.specs.declared.parser.matches.ValueSource.TheVariants.{CommandLine, DefaultValue}
use Rattle.clap.specs.declared.builder.value_parser.Reading.{Reading}
use Rattle.clap.specs.declared.builder.value_parser.Reading.TheVariants.{WithoutMinus}
use Rattle.clap.specs.declared.builder.value_parser.ValueParser.{ValueParser}
use Rattle.clap.specs.declared.builder.value_parser.ValueParser.TheVariants.{Signed}
use Rattle.strc_cli_words.specs.Lines.{most_batched, most_fused, most_ways}

-- ---- faults of two steps

pub none_first : (one other : Kinds) → or_else one other ≡ [] → one ≡ []
none_first [] other none = refl
none_first (kind ∷ kinds) other none = none

pub none_second : (one other : Kinds) → or_else one other ≡ [] → other ≡ []
none_second [] other none = none
none_second (kind ∷ kinds) other none = cc

-- ---- lists

abbrev pub Each : {X : Type 0} → (X → Type 0) → List X → Type 0
Each P [] = Unit {0}
Each P (x ∷ xs) = P x × Each P xs

pub find_each : {X : Type 0} (P : X → Type 0) (test : X → Bool) (xs : List X) → Each P xs → IfSome
    (find test xs) (λ x. P x × (test x ≡ true))
find_each P test [] each = tt
find_each P test (x ∷ xs) each = go (test x) refl (find_each P test xs each.1)
  where
    go : (b : Bool) → test x ≡ b → IfSome (find test xs) (λ y. P y × (test y ≡ true)) → IfSome
        (cond b (Some x) (find test xs)) (λ y. P y × (test y ≡ true))
    go true is rest = (each.0, is)
    go false is rest = rest

each_more : {X : Type 0} (P : X → Type 0) (xs : List X) (x : X) → Each P xs → P x → Each P
    (xs ++ x ∷ [])
each_more P [] x each here = (here, tt)
each_more P (y ∷ ys) x each here = (each.0, each_more P ys x each.1 here)

-- a change at an argument that has no row is at the end
no_row : (id : Text) (change : Row → List Row) (missing rows : List Row) → has_row id rows ≡ false
    → at_row id change missing rows ≡ rows ++ missing
no_row id change missing [] none = refl
no_row id change missing (row ∷ rows) none = go (bytes_eq row.id id) none
    (no_row id change missing rows)
  where
    go : (b : Bool) → (b || has_row id rows) ≡ false →
        (has_row id rows ≡ false → at_row id change missing rows ≡ rows ++ missing)
        → cond b (change row ++ rows) (row ∷ at_row id change missing rows) ≡ row ∷
        (rows ++ missing)
    go true none rest = cc
    go false none rest = ap (λ (all : List Row). row ∷ all) (rest none)

-- ---- one use of an argument

-- the value is read as a number between these
abbrev pub IsRead : (least most : ℕ) → Reading → Text → Type 0
IsRead least most reading value = (reading ≡ WithoutMinus) ×
    (accepts false (Signed (pos least) (pos most)) value ≡ true)

-- whether an option takes a number of 32 bits
abbrev pub takes_number : Text → Bool
takes_number id = bytes_eq id (codes "rounds") || (bytes_eq id (codes "workers")
    || bytes_eq id (codes "depth"))

-- whether an option takes a number of copies
abbrev pub takes_ways : Text → Bool
takes_ways id = bytes_eq id (codes "ways")

-- whether an option takes a number of entries
abbrev pub takes_entries : Text → Bool
takes_entries id = bytes_eq id (codes "fuse")

-- whether an option takes a number of rounds at a time
abbrev pub takes_batch : Text → Bool
takes_batch id = bytes_eq id (codes "batch")

-- a value of the option with this id is a number where the option takes one
pub record IsValueFor (id : Text) (reading : Reading) (value : Text) : Type 0 where
  pub number : takes_number id ≡ true → IsRead 0 4294967295 reading value
  pub ways : takes_ways id ≡ true → IsRead 1 most_ways reading value
  pub entries : takes_entries id ≡ true → IsRead 0 most_fused reading value
  pub batch : takes_batch id ≡ true → IsRead 1 most_batched reading value

-- a row of a value or more, the first of which is a number where the row is that of an option that
-- takes one
pub record IsGood (row : Row) : Type 0 where
  pub value : Text
  pub more : List Text
  pub values : row.values ≡ value ∷ more
  pub fits : IsValueFor row.id row.reading value

-- an argument that one use gives one value
pub record TakesOne (rule : Rule) : Type 0 where
  pub action : rule.action ≡ Some action.Set
  pub range : rule.range ≡ Some (record { start_inclusive = 1; end_inclusive = 1 })
  pub fits : (value : Text) → accepts rule.ignore_case (parser_of_value rule.parser) value ≡ true
      → IsValueFor rule.id (reading_by rule) value

-- an option of this id takes no number
pub record TakesText (id : Text) : Type 0 where
  pub number : takes_number id ≡ false
  pub ways : takes_ways id ≡ false
  pub entries : takes_entries id ≡ false
  pub batch : takes_batch id ≡ false

-- an argument of no value that one use turns to one, and that takes no number
pub record SetsFlag (rule : Rule) : Type 0 where
  pub action : rule.action ≡ Some action.SetTrue
  pub range : rule.range ≡ Some (record { start_inclusive = 0; end_inclusive = 0 })
  pub missing : rule.missing ≡ codes "true" ∷ []
  pub text : TakesText rule.id

-- an argument to which each use adds one value, and that takes no number
pub record TakesSeveral (rule : Rule) : Type 0 where
  pub action : rule.action ≡ Some action.Append
  pub range : rule.range ≡ Some (record { start_inclusive = 1; end_inclusive = 1 })
  pub text : TakesText rule.id

-- an argument of one value, a flag, one that shows the help, or one of several values
abbrev pub IsPlainRule : Rule → Type 0
IsPlainRule rule =
    TakesOne rule
    ⊎ (SetsFlag rule ⊎ ((rule.action ≡ Some action.Help) ⊎ TakesSeveral rule))

repeats_none : (id : Text) (rows : List Row) → repeat_fault false id rows ≡ [] → has_row id rows ≡
    false
repeats_none id rows = go (has_row id rows)
  where
    go : (b : Bool) → (if b && not false then kind.ArgumentConflict ∷ [] else []) ≡ [] → b ≡ false
    go true none = cc
    go false none = refl

passes_none : (again : Bool) (parser : ValueParser) (value : Text) → values_kinds again parser
    (value ∷ []) ≡ [] → accepts again parser value ≡ true
passes_none again parser value none = go (accepts again parser value)
    (none_first (value_kinds again parser value) [] none)
  where
    go : (b : Bool) → (if b then [] else refused_kind parser ∷ []) ≡ [] → b ≡ true
    go true none = refl
    go false none = cc

-- the row of one value
abbrev row_with : Rule → ValueSource → Text → Row
row_with rule source value = record {
  id = rule.id;
  values = value ∷ [];
  count = None;
  source = Some source;
  reading = reading_by rule;
}

-- the row of one use, after those before it
row_once : (rule : Rule) (value : Text) (rows : List Row) → has_row rule.id rows ≡ false
    → with_values rule.id (reading_by rule) CommandLine (value ∷ [])
    (at_row rule.id (λ _. []) [] rows) ≡ rows ++ row_with rule CommandLine value ∷ []
row_once rule value rows new =
    ap (λ (all : List Row). with_values rule.id (reading_by rule) CommandLine (value ∷ []) all)
    (no_row rule.id (λ _. []) [] rows new ∙ append-nil rows)
    ∙ no_row rule.id (more_values CommandLine (value ∷ []))
    (row_with rule CommandLine value ∷ []) rows new

used_once : (rule : Rule) → rule.action ≡ Some action.Set → (value : Text) (rows : List Row)
    → has_row rule.id rows ≡ false
    → used rule (value ∷ []) rows ≡ rows ++ row_with rule CommandLine value ∷ []
used_once rule set value rows new = rw set (row_once rule value rows new)

flag_once : (rule : Rule) → SetsFlag rule → (rows : List Row) → has_row rule.id rows ≡ false
    → used rule [] rows ≡ rows ++ row_with rule CommandLine (codes "true") ∷ []
flag_once rule flag rows new =
    rw (flag.action, flag.missing) (row_once rule (codes "true") rows new)

-- any value is good for an option that takes no number
pub any_value : (id : Text) (reading : Reading) (value : Text) → TakesText id
    → IsValueFor id reading value
any_value id reading value text =
    let number = text.number in
    let ways = text.ways in
    let entries = text.entries in
    let batch = text.batch in
    record { number = λ is. cc; ways = λ is. cc; entries = λ is. cc; batch = λ is. cc }

two_values : (count : ℕ) → range_kinds 1 1 (suc (suc count)) ≡ [] → ⊥
two_values count none =
    let some : (suc (suc count) == 0) ≡ false = ne_eqb _ _ (λ e. omega arith) in
    let not_one : (1 == suc (suc count)) ≡ false = ne_eqb _ _ (λ e. omega arith) in
    let bad = rw (some, not_one) at none in cc

one_value : (count : ℕ) → range_kinds 0 0 (suc count) ≡ [] → ⊥
one_value count none =
    let some : (0 == suc count) ≡ false = ne_eqb _ _ (λ e. omega arith) in
    let bad = rw some at none in cc

set_good : (rule : Rule) → TakesOne rule → (values : List Text) (rows : List Row) → use_fault false
    rule values rows ≡ [] → Each IsGood rows → Each IsGood (used rule values rows)
set_good rule one [] rows none good = let bad = rw one.range at none in cc
set_good rule one (value ∷ []) rows none good =
    let set = rw (one.range, one.action) at none in
    let new = repeats_none rule.id rows
    (none_first (repeat_fault false rule.id rows) (values_fault rule (value ∷ [])) set) in
    let passes = passes_none rule.ignore_case (parser_of_value rule.parser) value
    (none_second (repeat_fault false rule.id rows) (values_fault rule (value ∷ [])) set) in
    subst (Each IsGood) (sym (used_once rule one.action value rows new))
    (each_more IsGood rows (row_with rule CommandLine value) good
    (record { value = value; more = []; values = refl; fits = one.fits value passes }))
set_good rule one (value ∷ next ∷ more) rows none good =
    let values = value ∷ next ∷ more in
    let counts = none_first
    (range_kinds (unwrap_or_range rule.range).start_inclusive (most_values rule)
    (length values))
    (action_fault (action_of rule) false rule (values_or_missing rule values) rows) none in
    absurd (two_values (length more) (rw one.range at counts))

flag_good : (rule : Rule) → SetsFlag rule → (values : List Text) (rows : List Row)
    → use_fault false rule values rows ≡ [] → Each IsGood rows
    → Each IsGood (used rule values rows)
flag_good rule flag [] rows none good =
    let set = rw (flag.range, flag.action, flag.missing) at none in
    let value = codes "true" in
    let new = repeats_none rule.id rows
    (none_first (repeat_fault false rule.id rows) (values_fault rule (value ∷ [])) set) in
    let fits = any_value rule.id (reading_by rule) value flag.text in
    subst (Each IsGood) (sym (flag_once rule flag rows new))
    (each_more IsGood rows (row_with rule CommandLine value) good
    (record { value = value; more = []; values = refl; fits = fits }))
flag_good rule flag (value ∷ more) rows none good =
    let values = value ∷ more in
    let counts = none_first
    (range_kinds (unwrap_or_range rule.range).start_inclusive (most_values rule)
    (length values))
    (action_fault (action_of rule) false rule (values_or_missing rule values) rows) none in
    absurd (one_value (length more) (rw flag.range at counts))

help_bad : (rule : Rule) → rule.action ≡ Some action.Help → (values : List Text) (rows : List Row)
    → use_fault false rule values rows ≡ [] → Each IsGood (used rule values rows)
help_bad rule help values rows none =
    let asked = none_second
    (range_kinds (unwrap_or_range rule.range).start_inclusive (most_values rule)
    (length values))
    (action_fault (action_of rule) false rule (values_or_missing rule values) rows) none in
    let bad = rw help at asked in cc

-- one more value leaves a row good
more_good : (value : Text) (row : Row) → IsGood row
    → Each IsGood (more_values CommandLine (value ∷ []) row)
more_good value row good = (
  record {
    value = good.value;
    more = good.more ++ value ∷ [];
    values = ap (λ (all : List Text). all ++ value ∷ []) good.values;
    fits = good.fits;
  },
  tt,
)

-- so does it where it is added to the row of an argument, or makes one
at_row_good : (id value : Text) (missing rows : List Row) → Each IsGood missing
    → Each IsGood rows → Each IsGood (at_row id (more_values CommandLine (value ∷ [])) missing rows)
at_row_good id value missing [] new good = new
at_row_good id value missing (row ∷ rows) new good = go (bytes_eq row.id id)
    (at_row_good id value missing rows new good.1)
  where
    go : (b : Bool) → Each IsGood (at_row id (more_values CommandLine (value ∷ [])) missing rows)
        → Each IsGood (cond b (more_values CommandLine (value ∷ []) row ++ rows)
        (row ∷ at_row id (more_values CommandLine (value ∷ [])) missing rows))
    go true rest = ((more_good value row good.0).0, good.1)
    go false rest = (good.0, rest)

several_good : (rule : Rule) → TakesSeveral rule → (values : List Text) (rows : List Row)
    → use_fault false rule values rows ≡ [] → Each IsGood rows
    → Each IsGood (used rule values rows)
several_good rule several [] rows none good = let bad = rw several.range at none in cc
several_good rule several (value ∷ []) rows none good =
    rw several.action (at_row_good rule.id value (row_with rule CommandLine value ∷ []) rows (
      record {
        value = value;
        more = [];
        values = refl;
        fits = any_value rule.id (reading_by rule) value several.text;
      },
      tt,
    ) good)
several_good rule several (value ∷ next ∷ more) rows none good =
    let values = value ∷ next ∷ more in
    let counts = none_first
    (range_kinds (unwrap_or_range rule.range).start_inclusive (most_values rule)
    (length values))
    (action_fault (action_of rule) false rule (values_or_missing rule values) rows) none in
    absurd (two_values (length more) (rw several.range at counts))

use_good : (rule : Rule) → IsPlainRule rule → (values : List Text) (rows : List Row) → use_fault
    false rule values rows ≡ [] → Each IsGood rows → Each IsGood (used rule values rows)
use_good rule (inl one) values rows none good = set_good rule one values rows none good
use_good rule (inr (inl flag)) values rows none good = flag_good rule flag values rows none good
use_good rule (inr (inr (inl help))) values rows none good = help_bad rule help values rows none
use_good rule (inr (inr (inr several))) values rows none good =
    several_good rule several values rows none good

-- ---- defaults

-- the argument has a default, and takes no number
pub record HasDefault (rule : Rule) : Type 0 where
  pub value : Text
  pub is : rule.defaults ≡ value ∷ []
  pub text : TakesText rule.id

-- the argument has no default, or takes no number
abbrev pub HasPlainDefault : Rule → Type 0
HasPlainDefault rule = (rule.defaults ≡ []) ⊎ HasDefault rule

default_good : (rule : Rule) → HasPlainDefault rule → (rows : List Row) → Each IsGood rows
    → Each IsGood (with_default rows rule)
default_good rule plain rows good = go (has_row rule.id rows) refl plain
  where
    go : (b : Bool) → has_row rule.id rows ≡ b → HasPlainDefault rule
        → Each IsGood
        (if b then rows else default_rows rule.id (reading_by rule) rule.defaults rows)
    go true new is = good
    go false new (inl none) = rw none good
    go false new (inr one) =
        let row = row_with rule DefaultValue one.value in
        rw one.is (subst (Each IsGood) (sym (no_row rule.id
        (more_values DefaultValue (one.value ∷ [])) (row ∷ []) rows new))
        (each_more IsGood rows row good
        (record {
          value = one.value;
          more = [];
          values = refl;
          fits = any_value rule.id (reading_by rule) one.value one.text;
        })))

pub defaults_good : (rules : List Rule) → Each HasPlainDefault rules → (rows : List Row)
    → Each IsGood rows → Each IsGood (fold with_default rows rules)
defaults_good [] plain rows good = good
defaults_good (rule ∷ rest) plain rows good =
    defaults_good rest plain.1 (with_default rows rule) (default_good rule plain.0 rows good)

-- ---- one word

abbrev IsPlainIn : Option Rule → Type 0
IsPlainIn found = IfSome found IsPlainRule

module _ (rules : List Rule) (plain : Each IsPlainRule rules) where
  found_plain : (test : Rule → Bool) → IsPlainIn (find test rules)
  found_plain test = go (find test rules) (find_each IsPlainRule test rules plain)
    where
      go : (found : Option Rule) → IfSome found (λ rule. IsPlainRule rule × (test rule ≡ true)) →
          IsPlainIn found
      go None is = tt
      go (Some rule) is = is.0

  settle_by : (found : Option Rule) (values : List Text) (rows : List Row) → IsPlainIn found →
      option_map_or (λ rule. use_fault false rule values rows) found [] ≡ []
      → Each IsGood rows → Each IsGood (used_by_id found values rows)
  settle_by None values rows is none good = good
  settle_by (Some rule) values rows is none good = use_good rule is values rows none good

  settle_pending : (pending : Option (Text × List Text)) (rows : List Row)
      → option_map_or (λ p. option_map_or (λ rule. use_fault false rule p.1 rows)
      (arg_by_id rules p.0) []) pending [] ≡ []
      → Each IsGood rows → Each IsGood (settled_rows rules pending rows)
  settle_pending None rows none good = good
  settle_pending (Some p) rows none good = settle_by (arg_by_id rules p.0) p.1 rows
      (found_plain (λ rule. bytes_eq rule.id p.0)) none good

  pub settled_good : (kept : Held) → settle_fault rules false kept ≡ [] → Each IsGood kept.rows
      → Each IsGood (settled rules kept).rows
  settled_good kept none good = settle_pending kept.pending kept.rows none good

  reacted_good : (rule : Rule) → IsPlainRule rule → (values : List Text) (kept : Held) →
      react_fault rules false rule values kept ≡ []
      → Each IsGood kept.rows → Each IsGood (reacted rules rule values kept).rows
  reacted_good rule is values kept none good =
      let settles = settle_fault rules false kept in
      let uses = use_fault false rule values (settled rules kept).rows in
      use_good rule is values (settled rules kept).rows (none_second settles uses none)
      (settled_good kept (none_first settles uses none) good)

  option_good : (rule : Rule) → IsPlainRule rule → (value : Option Text) (kept : Held) →
      option_fault rules false rule value kept ≡ []
      → Each IsGood kept.rows → Each IsGood (option_met rules rule value kept).0.rows
  option_good rule is (Some value) kept none good = reacted_good rule is (value ∷ []) kept none good
  option_good rule is None kept none good = settled_good kept none good

  long_good : (found : Option Rule) → IsPlainIn found → (value : Option Text) (kept : Held) →
      long_fault rules false found value kept ≡ []
      → Each IsGood kept.rows → Each IsGood (long_met rules found value kept).0.rows
  long_good None is value kept none good = good
  long_good (Some rule) is value kept none good = go (takes_values rule) value none good
    where
      go : (b : Bool) (value : Option Text)
          → (if b then option_fault rules false rule value kept else
          (if is_some value then kind.TooManyValues ∷ [] else react_fault rules false rule []
          kept)) ≡ []
          → Each IsGood kept.rows → Each IsGood
          (if b then option_met rules rule value kept else flag_met rules rule value
          kept).0.rows
      go true value none good = option_good rule is value kept none good
      go false (Some value) none good = good
      go false None none good = reacted_good rule is [] kept none good

  -- the rest of a bundle keeps rows good
  abbrev KeepsGood : (Text → ℕ → Held → Kinds) → (Text → ℕ → Outcome → Held → Held × Outcome) →
      Type 0
  KeepsGood fault next = (flags : Text) (skip : ℕ) (so_far : Outcome) (kept : Held) → fault flags
      skip kept ≡ [] → Each IsGood kept.rows
      → Each IsGood (next flags skip so_far kept).0.rows

  short_good : (found : Option Rule) → IsPlainIn found → (rest : Text) (kept : Held)
      (fault : Held → Kinds) (next : Held → Held × Outcome)
      → ((after : Held) → fault after ≡ [] → Each IsGood after.rows → Each IsGood
      (next after).0.rows)
      → short_fault rules false found rest kept fault ≡ [] → Each IsGood kept.rows → Each IsGood
      (short_met rules found rest kept next).0.rows
  short_good None is rest kept fault next keeps none good = good
  short_good (Some rule) is rest kept fault next keeps none good = go (takes_values rule) none good
    where
      go : (b : Bool) → (if b then option_fault rules false rule (attached_value rest) kept
          else or_else (react_fault rules false rule [] kept) (fault (reacted rules rule [] kept)))
          ≡ []
          → Each IsGood kept.rows
          → Each IsGood (if b then option_met rules rule (attached_value rest) kept else next
          (reacted rules rule [] kept)).0.rows
      go true none good = option_good rule is (attached_value rest) kept none good
      go false none good =
          let after = reacted rules rule [] kept in
          keeps after (none_second (react_fault rules false rule [] kept) (fault after) none)
          (reacted_good rule is [] kept
          (none_first (react_fault rules false rule [] kept) (fault after) none) good)

  bundle_step_good : (fault : Text → ℕ → Held → Kinds)
      (next : Text → ℕ → Outcome → Held → Held × Outcome) → KeepsGood fault next
      → (first : Option ℕ) (flags : Text) (skip : ℕ) (so_far : Outcome) (kept : Held) →
      bundle_step_fault rules false first flags skip kept fault ≡ []
      → Each IsGood kept.rows → Each IsGood
      (bundle_step rules first flags skip so_far kept next).0.rows
  bundle_step_good fault next keeps None flags skip so_far kept none good = good
  bundle_step_good fault next keeps (Some x) flags zero so_far kept none good =
      let rest = drop (length (encode_utf8 x)) flags in
      short_good (arg_by_short rules x) (found_plain _) rest kept (fault rest 0)
      (next rest 0 walking.done) (keeps rest 0 walking.done) none good
  bundle_step_good fault next keeps (Some x) flags (suc skip) so_far kept none good = keeps
      (drop (length (encode_utf8 x)) flags) skip so_far kept none good

  bundle_good : (k : ℕ) → KeepsGood (flags_fault rules false k) (bundle_met rules k)
  unfolding flags_fault bundle_met
  bundle_good zero flags skip so_far kept none good = good
  bundle_good (suc k) flags skip so_far kept none good =
      bundle_step_good (flags_fault rules false k) (bundle_met rules k) (bundle_good k)
      (slice_get (chars flags) 0) flags skip so_far kept none good

  option_word_good : (found : Option Rule) (id word : Text) (kept : Held) → Each IsGood kept.rows →
      Each IsGood (option_word found id word kept).0.rows
  option_word_good None id word kept good = good
  option_word_good (Some rule) id word kept good = good

  plain_good : (waiting : Waiting) (word : Text) (kept : Held) → Each IsGood kept.rows → Each
      IsGood (plain_word rules waiting word kept).0.rows
  plain_good walking.idle word kept good = good
  plain_good (walking.option id) word kept good = option_word_good (arg_by_id rules id) id word
      kept good
  plain_good walking.positional word kept good = good

  after_good : (waiting : Waiting) (word : Text) (kept : Held) (outcome : Outcome) → Each IsGood
      kept.rows → Each IsGood (after_flag rules waiting word kept outcome).0.rows
  after_good waiting word kept walking.done good = good
  after_good waiting word kept (walking.waits id) good = good
  after_good waiting word kept walking.plain good = plain_good waiting word kept good
  after_good waiting word kept walking.refused good = plain_good waiting word kept good

  other_good : (long : Option (Text × Option Text)) (waiting : Waiting) (word : Text) (kept : Held)
      → flag_word_fault rules false long word kept ≡ []
      → Each IsGood kept.rows → Each IsGood (long_or_other rules waiting word long kept).0.rows
  other_good (Some p) waiting word kept none good =
      after_good waiting word _ (long_met rules (arg_by_long rules p.0) p.1 kept).1
      (long_good (arg_by_long rules p.0) (found_plain _) p.1 kept none good)
  other_good None waiting word kept none good = go (short_of word) none good
    where
      go : (short : Option Text) → option_map_or (λ flags. bundle_fault rules false flags kept)
          short [] ≡ []
          → Each IsGood kept.rows → Each IsGood
          (short_or_plain rules waiting word short kept).0.rows
      go None none good = plain_good waiting word kept good
      go (Some flags) none good =
          after_good waiting word _ (bundle rules flags kept).1
          (bundle_good (length flags) flags kept.skip walking.plain (record kept { skip = 0 }) none
          good)

-- ---- the words of a command with no subcommand

module _ (shape : Shape) (plain : Each IsPlainRule shape.rules)
    (once : shape.args_override_self ≡ false) where
  no_name : (waiting : Waiting) (word : Text) → subcommand_met [] waiting word ≡ None
  no_name walking.idle word = refl
  no_name (walking.option id) word = refl
  no_name walking.positional word = refl

  unnamed_good : (name : Option Text) (waiting : Waiting) (position : ℕ) (word : Text)
      (kept : Held) → name ≡ None → other_fault shape name word kept ≡ []
      → Each IsGood kept.rows → Each IsGood
      (subcommand_or_other shape.rules name waiting position word kept).0.rows
  unnamed_good (Some name) waiting position word kept is none good = cc
  unnamed_good None waiting position word kept is none good = go (bytes_eq word (45 ∷ 45 ∷ []))
      none good
    where
      go : (b : Bool) → (if b then [] else flag_word_fault shape.rules shape.args_override_self
          (long_of word) word kept) ≡ []
          → Each IsGood kept.rows
          → Each IsGood (if b then (kept, walking.trailing position) else long_or_other shape.rules
          waiting word (long_of word) kept).0.rows
      go true none good = good
      go false none good = other_good shape.rules plain (long_of word) waiting word kept
          (rw once at none) good

  word_good : (is_trailing : Bool) (waiting : Waiting) (position : ℕ) (word : Text) (kept : Held) →
      word_fault shape [] is_trailing waiting word kept ≡ []
      → Each IsGood kept.rows → Each IsGood
      (word_met shape.rules [] is_trailing waiting position word kept).0.rows
  word_good true waiting position word kept none good = good
  word_good false waiting position word kept none good =
      unnamed_good (subcommand_met [] waiting word) waiting position word kept
      (no_name waiting word) none good

  positional_good : (rule : Rule) (word : Text) (kept : Held) → positional_fault shape.rules
      shape.args_override_self rule kept ≡ []
      → Each IsGood kept.rows → Each IsGood (positional_held shape.rules rule word kept).rows
  positional_good rule word kept = go (is_pending rule kept.pending && takes_several rule)
    where
      go : (b : Bool) → (if b then [] else settle_fault shape.rules shape.args_override_self kept)
          ≡ []
          → Each IsGood kept.rows → Each IsGood (if b then kept else settled shape.rules kept).rows
      go true none good = good
      go false none good = settled_good shape.rules plain kept (rw once at none) good

  value_good : (found : Option Rule) (word : Text) (w : Walk) (kept : Held)
      → option_map_or (λ rule. positional_fault shape.rules shape.args_override_self rule kept)
      found (stray_fault shape) ≡ []
      → Each IsGood kept.rows → Each IsGood (to_positional shape.rules found word w kept).held.rows
  value_good None word w kept none good = good
  value_good (Some rule) word w kept none good = positional_good rule word kept none good

  step_good : (word : Text) (w : Walk) (kept : Held) (step : Step) → step_fault shape w.position
      kept step ≡ []
      → Each IsGood kept.rows → Each IsGood (after_step shape.rules word w kept step).held.rows
  step_good word w kept (walking.next waiting) none good = good
  step_good word w kept (walking.trailing position) none good = good
  step_good word w kept (walking.subcommand name) none good = good
  step_good word w kept walking.value none good = value_good (arg_by_index shape.rules w.position)
      word w kept none good

  turn_good : (w : Walk) (word : Text) → turn_fault shape [] w word ≡ [] → Each IsGood w.held.rows
      → Each IsGood (walked shape.rules [] w word).held.rows
  unfolding walked
  turn_good w word = go w.stopped
    where
      go : (stopped : Option (Text × List Text))
          → (if is_some stopped then [] else or_else
          (word_fault shape [] w.is_trailing w.waiting word w.held)
          (step_fault shape w.position
          (word_met shape.rules [] w.is_trailing w.waiting w.position word w.held).0
          (word_met shape.rules [] w.is_trailing w.waiting w.position word w.held).1)) ≡ []
          → Each IsGood w.held.rows → Each IsGood
          (walked_from shape.rules [] stopped w word).held.rows
      go (Some p) none good = good
      go None none good =
          let met = word_met shape.rules [] w.is_trailing w.waiting w.position word w.held in
          let one = word_fault shape [] w.is_trailing w.waiting word w.held in
          let other = step_fault shape w.position met.0 met.1 in
          step_good word w met.0 met.1 (none_second one other none)
          (word_good w.is_trailing w.waiting w.position word w.held (none_first one other none)
          good)

  pub walk_good : (words : List Text) (w : Walk) → walk_fault shape [] w words ≡ [] → Each IsGood
      w.held.rows
      → Each IsGood (fold (walked shape.rules []) w words).held.rows
  unfolding walk_fault
  walk_good [] w none good = good
  walk_good (word ∷ words) w none good =
      let one = turn_fault shape [] w word in
      let other = walk_fault shape [] (walked shape.rules [] w word) words in
      walk_good words (walked shape.rules [] w word) (none_second one other none)
      (turn_good w word (none_first one other none) good)
