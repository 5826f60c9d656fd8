-- The search from a work to the helper functions that it reaches.
use Rattle.std.proofs.Common.{◌≡◌, refl, sym, ◌∙◌, ap, subst, ℕ, zero, suc, ◌+◌, ◌-◌, ◌≤◌, ◌<◌}
use Rattle.std.proofs.Common.{Bool}
use Rattle.std.proofs.Common.{true, false, ◌||◌, List, [], ◌∷◌, ◌++◌, length, drop, get_or, Option}
use Rattle.std.proofs.Common.{Some, None, cond, arith, length-append, drop-cons}
use Rattle.std.proofs.Common.{⊎_elim}
use Rattle.std.proofs.Math.Seq.{drop-append-add}
use Rattle.std.proofs.lemmas.List.{length-map}
use Rattle.std.proofs.Math.ListN.{drop_of_length-le}
use Rattle.std.proofs.lemmas.Option.{get_or_from_slice_get, slice_get-map, slice_get_read}
use Rattle.std.specs.Prelude.{bytes_eq, is_some, unwrap_or, slice_get}
use Rattle.std.specs.Option.{option_and_then, option_map}
use Rattle.strc_lex_names.specs.Names.{has_name, plain_names, value_named}
use Rattle.strc_parse_tree.specs.Tree as tree
use Rattle.strc_parse_tree.specs.View.{member_view}
use Rattle.strc_parse_tree.specs.declared.tree.Member.{Member}
use Rattle.strc_work_meaning.specs.Filters.{Helper, helper_named, members_of}
use Rattle.strc_work_writes.specs.Calls.{called_in_stmts}
use Rattle.strc_work_writes.specs.Stateless.{helper_writes_field, Reaches, Called, Through}
use Rattle.strc_work_writes.specs.Stateless.{ReachesWriter}
use Rattle.strc_work_writes.specs.Walk.{with_fields}
use Rattle.strc_work_writes.specs.Writers.{Places, helper_places, member_helper, writes_one}
use Rattle.strc_work_writes.specs.Writers.{called_by}
use Rattle.strc_work_writes.specs.Writers.{with_place, with_call, with_calls}
use Rattle.strc_work_writes.proofs.CalledNames.{or_true, or_left, or_right, same_name, own_name}
use Rattle.strc_work_writes.proofs.Walks.{helper_walk_tells}

-- ---- one call after the other

-- first some calls, and then others
pub calls_after : (helpers found : Places) (first second : List (List ℕ))
    → with_calls helpers found (first ++ second)
    ≡ with_calls helpers (with_calls helpers found first) second
calls_after helpers found [] second = refl
calls_after helpers found (name ∷ rest) second =
    calls_after helpers (with_call helpers found name) rest second

-- ---- where helper functions stand

-- the helper function at a place
abbrev pub helper_at : List tree.Member → (place : ℕ) → Option Helper
helper_at members place = option_and_then member_helper (slice_get members place)

-- the helper function of a name has this place, where the first member has that one
pub record IsPlaced (first : ℕ) (members : List tree.Member) (name : List ℕ) (place : ℕ)
    : Type 0 where
  pub number : ℕ
  pub place_is : place ≡ first + number
  pub within : number < length members
  pub helper_is : helper_at members number ≡ helper_named members name

placed_later : (place : ℕ) (first : tree.Member) (rest : List tree.Member) (name : List ℕ) (at : ℕ)
    → helper_named (first ∷ rest) name ≡ helper_named rest name
    → IsPlaced (suc place) rest name at → IsPlaced place (first ∷ rest) name at
placed_later place first rest name at same placed = record {
  number = suc placed.number;
  place_is = omega (arith, placed.place_is);
  within = omega (arith, placed.within);
  helper_is = placed.helper_is ∙ sym same;
}

pub is_placed : (place : ℕ) (members : List tree.Member) (name : List ℕ) (at : ℕ)
    → value_named (helper_places place members) name ≡ Some at → IsPlaced place members name at
is_placed place [] name at e = absurd (cc)
is_placed place (tree.Fields kind variables ∷ rest) name at e =
    placed_later place (tree.Fields kind variables) rest name at refl
    (is_placed (suc place) rest name at e)
is_placed place (tree.Init block ∷ rest) name at e =
    placed_later place (tree.Init block) rest name at refl (is_placed (suc place) rest name at e)
is_placed place (tree.Prework rates block ∷ rest) name at e =
    placed_later place (tree.Prework rates block) rest name at refl
    (is_placed (suc place) rest name at e)
is_placed place (tree.Work rates block ∷ rest) name at e =
    placed_later place (tree.Work rates block) rest name at refl
    (is_placed (suc place) rest name at e)
is_placed place (tree.Helper kind own parameters block ∷ rest) name at e =
    by_name (bytes_eq own name) refl (λ found. is_placed (suc place) rest name at found) e
  where
    by_name : (t : Bool) → bytes_eq own name ≡ t
        → (value_named (helper_places (suc place) rest) name ≡ Some at
        → IsPlaced (suc place) rest name at)
        → cond t (Some place) (value_named (helper_places (suc place) rest) name) ≡ Some at
        → IsPlaced place (tree.Helper kind own parameters block ∷ rest) name at
    by_name true is later found =
        let here : place ≡ at = ap (λ o. unwrap_or o place) found in
        record {
          number = 0;
          place_is = omega (arith, here);
          within = omega arith;
          helper_is = ap (λ t. cond t (Some (record {
            kind = kind;
            parameters = parameters;
            block = block;
          })) (helper_named rest name)) (sym is);
        }
    by_name false is later found =
        placed_later place (tree.Helper kind own parameters block) rest name at
        (ap (λ t. cond t (Some (record {
          kind = kind;
          parameters = parameters;
          block = block;
        })) (helper_named rest name)) is)
        (later found)

-- it stands within the members
pub placed_within : (members : List Member) (name : List ℕ) (place : ℕ)
    → IsPlaced 0 (members_of members) name place → place < length members
placed_within members name place placed =
    omega (arith, placed.place_is, placed.within, length-map members member_view)

-- the member there is the helper function of the name
pub helper_there : (members : List Member) (name : List ℕ) (place : ℕ) (member : Member)
    → IsPlaced 0 (members_of members) name place → member ≡ get_or members place member
    → member_helper (member_view member) ≡ helper_named (members_of members) name
helper_there members name place member placed is =
    let here : place ≡ placed.number = omega (arith, placed.place_is) in
    let within = placed_within members name place placed in
    let at : slice_get (members_of members) place ≡ Some (member_view member) =
    slice_get-map member_view members place
    ∙ ap (option_map member_view)
    (slice_get_read members (length members) place member refl within is) in
    sym (ap (option_and_then member_helper) at) ∙ ap (helper_at (members_of members)) here
    ∙ placed.helper_is

-- each helper function has a place
has_place : (place : ℕ) (members : List tree.Member) (name : List ℕ) (helper : Helper)
    → helper_named members name ≡ Some helper
    → is_some (value_named (helper_places place members) name) ≡ true
has_place place [] name helper e = absurd (cc)
has_place place (tree.Fields kind variables ∷ rest) name helper e =
    has_place (suc place) rest name helper e
has_place place (tree.Init block ∷ rest) name helper e = has_place (suc place) rest name helper e
has_place place (tree.Prework rates block ∷ rest) name helper e =
    has_place (suc place) rest name helper e
has_place place (tree.Work rates block ∷ rest) name helper e =
    has_place (suc place) rest name helper e
has_place place (tree.Helper kind own parameters block ∷ rest) name helper e =
    by_name (bytes_eq own name) (λ found. has_place (suc place) rest name helper found) e
  where
    by_name : (t : Bool)
        → (helper_named rest name ≡ Some helper
        → is_some (value_named (helper_places (suc place) rest) name) ≡ true)
        → cond t (Some (record { kind = kind; parameters = parameters; block = block }))
        (helper_named rest name) ≡ Some helper
        → is_some (cond t (Some place) (value_named (helper_places (suc place) rest) name)) ≡ true
    by_name true later found = refl
    by_name false later found = later found

-- ---- how many helper functions are not found yet

abbrev unless : Bool → ℕ → ℕ
unless true n = n
unless false n = suc n

abbrev pub missing : (helpers found : Places) → ℕ
missing [] found = 0
missing (first ∷ rest) found = unless (has_name (plain_names found) first.0) (missing rest found)

pub missing_at_first : (helpers : Places) → missing helpers [] ≡ length helpers
missing_at_first [] = refl
missing_at_first (first ∷ rest) = ap suc (missing_at_first rest)

unless_less : (new old : Bool) (n m : ℕ) → n ≤ m → unless (new || old) n ≤ unless old m
unless_less true true n m h = h
unless_less true false n m h = omega (arith, h)
unless_less false true n m h = h
unless_less false false n m h = omega (arith, h)

missing_less : (helpers found : Places) (one : List ℕ × ℕ)
    → missing helpers (one ∷ found) ≤ missing helpers found
missing_less [] found one = omega arith
missing_less (first ∷ rest) found one =
    unless_less (bytes_eq one.0 first.0) (has_name (plain_names found) first.0) _ _
    (missing_less rest found one)

unless_one : (new old : Bool) (n m : ℕ) → suc n ≤ m → suc (unless (new || old) n) ≤ unless old m
unless_one true true n m h = h
unless_one true false n m h = omega (arith, h)
unless_one false true n m h = h
unless_one false false n m h = omega (arith, h)

-- a helper function that is found is missing no more
missing_one : (helpers found : Places) (name : List ℕ) (place : ℕ)
    → has_name (plain_names found) name ≡ false → is_some (value_named helpers name) ≡ true
    → suc (missing helpers (record { 0 = name; 1 = place } ∷ found)) ≤ missing helpers found
missing_one [] found name place new is = absurd (cc)
missing_one (first ∷ rest) found name place new is =
    by_name (bytes_eq first.0 name) refl (λ later. missing_one rest found name place new later) is
  where
    one : List ℕ × ℕ
    one = record { 0 = name; 1 = place }

    by_tests : (is old : Bool) → is ≡ true → old ≡ false
        → missing rest (one ∷ found) ≤ missing rest found
        → suc (unless (is || old) (missing rest (one ∷ found))) ≤ unless old (missing rest found)
    by_tests true false e f less = omega (arith, less)
    by_tests true true e f less = absurd (cc)
    by_tests false old e f less = absurd (cc)

    by_name : (t : Bool) → bytes_eq first.0 name ≡ t
        → (is_some (value_named rest name) ≡ true
        → suc (missing rest (one ∷ found)) ≤ missing rest found)
        → is_some (cond t (Some first.1) (value_named rest name)) ≡ true
        → suc (unless (bytes_eq name first.0 || has_name (plain_names found) first.0)
        (missing rest (one ∷ found)))
        ≤ unless (has_name (plain_names found) first.0) (missing rest found)
    by_name false e more later =
        unless_one (bytes_eq name first.0) (has_name (plain_names found) first.0)
        (missing rest (one ∷ found)) (missing rest found) (more later)
    by_name true e more here =
        let same : first.0 ≡ name = same_name first.0 name e in
        let less : missing rest (one ∷ found) ≤ missing rest found = missing_less rest found one in
        by_tests (bytes_eq name first.0) (has_name (plain_names found) first.0)
        (ap (bytes_eq name) same ∙ own_name name) (ap (has_name (plain_names found)) same ∙ new) less

-- ---- what is found

-- this holds of each of these
abbrev pub Each : (P : List ℕ × ℕ → Type 0) → Places → Type 0
Each P [] = Unit {0}
Each P (first ∷ rest) = P first × Each P rest

each_weaker : (P Q : List ℕ × ℕ → Type 0) → ((one : List ℕ × ℕ) → P one → Q one)
    → (found : Places) → Each P found → Each Q found
each_weaker P Q weaker [] h = tt
each_weaker P Q weaker (first ∷ rest) h =
    (weaker first h.0, each_weaker P Q weaker rest h.1)

each_at : (P : List ℕ × ℕ → Type 0) (found : Places) (number : ℕ) (one : List ℕ × ℕ)
    → Each P found → slice_get found number ≡ Some one → P one
each_at P [] number one h e = absurd (cc)
each_at P (first ∷ rest) zero one h e =
    subst P (ap (λ o. unwrap_or o first) e) h.0
each_at P (first ∷ rest) (suc number) one h e = each_at P rest number one h.1 e

each_named : (P : List ℕ → Type 0) (found : Places) (name : List ℕ)
    → Each (λ one. P one.0) found → has_name (plain_names found) name ≡ true → P name
each_named P [] name h e = absurd (cc)
each_named P (first ∷ rest) name h e =
    ⊎_elim (λ here. subst P (same_name first.0 name here) h.0)
    (λ there. each_named P rest name h.1 there)
    (or_true (bytes_eq first.0 name) (has_name (plain_names rest) name) e)

-- what is found is a helper function that the block reaches
pub record IsFound (members : List tree.Member) (block : tree.Stmts) (one : List ℕ × ℕ)
    : Type 0 where
  pub place : value_named (helper_places 0 members) one.0 ≡ Some one.1
  pub reached : Reaches members block one.0

pub record AreFound (members : List tree.Member) (block : tree.Stmts) (found : Places)
    : Type 0 where
  pub fit : length found + missing (helper_places 0 members) found
      ≤ length (helper_places 0 members)
  pub each : Each (IsFound members block) found

-- each helper function among these names is found
abbrev pub Covers : List tree.Member → Places → List (List ℕ) → Type 0
Covers members found names =
    (name : List ℕ) → has_name names name ≡ true
    → is_some (value_named (helper_places 0 members) name) ≡ true
    → has_name (plain_names found) name ≡ true

-- more are found
pub record Extends (before after : Places) : Type 0 where
  pub more : Places
  pub is : after ≡ more ++ before

still_found : (more before : Places) (name : List ℕ) → has_name (plain_names before) name ≡ true
    → has_name (plain_names (more ++ before)) name ≡ true
still_found [] before name h = h
still_found (first ∷ rest) before name h =
    or_right (bytes_eq first.0 name) (has_name (plain_names (rest ++ before)) name)
    (still_found rest before name h)

kept : (before after : Places) → Extends before after → (name : List ℕ)
    → has_name (plain_names before) name ≡ true → has_name (plain_names after) name ≡ true
kept before after extends name h =
    ap (λ l. has_name (plain_names l) name) extends.is
    ∙ still_found extends.more before name h

-- one more call
call_extends : (helpers found : Places) (name : List ℕ)
    → Extends found (with_call helpers found name)
call_extends helpers found name =
    by_tests (has_name (plain_names found) name) (value_named helpers name)
  where
    by_tests : (t : Bool) (place : Option ℕ)
        → Extends found (cond t found (with_place place found name))
    by_tests true place = record { more = []; is = refl }
    by_tests false None = record { more = []; is = refl }
    by_tests false (Some place) = record {
      more = record { 0 = name; 1 = place } ∷ [];
      is = refl;
    }

append_more : (first second before : Places) → (first ++ (second ++ before)) ≡ ((first ++ second) ++ before)
append_more [] second before = refl
append_more (one ∷ rest) second before = ap (λ l. one ∷ l) (append_more rest second before)

pub calls_extend : (helpers found : Places) (names : List (List ℕ))
    → Extends found (with_calls helpers found names)
calls_extend helpers found [] = record { more = []; is = refl }
calls_extend helpers found (name ∷ rest) =
    let first = call_extends helpers found name in
    let later = calls_extend helpers (with_call helpers found name) rest in
    record {
      more = later.more ++ first.more;
      is = later.is ∙ ap (λ l. later.more ++ l) first.is
          ∙ append_more later.more first.more found;
    }

call_covers : (helpers found : Places) (name : List ℕ) → is_some (value_named helpers name) ≡ true
    → has_name (plain_names (with_call helpers found name)) name ≡ true
call_covers helpers found name is =
    by_tests (has_name (plain_names found) name) (value_named helpers name) refl is
  where
    by_tests : (t : Bool) (place : Option ℕ) → has_name (plain_names found) name ≡ t
        → is_some place ≡ true
        → has_name (plain_names (cond t found (with_place place found name))) name ≡ true
    by_tests true place e some = e
    by_tests false None e some = absurd (cc)
    by_tests false (Some place) e some =
        or_left (bytes_eq name name) (has_name (plain_names found) name) (own_name name)

pub calls_cover : (members : List tree.Member) (found : Places) (names : List (List ℕ))
    → Covers members (with_calls (helper_places 0 members) found names) names
calls_cover members found [] name among is = absurd (cc)
calls_cover members found (first ∷ rest) name among is =
    let helpers = helper_places 0 members in
    let after = with_call helpers found first in
    ⊎_elim
    (λ here. kept after (with_calls helpers after rest) (calls_extend helpers after rest) name
    (let same : first ≡ name = same_name first name here in
    subst (λ n. has_name (plain_names after) n ≡ true) same
    (call_covers helpers found first (ap (λ n. is_some (value_named helpers n)) same ∙ is))))
    (λ there. calls_cover members after rest name there is)
    (or_true (bytes_eq first name) (has_name rest name) among)

call_finds : (members : List tree.Member) (block : tree.Stmts) (found : Places) (name : List ℕ)
    → AreFound members block found → Reaches members block name
    → AreFound members block (with_call (helper_places 0 members) found name)
call_finds members block found name are reached =
    by_tests (has_name (plain_names found) name) (value_named (helper_places 0 members) name) refl
    refl
  where
    by_tests : (t : Bool) (place : Option ℕ) → has_name (plain_names found) name ≡ t
        → value_named (helper_places 0 members) name ≡ place
        → AreFound members block (cond t found (with_place place found name))
    by_tests true place e at = are
    by_tests false None e at = are
    by_tests false (Some place) e at =
        let one = missing_one (helper_places 0 members) found name place e (ap is_some at) in
        record {
          fit = omega (arith, are.fit, one);
          each = (record { place = at; reached = reached }, are.each);
        }

pub calls_find : (members : List tree.Member) (block : tree.Stmts) (found : Places)
    (names : List (List ℕ)) → AreFound members block found
    → ((name : List ℕ) → has_name names name ≡ true → Reaches members block name)
    → AreFound members block (with_calls (helper_places 0 members) found names)
calls_find members block found [] are reached = are
calls_find members block found (name ∷ rest) are reached =
    calls_find members block (with_call (helper_places 0 members) found name) rest
    (call_finds members block found name are
    (reached name (or_left (bytes_eq name name) (has_name rest name) (own_name name))))
    (λ other among.
    reached other (or_right (bytes_eq name other) (has_name rest other) among))

-- ---- what the search has seen

-- the helper function of a name writes no field, and those that it calls are found
abbrev pub IsSeen : List tree.Member → Places → List ℕ → Type 0
IsSeen members found name =
    (helper : Helper) → helper_named members name ≡ Some helper
    → (helper_writes_field members helper ≡ false)
    × Covers members found (called_in_stmts helper.block)

-- the search has seen so many of those that are found
pub record HasSeen (members : List tree.Member) (block : tree.Stmts) (found : Places) (seen : ℕ)
    : Type 0 where
  pub most : seen ≤ length found
  pub are : AreFound members block found
  pub covers : Covers members found (called_in_stmts block)
  pub each : Each (λ one. IsSeen members found one.0) (drop (length found - seen) found)

pub begins : (members : List tree.Member) (block : tree.Stmts)
    → HasSeen members block (with_calls (helper_places 0 members) [] (called_in_stmts block)) 0
begins members block = record {
  most = omega arith;
  are = calls_find members block [] (called_in_stmts block)
      (record {
        fit = let all = missing_at_first (helper_places 0 members) in omega (arith, all);
        each = tt;
      })
      (λ name among. Called among);
  covers = calls_cover members [] (called_in_stmts block);
  each =
      let found = with_calls (helper_places 0 members) [] (called_in_stmts block) in
      let all : length found ≤ length found - 0 = omega arith in
      subst (Each (λ one. IsSeen members found one.0))
      (sym (drop_of_length-le found {i = length found - 0} all)) tt;
}

-- there are no more of them than helper functions
pub seen_fits : (members : List tree.Member) (block : tree.Stmts) (found : Places) (seen : ℕ)
    → HasSeen members block found seen → length found ≤ length (helper_places 0 members)
seen_fits members block found seen has = omega (arith, has.are.fit)

-- the next one
pub next_placed : (members : List tree.Member) (block : tree.Stmts) (found : Places) (seen : ℕ)
    (one : List ℕ × ℕ) → HasSeen members block found seen
    → slice_get found (length found - suc seen) ≡ Some one → IsPlaced 0 members one.0 one.1
next_placed members block found seen one has at =
    is_placed 0 members one.0 one.1
    (each_at (IsFound members block) found (length found - suc seen) one has.are.each at).place

-- it writes a field
pub writer_found : (members : List tree.Member) (block : tree.Stmts) (found : Places) (seen : ℕ)
    (one : List ℕ × ℕ) → HasSeen members block found seen
    → slice_get found (length found - suc seen) ≡ Some one
    → writes_one (with_fields [] members) (helper_named members one.0) ≡ true
    → ReachesWriter members block
writer_found members block found seen one has at writes =
    by_helper (helper_named members one.0) refl writes
  where
    by_helper : (helper : Option Helper) → helper_named members one.0 ≡ helper
        → writes_one (with_fields [] members) helper ≡ true → ReachesWriter members block
    by_helper None named is = absurd (cc)
    by_helper (Some helper) named is = record {
      name = one.0;
      helper = helper;
      reached = (each_at (IsFound members block) found (length found - suc seen) one has.are.each
          at).reached;
      named = named;
      writes = sym (helper_walk_tells members helper.parameters helper.block) ∙ is;
    }

covers_kept : (members : List tree.Member) (before after : Places) (names : List (List ℕ))
    → Extends before after → Covers members before names → Covers members after names
covers_kept members before after names extends covers name among is =
    kept before after extends name (covers name among is)

seen_kept : (members : List tree.Member) (before after : Places) (name : List ℕ)
    → Extends before after → IsSeen members before name → IsSeen members after name
seen_kept members before after name extends seen helper named =
    let is = seen helper named in
    (is.0, covers_kept members before after (called_in_stmts helper.block) extends is.1)

-- what lies past a place from the end, after more is found
past_place : (more found : Places) (seen : ℕ) (one : List ℕ × ℕ) → seen < length found
    → slice_get found (length found - suc seen) ≡ Some one
    → drop (length (more ++ found) - suc seen) (more ++ found)
    ≡ one ∷ drop (length found - seen) found
past_place more found seen one within at =
    let n = length found - suc seen in
    let far : length (more ++ found) - suc seen ≡ length more + n =
    omega (arith, within, length-append more found) in
    let next : suc n ≡ length found - seen = omega (arith, within) in
    let less : n < length found = omega (arith, within) in
    ap (λ k. drop k (more ++ found)) far
    ∙ drop-append-add more found n
    ∙ drop-cons found n one less
    ∙ ap (λ x. x ∷ drop (suc n) found) (get_or_from_slice_get found n one one at)
    ∙ ap (λ k. one ∷ drop k found) next

-- it writes none
pub sees_next : (members : List tree.Member) (block : tree.Stmts) (found : Places) (seen : ℕ)
    (one : List ℕ × ℕ) → HasSeen members block found seen → seen < length found
    → slice_get found (length found - suc seen) ≡ Some one
    → writes_one (with_fields [] members) (helper_named members one.0) ≡ false
    → HasSeen members block
    (with_calls (helper_places 0 members) found (called_by (helper_named members one.0))) (suc seen)
sees_next members block found seen one has within at none =
    by_helper (helper_named members one.0) refl none
  where
    helpers : Places
    helpers = helper_places 0 members

    reached : (helper : Option Helper) → helper_named members one.0 ≡ helper → (name : List ℕ)
        → has_name (called_by helper) name ≡ true → Reaches members block name
    reached None named name among = absurd (cc)
    reached (Some helper) named name among =
        Through one.0 helper
        (each_at (IsFound members block) found (length found - suc seen) one has.are.each at).reached
        named among

    here : (helper : Option Helper) → helper_named members one.0 ≡ helper
        → writes_one (with_fields [] members) helper ≡ false
        → IsSeen members (with_calls helpers found (called_by helper)) one.0
    here None named writes other is = absurd (cc)
    here (Some helper) named writes other is =
        let same : Some helper ≡ Some other = sym named ∙ is in
        let helper_is : helper ≡ other = ap (λ o. unwrap_or o helper) same in
        subst (λ h. (helper_writes_field members h ≡ false)
        × Covers members (with_calls helpers found (called_in_stmts helper.block))
        (called_in_stmts h.block)) helper_is (
          sym (helper_walk_tells members helper.parameters helper.block) ∙ writes,
          calls_cover members found (called_in_stmts helper.block),
        )

    by_helper : (helper : Option Helper) → helper_named members one.0 ≡ helper
        → writes_one (with_fields [] members) helper ≡ false
        → HasSeen members block (with_calls helpers found (called_by helper)) (suc seen)
    by_helper helper named writes =
        let names = called_by helper in
        let after = with_calls helpers found names in
        let extends = calls_extend helpers found names in
        let long : length after ≡ length extends.more + length found =
        ap length extends.is ∙ length-append extends.more found in
        record {
          most = omega (arith, within, long);
          are = calls_find members block found names has.are (reached helper named);
          covers = covers_kept members found after (called_in_stmts block) extends has.covers;
          each = subst (Each (λ other. IsSeen members after other.0))
              (sym (ap (λ l. drop (length l - suc seen) l) extends.is
              ∙ past_place extends.more found seen one within at)) (
                here helper named writes,
                each_weaker (λ other. IsSeen members found other.0)
                    (λ other. IsSeen members after other.0)
                    (λ other is. seen_kept members found after other.0 extends is)
                    (drop (length found - seen) found) has.each,
              );
        }

-- ---- the end of the search

all_seen : (members : List tree.Member) (block : tree.Stmts) (found : Places) (seen : ℕ)
    → HasSeen members block found seen → length found ≤ seen
    → Each (λ one. IsSeen members found one.0) found
all_seen members block found seen has all =
    let e : length found - seen ≡ 0 = omega (arith, all) in
    subst (λ k. Each (λ one. IsSeen members found one.0) (drop k found)) e has.each

all_found : (members : List tree.Member) (block : tree.Stmts) (found : Places)
    → Covers members found (called_in_stmts block) → Each (λ one. IsSeen members found one.0) found
    → (name : List ℕ) → Reaches members block name
    → is_some (value_named (helper_places 0 members) name) ≡ true
    → has_name (plain_names found) name ≡ true
all_found members block found covers each name (Called among) is = covers name among is
all_found members block found covers each name (Through caller helper reached named among) is =
    (each_named (IsSeen members found) found caller each
    (all_found members block found covers each caller reached
    (has_place 0 members caller helper named)) helper named).1 name among is

-- where all are seen, none that the block reaches writes a field
pub none_writes : (members : List tree.Member) (block : tree.Stmts) (found : Places) (seen : ℕ)
    → HasSeen members block found seen → length found ≤ seen → ReachesWriter members block → ⊥
none_writes members block found seen has all writer =
    let each = all_seen members block found seen has all in
    let seen_it = each_named (IsSeen members found) found writer.name each
    (all_found members block found has.covers each writer.name writer.reached
    (has_place 0 members writer.name writer.helper writer.named)) writer.helper writer.named in
    let no : false ≡ true = sym seen_it.0 ∙ writer.writes in
    absurd (cc)
