-- Variables that are outside those of statements, and stay as they are.
use Rattle.std.proofs.Common.{◌≡◌, refl, sym, ◌∙◌, ap, ℕ, ◌+◌, ◌-◌, ℤ, Bool, true, false}
use Rattle.std.proofs.Common.{cond, not, ◌||◌, List, [], ◌∷◌, ◌++◌, length, take, drop, set}
use Rattle.std.proofs.Common.{subst, arith, length-append, append_assoc, append-nil}
use Rattle.std.specs.Prelude.{bytes_eq}
use Rattle.std.specs.Result.{IfOk}
use Rattle.std.proofs.Math.Seq.{drop-append_seam, take-append_seam}
use Rattle.std.proofs.lemmas.List.{drop-append-le, length-map, drop-map}
use Rattle.std.proofs.lemmas.Result.{IfOk-weaker}
use Rattle.strc_lex_names.specs.Names.{has_name, plain_names}
use Rattle.strc_parse_tree.specs.Tree as tree
use Rattle.strc_work_meaning.specs.Firing.{Variables, Store, Setting, Called, with_cell, values_of}
use Rattle.strc_work_meaning.specs.Firing.{fields_in, locals_in, refilled, revalued, after_call}
use Rattle.strc_work_meaning.specs.Firing.{block_left}
use Rattle.strc_work_writes.specs.LocalWrites.{declares, shadows, with_locals, locals_after}
use Rattle.strc_rate.proofs.Results.{or_first, or_second}
use Rattle.strc_rate.proofs.Keeping.{Covers, HoldingBut, one_name, neither}

-- the variables are others, and inside them some of these names
pub record Within (outer : Variables) (names : List (List ℕ)) (variables : Variables) : Type 0
  where
    pub inner : Variables
    pub is : variables ≡ inner ++ outer
    pub named : plain_names inner ≡ names

-- the same, with more inner variables perhaps
pub record Around (outer : Variables) (names : List (List ℕ)) (variables : Variables) : Type 0
  where
    pub more : List (List ℕ)
    pub within : Within outer (more ++ names) variables

pub around : (outer : Variables) (names : List (List ℕ)) (variables : Variables)
    → Within outer names variables → Around outer names variables
around outer names variables h = record { more = []; within = h }

-- a name that a write may have: it is of an inner variable, or of none
abbrev pub is_free : (outer names : List (List ℕ)) → List ℕ → Bool
is_free outer names name = has_name names name || not (has_name outer name)

-- ---- the outer variables

pub outer_is : (outer : Variables) (names : List (List ℕ)) (variables : Variables)
    → Within outer names variables → drop (length variables - length outer) variables ≡ outer
outer_is outer names variables h =
    let size : length (h.inner ++ outer) - length outer ≡ length h.inner =
    omega (arith, length-append h.inner outer) in
    ap (λ v. drop (length v - length outer) v) h.is ∙ ap (λ n. drop n (h.inner ++ outer)) size
    ∙ drop-append_seam h.inner outer

inner_is : (outer : Variables) (names : List (List ℕ)) (variables : Variables)
    (h : Within outer names variables)
    → take (length variables - length outer) variables ≡ h.inner
inner_is outer names variables h =
    let size : length (h.inner ++ outer) - length outer ≡ length h.inner =
    omega (arith, length-append h.inner outer) in
    ap (λ v. take (length v - length outer) v) h.is ∙ ap (λ n. take n (h.inner ++ outer)) size
    ∙ take-append_seam h.inner outer

-- a block's own variables are forgotten
pub left_within : (outer : Variables) (names : List (List ℕ)) (before after : Store)
    → Within outer names before.variables → Around outer names after.variables
    → Within outer names (block_left before after).variables
left_within outer names before after h k =
    let inner = k.within.inner in
    let n : ℕ = length k.more in
    let had : length before.variables ≡ length names + length outer =
    ap length h.is ∙ length-append h.inner outer
    ∙ ap (λ l. l + length outer) (sym (length-map h.inner _) ∙ ap length h.named) in
    let whole : length inner ≡ n + length names =
    sym (length-map inner _) ∙ ap length k.within.named ∙ length-append k.more names in
    let has : length after.variables ≡ length inner + length outer =
    ap length k.within.is ∙ length-append inner outer in
    let left : length after.variables - length before.variables ≡ n = omega (arith) in
    record {
      inner = drop n inner;
      is = ap (λ m. drop m after.variables) left ∙ ap (drop n) k.within.is
          ∙ drop-append-le n inner outer (omega (arith));
      named = sym (drop-map (λ (v : List ℕ × List ℤ). v.0) n inner)
          ∙ ap (drop n) k.within.named ∙ drop-append_seam k.more names;
    }

-- ---- writes

-- where no variable has a name, nothing is written
no_cell : (variables : Variables) (name : List ℕ) (place : ℕ) (value : ℤ)
    → has_name (plain_names variables) name ≡ false
    → with_cell variables name place value ≡ variables
no_cell [] name place value none = refl
no_cell (first ∷ rest) name place value none =
    ap (λ t. cond t (record { 0 = first.0; 1 = set first.1 place value } ∷ rest)
    (first ∷ with_cell rest name place value)) (or_first (bytes_eq first.0 name) _ none)
    ∙ ap (λ l. first ∷ l)
    (no_cell rest name place value (or_second (bytes_eq first.0 name) _ none))

inner_written : (inner outer : Variables) (name : List ℕ) (place : ℕ) (value : ℤ)
    → (has_name (plain_names inner) name ≡ false → has_name (plain_names outer) name ≡ false)
    → Within outer (plain_names inner) (with_cell (inner ++ outer) name place value)
inner_written [] outer name place value none =
    record { inner = []; is = no_cell outer name place value (none refl); named = refl }
inner_written (first ∷ rest) outer name place value none =
    by_test (bytes_eq first.0 name) (λ fewer. inner_written rest outer name place value fewer) none
  where
    written : List ℕ × List ℤ
    written = record { 0 = first.0; 1 = set first.1 place value }

    by_test : (t : Bool)
        → ((has_name (plain_names rest) name ≡ false → has_name (plain_names outer) name ≡ false)
        → Within outer (plain_names rest) (with_cell (rest ++ outer) name place value))
        → ((t || has_name (plain_names rest) name) ≡ false
        → has_name (plain_names outer) name ≡ false)
        → Within outer (first.0 ∷ plain_names rest) (cond t (written ∷ (rest ++ outer))
        (first ∷ with_cell (rest ++ outer) name place value))
    by_test true later none = record { inner = written ∷ rest; is = refl; named = refl }
    by_test false later none =
        let left = later none in
        record {
          inner = first ∷ left.inner;
          is = ap (λ v. first ∷ v) left.is;
          named = ap (λ n. first.0 ∷ n) left.named;
        }

-- what is written is no outer variable's name that can be seen
not_outer : (outer names : List (List ℕ)) (name : List ℕ)
    → Covers (is_free outer names) (bytes_eq name) → has_name names name ≡ false
    → has_name outer name ≡ false
not_outer outer names name covers none = by_test (has_name outer name) refl
  where
    by_test : (t : Bool) → has_name outer name ≡ t → t ≡ false
    by_test false e = refl
    by_test true e =
        let bare : is_free outer names name ≡ false =
        ap (λ t. has_name names name || not t) e ∙ ap (λ t. t || false) none in
        let no : bytes_eq name name ≡ false = covers name bare in
        let yes : bytes_eq name name ≡ true = one_name name name refl in
        absurd (cc)

-- ---- calls

refilled_same : (cells more : List ℤ) → refilled cells (cells ++ more) ≡ cells
refilled_same [] more = refl
refilled_same (cell ∷ cells) more = ap (λ l. cell ∷ l) (refilled_same cells more)

-- the values that variables have change nothing
revalued_same : (variables : Variables) (more : List ℤ)
    → revalued variables (values_of variables ++ more) ≡ variables
revalued_same [] more = refl
revalued_same (first ∷ rest) more =
    let held = values_of rest in
    let parts : (held ++ first.1) ++ more ≡ held ++ (first.1 ++ more) =
    append_assoc held first.1 more in
    let cells : refilled first.1 (drop (length held) (held ++ (first.1 ++ more))) ≡ first.1 =
    ap (refilled first.1) (drop-append_seam held (first.1 ++ more))
    ∙ refilled_same first.1 more in
    ap (λ v. revalued (first ∷ rest) v) parts
    ∙ ap (λ c. record { 0 = first.0; 1 = c } ∷ revalued rest (held ++ (first.1 ++ more))) cells
    ∙ ap (λ l. first ∷ l) (revalued_same rest (first.1 ++ more))

-- a call gives these values of the fields back, but for calls of such names
abbrev pub GivesBack : Setting → (such : List ℕ → Bool) → (held : List ℤ) → Type 0
GivesBack setting such held =
    (name : List ℕ) (values : List ℤ) (turns : ℕ) → such name ≡ false
    → IfOk (setting.call name values held turns) (λ called. called.fields ≡ held)

called_within : (setting : Setting) (outer : Variables) (names : List (List ℕ)) (store : Store)
    (called : Called) → setting.fields ≡ length outer → called.fields ≡ values_of outer
    → Within outer names store.variables
    → Within outer names (after_call setting store called).variables
called_within setting outer names store called size back h =
    let variables = store.variables in
    let fields : fields_in setting variables ≡ outer =
    ap (λ n. drop (length variables - n) variables) size ∙ outer_is outer names variables h in
    let locals : locals_in setting variables ≡ h.inner =
    ap (λ n. take (length variables - n) variables) size ∙ inner_is outer names variables h in
    record {
      inner = h.inner;
      is = ap (λ l. l ++ revalued (fields_in setting variables) called.fields) locals
          ∙ ap (λ v. h.inner ++ revalued v called.fields) fields
          ∙ ap (λ v. h.inner ++ revalued outer v) (back ∙ sym (append-nil (values_of outer)))
          ∙ ap (λ v. h.inner ++ v) (revalued_same outer []);
      named = h.named;
    }

-- the outer variables stay after writes of free names, and after calls that give their values back
pub within_holding : (setting : Setting) (such : List ℕ → Bool) (outer : Variables)
    (names : List (List ℕ)) → setting.fields ≡ length outer
    → GivesBack setting such (values_of outer)
    → HoldingBut setting (λ store. Within outer names store.variables)
    (is_free (plain_names outer) names) such
within_holding setting such outer names size back = record {
  moved = λ store traffic h. h;
  written = λ store name place value covers h.
      let none : has_name (plain_names h.inner) name ≡ false
      → has_name (plain_names outer) name ≡ false =
      λ bare. not_outer (plain_names outer) names name covers
      (ap (λ l. has_name l name) (sym h.named) ∙ bare) in
      let left = inner_written h.inner outer name place value none in
      record {
        inner = left.inner;
        is = ap (λ v. with_cell v name place value) h.is ∙ left.is;
        named = left.named ∙ h.named;
      };
  called = λ store name values none h.
      let held = values_of (fields_in setting store.variables) in
      let turns = store.traffic.turns in
      let same : held ≡ values_of outer =
      ap values_of (ap (λ n. drop (length store.variables - n) store.variables) size
      ∙ outer_is outer names store.variables h) in
      IfOk-weaker (setting.call name values held turns) (λ called. called.fields ≡ values_of outer)
      _ (λ called given. called_within setting outer names store called size given h)
      (subst (λ l. IfOk (setting.call name values l turns)
      (λ called. called.fields ≡ values_of outer)) (sym same) (back name values turns none));
}

-- ---- declarations

-- what isn't among the names after a declaration isn't among those before it, and not declared
bare_declared : (names : List (List ℕ)) (variables : List tree.Variable) (name : List ℕ)
    → has_name (with_locals names variables) name ≡ false
    → (has_name names name ≡ false) × (declares name variables ≡ false)
bare_declared names [] name bare = (bare, refl)
bare_declared names (first ∷ rest) name bare =
    let later = bare_declared (first.name ∷ names) rest name bare in (
      or_second (bytes_eq first.name name) _ later.0,
      neither _ _ (or_first (bytes_eq first.name name) _ later.0) later.1,
    )

pub bare_after : (names : List (List ℕ)) (s : tree.Stmt) (name : List ℕ)
    → has_name (locals_after names s) name ≡ false
    → (has_name names name ≡ false) × (shadows name s ≡ false)
bare_after names (tree.Declare kind variables) name bare = bare_declared names variables name bare
bare_after names tree.Empty name bare = (bare, refl)
bare_after names (tree.Compose statement) name bare = (bare, refl)
bare_after names (tree.Block body) name bare = (bare, refl)
bare_after names (tree.Evaluate value) name bare = (bare, refl)
bare_after names (tree.Assign assigned operator value) name bare = (bare, refl)
bare_after names (tree.AssignElement array index operator value) name bare = (bare, refl)
bare_after names (tree.If condition chosen) name bare = (bare, refl)
bare_after names (tree.IfElse condition chosen other) name bare = (bare, refl)
bare_after names (tree.While condition body) name bare = (bare, refl)
bare_after names (tree.For first condition step body) name bare = (bare, refl)
bare_after names (tree.Push value) name bare = (bare, refl)
bare_after names (tree.Print value) name bare = (bare, refl)
bare_after names (tree.Println value) name bare = (bare, refl)
bare_after names (tree.Return value) name bare = (bare, refl)

-- a statement only adds names
pub record IsFurther (names further : List (List ℕ)) : Type 0 where
  pub more : List (List ℕ)
  pub is : further ≡ more ++ names

further_declared : (names : List (List ℕ)) (variables : List tree.Variable)
    → IsFurther names (with_locals names variables)
further_declared names [] = record { more = []; is = refl }
further_declared names (first ∷ rest) =
    let later = further_declared (first.name ∷ names) rest in
    record {
      more = later.more ++ first.name ∷ [];
      is = later.is ∙ sym (append_assoc later.more (first.name ∷ []) names);
    }

pub further_after : (names : List (List ℕ)) (s : tree.Stmt) → IsFurther names (locals_after names s)
further_after names (tree.Declare kind variables) = further_declared names variables
further_after names tree.Empty = record { more = []; is = refl }
further_after names (tree.Compose statement) = record { more = []; is = refl }
further_after names (tree.Block body) = record { more = []; is = refl }
further_after names (tree.Evaluate value) = record { more = []; is = refl }
further_after names (tree.Assign assigned operator value) = record { more = []; is = refl }
further_after names (tree.AssignElement array index operator value) =
    record { more = []; is = refl }
further_after names (tree.If condition chosen) = record { more = []; is = refl }
further_after names (tree.IfElse condition chosen other) = record { more = []; is = refl }
further_after names (tree.While condition body) = record { more = []; is = refl }
further_after names (tree.For first condition step body) = record { more = []; is = refl }
further_after names (tree.Push value) = record { more = []; is = refl }
further_after names (tree.Print value) = record { more = []; is = refl }
further_after names (tree.Println value) = record { more = []; is = refl }
further_after names (tree.Return value) = record { more = []; is = refl }

pub around_further : (outer : Variables) (names further : List (List ℕ)) (variables : Variables)
    → IsFurther names further → Around outer further variables → Around outer names variables
around_further outer names further variables h k = record {
  more = k.more ++ h.more;
  within = subst (λ l. Within outer l variables)
      (ap (λ l. k.more ++ l) h.is ∙ sym (append_assoc k.more h.more names)) k.within;
}
