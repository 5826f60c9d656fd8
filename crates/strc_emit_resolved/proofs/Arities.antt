-- How many parameters helper functions have, by their signatures and in a filter that the rules
-- accept.
use Rattle.std.proofs.Common.{◌≡◌, ℕ, Bool, true, false, ◌||◌, cond, List, [], ◌∷◌, length}
use Rattle.std.proofs.Common.{Option, Some, None, refl, sym, ap, ◌∙◌}
use Rattle.std.specs.Prelude.{bytes_eq, is_some}
use Rattle.std.specs.Option.{option_map}
use Rattle.strc_lex_names.specs.Names.{has_name, plain_names, value_named}
use Rattle.strc_work_writes.proofs.CalledNames.{same_name}
use Rattle.strc_parse_tree.specs.Tree as tree
use Rattle.strc_parse_tree.specs.declared.tree.HelperType.{HelperType}
use Rattle.strc_work_meaning.specs.Filters.{Helper, helper_named}
use Rattle.strc_work_rules.specs.declared.signatures.Signature.{Signature}
use Rattle.strc_work_rules.specs.Signatures.{Signatures, signature_of, with_signature}
use Rattle.strc_work_rules.specs.Signatures.{signatures_after}

-- the number of parameters of the first helper function of a name, where there is one
abbrev pub arity : List tree.Member → List ℕ → Option ℕ
arity members name =
    option_map (λ (helper : Helper). length helper.parameters) (helper_named members name)

abbrev pub signed : Signatures → List ℕ → Option ℕ
signed signatures name =
    option_map (λ (signature : Signature). signature.parameters) (value_named signatures name)

-- the first of two, where there is one
abbrev pub first_of : Option ℕ → Option ℕ → Option ℕ
first_of None other = other
first_of (Some n) other = Some n

-- the arity of a name, where this one is a helper function's of so many parameters
abbrev when_own : Bool → ℕ → Option ℕ → Option ℕ
when_own own count rest = cond own (Some count) rest

named_signed : (signatures : Signatures) (name : List ℕ)
    → has_name (plain_names signatures) name ≡ is_some (signed signatures name)
named_signed [] name = refl
named_signed (first ∷ rest) name = by_test (bytes_eq first.0 name) (named_signed rest name)
  where
    by_test : (t : Bool)
        → has_name (plain_names rest) name ≡ is_some (signed rest name)
        → t || has_name (plain_names rest) name
        ≡ is_some (option_map (λ (signature : Signature). signature.parameters)
        (cond t (Some first.1) (value_named rest name)))
    by_test true inner = refl
    by_test false inner = inner

first_again : (found rest : Option ℕ) (count : ℕ) → is_some found ≡ true
    → first_of found rest ≡ first_of found (Some count)
first_again None rest count e = absurd (cc)
first_again (Some n) rest count e = refl

first_none : (found : Option ℕ) (other : Option ℕ) → is_some found ≡ false
    → first_of found other ≡ other
first_none None other e = refl
first_none (Some n) other e = absurd (cc)

-- one more helper function, which is called where no earlier one has its name
with_signed : (signatures : Signatures) (own name : List ℕ) (signature : Signature)
    (rest : Option ℕ)
    → first_of (signed (with_signature signatures own signature) name) rest
    ≡ first_of (signed signatures name)
    (when_own (bytes_eq own name) signature.parameters rest)
with_signed signatures own name signature rest =
    by_known (has_name (plain_names signatures) own) refl (bytes_eq own name) refl
  where
    here : bytes_eq own name ≡ true
        → has_name (plain_names signatures) own ≡ is_some (signed signatures name)
    here same = ap (has_name (plain_names signatures)) (same_name own name same)
        ∙ named_signed signatures name

    by_known : (known : Bool) → has_name (plain_names signatures) own ≡ known
        → (same : Bool) → bytes_eq own name ≡ same
        → first_of (signed (cond known signatures (record { 0 = own; 1 = signature } ∷ signatures))
        name) rest
        ≡ first_of (signed signatures name) (when_own same signature.parameters rest)
    by_known true k true s =
        first_again (signed signatures name) rest signature.parameters (sym (here s) ∙ k)
    by_known true k false s = refl
    by_known false k true s =
        ap (λ t. first_of (option_map (λ (it : Signature). it.parameters)
        (cond t (Some signature) (value_named signatures name))) rest) s
        ∙ sym (first_none (signed signatures name) (Some signature.parameters)
        (sym (here s) ∙ k))
    by_known false k false s =
        ap (λ t. first_of (option_map (λ (it : Signature). it.parameters)
        (cond t (Some signature) (value_named signatures name))) rest) s

when_helper : (own : Bool) (helper : Helper) (rest : Option Helper)
    → option_map (λ (it : Helper). length it.parameters) (cond own (Some helper) rest)
    ≡ when_own own (length helper.parameters)
    (option_map (λ (it : Helper). length it.parameters) rest)
when_helper true helper rest = refl
when_helper false helper rest = refl

-- signatures have the arities of the members
pub signatures_count : (signatures : Signatures) (members : List tree.Member) (name : List ℕ)
    → signed (signatures_after signatures members) name
    ≡ first_of (signed signatures name) (arity members name)
signatures_count signatures [] name = by_found (signed signatures name)
  where
    by_found : (found : Option ℕ) → found ≡ first_of found None
    by_found None = refl
    by_found (Some n) = refl
signatures_count signatures (tree.Fields kind variables ∷ rest) name =
    signatures_count signatures rest name
signatures_count signatures (tree.Init block ∷ rest) name = signatures_count signatures rest name
signatures_count signatures (tree.Prework rates block ∷ rest) name =
    signatures_count signatures rest name
signatures_count signatures (tree.Work rates block ∷ rest) name =
    signatures_count signatures rest name
signatures_count signatures (tree.Helper kind own parameters block ∷ rest) name =
    let signature = signature_of kind parameters in
    signatures_count (with_signature signatures own signature) rest name
    ∙ with_signed signatures own name signature (arity rest name)
    ∙ ap (first_of (signed signatures name)) (sym (when_helper (bytes_eq own name)
    (record { kind = kind; parameters = parameters; block = block }) (helper_named rest name)))

-- members whose helper functions take as many arguments as those of others
abbrev pub HaveArities : List tree.Member → List tree.Member → Type 0
HaveArities members members' = (name : List ℕ) → arity members' name ≡ arity members name

pub helper_arities : (kind : HelperType) (own : List ℕ) (parameters parameters' : List (List ℕ))
    (block block' : tree.Stmts) (rest rest' : List tree.Member) → parameters' ≡ parameters
    → HaveArities rest rest'
    → HaveArities (tree.Helper kind own parameters block ∷ rest)
    (tree.Helper kind own parameters' block' ∷ rest')
helper_arities kind own parameters parameters' block block' rest rest' same have name =
    when_helper (bytes_eq own name)
    (record { kind = kind; parameters = parameters'; block = block' }) (helper_named rest' name)
    ∙ ap (λ l. when_own (bytes_eq own name) (length l) (arity rest' name)) same
    ∙ ap (when_own (bytes_eq own name) (length parameters)) (have name)
    ∙ sym (when_helper (bytes_eq own name)
    (record { kind = kind; parameters = parameters; block = block }) (helper_named rest name))
