-- Codes of helper functions whose calls know where these stand: the same text is theirs.
use Rattle.std.proofs.Common.{◌≡◌, ℕ, suc, ◌+◌, List, [], ◌∷◌, ◌++◌, Result, Vec, Global}
use Rattle.std.proofs.Common.{refl, sym, ap, ◌∙◌, subst}
use mathlib.Core.Path.{fun_ext}
use Rattle.std.specs.Prelude.{not, length, codes, ◌≤◌, ℤ, Option}
use Rattle.std.specs.List.{All}
use Rattle.std.proofs.lemmas.List.Elements.{All-cons, All-head, All-nil, All-tail}
use Rattle.strc_lex_names.specs.Results.{result_and_then}
use Rattle.strc_parse_tree.specs.Tree as tree
use Rattle.strc_parse_tree.specs.declared.tree.FilterTree.{FilterTree}
use Rattle.strc_work_meaning.specs.declared.fault.Cause.{Cause}
use Rattle.strc_work_meaning.specs.Filters.{filter_of}
use Rattle.strc_work_meaning.specs.Firing.{Setting, turn_limit}
use Rattle.strc_work_meaning.specs.Scoping.{Scope}
use Rattle.strc_work_code.specs.declared.helper.HelperCode.{HelperCode}
use Rattle.strc_work_code.specs.declared.inst.Inst.{Inst}
use Rattle.strc_work_code.specs.declared.node.Node.{Node, Row_of-Node, end_of-Node, more_of-Node}
use Rattle.strc_work_code.specs.declared.node.Node.TheVariants as node
use Rattle.strc_work_code.specs.Code.{code_of, node_before, row_before}
use Rattle.strc_work_code.specs.Comparisons.{slot_of}
use Rattle.strc_work_code.specs.Conditions.{tested}
use Rattle.strc_work_code.specs.Flat.{IsFlat, node_done, row_done, chosen_after}
use Rattle.strc_work_code.specs.Flat.{tested_after}
use Rattle.strc_work_code.specs.Helpers.{AreHelpers}
use Rattle.strc_work_code.specs.Links.{helper_names, place_of, IsLinked, IsLinkedRow}
use Rattle.strc_work_code.specs.Links.{AreLinkedCodes}
use Rattle.strc_work_code.specs.Lowering.{field_scope}
use Rattle.strc_work_code.specs.Machine.{Machine}
use Rattle.strc_work_code.specs.Nodes.{Nodes, End, Choice, Loop, before, cycled, nodes_room}
use Rattle.strc_work_code.specs.Nodes.{nodes_print}
use Rattle.strc_emit_c.specs.declared.function.Function.{Function}
use Rattle.strc_emit_filter.specs.Arrays.{FindsArrays}
use Rattle.strc_emit_filter.specs.Helpers.{declaration_text, declarations_from, definition_text}
use Rattle.strc_emit_filter.specs.Helpers.{definitions_from, helpers_text}
use Rattle.strc_emit_filter.specs.Filters.{IsFilterText, filter_text, helper_function, names_of}
use Rattle.strc_emit_filter.specs.Filters.{has_helpers, prework_text, body_text, body_function}
use Rattle.strc_emit_filter.specs.Variables.{field_text}
use Rattle.strc_emit_text.specs.Texts.{texts_below}

module _ (names : List (List ℕ)) where
  abbrev mutual
    -- a node whose calls know the places of helper functions of these names
    relinked : Node → Node
    relinked (node.Seq' shape body) = node.Seq' shape (relinked_row body)
    relinked (node.BasicBlock insts) = node.BasicBlock insts
    relinked (node.If' condition at chosen at' other) =
        node.If' condition at (relinked chosen) at' (relinked other)
    relinked (node.While' at first condition at' body mark) =
        node.While' at (relinked first) condition at' (relinked body) mark
    relinked (node.Call call) = node.Call (record call { place = place_of names call.name })

    relinked_row : {m : _} → Row_of-Node m → Row_of-Node m
    relinked_row end_of-Node = end_of-Node
    relinked_row (more_of-Node first rest) = more_of-Node (relinked first) (relinked_row rest)

  mutual
    links : (code : Node) → IsLinked names (relinked code)
    links (node.Seq' shape body) = links_row body
    links (node.BasicBlock insts) = tt
    links (node.If' condition at chosen at' other) = (links chosen, links other)
    links (node.While' at first condition at' body mark) = (links first, links body)
    links (node.Call call) = refl

    links_row : {m : _} (row : Row_of-Node m) → IsLinkedRow names (relinked_row row)
    links_row end_of-Node = tt
    links_row (more_of-Node first rest) = (links first, links_row rest)

  -- it means the same code
  mutual
    same_before : (code : Node) (last : Nodes)
        → node_before (relinked code) last ≡ node_before code last
    same_before (node.Seq' shape body) last = row_same body last
    same_before (node.BasicBlock insts) last = refl
    same_before (node.If' condition at chosen at' other) last =
        ap (λ c. tested condition (Choice (slot_of condition) c
        (node_before (relinked other) End) last)) (same_before chosen End)
        ∙ ap (λ c. tested condition (Choice (slot_of condition) (node_before chosen End) c last))
        (same_before other End)
    same_before (node.While' at first condition at' body mark) last =
        ap (λ c. Loop (before c (tested condition End)) (slot_of condition)
        (node_before (relinked body) End) last) (same_before first End)
        ∙ ap (λ c. Loop (before (node_before first End) (tested condition End))
        (slot_of condition) c last) (same_before body End)
    same_before (node.Call call) last = refl

    row_same : {m : _} (row : Row_of-Node m) (last : Nodes)
        → row_before (relinked_row row) last ≡ row_before row last
    row_same end_of-Node last = refl
    row_same (more_of-Node first rest) last =
        same_before first (row_before (relinked_row rest) last)
        ∙ ap (node_before first) (row_same rest last)

  code_same : (code : Node) → code_of (relinked code) ≡ code_of code
  code_same code = same_before code End

  -- and does the same
  mutual
    does_same : (setting : Setting) (code : Node) (machine : Machine)
        → node_done setting (relinked code) machine ≡ node_done setting code machine
    does_same setting (node.Seq' shape body) machine = row_does setting body machine
    does_same setting (node.BasicBlock insts) machine = refl
    does_same setting (node.If' condition at chosen at' other) machine =
        ap (λ (f : Machine → Result Machine Cause). chosen_after condition f
        (node_done setting (relinked other)) machine) (fun_ext (does_same setting chosen))
        ∙ ap (λ (f : Machine → Result Machine Cause). chosen_after condition
        (node_done setting chosen) f machine) (fun_ext (does_same setting other))
    does_same setting (node.While' at first condition at' body mark) machine =
        ap (λ (f : Machine → Result Machine Cause). cycled (suc turn_limit)
        (tested_after f condition) (slot_of condition) (node_done setting (relinked body))
        machine) (fun_ext (does_same setting first))
        ∙ ap (λ (f : Machine → Result Machine Cause). cycled (suc turn_limit)
        (tested_after (node_done setting first) condition) (slot_of condition) f machine)
        (fun_ext (does_same setting body))
    does_same setting (node.Call call) machine = refl

    row_does : {m : _} (setting : Setting) (row : Row_of-Node m) (machine : Machine)
        → row_done setting (relinked_row row) machine ≡ row_done setting row machine
    row_does setting end_of-Node machine = refl
    row_does setting (more_of-Node first rest) machine =
        ap (λ r. result_and_then r (row_done setting (relinked_row rest)))
        (does_same setting first machine)
        ∙ ap (λ (f : Machine → Result Machine Cause).
        result_and_then (node_done setting first machine) f) (fun_ext (row_does setting rest))

  line_same : (code : Node) (insts : Vec Inst Global) → relinked code ≡ node.BasicBlock insts
      → code ≡ node.BasicBlock insts
  line_same (node.Seq' shape body) insts e = absurd (cc)
  line_same (node.BasicBlock insts') insts e = e
  line_same (node.If' condition at chosen at' other) insts e = absurd (cc)
  line_same (node.While' at first condition at' body mark) insts e = absurd (cc)
  line_same (node.Call call) insts e = absurd (cc)

  flat_same : (code : Node) (nodes : Nodes) → IsFlat code nodes → IsFlat (relinked code) nodes
  flat_same code nodes flat = record {
    does = λ setting machine. does_same setting code machine ∙ flat.does setting machine;
    line = λ insts e. flat.line insts (line_same code insts e);
    room = subst (λ c. nodes_room c ≤ nodes_room nodes) (sym (code_same code)) flat.room;
    prints = λ e. flat.prints (ap nodes_print (sym (code_same code)) ∙ e);
  }

  -- codes of helper functions
  abbrev one_linked : HelperCode → HelperCode
  one_linked helper = record helper { flat = relinked helper.flat }

  abbrev pub all_linked : List HelperCode → List HelperCode
  all_linked [] = []
  all_linked (first ∷ rest) = one_linked first ∷ all_linked rest

  pub codes_link : (codes : List HelperCode) → AreLinkedCodes names (all_linked codes)
  codes_link [] = tt
  codes_link (first ∷ rest) = (links first.flat, codes_link rest)

  pub helpers_same : (fields : Scope) (members : List tree.Member) (codes : List HelperCode)
      → AreHelpers fields members codes → AreHelpers fields members (all_linked codes)
  helpers_same fields [] [] are = are
  helpers_same fields [] (first ∷ others) are = absurd (cc)
  helpers_same fields (tree.Fields kind variables ∷ rest) codes are =
      helpers_same fields rest codes are
  helpers_same fields (tree.Init block ∷ rest) codes are = helpers_same fields rest codes are
  helpers_same fields (tree.Prework rates block ∷ rest) codes are =
      helpers_same fields rest codes are
  helpers_same fields (tree.Work rates block ∷ rest) codes are =
      helpers_same fields rest codes are
  helpers_same fields (tree.Helper kind name parameters block ∷ rest) [] are = are
  helpers_same fields (tree.Helper kind name parameters block ∷ rest) (first ∷ others) are = (
    record {
      name_is = are.0.name_is;
      parameters_are = are.0.parameters_are;
      block_is = are.0.block_is;
      flat = flat_same first.flat _ are.0.flat;
      slots_are = are.0.slots_are;
    },
    helpers_same fields rest others are.1,
  )

  -- they find the same arrays
  found_same : (arrays : List (Option ℕ)) (codes : List HelperCode)
      → All (λ (helper : HelperCode). FindsArrays arrays (code_of helper.code)) codes
      → All (λ (helper : HelperCode). FindsArrays arrays (code_of helper.code)) (all_linked codes)
  found_same arrays [] found =
      All-nil (λ (helper : HelperCode). FindsArrays arrays (code_of helper.code))
  found_same arrays (first ∷ rest) found =
      let finds = λ (helper : HelperCode). FindsArrays arrays (code_of helper.code) in
      All-cons finds (one_linked first) (all_linked rest) (All-head finds first rest found)
      (found_same arrays rest (All-tail finds first rest found))

  names_same : (codes : List HelperCode) → names_of (all_linked codes) ≡ names_of codes
  names_same [] = refl
  names_same (first ∷ rest) = ap (λ l. first.name ∷ l) (names_same rest)

  declared_same : (function : Function) (number : ℕ) (codes : List HelperCode)
      → declarations_from function number (all_linked codes)
      ≡ declarations_from function number codes
  declared_same function number [] = refl
  declared_same function number (first ∷ rest) =
      ap (λ l. declaration_text function number first ++ l)
      (declared_same function (number + 1) rest)

  defined_same : (function : Function) (number : ℕ) (codes : List HelperCode)
      → definitions_from function number (all_linked codes)
      ≡ definitions_from function number codes
  defined_same function number [] = refl
  defined_same function number (first ∷ rest) =
      ap (λ l. definition_text function number first ++ l)
      (defined_same function (number + 1) rest)

  text_same : (function : Function) (codes : List HelperCode)
      → helpers_text function (all_linked codes) ≡ helpers_text function codes
  text_same function codes =
      ap (λ l. l ++ definitions_from function 0 (all_linked codes))
      (declared_same function 0 codes)
      ∙ ap (λ l. declarations_from function 0 codes ++ l) (defined_same function 0 codes)

-- the same text is written for such codes
pub links_text : {number : ℕ} {filter : FilterTree} {values : List ℤ} {text : List ℕ}
    → IsFilterText number filter values text
    → (linked : IsFilterText number filter values text)
    × AreLinkedCodes (helper_names (filter_of filter).members) linked.helpers
links_text {number} {filter} {values} {text} written =
    let names = helper_names (filter_of filter).members in
    let linked = all_linked names written.helpers in
    let alone = not (has_helpers filter) in
    let function : List (List ℕ) → Function =
    λ of. helper_function number (length values) written.arrays of in (
      record {
        arrays = written.arrays;
        tests = written.tests;
        untested = written.untested;
        helpers = linked;
        prework = written.prework;
        work = written.work;
        helpers_are = helpers_same names (field_scope (filter_of filter))
            (filter_of filter).members written.helpers written.helpers_are;
        prework_is = written.prework_is;
        work_is = written.work_is;
        limits_are = written.limits_are;
        found = record {
          in_helpers = found_same names written.arrays.items written.helpers
              written.found.in_helpers;
          in_prework = written.found.in_prework;
          in_work = written.found.in_work;
        };
        text_is = written.text_is ∙ sym (
            ap (λ of. filter_text (function of) written.tests alone values linked written.prework
            written.work)
            (names_same names written.helpers)
            ∙ ap (λ helpers. texts_below (field_text (function (names_of written.helpers)) values)
            (length values) ++ helpers
            ++ prework_text (function (names_of written.helpers)) written.tests alone
            written.prework
            ++ body_text (body_function (function (names_of written.helpers)) written.tests
            written.work.limits) (codes "work") alone written.work.code)
            (text_same names (function (names_of written.helpers)) written.helpers));
      },
      codes_link names written.helpers,
    )
