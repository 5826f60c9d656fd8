-- Parts of a text that the walk passes one after the other.
use Rattle.std.proofs.Common.{◌≡◌, refl, sym, ap, ◌∙◌, ℕ, ◌-◌, List, [], ◌++◌, length}
use Rattle.std.proofs.Common.{ℤ, drop, map, zero, suc, ◌<◌, Option, Some, append_assoc, subst}
use Rattle.std.proofs.Common.{arith}
use Rattle.std.proofs.lemmas.List.{append-nil}
use Rattle.strc_parse_tree.specs.Tree as tree
use Rattle.strc_lex_names.specs.Names.{with_value}
use Rattle.strc_rate_intervals.specs.Loops.{Loop, counted_loop}
use Rattle.strc_rate_intervals.specs.declared.interval.Interval.{Interval}
use Rattle.strc_rate_intervals.specs.Intervals.{Intervals, intervals_after, names_of}
use Rattle.strc_rate_intervals.specs.Intervals.{interval_named}
use Rattle.strc_rate_intervals.specs.Intervals.{with_interval}
use Rattle.strc_rate_intervals.proofs.IntervalGrowth.{drop_own, names_after, with_value_back}
use Rattle.strc_rate_intervals.proofs.IntervalGrowth.{with_interval_is}
use Rattle.strc_rate.specs.Counts.{Counts, sequence, if_equal, require_zero, repeated}
use Rattle.strc_rate.specs.Counts.{option_counts, stmt_counts, turns_counts}
use Rattle.strc_rate.specs.Entries.{peeks_of_stmt}
use Rattle.strc_rate.specs.Peeks.{PeekSite, PopInterval, advance, in_turns, site_in_turns}
use Rattle.strc_rate.specs.Peeks.{some_turns, stmt_sites}
use Rattle.strc_rate.specs.Walk.{IsPassed, StmtIsPassed, InnerIsPassed, TurnsArePassed}
use Rattle.strc_rate.proofs.Turning.{body_in_turns, names_of-with_value}

-- a part without items and peeks
pub nothing_passed : (intervals : Intervals) (sites : List PeekSite) (counts : Counts)
    (items : Counts) → counts ≡ items
    → IsPassed (Some items) [] intervals (Some counts) sites sites intervals
nothing_passed intervals sites counts items e = record {
  counted = ap Some e;
  reported = sym (append-nil sites);
  kept = refl;
}

-- two parts
pub two_passed : {i j c d : Option Counts} {s t before middle after : List PeekSite}
    {n o m p : Intervals} (whole : Option Counts) → IsPassed i s n c before middle m
    → IsPassed j t o d middle after p → whole ≡ sequence c d
    → IsPassed (sequence i j) (s ++ t) o whole before after p
two_passed {i = i} {d = d} {s = s} {t = t} {before = before} whole first second e = record {
  counted = e ∙ ap (λ x. sequence x d) first.counted ∙ ap (sequence i) second.counted;
  reported = second.reported ∙ ap (λ x. x ++ t) first.reported ∙ append_assoc before s t;
  kept = second.kept;
}

-- a condition and what is done by its constant value, after its pops
pub choice_passed : {i c d : Option Counts} {s before middle after : List PeekSite}
    {n o m p : Intervals} {known value : Option ℤ} (popped here : PopInterval)
    (items : Option ℤ → Option Counts) (part : Option ℤ → PopInterval → List PeekSite)
    (whole : Option Counts) → IsPassed i s n c before middle m → here ≡ advance popped c
    → known ≡ value → IsPassed (items known) (part known here) o d middle after p
    → whole ≡ sequence c d
    → IsPassed (sequence i (items value)) (s ++ part value (advance popped i)) o whole before after
    p
choice_passed {i = i} {d = d} {middle = middle} {after = after} {o = o} {p = p} {known = known}
    popped here items part whole first moved same second e =
    two_passed whole first
    (subst (λ k. IsPassed (items k) (part k (advance popped i)) o d middle after p) same
    (subst (λ h. IsPassed (items known) (part known h) o d middle after p)
    (moved ∙ ap (advance popped) first.counted) second)) e

-- what may be left out, or run several times
pub zero_passed : {i c : Option Counts} {s before after : List PeekSite} {n m : Intervals}
    (whole : Option Counts) → IsPassed i s n c before after m → whole ≡ require_zero c
    → IsPassed (require_zero i) s n whole before after m
zero_passed whole part e = record {
  counted = e ∙ ap require_zero part.counted;
  reported = part.reported;
  kept = part.kept;
}

-- two sides, one of which is taken
pub either_passed : {i j c d : Option Counts} {s t before middle after : List PeekSite}
    {n o m p : Intervals} (whole : Option Counts) → IsPassed i s n c before middle m
    → IsPassed j t o d middle after p → whole ≡ if_equal c d
    → IsPassed (if_equal i j) (s ++ t) o whole before after p
either_passed {i = i} {d = d} {s = s} {t = t} {before = before} whole first second e = record {
  counted = e ∙ ap (λ x. if_equal x d) first.counted ∙ ap (if_equal i) second.counted;
  reported = second.reported ∙ ap (λ x. x ++ t) first.reported ∙ append_assoc before s t;
  kept = second.kept;
}

-- a statement in its own scope among names that are known to be these
pub among_same : (intervals : Intervals) (popped : PopInterval) (statement : tree.Stmt)
    {names left : Intervals} {counts : Option Counts} {before after : List PeekSite}
    → names ≡ intervals → InnerIsPassed names popped statement counts before after left
    → InnerIsPassed intervals popped statement counts before after left
among_same intervals popped statement {left = left} {counts = counts} {before = before}
    {after = after} same passed =
    subst (λ n. InnerIsPassed n popped statement counts before after left) same passed

-- a statement of a scope of its own
pub inner_passed : (intervals names left : Intervals) (popped : PopInterval)
    (statement : tree.Stmt) (outside : ℕ) {counts : Option Counts} {before after : List PeekSite}
    → StmtIsPassed intervals popped statement counts before after names
    → outside ≡ length intervals → left ≡ drop (length names - outside) names
    → InnerIsPassed intervals popped statement counts before after left
inner_passed intervals names left popped statement outside passed length_is dropped = record {
  counted = passed.counted;
  reported = passed.reported;
  kept = dropped ∙ ap (λ n. drop (length names - n) names) length_is
      ∙ ap (λ l. drop (length l - length intervals) l) passed.kept
      ∙ drop_own intervals statement;
}

-- a `for`, by its first part and its turns
pub for_passed : (intervals inner left final : Intervals) (popped here : PopInterval)
    (first : tree.Stmt) (condition : Option tree.Expr) (step body : tree.Stmt) (outside : ℕ)
    (known : Option Loop) (begun turned whole : Option Counts)
    {before middle after : List PeekSite}
    → known ≡ counted_loop (names_of intervals) first condition step body
    → StmtIsPassed intervals popped first begun before middle inner
    → here ≡ advance popped begun
    → TurnsArePassed inner here known condition step body turned middle after left
    → whole ≡ sequence begun turned
    → outside ≡ length intervals → final ≡ drop (length left - outside) left
    → StmtIsPassed intervals popped (tree.For first condition step body) whole before after final
for_passed intervals inner left final popped here first condition step body outside known begun
    turned whole {before = before} {middle = middle} {after = after} known_is entered moved turns e
    length_is dropped =
    let counted = counted_loop (names_of intervals) first condition step body in
    let begins : here ≡ advance popped (stmt_counts (names_of intervals) first) =
    moved ∙ ap (advance popped) entered.counted in
    let within = subst (λ h. TurnsArePassed (intervals_after intervals first) h counted condition
    step body turned middle after left) begins
    (subst (λ n. TurnsArePassed n here counted condition step body turned middle after left)
    entered.kept
    (subst (λ l. TurnsArePassed inner here l condition step body turned middle after left) known_is
    turns)) in
    let both = two_passed whole entered within e in
    let inside = intervals_after intervals first in
    record {
      counted = both.counted
          ∙ ap (λ l. sequence (stmt_counts (names_of intervals) first)
          (turns_counts counted (option_counts condition) (stmt_counts l step)
          (stmt_counts l body))) (names_after intervals first);
      reported = both.reported;
      kept = dropped ∙ ap (λ n. drop (length left - n) left) length_is
          ∙ ap (λ l. drop (length l - length intervals) l) both.kept
          ∙ drop_own intervals first;
    }

-- one turn of a counted loop, in which its variable has an interval
pub turn_passed : (intervals within inner left : Intervals) (name : List ℕ) (interval : Interval)
    (own : Option Interval) (popped : PopInterval) (body : tree.Stmt) {counts : Option Counts}
    {before after : List PeekSite} → own ≡ interval_named intervals name
    → within ≡ with_value intervals name (Some interval)
    → InnerIsPassed within popped body counts before after inner
    → left ≡ with_value inner name own
    → IsPassed (stmt_counts (names_of intervals) body)
    (stmt_sites (with_interval intervals name interval) popped body) intervals counts before after
    left
turn_passed intervals within inner left name interval own popped body {before = before} own_is
    within_is passed given_back = record {
      counted = passed.counted ∙ ap (λ n. stmt_counts n body)
          (ap names_of within_is ∙ names_of-with_value intervals name (Some interval));
      reported = passed.reported ∙ ap (λ w. before ++ stmt_sites w popped body)
          (within_is ∙ sym (with_interval_is intervals name interval));
      kept = given_back ∙ ap (with_value inner name) own_is
          ∙ ap (λ w. with_value w name (interval_named intervals name)) (passed.kept ∙ within_is)
          ∙ with_value_back intervals name (Some interval);
    }

some_turns-some : (turns : ℕ) (sites : List PeekSite) (peeks : List tree.Expr) → 0 < turns
    → sites ≡ some_turns turns sites peeks
some_turns-some zero sites peeks some = absurd (omega arith)
some_turns-some (suc turns) sites peeks some = refl

-- the turns of a counted loop, by its first one
pub turns_passed : (turns : ℕ) (intervals within left : Intervals) (popped : PopInterval)
    (body : tree.Stmt) (none inner slice : List PeekSite) (whole : Option Counts)
    {counts : Option Counts} {before after : List PeekSite} → 0 < turns → none ≡ []
    → IsPassed (stmt_counts (names_of intervals) body) (stmt_sites within popped body) intervals
    counts none inner left
    → slice ≡ inner → after ≡ before ++ map (site_in_turns turns counts) slice
    → whole ≡ repeated turns counts
    → IsPassed (repeated turns (stmt_counts (names_of intervals) body))
    (some_turns turns
    (stmt_sites within (in_turns popped turns (stmt_counts (names_of intervals) body)) body)
    (peeks_of_stmt body)) intervals whole before after left
turns_passed turns intervals within left popped body none inner slice whole {counts = counts}
    {before = before} some empty turn whole_slice more e =
    let items = stmt_counts (names_of intervals) body in
    let first = stmt_sites within popped body in
    let slice_is : slice ≡ first =
    whole_slice ∙ turn.reported ∙ ap (λ l. l ++ first) empty in
    record {
      counted = e ∙ ap (repeated turns) turn.counted;
      reported = more ∙ ap (λ l. before ++ map (site_in_turns turns counts) l) slice_is
          ∙ ap (λ n. before ++ map (site_in_turns turns n) first) turn.counted
          ∙ ap (λ l. before ++ l) (body_in_turns turns items body within popped
          ∙ some_turns-some turns (stmt_sites within (in_turns popped turns items) body)
          (peeks_of_stmt body) some);
      kept = turn.kept;
    }
