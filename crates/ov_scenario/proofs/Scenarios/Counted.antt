-- Lines that are judged one after the other, of which the first at fault are kept, and all at fault are counted.
use Rattle.std.proofs.Common.{◌≡◌, ◌∙◌, ◌<◌, ◌≤◌, ◌+◌, ℕ, List, [], ◌∷◌, ◌++◌, append-nil, length, length-append}
use Rattle.std.proofs.Common.{take, Option, Some, None, min, ap, sym, subst, refl, arith}
use Rattle.std.specs.Prelude.{option_to_list}
use Rattle.std.proofs.lemmas.List.{take-append-le, take_all, length-take}
use Rattle.ov_scenario.specs.Code.Judging.{Judges, faulty_of}
use Rattle.ov_scenario.specs.Scenarios.{AreFaulty, AreFirstOf, before_of, most_counted}
use Rattle.ov_scenario.specs.Statements.{Stated}
use Rattle.ov_scenario.specs.declared.fault_listing.FaultyLines.{FaultyLines}
use Rattle.ov_scenario.specs.declared.judged_line_iterator.Judged.{Judged}
use Rattle.ov_scenario.specs.declared.judged_line_iterator.Judging.{Judging}
use Rattle.ov_scenario.specs.declared.line_judging.Before.{Before}
use Rattle.ov_scenario.specs.declared.scenario_fault.FaultyLine.{FaultyLine}
use Rattle.ov_scenario.proofs.Scenarios.Judged.{JudgedSoFar, begun, judged_more, all_judged}

-- ---- one line more

-- the first of a list that is not longer, with one item more
pub one_kept : {A : Type 0} (most : ℕ) (kept all : List A) (x : A) → kept ≡ take most all → length kept < most
    → kept ++ x ∷ [] ≡ take most (all ++ x ∷ [])
one_kept most kept all x are room =
    let short : length all < most = omega (arith, ap length are, length-take most all) in
    let longer : length (all ++ x ∷ []) ≤ most = omega (arith, length-append all (x ∷ []), short) in
    ap (λ l. l ++ x ∷ []) (are ∙ take_all most all (omega (arith, short)))
    ∙ sym (take_all most (all ++ x ∷ []) longer)

-- the first of a list that is long enough
pub none_kept : {A : Type 0} (most : ℕ) (kept all : List A) (x : A) → kept ≡ take most all → ¬ (length kept < most)
    → kept ≡ take most (all ++ x ∷ [])
none_kept most kept all x are full =
    let long : most ≤ length all = omega (arith, ap length are, length-take most all, full) in
    are ∙ sym (take-append-le most all (x ∷ []) long)

-- the count of a list with one item more
pub one_counted : {A : Type 0} (count : ℕ) (all : List A) (x : A) → count ≡ min (length all) most_counted
    → min (count + 1) most_counted ≡ min (length (all ++ x ∷ [])) most_counted
one_counted count all x are = omega (arith, are, length-append all (x ∷ []))

-- ---- all lines

-- with the lines at fault of those that are left, some lines are all lines at fault; the first of them are kept, and
-- they are counted
pub record CountedSoFar (lines left : List Stated) (before : Before) (most : ℕ) (faulty : FaultyLines) : Type 0 where
  pub all : List FaultyLine
  pub judged : JudgedSoFar lines left before all
  pub first : AreFirstOf most all faulty

pub none_counted :
    (lines left : List Stated) (before : Before) (most : ℕ) (faulty : FaultyLines) → left ≡ lines
    → before ≡ before_of [] → faulty.first.items ≡ [] → faulty.count ≡ 0
    → CountedSoFar lines left before most faulty
none_counted lines left before most faulty same known none zero = record {
  all = [];
  judged = begun lines left before [] same known refl;
  first = (none ∙ sym (take_all most [] (omega arith)), zero ∙ omega arith);
}

-- one line more, which is at fault or not
pub line_counted :
    (lines : List Stated) (old new : Judging) (judged : Judged) (most : ℕ) (faulty then : FaultyLines)
    → (so_far : CountedSoFar lines old.ahead old.before most faulty) → Judges old (Some judged) new
    → AreFirstOf most (so_far.all ++ option_to_list (faulty_of judged)) then
    → CountedSoFar lines new.ahead new.before most then
line_counted lines old new judged most faulty then so_far judges first = record {
  all = so_far.all ++ option_to_list (faulty_of judged);
  judged = judged_more lines old new judged so_far.all so_far.judged judges;
  first = first;
}

-- the next line is not at fault
pub unchanged : (most : ℕ) (all : List FaultyLine) (faulty : FaultyLines) (next : Option FaultyLine)
    → AreFirstOf most all faulty → next ≡ None → AreFirstOf most (all ++ option_to_list next) faulty
unchanged most all faulty next are none =
    subst (λ l. AreFirstOf most l faulty)
    (sym (append-nil all) ∙ ap (λ (o : Option FaultyLine). all ++ option_to_list o) (sym none)) are

-- all lines were judged
pub all_counted :
    (lines left : List Stated) (before : Before) (most : ℕ) (faulty : FaultyLines)
    → CountedSoFar lines left before most faulty → left ≡ []
    → (all : List FaultyLine) × AreFaulty [] lines all × AreFirstOf most all faulty
all_counted lines left before most faulty so_far none =
    (so_far.all, all_judged lines left before so_far.all so_far.judged none, so_far.first)
