-- The line whose fault a file has is the first of its lines at fault.
use Rattle.std.proofs.Common.{inl, inr, ℕ, List, [], ◌∷◌, ◌++◌, sym, subst}
use Rattle.ov_scenario.specs.Scenarios.{AreFaulty, AreFaultyLines, AreFaultless, IsFirstAfter, IsFirstOf}
use Rattle.ov_scenario.specs.Scenarios.{IsScenarioFault, stated_lines}
use Rattle.ov_scenario.specs.Statements.{Stated}
use Rattle.ov_scenario.specs.declared.scenario_fault.FaultyLine.{FaultyLine}

first_of_all :
    (passed lines : List Stated) (faulty : List FaultyLine) (first : FaultyLine) → AreFaulty passed lines faulty
    → IsFirstAfter passed lines first
    → IsFirstOf first.line faulty
unfolding AreFaulty IsFirstAfter
first_of_all passed [] faulty first are is = absurd is
first_of_all passed (line ∷ after) faulty first (inl (right, rest)) (inl (wrong, same)) =
    absurd (right first.fault wrong)
first_of_all passed (line ∷ after) faulty first (inl (right, rest)) (inr (none, more)) =
    first_of_all (passed ++ line ∷ []) after faulty first rest more
first_of_all passed (line ∷ after) faulty first (inr (f, later, wrong, is, rest)) (inl (own, same)) =
    subst (IsFirstOf first.line) (sym is) same
first_of_all passed (line ∷ after) faulty first (inr (f, later, wrong, is, rest)) (inr (none, more)) =
    absurd (none f wrong)

-- the line whose fault a file has is the first of its lines at fault
pub same_first :
    (bytes : List ℕ) (faulty : List FaultyLine) (f : FaultyLine) → AreFaultyLines bytes faulty
    → IsScenarioFault bytes f
    → IsFirstOf f.line faulty
same_first bytes faulty f are is = first_of_all [] (stated_lines bytes) faulty f are is

-- a file with a fault has a line at fault
pub not_both : (bytes : List ℕ) (f : FaultyLine) → AreFaultless (stated_lines bytes) → IsScenarioFault bytes f → ⊥
not_both bytes f right is = first_of_all [] (stated_lines bytes) [] f right is
