-- Kept reports, one after another: what is left of them while one is looked for.
use Rattle.std.proofs.Common.{◌≡◌, ℕ, suc, List, [], ◌∷◌, length, All, inl, inr, subst, sym, arith}
use Rattle.ov_ids.specs.Members.{Has}
use Rattle.ov_graph.specs.Links.{LinkGraph}
use Rattle.ov_run.specs.Code.Recent.{HasAnswer, IsReportAbout}
use Rattle.ov_snap.specs.ReportState.{ReportState}

-- those that are left have answers, and each report about the graph and the group is among them
pub record IsLeft (g : LinkGraph) (q : List ℕ) (all left : List ReportState) : Type 0 where
  pub answers : All HasAnswer left
  pub among : (r : ReportState) → Has all r → IsReportAbout g q r → Has left r

pub left_begun : (g : LinkGraph) (q : List ℕ) (all : List ReportState) → All HasAnswer all → IsLeft g q all all
left_begun g q all answers = record { answers = answers; among = λ r h about. h }

pub left_first : (g : LinkGraph) (q : List ℕ) (all : List ReportState) (r : ReportState) (left : List ReportState)
    → IsLeft g q all (r ∷ left) → HasAnswer r
left_first g q all r left h = h.answers 0 r (omega arith)

-- the first of those that are left is about others: the rest is left
pub left_more : (g : LinkGraph) (q : List ℕ) (all : List ReportState) (r : ReportState) (left : List ReportState)
    → ¬ IsReportAbout g q r → IsLeft g q all (r ∷ left) → IsLeft g q all left
left_more g q all r left other h = record {
  answers = λ k d l. h.answers (suc k) d (omega (arith, l));
  among = λ s has about. elim (h.among s has about) [
    | inl same ↦ absurd (other (subst (IsReportAbout g q) (sym same) about))
    | inr later ↦ later
  ];
}

-- if none is left, none is about the graph and the group
pub left_none : (g : LinkGraph) (q : List ℕ) (all left : List ReportState) → length left ≡ 0 → IsLeft g q all left
    → (r : ReportState) → Has all r → IsReportAbout g q r → ⊥
left_none g q all [] none h r has about = h.among r has about
left_none g q all (x ∷ left) none h r has about = absurd (omega (arith, none))
