-- A level that is settled by the numbers of its pieces was tried.
use Rattle.std.proofs.Common.{◌≡◌, ℕ, ◌+◌, ◌-◌, ◌<◌, ◌≤◌, ◌⊎◌, inl, inr, List, length, subst, arith}
use Rattle.std.proofs.lemmas.Bool.{cases_lt}
use Rattle.ov_graph.specs.Links.{LinkGraph}
use Rattle.ov_fans.specs.Pieces.{IsPiece, level_of}
use Rattle.ov_fans.specs.Theorems.{IsNoCut}
use Rattle.ov_fans.specs.declared.piece.Piece.{Piece}
use Rattle.ov_fans.specs.declared.piece_result.Settled.{Settled}
use Rattle.ov_even.specs.Order.{IsNumbered}
use Rattle.ov_even.specs.Hauls.{IsInHauls, IsDone}
use Rattle.ov_even.specs.Levels.{IsTried, AreFirstDone, AreNumbersBehind}
use Rattle.ov_even.specs.declared.worker_haul.Haul.{Haul}
use Rattle.ov_even.specs.declared.worker_haul.Keeping.{Keeping}
use Rattle.ov_even.proofs.AnalysisSteps.FirstMembers.{done_anyway, first_or_not}
use Rattle.ov_even.proofs.PieceNumbers.Numbering.{every_number, numbers_order}

-- the first pieces of a level are done with, `least` of them
abbrev pub AreDoneUpTo : Keeping → LinkGraph → List ℕ → List Haul → ℕ → ℕ → Type 0
AreDoneUpTo keeping g q hauls first least = (x : ℕ) → x < least → (r : Piece)
    → IsNumbered (length g.nodes) (length q) (first + x) r → IsDone keeping g q hauls r

-- the hauls have a cut for the piece of this number
abbrev pub IsCutAt : LinkGraph → List ℕ → List Haul → ℕ → Type 0
IsCutAt g q hauls number = (s : Settled) × IsInHauls hauls s
    × IsNumbered (length g.nodes) (length q) number s.piece × (¬ IsNoCut s.found)

-- a piece whose number is within the first is done with
done_before : (keeping : Keeping) (g : LinkGraph) (q : List ℕ) (hauls : List Haul) (first least y : ℕ) (r : Piece)
    → AreDoneUpTo keeping g q hauls first least → IsNumbered (length g.nodes) (length q) y r → first ≤ y
    → y < first + least → IsDone keeping g q hauls r
done_before keeping g q hauls first least y r done numbered from to =
    let e : y ≡ first + (y - first) = omega arith in
    done (y - first) (omega arith) r
    (subst (λ (z : ℕ). IsNumbered (length g.nodes) (length q) z r) e numbered)

-- where the pieces of a level for the first members are done with, and the first behind them, and these are all of it
-- or the next one has a cut, the level was tried
pub tried_by_numbers : (keeping : Keeping) (g : LinkGraph) (q : List ℕ) (hauls : List Haul)
    (level before first size least : ℕ) → AreFirstDone keeping g q level before
    → AreNumbersBehind (length g.nodes) (length q) before level first size → least ≤ size
    → AreDoneUpTo keeping g q hauls first least → (least ≡ size) ⊎ IsCutAt g q hauls (first + least)
    → IsTried keeping g q hauls level
tried_by_numbers keeping g q hauls level before first size least known numbers few done last =
    let n = length g.nodes in
    let m = length q in
    let either : (r : Piece) → IsPiece g q r → level_of r ≡ level
    → IsDone keeping g q hauls r ⊎ ((y : ℕ) × IsNumbered n m y r × (first ≤ y) × (y < first + size)) = λ r at same.
    elim (first_or_not n m before r at) [
      | inl own ↦ inl (done_anyway keeping g q hauls r (known.each r own same))
      | inr later ↦
          let numbered = every_number n m r at in
          let h = (numbers.each numbered.0 r numbered.1).0 (same, later) in
          inr (numbered.0, numbered.1, h.0, h.1)
    ] in
    elim (cases_lt least size) [
      | inr all ↦ inl (λ r at same. elim (either r at same) [
        | inl is ↦ is
        | inr there ↦
            let to = there.3 in
            done_before keeping g q hauls first least there.0 r done there.1 there.2 (omega (arith, all, to))
      ])
      | inl less ↦ elim last [
        | inl e ↦ absurd (omega (arith, less, e))
        | inr s ↦ inr (
          s.0,
          record {
            there = s.1;
            of_level = let own = (numbers.each (first + least) s.0.piece s.2).1 (omega arith, omega (arith, less)) in
                own.0;
            cut = s.3;
            before = λ r at same earlier. elim (either r at same) [
              | inl is ↦ is
              | inr there ↦ done_before keeping g q hauls first least there.0 r done there.1 there.2
                  ((numbers_order n m there.0 (first + least) r s.0.piece there.1 s.2).1 earlier)
            ];
          },
        )
      ]
    ]
