-- Once the board of a level is closed, the crew has tried the level.
use Rattle.std.proofs.Common.{◌≡◌, ◌⊎◌, ℕ, ◌+◌, ◌<◌, ◌≤◌, inl, inr, List, [], ◌∷◌, length, Some, refl, sym, ◌∙◌}
use Rattle.std.proofs.Common.{subst, arith}
use Rattle.ov_ids.specs.Members.{Has}
use Rattle.ov_graph.specs.Links.{LinkGraph}
use Rattle.ov_fans.specs.Pieces.{IsPiece}
use Rattle.ov_fans.specs.Cuts.{IsRight}
use Rattle.ov_fans.specs.Theorems.{IsNoCut}
use Rattle.ov_fans.specs.declared.piece.Piece.{Piece}
use Rattle.ov_fans.specs.declared.piece_result.Settled.{Settled}
use Rattle.ov_board.specs.Claims.{WorkerState, DeskState, HasWorker, HasFailed, IsLegal}
use Rattle.ov_board.specs.Board.{BoardState, SeatState, IsClosed}
use Rattle.ov_even.specs.Hauls.{SettlesNumber, AreRight, IsDone}
use Rattle.ov_even.specs.Levels.{AreFirstDone, AreNumbersBehind, IsTried}
use Rattle.ov_even.specs.Order.{IsNumbered}
use Rattle.ov_even.specs.declared.worker_haul.Haul.{Haul}
use Rattle.ov_even.specs.declared.worker_haul.Keeping.{Keeping}
use Rattle.ov_even.specs.declared.worker_haul.Keeping.TheVariants.{EachPiece, CutsAlone}
use Rattle.ov_even.proofs.AnalysisSteps.ByNumbers.{IsCutAt, tried_by_numbers}
use Rattle.ov_even.proofs.AnalysisSteps.FirstCut.{cut_or_not}
use Rattle.ov_even.proofs.PieceNumbers.Numbering.{one_piece}
use Rattle.ov_crew.specs.Code.Crews.{AreHaulsOf}
use Rattle.ov_crew.specs.Code.Kept.{IsHaulKeeping}
use Rattle.ov_crew.proofs.Hauling.{has_settled}

-- all results of a haul are right
haul_right : (keeping : Keeping) (g : LinkGraph) (q : List ℕ) (first : ℕ) (v : WorkerState) (pieces : List Settled)
    → IsHaulKeeping keeping g q first v pieces → (s : Settled) → Has pieces s → IsPiece g q s.piece × IsRight g q s
haul_right EachPiece g q first v pieces is s h = is.right s h
haul_right CutsAlone g q first v pieces is s h = is.right s h

-- a failed number has its piece with a cut in the haul
haul_failed : (keeping : Keeping) (g : LinkGraph) (q : List ℕ) (first : ℕ) (v : WorkerState) (pieces : List Settled)
    → IsHaulKeeping keeping g q first v pieces → (x : ℕ) → Has v.failed x
    → (s : Settled) × SettlesNumber g q pieces (first + x) s × ¬ IsNoCut s.found
haul_failed EachPiece g q first v pieces is x failed = (is.failed x).0 failed
haul_failed CutsAlone g q first v pieces is x failed = is.failed x failed

-- the haul of this worker is one of the hauls
record HasBrought (keeping : Keeping) (g : LinkGraph) (q : List ℕ) (first : ℕ) (hauls : List Haul) (v : WorkerState)
    : Type 0 where
  haul : Haul
  there : Has hauls haul
  is : IsHaulKeeping keeping g q first v haul.pieces.items

-- the piece of a number that its worker worked on is done with, unless the number failed
haul_done : (keeping : Keeping) (g : LinkGraph) (q : List ℕ) (first : ℕ) (hauls : List Haul) (v : WorkerState)
    → HasBrought keeping g q first hauls v → (x : ℕ) → Has v.claimed x → ¬ (v.skipped ≡ Some x) → ¬ Has v.failed x
    → (r : Piece) → IsNumbered (length g.nodes) (length q) (first + x) r → IsDone keeping g q hauls r
haul_done EachPiece g q first hauls v m x claimed unskipped unfailed r numbered =
    let a = (has_settled g q first v m.haul.pieces.items m.is x).0 (claimed, unskipped) in
    elim (cut_or_not a.0.found) [
      | inl none ↦ inr (
        a.0,
        (m.haul, m.there, a.1.0),
        one_piece (length g.nodes) (length q) (first + x) a.0.piece r a.1.1 numbered,
        none,
      )
      | inr cut ↦ absurd (unfailed ((m.is.failed x).1 (a.0, a.1, cut)))
    ]
haul_done CutsAlone g q first hauls v m x claimed unskipped unfailed r numbered =
    m.is.good x claimed unskipped unfailed r numbered

-- each seat's worker has a haul, and each haul is that of a worker
haul_of : (keeping : Keeping) (g : LinkGraph) (q : List ℕ) (first : ℕ) (seats : List SeatState) (hauls : List Haul)
    (seat : SeatState) → AreHaulsOf keeping g q first seats hauls → Has seats seat
    → HasBrought keeping g q first hauls seat.worker
haul_of keeping g q first [] hauls seat are has = absurd has
haul_of keeping g q first (s ∷ seats) [] seat are has = absurd are
haul_of keeping g q first (s ∷ seats) (h ∷ hauls) seat are has = elim has [
  | inl e ↦ record {
    haul = h;
    there = inl refl;
    is = subst (λ (t : SeatState). IsHaulKeeping keeping g q first t.worker h.pieces.items) e are.0;
  }
  | inr k ↦
      let b = haul_of keeping g q first seats hauls seat are.1 k in
      record { haul = b.haul; there = inr b.there; is = b.is }
]

worker_of : (keeping : Keeping) (g : LinkGraph) (q : List ℕ) (first : ℕ) (seats : List SeatState) (hauls : List Haul)
    (haul : Haul) → AreHaulsOf keeping g q first seats hauls → Has hauls haul
    → (v : WorkerState) × IsHaulKeeping keeping g q first v haul.pieces.items
worker_of keeping g q first seats [] haul are has = absurd has
worker_of keeping g q first [] (h ∷ hauls) haul are has = absurd are
worker_of keeping g q first (s ∷ seats) (h ∷ hauls) haul are has = elim has [
  | inl e ↦ (s.worker, subst (λ (k : Haul). IsHaulKeeping keeping g q first s.worker k.pieces.items) e are.0)
  | inr k ↦ worker_of keeping g q first seats hauls haul are.1 k
]

-- all results of a crew are right
pub crew_right : (keeping : Keeping) (g : LinkGraph) (q : List ℕ) (first : ℕ) (seats : List SeatState)
    (hauls : List Haul) → AreHaulsOf keeping g q first seats hauls → AreRight g q hauls
crew_right keeping g q first seats hauls are s h =
    let b = worker_of keeping g q first seats hauls h.0 are h.1 in
    haul_right keeping g q first b.0 h.0.pieces.items b.1 s h.2

-- each worker of the closed board has its haul
brings : (keeping : Keeping) (g : LinkGraph) (q : List ℕ) (first : ℕ) (b : BoardState) (seats : List SeatState)
    (hauls : List Haul) (least w : ℕ) (v : WorkerState) → (k : IsClosed b seats least)
    → AreHaulsOf keeping g q first seats hauls → HasWorker k.s w v → HasBrought keeping g q first hauls v
brings keeping g q first b seats hauls least w v k are has =
    let o = k.each w v has in
    subst (HasBrought keeping g q first hauls) o.3 (haul_of keeping g q first seats hauls o.0 are o.1)

-- the piece of a number below the lowest failed one is done with
done_below : (keeping : Keeping) (g : LinkGraph) (q : List ℕ) (first : ℕ) (b : BoardState) (seats : List SeatState)
    (hauls : List Haul) (least x : ℕ) (r : Piece) → IsClosed b seats least
    → AreHaulsOf keeping g q first seats hauls → x < least
    → IsNumbered (length g.nodes) (length q) (first + x) r → IsDone keeping g q hauls r
done_below keeping g q first b seats hauls least x r k are low numbered =
    let is = k.least in
    let below : x < k.s.least = omega (arith, low, is) in
    let c = k.done.below x below in
    let w = c.0 in
    let v = c.1.0 in
    let at = c.1.1 in
    let m = brings keeping g q first b seats hauls least w v k are at in
    haul_done keeping g q first hauls v m x c.1.2 (k.done.worked_on x below w v at)
    (λ failed. let up = k.done.no_lower x (w, v, at, failed) in omega (arith, up, below)) r numbered

-- the piece of a failed number has a cut
cut_at : (keeping : Keeping) (g : LinkGraph) (q : List ℕ) (first : ℕ) (b : BoardState) (seats : List SeatState)
    (hauls : List Haul) (least x : ℕ) → (k : IsClosed b seats least) → AreHaulsOf keeping g q first seats hauls
    → HasFailed k.s x → IsCutAt g q hauls (first + x)
cut_at keeping g q first b seats hauls least x k are f =
    let m = brings keeping g q first b seats hauls least f.0 f.1 k are f.2 in
    let a = haul_failed keeping g q first f.1 m.haul.pieces.items m.is x f.3 in
    (a.0, (m.haul, m.there, a.1.0), a.1.1, a.2)

-- a failed number is below the total
failed_below : (s : DeskState) (x : ℕ) → IsLegal s → HasFailed s x → x < s.total
failed_below s x l f =
    let own = (l.workers f.0 f.1 f.2).failed_own x f.3 in
    ((l.claimed x).0 (f.0, (f.1, f.2, own))).1

-- once the board of a level is closed, the level was tried
pub crew_tried : (keeping : Keeping) (g : LinkGraph) (q : List ℕ) (b : BoardState) (seats : List SeatState)
    (hauls : List Haul) (level before first size least : ℕ) → IsClosed b seats least → b.total ≡ size
    → AreFirstDone keeping g q level before → AreNumbersBehind (length g.nodes) (length q) before level first size
    → AreHaulsOf keeping g q first seats hauls
    → IsTried keeping g q hauls level
crew_tried keeping g q b seats hauls level before first size least k many known numbers are =
    tried_by_numbers keeping g q hauls level before first size least known numbers few
    (λ x low r numbered. done_below keeping g q first b seats hauls least x r k are low numbered) last
  where
    is : k.s.least ≡ least
    is = k.least

    total : k.s.total ≡ size
    total = k.are.total ∙ many

    few : least ≤ size
    few = elim k.done.least [
      | inl f ↦ let low = failed_below k.s k.s.least k.are.legal f in omega (arith, low, is, total)
      | inr e ↦ omega (arith, e, is, total)
    ]

    last : (least ≡ size) ⊎ IsCutAt g q hauls (first + least)
    last = elim k.done.least [
      | inl f ↦ inr (subst (λ (x : ℕ). IsCutAt g q hauls (first + x)) is
          (cut_at keeping g q first b seats hauls least k.s.least k are f))
      | inr e ↦ inl (sym is ∙ e ∙ total)
    ]
