-- If all workers of a sound desk have ended, every two members are linked or the desk has decided.
use Rattle.std.proofs.Common.{◌≡◌, ◌⊎◌, ℕ, ◌<◌, List, length, map, slice_get, Some, sym, ap, ◌∙◌, subst}
use Rattle.std.proofs.Common.{inl, inr, arith}
use Rattle.std.proofs.lemmas.Bool.{both_ways, cases_Bool, iff_false}
use Rattle.std.proofs.lemmas.List.{length-map}
use Rattle.std.proofs.lemmas.Option.{same_Some, slice_get_within, slice_get-map}
use Rattle.std.specs.Option.{option_map}
use Rattle.ov_ids.specs.Members.{Has}
use Rattle.ov_graph.specs.Links.{LinkGraph, IsGraph, IsGroup, AreAllLinked}
use Rattle.ov_cert.specs.Code.Tests.{all_linked}
use Rattle.ov_cert.proofs.Validity.Parting.{all_linked_tested}
use Rattle.ov_fans.specs.Pieces.{IsPiece, IsGood}
use Rattle.ov_fans.specs.Cuts.{IsRight}
use Rattle.ov_fans.specs.Theorems.{IsNoCut}
use Rattle.ov_fans.specs.declared.piece.Piece.{Piece}
use Rattle.ov_fans.specs.declared.piece_result.Settled.{Settled}
use Rattle.ov_fans.proofs.PieceCuts.Decided.{decides}
use Rattle.ov_board.specs.Claims.{WorkerState, HasWorker, HasFailed}
use Rattle.ov_board.specs.Theorems.{AllEnded, IsDone}
use Rattle.ov_board.proofs.Ending.{ends_done}
use Rattle.ov_even.specs.Code.Levels.{all_pieces}
use Rattle.ov_even.specs.Hauls.{IsInHauls, Decides, Suffice}
use Rattle.ov_even.specs.declared.worker_haul.Keeping.TheVariants.{EachPiece}
use Rattle.ov_even.specs.Order.{IsNumbered}
use Rattle.ov_even.specs.declared.worker_haul.Haul.{Haul}
use Rattle.ov_even.proofs.PieceNumbers.AllLevels.{all_listed}
use Rattle.ov_even.proofs.AnalysisSteps.FirstCut.{cut_or_not}
use Rattle.ov_even.proofs.PieceOrder.InOrder.{has_at, at_has, at_within}
use Rattle.ov_even.proofs.PieceNumbers.Numbering.{every_number, number_below, numbers_order, one_piece}
use Rattle.ov_even.proofs.EvenTest.Searching.{first_among}
use Rattle.ov_even.specs.declared.piece_in_hand.Hand.{Hand}
use Rattle.ov_even.specs.Desk.{GroupDeskState, HaveBeenSettled, IsSettledAt}
use Rattle.ov_even.specs.SoundDesk.{IsSoundWorker, IsSoundDesk}
use Rattle.ov_even.specs.DeskTheorems.{HasDecided, EndedDecides}

-- what a worker of the desk has in hand, what it has settled, and that it is sound
record StandsAt (g : LinkGraph) (d : GroupDeskState) (w : ℕ) (v : WorkerState) : Type 0 where
  hand : Hand
  pieces : List Settled
  had : HaveBeenSettled d w pieces
  sound : IsSoundWorker g d.members v hand pieces

-- each worker of a sound desk has these
stands : (g : LinkGraph) (d : GroupDeskState) (w : ℕ) (v : WorkerState) → IsSoundDesk g d → HasWorker d.claims w v
    → StandsAt g d w v
stands g d w v s at =
    let within = slice_get_within d.claims.workers w v at in
    let m = s.hands in
    let n = s.settled in
    let hand = at_within d.hands w (omega (arith, within, m)) in
    let pieces = at_within d.settled w (omega (arith, within, n)) in
    record {
      hand = hand.0;
      pieces = pieces.0;
      had = pieces.1;
      sound = s.workers w v hand.0 pieces.0 at hand.1 pieces.1;
    }

-- the piece of number x was settled at the desk, with result t
record IsDoneAt (g : LinkGraph) (d : GroupDeskState) (x : ℕ) (t : Settled) : Type 0 where
  there : IsSettledAt d t
  numbered : IsNumbered (length g.nodes) (length d.members) x t.piece

-- every result at a sound desk is right
settled_right : (g : LinkGraph) (d : GroupDeskState) (t : Settled) → IsSoundDesk g d → IsSettledAt d t
    → IsPiece g d.members t.piece × IsRight g d.members t
settled_right g d t s there =
    let w = there.0 in
    let within = slice_get_within d.settled w there.1 there.2 in
    let m = s.hands in
    let n = s.settled in
    let v = at_within d.claims.workers w (omega (arith, within, n)) in
    let hand = at_within d.hands w (omega (arith, within, m, n)) in
    (s.workers w v.0 hand.0 there.1 v.1 hand.1 there.2).right t there.3

-- if all have ended, each number below the lowest failed one has its piece settled, without a cut
done_below : (g : LinkGraph) (d : GroupDeskState) (x : ℕ) → IsSoundDesk g d → AllEnded d.claims → IsDone d.claims
    → x < d.claims.least → (t : Settled) × IsDoneAt g d x t × IsNoCut t.found
done_below g d x s ended done low =
    let c = done.below x low in
    let w = c.0 in
    let v = c.1.0 in
    let at = c.1.1 in
    let k = stands g d w v s at in
    let a = (k.sound.through x).0 record {
      claimed = c.1.2;
      worked_on = done.worked_on x low w v at;
      put_down = λ n. both_ways v.ended (k.sound.goes_on x n) (ended w v at);
    } in
    elim (cut_or_not a.0.found) [
      | inl none ↦ (a.0, record { there = (w, k.pieces, k.had, a.1.0); numbered = a.1.1 }, none)
      | inr cut ↦ absurd (
          let failed = (k.sound.failed x).1 (a.0, a.1, cut) in
          let up = done.no_lower x (w, v, at, failed) in
          omega (arith, up, low))
    ]

-- the piece of a failed number was settled with a cut
done_failed : (g : LinkGraph) (d : GroupDeskState) (x : ℕ) → IsSoundDesk g d → HasFailed d.claims x
    → (t : Settled) × IsDoneAt g d x t × (¬ IsNoCut t.found)
done_failed g d x s f =
    let k = stands g d f.0 f.1 s f.2 in
    let a = (k.sound.failed x).0 f.3 in
    (a.0, record { there = (f.0, k.pieces, k.had, a.1.0); numbered = a.1.1 }, a.2)

-- each piece whose number is below the lowest failed one was settled without a cut
piece_done : (g : LinkGraph) (d : GroupDeskState) (x : ℕ) (r : Piece) → IsSoundDesk g d → AllEnded d.claims
    → IsDone d.claims → IsNumbered (length g.nodes) (length d.members) x r → x < d.claims.least
    → (t : Settled) × IsSettledAt d t × (t.piece ≡ r) × IsNoCut t.found
piece_done g d x r s ended done numbered low =
    let a = done_below g d x s ended done low in
    (a.0, a.1.there, one_piece (length g.nodes) (length d.members) x a.0.piece r a.1.numbered numbered, a.2)

-- so each such piece is good
good_below : (g : LinkGraph) (d : GroupDeskState) (x : ℕ) (r : Piece) → IsGraph g → IsSoundDesk g d
    → AllEnded d.claims → IsDone d.claims → IsNumbered (length g.nodes) (length d.members) x r → x < d.claims.least
    → IsGood g d.members r
good_below g d x r graph s ended done numbered low =
    let t = piece_done g d x r s ended done numbered low in
    let right = settled_right g d t.0 s t.1 in
    subst (IsGood g d.members) {x = t.0.piece} t.2 ((decides g d.members t.0 graph right.1).1 t.3)

-- every two members are linked, or not all are
pub linked_or_apart : (g : LinkGraph) (q : List ℕ) → IsGroup g q → AreAllLinked g q ⊎ (¬ AreAllLinked g q)
linked_or_apart g q group =
    let test = all_linked_tested g q group.ascends in
    elim (cases_Bool (all_linked g q)) [ inl on ↦ inl (test.0 on) | inr off ↦ inr (iff_false test off) ]

-- if two members are not linked, a number has failed: that of the first piece that is not good
one_failed : (g : LinkGraph) (d : GroupDeskState) → IsGraph g → IsSoundDesk g d → AllEnded d.claims
    → IsDone d.claims → ¬ AreAllLinked g d.members → HasFailed d.claims d.claims.least
one_failed g d graph s ended done apart = elim done.least [
  | inl f ↦ f
  | inr e ↦
      let n = length g.nodes in
      let m = length d.members in
      let first = first_among g d.members (all_pieces n m) graph s.group apart (all_listed n m) in
      let number = every_number n m first.0 first.1.piece in
      let below = number_below n m number.0 d.claims.total first.0 number.1 (s.share.each apart) in
      absurd (first.1.fails
      (good_below g d number.0 first.0 graph s ended done number.1 (omega (arith, below, e))))
]

-- if a number has failed, the desk has decided: the lowest failed number has the first of the pieces settled with a cut
decided : (g : LinkGraph) (d : GroupDeskState) → IsSoundDesk g d → AllEnded d.claims → IsDone d.claims
    → HasFailed d.claims d.claims.least → HasDecided g d
decided g d s ended done f =
    let n = length g.nodes in
    let m = length d.members in
    let a = done_failed g d d.claims.least s f in record {
      deciding = a.0;
      there = a.1.there;
      number = a.1.numbered;
      cut = a.2;
      before = λ r is before.
          let number = every_number n m r is in
          let order = numbers_order n m number.0 d.claims.least r a.0.piece number.1 a.1.numbered in
          piece_done g d number.0 r s ended done number.1 (order.1 before);
    }

-- if all workers of a sound desk have ended, every two members are linked or the desk has decided
pub ended_decides : EndedDecides
ended_decides g d graph s ended =
    let done = ends_done d.claims s.legal s.may_work.0 ended in
    elim (linked_or_apart g d.members s.group) [
      | inl all ↦ inl all
      | inr apart ↦ inr (decided g d s ended done (one_failed g d graph s ended done apart))
    ]

-- the pieces of a haul
abbrev pieces_of_haul : Haul → List Settled
pieces_of_haul haul = haul.pieces.items

-- a worker has settled the pieces of the haul at its place
settled_there : (d : GroupDeskState) (hauls : List Haul) (w : ℕ) (haul : Haul) → map pieces_of_haul hauls ≡ d.settled
    → slice_get hauls w ≡ Some haul → HaveBeenSettled d w (pieces_of_haul haul)
settled_there d hauls w haul e at =
    sym (ap (λ (xs : List (List Settled)). slice_get xs w) e) ∙ slice_get-map pieces_of_haul hauls w
    ∙ ap (option_map pieces_of_haul) at

-- a piece in the hauls was settled at the desk
from_hauls : (d : GroupDeskState) (hauls : List Haul) (s : Settled) → map pieces_of_haul hauls ≡ d.settled
    → IsInHauls hauls s → IsSettledAt d s
from_hauls d hauls s e h =
    let place = at_has hauls h.0 h.1 in
    (place.0, pieces_of_haul h.0, settled_there d hauls place.0 h.0 e place.1, h.2)

-- a piece settled at the desk is in the hauls
to_hauls : (d : GroupDeskState) (hauls : List Haul) (s : Settled) → map pieces_of_haul hauls ≡ d.settled
    → IsSettledAt d s → IsInHauls hauls s
to_hauls d hauls s e there =
    let w = there.0 in
    let within = slice_get_within d.settled w there.1 there.2 in
    let count : length hauls ≡ length d.settled = sym (length-map hauls pieces_of_haul) ∙ ap length e in
    let haul = at_within hauls w (omega (arith, within, count)) in
    let here = settled_there d hauls w haul.0 e haul.1 in
    let same : there.1 ≡ pieces_of_haul haul.0 = same_Some there.1 (pieces_of_haul haul.0) (sym there.2 ∙ here) in
    (haul.0, has_at hauls w haul.0 haul.1, subst (λ (xs : List Settled). Has xs s) same there.3)

-- if the desk has decided, its deciding piece decides among the hauls
decides_hauls : (g : LinkGraph) (d : GroupDeskState) (hauls : List Haul) → map pieces_of_haul hauls ≡ d.settled
    → (h : HasDecided g d) → Decides EachPiece g d.members hauls h.deciding
decides_hauls g d hauls e h = record {
  there = to_hauls d hauls h.deciding e h.there;
  cut = h.cut;
  before = λ r is before near.
      let t = h.before r is before in
      inr (t.0, to_hauls d hauls t.0 e t.1, t.2, t.3);
}

-- if all workers of a sound desk have ended, their hauls suffice for a certificate
pub ended_suffices : (g : LinkGraph) (d : GroupDeskState) (hauls : List Haul) → IsGraph g → IsSoundDesk g d
    → AllEnded d.claims → map (λ (haul : Haul). haul.pieces.items) hauls ≡ d.settled → Suffice g d.members hauls
ended_suffices g d hauls graph s ended e = (
  (λ t h. settled_right g d t s (from_hauls d hauls t e h)),
  elim (ended_decides g d graph s ended) [
    | inl all ↦ inl all
    | inr h ↦ inr (h.deciding, decides_hauls g d hauls e h)
  ],
)
