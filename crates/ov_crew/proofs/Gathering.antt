-- The hauls and the seats of a crew, put together from what each worker returned.
use Rattle.std.proofs.Common.{◌≡◌, ℕ, zero, suc, ◌+◌, ◌^◌, ◌<◌, true, List, [], ◌∷◌, ◌++◌, length, Ok}
use Rattle.std.proofs.Common.{slice_get, Some, refl, sym, ap, ◌∙◌, arith}
use Rattle.std.proofs.lemmas.Option.{same_Some, slice_get-get_or}
use Rattle.std.specs.Prelude.{All}
use Rattle.ov_graph.specs.Links.{LinkGraph}
use Rattle.ov_board.specs.Board.{BoardState, SeatState, new_seat}
use Rattle.ov_even.specs.Levels.{AreNumbersBehind}
use Rattle.ov_even.specs.declared.worker_haul.Haul.{Haul}
use Rattle.ov_even.specs.declared.worker_haul.Keeping.{Keeping}
use Rattle.ov_crew.specs.Code.Crews.{IsNewAt, IsRange, Outcome, HasWorked, outcomes, AreHaulsOf}

-- one more worker
pub outcomes_more : (hauls : List Haul) (seats : List SeatState) (h : Haul) (s : SeatState)
    → length hauls ≡ length seats
    → outcomes (hauls ++ h ∷ []) (seats ++ s ∷ []) ≡ outcomes hauls seats ++ (Ok h, s) ∷ []
outcomes_more [] [] h s e = refl
outcomes_more [] (t ∷ seats) h s e = absurd (omega arith)
outcomes_more (k ∷ hauls) [] h s e = absurd (omega arith)
outcomes_more (k ∷ hauls) (t ∷ seats) h s e =
    let o : Outcome = (Ok k, t) in
    ap (λ (os : List Outcome). o ∷ os) (outcomes_more hauls seats h s (omega arith))

-- as many as there are seats
pub outcomes_long : (hauls : List Haul) (seats : List SeatState) → length hauls ≡ length seats
    → length (outcomes hauls seats) ≡ length seats
outcomes_long [] [] e = refl
outcomes_long [] (t ∷ seats) e = absurd (omega arith)
outcomes_long (k ∷ hauls) [] e = absurd (omega arith)
outcomes_long (k ∷ hauls) (t ∷ seats) e = omega (arith, outcomes_long hauls seats (omega (arith, e)))

-- the seats of a new board
pub all_new : (b : BoardState) (seats : List SeatState) (n : ℕ) → length seats ≡ n
    → ((i : ℕ) → i < n → slice_get seats i ≡ Some (new_seat b i))
    → All (IsNewAt b) seats
all_new b seats n long has i d low =
    let is = same_Some _ _ (sym (slice_get-get_or seats i d low) ∙ has i (omega (arith, low, long))) in
    (ap (λ (s : SeatState). s.board) is, ap (λ (s : SeatState). s.worker) is)

-- what is known of workers that have worked at the board and were not out of memory
pub record HaveAllWorked (keeping : Keeping) (g : LinkGraph) (q : List ℕ) (first : ℕ) (b : BoardState)
    (seats : List SeatState) (brought : List Haul) : Type 0 where
  pub hauls : AreHaulsOf keeping g q first seats brought
  pub board : All (λ s. s.board ≡ b) seats
  pub ended : All (λ s. s.worker.ended ≡ true) seats

pub all_worked : (keeping : Keeping) (g : LinkGraph) (q : List ℕ) (first : ℕ) (b : BoardState)
    (seats : List SeatState) (hauls : List Haul) → length hauls ≡ length seats
    → All (HasWorked keeping g q first b) (outcomes hauls seats) → HaveAllWorked keeping g q first b seats hauls
all_worked keeping g q first b [] [] e all = record {
  hauls = tt;
  board = λ i d low. absurd (omega (arith, low));
  ended = λ i d low. absurd (omega (arith, low));
}
all_worked keeping g q first b [] (h ∷ hauls) e all = absurd (omega arith)
all_worked keeping g q first b (s ∷ seats) [] e all = absurd (omega arith)
all_worked keeping g q first b (s ∷ seats) (h ∷ hauls) e all =
    let o : Outcome = (Ok h, s) in
    let k = all 0 o (omega arith) in
    let r = all_worked keeping g q first b seats hauls (omega arith) (λ i d low. all (suc i) d (omega (arith, low))) in
    record {
      hauls = (k.haul, r.hauls);
      board = both (λ t. t.board ≡ b) k.board r.board;
      ended = both (λ t. t.worker.ended ≡ true) k.ended r.ended;
    }
  where
    both : (P : SeatState → Type 0) → P s → All P seats → All P (s ∷ seats)
    both P p ps zero d low = p
    both P p ps (suc i) d low = ps i d (omega (arith, low))

-- the numbers of pieces of a level are a range
pub range_of : (g : LinkGraph) (q : List ℕ) (done level first size : ℕ)
    → AreNumbersBehind (length g.nodes) (length q) done level first size → first + size < 2 ^ 62
    → IsRange g q first size
range_of g q done level first size numbers small = record {
  below = λ x low total many. let fits = numbers.fits total many in omega (arith, low, fits);
  small = small;
}
