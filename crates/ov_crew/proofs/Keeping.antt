-- The haul of a worker that keeps each piece, or cuts alone, piece by piece.
use Rattle.std.proofs.Common.{◌≡◌, ℕ, ◌+◌, List, [], ◌∷◌, ◌++◌, length, None, refl, sym, ◌∙◌}
use Rattle.std.proofs.Common.{subst, inl, inr}
use Rattle.std.proofs.lemmas.Option.{none-some}
use Rattle.ov_ids.specs.Members.{Has}
use Rattle.ov_ids.proofs.Members.{has_append_left, has_append_right, has_append_cases}
use Rattle.ov_graph.specs.Links.{LinkGraph, IsGraph}
use Rattle.ov_fans.specs.Pieces.{IsPiece, IsGood}
use Rattle.ov_fans.specs.Cuts.{IsRight}
use Rattle.ov_fans.specs.Theorems.{IsNoCut}
use Rattle.ov_fans.specs.declared.piece.Piece.{Piece}
use Rattle.ov_fans.specs.declared.piece_result.Settled.{Settled}
use Rattle.ov_fans.proofs.PieceCuts.Decided.{decides}
use Rattle.ov_board.specs.Claims.{WorkerState, fresh}
use Rattle.ov_even.specs.Hauls.{SettlesNumber}
use Rattle.ov_even.specs.Order.{IsNumbered}
use Rattle.ov_even.specs.declared.worker_haul.Keeping.{Keeping}
use Rattle.ov_even.specs.declared.worker_haul.Keeping.TheVariants.{EachPiece, CutsAlone}
use Rattle.ov_even.proofs.AnalysisSteps.FirstCut.{not_cut}
use Rattle.ov_even.proofs.PieceNumbers.Numbering.{numbered_piece, one_piece}
use Rattle.ov_crew.specs.Code.Kept.{AreCutsOf, IsHaulKeeping}
use Rattle.ov_crew.specs.Code.Turns.{HasTaken, HasStopped, HasSettled, HasSettledKeeping}
use Rattle.ov_crew.proofs.Hauling.{HasGained, gained_good, gains, fresh_haul, stopped_haul, more_haul}

-- the haul of a worker that has done nothing yet is empty
pub fresh_keeping : (keeping : Keeping) (g : LinkGraph) (q : List ℕ) (first : ℕ)
    → IsHaulKeeping keeping g q first fresh []
fresh_keeping EachPiece g q first = fresh_haul g q first
fresh_keeping CutsAlone g q first = record {
  right = λ s h. absurd h;
  good = λ x h. absurd h;
  failed = λ x h. absurd h;
}

-- a worker that has stopped has the same haul as before
pub stopped_keeping : (keeping : Keeping) (g : LinkGraph) (q : List ℕ) (first : ℕ) (w v : WorkerState)
    (pieces : List Settled) → w.skipped ≡ None → HasStopped w v → IsHaulKeeping keeping g q first w pieces
    → IsHaulKeeping keeping g q first v pieces
stopped_keeping EachPiece g q first w v pieces none s was = stopped_haul g q first w v pieces none s was
stopped_keeping CutsAlone g q first w v pieces none s was = record {
  right = was.right;
  good = λ x claimed unskipped unfailed.
      was.good x ((s.worked_on x).0 (claimed, unskipped)) (λ e. none-some x (sym none ∙ e))
      (λ h. unfailed (subst (λ (xs : List ℕ). Has xs x) (sym s.failed) h));
  failed = λ x h. was.failed x (subst (λ (xs : List ℕ). Has xs x) s.failed h);
}

-- the worker took number x. Its piece is good or failed, and then it is kept
record AddsCut (g : LinkGraph) (q : List ℕ) (first x : ℕ) (w v : WorkerState) (before after : List Settled)
    (Fails : Type 0) : Type 0 where
  was : AreCutsOf g q first w before
  none : w.skipped ≡ None
  gained : HasGained w v x Fails
  good : ¬ Fails → (r : Piece) → IsNumbered (length g.nodes) (length q) (first + x) r → IsGood g q r
  right : (s : Settled) → Has after s → IsPiece g q s.piece × IsRight g q s
  stays : (s : Settled) → Has before s → Has after s
  failed : Fails → (s : Settled) × SettlesNumber g q after (first + x) s × ¬ IsNoCut s.found

with_cut : (g : LinkGraph) (q : List ℕ) (first x : ℕ) (w v : WorkerState) (before after : List Settled)
    (Fails : Type 0) → AddsCut g q first x w v before after Fails → AreCutsOf g q first v after
with_cut g q first x w v before after Fails k = record {
  right = k.right;
  good = λ y claimed unskipped unfailed r is.
      elim (has_append_cases w.claimed (x ∷ []) y (subst (λ (xs : List ℕ). Has xs y) k.gained.claimed claimed)) [
        | inl m ↦ k.was.good y m (λ e. none-some y (sym k.none ∙ e))
            (λ h. unfailed ((k.gained.failed y).1 (inl h))) r is
        | inr m ↦ elim m [
          | inl e ↦ k.good (λ f. unfailed ((k.gained.failed y).1 (inr (sym e, f)))) r
              (subst (λ (i : ℕ). IsNumbered (length g.nodes) (length q) (first + i) r) (sym e) is)
          | inr z ↦ absurd z
        ]
      ];
  failed = λ y h. elim ((k.gained.failed y).0 h) [
    | inl m ↦ let a = k.was.failed y m in (a.0, (k.stays a.0 a.1.0, a.1.1), a.2)
    | inr m ↦ subst (λ (i : ℕ). (s : Settled) × SettlesNumber g q after (first + i) s × ¬ IsNoCut s.found) (sym m.0)
        (k.failed m.1)
  ];
}

-- the piece of a number is the only one with that number
its_piece : (g : LinkGraph) (q : List ℕ) (number : ℕ) (piece : Piece)
    → IsNumbered (length g.nodes) (length q) number piece → IsGood g q piece → (r : Piece)
    → IsNumbered (length g.nodes) (length q) number r → IsGood g q r
its_piece g q number piece numbered good r is =
    subst (λ (p : Piece). IsGood g q p) (one_piece (length g.nodes) (length q) number piece r numbered is) good

-- one more piece is good, and nothing is kept of it
good_more : (g : LinkGraph) (q : List ℕ) (first total x : ℕ) (piece : Piece) (w u v : WorkerState)
    (before after : List Settled) → AreCutsOf g q first w before → w.skipped ≡ None → HasTaken total x w u
    → IsNumbered (length g.nodes) (length q) (first + x) piece → IsGood g q piece → v ≡ u → after ≡ before
    → AreCutsOf g q first v after
good_more g q first total x piece w u v before after was none t numbered good same kept =
    with_cut g q first x w v before after ⊥ record {
      was = was;
      none = none;
      gained = gained_good w v x ⊥ (λ h. h) (same ∙ t.became);
      good = λ n. its_piece g q (first + x) piece numbered good;
      right = subst (λ (l : List Settled). (s : Settled) → Has l s → IsPiece g q s.piece × IsRight g q s) (sym kept)
          was.right;
      stays = λ s h. subst (λ (l : List Settled). Has l s) (sym kept) h;
      failed = λ h. absurd h;
    }

-- one more piece is kept
cut_more : (g : LinkGraph) (q : List ℕ) (first total x : ℕ) (piece : Piece) (w u v : WorkerState)
    (before after : List Settled) → IsGraph g → AreCutsOf g q first w before → w.skipped ≡ None
    → HasTaken total x w u → IsNumbered (length g.nodes) (length q) (first + x) piece
    → HasSettled g q piece x u v before after → AreCutsOf g q first v after
cut_more g q first total x piece w u v before after graph was none t numbered s =
    subst (AreCutsOf g q first v) (sym s.pieces)
    (with_cut g q first x w v before (before ++ s.settled ∷ []) (¬ IsNoCut s.settled.found) record {
      was = was;
      none = none;
      gained = gains g q total x piece w u v before after t s;
      good = λ n. its_piece g q (first + x) s.settled.piece here
          ((decides g q s.settled graph s.right).1 (not_cut s.settled.found n));
      right = λ r h. elim (has_append_cases before (s.settled ∷ []) r h) [
        | inl m ↦ was.right r m
        | inr m ↦ elim m [
          | inl e ↦ subst (λ (r : Settled). IsPiece g q r.piece × IsRight g q r) e
              (numbered_piece (length g.nodes) (length q) (first + x) s.settled.piece here, s.right)
          | inr z ↦ absurd z
        ]
      ];
      stays = λ r h. has_append_left before (s.settled ∷ []) r h;
      failed = λ n. (
        s.settled,
        (has_append_right before (s.settled ∷ []) s.settled (inl refl), here),
        n,
      );
    })
  where
    here : IsNumbered (length g.nodes) (length q) (first + x) s.settled.piece
    here = subst (IsNumbered (length g.nodes) (length q) (first + x)) (sym s.of_piece) numbered

kept_more : (keeping : Keeping) (g : LinkGraph) (q : List ℕ) (first total x : ℕ) (piece : Piece) (w u v : WorkerState)
    (before after : List Settled) → IsGraph g → IsHaulKeeping keeping g q first w before → w.skipped ≡ None
    → HasTaken total x w u → IsNumbered (length g.nodes) (length q) (first + x) piece
    → HasSettled g q piece x u v before after → IsHaulKeeping keeping g q first v after
kept_more EachPiece g q first total x piece w u v before after graph was none t numbered s =
    more_haul g q first total x piece w u v before after was none t numbered s
kept_more CutsAlone g q first total x piece w u v before after graph was none t numbered s =
    cut_more g q first total x piece w u v before after graph was none t numbered s

-- what a turn of the worker leaves: it claimed x, and its haul is one of the numbers so far
pub record HasTurned (keeping : Keeping) (g : LinkGraph) (q : List ℕ) (first x : ℕ) (w v : WorkerState)
    (after : List Settled) : Type 0 where
  pub claimed : v.claimed ≡ w.claimed ++ x ∷ []
  pub skipped : v.skipped ≡ w.skipped
  pub ended : v.ended ≡ w.ended
  pub haul : IsHaulKeeping keeping g q first v after

-- a worker that goes on settles one piece more
pub turned_keeping : (keeping : Keeping) (g : LinkGraph) (q : List ℕ) (first total x : ℕ) (piece : Piece)
    (w u v : WorkerState) (before after : List Settled) → IsGraph g → IsHaulKeeping keeping g q first w before
    → w.skipped ≡ None → HasTaken total x w u → IsNumbered (length g.nodes) (length q) (first + x) piece
    → HasSettledKeeping keeping g q piece x u v before after → HasTurned keeping g q first x w v after
turned_keeping keeping g q first total x piece w u v before after graph was none t numbered turn = elim turn [
  | inl k ↦
      let gain : HasGained w v x ⊥ = gained_good w v x ⊥ (λ h. h) (k.2 ∙ t.became) in
      let own : AreCutsOf g q first w before = subst (λ (n : Keeping). IsHaulKeeping n g q first w before) k.0 was in
      record {
        claimed = gain.claimed;
        skipped = gain.skipped;
        ended = gain.ended;
        haul = subst (λ (n : Keeping). IsHaulKeeping n g q first v after) (sym k.0)
            (good_more g q first total x piece w u v before after own none t numbered k.1 k.2 k.3);
      }
  | inr s ↦
      let gain = gains g q total x piece w u v before after t s in
      record {
        claimed = gain.claimed;
        skipped = gain.skipped;
        ended = gain.ended;
        haul = kept_more keeping g q first total x piece w u v before after graph was none t numbered s;
      }
]
