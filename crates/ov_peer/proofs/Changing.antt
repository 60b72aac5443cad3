-- A tree that is told changes one after another.
use Rattle.std.proofs.Common.{◌≡◌, ℕ, ◌+◌, ◌≤◌, List, [], ◌∷◌, None, length, refl, ap, arith}
use Rattle.ov_ids.specs.Sets.{adding, without}
use Rattle.ov_ids.proofs.Sets.{length-adding, length-without}
use Rattle.ov_plum.specs.PlumState.{PlumState}
use Rattle.ov_plum.specs.PlumRows.{AllowedTree, goes_up, goes_down}
use Rattle.ov_peer.specs.Step.{Told}
use Rattle.ov_views.specs.declared.change.ViewChange.{ViewChange}
use Rattle.ov_views.specs.declared.change.ViewChange.TheVariants.{Up, Down}

-- of all changes these are left: who tells them to the tree as it is now has told all to the first one, and there is
-- room
pub record Telling (t : PlumState) (all : List ViewChange) (now : PlumState) (left : List ViewChange) : Type 0 where
  pub later : (u : PlumState) → Told now left u → Told t all u
  pub room : length now.branches.eager + length now.branches.lazy + length left ≤ 64

pub begun : (t : PlumState) (all : List ViewChange)
    → length t.branches.eager + length t.branches.lazy + length all ≤ 64 → Telling t all t all
begun t all room = record { later = λ u h. h; room = room }

pub told_up : (t : PlumState) (all : List ViewChange) (now next : PlumState) (x : ℕ) (left : List ViewChange)
    → Telling t all now (Up x ∷ left) → AllowedTree now (goes_up x) next [] None → Telling t all next left
told_up t all now next x left s h =
    let eager : length next.branches.eager ≡ length (adding x now.branches.eager) =
    ap (λ (u : PlumState). length u.branches.eager) h.0 in
    let lazy : length next.branches.lazy ≡ length (without x now.branches.lazy) =
    ap (λ (u : PlumState). length u.branches.lazy) h.0 in
    record {
      later = λ u k. s.later u (next, h, k);
      room = omega (arith, s.room, eager, lazy, length-adding x now.branches.eager, length-without x now.branches.lazy);
    }

pub told_down : (t : PlumState) (all : List ViewChange) (now next : PlumState) (x : ℕ) (left : List ViewChange)
    → Telling t all now (Down x ∷ left) → AllowedTree now (goes_down x) next [] None → Telling t all next left
told_down t all now next x left s h =
    let eager : length next.branches.eager ≡ length (without x now.branches.eager) =
    ap (λ (u : PlumState). length u.branches.eager) h.0 in
    let lazy : length next.branches.lazy ≡ length (without x now.branches.lazy) =
    ap (λ (u : PlumState). length u.branches.lazy) h.0 in
    record {
      later = λ u k. s.later u (next, h, k);
      room =
          omega (arith, s.room, eager, lazy, length-without x now.branches.eager, length-without x now.branches.lazy);
    }

pub told_all : (t : PlumState) (all : List ViewChange) (u : PlumState) → Telling t all u [] → Told t all u
told_all t all u s = s.later u refl
