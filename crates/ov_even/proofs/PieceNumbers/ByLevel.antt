-- The numbers of the pieces of a level: those after the numbers of all lower levels, and of the first members.
use Rattle.std.proofs.Common.{◌≡◌, ℕ, zero, suc, ◌+◌, ◌-◌, ◌<◌, ◌≤◌, inl, inr, List, ◌++◌, length, Some}
use Rattle.std.proofs.Common.{sym, ap, ◌∙◌, arith}
use Rattle.std.proofs.lemmas.Bool.{cases_lt}
use Rattle.std.proofs.lemmas.List.{length-append}
use Rattle.std.specs.List.{slice_get}
use Rattle.ov_fans.specs.Pieces.{IsPieceOf, level_of}
use Rattle.ov_fans.specs.declared.piece.Piece.{Piece}
use Rattle.ov_fans.specs.declared.piece.Piece.TheVariants.{Pair, Fan}
use Rattle.ov_even.specs.Levels.{AreNumbersBehind}
use Rattle.ov_graph.specs.Links.{most_of_any_graph}
use Rattle.ov_board.specs.Limits.{piece_limit}
use Rattle.ov_even.specs.Code.Levels.{columns_behind, pieces_of_level, levels_behind, all_pieces}
use Rattle.ov_even.proofs.PieceOrder.Columns.{IsAt, has_columns, piece_in_columns}
use Rattle.ov_even.proofs.PieceNumbers.LevelPlaces.{columns_split}
use Rattle.ov_even.proofs.PieceOrder.InOrder.{has_at, at_left, at_right}
use Rattle.ov_even.proofs.PieceNumbers.AllLevels.{level_in, has_levels, levels_split}
use Rattle.ov_even.proofs.PieceNumbers.Numbering.{numbered_there, one_total, so_many}
use Rattle.ov_even.proofs.PieceNumbers.Totals.{total_small}

-- all pieces are those of the lower levels, those of the level, and those of the higher levels
all_parted : (n m k : ℕ) → suc k < n → all_pieces n m
    ≡ levels_behind m 0 k ++ (pieces_of_level m (suc k) ++ levels_behind m (suc k) (n - 1 - suc k))
unfolding levels_behind
all_parted n m k high =
    let e : n - 1 ≡ k + suc (n - 1 - suc k) = omega arith in
    let f : 0 + k ≡ k = omega arith in
    ap (levels_behind m 0) e ∙ levels_split m 0 k (suc (n - 1 - suc k))
    ∙ ap (λ (x : ℕ). levels_behind m 0 k ++ levels_behind m x (suc (n - 1 - suc k))) f

-- the number of all pieces, in these three parts
all_length : (n m k : ℕ) → suc k < n → length (all_pieces n m) ≡ length (levels_behind m 0 k)
    + (length (pieces_of_level m (suc k)) + length (levels_behind m (suc k) (n - 1 - suc k)))
all_length n m k high =
    let lower = levels_behind m 0 k in
    let of_level = pieces_of_level m (suc k) in
    let higher = levels_behind m (suc k) (n - 1 - suc k) in
    ap length (all_parted n m k high) ∙ length-append lower (of_level ++ higher)
    ∙ ap (λ (x : ℕ). length lower + x) (length-append of_level higher)

-- the piece at a number of one of the lower levels, of the level, or of one of the higher levels
lower_at : (n m k x : ℕ) (r : Piece) → suc k < n → slice_get (all_pieces n m) x ≡ Some r
    → x < length (levels_behind m 0 k) → level_of r ≤ k
lower_at n m k x r high there l =
    let lower = levels_behind m 0 k in
    let later = pieces_of_level m (suc k) ++ levels_behind m (suc k) (n - 1 - suc k) in
    let e : slice_get lower x ≡ Some r = sym (at_left lower later x l)
    ∙ ap (λ (xs : List Piece). slice_get xs x) (sym (all_parted n m k high)) ∙ there in
    let at = has_levels m 0 k r (has_at lower x r e) in
    let same = level_in m at.at r at.has in
    let within = at.within in
    omega (arith, same, within)

of_level_at : (n m k x : ℕ) (r : Piece) → suc k < n → slice_get (all_pieces n m) x ≡ Some r
    → length (levels_behind m 0 k) ≤ x → x < length (levels_behind m 0 k) + length (pieces_of_level m (suc k))
    → slice_get (pieces_of_level m (suc k)) (x - length (levels_behind m 0 k)) ≡ Some r
of_level_at n m k x r high there from l =
    let lower = levels_behind m 0 k in
    let of_level = pieces_of_level m (suc k) in
    let higher = levels_behind m (suc k) (n - 1 - suc k) in
    let place = x - length lower in
    sym (at_left of_level higher place (omega (arith, from, l)))
    ∙ sym (at_right lower (of_level ++ higher) x place (omega (arith, from)))
    ∙ ap (λ (xs : List Piece). slice_get xs x) (sym (all_parted n m k high)) ∙ there

here_at : (n m k x : ℕ) (r : Piece) → suc k < n → slice_get (all_pieces n m) x ≡ Some r
    → length (levels_behind m 0 k) ≤ x → x < length (levels_behind m 0 k) + length (pieces_of_level m (suc k))
    → level_of r ≡ suc k
here_at n m k x r high there from l = level_in m (suc k) r (has_at (pieces_of_level m (suc k))
    (x - length (levels_behind m 0 k)) r (of_level_at n m k x r high there from l))

higher_at : (n m k x : ℕ) (r : Piece) → suc k < n → slice_get (all_pieces n m) x ≡ Some r
    → length (levels_behind m 0 k) + length (pieces_of_level m (suc k)) ≤ x → suc k < level_of r
higher_at n m k x r high there from =
    let lower = levels_behind m 0 k in
    let of_level = pieces_of_level m (suc k) in
    let higher = levels_behind m (suc k) (n - 1 - suc k) in
    let place = x - length lower in
    let e : slice_get higher (place - length of_level) ≡ Some r =
    sym (at_right of_level higher place (place - length of_level) (omega (arith, from)))
    ∙ sym (at_right lower (of_level ++ higher) x place (omega (arith, from)))
    ∙ ap (λ (xs : List Piece). slice_get xs x) (sym (all_parted n m k high)) ∙ there in
    let at = has_levels m (suc k) (n - 1 - suc k) r (has_at higher (place - length of_level) r e) in
    let same = level_in m at.at r at.has in
    let behind = at.behind in
    omega (arith, same, behind)

-- the pieces of a level for the first members come first
level_parted : (m level done : ℕ) → done ≤ m → pieces_of_level m level
    ≡ pieces_of_level done level ++ columns_behind level done (m - done)
level_parted m level done few =
    let e : m ≡ done + (m - done) = omega (arith, few) in
    let f : 0 + done ≡ done = omega arith in
    ap (columns_behind level 0) e ∙ columns_split level 0 done (m - done)
    ∙ ap (λ (x : ℕ). pieces_of_level done level ++ columns_behind level x (m - done)) f

-- and are no more than those for all
pub level_longer : (m level done : ℕ) → done ≤ m
    → length (pieces_of_level done level) ≤ length (pieces_of_level m level)
level_longer m level done few =
    let e = ap length (level_parted m level done few) in
    let f = length-append (pieces_of_level done level) (columns_behind level done (m - done)) in
    omega (arith, e, f)

-- a piece among the first of its level is one for the first members
first_at : (n m level done place : ℕ) (r : Piece) → 1 ≤ level → level < n → done ≤ m
    → slice_get (pieces_of_level m level) place ≡ Some r → place < length (pieces_of_level done level)
    → IsPieceOf n done r
first_at n m level done place r low high few there within =
    let first = pieces_of_level done level in
    let later = columns_behind level done (m - done) in
    let e : slice_get first place ≡ Some r = sym (at_left first later place within)
    ∙ ap (λ (xs : List Piece). slice_get xs place) (sym (level_parted m level done few)) ∙ there in
    piece_in_columns n done level r low high (has_at first place r e)

-- a piece of a later column is none for the first members
not_first : (n level done column : ℕ) (r : Piece) → done < column → IsAt level column r → ¬ IsPieceOf n done r
not_first n level done column (Pair other i j) behind at own = elim at [
  | inl p ↦
      let e = p.is in
      let same : j ≡ column = cc in
      let last = own.member in
      omega (arith, behind, same, last)
  | inr f ↦ absurd (let e = f.is in cc)
]
not_first n level done column (Fan other j) behind at own = elim at [
  | inl p ↦ absurd (let e = p.is in cc)
  | inr f ↦
      let e = f.is in
      let same : j ≡ column = cc in
      let last = own.member in
      omega (arith, behind, same, last)
]

-- nor is one behind the first of its level
later_at : (n m level done place : ℕ) (r : Piece) → done ≤ m → slice_get (pieces_of_level m level) place ≡ Some r
    → length (pieces_of_level done level) ≤ place → ¬ IsPieceOf n done r
later_at n m level done place r few there behind =
    let first = pieces_of_level done level in
    let later = columns_behind level done (m - done) in
    let rest = place - length first in
    let e : slice_get later rest ≡ Some r = sym (at_right first later place rest (omega (arith, behind)))
    ∙ ap (λ (xs : List Piece). slice_get xs place) (sym (level_parted m level done few)) ∙ there in
    let c = has_columns level done (m - done) r (has_at later rest r e) in
    not_first n level done c.column r c.behind c.at

-- the pieces of a level behind those for the first members have the numbers after those and all lower levels
numbers_behind : (n m k done first size : ℕ) → suc k < n → done ≤ m
    → first ≡ length (levels_behind m 0 k) + length (pieces_of_level done (suc k))
    → first + size ≡ length (levels_behind m 0 k) + length (pieces_of_level m (suc k))
    → AreNumbersBehind n m done (suc k) first size
numbers_behind n m k done first size high few e f = record {
  each = λ x r numbered. let there = numbered_there n m x r numbered in (
    (λ own. elim (cases_lt x (length (levels_behind m 0 k))) [
      | inl l ↦
          let low = lower_at n m k x r high there l in
          let same = own.0 in
          absurd (omega (arith, low, same))
      | inr from ↦ elim (cases_lt x (first + size)) [
        | inl l ↦ elim (cases_lt x first) [
          | inl early ↦
              let at = of_level_at n m k x r high there from (omega (arith, f, l)) in
              absurd (own.1 (first_at n m (suc k) done (x - length (levels_behind m 0 k)) r (omega arith) high few at
              (omega (arith, e, early, from))))
          | inr late ↦ (late, l)
        ]
        | inr l ↦
            let up = higher_at n m k x r high there (omega (arith, f, l)) in
            let same = own.0 in
            absurd (omega (arith, up, same))
      ]
    ]),
    (λ h.
        let from = h.0 in
        let to = h.1 in
        let low : length (levels_behind m 0 k) ≤ x = omega (arith, e, from) in
        let below : x < length (levels_behind m 0 k) + length (pieces_of_level m (suc k)) = omega (arith, f, to) in (
          here_at n m k x r high there low below,
          later_at n m (suc k) done (x - length (levels_behind m 0 k)) r few
              (of_level_at n m k x r high there low below) (omega (arith, e, from)),
        )),
  );
  fits = λ total all.
      let a = one_total n m (length (all_pieces n m)) total (so_many n m) all in
      let b = all_length n m k high in
      omega (arith, a, b, f);
}

pub numbers_of_level : (n m level done first size : ℕ) → 1 ≤ level → level < n → done ≤ m
    → first ≡ length (levels_behind m 0 (level - 1)) + length (pieces_of_level done level)
    → first + size ≡ length (levels_behind m 0 (level - 1)) + length (pieces_of_level m level)
    → AreNumbersBehind n m done level first size
numbers_of_level n m zero done first size low high few e f = absurd (omega arith)
numbers_of_level n m (suc k) done first size low high few e f =
    let same : suc k - 1 ≡ k = omega arith in
    let lower = ap (λ (x : ℕ). length (levels_behind m 0 x)) same in
    numbers_behind n m k done first size high few (omega (arith, e, lower)) (omega (arith, f, lower))

-- the pieces of the levels up to this one are few
pub level_small : (n m level : ℕ) → n ≤ most_of_any_graph → m ≤ n → 1 ≤ level → level < n
    → length (levels_behind m 0 (level - 1)) + length (pieces_of_level m level) < piece_limit
level_small n m zero few l low high = absurd (omega arith)
level_small n m (suc k) few l low high =
    let same : suc k - 1 ≡ k = omega arith in
    let e = ap (λ (x : ℕ). length (levels_behind m 0 x)) same in
    omega (arith, e, total_small n m few l, all_length n m k high)

-- one more level
pub level_more : (m level : ℕ) → 1 ≤ level → length (levels_behind m 0 (level + 1 - 1))
    ≡ length (levels_behind m 0 (level - 1)) + length (pieces_of_level m level)
unfolding levels_behind
level_more m zero low = absurd (omega arith)
level_more m (suc k) low =
    let e : suc k + 1 - 1 ≡ k + 1 = omega arith in
    let f : suc k - 1 ≡ k = omega arith in
    let g : 0 + k ≡ k = omega arith in
    let a = ap (λ (x : ℕ). length (levels_behind m 0 x)) e in
    let b = ap (λ (x : ℕ). length (levels_behind m 0 x)) f in
    let c = ap length (levels_split m 0 k 1) in
    let d = length-append (levels_behind m 0 k) (levels_behind m (0 + k) 1) in
    let h = ap (λ (x : ℕ). length (levels_behind m x 1)) g in
    let i = length-append (pieces_of_level m (suc k)) (levels_behind m (suc k) 0) in
    omega (arith, a, b, c, d, h, i)
