-- The level and the column of a piece, by its number.
use Rattle.std.proofs.Common.{◌≡◌, ◌∙◌, ℕ, ◌+◌, ◌-◌, ◌<◌, ◌≤◌, inl, inr, List, ◌++◌, length, slice_get, Some, refl, sym}
use Rattle.std.proofs.Common.{ap, arith, length-append}
use Rattle.std.proofs.lemmas.Bool.{cases_lt}
use Rattle.ov_fans.specs.declared.piece.Piece.{Piece}
use Rattle.ov_fans.specs.declared.piece.Piece.TheVariants.{Pair, Fan}
use Rattle.ov_even.specs.Order.{IsNumbered, AreMoreThan}
use Rattle.ov_even.specs.Code.Levels.{pieces_of_level, levels_behind, all_pieces, pairs_among}
use Rattle.ov_even.proofs.PieceOrder.InOrder.{at_right}
use Rattle.ov_even.proofs.PieceNumbers.AllLevels.{levels_split, place_ahead}
use Rattle.ov_even.proofs.PieceNumbers.LevelPlaces.{pair_placed, fan_placed, pair_member, fan_member}
use Rattle.ov_even.proofs.PieceNumbers.ByLevel.{level_more}
use Rattle.ov_even.proofs.PieceNumbers.Numbering.{more_than, there_numbered}
use Rattle.ov_even.proofs.PieceNumbers.Pairs.{pairs_more}
use Rattle.ov_crew.specs.Code.Ascending.{IsColumn, IsReached}
use Rattle.ov_crew.specs.declared.ascending_piece_lookup.Column.{Column}

-- if the lower levels have no more pieces than a number that some piece has, a piece can have the level
pub level_below : (n m level first number : ℕ) → first ≡ length (levels_behind m 0 (level - 1)) → first ≤ number
    → number < length (all_pieces n m) → level < n
level_below n m level first number e from to = elim (cases_lt level n) [
  | inl l ↦ l
  | inr over ↦
      let a : level - 1 ≡ (n - 1) + (level - 1 - (n - 1)) = omega (arith, over) in
      let b = ap (λ (x : ℕ). length (levels_behind m 0 x)) a in
      let c = ap length (levels_split m 0 (n - 1) (level - 1 - (n - 1))) in
      let d = length-append (levels_behind m 0 (n - 1)) (levels_behind m (0 + (n - 1)) (level - 1 - (n - 1))) in
      absurd (omega (arith, e, from, to, b, c, d))
]

-- the piece at a place of a level has its number after those of all lower levels
pub numbered_in : (n m level first place number : ℕ) (p : Piece) → 1 ≤ level → level < n
    → first ≡ length (levels_behind m 0 (level - 1)) → number ≡ first + place
    → place < length (pieces_of_level m level) → slice_get (pieces_of_level m level) place ≡ Some p
    → IsNumbered n m number p
numbered_in n m level first place number p low high e at within there =
    let a : n - 1 ≡ (level - 1) + (n - level) = omega (arith, low, high) in
    let z : 0 + (level - 1) ≡ level - 1 = omega arith in
    let lower = levels_behind m 0 (level - 1) in
    there_numbered n m number p
    (ap (λ (x : ℕ). slice_get (levels_behind m 0 x) number) a
    ∙ ap (λ (xs : List Piece). slice_get xs number) (levels_split m 0 (level - 1) (n - level))
    ∙ ap (λ (x : ℕ). slice_get (lower ++ levels_behind m x (n - level)) number) z
    ∙ at_right lower (levels_behind m (level - 1) (n - level)) number place (omega (arith, e, at))
    ∙ place_ahead n m level place low high within ∙ there)

-- one member makes no pair
pub no_pairs : 0 ≡ pairs_among 1
unfolding pairs_among
no_pairs = refl

-- the first column of all
pub column_first : (m : ℕ) (c : Column) → c.level ≡ 1 → c.first ≡ 0 → c.before ≡ 1 → c.start ≡ 0 → IsColumn m c
unfolding levels_behind
column_first m c level first before start = record {
  low = omega (arith, level);
  lower = first ∙ ap (λ (x : ℕ). length (levels_behind m 0 (x - 1))) (sym level);
  some = omega (arith, before);
  among = omega (arith, level, before);
  pairs = start ∙ no_pairs ∙ ap pairs_among (sym before);
}

-- a piece can have the level of the column
pub column_level : (n m number : ℕ) (c : Column) → AreMoreThan n m number → IsReached m number c → c.level < n
column_level n m number c below r =
    let from = r.not_before in
    level_below n m c.level c.first number r.column.lower (omega (arith, from)) (more_than n m number below)

-- the number of pieces from the column's first to the one with this number
abbrev pub left_of : ℕ → Column → ℕ
left_of number c = number - c.first - c.start

-- after all pairs of its level the number is that of a fan
pub fan_reached : (n m number : ℕ) (c : Column) → AreMoreThan n m number → IsReached m number c
    → number < c.first + length (pieces_of_level m c.level) → c.before ≡ c.level
    → (c.level + left_of number c < m) × IsNumbered n m number (Fan c.level (c.level + left_of number c + 1))
fan_reached n m number c below r within same =
    let k = r.column in
    let level = c.level in
    let left = left_of number c in
    let from = r.not_before in
    let start : c.start ≡ pairs_among level = k.pairs ∙ ap pairs_among same in
    let place = c.start + left in
    let at : number ≡ c.first + place = omega (arith, from) in
    let inside : place < length (pieces_of_level m level) = omega (arith, within, at) in
    let member = fan_member m level place inside (omega (arith, start)) in
    let e : place ≡ pairs_among level + (level + left + 1 - level - 1) = omega (arith, start) in
    let low : level + left < m = omega (arith, member, start) in (
      low,
      numbered_in n m level c.first place number (Fan level (level + left + 1)) k.low
          (column_level n m number c below r) k.lower at inside
          (ap (slice_get (pieces_of_level m level)) e
          ∙ fan_placed m level (level + left + 1) (omega arith) (omega (arith, low))),
    )

-- in a column of pairs it is that of a pair
pub pair_reached : (n m number : ℕ) (c : Column) → AreMoreThan n m number → IsReached m number c
    → number < c.first + length (pieces_of_level m c.level) → ¬ (c.before ≡ c.level)
    → (c.before < c.level → number < c.first + (c.start + c.before))
    → (left_of number c < c.before) × (c.before < m)
    × IsNumbered n m number (Pair c.level (left_of number c + 1) (c.before + 1))
pair_reached n m number c below r within other last =
    let k = r.column in
    let level = c.level in
    let left = left_of number c in
    let from = r.not_before in
    let start = k.pairs in
    let most = k.among in
    let some = k.some in
    let less : c.before < level = omega (arith, most, other) in
    let end = last less in
    let among : left < c.before = omega (arith, end, from, some) in
    let place = c.start + left in
    let at : number ≡ c.first + place = omega (arith, from) in
    let inside : place < length (pieces_of_level m level) = omega (arith, within, at) in
    let f : c.before ≡ c.before + 1 - 1 = omega arith in
    let g = ap pairs_among f in
    let e : place ≡ pairs_among (c.before + 1 - 1) + (left + 1 - 1) = omega (arith, start, g) in
    let member = pair_member m level place (left + 1) (c.before + 1) inside e (omega (arith, less)) (omega arith) in (
      among,
      omega (arith, member),
      numbered_in n m level c.first place number (Pair level (left + 1) (c.before + 1)) k.low
          (column_level n m number c below r) k.lower at inside
          (ap (slice_get (pieces_of_level m level)) e
          ∙ pair_placed m level (left + 1) (c.before + 1) (omega arith) (omega (arith, among)) (omega (arith, less))
          member),
    )

-- one column more
pub column_more : (m number : ℕ) (c : Column) → IsReached m number c → c.before < c.level
    → c.before ≤ number - c.first - c.start
    → IsReached m number
    (record { level = c.level; first = c.first; before = c.before + 1; start = c.start + c.before })
column_more m number c r less more =
    let k = r.column in
    let from = r.not_before in
    let start = k.pairs in
    let low = k.low in
    let some = k.some in
    record {
      column = record {
        low = low;
        lower = k.lower;
        some = omega arith;
        among = omega (arith, less);
        pairs = omega (arith, start, pairs_more c.before);
      };
      not_before = omega (arith, more, from, some);
    }

-- one level more
pub level_next : (m number size : ℕ) (c : Column) → IsReached m number c
    → size ≡ length (pieces_of_level m c.level) → size ≤ number - c.first
    → IsReached m number (record { level = c.level + 1; first = c.first + size; before = 1; start = 0 })
level_next m number size c r is more =
    let k = r.column in
    let from = r.not_before in
    let lower = k.lower in
    record {
      column = record {
        low = omega arith;
        lower = omega (arith, lower, is, level_more m c.level k.low);
        some = omega arith;
        among = omega arith;
        pairs = no_pairs;
      };
      not_before = omega (arith, more, from);
    }
