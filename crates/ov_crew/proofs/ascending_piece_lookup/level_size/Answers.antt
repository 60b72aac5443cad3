-- Pairs of the first members, and later members.
use Rattle.std.proofs.Common.{◌≡◌, ◌∙◌, ◌*◌, ◌/◌, ℕ, inl, inr, ap, arith}
use Rattle.std.proofs.lemmas.Bool.{cases_lt}
use Rattle.ov_even.specs.Code.Levels.{pairs_among}
use Rattle.ov_even.proofs.PieceNumbers.LevelPlaces.{length_level_low, length_level_high}
use Rattle.ov_even.proofs.PieceNumbers.Pairs.{pairs_halved}
use Rattle.ov_crew.proofs.ascending_piece_lookup.level_size.Goals as goal

pub returns : goal.returns
returns c =
    let m = c.args.members in
    let level = c.args.level in
    let low = c.min-low.result in
    let is = c.min-low.ensures in
    let pairs : low * c.saturating_sub.result / 2 ≡ pairs_among low =
    ap (λ (x : ℕ). low * x / 2) c.saturating_sub.ensures ∙ pairs_halved low in
    elim (cases_lt level m) [
      | inl l ↦
          let e : low ≡ level = omega (arith, is, l) in
          let f = ap pairs_among e in
          omega (arith, pairs, e, f, length_level_high m level (omega (arith, l)))
      | inr l ↦
          let e : low ≡ m = omega (arith, is, l) in
          let f = ap pairs_among e in
          omega (arith, pairs, e, f, length_level_low m level l)
    ]
