use Rattle.std.proofs.Common.{◌≡◌, ◌<◌, ℕ, [], ◌∙◌, ap, subst, sym, arith}
use Rattle.ov_hall.specs.Passes.{first_seen, seen_alike}
use Rattle.ov_hall.specs.Code.Rules.{leaves, log_in, standing, stays}
use Rattle.ov_hall.proofs.Alike.{first_alike, fresh_of_hall}
use Rattle.ov_hall.proofs.Counting.{splits_all}
use Rattle.ov_hall.proofs.Histories.{stands_as}
use Rattle.ov_hall.proofs.hall_at_rest.Whole.new.Goals as goal

pub split_seat-all-requires : goal.split_seat-all-requires
split_seat-all-requires g c = (c.opening.invariant.1, omega (arith, c.opening.invariant.0), splits_all _ _)

pub invariant_of-stand : goal.invariant_of-stand
invariant_of-stand g c =
    let n = g.N.HallName.drivers in
    let params = g.N.HallName.params in
    let e = c.split_seat-all.ensures in
    let count : c.opening.inside.drivers ≡ n = ap (λ b. b.drivers) c.opening.view_is ∙ c.requires.name.1 in
    let is : c.split_seat-all.result.me ≡ (standing (seen_alike 0 n []), []) =
    e.4 ∙ (ap (λ m. (leaves m.0, [])) c.opening.invariant.2 ∙ ap (λ k. (standing (seen_alike 0 k []), [])) count) in
    let s = stands_as params n (seen_alike 0 n []) c.split_seat-all.result.me is
    (fresh_of_hall params n 0 n (omega arith)) in
    (e.3 ∙ (c.opening.invariant.1 ∙ (ap (λ b. b.table) c.opening.view_is ∙ c.requires.name.0)), s.0, s.1)

-- the passes are those of drivers who have seen nothing
pub invariant_of-result : goal.invariant_of-result
invariant_of-result g c =
    let n = g.N.HallName.drivers in
    let e = c.split_seat-all.ensures in
    let i = c.opening.invariant in
    let count : c.opening.inside.drivers ≡ n = ap (λ b. b.drivers) c.opening.view_is ∙ c.requires.name.1 in
    let some = subst (λ (k : ℕ). 0 < k) count i.3 in
    let tickets = c.split_seat-all.result.me.0.tickets in
    let same : tickets ≡ seen_alike 0 n [] =
    ap (λ m. m.0.tickets) e.4 ∙ (ap (λ m. m.0.tickets) i.2 ∙ ap (λ k. seen_alike 0 k []) count) in
    let seen : first_seen tickets ≡ [] = ap first_seen same ∙ first_alike 0 n [] some in
    let log : log_in c.split_seat-all.new.seat.me.0 ≡ [] =
    ap (λ m. log_in m.0) e.2 ∙ ap (λ m. log_in (stays m.0)) i.2 in (
      (same ∙ ap (λ l. seen_alike 0 n l) (sym seen), some),
      log ∙ sym seen,
      ap (λ b. b.table) c.opening.view_is ∙ c.requires.name.0,
      i.0,
      count,
    )

pub returns : goal.returns
returns g c =
    let n = g.N.HallName.drivers in
    let count : c.opening.inside.drivers ≡ n = ap (λ b. b.drivers) c.opening.view_is ∙ c.requires.name.1 in
    let some = subst (λ (k : ℕ). 0 < k) count c.opening.invariant.3 in
    ap first_seen (ap (λ m. m.0.tickets) c.split_seat-all.ensures.4
    ∙ (ap (λ m. m.0.tickets) c.opening.invariant.2 ∙ ap (λ k. seen_alike 0 k []) count)) ∙ first_alike 0 n [] some
