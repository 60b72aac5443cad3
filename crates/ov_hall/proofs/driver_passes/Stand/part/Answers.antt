use Rattle.std.proofs.Common.{◌≡◌, ◌-◌, ◌+◌, [], ◌∷◌, ◌++◌, ◌∙◌, ap, append_assoc, arith, length, length-append, sym}
use Rattle.ov_hall.specs.Passes.{first_seen, seen_alike}
use Rattle.ov_hall.specs.Code.Rules.{first_of}
use Rattle.ov_hall.proofs.Alike.{alike_rest}
use Rattle.ov_hall.proofs.driver_passes.Stand.part.Goals as goal

pub loop-driver-preserved : goal.loop-driver-preserved
loop-driver-preserved g c =
    let i = c.loop-driver.invariant in
    let p = c.push_reserved.ensures in
    let f = c.first-stand.ensures.all in
    let one = first_of c.first-stand.result in
    let d = c.loop-driver.driver in (
      omega (arith, ap length p.items, i.0, length-append c.loop-driver.passes.items (one ∷ [])),
      omega (arith, p.capacity, i.1),
      ap (λ l. l ++ c.first-stand.new.self) p.items ∙ (append_assoc c.loop-driver.passes.items (one ∷ [])
          c.first-stand.new.self ∙ (ap (λ r. c.loop-driver.passes.items ++ r) (sym f) ∙ i.2)),
      alike_rest d (c.args.drivers - d) (c.args.drivers - (d + 1)) (first_seen c.args.self) one c.first-stand.new.self
          (omega (arith, c.loop-driver-test.true)) (sym f ∙ i.3),
    )

pub loop-driver-init : goal.loop-driver-init
loop-driver-init g c =
    let made = c.in-Ok.ensures in
    let all : c.args.drivers ≡ c.args.drivers - 0 = omega arith in (
      ap length made.items,
      omega (arith, made.capacity),
      ap (λ l. l ++ c.args.self) made.items,
      c.requires.alike ∙ ap (λ k. seen_alike 0 k (first_seen c.args.self)) all,
    )
