use Rattle.std.proofs.Common.{◌≡◌, ◌++◌, ◌∙◌, ap, map, subst, sym}
use Rattle.ov_snap.specs.Logs.{IsLog}
use Rattle.ov_hall.specs.Passes.{AllBegin, seen_alike}
use Rattle.ov_hall.proofs.Alike.{drivers_seen, sole_after, sole_first}
use Rattle.ov_hall.proofs.core_shared_by_drivers.Hall.unite.Given as given
use Rattle.ov_hall.proofs.core_shared_by_drivers.Hall.unite.Goals as goal

-- all passes have joined
joined : (g : given.Over) (c : goal.After-look g) → c.join_all-stand.result ≡ c.args.passes.items
joined g c = c.join_all-stand.ensures ∙ ap (λ l. l ++ c.args.passes.items) c.nobody.ensures.nobody

alike : (g : given.Over) (c : goal.After-look g)
    → c.look.new.stand ≡ seen_alike 0 g.N.HallName.drivers c.nobody.new.self
alike g c =
    c.look.ensures.seen
    ∙ drivers_seen 0 g.N.HallName.drivers c.join_all-stand.result c.nobody.new.self
    (ap (map (λ t. t.driver)) (joined g c) ∙ c.requires.all)

pub invariant_of-result : goal.invariant_of-result
invariant_of-result g c =
    let n = g.N.HallName.drivers in
    let some = c.args.self.some in (
      (sole_after n c.look.new.stand c.nobody.new.self some (alike g c), some),
      c.look.ensures.same ∙ sym (sole_first n c.look.new.stand c.nobody.new.self some (alike g c)),
      c.args.self.table_is,
      c.args.self.one_word,
      c.args.self.count,
    )

pub returns-clause-log : goal.returns-clause-log
returns-clause-log g c =
    subst (IsLog g.N.HallName.params g.N.HallName.drivers) (sym (sole_first g.N.HallName.drivers c.look.new.stand
    c.nobody.new.self c.args.self.some (alike g c))) c.look.ensures.log

pub returns-clause-began : goal.returns-clause-began
returns-clause-began g c =
    let log = c.nobody.new.self in
    subst (AllBegin c.args.passes.items) (sym (sole_first g.N.HallName.drivers c.look.new.stand log c.args.self.some
    (alike g c))) (subst (λ l. AllBegin l log) (joined g c) c.look.ensures.began)
