-- All drivers have their passes back, and what they did is what the block did.
use Rattle.std.proofs.Common.{◌∙◌, ap, arith, map, subst, sym}
use Rattle.ov_hall.specs.Passes.{AllBegin}
use Rattle.ov_run.proofs.Blocks.AllSections.{drivers_ran, in_order, ran_together}
use Rattle.ov_run.proofs.Blocks.Jobs.{ran_length}
use Rattle.ov_run.proofs.sections_at_once.run_together.Goals as goal

pub sorted_out-back-requires-clause-room : goal.sorted_out-back-requires-clause-room
sorted_out-back-requires-clause-room g c =
    let jobs = c.in_ok-jobs.jobs in
    let many = ran_length g.N.HallName.params jobs.items c.in_ok-ran.ran.items c.in_ok-ran.ensures in (
      omega (arith, many, c.in_ok-back.ensures.capacity, c.len.ensures, jobs.ok.0),
      omega (arith, many, c.in_ok-told.ensures.capacity, c.len-2.ensures, jobs.ok.0),
    )

pub unite-requires : goal.unite-requires
unite-requires g c =
    let params = g.N.HallName.params in
    let n = g.N.HallName.drivers in
    let sections = c.args.sections.items in
    let seen = c.into_inner.result in
    record {
      all = ap (map (λ t. t.driver)) c.sorted_out-back.ensures.passes
          ∙ in_order params seen 0 n sections c.in_ok-ran.ran.items
          (drivers_ran params seen n sections c.in-Ok.passes.items c.in_ok-jobs.jobs.items c.in_ok-ran.ran.items
          c.in-Ok.ensures.passes c.in_ok-jobs.ensures c.in_ok-ran.ensures);
    }

pub returns-clause-ran : goal.returns-clause-ran
returns-clause-ran g c =
    let params = g.N.HallName.params in
    let n = g.N.HallName.drivers in
    let sections = c.args.sections.items in
    let seen = c.into_inner.result in
    let log = c.unite.result in
    let back = c.sorted_out-back.ensures in
    ran_together params n seen log c.args.hall c.in_ok-hall.hall sections c.in_ok-ran.ran.items c.new.result
    c.in-Ok.hall.some c.requires.enough c.into_inner.ensures (sym c.in_ok-hall.ensures) c.unite.ensures.log
    (drivers_ran params seen n sections c.in-Ok.passes.items c.in_ok-jobs.jobs.items c.in_ok-ran.ran.items
    c.in-Ok.ensures.passes c.in_ok-jobs.ensures c.in_ok-ran.ensures)
    (subst (λ ts. AllBegin ts log) back.passes c.unite.ensures.began) (c.new.ensures ∙ back.told)
