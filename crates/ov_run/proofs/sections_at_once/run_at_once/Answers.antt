-- The jobs of all shifts were done, and there was room for all results.
use Rattle.std.proofs.Common.{ap, arith, flat_map, length, subst, sym}
use Rattle.ov_run.specs.Code.Jobs.{HaveRun}
use Rattle.ov_run.proofs.Blocks.Jobs.{all_ran, ran_length}
use Rattle.ov_run.proofs.sections_at_once.run_at_once.Goals as goal

pub in_one_list-requires-clause-room : goal.in_one_list-requires-clause-room
in_one_list-requires-clause-room g c =
    let params = g.N.HallName.params in
    let shifts = c.in_ok-shifts.shifts.items in
    let done = c.in_ok-done.done.items in
    let ran = all_ran params (λ shift. shift.jobs.items) (λ own. own.items) shifts done c.in_ok-done.ensures in
    let many =
    ran_length params (flat_map (λ shift. shift.jobs.items) shifts) (flat_map (λ own. own.items) done) ran in
    omega (
      arith,
      many,
      ap length c.in_ok-shifts.ensures,
      c.in_ok-room.ensures.capacity,
      c.len.ensures,
      c.args.jobs.ok.0,
    )

pub returns : goal.returns
returns g c =
    let params = g.N.HallName.params in
    let shifts = c.in_ok-shifts.shifts.items in
    let done = c.in_ok-done.done.items in
    let ran = all_ran params (λ shift. shift.jobs.items) (λ own. own.items) shifts done c.in_ok-done.ensures in
    subst (HaveRun params c.args.jobs.items) (sym c.in_one_list.ensures)
    (subst (λ js. HaveRun params js (flat_map (λ own. own.items) done)) c.in_ok-shifts.ensures ran)
