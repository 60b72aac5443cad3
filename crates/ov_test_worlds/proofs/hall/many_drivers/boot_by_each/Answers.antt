-- Each thread gave the pass of its driver back.
use Rattle.std.proofs.Common.{◌≡◌, arith, slice_index_or, subst, sym}
use Rattle.ov_snap.specs.declared.ghost_log_of_drivers.Ticket.{Ticket}
use Rattle.ov_test_worlds.proofs.Drivers.{same_drivers}
use Rattle.ov_test_worlds.proofs.hall.many_drivers.boot_by_each.Goals as goal

pub returns : goal.returns
returns g c =
    let rs = c.in_ok-map_vec.field-0.items in
    same_drivers c.args.passes.items rs
    (omega (arith, c.in_ok-map_vec.ensures.len, c.in_ok-map_vec.field-0.ok.0, c.args.passes.ok.0))
    (λ k p r low. let e = (c.in_ok-map_vec.ensures.each k r low).1 in
    subst (λ (x : Ticket). (slice_index_or rs k r).driver ≡ x.driver) (sym (e.job_is p)) e.call.met)
