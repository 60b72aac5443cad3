-- All are written, and all read back.
use Rattle.std.proofs.Common.{◌≡◌, arith, refl}
use Rattle.std.proofs.lemmas.Grind.{common_steps}
use Rattle.ov_certfile.specs.Forms.{ids_in}
use Rattle.ov_certfile.specs.DataOf.{ids_data}
use Rattle.ov_certfile.proofs.Listed.{all_back, list_written}
use Rattle.ov_certfile.proofs.paths_field.write_paths.Goals as goal

pub loop-path-init : goal.loop-path-init
loop-path-init c =
    let all : c.into_iter-path-iterator.result ≡ c.args.paths.now = grind (arith, common_steps) in
    rw all (record { text = refl; back = λ h. h })

pub returns-clause-text : goal.returns-clause-text
returns-clause-text c =
    let l = c.loop-path in
    list_written ids_data c.args.paths.now l.path-iterator l.later _ _ _ _ c.in-None.ensures.steps.0
    c.in_ok-write_mark.ensures l.invariant.text c.in_ok-write_mark-2.ensures

pub returns-clause-reads_back : goal.returns-clause-reads_back
returns-clause-reads_back c =
    let l = c.loop-path in
    all_back ids_in ids_data c.args.paths.now l.path-iterator c.in-None.ensures.steps.0 l.invariant.back
