-- All are written, and all read back.
use Rattle.std.proofs.Common.{◌≡◌, arith, refl}
use Rattle.std.proofs.lemmas.Grind.{common_steps}
use Rattle.ov_certfile.specs.Forms.{link_in}
use Rattle.ov_certfile.specs.DataOf.{link_data}
use Rattle.ov_certfile.proofs.Listed.{all_back, list_written}
use Rattle.ov_certfile.proofs.link_list_writing.write_each_link.Goals as goal

pub loop-link-init : goal.loop-link-init
loop-link-init c =
    let all : c.into_iter-link-iterator.result ≡ c.args.graph.now.links = grind (arith, common_steps) in
    rw all (record { text = refl; back = λ h. h })

pub returns-clause-text : goal.returns-clause-text
returns-clause-text c =
    let l = c.loop-link in
    list_written link_data c.args.graph.now.links l.link-iterator l.later _ _ _ _ c.in-None.ensures.steps.0
    c.in_ok-write_mark.ensures l.invariant.text c.in_ok-write_mark-2.ensures

pub returns-clause-reads_back : goal.returns-clause-reads_back
returns-clause-reads_back c =
    let l = c.loop-link in
    all_back link_in link_data c.args.graph.now.links l.link-iterator c.in-None.ensures.steps.0 l.invariant.back
