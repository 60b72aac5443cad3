-- Two writes, one after the other, append what both took.
use Rattle.std.proofs.Common.{◌≡◌, ◌++◌, take, drop, append_assoc, take-append-drop, ap, ◌∙◌, arith}
use Rattle.std.proofs.lemmas.Grind.{common_steps}
use Rattle.std.proofs.KnownBytes.{Appends-trans}
use Rattle.ov_io.proofs.sink.Sink.write_all.Goals as goal

pub loop-rest-preserved : goal.loop-rest-preserved
loop-rest-preserved g c =
    let done = c.loop-rest.invariant.taken.0 in
    let count = c.in_ok-count.count in
    let taken = take count c.loop-rest.rest.now in
    let whole : (done ++ taken) ++ drop count c.loop-rest.rest.now ≡ c.args.bytes.now =
    append_assoc done taken (drop count c.loop-rest.rest.now)
    ∙ ap (λ l. done ++ l) (take-append-drop count c.loop-rest.rest.now) ∙ c.loop-rest.invariant.taken.2 in
    record {
      taken = (
        done ++ taken,
        Appends-trans _ _ _ _ _ c.loop-rest.invariant.taken.1 c.in_ok-count.ensures.bytes,
        grind
            (arith, common_steps, whole),
      );
      faults = omega (arith, c.in_ok-count.ensures.failures, c.loop-rest.invariant.faults);
    }
