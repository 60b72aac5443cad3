-- the words so far, and how many there are
use Rattle.std.proofs.Common.{◌≡◌, vec_len}
use Rattle.ov_scenario.specs.Code.RunnableLines.{stream_now}
use Rattle.ov_scenario.specs.Draws.{AreDraws, seeded}
use Rattle.ov_scenario.proofs.words_from_seed.draw.Given as goal

abbrev pub invariant-loop : goal.invariant-loop
invariant-loop l =
    record {
      draws : AreDraws (seeded l.fn.seed) l.draws.items (stream_now l.left);
      count : vec_len l.draws ≡ l.counter;
    }
