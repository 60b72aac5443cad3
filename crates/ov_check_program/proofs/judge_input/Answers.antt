-- What standard input had was judged.
use Rattle.std.proofs.Common.{inl}
use Rattle.ov_check_program.proofs.judge_input.Goals as goal

pub returns-in_ok-judge_from-in-Ok-None : goal.returns-in_ok-judge_from-in-Ok-None
returns-in_ok-judge_from-in-Ok-None g c =
    let p = c.in_ok-judge_from-in-Ok-None.ensures.prints in
    inl (record {
      reader = c.reader.result;
      outcome = p.outcome;
      judgement = p.judgement;
      answer = p.answer;
      exact = p.exact;
    })
