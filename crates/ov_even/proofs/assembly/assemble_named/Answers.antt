-- The certificate is the answer. It is valid, and so it is true.
use Rattle.std.proofs.Common.{sym, subst}
use Rattle.ov_even.specs.Answer.{IsCheckedAnswer}
use Rattle.ov_cert.proofs.Validity.Exact.{valid_means}
use Rattle.ov_even.proofs.assembly.assemble_named.Goals as goal

pub returns-clause-answer : goal.returns-clause-answer
returns-clause-answer c =
    let g = c.args.graph.now in
    let q = c.args.group.now in
    subst (IsCheckedAnswer g q) (sym c.of_valid.ensures) record {
      graph = c.in_ok-graph.ensures.0;
      members = c.in_ok-graph.ensures.1;
      answer = c.in_ok-cert.ensures.answer;
      fewest = valid_means g q c.in_ok-cert.cert c.in_ok-cert.ensures.valid;
    }
