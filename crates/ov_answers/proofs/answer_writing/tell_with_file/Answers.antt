-- A refusal was written.
use Rattle.std.proofs.Common.{true, option_map}
use Rattle.ov_answers.specs.Code.GivenNames.{given_names}
use Rattle.ov_answers.proofs.OfGraph.{written}
use Rattle.ov_answers.proofs.answer_writing.tell_with_file.Goals as goal

pub returns-in_ok-answer-in-Err : goal.returns-in_ok-answer-in-Err
returns-in_ok-answer-in-Err g c =
    let names = given_names (option_map (λ n. n.now) c.args.names) in
    let named = c.args.request.now.names in
    let answer = c.in_ok-answer-in-Err.answer in
    let write = c.write_answer.ensures in
    written c.args.graph.now c.args.group.now names true named g.W.Write.contents c.args.sink.now
    c.write_answer.new.sink answer.told answer.text.items c.write_answer.result
    (c.in_ok-answer-in-Err.ensures names true named) write.told write.bytes write.prefix write.faults write.unwritten
    write.kind
