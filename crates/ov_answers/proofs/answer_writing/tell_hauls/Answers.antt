-- The lines are those of the outline, and the file that of the certificate.
use Rattle.std.proofs.Common.{List, Some, true, option_map, sym, subst}
use Rattle.ov_even.specs.Hauls.{Suffice}
use Rattle.ov_even.specs.declared.worker_haul.Haul.{Haul}
use Rattle.ov_answers.specs.Code.Files.{with_file_of}
use Rattle.ov_answers.specs.Code.GivenNames.{given_names}
use Rattle.ov_answers.proofs.OfGraph.{written, file_told}
use Rattle.ov_answers.proofs.answer_writing.tell_hauls.Goals as goal

pub place_answer-requires-clause-suffice : goal.place_answer-requires-clause-suffice
place_answer-requires-clause-suffice g c =
    subst (λ (hauls : List Haul). Suffice c.args.graph.now c.args.group.now hauls) (sym c.deref.ensures.value)
    c.requires.suffice

pub returns : goal.returns
returns g c =
    let names = given_names (option_map (λ n. n.now) c.args.names) in
    let named = c.args.request.now.names in
    let answer = c.in_ok-answer.answer in
    let placed = c.in_ok-placed.placed in
    let write = c.write_answer.ensures in
    written c.args.graph.now c.args.group.now names true named g.W.Write.contents c.args.sink.now
    c.write_answer.new.sink answer.told (with_file_of answer.text.items (Some placed)) c.write_answer.result
    (file_told c.args.graph.now c.args.group.now placed c.outline.result.now names named answer
    c.in_ok-placed.ensures.answer c.in_ok-placed.ensures.valid c.outline.ensures.alike c.in_ok-answer.ensures.answered
    c.in_ok-answer.ensures.lines) write.told write.bytes write.prefix write.faults write.unwritten write.kind
