-- The line of an outline is that of the answer.
use Rattle.std.proofs.Common.{option_map}
use Rattle.ov_answers.specs.Code.GivenNames.{given_names}
use Rattle.ov_answers.proofs.OfGraph.{outline_told}
use Rattle.ov_answers.proofs.answer_making.answer_without_file.Goals as goal

pub returns-in-Ok : goal.returns-in-Ok
returns-in-Ok g c =
    outline_told c.args.graph.now c.args.group.now c.in-Ok.outline
    (given_names (option_map (λ n. n.now) c.args.names)) c.args.request.now.names c.begun_answer.result
    c.in-Ok.ensures.outlined.answer c.begun_answer.ensures.answered c.begun_answer.ensures.lines
