-- Without names, and if no node is gone, it is the analysis.
use Rattle.std.proofs.Common.{Bool, false, option_map, subst, List, ℕ}
use Rattle.ov_answers.specs.Telling.{IsToldOf}
use Rattle.ov_answers.proofs.Tellings.{plain}
use Rattle.ov_answers.proofs.graph_file_analysis_with_names.analyse_told.Goals as goal

pub returns-clause-plain : goal.returns-clause-plain
returns-clause-plain g c e none =
    let group = option_map (λ ids. ids.now) c.args.request.now.group in
    let certificate = c.args.request.now.certificate in
    plain c.args.request.now.limit c.args.bytes.now g.W.Write.contents c.args.sink.now c.tell.new.sink group
    certificate c.tell.result
    (subst (λ (gone : List ℕ). IsToldOf c.args.request.now.limit c.args.bytes.now g.W.Write.contents
    c.args.sink.now gone group certificate
    false c.tell.new.sink c.tell.result) none
    (subst (λ (named : Bool). IsToldOf c.args.request.now.limit c.args.bytes.now g.W.Write.contents
    c.args.sink.now c.args.request.now.gone.now
    group certificate named c.tell.new.sink c.tell.result) e c.tell.ensures.told))
