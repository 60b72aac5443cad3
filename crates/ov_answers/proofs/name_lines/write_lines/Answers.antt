-- A linked answer has no lines; a split has its own.
use Rattle.std.proofs.Common.{[], OnOk, refl, sym, subst, append-nil}
use Rattle.ov_cert.specs.declared.cert.Cert.{Cert}
use Rattle.ov_answers.specs.Lines.{AreNameLines}
use Rattle.ov_answers.specs.Code.Begun.{Gains}
use Rattle.ov_answers.proofs.name_lines.write_lines.Goals as goal

pub returns-in-Linked : goal.returns-in-Linked
returns-in-Linked c =
    let t = c.args.text.now.items in
    subst (λ (d : Cert). Gains (AreNameLines c.args.graph.now d c.args.names.now) t t) (sym c.in-Linked.is)
    ([], refl, sym (append-nil t))

pub returns-in-Split : goal.returns-in-Split
returns-in-Split c =
    subst (λ (d : Cert). OnOk c.write_split.result
    (Gains (AreNameLines c.args.graph.now d c.args.names.now) c.args.text.now.items c.write_split.new.text.items))
    (sym c.in-Split.is) c.write_split.ensures
