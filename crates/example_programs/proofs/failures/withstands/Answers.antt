-- The certificate is valid, and so it tells what the group withstands.
use Rattle.std.proofs.Common.{◌∙◌, sym, refl}
use Rattle.example_programs.proofs.Withstanding.{linked_withstands, split_withstands}
use Rattle.example_programs.proofs.failures.withstands.Goals as goal

pub returns-in-Linked : goal.returns-in-Linked
returns-in-Linked c =
    let s = c.args.checked.now in
    let same = sym c.cert.ensures.cert ∙ c.in-Linked.is in (
      λ _. linked_withstands s.graph s.members s.cert c.in-Linked.k c.args.failures same c.cert.ensures.valid,
      λ _. refl,
    )

pub returns-in-Split : goal.returns-in-Split
returns-in-Split c =
    let s = c.args.checked.now in
    let same = sym c.cert.ensures.cert ∙ c.in-Split.is in
    split_withstands s.graph s.members s.cert c.in-Split.split c.args.failures c.valid_means.ensures same
    c.cert.ensures.valid
