-- There is no flaw exactly if the test passes.
use Rattle.std.proofs.Common.{◌∙◌, ap, sym, Some, is_none}
use Rattle.ov_cert.specs.Code.Tests.{is_pair_entry}
use Rattle.ov_cert.specs.Code.Flaws.{pair_entry_flaw}
use Rattle.ov_cert.proofs.PathRules.FlawTests.{pair_entry_none, entry_there, entry_missing}
use Rattle.ov_cert.proofs.entry_judging.pair_flaw.Goals as goal

pub returns-in-Some-clause-right : goal.returns-in-Some-clause-right
returns-in-Some-clause-right c =
    let g = c.args.graph.now in
    let k = c.args.k in
    ap is_none c.flaw_of_pair.ensures ∙ pair_entry_none g k (c.args.i, c.args.j) (Some c.in-Some.entry.now)
    ∙ ap (is_pair_entry g k (c.args.i, c.args.j)) (sym (entry_there c.args.entries.now c.args.place
    c.in-Some.entry.now c.in-Some.ensures.lookup.0 c.in-Some.ensures.lookup.1))

pub returns-in-None-clause-flaw : goal.returns-in-None-clause-flaw
returns-in-None-clause-flaw c = ap (pair_entry_flaw c.args.graph.now c.args.k (c.args.i, c.args.j))
    (sym (entry_missing c.args.entries.now c.args.place c.in-None.ensures.lookup.0))

pub returns-in-None-clause-right : goal.returns-in-None-clause-right
returns-in-None-clause-right c = ap (is_pair_entry c.args.graph.now c.args.k (c.args.i, c.args.j))
    (sym (entry_missing c.args.entries.now c.args.place c.in-None.ensures.lookup.0))
