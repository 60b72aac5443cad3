-- What stands at a place is expected.
use Rattle.std.proofs.Common.{sym, subst}
use Rattle.ov_cert.specs.Entries.{IsExpected}
use Rattle.ov_check.proofs.Placed.{expected_at}
use Rattle.ov_test_files.proofs.certificates.entries.verdict_of_at.Goals as goal

pub judge_group_entry-requires-clause-expected : goal.judge_group_entry-requires-clause-expected
judge_group_entry-requires-clause-expected c =
    let graph = c.args.graph.now in
    let group = c.args.group.now in
    let split = c.args.split.now in
    let entry = c.index-entries-place.result in
    subst (IsExpected graph group split.k) (sym c.index-entries-place.is)
    (expected_at graph group split c.requires.frame c.args.entries.now c.requires.expected c.args.place entry
    c.requires.place)
