-- What is at a place of the expected entries is expected.
use Rattle.std.proofs.Common.{◌≡◌, List, slice_get, Some, refl, subst}
use Rattle.std.proofs.lemmas.Option.{slice_get_read}
use Rattle.ov_cert.specs.declared.expected_entry_with_place_and_fault.Expected.{Expected}
use Rattle.ov_check.proofs.Placed.{each_expected}
use Rattle.ov_check_reasons.proofs.wrong_entries.flawed_entry.Goals as goal

pub entry_flaw-requires-clause-expected : goal.entry_flaw-requires-clause-expected
entry_flaw-requires-clause-expected c =
    let are = c.requires.expected in
    let x = c.entry-item.result in
    let p = c.loop-entry.entry-index in
    let there = slice_get_read c.args.entries.now _ p x refl c.loop-entry-test.true c.entry-item.is in
    each_expected c.args.graph.now c.args.group.now c.args.split.now are.0 are.1 p x
    (subst (λ (es : List Expected). slice_get es p ≡ Some x) are.2 there)
