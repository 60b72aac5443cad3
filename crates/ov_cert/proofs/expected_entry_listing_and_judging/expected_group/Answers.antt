-- The pairs, and then the fans.
use Rattle.std.proofs.Common.{◌∙◌, ◌++◌, [], ap, ap₂, List, ℕ}
use Rattle.ov_cert.specs.declared.expected_entry_with_place_and_fault.Expected.{Expected}
use Rattle.ov_cert.specs.Entries.{of_pairs, of_fans}
use Rattle.ov_cert.specs.Code.Tests.{pairs_after, expected_pairs}
use Rattle.ov_cert.proofs.EntryOrder.Columns.{expected}
use Rattle.ov_cert.proofs.expected_entry_listing_and_judging.expected_group.Goals as goal

pub returns : goal.returns
returns c =
    let g = c.args.graph.now in
    let q = c.args.group.now in
    let k = c.args.split.now.k in
    let pairs = c.in_ok-add_pairs.ensures ∙ ap (λ (xs : List ℕ). of_pairs 0 (pairs_after g [] xs))
    c.first_members.ensures in (
      expected_pairs g q k,
      expected g q k c.requires.ascends,
      c.in_ok-add_fans.ensures
          ∙ ap₂ (λ (es : List Expected) (js : List ℕ). es ++ of_fans 0 js) pairs c.later_members.ensures,
    )
