-- The entry of an expected pair, and of an expected fan: its test and its flaw are equivalent to the relations.
use Rattle.std.proofs.Common.{◌∙◌, slice_get, List, ap}
use Rattle.ov_cert.specs.declared.cert.PairPaths.{PairPaths}
use Rattle.ov_cert.specs.declared.cert.FanPaths.{FanPaths}
use Rattle.ov_cert.specs.Code.Tests.{is_pair_entry, is_fan_entry}
use Rattle.ov_cert.specs.Code.Flaws.{pair_entry_flaw, fan_entry_flaw}
use Rattle.ov_cert.proofs.EntryOrder.Listed.{pair_at, fan_at, right_if_none, flaw_found}
use Rattle.ov_cert.proofs.expected_entry_listing_and_judging.entry_flaw.Goals as goal

pub pair_flaw-requires-clause-i : goal.pair_flaw-requires-clause-i
pair_flaw-requires-clause-i c =
    (pair_at c.args.graph.now c.args.group.now c.args.split.now c.args.entry c.in-Pair.at c.in-Pair.i c.in-Pair.j
    c.requires.group c.requires.expected c.in-Pair.is).i_node

pub pair_flaw-requires-clause-j : goal.pair_flaw-requires-clause-j
pair_flaw-requires-clause-j c =
    (pair_at c.args.graph.now c.args.group.now c.args.split.now c.args.entry c.in-Pair.at c.in-Pair.i c.in-Pair.j
    c.requires.group c.requires.expected c.in-Pair.is).j_node

pub pair_flaw-requires-clause-differ : goal.pair_flaw-requires-clause-differ
pair_flaw-requires-clause-differ c =
    (pair_at c.args.graph.now c.args.group.now c.args.split.now c.args.entry c.in-Pair.at c.in-Pair.i c.in-Pair.j
    c.requires.group c.requires.expected c.in-Pair.is).differ

pub fan_flaw-requires-clause-j : goal.fan_flaw-requires-clause-j
fan_flaw-requires-clause-j c =
    (fan_at c.args.graph.now c.args.group.now c.args.split.now c.args.entry c.in-Fan.at c.in-Fan.j c.requires.group
    c.requires.expected c.in-Fan.is).node

pub returns-in-Pair-clause-right : goal.returns-in-Pair-clause-right
returns-in-Pair-clause-right c =
    let g = c.args.graph.now in
    let k = c.args.split.now.k in
    let at = c.in-Pair.at in
    right_if_none _ _ (c.pair_flaw.ensures.right
    ∙ ap (λ (es : List PairPaths). is_pair_entry g k (c.in-Pair.i, c.in-Pair.j) (slice_get es at)) c.as_slice.ensures)
    (pair_at g c.args.group.now c.args.split.now c.args.entry at c.in-Pair.i c.in-Pair.j c.requires.group
    c.requires.expected c.in-Pair.is).tested

pub returns-in-Pair-clause-flaw : goal.returns-in-Pair-clause-flaw
returns-in-Pair-clause-flaw c =
    let g = c.args.graph.now in
    let k = c.args.split.now.k in
    let at = c.in-Pair.at in
    flaw_found _ _ (c.pair_flaw.ensures.flaw
    ∙ ap (λ (es : List PairPaths). pair_entry_flaw g k (c.in-Pair.i, c.in-Pair.j) (slice_get es at)) c.as_slice.ensures)
    (pair_at g c.args.group.now c.args.split.now c.args.entry at c.in-Pair.i c.in-Pair.j c.requires.group
    c.requires.expected c.in-Pair.is).flawed

pub returns-in-Fan-clause-right : goal.returns-in-Fan-clause-right
returns-in-Fan-clause-right c =
    let g = c.args.graph.now in
    let q = c.args.group.now in
    let k = c.args.split.now.k in
    let at = c.in-Fan.at in
    right_if_none _ _ (c.fan_flaw.ensures.right
    ∙ ap (λ (es : List FanPaths). is_fan_entry g q k c.in-Fan.j (slice_get es at)) c.as_slice-in-Fan.ensures)
    (fan_at g q c.args.split.now c.args.entry at c.in-Fan.j c.requires.group c.requires.expected c.in-Fan.is).tested

pub returns-in-Fan-clause-flaw : goal.returns-in-Fan-clause-flaw
returns-in-Fan-clause-flaw c =
    let g = c.args.graph.now in
    let q = c.args.group.now in
    let k = c.args.split.now.k in
    let at = c.in-Fan.at in
    flaw_found _ _ (c.fan_flaw.ensures.flaw
    ∙ ap (λ (es : List FanPaths). fan_entry_flaw g q k c.in-Fan.j (slice_get es at)) c.as_slice-in-Fan.ensures)
    (fan_at g q c.args.split.now c.args.entry at c.in-Fan.j c.requires.group c.requires.expected c.in-Fan.is).flawed
