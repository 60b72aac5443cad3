-- The links follow from the listings.
use Rattle.std.proofs.Common.{◌≡◌, ◌∙◌, ◌↔◌, ◌⊎◌, ℕ, List, ap, arith, length, rules, sym, subst}
use Rattle.ov_ids.specs.Members.{Has, Ordered}
use Rattle.ov_graph.specs.Links.{LinkGraph, Precedes}
use Rattle.ov_dump.specs.Code.Numbering.{AreUpward}
use Rattle.ov_dump.specs.Dumps.{numbers}
use Rattle.ov_dump.proofs.Linking.{both_by_names, either_by_names, either_links, is_graph, of_either, shared_links}
use Rattle.ov_dump.proofs.Linking.{upward_either}
use Rattle.ov_dump.proofs.Shown.{numbered}
use Rattle.ov_dump.proofs.graph_making.graph_of.Goals as goal

pub graph_within-requires-clause-graph : goal.graph_within-requires-clause-graph
graph_within-requires-clause-graph c =
    let names = c.args.numbering.now.names.items in
    let count : c.len.result ≡ length names = search rules in
    let pairs = c.in_ok-pairs.pairs in
    let links = c.in_ok-links.ensures in
    let same = sym c.deref-2.ensures.value in
    is_graph names c.deref.result.now c.deref-2.result.now
    (c.deref.ensures.value ∙ c.in_ok-nodes.ensures ∙ ap numbers count)
    (subst (Ordered Precedes) same links.ascend)
    (subst (AreUpward names) same
    (upward_either names pairs.up.items pairs.down.items c.in_ok-links.links.items c.in_ok-pairs.ensures.up
    c.in_ok-pairs.ensures.down
    (of_either c.args.choice.either pairs.up.items pairs.down.items c.in_ok-links.links.items links.either links.both)))

pub graph_within-requires-clause-few : goal.graph_within-requires-clause-few
graph_within-requires-clause-few c =
    let names = c.args.numbering.now.names.items in
    let few = c.requires.few in
    let count : c.len.result ≡ length names = search rules in
    let e : length c.deref.result.now ≡ length names =
    ap (λ (ns : List ℕ). length ns) (c.deref.ensures.value ∙ c.in_ok-nodes.ensures ∙ ap numbers count)
    ∙ numbered (length names) in omega (arith, few, e)

pub returns-clause-either : goal.returns-clause-either
returns-clause-either c = λ e.
    let names = c.args.numbering.now.names.items in
    let up = c.in_ok-pairs.pairs.up.items in
    let down = c.in_ok-pairs.pairs.down.items in
    let g = c.in_ok-graph.graph in
    let same : g.links ≡ c.in_ok-links.links.items =
    ap (λ (h : LinkGraph). h.links) c.in_ok-graph.ensures ∙ c.deref-2.ensures.value in
    either_by_names names c.args.listings.now up down g c.in_ok-pairs.ensures.lists
    (either_links names up down g c.in_ok-pairs.ensures.up c.in_ok-pairs.ensures.down
    (subst (λ (ls : List (ℕ × ℕ)). (l : ℕ × ℕ) → Has ls l ↔ (Has up l ⊎ Has down l)) (sym same)
    (c.in_ok-links.ensures.either e)))

pub returns-clause-both : goal.returns-clause-both
returns-clause-both c = λ e.
    let names = c.args.numbering.now.names.items in
    let up = c.in_ok-pairs.pairs.up.items in
    let down = c.in_ok-pairs.pairs.down.items in
    let g = c.in_ok-graph.graph in
    let same : g.links ≡ c.in_ok-links.links.items =
    ap (λ (h : LinkGraph). h.links) c.in_ok-graph.ensures ∙ c.deref-2.ensures.value in
    both_by_names names c.args.listings.now up down g c.in_ok-pairs.ensures.lists
    (shared_links names up down g c.in_ok-pairs.ensures.up c.in_ok-pairs.ensures.down
    (subst (λ (ls : List (ℕ × ℕ)). (l : ℕ × ℕ) → Has ls l ↔ (Has up l × Has down l)) (sym same)
    (c.in_ok-links.ensures.both e)))
