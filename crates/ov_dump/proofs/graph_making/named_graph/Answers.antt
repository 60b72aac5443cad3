-- What was made is the graph that follows.
use Rattle.std.proofs.Common.{◌∙◌, ◌↔◌, ℕ, List, ap, arith, length, subst, sym}
use Rattle.ov_ids.specs.Members.{Has, Ordered}
use Rattle.ov_dump.specs.Dumps.{IsGraphOf, IsTaken}
use Rattle.ov_dump.specs.Names.{ComesBefore}
use Rattle.ov_dump.proofs.Linking.{follows_dump}
use Rattle.ov_dump.proofs.Shown.{numbered}
use Rattle.ov_dump.proofs.graph_making.named_graph.Goals as goal

pub returns-clause-graph : goal.returns-clause-graph
returns-clause-graph c =
    let choice = c.args.choice in
    let d = c.args.dump.now in
    let g = c.in_ok-graph.graph in
    let n = c.in_ok-numbering.numbering in
    let made = c.in_ok-graph.ensures in
    let same = sym c.deref.ensures.value in
    subst (λ (ns : List (List ℕ)). IsGraphOf choice d g ns) (sym c.new-names.ensures)
    (follows_dump choice d g c.deref.result.now n.names.items c.as_slice-listings.result.now c.as_slice-listings.ensures
    (subst (Ordered ComesBefore) same c.in_ok-taken.ensures.ascend)
    (subst (λ (ns : List (List ℕ)). (n : List ℕ) → Has ns n ↔ IsTaken choice d n)
    same c.in_ok-taken.ensures.taken)
    c.in_ok-numbering.ensures.numbered made.graph made.nodes made.either made.both)

pub returns-clause-limit : goal.returns-clause-limit
returns-clause-limit c =
    let names = c.in_ok-numbering.numbering.names.items in
    let few = c.in_ok-numbering.ensures.few in
    let limit = c.in_ok-taken.ensures.few in
    let same = ap (λ (ns : List (List ℕ)). length ns) c.deref.ensures.value in
    let e = ap (λ (ns : List ℕ). length ns) c.in_ok-graph.ensures.nodes ∙ numbered (length names) in
    omega (arith, few, limit, same, e)
