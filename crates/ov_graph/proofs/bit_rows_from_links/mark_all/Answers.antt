-- One more link is marked.
use Rattle.std.proofs.Common.{◌∙◌, List, ℕ, ◌∷◌, [], ◌++◌, ap, sym, subst, take, arith}
use Rattle.std.proofs.lemmas.List.{take_more}
use Rattle.ov_ids.specs.Members.{Has}
use Rattle.ov_ids.proofs.Members.{has_place}
use Rattle.ov_graph.specs.Code.Kept.{IsMarked}
use Rattle.ov_graph.proofs.BitRows.Marked.{more_marked}
use Rattle.ov_graph.proofs.bit_rows_from_links.mark_all.Goals as goal

pub place_in-p-requires-clause-node : goal.place_in-p-requires-clause-node
place_in-p-requires-clause-node c =
    let links = c.args.links.now in
    let l = c.link-item.result in
    (c.requires.graph.joins l
    (subst (Has links) (sym c.link-item.is) (has_place links c.loop-link.link-index l c.loop-link-test.true))).1

pub place_in-q-requires-clause-node : goal.place_in-q-requires-clause-node
place_in-q-requires-clause-node c =
    let links = c.args.links.now in
    let l = c.link-item.result in
    (c.requires.graph.joins l
    (subst (Has links) (sym c.link-item.is) (has_place links c.loop-link.link-index l c.loop-link-test.true))).2

pub mark-requires-clause-bit : goal.mark-requires-clause-bit
mark-requires-clause-bit c = let q = c.place_in-q.ensures.below in let few = c.requires.few in omega (arith, q, few)

pub mark-requires-in-loop-link-clause-bit : goal.mark-requires-in-loop-link-clause-bit
mark-requires-in-loop-link-clause-bit c = let p = c.place_in-p.ensures.below in let few = c.requires.few in
    omega (arith, p, few)

pub loop-link-preserved : goal.loop-link-preserved
loop-link-preserved c =
    let nodes = c.args.nodes.now in
    let links = c.args.links.now in
    let l = c.link-item.result in
    let i = c.loop-link.link-index in
    let e = take_more links i l c.loop-link-test.true
    ∙ ap (λ (m : ℕ × ℕ). take i links ++ m ∷ []) (sym c.link-item.is) in
    let p = c.place_in-p.ensures in
    let q = c.place_in-q.ensures in
    let m = more_marked nodes (take i links) c.loop-link.rows c.mark.new.rows c.mark-in-loop-link.new.rows
    c.place_in-p.result c.place_in-q.result l.0 l.1 c.requires.graph.nodes_ascend p.below q.below p.there q.there
    (c.mark-in-loop-link.auto.rows ∙ c.mark.auto.rows)
    c.mark.ensures c.mark-in-loop-link.ensures c.loop-link.invariant in
    subst (λ (ls : List (ℕ × ℕ)). IsMarked nodes ls c.mark-in-loop-link.new.rows) (sym e) m
