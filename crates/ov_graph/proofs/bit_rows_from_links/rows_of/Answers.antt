-- Rows that are all empty.
use Rattle.std.proofs.Common.{◌∙◌, ℕ, [], List, sym, subst, length}
use Rattle.std.proofs.lemmas.List.{length-replicate}
use Rattle.std.specs.List.{each_same}
use Rattle.ov_graph.specs.declared.bit_rows.TheConstants.{EMPTY}
use Rattle.ov_graph.specs.Code.Kept.{IsMarked}
use Rattle.ov_graph.proofs.BitRows.Bits.{empty_bit}
use Rattle.ov_graph.proofs.BitRows.Marked.{none_marked, empty_rows}
use Rattle.ov_graph.proofs.bit_rows_from_links.rows_of.Goals as goal

pub mark_all-requires-clause-none : goal.mark_all-requires-clause-none
mark_all-requires-clause-none c =
    let nodes = c.args.nodes.now in
    let e = c.deref_mut.ensures.value ∙ c.in_ok-rows.ensures.items_if_clones_equal
    (λ y same. each_same EMPTY y same.whole) in
    subst (λ (rows : List (List ℕ)). IsMarked nodes [] rows) (sym e)
    (none_marked nodes _ (length-replicate (length nodes) EMPTY) (empty_rows (length nodes) EMPTY empty_bit))
