-- The paths that were found are named.
use Rattle.std.proofs.Common.{◌≡◌, ◌∙◌, map, sym, ap, subst}
use Rattle.ov_fans.specs.declared.piece.Piece.{Piece}
use Rattle.ov_even.specs.Naming.{AreWanted, HaveAskedPaths, named_of}
use Rattle.ov_even.specs.declared.paths_by_ids.NamedPaths.{NamedPaths}
use Rattle.ov_even.proofs.AnalysisSteps.Entered.{same_pieces, all_asked}
use Rattle.ov_even.proofs.assembly.assemble_group.Goals as goal

pub assemble_named-requires-clause-wanted : goal.assemble_named-requires-clause-wanted
assemble_named-requires-clause-wanted c =
    let g = c.args.graph.now in
    let q = c.args.group.now in
    let found = c.in_ok-found.found.items in
    let named = c.in_ok-named.named.items in
    let is : named ≡ map (named_of g q) found = rw (← c.deref.ensures.value) c.in_ok-named.ensures in
    let piece : NamedPaths → Piece = λ n. n.piece in
    subst (AreWanted g q) (sym (ap (map piece) is ∙ same_pieces g q found)) c.in_ok-found.ensures.wanted

pub assemble_named-requires-clause-asked : goal.assemble_named-requires-clause-asked
assemble_named-requires-clause-asked c =
    let g = c.args.graph.now in
    let q = c.args.group.now in
    let found = c.in_ok-found.found.items in
    let named = c.in_ok-named.named.items in
    let is : named ≡ map (named_of g q) found = rw (← c.deref.ensures.value) c.in_ok-named.ensures in
    subst (HaveAskedPaths g q) (sym is) (all_asked g q found c.in_ok-found.ensures.found)
