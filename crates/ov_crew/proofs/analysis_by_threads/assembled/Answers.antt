-- The paths that were found are named.
use Rattle.std.proofs.Common.{◌≡◌, ◌∙◌, map, sym, ap, subst}
use Rattle.ov_fans.specs.declared.piece.Piece.{Piece}
use Rattle.ov_even.specs.Naming.{AreWanted, HaveAskedPaths, named_of}
use Rattle.ov_even.specs.declared.paths_by_ids.NamedPaths.{NamedPaths}
use Rattle.ov_even.proofs.AnalysisSteps.Entered.{same_pieces, all_asked}
use Rattle.ov_crew.proofs.analysis_by_threads.assembled.Goals as goal

pub assemble_named-requires-clause-wanted : goal.assemble_named-requires-clause-wanted
assemble_named-requires-clause-wanted g c =
    let x = c.args.graph.now in
    let q = c.args.group.now in
    let found = c.in_ok-found.found.items in
    let named = c.in_ok-named.named.items in
    let is : named ≡ map (named_of x q) found = rw (← c.deref.ensures.value) c.in_ok-named.ensures in
    let piece : NamedPaths → Piece = λ n. n.piece in
    subst (AreWanted x q) (sym (ap (map piece) is ∙ same_pieces x q found)) c.in_ok-found.ensures.wanted

pub assemble_named-requires-clause-asked : goal.assemble_named-requires-clause-asked
assemble_named-requires-clause-asked g c =
    let x = c.args.graph.now in
    let q = c.args.group.now in
    let found = c.in_ok-found.found.items in
    let named = c.in_ok-named.named.items in
    let is : named ≡ map (named_of x q) found = rw (← c.deref.ensures.value) c.in_ok-named.ensures in
    subst (HaveAskedPaths x q) (sym is) (all_asked x q found c.in_ok-found.ensures.found)
