-- Each thread names the paths of its part.
use Rattle.std.proofs.Common.{◌≡◌, ◌∙◌, ◌*◌, ◌<◌, List, length, map, sym, subst}
use Rattle.std.specs.Prelude.{IfOk}
use Rattle.std.proofs.lemmas.Option.{same_Some, slice_get_within, slice_get-get_or}
use Rattle.ov_even.specs.Naming.{named_of}
use Rattle.ov_even.specs.declared.paths_by_ids.NamedPaths.{NamedPaths}
use Rattle.ov_crew.specs.Code.Parts.{Part}
use Rattle.ov_crew.proofs.Joining.{has_part, map_part}
use Rattle.ov_crew.proofs.parallel_paths_by_ids.name_parts.Goals as goal

pub map_chunks-requires-clause-accepts : goal.map_chunks-requires-clause-accepts
map_chunks-requires-clause-accepts g c κs within start p chunk f there =
    c.requires.found f (has_part c.args.found.now p.now c.args.size start f chunk.value there)

pub returns-clause-parts : goal.returns-clause-parts
returns-clause-parts g c n part at =
    let parts = c.in_ok-map_chunks.field-0.items in
    let low : n < length parts = slice_get_within parts n part at in
    let gives = (c.in_ok-map_chunks.ensures.each n part low).1 in
    let name = named_of c.args.graph.now c.args.group.now in
    let is = map_part name c.args.found.now gives.argument.now c.args.size (n * c.args.size) gives.argument_is.value in
    let same = same_Some _ _ (sym (slice_get-get_or parts n part low) ∙ at) in
    let named = subst (λ (r : Part). IfOk r (λ v. v.items ≡ map name gives.argument.now)) same gives.call in
    subst (λ (xs : List NamedPaths). IfOk part (λ v. v.items ≡ xs)) is named
