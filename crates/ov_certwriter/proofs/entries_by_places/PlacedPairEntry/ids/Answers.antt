-- The paths by ids have one id more each than those by places.
use Rattle.std.proofs.Common.{◌≡◌, ◌-◌, ◌^◌, map, min, Some, length, ap, subst, arith, ◌∙◌}
use Rattle.std.proofs.lemmas.List.{length-map}
use Rattle.ov_graph.specs.Paths.{node_at}
use Rattle.ov_flow.specs.Flow.{ended_by}
use Rattle.ov_cert.specs.declared.cert.PairPaths.{PairPaths}
use Rattle.ov_certwriter.specs.Length.{ids_on}
use Rattle.ov_certwriter.proofs.PathTexts.{ids_counted}
use Rattle.ov_certwriter.proofs.entries_by_places.PlacedPairEntry.ids.Goals as goal

pub returns : goal.returns
returns c =
    let i = c.self.inside in
    let is = ids_counted i.graph.now (Some i.j) i.paths.now in
    let count = ap (λ (e : PairPaths). length e.paths) c.self.view_is ∙ c.requires in
    let same = length-map i.paths.now (λ path. ended_by (Some i.j) (map (node_at i.graph.now) path)) in
    let places = c.places.ensures in
    let sum = c.saturating_add.ensures in
    subst (λ (e : PairPaths). c.saturating_add.result ≡ min (ids_on e.paths) (2 ^ 64 - 1)) c.self.view_is
    (omega (arith, is, count, same, places, sum))
