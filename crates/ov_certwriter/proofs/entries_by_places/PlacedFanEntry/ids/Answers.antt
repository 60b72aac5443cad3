-- The paths by ids are as long as those by places.
use Rattle.std.proofs.Common.{◌≡◌, ◌-◌, ◌^◌, min, None, subst, arith}
use Rattle.ov_cert.specs.declared.cert.FanPaths.{FanPaths}
use Rattle.ov_certwriter.specs.Length.{ids_on}
use Rattle.ov_certwriter.proofs.PathTexts.{ids_counted}
use Rattle.ov_certwriter.proofs.entries_by_places.PlacedFanEntry.ids.Goals as goal

pub returns : goal.returns
returns c =
    let i = c.self.inside in
    let is = ids_counted i.graph.now None i.paths.now in
    let places = c.places.ensures in
    subst (λ (e : FanPaths). c.places.result ≡ min (ids_on e.paths) (2 ^ 64 - 1)) c.self.view_is
    (omega (arith, is, places))
