-- Each place of the list is on a path.
use Rattle.std.proofs.Common.{◌≡◌, ℕ, List, subst, arith}
use Rattle.ov_flow.specs.Flow.{places_on}
use Rattle.ov_flow.proofs.FlatPaths.{places_in}
use Rattle.ov_flow.proofs.flat_paths.PlacePaths.places.Goals as goal

pub returns : goal.returns
returns c =
    let flat = c.self.inside.flat in
    let n = places_in flat.items in
    let m = c.len.ensures in
    let o = flat.ok.0 in
    subst (λ (ps : List (List ℕ)). c.len.result ≡ places_on ps) c.self.view_is (omega (arith, n, m, o))
