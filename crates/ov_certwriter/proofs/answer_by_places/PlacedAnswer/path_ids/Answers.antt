-- The ids of the pairs and those of the fans.
use Rattle.std.proofs.Common.{◌≡◌, ◌-◌, ◌^◌, min, List, sym, subst, arith}
use Rattle.std.specs.List.{sum_by}
use Rattle.ov_cert.specs.State.{CheckedState}
use Rattle.ov_cert.specs.declared.cert.Cert.{Cert}
use Rattle.ov_cert.specs.declared.cert.PairPaths.{PairPaths}
use Rattle.ov_cert.specs.declared.cert.FanPaths.{FanPaths}
use Rattle.ov_certwriter.specs.Length.{ids_on, path_ids}
use Rattle.ov_certwriter.specs.Code.Placed.{cert_with}
use Rattle.ov_certwriter.proofs.answer_by_places.PlacedAnswer.path_ids.Goals as goal

pub returns : goal.returns
returns c =
    let pairs = c.self.inside.entries.pairs.items in
    let fans = c.self.inside.entries.fans.items in
    let n = c.saturating_add.result in
    let all = c.saturating_add.ensures in
    let of_pairs = subst (λ (es : List PairPaths). c.ids_of-pairs.result
    ≡ min (sum_by (λ e. ids_on e.paths) es) (2 ^ 64 - 1)) c.as_slice.ensures.value c.ids_of-pairs.ensures in
    let of_fans = subst (λ (es : List FanPaths). c.ids_of-fans.result
    ≡ min (sum_by (λ e. ids_on e.paths) es) (2 ^ 64 - 1)) c.as_slice-2.ensures.value c.ids_of-fans.ensures in
    subst (λ (s : CheckedState). n ≡ min (path_ids s.cert) (2 ^ 64 - 1)) c.self.view_is
    (subst (λ (o : Cert). n ≡ min (path_ids (cert_with o pairs fans)) (2 ^ 64 - 1)) (sym c.in-Split.is)
    (omega (arith, all, of_pairs, of_fans)))
