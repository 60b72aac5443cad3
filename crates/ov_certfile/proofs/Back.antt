-- The value written for an entry reads back.
use Rattle.std.proofs.Common.{◌≡◌, Some, refl}
use Rattle.ov_cert.specs.declared.cert.PairPaths.{PairPaths}
use Rattle.ov_cert.specs.declared.cert.FanPaths.{FanPaths}
use Rattle.serde_json.proofs.OnLiterals.{serde_json_on_literals}
use Rattle.ov_certfile.specs.Forms.{id_in, paths_in, pair_in, fan_in}
use Rattle.ov_certfile.specs.DataOf.{whole_data, paths_data, pair_data, fan_data}

pub pair_back : (p : PairPaths) → id_in (whole_data p.i) ≡ Some p.i → id_in (whole_data p.j) ≡ Some p.j
    → paths_in (paths_data p.paths) ≡ Some p.paths → pair_in (pair_data p) ≡ Some p
unfolding pair_in pair_data serde_json_on_literals
pair_back p hi hj hp = rw (hi, hj, hp) refl

pub fan_back : (p : FanPaths) → id_in (whole_data p.j) ≡ Some p.j → paths_in (paths_data p.paths) ≡ Some p.paths
    → fan_in (fan_data p) ≡ Some p
unfolding fan_in fan_data serde_json_on_literals
fan_back p hj hp = rw (hj, hp) refl
