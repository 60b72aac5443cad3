-- The texts of entries, and how long they are.
use Rattle.std.proofs.Common.{◌≡◌, ◌+◌, ◌≤◌, ◌++◌, codes, decimal, length, refl, ap, arith, length-append}
use Rattle.serde_json.specs.Written.{compact_text}
use Rattle.serde_json.proofs.OnLiterals.{serde_json_on_literals}
use Rattle.ov_cert.specs.declared.cert.PairPaths.{PairPaths}
use Rattle.ov_cert.specs.declared.cert.FanPaths.{FanPaths}
use Rattle.ov_certfile.specs.DataOf.{paths_data, pair_data, fan_data}
use Rattle.ov_certwriter.specs.Code.Blocks.{texts_room, entry_room}

pub pair_text : (p : PairPaths) → codes "{\"i\":" ++ (decimal p.i ++ (codes ",\"j\":" ++ (decimal p.j
    ++ (codes ",\"paths\":" ++ (compact_text (paths_data p.paths) ++ codes "}"))))) ≡ compact_text (pair_data p)
unfolding pair_data serde_json_on_literals
pair_text p = refl

pub fan_text : (p : FanPaths) → codes "{\"j\":" ++ (decimal p.j
    ++ (codes ",\"paths\":" ++ (compact_text (paths_data p.paths) ++ codes "}"))) ≡ compact_text (fan_data p)
unfolding fan_data serde_json_on_literals
fan_text p = refl

pub pair_short : (p : PairPaths) → length (decimal p.i) ≤ 10 → length (decimal p.j) ≤ 10
    → length (compact_text (paths_data p.paths)) ≤ 2 + texts_room p.paths
    → length (compact_text (pair_data p)) + 1 ≤ entry_room p.paths
pair_short p i j h =
    let paths = compact_text (paths_data p.paths) in
    let third = codes ",\"paths\":" ++ (paths ++ codes "}") in
    let second = codes ",\"j\":" ++ (decimal p.j ++ third) in
    omega (
      arith,
      i,
      j,
      h,
      ap length (pair_text p),
      length-append (codes "{\"i\":") (decimal p.i ++ second),
      length-append (decimal p.i) second,
      length-append (codes ",\"j\":") (decimal p.j ++ third),
      length-append (decimal p.j) third,
      length-append (codes ",\"paths\":") (paths ++ codes "}"),
      length-append paths (codes "}"),
    )

pub fan_short : (p : FanPaths) → length (decimal p.j) ≤ 10
    → length (compact_text (paths_data p.paths)) ≤ 2 + texts_room p.paths
    → length (compact_text (fan_data p)) + 1 ≤ entry_room p.paths
fan_short p j h =
    let paths = compact_text (paths_data p.paths) in
    let second = codes ",\"paths\":" ++ (paths ++ codes "}") in
    omega (
      arith,
      j,
      h,
      ap length (fan_text p),
      length-append (codes "{\"j\":") (decimal p.j ++ second),
      length-append (decimal p.j) second,
      length-append (codes ",\"paths\":") (paths ++ codes "}"),
      length-append paths (codes "}"),
    )
