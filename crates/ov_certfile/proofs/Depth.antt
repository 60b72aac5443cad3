-- A written object is nested only a few levels deep, so the JSON reader accepts its text.
use Rattle.std.proofs.Common.{ℕ, ◌+◌, ◌≤◌, List, [], ◌∷◌, arith}
use Rattle.serde_json.specs.Data.{Data, depth}
use Rattle.serde_json.specs.Read.{max_depth}
use Rattle.ov_graph.specs.Links.{LinkGraph}
use Rattle.ov_cert.specs.declared.cert.Cert.{Cert}
use Rattle.ov_cert.specs.declared.cert.Cert.TheVariants as cert
use Rattle.ov_cert.specs.declared.cert.PairPaths.{PairPaths}
use Rattle.ov_cert.specs.declared.cert.FanPaths.{FanPaths}
use Rattle.ov_certfile.specs.DataOf.{data_of, data_in, version_for, whole_data, list_data, ids_data, link_data}
use Rattle.ov_certfile.specs.DataOf.{paths_data, pair_data, fan_data}
use Rattle.ov_certfile.specs.declared.version.Version.{Version}
use Rattle.ov_certfile.specs.declared.version.Version.TheVariants.{One, Two, Three}

-- a list of values of depth at most d has depth at most d + 1
list_depth : {X : Type 0} (as_data : X → Data) (d : ℕ) → ((x : X) → depth (as_data x) ≤ d)
    → (xs : List X) → depth (list_data as_data xs) ≤ d + 1
list_depth as_data d h [] = omega arith
list_depth as_data d h (x ∷ xs) = let a = h x in let b = list_depth as_data d h xs in omega (arith, a, b)

ids_depth : (ids : List ℕ) → depth (ids_data ids) ≤ 1
ids_depth = list_depth whole_data 0 (λ n. omega arith)

paths_depth : (ps : List (List ℕ)) → depth (paths_data ps) ≤ 2
paths_depth = list_depth ids_data 1 ids_depth

pair_depth : (p : PairPaths) → depth (pair_data p) ≤ 3
unfolding pair_data
pair_depth p = let a = paths_depth p.paths in omega (arith, a)

fan_depth : (p : FanPaths) → depth (fan_data p) ≤ 3
unfolding fan_data
fan_depth p = let a = paths_depth p.paths in omega (arith, a)

links_depth : (ls : List (ℕ × ℕ)) → depth (list_data link_data ls) ≤ 2
links_depth = list_depth link_data 1 (λ l. omega arith)

-- version 3 differs from version 2 in a number alone
two_depth : (c : Cert) (g : LinkGraph) (q : List ℕ) (m : ℕ) → depth (data_in Two c g q m) ≤ max_depth
unfolding data_in
two_depth (cert.Linked k) g q m =
    let a = links_depth g.links in
    let b = ids_depth g.nodes in
    let i = ids_depth q in
    omega (arith, a, b, i)
two_depth (cert.Split c) g q m =
    let a = links_depth g.links in
    let b = ids_depth g.nodes in
    let d = ids_depth c.cut in
    let e = list_depth fan_data 3 fan_depth c.fans in
    let f = list_depth pair_data 3 pair_depth c.pairs in
    let h = ids_depth c.side in
    let i = ids_depth q in
    omega (arith, a, b, d, e, f, h, i)

pub version_depth : (version : Version) (c : Cert) (g : LinkGraph) (q : List ℕ) (m : ℕ)
    → depth (data_in version c g q m) ≤ max_depth
unfolding data_in
version_depth One (cert.Linked k) g q m =
    let a = links_depth g.links in
    let b = ids_depth g.nodes in
    omega (arith, a, b)
version_depth One (cert.Split c) g q m =
    let a = links_depth g.links in
    let b = ids_depth g.nodes in
    let d = ids_depth c.cut in
    let e = list_depth fan_data 3 fan_depth c.fans in
    let f = list_depth pair_data 3 pair_depth c.pairs in
    let h = ids_depth c.side in
    omega (arith, a, b, d, e, f, h)
version_depth Two c g q m = two_depth c g q m
version_depth Three (cert.Linked k) g q m = two_depth (cert.Linked k) g q m
version_depth Three (cert.Split c) g q m = two_depth (cert.Split c) g q m

pub depth_within : (c : Cert) (g : LinkGraph) (q : List ℕ) (m : ℕ) → depth (data_of c g q m) ≤ max_depth
unfolding data_of
depth_within c g q m = version_depth (version_for g q m) c g q m
