-- What a certificate that holds tells of failures.
use Rattle.std.specs.Prelude.{◌↔◌, IsTrue}
use Rattle.std.proofs.Common.{◌≡◌, ℕ, ◌+◌, ◌<◌, List, subst, arith, nat_lt}
use Rattle.std.proofs.lemmas.Bool.{lt-ltb, ltb-true}
use Rattle.ov_graph.specs.Links.{LinkGraph}
use Rattle.ov_graph.proofs.EvenTest.Sufficing.{linked_joined}
use Rattle.ov_cert.specs.declared.cert.Cert.{Cert}
use Rattle.ov_cert.specs.declared.cert.Cert.TheVariants as cert
use Rattle.ov_cert.specs.declared.cert.Split.{Split}
use Rattle.ov_cert.specs.Valid.{IsValidForGroup}
use Rattle.ov_cert.specs.Theorems.{IsTrueForGroup, ValidMeans}
use Rattle.example_programs.specs.Withstanding.{Withstands}

-- a group whose members are all linked withstands all failures
pub linked_withstands : (g : LinkGraph) (q : List ℕ) (c : Cert) (k failures : ℕ) → c ≡ cert.Linked k
    → IsValidForGroup g q c → Withstands g q failures
linked_withstands g q c k failures e valid failed few =
    let v : IsValidForGroup g q (cert.Linked k) = subst (IsValidForGroup g q) e valid in
    linked_joined g q v.0.nodes v.2 failed

-- fewer failures than nodes of the cut part nobody
fewer_part_nobody : (g : LinkGraph) (q : List ℕ) (c : Split) (failures : ℕ) → IsTrueForGroup g q (cert.Split c)
    → failures < c.k → Withstands g q failures
fewer_part_nobody g q c failures holds less failed few = holds.no_fewer failed (omega (arith, few, less))

-- as many failures as nodes of the cut part near from far
cut_parts : (g : LinkGraph) (q : List ℕ) (c : Split) (failures : ℕ) → IsTrueForGroup g q (cert.Split c)
    → Withstands g q failures → ¬ (c.k < failures + 1)
cut_parts g q c failures holds stands less =
    let cut = holds.reached in
    let count = cut.count in
    cut.parted (stands c.cut (omega (arith, count, less)) c.near c.far cut.near_survives cut.far_survives)

-- a group with a least cut withstands the failures of fewer nodes, and no others
pub split_withstands : (g : LinkGraph) (q : List ℕ) (c : Cert) (s : Split) (failures : ℕ) → ValidMeans
    → c ≡ cert.Split s → IsValidForGroup g q c → IsTrue (nat_lt failures s.k) ↔ Withstands g q failures
split_withstands g q c s failures means e valid =
    let holds = means g q (cert.Split s) (subst (IsValidForGroup g q) e valid) in
    let stands_less : Withstands g q failures → failures < s.k =
    λ stands. let most = cut_parts g q s failures holds stands in omega (arith, most) in (
      λ less. fewer_part_nobody g q s failures holds (ltb-true failures s.k less),
      λ stands. lt-ltb failures s.k (stands_less stands),
    )
