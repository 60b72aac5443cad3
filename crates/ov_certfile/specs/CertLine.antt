-- The text that is printed of a certificate.
use Rattle.std.specs.Prelude.{ℕ, List, [], ◌++◌, codes, decimal, if◌then◌else◌}
use Rattle.ov_ids.specs.Text.{ids_text}
use Rattle.ov_graph.specs.Links.{LinkGraph}
use Rattle.ov_cert.specs.declared.cert.Cert.{Cert}
use Rattle.ov_cert.specs.declared.cert.Cert.TheVariants as cert
use Rattle.ov_certfile.specs.Common.{are_same}

-- the text of a certificate without its paths and its group
unfoldable pub short_text : Cert → List ℕ
short_text (cert.Linked k) = codes "linked k " ++ decimal k
short_text (cert.Split c) =
    codes "split k " ++ (decimal c.k
    ++ (codes " cut " ++ (ids_text c.cut
    ++ (codes " near " ++ (decimal c.near
    ++ (codes " far " ++ (decimal c.far
    ++ (codes " side " ++ ids_text c.side))))))))

-- the text of the group; empty if the group is all nodes
abbrev pub group_text : List ℕ → List ℕ → List ℕ
group_text nodes group = if are_same group nodes then [] else codes " group " ++ ids_text group

-- the text of a certificate and its group, without the paths
unfoldable pub cert_text : Cert → LinkGraph → List ℕ → List ℕ
cert_text c g group = short_text c ++ group_text g.nodes group
