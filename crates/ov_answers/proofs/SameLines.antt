-- Certificates that agree in everything but their paths have the same line.
use Rattle.std.proofs.Common.{◌≡◌, ℕ, List, ◌++◌, refl, ap}
use Rattle.ov_graph.specs.Links.{LinkGraph}
use Rattle.ov_cert.specs.declared.cert.Cert.{Cert}
use Rattle.ov_cert.specs.declared.cert.Cert.TheVariants as cert
use Rattle.ov_cert.specs.declared.cert.Split.{Split}
use Rattle.ov_certfile.specs.CertLine.{short_text, group_text, cert_text}
use Rattle.ov_even.specs.Theorems.{SameSplit, AreAlike}
use Rattle.ov_run_meaning.specs.Printed.{report_line}

same_split : (c d : Split) → SameSplit c d → short_text (cert.Split c) ≡ short_text (cert.Split d)
unfolding short_text
same_split c d same = rw (same.k, same.cut, same.near, same.far, same.side) refl

same_short : (c d : Cert) → AreAlike c d → short_text c ≡ short_text d
same_short (cert.Linked k) (cert.Linked l) same = ap (λ n. short_text (cert.Linked n)) same
same_short (cert.Split c) (cert.Split d) same = same_split c d same
same_short (cert.Linked k) (cert.Split d) same = absurd same
same_short (cert.Split c) (cert.Linked l) same = absurd same

same_claim :
    (g : LinkGraph) (q : List ℕ) (c d : Cert) → AreAlike c d → cert_text c g q ≡ cert_text d g q
unfolding cert_text
same_claim g q c d same = ap (λ text. text ++ group_text g.nodes q) (same_short c d same)

pub same_line :
    (m : ℕ) (g : LinkGraph) (q : List ℕ) (c d : Cert) → AreAlike c d → report_line m c g q ≡ report_line m d g q
unfolding report_line
same_line m g q c d same = rw (same_claim g q c d same) refl
