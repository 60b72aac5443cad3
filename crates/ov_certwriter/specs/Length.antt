-- How long the paths of a certificate are together. Nearly all of its file is their text.
use Rattle.std.specs.Prelude.{ℕ, ◌+◌, List, length}
use Rattle.std.specs.List.{sum_by}
use Rattle.ov_cert.specs.declared.cert.Cert.{Cert}
use Rattle.ov_cert.specs.declared.cert.Cert.TheVariants as cert

-- how many ids these paths have together: the sum of their lengths
abbrev pub ids_on : List (List ℕ) → ℕ
ids_on paths = sum_by length paths

-- how many ids the paths of a certificate have together: those of its pairs and of its fans
abbrev pub path_ids : Cert → ℕ
path_ids (cert.Linked k) = 0
path_ids (cert.Split c) = sum_by (λ e. ids_on e.paths) c.pairs + sum_by (λ e. ids_on e.paths) c.fans
