-- What follows from a verdict by many threads.
use Rattle.std.proofs.Common.{◌≡◌, ◌≢◌, ◌↔◌, ℕ, List, Some, None, Result, Ok, Err, IsOk, OnOk, refl}
use Rattle.ov_graph.specs.Links.{LinkGraph, IsGraph}
use Rattle.ov_graph.specs.Joined.{FewestForGroup}
use Rattle.ov_cert.specs.declared.cert.Cert.{Cert}
use Rattle.ov_cert.specs.Valid.{IsValidForGroup, k_of}
use Rattle.ov_cert.specs.Verdict.{JudgedForGroup}
use Rattle.ov_cert.proofs.Validity.Exact.{one_verdict, fewest}
use Rattle.ov_check.specs.Parallel.{SaysVerdict}
use Rattle.ov_check.specs.declared.check_or_memory_fault.ParallelFault.{ParallelFault}
use Rattle.ov_check.specs.declared.check_or_memory_fault.ParallelFault.TheVariants.{Check, OutOfMemory}

module _ (g : LinkGraph) (q : List ℕ) (c : Cert) where
  -- the certificate is valid exactly where the verdict has no fault
  pub valid_where_ok : IsGraph g → (result : Result (Unit {0}) ParallelFault)
      → SaysVerdict (JudgedForGroup g q c) result → result ≢ Err OutOfMemory → IsOk result ↔ IsValidForGroup g q c
  valid_where_ok is (Ok u) judged other = ((λ ok. judged), (λ v. refl))
  valid_where_ok is (Err (Check fault)) judged other = (
    (λ ok. absurd cc),
    (λ v. let e : Some fault ≡ None = one_verdict g q c is (Some fault) None judged v in absurd cc),
  )
  valid_where_ok is (Err OutOfMemory) judged other = absurd (other refl)

  -- the number of a certificate without fault is the fewest
  pub fewest_where_ok : (result : Result (Unit {0}) ParallelFault) → SaysVerdict (JudgedForGroup g q c) result
      → OnOk result (FewestForGroup g q (k_of c))
  fewest_where_ok (Ok u) judged = fewest g q c judged
  fewest_where_ok (Err fault) judged = tt
