-- The entries that a certificate must have: one for each expected pair, and one for each expected fan.
use Rattle.std.specs.Prelude.{◌≡◌, ◌++◌, ℕ, suc, List, [], ◌∷◌, slice_get, Some}
use Rattle.ov_graph.specs.Links.{LinkGraph}
use Rattle.ov_graph.specs.Even.{later_members}
use Rattle.ov_cert.specs.declared.cert.Split.{Split}
use Rattle.ov_cert.specs.declared.expected_entry_with_place_and_fault.Expected.{Expected}
use Rattle.ov_cert.specs.declared.expected_entry_with_place_and_fault.Expected.TheVariants.{Pair, Fan}
use Rattle.ov_cert.specs.declared.fault.CheckFault.{CheckFault}
use Rattle.ov_cert.specs.declared.fault.CheckFault.TheVariants as fault
use Rattle.ov_cert.specs.Valid.{AreUnlinkedPairs}
use Rattle.ov_cert.specs.Verdict.{HoldsPair, HoldsFan}

-- the expected entries of these pairs; the first pair has this place, and each next pair has the next place
abbrev pub of_pairs : ℕ → List (ℕ × ℕ) → List Expected
of_pairs place [] = []
of_pairs place (p ∷ ps) = Pair place p.0 p.1 ∷ of_pairs (suc place) ps

-- the expected fans of these members; the first member has this place, and each next member has the next place
abbrev pub of_fans : ℕ → List ℕ → List Expected
of_fans place [] = []
of_fans place (j ∷ js) = Fan place j ∷ of_fans (suc place) js

-- these are the expected entries, in order. First come the unlinked pairs among the first k members, then the fans of
-- the later members. Places are counted from 0, separately for pairs and for fans
abbrev pub AreExpected : LinkGraph → List ℕ → ℕ → List Expected → Type 0
AreExpected g q k entries =
    (pairs : List (ℕ × ℕ)) × AreUnlinkedPairs g q k pairs × (entries ≡ of_pairs 0 pairs ++ of_fans 0
    (later_members q k))

-- the entry is one of the expected entries
abbrev pub IsExpected : LinkGraph → List ℕ → ℕ → Expected → Type 0
IsExpected g q k (Pair at i j) = (pairs : List (ℕ × ℕ)) × AreUnlinkedPairs g q k pairs
    × (slice_get pairs at ≡ Some (i, j))
IsExpected g q k (Fan at j) = slice_get (later_members q k) at ≡ Some j

-- the certificate has the right entry at this place: it names the same nodes and has k right paths
abbrev pub HoldsEntry : LinkGraph → List ℕ → Split → Expected → Type 0
HoldsEntry g q c (Pair at i j) = HoldsPair g c at (i, j)
HoldsEntry g q c (Fan at j) = HoldsFan g q c at j

-- the fault that is reported if this entry is missing or wrong
abbrev pub entry_fault : Expected → CheckFault
entry_fault (Pair at i j) = fault.Pair i j
entry_fault (Fan at j) = fault.Fan j
