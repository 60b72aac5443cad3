-- How a report is found: the places of all reports, in the order of the keys by which the reports are found.
use Rattle.std.specs.Prelude.{◌≡◌, ℕ, zero, suc, ◌<◌, ◌≤◌, List, [], ◌∷◌, length, slice_index}
use Rattle.std.specs.Cmp.Lexicographic.{slice_cmp}
use Rattle.std.specs.Ordering.{nat_cmp, ordering_then}
use Rattle.std.specs.declared.cmp.Ordering.{Ordering}
use Rattle.std.specs.declared.cmp.Ordering.TheVariants.{Less, Greater}
use Rattle.ov_ids.specs.Members.{Has, Ordered}
use Rattle.ov_snap.specs.ReportState.{ReportState}

-- what a report is found by: a moment, and the members of a group
abbrev pub ReportKey : Type 0
ReportKey = ℕ × List ℕ

-- by the moment, and then by the first member that differs
abbrev pub key_cmp : ReportKey → ReportKey → Ordering
key_cmp k l = ordering_then (nat_cmp k.0 l.0) (slice_cmp nat_cmp k.1 l.1)

-- the key of a report
abbrev pub key_of : ReportState → ReportKey
key_of r = (r.moment, r.members)

-- the key of the report at a place
abbrev pub key_at : List ReportState → ℕ → ReportKey
key_at [] p = (0, [])
key_at (r ∷ rs) zero = key_of r
key_at (r ∷ rs) (suc p) = key_at rs p

-- the report at one place comes before the one at another
abbrev pub ReportPrecedes : List ReportState → ℕ → ℕ → Type 0
ReportPrecedes reports p q = key_cmp (key_at reports p) (key_at reports q) ≡ Less

-- the places of these reports, each of them, in the order of the keys
pub record AreInOrder (reports : List ReportState) (places : List ℕ) : Type 0 where
  pub inside : (p : ℕ) → Has places p → p < length reports
  pub every : (p : ℕ) → p < length reports → Has places p
  pub order : Ordered (ReportPrecedes reports) places

-- the reports at the places before this one have smaller keys
abbrev pub AreLess : List ReportState → List ℕ → ReportKey → ℕ → Type 0
AreLess reports places key low = (i : ℕ) → i < low → key_cmp (key_at reports (slice_index places i)) key ≡ Less

-- the reports at the places from this one on have greater keys
abbrev pub AreGreater : List ReportState → List ℕ → ReportKey → ℕ → Type 0
AreGreater reports places key high =
    (i : ℕ) → high ≤ i → i < length places → key_cmp (key_at reports (slice_index places i)) key ≡ Greater

-- the place at which a report of this key would go
pub record IsGap (reports : List ReportState) (places : List ℕ) (key : ReportKey) (at : ℕ) : Type 0 where
  pub inside : at ≤ length places
  pub less : AreLess reports places key at
  pub greater : AreGreater reports places key at
