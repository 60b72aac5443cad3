-- The verdict on a certificate: it is valid, or it has a first fault. The checks have a fixed order. A fault is the
-- first if its own check fails and all earlier checks pass.
use Rattle.std.specs.Prelude.{◌≡◌, ℕ, ◌+◌, ◌⊎◌, ◌<◌, ◌≤◌, List, length, slice_get, Option, Some, None}
use Rattle.ov_graph.specs.Links.{LinkGraph, HasNode, AreAllLinked, IsGroup}
use Rattle.ov_graph.specs.Joined.{IsNodeSet}
use Rattle.ov_graph.specs.Paths.{ArePaths, IsFan}
use Rattle.ov_graph.specs.Even.{later_members, members_below}
use Rattle.ov_cert.specs.declared.cert.Cert.{Cert}
use Rattle.ov_cert.specs.declared.cert.Cert.TheVariants as cert
use Rattle.ov_cert.specs.declared.cert.Split.{Split}
use Rattle.ov_cert.specs.declared.cert.PairPaths.{PairPaths}
use Rattle.ov_cert.specs.declared.cert.FanPaths.{FanPaths}
use Rattle.ov_cert.specs.declared.fault.CheckFault.{CheckFault}
use Rattle.ov_cert.specs.declared.fault.CheckFault.TheVariants.{NoNodes, BadGroup, Count, NotLinked, Cut, Side, Pair}
use Rattle.ov_cert.specs.declared.fault.CheckFault.TheVariants.{Fan, Extra}
use Rattle.ov_cert.specs.Valid.{IsCutOff, AreUnlinkedPairs, IsValidForGroup}

-- each item of the list holds at its place
abbrev pub AllHold : {X : Type 0} → (ℕ → X → Type 0) → List X → Type 0
AllHold {X = X} Holds xs = (p : ℕ) (x : X) → slice_get xs p ≡ Some x → Holds p x

-- x is the first item of the list that does not hold at its place
pub record IsFirstAtFault {X : Type 0} (Holds : ℕ → X → Type 0) (xs : List X) (x : X) : Type 0 where
  pub place : ℕ
  pub there : slice_get xs place ≡ Some x
  pub fails : ¬ Holds place x
  pub before : (p : ℕ) (y : X) → p < place → slice_get xs p ≡ Some y → Holds p y

-- THE FRAME: what is checked before the entries

-- k is one less than the number of members (linked), or equals the number of nodes of the cut (split)
abbrev pub IsCounted : List ℕ → Cert → Type 0
IsCounted q (cert.Linked k) = length q ≡ k + 1
IsCounted q (cert.Split c) = length c.cut ≡ c.k

-- the fault is the first fault of the frame
abbrev pub IsFrameFault : LinkGraph → List ℕ → Cert → CheckFault → Type 0
IsFrameFault g q c NoNodes = ¬ HasNode g
IsFrameFault g q c BadGroup = HasNode g × ¬ IsGroup g q
IsFrameFault g q c Count = HasNode g × IsGroup g q × ¬ IsCounted q c
IsFrameFault g q (cert.Linked k) NotLinked = HasNode g × IsGroup g q × IsCounted q (cert.Linked k) × ¬ AreAllLinked g q
IsFrameFault g q (cert.Split c) Cut = HasNode g × IsGroup g q × IsCounted q (cert.Split c) × ¬ IsNodeSet g c.cut
IsFrameFault g q (cert.Split c) Side = HasNode g × IsGroup g q × IsCounted q (cert.Split c) × IsNodeSet g c.cut
    × ¬ IsCutOff g q c
IsFrameFault g q c other = ⊥

-- the frame has no fault
abbrev pub PassesFrame : LinkGraph → List ℕ → Cert → Type 0
PassesFrame g q (cert.Linked k) = HasNode g × IsGroup g q × IsCounted q (cert.Linked k) × AreAllLinked g q
PassesFrame g q (cert.Split c) = HasNode g × IsGroup g q × IsCounted q (cert.Split c) × IsNodeSet g c.cut
    × IsCutOff g q c

-- THE ENTRIES: one at the place of each expected pair, and one at the place of each expected fan

-- the entry exists, names the pair, and has k paths that share only their two ends
abbrev pub IsPairEntry : LinkGraph → ℕ → ℕ × ℕ → Option PairPaths → Type 0
IsPairEntry g k p None = ⊥
IsPairEntry g k p (Some e) = (e.i ≡ p.0) × (e.j ≡ p.1) × ArePaths g p.0 p.1 k e.paths

-- the entry exists, names the member, and has a fan of k paths to members below it
abbrev pub IsFanEntry : LinkGraph → List ℕ → ℕ → ℕ → Option FanPaths → Type 0
IsFanEntry g q k j None = ⊥
IsFanEntry g q k j (Some e) = (e.j ≡ j) × IsFan g j (members_below q j) k e.paths

-- the entry at this place is a right entry of the pair
abbrev pub HoldsPair : LinkGraph → Split → ℕ → ℕ × ℕ → Type 0
HoldsPair g c place p = IsPairEntry g c.k p (slice_get c.pairs place)

-- the entry at this place is a right fan of the member
abbrev pub HoldsFan : LinkGraph → List ℕ → Split → ℕ → ℕ → Type 0
HoldsFan g q c place j = IsFanEntry g q c.k j (slice_get c.fans place)

-- the fault is the first fault of the entries. The expected pairs are checked first, then the expected fans, then
-- whether there are superfluous entries
abbrev pub IsEntryFault : LinkGraph → List ℕ → Split → List (ℕ × ℕ) → CheckFault → Type 0
IsEntryFault g q c pairs (Pair i j) = IsFirstAtFault (HoldsPair g c) pairs (i, j)
IsEntryFault g q c pairs (Fan j) = AllHold (HoldsPair g c) pairs
    × IsFirstAtFault (HoldsFan g q c) (later_members q c.k) j
IsEntryFault g q c pairs Extra = AllHold (HoldsPair g c) pairs × AllHold (HoldsFan g q c) (later_members q c.k)
    × ¬ ((length c.pairs ≤ length pairs) × (length c.fans ≤ length (later_members q c.k)))
IsEntryFault g q c pairs other = ⊥

-- THE VERDICT

-- the fault is the first fault of the certificate: a fault of the frame, or, if the frame has none, a fault of the
-- entries
abbrev pub IsFirstFault : LinkGraph → List ℕ → Cert → CheckFault → Type 0
IsFirstFault g q (cert.Linked k) fault = IsFrameFault g q (cert.Linked k) fault
IsFirstFault g q (cert.Split c) fault = IsFrameFault g q (cert.Split c) fault
    ⊎ (PassesFrame g q (cert.Split c) × ((pairs : List (ℕ × ℕ)) × AreUnlinkedPairs g q c.k pairs
    × IsEntryFault g q c pairs fault))

-- the verdict for a group: None if the certificate is valid, otherwise its first fault
abbrev pub JudgedForGroup : LinkGraph → List ℕ → Cert → Option CheckFault → Type 0
JudgedForGroup g q c None = IsValidForGroup g q c
JudgedForGroup g q c (Some fault) = IsFirstFault g q c fault

-- the verdict for the group of all nodes
abbrev pub JudgedForAll : LinkGraph → Cert → Option CheckFault → Type 0
JudgedForAll g c = JudgedForGroup g g.nodes c
