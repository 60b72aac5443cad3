-- What is wrong with the frame of a certificate, if it has a fault.
use Rattle.std.specs.Prelude.{◌≡◌, ◌≢◌, ◌+◌, ◌<◌, ◌≤◌, ℕ, List, [], ◌∷◌, ◌++◌, length, take, slice_get, Some}
use Rattle.ov_ids.specs.Members.{Has, Ascends}
use Rattle.ov_graph.specs.Links.{LinkGraph, HasNode, Linked}
use Rattle.ov_graph.specs.Joined.{IsNodeSet}
use Rattle.ov_cert.specs.declared.cert.Cert.{Cert}
use Rattle.ov_cert.specs.declared.cert.Cert.TheVariants as cert
use Rattle.ov_cert.specs.declared.cert.Split.{Split}
use Rattle.ov_cert.specs.declared.fault.CheckFault.{CheckFault}
use Rattle.ov_cert.specs.declared.fault.CheckFault.TheVariants as fault
use Rattle.ov_cert.specs.declared.flaw_types_apart_from_paths.SetFlaw.{SetFlaw}
use Rattle.ov_cert.specs.declared.flaw_types_apart_from_paths.SetFlaw.TheVariants.{NotAbove, NoNode}
use Rattle.ov_cert.specs.declared.flaw_types_apart_from_paths.EndFlaw.{EndFlaw}
use Rattle.ov_cert.specs.declared.flaw_types_apart_from_paths.EndFlaw.TheVariants as end
use Rattle.ov_cert.specs.declared.flaw_types_apart_from_paths.SideFlaw.{SideFlaw}
use Rattle.ov_cert.specs.declared.flaw_types_apart_from_paths.SideFlaw.TheVariants.{Near, Far, NoSet, InCut, NearOff}
use Rattle.ov_cert.specs.declared.flaw_types_apart_from_paths.SideFlaw.TheVariants.{FarOn, WayOut}
use Rattle.ov_cert.specs.declared.flaw_types_apart_from_paths.FrameFlaw.{FrameFlaw}
use Rattle.ov_cert.specs.declared.flaw_types_apart_from_paths.FrameFlaw.TheVariants.{NoNodes, NoMember, Group, Count}
use Rattle.ov_cert.specs.declared.flaw_types_apart_from_paths.FrameFlaw.TheVariants.{NotLinked, Cut}
use Rattle.ov_cert.specs.declared.flaw_types_apart_from_paths.FrameFlaw.TheVariants.{Side}

-- the fault that is reported of a certificate with this flaw
abbrev pub flaw_fault : FrameFlaw → CheckFault
flaw_fault NoNodes = fault.NoNodes
flaw_fault NoMember = fault.BadGroup
flaw_fault (Group flaw) = fault.BadGroup
flaw_fault (Count number) = fault.Count
flaw_fault (NotLinked a b) = fault.NotLinked
flaw_fault (Cut flaw) = fault.Cut
flaw_fault (Side flaw) = fault.Side

-- x is the id at this place, and the ids before it are a set of nodes
abbrev pub IsFirstOut : LinkGraph → List ℕ → ℕ → ℕ → Type 0
IsFirstOut g ids at x = (slice_get ids at ≡ Some x) × IsNodeSet g (take at ids)

-- the flaw is one that the list of ids has, which should be a set of nodes
abbrev pub HasSetFlaw : LinkGraph → List ℕ → SetFlaw → Type 0
HasSetFlaw g ids (NotAbove at x before) = IsFirstOut g ids at x × (x ≤ before)
    × ((front : List ℕ) × (take at ids ≡ front ++ before ∷ []))
HasSetFlaw g ids (NoNode at x) = IsFirstOut g ids at x × Ascends (take (at + 1) ids) × ¬ Has g.nodes x

-- the flaw is one that the node x has, which should be a surviving member
abbrev pub HasEndFlaw : List ℕ → List ℕ → ℕ → EndFlaw → Type 0
HasEndFlaw q cut x end.NoMember = ¬ Has q x
HasEndFlaw q cut x end.InCut = Has cut x

-- the flaw is one that the side has, which should be cut off
abbrev pub HasSideFlaw : LinkGraph → List ℕ → Split → SideFlaw → Type 0
HasSideFlaw g q c (Near flaw) = HasEndFlaw q c.cut c.near flaw
HasSideFlaw g q c (Far flaw) = HasEndFlaw q c.cut c.far flaw
HasSideFlaw g q c (NoSet flaw) = HasSetFlaw g c.side flaw
HasSideFlaw g q c (InCut at x) = (slice_get c.side at ≡ Some x) × Has c.cut x
HasSideFlaw g q c NearOff = ¬ Has c.side c.near
HasSideFlaw g q c FarOn = Has c.side c.far
HasSideFlaw g q c (WayOut a b) = Has c.side a × Linked g a b × (¬ Has c.side b) × ¬ Has c.cut b

-- the flaw is one that the certificate has for the group
abbrev pub HasFrameFlaw : LinkGraph → List ℕ → Cert → FrameFlaw → Type 0
HasFrameFlaw g q c NoNodes = ¬ HasNode g
HasFrameFlaw g q c NoMember = q ≡ []
HasFrameFlaw g q c (Group flaw) = HasSetFlaw g q flaw
HasFrameFlaw g q (cert.Linked k) (Count number) = (number ≡ length q) × (number ≢ k + 1)
HasFrameFlaw g q (cert.Linked k) (NotLinked a b) = Has q a × Has q b × (a < b) × ¬ Linked g a b
HasFrameFlaw g q (cert.Split c) (Count number) = (number ≡ length c.cut) × (number ≢ c.k)
HasFrameFlaw g q (cert.Split c) (Cut flaw) = HasSetFlaw g c.cut flaw
HasFrameFlaw g q (cert.Split c) (Side flaw) = HasSideFlaw g q c flaw
HasFrameFlaw g q c other = ⊥
