-- What is wrong with the frame of a certificate, as functions that compute. The code is proved against these.
use Rattle.std.specs.Prelude.{ℕ, suc, ◌+◌, ◌||◌, ◌==◌, nat_lt, List, [], ◌∷◌, length, slice_get, if◌then◌else◌, Option}
use Rattle.std.specs.Prelude.{Some, None, option_map}
use Rattle.ov_ids.specs.Sets.{has}
use Rattle.ov_graph.specs.Links.{LinkGraph}
use Rattle.ov_graph.specs.Code.Tests.{neighbours_in}
use Rattle.ov_cert.specs.declared.cert.Cert.{Cert}
use Rattle.ov_cert.specs.declared.cert.Cert.TheVariants as cert
use Rattle.ov_cert.specs.declared.cert.Split.{Split}
use Rattle.ov_cert.specs.declared.flaw_types_apart_from_paths.SetFlaw.{SetFlaw}
use Rattle.ov_cert.specs.declared.flaw_types_apart_from_paths.SetFlaw.TheVariants.{NotAbove, NoNode}
use Rattle.ov_cert.specs.declared.flaw_types_apart_from_paths.EndFlaw.{EndFlaw}
use Rattle.ov_cert.specs.declared.flaw_types_apart_from_paths.EndFlaw.TheVariants as end
use Rattle.ov_cert.specs.declared.flaw_types_apart_from_paths.SideFlaw.{SideFlaw}
use Rattle.ov_cert.specs.declared.flaw_types_apart_from_paths.SideFlaw.TheVariants.{Near, Far, NoSet, InCut, NearOff}
use Rattle.ov_cert.specs.declared.flaw_types_apart_from_paths.SideFlaw.TheVariants.{FarOn, WayOut}
use Rattle.ov_cert.specs.declared.flaw_types_apart_from_paths.FrameFlaw.{FrameFlaw}
use Rattle.ov_cert.specs.declared.flaw_types_apart_from_paths.FrameFlaw.TheVariants.{NoNodes, NoMember, Group, Count}
use Rattle.ov_cert.specs.declared.flaw_types_apart_from_paths.FrameFlaw.TheVariants.{NotLinked, Cut}
use Rattle.ov_cert.specs.declared.flaw_types_apart_from_paths.FrameFlaw.TheVariants.{Side}
use Rattle.ov_cert.specs.Code.Tests.{first, pairs_after}

-- why x, at this place, is not above the id before it, if there is one
abbrev pub order_flaw : Option ℕ → ℕ → ℕ → Option SetFlaw
order_flaw None at x = None
order_flaw (Some before) at x = if nat_lt before x then None else Some (NotAbove at x before)

-- the first of these ids, which come after another one, that is not above the one before it or is no node
abbrev pub set_flaw_after : LinkGraph → Option ℕ → ℕ → List ℕ → Option SetFlaw
set_flaw_after g before at [] = None
set_flaw_after g before at (x ∷ xs) = first (order_flaw before at x)
    (if has g.nodes x then set_flaw_after g (Some x) (suc at) xs else Some (NoNode at x))

-- why the ids are no set of nodes
abbrev pub set_flaw : LinkGraph → List ℕ → Option SetFlaw
set_flaw g ids = set_flaw_after g None 0 ids

-- why x is no surviving member
abbrev pub end_flaw : List ℕ → List ℕ → ℕ → Option EndFlaw
end_flaw q cut x = if has q x then (if has cut x then Some end.InCut else None) else Some end.NoMember

-- the first of these ids that is in the cut; the first id has this place
abbrev pub in_cut_flaw : List ℕ → ℕ → List ℕ → Option SideFlaw
in_cut_flaw cut at [] = None
in_cut_flaw cut at (x ∷ xs) = if has cut x then Some (InCut at x) else in_cut_flaw cut (suc at) xs

-- the first of these neighbours of a that is neither on the side nor in the cut
abbrev pub way_out_of : List ℕ → List ℕ → ℕ → List ℕ → Option SideFlaw
way_out_of side cut a [] = None
way_out_of side cut a (b ∷ bs) = if has side b || has cut b then way_out_of side cut a bs else Some (WayOut a b)

-- the first link of these nodes that ends neither on the side nor in the cut
abbrev pub way_out : LinkGraph → List ℕ → List ℕ → List ℕ → Option SideFlaw
way_out g side cut [] = None
way_out g side cut (a ∷ rest) = first (way_out_of side cut a (neighbours_in g.links a g.nodes))
    (way_out g side cut rest)

-- why the side, which is a set of nodes outside the cut, does not separate near and far
abbrev pub parting_flaw : LinkGraph → Split → Option SideFlaw
parting_flaw g c = if has c.side c.near then
    (if has c.side c.far then Some FarOn else way_out g c.side c.cut c.side) else Some NearOff

-- why the side is not cut off
abbrev pub side_flaw : LinkGraph → List ℕ → Split → Option SideFlaw
side_flaw g q c = first (option_map Near (end_flaw q c.cut c.near))
    (first (option_map Far (end_flaw q c.cut c.far))
    (first (option_map NoSet (set_flaw g c.side))
    (first (in_cut_flaw c.cut 0 c.side) (parting_flaw g c))))

-- two members that are not linked
abbrev pub unlinked : ℕ × ℕ → FrameFlaw
unlinked p = NotLinked p.0 p.1

-- what is wrong with the certificate's body, for the group: first with k, then with the links, or with the cut and its
-- side
abbrev pub body_flaw : LinkGraph → List ℕ → Cert → Option FrameFlaw
body_flaw g q (cert.Linked k) = if length q == k + 1 then option_map unlinked (slice_get (pairs_after g [] q) 0)
    else Some (Count (length q))
body_flaw g q (cert.Split c) = if length c.cut == c.k
    then first (option_map Cut (set_flaw g c.cut)) (option_map Side (side_flaw g q c))
    else Some (Count (length c.cut))

-- what is wrong with the frame
abbrev pub frame_flaw : LinkGraph → List ℕ → Cert → Option FrameFlaw
frame_flaw g q c = if length g.nodes == 0 then Some NoNodes else (if length q == 0 then Some NoMember
    else first (option_map Group (set_flaw g q)) (body_flaw g q c))
