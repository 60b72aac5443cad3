-- What a drawing has of a graph, a group and a certificate: each node with its class, and whether it is a member; each
-- link with its class and its path; and the components of the survivors.
use Rattle.std.specs.Prelude.{◌≡◌, ◌≢◌, ◌⊎◌, ℕ, List, [], ◌∷◌, ◌++◌, map, take, slice_get, Option, Some, None}
use Rattle.std.specs.List.{AllZip}
use Rattle.ov_ids.specs.Members.{Has}
use Rattle.ov_ids.specs.Sets.{has}
use Rattle.ov_graph.specs.Links.{LinkGraph}
use Rattle.ov_components.specs.Components.{AreComponents}
use Rattle.ov_cert.specs.declared.cert.Cert.{Cert}
use Rattle.ov_cert.specs.declared.cert.Cert.TheVariants.{Linked, Split}
use Rattle.ov_drawing.specs.declared.drawing.DrawnNode.{DrawnNode}
use Rattle.ov_drawing.specs.declared.drawing.DrawnLink.{DrawnLink}
use Rattle.ov_drawing.specs.declared.node_and_link_classes.LinkClass.TheVariants.{Across}
use Rattle.ov_drawing.specs.Classes.{class_of, band_of, link_class}

-- the path goes along the link: it has the two ends of the link one after the other, in either order
abbrev pub GoesAlong : List ℕ → ℕ × ℕ → Type 0
GoesAlong p l = (front : List ℕ) × (back : List ℕ)
    × ((p ≡ front ++ l.0 ∷ l.1 ∷ back) ⊎ (p ≡ front ++ l.1 ∷ l.0 ∷ back))

-- the place, from 0, of the first of these paths that goes along the link, and None if no path does. The paths of an
-- entry of a valid certificate share only ends, so at most one of them goes along a link
abbrev pub IsPathOn : List (List ℕ) → ℕ × ℕ → Option ℕ → Type 0
IsPathOn ps l None = (p : List ℕ) → Has ps p → ¬ GoesAlong p l
IsPathOn ps l (Some at) = (p : List ℕ) × (slice_get ps at ≡ Some p) × GoesAlong p l
    × ((q : List ℕ) → Has (take at ps) q → ¬ GoesAlong q l)

-- each node of the graph is there once, in order, with the class that the certificate gives it; it is a member exactly
-- if it is in the group q
abbrev pub DrawsNodes : LinkGraph → List ℕ → Cert → List DrawnNode → Type 0
DrawsNodes g q c drawn = drawn ≡ map (λ n. record { id = n; class = class_of c n; is_member = has q n }) g.nodes

-- d draws the link l: it has its ends, the class by the classes of the ends, and the path that goes along it
pub record DrawsLink (c : Cert) (ps : List (List ℕ)) (l : ℕ × ℕ) (d : DrawnLink) : Type 0 where
  pub from : d.from ≡ l.0
  pub to : d.to ≡ l.1
  pub class : d.class ≡ link_class (band_of (class_of c l.0)) (band_of (class_of c l.1))
  pub path : IsPathOn ps l d.path

-- each link of the graph is there once, in order
abbrev pub DrawsLinks : LinkGraph → Cert → List (List ℕ) → List DrawnLink → Type 0
DrawsLinks g c ps drawn = AllZip (DrawsLink c ps) g.links drawn

-- the components that the crash of the cut leaves. Where all members are linked there is no cut, and none is drawn
abbrev pub DrawsComponents : LinkGraph → Cert → List (List ℕ) → Type 0
DrawsComponents g (Linked k) components = components ≡ []
DrawsComponents g (Split s) components = AreComponents g s.cut components

-- no link leads across, from the near side to a survivor outside it. So it can be seen in the picture that the nodes of
-- the cut alone hold the two together
abbrev pub NoneAcross : List DrawnLink → Type 0
NoneAcross drawn = (d : DrawnLink) → Has drawn d → d.class ≢ Across
