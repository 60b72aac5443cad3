-- What a certificate makes of a node and of a link.
use Rattle.std.specs.Prelude.{ℕ, ◌==◌, if◌then◌else◌}
use Rattle.ov_ids.specs.Sets.{has}
use Rattle.ov_cert.specs.declared.cert.Cert.{Cert}
use Rattle.ov_cert.specs.declared.cert.Cert.TheVariants as cert
use Rattle.ov_drawing.specs.declared.node_and_link_classes.NodeClass.{NodeClass}
use Rattle.ov_drawing.specs.declared.node_and_link_classes.NodeClass.TheVariants as node
use Rattle.ov_drawing.specs.declared.node_and_link_classes.Band.{Band}
use Rattle.ov_drawing.specs.declared.node_and_link_classes.Band.TheVariants as band
use Rattle.ov_drawing.specs.declared.node_and_link_classes.LinkClass.{LinkClass}
use Rattle.ov_drawing.specs.declared.node_and_link_classes.LinkClass.TheVariants as link

-- the class that a certificate gives a node. In a valid certificate cut and side share no node, near is on the side and
-- far is in neither, so the order of the cases matters only in a certificate that is not valid
abbrev pub class_of : Cert → ℕ → NodeClass
class_of (cert.Linked k) n = node.Unparted
class_of (cert.Split c) n =
    if has c.cut n then node.Cut else
    (if c.near == n then node.Near else
    (if c.far == n then node.Far else
    (if has c.side n then node.NearSide else node.FarSide)))

-- the part of the picture that the nodes of a class are in
abbrev pub band_of : NodeClass → Band
band_of node.Unparted = band.Whole
band_of node.Near = band.Side
band_of node.NearSide = band.Side
band_of node.Cut = band.Cut
band_of node.Far = band.Far
band_of node.FarSide = band.Far

-- the class of a link whose ends are in these parts
abbrev pub link_class : Band → Band → LinkClass
link_class band.Side band.Side = link.WithinSide
link_class band.Side band.Cut = link.SideToCut
link_class band.Side band.Far = link.Across
link_class band.Side band.Whole = link.Unparted
link_class band.Cut band.Side = link.SideToCut
link_class band.Cut band.Cut = link.WithinCut
link_class band.Cut band.Far = link.CutToFar
link_class band.Cut band.Whole = link.Unparted
link_class band.Far band.Side = link.Across
link_class band.Far band.Cut = link.CutToFar
link_class band.Far band.Far = link.WithinFar
link_class band.Far band.Whole = link.Unparted
link_class band.Whole b = link.Unparted
