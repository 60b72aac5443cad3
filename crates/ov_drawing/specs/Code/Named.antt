-- The class of a node as code finds it: that of a node that the certificate names, or else that of all other nodes.
use Rattle.std.specs.Prelude.{◌≡◌, ℕ, ◌==◌, if◌then◌else◌, Option, Some, None}
use Rattle.ov_ids.specs.Sets.{has}
use Rattle.ov_cert.specs.declared.cert.Cert.{Cert}
use Rattle.ov_cert.specs.declared.cert.Split.{Split}
use Rattle.ov_drawing.specs.Classes.{class_of}
use Rattle.ov_drawing.specs.declared.node_and_link_classes.NodeClass.{NodeClass}
use Rattle.ov_drawing.specs.declared.node_and_link_classes.NodeClass.TheVariants as node
use Rattle.ov_drawing.specs.declared.classes_by_certificate.Classes.{Classes}
use Rattle.ov_drawing.specs.Code.Tables.{class_in}

-- the class of a node that a split names
abbrev pub named_class : Split → ℕ → Option NodeClass
named_class c n =
    if has c.cut n then Some node.Cut else
    (if c.near == n then Some node.Near else
    (if c.far == n then Some node.Far else
    (if has c.side n then Some node.NearSide else None)))

-- what the table says is what the certificate says
abbrev pub SaysClasses : Cert → Classes → Type 0
SaysClasses c classes = (n : ℕ) → class_in classes n ≡ class_of c n
