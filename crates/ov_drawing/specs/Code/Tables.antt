-- What is drawn of a node and of a link by the tables that code looks them up in.
use Rattle.std.specs.Prelude.{ℕ, List}
use Rattle.std.specs.Option.{unwrap_or}
use Rattle.std.specs.Ordering.{nat_cmp}
use Rattle.std.specs.BTreeMap.{BTreeMap, get}
use Rattle.ov_ids.specs.Sets.{has}
use Rattle.ov_drawing.specs.declared.node_and_link_classes.NodeClass.{NodeClass}
use Rattle.ov_drawing.specs.declared.drawing.DrawnNode.{DrawnNode}
use Rattle.ov_drawing.specs.declared.drawing.DrawnLink.{DrawnLink}
use Rattle.ov_drawing.specs.declared.classes_by_certificate.Classes.{Classes}
use Rattle.ov_drawing.specs.Classes.{band_of, link_class}
use Rattle.ov_drawing.specs.Code.PathTests.{link_cmp}

-- the class of a node
abbrev pub class_in : Classes → ℕ → NodeClass
class_in classes n = unwrap_or (get nat_cmp classes.named n) classes.other

-- a node as it is drawn beside the group q
abbrev pub node_by : Classes → List ℕ → ℕ → DrawnNode
node_by classes q n = record { id = n; class = class_in classes n; is_member = has q n }

-- a link as it is drawn
abbrev pub link_by : Classes → BTreeMap (ℕ × ℕ) ℕ → ℕ × ℕ → DrawnLink
link_by classes numbers l = record {
  from = l.0;
  to = l.1;
  class = link_class (band_of (class_in classes l.0)) (band_of (class_in classes l.1));
  path = get link_cmp numbers l;
}
