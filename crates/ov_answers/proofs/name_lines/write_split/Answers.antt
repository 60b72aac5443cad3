-- The lines of a split, one after the other.
use Rattle.std.proofs.Common.{ℕ, List, ◌++◌, codes, refl, subst}
use Rattle.ov_components.specs.Components.{AreComponents}
use Rattle.ov_answers.specs.Lines.{IsNodeLine, AreNodeLines, AreComponentLines}
use Rattle.ov_answers.specs.Code.Begun.{Gains}
use Rattle.ov_answers.proofs.Growing.{split_lines}
use Rattle.ov_answers.proofs.name_lines.write_split.Goals as goal

pub returns : goal.returns
returns c =
    let names = c.args.names.now in
    let split = c.args.split.now in
    let old = c.args.text.now.items in
    let components = c.in_ok-components.components in
    let cut = subst (λ (ns : List ℕ). Gains (AreNodeLines (codes "cut ") names ns) old c.write_nodes.new.text.items)
    c.as_slice-cut.ensures c.in_ok-write_nodes.ensures in
    let s = split_lines (AreNodeLines (codes "cut ") names split.cut) (IsNodeLine (codes "near ") names split.near)
    (IsNodeLine (codes "far ") names split.far) (AreComponentLines names components) old c.write_nodes.new.text.items
    c.write_node.new.text.items c.write_node-2.new.text.items c.write_components.new.text.items cut
    c.in_ok-write_node.ensures c.in_ok-write_node-2.ensures c.in_ok-write_components.ensures in
    let are = subst (λ (s : List ℕ). AreComponents c.args.graph.now s components) c.as_slice-cut.ensures
    c.in_ok-components.ensures in
    (s.0 ++ (s.1 ++ (s.2 ++ s.3)), (s.0, s.1, s.2, components, s.3, s.4, s.5, s.6, are, s.7, refl), s.8)
