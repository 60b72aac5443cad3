-- One line more, and all lines.
use Rattle.std.proofs.Common.{◌∙◌, ℕ, List, [], ◌∷◌, ◌++◌, take, take_all, sym, ap, subst}
use Rattle.std.proofs.lemmas.List.{take_more}
use Rattle.ov_answers.specs.Lines.{AreNodeLines}
use Rattle.ov_answers.specs.Code.Begun.{Gains}
use Rattle.ov_answers.proofs.Growing.{no_lines, lines_more}
use Rattle.ov_answers.proofs.name_lines.write_nodes.Goals as goal

pub loop-id-init : goal.loop-id-init
loop-id-init c = no_lines c.args.words.now c.args.names.now c.args.text.now.items

pub loop-id-preserved : goal.loop-id-preserved
loop-id-preserved c =
    let ids = c.args.ids.now in
    let i = c.loop-id.id-index in
    let id = c.id-item.result in
    let words = c.args.words.now in
    let names = c.args.names.now in
    let old = c.args.text.now.items in
    let more = take_more ids i id c.loop-id-test.true ∙ ap (λ (n : ℕ). take i ids ++ n ∷ []) (sym c.id-item.is) in
    subst (λ (ns : List ℕ). Gains (AreNodeLines words names ns) old c.write_node.new.text.items) (sym more)
    (lines_more words names (take i ids) id old c.loop-id.text.items c.write_node.new.text.items c.loop-id.invariant
    c.in_ok-write_node.ensures)

pub returns : goal.returns
returns c =
    subst (λ (ns : List ℕ). Gains (AreNodeLines c.args.words.now c.args.names.now ns) c.args.text.now.items
    c.loop-id.text.items) (take_all c.loop-id.id-index c.args.ids.now c.loop-id-test.false) c.loop-id.invariant
