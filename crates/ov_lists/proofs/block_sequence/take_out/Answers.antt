-- The item is taken out of its block.
use Rattle.std.proofs.Common.{◌≡◌, ◌∙◌, ◌+◌, ℕ, List, length, get_or, ap, sym, subst, arith, rules}
use Rattle.std.proofs.lemmas.List.{get_or-map, length-map, map-set}
use Rattle.std.proofs.lemmas.List.Edits.{length-remove}
use Rattle.ov_lists.specs.Code.Blocks.{Filled}
use Rattle.ov_lists.specs.Code.Dense.{AreDense, sizes, with_more}
use Rattle.ov_lists.proofs.Density.{more_back}
use Rattle.ov_lists.proofs.Joining.{joined_at, joined_without}
use Rattle.ov_lists.proofs.block_sequence.take_out.Goals as goal

pub returns-clause-value : goal.returns-clause-value
returns-clause-value g c =
    let f = c.find-block in
    let b = c.index_mut.result.now in
    joined_at c.args.blocks.now.items f.result.0 f.result.1 c.args.place b c.remove.result
    (rw c.deref.ensures.value at f.ensures.block) (rw c.deref.ensures.value at f.ensures.inside b) (search rules)
    (rw c.deref.ensures.value at f.ensures.place)

pub returns-clause-items : goal.returns-clause-items
returns-clause-items g c =
    let f = c.find-block in
    let b = c.index_mut.result.now in
    joined_without c.args.blocks.now.items f.result.0 f.result.1 c.args.place b c.remove.new.self
    (rw c.deref.ensures.value at f.ensures.block) (rw c.deref.ensures.value at f.ensures.inside b) (search rules)
    (rw c.deref.ensures.value at f.ensures.place)

pub returns-clause-dense : goal.returns-clause-dense
returns-clause-dense g c =
    let bs = c.args.blocks.now.items in
    let r = c.find-block.result in
    let a = c.index_mut.result.now in
    let b = c.remove.new.self in
    let f : Filled g.row.T.Denot → ℕ = λ x. length x.items in
    let within = rw c.deref.ensures.value at c.find-block.ensures.block in
    let there : length a.items ≡ length (get_or bs r.0 a).items = ap f c.index_mut.ensures.value in
    let inside = rw c.deref.ensures.value at c.find-block.ensures.inside a in
    let one_less = length-remove a.items r.1 (omega (arith, there, inside)) in
    let size = get_or-map f bs r.0 a 0 within in
    let before : length b.items + 1 ≡ get_or (sizes bs) r.0 0
    = omega (arith, ap length c.remove.ensures.items, one_less, there, size) in
    let same = ap (λ (ns : List ℕ). with_more ns r.0) (map-set f bs r.0 b)
    ∙ more_back (sizes bs) r.0 (length b.items) (omega (arith, within, length-map bs f)) before in
    subst AreDense (sym same) c.requires.dense
