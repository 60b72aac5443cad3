-- All spare blocks but one are left, and the block that comes behind the others is full.
use Rattle.std.proofs.Common.{◌∙◌, ◌<◌, inl, inr, [], ◌∷◌, length, ap, sym, subst, arith}
use Rattle.std.specs.List.{AllByRecursion}
use Rattle.std.proofs.lemmas.List.{map-append}
use Rattle.ov_lists.specs.Code.Blocks.{Filled, IsSpare}
use Rattle.ov_lists.specs.Code.Dense.{AreDense, most_joined, sizes}
use Rattle.ov_lists.proofs.Density.{dense_pushed}
use Rattle.ov_lists.proofs.Joining.{spare_front}
use Rattle.ov_lists.proofs.block_sequence.begin.Goals as goal

pub returns-else-len-eq0-clause-spare : goal.returns-else-len-eq0-clause-spare
returns-else-len-eq0-clause-spare g c =
    let t = c.take_last in
    spare_front t.new.self.items _ (subst (AllByRecursion IsSpare) t.ensures.items c.requires.spare)

pub returns-else-len-eq0-clause-dense : goal.returns-else-len-eq0-clause-dense
returns-else-len-eq0-clause-dense g c =
    let full = c.args.full.now.items in
    let b = c.replace-before.result in
    let n = length b.items in
    let same = ap (λ (x : Filled g.row.T.Denot). length x.items) c.replace-before.ensures.value in
    let some = c.if-len-eq0.false in
    let count = c.len.ensures.value in
    let at_end = c.requires.at_end in
    let many : most_joined < n = elim c.requires.last [
      | inl z ↦ absurd (omega (arith, z, same, some, count, at_end))
      | inr w ↦ omega (arith, w, same, at_end)
    ] in
    let pushed = ap sizes c.push_reserved.ensures.items
    ∙ map-append (λ (x : Filled g.row.T.Denot). length x.items) full (b ∷ []) in
    subst AreDense (sym pushed) (dense_pushed (sizes full) n c.requires.dense many)
