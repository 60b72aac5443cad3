-- An empty block goes, and blocks that are not dense are joined.
use Rattle.std.proofs.Common.{◌≡◌, ◌∙◌, ◌+◌, ◌-◌, ◌<◌, ℕ, suc, length, get_or, ap, sym, subst, refl, arith, rules}
use Rattle.std.proofs.lemmas.List.{get_or-map, length-map, nil_from_length}
use Rattle.ov_lists.specs.Code.Blocks.{Filled, joined}
use Rattle.ov_lists.specs.Code.Dense.{AreDense, most_joined, sizes, with_more}
use Rattle.ov_lists.proofs.Density.{dense_kept, dense_next, dense_this, dense_without, sizes_without}
use Rattle.ov_lists.proofs.Joining.{joined_emptied}
use Rattle.ov_lists.proofs.block_sequence.tidy.Goals as goal
use Rattle.ov_lists.proofs.block_sequence.tidy.Goals.{else-block-len-via-then-block-len+else-count-len-le-JOINED}
use Rattle.ov_lists.proofs.block_sequence.tidy.Goals.{else-block-len-via-else-block-len}
use Rattle.ov_lists.proofs.block_sequence.tidy.Goals.{else-block-gt0-via-then-block-gt0+else-len-count-le-JOINED}
use Rattle.ov_lists.proofs.block_sequence.tidy.Goals.{else-block-gt0-via-else-block-gt0}

pub returns-then-count-eq0-clause-items : goal.returns-then-count-eq0-clause-items
returns-then-count-eq0-clause-items g c =
    let b = c.index.result.now in
    ap joined c.remove-emptied.ensures.items
    ∙ joined_emptied c.args.full.now.items c.args.block b c.requires.block (nil_from_length _ (search rules))

pub returns-then-count-eq0-clause-dense : goal.returns-then-count-eq0-clause-dense
returns-then-count-eq0-clause-dense g c =
    let full = c.args.full.now.items in
    let i = c.args.block in
    let b = c.index.result.now in
    let f : Filled g.row.T.Denot → ℕ = λ x. length x.items in
    let size : get_or (sizes full) i 0 ≡ length b.items
    = get_or-map f full i b 0 c.requires.block ∙ ap f (sym c.index.ensures) in
    let none : get_or (sizes full) i 0 ≡ 0 = omega (arith, size, c.len-count.ensures.value, c.if-count-eq0.true) in
    let within : i < length (sizes full) = omega (arith, c.requires.block, length-map full f) in
    subst AreDense (sym (ap sizes c.remove-emptied.ensures.items ∙ sizes_without full i))
    (dense_without (sizes full) i within none c.requires.dense)

pub returns-then-count-len-le-JOINED-clause-dense : goal.returns-then-count-len-le-JOINED-clause-dense
returns-then-count-len-le-JOINED-clause-dense g c =
    let full = c.args.full.now in
    let i = c.args.block in
    let f : Filled g.row.T.Denot → ℕ = λ x. length x.items in
    let within : i + 1 < length (sizes full.items)
    = omega (arith, c.if-block-len.true, c.len.ensures, full.ok.0, length-map full.items f) in
    subst AreDense (sym c.join.ensures.sizes) (dense_this (sizes full.items) i (i + 1) refl within c.requires.dense)

pub returns-then-len-count-le-JOINED-clause-dense : goal.returns-then-len-count-le-JOINED-clause-dense
returns-then-len-count-le-JOINED-clause-dense g c =
    let full = c.args.full.now in
    let i = c.args.block in
    let f : Filled g.row.T.Denot → ℕ = λ x. length x.items in
    let back : i ≡ i - 1 + 1 = omega (arith, c.if-block-gt0.true) in
    let within : i - 1 + 1 < length (sizes full.items)
    = omega (arith, back, c.requires.block, length-map full.items f) in
    let more = subst (λ (k : ℕ). AreDense (with_more (sizes full.items) k)) back c.requires.dense in
    subst AreDense (sym c.join-then-len-count-le-JOINED.ensures.sizes)
    (dense_next (sizes full.items) (i - 1) (i - 1 + 1) refl within more)

pub returns-else-block-gt0-clause-dense : goal.returns-else-block-gt0-clause-dense
returns-else-block-gt0-clause-dense g c =
    let full = c.args.full.now in
    let ns = sizes full.items in
    let i = c.args.block in
    let b = c.index.result.now in
    let f : Filled g.row.T.Denot → ℕ = λ x. length x.items in
    let all = length-map full.items f in
    let count = c.len-count.ensures.value in
    let size : get_or ns i 0 ≡ length b.items
    = get_or-map f full.items i b 0 c.requires.block ∙ ap f (sym c.index.ensures) in
    let some : 0 < get_or ns i 0 = omega (arith, size, count, c.if-count-eq0.false) in
    let after : suc i < length ns → most_joined < get_or ns i 0 + get_or ns (suc i) 0
    = λ m. elim c.else-block-len.branch [
      | else-block-len-via-then-block-len+else-count-len-le-JOINED w ↦
          let x = w.index-then-block-len.result.now in
          let same : i + 1 ≡ suc i = omega arith in
          let at' = subst (λ (k : ℕ). x ≡ get_or full.items k x) same w.index-then-block-len.ensures in
          let next : get_or ns (suc i) 0 ≡ length x.items
          = get_or-map f full.items (suc i) x 0 (omega (arith, m, all)) ∙ ap f (sym at') in
          omega (arith, size, next, count, w.len-then-block-len.ensures.value, w.if-count-len-le-JOINED.false)
      | else-block-len-via-else-block-len w ↦
          absurd (omega (arith, m, all, w.if-block-len.false, c.len.ensures, full.ok.0))
    ] in
    let before : (h : ℕ) → suc h ≡ i → most_joined < get_or ns h 0 + get_or ns i 0
    = λ h e. elim c.else-block-gt0.branch [
      | else-block-gt0-via-then-block-gt0+else-len-count-le-JOINED w ↦
          let x = w.index-then-block-gt0.result.now in
          let same : i - 1 ≡ h = omega (arith, e) in
          let at' = subst (λ (k : ℕ). x ≡ get_or full.items k x) same w.index-then-block-gt0.ensures in
          let previous : get_or ns h 0 ≡ length x.items
          = get_or-map f full.items h x 0 (omega (arith, e, c.requires.block)) ∙ ap f (sym at') in
          omega (arith, size, previous, count, w.len-then-block-gt0.ensures.value, w.if-len-count-le-JOINED.false)
      | else-block-gt0-via-else-block-gt0 w ↦ absurd (omega (arith, e, w.if-block-gt0.false))
    ] in
    dense_kept ns i (omega (arith, c.requires.block, all)) some after before c.requires.dense
