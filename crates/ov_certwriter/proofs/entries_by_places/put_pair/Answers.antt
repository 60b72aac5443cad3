-- The text of the entry, piece by piece.
use Rattle.std.proofs.Common.{decimal, subst, ap, ◌≤◌, ℕ, length}
use Rattle.ov_certwriter.specs.Code.Placed.{pair_of}
use Rattle.ov_certwriter.proofs.EntryTexts.{pair_text, pair_short}
use Rattle.ov_certwriter.proofs.PutTexts.{puts_then, puts_same}
use Rattle.ov_certwriter.proofs.entries_by_places.put_pair.Goals as goal

pub returns-clause-text : goal.returns-clause-text
returns-clause-text c =
    let a = c.args in
    let i = puts_same _ _ _ _ _ _ (ap decimal c.number.ensures) c.put_whole-behind_i.ensures.text in
    let j = puts_same _ _ _ _ _ _ (ap decimal c.number-2.ensures) c.put_whole-behind_j.ensures.text in
    puts_same _ _ _ _ _ _ (pair_text (pair_of a.graph.now a.i a.j a.paths.now))
    (puts_then _ _ _ _ _ _ _ _ c.put_text-i_at.ensures (puts_then _ _ _ _ _ _ _ _ i
    (puts_then _ _ _ _ _ _ _ _ c.put_text-j_at.ensures (puts_then _ _ _ _ _ _ _ _ j
    (puts_then _ _ _ _ _ _ _ _ c.put_text-paths_at.ensures
    (puts_then _ _ _ _ _ _ _ _ c.put_paths-behind_paths.ensures.text c.put_byte.ensures))))))

pub returns-clause-short : goal.returns-clause-short
returns-clause-short c =
    let a = c.args in
    pair_short (pair_of a.graph.now a.i a.j a.paths.now)
    (subst (λ (n : ℕ). length (decimal n) ≤ 10) c.number.ensures c.put_whole-behind_i.ensures.short)
    (subst (λ (n : ℕ). length (decimal n) ≤ 10) c.number-2.ensures c.put_whole-behind_j.ensures.short)
    c.put_paths-behind_paths.ensures.short
