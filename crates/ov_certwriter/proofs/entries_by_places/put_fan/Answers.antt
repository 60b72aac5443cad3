-- The text of the entry, piece by piece.
use Rattle.std.proofs.Common.{decimal, subst, ap, ◌≤◌, ℕ, length}
use Rattle.ov_certwriter.specs.Code.Placed.{fan_of}
use Rattle.ov_certwriter.proofs.EntryTexts.{fan_text, fan_short}
use Rattle.ov_certwriter.proofs.PutTexts.{puts_then, puts_same}
use Rattle.ov_certwriter.proofs.entries_by_places.put_fan.Goals as goal

pub returns-clause-text : goal.returns-clause-text
returns-clause-text c =
    let a = c.args in
    let j = puts_same _ _ _ _ _ _ (ap decimal c.number.ensures) c.put_whole-behind_j.ensures.text in
    puts_same _ _ _ _ _ _ (fan_text (fan_of a.graph.now a.j a.paths.now))
    (puts_then _ _ _ _ _ _ _ _ c.put_text-j_at.ensures (puts_then _ _ _ _ _ _ _ _ j
    (puts_then _ _ _ _ _ _ _ _ c.put_text-paths_at.ensures
    (puts_then _ _ _ _ _ _ _ _ c.put_paths-behind_paths.ensures.text c.put_byte.ensures))))

pub returns-clause-short : goal.returns-clause-short
returns-clause-short c =
    let a = c.args in
    fan_short (fan_of a.graph.now a.j a.paths.now)
    (subst (λ (n : ℕ). length (decimal n) ≤ 10) c.number.ensures c.put_whole-behind_j.ensures.short)
    c.put_paths-behind_paths.ensures.short
