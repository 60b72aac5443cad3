-- The next stamp is that of no cell.
use Rattle.std.proofs.Common.{◌≡◌, ◌∙◌, ◌+◌, ℕ, List, None, map, drop, length, sym, subst, arith}
use Rattle.std.proofs.lemmas.List.{take_at}
use Rattle.ov_flow.specs.declared.place_table.Cell.{Cell}
use Rattle.ov_flow.specs.Code.Stamped.{said_by}
use Rattle.ov_flow.specs.Code.Walked.{table_of}
use Rattle.ov_flow.proofs.Stamping.{none_said}
use Rattle.ov_flow.proofs.place_table.PlaceTable.clear.Goals as goal
use Rattle.ov_flow.proofs.place_table.PlaceTable.clear.Goals.{then-self, else-self}

pub returns-clause-empty : goal.returns-clause-empty
returns-clause-empty c =
    let t = c.self.inside in
    elim c.if-self.branch [
      | then-self w ↦
          let new = w.wipe.new.cells in
          let long : length new ≡ t.cells.len = w.wipe.auto.cells ∙ w.deref_mut.ensures.len in
          let is = take_at new (drop (length new) t.cells.items) t.cells.len long in
          rw w.self-inside-is (subst (λ (l : List Cell). (v : ℕ) → table_of (map (said_by 1) l) v ≡ None) (sym is)
          (none_said 1 0 new w.wipe.ensures (omega arith)))
      | else-self w ↦
          rw w.self-inside-is (none_said (t.stamp + 1) t.stamp t.cells.items c.self.invariant.1 (omega arith))
    ]
