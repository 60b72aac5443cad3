-- One more round was written, and the next one is in the full blocks.
use Rattle.std.proofs.Common.{◌∙◌, ◌*◌, ◌++◌, ℕ, true, drop, length, sym, ap, subst, arith, append_assoc}
use Rattle.std.proofs.KnownBytes.{Appends-trans}
use Rattle.ov_certwriter.specs.declared.entry_blocks.Blocks.{Blocks}
use Rattle.ov_certwriter.specs.Code.Blocks.{items_after, AreWithin, HoldParts}
use Rattle.ov_certwriter.proofs.Filled.{within_behind}
use Rattle.ov_certwriter.proofs.entry_blocks.write_entries.Goals as goal

pub write_and_fill-requires-clause-within : goal.write_and_fill-requires-clause-within
write_and_fill-requires-clause-within g c κs inside =
    let l = c.loop-rest in
    let rest = l.rest.now in
    subst (λ xs. AreWithin g.T.Entry.paths_of l.blocks.free.room xs) (sym c.behind-next.ensures)
    (subst (λ (r : ℕ). AreWithin g.T.Entry.paths_of r (drop (c.len.result * l.blocks.full.size) rest)) l.blocks.alike
    (within_behind g.T.Entry.paths_of l.blocks.full.room _ rest l.invariant.within))

pub loop-rest-preserved : goal.loop-rest-preserved
loop-rest-preserved g c =
    let l = c.loop-rest in
    let i = l.invariant in
    let full = l.blocks.full in
    let rest = l.rest.now in
    let next = c.behind-next.result.now in
    let own = c.in_ok-write_and_fill.ensures.written in
    let bytes = own.bytes in
    let free = c.write_and_fill.new.free in
    let swapped = c.swap.ensures.x_after in
    let count = c.len.ensures ∙ full.blocks.ok.0 in
    let behind = c.behind-next.ensures ∙ ap (λ (n : ℕ). drop (n * full.size) rest) count in
    let within : AreWithin g.T.Entry.paths_of free.room next =
    subst (λ xs. AreWithin g.T.Entry.paths_of free.room xs) (sym behind)
    (subst (λ (r : ℕ). AreWithin g.T.Entry.paths_of r (drop (length full.blocks.items * full.size) rest))
    (l.blocks.alike ∙ sym c.in_ok-write_and_fill.ensures.room)
    (within_behind g.T.Entry.paths_of full.room _ rest i.within)) in
    record {
      sent = (
        i.sent.0 ++ bytes.0,
        Appends-trans _ _ _ _ _ i.sent.1 bytes.1,
        append_assoc i.sent.0 bytes.0 (items_after g.T.Entry.as_data true next)
            ∙ ap (λ xs. i.sent.0 ++ (bytes.0 ++ items_after g.T.Entry.as_data true xs)) behind
            ∙ ap (λ t. i.sent.0 ++ t) bytes.2 ∙ i.sent.2,
      );
      parts = subst (λ (b : Blocks). HoldParts g.T.Entry.as_data b.size true next b.blocks.items) (sym swapped)
          c.in_ok-write_and_fill.ensures.parts;
      within = subst (λ (b : Blocks). AreWithin g.T.Entry.paths_of b.room next) (sym swapped) within;
      room = ap (λ (b : Blocks). b.room) swapped ∙ c.in_ok-write_and_fill.ensures.room ∙ sym l.blocks.alike ∙ i.room;
      faults = omega (arith, own.faults, i.faults);
    }
