-- One entry more.
use Rattle.std.proofs.Common.{◌↔◌, ℕ, List, take, sym, subst}
use Rattle.ov_ids.specs.Members.{Has}
use Rattle.ov_dump.specs.Dumps.{names_of}
use Rattle.ov_dump.specs.declared.dump_and_graph_types.HostEntry.{HostEntry}
use Rattle.ov_dump.proofs.Places.{taken_next}
use Rattle.ov_dump.proofs.Answering.{entry_more}
use Rattle.ov_dump.proofs.names_without_entry.entry_names.Goals as goal

pub loop-entry-preserved : goal.loop-entry-preserved
loop-entry-preserved c =
    let entries = c.args.entries.now in
    let i = c.loop-entry.entry-index in
    let e = c.entry-item.result in
    let next = taken_next entries i e c.loop-entry-test.true c.entry-item.is in
    subst (λ (es : List HostEntry). (n : List ℕ) → Has c.add.new.names n ↔ Has (names_of es) n) (sym next)
    (entry_more (take i entries) e c.loop-entry.names c.add.new.names c.loop-entry.invariant c.in_ok-add.ensures)
