-- One entry more.
use Rattle.std.proofs.Common.{◌∙◌, ◌∷◌, [], List, suc, take, drop, ap, sym, subst}
use Rattle.std.proofs.lemmas.Result.{err_from_is_err_and}
use Rattle.ov_graph.specs.Links.{most_of}
use Rattle.ov_dump.specs.Code.Taking.{Gains}
use Rattle.ov_dump.specs.Faults.{Naming, entry_namings}
use Rattle.ov_dump.proofs.Places.{parted_at, taken_next}
use Rattle.ov_dump.proofs.Takings.{entries_append, gains_more, gains_none, runs_after}
use Rattle.ov_dump.proofs.node_names_by_choice.take_entries.Goals as goal

pub loop-entry-init : goal.loop-entry-init
loop-entry-init c = gains_none (most_of c.args.limit) c.args.names.now c.requires.few

pub loop-entry-preserved : goal.loop-entry-preserved
loop-entry-preserved c =
    let all = c.args.entries.now in
    let i = c.loop-entry.entry-index in
    let e = c.entry-item.result in
    let next = taken_next all i e c.loop-entry-test.true c.entry-item.is in
    subst (λ (ms : List Naming). Gains (most_of c.args.limit) c.args.names.now ms c.take_name.new.names)
    (sym (entries_append (take i all) (e ∷ [])) ∙ ap (λ es. entry_namings (es)) (sym next))
    (gains_more (most_of c.args.limit) c.args.names.now c.loop-entry.names c.take_name.new.names (entry_namings
    (take i all))
    ((e.at, e.name) ∷ [])
    c.loop-entry.invariant c.in_ok-take_name.ensures.gains)

pub returns-in_err-take_name-clause-fault : goal.returns-in_err-take_name-clause-fault
returns-in_err-take_name-clause-fault c =
    let all = c.args.entries.now in
    let i = c.loop-entry.entry-index in
    let e = c.entry-item.result in
    let split = parted_at all i e c.loop-entry-test.true c.entry-item.is in
    let p = err_from_is_err_and c.from_residual.result c.from_residual.ensures.1 in
    rw (p.1, p.2) (runs_after (most_of c.args.limit) c.args.names.now c.loop-entry.names (entry_namings (all))
    (entry_namings (take i all))
    ((e.at, e.name) ∷ [])
    (entry_namings (drop (suc i) all)) c.in_err-take_name.field-0.0 c.loop-entry.invariant
    (ap (λ es. entry_namings (es)) split ∙ entries_append (take i all) (e ∷ drop (suc i) all))
    c.in_err-take_name.ensures.fault)
