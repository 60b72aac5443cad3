-- Which of the two names is one too many.
use Rattle.std.proofs.Common.{◌∷◌, [], refl}
use Rattle.std.proofs.lemmas.Result.{err_from_is_err_and}
use Rattle.ov_graph.specs.Links.{most_of}
use Rattle.ov_dump.specs.Faults.{listing_namings}
use Rattle.ov_dump.proofs.Takings.{runs_after, runs_first}
use Rattle.ov_dump.proofs.node_names_by_choice.take_ends.Goals as goal

pub returns-in_err-take_name-clause-fault : goal.returns-in_err-take_name-clause-fault
returns-in_err-take_name-clause-fault c =
    let l = c.args.listing.now in
    let p = err_from_is_err_and c.from_residual.result c.from_residual.ensures.1 in
    rw (p.1, p.2) (runs_first (most_of c.args.limit) c.args.names.now (listing_namings l) ((l.at, l.from) ∷ [])
    ((l.at, l.to) ∷ [])
    c.in_err-take_name.field-0.0 c.requires.few refl c.in_err-take_name.ensures.fault)

pub returns-in_err-take_name-2-clause-fault : goal.returns-in_err-take_name-2-clause-fault
returns-in_err-take_name-2-clause-fault c =
    let l = c.args.listing.now in
    let exit = c.from_residual-in_err-take_name-2 in
    let p = err_from_is_err_and exit.result exit.ensures.1 in
    rw (p.1, p.2) (runs_after (most_of c.args.limit) c.args.names.now c.take_name.new.names (listing_namings l)
    ((l.at, l.from) ∷ [])
    ((l.at, l.to) ∷ []) [] c.in_err-take_name-2.field-0.0 c.in_ok-take_name.ensures.gains refl
    c.in_err-take_name-2.ensures.fault)
