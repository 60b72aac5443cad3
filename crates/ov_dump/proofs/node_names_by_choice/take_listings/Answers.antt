-- One listing more.
use Rattle.std.proofs.Common.{◌∙◌, ◌∷◌, [], List, suc, take, drop, ap, sym, subst}
use Rattle.std.specs.List.{flat_map}
use Rattle.std.proofs.lemmas.Result.{err_from_is_err_and}
use Rattle.ov_graph.specs.Links.{most_of}
use Rattle.ov_dump.specs.Code.Taking.{Gains}
use Rattle.ov_dump.specs.Faults.{Naming, listing_namings}
use Rattle.ov_dump.proofs.Places.{parted_at, taken_next}
use Rattle.ov_dump.proofs.Takings.{listings_append, gains_more, gains_none, runs_after}
use Rattle.ov_dump.proofs.node_names_by_choice.take_listings.Goals as goal

pub loop-listing-init : goal.loop-listing-init
loop-listing-init c = gains_none (most_of c.args.limit) c.args.names.now c.requires.few

pub loop-listing-preserved : goal.loop-listing-preserved
loop-listing-preserved c =
    let all = c.args.listings.now in
    let i = c.loop-listing.listing-index in
    let e = c.listing-item.result in
    let next = taken_next all i e c.loop-listing-test.true c.listing-item.is in
    subst (λ (ms : List Naming). Gains (most_of c.args.limit) c.args.names.now ms c.take_ends.new.names)
    (sym (listings_append (take i all) (e ∷ [])) ∙ ap (λ es. flat_map listing_namings (es)) (sym next))
    (gains_more (most_of c.args.limit) c.args.names.now c.loop-listing.names c.take_ends.new.names
    (flat_map listing_namings (take i all))
    (listing_namings e)
    c.loop-listing.invariant c.in_ok-take_ends.ensures.gains)

pub returns-in_err-take_ends-clause-fault : goal.returns-in_err-take_ends-clause-fault
returns-in_err-take_ends-clause-fault c =
    let all = c.args.listings.now in
    let i = c.loop-listing.listing-index in
    let e = c.listing-item.result in
    let split = parted_at all i e c.loop-listing-test.true c.listing-item.is in
    let p = err_from_is_err_and c.from_residual.result c.from_residual.ensures.1 in
    rw (p.1, p.2) (runs_after (most_of c.args.limit) c.args.names.now c.loop-listing.names (flat_map listing_namings
    (all))
    (flat_map listing_namings (take i all)) (listing_namings e)
    (flat_map listing_namings (drop (suc i) all)) c.in_err-take_ends.field-0.0 c.loop-listing.invariant
    (ap (λ es. flat_map listing_namings (es)) split ∙ listings_append (take i all) (e ∷ drop (suc i) all))
    c.in_err-take_ends.ensures.fault)
