-- The names of the entries, and then those of the listings.
use Rattle.std.proofs.Common.{◌≡◌, [], ℕ, List, subst}
use Rattle.std.proofs.lemmas.Result.{err_from_is_err_and}
use Rattle.std.specs.List.{flat_map}
use Rattle.ov_graph.specs.Links.{most_of}
use Rattle.ov_dump.specs.Code.Taking.{Gains, RunsOver}
use Rattle.ov_dump.specs.Faults.{entry_namings, listing_namings}
use Rattle.ov_dump.specs.declared.dump_and_graph_types.HostEntry.{HostEntry}
use Rattle.ov_dump.specs.declared.dump_and_graph_types.Listing.{Listing}
use Rattle.ov_dump.proofs.Takings.{ends_too, over_in_ends, over_in_entries}
use Rattle.ov_dump.proofs.node_names_by_choice.take_all.Goals as goal

-- from what a call says of a slice and of a set, to the entries of the dump and to no name
of_dump : (most : ℕ) (names : List (List ℕ)) (slice entries : List HostEntry) (mid : List (List ℕ)) → names ≡ []
    → slice ≡ entries
    → Gains most names (entry_namings slice) mid → Gains most [] (entry_namings entries) mid
of_dump most names slice entries mid none same gains =
    subst (λ (es : List HostEntry). Gains most [] (entry_namings es) mid) same
    (subst (λ (ns : List (List ℕ)). Gains most ns (entry_namings slice) mid) none gains)

pub returns-in_err-take_entries-clause-fault : goal.returns-in_err-take_entries-clause-fault
returns-in_err-take_entries-clause-fault c =
    let fault = c.in_err-take_entries.field-0.0 in
    let slice = c.as_slice-entries.result.now in
    let p = err_from_is_err_and c.from_residual.result c.from_residual.ensures.1 in
    rw (p.1, p.2) (over_in_entries c.args.choice c.args.dump.now fault
    (subst (λ (es : List HostEntry). RunsOver (most_of c.args.choice.limit) []
    (entry_namings es) fault) c.as_slice-entries.ensures
    (subst (λ (ns : List (List ℕ)). RunsOver (most_of c.args.choice.limit) ns
    (entry_namings slice) fault) c.requires.none
    c.in_err-take_entries.ensures.fault)))

pub returns-in_err-take_listings-clause-fault : goal.returns-in_err-take_listings-clause-fault
returns-in_err-take_listings-clause-fault c =
    let d = c.args.dump.now in
    let fault = c.in_err-take_listings.field-0.0 in
    let mid = c.take_entries.new.names in
    let exit = c.from_residual-in_err-take_listings in
    let p = err_from_is_err_and exit.result exit.ensures.1 in
    rw (p.1, p.2) (over_in_ends c.args.choice d mid fault c.if-choice.false
    (of_dump (most_of c.args.choice.limit) c.args.names.now c.as_slice-entries.result.now d.entries mid
    c.requires.none c.as_slice-entries.ensures
    c.in_ok-take_entries.ensures.gains)
    (subst (λ (ls : List Listing). RunsOver (most_of c.args.choice.limit) mid
    (flat_map listing_namings ls) fault) c.as_slice-listings.ensures
    c.in_err-take_listings.ensures.fault))

pub returns-clause-gains : goal.returns-clause-gains
returns-clause-gains c =
    let d = c.args.dump.now in
    let mid = c.take_entries.new.names in
    let new = c.take_listings.new.names in
    ends_too c.args.choice d mid new c.if-choice.false
    (of_dump (most_of c.args.choice.limit) c.args.names.now c.as_slice-entries.result.now d.entries mid
    c.requires.none c.as_slice-entries.ensures
    c.in_ok-take_entries.ensures.gains)
    (subst (λ (ls : List Listing). Gains (most_of c.args.choice.limit) mid
    (flat_map listing_namings ls) new) c.as_slice-listings.ensures
    c.in_ok-take_listings.ensures.gains)
