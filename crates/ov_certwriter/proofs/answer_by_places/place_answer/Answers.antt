-- The outline with the entries of the pieces that were found is the answer. It is valid, and so it is true.
use Rattle.std.proofs.Common.{◌≡◌, List, map, refl, sym, ap₂, subst}
use Rattle.ov_cert.specs.declared.cert.PairPaths.{PairPaths}
use Rattle.ov_cert.specs.declared.cert.FanPaths.{FanPaths}
use Rattle.ov_cert.proofs.Validity.Exact.{valid_means}
use Rattle.ov_even.specs.Naming.{AreWanted, AreFound, named_of}
use Rattle.ov_even.specs.Code.Entries.{pair_entries, fan_entries}
use Rattle.ov_even.specs.declared.paths_by_ids.FoundPaths.{FoundPaths}
use Rattle.ov_even.specs.declared.worker_haul.Keeping.TheVariants.{EachPiece}
use Rattle.ov_even.proofs.AnalysisSteps.Entered.{same_pieces, all_asked}
use Rattle.ov_certwriter.specs.Code.Placed.{cert_with}
use Rattle.ov_certwriter.proofs.Answering.{IsAnsweredBy, answered, valid_full}
use Rattle.ov_certwriter.proofs.answer_by_places.place_answer.Goals as goal
use Rattle.ov_certwriter.proofs.answer_by_places.place_answer.Goals.{In_ok-entries}

pub outline_of_hauls-requires-clause-suffice : goal.outline_of_hauls-requires-clause-suffice
outline_of_hauls-requires-clause-suffice c = (EachPiece, c.requires.suffice)

pub place_entries-requires : goal.place_entries-requires
place_entries-requires c =
    let g = c.args.graph.now in
    let q = c.args.group.now in
    subst (AreFound g q) (sym c.deref.ensures.value) c.in_ok-found.ensures.found

-- the certificate that the outline and the entries stand for
made : (c : In_ok-entries) → IsAnsweredBy c.args.graph.now c.args.group.now
    (cert_with c.in_ok-outline.outline c.in_ok-entries.entries.pairs.items c.in_ok-entries.entries.fans.items)
made c =
    let g = c.args.graph.now in
    let q = c.args.group.now in
    let found = c.in_ok-found.found.items in
    let named = map (named_of g q) found in
    let lent = c.deref.ensures.value in
    let own = c.in_ok-entries.ensures in
    let pairs : c.in_ok-entries.entries.pairs.items ≡ pair_entries q named =
    subst (λ (fs : List FoundPaths). c.in_ok-entries.entries.pairs.items ≡ pair_entries q (map (named_of g q) fs)) lent
    own.pairs in
    let fans : c.in_ok-entries.entries.fans.items ≡ fan_entries q named =
    subst (λ (fs : List FoundPaths). c.in_ok-entries.entries.fans.items ≡ fan_entries q (map (named_of g q) fs)) lent
    own.fans in
    let wanted = subst (AreWanted g q) (sym (same_pieces g q found)) c.in_ok-found.ensures.wanted in
    subst (IsAnsweredBy g q)
    (sym (ap₂ (λ (ps : List PairPaths) (fs : List FanPaths). cert_with c.in_ok-outline.outline ps fs) pairs fans))
    (answered g q c.in_ok-outline.outline named c.nodes.ensures.graph c.requires.group c.in_ok-outline.ensures wanted
    (all_asked g q found c.in_ok-found.ensures.found))

pub invariant_of-result : goal.invariant_of-result
invariant_of-result c = (c.in_ok-outline.ensures.no_paths, valid_full _ _ _ _ _ (made c).valid)

pub returns-clause-answer : goal.returns-clause-answer
returns-clause-answer c =
    let is = made (goal.at.returns-clause-answer c).In_ok-entries in
    record { graph = refl; members = refl; answer = is.answer; fewest = valid_means _ _ _ is.valid }

pub returns-clause-valid : goal.returns-clause-valid
returns-clause-valid c = (made (goal.at.returns-clause-valid c).In_ok-entries).valid
