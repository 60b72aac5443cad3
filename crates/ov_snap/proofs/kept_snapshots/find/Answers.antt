use Rattle.std.proofs.Common.{rules}
use Rattle.std.proofs.lemmas.List.Sorted.{answers_always}
use Rattle.ov_snap.proofs.Finding.{found_at, not_there}
use Rattle.ov_snap.proofs.kept_snapshots.find.Goals as goal

-- the closure gives a snapshot's moment
pub returns-in-Ok-clause-some : goal.returns-in-Ok-clause-some
returns-in-Ok-clause-some c =
    let facts = c.binary_search_by_key.ensures in
    let by_key = facts.position (λ s. s.moment) (answers_always _ _ _ (λ f a r g called. search rules)) in
    found_at c.args.snapshots.now c.args.moment c.in-Ok.place c.binary_search_by_key.result
    c.index-snapshots-place.result c.in-Ok.is facts.bound by_key c.index-snapshots-place.is

pub returns-in-Err-clause-none : goal.returns-in-Err-clause-none
returns-in-Err-clause-none c =
    let facts = c.binary_search_by_key.ensures in
    let by_key = facts.position (λ s. s.moment) (answers_always _ _ _ (λ f a r g called. search rules)) in
    not_there c.args.snapshots.now c.args.moment _ c.binary_search_by_key.result c.in-Err.is c.requires
    facts.bound by_key
