-- One listing more, and all.
use Rattle.std.proofs.Common.{◌≡◌, ◌∙◌, ◌++◌, ◌∷◌, [], Some, ap, rules, sym}
use Rattle.std.proofs.lemmas.Bool.{both_ways}
use Rattle.ov_dump.proofs.Places.{taken_next}
use Rattle.ov_dump.proofs.Answering.{answered, begun, here, told_all, told_before, told_more}
use Rattle.ov_dump.proofs.unanswered_listings.listed_by_one.Goals as goal

pub loop-place-init : goal.loop-place-init
loop-place-init c =
    begun c.as_slice-listings.result.now c.new-told.result c.new-places.result.items c.new-told.ensures
    c.new-places.ensures.items

pub loop-place-preserved-then-contains : goal.loop-place-preserved-then-contains
loop-place-preserved-then-contains c =
    let listings = c.as_slice-listings.result.now in
    let i = c.loop-place.place in
    let l = c.index-listings-place.result in
    let is = c.index-listings-place.is in
    let at = here listings i l c.loop-place-test.true ∙ ap Some (sym is) in
    let next = taken_next listings i l c.loop-place-test.true is in
    let back = (c.in_ok-said.ensures (l.to, l.from)).0 (c.contains.ensures.0 c.if-contains.true) in
    answered listings i l c.loop-place.told c.loop-place.places.items c.loop-place.invariant at next back

pub loop-place-preserved-then-not-fresh : goal.loop-place-preserved-then-not-fresh
loop-place-preserved-then-not-fresh c =
    let listings = c.as_slice-listings.result.now in
    let i = c.loop-place.place in
    let l = c.index-listings-place.result in
    let is = c.index-listings-place.is in
    let at = here listings i l c.loop-place-test.true ∙ ap Some (sym is) in
    let next = taken_next listings i l c.loop-place-test.true is in
    told_before listings i l c.loop-place.told c.insert.new.self c.loop-place.places.items c.loop-place.invariant at
    next
    (λ h. both_ways _ c.if-contains.false (c.contains.ensures.1 ((c.in_ok-said.ensures (l.to, l.from)).1 h)))
    (λ none. both_ways _ c.if-not-fresh.true (c.in_ok-fresh.ensures.fresh.1 none)) c.in_ok-fresh.ensures.pairs

pub loop-place-preserved : goal.loop-place-preserved
loop-place-preserved c =
    let listings = c.as_slice-listings.result.now in
    let i = c.loop-place.place in
    let l = c.index-listings-place.result in
    let is = c.index-listings-place.is in
    let at = here listings i l c.loop-place-test.true ∙ ap Some (sym is) in
    let next = taken_next listings i l c.loop-place-test.true is in
    let pushed : c.push.new.self.items ≡ c.loop-place.places.items ++ i ∷ [] = search rules in
    told_more listings i l c.loop-place.told c.insert.new.self c.loop-place.places.items c.push.new.self.items
    c.loop-place.invariant at next
    (λ h. both_ways _ c.if-contains.false (c.contains.ensures.1 ((c.in_ok-said.ensures (l.to, l.from)).1 h)))
    (c.in_ok-fresh.ensures.fresh.0 c.if-not-fresh.false) c.in_ok-fresh.ensures.pairs pushed

pub returns : goal.returns
returns c =
    let listings = c.as_slice-listings.result.now in
    told_all c.args.dump.now listings c.loop-place.place c.loop-place.told c.loop-place.places.items
    c.loop-place.invariant c.loop-place-test.false c.as_slice-listings.ensures
