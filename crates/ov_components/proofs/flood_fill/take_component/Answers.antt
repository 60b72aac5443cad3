-- The links of one place after another are followed, until no place is reached whose links are to be followed.
use Rattle.std.proofs.Common.{◌≤◌, ◌*◌, ℕ, List, length, subst}
use Rattle.ov_components.proofs.Rows.{less_by_one}
use Rattle.ov_components.proofs.Grown.{rows_begun, grown_begun, follows, rows_more, grown_more, grown_out}
use Rattle.ov_components.proofs.Grown.{component_taken}
use Rattle.ov_components.proofs.flood_fill.take_component.Goals as goal

pub loop-place-init : goal.loop-place-init
loop-place-init v c =
    let g = c.args.graph.now in
    let before = c.args.left.now in
    let unseen = c.clear.new.row in
    record {
      rows = rows_begun g before c.args.start unseen c.clear.ensures;
      grown = λ s whole. grown_begun g s before c.args.start unseen whole c.requires.within c.requires.start
          c.clear.ensures;
    }

pub loop-place-smaller : goal.loop-place-smaller
loop-place-smaller v c =
    let place = c.in-Some.place in
    let left = c.loop-place.left in
    let open_place = (c.without.ensures place).0 c.in-Some.ensures.some.set in
    less_by_one left c.clear-in-Some.new.row c.args.graph.now.nodes place c.clear-in-Some.ensures
    (c.requires.within place (c.loop-place.invariant.rows.within place open_place.1)) open_place.1

pub loop-place-preserved : goal.loop-place-preserved
loop-place-preserved v c =
    let g = c.args.graph.now in
    let before = c.args.left.now in
    let start = c.args.start in
    let left = c.loop-place.left in
    let unseen = c.loop-place.unseen in
    let place = c.in-Some.place in
    let words = c.words_for-words.result in
    let enough = subst (λ (xs : List ℕ). length xs ≤ 64 * words) c.nodes.ensures.nodes
    c.words_for-words.ensures.words.enough in
    let after = c.clear-in-Some.new.row in
    let fresh = c.without-unseen.result in
    let row = c.neighbour_set.result in
    let rows = c.loop-place.invariant.rows in
    let f = follows g left unseen place words after fresh row c.without.result c.without.ensures
    c.in-Some.ensures.some.set c.clear-in-Some.ensures c.without-unseen.ensures c.neighbour_set.ensures.set in
    record {
      rows = rows_more g before start left unseen place words after fresh row rows f;
      grown = λ s whole. grown_more g s before start left unseen place words after fresh row whole c.requires.within
          enough rows (c.loop-place.invariant.grown s whole) f;
    }

pub returns : goal.returns
returns v c =
    let g = c.args.graph.now in
    let before = c.args.left.now in
    let start = c.args.start in
    let left = c.loop-place.left in
    let unseen = c.loop-place.unseen in
    let words = c.words_for-words.result in
    let enough = subst (λ (xs : List ℕ). length xs ≤ 64 * words) c.nodes.ensures.nodes
    c.words_for-words.ensures.words.enough in
    let component = c.without-2.result in
    let out = grown_out before left unseen words component c.without.result c.without.ensures c.in_default.ensures.none
    c.without-2.ensures in
    record {
      taken = λ s whole. component_taken g s before start left unseen words component c.requires.graph whole
          c.requires.within
          enough c.requires.start c.loop-place.invariant.rows
          (c.loop-place.invariant.grown s whole) out;
    }
