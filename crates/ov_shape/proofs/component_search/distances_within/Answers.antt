-- The distances from one node more, and from all.
use Rattle.std.proofs.Common.{ℕ, ◌+◌, ◌≤◌, sym, subst, arith}
use Rattle.ov_graph.specs.Row.{HasBit}
use Rattle.ov_shape.proofs.ShapeOfGraph.Passing.{IsPassing, passing_begun, passing_more, passing_sum, passing_far}
use Rattle.ov_shape.proofs.component_search.distances_within.Goals as goal

pub search-found-requires : goal.search-found-requires
search-found-requires g c =
    (omega arith, (((c.requires.found.set_of c.in-Some.place).0 c.in-Some.ensures.some.set).0, c.requires.room))

pub members-init : goal.members-init
members-init g c = record {
  passing = passing_begun c.args.graph.now c.args.component.now.places c.args.component.now.count
      c.words_in_use-words.ensures.graph c.requires.found;
  fits = omega arith;
}

pub members-preserved : goal.members-preserved
members-preserved g c =
    let b = c.in-Some.ensures.fits in
    let h = c.args.graph.now in
    let places = c.args.component.now.places in
    let f = c.search-found.result in
    let passing = passing_more h places c.args.component.now.count c.members.from c.in-Some.place c.members.all.total
    c.members.all.far f c.words_in_use-words.ensures.graph c.requires.found c.in-Some.ensures.some
    c.search-found.ensures c.members.invariant.passing in
    record {
      passing = subst (λ (k : ℕ). IsPassing h places (c.in-Some.place + 1) (c.members.all.total + f.total) k)
          (sym c.max.ensures) passing;
      fits = omega (arith, b);
    }

pub returns-clause-total : goal.returns-clause-total
returns-clause-total g c =
    let places = c.args.component.now.places in
    let from = c.members.from in
    let enough = c.words_in_use-words.ensures.words.enough in
    let none : (q : ℕ) → from ≤ q → ¬ HasBit places q = λ q l h. let m = ((c.requires.found.set_of q).0 h).0 in
    c.in_default.ensures.none q l (omega (arith, m, enough)) h in
    passing_sum c.args.graph.now places from c.members.all.total c.members.all.far none c.members.invariant.passing

pub returns-clause-far : goal.returns-clause-far
returns-clause-far g c =
    let places = c.args.component.now.places in
    let from = c.members.from in
    let enough = c.words_in_use-words.ensures.words.enough in
    let none : (q : ℕ) → from ≤ q → ¬ HasBit places q = λ q l h. let m = ((c.requires.found.set_of q).0 h).0 in
    c.in_default.ensures.none q l (omega (arith, m, enough)) h in
    passing_far c.args.graph.now places c.args.component.now.count from c.members.all.total c.members.all.far
    c.words_in_use-words.ensures.graph c.requires.found none c.members.invariant.passing
