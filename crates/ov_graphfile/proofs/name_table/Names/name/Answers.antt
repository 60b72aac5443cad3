-- An id that is no node has no name, nor has a node whose place has none.
use Rattle.std.proofs.Common.{ℕ, List, None, IfNone, map, refl, subst, arith}
use Rattle.std.specs.Option.{option_copied}
use Rattle.ov_graphfile.specs.NamesState.{NamesState, IsNamed, names_of}
use Rattle.ov_graphfile.proofs.Tables.{copied_at, stranger, untold}
use Rattle.ov_graphfile.proofs.name_table.Names.name.Goals as goal

pub returns-in_err-place-clause-none : goal.returns-in_err-place-clause-none
returns-in_err-place-clause-none c =
    let s = c.self.inside in
    rw c.from_residual.ensures
    (subst (λ (n : NamesState). (name : List ℕ) → ¬ IsNamed n c.args.id name) c.self.view_is
    (λ name. stranger (names_of s.graph.now (map (λ t. option_copied t) s.told.items)) c.args.id name
    c.in_err-place.ensures.none))

pub returns-clause-none : goal.returns-clause-none
returns-clause-none c =
    let s = c.self.inside in
    let place = c.in_ok-place.place in
    let at = c.in_ok-place.ensures.some in
    let size = c.self.invariant in
    let below = at.0 in
    subst (λ (n : NamesState). IfNone c.index.result.now ((name : List ℕ) → ¬ IsNamed n c.args.id name))
    c.self.view_is
    (untold (λ t. option_copied t) s.graph.now (map (λ t. option_copied t) s.told.items) c.args.id place
    c.index.result.now refl c.in_ok-place.ensures.graph below at.1
    (copied_at (λ t. option_copied t) None s.told.items place c.index.result.now (omega (arith, size, below))
    c.index.ensures))
