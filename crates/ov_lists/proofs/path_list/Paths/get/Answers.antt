-- The path at a place lies between two ends.
use Rattle.std.proofs.Common.{◌≡◌, ◌∙◌, ℕ, List, None, Some, length, ap, sym, subst, arith}
use Rattle.std.proofs.lemmas.Option.{slice_get_past}
use Rattle.std.specs.List.{slice_get, slice_range}
use Rattle.ov_lists.specs.Code.Cut.{paths_from}
use Rattle.ov_lists.proofs.Cutting.{count, path_between, between}
use Rattle.ov_lists.proofs.path_list.Paths.get.Goals as goal

pub returns-then-place-len : goal.returns-then-place-len
returns-then-place-len c =
    let p = c.self.inside in
    let n = count 0 p.ends p.ids.items in
    let m = c.len.ensures in
    let l = c.if-place-len.true in
    subst (λ (ps : List (List ℕ)). slice_get ps c.args.place ≡ None) c.self.view_is
    (slice_get_past (paths_from 0 p.ends p.ids.items) c.args.place (omega (arith, n, m, l)))

pub id_range-requires-clause-start : goal.id_range-requires-clause-start
id_range-requires-clause-start c =
    let m = c.len.ensures in
    let l = c.if-place-len.false in
    let w = between c.self.inside.ends (length c.self.inside.ids.items) c.args.place c.start_of-start.result
    c.get.result c.self.invariant (omega (arith, m, l)) c.start_of-start.ensures c.get.ensures in
    w.0

pub id_range-requires-clause-end : goal.id_range-requires-clause-end
id_range-requires-clause-end c =
    let m = c.len.ensures in
    let l = c.if-place-len.false in
    let w = between c.self.inside.ends (length c.self.inside.ids.items) c.args.place c.start_of-start.result
    c.get.result c.self.invariant (omega (arith, m, l)) c.start_of-start.ensures c.get.ensures in
    rw c.deref.ensures.value w.1

pub returns : goal.returns
returns c =
    let p = c.self.inside in
    let m = c.len.ensures in
    let l = c.if-place-len.false in
    let range = c.id_range.ensures
    ∙ ap (λ (ids : List ℕ). slice_range ids c.start_of-start.result c.get.result) c.deref.ensures.value in
    subst (λ (ps : List (List ℕ)). slice_get ps c.args.place ≡ Some c.id_range.result.now) c.self.view_is
    (path_between p.ends p.ids.items c.args.place c.start_of-start.result c.get.result
    (omega (arith, m, l)) c.start_of-start.ensures c.get.ensures ∙ ap (λ (path : List ℕ). Some path) (sym range))
