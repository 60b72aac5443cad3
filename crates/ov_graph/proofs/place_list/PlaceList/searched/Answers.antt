-- The places from where the search ends.
use Rattle.std.proofs.Common.{◌≡◌, ◌∙◌, ◌-◌, List, ℕ, length, take, drop, take_all, length-drop, sym, ap, subst, arith}
use Rattle.ov_ids.specs.Members.{Ascends}
use Rattle.ov_ids.specs.Sets.{count_below}
use Rattle.ov_graph.specs.Code.Listed.{AreFrom}
use Rattle.ov_graph.proofs.BitRows.Halving.{halved}
use Rattle.ov_graph.proofs.PlaceLists.Seeking.{from_place}
use Rattle.ov_graph.proofs.place_list.PlaceList.searched.Goals.{in-Ok, in-Err}
use Rattle.ov_graph.proofs.place_list.PlaceList.searched.Goals as goal

pub returns : goal.returns
returns c =
    let x = c.args.after in
    let xs = c.args.self.now in
    let start = c.match-binary_search.start in
    let lent = c.deref-3.result.now in
    let same2 = c.deref-2.ensures.value ∙ c.self.view_is in
    let same3 = c.deref-3.ensures.value ∙ c.self.view_is in
    let h = halved c.deref-2.result.now x c.binary_search.result (subst Ascends (sym same2) c.requires.ascend)
    c.binary_search.ensures.position in
    let e : start ≡ count_below x c.deref-2.result.now = elim c.match-binary_search.branch [
      | in-Ok w ↦ w.start-is ∙ (rw w.in-Ok.is at h)
      | in-Err w ↦ w.start-is ∙ (rw w.in-Err.is at h)
    ] in
    let all : take (length lent - start) (drop start lent) ≡ drop start xs =
    take_all (length lent - start) (drop start lent) (omega (arith, length-drop start lent))
    ∙ ap (λ (ys : List ℕ). drop start ys) same3 in
    subst (AreFrom xs x) (sym all)
    (from_place xs x start c.requires.ascend (e ∙ ap (λ (ys : List ℕ). count_below x ys) same2))
