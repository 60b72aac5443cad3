-- One share more.
use Rattle.std.proofs.Common.{◌≡◌, ◌∙◌, List, [], ◌∷◌, ◌++◌, length, slice_get, Some, sym, ap, subst, append_assoc, rules}
use Rattle.std.specs.Prelude.{IfOk}
use Rattle.std.proofs.lemmas.List.Elements.{All-append, All-nil}
use Rattle.ov_sweep.specs.Code.Shares.{AreDone, Done, IsDone, Share}
use Rattle.ov_sweep.proofs.Sharing.{at_next}
use Rattle.ov_sweep.proofs.overlay_batch_growing.gathered.Goals as goal

pub loop-share-init : goal.loop-share-init
loop-share-init c = record {
  rest = search rules;
  all = λ m batch are.
      subst (λ (l : List Done). AreDone m batch l) (sym c.new-all.ensures.items) (All-nil (IsDone m batch));
}

pub loop-share-preserved : goal.loop-share-preserved
loop-share-preserved c =
    let seen = c.loop-share.yielded in
    let share = c.in-Some.share in
    let rest = c.next.new.self.rest.items in
    let i = c.loop-share.invariant in
    let rest_is = append_assoc seen (share ∷ []) rest
    ∙ (ap (λ (r : List Share). seen ++ r) (sym c.in-Some.ensures.steps.0) ∙ i.rest) in
    record {
      rest = rest_is;
      all = λ m batch are.
          let at = subst (λ (ss : List Share). slice_get ss (length seen) ≡ Some share)
          (sym (append_assoc seen (share ∷ []) rest) ∙ rest_is) (at_next seen rest share) in
          let done = subst (λ (s : Share). IfOk s (λ v. AreDone m batch v.items)) c.in_ok-share.was
          (are (length seen) share at) in
          rw c.in_ok-append.ensures.items (All-append (IsDone m batch) _ _ (i.all m batch are) done);
    }

pub returns : goal.returns
returns c m batch are = c.loop-share.invariant.all m batch are
