-- One more part is joined.
use Rattle.std.proofs.Common.{◌≡◌, ◌∙◌, ◌+◌, ◌*◌, ℕ, List, [], ◌∷◌, ◌++◌, length, slice_get, take, take_all, drop, Some}
use Rattle.std.proofs.Common.{sym, ap, subst, arith, append_assoc, append-nil, length-append}
use Rattle.std.proofs.lemmas.List.{nil_from_length}
use Rattle.std.specs.Prelude.{IfOk}
use Rattle.ov_crew.specs.Code.Parts.{Part}
use Rattle.ov_crew.proofs.Joining.{take_more, at_next}
use Rattle.ov_crew.proofs.parallel_paths_by_ids.joined.Goals as goal

pub loop-part-preserved : goal.loop-part-preserved
loop-part-preserved c =
    let seen = c.loop-part.yielded in
    let part = c.in-Some.part in
    let rest = c.next.new.self.rest.items in
    let i = c.loop-part.invariant in
    let rest_is = append_assoc seen (part ∷ []) rest
    ∙ (ap (λ (r : List Part). seen ++ r) (sym c.in-Some.ensures.steps.0) ∙ i.rest) in
    record {
      rest = rest_is;
      all = λ size named are.
          let at = subst (λ (ps : List Part). slice_get ps (length seen) ≡ Some part)
          (sym (append_assoc seen (part ∷ []) rest) ∙ rest_is) (at_next seen rest part) in
          let of_part = are (length seen) part at in
          let same : c.in_ok-part.part.items ≡ take size (drop (length seen * size) named) =
          subst (λ (r : Part). IfOk r (λ v. v.items ≡ take size (drop (length seen * size) named))) c.in_ok-part.was
          of_part in
          let more : length (seen ++ part ∷ []) * size ≡ length seen * size + size =
          rw (length-append seen (part ∷ [])) (omega arith) in
          c.in_ok-append.ensures.items ∙ ap (λ xs. xs ++ c.in_ok-part.part.items) (i.all size named are)
          ∙ ap (λ xs. take (length seen * size) named ++ xs) same
          ∙ sym (take_more (length seen * size) size named) ∙ ap (λ (k : ℕ). take k named) (sym more);
    }

pub returns : goal.returns
returns c size named are enough =
    let seen = c.loop-part.yielded in
    let rest = c.loop-part.part-iterator.rest in
    let none = nil_from_length rest.items (sym rest.ok.0 ∙ c.in-None.ensures.steps.0) in
    let is : seen ≡ c.args.parts.items = sym (append-nil seen) ∙ ap (λ (l : List Part). seen ++ l) (sym none)
    ∙ c.loop-part.invariant.rest in
    c.loop-part.invariant.all size named are ∙ ap (λ (ps : List Part). take (length ps * size) named) is
    ∙ take_all (length c.args.parts.items * size) named enough
