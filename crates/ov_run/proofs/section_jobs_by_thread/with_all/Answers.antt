-- One result more.
use Rattle.std.proofs.Common.{◌≡◌, ◌∙◌, ◌++◌, ◌∷◌, [], ap, append_assoc, arith, length, length-append, refl, sym}
use Rattle.std.proofs.lemmas.List.{append-nil}
use Rattle.ov_run.proofs.Blocks.Jobs.{nothing_left}
use Rattle.ov_run.proofs.section_jobs_by_thread.with_all.Goals as goal

pub loop-ran-init : goal.loop-ran-init
loop-ran-init g c =
    let rest = c.into_iter-ran-iterator.ensures.into_iter_gives.0 in
    record {
      whole = ap (λ l. c.args.all.items ++ l) rest;
      room = omega (arith, ap length rest, c.requires.room);
      capacity = refl;
    }

pub loop-ran-preserved : goal.loop-ran-preserved
loop-ran-preserved g c =
    let i = c.loop-ran.invariant in
    let all = c.loop-ran.all.items in
    let ran = c.in-Some.ran in
    let left = c.next.new.self.rest.items in
    let taken : c.loop-ran.ran-iterator.rest.items ≡ ran ∷ left = c.in-Some.ensures.steps.0 in
    let pushed : c.push_reserved.new.self.items ≡ all ++ ran ∷ [] = c.push_reserved.ensures.items in
    record {
      whole = ap (λ l. l ++ left) pushed
          ∙ append_assoc all (ran ∷ []) left
          ∙ ap (λ l. all ++ l) (sym taken)
          ∙ i.whole;
      room = omega (
        arith,
        ap length pushed,
        length-append all (ran ∷ []),
        c.push_reserved.ensures.capacity,
        ap length taken,
        i.room,
      );
      capacity = c.push_reserved.ensures.capacity ∙ i.capacity;
    }

pub returns-clause-items : goal.returns-clause-items
returns-clause-items g c =
    let all = c.loop-ran.all.items in
    let rest = c.loop-ran.ran-iterator.rest in
    let none = nothing_left rest.items (sym rest.ok.0 ∙ c.in-None.ensures.steps.0) in
    sym (append-nil all) ∙ ap (λ l. all ++ l) (sym none) ∙ c.loop-ran.invariant.whole
