-- The pass and what is told of one result more.
use Rattle.std.proofs.Common.{◌≡◌, ◌∙◌, ◌++◌, ◌∷◌, [], ap, append_assoc, arith, length, length-append, map, sym}
use Rattle.std.proofs.lemmas.List.{append-nil}
use Rattle.ov_run.specs.Code.Jobs.{Ran}
use Rattle.ov_run.proofs.Blocks.Jobs.{nothing_left}
use Rattle.ov_run.proofs.sections_at_once.sorted_out.Goals as goal

pub loop-pass-init : goal.loop-pass-init
loop-pass-init g c =
    let none = c.requires.empty in
    let room = c.requires.room in
    let rest = c.into_iter-pass-iterator.ensures.into_iter_gives.0 in
    let long = ap length rest in
    record {
      passes = λ i. none.0 i ++ map (λ (x : Ran). x.0) (rest i);
      told = λ i. none.1 i ++ map (λ (x : Ran). x.1) (rest i);
      room = omega (arith, ap length none.0, long, room.0);
      room_told = omega (arith, ap length none.1, long, room.1);
    }

pub loop-pass-preserved : goal.loop-pass-preserved
loop-pass-preserved g c =
    let i = c.loop-pass.invariant in
    let passes = c.loop-pass.passes.items in
    let told = c.loop-pass.told.items in
    let left = c.next.new.self.rest.items in
    let own : Ran = (c.in-Some.pass, c.in-Some.own) in
    let taken : c.loop-pass.pass-iterator.rest.items ≡ own ∷ left = c.in-Some.ensures.steps.0 in
    let pushed : c.push_reserved.new.self.items ≡ passes ++ own.0 ∷ [] = c.push_reserved.ensures.items in
    let said : c.push_reserved-in-loop-pass.new.self.items ≡ told ++ own.1 ∷ [] =
    c.push_reserved-in-loop-pass.ensures.items in
    let long = ap length taken in
    record {
      passes = ap (λ l. l ++ map (λ (x : Ran). x.0) left) pushed
          ∙ (append_assoc passes (own.0 ∷ []) (map (λ (x : Ran). x.0) left)
          ∙ ((λ k. passes ++ map (λ (x : Ran). x.0) (sym taken k)) ∙ i.passes));
      told = ap (λ l. l ++ map (λ (x : Ran). x.1) left) said
          ∙ (append_assoc told (own.1 ∷ []) (map (λ (x : Ran). x.1) left)
          ∙ ((λ k. told ++ map (λ (x : Ran). x.1) (sym taken k)) ∙ i.told));
      room = omega (
        arith,
        ap length pushed,
        length-append passes (own.0 ∷ []),
        c.push_reserved.ensures.capacity,
        long,
        i.room,
      );
      room_told = omega (
        arith,
        ap length said,
        length-append told (own.1 ∷ []),
        c.push_reserved-in-loop-pass.ensures.capacity,
        long,
        i.room_told,
      );
    }

pub returns-clause-passes : goal.returns-clause-passes
returns-clause-passes g c =
    let passes = c.loop-pass.passes.items in
    let rest = c.loop-pass.pass-iterator.rest in
    let none = nothing_left rest.items (sym rest.ok.0 ∙ c.in-None.ensures.steps.0) in
    sym (append-nil passes)
    ∙ ((λ k. passes ++ map (λ (x : Ran). x.0) (sym none k)) ∙ c.loop-pass.invariant.passes)

pub returns-clause-told : goal.returns-clause-told
returns-clause-told g c =
    let told = c.loop-pass.told.items in
    let rest = c.loop-pass.pass-iterator.rest in
    let none = nothing_left rest.items (sym rest.ok.0 ∙ c.in-None.ensures.steps.0) in
    sym (append-nil told)
    ∙ ((λ k. told ++ map (λ (x : Ran). x.1) (sym none k)) ∙ c.loop-pass.invariant.told)
