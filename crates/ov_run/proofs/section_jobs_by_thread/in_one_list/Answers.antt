-- The results of one shift more.
use Rattle.std.proofs.Common.{◌∙◌, ◌++◌, ap, append_assoc, arith, flat_map, length, length-append, sym}
use Rattle.std.proofs.lemmas.List.{append-nil}
use Rattle.ov_run.proofs.Blocks.Jobs.{nothing_left}
use Rattle.ov_run.proofs.section_jobs_by_thread.in_one_list.Goals as goal

pub loop-own-init : goal.loop-own-init
loop-own-init g c =
    let rest = c.into_iter-own-iterator.ensures.into_iter_gives.0 in
    let same = ap (λ l. flat_map (λ own. own.items) l) rest in
    record {
      whole = ap (λ l. l ++ flat_map (λ own. own.items) c.into_iter-own-iterator.result.rest.items) c.requires.empty
          ∙ same;
      room = omega (arith, ap length c.requires.empty, ap length same, c.requires.room);
    }

pub with_all-all-requires : goal.with_all-all-requires
with_all-all-requires g c =
    let i = c.loop-own.invariant in
    let left = flat_map (λ own. own.items) c.next.new.self.rest.items in
    let taken = ap (λ l. flat_map (λ own. own.items) l) c.in-Some.ensures.steps.0 in
    record { room = omega (arith, ap length taken, length-append c.in-Some.own.items left, i.room) }

pub loop-own-preserved : goal.loop-own-preserved
loop-own-preserved g c =
    let i = c.loop-own.invariant in
    let all = c.loop-own.all.items in
    let own = c.in-Some.own.items in
    let left = flat_map (λ o. o.items) c.next.new.self.rest.items in
    let taken = ap (λ l. flat_map (λ o. o.items) l) c.in-Some.ensures.steps.0 in
    let gained = c.with_all-all.ensures.items in
    record {
      whole = ap (λ l. l ++ left) gained
          ∙ append_assoc all own left
          ∙ ap (λ l. all ++ l) (sym taken)
          ∙ i.whole;
      room = omega (
        arith,
        ap length gained,
        length-append all own,
        c.with_all-all.ensures.capacity,
        ap length taken,
        length-append own left,
        i.room,
      );
    }

pub returns : goal.returns
returns g c =
    let all = c.loop-own.all.items in
    let rest = c.loop-own.own-iterator.rest in
    let none = nothing_left rest.items (sym rest.ok.0 ∙ c.in-None.ensures.steps.0) in
    sym (append-nil all)
    ∙ ap (λ l. all ++ flat_map (λ own. own.items) l) (sym none)
    ∙ c.loop-own.invariant.whole
