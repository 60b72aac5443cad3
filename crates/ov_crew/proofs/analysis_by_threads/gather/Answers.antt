-- One more haul and one more seat.
use Rattle.std.proofs.Common.{◌≡◌, List, [], ◌∷◌, ◌++◌, length, Ok, sym, ap, ◌∙◌, arith, append_assoc, length-append}
use Rattle.std.specs.Prelude.{Result}
use Rattle.ov_ids.specs.declared.out_of_memory.OutOfMemory.{OutOfMemory}
use Rattle.ov_even.specs.declared.worker_haul.Haul.{Haul}
use Rattle.ov_crew.specs.Code.Crews.{Outcome, outcomes}
use Rattle.ov_crew.proofs.Gathering.{outcomes_more}
use Rattle.ov_crew.proofs.analysis_by_threads.gather.Goals as goal

pub loop-haul-preserved : goal.loop-haul-preserved
loop-haul-preserved c =
    let i = c.loop-haul.invariant in
    let p = c.push_reserved.ensures in
    let q = c.push_reserved-in-loop-haul.ensures in
    let hauls = c.loop-haul.hauls.items in
    let seats = c.loop-haul.seats.items in
    let was = c.loop-haul.yielded in
    let h = c.in_ok-haul.field-0 in
    let s = c.in-Some.seat in
    let last : Outcome = (c.in-Some.haul, s) in
    let both : Outcome = (Ok h, s) in
    let is : last ≡ both = ap (λ (r : Result Haul OutOfMemory). (r, s)) c.in_ok-haul.was in
    let more : was ++ last ∷ [] ≡ outcomes hauls seats ++ both ∷ [] = λ k. i.same k ++ is k ∷ [] in
    let pushed : outcomes (hauls ++ h ∷ []) (seats ++ s ∷ [])
    ≡ outcomes c.push_reserved.new.self.items c.push_reserved-in-loop-haul.new.self.items =
    λ k. outcomes (sym p.items k) (sym q.items k) in
    let long = length-append was (last ∷ []) in
    record {
      hauls = omega (arith, ap length p.items, i.hauls, length-append hauls (h ∷ []), long);
      seats = omega (arith, ap length q.items, i.seats, length-append seats (s ∷ []), long);
      hauls_room = omega (arith, p.capacity, i.hauls_room);
      seats_room = omega (arith, q.capacity, i.seats_room);
      rest = append_assoc was (last ∷ []) c.next.new.self.rest.items
          ∙ (ap (λ (r : List Outcome). was ++ r) (sym c.in-Some.ensures.steps.0) ∙ i.rest);
      same = more ∙ (sym (outcomes_more hauls seats h s (i.hauls ∙ sym i.seats)) ∙ pushed);
    }
