-- One job more.
use Rattle.std.proofs.Common.{◌≡◌, ◌∙◌, ◌++◌, ◌∷◌, [], ap, append_assoc, arith, length, length-append, sym, unwrap_or}
use Rattle.std.proofs.lemmas.List.{append-nil}
use Rattle.ov_run.specs.Code.Jobs.{Job, jobs_of}
use Rattle.ov_run.proofs.Blocks.Jobs.{job_next, nothing_left}
use Rattle.ov_run.proofs.sections_at_once.jobs_of.Goals as goal

pub loop-pass-init : goal.loop-pass-init
loop-pass-init g c =
    let passes = c.into_iter-pass-iterator.ensures.into_iter_gives.0 in
    let none = c.in_ok-jobs.ensures.items in
    record {
      jobs = ap (λ l. l ++ jobs_of c.into_iter-pass-iterator.result.rest.items c.into_iter-left.result.rest.items) none
          ∙ (λ i. jobs_of (passes i) (c.into_iter-left.ensures.rest i));
      room = omega (
        arith,
        ap length none,
        ap length passes,
        c.in_ok-jobs.ensures.capacity,
        c.len.ensures,
        c.args.passes.ok.0,
      );
    }

pub loop-pass-preserved : goal.loop-pass-preserved
loop-pass-preserved g c =
    let i = c.loop-pass.invariant in
    let jobs = c.loop-pass.jobs.items in
    let p = c.in-Some.pass in
    let ps = c.next.new.self.rest.items in
    let o = c.next-in-loop-pass.result in
    let left = c.next-in-loop-pass.new.self.rest in
    let later = jobs_of ps left.items in
    let lines : c.in_ok-section.section ≡ unwrap_or o [] =
    c.in_ok-section.ensures
    ∙ (c.unwrap_or-lines.ensures ∙ ap (unwrap_or o) (c.new-in-loop-pass.ensures ∙ c.new.ensures.items)) in
    let taken : c.loop-pass.pass-iterator.rest.items ≡ p ∷ ps = c.in-Some.ensures.steps.0 in
    let next : jobs_of (p ∷ ps) c.loop-pass.left.rest.items ≡ (p, unwrap_or o []) ∷ later =
    job_next p ps c.loop-pass.left.rest.items left.items _ _ o (sym c.loop-pass.left.rest.ok.0) (sym left.ok.0)
    c.next-in-loop-pass.ensures.cases in
    let own : Job = (p, c.in_ok-section.section) in
    let pushed : c.push_reserved.new.self.items ≡ jobs ++ own ∷ [] = c.push_reserved.ensures.items in
    record {
      jobs = ap (λ l. l ++ later) pushed
          ∙ (append_assoc jobs (own ∷ []) later
          ∙ ((λ k. jobs ++ (p, lines k) ∷ later)
          ∙ ((λ k. jobs ++ sym next k)
          ∙ ((λ k. jobs ++ jobs_of (sym taken k) c.loop-pass.left.rest.items) ∙ i.jobs))));
      room = omega (
        arith,
        ap length pushed,
        length-append jobs (own ∷ []),
        c.push_reserved.ensures.capacity,
        ap length taken,
        i.room,
      );
    }

pub returns : goal.returns
returns g c =
    let jobs = c.loop-pass.jobs.items in
    let rest = c.loop-pass.pass-iterator.rest in
    let none = nothing_left rest.items (sym rest.ok.0 ∙ c.in-None.ensures.steps.0) in
    sym (append-nil jobs)
    ∙ ((λ k. jobs ++ jobs_of (sym none k) c.loop-pass.left.rest.items) ∙ c.loop-pass.invariant.jobs)
