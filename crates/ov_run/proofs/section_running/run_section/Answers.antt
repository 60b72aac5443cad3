-- One line more, and all of them.
use Rattle.std.proofs.Common.{◌≡◌, ◌∙◌, ◌++◌, ◌∷◌, [], List, ap, arith, length, length-append, subst, sym}
use Rattle.ov_run_meaning.specs.Sections.{RunsSection, ToldLine}
use Rattle.ov_run.proofs.Blocks.SectionLines.{SectionSoFar, section_ended, section_more}
use Rattle.ov_run.proofs.section_running.run_section.Goals as goal

pub loop-line-preserved : goal.loop-line-preserved
loop-line-preserved g c =
    let params = g.N.HallName.params in
    let job = c.args.job in
    let i = c.loop-line.invariant in
    let now = c.loop-line.pass in
    let told = c.loop-line.told.items in
    let left = c.next.new.self.rest.items in
    let ran = c.run_line-one.result in
    let taken = c.in-Some.ensures.steps.0 in
    let pushed : c.push_reserved.new.self.items ≡ told ++ ran.0 ∷ [] = c.push_reserved.ensures.items in
    let so_far = subst (λ l. SectionSoFar params job.0 job.1 now l told) taken i.so_far in
    record {
      so_far = subst (λ (t : List ToldLine). SectionSoFar params job.0 job.1 ran.1 left t) (sym pushed)
          (section_more params job.0 job.1 now c.in-Some.line left told ran.0 ran.1 so_far c.run_line-one.ensures);
      room = omega (
        arith,
        ap length pushed,
        length-append told (ran.0 ∷ []),
        c.push_reserved.ensures.capacity,
        ap length taken,
        i.room,
      );
    }

pub returns : goal.returns
returns g c =
    let params = g.N.HallName.params in
    let job = c.args.job in
    let rest = c.loop-line.line-iterator.rest in
    subst (λ (t : List ToldLine). RunsSection params job.0 job.1 t c.loop-line.pass) (sym c.new.ensures)
    (section_ended params job.0 job.1 c.loop-line.pass rest.items c.loop-line.told.items
    (sym rest.ok.0 ∙ c.in-None.ensures.steps.0) c.loop-line.invariant.so_far)
