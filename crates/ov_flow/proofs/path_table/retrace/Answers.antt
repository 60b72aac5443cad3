-- Path by path.
use Rattle.std.proofs.Common.{rules, arith, ◌∙◌, ◌≢◌, take, take_all, get_or, subst}
use Rattle.std.proofs.lemmas.List.{take_more}
use Rattle.ov_ids.specs.Members.{Has}
use Rattle.ov_ids.proofs.Members.{has_place}
use Rattle.ov_split.specs.Places.{net_by_place}
use Rattle.ov_flow.specs.Code.Walked.{table_of}
use Rattle.ov_flow.proofs.Copying.{IsCopy, copy_none, copy_more, copy_all}
use Rattle.ov_flow.proofs.path_table.retrace.Goals as goal

pub loop-end-init : goal.loop-end-init
loop-end-init g c = record {
  long = c.clear.ensures.long ∙ c.requires.next;
  copy = copy_none (net_by_place c.args.net.now) (table_of c.args.from.now) (table_of c.clear.new.self)
      c.clear.ensures.empty;
}

pub copy_path-requires : goal.copy_path-requires
copy_path-requires g c = (
  omega arith,
  (
    c.requires.ready,
    (
      search rules,
      (
        search rules,
        (
          search rules,
          (
            (has_place c.args.ends.now c.loop-end.end-index 0 c.loop-end-test.true),
            (λ e. let n = net_by_place c.args.net.now in
                let h = c.requires.targets _ (has_place c.args.ends.now c.loop-end.end-index 0 c.loop-end-test.true) in
                c.requires.ready.placed.net.no_target (subst (Has n.targets) e h)),
          ),
        ),
      ),
    ),
  ),
)

pub loop-end-preserved : goal.loop-end-preserved
loop-end-preserved g c =
    let n = net_by_place c.args.net.now in
    let i = c.loop-end.end-index in
    let ends = c.args.ends.now in
    let e = get_or ends i 0 in
    let h = has_place ends i 0 c.loop-end-test.true in
    let apart : e ≢ n.source = λ s. c.requires.ready.placed.net.no_target (subst (Has n.targets) s (c.requires.targets
    e h)) in
    record {
      long = c.copy_path.ensures.long ∙ c.loop-end.invariant.long;
      copy = rw (take_more ends i 0 c.loop-end-test.true)
          (copy_more n (table_of c.args.from.now) (table_of c.loop-end.next) (table_of c.copy_path.new.next)
          (take i ends) e apart c.loop-end.invariant.copy c.copy_path.ensures.copied);
    }

pub returns-clause-flow : goal.returns-clause-flow
returns-clause-flow g c =
    let n = net_by_place c.args.net.now in
    let from = table_of c.args.from.now in
    let next = table_of c.loop-end.next in
    let ends = c.args.ends.now in
    copy_all n from next ends c.requires.held
    (subst (IsCopy n from next) (take_all c.loop-end.end-index ends c.loop-end-test.false)
    c.loop-end.invariant.copy) c.requires.targets
