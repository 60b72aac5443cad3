-- The tests are equivalent to the definitions.
use Rattle.std.proofs.Common.{◌≡◌, Some, None, sym, subst, refl}
use Rattle.ov_cert.specs.Verdict.{JudgedForGroup}
use Rattle.ov_cert.proofs.Validity.Exact.{judged, one_verdict, fewest}
use Rattle.ov_cert.proofs.checker.check_group.Goals as goal

pub returns-in-Some-clause-verdict : goal.returns-in-Some-clause-verdict
returns-in-Some-clause-verdict c =
    let g = c.args.graph.now in
    let q = c.args.group.now in
    let cert = c.args.cert.now in
    subst (JudgedForGroup g q cert) (sym c.in-Some.ensures.fault) (judged g q cert c.in-Some.ensures.graph)

pub returns-in-Some-clause-valid : goal.returns-in-Some-clause-valid
returns-in-Some-clause-valid c =
    let g = c.args.graph.now in
    let q = c.args.group.now in
    let cert = c.args.cert.now in (
      (λ t. cc),
      (λ v. let e : Some c.in-Some.fault ≡ None = one_verdict g q cert c.in-Some.ensures.graph (Some c.in-Some.fault)
          None (returns-in-Some-clause-verdict c) v in cc),
    )

pub returns-in-None-clause-verdict : goal.returns-in-None-clause-verdict
returns-in-None-clause-verdict c =
    let g = c.args.graph.now in
    let q = c.args.group.now in
    let cert = c.args.cert.now in
    subst (JudgedForGroup g q cert) (sym c.in-None.ensures.fault) (judged g q cert c.in-None.ensures.graph)

pub returns-in-None-clause-valid : goal.returns-in-None-clause-valid
returns-in-None-clause-valid c = ((λ t. returns-in-None-clause-verdict c), (λ v. refl))

pub returns-in-None-clause-fewest : goal.returns-in-None-clause-fewest
returns-in-None-clause-fewest c = fewest c.args.graph.now c.args.group.now c.args.cert.now
    (returns-in-None-clause-verdict c)
