use Rattle.std.proofs.Common.{◌≡◌, ◌≢◌, eqb, false, not, length, sym, ap, ◌∙◌, arith}
use Rattle.std.proofs.lemmas.Bool.{ne_eqb, eqb-false}
use Rattle.std.specs.Prelude.{nat_le}
use Rattle.ov_views.specs.JoinRows.{walk_targets}
use Rattle.ov_join.proofs.JoinLemmas.{targets_tested}
use Rattle.ov_join.proofs.ends_here.Goals.{then-ttl-eq0, else-ttl-eq0}
use Rattle.ov_join.proofs.ends_here.Goals as goal

pub returns-else-active-le1-clause-value : goal.returns-else-active-le1-clause-value
returns-else-active-le1-clause-value c =
    let v = c.args.views.now in
    let nobody : not c.has_target.result ≡ eqb (length (walk_targets v c.args.from c.args.node)) 0 =
    ap not c.has_target.ensures ∙ targets_tested c.args.from c.args.node v.active in
    elim c.if-ttl-eq0.branch [
      | then-ttl-eq0 w ↦
          let steps : c.args.ttl ≢ 0 = eqb-false c.args.ttl 0 (sym w.value-is ∙ c.if-active-le1.false) in
          absurd (omega (arith, steps, w.if-ttl-eq0.true))
      | else-ttl-eq0 w ↦
          let left : eqb c.args.ttl 0 ≡ false = ne_eqb c.args.ttl 0 (omega (arith, w.if-ttl-eq0.false)) in
          let many : nat_le (length v.active) 1 ≡ false =
          rw (← w.active.ensures.value) (sym w.value-is ∙ c.if-active-le1.false) in
          rw (left, many) nobody
    ]

pub returns-else-active-le1-clause-targets : goal.returns-else-active-le1-clause-targets
returns-else-active-le1-clause-targets c = λ some.
    let targets = walk_targets c.args.views.now c.args.from c.args.node in
    let nobody : not c.has_target.result ≡ eqb (length targets) 0 =
    ap not c.has_target.ensures ∙ targets_tested c.args.from c.args.node c.args.views.now.active in
    let there : length targets ≢ 0 = eqb-false (length targets) 0 (sym nobody ∙ some) in
    omega (arith, there)
