use Rattle.std.proofs.Common.{subst, rules}
use Rattle.ov_ids.specs.Sets.{IsSet}
use Rattle.ov_ids.proofs.Members.{has_tested}
use Rattle.ov_ids.proofs.Sets.{has_at, has_past_end}
use Rattle.ov_ids.proofs.id_set.IdSet.place_of.Goals as goal
use Rattle.ov_ids.proofs.id_set.IdSet.place_of.Goals.{else-i-ids-via-then-i-ids+else-eq, else-i-ids-via-else-i-ids}

pub returns-then-eq-clause-member : goal.returns-then-eq-clause-member
returns-then-eq-clause-member c =
    let sorted = subst IsSet c.self.view_is c.self.invariant in
    let at = has_at c.args.id c.args.self.now c.index-ids-i.result sorted (search rules) in
    has_tested c.args.self.now c.args.id _ (cc (at))

pub returns-else-i-ids-clause-value : goal.returns-else-i-ids-clause-value
returns-else-i-ids-clause-value c =
    elim c.else-i-ids.branch [
      | else-i-ids-via-then-i-ids+else-eq w ↦
          let sorted = subst IsSet c.self.view_is c.self.invariant in
          let at = has_at c.args.id c.args.self.now w.index-ids-i.result sorted (search rules) in
          cc (at)
      | else-i-ids-via-else-i-ids w ↦
          let past = has_past_end c.args.id c.args.self.now (search rules) in
          cc (past)
    ]

pub returns-else-i-ids-clause-member : goal.returns-else-i-ids-clause-member
returns-else-i-ids-clause-member c =
    has_tested c.args.self.now c.args.id _ (returns-else-i-ids-clause-value c)
