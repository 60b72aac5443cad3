use Rattle.std.proofs.Common.{◌↔◌, ℕ, List, sym, subst}
use Rattle.ov_ids.specs.Members.{Has}
use Rattle.ov_dump.specs.Dumps.{IsTaken}
use Rattle.ov_dump.proofs.Takings.{all_taken}
use Rattle.ov_dump.proofs.node_names_by_choice.taken_names.Goals as goal

pub returns-clause-taken : goal.returns-clause-taken
returns-clause-taken c =
    subst (λ (names : List (List ℕ)). (n : List ℕ) → Has names n ↔ IsTaken c.args.choice c.args.dump.now n)
    (sym c.in_ok-into_names.ensures.names)
    (all_taken c.args.choice c.args.dump.now c.take_all.new.names c.in_ok-take_all.ensures.gains)
