-- The options alone decide the rows of broadcasts.
use Rattle.std.proofs.Common.{◌≡◌, ◌∙◌, ◌++◌, true, List, sym, ap, ap₂, subst}
use Rattle.ov_sweep_rows.specs.declared.row.Phase.TheVariants.{Settle, Crash, Heal}
use Rattle.ov_grow.specs.Growing.{begins}
use Rattle.ov_grow.specs.Growth.{Growth}
use Rattle.ov_grow.specs.MessageCosts.{AreCosts}
use Rattle.ov_sweep.specs.MessageRows.{OneMessages, message_rows}
use Rattle.ov_grow.specs.declared.message_cost.MessageCost.{MessageCost}
use Rattle.ov_grow.proofs.OnePhase.{one_from}
use Rattle.ov_sweep.proofs.OneRow.{one_costs_by}

-- where growing stands at one place, broadcasts have one list of costs
same_costs : (g h : Growth) (cs ds : List MessageCost) → g ≡ h → AreCosts g cs → AreCosts h ds → cs ≡ ds
same_costs g h cs ds same are also =
    one_costs_by g.log g cs ds are (subst (λ (x : Growth). AreCosts x ds) (sym same) also)

pub one_messages : OneMessages
one_messages o rows other a b =
    let one = one_from (begins true o) o a.text b.text a.core.world b.core.world a.settled a.crashed a.healed
    b.settled b.crashed b.healed a.grows b.grows in
    let settle : a.settle_costs ≡ b.settle_costs =
    same_costs a.grows.t b.grows.t a.settle_costs b.settle_costs one.at_settle a.settle b.settle in
    let crash : a.crash_costs ≡ b.crash_costs =
    same_costs a.grows.v b.grows.v a.crash_costs b.crash_costs one.at_crash a.crash b.crash in
    let heal : a.heal_costs ≡ b.heal_costs =
    same_costs a.grows.u b.grows.u a.heal_costs b.heal_costs one.at_heal a.heal b.heal in
    a.whole
    ∙ (ap₂ (λ xs ys. xs ++ ys) (ap (λ (cs : List MessageCost). message_rows o Settle 1 cs) settle)
    (ap₂ (λ xs ys. xs ++ ys) (ap (λ (cs : List MessageCost). message_rows o Crash 1 cs) crash)
    (ap (λ (cs : List MessageCost). message_rows o Heal 1 cs) heal))
    ∙ sym b.whole)
