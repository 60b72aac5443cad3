-- A node in the map follows a plan.
use Rattle.std.proofs.Common.{◌≡◌, ℕ, Result, Ok, Err, OnOk, OnErr, Some, sym, ap, ◌∙◌}
use Rattle.std.specs.Cmp.{nat_cmp_total}
use Rattle.std.specs.Ordering.{nat_cmp}
use Rattle.std.specs.FinMap as map
use Rattle.std.specs.FinMap.{nat_cmp-IsAntisymmetric}
use Rattle.ov_peer.specs.declared.plan.Plan.{Plan}
use Rattle.ov_plum.proofs.Maps.{put_again}
use Rattle.ov_net.specs.Code.Effects.{MemberFollows, NodeChanges}
use Rattle.ov_net.specs.declared.planned_effects.NodeChange.TheVariants as change
use Rattle.ov_net.specs.declared.member.Member.{Member}

module _ {A E P Q : Type 0} where
  -- what follows from what holds at Ok, and at Err
  pub on_ok : (r : Result A E) → (P → Q) → OnOk r P → OnOk r Q
  on_ok (Ok x) f h = f h
  on_ok (Err e) f h = tt

  pub on_err : (r : Result A E) → (P → Q) → OnErr r P → OnErr r Q
  on_err (Ok x) f h = tt
  on_err (Err e) f h = f h

-- the node at an id followed the plan
pub followed : (m n : map.FinMap nat_cmp Member) (k : ℕ) (g : Plan) (a b : Member) → Some a ≡ map.get m k
    → n ≡ map.insert m k b → MemberFollows a g b → NodeChanges k (change.Follows g) m n
followed m n k g a b at is f = (f.0, f.1, sym at ∙ ap (λ (x : Member). Some x) f.2, f.3, is ∙ ap (map.insert m k) f.4)

-- the node at an id stayed as it was
pub stayed : (m n : map.FinMap nat_cmp Member) (k : ℕ) (a b : Member) → Some a ≡ map.get m k → n ≡ map.insert m k b
    → b ≡ a → n ≡ m
stayed m n k a b at is same =
    is ∙ ap (map.insert m k) same ∙ put_again nat_cmp_total nat_cmp-IsAntisymmetric m k a (sym at)
