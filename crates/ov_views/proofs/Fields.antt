-- The views in a method that sees their fields.
use Rattle.std.proofs.Common.{◌≡◌, ℕ, Bool, false, sym, subst, ◌∙◌}
use Rattle.ov_views.specs.ViewsState.{ViewsState, is_close}
use Rattle.ov_views.specs.declared.views.Views.TheInside.{Inside}

-- the state that these fields make
abbrev pub views_of : Inside → ViewsState
views_of i = record { me = i.me; params = i.params; active = i.active; passive = i.passive }

-- who was not found to be the node itself or active is neither
pub is_far : (i : Inside) (v : ViewsState) (x : ℕ) (found : Bool) → views_of i ≡ v → found ≡ is_close v x →
    found ≡ false → is_close (views_of i) x ≡ false
is_far i v x found same close none = subst (λ u. is_close u x ≡ false) (sym same) (sym close ∙ none)
