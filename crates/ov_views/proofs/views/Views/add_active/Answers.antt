use Rattle.std.proofs.Common.{None, ◌∷◌, ◌++◌, ◌≡◌, ◌<◌, ◌≤◌, [], length, refl, sym, ◌∙◌, ap, subst, arith, inl}
use Rattle.std.proofs.Common.{inr}
use Rattle.std.proofs.lemmas.Bool.{lt-ltb, le-ltb}
use Rattle.std.specs.Prelude.{List}
use Rattle.ov_ids.specs.Sets.{without}
use Rattle.ov_ids.proofs.Sets.{IsIn-without}
use Rattle.ov_words.specs.Pick.{Suffice}
use Rattle.ov_views.specs.ViewsState.{ViewsState}
use Rattle.ov_views.specs.Changes.{AddsActive}
use Rattle.ov_views.specs.Code.ChangeOrder.{in_order}
use Rattle.ov_views.specs.declared.change.ViewChange.{ViewChange}
use Rattle.ov_views.specs.declared.change.ViewChange.TheVariants.{Up}
use Rattle.ov_views.proofs.Fields.{views_of, is_far}
use Rattle.ov_views.proofs.Keeping.{others, KeepsFewer, AreViews-without_passive, AreViews-adding_active}
use Rattle.ov_views.proofs.Keeping.{DropsRandom-keeps, enters, comes_up}
use Rattle.ov_views.proofs.Sufficing.{drops_first}
use Rattle.ov_views.proofs.views.Views.add_active.Goals as goal

pub invariant_of-self : goal.invariant_of-self
invariant_of-self c =
    let v = views_of c.self.inside in
    let far = is_far c.self.inside _ c.args.id _ c.self.view_is c.is_close.ensures.close c.if-is_close.false in
    let o = others v c.args.id far in
    let room : length c.self.inside.active < c.self.inside.params.active = omega arith in
    rw (c.insert.ensures.value, c.remove.ensures.value)
    (AreViews-adding_active (record v { passive = without c.args.id v.passive }) c.args.id
    (AreViews-without_passive v c.args.id c.self.invariant) room o.differs
    (λ h. (IsIn-without c.args.id v.passive c.args.id h).0 refl))

pub returns-then-len-active-clause-drawn : goal.returns-then-len-active-clause-drawn
returns-then-len-active-clause-drawn c =
    let v = views_of c.self.inside in
    let u : ViewsState = record v { passive = without c.args.id v.passive } in
    let far = is_far c.self.inside _ c.args.id _ c.self.view_is c.is_close.ensures.close c.if-is_close.false in
    let room : length c.self.inside.active < c.self.inside.params.active = omega arith in (
      [],
      refl,
      rw (c.new-then-len-active.ensures, c.insert.ensures.value, c.remove.ensures.value, ← c.self.view_is)
          (enters v c.args.id [] u [] far
          (rw (lt-ltb (length c.self.inside.active) c.self.inside.params.active room) ((refl, refl), refl))),
    )

pub invariant_of-self-else-len-active : goal.invariant_of-self-else-len-active
invariant_of-self-else-len-active c = rw c.remove.ensures.value (AreViews-without_passive _ _ c.self.invariant)

pub drop_one-down-requires : goal.drop_one-down-requires
drop_one-down-requires c =
    let v = views_of c.self.inside in
    let P : ViewsState → Type 0 = λ u. Suffice c.args.draws.now
    (λ cs. (w : ViewsState) × (changes : List ViewChange) × AddsActive u c.args.id cs w changes) in
    let far = is_far c.self.inside _ c.args.id _ c.self.view_is c.is_close.ensures.close c.if-is_close.false in
    let full : c.self.inside.params.active ≤ length c.self.inside.active = omega arith in
    rw c.remove.ensures.value
    (drops_first v c.args.id c.args.draws.now far
    (le-ltb (length c.self.inside.active) c.self.inside.params.active full)
    (subst P (sym c.self.view_is) c.requires))

pub invariant_of-self-2 : goal.invariant_of-self-2
invariant_of-self-2 c =
    let v = views_of c.self.inside in
    let u = views_of c.self-2.inside in
    let far = is_far c.self.inside _ c.args.id _ c.self.view_is c.is_close.ensures.close c.if-is_close.false in
    let o = others v c.args.id far in
    let d = rw (c.remove.ensures.value, ← c.self-2.view_is) at c.drop_one-down.ensures.drawn in
    let some : 0 < length c.self.inside.active = omega (arith, c.active.ensures.limits.active_low) in
    let k : KeepsFewer (record v { passive = without c.args.id v.passive }) u = DropsRandom-keeps _ d.0 u _ some d.2 in
    let size : c.self-2.inside.params.active ≡ c.self.inside.params.active = ap (λ p. p.active) k.params in
    let room : length c.self-2.inside.active < c.self-2.inside.params.active =
    omega (arith, k.fewer, c.self.invariant.active_size) in
    rw c.insert-2.ensures.value
    (AreViews-adding_active u c.args.id c.self-2.invariant room (λ e. o.differs (e ∙ k.me))
    (λ h. elim (k.passive c.args.id h)
    [ inl a ↦ o.inactive a | inr q ↦ (IsIn-without c.args.id v.passive c.args.id q).0 refl ]))

pub returns-clause-drawn : goal.returns-clause-drawn
returns-clause-drawn c =
    let v = views_of c.self.inside in
    let u = views_of c.self-2.inside in
    let far = is_far c.self.inside _ c.args.id _ c.self.view_is c.is_close.ensures.close c.if-is_close.false in
    let d = rw (c.remove.ensures.value, ← c.self-2.view_is) at c.drop_one-down.ensures.drawn in
    let full : c.self.inside.params.active ≤ length c.self.inside.active = omega arith in
    let changes : c.new-2.result ≡ in_order c.drop_one-down.result None ++ Up c.args.id ∷ [] = c.new-2.ensures
    ∙ comes_up c.drop_one-down.result c.args.id in (
      d.0,
      d.1,
      rw (changes, c.insert-2.ensures.value, ← c.self.view_is)
          (enters v c.args.id d.0 u _ far
          (rw (le-ltb (length c.self.inside.active) c.self.inside.params.active full) d.2)),
    )
