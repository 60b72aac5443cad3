-- Two nets that differ only by the names of their nodes have the same fans, cuts and sides.
use Rattle.std.proofs.Common.{◌≡◌, ◌∙◌, ℕ, ◌<◌, inl, inr, List, [], ◌∷◌, ◌++◌, map, refl, sym, ap, subst, arith}
use Rattle.ov_ids.specs.Members.{Has, IsDistinct, IsApart}
use Rattle.ov_ids.proofs.Members.{has_append_left, has_append_right, has_append_cases}
use Rattle.ov_graph.specs.Links.{Linked}
use Rattle.ov_graph.specs.Joined.{Leads, IsWalk, IsNodeSet}
use Rattle.ov_graph.specs.Paths.{IsPath, ShareOnly}
use Rattle.ov_graph.proofs.EvenTest.Walks.{joined_end}
use Rattle.ov_split.specs.SplitNetState.{
  SplitNetState,
  IsSplitNet,
  IsFanOf,
  IsReached,
  IsCutOf,
  IsLeastCut,
  IsNearestCut,
  IsSideOf,
}
use Rattle.ov_split.proofs.ByNames.Mapped.{has_map, map_has, length_map, ordered_map}

-- f maps the nodes of n to those of m, and g maps them back. Both keep the order
pub record IsRenamed (n m : SplitNetState) (f g : ℕ → ℕ) : Type 0 where
  pub net : IsSplitNet n
  pub back_net : IsSplitNet m
  pub nodes : (x : ℕ) → Has n.graph.nodes x → Has m.graph.nodes (f x)
  pub back_nodes : (v : ℕ) → Has m.graph.nodes v → Has n.graph.nodes (g v)
  pub there : (x : ℕ) → Has n.graph.nodes x → g (f x) ≡ x
  pub back : (v : ℕ) → Has m.graph.nodes v → f (g v) ≡ v
  pub rises : (x y : ℕ) → Has n.graph.nodes x → Has n.graph.nodes y → x < y → f x < f y
  pub back_rises : (u v : ℕ) → Has m.graph.nodes u → Has m.graph.nodes v → u < v → g u < g v
  pub links : (a b : ℕ) → Linked n.graph a b → Linked m.graph (f a) (f b)
  pub back_links : (u v : ℕ) → Linked m.graph u v → Linked n.graph (g u) (g v)
  pub source : f n.source ≡ m.source
  pub targets : (x : ℕ) → Has n.targets x → Has m.targets (f x)
  pub back_targets : (v : ℕ) → Has m.targets v → Has n.targets (g v)
  pub avoided : (x : ℕ) → Has n.avoided x → Has m.avoided (f x)
  pub back_avoided : (v : ℕ) → Has m.avoided v → Has n.avoided (g v)

pub flip : (n m : SplitNetState) (f g : ℕ → ℕ) → IsRenamed n m f g → IsRenamed m n g f
flip n m f g r = record {
  net = r.back_net;
  back_net = r.net;
  nodes = r.back_nodes;
  back_nodes = r.nodes;
  there = r.back;
  back = r.there;
  rises = r.back_rises;
  back_rises = r.rises;
  links = r.back_links;
  back_links = r.links;
  source = ap g (sym r.source) ∙ r.there n.source r.net.source;
  targets = r.back_targets;
  back_targets = r.targets;
  avoided = r.back_avoided;
  back_avoided = r.avoided;
}

module _ (n m : SplitNetState) (f g : ℕ → ℕ) (r : IsRenamed n m f g) where
  -- nodes with the same new name are equal
  one_name : (x y : ℕ) → Has n.graph.nodes x → Has n.graph.nodes y → f x ≡ f y → x ≡ y
  one_name x y hx hy e = sym (r.there x hx) ∙ ap g e ∙ r.there y hy

  -- a node with the new name of a member is that member
  from_names : (s : List ℕ) → ((y : ℕ) → Has s y → Has n.graph.nodes y) → (x : ℕ) → Has n.graph.nodes x
      → Has (map f s) (f x) → Has s x
  from_names s nodes x hx h = let q = map_has f s (f x) h in subst (Has s) (one_name q.0 x (nodes q.0 q.1) hx q.2) q.1

  leads_renamed : (a b : ℕ) (xs : List ℕ) → Leads (Linked n.graph) a xs b
      → Leads (Linked m.graph) (f a) (map f xs) (f b)
  leads_renamed a b [] l = ap f l
  leads_renamed a b (x ∷ xs) l = (r.links a x l.0, leads_renamed x b xs l.1)

  walk_renamed : (a b : ℕ) (walk : List ℕ) → IsWalk n.graph a walk b → IsWalk m.graph (f a) (map f walk) (f b)
  walk_renamed a b [] w = w
  walk_renamed a b (y ∷ ys) w = (ap f w.0, leads_renamed a b ys w.1)

  -- what is reached without s here is reached without t there, where t has no more than s
  pub reached_renamed : (s t : List ℕ) → ((x : ℕ) → Has n.graph.nodes x → Has t (f x) → Has s x) → (x : ℕ)
      → IsReached n s x → IsReached m t (f x)
  reached_renamed s t back x j = (
    map f j.0,
    subst (λ (a : ℕ). IsWalk m.graph a (map f j.0) (f x)) r.source (walk_renamed n.source x j.0 j.1),
    λ v h.
        let q = map_has f j.0 v h in
        let survives = j.2 q.0 q.1 in (
          subst (Has m.graph.nodes) q.2 (r.nodes q.0 survives.0),
          λ k. survives.1 (elim (has_append_cases m.avoided t v k) [
            | inl a ↦ has_append_left n.avoided s q.0 (subst (Has n.avoided) (r.there q.0 survives.0)
                (r.back_avoided (f q.0) (subst (Has m.avoided) (sym q.2) a)))
            | inr a ↦ has_append_right n.avoided s q.0 (back q.0 survives.0 (subst (Has t) (sym q.2) a))
          ]),
        ),
  )

  pub set_renamed : (s : List ℕ) → IsNodeSet n.graph s → IsNodeSet m.graph (map f s)
  set_renamed s set = record {
    ascends = ordered_map (λ x y. x < y) (λ x y. x < y) f s
        (λ x y hx hy l. r.rises x y (set.nodes x hx) (set.nodes y hy) l) set.ascends;
    nodes = λ v h.
        let q = map_has f s v h in
        subst (Has m.graph.nodes) q.2 (r.nodes q.0 (set.nodes q.0 q.1));
  }

module _ (n m : SplitNetState) (f g : ℕ → ℕ) (r : IsRenamed n m f g) where
  -- what is reached there without the renamed set is reached here without the set
  pub reached_back : (s : List ℕ) (v : ℕ) → IsReached m (map f s) v → IsReached n s (g v)
  reached_back s v j =
      reached_renamed m n g f (flip n m f g r) (map f s) s
      (λ u hu k. subst (Has (map f s)) (r.back u hu) (has_map f s (g u) k)) v j

  -- what is reached here without a renamed set is reached there without the set
  reached_on : (t : List ℕ) (v : ℕ) → Has m.graph.nodes v → IsReached n (map g t) (g v) → IsReached m t v
  reached_on t v hv j =
      subst (IsReached m t) (r.back v hv) (reached_renamed n m f g r (map g t) t
      (λ x hx k. subst (Has (map g t)) (r.there x hx) (has_map g t (f x) k)) (g v) j)

  pub cut_renamed : (s : List ℕ) → IsCutOf n s → IsCutOf m (map f s)
  cut_renamed s cut = record {
    set = set_renamed n m f g r s cut.set;
    source = λ h.
        let k = subst (Has (map f s)) (sym r.source) h in
        cut.source (from_names n m f g r s cut.set.nodes n.source r.net.source k);
    off = λ v h k.
        let q = map_has f s v h in
        cut.off q.0 q.1 (subst (Has n.avoided) (ap g (sym q.2) ∙ r.there q.0 (cut.set.nodes q.0 q.1))
        (r.back_avoided v k));
    parts = λ t h j. cut.parts (g t) (r.back_targets t h) (reached_back s t j);
  }

module _ (n m : SplitNetState) (f g : ℕ → ℕ) (r : IsRenamed n m f g) where
  pub least_renamed : (s : List ℕ) → IsLeastCut n s → IsLeastCut m (map f s)
  least_renamed s least = record {
    cut = cut_renamed n m f g r s least.cut;
    least = λ t c.
        let l = least.least (map g t) (cut_renamed m n g f (flip n m f g r) t c) in
        omega (arith, l, length_map f s, length_map g t);
  }

module _ (n m : SplitNetState) (f g : ℕ → ℕ) (r : IsRenamed n m f g) where
  -- a nearest cut here is one there under the new names
  pub nearest_renamed : (s : List ℕ) → IsNearestCut n s → IsNearestCut m (map f s)
  nearest_renamed s near = record {
    least = least_renamed n m f g r s near.least;
    nearest = λ t c v j.
        let back = reached_back n m f g r s v j in
        let on = near.nearest (map g t) (least_renamed m n g f (flip n m f g r) t c) (g v) back in
        reached_on n m f g r t v (joined_end m.graph (m.avoided ++ map f s) m.source v j).0 on;
  }

  -- the side of a cut here is its side there under the new names
  pub side_renamed : (s side : List ℕ) → IsNodeSet n.graph s → IsSideOf n s side → IsSideOf m (map f s) (map f side)
  side_renamed s side set of = record {
    set = set_renamed n m f g r side of.set;
    each = λ v. (
      (λ h.
          let q = map_has f side v h in
          let names = from_names n m f g r s set.nodes in
          subst (IsReached m (map f s)) q.2
          (reached_renamed n m f g r s (map f s) names q.0 ((of.each q.0).0 q.1))),
      (λ j.
          let hv = (joined_end m.graph (m.avoided ++ map f s) m.source v j).0 in
          subst (Has (map f side)) (r.back v hv)
          (has_map f side (g v) ((of.each (g v)).1 (reached_back n m f g r s v j)))),
    );
  }

  distinct_renamed : (p : List ℕ) → ((x : ℕ) → Has p x → Has n.graph.nodes x) → IsDistinct p → IsDistinct (map f p)
  distinct_renamed [] nodes d = tt
  distinct_renamed (y ∷ ys) nodes d = (
    (λ h. d.0 (from_names n m f g r ys (λ x k. nodes x (inr k)) y (nodes y (inl refl)) h)),
    distinct_renamed ys (λ x h. nodes x (inr h)) d.1,
  )

  pub path_renamed : (a b : ℕ) (p : List ℕ) → IsPath n.graph a p b → IsPath m.graph (f a) (map f p) (f b)
  path_renamed a b p path = record {
    nodes = λ v h.
        let q = map_has f p v h in
        subst (Has m.graph.nodes) q.2 (r.nodes q.0 (path.nodes q.0 q.1));
    walk = walk_renamed n m f g r a b p path.walk;
    distinct = distinct_renamed p path.nodes path.distinct;
  }

  share_renamed : (ps : List (List ℕ)) → ((p : List ℕ) → Has ps p → (x : ℕ) → Has p x → Has n.graph.nodes x)
      → ShareOnly (n.source ∷ []) ps → ShareOnly (m.source ∷ []) (map (map f) ps)
  share_renamed [] nodes only = tt
  share_renamed (p ∷ ps) nodes only = (
    (λ q v hq hp hv.
        let a = map_has (map f) ps q hq in
        let x = map_has f p v hp in
        let y = map_has f a.0 v (subst (λ (l : List ℕ). Has l v) (sym a.2) hv) in
        let hx = nodes p (inl refl) x.0 x.1 in
        let hy = nodes a.0 (inr a.1) y.0 y.1 in
        let same = one_name n m f g r y.0 x.0 hy hx (y.2 ∙ sym x.2) in
        elim (only.0 a.0 x.0 a.1 x.1 (subst (Has a.0) same y.1)) [
          | inl e ↦ inl (sym r.source ∙ ap f e ∙ x.2)
          | inr w ↦ absurd w
        ]),
    share_renamed ps (λ q h. nodes q (inr h)) only.1,
  )

  -- a fan here is one there under the new names
  pub fan_renamed : (k : ℕ) (ps : List (List ℕ)) → IsFanOf n k ps → IsFanOf m k (map (map f) ps)
  fan_renamed k ps fan = record {
    fan = record {
      count = length_map (map f) ps ∙ fan.fan.count;
      outside = r.back_net.no_target;
      each = λ p h.
          let q = map_has (map f) ps p h in
          let e = fan.fan.each q.0 q.1 in (
            f e.0,
            r.targets e.0 e.1,
            subst (λ (a : ℕ). IsPath m.graph a p (f e.0)) r.source
                (subst (λ (l : List ℕ). IsPath m.graph (f n.source) l (f e.0)) q.2 (path_renamed n.source e.0 q.0 e.2)),
          );
      apart = share_renamed ps (λ p h. let e = fan.fan.each p h in e.2.nodes) fan.fan.apart;
    };
    off = λ p h.
        let q = map_has (map f) ps p h in
        subst (IsApart m.avoided) q.2 (λ v hv ha.
        let x = map_has f q.0 v hv in
        let e = fan.fan.each q.0 q.1 in
        fan.off q.0 q.1 x.0 x.1 (subst (Has n.avoided) (ap g (sym x.2) ∙ r.there x.0 (e.2.nodes x.0 x.1))
        (r.back_avoided v ha)));
  }
