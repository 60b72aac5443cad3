-- A fan has no more paths than a cut has nodes, and there is one nearest least cut.
use Rattle.std.proofs.Common.{◌≢◌, ℕ, ◌≤◌, ◌⊎◌, inl, inr, List, [], ◌∷◌, ◌++◌, length, refl, sym, subst, arith}
use Rattle.std.proofs.lemmas.Bool.{cases_eq, cases_lt}
use Rattle.ov_ids.specs.Members.{Has}
use Rattle.ov_ids.proofs.Members.{has_or_not, has_append_left, has_append_right, has_append_cases, ascends_distinct}
use Rattle.ov_ids.proofs.Members.{same_ascending}
use Rattle.ov_graph.specs.Links.{LinkGraph, Linked}
use Rattle.ov_graph.specs.Joined.{Leads, Survives, Joined}
use Rattle.ov_graph.proofs.EvenTest.Walks.{steps_of, joined_self, joined_step, joined_trans, joined_end}
use Rattle.ov_graph.proofs.EvenTest.Escape.{escape}
use Rattle.ov_split.specs.SplitNetState.{SplitNetState, IsFanOf, IsCutOf, IsNearestCut}
use Rattle.ov_split.specs.Theorems.{OneNearestCut}
use Rattle.ov_split.proofs.Augmenting.Lists.{others_of, off_both, set_of, set_ascends, set_short, in_set, from_set}

-- a fan has no more paths than a cut has nodes
pub cut_bounds_fan : (n : SplitNetState) (k : ℕ) (paths : List (List ℕ)) (s : List ℕ) → IsFanOf n k paths → IsCutOf n s
    → k ≤ length s
cut_bounds_fan n k paths s fan cut =
    let count = fan.fan.count in
    elim (cases_lt (length s) k) [
      | inl few ↦
          let q = escape (n.source ∷ []) s paths
          (λ x h. elim h [ inl e ↦ subst (λ (z : ℕ). ¬ Has s z) e cut.source | inr m ↦ absurd m ]) fan.fan.apart
          (omega (arith, count, few)) in
          let t = fan.fan.each q.0 q.1 in
          absurd (cut.parts t.0 t.1 (
            q.0,
            t.2.walk,
            λ x h. (t.2.nodes x h, off_both n.avoided s x (fan.off q.0 q.1 x h) (q.2 x h)),
          ))
      | inr le ↦ le
    ]

-- a walk that may meet c, but nothing else of s, reaches b or a neighbour of c
met : (g : LinkGraph) (s : List ℕ) (a b c x : ℕ) (xs : List ℕ) → Joined g s a x → Leads (Linked g) x xs b
    → ((y : ℕ) → Has xs y → y ≢ c → Survives g.nodes s y) → Joined g s a b ⊎ ((y : ℕ) × Joined g s a y × Linked g y c)
met g s a b c x [] j l stay = inl (subst (Joined g s a) l j)
met g s a b c x (y ∷ ys) j l stay = elim (cases_eq y c) [
  | inl e ↦ inr (x, j, subst (Linked g x) e l.0)
  | inr ne ↦
      let on = joined_step g s x y y l.0 (joined_end g s a x j) (joined_self g s y (stay y (inl refl) ne)) in
      met g s a b c y ys (joined_trans g s a x y j on) l.1 (λ z h. stay z (inr h))
]

-- each node of a nearest cut is in each other one: else the cut without it is a cut
in_other : (n : SplitNetState) (s t : List ℕ) → IsNearestCut n s → IsNearestCut n t → (c : ℕ) → Has s c → Has t c
in_other n s t p q c h = elim (has_or_not t c) [
  | inl k ↦ k
  | inr o ↦
      let r = others_of s c h (ascends_distinct s p.least.cut.set.ascends) in
      let rest = set_of r.rest in
      let inner : (y : ℕ) → Has rest y → Has s y = λ y m. r.within y (from_set r.rest y m) in
      let g = n.graph in
      let keep : (y : ℕ) → y ≢ c → Survives g.nodes (n.avoided ++ rest) y → Survives g.nodes (n.avoided ++ s) y =
      λ y ne sy. (
        sy.0,
        λ m. sy.1 (elim (has_append_cases n.avoided s y m) [
          | inl k ↦ has_append_left n.avoided rest y k
          | inr k ↦ elim (r.others y k) [
            | inl e ↦ absurd (ne (sym e))
            | inr w ↦ has_append_right n.avoided rest y (in_set r.rest y w)
          ]
        ]),
      ) in
      let cut : IsCutOf n rest = record {
        set = record { ascends = set_ascends r.rest; nodes = λ x m. p.least.cut.set.nodes x (inner x m) };
        source = λ m. p.least.cut.source (inner n.source m);
        off = λ x m. p.least.cut.off x (inner x m);
        parts = λ b hb j.
            let w = steps_of g (n.avoided ++ rest) n.source b j in
            let start = keep n.source (λ e. p.least.cut.source (subst (Has s) (sym e) h)) w.start in
            let m = met g (n.avoided ++ s) n.source b c n.source w.steps
            (joined_self g (n.avoided ++ s) n.source start) w.leads (λ y k ne. keep y ne (w.stay y k)) in
            elim m [
              | inl k ↦ p.least.cut.parts b hb k
              | inr k ↦
                  let x = p.nearest t q.least k.0 k.1 in
                  let there : Survives g.nodes (n.avoided ++ t) c =
                  (p.least.cut.set.nodes c h, off_both n.avoided t c (p.least.cut.off c h) o) in
                  let at = joined_trans g (n.avoided ++ t) n.source k.0 c x
                  (joined_step g (n.avoided ++ t) k.0 c c k.2 (joined_end g (n.avoided ++ t) n.source k.0 x)
                  (joined_self g (n.avoided ++ t) c there)) in
                  (joined_end g (n.avoided ++ s) n.source c (q.nearest s p.least c at)).1
                  (has_append_right n.avoided s c h)
            ];
      } in
      let l = p.least.least rest cut in
      let m = set_short r.rest in
      absurd (omega (arith, l, m, r.shorter))
]

-- there is one nearest cut
pub one_nearest_cut : OneNearestCut
one_nearest_cut n s t p q =
    same_ascending s t p.least.cut.set.ascends q.least.cut.set.ascends (in_other n s t p q) (in_other n t s q p)
