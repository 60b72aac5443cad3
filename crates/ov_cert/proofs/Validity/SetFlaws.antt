-- Why a list of ids is no set of nodes: the first id that does not fit.
use Rattle.std.proofs.Common.{◌≡◌, ◌∙◌, ◌⊎◌, ℕ, suc, ◌+◌, ◌<◌, inl, inr, Bool, true, false, ◌&&◌, cond, nat_lt, List}
use Rattle.std.proofs.Common.{[], ◌∷◌, ◌++◌, length, take, slice_get, Option, Some, None, is_none, refl, sym, ap, subst}
use Rattle.std.proofs.Common.{append_assoc, length-append, arith, add-one, get_or, drop, not}
use Rattle.std.proofs.lemmas.Bool.{both_ways, ltb-true, ltb-false}
use Rattle.std.proofs.lemmas.Option.{same_Some, none-some}
use Rattle.std.proofs.lemmas.List.{take_more}
use Rattle.std.proofs.Math.Seq.{take-append_seam, take-append-add, drop-cons}
use Rattle.std.specs.List.{AllByRecursion, list_all}
use Rattle.ov_ids.specs.Members.{Has, Ascends}
use Rattle.ov_ids.specs.Sets.{has, adding}
use Rattle.ov_ids.specs.Ascending.{is_over, ascends_after}
use Rattle.ov_ids.proofs.Members.{has_tested, has_append_right, has_append_cases, all_member}
use Rattle.ov_graph.specs.Links.{LinkGraph}
use Rattle.ov_graph.specs.Joined.{IsNodeSet}
use Rattle.ov_cert.specs.declared.flaw_types_apart_from_paths.SetFlaw.{SetFlaw}
use Rattle.ov_cert.specs.declared.flaw_types_apart_from_paths.SetFlaw.TheVariants.{NotAbove, NoNode}
use Rattle.ov_cert.specs.FrameFlaws.{IsFirstOut, HasSetFlaw}
use Rattle.ov_cert.specs.Code.Kept.{NodeSetState}
use Rattle.ov_cert.specs.Code.Tests.{is_node_set, first}
use Rattle.ov_cert.specs.Code.FrameFlaws.{order_flaw, set_flaw_after, set_flaw}
use Rattle.ov_cert.proofs.PathRules.NodeSets.{all_append, adding_last, not_above}

-- x is the first of two that is there
pub first_cases : {X : Type 0} (o later : Option X) (x : X) → first o later ≡ Some x
    → (o ≡ Some x) ⊎ ((o ≡ None) × (later ≡ Some x))
first_cases (Some y) later x e = inl e
first_cases None later x e = inr (refl, e)

-- the last of the ids, if there is one
abbrev pub IsLast : Option ℕ → List ℕ → Type 0
IsLast None front = front ≡ []
IsLast (Some b) front = (start : List ℕ) × (front ≡ start ++ b ∷ [])

-- the ids so far are a set of nodes, and `before` is the last of them
pub record Risen (g : LinkGraph) (before : Option ℕ) (front : List ℕ) : Type 0 where
  pub set : IsNodeSet g front
  pub last : IsLast before front

pub begun : (g : LinkGraph) → Risen g None []
begun g = record { set = record { ascends = tt; nodes = λ x h. absurd h }; last = refl }

all_under : (start : List ℕ) (b x : ℕ) → Ascends (start ++ b ∷ []) → b < x
    → AllByRecursion (λ y. y < x) (start ++ b ∷ [])
all_under [] b x up l = (l, tt)
all_under (y ∷ start) b x up l =
    let m : y < b = all_member (λ z. y < z) (start ++ b ∷ []) b up.0 (has_append_right start (b ∷ []) b (inl refl)) in
    (omega (arith, l, m), all_under start b x up.1 l)

-- an id above the last one is above all
pub under : (before : Option ℕ) (front : List ℕ) (x : ℕ) → Ascends front → IsLast before front
    → is_over before x ≡ true → AllByRecursion (λ y. y < x) front
under None front x up last over = subst (AllByRecursion (λ y. y < x)) (sym last) tt
under (Some b) front x up last over = subst (AllByRecursion (λ y. y < x)) (sym last.1)
    (all_under last.0 b x (subst Ascends last.1 up) (ltb-true b x over))

pub ascends_more : (front : List ℕ) (x : ℕ) → Ascends front → AllByRecursion (λ y. y < x) front
    → Ascends (front ++ x ∷ [])
ascends_more [] x up a = (tt, tt)
ascends_more (y ∷ front) x up a = (all_append (λ z. y < z) front x up.0 a.0, ascends_more front x up.1 a.1)

rises : (g : LinkGraph) (before : Option ℕ) (front : List ℕ) (x : ℕ) → Risen g before front → is_over before x ≡ true
    → Ascends (front ++ x ∷ [])
rises g before front x r over = ascends_more front x r.set.ascends (under before front x r.set.ascends r.last over)

pub more : (g : LinkGraph) (before : Option ℕ) (front : List ℕ) (x : ℕ) → Risen g before front
    → is_over before x ≡ true → has g.nodes x ≡ true → Risen g (Some x) (front ++ x ∷ [])
more g before front x r over node = record {
  set = record {
    ascends = rises g before front x r over;
    nodes = λ y h. elim (has_append_cases front (x ∷ []) y h) [
      | inl m ↦ r.set.nodes y m
      | inr k ↦ elim k [
        | inl e ↦ subst (Has g.nodes) e ((has_tested g.nodes x (has g.nodes x) refl).0 node)
        | inr n ↦ absurd n
      ]
    ];
  };
  last = (front, refl);
}

-- there is no flaw of the order exactly if the test passes
pub order_none : (before : Option ℕ) (at x : ℕ) → is_none (order_flaw before at x) ≡ is_over before x
order_none None at x = refl
order_none (Some b) at x = elim (nat_lt b x) as (λ t. is_none (cond t None (Some (NotAbove at x b))) ≡ t)
    [ true ↦ refl | false ↦ refl ]

one_none : (o later : Option SetFlaw) (f : SetFlaw) (over node ascends nodes : Bool) → is_none o ≡ over
    → is_none later ≡ (ascends && nodes)
    → is_none (first o (cond node later (Some f))) ≡ ((over && ascends) && (node && nodes))
one_none (Some y) later f over node ascends nodes e r = rw (← e) refl
one_none None later f over true ascends nodes e r = rw (← e) r
one_none None later f over false true nodes e r = rw (← e) refl
one_none None later f over false false nodes e r = rw (← e) refl

set_none : (g : LinkGraph) (before : Option ℕ) (at : ℕ) (xs : List ℕ)
    → is_none (set_flaw_after g before at xs) ≡ (ascends_after before xs && list_all (λ x. has g.nodes x) xs)
set_none g before at [] = refl
set_none g before at (x ∷ xs) = one_none (order_flaw before at x) (set_flaw_after g (Some x) (suc at) xs)
    (NoNode at x) (is_over before x) (has g.nodes x) (ascends_after (Some x) xs) (list_all (λ x. has g.nodes x) xs)
    (order_none before at x) (set_none g (Some x) (suc at) xs)

-- there is no flaw exactly if the test passes
pub set_tested : (g : LinkGraph) (ids : List ℕ) → is_none (set_flaw g ids) ≡ is_node_set g ids
set_tested g ids = set_none g None 0 ids

at_seam : (front : List ℕ) (x : ℕ) (xs : List ℕ) → slice_get (front ++ x ∷ xs) (length front) ≡ Some x
at_seam [] x xs = refl
at_seam (y ∷ front) x xs = at_seam front x xs

first_out : (g : LinkGraph) (before : Option ℕ) (front : List ℕ) (x : ℕ) (xs : List ℕ) → Risen g before front
    → IsFirstOut g (front ++ x ∷ xs) (length front) x
first_out g before front x xs r =
    (at_seam front x xs, subst (IsNodeSet g) (sym (take-append_seam front (x ∷ xs))) r.set)

order_rule : (g : LinkGraph) (before : Option ℕ) (front : List ℕ) (x : ℕ) (xs : List ℕ) (f : SetFlaw)
    → Risen g before front → order_flaw before (length front) x ≡ Some f → HasSetFlaw g (front ++ x ∷ xs) f
order_rule g None front x xs f r e = absurd (none-some f e)
order_rule g (Some b) front x xs f r e =
    elim (nat_lt b x) as (λ t. nat_lt b x ≡ t → cond t None (Some (NotAbove (length front) x b)) ≡ Some f
    → HasSetFlaw g (front ++ x ∷ xs) f) [
      | true ↦ λ _ s. absurd (none-some f s)
      | false ↦ λ off s. subst (HasSetFlaw g (front ++ x ∷ xs)) (same_Some (NotAbove (length front) x b) f s) (
        first_out g (Some b) front x xs r,
        ltb-false b x off,
        (r.last.0, take-append_seam front (x ∷ xs) ∙ r.last.1),
      )
    ] refl e

rule_after : (g : LinkGraph) (before : Option ℕ) (front xs : List ℕ) (f : SetFlaw) → Risen g before front
    → set_flaw_after g before (length front) xs ≡ Some f → HasSetFlaw g (front ++ xs) f
rule_after g before front [] f r e = absurd (none-some f e)
rule_after g before front (x ∷ xs) f r e =
    let at = length front in
    let later = set_flaw_after g (Some x) (suc at) xs in
    elim (first_cases (order_flaw before at x) (cond (has g.nodes x) later (Some (NoNode at x))) f e) [
      | inl o ↦ order_rule g before front x xs f r o
      | inr k ↦
          let over : is_over before x ≡ true = sym (order_none before at x) ∙ ap is_none k.0 in
          elim (has g.nodes x) as (λ t. has g.nodes x ≡ t → cond t later (Some (NoNode at x)) ≡ Some f
          → HasSetFlaw g (front ++ x ∷ xs) f) [
            | true ↦ λ node s.
                let n : length (front ++ x ∷ []) ≡ suc at = length-append front (x ∷ []) ∙ add-one at in
                subst (λ ids. HasSetFlaw g ids f) (append_assoc front (x ∷ []) xs)
                (rule_after g (Some x) (front ++ x ∷ []) xs f (more g before front x r over node)
                (ap (λ (m : ℕ). set_flaw_after g (Some x) m xs) n ∙ s))
            | false ↦ λ off s. subst (HasSetFlaw g (front ++ x ∷ xs)) (same_Some (NoNode at x) f s) (
              first_out g before front x xs r,
              subst Ascends (sym (take-append-add front (x ∷ xs) 1)) (rises g before front x r over),
              λ h. both_ways (has g.nodes x) off ((has_tested g.nodes x (has g.nodes x) refl).1 h),
            )
          ] refl k.1
    ]

-- the flaw that is found is one that the list has
pub set_rule : (g : LinkGraph) (ids : List ℕ) (f : SetFlaw) → set_flaw g ids ≡ Some f → HasSetFlaw g ids f
set_rule g ids f e = rule_after g None [] ids f (begun g) e

-- one more id, at place p of the ids, which is above the one before it
module _ (g : LinkGraph) (ids : List ℕ) (before : Option ℕ) (p x : ℕ) (l : p < length ids) (at : x ≡ get_or ids p x)
    (r : Risen g before (take p ids)) (ordered : None ≡ order_flaw before p x) where
  over : is_over before x ≡ true
  over = sym (order_none before p x) ∙ ap is_none (sym ordered)

  front : take (p + 1) ids ≡ take p ids ++ x ∷ []
  front = take_more ids p x l ∙ ap (λ (y : ℕ). take p ids ++ y ∷ []) (sym at)

  below : AllByRecursion (λ y. y < x) (take p ids)
  below = under before (take p ids) x r.set.ascends r.last over

  looked : set_flaw_after g before p (drop p ids) ≡ cond (has g.nodes x)
      (set_flaw_after g (Some x) (p + 1) (drop (p + 1) ids)) (Some (NoNode p x))
  looked =
      let rest : drop p ids ≡ x ∷ drop (p + 1) ids = drop-cons ids p x l ∙ rw (← at, add-one p) refl in
      let later = cond (has g.nodes x) (set_flaw_after g (Some x) (suc p) (drop (p + 1) ids)) (Some (NoNode p x)) in
      ap (set_flaw_after g before p) rest ∙ ap (λ (o : Option SetFlaw). first o later) (sym ordered)
      ∙ ap (λ (n : ℕ). cond (has g.nodes x) (set_flaw_after g (Some x) n (drop (p + 1) ids)) (Some (NoNode p x)))
      (sym (add-one p))

  -- it enters the set of the ids before it exactly if it is a node
  pub is_node : (s : NodeSetState) (b : Bool) → s ≡ record { graph = g; members = take p ids }
      → b ≡ (has s.graph.nodes x && not (has s.members x)) → b ≡ has g.nodes x
  is_node s b e f = f ∙ ap (λ (v : NodeSetState). has v.graph.nodes x && not (has v.members x)) e
      ∙ new (has g.nodes x) (has (take p ids) x) (not_above (take p ids) x below)
    where
      new : (a b : Bool) → b ≡ false → (a && not b) ≡ a
      new true b e = rw e refl
      new false b e = refl

  pub refused : has g.nodes x ≡ false → set_flaw_after g before p (drop p ids) ≡ Some (NoNode p x)
  refused off = looked ∙ ap (λ (b : Bool). cond b (set_flaw_after g (Some x) (p + 1) (drop (p + 1) ids))
      (Some (NoNode p x))) off

  pub left : has g.nodes x ≡ true → set_flaw_after g (Some x) (p + 1) (drop (p + 1) ids) ≡ set_flaw_after g before p
      (drop p ids)
  left on = sym (looked ∙ ap (λ (b : Bool). cond b (set_flaw_after g (Some x) (p + 1) (drop (p + 1) ids))
      (Some (NoNode p x))) on)

  pub risen : has g.nodes x ≡ true → Risen g (Some x) (take (p + 1) ids)
  risen on = subst (Risen g (Some x)) (sym front) (more g before (take p ids) x r over on)

  pub entered : (s t : NodeSetState) (b : Bool) → s ≡ record { graph = g; members = take p ids }
      → t ≡ cond b (record s { members = adding x s.members }) s → b ≡ true
      → t ≡ record { graph = g; members = take (p + 1) ids }
  entered s t b e f on =
      f ∙ ap (λ (c : Bool). cond c (record s { members = adding x s.members }) s) on
      ∙ ap (λ (v : NodeSetState). record v { members = adding x v.members }) e
      ∙ ap with_members (adding_last (take p ids) x below ∙ sym front)
    where
      with_members : List ℕ → NodeSetState
      with_members ms = record { graph = g; members = ms }
