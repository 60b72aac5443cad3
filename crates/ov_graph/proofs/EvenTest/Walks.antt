-- Walks, and what is joined.
use Rattle.std.proofs.Common.{◌∙◌, ℕ, ◌⊎◌, inl, inr, List, [], ◌∷◌, ◌++◌, refl, sym, subst}
use Rattle.ov_ids.specs.Members.{Has}
use Rattle.ov_graph.specs.Links.{LinkGraph, Linked}
use Rattle.ov_graph.specs.Joined.{Leads, IsWalk, Survives, Joined}

pub linked_sym : (g : LinkGraph) (a b : ℕ) → Linked g a b → Linked g b a
unfolding Linked
linked_sym g a b h = elim h [ inl k ↦ inr k | inr k ↦ inl k ]

-- one more step after the last
pub leads_push : (R : ℕ → ℕ → Type 0) (a b c : ℕ) (xs : List ℕ) → Leads R a xs b → R b c → Leads R a (xs ++ c ∷ []) c
leads_push R a b c [] l r = (subst (λ (z : ℕ). R z c) (sym l) r, refl)
leads_push R a b c (x ∷ xs) l r = (l.0, leads_push R x b c xs l.1 r)

-- all of the list are surviving nodes
abbrev pub AllSurvive : LinkGraph → List ℕ → List ℕ → Type 0
AllSurvive g s xs = (x : ℕ) → Has xs x → Survives g.nodes s x

pub joined_self : (g : LinkGraph) (s : List ℕ) (a : ℕ) → Survives g.nodes s a → Joined g s a a
joined_self g s a n = (
  a ∷ [],
  (refl, refl),
  λ x h. elim h [
    | inl e ↦ subst (Survives g.nodes s) e n
    | inr k ↦ absurd k
  ],
)

stepped : (g : LinkGraph) (s : List ℕ) (a b c : ℕ) (walk : List ℕ) → Linked g a b → Survives g.nodes s a
    → IsWalk g b walk c → AllSurvive g s walk → Joined g s a c
stepped g s a b c [] l n w stay = absurd w
stepped g s a b c (x ∷ rest) l n w stay = (
  a ∷ b ∷ rest,
  (refl, (l, w.1)),
  λ y h. elim h [
    | inl e ↦ subst (Survives g.nodes s) e n
    | inr k ↦ elim k [ inl e ↦ stay y (inl (w.0 ∙ e)) | inr m ↦ stay y (inr m) ]
  ],
)

pub joined_step : (g : LinkGraph) (s : List ℕ) (a b c : ℕ) → Linked g a b → Survives g.nodes s a → Joined g s b c
    → Joined g s a c
joined_step g s a b c l n j = stepped g s a b c j.0 l n j.1 j.2

-- from a along the steps xs to b, and on to c
pub joined_on : (g : LinkGraph) (s : List ℕ) (a b c : ℕ) (xs : List ℕ) → Leads (Linked g) a xs b → Survives g.nodes s a
    → AllSurvive g s xs → Joined g s b c → Joined g s a c
joined_on g s a b c [] e n stay j = subst (λ (z : ℕ). Joined g s z c) (sym e) j
joined_on g s a b c (x ∷ xs) w n stay j =
    joined_step g s a x c w.0 n (joined_on g s x b c xs w.1 (stay x (inl refl)) (λ y h. stay y (inr h)) j)

-- the parts of a walk
pub record Steps (g : LinkGraph) (s : List ℕ) (a b : ℕ) : Type 0 where
  pub steps : List ℕ
  pub leads : Leads (Linked g) a steps b
  pub start : Survives g.nodes s a
  pub stay : AllSurvive g s steps

steps_in : (g : LinkGraph) (s : List ℕ) (a b : ℕ) (walk : List ℕ) → IsWalk g a walk b → AllSurvive g s walk
    → Steps g s a b
steps_in g s a b [] w stay = absurd w
steps_in g s a b (x ∷ rest) w stay = record {
  steps = rest;
  leads = w.1;
  start = stay a (inl w.0);
  stay = λ y h. stay y (inr h);
}

pub steps_of : (g : LinkGraph) (s : List ℕ) (a b : ℕ) → Joined g s a b → Steps g s a b
steps_of g s a b j = steps_in g s a b j.0 j.1 j.2

pub joined_trans : (g : LinkGraph) (s : List ℕ) (a b c : ℕ) → Joined g s a b → Joined g s b c → Joined g s a c
joined_trans g s a b c i j = let w = steps_of g s a b i in joined_on g s a b c w.steps w.leads w.start w.stay j

back : (g : LinkGraph) (s : List ℕ) (a b : ℕ) (xs : List ℕ) → Leads (Linked g) a xs b → Survives g.nodes s a
    → AllSurvive g s xs → Joined g s b a
back g s a b [] e n stay = subst (λ (z : ℕ). Joined g s z a) e (joined_self g s a n)
back g s a b (x ∷ xs) w n stay =
    joined_trans g s b x a (back g s x b xs w.1 (stay x (inl refl)) (λ y h. stay y (inr h)))
    (joined_step g s x a a (linked_sym g a x w.0) (stay x (inl refl)) (joined_self g s a n))

pub joined_sym : (g : LinkGraph) (s : List ℕ) (a b : ℕ) → Joined g s a b → Joined g s b a
joined_sym g s a b j = let w = steps_of g s a b j in back g s a b w.steps w.leads w.start w.stay

last_step : (g : LinkGraph) (a b : ℕ) (xs : List ℕ) → Leads (Linked g) a xs b → Has (a ∷ xs) b
last_step g a b [] e = inl e
last_step g a b (x ∷ xs) w = inr (last_step g x b xs w.1)

pub walk_end : (g : LinkGraph) (a b : ℕ) (walk : List ℕ) → IsWalk g a walk b → Has walk b
walk_end g a b [] w = absurd w
walk_end g a b (x ∷ rest) w = elim (last_step g a b rest w.1) [ inl e ↦ inl (w.0 ∙ e) | inr h ↦ inr h ]

pub joined_end : (g : LinkGraph) (s : List ℕ) (a b : ℕ) → Joined g s a b → Survives g.nodes s b
joined_end g s a b j = j.2 b (walk_end g a b j.0 j.1)

-- a property of a that passes along links outside s holds of each node that is joined to a
pub joined_keeps : (g : LinkGraph) (s side : List ℕ) (a b : ℕ)
    → ((x y : ℕ) → Has side x → Linked g x y → Has side y ⊎ Has s y) → Has side a → Joined g s a b → Has side b
joined_keeps g s side a b closed h j = let w = steps_of g s a b j in go a w.steps w.leads h w.stay
  where
    go : (x : ℕ) (xs : List ℕ) → Leads (Linked g) x xs b → Has side x → AllSurvive g s xs → Has side b
    go x [] e k stay = subst (Has side) e k
    go x (y ∷ ys) l k stay =
        elim (closed x y k l.0) [
          | inl m ↦ go y ys l.1 m (λ z p. stay z (inr p))
          | inr m ↦ absurd ((stay y (inl refl)).1 m)
        ]
