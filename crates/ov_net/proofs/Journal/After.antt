-- Whom a node holds in its active view, and who is alive, after more changes.
use Rattle.std.proofs.Common.{◌≡◌, ◌≢◌, ◌↔◌, ◌⊎◌, ℕ, List, [], ◌∷◌, ◌++◌, map as each, inl, inr, refl, sym, ap, ◌∙◌}
use Rattle.std.proofs.Common.{subst, append_assoc, append-nil}
use Rattle.std.proofs.lemmas.Bool.{cases_eq, or_left, or_right, eq-eqb, ne_eqb}
use Rattle.ov_ids.specs.Members.{Has}
use Rattle.ov_ids.specs.Sets.{IsIn, adding, without}
use Rattle.ov_ids.proofs.Sets.{IsIn-adding, IsIn-without}
use Rattle.ov_ids.proofs.Sets.{has_adding, has_without}
use Rattle.ov_ids.proofs.Members.{has_tested, has_append_left, has_append_right, has_append_cases}
use Rattle.ov_views.specs.Changes.{after_changes}
use Rattle.ov_views.specs.declared.change.ViewChange.{ViewChange}
use Rattle.ov_views.specs.declared.change.ViewChange.TheVariants as view
use Rattle.ov_net.specs.Journal.{node_of, Concerns, HoldsAfter, LivesAfter}
use Rattle.ov_net.specs.NetStep.{change_at}
use Rattle.ov_net.specs.declared.journal_entry_and_changes.Change.{Change}
use Rattle.ov_net.specs.declared.journal_entry_and_changes.Change.TheVariants.{Born, Up, Down, Gone}

-- none of these changes concerns a and b
abbrev pub Silent : List Change → ℕ → ℕ → Type 0
Silent changes a b = (c : Change) → Has changes c → ¬ Concerns a b c

-- each of these changes is of node a
abbrev pub AllOf : ℕ → List Change → Type 0
AllOf a changes = (c : Change) → Has changes c → node_of c ≡ a

concerned_node : (a b : ℕ) (c : Change) → Concerns a b c → node_of c ≡ a
concerned_node a b c h = elim h [ inl e ↦ ap node_of e | inr (inl e) ↦ ap node_of e | inr (inr e) ↦ ap node_of e ]

-- changes of another node concern nothing of this one
pub others_silent : (a b x : ℕ) (changes : List Change) → AllOf a changes → x ≢ a → Silent changes x b
others_silent a b x changes all other c h k = other (sym (concerned_node x b c k) ∙ all c h)

holds_split : (xs ys earlier later : List Change) (a b : ℕ) → xs ++ ys ≡ earlier ++ Up a b ∷ later → Silent later a b
    → HoldsAfter ys a b ⊎ (HoldsAfter xs a b × Silent ys a b)
holds_split [] ys earlier later a b e quiet = inl (earlier, later, e, quiet)
holds_split (x ∷ xs) ys [] later a b e quiet =
    let head : x ≡ Up a b = cc in
    let tail : xs ++ ys ≡ later = cc in
    let quiet_all : Silent (xs ++ ys) a b = subst (λ (l : List Change). Silent l a b) (sym tail) quiet in
    inr (
      ([], xs, ap (λ c. c ∷ xs) head, λ c h. quiet_all c (has_append_left xs ys c h)),
      λ c h. quiet_all c (has_append_right xs ys c h),
    )
holds_split (x ∷ xs) ys (y ∷ earlier) later a b e quiet =
    let tail : xs ++ ys ≡ earlier ++ Up a b ∷ later = cc in
    elim (holds_split xs ys earlier later a b tail quiet) [
      | inl h ↦ inl h
      | inr h ↦ inr ((x ∷ h.0.0, h.0.1, ap (λ l. x ∷ l) h.0.2, h.0.3), h.1)
    ]

-- if a holds b after more changes, it does so by these alone, or it held b before and none of these concerns them
pub holds_cases : (xs ys : List Change) (a b : ℕ) → HoldsAfter (xs ++ ys) a b
    → HoldsAfter ys a b ⊎ (HoldsAfter xs a b × Silent ys a b)
holds_cases xs ys a b h = holds_split xs ys h.0 h.1 a b h.2 h.3

pub holds_right : (xs ys : List Change) (a b : ℕ) → HoldsAfter ys a b → HoldsAfter (xs ++ ys) a b
holds_right xs ys a b h = (xs ++ h.0, h.1, ap (λ l. xs ++ l) h.2 ∙ sym (append_assoc xs h.0 (Up a b ∷ h.1)), h.3)

pub holds_left : (xs ys : List Change) (a b : ℕ) → HoldsAfter xs a b → Silent ys a b → HoldsAfter (xs ++ ys) a b
holds_left xs ys a b h quiet = (
  h.0,
  h.1 ++ ys,
  ap (λ l. l ++ ys) h.2 ∙ append_assoc h.0 (Up a b ∷ h.1) ys,
  λ c k. elim (has_append_cases h.1 ys c k) [
    | inl m ↦ h.3 c m
    | inr m ↦ quiet c m
  ],
)

-- if a holds b after these changes, Up(a, b) is one of them
pub holds_told : (changes : List Change) (a b : ℕ) → HoldsAfter changes a b → Has changes (Up a b)
holds_told changes a b h =
    subst (λ (l : List Change). Has l (Up a b)) (sym h.2) (has_append_right h.0 (Up a b ∷ h.1) (Up a b) (inl refl))

-- changes that do not concern a and b leave it as it was
pub holds_rests : (xs ys : List Change) (a b : ℕ) → Silent ys a b → HoldsAfter (xs ++ ys) a b ↔ HoldsAfter xs a b
holds_rests xs ys a b quiet = (
  (λ h. elim (holds_cases xs ys a b h) [
    | inl k ↦ absurd (quiet (Up a b) (holds_told ys a b k) (inl refl))
    | inr k ↦ k.0
  ]),
  (λ h. holds_left xs ys a b h quiet),
)

-- if a holds b after one change, that change is Up(a, b)
one_brings : (c : Change) (a b : ℕ) → HoldsAfter (c ∷ []) a b → c ≡ Up a b
one_brings c a b h = elim (holds_told (c ∷ []) a b h) [ inl e ↦ e | inr k ↦ absurd k ]

-- who is in a set with one more, and with one less
pub members_adding : (x : ℕ) (t : List ℕ) (z : ℕ) → Has (adding x t) z ↔ ((x ≡ z) ⊎ Has t z)
members_adding x t z = (
  (λ h. elim (IsIn-adding x t z ((has_tested (adding x t) z _ refl).1 h)) [
    | inl e ↦ inl (sym e)
    | inr k ↦ inr ((has_tested t z _ refl).0 k)
  ]),
  (λ h. (has_tested (adding x t) z _ refl).0 (has_adding x t z ∙ elim h [
    | inl e ↦ or_left _ _ (eq-eqb x z e)
    | inr k ↦ or_right _ _ ((has_tested t z _ refl).1 k)
  ])),
)

pub members_without : (x : ℕ) (t : List ℕ) (z : ℕ) → Has (without x t) z ↔ ((x ≢ z) × Has t z)
members_without x t z = (
  (λ h. let k : (z ≢ x) × IsIn t z = IsIn-without x t z ((has_tested (without x t) z _ refl).1 h) in (
    λ e. k.0 (sym e),
    (has_tested t z _ refl).0 k.1,
  )),
  (λ h. (has_tested (without x t) z _ refl).0 (has_without x t z ∙ rw (ne_eqb x z h.0, (has_tested t z _ refl).1 h.1))),
)

-- one change that does not concern a and b
silent_one : (c : Change) (a b : ℕ) → ¬ Concerns a b c → Silent (c ∷ []) a b
silent_one c a b quiet d h k = elim h [ inl e ↦ quiet (subst (Concerns a b) (sym e) k) | inr none ↦ none ]

-- changes of another node in the active view of a do not concern a and b
up_other : (a x b : ℕ) → x ≢ b → ¬ Concerns a b (Up a x)
up_other a x b other h = elim h [ inl e ↦ other cc | inr (inl e) ↦ absurd cc | inr (inr e) ↦ absurd cc ]

down_other : (a x b : ℕ) → x ≢ b → ¬ Concerns a b (Down a x)
down_other a x b other h = elim h [ inl e ↦ absurd cc | inr (inl e) ↦ other cc | inr (inr e) ↦ absurd cc ]

-- after Up(a, x) a holds x and whom it held before
up_holds : (before : List Change) (a x b : ℕ) (active : List ℕ) → Has active b ↔ HoldsAfter before a b
    → Has (adding x active) b ↔ HoldsAfter (before ++ Up a x ∷ []) a b
up_holds before a x b active held = (to, from)
  where
    told : x ≡ b → HoldsAfter (before ++ Up a x ∷ []) a b
    told e = holds_right before (Up a x ∷ []) a b ([], [], ap (λ y. Up a y ∷ []) e, λ c k. absurd k)

    stays : Has active b → (x ≡ b) ⊎ (x ≢ b) → HoldsAfter (before ++ Up a x ∷ []) a b
    stays k (inl e) = told e
    stays k (inr other) =
        holds_left before (Up a x ∷ []) a b (held.0 k) (silent_one (Up a x) a b (up_other a x b other))

    to : Has (adding x active) b → HoldsAfter (before ++ Up a x ∷ []) a b
    to h = elim ((members_adding x active b).0 h) [ inl e ↦ told e | inr k ↦ stays k (cases_eq x b) ]

    from : HoldsAfter (before ++ Up a x ∷ []) a b → Has (adding x active) b
    from h = (members_adding x active b).1 (elim (holds_cases before (Up a x ∷ []) a b h) [
      | inl k ↦ inl (let e : Up a x ≡ Up a b = one_brings (Up a x) a b k in cc)
      | inr k ↦ inr (held.1 k.0)
    ])

-- after Down(a, x) a holds whom it held before, but x
down_holds : (before : List Change) (a x b : ℕ) (active : List ℕ) → Has active b ↔ HoldsAfter before a b
    → Has (without x active) b ↔ HoldsAfter (before ++ Down a x ∷ []) a b
down_holds before a x b active held = (to, from)
  where
    to : Has (without x active) b → HoldsAfter (before ++ Down a x ∷ []) a b
    to h =
        let k = (members_without x active b).0 h in
        holds_left before (Down a x ∷ []) a b (held.0 k.1) (silent_one (Down a x) a b (down_other a x b k.0))

    from : HoldsAfter (before ++ Down a x ∷ []) a b → Has (without x active) b
    from h = elim (holds_cases before (Down a x ∷ []) a b h) [
      | inl k ↦ absurd (let e : Down a x ≡ Up a b = one_brings (Down a x) a b k in cc)
      | inr k ↦ (members_without x active b).1 (
        (λ e. k.1 (Down a x) (inl refl) (inr (inl (ap (Down a) e)))),
        held.1 k.0,
      )
    ]

-- a holds, by its changes in the journal, exactly the members of its active view after them
pub moves_hold : (before : List Change) (a b : ℕ) (told : List ViewChange) (active : List ℕ)
    → Has active b ↔ HoldsAfter before a b
    → Has (after_changes told active) b ↔ HoldsAfter (before ++ each (change_at a) told) a b
moves_hold before a b [] active held =
    subst (λ (l : List Change). Has active b ↔ HoldsAfter l a b) (sym (append-nil before)) held
moves_hold before a b (view.Up x ∷ told) active held =
    subst (λ (l : List Change). Has (after_changes told (adding x active)) b ↔ HoldsAfter l a b)
    (append_assoc before (Up a x ∷ []) (each (change_at a) told))
    (moves_hold (before ++ Up a x ∷ []) a b told (adding x active) (up_holds before a x b active held))
moves_hold before a b (view.Down x ∷ told) active held =
    subst (λ (l : List Change). Has (after_changes told (without x active)) b ↔ HoldsAfter l a b)
    (append_assoc before (Down a x ∷ []) (each (change_at a) told))
    (moves_hold (before ++ Down a x ∷ []) a b told (without x active) (down_holds before a x b active held))

-- the changes of the active view of a are changes of a
pub told_node : (a : ℕ) (told : List ViewChange) → AllOf a (each (change_at a) told)
told_node a [] c h = absurd h
told_node a (view.Up x ∷ told) c h = elim h [ inl e ↦ ap node_of (sym e) | inr k ↦ told_node a told c k ]
told_node a (view.Down x ∷ told) c h = elim h [ inl e ↦ ap node_of (sym e) | inr k ↦ told_node a told c k ]

-- by these changes a is neither born nor gone
abbrev pub Lasting : List Change → ℕ → Type 0
Lasting changes a = ¬ Has changes (Born a) × ¬ Has changes (Gone a)

pub told_lasting : (a : ℕ) (told : List ViewChange) (x : ℕ) → Lasting (each (change_at a) told) x
told_lasting a [] x = ((λ h. h), (λ h. h))
told_lasting a (view.Up y ∷ told) x =
    let k = told_lasting a told x in
    ((λ h. elim h [ inl e ↦ absurd cc | inr m ↦ k.0 m ]), (λ h. elim h [ inl e ↦ absurd cc | inr m ↦ k.1 m ]))
told_lasting a (view.Down y ∷ told) x =
    let k = told_lasting a told x in
    ((λ h. elim h [ inl e ↦ absurd cc | inr m ↦ k.0 m ]), (λ h. elim h [ inl e ↦ absurd cc | inr m ↦ k.1 m ]))

-- changes of another node do not decide whether this one is alive
pub others_lasting : (a x : ℕ) (changes : List Change) → AllOf a changes → x ≢ a → Lasting changes x
others_lasting a x changes all other = ((λ h. other (all (Born x) h)), (λ h. other (all (Gone x) h)))

-- nor do changes by which it is neither born nor gone
pub lives_rests : (xs ys : List Change) (a : ℕ) → Lasting ys a → LivesAfter (xs ++ ys) a ↔ LivesAfter xs a
lives_rests xs ys a last = (
  (λ h. (before (Born a) last.0 h.0, λ k. h.1 (has_append_left xs ys (Gone a) k))),
  (λ h. (has_append_left xs ys (Born a) h.0, λ k. h.1 (before (Gone a) last.1 k))),
)
  where
    before : (c : Change) → ¬ Has ys c → Has (xs ++ ys) c → Has xs c
    before c none h = elim (has_append_cases xs ys c h) [ inl k ↦ k | inr k ↦ absurd (none k) ]
