-- What each change of the list of notes keeps.
use Rattle.std.proofs.Common.{◌≡◌, ℕ, Bool, true, false, cond, not, ◌&&◌, ◌||◌, List, [], ◌∷◌, ◌++◌, drop, None, inl}
use Rattle.std.proofs.Common.{inr, refl, sym, ap, subst, ◌∙◌, true≢false, is_some, eqb, eq-eqb}
use Rattle.std.specs.Prelude.{IsTrue, filter}
use Rattle.std.specs.FinSet as set
use Rattle.std.specs.List.{AllByRecursion}
use Rattle.std.specs.Ordering.{is_lt}
use Rattle.std.proofs.lemmas.Bool.{or_parts, or_right}
use Rattle.ov_ids.specs.Members.{Has, IsDistinct, Ordered}
use Rattle.ov_ids.specs.Sets.{has}
use Rattle.ov_ids.specs.declared.id.MsgId.{MsgId}
use Rattle.ov_ids.proofs.Members.{has_append_cases}
use Rattle.ov_plum.specs.Ids.{id_cmp}
use Rattle.ov_plum.specs.Notes.{Note, AreNotes, is_of, is_after, senders, oldest, noting, without_notes_of}
use Rattle.ov_plum.specs.Notes.{without_oldest, without_notes_by}
use Rattle.ov_plum.proofs.Maps.{id_cmp_total}
use Rattle.ov_plum.proofs.Noting.{InOrder, same, same_itself, same_back, pushing, refuted, not_over, not_back, less_is}
use Rattle.ov_plum.proofs.Noting.{All-follows, senders_noted, senders_cleared, senders_asked, senders_gone}

module _ {X : Type 0} where
  -- what holds of all that pass a test
  All-kept : (P Q : X → Type 0) (p : X → Bool) → ((x : X) → P x → p x ≡ true → Q x) → (xs : List X)
      → AllByRecursion P xs → AllByRecursion Q (filter p xs)
  All-kept P Q p f [] h = tt
  All-kept P Q p f (x ∷ xs) h =
      let rest = All-kept P Q p f xs h.1 in
      elim (p x) as (λ b. p x ≡ b → AllByRecursion Q (cond b (x ∷ filter p xs) (filter p xs)))
      [ true ↦ λ e. (f x h.0 e, rest) | false ↦ λ e. rest ] refl

  All-filter : (P : X → Type 0) (p : X → Bool) (xs : List X) → AllByRecursion P xs → AllByRecursion P (filter p xs)
  All-filter P p = All-kept P P p (λ x h e. h)

  All-passing : (p : X → Bool) (xs : List X) → AllByRecursion (λ x. p x ≡ true) (filter p xs)
  All-passing p [] = tt
  All-passing p (x ∷ xs) =
      let rest = All-passing p xs in
      elim (p x) as (λ b. p x ≡ b → AllByRecursion (λ y. p y ≡ true) (cond b (x ∷ filter p xs) (filter p xs)))
      [ true ↦ λ e. (e, rest) | false ↦ λ e. rest ] refl

  pub All-append : (P : X → Type 0) (xs ys : List X) → AllByRecursion P xs → AllByRecursion P ys
      → AllByRecursion P (xs ++ ys)
  All-append P [] ys h g = g
  All-append P (x ∷ xs) ys h g = (h.0, All-append P xs ys h.1 g)

  Ordered-filter : (R : X → X → Type 0) (p : X → Bool) (xs : List X) → Ordered R xs → Ordered R (filter p xs)
  Ordered-filter R p [] h = tt
  Ordered-filter R p (x ∷ xs) h =
      let rest = Ordered-filter R p xs h.1 in
      elim (p x) as (λ b. Ordered R (cond b (x ∷ filter p xs) (filter p xs)))
      [ true ↦ (All-filter (R x) p xs h.0, rest) | false ↦ rest ]

  pub Ordered-append : (R : X → X → Type 0) (xs ys : List X) → Ordered R xs → Ordered R ys
      → AllByRecursion (λ x. AllByRecursion (R x) ys) xs → Ordered R (xs ++ ys)
  Ordered-append R [] ys h g c = g
  Ordered-append R (x ∷ xs) ys h g c = (All-append (R x) xs ys h.0 c.0, Ordered-append R xs ys h.1 g c.1)

All-oldest : (P : Note → Type 0) (id : MsgId) (notes : List Note) → AllByRecursion P notes
    → AllByRecursion P (without_oldest id notes)
All-oldest P id [] h = tt
All-oldest P id (n ∷ notes) h =
    let rest = All-oldest P id notes h.1 in
    elim (is_of id n) as (λ b. AllByRecursion P (cond b notes (n ∷ without_oldest id notes)))
    [ true ↦ h.1 | false ↦ (h.0, rest) ]

Ordered-oldest : (R : Note → Note → Type 0) (id : MsgId) (notes : List Note) → Ordered R notes
    → Ordered R (without_oldest id notes)
Ordered-oldest R id [] h = tt
Ordered-oldest R id (n ∷ notes) h =
    let rest = Ordered-oldest R id notes h.1 in
    elim (is_of id n) as (λ b. Ordered R (cond b notes (n ∷ without_oldest id notes)))
    [ true ↦ h.1 | false ↦ (All-oldest (R n) id notes h.0, rest) ]

-- the order of the list
pub noted_in_order : (s : ℕ) (id : MsgId) (notes : List Note) → InOrder notes → InOrder (noting s id notes)
noted_in_order s id notes o =
    elim (has (senders id notes) s) as (λ b. InOrder (cond b notes (lower ++ (id, s) ∷ higher))) [
      | true ↦ o
      | false ↦ Ordered-append R lower ((id, s) ∷ higher) (Ordered-filter R _ notes o) (
        All-follows _ _ (λ y g. not_back id y.0 g) higher (All-passing (is_after id) notes),
        Ordered-filter R _
            notes o,
      )
          (All-follows _ _ across lower (All-passing (λ n. not (is_after id n)) notes))
    ]
  where
    R : Note → Note → Type 0
    R m n = is_after n.0 m ≡ false

    lower : List Note
    lower = filter (λ n. not (is_after id n)) notes

    higher : List Note
    higher = filter (is_after id) notes

    across : (x : Note) → not (is_after id x) ≡ true → AllByRecursion (R x) ((id, s) ∷ higher)
    across x h = (
      not_over _ h,
      All-follows _ _ (λ (y : Note) g. refuted (is_after y.0 x)
          (λ e. true≢false (sym (ap is_lt (id_cmp_total.trans id y.0 x.0 (less_is _ g) (less_is _ e))) ∙ not_over _ h)))
          higher (All-passing (is_after id) notes),
    )

pub cleared_in_order : (id : MsgId) (notes : List Note) → InOrder notes → InOrder (without_notes_of id notes)
cleared_in_order id notes = Ordered-filter _ _ notes

pub asked_in_order : (id : MsgId) (notes : List Note) → InOrder notes → InOrder (without_oldest id notes)
asked_in_order id notes = Ordered-oldest _ id notes

pub gone_in_order : (x : ℕ) (notes : List Note) → InOrder notes → InOrder (without_notes_by x notes)
gone_in_order x notes = Ordered-filter _ _ notes

-- nobody twice
has_kept : (p : ℕ → Bool) (xs : List ℕ) (y : ℕ) → Has (filter p xs) y → Has xs y
has_kept p [] y h = h
has_kept p (x ∷ xs) y h =
    elim (p x) as (λ b. Has (cond b (x ∷ filter p xs) (filter p xs)) y → Has (x ∷ xs) y) [
      | true ↦ λ h. elim h [ inl e ↦ inl e | inr k ↦ inr (has_kept p xs y k) ]
      | false ↦ λ h. inr (has_kept p xs y h)
    ] h

distinct_filter : (p : ℕ → Bool) (xs : List ℕ) → IsDistinct xs → IsDistinct (filter p xs)
distinct_filter p [] h = tt
distinct_filter p (x ∷ xs) h =
    let rest = distinct_filter p xs h.1 in
    elim (p x) as (λ b. IsDistinct (cond b (x ∷ filter p xs) (filter p xs)))
    [ true ↦ (λ k. h.0 (has_kept p xs x k), rest) | false ↦ rest ]

distinct_later : (xs : List ℕ) → IsDistinct xs → IsDistinct (drop 1 xs)
distinct_later [] h = tt
distinct_later (x ∷ xs) h = h.1

distinct_more : (s : ℕ) (xs : List ℕ) → has xs s ≡ false → IsDistinct xs → IsDistinct (xs ++ s ∷ [])
distinct_more s [] e h = (λ k. k, tt)
distinct_more s (x ∷ xs) e h =
    let parts = or_parts (eqb x s) (has xs s) e in (
      λ k. elim (has_append_cases xs (s ∷ []) x k) [
        | inl old ↦ h.0 old
        | inr new ↦
            elim new [ inl same ↦ true≢false (sym (eq-eqb x s (sym same)) ∙ parts.0) | inr none ↦ none ]
      ],
      distinct_more s xs parts.1 h.1,
    )

distinct_pushed : (s : ℕ) (xs : List ℕ) → IsDistinct xs → IsDistinct (pushing s xs)
distinct_pushed s xs h = elim (has xs s) as
    (λ b. has xs s ≡ b → IsDistinct (cond b xs (xs ++ s ∷ []))) [ true ↦ λ e. h | false ↦ λ e. distinct_more s xs e h ]
    refl

-- either of two
of_either : (b : Bool) (P : List ℕ → Type 0) (xs ys : List ℕ) → P xs → P ys → P (cond b xs ys)
of_either true P xs ys f g = f
of_either false P xs ys f g = g

-- all of it together
pub noted_keeps : (s : ℕ) (id : MsgId) (notes : List Note) (running : set.FinSet id_cmp) → AreNotes notes running
    → AreNotes (noting s id notes) (set.insert running id)
noted_keeps s id notes running a = record {
  ordered = noted_in_order s id notes a.ordered;
  once = λ q. subst IsDistinct (sym (senders_noted q id s notes))
      (of_either (same q id) IsDistinct _ _ (distinct_pushed s (senders id notes) (a.once id)) (a.once q));
  run = elim (has (senders id notes) s) as
      (λ b. AllByRecursion Runs (cond b notes
      (filter (λ n. not (is_after id n)) notes ++ (id, s) ∷ filter (is_after id) notes))) [
        | true ↦ old
        | false ↦ All-append Runs _ _ (All-filter Runs _ notes old) (
          set.contains-insert id_cmp_total running id id
              ∙ ap (λ b. b || set.contains running id) (same_itself id),
          All-filter Runs _ notes old,
        )
      ];
}
  where
    Runs : Note → Type 0
    Runs n = IsTrue (set.contains (set.insert running id) n.0)

    old : AllByRecursion Runs notes
    old = All-follows _ Runs (λ n h. set.contains-insert id_cmp_total running id n.0
        ∙ or_right (same n.0 id) (set.contains running n.0) h) notes a.run

pub cleared_keeps : (id : MsgId) (notes : List Note) (running : set.FinSet id_cmp) → AreNotes notes running
    → AreNotes (without_notes_of id notes) (set.remove running id)
cleared_keeps id notes running a = record {
  ordered = cleared_in_order id notes a.ordered;
  once = λ q. subst IsDistinct (sym (senders_cleared q id notes)) (of_either (same q id) IsDistinct _ _ tt (a.once q));
  run = All-kept _ _ _ left notes a.run;
}
  where
    left : (n : Note) → IsTrue (set.contains running n.0) → not (is_of id n) ≡ true
        → IsTrue (set.contains (set.remove running id) n.0)
    left n h e = set.contains-remove id_cmp_total running id n.0
        ∙ (λ i. not (same_back n.0 id i) && set.contains running n.0) ∙ (λ i. e i && h i)

pub asked_keeps : (id : MsgId) (notes : List Note) (running : set.FinSet id_cmp) → AreNotes notes running
    → AreNotes (without_oldest id notes) running
asked_keeps id notes running a = record {
  ordered = asked_in_order id notes a.ordered;
  once = λ q. subst IsDistinct (sym (senders_asked q id notes))
      (of_either (same q id) IsDistinct _ _ (distinct_later (senders id notes) (a.once id)) (a.once q));
  run = All-oldest _ id notes a.run;
}

pub gone_keeps : (x : ℕ) (notes : List Note) (running : set.FinSet id_cmp) → AreNotes notes running
    → AreNotes (without_notes_by x notes) running
gone_keeps x notes running a = record {
  ordered = gone_in_order x notes a.ordered;
  once = λ q. subst IsDistinct (sym (senders_gone q x notes)) (distinct_filter _ (senders q notes) (a.once q));
  run = All-filter _ _ notes a.run;
}

-- where an id has no note, none of it goes
pub none_cleared : (id : MsgId) (notes : List Note) → oldest id notes ≡ None → without_notes_of id notes ≡ notes
none_cleared id [] e = refl
none_cleared id (n ∷ notes) e =
    elim (is_of id n) as (λ b. is_of id n ≡ b → without_notes_of id (n ∷ notes) ≡ n ∷ notes) [
      | true ↦ λ of. absurd (true≢false (rw of at (ap is_some e)))
      | false ↦ λ of. rw of (ap (λ ns. n ∷ ns) (none_cleared id notes (rw of at e)))
    ] refl
