-- Who said to have a message, after each change of the list of notes, and that two lists in order that tell the same
-- are one.
use Rattle.std.proofs.Common.{◌≡◌, ℕ, Bool, true, false, cond, not, List, [], ◌∷◌, ◌++◌, drop, refl, sym, ap, subst}
use Rattle.std.proofs.Common.{◌∙◌, arith, true≢false, append-nil}
use Rattle.std.proofs.lemmas.Grind.{common_steps}
use Rattle.std.proofs.lemmas.List.{map-append}
use Rattle.std.proofs.lemmas.List.Elements.{filter-append}
use Rattle.std.proofs.lemmas.Map.Views.{tells_apart}
use Rattle.std.specs.Prelude.{map as each, filter}
use Rattle.std.specs.List.{AllByRecursion}
use Rattle.std.specs.declared.cmp.Ordering.{Ordering}
use Rattle.std.specs.declared.cmp.Ordering.TheVariants.{Less, Equal, Greater}
use Rattle.std.specs.Ordering.{eq_by_cmp, is_eq, is_lt, ordering_reverse}
use Rattle.std.specs.Cmp.{tied_itself, eq_by_cmp_equiv}
use Rattle.ov_ids.specs.Members.{Ordered}
use Rattle.ov_ids.specs.Sets.{has, without}
use Rattle.ov_ids.specs.declared.id.MsgId.{MsgId}
use Rattle.ov_plum.specs.Ids.{id_cmp}
use Rattle.ov_plum.specs.Notes.{Note, is_of, is_after, senders, noting, without_notes_of, without_oldest}
use Rattle.ov_plum.specs.Notes.{without_notes_by}
use Rattle.ov_plum.proofs.Maps.{id_cmp_total, id_cmp_same}

-- whether two ids are the same
abbrev pub same : MsgId → MsgId → Bool
same q id = eq_by_cmp id_cmp q id

pub same_itself : (id : MsgId) → same id id ≡ true
same_itself id = ap is_eq (tied_itself id_cmp_total id)

pub same_back : (q id : MsgId) → same q id ≡ same id q
same_back q id = (eq_by_cmp_equiv id_cmp_total).symm q id

-- which of two ids is less
pub less_is : (o : Ordering) → is_lt o ≡ true → o ≡ Less
less_is Less e = refl
less_is Equal e = absurd (true≢false (sym e))
less_is Greater e = absurd (true≢false (sym e))

pub not_back : (a b : MsgId) → is_lt (id_cmp a b) ≡ true → is_lt (id_cmp b a) ≡ false
not_back a b e = ap is_lt (id_cmp_total.antisymm b a) ∙ ap (λ o. is_lt (ordering_reverse o)) (less_is _ e)

-- without the test true it is false
pub refuted : (b : Bool) → (b ≡ true → ⊥) → b ≡ false
refuted true f = absurd (f refl)
refuted false f = refl

pub not_over : (b : Bool) → not b ≡ true → b ≡ false
not_over true e = absurd (true≢false (sym e))
not_over false e = refl

-- what stands in both cases of whether two ids are the same
pub by_id : (q id : MsgId) (P : MsgId → Bool → Type 0) → P id true → (same q id ≡ false → P q false) → P q (same q id)
by_id q id P here there =
    elim (same q id) as (λ b. same q id ≡ b → P q b) [
      | true ↦ λ e. subst (λ k. P k true) (sym (tells_apart id_cmp_same q id e)) here
      | false ↦ there
    ] refl

pub senders_append : (q : MsgId) (ms ns : List Note) → senders q (ms ++ ns) ≡ senders q ms ++ senders q ns
senders_append q ms ns = ap (each (λ n. n.1)) (filter-append (is_of q) ms ns) ∙ map-append (λ (n : Note). n.1) _ _

-- the notes whose ids pass a test are all of an id, or none
senders_where : (q : MsgId) (g : MsgId → Bool) (notes : List Note)
    → senders q (filter (λ n. g n.0) notes) ≡ cond (g q) (senders q notes) []
senders_where q g [] = elim (g q) as (λ b. ◌≡◌ {A = List ℕ} [] (cond b [] [])) [ true ↦ refl | false ↦ refl ]
senders_where q g (n ∷ notes) =
    let rest = senders_where q g notes in
    elim (is_of q n) as (λ b. is_of q n ≡ b
    → senders q (filter (λ n. g n.0) (n ∷ notes)) ≡ cond (g q)
    (each (λ n. n.1) (cond b (n ∷ filter (is_of q) notes) (filter (is_of q) notes))) []) [
      | true ↦ λ e. let k : g n.0 ≡ g q = ap g (sym (tells_apart id_cmp_same q n.0 e)) in
          grind (arith, common_steps, k, e, rest)
      | false ↦ λ e. grind (arith, common_steps, e, rest)
    ] refl

-- one more at the end, unless it is there
abbrev pub pushing : ℕ → List ℕ → List ℕ
pushing s xs = cond (has xs s) xs (xs ++ s ∷ [])

-- the senders after one is noted
pub senders_noted : (q id : MsgId) (s : ℕ) (notes : List Note)
    → senders q (noting s id notes) ≡ cond (same q id) (pushing s (senders id notes)) (senders q notes)
senders_noted q id s notes =
    elim (has (senders id notes) s) as
    (λ b. senders q (cond b notes put) ≡ cond (same q id) (cond b (senders id notes) (senders id notes ++ s ∷ []))
    (senders q notes)) [
      | true ↦ by_id q id (λ k b. senders k notes ≡ cond b (senders id notes) (senders k notes)) refl (λ _. refl)
      | false ↦ by_id q id (λ k b. senders k put ≡ cond b (senders id notes ++ s ∷ []) (senders k notes))
          (told id ∙ here) (λ other. told q ∙ there q other)
    ]
  where
    put : List Note
    put = filter (λ n. not (is_after id n)) notes ++ (id, s) ∷ filter (is_after id) notes

    -- by the order of the two ids
    Told : MsgId → Ordering → Bool → List ℕ
    Told q o b = cond (not (is_lt o)) (senders q notes) [] ++ cond b (s ∷ cond (is_lt o) (senders q notes) [])
        (cond (is_lt o) (senders q notes) [])

    told : (q : MsgId) → senders q put ≡ Told q (id_cmp id q) (same q id)
    told q =
        senders_append q (filter (λ n. not (is_after id n)) notes) _
        ∙ (λ i. senders_where q (λ k. not (is_lt (id_cmp id k))) notes i ++ behind q i)
      where
        behind : (q : MsgId) → senders q ((id, s) ∷ filter (is_after id) notes) ≡ cond (same q id)
            (s ∷ cond (is_lt (id_cmp id q)) (senders q notes) []) (cond (is_lt (id_cmp id q)) (senders q notes) [])
        behind q = let rest = senders_where q (λ k. is_lt (id_cmp id k)) notes in
            elim (same q id) as (λ b. each (λ (n : Note). n.1)
            (cond b ((id, s) ∷ filter (is_of q) (filter (is_after id) notes))
            (filter (is_of q) (filter (is_after id) notes))) ≡ cond b
            (s ∷ cond (is_lt (id_cmp id q)) (senders q notes) [])
            (cond (is_lt (id_cmp id q)) (senders q notes) []))
            [ true ↦ ap (λ xs. s ∷ xs) rest | false ↦ rest ]

    here : Told id (id_cmp id id) (same id id) ≡ senders id notes ++ s ∷ []
    here = (λ i. Told id (tied_itself id_cmp_total id i) (same_itself id i))

    there : (q : MsgId) → same q id ≡ false → Told q (id_cmp id q) (same q id) ≡ senders q notes
    there q other = ap (Told q (id_cmp id q)) other ∙ by (id_cmp id q) (sym (same_back q id) ∙ other)
      where
        by : (o : Ordering) → is_eq o ≡ false → Told q o false ≡ senders q notes
        by Less e = refl
        by Equal e = absurd (true≢false e)
        by Greater e = append-nil (senders q notes)

-- after the notes of an id go
pub senders_cleared : (q id : MsgId) (notes : List Note)
    → senders q (without_notes_of id notes) ≡ cond (same q id) [] (senders q notes)
senders_cleared q id notes =
    senders_where q (λ k. not (same id k)) notes ∙ ap (λ b. cond (not b) (senders q notes) []) (same_back id q)
    ∙ elim (same q id) as (λ b. cond (not b) (senders q notes) [] ≡ cond b [] (senders q notes))
    [ true ↦ refl | false ↦ refl ]

-- a note is not of two ids
apart : (q id : MsgId) (n : Note) → same q id ≡ false → is_of id n ≡ true → is_of q n ≡ false
apart q id n other of =
    elim (is_of q n) as (λ b. is_of q n ≡ b → b ≡ false) [
      | true ↦ λ e. sym e ∙ sym (ap (same q) (tells_apart id_cmp_same id n.0 of)) ∙ other
      | false ↦ λ e. refl
    ] refl

-- without the oldest of an id
oldest_out : (id : MsgId) (notes : List Note) → senders id (without_oldest id notes) ≡ drop 1 (senders id notes)
oldest_out id [] = refl
oldest_out id (n ∷ notes) =
    elim (is_of id n) as (λ b. is_of id n ≡ b
    → senders id (cond b notes (n ∷ without_oldest id notes)) ≡ drop 1
    (each (λ n. n.1) (cond b (n ∷ filter (is_of id) notes) (filter (is_of id) notes)))) [
      | true ↦ λ e. refl
      | false ↦ λ e. rw e (oldest_out id notes)
    ] refl

-- of another id nothing is taken out
other_oldest : (q id : MsgId) (notes : List Note) → same q id ≡ false
    → senders q (without_oldest id notes) ≡ senders q notes
other_oldest q id [] other = refl
other_oldest q id (n ∷ notes) other =
    elim (is_of id n) as (λ b. is_of id n ≡ b
    → senders q (cond b notes (n ∷ without_oldest id notes)) ≡ senders q (n ∷ notes)) [
      | true ↦ λ e. rw (apart q id n other e) refl
      | false ↦ λ e. grind (arith, common_steps, other_oldest q id notes other)
    ] refl

-- after the oldest note of an id goes
pub senders_asked : (q id : MsgId) (notes : List Note)
    → senders q (without_oldest id notes) ≡ cond (same q id) (drop 1 (senders id notes)) (senders q notes)
senders_asked q id notes = by_id q id
    (λ k b. senders k (without_oldest id notes) ≡ cond b (drop 1 (senders id notes)) (senders k notes))
    (oldest_out id notes) (other_oldest q id notes)

-- after the notes by x go
pub senders_gone : (q : MsgId) (x : ℕ) (notes : List Note)
    → senders q (without_notes_by x notes) ≡ without x (senders q notes)
senders_gone q x [] = refl
senders_gone q x (n ∷ notes) = grind (arith, common_steps, senders_gone q x notes)

-- the notes of smaller ids stand first
abbrev pub InOrder : List Note → Type 0
InOrder = Ordered (λ m n. is_after n.0 m ≡ false)

-- where no note is of an id, nobody is told to have it
none_of : (k : MsgId) (notes : List Note) → AllByRecursion (λ n. same k n.0 ≡ false) notes → senders k notes ≡ []
none_of k [] h = refl
none_of k (n ∷ notes) h = rw h.0 (none_of k notes h.1)

-- a first note is told
first_told : (n : Note) (notes : List Note) → senders n.0 (n ∷ notes) ≡ n.1 ∷ senders n.0 notes
first_told n notes = rw (same_itself n.0) refl

later_told : (q : MsgId) (n : Note) (notes : List Note) → same q n.0 ≡ false → senders q (n ∷ notes) ≡ senders q notes
later_told q n notes e = rw e refl

abbrev filled : List ℕ → Bool
filled [] = false
filled (x ∷ xs) = true

abbrev first_or : ℕ → List ℕ → ℕ
first_or d [] = d
first_or d (x ∷ xs) = x

pub All-follows : {X : Type 0} (P Q : X → Type 0) → ((x : X) → P x → Q x) → (xs : List X) → AllByRecursion P xs
    → AllByRecursion Q xs
All-follows P Q f [] h = tt
All-follows P Q f (x ∷ xs) h = (f x h.0, All-follows P Q f xs h.1)

-- a list cannot begin with a note of a smaller id than all of another list that tells the same
before : (n m : Note) (a b : List Note) → InOrder (m ∷ b) → id_cmp n.0 m.0 ≡ Less
    → senders n.0 (n ∷ a) ≡ senders n.0 (m ∷ b) → ⊥
before n m a b p less is =
    true≢false (ap filled (sym (first_told n a) ∙ is
    ∙ none_of n.0 (m ∷ b) (ap is_eq less, All-follows _ _ later b p.0)))
  where
    later : (y : Note) → is_after y.0 m ≡ false → same n.0 y.0 ≡ false
    later y h = refuted (same n.0 y.0)
        (λ e. true≢false (sym (ap is_lt less) ∙ ap (λ k. is_lt (id_cmp k m.0)) (tells_apart id_cmp_same n.0 y.0 e) ∙ h))

-- two lists in order that tell the same of each id are one list
pub same_notes : (a b : List Note) → InOrder a → InOrder b → ((q : MsgId) → senders q a ≡ senders q b) → a ≡ b
same_notes [] [] o p is = refl
same_notes [] (m ∷ b) o p is = absurd (true≢false (sym (ap filled (is m.0 ∙ first_told m b))))
same_notes (n ∷ a) [] o p is = absurd (true≢false (ap filled (sym (first_told n a) ∙ is n.0)))
same_notes (n ∷ a) (m ∷ b) o p is =
    elim (id_cmp n.0 m.0) as (λ r. id_cmp n.0 m.0 ≡ r → n ∷ a ≡ m ∷ b) [
      | Less ↦ λ e. absurd (before n m a b p e (is n.0))
      | Equal ↦ λ e. one (same_notes a b o.1 p.1) (id_cmp_same n.0 m.0 e)
      | Greater ↦ λ e. absurd (before m n b a o (id_cmp_total.antisymm m.0 n.0 ∙ ap ordering_reverse e) (sym (is m.0)))
    ] refl
  where
    one : (((q : MsgId) → senders q a ≡ senders q b) → a ≡ b) → n.0 ≡ m.0 → n ∷ a ≡ m ∷ b
    one others k =
        let told : n.1 ∷ senders n.0 a ≡ m.1 ∷ senders n.0 b = sym (first_told n a) ∙ is n.0
        ∙ ap (λ j. senders j (m ∷ b)) k ∙ first_told m b ∙ ap (λ j. m.1 ∷ senders j b) (sym k) in
        let s : n.1 ≡ m.1 = ap (first_or 0) told in
        let rest : a ≡ b = others (λ q.
        elim (same q n.0) as (λ t. same q n.0 ≡ t → senders q a ≡ senders q b) [
          | true ↦ λ e. let j = tells_apart id_cmp_same q n.0 e in ap (λ i. senders i a) j ∙ ap (drop 1) told
              ∙ sym (ap (λ i. senders i b) j)
          | false ↦ λ e. sym (later_told q n a e) ∙ is q ∙ later_told q m b (sym (ap (same q) k) ∙ e)
        ] refl) in
        λ i. (k i, s i) ∷ rest i
