-- Where a snapshot stands among snapshots in the order of their moments.
use Rattle.std.proofs.Common.{◌≡◌, ℕ, suc, ◌<◌, ◌≤◌, List, [], ◌∷◌, length, get_or, Result, Ok, Err, inl, inr, sym, ap}
use Rattle.std.proofs.Common.{◌∙◌, subst, arith}
use Rattle.std.specs.List.Sorted.{IsBinarySearchResult, IsNonDecreasingBy, IsSearchInRange}
use Rattle.std.specs.Ordering.{nat_cmp, ordering_index}
use Rattle.std.specs.declared.cmp.Ordering.TheVariants.{Less, Equal, Greater}
use Rattle.std.proofs.lemmas.Bool.{cases_eq, cases_lt}
use Rattle.std.proofs.lemmas.Bool.Decides.{nat_tests}
use Rattle.std.proofs.lemmas.Cmp.{ranked}
use Rattle.ov_ids.specs.Members.{Has, Ordered}
use Rattle.ov_ids.proofs.Members.{has_place, ordered_at}
use Rattle.ov_snap.specs.CoreState.{CoreState, IsSound}
use Rattle.ov_net.specs.Journal.{AreLinks}
use Rattle.ov_snap.specs.Snapshots.{IsMoment, WasBefore}
use Rattle.ov_snap.specs.declared.kept_snapshots.Snapshot.{Snapshot}

-- what stands at the place that halving found
pub found_at : (l : List Snapshot) (k at : ℕ) (r : Result ℕ ℕ) (s : Snapshot) → r ≡ Ok at
    → IsSearchInRange r (length l) → IsBinarySearchResult (λ (t : Snapshot). nat_cmp t.moment k) l r
    → s ≡ get_or l at s → Has l s × (s.moment ≡ k)
found_at l k at r s is range found read =
    let inside : at < length l = subst (λ x. IsSearchInRange x (length l)) is range in
    let equal = subst (IsBinarySearchResult (λ (t : Snapshot). nat_cmp t.moment k) l) is found in (
      subst (Has l) (sym read) (has_place l at s inside),
      ap (λ (t : Snapshot). t.moment) read ∙ ranked (get_or l at s).moment k Equal (sym (equal s)),
    )

placed : (l : List Snapshot) (s : Snapshot) → Has l s → (i : ℕ) × (i < length l) × (get_or l i s ≡ s)
placed [] s h = absurd h
placed (t ∷ l) s h = elim h [
  | inl e ↦ (0, omega arith, e)
  | inr k ↦ let r = placed l s k in (suc r.0, omega (arith, r.1), r.2)
]

higher : (a b k : ℕ) → a ≤ b → ordering_index (nat_cmp a k) ≤ ordering_index (nat_cmp b k)
higher a b k le = grind (arith, nat_tests)

rises : (l : List Snapshot) (k : ℕ) → Ordered WasBefore l
    → IsNonDecreasingBy (λ (t : Snapshot). ordering_index (nat_cmp t.moment k)) l
rises l k up i j d le lt = higher (get_or l i d).moment (get_or l j d).moment k (elim (cases_eq i j) [
  | inl e ↦
      let f : (get_or l i d).moment ≡ (get_or l j d).moment = ap (λ (n : ℕ). (get_or l n d).moment) e in
      omega (arith, f)
  | inr ne ↦
      let f : (get_or l i d).moment < (get_or l j d).moment = ordered_at WasBefore l i j d up (omega arith) lt in
      omega (arith, f)
])

-- what halving does not find is not there
pub not_there : (l : List Snapshot) (k at : ℕ) (r : Result ℕ ℕ) → r ≡ Err at → Ordered WasBefore l
    → IsSearchInRange r (length l) → IsBinarySearchResult (λ (t : Snapshot). nat_cmp t.moment k) l r
    → (s : Snapshot) → Has l s → ¬ (s.moment ≡ k)
not_there l k at r is up range found s h same =
    let inside : at ≤ length l = subst (λ x. IsSearchInRange x (length l)) is range in
    let parted = subst (IsBinarySearchResult (λ (t : Snapshot). nat_cmp t.moment k) l) is found (rises l k up) in
    let n = placed l s h in
    let e : (get_or l n.0 s).moment ≡ s.moment = ap (λ (t : Snapshot). t.moment) n.2 in
    elim (cases_lt n.0 at) [
      | inl lt ↦
          let b : (get_or l n.0 s).moment < k =
          ranked (get_or l n.0 s).moment k Less (sym (parted.0 n.0 s (omega arith) lt)) in
          omega (arith, b, e, same)
      | inr ge ↦
          let b : k < (get_or l n.0 s).moment =
          ranked (get_or l n.0 s).moment k Greater (sym (parted.1 n.0 s ge n.1)) in
          omega (arith, b, e, same)
    ]

-- a snapshot of a sound core is of a moment, and has its links
pub kept_at : (b u : CoreState) (l : List Snapshot) (s : Snapshot) (m : ℕ) → l ≡ b.snapshots → b ≡ u → IsSound b
    → Has l s × (s.moment ≡ m) → IsMoment u.world.journal m × AreLinks u.world.journal m s.graph
kept_at b u l s m at same sound h =
    let there : Has b.snapshots s = subst (λ (x : List Snapshot). Has x s) at h.0 in
    subst (λ (x : CoreState). IsMoment x.world.journal m × AreLinks x.world.journal m s.graph) same
    (subst (λ n. IsMoment b.world.journal n × AreLinks b.world.journal n s.graph) h.1
    (sound.snapshots.moments s there, sound.snapshots.links s there))

-- where it has no snapshot, there was no moment
pub not_kept : (b u : CoreState) (l : List Snapshot) (m : ℕ) → l ≡ b.snapshots → b ≡ u → IsSound b
    → ((s : Snapshot) → Has l s → ¬ (s.moment ≡ m)) → ¬ IsMoment u.world.journal m
not_kept b u l m at same sound none k =
    let r = sound.snapshots.every m (subst (λ (x : CoreState). IsMoment x.world.journal m) (sym same) k) in
    none r.0 (subst (λ (x : List Snapshot). Has x r.0) (sym at) r.1) r.2
