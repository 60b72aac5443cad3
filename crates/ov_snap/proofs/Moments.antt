-- The moments of a journal after one more entry, and the snapshots in order.
use Rattle.std.proofs.Common.{◌≡◌, ◌⊎◌, ℕ, zero, suc, ◌+◌, ◌<◌, ◌≤◌, List, [], ◌∷◌, ◌++◌, length, length-append}
use Rattle.std.proofs.Common.{Some, inl, inr, refl, sym, ap, ◌∙◌, subst, arith}
use Rattle.std.specs.Prelude.{slice_get}
use Rattle.std.proofs.lemmas.Option.{none-some}
use Rattle.ov_ids.specs.Members.{Has, Ordered}
use Rattle.ov_ids.proofs.Members.{all_member, all_from_members, has_append_cases}
use Rattle.ov_net.specs.declared.journal_entry_and_changes.Entry.{Entry}
use Rattle.ov_net.proofs.Steps.Places.{at_cases, at_end, at_prefix}
use Rattle.ov_snap.specs.Snapshots.{IsMoment, IsSnapshot}

within : {X : Type 0} (xs : List X) (i : ℕ) (x : X) → slice_get xs i ≡ Some x → i < length xs
within [] i x h = absurd (none-some x h)
within (y ∷ xs) zero x h = omega arith
within (y ∷ xs) (suc i) x h = let l = within xs i x h in omega (arith, l)

-- a moment lies within its journal
pub moment_within : (journal : List Entry) (m : ℕ) → IsMoment journal m → m ≤ length journal
moment_within journal m h = let l = within journal h.0 h.1 h.2 in let e = h.4 in omega (arith, l, e)

-- a moment stays one
pub moment_stays : (journal more : List Entry) (m : ℕ) → IsMoment journal m → IsMoment (journal ++ more) m
moment_stays journal more m h = (h.0, h.1, at_prefix journal more h.0 h.1 h.2, h.3, h.4)

-- a snapshot's entry makes one
pub moment_new : (journal : List Entry) (e : Entry) → IsSnapshot e
    → IsMoment (journal ++ e ∷ []) (length (journal ++ e ∷ []))
moment_new journal e is = (length journal, e, at_end journal e, is, length-append journal (e ∷ []))

-- a moment was one before, or is that of the new entry, which is a snapshot's
pub moment_cases : (journal : List Entry) (e : Entry) (m : ℕ) → IsMoment (journal ++ e ∷ []) m
    → IsMoment journal m ⊎ (IsSnapshot e × (m ≡ length (journal ++ e ∷ [])))
moment_cases journal e m h = elim (at_cases journal e h.0 h.1 h.2) [
  | inl k ↦ inl (h.0, h.1, k, h.3, h.4)
  | inr k ↦ inr (subst IsSnapshot (sym k.1) h.3, h.4 ∙ ap (λ i. i + 1) k.0 ∙ sym (length-append journal (e ∷ [])))
]

-- one more item in order
pub ordered_more : {X : Type 0} (R : X → X → Type 0) (xs : List X) (y : X) → Ordered R xs
    → ((x : X) → Has xs x → R x y) → Ordered R (xs ++ y ∷ [])
ordered_more R [] y up each = (tt, tt)
ordered_more {X} R (x ∷ xs) y up each =
    (all_from_members (R x) (xs ++ y ∷ []) later, ordered_more R xs y up.1 (λ z h. each z (inr h)))
  where
    later : (z : X) → Has (xs ++ y ∷ []) z → R x z
    later z h = elim (has_append_cases xs (y ∷ []) z h) [
      | inl k ↦ all_member (R x) xs z up.0 k
      | inr (inl e) ↦ subst (R x) e (each x (inl refl))
      | inr (inr k) ↦ absurd k
    ]
