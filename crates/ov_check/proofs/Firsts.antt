-- The first item that does not hold, found by the answers of many threads.
use Rattle.std.proofs.Common.{◌≡◌, ℕ, zero, suc, ◌+◌, ◌-◌, ◌^◌, ◌<◌, min, List, [], ◌∷◌, length, map, slice_get, Bool}
use Rattle.std.proofs.Common.{true, false, Bor, Option, Some, None, inl, inr, sym, subst, arith}
use Rattle.std.specs.Prelude.{option_map, MatchOption}
use Rattle.std.specs.List.{AllZip}
use Rattle.std.proofs.lemmas.Option.{slice_get_cases}
use Rattle.rayon.specs.Lists.{first_true}
use Rattle.rayon.proofs.ToStd.{slice-AllZip}
use Rattle.ov_cert.specs.Verdict.{AllHold, IsFirstAtFault}
use Rattle.ov_check.specs.Code.Threads.{Misses}

module _ {X : Type 0} (Holds : X → Type 0) where
  -- all hold
  abbrev pub DoHold : List X → Type 0
  DoHold xs = AllHold (λ place x. Holds x) xs

  -- the first that does not hold
  abbrev pub IsFirst : List X → X → Type 0
  IsFirst xs x = IsFirstAtFault (λ place x. Holds x) xs x

  -- no place says that all hold, and a place that its item is the first that does not
  abbrev pub IsFound : List X → Option ℕ → Type 0
  IsFound xs None = DoHold xs
  IsFound xs (Some p) = (p < length xs) × ((x : X) → slice_get xs p ≡ Some x → IsFirst xs x)

  first_more : (x : X) (xs : List X) → Holds x → (y : X) → IsFirst xs y → IsFirst (x ∷ xs) y
  first_more x xs held y f = record { place = suc f.place; there = f.there; fails = f.fails; before = before }
    where
      before : (p : ℕ) (z : X) → p < suc f.place → slice_get (x ∷ xs) p ≡ Some z → Holds z
      before zero z l e = let s : Some x ≡ Some z = e in let w : x ≡ z = cc in subst Holds w held
      before (suc p) z l e = f.before p z (omega (arith, l)) e

  all_more : (x : X) (xs : List X) → Holds x → DoHold xs → DoHold (x ∷ xs)
  all_more x xs held all zero z e = let s : Some x ≡ Some z = e in let w : x ≡ z = cc in subst Holds w held
  all_more x xs held all (suc p) z e = all p z e

  first_here : (x : X) (xs : List X) → ¬ Holds x → (y : X) → Some x ≡ Some y → IsFirst (x ∷ xs) y
  first_here x xs n y e =
      let w : x ≡ y = cc in
      record {
        place = 0;
        there = e;
        fails = λ held. n (subst Holds (sym w) held);
        before = λ p z l h. absurd (omega (arith, l));
      }

  next : (x : X) (xs : List X) (o : Option ℕ) → length (x ∷ xs) < 2 ^ 64 → Holds x → IsFound xs o
      → IsFound (x ∷ xs) (option_map (λ k. min (k + 1) (2 ^ 64 - 1)) o)
  next x xs None few held h = all_more x xs held h
  next x xs (Some p) few held h =
      let near = h.0 in
      let m : min (p + 1) (2 ^ 64 - 1) ≡ suc p = omega (arith, near, few) in
      subst (λ (o : ℕ). IsFound (x ∷ xs) (Some o)) (sym m)
      (omega (arith, near), λ y e. first_more x xs held y (h.1 y e))

  pub found : (xs : List X) (bs : List Bool) → AllZip (Misses Holds) xs bs → length xs < 2 ^ 64
      → IsFound xs (first_true bs)
  found [] [] h few = λ p x e. absurd cc
  found [] (b ∷ bs) h few = absurd h
  found (x ∷ xs) [] h few = absurd h
  found (x ∷ xs) (true ∷ bs) h few = (omega arith, first_here x xs h.0)
  found (x ∷ xs) (false ∷ bs) h few = next x xs (first_true bs) few h.0 (found xs bs h.1 (omega (arith, few)))

  -- what stands at the place that was found, or that nothing was
  abbrev pub IsAnswer : List X → Option X → Type 0
  IsAnswer xs answer = MatchOption answer (DoHold xs) (IsFirst xs)

  there : (xs : List X) (p : ℕ) → p < length xs → ((x : X) → slice_get xs p ≡ Some x → IsFirst xs x)
      → IsAnswer xs (slice_get xs p)
  there xs p l first = elim (slice_get_cases xs p).1 [
    | inl h ↦ subst (IsAnswer xs) (sym h.2) (first h.0 h.2)
    | inr h ↦ let m = h.0 in absurd (omega (arith, l, m))
  ]

  module _ (zs : List (Bor X)) (bs : List Bool) (xs : List X) (shown : map (λ (z : Bor X). z.now) zs ≡ xs)
      (each : AllZip (λ (z : Bor X) b. Misses Holds z.now b) zs bs) (few : length xs < 2 ^ 63) where
    all : IsFound xs (first_true bs)
    all = found xs bs (slice-AllZip zs xs shown (Misses Holds) bs each) (omega (arith, few))

    -- no place was answered
    pub none_missing : first_true bs ≡ None → DoHold xs
    none_missing e = subst (IsFound xs) e all

    -- a place was answered
    pub one_missing : (p : ℕ) → first_true bs ≡ Some p → IsAnswer xs (slice_get xs p)
    one_missing p e = let f = subst (IsFound xs) e all in there xs p f.0 f.1
