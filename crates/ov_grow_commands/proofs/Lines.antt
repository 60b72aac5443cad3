-- The texts of items that go to a writer, one after the other.
use Rattle.std.proofs.Common.{◌≡◌, ◌<◌, ℕ, Option, List, [], ◌++◌, append_assoc, ap, ◌∙◌, refl, drop}
use Rattle.std.proofs.Common.{◌+◌, ◌≤◌, length, subst, sym}
use Rattle.std.proofs.lemmas.List.{at_drop_all, at_drop_more}
use Rattle.std.proofs.lemmas.List.Concat.{flat_map-cons}
use Rattle.std.specs.Prelude.{get_or}
use Rattle.std.proofs.KnownBytes.{Appends-nil, Appends-trans}
use Rattle.std.proofs.lemmas.List.{append-nil}
use Rattle.std.specs.Io.KnownBytes.{Appends}
use Rattle.std.specs.List.{flat_map}
use Rattle.ov_io.specs.Device.{AppendsPrefixOf}

-- the texts of the items before this place went to a writer; with those of the others they are all
pub record Went {X : Type 0} (f : X → List ℕ) (xs : List X) (i : ℕ) (a b : Option (List ℕ)) : Type 0 where
  pub text : List ℕ
  pub appends : Appends a b text
  pub whole : text ++ flat_map f (drop i xs) ≡ flat_map f xs

pub begun : {X : Type 0} (f : X → List ℕ) (xs : List X) (a : Option (List ℕ)) → Went f xs 0 a a
begun f xs a = record { text = []; appends = Appends-nil a; whole = refl }

-- the text of an item, with those behind it
one_more : {X : Type 0} (f : X → List ℕ) (xs : List X) (i : ℕ) (d : X) → i < length xs
    → f (get_or xs i d) ++ flat_map f (drop (i + 1) xs) ≡ flat_map f (drop i xs)
one_more f xs i d less =
    sym (flat_map-cons f (get_or xs i d) (drop (i + 1) xs)) ∙ sym (at_drop_more (flat_map f) xs i d less)

pub more : {X : Type 0} (f : X → List ℕ) (xs : List X) (i : ℕ) (d : X) (a b c : Option (List ℕ)) → i < length xs
    → Went f xs i a b → Appends b c (f (get_or xs i d)) → Went f xs (i + 1) a c
more f xs i d a b c less went goes = record {
  text = went.text ++ f (get_or xs i d);
  appends = Appends-trans a b c went.text (f (get_or xs i d)) went.appends goes;
  whole = append_assoc went.text (f (get_or xs i d)) (flat_map f (drop (i + 1) xs))
      ∙ ap (λ t. went.text ++ t) (one_more f xs i d less)
      ∙ went.whole;
}

pub all : {X : Type 0} (f : X → List ℕ) (xs : List X) (i : ℕ) (a b : Option (List ℕ)) → length xs ≤ i
    → Went f xs i a b → Appends a b (flat_map f xs)
all f xs i a b none went =
    subst (λ (t : List ℕ). Appends a b t)
    (sym (append-nil went.text) ∙ ap (λ t. went.text ++ t) (sym (at_drop_all (flat_map f) xs i none)) ∙ went.whole)
    went.appends

-- what went is a prefix of all texts
pub some : {X : Type 0} (f : X → List ℕ) (xs : List X) (i : ℕ) (a b : Option (List ℕ)) → Went f xs i a b
    → AppendsPrefixOf (flat_map f xs) a b
some f xs i a b went = (went.text, flat_map f (drop i xs), went.appends, went.whole)

-- so it is, if a prefix of the next text went too
pub part : {X : Type 0} (f : X → List ℕ) (xs : List X) (i : ℕ) (d : X) (a b c : Option (List ℕ)) → i < length xs
    → Went f xs i a b → AppendsPrefixOf (f (get_or xs i d)) b c → AppendsPrefixOf (flat_map f xs) a c
part f xs i d a b c less went (prefix, rest, goes, is) =
    let others = flat_map f (drop (i + 1) xs) in (
      went.text ++ prefix,
      rest ++ others,
      Appends-trans a b c went.text prefix went.appends goes,
      append_assoc went.text prefix (rest ++ others)
          ∙ ap (λ t. went.text ++ t) (sym (append_assoc prefix rest others) ∙ ap (λ t. t ++ others) is
          ∙ one_more f xs i d less)
          ∙ went.whole,
    )
