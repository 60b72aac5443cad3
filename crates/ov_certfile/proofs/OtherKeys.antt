-- The keys of a map are the keys of the object that it represents; the first missing key.
use Rattle.std.proofs.Common.{◌≡◌, List, [], ◌∷◌, ◌&&◌, Bool, ℕ, refl, ap, map, ◌∙◌, Some, String, Global, string_bytes}
use Rattle.std.proofs.Common.{unwrap_or, option_map, Option, None, is_none, true, false, if◌then◌else◌, sym}
use Rattle.std.specs.List.{list_all}
use Rattle.serde_json.specs.Data.{Data}
use Rattle.serde_json.specs.Find.{as_object}
use Rattle.serde_json.specs.View.{members_view}
use Rattle.serde_json.specs.declared.value.Value.{Value}
use Rattle.ov_certfile.specs.Keys.{is_among, member_keys, has_no_other, has_all, has_just, has_key, first_failing}
use Rattle.ov_certfile.specs.Kinds.{name_of, names_of}
use Rattle.ov_certfile.specs.declared.file_keys.Key.{Key}

of_entries : (p : List ℕ → Bool) (es : List (String Global × Value))
    → list_all (λ k. p (string_bytes k)) (map (λ e. e.0) es) ≡ list_all p (member_keys (members_view es))
of_entries p [] = refl
of_entries p (e ∷ es) = ap (λ b. p (string_bytes e.0) && b) (of_entries p es)

pub has_no_other-entries : (ks : List (List ℕ)) (d : Data) (es : List (String Global × Value))
    → Some (members_view es) ≡ as_object d
    → list_all (λ k. is_among ks (string_bytes k)) (map (λ e. e.0) es) ≡ has_no_other ks d
has_no_other-entries ks d es h =
    of_entries (is_among ks) es
    ∙ ap (λ ms. list_all (is_among ks) (unwrap_or (option_map member_keys ms) [])) h

-- no key is the first that is missing exactly if all are there
pub all_there : (keys : List Key) (d : Data) → is_none (first_failing (λ key. has_key (name_of key) d) keys)
    ≡ has_all (names_of keys) d
all_there [] d = refl
all_there (key ∷ keys) d =
    elim (has_key (name_of key) d) as (λ (b : Bool).
    is_none (if b then first_failing (λ key. has_key (name_of key) d) keys else Some key)
    ≡ (b && has_all (names_of keys) d)) [ true ↦ all_there keys d | false ↦ refl ]

-- where a key is missing, the object does not have just these keys
pub missing_fails : (keys : List Key) (d : Data) (key : Key)
    → Some key ≡ first_failing (λ key. has_key (name_of key) d) keys → false ≡ has_just (names_of keys) d
missing_fails keys d key h =
    let e : false ≡ has_all (names_of keys) d = ap is_none h ∙ all_there keys d in
    ap (λ b. b && has_no_other (names_of keys) d) e

-- where none is missing, all are there
pub none_missing : (keys : List Key) (d : Data) (o : Option Key)
    → o ≡ first_failing (λ key. has_key (name_of key) d) keys → ((key : Key) → o ≡ Some key → ⊥)
    → has_all (names_of keys) d ≡ true
none_missing keys d (Some key) h n = absurd (n key refl)
none_missing keys d None h n = sym (ap is_none h ∙ all_there keys d)
