-- The names that were seen are those that have an entry, and the entries are the first of their names.
use Rattle.std.proofs.Common.{◌≡◌, ◌∙◌, ◌++◌, ◌||◌, ℕ, Bool, true, false, cond, List, [], ◌∷◌, String, Global}
use Rattle.std.proofs.Common.{string_bytes, refl, sym, ap, subst, ◌⊎◌, ◌↔◌, inl, inr, append_assoc, append-nil}
use Rattle.std.proofs.Common.{◌+◌, ◌<◌, ◌≤◌, length, get_or, drop, map, add-one, drop-cons}
use Rattle.std.proofs.lemmas.Bool.{true≢false}
use Rattle.std.proofs.lemmas.Slice.Eq.{bytes_eq-Decides}
use Rattle.std.proofs.Math.ListN.{drop_of_length-le}
use Rattle.std.specs.Prelude.{nat_eq, string_cmp, if◌then◌else◌}
use Rattle.ov_dot.specs.declared.token.Token.{Token}
use Rattle.ov_dot.specs.Tokens.{Lexeme, lexeme, lexemes}
use Rattle.ov_dot.specs.Names.{text_of}
use Rattle.std.specs.List.{list_any}
use Rattle.std.specs.BTreeMap.{is_at}
use Rattle.std.specs.Cmp.Lexicographic.{pointwise, texts_ties, nat_list_eq_equiv}
use Rattle.ov_dump.specs.declared.dump_and_graph_types.HostEntry.{HostEntry}
use Rattle.ov_dump.specs.FirstEntries.{AreFirsts}
use Rattle.ov_ids.specs.Members.{Has}
use Rattle.ov_dot.specs.Dumps.{entry_of}
use Rattle.ov_dot.specs.Code.Entered.{entries_with, has_entry}

any_more : (p : HostEntry → Bool) (es : List HostEntry) (e : HostEntry) → list_any p (es ++ e ∷ []) ≡ (list_any p es || p e)
any_more p [] e = elim (p e) as (λ v. (v || false) ≡ v) [ true ↦ refl | false ↦ refl ]
any_more p (x ∷ xs) e =
    elim (p x) as (λ v. (v || list_any p (xs ++ e ∷ [])) ≡
    ((v || list_any p xs) || p e)) [ true ↦ refl | false ↦ any_more p xs e ]

put_first : (v x y : Bool) → x ≡ y → (cond v true x) ≡ (y || v)
put_first true x true same = refl
put_first true x false same = refl
put_first false x true same = same
put_first false x false same = same

is_same : (q k : String Global) → is_at (string_cmp k) q ≡ pointwise nat_eq (string_bytes q) (string_bytes k)
is_same q k =
    sym (texts_ties (string_bytes k) (string_bytes q)) ∙ nat_list_eq_equiv.symm (string_bytes k) (string_bytes q)

-- one name more
pub seen_more :
    (has now_has : String Global → Bool) (k : String Global) (entries : List HostEntry) (e : HostEntry)
    → ((q : String Global) → has q ≡ has_entry (string_bytes q) entries)
    → ((q : String Global) → now_has q ≡ cond (is_at (string_cmp k) q) true (has q))
    → string_bytes k ≡ e.name
    → (q : String Global) → now_has q ≡ has_entry (string_bytes q) (entries ++ e ∷ [])
seen_more has now_has k entries e seen now name q =
    now q
    ∙ put_first (is_at (string_cmp k) q) (has q) (has_entry (string_bytes q) entries) (seen q)
    ∙ ap (λ v. has_entry (string_bytes q) entries || v) (is_same q k ∙ ap (pointwise nat_eq (string_bytes q)) name)
    ∙ sym (any_more (λ entry. pointwise nat_eq (string_bytes q) entry.name) entries e)

-- one name more of those that are left
pub entry_step :
    (names : List Token) (i : ℕ) (d : Token) (entries now all : List HostEntry) (name : List ℕ) → i < length names
    → entries_with entries (lexemes (drop i names)) ≡ all → name ≡ text_of (lexeme (get_or names i d))
    → now ≡ (if has_entry name entries then entries else entries ++ record {
      at =
          (get_or names i d).line;
      name = name;
    } ∷ [])
    → entries_with now (lexemes (drop (i + 1) names)) ≡ all
unfolding entries_with
entry_step names i d entries now all name within left is made =
    let t = get_or names i d in
    let first : drop i names ≡ t ∷ drop (i + 1) names = rw (add-one, drop-cons names i d within) in
    ap (λ es. entries_with es (lexemes (drop (i + 1) names))) made
    ∙ ap (λ n. entries_with
    (if has_entry n entries then entries else entries ++ record { at = t.line; name = n } ∷ [])
    (lexemes (drop (i + 1) names))) is
    ∙ sym (ap (λ ts. entries_with entries (lexemes ts)) first) ∙ left

-- ---- from what the code appends to what the dump is to have

-- these names were seen: those of the entries
abbrev AreSeen : List (List ℕ) → List HostEntry → Type 0
AreSeen seen entries = (n : List ℕ) → Has seen n ↔ (has_entry n entries ≡ true)

pub or_either : (a b : Bool) → (a || b) ≡ true → (a ≡ true) ⊎ (b ≡ true)
or_either true b is = inl refl
or_either false b is = inr is

pub or_first : (a b : Bool) → a ≡ true → (a || b) ≡ true
or_first a b is = ap (λ v. v || b) is

pub or_second : (a b : Bool) → b ≡ true → (a || b) ≡ true
or_second true b is = refl
or_second false b is = is

one_seen :
    (seen : List (List ℕ)) (entries : List HostEntry) (e : HostEntry) → AreSeen seen entries
    → AreSeen (e.name ∷ seen) (entries ++ e ∷ [])
one_seen seen entries e are n =
    let more = any_more (λ entry. pointwise nat_eq n entry.name) entries e in
    let was = has_entry n entries in
    let now = pointwise nat_eq n e.name in (
      (λ has. more ∙ (elim has [
        | inl same ↦ or_second was now ((bytes_eq-Decides n e.name).1 (sym same))
        | inr later ↦ or_first was now ((are n).0 later)
      ])),
      (λ is. elim (or_either was now (sym more ∙ is)) [
        | inl before ↦ inr ((are n).1 before)
        | inr same ↦ inl (sym ((bytes_eq-Decides n e.name).0 same))
      ]),
    )

-- behind these entries come the first of those names that have none yet
abbrev Appends : List HostEntry → List (List ℕ) → List Lexeme → Type 0
Appends entries seen ts =
    (rest : List HostEntry) × (entries_with entries ts ≡ entries ++ rest) × AreFirsts seen (map entry_of ts) rest

appends_next :
    (v : Bool) (t : Lexeme) (ts : List Lexeme) (entries : List HostEntry) (seen : List (List ℕ)) → AreSeen seen entries
    → has_entry (text_of t) entries ≡ v
    → ((es : List HostEntry) (names : List (List ℕ)) → AreSeen names es → Appends es names ts)
    → (rest : List HostEntry)
    × (entries_with (if v then entries else entries ++ entry_of t ∷ []) ts ≡ entries ++ rest)
    × AreFirsts seen (map entry_of (t ∷ ts)) rest
appends_next true t ts entries seen are is later =
    let r = later entries seen are in (r.0, r.1, inl ((are (text_of t)).1 is, r.2))
appends_next false t ts entries seen are is later =
    let r = later (entries ++ entry_of t ∷ []) (text_of t ∷ seen) (one_seen seen entries (entry_of t) are) in (
      entry_of t ∷ r.0,
      r.1 ∙ append_assoc entries (entry_of t ∷ []) r.0,
      inr (r.0, (λ has. true≢false (sym ((are (text_of t)).0 has) ∙ is)), refl, r.2),
    )

appends :
    (ts : List Lexeme) (entries : List HostEntry) (seen : List (List ℕ)) → AreSeen seen entries → Appends entries seen ts
unfolding entries_with
appends [] entries seen are = ([], sym (append-nil entries), refl)
appends (t ∷ ts) entries seen are =
    appends_next (has_entry (text_of t) entries) t ts entries seen are refl
    (λ es names are_names. appends ts es names are_names)

are_firsts :
    (ts : List Lexeme) (entries : List HostEntry) → entries ≡ entries_with [] ts
    → AreFirsts [] (map entry_of ts) entries
are_firsts ts entries is =
    let r = appends ts [] [] (λ n. ((λ has. absurd has), (λ no. absurd (true≢false (sym no))))) in
    subst (λ (es : List HostEntry). AreFirsts [] (map entry_of ts) es) (sym (is ∙ r.1)) r.2

-- no name is left
pub entries_end :
    (names : List Token) (i : ℕ) (entries : List HostEntry) → length names ≤ i
    → entries_with entries (lexemes (drop i names)) ≡ entries_with [] (lexemes names)
    → AreFirsts [] (map entry_of (lexemes names)) entries
unfolding entries_with
entries_end names i entries over left =
    are_firsts (lexemes names) entries
    (sym (ap (λ ts. entries_with entries (lexemes ts)) (drop_of_length-le names over)) ∙ left)
