-- Listings that are looked at one after another, for those that are not answered; names without an entry, and names
-- that list themselves.
use Rattle.std.proofs.Common.{◌≡◌, ◌≢◌, ◌∙◌, ◌↔◌, ◌⊎◌, ◌+◌, ◌<◌, ◌≤◌, ℕ, zero, suc, List, [], ◌∷◌, ◌++◌, inl, inr}
use Rattle.std.proofs.Common.{sym, ap, ap₂}
use Rattle.std.proofs.Common.{subst, refl, take, slice_get, Some, unwrap_or, length, get_or, arith, eq-or-lt_of_le}
use Rattle.ov_ids.specs.Members.{Ascends, Has, Ordered}
use Rattle.ov_ids.proofs.Members.{has_append_cases, has_append_left, has_append_right}
use Rattle.ov_dump.specs.Dumps.{ends_of, names_of}
use Rattle.ov_dump.specs.Code.Listed.{AreUnanswered, AreWithoutEntry, IsUnanswered, ListThemselves, Missing}
use Rattle.ov_dump.specs.Names.{ComesBefore}
use Rattle.ov_dump.specs.declared.dump_and_graph_types.Dump.{Dump}
use Rattle.ov_dump.specs.declared.dump_and_graph_types.HostEntry.{HostEntry}
use Rattle.ov_dump.specs.declared.dump_and_graph_types.Listing.{Listing}
use Rattle.ov_dump.proofs.Places.{ordered_more, within}
use Rattle.ov_dump.proofs.Sounding.{names_more}

pub ends_append : (xs ys : List Listing) → ends_of (xs ++ ys) ≡ ends_of xs ++ ends_of ys
ends_append [] ys = refl
ends_append (x ∷ xs) ys = ap (λ es. (x.from, x.to) ∷ es) (ends_append xs ys)

-- a pair among listings and one more
ends_more : (before : List Listing) (l : Listing) (p : List ℕ × List ℕ)
    → Has (ends_of (before ++ l ∷ [])) p ↔ (((l.from, l.to) ≡ p) ⊎ Has (ends_of before) p)
ends_more before l p =
    let e = ends_append before (l ∷ []) in (
      (λ h. elim (has_append_cases (ends_of before) (ends_of (l ∷ [])) p
          (subst (λ (es : List (List ℕ × List ℕ)). Has es p) e h)) [
            | inl m ↦ inr m
            | inr m ↦ elim m [ inl same ↦ inl same | inr none ↦ absurd none ]
          ]),
      (λ h. subst (λ (es : List (List ℕ × List ℕ)). Has es p) (sym e) (elim h [
        | inl same ↦ has_append_right (ends_of before) (ends_of (l ∷ [])) p (inl same)
        | inr m ↦ has_append_left (ends_of before) (ends_of (l ∷ [])) p m
      ])),
    )

-- the pairs of listings and one more
pub pairs_more : (before : List Listing) (l : Listing) (said later : List (List ℕ × List ℕ))
    → ((p : List ℕ × List ℕ) → Has said p ↔ Has (ends_of before) p)
    → ((p : List ℕ × List ℕ) → Has later p ↔ (((l.from, l.to) ≡ p) ⊎ Has said p))
    → (p : List ℕ × List ℕ) → Has later p ↔ Has (ends_of (before ++ l ∷ [])) p
pairs_more before l said later own more p = (
  (λ h. (ends_more before l p).1 (elim ((more p).0 h) [ inl same ↦ inl same | inr m ↦ inr ((own p).0 m) ])),
  (λ h. (more p).1 (elim ((ends_more before l p).0 h) [ inl same ↦ inl same | inr m ↦ inr ((own p).1 m) ])),
)

-- the names of entries and one more
pub entry_more : (before : List HostEntry) (e : HostEntry) (names later : List (List ℕ))
    → ((n : List ℕ) → Has names n ↔ Has (names_of before) n)
    → ((n : List ℕ) → Has later n ↔ ((e.name ≡ n) ⊎ Has names n))
    → (n : List ℕ) → Has later n ↔ Has (names_of (before ++ e ∷ [])) n
entry_more before e names later own more n =
    let longer = names_more before e in (
      (λ h. subst (λ ns. Has ns n) (sym longer) (elim ((more n).0 h) [
        | inl same ↦ has_append_right (names_of before) (e.name ∷ []) n (inl same)
        | inr m ↦ has_append_left (names_of before) (e.name ∷ []) n ((own n).0 m)
      ])),
      (λ h. (more n).1 (elim (has_append_cases (names_of before) (e.name ∷ []) n (subst (λ ns. Has ns n) longer h)) [
        | inl m ↦ inr ((own n).1 m)
        | inr m ↦ elim m [ inl same ↦ inl same | inr none ↦ absurd none ]
      ])),
    )

-- ---- listings that are not answered

-- after the first i listings: the pairs that were told, and the places of those that are not answered
pub record Told (listings : List Listing) (i : ℕ) (told : List (List ℕ × List ℕ)) (places : List ℕ) : Type 0 where
  pub pairs : (p : List ℕ × List ℕ) → Has told p
      ↔ (Has (ends_of (take i listings)) p × ¬ Has (ends_of listings) (p.1, p.0))
  pub ascend : Ascends places
  pub each : (q : ℕ) → Has places q ↔ ((q < i) × IsUnanswered listings q)

pub begun : (listings : List Listing) (told : List (List ℕ × List ℕ)) (places : List ℕ) → told ≡ [] → places ≡ []
    → Told listings 0 told places
begun listings told places no_pair no_place = record {
  pairs = λ p. ((λ h. absurd (subst (λ (ps : List (List ℕ × List ℕ)). Has ps p) no_pair h)), (λ h. absurd h.0));
  ascend = subst Ascends (sym no_place) tt;
  each = λ q. ((λ h. absurd (subst (λ (ps : List ℕ). Has ps q) no_place h)), (λ h. absurd (omega (arith, h.0))));
}

pub here :
    (listings : List Listing) (i : ℕ) (d : Listing) → i < length listings
    → slice_get listings i ≡ Some (get_or listings i d)
here [] i d l = absurd (omega arith)
here (x ∷ xs) zero d l = refl
here (x ∷ xs) (suc i) d l = here xs i d (omega arith)

-- a place below the next one
earlier : (q i : ℕ) → q < i + 1 → (q ≡ i) ⊎ (q < i)
earlier q i l = eq-or-lt_of_le (omega (arith, l))

-- the listing at a place that is not answered
is_there : (listings : List Listing) (i : ℕ) (l : Listing) → slice_get listings i ≡ Some l → IsUnanswered listings i
    → (¬ Has (ends_of listings) (l.to, l.from)) × (¬ Has (ends_of (take i listings)) (l.from, l.to))
is_there listings i l at u =
    let same : u.0 ≡ l = ap (λ o. unwrap_or o l) (sym u.1 ∙ at) in (
      subst (λ (x : Listing). ¬ Has (ends_of listings) (x.to, x.from)) same u.2,
      subst (λ (x : Listing). ¬ Has (ends_of (take i listings)) (x.from, x.to)) same u.3,
    )

-- the next listing is no further one
same_places : (listings : List Listing) (i : ℕ) (places : List ℕ) → ¬ IsUnanswered listings i
    → ((q : ℕ) → Has places q ↔ ((q < i) × IsUnanswered listings q))
    → (q : ℕ) → Has places q ↔ ((q < i + 1) × IsUnanswered listings q)
same_places listings i places none each q = (
  (λ h. let r = (each q).0 h in let low = r.0 in (omega (arith, low), r.1)),
  (λ h. elim (earlier q i h.0) [
    | inl e ↦ absurd (none (subst (IsUnanswered listings) e h.1))
    | inr l ↦ (each q).1 (l, h.1)
  ]),
)

-- the next listing is answered
pub answered : (listings : List Listing) (i : ℕ) (l : Listing) (told : List (List ℕ × List ℕ)) (places : List ℕ)
    → Told listings i told places → slice_get listings i ≡ Some l → take (i + 1) listings ≡ take i listings ++ l ∷ []
    → Has (ends_of listings) (l.to, l.from)
    → Told listings (i + 1) told places
answered listings i l told places s at next back = record {
  pairs = λ p. (
    (λ h. let r = (s.pairs p).0 h in (
      subst (λ (ls : List Listing). Has (ends_of ls) p) (sym next) ((ends_more (take i listings) l p).1 (inr r.0)),
      r.1,
    )),
    (λ h. elim ((ends_more (take i listings) l p).0 (subst (λ (ls : List Listing). Has (ends_of ls) p) next h.0)) [
      | inl same ↦ absurd (h.1 (subst (λ (x : List ℕ × List ℕ). Has (ends_of listings) (x.1, x.0)) same back))
      | inr m ↦ (s.pairs p).1 (m, h.1)
    ]),
  );
  ascend = s.ascend;
  each = same_places listings i places (λ u. (is_there listings i l at u).0 back) s.each;
}

grown : (listings : List Listing) (i : ℕ) (l : Listing) (told later : List (List ℕ × List ℕ)) (places : List ℕ)
    → Told listings i told places → take (i + 1) listings ≡ take i listings ++ l ∷ []
    → ¬ Has (ends_of listings) (l.to, l.from)
    → ((p : List ℕ × List ℕ) → Has later p ↔ (((l.from, l.to) ≡ p) ⊎ Has told p))
    → (p : List ℕ × List ℕ) → Has later p
    ↔ (Has (ends_of (take (i + 1) listings)) p × ¬ Has (ends_of listings) (p.1, p.0))
grown listings i l told later places s next back more p = (
  (λ h. elim ((more p).0 h) [
    | inl same ↦ (
      subst (λ (ls : List Listing). Has (ends_of ls) p) (sym next) ((ends_more (take i listings) l p).1 (inl same)),
      subst (λ (x : List ℕ × List ℕ). ¬ Has (ends_of listings) (x.1, x.0)) same back,
    )
    | inr m ↦ let r = (s.pairs p).0 m in (
      subst (λ (ls : List Listing). Has (ends_of ls) p) (sym next) ((ends_more (take i listings) l p).1 (inr r.0)),
      r.1,
    )
  ]),
  (λ h. (more p).1 (elim ((ends_more (take i listings) l p).0
      (subst (λ (ls : List Listing). Has (ends_of ls) p) next h.0)) [
        | inl same ↦ inl same
        | inr m ↦ inr ((s.pairs p).1 (m, h.1))
      ])),
)

-- the next listing is not answered, and was not told
pub told_more : (listings : List Listing) (i : ℕ) (l : Listing) (told later : List (List ℕ × List ℕ))
    (places places' : List ℕ)
    → Told listings i told places → slice_get listings i ≡ Some l → take (i + 1) listings ≡ take i listings ++ l ∷ []
    → ¬ Has (ends_of listings) (l.to, l.from) → ¬ Has told (l.from, l.to)
    → ((p : List ℕ × List ℕ) → Has later p ↔ (((l.from, l.to) ≡ p) ⊎ Has told p))
    → places' ≡ places ++ i ∷ []
    → Told listings (i + 1) later places'
told_more listings i l told later places places' s at next back fresh more pushed = record {
  pairs = grown listings i l told later places s next back more;
  ascend = subst Ascends (sym pushed)
      (ordered_more (λ x y. x < y) places i s.ascend (λ q h. ((s.each q).0 h).0));
  each = λ q. (
    (λ h. elim (has_append_cases places (i ∷ []) q (subst (λ (ps : List ℕ). Has ps q) pushed h)) [
      | inl m ↦ let r = (s.each q).0 m in let low = r.0 in (omega (arith, low), r.1)
      | inr m ↦ elim m [
        | inl e ↦ (
          omega (arith, e),
          subst (IsUnanswered listings) e
              (l, at, back, (λ h. fresh ((s.pairs (l.from, l.to)).1 (h, back)))),
        )
        | inr none ↦ absurd none
      ]
    ]),
    (λ h. subst (λ (ps : List ℕ). Has ps q) (sym pushed) (elim (earlier q i h.0) [
      | inl e ↦ has_append_right places (i ∷ []) q (inl (sym e))
      | inr low ↦ has_append_left places (i ∷ []) q ((s.each q).1 (low, h.1))
    ])),
  );
}

-- the next listing is not answered, and was told
pub told_before : (listings : List Listing) (i : ℕ) (l : Listing) (told later : List (List ℕ × List ℕ))
    (places : List ℕ)
    → Told listings i told places → slice_get listings i ≡ Some l → take (i + 1) listings ≡ take i listings ++ l ∷ []
    → ¬ Has (ends_of listings) (l.to, l.from) → ¬ (¬ Has told (l.from, l.to))
    → ((p : List ℕ × List ℕ) → Has later p ↔ (((l.from, l.to) ≡ p) ⊎ Has told p))
    → Told listings (i + 1) later places
told_before listings i l told later places s at next back known more = record {
  pairs = grown listings i l told later places s next back more;
  ascend = s.ascend;
  each = same_places listings i places
      (λ u. known (λ k. (is_there listings i l at u).1 ((s.pairs (l.from, l.to)).0 k).0)) s.each;
}

-- all listings were looked at
pub told_all : (d : Dump) (listings : List Listing) (i : ℕ) (told : List (List ℕ × List ℕ)) (places : List ℕ)
    → Told listings i told places → length listings ≤ i → listings ≡ d.listings → AreUnanswered d places
told_all d listings i told places s far same = record {
  ascend = s.ascend;
  each = λ p. subst (λ (ls : List Listing). Has places p ↔ IsUnanswered ls p) same (
    (λ h. ((s.each p).0 h).1),
    (λ u. let low = within listings p u.0 u.1 in (s.each p).1 (omega (arith, low, far), u)),
  );
}

-- ---- names without an entry

pub missing_begun : (entries names : List (List ℕ)) → names ≡ [] → Missing [] entries names
missing_begun entries names none = record {
  each = λ n. ((λ h. absurd (subst (λ (ns : List (List ℕ)). Has ns n) none h)), (λ h. absurd h.0.1));
}

pub missing_more : (before : List Listing) (l : Listing) (entries names later : List (List ℕ))
    → Missing before entries names
    → ((n : List ℕ) → Has later n ↔ (((l.to ≡ n) × ¬ Has entries n) ⊎ Has names n))
    → Missing (before ++ l ∷ []) entries later
missing_more before l entries names later m more = record {
  each = λ n. (
    (λ h. elim ((more n).0 h) [
      | inl k ↦ ((l.from, (ends_more before l (l.from, n)).1 (inl (ap (λ (x : List ℕ). (l.from, x)) k.0))), k.1)
      | inr k ↦ let r = (m.each n).0 k in ((r.0.0, (ends_more before l (r.0.0, n)).1 (inr r.0.1)), r.1)
    ]),
    (λ h. (more n).1 (elim ((ends_more before l (h.0.0, n)).0 h.0.1) [
      | inl same ↦ inl (ap (λ (p : List ℕ × List ℕ). p.1) same, h.1)
      | inr k ↦ inr ((m.each n).1 ((h.0.0, k), h.1))
    ])),
  );
}

pub without_entry : (d : Dump) (entries names : List (List ℕ)) → Ordered ComesBefore names
    → ((n : List ℕ) → Has entries n ↔ Has (names_of d.entries) n) → Missing d.listings entries names
    → AreWithoutEntry d names
without_entry d entries names up own m = record {
  ascend = up;
  each = λ n. (
    (λ h. let r = (m.each n).0 h in (r.0, (λ k. r.1 ((own n).1 k)))),
    (λ h. (m.each n).1 (h.0, (λ k. h.1 ((own n).0 k)))),
  );
}

-- ---- names that list themselves

-- the name of a listing that has only one is added
pub one_name : (l : Listing) (names later : List (List ℕ)) → l.from ≡ l.to
    → ((n : List ℕ) → Has later n ↔ ((l.from ≡ n) ⊎ Has names n))
    → (n : List ℕ) → Has later n ↔ (((l.from ≡ n) × (l.to ≡ n)) ⊎ Has names n)
one_name l names later same more n = (
  (λ h. elim ((more n).0 h) [ inl e ↦ inl (e, sym same ∙ e) | inr m ↦ inr m ]),
  (λ h. (more n).1 (elim h [ inl e ↦ inl e.0 | inr m ↦ inr m ])),
)

-- a listing of two names says of none that it lists itself
pub two_names : (l : Listing) (names : List (List ℕ)) → l.from ≢ l.to
    → (n : List ℕ) → Has names n ↔ (((l.from ≡ n) × (l.to ≡ n)) ⊎ Has names n)
two_names l names differ n = (
  (λ h. inr h),
  (λ h. elim h [ inl e ↦ absurd (differ (e.0 ∙ sym e.1)) | inr m ↦ m ]),
)

-- the names of listings and one more
pub self_more : (before : List Listing) (l : Listing) (names later : List (List ℕ))
    → ((n : List ℕ) → Has names n ↔ Has (ends_of before) (n, n))
    → ((n : List ℕ) → Has later n ↔ (((l.from ≡ n) × (l.to ≡ n)) ⊎ Has names n))
    → (n : List ℕ) → Has later n ↔ Has (ends_of (before ++ l ∷ [])) (n, n)
self_more before l names later own more n = (
  (λ h. (ends_more before l (n, n)).1 (elim ((more n).0 h) [
    | inl e ↦ inl (ap₂ (λ (x y : List ℕ). (x, y)) e.0 e.1)
    | inr m ↦ inr ((own n).0 m)
  ])),
  (λ h. (more n).1 (elim ((ends_more before l (n, n)).0 h) [
    | inl e ↦ inl (ap (λ (p : List ℕ × List ℕ). p.0) e, ap (λ (p : List ℕ × List ℕ). p.1) e)
    | inr m ↦ inr ((own n).1 m)
  ])),
)

pub list_themselves : (d : Dump) (names : List (List ℕ)) → Ordered ComesBefore names
    → ((n : List ℕ) → Has names n ↔ Has (ends_of d.listings) (n, n)) → ListThemselves d names
list_themselves d names up each = record { ascend = up; each = each }
