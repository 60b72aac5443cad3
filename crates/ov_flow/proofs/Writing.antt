-- Paths that are written backwards, and read again.
use Rattle.std.proofs.Common.{◌≡◌, ◌≢◌, ◌∙◌, ◌⊎◌, ℕ, ◌+◌, ◌-◌, ◌<◌, inl, inr, List, [], ◌∷◌, ◌++◌, length, get_or}
use Rattle.std.proofs.Common.{reverse, cond, Bool, Some, None, refl, sym, ap, subst, arith, append_assoc, append-nil}
use Rattle.std.proofs.Common.{eq-eqb, ne_eqb}
use Rattle.std.proofs.lemmas.List.{length_push, reverse-append}
use Rattle.ov_ids.specs.Members.{Has, IsDistinct}
use Rattle.ov_ids.proofs.Members.{has_append_left, has_append_right, has_append_cases}
use Rattle.ov_graph.specs.Joined.{Leads}
use Rattle.ov_graph.specs.Paths.{ShareOnly}
use Rattle.ov_split.specs.SplitNetState.{SplitNetState, IsSplitNet, IsFanOf}
use Rattle.ov_split.specs.Code.Residual.{Table, AreHeld, IsFlow}
use Rattle.ov_split.proofs.Augmenting.Trace.{Arc, not_source, used_on, suffix, meet, is_path, path_off, TracedPath}
use Rattle.ov_flow.specs.Code.Flat.{paths_after, paths_in}
use Rattle.ov_flow.specs.Code.Walked.{IsWritten}
use Rattle.ov_flow.proofs.Reaching.{last_of_push}
use Rattle.ov_flow.proofs.Copying.{IsComing, coming_none, coming_more, coming_bound, coming_all}

-- the part of the path to e that is written
pub record IsWriting (n : SplitNetState) (from : Table) (old out : List ℕ) (e x : ℕ) : Type 0 where
  pub c : List ℕ
  pub coming : IsComing n from e x c
  pub items : out ≡ old ++ reverse c
  pub count : length out ≡ length old + length c

-- one more node is written
backwards : (old out new c : List ℕ) (x : ℕ) → out ≡ old ++ reverse c → new ≡ out ++ x ∷ []
    → new ≡ old ++ reverse (x ∷ c)
backwards old out new c x e f =
    f ∙ ap (λ (l : List ℕ). l ++ x ∷ []) e ∙ append_assoc old (reverse c) (x ∷ [])
    ∙ ap (λ (l : List ℕ). old ++ l) (sym (reverse-append (x ∷ []) c))

module _ (n : SplitNetState) (net : IsSplitNet n) (from : Table) (ends : List ℕ) (held : AreHeld n from ends) (e : ℕ)
    (h : Has ends e)
    (apart : e ≢ n.source) (old : List ℕ) where
  pub writing_none : IsWriting n from old old e e
  writing_none = record {
    c = [];
    coming = coming_none n net from ends held e h apart;
    items = sym (append-nil old);
    count = omega arith;
  }

  pub writing_more : (out new : List ℕ) (x u : ℕ) → IsWriting n from old out e x → from x ≡ Some u
      → new ≡ out ++ x ∷ [] → IsWriting n from old new e u
  writing_more out new x u g f is = record {
    c = x ∷ g.c;
    coming = coming_more n net from ends held e h apart x u g.c g.coming f;
    items = backwards old out new g.c x g.items is;
    count = let q = g.count in let l = length_push out x in let m = ap (λ (l : List ℕ). length l) is in
        omega (arith, q, l, m);
  }

  -- there is room for more nodes than were written
  pub writing_less : (out : List ℕ) (x u : ℕ) → IsWriting n from old out e x → from x ≡ Some u
      → length out < length old + length n.graph.nodes
  writing_less out x u g f =
      let q = g.count in
      let b = coming_bound n net from ends held e h apart x u g.c g.coming f in
      omega (arith, q, b)

pub writing_done : (n : SplitNetState) (from : Table) (old out new : List ℕ) (e x s : ℕ) → IsWriting n from old out e x
    → from x ≡ None → s ≡ n.source → new ≡ out ++ s ∷ [] → IsWritten n from old new e
writing_done n from old out new e x s g f same is = record {
  path = g.c;
  traced = coming_all n from e x g.c g.coming f;
  items = backwards old out new g.c n.source g.items (is ∙ ap (λ (p : ℕ). out ++ p ∷ []) same);
}

-- a path that is read backwards stands ahead of what was read before
read_ahead : (s : ℕ) (c ahead more : List ℕ) → ¬ Has c s
    → paths_after s ahead (reverse c ++ more) ≡ paths_after s (c ++ ahead) more
unfolding paths_after
read_ahead s [] ahead more off = refl
read_ahead s (x ∷ c) ahead more off =
    ap (λ (l : List ℕ). paths_after s ahead (l ++ more)) (reverse-append (x ∷ []) c)
    ∙ ap (paths_after s ahead) (append_assoc (reverse c) (x ∷ []) more)
    ∙ read_ahead s c ahead (x ∷ more) (λ h. off (inr h))
    ∙ ap (λ (b : Bool). cond b ((s ∷ c ++ ahead) ∷ paths_after s [] more) (paths_after s (x ∷ c ++ ahead) more))
    (ne_eqb x s (λ e. off (inl e)))

-- one path is read
pub read_one : (s : ℕ) (c more : List ℕ) → ¬ Has c s
    → paths_after s [] (reverse (s ∷ c) ++ more) ≡ (s ∷ c) ∷ paths_after s [] more
unfolding paths_after
read_one s c more off =
    ap (λ (l : List ℕ). paths_after s [] (l ++ more)) (reverse-append (s ∷ []) c)
    ∙ ap (paths_after s []) (append_assoc (reverse c) (s ∷ []) more)
    ∙ read_ahead s c [] (s ∷ more) off
    ∙ ap (λ (b : Bool). cond b ((s ∷ c ++ []) ∷ paths_after s [] more) (paths_after s (s ∷ c ++ []) more))
    (eq-eqb s s refl)
    ∙ ap (λ (l : List ℕ). (s ∷ l) ∷ paths_after s [] more) (append-nil c)

-- one more list, which shares only `shared` with those before
share_push : (shared : List ℕ) (ps : List (List ℕ)) (p : List ℕ) → ShareOnly shared ps
    → ((q : List ℕ) (x : ℕ) → Has ps q → Has q x → Has p x → Has shared x) → ShareOnly shared (ps ++ p ∷ [])
share_push shared [] p a f = ((λ q x h. absurd h), tt)
share_push shared (r ∷ ps) p a f = (
  (λ q x hq hr hx. elim (has_append_cases ps (p ∷ []) q hq) [
    | inl k ↦ a.0 q x k hr hx
    | inr k ↦ elim k [
      | inl e ↦ f r x (inl refl) hr (subst (λ (l : List ℕ). Has l x) (sym e) hx)
      | inr w ↦ absurd w
    ]
  ]),
  share_push shared ps p a.1 (λ q x h. f q x (inr h)),
)

-- the paths to some of the ends
pub record AreWriting (n : SplitNetState) (from : Table) (out done : List ℕ) (k : ℕ) : Type 0 where
  pub paths : List (List ℕ)
  pub count : length paths ≡ k
  pub each : (p : List ℕ) → Has paths p → (e : ℕ) × Has done e × ((c : List ℕ) × (p ≡ n.source ∷ c)
      × Leads (Arc from) n.source c e × IsDistinct (n.source ∷ c))
  pub apart : ShareOnly (n.source ∷ []) paths
  pub reads : (more : List ℕ) → paths_after n.source [] (out ++ more) ≡ paths ++ paths_after n.source [] more
  pub last : (out ≡ []) ⊎ (get_or out (length out - 1) 0 ≡ n.source)

pub none_written : (n : SplitNetState) (from : Table) (out : List ℕ) → out ≡ [] → AreWriting n from out [] 0
none_written n from out is = record {
  paths = [];
  count = refl;
  each = λ p h. absurd h;
  apart = tt;
  reads = λ more. ap (λ (l : List ℕ). paths_after n.source [] (l ++ more)) is;
  last = inl is;
}

module _ (n : SplitNetState) (from : Table) (ends : List ℕ) (held : AreHeld n from ends) where
  pub one_written : (out new done : List ℕ) (k e : ℕ) → AreWriting n from out done k
      → ((a : ℕ) → Has done a → Has ends a) → Has ends e → ¬ Has done e → IsWritten n from out new e
      → AreWriting n from new (done ++ e ∷ []) (k + 1)
  one_written out new done k e w among he fresh one =
      let s = n.source in
      let p = s ∷ one.path in
      let off : ¬ Has one.path s = one.traced.1.0 in
      record {
        paths = w.paths ++ p ∷ [];
        count = let q = w.count in let l = length_push w.paths p in omega (arith, q, l);
        each = λ r h. elim (has_append_cases w.paths (p ∷ []) r h) [
          | inl m ↦ let q = w.each r m in (q.0, has_append_left done (e ∷ []) q.0 q.1, q.2)
          | inr m ↦ elim m [
            | inl q ↦ (
              e,
              has_append_right done (e ∷ []) e (inl refl),
              (one.path, sym q, one.traced.0, one.traced.1),
            )
            | inr z ↦ absurd z
          ]
        ];
        apart = share_push (s ∷ []) w.paths p w.apart (λ q x hq hx hp.
            let b = w.each q hq in
            elim hp [
              | inl r ↦ inl r
              | inr m ↦ elim (subst (λ (l : List ℕ). Has l x) b.2.1 hx) [
                | inl r ↦ inl r
                | inr j ↦
                    let xs = not_source n from ends held x (used_on from s e x one.path one.traced.0 m) in
                    let a = suffix from s e x one.path one.traced.0 m in
                    let d = suffix from s b.0 x b.2.0 b.2.2 j in
                    let same = meet n from ends held x e b.0 a.0 d.0 he (among b.0 b.1) xs a.1 d.1 in
                    absurd (fresh (subst (Has done) (sym same) b.1))
              ]
            ]);
        reads = λ more.
            ap (λ (l : List ℕ). paths_after s [] (l ++ more)) one.items
            ∙ ap (paths_after s []) (append_assoc out (reverse p) more)
            ∙ w.reads (reverse p ++ more)
            ∙ ap (λ (l : List (List ℕ)). w.paths ++ l) (read_one s one.path more off)
            ∙ sym (append_assoc w.paths (p ∷ []) (paths_after s [] more));
        last =
            let is : new ≡ (out ++ reverse one.path) ++ s ∷ [] = one.items
            ∙ ap (λ (l : List ℕ). out ++ l) (reverse-append (s ∷ []) one.path)
            ∙ sym (append_assoc out (reverse one.path) (s ∷ [])) in
            inr (ap (λ (l : List ℕ). get_or l (length l - 1) 0) is ∙ last_of_push (out ++ reverse one.path) s);
      }

-- what was written is read
read_all : (s : ℕ) (out : List ℕ) (paths : List (List ℕ))
    → ((more : List ℕ) → paths_after s [] (out ++ more) ≡ paths ++ paths_after s [] more)
    → (out ≡ []) ⊎ (get_or out (length out - 1) 0 ≡ s) → paths_in out ≡ paths
unfolding paths_in paths_after
read_all s out paths reads last =
    let all : paths_after s [] out ≡ paths =
    ap (paths_after s []) (sym (append-nil out)) ∙ reads [] ∙ append-nil paths in
    elim last [
      | inl e ↦ ap paths_in e ∙ sym (ap (paths_after s []) e) ∙ all
      | inr e ↦ ap (λ (t : ℕ). paths_after t [] out) e ∙ all
    ]

pub all_written : (n : SplitNetState) → IsSplitNet n → (from : Table) (ends out : List ℕ) (k : ℕ) → IsFlow n from ends
    → AreWriting n from out ends k → k ≡ length ends → IsFanOf n (length ends) (paths_in out)
all_written n net from ends out k flow w is =
    let traced : (p : List ℕ) → Has w.paths p → TracedPath n net from ends flow.held ends p =
    λ p h.
    let q = w.each p h in
    record {
      end = q.0;
      among = q.1;
      steps = q.2.0;
      is = q.2.1;
      leads = q.2.2;
      distinct = q.2.3;
    } in
    subst (IsFanOf n (length ends)) (sym (read_all n.source out w.paths w.reads w.last)) (record {
      fan = record {
        count = w.count ∙ is;
        outside = net.no_target;
        each = λ p h.
            let q = w.each p h in
            (q.0, flow.targets q.0 q.1, is_path n net from ends flow.held ends p (traced p h));
        apart = w.apart;
      };
      off = λ p h. path_off n net from ends flow.held ends p (traced p h);
    })
