-- Values that are taken off a list of tokens, one after another.
use Rattle.std.proofs.Common.{◌≡◌, ◌∙◌, ℕ, ◌<◌, List, [], ◌∷◌, ◌++◌, length, map, Option, Some, refl, sym, ap}
use Rattle.std.proofs.Common.{subst, arith, append_assoc, append-nil, length-append}
use Rattle.json.specs.Token.{Token}
use Rattle.json.specs.Json.{Json, null, boolean, number, string, array, object}
use Rattle.json.specs.Tree.{json_tokens, items_tokens, members_tokens}
use Rattle.serde_json.specs.Data.{Data, string as string_data, object as object_data, Members, no_members, member}
use Rattle.serde_json.specs.View.{items_of}
use Rattle.serde_json.specs.Written.{outline, items_outline, members_outline}
use Rattle.ov_certfile.specs.DataOf.{list_data, whole_data, link_data}
use Rattle.ov_certfile.specs.Forms.{list_in}
use Rattle.ov_certfile.specs.Kinds.{name_of, verdict_text, version_number}
use Rattle.ov_certfile.specs.declared.file_keys.Key.TheVariants as key
use Rattle.ov_certfile.specs.declared.linked_or_split.Verdict.{Verdict}
use Rattle.ov_certfile.specs.declared.version.Version.{Version}
use Rattle.ov_certfile.specs.Code.Tokens.{TakesValue, TakesMembers}
use Rattle.ov_certfile.proofs.Listed.{EachReadsBack, list_back}

-- ---- a value

some_token : (j : Json) → 0 < length (json_tokens j)
some_token null = omega arith
some_token (boolean b) = omega arith
some_token (number s) = omega arith
some_token (string s) = omega arith
some_token (array js) = omega arith
some_token (object ms) = omega arith

-- fewer tokens are left
pub fewer_left : (d : Data) (old new : List Token) → TakesValue d old new → length new < length old
fewer_left d old new e =
    let n = length-append (json_tokens (outline d)) new in
    let s = some_token (outline d) in
    let m = ap length e in
    omega (arith, n, s, m)

-- ---- the items of an array

each_more : {X : Type 0} (form : Data → Option X) (as_data : X → Data) (done : List X) (x : X)
    → EachReadsBack form as_data done → form (as_data x) ≡ Some x → EachReadsBack form as_data (done ++ x ∷ [])
each_more form as_data [] x h b = (b, tt)
each_more form as_data (y ∷ ys) x h b = (h.0, each_more form as_data ys x h.1 b)

-- Some items of an array are taken: whatever items are left, with these they were the array. They read back.
pub record Taking {X : Type 0} (form : Data → Option X) (as_data : X → Data) (begun : List Token) (done : List X)
    (left : List Token) : Type 0 where
  pub followed : (more : List X) (new : List Token)
      → left ≡ items_tokens (items_outline (items_of (map as_data more))) ++ new
      → TakesValue (list_data as_data (done ++ more)) begun new
  pub back : EachReadsBack form as_data done

module _ {X : Type 0} (form : Data → Option X) (as_data : X → Data) (begun : List Token) where
  pub taking_begun : (left : List Token) → begun ≡ Token.begin_array ∷ left → Taking form as_data begun [] left
  taking_begun left e = record { followed = λ more new f. e ∙ ap (λ ts. Token.begin_array ∷ ts) f; back = tt }

  pub taking_more : (done : List X) (x : X) (left next : List Token) → Taking form as_data begun done left
      → TakesValue (as_data x) left next → form (as_data x) ≡ Some x → Taking form as_data begun (done ++ x ∷ []) next
  taking_more done x left next t e b = record {
    followed = λ more new f. subst (λ xs. TakesValue (list_data as_data xs) begun new)
        (sym (append_assoc done (x ∷ []) more))
        (t.followed (x ∷ more) new (e ∙ ap (λ ts. json_tokens (outline (as_data x)) ++ ts) f
        ∙ sym (append_assoc (json_tokens (outline (as_data x)))
        (items_tokens (items_outline (items_of (map as_data more)))) new)));
    back = each_more form as_data done x t.back b;
  }

  pub taking_all : (done : List X) (left new : List Token) → Taking form as_data begun done left
      → left ≡ Token.end_array ∷ new → TakesValue (list_data as_data done) begun new
  taking_all done left new t e =
      subst (λ xs. TakesValue (list_data as_data xs) begun new) (append-nil done) (t.followed [] new e)

  pub taking_back : (done : List X) (left : List Token) → Taking form as_data begun done left
      → list_in form (list_data as_data done) ≡ Some done
  taking_back done left t = list_back form as_data done t.back

-- ---- members

-- a key and its value are a member
pub member_taken : (k : List ℕ) (d : Data) (old mid new : List Token) → old ≡ Token.key k ∷ mid → TakesValue d mid new
    → TakesMembers (member k d) old new
member_taken k d old mid new e f = record {
  followed = λ ms rest g. e ∙ ap (λ ts. Token.key k ∷ ts) (f ∙ ap (λ ts. json_tokens (outline d) ++ ts) g
      ∙ sym (append_assoc (json_tokens (outline d)) (members_tokens (members_outline ms)) rest));
}

-- members, and then others
pub then_taken : (add more : Members → Members) (old mid new : List Token) → TakesMembers add old mid
    → TakesMembers more mid new → TakesMembers (λ ms. add (more ms)) old new
then_taken add more old mid new a b =
    record { followed = λ ms rest e. a.followed (more ms) rest (b.followed ms rest e) }

-- no members
pub none_taken : (old new : List Token) → new ≡ old → TakesMembers (λ ms. ms) old new
none_taken old new e = record { followed = λ ms rest f. sym e ∙ f }

-- the last members of a file
abbrev pub end_members : Verdict → Version → Members
end_members verdict version =
    member (name_of key.Verdict) (string_data (verdict_text verdict))
    (member (name_of key.Version) (whole_data (version_number version)) no_members)

-- they are taken, and the brace that closes the file
pub end_taken : (verdict : Verdict) (version : Version) (n : ℕ) (old t u v new : List Token)
    → old ≡ Token.key (name_of key.Verdict) ∷ t → t ≡ Token.string (verdict_text verdict) ∷ u
    → TakesMembers (member (name_of key.Version) (whole_data n)) u v → n ≡ version_number version
    → v ≡ Token.end_object ∷ new
    → old ≡ members_tokens (members_outline (end_members verdict version)) ++ new
end_taken verdict version n old t u v new e f g is h =
    let tail : u ≡ members_tokens (members_outline (member (name_of key.Version) (whole_data (version_number version))
    no_members)) ++ new = rw (← is) (g.followed no_members new h) in
    e ∙ ap (λ ts. Token.key (name_of key.Verdict) ∷ ts) (f ∙ ap (λ ts. Token.string (verdict_text verdict) ∷ ts) tail)

-- an object: its members, between braces
pub object_taken : (add : Members → Members) (old opened mid new : List Token) → old ≡ Token.begin_object ∷ opened
    → TakesMembers add opened mid → mid ≡ Token.end_object ∷ new → TakesValue (object_data (add no_members)) old new
object_taken add old opened mid new e a f =
    e ∙ ap (λ ts. Token.begin_object ∷ ts) (a.followed no_members new f)

-- a link: two ids between brackets
pub link_taken : (a b : ℕ) (old t u v new : List Token) → old ≡ Token.begin_array ∷ t → TakesValue (whole_data a) t u
    → TakesValue (whole_data b) u v → v ≡ Token.end_array ∷ new → TakesValue (link_data (a, b)) old new
link_taken a b old t u v new e f g h = rw (e, f, g, h) refl
