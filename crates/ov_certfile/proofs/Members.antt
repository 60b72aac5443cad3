-- The texts of members of an object, one after another.
use Rattle.std.proofs.Common.{◌≡◌, ℕ, Bool, true, false, List, ◌++◌, codes, refl, ap, ◌∙◌, append_assoc}
use Rattle.serde_json.specs.Data.{Data, string, object, Members, member}
use Rattle.serde_json.specs.Written.{comma_if, compact_text, members_text}
use Rattle.serde_json.proofs.OnLiterals.{serde_json_on_literals}
use Rattle.ov_certfile.specs.Kinds.{name_of, verdict_text}
use Rattle.ov_certfile.specs.Code.Writing.{WritesMembers}
use Rattle.ov_certfile.specs.declared.file_keys.Key.{Key}
use Rattle.ov_certfile.specs.declared.file_keys.Key.TheVariants as key
use Rattle.ov_certfile.specs.declared.linked_or_split.Verdict.{Verdict}
use Rattle.ov_certfile.specs.declared.linked_or_split.Verdict.TheVariants as verdict

-- no name of a key has a character that is written otherwise in a text
name_quoted : (k : Key) → codes "\"" ++ (name_of k ++ codes "\":") ≡ compact_text (string (name_of k)) ++ codes ":"
unfolding serde_json_on_literals
name_quoted key.K = refl
name_quoted key.Links = refl
name_quoted key.Moment = refl
name_quoted key.Nodes = refl
name_quoted key.Verdict = refl
name_quoted key.Version = refl
name_quoted key.Group = refl
name_quoted key.Cut = refl
name_quoted key.Near = refl
name_quoted key.Far = refl
name_quoted key.Side = refl
name_quoted key.Pairs = refl
name_quoted key.Fans = refl
name_quoted key.I = refl
name_quoted key.J = refl
name_quoted key.Paths = refl

-- nor has the text of a verdict
verdict_quoted : (v : Verdict) → codes "\"" ++ (verdict_text v ++ codes "\"") ≡ compact_text (string (verdict_text v))
unfolding serde_json_on_literals
verdict_quoted verdict.Linked = refl
verdict_quoted verdict.Split = refl

-- a comma, if members stand before, and a key with its colon
pub key_written : (later : Bool) (k : Key) (old after opened name named new : List ℕ)
    → after ≡ old ++ comma_if later → opened ≡ after ++ codes "\"" → name ≡ name_of k → named ≡ opened ++ name
    → new ≡ named ++ codes "\":" → new ≡ old ++ (comma_if later ++ (compact_text (string (name_of k)) ++ codes ":"))
key_written later k old after opened name named new a b n c d =
    let whole : new ≡ old ++ (comma_if later ++ (codes "\"" ++ (name_of k ++ codes "\":"))) =
    rw (d, c, n, b, a) (simp append_assoc) in
    whole ∙ ap (λ s. old ++ (comma_if later ++ s)) (name_quoted k)

pub verdict_written : (v : Verdict) (old opened text told new : List ℕ) → opened ≡ old ++ codes "\""
    → text ≡ verdict_text v → told ≡ opened ++ text → new ≡ told ++ codes "\""
    → new ≡ old ++ compact_text (string (verdict_text v))
verdict_written v old opened text told new a t b c =
    let whole : new ≡ old ++ (codes "\"" ++ (verdict_text v ++ codes "\"")) = rw (c, b, t, a) (simp append_assoc) in
    whole ∙ ap (λ s. old ++ s) (verdict_quoted v)

-- a key and its value are a member
pub member_written : (later : Bool) (k : List ℕ) (d : Data) (old keyed new : List ℕ)
    → keyed ≡ old ++ (comma_if later ++ (compact_text (string k) ++ codes ":")) → new ≡ keyed ++ compact_text d
    → WritesMembers later (member k d) old new
member_written later k d old keyed new e f = record { followed = λ ms. rw (f, e) (simp append_assoc) }

-- members, and then others
pub then_written : (later : Bool) (add more : Members → Members) (old mid new : List ℕ)
    → WritesMembers later add old mid → WritesMembers true more mid new
    → WritesMembers later (λ ms. add (more ms)) old new
then_written later add more old mid new a b = record { followed = λ ms. b.followed ms ∙ a.followed (more ms) }

-- an object: its members, the last of them with the brace that closes it
pub object_written : (add : Members → Members) (last : Members) (old opened mid new : List ℕ)
    → opened ≡ old ++ codes "{" → WritesMembers false add opened mid → new ≡ mid ++ members_text true last
    → new ≡ old ++ compact_text (object (add last))
object_written add last old opened mid new e a f =
    f ∙ a.followed last ∙ ap (λ s. s ++ members_text false (add last)) e ∙ append_assoc old (codes "{") _
