-- A value with a heading meets all demands, except perhaps the last one, for the forms of its values.
use Rattle.std.proofs.Common.{◌≡◌, ◌∙◌, [], ◌∷◌, true, Option, Some, None, is_some, option_and_then, refl}
use Rattle.std.proofs.Common.{ap, codes}
use Rattle.serde_json.specs.Data.{Data}
use Rattle.serde_json.specs.Find.{get, as_object}
use Rattle.ov_certfile.specs.Keys.{has_no_other, said}
use Rattle.ov_certfile.specs.Kinds.{version_in, version_up_to, verdict_in, keys_of, names_of}
use Rattle.ov_certfile.specs.FaultKinds.{Kind, UnknownKey, BadValue, BadVersion}
use Rattle.ov_certfile.specs.Demands.{demands, first_unmet, unless, missing, misformed, wanted_keys}
use Rattle.ov_certfile.specs.Code.Reading.{IsHeaded}
use Rattle.ov_certfile.specs.declared.file_keys.Key.TheVariants as key
use Rattle.ov_certfile.specs.declared.version.Version.{Version}
use Rattle.ov_certfile.specs.declared.linked_or_split.Verdict.{Verdict}

there : {X : Type 0} (form : Data → Option X) (o : Option Data) (x : X) → option_and_then form o ≡ Some x
    → is_some o ≡ true
there form None x h = cc
there form (Some d) x h = refl

wanted : (version : Version) (verdict : Verdict) (d : Data) → said version_in (codes "version") d ≡ Some version
    → said verdict_in (codes "verdict") d ≡ Some verdict → wanted_keys d ≡ keys_of version verdict
wanted version verdict d v w = rw (v, w) refl

only_last : (x : Option Kind) → first_unmet (x ∷ []) ≡ x
only_last None = refl
only_last (Some kind) = refl

-- if all demands but the last are met, the last one decides
last_decides : (a b c e f g h last : Option Kind) → a ≡ None → b ≡ None → c ≡ None → e ≡ None → f ≡ None → g ≡ None
    → h ≡ None → first_unmet (a ∷ b ∷ c ∷ e ∷ f ∷ g ∷ h ∷ last ∷ []) ≡ last
last_decides a b c e f g h last p q r s t u v = rw (p, q, r, s, t, u, v) (only_last last)

-- the demands on a value with a heading: only the last is left
pub headed : (newest version : Version) (verdict : Verdict) (d : Data) → IsHeaded newest version verdict d
    → first_unmet (demands newest d) ≡ misformed (keys_of version verdict) d
unfolding demands
headed newest version verdict d h =
    let keys : wanted_keys d ≡ keys_of version verdict = wanted version verdict d h.version_said h.verdict_said in
    let version_there = there version_in (get (codes "version") d) version h.version_said in
    let verdict_there = there verdict_in (get (codes "verdict") d) verdict h.verdict_said in
    last_decides (unless (is_some (as_object d)) (BadValue None)) (missing (key.Version ∷ []) d)
    (unless (is_some (said (version_up_to newest) (codes "version") d)) BadVersion) (missing (key.Verdict ∷ []) d)
    (misformed (key.Verdict ∷ []) d) (missing (wanted_keys d) d)
    (unless (has_no_other (names_of (wanted_keys d)) d) UnknownKey) (misformed (wanted_keys d) d)
    (rw h.an_object refl) (rw version_there refl) (rw h.version_read refl) (rw verdict_there refl)
    (rw h.verdict_said refl) (ap (λ ks. missing ks d) keys ∙ h.all)
    (ap (λ ks. unless (has_no_other (names_of ks) d) UnknownKey) keys ∙ rw h.no_other refl)
    ∙ ap (λ ks. misformed ks d) keys
