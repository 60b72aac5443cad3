-- Names of keys and texts of verdicts are written as they are.
use Rattle.std.proofs.Common.{◌≡◌, ℕ, List, refl}
use Rattle.json.specs.Print.{escape}
use Rattle.json.proofs.OnLiterals.{json_on_literals}
use Rattle.ov_certfile.specs.Kinds.{name_of, verdict_text}
use Rattle.ov_certfile.specs.declared.file_keys.Key.{Key}
use Rattle.ov_certfile.specs.declared.file_keys.Key.TheVariants as key
use Rattle.ov_certfile.specs.declared.linked_or_split.Verdict.{Verdict}
use Rattle.ov_certfile.specs.declared.linked_or_split.Verdict.TheVariants as verdict

-- no name of a key has a character that is written otherwise in a text
name_kept : (k : Key) → escape (name_of k) ≡ name_of k
unfolding json_on_literals
name_kept key.K = refl
name_kept key.Links = refl
name_kept key.Moment = refl
name_kept key.Nodes = refl
name_kept key.Verdict = refl
name_kept key.Version = refl
name_kept key.Group = refl
name_kept key.Cut = refl
name_kept key.Near = refl
name_kept key.Far = refl
name_kept key.Side = refl
name_kept key.Pairs = refl
name_kept key.Fans = refl
name_kept key.I = refl
name_kept key.J = refl
name_kept key.Paths = refl

pub name_plain : (s : List ℕ) (k : Key) → s ≡ name_of k → escape s ≡ s
name_plain s k e = rw e (name_kept k)

-- nor has the text of a verdict
verdict_kept : (v : Verdict) → escape (verdict_text v) ≡ verdict_text v
unfolding json_on_literals
verdict_kept verdict.Linked = refl
verdict_kept verdict.Split = refl

pub verdict_plain : (s : List ℕ) (v : Verdict) → s ≡ verdict_text v → escape s ≡ s
verdict_plain s v e = rw e (verdict_kept v)
