-- How the lines of a script are written: words with one space between two, and a line feed behind the last. That they
-- are written in this way is chosen here.
use Rattle.std.specs.Prelude.{ℕ, ◌==◌, ◌||◌, List, [], ◌∷◌, ◌++◌, map, codes, decimal, if◌then◌else◌}
use Rattle.ov_ids.specs.ParamsState.{ParamsState}
use Rattle.ov_ids.specs.RefillNames.{refill_name}
use Rattle.ov_ids.specs.declared.refill_rule.Refill.{Refill}
use Rattle.ov_ids.specs.declared.refill_rule.Refill.TheVariants.{Never}
use Rattle.ov_ids.specs.Scales.{scale_name}
use Rattle.ov_ids.specs.declared.world_scale.Scale.{Scale}
use Rattle.ov_ids.specs.declared.world_scale.Scale.TheVariants.{Profile}

-- each of these words, with a space before it
unfoldable pub spaced : List (List ℕ) → List ℕ
spaced [] = []
spaced (word ∷ more) = 32 ∷ word ++ spaced more

-- a line that begins with this name, and has these words after it
abbrev pub line_of : List ℕ → List (List ℕ) → List ℕ
line_of name words = name ++ spaced words

-- a line with its line feed
abbrev pub ended : List ℕ → List ℕ
ended line = line ++ 10 ∷ []

-- the words of these numbers
abbrev pub numerals : List ℕ → List (List ℕ)
numerals numbers = map decimal numbers

-- the line of these parameters
unfoldable pub params_line : ParamsState → List ℕ
params_line p =
    line_of (codes "params")
    (numerals (p.active ∷ p.passive ∷ p.arwl ∷ p.prwl ∷ p.ka ∷ p.kp ∷ p.shuffle_ttl ∷ []))

-- the line of this seed
unfoldable pub seed_line : ℕ → List ℕ
seed_line seed = line_of (codes "seed") (numerals (seed ∷ []))

-- the line of this rule at DISCONNECT
unfoldable pub refill_line : Refill → List ℕ
refill_line rule = line_of (codes "refill") (refill_name rule ∷ [])

-- the line of this rule with its line feed, or nothing if it is the profile's rule
unfoldable pub rule_text : Refill → List ℕ
rule_text Never = []
rule_text rule = ended (refill_line rule)

-- the line of this scale
unfoldable pub scale_line : Scale → List ℕ
scale_line scale = line_of (codes "scale") (scale_name scale ∷ [])

-- the line of this scale with its line feed, or nothing if it is the profile's
unfoldable pub scale_text : Scale → List ℕ
scale_text Profile = []
scale_text scale = ended (scale_line scale)

-- the line that analyses a moment, for all nodes and by one worker
unfoldable pub analysis_line : ℕ → List ℕ
analysis_line moment = line_of (codes "analyse") (numerals (moment ∷ []))

-- a space for a line feed and for a carriage return, and the same byte for any other
abbrev pub within_line : ℕ → ℕ
within_line b = if (b == 10) || (b == 13) then 32 else b

-- the comment that says this, on one line
unfoldable pub comment_line : List ℕ → List ℕ
comment_line said = codes "# " ++ map within_line said
