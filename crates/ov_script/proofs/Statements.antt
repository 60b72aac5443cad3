-- What the lines of a script say, word by word.
use Rattle.std.proofs.Common.{◌≡◌, ◌∙◌, ◌<◌, ◌^◌, ℕ, true, false, nat_eq, List, [], ◌∷◌}
use Rattle.std.proofs.Common.{codes, decimal, Some, None, option_map, refl, ap, arith}
use Rattle.std.specs.List.{list_all, starts_with}
use Rattle.std.proofs.lemmas.Bool.{and_from}
use Rattle.ov_net.specs.declared.event.Event.{Event}
use Rattle.ov_net.specs.declared.event.Event.TheVariants as event
use Rattle.ov_ids.specs.Limits.{number_limit}
use Rattle.ov_ids.specs.ParamsState.{ParamsState, AreWithinLimits}
use Rattle.ov_ids.specs.RefillNames.{refill_name}
use Rattle.ov_ids.specs.declared.refill_rule.Refill.{Refill}
use Rattle.ov_ids.specs.declared.refill_rule.Refill.TheVariants.{Never, Alone, Always}
use Rattle.ov_ids.specs.Scales.{scale_name}
use Rattle.ov_ids.specs.declared.world_scale.Scale.{Scale}
use Rattle.ov_ids.specs.declared.world_scale.Scale.TheVariants.{Large, Profile}
use Rattle.ov_ids.specs.Options.{◌>>=◌}
use Rattle.ov_lines.specs.Lines.{behind_word, each_number, is_skipped, long_bits, number_within, short_bits, skips, two}
use Rattle.ov_lines.specs.Lines.{without_space}
use Rattle.ov_lines.proofs.Lines.Front.{all_joined, in_line}
use Rattle.ov_lines.proofs.Lines.Written.{id_read, id_word, is_word, numeral_read, numeral_word, word_clean}
use Rattle.ov_scenario.specs.Statements.{crash_report_of, seven, stated, statement_of, subject_at, timer_of}
use Rattle.ov_scenario.specs.Statements.{workers_named}
use Rattle.ov_scenario.specs.declared.statement.Statement.{Statement}
use Rattle.ov_scenario.specs.declared.statement.Statement.TheVariants as says
use Rattle.ov_script.specs.Acts.{act_line, event_of}
use Rattle.ov_script.specs.WrittenLines.{analysis_line, line_of, numerals, params_line, refill_line, scale_line}
use Rattle.ov_script.specs.WrittenLines.{seed_line, spaced}
use Rattle.ov_script.specs.Code.Writing.{IsShort}
use Rattle.ov_script.specs.declared.recordable_event.Act.{Act}
use Rattle.ov_script.specs.declared.recordable_event.Act.TheVariants as act
use Rattle.ov_script.proofs.Behind.{behind_two}
use Rattle.ov_script.proofs.OneLine.{spaced_clean}
use Rattle.ov_script.proofs.Splitting.{words_spaced}

-- a line says this: it stands on one line, is not skipped, and is read so
pub record Says (line : List ℕ) (x : Statement) : Type 0 where
  pub clean : list_all in_line line ≡ true
  pub kept : is_skipped line ≡ false
  pub says : statement_of line ≡ Some x

-- ---- numbers

-- numbers below 2^32
abbrev pub AreLow : List ℕ → Type 0
AreLow [] = Unit {0}
AreLow (n ∷ numbers) = (n < number_limit) × AreLow numbers

-- they are words
low_words : (numbers : List ℕ) → AreLow numbers → list_all is_word (numerals numbers) ≡ true
low_words [] low = refl
low_words (n ∷ numbers) low =
    and_from (is_word (decimal n)) (list_all is_word (numerals numbers)) (id_word n low.0)
    (low_words numbers low.1)

-- and are read back
low_read : (numbers : List ℕ) → AreLow numbers → each_number short_bits (numerals numbers) ≡ Some numbers
low_read [] low = refl
low_read (n ∷ numbers) low =
    ap (λ o. o >>= λ k. each_number short_bits (numerals numbers) >>= λ ks. Some (k ∷ ks)) (id_read n low.0)
    ∙ ap (λ o. o >>= λ ks. Some (n ∷ ks)) (low_read numbers low.1)

-- ---- lines

-- a line of a name and these words says what is stated by them
written :
    (name : List ℕ) (words : List (List ℕ)) (x : Statement) → is_word name ≡ true → list_all is_word words ≡ true
    → starts_with nat_eq name (codes "#") ≡ false → stated (line_of name words) (name ∷ words) ≡ Some x
    → Says (line_of name words) x
written name words x is are no_comment states =
    record {
      clean = all_joined in_line name (spaced words) (word_clean name is) (spaced_clean words are);
      kept = ap skips (words_spaced name words is are) ∙ no_comment;
      says = ap (stated (line_of name words)) (words_spaced name words is are) ∙ states;
    }

-- ---- acts

-- the statement of an event
abbrev happens : Event → Statement
happens e = says.Event e

boot_said : (n : ℕ) → n < number_limit → Says (act_line (act.Boot n None)) (happens (event.Boot n None))
unfolding act_line
boot_said n low =
    written (codes "boot") (numerals (n ∷ [])) (happens (event.Boot n None)) refl (low_words (n ∷ []) (low, tt)) refl
    (ap (λ o. option_map says.Event (o >>= λ a. Some (event.Boot a None))) (id_read n low))

boot_by_said :
    (n c : ℕ) → n < number_limit → c < number_limit
    → Says (act_line (act.Boot n (Some c))) (happens (event.Boot n (Some c)))
unfolding act_line
boot_by_said n c low other =
    let words : List (List ℕ) = decimal n ∷ codes "by" ∷ decimal c ∷ [] in
    let are : list_all is_word words ≡ true =
    and_from (is_word (decimal n)) (list_all is_word (codes "by" ∷ decimal c ∷ [])) (id_word n low)
    (and_from true (list_all is_word (decimal c ∷ [])) refl (low_words (c ∷ []) (other, tt))) in
    written (codes "boot") words (happens (event.Boot n (Some c))) refl are refl (
    ap (λ o. option_map says.Event (o >>= λ a. number_within short_bits (decimal c) >>= λ b.
    Some (event.Boot a (Some b)))) (id_read n low)
    ∙ ap (λ o. option_map says.Event (o >>= λ b. Some (event.Boot n (Some b)))) (id_read c other)
    )

deliver_said : (n : ℕ) → n < number_limit → Says (act_line (act.Deliver n)) (happens (event.Deliver n))
unfolding act_line
deliver_said n low =
    written (codes "deliver") (numerals (n ∷ [])) (happens (event.Deliver n)) refl (low_words (n ∷ []) (low, tt)) refl
    (ap (option_map (λ k. says.Event (event.Deliver k))) (id_read n low))

lose_said : (n : ℕ) → n < number_limit → Says (act_line (act.Lose n)) (happens (event.Lose n))
unfolding act_line
lose_said n low =
    written (codes "lose") (numerals (n ∷ [])) (happens (event.Lose n)) refl (low_words (n ∷ []) (low, tt)) refl
    (ap (option_map (λ k. says.Event (event.Lose k))) (id_read n low))

repeat_said : (n : ℕ) → n < number_limit → Says (act_line (act.Repeat n)) (happens (event.Repeat n))
unfolding act_line
repeat_said n low =
    written (codes "repeat") (numerals (n ∷ [])) (happens (event.Repeat n)) refl (low_words (n ∷ []) (low, tt)) refl
    (ap (option_map (λ k. says.Event (event.Repeat k))) (id_read n low))

crash_said : (n : ℕ) → n < number_limit → Says (act_line (act.Crash n)) (happens (event.Crash n))
unfolding act_line
crash_said n low =
    written (codes "crash") (numerals (n ∷ [])) (happens (event.Crash n)) refl (low_words (n ∷ []) (low, tt)) refl
    (ap (option_map (λ k. says.Event (event.Crash k))) (id_read n low))

report_said :
    (n c : ℕ) → n < number_limit → c < number_limit
    → Says (act_line (act.CrashReport n c)) (happens (event.CrashReport n c))
unfolding act_line
report_said n c low other =
    written (codes "report") (numerals (n ∷ c ∷ [])) (happens (event.CrashReport n c)) refl
    (low_words (n ∷ c ∷ []) (low, (other, tt))) refl (
    ap (λ o. option_map (λ p. says.Event (crash_report_of p)) (o >>= λ a. number_within short_bits (decimal c)
    >>= λ b. Some (a, b))) (id_read n low)
    ∙ ap (λ o. option_map (λ p. says.Event (crash_report_of p)) (o >>= λ b. Some (n, b))) (id_read c other)
    )

shuffle_said : (n : ℕ) → n < number_limit → Says (act_line (act.Shuffle n)) (happens (event.Shuffle n))
unfolding act_line
shuffle_said n low =
    written (codes "shuffle") (numerals (n ∷ [])) (happens (event.Shuffle n)) refl (low_words (n ∷ []) (low, tt)) refl
    (ap (option_map (λ k. says.Event (event.Shuffle k))) (id_read n low))

broadcast_said : (n : ℕ) → n < number_limit → Says (act_line (act.Broadcast n)) (happens (event.Broadcast n []))
unfolding act_line
broadcast_said n low =
    let line : List ℕ = line_of (codes "broadcast") (numerals (n ∷ [])) in
    written (codes "broadcast") (numerals (n ∷ [])) (happens (event.Broadcast n [])) refl
    (low_words (n ∷ []) (low, tt)) refl (
    ap (λ o. option_map says.Event (o >>= λ a. Some (event.Broadcast a (without_space (behind_word
    (behind_word line)))))) (id_read n low)
    ∙ ap (λ t. Some (says.Event (event.Broadcast n (without_space t))))
    (behind_two (codes "broadcast") (decimal n) refl (id_word n low))
    )

timer_said :
    (n origin seq : ℕ) → n < number_limit → origin < number_limit → seq < number_limit
    → Says (line_of (codes "timer") (numerals (n ∷ origin ∷ seq ∷ [])))
    (happens (event.Timer n (record { origin = origin; seq = seq })))
timer_said n origin seq low other last =
    written (codes "timer") (numerals (n ∷ origin ∷ seq ∷ []))
    (happens (event.Timer n (record { origin = origin; seq = seq }))) refl
    (low_words (n ∷ origin ∷ seq ∷ []) (low, (other, (last, tt)))) refl (
    ap (λ o. option_map (λ p. says.Event (timer_of p)) (o >>= λ a. two (numerals (origin ∷ seq ∷ []))
    >>= λ b. Some (a, b))) (id_read n low)
    ∙ ap (λ o. option_map (λ p. says.Event (timer_of p)) ((o >>= λ a. number_within short_bits (decimal seq)
    >>= λ b. Some (a, b)) >>= λ b. Some (n, b))) (id_read origin other)
    ∙ ap (λ o. option_map (λ p. says.Event (timer_of p)) ((o >>= λ b. Some (origin, b)) >>= λ b. Some (n, b)))
    (id_read seq last)
    )

snapshot_said : Says (act_line act.Snapshot) (happens event.Snapshot)
unfolding act_line
snapshot_said = written (codes "snapshot") [] (happens event.Snapshot) refl refl refl refl

-- the line of an act says its event
pub act_said : (a : Act) → IsShort a → Says (act_line a) (says.Event (event_of a))
unfolding act_line
act_said (act.Boot node None) low = boot_said node low
act_said (act.Boot node (Some contact)) low = boot_by_said node contact low.0 low.1
act_said (act.Deliver place) low = deliver_said place low
act_said (act.Lose place) low = lose_said place low
act_said (act.Repeat place) low = repeat_said place low
act_said (act.Crash node) low = crash_said node low
act_said (act.CrashReport node crashed) low = report_said node crashed low.0 low.1
act_said (act.Shuffle node) low = shuffle_said node low
act_said (act.Broadcast node) low = broadcast_said node low
act_said (act.Timer node id) low = timer_said node id.origin id.seq low.0 low.1 low.2
act_said act.Snapshot low = snapshot_said

-- ---- the other lines

pub analysis_said :
    (moment : ℕ) → moment < number_limit
    → Says (analysis_line moment) (says.Analyse (record { moment = moment; group = None }) None)
unfolding analysis_line
analysis_said moment low =
    written (codes "analyse") (numerals (moment ∷ []))
    (says.Analyse (record { moment = moment; group = None }) None) refl (low_words (moment ∷ []) (low, tt)) refl
    (ap (λ o. o >>= λ a. workers_named [] >>= λ p. option_map (λ s. says.Analyse s p.0) (subject_at a p.1))
    (id_read moment low))

-- the numbers of parameters
abbrev pub numbers_of : ParamsState → List ℕ
numbers_of p = p.active ∷ p.passive ∷ p.arwl ∷ p.prwl ∷ p.ka ∷ p.kp ∷ p.shuffle_ttl ∷ []

limits_low : (p : ParamsState) → AreWithinLimits p → AreLow (numbers_of p)
limits_low p w = (
  omega (arith, w.active_high),
  (
    omega (arith, w.passive_high),
    (
      omega (arith, w.arwl_high),
      (
        omega (arith, w.prwl_high, w.arwl_high),
        (omega (arith, w.ka_high), (omega (arith, w.kp_high), (omega (arith, w.shuffle_ttl_high), tt))),
      ),
    ),
  ),
)

pub params_said : (p : ParamsState) → AreWithinLimits p → Says (params_line p) (says.Params (numbers_of p))
unfolding params_line
params_said p within =
    let low = limits_low p within in
    written (codes "params") (numerals (numbers_of p)) (says.Params (numbers_of p)) refl
    (low_words (numbers_of p) low) refl
    (ap (λ o. option_map says.Params (o >>= seven)) (low_read (numbers_of p) low))

pub seed_said : (seed : ℕ) → seed < 2 ^ 64 → Says (seed_line seed) (says.Seed seed)
unfolding seed_line
seed_said seed fits =
    written (codes "seed") (numerals (seed ∷ [])) (says.Seed seed) refl
    (and_from (is_word (decimal seed)) true (numeral_word seed fits) refl) refl
    (ap (option_map says.Seed) (numeral_read long_bits seed fits fits))

pub refill_said : (rule : Refill) → Says (refill_line rule) (says.Refill rule)
unfolding refill_line
refill_said Never = written (codes "refill") (refill_name Never ∷ []) (says.Refill Never) refl refl refl refl
refill_said Alone = written (codes "refill") (refill_name Alone ∷ []) (says.Refill Alone) refl refl refl refl
refill_said Always = written (codes "refill") (refill_name Always ∷ []) (says.Refill Always) refl refl refl refl

pub scale_said : (scale : Scale) → Says (scale_line scale) (says.Scale scale)
unfolding scale_line
scale_said Profile = written (codes "scale") (scale_name Profile ∷ []) (says.Scale Profile) refl refl refl refl
scale_said Large = written (codes "scale") (scale_name Large ∷ []) (says.Scale Large) refl refl refl refl
