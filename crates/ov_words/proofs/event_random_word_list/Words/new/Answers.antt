-- All words are listed.
use Rattle.std.proofs.Common.{◌≡◌, ◌∙◌, ap, length, arith, rules}
use Rattle.std.proofs.lemmas.Grind.{common_steps}
use Rattle.ov_words.specs.Stream.{words_per_event}
use Rattle.ov_words.proofs.Made.{all_listed}
use Rattle.ov_words.proofs.event_random_word_list.Words.new.Goals as goal

pub returns-clause-value : goal.returns-clause-value
returns-clause-value c =
    let items : c.in-Ok.listed.items ≡ c.args.words = grind (arith, common_steps) in
    let many : length c.args.words ≡ words_per_event = search rules in
    all_listed c.in-Ok.listed.items c.from_state.result (ap length items ∙ many) ∙ items

pub returns-clause-count : goal.returns-clause-count
returns-clause-count c =
    let many : length c.args.words ≡ words_per_event = search rules in
    ap length (returns-clause-value c) ∙ many

pub invariant_of-result : goal.invariant_of-result
invariant_of-result c = returns-clause-count c
