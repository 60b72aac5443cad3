-- how the loop begins and ends, and that it counts no more line feeds than there are bytes
use Rattle.std.proofs.Common.{◌≡◌, ◌∙◌, ◌-◌, false, [], length, take, drop, ap, sym, subst, arith}
use Rattle.std.proofs.lemmas.List.{length-drop}
use Rattle.std.proofs.Math.Seq.{take-length}
use Rattle.ov_dot.specs.Tokens.{lexemes, sticks, kind_of}
use Rattle.ov_dot.proofs.Cutting.{SoFar, begun, feeds_le, done, unread, torn}
use Rattle.ov_dot.proofs.token_reading.read_tokens.Goals as goal

pub loop-rest-init : goal.loop-rest-init
loop-rest-init c =
    let text = c.args.text.now in
    let len = c.comment_len.result in
    let whole : take (length text - len) (drop len text) ≡ drop len text =
    ap (λ k. take k (drop len text)) (sym (length-drop len text)) ∙ take-length (drop len text) in
    subst (λ ts. SoFar text (lexemes ts) 0 (take (length text - len) (drop len text)) false)
    (sym c.new-tokens.ensures.items)
    (subst (λ r. SoFar text [] 0 r false) (sym whole) (begun text len c.comment_len.ensures))

pub overflow_add-feeds-in-loop-rest : goal.overflow_add-feeds-in-loop-rest
overflow_add-feeds-in-loop-rest c =
    let few = feeds_le c.split_at.result.0.now in
    let room = c.loop-rest.invariant.room in
    let counted = c.count_feeds-feeds.ensures in
    let front = c.split_at.ensures.front_len in
    let within = c.in-Some.ensures.within in
    omega arith

pub returns-in_default-clause-fault : goal.returns-in_default-clause-fault
returns-in_default-clause-fault c =
    unread c.args.text.now (lexemes c.loop-rest.tokens.items) c.loop-rest.feeds c.loop-rest.rest.now
    c.loop-rest.behind_word c.loop-rest.invariant (sym c.is_empty.ensures ∙ c.loop-rest-test.true) c.in_default.ensures

pub returns-then-sticks-clause-fault : goal.returns-then-sticks-clause-fault
returns-then-sticks-clause-fault c =
    torn c.args.text.now (lexemes c.loop-rest.tokens.items) c.loop-rest.feeds c.loop-rest.rest.now
    c.loop-rest.behind_word c.in-Some.len c.loop-rest.invariant c.in-Some.ensures c.if-behind_word.true
    (sym (c.if-sticks.ensures ∙ ap sticks (c.kind_of-kind.ensures ∙ ap kind_of c.split_at.ensures.front)))

pub returns-clause-tokens : goal.returns-clause-tokens
returns-clause-tokens c =
    done c.args.text.now (lexemes c.loop-rest.tokens.items) c.loop-rest.feeds c.loop-rest.rest.now
    c.loop-rest.behind_word c.loop-rest.invariant (sym c.is_empty.ensures ∙ c.loop-rest-test.false)
