-- What each part says of the line.
use Rattle.std.proofs.lemmas.Bool.{both_ways}
use Rattle.ov_dump.proofs.Unread.{comma_first, comma_last, commas_behind, commas_between, no_text, one_name}
use Rattle.ov_dump.proofs.Unread.{third_word}
use Rattle.ov_dump.proofs.unread_edge_line_reason.why_unread.Goals as goal

pub returns-then-is_none : goal.returns-then-is_none
returns-then-is_none c =
    let parts = c.line_parts-parts in
    comma_first c.args.line.now parts.result.first.now parts.ensures.first c.requires
    (c.is_none.ensures.0 c.if-is_none.true)

pub returns-then-is_none-2 : goal.returns-then-is_none-2
returns-then-is_none-2 c =
    let parts = c.line_parts-parts in
    one_name c.args.line.now parts.result.first.now parts.result.next.now parts.ensures.first parts.ensures.next
    (λ e. both_ways _ c.if-is_none.false (c.is_none.ensures.1 e)) (c.is_none-2.ensures.0 c.if-is_none-2.true)

pub returns-then-is_none-3 : goal.returns-then-is_none-3
returns-then-is_none-3 c =
    let parts = c.line_parts-parts in
    commas_between c.args.line.now parts.result.next.now parts.result.second.now parts.ensures.next parts.ensures.second
    (λ e. both_ways _ c.if-is_none-2.false (c.is_none-2.ensures.1 e)) (c.is_none-3.ensures.0 c.if-is_none-3.true)

pub returns-then-is_none-4 : goal.returns-then-is_none-4
returns-then-is_none-4 c =
    let parts = c.line_parts-parts in
    no_text c.args.line.now parts.result.first.now parts.result.second.now parts.result.last.now
    (record {
      first_is = parts.ensures.first;
      second_is = parts.ensures.second;
      last_is = parts.ensures.last;
      first_some = λ e. both_ways _ c.if-is_none.false (c.is_none.ensures.1 e);
      second_some = λ e. both_ways _ c.if-is_none-3.false (c.is_none-3.ensures.1 e);
    }) c.requires (c.is_none-4.ensures.0 c.if-is_none-4.true)

pub returns-then-is_none-5 : goal.returns-then-is_none-5
returns-then-is_none-5 c =
    let parts = c.line_parts-parts in
    comma_last c.args.line.now parts.result.first.now parts.result.second.now parts.result.last.now parts.result.end.now
    c.behind_gap-further.result.now
    (record {
      first_is = parts.ensures.first;
      second_is = parts.ensures.second;
      last_is = parts.ensures.last;
      first_some = λ e. both_ways _ c.if-is_none.false (c.is_none.ensures.1 e);
      second_some = λ e. both_ways _ c.if-is_none-3.false (c.is_none-3.ensures.1 e);
    }) parts.ensures.end c.behind_gap-further.ensures (λ e. both_ways _ c.if-is_none-4.false (c.is_none-4.ensures.1 e))
    (c.is_none-5.ensures.0 c.if-is_none-5.true)

pub returns-then-is_none-6 : goal.returns-then-is_none-6
returns-then-is_none-6 c =
    let parts = c.line_parts-parts in
    commas_behind c.args.line.now parts.result.first.now parts.result.second.now parts.result.last.now
    parts.result.end.now c.behind_gap-further.result.now c.split_name.result.0.now
    (record {
      first_is = parts.ensures.first;
      second_is = parts.ensures.second;
      last_is = parts.ensures.last;
      first_some = λ e. both_ways _ c.if-is_none.false (c.is_none.ensures.1 e);
      second_some = λ e. both_ways _ c.if-is_none-3.false (c.is_none-3.ensures.1 e);
    }) parts.ensures.end c.behind_gap-further.ensures c.split_name.ensures.name
    (λ e. both_ways _ c.if-is_none-5.false (c.is_none-5.ensures.1 e)) (c.is_none-6.ensures.0 c.if-is_none-6.true)

pub returns : goal.returns
returns c =
    let parts = c.line_parts-parts in
    third_word c.args.line.now parts.result.first.now parts.result.second.now parts.result.last.now
    parts.result.end.now c.behind_gap-further.result.now c.split_name.result.0.now c.in_ok-word.word
    (record {
      first_is = parts.ensures.first;
      second_is = parts.ensures.second;
      last_is = parts.ensures.last;
      first_some = λ e. both_ways _ c.if-is_none.false (c.is_none.ensures.1 e);
      second_some = λ e. both_ways _ c.if-is_none-3.false (c.is_none-3.ensures.1 e);
    }) parts.ensures.end c.behind_gap-further.ensures c.split_name.ensures.name
    (λ e. both_ways _ c.if-is_none-5.false (c.is_none-5.ensures.1 e))
    (λ e. both_ways _ c.if-is_none-6.false (c.is_none-6.ensures.1 e)) c.in_ok-word.ensures
