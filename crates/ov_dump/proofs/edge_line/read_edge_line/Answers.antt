-- What each part says of the line.
use Rattle.std.proofs.lemmas.Bool.{both_ways}
use Rattle.ov_dump.proofs.Lines.{edge_read, err_given, first_unread, is_blank_line, lacks_first, lacks_second}
use Rattle.ov_dump.proofs.Lines.{left_over, second_unread}
use Rattle.ov_dump.proofs.edge_line.read_edge_line.Goals as goal

pub returns-then-is_none : goal.returns-then-is_none
returns-then-is_none c =
    let parts = c.line_parts-parts in
    is_blank_line c.args.line.now parts.result.text.now parts.ensures.text (c.is_none.ensures.0 c.if-is_none.true)

pub returns-then-not-is_none : goal.returns-then-not-is_none
returns-then-not-is_none c =
    let parts = c.line_parts-parts in
    left_over c.args.line.now parts.result.text.now parts.result.last.now parts.ensures.text parts.ensures.last
    (λ e. both_ways _ c.if-is_none.false (c.is_none.ensures.1 e))
    (λ e. both_ways _ c.if-not-is_none.true (c.is_none-2.ensures.1 e))

pub returns-then-is_none-2 : goal.returns-then-is_none-2
returns-then-is_none-2 c =
    let parts = c.line_parts-parts in
    lacks_first c.args.line.now parts.result.text.now parts.result.first.now parts.ensures.text parts.ensures.first
    (λ e. both_ways _ c.if-is_none.false (c.is_none.ensures.1 e)) (c.is_none-3.ensures.0 c.if-is_none-2.true)

pub returns-then-is_none-3 : goal.returns-then-is_none-3
returns-then-is_none-3 c =
    let parts = c.line_parts-parts in
    lacks_second c.args.line.now parts.result.text.now parts.result.second.now parts.ensures.text parts.ensures.second
    (λ e. both_ways _ c.if-is_none.false (c.is_none.ensures.1 e)) (c.is_none-4.ensures.0 c.if-is_none-3.true)

pub returns-in_default : goal.returns-in_default
returns-in_default c =
    let parts = c.line_parts-parts in
    first_unread c.args.line.now parts.result.text.now parts.result.first.now parts.ensures.text parts.ensures.first
    (λ e. both_ways _ c.if-is_none.false (c.is_none.ensures.1 e))
    (err_given c.from_utf8.result _ _ _ c.from_utf8.ensures.cases c.in_default.not-Ok (λ y q. q.0))

pub returns-in_default-from_utf8 : goal.returns-in_default-from_utf8
returns-in_default-from_utf8 c =
    let parts = c.line_parts-parts in
    second_unread c.args.line.now parts.result.text.now parts.result.second.now parts.ensures.text parts.ensures.second
    (λ e. both_ways _ c.if-is_none.false (c.is_none.ensures.1 e))
    (err_given c.from_utf8-2.result _ _ _ c.from_utf8-2.ensures.cases c.in_default-from_utf8.not-Ok (λ y q. q.0))

pub returns : goal.returns
returns c =
    let parts = c.line_parts-parts in
    let first = c.in-Ok.ensures.cases in
    let second = c.in-Ok-from_utf8.ensures.cases in
    edge_read c.args.line.now parts.result.first.now parts.result.second.now parts.result.last.now
    c.in-Ok.first.now c.in-Ok-from_utf8.second.now parts.ensures.first parts.ensures.second parts.ensures.last
    (c.is_none-2.ensures.0 c.if-not-is_none.false) (λ e. both_ways _ c.if-is_none-2.false (c.is_none-3.ensures.1 e))
    (λ e. both_ways _ c.if-is_none-3.false (c.is_none-4.ensures.1 e)) first.0 first.1 second.0 second.1
