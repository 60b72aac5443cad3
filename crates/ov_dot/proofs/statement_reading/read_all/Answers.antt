-- one token more, a token that is refused, and the end
use Rattle.std.proofs.lemmas.Result.{err_from_is_err_and}
use Rattle.std.proofs.Common.{◌≡◌, ◌+◌, Ok, drop, sym, subst, arith}
use Rattle.ov_dot.specs.Tokens.{lexemes}
use Rattle.ov_dot.specs.Code.Statements.{read_on, statements_of}
use Rattle.ov_dot.specs.Code.Seen.{reading, said_in, Gives}
use Rattle.ov_dot.proofs.Stepping.{refused_at, passed_at, at_end}
use Rattle.ov_dot.proofs.statement_reading.read_all.Goals as goal

pub returns-in_err-next : goal.returns-in_err-next
returns-in_err-next c =
    let p = err_from_is_err_and c.from_residual.result c.from_residual.ensures.1 in
    rw (p.1, p.2)
    (refused_at c.args.tokens.now c.loop-token.token-index _ (reading c.loop-token.reader) (said_in c.loop-token.said)
    (statements_of (lexemes c.args.tokens.now)) _ (omega arith) c.loop-token.invariant.left c.in_err-next.ensures.step)

pub loop-token-preserved : goal.loop-token-preserved
loop-token-preserved c =
    let depth = c.in_ok-next.ensures.depth in
    let shallow = c.loop-token.invariant.shallow in
    record {
      left =
          subst
          (λ s. read_on (Ok (reading c.in_ok-next.next)) s (lexemes (drop
          (c.loop-token.token-index + 1) c.args.tokens.now))
          ≡ statements_of (lexemes c.args.tokens.now))
          (sym c.in_ok-tell.ensures.told)
          (passed_at c.args.tokens.now c.loop-token.token-index _ (reading c.loop-token.reader)
          (reading c.in_ok-next.next)
          (said_in c.loop-token.said) (statements_of (lexemes c.args.tokens.now))
          (omega arith) c.loop-token.invariant.left
          c.in_ok-next.ensures.step);
      shallow = omega arith;
    }

pub returns : goal.returns
returns c =
    let said = said_in c.loop-token.said in
    subst (λ x. Gives (λ _. said) c.end.result x)
    (at_end c.args.tokens.now c.loop-token.token-index (reading c.loop-token.reader) said
    (statements_of (lexemes c.args.tokens.now)) (omega arith) c.loop-token.invariant.left)
    (c.end.ensures said)
