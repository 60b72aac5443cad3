-- the dump that is made is that of a file
use Rattle.std.proofs.Common.{sym, subst}
use Rattle.ov_dot.specs.Tokens.{lexemes, HasTokens}
use Rattle.ov_dot.specs.Code.Seen.{said_in}
use Rattle.ov_dot.proofs.Refusing.{dump_said}
use Rattle.ov_dot.proofs.dot_reading.read_dot.Goals as goal

pub returns-clause-dump : goal.returns-clause-dump
returns-clause-dump c =
    dump_said c.args.text.now (lexemes c.deref.result.now) (said_in c.in_ok-said.said) c.make_dump.result
    (subst (λ ts. HasTokens c.args.text.now (lexemes ts)) (sym c.deref.ensures.value) c.in_ok-tokens.ensures.tokens)
    c.in_ok-said.ensures c.make_dump.ensures.dump
