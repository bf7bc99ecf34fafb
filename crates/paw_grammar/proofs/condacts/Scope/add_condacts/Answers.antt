use Rattle.std.proofs.Common.{length, ap, arith}
use Rattle.paw_grammar.specs.Condacts.{condacts_in, with_more_condacts}
use Rattle.paw_grammar.proofs.Skips.{skips, fails_here, goes_on, at_end}
use Rattle.paw_grammar.proofs.condacts.Scope.add_condacts.Goals as goal

pub returns-in-Err : goal.returns-in-Err
returns-in-Err c =
    record {
      gives = fails_here c.args.self.now.bounds c.args.self.now.words c.loop-name.rows.items c.in-Some.name.now c.next.new.self c.loop-name.tokens
          (with_more_condacts c.args.rows.now.items (condacts_in c.args.self.now.bounds c.args.self.now.words 0 c.args.tokens.now))
          c.in-Err.error c.in-Some.ensures.value c.loop-name.invariant c.in-Err.ensures.gives;
    }

pub loop-name-smaller : goal.loop-name-smaller
loop-name-smaller c =
    let gone = skips c.args.self.now.bounds c.args.self.now.words c.in-Some.name.now c.next.new.self c.condact.new.tokens
    c.in-Ok.condact c.in-Ok.ensures.gives in
    let left = gone.shorter in
    let next = ap length c.in-Some.ensures.value in
    omega (arith, left, next)

pub loop-name-preserved : goal.loop-name-preserved
loop-name-preserved c =
    goes_on c.args.self.now.bounds c.args.self.now.words c.loop-name.rows.items c.push.new.self.items c.in-Some.name.now
    c.next.new.self c.loop-name.tokens c.condact.new.tokens c.in-Ok.condact
    (with_more_condacts c.args.rows.now.items (condacts_in c.args.self.now.bounds c.args.self.now.words 0 c.args.tokens.now))
    c.in-Some.ensures.value c.loop-name.invariant c.in-Ok.ensures.gives c.in_ok-push-in-Ok.ensures.items

pub returns : goal.returns
returns c =
    record {
      gives = at_end c.args.self.now.bounds c.args.self.now.words c.loop-name.rows.items c.loop-name.tokens
          (with_more_condacts c.args.rows.now.items (condacts_in c.args.self.now.bounds c.args.self.now.words 0 c.args.tokens.now))
          c.in_default.ensures.value.0 c.loop-name.invariant;
    }
