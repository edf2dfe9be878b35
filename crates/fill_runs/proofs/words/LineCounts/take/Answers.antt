use Rattle.std.proofs.Common.{◌++◌, ◌∷◌, [], ap, sym, ◌∙◌, subst, take, arith, rules}
use Rattle.fill_runs.specs.Tallies.{IsTallied}
use Rattle.fill_runs.proofs.Counting.{start_ended}
use Rattle.fill_runs.proofs.Tallying.{tallied_more, tallied_full}
use Rattle.fill_runs.proofs.words.LineCounts.take.Goals as goal

-- the line ends, and is counted
pub returns-then-byte-eq10 : goal.returns-then-byte-eq10
returns-then-byte-eq10 c = λ text is.
    let ends = subst (λ b. IsTallied c.add.new.self c.clear.new.self.items (text ++ b ∷ [])) (sym c.if-byte-eq10.true) in
    ends record { counts = c.add.ensures text is.counts (c.deref.ensures.value ∙ is.begun); begun = c.clear.ensures.items ∙ sym (ap (take 6) (start_ended text)) }

pub returns-in-Ok : goal.returns-in-Ok
returns-in-Ok c = λ text is.
    subst (λ start. IsTallied c.args.self.now.counts start (text ++ c.args.byte ∷ [])) (sym c.in-Ok.ensures.items) (tallied_more _ c.args.self.now.start.items text c.args.byte (search rules) (omega (arith, c.if-len-lt6.true, c.len.ensures)) is)

pub returns-else-len-lt6 : goal.returns-else-len-lt6
returns-else-len-lt6 c = λ text is. tallied_full _ c.args.self.now.start.items text c.args.byte (search rules) (omega (arith, c.if-len-lt6.false, c.len.ensures)) is
