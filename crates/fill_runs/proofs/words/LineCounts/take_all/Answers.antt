use Rattle.std.proofs.Common.{[], ◌∷◌, ◌++◌, get_or, take, sym, ap, ◌∙◌, subst, append_assoc, rules}
use Rattle.std.proofs.lemmas.List.{take_more, take_all}
use Rattle.fill_runs.specs.Tallies.{IsTallied}
use Rattle.fill_runs.proofs.words.LineCounts.take_all.Goals as goal

pub loop-byte-preserved : goal.loop-byte-preserved
loop-byte-preserved c = λ text is.
    let at = c.loop-byte.byte-index in
    let piece = c.args.piece.now in
    subst (λ t. IsTallied c.take.new.self.counts c.take.new.self.start.items t) (append_assoc text (take at piece) (get_or piece at 0 ∷ []) ∙ ap (λ t. text ++ t) (sym (take_more piece at 0 (search rules)))) (c.take.ensures (text ++ take at piece) (c.loop-byte.invariant text is))

pub returns : goal.returns
returns c = λ text is.
    subst (λ t. IsTallied c.loop-byte.self.counts c.loop-byte.self.start.items (text ++ t)) (take_all c.loop-byte.byte-index c.args.piece.now (search rules)) (c.loop-byte.invariant text is)
